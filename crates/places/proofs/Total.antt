-- The use sets hold each live use once: their lengths add up to the number of live uses. Assumes nothing.
use mathlib.Core.Path.{◌≡◌, refl, sym, ap, ap₂, ◌∙◌}
use mathlib.Core.Logic.{◌≢◌, by_cases, ◌⊎◌, inl, inr, ⊎_elim}
use mathlib.Core.List.{List, [], ◌∷◌, ◌++◌, map}
use mathlib.Core.Option.{some}
use native.Mathlib.Decide.{ℕ_discrete}
use native.Mathlib.Omega.{arith}
use Prim.Native.Nat.{ℕ, ◌+◌, ◌<◌}
use lib.ListN.{length}
use Rattle.seqs.specs.Seqs.{tick, count, In, sum, upto}
use Rattle.places.specs.Store.{Kind, blk, val, usg, Role, value_uses, block_uses, Fam, use_sets, fam, node_of, holder_of, Thing, Thing-dec, Con, Con-dec, State, alive, Live, Link, Linked, owns, Fit, UseHeld, Sound}
use Rattle.seqs.proofs.Base.{count_append, rises_once}
use Rattle.seqs.proofs.Sums.{sum_on, sum_one, sum_append, length_count, sum_swap, sum_map, count_map, count_none, count_upto, in_map}
use Rattle.places.proofs.Steps.{listed}

-- the lists cs, of one family, hold each live thing of the kind k once
module _ {P : State} (S : Linked P) (k : Kind) (f : Fam) (cs : List Con) (family : (c : Con) → In Con-dec c cs → fam c.0 ≡ f) (kind : (c : Con) → In Con-dec c cs → node_of c.0 ≡ k)
    (home : (p : ℕ) → Live P (k, p) → (c : Con) × (P.own (k, p) f ≡ some c) × (count Con-dec c cs ≡ 1)) where
  nodes : List Thing
  nodes = map (λ p. (k, p)) (P.tab k).order

  count_nodes : (p : ℕ) → count Thing-dec (k, p) nodes ≡ alive P (k, p)
  unfolding nodes alive
  count_nodes p = count_map ℕ_discrete Thing-dec (λ m. (k, m)) (λ x y e. ap (λ (a : Thing). a.1) e) p (P.tab k).order

  once_in : (c : Con) → In Con-dec c cs → (x : Thing) → In Thing-dec x (P.list c.1 c.0) → count Thing-dec x nodes ≡ 1
  unfolding alive
  once_in c i x h =
      let L : Link P x (fam c.0) c = S.link x (fam c.0) c (listed S x c.1 c.0 h) in
      let e : x.0 ≡ k = L.node ∙ kind c i in
      let l : Live P (k, x.1) = rw e at L.live in
      rw (thing x e) (count_nodes x.1 ∙ rises_once (P.tab k).num (P.tab k).order (S.tabs k).rises x.1 l)
    where
      thing : (x : Thing) → x.0 ≡ k → x ≡ (k, x.1)
      thing x e = λ j. (e j, x.1)

  homes : (p : ℕ) → Live P (k, p) → sum (λ c. owns (P.own (k, p) f) c) cs ≡ 1
  unfolding owns
  homes p l = let h : (c : Con) × (P.own (k, p) f ≡ some c) × (count Con-dec c cs ≡ 1) = home p l in
      rw h.1 (sum_flip h.0 cs ∙ h.2)
    where
      sum_flip : (b : Con) (l : List Con) → sum (λ c. tick (Con-dec b c)) l ≡ count Con-dec b l
      sum_flip b [] = refl
      sum_flip b (c ∷ l) = omega (arith, sum_flip b l)

  pub total : sum (λ c. length (P.list c.1 c.0)) cs ≡ length (P.tab k).order
  unfolding nodes alive
  total =
      sum_on Con-dec (λ c. length (P.list c.1 c.0)) (λ c. sum (λ x. owns (P.own x f) c) nodes) cs
      (λ c i. length_count Thing-dec (P.list c.1 c.0) nodes (once_in c i) ∙ sum_on Thing-dec (λ x. count Thing-dec x (P.list c.1 c.0)) (λ x. owns (P.own x f) c) nodes (λ x j. rw (← family c i) (S.held c.0 c.1 x)))
      ∙ sum_swap (λ c x. owns (P.own x f) c) cs nodes
      ∙ sum_map (λ x. sum (λ c. owns (P.own x f) c) cs) (λ p. (k, p)) (P.tab k).order
      ∙ sum_on ℕ_discrete (λ p. sum (λ c. owns (P.own (k, p) f) c) cs) (λ p. 1) (P.tab k).order homes
      ∙ sum_one (P.tab k).order

def_role_lem : {r d : Role} → Fit r d → (d ≡ value_uses) ⊎ (d ≡ block_uses)
def_role_lem Fit.operand = inl refl
def_role_lem Fit.successor = inr refl

value≢block : value_uses ≢ block_uses
value≢block e = let z : ◌≡◌ {A = ℕ} 0 1 = cc in omega arith

module _ {P : State} (S : Sound P) where
  abbrev value_set_of : ℕ → Con
  value_set_of v = (value_uses, (val, v))

  abbrev block_set : ℕ → Con
  block_set b = (block_uses, (blk, b))

  sets : List Con
  sets = map value_set_of (upto (P.tab val).cap) ++ map block_set (upto (P.tab blk).cap)

  in_sets : (c : Con) → In Con-dec c sets → (c.0 ≡ value_uses) ⊎ (c.0 ≡ block_uses)
  unfolding sets
  in_sets c h =
      by_cases (ℕ_discrete (count Con-dec c (map value_set_of (upto (P.tab val).cap))) 0)
      (λ z. inr (ap (λ (d : Con). d.0) (in_map Con-dec block_set c (upto (P.tab blk).cap) (omega (arith, count_append Con-dec c (map value_set_of (upto (P.tab val).cap)) (map block_set (upto (P.tab blk).cap))))).1))
      (λ z. inl (ap (λ (d : Con). d.0) (in_map Con-dec value_set_of c (upto (P.tab val).cap) (omega arith)).1))

  count_value : (v : ℕ) → v < (P.tab val).cap → count Con-dec (value_set_of v) sets ≡ 1
  unfolding sets
  count_value v h = omega (arith, count_append Con-dec (value_set_of v) (map value_set_of (upto (P.tab val).cap)) (map block_set (upto (P.tab blk).cap)), count_map ℕ_discrete Con-dec value_set_of (λ x y e. ap (λ (d : Con). d.1.1) e) v (upto (P.tab val).cap), count_upto v (P.tab val).cap h, count_none Con-dec block_set (value_set_of v) (λ x e. value≢block (ap (λ (d : Con). d.0) e)) (upto (P.tab blk).cap))

  count_block : (b : ℕ) → b < (P.tab blk).cap → count Con-dec (block_set b) sets ≡ 1
  unfolding sets
  count_block b h = omega (arith, count_append Con-dec (block_set b) (map value_set_of (upto (P.tab val).cap)) (map block_set (upto (P.tab blk).cap)), count_map ℕ_discrete Con-dec block_set (λ x y e. ap (λ (d : Con). d.1.1) e) b (upto (P.tab blk).cap), count_upto b (P.tab blk).cap h, count_none Con-dec value_set_of (block_set b) (λ x e. value≢block (sym (ap (λ (d : Con). d.0) e))) (upto (P.tab val).cap))

  set_once : (r : Role) (k : Kind) (p : ℕ) → (r ≡ value_uses) ⊎ (r ≡ block_uses) → k ≡ holder_of r → Live P (k, p) → count Con-dec (r, (k, p)) sets ≡ 1
  unfolding alive
  set_once r k p (inl e) h l = let k' : k ≡ val = h ∙ ap holder_of e in rw (e, k') (count_value p ((S.linked.tabs val).fits p (rw k' at l)))
  set_once r k p (inr e) h l = let k' : k ≡ blk = h ∙ ap holder_of e in rw (e, k') (count_block p ((S.linked.tabs blk).fits p (rw k' at l)))

  def_home : (p : ℕ) → Live P (usg, p) → (c : Con) × (P.own (usg, p) use_sets ≡ some c) × (count Con-dec c sets ≡ 1)
  def_home p l =
      let H : UseHeld (P.own (usg, p)) = S.placed (usg, p) l in
      let L : Link P (usg, p) use_sets H.def = S.linked.link (usg, p) use_sets H.def H.in_def in
      (H.def, H.in_def, set_once H.def.0 H.def.1.0 H.def.1.1 (def_role_lem H.fit) L.holder L.home)

  pub uses_total : sum (λ v. length (P.list (val, v) value_uses)) (upto (P.tab val).cap) + sum (λ b. length (P.list (blk, b) block_uses)) (upto (P.tab blk).cap) ≡ length (P.tab usg).order
  unfolding sets
  uses_total =
      sym (sum_append (λ c. length (P.list c.1 c.0)) (map value_set_of (upto (P.tab val).cap)) (map block_set (upto (P.tab blk).cap))
      ∙ ap₂ ◌+◌ (sum_map (λ c. length (P.list c.1 c.0)) value_set_of (upto (P.tab val).cap)) (sum_map (λ c. length (P.list c.1 c.0)) block_set (upto (P.tab blk).cap)))
      ∙ total S.linked usg use_sets sets (λ c i. ⊎_elim (λ e. ap fam e) (λ e. ap fam e) (in_sets c i)) (λ c i. ⊎_elim (λ e. ap node_of e) (λ e. ap node_of e) (in_sets c i)) def_home
