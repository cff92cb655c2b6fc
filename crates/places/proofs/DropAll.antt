-- Dropping a nest: the uses end one after the other; the store is then the one without them. Assumes nothing.
use mathlib.Core.Path.{◌≡◌, refl, sym, ap, ap₂, ◌∙◌, subst}
use mathlib.Core.Logic.{◌≢◌, by_cases, ◌⊎◌, inl, inr, ⊎_elim}
use mathlib.Core.List.{List, [], ◌∷◌, ◌++◌}
use mathlib.Core.Option.{Option, none, some}
use native.Mathlib.Omega.{arith}
use Prim.Native.Nat.{ℕ, ◌+◌, ◌<◌, ◌≤◌}
use Rattle.seqs.specs.Seqs.{tick, count, In, sum}
use Rattle.places.specs.Store.{usg, Role, operands, successors, value_uses, block_uses, results, arguments, regions, ops, blocks, Fam, slots, use_sets, vals, regs, ops_in, blocks_in, fam, node_of, Thing, Thing-dec, Con, Con-dec, State, Live, Link, Linked, owns, outer, UseHeld, Sound}
use Rattle.places.specs.Walk.{over, among, cut_all, walk, place_uses_at, drop_list, dropped, end_use_by, end_use_at, place_end_uses}
use Rattle.seqs.proofs.Base.{tick_yes, tick_no, tick_pos, in_head, in_tail, count_append}
use Rattle.places.proofs.Steps.{thing_eq}
use Rattle.places.proofs.Placing.{use_holds_nothing}
use Rattle.seqs.proofs.Sums.{sum_on, sum_zero}
use Rattle.places.proofs.Cut.{cut_append, cut_nothing, Closed, cut_sound, alive_cut_0}
use Rattle.places.proofs.Cuts.{one_no, end_use_cut}
use Rattle.places.proofs.Nest.{up_to, count_gather, walk_once}

-- ---- uses end one after another

-- only uses, all live, none twice
pub record UseList (P : State) (l : List Thing) : Type 0 where
  pub kind : (x : Thing) → In Thing-dec x l → x.0 ≡ usg
  pub live : (x : Thing) → In Thing-dec x l → Live P x
  pub once : (x : Thing) → count Thing-dec x l ≤ 1

-- what holds a use is not a use
pub uses_closed : {P : State} → Linked P → (l : List Thing) → ((x : Thing) → In Thing-dec x l → x.0 ≡ usg) → Closed (among l) P
uses_closed {P} S l is x f c e h = absurd (use_holds_nothing c.0 (sym (is c.1 h) ∙ (S.link x f c e).holder))

end_use_at_cut : {P : State} → Sound P → (x : Thing) → x.0 ≡ usg → Live P x → end_use_at x P ≡ cut_all (x ∷ []) P
end_use_at_cut {P} S x k h =
    subst (λ (y : Thing). end_use_at y P ≡ cut_all (y ∷ []) P) (sym is) (ap₂ (λ (s d : Option Con). end_use_by s d (usg, x.1) P) H.in_slot H.in_def ∙ end_use_cut S x.1 live H)
  where
    is : x ≡ (usg, x.1)
    is = thing_eq x (usg, x.1) k refl

    live : Live P (usg, x.1)
    live = subst (λ (y : Thing). Live P y) is h

    H : UseHeld (P.own (usg, x.1))
    H = S.placed (usg, x.1) live

module _ {P : State} (S : Sound P) (x : Thing) (l : List Thing) (U : UseList P (x ∷ l)) where
  abbrev P₁ : State
  P₁ = cut_all (x ∷ []) P

  S₁ : Sound P₁
  S₁ = cut_sound (among (x ∷ [])) P (uses_closed S.linked (x ∷ []) (λ y i. ap (λ (t : Thing). t.0) (tick_pos (Thing-dec y x) (omega arith)) ∙ U.kind x (in_head Thing-dec x l))) S

  other : (y : Thing) → In Thing-dec y l → y ≢ x
  other y i e = absurd (omega (arith, U.once y, tick_yes (Thing-dec y x) e))

  U₁ : UseList P₁ l
  U₁ = record { kind = λ y i. U.kind y (in_tail Thing-dec y x l i); live = λ y i. omega (arith, U.live y (in_tail Thing-dec y x l i), alive_cut_0 (among (x ∷ [])) P y (one_no x y (other y i))); once = λ y. omega (arith, U.once y) }

  turn : (place_end_uses l P₁ ≡ cut_all l P₁) × Sound (cut_all l P₁) → (place_end_uses (x ∷ l) P ≡ cut_all (x ∷ l) P) × Sound (cut_all (x ∷ l) P)
  turn rest = (ap (place_end_uses l) (end_use_at_cut S x (U.kind x (in_head Thing-dec x l)) (U.live x (in_head Thing-dec x l))) ∙ rest.0 ∙ cut_append (x ∷ []) l P, subst (λ (Q : State). Sound Q) (cut_append (x ∷ []) l P) rest.1)

pub end_uses_cut : (l : List Thing) {P : State} → Sound P → UseList P l → (place_end_uses l P ≡ cut_all l P) × Sound (cut_all l P)
end_uses_cut [] {P} S U = (sym (cut_nothing P), subst (λ (Q : State). Sound Q) (sym (cut_nothing P)) S)
end_uses_cut (x ∷ l) {P} S U = turn S x l U (end_uses_cut l (S₁ S x l U) (U₁ S x l U))

-- ---- the uses inside

unfoldable pub fam_code : Fam → ℕ
fam_code = elim [ slots ↦ 0 | use_sets ↦ 1 | vals ↦ 2 | regs ↦ 3 | ops_in ↦ 4 | blocks_in ↦ 5 ]

unfoldable pub role_code : Role → ℕ
role_code = elim [ operands ↦ 0 | successors ↦ 1 | value_uses ↦ 2 | block_uses ↦ 3 | results ↦ 4 | arguments ↦ 5 | regions ↦ 6 | ops ↦ 7 | blocks ↦ 8 ]

pub slot_roles : (q : Role) → fam_code (fam q) ≡ 0 → (q ≡ operands) ⊎ (q ≡ successors)
unfolding fam_code
slot_roles operands h = inl refl
slot_roles successors h = inr refl
slot_roles value_uses h = absurd (omega arith)
slot_roles block_uses h = absurd (omega arith)
slot_roles results h = absurd (omega arith)
slot_roles arguments h = absurd (omega arith)
slot_roles regions h = absurd (omega arith)
slot_roles ops h = absurd (omega arith)
slot_roles blocks h = absurd (omega arith)

pub value_roles : (q : Role) → fam_code (fam q) ≡ 2 → (q ≡ results) ⊎ (q ≡ arguments)
unfolding fam_code
value_roles operands h = absurd (omega arith)
value_roles successors h = absurd (omega arith)
value_roles value_uses h = absurd (omega arith)
value_roles block_uses h = absurd (omega arith)
value_roles results h = inl refl
value_roles arguments h = inr refl
value_roles regions h = absurd (omega arith)
value_roles ops h = absurd (omega arith)
value_roles blocks h = absurd (omega arith)

-- two lists that are all of their family
module _ {P : State} (S : Linked P) (f : Fam) (r s : Role) (fr : fam r ≡ f) (fs : fam s ≡ f) (apart : role_code r ≢ role_code s) (only : (q : Role) → fam q ≡ f → (q ≡ r) ⊎ (q ≡ s)) where
  pub two_lists : (x y : Thing) → count Thing-dec x (P.list y r ++ P.list y s) ≡ up_to (outer (P.own x f)) y
  unfolding owns
  two_lists x y =
      count_append Thing-dec x (P.list y r) (P.list y s)
      ∙ ap₂ ◌+◌ (S.held r y x ∙ ap (λ (g : Fam). owns (P.own x g) (r, y)) fr) (S.held s y x ∙ ap (λ (g : Fam). owns (P.own x g) (s, y)) fs)
      ∙ go (P.own x f) refl
    where
      same : (c : Con) (q t : Role) → c.0 ≡ q → role_code q ≢ role_code t → tick (Con-dec c (q, y)) + tick (Con-dec c (t, y)) ≡ tick (Thing-dec c.1 y)
      same c q t e n =
          by_cases (Thing-dec c.1 y)
          (λ p. omega (arith, tick_yes (Con-dec c (q, y)) (λ i. (e i, p i)), tick_no (Con-dec c (t, y)) (λ h. n (ap role_code (sym e ∙ ap (λ (d : Con). d.0) h))), tick_yes (Thing-dec c.1 y) p))
          (λ m. omega (arith, tick_no (Con-dec c (q, y)) (λ h. m (ap (λ (d : Con). d.1) h)), tick_no (Con-dec c (t, y)) (λ h. m (ap (λ (d : Con). d.1) h)), tick_no (Thing-dec c.1 y) m))

      go : (o : Option Con) → P.own x f ≡ o → owns o (r, y) + owns o (s, y) ≡ up_to (outer o) y
      go none e = refl
      go (some c) e = ⊎_elim (λ h. same c r s h apart) (λ h. omega (arith, same c s r h (λ k. apart (sym k)))) (only c.0 (S.link x f c e).family)

pub sum_up_to : (o : Option Thing) (l : List Thing) → sum (λ y. up_to o y) l ≡ over o (λ z. count Thing-dec z l)
sum_up_to none l = sum_zero l
sum_up_to (some z) [] = refl
sum_up_to (some z) (y ∷ l) = omega (arith, sum_up_to (some z) l)

module _ {P : State} (S : Linked P) where
  pub uses_at : (u y : Thing) → count Thing-dec u (place_uses_at P y) ≡ up_to (outer (P.own u slots)) y
  unfolding fam_code role_code
  uses_at = two_lists S slots operands successors refl refl (λ h. absurd (omega arith)) (λ q e. slot_roles q (ap fam_code e))

  pub values_at : (v y : Thing) → count Thing-dec v (P.list y results ++ P.list y arguments) ≡ up_to (outer (P.own v vals)) y
  unfolding fam_code role_code
  values_at = two_lists S vals results arguments refl refl (λ h. absurd (omega arith)) (λ q e. value_roles q (ap fam_code e))

  -- a use is inside as often as its operation is
  pub drop_count : (x u : Thing) → count Thing-dec u (drop_list P x) ≡ over (outer (P.own u slots)) (λ o. count Thing-dec o (walk P x))
  unfolding drop_list
  drop_count x u = count_gather Thing-dec u (place_uses_at P) (walk P x) ∙ sum_on Thing-dec (λ y. count Thing-dec u (place_uses_at P y)) (λ y. up_to (outer (P.own u slots)) y) (walk P x) (λ y _. uses_at u y) ∙ sum_up_to (outer (P.own u slots)) (walk P x)

  pub slot_of : (u : Thing) (n : Thing → ℕ) → 0 < over (outer (P.own u slots)) n → (c : Con) × (P.own u slots ≡ some c) × (0 < n c.1)
  slot_of u n h = go (P.own u slots) refl h
    where
      go : (o : Option Con) → P.own u slots ≡ o → 0 < over (outer o) n → (c : Con) × (P.own u slots ≡ some c) × (0 < n c.1)
      go none e h = absurd (omega arith)
      go (some c) e h = (c, e, h)

  pub slot_node : (u : Thing) (c : Con) → P.own u slots ≡ some c → u.0 ≡ usg
  unfolding fam_code
  slot_node u c e = let L : Link P u slots c = S.link u slots c e in L.node ∙ ⊎_elim (λ h. ap node_of h) (λ h. ap node_of h) (slot_roles c.0 (ap fam_code L.family))

  pub drop_uses : (x : Thing) → UseList P (drop_list P x)
  drop_uses x =
      record {
        kind = λ u i. let s : (c : Con) × (P.own u slots ≡ some c) × In Thing-dec c.1 (walk P x) = slot_of u (λ o. count Thing-dec o (walk P x)) (omega (arith, drop_count x u)) in slot_node u s.0 s.1;
        live = λ u i. let s : (c : Con) × (P.own u slots ≡ some c) × In Thing-dec c.1 (walk P x) = slot_of u (λ o. count Thing-dec o (walk P x)) (omega (arith, drop_count x u)) in (S.link u slots s.0 s.1).live;
        once = λ u. omega (arith, drop_count x u, bound (outer (P.own u slots)));
      }
    where
      bound : (o : Option Thing) → over o (λ z. count Thing-dec z (walk P x)) ≤ 1
      bound none = omega arith
      bound (some z) = walk_once S x z

-- ---- the whole drop: the fold is the cut, and keeps soundness

pub drop_cut : {P : State} (S : Sound P) (x : Thing) → place_end_uses (drop_list P x) P ≡ dropped P x
unfolding dropped
drop_cut {P} S x = (end_uses_cut (drop_list P x) S (drop_uses S.linked x)).0

pub drop_sound : {P : State} (S : Sound P) (x : Thing) → Sound (dropped P x)
unfolding dropped
drop_sound {P} S x = (end_uses_cut (drop_list P x) S (drop_uses S.linked x)).1
