-- Uses from outside of what lies in a thing, set by set and thing by thing. Assumes nothing.
use mathlib.Core.Path.{◌≡◌, refl, sym, ap, ◌∙◌, subst}
use mathlib.Core.Bool.{Bool, true, false, ◌||◌}
use mathlib.Core.List.{List, [], ◌∷◌, ◌++◌, map}
use native.Mathlib.Omega.{arith}
use Prim.Native.Nat.{ℕ, zero, suc, ◌+◌, ◌-◌, ◌<◌}
use lib.Dec.{eqb}
use lib.ListN.{length}
use borrow.Author.Tests.{eqb-true, eqb-false}
use Rattle.seqs.specs.Seqs.{sum}
use mathlib.Core.Option.{Option, some}
use Rattle.edit.specs.declared.Nested.{Nested}
use Rattle.places.specs.Store.{op, blk, reg, val, usg, slots, outer, value_uses, block_uses, results, arguments, use_sets, vals, Thing, Con, State, Live}
use Rattle.places.specs.Parts.{node_in}
use Rattle.places.specs.Walk.{over, pick, sift, gather, kids, walk_by, place_values_at, def_sets, mark_of, stray_at, strays, strays_in}
use Rattle.rules.specs.Table.{any}
use Rattle.places.proofs.Cut.{pick_0, pick_1}
use Rattle.places.proofs.Nest.{kind_code}
use Rattle.places.proofs.DropTurn.{list_none, values_op, values_blk}
use Rattle.context.specs.declared.Layout.{Layout}
use Rattle.context.specs.declared.Thing as nest
use Rattle.context.specs.Memory.{con, ListIs, state_of, SoundStore}
use Rattle.context.specs.Nest.{nested_kind, inner_fam, thing_at}
use Rattle.context.specs.Reading.{list_of}
use Rattle.context.proofs.Cursor.{row}
use Rattle.context.proofs.Rest.{Rest, first_here}
use Rattle.context.proofs.Numbers.{value_uses_list}
use Rattle.walk.specs.Erase.{inner_kind}
use Rattle.walk.specs.Tests.{within, stray, stray_set, stray_value, stray_thing, DepthIs, Testable, erase_code}
use Rattle.walk.proofs.DropWalk.{list_of_lem}
use Rattle.walk.proofs.EraseLaws.{region_none}
use Rattle.walk.proofs.EraseWalk.{inner, inner_node}

-- ---- what lies directly in a thing of the kind k

pub nest_row : {l : Layout} {m : List ℕ} (S : SoundStore l m) (k : Nested) (p : ℕ) → row l (inner_fam k) p m ≡ kids (state_of l m) (nested_kind k, p)
nest_row {l} {m} S k p = sym (list_of_lem (inner l k p) m S.sound.linked)

pub child_is : (k : Nested) (c : ℕ) {y : Thing} → y ≡ (nested_kind (inner_kind k), c) → ◌≡◌ {A = Thing} (node_in (inner_fam k), c) y
child_is k c e = ap {B = Thing} (λ t. (t, c)) (inner_node k) ∙ sym e

-- the one that the loop has come to
pub child_testable : {l : Layout} {m s : List ℕ} {x y : nest.Thing} {q : ℕ} {c : List ℕ} → SoundStore l m → Testable l x m s → Rest l (inner_fam x.kind) x.place m (q ∷ c) → thing_at y ≡ (nested_kind (inner_kind x.kind), q) → {s' : List ℕ}
    → length s' ≡ length s → Testable l y m s'
child_testable {l} {m} {x = x} {q = q} S T R i e =
    record {
      live = subst (λ (t : Thing). Live (state_of l m) t) (child_is x.kind q i) (first_here R S).live;
      long = omega (arith, e, T.long);
    }

-- x first, then what lies in it
pub within_step : (P : State) (n : ℕ) (x : Thing) → (n ≡ 0 → ⊥) → within P n x ≡ x ∷ gather (within P (n - 1)) (kids P x)
unfolding within
within_step P zero x h = absurd (h refl)
within_step P (suc n) x h = let q : suc n - 1 ≡ n = omega arith in ap {B = List Thing} (λ (i : ℕ). x ∷ gather (walk_by (kids P) i) (kids P x)) (sym q)

pub within_none : (P : State) (n : ℕ) (x : Thing) → n ≡ 0 → within P n x ≡ []
unfolding within
within_none P n x e = ap (λ (i : ℕ). walk_by (kids P) i x) e

-- ---- tests over lists

or_assoc : (a b c : Bool) → ((a || b) || c) ≡ (a || (b || c))
or_assoc true b c = refl
or_assoc false b c = refl

module _ {A : Type 0} (p : A → Bool) where
  any_append : (a b : List A) → any p (a ++ b) ≡ (any p a || any p b)
  unfolding any
  any_append [] b = refl
  any_append (x ∷ a) b = ap (λ r. p x || r) (any_append a b) ∙ sym (or_assoc (p x) (any p a) (any p b))

  any_gather : {B : Type 0} (f : B → List A) (l : List B) → any p (gather f l) ≡ any (λ y. any p (f y)) l
  unfolding any
  any_gather f [] = refl
  any_gather f (y ∷ l) = any_append (f y) (gather f l) ∙ ap (λ r. any p (f y) || r) (any_gather f l)

  any_map : {B : Type 0} (g : B → A) (l : List B) → any p (map g l) ≡ any (λ y. p (g y)) l
  unfolding any
  any_map g [] = refl
  any_map g (y ∷ l) = ap (λ r. p (g y) || r) (any_map g l)

-- the test of all that lies in x: of x, and of what lies in what lies directly in it
abbrev pub in_test : State → (Thing → Bool) → ℕ → Thing → Bool
in_test P p n y = any p (within P n y)

module _ {l : Layout} {m : List ℕ} (S : SoundStore l m) (p : Thing → Bool) (k : Nested) (q n : ℕ) (h : n ≡ 0 → ⊥) where
  abbrev P : State
  P = state_of l m

  abbrev x : Thing
  x = (nested_kind k, q)

  whole : any p (within P n x) ≡ (p x || any (in_test P p (n - 1)) (row l (inner_fam k) q m))
  unfolding any
  whole = ap (any p) (within_step P n x h) ∙ ap (λ r. p x || r) (any_gather p (within P (n - 1)) (kids P x) ∙ ap (any (in_test P p (n - 1))) (sym (nest_row S k q)))

  pub test_own : p x ≡ true → true ≡ any p (within P n x)
  test_own e = sym (whole ∙ ap (λ r. r || any (in_test P p (n - 1)) (row l (inner_fam k) q m)) e)

  pub test_inside : (r : Bool) → p x ≡ false → r ≡ any (in_test P p (n - 1)) (row l (inner_fam k) q m) → r ≡ any p (within P n x)
  test_inside r e g = g ∙ sym (whole ∙ ap (λ r. r || any (in_test P p (n - 1)) (row l (inner_fam k) q m)) e)

pub test_none : (P : State) (p : Thing → Bool) (n : ℕ) (x : Thing) → n ≡ 0 → false ≡ any p (within P n x)
unfolding any
test_none P p n x e = ap (any p) (sym (within_none P n x e))

-- ---- the definitions of a thing

module _ {l : Layout} {m : List ℕ} (S : SoundStore l m) (mk : ℕ → ℕ) where
  abbrev Q : State
  Q = state_of l m

  pub value_set : (v : ℕ) → v < l.values → stray_set Q mk (con l use_sets v) ≡ stray_value Q mk (val, v)
  value_set v h = ap (stray_set Q mk) (value_uses_list l v h).row

  -- by its block's own set, and its values
  parts : (z : Thing) (vs : List Thing) → place_values_at Q z ≡ vs → stray_thing Q mk z ≡ (stray_set Q mk (block_uses, z) || any (stray_value Q mk) vs)
  unfolding stray_thing any
  parts z vs e = ap (λ r. stray_set Q mk (block_uses, z) || r) (any_map (stray_set Q mk) (λ v. (value_uses, v)) (place_values_at Q z) ∙ ap (any (stray_value Q mk)) e)

  no_set : (z : Thing) → Q.list z block_uses ≡ [] → stray_set Q mk (block_uses, z) ≡ false
  unfolding stray_set any
  no_set z e = ap (any (stray Q mk)) e

  pub of_op : {o k : ℕ} → ListIs l vals (results, (op, o)) k → any (stray_value Q mk) (list_of l m (con l vals k)) ≡ stray_thing Q mk (op, o)
  unfolding kind_code
  of_op {o} K = sym (
      parts (op, o) (Q.list (op, o) results) (values_op S.sound.linked o)
      ∙ ap (λ r. r || any (stray_value Q mk) (Q.list (op, o) results)) (no_set (op, o) (list_none S.sound.linked (op, o) block_uses (λ g. absurd (omega arith))))
      ∙ ap (λ (c : Con). any (stray_value Q mk) (list_of l m c)) (sym K.row))

  pub of_block : {b d : ℕ} → ListIs l use_sets (block_uses, (blk, b)) d → {r : Bool} → r ≡ stray_set Q mk (con l use_sets d) → (r || any (stray_value Q mk) (Q.list (blk, b) arguments)) ≡ stray_thing Q mk (blk, b)
  of_block {b} D e = ap (λ a. a || any (stray_value Q mk) (Q.list (blk, b) arguments)) (e ∙ ap (stray_set Q mk) D.row) ∙ sym (parts (blk, b) (Q.list (blk, b) arguments) (values_blk S.sound.linked b))

  pub of_region : (r : ℕ) → false ≡ stray_thing Q mk (reg, r)
  unfolding any kind_code
  of_region r = sym (parts (reg, r) [] (region_none S.sound r) ∙ ap (λ a. a || false) (no_set (reg, r) (list_none S.sound.linked (reg, r) block_uses (λ g. absurd (omega arith)))))

pub stray_is : (P : State) (mk : ℕ → ℕ) (u o : ℕ) → outer (P.own (usg, u) slots) ≡ some (op, o) → eqb (mk o) 0 ≡ stray P mk (usg, u)
unfolding stray
stray_is P mk u o e = sym (ap (λ (t : Option Thing). eqb (over t (λ y. mk y.1)) 0) e)

-- ---- yes or no, and how many

record Tells (b : Bool) (n : ℕ) : Type 0 where
  yea : b ≡ true → 0 < n
  nay : b ≡ false → n ≡ 0

tells_or : (a b : Bool) (i j : ℕ) → Tells a i → Tells b j → Tells (a || b) (i + j)
tells_or true b i j A B = record { yea = λ _. omega (arith, A.yea refl); nay = λ e. absurd (let z : ◌≡◌ {A = ℕ} 0 1 = cc in omega arith) }
tells_or false b i j A B = record { yea = λ e. omega (arith, B.yea e); nay = λ e. omega (arith, A.nay refl, B.nay e) }

tells_any : {A : Type 0} (p : A → Bool) (f : A → ℕ) (l : List A) → ((y : A) → Tells (p y) (f y)) → Tells (any p l) (sum f l)
unfolding any
tells_any p f [] h = record { yea = λ e. absurd (let z : ◌≡◌ {A = ℕ} 0 1 = cc in omega arith); nay = λ _. refl }
tells_any p f (y ∷ l) h = tells_or (p y) (any p l) (f y) (sum f l) (h y) (tells_any p f l h)

module _ (P : State) (mk : ℕ → ℕ) where
  set_tells : (us : List Thing) → Tells (any (stray P mk) us) (length (sift (mark_of P mk) us))
  unfolding any stray pick
  set_tells [] = record { yea = λ e. absurd (let z : ◌≡◌ {A = ℕ} 0 1 = cc in omega arith); nay = λ _. refl }
  set_tells (u ∷ us) = go (mark_of P mk u) (eqb (mark_of P mk u) 0) refl (set_tells us)
    where
      go : (n : ℕ) (b : Bool) → eqb n 0 ≡ b → Tells (any (stray P mk) us) (length (sift (mark_of P mk) us)) → Tells (b || any (stray P mk) us) (length (pick n (u ∷ sift (mark_of P mk) us) (sift (mark_of P mk) us)))
      go zero true q T = record { yea = λ _. omega arith; nay = λ e. absurd (let z : ◌≡◌ {A = ℕ} 0 1 = cc in omega arith) }
      go zero false q T = absurd (eqb-false 0 0 q refl)
      go (suc n) true q T = absurd (omega (arith, eqb-true (suc n) 0 q))
      go (suc n) false q T = T

  strays_tell : (zs : List Thing) → Tells (any (stray_thing P mk) zs) (sum (strays P mk) zs)
  unfolding stray_thing stray_set strays stray_at
  strays_tell zs = tells_any (stray_thing P mk) (strays P mk) zs (λ z. tells_any (stray_set P mk) (stray_at P mk) (def_sets P z) (λ c. set_tells (P.list c.1 c.0)))

-- ---- the refusal

module _ (P : State) (mk : ℕ → ℕ) (n : ℕ) (x : Thing) where
  pub code_13 : any (stray_thing P mk) (within P n x) ≡ true → 13 ≡ erase_code P mk n x
  code_13 e = sym (pick_1 (sum (strays P mk) (within P n x)) (pick (strays_in P mk x) 0 14) 13 ((strays_tell P mk (within P n x)).yea e))

module _ {l : Layout} {m : List ℕ} (mk : ℕ → ℕ) (n : ℕ) (x : Thing) (deep : ℕ) (D : DepthIs l m deep) (a : any (stray_thing (state_of l m) mk) (within (state_of l m) n x) ≡ false) where
  abbrev Z : State
  Z = state_of l m

  deep_sum : sum (strays Z mk) (within Z deep x) ≡ strays_in Z mk x
  unfolding strays_in
  deep_sum = ap (sum (strays Z mk)) (D.all x)

  near : pick (strays_in Z mk x) 0 14 ≡ erase_code Z mk n x
  near = sym (pick_0 (sum (strays Z mk) (within Z n x)) (pick (strays_in Z mk x) 0 14) 13 ((strays_tell Z mk (within Z n x)).nay a))

  pub code_14 : any (stray_thing Z mk) (within Z deep x) ≡ true → 14 ≡ erase_code Z mk n x
  code_14 b = sym (pick_1 (strays_in Z mk x) 0 14 (omega (arith, (strays_tell Z mk (within Z deep x)).yea b, deep_sum))) ∙ near

  pub code_0 : any (stray_thing Z mk) (within Z deep x) ≡ false → 0 ≡ erase_code Z mk n x
  code_0 b = sym (pick_0 (strays_in Z mk x) 0 14 (sym deep_sum ∙ (strays_tell Z mk (within Z deep x)).nay b)) ∙ near
