-- Edit 31 on the memory, each way out. Assumes nothing.
use mathlib.Core.Path.{◌≡◌, refl, sym, ap, ap₂, ◌∙◌, subst}
use mathlib.Core.Logic.{◌≢◌, ite, if_pos, if_neg}
use mathlib.Core.Bool.{Bool, true, false, not}
use mathlib.Core.List.{List}
use mathlib.Core.Option.{none, some}
use native.Mathlib.Omega.{arith}
use native.Mathlib.Decide.{ℕ_discrete, dec_lt}
use Prim.Native.Nat.{ℕ, zero, suc, ◌-◌, ◌<◌}
use lib.Dec.{eqb}
use lib.ListN.{length}
use Rattle.std.specs.Option.{option_eq}
use Rattle.std.proofs.lemmas.Bool.{eqb-true, eq-eqb}
use Rattle.seqs.specs.Seqs.{count}
use Rattle.std.specs.Prelude as Rust
use Rattle.std.specs.Prelude.{Some, None, Ok}
use Rattle.edit.specs.declared.Refusal.{Refusal}
use Rattle.edit.specs.Kinds.{number_of}
use Rattle.edit.proofs.Numbers.{number_of-positive}
use Rattle.edit.specs.Record.{move_region}
use Rattle.rules.specs.State.{accept}
use Rattle.rules.specs.Step.{answer}
use Rattle.rules.specs.Refusal.{region_named, operation_named, named, missing, refusal_of}
use Rattle.places.specs.Store.{op, reg, usg, regions, regs, Thing-dec, Con, State, Live}
use Rattle.places.specs.View.{num}
use Rattle.places.specs.Hist.{rule_state, meaning}
use Rattle.places.specs.Settled.{Settles}
use Rattle.places.specs.Parts.{con_of, rows_of}
use Rattle.places.specs.Walk.{pick, walk}
use Rattle.places.specs.Members.{place_move_region, move_code}
use Rattle.places.proofs.Cut.{pick_0, pick_1}
use Rattle.places.proofs.Steps.{some_none, some_inj}
use Rattle.places.proofs.RuleRefusals.{operation_there, operation_missing, region_there, region_missing}
use Rattle.places.proofs.RuleLinkTests.{walk_clear}
use Rattle.places.proofs.RuleMove.{move_accept, stay_accept, move_code_lem}
use Rattle.places.proofs.Settling.{settles_same, settles_relink, settles_enter}
use Rattle.context.specs.declared.Layout.{Layout}
use Rattle.context.specs.Memory.{given, con, state_of, SoundStore, HomeIs, LengthIs}
use Rattle.context.specs.Performed.{abs, Performed}
use Rattle.context.specs.Steps.{CanMoveRegion, MovedRegion}
use Rattle.context.proofs.Places.{place<}
use Rattle.context.proofs.Families.{stands}
use Rattle.links.specs.Moving.{MayMove, Moving}
use Rattle.links.proofs.Testing.{Lost, first_gone, second_gone, both_there}
use Rattle.links.proofs.Performing.{carried_out, list_short}

-- ---- where the region stands

inner : Rust.Option ℕ → ℕ
inner None = 0
inner (Some x) = x

some_same : (x y : ℕ) → Some x ≡ Some y → x ≡ y
unfolding inner
some_same x y e = ap inner e

pub same_yes : (r : Rust.Option ℕ) (k : ℕ) → true ≡ option_eq eqb r (Some k) → r ≡ Some k
same_yes None k e = let z : ◌≡◌ {A = ℕ} 0 1 = cc in absurd (omega arith)
same_yes (Some x) k e = ap (λ (j : ℕ). Some j) (eqb-true x k (sym e))

pub same_no : (r : Rust.Option ℕ) (k : ℕ) → false ≡ option_eq eqb r (Some k) → r ≡ Some k → ⊥
same_no r k e h =
    let q : false ≡ true = e ∙ ap (λ (o : Rust.Option ℕ). option_eq eqb o (Some k)) h ∙ eq-eqb k k refl in
    let z : ◌≡◌ {A = ℕ} 0 1 = cc in absurd (omega arith)

pub other_by : (b : Bool) → true ≡ not b → false ≡ b
other_by true e = sym e
other_by false e = refl

pub same_by : (b : Bool) → false ≡ not b → true ≡ b
same_by true e = refl
same_by false e = sym e

-- a live region has an operation
regions_only : {l : Layout} {m : List ℕ} → SoundStore l m → (n : ℕ) → Live (state_of l m) (reg, n) → (q : ℕ) × ((state_of l m).own (reg, n) regs ≡ some (regions, (op, q)))
unfolding rows_of
regions_only {l} {m} S n lx =
    let c : (c : Con) × ((state_of l m).own (reg, n) regs ≡ some c) = S.sound.placed (reg, n) lx in
    let k = stands l m regs n c.0 c.1 in
    (k.0, c.1 ∙ ap some (sym k.2))

module _ {l : Layout} {m : List ℕ} (n : ℕ) (p : Rust.Option ℕ) (H : HomeIs l regs n m p) where
  home_inv : (q : ℕ) → (state_of l m).own (reg, n) regs ≡ some (regions, (op, q)) → p ≡ Some q
  unfolding rows_of
  home_inv q e = go p (sym H.own ∙ e)
    where
      go : (r : Rust.Option ℕ) → con_of (con l regs) (given r) ≡ some (regions, (op, q)) → r ≡ Some q
      go None h = absurd (some_none h refl)
      go (Some j) h = ap (λ (c : Con). Some c.1.1) (some_inj h)

  -- ---- the codes

  module _ (k : ℕ) where
    abbrev inside : ℕ
    inside = count Thing-dec (op, k) (walk (state_of l m) (reg, n))

    abbrev long : ℕ
    long = length ((state_of l m).list (op, k) regions)

    pub move_stays : p ≡ Some k → MayMove (state_of l m) n k 0
    unfolding move_code
    move_stays e = record { is = λ q h. sym (if_pos (ℕ_discrete k q) (some_same k q (sym e ∙ home_inv q h)) 0 (pick inside (ite (dec_lt long 64) 0 19) 17)) }

    module _ (other : p ≡ Some k → ⊥) where
      past : (q : ℕ) → (state_of l m).own (reg, n) regs ≡ some (regions, (op, q)) → move_code (state_of l m) n k q ≡ pick inside (ite (dec_lt long 64) 0 19) 17
      unfolding move_code
      past q h = if_neg (ℕ_discrete k q) (λ e. other (home_inv q h ∙ ap (λ (j : ℕ). Some j) (sym e))) 0 (pick inside (ite (dec_lt long 64) 0 19) 17)

      pub move_17 : 0 < inside → MayMove (state_of l m) n k 17
      move_17 h = record { is = λ q a. sym (past q a ∙ pick_1 inside (ite (dec_lt long 64) 0 19) 17 h) }

      module _ (out : 0 < inside → ⊥) (c : ℕ) (C : LengthIs l regs k m c) where
        is_long : c ≡ long
        unfolding rows_of
        is_long = C.is

        pub move_19 : (c < 64 → ⊥) → MayMove (state_of l m) n k 19
        move_19 h = record { is = λ q a. sym (past q a ∙ pick_0 inside (ite (dec_lt long 64) 0 19) 17 (omega (arith, out)) ∙ if_neg (dec_lt long 64) (λ z. h (omega (arith, z, is_long))) 0 19) }

        pub move_0 : c < 64 → MayMove (state_of l m) n k 0
        move_0 h = record { is = λ q a. sym (past q a ∙ pick_0 inside (ite (dec_lt long 64) 0 19) 17 (omega (arith, out)) ∙ if_pos (dec_lt long 64) (omega (arith, h, is_long)) 0 19) }

-- ---- the tests

module _ {l : Layout} {m : List ℕ} (S : SoundStore l m) (x y : ℕ) where
  abbrev P : State
  P = state_of l m

  abbrev n₀ : ℕ
  n₀ = (P.tab usg).next - length (P.tab usg).order

  pub no_region : (r : Refusal) → Lost P reg x r → refusal_of (abs l m) (move_region x y) ≡ number_of r
  unfolding abs named meaning rule_state
  no_region r u = first_gone (meaning P) (move_region x y) (region_named x) (operation_named y) refl (number_of r) (number_of-positive r) (region_missing S.sound n₀ x u.0 ∙ sym u.1)

  module _ (n : ℕ) (at : Live P (reg, n) × (num P (reg, n) ≡ x)) where
    there : missing (meaning P).history (region_named x) ≡ 0
    unfolding meaning rule_state
    there = region_there S.sound n₀ n x at.0 at.1

    pub no_operation : (r : Refusal) → Lost P op y r → refusal_of (abs l m) (move_region x y) ≡ number_of r
    unfolding abs named meaning rule_state
    no_operation r u = second_gone (meaning P) (move_region x y) (region_named x) (operation_named y) refl (number_of r) (number_of-positive r) there (operation_missing S.sound n₀ y u.0 ∙ sym u.1)

    module _ (k : ℕ) (at' : Live P (op, k) × (num P (op, k) ≡ y)) (t : ℕ) (M : MayMove P n k t) where
      parent : (q : ℕ) × (P.own (reg, n) regs ≡ some (regions, (op, q)))
      parent = regions_only S n at.0

      pub move_tests : refusal_of (abs l m) (move_region x y) ≡ t
      unfolding abs named meaning rule_state
      move_tests =
          both_there (meaning P) (move_region x y) (region_named x) (operation_named y) refl there (operation_there S.sound n₀ k y at'.0 at'.1)
          ∙ move_code_lem S.sound n k parent.0 x y at.0 at.1 at'.0 at'.1 parent.1
          ∙ sym (M.is parent.0 parent.1)

      pub moving : t ≡ 0 → Moving l x y n k m
      moving z = record { live = at.0; named = at.1; home = at'.0; called = at'.1; none = move_tests ∙ z; tests = subst (λ (r : ℕ). MayMove P n k r) z M }

-- ---- the whole edit

module _ {l : Layout} {m : List ℕ} (S : SoundStore l m) (x y n k : ℕ) (M : Moving l x y n k m) (p : Rust.Option ℕ) (H : HomeIs l regs n m p) where
  parent_of : (q : ℕ) × ((state_of l m).own (reg, n) regs ≡ some (regions, (op, q)))
  parent_of = regions_only S n M.live

  abbrev q₀ : ℕ
  q₀ = parent_of.0

  is_parent : p ≡ Some q₀
  is_parent = home_inv n p H q₀ parent_of.1

  -- to its own operation
  pub move_nothing : p ≡ Some k → Performed l (move_region x y) m m (Ok (0, 0))
  unfolding answer abs
  move_nothing e =
      carried_out S (move_region x y) S M.none (λ h. refl)
      (stay_accept S.sound n k k (parent_of.1 ∙ ap (λ (j : ℕ). some (regions, (op, j))) (some_same q₀ k (sym is_parent ∙ e))) ∙ ap₂ (λ (a b : ℕ). accept (move_region a b) (meaning (state_of l m))) M.named M.called)
      refl (settles_same (λ i. refl))

  -- to another
  module _ (other : p ≡ Some k → ⊥) where
    apart : k ≢ q₀
    apart e = other (is_parent ∙ ap (λ (j : ℕ). Some j) (sym e))

    free : (inside n p H k ≡ 0) × (long n p H k < 64)
    unfolding pick
    free = go (inside n p H k) (dec_lt (long n p H k) 64) (M.tests.is q₀ parent_of.1 ∙ past n p H k other q₀ parent_of.1)
      where
        go : (i : ℕ) (d : Dec (long n p H k < 64)) → ◌≡◌ {A = ℕ} 0 (pick i (ite d 0 19) 17) → (i ≡ 0) × (long n p H k < 64)
        go zero (yes h) e = (refl, h)
        go zero (no h) e = absurd (omega (arith, e))
        go (suc i) d e = absurd (omega (arith, e))

    pub may_go : CanMoveRegion (state_of l m) n k
    may_go = record { live = M.live; home = M.home; other = λ e. other (home_inv n p H k e); limit = free.1; clear = walk_clear S.sound.linked (reg, n) (op, k) free.0 }

    pub moved_away : {m' : List ℕ} → MovedRegion l n k m m' → Performed l (move_region x y) m m' (Ok (0, 0))
    unfolding answer abs place_move_region rows_of
    moved_away {m'} K =
        let e : state_of l m' ≡ place_move_region (reg, n) (op, q₀) (op, k) l.regions (state_of l m) = K.state q₀ parent_of.1 in
        carried_out S (move_region x y) K.sound M.none (λ h. refl)
        (ap meaning e
        ∙ move_accept S.sound n q₀ k parent_of.1 l.regions M.home apart free.1 may_go.clear (list_short S.well regs k (place< S (op, k) M.home))
        ∙ ap₂ (λ (a b : ℕ). accept (move_region a b) (meaning (state_of l m))) M.named M.called)
        K.rest (subst (λ (Q : State). Settles (state_of l m) Q) (sym e) (settles_enter (regions, (op, k)) l.regions (reg, n) (settles_relink (regions, (op, q₀)) _ (reg, n) none (settles_same (λ i. refl)))))
