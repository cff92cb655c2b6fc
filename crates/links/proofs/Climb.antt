-- The climb step by step, as the code makes it: it meets a thing exactly if the walk from that thing reaches where the climb began. Assumes nothing.
use mathlib.Core.Path.{◌≡◌, refl, sym, ap, ap₂, ◌∙◌, subst}
use mathlib.Core.Logic.{◌≢◌, ◌↔◌}
use mathlib.Core.Bool.{Bool, true, false}
use mathlib.Core.Option.{Option, none, some}
use native.Mathlib.Omega.{arith}
use Prim.Native.Nat.{ℕ, zero, suc, ◌+◌, ◌-◌, ◌<◌, ◌≤◌}
use lib.ListN.{length}
use Rattle.seqs.specs.Seqs.{Says, tick, count}
use Rattle.seqs.proofs.Base.{tick_yes, tick_no}
use Rattle.places.specs.Store.{op, blk, reg, regions, ops, blocks, regs, ops_in, blocks_in, Thing, Thing-dec, State, Live, Linked, Sound, outer, up}
use Rattle.places.specs.Walk.{over, walk}
use Rattle.places.proofs.Nest.{hits}
use Rattle.places.proofs.RuleClimb as R
use Rattle.places.proofs.RuleClimb.{slack, enough}
use Rattle.links.specs.Climbing.{climbed, thrice, StepIs}
use Rattle.links.specs.declared.Step.{Step}
use Rattle.links.specs.declared.Step.TheVariants.{Ended, Met, At}

-- ---- the three cases of a step

code : Step → ℕ
code = elim [ Ended ↦ 0 | Met ↦ 1 | At p ↦ suc (suc p) ]

ended_at : (p : ℕ) → Ended ≡ At p → ⊥
unfolding code
ended_at p e = omega (arith, ap code e)

met_at : (p : ℕ) → Met ≡ At p → ⊥
unfolding code
met_at p e = omega (arith, ap code e)

at_at : (p q : ℕ) → At p ≡ At q → p ≡ q
unfolding code
at_at p q e = omega (arith, ap code e)

-- ---- yes or no

pub says_by : (r : Bool) {A B : Type 0} → A ↔ B → Says r A → Says r B
says_by true f s = f.0 s
says_by false f s = λ b. s (f.1 b)

-- ---- the steps

module _ {P : State} (S : Sound P) (X : Thing) where
  tick_met : (y : Thing) → X ≡ y → tick (Thing-dec y X) ≡ 1
  tick_met y e = tick_yes (Thing-dec y X) (sym e)

  tick_not : (y : Thing) → (X ≡ y → ⊥) → tick (Thing-dec y X) ≡ 0
  tick_not y n = tick_no (Thing-dec y X) (λ e. n (sym e))

  -- it is x
  pub region_met : (r : ℕ) → X ≡ (reg, r) → StepIs P X (reg, r) (λ n. suc n) Met
  region_met r e = record { met = λ n. (λ h. omega arith, λ h. omega (arith, tick_met (reg, r) e)); live = λ p h. absurd (met_at p h) }

  pub block_met : (b : ℕ) → X ≡ (blk, b) → StepIs P X (blk, b) (λ n. suc (suc n)) Met
  block_met b e = record { met = λ n. (λ h. omega arith, λ h. omega (arith, tick_met (blk, b) e)); live = λ p h. absurd (met_at p h) }

  -- it is not, and lies in nothing
  above_none : (y : Thing) → (X ≡ y → ⊥) → up P y ≡ none → (n : ℕ) → climbed (up P) (suc n) X y ≡ 0
  above_none y d e n = ap₂ ◌+◌ (tick_not y d) (ap (λ (o : Option Thing). over o (climbed (up P) n X)) e)

  above_some : (y z : Thing) → (X ≡ y → ⊥) → up P y ≡ some z → (n : ℕ) → climbed (up P) (suc n) X y ≡ climbed (up P) n X z
  above_some y z d e n = ap₂ ◌+◌ (tick_not y d) (ap (λ (o : Option Thing). over o (climbed (up P) n X)) e) ∙ zero_plus (climbed (up P) n X z)
    where
      zero_plus : (a : ℕ) → 0 + a ≡ a
      zero_plus a = omega arith

  pub region_top : (r : ℕ) → (X ≡ (reg, r) → ⊥) → P.own (reg, r) regs ≡ none → StepIs P X (reg, r) (λ n. suc n) Ended
  unfolding up
  region_top r d e = record { met = λ n. (λ h. absurd (omega (arith, h, above_none (reg, r) d (ap outer e) n)), λ h. absurd (omega arith)); live = λ p h. absurd (ended_at p h) }

  pub block_top : (b : ℕ) → (X ≡ (blk, b) → ⊥) → P.own (blk, b) blocks_in ≡ none → StepIs P X (blk, b) (λ n. suc (suc n)) Ended
  unfolding up
  block_top b d e = record { met = λ n. (λ h. absurd (omega (arith, h, above_none (blk, b) d (ap outer e) (suc n))), λ h. absurd (omega arith)); live = λ p h. absurd (ended_at p h) }

  same_size : {a b : ℕ} → a ≡ b → (0 < a) ↔ (0 < b)
  same_size {a} {b} e = (λ h. omega (arith, h, e), λ h. omega (arith, h, e))

  -- it is not, and lies in an operation; a block in a region
  pub region_up : (r p : ℕ) → (X ≡ (reg, r) → ⊥) → P.own (reg, r) regs ≡ some (regions, (op, p)) → StepIs P X (reg, r) (λ n. suc n) (At p)
  unfolding up
  region_up r p d e =
      record {
        met = λ n. same_size (above_some (reg, r) (op, p) d (ap outer e) n);
        live = λ q h. subst (λ (t : ℕ). Live P (op, t)) (at_at p q h) (S.linked.link (reg, r) regs (regions, (op, p)) e).home;
      }

  pub block_up : (b r : ℕ) (s : Step) → (X ≡ (blk, b) → ⊥) → P.own (blk, b) blocks_in ≡ some (blocks, (reg, r)) → StepIs P X (reg, r) (λ n. suc n) s → StepIs P X (blk, b) (λ n. suc (suc n)) s
  unfolding up
  block_up b r s d e T =
      record {
        met = λ n. let q : (0 < climbed (up P) (suc (suc n)) X (blk, b)) ↔ (0 < climbed (up P) (suc n) X (reg, r)) = same_size (above_some (blk, b) (reg, r) d (ap outer e) (suc n)) in (λ h. (T.met n).0 (q.0 h), λ h. q.1 ((T.met n).1 h));
        live = T.live;
      }

  -- ---- from a step on

  module _ (y : Thing) (g : ℕ → ℕ) (s : Step) (T : StepIs P X y g s) (n : ℕ) where
    pub step_ended : s ≡ Ended → Says false (0 < climbed (up P) (g n) X y)
    step_ended e a = absurd (omega (arith, (rw e at T.met n).0 a))

    pub step_met : s ≡ Met → Says true (0 < climbed (up P) (g n) X y)
    step_met e = (rw e at T.met n).1 (omega arith)

    pub step_on : (p : ℕ) (r : Bool) → s ≡ At p → Says r (0 < climbed (up P) n X (op, p)) → Says r (0 < climbed (up P) (g n) X y)
    step_on p r e says = let q : (0 < climbed (up P) (g n) X y) ↔ (0 < climbed (up P) n X (op, p)) = rw e at T.met n in says_by r (q.1, q.0) says

  -- ---- the operation

  module _ (o : ℕ) where
    pub none_left : (d : ℕ) → d ≡ 0 → Says false (0 < climbed (up P) (thrice d) X (op, o))
    none_left zero e = λ h. absurd (omega arith)
    none_left (suc d) e = absurd (omega arith)

    pub operation_met : (d : ℕ) → d ≢ 0 → X ≡ (op, o) → Says true (0 < climbed (up P) (thrice d) X (op, o))
    operation_met zero a e = absurd (a refl)
    operation_met (suc d) a e = omega (arith, tick_met (op, o) e)

    module _ (d : X ≡ (op, o) → ⊥) where
      pub operation_top : (t : ℕ) → t ≢ 0 → P.own (op, o) ops_in ≡ none → Says false (0 < climbed (up P) (thrice t) X (op, o))
      unfolding up
      operation_top zero a e = absurd (a refl)
      operation_top (suc t) a e = λ h. absurd (omega (arith, h, above_none (op, o) d (ap outer e) (suc (suc (thrice t)))))

      pub operation_up : (t b : ℕ) (r : Bool) → t ≢ 0 → P.own (op, o) ops_in ≡ some (ops, (blk, b)) → Says r (0 < climbed (up P) (suc (suc (thrice (t - 1)))) X (blk, b)) → Says r (0 < climbed (up P) (thrice t) X (op, o))
      unfolding up
      operation_up zero b r a e says = absurd (a refl)
      operation_up (suc t) b r a e says = let q : suc t - 1 ≡ t = omega arith in says_by r (same_size (sym (above_some (op, o) (blk, b) d (ap outer e) (suc (suc (thrice t)))))) (subst (λ (j : ℕ). Says r (0 < climbed (up P) (suc (suc (thrice j))) X (blk, b))) q says)

-- ---- as many steps as there are live operations

thrice_same : (n : ℕ) → thrice n ≡ R.thrice n
thrice_same zero = refl
thrice_same (suc n) = ap (λ (k : ℕ). suc (suc (suc k))) (thrice_same n)

climbed_hits : (u : Thing → Option Thing) (n : ℕ) (x y : Thing) → climbed u n x y ≡ hits u n x y
climbed_hits u zero x y = refl
climbed_hits u (suc n) x y = ap (λ (k : ℕ). tick (Thing-dec y x) + k) (go (u y) (λ z. climbed_hits u n x z))
  where
    go : (o : Option Thing) → ((z : Thing) → climbed u n x z ≡ hits u n x z) → over o (climbed u n x) ≡ over o (hits u n x)
    go none h = refl
    go (some z) h = h z

module _ {P : State} (S : Linked P) (x y : Thing) (l : Live P y) (d : ℕ) (all : d ≡ length (P.tab op).order) where
  pub climb_walk : (n : ℕ) (r : Bool) → slack y.0 + R.thrice (length (P.tab op).order) ≤ n → Says r (0 < climbed (up P) n x y) → Says r (0 < count Thing-dec y (walk P x))
  climb_walk n r h says = let e : climbed (up P) n x y ≡ count Thing-dec y (walk P x) = climbed_hits (up P) n x y ∙ enough S x y n l h in says_by r (λ a. omega (arith, a, e), λ a. omega (arith, a, e)) says

  pub block_walk : (r : Bool) → y.0 ≡ blk → Says r (0 < climbed (up P) (suc (suc (thrice d))) x y) → Says r (0 < count Thing-dec y (walk P x))
  unfolding slack
  block_walk r k = climb_walk (suc (suc (thrice d))) r (omega (arith, ap slack k, thrice_same d, ap R.thrice all))

  pub region_walk : (r : Bool) → y.0 ≡ reg → Says r (0 < climbed (up P) (suc (thrice d)) x y) → Says r (0 < count Thing-dec y (walk P x))
  unfolding slack
  region_walk r k = climb_walk (suc (thrice d)) r (omega (arith, ap slack k, thrice_same d, ap R.thrice all))

  pub operation_walk : (r : Bool) → y.0 ≡ op → Says r (0 < climbed (up P) (thrice d) x y) → Says r (0 < count Thing-dec y (walk P x))
  unfolding slack
  operation_walk r k = climb_walk (thrice d) r (omega (arith, ap slack k, thrice_same d, ap R.thrice all))
