-- The steps of the climb on the memory, from what the readers say. Assumes nothing.
use mathlib.Core.Path.{◌≡◌, sym, subst}
use mathlib.Core.Logic.{◌≢◌}
use mathlib.Core.Bool.{Bool, false}
use mathlib.Core.List.{List}
use Prim.Native.Nat.{ℕ, suc, ◌-◌, ◌<◌}
use Rattle.std.specs.Prelude.{Option, Some, None, MatchOption}
use Rattle.seqs.specs.Seqs.{Says}
use Rattle.places.specs.Store.{op, blk, reg, ops, blocks, regs, ops_in, blocks_in, Thing, Live, up}
use Rattle.places.specs.Parts.{rows_of}
use Rattle.context.specs.declared.Layout.{Layout}
use Rattle.context.specs.Memory.{state_of, SoundStore, HomeIs}
use Rattle.links.specs.declared.Step.{Step}
use Rattle.links.specs.declared.Step.TheVariants.{Ended, At}
use Rattle.links.specs.Climbing.{climbed, thrice, StepIs}
use Rattle.links.proofs.Climb.{region_top, region_up, block_top, block_up, operation_top, operation_up}

module _ {l : Layout} {m : List ℕ} (S : SoundStore l m) where
  pub region_live : (b r : ℕ) → HomeIs l blocks_in b m (Some r) → Live (state_of l m) (reg, r)
  unfolding rows_of
  region_live b r H = (S.sound.linked.link (blk, b) blocks_in (blocks, (reg, r)) H.own).home

  pub block_live : (o b : ℕ) → HomeIs l ops_in o m (Some b) → Live (state_of l m) (blk, b)
  unfolding rows_of
  block_live o b H = (S.sound.linked.link (op, o) ops_in (ops, (blk, b)) H.own).home

  module _ (X : Thing) where
    -- from the operation that the region is of, or from none
    pub region_from : (r : ℕ) (h : Option ℕ) (s : Step) → (X ≡ (reg, r) → ⊥) → HomeIs l regs r m h → MatchOption h (s ≡ Ended) (λ p. s ≡ At p) → StepIs (state_of l m) X (reg, r) (λ n. suc n) s
    unfolding rows_of
    region_from r None s d H e = subst (StepIs (state_of l m) X (reg, r) (λ n. suc n)) (sym e) (region_top S.sound X r d H.own)
    region_from r (Some p) s d H e = subst (StepIs (state_of l m) X (reg, r) (λ n. suc n)) (sym e) (region_up S.sound X r p d H.own)

    pub block_end : (b : ℕ) → (X ≡ (blk, b) → ⊥) → HomeIs l blocks_in b m None → StepIs (state_of l m) X (blk, b) (λ n. suc (suc n)) Ended
    block_end b d H = block_top S.sound X b d H.own

    pub block_on : (b r : ℕ) (s : Step) → (X ≡ (blk, b) → ⊥) → HomeIs l blocks_in b m (Some r) → StepIs (state_of l m) X (reg, r) (λ n. suc n) s → StepIs (state_of l m) X (blk, b) (λ n. suc (suc n)) s
    unfolding rows_of
    block_on b r s d H T = block_up S.sound X b r s d H.own T

    pub operation_end : (o t : ℕ) → (X ≡ (op, o) → ⊥) → HomeIs l ops_in o m None → t ≢ 0 → Says false (0 < climbed (up (state_of l m)) (thrice t) X (op, o))
    operation_end o t d H n = operation_top S.sound X o d t n H.own

    pub operation_on : (o b t : ℕ) (r : Bool) → (X ≡ (op, o) → ⊥) → HomeIs l ops_in o m (Some b) → t ≢ 0 → Says r (0 < climbed (up (state_of l m)) (suc (suc (thrice (t - 1)))) X (blk, b)) → Says r (0 < climbed (up (state_of l m)) (thrice t) X (op, o))
    unfolding rows_of
    operation_on o b t r d H n says = operation_up S.sound X o d t b r n H.own says
