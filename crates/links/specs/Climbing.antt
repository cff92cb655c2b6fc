-- The climb behind refusal 17: from a thing to what it lies in, step by step, until it meets x or ends.
-- Assumes nothing: these are definitions.
use Rattle.std.specs.Prelude.{◌≡◌, ◌↔◌, ℕ, zero, suc, ◌+◌, ◌<◌}
use Rattle.std.proofs.Math.Option.{Option}
use Rattle.seqs.specs.Seqs.{tick}
use Rattle.places.specs.Store.{op, Thing, Thing-dec, State, Live, up}
use Rattle.places.specs.Walk.{over}
use Rattle.edit.specs.Record.{Member, operation, block}
use Rattle.links.specs.declared.Step.{Step}
use Rattle.links.specs.declared.Step.TheVariants.{Ended, Met, At}

-- how often x is met in n steps up from y
abbrev pub climbed : (Thing → Option Thing) → ℕ → Thing → Thing → ℕ
climbed u zero x y = 0
climbed u (suc n) x y = tick (Thing-dec y x) + over (u y) (climbed u n x)

-- three steps for each operation
abbrev pub thrice : ℕ → ℕ
thrice zero = zero
thrice (suc n) = suc (suc (suc (thrice n)))

-- what a part of the climb says of the whole: nothing is met where it ended, x where it met it, and else what f says of the
-- operation that it came to
abbrev pub reached : (ℕ → ℕ) → Step → ℕ
reached f Ended = 0
reached f Met = 1
reached f (At p) = f p

-- s is the climb from y to the next operation: it takes as many steps as g adds
pub record StepIs (P : State) (x y : Thing) (g : ℕ → ℕ) (s : Step) : Type 0 where
  pub met : (n : ℕ) → (0 < climbed (up P) (g n) x y) ↔ (0 < reached (λ p. climbed (up P) n x (op, p)) s)
  pub live : (p : ℕ) → s ≡ At p → Live P (op, p)

-- the steps from a member's container, a block or a region, to an operation, before n more
abbrev pub container_steps : Member → ℕ → ℕ
container_steps operation n = suc (suc n)
container_steps block n = suc n
