-- The empty store is sound. Assumes nothing.
use mathlib.Core.Path.{◌≡◌, refl}
use mathlib.Core.Option.{Option, none, some}
use native.Mathlib.Omega.{arith}
use Prim.Native.Nat.{ℕ}
use Rattle.places.specs.Store.{Kind, alive, owns, up_by, nest, up, Ends, Sound, Fam, empty}
use Rattle.places.proofs.Steps.{some_none}

up_none : (n : Option Fam) → up_by (λ f. none) n ≡ none
up_none none = refl
up_none (some f) = refl

pub empty_sound : (cap : Kind → ℕ) → Sound (empty cap)
unfolding empty owns up alive
empty_sound cap =
    record {
      linked =
          record {
            tabs = λ k. record { rises = tt; below = λ p i. absurd (omega arith); fits = λ p i. absurd (omega arith) };
            held = λ r c x. refl;
            link = λ x f c e. absurd (some_none e refl);
            short = λ c r m. omega arith;
            flags = λ p h. omega arith;
            ends = λ x. Ends.top (up_none (nest x.0));
          };
      placed = λ x h. absurd (omega arith);
    }
