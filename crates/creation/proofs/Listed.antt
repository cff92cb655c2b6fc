-- The lists of a record, number by number. Assumes nothing.
use mathlib.Core.Path.{◌≡◌, refl, ap, ◌∙◌}
use mathlib.Core.List.{List, [], ◌∷◌, ◌++◌}
use Prim.Native.Nat.{ℕ, ◌+◌, ◌<◌}
use native.Mathlib.Omega.{arith}
use native.Mathlib.Numerals.{add-one}
use lib.ListN.{length, get_or, take, drop}
use lib.Seq.{take-suc}
use Rattle.edit.specs.Record.{part}
use Rattle.edit.proofs.Asked.{rest_at, rest_length}

pub part_none : (fs : List ℕ) (from : ℕ) → part fs from 0 ≡ []
unfolding part
part_none fs from = refl

pub part_more : (fs : List ℕ) (from j : ℕ) → from + j < length fs → part fs from (j + 1) ≡ part fs from j ++ get_or fs (from + j) 0 ∷ []
unfolding part
part_more fs from j h =
    ap (λ (n : ℕ). take n (drop from fs)) (add-one j)
    ∙ take-suc (drop from fs) j 0 (omega (arith, h, rest_length fs from))
    ∙ ap (λ (x : ℕ). take j (drop from fs) ++ x ∷ []) (rest_at fs from j)
