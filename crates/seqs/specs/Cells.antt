-- What a stored number says where 0 stands for none and n + 1 for n. Assumes nothing: these are definitions.
use Rattle.std.specs.Prelude.{ℕ, zero, suc, Option, Some, None}

-- what is stored for a number or none
abbrev pub code : Option ℕ → ℕ
code None = 0
code (Some k) = suc k

-- what a stored number means
abbrev pub decoded : ℕ → Option ℕ
decoded zero = None
decoded (suc k) = Some k
