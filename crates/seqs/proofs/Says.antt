-- A test's answer is handed on, and taken apart by an `if` on it. Assumes nothing.
use mathlib.Core.Path.{◌≡◌, subst}
use mathlib.Core.Bool.{Bool, true, false}
use Rattle.seqs.specs.Seqs.{Says}

-- one fact for another that holds exactly where it does
pub says_map : (b : Bool) {P Q : Type 0} → (P → Q) → (Q → P) → Says b P → Says b Q
says_map true f g h = f h
says_map false f g h = λ q. h (g q)

-- where a test on it failed, and where it held
pub says_no : (b : Bool) (P : Type 0) → b ≡ false → Says b P → P → ⊥
says_no b P e h = subst (λ (x : Bool). Says x P) e h

pub says_yes : (b : Bool) (P : Type 0) → b ≡ true → Says b P → P
says_yes b P e h = subst (λ (x : Bool). Says x P) e h
