-- The rules' run of a script: no more fuel than the bytes need, and its turns at a position. Assumes nothing.
use mathlib.Core.Path.{◌≡◌, refl, ap, ◌∙◌}
use mathlib.Core.Logic.{◌≢◌}
use mathlib.Core.Bool.{Bool, true, false}
use mathlib.Core.List.{List, [], ◌∷◌, ◌++◌}
use Prim.Native.Nat.{ℕ, zero, suc, ◌+◌, ◌-◌, ◌*◌, ◌<◌}
use native.Mathlib.Omega.{arith}
use lib.ListN.{length, take, drop, length-drop}
use Rattle.edit.specs.Record.{Cut, nothing, broken, whole, cut, words, length_ok, read}
use Rattle.edit.specs.Answer.{Reply, refuse}
use Rattle.rules.specs.Step.{obey}
use Rattle.rules.specs.Script.{ended_with, after_reply, turn, run_by, run}
use Rattle.rules.specs.Script as Rules
use Rattle.places.specs.Alias.{RState}
use Rattle.script.specs.Records.{before}

-- what follows a whole record is shorter
shorter : (bytes : List ℕ) (k : ℕ) (fs rest : List ℕ) → cut bytes ≡ whole k fs rest → length rest < length bytes
unfolding cut
shorter [] k fs rest e = absurd (let z : ◌≡◌ {A = ℕ} 0 1 = cc in omega arith)
shorter (a ∷ []) k fs rest e = absurd (let z : ◌≡◌ {A = ℕ} 0 1 = cc in omega arith)
shorter (a ∷ b ∷ []) k fs rest e = absurd (let z : ◌≡◌ {A = ℕ} 0 1 = cc in omega arith)
shorter (a ∷ b ∷ c ∷ []) k fs rest e = absurd (let z : ◌≡◌ {A = ℕ} 0 1 = cc in omega arith)
shorter (a ∷ b ∷ c ∷ d ∷ r) k fs rest e = go (length_ok (a + 256 * b) (4 + length r)) e
  where
    go : (t : Bool) → elim t [ true ↦ whole (c + 256 * d) (words (take (a + 256 * b - 4) r)) (drop (a + 256 * b - 4) r) | false ↦ broken ] ≡ whole k fs rest → length rest < suc (suc (suc (suc (length r))))
    go true e = let z : drop (a + 256 * b - 4) r ≡ rest = cc in omega (arith, ap length z, length-drop (a + 256 * b - 4) r)
    go false e = absurd (let z : ◌≡◌ {A = ℕ} 0 1 = cc in omega arith)

-- bytes that are left are cut off or broken
pub some_left : (bytes : List ℕ) → 0 < length bytes → cut bytes ≢ nothing
unfolding cut
some_left [] h e = omega arith
some_left (a ∷ []) h e = let z : ◌≡◌ {A = ℕ} 0 1 = cc in omega arith
some_left (a ∷ b ∷ []) h e = let z : ◌≡◌ {A = ℕ} 0 1 = cc in omega arith
some_left (a ∷ b ∷ c ∷ []) h e = let z : ◌≡◌ {A = ℕ} 0 1 = cc in omega arith
some_left (a ∷ b ∷ c ∷ d ∷ r) h e = go (length_ok (a + 256 * b) (4 + length r)) e
  where
    go : (t : Bool) → elim t [ true ↦ whole (c + 256 * d) (words (take (a + 256 * b - 4) r)) (drop (a + 256 * b - 4) r) | false ↦ broken ] ≢ nothing
    go true e = let z : ◌≡◌ {A = ℕ} 0 1 = cc in omega arith
    go false e = let z : ◌≡◌ {A = ℕ} 0 1 = cc in omega arith

-- 22 comes for whatever is left where no answer has room
pub turn_full : (on : ℕ → RState → List ℕ → Rules.Ran) (s : RState) (bytes : List ℕ) (room : ℕ) → 0 < length bytes → room ≡ 0 → turn on s (cut bytes) room ≡ ended_with 22 [] s
unfolding turn
turn_full on s bytes room h e = ap (turn on s (cut bytes)) e ∙ go (cut bytes) (some_left bytes h)
  where
    go : (c : Cut) → c ≢ nothing → turn on s c 0 ≡ ended_with 22 [] s
    go nothing n = absurd (n refl)
    go broken n = refl
    go (whole kind fs rest) n = refl

pub turn_broken : (on : ℕ → RState → List ℕ → Rules.Ran) (s : RState) (c : Cut) (room k : ℕ) → c ≡ broken → room ≡ suc k → turn on s c room ≡ ended_with 0 (refuse 1 ∷ []) s
unfolding turn
turn_broken on s c room k e r = ap (λ (x : Cut). turn on s x room) e ∙ ap (turn on s broken) r

pub turn_whole : (on : ℕ → RState → List ℕ → Rules.Ran) (s : RState) (c : Cut) (room k kind : ℕ) (fs rest : List ℕ) → c ≡ whole kind fs rest → room ≡ suc k
    → turn on s c room ≡ after_reply (obey s (read kind fs)).0 (on k (obey s (read kind fs)).1 rest)
unfolding turn
turn_whole on s c room k kind fs rest e r = ap (λ (x : Cut). turn on s x room) e ∙ ap (turn on s (whole kind fs rest)) r

-- more fuel than bytes changes nothing
more_fuel : (f g room : ℕ) (s : RState) (bytes : List ℕ) → length bytes < f → length bytes < g → run_by f room s bytes ≡ run_by g room s bytes
unfolding run_by turn
more_fuel zero g room s bytes p q = absurd (omega arith)
more_fuel (suc f) zero room s bytes p q = absurd (omega arith)
more_fuel (suc f) (suc g) room s bytes p q = go (more_fuel f g) (cut bytes) refl room
  where
    go : ((room : ℕ) (s : RState) (rest : List ℕ) → length rest < f → length rest < g → run_by f room s rest ≡ run_by g room s rest) → (c : Cut) → cut bytes ≡ c → (room : ℕ) → turn (run_by f) s c room ≡ turn (run_by g) s c room
    go ih nothing e room = refl
    go ih broken e zero = refl
    go ih broken e (suc room) = refl
    go ih (whole kind fs rest) e zero = refl
    go ih (whole kind fs rest) e (suc room) = let h : length rest < length bytes = shorter bytes kind fs rest e in ap (after_reply (obey s (read kind fs)).0) (ih room (obey s (read kind fs)).1 rest (omega arith) (omega arith))

-- a run is its first turn, and then a run
pub run_turn : (room : ℕ) (s : RState) (bytes : List ℕ) → run room s bytes ≡ turn (run_by (length bytes)) s (cut bytes) room
unfolding run run_by
run_turn room s bytes = refl

pub run_on : (f room : ℕ) (s : RState) (bytes : List ℕ) → length bytes < f → run_by f room s bytes ≡ run room s bytes
unfolding run
run_on f room s bytes h = more_fuel f (suc (length bytes)) room s bytes h (omega arith)

pub run_none : (room : ℕ) (s : RState) (bytes : List ℕ) → length bytes ≡ 0 → run room s bytes ≡ ended_with 0 [] s
unfolding run run_by turn cut
run_none room s [] h = refl
run_none room s (x ∷ bytes) h = absurd (omega arith)

-- answers before a run that ends, and before one that has one more
pub before_ended : (rs xs : List Reply) (n : ℕ) (s : RState) → before rs (ended_with n xs s) ≡ ended_with n (rs ++ xs) s
unfolding before ended_with after_reply
before_ended [] xs n s = refl
before_ended (r ∷ rs) xs n s = ap (after_reply r) (before_ended rs xs n s)

pub before_more : (rs : List Reply) (r : Reply) (x : Rules.Ran) → before (rs ++ r ∷ []) x ≡ before rs (after_reply r x)
unfolding before
before_more [] r x = refl
before_more (q ∷ rs) r x = ap (after_reply q) (before_more rs r x)
