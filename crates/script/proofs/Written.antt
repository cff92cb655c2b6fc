-- The words of answers: one more answer put behind those that are written, as an equation of the whole list. Assumes nothing.
use mathlib.Core.Path.{◌≡◌, refl, sym, ap, ◌∙◌}
use mathlib.Core.List.{List, [], ◌∷◌, ◌++◌, append_assoc}
use Prim.Native.Nat.{ℕ, suc, ◌+◌, ◌*◌, ◌≤◌, ◌<◌}
use native.Mathlib.Omega.{arith}
use lib.ListN.{length, get_or, take, drop, length-drop, take-append-drop}
use lib.Seq.{ext_get_or, get_or-take, get_or-drop, length-take-le, drop-cons, drop-drop, take_at, drop_at}
use Rattle.edit.specs.Answer.{Reply, Put}
use Rattle.script.specs.Calls.{flat}

pub flat_length : (rs : List Reply) → length (flat rs) ≡ 3 * length rs
unfolding flat
flat_length [] = refl
flat_length (r ∷ rs) = omega (arith, flat_length rs)

flat_more : (rs : List Reply) (r : Reply) → flat (rs ++ r ∷ []) ≡ flat rs ++ r.refusal ∷ r.a ∷ r.b ∷ []
unfolding flat
flat_more [] r = refl
flat_more (q ∷ rs) r = ap (λ (z : List ℕ). q.refusal ∷ q.a ∷ q.b ∷ z) (flat_more rs r)

-- the same words, from the same place
from : (m : List ℕ) (i j : ℕ) → i ≡ j → drop i m ≡ drop j m
from m i j e = ap (λ (i : ℕ). drop i m) e

-- a list whose words up to n, and from e on, are those of another
take_same : (n : ℕ) (m m' : List ℕ) → n ≤ length m → length m' ≡ length m → ((i : ℕ) → i < n → get_or m' i 0 ≡ get_or m i 0) → take n m' ≡ take n m
take_same n m m' h k f =
    ext_get_or 0 (take n m') (take n m) (length-take-le n m' (omega arith) ∙ sym (length-take-le n m h))
    (λ i j. let i< : i < n = omega (arith, length-take-le n m' (omega arith)) in get_or-take n m' i 0 i< ∙ f i i< ∙ sym (get_or-take n m i 0 i<))

drop_same : (n : ℕ) (m m' : List ℕ) → length m' ≡ length m → ((i : ℕ) → n ≤ i → get_or m' i 0 ≡ get_or m i 0) → drop n m' ≡ drop n m
drop_same n m m' k f =
    ext_get_or 0 (drop n m') (drop n m) (omega (arith, length-drop n m', length-drop n m))
    (λ i j. get_or-drop n m' i 0 ∙ f (n + i) (omega arith) ∙ sym (get_or-drop n m i 0))

-- the whole list after an answer was put at n
put_is : (m m' : List ℕ) (k : ℕ) (r : Reply) → 3 * k + 3 ≤ length m → Put m m' k r → m' ≡ take (3 * k) m ++ r.refusal ∷ r.a ∷ r.b ∷ drop (3 * k + 3) m
put_is m m' k r h P =
    sym (take-append-drop (3 * k) m')
    ∙ ap (λ (z : List ℕ). z ++ drop (3 * k) m') (take_same (3 * k) m m' (omega arith) P.long P.before)
    ∙ ap (λ (z : List ℕ). take (3 * k) m ++ z) three
  where
    one_more : (i : ℕ) → i < length m' → drop i m' ≡ get_or m' i 0 ∷ drop (suc i) m'
    one_more i j = drop-cons m' i 0 j

    rest : drop (3 * k + 3) m' ≡ drop (3 * k + 3) m
    rest = drop_same (3 * k + 3) m m' P.long P.after

    three : drop (3 * k) m' ≡ r.refusal ∷ r.a ∷ r.b ∷ drop (3 * k + 3) m
    three =
        one_more (3 * k) (omega (arith, P.long))
        ∙ ap (λ (z : ℕ). z ∷ drop (suc (3 * k)) m') (ap (λ (x : Reply). x.refusal) P.here)
        ∙ ap (λ (z : List ℕ). r.refusal ∷ z)
        (from m' (suc (3 * k)) (3 * k + 1) (omega arith) ∙ one_more (3 * k + 1) (omega (arith, P.long)) ∙ ap (λ (z : ℕ). z ∷ drop (suc (3 * k + 1)) m') (ap (λ (x : Reply). x.a) P.here)
        ∙ ap (λ (z : List ℕ). r.a ∷ z)
        (from m' (suc (3 * k + 1)) (3 * k + 2) (omega arith) ∙ one_more (3 * k + 2) (omega (arith, P.long)) ∙ ap (λ (z : ℕ). z ∷ drop (suc (3 * k + 2)) m') (ap (λ (x : Reply). x.b) P.here)
        ∙ ap (λ (z : List ℕ). r.b ∷ z) (from m' (suc (3 * k + 2)) (3 * k + 3) (omega arith) ∙ rest)))

-- one more answer behind those written
pub written_more : (rs : List Reply) (r : Reply) (k : ℕ) (out₀ out out' : List ℕ) → length rs ≡ k → 3 * k + 3 ≤ length out₀ → length out ≡ length out₀ → out ≡ flat rs ++ drop (3 * k) out₀ → Put out out' k r
    → out' ≡ flat (rs ++ r ∷ []) ++ drop (3 * (k + 1)) out₀
written_more rs r k out₀ out out' n h g w P =
    put_is out out' k r (omega arith) P
    ∙ ap (λ (z : List ℕ). z ++ r.refusal ∷ r.a ∷ r.b ∷ drop (3 * k + 3) out) first
    ∙ ap (λ (z : List ℕ). flat rs ++ r.refusal ∷ r.a ∷ r.b ∷ z) last
    ∙ sym (ap (λ (z : List ℕ). z ++ drop (3 * (k + 1)) out₀) (flat_more rs r) ∙ append_assoc (flat rs) (r.refusal ∷ r.a ∷ r.b ∷ []) (drop (3 * (k + 1)) out₀))
  where
    size : length (flat rs) ≡ 3 * k
    size = omega (arith, flat_length rs, n)

    first : take (3 * k) out ≡ flat rs
    first = ap (take (3 * k)) w ∙ take_at (flat rs) (drop (3 * k) out₀) (3 * k) size

    last : drop (3 * k + 3) out ≡ drop (3 * (k + 1)) out₀
    last =
        sym (drop-drop 3 (3 * k) out) ∙ ap (drop 3) (ap (drop (3 * k)) w ∙ drop_at (flat rs) (drop (3 * k) out₀) (3 * k) size)
        ∙ drop-drop 3 (3 * k) out₀ ∙ from out₀ (3 * k + 3) (3 * (k + 1)) (omega arith)
