-- What `all` over the places says, from what is said of each place. Assumes nothing.
use mathlib.Core.Path.{◌≡◌, ◌∙◌, subst}
use mathlib.Core.Bool.{Bool, true, false}
use mathlib.Core.List.{List}
use native.Mathlib.Omega.{arith}
use Prim.Native.Nat.{ℕ, ◌<◌}
use lib.ListN.{length}
use denote.Param.Members.{Mut}
use Rattle.std.specs.Bool.{MatchBool}
use Rattle.std.specs.Fn.{Called}
use Rattle.std.specs.Iterator.{YieldsThen}
use Rattle.std.specs.List.{range_with_len, FoldsTo, AllWithin, HoldsAt}
use Rattle.std.specs.Option.{MatchOption}
use Rattle.std.specs.Prelude.{Option}
use Rattle.std.specs.declared.ops.Range.{Range}
use Rattle.std.proofs.iter.Yields.{nat_range_steps}
use Rattle.std.proofs.lemmas.Iterator.{YieldsList-from_range, cases_from_all}
use Rattle.std.proofs.lemmas.List.FromFn.{length-range_with_len, get_or-range_with_len}
use Rattle.seqs.specs.Seqs.{Says}

each_place : (n : ℕ) (P : ℕ → Type 0) (r : Bool) → MatchBool r (AllWithin P (range_with_len 0 n) 0 (length (range_with_len 0 n))) ((k : ℕ) × (k < length (range_with_len 0 n)) × HoldsAt (λ x. P x → ⊥) (range_with_len 0 n) k) → Says r ((q : ℕ) → q < n → P q)
each_place n P true h = λ q l. subst P (get_or-range_with_len 0 n q 0 l ∙ omega arith) (h q 0 (omega arith) (omega (arith, length-range_with_len 0 n)))
each_place n P false (k, l, h) = let w : k < n = omega (arith, length-range_with_len 0 n) in λ D. subst (λ (x : ℕ). P x → ⊥) (get_or-range_with_len 0 n k 0 w ∙ omega arith) (h 0) (D k w)

-- `all` over 0..n, where the closure says whether P holds of a place
pub says_all : {F : Type 0} {g : Mut F (ℕ × Unit {0}) Bool} {s : Range ℕ} (u : Range ℕ) (f : F) (n : ℕ) (P : ℕ → Type 0) (r : Bool) → s ≡ record { start = 0; end = n }
    → (xs : List ℕ) × (o : Option ℕ) × (j : F) × YieldsThen nat_range_steps s xs o u × FoldsTo (λ p x q. Called g p (x, tt) true q) f xs j × MatchOption o (r ≡ true) (λ x. (r ≡ false) × ((h : F) × Called g j (x, tt) false h))
    → ((x : ℕ) (b : Bool) (q : F) → Called g f (x, tt) b q → (q ≡ f) × Says b (P x)) → Says r ((q : ℕ) → q < n → P q)
says_all u f n P r e ran here = each_place n P r (cases_from_all u f r P (λ x. P x → ⊥) ran (YieldsList-from_range 0 n n e (omega arith)) (λ x q k. here x true q k) (λ x q k. (here x false q k).1))
