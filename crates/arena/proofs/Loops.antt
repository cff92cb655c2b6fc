-- What a test over a range of places says, from what is said of each place. Assumes nothing.
use Rattle.std.proofs.Common.{◌≡◌, refl, ap, ◌∙◌, subst, List, Bool, true, false, ℕ, ◌+◌, ◌*◌, ◌%◌, ◌-◌, ◌≤◌, ◌<◌, length, arith, MatchBool}
use lib.ListN.{get_or-eq_default}
use denote.Param.Members.{Mut}
use Rattle.std.specs.Fn.{Called}
use Rattle.std.specs.Iterator.{YieldsThen}
use Rattle.std.specs.List.{range_with_len, FoldsTo, AllWithin, HoldsAt}
use Rattle.std.specs.Option.{MatchOption}
use Rattle.std.specs.Prelude.{Option}
use Rattle.std.specs.declared.ops.Range.{Range}
use Rattle.std.proofs.iter.Yields.{nat_range_steps}
use Rattle.std.proofs.lemmas.Iterator.{YieldsList-from_range, cases_from_all}
use Rattle.std.proofs.lemmas.List.FromFn.{length-range_with_len, get_or-range_with_len}
use Rattle.std.proofs.lemmas.Nat.Bits.{bit_at-zero}
use Rattle.seqs.specs.Seqs.{Says}
use Rattle.bits.specs.Map.{bit, digit}

each_within : (a b : ℕ) (P : ℕ → Type 0) (r : Bool) → MatchBool r (AllWithin P (range_with_len a (b - a)) 0 (length (range_with_len a (b - a)))) ((k : ℕ) × (k < length (range_with_len a (b - a))) × HoldsAt (λ x. P x → ⊥) (range_with_len a (b - a)) k) → Says r ((q : ℕ) → a ≤ q → q < b → P q)
each_within a b P true h = λ q l m. subst P (get_or-range_with_len a (b - a) (q - a) 0 (omega arith) ∙ omega arith) (h (q - a) 0 (omega arith) (omega (arith, length-range_with_len a (b - a))))
each_within a b P false (k, l, h) = let w : k < b - a = omega (arith, length-range_with_len a (b - a)) in λ D. subst (λ (x : ℕ). P x → ⊥) (get_or-range_with_len a (b - a) k 0 w) (h 0) (D (a + k) (omega arith) (omega arith))

-- `all` over a..b, where the closure says whether P holds of a place
pub says_within : {F : Type 0} {g : Mut F (ℕ × Unit {0}) Bool} {s : Range ℕ} (u : Range ℕ) (f : F) (a b : ℕ) (P : ℕ → Type 0) (r : Bool) → s ≡ record { start = a; end = b }
    → (xs : List ℕ) × (o : Option ℕ) × (j : F) × YieldsThen nat_range_steps s xs o u × FoldsTo (λ p x q. Called g p (x, tt) true q) f xs j × MatchOption o (r ≡ true) (λ x. (r ≡ false) × ((h : F) × Called g j (x, tt) false h))
    → ((x : ℕ) (y : Bool) (q : F) → Called g f (x, tt) y q → (q ≡ f) × Says y (P x)) → Says r ((q : ℕ) → a ≤ q → q < b → P q)
says_within u f a b P r e ran here = each_within a b P r (cases_from_all u f r P (λ x. P x → ⊥) ran (YieldsList-from_range a b (b - a) e refl) (λ x q k. here x true q k) (λ x q k. (here x false q k).1))

-- past the last cell no place is marked
pub none_past : (b : List ℕ) (p : ℕ) → 32 * length b ≤ p → bit b p ≡ 0
none_past b p l = ap (λ (x : ℕ). digit x (p % 32)) (get_or-eq_default b 0 (omega arith)) ∙ bit_at-zero (p % 32)
