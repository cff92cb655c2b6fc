-- Parts of a table that are lent to be read, and the answers of tests over them. Assumes nothing.
use Rattle.std.proofs.Common.{◌≡◌, ◌∙◌, ap, ⊎_elim, ℕ, ◌+◌, ◌-◌, ◌≤◌, ◌<◌, Bool, true, false, eqb, MatchBool, List, length, get_or, take, drop, arith, subst, sym}
use Rattle.std.proofs.lemmas.Bool.{cases_eq, eq-eqb, ne_eqb}
use Rattle.std.proofs.lemmas.List.{get_or-take, get_or-drop, get_or_default}
use Rattle.seqs.specs.Seqs.{Says}

-- cell i of the cells from a to e is cell j
pub part_get : (a e : ℕ) (t : List ℕ) (i j d : ℕ) → e ≤ length t → a + i < e → a + i ≡ j → get_or (take (e - a) (drop a t)) i d ≡ get_or t j 0
part_get a e t i j d f l q = get_or-take (e - a) (drop a t) i d (omega arith) ∙ get_or-drop a t i d ∙ get_or_default t (a + i) d 0 (omega arith) ∙ ap (λ (k : ℕ). get_or t k 0) q

-- where the answer has one meaning at true, and one at false
pub says_match : (r : Bool) {P Yes No : Type 0} → MatchBool r Yes No → (Yes → P) → (No → P → ⊥) → Says r P
says_match true h f g = f h
says_match false h f g = g h

pub says_false : (r : Bool) {P : Type 0} → r ≡ false → (P → ⊥) → Says r P
says_false r {P} e h = subst (λ (x : Bool). Says x P) (sym e) h

pub says_eqb : (a b : ℕ) {P : Type 0} → (a ≡ b → P) → (P → a ≡ b) → Says (eqb a b) P
says_eqb a b {P} f g = ⊎_elim
    (λ e. subst (λ (x : Bool). Says x P) (sym (eq-eqb a b e)) (f e))
    (λ d. says_false (eqb a b) (ne_eqb a b d) (λ p. d (g p))) (cases_eq a b)
