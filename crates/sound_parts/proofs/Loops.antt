-- What a loop over the places says, from what is said of each place. Assumes nothing.
use mathlib.Core.Path.{◌≡◌, sym, ◌∙◌, subst}
use mathlib.Core.Bool.{Bool, true, false}
use mathlib.Core.List.{List}
use Prim.Native.Nat.{ℕ, suc, ◌<◌}
use lib.ListN.{get_or}
use Rattle.seqs.specs.Seqs.{Says}
use Rattle.seqs.proofs.Says.{says_map, says_no, says_yes}
use Rattle.table.specs.Table.{stamp}
use Rattle.linked_list.specs.Links.{home}
use Rattle.sound_parts.specs.Tests.{HomesPass, HomesFound, Must, Short, Slots}

-- the nodes in lists live, and so does what has the lists, where P says when that lives
says_homes : (nc nn : ℕ) (s tn : List ℕ) (B : ℕ → Bool → Type 0) (P : ℕ → Type 0) (r : Bool) → HomesPass nc nn s tn B r → ((k : ℕ) (b : Bool) → B k b → Says b (P k)) → Says r ((q : ℕ) → q < nn → (k : ℕ) → get_or s (home nc nn q) 0 ≡ suc k → (0 < stamp nn tn q) × P k)
says_homes nc nn s tn B P true found h = λ q l k e. let z = found q k l e in (z.0, h k true z.1)
says_homes nc nn s tn B P false found h = λ D. found (λ q k l e. let z = D q l k e in (z.0, λ b. h k false b z.1))

-- ---- the same by as many lists as their owners' places say

module _ {c nc : ℕ} (S : c ≡ nc) {nn : ℕ} {s : List ℕ} where
  pub homes_as : {tn : List ℕ} {B : ℕ → Bool → Type 0} (P : ℕ → Type 0) {r : Bool} → HomesFound c nn s tn B r → ((k : ℕ) (b : Bool) → B k b → Says b (P k)) → Says r ((q : ℕ) → q < nn → (k : ℕ) → get_or s (home nc nn q) 0 ≡ suc k → (0 < stamp nn tn q) × P k)
  homes_as {tn} {B} P {r} f h = rw S at (says_homes c nn s tn B P r f.found h)

pub listed_as : {c nc m nn : ℕ} (s t : List ℕ) (r : Bool) → c ≡ nc → m ≡ nn → Says r (Must c nn s t × Short c m s) → Says r (Must nc nn s t × Short nc nn s)
listed_as s t r S e h = rw (S, e) at h

pub slots_as : {c d : ℕ} (o v u : ℕ) (to tu ss s : List ℕ) (r : Bool) → c ≡ d → Says r (Slots o v c u to tu ss s) → Says r (Slots o v d u to tu ss s)
slots_as o v u to tu ss s r S h = rw S at h

-- ---- two tests, one after the other

pub says_both : (v a b : Bool) (P Q : Type 0) → v ≡ b → a ≡ true → Says a P → Says b Q → Says v (P × Q)
says_both v a b P Q e t p q = subst (λ (x : Bool). Says x (P × Q)) (sym e) (says_map b (λ y. (says_yes a P t p, y)) (λ z. z.1) q)

pub says_first : (v a : Bool) (P Q : Type 0) → v ≡ a → a ≡ false → Says a P → Says v (P × Q)
says_first v a P Q e n p = subst (λ (x : Bool). Says x (P × Q)) (sym (e ∙ n)) (λ z. says_no a P n p z.0)

-- the last test decides; a test that failed does
pub says_last : (v b : Bool) (P Q R : Type 0) → v ≡ true → Says v P → (P → Q → R) → (R → Q) → Says b Q → Says b R
says_last v b P Q R t p f g q = says_map b (f (says_yes v P t p)) g q

pub says_failed : (v : Bool) (P R : Type 0) → v ≡ false → Says v P → (R → P) → Says v R
says_failed v P R n p g = subst (λ (x : Bool). Says x R) (sym n) (λ r. says_no v P n p (g r))
