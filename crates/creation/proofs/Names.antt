-- The definitions that a record lists: all there, or the first that is missing. Assumes nothing.
use mathlib.Core.Path.{◌≡◌, refl, sym, ap, ◌∙◌, subst}
use mathlib.Core.Logic.{by_cases}
use mathlib.Core.List.{List, [], ◌∷◌, ◌++◌, map}
use Prim.Native.Nat.{ℕ, zero, suc, ◌+◌, ◌-◌, ◌≤◌, ◌<◌}
use native.Mathlib.Decide.{ℕ_discrete}
use native.Mathlib.Omega.{arith}
use lib.ListN.{length, get_or}
use Rattle.edit.specs.declared.Refusal.{Refusal}
use Rattle.edit.specs.Kinds.{number_of}
use Rattle.edit.specs.Record.{Slot, part}
use Rattle.edit.proofs.Numbers.{number_of-positive}
use Rattle.edit.proofs.Asked.{part_length, part_at}
use Rattle.rules.specs.History.{History}
use Rattle.rules.specs.Refusal.{Name, definition_named, missing, first_missing}
use Rattle.places.specs.Store.{Kind, State, Live}
use Rattle.places.specs.View.{num}
use Rattle.places.specs.Hist.{rule_state, meaning}
use Rattle.places.specs.Roles.{Unnamed, missing_code, def_kind}
use Rattle.places.proofs.RuleRefusals.{missing_first, missing_next, definition_there, definition_missing}
use Rattle.places.proofs.RuleAccept.{ended_of}
use Rattle.context.specs.declared.Layout.{Layout}
use Rattle.context.specs.Memory.{state_of, SoundStore}
use Rattle.context.specs.Performed.{abs}
use Rattle.creation.specs.Made.{Named, NamesIs}

-- ---- names in a row

module _ (h : History) (f : ℕ → Name) where
  missing_at : (l : List ℕ) (j c : ℕ) (xs : List Name) → j < length l → ((i : ℕ) → i < j → missing h (f (get_or l i 0)) ≡ 0) → missing h (f (get_or l j 0)) ≡ suc c → first_missing h (map f l ++ xs) ≡ suc c
  missing_at [] j c xs b a m = absurd (omega arith)
  missing_at (x ∷ l) zero c xs b a m = missing_first h (f x) (map f l ++ xs) c m
  missing_at (x ∷ l) (suc j) c xs b a m = missing_next h (f x) (map f l ++ xs) (a 0 (omega arith)) ∙ missing_at l j c xs (omega arith) (λ i k. a (suc i) (omega (arith, k))) m

  pub none_missing : (l : List ℕ) (xs : List Name) → ((i : ℕ) → i < length l → missing h (f (get_or l i 0)) ≡ 0) → first_missing h (map f l ++ xs) ≡ first_missing h xs
  none_missing [] xs a = refl
  none_missing (x ∷ l) xs a = missing_next h (f x) (map f l ++ xs) (a 0 (omega arith)) ∙ none_missing l xs (λ i k. a (suc i) (omega (arith, k)))

module _ {l : Layout} {m : List ℕ} (S : SoundStore l m) (sl : Slot) (fs : List ℕ) (at n : ℕ) (fit : at + n ≤ length fs) where
  abbrev P : State
  P = state_of l m

  pub name_there : (d : ℕ) → Named P (def_kind sl) d → missing (abs l m).history (definition_named sl d) ≡ 0
  unfolding abs meaning rule_state
  name_there d N = definition_there S.sound (ended_of P) sl N.place d N.live N.number

  name_lost : (d : ℕ) → Unnamed P (def_kind sl) d → missing (abs l m).history (definition_named sl d) ≡ missing_code (def_kind sl)
  unfolding abs meaning rule_state
  name_lost d u = definition_missing S.sound (ended_of P) sl d u

  abbrev Before : ℕ → Type 0
  Before j = (i : ℕ) → i < j → Named P (def_kind sl) (get_or fs (at + i) 0)

  pub all_there : Before n → (xs : List Name) → first_missing (abs l m).history (map (definition_named sl) (part fs at n) ++ xs) ≡ first_missing (abs l m).history xs
  all_there B xs = none_missing (abs l m).history (definition_named sl) (part fs at n) xs (λ i k. let k' : i < n = omega (arith, k, part_length fs at n fit) in ap (λ (d : ℕ). missing (abs l m).history (definition_named sl d)) (part_at fs at n i k') ∙ name_there (get_or fs (at + i) 0) (B i k'))

  pub names_done : (j : ℕ) → n ≤ j → Before j → NamesIs l sl fs at n m 0
  names_done j e B = record { lost = λ z. absurd (z refl); there = λ z i k. B i (omega (arith, e, k)) }

  module _ (j d : ℕ) (j< : j < n) (B : Before j) (d-is : d ≡ get_or fs (at + j) 0) (k : Kind) (k-is : k ≡ def_kind sl) where
    pub one_more : (p : ℕ) → Live P (k, p) × (num P (k, p) ≡ d) → Before (j + 1)
    one_more p F i h =
        by_cases (ℕ_discrete i j)
        (λ q. record { place = p; live = here.0; number = here.1 ∙ d-is ∙ ap (λ (y : ℕ). get_or fs (at + y) 0) (sym q) })
        (λ q. B i (omega (arith, h, q)))
      where
        here : Live P (def_kind sl, p) × (num P (def_kind sl, p) ≡ d)
        here = subst (λ (x : Kind). Live P (x, p) × (num P (x, p) ≡ d)) k-is F

    pub one_lost : (r : Refusal) → Unnamed P k d × (number_of r ≡ missing_code k) → NamesIs l sl fs at n m (number_of r)
    one_lost r u = record { lost = λ z xs. all xs; there = λ z. absurd (omega (arith, z, number_of-positive r)) }
      where
        c : ℕ
        c = number_of r

        c_suc : c ≡ suc (c - 1)
        c_suc = omega (arith, number_of-positive r)

        all : (xs : List Name) → first_missing (abs l m).history (map (definition_named sl) (part fs at n) ++ xs) ≡ c
        all xs =
            missing_at (abs l m).history (definition_named sl) (part fs at n) j (c - 1) xs (omega (arith, j<, part_length fs at n fit))
            (λ i h. let h' : i < n = omega (arith, h, j<) in ap (λ (y : ℕ). missing (abs l m).history (definition_named sl y)) (part_at fs at n i h') ∙ name_there (get_or fs (at + i) 0) (B i h))
            (ap (λ (y : ℕ). missing (abs l m).history (definition_named sl y)) (part_at fs at n j j< ∙ sym d-is) ∙ name_lost d (subst (λ (x : Kind). Unnamed P x d) k-is u.0) ∙ sym (u.1 ∙ ap missing_code k-is) ∙ c_suc)
            ∙ sym c_suc
