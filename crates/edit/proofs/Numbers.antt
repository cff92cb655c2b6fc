-- The numbers of refusals and of kinds. Assumes nothing.
use Rattle.std.proofs.Common.{rules, ◌≡◌, refl, sym, ap, ◌∙◌, arith, ℕ, ◌+◌, ◌-◌, ◌<◌, ◌≤◌, List, [], ◌∷◌, map, get_or, inl, inr, Option, Some, None, Result, Ok, Err, Bor}
use Rattle.std.specs.List.{range_with_len}
use Rattle.std.proofs.Math.ListN.{get_or-eq_default}
use Rattle.std.proofs.lemmas.Bool.Decides.{leb_tells}
use Rattle.std.proofs.lemmas.List.{get_or-map}
use Rattle.std.proofs.lemmas.List.FromFn.{get_or-range_with_len}
use Rattle.std.specs.Option.{SomeIff, ok_or, option_copied}
use Rattle.std.specs.Slice.{IsItemAt}
use Rattle.edit.specs.Kinds.{number_of, code_of, kind_number, Names}
use Rattle.edit.specs.declared.Refusal.{Refusal}
use Rattle.edit.specs.declared.Refusal.TheVariants.{Malformed, UnknownKind, FieldCount, OverLimit, Capacity, Unsound, NoOperation, NoBlock, NoRegion, NoValue, NoUse, NoIndex, Used, UsedInside, Linked, Unlinked, InsideItself, StrayUser, ListFull, NoPlace, NoNumber, NoRoom}
use Rattle.edit.specs.declared.Kind.{Kind}
use Rattle.edit.specs.declared.Kind.TheVariants.{NewOperation, NewBlock, PushUse, InsertUse, ReplaceUse, RemoveUse, PopUse, PushValue, InsertValue, RemoveValue, PopValue, LinkAfter, LinkBefore, LinkFront, LinkBack, Unlink, MoveRegion, MoveUse, ReplaceSome, RetargetSome, DropUses, Erase, EraseRegion, Verdict}
use Rattle.edit.specs.declared.Slot.TheVariants.{Operand, Successor}
use Rattle.edit.specs.declared.Member.TheVariants as member
use Rattle.edit.specs.declared.Nested.TheVariants as nested
use Rattle.edit.specs.declared.TheConstants.{KINDS}

refusals : List Refusal
refusals =
    Malformed ∷ UnknownKind ∷ FieldCount ∷ OverLimit ∷ Capacity ∷ Unsound
    ∷ NoOperation ∷ NoBlock ∷ NoRegion ∷ NoValue ∷ NoUse ∷ NoIndex
    ∷ Used ∷ UsedInside ∷ Linked ∷ Unlinked ∷ InsideItself ∷ StrayUser
    ∷ ListFull ∷ NoPlace ∷ NoNumber ∷ NoRoom ∷ []

-- each refusal stands in that list at its number, from 1 on
listed : (r : Refusal) → get_or refusals (number_of r - 1) Malformed ≡ r
unfolding refusals
listed r = search rules

pub number_of-injective : (r s : Refusal) → number_of r ≡ number_of s → r ≡ s
number_of-injective r s e = sym (listed r) ∙ ap (λ (n : ℕ). get_or refusals (n - 1) Malformed) e ∙ listed s

pub number_of-positive : (r : Refusal) → 0 < number_of r
number_of-positive r = search (rules, arith)

-- the table's entry i is the kind with number 1 + i
kind_at : (i : ℕ) → i < 44 → kind_number (get_or KINDS i NewOperation) ≡ 1 + i
kind_at i h =
    let numbers : map kind_number KINDS ≡ range_with_len 1 44 = refl in
    sym (get_or-map kind_number KINDS i NewOperation 0 h) ∙ ap (λ (l : List ℕ). get_or l i 0) numbers ∙ get_or-range_with_len 1 44 i 0 h

-- each kind stands in the table at its number, from 1 on
tabled : (k : Kind) → get_or KINDS (kind_number k - 1) NewOperation ≡ k
tabled NewOperation = refl
tabled NewBlock = refl
tabled (PushUse Operand) = refl
tabled (PushUse Successor) = refl
tabled (InsertUse Operand) = refl
tabled (InsertUse Successor) = refl
tabled (ReplaceUse Operand) = refl
tabled (ReplaceUse Successor) = refl
tabled (RemoveUse Operand) = refl
tabled (RemoveUse Successor) = refl
tabled (PopUse Operand) = refl
tabled (PopUse Successor) = refl
tabled (PushValue member.Operation) = refl
tabled (PushValue member.Block) = refl
tabled (InsertValue member.Operation) = refl
tabled (InsertValue member.Block) = refl
tabled (RemoveValue member.Operation) = refl
tabled (RemoveValue member.Block) = refl
tabled (PopValue member.Operation) = refl
tabled (PopValue member.Block) = refl
tabled (LinkAfter member.Operation) = refl
tabled (LinkAfter member.Block) = refl
tabled (LinkBefore member.Operation) = refl
tabled (LinkBefore member.Block) = refl
tabled (LinkFront member.Operation) = refl
tabled (LinkFront member.Block) = refl
tabled (LinkBack member.Operation) = refl
tabled (LinkBack member.Block) = refl
tabled (Unlink member.Operation) = refl
tabled (Unlink member.Block) = refl
tabled MoveRegion = refl
tabled (MoveUse Operand) = refl
tabled (MoveUse Successor) = refl
tabled ReplaceSome = refl
tabled RetargetSome = refl
tabled (DropUses nested.Operation) = refl
tabled (DropUses nested.Block) = refl
tabled (DropUses nested.Region) = refl
tabled (Erase member.Operation) = refl
tabled (Erase member.Block) = refl
tabled EraseRegion = refl
tabled (Verdict nested.Operation) = refl
tabled (Verdict nested.Block) = refl
tabled (Verdict nested.Region) = refl

pub kind_number-injective : (k l : Kind) → kind_number k ≡ kind_number l → k ≡ l
kind_number-injective k l e = sym (tabled k) ∙ ap (λ (n : ℕ). get_or KINDS (n - 1) NewOperation) e ∙ tabled l

-- and that is a place of the table
pub kind_number-to : (k : Kind) → kind_number k ≤ 44
kind_number-to k = elim (leb_tells (kind_number k) 44) [ inl h ↦ h.1 | inr h ↦ beyond h.1 ]
  where
    beyond : 44 < kind_number k → kind_number k ≤ 44
    beyond h = let e : kind_number NewOperation ≡ kind_number k = ap kind_number (sym (get_or-eq_default KINDS NewOperation {n = kind_number k - 1} (omega arith)) ∙ tabled k) in omega arith

pub kind_number-from : (k : Kind) → 1 ≤ kind_number k
kind_number-from k = elim (leb_tells 1 (kind_number k)) [ inl h ↦ h.1 | inr h ↦ below (omega (arith, h.1)) ]
  where
    below : kind_number k - 1 ≡ 0 → 1 ≤ kind_number k
    below h = let e : kind_number NewOperation ≡ kind_number k = ap kind_number (ap (λ (n : ℕ). get_or KINDS n NewOperation) (sym h) ∙ tabled k) in omega arith

-- ---- the kind with a number

-- nothing comes before the number of the first kind
pub names_none : (n : ℕ) (o : Option ℕ) (r : Refusal) → SomeIff o (1 ≤ n) (n - 1) → ok_or o UnknownKind ≡ Err r → Names n (Err r)
unfolding Names
names_none n None r h e = (number_of-injective r UnknownKind (sym (ap code_of e)), elim (leb_tells 1 n) [ inl y ↦ absurd (h y.1) | inr y ↦ inl (omega (arith, y.1)) ])
names_none n (Some x) r h e = absurd (omega (arith, ap code_of e, number_of-positive r))

-- the number before n, if there is one
before : (n i : ℕ) (o : Option ℕ) → SomeIff o (1 ≤ n) (n - 1) → ok_or o UnknownKind ≡ Ok i → n ≡ 1 + i
before n i None h e = absurd (omega (arith, ap code_of e))
before n i (Some x) h e = omega (arith, h.0, h.1, ap index_of e)
  where
    index_of : Result ℕ Refusal → ℕ
    index_of (Ok j) = j
    index_of (Err r) = 0

-- the table's entry, if there is one
pub names_entry : (n i : ℕ) (o : Option ℕ) (r : Option (Bor Kind)) → SomeIff o (1 ≤ n) (n - 1) → ok_or o UnknownKind ≡ Ok i → IsItemAt KINDS i r → Names n (ok_or (option_copied r) UnknownKind)
unfolding Names
names_entry n i o None h e g = (refl, inr (omega (arith, g.3, before n i o h e)))
names_entry n i o (Some x) h e g = ap kind_number (g.4 (omega arith) NewOperation) ∙ kind_at i g.3.0 ∙ sym (before n i o h e)
