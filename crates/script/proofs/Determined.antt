-- The places of everything after a script are determined: whatever runs the same bytes on the same words, with room for as many answers, leaves the same
-- tables. Assumes nothing.
use mathlib.Core.Path.{◌≡◌, sym, ap, ap₂, ◌∙◌, subst}
use mathlib.Core.List.{List, []}
use Prim.Native.Nat.{ℕ, suc}
use Rattle.edit.specs.Record.{Cut, nothing, broken, whole, Read, read}
use Rattle.rules.specs.Step.{obey}
use Rattle.places.specs.Store.{Kind, Table}
use Rattle.places.specs.Settled.{Settled}
use Rattle.places.specs.Alias.{RState}
use Rattle.places.proofs.Determined.{same_tables}
use Rattle.context.specs.declared.Layout.{Layout}
use Rattle.context.specs.Memory.{state_of, SoundStore}
use Rattle.context.specs.Performed.{abs}
use Rattle.sound.proofs.Determined.{blank}
use Rattle.script.specs.Calls.{Over, Turned, Course, over, next}

-- the same things at the same places, and the same meaning
pub record Alike (l : Layout) (m n : List ℕ) : Type 0 where
  pub tables : (k : Kind) → (state_of l m).tab k ≡ (state_of l n).tab k
  pub state : abs l m ≡ abs l n

-- one record
turned_alike : {l : Layout} {q : Read} {m n m' n' : List ℕ} → SoundStore l m → Alike l m n → Turned l q m m' → Turned l q n n' → Alike l m' n'
unfolding abs
turned_alike {l} {q} {m} {n} {m'} {n'} S A T U =
    let same : abs l m' ≡ abs l n' = T.state ∙ ap (λ (s : RState). (obey s q).1) A.state ∙ sym U.state in
    record { tables = same_tables S.sound (blank l m) T.places (record { table = λ k. subst (λ (t : Table). Settled t ((state_of l n').tab k)) (sym (A.tables k)) (U.places.table k) }) same; state = same }

-- the parts of a record that was cut off
abbrev kind_in : Cut → ℕ
kind_in nothing = 0
kind_in broken = 0
kind_in (whole kind fs rest) = kind

abbrev fields_in : Cut → List ℕ
fields_in nothing = []
fields_in broken = []
fields_in (whole kind fs rest) = fs

abbrev rest_in : Cut → List ℕ
rest_in nothing = []
rest_in broken = []
rest_in (whole kind fs rest) = rest

not_over : (c : Cut) (room kind : ℕ) (fs rest : List ℕ) → c ≡ whole kind fs rest → Over c (suc room) → ⊥
not_over c room kind fs rest e o = subst (λ (x : Cut). Over x (suc room)) e o

-- two cuts of the same bytes are one record and one rest
same_record : {l : Layout} {m n : List ℕ} (kind kind' : ℕ) (fs fs' rest rest' : List ℕ) → whole kind' fs' rest' ≡ whole kind fs rest → Turned l (read kind' fs') m n → Turned l (read kind fs) m n
same_record {l} {m} {n} kind kind' fs fs' rest rest' q T = subst (λ (x : Read). Turned l x m n) (ap₂ read (ap kind_in q) (ap fields_in q)) T

same_rest : {l : Layout} {m n : List ℕ} {room : ℕ} (kind kind' : ℕ) (fs fs' rest rest' : List ℕ) → whole kind' fs' rest' ≡ whole kind fs rest → Course l rest' room m n → Course l rest room m n
same_rest {l} {m} {n} {room} kind kind' fs fs' rest rest' q C = subst (λ (r : List ℕ). Course l r room m n) (ap rest_in q) C

-- the theorem
pub places_determined : {l : Layout} {bytes m n m' n' : List ℕ} {room : ℕ} → SoundStore l m → Alike l m n → Course l bytes room m m' → Course l bytes room n n' → Alike l m' n'
places_determined S A (over o) (over p) = A
places_determined S A (over o) (next kind fs rest e T C) = absurd (not_over _ _ kind fs rest e o)
places_determined S A (next kind fs rest e T C) (over p) = absurd (not_over _ _ kind fs rest e p)
places_determined S A (next kind fs rest e T C) (next {m₁ = n₁} {m' = n₂} kind' fs' rest' e' T' C') =
    places_determined {n = n₁} {n' = n₂} T.sound
    (turned_alike S A T (same_record kind kind' fs fs' rest rest' (sym e' ∙ e) T'))
    C
    (same_rest kind kind' fs fs' rest rest' (sym e' ∙ e) C')
