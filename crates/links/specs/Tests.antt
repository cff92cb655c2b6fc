-- What the tests before an edit of a list say: the refusal, or the places of the things that it names.
-- Assumes nothing: these are definitions.
use Rattle.std.specs.Prelude.{◌≡◌, List, ℕ, Result, Ok, Err}
use Rattle.std.proofs.Math.Option.{none, some}
use Rattle.places.specs.Store.{State, Live, Clear, up}
use Rattle.places.specs.View.{num}
use Rattle.places.specs.Members.{member_at, container_at, place_list_at, home_of}
use Rattle.edit.specs.declared.Refusal.{Refusal}
use Rattle.edit.specs.Kinds.{number_of}
use Rattle.edit.specs.Record.{Member, Edit, link_after, link_before, link_front, link_back}
use Rattle.rules.specs.Refusal.{refusal_of}
use Rattle.context.specs.declared.Layout.{Layout}
use Rattle.context.specs.Memory.{state_of}
use Rattle.context.specs.Performed.{abs}

-- the member at n, which has the number x, may come to stand in the container at c
pub record MayEnter (P : State) (w : Member) (x n c : ℕ) : Type 0 where
  pub live : Live P (member_at w n)
  pub named : num P (member_at w n) ≡ x
  pub home : Live P (container_at w c)
  pub free : home_of P w n ≡ none
  pub clear : Clear (up P) (member_at w n) (container_at w c)

-- two edits that are refused alike: at the front and at the back, or after and before
pub record Refuses (l : Layout) (e e' : Edit) (m : List ℕ) (t : ℕ) : Type 0 where
  pub first : refusal_of (abs l m) e ≡ t
  pub second : refusal_of (abs l m) e' ≡ t

-- a member and a container were looked at
pub record Entering (l : Layout) (w : Member) (x y n c : ℕ) (m : List ℕ) : Type 0 where
  pub may : MayEnter (state_of l m) w x n c
  pub container : num (state_of l m) (container_at w c) ≡ y
  pub none : Refuses l (link_front w x y) (link_back w x y) m 0

abbrev pub EnterTested : Layout → Member → ℕ → ℕ → List ℕ → Result (ℕ × ℕ) Refusal → Type 0
EnterTested l w x y m (Err e) = Refuses l (link_front w x y) (link_back w x y) m (number_of e)
EnterTested l w x y m (Ok (n, c)) = Entering l w x y n c m

-- a member and a mark were looked at: k is the mark's place, c its container's
pub record Beside (l : Layout) (w : Member) (x y n k : ℕ) (m : List ℕ) : Type 0 where
  pub container : ℕ
  pub may : MayEnter (state_of l m) w x n container
  pub mark : num (state_of l m) (member_at w k) ≡ y
  pub there : home_of (state_of l m) w k ≡ some (place_list_at w container)
  pub none : Refuses l (link_after w x y) (link_before w x y) m 0

abbrev pub BesideTested : Layout → Member → ℕ → ℕ → List ℕ → Result (ℕ × ℕ) Refusal → Type 0
BesideTested l w x y m (Err e) = Refuses l (link_after w x y) (link_before w x y) m (number_of e)
BesideTested l w x y m (Ok (n, k)) = Beside l w x y n k m
