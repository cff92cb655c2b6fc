-- A use moves: the law of the primitive. Assumes nothing.
use mathlib.Core.Path.{◌≡◌, sym, ap, ◌∙◌}
use mathlib.Core.List.{List}
use mathlib.Core.Option.{none}
use Prim.Native.Nat.{ℕ}
use Rattle.places.specs.Store.{usg, use_sets, State, UseHeld, leave, enter}
use Rattle.places.specs.Edits.{place_move_use}
use Rattle.places.proofs.Steps.{own_left, some_inj}
use Rattle.places.proofs.Placing.{fits}
use Rattle.places.proofs.MoveUse.{move_use_sound, move_use_view}
use Rattle.places.specs.View.{view}
use Rattle.context.specs.declared.Layout.{Layout}
use Rattle.context.specs.Memory.{con, state_of, SoundStore, Left, Entered, Stands}
use Rattle.context.specs.Steps.{CanMove, Moved}
use Rattle.context.proofs.Families.{con_holder}

module _ {l : Layout} {m : List ℕ} (u k : ℕ) (S : SoundStore l m) (C : CanMove (state_of l m) u (con l use_sets k)) where
  abbrev P : State
  P = state_of l m

  held : UseHeld (P.own (usg, u))
  held = S.sound.placed (usg, u) C.live

  pub stand : Stands P (usg, u) use_sets
  stand = record { list = held.def; there = held.in_def }

  module _ {m₁ : List ℕ} (L : Left l use_sets u m m₁) where
    left : state_of l m₁ ≡ leave held.def (usg, u) P
    left = L.state held.def held.in_def

    pub alone : (state_of l m₁).own (usg, u) use_sets ≡ none
    alone = rw left (rw (fits held.fit).def at (own_left P held.def (usg, u)))

    pub moved : {m₂ : List ℕ} → Entered l use_sets k l.uses u m₁ m₂ → Moved l u k m m₂
    moved E =
        let e : state_of l _ ≡ place_move_use held.def (con l use_sets k) l.uses (usg, u) P = E.state ∙ ap (enter (con l use_sets k) l.uses (usg, u)) left in
        record {
          sound =
              record {
                well = E.well;
                sound = rw e (move_use_sound S.sound u C.live held (con l use_sets k) l.uses (C.fit held.slot held.in_slot) (con_holder l.values l.ops use_sets k) C.home);
              };
          rest = E.rest ∙ L.rest;
          state = λ d h. rw (some_inj (sym h ∙ held.in_def)) e;
          view = ap view e ∙ move_use_view S.sound u C.live held (con l use_sets k) l.uses (C.fit held.slot held.in_slot) (con_holder l.values l.ops use_sets k) C.home;
        }
