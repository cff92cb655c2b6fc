-- A use ends, and a use is born: the laws of the primitives. Assumes nothing.
use mathlib.Core.Path.{◌≡◌, sym, ap, ◌∙◌}
use mathlib.Core.List.{List}
use mathlib.Core.Option.{none, some}
use Prim.Native.Nat.{ℕ, ◌<◌}
use native.Mathlib.Omega.{arith}
use Rattle.places.specs.Store.{usg, Fam, slots, use_sets, State, Live, UseHeld, birth, end, leave, enter}
use Rattle.places.specs.Edits.{end_use, birth_use}
use Rattle.places.specs.Parts.{store}
use Rattle.places.proofs.Steps.{own_leave_fam, own_enter_fam, alive_leave, dead_bare, some_inj}
use Rattle.places.proofs.Placing.{Fits, fits, slots≢use_sets}
use Rattle.places.proofs.EndUse.{end_use_sound}
use Rattle.places.proofs.BirthUse.{birth_use_sound, birth_use_view}
use Rattle.places.specs.View.{view}
use Rattle.context.specs.declared.Layout.{Layout}
use Rattle.context.specs.Memory.{parts_of, con, state_of, SoundStore, Left, Entered, Stands, Borne, Finished}
use Rattle.context.specs.Steps.{EndedUse, CanBear, BorneUse}
use Rattle.context.proofs.Families.{con_back, con_holder}

module _ {l : Layout} {m : List ℕ} (u : ℕ) (S : SoundStore l m) (live : Live (state_of l m) (usg, u)) where
  abbrev P : State
  P = state_of l m

  held : UseHeld (P.own (usg, u))
  held = S.sound.placed (usg, u) live

  F : Fits held.slot.0 held.def.0
  F = fits held.fit

  pub in_slot : Stands P (usg, u) slots
  in_slot = record { list = held.slot; there = held.in_slot }

  module _ {m₁ : List ℕ} (L : Left l slots u m m₁) where
    left : state_of l m₁ ≡ leave held.slot (usg, u) P
    left = L.state held.slot held.in_slot

    in_set₁ : (state_of l m₁).own (usg, u) use_sets ≡ some held.def
    in_set₁ = rw left (own_leave_fam P held.slot (usg, u) use_sets (λ e. slots≢use_sets (sym F.slot ∙ sym e)) ∙ held.in_def)

    pub in_set : Stands (state_of l m₁) (usg, u) use_sets
    in_set = record { list = held.def; there = in_set₁ }

    module _ {m₂ : List ℕ} (L₂ : Left l use_sets u m₁ m₂) where
      left₂ : state_of l m₂ ≡ leave held.def (usg, u) (leave held.slot (usg, u) P)
      left₂ = L₂.state held.def in_set₁ ∙ ap (leave held.def (usg, u)) left

      pub live₂ : Live (state_of l m₂) (usg, u)
      live₂ = rw left₂ (omega (arith, live, alive_leave (leave held.slot (usg, u) P) held.def (usg, u) (usg, u), alive_leave P held.slot (usg, u) (usg, u)))

      pub ended : {m₃ : List ℕ} → Finished l usg u m₂ m₃ → EndedUse l u m m₃
      ended E =
          let e : state_of l _ ≡ end_use held.slot held.def (usg, u) P = E.state ∙ ap (end (usg, u)) left₂ in
          record {
            sound = record { well = E.well; sound = rw e (end_use_sound S.sound u live held) };
            rest = E.rest ∙ L₂.rest ∙ L.rest;
            state = λ s d h k. rw (some_inj (sym h ∙ held.in_slot), some_inj (sym k ∙ held.in_def)) e;
          }

module _ {l : Layout} {m : List ℕ} (s i d : ℕ) (S : SoundStore l m) (C : CanBear (state_of l m) l.uses (con l slots s) (con l use_sets d)) {m₁ : List ℕ} (u : ℕ) (B : Borne l usg m m₁ u) where
  born : state_of l m₁ ≡ birth (usg, u) 0 (state_of l m)
  unfolding store parts_of
  born = B.state

  room : u < ((state_of l m).tab usg).cap
  unfolding store parts_of
  room = B.room

  alone₁ : (f : Fam) → (birth (usg, u) 0 (state_of l m)).own (usg, u) f ≡ none
  unfolding birth
  alone₁ f = (dead_bare S.sound.linked (usg, u) B.dead).alone f

  pub no_slot : (state_of l m₁).own (usg, u) slots ≡ none
  no_slot = rw born (alone₁ slots)

  module _ {m₂ : List ℕ} (E : Entered l slots s i u m₁ m₂) where
    placed : state_of l m₂ ≡ enter (con l slots s) i (usg, u) (birth (usg, u) 0 (state_of l m))
    placed = E.state ∙ ap (enter (con l slots s) i (usg, u)) born

    pub no_set : (state_of l m₂).own (usg, u) use_sets ≡ none
    no_set = rw placed (own_enter_fam (birth (usg, u) 0 (state_of l m)) (con l slots s) (usg, u) i use_sets (λ e. slots≢use_sets (sym (con_back l.values l.ops slots s).family ∙ sym e)) ∙ alone₁ use_sets)

    pub borne_use : {m₃ : List ℕ} → Entered l use_sets d l.uses u m₂ m₃ → BorneUse l s i d m m₃ u
    borne_use E₂ =
        let e : state_of l _ ≡ birth_use (con l slots s) i (con l use_sets d) l.uses u (state_of l m) = E₂.state ∙ ap (enter (con l use_sets d) l.uses (usg, u)) placed in
        record {
          sound =
              record {
                well = E₂.well;
                sound = rw e (birth_use_sound S.sound (con l slots s) i (con l use_sets d) l.uses u C.fit B.dead room (con_holder l.values l.ops slots s) C.slot C.limit (con_holder l.values l.ops use_sets d) C.home);
              };
          rest = E₂.rest ∙ E.rest ∙ B.rest;
          dead = B.dead;
          room = B.room;
          lowest = B.lowest;
          state = e;
          view = ap view e ∙ birth_use_view S.sound (con l slots s) i (con l use_sets d) l.uses u C.fit B.dead room (con_holder l.values l.ops slots s) C.slot C.limit (con_holder l.values l.ops use_sets d) C.home;
        }
