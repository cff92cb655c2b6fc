-- A block and a value are born: the laws of the primitives. Assumes nothing.
use mathlib.Core.Path.{◌≡◌, ap, ◌∙◌}
use mathlib.Core.List.{List}
use mathlib.Core.Option.{Option, none, some}
use Prim.Native.Nat.{ℕ}
use native.Mathlib.Omega.{arith}
use Rattle.seqs.proofs.Base.{upd_upd}
use Rattle.places.specs.Store.{op, blk, val, Fam, vals, fam, node_of, Thing-dec, Con, State, Placed, birth, enter}
use Rattle.places.specs.Parts.{store}
use Rattle.places.specs.View.{view}
use Rattle.places.proofs.Steps.{Fresh, dead_bare}
use Rattle.places.proofs.Whole.{bear_sound, bear_in_sound, bear_in_view}
use Rattle.context.specs.declared.Layout.{Layout}
use Rattle.context.specs.Memory.{parts_of, con, state_of, set_tag, SoundStore, Entered, Borne, Tagged}
use Rattle.context.specs.Steps.{BorneBlock, CanBearValue, BorneValue}
use Rattle.context.proofs.Families.{con_back, con_holder}
use Rattle.context.proofs.Neighbours.{kind_of_lem}
use Rattle.context.proofs.ValueLaws.{shows}

pub borne_block : {l : Layout} {m m₁ : List ℕ} (p : ℕ) → SoundStore l m → Borne l blk m m₁ p → BorneBlock l m m₁ p
unfolding store parts_of
borne_block {l} {m} p S B =
    record {
      sound = record { well = B.well; sound = rw B.state (bear_sound S.sound (blk, p) (λ h. tt) 0 (record { dead = B.dead; room = B.room; flags = λ e. omega arith })) };
      rest = B.rest;
      dead = B.dead;
      room = B.room;
      lowest = B.lowest;
      state = B.state;
    }

module _ {l : Layout} {m : List ℕ} (k i t : ℕ) (S : SoundStore l m) (C : CanBearValue (state_of l m) l.values (con l vals k)) {m₁ : List ℕ} (p : ℕ) (B : Borne l val m m₁ p) where
  abbrev P : State
  P = state_of l m

  abbrev c : Con
  c = con l vals k

  node : node_of (con l vals k).0 ≡ val
  node = kind_of_lem S.well vals k

  family : fam (con l vals k).0 ≡ vals
  family = (con_back l.values l.ops vals k).family

  fresh : Fresh P (node_of (con l vals k).0, p) t
  unfolding store parts_of
  fresh = rw node (record { dead = B.dead; room = B.room; flags = λ e. absurd (not_op e) })
    where
      not_op : val ≡ op → ⊥
      not_op e = let z : ◌≡◌ {A = ℕ} 0 1 = cc in omega arith

  module _ {m₂ : List ℕ} (T : Tagged l (val, p) t m₁ m₂) where
    born : state_of l m₂ ≡ birth (val, p) t P
    unfolding birth set_tag
    born =
        T.state ∙ ap (set_tag (val, p) t) B.state
        ∙ (λ j. record { tab = (birth (val, p) t P).tab; list = P.list; own = P.own; tag = λ a. upd_upd Thing-dec P.tag (val, p) 0 t a j })

    alone : (birth (val, p) t P).own (val, p) vals ≡ none
    unfolding birth
    alone = (dead_bare S.sound.linked (val, p) B.dead).alone vals

    pub no_list : (state_of l m₂).own (val, p) vals ≡ none
    no_list = rw born alone

    pub borne_value : {m₃ : List ℕ} → Entered l vals k i p m₂ m₃ → BorneValue l k i t m m₃ p
    borne_value E =
        let e : state_of l _ ≡ enter c i (val, p) (birth (val, p) t P) = E.state ∙ ap (enter c i (val, p)) born in
        let placed : (h : Fam → Option Con) → h (fam c.0) ≡ some c → Placed (node_of c.0) h = λ h a. rw node (c, rw family at a) in
        record {
          sound = record { well = E.well; sound = rw e (rw node at (bear_in_sound S.sound c p placed (shows c.0 family) i t fresh (con_holder l.values l.ops vals k) C.home (λ z. C.limit))) };
          rest = E.rest ∙ T.rest ∙ B.rest;
          dead = B.dead;
          room = B.room;
          lowest = B.lowest;
          state = e;
          view = ap view e ∙ (rw node at (bear_in_view S.sound c p placed (shows c.0 family) i t fresh (con_holder l.values l.ops vals k) C.home (λ z. C.limit)));
        }
