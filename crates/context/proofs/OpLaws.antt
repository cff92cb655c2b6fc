-- An operation is born: the law of the primitive. Assumes nothing.
use mathlib.Core.Path.{◌≡◌, ap, ◌∙◌}
use mathlib.Core.List.{List}
use Prim.Native.Nat.{ℕ, ◌≤◌}
use Rattle.places.specs.Store.{op, Thing-dec, birth}
use Rattle.places.specs.Parts.{store}
use Rattle.seqs.proofs.Base.{upd_upd}
use Rattle.places.proofs.Whole.{bear_sound}
use Rattle.context.specs.declared.Layout.{Layout}
use Rattle.context.specs.Memory.{parts_of, state_of, SoundStore, Borne, set_tag, Tagged}
use Rattle.context.specs.Steps.{BorneOp}

pub borne_op : {l : Layout} {m m₁ m₂ : List ℕ} (t p : ℕ) → SoundStore l m → t ≤ 3 → Borne l op m m₁ p → Tagged l (op, p) t m₁ m₂ → BorneOp l t m m₂ p
unfolding birth set_tag store parts_of
borne_op {l} {m} {m₁} {m₂} t p S h B T =
    let e : state_of l m₂ ≡ birth (op, p) t (state_of l m) =
    T.state ∙ ap (set_tag (op, p) t) B.state
    ∙ (λ i. record { tab = (birth (op, p) t (state_of l m)).tab; list = (state_of l m).list; own = (state_of l m).own; tag = λ a. upd_upd Thing-dec (state_of l m).tag (op, p) 0 t a i }) in
    record {
      sound = record { well = T.well; sound = rw e (bear_sound S.sound (op, p) (λ h. tt) t (record { dead = B.dead; room = B.room; flags = λ z. h })) };
      rest = T.rest ∙ B.rest;
      dead = B.dead;
      room = B.room;
      lowest = B.lowest;
      state = e;
    }
