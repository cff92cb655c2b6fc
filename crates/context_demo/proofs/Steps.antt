-- What the tests of a step say is what its primitive asks. Assumes nothing.
use mathlib.Core.Path.{◌≡◌, ap, ◌∙◌}
use mathlib.Core.List.{List}
use native.Mathlib.Omega.{arith}
use Prim.Native.Nat.{ℕ, ◌<◌}
use lib.ListN.{length}
use Rattle.std.specs.Prelude.{Option, None}
use Rattle.edit.specs.Record.{operand}
use Rattle.places.specs.Store.{op, blk, val, usg, operands, value_uses, slots, use_sets, ops_in, blocks_in, Thing, State, Live, Clear, outer, up}
use Rattle.places.specs.Parts.{con_of, rows_of}
use Rattle.places.proofs.RuleUses.{slot_fits}
use Rattle.context.specs.declared.Layout.{Layout}
use Rattle.context.specs.Layout.{kind_part}
use Rattle.context.specs.Memory.{given, con, ListIs, state_of, SoundStore, RoomFor, HomeIs, LengthIs}
use Rattle.context.specs.Reading.{NthIs}
use Rattle.context.specs.Steps.{CanBear, CanLinkTo}
use Rattle.context.proofs.Numbers.{list_there}

module _ {l : Layout} {m : List ℕ} (S : SoundStore l m) where
  abbrev P : State
  P = state_of l m

  pub can_bear : {o v s d n : ℕ} → ListIs l slots (operands, (op, o)) s → ListIs l use_sets (value_uses, (val, v)) d → Live P (op, o) → Live P (val, v) → LengthIs l slots s m n → n < 64 → RoomFor P usg l.uses → CanBear P l.uses (con l slots s) (con l use_sets d)
  can_bear A B h g L k R =
      rw (A.row, B.row) (record { room = R; fit = slot_fits operand; slot = h; limit = omega (arith, L.is ∙ ap length (list_there A m), k); home = g })

  pub nth_lives : (k i u : ℕ) → NthIs l slots k i m u → Live P (usg, u)
  nth_lives k i u N = (S.sound.linked.link (usg, u) slots (con l slots k) N.own).live

  -- a block in no region lies in no operation
  pub can_link : (o b : ℕ) (h g : Option ℕ) → Live P (op, o) → Live P (blk, b) → HomeIs l ops_in o m h → h ≡ None → HomeIs l blocks_in b m g → g ≡ None → CanLinkTo P ops_in o (con l ops_in b)
  unfolding rows_of up
  can_link o b h g x y H e G f =
      record {
        live = x;
        home = y;
        free = H.own ∙ ap (λ (z : Option ℕ). con_of (con l ops_in) (given z)) e;
        clear = Clear.top apart (ap outer (G.own ∙ ap (λ (z : Option ℕ). con_of (con l blocks_in) (given z)) f));
      }
    where
      apart : ◌≡◌ {A = Thing} (blk, b) (op, o) → ⊥
      apart q = omega (arith, ap (λ (t : Thing). kind_part t.0) q)
