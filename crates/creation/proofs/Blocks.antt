-- A new block: its refusal, its birth, one more argument, and the whole. Assumes nothing.
use mathlib.Core.Path.{◌≡◌, refl, sym, ap, ◌∙◌, subst}
use mathlib.Core.List.{List, [], ◌∷◌, ◌++◌}
use Prim.Native.Nat.{ℕ, ◌+◌, ◌≤◌, ◌<◌}
use native.Mathlib.Omega.{arith}
use lib.ListN.{length, get_or}
use Rattle.edit.specs.Record.{Edit, new_block, part}
use Rattle.edit.specs.Kinds.{number_of, kind_number}
use Rattle.edit.specs.Taken.{edit_by, Passed}
use Rattle.edit.specs.declared.Kind.TheVariants.{NewBlock}
use Rattle.edit.specs.Answer.{found}
use Rattle.std.specs.Prelude.{Ok, Err}
use Rattle.edit.specs.declared.Refusal.{Refusal}
use Rattle.edit.proofs.Asked.{block_fields, part_length}
use Rattle.edit.proofs.ByKind.{by_new_block}
use Rattle.rules.specs.History.{births}
use Rattle.rules.specs.State.{accept}
use Rattle.rules.specs.Refusal.{check, named, lacks, numbers, live_counts, places, no_room, first_missing, from_state, refusal_of}
use Rattle.rules.specs.Step.{answer}
use Rattle.places.specs.Store.{Kind, op, blk, val, arguments, vals, Con, State, Live, birth, enter}
use Rattle.places.specs.View.{num, view, n_birth, n_enter, named_c}
use Rattle.places.specs.Parts.{store}
use Rattle.places.specs.Hist.{rule_state, meaning}
use Rattle.places.specs.Accepts.{Accepts}
use Rattle.places.specs.Settled.{Settles}
use Rattle.places.proofs.Steps.{Fresh, alive_born}
use Rattle.places.proofs.Sees.{see_birth, num_new}
use Rattle.places.proofs.RuleRefusals.{refusal_tests, born_is}
use Rattle.places.proofs.RuleAccept.{accept_is}
use Rattle.places.proofs.RuleUses.{cap_birth}
use Rattle.places.proofs.RuleValues.{value_caps}
use Rattle.places.proofs.RuleBirths.{block_first, argument_turn}
use Rattle.places.proofs.Settling.{settles_same, settles_birth, settles_enter, lowest_free}
use Rattle.places.proofs.RuleGrown.{kept_birth, arguments_live, arguments_next, arguments_long, block_ended}
use Rattle.context.specs.declared.Layout.{Layout}
use Rattle.context.specs.Layout.{cap_of}
use Rattle.context.specs.Memory.{con, ListIs, state_of, parts_of, SoundStore, RoomFor}
use Rattle.context.specs.Reading.{NextNumberIs}
use Rattle.context.specs.Steps.{BorneBlock, CanBearValue, BorneValue}
use Rattle.context.specs.Performed.{abs, Performed}
use Rattle.context.proofs.Performing.{refuses, accepts}
use Rattle.creation.specs.Room.{five, RoomIs}
use Rattle.creation.specs.declared.Five as counts
use Rattle.creation.specs.Made.{gone, Made, BlockReady, BlockPartly}
use Rattle.creation.proofs.Rooms.{Zeros}
use Rattle.creation.proofs.Listed.{part_none, part_more}

cap_is : (l : Layout) (m : List ℕ) (k : Kind) → ((state_of l m).tab k).cap ≡ cap_of l k
unfolding store parts_of
cap_is l m k = refl

not_op : (k : Kind) → k ≡ blk → k ≡ op → ⊥
not_op k e f = let q : blk ≡ op = sym e ∙ f in let z : ◌≡◌ {A = ℕ} 0 1 = cc in omega arith

not_op_val : (k : Kind) → k ≡ val → k ≡ op → ⊥
not_op_val k e f = let q : val ≡ op = sym e ∙ f in let z : ◌≡◌ {A = ℕ} 0 1 = cc in omega arith

-- ---- refused or not

module _ {l : Layout} {m : List ℕ} (S : SoundStore l m) (fs : List ℕ) (F : Passed (kind_number NewBlock) fs) (n c : ℕ) (n_is : n ≡ get_or fs 0 0) (w : counts.Five) (zeros : Zeros w) (room : RoomIs l (five w.operations 1 w.regions n w.uses) m c) where
  R : RoomIs l (five 0 1 0 n 0) m c
  R = rw (zeros.0, zeros.1.1.0, zeros.1.1.1.1) at room

  abbrev P : State
  P = state_of l m

  abbrev E : Edit
  E = new_block (part fs 1 (get_or fs 0 0))

  long : length (part fs 1 (get_or fs 0 0)) ≡ n
  long = part_length fs 1 (get_or fs 0 0) (omega (arith, (block_fields fs F).full)) ∙ sym n_is

  pub block_refusal : refusal_of (meaning P) E ≡ c
  unfolding named first_missing from_state no_room places births abs
  block_refusal =
      refusal_tests (meaning P) E refl
      ∙ ap (λ (v : ℕ). check (lacks (meaning P).capacities (live_counts (meaning P)) (five 0 1 0 v 0)) 20 (check (lacks numbers (meaning P).history.born (five 0 1 0 v 0)) 21 0)) long
      ∙ sym R.is

  pub block_refused : (r : Refusal) → c ≡ number_of r → Performed l (edit_by NewBlock fs) m m (Err r)
  block_refused r z = rw (by_new_block fs) (refuses E S r (block_refusal ∙ z))

  module _ (z : c ≡ 0) where
    pub block_ready : BlockReady l fs m
    block_ready = record { sound = S; fields = block_fields fs F; places = λ k. rw (sym n_is) (R.places z k); numbers = λ k. rw (sym n_is) (R.numbers z k) }

    pub room_for_block : RoomFor P blk l.blocks
    room_for_block = record { place = omega (arith, R.places z blk); number = omega (arith, R.numbers z blk) }

-- ---- the birth of the block

module _ {l : Layout} {m m₁ : List ℕ} (fs : List ℕ) (R : BlockReady l fs m) (b : ℕ) (B : BorneBlock l m m₁ b) where
  abbrev P₀ : State
  P₀ = state_of l m

  fresh : Fresh P₀ (blk, b) 0
  fresh = record { dead = B.dead; room = rw (cap_is l m blk) B.room; flags = λ e. absurd (not_op blk refl e) }

  pub block_begun : BlockPartly l fs b 0 m m₁
  block_begun =
      record {
        ready = R;
        made = record {
          sound = B.sound;
          rest = B.rest;
          accepts = rw (part_none fs 1) (block_first (gone l m) (λ k. ap (λ (Q : State). (Q.tab k).cap) B.state ∙ cap_birth P₀ (blk, b) 0 k) (ap view B.state ∙ see_birth P₀ R.sound.sound.linked (blk, b) 0 fresh));
          places = subst (Settles P₀) (sym B.state) (settles_birth (blk, b) 0 (settles_same (λ k. refl)) (lowest_free P₀ blk b B.dead B.lowest));
          live = rw B.state (omega (arith, alive_born P₀ (blk, b) 0));
          number = ap (λ (Q : State). num Q (blk, b)) B.state ∙ num_new P₀ R.sound.sound.linked (blk, b) 0 fresh;
        };
      }

-- ---- one more argument

module _ {l : Layout} {m m₁ : List ℕ} (fs : List ℕ) (b j : ℕ) (A : BlockPartly l fs b j m m₁) where
  abbrev Q : State
  Q = state_of l m₁

  abbrev M : Made l (new_block (part fs 1 j)) blk b m m₁
  M = A.made

  module _ (j< : j < get_or fs 0 0) {k : ℕ} (V : ListIs l vals (arguments, (blk, b)) k) where
    so_long : length (part fs 1 j) ≡ j
    so_long = part_length fs 1 j (omega (arith, A.ready.fields.full, j<))

    limit : length (Q.list (blk, b) arguments) < 64
    limit = omega (arith, arguments_long A.ready.sound.sound.linked M.sound.sound (gone l m) (part fs 1 j) M.accepts b M.live M.number, so_long, j<, A.ready.fields.arguments)

    room : RoomFor Q val l.values
    room = record {
      place = omega (arith, arguments_live A.ready.sound.sound.linked M.sound.sound (gone l m) (part fs 1 j) M.accepts, so_long, j<, A.ready.places val);
      number = omega (arith, arguments_next A.ready.sound.sound.linked M.sound.sound (gone l m) (part fs 1 j) M.accepts, so_long, j<, A.ready.numbers val);
    }

    pub can_argument : CanBearValue Q l.values (con l vals k)
    can_argument = rw V.row (record { room = room; home = M.live; limit = limit })

    module _ {m₂ : List ℕ} (q t : ℕ) (t-is : t ≡ get_or fs (1 + j) 0) (B : BorneValue l k j t m₁ m₂ q) where
      abbrev Z : State
      Z = state_of l m₂

      born : Z ≡ enter (arguments, (blk, b)) j (val, q) (birth (val, q) t Q)
      born = B.state ∙ ap (λ (c : Con). enter c j (val, q) (birth (val, q) t Q)) V.row

      fresh_value : Fresh Q (val, q) t
      fresh_value = record { dead = B.dead; room = rw (cap_is l m₁ val) B.room; flags = λ e. absurd (not_op_val val refl e) }

      caps : (k : Kind) → (Z.tab k).cap ≡ (Q.tab k).cap
      caps k = ap (λ (X : State). (X.tab k).cap) born ∙ value_caps Q (arguments, (blk, b)) j t q k

      seen : view Z ≡ n_enter (arguments, (blk, ((state_of l m).tab blk).next)) j (val, (view Q).next val) (n_birth val t (view Q))
      seen = B.view ∙ ap (λ (c : Con). n_enter (named_c Q c) j (val, (view Q).next val) (n_birth val t (view Q))) V.row ∙ ap (λ (n : ℕ). n_enter (arguments, (blk, n)) j (val, (view Q).next val) (n_birth val t (view Q))) M.number

      turned : Accepts (state_of l m) Z (new_block (part fs 1 j ++ t ∷ [])) (gone l m) (gone l m)
      turned = argument_turn Q Z A.ready.sound.sound.linked (gone l m) caps (part fs 1 j) M.accepts t j (omega (arith, so_long)) seen

      -- the argument took the lowest free place
      settled : Settles (state_of l m) Z
      settled = subst (Settles (state_of l m)) (sym born) (settles_enter (arguments, (blk, b)) j (val, q) (settles_birth (val, q) t M.places (lowest_free Q val q B.dead B.lowest)))

      kept : Live Z (blk, b) × (num Z (blk, b) ≡ num Q (blk, b))
      kept = rw born (kept_birth M.sound.sound.linked (val, q) t fresh_value (arguments, (blk, b)) j (blk, b) M.live)

      pub block_turn : BlockPartly l fs b (j + 1) m m₂
      block_turn =
          record {
            ready = A.ready;
            made = record {
              sound = B.sound;
              rest = B.rest ∙ M.rest;
              accepts = rw (part_more fs 1 j (omega (arith, A.ready.fields.full, j<)), sym t-is) turned;
              places = settled;
              live = kept.0;
              number = kept.1 ∙ M.number;
            };
          }

pub at_end : {l : Layout} {m m₁ : List ℕ} (fs : List ℕ) (b j n : ℕ) → n ≡ get_or fs 0 0 → n ≤ j → j ≤ n → BlockPartly l fs b j m m₁ → BlockPartly l fs b (get_or fs 0 0) m m₁
at_end {l} {m} {m₁} fs b j n e a d A = subst (λ (k : ℕ). BlockPartly l fs b k m m₁) (omega (arith, e, a, d)) A

-- ---- the whole block

module _ {l : Layout} {m m' : List ℕ} (fs : List ℕ) (b : ℕ) (A : BlockPartly l fs b (get_or fs 0 0) m m') (whole : refusal_of (meaning (state_of l m)) (new_block (part fs 1 (get_or fs 0 0))) ≡ 0) (x : ℕ) (X : NextNumberIs l blk m x) where
  abbrev K : Edit
  K = new_block (part fs 1 (get_or fs 0 0))

  state_is : meaning (state_of l m') ≡ accept K (meaning (state_of l m))
  unfolding meaning
  state_is = ap (λ (k : ℕ). rule_state k (state_of l m')) (block_ended A.ready.sound.sound.linked A.made.sound.sound (gone l m) (part fs 1 (get_or fs 0 0)) A.made.accepts) ∙ accept_is A.made.sound.sound K (gone l m) (gone l m) A.made.accepts

  pub block_done : Performed l (edit_by NewBlock fs) m m' (Ok (x, 0))
  unfolding answer
  block_done = rw (by_new_block fs) (accepts K A.made.sound whole state_is A.made.rest A.made.places x 0 (ap (λ (n : ℕ). found n 0) (born_is A.ready.sound.sound blk ∙ sym X.is)))
