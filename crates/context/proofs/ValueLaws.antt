-- A region is born, a value ends: the laws of the primitives. Assumes nothing.
use mathlib.Core.Path.{◌≡◌, refl, sym, ap, ◌∙◌}
use mathlib.Core.List.{List}
use mathlib.Core.Option.{none, some}
use Prim.Native.Nat.{ℕ}
use native.Mathlib.Omega.{arith}
use Rattle.seqs.specs.Seqs.{count}
use Rattle.places.specs.Store.{Kind, op, blk, reg, val, usg, Role, operands, successors, value_uses, block_uses, results, arguments, regions, ops, blocks, Fam, slots, use_sets, vals, regs, ops_in, blocks_in, fam, node_of, holder_of, Thing, Thing-dec, Con, State, Live, Link, Linked, Sound, birth, end, leave, enter}
use Rattle.places.specs.Parts.{store, rows_of}
use Rattle.places.specs.View.{view, shown}
use Rattle.places.proofs.Steps.{Fresh, Bare, leave_ok, bare_of, own_left, alive_leave, dead_bare, once, list_leave_other, some_inj, some_none}
use Rattle.places.proofs.Whole.{bear_in_sound, bear_in_view, finish_in_sound}
use Rattle.context.specs.declared.Layout.{Layout}
use Rattle.context.specs.Memory.{parts_of, state_of, set_tag, SoundStore, Left, Entered, Stands, Borne, Finished, Tagged}
use Rattle.context.proofs.Tags.{end_tag}
use Rattle.context.specs.Steps.{CanHold, BorneRegion, Unused, EndedValue}

module _ {l : Layout} {m : List ℕ} (o : ℕ) (S : SoundStore l m) (C : CanHold (state_of l m) o l.regions) {m₁ : List ℕ} (p : ℕ) (B : Borne l reg m m₁ p) where
  born : state_of l m₁ ≡ birth (reg, p) 0 (state_of l m)
  unfolding store parts_of
  born = B.state

  alone : (birth (reg, p) 0 (state_of l m)).own (reg, p) regs ≡ none
  unfolding birth
  alone = (dead_bare S.sound.linked (reg, p) B.dead).alone regs

  pub no_home : (state_of l m₁).own (reg, p) regs ≡ none
  no_home = rw born alone

  fresh : Fresh (state_of l m) (reg, p) 0
  unfolding store parts_of
  fresh = record { dead = B.dead; room = B.room; flags = λ e. omega arith }

  pub borne_region : {m₂ : List ℕ} → Entered l regs o l.regions p m₁ m₂ → BorneRegion l o m m₂ p
  unfolding rows_of
  borne_region E =
      let e : state_of l _ ≡ enter (regions, (op, o)) l.regions (reg, p) (birth (reg, p) 0 (state_of l m)) = E.state ∙ ap (enter (regions, (op, o)) l.regions (reg, p)) born in
      record {
        sound = record { well = E.well; sound = rw e (bear_in_sound S.sound (regions, (op, o)) p (λ h a. ((regions, (op, o)), a)) (λ k. refl) l.regions 0 fresh refl C.home (λ k. C.limit)) };
        rest = E.rest ∙ B.rest;
        dead = B.dead;
        lowest = B.lowest;
        state = e;
        view = ap view e ∙ bear_in_view S.sound (regions, (op, o)) p (λ h a. ((regions, (op, o)), a)) (λ k. refl) l.regions 0 fresh refl C.home (λ k. C.limit);
      }

family_code : Fam → ℕ
family_code = elim [ slots ↦ 0 | use_sets ↦ 1 | vals ↦ 2 | regs ↦ 3 | ops_in ↦ 4 | blocks_in ↦ 5 ]

is_val : Kind → ℕ
is_val = elim [ op ↦ 0 | blk ↦ 0 | reg ↦ 0 | val ↦ 1 | usg ↦ 0 ]

-- a value holds its uses only, and stands in one family
val_holds : (r : Role) → val ≡ holder_of r → r ≡ value_uses
unfolding is_val
val_holds operands e = absurd (omega (arith, ap is_val e))
val_holds successors e = absurd (omega (arith, ap is_val e))
val_holds value_uses e = refl
val_holds block_uses e = absurd (omega (arith, ap is_val e))
val_holds results e = absurd (omega (arith, ap is_val e))
val_holds arguments e = absurd (omega (arith, ap is_val e))
val_holds regions e = absurd (omega (arith, ap is_val e))
val_holds ops e = absurd (omega (arith, ap is_val e))
val_holds blocks e = absurd (omega (arith, ap is_val e))

val_fam : (r : Role) → val ≡ node_of r → fam r ≡ vals
unfolding is_val
val_fam operands e = absurd (omega (arith, ap is_val e))
val_fam successors e = absurd (omega (arith, ap is_val e))
val_fam value_uses e = absurd (omega (arith, ap is_val e))
val_fam block_uses e = absurd (omega (arith, ap is_val e))
val_fam results e = refl
val_fam arguments e = refl
val_fam regions e = absurd (omega (arith, ap is_val e))
val_fam ops e = absurd (omega (arith, ap is_val e))
val_fam blocks e = absurd (omega (arith, ap is_val e))

use_not_val : val ≡ usg → ⊥
unfolding is_val
use_not_val e = omega (arith, ap is_val e)

pub shows : (r : Role) → fam r ≡ vals → (k : List ℕ) → shown r k ≡ k
unfolding family_code
shows operands e k = refl
shows successors e k = refl
shows value_uses e k = absurd (omega (arith, ap family_code e))
shows block_uses e k = absurd (omega (arith, ap family_code e))
shows results e k = refl
shows arguments e k = refl
shows regions e k = refl
shows ops e k = refl
shows blocks e k = refl

module _ {l : Layout} {m : List ℕ} (p : ℕ) (S : SoundStore l m) (U : Unused (state_of l m) p) where
  abbrev P : State
  P = state_of l m

  placed : (c : Con) × (P.own (val, p) vals ≡ some c)
  placed = S.sound.placed (val, p) U.live

  pub stand : Stands P (val, p) vals
  stand = record { list = placed.0; there = placed.1 }

  abbrev c : Con
  c = placed.0

  K : Link P (val, p) vals c
  K = S.sound.linked.link (val, p) vals c placed.1

  at : P.own (val, p) (fam c.0) ≡ some c
  at = rw K.family placed.1

  L₁ : Linked (leave c (val, p) P)
  L₁ = leave_ok S.sound.linked c (val, p) at

  bare : Bare (leave c (val, p) P) (val, p)
  bare =
      bare_of L₁ (val, p)
      (λ f d e. some_none e (rw (sym (L₁.link (val, p) f d e).family ∙ val_fam d.0 (L₁.link (val, p) f d e).node ∙ sym K.family) (own_left P c (val, p))))
      (λ x f d e g.
      let r : d.0 ≡ value_uses = val_holds d.0 (sym (ap (λ (a : Thing). a.0) g) ∙ (L₁.link x f d e).holder) in
      absurd (omega (
        arith,
        once L₁ x f d e,
        ap (λ (b : Thing). count Thing-dec x ((leave c (val, p) P).list b d.0)) g,
        ap (λ (q : Role). count Thing-dec x ((leave c (val, p) P).list (val, p) q)) r,
        ap (count Thing-dec x) (list_leave_other P c (val, p) (val, p) value_uses (λ z. use_not_val (K.node ∙ ap node_of (sym z))) ∙ U.none),
      )))

  module _ {m₁ : List ℕ} (E : Left l vals p m m₁) where
    left : state_of l m₁ ≡ leave c (val, p) P
    left = E.state c placed.1

    pub live₁ : Live (state_of l m₁) (val, p)
    live₁ = rw left (omega (arith, U.live, alive_leave P c (val, p) (val, p)))

    pub ended_value : {m₂ m₃ : List ℕ} → Tagged l (val, p) 0 m₁ m₂ → Finished l val p m₂ m₃ → EndedValue l p m m₃
    ended_value T F =
        let e : state_of l _ ≡ end (val, p) (leave c (val, p) P) = F.state ∙ ap (end (val, p)) (T.state ∙ ap (set_tag (val, p) 0) left) ∙ end_tag (leave c (val, p) P) (val, p) 0 in
        let s : Sound (end (node_of c.0, p) (leave c (node_of c.0, p) P)) =
        finish_in_sound S.sound c p (λ h a. rw (sym K.node) (c, rw K.family at a)) (shows c.0 K.family) (rw (sym K.node) at) (rw (sym K.node) bare) in
        record {
          sound = record { well = F.well; sound = rw (e, K.node) s };
          rest = F.rest ∙ T.rest ∙ E.rest;
          state = λ d h. rw (some_inj (sym h ∙ placed.1)) e;
        }
