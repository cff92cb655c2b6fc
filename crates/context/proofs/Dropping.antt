-- The uses of a list end one after another: a turn of the loop. Assumes nothing.
use mathlib.Core.Path.{◌≡◌, refl, sym, ap, ap₂, ◌∙◌}
use mathlib.Core.List.{List, [], ◌∷◌, map}
use Prim.Native.Nat.{ℕ, ◌+◌, ◌≤◌, ◌<◌, ◌/◌, ◌%◌}
use native.Mathlib.Omega.{arith}
use Rattle.std.specs.Prelude.{Option, Some, None}
use lib.ListN.{length}
use native.Mathlib.Decide.{ℕ_discrete}
use mathlib.Core.Logic.{ite}
use Rattle.places.specs.Parts.{rows_of}
use Rattle.places.specs.Store.{op, operands, successors, Limited, usg, slots, Thing, Con, State, Live, UseHeld, fam}
use Rattle.places.specs.View.{num, named_c, view}
use Rattle.places.specs.Edits.{n_drop}
use Rattle.places.proofs.Turn.{P₁, x_is, live, held, list₁, left}
use Rattle.places.specs.Walk.{cut_all}
use Rattle.places.proofs.Cut.{cut_append, cut_nothing}
use Rattle.places.proofs.Cuts.{end_use_cut}
use Rattle.context.specs.declared.Layout.{Layout}
use Rattle.context.specs.Memory.{con, state_of, SoundStore, first_place, FirstIs}
use Rattle.context.specs.Steps.{EndedUse, slot_list, dropped_to, Dropping, DroppedAll}
use Rattle.context.proofs.Families.{con_back}

nothing : {k : Option ℕ} {u : ℕ} → k ≡ None → k ≡ Some u → ⊥
nothing e h = let z : ◌≡◌ {A = ℕ} 0 1 = cc in absurd (omega arith)

same : {k : Option ℕ} {u v : ℕ} → k ≡ Some v → k ≡ Some u → v ≡ u
same e h = cc

module _ {l : Layout} {m₀ m : List ℕ} {s n : ℕ} (D : Dropping l s m₀ m n) {k : Option ℕ} (F : FirstIs l slots s m k) where
  abbrev c : Con
  c = con l slots s

  in_slots : fam c.0 ≡ slots
  in_slots = (con_back l.values l.ops slots s).family

  -- the first use lives
  pub alive : (u : ℕ) → k ≡ Some u → Live (state_of l m) (usg, u)
  alive u h = go (slot_list l s m) refl
    where
      go : (xs : List Thing) → slot_list l s m ≡ xs → Live (state_of l m) (usg, u)
      go [] e = absurd (nothing (F.is ∙ ap first_place e) h)
      go (x ∷ xs) e = let p : x.1 ≡ u = same (F.is ∙ ap first_place e) h in rw p at (live D.sound.sound c in_slots x xs e)

  pub turn : {u : ℕ} {m' : List ℕ} → k ≡ Some u → EndedUse l u m m' → Dropping l s m₀ m' (n + 1) × (length (slot_list l s m') < length (slot_list l s m))
  unfolding dropped_to
  turn {u} {m'} h E = go (slot_list l s m) refl
    where
      go : (xs : List Thing) → slot_list l s m ≡ xs → Dropping l s m₀ m' (n + 1) × (length (slot_list l s m') < length (slot_list l s m))
      go [] e = absurd (nothing (F.is ∙ ap first_place e) h)
      go (x ∷ xs) e =
          let p : u ≡ x.1 = sym (same (F.is ∙ ap first_place e) h) in
          let H : UseHeld ((state_of l m).own (usg, x.1)) = held D.sound.sound c in_slots x xs e in
          let E' : EndedUse l x.1 m m' = rw p at E in
          let q : state_of l m' ≡ P₁ D.sound.sound c in_slots x xs e = E'.state H.slot H.def H.in_slot H.in_def in
          let short : slot_list l s m' ≡ xs = ap (λ (Q : State). Q.list c.1 c.0) q ∙ list₁ D.sound.sound c in_slots x xs e in (
            record {
              sound = E.sound;
              rest = E.rest ∙ D.rest;
              state =
                  ap₂ {C = State} (λ (ys : List Thing) (Q : State). cut_all ys Q) short (q ∙ end_use_cut D.sound.sound x.1 (live D.sound.sound c in_slots x xs e) H)
                  ∙ cut_append ((usg, x.1) ∷ []) xs (state_of l m)
                  ∙ ap (λ (y : Thing). cut_all (y ∷ xs) (state_of l m)) (sym (x_is D.sound.sound c in_slots x xs e))
                  ∙ ap (λ (ys : List Thing). cut_all ys (state_of l m)) (sym e)
                  ∙ D.state;
              left = ap (λ (Q : State). n_drop (named_c Q c) (map (num Q) (Q.list c.1 c.0)) (view Q)) q ∙ left D.sound.sound c in_slots x xs e ∙ D.left;
              counted = omega (arith, D.counted, ap length short, ap length e);
            },
            omega (arith, ap length short, ap length e),
          )

  pub all : k ≡ None → DroppedAll l s m₀ m n
  unfolding dropped_to n_drop
  all h = go (slot_list l s m) refl
    where
      go : (xs : List Thing) → slot_list l s m ≡ xs → DroppedAll l s m₀ m n
      go [] e = record { sound = D.sound; rest = D.rest; state = sym (cut_nothing (state_of l m)) ∙ rw e at D.state; empty = e; view = rw e at D.left; counted = omega (arith, D.counted, ap length e) }
      go (x ∷ xs) e = absurd (nothing h (F.is ∙ ap first_place e))

pub begun : {l : Layout} {m : List ℕ} {s : ℕ} → SoundStore l m → Dropping l s m m 0
begun S = record { sound = S; rest = refl; state = refl; left = refl; counted = omega arith }

limited : (v o s : ℕ) → Limited ((rows_of v o).con slots s).0
unfolding rows_of
limited v o s = go (ℕ_discrete (s % 2) 0)
  where
    go : (w : Dec (s % 2 ≡ 0)) → Limited (ite {C = Con} w (operands, (op, s / 2)) (successors, (op, s / 2))).0
    go (yes a) = Limited.of_operands
    go (no a) = Limited.of_successors

pub at_most : {l : Layout} {m₀ m : List ℕ} {s n : ℕ} → SoundStore l m₀ → Dropping l s m₀ m n → n ≤ 64
at_most {l} {m₀} {s = s} S D = omega (arith, D.counted, S.sound.linked.short (con l slots s).1 (con l slots s).0 (limited l.values l.ops s))
