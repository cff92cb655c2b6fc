-- The listed uses of a value move to another, one after the other. Assumes nothing.
use mathlib.Core.Path.{◌≡◌, refl, sym, ap, ap₂, ◌∙◌}
use mathlib.Core.Bool.{Bool}
use mathlib.Core.List.{List, ◌∷◌}
use mathlib.Core.Option.{some}
use Prim.Native.Nat.{ℕ, ◌+◌, ◌≤◌, ◌<◌}
use native.Mathlib.Numerals.{add-one}
use lib.Dec.{eqb}
use lib.ListN.{length, get_or, drop}
use lib.Seq.{drop-cons}
use Rattle.std.proofs.Math.ListN.{drop_of_length-le}
use borrow.Author.Tests.{ne_eqb}
use Rattle.std.proofs.Common.{None, Ok, inl, inr}
use Rattle.edit.specs.Record.{Slot, operand, Definition, replace_some}
use Rattle.edit.specs.Taken.{edit_by}
use Rattle.edit.specs.declared.Kind.TheVariants.{ReplaceSome}
use Rattle.edit.proofs.ByKind.{by_replace_some}
use Rattle.edit.specs.Answer.{clean, found}
use Rattle.rules.specs.Table.{Table, member}
use Rattle.rules.specs.History.{births, carry_out, remember, defined, place_some}
use Rattle.rules.specs.Orders.{order, reorder}
use Rattle.rules.specs.State.{new_flags, new_types}
use Rattle.rules.specs.Refusal.{from_state, named, definition_named}
use Rattle.rules.specs.Step.{answer}
use Rattle.places.specs.Store.{Kind, usg, use_sets, Thing, Con, State, alive, enter, leave, relink, set_own, set_list}
use Rattle.places.specs.View.{num}
use Rattle.places.specs.Hist.{meaning}
use Rattle.places.specs.Edits.{place_move_use}
use Rattle.places.specs.Roles.{def_kind, def_role}
use Rattle.places.proofs.Sees.{num_inj}
use Rattle.places.proofs.Settling.{settles_same, tables_move}
use Rattle.places.proofs.RuleMoves.{rehold, rehold_self, rehold_uses, rehold_twice, reheld_accept}
use Rattle.places.proofs.RuleSome.{placed, placed_twice, placed_none, placed_stays, one_placed}
use Rattle.places.proofs.RuleCodes.{definitions_there}
use Rattle.context.specs.declared.Layout.{Layout}
use Rattle.context.specs.Memory.{part, con, state_of, SoundStore}
use Rattle.context.specs.Steps.{Moved}
use Rattle.context.specs.Performed.{Performed}
use Rattle.uses.specs.Look.{DefAt}
use Rattle.uses.specs.Some.{Between, HeldIn, PlacedOne, PlacedAll}
use Rattle.context.proofs.Performing.{accepts}

abbrev uses : Layout → List ℕ → Table Definition
uses l m = (meaning (state_of l m)).history.uses

-- the uses of a that pass the test are uses of b
abbrev to : ℕ → ℕ → (ℕ → Bool) → Table Definition → Table Definition
to a b p t = placed (defined operand a) (defined operand b) p t

-- ---- a move leaves places and numbers

pub num_move : (P : State) (c d : Con) (j u : ℕ) (z : Thing) → num (place_move_use c d j (usg, u) P) z ≡ num P z
unfolding enter leave relink set_own set_list
num_move P c d j u z = refl

live_move : (P : State) (c d : Con) (j u : ℕ) (z : Thing) → alive (place_move_use c d j (usg, u) P) z ≡ alive P z
unfolding alive enter leave relink set_own set_list
live_move P c d j u z = refl

pub def_kept : {l : Layout} {m m' : List ℕ} {u e : ℕ} {c : Con} → (state_of l m).own (usg, u) use_sets ≡ some c → Moved l u e m m' → (sl : Slot) (n f : ℕ) → DefAt l m sl n f → DefAt l m' sl n f
def_kept {l} {m} {m'} {u} {e} {c} held M sl n f A =
    let q : state_of l m' ≡ place_move_use c (con l use_sets e) l.uses (usg, u) (state_of l m) = M.state c held in
    record {
      place = A.place;
      live = rw (q, live_move (state_of l m) c (con l use_sets e) l.uses u (def_kind sl, A.place)) A.live;
      number = rw q (num_move (state_of l m) c (con l use_sets e) l.uses u (def_kind sl, A.place) ∙ A.number);
      row = A.row;
      inside = A.inside;
    }

module _ {l : Layout} {d e x : ℕ} {m : List ℕ} (S : SoundStore l m) (W : Between l m operand d e) where
  -- whatever happened, it is what the rules say of one number
  pub one_done : {m' : List ℕ} → PlacedOne l d e x m m' → (a b : ℕ) → DefAt l m operand a d → DefAt l m operand b e → meaning (state_of l m') ≡ rehold (to a b (λ k. eqb x k) (uses l m)) (meaning (state_of l m))
  one_done (PlacedOne.moved u lu nu held M) a b A B =
      ap meaning (M.state (def_role operand, (def_kind operand, A.place)) (held ∙ ap (λ (c : Con). some c) A.row) ∙ ap (λ (c : Con). place_move_use (def_role operand, (def_kind operand, A.place)) c l.uses (usg, u) (state_of l m)) B.row)
      ∙ one_placed S.sound operand A.place A.live B.place u l.uses B.live lu (held ∙ ap (λ (c : Con). some c) A.row)
      ∙ ap₂ (λ (y z : ℕ). rehold (to y z (λ k. eqb (num (state_of l m) (usg, u)) k) (uses l m)) (meaning (state_of l m))) A.number B.number
      ∙ ap (λ (y : ℕ). rehold (to a b (λ k. eqb y k) (uses l m)) (meaning (state_of l m))) nu
  one_done (PlacedOne.stayed h) a b A B =
      sym (rehold_self (meaning (state_of l m)))
      ∙ ap (λ (t : Table Definition). rehold t (meaning (state_of l m)))
      (sym (ap (λ (y : ℕ). placed (defined operand y) (defined operand b) (λ k. eqb x k) (uses l m)) (sym A.number)
      ∙ placed_stays S.sound operand A.place A.live (defined operand b) (λ k. eqb x k) (λ u lu held. ne_eqb x (num (state_of l m) (usg, u)) (λ q. h u lu (sym q) (held ∙ ap (λ (c : Con). some c) (sym A.row))))))

  pub one_sound : {m' : List ℕ} → PlacedOne l d e x m m' → SoundStore l m'
  one_sound (PlacedOne.moved u lu nu held M) = M.sound
  one_sound (PlacedOne.stayed h) = S

  pub one_rest : {m' : List ℕ} → PlacedOne l d e x m m' → part l m' 14 ≡ part l m 14
  one_rest (PlacedOne.moved u lu nu held M) = M.rest
  one_rest (PlacedOne.stayed h) = refl

  pub one_tables : {m' : List ℕ} → PlacedOne l d e x m m' → (k : Kind) → (state_of l m').tab k ≡ (state_of l m).tab k
  one_tables (PlacedOne.moved u lu nu held M) k = ap (λ (Q : State). Q.tab k) (M.state (con l use_sets d) held) ∙ tables_move (con l use_sets d) (con l use_sets e) l.uses (usg, u) (state_of l m) k
  one_tables (PlacedOne.stayed h) k = refl

  pub one_kept : {m' : List ℕ} → PlacedOne l d e x m m' → (c f : ℕ) → DefAt l m operand c f → DefAt l m' operand c f
  one_kept (PlacedOne.moved u lu nu held M) c f A = def_kept held M operand c f A
  one_kept (PlacedOne.stayed h) c f A = A

-- ---- one that does not stand there stays

pub stays : {l : Layout} {d e x : ℕ} {m : List ℕ} → SoundStore l m → HeldIn l d x m None → PlacedOne l d e x m m
stays S (inl n) = PlacedOne.stayed (λ u lu nu. absurd (n u lu nu))
stays {l} {d} {e} {x} {m} S (inr N) = PlacedOne.stayed (λ v lv nv q.
    let p : ◌≡◌ {A = Thing} (usg, N.place) (usg, v) = num_inj (state_of l m) S.sound.linked.tabs (usg, N.place) (usg, v) refl N.live lv (N.number ∙ sym nv) in
    N.away (ap (λ (y : Thing). (state_of l m).own y use_sets) p ∙ q))

-- ---- the loop: what is left to do is the whole

-- the numbers are those of fs from index 2 on
pub record Going (l : Layout) (d e : ℕ) (fs m₀ : List ℕ) (i : ℕ) (m : List ℕ) : Type 0 where
  pub sound : SoundStore l m
  pub rest : part l m 14 ≡ part l m₀ 14
  pub tables : (k : Kind) → (state_of l m).tab k ≡ (state_of l m₀).tab k
  pub between : Between l m operand d e
  pub kept : (c f : ℕ) → DefAt l m₀ operand c f → DefAt l m operand c f
  pub left : (a b : ℕ) → DefAt l m₀ operand a d → DefAt l m₀ operand b e → rehold (to a b (λ u. member u (drop i fs)) (uses l m)) (meaning (state_of l m)) ≡ rehold (to a b (λ u. member u (drop 2 fs)) (uses l m₀)) (meaning (state_of l m₀))

pub goes_on : {l : Layout} {d e : ℕ} {fs m₀ : List ℕ} {i : ℕ} {m m' : List ℕ} {x : ℕ} → Going l d e fs m₀ i m → i < length fs → x ≡ get_or fs i 0 → PlacedOne l d e x m m' → Going l d e fs m₀ (i + 1) m'
unfolding member
goes_on {l} {d} {e} {fs} {m₀} {i} {m} {m'} {x} G i< at O =
    record {
      sound = one_sound G.sound G.between O;
      rest = one_rest G.sound G.between O ∙ G.rest;
      tables = λ k. one_tables G.sound G.between O k ∙ G.tables k;
      between = record { this = G.between.this; other = G.between.other; from = keeps G.between.this d G.between.from; to = keeps G.between.other e G.between.to };
      kept = λ c f A. keeps c f (G.kept c f A);
      left = λ a b A B. step a b (one_done G.sound G.between O a b (G.kept a d A) (G.kept b e B)) ∙ G.left a b A B;
    }
  where
    keeps : (c f : ℕ) → DefAt l m operand c f → DefAt l m' operand c f
    keeps = one_kept G.sound G.between O

    more : drop i fs ≡ x ∷ drop (i + 1) fs
    more = drop-cons fs i 0 i< ∙ ap₂ (λ (y : ℕ) (k : ℕ). y ∷ drop k fs) (sym at) (sym (add-one i))

    step : (a b : ℕ) → meaning (state_of l m') ≡ rehold (to a b (λ k. eqb x k) (uses l m)) (meaning (state_of l m)) → rehold (to a b (λ u. member u (drop (i + 1) fs)) (uses l m')) (meaning (state_of l m')) ≡ rehold (to a b (λ u. member u (drop i fs)) (uses l m)) (meaning (state_of l m))
    step a b q =
        ap (λ s. rehold (to a b (λ u. member u (drop (i + 1) fs)) s.history.uses) s) q
        ∙ rehold_twice (to a b (λ u. member u (drop (i + 1) fs)) (rehold (to a b (λ k. eqb x k) (uses l m)) (meaning (state_of l m))).history.uses) (to a b (λ k. eqb x k) (uses l m)) (meaning (state_of l m))
        ∙ ap (λ (t : Table Definition). rehold (to a b (λ u. member u (drop (i + 1) fs)) t) (meaning (state_of l m))) (rehold_uses (to a b (λ k. eqb x k) (uses l m)) (meaning (state_of l m)))
        ∙ ap (λ (t : Table Definition). rehold t (meaning (state_of l m))) (placed_twice (defined operand a) (defined operand b) (λ k. eqb x k) (λ u. member u (drop (i + 1) fs)) (uses l m))
        ∙ ap (λ (r : List ℕ). rehold (to a b (λ u. member u r) (uses l m)) (meaning (state_of l m))) (sym more)

pub ends : {l : Layout} {d e : ℕ} {fs m₀ : List ℕ} {i : ℕ} {m : List ℕ} → Going l d e fs m₀ i m → length fs ≤ i → PlacedAll l d e (drop 2 fs) m₀ m
unfolding member remember births carry_out place_some defined reorder order new_flags new_types
ends {l} {d} {e} {fs} {m₀} {i} {m} G h =
    record {
      sound = G.sound;
      rest = G.rest;
      tables = G.tables;
      state = λ a b A B.
          reheld_accept (state_of l m₀) (state_of l m) G.sound.sound (replace_some a b (drop 2 fs)) (record { orders = λ h k r. refl; flags = refl; types = refl }) (to a b (λ u. member u (drop 2 fs)) (uses l m₀))
          (sym (ap (λ (t : Table Definition). rehold t (meaning (state_of l m))) (ap (λ (r : List ℕ). to a b (λ u. member u r) (uses l m)) (drop_of_length-le fs h) ∙ placed_none (defined operand a) (defined operand b) (uses l m)) ∙ rehold_self (meaning (state_of l m))) ∙ G.left a b A B)
          refl;
    }

-- ---- the edit

module _ {l : Layout} {m : List ℕ} (S : SoundStore l m) {a b d e : ℕ} (A : DefAt l m operand a d) (B : DefAt l m operand b e) {us : List ℕ} where
  pub replaced_some : {m' : List ℕ} → PlacedAll l d e us m m' → Performed l (replace_some a b us) m m' (Ok (0, 0))
  unfolding from_state answer clean found named definition_named
  replaced_some Q = accepts (replace_some a b us) Q.sound (definitions_there S.sound (replace_some a b us) operand A.place a A.live A.number b B.place refl B.live B.number) (Q.state a b A B) Q.rest (settles_same Q.tables) 0 0 refl

-- ---- the record

pub some_edit : (fs : List ℕ) {a b : ℕ} → a ≡ get_or fs 0 0 → b ≡ get_or fs 1 0 → replace_some a b (drop 2 fs) ≡ edit_by ReplaceSome fs
some_edit fs p q = ap₂ (λ (x y : ℕ). replace_some x y (drop 2 fs)) p q ∙ sym (by_replace_some fs)
