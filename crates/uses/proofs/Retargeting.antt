-- The uses of a block at operations of listed blocks move to another block, in one pass over them. Assumes nothing.
use mathlib.Core.Path.{◌≡◌, refl, sym, ap, ap₂, ◌∙◌, subst, fun_ext}
use mathlib.Core.Logic.{◌≢◌, by_cases, ⊎_elim, if_pos, if_neg}
use mathlib.Core.Bool.{Bool, true, false}
use mathlib.Core.List.{List, [], ◌∷◌, ◌++◌}
use mathlib.Core.Option.{Option, none, some}
use native.Mathlib.Decide.{ℕ_discrete}
use native.Mathlib.Omega.{arith}
use Prim.Native.Nat.{ℕ, ◌<◌, ◌≤◌}
use Rattle.std.specs.Prelude as Rust
use Rattle.std.specs.Prelude.{Some, None}
use Rattle.seqs.specs.Seqs.{count, In, seq_insert_at, without}
use Rattle.seqs.proofs.Base.{tick_yes, tick_no, count_append, in_head}
use Rattle.edit.specs.Record.{successor, of_block}
use Rattle.rules.specs.Table.{some_and, member}
use Rattle.places.specs.Store.{Table, alive, Kind, op, blk, reg, val, usg, block_uses, Fam, slots, use_sets, regs, ops_in, blocks_in, fam, Thing, Thing-dec, Con, State, Fit, UseHeld, enter, leave, outer, up}
use Rattle.places.specs.View.{num}
use Rattle.places.specs.Alias.{RState}
use Rattle.places.specs.Hist.{meaning}
use Rattle.places.specs.Edits.{place_move_use}
use Rattle.places.proofs.Steps.{some_inj, lists, owners, list_left, once}
use Rattle.places.proofs.Placing.{slots≢use_sets}
use Rattle.places.proofs.RuleMoves.{rehold}
use Rattle.places.proofs.Settling.{tables_move}
use Rattle.places.proofs.RuleSome.{placed}
use Rattle.places.proofs.RuleRetarget.{chosen, none_left, still_left, retarget_accept}
use Rattle.context.specs.declared.Layout.{Layout}
use Rattle.context.specs.Memory.{part, con, state_of, SoundStore, FirstIs}
use Rattle.context.specs.Reading.{NextIs}
use Rattle.context.specs.Steps.{CanMove, Moved}
use Rattle.context.proofs.Families.{con_back}
use Rattle.context.proofs.Numbers.{same_row}
use Rattle.uses.specs.Look.{DefAt}
use Rattle.uses.specs.Some.{Between}
use Rattle.uses.specs.Retarget.{marked, Marks, RetargetedOne, RetargetedAll}
use Rattle.uses.proofs.Choosing.{stands_in_list, chosen_listed}
use Rattle.uses.proofs.Placing.{num_move, def_kept}
use Rattle.context.proofs.Cursor.{row, ahead, At, Here, first_at, here, at_end, next_first, next_at, less}

-- ---- a list without one that stands in it once

without_none : (x : Thing) (l : List Thing) → count Thing-dec x l ≡ 0 → without Thing-dec x l ≡ l
without_none x [] h = refl
without_none x (y ∷ l) h =
    if_neg (Thing-dec y x) (λ e. absurd (omega (arith, h, tick_yes (Thing-dec x y) (sym e)))) (without Thing-dec x l) (y ∷ without Thing-dec x l)
    ∙ ap {B = List Thing} (λ r. y ∷ r) (without_none x l (omega (arith, h)))

without_one : (x : Thing) (a b : List Thing) → count Thing-dec x (a ++ x ∷ b) ≤ 1 → without Thing-dec x (a ++ x ∷ b) ≡ a ++ b
without_one x [] b h =
    if_pos (Thing-dec x x) refl (without Thing-dec x b) (x ∷ without Thing-dec x b)
    ∙ without_none x b (omega (arith, h, tick_yes (Thing-dec x x) refl))
without_one x (y ∷ a) b h =
    if_neg (Thing-dec y x) (λ e. absurd (omega (arith, h, tick_yes (Thing-dec x y) (sym e), count_append Thing-dec x a (x ∷ b), in_head Thing-dec x b))) (without Thing-dec x (a ++ x ∷ b)) (y ∷ without Thing-dec x (a ++ x ∷ b))
    ∙ ap {B = List Thing} (λ r. y ∷ r) (without_one x a b (omega (arith, h)))

-- ---- what a move leaves as it was

ops_in≢use_sets : ops_in ≢ use_sets
ops_in≢use_sets e = let z : ◌≡◌ {A = ℕ} 0 1 = cc in omega arith

blocks_in≢use_sets : blocks_in ≢ use_sets
blocks_in≢use_sets e = let z : ◌≡◌ {A = ℕ} 0 1 = cc in omega arith

regs≢use_sets : regs ≢ use_sets
regs≢use_sets e = let z : ◌≡◌ {A = ℕ} 0 1 = cc in omega arith

module _ (P : State) (c d : Con) (j u : ℕ) (fc : fam c.0 ≡ use_sets) (fd : fam d.0 ≡ use_sets) where
  abbrev x : Thing
  x = (usg, u)

  abbrev P₁ : State
  P₁ = leave c x P

  abbrev Q : State
  Q = place_move_use c d j x P

  own_kept : (g : Fam) → g ≢ use_sets → (y : Thing) → Q.own y g ≡ P.own y g
  unfolding enter leave
  own_kept g n y =
      ⊎_elim (λ e. absurd (n (e.1 ∙ fd))) (λ e. e.1) (owners P₁ d (seq_insert_at j x (P₁.list d.1 d.0)) x (some d) y g)
      ∙ ⊎_elim (λ e. absurd (n (e.1 ∙ fc))) (λ e. e.1) (owners P c (without Thing-dec x (P.list c.1 c.0)) x none y g)

  up_kept : (y : Thing) → up Q y ≡ up P y
  unfolding up
  up_kept (op, p) = ap outer (own_kept ops_in ops_in≢use_sets (op, p))
  up_kept (blk, p) = ap outer (own_kept blocks_in blocks_in≢use_sets (blk, p))
  up_kept (reg, p) = ap outer (own_kept regs regs≢use_sets (reg, p))
  up_kept (val, p) = refl
  up_kept (usg, p) = refl

  stands_kept : (ps : List ℕ) (y : Thing) → stands_in_list Q ps y ≡ stands_in_list P ps y
  stands_kept ps y =
      ap (λ (o : Option Con). some_and (outer o) (λ o. some_and (up Q o) (λ b. member (num Q b) ps))) (own_kept slots slots≢use_sets y)
      ∙ ap (λ (w : Thing → Option Thing). some_and (outer (P.own y slots)) (λ o. some_and (w o) (λ b. member (num Q b) ps))) (fun_ext up_kept)
      ∙ ap (λ (nm : Thing → ℕ). some_and (outer (P.own y slots)) (λ o. some_and (up P o) (λ b. member (nm b) ps))) (fun_ext (num_move P c d j u))

  list_less : c ≢ d → Q.list c.1 c.0 ≡ without Thing-dec x (P.list c.1 c.0)
  unfolding enter
  list_less n =
      ⊎_elim (λ e. absurd (n (λ i. (e.1 i, e.0 i)))) (λ e. e.1) (lists P₁ d (seq_insert_at j x (P₁.list d.1 d.0)) x (some d) c.1 c.0)
      ∙ list_left P c x

-- ---- the loop: what is left to do is the whole

-- all uses of a that are chosen become uses of b
unfoldable pub whole : List ℕ → ℕ → ℕ → RState → RState
whole ps a b s = rehold (placed (of_block a) (of_block b) (chosen s.history ps) s.history.uses) s

-- marks speak of the table of blocks alone
marks_kept : {l : Layout} {ps m m' : List ℕ} {w : List Bool} → ((k : Kind) → (state_of l m').tab k ≡ (state_of l m).tab k) → Marks l ps m w → Marks l ps m' w
unfolding alive
marks_kept {l} {ps} {m} {m'} {w} same M = record { is = subst (λ (t : Table). (b : ℕ) → 0 < count ℕ_discrete b t.order → marked w b ≡ member (t.num b) ps) (sym (same blk)) M.is }

pub record Going (l : Layout) (d e : ℕ) (ps : List ℕ) (w : List Bool) (m₀ : List ℕ) (k : Rust.Option ℕ) (m : List ℕ) : Type 0 where
  pub sound : SoundStore l m
  pub rest : part l m 14 ≡ part l m₀ 14
  pub tables : (k : Kind) → (state_of l m).tab k ≡ (state_of l m₀).tab k
  pub between : Between l m successor d e
  pub marks : Marks l ps m w
  pub kept : (n f : ℕ) → DefAt l m₀ successor n f → DefAt l m successor n f
  pub at : At l use_sets d m k
  -- those passed stay
  pub passed : (y : Thing) → In Thing-dec y at.done → stands_in_list (state_of l m) ps y ≡ false
  pub left : (a b : ℕ) → DefAt l m₀ successor a d → DefAt l m₀ successor b e → whole ps a b (meaning (state_of l m)) ≡ whole ps a b (meaning (state_of l m₀))

pub begins : {l : Layout} {d e : ℕ} {ps m : List ℕ} {w : List Bool} {k : Rust.Option ℕ} → SoundStore l m → Between l m successor d e → Marks l ps m w → FirstIs l use_sets d m k → Going l d e ps w m k m
unfolding first_at
begins S W M F = record { sound = S; rest = refl; tables = λ k. refl; between = W; marks = M; kept = λ n f A. A; at = first_at F; passed = λ y i. absurd (omega (arith, i)); left = λ a b A B. refl }

module _ {l : Layout} {d e : ℕ} {ps : List ℕ} {w : List Bool} {m₀ : List ℕ} {k : Rust.Option ℕ} {m : List ℕ} (G : Going l d e ps w m₀ k m) {p : ℕ} (h : k ≡ Some p) where
  abbrev S : State
  S = state_of l m

  abbrev v : Thing
  v = (usg, p)

  abbrev H : Here l use_sets d m p G.at.todo
  H = here G.sound G.at h

  K : UseHeld (S.own v)
  K = G.sound.sound.placed v H.live

  fits : Fit K.slot.0 block_uses
  fits = subst (λ (c : Con). Fit K.slot.0 c.0) (some_inj (sym K.in_def ∙ H.own) ∙ G.between.from.row) K.fit

  pub can_move : CanMove S p (con l use_sets e)
  can_move = rw G.between.to.row (record { live = H.live; fit = λ s q. subst (λ (c : Con). Fit c.0 block_uses) (some_inj (sym K.in_slot ∙ q)) fits; home = G.between.to.live })

  split : row l use_sets d m ≡ G.at.done ++ v ∷ H.later
  split = G.at.parts ∙ ap {B = List Thing} (λ (t : List Thing). G.at.done ++ t) H.is

  module _ (apart : d ≢ e) {j : Rust.Option ℕ} (N : NextIs l use_sets p m j) where
    abbrev Next : List ℕ → Type 0
    Next m' = Going l d e ps w m₀ j m' × (ahead l use_sets d m' j < ahead l use_sets d m k)

    -- it stays
    stays : stands_in_list S ps v ≡ false → Next m
    unfolding next_at
    stays n =
        let A : At l use_sets d m j = next_at G.sound G.at h N in
        (record { sound = G.sound; rest = G.rest; tables = G.tables; between = G.between; marks = G.marks; kept = G.kept; at = A; passed = by; left = G.left }, less G.sound G.at h G.sound A refl)
      where
        by : (y : Thing) → In Thing-dec y (G.at.done ++ v ∷ []) → stands_in_list S ps y ≡ false
        by y i =
            by_cases (Thing-dec y v) (λ q. ap (stands_in_list S ps) q ∙ n)
            (λ q. G.passed y (omega (arith, i, count_append Thing-dec y G.at.done (v ∷ []), tick_no (Thing-dec y v) q)))

    -- it moves
    module _ {m' : List ℕ} (y : stands_in_list S ps v ≡ true) (M : Moved l p e m m') where
      c≢ : con l use_sets d ≢ con l use_sets e
      c≢ q = apart (same_row l use_sets d e q)

      in_d : fam (con l use_sets d).0 ≡ use_sets
      in_d = (con_back l.values l.ops use_sets d).family

      in_e : fam (con l use_sets e).0 ≡ use_sets
      in_e = (con_back l.values l.ops use_sets e).family

      state : state_of l m' ≡ place_move_use (con l use_sets d) (con l use_sets e) l.uses v S
      state = M.state (con l use_sets d) H.own

      row' : row l use_sets d m' ≡ G.at.done ++ H.later
      row' =
          ap (λ (Z : State). Z.list (con l use_sets d).1 (con l use_sets d).0) state
          ∙ list_less S (con l use_sets d) (con l use_sets e) l.uses p in_d in_e c≢
          ∙ ap (without Thing-dec v) split
          ∙ without_one v G.at.done H.later (omega (arith, once G.sound.sound.linked v use_sets (con l use_sets d) H.own, ap (count Thing-dec v) split))

      at' : At l use_sets d m' j
      at' = record { done = G.at.done; todo = H.later; parts = row'; first = next_first G.sound G.at h N }

      left' : (a b : ℕ) → DefAt l m successor a d → DefAt l m successor b e → whole ps a b (meaning (state_of l m')) ≡ whole ps a b (meaning S)
      unfolding whole
      left' a b A B =
          ap (λ (Z : State). whole ps a b (meaning Z)) (M.state (block_uses, (blk, A.place)) (H.own ∙ ap (λ (c : Con). some c) A.row) ∙ ap (λ (c : Con). place_move_use (block_uses, (blk, A.place)) c l.uses v S) B.row)
          ∙ ap₂ (λ (y z : ℕ). whole ps y z (meaning (place_move_use (block_uses, (blk, A.place)) (block_uses, (blk, B.place)) l.uses v S))) (sym A.number) (sym B.number)
          ∙ still_left G.sound.sound ps A.place B.place p l.uses A.live B.live H.live (H.own ∙ ap (λ (c : Con). some c) A.row) y
          ∙ ap₂ (λ (y z : ℕ). whole ps y z (meaning S)) A.number B.number

      moves : Next m'
      unfolding at'
      moves = (
        record {
          sound = M.sound;
          rest = M.rest ∙ G.rest;
          tables = λ k. ap (λ (Q : State). Q.tab k) state ∙ tables_move (con l use_sets d) (con l use_sets e) l.uses v S k ∙ G.tables k;
          between = record { this = G.between.this; other = G.between.other; from = keeps G.between.this d G.between.from; to = keeps G.between.other e G.between.to };
          marks = marks_kept (λ k. ap (λ (Q : State). Q.tab k) state ∙ tables_move (con l use_sets d) (con l use_sets e) l.uses v S k) G.marks;
          kept = λ n f A. keeps n f (G.kept n f A);
          at = at';
          passed = λ z i. ap (λ (Z : State). stands_in_list Z ps z) state ∙ stands_kept S (con l use_sets d) (con l use_sets e) l.uses p in_d in_e ps z ∙ G.passed z i;
          left = λ a b A B. left' a b (G.kept a d A) (G.kept b e B) ∙ G.left a b A B;
        },
        less G.sound G.at h M.sound at' refl,
      )
        where
          keeps : (n f : ℕ) → DefAt l m successor n f → DefAt l m' successor n f
          keeps = def_kept H.own M successor

    pub goes_on : {m' : List ℕ} → RetargetedOne l e p w m m' → Next m'
    goes_on (RetargetedOne.moved C M) = moves (chosen_listed G.sound G.marks C) M
    goes_on (RetargetedOne.stayed C) = stays (chosen_listed G.sound G.marks C)

pub all_passed : {l : Layout} {d e : ℕ} {ps : List ℕ} {w : List Bool} {m₀ : List ℕ} {k : Rust.Option ℕ} {m : List ℕ} → Going l d e ps w m₀ k m → k ≡ None → RetargetedAll l d e ps m₀ m
unfolding whole
all_passed {l} {d} {e} {ps} {w} {m₀} {k} {m} G z = record { sound = G.sound; rest = G.rest; tables = G.tables; state = λ a b A B. retarget_accept (state_of l m₀) (state_of l m) G.sound.sound a b ps (sym (none a b (G.kept a d A)) ∙ G.left a b A B) }
  where
    all_done : (a : List Thing) (b : List Thing) → b ≡ [] → (y : Thing) → In Thing-dec y (a ++ b) → In Thing-dec y a
    all_done a b q y i = omega (arith, i, count_append Thing-dec y a b, ap (count Thing-dec y) q)

    none : (a b : ℕ) → DefAt l m successor a d → whole ps a b (meaning (state_of l m)) ≡ meaning (state_of l m)
    none a b A =
        ap (λ (y : ℕ). whole ps y b (meaning (state_of l m))) (sym A.number)
        ∙ none_left G.sound.sound ps A.place A.live b
        (λ u lu held.
        G.passed (usg, u)
        (all_done G.at.done G.at.todo (at_end G.sound G.at z) (usg, u)
        (omega (arith, once G.sound.sound.linked (usg, u) use_sets (con l use_sets d) (held ∙ ap (λ (c : Con). some c) (sym A.row)), ap (count Thing-dec (usg, u)) G.at.parts))))
