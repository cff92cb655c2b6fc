-- A new operation: its refusal, its birth, one more birth in its lists, and the whole. Assumes nothing.
use mathlib.Core.Path.{◌≡◌, refl, sym, ap, ap₂, ◌∙◌, subst}
use mathlib.Core.Logic.{◌≢◌}
use mathlib.Core.List.{List, [], ◌++◌, map, append-nil}
use Prim.Native.Nat.{ℕ, suc, ◌+◌, ◌-◌, ◌≤◌, ◌<◌}
use native.Mathlib.Omega.{arith}
use native.Mathlib.Numerals.{add-one}
use lib.ListN.{length, get_or}
use Rattle.std.specs.Prelude as Rust
use Rattle.std.specs.Prelude.{Some, Ok, Err}
use Rattle.edit.specs.declared.Refusal.{Refusal}
use Rattle.edit.specs.Kinds.{number_of, kind_number}
use Rattle.edit.specs.Record.{Slot, operand, successor, Edit, new_operation, part}
use Rattle.edit.specs.Taken.{edit_by, OperationFields, Passed}
use Rattle.edit.specs.declared.Kind.TheVariants.{NewOperation}
use Rattle.edit.specs.Answer.{found}
use Rattle.edit.proofs.Asked.{operation_fields, part_length}
use Rattle.edit.proofs.ByKind.{by_new_operation}
use Rattle.rules.specs.History.{births}
use Rattle.rules.specs.State.{accept}
use Rattle.rules.specs.Refusal.{check, named, definition_named, block_named, lacks, numbers, live_counts, places, no_room, first_missing, from_state, refusal_of}
use Rattle.rules.specs.Step.{answer}
use Rattle.places.specs.Store.{Kind, op, reg, val, usg, results, operands, successors, regions, vals, slots, use_sets, Con, State, Live, Linked, birth, enter, relink, set_own, set_list}
use Rattle.places.specs.View.{num, view, n_birth, n_enter, named_c}
use Rattle.places.specs.Edits.{birth_use, n_birth_use}
use Rattle.places.specs.Parts.{store}
use Rattle.places.specs.Hist.{rule_state, meaning}
use Rattle.places.specs.Roles.{slot_role, def_role, def_kind}
use Rattle.places.specs.Accepts.{Accepts}
use Rattle.places.specs.Settled.{Settles}
use Rattle.places.proofs.Steps.{Fresh, alive_born, alive_enter}
use Rattle.places.proofs.Sees.{see_birth, num_new}
use Rattle.places.proofs.RuleRefusals.{refusal_name, refusal_tests, born_is}
use Rattle.places.proofs.RuleAccept.{accept_is, ended_of}
use Rattle.places.proofs.RuleUses.{slot_fits, cap_birth}
use Rattle.places.proofs.RuleValues.{value_caps}
use Rattle.places.proofs.RuleBirths.{operation_first, result_turn, operand_turn, successor_turn, region_turn}
use Rattle.places.proofs.Settling.{settles_same, settles_birth, settles_enter, settles_birth_use, lowest_free}
use Rattle.places.proofs.RuleGrown.{kept_birth, kept_enter, values_live, values_next, uses_live, uses_next, regions_live, regions_next, same_ended, results_long, operands_long, successors_long, regions_long, value_kept, block_kept}
use Rattle.context.specs.declared.Layout.{Layout}
use Rattle.context.specs.Layout.{cap_of}
use Rattle.context.specs.Memory.{con, ListIs, state_of, parts_of, SoundStore, RoomFor, Finds}
use Rattle.context.specs.Reading.{NextNumberIs}
use Rattle.context.specs.Steps.{BorneOp, CanBearValue, BorneValue, CanBear, BorneUse, CanHold, BorneRegion}
use Rattle.context.specs.Performed.{abs, Performed}
use Rattle.context.proofs.Places.{place<}
use Rattle.context.proofs.Performing.{refuses, accepts}
use Rattle.creation.specs.Room.{five, RoomIs}
use Rattle.creation.specs.declared.Parts.{Parts}
use Rattle.creation.specs.Made.{NamesIs, CanUse, Used, Counts, uses_from, uses_many, OperationReady, OperationTested, grown, with_uses, OperationPartly, gone, Made}
use Rattle.creation.proofs.Listed.{part_none, part_more}
use Rattle.creation.proofs.Names.{all_there}

cap_is : (l : Layout) (m : List ℕ) (k : Kind) → ((state_of l m).tab k).cap ≡ cap_of l k
unfolding store parts_of
cap_is l m k = refl

not_op : {k : Kind} → k ≡ val → k ≡ op → ⊥
not_op e f = let q : val ≡ op = sym e ∙ f in let z : ◌≡◌ {A = ℕ} 0 1 = cc in omega arith

not_op_reg : reg ≡ op → ⊥
not_op_reg e = let z : ◌≡◌ {A = ℕ} 0 1 = cc in omega arith

not_op_usg : usg ≡ op → ⊥
not_op_usg e = let z : ◌≡◌ {A = ℕ} 0 1 = cc in omega arith

use_caps_of : (P : State) (c d : Con) (i j u : ℕ) (k : Kind) → ((birth_use c i d j u P).tab k).cap ≡ (P.tab k).cap
unfolding enter relink set_own set_list
use_caps_of P c d i j u k = cap_birth P (usg, u) 0 k

-- the definition that was found
pub definition_is : (P : State) (sl : Slot) (k : Kind) → k ≡ def_kind sl → (d p : ℕ) (r : Rust.Option ℕ) → Finds P k d r → r ≡ Some p → Live P (def_kind sl, p) × (num P (def_kind sl, p) ≡ d)
definition_is P sl k k-is d p r F e = let G : Live P (k, p) × (num P (k, p) ≡ d) = rw e at F in subst (λ (x : Kind). Live P (x, p) × (num P (x, p) ≡ d)) k-is G

-- the tables right, and no use ended: the state is the rules'
whole_state : {l : Layout} {m m' : List ℕ} → SoundStore l m → SoundStore l m' → (E : Edit) → ended_of (state_of l m') ≡ gone l m → Accepts (state_of l m) (state_of l m') E (gone l m) (gone l m) → meaning (state_of l m') ≡ accept E (meaning (state_of l m))
unfolding meaning
whole_state {l} {m} {m'} S T E e A = ap (λ (k : ℕ). rule_state k (state_of l m')) e ∙ accept_is T.sound E (gone l m) (gone l m) A

-- ---- a use

module _ {l : Layout} {m : List ℕ} (S : SoundStore l m) (sl : Slot) (o i d : ℕ) (C : CanUse l sl o d m) where
  abbrev P : State
  P = state_of l m

  module _ (p : ℕ) (p_is : Live P (def_kind sl, p) × (num P (def_kind sl, p) ≡ d)) {s k : ℕ} (A : ListIs l slots (slot_role sl, (op, o)) s) (D : ListIs l use_sets (def_role sl, (def_kind sl, p)) k) where
    pub can_use : CanBear P l.uses (con l slots s) (con l use_sets k)
    can_use = rw (A.row, D.row) (record { room = C.room; fit = slot_fits sl; slot = C.slot; limit = C.limit; home = p_is.0 })

    pub used : {m' : List ℕ} (u : ℕ) → BorneUse l s i k m m' u → Used l sl o i d m m'
    used {m'} u B =
        record {
          sound = B.sound;
          rest = B.rest;
          caps = λ j. ap (λ (Q : State). (Q.tab j).cap) born ∙ use_caps j;
          view = B.view ∙ ap₂ (λ (x y : Con). n_birth_use (named_c P x) i (named_c P y) (view P)) A.row D.row ∙ ap (λ (n : ℕ). n_birth_use (slot_role sl, (op, num P (op, o))) i (def_role sl, (def_kind sl, n)) (view P)) p_is.1;
          places = λ from s₀. subst (Settles from) (sym born) (settles_birth_use (slot_role sl, (op, o)) i (def_role sl, (def_kind sl, p)) l.uses u s₀ (lowest_free P usg u B.dead B.lowest));
          kept = rw born kept_use;
        }
      where
        born : state_of l m' ≡ birth_use (slot_role sl, (op, o)) i (def_role sl, (def_kind sl, p)) l.uses u P
        born = B.state ∙ ap₂ (λ (x y : Con). birth_use x i y l.uses u P) A.row D.row

        fresh : Fresh P (usg, u) 0
        fresh = record { dead = B.dead; room = rw (cap_is l m usg) B.room; flags = λ e. absurd (not_op_usg e) }

        use_caps : (j : Kind) → ((birth_use (slot_role sl, (op, o)) i (def_role sl, (def_kind sl, p)) l.uses u P).tab j).cap ≡ (P.tab j).cap
        use_caps j = use_caps_of P (slot_role sl, (op, o)) (def_role sl, (def_kind sl, p)) i l.uses u j

        kept_use : Live (birth_use (slot_role sl, (op, o)) i (def_role sl, (def_kind sl, p)) l.uses u P) (op, o) × (num (birth_use (slot_role sl, (op, o)) i (def_role sl, (def_kind sl, p)) l.uses u P) (op, o) ≡ num P (op, o))
        kept_use =
            let k₁ : Live (enter (slot_role sl, (op, o)) i (usg, u) (birth (usg, u) 0 P)) (op, o) × (num (enter (slot_role sl, (op, o)) i (usg, u) (birth (usg, u) 0 P)) (op, o) ≡ num P (op, o)) = kept_birth S.sound.linked (usg, u) 0 fresh (slot_role sl, (op, o)) i (op, o) C.slot in
            let k₂ : Live (birth_use (slot_role sl, (op, o)) i (def_role sl, (def_kind sl, p)) l.uses u P) (op, o) × (num (birth_use (slot_role sl, (op, o)) i (def_role sl, (def_kind sl, p)) l.uses u P) (op, o) ≡ num (enter (slot_role sl, (op, o)) i (usg, u) (birth (usg, u) 0 P)) (op, o)) = kept_enter (enter (slot_role sl, (op, o)) i (usg, u) (birth (usg, u) 0 P)) (usg, u) (def_role sl, (def_kind sl, p)) l.uses (op, o) k₁.0 in
            (k₂.0, k₂.1 ∙ k₁.1)

-- ---- one more in a list, where i results, j operands, k successors and n regions are there

module _ {l : Layout} {m : List ℕ} (fs : List ℕ) (c : Parts) (o : ℕ) (R : OperationReady l fs c m) where
  abbrev P₀ : State
  P₀ = state_of l m

  full : length fs ≡ 5 + c.results + c.operands + c.successors
  full = omega (arith, R.fields.full, R.counts.results, R.counts.operands, R.counts.successors)

  module _ {m₁ : List ℕ} (i j k n : ℕ) (i≤ : i ≤ c.results) (j≤ : j ≤ c.operands) (k≤ : k ≤ c.successors) (M : Made l (grown fs c i j k n) op o m m₁) where
    abbrev Q : State
    Q = state_of l m₁

    abbrev ts : List ℕ
    ts = part fs 5 i

    abbrev vs : List ℕ
    vs = part fs (5 + c.results) j

    abbrev bs : List ℕ
    bs = part fs (5 + c.results + c.operands) k

    long_ts : length ts ≡ i
    long_ts = part_length fs 5 i (omega (arith, full, i≤))

    long_vs : length vs ≡ j
    long_vs = part_length fs (5 + c.results) j (omega (arith, full, j≤))

    long_bs : length bs ≡ k
    long_bs = part_length fs (5 + c.results + c.operands) k (omega (arith, full, k≤))

    abbrev L : Linked P₀
    L = R.sound.sound.linked

    pub can_result : {v : ℕ} → ListIs l vals (results, (op, o)) v → i < c.results → CanBearValue Q l.values (con l vals v)
    can_result V h =
        rw V.row
        (record {
          room = record {
            place = omega (arith, values_live L M.sound.sound (gone l m) (get_or fs 0 0) ts vs bs n M.accepts, long_ts, h, R.places val);
            number = omega (arith, values_next L M.sound.sound (gone l m) (get_or fs 0 0) ts vs bs n M.accepts, long_ts, h, R.numbers val);
          };
          home = M.live;
          limit = omega (arith, results_long L M.sound.sound (gone l m) (get_or fs 0 0) ts vs bs n M.accepts o M.live M.number, long_ts, h, R.counts.results, R.fields.results);
        })

    use_room : j + k < c.operands + c.successors → RoomFor Q usg l.uses
    use_room h =
        record {
          place = omega (arith, uses_live L M.sound.sound (gone l m) (get_or fs 0 0) ts vs bs n M.accepts, long_vs, long_bs, h, R.places usg);
          number = omega (arith, uses_next L M.sound.sound (gone l m) (get_or fs 0 0) ts vs bs n M.accepts, long_vs, long_bs, h, R.numbers usg);
        }

    pub can_operand : j < c.operands → (d : ℕ) → d ≡ get_or fs (5 + c.results + j) 0 → CanUse l operand o d m₁
    can_operand h d e =
        record {
          room = use_room (omega (arith, h, k≤));
          slot = M.live;
          limit = omega (arith, operands_long L M.sound.sound (gone l m) (get_or fs 0 0) ts vs bs n M.accepts o M.live M.number, long_vs, h, R.counts.operands, R.fields.operands);
          there = λ u. value_kept L M.sound.sound (gone l m) (get_or fs 0 0) ts vs bs n M.accepts d u (R.values j h).place (R.values j h).live ((R.values j h).number ∙ sym e);
        }

    pub can_successor : k < c.successors → (d : ℕ) → d ≡ get_or fs (5 + c.results + c.operands + k) 0 → CanUse l successor o d m₁
    can_successor h d e =
        record {
          room = use_room (omega (arith, h, j≤));
          slot = M.live;
          limit = omega (arith, successors_long L M.sound.sound (gone l m) (get_or fs 0 0) ts vs bs n M.accepts o M.live M.number, long_bs, h, R.counts.successors, R.fields.successors);
          there = λ u. block_kept L M.sound.sound (gone l m) (get_or fs 0 0) ts vs bs n M.accepts d u (R.blocks k h).place (R.blocks k h).live ((R.blocks k h).number ∙ sym e);
        }

    pub can_region : n < c.regions → CanHold Q o l.regions
    can_region h =
        record {
          room = record {
            place = omega (arith, regions_live L M.sound.sound (gone l m) (get_or fs 0 0) ts vs bs n M.accepts, h, R.places reg);
            number = omega (arith, regions_next L M.sound.sound (gone l m) (get_or fs 0 0) ts vs bs n M.accepts, h, R.numbers reg);
          };
          home = M.live;
          limit = omega (arith, regions_long L M.sound.sound (gone l m) (get_or fs 0 0) ts vs bs n M.accepts o M.live M.number, h, R.counts.regions, R.fields.regions);
        }

    module _ {m₂ : List ℕ} where
      pub result_made : {v : ℕ} → ListIs l vals (results, (op, o)) v → i < c.results → (t q : ℕ) → t ≡ get_or fs (5 + i) 0 → BorneValue l v i t m₁ m₂ q → Made l (grown fs c (i + 1) j k n) op o m m₂
      result_made V h t q t-is B =
          record {
            sound = B.sound;
            rest = B.rest ∙ M.rest;
            accepts = rw (part_more fs 5 i (omega (arith, full, h)), sym t-is) (result_turn Q (state_of l m₂) L (gone l m) caps (get_or fs 0 0) ts vs bs n M.accepts t i (omega (arith, long_ts)) seen);
            places = subst (Settles P₀) (sym born) (settles_enter (results, (op, o)) i (val, q) (settles_birth (val, q) t M.places (lowest_free Q val q B.dead B.lowest)));
            live = kept.0;
            number = kept.1 ∙ M.number;
          }
        where
          born : (state_of l m₂) ≡ enter (results, (op, o)) i (val, q) (birth (val, q) t Q)
          born = B.state ∙ ap (λ (y : Con). enter y i (val, q) (birth (val, q) t Q)) V.row

          caps : (x : Kind) → ((state_of l m₂).tab x).cap ≡ (Q.tab x).cap
          caps x = ap (λ (X : State). (X.tab x).cap) born ∙ value_caps Q (results, (op, o)) i t q x

          seen : view (state_of l m₂) ≡ n_enter (results, (op, (P₀.tab op).next)) i (val, (view Q).next val) (n_birth val t (view Q))
          seen = B.view ∙ ap (λ (y : Con). n_enter (named_c Q y) i (val, (view Q).next val) (n_birth val t (view Q))) V.row ∙ ap (λ (y : ℕ). n_enter (results, (op, y)) i (val, (view Q).next val) (n_birth val t (view Q))) M.number

          kept : Live (state_of l m₂) (op, o) × (num (state_of l m₂) (op, o) ≡ num Q (op, o))
          kept = rw born (kept_birth M.sound.sound.linked (val, q) t (record { dead = B.dead; room = rw (cap_is l m₁ val) B.room; flags = λ e. absurd (not_op refl e) }) (results, (op, o)) i (op, o) M.live)

      pub successor_made : k < c.successors → (d : ℕ) → d ≡ get_or fs (5 + c.results + c.operands + k) 0 → Used l successor o k d m₁ m₂ → Made l (grown fs c i j (k + 1) n) op o m m₂
      successor_made h d d-is U =
          record {
            sound = U.sound;
            rest = U.rest ∙ M.rest;
            accepts = rw (part_more fs (5 + c.results + c.operands) k (omega (arith, full, h)), sym d-is) (successor_turn Q (state_of l m₂) L (gone l m) U.caps (get_or fs 0 0) ts vs bs n M.accepts d k (omega (arith, long_bs)) M.sound.sound.linked (U.view ∙ ap (λ (y : ℕ). n_birth_use (slot_role successor, (op, y)) k (def_role successor, (def_kind successor, d)) (view Q)) M.number));
            places = U.places P₀ M.places;
            live = U.kept.0;
            number = U.kept.1 ∙ M.number;
          }

      pub operand_made : k ≡ 0 → j < c.operands → (d : ℕ) → d ≡ get_or fs (5 + c.results + j) 0 → Used l operand o j d m₁ m₂ → Made l (grown fs c i (j + 1) k n) op o m m₂
      operand_made z h d d-is U =
          record {
            sound = U.sound;
            rest = U.rest ∙ M.rest;
            accepts = rw (no_blocks, part_more fs (5 + c.results) j (omega (arith, full, h)), sym d-is) (operand_turn Q (state_of l m₂) L (gone l m) U.caps (get_or fs 0 0) ts vs n (rw no_blocks at M.accepts) d j (omega (arith, long_vs)) M.sound.sound.linked (U.view ∙ ap (λ (y : ℕ). n_birth_use (slot_role operand, (op, y)) j (def_role operand, (def_kind operand, d)) (view Q)) M.number));
            places = U.places P₀ M.places;
            live = U.kept.0;
            number = U.kept.1 ∙ M.number;
          }
        where
          no_blocks : part fs (5 + c.results + c.operands) k ≡ []
          no_blocks = ap (part fs (5 + c.results + c.operands)) z ∙ part_none fs (5 + c.results + c.operands)

      pub region_made : n < c.regions → (p : ℕ) → BorneRegion l o m₁ m₂ p → Made l (grown fs c i j k (n + 1)) op o m m₂
      region_made h p B =
          record {
            sound = B.sound;
            rest = B.rest ∙ M.rest;
            accepts = rw (add-one n) (region_turn Q (state_of l m₂) L (gone l m) caps (get_or fs 0 0) ts vs bs n M.accepts l.regions (omega (arith, h, R.places reg)) seen);
            places = subst (Settles P₀) (sym B.state) (settles_enter (regions, (op, o)) l.regions (reg, p) (settles_birth (reg, p) 0 M.places (lowest_free Q reg p B.dead B.lowest)));
            live = kept.0;
            number = kept.1 ∙ M.number;
          }
        where
          caps : (x : Kind) → ((state_of l m₂).tab x).cap ≡ (Q.tab x).cap
          caps x = cap_is l m₂ x ∙ sym (cap_is l m₁ x)

          region_room : p < (Q.tab reg).cap
          region_room = rw (cap_is l m₁ reg) (place< B.sound (reg, p) (rw B.state (omega (arith, alive_born Q (reg, p) 0, alive_enter (birth (reg, p) 0 Q) (regions, (op, o)) (reg, p) l.regions (reg, p)))))

          seen : view (state_of l m₂) ≡ n_enter (regions, (op, (P₀.tab op).next)) l.regions (reg, (view Q).next reg) (n_birth reg 0 (view Q))
          seen = B.view ∙ ap (λ (y : ℕ). n_enter (regions, (op, y)) l.regions (reg, (view Q).next reg) (n_birth reg 0 (view Q))) M.number

          kept : Live (state_of l m₂) (op, o) × (num (state_of l m₂) (op, o) ≡ num Q (op, o))
          kept = rw B.state (kept_birth M.sound.sound.linked (reg, p) 0 (record { dead = B.dead; room = region_room; flags = λ e. absurd (not_op_reg e) }) (regions, (op, o)) l.regions (op, o) M.live)

-- ---- one birth more, of each list

module _ {l : Layout} {m m₁ : List ℕ} (fs : List ℕ) (c : Parts) (o : ℕ) where
  module _ (j : ℕ) (A : OperationPartly l fs c o (grown fs c j 0 0 0) m m₁) {v : ℕ} (V : ListIs l vals (results, (op, o)) v) (h : j < c.results) where
    pub result_can : CanBearValue (state_of l m₁) l.values (con l vals v)
    result_can = can_result fs c o A.ready j 0 0 0 (omega (arith, h)) (omega arith) (omega arith) A.made V h

    pub result_on : {m₂ : List ℕ} (x q : ℕ) → x ≡ get_or fs (5 + j) 0 → BorneValue l v j x m₁ m₂ q → OperationPartly l fs c o (grown fs c (j + 1) 0 0 0) m m₂
    result_on x q e B = record { ready = A.ready; made = result_made fs c o A.ready j 0 0 0 (omega (arith, h)) (omega arith) (omega arith) A.made V h x q e B }

  pub use_can : (sl : Slot) (j : ℕ) → OperationPartly l fs c o (with_uses fs c sl j) m m₁ → j < uses_many c sl → (d : ℕ) → d ≡ get_or fs (uses_from c sl + j) 0 → CanUse l sl o d m₁
  use_can operand j A h d e = can_operand fs c o A.ready c.results j 0 0 (omega arith) (omega (arith, h)) (omega arith) A.made h d e
  use_can successor j A h d e = can_successor fs c o A.ready c.results c.operands j 0 (omega arith) (omega arith) (omega (arith, h)) A.made h d e

  pub use_on : (sl : Slot) (j : ℕ) → OperationPartly l fs c o (with_uses fs c sl j) m m₁ → j < uses_many c sl → (d : ℕ) → d ≡ get_or fs (uses_from c sl + j) 0 → {m₂ : List ℕ} → Used l sl o j d m₁ m₂ → OperationPartly l fs c o (with_uses fs c sl (j + 1)) m m₂
  use_on operand j A h d e U = record { ready = A.ready; made = operand_made fs c o A.ready c.results j 0 0 (omega arith) (omega (arith, h)) (omega arith) A.made refl h d e U }
  use_on successor j A h d e U = record { ready = A.ready; made = successor_made fs c o A.ready c.results c.operands j 0 (omega arith) (omega arith) (omega (arith, h)) A.made h d e U }

  module _ (j : ℕ) (A : OperationPartly l fs c o (grown fs c c.results c.operands c.successors j) m m₁) (h : j < c.regions) where
    pub region_can : CanHold (state_of l m₁) o l.regions
    region_can = can_region fs c o A.ready c.results c.operands c.successors j (omega arith) (omega arith) (omega arith) A.made h

    pub region_on : {m₂ : List ℕ} (p : ℕ) → BorneRegion l o m₁ m₂ p → OperationPartly l fs c o (grown fs c c.results c.operands c.successors (j + 1)) m m₂
    region_on p B = record { ready = A.ready; made = region_made fs c o A.ready c.results c.operands c.successors j (omega arith) (omega arith) (omega arith) A.made h p B }

-- ---- the tests

module _ {l : Layout} {m : List ℕ} (S : SoundStore l m) (fs : List ℕ) (F : Passed (kind_number NewOperation) fs) (c : Parts) (N : Counts fs c) where
  abbrev whole : Edit
  whole = grown fs c c.results c.operands c.successors c.regions

  pub is_operation : edit_by NewOperation fs ≡ whole
  is_operation = by_new_operation fs ∙ sym (λ t. new_operation (get_or fs 0 0) (part fs 5 (N.results t)) (part fs (5 + N.results t) (N.operands t)) (part fs (5 + N.results t + N.operands t) (N.successors t)) (N.regions t))

  abbrev fields : OperationFields fs
  fields = operation_fields fs F

  pub uses_small : c.results + c.operands ≤ 128
  uses_small = omega (arith, fields.results, fields.operands, N.results, N.operands)

  pub uses_fit : (sl : Slot) → (uses_from c sl + uses_many c sl ≤ length fs) × (uses_from c sl + uses_many c sl ≤ 1000)
  uses_fit operand = (omega (arith, fields.full, N.results, N.operands), omega (arith, fields.results, fields.operands, N.results, N.operands))
  uses_fit successor = (omega (arith, fields.full, N.results, N.operands, N.successors), omega (arith, fields.results, fields.operands, fields.successors, N.results, N.operands, N.successors))

  one_up : (q : ℕ) → q ≢ 0 → q ≡ suc (q - 1)
  one_up q z = omega (arith, z)

  module _ (q : ℕ) (W : NamesIs l operand fs (5 + c.results) c.operands m q) where
    pub value_lost : q ≢ 0 → OperationTested l fs c m q
    unfolding named definition_named
    value_lost z =
        record {
          is = rw is_operation (refusal_name (abs l m) whole (q - 1) (W.lost z (map block_named (part fs (5 + c.results + c.operands) c.successors)) ∙ one_up q z) ∙ sym (one_up q z));
          ready = λ y. absurd (z y);
        }

    module _ (q0 : q ≡ 0) (d : ℕ) (B : NamesIs l successor fs (5 + c.results + c.operands) c.successors m d) where
      past_values : first_missing (abs l m).history (named whole) ≡ first_missing (abs l m).history (map block_named (part fs (5 + c.results + c.operands) c.successors) ++ [])
      unfolding named definition_named
      past_values = all_there S operand fs (5 + c.results) c.operands (uses_fit operand).0 (W.there q0) (map block_named (part fs (5 + c.results + c.operands) c.successors)) ∙ ap (first_missing (abs l m).history) (sym (append-nil (map block_named (part fs (5 + c.results + c.operands) c.successors))))

      pub block_lost : d ≢ 0 → OperationTested l fs c m d
      unfolding definition_named
      block_lost z =
          record {
            is = rw is_operation (refusal_name (abs l m) whole (d - 1) (past_values ∙ B.lost z [] ∙ one_up d z) ∙ sym (one_up d z));
            ready = λ y. absurd (z y);
          }

      pub room_tested : d ≡ 0 → (e : ℕ) → RoomIs l (five 1 0 c.regions c.results (c.operands + c.successors)) m e → OperationTested l fs c m e
      unfolding from_state no_room places births definition_named first_missing
      room_tested d0 e R =
          record {
            is = rw is_operation (refusal_tests (abs l m) whole (past_values ∙ all_there S successor fs (5 + c.results + c.operands) c.successors (uses_fit successor).0 (B.there d0) [])
                ∙ ap₂ (λ (v u : ℕ). check (lacks (abs l m).capacities (live_counts (abs l m)) (five 1 0 c.regions v u)) 20 (check (lacks numbers (abs l m).history.born (five 1 0 c.regions v u)) 21 0)) (part_length fs 5 c.results (omega (arith, (uses_fit operand).0))) (ap₂ ◌+◌ (part_length fs (5 + c.results) c.operands (uses_fit operand).0) (part_length fs (5 + c.results + c.operands) c.successors (uses_fit successor).0))
                ∙ sym R.is);
            ready = λ z. record { sound = S; fields = fields; counts = N; places = R.places z; numbers = R.numbers z; values = W.there q0; blocks = B.there d0 };
          }

-- ---- the birth of the operation, and the whole

module _ {l : Layout} {m : List ℕ} (fs : List ℕ) (c : Parts) (R : OperationReady l fs c m) where
  pub operation_begun : {m₁ : List ℕ} (f o : ℕ) → f ≡ get_or fs 0 0 → BorneOp l f m m₁ o → OperationPartly l fs c o (grown fs c 0 0 0 0) m m₁
  operation_begun {m₁} f o f-is B =
      record {
        ready = R;
        made = record {
          sound = B.sound;
          rest = B.rest;
          accepts = rw (part_none fs 5, part_none fs (5 + c.results), part_none fs (5 + c.results + c.operands), sym f-is) (operation_first (gone l m) (λ k. ap (λ (Q : State). (Q.tab k).cap) B.state ∙ cap_birth (state_of l m) (op, o) f k) f (ap view B.state ∙ see_birth (state_of l m) R.sound.sound.linked (op, o) f fresh));
          places = subst (Settles (state_of l m)) (sym B.state) (settles_birth (op, o) f (settles_same (λ k. refl)) (lowest_free (state_of l m) op o B.dead B.lowest));
          live = rw B.state (omega (arith, alive_born (state_of l m) (op, o) f));
          number = ap (λ (Q : State). num Q (op, o)) B.state ∙ num_new (state_of l m) R.sound.sound.linked (op, o) f fresh;
        };
      }
    where
      fresh : Fresh (state_of l m) (op, o) f
      fresh = record { dead = B.dead; room = rw (cap_is l m op) B.room; flags = λ e. omega (arith, f-is, R.fields.flags) }

  abbrev all : Edit
  all = grown fs c c.results c.operands c.successors c.regions

  pub operation_done : {m' : List ℕ} (o x : ℕ) → OperationPartly l fs c o (grown fs c c.results c.operands c.successors c.regions) m m' → refusal_of (abs l m) (edit_by NewOperation fs) ≡ 0 → Passed (kind_number NewOperation) fs → NextNumberIs l op m x → Performed l (edit_by NewOperation fs) m m' (Ok (x, 0))
  unfolding answer abs
  operation_done {m'} o x A free F X =
      rw (is_operation R.sound fs F c R.counts)
      (accepts all A.made.sound (ap (refusal_of (meaning (state_of l m))) (sym (is_operation R.sound fs F c R.counts)) ∙ free) state_is A.made.rest A.made.places x 0 (ap (λ (n : ℕ). found n 0) (born_is R.sound.sound op ∙ sym X.is)))
    where
      state_is : meaning (state_of l m') ≡ accept all (meaning (state_of l m))
      state_is = whole_state R.sound A.made.sound all (same_ended R.sound.sound.linked A.made.sound.sound (gone l m) (get_or fs 0 0) (part fs 5 c.results) (part fs (5 + c.results) c.operands) (part fs (5 + c.results + c.operands) c.successors) c.regions A.made.accepts) A.made.accepts

pub operation_refused : {l : Layout} {m : List ℕ} → SoundStore l m → (fs : List ℕ) (c : Parts) (r : Refusal) → OperationTested l fs c m (number_of r) → Performed l (edit_by NewOperation fs) m m (Err r)
unfolding abs
operation_refused S fs c r T = refuses (edit_by NewOperation fs) S r T.is
