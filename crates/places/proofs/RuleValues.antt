-- A value is born into the results of an operation or the arguments of a block, or ends there: by places as the rules say it.
-- Assumes nothing.
use mathlib.Core.Path.{◌≡◌, refl, sym, ap, ap₂, ◌∙◌, subst}
use mathlib.Core.Logic.{◌≢◌}
use mathlib.Core.Bool.{Bool, true, false, not, cond, ◌||◌}
use mathlib.Core.List.{List, [], ◌∷◌, ◌++◌, map, append-nil}
use mathlib.Core.Option.{some}
use native.Mathlib.Decide.{ℕ_discrete}
use native.Mathlib.Omega.{arith}
use Prim.Native.Nat.{ℕ, suc, ◌+◌, ◌-◌, ◌<◌}
use lib.Dec.{eqb}
use lib.ListN.{length, length-map, get_or}
use borrow.Author.Tests.{eqb-true}
use Rattle.seqs.specs.Seqs.{upd, seq_insert_at, count, In, without}
use Rattle.places.specs.Store.{Kind, op, blk, reg, val, usg, Role, operands, successors, value_uses, block_uses, results, arguments, regions, ops, blocks, vals, fam, node_of, holder_of, Thing, Thing-dec, Con, State, alive, Live, Link, Linked, Sound, birth, end, enter, leave, relink, set_own, set_list}
use Rattle.places.specs.View.{Names, num, rec_of, view, amend, change_list, set_home, bare, n_birth, n_end, n_enter}
use Rattle.places.specs.Hist.{tabled, op_of, block_of, use_of, born_of, hist, orders_of, rule_state, meaning}
use Rattle.places.specs.Roles.{value_role, member_kind}
use Rattle.edit.specs.Record.{Member, operation, block, Edit, push_value, insert_value, remove_value, pop_value}
use Rattle.rules.specs.Table.{Table, keep_keys, number, member, insert_at, remove_at}
use Rattle.rules.specs.History.{zeros, plus, History, births, bear, carry_out, remember, live_operation, live_value, change_results, change_arguments, change_values, with_operations, with_blocks}
use Rattle.rules.specs.Orders.{Orders, order, reorder}
use Rattle.rules.specs.State.{new_flags, new_types, accept}
use Rattle.seqs.proofs.Base.{map_append}
use Rattle.places.specs.May.{Fresh, Bare}
use Rattle.places.proofs.Steps.{some_none, once, listed, leave_ok, bare_of, own_left, list_leave_other, alive_ended, alive_end, alive_leave, cap_end}
use Rattle.places.proofs.Sees.{num_inj, num_end}
use Rattle.places.proofs.Extra.{in_at, remove_at_without}
use Rattle.places.proofs.Whole.{bear_in_sound, bear_in_view, finish_in_sound, finish_in_view}
use Rattle.places.proofs.Bits.{bit, count_nums}
use Rattle.places.proofs.RuleNames.{value_dead}
use Rattle.places.proofs.RuleRefusals.{one_of}
use Rattle.places.proofs.Entries.{tabled_amend, tabled_same, change_there, plus_zeros}
use Rattle.places.proofs.RuleAccept.{flags_kept, types_kept, Quiet, accept_is, ended_of}
use Rattle.places.proofs.RuleUses.{insert_is, insert_last, cap_birth}
use Rattle.places.proofs.RuleEnds.{remove_is, get_d_map, tabled_drop}

-- ---- by numbers: a birth

module _ (N : Names) (n i t : ℕ) where
  abbrev u : ℕ
  u = N.next val

  abbrev born_in : Member → Names
  born_in w = n_enter (value_role w, (member_kind w, n)) i (val, u) (n_birth val t N)

  one_born : (w : Member) → born_of (born_in w) ≡ plus (born_of N) (one_of val)
  unfolding n_enter amend n_birth upd plus
  one_born w = λ k. record { operations = zero_more (N.next op) k; blocks = zero_more (N.next blk) k; regions = zero_more (N.next reg) k; values = one_more (N.next val) k; uses = zero_more (N.next usg) k }
    where
      zero_more : (a : ℕ) → a ≡ a + 0
      zero_more a = omega arith

      one_more : (a : ℕ) → suc a ≡ a + 1
      one_more a = omega arith

  pub value_history : (w : Member) (e : ℕ) → hist e (born_in w) ≡ bear (plus (born_of N) (one_of val)) (change_values w n (seq_insert_at i u) (hist e N))
  unfolding hist bear change_values change_results change_arguments with_operations with_blocks n_enter amend n_birth upd
  value_history operation e = λ k. record { operations = tabled_amend op_of n (change_list results (seq_insert_at i u)) (λ r. refl) (change_results (seq_insert_at i u)) (λ r. refl) (N.things op) k; blocks = tabled block_of (N.things blk); uses = tabled use_of (N.things usg); born = one_born operation k; ended = e }
  value_history block e = λ k. record { operations = tabled op_of (N.things op); blocks = tabled_amend block_of n (change_list arguments (seq_insert_at i u)) (λ r. refl) (change_arguments (seq_insert_at i u)) (λ r. refl) (N.things blk) k; uses = tabled use_of (N.things usg); born = one_born block k; ended = e }

  pub value_flags : (w : Member) → tabled (λ r. r.tag) ((born_in w).things op) ≡ tabled (λ r. r.tag) (N.things op)
  unfolding n_enter amend n_birth upd
  value_flags operation = tabled_same (λ r. r.tag) n (change_list results (seq_insert_at i u)) (λ r. refl) (λ r. refl) (N.things op)
  value_flags block = refl

  pub value_types : (w : Member) → tabled (λ r. r.tag) ((born_in w).things val) ≡ tabled (λ r. r.tag) (N.things val) ++ (u, t) ∷ []
  unfolding n_enter amend n_birth upd
  value_types operation = tabled_same (λ r. r.tag) u (set_home vals (some (results, n))) (λ r. refl) (λ r. refl) (N.things val ++ bare u t ∷ []) ∙ map_append (λ r. (r.num, r.tag)) (N.things val) (bare u t ∷ [])
  value_types block = tabled_same (λ r. r.tag) u (set_home vals (some (arguments, n))) (λ r. refl) (λ r. refl) (N.things val ++ bare u t ∷ []) ∙ map_append (λ r. (r.num, r.tag)) (N.things val) (bare u t ∷ [])

  pub value_orders : (w : Member) → orders_of (born_in w) ≡ orders_of N
  unfolding n_enter amend n_birth upd orders_of
  value_orders operation = refl
  value_orders block = λ k. record { ops_of = tabled_same (λ r. r.lists ops) n (change_list arguments (seq_insert_at i u)) (λ r. refl) (λ r. refl) (N.things blk) k; blocks_of = tabled (λ r. r.lists blocks) (N.things reg) }

-- ---- by numbers: an end

module _ (N : Names) (n u : ℕ) where
  abbrev gone_in : Member → Names
  gone_in w = n_end val u (amend (member_kind w) n (change_list (value_role w) (without ℕ_discrete u)) N)

  none_born : (w : Member) → born_of (gone_in w) ≡ plus (born_of N) zeros
  unfolding n_end amend
  none_born w = sym (plus_zeros (born_of N))

  gone_history : (w : Member) (e : ℕ) → hist e (gone_in w) ≡ bear (plus (born_of N) zeros) (change_values w n (without ℕ_discrete u) (hist e N))
  unfolding hist bear change_values change_results change_arguments with_operations with_blocks n_end amend upd
  gone_history operation e = λ k. record { operations = tabled_amend op_of n (change_list results (without ℕ_discrete u)) (λ r. refl) (change_results (without ℕ_discrete u)) (λ r. refl) (N.things op) k; blocks = tabled block_of (N.things blk); uses = tabled use_of (N.things usg); born = none_born operation k; ended = e }
  gone_history block e = λ k. record { operations = tabled op_of (N.things op); blocks = tabled_amend block_of n (change_list arguments (without ℕ_discrete u)) (λ r. refl) (change_arguments (without ℕ_discrete u)) (λ r. refl) (N.things blk) k; uses = tabled use_of (N.things usg); born = none_born block k; ended = e }

  gone_flags : (w : Member) → tabled (λ r. r.tag) ((gone_in w).things op) ≡ tabled (λ r. r.tag) (N.things op)
  unfolding n_end amend upd
  gone_flags operation = tabled_same (λ r. r.tag) n (change_list results (without ℕ_discrete u)) (λ r. refl) (λ r. refl) (N.things op)
  gone_flags block = refl

  gone_types : (w : Member) → tabled (λ r. r.tag) ((gone_in w).things val) ≡ keep_keys (λ v. not (member v (u ∷ []))) (tabled (λ r. r.tag) (N.things val))
  unfolding n_end amend upd
  gone_types operation = tabled_drop (λ r. r.tag) u (N.things val)
  gone_types block = tabled_drop (λ r. r.tag) u (N.things val)

  gone_orders : (w : Member) → orders_of (gone_in w) ≡ orders_of N
  unfolding n_end amend upd orders_of
  gone_orders operation = refl
  gone_orders block = λ k. record { ops_of = tabled_same (λ r. r.lists ops) n (change_list arguments (without ℕ_discrete u)) (λ r. refl) (λ r. refl) (N.things blk) k; blocks_of = tabled (λ r. r.lists blocks) (N.things reg) }

-- ---- by places: the values of one owner

module _ {P : State} (S : Sound P) (o e : ℕ) where
  -- two changes that agree on the list that is there
  pub values_change : (w : Member) → Live P (member_kind w, o) → (a b : List ℕ → List ℕ) → a (map (num P) (P.list (member_kind w, o) (value_role w))) ≡ b (map (num P) (P.list (member_kind w, o) (value_role w)))
      → change_values w (num P (member_kind w, o)) a (hist e (view P)) ≡ change_values w (num P (member_kind w, o)) b (hist e (view P))
  unfolding change_values change_results change_arguments hist rec_of
  values_change operation lo a b h =
      ap (with_operations (hist e (view P)))
      (change_there S.linked op op_of o (change_results a) (change_results b) lo
      (λ k. record { results = h k; operands = (op_of (rec_of P (op, o))).operands; successors = (op_of (rec_of P (op, o))).successors; regions = (op_of (rec_of P (op, o))).regions; block = (op_of (rec_of P (op, o))).block }))
  values_change block lo a b h =
      ap (with_blocks (hist e (view P)))
      (change_there S.linked blk block_of o (change_arguments a) (change_arguments b) lo (λ k. record { arguments = h k; region = (block_of (rec_of P (blk, o))).region }))

-- ---- a value is born

not_op : val ≡ op → ⊥
not_op e = let z : ◌≡◌ {A = ℕ} 0 1 = cc in omega arith

value_fresh : {P : State} (t q : ℕ) → alive P (val, q) ≡ 0 → q < (P.tab val).cap → Fresh P (val, q) t
value_fresh t q dead room = record { dead = dead; room = room; flags = λ e. absurd (not_op e) }

pub value_sound : {P : State} → Sound P → (w : Member) (o i t q : ℕ) → alive P (val, q) ≡ 0 → q < (P.tab val).cap → Live P (member_kind w, o) → length (P.list (member_kind w, o) (value_role w)) < 64
    → Sound (enter (value_role w, (member_kind w, o)) i (val, q) (birth (val, q) t P))
value_sound S operation o i t q dead room lo limit = bear_in_sound S (results, (op, o)) q (λ h a. ((results, (op, o)), a)) (λ m. refl) i t (value_fresh t q dead room) refl lo (λ m. limit)
value_sound S block o i t q dead room lo limit = bear_in_sound S (arguments, (blk, o)) q (λ h a. ((arguments, (blk, o)), a)) (λ m. refl) i t (value_fresh t q dead room) refl lo (λ m. limit)

pub value_view : {P : State} → Sound P → (w : Member) (o i t q : ℕ) → alive P (val, q) ≡ 0 → q < (P.tab val).cap → Live P (member_kind w, o) → length (P.list (member_kind w, o) (value_role w)) < 64
    → view (enter (value_role w, (member_kind w, o)) i (val, q) (birth (val, q) t P)) ≡ n_enter (value_role w, (member_kind w, num P (member_kind w, o))) i (val, (view P).next val) (n_birth val t (view P))
value_view S operation o i t q dead room lo limit = bear_in_view S (results, (op, o)) q (λ h a. ((results, (op, o)), a)) (λ m. refl) i t (value_fresh t q dead room) refl lo (λ m. limit)
value_view S block o i t q dead room lo limit = bear_in_view S (arguments, (blk, o)) q (λ h a. ((arguments, (blk, o)), a)) (λ m. refl) i t (value_fresh t q dead room) refl lo (λ m. limit)

pub value_caps : (P : State) (c : Con) (i t q : ℕ) (k : Kind) → ((enter c i (val, q) (birth (val, q) t P)).tab k).cap ≡ (P.tab k).cap
unfolding enter relink set_own set_list
value_caps P c i t q k = cap_birth P (val, q) t k

pub value_ended : (P : State) (c : Con) (i t q : ℕ) → ended_of (enter c i (val, q) (birth (val, q) t P)) ≡ ended_of P
unfolding enter relink set_own set_list birth upd
value_ended P c i t q = refl

-- an edit that gives birth to a value of the type t, put among the values of n by f
pub record BearsValue (E : Edit) (w : Member) (n t : ℕ) (f : ℕ → List ℕ → List ℕ) : Type 0 where
  pub remembers : (h : History) → remember E h ≡ bear (plus h.born (one_of val)) (change_values w n (f h.born.values) h)
  pub orders : (h k : History) (r : Orders) → reorder E h k r ≡ r
  pub flags : new_flags E ≡ []
  pub types : new_types E ≡ t ∷ []

push_bears : (w : Member) (n t : ℕ) → BearsValue (push_value w n t) w n t (λ u xs. xs ++ (u ∷ []))
unfolding remember births carry_out reorder order new_flags new_types
push_bears w n t = record { remembers = λ h. refl; orders = λ h k r. refl; flags = refl; types = refl }

insert_bears : (w : Member) (n i t : ℕ) → BearsValue (insert_value w n i t) w n t (insert_at i)
unfolding remember births carry_out reorder order new_flags new_types
insert_bears w n i t = record { remembers = λ h. refl; orders = λ h k r. refl; flags = refl; types = refl }

module _ {P : State} (S : Sound P) (w : Member) (o i t q : ℕ) (dead : alive P (val, q) ≡ 0) (room : q < (P.tab val).cap) (lo : Live P (member_kind w, o)) (limit : length (P.list (member_kind w, o) (value_role w)) < 64) where
  abbrev Q : State
  Q = enter (value_role w, (member_kind w, o)) i (val, q) (birth (val, q) t P)

  abbrev n : ℕ
  n = num P (member_kind w, o)

  abbrev L : List ℕ
  L = map (num P) (P.list (member_kind w, o) (value_role w))

  abbrev v : ℕ
  v = (P.tab val).next

  seen : view Q ≡ n_enter (value_role w, (member_kind w, n)) i (val, (view P).next val) (n_birth val t (view P))
  seen = value_view S w o i t q dead room lo limit

  born_history : (E : Edit) (f : ℕ → List ℕ → List ℕ) → BearsValue E w n t f → seq_insert_at i v L ≡ f v L → hist (ended_of P) (view Q) ≡ remember E (hist (ended_of P) (view P))
  unfolding view hist
  born_history E f B h =
      ap (hist (ended_of P)) seen
      ∙ value_history (view P) n i t w (ended_of P)
      ∙ ap (bear (plus (born_of (view P)) (one_of val))) (values_change S o (ended_of P) w lo (seq_insert_at i v) (f v) h)
      ∙ sym (B.remembers (hist (ended_of P) (view P)))

  born_accept : (E : Edit) (f : ℕ → List ℕ → List ℕ) → BearsValue E w n t f → seq_insert_at i v L ≡ f v L → meaning Q ≡ accept E (meaning P)
  unfolding meaning number view
  born_accept E f B h =
      ap (λ (k : ℕ). rule_state k Q) (value_ended P (value_role w, (member_kind w, o)) i t q)
      ∙ accept_is {P = P} (value_sound S w o i t q dead room lo limit) E (ended_of P) (ended_of P)
      (record {
        history = born_history E f B h;
        flags = ap (λ (N : Names). tabled (λ r. r.tag) (N.things op)) seen ∙ value_flags (view P) n i t w ∙ sym (ap (λ (l : List ℕ). tabled (λ r. r.tag) ((view P).things op) ++ number (P.tab op).next l) B.flags ∙ append-nil (tabled (λ r. r.tag) ((view P).things op)));
        types = ap (λ (N : Names). tabled (λ r. r.tag) (N.things val)) seen ∙ value_types (view P) n i t w ∙ sym (ap (λ (l : List ℕ). tabled (λ r. r.tag) ((view P).things val) ++ number (P.tab val).next l) B.types);
        orders = ap orders_of seen ∙ value_orders (view P) n i t w ∙ sym (B.orders (hist (ended_of P) (view P)) (hist (ended_of P) (view Q)) (orders_of (view P)));
        caps = value_caps P (value_role w, (member_kind w, o)) i t q;
      })

  pub insert_value_accept : meaning Q ≡ accept (insert_value w n i t) (meaning P)
  insert_value_accept = born_accept (insert_value w n i t) (insert_at i) (insert_bears w n i t) (insert_is i v L)

  pub push_value_accept : i ≡ length (P.list (member_kind w, o) (value_role w)) → meaning Q ≡ accept (push_value w n t) (meaning P)
  push_value_accept e =
      born_accept (push_value w n t) (λ u xs. xs ++ (u ∷ [])) (push_bears w n t)
      (ap (λ (k : ℕ). seq_insert_at k v L) (e ∙ sym (length-map (P.list (member_kind w, o) (value_role w)) (num P))) ∙ insert_last v L)

-- ---- a value ends

val_holds : (r : Role) → val ≡ holder_of r → r ≡ value_uses
val_holds operands e = absurd (let z : ◌≡◌ {A = ℕ} 0 1 = cc in omega arith)
val_holds successors e = absurd (let z : ◌≡◌ {A = ℕ} 0 1 = cc in omega arith)
val_holds value_uses e = refl
val_holds block_uses e = absurd (let z : ◌≡◌ {A = ℕ} 0 1 = cc in omega arith)
val_holds results e = absurd (let z : ◌≡◌ {A = ℕ} 0 1 = cc in omega arith)
val_holds arguments e = absurd (let z : ◌≡◌ {A = ℕ} 0 1 = cc in omega arith)
val_holds regions e = absurd (let z : ◌≡◌ {A = ℕ} 0 1 = cc in omega arith)
val_holds ops e = absurd (let z : ◌≡◌ {A = ℕ} 0 1 = cc in omega arith)
val_holds blocks e = absurd (let z : ◌≡◌ {A = ℕ} 0 1 = cc in omega arith)

val_fam : (r : Role) → val ≡ node_of r → fam r ≡ vals
val_fam operands e = absurd (let z : ◌≡◌ {A = ℕ} 0 1 = cc in omega arith)
val_fam successors e = absurd (let z : ◌≡◌ {A = ℕ} 0 1 = cc in omega arith)
val_fam value_uses e = absurd (let z : ◌≡◌ {A = ℕ} 0 1 = cc in omega arith)
val_fam block_uses e = absurd (let z : ◌≡◌ {A = ℕ} 0 1 = cc in omega arith)
val_fam results e = refl
val_fam arguments e = refl
val_fam regions e = absurd (let z : ◌≡◌ {A = ℕ} 0 1 = cc in omega arith)
val_fam ops e = absurd (let z : ◌≡◌ {A = ℕ} 0 1 = cc in omega arith)
val_fam blocks e = absurd (let z : ◌≡◌ {A = ℕ} 0 1 = cc in omega arith)

use_not_val : value_uses ≡ results → ⊥
use_not_val e = let z : ◌≡◌ {A = ℕ} 0 1 = cc in omega arith

use_not_arg : value_uses ≡ arguments → ⊥
use_not_arg e = let z : ◌≡◌ {A = ℕ} 0 1 = cc in omega arith

-- once it has left its list, a value that nothing uses is in no list and has none
value_bare : {P : State} → Linked P → (w : Member) (y : Thing) (q : ℕ) → P.own (val, q) vals ≡ some (value_role w, y) → P.list (val, q) value_uses ≡ [] → Bare (leave (value_role w, y) (val, q) P) (val, q)
value_bare {P} S w y q at idle = go w at
  where
    bared : (c : Con) → fam c.0 ≡ vals → (value_uses ≡ c.0 → ⊥) → P.own (val, q) (fam c.0) ≡ some c → Bare (leave c (val, q) P) (val, q)
    bared c f d m =
        let L : Linked (leave c (val, q) P) = leave_ok S c (val, q) m in
        bare_of L (val, q)
        (λ g b e. some_none e (ap ((leave c (val, q) P).own (val, q)) (sym (L.link (val, q) g b e).family ∙ val_fam b.0 (L.link (val, q) g b e).node ∙ sym f) ∙ own_left P c (val, q)))
        (λ x g b e h.
        let r : b.0 ≡ value_uses = val_holds b.0 (sym (ap (λ (a : Thing). a.0) h) ∙ (L.link x g b e).holder) in
        absurd (omega (
          arith,
          once L x g b e,
          ap₂ (λ (a : Thing) (k : Role). count Thing-dec x ((leave c (val, q) P).list a k)) h r,
          ap (count Thing-dec x) (list_leave_other P c (val, q) (val, q) value_uses d ∙ idle),
        )))

    go : (w : Member) → P.own (val, q) vals ≡ some (value_role w, y) → Bare (leave (value_role w, y) (val, q) P) (val, q)
    go operation m = bared (results, y) refl use_not_val m
    go block m = bared (arguments, y) refl use_not_arg m

gone_sound : {P : State} → Sound P → (w : Member) (o q : ℕ) → P.own (val, q) vals ≡ some (value_role w, (member_kind w, o)) → P.list (val, q) value_uses ≡ [] → Sound (end (val, q) (leave (value_role w, (member_kind w, o)) (val, q) P))
gone_sound S operation o q at idle = finish_in_sound S (results, (op, o)) q (λ h a. ((results, (op, o)), a)) (λ m. refl) at (value_bare S.linked operation (op, o) q at idle)
gone_sound S block o q at idle = finish_in_sound S (arguments, (blk, o)) q (λ h a. ((arguments, (blk, o)), a)) (λ m. refl) at (value_bare S.linked block (blk, o) q at idle)

gone_view : {P : State} → Sound P → (w : Member) (o q : ℕ) → P.own (val, q) vals ≡ some (value_role w, (member_kind w, o)) → P.list (val, q) value_uses ≡ []
    → view (end (val, q) (leave (value_role w, (member_kind w, o)) (val, q) P)) ≡ n_end val (num P (val, q)) (amend (member_kind w) (num P (member_kind w, o)) (change_list (value_role w) (without ℕ_discrete (num P (val, q)))) (view P))
gone_view S operation o q at idle = finish_in_view S (results, (op, o)) q (λ h a. ((results, (op, o)), a)) (λ m. refl) at (value_bare S.linked operation (op, o) q at idle)
gone_view S block o q at idle = finish_in_view S (arguments, (blk, o)) q (λ h a. ((arguments, (blk, o)), a)) (λ m. refl) at (value_bare S.linked block (blk, o) q at idle)

-- what fails one test fails both
keep_twice : {A : Type 0} (p r : ℕ → Bool) → ((k : ℕ) → r k ≡ false → p k ≡ false) → (t : Table A) → keep_keys p (keep_keys r t) ≡ keep_keys p t
unfolding keep_keys
keep_twice p r h [] = refl
keep_twice {A} p r h (e ∷ t) = go (r e.0) refl (keep_twice p r h t)
  where
    go : (b : Bool) → r e.0 ≡ b → keep_keys p (keep_keys r t) ≡ keep_keys p t → keep_keys p (cond b (e ∷ keep_keys r t) (keep_keys r t)) ≡ cond (p e.0) (e ∷ keep_keys p t) (keep_keys p t)
    go true m ih = ap (λ (k : Table A). cond (p e.0) (e ∷ k) k) ih
    go false m ih = ih ∙ sym (ap (λ (b : Bool). cond b (e ∷ keep_keys p t) (keep_keys p t)) (h e.0 m))

named_so : (x k : ℕ) → not (member k (x ∷ [])) ≡ false → x ≡ k
unfolding member
named_so x k e = go (eqb x k) refl e
  where
    go : (b : Bool) → eqb x k ≡ b → not (b || false) ≡ false → x ≡ k
    go true m e = eqb-true x k m
    go false m e = absurd (omega (arith, ap bit e))

-- an edit that takes a value out of the values of n, as f does
record TakesValue (E : Edit) (w : Member) (n : ℕ) (f : List ℕ → List ℕ) : Type 0 where
  pub remembers : (h : History) → remember E h ≡ bear (plus h.born zeros) (change_values w n f h)
  pub quiet : Quiet E

remove_takes : (w : Member) (n i : ℕ) → TakesValue (remove_value w n i) w n (remove_at i)
unfolding remember births carry_out reorder order new_flags new_types
remove_takes w n i = record { remembers = λ h. refl; quiet = record { orders = λ h k r. refl; flags = refl; types = refl } }

pop_takes : (w : Member) (n : ℕ) → TakesValue (pop_value w n) w n (λ xs. remove_at (length xs - 1) xs)
unfolding remember births carry_out reorder order new_flags new_types
pop_takes w n = record { remembers = λ h. refl; quiet = record { orders = λ h k r. refl; flags = refl; types = refl } }

value_fam : (w : Member) → fam (value_role w) ≡ vals
value_fam operation = refl
value_fam block = refl

value_node : (w : Member) → node_of (value_role w) ≡ val
value_node operation = refl
value_node block = refl

-- ---- the value at index i of a list

module _ {P : State} (S : Sound P) (w : Member) (o i q : ℕ) (inside : i < length (P.list (member_kind w, o) (value_role w))) (at : get_or (P.list (member_kind w, o) (value_role w)) i (val, 0) ≡ (val, q)) where
  abbrev things : List Thing
  things = P.list (member_kind w, o) (value_role w)

  abbrev home : Con
  home = (value_role w, (member_kind w, o))

  stands : P.own (val, q) (fam (value_role w)) ≡ some home
  stands = listed S.linked (val, q) (member_kind w, o) (value_role w) (subst (λ (y : Thing). In Thing-dec y things) at (in_at Thing-dec things i (val, 0) inside))

  pub value_own : P.own (val, q) vals ≡ some home
  value_own = ap (P.own (val, q)) (sym (value_fam w)) ∙ stands

  pub value_there : Live P (val, q)
  value_there = (S.linked.link (val, q) (fam (value_role w)) home stands).live

  pub value_number : get_or (map (num P) things) i 0 ≡ num P (val, q)
  value_number = get_d_map (num P) things i (val, 0) inside ∙ ap (num P) at

  once_there : count ℕ_discrete (num P (val, q)) (map (num P) things) ≡ 1
  once_there =
      count_nums S.linked (val, q) things value_there (λ x j. let M : Link P x (fam (value_role w)) home = S.linked.link x (fam (value_role w)) home (listed S.linked x (member_kind w, o) (value_role w) j) in (M.node ∙ value_node w, M.live))
      ∙ once S.linked (val, q) (fam (value_role w)) home stands

  taken_out : without ℕ_discrete (num P (val, q)) (map (num P) things) ≡ remove_at i (map (num P) things)
  taken_out =
      ap (λ (k : ℕ). without ℕ_discrete k (map (num P) things)) (sym value_number)
      ∙ sym (remove_at_without ℕ_discrete (map (num P) things) i 0 (omega (arith, inside, length-map things (num P))) (ap (λ (k : ℕ). count ℕ_discrete k (map (num P) things)) value_number ∙ once_there))
      ∙ remove_is i (map (num P) things)

  module _ (lo : Live P (member_kind w, o)) (idle : P.list (val, q) value_uses ≡ []) where
    abbrev Z : State
    Z = end (val, q) (leave home (val, q) P)

    abbrev m : ℕ
    m = num P (member_kind w, o)

    pub ended_value_sound : Sound Z
    ended_value_sound = gone_sound S w o q value_own idle

    gone_seen : view Z ≡ n_end val (num P (val, q)) (amend (member_kind w) m (change_list (value_role w) (without ℕ_discrete (num P (val, q)))) (view P))
    gone_seen = gone_view S w o q value_own idle

    -- no other has the number of the one that ended
    no_number : (p : ℕ) → Live Z (val, p) → num Z (val, p) ≢ num P (val, q)
    unfolding leave relink set_own set_list
    no_number p l e =
        let apart : ◌≢◌ {A = Thing} (val, p) (val, q) = λ h. absurd (omega (arith, ap (alive Z) h, alive_ended (leave home (val, q) P) (val, q), l)) in
        apart (num_inj P S.linked.tabs (val, p) (val, q) refl (omega (arith, l, alive_end (leave home (val, q) P) (val, q) (val, p) apart, alive_leave P home (val, q) (val, p))) value_there
        (sym (num_end (leave home (val, q) P) (leave_ok S.linked home (val, q) stands) (val, q) (omega (arith, value_there, alive_leave P home (val, q) (val, q))) (value_bare S.linked w (member_kind w, o) q value_own idle) (val, p) apart) ∙ e))

    gone_ended : ended_of Z ≡ ended_of P
    unfolding leave relink set_own set_list end upd
    gone_ended = refl

    gone_caps : (k : Kind) → (Z.tab k).cap ≡ (P.tab k).cap
    unfolding leave relink set_own set_list
    gone_caps k = cap_end (leave home (val, q) P) (val, q) k

    take_accept : (E : Edit) (f : List ℕ → List ℕ) → TakesValue E w m f → without ℕ_discrete (num P (val, q)) (map (num P) things) ≡ f (map (num P) things) → meaning Z ≡ accept E (meaning P)
    unfolding meaning rule_state accept number view hist
    take_accept E f K h =
        ap (λ (k : ℕ). rule_state k Z) gone_ended
        ∙ (λ j.
        record {
          history = past j;
          orders = (ap orders_of gone_seen ∙ gone_orders (view P) m (num P (val, q)) w ∙ sym (K.quiet.orders (hist (ended_of P) (view P)) (remember E (hist (ended_of P) (view P))) (orders_of (view P)))) j;
          flags = (sym (flags_kept ended_value_sound (ended_of P) (λ r. r.tag)) ∙ ap₂ (λ (g : History) t. keep_keys (live_operation g) t) past (ap (λ (N : Names). tabled (λ r. r.tag) (N.things op)) gone_seen ∙ gone_flags (view P) m (num P (val, q)) w ∙ more op (new_flags E) K.quiet.flags)) j;
          types = (sym (types_kept ended_value_sound (ended_of P) (λ r. r.tag)) ∙ ap (keep_keys (live_value (hist (ended_of P) (view Z)))) (ap (λ (N : Names). tabled (λ r. r.tag) (N.things val)) gone_seen ∙ gone_types (view P) m (num P (val, q)) w)
              ∙ keep_twice (live_value (hist (ended_of P) (view Z))) (λ v. not (member v (num P (val, q) ∷ []))) only (tabled (λ r. r.tag) ((view P).things val))
              ∙ ap₂ (λ (g : History) t. keep_keys (live_value g) t) past (more val (new_types E) K.quiet.types)) j;
          capacities = record { operations = gone_caps op j; blocks = gone_caps blk j; regions = gone_caps reg j; values = gone_caps val j; uses = gone_caps usg j };
        })
      where
        past : hist (ended_of P) (view Z) ≡ remember E (hist (ended_of P) (view P))
        past =
            ap (hist (ended_of P)) gone_seen
            ∙ gone_history (view P) m (num P (val, q)) w (ended_of P)
            ∙ ap (bear (plus (born_of (view P)) zeros)) (values_change S o (ended_of P) w lo (without ℕ_discrete (num P (val, q))) f h)
            ∙ sym (K.remembers (hist (ended_of P) (view P)))

        more : (k : Kind) (l : List ℕ) → l ≡ [] → tabled (λ r. r.tag) ((view P).things k) ≡ tabled (λ r. r.tag) ((view P).things k) ++ number (P.tab k).next l
        more k l e = sym (ap (λ (x : List ℕ). tabled (λ r. r.tag) ((view P).things k) ++ number (P.tab k).next x) e ∙ append-nil (tabled (λ r. r.tag) ((view P).things k)))

        only : (k : ℕ) → not (member k (num P (val, q) ∷ [])) ≡ false → live_value (hist (ended_of P) (view Z)) k ≡ false
        only k e = ap (live_value (hist (ended_of P) (view Z))) (sym (named_so (num P (val, q)) k e)) ∙ value_dead ended_value_sound (ended_of P) (num P (val, q)) no_number

    pub remove_value_accept : meaning Z ≡ accept (remove_value w m i) (meaning P)
    remove_value_accept = take_accept (remove_value w m i) (remove_at i) (remove_takes w m i) taken_out

    pub pop_value_accept : i ≡ length things - 1 → meaning Z ≡ accept (pop_value w m) (meaning P)
    pop_value_accept last =
        take_accept (pop_value w m) (λ xs. remove_at (length xs - 1) xs) (pop_takes w m)
        (taken_out ∙ ap (λ (k : ℕ). remove_at k (map (num P) things)) (last ∙ ap (λ (k : ℕ). k - 1) (sym (length-map things (num P)))))
