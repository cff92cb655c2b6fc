-- A new use takes the place of the one at an index: by places an end and a birth, as the rules say it. Assumes nothing.
use mathlib.Core.Path.{◌≡◌, refl, sym, ap, ap₂, ◌∙◌, subst, fun_ext}
use mathlib.Core.Logic.{◌≢◌, ⊎_elim}
use mathlib.Core.Bool.{Bool, true, false, not, cond, ◌||◌}
use mathlib.Core.List.{List, [], ◌∷◌, ◌++◌, map}
use mathlib.Core.Option.{some}
use native.Mathlib.Decide.{ℕ_discrete}
use native.Mathlib.Omega.{arith}
use Prim.Native.Nat.{ℕ, zero, suc, ◌+◌, ◌<◌, ◌≤◌}
use lib.Dec.{eqb}
use lib.ListN.{length, length-map, get_or, set}
use borrow.Author.Tests.{ne_eqb}
use Rattle.seqs.specs.Seqs.{upd, seq_insert_at, count, without, seq_remove_at, sum, upto}
use Rattle.places.specs.Store.{Kind, op, blk, val, usg, slots, Limited, Thing, Thing-dec, Con, State, alive, Live, Linked, Sound}
use Rattle.places.specs.View.{Rec, Names, num, view, amend_in, amend, n_end, n_birth, n_enter, n_hold}
use Rattle.places.specs.Edits.{birth_use, n_birth_use, end_use, n_end_use}
use Rattle.places.specs.Roles.{slot_role, def_kind, def_role}
use Rattle.places.specs.Hist.{tabled, op_of, block_of, use_of, born_of, hist, orders_of, meaning}
use Rattle.edit.specs.Record.{Slot, operand, successor, Definition, replace_use}
use Rattle.rules.specs.Table.{find, change, keep_keys, member}
use Rattle.rules.specs.History.{Operation, births, plus, bear, carry_out, remember, slot_of, defined, change_slot, end_uses, add_use}
use Rattle.rules.specs.Orders.{order, reorder}
use Rattle.rules.specs.State.{new_flags, new_types, accept}
use Rattle.seqs.proofs.Base.{length_falls, rises_once}
use Rattle.seqs.proofs.Sums.{length_count, count_upto}
use Rattle.places.proofs.Cut.{zero_or}
use Rattle.places.proofs.Steps.{once}
use Rattle.places.proofs.Extra.{remove_at_without}
use Rattle.places.proofs.Entries.{next_new}
use Rattle.places.proofs.Placing.{use_holds_nothing}
use Rattle.places.proofs.EndUse.{end_use_cap, end_use_live, end_use_num, end_use_list}
use Rattle.places.proofs.RuleNames.{slot_list_lem}
use Rattle.places.proofs.RuleRefusals.{one_of}
use Rattle.places.proofs.RuleAccept.{accept_quiet, ended_of}
use Rattle.places.proofs.RuleUses.{slot_holder, def_holder, slot_change, born_operations, born_flags, born_types, born_uses, born_rest, born_born, born_caps, born_ended, born_sound, born_view}
use Rattle.places.proofs.RuleEnds.{at_live, at_held, at_slot, at_number, once_there, ended_sound, ended_view, ended_order, ended_operations, ended_flags, ended_uses, ended_types, ended_rest}

-- ---- no more things than places

sum_small : (f : ℕ → ℕ) (l : List ℕ) → ((x : ℕ) → f x ≤ 1) → sum f l ≤ length l
sum_small f [] h = omega arith
sum_small f (x ∷ l) h = omega (arith, h x, sum_small f l h)

length_upto : (n : ℕ) → length (upto n) ≡ n
length_upto zero = refl
length_upto (suc n) = ap suc (length_upto n)

pub lives_fit : {P : State} → Linked P → (k : Kind) → length (P.tab k).order ≤ (P.tab k).cap
lives_fit {P} S k =
    omega (
      arith,
      length_count ℕ_discrete (P.tab k).order (upto (P.tab k).cap) (λ p i. count_upto p (P.tab k).cap ((S.tabs k).fits p i)),
      sum_small (λ p. count ℕ_discrete p (P.tab k).order) (upto (P.tab k).cap) (λ p. ⊎_elim (λ z. omega (arith, z)) (λ z. omega (arith, rises_once (P.tab k).num (P.tab k).order (S.tabs k).rises p z)) (zero_or (count ℕ_discrete p (P.tab k).order))),
      length_upto (P.tab k).cap,
    )

-- ---- laws of lists and tables

insert_removed : (i u : ℕ) (l : List ℕ) → i < length l → seq_insert_at i u (seq_remove_at i l) ≡ set l i u
insert_removed i u [] h = absurd (omega arith)
insert_removed zero u (x ∷ l) h = refl
insert_removed (suc i) u (x ∷ l) h = ap {B = List ℕ} (λ r. x ∷ r) (insert_removed i u l (omega arith))

change_change : {A : Type 0} (n : ℕ) (f g : A → A) (t : List (ℕ × A)) → change n f (change n g t) ≡ change n (λ a. f (g a)) t
unfolding change
change_change n f g [] = refl
change_change {A} n f g (e ∷ t) = go (eqb e.0 n) refl (change_change n f g t)
  where
    go : (b : Bool) → eqb e.0 n ≡ b → change n f (change n g t) ≡ change n (λ a. f (g a)) t
        → change n f (cond b ((e.0, g e.1) ∷ change n g t) (e ∷ change n g t)) ≡ cond b ((e.0, f (g e.1)) ∷ change n (λ a. f (g a)) t) (e ∷ change n (λ a. f (g a)) t)
    go true q ih = ap {B = List (ℕ × A)} (λ b. cond b ((e.0, f (g e.1)) ∷ change n f (change n g t)) ((e.0, g e.1) ∷ change n f (change n g t))) q ∙ ap {B = List (ℕ × A)} (λ r. (e.0, f (g e.1)) ∷ r) ih
    go false q ih = ap {B = List (ℕ × A)} (λ b. cond b ((e.0, f e.1) ∷ change n f (change n g t)) (e ∷ change n f (change n g t))) q ∙ ap {B = List (ℕ × A)} (λ r. e ∷ r) ih

slot_twice : (sl : Slot) (f g : List ℕ → List ℕ) (x : Operation) → change_slot sl f (change_slot sl g x) ≡ change_slot sl (λ l. f (g l)) x
unfolding change_slot
slot_twice operand f g x = refl
slot_twice successor f g x = refl

keep_last : {A : Type 0} (p : ℕ → Bool) (t : List (ℕ × A)) (u : ℕ) (a : A) → p u ≡ true → keep_keys p (t ++ (u, a) ∷ []) ≡ keep_keys p t ++ (u, a) ∷ []
unfolding keep_keys
keep_last {A} p [] u a h = ap {B = List (ℕ × A)} (λ b. cond b ((u, a) ∷ []) []) h
keep_last {A} p (e ∷ t) u a h = go (p e.0) (keep_last p t u a h)
  where
    go : (b : Bool) → keep_keys p (t ++ (u, a) ∷ []) ≡ keep_keys p t ++ (u, a) ∷ [] → cond b (e ∷ keep_keys p (t ++ (u, a) ∷ [])) (keep_keys p (t ++ (u, a) ∷ [])) ≡ cond b (e ∷ keep_keys p t) (keep_keys p t) ++ (u, a) ∷ []
    go true ih = ap {B = List (ℕ × A)} (λ r. e ∷ r) ih
    go false ih = ih

-- ---- by places

module _ {P : State} (S : Sound P) (sl : Slot) (o i q : ℕ) (lo : Live P (op, o)) (inside : i < length (P.list (op, o) (slot_role sl))) (at : get_or (P.list (op, o) (slot_role sl)) i (usg, 0) ≡ (usg, q)) where
  abbrev L : List Thing
  L = P.list (op, o) (slot_role sl)

  lu : Live P (usg, q)
  lu = at_live S sl o i q lo inside at

  abbrev un : ℕ
  un = num P (usg, q)

  abbrev P₁ : State
  P₁ = end_use (at_held S sl o i q lo inside at).slot (at_held S sl o i q lo inside at).def (usg, q) P

  pub left_sound : Sound P₁
  left_sound = ended_sound S sl o i q lo inside at

  op_other : ◌≢◌ {A = Thing} (op, o) (usg, q)
  op_other z = use_holds_nothing (slot_role sl) (sym (ap (λ (x : Thing). x.0) z) ∙ slot_holder sl)

  def_other : (d : ℕ) → ◌≢◌ {A = Thing} (def_kind sl, d) (usg, q)
  def_other d z = use_holds_nothing (def_role sl) (sym (ap (λ (x : Thing). x.0) z) ∙ def_holder sl)

  pub still_op : Live P₁ (op, o)
  still_op = end_use_live S q lu (at_held S sl o i q lo inside at) (op, o) op_other lo

  pub still_def : (d : ℕ) → Live P (def_kind sl, d) → Live P₁ (def_kind sl, d)
  still_def d l = end_use_live S q lu (at_held S sl o i q lo inside at) (def_kind sl, d) (def_other d) l

  op_num : num P₁ (op, o) ≡ num P (op, o)
  op_num = end_use_num S q lu (at_held S sl o i q lo inside at) (op, o) op_other

  def_num : (d : ℕ) → num P₁ (def_kind sl, d) ≡ num P (def_kind sl, d)
  def_num d = end_use_num S q lu (at_held S sl o i q lo inside at) (def_kind sl, d) (def_other d)

  list_left : P₁.list (op, o) (slot_role sl) ≡ without Thing-dec (usg, q) L
  list_left = subst (λ (c : Con). P₁.list c.1 c.0 ≡ without Thing-dec (usg, q) (P.list c.1 c.0)) (at_slot S sl o i q lo inside at) (end_use_list S q lu (at_held S sl o i q lo inside at))

  limited : (sl : Slot) → Limited (slot_role sl)
  limited operand = Limited.of_operands
  limited successor = Limited.of_successors

  stands : P.own (usg, q) slots ≡ some (slot_role sl, (op, o))
  stands = (at_held S sl o i q lo inside at).in_slot ∙ ap (λ (c : Con). some c) (at_slot S sl o i q lo inside at)

  pub shorter : length (P₁.list (op, o) (slot_role sl)) < 64
  shorter = omega (arith, ap length list_left, length_falls Thing-dec (usg, q) L (once S.linked (usg, q) slots (slot_role sl, (op, o)) stands), S.linked.short (op, o) (slot_role sl) (limited sl))

  pub left_cap : (k : Kind) → (P₁.tab k).cap ≡ (P.tab k).cap
  left_cap = end_use_cap S q lu (at_held S sl o i q lo inside at)

  pub left_next : (P₁.tab usg).next ≡ (P.tab usg).next
  unfolding view n_end amend upd
  left_next = ap (λ (N : Names). N.next usg) (ended_view S sl o i q lo inside at)

  -- ---- the new use, at any free place

  module _ (d j p : ℕ) (dead : alive P₁ (usg, p) ≡ 0) (room : p < (P₁.tab usg).cap) (ld : Live P (def_kind sl, d)) where
    abbrev Q : State
    Q = birth_use (slot_role sl, (op, o)) i (def_role sl, (def_kind sl, d)) j p P₁

    abbrev n : ℕ
    n = num P (op, o)

    abbrev dn : ℕ
    dn = num P (def_kind sl, d)

    abbrev u : ℕ
    u = (P.tab usg).next

    abbrev B : Names
    B = n_birth_use (slot_role sl, (op, n)) i (def_role sl, (def_kind sl, dn)) (view P₁)

    pub replaced_sound : Sound Q
    replaced_sound = born_sound left_sound sl o i d j p dead room still_op shorter (still_def d ld)

    seen : view Q ≡ B
    seen = born_view left_sound sl o i d j p dead room still_op shorter (still_def d ld) ∙ ap₂ (λ (a b : ℕ). n_birth_use (slot_role sl, (op, a)) i (def_role sl, (def_kind sl, b)) (view P₁)) op_num (def_num d)

    gone : view P₁ ≡ n_end_use (slot_role sl, (op, n)) (usg, un) (view P)
    gone = ended_view S sl o i q lo inside at

    new : (f : Rec → Rec) → amend_in ((view P₁).next usg) f ((view P₁).things usg) ≡ (view P₁).things usg
    new = next_new left_sound.linked usg

    next_is : (view P₁).next usg ≡ u
    unfolding view
    next_is = left_next

    abbrev T : List (ℕ × Operation)
    T = tabled op_of ((view P).things op)

    set_is : seq_insert_at i u (without ℕ_discrete un (map (num P) L)) ≡ set (map (num P) L) i u
    set_is =
        ap (λ (k : ℕ). seq_insert_at i u (without ℕ_discrete k (map (num P) L))) (sym (at_number S sl o i q lo inside at))
        ∙ ap (seq_insert_at i u) (sym (remove_at_without ℕ_discrete (map (num P) L) i 0 long (ap (λ (k : ℕ). count ℕ_discrete k (map (num P) L)) (at_number S sl o i q lo inside at) ∙ once_there S sl o i q lo inside at)))
        ∙ insert_removed i u (map (num P) L) long
      where
        long : i < length (map (num P) L)
        long = omega (arith, inside, length-map L (num P))

    operations : tabled op_of ((view Q).things op) ≡ change n (change_slot sl (λ xs. set xs i u)) T
    operations =
        ap (λ (N : Names). tabled op_of (N.things op)) seen
        ∙ born_operations (view P₁) sl n i dn new
        ∙ ap₂ (λ (k : ℕ) (t : List (ℕ × Operation)). change n (change_slot sl (seq_insert_at i k)) t) next_is (ap (λ (N : Names). tabled op_of (N.things op)) gone ∙ ended_operations (view P) sl n un)
        ∙ change_change n (change_slot sl (seq_insert_at i u)) (change_slot sl (without ℕ_discrete un)) T
        ∙ ap (λ (f : Operation → Operation). change n f T) (fun_ext λ x. slot_twice sl (seq_insert_at i u) (without ℕ_discrete un) x)
        ∙ slot_change S sl o lo (λ xs. seq_insert_at i u (without ℕ_discrete un xs)) (λ xs. set xs i u) set_is

    apart : not (member u (un ∷ [])) ≡ true
    unfolding member alive
    apart = ap (λ (b : Bool). not (b || false)) (ne_eqb un u (λ e. absurd (omega (arith, e, (S.linked.tabs usg).below q lu))))

    uses : tabled use_of ((view Q).things usg) ≡ keep_keys (λ v. not (member v (un ∷ []))) (tabled use_of ((view P).things usg) ++ (u, defined sl dn) ∷ [])
    uses =
        ap (λ (N : Names). tabled use_of (N.things usg)) seen
        ∙ born_uses (view P₁) sl n i dn new
        ∙ ap₂ (λ (k : ℕ) (t : List (ℕ × Definition)). t ++ (k, defined sl dn) ∷ []) next_is (ap (λ (N : Names). tabled use_of (N.things usg)) gone ∙ ended_uses (view P) sl n un)
        ∙ sym (keep_last (λ v. not (member v (un ∷ []))) (tabled use_of ((view P).things usg)) u (defined sl dn) apart)

    blocks : tabled block_of ((view Q).things blk) ≡ tabled block_of ((view P).things blk)
    unfolding n_hold n_enter amend n_birth n_end upd
    blocks = ap (λ (N : Names). tabled block_of (N.things blk)) seen ∙ ap (λ (N : Names). tabled block_of (N.things blk)) gone

    births_are : born_of (view Q) ≡ plus (born_of (view P)) (one_of usg)
    unfolding n_end amend upd
    births_are = ap born_of seen ∙ born_born (view P₁) sl n i dn new ∙ ap (λ (N : Names). plus (born_of N) (one_of usg)) gone

    ended : ended_of Q ≡ ended_of P + 1
    ended = born_ended left_sound sl o i d j p dead room still_op shorter (still_def d ld) ∙ ended_order S sl o i q lo inside at

    taken_out : get_or (slot_of sl (find (hist (ended_of P) (view P)).operations n)) i 0 ≡ un
    taken_out = ap (λ (l : List ℕ). get_or l i 0) (slot_list_lem S (ended_of P) sl o n lo refl) ∙ at_number S sl o i q lo inside at

    history : hist (ended_of Q) (view Q) ≡ remember (replace_use sl n i dn) (hist (ended_of P) (view P))
    unfolding hist remember births carry_out bear end_uses add_use view
    history =
        (λ k. record { operations = operations k; blocks = blocks k; uses = uses k; born = births_are k; ended = ended k })
        ∙ ap (λ (w : ℕ). record { operations = change n (change_slot sl (λ xs. set xs i u)) T; blocks = tabled block_of ((view P).things blk); uses = keep_keys (λ v. not (member v (w ∷ []))) (tabled use_of ((view P).things usg) ++ (u, defined sl dn) ∷ []); born = plus (born_of (view P)) (one_of usg); ended = ended_of P + 1 }) (sym taken_out)

    pub replace_accept : meaning Q ≡ accept (replace_use sl n i dn) (meaning P)
    unfolding meaning reorder order new_flags new_types
    replace_accept =
        accept_quiet P replaced_sound (replace_use sl n i dn) (record { orders = λ h k r. refl; flags = refl; types = refl }) (ended_of P) (ended_of Q) history
        (ap (λ (N : Names). tabled (λ e. e.tag) (N.things op)) seen ∙ born_flags (view P₁) sl n i dn new ∙ ap (λ (N : Names). tabled (λ e. e.tag) (N.things op)) gone ∙ ended_flags (view P) sl n un)
        (born_types left_sound sl o i d j p dead room still_op shorter (still_def d ld) ∙ ap (λ (N : Names). tabled (λ e. e.tag) (N.things val)) gone ∙ ended_types (view P) sl n un)
        (ap orders_of seen ∙ born_rest (view P₁) sl n i dn new ∙ ap orders_of gone ∙ ended_rest (view P) sl n un)
        (λ k. born_caps left_sound sl o i d j p dead room still_op shorter (still_def d ld) k ∙ left_cap k)
