-- A region moves to another operation, by places and by the rules' edit 31: the same store, and the same refusals. Assumes nothing.
use mathlib.Core.Path.{◌≡◌, refl, sym, ap, ap₂, ◌∙◌}
use mathlib.Core.Logic.{◌≢◌, ite, if_pos, if_neg, by_cases}
use mathlib.Core.Bool.{Bool, true, false, cond}
use mathlib.Core.List.{List, [], ◌∷◌, ◌++◌, map}
use mathlib.Core.Option.{Option, none, some}
use native.Mathlib.Decide.{ℕ_discrete, dec_lt}
use native.Mathlib.Omega.{arith}
use Prim.Native.Nat.{ℕ, zero, suc, ◌-◌, ◌<◌, ◌≤◌}
use lib.Dec.{eqb, leb}
use borrow.Author.Tests.{lt-leb, le-leb}
use lib.ListN.{length, length-map}
use Rattle.seqs.specs.Seqs.{upd, tick, count, seq_insert_at, seq_last_of, seq_front_of, seq_swap_out}
use Rattle.places.specs.Store.{op, reg, usg, Role, regions, blocks, regs, Thing, Thing-dec, Con, State, Live, Link, Sound, Clear, up, outer, set_list, set_own, relink, enter}
use Rattle.places.specs.View.{Rec, Names, num, rec_of, view, amend_in, amend, change_list, set_home, n_enter}
use Rattle.places.specs.Walk.{pick, sgn, walk}
use Rattle.places.specs.Hist.{tabled, op_of, hist, orders_of, rule_state, meaning}
use Rattle.places.specs.Members.{place_move_region, move_code}
use Rattle.edit.specs.Record.{the_region, move_region}
use Rattle.rules.specs.Table as R
use Rattle.rules.specs.Table.{Table, some_and, find, change, last_of, front_of, swap, swap_out}
use Rattle.rules.specs.History.{Operation, History, births, parent, regions_of, operation_in, change_regions, with_operations, hand_over, carry_out}
use Rattle.rules.specs.Refusal.{check, from_state}
use Rattle.rules.specs.Orders.{order, reorder}
use Rattle.rules.specs.State.{accept, new_flags, new_types}
use Rattle.seqs.proofs.Base.{tick_yes, tick_no, tick_pos}
use Rattle.places.proofs.Steps.{listed, once}
use Rattle.places.proofs.Sees.{num_inj}
use Rattle.places.proofs.Entries.{cond_ite, tabled_amend, tabled_same, change_there}
use Rattle.places.proofs.Bits.{bit, bit_eqb, bit_true, bit_false, count_nums}
use Rattle.places.proofs.RuleClimb.{num_opt, parent_num, operation_in_walk}
use Rattle.places.proofs.Nest.{kind_code}
use Rattle.places.proofs.RuleNames.{find_live}
use Rattle.places.proofs.RuleAccept.{accept_kept}
use Rattle.places.proofs.RuleLinks.{insert_last}
use Rattle.places.proofs.SwapOut.{count_front}
use Rattle.places.proofs.MoveRegion.{move_region_sound, move_region_view}

-- ---- lists of numbers

last_rules : (x : ℕ) (l : List ℕ) → last_of x l ≡ seq_last_of x l
unfolding last_of
last_rules x [] = refl
last_rules x (y ∷ l) = last_rules y l

front_rules : (x : ℕ) (l : List ℕ) → front_of x l ≡ seq_front_of x l
unfolding front_of
front_rules x [] = refl
front_rules x (y ∷ l) = ap {B = List ℕ} (λ r. x ∷ r) (front_rules y l)

swap_none : (n a : ℕ) (l : List ℕ) → count ℕ_discrete n l ≡ 0 → map (λ y. ite (ℕ_discrete y n) a y) l ≡ l
swap_none n a [] h = refl
swap_none n a (x ∷ l) h = ap₂ {C = List ℕ} (λ y r. y ∷ r) (if_neg (ℕ_discrete x n) (λ e. absurd (omega (arith, h, tick_yes (ℕ_discrete n x) (sym e)))) a x) (swap_none n a l (omega arith))

swap_rules : (n a : ℕ) (l : List ℕ) → count ℕ_discrete n l ≤ 1 → swap n a l ≡ map (λ y. ite (ℕ_discrete y n) a y) l
unfolding swap
swap_rules n a [] h = refl
swap_rules n a (x ∷ l) h = cond_ite x n (a ∷ l) (x ∷ swap n a l) ∙ go (ℕ_discrete x n) (λ m. swap_rules n a l (omega arith))
  where
    go : (w : Dec (x ≡ n)) → (x ≢ n → swap n a l ≡ map (λ y. ite (ℕ_discrete y n) a y) l) → ite w (a ∷ l) (x ∷ swap n a l) ≡ ite w a x ∷ map (λ y. ite (ℕ_discrete y n) a y) l
    go (yes e) ih = ap {B = List ℕ} (λ r. a ∷ r) (sym (swap_none n a l (omega (arith, h, tick_yes (ℕ_discrete n x) (sym e)))))
    go (no m) ih = ap {B = List ℕ} (λ r. x ∷ r) (ih m)

pub swap_out_rules : (n : ℕ) (l : List ℕ) → count ℕ_discrete n l ≤ 1 → swap_out n l ≡ seq_swap_out ℕ_discrete n l
unfolding swap_out
swap_out_rules n [] h = refl
swap_out_rules n (x ∷ l) h =
    ap₂ (swap n) (last_rules x l) (front_rules x l)
    ∙ swap_rules n (seq_last_of x l) (seq_front_of x l) (omega (arith, h, count_front ℕ_discrete n x l))

-- ---- tables

-- changes of two entries may be made in either order
change_swap : {A : Type 0} (m n : ℕ) (f g : A → A) → m ≢ n → (t : Table A) → change n f (change m g t) ≡ change m g (change n f t)
unfolding change
change_swap m n f g d [] = refl
change_swap {A} m n f g d (e ∷ t) = go (change_swap m n f g d t) (eqb e.0 m) refl (eqb e.0 n) refl
  where
    both : eqb e.0 m ≡ true → eqb e.0 n ≡ true → ⊥
    both p q = d (sym (tick_pos (ℕ_discrete e.0 m) (omega (arith, bit_eqb e.0 m, ap bit p))) ∙ tick_pos (ℕ_discrete e.0 n) (omega (arith, bit_eqb e.0 n, ap bit q)))

    go : change n f (change m g t) ≡ change m g (change n f t) → (b : Bool) → eqb e.0 m ≡ b → (c : Bool) → eqb e.0 n ≡ c → change n f (cond b ((e.0, g e.1) ∷ change m g t) (e ∷ change m g t)) ≡ change m g (cond c ((e.0, f e.1) ∷ change n f t) (e ∷ change n f t))
    go ih true p true q = absurd (both p q)
    go ih true p false q = rw (p, q) (ap {B = Table A} (λ r. (e.0, g e.1) ∷ r) ih)
    go ih false p true q = rw (p, q) (ap {B = Table A} (λ r. (e.0, f e.1) ∷ r) ih)
    go ih false p false q = rw (p, q) (ap {B = Table A} (λ r. e ∷ r) ih)

-- the names after a move: the regions of two operations changed, and a region's home
module _ (N : Names) (n c c' : ℕ) (g g' : List ℕ → List ℕ) (a b : Rec → Rec) (keeps-a : (e : Rec) → (a e).num ≡ e.num) (keeps-b : (e : Rec) → (b e).num ≡ e.num)
    (same-a : (e : Rec) → (a e).lists ≡ e.lists) (same-b : (e : Rec) → (b e).lists ≡ e.lists) where
  abbrev M : Names
  M = amend reg n a (amend op c' (change_list regions g') (amend reg n b (amend op c (change_list regions g) N)))

  moved_history : (e : ℕ) → hist e M ≡ with_operations (hist e N) (change c' (change_regions g') (change c (change_regions g) (hist e N).operations))
  unfolding hist with_operations amend upd change_regions
  moved_history e = λ j. record { operations = operations j; blocks = (hist e N).blocks; uses = (hist e N).uses; born = (hist e N).born; ended = e }
    where
      operations : tabled op_of (amend_in c' (change_list regions g') (amend_in c (change_list regions g) (N.things op))) ≡ change c' (change_regions g') (change c (change_regions g) (tabled op_of (N.things op)))
      operations =
          tabled_amend op_of c' (change_list regions g') (λ r. refl) (change_regions g') (λ r. refl) (amend_in c (change_list regions g) (N.things op))
          ∙ ap (change c' (change_regions g')) (tabled_amend op_of c (change_list regions g) (λ r. refl) (change_regions g) (λ r. refl) (N.things op))

  moved_orders : orders_of M ≡ orders_of N
  unfolding orders_of amend upd
  moved_orders = λ j. record { ops_of = (orders_of N).ops_of; blocks_of = blocks_of j }
    where
      blocks_of : tabled (λ e. e.lists blocks) (amend_in n a (amend_in n b (N.things reg))) ≡ tabled (λ e. e.lists blocks) (N.things reg)
      blocks_of =
          tabled_same (λ e. e.lists blocks) n a keeps-a (λ e. ap (λ (l : Role → List ℕ). l blocks) (same-a e)) (amend_in n b (N.things reg))
          ∙ tabled_same (λ e. e.lists blocks) n b keeps-b (λ e. ap (λ (l : Role → List ℕ). l blocks) (same-b e)) (N.things reg)

-- ---- 31

module _ {P : State} (S : Sound P) (x o o' : ℕ) (at : P.own (reg, x) regs ≡ some (regions, (op, o))) where
  abbrev nx : ℕ
  nx = num P (reg, x)

  abbrev from₀ : ℕ
  from₀ = num P (op, o)

  abbrev to₀ : ℕ
  to₀ = num P (op, o')

  abbrev row : ℕ → List ℕ
  row q = map (num P) (P.list (op, q) regions)

  L : Link P (reg, x) regs (regions, (op, o))
  L = S.linked.link (reg, x) regs (regions, (op, o)) at

  pub parent_of : (n : ℕ) → parent (hist n (view P)) nx ≡ some from₀
  unfolding up
  parent_of n = parent_num S n x L.live ∙ ap (λ (c : Option Con). num_opt P (outer c)) at

  same_op : (q p : ℕ) → Live P (op, q) → Live P (op, p) → num P (op, q) ≡ num P (op, p) → q ≡ p
  same_op q p lq lp e = ap (λ (a : Thing). a.1) (num_inj P S.linked.tabs (op, q) (op, p) refl lq lp e)

  -- to its own operation: nothing happens
  pub stay_accept : meaning P ≡ accept (move_region nx from₀) (meaning P)
  unfolding births new_flags new_types carry_out hand_over reorder order
  stay_accept =
      accept_kept S (move_region nx from₀)
      record {
        tables = refl;
        tags = refl;
        no_births = refl;
        no_flags = refl;
        no_types = refl;
        history = λ n. ap (λ (p : Option ℕ). hand_over nx p from₀ (hist n (view P))) (parent_of n) ∙ ap (λ (b : Bool). cond b (hist n (view P)) (with_operations (hist n (view P)) (change from₀ (change_regions (λ xs. xs ++ (nx ∷ []))) (change from₀ (change_regions (R.swap_out nx)) (hist n (view P)).operations)))) (bit_true (eqb from₀ from₀) (omega (arith, bit_eqb from₀ from₀, tick_yes (ℕ_discrete from₀ from₀) refl)));
        orders = λ n. refl;
      }

  module _ (i : ℕ) (home' : Live P (op, o')) (other : o' ≢ o) (limit : length (P.list (op, o') regions) < 64) (clear : Clear (up P) (reg, x) (op, o')) (last : length (P.list (op, o') regions) ≤ i) where
    differ : ◌≢◌ {A = Thing} (op, o') (op, o)
    differ e = other (ap (λ (a : Thing). a.1) e)

    pub moved_sound : Sound (place_move_region (reg, x) (op, o) (op, o') i P)
    unfolding place_move_region
    moved_sound = move_region_sound S (reg, x) (op, o) (op, o') i refl refl home' at differ limit clear

    apart : from₀ ≢ to₀
    apart e = other (sym (same_op o o' L.home home' e))

    once_there : count ℕ_discrete nx (row o) ≤ 1
    once_there =
        omega (
          arith,
          count_nums S.linked (reg, x) (P.list (op, o) regions) L.live
              (λ y j. let M : Link P y regs (regions, (op, o)) = S.linked.link y regs (regions, (op, o)) (listed S.linked y (op, o) regions j) in (M.node, M.live)),
          once S.linked (reg, x) regs (regions, (op, o)) at,
        )

    changed_at : (p : ℕ) (f g : List ℕ → List ℕ) → Live P (op, p) → f (row p) ≡ g (row p) → change (num P (op, p)) (change_regions f) (tabled op_of ((view P).things op)) ≡ change (num P (op, p)) (change_regions g) (tabled op_of ((view P).things op))
    unfolding change_regions rec_of
    changed_at p f g lp e =
        change_there S.linked op op_of p (change_regions f) (change_regions g) lp
        (λ k. record { results = (op_of (rec_of P (op, p))).results; operands = (op_of (rec_of P (op, p))).operands; successors = (op_of (rec_of P (op, p))).successors; regions = e k; block = (op_of (rec_of P (op, p))).block })

    operations : change to₀ (change_regions (seq_insert_at i nx)) (change from₀ (change_regions (seq_swap_out ℕ_discrete nx)) (tabled op_of ((view P).things op))) ≡ change to₀ (change_regions (λ xs. xs ++ (nx ∷ []))) (change from₀ (change_regions (swap_out nx)) (tabled op_of ((view P).things op)))
    operations =
        change_swap from₀ to₀ (change_regions (seq_insert_at i nx)) (change_regions (seq_swap_out ℕ_discrete nx)) apart (tabled op_of ((view P).things op))
        ∙ ap (change from₀ (change_regions (seq_swap_out ℕ_discrete nx))) (changed_at o' (seq_insert_at i nx) (λ xs. xs ++ (nx ∷ [])) home' (insert_last i nx (row o') (omega (arith, last, length-map (P.list (op, o') regions) (num P)))))
        ∙ sym (change_swap from₀ to₀ (change_regions (λ xs. xs ++ (nx ∷ []))) (change_regions (seq_swap_out ℕ_discrete nx)) apart (tabled op_of ((view P).things op)))
        ∙ ap (change to₀ (change_regions (λ xs. xs ++ (nx ∷ [])))) (changed_at o (seq_swap_out ℕ_discrete nx) (swap_out nx) L.home (sym (swap_out_rules nx (row o) once_there)))

    abbrev N' : Names
    N' = n_enter (regions, (op, to₀)) i (reg, nx) (amend reg nx (set_home regs none) (amend op from₀ (change_list regions (seq_swap_out ℕ_discrete nx)) (view P)))

    seen : view (place_move_region (reg, x) (op, o) (op, o') i P) ≡ N'
    unfolding place_move_region
    seen = move_region_view S (reg, x) (op, o) (op, o') i refl refl home' at differ limit clear

    history_seen : (n : ℕ) → hist n N' ≡ with_operations (hist n (view P)) (change to₀ (change_regions (λ xs. xs ++ (nx ∷ []))) (change from₀ (change_regions (swap_out nx)) (hist n (view P)).operations))
    unfolding n_enter hist
    history_seen n =
        moved_history (view P) nx from₀ to₀ (seq_swap_out ℕ_discrete nx) (seq_insert_at i nx) (set_home regs (some (regions, to₀))) (set_home regs none) (λ e. refl) (λ e. refl) (λ e. refl) (λ e. refl) n
        ∙ ap (with_operations (hist n (view P))) operations

    orders_seen : orders_of N' ≡ orders_of (view P)
    unfolding n_enter
    orders_seen = moved_orders (view P) nx from₀ to₀ (seq_swap_out ℕ_discrete nx) (seq_insert_at i nx) (set_home regs (some (regions, to₀))) (set_home regs none) (λ e. refl) (λ e. refl) (λ e. refl) (λ e. refl)

    handed : (n : ℕ) → hand_over nx (some from₀) to₀ (hist n (view P)) ≡ with_operations (hist n (view P)) (change to₀ (change_regions (λ xs. xs ++ (nx ∷ []))) (change from₀ (change_regions (swap_out nx)) (hist n (view P)).operations))
    unfolding hand_over
    handed n = ap (λ (b : Bool). cond b (hist n (view P)) (with_operations (hist n (view P)) (change to₀ (change_regions (λ xs. xs ++ (nx ∷ []))) (change from₀ (change_regions (swap_out nx)) (hist n (view P)).operations)))) (bit_false (eqb from₀ to₀) (bit_eqb from₀ to₀ ∙ tick_no (ℕ_discrete from₀ to₀) apart))

    pub move_accept : meaning (place_move_region (reg, x) (op, o) (op, o') i P) ≡ accept (move_region nx to₀) (meaning P)
    unfolding births new_flags new_types carry_out reorder order place_move_region enter relink set_own set_list
    move_accept =
        accept_kept moved_sound (move_region nx to₀)
        record {
          tables = refl;
          tags = refl;
          no_births = refl;
          no_flags = refl;
          no_types = refl;
          history = λ n. ap (λ (p : Option ℕ). hand_over nx p to₀ (hist n (view P))) (parent_of n) ∙ handed n ∙ sym (ap (hist n) seen ∙ history_seen n);
          orders = λ n. sym (ap orders_of seen ∙ orders_seen);
        }

-- the refusals of 31: to its own operation none, then 17, then 19
module _ {P : State} (S : Sound P) (x o p n k : ℕ) (lx : Live P (reg, x)) (ex : num P (reg, x) ≡ n) (lo : Live P (op, o)) (eo : num P (op, o) ≡ k) (at : P.own (reg, x) regs ≡ some (regions, (op, p))) where
  abbrev n₀ : ℕ
  n₀ = (P.tab usg).next - length (P.tab usg).order

  abbrev h : History
  h = (meaning P).history

  long : length (regions_of (find h.operations k)) ≡ length (P.list (op, o) regions)
  unfolding meaning rule_state regions_of hist rec_of
  long = ap (λ (q : Option Operation). length (regions_of q)) (find_live S.linked op op_of o k lo eo) ∙ length-map (P.list (op, o) regions) (num P)

  inside : bit (operation_in h (the_region n) k) ≡ sgn (count Thing-dec (op, o) (walk P (reg, x)))
  unfolding meaning rule_state kind_code
  inside = ap₂ (λ (a b : ℕ). bit (operation_in h (the_region a) b)) (sym ex) (sym eo) ∙ operation_in_walk S n₀ (reg, x) lx (omega arith) o lo

  own_test : bit (some_and (parent h n) (eqb k)) ≡ tick (ℕ_discrete o p)
  unfolding meaning rule_state some_and
  own_test =
      ap₂ (λ (a b : ℕ). bit (some_and (parent (hist n₀ (view P)) a) (eqb b))) (sym ex) (sym eo)
      ∙ ap (λ (q : Option ℕ). bit (some_and q (eqb (num P (op, o))))) (parent_of S x p p at n₀)
      ∙ bit_eqb (num P (op, o)) (num P (op, p))
      ∙ by_cases (ℕ_discrete o p)
      (λ e. tick_yes (ℕ_discrete (num P (op, o)) (num P (op, p))) (ap (λ (q : ℕ). num P (op, q)) e) ∙ sym (tick_yes (ℕ_discrete o p) e))
      (λ d. tick_no (ℕ_discrete (num P (op, o)) (num P (op, p))) (λ e. d (same_op S x p p at o p lo (S.linked.link (reg, x) regs (regions, (op, p)) at).home e)) ∙ sym (tick_no (ℕ_discrete o p) d))

  tests : (a b c : Bool) (t : Dec (o ≡ p)) (z m : ℕ) → bit a ≡ tick t → bit b ≡ sgn z → c ≡ leb 64 m → check a 0 (check b 17 (check c 19 0)) ≡ ite t 0 (pick z (ite (dec_lt m 64) 0 19) 17)
  unfolding check pick tick
  tests true b c (yes e) z m p q r = refl
  tests true b c (no e) z m p q r = absurd (omega arith)
  tests false b c (yes e) z m p q r = absurd (omega arith)
  tests false true c (no e) zero m p q r = absurd (omega arith)
  tests false true c (no e) (suc z) m p q r = refl
  tests false false c (no e) (suc z) m p q r = absurd (omega arith)
  tests false false c (no e) zero m p q r = by_cases (dec_lt m 64)
      (λ l. ap (λ (t : Bool). check t 19 0) (r ∙ lt-leb 64 m l) ∙ sym (if_pos (dec_lt m 64) l 0 19))
      (λ g. ap (λ (t : Bool). check t 19 0) (r ∙ le-leb 64 m (omega (arith, g))) ∙ sym (if_neg (dec_lt m 64) g 0 19))

  pub move_code_lem : from_state (meaning P) (move_region n k) ≡ move_code P x o p
  unfolding from_state move_code
  move_code_lem = tests (some_and (parent h n) (eqb k)) (operation_in h (the_region n) k) (leb 64 (length (regions_of (find h.operations k)))) (ℕ_discrete o p) (count Thing-dec (op, o) (walk P (reg, x))) (length (P.list (op, o) regions)) own_test inside (ap (leb 64) long)
