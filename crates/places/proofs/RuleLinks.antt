-- An operation or a block is put into a list, or taken out of it: by places that is what the rules' edits 21 to 30 say. Assumes nothing.
use mathlib.Core.Path.{◌≡◌, refl, sym, ap, ◌∙◌, subst}
use mathlib.Core.Logic.{◌≢◌, ◌↔◌, ite, if_neg}
use mathlib.Core.HLevel.{Discrete}
use mathlib.Core.Bool.{Bool, true, false, not, cond}
use mathlib.Core.List.{List, [], ◌∷◌, ◌++◌, map}
use mathlib.Core.Option.{Option, none, some}
use native.Mathlib.Decide.{ℕ_discrete}
use native.Mathlib.Omega.{arith}
use Prim.Native.Nat.{ℕ, zero, suc, ◌≤◌}
use lib.Dec.{eqb}
use lib.ListN.{length, length-map}
use Rattle.seqs.specs.Seqs.{upd, tick, count, In, seq_insert_at, without}
use Rattle.places.specs.Store.{op, blk, reg, Role, ops, blocks, Fam, ops_in, blocks_in, fam, node_of, holder_of, Thing, Thing-dec, Con, Con-dec, State, alive, Live, Link, owns, Placed, Sound, set_list, set_own, relink, enter, leave, outer, up}
use Rattle.places.specs.View.{Names, shown, num, rec_of, view, amend, change_list, set_home, n_enter, n_leave}
use Rattle.places.specs.Hist as H
use Rattle.places.specs.Hist.{tabled, op_of, block_of, hist, orders_of, meaning}
use Rattle.places.specs.Members.{role_of, member_at, container_at, place_list_at, position}
use Rattle.edit.specs.Record.{Member, operation, block, Edit, link_after, link_before, link_front, link_back, unlink}
use Rattle.rules.specs.Table as R
use Rattle.rules.specs.Table.{Table, change, change_all, put_after, put_before, keep}
use Rattle.rules.specs.History.{History, zeros, births, put_in, container, with_operations, with_blocks, into_block, into_region, carry_out}
use Rattle.rules.specs.Orders.{Orders, order, reorder, if_same}
use Rattle.rules.specs.State.{accept, new_flags, new_types}
use Rattle.seqs.proofs.Base.{tick_yes, tick_no, in_head, in_tail}
use Rattle.places.specs.May.{CanEnter}
use Rattle.places.proofs.Steps.{listed}
use Rattle.places.proofs.Sees.{num_inj, listed_inj}
use Rattle.places.proofs.Whole.{link_sound, link_view, unlink_sound, unlink_view}
use Rattle.places.proofs.Entries.{cond_ite, tabled_amend, tabled_same, change_on}
use Rattle.places.proofs.Extra.{without_none}
use Rattle.places.proofs.Bits.{tabled_view, count_nums}
use Rattle.places.proofs.Tables.{change_tabled, change_one}
use Rattle.places.proofs.RuleClimb.{num_opt, block_at_num, region_at_num}
use Rattle.places.proofs.RuleAccept.{accept_kept}

-- ---- lists of numbers

pub insert_last : {A : Type 0} (i : ℕ) (x : A) (l : List A) → length l ≤ i → seq_insert_at i x l ≡ l ++ x ∷ []
insert_last zero x [] h = refl
insert_last zero x (y ∷ l) h = absurd (omega arith)
insert_last (suc i) x [] h = refl
insert_last {A} (suc i) x (y ∷ l) h = ap {B = List A} (λ r. y ∷ r) (insert_last i x l (omega arith))

pub after_index : (m a : ℕ) (l : List ℕ) → In ℕ_discrete m l → put_after m a l ≡ seq_insert_at (suc (position ℕ_discrete m l)) a l
unfolding put_after
after_index m a [] h = absurd (omega arith)
after_index m a (x ∷ l) h = cond_ite x m (x ∷ a ∷ l) (x ∷ put_after m a l) ∙ go (ℕ_discrete x m) (λ n. after_index m a l (omega (arith, h, tick_no (ℕ_discrete m x) (λ e. n (sym e)))))
  where
    go : (w : Dec (x ≡ m)) → (x ≢ m → put_after m a l ≡ seq_insert_at (suc (position ℕ_discrete m l)) a l) → ite w (x ∷ a ∷ l) (x ∷ put_after m a l) ≡ seq_insert_at (suc (ite w 0 (suc (position ℕ_discrete m l)))) a (x ∷ l)
    go (yes e) ih = refl
    go (no n) ih = ap {B = List ℕ} (λ r. x ∷ r) (ih n)

pub before_index : (m a : ℕ) (l : List ℕ) → In ℕ_discrete m l → put_before m a l ≡ seq_insert_at (position ℕ_discrete m l) a l
unfolding put_before
before_index m a [] h = absurd (omega arith)
before_index m a (x ∷ l) h = cond_ite x m (a ∷ x ∷ l) (x ∷ put_before m a l) ∙ go (ℕ_discrete x m) (λ n. before_index m a l (omega (arith, h, tick_no (ℕ_discrete m x) (λ e. n (sym e)))))
  where
    go : (w : Dec (x ≡ m)) → (x ≢ m → put_before m a l ≡ seq_insert_at (position ℕ_discrete m l) a l) → ite w (a ∷ x ∷ l) (x ∷ put_before m a l) ≡ seq_insert_at (ite w 0 (suc (position ℕ_discrete m l))) a (x ∷ l)
    go (yes e) ih = refl
    go (no n) ih = ap {B = List ℕ} (λ r. x ∷ r) (ih n)

-- the other lists stay
after_none : (m a : ℕ) (l : List ℕ) → count ℕ_discrete m l ≡ 0 → put_after m a l ≡ l
unfolding put_after
after_none m a [] h = refl
after_none m a (x ∷ l) h = cond_ite x m (x ∷ a ∷ l) (x ∷ put_after m a l) ∙ if_neg (ℕ_discrete x m) (λ e. absurd (omega (arith, h, tick_yes (ℕ_discrete m x) (sym e)))) (x ∷ a ∷ l) (x ∷ put_after m a l) ∙ ap {B = List ℕ} (λ r. x ∷ r) (after_none m a l (omega arith))

before_none : (m a : ℕ) (l : List ℕ) → count ℕ_discrete m l ≡ 0 → put_before m a l ≡ l
unfolding put_before
before_none m a [] h = refl
before_none m a (x ∷ l) h = cond_ite x m (a ∷ x ∷ l) (x ∷ put_before m a l) ∙ if_neg (ℕ_discrete x m) (λ e. absurd (omega (arith, h, tick_yes (ℕ_discrete m x) (sym e)))) (a ∷ x ∷ l) (x ∷ put_before m a l) ∙ ap {B = List ℕ} (λ r. x ∷ r) (before_none m a l (omega arith))

pub without_rules : (n : ℕ) (l : List ℕ) → R.without n l ≡ without ℕ_discrete n l
unfolding R.without keep
without_rules n [] = refl
without_rules n (x ∷ l) = turned (eqb x n) ∙ cond_ite x n (R.without n l) (x ∷ R.without n l) ∙ ap (λ (r : List ℕ). ite (ℕ_discrete x n) r (x ∷ r)) (without_rules n l)
  where
    turned : (b : Bool) → cond (not b) (x ∷ R.without n l) (R.without n l) ≡ cond b (R.without n l) (x ∷ R.without n l)
    turned true = refl
    turned false = refl

pub position_map : {A : Type 0} (d : Discrete A) (f : A → ℕ) (m : A) (l : List A) → ((y : A) → In d y l → (y ≡ m) ↔ (f y ≡ f m)) → position ℕ_discrete (f m) (map f l) ≡ position d m l
position_map d f m [] h = refl
position_map d f m (y ∷ l) h = go (ℕ_discrete (f y) (f m)) (d y m) (h y (in_head d y l)) (position_map d f m l (λ z i. h z (in_tail d z y l i)))
  where
    go : (v : Dec (f y ≡ f m)) (w : Dec (y ≡ m)) → (y ≡ m) ↔ (f y ≡ f m) → position ℕ_discrete (f m) (map f l) ≡ position d m l → ite v 0 (suc (position ℕ_discrete (f m) (map f l))) ≡ ite w 0 (suc (position d m l))
    go (yes p) (yes q) t ih = refl
    go (yes p) (no q) t ih = absurd (q (t.1 p))
    go (no p) (yes q) t ih = absurd (p (t.0 q))
    go (no p) (no q) t ih = ap suc ih

-- the list in two, at the mark
pub split_at : {A : Type 0} (d : Discrete A) (x : A) (l : List A) → In d x l → (a : List A) × (b : List A) × (l ≡ a ++ x ∷ b) × (length a ≡ position d x l)
split_at d x [] h = absurd (omega arith)
split_at {A} d x (y ∷ l) h = go (d y x) (λ n. split_at d x l (omega (arith, h, tick_no (d x y) (λ e. n (sym e)))))
  where
    go : (w : Dec (y ≡ x)) → (y ≢ x → (a : List A) × (b : List A) × (l ≡ a ++ x ∷ b) × (length a ≡ position d x l)) → (a : List A) × (b : List A) × (y ∷ l ≡ a ++ x ∷ b) × (length a ≡ ite w 0 (suc (position d x l)))
    go (yes e) ih = ([], l, ap {B = List A} (λ z. z ∷ l) e, refl)
    go (no n) ih = let r : (a : List A) × (b : List A) × (l ≡ a ++ x ∷ b) × (length a ≡ position d x l) = ih n in (y ∷ r.0, r.1, ap {B = List A} (λ t. y ∷ t) r.2, ap suc r.3)

-- ---- the two sorts

-- by numbers: the list of c changed by g, and the home of n set
unfoldable pub relinked : Member → ℕ → (List ℕ → List ℕ) → ℕ → Option (Role × ℕ) → Names → Names
relinked w c g n o N = amend (node_of (role_of w)) n (set_home (fam (role_of w)) o) (amend (holder_of (role_of w)) c (change_list (role_of w) g) N)

-- the lists of a sort, and their table replaced
abbrev pub lists_in : Member → Names → Table (List ℕ)
lists_in w N = tabled (λ e. e.lists (role_of w)) (N.things (holder_of (role_of w)))

unfoldable pub with_lists : Member → Table (List ℕ) → Orders → Orders
with_lists operation t o = record { ops_of = t; blocks_of = o.blocks_of }
with_lists block t o = record { ops_of = o.ops_of; blocks_of = t }

pub relinked_history : (w : Member) (c : ℕ) (g : List ℕ → List ℕ) (n : ℕ) (o : Option (Role × ℕ)) (N : Names) (e : ℕ) → hist e (relinked w c g n o N) ≡ put_in w n (H.number o) (hist e N)
unfolding relinked hist put_in with_operations with_blocks into_block into_region amend upd
relinked_history operation c g n o N e = λ j. record { operations = tabled_amend op_of n (set_home ops_in o) (λ r. refl) (into_block (H.number o)) (λ r. refl) (N.things op) j; blocks = tabled_same block_of c (change_list ops g) (λ r. refl) (λ r. refl) (N.things blk) j; uses = (hist e N).uses; born = (hist e N).born; ended = e }
relinked_history block c g n o N e = λ j. record { operations = (hist e N).operations; blocks = tabled_amend block_of n (set_home blocks_in o) (λ r. refl) (into_region (H.number o)) (λ r. refl) (N.things blk) j; uses = (hist e N).uses; born = (hist e N).born; ended = e }

pub relinked_orders : (w : Member) (c : ℕ) (g : List ℕ → List ℕ) (n : ℕ) (o : Option (Role × ℕ)) (N : Names) → orders_of (relinked w c g n o N) ≡ with_lists w (change c g (lists_in w N)) (orders_of N)
unfolding relinked orders_of with_lists amend upd
relinked_orders operation c g n o N = λ j. record { ops_of = tabled_amend (λ e. e.lists ops) c (change_list ops g) (λ r. refl) g (λ r. refl) (N.things blk) j; blocks_of = (orders_of N).blocks_of }
relinked_orders block c g n o N = λ j. record { ops_of = tabled_same (λ e. e.lists ops) n (set_home blocks_in o) (λ r. refl) (λ r. refl) (N.things blk) j; blocks_of = tabled_amend (λ e. e.lists blocks) c (change_list blocks g) (λ r. refl) g (λ r. refl) (N.things reg) j }

-- what the five edits make of the orders
abbrev pub stepped : Member → (Table (List ℕ) → Table (List ℕ)) → Names → Orders
stepped w F N = with_lists w (F (lists_in w N)) (orders_of N)

front_orders : (w : Member) (x c : ℕ) (h k : History) (N : Names) → reorder (link_front w x c) h k (orders_of N) ≡ stepped w (change c (λ xs. x ∷ xs)) N
unfolding reorder order if_same with_lists orders_of
front_orders operation x c h k N = refl
front_orders block x c h k N = refl

back_orders : (w : Member) (x c : ℕ) (h k : History) (N : Names) → reorder (link_back w x c) h k (orders_of N) ≡ stepped w (change c (λ xs. xs ++ (x ∷ []))) N
unfolding reorder order if_same with_lists orders_of
back_orders operation x c h k N = refl
back_orders block x c h k N = refl

after_orders : (w : Member) (x m : ℕ) (h k : History) (N : Names) → reorder (link_after w x m) h k (orders_of N) ≡ stepped w (change_all (λ _. put_after m x)) N
unfolding reorder order if_same with_lists orders_of
after_orders operation x m h k N = refl
after_orders block x m h k N = refl

before_orders : (w : Member) (x m : ℕ) (h k : History) (N : Names) → reorder (link_before w x m) h k (orders_of N) ≡ stepped w (change_all (λ _. put_before m x)) N
unfolding reorder order if_same with_lists orders_of
before_orders operation x m h k N = refl
before_orders block x m h k N = refl

unlink_orders : (w : Member) (x : ℕ) (h k : History) (N : Names) → reorder (unlink w x) h k (orders_of N) ≡ stepped w (change_all (λ _. R.without x)) N
unfolding reorder order if_same with_lists orders_of
unlink_orders operation x h k N = refl
unlink_orders block x h k N = refl

easy : (w : Member) (h : Fam → Option Con) → Placed (node_of (role_of w)) h
easy operation h = tt
easy block h = tt

seen : (w : Member) (m : List ℕ) → shown (role_of w) m ≡ m
seen operation m = refl
seen block m = refl

-- ---- the lists of a store, by number

module _ {P : State} (S : Sound P) (w : Member) where
  abbrev row : ℕ → List ℕ
  row p = map (num P) (P.list (container_at w p) (role_of w))

  abbrev nm : ℕ → ℕ
  nm p = num P (container_at w p)

  rows : lists_in w (view P) ≡ map (λ p. (nm p, row p)) (P.tab (holder_of (role_of w))).order
  unfolding rec_of
  rows = tabled_view P (holder_of (role_of w)) (λ e. e.lists (role_of w)) ∙ ap (λ (f : (m : List ℕ) → List ℕ). map (λ p. (nm p, f (row p))) (P.tab (holder_of (role_of w))).order) (λ i m. seen w m i)

  module _ (c : ℕ) (lc : Live P (container_at w c)) where
    same_place : (q : ℕ) → In ℕ_discrete q (P.tab (holder_of (role_of w))).order → nm q ≡ nm c → q ≡ c
    unfolding alive
    same_place q i e = ap (λ (a : Thing). a.1) (num_inj P S.linked.tabs (container_at w q) (container_at w c) refl i lc e)

    -- the list of c changed by f or by g, where they agree on it
    changed : (f g : List ℕ → List ℕ) → f (row c) ≡ g (row c) → change (nm c) f (lists_in w (view P)) ≡ change (nm c) g (lists_in w (view P))
    changed f g e = ap (change (nm c) f) rows ∙ change_on nm row (nm c) f g (P.tab (holder_of (role_of w))).order (λ q i p. subst (λ (r : ℕ). f (row r) ≡ g (row r)) (sym (same_place q i p)) e) ∙ ap (change (nm c) g) (sym rows)

    -- every list changed by g, which leaves the others as they are
    changed_all : (f g : List ℕ → List ℕ) → f (row c) ≡ g (row c) → ((q : ℕ) → q ≢ c → g (row q) ≡ row q) → change (nm c) f (lists_in w (view P)) ≡ change_all (λ _. g) (lists_in w (view P))
    changed_all f g e h =
        ap (change (nm c) f) rows
        ∙ change_one nm row (λ q. g (row q)) f c (P.tab (holder_of (role_of w))).order same_place (sym e) (λ q i n. h q n)
        ∙ sym (change_tabled nm row (λ _. g) (P.tab (holder_of (role_of w))).order)
        ∙ ap (change_all (λ _. g)) (sym rows)

    -- a member m of c's list: where its number stands
    module _ (m : ℕ) (at : P.own (member_at w m) (fam (role_of w)) ≡ some (place_list_at w c)) where
      L : Link P (member_at w m) (fam (role_of w)) (place_list_at w c)
      L = S.linked.link (member_at w m) (fam (role_of w)) (place_list_at w c) at

      in_row : (q : ℕ) → count ℕ_discrete (num P (member_at w m)) (row q) ≡ tick (Con-dec (place_list_at w c) (place_list_at w q))
      unfolding owns
      in_row q =
          count_nums S.linked (member_at w m) (P.list (container_at w q) (role_of w)) L.live
          (λ x i. let M : Link P x (fam (role_of w)) (place_list_at w q) = S.linked.link x (fam (role_of w)) (place_list_at w q) (listed S.linked x (container_at w q) (role_of w) i) in (M.node, M.live))
          ∙ S.linked.held (role_of w) (container_at w q) (member_at w m)
          ∙ ap (λ (o : Option Con). owns o (place_list_at w q)) at

      there : In ℕ_discrete (num P (member_at w m)) (row c)
      there = omega (arith, in_row c, tick_yes (Con-dec (place_list_at w c) (place_list_at w c)) refl)

      elsewhere : (q : ℕ) → q ≢ c → count ℕ_discrete (num P (member_at w m)) (row q) ≡ 0
      elsewhere q n = in_row q ∙ tick_no (Con-dec (place_list_at w c) (place_list_at w q)) (λ e. n (sym (ap (λ (d : Con). d.1.1) e)))

      index : position ℕ_discrete (num P (member_at w m)) (row c) ≡ position Thing-dec (member_at w m) (P.list (container_at w c) (role_of w))
      index = position_map Thing-dec (num P) (member_at w m) (P.list (container_at w c) (role_of w)) (listed_inj S.linked (place_list_at w c) (member_at w m) at)

-- the container of a live member, by number
pub container_num : {P : State} (S : Sound P) (w : Member) (m n : ℕ) → Live P (member_at w m) → container w (hist n (view P)) (num P (member_at w m)) ≡ num_opt P (outer (P.own (member_at w m) (fam (role_of w))))
unfolding container up
container_num S operation m n l = block_at_num S n m l
container_num S block m n l = region_at_num S n m l

-- ---- the edits

module _ {P : State} (S : Sound P) (w : Member) (c x : ℕ) where
  abbrev X : Thing
  X = member_at w x

  abbrev C : Con
  C = place_list_at w c

  abbrev nx : ℕ
  nx = num P X

  abbrev nc : ℕ
  nc = num P (container_at w c)

  pub linked_sound : (i : ℕ) → CanEnter P C X → Sound (enter C i X P)
  linked_sound i E = link_sound S C X (easy w) (seen w) i E

  pub unlinked_sound : P.own X (fam (role_of w)) ≡ some C → Sound (leave C X P)
  unlinked_sound at = unlink_sound S C X (easy w) (seen w) at

  linked_view : (i : ℕ) → CanEnter P C X → view (enter C i X P) ≡ relinked w nc (seq_insert_at i nx) nx (some (role_of w, nc)) (view P)
  unfolding relinked n_enter
  linked_view i E = link_view S C X (easy w) (seen w) i E

  unlinked_view : P.own X (fam (role_of w)) ≡ some C → view (leave C X P) ≡ relinked w nc (without ℕ_discrete nx) nx none (view P)
  unfolding relinked n_leave
  unlinked_view at = unlink_view S C X (easy w) (seen w) at

  module _ (i : ℕ) (E : CanEnter P C X) (e : Edit) where
    -- the edit puts x into c, and the lists after it are those with x at index i of c's
    entered : births e ≡ zeros → new_flags e ≡ [] → new_types e ≡ [] → ((n : ℕ) → carry_out e (hist n (view P)) ≡ put_in w nx (some nc) (hist n (view P)))
        → (F : Table (List ℕ) → Table (List ℕ)) → ((h k : History) → reorder e h k (orders_of (view P)) ≡ stepped w F (view P)) → change nc (seq_insert_at i nx) (lists_in w (view P)) ≡ F (lists_in w (view P))
        → meaning (enter C i X P) ≡ accept e (meaning P)
    unfolding enter relink set_own set_list
    entered b f t history F orders table =
        accept_kept (linked_sound i E) e
        record {
          tables = refl;
          tags = refl;
          no_births = b;
          no_flags = f;
          no_types = t;
          history = λ n. history n ∙ sym (ap (hist n) (linked_view i E) ∙ relinked_history w nc (seq_insert_at i nx) nx (some (role_of w, nc)) (view P) n);
          orders = λ n. orders (hist n (view P)) (hist n (view (enter C i X P))) ∙ sym (ap orders_of (linked_view i E) ∙ relinked_orders w nc (seq_insert_at i nx) nx (some (role_of w, nc)) (view P) ∙ ap (λ (t : Table (List ℕ)). with_lists w t (orders_of (view P))) table);
        }

  -- 23 and 28, 24 and 29
  pub front_accept : CanEnter P C X → meaning (enter C 0 X P) ≡ accept (link_front w nx nc) (meaning P)
  unfolding births new_flags new_types carry_out
  front_accept E = entered 0 E (link_front w nx nc) refl refl refl (λ n. refl) (change nc (λ xs. nx ∷ xs)) (λ h k. front_orders w nx nc h k (view P)) refl

  pub back_accept : (i : ℕ) → CanEnter P C X → length (P.list (container_at w c) (role_of w)) ≤ i → meaning (enter C i X P) ≡ accept (link_back w nx nc) (meaning P)
  unfolding births new_flags new_types carry_out
  back_accept i E h =
      entered i E (link_back w nx nc) refl refl refl (λ n. refl) (change nc (λ xs. xs ++ (nx ∷ []))) (λ h k. back_orders w nx nc h k (view P))
      (changed S w c E.home (seq_insert_at i nx) (λ xs. xs ++ (nx ∷ [])) (insert_last i nx (row S w c) (omega (arith, h, length-map (P.list (container_at w c) (role_of w)) (num P)))))

  -- 21, 22, 26, 27: the container is the mark's
  module _ (m : ℕ) (at : P.own (member_at w m) (fam (role_of w)) ≡ some C) where
    abbrev mark : ℕ
    mark = num P (member_at w m)

    abbrev i : ℕ
    i = position Thing-dec (member_at w m) (P.list (container_at w c) (role_of w))

    pub mark_container : (n : ℕ) → container w (hist n (view P)) mark ≡ some nc
    mark_container n = container_num S w m n (S.linked.link (member_at w m) (fam (role_of w)) C at).live ∙ ap (λ (o : Option Con). num_opt P (outer o)) at

    pub after_accept : CanEnter P C X → meaning (enter C (suc i) X P) ≡ accept (link_after w nx mark) (meaning P)
    unfolding births new_flags new_types carry_out
    after_accept E =
        entered (suc i) E (link_after w nx mark) refl refl refl (λ n. ap (λ (o : Option ℕ). put_in w nx o (hist n (view P))) (mark_container n)) (change_all (λ _. put_after mark nx)) (λ h k. after_orders w nx mark h k (view P))
        (changed_all S w c E.home (seq_insert_at (suc i) nx) (put_after mark nx)
        (ap (λ (j : ℕ). seq_insert_at (suc j) nx (row S w c)) (sym (index S w c E.home m at)) ∙ sym (after_index mark nx (row S w c) (there S w c E.home m at)))
        (λ q n. after_none mark nx (row S w q) (elsewhere S w c E.home m at q n)))

    pub before_accept : CanEnter P C X → meaning (enter C i X P) ≡ accept (link_before w nx mark) (meaning P)
    unfolding births new_flags new_types carry_out
    before_accept E =
        entered i E (link_before w nx mark) refl refl refl (λ n. ap (λ (o : Option ℕ). put_in w nx o (hist n (view P))) (mark_container n)) (change_all (λ _. put_before mark nx)) (λ h k. before_orders w nx mark h k (view P))
        (changed_all S w c E.home (seq_insert_at i nx) (put_before mark nx)
        (ap (λ (j : ℕ). seq_insert_at j nx (row S w c)) (sym (index S w c E.home m at)) ∙ sym (before_index mark nx (row S w c) (there S w c E.home m at)))
        (λ q n. before_none mark nx (row S w q) (elsewhere S w c E.home m at q n)))

  -- 25 and 30
  pub unlink_accept : P.own X (fam (role_of w)) ≡ some C → meaning (leave C X P) ≡ accept (unlink w nx) (meaning P)
  unfolding births new_flags new_types carry_out leave relink set_own set_list
  unlink_accept at =
      let L : Link P X (fam (role_of w)) C = S.linked.link X (fam (role_of w)) C at in
      accept_kept (unlinked_sound at) (unlink w nx)
      record {
        tables = refl;
        tags = refl;
        no_births = refl;
        no_flags = refl;
        no_types = refl;
        history = λ n. sym (ap (hist n) (unlinked_view at) ∙ relinked_history w nc (without ℕ_discrete nx) nx none (view P) n);
        orders = λ n. unlink_orders w nx (hist n (view P)) (hist n (view (leave C X P))) (view P) ∙ sym (ap orders_of (unlinked_view at) ∙ relinked_orders w nc (without ℕ_discrete nx) nx none (view P) ∙ ap (λ (t : Table (List ℕ)). with_lists w t (orders_of (view P)))
            (changed_all S w c L.home (without ℕ_discrete nx) (R.without nx) (sym (without_rules nx (row S w c)))
            (λ q n. without_rules nx (row S w q) ∙ without_none ℕ_discrete nx (row S w q) (elsewhere S w c L.home x at q n))));
      }
