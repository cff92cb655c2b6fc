-- A use is born, ends, or moves: by places as the rules say it, for operands and successors at once. Assumes nothing.
use mathlib.Core.Path.{◌≡◌, refl, sym, ap, ap₂, ◌∙◌}
use mathlib.Core.Logic.{ite, if_pos}
use mathlib.Core.List.{List, [], ◌∷◌, ◌++◌, map}
use mathlib.Core.Option.{some}
use native.Mathlib.Decide.{ℕ_discrete}
use native.Mathlib.Omega.{arith}
use Prim.Native.Nat.{ℕ, zero, suc, ◌+◌, ◌<◌}
use lib.ListN.{length, length-map, length-append}
use Rattle.seqs.specs.Seqs.{upd, seq_insert_at}
use Rattle.places.specs.Store.{Kind, Kind-dec, op, blk, reg, val, usg, Fam, slots, use_sets, fam, holder_of, Thing, Table, State, alive, Live, Fit, Sound, birth, born, enter, relink, set_own, set_list}
use Rattle.places.specs.View.{Rec, Names, num, rec_of, view, amend_in, amend, change_list, set_home, bare, n_birth, n_enter, n_hold}
use Rattle.places.specs.Edits.{birth_use, n_birth_use}
use Rattle.places.specs.Hist.{def_by, tabled, op_of, block_of, use_of, born_of, hist, orders_of, rule_state, meaning}
use Rattle.edit.specs.Record.{Slot, operand, successor, Edit, push_use, insert_use}
use Rattle.rules.specs.Table.{change, insert_at}
use Rattle.rules.specs.History.{plus, Operation, History, births, bear, carry_out, remember, uses_in, defined, change_slot, add_use}
use Rattle.rules.specs.Orders.{order, reorder}
use Rattle.rules.specs.State.{new_flags, new_types, accept}
use Rattle.seqs.proofs.Base.{upd_image, upd_self, map_append}
use Rattle.places.proofs.Entries.{next_new, tabled_amend, tabled_same, change_there}
use Rattle.places.proofs.BirthUse.{birth_use_sound, birth_use_view}
use Rattle.places.specs.Roles.{slot_role, def_kind, def_role}
use Rattle.places.proofs.RuleRefusals.{one_of}
use Rattle.places.proofs.RuleAccept.{Quiet, accept_quiet, ended_of}

pub slot_fits : (sl : Slot) → Fit (slot_role sl) (def_role sl)
slot_fits operand = Fit.operand
slot_fits successor = Fit.successor

pub slot_holder : (sl : Slot) → op ≡ holder_of (slot_role sl)
slot_holder operand = refl
slot_holder successor = refl

pub def_holder : (sl : Slot) → def_kind sl ≡ holder_of (def_role sl)
def_holder operand = refl
def_holder successor = refl

-- ---- entries

pub slot_entry : (sl : Slot) (g : List ℕ → List ℕ) (e : Rec) → op_of (change_list (slot_role sl) g e) ≡ change_slot sl g (op_of e)
unfolding change_slot upd
slot_entry operand g e = refl
slot_entry successor g e = refl

slot_agree : (sl : Slot) (x : Operation) (a b : List ℕ → List ℕ) → a (uses_in sl x) ≡ b (uses_in sl x) → change_slot sl a x ≡ change_slot sl b x
unfolding change_slot uses_in
slot_agree operand x a b h = λ i. record { results = x.results; operands = h i; successors = x.successors; regions = x.regions; block = x.block }
slot_agree successor x a b h = λ i. record { results = x.results; operands = x.operands; successors = h i; regions = x.regions; block = x.block }

pub def_is : (sl : Slot) (n : ℕ) → def_by (def_role sl) n ≡ defined sl n
unfolding defined
def_is operand n = refl
def_is successor n = refl

-- a change of the last record, where no other has its number
last_amend : (f : Rec → Rec) (n : ℕ) (l : List Rec) (e : Rec) → e.num ≡ n → amend_in n f l ≡ l → amend_in n f (l ++ e ∷ []) ≡ l ++ f e ∷ []
last_amend f n l e q new =
    map_append (λ e. ite (ℕ_discrete e.num n) (f e) e) l (e ∷ [])
    ∙ ap₂ {C = List Rec} (λ m x. m ++ x ∷ []) new (if_pos (ℕ_discrete e.num n) q (f e) e)

-- ---- by numbers: a birth

module _ (N : Names) (sl : Slot) (n i d : ℕ) (new : (f : Rec → Rec) → amend_in (N.next usg) f (N.things usg) ≡ N.things usg) where
  abbrev B : Names
  B = n_birth_use (slot_role sl, (op, n)) i (def_role sl, (def_kind sl, d)) N

  abbrev u : ℕ
  u = N.next usg

  pub born_operations : tabled op_of (B.things op) ≡ change n (change_slot sl (seq_insert_at i u)) (tabled op_of (N.things op))
  unfolding n_hold n_enter amend n_birth upd
  born_operations = tabled_amend op_of n (change_list (slot_role sl) (seq_insert_at i u)) (λ e. refl) (change_slot sl (seq_insert_at i u)) (slot_entry sl (seq_insert_at i u)) (N.things op)

  pub born_flags : tabled (λ e. e.tag) (B.things op) ≡ tabled (λ e. e.tag) (N.things op)
  unfolding n_hold n_enter amend n_birth upd
  born_flags = tabled_same (λ e. e.tag) n (change_list (slot_role sl) (seq_insert_at i u)) (λ e. refl) (λ e. refl) (N.things op)

  fam_is : fam (slot_role sl) ≡ slots
  fam_is = elim sl as (λ s. fam (slot_role s) ≡ slots) [ operand ↦ refl | successor ↦ refl ]

  abbrev in_slot : Rec → Rec
  in_slot = set_home slots (some (slot_role sl, n))

  abbrev in_def : Rec → Rec
  in_def = set_home use_sets (some (def_role sl, d))

  pub born_uses : tabled use_of (B.things usg) ≡ tabled use_of (N.things usg) ++ (u, defined sl d) ∷ []
  unfolding n_hold n_enter amend n_birth upd
  born_uses =
      ap (λ (g : Fam). tabled use_of (amend_in u in_def (amend_in u (set_home g (some (slot_role sl, n))) (N.things usg ++ bare u 0 ∷ [])))) fam_is
      ∙ ap (tabled use_of) (ap (amend_in u in_def) (last_amend in_slot u (N.things usg) (bare u 0) refl (new in_slot)) ∙ last_amend in_def u (N.things usg) (in_slot (bare u 0)) refl (new in_def))
      ∙ map_append (λ e. (e.num, use_of e)) (N.things usg) (in_def (in_slot (bare u 0)) ∷ [])
      ∙ ap (λ x. tabled use_of (N.things usg) ++ (u, x) ∷ []) (def_is sl d)

  pub born_rest : orders_of B ≡ orders_of N
  unfolding n_hold n_enter amend n_birth upd orders_of
  born_rest = refl

  pub born_born : born_of B ≡ plus (born_of N) (one_of usg)
  unfolding n_hold n_enter amend n_birth upd plus
  born_born = λ k. record { operations = zero_more (N.next op) k; blocks = zero_more (N.next blk) k; regions = zero_more (N.next reg) k; values = zero_more (N.next val) k; uses = one_more (N.next usg) k }
    where
      zero_more : (a : ℕ) → a ≡ a + 0
      zero_more a = omega arith

      one_more : (a : ℕ) → suc a ≡ a + 1
      one_more a = omega arith

  -- where f puts the new use as insertAt does into the list that is there
  pub born_history : (e : ℕ) (f : ℕ → List ℕ → List ℕ) → change n (change_slot sl (seq_insert_at i u)) (tabled op_of (N.things op)) ≡ change n (change_slot sl (f u)) (tabled op_of (N.things op))
      → hist e B ≡ bear (plus (hist e N).born (one_of usg)) (add_use sl n d f (hist e N))
  unfolding hist bear add_use n_hold n_enter amend n_birth upd
  born_history e f h = λ k. record { operations = (born_operations ∙ h) k; blocks = tabled block_of (N.things blk); uses = born_uses k; born = born_born k; ended = e }

-- ---- list laws

pub insert_is : (i a : ℕ) (l : List ℕ) → seq_insert_at i a l ≡ insert_at i a l
unfolding insert_at
insert_is zero a l = refl
insert_is (suc i) a [] = refl
insert_is (suc i) a (x ∷ l) = ap {B = List ℕ} (λ r. x ∷ r) (insert_is i a l)

pub insert_last : (a : ℕ) (l : List ℕ) → seq_insert_at (length l) a l ≡ l ++ a ∷ []
insert_last a [] = refl
insert_last a (x ∷ l) = ap {B = List ℕ} (λ r. x ∷ r) (insert_last a l)

-- ---- one operation's entry, by its number

module _ {P : State} (S : Sound P) (sl : Slot) (o : ℕ) (lo : Live P (op, o)) where
  abbrev uses : List ℕ
  uses = map (num P) (P.list (op, o) (slot_role sl))

  uses_there : uses_in sl (op_of (rec_of P (op, o))) ≡ uses
  unfolding uses_in rec_of
  uses_there = elim sl as (λ s. uses_in s (op_of (rec_of P (op, o))) ≡ map (num P) (P.list (op, o) (slot_role s))) [ operand ↦ refl | successor ↦ refl ]

  pub slot_change : (a b : List ℕ → List ℕ) → a uses ≡ b uses → change (num P (op, o)) (change_slot sl a) (tabled op_of ((view P).things op)) ≡ change (num P (op, o)) (change_slot sl b) (tabled op_of ((view P).things op))
  slot_change a b h =
      change_there S.linked op op_of o (change_slot sl a) (change_slot sl b) lo (slot_agree sl (op_of (rec_of P (op, o))) a b (ap a uses_there ∙ h ∙ ap b (sym uses_there)))

-- ---- a use is born

-- an edit that gives birth to a use of d in the slot of n, put there by f
pub record Bears (E : Edit) (sl : Slot) (n d : ℕ) (f : ℕ → List ℕ → List ℕ) : Type 0 where
  pub quiet : Quiet E
  pub remembers : (h : History) → remember E h ≡ bear (plus h.born (one_of usg)) (add_use sl n d f h)

pub push_bears : (sl : Slot) (n d : ℕ) → Bears (push_use sl n d) sl n d (λ u xs. xs ++ (u ∷ []))
unfolding remember births carry_out reorder order new_flags new_types
push_bears sl n d = record { quiet = record { orders = λ h k o. refl; flags = refl; types = refl }; remembers = λ h. refl }

pub insert_bears : (sl : Slot) (n i d : ℕ) → Bears (insert_use sl n i d) sl n d (insert_at i)
unfolding remember births carry_out reorder order new_flags new_types
insert_bears sl n i d = record { quiet = record { orders = λ h k o. refl; flags = refl; types = refl }; remembers = λ h. refl }

pub cap_birth : (P : State) (a : Thing) (t : ℕ) (k : Kind) → ((birth a t P).tab k).cap ≡ (P.tab k).cap
unfolding birth
cap_birth P a t k = upd_image Kind-dec (λ _ (u : Table). u.cap) P.tab a.0 (born a.1 (P.tab a.0)) (P.tab a.0).cap refl k ∙ upd_self Kind-dec (λ j. (P.tab j).cap) a.0 (P.tab a.0).cap refl k

module _ {P : State} (S : Sound P) (sl : Slot) (o i d j q : ℕ) (dead : alive P (usg, q) ≡ 0) (room : q < (P.tab usg).cap)
    (lo : Live P (op, o)) (limit : length (P.list (op, o) (slot_role sl)) < 64) (ld : Live P (def_kind sl, d)) where
  abbrev Q : State
  Q = birth_use (slot_role sl, (op, o)) i (def_role sl, (def_kind sl, d)) j q P

  pub born_sound : Sound Q
  born_sound = birth_use_sound S (slot_role sl, (op, o)) i (def_role sl, (def_kind sl, d)) j q (slot_fits sl) dead room (slot_holder sl) lo limit (def_holder sl) ld

  pub born_view : view Q ≡ n_birth_use (slot_role sl, (op, num P (op, o))) i (def_role sl, (def_kind sl, num P (def_kind sl, d))) (view P)
  born_view = birth_use_view S (slot_role sl, (op, o)) i (def_role sl, (def_kind sl, d)) j q (slot_fits sl) dead room (slot_holder sl) lo limit (def_holder sl) ld

  new : (f : Rec → Rec) → amend_in ((view P).next usg) f ((view P).things usg) ≡ (view P).things usg
  new = next_new S.linked usg

  pub born_caps : (k : Kind) → (Q.tab k).cap ≡ (P.tab k).cap
  unfolding enter relink set_own set_list
  born_caps k = cap_birth P (usg, q) 0 k

  pub born_ended : ended_of Q ≡ ended_of P
  unfolding enter relink set_own set_list birth upd
  born_ended = omega (arith, length-append (P.tab usg).order (q ∷ []))

  pub born_types : tabled (λ e. e.tag) ((view Q).things val) ≡ tabled (λ e. e.tag) ((view P).things val)
  unfolding n_hold n_enter amend n_birth upd
  born_types = ap (λ (N : Names). tabled (λ e. e.tag) (N.things val)) born_view

  -- an edit that puts the new use where insertAt i does
  pub born_accept : (E : Edit) (f : ℕ → List ℕ → List ℕ) → Bears E sl (num P (op, o)) (num P (def_kind sl, d)) f → seq_insert_at i (P.tab usg).next (map (num P) (P.list (op, o) (slot_role sl))) ≡ f (P.tab usg).next (map (num P) (P.list (op, o) (slot_role sl)))
      → meaning Q ≡ accept E (meaning P)
  unfolding meaning view
  born_accept E f B h =
      ap (λ (k : ℕ). rule_state k Q) born_ended
      ∙ accept_quiet P born_sound E B.quiet (ended_of P) (ended_of P)
      (ap (hist (ended_of P)) born_view ∙ born_history (view P) sl (num P (op, o)) i (num P (def_kind sl, d)) new (ended_of P) f (slot_change S sl o lo (seq_insert_at i (P.tab usg).next) (f (P.tab usg).next) h) ∙ sym (B.remembers (hist (ended_of P) (view P))))
      (ap (λ (N : Names). tabled (λ e. e.tag) (N.things op)) born_view ∙ born_flags (view P) sl (num P (op, o)) i (num P (def_kind sl, d)) new)
      born_types
      (ap orders_of born_view ∙ born_rest (view P) sl (num P (op, o)) i (num P (def_kind sl, d)) new)
      born_caps

  pub insert_accept : meaning Q ≡ accept (insert_use sl (num P (op, o)) i (num P (def_kind sl, d))) (meaning P)
  insert_accept = born_accept (insert_use sl (num P (op, o)) i (num P (def_kind sl, d))) (insert_at i) (insert_bears sl (num P (op, o)) i (num P (def_kind sl, d))) (insert_is i (P.tab usg).next (map (num P) (P.list (op, o) (slot_role sl))))

  pub push_accept : i ≡ length (P.list (op, o) (slot_role sl)) → meaning Q ≡ accept (push_use sl (num P (op, o)) (num P (def_kind sl, d))) (meaning P)
  push_accept e = born_accept (push_use sl (num P (op, o)) (num P (def_kind sl, d))) (λ u xs. xs ++ (u ∷ [])) (push_bears sl (num P (op, o)) (num P (def_kind sl, d)))
      (ap (λ (k : ℕ). seq_insert_at k (P.tab usg).next (map (num P) (P.list (op, o) (slot_role sl)))) (e ∙ sym (length-map (P.list (op, o) (slot_role sl)) (num P))) ∙ insert_last (P.tab usg).next (map (num P) (P.list (op, o) (slot_role sl))))
