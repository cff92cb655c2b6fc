-- A use is taken out of an operation's list and ends, or another takes its place: by places as the rules say it. Assumes nothing.
use mathlib.Core.Path.{◌≡◌, refl, sym, ap, ap₂, ◌∙◌, subst}
use mathlib.Core.Logic.{ite}
use mathlib.Core.Bool.{Bool, true, false, not, cond, ◌||◌}
use mathlib.Core.List.{List, [], ◌∷◌, map}
use mathlib.Core.Option.{some}
use native.Mathlib.Decide.{ℕ_discrete}
use native.Mathlib.Omega.{arith}
use Prim.Native.Nat.{ℕ, zero, suc, ◌+◌, ◌-◌, ◌<◌}
use lib.Dec.{eqb}
use lib.ListN.{length, length-map, get_or}
use Rattle.seqs.specs.Seqs.{upd, tick, count, In, without, without_by, seq_remove_at}
use Rattle.places.specs.Store.{op, blk, val, usg, slots, fam, node_of, Thing, Thing-dec, Con, State, alive, Live, Link, UseHeld, Sound, end, leave, relink, set_own, set_list}
use Rattle.places.specs.View.{Rec, Names, num, named_c, view, amend, change_list, n_end}
use Rattle.places.specs.Edits.{end_use, n_end_use}
use Rattle.places.specs.Hist.{tabled, op_of, block_of, use_of, born_of, hist, orders_of, meaning}
use Rattle.edit.specs.Record.{Slot, operand, successor, Edit, remove_use, pop_use}
use Rattle.rules.specs.Table.{find, change, keep_keys, member, remove_at}
use Rattle.rules.specs.History.{zeros, plus, births, bear, carry_out, remember, slot_of, change_slot, with_operations, end_uses, take_use}
use Rattle.rules.specs.Orders.{order, reorder}
use Rattle.rules.specs.State.{new_flags, new_types, accept}
use Rattle.seqs.proofs.Base.{length_falls, rises_once}
use Rattle.places.proofs.Steps.{some_inj, once, listed}
use Rattle.places.proofs.Extra.{in_at, remove_at_without}
use Rattle.places.proofs.EndUse.{end_use_sound, end_use_view, end_use_cap}
use Rattle.places.proofs.Bits.{bit, bit_eqb, count_nums}
use Rattle.places.specs.Roles.{slot_role}
use Rattle.places.proofs.RuleNames.{slot_list_lem}
use Rattle.places.proofs.Entries.{tabled_amend, tabled_same, plus_zeros}
use Rattle.places.proofs.RuleAccept.{Quiet, accept_quiet, lives_born, ended_of}
use Rattle.places.proofs.RuleUses.{slot_entry, slot_change}

-- ---- list laws

pub remove_is : (i : ℕ) (l : List ℕ) → seq_remove_at i l ≡ remove_at i l
unfolding remove_at
remove_is zero [] = refl
remove_is (suc i) [] = refl
remove_is zero (x ∷ l) = refl
remove_is (suc i) (x ∷ l) = ap {B = List ℕ} (λ r. x ∷ r) (remove_is i l)

pub get_d_map : {A : Type 0} (f : A → ℕ) (l : List A) (i : ℕ) (z : A) → i < length l → get_or (map f l) i 0 ≡ f (get_or l i z)
get_d_map f [] i z h = absurd (omega arith)
get_d_map f (y ∷ l) zero z h = refl
get_d_map f (y ∷ l) (suc i) z h = get_d_map f l i z (omega arith)

-- the records without n are the entries that are kept
pub tabled_drop : {A : Type 0} (p : Rec → A) (n : ℕ) (l : List Rec) → tabled p (without_by ℕ_discrete (λ e. e.num) n l) ≡ keep_keys (λ v. not (member v (n ∷ []))) (tabled p l)
unfolding keep_keys member tick
tabled_drop p n [] = refl
tabled_drop {A} p n (e ∷ l) = go (ℕ_discrete e.num n) (eqb n e.num) (turned (ℕ_discrete e.num n) (ℕ_discrete n e.num) ∙ sym (bit_eqb n e.num)) (tabled_drop p n l)
  where
    W : List Rec
    W = without_by ℕ_discrete (λ e. e.num) n l

    K : List (ℕ × A)
    K = keep_keys (λ v. not (member v (n ∷ []))) (tabled p l)

    turned : (w : Dec (e.num ≡ n)) (v : Dec (n ≡ e.num)) → tick w ≡ tick v
    turned (yes a) (yes b) = refl
    turned (yes a) (no b) = absurd (b (sym a))
    turned (no a) (yes b) = absurd (a (sym b))
    turned (no a) (no b) = refl

    go : (w : Dec (e.num ≡ n)) (b : Bool) → tick w ≡ bit b → tabled p W ≡ K → tabled p (ite w W (e ∷ W)) ≡ cond (not (b || false)) ((e.num, p e) ∷ K) K
    go (yes q) true h ih = ih
    go (yes q) false h ih = absurd (omega arith)
    go (no q) true h ih = absurd (omega arith)
    go (no q) false h ih = ap {B = List (ℕ × A)} (λ r. (e.num, p e) ∷ r) ih

-- ---- by numbers

module _ (N : Names) (sl : Slot) (n u : ℕ) where
  abbrev E : Names
  E = n_end_use (slot_role sl, (op, n)) (usg, u) N

  pub ended_operations : tabled op_of (E.things op) ≡ change n (change_slot sl (without ℕ_discrete u)) (tabled op_of (N.things op))
  unfolding n_end amend upd
  ended_operations = tabled_amend op_of n (change_list (slot_role sl) (without ℕ_discrete u)) (λ e. refl) (change_slot sl (without ℕ_discrete u)) (slot_entry sl (without ℕ_discrete u)) (N.things op)

  pub ended_flags : tabled (λ e. e.tag) (E.things op) ≡ tabled (λ e. e.tag) (N.things op)
  unfolding n_end amend upd
  ended_flags = tabled_same (λ e. e.tag) n (change_list (slot_role sl) (without ℕ_discrete u)) (λ e. refl) (λ e. refl) (N.things op)

  pub ended_uses : tabled use_of (E.things usg) ≡ keep_keys (λ v. not (member v (u ∷ []))) (tabled use_of (N.things usg))
  unfolding n_end amend upd
  ended_uses = tabled_drop use_of u (N.things usg)

  pub ended_rest : orders_of E ≡ orders_of N
  unfolding n_end amend upd orders_of
  ended_rest = refl

  pub ended_types : tabled (λ e. e.tag) (E.things val) ≡ tabled (λ e. e.tag) (N.things val)
  unfolding n_end amend upd
  ended_types = refl

  none_born : born_of E ≡ plus (born_of N) zeros
  unfolding n_end amend
  none_born = sym (plus_zeros (born_of N))

  ended_history : (e i : ℕ) → get_or (slot_of sl (find (hist e N).operations n)) i 0 ≡ u → change n (change_slot sl (without ℕ_discrete u)) (tabled op_of (N.things op)) ≡ change n (change_slot sl (remove_at i)) (tabled op_of (N.things op))
      → hist (e + 1) E ≡ bear (plus (hist e N).born zeros) (take_use sl n i (hist e N))
  unfolding hist bear take_use end_uses with_operations n_end amend upd
  ended_history e i at h = λ k. record { operations = (ended_operations ∙ h) k; blocks = tabled block_of (N.things blk); uses = (ended_uses ∙ ap (λ (w : ℕ). keep_keys (λ v. not (member v (w ∷ []))) (tabled use_of (N.things usg))) (sym at)) k; born = none_born k; ended = e + 1 }

-- ---- by places: the use at index i of a list

module _ {P : State} (S : Sound P) (sl : Slot) (o i q : ℕ) (lo : Live P (op, o)) (inside : i < length (P.list (op, o) (slot_role sl))) (at : get_or (P.list (op, o) (slot_role sl)) i (usg, 0) ≡ (usg, q)) where
  abbrev L : List Thing
  L = P.list (op, o) (slot_role sl)

  abbrev slot : Con
  slot = (slot_role sl, (op, o))

  slot_fam : fam (slot_role sl) ≡ slots
  slot_fam = elim sl as (λ s. fam (slot_role s) ≡ slots) [ operand ↦ refl | successor ↦ refl ]

  slot_node : node_of (slot_role sl) ≡ usg
  slot_node = elim sl as (λ s. node_of (slot_role s) ≡ usg) [ operand ↦ refl | successor ↦ refl ]

  stands : P.own (usg, q) (fam (slot_role sl)) ≡ some slot
  stands = listed S.linked (usg, q) (op, o) (slot_role sl) (subst (λ (y : Thing). In Thing-dec y L) at (in_at Thing-dec L i (usg, 0) inside))

  pub at_live : Live P (usg, q)
  at_live = (S.linked.link (usg, q) (fam (slot_role sl)) slot stands).live

  pub at_held : UseHeld (P.own (usg, q))
  at_held = S.placed (usg, q) at_live

  pub at_slot : at_held.slot ≡ slot
  at_slot = some_inj (sym at_held.in_slot ∙ ap (P.own (usg, q)) (sym slot_fam) ∙ stands)

  abbrev Q : State
  Q = end_use at_held.slot at_held.def (usg, q) P

  abbrev un : ℕ
  un = num P (usg, q)

  pub at_number : get_or (map (num P) L) i 0 ≡ un
  at_number = get_d_map (num P) L i (usg, 0) inside ∙ ap (num P) at

  pub once_there : count ℕ_discrete un (map (num P) L) ≡ 1
  once_there =
      count_nums S.linked (usg, q) L at_live (λ x j. let M : Link P x (fam (slot_role sl)) slot = S.linked.link x (fam (slot_role sl)) slot (listed S.linked x (op, o) (slot_role sl) j) in (M.node ∙ slot_node, M.live))
      ∙ once S.linked (usg, q) (fam (slot_role sl)) slot stands

  removed : without ℕ_discrete un (map (num P) L) ≡ remove_at i (map (num P) L)
  removed =
      ap (λ (k : ℕ). without ℕ_discrete k (map (num P) L)) (sym at_number)
      ∙ sym (remove_at_without ℕ_discrete (map (num P) L) i 0 (omega (arith, inside, length-map L (num P))) (ap (λ (k : ℕ). count ℕ_discrete k (map (num P) L)) at_number ∙ once_there))
      ∙ remove_is i (map (num P) L)

  pub ended_sound : Sound Q
  ended_sound = end_use_sound S q at_live at_held

  pub ended_view : view Q ≡ n_end_use (slot_role sl, (op, num P (op, o))) (usg, un) (view P)
  ended_view = end_use_view S q at_live at_held ∙ ap (λ (c : Con). n_end_use (named_c P c) (usg, un) (view P)) at_slot

  pub ended_order : ended_of Q ≡ ended_of P + 1
  unfolding leave relink set_own set_list end upd alive
  ended_order = omega (arith, lives_born S.linked usg, length_falls ℕ_discrete q (P.tab usg).order once_live)
    where
      once_live : count ℕ_discrete q (P.tab usg).order ≡ 1
      once_live = rises_once (P.tab usg).num (P.tab usg).order (S.linked.tabs usg).rises q at_live

  -- an edit that takes out the use at index i
  pub take_accept : (E : Edit) → Quiet E → remember E (hist (ended_of P) (view P)) ≡ bear (plus (hist (ended_of P) (view P)).born zeros) (take_use sl (num P (op, o)) i (hist (ended_of P) (view P))) → meaning Q ≡ accept E (meaning P)
  unfolding meaning
  take_accept E Z h =
      accept_quiet P ended_sound E Z (ended_of P) (ended_of Q)
      (ap₂ hist ended_order ended_view ∙ ended_history (view P) sl (num P (op, o)) un (ended_of P) i (ap (λ (l : List ℕ). get_or l i 0) (slot_list_lem S (ended_of P) sl o (num P (op, o)) lo refl) ∙ at_number) (slot_change S sl o lo (without ℕ_discrete un) (remove_at i) removed) ∙ sym h)
      (ap (λ (N : Names). tabled (λ e. e.tag) (N.things op)) ended_view ∙ ended_flags (view P) sl (num P (op, o)) un)
      (ap (λ (N : Names). tabled (λ e. e.tag) (N.things val)) ended_view ∙ ended_types (view P) sl (num P (op, o)) un)
      (ap orders_of ended_view ∙ ended_rest (view P) sl (num P (op, o)) un)
      (end_use_cap S q at_live at_held)

  pub remove_accept : meaning Q ≡ accept (remove_use sl (num P (op, o)) i) (meaning P)
  unfolding remember births carry_out reorder order new_flags new_types
  remove_accept = take_accept (remove_use sl (num P (op, o)) i) (record { orders = λ h k r. refl; flags = refl; types = refl }) refl

  pub pop_accept : i ≡ length (P.list (op, o) (slot_role sl)) - 1 → meaning Q ≡ accept (pop_use sl (num P (op, o))) (meaning P)
  unfolding remember births carry_out reorder order new_flags new_types
  pop_accept last =
      take_accept (pop_use sl (num P (op, o))) (record { orders = λ h k r. refl; flags = refl; types = refl })
      (ap (λ (k : ℕ). bear (plus (hist (ended_of P) (view P)).born zeros) (take_use sl (num P (op, o)) k (hist (ended_of P) (view P)))) (ap (λ (l : List ℕ). length l - 1) (slot_list_lem S (ended_of P) sl o (num P (op, o)) lo refl) ∙ ap (λ (k : ℕ). k - 1) (length-map L (num P)) ∙ sym last))
