-- Uses that move to another definition: one, and the listed ones, by places as the rules say it. Assumes nothing.
use mathlib.Core.Path.{◌≡◌, refl, sym, ap, ◌∙◌, subst}
use mathlib.Core.Logic.{◌≢◌}
use mathlib.Core.Bool.{Bool, cond}
use mathlib.Core.Option.{some}
use Prim.Native.Nat.{ℕ}
use borrow.Author.Tests.{eq-eqb, ne_eqb}
use Rattle.seqs.specs.Seqs.{upd}
use Rattle.places.specs.Store.{op, blk, reg, val, usg, use_sets, Con, State, Live, Fit, UseHeld, Sound, enter, leave, relink, set_own, set_list}
use Rattle.places.specs.View.{Names, num, view, amend, set_home, n_hold}
use Rattle.places.specs.Edits.{place_move_use}
use Rattle.places.specs.Hist.{tabled, op_of, block_of, use_of, born_of, hist, orders_of, rule_state, meaning}
use Rattle.places.specs.Alias.{RState}
use Rattle.edit.specs.Record.{Slot, Definition, Edit, move_use}
use Rattle.rules.specs.Table.{Table, change}
use Rattle.rules.specs.History.{zeros, plus, births, bear, carry_out, remember, defined, with_uses}
use Rattle.rules.specs.Orders.{order, reorder}
use Rattle.rules.specs.State.{new_flags, new_types, accept}
use Rattle.places.proofs.Steps.{some_inj}
use Rattle.places.proofs.MoveUse.{move_use_sound, move_use_view}
use Rattle.places.specs.Roles.{def_kind, def_role}
use Rattle.places.proofs.Entries.{tabled_amend, plus_zeros}
use Rattle.places.proofs.RuleAccept.{Quiet, accept_quiet, ended_of}
use Rattle.places.proofs.RuleUses.{def_is, def_holder}

-- ---- a store whose uses have other definitions, and else is the same

unfoldable pub rehold : Table Definition → RState → RState
rehold t s = record { history = with_uses s.history t; orders = s.orders; flags = s.flags; types = s.types; capacities = s.capacities }

pub rehold_self : (s : RState) → rehold s.history.uses s ≡ s
unfolding rehold with_uses
rehold_self s = refl

pub rehold_uses : (t : Table Definition) (s : RState) → (rehold t s).history.uses ≡ t
unfolding rehold with_uses
rehold_uses t s = refl

pub rehold_twice : (t t' : Table Definition) (s : RState) → rehold t (rehold t' s) ≡ rehold t s
unfolding rehold with_uses
rehold_twice t t' s = refl

-- what the rules make of an edit that only places uses
pub reheld_accept : (P Q : State) → Sound Q → (E : Edit) → Quiet E → (t : Table Definition) → meaning Q ≡ rehold t (meaning P)
    → remember E (meaning P).history ≡ bear (plus (meaning P).history.born zeros) (with_uses (meaning P).history t) → meaning Q ≡ accept E (meaning P)
unfolding meaning rule_state rehold with_uses bear hist
reheld_accept P Q S E Z t e h =
    accept_quiet P S E Z (ended_of P) (ended_of Q)
    (ap (λ (s : RState). s.history) e ∙ (λ i. record { operations = tabled op_of ((view P).things op); blocks = tabled block_of ((view P).things blk); uses = t; born = sym (plus_zeros (born_of (view P))) i; ended = ended_of P }) ∙ sym h)
    (ap (λ (s : RState). s.flags) e)
    (ap (λ (s : RState). s.types) e)
    (ap (λ (s : RState). s.orders) e)
    (λ j. elim j as (λ k. (Q.tab k).cap ≡ (P.tab k).cap) [
      | op ↦ ap (λ (s : RState). s.capacities.operations) e
      | blk ↦ ap (λ (s : RState). s.capacities.blocks) e
      | reg ↦ ap (λ (s : RState). s.capacities.regions) e
      | val ↦ ap (λ (s : RState). s.capacities.values) e
      | usg ↦ ap (λ (s : RState). s.capacities.uses) e
    ])

-- ---- one use moves

module _ {P : State} (S : Sound P) (sl : Slot) (q a b j : ℕ) (lu : Live P (usg, q)) (held : P.own (usg, q) use_sets ≡ some (def_role sl, (def_kind sl, a))) (lb : Live P (def_kind sl, b)) where
  H : UseHeld (P.own (usg, q))
  H = S.placed (usg, q) lu

  def_here : H.def ≡ (def_role sl, (def_kind sl, a))
  def_here = some_inj (sym H.in_def ∙ held)

  fit : Fit H.slot.0 (def_role sl)
  fit = subst (λ (c : Con). Fit H.slot.0 c.0) def_here H.fit

  abbrev Q : State
  Q = place_move_use (def_role sl, (def_kind sl, a)) (def_role sl, (def_kind sl, b)) j (usg, q) P

  same_state : place_move_use H.def (def_role sl, (def_kind sl, b)) j (usg, q) P ≡ Q
  same_state = ap (λ (c : Con). place_move_use c (def_role sl, (def_kind sl, b)) j (usg, q) P) def_here

  pub moved_sound : Sound Q
  moved_sound = subst (λ (Z : State). Sound Z) same_state (move_use_sound S q lu H (def_role sl, (def_kind sl, b)) j fit (def_holder sl) lb)

  moved_view : view Q ≡ n_hold (def_role sl, (def_kind sl, num P (def_kind sl, b))) (usg, num P (usg, q)) (view P)
  moved_view = ap view (sym same_state) ∙ move_use_view S q lu H (def_role sl, (def_kind sl, b)) j fit (def_holder sl) lb

  abbrev moved_to : Table Definition → Table Definition
  moved_to t = change (num P (usg, q)) (λ _. defined sl (num P (def_kind sl, b))) t

  moved_uses : tabled use_of ((view Q).things usg) ≡ moved_to (tabled use_of ((view P).things usg))
  unfolding n_hold amend upd
  moved_uses =
      ap (λ (N : Names). tabled use_of (N.things usg)) moved_view
      ∙ tabled_amend use_of (num P (usg, q)) (set_home use_sets (some (def_role sl, num P (def_kind sl, b)))) (λ e. refl) (λ _. defined sl (num P (def_kind sl, b))) (λ e. def_is sl (num P (def_kind sl, b))) ((view P).things usg)

  pub moved_meaning : meaning Q ≡ rehold (moved_to (meaning P).history.uses) (meaning P)
  unfolding meaning rule_state rehold with_uses hist enter leave relink set_own set_list n_hold amend upd view orders_of
  moved_meaning =
      λ i.
      record {
        history = record { operations = tabled op_of ((moved_view i).things op); blocks = tabled block_of ((moved_view i).things blk); uses = moved_uses i; born = born_of (view P); ended = ended_of P };
        orders = orders_of (moved_view i);
        flags = tabled (λ e. e.tag) ((moved_view i).things op);
        types = tabled (λ e. e.tag) ((moved_view i).things val);
        capacities = (meaning P).capacities;
      }

  pub move_accept : num P (def_kind sl, a) ≢ num P (def_kind sl, b) → meaning Q ≡ accept (move_use sl (num P (def_kind sl, a)) (num P (usg, q)) (num P (def_kind sl, b))) (meaning P)
  unfolding remember births carry_out reorder order new_flags new_types
  move_accept apart =
      reheld_accept P Q moved_sound (move_use sl (num P (def_kind sl, a)) (num P (usg, q)) (num P (def_kind sl, b))) (record { orders = λ h k r. refl; flags = refl; types = refl }) (moved_to (meaning P).history.uses) moved_meaning
      (ap (λ (t : Bool). bear (plus (meaning P).history.born zeros) (cond t (meaning P).history (with_uses (meaning P).history (moved_to (meaning P).history.uses)))) (ne_eqb (num P (def_kind sl, a)) (num P (def_kind sl, b)) apart))

-- this and other are one: nothing changes
pub stay_accept : {P : State} → Sound P → (sl : Slot) (n u : ℕ) → meaning P ≡ accept (move_use sl n u n) (meaning P)
unfolding remember births carry_out reorder order new_flags new_types with_uses
stay_accept {P} S sl n u =
    reheld_accept P P S (move_use sl n u n) (record { orders = λ h k r. refl; flags = refl; types = refl }) (meaning P).history.uses (sym (rehold_self (meaning P)))
    (ap (λ (t : Bool). bear (plus (meaning P).history.born zeros) (cond t (meaning P).history (with_uses (meaning P).history (change u (λ _. defined sl n) (meaning P).history.uses)))) (eq-eqb n n refl))
