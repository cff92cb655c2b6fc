-- A region moves to another operation: the last region takes its gap, and it goes last (or to index i). Assumes nothing.
use mathlib.Core.Path.{◌≡◌, refl, sym, ap, ◌∙◌, subst}
use mathlib.Core.Logic.{◌≢◌, ⊎_elim}
use mathlib.Core.List.{List}
use mathlib.Core.Option.{none, some}
use native.Mathlib.Omega.{arith}
use native.Mathlib.Decide.{ℕ_discrete}
use Prim.Native.Nat.{ℕ, ◌<◌}
use lib.ListN.{length}
use Rattle.places.specs.Store.{Kind, op, reg, regions, regs, Thing, Thing-dec, Con, State, Live, Link, up, Clear, Linked, Placed, Sound, enter, relink, set_own, set_list}
use Rattle.places.specs.View.{change_list, num, named, view, amend, set_home, n_enter}
use Rattle.places.specs.May.{CanEnter}
use Rattle.places.proofs.Steps.{enter_ok, alive_enter, own_entered, own_enter_other}
use Rattle.places.proofs.Sees.{see_enter}
use Rattle.places.proofs.Placing.{placed_but}
use Rattle.seqs.specs.Seqs.{seq_swap_out}
use Rattle.places.proofs.SwapOut.{count_seq_swap_out, length_swap_out, map_swap_out}
use Rattle.places.proofs.Steps.{leave_linked, once, own_kept, alive_relink, clear_kept, up_kept, owners, lists}
use Rattle.places.proofs.Sees.{see_relink, listed_inj}

module _ {P : State} (S : Sound P) (x o o' : Thing) (i : ℕ) (kind : x.0 ≡ reg) (kind' : o'.0 ≡ op) (home' : Live P o') (at : P.own x regs ≡ some (regions, o))
    (other : o' ≢ o) (limit : length (P.list o' regions) < 64) (clear : Clear (up P) x o') where
  abbrev c : Con
  c = (regions, o)

  abbrev l : List Thing
  l = seq_swap_out Thing-dec x (P.list o regions)

  abbrev P₁ : State
  P₁ = relink c l x none P

  L : Link P x regs c
  L = S.linked.link x regs c at

  L₁ : Linked P₁
  L₁ = leave_linked S.linked c l x at (count_seq_swap_out Thing-dec x (P.list o regions) (once S.linked x regs c at)) (λ m. omega (arith, length_swap_out Thing-dec x (P.list o regions), S.linked.short o regions m))

  list₁ : P₁.list o' regions ≡ P.list o' regions
  list₁ = ⊎_elim (λ h. absurd (other h.0)) (λ h. h.1) (lists P c l x none o' regions)

  E : CanEnter P₁ (regions, o') x
  E =
      record {
        free = ⊎_elim (λ h. h.2) (λ h. absurd (h.0 refl refl)) (owners P c l x none x regs);
        node = kind;
        holder = kind';
        live = omega (arith, L.live, alive_relink P c l x none x);
        home = omega (arith, alive_relink P c l x none o');
        limit = λ m. rw list₁ limit;
        clear = λ e. clear_kept x (up_kept P c l x none) clear;
      }

  pub move_region_sound : Sound (enter (regions, o') i x P₁)
  move_region_sound =
      record {
        linked = enter_ok L₁ (regions, o') i x E;
        placed =
            placed_but (enter (regions, o') i x P₁) x S
            (λ y n h. omega (arith, alive_enter P₁ (regions, o') x i y, alive_relink P c l x none y))
            (λ y n. own_enter_other P₁ (regions, o') x i y n ∙ own_kept P c l x none y n)
            (λ h. subst (λ (k : Kind). Placed k ((enter (regions, o') i x P₁).own x)) (sym kind) ((regions, o'), own_entered P₁ (regions, o') x i));
      }

  pub move_region_view : view (enter (regions, o') i x P₁) ≡ n_enter (regions, named P o') i (named P x) (amend x.0 (num P x) (set_home regs none) (amend o.0 (num P o) (change_list regions (seq_swap_out ℕ_discrete (num P x))) (view P)))
  unfolding relink set_own set_list
  move_region_view =
      see_enter L₁ (regions, o') x i E (λ m. refl)
      ∙ ap (n_enter (regions, named P o') i (named P x)) (see_relink S.linked c l x none L.live L.home (seq_swap_out ℕ_discrete (num P x)) (map_swap_out Thing-dec ℕ_discrete (num P) x (P.list o regions) (listed_inj S.linked c x at)))
