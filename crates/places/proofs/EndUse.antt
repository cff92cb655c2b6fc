-- A use ends. Assumes nothing.
use mathlib.Core.Path.{◌≡◌, refl, sym, ap, ◌∙◌}
use mathlib.Core.Logic.{◌≢◌}
use mathlib.Core.Option.{none, some}
use native.Mathlib.Omega.{arith}
use Rattle.seqs.specs.Seqs.{without}
use Prim.Native.Nat.{ℕ}
use Rattle.places.specs.Store.{Kind, usg, fam, Thing, Thing-dec, Con, State, alive, Live, Link, Linked, UseHeld, Sound, end, leave, relink, set_own, set_list}
use Rattle.places.specs.View.{num, named, named_c, view, amend, set_home, n_end, n_leave}
use Rattle.places.specs.Edits.{end_use, n_end_use}
use Rattle.places.specs.May.{Bare}
use Rattle.places.proofs.Steps.{end_linked, leave_ok, alive_end, alive_ended, alive_leave, own_left, own_leave_fam, own_leave_other, bare_of, list_left, list_leave_other, cap_end, some_none}
use Rattle.places.proofs.Sees.{see_end, num_end, see_leave, unhold, end_amend}
use Rattle.places.proofs.Placing.{Fits, fits, slots≢use_sets, placed_but, use_holds_nothing, use_fams}

module _ {P : State} (S : Sound P) (q : ℕ) (live : Live P (usg, q)) (held : UseHeld (P.own (usg, q))) where
  abbrev u : Thing
  u = (usg, q)

  abbrev slot : Con
  slot = held.slot

  abbrev def : Con
  def = held.def

  F : Fits slot.0 def.0
  F = fits held.fit

  abbrev P₁ : State
  P₁ = leave slot u P

  in_slot : P.own u (fam slot.0) ≡ some slot
  in_slot = rw F.slot held.in_slot

  L₁ : Linked P₁
  L₁ = leave_ok S.linked slot u in_slot

  in_def : P₁.own u (fam def.0) ≡ some def
  in_def = own_leave_fam P slot u (fam def.0) (λ e. slots≢use_sets (sym F.slot ∙ sym e ∙ F.def)) ∙ rw F.def held.in_def

  abbrev P₂ : State
  P₂ = leave def u P₁

  pub L₂ : Linked P₂
  L₂ = leave_ok L₁ def u in_def

  alive₂ : (y : Thing) → alive P₂ y ≡ alive P y
  alive₂ y = alive_leave P₁ def u y ∙ alive_leave P slot u y

  pub bare₂ : Bare P₂ u
  bare₂ =
      bare_of L₂ u
      (λ f c e. let K : Link P₂ u f c = L₂.link u f c e in
      use_fams c.0 K.node
      (λ h. some_none e (own_leave_fam P₁ def u f (λ k. slots≢use_sets (sym h ∙ K.family ∙ k ∙ F.def)) ∙ rw (sym K.family ∙ h ∙ sym F.slot) (own_left P slot u)))
      (λ h. some_none e (rw (sym K.family ∙ h ∙ sym F.def) (own_left P₁ def u))))
      (λ x f c e p. use_holds_nothing c.0 (sym (ap (λ (a : Thing). a.0) p) ∙ (L₂.link x f c e).holder))

  pub end_use_sound : Sound (end_use slot def u P)
  unfolding end
  end_use_sound =
      record {
        linked = end_linked L₂ u bare₂;
        placed =
            placed_but (end_use slot def u P) u S
            (λ y n h. omega (arith, alive_end P₂ u y n, alive₂ y))
            (λ y n. own_leave_other P₁ def u y n ∙ own_leave_other P slot u y n)
            (λ h. absurd (omega (arith, alive_ended P₂ u)));
      }

  pub end_use_view : view (end_use slot def u P) ≡ n_end_use (named_c P slot) (named P u) (view P)
  unfolding leave relink set_own set_list n_leave
  end_use_view =
      see_end P₂ L₂ u (omega (arith, live, alive₂ u)) bare₂
      ∙ ap (n_end usg (num P u)) (unhold L₁ def u in_def F.unseen ∙ ap (amend usg (num P u) (set_home (fam def.0) none)) (see_leave S.linked slot u in_slot F.seen))
      ∙ end_amend usg (num P u) (λ e. e) (set_home (fam def.0) none) (λ e. refl) _
      ∙ end_amend usg (num P u) (λ e. e) (set_home (fam slot.0) none) (λ e. refl) _

  pub end_use_live : (y : Thing) → y ≢ u → Live P y → Live (end_use slot def u P) y
  end_use_live y n h = omega (arith, alive_end P₂ u y n, alive₂ y)

  pub end_use_num : (y : Thing) → y ≢ u → num (end_use slot def u P) y ≡ num P y
  unfolding leave relink set_own set_list
  end_use_num y n = num_end P₂ L₂ u (omega (arith, live, alive₂ u)) bare₂ y n

  pub end_use_cap : (k : Kind) → ((end_use slot def u P).tab k).cap ≡ (P.tab k).cap
  unfolding leave relink set_own set_list
  end_use_cap k = cap_end P₂ u k

  pub end_use_list : (end_use slot def u P).list slot.1 slot.0 ≡ without Thing-dec u (P.list slot.1 slot.0)
  unfolding end
  end_use_list = list_leave_other P₁ def u slot.1 slot.0 (λ e. slots≢use_sets (sym F.slot ∙ ap fam e ∙ F.def)) ∙ list_left P slot u
