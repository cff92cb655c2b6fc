-- The primitives of things with one family, for every role at once: results, arguments, regions, operations in blocks, blocks in regions. Assumes nothing.
use mathlib.Core.Path.{◌≡◌, refl, sym, ap, ◌∙◌}
use mathlib.Core.Logic.{◌≢◌}
use mathlib.Core.List.{List, []}
use mathlib.Core.Option.{Option, none, some}
use native.Mathlib.Omega.{arith}
use native.Mathlib.Decide.{ℕ_discrete}
use Rattle.seqs.specs.Seqs.{without}
use Prim.Native.Nat.{ℕ, ◌<◌}
use lib.ListN.{length}
use Rattle.places.specs.Store.{Kind, op, blk, reg, val, usg, Role, operands, successors, value_uses, block_uses, results, arguments, regions, ops, blocks, Fam, slots, vals, regs, ops_in, blocks_in, fam, node_of, holder_of, Limited, Thing, Con, State, Live, Link, up, Linked, Placed, Sound, birth, end, enter, leave, relink, set_own, set_list}
use Rattle.places.specs.View.{change_list, shown, num, named, named_c, view, amend, set_home, n_birth, n_end, n_enter, n_leave}
use Rattle.places.specs.May.{Fresh, Bare, CanEnter}
use Rattle.places.proofs.Steps.{birth_linked, end_linked, enter_ok, leave_ok, alive_born, alive_birth, live_birth, alive_end, alive_ended, alive_enter, alive_leave, own_entered, own_enter_other, own_leave_other, dead_clear, dead_bare, some_none}
use Rattle.places.proofs.Sees.{see_birth, num_new, num_old, not_new, see_end, see_enter, see_leave, end_amend}
use Rattle.places.proofs.Placing.{placed_but}

-- ---- in and out of a list that need not hold the thing: operations and blocks

module _ {P : State} (S : Sound P) (c : Con) (x : Thing) (easy : (h : Fam → Option Con) → Placed x.0 h) (seen : (m : List ℕ) → shown c.0 m ≡ m) where
  pub link_sound : (i : ℕ) → CanEnter P c x → Sound (enter c i x P)
  link_sound i E =
      record {
        linked = enter_ok S.linked c i x E;
        placed = placed_but (enter c i x P) x S (λ y n h. omega (arith, alive_enter P c x i y)) (λ y n. own_enter_other P c x i y n) (λ h. easy ((enter c i x P).own x));
      }

  pub link_view : (i : ℕ) → CanEnter P c x → view (enter c i x P) ≡ n_enter (named_c P c) i (named P x) (view P)
  link_view i E = see_enter S.linked c x i E seen

  pub unlink_sound : P.own x (fam c.0) ≡ some c → Sound (leave c x P)
  unlink_sound at =
      record {
        linked = leave_ok S.linked c x at;
        placed = placed_but (leave c x P) x S (λ y n h. omega (arith, alive_leave P c x y)) (λ y n. own_leave_other P c x y n) (λ h. easy ((leave c x P).own x));
      }

  pub unlink_view : P.own x (fam c.0) ≡ some c → view (leave c x P) ≡ n_leave (named_c P c) (named P x) (view P)
  unlink_view at = see_leave S.linked c x at seen

-- ---- births and ends of things that need no list: operations and blocks

module _ {P : State} (S : Sound P) (a : Thing) (easy : (h : Fam → Option Con) → Placed a.0 h) where
  pub bear_sound : (t : ℕ) → Fresh P a t → Sound (birth a t P)
  unfolding birth
  bear_sound t F =
      record {
        linked = birth_linked S.linked a t F;
        placed = placed_but (birth a t P) a S (λ y n h. omega (arith, alive_birth P a t y n)) (λ y n. refl) (λ h. easy (P.own a));
      }

  pub finish_sound : Bare P a → Sound (end a P)
  unfolding end
  finish_sound B =
      record {
        linked = end_linked S.linked a B;
        placed = placed_but (end a P) a S (λ y n h. omega (arith, alive_end P a y n)) (λ y n. refl) (λ h. absurd (omega (arith, alive_ended P a)));
      }

-- ---- a birth into a list, and an end out of it: regions and values

module _ {P : State} (S : Sound P) (c : Con) (q : ℕ) (placed : (h : Fam → Option Con) → h (fam c.0) ≡ some c → Placed (node_of c.0) h) (seen : (m : List ℕ) → shown c.0 m ≡ m) where
  abbrev x : Thing
  x = (node_of c.0, q)

  module _ (i t : ℕ) (fresh : Fresh P x t) (kind : c.1.0 ≡ holder_of c.0) (live : Live P c.1) (limit : Limited c.0 → length (P.list c.1 c.0) < 64) where
    abbrev P₁ : State
    P₁ = birth x t P

    L₁ : Linked P₁
    L₁ = birth_linked S.linked x t fresh

    E : CanEnter P₁ c x
    unfolding birth up
    E = record { free = (dead_bare S.linked x fresh.dead).alone (fam c.0); node = refl; holder = kind; live = omega (arith, alive_born P x t); home = live_birth P x t c.1 live; limit = limit; clear = λ e. dead_clear S.linked x fresh.dead (S.linked.ends c.1) live }

    pub bear_in_sound : Sound (enter c i x (birth x t P))
    unfolding birth
    bear_in_sound =
        record {
          linked = enter_ok L₁ c i x E;
          placed =
              placed_but (enter c i x P₁) x S
              (λ y n h. omega (arith, alive_enter P₁ c x i y, alive_birth P x t y n))
              (λ y n. own_enter_other P₁ c x i y n)
              (λ h. placed ((enter c i x P₁).own x) (own_entered P₁ c x i));
        }

    pub bear_in_view : view (enter c i x (birth x t P)) ≡ n_enter (named_c P c) i (x.0, (view P).next x.0) (n_birth x.0 t (view P))
    unfolding view
    bear_in_view =
        see_enter L₁ c x i E seen
        ∙ ap (n_enter (named_c P₁ c) i (named P₁ x)) (see_birth P S.linked x t fresh)
        ∙ rw (num_new P S.linked x t fresh, num_old P S.linked x t fresh c.1 (not_new P S.linked x t fresh c.1 live))

  module _ (at : P.own x (fam c.0) ≡ some c) (bare : Bare (leave c x P) x) where
    Lₑ : Linked (leave c x P)
    Lₑ = leave_ok S.linked c x at

    pub finish_in_sound : Sound (end x (leave c x P))
    unfolding end
    finish_in_sound =
        record {
          linked = end_linked Lₑ x bare;
          placed =
              placed_but (end x (leave c x P)) x S
              (λ y n h. omega (arith, alive_end (leave c x P) x y n, alive_leave P c x y))
              (λ y n. own_leave_other P c x y n)
              (λ h. absurd (omega (arith, alive_ended (leave c x P) x)));
        }

    pub finish_in_view : view (end x (leave c x P)) ≡ n_end x.0 (num P x) (amend c.1.0 (num P c.1) (change_list c.0 (without ℕ_discrete (num P x))) (view P))
    unfolding leave relink set_own set_list n_leave
    finish_in_view =
        see_end (leave c x P) Lₑ x (omega (arith, (S.linked.link x (fam c.0) c at).live, alive_leave P c x x)) bare
        ∙ ap (n_end x.0 (num P x)) (see_leave S.linked c x at seen)
        ∙ end_amend x.0 (num P x) (λ e. e) (set_home (fam c.0) none) (λ e. refl) _

-- what a thing of one family is bare by, once it has left that: its lists are empty
fam_k : Kind → Fam
fam_k = elim [ op ↦ ops_in | blk ↦ blocks_in | reg ↦ regs | val ↦ vals | usg ↦ slots ]

one_fam : (r : Role) → node_of r ≢ usg → fam r ≡ fam_k (node_of r)
unfolding fam_k
one_fam operands n = absurd (n refl)
one_fam successors n = absurd (n refl)
one_fam value_uses n = absurd (n refl)
one_fam block_uses n = absurd (n refl)
one_fam results n = refl
one_fam arguments n = refl
one_fam regions n = refl
one_fam ops n = refl
one_fam blocks n = refl

pub left_bare : {P : State} → Linked P → (c : Con) (x : Thing) → x.0 ≡ node_of c.0 → node_of c.0 ≢ usg → P.own x (fam c.0) ≡ none → ((r : Role) → P.list x r ≡ []) → Bare P x
left_bare {P} S c x k n free empty = record { alone = λ f. alone f (P.own x f) refl; empty = empty }
  where
    alone : (f : Fam) (o : Option Con) → P.own x f ≡ o → P.own x f ≡ none
    alone f none e = e
    alone f (some d) e = let L : Link P x f d = S.link x f d e in
        let same : node_of d.0 ≡ node_of c.0 = sym L.node ∙ k in
        absurd (some_none e (rw (sym L.family ∙ one_fam d.0 (λ u. n (sym same ∙ u)) ∙ ap fam_k same ∙ sym (one_fam c.0 n)) free))
