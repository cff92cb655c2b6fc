-- Which steps of the store settle its tables: ends keep the places of all others, births take the lowest free place, and lists do not matter.
-- Assumes nothing.
use mathlib.Core.Path.{◌≡◌, refl, sym, ap, ◌∙◌, subst}
use mathlib.Core.Logic.{◌≢◌, by_cases}
use mathlib.Core.List.{List}
use mathlib.Core.Option.{Option}
use native.Mathlib.Decide.{ℕ_discrete}
use native.Mathlib.Omega.{arith}
use Prim.Native.Nat.{ℕ, ◌<◌}
use Rattle.seqs.specs.Seqs.{upd, tick}
use Rattle.seqs.proofs.Base.{tick_no, tick_yes, upd_at, upd_other}
use Rattle.places.specs.Edits.{birth_use, end_use, place_move_use}
use Rattle.places.specs.Store.{Kind, Kind-dec, usg, Thing, Con, Table, State, alive, Live, born, gone, birth, end, enter, leave, relink, set_own, set_list}
use Rattle.places.specs.Walk.{pick, gone_by, place_cut_by}
use Rattle.places.specs.Settled.{Lowest, Settled, kept, grown, Settles}
use Rattle.places.proofs.Cut.{pick_0, pick_1, sift_all}
use Rattle.places.proofs.Cuts.{without_sift}

-- where nothing ends
none_gone : (t : Table) → gone_by (λ q. 0) t ≡ t
unfolding pick
none_gone t = λ i. record { cap = t.cap; next = t.next; num = t.num; order = sift_all ℕ_discrete (λ q. 0) t.order (λ _ _. refl) i }

settled_same : (t : Table) → Settled t t
settled_same t = subst (Settled t) (none_gone t) (kept (λ q. 0))

-- the tables are those of another store
pub settles_as : {P Q R : State} → Settles P Q → ((k : Kind) → R.tab k ≡ Q.tab k) → Settles P R
settles_as {P} s e = record { table = λ k. subst (Settled (P.tab k)) (sym (e k)) (s.table k) }

pub settles_same : {P Q : State} → ((k : Kind) → Q.tab k ≡ P.tab k) → Settles P Q
settles_same {P} e = record { table = λ k. subst (Settled (P.tab k)) (sym (e k)) (settled_same (P.tab k)) }

pub settles_cut : (p : Thing → ℕ) (P : State) → Settles P (place_cut_by p P)
unfolding place_cut_by
settles_cut p P = record { table = λ k. kept (λ q. p (k, q)) }

-- a thing ends
module _ (q : ℕ) (t : Table) where
  here : ℕ → ℕ
  here r = tick (ℕ_discrete r q)

  gone_one : gone_by here t ≡ gone q t
  unfolding here
  gone_one = λ i. record {
    cap = t.cap;
    next = t.next;
    num = λ r. num_is r i;
    order = sym (without_sift ℕ_discrete q here ticked (λ r n. tick_no (ℕ_discrete r q) n) t.order) i;
  }
    where
      ticked : (r : ℕ) → r ≡ q → 0 < here r
      ticked r e = omega (arith, tick_yes (ℕ_discrete r q) e)

      num_is : (r : ℕ) → pick (here r) (t.num r) 0 ≡ upd ℕ_discrete t.num q 0 r
      num_is r =
          by_cases (ℕ_discrete r q)
          (λ e. pick_1 (here r) (t.num r) 0 (ticked r e) ∙ sym (upd_at ℕ_discrete t.num q 0 e))
          (λ n. pick_0 (here r) (t.num r) 0 (tick_no (ℕ_discrete r q) n) ∙ sym (upd_other ℕ_discrete t.num q 0 n))

pub settles_end : (a : Thing) (P : State) → Settles P (end a P)
unfolding end
settles_end a P = record { table = λ k. by_cases (Kind-dec k a.0) (own k) (other k) }
  where
    T : Kind → Table
    T = upd Kind-dec P.tab a.0 (gone a.1 (P.tab a.0))

    own : (k : Kind) → k ≡ a.0 → Settled (P.tab k) (T k)
    own k e = subst (Settled (P.tab k)) (gone_one a.1 (P.tab k) ∙ ap (λ (j : Kind). gone a.1 (P.tab j)) e ∙ sym (upd_at Kind-dec P.tab a.0 (gone a.1 (P.tab a.0)) e)) (kept (here a.1 (P.tab k)))

    other : (k : Kind) → k ≢ a.0 → Settled (P.tab k) (T k)
    other k n = subst (Settled (P.tab k)) (sym (upd_other Kind-dec P.tab a.0 (gone a.1 (P.tab a.0)) n)) (settled_same (P.tab k))

-- a thing is born
pub settles_birth : {P Q : State} (a : Thing) (t : ℕ) → Settles P Q → Lowest (Q.tab a.0).order a.1 → Settles P (birth a t Q)
unfolding birth
settles_birth {P} {Q} a t s low = record { table = λ k. by_cases (Kind-dec k a.0) (own k) (other k) }
  where
    T : Kind → Table
    T = upd Kind-dec Q.tab a.0 (born a.1 (Q.tab a.0))

    own : (k : Kind) → k ≡ a.0 → Settled (P.tab k) (T k)
    own k e = subst (λ (j : Kind). Settled (P.tab j) (T j)) (sym e) (subst (Settled (P.tab a.0)) (sym (upd_at Kind-dec Q.tab a.0 (born a.1 (Q.tab a.0)) refl)) (grown a.1 low (s.table a.0)))

    other : (k : Kind) → k ≢ a.0 → Settled (P.tab k) (T k)
    other k n = subst (Settled (P.tab k)) (sym (upd_other Kind-dec Q.tab a.0 (born a.1 (Q.tab a.0)) n)) (s.table k)

-- a place that nothing lives at, below which something lives at each
pub lowest_free : (P : State) (k : Kind) (q : ℕ) → alive P (k, q) ≡ 0 → ((p : ℕ) → p < q → Live P (k, p)) → Lowest (P.tab k).order q
unfolding alive
lowest_free P k q free least = record { free = free; least = least }

-- ---- lists have no part in it

pub settles_relink : {P Q : State} (c : Con) (l : List Thing) (x : Thing) (o : Option Con) → Settles P Q → Settles P (relink c l x o Q)
unfolding relink set_own set_list
settles_relink c l x o s = settles_as s (λ k. refl)

pub settles_enter : {P Q : State} (c : Con) (i : ℕ) (x : Thing) → Settles P Q → Settles P (enter c i x Q)
unfolding enter relink set_own set_list
settles_enter c i x s = settles_as s (λ k. refl)

pub settles_leave : {P Q : State} (c : Con) (x : Thing) → Settles P Q → Settles P (leave c x Q)
unfolding leave relink set_own set_list
settles_leave c x s = settles_as s (λ k. refl)

-- what leaves a list and ends
pub settles_finish : (c : Con) (x : Thing) (P : State) → Settles P (end x (leave c x P))
unfolding leave relink set_own set_list end
settles_finish c x P = record { table = λ k. (settles_end x P).table k }

-- ---- uses

pub settles_birth_use : {P Q : State} (slot : Con) (i : ℕ) (def : Con) (j q : ℕ) → Settles P Q → Lowest (Q.tab usg).order q → Settles P (birth_use slot i def j q Q)
settles_birth_use {P} {Q} slot i def j q s low = settles_enter def j (usg, q) (settles_enter slot i (usg, q) (settles_birth (usg, q) 0 s low))

pub settles_end_use : (slot def : Con) (u : Thing) (P : State) → Settles P (end_use slot def u P)
unfolding leave relink set_own set_list end
settles_end_use slot def u P = record { table = λ k. (settles_end u P).table k }

-- a move changes no table
pub tables_move : (def def' : Con) (j : ℕ) (u : Thing) (P : State) (k : Kind) → (place_move_use def def' j u P).tab k ≡ P.tab k
unfolding enter leave relink set_own set_list
tables_move def def' j u P k = refl
