-- What each step is by birth numbers. Assumes nothing.
use mathlib.Core.Path.{◌≡◌, refl, sym, ap, ap₂, ◌∙◌, fun_ext}
use mathlib.Core.Logic.{◌≢◌, ◌↔◌, ite, if_pos, if_neg, by_cases}
use mathlib.Core.List.{List, [], ◌∷◌, ◌++◌, map, map-map}
use mathlib.Core.Option.{Option, none, some}
use native.Mathlib.Decide.{ℕ_discrete}
use native.Mathlib.Omega.{arith}
use Prim.Native.Nat.{ℕ, suc}
use Rattle.seqs.specs.Seqs.{upd, seq_insert_at, count, without_by, without, In}
use Rattle.places.specs.Store.{Kind, Role, operands, successors, value_uses, block_uses, results, arguments, regions, ops, blocks, Fam, Kind-dec, Role-dec, Fam-dec, fam, Thing, Thing-dec, Con, Table, State, alive, Live, Tab, Link, Linked, born, gone, birth, end, set_list, set_own, relink, enter, leave}
use Rattle.places.specs.View.{Rec, Names, shown, num, named, named_c, home_by, rec_of, view, amend_in, amend, change_list, set_home, bare, n_birth, n_end, n_enter, n_leave}
use Rattle.seqs.proofs.Base.{count_gone, upd_upd, map_insert_at, upd_at, upd_same, upd_other, upd_image, upd_self, map_on, map_append, map_without_by, rises_inj}
use Rattle.places.specs.May.{CanEnter, Fresh, Bare}
use Rattle.places.proofs.Steps.{node_other, home_other, listed, dead_bare, place_differs, thing_eq}

abbrev Tabs : State → Type 0
Tabs P = (k : Kind) → Tab (P.tab k)

pub names_eq : (M N : Names) → ((k : Kind) → M.next k ≡ N.next k) → ((k : Kind) → M.things k ≡ N.things k) → M ≡ N
names_eq M N p q = λ i. record { next = λ k. p k i; things = λ k. q k i }

-- live things of a kind have different numbers
pub num_inj : (P : State) → Tabs P → (a b : Thing) → a.0 ≡ b.0 → Live P a → Live P b → num P a ≡ num P b → a ≡ b
unfolding alive
num_inj P T a b k ha hb e = thing_eq a b k (rises_inj (P.tab b.0).num (P.tab b.0).order (T b.0).rises a.1 b.1 (rw k at ha) hb (rw k at e))

-- the records of a kind change one by one
things_on : (P Q : State) (k : Kind) → ((p : ℕ) → Live P (k, p) → rec_of Q (k, p) ≡ rec_of P (k, p)) → map (λ p. rec_of Q (k, p)) (P.tab k).order ≡ map (λ p. rec_of P (k, p)) (P.tab k).order
unfolding alive
things_on P Q k h = map_on ℕ_discrete (λ p. rec_of Q (k, p)) (λ p. rec_of P (k, p)) (P.tab k).order h

-- the record of one live thing changes, and no other
module _ (P Q : State) (T : Tabs P) (same : Q.tab ≡ P.tab) (a : Thing) (live : Live P a) (f : Rec → Rec)
    (here : rec_of Q a ≡ f (rec_of P a)) (there : (b : Thing) → b ≢ a → rec_of Q b ≡ rec_of P b) where
  one : (p : ℕ) → Live P (a.0, p) → rec_of Q (a.0, p) ≡ ite (ℕ_discrete (num P (a.0, p)) (num P a)) (f (rec_of P (a.0, p))) (rec_of P (a.0, p))
  one p h =
      by_cases (ℕ_discrete p a.1)
      (λ e. rw (if_pos (ℕ_discrete (num P (a.0, p)) (num P a)) (ap (P.tab a.0).num e) (f (rec_of P (a.0, p))) (rec_of P (a.0, p)), e) here)
      (λ n. rw (if_neg (ℕ_discrete (num P (a.0, p)) (num P a)) (λ e. n (ap (λ (c : Thing). c.1) (num_inj P T (a.0, p) a refl h live e))) (f (rec_of P (a.0, p))) (rec_of P (a.0, p)))
      (there (a.0, p) (λ e. n (ap (λ (c : Thing). c.1) e))))

  amended : (k : Kind) → map (λ p. rec_of Q (k, p)) (P.tab k).order ≡ upd Kind-dec (view P).things a.0 (amend_in (num P a) f ((view P).things a.0)) k
  unfolding view alive rec_of
  amended k =
      by_cases (Kind-dec k a.0)
      (λ e. rw (upd_at Kind-dec (view P).things a.0 (amend_in (num P a) f ((view P).things a.0)) e, e)
      (map_on ℕ_discrete (λ p. rec_of Q (a.0, p)) (λ p. ite (ℕ_discrete (num P (a.0, p)) (num P a)) (f (rec_of P (a.0, p))) (rec_of P (a.0, p))) (P.tab a.0).order one
      ∙ sym (map-map (λ e. ite (ℕ_discrete e.num (num P a)) (f e) e) (λ p. rec_of P (a.0, p)) (P.tab a.0).order)))
      (λ n. rw (upd_other Kind-dec (view P).things a.0 (amend_in (num P a) f ((view P).things a.0)) n) (things_on P Q k (λ p i. there (k, p) (λ e. n (ap (λ (c : Thing). c.0) e)))))

  pub view_amend : view Q ≡ amend a.0 (num P a) f (view P)
  unfolding view amend
  view_amend =
      names_eq (view Q) (amend a.0 (num P a) f (view P))
      (λ k. ap (λ (t : Kind → Table). (t k).next) same)
      (λ k. ap (λ (t : Kind → Table). map (λ p. rec_of Q (k, p)) (t k).order) same ∙ amended k)

-- no record changes
pub view_same : (P Q : State) → Q.tab ≡ P.tab → ((b : Thing) → rec_of Q b ≡ rec_of P b) → view Q ≡ view P
unfolding view
view_same P Q same h =
    names_eq (view Q) (view P)
    (λ k. ap (λ (t : Kind → Table). (t k).next) same)
    (λ k. ap (λ (t : Kind → Table). map (λ p. rec_of Q (k, p)) (t k).order) same ∙ things_on P Q k (λ p i. h (k, p)))

-- a list is set
module _ (P : State) (c : Con) (l : List Thing) where
  list_lists : (g : List ℕ → List ℕ) → shown c.0 (map (num P) l) ≡ g (shown c.0 (map (num P) (P.list c.1 c.0)))
      → (r : Role) → shown r (map (num P) ((set_list c l P).list c.1 r)) ≡ upd Role-dec (λ q. shown q (map (num P) (P.list c.1 q))) c.0 (g (shown c.0 (map (num P) (P.list c.1 c.0)))) r
  unfolding set_list
  list_lists g e r = rw (upd_same Thing-dec P.list c.1 (upd Role-dec (P.list c.1) c.0 l)) (upd_image Role-dec (λ q m. shown q (map (num P) m)) (P.list c.1) c.0 l (g (shown c.0 (map (num P) (P.list c.1 c.0)))) e r)

  list_there : (b : Thing) → b ≢ c.1 → rec_of (set_list c l P) b ≡ rec_of P b
  unfolding rec_of set_list
  list_there b n = rw (upd_other Thing-dec P.list c.1 (upd Role-dec (P.list c.1) c.0 l) n)

  list_here : (g : List ℕ → List ℕ) → shown c.0 (map (num P) l) ≡ g (shown c.0 (map (num P) (P.list c.1 c.0))) → rec_of (set_list c l P) c.1 ≡ change_list c.0 g (rec_of P c.1)
  unfolding rec_of set_list
  list_here g e = λ i. record { num = num P c.1; tag = P.tag c.1; lists = λ r. list_lists g e r i; homes = λ f. home_by (num P) (P.own c.1 f) }

  pub see_list : Tabs P → Live P c.1 → (g : List ℕ → List ℕ) → shown c.0 (map (num P) l) ≡ g (shown c.0 (map (num P) (P.list c.1 c.0)))
      → view (set_list c l P) ≡ amend c.1.0 (num P c.1) (change_list c.0 g) (view P)
  unfolding set_list
  see_list T live g e = view_amend P (set_list c l P) T refl c.1 live (change_list c.0 g) (list_here g e) list_there

  -- where the list is not shown, nothing is to be seen
  pub see_hidden : ((m : List ℕ) → shown c.0 m ≡ []) → view (set_list c l P) ≡ view P
  unfolding set_list rec_of
  see_hidden hid = view_same P (set_list c l P) refl (λ b. by_cases (Thing-dec b c.1) (λ e. rw e here) (λ n. list_there b n))
    where
      e₀ : shown c.0 (map (num P) l) ≡ shown c.0 (map (num P) (P.list c.1 c.0))
      e₀ = hid (map (num P) l) ∙ sym (hid (map (num P) (P.list c.1 c.0)))

      here : rec_of (set_list c l P) c.1 ≡ rec_of P c.1
      here = list_here (λ m. m) e₀ ∙ (λ i. record { num = num P c.1; tag = P.tag c.1; lists = λ r. upd_self Role-dec (λ q. shown q (map (num P) (P.list c.1 q))) c.0 (shown c.0 (map (num P) (P.list c.1 c.0))) refl r i; homes = λ f. home_by (num P) (P.own c.1 f) })

-- an owner is set
module _ (P : State) (x : Thing) (f : Fam) (o : Option Con) where
  own_homes : (g : Fam) → home_by (num P) ((set_own x f o P).own x g) ≡ upd Fam-dec (λ h. home_by (num P) (P.own x h)) f (home_by (num P) o) g
  unfolding set_own
  own_homes g = rw (upd_same Thing-dec P.own x (upd Fam-dec (P.own x) f o)) (upd_image Fam-dec (λ h m. home_by (num P) m) (P.own x) f o (home_by (num P) o) refl g)

  own_here : rec_of (set_own x f o P) x ≡ set_home f (home_by (num P) o) (rec_of P x)
  unfolding rec_of set_own
  own_here = λ i. record { num = num P x; tag = P.tag x; lists = λ r. shown r (map (num P) (P.list x r)); homes = λ g. own_homes g i }

  own_there : (b : Thing) → b ≢ x → rec_of (set_own x f o P) b ≡ rec_of P b
  unfolding rec_of set_own
  own_there b n = rw (upd_other Thing-dec P.own x (upd Fam-dec (P.own x) f o) n)

  pub see_own : Tabs P → Live P x → view (set_own x f o P) ≡ amend x.0 (num P x) (set_home f (home_by (num P) o)) (view P)
  unfolding set_own
  see_own T live = view_amend P (set_own x f o P) T refl x live (set_home f (home_by (num P) o)) own_here own_there

module _ {P : State} (S : Linked P) (c : Con) (l : List Thing) (x : Thing) (o : Option Con) (live : Live P x) where
  pub see_relink : Live P c.1 → (g : List ℕ → List ℕ) → shown c.0 (map (num P) l) ≡ g (shown c.0 (map (num P) (P.list c.1 c.0)))
      → view (relink c l x o P) ≡ amend x.0 (num P x) (set_home (fam c.0) (home_by (num P) o)) (amend c.1.0 (num P c.1) (change_list c.0 g) (view P))
  unfolding relink set_list alive
  see_relink hc g e = see_own (set_list c l P) x (fam c.0) o S.tabs live ∙ ap (amend x.0 (num P x) (set_home (fam c.0) (home_by (num P) o))) (see_list P c l S.tabs hc g e)

  pub see_relink_hidden : ((m : List ℕ) → shown c.0 m ≡ []) → view (relink c l x o P) ≡ amend x.0 (num P x) (set_home (fam c.0) (home_by (num P) o)) (view P)
  unfolding relink set_list alive
  see_relink_hidden hid = see_own (set_list c l P) x (fam c.0) o S.tabs live ∙ ap (amend x.0 (num P x) (set_home (fam c.0) (home_by (num P) o))) (see_hidden P c l hid)

-- ---- births

shown_nil : (r : Role) → shown r [] ≡ []
shown_nil operands = refl
shown_nil successors = refl
shown_nil value_uses = refl
shown_nil block_uses = refl
shown_nil results = refl
shown_nil arguments = refl
shown_nil regions = refl
shown_nil ops = refl
shown_nil blocks = refl

-- where a stands in no list and has none, the others' records do not name it
module _ (P : State) (S : Linked P) (a : Thing) (B : Bare P a) (nm : Thing → ℕ) (old : (b : Thing) → b ≢ a → nm b ≡ num P b) where
  rec_kept : (b : Thing) → b ≢ a → (t : ℕ) → t ≡ P.tag b → record { num = nm b; tag = t; lists = λ r. shown r (map nm (P.list b r)); homes = λ f. home_by nm (P.own b f) } ≡ rec_of P b
  unfolding rec_of
  rec_kept b n t e = λ i. record { num = old b n i; tag = e i; lists = λ r. shown r (lists r i); homes = λ f. homes f (P.own b f) refl i }
    where
      lists : (r : Role) → map nm (P.list b r) ≡ map (num P) (P.list b r)
      lists r = map_on Thing-dec nm (num P) (P.list b r) (λ x i. old x (node_other S a B x (fam r) (r, b) (listed S x b r i)))

      homes : (f : Fam) (o : Option Con) → P.own b f ≡ o → home_by nm o ≡ home_by (num P) o
      homes f none e = refl
      homes f (some c) e = ap (λ (y : ℕ). some (c.0, y)) (old c.1 (home_other S a B b f c e))

module _ (P : State) (S : Linked P) (a : Thing) (t : ℕ) (F : Fresh P a t) where
  abbrev Q : State
  Q = birth a t P

  pub num_new : num Q a ≡ (P.tab a.0).next
  unfolding birth
  num_new = ap (λ (u : Table). u.num a.1) (upd_same Kind-dec P.tab a.0 (born a.1 (P.tab a.0))) ∙ (upd_same ℕ_discrete (P.tab a.0).num a.1 (P.tab a.0).next)

  pub num_old : (b : Thing) → b ≢ a → num Q b ≡ num P b
  unfolding birth
  num_old b n =
      by_cases (Kind-dec b.0 a.0)
      (λ e. ap (λ (u : Table). u.num b.1) (upd_at Kind-dec P.tab a.0 (born a.1 (P.tab a.0)) e) ∙ upd_other ℕ_discrete (P.tab a.0).num a.1 (P.tab a.0).next (place_differs n e) ∙ ap (λ (k : Kind). (P.tab k).num b.1) (sym e))
      (λ m. ap (λ (u : Table). u.num b.1) (upd_other Kind-dec P.tab a.0 (born a.1 (P.tab a.0)) m))

  pub not_new : (b : Thing) → Live P b → b ≢ a
  not_new b h e = absurd (omega (arith, F.dead, ap (alive P) e))

  B : Bare P a
  B = dead_bare S a F.dead

  rec_old : (b : Thing) → b ≢ a → rec_of Q b ≡ rec_of P b
  unfolding birth rec_of
  rec_old b n = rec_kept P S a B (num Q) num_old b n (upd Thing-dec P.tag a t b) (upd_other Thing-dec P.tag a t n)

  rec_new : rec_of Q a ≡ bare (P.tab a.0).next t
  unfolding rec_of birth
  rec_new = λ i. record { num = num_new i; tag = upd_same Thing-dec P.tag a t i; lists = λ r. (ap (λ (m : List Thing). shown r (map (num Q) m)) (B.empty r) ∙ shown_nil r) i; homes = λ f. ap (home_by (num Q)) (B.alone f) i }

  things_at : map (λ p. rec_of Q (a.0, p)) ((P.tab a.0).order ++ a.1 ∷ []) ≡ map (λ p. rec_of P (a.0, p)) (P.tab a.0).order ++ bare (P.tab a.0).next t ∷ []
  things_at =
      map_append (λ p. rec_of Q (a.0, p)) (P.tab a.0).order (a.1 ∷ [])
      ∙ ap₂ {C = List Rec} (λ l r. l ++ r ∷ []) (things_on P Q a.0 (λ p i. rec_old (a.0, p) (not_new (a.0, p) i))) rec_new

  things_birth : (k : Kind) → map (λ p. rec_of Q (k, p)) (Q.tab k).order ≡ upd Kind-dec (view P).things a.0 ((view P).things a.0 ++ bare (P.tab a.0).next t ∷ []) k
  unfolding birth view
  things_birth k =
      by_cases (Kind-dec k a.0)
      (λ e. rw (upd_at Kind-dec P.tab a.0 (born a.1 (P.tab a.0)) e, upd_at Kind-dec (view P).things a.0 ((view P).things a.0 ++ bare (P.tab a.0).next t ∷ []) e, e) things_at)
      (λ n. rw (upd_other Kind-dec P.tab a.0 (born a.1 (P.tab a.0)) n, upd_other Kind-dec (view P).things a.0 ((view P).things a.0 ++ bare (P.tab a.0).next t ∷ []) n)
      (things_on P Q k (λ p i. rec_old (k, p) (not_new (k, p) i))))

  pub see_birth : view Q ≡ n_birth a.0 t (view P)
  unfolding view n_birth birth
  see_birth = names_eq (view Q) (n_birth a.0 t (view P)) (upd_image Kind-dec (λ _ (u : Table). u.next) P.tab a.0 (born a.1 (P.tab a.0)) (suc (P.tab a.0).next) refl) things_birth

-- ---- ends

module _ (P : State) (S : Linked P) (a : Thing) (live : Live P a) (B₁ : Bare P a) where
  abbrev R : State
  R = end a P

  abbrev gone₁ : Table
  gone₁ = gone a.1 (P.tab a.0)

  pub num_end : (b : Thing) → b ≢ a → num R b ≡ num P b
  unfolding end
  num_end b n =
      by_cases (Kind-dec b.0 a.0)
      (λ e. ap (λ (u : Table). u.num b.1) (upd_at Kind-dec P.tab a.0 gone₁ e) ∙ upd_other ℕ_discrete (P.tab a.0).num a.1 0 (place_differs n e) ∙ ap (λ (k : Kind). (P.tab k).num b.1) (sym e))
      (λ m. ap (λ (u : Table). u.num b.1) (upd_other Kind-dec P.tab a.0 gone₁ m))

  rec_end : (b : Thing) → b ≢ a → rec_of R b ≡ rec_of P b
  unfolding rec_of end
  rec_end b n = rec_kept P S a B₁ (num R) num_end b n (upd Thing-dec P.tag a 0 b) (upd_other Thing-dec P.tag a 0 n)

  things_end : (k : Kind) → map (λ p. rec_of R (k, p)) (R.tab k).order ≡ upd Kind-dec (view P).things a.0 (without_by ℕ_discrete (λ e. e.num) (num P a) ((view P).things a.0)) k
  unfolding end rec_of alive view
  things_end k =
      by_cases (Kind-dec k a.0)
      (λ e. rw (upd_at Kind-dec P.tab a.0 gone₁ e, upd_at Kind-dec (view P).things a.0 (without_by ℕ_discrete (λ e. e.num) (num P a) ((view P).things a.0)) e, e)
      (map_on ℕ_discrete (λ p. rec_of R (a.0, p)) (λ p. rec_of P (a.0, p)) (without ℕ_discrete a.1 (P.tab a.0).order)
      (λ p i. rec_end (a.0, p) (λ q. absurd (omega (arith, count_gone ℕ_discrete a.1 (P.tab a.0).order, ap (λ (c : Thing). count ℕ_discrete c.1 (without ℕ_discrete a.1 (P.tab a.0).order)) q))))
      ∙ map_without_by ℕ_discrete ℕ_discrete ℕ_discrete (λ p. rec_of P (a.0, p)) (λ p. p) (λ r. r.num) a.1 (num P a) (P.tab a.0).order
      (λ p i. (λ q. ap (λ (m : ℕ). num P (a.0, m)) q, λ q. ap (λ (c : Thing). c.1) (num_inj P S.tabs (a.0, p) a refl i live q)))))
      (λ n. rw (upd_other Kind-dec P.tab a.0 gone₁ n, upd_other Kind-dec (view P).things a.0 (without_by ℕ_discrete (λ e. e.num) (num P a) ((view P).things a.0)) n)
      (things_on P R k (λ p i. rec_end (k, p) (λ q. n (ap (λ (c : Thing). c.0) q)))))

  next_end : (k : Kind) → (R.tab k).next ≡ (P.tab k).next
  unfolding end
  next_end k = upd_image Kind-dec (λ _ (u : Table). u.next) P.tab a.0 gone₁ (P.tab a.0).next refl k ∙ upd_self Kind-dec (λ j. (P.tab j).next) a.0 (P.tab a.0).next refl k

  pub see_end : view R ≡ n_end a.0 (num P a) (view P)
  unfolding view n_end
  see_end = names_eq (view R) (n_end a.0 (num P a) (view P)) next_end things_end

-- ---- the two steps on lists

module _ {P : State} (S : Linked P) (c : Con) (x : Thing) where
  pub see_enter : (i : ℕ) → CanEnter P c x → ((m : List ℕ) → shown c.0 m ≡ m) → view (enter c i x P) ≡ n_enter (named_c P c) i (named P x) (view P)
  unfolding enter n_enter
  see_enter i E sh =
      see_relink S c (seq_insert_at i x (P.list c.1 c.0)) x (some c) E.live E.home (seq_insert_at i (num P x))
      (sh (map (num P) (seq_insert_at i x (P.list c.1 c.0))) ∙ map_insert_at (num P) i x (P.list c.1 c.0) ∙ ap (seq_insert_at i (num P x)) (sym (sh (map (num P) (P.list c.1 c.0)))))

  pub hold : (i : ℕ) → CanEnter P c x → ((m : List ℕ) → shown c.0 m ≡ []) → view (enter c i x P) ≡ amend x.0 (num P x) (set_home (fam c.0) (some (c.0, num P c.1))) (view P)
  unfolding enter
  hold i E hid = see_relink_hidden S c (seq_insert_at i x (P.list c.1 c.0)) x (some c) E.live hid

  module _ (e : P.own x (fam c.0) ≡ some c) where
    pub listed_inj : (y : Thing) → In Thing-dec y (P.list c.1 c.0) → (y ≡ x) ↔ (num P y ≡ num P x)
    listed_inj y i = let L : Link P y (fam c.0) c = S.link y (fam c.0) c (listed S y c.1 c.0 i) in let M : Link P x (fam c.0) c = S.link x (fam c.0) c e in
        (λ q. ap (num P) q, λ q. num_inj P S.tabs y x (L.node ∙ sym M.node) L.live M.live q)

    pub see_leave : ((m : List ℕ) → shown c.0 m ≡ m) → view (leave c x P) ≡ n_leave (named_c P c) (named P x) (view P)
    unfolding leave n_leave
    see_leave sh = let M : Link P x (fam c.0) c = S.link x (fam c.0) c e in
        see_relink S c (without Thing-dec x (P.list c.1 c.0)) x none M.live M.home (without ℕ_discrete (num P x))
        (sh (map (num P) (without Thing-dec x (P.list c.1 c.0)))
        ∙ map_without_by Thing-dec Thing-dec ℕ_discrete (num P) (λ y. y) (λ y. y) x (num P x) (P.list c.1 c.0) listed_inj
        ∙ ap (without ℕ_discrete (num P x)) (sym (sh (map (num P) (P.list c.1 c.0)))))

    pub unhold : ((m : List ℕ) → shown c.0 m ≡ []) → view (leave c x P) ≡ amend x.0 (num P x) (set_home (fam c.0) none) (view P)
    unfolding leave
    unhold hid = see_relink_hidden S c (without Thing-dec x (P.list c.1 c.0)) x none (S.link x (fam c.0) c e).live hid

-- ---- two changes of one record

module _ (k : Kind) (n : ℕ) (f g : Rec → Rec) (keeps : (e : Rec) → (g e).num ≡ e.num) where
  amend_in_twice : (l : List Rec) → amend_in n f (amend_in n g l) ≡ amend_in n (λ e. f (g e)) l
  amend_in_twice l = map-map (λ e. ite (ℕ_discrete e.num n) (f e) e) (λ e. ite (ℕ_discrete e.num n) (g e) e) l ∙ ap (λ (h : Rec → Rec). map h l) (fun_ext λ e. both e (ℕ_discrete e.num n))
    where
      both : (e : Rec) (w : Dec (e.num ≡ n)) → ite (ℕ_discrete (ite w (g e) e).num n) (f (ite w (g e) e)) (ite w (g e) e) ≡ ite w (f (g e)) e
      both e (yes p) = if_pos (ℕ_discrete (g e).num n) (keeps e ∙ p) (f (g e)) (g e)
      both e (no m) = if_neg (ℕ_discrete e.num n) m (f e) e

  amend_twice : (N : Names) → amend k n f (amend k n g N) ≡ amend k n (λ e. f (g e)) N
  unfolding amend
  amend_twice N =
      names_eq (amend k n f (amend k n g N)) (amend k n (λ e. f (g e)) N) (λ j. refl)
      (λ j. upd_upd Kind-dec N.things k (amend_in n g (N.things k)) (amend_in n f ((amend k n g N).things k)) j
      ∙ ap (λ (l : List Rec). upd Kind-dec N.things k l j) (ap (amend_in n f) (upd_same Kind-dec N.things k (amend_in n g (N.things k))) ∙ amend_in_twice (N.things k)))

  without_by_amend : (l : List Rec) → without_by ℕ_discrete (λ e. e.num) n (amend_in n g l) ≡ without_by ℕ_discrete (λ e. e.num) n l
  without_by_amend [] = refl
  without_by_amend (e ∷ l) = go (without_by_amend l) (ℕ_discrete e.num n)
    where
      W : List Rec → List Rec
      W = without_by ℕ_discrete (λ e. e.num) n

      go : W (amend_in n g l) ≡ W l → (w : Dec (e.num ≡ n)) → W (ite w (g e) e ∷ amend_in n g l) ≡ ite w (W l) (e ∷ W l)
      go ih (yes p) = if_pos (ℕ_discrete (g e).num n) (keeps e ∙ p) (W (amend_in n g l)) (g e ∷ W (amend_in n g l)) ∙ ih
      go ih (no m) = if_neg (ℕ_discrete e.num n) m (W (amend_in n g l)) (e ∷ W (amend_in n g l)) ∙ ap {B = List Rec} (λ r. e ∷ r) ih

  -- a record that ends need not be changed before
  pub end_amend : (N : Names) → n_end k n (amend k n g N) ≡ n_end k n N
  unfolding amend n_end
  end_amend N =
      names_eq (n_end k n (amend k n g N)) (n_end k n N) (λ j. refl)
      (λ j. upd_upd Kind-dec N.things k (amend_in n g (N.things k)) (without_by ℕ_discrete (λ e. e.num) n ((amend k n g N).things k)) j
      ∙ ap (λ (l : List Rec). upd Kind-dec N.things k l j) (ap (without_by ℕ_discrete (λ e. e.num) n) (upd_same Kind-dec N.things k (amend_in n g (N.things k))) ∙ without_by_amend (N.things k)))

-- the last home that is set counts
pub home_twice : (k : Kind) (n : ℕ) (f : Fam) (o o' : Option (Role × ℕ)) (N : Names) → amend k n (set_home f o') (amend k n (set_home f o) N) ≡ amend k n (set_home f o') N
home_twice k n f o o' N =
    amend_twice k n (set_home f o') (set_home f o) (λ e. refl) N
    ∙ ap (λ (g : Rec → Rec). amend k n g N) (fun_ext λ e. λ i. record { num = e.num; tag = e.tag; lists = e.lists; homes = λ h. upd_upd Fam-dec e.homes f o o' h i })
