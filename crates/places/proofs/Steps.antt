-- Each step keeps a store linked. Assumes nothing.
use mathlib.Core.Path.{◌≡◌, refl, sym, ap, ◌∙◌, subst}
use mathlib.Core.Logic.{◌≢◌, by_cases, ◌⊎◌, inl, inr, ⊎_elim}
use mathlib.Core.List.{List, [], ◌∷◌, ◌++◌}
use mathlib.Core.Option.{Option, none, some}
use native.Mathlib.Decide.{ℕ_discrete}
use native.Mathlib.Omega.{arith}
use Prim.Native.Nat.{ℕ, suc, ◌+◌, ◌<◌, ◌≤◌}
use lib.ListN.{length}
use Rattle.seqs.specs.Seqs.{upd, tick, seq_insert_at, count, without, In}
use Rattle.places.specs.Store.{Kind, op, Role, Fam, Kind-dec, Role-dec, Fam-dec, fam, node_of, holder_of, Limited, Thing, Thing-dec, Con, Con-dec, Table, State, alive, Live, Tab, owns, Link, nest, outer, up_by, up, Ends, Clear, Linked, born, gone, birth, end, set_list, set_own, relink, enter, leave}
pub use Rattle.places.specs.May.{Fresh, Bare, CanEnter}
use Rattle.seqs.proofs.Base.{upd_image, upd_self, count_insert_at, length_insert_at, count_leaves, length_less, in_head, upd_at, upd_same, upd_other, upd2_same, upd2_cases, tick_yes, tick_no, tick_pos, count_append, count_gone, count_stays, rises_on, rises_snoc, rises_without, count_less}

-- ---- climbing

module _ {u u' : Thing → Option Thing} (x : Thing) (same : (y : Thing) → y ≢ x → u' y ≡ u y) where
  clear_ends : {y : Thing} → Clear u x y → Ends u' y
  clear_ends {y} (Clear.top n e) = Ends.top (same y n ∙ e)
  clear_ends {y} (Clear.climb n e c) = Ends.climb (same y n ∙ e) (clear_ends c)

  pub clear_kept : {y : Thing} → Clear u x y → Clear u' x y
  clear_kept {y} (Clear.top n e) = Clear.top n (same y n ∙ e)
  clear_kept {y} (Clear.climb n e c) = Clear.climb n (same y n ∙ e) (clear_kept c)

  ends_change : Ends u' x → {y : Thing} → Ends u y → Ends u' y
  ends_change at {y} (Ends.top e) = by_cases (Thing-dec y x) (λ p. subst (λ (z : Thing). Ends u' z) (sym p) at) (λ n. Ends.top (same y n ∙ e))
  ends_change at {y} (Ends.climb {y = z} e c) = go (ends_change at c) (Thing-dec y x)
    where
      go : Ends u' z → Dec (y ≡ x) → Ends u' y
      go ih (yes p) = subst (λ (z : Thing). Ends u' z) (sym p) at
      go ih (no n) = Ends.climb (same y n ∙ e) ih

ends_same : {u u' : Thing → Option Thing} → ((y : Thing) → u' y ≡ u y) → {y : Thing} → Ends u y → Ends u' y
ends_same same {y} (Ends.top e) = Ends.top (same y ∙ e)
ends_same same {y} (Ends.climb e c) = Ends.climb (same y ∙ e) (ends_same same c)

up_cases : (h : Fam → Option Con) (f : Fam) (o : Option Con) (n : Option Fam) → ((n ≡ some f) × (up_by (upd Fam-dec h f o) n ≡ outer o)) ⊎ (up_by (upd Fam-dec h f o) n ≡ up_by h n)
up_cases h f o none = inr refl
up_cases h f o (some g) = by_cases (Fam-dec g f) (λ e. inl (ap some e, ap outer (upd_at Fam-dec h f o e))) (λ n. inr (ap outer (upd_other Fam-dec h f o n)))

-- ---- a list and an owner are set

pub record Relink (P : State) (c : Con) (l : List Thing) (x : Thing) (o : Option Con) : Type 0 where
  pub at : count Thing-dec x l ≡ owns o c
  pub rest : (y : Thing) → y ≢ x → count Thing-dec y l ≡ count Thing-dec y (P.list c.1 c.0)
  pub apart : (b : Con) → b ≢ c → owns o b ≡ owns (P.own x (fam c.0)) b
  pub good : (b : Con) → o ≡ some b → Link P x (fam c.0) b
  pub limit : Limited c.0 → length l ≤ 64
  pub clear : (b : Con) → o ≡ some b → nest x.0 ≡ some (fam c.0) → Clear (up P) x b.1

module _ (P : State) (c : Con) (l : List Thing) (x : Thing) (o : Option Con) where
  pub lists : (b : Thing) (r : Role) → ((b ≡ c.1) × (r ≡ c.0) × ((relink c l x o P).list b r ≡ l)) ⊎ (((b ≡ c.1) → (r ≡ c.0) → ⊥) × ((relink c l x o P).list b r ≡ P.list b r))
  unfolding relink set_own set_list
  lists = upd2_cases Thing-dec Role-dec P.list c.1 c.0 l

  pub owners : (y : Thing) (g : Fam) → ((y ≡ x) × (g ≡ fam c.0) × ((relink c l x o P).own y g ≡ o)) ⊎ (((y ≡ x) → (g ≡ fam c.0) → ⊥) × ((relink c l x o P).own y g ≡ P.own y g))
  unfolding relink set_own set_list
  owners = upd2_cases Thing-dec Fam-dec P.own x (fam c.0) o

  pub own_kept : (y : Thing) → y ≢ x → (relink c l x o P).own y ≡ P.own y
  unfolding relink set_own set_list
  own_kept y n = upd_other Thing-dec P.own x (upd Fam-dec (P.own x) (fam c.0) o) n

  pub up_kept : (y : Thing) → y ≢ x → up (relink c l x o P) y ≡ up P y
  unfolding up
  up_kept y n = ap (λ (h : Fam → Option Con). up_by h (nest y.0)) (own_kept y n)

  up_new : ((nest x.0 ≡ some (fam c.0)) × (up (relink c l x o P) x ≡ outer o)) ⊎ (up (relink c l x o P) x ≡ up P x)
  unfolding up relink set_own set_list
  up_new = rw (upd_same Thing-dec P.own x (upd Fam-dec (P.own x) (fam c.0) o)) (up_cases (P.own x) (fam c.0) o (nest x.0))

  pub alive_relink : (y : Thing) → alive (relink c l x o P) y ≡ alive P y
  unfolding relink set_own set_list alive
  alive_relink y = refl

  link_relink : {y : Thing} {f : Fam} {b : Con} → Link P y f b → Link (relink c l x o P) y f b
  unfolding relink set_own set_list alive
  link_relink L = record { family = L.family; node = L.node; holder = L.holder; live = L.live; home = L.home }

module _ {P : State} (S : Linked P) (c : Con) (l : List Thing) (x : Thing) (o : Option Con) (E : Relink P c l x o) where
  abbrev P' : State
  P' = relink c l x o P

  held' : (r : Role) (b y : Thing) → count Thing-dec y (P'.list b r) ≡ owns (P'.own y (fam r)) (r, b)
  held' r b y =
      ⊎_elim
      (λ h. ⊎_elim
      (λ k. rw (h.2, k.2, h.0, h.1, k.0) E.at)
      (λ k. rw (h.2, k.1, h.0, h.1) (E.rest y (λ e. k.0 e (ap fam h.1)) ∙ S.held c.0 c.1 y))
      (owners P c l x o y (fam r)))
      (λ h. ⊎_elim
      (λ k. rw (h.1, k.2, k.0) (S.held r b x ∙ (rw k.1 (sym (E.apart (r, b) (λ e. h.0 (ap (λ (d : Con). d.1) e) (ap (λ (d : Con). d.0) e)))))))
      (λ k. rw (h.1, k.1) (S.held r b y))
      (owners P c l x o y (fam r)))
      (lists P c l x o b r)

  link' : (y : Thing) (g : Fam) (b : Con) → P'.own y g ≡ some b → Link P' y g b
  link' y g b e =
      link_relink P c l x o
      (⊎_elim
      (λ k. rw (k.0, k.1) (E.good b (sym k.2 ∙ e)))
      (λ k. S.link y g b (sym k.1 ∙ e))
      (owners P c l x o y g))

  short' : (b : Thing) (r : Role) → Limited r → length (P'.list b r) ≤ 64
  short' b r m = ⊎_elim (λ h. rw h.2 (E.limit (rw h.1 at m))) (λ h. rw h.1 (S.short b r m)) (lists P c l x o b r)

  outer_ends : (o' : Option Con) → o ≡ o' → nest x.0 ≡ some (fam c.0) → up P' x ≡ outer o' → Ends (up P') x
  outer_ends none p n e = Ends.top e
  outer_ends (some b) p n e = Ends.climb e (clear_ends x (up_kept P c l x o) (E.clear b p n))

  ends' : (y : Thing) → Ends (up P') y
  ends' y =
      ⊎_elim
      (λ h. ends_change x (up_kept P c l x o) (outer_ends o refl h.0 h.1) (S.ends y))
      (λ h. ends_same (λ z. by_cases (Thing-dec z x) (λ e. rw e h) (λ n. up_kept P c l x o z n)) (S.ends y))
      (up_new P c l x o)

  relink_linked : Linked P'
  unfolding relink set_own set_list alive
  relink_linked = record { tabs = S.tabs; held = held'; link = link'; short = short'; flags = S.flags; ends = ends' }

-- ---- births and ends

born_tab : (t : Table) (p : ℕ) → Tab t → count ℕ_discrete p t.order ≡ 0 → p < t.cap → Tab (born p t)
born_tab t p T z h =
    record {
      rises = rises_snoc num' t.order p (rises_on t.num num' t.order (λ q i. old q i) T.rises) (λ q i. omega (arith, old q i, new, T.below q i));
      below = λ q i. ⊎_elim (λ e. omega (arith, ap num' e, new)) (λ k. omega (arith, old q k, T.below q k)) (parts q i);
      fits = λ q i. ⊎_elim (λ e. rw e h) (λ k. T.fits q k) (parts q i);
    }
  where
    num' : ℕ → ℕ
    num' = upd ℕ_discrete t.num p t.next

    new : num' p ≡ t.next
    new = upd_same ℕ_discrete t.num p t.next

    old : (q : ℕ) → In ℕ_discrete q t.order → num' q ≡ t.num q
    old q i = upd_other ℕ_discrete t.num p t.next (λ e. absurd (omega (arith, ap (λ (m : ℕ). count ℕ_discrete m t.order) e)))

    parts : (q : ℕ) → In ℕ_discrete q (t.order ++ p ∷ []) → (q ≡ p) ⊎ In ℕ_discrete q t.order
    parts q i = by_cases (ℕ_discrete q p) (λ e. inl e) (λ n. inr (omega (arith, count_append ℕ_discrete q t.order (p ∷ []), tick_no (ℕ_discrete q p) n)))

gone_tab : (t : Table) (p : ℕ) → Tab t → Tab (gone p t)
gone_tab t p T =
    record {
      rises = rises_on t.num (upd ℕ_discrete t.num p 0) (without ℕ_discrete p t.order) (λ q i. upd_other ℕ_discrete t.num p 0 (left q i)) (rises_without t.num t.order p T.rises);
      below = λ q i. rw (upd_other ℕ_discrete t.num p 0 (left q i)) (T.below q (omega (arith, count_less ℕ_discrete q p t.order)));
      fits = λ q i. T.fits q (omega (arith, count_less ℕ_discrete q p t.order));
    }
  where
    left : (q : ℕ) → In ℕ_discrete q (without ℕ_discrete p t.order) → q ≢ p
    left q i e = absurd (omega (arith, count_gone ℕ_discrete p t.order, ap (λ (m : ℕ). count ℕ_discrete m (without ℕ_discrete p t.order)) e))

-- a table is set: what is said of each table
tab_set : (Q : Kind → Table → Type 0) (tab : Kind → Table) (k : Kind) (t : Table) → ((j : Kind) → Q j (tab j)) → Q k t → (j : Kind) → Q j (upd Kind-dec tab k t j)
tab_set Q tab k t old new j = by_cases (Kind-dec j k) (λ e. rw (upd_at Kind-dec tab k t e, e) new) (λ n. rw (upd_other Kind-dec tab k t n) (old j))

pub thing_eq : (a b : Thing) → a.0 ≡ b.0 → a.1 ≡ b.1 → a ≡ b
thing_eq a b p q = λ i. (p i, q i)

-- a thing's kind and its place are not both another's
pub place_differs : {a b : Thing} → b ≢ a → b.0 ≡ a.0 → b.1 ≢ a.1
place_differs {a} {b} n p q = n (thing_eq b a p q)

module _ (P : State) (a : Thing) (t : ℕ) where
  pub alive_born : alive (birth a t P) a ≡ suc (alive P a)
  unfolding alive birth
  alive_born = rw (upd_same Kind-dec P.tab a.0 (born a.1 (P.tab a.0))) (omega (arith, count_append ℕ_discrete a.1 (P.tab a.0).order (a.1 ∷ []), tick_yes (ℕ_discrete a.1 a.1) refl))

  pub alive_birth : (b : Thing) → b ≢ a → alive (birth a t P) b ≡ alive P b
  unfolding alive birth
  alive_birth b n =
      by_cases (Kind-dec b.0 a.0)
      (λ e. rw (upd_at Kind-dec P.tab a.0 (born a.1 (P.tab a.0)) e, e) (omega (arith, count_append ℕ_discrete b.1 (P.tab a.0).order (a.1 ∷ []), tick_no (ℕ_discrete b.1 a.1) (place_differs n e))))
      (λ m. rw (upd_other Kind-dec P.tab a.0 (born a.1 (P.tab a.0)) m))

  pub live_birth : (b : Thing) → Live P b → Live (birth a t P) b
  live_birth b h = by_cases (Thing-dec b a) (λ e. rw e (omega (arith, alive_born))) (λ n. omega (arith, alive_birth b n))

  pub link_birth : {y : Thing} {f : Fam} {b : Con} → Link P y f b → Link (birth a t P) y f b
  link_birth {y} {f} {b} L = record { family = L.family; node = L.node; holder = L.holder; live = live_birth y L.live; home = live_birth b.1 L.home }

pub birth_linked : {P : State} → Linked P → (a : Thing) (t : ℕ) → Fresh P a t → Linked (birth a t P)
unfolding birth alive up
birth_linked {P} S a t F =
    record {
      tabs = tab_set (λ j u. Tab u) P.tab a.0 (born a.1 (P.tab a.0)) S.tabs (born_tab (P.tab a.0) a.1 (S.tabs a.0) F.dead F.room);
      held = S.held;
      link = λ x f c e. link_birth P a t (S.link x f c e);
      short = S.short;
      flags = λ p h. by_cases (Thing-dec (op, p) a) (λ e. rw (upd_at Thing-dec P.tag a t e) (F.flags (ap (λ (b : Thing). b.0) (sym e)))) (λ n. rw (upd_other Thing-dec P.tag a t n) (S.flags p (omega (arith, h, alive_birth P a t (op, p) n))));
      ends = S.ends;
    }

module _ (P : State) (a : Thing) where
  pub alive_ended : alive (end a P) a ≡ 0
  unfolding alive end
  alive_ended = rw (upd_same Kind-dec P.tab a.0 (gone a.1 (P.tab a.0))) (count_gone ℕ_discrete a.1 (P.tab a.0).order)

  pub alive_end : (b : Thing) → b ≢ a → alive (end a P) b ≡ alive P b
  unfolding alive end
  alive_end b n =
      by_cases (Kind-dec b.0 a.0)
      (λ e. rw (upd_at Kind-dec P.tab a.0 (gone a.1 (P.tab a.0)) e, e) (count_stays ℕ_discrete b.1 a.1 (P.tab a.0).order (place_differs n e)))
      (λ m. rw (upd_other Kind-dec P.tab a.0 (gone a.1 (P.tab a.0)) m))

pub owns_own : (c : Con) → owns (some c) c ≡ 1
unfolding owns
owns_own c = tick_yes (Con-dec c c) refl

pub some_none : {A : Type 0} {a : A} {o : Option A} → o ≡ some a → o ≡ none → ⊥
some_none {A} {a} {o} p q = let z : ◌≡◌ {A = ℕ} 0 1 = cc in omega arith

pub some_inj : {A : Type 0} {a b : A} → some a ≡ some b → a ≡ b
some_inj {A} {a} {b} e = cc

-- a thing stands once in the list of its owner
pub once : {P : State} → Linked P → (x : Thing) (f : Fam) (c : Con) → P.own x f ≡ some c → count Thing-dec x (P.list c.1 c.0) ≡ 1
once {P} S x f c e = S.held c.0 c.1 x ∙ rw ((S.link x f c e).family, e) (owns_own c)

-- what stands in a list is not bare, and neither is what holds it
module _ {P : State} (S : Linked P) (a : Thing) (B : Bare P a) (x : Thing) (f : Fam) (c : Con) (e : P.own x f ≡ some c) where
  pub node_other : x ≢ a
  node_other p = some_none e (ap (λ (b : Thing). P.own b f) p ∙ B.alone f)

  pub home_other : c.1 ≢ a
  home_other p = absurd (omega (arith, once S x f c e, ap (count Thing-dec x) (ap (λ (b : Thing). P.list b c.0) p ∙ B.empty c.0)))

  link_end : Link (end a P) x f c
  link_end = let L : Link P x f c = S.link x f c e in
      record { family = L.family; node = L.node; holder = L.holder; live = omega (arith, L.live, alive_end P a x node_other); home = omega (arith, L.home, alive_end P a c.1 home_other) }

pub end_linked : {P : State} → Linked P → (a : Thing) → Bare P a → Linked (end a P)
unfolding end up
end_linked {P} S a B =
    record {
      tabs = tab_set (λ j u. Tab u) P.tab a.0 (gone a.1 (P.tab a.0)) S.tabs (gone_tab (P.tab a.0) a.1 (S.tabs a.0));
      held = S.held;
      link = λ x f c e. link_end S a B x f c e;
      short = S.short;
      flags = λ p h. by_cases (Thing-dec (op, p) a) (λ e. absurd (omega (arith, h, alive_ended P a, ap (alive (end a P)) e))) (λ n. rw (upd_other Thing-dec P.tag a 0 n) (S.flags p (omega (arith, h, alive_end P a (op, p) n))));
      ends = S.ends;
    }

-- ---- entering a list, and leaving it

pub record Entry (P : State) (c : Con) (l : List Thing) (x : Thing) : Type 0 where
  pub free : P.own x (fam c.0) ≡ none
  pub node : x.0 ≡ node_of c.0
  pub holder : c.1.0 ≡ holder_of c.0
  pub live : Live P x
  pub home : Live P c.1
  pub grows : (y : Thing) → count Thing-dec y l ≡ tick (Thing-dec y x) + count Thing-dec y (P.list c.1 c.0)
  pub limit : Limited c.0 → length l ≤ 64
  pub clear : nest x.0 ≡ some (fam c.0) → Clear (up P) x c.1

pub owns_none : (c : Con) → owns none c ≡ 0
unfolding owns
owns_none c = refl

owns_other : (c b : Con) → b ≢ c → owns (some c) b ≡ 0
unfolding owns
owns_other c b n = tick_no (Con-dec c b) (λ e. n (sym e))

enter_linked : {P : State} → Linked P → (c : Con) (l : List Thing) (x : Thing) → Entry P c l x → Linked (relink c l x (some c) P)
enter_linked {P} S c l x E =
    relink_linked S c l x (some c)
    (record {
      at = E.grows x ∙ rw (tick_yes (Thing-dec x x) refl, S.held c.0 c.1 x, E.free, owns_none c, owns_own c);
      rest = λ y n. E.grows y ∙ (omega (arith, tick_no (Thing-dec y x) n));
      apart = λ b n. rw (E.free, owns_none b) (owns_other c b n);
      good = λ b e. rw (← some_inj e) (record { family = refl; node = E.node; holder = E.holder; live = E.live; home = E.home });
      limit = E.limit;
      clear = λ b e n. rw (← some_inj e) (E.clear n);
    })

pub leave_linked : {P : State} → Linked P → (c : Con) (l : List Thing) (x : Thing) → P.own x (fam c.0) ≡ some c
    → ((y : Thing) → tick (Thing-dec y x) + count Thing-dec y l ≡ count Thing-dec y (P.list c.1 c.0))
    → (Limited c.0 → length l ≤ 64) → Linked (relink c l x none P)
leave_linked {P} S c l x e falls limit =
    relink_linked S c l x none
    (record {
      at = rw (owns_none c) (omega (arith, falls x, tick_yes (Thing-dec x x) refl, once S x (fam c.0) c e));
      rest = λ y n. omega (arith, falls y, tick_no (Thing-dec y x) n);
      apart = λ b n. rw (e, owns_none b) (sym (owns_other c b n));
      good = λ b p. absurd (some_none p refl);
      limit = limit;
      clear = λ b p n. absurd (some_none p refl);
    })

-- what stands in a list is owned there
owns_some : (o : Option Con) (c : Con) → 0 < owns o c → o ≡ some c
unfolding owns
owns_some none c h = absurd (omega arith)
owns_some (some b) c h = ap some (tick_pos (Con-dec b c) h)

pub listed : {P : State} → Linked P → (x b : Thing) (r : Role) → In Thing-dec x (P.list b r) → P.own x (fam r) ≡ some (r, b)
listed {P} S x b r h = owns_some (P.own x (fam r)) (r, b) (rw (S.held r b x) at h)

-- what no link names stands in no list and has none
pub bare_of : {P : State} → Linked P → (a : Thing) → ((f : Fam) (c : Con) → P.own a f ≡ some c → ⊥) → ((x : Thing) (f : Fam) (c : Con) → P.own x f ≡ some c → c.1 ≡ a → ⊥) → Bare P a
bare_of {P} S a node home = record { alone = λ f. alone f (P.own a f) refl; empty = λ r. empty r (P.list a r) refl }
  where
    alone : (f : Fam) (o : Option Con) → P.own a f ≡ o → P.own a f ≡ none
    alone f none e = e
    alone f (some c) e = absurd (node f c e)

    empty : (r : Role) (l : List Thing) → P.list a r ≡ l → P.list a r ≡ []
    empty r [] e = e
    empty r (x ∷ l) e = absurd (home x (fam r) (r, a) (listed S x a r (rw e (in_head Thing-dec x l))) refl)

pub dead_bare : {P : State} → Linked P → (a : Thing) → alive P a ≡ 0 → Bare P a
dead_bare {P} S a z = bare_of S a (λ f c e. omega (arith, (S.link a f c e).live)) (λ x f c e q. omega (arith, (S.link x f c e).home, ap (alive P) q))

-- what a live thing lies in is live, so climbing from it meets nothing dead
pub up_live : {P : State} → Linked P → (y z : Thing) → up P y ≡ some z → Live P z
unfolding up
up_live {P} S y z e = by_fam (nest y.0) e
  where
    by_own : (f : Fam) (o : Option Con) → P.own y f ≡ o → outer o ≡ some z → Live P z
    by_own f none p e = absurd (some_none e refl)
    by_own f (some c) p e = rw (← some_inj e) (S.link y f c p).home

    by_fam : (n : Option Fam) → up_by (P.own y) n ≡ some z → Live P z
    by_fam none e = absurd (some_none e refl)
    by_fam (some f) e = by_own f (P.own y f) refl e

pub dead_clear : {P : State} → Linked P → (x : Thing) → alive P x ≡ 0 → {y : Thing} → Ends (up P) y → Live P y → Clear (up P) x y
dead_clear {P} S x d {y} (Ends.top e) h = Clear.top {x = y} (λ p. absurd (omega (arith, ap (alive P) p))) e
dead_clear {P} S x d {y} (Ends.climb {y = z} e c) h = Clear.climb {x = y} (λ p. absurd (omega (arith, ap (alive P) p))) e (dead_clear S x d c (up_live S y z e))

-- ---- the two steps on lists

pub enter_ok : {P : State} → Linked P → (c : Con) (i : ℕ) (x : Thing) → CanEnter P c x → Linked (enter c i x P)
unfolding enter
enter_ok {P} S c i x E =
    enter_linked S c (seq_insert_at i x (P.list c.1 c.0)) x
    (record { free = E.free; node = E.node; holder = E.holder; live = E.live; home = E.home; grows = λ y. count_insert_at Thing-dec y i x (P.list c.1 c.0); limit = λ m. omega (arith, E.limit m, length_insert_at i x (P.list c.1 c.0)); clear = E.clear })

pub leave_ok : {P : State} → Linked P → (c : Con) (x : Thing) → P.own x (fam c.0) ≡ some c → Linked (leave c x P)
unfolding leave
leave_ok {P} S c x e =
    leave_linked S c (without Thing-dec x (P.list c.1 c.0)) x e
    (count_leaves Thing-dec x (P.list c.1 c.0) (once S x (fam c.0) c e))
    (λ m. omega (arith, S.short c.1 c.0 m, length_less Thing-dec x (P.list c.1 c.0)))

-- what they leave of the owners and of the live things
module _ (P : State) (c : Con) (x : Thing) where
  pub own_entered : (i : ℕ) → (enter c i x P).own x (fam c.0) ≡ some c
  unfolding enter relink set_own set_list
  own_entered i = upd2_same Thing-dec Fam-dec P.own x (fam c.0) (some c)

  pub own_left : (leave c x P).own x (fam c.0) ≡ none
  unfolding leave relink set_own set_list
  own_left = upd2_same Thing-dec Fam-dec P.own x (fam c.0) none

  pub own_enter_fam : (i : ℕ) (g : Fam) → g ≢ fam c.0 → (enter c i x P).own x g ≡ P.own x g
  unfolding enter
  own_enter_fam i g n = ⊎_elim (λ h. absurd (n h.1)) (λ h. h.1) (owners P c (seq_insert_at i x (P.list c.1 c.0)) x (some c) x g)

  pub own_leave_fam : (g : Fam) → g ≢ fam c.0 → (leave c x P).own x g ≡ P.own x g
  unfolding leave
  own_leave_fam g n = ⊎_elim (λ h. absurd (n h.1)) (λ h. h.1) (owners P c (without Thing-dec x (P.list c.1 c.0)) x none x g)

  pub own_enter_other : (i : ℕ) (y : Thing) → y ≢ x → (enter c i x P).own y ≡ P.own y
  unfolding enter
  own_enter_other i y n = own_kept P c (seq_insert_at i x (P.list c.1 c.0)) x (some c) y n

  pub own_leave_other : (y : Thing) → y ≢ x → (leave c x P).own y ≡ P.own y
  unfolding leave
  own_leave_other y n = own_kept P c (without Thing-dec x (P.list c.1 c.0)) x none y n

  pub alive_enter : (i : ℕ) (y : Thing) → alive (enter c i x P) y ≡ alive P y
  unfolding enter
  alive_enter i y = alive_relink P c (seq_insert_at i x (P.list c.1 c.0)) x (some c) y

  pub alive_leave : (y : Thing) → alive (leave c x P) y ≡ alive P y
  unfolding leave
  alive_leave y = alive_relink P c (without Thing-dec x (P.list c.1 c.0)) x none y

  -- and of the lists
  pub list_entered : (i : ℕ) → (enter c i x P).list c.1 c.0 ≡ seq_insert_at i x (P.list c.1 c.0)
  unfolding enter relink set_own set_list
  list_entered i = upd2_same Thing-dec Role-dec P.list c.1 c.0 (seq_insert_at i x (P.list c.1 c.0))

  pub list_left : (leave c x P).list c.1 c.0 ≡ without Thing-dec x (P.list c.1 c.0)
  unfolding leave relink set_own set_list
  list_left = upd2_same Thing-dec Role-dec P.list c.1 c.0 (without Thing-dec x (P.list c.1 c.0))

  pub list_leave_other : (b : Thing) (r : Role) → r ≢ c.0 → (leave c x P).list b r ≡ P.list b r
  unfolding leave
  list_leave_other b r n = ⊎_elim (λ h. absurd (n h.1)) (λ h. h.1) (lists P c (without Thing-dec x (P.list c.1 c.0)) x none b r)

-- a birth and an end keep the capacities
pub cap_end : (P : State) (a : Thing) (k : Kind) → ((end a P).tab k).cap ≡ (P.tab k).cap
unfolding end
cap_end P a k = upd_image Kind-dec (λ _ (u : Table). u.cap) P.tab a.0 (gone a.1 (P.tab a.0)) (P.tab a.0).cap refl k ∙ upd_self Kind-dec (λ j. (P.tab j).cap) a.0 (P.tab a.0).cap refl k
