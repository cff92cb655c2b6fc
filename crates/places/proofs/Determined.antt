-- The places of everything after an edit are determined: of two stores that settle from one store and mean the same, every table is the same, its places,
-- their numbers and their order. Assumes nothing.
use mathlib.Core.Path.{◌≡◌, refl, sym, ap, ap₂, ◌∙◌, subst}
use mathlib.Core.Logic.{⊎_elim, by_cases}
use mathlib.Core.HLevel.{Discrete}
use mathlib.Core.List.{List, [], ◌∷◌, ◌++◌, map, map-map}
use native.Mathlib.Decide.{ℕ_discrete, dec_lt}
use native.Mathlib.Omega.{arith}
use Prim.Native.Nat.{ℕ, ◌≤◌}
use lib.ListN.{length, get_or, drop}
use Rattle.seqs.specs.Seqs.{count, In, Rises}
use Rattle.seqs.proofs.Base.{tick_yes, tick_no, in_head, in_tail, count_append, upd_same, upd_other, map_on, map_append, rises_inj}
use Rattle.places.specs.Store.{Kind, op, blk, reg, val, usg, blocks, Table, State, born, Sound}
use Rattle.places.specs.View.{Rec, num, rec_of, view}
use Rattle.places.specs.Hist.{tabled, op_of, block_of, use_of, hist, orders_of, rule_state, meaning}
use Rattle.places.specs.Alias.{RState}
use Rattle.places.specs.Walk.{sift, gone_by}
use Rattle.places.specs.Settled.{Lowest, Settled, kept, grown, Settles}
use Rattle.places.proofs.Bits.{tabled_view}
use Rattle.places.proofs.Cut.{pick_0, pick_1, zero_or, sift_in, count_sift_0}

-- ---- lists

-- a list is fixed by its image, where the function tells its elements apart
pub map_inj : {A : Type 0} (d : Discrete A) (f : A → ℕ) (l m : List A) → ((x y : A) → In d x l → In d y m → f x ≡ f y → x ≡ y) → map f l ≡ map f m → l ≡ m
map_inj d f [] [] h e = refl
map_inj d f [] (y ∷ m) h e = absurd (omega (arith, ap length e))
map_inj d f (x ∷ l) [] h e = absurd (omega (arith, ap length e))
map_inj {A} d f (x ∷ l) (y ∷ m) h e =
    ap₂ {C = List A} (λ a r. a ∷ r)
    (h x y (in_head d x l) (in_head d y m) (ap (λ (r : List ℕ). get_or r 0 0) e))
    (map_inj d f l m (λ a b i j. h a b (in_tail d a x l i) (in_tail d b y m j)) (ap (drop 1) e))

-- functions with the same images of a list agree on its elements
pub map_agree : {A B : Type 0} (d : Discrete A) (f g : A → B) (l : List A) → map f l ≡ map g l → (q : A) → In d q l → f q ≡ g q
map_agree d f g [] e q i = absurd (omega arith)
map_agree {A} {B} d f g (x ∷ l) e q i = by_cases (d q x) (λ p. ap f p ∙ head ∙ sym (ap g p)) (λ n. map_agree d f g l rest q (omega (arith, i, tick_no (d q x) n)))
  where
    first : B → List B → B
    first z [] = z
    first z (y ∷ m) = y

    tail : List B → List B
    tail [] = []
    tail (y ∷ m) = m

    head : f x ≡ g x
    head = ap (first (f x)) e

    rest : map f l ≡ map g l
    rest = ap tail e

-- a list without its last element
abbrev most : List ℕ → List ℕ
most [] = []
most (x ∷ []) = []
most (x ∷ y ∷ l) = x ∷ most (y ∷ l)

most_snoc : (l : List ℕ) (a : ℕ) → most (l ++ a ∷ []) ≡ l
most_snoc [] a = refl
most_snoc (x ∷ []) a = refl
most_snoc (x ∷ y ∷ l) a = ap {B = List ℕ} (λ r. x ∷ r) (most_snoc (y ∷ l) a)

-- ---- one table

-- there is one lowest free place
lowest_one : (l : List ℕ) (q r : ℕ) → Lowest l q → Lowest l r → q ≡ r
lowest_one l q r A B =
    by_cases (dec_lt q r)
    (λ h. absurd (omega (arith, B.least q h, A.free)))
    (λ n. by_cases (dec_lt r q) (λ h. absurd (omega (arith, A.least r h, B.free))) (λ m. omega (arith, n, m)))

-- no number is taken back, and a table does not grow
settled_next : {t u : Table} → Settled t u → t.next ≤ u.next
settled_next (kept p) = omega arith
settled_next (grown q low s) = omega (arith, settled_next s)

settled_cap : {t u : Table} → Settled t u → u.cap ≡ t.cap
settled_cap (kept p) = refl
settled_cap (grown q low s) = settled_cap s

-- the numbers of what lives, in order
abbrev pub numbers : Table → List ℕ
numbers t = map t.num t.order

born_numbers : (q : ℕ) (u : Table) → count ℕ_discrete q u.order ≡ 0 → numbers (born q u) ≡ numbers u ++ u.next ∷ []
born_numbers q u free =
    map_append (born q u).num u.order (q ∷ [])
    ∙ ap₂ {C = List ℕ} (λ l r. l ++ r ∷ [])
    (map_on ℕ_discrete (born q u).num u.num u.order (λ x i. upd_other ℕ_discrete u.num q u.next (λ e. absurd (omega (arith, i, free, ap (λ (y : ℕ). count ℕ_discrete y u.order) e)))))
    (upd_same ℕ_discrete u.num q u.next)

gone_numbers : (p : ℕ → ℕ) (t : Table) → numbers (gone_by p t) ≡ map t.num (sift p t.order)
gone_numbers p t = map_on ℕ_discrete (gone_by p t).num t.num (sift p t.order) (λ q i. pick_0 (p q) (t.num q) 0 (sift_in ℕ_discrete p q t.order i).0)

-- as many births, the same things kept, and the same place at each birth
same_order : {t u v : Table} → Rises t.num t.order → Settled t u → Settled t v → u.next ≡ v.next → numbers u ≡ numbers v → u.order ≡ v.order
same_order {t} T (kept p) (kept p') n e =
    map_inj ℕ_discrete t.num (sift p t.order) (sift p' t.order)
    (λ a b i j. rises_inj t.num t.order T a b (sift_in ℕ_discrete p a t.order i).1 (sift_in ℕ_discrete p' b t.order j).1)
    (sym (gone_numbers p t) ∙ e ∙ gone_numbers p' t)
same_order T (kept p) (grown q low s) n e = absurd (omega (arith, n, settled_next s))
same_order T (grown q low s) (kept p) n e = absurd (omega (arith, n, settled_next s))
same_order T (grown {u = u} q low s) (grown {u = v} r low' s') n e =
    let before : u.order ≡ v.order = same_order T s s' (omega (arith, n))
    (sym (most_snoc (numbers u) u.next) ∙ ap most (sym (born_numbers q u low.free) ∙ e ∙ born_numbers r v low'.free) ∙ most_snoc (numbers v) v.next) in
    ap₂ {C = List ℕ} (λ l x. l ++ x ∷ []) before (lowest_one v.order q r (subst (λ (l : List ℕ). Lowest l q) before low) low')

-- a place at which nothing lives has the number 0
abbrev pub Blank : Table → Type 0
Blank t = (q : ℕ) → count ℕ_discrete q t.order ≡ 0 → t.num q ≡ 0

pub blank_settled : {t u : Table} → Blank t → Settled t u → Blank u
blank_settled {t} b (kept p) q z =
    ⊎_elim
    (λ e. pick_0 (p q) (t.num q) 0 e ∙ b q (sym (count_sift_0 ℕ_discrete p q t.order e) ∙ z))
    (λ e. pick_1 (p q) (t.num q) 0 e)
    (zero_or (p q))
blank_settled b (grown {u = u} r low s) q z =
    upd_other ℕ_discrete u.num r u.next (λ e. absurd (omega (arith, z, count_append ℕ_discrete q u.order (r ∷ []), tick_yes (ℕ_discrete q r) e)))
    ∙ blank_settled b s q (omega (arith, z, count_append ℕ_discrete q u.order (r ∷ [])))

same_num : (u v : Table) → Blank u → Blank v → u.order ≡ v.order → numbers u ≡ numbers v → (q : ℕ) → u.num q ≡ v.num q
same_num u v b c o e q =
    ⊎_elim
    (λ z. b q z ∙ sym (c q (ap (count ℕ_discrete q) (sym o) ∙ z)))
    (λ i. map_agree ℕ_discrete u.num v.num u.order (e ∙ ap (map v.num) (sym o)) q i)
    (zero_or (count ℕ_discrete q u.order))

-- a table is fixed by the table before, how many were born, and who lives
pub same_table : {t u v : Table} → Rises t.num t.order → Blank t → Settled t u → Settled t v → u.next ≡ v.next → numbers u ≡ numbers v → u ≡ v
same_table {t} {u} {v} T b s s' n e =
    let o : u.order ≡ v.order = same_order T s s' n e in
    λ i. record { cap = (settled_cap s ∙ sym (settled_cap s')) i; next = n i; num = λ q. same_num u v (blank_settled b s) (blank_settled b s') o e q i; order = o i }

-- ---- the store

-- who lives is in the meaning
keys_view : {A : Type 0} (P : State) (k : Kind) (f : Rec → A) → map (λ e. e.0) (tabled f ((view P).things k)) ≡ numbers (P.tab k)
keys_view P k f = ap (map (λ e. e.0)) (tabled_view P k f) ∙ map-map (λ e. e.0) (λ p. (num P (k, p), f (rec_of P (k, p)))) (P.tab k).order

module _ (Q R : State) where
  keyed : {A : Type 0} (k : Kind) (f : Rec → A) → tabled f ((view Q).things k) ≡ tabled f ((view R).things k) → numbers (Q.tab k) ≡ numbers (R.tab k)
  keyed k f e = sym (keys_view Q k f) ∙ ap (map (λ e. e.0)) e ∙ keys_view R k f

  module _ (E : meaning Q ≡ meaning R) where
    same_numbers : (k : Kind) → numbers (Q.tab k) ≡ numbers (R.tab k)
    unfolding meaning rule_state hist orders_of
    same_numbers op = keyed op op_of (ap (λ (s : RState). s.history.operations) E)
    same_numbers blk = keyed blk block_of (ap (λ (s : RState). s.history.blocks) E)
    same_numbers reg = keyed reg (λ e. e.lists blocks) (ap (λ (s : RState). s.orders.blocks_of) E)
    same_numbers val = keyed val (λ e. e.tag) (ap (λ (s : RState). s.types) E)
    same_numbers usg = keyed usg use_of (ap (λ (s : RState). s.history.uses) E)

    same_next : (k : Kind) → (Q.tab k).next ≡ (R.tab k).next
    unfolding meaning rule_state hist view
    same_next op = ap (λ (s : RState). s.history.born.operations) E
    same_next blk = ap (λ (s : RState). s.history.born.blocks) E
    same_next reg = ap (λ (s : RState). s.history.born.regions) E
    same_next val = ap (λ (s : RState). s.history.born.values) E
    same_next usg = ap (λ (s : RState). s.history.born.uses) E

-- the theorem
pub same_tables : {P Q R : State} → Sound P → ((k : Kind) → Blank (P.tab k)) → Settles P Q → Settles P R → meaning Q ≡ meaning R → (k : Kind) → Q.tab k ≡ R.tab k
same_tables {P} {Q} {R} S b s s' E k = same_table (S.linked.tabs k).rises (b k) (s.table k) (s'.table k) (same_next Q R E k) (same_numbers Q R E k)
