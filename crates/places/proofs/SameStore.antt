-- Two sound stores with the same tables that mean the same are the same but for the order in which a use set is chained: each use set has the same uses,
-- and where the use sets are the same lists, the stores are the same. Assumes nothing.
use mathlib.Core.Path.{◌≡◌, refl, sym, ap, ap₂, ◌∙◌, subst}
use mathlib.Core.Logic.{by_cases, ⊎_elim}
use mathlib.Core.List.{List, [], ◌∷◌, map}
use mathlib.Core.Option.{Option, none, some}
use native.Mathlib.Decide.{ℕ_discrete}
use native.Mathlib.Omega.{arith}
use Prim.Native.Nat.{ℕ}
use Rattle.seqs.specs.Seqs.{count, In}
use Rattle.seqs.proofs.Base.{in_head, map_on}
use Rattle.edit.specs.Record.{Definition, of_value, of_block}
use Rattle.rules.specs.History.{Operation, Block}
use Rattle.places.specs.Store.{Kind, Kind-dec, op, blk, reg, val, usg, Role, operands, successors, value_uses, block_uses, results, arguments, regions, ops, blocks, Fam, use_sets, fam, node_of, holder_of, Thing, Thing-dec, Con, Table, State, alive, Live, Link, Linked, Fit, UseHeld, Placed, Sound}
use Rattle.places.specs.View.{Rec, num, home_by, rec_of, view}
use Rattle.places.specs.Hist.{tabled, def_by, def_of, op_of, block_of, use_of, hist, orders_of, rule_state, meaning}
use Rattle.places.specs.Alias.{RState}
use Rattle.places.proofs.Bits.{tabled_view}
use Rattle.places.proofs.Cut.{zero_or}
use Rattle.places.proofs.Sees.{num_inj}
use Rattle.places.proofs.Steps.{thing_eq, once, listed}
use Rattle.places.proofs.Determined.{map_inj, map_agree}

-- only live operations and values have flags or a type
pub record Spare (P : State) : Type 0 where
  pub dead : (a : Thing) → alive P a ≡ 0 → P.tag a ≡ 0
  pub on_block : (p : ℕ) → P.tag (blk, p) ≡ 0
  pub on_region : (p : ℕ) → P.tag (reg, p) ≡ 0
  pub on_use : (p : ℕ) → P.tag (usg, p) ≡ 0

-- only a live thing of the right kind has a list
listless : {P : State} → Linked P → (a : Thing) (r : Role) → (a.0 ≡ holder_of r → Live P a → ⊥) → P.list a r ≡ []
listless {P} S a r none-such = go (P.list a r) refl
  where
    go : (l : List Thing) → P.list a r ≡ l → l ≡ []
    go [] e = refl
    go (x ∷ l) e =
        let L : Link P x (fam r) (r, a) = S.link x (fam r) (r, a) (listed S x a r (rw e (in_head Thing-dec x l))) in
        absurd (none-such L.holder L.home)

same_option : {A : Type 0} (o o' : Option A) → ((c : A) → o ≡ some c → o' ≡ some c) → ((c : A) → o' ≡ some c → o ≡ some c) → o ≡ o'
same_option none none f g = refl
same_option none (some c) f g = g c refl
same_option (some b) o' f g = sym (f b refl)

-- where all lists are the same, a thing stands in the same
own_too : {Q R : State} → Linked Q → Linked R → ((a : Thing) (r : Role) → Q.list a r ≡ R.list a r) → (x : Thing) (f : Fam) (c : Con) → Q.own x f ≡ some c → R.own x f ≡ some c
own_too {Q} {R} S S' same x f c e =
    ap (R.own x) (sym (S.link x f c e).family)
    ∙ listed S' x c.1 c.0 (omega (arith, once S x f c e, ap (count Thing-dec x) (same c.1 c.0)))

-- ---- what the meaning says of two stores with the same tables

module _ {Q R : State} (S : Linked Q) (S' : Linked R) (T : (k : Kind) → Q.tab k ≡ R.tab k) where
  alive_same : (a : Thing) → alive Q a ≡ alive R a
  unfolding alive
  alive_same a = ap (λ (t : Table). count ℕ_discrete a.1 t.order) (T a.0)

  num_same : (a : Thing) → num Q a ≡ num R a
  num_same a = ap (λ (t : Table). t.num a.1) (T a.0)

  -- what a table of the meaning says of a live thing
  agree : {A : Type 0} (k : Kind) (f : Rec → A) → tabled f ((view Q).things k) ≡ tabled f ((view R).things k) → (p : ℕ) → Live Q (k, p) → f (rec_of Q (k, p)) ≡ f (rec_of R (k, p))
  unfolding alive
  agree {A} k f e p h =
      ap (λ (z : ℕ × A). z.1)
      (map_agree ℕ_discrete (λ q. (num Q (k, q), f (rec_of Q (k, q)))) (λ q. (num R (k, q), f (rec_of R (k, q)))) (Q.tab k).order
      (sym (tabled_view Q k f) ∙ e ∙ tabled_view R k f ∙ ap (λ (t : Table). map (λ q. (num R (k, q), f (rec_of R (k, q)))) t.order) (sym (T k))) p h)

  seen : {A : Type 0} (k : Kind) (f : Rec → A) → tabled f ((view Q).things k) ≡ tabled f ((view R).things k) → (a : Thing) → a.0 ≡ k → Live Q a → f (rec_of Q a) ≡ f (rec_of R a)
  seen k f e a q h = subst (λ (b : Thing). Live Q b → f (rec_of Q b) ≡ f (rec_of R b)) (sym (thing_eq a (k, a.1) q refl)) (agree k f e a.1) h

  -- things of one kind with one number
  same_thing : (x y : Thing) → x.0 ≡ y.0 → Live Q x → Live R y → num Q x ≡ num R y → x ≡ y
  same_thing x y k l l' e = num_inj Q S.tabs x y k l (omega (arith, l', alive_same y)) (e ∙ sym (num_same y))

  -- a list by numbers is the list
  same_at : (r : Role) (a : Thing) → (a.0 ≡ holder_of r → Live Q a → map (num Q) (Q.list a r) ≡ map (num R) (R.list a r)) → Q.list a r ≡ R.list a r
  same_at r a h =
      by_cases (Kind-dec a.0 (holder_of r))
      (λ k. ⊎_elim (λ z. none_there (λ _ l. absurd (omega (arith, z, l)))) (λ l. map_inj Thing-dec (num Q) (Q.list a r) (R.list a r) tell (h k l ∙ map_on Thing-dec (num R) (num Q) (R.list a r) (λ x _. sym (num_same x)))) (zero_or (alive Q a)))
      (λ n. none_there (λ k _. n k))
    where
      none_there : (a.0 ≡ holder_of r → Live Q a → ⊥) → Q.list a r ≡ R.list a r
      none_there n = listless S a r n ∙ sym (listless S' a r (λ k l. n k (omega (arith, l, alive_same a))))

      tell : (x y : Thing) → In Thing-dec x (Q.list a r) → In Thing-dec y (R.list a r) → num Q x ≡ num Q y → x ≡ y
      tell x y i j e =
          let L : Link Q x (fam r) (r, a) = S.link x (fam r) (r, a) (listed S x a r i) in
          let M : Link R y (fam r) (r, a) = S'.link y (fam r) (r, a) (listed S' y a r j) in
          same_thing x y (L.node ∙ sym M.node) L.live M.live (e ∙ num_same y)

  module _ (E : meaning Q ≡ meaning R) where
    -- what is shown of an operation, of a block
    operation_seen : (a : Thing) → a.0 ≡ op → Live Q a → op_of (rec_of Q a) ≡ op_of (rec_of R a)
    unfolding meaning rule_state hist
    operation_seen = seen op op_of (ap (λ (s : RState). s.history.operations) E)

    block_seen : (a : Thing) → a.0 ≡ blk → Live Q a → block_of (rec_of Q a) ≡ block_of (rec_of R a)
    unfolding meaning rule_state hist
    block_seen = seen blk block_of (ap (λ (s : RState). s.history.blocks) E)

    use_seen : (a : Thing) → a.0 ≡ usg → Live Q a → use_of (rec_of Q a) ≡ use_of (rec_of R a)
    unfolding meaning rule_state hist
    use_seen = seen usg use_of (ap (λ (s : RState). s.history.uses) E)

    -- the lists that are shown
    module _ (values : (a : Thing) → Q.list a value_uses ≡ R.list a value_uses) (targets : (a : Thing) → Q.list a block_uses ≡ R.list a block_uses) where
      same_list : (a : Thing) (r : Role) → Q.list a r ≡ R.list a r
      unfolding rec_of meaning rule_state orders_of
      same_list a operands = same_at operands a (λ k l. ap (λ (o : Operation). o.operands) (operation_seen a k l))
      same_list a successors = same_at successors a (λ k l. ap (λ (o : Operation). o.successors) (operation_seen a k l))
      same_list a value_uses = values a
      same_list a block_uses = targets a
      same_list a results = same_at results a (λ k l. ap (λ (o : Operation). o.results) (operation_seen a k l))
      same_list a arguments = same_at arguments a (λ k l. ap (λ (b : Block). b.arguments) (block_seen a k l))
      same_list a regions = same_at regions a (λ k l. ap (λ (o : Operation). o.regions) (operation_seen a k l))
      same_list a ops = same_at ops a (λ k l. seen blk (λ e. e.lists ops) (ap (λ (s : RState). s.orders.ops_of) E) a k l)
      same_list a blocks = same_at blocks a (λ k l. seen reg (λ e. e.lists blocks) (ap (λ (s : RState). s.orders.blocks_of) E) a k l)

    same_tag : Spare Q → Spare R → (k : Kind) (p : ℕ) → Q.tag (k, p) ≡ R.tag (k, p)
    unfolding rec_of meaning rule_state
    same_tag s s' op p = ⊎_elim (λ z. s.dead (op, p) z ∙ sym (s'.dead (op, p) (sym (alive_same (op, p)) ∙ z))) (λ l. seen op (λ e. e.tag) (ap (λ (s : RState). s.flags) E) (op, p) refl l) (zero_or (alive Q (op, p)))
    same_tag s s' blk p = s.on_block p ∙ sym (s'.on_block p)
    same_tag s s' reg p = s.on_region p ∙ sym (s'.on_region p)
    same_tag s s' val p = ⊎_elim (λ z. s.dead (val, p) z ∙ sym (s'.dead (val, p) (sym (alive_same (val, p)) ∙ z))) (λ l. seen val (λ e. e.tag) (ap (λ (s : RState). s.types) E) (val, p) refl l) (zero_or (alive Q (val, p)))
    same_tag s s' usg p = s.on_use p ∙ sym (s'.on_use p)

-- the theorem: with the same use sets, the same store
pub same_store : {Q R : State} → Linked Q → Linked R → ((k : Kind) → Q.tab k ≡ R.tab k) → meaning Q ≡ meaning R → Spare Q → Spare R
    → ((a : Thing) → Q.list a value_uses ≡ R.list a value_uses) → ((a : Thing) → Q.list a block_uses ≡ R.list a block_uses) → Q ≡ R
same_store {Q} {R} S S' T E s s' values targets =
    λ i. record { tab = λ k. T k i; list = λ a r. lists a r i; own = λ x f. owners x f i; tag = λ a. same_tag S S' T E s s' a.0 a.1 i }
  where
    lists : (a : Thing) (r : Role) → Q.list a r ≡ R.list a r
    lists = same_list S S' T E values targets

    owners : (x : Thing) (f : Fam) → Q.own x f ≡ R.own x f
    owners x f = same_option (Q.own x f) (R.own x f) (own_too S S' lists x f) (own_too S' S (λ a r. sym (lists a r)) x f)

-- ---- the uses of a definition

-- the number and the sort of what is used
id_of : Definition → ℕ
id_of (of_value n) = n
id_of (of_block n) = n

sort_number : Definition → ℕ
sort_number (of_value n) = 0
sort_number (of_block n) = 1

record SameDef (r r' : Role) (n n' : ℕ) : Type 0 where
  role : r ≡ r'
  number : n ≡ n'

def_inj : {s r s' r' : Role} → Fit s r → Fit s' r' → (n n' : ℕ) → def_by r n ≡ def_by r' n' → SameDef r r' n n'
unfolding id_of sort_number
def_inj Fit.operand Fit.operand n n' e = record { role = refl; number = ap id_of e }
def_inj Fit.operand Fit.successor n n' e = absurd (omega (arith, ap sort_number e))
def_inj Fit.successor Fit.operand n n' e = absurd (omega (arith, ap sort_number e))
def_inj Fit.successor Fit.successor n n' e = record { role = refl; number = ap id_of e }

record OfUses (r : Role) : Type 0 where
  set : fam r ≡ use_sets
  node : node_of r ≡ usg

of_uses : {s r : Role} → Fit s r → OfUses r
of_uses Fit.operand = record { set = refl; node = refl }
of_uses Fit.successor = record { set = refl; node = refl }

module _ {Q R : State} (S : Sound Q) (S' : Sound R) (T : (k : Kind) → Q.tab k ≡ R.tab k) (E : meaning Q ≡ meaning R) {s r : Role} (F : Fit s r) where
  -- a use of a definition in one is a use of it in the other
  used_too : (a x : Thing) → In Thing-dec x (Q.list a r) → In Thing-dec x (R.list a r)
  unfolding rec_of
  used_too a x i = go (subst (λ (j : Kind). Placed j (R.own x)) k (S'.placed x (omega (arith, L.live, alive_same S.linked S'.linked T x))))
    where
      e : Q.own x (fam r) ≡ some (r, a)
      e = listed S.linked x a r i

      L : Link Q x (fam r) (r, a)
      L = S.linked.link x (fam r) (r, a) e

      k : x.0 ≡ usg
      k = L.node ∙ (of_uses F).node

      go : UseHeld (R.own x) → In Thing-dec x (R.list a r)
      go H =
          let M : Link R x use_sets H.def = S'.linked.link x use_sets H.def H.in_def in
          let D : SameDef r H.def.0 (num Q a) (num R H.def.1) = def_inj F H.fit (num Q a) (num R H.def.1)
          (ap (λ (o : Option Con). def_of (home_by (num Q) o)) (sym (ap (Q.own x) (sym (of_uses F).set) ∙ e))
          ∙ use_seen S.linked S'.linked T E x k L.live
          ∙ ap (λ (o : Option Con). def_of (home_by (num R) o)) H.in_def) in
          let b : a ≡ H.def.1 = same_thing S.linked S'.linked T a H.def.1 (L.holder ∙ ap holder_of D.role ∙ sym M.holder) L.home M.home D.number in
          omega (arith, once S'.linked x use_sets H.def H.in_def, ap₂ (λ c q. count Thing-dec x (R.list c q)) b D.role)

-- the theorem: a use set has the same uses, each once
pub same_uses : {Q R : State} → Sound Q → Sound R → ((k : Kind) → Q.tab k ≡ R.tab k) → meaning Q ≡ meaning R → {s r : Role} → Fit s r
    → (a x : Thing) → count Thing-dec x (Q.list a r) ≡ count Thing-dec x (R.list a r)
same_uses {Q} {R} S S' T E {r = r} F a x =
    ⊎_elim
    (λ z. ⊎_elim (λ y. z ∙ sym y) (λ j. absurd (omega (arith, z, back j))) (zero_or (count Thing-dec x (R.list a r))))
    (λ i. at_once S i ∙ sym (at_once S' (used_too S S' T E F a x i)))
    (zero_or (count Thing-dec x (Q.list a r)))
  where
    back : In Thing-dec x (R.list a r) → In Thing-dec x (Q.list a r)
    back = used_too S' S (λ k. sym (T k)) (sym E) F a x

    at_once : {P : State} → Sound P → In Thing-dec x (P.list a r) → count Thing-dec x (P.list a r) ≡ 1
    at_once Z i = once Z.linked x (fam r) (r, a) (listed Z.linked x a r i)
