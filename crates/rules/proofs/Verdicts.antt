-- Two states that differ only in values, operands and value uses give every verdict the same reply.
-- Assumes nothing.
use mathlib.Core.Path.{◌≡◌, refl, sym, ap, subst, ◌∙◌}
use mathlib.Core.Bool.{Bool, true, false, cond}
use mathlib.Core.List.{List, [], ◌∷◌, map}
use mathlib.Core.Option.{Option, none, some}
use Prim.Native.Nat.{ℕ, suc, ◌≤◌}
use native.Mathlib.Omega.{arith}
use borrow.Author.Tests.{ne_eqb}
use lib.Dec.{T, eqb, eqb→eq}
use Rattle.rules.specs.Table.{Table, Rising, spread, find, find_key, remake, change, member, is_some, one, count}
use Rattle.edit.specs.Record.{successor, Thing, the_operation, the_block, the_region, verdict}
use Rattle.rules.specs.History.{Operation, Block, uses_in, live_operation, live_block, live_region, parent}
use Rattle.rules.specs.Orders.{Orders}
use Rattle.rules.specs.State.{State, accept, number_at, or_zero}
use Rattle.edit.specs.Answer.{Reply, refuse}
use Rattle.rules.specs.Verdict.{Seen, Sight, target, sight, verdict_on}
use Rattle.rules.specs.Refusal.{named, thing_named, missing, first_missing, check, or_else, from_state, refusal_of}
use Rattle.rules.specs.Step.{answer, perform}
use Rattle.rules.proofs.Laws.{is_true, eqb_same, omap}
use Rattle.rules.proofs.Regions.{rising_find}
use Rattle.rules.proofs.Tables.{weigh_at}

-- what a verdict can see of an operation without its flags
pub record Bones : Type 0 where
  pub block : Option ℕ
  pub regions : List ℕ
  pub successors : List ℕ

abbrev pub bones : ℕ → Operation → Bones
bones n o = record { block = o.block; regions = o.regions; successors = o.successors }

abbrev pub region_in : ℕ → Block → Option ℕ
region_in n b = b.region

module _ {A B : Type 0} (g : ℕ → A → B) where
  find_remake : (t : Table A) (n : ℕ) → find (remake g t) n ≡ omap (g n) (find t n)
  unfolding find remake
  find_remake [] n = refl
  find_remake (e ∷ t) n = go (eqb e.0 n) refl (find_remake t n)
    where
      go : (c : Bool) → eqb e.0 n ≡ c → find (remake g t) n ≡ omap (g n) (find t n) → cond (eqb e.0 n) (some (g e.0 e.1)) (find (remake g t) n) ≡ omap (g n) (cond (eqb e.0 n) (some e.1) (find t n))
      go true w ih = rw w (ap (λ (x : ℕ). some (g x e.1)) (eqb→eq e.0 n (is_true w)))
      go false w ih = rw w ih

  pub some_remake : (t : Table A) (n : ℕ) → is_some (find (remake g t) n) ≡ is_some (find t n)
  unfolding is_some
  some_remake t n = ap is_some (find_remake t n) ∙ at (find t n)
    where
      at : (o : Option A) → is_some (omap (g n) o) ≡ is_some o
      at none = refl
      at (some a) = refl

  -- a change at one number that g does not see
  pub remake_change : (n : ℕ) (c : A → A) (t : Table A) → ((m : ℕ) (a : A) → g m (c a) ≡ g m a) → remake g (change n c t) ≡ remake g t
  unfolding remake change
  remake_change n c [] k = refl
  remake_change n c (e ∷ t) k = go (eqb e.0 n) (remake_change n c t k)
    where
      go : (b : Bool) → remake g (change n c t) ≡ remake g t → remake g (cond b ((e.0, c e.1) ∷ change n c t) (e ∷ change n c t)) ≡ (e.0, g e.0 e.1) ∷ remake g t
      go true ih = ap (λ (x : B). (e.0, x) ∷ remake g (change n c t)) (k e.0 e.1) ∙ ap {B = Table B} (λ x. (e.0, g e.0 e.1) ∷ x) ih
      go false ih = ap {B = Table B} (λ x. (e.0, g e.0 e.1) ∷ x) ih

remake_twice : {A B C : Type 0} (g : ℕ → A → B) (f : ℕ → B → C) (t : Table A) → remake f (remake g t) ≡ remake (λ n a. f n (g n a)) t
unfolding remake
remake_twice g f [] = refl
remake_twice {A} {B} {C} g f (e ∷ t) = ap {B = Table C} (λ x. (e.0, f e.0 (g e.0 e.1)) ∷ x) (remake_twice g f t)

key_remake : {A B : Type 0} (g : ℕ → A → B) (p : B → Bool) (q : A → Bool) (t : Table A) → ((n : ℕ) (a : A) → p (g n a) ≡ q a) → find_key p (remake g t) ≡ find_key q t
unfolding find_key remake
key_remake g p q [] k = refl
key_remake g p q (e ∷ t) k = rw (k e.0 e.1) (ap (λ (o : Option ℕ). cond (q e.1) (some e.0) o) (key_remake g p q t k))

remake_same : {A B : Type 0} (f g : ℕ → A → B) (lo b : ℕ) (t : Table A) → Rising lo b t → ((n : ℕ) (a : A) → find t n ≡ some a → f n a ≡ g n a) → remake f t ≡ remake g t
unfolding find remake
remake_same f g lo b [] r k = refl
remake_same {A} {B} f g lo b (e ∷ t) r k =
    ap (λ (x : B). (e.0, x) ∷ remake f t) (k e.0 e.1 (rw (eqb_same e.0) refl))
    ∙ ap {B = Table B} (λ x. (e.0, g e.0 e.1) ∷ x) (remake_same f g (suc e.0) b t r.1 (λ n a q. k n a (rw (ne_eqb e.0 n (λ z. omega (arith, rising_find (suc e.0) b t n a r.1 q))) q)))

map_same : {B : Type 0} (f g : ℕ → B) (xs : List ℕ) → ((u : ℕ) → 1 ≤ count u xs → f u ≡ g u) → map f xs ≡ map g xs
map_same f g [] k = refl
map_same {B} f g (x ∷ xs) k = ap (λ (y : B). y ∷ map f xs) (k x (omega (arith, ap one (eqb_same x)))) ∙ ap {B = List B} (λ y. g x ∷ y) (map_same f g xs (λ u q. k u (omega arith)))

-- ---- two states alike but for readings

pub record Quiet (s t : State) : Type 0 where
  pub rise : (b : ℕ) × Rising 0 b s.history.operations
  pub ops : remake bones t.history.operations ≡ remake bones s.history.operations
  pub blks : remake region_in t.history.blocks ≡ remake region_in s.history.blocks
  pub orders : t.orders ≡ s.orders
  pub flags : (n : ℕ) → T (live_operation s.history n) → find t.flags n ≡ find s.flags n
  pub uses : (u : ℕ) → 1 ≤ spread (uses_in successor) u s.history.operations → find t.history.uses u ≡ find s.history.uses u

module _ (s t : State) (w : Quiet s t) where
  look : State → ℕ → Bones → Seen
  look z n o = record { flags = number_at z.flags n; block = o.block; regions = o.regions; targets = map (λ u. target (find z.history.uses u)) o.successors }

  looks : (z : State) → (sight z).operations ≡ remake (look z) (remake bones z.history.operations)
  unfolding sight look
  looks z = sym (remake_twice bones (look z) z.history.operations)

  same_look : (n : ℕ) (o : Operation) → find s.history.operations n ≡ some o → look t n (bones n o) ≡ look s n (bones n o)
  unfolding look number_at
  same_look n o e = ap (λ (x : ℕ). record { flags = x; block = o.block; regions = o.regions; targets = map (λ u. target (find t.history.uses u)) o.successors }) (ap or_zero (w.flags n (unfold live_operation is_some in (subst (λ (q : Option Operation). T (is_some q)) (sym e) (unfold is_some in tt))))) ∙ ap (λ (x : List ℕ). record { flags = or_zero (find s.flags n); block = o.block; regions = o.regions; targets = x }) (map_same (λ u. target (find t.history.uses u)) (λ u. target (find s.history.uses u)) o.successors (λ u q. ap target (w.uses u (stands u q))))
    where
      stands : (u : ℕ) → 1 ≤ count u o.successors → 1 ≤ spread (uses_in successor) u s.history.operations
      stands u q = let z : count u (uses_in successor o) ≤ spread (uses_in successor) u s.history.operations = weigh_at (λ a. count u ((uses_in successor) a)) n s.history.operations o e in let y : count u (uses_in successor o) ≡ count u o.successors = unfold uses_in in refl in omega arith

  same_operations : (sight t).operations ≡ (sight s).operations
  same_operations =
      looks t ∙ ap (remake (look t)) w.ops ∙ remake_twice bones (look t) s.history.operations
      ∙ remake_same (λ n o. look t n (bones n o)) (λ n o. look s n (bones n o)) 0 w.rise.0 s.history.operations w.rise.1 same_look
      ∙ sym (remake_twice bones (look s) s.history.operations) ∙ sym (looks s)

  sight_is : (z : State) → sight z ≡ record { operations = (sight z).operations; region_over = remake region_in z.history.blocks; orders = z.orders }
  unfolding sight
  sight_is z = refl

  pub same_sight : sight t ≡ sight s
  same_sight =
      sight_is t
      ∙ ap (λ (x : Table Seen). record { operations = x; region_over = remake region_in t.history.blocks; orders = t.orders }) same_operations
      ∙ ap (λ (x : Table (Option ℕ)). record { operations = (sight s).operations; region_over = x; orders = t.orders }) w.blks
      ∙ ap (λ (x : Orders). record { operations = (sight s).operations; region_over = remake region_in s.history.blocks; orders = x }) w.orders
      ∙ sym (sight_is s)

  same_missing : (th : Thing) → missing t.history (thing_named th) ≡ missing s.history (thing_named th)
  unfolding missing thing_named live_operation live_block live_region parent
  same_missing (the_operation n) = ap (λ (b : Bool). check b 0 7) (sym (some_remake bones t.history.operations n) ∙ ap (λ (x : Table Bones). is_some (find x n)) w.ops ∙ some_remake bones s.history.operations n)
  same_missing (the_block n) = ap (λ (b : Bool). check b 0 8) (sym (some_remake region_in t.history.blocks n) ∙ ap (λ (x : Table (Option ℕ)). is_some (find x n)) w.blks ∙ some_remake region_in s.history.blocks n)
  same_missing (the_region r) = ap (λ (o : Option ℕ). check (is_some o) 0 9) (sym (owner t) ∙ ap (find_key (λ (x : Bones). member r x.regions)) w.ops ∙ owner s)
    where
      owner : (z : State) → find_key (λ (x : Bones). member r x.regions) (remake bones z.history.operations) ≡ find_key (λ (o : Operation). member r o.regions) z.history.operations
      owner z = key_remake bones (λ (x : Bones). member r x.regions) (λ (o : Operation). member r o.regions) z.history.operations (λ n a. refl)

  same_refusal : (th : Thing) → refusal_of t (verdict th) ≡ refusal_of s (verdict th)
  unfolding refusal_of from_state named first_missing
  same_refusal th = ap (λ (v : Sight). or_else (or_else (missing t.history (thing_named th)) 0) (verdict_on v th).refusal) same_sight ∙ ap (λ (m : ℕ). or_else (or_else m 0) (verdict_on (sight s) th).refusal) (same_missing th)

  -- the reply of every verdict request is the same
  pub same_verdict : (th : Thing) → (perform t (verdict th)).0 ≡ (perform s (verdict th)).0
  unfolding perform answer
  same_verdict th = asked t ∙ ap (λ (n : ℕ). cond (eqb n 0) (verdict_on (sight t) th) (refuse n)) (same_refusal th) ∙ ap (λ (v : Sight). cond (eqb (refusal_of s (verdict th)) 0) (verdict_on v th) (refuse (refusal_of s (verdict th)))) same_sight ∙ sym (asked s)
    where
      asked : (z : State) → (perform z (verdict th)).0 ≡ cond (eqb (refusal_of z (verdict th)) 0) (verdict_on (sight z) th) (refuse (refusal_of z (verdict th)))
      asked z = go (eqb (refusal_of z (verdict th)) 0)
        where
          go : (b : Bool) → (cond {A = Reply × State} b (verdict_on (sight z) th, accept (verdict th) z) (refuse (refusal_of z (verdict th)), z)).0 ≡ cond b (verdict_on (sight z) th) (refuse (refusal_of z (verdict th)))
          go true = refl
          go false = refl
