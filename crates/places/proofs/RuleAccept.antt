-- An accepted edit that ends no operation, block or value: what is to be shown of the store after it, table by table; and how many uses
-- have ended. Assumes nothing.
use mathlib.Core.Path.{◌≡◌, refl, sym, ap, ap₂, ◌∙◌}
use mathlib.Core.Bool.{Bool, true, not}
use mathlib.Core.List.{List, [], ◌∷◌, ◌++◌, map, append-nil}
use native.Mathlib.Decide.{ℕ_discrete}
use native.Mathlib.Omega.{arith}
use Prim.Native.Nat.{ℕ, suc, ◌+◌, ◌-◌, ◌<◌, ◌≤◌}
use lib.ListN.{length}
use Rattle.seqs.specs.Seqs.{In, Rises}
use Rattle.places.specs.Store.{Kind, op, blk, reg, val, usg, Thing, Table, State, alive, Live, Linked, Sound}
use Rattle.places.specs.View.{Rec, num, rec_of, view}
use Rattle.places.specs.Hist.{tabled, hist, orders_of, rule_state, meaning}
use Rattle.places.specs.Walk.{pick}
use Rattle.places.specs.Accepts.{Accepts}
use Rattle.edit.specs.Record.{Edit}
use Rattle.rules.specs.Table.{keep_keys, number}
use Rattle.rules.specs.History.{History, zeros, plus, births, bear, carry_out, remember, live_operation, live_value}
use Rattle.rules.specs.Orders.{Orders, reorder}
use Rattle.rules.specs.State.{new_flags, new_types, accept}
use Rattle.seqs.proofs.Base.{in_head, in_tail}
use Rattle.places.proofs.Cut.{sift_all}
use Rattle.places.proofs.Bits.{bit, tabled_view}
use Rattle.places.proofs.Entries.{plus_zeros}
use Rattle.places.proofs.Tables.{keep_tabled}
use Rattle.places.proofs.RuleNames.{operation_live, value_live}

-- ---- what is live is kept

module _ {Q : State} (S : Sound Q) (n : ℕ) where
  kept : {A : Type 0} (k : Kind) (f : Rec → A) (live : ℕ → Bool) → ((p : ℕ) → Live Q (k, p) → live (num Q (k, p)) ≡ true) → keep_keys live (tabled f ((view Q).things k)) ≡ tabled f ((view Q).things k)
  unfolding alive pick
  kept k f live h =
      ap (keep_keys live) (tabled_view Q k f)
      ∙ keep_tabled (λ p. num Q (k, p)) (λ p. f (rec_of Q (k, p))) live (λ p. 0) (Q.tab k).order (λ p i. ap (λ (b : Bool). bit (not b)) (sym (h p i)))
      ∙ ap (map (λ p. (num Q (k, p), f (rec_of Q (k, p))))) (sift_all ℕ_discrete (λ p. 0) (Q.tab k).order (λ _ _. refl))
      ∙ sym (tabled_view Q k f)

  pub flags_kept : {A : Type 0} (f : Rec → A) → keep_keys (live_operation (hist n (view Q))) (tabled f ((view Q).things op)) ≡ tabled f ((view Q).things op)
  flags_kept f = kept op f (live_operation (hist n (view Q))) (λ p l. operation_live S n p (num Q (op, p)) l refl)

  pub types_kept : {A : Type 0} (f : Rec → A) → keep_keys (live_value (hist n (view Q))) (tabled f ((view Q).things val)) ≡ tabled f ((view Q).things val)
  types_kept f = kept val f (live_value (hist n (view Q))) (λ p l. value_live S n p (num Q (val, p)) l refl)

pub accept_is : {P Q : State} → Sound Q → (e : Edit) (n k : ℕ) → Accepts P Q e n k → rule_state k Q ≡ accept e (rule_state n P)
unfolding rule_state accept hist view
accept_is {P} {Q} S e n k A =
    λ i.
    record {
      history = A.history i;
      orders = (A.orders ∙ ap (λ (h : History). reorder e (hist n (view P)) h (orders_of (view P))) A.history) i;
      flags = (sym (flags_kept S k (λ r. r.tag)) ∙ ap₂ (λ (h : History) t. keep_keys (live_operation h) t) A.history A.flags) i;
      types = (sym (types_kept S k (λ r. r.tag)) ∙ ap₂ (λ (h : History) t. keep_keys (live_value h) t) A.history A.types) i;
      capacities = record { operations = A.caps op i; blocks = A.caps blk i; regions = A.caps reg i; values = A.caps val i; uses = A.caps usg i };
    }

-- ---- no operation and no value is born: the flags and the types keep their tables

module _ (P : State) {Q : State} (S : Sound Q) (e : Edit) (no_flags : new_flags e ≡ []) (no_types : new_types e ≡ []) (n k : ℕ) where
  none_new : (j : Kind) (l : List ℕ) → l ≡ [] → tabled (λ r. r.tag) ((view P).things j) ≡ tabled (λ r. r.tag) ((view P).things j) ++ number (P.tab j).next l
  unfolding number
  none_new j l z = sym (ap (λ (m : List ℕ). tabled (λ r. r.tag) ((view P).things j) ++ number (P.tab j).next m) z ∙ append-nil (tabled (λ r. r.tag) ((view P).things j)))

  accept_same : hist k (view Q) ≡ remember e (hist n (view P))
      → tabled (λ r. r.tag) ((view Q).things op) ≡ tabled (λ r. r.tag) ((view P).things op) → tabled (λ r. r.tag) ((view Q).things val) ≡ tabled (λ r. r.tag) ((view P).things val)
      → orders_of (view Q) ≡ reorder e (hist n (view P)) (hist k (view Q)) (orders_of (view P)) → ((j : Kind) → (Q.tab j).cap ≡ (P.tab j).cap) → rule_state k Q ≡ accept e (rule_state n P)
  accept_same history flags types orders caps =
      accept_is S e n k (record { history = history; flags = flags ∙ none_new op (new_flags e) no_flags; types = types ∙ none_new val (new_types e) no_types; orders = orders; caps = caps })

-- an edit that leaves the orders
pub record Quiet (e : Edit) : Type 0 where
  pub orders : (h k : History) (o : Orders) → reorder e h k o ≡ o
  pub flags : new_flags e ≡ []
  pub types : new_types e ≡ []

pub accept_quiet : (P : State) {Q : State} → Sound Q → (e : Edit) → Quiet e → (n k : ℕ) → hist k (view Q) ≡ remember e (hist n (view P))
    → tabled (λ r. r.tag) ((view Q).things op) ≡ tabled (λ r. r.tag) ((view P).things op) → tabled (λ r. r.tag) ((view Q).things val) ≡ tabled (λ r. r.tag) ((view P).things val)
    → orders_of (view Q) ≡ orders_of (view P) → ((j : Kind) → (Q.tab j).cap ≡ (P.tab j).cap) → rule_state k Q ≡ accept e (rule_state n P)
accept_quiet P {Q} S e Z n k history flags types orders caps =
    accept_same P S e Z.flags Z.types n k history flags types (orders ∙ sym (Z.orders (hist n (view P)) (hist k (view Q)) (orders_of (view P)))) caps

-- ---- the uses that have ended: those born and not live

below_next : (nm : ℕ → ℕ) (l : List ℕ) (lo n : ℕ) → Rises nm l → ((p : ℕ) → In ℕ_discrete p l → lo ≤ nm p) → ((p : ℕ) → In ℕ_discrete p l → nm p < n) → lo ≤ n → length l + lo ≤ n
below_next nm [] lo n r a b h = omega (arith, h)
below_next nm (p ∷ l) lo n r a b h =
    omega (arith, a p (in_head ℕ_discrete p l), below_next nm l (suc (nm p)) n r.1 (λ q i. r.0 q i) (λ q i. b q (in_tail ℕ_discrete q p l i)) (b p (in_head ℕ_discrete p l)))

-- no more are live than were born
pub lives_born : {P : State} → Linked P → (k : Kind) → length (P.tab k).order ≤ (P.tab k).next
lives_born {P} S k = omega (arith, below_next (P.tab k).num (P.tab k).order 0 (P.tab k).next (S.tabs k).rises (λ p i. omega arith) (S.tabs k).below (omega arith))

abbrev pub ended_of : State → ℕ
ended_of P = (P.tab usg).next - length (P.tab usg).order

-- ---- an edit that gives birth to nothing and ends nothing, from P to Q: the tables and the tags are the same

pub record Kept (e : Edit) (P Q : State) : Type 0 where
  pub tables : Q.tab ≡ P.tab
  pub tags : Q.tag ≡ P.tag
  pub no_births : births e ≡ zeros
  pub no_flags : new_flags e ≡ []
  pub no_types : new_types e ≡ []
  pub history : (n : ℕ) → carry_out e (hist n (view P)) ≡ hist n (view Q)
  pub orders : (n : ℕ) → reorder e (hist n (view P)) (hist n (view Q)) (orders_of (view P)) ≡ orders_of (view Q)

module _ {P Q : State} (S : Sound Q) (e : Edit) (K : Kept e P Q) where
  tags_same : (k : Kind) → tabled (λ r. r.tag) ((view Q).things k) ≡ tabled (λ r. r.tag) ((view P).things k)
  unfolding rec_of
  tags_same k =
      tabled_view Q k (λ r. r.tag)
      ∙ ap₂ (λ (u : Kind → Table) (v : Thing → ℕ). map (λ p. ((u k).num p, v (k, p))) (u k).order) K.tables K.tags
      ∙ sym (tabled_view P k (λ r. r.tag))

  remembered : hist (ended_of P) (view Q) ≡ remember e (hist (ended_of P) (view P))
  unfolding remember bear hist view
  remembered =
      sym (ap₂ bear (ap (plus (hist (ended_of P) (view P)).born) K.no_births ∙ plus_zeros (hist (ended_of P) (view P)).born ∙ sym (ap (λ (t : Kind → Table). record { operations = (t op).next; blocks = (t blk).next; regions = (t reg).next; values = (t val).next; uses = (t usg).next }) K.tables)) (K.history (ended_of P)))

  pub accept_kept : meaning Q ≡ accept e (meaning P)
  unfolding meaning
  accept_kept =
      ap (λ (t : Kind → Table). rule_state ((t usg).next - length (t usg).order) Q) K.tables
      ∙ accept_same P S e K.no_flags K.no_types (ended_of P) (ended_of P) remembered (tags_same op) (tags_same val) (sym (K.orders (ended_of P))) (λ j. ap (λ (t : Kind → Table). (t j).cap) K.tables)
