-- The definition of a use, and the uses of a definition, as the cells say them and as the rules do. Assumes nothing.
use mathlib.Core.Path.{◌≡◌, refl, sym, ap, ◌∙◌, subst}
use mathlib.Core.Logic.{by_cases}
use mathlib.Core.Bool.{Bool, true, false, cond}
use mathlib.Core.List.{List, [], ◌∷◌, ◌++◌, append_assoc}
use mathlib.Core.Option.{Option, some}
use Rattle.std.specs.Prelude as Rust
use Rattle.std.specs.Prelude.{Some, None}
use native.Mathlib.Decide.{dec_lt}
use Prim.Native.Nat.{ℕ, ◌-◌}
use native.Mathlib.Omega.{arith}
use lib.ListN.{length, get_or}
use Rattle.seqs.specs.Seqs.{tick}
use Rattle.seqs.proofs.Base.{tick_yes, tick_no}
use Rattle.places.specs.Store.{usg, Role, operands, successors, value_uses, block_uses, results, arguments, regions, ops, blocks, Fam, use_sets, Con, Con-dec, State, Live, UseHeld, owns}
use Rattle.places.specs.View.{num, rec_of}
use Rattle.places.specs.Hist.{def_by, use_of, hist, rule_state, meaning}
use Rattle.places.specs.Parts.{rows_of}
use Rattle.places.proofs.Steps.{some_none}
use Rattle.places.proofs.Bits.{bit, bit_true, bit_false, tabled_view}
use Rattle.places.proofs.RuleOutside.{IsDef}
use Rattle.places.proofs.RuleNames.{use_is, use_test}
use Rattle.edit.specs.Record.{Definition}
use Rattle.rules.specs.Table.{find, keys_where}
use Rattle.rules.specs.History.{same_definition, uses_of}
use Rattle.rules.specs.Step.{definition_number}
use Rattle.rules.specs.Listing as rules
use Rattle.context.specs.declared.Layout.{Layout}
use Rattle.context.specs.Memory.{con, state_of, SoundStore, HomeIs}
use Rattle.context.specs.Performed.{abs}
use Rattle.context.specs.Reading.{DefinitionIs}
use Rattle.context.proofs.Families.{con_back, con_holder}
use Rattle.context.proofs.Numbers.{value_set, block_set}
use Rattle.listing.specs.declared.Pen.{Pen}
use Rattle.listing.specs.Writer.{Wrote}
use Rattle.listing.specs.Lines.{definition_at, uses_among, listed}
use Rattle.listing.proofs.Pens.{Pieces, same_text, ends, nothing}

number_by : (r : Role) (n : ℕ) → definition_number (some (def_by r n)) ≡ n
unfolding definition_number
number_by operands n = refl
number_by successors n = refl
number_by value_uses n = refl
number_by block_uses n = refl
number_by results n = refl
number_by arguments n = refl
number_by regions n = refl
number_by ops n = refl
number_by blocks n = refl

-- ---- the definition of the use u

module _ {l : Layout} {m : List ℕ} (S : SoundStore l m) (u : ℕ) (lu : Live (state_of l m) (usg, u)) where
  abbrev P : State
  P = state_of l m

  held : UseHeld (P.own (usg, u))
  held = S.sound.placed (usg, u) lu

  homeless : HomeIs l use_sets u m None → ⊥
  homeless H = some_none held.in_def H.own

  pub definition_is : {x : ℕ} → DefinitionIs l u m x → x ≡ definition_number (find (abs l m).history.uses (num P (usg, u)))
  unfolding abs meaning rule_state
  definition_is D =
      D.is held.def held.in_def
      ∙ sym
      (ap definition_number (use_is S.sound ((P.tab usg).next - length (P.tab usg).order) u lu (num P (usg, u)) held.def refl held.in_def)
      ∙ number_by held.def.0 (num P held.def.1))

-- ---- the uses of the definition whose set is k

pub is_def : (l : Layout) (k : ℕ) → IsDef (con l use_sets k).0
is_def l k =
    by_cases (dec_lt k l.values)
    (λ h. subst (λ (c : Con). IsDef c.0) (sym (value_set l k h)) IsDef.of_val)
    (λ h. subst (λ (c : Con). IsDef c.0) (sym (block_set l k (omega (arith, h)))) IsDef.of_blk)

module _ {l : Layout} {m : List ℕ} (S : SoundStore l m) (k : ℕ) (lc : Live (state_of l m) (con l use_sets k).1) (u : ℕ) (lu : Live (state_of l m) (usg, u)) where
  abbrev Q : State
  Q = state_of l m

  abbrev is_use : Bool
  is_use = same_definition (definition_at l m k) (use_of (rec_of Q (usg, u)))

  module _ {d : ℕ} (H : HomeIs l use_sets u m (Some d)) where
    test_is : bit is_use ≡ tick (Con-dec (con l use_sets d) (con l use_sets k))
    unfolding owns
    test_is =
        use_test S.sound 0 (con l use_sets k) (is_def l k) (con_holder l.values l.ops use_sets k) lc u lu
        ∙ S.sound.linked.held (con l use_sets k).0 (con l use_sets k).1 (usg, u)
        ∙ ap (λ (f : Fam). owns (Q.own (usg, u) f) (con l use_sets k)) (con_back l.values l.ops use_sets k).family
        ∙ ap (λ (o : Option Con). owns o (con l use_sets k)) H.own

    use_yes : d ≡ k → is_use ≡ true
    use_yes e = bit_true is_use (omega (arith, test_is, tick_yes (Con-dec (con l use_sets d) (con l use_sets k)) (ap (con l use_sets) e)))

    use_no : (d ≡ k → ⊥) → is_use ≡ false
    use_no n =
        bit_false is_use
        (test_is
        ∙ tick_no (Con-dec (con l use_sets d) (con l use_sets k))
        (λ e. n (sym (con_back l.values l.ops use_sets d).number ∙ ap (λ (c : Con). (rows_of l.values l.ops).row c.0 c.1.1) e ∙ (con_back l.values l.ops use_sets k).number)))

  -- the one use is among the definition's uses, or not
  pub among_yes : {h : Rust.Option ℕ} → HomeIs l use_sets u m h → h ≡ Some k → uses_among Q (definition_at l m k) (u ∷ []) ≡ num Q (usg, u) ∷ []
  unfolding keys_where
  among_yes {h} H e = ap (λ (t : Bool). cond {A = List ℕ} t (num Q (usg, u) ∷ []) []) (use_yes (subst (λ (o : Rust.Option ℕ). HomeIs l use_sets u m o) e H) refl)

  pub among_no : {h : Rust.Option ℕ} → HomeIs l use_sets u m h → (h ≡ Some k → ⊥) → uses_among Q (definition_at l m k) (u ∷ []) ≡ []
  unfolding keys_where
  among_no {h} H n = ap (λ (t : Bool). cond {A = List ℕ} t (num Q (usg, u) ∷ []) []) (go h H n)
    where
      go : (o : Rust.Option ℕ) → HomeIs l use_sets u m o → (o ≡ Some k → ⊥) → is_use ≡ false
      go None G n = absurd (homeless S u lu G)
      go (Some d) G n = use_no G (λ e. n (ap Some e))

  -- the i-th live use alone
  module _ {h : Rust.Option ℕ} (H : HomeIs l use_sets u m h) (i : ℕ) (at : u ≡ get_or (Q.tab usg).order i 0) where
    pub one_yes : h ≡ Some k → uses_among Q (definition_at l m k) (get_or (Q.tab usg).order i 0 ∷ []) ≡ num Q (usg, u) ∷ []
    one_yes e = ap (λ (v : ℕ). uses_among Q (definition_at l m k) (v ∷ [])) (sym at) ∙ among_yes H e

    pub one_no : (h ≡ Some k → ⊥) → uses_among Q (definition_at l m k) (get_or (Q.tab usg).order i 0 ∷ []) ≡ []
    one_no n = ap (λ (v : ℕ). uses_among Q (definition_at l m k) (v ∷ [])) (sym at) ∙ among_no H n

-- the uses among a list, one after another
pub among_pieces : (P : State) (d : Definition) → Pieces (uses_among P d)
unfolding keys_where
among_pieces P d = record { none = refl; more = λ u us. go u us (same_definition d (use_of (rec_of P (usg, u)))) }
  where
    go : (u : ℕ) (us : List ℕ) (t : Bool) → cond {A = List ℕ} t (num P (usg, u) ∷ uses_among P d us) (uses_among P d us) ≡ cond {A = List ℕ} t (num P (usg, u) ∷ []) [] ++ uses_among P d us
    go u us true = refl
    go u us false = refl

-- the rules' uses of the definition
pub uses_are : (l : Layout) (m : List ℕ) (d : Definition) → uses_of (abs l m).history d ≡ uses_among (state_of l m) d ((state_of l m).tab usg).order
unfolding uses_of abs meaning rule_state hist
uses_are l m d = ap (keys_where (same_definition d)) (tabled_view (state_of l m) usg use_of)

nums_append : (a b : List ℕ) → rules.nums (a ++ b) ≡ rules.nums a ++ rules.nums b
unfolding rules.nums
nums_append [] b = refl
nums_append (x ∷ a) b = ap (λ (t : List ℕ). rules.num x ++ t) (nums_append a b) ∙ sym (append_assoc (rules.num x) (rules.nums a) (rules.nums b))

-- their text, one after another
abbrev pub uses_text : State → Definition → List ℕ → List ℕ
uses_text P d us = rules.nums (uses_among P d us)

pub uses_pieces : (P : State) (d : Definition) → Pieces (uses_text P d)
unfolding rules.nums keys_where
uses_pieces P d = record { none = refl; more = λ u us. ap rules.nums ((among_pieces P d).more u us) ∙ nums_append (uses_among P d (u ∷ [])) (uses_among P d us) }

-- what a turn of the loop over the live uses writes
module _ {o : Rust.Option ℕ} {us : List ℕ} (e : listed o ≡ us) where
  pub use_written : {x : ℕ} {q r s : Pen ℕ} → o ≡ Some x → s ≡ r → Wrote (rules.num x) q r → Wrote (rules.nums us) q s
  unfolding rules.nums
  use_written {x} {q} h z w = subst (λ (p : Pen ℕ). Wrote (rules.nums us) q p) (sym z) (same_text (ap rules.nums (ap listed (sym h) ∙ e)) (ends w))

  pub use_left : {q r : Pen ℕ} → o ≡ None → r ≡ q → Wrote (rules.nums us) q r
  unfolding rules.nums
  use_left {q} h z = subst (λ (p : Pen ℕ). Wrote (rules.nums us) q p) (sym z) (same_text (ap rules.nums (ap listed (sym h) ∙ e)) nothing)
