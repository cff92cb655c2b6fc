-- Marks in the scratch: what a walk gives them to, and that a second walk takes them away. Assumes nothing.
use mathlib.Core.Path.{◌≡◌, refl, sym, ap, ◌∙◌, subst}
use mathlib.Core.Logic.{by_cases, ⊎_elim}
use mathlib.Core.List.{List, [], ◌∷◌, ◌++◌}
use native.Mathlib.Decide.{ℕ_discrete}
use native.Mathlib.Omega.{arith}
use Prim.Native.Nat.{ℕ, zero, suc, ◌+◌, ◌-◌, ◌<◌}
use lib.ListN.{length, get_or, set, length-set}
use lib.Seq.{get_or-set_same, get_or-set_other}
use Rattle.seqs.specs.Seqs.{count}
use Rattle.places.specs.Store.{op, Thing, Thing-dec, State}
use Rattle.places.specs.Parts.{node_in}
use Rattle.places.specs.Walk.{pick, sgn, gather, kids}
use Rattle.seqs.proofs.Base.{tick_yes, tick_no, count_append}
use Rattle.places.proofs.Cut.{pick_0, pick_1, zero_or}
use Rattle.places.proofs.Nest.{kind_code}
use Rattle.places.proofs.DropTurn.{append_nil, gather_append}
use Rattle.context.specs.declared.Layout.{Layout}
use Rattle.context.specs.declared.Thing as nest
use Rattle.std.specs.Prelude.{Result}
use Rattle.edit.specs.Kinds.{code_of}
use Rattle.edit.specs.declared.Nested.{Nested}
use Rattle.edit.specs.declared.Nested.TheVariants.{Operation, Block, Region}
use Rattle.edit.specs.declared.Refusal.{Refusal}
use Rattle.context.specs.Memory.{state_of, SoundStore}
use Rattle.context.specs.Nest.{nested_kind, inner_fam, thing_at}
use Rattle.context.specs.Reading.{NodesAre}
use Rattle.context.proofs.Rest.{Rest, rest_all, rest_on}
use Rattle.walk.specs.Erase.{inner_kind}
use Rattle.walk.specs.Tests.{within, alone, DepthIs, marks_in, Given, Testable, Zeros, erase_code, Tested}
use Rattle.walk.proofs.Strays.{nest_row, within_step, within_none, child_is}

-- ---- marks given

pub given_none : (v : ℕ) (s : List ℕ) → Given [] v s s
unfolding pick
given_none v s = record { long = refl; at = λ o. refl }

pub given_append : {a b : List Thing} {v : ℕ} {s s₁ s₂ : List ℕ} → Given a v s s₁ → Given b v s₁ s₂ → Given (a ++ b) v s s₂
given_append {a} {b} {v} {s} {s₁} {s₂} A B = record { long = B.long ∙ A.long; at = λ o. B.at o ∙ ap (λ (t : ℕ). pick (count Thing-dec (op, o) b) t v) (A.at o) ∙ both (count Thing-dec (op, o) a) (count Thing-dec (op, o) b) (get_or s o 0) ∙ ap (λ (t : ℕ). pick t (get_or s o 0) v) (sym (count_append Thing-dec (op, o) a b)) }
  where
    both : (i j w : ℕ) → pick j (pick i w v) v ≡ pick (i + j) w v
    both i j w =
        ⊎_elim
        (λ z. pick_0 j (pick i w v) v z ∙ ap (λ (t : ℕ). pick t w v) (omega (arith, z)))
        (λ g. pick_1 j (pick i w v) v g ∙ sym (pick_1 (i + j) w v (omega (arith, g))))
        (zero_or j)

-- an operation alone, and a thing of another kind
pub given_op : (p v : ℕ) (s : List ℕ) → p < length s → Given (alone (op, p)) v s (set s p v)
given_op p v s h = record { long = length-set s p v; at = at }
  where
    at : (o : ℕ) → get_or (set s p v) o 0 ≡ pick (count Thing-dec (op, o) (alone (op, p))) (get_or s o 0) v
    at o =
        by_cases (ℕ_discrete o p)
        (λ q. ap (λ (t : ℕ). get_or (set s p v) t 0) q ∙ get_or-set_same s p v 0 h ∙ sym (pick_1 (count Thing-dec (op, o) (alone (op, p))) (get_or s o 0) v (omega (arith, tick_yes (Thing-dec (op, o) (op, p)) (ap (λ (t : ℕ). (op, t)) q)))))
        (λ n. get_or-set_other s p o v 0 n ∙ sym (pick_0 (count Thing-dec (op, o) (alone (op, p))) (get_or s o 0) v (omega (arith, tick_no (Thing-dec (op, o) (op, p)) (λ w. n (ap (λ (t : Thing). t.1) w))))))

pub given_other : (k : Nested) (p v : ℕ) (s : List ℕ) → (k ≡ Operation → ⊥) → Given (alone (nested_kind k, p)) v s s
unfolding kind_code
given_other k p v s n = record { long = refl; at = λ o. sym (pick_0 (count Thing-dec (op, o) (alone (nested_kind k, p))) (get_or s o 0) v (omega (arith, tick_no (Thing-dec (op, o) (nested_kind k, p)) (λ w. apart k n (ap (λ (t : Thing). kind_code t.0) w))))) }
  where
    apart : (k : Nested) → (k ≡ Operation → ⊥) → kind_code op ≡ kind_code (nested_kind k) → ⊥
    apart Operation n e = n refl
    apart Block n e = absurd (omega (arith, e))
    apart Region n e = absurd (omega (arith, e))

pub given_nowhere : (P : State) (n : ℕ) (x : Thing) (v : ℕ) (s : List ℕ) → n ≡ 0 → Given (within P n x) v s s
given_nowhere P n x v s e = subst (λ (zs : List Thing). Given zs v s s) (sym (within_none P n x e)) (given_none v s)

-- ---- the loop over what lies directly in the thing, begun with the scratch s₀

abbrev deeper : Layout → List ℕ → ℕ → Thing → List Thing
deeper l m n = within (state_of l m) (n - 1)

pub record Marking (l : Layout) (x : nest.Thing) (n v : ℕ) (m s₀ s c : List ℕ) : Type 0 where
  pub rest : Rest l (inner_fam x.kind) x.place m c
  pub given : Given (gather (deeper l m n) rest.done) v s₀ s

pub marking : {l : Layout} {x : nest.Thing} {m c : List ℕ} (n v : ℕ) (s : List ℕ) → NodesAre l (inner_fam x.kind) x.place m c → Marking l x n v m s s c
unfolding rest_all
marking n v s N = record { rest = rest_all N; given = given_none v s }

module _ {l : Layout} {x : nest.Thing} {n v : ℕ} {m s₀ s : List ℕ} where
  pub marking_on : {s' c : List ℕ} {q : ℕ} {y : Thing} → Marking l x n v m s₀ s (q ∷ c) → y ≡ (nested_kind (inner_kind x.kind), q) → Given (deeper l m n y) v s s' → Marking l x n v m s₀ s' c
  unfolding rest_on
  marking_on {s'} {c} {q} {y} M e G =
      record {
        rest = rest_on M.rest;
        given = subst (λ (zs : List Thing). Given zs v s₀ s') more (given_append M.given G);
      }
    where
      more : gather (deeper l m n) M.rest.done ++ deeper l m n y ≡ gather (deeper l m n) (rest_on M.rest).done
      more =
          ap {B = List Thing} (λ (t : Thing). gather (deeper l m n) M.rest.done ++ deeper l m n t) (sym (child_is x.kind q e))
          ∙ ap {B = List Thing} (λ (z : List Thing). gather (deeper l m n) M.rest.done ++ z) (sym (append_nil (deeper l m n (node_in (inner_fam x.kind), q))))
          ∙ sym (gather_append (deeper l m n) M.rest.done ((node_in (inner_fam x.kind), q) ∷ []))

  pub marked : {s₁ : List ℕ} → SoundStore l m → Marking l x n v m s₀ s [] → (n ≡ 0 → ⊥) → Given (alone (thing_at x)) v s₁ s₀ → Given (within (state_of l m) n (thing_at x)) v s₁ s
  marked {s₁} S M h O = subst (λ (zs : List Thing). Given zs v s₁ s) (sym (within_step (state_of l m) n (thing_at x) h ∙ ap {B = List Thing} (λ (t : List Thing). thing_at x ∷ gather (deeper l m n) t) all)) (given_append O M.given)
    where
      all : kids (state_of l m) (thing_at x) ≡ M.rest.done
      all = sym (nest_row S x.kind x.place) ∙ M.rest.parts ∙ append_nil M.rest.done

-- ---- marked, tested, and clear again

pub tested_is : {l : Layout} {x : nest.Thing} {n deep : ℕ} {m s s₁ s₂ : List ℕ} {r : Result (Unit {0}) Refusal} → Testable l x m s → Zeros s → DepthIs l m deep → Given (within (state_of l m) deep (thing_at x)) 1 s s₁ → code_of r ≡ erase_code (state_of l m) (marks_in s₁) n (thing_at x) → Given (within (state_of l m) deep (thing_at x)) 0 s₁ s₂ → Tested l (thing_at x) n m s s₂ r
unfolding pick
tested_is {l} {x} {n} {deep} {m} {s} {s₁} {s₂} T Z D A c B =
    record {
      marks = marks_in s₁;
      right = λ o _. ap sgn (A.at o ∙ ap (λ (t : ℕ). pick (inside o) t 1) (Z o)) ∙ twice (inside o) ∙ ap (λ (zs : List Thing). sgn (count Thing-dec (op, o) zs)) (D.all (thing_at x));
      code = c;
      scratch = record { long = omega (arith, T.long, A.long, B.long); zeros = λ o. B.at o ∙ ap (λ (t : ℕ). pick (inside o) t 0) (A.at o ∙ ap (λ (t : ℕ). pick (inside o) t 1) (Z o)) ∙ away (inside o) };
    }
  where
    inside : ℕ → ℕ
    inside o = count Thing-dec (op, o) (within (state_of l m) deep (thing_at x))

    twice : (i : ℕ) → ◌≡◌ {A = ℕ} (sgn (pick i 0 1)) (sgn i)
    twice zero = refl
    twice (suc i) = refl

    away : (i : ℕ) → ◌≡◌ {A = ℕ} (pick i (pick i 0 1) 0) 0
    away zero = refl
    away (suc i) = refl
