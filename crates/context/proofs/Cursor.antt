-- A loop over one list of the store that may change on the way, by its places: where it stands, and its next turn. Assumes nothing.
use mathlib.Core.Path.{◌≡◌, refl, sym, ap, ◌∙◌, subst}
use mathlib.Core.Logic.{◌≢◌, ite, if_pos, if_neg, by_cases}
use mathlib.Core.List.{List, [], ◌∷◌, ◌++◌}
use mathlib.Core.Option as math
use mathlib.Core.Option.{none, some}
use Rattle.std.specs.Prelude.{Option, Some, None}
use native.Mathlib.Decide.{ℕ_discrete}
use native.Mathlib.Omega.{arith}
use Prim.Native.Nat.{ℕ, ◌<◌, ◌≤◌}
use lib.ListN.{length}
use Rattle.seqs.specs.Seqs.{tick, count, In}
use Rattle.places.specs.Store.{Kind, Role, Fam, fam, node_of, Thing, Thing-dec, Con, Con-dec, State, Live, Link, Linked, owns}
use Rattle.places.specs.Parts.{node_in}
use Rattle.seqs.proofs.Base.{tick_yes, tick_no, count_append, in_head}
use Rattle.places.proofs.Steps.{thing_eq, listed}
use Rattle.places.proofs.Rows.{node_in_lem}
use Rattle.places.proofs.DropTurn.{append_assoc}
use Rattle.context.specs.declared.Layout.{Layout}
use Rattle.context.specs.Layout.{nn_of}
use Rattle.context.specs.Memory.{con, state_of, SoundStore, first_place, FirstIs}
use Rattle.context.specs.Reading.{list_of, NextIs}
use Rattle.context.proofs.Families.{con_back}
use Rattle.context.proofs.Places.{place<}

-- ---- a list from a place on

-- the part of the list that starts with the place
unfoldable pub from : Option ℕ → List Thing → List Thing
from None l = []
from (Some k) [] = []
from (Some k) (y ∷ l) = ite (ℕ_discrete y.1 k) (y ∷ l) (from (Some k) l)

-- the list has no thing twice, and one kind only
pub record Single (j : Kind) (l : List Thing) : Type 0 where
  pub once : (y : Thing) → count Thing-dec y l ≤ 1
  pub kind : (y : Thing) → In Thing-dec y l → y.0 ≡ j

pub from_place : (j : Kind) (a b : List Thing) → Single j (a ++ b) → from (first_place b) (a ++ b) ≡ b
unfolding from
from_place j a [] s = refl
from_place j [] (y ∷ b) s = if_pos (ℕ_discrete y.1 y.1) refl (y ∷ b) (from (Some y.1) b)
from_place j (z ∷ a) (y ∷ b) s = if_neg (ℕ_discrete z.1 y.1) apart (z ∷ (a ++ y ∷ b)) (from (Some y.1) (a ++ y ∷ b)) ∙ from_place j a (y ∷ b) (record { once = λ y. omega (arith, s.once y); kind = λ y i. s.kind y (omega (arith, i)) })
  where
    apart : z.1 ≢ y.1
    apart e =
        let i : In Thing-dec y (a ++ (y ∷ b)) = omega (arith, count_append Thing-dec y a (y ∷ b), in_head Thing-dec y b) in
        let q : y ≡ z = thing_eq y z (s.kind y (omega (arith, i)) ∙ sym (s.kind z (in_head Thing-dec z (a ++ (y ∷ b))))) (sym e) in
        absurd (omega (arith, s.once y, i, tick_yes (Thing-dec y z) q))

module _ {P : State} (S : Linked P) where
  pub kid_live : (x k : Thing) (r : Role) → In Thing-dec k (P.list x r) → Link P k (fam r) (r, x)
  kid_live x k r i = S.link k (fam r) (r, x) (listed S k x r i)

  pub single : (x : Thing) (r : Role) → Single (node_of r) (P.list x r)
  unfolding owns
  single x r = record { once = λ y. omega (arith, S.held r x y, bound (P.own y (fam r)) (r, x)); kind = λ y i. (kid_live x y r i).node }
    where
      tick_one : {A : Type 0} (w : Dec A) → tick w ≤ 1
      tick_one w = by_cases w (λ e. omega (arith, tick_yes w e)) (λ n. omega (arith, tick_no w n))

      bound : (o : math.Option Con) (c : Con) → owns o c ≤ 1
      bound none c = omega arith
      bound (some d) c = tick_one (Con-dec d c)

-- ---- the loop

abbrev pub row : Layout → Fam → ℕ → List ℕ → List Thing
row l f s m = list_of l m (con l f s)

-- the loop has come to the place k, or to the end
pub record At (l : Layout) (f : Fam) (s : ℕ) (m : List ℕ) (k : Option ℕ) : Type 0 where
  pub done : List Thing
  pub todo : List Thing
  pub parts : row l f s m ≡ done ++ todo
  pub first : k ≡ first_place todo

-- and what stands at the place p
pub record Here (l : Layout) (f : Fam) (s : ℕ) (m : List ℕ) (p : ℕ) (t : List Thing) : Type 0 where
  pub later : List Thing
  pub is : t ≡ (node_in f, p) ∷ later
  pub own : (state_of l m).own (node_in f, p) f ≡ some (con l f s)
  pub live : Live (state_of l m) (node_in f, p)
  pub place : p < nn_of l f

abbrev pub ahead : Layout → Fam → ℕ → List ℕ → Option ℕ → ℕ
ahead l f s m k = length (from k (row l f s m))

unfoldable pub first_at : {l : Layout} {f : Fam} {s : ℕ} {m : List ℕ} {k : Option ℕ} → FirstIs l f s m k → At l f s m k
first_at {l} {f} {s} {m} F = record { done = []; todo = row l f s m; parts = refl; first = F.is }

module _ {l : Layout} {f : Fam} {s : ℕ} {m : List ℕ} {k : Option ℕ} (S : SoundStore l m) (A : At l f s m k) where
  abbrev P : State
  P = state_of l m

  abbrev c : Con
  c = con l f s

  family : fam c.0 ≡ f
  family = (con_back l.values l.ops f s).family

  node : node_of c.0 ≡ node_in f
  node = sym (node_in_lem c.0) ∙ ap node_in family

  -- all that the list has is done
  pub at_end : k ≡ None → A.todo ≡ []
  at_end h = go A.todo A.first
    where
      go : (t : List Thing) → k ≡ first_place t → t ≡ []
      go [] q = refl
      go (y ∷ t) q = let z : ◌≡◌ {A = ℕ} 0 1 = cc in absurd (omega arith)

  pub here : {p : ℕ} → k ≡ Some p → Here l f s m p A.todo
  here {p} h = go A.todo A.parts A.first
    where
      go : (t : List Thing) → row l f s m ≡ A.done ++ t → k ≡ first_place t → Here l f s m p t
      go [] u q = let z : ◌≡◌ {A = ℕ} 0 1 = cc in absurd (omega arith)
      go (y ∷ t) u q =
          let i : In Thing-dec y (P.list c.1 c.0) = omega (arith, ap (count Thing-dec y) u, count_append Thing-dec y A.done (y ∷ t), in_head Thing-dec y t) in
          let L : Link P y (fam c.0) c = kid_live S.sound.linked c.1 y c.0 i in
          let same : y.1 ≡ p = cc in
          let e : y ≡ (node_in f, p) = thing_eq y (node_in f, p) (L.node ∙ node) same in
          let v : Live P (node_in f, p) = subst (λ (z : Thing). Live P z) e L.live in
          record {
            later = t;
            is = ap {B = List Thing} (λ (z : Thing). z ∷ t) e;
            own = subst (λ (z : Thing). P.own z f ≡ some c) e (subst (λ (g : Fam). P.own y g ≡ some c) family (listed S.sound.linked y c.1 c.0 i));
            live = v;
            place = place< S (node_in f, p) v;
          }

  -- what is left is what the measure counts
  pub ahead_is : ahead l f s m k ≡ length A.todo
  ahead_is =
      ap (λ (i : Option ℕ). length (from i (row l f s m))) A.first
      ∙ ap (λ (r : List Thing). length (from (first_place A.todo) r)) A.parts
      ∙ ap length (from_place (node_of c.0) A.done A.todo (subst (λ (r : List Thing). Single (node_of c.0) r) A.parts (single S.sound.linked c.1 c.0)))

  module _ {p : ℕ} (h : k ≡ Some p) {j : Option ℕ} (N : NextIs l f p m j) where
    abbrev H : Here l f s m p A.todo
    H = here h

    pub next_first : j ≡ first_place H.later
    next_first = N.after c H.own A.done H.later (A.parts ∙ ap {B = List Thing} (λ (t : List Thing). A.done ++ t) H.is)

    unfoldable pub next_at : At l f s m j
    next_at =
        record {
          done = A.done ++ ((node_in f, p) ∷ []);
          todo = H.later;
          parts = A.parts ∙ ap {B = List Thing} (λ (t : List Thing). A.done ++ t) H.is ∙ sym (append_assoc A.done ((node_in f, p) ∷ []) H.later);
          first = next_first;
        }

    pub next_todo : next_at.todo ≡ H.later
    unfolding next_at
    next_todo = refl

-- the next turn has less before it
pub less : {l : Layout} {f : Fam} {s : ℕ} {m m' : List ℕ} {k j : Option ℕ} {p : ℕ} (S : SoundStore l m) (A : At l f s m k) → (h : k ≡ Some p) → SoundStore l m' → (B : At l f s m' j) → B.todo ≡ (here S A h).later → ahead l f s m' j < ahead l f s m k
less S A h S' B e = omega (arith, ahead_is S' B, ahead_is S A, ap length e, ap length (here S A h).is)

-- and so has the next turn over the same list
pub next_less : {l : Layout} {f : Fam} {s : ℕ} {m : List ℕ} {k j : Option ℕ} {p : ℕ} (S : SoundStore l m) (A : At l f s m k) → (h : k ≡ Some p) → NextIs l f p m j → ahead l f s m j < ahead l f s m k
next_less S A h N = less S A h S (next_at S A h N) (next_todo S A h N)
