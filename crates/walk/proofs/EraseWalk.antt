-- The loop that erases what lies in a thing, in the memory: one law for operation, region and block. Assumes nothing.
use mathlib.Core.Path.{◌≡◌, refl, sym, ap, ◌∙◌, subst}
use mathlib.Core.List.{List, [], ◌∷◌, ◌++◌}
use native.Mathlib.Omega.{arith}
use Prim.Native.Nat.{ℕ, ◌<◌, ◌≤◌}
use lib.ListN.{length}
use Rattle.std.specs.Prelude.{Option, None, Some}
use Rattle.edit.specs.declared.Nested.{Nested}
use Rattle.edit.specs.declared.Nested.TheVariants.{Operation, Block, Region}
use Rattle.places.specs.Store.{Fam, Thing, State, Live}
use Rattle.places.specs.Parts.{node_in}
use Rattle.places.specs.Walk.{cut_all, kids, innards}
use Rattle.places.proofs.Nest.{kind_code}
use Rattle.places.proofs.Erase.{Free}
use Rattle.places.proofs.Runs.{measure}
use Rattle.context.specs.declared.Layout.{Layout}
use Rattle.context.specs.Layout.{cap_of, nc_of}
use Rattle.context.specs.Memory.{part, state_of, SoundStore, first_place, FirstIs}
use Rattle.context.specs.Nest.{nested_kind, inner_fam}
use Rattle.context.specs.Reading.{NodesAre}
use Rattle.context.specs.Steps.{CanEnd, Ended}
use Rattle.context.proofs.Places.{place<}
use Rattle.walk.specs.Erase.{CanErase, Erased, OwnEnded, inner_kind}
use Rattle.walk.proofs.Nested.{same_place, none_some}
use Rattle.walk.proofs.DropWalk.{Nests, in_op, in_region, in_block, first_kid, kid_is, kid_lives, row<}
use Rattle.walk.proofs.EraseLaws.{Erasing, begins, reads, still_free, shrinks, goes_on, empty, ends, left_kids, still_live, own_none, own_measure, own_rest, own_free, own_live, to_free, from_free}

-- ---- what lies directly in a thing

pub nested≤ : (k : Nested) → kind_code (nested_kind k) ≤ 2
unfolding kind_code
nested≤ Operation = omega arith
nested≤ Block = omega arith
nested≤ Region = omega arith

-- it is a list of one family
pub inner : (l : Layout) (k : Nested) (p : ℕ) → Nests l (inner_fam k) (nested_kind k, p)
inner l Operation p = in_op l p
inner l Block p = in_block l p
inner l Region p = in_region l p

pub inner_node : (k : Nested) → node_in (inner_fam k) ≡ nested_kind (inner_kind k)
inner_node Operation = refl
inner_node Block = refl
inner_node Region = refl

-- its list is one of the store's
pub inner_list : {l : Layout} {m : List ℕ} (S : SoundStore l m) (k : Nested) (p : ℕ) → Live (state_of l m) (nested_kind k, p) → p < nc_of l (inner_fam k)
inner_list {l} S k p v = row< (inner l k p) S v

-- a thing of a kind that is told by its own name
pub place_as : {l : Layout} {m : List ℕ} (S : SoundStore l m) {k j : Nested} {p : ℕ} → k ≡ j → Live (state_of l m) (nested_kind k, p) → p < cap_of l (nested_kind j)
place_as {l} {m} S {k} {j} {p} e v = place< S (nested_kind j, p) (subst (λ (i : Nested). Live (state_of l m) (nested_kind i, p)) e v)

pub erase_as : {l : Layout} {m : List ℕ} {k j : Nested} {p : ℕ} → k ≡ j → CanErase l (nested_kind k, p) m → CanErase l (nested_kind j, p) m
erase_as {l} {m} {k} {j} {p} e C = subst (λ (i : Nested). CanErase l (nested_kind i, p) m) e C

-- the family of what lies in a thing, by its name
pub first_as : {l : Layout} {F G : Fam} {p : ℕ} {m : List ℕ} {r : Option ℕ} → F ≡ G → FirstIs l F p m r → FirstIs l G p m r
first_as {l} {F} {G} {p} {m} {r} e I = subst (λ (H : Fam). FirstIs l H p m r) e I

pub nodes_as : {l : Layout} {F G : Fam} {p : ℕ} {m r : List ℕ} → F ≡ G → NodesAre l F p m r → NodesAre l G p m r
nodes_as {l} {F} {G} {p} {m} {r} e I = subst (λ (H : Fam). NodesAre l H p m r) e I

-- ---- the loop, begun at m₀

pub record Going (l : Layout) (x : Thing) (m₀ m : List ℕ) : Type 0 where
  pub store : SoundStore l m
  pub begun : Live (state_of l m₀) x
  pub rest : part l m 14 ≡ part l m₀ 14
  pub going : Erasing (state_of l m₀) x (state_of l m)

-- the own values have ended
module _ {l : Layout} {m m₀ : List ℕ} (k : Nested) (p : ℕ) (C : CanErase l (nested_kind k, p) m) (O : OwnEnded l (nested_kind k, p) m m₀) where
  abbrev x : Thing
  x = (nested_kind k, p)

  pub started : Going l x m₀ m₀
  started =
      record {
        store = O.store;
        begun = own_live C.store.sound x (nested≤ k) (to_free C.unused) O.state C.live;
        rest = refl;
        going = begins O.store.sound (nested≤ k) (own_free C.store.sound x (nested≤ k) (to_free C.unused) O.state) (own_none C.store.sound x (nested≤ k) (to_free C.unused) O.state);
      }

  pub size_kept : measure (state_of l m₀) x ≡ measure (state_of l m) x
  size_kept = own_measure C.store.sound x (nested≤ k) (to_free C.unused) O.state

module _ {l : Layout} {m₀ m : List ℕ} (k : Nested) (p : ℕ) (G : Going l (nested_kind k, p) m₀ m) where
  abbrev X : Thing
  X = (nested_kind k, p)

  abbrev Z : State
  Z = state_of l m₀

  abbrev Q : State
  Q = state_of l m

  pub in_rows : p < nc_of l (inner_fam k)
  in_rows = inner_list G.store k p (still_live G.going G.begun)

  module _ {c : Option ℕ} (F : FirstIs l (inner_fam k) p m c) where
    first_todo : c ≡ first_place G.going.todo
    first_todo = first_kid (inner l k p) m G.store.sound.linked c F ∙ ap first_place (left_kids G.going)

    -- none is left
    module _ (h : c ≡ None) where
      none_left : G.going.todo ≡ []
      none_left = go G.going.todo (sym h ∙ first_todo)
        where
          go : (t : List Thing) → ◌≡◌ {A = Option ℕ} None (first_place t) → t ≡ []
          go [] e = refl
          go (w ∷ t) e = absurd (none_some e)

      pub can_end : CanEnd Q X
      can_end = record { live = still_live G.going G.begun; empty = empty G.going none_left }

      -- all has ended
      pub finished : {m₁ m₂ : List ℕ} → CanErase l X m₁ → OwnEnded l X m₁ m₀ → Ended l X m m₂ → Erased l X m₁ m₂
      finished C O E =
          record {
            store = E.sound;
            rest = E.rest ∙ G.rest ∙ O.rest;
            state = ends G.going none_left E.state ∙ own_rest C.store.sound X (nested≤ k) (to_free C.unused) O.state;
          }

    -- the first that is left
    module _ {q : ℕ} {y : Thing} (h : c ≡ Some q) (i : y ≡ (nested_kind (inner_kind k), q)) where
      record Next (t : List Thing) : Type 0 where
        kid : Thing
        later : List Thing
        is : t ≡ kid ∷ later
        at : q ≡ kid.1

      next : Next G.going.todo
      next = go G.going.todo (sym h ∙ first_todo)
        where
          go : (t : List Thing) → ◌≡◌ {A = Option ℕ} (Some q) (first_place t) → Next t
          go [] e = absurd (none_some (sym e))
          go (w ∷ t) e = record { kid = w; later = t; is = refl; at = same_place e }

      abbrev w : Thing
      w = next.kid

      abbrev r : List Thing
      r = next.later

      parts : kids Z X ≡ G.going.done ++ (w ∷ r)
      parts = G.going.parts ∙ ap {B = List Thing} (λ (t : List Thing). G.going.done ++ t) next.is

      now_kids : kids Q X ≡ w ∷ r
      now_kids = reads G.going w r parts

      kid : w ≡ y
      kid = kid_is (inner l k p) m G.store.sound.linked [] w r now_kids ∙ (λ d. (inner_node k d, sym next.at d)) ∙ sym i

      pub child_can : CanErase l y m
      child_can =
          record {
            store = G.store;
            live = subst (λ (t : Thing). Live Q t) (sym (kid_is (inner l k p) m G.store.sound.linked [] w r now_kids) ∙ kid) (kid_lives (inner l k p) m G.store.sound.linked [] w r now_kids);
            unused = from_free (subst (λ (t : Thing). Free Q t) kid (still_free G.going w r parts));
          }

      pub child_less : measure Q y < measure Z X
      child_less = subst (λ (t : Thing). measure Q t < measure Z X) kid (shrinks G.going w r parts)

      module _ {m' : List ℕ} (E : Erased l y m m') where
        gone : state_of l m' ≡ cut_all (innards Q w) Q
        gone = E.state ∙ ap (λ (t : Thing). cut_all (innards Q t) Q) (sym kid)

        pub turn : Going l X m₀ m'
        turn = record { store = E.store; begun = G.begun; rest = E.rest ∙ G.rest; going = goes_on G.going w r parts gone }

        left : kids (state_of l m') X ≡ r
        unfolding turn goes_on
        left = left_kids turn.going

        pub fewer : length (kids (state_of l m') X) < length (kids Q X)
        fewer = omega (arith, ap length left, ap length now_kids)
