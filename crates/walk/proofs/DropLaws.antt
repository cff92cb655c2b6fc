-- The loops that drop what lies in a thing: their beginning, a turn, and their end, on the store by places. Assumes nothing.
use mathlib.Core.Path.{◌≡◌, refl, sym, ap, ap₂, ◌∙◌, subst}
use mathlib.Core.Logic.{⊎_elim}
use mathlib.Core.List.{List, [], ◌∷◌, ◌++◌}
use mathlib.Core.Option.{Option}
use native.Mathlib.Omega.{arith}
use Prim.Native.Nat.{ℕ, ◌+◌}
use lib.ListN.{length}
use Rattle.seqs.specs.Seqs.{tick, count, In, sum}
use Rattle.places.specs.Store.{Kind-dec, op, blk, reg, usg, operands, successors, slots, Thing, Thing-dec, Con, State, Sound, outer}
use Rattle.places.specs.Walk.{over, sgn, gather, place_cut_by, cut_all, among, kids, walk, place_uses_at, drop_list, dropped}
use Rattle.seqs.proofs.Base.{count_append}
use Rattle.seqs.proofs.Sums.{sum_append}
use Rattle.places.proofs.Cut.{pick_1, zero_or, sift_none, cut_cut, cut_same, cut_nothing, own_cut_0}
use Rattle.places.proofs.Nest.{kind_code, count_gather, gather_on}
use Rattle.places.proofs.Outside.{part_sum}
use Rattle.places.proofs.Climb.{ops_among}
use Rattle.places.proofs.DropAll.{drop_uses, drop_count}
use Rattle.places.proofs.DropTurn.{append_assoc, append_nil, length_append, gather_append, drop_eq, uses_none, part_sound, kids_kept, walk_kept, drop_kept, loop_kids, loop_turn, loop_ops, loop_ended, loop_done}
use Rattle.std.specs.Prelude as Rust
use Rattle.std.specs.Prelude.{None, Some}
use Rattle.context.specs.Memory.{first_place}
use Rattle.walk.specs.Drop.{operations}
use Rattle.walk.proofs.Nested.{same_place, none_some, operations_are, operations_eq}

-- the loop over what lies in x, begun at Z, come to the place k, at Q
pub record Going (Z : State) (x : Thing) (k : Rust.Option ℕ) (Q : State) : Type 0 where
  pub sound : Sound Z
  pub own : place_uses_at Z x ≡ []
  pub done : List Thing
  pub todo : List Thing
  pub parts : kids Z x ≡ done ++ todo
  pub code : k ≡ first_place todo
  pub now : Q ≡ cut_all (gather (drop_list Z) done) Z

-- the operations reached and the uses ended in the loop
abbrev pub reached : {Z : State} {x : Thing} {k : Rust.Option ℕ} {Q : State} → Going Z x k Q → ℕ
reached {Z} G = sum (operations Z) G.done

abbrev pub ended_in : {Z : State} {x : Thing} {k : Rust.Option ℕ} {Q : State} → Going Z x k Q → ℕ
ended_in {Z} G = length (gather (drop_list Z) G.done)

unfoldable pub begins : {Z : State} {x : Thing} (k : Rust.Option ℕ) → Sound Z → place_uses_at Z x ≡ [] → k ≡ first_place (kids Z x) → Going Z x k Z
begins {Z} {x} k S e h = record { sound = S; own = e; done = []; todo = kids Z x; parts = refl; code = h; now = sym (cut_nothing Z) }

-- the next one
pub record Next (Z : State) (x : Thing) (p : ℕ) (d : List Thing) : Type 0 where
  pub kid : Thing
  pub later : List Thing
  pub parts : kids Z x ≡ d ++ (kid ∷ later)
  pub at : p ≡ kid.1

pub next : {Z : State} {x : Thing} {k : Rust.Option ℕ} {Q : State} {p : ℕ} (G : Going Z x k Q) → k ≡ Some p → Next Z x p G.done
next {Z} {x} {k} {Q} {p} G h = go G.todo G.parts (sym h ∙ G.code)
  where
    go : (t : List Thing) → kids Z x ≡ G.done ++ t → ◌≡◌ {A = Rust.Option ℕ} (Some p) (first_place t) → Next Z x p G.done
    go [] e c = absurd (none_some (sym c))
    go (y ∷ t) e c = record { kid = y; later = t; parts = e; at = same_place c }

module _ {Z : State} {x : Thing} {k : Rust.Option ℕ} {Q : State} {p : ℕ} (G : Going Z x k Q) (N : Next Z x p G.done) where
  abbrev d : List Thing
  d = G.done

  so_far : Q ≡ cut_all (place_uses_at Z x ++ gather (drop_list Z) d) Z
  so_far = G.now ∙ ap (λ (l : List Thing). cut_all (l ++ gather (drop_list Z) d) Z) (sym G.own)

  pub reads : kids Q x ≡ kids Z x
  reads = ap (λ (P : State). kids P x) so_far ∙ loop_kids G.sound x d N.kid N.later N.parts

  pub same_ops : operations Q N.kid ≡ operations Z N.kid
  same_ops = operations_are Q N.kid ∙ ap (λ (P : State). length (ops_among (walk P N.kid))) so_far ∙ loop_ops G.sound x d N.kid N.later N.parts ∙ sym (operations_are Z N.kid)

  pub same_ended : length (drop_list Q N.kid) ≡ length (drop_list Z N.kid)
  same_ended = ap (λ (P : State). length (drop_list P N.kid)) so_far ∙ loop_ended G.sound x d N.kid N.later N.parts

  -- all that is left: what lies in x and is not yet reached
  pub enough : operations Z x ≡ tick (Kind-dec x.0 op) + (reached G + (operations Z N.kid + sum (operations Z) N.later))
  enough = operations_eq G.sound.linked x ∙ ap (λ (l : List Thing). tick (Kind-dec x.0 op) + sum (operations Z) l) N.parts ∙ ap (λ (n : ℕ). tick (Kind-dec x.0 op) + n) (sum_append (operations Z) d (N.kid ∷ N.later))

  pub goes_on : {R : State} (j : Rust.Option ℕ) → R ≡ dropped Q N.kid → j ≡ first_place N.later → Going Z x j R
  goes_on {R} j e h =
      record {
        sound = G.sound;
        own = G.own;
        done = d ++ (N.kid ∷ []);
        todo = N.later;
        parts = N.parts ∙ sym (append_assoc d (N.kid ∷ []) N.later);
        code = h;
        now = e ∙ ap (λ (P : State). dropped P N.kid) so_far ∙ loop_turn G.sound x d N.kid N.later N.parts ∙ ap (λ (l : List Thing). cut_all (l ++ gather (drop_list Z) (d ++ (N.kid ∷ []))) Z) G.own;
      }

  pub more_reached : {R : State} (j : Rust.Option ℕ) (e : R ≡ dropped Q N.kid) (h : j ≡ first_place N.later) → reached (goes_on j e h) ≡ reached G + operations Q N.kid
  unfolding goes_on
  more_reached j e h = omega (arith, sum_append (operations Z) d (N.kid ∷ []), same_ops)

  pub more_ended : {R : State} (j : Rust.Option ℕ) (e : R ≡ dropped Q N.kid) (h : j ≡ first_place N.later) → ended_in (goes_on j e h) ≡ ended_in G + length (drop_list Q N.kid)
  unfolding goes_on
  more_ended j e h = omega (arith, ap length (gather_append (drop_list Z) d (N.kid ∷ [])), length_append (gather (drop_list Z) d) (gather (drop_list Z) (N.kid ∷ [])), length_append (drop_list Z N.kid) [], same_ended)

-- what lies in x is the same all along
pub after_kids : {Z : State} {x : Thing} {k : Rust.Option ℕ} {Q : State} → Going Z x k Q → kids Q x ≡ kids Z x
after_kids {Z} {x} {k} {Q} G = ap (λ (P : State). kids P x) G.now ∙ kids_kept G.sound (gather (drop_list Z) G.done) uses x
  where
    all_parts : (u : Thing) → count Thing-dec u (drop_list Z x) ≡ count Thing-dec u (place_uses_at Z x) + (count Thing-dec u (gather (drop_list Z) G.done) + count Thing-dec u (gather (drop_list Z) G.todo))
    all_parts u =
        ap (count Thing-dec u) (drop_eq G.sound.linked x ∙ ap (λ (l : List Thing). place_uses_at Z x ++ gather (drop_list Z) l) G.parts ∙ ap {B = List Thing} (λ l. place_uses_at Z x ++ l) (gather_append (drop_list Z) G.done G.todo))
        ∙ count_append Thing-dec u (place_uses_at Z x) (gather (drop_list Z) G.done ++ gather (drop_list Z) G.todo)
        ∙ ap (λ (n : ℕ). count Thing-dec u (place_uses_at Z x) + n) (count_append Thing-dec u (gather (drop_list Z) G.done) (gather (drop_list Z) G.todo))

    uses : (u : Thing) → In Thing-dec u (gather (drop_list Z) G.done) → u.0 ≡ usg
    uses u i = (drop_uses G.sound.linked x).kind u (omega (arith, i, all_parts u))

module _ {Z : State} {x : Thing} {k : Rust.Option ℕ} {Q : State} (G : Going Z x k Q) (h : k ≡ None) where
  all : kids Z x ≡ G.done
  all = go G.todo G.parts (sym h ∙ G.code)
    where
      go : (t : List Thing) → kids Z x ≡ G.done ++ t → ◌≡◌ {A = Rust.Option ℕ} None (first_place t) → kids Z x ≡ G.done
      go [] e c = e ∙ append_nil G.done
      go (y ∷ t) e c = absurd (none_some c)

  pub ends : Q ≡ dropped Z x
  ends = G.now ∙ ap (λ (l : List Thing). cut_all (l ++ gather (drop_list Z) G.done) Z) (sym G.own) ∙ ap (λ (l : List Thing). cut_all (place_uses_at Z x ++ gather (drop_list Z) l) Z) (sym all) ∙ loop_done G.sound x

  pub all_reached : operations Z x ≡ tick (Kind-dec x.0 op) + reached G
  all_reached = operations_eq G.sound.linked x ∙ ap (λ (l : List Thing). tick (Kind-dec x.0 op) + sum (operations Z) l) all

  pub all_ended : length (drop_list Z x) ≡ ended_in G
  all_ended = ap length (drop_eq G.sound.linked x) ∙ ap₂ {C = ℕ} (λ (a b : List Thing). length (a ++ gather (drop_list Z) b)) G.own all

-- a region and a block have no uses of their own
pub region_own : {P : State} → Sound P → (r : ℕ) → place_uses_at P (reg, r) ≡ []
unfolding kind_code
region_own S r = uses_none S.linked (reg, r) (λ h. absurd (omega arith))

pub block_own : {P : State} → Sound P → (b : ℕ) → place_uses_at P (blk, b) ≡ []
unfolding kind_code
block_own S b = uses_none S.linked (blk, b) (λ h. absurd (omega arith))

-- an operation's own uses have ended
module _ {P Z : State} (S : Sound P) (x : Thing) (e : Z ≡ cut_all (place_uses_at P x) P) where
  abbrev l : List Thing
  l = place_uses_at P x

  part : (u : Thing) → count Thing-dec u (drop_list P x) ≡ count Thing-dec u l + count Thing-dec u (gather (drop_list P) (kids P x))
  part u = ap (count Thing-dec u) (drop_eq S.linked x) ∙ count_append Thing-dec u l (gather (drop_list P) (kids P x))

  kind : (u : Thing) → In Thing-dec u l → u.0 ≡ usg
  kind u i = (drop_uses S.linked x).kind u (omega (arith, i, part u))

  pub own_sound : Sound Z
  own_sound = subst (λ (Q : State). Sound Q) (sym e) (part_sound S l kind)

  pub own_none : place_uses_at Z x ≡ []
  unfolding place_cut_by
  own_none = ap (λ (Q : State). place_uses_at Q x) e ∙ ap₂ {C = List Thing} (λ a b. a ++ b)
      (sift_none Thing-dec (among l) (P.list x operands) (λ u i. omega (arith, i, count_append Thing-dec u (P.list x operands) (P.list x successors))))
      (sift_none Thing-dec (among l) (P.list x successors) (λ u i. omega (arith, i, count_append Thing-dec u (P.list x operands) (P.list x successors))))

  pub own_rest : dropped Z x ≡ dropped P x
  unfolding dropped
  own_rest = ap (λ (Q : State). cut_all (drop_list Q x) Q) e ∙ cut_cut (among l) (among (drop_list (cut_all l P) x)) P ∙ cut_same (λ y. among l y + among (drop_list (cut_all l P) x) y) (among (drop_list P x)) P each
    where
      each : (y : Thing) → sgn (among l y + among (drop_list (cut_all l P) x) y) ≡ sgn (among (drop_list P x) y)
      each y =
          ⊎_elim
          (λ z. let q : among l y + among (drop_list (cut_all l P) x) y ≡ among (drop_list P x) y = omega (arith, z, drop_count S.linked x y, drop_count (part_sound S l kind).linked x y, same z) in ap sgn q)
          (λ z. pick_1 (among l y + among (drop_list (cut_all l P) x) y) 0 1 (omega arith) ∙ sym (pick_1 (among (drop_list P x) y) 0 1 (omega (arith, z, part y))))
          (zero_or (among l y))
        where
          same : among l y ≡ 0 → over (outer ((cut_all l P).own y slots)) (λ o. count Thing-dec o (walk (cut_all l P) x)) ≡ over (outer (P.own y slots)) (λ o. count Thing-dec o (walk P x))
          same z = ap₂ {C = ℕ} (λ (c : Option Con) (w : List Thing). over (outer c) (λ o. count Thing-dec o w)) (ap (λ h. h slots) (own_cut_0 (among l) P y z)) (walk_kept S l kind x)

  pub own_ops : operations Z x ≡ operations P x
  own_ops = operations_are Z x ∙ ap (λ (Q : State). length (ops_among (walk Q x))) e ∙ ap (λ (w : List Thing). length (ops_among w)) (walk_kept S l kind x) ∙ sym (operations_are P x)

  -- what is left of the uses inside
  pub own_ended : length (drop_list P x) ≡ length l + length (drop_list Z x)
  own_ended = omega (arith, ap length (drop_eq S.linked x), length_append l (gather (drop_list P) (kids P x)), ap length (drop_eq own_sound.linked x), ap (λ (u : List Thing). length (u ++ gather (drop_list Z) (kids Z x))) own_none, ap length inner)
    where
      apart : (k u : Thing) → In Thing-dec k (kids P x) → In Thing-dec u l → count Thing-dec u (drop_list P k) ≡ 0
      apart k u i j = omega (arith, part u, (drop_uses S.linked x).once u, j, count_gather Thing-dec u (drop_list P) (kids P x), part_sum Thing-dec (λ y. count Thing-dec u (drop_list P y)) (kids P x) k i)

      inner : gather (drop_list Z) (kids Z x) ≡ gather (drop_list P) (kids P x)
      inner =
          ap (λ (Q : State). gather (drop_list Q) (kids Q x)) e
          ∙ ap (gather (drop_list (cut_all l P))) (kids_kept S l kind x)
          ∙ gather_on Thing-dec (drop_list (cut_all l P)) (drop_list P) (kids P x) (λ k i. drop_kept S l kind k (λ u j. apart k u i j))
