-- The loops that end what lies in a thing. Assumes nothing.
use mathlib.Core.Path.{◌≡◌, refl, sym, ap, ap₂, ◌∙◌, subst}
use mathlib.Core.Logic.{⊎_elim}
use mathlib.Core.List.{List, [], ◌∷◌, ◌++◌, map}
use mathlib.Core.Option.{Option}
use native.Mathlib.Decide.{ℕ_discrete}
use native.Mathlib.Omega.{arith}
use Prim.Native.Nat.{ℕ, ◌<◌, ◌≤◌}
use lib.ListN.{length}
use Rattle.seqs.specs.Seqs.{count, In, sum}
use Rattle.places.specs.Store.{reg, Role, operands, successors, results, arguments, regions, blocks, ops, value_uses, block_uses, vals, fam, node_of, Thing, Thing-dec, Con, Con-dec, State, Linked, Sound, outer, alive, Live}
use Rattle.places.specs.Walk.{over, sgn, sift, gather, place_cut_by, cut_all, among, kids, walk, place_values_at, def_sets, innards}
use Rattle.seqs.proofs.Base.{tick_yes, count_append}
use Rattle.seqs.proofs.Sums.{sum_append, count_map}
use Rattle.places.proofs.Cut.{pick_1, zero_or, sift_none, sift_all, sift_in, own_cut_0, cut_append, cut_same, cut_nothing, count_sift_0}
use Rattle.places.proofs.Nest.{kind_code, count_gather, walk_same, walk_self}
use Rattle.places.proofs.Steps.{listed}
use Rattle.places.proofs.Climb.{ops_among}
use Rattle.places.proofs.Tables.{in_mapped}
use Rattle.places.proofs.Outside.{innards_count}
use Rattle.places.proofs.Runs.{measure, size, falls}
use Rattle.places.proofs.DropTurn.{append_assoc, append_nil, gather_append, list_none}
use Rattle.places.proofs.Erase.{Free, innards_eq, innards_once, innards_stay, value_in}
use Rattle.places.proofs.EraseTurn.{value_kind, ended_sound, erase_turn_sound, erase_turn_free, erase_turn_kids, erase_turn_ops, last_bare}
use Rattle.walk.specs.Erase.{Unused}

-- ---- the loop over what lies in x, begun at Z, come to Q

pub record Erasing (Z : State) (x : Thing) (Q : State) : Type 0 where
  pub sound : Sound Z
  pub kind : kind_code x.0 ≤ 2
  pub free : Free Z x
  pub own : place_values_at Z x ≡ []
  pub done : List Thing
  pub todo : List Thing
  pub parts : kids Z x ≡ done ++ todo
  pub now : Q ≡ cut_all (gather (innards Z) done) Z

pub begins : {Z : State} {x : Thing} → Sound Z → kind_code x.0 ≤ 2 → Free Z x → place_values_at Z x ≡ [] → Erasing Z x Z
begins {Z} {x} S c F e = record { sound = S; kind = c; free = F; own = e; done = []; todo = kids Z x; parts = refl; now = sym (cut_nothing Z) }

module _ {Z : State} {x : Thing} {Q : State} (G : Erasing Z x Q) (y : Thing) (r : List Thing) (e : kids Z x ≡ G.done ++ (y ∷ r)) where
  abbrev d : List Thing
  d = G.done

  abbrev L : List Thing
  L = gather (innards Z) d

  plain : cut_all (place_values_at Z x ++ L) Z ≡ cut_all L Z
  plain = ap (λ (v : List Thing). cut_all (v ++ L) Z) G.own

  -- it is the first that is left
  pub reads : kids Q x ≡ y ∷ r
  reads = ap (λ (P : State). kids P x) G.now ∙ ap (λ (P : State). kids P x) (sym plain) ∙ erase_turn_kids G.sound x G.kind G.free d y r e

  pub still_free : Free Q y
  still_free = subst (λ (P : State). Free P y) (sym G.now) (subst (λ (P : State). Free P y) plain (erase_turn_free G.sound x G.kind G.free d y r e))

  apart : (z : Thing) → In Thing-dec z L → count Thing-dec z (innards Z y) ≡ 0
  apart z i =
      omega (
        arith,
        i,
        count_gather Thing-dec z (innards Z) d,
        ap (count Thing-dec z) (innards_eq G.sound.linked x),
        count_append Thing-dec z (place_values_at Z x ++ (x ∷ [])) (gather (innards Z) (kids Z x)),
        count_gather Thing-dec z (innards Z) (kids Z x),
        ap (sum (λ t. count Thing-dec z (innards Z t))) e,
        sum_append (λ t. count Thing-dec z (innards Z t)) d (y ∷ r),
        innards_once G.sound.linked x z G.kind,
      )

  pub same : innards Q y ≡ innards Z y
  same = ap (λ (P : State). innards P y) G.now ∙ innards_stay G.sound.linked L (subst (λ (P : State). Linked P) plain (erase_turn_sound G.sound x G.kind G.free d y r e).linked) y apart

  -- it is smaller than x was
  pub shrinks : measure Q y < measure Z x
  unfolding walk
  shrinks =
      let q : size Q y ≡ size Z y = ap (λ (P : State). size P y) G.now ∙ ap (λ (P : State). size P y) (sym plain) ∙ erase_turn_ops G.sound x G.kind G.free d y r e in
      omega (arith, q, falls G.sound.linked x y (omega (arith, ap (count Thing-dec y) e, count_append Thing-dec y d (y ∷ r), tick_yes (Thing-dec y y) refl)))

  unfoldable pub goes_on : {R : State} → R ≡ cut_all (innards Q y) Q → Erasing Z x R
  goes_on {R} q =
      record {
        sound = G.sound;
        kind = G.kind;
        free = G.free;
        own = G.own;
        done = d ++ (y ∷ []);
        todo = r;
        parts = e ∙ sym (append_assoc d (y ∷ []) r);
        now =
            q
            ∙ ap₂ {C = State} (λ (v : List Thing) (P : State). cut_all v P) same G.now
            ∙ cut_append L (innards Z y) Z
            ∙ ap (λ (v : List Thing). cut_all v Z) (ap {B = List Thing} (λ (v : List Thing). L ++ v) (sym (append_nil (innards Z y))) ∙ sym (gather_append (innards Z) d (y ∷ [])));
      }

-- the end of the loop: nothing is left in x, and with x all inside has ended
module _ {Z : State} {x : Thing} {Q : State} (G : Erasing Z x Q) (h : G.todo ≡ []) where
  all : kids Z x ≡ G.done
  all = G.parts ∙ ap {B = List Thing} (λ (t : List Thing). G.done ++ t) h ∙ append_nil G.done

  abbrev A : List Thing
  A = gather (innards Z) (kids Z x)

  whole : Q ≡ cut_all A Z
  whole = G.now ∙ ap (λ (t : List Thing). cut_all (gather (innards Z) t) Z) (sym all)

  pub empty : (q : Role) → Q.list x q ≡ []
  empty q = ap (λ (P : State). P.list x q) whole ∙ ap (λ (v : List Thing). (cut_all (v ++ A) Z).list x q) (sym G.own) ∙ last_bare G.sound x G.kind G.free q

  pub no_kids : kids Q x ≡ []
  no_kids = ap₂ {C = List Thing} (λ a b. a ++ b) (empty regions) (ap₂ {C = List Thing} (λ a b. a ++ b) (empty blocks) (empty ops))

  pub ends : {R : State} → R ≡ cut_all (x ∷ []) Q → R ≡ cut_all (innards Z x) Z
  ends e = e ∙ ap (cut_all (x ∷ [])) whole ∙ cut_append A (x ∷ []) Z ∙ cut_same (among (A ++ (x ∷ []))) (among (innards Z x)) Z each
    where
      each : (y : Thing) → sgn (among (A ++ (x ∷ [])) y) ≡ sgn (among (innards Z x) y)
      each y =
          let q : among (A ++ (x ∷ [])) y ≡ among (innards Z x) y =
          omega (
            arith,
            count_append Thing-dec y A (x ∷ []),
            ap (count Thing-dec y) (innards_eq G.sound.linked x),
            count_append Thing-dec y (place_values_at Z x ++ (x ∷ [])) A,
            count_append Thing-dec y (place_values_at Z x) (x ∷ []),
            ap (count Thing-dec y) G.own,
          ) in
          ap sgn q

-- what lies in x now is what is left to do
pub left_kids : {Z : State} {x : Thing} {Q : State} (G : Erasing Z x Q) → kids Q x ≡ G.todo
left_kids {Z} {x} {Q} G = go G.todo refl
  where
    go : (t : List Thing) → G.todo ≡ t → kids Q x ≡ G.todo
    go [] e = no_kids G e ∙ sym e
    go (y ∷ t) e = reads G y t (G.parts ∙ ap {B = List Thing} (λ (r : List Thing). G.done ++ r) e) ∙ sym e

-- who is not cut lives on
pub live_cut : (l : List Thing) (P : State) (a : Thing) → among l a ≡ 0 → Live P a → Live (cut_all l P) a
unfolding place_cut_by alive
live_cut l P a z h = omega (arith, h, count_sift_0 ℕ_discrete (λ q. among l (a.0, q)) a.1 (P.tab a.0).order z)

-- x lives on while what lies in it ends
pub still_live : {Z : State} {x : Thing} {Q : State} (G : Erasing Z x Q) → Live Z x → Live Q x
still_live {Z} {x} G h =
    subst (λ (P : State). Live P x) (sym G.now)
    (live_cut (gather (innards Z) G.done) Z x
    (omega (
      arith,
      count_gather Thing-dec x (innards Z) G.done,
      ap (count Thing-dec x) (innards_eq G.sound.linked x),
      count_append Thing-dec x (place_values_at Z x ++ (x ∷ [])) (gather (innards Z) (kids Z x)),
      count_append Thing-dec x (place_values_at Z x) (x ∷ []),
      tick_yes (Thing-dec x x) refl,
      count_gather Thing-dec x (innards Z) (kids Z x),
      ap (sum (λ t. count Thing-dec x (innards Z t))) G.parts,
      sum_append (λ t. count Thing-dec x (innards Z t)) G.done G.todo,
      innards_once G.sound.linked x x G.kind,
    )) h)

-- the thing's own values have ended
module _ {P Z : State} (S : Sound P) (x : Thing) (kx : kind_code x.0 ≤ 2) (F : Free P x) (e : Z ≡ cut_all (place_values_at P x) P) where
  abbrev l : List Thing
  l = place_values_at P x

  start : cut_all l P ≡ cut_all (l ++ gather (innards P) []) P
  start = ap (λ (m : List Thing). cut_all m P) (sym (append_nil l))

  T : Sound (cut_all l P)
  T = subst (λ (Q : State). Sound Q) (sym start) (ended_sound S x kx F [] (λ k i. absurd (omega arith)))

  pub own_none : place_values_at Z x ≡ []
  unfolding place_cut_by
  own_none = ap (λ (Q : State). place_values_at Q x) e ∙ ap₂ {C = List Thing} (λ a b. a ++ b)
      (sift_none Thing-dec (among l) (P.list x results) (λ u i. omega (arith, i, count_append Thing-dec u (P.list x results) (P.list x arguments))))
      (sift_none Thing-dec (among l) (P.list x arguments) (λ u i. omega (arith, i, count_append Thing-dec u (P.list x results) (P.list x arguments))))

  not_value : (y : Thing) → kind_code y.0 ≤ 2 → among l y ≡ 0
  unfolding kind_code
  not_value y k = ⊎_elim (λ z. z) (λ z. absurd (omega (arith, ap kind_code (value_kind S x kx F y z)))) (zero_or (among l y))

  kids_same : (z : Thing) → kids (cut_all l P) z ≡ kids P z
  unfolding place_cut_by kind_code
  kids_same z = cc (one regions (λ y i. omega (arith, ap kind_code (node regions y i))), one blocks (λ y i. omega (arith, ap kind_code (node blocks y i))), one ops (λ y i. omega (arith, ap kind_code (node ops y i))))
    where
      node : (q : Role) (y : Thing) → In Thing-dec y (P.list z q) → y.0 ≡ node_of q
      node q y i = (S.linked.link y (fam q) (q, z) (listed S.linked y z q i)).node

      one : (q : Role) → ((y : Thing) → In Thing-dec y (P.list z q) → kind_code y.0 ≤ 2) → sift (among l) (P.list z q) ≡ P.list z q
      one q h = sift_all Thing-dec (among l) (P.list z q) (λ y i. not_value y (h y i))

  walk_is : walk (cut_all l P) x ≡ walk P x
  walk_is = walk_same S.linked T.linked x (λ y _. kids_same y)

  pub own_measure : measure Z x ≡ measure P x
  unfolding walk
  own_measure = let q : size Z x ≡ size P x = ap (λ (Q : State). size Q x) e ∙ ap (λ (w : List Thing). length (ops_among w)) walk_is in omega arith

  pub own_rest : cut_all (innards Z x) Z ≡ cut_all (innards P x) P
  own_rest =
      ap (λ (Q : State). cut_all (innards Q x) Q) e
      ∙ cut_append l (innards (cut_all l P) x) P
      ∙ cut_same (among (l ++ innards (cut_all l P) x)) (among (innards P x)) P each
    where
      each : (y : Thing) → sgn (among (l ++ innards (cut_all l P) x) y) ≡ sgn (among (innards P x) y)
      each y =
          ⊎_elim
          (λ z. let q : among (l ++ innards (cut_all l P) x) y ≡ among (innards P x) y = omega (arith, z, count_append Thing-dec y l (innards (cut_all l P) x), innards_count S.linked x y, innards_count T.linked x y, ap (count Thing-dec y) walk_is, same z) in ap sgn q)
          (λ z. pick_1 (among (l ++ innards (cut_all l P) x) y) 0 1 (omega (arith, z, count_append Thing-dec y l (innards (cut_all l P) x))) ∙ sym (pick_1 (among (innards P x) y) 0 1 (value_in S.linked x x y (omega (arith, self)) z)))
          (zero_or (among l y))
        where
          self : count Thing-dec x (walk P x) ≡ 1
          self = walk_self S.linked x

          same : among l y ≡ 0 → over (outer ((cut_all l P).own y vals)) (λ o. count Thing-dec o (walk (cut_all l P) x)) ≡ over (outer (P.own y vals)) (λ o. count Thing-dec o (walk P x))
          same z = ap₂ {C = ℕ} (λ (c : Option Con) (w : List Thing). over (outer c) (λ o. count Thing-dec o w)) (ap (λ h. h vals) (own_cut_0 (among l) P y z)) walk_is

  none_of : {A : Type 0} (a b : List A) → a ++ b ≡ [] → (a ≡ []) × (b ≡ [])
  none_of [] b e = (refl, e)
  none_of (y ∷ a) b e = absurd (omega (arith, ap length e))

  free_cut : Free (cut_all l P) x
  unfolding place_cut_by
  free_cut =
      record {
        unusing = λ z w. let n : (P.list z operands ≡ []) × (P.list z successors ≡ []) = none_of (P.list z operands) (P.list z successors) (F.unusing z (back z w)) in ap₂ {C = List Thing} (λ a b. sift (among l) a ++ sift (among l) b) n.0 n.1;
        unused = λ z w c i. ap (sift (among l)) (F.unused z (back z w) c (sets z c i));
      }
    where
      back : (z : Thing) → In Thing-dec z (walk (cut_all l P) x) → In Thing-dec z (walk P x)
      back z w = subst (λ (m : List Thing). In Thing-dec z m) walk_is w

      less : (z v : Thing) → In Thing-dec v (sift (among l) (P.list z results) ++ sift (among l) (P.list z arguments)) → In Thing-dec v (place_values_at P z)
      less z v i = ⊎_elim
          (λ q. omega (arith, count_append Thing-dec v (P.list z results) (P.list z arguments), (sift_in Thing-dec (among l) v (P.list z arguments) (omega (arith, i, q, count_append Thing-dec v (sift (among l) (P.list z results)) (sift (among l) (P.list z arguments))))).1))
          (λ q. omega (arith, count_append Thing-dec v (P.list z results) (P.list z arguments), (sift_in Thing-dec (among l) v (P.list z results) q).1))
          (zero_or (count Thing-dec v (sift (among l) (P.list z results))))

      sets : (z : Thing) (c : Con) → In Con-dec c ((block_uses, z) ∷ map (λ v. (value_uses, v)) (sift (among l) (P.list z results) ++ sift (among l) (P.list z arguments))) → In Con-dec c (def_sets P z)
      sets z c i = ⊎_elim
          (λ q. omega (arith, i, q))
          (λ q. let m : (v : Thing) × (c ≡ (value_uses, v)) × In Thing-dec v (sift (among l) (P.list z results) ++ sift (among l) (P.list z arguments)) = in_mapped Thing-dec Con-dec (λ v. (value_uses, v)) c (sift (among l) (P.list z results) ++ sift (among l) (P.list z arguments)) q in
          omega (arith, less z m.0 m.2, ap (λ (b : Con). count Con-dec b (map (λ v. (value_uses, v)) (place_values_at P z))) m.1, count_map Thing-dec Con-dec (λ v. (value_uses, v)) (λ p q n. ap (λ (b : Con). b.1) n) m.0 (place_values_at P z)))
          (zero_or (count Con-dec c (map (λ v. (value_uses, v)) (sift (among l) (P.list z results) ++ sift (among l) (P.list z arguments)))))

  pub own_live : Live P x → Live Z x
  own_live h = subst (λ (Q : State). Live Q x) (sym e) (live_cut l P x (not_value x kx) h)

  pub own_free : Free Z x
  own_free = subst (λ (Q : State). Free Q x) (sym e) free_cut

-- the contract's word for it
pub to_free : {P : State} {x : Thing} → Unused P x → Free P x
to_free F = record { unusing = F.unusing; unused = F.unused }

pub from_free : {P : State} {x : Thing} → Free P x → Unused P x
from_free F = record { unusing = F.unusing; unused = F.unused }

-- a region has no values
pub region_none : {P : State} → Sound P → (r : ℕ) → place_values_at P (reg, r) ≡ []
unfolding kind_code
region_none {P} S r = ap₂ {C = List Thing} (λ a b. a ++ b) (list_none S.linked (reg, r) results (λ h. absurd (omega arith))) (list_none S.linked (reg, r) arguments (λ h. absurd (omega arith)))
