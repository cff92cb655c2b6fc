-- The edits 36 to 41 on a store by places, with the uses that have ended counted by the store itself: the meaning after them is the rules'.
-- Assumes nothing.
use mathlib.Core.Path.{◌≡◌, refl, sym, ap, ◌∙◌, subst}
use mathlib.Core.List.{List, map}
use native.Mathlib.Decide.{ℕ_discrete}
use native.Mathlib.Omega.{arith}
use Prim.Native.Nat.{ℕ, ◌+◌, ◌-◌, ◌<◌, ◌≤◌}
use lib.ListN.{length, length-map, get_or}
use Rattle.seqs.specs.Seqs.{count, In, sum}
use Rattle.places.specs.Store.{op, blk, reg, usg, regions, Thing, Thing-dec, State, alive, Live, Sound}
use Rattle.places.specs.View.{Rec, num, rec_of, view}
use Rattle.places.specs.Hist.{tabled, use_of, rule_state, meaning, the_thing}
use Rattle.places.specs.Alias.{RState}
use Rattle.places.specs.Walk.{sgn, sift, place_cut_by, among, everything, walk, drop_list, dropped, erased, strays_in}
use Rattle.rules.specs.State.{accept}
use Rattle.rules.specs.Step.{answer}
use Rattle.edit.specs.Record.{Edit, drop_uses, erase_operation, erase_block, erase_region}
use Rattle.edit.specs.Answer.{found}
use Rattle.seqs.proofs.Base.{rises_once}
use Rattle.seqs.proofs.Sums.{sum_on, sum_map, length_count, count_map}
use Rattle.places.proofs.Steps.{thing_eq}
use Rattle.places.proofs.Climb.{ops_among}
use Rattle.places.proofs.Cut.{Closed}
use Rattle.places.proofs.Nest.{kind_code}
use Rattle.places.proofs.DropAll as Uses
use Rattle.places.proofs.Bits.{sgn_one, tabled_view}
use Rattle.places.proofs.Tables.{length_sift}
use Rattle.places.proofs.Outside.{Marks, all_closed, erased_is}
use Rattle.places.proofs.RuleDrop.{defs_left}
use Rattle.places.proofs.RuleErase.{erase_uses}
use Rattle.places.proofs.Top.{drop_accept, drop_answer, Erases, erase_accept, erase_answer, erases_op, erases_block, erases_region}
use Rattle.places.proofs.RuleAccept.{lives_born}

module _ {P : State} (S : Sound P) (x : Thing) where
  abbrev D : Thing → ℕ
  D = among (drop_list P x)

  abbrev left : List ℕ
  left = sift (λ u. D (usg, u)) (P.tab usg).order

  -- the uses inside, counted over the live ones
  uses_left : length left + length (drop_list P x) ≡ length (P.tab usg).order
  unfolding alive
  uses_left = omega (arith, length_sift (λ u. D (usg, u)) (P.tab usg).order, counted, sum_on ℕ_discrete (λ u. D (usg, u)) (λ u. sgn (D (usg, u))) (P.tab usg).order (λ u _. sym (sgn_one (D (usg, u)) ((Uses.drop_uses S.linked x).once (usg, u)))))
    where
      once : (y : Thing) → In Thing-dec y (drop_list P x) → count Thing-dec y (map (λ u. (usg, u)) (P.tab usg).order) ≡ 1
      once y i =
          let k : y ≡ (usg, y.1) = thing_eq y (usg, y.1) ((Uses.drop_uses S.linked x).kind y i) refl in
          ap (λ (a : Thing). count Thing-dec a (map (λ u. (usg, u)) (P.tab usg).order)) k
          ∙ count_map ℕ_discrete Thing-dec (λ v. (usg, v)) (λ a b q. ap (λ (z : Thing). z.1) q) y.1 (P.tab usg).order
          ∙ rises_once (P.tab usg).num (P.tab usg).order (S.linked.tabs usg).rises y.1 (subst (λ (a : Thing). Live P a) k ((Uses.drop_uses S.linked x).live y i))

      counted : length (drop_list P x) ≡ sum (λ u. D (usg, u)) (P.tab usg).order
      counted = length_count Thing-dec (drop_list P x) (map (λ u. (usg, u)) (P.tab usg).order) once ∙ sum_map (λ y. count Thing-dec y (drop_list P x)) (λ u. (usg, u)) (P.tab usg).order

  -- so many have ended
  abbrev E : ℕ
  E = (P.tab usg).next - length (P.tab usg).order

  ended : (n : ℕ) → n ≡ length left → (P.tab usg).next - n ≡ E + length (drop_list P x)
  ended n h = omega (arith, uses_left, lives_born S.linked usg)

  meaning_by : (Q : State) → (Q.tab usg).next ≡ (P.tab usg).next → length (Q.tab usg).order ≡ length left → meaning Q ≡ rule_state (E + length (drop_list P x)) Q
  unfolding meaning
  meaning_by Q nx lf = let q : (Q.tab usg).next - length (Q.tab usg).order ≡ E + length (drop_list P x) = omega (arith, ended (length (Q.tab usg).order) lf, nx) in ap (λ (n : ℕ). rule_state n Q) q

  module _ (lx : Live P x) (kx : kind_code x.0 ≤ 2) where
    dropped_meaning : meaning (dropped P x) ≡ rule_state (E + length (drop_list P x)) (dropped P x)
    unfolding dropped place_cut_by
    dropped_meaning = meaning_by (dropped P x) refl refl

    -- 36 to 38
    pub drop_meaning : meaning (dropped P x) ≡ accept (drop_uses (the_thing P x)) (meaning P)
    unfolding meaning
    drop_meaning = dropped_meaning ∙ drop_accept S E x lx kx

    pub drop_reply : answer (drop_uses (the_thing P x)) (meaning P) (meaning (dropped P x)).history ≡ found 0 (length (drop_list P x))
    unfolding meaning
    drop_reply = ap (λ (s : RState). answer (drop_uses (the_thing P x)) (rule_state E P) s.history) dropped_meaning ∙ drop_answer S E x lx kx

    module _ (closed : Closed (among (everything P x)) P) where
      length_things : {A : Type 0} (Q : State) (f : Rec → A) → length (tabled f ((view Q).things usg)) ≡ length (Q.tab usg).order
      length_things Q f = ap length (tabled_view Q usg f) ∙ length-map (Q.tab usg).order (λ p. (num Q (usg, p), f (rec_of Q (usg, p))))

      erased_left : length ((erased P x).tab usg).order ≡ length left
      erased_left =
          ap (λ (Q : State). length (Q.tab usg).order) (erased_is P x)
          ∙ sym (length_things (place_cut_by (among (everything P x)) P) use_of)
          ∙ ap length (erase_uses S E x lx kx closed ∙ defs_left S E x lx kx)
          ∙ length-map left (λ u. (num P (usg, u), use_of (rec_of P (usg, u))))

      pub erased_meaning : meaning (erased P x) ≡ rule_state (E + length (drop_list P x)) (erased P x)
      unfolding erased dropped place_cut_by
      erased_meaning = meaning_by (erased P x) refl erased_left

      module _ (d : Edit) (Z : Erases P x E d) where
        pub erase_meaning : meaning (erased P x) ≡ accept d (meaning P)
        unfolding meaning
        erase_meaning = erased_meaning ∙ erase_accept S E x lx kx closed d Z

        pub erase_reply : answer d (meaning P) (meaning (erased P x)).history ≡ found (length (ops_among (walk P x))) (length (drop_list P x))
        unfolding meaning
        erase_reply = ap (λ (s : RState). answer d (meaning P) s.history) erased_meaning ∙ erase_answer S E x lx kx closed d Z

module _ {P : State} (S : Sound P) (mk : ℕ → ℕ) where
  out : (x : Thing) → kind_code x.0 ≤ 2 → Marks P mk x → strays_in P mk x ≡ 0 → Closed (among (everything P x)) P
  out x kx right none_out = all_closed S.linked x mk right kx none_out

  -- 39
  module _ (o : ℕ) (l : Live P (op, o)) (right : Marks P mk (op, o)) (none_out : strays_in P mk (op, o) ≡ 0) where
    pub erase_op_meaning : meaning (erased P (op, o)) ≡ accept (erase_operation (num P (op, o))) (meaning P)
    unfolding kind_code
    erase_op_meaning = let c : Closed (among (everything P (op, o))) P = out (op, o) (omega arith) right none_out in erase_meaning S (op, o) l (omega arith) c (erase_operation (num P (op, o))) (erases_op S (E S (op, o)) o l c)

    pub erase_op_reply : answer (erase_operation (num P (op, o))) (meaning P) (meaning (erased P (op, o))).history ≡ found (length (ops_among (walk P (op, o)))) (length (drop_list P (op, o)))
    unfolding kind_code
    erase_op_reply = let c : Closed (among (everything P (op, o))) P = out (op, o) (omega arith) right none_out in erase_reply S (op, o) l (omega arith) c (erase_operation (num P (op, o))) (erases_op S (E S (op, o)) o l c)

  -- 40
  module _ (b : ℕ) (l : Live P (blk, b)) (right : Marks P mk (blk, b)) (none_out : strays_in P mk (blk, b) ≡ 0) where
    pub erase_block_meaning : meaning (erased P (blk, b)) ≡ accept (erase_block (num P (blk, b))) (meaning P)
    unfolding kind_code
    erase_block_meaning = let c : Closed (among (everything P (blk, b))) P = out (blk, b) (omega arith) right none_out in erase_meaning S (blk, b) l (omega arith) c (erase_block (num P (blk, b))) (erases_block S (E S (blk, b)) b l c)

    pub erase_block_reply : answer (erase_block (num P (blk, b))) (meaning P) (meaning (erased P (blk, b))).history ≡ found (length (ops_among (walk P (blk, b)))) (length (drop_list P (blk, b)))
    unfolding kind_code
    erase_block_reply = let c : Closed (among (everything P (blk, b))) P = out (blk, b) (omega arith) right none_out in erase_reply S (blk, b) l (omega arith) c (erase_block (num P (blk, b))) (erases_block S (E S (blk, b)) b l c)

  -- 41
  module _ (r o i : ℕ) (l : Live P (reg, r)) (lo : Live P (op, o)) (inside : i < length (P.list (op, o) regions)) (at : get_or (P.list (op, o) regions) i (reg, r) ≡ (reg, r)) (right : Marks P mk (reg, r)) (none_out : strays_in P mk (reg, r) ≡ 0) where
    pub erase_region_meaning : meaning (erased P (reg, r)) ≡ accept (erase_region (num P (op, o)) i) (meaning P)
    unfolding kind_code
    erase_region_meaning = let c : Closed (among (everything P (reg, r))) P = out (reg, r) (omega arith) right none_out in erase_meaning S (reg, r) l (omega arith) c (erase_region (num P (op, o)) i) (erases_region S (E S (reg, r)) r o i l lo inside at c)

    pub erase_region_reply : answer (erase_region (num P (op, o)) i) (meaning P) (meaning (erased P (reg, r))).history ≡ found (length (ops_among (walk P (reg, r)))) (length (drop_list P (reg, r)))
    unfolding kind_code
    erase_region_reply = let c : Closed (among (everything P (reg, r))) P = out (reg, r) (omega arith) right none_out in erase_reply S (reg, r) l (omega arith) c (erase_region (num P (op, o)) i) (erases_region S (E S (reg, r)) r o i l lo inside at c)
