-- The edits 39 to 41: refused by 13 or 14, or done, as the rules say. Assumes nothing.
use mathlib.Core.Path.{◌≡◌, refl, sym, ap, ap₂, ◌∙◌, subst}
use mathlib.Core.Logic.{⊎_elim}
use mathlib.Core.List.{List, [], ◌∷◌, ◌++◌}
use native.Mathlib.Decide.{ℕ_discrete}
use native.Mathlib.Omega.{arith}
use Prim.Native.Nat.{ℕ, zero, suc, ◌+◌, ◌<◌, ◌≤◌}
use lib.ListN.{length, get_or}
use Rattle.seqs.specs.Seqs.{In, sum}
use Rattle.places.specs.Store.{Kind, op, blk, reg, usg, results, arguments, regions, ops, regs, Thing, Thing-dec, State, alive, Live, Sound}
use Rattle.places.specs.Parts.{rows_of}
use Rattle.places.specs.View.{num}
use Rattle.places.specs.Hist.{meaning}
use Rattle.places.specs.Alias.{RState}
use Rattle.places.specs.Settled.{Settles}
use Rattle.places.specs.Walk.{pick, gather, place_cut_by, cut_all, among, kids, walk_by, walk, place_values_at, drop_list, dropped, innards, erased, strays, strays_in}
use Rattle.edit.specs.Record.{Edit, erase_operation, erase_block, erase_region}
use Rattle.std.specs.Prelude.{Ok, Err}
use Rattle.edit.specs.Answer.{Answer, found}
use Rattle.edit.specs.Kinds.{number_of, member_of, nested_of}
use Rattle.edit.specs.declared.Member.{Member}
use Rattle.edit.specs.declared.Nested.{Nested}
use Rattle.edit.specs.declared.Refusal.{Refusal}
use Rattle.edit.specs.declared.Refusal.TheVariants.{NoIndex}
use Rattle.places.specs.Roles.{Unnamed, missing_code, member_kind}
use Rattle.rules.specs.State.{accept}
use Rattle.rules.specs.Refusal.{named, refusal_of}
use Rattle.rules.specs.Refusal as R
use Rattle.rules.specs.Step.{answer}
use Rattle.places.proofs.Placing.{is_use}
use Rattle.places.proofs.Climb.{ops_among}
use Rattle.places.proofs.Cut.{zero_or, count_sift_0, cut_append}
use Rattle.places.proofs.Settling.{settles_cut}
use Rattle.places.proofs.Nest.{kind_code, gather_on}
use Rattle.places.proofs.DropAll.{drop_uses}
use Rattle.places.proofs.DropTurn.{kids_blk, list_kept, walk_kept}
use Rattle.places.proofs.Erase.{Free}
use Rattle.places.proofs.EraseTurn.{drop_free}
use Rattle.places.proofs.TopRefusals.{refuse_op, refuse_block, refuse_region, refuse_index}
use Rattle.places.proofs.Meaning.{erase_op_meaning, erase_op_reply, erase_block_meaning, erase_block_reply, erase_region_meaning, erase_region_reply}
use Rattle.context.specs.declared.Layout.{Layout}
use Rattle.context.specs.declared.Thing as nest
use Rattle.context.specs.Memory.{state_of, SoundStore, LengthIs}
use Rattle.context.specs.Nest.{nested_kind, thing_at}
use Rattle.context.specs.Reading.{NthIs}
use Rattle.context.specs.Performed.{Performed}
use Rattle.context.proofs.Performing.{refuses, accepts}
use Rattle.edit.proofs.Numbers.{number_of-positive}
use Rattle.walk.specs.declared.Tally.{Tally}
use Rattle.walk.specs.Drop.{Tallied}
use Rattle.walk.specs.Tests.{within, erase_code, Tested, Testable}
use Rattle.walk.specs.Erase.{CanErase, Erased, own_reach, EraseDone, EraseAnswer, erase_by}
use Rattle.walk.proofs.Nested.{operations_are}
use Rattle.walk.proofs.Asked.{passes, no_thing}
use Rattle.walk.proofs.EraseLaws.{from_free}
use Rattle.walk.proofs.EraseWalk.{nested≤}

-- ---- the store afterwards

pub done_meaning : (P : State) (x : Thing) {Q : State} → Q ≡ cut_all (innards P x) (dropped P x) → meaning Q ≡ meaning (erased P x)
unfolding erased
done_meaning P x e = ap meaning e

-- two cuts, one after the other, are one
pub settles_erased : (P : State) (x : Thing) {Q : State} → Q ≡ cut_all (innards P x) (dropped P x) → Settles P Q
unfolding dropped
settles_erased P x e = subst (Settles P) (sym (e ∙ cut_append (drop_list P x) (innards P x) P)) (settles_cut (among (drop_list P x ++ innards P x)) P)

-- ---- the depth of 13

gather_none : (P : State) (l : List Thing) → gather (walk_by (kids P) 0) l ≡ []
gather_none P [] = refl
gather_none P (x ∷ l) = gather_none P l

gather_ones : (P : State) (l : List Thing) → gather (walk_by (kids P) 1) l ≡ l
gather_ones P [] = refl
gather_ones P (x ∷ l) = ap₂ {C = List Thing} (λ (a b : List Thing). (x ∷ a) ++ b) (gather_none P (kids P x)) (gather_ones P l)

near_op : (P : State) (mk : ℕ → ℕ) (x : Thing) → sum (strays P mk) (within P 1 x) ≡ strays P mk x
unfolding within
near_op P mk x = let z : strays P mk x + 0 ≡ strays P mk x = omega arith in ap (λ (l : List Thing). sum (strays P mk) (x ∷ l)) (gather_none P (kids P x)) ∙ z

near_block : {P : State} → Sound P → (mk : ℕ → ℕ) (b : ℕ) → sum (strays P mk) (within P 2 (blk, b)) ≡ strays P mk (blk, b) + sum (strays P mk) (P.list (blk, b) ops)
unfolding within
near_block {P} S mk b = ap (λ (l : List Thing). strays P mk (blk, b) + sum (strays P mk) l) (gather_ones P (kids P (blk, b)) ∙ kids_blk S.linked b)

near_region : (P : State) (mk : ℕ → ℕ) (x : Thing) → erase_code P mk 0 x ≡ pick (strays_in P mk x) 0 14
unfolding within pick
near_region P mk x = refl

no_strays : (a b : ℕ) → ◌≡◌ {A = ℕ} (pick a (pick b 0 14) 13) 0 → b ≡ 0
unfolding pick
no_strays zero zero e = refl
no_strays zero (suc b) e = absurd (omega (arith, e))
no_strays (suc a) b e = absurd (omega (arith, e))

-- ---- refused or done

done_performed : (l : Layout) (m m' : List ℕ) (e : Edit) (x : Thing) (r : Answer) → refusal_of (meaning (state_of l m)) e ≡ 0 → EraseDone l x m m' r
    → meaning (erased (state_of l m) x) ≡ accept e (meaning (state_of l m))
    → answer e (meaning (state_of l m)) (meaning (erased (state_of l m) x)).history ≡ found (length (ops_among (walk (state_of l m) x))) (length (drop_list (state_of l m) x))
    → Performed l e m m' r
done_performed l m m' e x r asked E after reply =
    subst (Performed l e m m') (sym E.reply)
    (accepts e E.store asked (done_meaning (state_of l m) x E.state ∙ after) E.rest (settles_erased (state_of l m) x E.state) _ _
    (ap (λ (s : RState). answer e (meaning (state_of l m)) s.history) (sym after)
    ∙ reply
    ∙ ap (λ (n : ℕ). found n (length (drop_list (state_of l m) x))) (sym (operations_are (state_of l m) x))))

module _ {l : Layout} {m m' : List ℕ} (S : SoundStore l m) (e : Edit) (x : Thing) (n : ℕ) (r : Answer) (D : EraseAnswer l x n m m' r) where
  abbrev P : State
  P = state_of l m

  abbrev mk : ℕ → ℕ
  mk = D.marks

  pub answered : refusal_of (meaning P) e ≡ erase_code P mk n x
      → (strays_in P mk x ≡ 0 → meaning (erased P x) ≡ accept e (meaning P))
      → (strays_in P mk x ≡ 0 → answer e (meaning P) (meaning (erased P x)).history ≡ found (length (ops_among (walk P x))) (length (drop_list P x)))
      → Performed l e m m' r
  answered asked after reply = go (erase_code P mk n x) refl
    where
      finish : erase_code P mk n x ≡ 0 → EraseDone l x m m' r → Performed l e m m' r
      finish z E = done_performed l m m' e x r (asked ∙ z) E (after (no_strays (sum (strays P mk) (within P n x)) (strays_in P mk x) z)) (reply (no_strays (sum (strays P mk) (within P n x)) (strays_in P mk x) z))

      stop : (m' ≡ m) × (a : Refusal) × (r ≡ Err a) × (number_of a ≡ erase_code P mk n x) → Performed l e m m' r
      stop w =
          subst (λ (t : List ℕ). Performed l e m t r) (sym w.0)
          (subst (λ (a : Answer). Performed l e m m a) (sym w.2) (refuses e S w.1 (asked ∙ sym w.3)))

      go : (c : ℕ) → erase_code P mk n x ≡ c → Performed l e m m' r
      go zero z = finish z (D.done z)
      go (suc c) z = stop (D.kept (λ q. omega (arith, q, z)))

module _ {l : Layout} {m : List ℕ} (S : SoundStore l m) where
  abbrev Q : State
  Q = state_of l m

  -- 39
  did_erase_op : (m' : List ℕ) (r : Answer) (o n : ℕ) → Live Q (op, o) → num Q (op, o) ≡ n → EraseAnswer l (op, o) 1 m m' r → Performed l (erase_operation n) m m' r
  unfolding meaning named R.thing_named kind_code
  did_erase_op m' r o n v q D =
      subst (λ (i : ℕ). Performed l (erase_operation i) m m' r) q
      (answered S (erase_operation (num Q (op, o))) (op, o) 1 r D
      (passes S (erase_operation (num Q (op, o))) (op, o) (num Q (op, o)) (omega arith) v refl refl ∙ refuse_op S.sound _ D.marks o v D.right ∙ ap (λ (a : ℕ). pick a (pick (strays_in Q D.marks (op, o)) 0 14) 13) (sym (near_op Q D.marks (op, o))))
      (λ z. erase_op_meaning S.sound D.marks o v D.right z)
      (λ z. erase_op_reply S.sound D.marks o v D.right z))

  -- 40
  did_erase_block : (m' : List ℕ) (r : Answer) (b n : ℕ) → Live Q (blk, b) → num Q (blk, b) ≡ n → EraseAnswer l (blk, b) 2 m m' r → Performed l (erase_block n) m m' r
  unfolding meaning named R.thing_named kind_code
  did_erase_block m' r b n v q D =
      subst (λ (i : ℕ). Performed l (erase_block i) m m' r) q
      (answered S (erase_block (num Q (blk, b))) (blk, b) 2 r D
      (passes S (erase_block (num Q (blk, b))) (blk, b) (num Q (blk, b)) (omega arith) v refl refl ∙ refuse_block S.sound _ D.marks b v D.right ∙ ap (λ (a : ℕ). pick a (pick (strays_in Q D.marks (blk, b)) 0 14) 13) (sym (near_block S.sound D.marks b)))
      (λ z. erase_block_meaning S.sound D.marks b v D.right z)
      (λ z. erase_block_reply S.sound D.marks b v D.right z))

  -- no operation or block has the number
  pub none_to_erase : (w : Member) (n : ℕ) {K : Kind} {r : Refusal} → K ≡ member_kind (member_of w) → Unnamed Q K n × (number_of r ≡ missing_code K) → Performed l (erase_by (member_of w) n) m m (Err r)
  unfolding named R.thing_named
  none_to_erase Member.Operation n q u = no_thing S (erase_operation n) Nested.Operation n q u refl
  none_to_erase Member.Block n q u = no_thing S (erase_block n) Nested.Block n q u refl

  -- what the look-up found
  module _ (w : Member) (n p : ℕ) {K : Kind} {k : Nested} (e : K ≡ member_kind (member_of w)) (i : k ≡ nested_of w) (F : Live Q (K, p) × (num Q (K, p) ≡ n)) where
    pub member_there : Live Q (nested_kind k, p) × (num Q (nested_kind k, p) ≡ n)
    member_there = subst (λ (J : Kind). Live Q (J, p) × (num Q (J, p) ≡ n)) (e ∙ sort w ∙ ap nested_kind (sym i)) F
      where
        sort : (v : Member) → member_kind (member_of v) ≡ nested_kind (nested_of v)
        sort Member.Operation = refl
        sort Member.Block = refl

    pub did_erase : (m' : List ℕ) (r : Answer) → EraseAnswer l (nested_kind k, p) (own_reach k) m m' r → Performed l (erase_by (member_of w) n) m m' r
    did_erase m' r D = go w (subst (λ (j : Nested). (Live Q (nested_kind j, p) × (num Q (nested_kind j, p) ≡ n)) × EraseAnswer l (nested_kind j, p) (own_reach j) m m' r) i (member_there, D))
      where
        go : (v : Member) → (Live Q (nested_kind (nested_of v), p) × (num Q (nested_kind (nested_of v), p) ≡ n)) × EraseAnswer l (nested_kind (nested_of v), p) (own_reach (nested_of v)) m m' r → Performed l (erase_by (member_of v) n) m m' r
        go Member.Operation h = did_erase_op m' r p n h.0.0 h.0.1 h.1
        go Member.Block h = did_erase_block m' r p n h.0.0 h.0.1 h.1

  -- 41
  module _ (o n i : ℕ) (v : Live Q (op, o)) (q : num Q (op, o) ≡ n) where
    pub no_index : (k : ℕ) → LengthIs l regs o m k → k ≤ i → Performed l (erase_region n i) m m (Err NoIndex)
    unfolding meaning named R.thing_named kind_code rows_of
    no_index k L h =
        subst (λ (k : ℕ). Performed l (erase_region k i) m m (Err NoIndex)) q
        (refuses (erase_region (num Q (op, o)) i) S NoIndex (passes S (erase_region (num Q (op, o)) i) (op, o) (num Q (op, o)) (omega arith) v refl refl ∙ refuse_index S.sound _ (λ _. 0) o i v (omega (arith, h, L.is))))

    other_default : {A : Type 0} (t : List A) (i : ℕ) (a b : A) → i < length t → get_or t i a ≡ get_or t i b
    other_default [] i a b h = absurd (omega arith)
    other_default (x ∷ t) zero a b h = refl
    other_default (x ∷ t) (suc i) a b h = other_default t i a b (omega (arith, h))

    pub region_live : (p : ℕ) → NthIs l regs o i m p → Live Q (reg, p)
    region_live p N = (S.sound.linked.link (reg, p) regs _ N.own).live

    pub did_erase_region : (m' : List ℕ) (r : Answer) (k p : ℕ) → LengthIs l regs o m k → i < k → NthIs l regs o i m p → EraseAnswer l (reg, p) 0 m m' r → Performed l (erase_region n i) m m' r
    unfolding meaning named R.thing_named kind_code rows_of
    did_erase_region m' r k p L b N D =
        let h : i < length (Q.list (op, o) regions) = omega (arith, b, L.is) in
        let at : get_or (Q.list (op, o) regions) i (reg, p) ≡ (reg, p) = other_default (Q.list (op, o) regions) i (reg, p) (reg, 0) h ∙ N.is in
        let w : Live Q (reg, p) = region_live p N in
        subst (λ (k : ℕ). Performed l (erase_region k i) m m' r) q
        (answered S (erase_region (num Q (op, o)) i) (reg, p) 0 r D
        (passes S (erase_region (num Q (op, o)) i) (op, o) (num Q (op, o)) (omega arith) v refl refl ∙ refuse_region S.sound _ D.marks p o i w v h at D.right ∙ sym (near_region Q D.marks (reg, p)))
        (λ z. erase_region_meaning S.sound D.marks p o i w v h at D.right z)
        (λ z. erase_region_reply S.sound D.marks p o i w v h at D.right z))

-- ---- the function once the thing is found

-- the uses have ended: what lies in x is the same, and nothing there is used
module _ {P : State} (S : Sound P) (x : Thing) where
  use_list : (u : Thing) → In Thing-dec u (drop_list P x) → u.0 ≡ usg
  use_list = (drop_uses S.linked x).kind

  values_kept : (z : Thing) → place_values_at (dropped P x) z ≡ place_values_at P z
  unfolding dropped is_use
  values_kept z = ap₂ {C = List Thing} (λ a b. a ++ b) (list_kept S (drop_list P x) use_list z results refl) (list_kept S (drop_list P x) use_list z arguments refl)

  pub innards_dropped : innards (dropped P x) x ≡ innards P x
  unfolding innards dropped
  innards_dropped =
      ap (gather (λ y. place_values_at (dropped P x) y ++ (y ∷ []))) (walk_kept S (drop_list P x) use_list x)
      ∙ gather_on Thing-dec (λ y. place_values_at (dropped P x) y ++ (y ∷ [])) (λ y. place_values_at P y ++ (y ∷ [])) (walk P x) (λ z _. ap {B = List Thing} (λ (r : List Thing). r ++ (z ∷ [])) (values_kept z))

  lives_on : kind_code x.0 ≤ 2 → Live P x → Live (dropped P x) x
  unfolding dropped place_cut_by alive kind_code
  lives_on k h = omega (arith, h, count_sift_0 ℕ_discrete (λ q. among (drop_list P x) (x.0, q)) x.1 (P.tab x.0).order (⊎_elim (λ z. z) (λ z. absurd (omega (arith, k, ap kind_code (use_list x z)))) (zero_or (among (drop_list P x) x))))

-- 13 or 14
pub refused_answer : {l : Layout} {x : Thing} {n : ℕ} {m s s' : List ℕ} {e : Refusal} → Tested l x n m s s' (Err e) → EraseAnswer l x n m m (Err e)
refused_answer {e = e} T =
    record {
      marks = T.marks;
      right = T.right;
      kept = λ q. (refl, e, refl, T.code);
      done = λ z. absurd (omega (arith, number_of-positive e, T.code, z));
    }

module _ {l : Layout} {m s s' : List ℕ} {x : nest.Thing} {n : ℕ} (S : SoundStore l m) (C : Testable l x m s) (T : Tested l (thing_at x) n m s s' (Ok tt)) where
  abbrev A : State
  A = state_of l m

  abbrev y : Thing
  y = thing_at x

  passed : ◌≡◌ {A = ℕ} 0 (erase_code A T.marks n y)
  passed = T.code

  none_out : strays_in A T.marks y ≡ 0
  none_out = no_strays (sum (strays A T.marks) (within A n y)) (strays_in A T.marks y) (sym passed)

  pub can_erase : {t : Tally} {m' : List ℕ} → Tallied l y m m' t → CanErase l y m'
  can_erase D =
      record {
        store = D.store;
        live = subst (λ (Q : State). Live Q y) (sym D.state) (lives_on S.sound y (nested≤ x.kind) C.live);
        unused = from_free (subst (λ (Q : State). Free Q y) (sym D.state) (drop_free S.sound y T.marks T.right none_out));
      }

  pub done_answer : {t : Tally} {m₁ m₂ : List ℕ} → Tallied l y m m₁ t → Erased l y m₁ m₂ → EraseAnswer l y n m m₂ (Ok (t.freed, t.ended))
  done_answer {t} {m₁} D E =
      record {
        marks = T.marks;
        right = T.right;
        kept = λ q. absurd (q (sym passed));
        done = λ _. record {
          store = E.store;
          rest = E.rest ∙ D.rest;
          state = E.state ∙ ap (λ (Q : State). cut_all (innards Q y) Q) D.state ∙ ap (λ (t : List Thing). cut_all t (dropped A y)) (innards_dropped S.sound y);
          reply = ap₂ {C = Answer} (λ (a b : ℕ). Ok (a, b)) D.freed D.ended;
        };
      }
