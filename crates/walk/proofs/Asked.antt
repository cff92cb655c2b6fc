-- An edit that names one thing, put to a sound store: refused where the name is dead, and else as the rules say. Assumes nothing.
use mathlib.Core.Path.{◌≡◌, refl, sym, ap, ◌∙◌, subst}
use mathlib.Core.List.{List, [], ◌∷◌}
use native.Mathlib.Omega.{arith}
use Prim.Native.Nat.{ℕ, suc, ◌-◌, ◌≤◌}
use Rattle.places.specs.Store.{Kind, op, blk, reg, val, usg, Thing, State, Live, Sound}
use Rattle.places.specs.View.{num, view}
use Rattle.places.specs.Hist.{hist, rule_state, meaning, thing_named, the_thing}
use Rattle.places.specs.Alias.{RState, RThing}
use Rattle.places.specs.Walk.{among, drop_list, dropped}
use Rattle.places.specs.Settled.{Settles}
use Rattle.places.specs.Roles.{Unnamed, missing_code}
use Rattle.edit.specs.Record.{Edit, drop_uses}
use Rattle.edit.specs.Answer.{found}
use Rattle.edit.specs.Kinds.{number_of, thing_of}
use Rattle.edit.specs.declared.Nested.{Nested}
use Rattle.edit.specs.declared.Nested.TheVariants.{Operation, Block, Region}
use Rattle.edit.specs.declared.Refusal.{Refusal}
use Rattle.std.specs.Prelude.{Ok, Err}
use Rattle.rules.specs.History.{History}
use Rattle.rules.specs.State.{accept}
use Rattle.rules.specs.Refusal.{missing, named, from_state, refusal_of}
use Rattle.rules.specs.Refusal as R
use Rattle.rules.specs.Step.{answer}
use Rattle.places.proofs.Nest.{kind_code, walk_ops}
use Rattle.places.proofs.RuleRefusals.{code_first, code_one, operation_there, operation_missing, block_there, block_missing, region_there, region_missing}
use Rattle.places.proofs.Settling.{settles_cut}
use Rattle.places.proofs.Meaning.{drop_meaning, drop_reply}
use Rattle.context.specs.declared.Layout.{Layout}
use Rattle.context.specs.Memory.{state_of, SoundStore}
use Rattle.context.specs.Nest.{nested_kind}
use Rattle.context.specs.Performed.{Performed}
use Rattle.context.specs.Reading.{LiveIs}
use Rattle.context.proofs.Performing.{refuses, accepts}
use Rattle.edit.proofs.Numbers.{number_of-positive}
use Rattle.walk.specs.declared.Tally.{Tally}
use Rattle.walk.specs.Drop.{walked, CanDrop, zeros, Tallied}
use Rattle.walk.proofs.Nested.{operations_are}
use Rattle.walk.proofs.EraseWalk.{nested≤}

-- the uses inside x ended, and nothing else
pub settles_dropped : (P : State) (x : Thing) {Q : State} → Q ≡ dropped P x → Settles P Q
unfolding dropped
settles_dropped P x e = subst (Settles P) (sym e) (settles_cut (among (drop_list P x)) P)

-- ---- one name

module _ {P : State} (S : Sound P) (e : ℕ) where
  abbrev h : History
  h = hist e (view P)

  one_live : (x : Thing) (n : ℕ) → kind_code x.0 ≤ 2 → Live P x → num P x ≡ n → missing h (R.thing_named (thing_named x.0 n)) ≡ 0
  unfolding R.thing_named kind_code
  one_live (op, p) n k l q = operation_there S e p n l q
  one_live (blk, p) n k l q = block_there S e p n l q
  one_live (reg, p) n k l q = region_there S e p n l q
  one_live (val, p) n k l q = absurd (omega arith)
  one_live (usg, p) n k l q = absurd (omega arith)

  -- 7, 8 and 9
  one_dead : (k : Nested) (n : ℕ) → Unnamed P (nested_kind k) n → missing h (R.thing_named (thing_of k n)) ≡ missing_code (nested_kind k)
  unfolding R.thing_named
  one_dead Operation n d = operation_missing S e n d
  one_dead Block n d = block_missing S e n d
  one_dead Region n d = region_missing S e n d

-- the name that the edit bears, and the one that the rules ask of the store
pub thing_is : (k : Nested) (n : ℕ) → thing_of k n ≡ thing_named (nested_kind k) n
thing_is Operation n = refl
thing_is Block n = refl
thing_is Region n = refl

module _ {l : Layout} {m : List ℕ} (S : SoundStore l m) where
  abbrev P : State
  P = state_of l m

  -- a walk may begin with all live operations to reach
  pub starts : (x : Thing) (n : ℕ) → LiveIs l op m n → Live P x → CanDrop l x (walked n zeros) m
  starts x n N v =
      record {
        store = S;
        live = v;
        enough = omega (arith, operations_are P x, walk_ops S.sound.linked x v, N.is);
        few = omega (arith, N.small, S.well.caps.ops);
        uses = omega (arith, N.small, S.well.caps.ops);
      }

  -- a live name is not refused for itself
  pub passes : (e : Edit) (x : Thing) (n : ℕ) → kind_code x.0 ≤ 2 → Live P x → num P x ≡ n → named e ≡ R.thing_named (thing_named x.0 n) ∷ [] → refusal_of (meaning P) e ≡ from_state (meaning P) e
  unfolding meaning rule_state
  passes e x n k lx q names = code_one (meaning P) e (R.thing_named (thing_named x.0 n)) names (one_live S.sound _ x n k lx q)

  -- a dead one is: 7, 8, 9
  pub no_thing : (e : Edit) (k : Nested) (n : ℕ) {K : Kind} {r : Refusal} → K ≡ nested_kind k → Unnamed P K n × (number_of r ≡ missing_code K) → named e ≡ R.thing_named (thing_of k n) ∷ [] → Performed l e m m (Err r)
  unfolding meaning rule_state
  no_thing e k n {K} {r} q u names =
      let z : suc (number_of r - 1) ≡ number_of r = omega (arith, number_of-positive r) in
      let d : Unnamed P (nested_kind k) n = subst (λ (J : Kind). Unnamed P J n) q u.0 in
      refuses e S r (code_first (meaning P) e (R.thing_named (thing_of k n)) [] names (number_of r - 1) (one_dead S.sound _ k n d ∙ sym (u.1 ∙ ap missing_code q) ∙ sym z) ∙ z)

  -- what the look-up found
  pub found_at : (k : Nested) (n p : ℕ) {K : Kind} → K ≡ nested_kind k → Live P (K, p) × (num P (K, p) ≡ n) → Live P (nested_kind k, p) × (num P (nested_kind k, p) ≡ n)
  found_at k n p q F = subst (λ (J : Kind). Live P (J, p) × (num P (J, p) ≡ n)) q F

  -- 36 to 38: it is dropped
  pub did_drop : (k : Nested) (n p : ℕ) → Live P (nested_kind k, p) × (num P (nested_kind k, p) ≡ n) → {m' : List ℕ} {r : Tally} → Tallied l (nested_kind k, p) m m' r → Performed l (drop_uses (thing_of k n)) m m' (Ok (0, r.ended))
  unfolding from_state named
  did_drop k n p F {m'} {r} D =
      let x : Thing = (nested_kind k, p) in
      let after : meaning (state_of l m') ≡ accept (drop_uses (the_thing P x)) (meaning P) = ap meaning D.state ∙ drop_meaning S.sound x F.0 (nested≤ k) in
      subst (λ (t : RThing). Performed l (drop_uses t) m m' (Ok (0, r.ended))) (ap (thing_named (nested_kind k)) F.1 ∙ sym (thing_is k n))
      (accepts (drop_uses (the_thing P x)) D.store (passes (drop_uses (the_thing P x)) x (num P x) (nested≤ k) F.0 refl refl) after D.rest (settles_dropped P x D.state) 0 r.ended
      (ap (λ (s : RState). answer (drop_uses (the_thing P x)) (meaning P) s.history) (sym after ∙ ap meaning D.state) ∙ drop_reply S.sound x F.0 (nested≤ k) ∙ ap (found 0) (sym D.ended)))
