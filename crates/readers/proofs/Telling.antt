-- What a reader is told is what the rules say of the definition: refused, or its uses in front of the buffer. Assumes nothing.
use mathlib.Core.Path.{◌≡◌, refl, sym, ap, ◌∙◌, subst}
use mathlib.Core.Logic.{by_cases}
use mathlib.Core.Bool.{Bool, true, false, cond}
use mathlib.Core.List.{List, [], ◌∷◌, ◌++◌}
use native.Mathlib.Decide.{dec_lt}
use native.Mathlib.Nat.{zero-add}
use native.Mathlib.Omega.{arith}
use Prim.Native.Nat.{ℕ, ◌-◌, ◌≤◌, ◌<◌}
use lib.Dec.{eqb, leb}
use lib.ListN.{length, drop}
use borrow.Author.Tests.{le-leb, lt-leb}
use Rattle.std.specs.Prelude.{Option, Some, None, Result, Ok, Err}
use Rattle.places.specs.Store.{Kind, blk, val, usg, use_sets, Con, State, Live}
use Rattle.places.specs.View.{num, view}
use Rattle.places.specs.Hist.{def_by, hist, rule_state, meaning}
use Rattle.places.specs.Alias.{RState}
use Rattle.places.specs.Roles.{missing_code, def_kind, def_role}
use Rattle.places.proofs.RuleNames as names
use Rattle.edit.specs.Record.{Definition, of_value, of_block, Slot, operand, successor}
use Rattle.edit.specs.declared.Refusal.{Refusal}
use Rattle.edit.specs.declared.Refusal.TheVariants.{NoRoom}
use Rattle.edit.specs.declared.Slot.{Slot as Asked}
use Rattle.edit.specs.declared.Slot.TheVariants.{Operand, Successor}
use Rattle.edit.specs.Kinds.{number_of, slot_of}
use Rattle.rules.specs.History.{live_definition, uses_of}
use Rattle.context.specs.declared.Layout.{Layout}
use Rattle.context.specs.Memory.{con, ListIs, state_of, SoundStore, LengthIs, LooksUp}
use Rattle.context.specs.Performed.{abs}
use Rattle.context.proofs.Families.{con_holder}
use Rattle.context.proofs.Numbers.{value_set, block_set}
use Rattle.listing.specs.declared.Pen.{Pen}
use Rattle.listing.specs.Writer.{Written, Wrote}
use Rattle.listing.specs.Lines.{definition_at, uses_among, listed}
use Rattle.listing.proofs.Uses.{is_def, uses_are}
use Rattle.listing.proofs.Writing.{whole, reached}
use Rattle.listing.proofs.Pens.{nothing, same_text}
use Rattle.readers.specs.UsesOf.{missing, use_refusal_of, handed, Told}

module _ (s : RState) (d : Definition) (out : List ℕ) where
  none_handed : (n : ℕ) → use_refusal_of s d (length out) ≡ n → eqb n 0 ≡ false → handed s d (length out) ≡ []
  unfolding handed
  none_handed n e z = ap (λ (j : ℕ). cond {A = List ℕ} (eqb j 0) (uses_of s.history d) []) e ∙ ap (λ (b : Bool). cond {A = List ℕ} b (uses_of s.history d) []) z

  -- refused: the buffer is kept
  pub refused : (n : ℕ) {r : Refusal} → number_of r ≡ n → use_refusal_of s d (length out) ≡ n → eqb n 0 ≡ false → Told s d out out (Err r)
  refused n i e z =
      record {
        refusal = i ∙ sym e;
        count = ap length (sym (none_handed n e z));
        buffer = ap (λ (us : List ℕ). us ++ drop (length us) out) (sym (none_handed n e z));
      }

  all_handed : use_refusal_of s d (length out) ≡ 0 → handed s d (length out) ≡ uses_of s.history d
  unfolding handed
  all_handed e = ap (λ (j : ℕ). cond {A = List ℕ} (eqb j 0) (uses_of s.history d) []) e

  pub filled : {out' : List ℕ} {r : ℕ} → use_refusal_of s d (length out) ≡ 0 → length (uses_of s.history d) ≤ length out → Written (uses_of s.history d) out 0 out' r → Told s d out out' (Ok r)
  filled e h w =
      record {
        refusal = sym e;
        count = reached w (omega (arith, h)) ∙ zero-add (length (uses_of s.history d)) ∙ ap length (sym (all_handed e));
        buffer =
            whole w (omega (arith, h))
            ∙ ap (λ (n : ℕ). uses_of s.history d ++ drop n out) (zero-add (length (uses_of s.history d)))
            ∙ ap (λ (us : List ℕ). us ++ drop (length us) out) (sym (all_handed e));
      }

  pub dead : live_definition s.history d ≡ false → use_refusal_of s d (length out) ≡ missing d
  unfolding use_refusal_of
  dead e = ap (λ (b : Bool). cond b (cond (leb (length (uses_of s.history d)) (length out)) 0 22) (missing d)) e

  pub fits : live_definition s.history d ≡ true → length (uses_of s.history d) ≤ length out → use_refusal_of s d (length out) ≡ 0
  unfolding use_refusal_of
  fits e h = ap (λ (b : Bool). cond b (cond (leb (length (uses_of s.history d)) (length out)) 0 22) (missing d)) e ∙ ap (λ (b : Bool). cond b 0 22) (le-leb (length (uses_of s.history d)) (length out) h)

  pub short : live_definition s.history d ≡ true → length out < length (uses_of s.history d) → use_refusal_of s d (length out) ≡ 22
  unfolding use_refusal_of
  short e h = ap (λ (b : Bool). cond b (cond (leb (length (uses_of s.history d)) (length out)) 0 22) (missing d)) e ∙ ap (λ (b : Bool). cond b 0 22) (lt-leb (length (uses_of s.history d)) (length out) h)

-- told of a definition, by another name of it
pub told_as : {s : RState} {out out' : List ℕ} {r : Result ℕ Refusal} {d e : Definition} → d ≡ e → Told s d out out' r → Told s e out out' r
told_as {s} {out} {out'} {r} q t = subst (λ (x : Definition). Told s x out out' r) q t

-- ---- a sound store

module _ {l : Layout} {m : List ℕ} (S : SoundStore l m) where
  abbrev P : State
  P = state_of l m

  abbrev ended : ℕ
  ended = (P.tab usg).next - length (P.tab usg).order

  -- no such definition
  dead_at : (s : Slot) (n : ℕ) (out : List ℕ) {r : Refusal} → LooksUp P (def_kind s) n (Err r) → Told (abs l m) (def_by (def_role s) n) out out (Err r)
  unfolding abs meaning rule_state live_definition
  dead_at operand n out h = refused (abs l m) (of_value n) out 10 h.1 (dead (abs l m) (of_value n) out (names.value_dead S.sound ended n h.0)) refl
  dead_at successor n out h = refused (abs l m) (of_block n) out 8 h.1 (dead (abs l m) (of_block n) out (names.block_dead S.sound ended n h.0)) refl

  -- what a slot uses was looked up
  module _ (s : Slot) {k : Kind} (e : k ≡ def_kind s) (n : ℕ) where
    pub not_there : (out : List ℕ) {r : Refusal} → LooksUp P k n (Err r) → Told (abs l m) (def_by (def_role s) n) out out (Err r)
    not_there out {r} h = dead_at s n out (subst (λ (j : Kind). LooksUp P j n (Err r)) e h)

    module _ (p : ℕ) (h : LooksUp P k n (Ok p)) where
      pub found_live : Live P (def_kind s, p)
      found_live = subst (λ (j : Kind). Live P (j, p)) e h.0

      -- its set of uses
      pub set_is : {i : ℕ} → ListIs l use_sets (def_role s, (def_kind s, p)) i → definition_at l m i ≡ def_by (def_role s) n
      set_is L = ap (λ (c : Con). def_by c.0 (num P c.1)) L.row ∙ ap (λ (j : Kind). def_by (def_role s) (num P (j, p))) (sym e) ∙ ap (def_by (def_role s)) h.1

  -- the same of what was made of the look-up's answer: the place that was found, or a refusal with the number of what is missing
  pub found_as : (k : Kind) (n : ℕ) {p : ℕ} (r : Result ℕ Refusal) → LooksUp P k n r → ((q : ℕ) → r ≡ Ok q → q ≡ p) → ((x : Refusal) → r ≡ Err x → ⊥) → LooksUp P k n (Ok p)
  found_as k n (Ok q) h f g = subst (λ (p : ℕ). LooksUp P k n (Ok p)) (f q refl) h
  found_as k n (Err x) h f g = absurd (g x refl)

  pub refused_as : (w : Asked) {k : Kind} → k ≡ def_kind (slot_of w) → (n : ℕ) (out : List ℕ) {y : Refusal} (r : Result ℕ Refusal) → LooksUp P k n r → ((q : ℕ) → r ≡ Ok q → ⊥) → (w ≡ Operand → (x : Refusal) → r ≡ Err x → number_of x ≡ 10 → number_of y ≡ 10) → (w ≡ Successor → (x : Refusal) → r ≡ Err x → number_of x ≡ 8 → number_of y ≡ 8) → Told (abs l m) (def_by (def_role (slot_of w)) n) out out (Err y)
  refused_as w e n out (Ok q) h d f g = absurd (d q refl)
  refused_as Operand e n out (Err x) h d f g = not_there operand e n out (h.0, f refl x refl (h.1 ∙ ap missing_code e) ∙ sym (ap missing_code e))
  refused_as Successor e n out (Err x) h d f g = not_there successor e n out (h.0, g refl x refl (h.1 ∙ ap missing_code e) ∙ sym (ap missing_code e))

  module _ (k : ℕ) (lc : Live P (con l use_sets k).1) where
    abbrev d : Definition
    d = definition_at l m k

    is_live : live_definition (abs l m).history d ≡ true
    unfolding abs meaning rule_state live_definition
    is_live =
        by_cases (dec_lt k l.values)
        (λ h. subst (λ (c : Con). live_definition (hist ended (view P)) (def_by c.0 (num P c.1)) ≡ true) (sym (value_set l k h)) (names.value_live S.sound ended k (num P (val, k)) (subst (λ (c : Con). Live P c.1) (value_set l k h) lc) refl))
        (λ h. let g : l.values ≤ k = omega (arith, h) in subst (λ (c : Con). live_definition (hist ended (view P)) (def_by c.0 (num P c.1)) ≡ true) (sym (block_set l k g)) (names.block_live S.sound ended (k - l.values) (num P (blk, k - l.values)) (subst (λ (c : Con). Live P c.1) (block_set l k g) lc) refl))

    long : (n : ℕ) → LengthIs l use_sets k m n → n ≡ length (uses_of (abs l m).history d)
    unfolding abs meaning rule_state
    long n h = h.is ∙ sym (names.uses_long S.sound ended (con l use_sets k) (is_def l k) (con_holder l.values l.ops use_sets k) lc)

    pub too_short : (n : ℕ) (out : List ℕ) → LengthIs l use_sets k m n → length out < n → Told (abs l m) d out out (Err NoRoom)
    too_short n out h g = refused (abs l m) d out 22 refl (short (abs l m) d out is_live (omega (arith, g, long n h))) refl

    pub with_room : (n : ℕ) (out : List ℕ) {out' : List ℕ} {r : ℕ} → LengthIs l use_sets k m n → n ≤ length out → Written (uses_among P d (P.tab usg).order) out 0 out' r → Told (abs l m) d out out' (Ok r)
    with_room n out {out'} {r} h g w =
        let enough : length (uses_of (abs l m).history d) ≤ length out = omega (arith, g, long n h) in
        filled (abs l m) d out (fits (abs l m) d out is_live enough) enough (subst (λ (us : List ℕ). Written us out 0 out' r) (sym (uses_are l m d)) w)

-- what a turn of the loop over the live uses puts
module _ {o : Option ℕ} {us : List ℕ} (e : listed o ≡ us) where
  pub put_written : {x : ℕ} {q r s : Pen ℕ} → o ≡ Some x → s ≡ r → Wrote (x ∷ []) q r → Wrote us q s
  put_written {x} {q} h z w = subst (λ (p : Pen ℕ). Wrote us q p) (sym z) (same_text (ap listed (sym h) ∙ e) w)

  pub put_left : {q r : Pen ℕ} → o ≡ None → r ≡ q → Wrote us q r
  put_left {q} h z = subst (λ (p : Pen ℕ). Wrote us q p) (sym z) (same_text (ap listed (sym h) ∙ e) nothing)
