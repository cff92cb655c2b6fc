-- Refusals 2 to 4 by the tests that the code makes, and what a record that passed them holds. Assumes nothing.
use mathlib.Core.Path.{◌≡◌, refl, sym, ap, subst, ◌∙◌}
use mathlib.Core.Logic.{◌⊎◌, inl, inr}
use mathlib.Core.Bool.{Bool, true, false, ◌||◌}
use mathlib.Core.List.{List}
use Prim.Native.Nat.{ℕ, ◌+◌, ◌-◌, ◌≤◌, ◌<◌}
use native.Mathlib.Omega.{arith}
use Rattle.std.proofs.Common.{Ok, Err, rules}
use Rattle.std.proofs.Math.Bool.{or-false}
use Rattle.std.specs.List.{list_any, range_with_len}
use Rattle.std.proofs.lemmas.Bool.{or_from, or_left, or_right, lt-ltb, le-ltb, eq-eqb, ne_eqb}
use Rattle.edit.specs.Kinds.{number_of, kind_number, Names}
use Rattle.edit.specs.declared.Refusal.{Refusal}
use Rattle.edit.specs.declared.Refusal.TheVariants.{UnknownKind, FieldCount, OverLimit}
use Rattle.edit.specs.declared.Kind.{Kind}
use Rattle.edit.specs.declared.Kind.TheVariants.{NewOperation, NewBlock, ReplaceSome, RetargetSome}
use Rattle.edit.proofs.Numbers.{kind_number-injective, kind_number-from, kind_number-to}
use lib.Dec.{eqb, ltb}
use lib.ListN.{length, get_or}
use Rattle.edit.specs.Record.{field, least, over, filled, Read, refused, read}
use Rattle.edit.specs.Taken.{record_kind, fields_of, edit_of, edit_by, read_of, Passed, Taken}

-- ---- 4, by the kinds that have a limit
module _ (fs : List ℕ) where
  counts_over_is : over fs 1 ≡ (ltb 3 (get_or fs 0 0) || list_any (λ i. ltb 64 (get_or fs i 0)) (range_with_len 1 4))
  unfolding over field
  counts_over_is =
      let f₀ = ltb 3 (get_or fs 0 0) in
      let f₁ = ltb 64 (get_or fs 1 0) in
      let f₂ = ltb 64 (get_or fs 2 0) in
      let f₃ = ltb 64 (get_or fs 3 0) in
      let f₄ = ltb 64 (get_or fs 4 0) in
      or-false _ ∙ or-false _ ∙ right f₀ f₁ f₂ f₃ f₄
    where
      right : (a b c d e : Bool) → (a || b || c || d || e) ≡ (a || (b || (c || (d || (e || false)))))
      right true b c d e = refl
      right false true c d e = refl
      right false false true d e = refl
      right false false false true e = refl
      right false false false false true = refl
      right false false false false false = refl

  pub flags_over : 3 < get_or fs 0 0 → over fs 1 ≡ true
  flags_over h = counts_over_is ∙ or_left _ _ (lt-ltb 3 (get_or fs 0 0) h)

  pub flags_within : get_or fs 0 0 ≤ 3 → over fs 1 ≡ list_any (λ i. ltb 64 (get_or fs i 0)) (range_with_len 1 4)
  flags_within h = counts_over_is ∙ simp (le-ltb 3 (get_or fs 0 0) h)

  pub types_over : over fs 2 ≡ ltb 64 (get_or fs 0 0)
  unfolding over field
  types_over = or-false _

  pub uses_over : over fs 34 ≡ ltb 258 (length fs)
  unfolding over field
  uses_over = refl

  pub blocks_over : over fs 35 ≡ ltb 258 (length fs)
  unfolding over field
  blocks_over = refl

  -- ---- how many fields fill a record, by the kinds that list
  pub filled_operation : filled fs 1 ≡ 5 + get_or fs 1 0 + get_or fs 2 0 + get_or fs 3 0
  unfolding filled field
  filled_operation = refl

  pub filled_block : filled fs 2 ≡ 1 + get_or fs 0 0
  unfolding filled field
  filled_block = refl

  pub filled_uses : filled fs 34 ≡ length fs
  unfolding filled
  filled_uses = refl

  pub filled_blocks : filled fs 35 ≡ length fs
  unfolding filled
  filled_blocks = refl

  -- ---- the other kinds
  module _ (k : Kind) (not-1 : k ≡ NewOperation → ⊥) (not-2 : k ≡ NewBlock → ⊥) (not-34 : k ≡ ReplaceSome → ⊥) (not-35 : k ≡ RetargetSome → ⊥) where
    makes_no_operation : eqb (kind_number k) 1 ≡ false
    makes_no_operation = ne_eqb (kind_number k) 1 (λ e. not-1 (kind_number-injective k NewOperation e))

    makes_no_block : eqb (kind_number k) 2 ≡ false
    makes_no_block = ne_eqb (kind_number k) 2 (λ e. not-2 (kind_number-injective k NewBlock e))

    lists_nothing : (eqb (kind_number k) 34 || eqb (kind_number k) 35) ≡ false
    lists_nothing =
        or_from _ _
        (ne_eqb (kind_number k) 34 (λ e. not-34 (kind_number-injective k ReplaceSome e)))
        (ne_eqb (kind_number k) 35 (λ e. not-35 (kind_number-injective k RetargetSome e)))

    pub over_none : over fs (kind_number k) ≡ false
    unfolding over
    over_none = simp (makes_no_operation, makes_no_block, lists_nothing)

    pub filled_fixed : filled fs (kind_number k) ≡ get_or least (kind_number k - 1) 0
    unfolding filled
    filled_fixed = rw (makes_no_operation, makes_no_block, lists_nothing, filled)

-- ---- refusals 2 to 4, in the order of the tests
refused_by : (rec : List ℕ) (r : Refusal) → read (record_kind rec) (fields_of rec) ≡ refused (number_of r) → Taken rec (Err r)
unfolding read_of
refused_by rec r q = record {
  same = q;
  kind = λ k e. search rules;
  passed = λ k e. search rules;
}

no_kind : (n : ℕ) (fs : List ℕ) → n ≡ 0 ⊎ 44 < n → read n fs ≡ refused (number_of UnknownKind)
unfolding read
no_kind n fs (inl e) = rw (eq-eqb n 0 e, read)
no_kind n fs (inr h) = rw (or_right (eqb n 0) (ltb 44 n) (lt-ltb 44 n h), read)

pub unknown : (rec : List ℕ) (r : Refusal) → Names (record_kind rec) (Err r) → Taken rec (Err r)
unfolding Names
unknown rec r named = refused_by rec r (no_kind _ _ named.1 ∙ ap (λ (x : Refusal). refused (number_of x)) (sym named.0))

-- the bytes name a kind
module _ (rec : List ℕ) (k : Kind) (named : Names (record_kind rec) (Ok k)) where
  fs : List ℕ
  fs = fields_of rec

  n : ℕ
  n = kind_number k

  is : n ≡ record_kind rec
  unfolding Names n
  is = named

  read_by : {x : Read} → read n fs ≡ x → read (record_kind rec) (fields_of rec) ≡ x
  unfolding fs
  read_by q = ap (λ (m : ℕ). read m fs) (sym is) ∙ q

  known : (eqb n 0 || ltb 44 n) ≡ false
  unfolding n
  known = or_from _ _ (ne_eqb n 0 (λ e. omega (arith, kind_number-from k))) (le-ltb 44 n (kind_number-to k))

  pub too_few : length (fields_of rec) < get_or least (kind_number k - 1) 0 → Taken rec (Err FieldCount)
  unfolding read fs n
  too_few l = refused_by rec FieldCount (read_by (rw (known, lt-ltb (length fs) (get_or least (n - 1) 0) l, read)))

  module _ (enough : get_or least (kind_number k - 1) 0 ≤ length (fields_of rec)) where
    fixed : ltb (length fs) (get_or least (n - 1) 0) ≡ false
    unfolding fs n
    fixed = le-ltb (length fs) (get_or least (n - 1) 0) enough

    pub over_limit : over (fields_of rec) (kind_number k) ≡ true → Taken rec (Err OverLimit)
    unfolding read fs n
    over_limit o = refused_by rec OverLimit (read_by (rw (known, fixed, o, read)))

    module _ (o : over (fields_of rec) (kind_number k) ≡ false) where
      pub not_full : (length (fields_of rec) ≡ filled (fields_of rec) (kind_number k) → ⊥) → Taken rec (Err FieldCount)
      unfolding read fs n
      not_full f = refused_by rec FieldCount (read_by (rw (known, fixed, o, ne_eqb (length fs) (filled fs n) f, read)))

      pub asks_edit : length (fields_of rec) ≡ filled (fields_of rec) (kind_number k) → Taken rec (Ok k)
      unfolding read read_of edit_by edit_of fs n
      asks_edit full =
          let passed : Passed n fs = record { from = kind_number-from k; to = kind_number-to k; fixed = enough; limits = o; full = full } in
          record {
            same = read_by (rw (known, fixed, o, eq-eqb (length fs) (filled fs n) full, read));
            kind = λ x q. let e : k ≡ x = cc in sym is ∙ ap kind_number e;
            passed = λ x q. let e : k ≡ x = cc in subst (λ (x : Kind). Passed (kind_number x) (fields_of rec)) e passed;
          }
