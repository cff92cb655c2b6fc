-- What is written for one thing in a list, for what a thing stands in, for an answer; and the bounds that the code asks. Assumes nothing.
use mathlib.Core.Path.{◌≡◌, refl, sym, ap, ap₂, ◌∙◌, subst}
use mathlib.Core.Bool.{Bool, true, false}
use mathlib.Core.List.{List, [], ◌∷◌, ◌++◌, append_assoc, append-nil}
use lib.ListN.{length, drop, get_or}
use Rattle.std.specs.Simd.{first_chunks}
use Rattle.std.proofs.lemmas.List.{get_or-take, get_or-drop}
use mathlib.Core.Option.{Option}
use Rattle.std.specs.Prelude as Rust
use Rattle.std.specs.Prelude.{Some, None}
use Prim.Native.Nat.{ℕ, zero, suc, ◌+◌, ◌*◌, ◌/◌, ◌≤◌, ◌<◌}
use native.Mathlib.Numerals.{add-one}
use native.Mathlib.Omega.{arith}
use borrow.Author.Tests.{eq-eqb, ne_eqb}
use Rattle.places.specs.Store as P
use Rattle.places.specs.Store.{op, blk, reg, val, usg, Fam, Thing, Con, State, Live}
use Rattle.places.specs.View.{num, home_by}
use Rattle.places.specs.Hist.{number}
use Rattle.places.specs.Parts.{node_in, con_of, rows_of}
use Rattle.places.specs.Alias.{RState}
use Rattle.edit.specs.Answer.{Reply}
use Rattle.rules.specs.Listing as rules
use Rattle.context.specs.declared.Layout.{Layout}
use Rattle.context.specs.Layout.{cap_of, nn_of, Caps}
use Rattle.context.specs.declared.Kind.{Kind}
use Rattle.context.specs.declared.Family.{Family}
use Rattle.context.specs.declared.Family.TheVariants.{Slots, UseSets, Values, Regions, Operations, Blocks}
use Rattle.context.specs.Kinds.{kind_of, fam_of}
use Rattle.context.specs.Nest.{nested_kind, inner_fam}
use Rattle.context.proofs.Places.{place<}
use Rattle.edit.specs.declared.Nested.{Nested}
use Rattle.edit.specs.declared.Nested.TheVariants.{Operation, Block, Region}
use Rattle.context.specs.Memory.{con, given, state_of, SoundStore, HomeIs}
use Rattle.context.specs.Performed.{abs}
use Rattle.context.specs.Reading.{DefinitionIs}
use Rattle.listing.specs.declared.Pen.{Pen}
use Rattle.listing.specs.Writer.{Wrote}
use Rattle.listing.specs.Lines.{node_text, home_number, Holders, reply_listed, replies_from}
use Rattle.listing.proofs.Pens.{nothing, and_then, same_text}
use Rattle.listing.proofs.Uses.{definition_is}

-- ---- one thing in a list

alone : (s : RState) (f : Family) (n : ℕ) → (f ≡ Slots → ⊥) → node_text s (fam_of f) n ≡ rules.num n
alone s Slots n h = absurd (h refl)
alone s UseSets n h = refl
alone s Values n h = refl
alone s Regions n h = refl
alone s Operations n h = refl
alone s Blocks n h = refl

module _ (l : Layout) (m : List ℕ) (f : Family) (k : Kind) (p : ℕ) (e : kind_of k ≡ node_in (fam_of f)) where
  abbrev Q : State
  Q = state_of l m

  node_number : {x : ℕ} → x ≡ num Q (kind_of k, p) → x ≡ num Q (node_in (fam_of f), p)
  node_number h = h ∙ ap (λ (t : P.Kind). num Q (t, p)) e

  pub node_alone : {x : ℕ} {q q₁ : Pen ℕ} → (f ≡ Slots → ⊥) → x ≡ num Q (kind_of k, p) → Wrote (rules.num x) q q₁ → Wrote (node_text (abs l m) (fam_of f) (num Q (node_in (fam_of f), p))) q q₁
  node_alone h i w = same_text (ap rules.num (node_number i) ∙ sym (alone (abs l m) f (num Q (node_in (fam_of f), p)) h)) w

  module _ (z : f ≡ Slots) where
    pub node_pair : {x d : ℕ} {q q₁ q₂ q₃ : Pen ℕ} → SoundStore l m → Live Q (node_in (fam_of f), p) → x ≡ num Q (kind_of k, p) → DefinitionIs l p m d
        → Wrote (rules.num x) q q₁ → Wrote (58 ∷ []) q₁ q₂ → Wrote (rules.digits 10 d []) q₂ q₃
        → Wrote (node_text (abs l m) (fam_of f) (num Q (node_in (fam_of f), p))) q q₃
    node_pair {x} {d} S h i D w₁ w₂ w₃ =
        same_text
        (ap₂ (λ (y z : ℕ). rules.num y ++ (58 ∷ rules.digits 10 z [])) (node_number i ∙ ap (λ (g : Family). num Q (node_in (fam_of g), p)) z) (definition_is S p (subst (λ (g : Family). Live Q (node_in (fam_of g), p)) z h) D)
        ∙ ap (λ (g : Family). node_text (abs l m) (fam_of g) (num Q (node_in (fam_of g), p))) (sym z))
        (and_then w₁ (and_then w₂ w₃))

-- ---- what a thing stands in

module _ {l : Layout} {m : List ℕ} {f : Fam} {p : ℕ} {h : Rust.Option ℕ} (H : HomeIs l f p m h) where
  home_is : {o : Rust.Option ℕ} → h ≡ o → (state_of l m).own (node_in f, p) f ≡ con_of (con l f) (given o)
  home_is e = H.own ∙ ap (λ (j : Rust.Option ℕ). con_of (con l f) (given j)) e

  home_none : h ≡ None → rules.text " -" ≡ rules.or_none (home_number (state_of l m) (node_in f, p) f)
  unfolding rules.or_none
  home_none e = sym (ap (λ (o : Option Con). rules.or_none (number (home_by (num (state_of l m)) o))) (home_is e))

  module _ {k : P.Kind} {d : ℕ} (K : Holders l f k) (e : h ≡ Some d) where
    home_live : SoundStore l m → Live (state_of l m) (k, d)
    home_live S = subst (λ (z : Thing). Live (state_of l m) z) (K d) (S.sound.linked.link (node_in f, p) f (con l f d) (home_is e)).home

    home_number_lem : {x : ℕ} → x ≡ num (state_of l m) (k, d) → rules.num x ≡ rules.or_none (home_number (state_of l m) (node_in f, p) f)
    unfolding rules.or_none
    home_number_lem i = ap rules.num (i ∙ ap (num (state_of l m)) (sym (K d))) ∙ sym (ap (λ (o : Option Con). rules.or_none (number (home_by (num (state_of l m)) o))) (home_is e))

-- operations hold regions, blocks operations, regions blocks
holds : (l : Layout) (n : Nested) → Holders l (inner_fam n) (nested_kind n)
unfolding rows_of
holds l Operation d = refl
holds l Block d = refl
holds l Region d = refl

-- the same by the names that the conversions give
module _ {l : Layout} {m : List ℕ} (S : SoundStore l m) (n : Nested) (f : Family) {p : ℕ} (e : fam_of f ≡ inner_fam n) where
  pub inside : Live (state_of l m) (node_in (inner_fam n), p) → p < nn_of l (fam_of f)
  inside h = subst (λ (g : Fam). p < nn_of l g) (sym e) (place< S (node_in (inner_fam n), p) h)

  module _ {h : Rust.Option ℕ} (H : HomeIs l (fam_of f) p m h) where
    H' : HomeIs l (inner_fam n) p m h
    H' = subst (λ (g : Fam). HomeIs l g p m h) e H

    pub nowhere : h ≡ None → rules.text " -" ≡ rules.or_none (home_number (state_of l m) (node_in (inner_fam n), p) (inner_fam n))
    nowhere z = home_none H' z

    module _ (k : Kind) {d : ℕ} (i : kind_of k ≡ nested_kind n) (z : h ≡ Some d) where
      pub holder_live : Live (state_of l m) (kind_of k, d)
      holder_live = subst (λ (t : P.Kind). Live (state_of l m) (t, d)) (sym i) (home_live H' (holds l n) z S)

      pub holder_number : {x : ℕ} → x ≡ num (state_of l m) (kind_of k, d) → rules.num x ≡ rules.or_none (home_number (state_of l m) (node_in (inner_fam n), p) (inner_fam n))
      holder_number j = home_number_lem H' (holds l n) z (j ∙ ap (λ (t : P.Kind). num (state_of l m) (t, d)) i)

pub cap_small : {l : Layout} → Caps l → (k : P.Kind) → cap_of l k ≤ 16384
cap_small C op = omega (arith, C.ops)
cap_small C blk = omega (arith, C.blocks)
cap_small C reg = omega (arith, C.regions)
cap_small C val = omega (arith, C.values)
cap_small C usg = C.uses

-- ---- answers

module _ (n : ℕ) (r : Reply) {q q₁ q₂ : Pen ℕ} (w₁ : Wrote (rules.text "edit" ++ rules.num n) q q₁) where
  pub answer_no : {q₃ : Pen ℕ} → (r.refusal ≡ 0 → ⊥) → Wrote (rules.text " no" ++ rules.num r.refusal) q₁ q₂ → Wrote (10 ∷ []) q₂ q₃ → Wrote (rules.edit_line n r) q q₃
  unfolding rules.edit_line rules.line_end
  answer_no e w₂ w₃ = and_then (and_then w₁ (same_text (ap (λ (t : Bool). elim t [ true ↦ rules.text " ok" ++ rules.num r.a ++ rules.num r.b | false ↦ rules.text " no" ++ rules.num r.refusal ]) (sym (ne_eqb r.refusal 0 e))) w₂)) w₃

  pub answer_ok : {q₃ q₄ : Pen ℕ} → r.refusal ≡ 0 → Wrote (rules.text " ok" ++ rules.num r.a) q₁ q₂ → Wrote (rules.num r.b) q₂ q₃ → Wrote (10 ∷ []) q₃ q₄ → Wrote (rules.edit_line n r) q q₄
  unfolding rules.edit_line rules.line_end
  answer_ok e w₂ w₃ w₄ = and_then (and_then w₁ (same_text (ap (λ (t : Bool). elim t [ true ↦ rules.text " ok" ++ rules.num r.a ++ rules.num r.b | false ↦ rules.text " no" ++ rules.num r.refusal ]) (sym (eq-eqb r.refusal 0 e))) (and_then w₂ w₃))) w₄

-- the loop over the answers: one line more
more_lines : (ws : List ℕ) (j k : ℕ) → rules.edit_lines j (replies_from ws j (suc k)) ≡ rules.edit_lines j (replies_from ws j k) ++ rules.edit_line (j + k) (reply_listed ws (j + k))
unfolding rules.edit_lines
more_lines ws j zero = append-nil (rules.edit_line j (reply_listed ws j)) ∙ ap (λ (i : ℕ). rules.edit_line i (reply_listed ws i)) (let e : j ≡ j + 0 = omega arith in e)
more_lines ws j (suc k) =
    ap (λ (t : List ℕ). rules.edit_line j (reply_listed ws j) ++ t)
    (more_lines ws (suc j) k ∙ ap (λ (i : ℕ). rules.edit_lines (suc j) (replies_from ws (suc j) k) ++ rules.edit_line i (reply_listed ws i)) (let e : suc j + k ≡ j + suc k = omega arith in e))
    ∙ sym (append_assoc (rules.edit_line j (reply_listed ws j)) (rules.edit_lines (suc j) (replies_from ws (suc j) k)) (rules.edit_line (j + suc k) (reply_listed ws (j + suc k))))

pub no_lines : (ws : List ℕ) {p : Pen ℕ} → Wrote (rules.edit_lines 0 (replies_from ws 0 0)) p p
unfolding rules.edit_lines
no_lines ws = nothing

pub answers_turn : (ws : List ℕ) (i : ℕ) {r : Reply} {p q s : Pen ℕ} → Wrote (rules.edit_lines 0 (replies_from ws 0 i)) p q → r ≡ reply_listed ws i → Wrote (rules.edit_line i r) q s → Wrote (rules.edit_lines 0 (replies_from ws 0 (i + 1))) p s
answers_turn ws i w e v =
    same_text
    (sym (more_lines ws 0 i) ∙ ap (λ (j : ℕ). rules.edit_lines 0 (replies_from ws 0 j)) (sym (add-one i)))
    (and_then w (same_text (ap (rules.edit_line i) e ∙ ap (λ (j : ℕ). rules.edit_line j (reply_listed ws j)) (let e : i ≡ 0 + i = omega arith in e)) v))

-- the words of the i-th answer
cells : (q : ℕ) (ws : List ℕ) (i j : ℕ) (d : List ℕ) → i < q → j < 3 → get_or (get_or (first_chunks 3 q ws) i d) j 0 ≡ get_or ws (3 * i + j) 0
cells zero ws i j d h k = absurd (omega (arith, h))
cells (suc q) ws zero j d h k = get_or-take 3 ws j 0 k ∙ ap (λ (n : ℕ). get_or ws n 0) (let e : j ≡ 3 * 0 + j = omega arith in e)
cells (suc q) ws (suc i) j d h k = cells q (drop 3 ws) i j d (omega (arith, h)) k ∙ get_or-drop 3 ws (3 * i + j) 0 ∙ ap (λ (n : ℕ). get_or ws n 0) (let e : 3 + (3 * i + j) ≡ 3 * suc i + j = omega arith in e)

pub reply_is : (ws : List ℕ) {cs : List (List ℕ)} (i : ℕ) (d : List ℕ) → cs ≡ first_chunks 3 (length ws / 3) ws → length cs ≡ length ws / 3 → i < length cs
    → ◌≡◌ {A = Reply} (record { refusal = get_or (get_or cs i d) 0 0; a = get_or (get_or cs i d) 1 0; b = get_or (get_or cs i d) 2 0 }) (reply_listed ws i)
reply_is ws {cs} i d e f h = triple (cell 0 (omega arith) ∙ ap (λ (k : ℕ). get_or ws k 0) (let z : 3 * i + 0 ≡ 3 * i = omega arith in z)) (cell 1 (omega arith)) (cell 2 (omega arith))
  where
    cell : (j : ℕ) → j < 3 → get_or (get_or cs i d) j 0 ≡ get_or ws (3 * i + j) 0
    cell j k = ap (λ (xs : List (List ℕ)). get_or (get_or xs i d) j 0) e ∙ cells (length ws / 3) ws i j d (omega (arith, h, f)) k

    reply : ℕ → ℕ → ℕ → Reply
    reply x y z = record { refusal = x; a = y; b = z }

    triple : {x y z x' y' z' : ℕ} → x ≡ x' → y ≡ y' → z ≡ z' → ◌≡◌ {A = Reply} (record { refusal = x; a = y; b = z }) (record { refusal = x'; a = y'; b = z' })
    triple {x} {y} {z} {x'} {y'} {z'} p q r =
        ap (λ (t : ℕ). reply t y z) p ∙ ap (λ (t : ℕ). reply x' t z) q ∙ ap (reply x' y') r

-- a word and a number, which is known
pub field_is : (w : List ℕ) {x n : ℕ} {q q₁ : Pen ℕ} → x ≡ n → Wrote (w ++ rules.num x) q q₁ → Wrote (w ++ rules.num n) q q₁
field_is w e v = same_text (ap (λ (n : ℕ). w ++ rules.num n) e) v
