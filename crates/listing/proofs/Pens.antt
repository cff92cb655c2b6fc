-- Laws of what a pen writes: one text after another, and a loop that writes an element at each turn. Assumes nothing.
use mathlib.Core.Path.{◌≡◌, refl, sym, ap, ◌∙◌, subst}
use mathlib.Core.List.{List, [], ◌∷◌, ◌++◌, append_assoc, append-nil}
use Prim.Native.Nat.{ℕ, ◌+◌, ◌≤◌, ◌<◌}
use lib.ListN.{length, set, take, get_or}
use Rattle.std.proofs.lemmas.List.{take_more, take_all}
use borrow.Rule.Slice.Mut.{set_vals}
use Rattle.rules.specs.Listing.{digits}
use Rattle.listing.specs.declared.Pen.{Pen}
use Rattle.listing.specs.Writer.{write, Wrote}
use Rattle.listing.proofs.Writing.{write_append, put_there, put_nowhere}

module _ {A : Type 0} {p : Pen A} where
  pub nothing : Wrote [] p p
  unfolding write
  nothing = record { is = refl; same = refl }

  -- one text after another
  pub and_then : {a b : List A} {q r : Pen A} → Wrote a p q → Wrote b q r → Wrote (a ++ b) p r
  and_then {a} {b} v w = record { is = write_append a b (p.out.now, p.at) ∙ ap (write b) v.is ∙ w.is; same = w.same ∙ v.same }

  pub same_text : {a b : List A} {q : Pen A} → a ≡ b → Wrote a p q → Wrote b p q
  same_text e w = record { is = sym (ap (λ t. write t (p.out.now, p.at)) e) ∙ w.is; same = w.same }

  -- a word and what follows it, behind a text
  pub then_as : {t : List A} {q r : Pen A} (w : List A) {x y : List A} → x ≡ y → Wrote t p q → Wrote (w ++ x) q r → Wrote ((t ++ w) ++ y) p r
  then_as {t} w {x} {y} e u v = same_text (sym (append_assoc t w x) ∙ ap (λ (z : List A). (t ++ w) ++ z) e) (and_then u v)

  pub ends : {t : List A} {q : Pen A} → Wrote t p q → Wrote (t ++ []) p q
  ends {t} w = same_text (sym (append-nil t)) w

  -- the pen is the same
  pub moved : {t : List A} {q r : Pen A} → p ≡ r → Wrote t p q → Wrote t r q
  moved {t} {q} e w = subst (λ (s : Pen A). Wrote t s q) e w

module _ {A : Type 0} (p : Pen A) (b : A) where
  pub put_in : p.at < length p.out.now → Wrote (b ∷ []) p (record { out = set_vals (set p.out.now p.at b) p.out; at = p.at + 1 })
  put_in h = record { is = put_there p.out.now p.at b h; same = refl }

  pub put_out : length p.out.now ≤ p.at → Wrote (b ∷ []) p p
  put_out h = record { is = put_nowhere p.out.now p.at b h; same = refl }

pub no_digits : (k n : ℕ) {p : Pen ℕ} → k ≡ 0 → Wrote (digits k n []) p p
unfolding digits
no_digits k n e = same_text (ap (λ (j : ℕ). digits j n []) (sym e)) nothing

-- ---- a loop that writes the text T of a list, an element at each turn

pub record Pieces {X A : Type 0} (T : List X → List A) : Type 0 where
  pub none : T [] ≡ []
  pub more : (x : X) (xs : List X) → T (x ∷ xs) ≡ T (x ∷ []) ++ T xs

module _ {X A : Type 0} {T : List X → List A} (G : Pieces T) where
  pub one_more : (xs : List X) (x : X) → T (xs ++ x ∷ []) ≡ T xs ++ T (x ∷ [])
  one_more [] x = ap (λ (t : List A). t ++ T (x ∷ [])) (sym G.none)
  one_more (y ∷ xs) x =
      G.more y (xs ++ x ∷ [])
      ∙ ap (λ (t : List A). T (y ∷ []) ++ t) (one_more xs x)
      ∙ sym (append_assoc (T (y ∷ [])) (T xs) (T (x ∷ [])))
      ∙ ap (λ (t : List A). t ++ T (x ∷ [])) (sym (G.more y xs))

  -- the first turn, and each after it
  pub begun : {p : Pen A} → Wrote (T []) p p
  begun = same_text (sym G.none) nothing

  pub turn : (L : List X) (i : ℕ) (d : X) {p q r : Pen A} → i < length L → Wrote (T (take i L)) p q → Wrote (T (get_or L i d ∷ [])) q r → Wrote (T (take (i + 1) L)) p r
  turn L i d h v w = same_text (sym (ap T (take_more L i d h) ∙ one_more (take i L) (get_or L i d))) (and_then v w)

  -- the last
  pub done : (L : List X) (i : ℕ) {p q : Pen A} → length L ≤ i → Wrote (T (take i L)) p q → Wrote (T L) p q
  done L i h v = same_text (ap T (take_all i L h)) v
