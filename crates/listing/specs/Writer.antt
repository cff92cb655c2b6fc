-- Text written into a lent buffer from a position on. What does not fit is left out, and the position stops at the buffer's end.
-- Assumes nothing: these are definitions.
use Rattle.std.specs.Prelude.{◌≡◌, cond, List, [], ◌∷◌, ℕ, suc, ltb, length, set}
use Rattle.listing.specs.declared.Pen.{Pen}

-- the buffer and the position
abbrev pub Spot : Type 0 → Type 0
Spot A = List A × ℕ

-- one element is put where there is room for it
unfoldable pub put : {A : Type 0} → A → Spot A → Spot A
put b p = (set p.0 p.1 b, cond (ltb p.1 (length p.0)) (suc p.1) p.1)

-- the elements of a text, one after the other
unfoldable pub write : {A : Type 0} → List A → Spot A → Spot A
write [] p = p
write (b ∷ t) p = write t (put b p)

-- the text was written into out from the position at on: out' is the buffer after it, r the position
pub record Written {A : Type 0} (text out : List A) (at : ℕ) (out' : List A) (r : ℕ) : Type 0 where
  pub is : write text (out, at) ≡ (out', r)

-- the text was written by the pen p, which is p' after it
pub record Wrote {A : Type 0} (text : List A) (p p' : Pen A) : Type 0 where
  pub is : write text (p.out.now, p.at) ≡ (p'.out.now, p'.at)
  pub same : p'.out.ghost_name ≡ p.out.ghost_name
