-- One more number of a list. Assumes nothing.
use mathlib.Core.Path.{◌≡◌, refl, sym, ap, ◌∙◌}
use mathlib.Core.List.{List, [], ◌∷◌, ◌++◌, map, append-nil}
use Prim.Native.Nat.{ℕ, ◌+◌, ◌-◌}
use Rattle.places.specs.Store.{Fam, Thing}
use Rattle.places.specs.View.{num}
use Rattle.places.specs.Parts.{node_in}
use Rattle.context.specs.declared.Layout.{Layout}
use Rattle.context.specs.Memory.{state_of}
use Rattle.context.specs.Performed.{abs}
use Rattle.context.specs.Reading.{NodesAre}
use Rattle.context.proofs.Rest.{Rest, rest_all, rest_on}
use Rattle.listing.specs.declared.Pen.{Pen}
use Rattle.listing.specs.Writer.{Wrote}
use Rattle.listing.specs.Lines.{node_text, row_text, numbers_among}
use Rattle.listing.proofs.Pens.{Pieces, nothing, one_more, and_then, same_text}

-- ---- a loop over a list, that writes each number

module _ (l : Layout) (m : List ℕ) (f : Fam) where
  abbrev row_of : List Thing → List ℕ
  row_of xs = row_text (abs l m) f (map (num (state_of l m)) xs)

  row_pieces : Pieces row_of
  row_pieces = record { none = refl; more = λ x xs. ap (λ (t : List ℕ). t ++ row_of xs) (sym (append-nil (node_text (abs l m) f (num (state_of l m) x)))) }

  -- the loop has the places `left` to write, and what is before them is written
  pub record Row (k : ℕ) (left : List ℕ) (q r : Pen ℕ) : Type 0 where
    pub rest : Rest l f k m left
    pub wrote : Wrote (row_of rest.done) q r

module _ {l : Layout} {m : List ℕ} {f : Fam} {k : ℕ} where
  pub row_begun : {left : List ℕ} {q : Pen ℕ} → NodesAre l f k m left → Row l m f k left q q
  unfolding rest_all
  row_begun N = record { rest = rest_all N; wrote = nothing }

  pub row_next : {p : ℕ} {left : List ℕ} {q r t : Pen ℕ} → Row l m f k (p ∷ left) q r → Wrote (node_text (abs l m) f (num (state_of l m) (node_in f, p))) r t → Row l m f k left q t
  unfolding rest_on
  row_next {p} R w =
      record {
        rest = rest_on R.rest;
        wrote = same_text (sym (one_more (row_pieces l m f) R.rest.done (node_in f, p))) (and_then R.wrote (same_text (sym (append-nil (node_text (abs l m) f (num (state_of l m) (node_in f, p))))) w));
      }

  pub row_end : {q r : Pen ℕ} → Row l m f k [] q r → Wrote (row_text (abs l m) f (numbers_among l m f k)) q r
  row_end R = same_text (ap (row_of l m f) (sym (R.rest.parts ∙ append-nil R.rest.done))) R.wrote
