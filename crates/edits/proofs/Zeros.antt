-- The scratch as the walk has it: word by word. Assumes nothing.
use mathlib.Core.Path.{◌≡◌, refl, sym, ap, ◌∙◌}
use mathlib.Core.List.{List}
use Prim.Native.Nat.{ℕ, zero, suc}
use lib.ListN.{length, get_or, replicate}
use lib.Seq.{ext_get_or}
use Rattle.context.specs.declared.Layout.{Layout}
use Rattle.walk.specs.Tests as Walk
use Rattle.edits.specs.Scratch.{Scratch}

zeros_at : (n i : ℕ) → get_or {A = ℕ} (replicate n 0) i 0 ≡ 0
zeros_at zero i = refl
zeros_at (suc n) zero = refl
zeros_at (suc n) (suc i) = zeros_at n i

pub to_walk : {l : Layout} {s : List ℕ} → Scratch l s → Walk.Scratch l s
to_walk {l} {s} S = record { long = S.long; zeros = λ i. ap (λ (z : List ℕ). get_or z i 0) S.zeros ∙ zeros_at (length s) i }

-- two lists of zeros of one length are one
pub same_zeros : {l : Layout} {s s' : List ℕ} → Scratch l s → length s' ≡ length s → Walk.Scratch l s' → s' ≡ s
same_zeros {l} {s} {s'} S e W = ext_get_or 0 s' s e (λ i _. W.zeros i ∙ sym ((to_walk S).zeros i))
