-- The program prints the whole output of every script: a buffer of 262,144 bytes has room for it. Assumes nothing.
use mathlib.Core.Path.{◌≡◌, sym, ap, ◌∙◌}
use mathlib.Core.List.{List, ◌++◌}
use Prim.Native.Nat.{ℕ, ◌+◌, ◌≤◌}
use native.Mathlib.Omega.{arith}
use lib.ListN.{length, drop, length-append}
use Rattle.rules.specs.Listing.{output}
use Rattle.rules.proofs.OutputFits.{output_fits}
use Rattle.listing.specs.Writer.{Written}
use Rattle.listing.proofs.Writing.{whole, reached}

module _ (script : List ℕ) {out out' : List ℕ} {r : ℕ} (h : 262144 ≤ length out) (w : Written (output script) out 0 out' r) where
  room : 0 + length (output script) ≤ length out
  room = omega (arith, h, output_fits script)

  -- the buffer begins with the output, and the rest of it is kept
  pub printed_whole : (r ≡ length (output script)) × (out' ≡ output script ++ drop r out)
  printed_whole = (omega (arith, reached w room), whole w room ∙ ap (λ (n : ℕ). output script ++ drop n out) (sym (reached w room)))

  -- so what was printed is a front part of it
  pub printed_within : r ≤ length out'
  printed_within = omega (arith, printed_whole.0, ap length printed_whole.1, length-append (output script) (drop r out))
