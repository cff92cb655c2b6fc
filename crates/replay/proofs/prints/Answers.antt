-- The front part that was written is the output of the script, and the text is compared with it byte by byte. Assumes nothing.
use Rattle.std.proofs.Common.{rules, ◌≡◌, refl, sym, ap, ◌∙◌, List, ℕ, ◌≤◌, ◌++◌, length, take, drop, Bool, true, false}
use Rattle.std.proofs.Math.Seq.{take-length, take-append_seam}
use Rattle.std.proofs.lemmas.List.{length-take-le}
use Rattle.std.proofs.lemmas.Bool.Decides.{Decides-eqb}
use Rattle.std.proofs.lemmas.Slice.Eq.{slice_eq-Decides}
use mathlib.Core.Bool.{true≢false}
use Rattle.std.specs.Bool.{Decides}
use Rattle.seqs.specs.Seqs.{Says}
use Rattle.rules.specs.Listing.{output}
use Rattle.listing.specs.Writer.{Written}
use Rattle.program.proofs.Fits.{printed_whole, printed_within}
use Rattle.replay.proofs.prints.Goals as goal

says : (r : Bool) {xs ys zs ws : List ℕ} → xs ≡ ys → Decides r (xs ≡ ws) → ws ≡ zs → Says r (ys ≡ zs)
says true e d f = sym e ∙ d.0 refl ∙ f
says false e d f = λ h. true≢false (sym (d.1 (e ∙ h ∙ sym f)))

front : (script : List ℕ) {out out' : List ℕ} {r : ℕ} → 262144 ≤ length out → Written (output script) out 0 out' r → take r out' ≡ output script
front script {out} {out'} {r} h w =
    let p = printed_whole script h w in
    ap (take r) p.1 ∙ ap (λ (n : ℕ). take n (output script ++ drop r out)) p.0 ∙ take-append_seam (output script) (drop r out)

pub slice_bounds-out-end : goal.slice_bounds-out-end
slice_bounds-out-end c = printed_within _ (search rules) c.print-n.ensures

pub slice_bounds-eq-end : goal.slice_bounds-eq-end
slice_bounds-eq-end c = sym (length-take-le _ _ (printed_within _ (search rules) c.print-n.ensures))

pub returns : goal.returns
returns c = says c.eq.result (front c.args.script.now (search rules) c.print-n.ensures) (slice_eq-Decides Decides-eqb _ _ _ c.eq.ensures) (grind (rules, take-length, take-append_seam))
