use Rattle.std.proofs.Common.{◌≡◌, refl, rules}
use Rattle.context.specs.declared.Family.{Family}
use Rattle.context.specs.declared.Family.TheVariants.{Slots, UseSets, Values, Regions, Operations, Blocks}
use Rattle.context.proofs.family_span.Goals as goal

-- the last family is what is left
blocks : (f : Family) → (f ≡ Slots → ⊥) → (f ≡ UseSets → ⊥) → (f ≡ Values → ⊥) → (f ≡ Regions → ⊥) → (f ≡ Operations → ⊥) → f ≡ Blocks
blocks Slots n _ _ _ _ = absurd (n refl)
blocks UseSets _ n _ _ _ = absurd (n refl)
blocks Values _ _ n _ _ = absurd (n refl)
blocks Regions _ _ _ n _ = absurd (n refl)
blocks Operations _ _ _ _ n = absurd (n refl)
blocks Blocks _ _ _ _ _ = refl

pub returns-in-Operations : goal.returns-in-Operations
returns-in-Operations c =
    rw c.in-Operations.is
    (search (rules, c.requires, c.families_at.ensures, c.family_at-slots.ensures, c.family_at-use_sets.ensures, c.family_at-values.ensures, c.family_at-regions.ensures, c.family_at-operations.ensures))

pub returns : goal.returns
returns c =
    rw (blocks c.args.f c.in_default.not-Slots c.in_default-f.not-UseSets c.in_default-f-2.not-Values c.in_default-f-3.not-Regions c.in_default-f-4.not-Operations)
    (search (rules, c.requires, c.families_at.ensures, c.family_at-slots.ensures, c.family_at-use_sets.ensures, c.family_at-values.ensures, c.family_at-regions.ensures, c.family_at-operations.ensures, c.family_at.ensures))
