use mathlib.Core.Path.{sym, ap}
use mathlib.Core.List.{[], ◌∷◌}
use Rattle.context.specs.Memory.{state_of}
use Rattle.context.specs.Performed.{abs}
use Rattle.context.specs.declared.Kind.{Kind}
use Rattle.context.specs.Kinds.{kind_of}
use Rattle.listing.specs.Lines.{lines}
use Rattle.listing.proofs.Pens.{nothing, same_text}
use Rattle.listing.proofs.put_thing.Goals as goal

pub returns-in-Use : goal.returns-in-Use
returns-in-Use c =
    same_text (ap (λ (k : Kind). lines (abs c.args.v.now.layout c.args.v.now.words.now) (state_of c.args.v.now.layout c.args.v.now.words.now) (kind_of k) (c.args.p ∷ [])) (sym c.in-Use.is)) nothing
