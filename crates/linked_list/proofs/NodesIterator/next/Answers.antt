use Rattle.std.proofs.Common.{length, arith, sym, ap, ◌∙◌}
use Rattle.seqs.specs.Cells.{decoded}
use Rattle.seqs.proofs.Cells.{some_of}
use Rattle.linked_list.proofs.Along.{rest_none, on_lt, link, on_next, rest_next}
use Rattle.linked_list.proofs.NodesIterator.next.Goals as goal

pub returns-then-self-eq0-clause-steps : goal.returns-then-self-eq0-clause-steps
returns-then-self-eq0-clause-steps c =
    let p = sym c.self.view_is ∙ rest_none c.self.invariant (ap decoded c.if-self-eq0.true) in
    (p, p)

pub unwrap-n-requires : goal.unwrap-n-requires
unwrap-n-requires c = some_of c.decode.ensures (omega (arith, c.if-self-eq0.false))

pub next_slot-requires : goal.next_slot-requires
next_slot-requires c = record { n_lt_nn = on_lt c.self.invariant (sym c.decode.ensures ∙ c.unwrap-n.ensures) }

pub invariant_of-self : goal.invariant_of-self
invariant_of-self c =
    let e = sym c.decode.ensures ∙ c.unwrap-n.ensures in
    on_next c.self.invariant e (link c.self.invariant e c.next_slot.ensures.0)

pub returns-clause-steps : goal.returns-clause-steps
returns-clause-steps c =
    let e = sym c.decode.ensures ∙ c.unwrap-n.ensures in
    sym c.self.view_is ∙ rest_next c.self.invariant e (link c.self.invariant e c.next_slot.ensures.0)

pub returns-clause-goes : goal.returns-clause-goes
returns-clause-goes c =
    let e = sym c.decode.ensures ∙ c.unwrap-n.ensures in
    let p = sym c.self.view_is ∙ rest_next c.self.invariant e (link c.self.invariant e c.next_slot.ensures.0) in
    record { on = λ _. (tt, tt, omega (arith, ap length p)); keeps = tt; rests = λ _. tt }
