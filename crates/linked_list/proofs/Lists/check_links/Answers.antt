use mathlib.Core.Logic.{inl}
use Rattle.linked_list.proofs.Checks.{links_no, links_says}
use Rattle.linked_list.proofs.Lists.check_links.Goals as goal

pub returns-in-Some-Some : goal.returns-in-Some-Some
returns-in-Some-Some c =
    let z = c.args.self in
    let w = c.in-Some-Some in
    links_says z.nc z.nn c.args.s.now c.check_rows.ensures c.check_frees.ensures c.requires.s_len w.t w.f w.is-0 w.is-1

pub returns-in_default-2 : goal.returns-in_default-2
returns-in_default-2 c = let z = c.args.self in links_no z.nc z.nn c.args.s.now c.check_rows.ensures c.check_frees.ensures (inl c.in_default.is-0)
