use Rattle.std.proofs.Common.{refl}
use Rattle.std.proofs.lemmas.Result.{err_from_is_err_and}
use Rattle.edit.specs.Kinds.{member_of, number_of}
use Rattle.context.specs.Kinds.{kind_of}
use Rattle.context.specs.Memory.{state_of}
use Rattle.context.proofs.Viewed.{sound_of}
use Rattle.links.proofs.Sorts.{member_live}
use Rattle.links.proofs.Testing.{no_member_beside, no_mark_beside, tests_beside, standing}
use Rattle.links.proofs.test_beside.Goals as goal

pub returns-in_err-n : goal.returns-in_err-n
returns-in_err-n c =
    let p = err_from_is_err_and c.from_residual.result c.from_residual.ensures.1 in
    rw (p.1, p.2) (no_member_beside (sound_of c.args.v.now.sound) (member_of c.args.w) c.args.x c.args.mark (kind_of c.from.result) c.in_err-n.field-0.0 c.in_err-n.ensures c.from.ensures)

pub returns-in_err-k : goal.returns-in_err-k
returns-in_err-k c =
    let p = err_from_is_err_and c.from_residual-in_err-k.result c.from_residual-in_err-k.ensures.1 in
    rw (p.1, p.2) (no_mark_beside (sound_of c.args.v.now.sound) (member_of c.args.w) c.args.x c.args.mark c.in_ok-n.n (member_live (member_of c.args.w) (state_of c.args.v.now.layout c.args.v.now.words.now) (kind_of c.from.result) c.args.x c.in_ok-n.n c.from.ensures c.in_ok-n.ensures)
    (kind_of c.from-2.result) c.in_err-k.field-0.0 c.in_err-k.ensures c.from-2.ensures)

pub returns-in_err-may_stand_by : goal.returns-in_err-may_stand_by
returns-in_err-may_stand_by c =
    let p = err_from_is_err_and c.from_residual-in_err-may_stand_by.result c.from_residual-in_err-may_stand_by.ensures.1 in
    rw (p.1, p.2) (tests_beside (sound_of c.args.v.now.sound) (member_of c.args.w) c.args.x c.args.mark c.in_ok-n.n (member_live (member_of c.args.w) (state_of c.args.v.now.layout c.args.v.now.words.now) (kind_of c.from.result) c.args.x c.in_ok-n.n c.from.ensures c.in_ok-n.ensures)
    c.in_ok-k.k (member_live (member_of c.args.w) (state_of c.args.v.now.layout c.args.v.now.words.now) (kind_of c.from-2.result) c.args.mark c.in_ok-k.k c.from-2.ensures c.in_ok-k.ensures) (number_of c.in_err-may_stand_by.field-0.0) c.in_err-may_stand_by.ensures)

pub returns : goal.returns
returns c =
    standing (sound_of c.args.v.now.sound) (member_of c.args.w) c.args.x c.args.mark c.in_ok-n.n (member_live (member_of c.args.w) (state_of c.args.v.now.layout c.args.v.now.words.now) (kind_of c.from.result) c.args.x c.in_ok-n.n c.from.ensures c.in_ok-n.ensures)
    c.in_ok-k.k (member_live (member_of c.args.w) (state_of c.args.v.now.layout c.args.v.now.words.now) (kind_of c.from-2.result) c.args.mark c.in_ok-k.k c.from-2.ensures c.in_ok-k.ensures) 0 c.in_ok-may_stand_by.ensures refl
