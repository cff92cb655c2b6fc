use Rattle.std.proofs.Common.{refl}
use Rattle.std.proofs.lemmas.Result.{err_from_is_err_and}
use Rattle.edit.specs.Kinds.{member_of, number_of}
use Rattle.context.specs.Kinds.{kind_of}
use Rattle.context.specs.Memory.{state_of}
use Rattle.context.proofs.Viewed.{sound_of}
use Rattle.links.proofs.Sorts.{member_live, holder_live}
use Rattle.links.proofs.Testing.{no_member_front, no_container_front, tests_front, entering}
use Rattle.links.proofs.test_enter.Goals as goal

pub returns-in_err-n : goal.returns-in_err-n
returns-in_err-n c =
    let p = err_from_is_err_and c.from_residual.result c.from_residual.ensures.1 in
    rw (p.1, p.2) (no_member_front (sound_of c.args.v.now.sound) (member_of c.args.w) c.args.x c.args.c (kind_of c.from.result) c.in_err-n.field-0.0 c.in_err-n.ensures c.from.ensures)

pub returns-in_err-k : goal.returns-in_err-k
returns-in_err-k c =
    let p = err_from_is_err_and c.from_residual-in_err-k.result c.from_residual-in_err-k.ensures.1 in
    rw (p.1, p.2) (no_container_front (sound_of c.args.v.now.sound) (member_of c.args.w) c.args.x c.args.c c.in_ok-n.n (member_live (member_of c.args.w) (state_of c.args.v.now.layout c.args.v.now.words.now) (kind_of c.from.result) c.args.x c.in_ok-n.n c.from.ensures c.in_ok-n.ensures)
    (kind_of c.container.result) c.in_err-k.field-0.0 c.in_err-k.ensures c.container.ensures)

pub returns-in_err-may_enter : goal.returns-in_err-may_enter
returns-in_err-may_enter c =
    let p = err_from_is_err_and c.from_residual-in_err-may_enter.result c.from_residual-in_err-may_enter.ensures.1 in
    rw (p.1, p.2) (tests_front (sound_of c.args.v.now.sound) (member_of c.args.w) c.args.x c.args.c c.in_ok-n.n (member_live (member_of c.args.w) (state_of c.args.v.now.layout c.args.v.now.words.now) (kind_of c.from.result) c.args.x c.in_ok-n.n c.from.ensures c.in_ok-n.ensures)
    c.in_ok-k.k (holder_live (member_of c.args.w) (state_of c.args.v.now.layout c.args.v.now.words.now) (kind_of c.container.result) c.args.c c.in_ok-k.k c.container.ensures c.in_ok-k.ensures) (number_of c.in_err-may_enter.field-0.0) c.in_err-may_enter.ensures)

pub returns : goal.returns
returns c =
    entering (sound_of c.args.v.now.sound) (member_of c.args.w) c.args.x c.args.c c.in_ok-n.n (member_live (member_of c.args.w) (state_of c.args.v.now.layout c.args.v.now.words.now) (kind_of c.from.result) c.args.x c.in_ok-n.n c.from.ensures c.in_ok-n.ensures)
    c.in_ok-k.k (holder_live (member_of c.args.w) (state_of c.args.v.now.layout c.args.v.now.words.now) (kind_of c.container.result) c.args.c c.in_ok-k.k c.container.ensures c.in_ok-k.ensures) 0 c.in_ok-may_enter.ensures refl
