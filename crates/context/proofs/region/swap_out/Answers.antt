use Rattle.places.specs.Store.{reg}
use Rattle.context.proofs.Places.{place<}
use Rattle.context.proofs.Moving.{own_at, row<, stand, last_some, last_at, swapped_last, stand_w, room_w, stand₁, free₁, stand₂, swapped_gap}
use Rattle.context.proofs.region.swap_out.Goals.{then-last-r, else-last-r}
use Rattle.context.proofs.region.swap_out.Goals as goal

pub home_of-requires : goal.home_of-requires
home_of-requires c = place< c.requires.sound_store (reg, c.args.r) c.requires.live

pub last_of-requires : goal.last_of-requires
last_of-requires c = row< c.args.r c.requires.sound_store c.requires.live (own_at c.args.r c.requires.sound_store c.requires.live c.home_of.ensures c.unwrap-o.ensures)

pub unwrap-last-requires : goal.unwrap-last-requires
unwrap-last-requires c = last_some c.args.r c.requires.sound_store c.requires.live (own_at c.args.r c.requires.sound_store c.requires.live c.home_of.ensures c.unwrap-o.ensures) c.last_of.ensures

pub leave-requires-clause-stands : goal.leave-requires-clause-stands
leave-requires-clause-stands c =
    let own = own_at c.args.r c.requires.sound_store c.requires.live c.home_of.ensures c.unwrap-o.ensures in
    let code = last_at c.args.r c.requires.sound_store c.requires.live own c.last_of.ensures c.unwrap-last.ensures in
    stand_w c.args.r c.requires.sound_store c.requires.live own code c.if-last-r.true

pub enter_before-requires-clause-stands : goal.enter_before-requires-clause-stands
enter_before-requires-clause-stands c =
    let own = own_at c.args.r c.requires.sound_store c.requires.live c.home_of.ensures c.unwrap-o.ensures in
    let code = last_at c.args.r c.requires.sound_store c.requires.live own c.last_of.ensures c.unwrap-last.ensures in
    stand₁ c.args.r c.requires.sound_store c.requires.live own code c.if-last-r.true c.leave.ensures

pub enter_before-requires-clause-n_bound : goal.enter_before-requires-clause-n_bound
enter_before-requires-clause-n_bound c =
    let own = own_at c.args.r c.requires.sound_store c.requires.live c.home_of.ensures c.unwrap-o.ensures in
    let code = last_at c.args.r c.requires.sound_store c.requires.live own c.last_of.ensures c.unwrap-last.ensures in
    room_w c.args.r c.requires.sound_store c.requires.live own code c.if-last-r.true

pub enter_before-requires-clause-f_value : goal.enter_before-requires-clause-f_value
enter_before-requires-clause-f_value c =
    let own = own_at c.args.r c.requires.sound_store c.requires.live c.home_of.ensures c.unwrap-o.ensures in
    let code = last_at c.args.r c.requires.sound_store c.requires.live own c.last_of.ensures c.unwrap-last.ensures in
    free₁ c.args.r c.requires.sound_store c.requires.live own code c.if-last-r.true c.leave.ensures

pub leave-requires-2-clause-stands : goal.leave-requires-2-clause-stands
leave-requires-2-clause-stands c =
    let own = own_at c.args.r c.requires.sound_store c.requires.live c.home_of.ensures c.unwrap-o.ensures in
    let code = last_at c.args.r c.requires.sound_store c.requires.live own c.last_of.ensures c.unwrap-last.ensures in
    elim c.if-last-r.branch [ then-last-r w ↦ rw w.m-is (stand₂ c.args.r c.requires.sound_store c.requires.live own code w.if-last-r.true w.leave.ensures w.enter_before.ensures) | else-last-r w ↦ rw w.m-is (stand c.args.r c.requires.sound_store c.requires.live own) ]

pub returns : goal.returns
returns c =
    let own = own_at c.args.r c.requires.sound_store c.requires.live c.home_of.ensures c.unwrap-o.ensures in
    let code = last_at c.args.r c.requires.sound_store c.requires.live own c.last_of.ensures c.unwrap-last.ensures in
    elim c.if-last-r.branch [ then-last-r w ↦ swapped_gap c.args.r c.requires.sound_store c.requires.live own code w.if-last-r.true w.leave.ensures w.enter_before.ensures (rw w.m-is at c.leave-2.ensures) | else-last-r w ↦ swapped_last c.args.r c.requires.sound_store c.requires.live own code w.if-last-r.false (rw w.m-is at c.leave-2.ensures) ]
