use Rattle.machine_base.proofs.Begins.{begun_empty, held_empty, reserved_empty}
use Rattle.machine_base.proofs.base.Base.make.Goals as goal

pub returns-clause-begun : goal.returns-clause-begun
returns-clause-begun c =
    begun_empty c.args.expr c.args.k c.args.count c.args.room c.min-room.result c.lists-lists.result _ _ c.args.costs c.in-Ok.transcript
    c.min-room.ensures c.lists-lists.ensures.lists c.in-Ok.ensures

pub returns-clause-held : goal.returns-clause-held
returns-clause-held c =
    held_empty c.args.expr c.args.k c.args.count c.args.room c.min-room.result c.lists-lists.result _ _ c.in-Ok.transcript
    c.lists-lists.ensures.made.lists c.requires.asked c.requires.fits c.requires.counted c.requires.roomy
    c.min-room.ensures c.lists-lists.ensures.lists c.in-Ok.ensures

pub returns-clause-reserved : goal.returns-clause-reserved
returns-clause-reserved c =
    reserved_empty (record { expr = c.args.expr; k = c.args.k; room = c.min-room.result; costs = c.args.costs; transcript = c.in-Ok.transcript })
    c.lists-lists.result c.args.count c.in-Ok.ensures
