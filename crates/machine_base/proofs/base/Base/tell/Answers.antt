use Rattle.std.proofs.Common.{refl}
use Rattle.machine_base.proofs.MachineLaws.{one_more}
use Rattle.machine_base.specs.declared.base.Base.{Base}
use Rattle.machine_base.specs.Base.{IsTold}
use Rattle.machine_base.proofs.Held.{holds_more}
use Rattle.machine_base.proofs.Reserve.{not_refused, reserved_more}
use Rattle.machine_base.proofs.base.Base.tell.Goals as goal

pub unreachable-requires : goal.unreachable-requires
unreachable-requires c = not_refused c.args.self.now c.args.access c.in-Err.field-0 c.requires.held c.requires.reserved c.requires.can c.in-Err.ensures.cause

pub returns-clause-held : goal.returns-clause-held
returns-clause-held c =
    let before : Base = c.args.self.now in
    let after : Base = record before { transcript = c.push.new.self } in
    let told : IsTold c.args.access before after = record { expr = refl; k = refl; room = refl; costs = refl; log = one_more before.transcript after.transcript c.args.access c.in-Ok.ensures.ok } in
    holds_more c.args.access before after told c.requires.held c.requires.can.follows c.in-Ok.ensures.agrees

pub returns-clause-reserved : goal.returns-clause-reserved
returns-clause-reserved c =
    let before : Base = c.args.self.now in
    let after : Base = record before { transcript = c.push.new.self } in
    reserved_more c.args.access before after c.requires.reserved refl c.in-Ok.ensures.ok
