use Rattle.std.proofs.Common.{cond, sym, ap, eq-eqb, ne_eqb}
use Rattle.machine_base.specs.declared.core_fault.CoreFault.{CoreFault}
use Rattle.machine_base.specs.declared.core_fault.CoreFault.TheVariants.{Strangers, RoomFull}
use Rattle.machine_base.proofs.core_fault.CoreFault.of_room.Goals as goal

pub returns-then-room-count : goal.returns-then-room-count
returns-then-room-count c =
    let a = c.args in
    sym (ap (λ b. cond {A = CoreFault} b (Strangers a.object a.count) (RoomFull a.room)) (eq-eqb a.room a.count c.if-room-count.true))

pub returns-else-room-count : goal.returns-else-room-count
returns-else-room-count c =
    let a = c.args in
    sym (ap (λ b. cond {A = CoreFault} b (Strangers a.object a.count) (RoomFull a.room)) (ne_eqb a.room a.count c.if-room-count.false))
