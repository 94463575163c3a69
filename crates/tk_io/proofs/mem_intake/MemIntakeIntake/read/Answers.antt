use Rattle.std.proofs.Common.{◌≤◌, ◌<◌, ◌^◌, length, refl, sym, ap, arith, rules}
use Rattle.std.proofs.lemmas.List.{length-take-le}
use Rattle.tk_io.specs.InMemory.{Incoming}
use Rattle.tk_io.proofs.Causes.{cause_counted, fails_by}
use Rattle.tk_io.proofs.Reading.{reads_left, reads_least, reads_on, reads_none}
use Rattle.tk_io.proofs.mem_intake.MemIntakeIntake.read.Goals as goal

pub returns-clause-bytes : goal.returns-clause-bytes
returns-clause-bytes c =
    rw (← c.self.view_is) (reads_left c.deref-2.result.now c.self.inside.bytes.items c.args.into.now _ c.self.inside.at c.self.inside.piece _ _
    c.deref-2.ensures.value (omega (arith, c.self.invariant.0, c.self.inside.bytes.ok.0)) c.self.invariant.1 c.min.ensures c.min-count.ensures c.copy_to_front.ensures c.copy_to_front.auto.to)

pub returns-clause-bound : goal.returns-clause-bound
returns-clause-bound c =
    let fits : c.min-count.result ≤ length c.copy_to_front.new.to = omega (arith, c.copy_to_front.auto.to) in
    (fits, sym (length-take-le c.min-count.result c.copy_to_front.new.to fits))

pub returns-clause-gives : goal.returns-clause-gives
returns-clause-gives c =
    rw (← c.self.view_is) (
      reads_least c.deref-2.result.now c.self.inside.bytes.items c.args.into.now c.self.inside.at c.self.inside.piece _ _ c.deref-2.ensures.value c.min.ensures c.min-count.ensures,
      reads_on c.self.inside.bytes.items c.self.inside.fails.items c.self.inside.at c.min-count.result c.self.inside.piece c.self.inside.calls _ c.self.inside.faults c.saturating_add-self-inside.ensures,
    )

pub returns-clause-cause : goal.returns-clause-cause
returns-clause-cause c = rw (← c.self.view_is) (record { later = omega arith; failed = tt; stays = refl })

pub returns-then-contains-clause-failed : goal.returns-then-contains-clause-failed
returns-then-contains-clause-failed c =
    rw (← c.self.view_is) (reads_none _ c.self.inside.fails.items c.self.inside.piece c.self.inside.calls _ c.self.inside.faults _ c.saturating_add-self-inside.ensures c.saturating_add-self-inside-then-contains.ensures)

pub invariant_of-self : goal.invariant_of-self
invariant_of-self c = c.self.invariant

pub returns-then-contains-clause-bytes : goal.returns-then-contains-clause-bytes
returns-then-contains-clause-bytes c = ap (λ (m : Incoming). m.left) c.self.view_is

pub returns-clause-fails : goal.returns-clause-fails
returns-clause-fails c =
    rw (← c.self.view_is) (fails_by _ c.self.inside.fails.items _ c.self.inside.calls _ _ c.contains.ensures.cases c.deref.ensures.value c.saturating_add-self-inside.ensures c.if-contains.false)

pub returns-then-contains-clause-fails : goal.returns-then-contains-clause-fails
returns-then-contains-clause-fails c =
    rw (← c.self.view_is) (fails_by _ c.self.inside.fails.items _ c.self.inside.calls _ _ c.contains.ensures.cases c.deref.ensures.value c.saturating_add-self-inside.ensures c.if-contains.true)

pub returns-then-contains-clause-cause : goal.returns-then-contains-clause-cause
returns-then-contains-clause-cause c =
    let few : c.self.inside.faults < 2 ^ 64 = search rules in
    rw (← c.self.view_is) (cause_counted c.self.inside.faults _ _ few refl c.saturating_add-self-inside-then-contains.ensures)
