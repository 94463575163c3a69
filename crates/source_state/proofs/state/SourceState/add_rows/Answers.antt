use Rattle.std.proofs.Common.{◌≡◌, length, sym, subst, ◌∙◌, arith}
use Rattle.source_state.specs.State.{IsSound}
use Rattle.source_state.specs.Keeping.{RowsLeft}
use Rattle.source_state.proofs.Paging.{rows_begin, rows_more, rows_broken, rows_end, page_broken, row_room}
use Rattle.source_state.proofs.state.SourceState.add_rows.Goals as goal

pub add_row-requires-clause-room : goal.add_row-requires-clause-room
add_row-requires-clause-room c =
    row_room c.args.rows.now c.loop-place.place c.row_at-row.result c.args.self.now c.loop-place.self c.loop-place.invariant c.requires c.row_at-row.ensures

pub returns-in-Some-clause-state : goal.returns-in-Some-clause-state
returns-in-Some-clause-state c =
    rows_broken c.args.rows.now c.loop-place.place c.row_at-row.result c.in-Some.fault c.args.self.now c.loop-place.self c.add_fault.new.self
    c.loop-place.invariant c.row_at-row.ensures (sym c.fault_of.ensures ∙ c.in-Some.is) c.add_fault.ensures.state

pub returns-in-Some-clause-applied : goal.returns-in-Some-clause-applied
returns-in-Some-clause-applied c =
    page_broken c.args.rows.now c.loop-place.place c.in-Some.fault c.args.self.now c.loop-place.self c.add_fault.new.self
    c.loop-place.invariant c.requires.no_fault c.add_fault.ensures.state

pub loop-place-preserved : goal.loop-place-preserved
loop-place-preserved c =
    rows_more c.args.rows.now c.loop-place.place c.row_at-row.result c.args.self.now c.loop-place.self c.add_row.new.self
    c.loop-place.invariant c.row_at-row.ensures (sym c.fault_of.ensures ∙ c.in-None.is) c.add_row.ensures.state c.add_row.ensures.sound

pub loop-place-init : goal.loop-place-init
loop-place-init c = rows_begin c.args.rows.now c.args.self.now c.requires.no_fault (subst IsSound c.self.view_is c.self.invariant.sound)

pub returns-clause-state : goal.returns-clause-state
returns-clause-state c =
    let all : c.loop-place.place ≡ length c.args.rows.now = omega arith in
    rows_end c.args.rows.now c.args.self.now c.loop-place.self (subst (λ place. RowsLeft c.args.rows.now place c.args.self.now c.loop-place.self) all c.loop-place.invariant)

pub returns-clause-applied : goal.returns-clause-applied
returns-clause-applied c = c.loop-place.invariant.no_fault ∙ sym c.requires.no_fault
