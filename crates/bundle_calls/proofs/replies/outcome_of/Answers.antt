use Rattle.std.proofs.Common.{◌<◌, All, length, Err, sym, ap, ◌∙◌, subst}
use Rattle.bundle_text.specs.Bundle.{content}
use Rattle.ranked_list.specs.Table.{IsTable}
use Rattle.query_core.specs.Driving.{RunsOver}
use Rattle.bundle_calls.specs.Bundled.{lists_at}
use Rattle.bundle_calls.proofs.Bundling.{places_within, lists_table, lists_many, becomes_answered, becomes_full}
use Rattle.bundle_calls.proofs.replies.outcome_of.Goals as goal

pub told_lists-requires : goal.told_lists-requires
told_lists-requires c =
    subst (All (λ place. place < length c.args.bundle.now.lists.items)) (sym c.deref.ensures.value) (places_within (content c.args.bundle.now) c.args.ready.now c.requires.bundle c.requires.admitted)

pub answer_over-requires-clause-table : goal.answer_over-requires-clause-table
answer_over-requires-clause-table c =
    let bundle = content c.args.bundle.now in
    let same = c.deref_mut.ensures.value ∙ (c.in-Ok.ensures ∙ ap (lists_at bundle) c.deref.ensures.value) in
    subst (IsTable c.args.ready.now.count) (sym same) (lists_table bundle c.args.ready.now c.requires.bundle c.requires.admitted)

pub answer_over-requires-clause-lists : goal.answer_over-requires-clause-lists
answer_over-requires-clause-lists c =
    let bundle = content c.args.bundle.now in
    let same = c.deref_mut.ensures.value ∙ (c.in-Ok.ensures ∙ ap (lists_at bundle) c.deref.ensures.value) in
    ap length same ∙ lists_many bundle c.args.ready.now c.requires.admitted

pub returns-in-Ok-answer_over : goal.returns-in-Ok-answer_over
returns-in-Ok-answer_over c =
    let bundle = content c.args.bundle.now in
    becomes_answered bundle c.args.ready.now c.deref_mut.result.now c.in-Ok-answer_over.answer c.requires.admitted (c.deref_mut.ensures.value ∙ (c.in-Ok.ensures ∙ ap (lists_at bundle) c.deref.ensures.value)) c.in-Ok-answer_over.ensures.runs

pub returns-in-Err-RoomFull : goal.returns-in-Err-RoomFull
returns-in-Err-RoomFull c =
    let bundle = content c.args.bundle.now in
    becomes_full bundle c.args.ready.now c.deref_mut.result.now c.in-Err-RoomFull.room c.requires.admitted (c.deref_mut.ensures.value ∙ (c.in-Ok.ensures ∙ ap (lists_at bundle) c.deref.ensures.value))
    (subst (λ fault. RunsOver c.args.ready.now c.deref_mut.result.now (Err fault)) c.in-Err-RoomFull.field-0-is c.in-Err-RoomFull.ensures.runs)
