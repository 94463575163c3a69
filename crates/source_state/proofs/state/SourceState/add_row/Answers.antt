use Rattle.std.proofs.Common.{◌≡◌, ◌<◌, None, length, sym, ap, subst, ◌∙◌, arith, vec_capacity}
use Rattle.topk_theory.specs.Bounds.{grade_among}
use Rattle.source_state.specs.declared.entry.LogEntry.TheVariants.{Kept}
use Rattle.source_state.specs.Log.{rows_in}
use Rattle.source_state.specs.State.{State, asks_of, row_fault}
use Rattle.source_state.specs.Events.{logged}
use Rattle.source_state.specs.Keeping.{shown_by, KeepsFields}
use Rattle.source_state.specs.ObjectKeeping.{ObjectList}
use Rattle.source_state.proofs.Sound.{follows, sound_row}
use Rattle.source_state.proofs.Stepping.{state_row, entry_room}
use Rattle.source_state.proofs.state.SourceState.add_row.Goals as goal

pub push-requires-clause-absent : goal.push-requires-clause-absent
push-requires-clause-absent c =
    subst (λ (list : ObjectList). grade_among list.rows c.args.row.object ≡ None) (sym (subst KeepsFields (sym c.deref_mut-kept.ensures.value) c.self.invariant).objects)
    (follows _ _ c.args.row (subst (λ (s : State). row_fault (rows_in s.log) (asks_of s) c.args.row ≡ None) (sym (ap shown_by c.deref_mut-kept.ensures.value ∙ c.self.view_is)) c.requires.sound)).absent

pub push-requires-clause-room : goal.push-requires-clause-room
push-requires-clause-room c =
    subst (λ (list : ObjectList). length list.rows < list.room) (sym (subst KeepsFields (sym c.deref_mut-kept.ensures.value) c.self.invariant).objects)
    (subst (λ (s : State). length (rows_in s.log) < s.count) (sym (ap shown_by c.deref_mut-kept.ensures.value ∙ c.self.view_is)) c.requires.room)

pub push_reserved-requires : goal.push_reserved-requires
push_reserved-requires c =
    let room : length c.deref_mut-kept.result.now.log.items < vec_capacity c.deref_mut-kept.result.now.log =
    entry_room _ (Kept c.args.row) c.deref_mut-kept.result.now.objects c.deref_mut-kept.result.now.fault _ _ (subst KeepsFields (sym c.deref_mut-kept.ensures.value) c.self.invariant)
    (sound_row _ c.args.row (subst KeepsFields (sym c.deref_mut-kept.ensures.value) c.self.invariant).sound
    (subst (λ (s : State). length (rows_in s.log) < s.count) (sym (ap shown_by c.deref_mut-kept.ensures.value ∙ c.self.view_is)) c.requires.room)
    (subst (λ (s : State). row_fault (rows_in s.log) (asks_of s) c.args.row ≡ None) (sym (ap shown_by c.deref_mut-kept.ensures.value ∙ c.self.view_is)) c.requires.sound)) in
    omega (arith, c.deref_mut-kept.result.now.log.ok.0)

pub invariant_of-self : goal.invariant_of-self
invariant_of-self c =
    (state_row _ c.deref_mut-kept.result.now.objects c.push.new.self c.deref_mut-kept.result.now.fault _ c.push_reserved.new.self.items _ _ c.rows-place.result c.args.row (subst KeepsFields (sym c.deref_mut-kept.ensures.value) c.self.invariant)
    (subst (λ (s : State). length (rows_in s.log) < s.count) (sym (ap shown_by c.deref_mut-kept.ensures.value ∙ c.self.view_is)) c.requires.room)
    (subst (λ (s : State). row_fault (rows_in s.log) (asks_of s) c.args.row ≡ None) (sym (ap shown_by c.deref_mut-kept.ensures.value ∙ c.self.view_is)) c.requires.sound)
    c.push.ensures c.rows-place.ensures.rows c.push_reserved.ensures.items c.push_reserved.ensures.capacity).keeps

pub returns-clause-state : goal.returns-clause-state
returns-clause-state c =
    (state_row _ c.deref_mut-kept.result.now.objects c.push.new.self c.deref_mut-kept.result.now.fault _ c.push_reserved.new.self.items _ _ c.rows-place.result c.args.row (subst KeepsFields (sym c.deref_mut-kept.ensures.value) c.self.invariant)
    (subst (λ (s : State). length (rows_in s.log) < s.count) (sym (ap shown_by c.deref_mut-kept.ensures.value ∙ c.self.view_is)) c.requires.room)
    (subst (λ (s : State). row_fault (rows_in s.log) (asks_of s) c.args.row ≡ None) (sym (ap shown_by c.deref_mut-kept.ensures.value ∙ c.self.view_is)) c.requires.sound)
    c.push.ensures c.rows-place.ensures.rows c.push_reserved.ensures.items c.push_reserved.ensures.capacity).same
    ∙ ap (λ (s : State). logged s (Kept c.args.row)) (ap shown_by c.deref_mut-kept.ensures.value ∙ c.self.view_is)

pub returns-clause-sound : goal.returns-clause-sound
returns-clause-sound c = (invariant_of-self c).sound
