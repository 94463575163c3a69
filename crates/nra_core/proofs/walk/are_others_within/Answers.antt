use Rattle.std.proofs.Common.{inl, inr, refl, sym, ap, ◌∙◌, arith}
use Rattle.std.proofs.lemmas.Option.{slice_get_within}
use Rattle.monotone_fn.specs.Value.{value}
use Rattle.containers.specs.Slots.{Slots}
use Rattle.nra_core.proofs.Walked.{candidate_within, one_less}
use Rattle.nra_core.proofs.Within.{none_above_greatest, none_above_nothing, all_within, one_against, candidate_absent, goes_on_without, goes_on_exchanged}
use Rattle.nra_core.proofs.walk.are_others_within.Goals as goal
use Rattle.nra_core.proofs.walk.are_others_within.Goals.{then-high-bound+else-low-bound+in-Some-next_to_leave, else-high-bound}

pub returns-then-candidate-bound-clause-within : goal.returns-then-candidate-bound-clause-within
returns-then-candidate-bound-clause-within c =
    let t = c.args.transcript.now in
    let l = c.loop-candidate in
    all_within (value c.args.expr.now) c.args.first.now.most t.lists t.accesses c.args.bound c.args.first.now l.first c.args.candidates.now l.candidates l.from c.requires.kept c.requires.bound c.requires.enough l.invariant.walks
    (none_above_greatest l.candidates c.args.bound c.in-Some.candidate.rank c.in-Some.ensures.greatest.none_above c.if-candidate-bound.true)

pub returns-then-low-bound-clause-within : goal.returns-then-low-bound-clause-within
returns-then-low-bound-clause-within c =
    let t = c.args.transcript.now in
    let l = c.loop-candidate in
    one_against (value c.args.expr.now) c.args.first.now.most t.lists t.accesses c.args.bound c.args.first.now l.first c.args.candidates.now l.candidates l.from c.in-Some.candidate.key c.object_at-object.result c.in-Some.candidate.rank
    c.requires.kept c.requires.bound c.requires.enough l.invariant.walks c.in-Some.ensures.greatest.there c.object_at-object.ensures
    (let h = c.high.ensures in let g = c.if-high-bound.true in omega arith) (inl (let h = c.low.ensures in let g = c.if-low-bound.true in omega arith))

pub returns-in_default-next_to_leave-clause-within : goal.returns-in_default-next_to_leave-clause-within
returns-in_default-next_to_leave-clause-within c =
    let t = c.args.transcript.now in
    let l = c.loop-candidate in
    one_against (value c.args.expr.now) c.args.first.now.most t.lists t.accesses c.args.bound c.args.first.now l.first c.args.candidates.now l.candidates l.from c.in-Some.candidate.key c.object_at-object.result c.in-Some.candidate.rank
    c.requires.kept c.requires.bound c.requires.enough l.invariant.walks c.in-Some.ensures.greatest.there c.object_at-object.ensures
    (let h = c.high.ensures in let g = c.if-high-bound.true in omega arith) (inr c.in_default-next_to_leave.ensures.none)

pub replace-requires-clause-slot : goal.replace-requires-clause-slot
replace-requires-clause-slot c =
    let leaves = c.in-Some-next_to_leave.ensures.found.leaves in
    slice_get_within c.loop-candidate.first.entries c.in-Some-next_to_leave.slot leaves.entry leaves.there

pub replace-requires-clause-absent : goal.replace-requires-clause-absent
replace-requires-clause-absent c =
    let t = c.args.transcript.now in
    let l = c.loop-candidate in
    candidate_absent (value c.args.expr.now) c.args.first.now.most t.lists t.accesses l.first l.candidates c.in-Some.candidate.key c.object_at-object.result c.in-Some.candidate.rank l.invariant.walks.late c.in-Some.ensures.greatest.there c.object_at-object.ensures

pub loop-candidate-preserved : goal.loop-candidate-preserved
loop-candidate-preserved c =
    let t = c.args.transcript.now in
    let l = c.loop-candidate in
    elim c.if-high-bound.branch [
      | then-high-bound+else-low-bound+in-Some-next_to_leave w ↦ record {
        walks = goes_on_exchanged (value c.args.expr.now) c.args.first.now.most t.lists t.accesses c.args.bound l.first w.replace.new.self c.if-high-bound.first l.candidates c.remove.new.self l.from c.if-high-bound.from w.in-Some-next_to_leave.slot
            c.in-Some.candidate.key c.object_at-object.result c.in-Some.candidate.rank c.high.result w.low.result l.invariant.walks c.in-Some.ensures.greatest.there c.object_at-object.ensures c.high.ensures w.if-high-bound.true w.low.ensures w.if-low-bound.false
            w.in-Some-next_to_leave.ensures.found w.replace.ensures.replaced w.replace.ensures.distinct w.first-is w.from-is c.remove.ensures;
        room = ap (λ (s : Slots). s.room) w.first-is ∙ ap (λ (s : Slots). s.room) w.replace.ensures.replaced ∙ l.invariant.room;
      }
      | else-high-bound w ↦ record {
        walks = goes_on_without (value c.args.expr.now) c.args.first.now.most t.lists t.accesses c.args.bound l.first c.if-high-bound.first l.candidates c.remove.new.self l.from c.if-high-bound.from
            c.in-Some.candidate.key c.object_at-object.result c.in-Some.candidate.rank c.high.result l.invariant.walks c.in-Some.ensures.greatest.there c.object_at-object.ensures c.high.ensures w.if-high-bound.false w.first-is w.from-is c.remove.ensures;
        room = ap (λ (s : Slots). s.room) w.first-is ∙ l.invariant.room;
      }
    ]

pub returns-clause-within : goal.returns-clause-within
returns-clause-within c =
    let t = c.args.transcript.now in
    let l = c.loop-candidate in
    all_within (value c.args.expr.now) c.args.first.now.most t.lists t.accesses c.args.bound c.args.first.now l.first c.args.candidates.now l.candidates l.from c.requires.kept c.requires.bound c.requires.enough l.invariant.walks
    (none_above_nothing l.candidates c.args.bound c.in_default.ensures.none)

pub loop-candidate-init : goal.loop-candidate-init
loop-candidate-init c = record {
  walks = record {
    late = c.requires.kept;
    least = c.requires.bound;
    open_before = λ slot after below _. (let h : ⊥ = omega arith in h);
  };
  room = refl;
}

pub object_at-object-requires : goal.object_at-object-requires
object_at-object-requires c = c.loop-candidate.invariant.walks.late.waiting c.in-Some.candidate.key c.in-Some.candidate.rank c.in-Some.ensures.greatest.there

pub high-requires : goal.high-requires
high-requires c = sym c.requires.lists

pub low-requires : goal.low-requires
low-requires c = sym c.requires.lists

pub next_to_leave-requires-clause-lists : goal.next_to_leave-requires-clause-lists
next_to_leave-requires-clause-lists c = c.requires.lists

pub next_to_leave-requires-clause-places : goal.next_to_leave-requires-clause-places
next_to_leave-requires-clause-places c = c.loop-candidate.invariant.walks.late.places

pub replace-requires-clause-within : goal.replace-requires-clause-within
replace-requires-clause-within c =
    let t = c.args.transcript.now in
    let l = c.loop-candidate in
    (candidate_within (value c.args.expr.now) c.args.first.now.most t.lists t.accesses l.first l.candidates c.in-Some.candidate.key c.in-Some.candidate.rank l.invariant.walks.late c.in-Some.ensures.greatest.there).0

pub remove-requires : goal.remove-requires
remove-requires c =
    let t = c.args.transcript.now in
    let l = c.loop-candidate in
    (candidate_within (value c.args.expr.now) c.args.first.now.most t.lists t.accesses l.first l.candidates c.in-Some.candidate.key c.in-Some.candidate.rank l.invariant.walks.late c.in-Some.ensures.greatest.there).1

pub loop-candidate-smaller : goal.loop-candidate-smaller
loop-candidate-smaller c =
    let t = c.args.transcript.now in
    let l = c.loop-candidate in
    one_less l.candidates c.remove.new.self c.in-Some.candidate.key c.in-Some.candidate.rank
    (candidate_within (value c.args.expr.now) c.args.first.now.most t.lists t.accesses l.first l.candidates c.in-Some.candidate.key c.in-Some.candidate.rank l.invariant.walks.late c.in-Some.ensures.greatest.there).1
    c.in-Some.ensures.greatest.there c.remove.ensures

pub returns-then-candidate-bound-clause-room : goal.returns-then-candidate-bound-clause-room
returns-then-candidate-bound-clause-room c = c.loop-candidate.invariant.room

pub returns-then-candidate-bound-clause-kept : goal.returns-then-candidate-bound-clause-kept
returns-then-candidate-bound-clause-kept c = c.loop-candidate.invariant.walks.late

pub returns-then-low-bound-clause-room : goal.returns-then-low-bound-clause-room
returns-then-low-bound-clause-room c = c.loop-candidate.invariant.room

pub returns-then-low-bound-clause-kept : goal.returns-then-low-bound-clause-kept
returns-then-low-bound-clause-kept c = c.loop-candidate.invariant.walks.late

pub returns-in_default-next_to_leave-clause-room : goal.returns-in_default-next_to_leave-clause-room
returns-in_default-next_to_leave-clause-room c = c.loop-candidate.invariant.room

pub returns-in_default-next_to_leave-clause-kept : goal.returns-in_default-next_to_leave-clause-kept
returns-in_default-next_to_leave-clause-kept c = c.loop-candidate.invariant.walks.late

pub returns-clause-room : goal.returns-clause-room
returns-clause-room c = c.loop-candidate.invariant.room

pub returns-clause-kept : goal.returns-clause-kept
returns-clause-kept c = c.loop-candidate.invariant.walks.late
