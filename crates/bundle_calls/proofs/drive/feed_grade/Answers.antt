use Rattle.std.proofs.Common.{◌≡◌, sym, ap, ◌∙◌, slice_set}
use Rattle.std.proofs.lemmas.List.{set-get_or}
use Rattle.topk_theory.specs.Transcript.{list_at}
use Rattle.topk_theory.specs.Bounds.{grade_among}
use Rattle.query_core.specs.Machines.{method_of, state_of}
use Rattle.query_core.proofs.Answering.{steps}
use Rattle.query_core.proofs.Feeding.{may_feed_grade, grade_told, grade_there, grade_within, grade_fed}
use Rattle.bundle_calls.proofs.drive.feed_grade.Goals as goal
use Rattle.bundle_calls.proofs.drive.feed_grade.Goals.{In-Ok}

-- what is found is the grade that the list has of the object
found : (c : In-Ok) → grade_among (list_at c.args.lists.now c.args.list) c.args.object ≡ c.in-Ok.found
found c = grade_told (method_of c.args.machine.now) c.args.lists.now (state_of c.args.machine.now) c.args.list c.args.object c.from.result c.index-lists-from.result c.in-Ok.found c.requires.drives c.requires.run c.requires.need c.from.ensures c.index-lists-from.is (c.in-Ok.ensures.grade ∙ ap (λ rows. grade_among rows c.args.object) (sym c.index-lists-from.is))

pub unreachable-requires : goal.unreachable-requires
unreachable-requires c =
    grade_there (method_of c.args.machine.now) c.args.lists.now (state_of c.args.machine.now) c.args.list c.args.object c.requires.drives.agrees c.requires.run c.requires.need (found (goal.at.unreachable-requires c).In-Ok ∙ c.in_default-found.is)

pub feed_grade-requires : goal.feed_grade-requires
feed_grade-requires c =
    may_feed_grade c.args.lists.now (state_of c.args.machine.now) c.args.list c.args.object c.in-Some.grade c.requires.drives.agrees c.requires.need (found (goal.at.feed_grade-requires c).In-Ok ∙ c.in-Some.is)

pub returns-clause-ok : goal.returns-clause-ok
returns-clause-ok c =
    let method = method_of c.args.machine.now in
    let before = state_of c.args.machine.now in
    steps c.args.lists.now c.args.machine.now c.feed_grade.new.self c.feed_grade.ensures.same (grade_within method c.args.lists.now before c.args.list c.args.object c.requires.drives.agrees c.requires.run c.requires.need)
    (grade_fed method c.args.lists.now before (state_of c.feed_grade.new.self) c.args.list c.args.object c.in-Some.grade c.requires.drives c.requires.run c.requires.need (found (goal.at.returns-clause-ok c).In-Ok ∙ c.in-Some.is) c.feed_grade.ensures.fed)

-- a list that is asked for a grade tells the same rows
pub returns-clause-same : goal.returns-clause-same
returns-clause-same c = ap (slice_set c.args.lists.now c.from.result) c.grade.ensures.same ∙ set-get_or c.args.lists.now c.from.result c.index-lists-from.result

pub returns-in_default-clause-same : goal.returns-in_default-clause-same
returns-in_default-clause-same c = ap (slice_set c.args.lists.now c.from.result) c.grade.ensures.same ∙ set-get_or c.args.lists.now c.from.result c.index-lists-from.result
