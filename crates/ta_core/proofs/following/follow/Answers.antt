use Rattle.std.proofs.Common.{refl, length, ap, ◌∙◌, subst, sym}
use Rattle.monotone_fn.specs.Limits.{AreGrades}
use Rattle.monotone_fn.specs.Value.{value}
use Rattle.ta_core.specs.Halting.{passes_by}
use Rattle.ta_core.specs.Shown.{reading_of}
use Rattle.ta_core.proofs.CallSteps.{ends_whole, goes_on_whole, waits_on, whole_bottoms, bottoms_capped}
use Rattle.ta_core.proofs.following.follow.Goals as goal

pub returns-then-has_enough : goal.returns-then-has_enough
returns-then-has_enough c =
    let base = c.args.base.now in
    let V = value base.expr in
    ends_whole V (record { k = c.args.board.now.k; passes = passes_by c.args.halting }) base.transcript.lists c.lists-lists.result c.args.board.now.items (reading_of c.args.progress.now) (reading_of c.settle.new.self) (reading_of c.settle.new.self).depth c.eval-threshold.result c.lists-lists.ensures.lists c.settle.ensures c.if-not-is_whole.ensures
    (c.eval-threshold.ensures.value ∙ ap V c.as_slice.ensures.value) refl c.if-has_enough.ensures

pub returns : goal.returns
returns c =
    let base = c.args.base.now in
    let V = value base.expr in
    goes_on_whole V (record { k = c.args.board.now.k; passes = passes_by c.args.halting }) base.transcript.lists c.lists-lists.result c.args.board.now.items (reading_of c.args.progress.now) (reading_of c.settle.new.self) (reading_of c.at.result) (reading_of c.settle.new.self).depth c.eval-threshold.result c.lists-lists.ensures.lists c.settle.ensures c.if-not-is_whole.ensures
    (c.eval-threshold.ensures.value ∙ ap V c.as_slice.ensures.value) refl c.if-has_enough.ensures c.at.ensures

pub settle-requires : goal.settle-requires
settle-requires c = λ scored. c.requires.waits (scored ∙ c.lists-lists.ensures.lists)

pub eval-threshold-requires-clause-lists : goal.eval-threshold-requires-clause-lists
eval-threshold-requires-clause-lists c =
    ap (λ xs. length xs) c.as_slice.ensures.value
    ∙ whole_bottoms c.lists-lists.result (reading_of c.args.progress.now) (reading_of c.settle.new.self) c.settle.ensures c.if-not-is_whole.ensures c.requires.same
    ∙ c.lists-lists.ensures.lists
    ∙ c.requires.held.posed.lists

pub eval-threshold-requires-clause-capped : goal.eval-threshold-requires-clause-capped
eval-threshold-requires-clause-capped c =
    subst AreGrades (sym c.as_slice.ensures.value) (bottoms_capped c.lists-lists.result (reading_of c.args.progress.now) (reading_of c.settle.new.self) c.settle.ensures c.requires.bottoms)

pub returns-then-not-is_whole : goal.returns-then-not-is_whole
returns-then-not-is_whole c =
    let base = c.args.base.now in
    waits_on (value base.expr) (record { k = c.args.board.now.k; passes = passes_by c.args.halting }) base.transcript.lists c.lists-lists.result c.args.board.now.items (reading_of c.args.progress.now) (reading_of c.settle.new.self) c.lists-lists.ensures.lists c.settle.ensures c.if-not-is_whole.ensures
