use Rattle.std.proofs.Common.{ap, ◌∙◌, arith, drop}
use Rattle.monotone_fn.specs.Value.{value}
use Rattle.topk_theory.specs.Threshold.{item_objects}
use Rattle.topk_theory.specs.Order.{first_k}
use Rattle.topk_theory.specs.NoRandom.{seen_items}
use Rattle.machine_base.specs.Asking.{ask_from}
use Rattle.ca_core.specs.Course.{finish_of}
use Rattle.ca_core.proofs.Courses.{enough_seen, block_goes, block_ends}
use Rattle.ca_core.proofs.following.end_block.Goals as goal

pub returns-then-not-is_quiet-clause-moved : goal.returns-then-not-is_quiet-clause-moved
returns-then-not-is_quiet-clause-moved c =
    let b = c.args.base.now in
    block_goes (value b.expr) b.k b.transcript.lists b.transcript.count b.transcript.accesses c.args.depth c.args.first.now.items c.is_quiet.result c.is_quiet.ensures.quiet c.if-not-is_quiet.true

pub first_items-requires-clause-enough : goal.first_items-requires-clause-enough
first_items-requires-clause-enough c =
    let b = c.args.base.now in
    let many = enough_seen (value b.expr) b.k b.transcript.lists b.transcript.count b.transcript.accesses c.is_quiet.result c.is_quiet.ensures.quiet c.if-not-is_quiet.false in
    let kept = c.is_quiet.ensures.kept in
    omega (arith, many, kept.same_k)

pub first_items-requires-clause-room : goal.first_items-requires-clause-room
first_items-requires-clause-room c = omega (arith, c.requires.held.roomy, c.requires.may.roomy)

pub returns-clause-moved : goal.returns-clause-moved
returns-clause-moved c =
    let b = c.args.base.now in
    let kept = c.is_quiet.ensures.kept in
    block_ends (value b.expr) b.k b.transcript.lists b.transcript.count b.transcript.accesses c.args.depth c.args.first.now.items c.first_items.new.items.items c.finish.result c.is_quiet.result
    c.is_quiet.ensures.quiet c.if-not-is_quiet.false
    (c.first_items.ensures.items ∙ ap (λ k. first_k k (seen_items (value b.expr) b.transcript.lists b.transcript.accesses)) kept.same_k)
    (c.finish.ensures ∙ ap finish_of (c.ask_from.ensures ∙ ap (λ xs. ask_from b.transcript.lists b.transcript.accesses (drop 0 (item_objects xs)) 0) c.as_slice.ensures.value))
