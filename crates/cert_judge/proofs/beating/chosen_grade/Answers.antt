use Rattle.std.proofs.Common.{◌∙◌, ap, length, arith}
use Rattle.std.proofs.lemmas.List.FromFn.{length-map-range_with_len}
use Rattle.topk_theory.specs.Bounds.{known_grade}
use Rattle.cert_judge.proofs.Completing.{chosen_by}
use Rattle.cert_judge.proofs.beating.chosen_grade.Goals as goal

pub bounds-known-list : goal.bounds-known-list
bounds-known-list c =
    let log = c.args.transcript.now in
    let size = ap length c.known-known.ensures.known ∙ length-map-range_with_len (λ list. known_grade log.accesses c.args.object list) 0 log.lists in
    omega (arith, size, c.requires)

pub returns : goal.returns
returns c =
    let log = c.args.transcript.now in
    chosen_by log.accesses log.lists c.args.list c.args.inside c.args.object c.unwrap_or.result c.unknown_grade-unknown.result c.known-known.result.now
    c.requires c.known-known.ensures.known c.unknown_grade-unknown.ensures c.unwrap_or.ensures
