use Rattle.std.proofs.Common.{◌∙◌, ap, refl, arith}
use Rattle.topk_theory.specs.Adversary.{chosen, against, by_grade}
use Rattle.cert_judge.proofs.Completing.{rest_apart, sorted_rest}
use Rattle.cert_judge.proofs.beating.rest_rows.Goals as goal

pub sort_by_grade-requires : goal.sort_by_grade-requires
sort_by_grade-requires c =
    let A = c.args.transcript.now.accesses in
    rest_apart (chosen (against c.args.inside A) A c.args.list) c.in_ok-read.read c.args.objects.now c.deref_mut.result.now c.requires.apart (c.deref_mut.ensures.value ∙ c.in_ok-rest.ensures)

pub returns : goal.returns
returns c =
    let A = c.args.transcript.now.accesses in
    let rest = c.in_ok-rest.rest in
    sorted_rest (chosen (against c.args.inside A) A c.args.list) c.in_ok-read.read c.args.objects.now c.args.rows.now rest.items c.sort_by_grade.new.rows _ rest.len
    c.requires.apart c.in_ok-read.ensures c.in_ok-rest.ensures (c.sort_by_grade.ensures.rows ∙ ap by_grade c.deref_mut.ensures.value) (omega (arith, rest.ok.0)) refl
