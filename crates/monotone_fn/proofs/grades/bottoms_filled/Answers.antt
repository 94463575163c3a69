use Rattle.std.proofs.Common.{◌≡◌, ◌++◌, ◌∷◌, [], length, take, sym, ap, ◌∙◌, arith}
use Rattle.std.proofs.lemmas.Grind.{common_steps}
use Rattle.std.proofs.lemmas.List.{take_more, take_more_set, take_all}
use Rattle.monotone_fn.specs.Value.{with_bottoms}
use Rattle.monotone_fn.proofs.Fills.{length-with_bottoms, get_or-with_bottoms}
use Rattle.monotone_fn.proofs.grades.bottoms_filled.Goals as goal

pub loop-list-preserved : goal.loop-list-preserved
loop-list-preserved c =
    let grades = c.loop-list.grades in
    let i = c.loop-list.list in
    let all = with_bottoms c.args.known.now c.args.bottoms.now in
    let n : length all ≡ length c.args.known.now = length-with_bottoms c.args.known.now c.args.bottoms.now c.requires.as_many in
    let next = c.unwrap_or.ensures ∙ sym (get_or-with_bottoms c.args.known.now c.args.bottoms.now i c.requires.as_many (omega arith)) in
    record {
      room = grind (arith, common_steps);
      filled = take_more_set grades i c.unwrap_or.result (omega arith) ∙ (λ j. c.loop-list.invariant.filled j ++ next j ∷ []) ∙ sym (take_more all i 0 (omega arith));
    }

pub returns : goal.returns
returns c =
    let all = with_bottoms c.args.known.now c.args.bottoms.now in
    let n : length all ≡ length c.args.known.now = length-with_bottoms c.args.known.now c.args.bottoms.now c.requires.as_many in
    let i : c.loop-list.list ≡ length c.args.known.now = omega arith in
    ap (λ k. take k c.loop-list.grades) (sym i) ∙ c.loop-list.invariant.filled ∙ take_all c.loop-list.list all (omega arith)
