use Rattle.std.proofs.Common.{[], ◌∷◌, Ok, refl, subst, sym}
use Rattle.source_api.specs.Calls.{Call}
use Rattle.source_node.specs.declared.asked.Asked.{Asked}
use Rattle.source_node.specs.declared.answer.Answer.TheVariants.{Count, Grade}
use Rattle.source_node.specs.Serving.{Answers, Fails, Seen, seen}
use Rattle.source_node.proofs.PageLaws.{size_failed, grade_failed}
use Rattle.source_node.proofs.answer.ask.Goals as goal

pub returns-in-Ok-clause-asks : goal.returns-in-Ok-clause-asks
returns-in-Ok-clause-asks g c =
    let before : Seen = seen (g.S.Source.list c.args.source.now) (g.S.Source.counts c.args.source.now) (g.S.Source.calls c.args.source.now) (g.S.Source.at_hand c.args.source.now) (g.S.Source.states c.args.source.now) in
    let now : Seen = seen (g.S.Source.list c.size.new.self) (g.S.Source.counts c.size.new.self) (g.S.Source.calls c.size.new.self) (g.S.Source.at_hand c.size.new.self) (g.S.Source.states c.size.new.self) in
    subst (λ (asked : Asked). Answers asked before now (Count c.in-Ok.count)) (sym c.in-Size.is) (record {
      calls = Call.Size (Ok c.in-Ok.count) ∷ [];
      made = refl;
      noted = c.in-Ok.ensures.answered;
      counted = c.in-Ok.ensures.quiet;
      told = c.in-Ok.ensures.size;
      at_hand = c.in-Ok.ensures.version;
    })

pub returns-in-Ok-grade-clause-asks : goal.returns-in-Ok-grade-clause-asks
returns-in-Ok-grade-clause-asks g c =
    let before : Seen = seen (g.S.Source.list c.args.source.now) (g.S.Source.counts c.args.source.now) (g.S.Source.calls c.args.source.now) (g.S.Source.at_hand c.args.source.now) (g.S.Source.states c.args.source.now) in
    let now : Seen = seen (g.S.Source.list c.grade.new.self) (g.S.Source.counts c.grade.new.self) (g.S.Source.calls c.grade.new.self) (g.S.Source.at_hand c.grade.new.self) (g.S.Source.states c.grade.new.self) in
    subst (λ (asked : Asked). Answers asked before now (Grade c.in-Ok-grade.grade)) (sym c.in-Grade.is) (record {
      calls = Call.Grade c.in-Grade.object (Ok c.in-Ok-grade.grade) ∷ [];
      made = refl;
      noted = c.in-Ok-grade.ensures.answered;
      counted = c.in-Ok-grade.ensures.quiet;
      told = c.in-Ok-grade.ensures.grade;
      at_hand = c.grade.ensures.at_hand;
    })

pub returns-in-Err-clause-asks : goal.returns-in-Err-clause-asks
returns-in-Err-clause-asks g c =
    let before : Seen = seen (g.S.Source.list c.args.source.now) (g.S.Source.counts c.args.source.now) (g.S.Source.calls c.args.source.now) (g.S.Source.at_hand c.args.source.now) (g.S.Source.states c.args.source.now) in
    let now : Seen = seen (g.S.Source.list c.size.new.self) (g.S.Source.counts c.size.new.self) (g.S.Source.calls c.size.new.self) (g.S.Source.at_hand c.size.new.self) (g.S.Source.states c.size.new.self) in
    subst (λ (asked : Asked). Fails asked before now c.in-Err.why) (sym c.in-Size.is)
    (size_failed before now c.in-Err.why c.in-Err.ensures.refused c.in-Err.ensures.cause c.in-Err.ensures.alone c.in-Err.ensures.kept)

pub returns-in-Err-grade-clause-asks : goal.returns-in-Err-grade-clause-asks
returns-in-Err-grade-clause-asks g c =
    let before : Seen = seen (g.S.Source.list c.args.source.now) (g.S.Source.counts c.args.source.now) (g.S.Source.calls c.args.source.now) (g.S.Source.at_hand c.args.source.now) (g.S.Source.states c.args.source.now) in
    let now : Seen = seen (g.S.Source.list c.grade.new.self) (g.S.Source.counts c.grade.new.self) (g.S.Source.calls c.grade.new.self) (g.S.Source.at_hand c.grade.new.self) (g.S.Source.states c.grade.new.self) in
    subst (λ (asked : Asked). Fails asked before now c.in-Err-grade.why) (sym c.in-Grade.is)
    (grade_failed c.in-Grade.object before now c.in-Err-grade.why c.in-Err-grade.ensures.refused c.in-Err-grade.ensures.cause c.in-Err-grade.ensures.alone c.grade.ensures.at_hand)
