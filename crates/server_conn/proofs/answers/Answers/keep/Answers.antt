use Rattle.std.proofs.Common.{◌≡◌, List, map, refl, sym, subst, ◌∙◌}
use Rattle.server_conn.specs.declared.answers.Answer.{Answer}
use Rattle.server_conn.specs.Answers.{LineAnswer, line_answer, remembering}
use Rattle.server_conn.specs.Becoming.{shown}
use Rattle.server_conn.proofs.AnswerLaws.{kept_told, few_kept}
use Rattle.server_conn.proofs.answers.Answers.keep.Goals as goal

pub invariant_of-self : goal.invariant_of-self
invariant_of-self c =
    let answer : Answer = record { line = c.args.line; text = c.args.told.text } in (
      few_kept c.self.inside.kept.items c.push_newest.new.kept.items answer (shown c.args.told) refl (sym c.is_kept.ensures ∙ c.if-is_kept.true)
          c.push_newest.ensures.newest c.self.invariant.0,
      c.push_newest.ensures.room,
    )

pub returns-then-is_kept : goal.returns-then-is_kept
returns-then-is_kept c =
    let answer : Answer = record { line = c.args.line; text = c.args.told.text } in
    let told = shown c.args.told in
    subst (λ (xs : List LineAnswer). map line_answer c.push_newest.new.kept.items ≡ remembering xs c.args.line.items told) c.self.view_is
    (kept_told c.self.inside.kept.items c.push_newest.new.kept.items answer c.args.line.items told refl refl (sym c.is_kept.ensures ∙ c.if-is_kept.true)
    c.push_newest.ensures.newest)
