use Rattle.std.proofs.Common.{refl, sym}
use Rattle.query_text.proofs.DraftLaws.{where_ok}
use Rattle.query_text.proofs.TakeLaws.{takes_opened}
use Rattle.query_text.proofs.draft.Draft.take_operand.Goals as goal

pub returns-clause-taken : goal.returns-clause-taken
returns-clause-taken c =
    where_ok c.push.result
    (λ pushed. takes_opened c.args.self.now _ _ c.in-Some.operator c.args.word.now (sym c.in-Some.ensures)
    pushed refl refl refl refl
    c.new.ensures.shows c.new.ensures.plain c.requires)
    c.push.ensures.ok
