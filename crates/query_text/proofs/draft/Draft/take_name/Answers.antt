use Rattle.std.proofs.Common.{refl, sym, subst, arith}
use Rattle.query_text.proofs.ListLaws.{length-bytes_of}
use Rattle.query_text.specs.declared.parser_state.ParserState.TheVariants as stages
use Rattle.query_text.specs.Draft.{Takes}
use Rattle.query_text.proofs.TakeLaws.{takes_name}
use Rattle.query_text.proofs.draft.Draft.take_name.Goals as goal

pub returns-clause-taken : goal.returns-clause-taken
returns-clause-taken c =
    subst (λ new. Takes stages.Operand c.args.self.now new c.args.word.now) (sym c.set_operand.ensures)
    (takes_name c.args.self.now _ c.in_ok-list.list c.args.word.now c.requires.name refl refl refl refl c.in_ok-list.ensures.names (omega (arith, c.in_ok-list.ensures.few, length-bytes_of c.list_of.new.names.items, c.list_of.new.names.ok.0)) c.in_ok-list.ensures.number)
