use Rattle.std.proofs.Common.{refl}
use Rattle.std.proofs.lemmas.Result.{err_from_is_err_and}
use Rattle.topk_base.specs.declared.TheConstants.{MAX_NUMBER}
use Rattle.query_text.specs.declared.parser_state.ParserState.TheVariants as stages
use Rattle.query_text.proofs.TakeLaws.{misses_number, takes_sorted}
use Rattle.query_text.proofs.draft.Draft.take_sorted.Goals as goal

pub returns-clause-taken : goal.returns-clause-taken
returns-clause-taken c =
    takes_sorted c.args.self.now _ c.args.word.now
    (record { value = c.in_ok-self.ensures.ok.0; low = c.in_ok-self.ensures.ok.1; high = c.in_ok-self.ensures.ok.2 }) c.requires

pub returns-in_err-self-clause-missed : goal.returns-in_err-self-clause-missed
returns-in_err-self-clause-missed c =
    let p = err_from_is_err_and c.from_residual.result c.from_residual.ensures.1 in
    rw (p.1, p.2) (misses_number stages.Sorted c.args.self.now c.args.word.now c.args.at 1 MAX_NUMBER _ refl c.in_err-self.ensures.err.0 c.in_err-self.ensures.err.1)
