use Rattle.std.proofs.Common.{refl, sym, subst, ◌∙◌}
use Rattle.monotone_fn.specs.Shown.{tree_of}
use Rattle.query_text.specs.declared.parser_state.ParserState.TheVariants as stages
use Rattle.query_text.specs.Draft.{Takes, AddsArgument, Closes}
use Rattle.query_text.proofs.DraftLaws.{where_ok}
use Rattle.query_text.proofs.TakeLaws.{takes_comma, takes_close}
use Rattle.query_text.proofs.draft.Draft.take_behind.Goals as goal

pub returns-then-is_text-clause-taken : goal.returns-then-is_text-clause-taken
returns-then-is_text-clause-taken c =
    where_ok c.add-outcome.result
    (λ (added : AddsArgument c.in-Some.frame c.add-outcome.new.self (tree_of c.replace-node.result)).
    takes_comma c.args.self.now _ c.pop.new.self.items c.in-Some.frame c.add-outcome.new.self c.args.word.now (sym c.is_text.ensures ∙ c.if-is_text.true) c.in-Some.ensures.items
    c.push_reserved.ensures.items
    (subst (λ n. AddsArgument c.in-Some.frame c.add-outcome.new.self (tree_of n)) c.replace-node.ensures.value added)
    refl refl c.replace-node.ensures.after refl c.requires)
    c.add-outcome.ensures.ok

pub returns-clause-taken : goal.returns-clause-taken
returns-clause-taken c =
    subst (λ new. Takes stages.Behind c.args.self.now new c.args.word.now) (sym c.set_operand.ensures)
    (takes_close c.args.self.now _ c.pop.new.self.items c.in-Some.frame c.args.word.now (sym c.is_text.ensures ∙ c.if-is_text.false) c.in-Some.ensures.items refl
    (subst (λ n. Closes c.in-Some.frame (tree_of n) (tree_of c.in_ok-whole.whole)) c.replace-node.ensures.value c.in_ok-whole.ensures.ok)
    refl refl refl c.requires)
