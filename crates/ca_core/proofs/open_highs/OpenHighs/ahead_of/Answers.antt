use Rattle.std.proofs.Common.{Some, sym, subst, ◌∙◌}
use Rattle.std.proofs.lemmas.Option.{none-some, same_Some}
use Rattle.ca_core.specs.declared.kept_high.KeptHigh.{KeptHigh}
use Rattle.ca_core.specs.Leading.{LeadsOver, LeadsHighs}
use Rattle.ca_core.proofs.Highest.{is_ahead, leads_top}
use Rattle.ca_core.proofs.open_highs.OpenHighs.ahead_of.Goals as goal

pub returns-in_default : goal.returns-in_default
returns-in_default c =
    is_ahead c.args.self.now.highs c.in_ok-top.top.key c.in_ok-top.top.rank c.args.first c.in_ok-top.ensures.greatest (λ rank e. absurd (none-some rank (sym c.in_default.is ∙ e)))

pub returns-then-stands_before : goal.returns-then-stands_before
returns-then-stands_before c =
    subst (λ first. LeadsHighs first c.args.self.now.highs) (sym c.in-Some.is)
    (leads_top c.args.self.now.highs c.in_ok-top.top.key c.in_ok-top.top.rank c.in-Some.first c.in_ok-top.ensures.greatest (c.stands_before.ensures.before c.if-stands_before.true))

pub returns-else-stands_before : goal.returns-else-stands_before
returns-else-stands_before c =
    is_ahead c.args.self.now.highs c.in_ok-top.top.key c.in_ok-top.top.rank c.args.first c.in_ok-top.ensures.greatest
    (λ rank e. subst (λ (r : KeptHigh). LeadsOver (Some c.in_ok-top.top.rank) r.high r.object) (same_Some c.in-Some.first rank (sym c.in-Some.is ∙ e))
    (c.stands_before.ensures.behind c.if-stands_before.false))
