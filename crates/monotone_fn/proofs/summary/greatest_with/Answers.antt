use Rattle.std.proofs.Common.{◌≡◌, ◌++◌, ◌∷◌, [], sym, subst, MatchOption}
use Rattle.monotone_fn.specs.Shape.{IsGreatest}
use Rattle.monotone_fn.proofs.Summaries.{greatest_more}
use Rattle.monotone_fn.proofs.summary.greatest_with.Goals as goal

pub returns-in-Some : goal.returns-in-Some
returns-in-Some c = λ ns before.
    let greatest = subst (λ o. MatchOption o (ns ≡ []) (IsGreatest ns)) c.in-Some.is before in
    subst (IsGreatest (ns ++ c.args.value ∷ [])) (sym c.max.ensures) (greatest_more ns c.in-Some.greatest c.args.value greatest)
