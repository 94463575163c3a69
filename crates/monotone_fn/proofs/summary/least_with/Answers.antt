use Rattle.std.proofs.Common.{◌≡◌, ◌++◌, ◌∷◌, [], sym, subst, MatchOption}
use Rattle.monotone_fn.specs.Value.{IsLeast}
use Rattle.monotone_fn.proofs.Summaries.{least_more}
use Rattle.monotone_fn.proofs.summary.least_with.Goals as goal

pub returns-in-Some : goal.returns-in-Some
returns-in-Some c = λ ns before.
    let least = subst (λ o. MatchOption o (ns ≡ []) (IsLeast ns)) c.in-Some.is before in
    subst (IsLeast (ns ++ c.args.value ∷ [])) (sym c.min.ensures) (least_more ns c.in-Some.least c.args.value least)
