use Rattle.std.proofs.Common.{refl, sym, subst}
use Rattle.monotone_fn.specs.Tree.{Tree, terms}
use Rattle.monotone_fn.specs.Shape.{NumbersLists}
use Rattle.test_texts.proofs.Numbered.{one_term}
use Rattle.test_texts.proofs.weights.weighted.Goals as goal

pub returns : goal.returns
returns c =
    subst (λ us. NumbersLists (Tree.Wsum (terms us))) (sym c.from_vec.ensures) (one_term c.new-items.result.items _ _ c.args.weight refl c.new-items.ensures.items c.in-Ok.ensures.items)
