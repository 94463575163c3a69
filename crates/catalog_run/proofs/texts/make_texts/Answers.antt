use Rattle.std.proofs.Common.{rules, ◌≡◌, ◌+◌, length, subst, IfSome}
use Rattle.catalog_run.specs.Running.{line_text}
use Rattle.catalog_run.proofs.LineTexts.{texts_are}
use Rattle.catalog_run.proofs.texts.make_texts.Goals as goal

pub returns : goal.returns
returns g c =
    let long : length c.for_each_mut.new.s ≡ length c.args.texts.now = search rules in
    texts_are c.args.first c.args.outcomes.now (length c.args.texts.now) c.for_each_mut.new.s long
    (λ i d within line found.
    let k = (c.for_each_mut.ensures i d within).1 in
    subst (λ t. IfSome t (λ made. made ≡ line_text (c.args.first + i) line)) k.left (k.call line found))
