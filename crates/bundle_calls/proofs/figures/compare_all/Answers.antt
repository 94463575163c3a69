use Rattle.bundle_calls.proofs.CompareLaws.{compared_is}
use Rattle.bundle_calls.proofs.figures.compare_all.Goals as goal

pub returns : goal.returns
returns c =
    compared_is c.args.ready.now.query c.figures_by.new.ready.query c.figures_by-2.new.ready.query c.figures_by-3.new.ready.query
    c.args.lists.now c.figures_by.new.lists c.figures_by-2.new.lists c.figures_by-3.new.lists
    c.in-Ok.ta c.in-Ok-figures_by.nra c.in-Ok-figures_by-2.ca c.in-Ok-figures_by-3.fa
    c.figures_by.ensures.query c.figures_by-2.ensures.query c.figures_by-3.ensures.query
    c.figures_by.ensures.same c.figures_by-2.ensures.same c.figures_by-3.ensures.same
    c.in-Ok.ensures.figures c.in-Ok-figures_by.ensures.figures c.in-Ok-figures_by-2.ensures.figures c.in-Ok-figures_by-3.ensures.figures
