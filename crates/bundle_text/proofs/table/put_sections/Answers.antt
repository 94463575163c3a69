use Rattle.std.proofs.Common.{List, ◌+◌, subst, arith}
use Rattle.topk_base.specs.Lines.{unlines}
use Rattle.ranked_list.specs.declared.row.Row.{Row}
use Rattle.bundle_text.specs.Bundle.{section}
use Rattle.tk_io.specs.Pieces.{Puts}
use Rattle.bundle_text.specs.Numbered.{list_name}
use Rattle.tk_io.proofs.Putting.{puts_none}
use Rattle.bundle_text.proofs.Sections.{puts_list, puts_lists}
use Rattle.bundle_text.proofs.table.put_sections.Goals as goal

pub loop-place-init : goal.loop-place-init
loop-place-init g c = puts_none _

pub loop-place-preserved : goal.loop-place-preserved
loop-place-preserved g c =
    puts_list c.args.lists.now c.loop-place.place c.index-lists-place.result _ _ _ (omega arith) c.loop-place.invariant
    (subst (λ (rows : List Row). Puts (g.P.Put.at c.loop-place.out) (g.P.Put.at c.put_section.new.out) (unlines (section (list_name (c.loop-place.place + 1)) rows))) c.index-lists-place.is c.put_section.ensures)

pub returns : goal.returns
returns g c = puts_lists c.args.lists.now c.loop-place.place _ _ (omega arith) c.loop-place.invariant
