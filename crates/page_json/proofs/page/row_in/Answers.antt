use Rattle.std.proofs.Common.{ap, ◌∙◌, rules}
use Rattle.std.specs.Prelude.{option_and_then}
use Rattle.page_json.specs.Bodies.{pair_of}
use Rattle.page_json.proofs.Loops.{not_two}
use Rattle.page_json.proofs.page.row_in.Goals as goal

pub returns-then-len-ne2 : goal.returns-then-len-ne2
returns-then-len-ne2 c = not_two c.in_ok-pair.pair.now.items (search rules) ∙ ap (option_and_then pair_of) c.in_ok-pair.ensures
