use Rattle.std.proofs.Common.{refl}
use Rattle.source_node.proofs.EachLaws.{of_one_list}
use Rattle.source_node.proofs.laws.each_link_is_of_one_list.Goals as goal

pub returns : goal.returns
returns c = λ name version links links_now source source_now ones each. of_one_list name version links links_now source source_now source ones refl refl each
