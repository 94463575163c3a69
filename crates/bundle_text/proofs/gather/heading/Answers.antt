use Rattle.std.proofs.Common.{sym}
use Rattle.std.proofs.lemmas.Bool.{false_from_ne_true, both_ways}
use Rattle.bundle_text.proofs.PartLaws.{part_of-list_line}
use Rattle.bundle_text.proofs.GivenLines.{part_of-wild}
use Rattle.bundle_text.proofs.gather.heading.Goals as goal

pub returns-then-is_name-clause-is : goal.returns-then-is_name-clause-is
returns-then-is_name-clause-is c = sym (part_of-list_line c.args.name.now (c.is_name.ensures.0 c.if-is_name.true))

pub returns-clause-is : goal.returns-clause-is
returns-clause-is c = sym (part_of-wild c.args.name.now (false_from_ne_true _ (λ e. both_ways _ c.if-is_name.false (c.is_name.ensures.1 e))))
