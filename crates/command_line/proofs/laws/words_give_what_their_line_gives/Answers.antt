use Rattle.command_line.proofs.LineLaws.{line_taken, taken_by_line}
use Rattle.command_line.proofs.laws.words_give_what_their_line_gives.Goals as goal

pub returns : goal.returns
returns c = record { each = line_taken; none_else = taken_by_line }
