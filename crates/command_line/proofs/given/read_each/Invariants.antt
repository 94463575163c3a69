use Rattle.std.proofs.Common.{◌≡◌, ◌+◌, length}
use Rattle.command_line.proofs.given.read_each.Given as goal

-- the word at each place before this one was put
abbrev pub invariant-loop-place : goal.invariant-loop-place
invariant-loop-place g l = length l.words + 1 ≡ l.place
