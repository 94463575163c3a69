use Rattle.std.proofs.Common.{◌≡◌, drop, map}
use Rattle.server_conn.specs.Answers.{line_answer, text_of}
use Rattle.server_conn.proofs.answers.text_in.Given as goal

abbrev pub invariant-loop-place : goal.invariant-loop-place
invariant-loop-place l = text_of l.line (map line_answer (drop l.place l.answers)) ≡ text_of l.line (map line_answer l.answers)
