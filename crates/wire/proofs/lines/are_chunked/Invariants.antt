use Rattle.std.proofs.Common.{◌≡◌, codes, map, take}
use Rattle.httparse.specs.Spans.{header_bytes}
use Rattle.wire.specs.Bodies.{is_chunked}
use Rattle.wire.specs.Heads.{all_named}
use Rattle.wire.proofs.lines.are_chunked.Given as goal

-- the lines so far were tried
abbrev pub invariant-loop-line : goal.invariant-loop-line
invariant-loop-line l = l.are_chunked ≡ all_named (codes "transfer-encoding") is_chunked (map (header_bytes l.came) (take l.line-index l.lines))
