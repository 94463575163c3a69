use Rattle.std.proofs.Common.{◌≡◌, map, take}
use Rattle.httparse.specs.Spans.{header_bytes}
use Rattle.wire.specs.Asking.{name_bytes}
use Rattle.wire.specs.Heads.{count_named}
use Rattle.wire.proofs.lines.count_named.Given as goal

-- the lines of the name were counted so far
abbrev pub invariant-loop-line : goal.invariant-loop-line
invariant-loop-line l = l.count ≡ count_named (name_bytes l.name) (map (header_bytes l.came) (take l.line-index l.lines))
