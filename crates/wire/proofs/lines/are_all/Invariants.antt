use Rattle.std.proofs.Common.{◌≡◌, map, take}
use Rattle.std.specs.Str.{bytes_eq}
use Rattle.httparse.specs.Spans.{header_bytes}
use Rattle.wire.specs.Asking.{name_bytes}
use Rattle.wire.specs.Heads.{all_named}
use Rattle.wire.proofs.lines.are_all.Given as goal

-- the lines so far were tried
abbrev pub invariant-loop-line : goal.invariant-loop-line
invariant-loop-line l = l.are_same ≡ all_named (name_bytes l.name) (λ other. bytes_eq other l.value) (map (header_bytes l.came) (take l.line-index l.lines))
