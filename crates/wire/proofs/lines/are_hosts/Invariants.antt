use Rattle.std.proofs.Common.{◌≡◌, codes, map, take}
use Rattle.std.specs.List.{list_all}
use Rattle.httparse.specs.Spans.{header_bytes}
use Rattle.wire.specs.Heads.{all_named, is_host_byte}
use Rattle.wire.proofs.lines.are_hosts.Given as goal

-- the lines so far were tried
abbrev pub invariant-loop-line : goal.invariant-loop-line
invariant-loop-line l = l.are_hosts ≡ all_named (codes "host") (list_all is_host_byte) (map (header_bytes l.came) (take l.line-index l.lines))
