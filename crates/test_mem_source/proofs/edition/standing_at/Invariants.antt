use Rattle.std.proofs.Common.{◌≡◌, None, drop}
use Rattle.std.specs.Option.{option_map}
use Rattle.test_mem_source.specs.Editions.{as_edition, editions_of, standing}
use Rattle.test_mem_source.proofs.edition.standing_at.Given as goal

-- those that are left decide what stands, from the one that stands by now on
abbrev pub invariant-loop-next : goal.invariant-loop-next
invariant-loop-next l = standing l.call (option_map (λ later. as_edition later.now) l.held) (editions_of (drop l.next-index l.later)) ≡ standing l.call None (editions_of l.later)
