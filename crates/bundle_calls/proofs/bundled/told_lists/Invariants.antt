use Rattle.std.proofs.Common.{◌≡◌, take}
use Rattle.bundle_text.specs.Bundle.{content}
use Rattle.bundle_calls.specs.Bundled.{lists_at}
use Rattle.bundle_calls.proofs.bundled.told_lists.Given as goal

-- the lists at the places so far
abbrev pub invariant-loop-place : goal.invariant-loop-place
invariant-loop-place l = l.lists.items ≡ lists_at (content l.bundle) (take l.place-index l.places)
