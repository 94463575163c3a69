use Rattle.std.proofs.Common.{◌≡◌, length, map, take}
use Rattle.monotone_fn.specs.Value.{value}
use Rattle.cert_judge.specs.Figures.{item_figures}
use Rattle.cert_judge.proofs.Comparing.{given_figures}
use Rattle.cert_judge.proofs.figures.first_item.Given as goal

-- the figures of the items so far are those that the accesses give
abbrev pub invariant-loop-place : goal.invariant-loop-place
invariant-loop-place l = record {
  place : l.place ≡ length l.yielded;
  same : take l.place (map item_figures l.items) ≡ take l.place (given_figures (value l.expr) l.transcript.lists l.transcript.accesses l.items);
}
