-- What is kept of the seen objects, through a note and through a test of the stop or a choice.
use Rattle.std.proofs.Common.{◌≡◌, ℕ, length, arith, ◌∙◌}
use Rattle.nra_core.specs.declared.late.LateBounds.{LateBounds}
use Rattle.nra_core.specs.LatePlaces.{KeepsLate, WasLate}
use Rattle.ca_core.specs.declared.open_highs.OpenHighs.{OpenHighs}
use Rattle.ca_core.specs.Open.{KeepsOpen, WasOpen}
use Rattle.machine_base.specs.declared.base.Base.{Base}
use Rattle.machine_base.specs.Base.{Holds}
use Rattle.ca_core.specs.declared.late_seen.LateSeen.{LateSeen}
use Rattle.ca_core.specs.Seen.{KeepsSeen, WasRenewed}

pub was_late : (base : Base) (object : ℕ) (late : LateSeen) → Holds base → WasRenewed base object late → WasLate base.expr base.transcript object late.bounds
was_late base object late held was = record {
  before = was.before;
  access = was.access;
  told = was.told;
  named = was.named;
  seen = was.seen;
  room = (let few = held.roomy in let room = was.kept.same_room in omega (arith, few, room));
  kept = was.kept.bounds;
}

pub was_open : (base : Base) (object : ℕ) (late : LateSeen) → Holds base → WasRenewed base object late → WasOpen base.expr base.transcript object late.highs
was_open base object late held was = record {
  before = was.before;
  access = was.access;
  told = was.told;
  named = was.named;
  seen = was.seen;
  room = (let few = held.roomy in let space = was.kept.space in omega (arith, few, space));
  kept = was.kept.highs;
}

pub seen_noted : (base : Base) (object : ℕ) (late : LateSeen) (bounds : LateBounds) (highs : OpenHighs) → WasRenewed base object late
    → bounds.k ≡ late.bounds.k → bounds.first.room ≡ late.bounds.first.room → KeepsLate base.expr base.transcript bounds
    → length highs.highs ≡ length late.highs.highs → KeepsOpen base.expr base.transcript highs → KeepsSeen base (record { bounds = bounds; highs = highs })
seen_noted base object late bounds highs was k room kept space opens = record {
  same_k = k ∙ was.kept.same_k;
  same_room = room ∙ was.kept.same_room;
  space = space ∙ was.kept.space;
  bounds = kept;
  highs = opens;
}

pub seen_tested : (base : Base) (late : LateSeen) (bounds : LateBounds) → KeepsSeen base late → bounds.k ≡ late.bounds.k
    → bounds.first.room ≡ late.bounds.first.room → KeepsLate base.expr base.transcript bounds → KeepsSeen base (record { bounds = bounds; highs = late.highs })
seen_tested base late bounds seen k room kept = record { same_k = k ∙ seen.same_k; same_room = room ∙ seen.same_room; space = seen.space; bounds = kept; highs = seen.highs }

pub seen_chosen : (base : Base) (late : LateSeen) (highs : OpenHighs) → KeepsSeen base late → length highs.highs ≡ length late.highs.highs
    → KeepsOpen base.expr base.transcript highs → KeepsSeen base (record { bounds = late.bounds; highs = highs })
seen_chosen base late highs seen space opens = record { same_k = seen.same_k; same_room = seen.same_room; space = space ∙ seen.space; bounds = seen.bounds; highs = opens }
