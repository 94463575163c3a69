-- What was read never changes: from one step, and over a list of them.
use Rattle.std.proofs.Common.{refl, ◌∙◌, arith}
use Rattle.source_state.specs.State.{state_at}
use Rattle.test_worlds.specs.Worlds.{WorldState}
use Rattle.test_worlds.specs.Kept.{IsAfter}
use Rattle.query_run.proofs.Events.{goes_same}
use Rattle.query_run.proofs.Reading.{all_read_same, all_read_on, goes_on}

pub after_same : (w : WorldState) → IsAfter w w
after_same w = record { sources = refl; queries = refl; goes = λ source l. goes_same (state_at w.states source); reads = all_read_same w.queries }

pub after_on : (u v w : WorldState) → IsAfter u v → IsAfter v w → IsAfter u w
after_on u v w one other = record {
  sources = other.sources ∙ one.sources;
  queries = other.queries ∙ one.queries;
  goes = λ source l. goes_on (state_at u.states source) (state_at v.states source) (state_at w.states source) (one.goes source l) (other.goes source (let same = one.sources in omega (arith, l, same)));
  reads = all_read_on u.queries v.queries w.queries one.reads other.reads;
}
