-- What a pass knew stays true of the closing states.
use Rattle.std.proofs.Common.{◌≡◌, ◌<◌, ℕ, List, ◌++◌, length, sym, ap, subst, ◌∙◌, arith, append_assoc, le_trans}
use Rattle.turn_lock.specs.declared.facts.Tally.{Tally}
use Rattle.turn_lock.specs.declared.known.Known.{Known}
use Rattle.turn_lock.specs.Facts.{IsFrontOf, AtMost}
use Rattle.turn_lock.specs.Known.{Follows}
use Rattle.source_state.specs.declared.entry.LogEntry.{LogEntry}
use Rattle.source_state.specs.State.{State, IsSound, state_at}
use Rattle.source_pool.specs.declared.hold.Hold.{Hold}
use Rattle.source_pool.specs.Passes.{hold_at}
use Rattle.query_run.specs.declared.running_query.RunningQuery.{RunningQuery}
use Rattle.query_run.specs.Kept.{IsServed}
use Rattle.query_run.proofs.Causes.{IsLater}
use Rattle.query_run.proofs.Serving.{AreLater, served_stays}
use Rattle.source_pool.specs.Seen.{state_seen}
use Rattle.query_run.specs.Seen.{states_seen}
use Rattle.query_run.proofs.SeenLaws.{state_is, seen_long}
use Rattle.batch_result.proofs.ShutLaws.{Shut, shut_begins}

pub begins_on : {A : Type 0} (xs ys zs : List A) → IsFrontOf xs ys → IsFrontOf ys zs → IsFrontOf xs zs
begins_on xs ys zs one other = record {
  rest = one.rest ++ other.rest;
  goes_on = other.goes_on ∙ (ap (λ front. front ++ other.rest) one.goes_on ∙ append_assoc xs one.rest other.rest);
}

pub at_most_on : (s t u : Tally) → AtMost s t → AtMost t u → AtMost s u
at_most_on s t u one other = record {
  failed = le_trans one.failed other.failed;
  garbled = le_trans one.garbled other.garbled;
  memory = le_trans one.memory other.memory;
}

pub follows_on : (a b c : Known LogEntry) → Follows a b → Follows b c → Follows a c
follows_on a b c one other = record {
  seen = begins_on a.seen b.seen c.seen one.seen other.seen;
  met = begins_on a.met b.met c.met one.met other.met;
  tally = at_most_on a.tally b.tally c.tally one.tally other.tally;
}

-- a state goes on from what a pass knows
pub record IsAhead (known : Known LogEntry) (s : State) : Type 0 where
  pub name : (s.list, s.count) ≡ known.name
  pub seen : IsFrontOf known.seen s.log
  pub met : IsFrontOf known.met s.asks
  pub tally : AtMost known.tally s.tally

pub ahead_of : (before after : Known LogEntry) (s : State) → Follows before after → after.name ≡ before.name → IsAhead after s → IsAhead before s
ahead_of before after s follows name h = record {
  name = h.name ∙ name;
  seen = begins_on before.seen after.seen s.log follows.seen h.seen;
  met = begins_on before.met after.met s.asks follows.met h.met;
  tally = at_most_on before.tally after.tally s.tally follows.tally h.tally;
}

-- such a state is later than what the pass saw
later_seen : (known : Known LogEntry) (s : State) → IsAhead known s → IsSound s → Shut s.log → IsLater (state_seen known) s
later_seen known s h sound shut = record {
  goes = record {
    grows = record { name = h.name; log = h.seen; asks = h.met; mark = omega arith; tally = h.tally };
    closed = λ fault e. shut_begins known.seen s.log fault h.seen shut e;
  };
  fits = sound.fits;
}

pub all_later : (holds : List Hold) (states : List State) → length states ≡ length holds
    → ((source : ℕ) → source < length holds → IsAhead (hold_at holds source).pass.1 (state_at states source))
    → ((source : ℕ) → source < length holds → IsSound (state_at states source))
    → ((source : ℕ) → source < length holds → Shut (state_at states source).log)
    → AreLater (states_seen holds) states
all_later holds states many ahead sound shut = record {
  long = many ∙ sym (seen_long holds);
  each = λ source l.
      let within : source < length holds = subst (λ n. source < n) (seen_long holds) l in
      subst (λ s. IsLater s (state_at states source)) (sym (state_is holds source))
      (later_seen (hold_at holds source).pass.1 (state_at states source) (ahead source within) (sound source within) (shut source within));
}

pub served_later : (holds : List Hold) (states : List State) (q : RunningQuery) → AreLater (states_seen holds) states → IsServed (states_seen holds) q
    → IsServed states q
served_later holds states q later h = served_stays (states_seen holds) states q later h
