-- What a pass has seen of a source is a sound state: when a pool opens, after a look, and after a join.
use Rattle.std.proofs.Common.{◌≡◌, ◌≢◌, ◌≤◌, ◌-◌, ℕ, Bool, true, false, None, List, length, nat_lt, AllPairs, Contains, sym, ap, subst, ◌∙◌, arith, if◌then◌else◌}
use Rattle.std.proofs.Math.Nat.{max-le}
use Rattle.std.proofs.lemmas.List.Elements.{Contains-append_left}
use Rattle.turn_lock.specs.declared.facts.Tally.{Tally}
use Rattle.turn_lock.specs.declared.known.Known.{Known}
use Rattle.turn_lock.specs.Facts.{IsFrontOf}
use Rattle.turn_lock.specs.Known.{Follows, longer, greatest, writers, joined, split_off, all_parts, after_turn}
use Rattle.source_state.specs.declared.entry.LogEntry.{LogEntry}
use Rattle.source_state.specs.State.{State, facts_of, IsCounted, IsSoundLog, IsSound}
use Rattle.source_state.specs.declared.look.Look.{Look}
use Rattle.source_state.proofs.Sound.{sound_opened}
use Rattle.ranked_list.specs.declared.need.Need.{Need}
use Rattle.topk_base.specs.declared.TheConstants.{MAX_OBJECTS}
use Rattle.source_pool.specs.declared.hold.Hold.{Hold}
use Rattle.source_pool.specs.HoldSharing.{first_known}
use Rattle.source_pool.specs.Seen.{state_seen}
use Rattle.source_pool.proofs.TurnLaws.{Turned}

-- before any event
pub sound_first : (source count : ℕ) → count ≤ MAX_OBJECTS → IsSound (state_seen (split_off (all_parts - 1) (first_known source count)))
sound_first source count small = sound_opened source count small

-- what is seen of a sound state
abbrev named : ℕ × ℕ → State → State
named name s = record { list = name.0; count = name.1; want = 0; log = s.log; asks = s.asks; tally = s.tally; last_fail = None; paused = false }

pub sound_named : (s : State) → IsSound s → IsSound (named (s.list, s.count) s)
sound_named s h = record { log = h.log; distinct = h.distinct; fits = h.fits; small = h.small; want = omega arith; tally = h.tally }

-- after a look
pub sound_looked : (n : Need) (before after : Hold) (answer : Look) → Turned n before after answer → IsSound (state_seen after.pass.1)
sound_looked n before after answer t =
    let s = t.turn.left in
    let name : (s.list, s.count) ≡ before.pass.1.name = t.grows.name ∙ t.turn.agrees.name in
    let there : IsSound (state_seen (after_turn (facts_of t.turn.found) (facts_of s) before.pass.1)) = subst (λ (p : ℕ × ℕ). IsSound (named p s)) name (sound_named s t.turn.sound) in
    subst (λ (known : Known LogEntry). IsSound (state_seen known)) (sym t.turn.gave) there

-- after a join: its log is one of the two, and its asks go on from either's
one_of : {A : Type 0} (P : A → Type 0) (a b : Bool) (x y z : A) → P x → P y → P z → P (writers a b x y z)
one_of P true b x y z p q r = p
one_of P false true x y z p q r = q
one_of P false false x y z p q r = r

the_longer : {A : Type 0} (P : List A → Type 0) (xs ys : List A) → P xs → P ys → P (longer xs ys)
the_longer {A} P xs ys p q = by_test (nat_lt (length xs) (length ys))
  where
    by_test : (t : Bool) → P (if t then ys else xs)
    by_test true = q
    by_test false = p

log_on : (count : ℕ) (asks more : List ℕ) (log : List LogEntry) → IsFrontOf asks more → IsSoundLog count asks log → IsSoundLog count more log
log_on count asks more log goes h = record {
  ranked = h.ranked;
  fits = h.fits;
  good = h.good;
  once = h.once;
  asked = λ object c. subst (λ all. Contains all object) (sym goes.goes_on) (Contains-append_left asks goes.rest object (h.asked object c));
  one_fault = h.one_fault;
}

counted_both : (s t : Tally) → IsCounted s → IsCounted t → IsCounted (greatest s t)
counted_both s t a b = record { failed = max-le a.failed b.failed; garbled = max-le a.garbled b.garbled; memory = max-le a.memory b.memory }

pub sound_joined : (one other : Known LogEntry) → other.name ≡ one.name → Follows one (joined one other) → Follows other (joined one other)
    → IsSound (state_seen one) → IsSound (state_seen other) → IsSound (state_seen (joined one other))
sound_joined one other name follows knows a b =
    let count : other.name.1 ≡ one.name.1 = ap (λ (p : ℕ × ℕ). p.1) name in
    let met = longer one.met other.met in
    let his = log_on one.name.1 other.met met other.seen knows.met (subst (λ n. IsSoundLog n other.met other.seen) count b.log) in
    let mine = log_on one.name.1 one.met met one.seen follows.met a.log in
    record {
      log = one_of (IsSoundLog one.name.1 met) one.writer other.writer one.seen other.seen (longer one.seen other.seen) mine his
          (the_longer (IsSoundLog one.name.1 met) one.seen other.seen mine his);
      distinct = the_longer (AllPairs (λ (x : ℕ) (y : ℕ). x ≢ y)) one.met other.met a.distinct b.distinct;
      fits = the_longer (λ asks. length asks ≤ one.name.1) one.met other.met a.fits (subst (λ n. length other.met ≤ n) count b.fits);
      small = a.small;
      want = omega arith;
      tally = one_of IsCounted one.writer other.writer one.tally other.tally (greatest one.tally other.tally) a.tally b.tally (counted_both one.tally other.tally a.tally b.tally);
    }
