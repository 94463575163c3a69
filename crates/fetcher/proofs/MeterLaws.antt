-- What the turns of a fetcher bring together, turn by turn.
use Rattle.std.proofs.Common.{◌≡◌, ◌≤◌, ◌<◌, ◌+◌, ◌-◌, ◌^◌, ℕ, max, Some, None, List, [], ◌∷◌, ◌++◌, length, refl, sym, ap, subst, ◌∙◌, arith, le_trans, le_refl, Option}
use Rattle.std.proofs.lemmas.List.{length-append}
use Rattle.ranked_list.specs.declared.row.Row.{Row}
use Rattle.tk_io.specs.Faults.{Rose}
use Rattle.tk_io.specs.Faults as faults
use Rattle.turn_lock.specs.declared.facts.Tally.{Tally}
use Rattle.turn_lock.specs.declared.known.Known.{Known}
use Rattle.turn_lock.specs.Facts.{IsFrontOf}
use Rattle.turn_lock.proofs.Growth.{begins_same, begins_on, at_most_same, at_most_on}
use Rattle.topk_theory.proofs.AgreementLists.{distinct_fits}
use Rattle.source_state.specs.declared.entry.LogEntry.{LogEntry}
use Rattle.source_state.specs.declared.entry.LogEntry.TheVariants.{Settled, Fault}
use Rattle.source_state.specs.declared.entry.Settling.{Settling}
use Rattle.source_state.specs.declared.entry.Settling.TheVariants.{Bad, Missed}
use Rattle.source_state.specs.declared.entry.SourceFault.{SourceFault}
use Rattle.source_state.specs.declared.entry.SourceFault.TheVariants.{Moved}
use Rattle.source_state.specs.declared.entry.Asked.TheVariants as became
use Rattle.source_state.specs.declared.event.Event.{Event}
use Rattle.source_state.specs.declared.event.Event.TheVariants as event
use Rattle.source_state.specs.Log.{rows_in, settled_in, fault_in}
use Rattle.source_state.specs.State.{State, asked_in, settle, IsSound}
use Rattle.source_state.specs.Events as events
use Rattle.source_state.specs.Events.{logged, paged, one_more}
use Rattle.source_state.specs.Looking.{reach_of}
use Rattle.source_state.proofs.Lists.{none_not_some}
use Rattle.source_state.proofs.LogLaws.{fault_rows, fault_settled, fault_first}
use Rattle.source_state.proofs.AskLaws.{pending_parts}
use Rattle.source_api.specs.declared.counts.Counts.{Counts}
use Rattle.source_api.specs.Counting.{raised, NoneFell}
use Rattle.fetcher.specs.declared.turned.Fetched.{Fetched}
use Rattle.source_api.specs.declared.source.FailKind.TheVariants as kind
use Rattle.source_api.specs.declared.source.Trouble.TheVariants as trouble
use Rattle.fetcher.specs.declared.turned.Turned.{Turned}
use Rattle.fetcher.specs.declared.turned.Turned.TheVariants as turned
use Rattle.fetcher.specs.Turning.{Feeds, IsFed, Brings}
use Rattle.fetcher.specs.Moving.{MovesOnly}
use Rattle.fetcher.specs.Causes.{IsFaultOfGrade, ComesOf, HasGiven}
use Rattle.fetcher.specs.Metering.{WentUp, RoseBy, KeepsAll, Meters, nothing, counted_by, HasCountOf}
use Rattle.fetcher.proofs.ReachLaws.{reach_more, reach_within}
use Rattle.fetcher.proofs.CauseLaws.{page_most, settle_bad, page_comes, settled_comes, moved_comes, comes_none}
use Rattle.fetcher.proofs.MoveLaws.{turn_moves, rose_as, moves_none, moves_more, rose_later, rose_still}
use Rattle.fetcher.proofs.EventLaws.{page_stays, page_all, settling_more, settling_rows, settling_fault}

went_more : (n a b now next : ℕ) → WentUp a n now → next ≡ raised now b → WentUp (a + b) n next
went_more n a b now next went is = omega arith

went_same : (n a now next : ℕ) → WentUp a n now → next ≡ now → WentUp a n next
went_same n a now next went same = ap (λ m. raised m 0) same ∙ went

rose_more : (n x before now : ℕ) → raised n x ≤ before → Rose before now → raised n (x + 1) ≤ now
rose_more n x before now a b = omega arith

rose_least : (n x y now : ℕ) → x ≤ y → raised n y ≤ now → raised n x ≤ now
rose_least n x y now a b = omega arith

one_less : (n first : ℕ) → one_more n - first ≤ n - first + 1
one_less n first = omega arith

reach_on : (page ahead : ℕ) (k1 k2 : Known LogEntry) → 1 ≤ page → Feeds k1 k2
    → reach_of k1.sight.mark page ahead k1.name.1 ≤ reach_of k2.sight.mark page ahead k2.name.1
reach_on page ahead k1 k2 some feeds =
    subst (λ n. reach_of k1.sight.mark page ahead k1.name.1 ≤ reach_of k2.sight.mark page ahead n) (ap (λ (p : ℕ × ℕ). p.1) (sym feeds.name))
    (reach_more page ahead k1.name.1 k1.sight.mark k2.sight.mark some feeds.sight)

pub max_on : (start rows near far : ℕ) → start + rows ≤ max start near → near ≤ far → start + rows ≤ max start far
max_on start rows near far a b = omega arith

max_page : (start kept rows more far : ℕ) → kept ≡ start + rows → kept + more ≤ far → start + (rows + more) ≤ max start far
max_page start kept rows more far a b = omega arith

-- a turn that leaves the log
pub record SameLog (k1 k2 : Known LogEntry) : Type 0 where
  pub seen : k2.seen ≡ k1.seen

kept_on : (fetched : Fetched) (k0 k1 k2 : Known LogEntry) → KeepsAll fetched k0 k1 → k2.seen ≡ k1.seen → KeepsAll fetched k0 k2
kept_on fetched k0 k1 k2 h same = record { rows = λ none. ap (λ log. length (rows_in log)) same ∙ h.rows (ap fault_in (sym same) ∙ none) }

-- a turn that settles an object
pub record Settles (k1 k2 : Known LogEntry) : Type 0 where
  pub settled : length (settled_in k2.seen) ≡ length (settled_in k1.seen) + 1
  pub rows : length (rows_in k2.seen) ≡ length (rows_in k1.seen)
  pub fault : fault_in k2.seen ≡ fault_in k1.seen
  pub few : length (settled_in k2.seen) ≤ 200000
  pub asks : length (settled_in k2.seen) ≤ length k2.met

settled_asks : (s : State) → IsSound s → length (settled_in s.log) ≤ length s.asks
settled_asks s sound = distinct_fits (settled_in s.log) s.asks sound.log.once sound.log.asked

settled_few : (s : State) → IsSound s → length (settled_in s.log) ≤ 200000
settled_few s sound = le_trans (settled_asks s sound) (le_trans sound.fits sound.small)

settles_by : (e : Event) (object : ℕ) (settling : State → Settling) (k1 k2 : Known LogEntry)
    → ((s : State) → events.after s e ≡ logged s (Settled object (settling s))) → IsFed e k1 k2 → Settles k1 k2
settles_by e object settling k1 k2 is fed =
    let after : k2.seen ≡ (logged fed.found (Settled object (settling fed.found))).log = fed.sees.log ∙ ap (λ (s : State). s.log) (is fed.found) in
    record {
      settled = ap (λ log. length (settled_in log)) after ∙ (settling_more fed.found object (settling fed.found) ∙ ap (λ log. length (settled_in log) + 1) fed.is.log);
      rows = ap (λ log. length (rows_in log)) after ∙ (ap (length {A = Row}) (settling_rows fed.found object (settling fed.found)) ∙ ap (λ log. length (rows_in log)) fed.is.log);
      fault = ap fault_in after ∙ (settling_fault fed.found object (settling fed.found) ∙ ap fault_in fed.is.log);
      few = subst (λ log. length (settled_in log) ≤ 200000) (sym fed.sees.log) (settled_few (events.after fed.found e) fed.sound);
      asks = subst (λ (log : List LogEntry). length (settled_in log) ≤ length k2.met) (sym fed.sees.log)
          (subst (λ (asks : List ℕ). length (settled_in (events.after fed.found e).log) ≤ length asks) (sym fed.sees.asks) (settled_asks (events.after fed.found e) fed.sound));
    }

kept_settled : (fetched : Fetched) (k0 k1 k2 : Known LogEntry) → KeepsAll fetched k0 k1 → Settles k1 k2
    → KeepsAll (record fetched { grades = fetched.grades + 1 }) k0 k2
kept_settled fetched k0 k1 k2 h s = record { rows = λ none. s.rows ∙ h.rows (sym s.fault ∙ none) }

-- the grades are no more than the asks, however many asks come
pub asked_on : (grades : ℕ) (asks more : List ℕ) → grades ≤ length asks → IsFrontOf asks more → grades ≤ length more
asked_on grades asks more h b =
    let e : length more ≡ length (asks ++ b.rest) = ap (length {A = ℕ}) b.goes_on in
    omega (arith, h, e, length-append asks b.rest)

-- what was given, by turns that leave the rows and what settles, or add to them
given_same : (number : ℕ) (k1 k2 : Known LogEntry) → Feeds k1 k2 → k2.seen ≡ k1.seen → HasGiven number k1.name.1 k1.seen → HasGiven number k2.name.1 k2.seen
given_same number k1 k2 feeds same h =
    subst (λ log. HasGiven number k2.name.1 log) (sym same) (subst (λ n. HasGiven number n k1.seen) (ap (λ (p : ℕ × ℕ). p.1) (sym feeds.name)) h)

given_found : (number : ℕ) (e : Event) (k1 k2 : Known LogEntry) → (fed : IsFed e k1 k2) → HasGiven number k1.name.1 k1.seen
    → HasGiven number fed.found.count fed.found.log
given_found number e k1 k2 fed h =
    subst (λ log. HasGiven number fed.found.count log) (sym fed.is.log) (subst (λ n. HasGiven number n k1.seen) (ap (λ (p : ℕ × ℕ). p.1) (sym fed.is.name)) h)

found_name : (e : Event) (k1 k2 : Known LogEntry) → Feeds k1 k2 → (fed : IsFed e k1 k2) → fed.found.count ≡ k2.name.1
found_name e k1 k2 feeds fed = ap (λ (p : ℕ × ℕ). p.1) (fed.is.name ∙ sym feeds.name)

given_page : (number rows : ℕ) (given : List Row) (k1 k2 : Known LogEntry) → length given ≡ rows → Feeds k1 k2 → IsFed (event.Page given) k1 k2
    → HasGiven number k1.name.1 k1.seen → HasGiven (number + rows) k2.name.1 k2.seen
given_page number rows given k1 k2 size feeds fed h =
    let was = given_found number (event.Page given) k1 k2 fed h in
    let many : length was.given ≡ number = was.many in
    record {
      given = was.given ++ given;
      many = omega (arith, length-append was.given given, size, many);
      comes = subst (λ log. ComesOf k2.name.1 (was.given ++ given) log) (sym fed.sees.log)
          (subst (λ n. ComesOf n (was.given ++ given) (paged fed.found given).log) (found_name (event.Page given) k1 k2 feeds fed)
          (page_comes fed.found.count was.given given fed.found refl fed.may was.comes));
    }

given_settled : (number object : ℕ) (e : Event) (settling : Settling) (k1 k2 : Known LogEntry) → Feeds k1 k2 → (fed : IsFed e k1 k2)
    → (events.after fed.found e).log ≡ fed.found.log ++ Settled object settling ∷ [] → asked_in fed.found object ≡ Some became.Pending
    → ((fault : SourceFault) → settling ≡ Bad fault → IsFaultOfGrade (rows_in fed.found.log) object fault)
    → HasGiven number k1.name.1 k1.seen → HasGiven number k2.name.1 k2.seen
given_settled number object e settling k1 k2 feeds fed is pending well h =
    let was = given_found number e k1 k2 fed h in
    record {
      given = was.given;
      many = was.many;
      comes = subst (λ log. ComesOf k2.name.1 was.given log) (sym (fed.sees.log ∙ is))
          (subst (λ n. ComesOf n was.given (fed.found.log ++ Settled object settling ∷ [])) (found_name e k1 k2 feeds fed)
          (settled_comes fed.found.count was.given fed.found.log object settling (pending_parts fed.found object pending).1 well was.comes));
    }

-- a turn that tells that the list was replaced
record Moves (k1 k2 : Known LogEntry) : Type 0 where
  settled : length (settled_in k1.seen) ≤ length (settled_in k2.seen)
  rows : length (rows_in k2.seen) ≡ length (rows_in k1.seen)
  free : fault_in k2.seen ≡ None → fault_in k1.seen ≡ None

moved_by : (object : Option ℕ) (had other : ℕ) (k1 k2 : Known LogEntry) → IsFed (event.Move object had other) k1 k2 → Moves k1 k2
moved_by None had other k1 k2 fed =
    let after : k2.seen ≡ fed.found.log ++ Fault (Moved had other) ∷ [] = fed.sees.log in
    let same : length (settled_in k2.seen) ≡ length (settled_in k1.seen) =
    ap (λ log. length (settled_in log)) after ∙ (ap (length {A = ℕ}) (fault_settled fed.found.log (Moved had other)) ∙ ap (λ log. length (settled_in log)) fed.is.log) in
    record {
      settled = omega (arith, same);
      rows = ap (λ log. length (rows_in log)) after ∙ (ap (length {A = Row}) (fault_rows fed.found.log (Moved had other)) ∙ ap (λ log. length (rows_in log)) fed.is.log);
      free = λ none. absurd (none_not_some (sym none ∙ (ap fault_in after ∙ fault_first fed.found.log (Moved had other) fed.may.1.0)));
    }
moved_by (Some object) had other k1 k2 fed =
    let s = settles_by (event.Move (Some object) had other) object (λ s. Bad (Moved had other)) k1 k2 (λ s. refl) fed in
    let more = s.settled in
    record { settled = omega (arith, more); rows = s.rows; free = λ none. sym s.fault ∙ none }

given_moved : (number : ℕ) (object : Option ℕ) (had other : ℕ) (k1 k2 : Known LogEntry) → Feeds k1 k2 → IsFed (event.Move object had other) k1 k2
    → HasGiven number k1.name.1 k1.seen → HasGiven number k2.name.1 k2.seen
given_moved number None had other k1 k2 feeds fed h =
    let was = given_found number (event.Move None had other) k1 k2 fed h in
    record {
      given = was.given;
      many = was.many;
      comes = subst (λ log. ComesOf k2.name.1 was.given log) (sym fed.sees.log)
          (subst (λ n. ComesOf n was.given (fed.found.log ++ Fault (Moved had other) ∷ [])) (found_name (event.Move None had other) k1 k2 feeds fed)
          (moved_comes fed.found.count was.given fed.found.log had other fed.may.1.0 fed.may.0 fed.may.1.1 was.comes));
    }
given_moved number (Some object) had other k1 k2 feeds fed h =
    given_settled number object (event.Move (Some object) had other) (Bad (Moved had other)) k1 k2 feeds fed refl fed.may.1
    (λ fault e. let same : Moved had other ≡ fault = cc in subst (IsFaultOfGrade (rows_in fed.found.log) object) same fed.may.0) h

-- no row is kept that wasn't given
page_kept : (given : List Row) (k1 k2 : Known LogEntry) → IsFed (event.Page given) k1 k2 → length (rows_in k2.seen) ≤ length (rows_in k1.seen) + length given
page_kept given k1 k2 fed =
    subst (λ log. length (rows_in log) ≤ length (rows_in k1.seen) + length given) (sym fed.sees.log)
    (subst (λ log. length (rows_in (paged fed.found given).log) ≤ length (rows_in log) + length given) fed.is.log (page_most fed.found given))

kept_more : (start rows more before now : ℕ) → before ≤ start + rows → now ≤ before + more → now ≤ start + (rows + more)
kept_more start rows more before now a b = omega arith

-- what more turns do to moves
record Moving (counts now : Counts) (before after : Known LogEntry) : Type 0 where
  moved : MovesOnly (λ had other. Rose counts.moves now.moves) before.seen after.seen
  since : counts.moves ≤ now.moves

moving : (page ahead : ℕ) (fetched : Fetched) (answer : Turned) (list : Option (List Row)) (c0 c1 c2 : Counts) (k0 k1 k2 : Known LogEntry)
    → Meters page ahead fetched c0 c1 k0 k1 → NoneFell c1 c2 → Brings page ahead list c1 c2 k1 k2 answer → Moving c0 c2 k0 k2
moving page ahead fetched answer list c0 c1 c2 k0 k1 k2 m later b = record {
  moved = moves_more (λ had other. Rose c0.moves c1.moves) (λ had other. Rose c1.moves c2.moves) (λ had other. Rose c0.moves c2.moves) k0.seen k1.seen k2.seen
      (λ had other rose. rose_still c0.moves c1.moves c2.moves later.moves rose) (λ had other rose. rose_later c0.moves c1.moves c2.moves m.since rose) m.metered.moved
      (turn_moves (λ had other. Rose c1.moves c2.moves) page ahead list c1 c2 k1 k2 answer b (rose_as page ahead list c1 c2 k1 k2 answer b));
  since = le_trans m.since later.moves;
}

-- a turn that gives nothing, with what its tally and faults do
still : (page ahead : ℕ) (fetched : Fetched) (c0 c1 c2 : Counts) (k0 k1 k2 : Known LogEntry) → 1 ≤ page → Meters page ahead fetched c0 c1 k0 k1 → Feeds k1 k2
    → k2.seen ≡ k1.seen
    → c2.rows_given ≡ c1.rows_given → c2.grades_given ≡ c1.grades_given
    → RoseBy (k2.tally.failed - k0.tally.failed) c0.faults c2.faults → RoseBy (k2.tally.garbled - k0.tally.garbled) c0.garbles c2.garbles
    → Moving c0 c2 k0 k2 → Meters page ahead fetched c0 c2 k0 k2
still page ahead fetched c0 c1 c2 k0 k1 k2 some m feeds seen rows grades failed garbled moves = record {
  metered = record {
    rows = went_same c0.rows_given fetched.rows c1.rows_given c2.rows_given m.metered.rows rows;
    grades = went_same c0.grades_given fetched.grades c1.grades_given c2.grades_given m.metered.grades grades;
    reach = max_on (length (rows_in k0.seen)) fetched.rows _ _ m.metered.reach (reach_on page ahead k1 k2 some feeds);
    kept = subst (λ log. length (rows_in log) ≤ length (rows_in k0.seen) + fetched.rows) (sym seen) m.metered.kept;
    comes = λ none. given_same fetched.rows k1 k2 feeds seen (m.metered.comes none);
    settled = subst (λ (log : List LogEntry). length (settled_in k0.seen) + fetched.grades ≤ length (settled_in log)) (sym seen) m.metered.settled;
    asked = asked_on fetched.grades k1.met k2.met m.metered.asked feeds.follows.met;
    failed = failed;
    garbled = garbled;
    moved = moves.moved;
  };
  kept = kept_on fetched k0 k1 k2 m.kept seen;
  since = moves.since;
}

-- the fails of a kind that didn't come
same_failed : (k0 k1 k2 : Known LogEntry) (before now then_ : ℕ) → k2.tally.failed ≡ k1.tally.failed → RoseBy (k1.tally.failed - k0.tally.failed) before now
    → now ≤ then_ → RoseBy (k2.tally.failed - k0.tally.failed) before then_
same_failed k0 k1 k2 before now then_ same rose later = subst (λ n. raised before (n - k0.tally.failed) ≤ then_) (sym same) (le_trans rose later)

same_garbled : (k0 k1 k2 : Known LogEntry) (before now then_ : ℕ) → k2.tally.garbled ≡ k1.tally.garbled
    → RoseBy (k1.tally.garbled - k0.tally.garbled) before now → now ≤ then_ → RoseBy (k2.tally.garbled - k0.tally.garbled) before then_
same_garbled k0 k1 k2 before now then_ same rose later = subst (λ n. raised before (n - k0.tally.garbled) ≤ then_) (sym same) (le_trans rose later)

one_failed : (before now then_ first last : ℕ) → RoseBy (last - first) before now → Rose now then_ → RoseBy (one_more last - first) before then_
one_failed before now then_ first last rose more = rose_least before (one_more last - first) (last - first + 1) then_ (one_less last first) (rose_more before (last - first) now then_ rose more)

-- a turn that settles an object
settled_turn : (page ahead : ℕ) (fetched : Fetched) (c0 c1 c2 : Counts) (k0 k1 k2 : Known LogEntry) → 1 ≤ page → Meters page ahead fetched c0 c1 k0 k1
    → Feeds k1 k2 → NoneFell c1 c2 → Settles k1 k2 → (HasGiven fetched.rows k1.name.1 k1.seen → HasGiven fetched.rows k2.name.1 k2.seen)
    → k2.tally ≡ k1.tally → c2.rows_given ≡ c1.rows_given → c2.grades_given ≡ faults.counted c1.grades_given → Moving c0 c2 k0 k2 → Meters page ahead (record fetched { grades = fetched.grades + 1 }) c0 c2 k0 k2
settled_turn page ahead fetched c0 c1 c2 k0 k1 k2 some m feeds later s given tally rows grades moves = record {
  metered = record {
    rows = went_same c0.rows_given fetched.rows c1.rows_given c2.rows_given m.metered.rows rows;
    grades = went_more c0.grades_given fetched.grades 1 c1.grades_given c2.grades_given m.metered.grades grades;
    reach = max_on (length (rows_in k0.seen)) fetched.rows _ _ m.metered.reach (reach_on page ahead k1 k2 some feeds);
    kept = let a = m.metered.kept in let b = s.rows in omega (arith, a, b);
    comes = λ none. given (m.metered.comes none);
    settled = let a = m.metered.settled in let b = s.settled in omega (arith, a, b);
    asked = let a = m.metered.settled in let b = s.settled in let d = s.asks in omega (arith, a, b, d);
    failed = same_failed k0 k1 k2 c0.faults c1.faults c2.faults (ap (λ (t : Tally). t.failed) tally) m.metered.failed later.faults;
    garbled = same_garbled k0 k1 k2 c0.garbles c1.garbles c2.garbles (ap (λ (t : Tally). t.garbled) tally) m.metered.garbled later.garbles;
    moved = moves.moved;
  };
  kept = kept_settled fetched k0 k1 k2 m.kept s;
  since = moves.since;
}

-- one more turn
pub meter_more : (page ahead : ℕ) (fetched : Fetched) (answer : Turned) (list : Option (List Row)) (c0 c1 c2 : Counts) (k0 k1 k2 : Known LogEntry) → 1 ≤ page
    → Meters page ahead fetched c0 c1 k0 k1 → Feeds k1 k2 → NoneFell c1 c2
    → Brings page ahead list c1 c2 k1 k2 answer → Meters page ahead (counted_by fetched answer) c0 c2 k0 k2
meter_more page ahead fetched (turned.Paged rows) list c0 c1 c2 k0 k1 k2 some m feeds later b =
    let fed = b.fed in
    let moves = moving page ahead fetched (turned.Paged rows) list c0 c1 c2 k0 k1 k2 m later b in
    let all : length (rows_in k1.seen) ≡ length (rows_in k0.seen) + fetched.rows = m.kept.rows b.no_fault in
    let size = b.size in
    record {
      metered = record {
        rows = went_more c0.rows_given fetched.rows rows c1.rows_given c2.rows_given m.metered.rows b.gave.rows;
        grades = went_same c0.grades_given fetched.grades c1.grades_given c2.grades_given m.metered.grades b.gave.grades;
        reach = max_page (length (rows_in k0.seen)) (length (rows_in k1.seen)) fetched.rows rows _ all b.reach;
        kept = kept_more (length (rows_in k0.seen)) fetched.rows rows (length (rows_in k1.seen)) (length (rows_in k2.seen)) m.metered.kept
            (subst (λ n. length (rows_in k2.seen) ≤ length (rows_in k1.seen) + n) size (page_kept b.given k1 k2 fed));
        comes = λ none. given_page fetched.rows rows b.given k1 k2 size feeds fed (m.metered.comes none);
        settled = subst (λ n. length (settled_in k0.seen) + fetched.grades ≤ n)
            (sym (ap (λ log. length (settled_in log)) fed.sees.log ∙ (ap (length {A = ℕ}) (page_stays fed.found b.given).settled ∙ ap (λ log. length (settled_in log)) fed.is.log))) m.metered.settled;
        asked = asked_on fetched.grades k1.met k2.met m.metered.asked feeds.follows.met;
        failed = same_failed k0 k1 k2 c0.faults c1.faults c2.faults (ap (λ (t : Tally). t.failed) b.tally) m.metered.failed later.faults;
        garbled = same_garbled k0 k1 k2 c0.garbles c1.garbles c2.garbles (ap (λ (t : Tally). t.garbled) b.tally) m.metered.garbled later.garbles;
        moved = moves.moved;
      };
      since = moves.since;
      kept = record {
        rows = λ none.
            let now = page_all fed.found b.given (ap fault_in (sym fed.sees.log) ∙ none) (ap fault_in fed.is.log ∙ b.no_fault) in
            let there : length (rows_in fed.found.log) ≡ length (rows_in k1.seen) = ap (λ log. length (rows_in log)) fed.is.log in
            ap (λ log. length (rows_in log)) fed.sees.log ∙ (now ∙ sum_of (length (rows_in fed.found.log)) (length b.given) (length (rows_in k1.seen)) rows (length (rows_in k0.seen)) fetched.rows there size all);
      };
    }
  where
    sum_of : (a b c d e f : ℕ) → a ≡ c → b ≡ d → c ≡ e + f → a + b ≡ e + (f + d)
    sum_of a b c d e f p q r = omega arith
meter_more page ahead fetched (turned.Graded object) list c0 c1 c2 k0 k1 k2 some m feeds later b =
    settled_turn page ahead fetched c0 c1 c2 k0 k1 k2 some m feeds later
    (settles_by (event.Grade object b.grade) object (λ s. settle (rows_in s.log) object b.grade) k1 k2 (λ s. refl) b.fed)
    (given_settled fetched.rows object (event.Grade object b.grade) (settle (rows_in b.fed.found.log) object b.grade) k1 k2 feeds b.fed refl b.fed.may
    (settle_bad (rows_in b.fed.found.log) object b.grade))
    b.tally b.gave.rows b.gave.grades
    (moving page ahead fetched (turned.Graded object) list c0 c1 c2 k0 k1 k2 m later b)
meter_more page ahead fetched (turned.Missed object) list c0 c1 c2 k0 k1 k2 some m feeds later b =
    settled_turn page ahead fetched c0 c1 c2 k0 k1 k2 some m feeds later
    (settles_by (event.Miss object) object (λ s. Missed) k1 k2 (λ s. refl) b.fed)
    (given_settled fetched.rows object (event.Miss object) Missed k1 k2 feeds b.fed refl b.fed.may (λ fault e. absurd (let bad : Missed ≡ Bad fault = e in cc)))
    b.tally b.gave.rows b.gave.grades
    (moving page ahead fetched (turned.Missed object) list c0 c1 c2 k0 k1 k2 m later b)
meter_more page ahead fetched (turned.Troubled (trouble.Fail kind.Failed)) list c0 c1 c2 k0 k1 k2 some m feeds later b =
    still page ahead fetched c0 c1 c2 k0 k1 k2 some m feeds b.seen b.gave.rows b.gave.grades
    (subst (λ (t : Tally). RoseBy (t.failed - k0.tally.failed) c0.faults c2.faults) (sym b.tally) (one_failed c0.faults c1.faults c2.faults k0.tally.failed k1.tally.failed m.metered.failed b.cause))
    (same_garbled k0 k1 k2 c0.garbles c1.garbles c2.garbles (ap (λ (t : Tally). t.garbled) b.tally) m.metered.garbled later.garbles)
    (moving page ahead fetched (turned.Troubled (trouble.Fail kind.Failed)) list c0 c1 c2 k0 k1 k2 m later b)
meter_more page ahead fetched (turned.Troubled (trouble.Fail kind.Garbled)) list c0 c1 c2 k0 k1 k2 some m feeds later b =
    still page ahead fetched c0 c1 c2 k0 k1 k2 some m feeds b.seen b.gave.rows b.gave.grades
    (same_failed k0 k1 k2 c0.faults c1.faults c2.faults (ap (λ (t : Tally). t.failed) b.tally) m.metered.failed later.faults)
    (subst (λ (t : Tally). RoseBy (t.garbled - k0.tally.garbled) c0.garbles c2.garbles) (sym b.tally) (one_failed c0.garbles c1.garbles c2.garbles k0.tally.garbled k1.tally.garbled m.metered.garbled b.cause))
    (moving page ahead fetched (turned.Troubled (trouble.Fail kind.Garbled)) list c0 c1 c2 k0 k1 k2 m later b)
meter_more page ahead fetched (turned.Troubled (trouble.Fail kind.Memory)) list c0 c1 c2 k0 k1 k2 some m feeds later b =
    still page ahead fetched c0 c1 c2 k0 k1 k2 some m feeds b.seen b.gave.rows b.gave.grades
    (same_failed k0 k1 k2 c0.faults c1.faults c2.faults (ap (λ (t : Tally). t.failed) b.tally) m.metered.failed later.faults)
    (same_garbled k0 k1 k2 c0.garbles c1.garbles c2.garbles (ap (λ (t : Tally). t.garbled) b.tally) m.metered.garbled later.garbles)
    (moving page ahead fetched (turned.Troubled (trouble.Fail kind.Memory)) list c0 c1 c2 k0 k1 k2 m later b)
meter_more page ahead fetched (turned.Troubled (trouble.Moved had other)) list c0 c1 c2 k0 k1 k2 some m feeds later b =
    let s = moved_by b.object had other k1 k2 b.fed in
    let moves = moving page ahead fetched (turned.Troubled (trouble.Moved had other)) list c0 c1 c2 k0 k1 k2 m later b in
    record {
      metered = record {
        rows = went_same c0.rows_given fetched.rows c1.rows_given c2.rows_given m.metered.rows b.gave.rows;
        grades = went_same c0.grades_given fetched.grades c1.grades_given c2.grades_given m.metered.grades b.gave.grades;
        reach = max_on (length (rows_in k0.seen)) fetched.rows _ _ m.metered.reach (reach_on page ahead k1 k2 some feeds);
        kept = let a = m.metered.kept in let d = s.rows in omega (arith, a, d);
        comes = λ none. given_moved fetched.rows b.object had other k1 k2 feeds b.fed (m.metered.comes none);
        settled = let a = m.metered.settled in let d = s.settled in omega (arith, a, d);
        asked = asked_on fetched.grades k1.met k2.met m.metered.asked feeds.follows.met;
        failed = same_failed k0 k1 k2 c0.faults c1.faults c2.faults (ap (λ (t : Tally). t.failed) b.tally) m.metered.failed later.faults;
        garbled = same_garbled k0 k1 k2 c0.garbles c1.garbles c2.garbles (ap (λ (t : Tally). t.garbled) b.tally) m.metered.garbled later.garbles;
        moved = moves.moved;
      };
      since = moves.since;
      kept = record { rows = λ none. s.rows ∙ m.kept.rows (s.free none) };
    }
meter_more page ahead fetched turned.Idle list c0 c1 c2 k0 k1 k2 some m feeds later b =
    still page ahead fetched c0 c1 c2 k0 k1 k2 some m feeds b.seen (ap (λ (c : Counts). c.rows_given) b.gave) (ap (λ (c : Counts). c.grades_given) b.gave)
    (same_failed k0 k1 k2 c0.faults c1.faults c2.faults (ap (λ (t : Tally). t.failed) b.tally) m.metered.failed later.faults)
    (same_garbled k0 k1 k2 c0.garbles c1.garbles c2.garbles (ap (λ (t : Tally). t.garbled) b.tally) m.metered.garbled later.garbles)
    (moving page ahead fetched turned.Idle list c0 c1 c2 k0 k1 k2 m later b)

-- the counts stay small
grade_fits : (page ahead : ℕ) (fetched : Fetched) (c0 c1 : Counts) (k0 k1 k2 : Known LogEntry) → Meters page ahead fetched c0 c1 k0 k1 → Settles k1 k2
    → fetched.grades + 1 < 2 ^ 32
grade_fits page ahead fetched c0 c1 k0 k1 k2 m s = let a = m.metered.settled in let b = s.settled in let d = s.few in omega (arith, a, b, d)

pub counts_fit : (page ahead : ℕ) (fetched : Fetched) (answer : Turned) (list : Option (List Row)) (c0 c1 c2 : Counts) (k0 k1 k2 : Known LogEntry)
    → Meters page ahead fetched c0 c1 k0 k1 → Feeds k1 k2
    → Brings page ahead list c1 c2 k1 k2 answer → HasCountOf fetched answer
counts_fit page ahead fetched (turned.Paged rows) list c0 c1 c2 k0 k1 k2 m feeds b =
    let all : length (rows_in k1.seen) ≡ length (rows_in k0.seen) + fetched.rows = m.kept.rows b.no_fault in
    let reach = b.reach in
    let within = reach_within page ahead k2.name.1 k2.sight.mark in
    let name : k2.name.1 ≡ b.fed.found.count = ap (λ (p : ℕ × ℕ). p.1) (feeds.name ∙ sym b.fed.is.name) in
    let small = b.fed.is.sound.small in
    fits (length (rows_in k1.seen)) (length (rows_in k0.seen)) fetched.rows rows _ _ _ all reach within name small
  where
    fits : (kept start rows more far count n : ℕ) → kept ≡ start + rows → kept + more ≤ far → far ≤ count → count ≡ n → n ≤ 200000 → rows + more < 2 ^ 32
    fits kept start rows more far count n a b c d e = omega arith
counts_fit page ahead fetched (turned.Graded object) list c0 c1 c2 k0 k1 k2 m feeds b =
    grade_fits page ahead fetched c0 c1 k0 k1 k2 m (settles_by (event.Grade object b.grade) object (λ s. settle (rows_in s.log) object b.grade) k1 k2 (λ s. refl) b.fed)
counts_fit page ahead fetched (turned.Missed object) list c0 c1 c2 k0 k1 k2 m feeds b =
    grade_fits page ahead fetched c0 c1 k0 k1 k2 m (settles_by (event.Miss object) object (λ s. Missed) k1 k2 (λ s. refl) b.fed)
counts_fit page ahead fetched (turned.Troubled (trouble.Fail what)) list c0 c1 c2 k0 k1 k2 m feeds b = tt
counts_fit page ahead fetched (turned.Troubled (trouble.Moved had other)) list c0 c1 c2 k0 k1 k2 m feeds b = tt
counts_fit page ahead fetched turned.Idle list c0 c1 c2 k0 k1 k2 m feeds b = tt

-- before any turn
pub meter_none : (page ahead : ℕ) (counts : Counts) (known : Known LogEntry) → Meters page ahead nothing counts counts known known
meter_none page ahead counts known = record {
  metered = record {
    rows = refl;
    grades = refl;
    reach = least (length (rows_in known.seen)) (reach_of known.sight.mark page ahead known.name.1);
    kept = omega arith;
    comes = λ none. record { given = []; many = refl; comes = subst (ComesOf known.name.1 []) (sym none) (comes_none known.name.1) };
    settled = omega arith;
    asked = omega arith;
    failed = none_rose counts.faults known.tally.failed;
    garbled = none_rose counts.garbles known.tally.garbled;
    moved = moves_none (λ had other. Rose counts.moves counts.moves) known.seen;
  };
  kept = record { rows = λ none. omega arith };
  since = le_refl counts.moves;
}
  where
    least : (start far : ℕ) → start + 0 ≤ max start far
    least start far = omega arith

    none_rose : (n first : ℕ) → raised n (first - first) ≤ n
    none_rose n first = omega arith

pub feeds_same : (known : Known LogEntry) → Feeds known known
feeds_same known = record { follows = record { seen = begins_same known.seen; met = begins_same known.met; tally = at_most_same known.tally }; name = refl; parts = refl; high = refl; asked = refl; mine = refl; sight = le_refl known.sight.mark }

pub feeds_on : (k0 k1 k2 : Known LogEntry) → Feeds k0 k1 → Feeds k1 k2 → Feeds k0 k2
feeds_on k0 k1 k2 a b = record {
  follows = record { seen = begins_on a.follows.seen b.follows.seen; met = begins_on a.follows.met b.follows.met; tally = at_most_on a.follows.tally b.follows.tally };
  name = b.name ∙ a.name;
  parts = b.parts ∙ a.parts;
  high = b.high ∙ a.high;
  asked = b.asked ∙ a.asked;
  mine = b.mine ∙ a.mine;
  sight = le_trans a.sight b.sight;
}
