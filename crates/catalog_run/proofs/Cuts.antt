-- What was read by a run that ran out of memory.
use Rattle.std.proofs.Common.{◌≡◌, ◌≤◌, ◌<◌, ℕ, List, [], ◌∷◌, All, Option, None, Some, length, map, reverse, IfSome, Result, Ok, Err, OnErr, refl, sym, ap, ◌∙◌, subst, arith}
use Rattle.std.specs.List.{AllZip}
use Rattle.std.proofs.lemmas.List.{length-map, take_all}
use Rattle.std.proofs.lemmas.List.Elements.{All-nil}
use Rattle.ranked_list.specs.declared.row.Row.{Row}
use Rattle.source_api.specs.declared.counts.Counts.{Counts}
use Rattle.source_api.specs.Counting.{NoneFell, no_counts}
use Rattle.source_api.specs.Calls.{Call}
use Rattle.source_api.specs.Told.{HasEachOnce}
use Rattle.query_core.specs.declared.ready.Ready.{Ready as ReadyQuery}
use Rattle.query_admission.specs.View.{View}
use Rattle.query_admission.specs.declared.line_outcome.LineOutcome.{LineOutcome}
use Rattle.query_run.specs.declared.running_query.RunningQuery.{RunningQuery}
use Rattle.query_run.specs.Made.{IsOf}
use Rattle.fetcher.specs.declared.slot.Slot.{Slot}
use Rattle.topk_base.specs.declared.settings.Settings.{Settings}
use Rattle.batch_result.specs.Batches.{BatchRun, BatchState, IsBatch}
use Rattle.batch_result.specs.Cut.{IsOfBegun, IsReadBy, IsCut, begun as begun_of}
use Rattle.batch_run.proofs.RunLaws.{counts_same}
use Rattle.batch_run.proofs.UncalledLaws.{cut_uncalled}
use Rattle.catalog_text.specs.Catalog.{Listed as Entry}
use Rattle.catalog_open.specs.declared.opened.Opening.{Opening}
use Rattle.catalog_open.specs.Admissions.{AreAdmitted}
use Rattle.catalog_open.specs.Views.{view_over, nothing_told}
use Rattle.catalog_open.specs.Wanted.{IsWanted}
use Rattle.catalog_open.specs.Slots.{of_slot, sources_in}
use Rattle.catalog_open.specs.Openings.{Counted, Sources, IsUnread, GivesNothing, AreOpened, PutsBack, no_sources, put_back}
use Rattle.catalog_open.proofs.Opens.{opened_none}
use Rattle.catalog_open.proofs.Unread.{none_unread, still}
use Rattle.catalog_run.specs.OpenSources.{batch_over}
use Rattle.catalog_run.specs.Runs.{AsksWantedOnce}
use Rattle.catalog_run.specs.Cut.{CutOver, RanOutOfMemory}

-- ---- a batch that came to its end reads as one does that ran out of memory

all_began : (queries : List RunningQuery) → begun_of (map Some queries) ≡ queries
all_began [] = refl
all_began (q ∷ queries) = ap (λ (qs : List RunningQuery). q ∷ qs) (all_began queries)

all_of : (readies : List ReadyQuery) (queries : List RunningQuery) → AllZip IsOf readies queries → AllZip IsOfBegun readies (map Some queries)
all_of [] [] h = tt
all_of [] (q ∷ queries) h = absurd h
all_of (ready ∷ readies) [] h = absurd h
all_of (ready ∷ readies) (q ∷ queries) h = (h.0, all_of readies queries h.1)

pub cut_whole : (run : BatchRun) (batch : BatchState) → IsBatch run batch → IsCut run
cut_whole run batch ran =
    let read : IsReadBy run ran.queries ran.states batch.uses = record { many = ran.many; closing = ran.closing; served = ran.served; used = ran.used; called = ran.called } in
    record {
      stood = map Some ran.queries;
      states = ran.states;
      uses = batch.uses;
      of = all_of run.readies ran.queries ran.of;
      read = subst (λ (qs : List RunningQuery). IsReadBy run qs ran.states batch.uses) (sym (all_began ran.queries)) read;
    }

-- ---- over the lines

-- all lines were admitted
pub cut_over : (settings : Settings) (s : Sources) (before now : List Counts) (made calls : List (Option (List Call))) (view : View) (lines : List (List ℕ)) (outcomes : List (Option LineOutcome))
    (readies : List ReadyQuery) → length before ≡ length s.told → AllZip NoneFell before now → AreAdmitted view 1 lines outcomes readies
    → IsCut (batch_over settings s before now made calls readies) → CutOver settings s before now made calls view lines
cut_over settings s before now made calls view lines outcomes readies many later are cut = record {
  many = many;
  later = later;
  admitted = length lines;
  outcomes = outcomes;
  readies = readies;
  are = subst (λ (ls : List (List ℕ)). AreAdmitted view 1 ls outcomes readies) (sym (take_all (length lines) lines (omega arith))) are;
  cut = cut;
}

-- sources of which nothing had been read were open when the lines began; lines were admitted only after this
abbrev pub StopsOver : Settings → Sources → List Counts → List (Option (List Call)) → View → List (List ℕ) → Type 0 → Type 0
StopsOver settings s now calls view lines First =
    (before : List Counts) × (made : List (Option (List Call))) × All IsUnread before × (cut : CutOver settings s before now made calls view lines) × (0 < cut.admitted → First)

module _ {S : Type 0} (list : S → Option (List Row)) (counts : S → Counts) (calls : S → Option (List Call)) (at_hand : S → ℕ) where
  -- no line was admitted, and nothing was read
  abbrev cut_unread : (settings : Settings) (slots : List (Slot S)) (places sizes : List ℕ) (view : View) (lines : List (List ℕ))
      → ((s : S) → IfSome (list s) HasEachOnce) → length sizes ≡ length slots → All (λ size. size ≤ 200000) sizes
      → CutOver settings (sources_in list at_hand slots places sizes) (map (of_slot counts) slots) (map (of_slot counts) slots) (map (of_slot calls) slots) (map (of_slot calls) slots) view lines
  cut_unread settings slots places sizes view lines once many small = record {
    many = length-map slots (of_slot counts) ∙ sym (length-map slots (of_slot list));
    later = counts_same list counts calls at_hand slots;
    admitted = 0;
    outcomes = [];
    readies = [];
    are = refl;
    cut = cut_uncalled list counts calls at_hand settings sizes [] slots once many small;
  }

  -- so memory ran out before the first was
  pub stops_unread : (settings : Settings) (slots : List (Slot S)) (places sizes : List ℕ) (view : View) (lines : List (List ℕ)) (First : Type 0)
      → ((s : S) → IfSome (list s) HasEachOnce) → length sizes ≡ length slots → All (λ size. size ≤ 200000) sizes → All IsUnread (map (of_slot counts) slots)
      → StopsOver settings (sources_in list at_hand slots places sizes) (map (of_slot counts) slots) (map (of_slot calls) slots) view lines First
  stops_unread settings slots places sizes view lines First once many small unread =
      (map (of_slot counts) slots, map (of_slot calls) slots, unread, cut_unread settings slots places sizes view lines once many small, λ some. let none : 0 < 0 = some in absurd (omega (arith, none)))

  pub reads_unread : (settings : Settings) (slots : List (Slot S)) (places sizes : List ℕ) (view : View) (lines : List (List ℕ))
      → ((s : S) → IfSome (list s) HasEachOnce) → length sizes ≡ length slots → All (λ size. size ≤ 200000) sizes
      → CutOver settings (sources_in list at_hand slots places sizes) (map (of_slot counts) slots) (map (of_slot counts) slots) (map (of_slot calls) slots) (map (of_slot calls) slots) view lines
  reads_unread = cut_unread

-- ---- the run

pub cut_run : (catalog : List Entry) (lines : List (List ℕ)) (lists : List ℕ → Option (List Row)) (versions : List ℕ → Option ℕ) (settings : Settings)
    (before mid after : Counted) (openings : List Opening) (s : Sources) (now : List Counts) (calls : List (Option (List Call)))
    → AreOpened lists versions catalog (IsWanted catalog lines) before mid openings s → ((place : List ℕ) → GivesNothing (before place) (mid place))
    → StopsOver settings s now calls (view_over catalog openings nothing_told) lines ((length openings ≡ length catalog) × AsksWantedOnce catalog lines before mid)
    → PutsBack (reverse (put_back catalog s.places now)) mid after
    → RanOutOfMemory (record { catalog = catalog; lines = lines; lists = lists; versions = versions; settings = settings; before = before; after = after })
cut_run catalog lines lists versions settings before mid after openings s now calls are idle stops back = record {
  openings = openings;
  sources = s;
  mid = mid;
  idle = idle;
  opened = are;
  begun = stops.0;
  unread = stops.2;
  now = now;
  made = stops.1;
  calls = calls;
  read = stops.3;
  first = stops.4;
  back = back;
}

-- a run that ran out of memory before a source was open
pub cut_closed : (catalog : List Entry) (lines : List (List ℕ)) (lists : List ℕ → Option (List Row)) (versions : List ℕ → Option ℕ) (settings : Settings)
    (before after : Counted) → AreOpened lists versions catalog (IsWanted catalog lines) before after [] no_sources → ((place : List ℕ) → GivesNothing (before place) (after place))
    → RanOutOfMemory (record { catalog = catalog; lines = lines; lists = lists; versions = versions; settings = settings; before = before; after = after })
cut_closed catalog lines lists versions settings before after closed idle =
    cut_run catalog lines lists versions settings before after after [] no_sources [] [] closed idle
    (stops_unread (λ (n : ℕ). None) (λ (n : ℕ). no_counts) (λ (n : ℕ). None) (λ (n : ℕ). 0) settings [] [] [] (view_over catalog [] nothing_told) lines _ (λ n. tt) refl
    (All-nil (λ size. size ≤ 200000)) none_unread)
    (record { texts = λ place. refl; takes = λ place. refl; taken = λ place. refl; returned = λ place. refl; sources = λ place. refl })

-- a run that ran out of memory before a source was taken
pub cut_before : (catalog : List Entry) (lines : List (List ℕ)) (lists : List ℕ → Option (List Row)) (versions : List ℕ → Option ℕ) (settings : Settings)
    (at : Counted)
    → RanOutOfMemory (record { catalog = catalog; lines = lines; lists = lists; versions = versions; settings = settings; before = at; after = at })
cut_before catalog lines lists versions settings at =
    cut_closed catalog lines lists versions settings at at (opened_none lists versions catalog (IsWanted catalog lines) at) (λ place. still (at place))

-- where memory was refused
pub if_short : {A E P : Type 0} (r : Result A E) → P → OnErr r P
if_short (Ok x) p = tt
if_short (Err e) p = p
