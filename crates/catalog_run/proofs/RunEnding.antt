-- How a run of query lines ends, by what was done.
use Rattle.std.proofs.Common.{◌≡◌, ◌≤◌, ℕ, [], List, length, IfSome, codes, Err, inl, inr, refl, sym, subst, arith}
use Rattle.tk_io.specs.Faults.{Rose}
use Rattle.tk_io.specs.Whole.{StopsReading}
use Rattle.tk_io.specs.declared.whole.ReadError.{ReadError}
use Rattle.tk_io.specs.declared.whole.ReadError.TheVariants as read
use Rattle.source_api.specs.declared.source.Trouble.{Trouble}
use Rattle.source_api.specs.declared.source.Trouble.TheVariants.{Fail, Moved}
use Rattle.source_api.specs.declared.source.FailKind.TheVariants.{Failed}
use Rattle.source_api.specs.declared.source.FailKind.TheVariants as fails
use Rattle.source_api.specs.Places.{CountsTexts, HasTextCause, SameAtEach, SameElsewhere, text_limit}
use Rattle.catalog_text.specs.Catalog.{Listed as Entry}
use Rattle.catalog_open.specs.Openings.{KeepsOthers, Moves, Used}
use Rattle.catalog_open.specs.Wanted.{IsWanted}
use Rattle.catalog_open.proofs.Moving.{moves_none}
use Rattle.catalog_run.specs.Runs.{AsksWantedAtMostOnce}
use Rattle.catalog_run.proofs.Whole.{few_still}
use Rattle.query_admission.specs.declared.line_outcome.LineOutcome.{LineOutcome}
use Rattle.command_line.specs.declared.running.RunOptions.{RunOptions}
use Rattle.topk_base.specs.declared.settings.Settings.{Settings}
use Rattle.command_line.specs.Calls.{Call, KeepsShelf, LeftAlone, WroteNothing, WroteWhole, input_limit}
use Rattle.command_line.specs.Shelves.{Shelf, AsksText, GivesText, TextFailed, TextRefused}
use Rattle.catalog_run.specs.Taking.{TakesSources}
use Rattle.catalog_run.specs.Running.{catalog_refused_text, run_status}
use Rattle.csv_records.specs.Records.{records_of}
use Rattle.catalog_text.specs.Judging.{Judges}
use Rattle.catalog_text.specs.declared.catalog.CatalogFault.{CatalogFault}
use Rattle.catalog_text.specs.declared.catalog.CatalogFault.TheVariants.{CatalogLine, SameName, Memory as NoMemory}
use Rattle.catalog_run.specs.RunEnds.{CatalogRefused, CatalogStands, LinesLeft, LinesReplied, RunsOverCatalog, RunsOn, EndsRunning, from_shelf}
use Rattle.command_line.specs.Ends.{Says}
use Rattle.catalog_run.specs.Faults.{SaysFault, read_status, text_status}
use Rattle.command_line.specs.declared.status.Status.{Status}
use Rattle.command_line.specs.declared.status.Status.TheVariants.{Done, Partial, BadWords, BadCatalog, ReadFault, WriteFault, OpenFault, PortFault, Memory, LongInput, BadInput}
use Rattle.catalog_run.proofs.LineTexts.{is_run_status}

-- a shelf of which nothing was asked
asks_none : (place : List ℕ) (s : Shelf) → AsksText place s s
asks_none place s = record {
  tells = record { texts = λ other. refl; lists = λ other. refl; versions = λ other. refl };
  here = record { later = omega arith; others = refl };
  elsewhere = λ other differs. refl;
}

pub refused_kept : (place : List ℕ) (before now : Shelf) → now ≡ before → TextRefused place before now
refused_kept place before now same = subst (TextRefused place before) (sym same) (record { asked = asks_none place before; same = refl })

-- a shelf that was asked for the text of a place, which is this one
pub asks_text : (place named : List ℕ) (before now : Shelf) → named ≡ place → SameAtEach before.texts now.texts → SameAtEach before.lists now.lists
    → SameAtEach before.versions now.versions → SameElsewhere named before.at now.at → CountsTexts (before.at named) (now.at named) → AsksText place before now
asks_text place named before now is texts lists versions elsewhere here =
    subst (λ p. AsksText p before now) is (record { tells = record { texts = texts; lists = lists; versions = versions }; here = here; elsewhere = elsewhere })

-- it gave this text
pub gives_text : (place named : List ℕ) (before now : Shelf) (text : List ℕ) → named ≡ place → AsksText place before now
    → IfSome (before.texts named) (λ told. text ≡ told) → length text ≤ text_limit → GivesText place before now text
gives_text place named before now text is asked told within = record {
  asked = asked;
  told = subst (λ p. IfSome (before.texts p) (λ t. text ≡ t)) is told;
  within = within;
}

-- it failed to give one
pub text_failed : (place named : List ℕ) (before now : Shelf) (trouble : Trouble) → trouble ≡ Fail Failed → named ≡ place → AsksText place before now
    → HasTextCause (before.at named) (now.at named) trouble → TextFailed place before now
text_failed place named before now trouble failed is asked cause = record {
  asked = asked;
  rose =
      subst (λ p. Rose (before.at p).text_faults (now.at p).text_faults) is
      (subst (λ t. HasTextCause (before.at named) (now.at named) t) failed cause);
}

-- it gave none for lack of memory
pub text_refused : (place named : List ℕ) (before now : Shelf) (trouble : Trouble) → trouble ≡ Fail fails.Memory → named ≡ place → AsksText place before now
    → HasTextCause (before.at named) (now.at named) trouble → TextRefused place before now
text_refused place named before now trouble wants is asked cause = record {
  asked = asked;
  same = subst (λ p. now.at p ≡ before.at p) is (subst (λ t. HasTextCause (before.at named) (now.at named) t) wants cause);
}

-- both at once
pub text_given : (place named : List ℕ) (before now : Shelf) (text : List ℕ) → named ≡ place → SameAtEach before.texts now.texts → SameAtEach before.lists now.lists
    → SameAtEach before.versions now.versions → SameElsewhere named before.at now.at → CountsTexts (before.at named) (now.at named)
    → IfSome (before.texts named) (λ told. text ≡ told) → length text ≤ text_limit → GivesText place before now text
text_given place named before now text is texts lists versions elsewhere here told within =
    gives_text place named before now text is (asks_text place named before now is texts lists versions elsewhere here) told within

-- a run ends so whose catalog's text the shelf failed to give
pub ends_untold : (o : RunOptions) (c : Call) (trouble : Trouble) → AsksText o.catalog c.before.shelf c.after.shelf
    → HasTextCause (c.before.shelf.at o.catalog) (c.after.shelf.at o.catalog) trouble → LeftAlone c → WroteNothing c → EndsRunning o c (text_status trouble)
ends_untold o c (Fail fails.Failed) asked cause alone nothing = (record { asked = asked; rose = cause }, alone, nothing)
ends_untold o c (Fail fails.Memory) asked cause alone nothing = inl (record { asked = asked; same = cause }, alone, nothing)
ends_untold o c (Fail fails.Garbled) asked cause alone nothing = absurd cause
ends_untold o c (Moved had now) asked cause alone nothing = absurd cause

-- sources were taken of a shelf for these lines, in other words
pub takes_lines : (catalog : List Entry) (given wanted : List (List ℕ)) (before now : Shelf) → given ≡ wanted → SameAtEach before.texts now.texts
    → SameAtEach before.lists now.lists → SameAtEach before.versions now.versions → ((used : List Used) × Moves used before.at now.at)
    → AsksWantedAtMostOnce catalog given before.at now.at → KeepsOthers catalog (IsWanted catalog given) before.at now.at
    → TakesSources catalog wanted before now
takes_lines catalog given wanted before now same texts lists versions moves few others =
    subst (λ ls. TakesSources catalog ls before now) same
    (record { tells = record { texts = texts; lists = lists; versions = versions }; used = moves.0; moves = moves.1; few = few; others = others })

-- no source was taken of a shelf
pub takes_none : (catalog : List Entry) (lines : List (List ℕ)) (s : Shelf) → TakesSources catalog lines s s
takes_none catalog lines s = record {
  tells = record { texts = λ other. refl; lists = λ other. refl; versions = λ other. refl };
  used = [];
  moves = moves_none s.at;
  few = few_still catalog lines s.at s.at (λ place. refl);
  others = λ place none. refl;
}

-- what is said of a text that is no catalog ends so
pub ends_no_catalog : (s : Settings) (text said : List ℕ) (c : Call) (result : Status) → CatalogRefused text c said
    → Says c.before.output c.after.output said BadCatalog result → RunsOverCatalog s text c result
ends_no_catalog s text said c result refused says = elim says [
  | inl whole ↦ subst (RunsOverCatalog s text c) (sym whole.0) (said, refused, record { held = whole.1; faults = whole.2 })
  | inr front ↦ subst (RunsOverCatalog s text c) (sym front.0) (said, inl refused, record { held = front.1; faults = front.2 })
]

-- a text that should be a catalog ends so for its fault
pub ends_at_fault : (s : Settings) (text : List ℕ) (c : Call) (fault : CatalogFault) (result : Status) → Judges (records_of text) (Err fault) → KeepsShelf c
    → LeftAlone c → SaysFault c.before.output c.after.output fault result → RunsOverCatalog s text c result
ends_at_fault s text c (CatalogLine line) result judged kept alone says =
    ends_no_catalog s text (catalog_refused_text (codes "CatalogLine") line) c result
    (record { refuses = inl (record { number = line; first = judged; said_is = refl }); shelf = kept; alone = alone }) says
ends_at_fault s text c (SameName line) result judged kept alone says =
    ends_no_catalog s text (catalog_refused_text (codes "SameName") line) c result
    (record { refuses = inr (record { number = line; first = judged; said_is = refl }); shelf = kept; alone = alone }) says
ends_at_fault s text c NoMemory result judged kept alone says =
    subst (RunsOverCatalog s text c) (sym says.0) (inl (kept, alone), record { held = says.1; faults = says.2 })

-- a run ends so whose input wasn't read to its end
pub ends_unread : (s : Settings) (text : List ℕ) (c : Call) (error : ReadError) → CatalogStands text c
    → StopsReading input_limit c.before.input.left c.after.input.left c.before.input.faults c.after.input.faults error → WroteNothing c
    → RunsOverCatalog s text c (read_status error)
ends_unread s text c read.Failed stands stops nothing = (stands, record { given = stops.0; faults = stops.1 }, nothing)
ends_unread s text c read.Long stands stops nothing = (stands, record { given = stops.0; faults = stops.1 }, nothing)
ends_unread s text c read.Memory stands stops nothing = (inr (inl (stands, record { given = stops.0; faults = stops.1 })), nothing)

-- a run ends so whose lines were run, or should have been, when memory ran out
pub ends_left : (s : Settings) (text : List ℕ) (c : Call) → LinesLeft s text c → WroteNothing c → RunsOverCatalog s text c Memory
ends_left s text c left nothing = (inr (inr left), nothing)

-- a reply to lines that was written whole ends with its status
ends_whole : (s : Settings) (text said : List ℕ) (c : Call) (outcomes : List LineOutcome) → LinesReplied s text c (run_status outcomes) said
    → WroteWhole c said → RunsOverCatalog s text c (run_status outcomes)
ends_whole s text said c outcomes replied wrote = elim (is_run_status outcomes) [
  | inl done ↦ subst (RunsOverCatalog s text c) (sym done) (said, subst (λ status. LinesReplied s text c status said) done replied, wrote)
  | inr partial ↦ subst (RunsOverCatalog s text c) (sym partial) (said, subst (λ status. LinesReplied s text c status said) partial replied, wrote)
]

-- what is said in reply to lines ends so
pub ends_lines : (s : Settings) (text said : List ℕ) (c : Call) (outcomes : List LineOutcome) (result : Status)
    → LinesReplied s text c (run_status outcomes) said
    → Says c.before.output c.after.output said (run_status outcomes) result → RunsOverCatalog s text c result
ends_lines s text said c outcomes result replied says = elim says [
  | inl whole ↦ subst (RunsOverCatalog s text c) (sym whole.0) (ends_whole s text said c outcomes replied (record { held = whole.1; faults = whole.2 }))
  | inr front ↦ subst (RunsOverCatalog s text c) (sym front.0) (said, inr (run_status outcomes, replied), record { held = front.1; faults = front.2 })
]

-- a run over the catalog's text ends as the run does
pub ends_run : (o : RunOptions) (c : Call) (status : Status) → RunsOn o c status → EndsRunning o c status
ends_run o c Done h = h
ends_run o c Partial h = h
ends_run o c BadCatalog h = h
ends_run o c ReadFault h = h
ends_run o c WriteFault h = h
ends_run o c LongInput h = h
ends_run o c Memory h = inr h
ends_run o c BadWords h = absurd h.3
ends_run o c OpenFault h = absurd h.3
ends_run o c PortFault h = absurd h.3
ends_run o c BadInput h = absurd h.3

-- once the shelf gave the catalog's text, the run ends as it does over this text
pub ends_on : (o : RunOptions) (c : Call) (given : Shelf) (text : List ℕ) (status : Status) → GivesText o.catalog c.before.shelf given text
    → RunsOverCatalog o.settings text (from_shelf given c) status → EndsRunning o c status
ends_on o c given text status gives ends = ends_run o c status (text, given, gives, ends)
