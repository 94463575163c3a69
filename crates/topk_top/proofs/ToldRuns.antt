-- Runs for which all is told.
use Rattle.std.proofs.Common.{◌≡◌, ◌≢◌, ℕ, Bool, true, false, List, inl, inr, refl, sym, ap, subst}
use Rattle.std.specs.Prelude.{◌⊎◌}
use Rattle.std.specs.Str.{bytes_eq}
use Rattle.std.proofs.lemmas.Slice.Eq.{bytes_eq-Decides}
use Rattle.tk_io.specs.Faults.{Rose}
use Rattle.source_api.specs.declared.ledger.PlaceCounts.{PlaceCounts}
use Rattle.source_api.specs.Places.{CountsTexts}
use Rattle.topk_base.specs.Lines.{lines}
use Rattle.csv_records.specs.Records.{records_of}
use Rattle.catalog_text.specs.Catalog.{Listed as Entry, IsCatalog}
use Rattle.catalog_text.proofs.OneCatalog.{one_catalog}
use Rattle.catalog_open.specs.Openings.{TroubleAt}
use Rattle.catalog_open.specs.Entries.{entry_at}
use Rattle.command_line.specs.declared.running.RunOptions.{RunOptions}
use Rattle.topk_base.specs.declared.settings.Settings.{Settings}
use Rattle.topk_top.specs.ToldTables.{AllBecome, ShelfTellsTables, view_told}
use Rattle.query_admission.specs.declared.line_outcome.LineOutcome.{LineOutcome}
use Rattle.catalog_run.specs.Runs.{CatalogRun, IsRun}
use Rattle.command_line.specs.Calls.{Call, WroteWhole}
use Rattle.command_line.specs.Shelves.{Shelf, AsksText, GivesText}
use Rattle.catalog_run.specs.Running.{lines_run}
use Rattle.catalog_run.specs.RunEnds.{EndsRunning, LinesReplied, from_shelf}
use Rattle.topk_top.specs.RunLaws.{TellsAll, ComeTo, WritesTheOne, ToldRunsWriteTheOne, TellTheSame, WroteTheSame, SettingsChangeNothing}
use Rattle.command_line.specs.declared.status.Status.{Status}
use Rattle.command_line.specs.declared.status.Status.TheVariants.{Done, Partial, BadWords, BadCatalog, ReadFault, WriteFault, OpenFault, PortFault, Memory, LongInput, BadInput}
use Rattle.topk_top.proofs.OneText.{come_to_one}
use Rattle.topk_top.proofs.ToldText.{gives_told, refuses_none, gave_told, gave_no_more}

-- trouble since a text was asked for is trouble from before that on
trouble_since : (before mid now : PlaceCounts) → CountsTexts before mid → TroubleAt mid now → TroubleAt before now
trouble_since before mid now texts (inl takes) = inl (subst (λ n. Rose n now.take_faults) (ap (λ p. p.take_faults) texts.others) takes)
trouble_since before mid now texts (inr (inl faults)) = inr (inl (subst (λ n. Rose n now.sources.faults) (ap (λ p. p.sources.faults) texts.others) faults))
trouble_since before mid now texts (inr (inr garbles)) = inr (inr (subst (λ n. Rose n now.sources.garbles) (ap (λ p. p.sources.garbles) texts.others) garbles))

trouble_at : (catalog : List ℕ) (before mid : Shelf) (now : PlaceCounts) (place : List ℕ) → AsksText catalog before mid → TroubleAt (mid.at place) now
    → TroubleAt (before.at place) now
trouble_at catalog before mid now place asked trouble = go (bytes_eq place catalog) (bytes_eq-Decides place catalog)
  where
    go : (b : Bool) → ((b ≡ true → place ≡ catalog) × (place ≡ catalog → b ≡ true)) → TroubleAt (before.at place) now
    go true decides =
        let same : place ≡ catalog = decides.0 refl in
        subst (λ p. TroubleAt (before.at p) now) (sym same) (trouble_since (before.at catalog) (mid.at catalog) now asked.here (subst (λ p. TroubleAt (mid.at p) now) same trouble))
    go false decides =
        let other : place ≢ catalog = λ e. let t : false ≡ true = decides.1 e in absurd cc in
        subst (λ counts. TroubleAt counts now) (asked.elsewhere place other) trouble

-- and so is a replaced list
moved_at : (catalog : List ℕ) (before mid : Shelf) (now : PlaceCounts) (place : List ℕ) → AsksText catalog before mid
    → Rose (mid.at place).sources.moves now.sources.moves → Rose (before.at place).sources.moves now.sources.moves
moved_at catalog before mid now place asked rose = go (bytes_eq place catalog) (bytes_eq-Decides place catalog)
  where
    go : (b : Bool) → ((b ≡ true → place ≡ catalog) × (place ≡ catalog → b ≡ true)) → Rose (before.at place).sources.moves now.sources.moves
    go true decides =
        let same : place ≡ catalog = decides.0 refl in
        subst (λ p. Rose (before.at p).sources.moves now.sources.moves) (sym same)
        (subst (λ n. Rose n now.sources.moves) (ap (λ p. p.sources.moves) asked.here.others)
        (subst (λ p. Rose (mid.at p).sources.moves now.sources.moves) same rose))
    go false decides =
        let other : place ≢ catalog = λ e. let t : false ≡ true = decides.1 e in absurd cc in
        subst (λ counts. Rose counts.sources.moves now.sources.moves) (asked.elsewhere place other) rose

-- the tables that are told before the catalog's text was asked for are told after that
tells_since : (s : Settings) (catalog : List Entry) (ls : List (List ℕ)) (place : List ℕ) (before given after : Shelf) → AsksText place before given
    → ShelfTellsTables (lines_run s catalog ls before after) → ShelfTellsTables (lines_run s catalog ls given after)
tells_since s catalog ls place before given after asked tells =
    let lists : before.lists ≡ given.lists = sym (λ i at. asked.tells.lists at i) in
    let versions : before.versions ≡ given.versions = sym (λ i at. asked.tells.versions at i) in
    let moved : ShelfTellsTables (lines_run s catalog ls (record before { lists = given.lists; versions = given.versions }) after) =
    subst (λ v. ShelfTellsTables (lines_run s catalog ls (record before { lists = given.lists; versions = v }) after)) versions
    (subst (λ l. ShelfTellsTables (lines_run s catalog ls (record before { lists = l }) after)) lists tells) in
    record {
      told = moved.told;
      versions = moved.versions;
      tables = moved.tables;
      untroubled = λ entry wanted trouble. moved.untroubled entry wanted (trouble_at place before given (after.at (entry_at catalog entry).place) (entry_at catalog entry).place asked trouble);
      unmoved = λ entry wanted rose. moved.unmoved entry wanted (moved_at place before given (after.at (entry_at catalog entry).place) (entry_at catalog entry).place asked rose);
    }

-- what lines come to where all is told
abbrev pub ComeToOne : Type 0
ComeToOne = (r : CatalogRun) (outcomes : List LineOutcome) → IsRun r outcomes → ShelfTellsTables r → AllBecome (view_told r.catalog r.lists r.versions) 1 r.lines outcomes

-- the reply to lines where all is told
replied : ComeToOne → (o : RunOptions) (c : Call) (status : Status) (catalog : List Entry) (bytes text : List ℕ) (given : Shelf) (said : List ℕ)
    → TellsAll o c catalog bytes → GivesText o.catalog c.before.shelf given text → LinesReplied o.settings text (from_shelf given c) status said
    → WroteWhole c said → WritesTheOne c catalog bytes status
replied one o c status catalog bytes text given said all gives r wrote =
    let same_text : text ≡ all.text = gives_told o.catalog text all.text c.before.shelf given all.tells gives in
    let same_catalog : r.replies.catalog ≡ catalog =
    one_catalog (records_of all.text) r.replies.catalog catalog (subst (λ t. IsCatalog (records_of t) r.replies.catalog) same_text r.replies.is) all.is in
    let same_bytes : r.bytes ≡ bytes = gave_told _ bytes r.bytes c.before.input.left c.after.input.left all.input r.read.given in
    let tables : ShelfTellsTables (lines_run o.settings r.replies.catalog (lines r.bytes) given c.after.shelf) =
    subst (λ k. ShelfTellsTables (lines_run o.settings k (lines r.bytes) given c.after.shelf)) (sym same_catalog)
    (subst (λ b. ShelfTellsTables (lines_run o.settings catalog (lines b) given c.after.shelf)) (sym same_bytes)
    (tells_since o.settings catalog (lines bytes) o.catalog c.before.shelf given c.after.shelf gives.asked all.tables)) in
    let become : AllBecome (view_told r.replies.catalog given.lists given.versions) 1 (lines r.bytes) r.replies.outcomes =
    one (lines_run o.settings r.replies.catalog (lines r.bytes) given c.after.shelf) r.replies.outcomes r.replies.run tables in
    let lists : given.lists ≡ c.before.shelf.lists = λ i at. gives.asked.tells.lists at i in
    let versions : given.versions ≡ c.before.shelf.versions = λ i at. gives.asked.tells.versions at i in
    let comes : ComeTo catalog c.before.shelf.lists c.before.shelf.versions (lines bytes) status said = record {
      outcomes = r.replies.outcomes;
      become =
          subst (λ l. AllBecome (view_told catalog l c.before.shelf.versions) 1 (lines bytes) r.replies.outcomes) lists
          (subst (λ v. AllBecome (view_told catalog given.lists v) 1 (lines bytes) r.replies.outcomes) versions
          (subst (λ k. AllBecome (view_told k given.lists given.versions) 1 (lines bytes) r.replies.outcomes) same_catalog
          (subst (λ b. AllBecome (view_told r.replies.catalog given.lists given.versions) 1 (lines b) r.replies.outcomes) same_bytes become)));
      status_is = r.replies.status_is;
      text_is = r.replies.said_is;
    } in
    record {
      text = said;
      wrote = wrote;
      comes = comes;
      only = λ other text them. come_to_one (lines_run o.settings catalog (lines bytes) c.before.shelf c.after.shelf) all.tables status other said text comes them;
    }

told_run : ComeToOne → (o : RunOptions) (c : Call) (status : Status) (catalog : List Entry) (bytes : List ℕ) → TellsAll o c catalog bytes
    → EndsRunning o c status
    → (status ≡ Memory) ⊎ WritesTheOne c catalog bytes status
told_run one o c Done catalog bytes all (text, given, gives, (said, r, wrote)) = inr (replied one o c Done catalog bytes text given said all gives r (record { held = wrote.held; faults = wrote.faults }))
told_run one o c Partial catalog bytes all (text, given, gives, (said, r, wrote)) = inr (replied one o c Partial catalog bytes text given said all gives r (record { held = wrote.held; faults = wrote.faults }))
told_run one o c BadCatalog catalog bytes all (text, given, gives, (said, refused, wrote)) =
    absurd (refuses_none text said catalog refused.refuses
    (subst (λ t. IsCatalog (records_of t) catalog) (sym (gives_told o.catalog text all.text c.before.shelf given all.tells gives)) all.is))
told_run one o c WriteFault catalog bytes all (text, given, gives, (said, cause, wrote)) = absurd (all.writes wrote.faults)
told_run one o c ReadFault catalog bytes all (text, given, gives, (stands, failed, nothing)) = absurd (all.reads failed.faults)
told_run one o c LongInput catalog bytes all (text, given, gives, (stands, long, nothing)) =
    absurd (gave_no_more _ bytes c.before.input.left c.after.input.left all.input all.short long.given)
told_run one o c OpenFault catalog bytes all h = absurd (all.opens h.0.rose)
told_run one o c Memory catalog bytes all h = inl refl
told_run one o c BadWords catalog bytes all h = absurd h
told_run one o c PortFault catalog bytes all h = absurd h
told_run one o c BadInput catalog bytes all h = absurd h

pub told_runs : ComeToOne → ToldRunsWriteTheOne
told_runs one o c status catalog bytes all ends = told_run one o c status catalog bytes all ends

-- two runs over the same lists
wrote_same : (o p : RunOptions) (c d : Call) (status other : Status) (catalog : List Entry) (bytes : List ℕ) → TellTheSame o p c d catalog bytes
    → WritesTheOne c catalog bytes status → WritesTheOne d catalog bytes other → WroteTheSame c d status other
wrote_same o p c d status other catalog bytes tell one two =
    let lists : d.before.shelf.lists ≡ c.before.shelf.lists = λ i at. tell.lists at i in
    let versions : d.before.shelf.versions ≡ c.before.shelf.versions = λ i at. tell.versions at i in
    let same = one.only other two.text (subst (λ v. ComeTo catalog c.before.shelf.lists v (lines bytes) other two.text) versions
    (subst (λ l. ComeTo catalog l d.before.shelf.versions (lines bytes) other two.text) lists two.comes)) in
    record { text = one.text; one = one.wrote; two = subst (WroteWhole d) same.1 two.wrote; status_is = sym same.0 }

pub settings_nothing : ToldRunsWriteTheOne → SettingsChangeNothing
settings_nothing told o p c d status other catalog bytes tell ends ended = elim (told o c status catalog bytes tell.one ends) [
  | inl memory ↦ inl memory
  | inr one ↦ elim (told p d other catalog bytes tell.other ended) [
    | inl memory ↦ inr (inl memory)
    | inr two ↦ inr (inr (wrote_same o p c d status other catalog bytes tell one two))
  ]
]
