-- The lists that the sources of a run tell, and that they form the tables of the queries.
use Rattle.std.proofs.Common.{◌≡◌, ℕ, zero, suc, ◌+◌, ◌<◌, ◌≤◌, List, [], ◌∷◌, All, Contains, map, length, Option, None, Some, is_none, option_map, unwrap_or, slice_get, slice_index_or, refl, sym, ap, ◌∙◌, subst, arith}
use Rattle.std.specs.Prelude.{Ok, IfSome}
use Rattle.std.specs.Option.{option_and_then}
use Rattle.std.proofs.lemmas.List.Elements.{length_all_zip}
use Rattle.std.proofs.lemmas.Option.{same_Some}
use Rattle.tk_io.specs.Faults.{Rose}
use Rattle.ranked_list.specs.declared.row.Row.{Row}
use Rattle.ranked_list.specs.Table.{IsTable}
use Rattle.topk_theory.specs.Transcript.{list_at}
use Rattle.topk_theory.proofs.AgreementLists.{contains_here, contains_there, all_from_members, member_of_all}
use Rattle.source_api.specs.Counting.{NoneFell}
use Rattle.query_text.specs.declared.query.Query.{Query}
use Rattle.query_text.specs.Reading.{Reads}
use Rattle.query_core.specs.declared.ready.Ready.{Ready as ReadyQuery}
use Rattle.query_admission.specs.View.{count_of}
use Rattle.query_admission.specs.Causes.{most_queries, admission_causes, line_over}
use Rattle.query_admission.specs.Admission.{IsAdmitted}
use Rattle.query_admission.specs.declared.lists.ListInfo.{ListInfo}
use Rattle.query_run.specs.declared.running_query.RunningQuery.{RunningQuery}
use Rattle.query_run.specs.Made.{IsOf}
use Rattle.query_run.specs.Honest.{HasTable as HasQueryTable, IsOnItsRun}
use Rattle.query_run.proofs.Lists.{zip_member}
use Rattle.batch_result.specs.Batches.{BatchState, IsBatch, BatchRun}
use Rattle.batch_result.specs.Numbered.{counts_at}
use Rattle.batch_result.specs.Tables.{NoneMoved}
use Rattle.catalog_text.specs.Catalog.{Listed as Entry}
use Rattle.catalog_open.specs.declared.opened.Opening.{Opening}
use Rattle.catalog_open.specs.declared.opened.Opening.TheVariants.{Closed, Open}
use Rattle.catalog_open.specs.Views.{entry_named, said_of, listed_at, view_over, nothing_told}
use Rattle.catalog_open.specs.Entries.{entry_at, opening_at, entry_told}
use Rattle.catalog_open.specs.Wanted.{IsWanted}
use Rattle.catalog_open.specs.Openings.{Sources, IsOpening, IsSource, IsToldAs, IsNumbered}
use Rattle.catalog_open.proofs.Marking.{places_within}
use Rattle.catalog_open.proofs.Moving.{moved_from, moves_at, puts_at, trouble_on}
use Rattle.query_admission.specs.declared.line_outcome.LineOutcome.{LineOutcome}
use Rattle.catalog_run.specs.Runs.{CatalogRun, IsRun, IsReadyOf}
use Rattle.catalog_run.specs.OpenSources.{batch_over}
use Rattle.topk_top.specs.ToldTables.{told_listed, view_told, ShelfTellsTables}
use Rattle.topk_top.proofs.Alike.{plain, Alike, none_alike, unseen_rows}
use Rattle.topk_top.proofs.OpenedRuns.{OpenedRun, of_run, stands_within}
pub use Rattle.catalog_run.proofs.Readies.{admitted_few}
use Rattle.catalog_run.proofs.Failing.{counted_back, rose_moves}
use Rattle.catalog_run.proofs.Whole.{open_wanted}

-- where the sources of a batch tell lists that form a table for each query, and none was replaced, each query is on the run of its algorithm over them
abbrev pub QueriesAreOnTheirRuns : Type 0
QueriesAreOnTheirRuns =
    (run : BatchRun) (batch : BatchState) → (ran : IsBatch run batch) → (lists : List (List Row)) → run.told ≡ map Some lists → NoneMoved run
    → All (HasQueryTable lists) ran.queries → All (IsOnItsRun lists) ran.queries

-- what is known of lists by their names, by their places in a catalog
abbrev pub by_place : List Entry → (ℕ → ListInfo) → List ℕ → Option ListInfo
by_place catalog says name = option_map says (entry_named catalog name)

-- names whose lists are all known have places
pub record HavePlaces (catalog : List Entry) (says : ℕ → ListInfo) (names : List (List ℕ)) (lists : List ListInfo) : Type 0 where
  pub places : List ℕ
  pub known : map (entry_named catalog) names ≡ map Some places
  pub said : lists ≡ map says places

pub some_place : (says : ℕ → ListInfo) (o : Option ℕ) (l : ListInfo) → option_map says o ≡ Some l → (place : ℕ) × (o ≡ Some place) × (l ≡ says place)
some_place says None l e = absurd cc
some_place says (Some place) l e = (place, refl, sym (same_Some (says place) l e))

pub known_places : (catalog : List Entry) (says : ℕ → ListInfo) (names : List (List ℕ)) (lists : List ListInfo)
    → map (by_place catalog says) names ≡ map Some lists → HavePlaces catalog says names lists
known_places catalog says [] [] e = record { places = []; known = refl; said = refl }
known_places catalog says [] (l ∷ ls) e = absurd cc
known_places catalog says (n ∷ ns) [] e = absurd cc
known_places catalog says (n ∷ ns) (l ∷ ls) e =
    let here : option_map says (entry_named catalog n) ≡ Some l = cc in
    let rest : map (by_place catalog says) ns ≡ map Some ls = cc in
    let one = some_place says (entry_named catalog n) l here in
    let others = known_places catalog says ns ls rest in
    record {
      places = one.0 ∷ others.places;
      known = ap (λ o. o ∷ map (entry_named catalog) ns) one.1 ∙ ap (λ os. Some one.0 ∷ os) others.known;
      said = ap (λ x. x ∷ ls) one.2 ∙ ap (λ xs. says one.0 ∷ xs) others.said;
    }

-- and the other way round, for whatever is said by place
pub placed_known : {X : Type 0} (catalog : List Entry) (says : ℕ → X) (names : List (List ℕ)) (places : List ℕ)
    → map (entry_named catalog) names ≡ map Some places → map (λ name. option_map says (entry_named catalog name)) names ≡ map Some (map says places)
placed_known catalog says [] [] e = refl
placed_known catalog says [] (p ∷ ps) e = absurd cc
placed_known catalog says (n ∷ ns) [] e = absurd cc
placed_known catalog says (n ∷ ns) (p ∷ ps) e =
    let here : entry_named catalog n ≡ Some p = cc in
    let rest : map (entry_named catalog) ns ≡ map Some ps = cc in
    ap (λ o. option_map says o ∷ map (λ name. option_map says (entry_named catalog name)) ns) here
    ∙ ap (λ os. Some (says p) ∷ os) (placed_known catalog says ns ps rest)

unknown_same : (catalog : List Entry) (says others : ℕ → ListInfo) (names : List (List ℕ))
    → map is_none (map (by_place catalog says) names) ≡ map is_none (map (by_place catalog others) names)
unknown_same catalog says others [] = refl
unknown_same catalog says others (n ∷ ns) =
    ap (λ b. b ∷ map is_none (map (by_place catalog says) ns)) (here (entry_named catalog n)) ∙ ap (λ bs. is_none (by_place catalog others n) ∷ bs) (unknown_same catalog says others ns)
  where
    here : (o : Option ℕ) → is_none (option_map says o) ≡ is_none (option_map others o)
    here None = refl
    here (Some p) = refl

pub map_same : {X : Type 0} (f g : ℕ → X) (places : List ℕ) → ((place : ℕ) → Contains places place → f place ≡ g place) → map f places ≡ map g places
map_same f g [] same = refl
map_same f g (p ∷ ps) same =
    ap (λ x. x ∷ map f ps) (same p (contains_here p ps)) ∙ ap (λ xs. g p ∷ xs) (map_same f g ps (λ q c. same q (contains_there p ps q c)))

map_twice : {X Y : Type 0} (f : ℕ → X) (g : X → Y) (places : List ℕ) → map g (map f places) ≡ map (λ place. g (f place)) places
map_twice f g [] = refl
map_twice f g (p ∷ ps) = ap (λ ys. g (f p) ∷ ys) (map_twice f g ps)

-- each place that a line names is wanted
pub named_wanted : (catalog : List Entry) (lines : List (List ℕ)) (at : ℕ) (bytes : List ℕ) (query : Query) (places : List ℕ)
    → slice_get lines at ≡ Some bytes → at + 1 ≤ most_queries → Reads bytes (Ok query) → map (entry_named catalog) query.names ≡ map Some places
    → (place : ℕ) → Contains places place → IsWanted catalog lines place
named_wanted catalog lines at bytes query places line few reads known place named =
    record { at = at; bytes = bytes; line = line; wants = record { few = few; query = query; reads = reads; places = places; known = known; named = named } }

-- what is said by place is alike where it is of the places that are wanted
pub alike_places : (catalog : List Entry) (lines : List (List ℕ)) (says others : ℕ → ListInfo) (at : ℕ) (bytes : List ℕ) → slice_get lines at ≡ Some bytes
    → at + 1 ≤ most_queries → ((place : ℕ) → IsWanted catalog lines place → plain (says place) ≡ plain (others place))
    → Alike bytes (by_place catalog says) (by_place catalog others)
alike_places catalog lines says others at bytes line few same = record {
  known = λ q reads. unknown_same catalog says others q.names;
  lists = λ q xs reads e.
      let h = known_places catalog says q.names xs e in
      record {
        lists = map others h.places;
        there = placed_known catalog others q.names h.places h.known;
        same = ap (map plain) h.said ∙ map_twice says plain h.places
            ∙ map_same (λ place. plain (says place)) (λ place. plain (others place)) h.places
            (λ place c. same place (named_wanted catalog lines at bytes q h.places line few reads h.known place c))
            ∙ sym (map_twice others plain h.places);
      };
}

-- the rows of a source, if it tells them
abbrev pub rows_of : Option (List Row) → List Row
rows_of told = unwrap_or told []

pub all_told : (told : List (Option (List Row))) → ((source : ℕ) → source < length told → (rows : List Row) × (slice_index_or told source None ≡ Some rows))
    → map Some (map rows_of told) ≡ told
all_told [] all = refl
all_told (o ∷ os) all =
    let one = all 0 (omega arith) in
    let is : o ≡ Some one.0 = one.1 in
    let here : Some (rows_of o) ≡ o = ap (λ (p : Option (List Row)). Some (rows_of p)) is ∙ sym is in
    ap (λ p. p ∷ map Some (map rows_of os)) here ∙ ap (λ t. o ∷ t) (all_told os (λ source l. all (suc source) (omega (arith, l))))

pub rows_at_source : (told : List (Option (List Row))) (source : ℕ) (rows : List Row) → slice_index_or told source None ≡ Some rows
    → list_at (map rows_of told) source ≡ rows
rows_at_source [] source rows e = absurd cc
rows_at_source (o ∷ os) zero rows e = let is : o ≡ Some rows = e in ap rows_of is
rows_at_source (o ∷ os) (suc source) rows e = rows_at_source os source rows e

-- what a list says of itself, without the number of its source
abbrev said_plain : Entry → Option ℕ → ℕ → ListInfo
said_plain entry size version = record { size = size; random = entry.random; sorted = entry.sorted; source = 0; version = version }

-- a source that tells the rows of a place and is open, at the version that is told
pub record IsToldOpen (r : CatalogRun) (openings : List Opening) (s : Sources) (place : ℕ) : Type 0 where
  pub rows : List Row
  pub told : entry_told r.lists r.catalog place ≡ Some rows
  pub version : ℕ
  pub stated : entry_told r.versions r.catalog place ≡ Some version
  pub source : ℕ
  pub opens : opening_at openings place ≡ Open (length rows) source version
  pub tells : slice_index_or s.told source None ≡ Some rows

-- the rows that are told of a place
abbrev pub rows_at : CatalogRun → ℕ → List Row
rows_at r place = rows_of (entry_told r.lists r.catalog place)

-- the lists of a query that is ready, where they form a table
pub record HasLists (r : CatalogRun) (lists : List (List Row)) (ready : ReadyQuery) : Type 0 where
  pub D : List (List Row)
  pub told : map (view_told r.catalog r.lists r.versions).told ready.query.names ≡ map Some D
  pub is : D ≡ map (list_at lists) ready.sources.items
  pub table : IsTable ready.count D

-- as many rows as the query counts
rows_counted : (says : ℕ → ListInfo) (rows : ℕ → List Row) (places : List ℕ) (n count : ℕ)
    → ((place : ℕ) → Contains places place → (says place).size ≡ Some (length (rows place))) → count_of (map says places) ≡ Some count
    → All (λ (one : List Row). length one ≡ n) (map rows places) → n ≡ count
rows_counted says rows [] n count sizes counted sized = absurd cc
rows_counted says rows (p ∷ ps) n count sizes counted sized =
    let here : (says p).size ≡ Some count = counted in
    let long : length (rows p) ≡ n = member_of_all (λ (one : List Row). length one ≡ n) (rows p ∷ map rows ps) (rows p) sized (contains_here (rows p) (map rows ps)) in
    sym long ∙ same_Some (length (rows p)) count (sym (sizes p (contains_here p ps)) ∙ here)

told_once_at : (lists : List ℕ → Option (List Row)) (catalog : List Entry) (o : Option ℕ) (place : ℕ) (rows : List Row) → o ≡ Some place
    → entry_told lists catalog place ≡ Some rows → option_and_then (entry_told lists catalog) o ≡ Some rows
told_once_at lists catalog o place rows is told = ap (option_and_then (entry_told lists catalog)) is ∙ told

pub names_told : (lists : List ℕ → Option (List Row)) (versions : List ℕ → Option ℕ) (catalog : List Entry) (names : List (List ℕ)) (places : List ℕ)
    → map (entry_named catalog) names ≡ map Some places
    → ((place : ℕ) → Contains places place → entry_told lists catalog place ≡ Some (rows_of (entry_told lists catalog place)))
    → map (view_told catalog lists versions).told names ≡ map Some (map (λ place. rows_of (entry_told lists catalog place)) places)
names_told lists versions catalog [] [] e told = refl
names_told lists versions catalog [] (p ∷ ps) e told = absurd cc
names_told lists versions catalog (n ∷ ns) [] e told = absurd cc
names_told lists versions catalog (n ∷ ns) (p ∷ ps) e told =
    let here : entry_named catalog n ≡ Some p = cc in
    let rest : map (entry_named catalog) ns ≡ map Some ps = cc in
    let rows = rows_of (entry_told lists catalog p) in
    ap (λ o. o ∷ map (view_told catalog lists versions).told ns) (told_once_at lists catalog (entry_named catalog n) p rows here (told p (contains_here p ps)))
    ∙ ap (λ os. Some rows ∷ os) (names_told lists versions catalog ns ps rest (λ q c. told q (contains_there p ps q c)))

-- what lines want stands in the catalog
pub wanted_within : (r : CatalogRun) (place : ℕ) → IsWanted r.catalog r.lines place → place < length r.catalog
wanted_within r place wanted =
    let w = wanted.wants in
    member_of_all (λ p. p < length r.catalog) w.places place (places_within r.catalog w.query.names w.places w.known) w.named

module _ (r : CatalogRun) (run : OpenedRun r) (tells : ShelfTellsTables r) where
  -- each source that the lines want, where it was tried, is open and tells the rows of its place
  told_tried : (place : ℕ) → IsWanted r.catalog r.lines place → place < length run.openings → IsToldOpen r run.openings run.sources place
  told_tried place wanted inside = go (opening_at run.openings place) refl (run.opened.each place inside)
    where
      go : (o : Opening) → opening_at run.openings place ≡ o
          → IsOpening r.lists r.versions r.catalog run.sources (IsWanted r.catalog r.lines) r.before run.mid place o → IsToldOpen r run.openings run.sources place
      go Closed is opening =
          let text = (entry_at r.catalog place).place in
          absurd (tells.untroubled place wanted (trouble_on (r.before text) (run.mid text) (r.after text) (opening wanted) (puts_at _ run.mid r.after text run.back)))
      go (Open size source version) is opening =
          let told = tells.told place wanted in
          let at : IsSource r.lists r.versions r.catalog run.sources place size source version = opening.1 in
          let told_as : IsToldAs (Some told.0) (slice_index_or run.sources.told source None) size =
          subst (λ o. IsToldAs o (slice_index_or run.sources.told source None) size) told.1 at.told in
          let stated = tells.versions place wanted in
          let at_version : IfSome (Some stated.0) (λ v. version ≡ v) = subst (λ o. IfSome o (λ v. version ≡ v)) stated.1 at.at.stated in
          record {
            rows = told.0;
            told = told.1;
            version = stated.0;
            stated = stated.1;
            source = source;
            opens = is ∙ ap (λ n. Open n source version) told_as.1 ∙ ap (Open (length told.0) source) at_version;
            tells = told_as.0;
          }

  -- the lists that the sources tell, by their numbers
  abbrev pub lists_read : List (List Row)
  lists_read = map rows_of run.sources.told

  each_told : (source : ℕ) → source < length run.sources.places → (rows : List Row) × (slice_index_or run.sources.told source None ≡ Some rows)
  each_told source within =
      let place = slice_index_or run.sources.places source 0 in
      let n : IsNumbered r.catalog run.openings place source = run.opened.numbered source within in
      let wanted = open_wanted r.lists r.versions r.catalog (IsWanted r.catalog r.lines) r.before run.mid run.openings run.sources run.opened source within in
      let o = told_tried place wanted (stands_within r run source within) in
      let same : Open n.size source n.version ≡ Open (length o.rows) o.source o.version = sym n.open_as ∙ o.opens in
      let number : source ≡ o.source = cc in
      (o.rows, subst (λ k. slice_index_or run.sources.told k None ≡ Some o.rows) (sym number) o.tells)

  pub are_read : map Some lists_read ≡ run.sources.told
  are_read = let many = run.opened.many_told in all_told run.sources.told (λ source l. each_told source (omega (arith, l, many)))

  -- where each source was tried that the lines want
  module _ (tried : (place : ℕ) → IsWanted r.catalog r.lines place → place < length run.openings) where
    told_open : (place : ℕ) → IsWanted r.catalog r.lines place → IsToldOpen r run.openings run.sources place
    told_open place wanted = told_tried place wanted (tried place wanted)

    -- what a wanted list says of itself is what its rows say
    says_same : (place : ℕ) → IsWanted r.catalog r.lines place
        → plain (listed_at r.catalog run.openings place) ≡ plain (told_listed r.lists r.versions r.catalog place)
    says_same place wanted =
        let o = told_open place wanted in
        let entry = entry_at r.catalog place in
        let here : plain (listed_at r.catalog run.openings place) ≡ said_plain entry (Some (length o.rows)) o.version = ap (λ p. plain (said_of entry p)) o.opens in
        let there : plain (told_listed r.lists r.versions r.catalog place) ≡ said_plain entry (Some (length o.rows)) o.version =
        ap (λ (t : Option (List Row)). said_plain entry (option_map length t) (unwrap_or (entry_told r.versions r.catalog place) 0)) o.told
        ∙ ap (λ (v : Option ℕ). said_plain entry (Some (length o.rows)) (unwrap_or v 0)) o.stated in
        here ∙ sym there

    -- what is said of the lists of a line is alike
    pub to_read : (at : ℕ) (bytes : List ℕ) → slice_get r.lines at ≡ Some bytes → at + 1 ≤ most_queries
        → Alike bytes (by_place r.catalog (listed_at r.catalog run.openings)) (by_place r.catalog (told_listed r.lists r.versions r.catalog))
    to_read at bytes line few = alike_places r.catalog r.lines (listed_at r.catalog run.openings) (told_listed r.lists r.versions r.catalog) at bytes line few says_same

    pub from_read : (at : ℕ) (bytes : List ℕ) → slice_get r.lines at ≡ Some bytes → at + 1 ≤ most_queries
        → Alike bytes (by_place r.catalog (told_listed r.lists r.versions r.catalog)) (by_place r.catalog (listed_at r.catalog run.openings))
    from_read at bytes line few =
        alike_places r.catalog r.lines (told_listed r.lists r.versions r.catalog) (listed_at r.catalog run.openings) at bytes line few (λ place wanted. sym (says_same place wanted))

    -- the lists of an admitted query are told and form a table
    pub has_read : (at : ℕ) (bytes : List ℕ) (ready : ReadyQuery) → slice_get r.lines at ≡ Some bytes
        → IsAdmitted (line_over (view_over r.catalog run.openings nothing_told) (at + 1) bytes) ready → HasLists r lists_read ready
    has_read at bytes ready line admitted =
        let V = view_over r.catalog run.openings nothing_told in
        let few = admitted_few V (at + 1) bytes admitted.unrefused in
        let q = ready.query in
        let h = known_places r.catalog (listed_at r.catalog run.openings) q.names admitted.lists admitted.listed in
        let wanted = named_wanted r.catalog r.lines at bytes q h.places line few admitted.reads h.known in
        let D = map (rows_at r) h.places in
        let told : map (view_told r.catalog r.lists r.versions).told q.names ≡ map Some D =
        names_told r.lists r.versions r.catalog q.names h.places h.known (λ place c. let o = told_open place (wanted place c) in o.told ∙ ap Some (sym (ap rows_of o.told))) in
        let none = none_alike V (view_told r.catalog r.lists r.versions) (at + 1) bytes (from_read at bytes line few) admission_causes
        (λ c m. unseen_rows (view_told r.catalog r.lists r.versions) V c m) admitted.unrefused in
        let table = tells.tables at bytes line q D none admitted.reads told in
        let sizes : (place : ℕ) → Contains h.places place → (listed_at r.catalog run.openings place).size ≡ Some (length (rows_at r place)) =
        λ place c. let o = told_open place (wanted place c) in ap (λ p. (said_of (entry_at r.catalog place) p).size) o.opens ∙ ap (λ (rows : List Row). Some (length rows)) (sym (ap rows_of o.told)) in
        let counted = rows_counted (listed_at r.catalog run.openings) (rows_at r) h.places table.0 ready.count sizes (ap count_of (sym h.said) ∙ admitted.count) table.1.sized in
        record {
          D = D;
          told = told;
          is = map_same (rows_at r) (λ place. list_at lists_read (listed_at r.catalog run.openings place).source) h.places
              (λ place c.
              let o = told_open place (wanted place c) in
              ap rows_of o.told ∙ sym (rows_at_source run.sources.told o.source o.rows o.tells) ∙ ap (list_at lists_read) (sym (ap (λ p. (said_of (entry_at r.catalog place) p).source) o.opens)))
              ∙ sym (map_twice (λ place. (listed_at r.catalog run.openings place).source) (list_at lists_read) h.places)
              ∙ ap (map (list_at lists_read)) (sym (map_twice (listed_at r.catalog run.openings) (λ (l : ListInfo). l.source) h.places) ∙ ap (map (λ (l : ListInfo). l.source)) (sym h.said) ∙ admitted.sources);
          table = subst (λ n. IsTable n D) counted table.1;
        }

module _ (r : CatalogRun) (outcomes : List LineOutcome) (run : IsRun r outcomes) (tells : ShelfTellsTables r) where
  -- a run that comes to its end tries all
  all_tried : (place : ℕ) → IsWanted r.catalog r.lines place → place < length run.openings
  all_tried place wanted =
      let inside = wanted_within r place wanted in
      let all = run.all in
      omega (arith, inside, all)

  abbrev pub lists_told : List (List Row)
  lists_told = lists_read r (of_run r outcomes run) tells

  pub are_told : map Some lists_told ≡ run.sources.told
  are_told = are_read r (of_run r outcomes run) tells

  pub to_told : (at : ℕ) (bytes : List ℕ) → slice_get r.lines at ≡ Some bytes → at + 1 ≤ most_queries
      → Alike bytes (by_place r.catalog (listed_at r.catalog run.openings)) (by_place r.catalog (told_listed r.lists r.versions r.catalog))
  to_told = to_read r (of_run r outcomes run) tells all_tried

  pub from_told : (at : ℕ) (bytes : List ℕ) → slice_get r.lines at ≡ Some bytes → at + 1 ≤ most_queries
      → Alike bytes (by_place r.catalog (told_listed r.lists r.versions r.catalog)) (by_place r.catalog (listed_at r.catalog run.openings))
  from_told = from_read r (of_run r outcomes run) tells all_tried

  pub has_lists : (at : ℕ) (bytes : List ℕ) (ready : ReadyQuery) → slice_get r.lines at ≡ Some bytes
      → IsAdmitted (line_over (view_over r.catalog run.openings nothing_told) (at + 1) bytes) ready → HasLists r lists_told ready
  has_lists = has_read r (of_run r outcomes run) tells all_tried

  -- so each query of the batch is on its run
  query_table : (ready : ReadyQuery) (q : RunningQuery) → IsOf ready q → HasLists r lists_told ready → HasQueryTable lists_told q
  query_table ready q of has =
      subst (λ n. IsTable n (map (list_at lists_told) q.sources.items)) (sym (of.goes.count ∙ of.begun.count))
      (subst (λ sources. IsTable ready.count (map (list_at lists_told) sources)) (sym of.sources) (subst (IsTable ready.count) has.is has.table))

  tables : All (HasQueryTable lists_told) run.ran.ran.queries
  tables =
      all_from_members (HasQueryTable lists_told) run.ran.ran.queries
      (λ q c.
      let m = zip_member IsOf run.ran.readies run.ran.ran.queries q run.ran.ran.of c in
      let own = member_of_all (IsReadyOf (view_over r.catalog run.openings nothing_told) r.lines) run.ran.readies m.0 run.ran.own m.1 in
      query_table m.0 q m.2 (has_lists own.at own.bytes m.0 own.line own.admitted))

  -- no list was replaced while the lines ran
  none_moved : NoneMoved (batch_over r.settings run.sources run.begun run.now run.made run.calls run.ran.readies)
  none_moved source l rose =
      let there : source < length run.sources.counts = l in
      let up : Rose (counts_at run.begun source).moves (counts_at run.now source).moves = rose in
      let counts_long = run.opened.many_counts in
      let now_long = sym (length_all_zip NoneFell run.begun run.now run.ran.later) ∙ run.ran.many ∙ run.opened.many_told in
      let within : source < length run.sources.places = omega (arith, there, counts_long) in
      let inside : source < length run.now = omega (arith, within, now_long) in
      let place = slice_index_or run.sources.places source 0 in
      let text = (entry_at r.catalog place).place in
      let some : 1 ≤ (counts_at run.now source).moves = omega (arith, up) in
      tells.unmoved place (open_wanted r.lists r.versions r.catalog (IsWanted r.catalog r.lines) r.before run.mid run.openings run.sources run.opened source within)
      (moved_from (r.before text) (run.mid text) (r.after text) (moves_at run.opened.used r.before run.mid text run.opened.moves)
      (rose_moves _ run.mid r.after text _ run.back (counted_back r.catalog run.sources.places run.now source within inside) some))

  pub on_their_runs : QueriesAreOnTheirRuns → All (IsOnItsRun lists_told) run.ran.ran.queries
  on_their_runs law = law (batch_over r.settings run.sources run.begun run.now run.made run.calls run.ran.readies) run.ran.batch run.ran.ran lists_told (sym are_told) none_moved tables
