-- What stands behind the refusals of lists that weren't opened, failed, were garbled or were replaced.
use Rattle.std.proofs.Common.{◌≡◌, ℕ, zero, suc, ◌+◌, ◌<◌, ◌≤◌, true, List, [], ◌∷◌, All, Contains, map, length, inl, inr, Option, None, Some, option_map, slice_get, slice_index_or, refl, sym, ap, ◌∙◌, subst, arith}
use Rattle.std.specs.Prelude.{Ok, IfSome}
use Rattle.std.specs.Option.{option_and_then}
use Rattle.std.specs.List.{AllByRecursion}
use Rattle.std.proofs.lemmas.Bool.{cases_lt}
use Rattle.std.proofs.lemmas.Option.{same_Some}
use Rattle.std.proofs.lemmas.List.{length-map}
use Rattle.std.proofs.lemmas.List.Elements.{All-from_recursion}
use Rattle.topk_theory.proofs.AgreementLists.{contains_here, contains_there, contains_at, member_of_all}
use Rattle.machine_base.specs.declared.answer.Answer.{Answer}
use Rattle.machine_base.specs.declared.core_fault.CoreFault.TheVariants as core
use Rattle.source_state.specs.declared.entry.SourceFault.TheVariants as fault
use Rattle.source_state.specs.declared.look.LookFault.{LookFault}
use Rattle.source_api.specs.declared.source.FailKind.TheVariants as kind
use Rattle.source_state.specs.declared.look.LookFault.TheVariants as why
use Rattle.query_text.specs.declared.query.Query.{Query}
use Rattle.query_text.specs.Reading.{Reads}
use Rattle.query_text.specs.declared.fault.QueryFault.{QueryFault}
use Rattle.query_text.specs.declared.fault.QueryFault.TheVariants as text
use Rattle.cert_text.specs.Outcome.{names_of}
use Rattle.cert_text.specs.Refusal.{refused_lists}
use Rattle.cert_text.specs.declared.outcome.Outcome.TheVariants.{Answered, Refused}
use Rattle.cert_text.specs.declared.refusal.Refusal.{Refusal}
use Rattle.cert_text.specs.declared.refusal.Refusal.TheVariants.{NotOpened, Failed, Garbled, Moved}
use Rattle.query_core.specs.declared.ready.Ready.{Ready as ReadyQuery}
use Rattle.query_admission.specs.View.{View, is_closed}
use Rattle.query_admission.specs.Causes.{most_queries, Cause, admission_causes, text_refusal, Over, ListsGive, RefusesFor, line_over}
use Rattle.query_admission.specs.Admission.{RefusesLine, IsAdmitted}
use Rattle.query_admission.specs.declared.lists.ListInfo.{ListInfo}
use Rattle.query_admission.proofs.Admitting.{read_once}
use Rattle.query_admission.proofs.Positions.{found_passes, found_within, nothing}
use Rattle.query_admission.proofs.ReadyLists.{admitted_states}
use Rattle.query_run.specs.declared.ended.Ended.{Ended}
use Rattle.query_run.specs.declared.ended.Ended.TheVariants as ended
use Rattle.query_run.specs.declared.ended.Refusal.TheVariants as refusal
use Rattle.query_run.specs.declared.running_query.RunningQuery.{RunningQuery}
use Rattle.query_run.specs.Inquiries.{source_of}
use Rattle.query_run.specs.Endings.{EndsAs}
use Rattle.query_run.specs.Kept.{IsServed}
use Rattle.query_run.specs.Made.{IsOf}
use Rattle.batch_result.specs.Numbered.{version_at}
use Rattle.batch_result.proofs.Places.{map_at}
use Rattle.catalog_text.specs.Catalog.{Listed as Entry}
use Rattle.catalog_open.specs.declared.opened.Opening.{Opening}
use Rattle.catalog_open.specs.declared.opened.Opening.TheVariants.{Closed, Open}
use Rattle.catalog_open.specs.Views.{entry_named, said_of, listed_at, view_over, nothing_told}
use Rattle.catalog_open.specs.Entries.{entry_at, opening_at}
use Rattle.catalog_open.specs.Wanted.{IsWanted}
use Rattle.catalog_open.specs.Openings.{IsOpening, TroubleAt}
use Rattle.catalog_open.proofs.Marking.{places_within}
use Rattle.query_admission.specs.declared.line_outcome.LineOutcome.{LineOutcome}
use Rattle.line_outcome.specs.Outcomes.{ended_outcome}
use Rattle.catalog_run.specs.Runs.{CatalogRun, IsRun, IsLineRun, AreOutcomes}
use Rattle.line_outcome.specs.LineOutcomes.{IsLineRefused}
use Rattle.topk_top.specs.Failures.{place_at, failed_list, HasRisen, NamesVersion, HasFailedAt, HasFailure}
use Rattle.topk_top.proofs.Alike.{first_is_many}
use Rattle.topk_top.proofs.Becoming.{failed_rose_at, garbled_rose_at, moved_rose_at, served_all, text_for}
use Rattle.catalog_run.proofs.Failing.{refused_there}
use Rattle.catalog_run.proofs.Readies.{ready_versions}
use Rattle.topk_top.proofs.OpenedRuns.{of_run, stood_open}
use Rattle.topk_top.proofs.ToldLists.{known_places, named_wanted}

-- the place of a list of a query
place_there : (catalog : List Entry) (names : List (List ℕ)) (places : List ℕ) (list : ℕ) → map (entry_named catalog) names ≡ map Some places → list < length names
    → option_and_then (entry_named catalog) (slice_get names list) ≡ Some (slice_index_or places list 0)
place_there catalog [] places list e l = absurd (omega (arith, l))
place_there catalog (n ∷ ns) [] list e l = absurd cc
place_there catalog (n ∷ ns) (p ∷ ps) zero e l = let here : entry_named catalog n ≡ Some p = cc in here
place_there catalog (n ∷ ns) (p ∷ ps) (suc list) e l =
    let rest : map (entry_named catalog) ns ≡ map Some ps = cc in
    place_there catalog ns ps list rest (omega (arith, l))

-- what is said of a list by its place
pub said_there : (says : ℕ → ListInfo) (places : List ℕ) (list : ℕ) → list < length places
    → slice_index_or (map says places) list nothing ≡ says (slice_index_or places list 0)
said_there says [] list l = absurd (omega (arith, l))
said_there says (p ∷ ps) zero l = refl
said_there says (p ∷ ps) (suc list) l = said_there says ps list (omega (arith, l))

pub source_there : (says : ℕ → ListInfo) (places : List ℕ) (list : ℕ) → list < length places
    → slice_index_or (map (λ (l : ListInfo). l.source) (map says places)) list 0 ≡ (says (slice_index_or places list 0)).source
source_there says [] list l = absurd (omega (arith, l))
source_there says (p ∷ ps) zero l = refl
source_there says (p ∷ ps) (suc list) l = source_there says ps list (omega (arith, l))

pub many_places : (catalog : List Entry) (names : List (List ℕ)) (places : List ℕ) → map (entry_named catalog) names ≡ map Some places → length places ≡ length names
many_places catalog names places e = sym (length-map places Some) ∙ ap length (sym e) ∙ length-map names (entry_named catalog)

-- the refusals of a fault of the text
none_listed : {n : ℕ} → None ≡ Some n → ⊥
none_listed e = cc

pub of_text : (f : QueryFault) (refusal : Refusal) → text_refusal f ≡ Some refusal → failed_list refusal ≡ None
of_text (text.LongLine limit) refusal e = sym (ap failed_list (same_Some _ refusal e))
of_text (text.Syntax at) refusal e = sym (ap failed_list (same_Some _ refusal e))
of_text (text.Number at) refusal e = sym (ap failed_list (same_Some _ refusal e))
of_text (text.TooManyLists at) refusal e = sym (ap failed_list (same_Some _ refusal e))
of_text (text.BadTheta p q) refusal e = sym (ap failed_list (same_Some _ refusal e))
of_text (text.TooManyNodes nodes) refusal e = sym (ap failed_list (same_Some _ refusal e))
of_text (text.TooDeep depth) refusal e = sym (ap failed_list (same_Some _ refusal e))
of_text (text.TooBig node) refusal e = sym (ap failed_list (same_Some _ refusal e))
of_text text.Memory refusal e = absurd cc

not_of_text : (f : QueryFault) (refusal : Refusal) (list : ℕ) → text_refusal f ≡ Some refusal → failed_list refusal ≡ Some list → ⊥
not_of_text f refusal list e h = none_listed (sym (of_text f refusal e) ∙ h)

not_listed : (one other : Refusal) (list : ℕ) → one ≡ other → failed_list other ≡ None → failed_list one ≡ Some list → ⊥
not_listed one other list e none some = none_listed (sym none ∙ sym (ap failed_list e) ∙ some)

refused_once : {one other : Refusal} → Refused one ≡ Refused other → one ≡ other
refused_once e = cc

refused_some : (one other : Refusal) → Some (Refused one) ≡ Some (Refused other) → one ≡ other
refused_some one other e = refused_once (same_Some (Refused one) (Refused other) e)

answered_refused : (answer : Answer) (refusal : Refusal) → Some (Answered answer) ≡ Some (Refused refusal) → ⊥
answered_refused answer refusal e = cc

many_is_other : Cause.many_queries ≡ Cause.not_opened → ⊥
many_is_other e = cc

-- a refusal of a list comes with a query
some_query : (query : Option Query) (list : ℕ) → All (λ l. l < length (names_of query)) (refused_lists (NotOpened list)) → (q : Query) × (query ≡ Some q)
some_query None list named = absurd (let l = named 0 0 (omega arith) in omega (arith, l))
some_query (Some q) list named = (q, refl)

module _ (r : CatalogRun) (outcomes : List LineOutcome) (run : IsRun r outcomes) where
  abbrev says : ℕ → ListInfo
  says = listed_at r.catalog run.openings

  abbrev U : View
  U = view_over r.catalog run.openings nothing_told

  -- trouble at the place of a list that isn't open
  closed_trouble : (place : ℕ) → IsWanted r.catalog r.lines place → place < length r.catalog → is_closed (says place) ≡ true
      → TroubleAt (r.before (entry_at r.catalog place).place) (run.mid (entry_at r.catalog place).place)
  closed_trouble place wanted inside closed =
      let all = run.all in
      go (opening_at run.openings place) closed (run.opened.each place (omega (arith, inside, all)))
    where
      go : (o : Opening) → is_closed (said_of (entry_at r.catalog place) o) ≡ true
          → IsOpening r.lists r.versions r.catalog run.sources (IsWanted r.catalog r.lines) r.before run.mid place o
          → TroubleAt (r.before (entry_at r.catalog place).place) (run.mid (entry_at r.catalog place).place)
      go Closed closed opening = opening wanted
      go (Open size source version) closed opening = absurd cc

  -- a line that is refused since a list wasn't opened
  not_opened : (at : ℕ) (bytes : List ℕ) (o : LineOutcome) (refusal : Refusal) (list : ℕ) → slice_get r.lines at ≡ Some bytes → at + 1 ≤ most_queries
      → (is : RefusesLine admission_causes (line_over U (at + 1) bytes) refusal o.query)
      → Over (line_over U (at + 1) bytes) (λ q lists. ListsGive q lists Cause.not_opened refusal) → failed_list refusal ≡ Some list → HasFailedAt r run.mid o refusal list
  not_opened at bytes o refusal list line few is g fails =
      let h = g.holds in
      let q = g.query in
      let number : h.0 ≡ list = same_Some h.0 list (sym (ap failed_list h.1) ∙ fails) in
      let places = known_places r.catalog says q.names g.lists g.listed in
      let closed : is_closed (slice_index_or g.lists h.0 nothing) ≡ true = found_passes is_closed g.lists h.0 h.2 in
      let within : h.0 < length g.lists = found_within is_closed g.lists h.0 h.2 in
      let lists_long : length g.lists ≡ length places.places = ap (length {A = ListInfo}) places.said ∙ length-map places.places says in
      let inside : h.0 < length places.places = omega (arith, within, lists_long) in
      let place = slice_index_or places.places h.0 0 in
      let text = (entry_at r.catalog place).place in
      let named : Contains places.places place = contains_at places.places h.0 0 inside in
      let wanted : IsWanted r.catalog r.lines place = named_wanted r.catalog r.lines at bytes q places.places line few g.reads places.known place named in
      let in_catalog : place < length r.catalog = member_of_all (λ p. p < length r.catalog) places.places place (places_within r.catalog q.names places.places places.known) named in
      let closed_place : is_closed (says place) ≡ true =
      subst (λ (l : ListInfo). is_closed l ≡ true) (ap (λ (ls : List ListInfo). slice_index_or ls h.0 nothing) places.said ∙ said_there says places.places h.0 inside) closed in
      let trouble = closed_trouble place wanted in_catalog closed_place in
      let names_long = many_places r.catalog q.names places.places places.known in
      let at_place : place_at r.catalog q h.0 ≡ Some text = ap (option_map (λ entry. (entry_at r.catalog entry).place)) (place_there r.catalog q.names places.places h.0 places.known (omega (arith, inside, names_long))) in
      let has = some_query o.query h.0 (subst (λ x. All (λ l. l < length (names_of o.query)) (refused_lists x)) h.1 is.named) in
      let reads : Reads bytes (Ok has.0) = subst (λ x. IfSome x (λ p. Reads bytes (Ok p))) has.1 is.reads in
      record {
        query = q;
        query_is = has.1 ∙ ap Some (read_once bytes has.0 q reads g.reads);
        place = text;
        place_is = subst (λ n. place_at r.catalog q n ≡ Some text) number at_place;
        risen = subst (HasRisen (r.before text) (run.mid text) (r.after text)) (sym h.1) trouble;
        had = subst (NamesVersion (slice_index_or o.versions list 0)) (sym h.1) tt;
      }

  -- the cause of a refusal of a list that comes before the line runs
  refused_why : (at : ℕ) (bytes : List ℕ) (o : LineOutcome) (refusal : Refusal) (list : ℕ) → slice_get r.lines at ≡ Some bytes
      → (is : RefusesLine admission_causes (line_over U (at + 1) bytes) refusal o.query) → failed_list refusal ≡ Some list
      → (c : Cause) → c ≡ is.first.cause → RefusesFor (line_over U (at + 1) bytes) c refusal → HasFailedAt r run.mid o refusal list
  refused_why at bytes o refusal list line is fails Cause.many_queries c g = absurd (not_listed refusal _ list g.0 refl fails)
  refused_why at bytes o refusal list line is fails Cause.text c g = absurd (not_of_text g.0 refusal list g.1 fails)
  refused_why at bytes o refusal list line is fails Cause.unknown_list c g = absurd (not_listed refusal _ list g.holds.1 refl fails)
  refused_why at bytes o refusal list line is fails Cause.too_large c g = absurd (not_listed refusal _ list g.holds.2 refl fails)
  refused_why at bytes o refusal list line is fails Cause.counts_differ c g = absurd (not_listed refusal _ list g.holds.3 refl fails)
  refused_why at bytes o refusal list line is fails Cause.k_above_count c g = absurd (not_listed refusal _ list g.holds.1 refl fails)
  refused_why at bytes o refusal list line is fails Cause.no_random c g = absurd (not_listed refusal _ list g.holds.1 refl fails)
  refused_why at bytes o refusal list line is fails Cause.no_sorted c g = absurd (not_listed refusal _ list g.holds.1 refl fails)
  refused_why at bytes o refusal list line is fails Cause.room_full c g = absurd (not_listed refusal _ list g.holds.3 refl fails)
  refused_why at bytes o refusal list line is fails Cause.not_opened c g = not_opened at bytes o refusal list line few is g fails
    where
      few : at + 1 ≤ most_queries
      few = elim (cases_lt most_queries (at + 1)) [
        | inl late ↦ absurd (many_is_other (first_is_many U (at + 1) bytes refusal late is.first ∙ sym c))
        | inr early ↦ early
      ]

  line_refused : (at : ℕ) (bytes : List ℕ) (o : LineOutcome) → slice_get r.lines at ≡ Some bytes → IsLineRefused U (at + 1) bytes o → HasFailure r run.mid o
  line_refused at bytes o line is = λ refusal list e fails.
      let same : is.refusal ≡ refusal = refused_once (sym is.outcome ∙ e) in
      let refused = subst (λ x. RefusesLine admission_causes (line_over U (at + 1) bytes) x o.query) same is.refused in
      refused_why at bytes o refusal list line refused fails refused.first.cause refl refused.first.gives

  -- a list that states a size is that of the open source that stands at its place
  pub stood : (place n : ℕ) → (says place).size ≡ Some n → slice_index_or run.sources.places (says place).source 0 ≡ place
  stood place n sized = stood_open r (of_run r outcomes run) place n sized

  -- the list of a query that ran
  pub ran_at : (at : ℕ) (bytes : List ℕ) (q : RunningQuery) (ready : ReadyQuery) (list : ℕ) → IsAdmitted (line_over U (at + 1) bytes) ready → IsOf ready q
      → list < length ready.query.names → place_at r.catalog ready.query list ≡ Some (text_for r outcomes run q list)
  ran_at at bytes q ready list admitted of l =
      let names = ready.query.names in
      let places = known_places r.catalog says names admitted.lists admitted.listed in
      let names_long = many_places r.catalog names places.places places.known in
      let inside : list < length places.places = omega (arith, l, names_long) in
      let lists_long : length admitted.lists ≡ length places.places = ap (length {A = ListInfo}) places.said ∙ length-map places.places says in
      let place = slice_index_or places.places list 0 in
      let source_is : source_of q list ≡ (says place).source =
      ap (λ (sources : List ℕ). slice_index_or sources list 0) (of.sources ∙ sym admitted.sources ∙ ap (map (λ (l : ListInfo). l.source)) places.said)
      ∙ source_there says places.places list inside in
      let states : (slice_index_or admitted.lists list nothing).size ≡ Some ready.count = admitted_states (line_over U (at + 1) bytes) ready admitted list (omega (arith, inside, lists_long)) in
      let sized : (says place).size ≡ Some ready.count =
      subst (λ (l : ListInfo). l.size ≡ Some ready.count) (ap (λ (ls : List ListInfo). slice_index_or ls list nothing) places.said ∙ said_there says places.places list inside) states in
      let stands : slice_index_or run.sources.places (says place).source 0 ≡ place = stood place ready.count sized in
      ap (option_map (λ entry. (entry_at r.catalog entry).place)) (place_there r.catalog names places.places list places.known l)
      ∙ ap (λ p. Some (entry_at r.catalog p).place) (sym (ap (λ source. slice_index_or run.sources.places source 0) source_is ∙ stands))

  pub ran_list : (q : RunningQuery) (ready : ReadyQuery) (list : ℕ) (f : LookFault) → IsServed run.ran.ran.states q → IsOf ready q
      → q.refusal ≡ Some (refusal.Look list f) → list < length ready.query.names
  ran_list q ready list f served of e =
      let there = refused_there run.ran.ran.states q list f served e in
      let l = there.of in
      let many : length q.sources.items ≡ length ready.query.names = ap (length {A = ℕ}) of.sources ∙ of.is.sources in
      omega (arith, l, many)

  -- the version that is at hand of the source of a query's list is the one that its line names
  named_version : (at : ℕ) (bytes : List ℕ) (o : LineOutcome) (q : RunningQuery) (ready : ReadyQuery) (list other : ℕ)
      → IsAdmitted (line_over U (at + 1) bytes) ready → IsOf ready q → o.versions ≡ ready.versions.items → other ≡ list → other < length ready.query.names
      → version_at run.sources.versions (source_of q other) ≡ slice_index_or o.versions list 0
  named_version at bytes o q ready list other admitted of held number l =
      let many : length ready.sources.items ≡ length ready.query.names = of.is.sources in
      let versions : o.versions ≡ map (version_at run.sources.versions) ready.sources.items =
      held ∙ ready_versions r.lists nothing_told r.versions r.catalog (IsWanted r.catalog r.lines) r.before run.mid run.openings run.sources run.opened (at + 1) bytes ready admitted in
      ap (λ (sources : List ℕ). version_at run.sources.versions (slice_index_or sources other 0)) of.sources
      ∙ (sym (map_at (version_at run.sources.versions) ready.sources.items other 0 0 (omega (arith, l, many)))
      ∙ (ap (λ (vs : List ℕ). slice_index_or vs other 0) (sym versions) ∙ ap (λ n. slice_index_or o.versions n 0) number))

  -- a query that ran and is refused because a call failed
  ran_why : (at : ℕ) (bytes : List ℕ) (o : LineOutcome) (q : RunningQuery) (ready : ReadyQuery) (e : Ended) (refusal : Refusal) (list : ℕ)
      → IsAdmitted (line_over U (at + 1) bytes) ready → IsOf ready q → IsServed run.ran.ran.states q → Contains run.ran.ran.queries q → EndsAs q e
      → o.query ≡ Some ready.query → o.versions ≡ ready.versions.items → ended_outcome e ≡ Some (Refused refusal) → failed_list refusal ≡ Some list → HasFailedAt r run.mid o refusal list
  ran_why at bytes o q ready (ended.Answered answer) refusal list admitted of served c ends is held e fails = absurd (answered_refused answer refusal e)
  ran_why at bytes o q ready (ended.Core (core.Strangers object count)) refusal list admitted of served c ends is held e fails =
      absurd (not_listed refusal _ list (sym (refused_some _ refusal e)) refl fails)
  ran_why at bytes o q ready (ended.Core (core.RoomFull room)) refusal list admitted of served c ends is held e fails =
      absurd (not_listed refusal _ list (sym (refused_some _ refusal e)) refl fails)
  ran_why at bytes o q ready (ended.Look other (why.Source (fault.OutOfOrder place above below))) refusal list admitted of served c ends is held e fails =
      absurd (not_listed refusal _ list (sym (refused_some _ refusal e)) refl fails)
  ran_why at bytes o q ready (ended.Look other (why.Source (fault.TooHigh place grade))) refusal list admitted of served c ends is held e fails =
      absurd (not_listed refusal _ list (sym (refused_some _ refusal e)) refl fails)
  ran_why at bytes o q ready (ended.Look other (why.Source (fault.Repeated object place))) refusal list admitted of served c ends is held e fails =
      absurd (not_listed refusal _ list (sym (refused_some _ refusal e)) refl fails)
  ran_why at bytes o q ready (ended.Look other (why.Source (fault.Clash object sorted random))) refusal list admitted of served c ends is held e fails =
      absurd (not_listed refusal _ list (sym (refused_some _ refusal e)) refl fails)
  ran_why at bytes o q ready (ended.Look other (why.Source (fault.Above object grade bottom))) refusal list admitted of served c ends is held e fails =
      absurd (not_listed refusal _ list (sym (refused_some _ refusal e)) refl fails)
  ran_why at bytes o q ready (ended.Look other (why.Source (fault.ShortList stated got))) refusal list admitted of served c ends is held e fails =
      absurd (not_listed refusal _ list (sym (refused_some _ refusal e)) refl fails)
  ran_why at bytes o q ready (ended.Look other (why.Source (fault.Moved had stated))) refusal list admitted of served c ends is held e fails =
      let same : Moved other had stated ≡ refusal = refused_some (Moved other had stated) refusal e in
      let number : other ≡ list = same_Some other list (ap failed_list same ∙ fails) in
      let l = ran_list q ready other (why.Source (fault.Moved had stated)) served of ends in
      let rose = moved_rose_at r outcomes run q other had stated c ends in
      let text = text_for r outcomes run q other in
      record {
        query = ready.query;
        query_is = is;
        place = text;
        place_is = subst (λ n. place_at r.catalog ready.query n ≡ Some text) number (ran_at at bytes q ready other admitted of l);
        risen = subst (HasRisen (r.before text) (run.mid text) (r.after text)) same rose.1;
        had = subst (NamesVersion (slice_index_or o.versions list 0)) same (rose.2 ∙ named_version at bytes o q ready list other admitted of held number l);
      }
  ran_why at bytes o q ready (ended.Look other (why.Missing object)) refusal list admitted of served c ends is held e fails =
      absurd (not_listed refusal _ list (sym (refused_some _ refusal e)) refl fails)
  ran_why at bytes o q ready (ended.Look other (why.AsksFull kept)) refusal list admitted of served c ends is held e fails =
      absurd (not_listed refusal _ list (sym (refused_some _ refusal e)) refl fails)
  ran_why at bytes o q ready (ended.Look other (why.Call kind.Memory)) refusal list admitted of served c ends is held e fails = absurd cc
  ran_why at bytes o q ready (ended.Look other (why.Call kind.Failed)) refusal list admitted of served c ends is held e fails =
      let same : Failed other ≡ refusal = refused_some (Failed other) refusal e in
      let number : other ≡ list = same_Some other list (ap failed_list same ∙ fails) in
      let l = ran_list q ready other (why.Call kind.Failed) served of ends in
      let rose = failed_rose_at r outcomes run q other c ends in
      let text = text_for r outcomes run q other in
      record {
        query = ready.query;
        query_is = is;
        place = text;
        place_is = subst (λ n. place_at r.catalog ready.query n ≡ Some text) number (ran_at at bytes q ready other admitted of l);
        risen = subst (HasRisen (r.before text) (run.mid text) (r.after text)) same rose.1;
        had = subst (NamesVersion (slice_index_or o.versions list 0)) same tt;
      }
  ran_why at bytes o q ready (ended.Look other (why.Call kind.Garbled)) refusal list admitted of served c ends is held e fails =
      let same : Garbled other ≡ refusal = refused_some (Garbled other) refusal e in
      let number : other ≡ list = same_Some other list (ap failed_list same ∙ fails) in
      let l = ran_list q ready other (why.Call kind.Garbled) served of ends in
      let rose = garbled_rose_at r outcomes run q other c ends in
      let text = text_for r outcomes run q other in
      record {
        query = ready.query;
        query_is = is;
        place = text;
        place_is = subst (λ n. place_at r.catalog ready.query n ≡ Some text) number (ran_at at bytes q ready other admitted of l);
        risen = subst (HasRisen (r.before text) (run.mid text) (r.after text)) same rose.1;
        had = subst (NamesVersion (slice_index_or o.versions list 0)) same tt;
      }

  line_ran : (at : ℕ) (bytes : List ℕ) (o : LineOutcome) (q : RunningQuery) → Contains run.ran.ran.queries q → IsLineRun U q (at + 1) bytes o → HasFailure r run.mid o
  line_ran at bytes o q c is = λ refusal list e fails.
      ran_why at bytes o q is.ready is.ended refusal list is.admitted is.of (served_all r outcomes run q c) c is.ends is.outcome.query is.outcome.versions
      (is.outcome.outcome ∙ ap Some e) fails

  -- the lines from one on
  all_failures : (at : ℕ) (queries : List RunningQuery) (lines : List (List ℕ)) (others : List LineOutcome)
      → ((i : ℕ) (bytes : List ℕ) → slice_get lines i ≡ Some bytes → slice_get r.lines (at + i) ≡ Some bytes)
      → ((q : RunningQuery) → Contains queries q → Contains run.ran.ran.queries q)
      → AreOutcomes U queries (at + 1) lines others → AllByRecursion (HasFailure r run.mid) others
  all_failures at queries [] [] lines_are there are = tt
  all_failures at queries [] (o ∷ others) lines_are there are = absurd are
  all_failures at queries (bytes ∷ lines) [] lines_are there are = absurd are
  all_failures at queries (bytes ∷ lines) (o ∷ others) lines_are there are =
      let none : at + 0 ≡ at = omega arith in
      let line : slice_get r.lines at ≡ Some bytes = subst (λ i. slice_get r.lines i ≡ Some bytes) none (lines_are 0 bytes refl) in
      let rest : (i : ℕ) (b : List ℕ) → slice_get lines i ≡ Some b → slice_get r.lines (at + 1 + i) ≡ Some b =
      λ i b e. let next : at + suc i ≡ at + 1 + i = omega arith in subst (λ j. slice_get r.lines j ≡ Some b) next (lines_are (suc i) b e) in
      elim are [
        | inl refused ↦ (line_refused at bytes o line refused.0, all_failures (at + 1) queries lines others rest there refused.1)
        | inr ran ↦
            let all : (q : RunningQuery) → Contains (ran.0 ∷ ran.1) q → Contains run.ran.ran.queries q = λ q c. there q (subst (λ qs. Contains qs q) (sym ran.2) c) in (
              line_ran at bytes o ran.0 (all ran.0 (contains_here ran.0 ran.1)) ran.3,
              all_failures (at + 1) ran.1 lines others rest (λ q c. all q (contains_there ran.0 ran.1 q c)) ran.4,
            )
      ]

  pub lines_failures : All (HasFailure r run.mid) outcomes
  lines_failures = All-from_recursion (HasFailure r run.mid) outcomes (all_failures 0 run.ran.ran.queries r.lines outcomes (λ i bytes e. let same : i ≡ 0 + i = omega arith in subst (λ j. slice_get r.lines j ≡ Some bytes) same e) (λ q c. c) run.ran.outcomes_are)
