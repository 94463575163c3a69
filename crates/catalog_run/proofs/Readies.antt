-- The queries that are ready over the open sources of a catalog are ready for their counts.
use Rattle.std.proofs.Common.{◌≡◌, ℕ, ◌+◌, ◌-◌, ◌<◌, ◌≤◌, cond, List, [], ◌∷◌, All, map, length, suc, slice_get, slice_index_or, inl, inr, Option, None, Some, option_map, refl, sym, ap, ◌∙◌, subst, arith}
use Rattle.std.specs.List.{AllByRecursion}
use Rattle.std.proofs.lemmas.Bool.{cases_lt, le-leb}
use Rattle.std.proofs.lemmas.Option.{same_Some}
use Rattle.std.proofs.lemmas.List.{get_or_past}
use Rattle.std.proofs.lemmas.List.Elements.{All-cons, All-from_recursion, All-nil, All-weaker}
use Rattle.ranked_list.specs.declared.row.Row.{Row}
use Rattle.query_core.specs.declared.ready.Ready.{Ready}
use Rattle.topk_theory.proofs.AgreementLists.{contains_here, member_of_all}
use Rattle.cert_text.specs.declared.refusal.Refusal.{Refusal}
use Rattle.cert_text.specs.declared.refusal.Refusal.TheVariants.{ManyQueries}
use Rattle.query_admission.specs.View.{View, versions_at}
use Rattle.query_admission.specs.Causes.{most_queries, Cause, admission_causes, RefusesFor, NoneOf, line_over}
use Rattle.query_admission.specs.Admission.{IsAdmitted}
use Rattle.query_admission.specs.declared.lists.ListInfo.{ListInfo}
use Rattle.query_admission.specs.declared.line_outcome.LineOutcome.{LineOutcome}
use Rattle.query_admission.proofs.Positions.{nothing}
use Rattle.query_admission.proofs.ReadyLists.{admitted_states}
use Rattle.query_run.specs.Made.{IsReadyFor}
use Rattle.catalog_text.specs.Catalog.{Listed as Entry}
use Rattle.catalog_open.specs.declared.opened.Opening.{Opening}
use Rattle.catalog_open.specs.declared.opened.Opening.TheVariants.{Closed, Open}
use Rattle.catalog_open.specs.Views.{entry_named, said_of, listed_at, view_over}
use Rattle.catalog_open.specs.Entries.{entry_at, opening_at}
use Rattle.catalog_open.specs.Openings.{Counted, Sources, AreOpened, IsOpening, IsSource, run_count}
use Rattle.catalog_open.specs.Admissions.{AreAdmitted}
use Rattle.batch_result.specs.Numbered.{version_at}
use Rattle.catalog_run.specs.Runs.{HasVersions, IsReadyOf}
use Rattle.topk_base.specs.declared.TheConstants.{MAX_OBJECTS}

-- a source that a query names is there, and has as many objects
abbrev pub HasCount : List ℕ → ℕ → ℕ → Type 0
HasCount counts n source = (source < length counts) × (slice_index_or counts source 0 ≡ n)

run_count_is : (size : ℕ) → size ≤ MAX_OBJECTS → run_count size ≡ size
run_count_is size small = ap (λ t. cond t size 0) (le-leb size MAX_OBJECTS small)

-- each query that is ready is that of one of these lines, which are numbered from this number on
abbrev OwnedFrom : View → ℕ → List (List ℕ) → Ready → Type 0
OwnedFrom view number lines ready = (at : ℕ) × (bytes : List ℕ) × (slice_get lines at ≡ Some bytes) × IsAdmitted (line_over view (number + at) bytes) ready

later_own : (view : View) (number : ℕ) (bytes : List ℕ) (lines : List (List ℕ)) (readies : List Ready)
    → All (OwnedFrom view (number + 1) lines) readies → All (OwnedFrom view number (bytes ∷ lines)) readies
later_own view number bytes lines readies all =
    All-weaker (OwnedFrom view (number + 1) lines) (OwnedFrom view number (bytes ∷ lines))
    (λ ready one.
    let e : number + 1 + one.0 ≡ number + suc one.0 = omega arith in
    (suc one.0, one.1, one.2, subst (λ n. IsAdmitted (line_over view n one.1) ready) e one.3)) readies all

own_from : (view : View) (number : ℕ) (lines : List (List ℕ)) (outcomes : List (Option LineOutcome)) (readies : List Ready)
    → AreAdmitted view number lines outcomes readies → All (OwnedFrom view number lines) readies
own_from view number [] [] readies are = subst (All (OwnedFrom view number [])) (sym are) (All-nil (OwnedFrom view number []))
own_from view number [] (o ∷ outcomes) readies are = absurd are
own_from view number (bytes ∷ lines) [] readies are = absurd are
own_from view number (bytes ∷ lines) (Some o ∷ outcomes) readies are =
    later_own view number bytes lines readies (own_from view (number + 1) lines outcomes readies are.1)
own_from view number (bytes ∷ lines) (None ∷ outcomes) [] are = absurd are
own_from view number (bytes ∷ lines) (None ∷ outcomes) (ready ∷ readies) are =
    let e : number ≡ number + 0 = omega arith in
    All-cons (OwnedFrom view number (bytes ∷ lines)) ready readies (0, bytes, refl, subst (λ n. IsAdmitted (line_over view n bytes) ready) e are.0)
    (later_own view number bytes lines readies (own_from view (number + 1) lines outcomes readies are.1))

pub all_own : (view : View) (lines : List (List ℕ)) (outcomes : List (Option LineOutcome)) (readies : List Ready) → AreAdmitted view 1 lines outcomes readies
    → All (IsReadyOf view lines) readies
all_own view lines outcomes readies are =
    All-weaker (OwnedFrom view 1 lines) (IsReadyOf view lines)
    (λ ready one.
    let e : 1 + one.0 ≡ one.0 + 1 = omega arith in
    record { at = one.0; bytes = one.1; line = one.2; admitted = subst (λ n. IsAdmitted (line_over view n one.1) ready) e one.3 })
    readies (own_from view 1 lines outcomes readies are)

module _ (lists told : List ℕ → Option (List Row)) (versions : List ℕ → Option ℕ) (catalog : List Entry) (Wanted : ℕ → Type 0) (before now : Counted) (openings : List Opening) (s : Sources) (are : AreOpened lists versions catalog Wanted before now openings s) where
  abbrev IsThere : ℕ → ListInfo → Type 0
  IsThere n l = HasCount s.counts n l.source × (version_at s.versions l.source ≡ l.version)

  -- a list that states a size is that of an open source, and at the version at hand
  open_source : (n place : ℕ) (o : Opening) (l : ListInfo) → n ≤ MAX_OBJECTS → opening_at openings place ≡ o → said_of (entry_at catalog place) o ≡ l
      → l.size ≡ Some n → IsThere n l
  open_source n place Closed l small is said size = absurd (none_some (ap (λ (k : ListInfo). k.size) said ∙ size))
    where
      none_some : {m : ℕ} → None ≡ Some m → ⊥
      none_some e = cc
  open_source n place (Open size source version) l small is said stated =
      let same : size ≡ n = same_Some size n (ap (λ (k : ListInfo). k.size) said ∙ stated) in
      let within : place < length openings = elim (cases_lt place (length openings)) [
        | inl inside ↦ inside
        | inr past ↦ absurd (closed_open (sym (get_or_past openings place Closed past) ∙ is))
      ] in
      let opening : IsOpening lists versions catalog s Wanted before now place (Open size source version) = subst (IsOpening lists versions catalog s Wanted before now place) is (are.each place within) in
      let source_is : IsSource lists versions catalog s place size source version = opening.1 in
      let counted : slice_index_or s.counts source 0 ≡ n = source_is.counted ∙ (ap run_count same ∙ run_count_is n small) in
      let there : source < length s.counts = omega (arith, source_is.within, are.many_counts) in (
        subst (HasCount s.counts n) (ap (λ (k : ListInfo). k.source) said) (there, counted),
        ap (version_at s.versions) (sym (ap (λ (k : ListInfo). k.source) said)) ∙ (source_is.at.at_hand ∙ ap (λ (k : ListInfo). k.version) said),
      )
    where
      closed_open : {size source version : ℕ} → Closed ≡ Open size source version → ⊥
      closed_open e = cc

  named_source : (n : ℕ) (name : List ℕ) (l : ListInfo) → n ≤ MAX_OBJECTS → option_map (listed_at catalog openings) (entry_named catalog name) ≡ Some l
      → l.size ≡ Some n → IsThere n l
  named_source n name l small e size = at (entry_named catalog name) e
    where
      at : (p : Option ℕ) → option_map (listed_at catalog openings) p ≡ Some l → IsThere n l
      at None e = absurd cc
      at (Some place) e = open_source n place (opening_at openings place) l small refl (same_Some (listed_at catalog openings place) l e) size

  all_sourced : (n : ℕ) (names : List (List ℕ)) (ls : List ListInfo) → n ≤ MAX_OBJECTS → map (view_over catalog openings told).listed names ≡ map Some ls
      → ((place : ℕ) → place < length ls → (slice_index_or ls place nothing).size ≡ Some n) → AllByRecursion (HasCount s.counts n) (map (λ l. l.source) ls)
  all_sourced n [] [] small e sizes = tt
  all_sourced n [] (l ∷ ls) small e sizes = absurd cc
  all_sourced n (name ∷ names) [] small e sizes = tt
  all_sourced n (name ∷ names) (l ∷ ls) small e sizes =
      let here : (view_over catalog openings told).listed name ≡ Some l = cc in
      let rest : map (view_over catalog openings told).listed names ≡ map Some ls = cc in
      ((named_source n name l small here (sizes 0 (omega arith))).0, all_sourced n names ls small rest (λ place h. sizes (suc place) (omega (arith, h))))

  all_at_hand : (n : ℕ) (names : List (List ℕ)) (ls : List ListInfo) → n ≤ MAX_OBJECTS → map (view_over catalog openings told).listed names ≡ map Some ls
      → ((place : ℕ) → place < length ls → (slice_index_or ls place nothing).size ≡ Some n)
      → versions_at ls ≡ map (version_at s.versions) (map (λ (l : ListInfo). l.source) ls)
  all_at_hand n [] [] small e sizes = refl
  all_at_hand n [] (l ∷ ls) small e sizes = absurd cc
  all_at_hand n (name ∷ names) [] small e sizes = refl
  all_at_hand n (name ∷ names) (l ∷ ls) small e sizes =
      let here : (view_over catalog openings told).listed name ≡ Some l = cc in
      let rest : map (view_over catalog openings told).listed names ≡ map Some ls = cc in
      let one = (named_source n name l small here (sizes 0 (omega arith))).1 in
      ap (λ v. v ∷ versions_at ls) (sym one)
      ∙ ap (λ vs. version_at s.versions l.source ∷ vs) (all_at_hand n names ls small rest (λ place h. sizes (suc place) (omega (arith, h))))

  ready_for : (number : ℕ) (bytes : List ℕ) (ready : Ready) → IsAdmitted (line_over (view_over catalog openings told) number bytes) ready
      → IsReadyFor s.counts ready
  ready_for number bytes ready admitted = record {
    is = admitted.sound;
    sources = subst (All (HasCount s.counts ready.count)) admitted.sources
        (All-from_recursion (HasCount s.counts ready.count) (map (λ (l : ListInfo). l.source) admitted.lists)
        (all_sourced ready.count ready.query.names admitted.lists admitted.sound.counted admitted.listed (admitted_states (line_over (view_over catalog openings told) number bytes) ready admitted)));
  }

  pub ready_versions : (number : ℕ) (bytes : List ℕ) (ready : Ready) → IsAdmitted (line_over (view_over catalog openings told) number bytes) ready
      → HasVersions s.versions ready
  ready_versions number bytes ready admitted =
      sym admitted.versions
      ∙ (all_at_hand ready.count ready.query.names admitted.lists admitted.sound.counted admitted.listed (admitted_states (line_over (view_over catalog openings told) number bytes) ready admitted)
      ∙ ap (map (version_at s.versions)) admitted.sources)

  -- each query that is ready is ready for the counts of the sources
  pub all_ready : (lines : List (List ℕ)) (outcomes : List (Option LineOutcome)) (readies : List Ready)
      → AreAdmitted (view_over catalog openings told) 1 lines outcomes readies → All (IsReadyFor s.counts) readies
  all_ready lines outcomes readies all =
      All-weaker (IsReadyOf (view_over catalog openings told) lines) (IsReadyFor s.counts)
      (λ ready own. ready_for (own.at + 1) own.bytes ready own.admitted) readies (all_own (view_over catalog openings told) lines outcomes readies all)

  -- and its versions are those at hand
  pub all_versions : (lines : List (List ℕ)) (outcomes : List (Option LineOutcome)) (readies : List Ready)
      → AreAdmitted (view_over catalog openings told) 1 lines outcomes readies → All (HasVersions s.versions) readies
  all_versions lines outcomes readies all =
      All-weaker (IsReadyOf (view_over catalog openings told) lines) (HasVersions s.versions)
      (λ ready own. ready_versions (own.at + 1) own.bytes ready own.admitted) readies (all_own (view_over catalog openings told) lines outcomes readies all)

-- an admitted line is one of the first
pub admitted_few : (view : View) (number : ℕ) (bytes : List ℕ) → NoneOf (RefusesFor (line_over view number bytes)) admission_causes → number ≤ most_queries
admitted_few view number bytes none =
    elim (cases_lt most_queries number) [
      | inl late ↦ absurd (member_of_all (λ (c : Cause). (r : Refusal) → ¬ RefusesFor (line_over view number bytes) c r) admission_causes Cause.many_queries none
          (contains_here Cause.many_queries (Cause.text ∷ Cause.unknown_list ∷ Cause.not_opened ∷ Cause.too_large ∷ Cause.counts_differ ∷ Cause.k_above_count ∷ Cause.no_random ∷ Cause.no_sorted ∷ []))
          (ManyQueries most_queries) (refl, late))
      | inr few ↦ few
    ]

-- no more lines are ready than may be
pub readies_few : (view : View) (number : ℕ) (lines : List (List ℕ)) (outcomes : List (Option LineOutcome)) (readies : List Ready)
    → AreAdmitted view number lines outcomes readies → length readies ≤ most_queries + 1 - number
readies_few view number [] [] readies are = let none : length readies ≡ 0 = ap length are in omega (arith, none)
readies_few view number [] (o ∷ outcomes) readies are = absurd are
readies_few view number (bytes ∷ lines) [] readies are = absurd are
readies_few view number (bytes ∷ lines) (Some o ∷ outcomes) readies are = let rest = readies_few view (number + 1) lines outcomes readies are.1 in omega (arith, rest)
readies_few view number (bytes ∷ lines) (None ∷ outcomes) [] are = absurd are
readies_few view number (bytes ∷ lines) (None ∷ outcomes) (ready ∷ readies) are =
    let rest = readies_few view (number + 1) lines outcomes readies are.1 in
    let few = admitted_few view number bytes are.0.unrefused in
    omega (arith, rest, few)
