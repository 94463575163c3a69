-- A failure refuses few lines: those that are refused for calls of a source are no more than the workers times such calls.
use Rattle.std.proofs.Common.{◌≡◌, ◌⊎◌, ℕ, zero, suc, ◌+◌, ◌-◌, ◌*◌, ◌^◌, ◌<◌, ◌≤◌, min, Bool, true, false, ◌&&◌, ◌||◌, cond, List, [], ◌∷◌, ◌++◌, Contains, count_by, length, reverse, inl, inr, Option, None, Some, slice_index_or, refl, sym, ap, ◌∙◌, subst, arith, le_trans}
use Rattle.std.specs.Prelude.{if◌then◌else◌}
use Rattle.std.specs.Option.{option_and_then}
use Rattle.std.specs.Str.{bytes_eq}
use Rattle.std.specs.List.{sum_by}
use Rattle.std.proofs.Math.Nat.{mul-le-mul_left}
use Rattle.std.proofs.lemmas.Bool.{and_parts, cases_Bool, cases_lt, false≢true}
use Rattle.std.proofs.lemmas.Option.{same_Some}
use Rattle.std.proofs.lemmas.List.{reverse-append}
use Rattle.std.proofs.lemmas.List.Sums.{sum_by-append, sum_by-cons}
use Rattle.topk_theory.proofs.AgreementLists.{contains_here, contains_there}
use Rattle.topk_theory.proofs.Counts.{count_first, count_le, count_no, count_none, count_yes}
use Rattle.machine_base.specs.declared.core_fault.CoreFault.TheVariants as core
use Rattle.source_api.specs.declared.counts.Counts.{Counts}
use Rattle.source_api.specs.declared.source.FailKind.{FailKind}
use Rattle.source_api.specs.declared.source.FailKind.TheVariants as kind
use Rattle.source_state.specs.declared.entry.SourceFault.{SourceFault}
use Rattle.source_state.specs.declared.entry.SourceFault.TheVariants as fault
use Rattle.source_state.specs.declared.look.LookFault.{LookFault}
use Rattle.source_state.specs.declared.look.LookFault.TheVariants as why
use Rattle.query_text.specs.declared.query.Query.{Query}
use Rattle.cert_text.specs.declared.outcome.Outcome.{Outcome}
use Rattle.cert_text.specs.declared.outcome.Outcome.TheVariants.{Answered, Refused}
use Rattle.cert_text.specs.declared.refusal.Refusal.{Refusal}
use Rattle.cert_text.specs.declared.refusal.Refusal.TheVariants.{NotOpened, Failed, Garbled, Moved}
use Rattle.query_core.specs.declared.ready.Ready.{Ready as ReadyQuery}
use Rattle.query_admission.specs.View.{View}
use Rattle.query_admission.specs.Causes.{QueryLine, Cause, RefusesFor, line_over}
use Rattle.query_admission.specs.Admission.{IsAdmitted}
use Rattle.query_run.specs.declared.ended.Ended.{Ended}
use Rattle.query_run.specs.declared.ended.Ended.TheVariants as ended
use Rattle.query_run.specs.declared.ended.Refusal.{Refusal as QueryRefusal}
use Rattle.query_run.specs.declared.ended.Refusal.TheVariants as refusal
use Rattle.query_run.specs.declared.running_query.RunningQuery.{RunningQuery}
use Rattle.query_run.specs.Inquiries.{source_of, source_needed}
use Rattle.query_run.specs.Endings.{EndsAs}
use Rattle.query_run.specs.Made.{IsOf}
use Rattle.batch_result.specs.Numbered.{counts_at}
use Rattle.batch_result.specs.Using.{IsFewFor, is_fail, is_refused_for}
use Rattle.batch_result.proofs.EndingLaws.{counted_for}
use Rattle.catalog_text.specs.Catalog.{Listed as Entry}
use Rattle.catalog_open.specs.Views.{view_over, nothing_told}
use Rattle.catalog_open.specs.Entries.{entry_at}
use Rattle.catalog_open.specs.Openings.{Used, used_at, put_back}
use Rattle.catalog_open.proofs.Moving.{used_append}
use Rattle.query_admission.specs.declared.line_outcome.LineOutcome.{LineOutcome}
use Rattle.line_outcome.specs.Outcomes.{ended_outcome, source_refusal}
use Rattle.catalog_run.specs.Runs.{CatalogRun, IsRun, IsLineRun, AreOutcomes}
use Rattle.line_outcome.specs.LineOutcomes.{IsLineRefused}
use Rattle.topk_top.specs.Failures.{AreFew, RefusesFew, failed_list, is_place, is_refused_at, place_at, refused_at, says_failed, says_garbled}
use Rattle.topk_top.proofs.Becoming.{served_all, source_there, still_many, text_for}
use Rattle.catalog_run.proofs.Failing.{faults_sum, garbles_sum, refused_there}
use Rattle.topk_top.proofs.Failures.{of_text, ran_at, ran_list}

-- ---- lines and queries
-- a query that is refused so because a call failed so, of a source that stands so
abbrev fails_at : FailKind → (ℕ → List ℕ) → List ℕ → RunningQuery → Option QueryRefusal → Bool
fails_at what text place q None = false
fails_at what text place q (Some (refusal.Core fault)) = false
fails_at what text place q (Some (refusal.Look list fault)) = is_fail what fault && bytes_eq (text (source_of q list)) place

-- what a refusal says, and the kind of fail that it stands for
pub record SaysOf (says : Refusal → Bool) (what : FailKind) : Type 0 where
  pub opening : (list : ℕ) → says (NotOpened list) ≡ false
  pub failed : (list : ℕ) → says (Failed list) ≡ is_fail what (why.Call kind.Failed)
  pub garbled : (list : ℕ) → says (Garbled list) ≡ is_fail what (why.Call kind.Garbled)
  pub moved : (list had now : ℕ) → says (Moved list had now) ≡ false

nowhere : (catalog : List Entry) (place : List ℕ) (query : Option Query) (b : Bool)
    → (b && is_place place (option_and_then (λ q. option_and_then (place_at catalog q) None) query)) ≡ false
nowhere catalog place None true = refl
nowhere catalog place None false = refl
nowhere catalog place (Some q) true = refl
nowhere catalog place (Some q) false = refl

-- a refusal that names no list of a call
unnamed : (catalog : List Entry) (says : Refusal → Bool) (place : List ℕ) (query : Option Query) (refused : Refusal) → failed_list refused ≡ None
    → refused_at catalog says place query (Refused refused) ≡ false
unnamed catalog says place query refused e =
    ap (λ (l : Option ℕ). says refused && is_place place (option_and_then (λ q. option_and_then (place_at catalog q) l) query)) e
    ∙ nowhere catalog place query (says refused)

-- a refusal before a line runs is none for a call of a source
early : (catalog : List Entry) (says : Refusal → Bool) (what : FailKind) (is : SaysOf says what) (place : List ℕ) (query : Option Query) (x : QueryLine)
    (c : Cause) (refused : Refusal)
    → RefusesFor x c refused → refused_at catalog says place query (Refused refused) ≡ false
early catalog says what is place query x Cause.many_queries refused g = unnamed catalog says place query refused (ap failed_list g.0)
early catalog says what is place query x Cause.text refused g = unnamed catalog says place query refused (of_text g.0 refused g.1)
early catalog says what is place query x Cause.unknown_list refused g = unnamed catalog says place query refused (ap failed_list g.holds.1)
early catalog says what is place query x Cause.too_large refused g = unnamed catalog says place query refused (ap failed_list g.holds.2)
early catalog says what is place query x Cause.counts_differ refused g = unnamed catalog says place query refused (ap failed_list g.holds.3)
early catalog says what is place query x Cause.k_above_count refused g = unnamed catalog says place query refused (ap failed_list g.holds.1)
early catalog says what is place query x Cause.no_random refused g = unnamed catalog says place query refused (ap failed_list g.holds.1)
early catalog says what is place query x Cause.no_sorted refused g = unnamed catalog says place query refused (ap failed_list g.holds.1)
early catalog says what is place query x Cause.room_full refused g = unnamed catalog says place query refused (ap failed_list g.holds.3)
early catalog says what is place query x Cause.not_opened refused g =
    let l = g.holds.0 in
    ap (λ (y : Refusal). refused_at catalog says place query (Refused y)) g.holds.1
    ∙ ap (λ b. b && is_place place (option_and_then (λ q. option_and_then (place_at catalog q) (Some l)) query)) (is.opening l)

-- a refusal for what was read of a source is none for a call of it
source_says : (catalog : List Entry) (says : Refusal → Bool) (what : FailKind) (is : SaysOf says what) (place : List ℕ) (query : Option Query) (list : ℕ)
    (f : SourceFault) → refused_at catalog says place query (Refused (source_refusal list f)) ≡ false
source_says catalog says what is place query list (fault.OutOfOrder at above below) = unnamed catalog says place query _ refl
source_says catalog says what is place query list (fault.TooHigh at grade) = unnamed catalog says place query _ refl
source_says catalog says what is place query list (fault.Repeated object at) = unnamed catalog says place query _ refl
source_says catalog says what is place query list (fault.Clash object sorted random) = unnamed catalog says place query _ refl
source_says catalog says what is place query list (fault.Above object grade bottom) = unnamed catalog says place query _ refl
source_says catalog says what is place query list (fault.ShortList stated got) = unnamed catalog says place query _ refl
source_says catalog says what is place query list (fault.Moved had now) =
    ap (λ b. b && is_place place (option_and_then (λ q. option_and_then (place_at catalog q) (Some list)) query)) (is.moved list had now)

never : (b : Bool) → b ≡ false → b ≡ true → {A : Type 0} → A
never b fails passes = absurd (false≢true (sym fails ∙ passes))

module _ (r : CatalogRun) (outcomes : List LineOutcome) (run : IsRun r outcomes) (says : Refusal → Bool) (what : FailKind) (is : SaysOf says what) (place : List ℕ) where
  abbrev X : View
  X = view_over r.catalog run.openings nothing_told

  -- where the source of a number stands on the shelf
  abbrev text_of : ℕ → List ℕ
  text_of source = (entry_at r.catalog (slice_index_or run.sources.places source 0)).place

  -- a call of a kind
  called : (q : RunningQuery) (ready : ReadyQuery) (list : ℕ) (fault : LookFault) (refused : Refusal) → says refused ≡ is_fail what fault
      → failed_list refused ≡ Some list → q.refusal ≡ Some (refusal.Look list fault)
      → place_at r.catalog ready.query list ≡ Some (text_for r outcomes run q list)
      → refused_at r.catalog says place (Some ready.query) (Refused refused) ≡ true → fails_at what text_of place q q.refusal ≡ true
  called q ready list fault refused said named ends at counted =
      let here : refused_at r.catalog says place (Some ready.query) (Refused refused) ≡ (is_fail what fault && bytes_eq (text_of (source_of q list)) place) =
      ap (λ (l : Option ℕ). says refused && is_place place (option_and_then (place_at r.catalog ready.query) l)) named
      ∙ ap (λ (p : Option (List ℕ)). says refused && is_place place p) at
      ∙ ap (λ b. b && bytes_eq (text_of (source_of q list)) place) said in
      ap (fails_at what text_of place q) ends ∙ sym here ∙ counted

  -- a line whose query ended so
  ended_at : (at : ℕ) (bytes : List ℕ) (q : RunningQuery) (ready : ReadyQuery) (e : Ended) (outcome : Outcome) → IsAdmitted (line_over X (at + 1) bytes) ready
      → IsOf ready q → Contains run.ran.ran.queries q → EndsAs q e → ended_outcome e ≡ Some outcome
      → refused_at r.catalog says place (Some ready.query) outcome ≡ true → fails_at what text_of place q q.refusal ≡ true
  ended_at at bytes q ready (ended.Answered answer) outcome admitted of c ends e counted =
      never (refused_at r.catalog says place (Some ready.query) outcome)
      (ap (refused_at r.catalog says place (Some ready.query)) (sym (same_Some (Answered answer) outcome e))) counted
  ended_at at bytes q ready (ended.Core (core.Strangers object count)) outcome admitted of c ends e counted =
      never (refused_at r.catalog says place (Some ready.query) outcome)
      (ap (refused_at r.catalog says place (Some ready.query)) (sym (same_Some _ outcome e)) ∙ unnamed r.catalog says place (Some ready.query) _ refl) counted
  ended_at at bytes q ready (ended.Core (core.RoomFull room)) outcome admitted of c ends e counted =
      never (refused_at r.catalog says place (Some ready.query) outcome)
      (ap (refused_at r.catalog says place (Some ready.query)) (sym (same_Some _ outcome e)) ∙ unnamed r.catalog says place (Some ready.query) _ refl) counted
  ended_at at bytes q ready (ended.Look list (why.Source f)) outcome admitted of c ends e counted =
      never (refused_at r.catalog says place (Some ready.query) outcome)
      (ap (refused_at r.catalog says place (Some ready.query)) (sym (same_Some _ outcome e)) ∙ source_says r.catalog says what is place (Some ready.query) list f) counted
  ended_at at bytes q ready (ended.Look list (why.Missing object)) outcome admitted of c ends e counted =
      never (refused_at r.catalog says place (Some ready.query) outcome)
      (ap (refused_at r.catalog says place (Some ready.query)) (sym (same_Some _ outcome e)) ∙ unnamed r.catalog says place (Some ready.query) _ refl) counted
  ended_at at bytes q ready (ended.Look list (why.AsksFull kept)) outcome admitted of c ends e counted =
      never (refused_at r.catalog says place (Some ready.query) outcome)
      (ap (refused_at r.catalog says place (Some ready.query)) (sym (same_Some _ outcome e)) ∙ unnamed r.catalog says place (Some ready.query) _ refl) counted
  ended_at at bytes q ready (ended.Look list (why.Call kind.Memory)) outcome admitted of c ends e counted = absurd cc
  ended_at at bytes q ready (ended.Look list (why.Call kind.Failed)) outcome admitted of c ends e counted =
      called q ready list (why.Call kind.Failed) (Failed list) (is.failed list) refl ends
      (ran_at r outcomes run at bytes q ready list admitted of (ran_list r outcomes run q ready list (why.Call kind.Failed) (served_all r outcomes run q c) of ends))
      (subst (λ x. refused_at r.catalog says place (Some ready.query) x ≡ true) (sym (same_Some (Refused (Failed list)) outcome e)) counted)
  ended_at at bytes q ready (ended.Look list (why.Call kind.Garbled)) outcome admitted of c ends e counted =
      called q ready list (why.Call kind.Garbled) (Garbled list) (is.garbled list) refl ends
      (ran_at r outcomes run at bytes q ready list admitted of (ran_list r outcomes run q ready list (why.Call kind.Garbled) (served_all r outcomes run q c) of ends))
      (subst (λ x. refused_at r.catalog says place (Some ready.query) x ≡ true) (sym (same_Some (Refused (Garbled list)) outcome e)) counted)

  line_refused : (at : ℕ) (bytes : List ℕ) (o : LineOutcome) → IsLineRefused X (at + 1) bytes o → is_refused_at r.catalog says place o ≡ false
  line_refused at bytes o line =
      ap (refused_at r.catalog says place o.query) line.outcome
      ∙ early r.catalog says what is place o.query (line_over X (at + 1) bytes) line.refused.first.cause line.refusal line.refused.first.gives

  line_ran : (at : ℕ) (bytes : List ℕ) (o : LineOutcome) (q : RunningQuery) → Contains run.ran.ran.queries q → IsLineRun X q (at + 1) bytes o
      → is_refused_at r.catalog says place o ≡ true → fails_at what text_of place q q.refusal ≡ true
  line_ran at bytes o q c line counted =
      ended_at at bytes q line.ready line.ended o.outcome line.admitted line.of c line.ends line.outcome.outcome
      (subst (λ (p : Option Query). refused_at r.catalog says place p o.outcome ≡ true) line.outcome.query counted)

  abbrev refused_here : LineOutcome → Bool
  refused_here o = is_refused_at r.catalog says place o

  abbrev fails_here : RunningQuery → Bool
  fails_here q = fails_at what text_of place q q.refusal

  -- the lines from one on
  lines_upto : (at : ℕ) (queries : List RunningQuery) (lines : List (List ℕ)) (others : List LineOutcome)
      → ((q : RunningQuery) → Contains queries q → Contains run.ran.ran.queries q)
      → AreOutcomes X queries (at + 1) lines others → count_by refused_here others ≤ count_by fails_here queries
  lines_upto at queries [] [] there are = omega arith
  lines_upto at queries [] (o ∷ others) there are = absurd are
  lines_upto at queries (bytes ∷ lines) [] there are = absurd are
  lines_upto at queries (bytes ∷ lines) (o ∷ others) there are = elim are [
    | inl refused ↦
        let rest = lines_upto (at + 1) queries lines others there refused.1 in
        omega (arith, rest, count_no refused_here o others (line_refused at bytes o refused.0))
    | inr ran ↦
        let q = ran.0 in
        let all : (p : RunningQuery) → Contains (q ∷ ran.1) p → Contains run.ran.ran.queries p = λ p c. there p (subst (λ qs. Contains qs p) (sym ran.2) c) in
        let rest = lines_upto (at + 1) ran.1 lines others (λ p c. all p (contains_there q ran.1 p c)) ran.4 in
        subst (λ qs. count_by refused_here (o ∷ others) ≤ count_by fails_here qs) (sym ran.2)
        (elim (cases_Bool (refused_here o)) [
          | inl counted ↦
              omega (arith, rest, count_yes refused_here o others counted, count_yes fails_here q ran.1 (line_ran at bytes o q (all q (contains_here q ran.1)) ran.3 counted))
          | inr other ↦ omega (arith, rest, count_no refused_here o others other, count_first fails_here q ran.1)
        ])
  ]

-- ---- queries and sources
-- a query is refused for a source at a place, the sources being numbered from one on
abbrev fails_of : FailKind → List Entry → List ℕ → List ℕ → ℕ → RunningQuery → Bool
fails_of what catalog place [] first q = false
fails_of what catalog place (p ∷ ps) first q = (bytes_eq (entry_at catalog p).place place && is_refused_for what first q) || fails_of what catalog place ps (suc first) q

-- one of them
one_of : (what : FailKind) (catalog : List Entry) (place : List ℕ) (places : List ℕ) (first source : ℕ) (q : RunningQuery) → source < length places
    → bytes_eq (entry_at catalog (slice_index_or places source 0)).place place ≡ true → is_refused_for what (first + source) q ≡ true
    → fails_of what catalog place places first q ≡ true
one_of what catalog place [] first source q l at refused = absurd (omega (arith, l))
one_of what catalog place (p ∷ ps) first zero q l at refused =
    let same : first + 0 ≡ first = omega arith in
    let here : is_refused_for what first q ≡ true = subst (λ n. is_refused_for what n q ≡ true) same refused in
    ap (λ b. (b && is_refused_for what first q) || fails_of what catalog place ps (suc first) q) at
    ∙ ap (λ b. b || fails_of what catalog place ps (suc first) q) here
one_of what catalog place (p ∷ ps) first (suc source) q l at refused =
    let same : first + suc source ≡ suc first + source = omega arith in
    let rest = one_of what catalog place ps (suc first) source q (omega (arith, l)) at (subst (λ n. is_refused_for what n q ≡ true) same refused) in
    or_there (bytes_eq (entry_at catalog p).place place && is_refused_for what first q) (fails_of what catalog place ps (suc first) q) rest
  where
    or_there : (a b : Bool) → b ≡ true → (a || b) ≡ true
    or_there true b e = refl
    or_there false b e = e

-- a test that is one of two counts no more than both
count_either : {X : Type 0} (p q : X → Bool) (xs : List X) → count_by (λ x. p x || q x) xs ≤ count_by p xs + count_by q xs
count_either p q [] = omega arith
count_either p q (x ∷ xs) =
    let rest = count_either p q xs in
    let here : cond {A = ℕ} (p x || q x) 1 0 ≤ cond {A = ℕ} (p x) 1 0 + cond {A = ℕ} (q x) 1 0 = either (p x) (q x) in
    omega (arith, rest, here, count_first (λ y. p y || q y) x xs, count_first p x xs, count_first q x xs)
  where
    either : (a b : Bool) → cond {A = ℕ} (a || b) 1 0 ≤ cond {A = ℕ} a 1 0 + cond {A = ℕ} b 1 0
    either true true = omega arith
    either true false = omega arith
    either false true = omega arith
    either false false = omega arith

-- so many lines are no more than the workers times what was counted, unless the count stands at its last value
abbrev UpTo : ℕ → ℕ → ℕ → Type 0
UpTo workers lines counted = (2 ^ 64 - 1 ≤ counted) ⊎ (lines ≤ workers * counted)

up_to_both : (workers a b m n : ℕ) → UpTo workers a m → UpTo workers b n → UpTo workers (a + b) (m + n)
up_to_both workers a b m n one other = elim one [
  | inl last ↦ inl (omega (arith, last))
  | inr few ↦ elim other [
    | inl last ↦ inl (omega (arith, last))
    | inr less ↦ (
        let split : workers * (m + n) ≡ workers * m + workers * n = grind arith in
        inr (omega (arith, few, less, split)))
  ]
]

up_to_less : (workers a b m : ℕ) → a ≤ b → UpTo workers b m → UpTo workers a m
up_to_less workers a b m l up = elim up [ inl last ↦ inl last | inr few ↦ inr (le_trans l few) ]

-- by what a source has counted at the end
up_to_source : (workers lines calls before now : ℕ) → IsFewFor workers lines calls before now → UpTo workers lines now
up_to_source workers lines calls before now few =
    let rose : min (before + calls) (2 ^ 64 - 1) ≤ now = few.rose in
    let most : lines ≤ workers * calls = few.few in
    elim (cases_lt now (2 ^ 64 - 1)) [
      | inl counted ↦ (
          let fewer : calls ≤ now = omega (arith, rose, counted) in
          inr (le_trans most (mul-le-mul_left workers fewer)))
      | inr last ↦ inl (omega (arith, last))
    ]

-- the sources at a place, by what they have counted
module _ (what : FailKind) (f : Counts → ℕ) (catalog : List Entry) (place : List ℕ) (workers : ℕ) (queries : List RunningQuery) where
  all_sources : (places : List ℕ) (now : List Counts) (first : ℕ) → length now ≡ length places
      → ((source : ℕ) → source < length places → UpTo workers (count_by (is_refused_for what (first + source)) queries) (f (counts_at now source)))
      → UpTo workers (count_by (fails_of what catalog place places first) queries) (sum_by f (used_at place (put_back catalog places now)))
  all_sources [] now first long each =
      let none : count_by (fails_of what catalog place [] first) queries ≡ 0 = count_none (λ q. false) queries (λ q c. refl) in
      inr (omega (arith, none))
  all_sources (p ∷ ps) [] first long each = absurd (omega (arith, long))
  all_sources (p ∷ ps) (c ∷ cs) first long each =
      let zero_on : first + 0 ≡ first = omega arith in
      let here : UpTo workers (count_by (is_refused_for what first) queries) (f c) =
      subst (λ n. UpTo workers (count_by (is_refused_for what n) queries) (f c)) zero_on (each 0 (omega arith)) in
      let rest = all_sources ps cs (suc first) (omega (arith, long))
      (λ source l.
      let on : first + suc source ≡ suc first + source = omega arith in
      subst (λ n. UpTo workers (count_by (is_refused_for what n) queries) (f (counts_at cs source))) on (each (suc source) (omega (arith, l)))) in
      by (bytes_eq (entry_at catalog p).place place) here rest
    where
      by : (b : Bool) → UpTo workers (count_by (is_refused_for what first) queries) (f c)
          → UpTo workers (count_by (fails_of what catalog place ps (suc first)) queries) (sum_by f (used_at place (put_back catalog ps cs)))
          → UpTo workers (count_by (λ q. (b && is_refused_for what first q) || fails_of what catalog place ps (suc first) q) queries)
          (sum_by f (if b then c ∷ used_at place (put_back catalog ps cs) else used_at place (put_back catalog ps cs)))
      by true here rest =
          let both = up_to_both workers _ _ _ _ here rest in
          let summed : sum_by f (c ∷ used_at place (put_back catalog ps cs)) ≡ f c + sum_by f (used_at place (put_back catalog ps cs)) =
          sum_by-cons f c (used_at place (put_back catalog ps cs)) in
          subst (UpTo workers (count_by (λ q. is_refused_for what first q || fails_of what catalog place ps (suc first) q) queries)) (sym summed)
          (up_to_less workers _ _ _ (count_either (is_refused_for what first) (fails_of what catalog place ps (suc first)) queries) both)
      by false here rest = rest

-- in whatever order they were put back
pub sum_turned : (f : Counts → ℕ) (place : List ℕ) (used : List Used) → sum_by f (used_at place (reverse used)) ≡ sum_by f (used_at place used)
sum_turned f place [] = refl
sum_turned f place (u ∷ used) =
    let rest = sum_turned f place used in
    let turned : sum_by f (used_at place (reverse (u ∷ used))) ≡ sum_by f (used_at place (reverse used) ++ used_at place (u ∷ [])) =
    ap (λ us. sum_by f (used_at place us)) (reverse-append (u ∷ []) used) ∙ ap (sum_by f) (used_append place (reverse used) (u ∷ [])) in
    let split = sum_by-append f (used_at place (reverse used)) (used_at place (u ∷ [])) in
    let front : sum_by f (used_at place (u ∷ used)) ≡ sum_by f (used_at place (u ∷ []) ++ used_at place used) = ap (sum_by f) (used_append place (u ∷ []) used) in
    let joined = sum_by-append f (used_at place (u ∷ [])) (used_at place used) in
    omega (arith, rest, turned, split, front, joined)

module _ (r : CatalogRun) (outcomes : List LineOutcome) (run : IsRun r outcomes) (says : Refusal → Bool) (what : FailKind) (is : SaysOf says what) (place : List ℕ) where
  -- a query that is refused at a place is refused for one of its sources
  found : (q : RunningQuery) (x : Option QueryRefusal) → Contains run.ran.ran.queries q → q.refusal ≡ x
      → fails_at what (text_of r outcomes run says what is place) place q x ≡ true → fails_of what r.catalog place run.sources.places 0 q ≡ true
  found q None c e fails = absurd (false≢true fails)
  found q (Some (refusal.Core fault)) c e fails = absurd (false≢true fails)
  found q (Some (refusal.Look list fault)) c e fails =
      let parts = and_parts (is_fail what fault) (bytes_eq (text_of r outcomes run says what is place (source_of q list)) place) fails in
      let sized = source_there r outcomes run what fault q list parts.0 c e in
      let counts_long = run.opened.many_counts in
      let counted = counted_for what fault run.ran.ran.states q list parts.0 (served_all r outcomes run q c) e in
      let there = refused_there run.ran.ran.states q list fault (served_all r outcomes run q c) e in
      let none : source_needed q ≡ 0 + source_of q list = let same = there.is in omega (arith, same) in
      one_of what r.catalog place run.sources.places 0 (source_of q list) q (omega (arith, sized, counts_long)) parts.1
      (subst (λ n. is_refused_for what n q ≡ true) none counted.1)

  -- so the lines are few for what was put back at the place
  few_back : (f : Counts → ℕ)
      → ((source : ℕ) → source < length run.sources.counts → UpTo r.settings.workers (count_by (is_refused_for what source) run.ran.ran.queries) (f (counts_at run.now source)))
      → UpTo r.settings.workers (count_by (is_refused_at r.catalog says place) outcomes)
      (sum_by f (used_at place (reverse (put_back r.catalog run.sources.places run.now))))
  few_back f each =
      let lines = lines_upto r outcomes run says what is place 0 run.ran.ran.queries r.lines outcomes (λ q c. c) run.ran.outcomes_are in
      let queries = count_le (fails_here r outcomes run says what is place) (fails_of what r.catalog place run.sources.places 0) run.ran.ran.queries
      (λ q c fails. found q q.refusal c refl fails) in
      let counts_long = run.opened.many_counts in
      let all = all_sources what f r.catalog place r.settings.workers run.ran.ran.queries run.sources.places run.now 0 (still_many r outcomes run)
      (λ source l.
      let same : source ≡ 0 + source = omega arith in
      subst (λ n. UpTo r.settings.workers (count_by (is_refused_for what n) run.ran.ran.queries) (f (counts_at run.now source))) same (each source (omega (arith, l, counts_long)))) in
      subst (UpTo r.settings.workers (count_by (is_refused_at r.catalog says place) outcomes)) (sym (sum_turned f place (put_back r.catalog run.sources.places run.now)))
      (up_to_less r.settings.workers _ _ _ (le_trans lines queries) all)

-- and for what rose at the place
few_for : (workers lines sum before mid after earlier : ℕ) → UpTo workers lines sum → min mid (2 ^ 64 - 1) ≡ min (before + earlier) (2 ^ 64 - 1)
    → min after (2 ^ 64 - 1) ≡ min (mid + sum) (2 ^ 64 - 1) → AreFew workers lines before after
few_for workers lines sum before mid after earlier up first second = elim (cases_lt after (2 ^ 64 - 1)) [
  | inr last ↦ inl (omega (arith, last))
  | inl counted ↦ elim up [
    | inl last ↦ absurd (omega (arith, last, first, second, counted))
    | inr few ↦ (
        let fewer : sum ≤ after - before = omega (arith, first, second, counted) in
        inr (le_trans few (mul-le-mul_left workers fewer)))
  ]
]

pub refuses_few : (r : CatalogRun) (outcomes : List LineOutcome) → IsRun r outcomes → (place : List ℕ) → RefusesFew r outcomes place
refuses_few r outcomes run place =
    let b = run.ran.ran in
    let back = reverse (put_back r.catalog run.sources.places run.now) in
    let failed = few_back r outcomes run says_failed kind.Failed (record { opening = λ list. refl; failed = λ list. refl; garbled = λ list. refl; moved = λ list had now. refl }) place (λ (c : Counts). c.faults)
    (λ source l. up_to_source r.settings.workers _ _ _ _ (b.counted source l).failed) in
    let garbled = few_back r outcomes run says_garbled kind.Garbled (record { opening = λ list. refl; failed = λ list. refl; garbled = λ list. refl; moved = λ list had now. refl }) place (λ (c : Counts). c.garbles)
    (λ source l. up_to_source r.settings.workers _ _ _ _ (b.counted source l).garbled) in
    let mid_is = run.opened.moves.sources place in
    let after_is = run.back.sources place in
    record {
      failed = few_for r.settings.workers _ (sum_by (λ (c : Counts). c.faults) (used_at place back)) (r.before place).sources.faults (run.mid place).sources.faults (r.after place).sources.faults (sum_by (λ (c : Counts). c.faults) (used_at place run.opened.used)) failed
          (ap (λ (c : Counts). min c.faults (2 ^ 64 - 1)) mid_is ∙ faults_sum (r.before place).sources (used_at place run.opened.used))
          (ap (λ (c : Counts). min c.faults (2 ^ 64 - 1)) after_is ∙ faults_sum (run.mid place).sources (used_at place back));
      garbled = few_for r.settings.workers _ (sum_by (λ (c : Counts). c.garbles) (used_at place back)) (r.before place).sources.garbles (run.mid place).sources.garbles (r.after place).sources.garbles (sum_by (λ (c : Counts). c.garbles) (used_at place run.opened.used)) garbled
          (ap (λ (c : Counts). min c.garbles (2 ^ 64 - 1)) mid_is ∙ garbles_sum (r.before place).sources (used_at place run.opened.used))
          (ap (λ (c : Counts). min c.garbles (2 ^ 64 - 1)) after_is ∙ garbles_sum (run.mid place).sources (used_at place back));
    }
