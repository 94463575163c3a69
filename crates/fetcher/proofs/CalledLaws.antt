-- What the calls of a source gave is what its log has, and each call follows those before it: turn by turn, and once the pool closes.
use Rattle.std.proofs.Common.{◌≡◌, ◌≤◌, ◌<◌, ◌-◌, ◌&&◌, ◌||◌, ◌⊎◌, inl, inr, ℕ, min, Bool, true, false, cond, Option, Some, None, List, [], ◌∷◌, ◌++◌, length, filter, is_none, is_some, nat_le, Contains, refl, sym, ap, subst, ◌∙◌, arith, le_refl, le_trans, append_assoc, append-nil}
use Rattle.std.specs.List.{cons_option}
use Rattle.std.specs.declared.result.Result.{Result}
use Rattle.std.specs.declared.result.Result.TheVariants.{Ok, Err}
use Rattle.std.proofs.lemmas.Bool.{cases_Bool, leb-false}
use Rattle.std.proofs.lemmas.Grind.{flat_map-append}
use Rattle.std.proofs.lemmas.List.{length-append}
use Rattle.std.proofs.lemmas.List.Elements.{Contains-append_left, filter-append}
use Rattle.ranked_list.specs.declared.row.Row.{Row}
use Rattle.ranked_list.specs.Table.{top_grade}
use Rattle.topk_theory.specs.Transcript.{Begins, last_grade}
use Rattle.topk_theory.specs.Bounds.{grade_among}
use Rattle.topk_theory.proofs.AgreementLists.{contains_here, contains_there, contains_cases, contains_nil, begins_trans, filter_map_push, filter_map_push_some, filter_map_push_none}
use Rattle.topk_theory.proofs.ThresholdLists.{contains_filter}
use Rattle.turn_lock.specs.declared.known.Known.{Known}
use Rattle.turn_lock.specs.Facts.{IsFrontOf}
use Rattle.source_api.specs.declared.source.Trouble.{Trouble}
use Rattle.source_api.specs.declared.source.Trouble.TheVariants as trouble
use Rattle.source_api.specs.Calls.{Call, with_call}
use Rattle.source_state.specs.declared.entry.LogEntry.{LogEntry}
use Rattle.source_state.specs.declared.entry.LogEntry.TheVariants.{Kept, Settled, Fault}
use Rattle.source_state.specs.declared.entry.Settling.{Settling}
use Rattle.source_state.specs.declared.entry.Settling.TheVariants.{Graded, Bad, Missed}
use Rattle.source_state.specs.declared.entry.SourceFault.{SourceFault}
use Rattle.source_state.specs.declared.entry.SourceFault.TheVariants.{OutOfOrder, TooHigh, Repeated, Clash, Above, ShortList, Moved}
use Rattle.source_state.specs.declared.event.Event.TheVariants as event
use Rattle.source_state.specs.declared.plan.Plan.{Plan}
use Rattle.source_state.specs.declared.plan.Plan.TheVariants as plan
use Rattle.source_state.specs.Log.{rows_in, settled_in, settling_in, faults_in, fault_in}
use Rattle.source_state.specs.State.{State, asks_of, first_pending, row_fault, settle, settle_by, opened}
use Rattle.source_state.specs.Events as events
use Rattle.source_state.specs.Events.{logged, row_or, with_rows, paged, failed, MayPage, MayCome}
use Rattle.source_state.specs.Looking.{reach_of, state_reach, is_idle, fetched, plan_of}
use Rattle.source_state.proofs.Lists.{no_first}
use Rattle.source_state.proofs.AskLaws.{pending_parts}
use Rattle.source_state.proofs.LookLaws.{pending_is}
use Rattle.source_state.proofs.LogLaws.{kept_faults, settled_rows, settled_faults, fault_rows, fault_faults, not_settled}
use Rattle.source_pool.specs.Closed.{IsClosed}
use Rattle.fetcher.specs.declared.turned.Turned.{Turned}
use Rattle.fetcher.specs.Turning.{IsFound, HasSeen}
use Rattle.fetcher.specs.Causes.{IsFaultOfRow, IsFaultOfGrade, ComesOf}
use Rattle.fetcher.specs.Calling.{page_event, grade_event, CalledForPage, CalledForGrade, IsCarriedOut, IsFetchTurn}
use Rattle.fetcher.specs.Chaining.{Point, CallTurn, AreCallTurns, MadeItsCalls, point}
use Rattle.fetcher.specs.Called.{rows_by, rows_given, page_fault, page_faults, is_of_page, settles, answer_of, grade_call, grade_calls, MayFollow, AreCallsOf, MadeCalls, WasCalled}
use Rattle.fetcher.proofs.CauseLaws.{begins_itself, page_grows, row_fault_is, settle_bad, page_comes, settled_comes, moved_comes, comes_none}
use Rattle.fetcher.proofs.EventLaws.{page_stays}

-- where a list with one more at its end is split
split_push : {X : Type 0} (xs : List X) (x : X) (before : List X) (y : X) (after : List X) → xs ++ x ∷ [] ≡ before ++ y ∷ after
    → ((before ≡ xs) × (y ≡ x)) ⊎ ((rest : List X) × (xs ≡ before ++ y ∷ rest))
split_push [] x [] y after e = inl (refl, let same : x ≡ y = cc in sym same)
split_push {X = X} [] x (b ∷ before) y after e =
    let one : 1 ≡ length ((b ∷ before) ++ y ∷ after) = ap (length {A = X}) e in
    absurd (omega (arith, one, length-append before (y ∷ after)))
split_push (z ∷ xs) x [] y after e = let same : z ≡ y = cc in inr (xs, ap (λ v. v ∷ xs) same)
split_push (z ∷ xs) x (b ∷ before) y after e =
    let same : z ≡ b = cc in
    let tail : xs ++ x ∷ [] ≡ before ++ y ∷ after = cc in
    elim (split_push xs x before y after tail) [
      | inl last ↦ inl ((ap (λ v. v ∷ before) (sym same) ∙ ap (λ vs. z ∷ vs) last.0), last.1)
      | inr more ↦ inr (more.0, (ap (λ v. v ∷ xs) same ∙ ap (λ vs. b ∷ vs) more.1))
    ]

-- a state later on: the count stays, no less is wanted, what was asked stays asked, and the rows that were kept stay the first ones
record IsLater (s t : State) : Type 0 where
  count : t.count ≡ s.count
  want : s.want ≤ t.want
  asks : (object : ℕ) → Contains s.asks object → Contains t.asks object
  rows : Begins (rows_in s.log) (rows_in t.log)

later_on : (s t u : State) → IsLater s t → IsLater t u → IsLater s u
later_on s t u a b = record {
  count = b.count ∙ a.count;
  want = le_trans a.want b.want;
  asks = λ object c. b.asks object (a.asks object c);
  rows = begins_trans (rows_in s.log) (rows_in t.log) (rows_in u.log) a.rows b.rows;
}

stays_later : (s t : State) → t.count ≡ s.count → t.want ≡ s.want → t.asks ≡ s.asks → Begins (rows_in s.log) (rows_in t.log) → IsLater s t
stays_later s t count want asks rows = record {
  count = count;
  want = subst (λ n. s.want ≤ n) (sym want) (le_refl s.want);
  asks = λ object c. subst (λ (objects : List ℕ). Contains objects object) (sym asks) c;
  rows = rows;
}

follows_later : (page ahead : ℕ) (s t : State) (before : List Call) (call : Call) → IsLater s t → MayFollow page ahead s before call
    → MayFollow page ahead t before call
follows_later page ahead s t before (Call.Size answer) later h = absurd h
follows_later page ahead s t before (Call.Page from count answer) later h = record {
  next = h.next;
  kept = begins_trans (rows_given before) (rows_in s.log) (rows_in t.log) h.kept later.rows;
  goes_on = subst (λ n. page_faults n before ≡ []) (sym later.count) h.goes_on;
  some = h.some;
  want = h.want;
  wanted = le_trans h.wanted later.want;
  size = subst (λ n. count ≡ min page (reach_of h.want page ahead n - from)) (sym later.count) h.size;
}
follows_later page ahead s t before (Call.Grade object answer) later h = record { asked = later.asks object h.asked; unsettled = h.unsettled }

-- the calls are those of a later state with the same log
calls_later : (page ahead : ℕ) (calls : List Call) (s t : State) → IsLater s t → t.log ≡ s.log → AreCallsOf page ahead calls s
    → AreCallsOf page ahead calls t
calls_later page ahead calls s t later same h = record {
  each = λ before after call is. follows_later page ahead s t before call later (h.each before after call is);
  comes = subst (λ log. ComesOf t.count (rows_given calls) log) (sym same) (subst (λ n. ComesOf n (rows_given calls) s.log) (sym later.count) h.comes);
  ended = ap (λ log. filter is_of_page (faults_in log)) same ∙ (h.ended ∙ ap (λ n. page_faults n calls) (sym later.count));
  settled = ap grade_calls same ∙ h.settled;
}

-- what one more call gave, in the log
record IsGiven (calls : List Call) (call : Call) (s t : State) : Type 0 where
  later : IsLater s t
  comes : ComesOf s.count (rows_given calls ++ rows_by call) t.log
  ended : filter is_of_page (faults_in t.log) ≡ filter is_of_page (faults_in s.log) ++ cons_option (page_fault s.count call) []
  settled : grade_calls t.log ≡ grade_calls s.log ++ filter settles (call ∷ [])

rows_more : (calls : List Call) (call : Call) → rows_given (calls ++ call ∷ []) ≡ rows_given calls ++ rows_by call
rows_more calls call = flat_map-append rows_by calls (call ∷ []) ∙ ap (λ xs. rows_given calls ++ xs) (append-nil (rows_by call))

each_more : (page ahead : ℕ) (calls : List Call) (call : Call) (t : State)
    → ((before after : List Call) (one : Call) → calls ≡ before ++ one ∷ after → MayFollow page ahead t before one)
    → MayFollow page ahead t calls call
    → (before after : List Call) (one : Call) → calls ++ call ∷ [] ≡ before ++ one ∷ after → MayFollow page ahead t before one
each_more page ahead calls call t old new before after one is =
    elim (split_push calls call before one after is) [
      | inl last ↦ subst (λ b. MayFollow page ahead t b one) (sym last.0) (subst (MayFollow page ahead t calls) (sym last.1) new)
      | inr more ↦ old before more.0 one more.1
    ]

one_more : (page ahead : ℕ) (calls : List Call) (call : Call) (s t : State) → IsGiven calls call s t → MayFollow page ahead t calls call
    → AreCallsOf page ahead calls s → AreCallsOf page ahead (calls ++ call ∷ []) t
one_more page ahead calls call s t c may h = record {
  each = each_more page ahead calls call t (λ before after one is. follows_later page ahead s t before one c.later (h.each before after one is)) may;
  comes = subst (λ rows. ComesOf t.count rows t.log) (sym (rows_more calls call))
      (subst (λ n. ComesOf n (rows_given calls ++ rows_by call) t.log) (sym c.later.count) c.comes);
  ended = c.ended ∙ (ap (λ xs. xs ++ cons_option (page_fault s.count call) []) h.ended
      ∙ (sym (filter_map_push (page_fault s.count) calls call) ∙ ap (λ n. page_faults n (calls ++ call ∷ [])) (sym c.later.count)));
  settled = c.settled ∙ (ap (λ xs. xs ++ filter settles (call ∷ [])) h.settled ∙ sym (filter-append settles calls (call ∷ [])));
}

-- a call that failed
gave_nothing : (calls : List Call) (call : Call) (s t : State) → IsLater s t → t.log ≡ s.log → rows_by call ≡ [] → page_fault s.count call ≡ None
    → filter settles (call ∷ []) ≡ [] → ComesOf s.count (rows_given calls) s.log → IsGiven calls call s t
gave_nothing calls call s t later same none free unsettled h = record {
  later = later;
  comes = subst (λ log. ComesOf s.count (rows_given calls ++ rows_by call) log) (sym same)
      (subst (λ rows. ComesOf s.count rows s.log) (sym (ap (λ xs. rows_given calls ++ xs) none ∙ append-nil (rows_given calls))) h);
  ended = ap (λ log. filter is_of_page (faults_in log)) same
      ∙ sym (ap (λ o. filter is_of_page (faults_in s.log) ++ cons_option o []) free ∙ append-nil (filter is_of_page (faults_in s.log)));
  settled = ap grade_calls same ∙ sym (ap (λ xs. grade_calls s.log ++ xs) unsettled ∙ append-nil (grade_calls s.log));
}

-- the rows of a page show no fault of a page, and settle nothing
record KeepsAside (s t : State) : Type 0 where
  ended : filter is_of_page (faults_in t.log) ≡ filter is_of_page (faults_in s.log)
  settled : grade_calls t.log ≡ grade_calls s.log

of_row : (log : List LogEntry) (row : Row) (fault : SourceFault) → IsFaultOfRow log row fault → is_of_page fault ≡ false
of_row log row (OutOfOrder place above below) h = refl
of_row log row (TooHigh place grade) h = refl
of_row log row (Repeated object place) h = refl
of_row log row (Clash object sorted random) h = refl
of_row log row (Above object grade bottom) h = refl
of_row log row (ShortList stated got) h = absurd h
of_row log row (Moved had now) h = absurd h

row_aside : (o : Option SourceFault) (s : State) (row : Row) (next : State → State) → ((fault : SourceFault) → o ≡ Some fault → is_of_page fault ≡ false)
    → ((t : State) → KeepsAside t (next t)) → KeepsAside s (row_or o s row next)
row_aside None s row next of h =
    let more = h (logged s (Kept row)) in
    record {
      ended = more.ended ∙ ap (filter is_of_page) (kept_faults s.log row);
      settled = more.settled ∙ filter_map_push_none grade_call s.log (Kept row) refl;
    }
row_aside (Some fault) s row next of h = record {
  ended = ap (filter is_of_page) (fault_faults s.log fault) ∙ (filter-append is_of_page (faults_in s.log) (fault ∷ [])
      ∙ (ap (λ b. filter is_of_page (faults_in s.log) ++ cond b (fault ∷ []) []) (of fault refl) ∙ append-nil (filter is_of_page (faults_in s.log))));
  settled = filter_map_push_none grade_call s.log (Fault fault) refl;
}

rows_aside : (s : State) (rows : List Row) → KeepsAside s (with_rows s rows)
rows_aside s [] = record { ended = refl; settled = refl }
rows_aside s (row ∷ rows) =
    row_aside (row_fault (rows_in s.log) (asks_of s) row) s row (λ t. with_rows t rows) (λ fault e. of_row s.log row fault (row_fault_is s.log s.asks row fault e))
    (λ t. rows_aside t rows)

page_later : (s : State) (rows : List Row) → IsLater s (paged s rows)
page_later s rows = let stays = page_stays s rows in stays_later s (paged s rows) stays.count stays.want stays.asks (page_grows s rows)

-- a page that was answered
page_given : (calls : List Call) (from count : ℕ) (rows : List Row) (s : State) → MayPage s rows → from ≡ length (rows_in s.log)
    → ComesOf s.count (rows_given calls) s.log → IsGiven calls (Call.Page from count (Ok rows)) s (paged s rows)
page_given calls from count [] s may at h =
    let fault : SourceFault = ShortList s.count (length (rows_in s.log)) in
    record {
      later = page_later s [];
      comes = page_comes s.count (rows_given calls) [] s refl may h;
      ended = ap (filter is_of_page) (fault_faults s.log fault) ∙ (filter-append is_of_page (faults_in s.log) (fault ∷ [])
          ∙ ap (λ n. filter is_of_page (faults_in s.log) ++ ShortList s.count n ∷ []) (sym at));
      settled = filter_map_push_none grade_call s.log (Fault fault) refl ∙ sym (append-nil (grade_calls s.log));
    }
page_given calls from count (row ∷ rows) s may at h =
    let aside = rows_aside s (row ∷ rows) in
    record {
      later = page_later s (row ∷ rows);
      comes = page_comes s.count (rows_given calls) (row ∷ rows) s refl may h;
      ended = aside.ended ∙ sym (append-nil (filter is_of_page (faults_in s.log)));
      settled = aside.settled ∙ sym (append-nil (grade_calls s.log));
    }

-- a page of a list that was replaced
page_moved : (calls : List Call) (from count had now : ℕ) (s : State) → MayCome s (event.Move None had now)
    → ComesOf s.count (rows_given calls) s.log → IsGiven calls (Call.Page from count (Err (trouble.Moved had now))) s (logged s (Fault (Moved had now)))
page_moved calls from count had now s may h =
    let fault : SourceFault = Moved had now in
    record {
      later = stays_later s (logged s (Fault fault)) refl refl refl (subst (Begins (rows_in s.log)) (sym (fault_rows s.log fault)) (begins_itself (rows_in s.log)));
      comes = subst (λ rows. ComesOf s.count rows (s.log ++ Fault fault ∷ [])) (sym (append-nil (rows_given calls)))
          (moved_comes s.count (rows_given calls) s.log had now may.1.0 may.0 may.1.1 h);
      ended = ap (filter is_of_page) (fault_faults s.log fault) ∙ filter-append is_of_page (faults_in s.log) (fault ∷ []);
      settled = filter_map_push_none grade_call s.log (Fault fault) refl ∙ sym (append-nil (grade_calls s.log));
    }

-- a grade that settled its object
grade_given : (calls : List Call) (object : ℕ) (answer : Result (Option ℕ) Trouble) (settling : Settling) (s : State) → settling_in s.log object ≡ None
    → ((fault : SourceFault) → settling ≡ Bad fault → IsFaultOfGrade (rows_in s.log) object fault) → answer_of settling ≡ answer
    → filter settles (Call.Grade object answer ∷ []) ≡ Call.Grade object answer ∷ []
    → ComesOf s.count (rows_given calls) s.log → IsGiven calls (Call.Grade object answer) s (logged s (Settled object settling))
grade_given calls object answer settling s pending well is settled h = record {
  later = stays_later s (logged s (Settled object settling)) refl refl refl
      (subst (Begins (rows_in s.log)) (sym (settled_rows s.log object settling)) (begins_itself (rows_in s.log)));
  comes = subst (λ rows. ComesOf s.count rows (s.log ++ Settled object settling ∷ [])) (sym (append-nil (rows_given calls)))
      (settled_comes s.count (rows_given calls) s.log object settling pending well h);
  ended = ap (filter is_of_page) (settled_faults s.log object settling) ∙ sym (append-nil (filter is_of_page (faults_in s.log)));
  settled = filter_map_push_some grade_call s.log (Settled object settling) (Call.Grade object (answer_of settling)) refl
      ∙ (ap (λ a. grade_calls s.log ++ Call.Grade object a ∷ []) is ∙ ap (λ xs. grade_calls s.log ++ xs) (sym settled));
}

-- the answer of what a grade settles as
settle_answer : (rows : List Row) (object grade : ℕ) → answer_of (settle rows object grade) ≡ Ok (Some grade)
settle_answer rows object grade = by (grade_among rows object)
  where
    none : (b : Bool) → answer_of (cond b (Bad (Above object grade (last_grade top_grade rows))) (Graded grade)) ≡ Ok (Some grade)
    none true = refl
    none false = refl

    some : (sorted : ℕ) (b : Bool) → answer_of (cond b (Graded grade) (Bad (Clash object sorted grade))) ≡ Ok (Some grade)
    some sorted true = refl
    some sorted false = refl

    by : (held : Option ℕ) → answer_of (settle_by held (last_grade top_grade rows) object grade) ≡ Ok (Some grade)
    by None = none _
    by (Some sorted) = some sorted _

-- what a plan for a page says of the state
record IsPagePlan (page ahead : ℕ) (s : State) (from count : ℕ) : Type 0 where
  none : fault_in s.log ≡ None
  next : from ≡ length (rows_in s.log)
  some : 1 ≤ count
  size : count ≡ min page (state_reach s page ahead - from)

either_false : (a b : Bool) → (a || b) ≡ false → (a ≡ false) × (b ≡ false)
either_false true b e = absurd (cc)
either_false false b e = (refl, e)

not_some : {X : Type 0} (o : Option X) → is_some o ≡ false → o ≡ None
not_some None e = refl
not_some (Some x) e = absurd (cc)

-- a plan that isn't idle and is for no grade
planned_page : (page ahead : ℕ) (s : State) (from count : ℕ) → 1 ≤ page
    → (s.paused || (nat_le (state_reach s page ahead) (length (rows_in s.log)) || is_some (fault_in s.log))) ≡ false
    → plan.Page from count ≡ plan.Page (length (rows_in s.log)) (min page (state_reach s page ahead - length (rows_in s.log)))
    → IsPagePlan page ahead s from count
planned_page page ahead s from count pages goes is =
    let parts = either_false (nat_le (state_reach s page ahead) (length (rows_in s.log))) (is_some (fault_in s.log)) (either_false s.paused _ goes).1 in
    let at : from ≡ length (rows_in s.log) = cc in
    let many : count ≡ min page (state_reach s page ahead - length (rows_in s.log)) = cc in
    let more : length (rows_in s.log) < state_reach s page ahead = leb-false (state_reach s page ahead) (length (rows_in s.log)) parts.0 in
    record {
      none = not_some (fault_in s.log) parts.1;
      next = at;
      some = omega (arith, many, more, pages);
      size = subst (λ n. count ≡ min page (state_reach s page ahead - n)) (sym at) many;
    }

page_plan : (page ahead : ℕ) (s : State) (from count : ℕ) → 1 ≤ page → plan.Page from count ≡ plan_of s page ahead → IsPagePlan page ahead s from count
page_plan page ahead s from count pages is = by_idle (is_idle s page ahead) refl is
  where
    by_first : (o : Option ℕ) → (s.paused || (is_none o && (nat_le (state_reach s page ahead) (length (rows_in s.log)) || is_some (fault_in s.log)))) ≡ false
        → plan.Page from count ≡ fetched o (length (rows_in s.log)) (min page (state_reach s page ahead - length (rows_in s.log)))
        → IsPagePlan page ahead s from count
    by_first (Some object) goes is = absurd (cc)
    by_first None goes is = planned_page page ahead s from count pages goes is

    by_idle : (b : Bool) → is_idle s page ahead ≡ b
        → plan.Page from count ≡ cond b plan.Idle (fetched (first_pending s) (length (rows_in s.log)) (min page (state_reach s page ahead - length (rows_in s.log))))
        → IsPagePlan page ahead s from count
    by_idle true goes is = absurd (cc)
    by_idle false goes is = by_first (first_pending s) goes is

grade_plan : (page ahead : ℕ) (s : State) (object : ℕ) → plan.Grade object ≡ plan_of s page ahead → first_pending s ≡ Some object
grade_plan page ahead s object is = by_idle (is_idle s page ahead) is
  where
    by_first : (o : Option ℕ) (from count : ℕ) → plan.Grade object ≡ fetched o from count → o ≡ Some object
    by_first None from count is = absurd (cc)
    by_first (Some other) from count is = let same : object ≡ other = cc in ap (λ (n : ℕ). Some n) (sym same)

    by_idle : (b : Bool) → plan.Grade object ≡ cond b plan.Idle (fetched (first_pending s) (length (rows_in s.log)) (min page (state_reach s page ahead - length (rows_in s.log))))
        → first_pending s ≡ Some object
    by_idle true is = absurd (cc)
    by_idle false is = by_first (first_pending s) _ _ is

-- a call for a page that is planned follows
page_follows : (page ahead : ℕ) (calls : List Call) (s t : State) (from count : ℕ) (answer : Result (List Row) Trouble) → IsPagePlan page ahead s from count → IsLater s t
    → AreCallsOf page ahead calls s → MayFollow page ahead t calls (Call.Page from count answer)
page_follows page ahead calls s t from count answer p later h =
    let all : rows_in s.log ≡ rows_given calls = h.comes.all p.none in
    record {
      next = p.next ∙ ap (length {A = Row}) all;
      kept = subst (λ rows. Begins rows (rows_in t.log)) all later.rows;
      goes_on = ap (λ n. page_faults n calls) later.count ∙ (sym h.ended ∙ ap (filter is_of_page) (no_first (faults_in s.log) p.none));
      some = p.some;
      want = s.want;
      wanted = later.want;
      size = subst (λ n. count ≡ min page (reach_of s.want page ahead n - from)) (sym later.count) p.size;
    }

-- a call for a grade that is planned follows
settled_call : (log : List LogEntry) (object : ℕ) (answer : Result (Option ℕ) Trouble) → Contains (grade_calls log) (Call.Grade object answer)
    → Contains (settled_in log) object
settled_call [] object answer c = absurd (contains_nil (Call.Grade object answer) c)
settled_call (Kept row ∷ log) object answer c = settled_call log object answer c
settled_call (Fault fault ∷ log) object answer c = settled_call log object answer c
settled_call (Settled other settling ∷ log) object answer c =
    elim (contains_cases (Call.Grade other (answer_of settling)) (grade_calls log) (Call.Grade object answer) c) [
      | inl same ↦ let is : other ≡ object = cc in subst (λ o. Contains (other ∷ settled_in log) o) is (contains_here other (settled_in log))
      | inr deep ↦ contains_there other (settled_in log) object (settled_call log object answer deep)
    ]

grade_follows : (page ahead : ℕ) (calls : List Call) (s t : State) (object : ℕ) (answer : Result (Option ℕ) Trouble) → first_pending s ≡ Some object → IsLater s t
    → AreCallsOf page ahead calls s → MayFollow page ahead t calls (Call.Grade object answer)
grade_follows page ahead calls s t object answer first later h =
    let parts = pending_parts s object (pending_is s object first) in
    record {
      asked = later.asks object parts.0;
      unsettled = λ other c. elim (cases_Bool (settles (Call.Grade object other))) [
        | inl yes_ ↦
            let there : Contains (grade_calls s.log) (Call.Grade object other) =
            subst (λ xs. Contains xs (Call.Grade object other)) (sym h.settled) (contains_filter settles calls (Call.Grade object other) c yes_) in
            absurd (not_settled s.log object parts.1 (settled_call s.log object other there))
        | inr no_ ↦ no_
      ];
    }

-- a state as a pass has seen it
record Shows (s : State) (known : Known LogEntry) : Type 0 where
  log : s.log ≡ known.seen
  asks : s.asks ≡ known.met
  want : s.want ≡ known.sight.mark
  count : s.count ≡ known.name.1

shows_seen : (s : State) (known : Known LogEntry) → HasSeen s known → Shows s known
shows_seen s known h = record { log = sym h.log; asks = sym h.asks; want = sym h.mark; count = ap (λ (p : ℕ × ℕ). p.1) (sym h.name) }

-- the state that is found next is a later one with the same log
found_log : (s f : State) (known : Known LogEntry) → Shows s known → IsFound f known → f.log ≡ s.log
found_log s f known h is = is.log ∙ sym h.log

on_front : (xs ys : List ℕ) (x : ℕ) → IsFrontOf xs ys → Contains xs x → Contains ys x
on_front xs ys x front c = subst (λ zs. Contains zs x) (sym front.goes_on) (Contains-append_left xs _ x c)

found_later : (s f : State) (known : Known LogEntry) → Shows s known → IsFound f known → IsLater s f
found_later s f known h is = record {
  count = ap (λ (p : ℕ × ℕ). p.1) is.name ∙ sym h.count;
  want = subst (λ n. n ≤ f.want) (sym h.want) is.want;
  asks = λ object c. on_front known.met f.asks object is.asks (subst (λ asks. Contains asks object) h.asks c);
  rows = subst (λ log. Begins (rows_in s.log) (rows_in log)) (sym (found_log s f known h is)) (begins_itself (rows_in s.log));
}

found_calls : (page ahead : ℕ) (calls : List Call) (s f : State) (known : Known LogEntry) → Shows s known → IsFound f known → AreCallsOf page ahead calls s
    → AreCallsOf page ahead calls f
found_calls page ahead calls s f known h is are = calls_later page ahead calls s f (found_later s f known h is) (found_log s f known h is) are

-- the calls that were made so far, and the state that the pass has seen last
record Reached (page ahead : ℕ) (made : List Call) (now : Option (List Call)) (known : Known LogEntry) : Type 0 where
  state : State
  shows : Shows state known
  calls : List Call
  all : now ≡ Some (made ++ calls)
  are : AreCallsOf page ahead calls state

with_one : (made calls : List Call) (call : Call) (before now : Option (List Call)) → before ≡ Some (made ++ calls) → now ≡ with_call call before
    → now ≡ Some (made ++ (calls ++ call ∷ []))
with_one made calls call before now was is = is ∙ (ap (with_call call) was ∙ ap (λ (xs : List Call). Some xs) (append_assoc made calls (call ∷ [])))

-- what the answer to a call for a page gave, and what the answer to one for a grade gave
answered_page : (calls : List Call) (from count : ℕ) (answer : Result (List Row) Trouble) (s : State) → MayCome s (page_event answer)
    → from ≡ length (rows_in s.log) → ComesOf s.count (rows_given calls) s.log → IsGiven calls (Call.Page from count answer) s (events.after s (page_event answer))
answered_page calls from count (Ok rows) s may at h = page_given calls from count rows s may at h
answered_page calls from count (Err (trouble.Fail what)) s may at h =
    gave_nothing calls (Call.Page from count (Err (trouble.Fail what))) s (failed s what)
    (stays_later s (failed s what) refl refl refl (begins_itself (rows_in s.log))) refl refl refl refl h
answered_page calls from count (Err (trouble.Moved had now)) s may at h = page_moved calls from count had now s may h

answered_grade : (calls : List Call) (object : ℕ) (answer : Result (Option ℕ) Trouble) (s : State) → MayCome s (grade_event object answer)
    → ComesOf s.count (rows_given calls) s.log → IsGiven calls (Call.Grade object answer) s (events.after s (grade_event object answer))
answered_grade calls object (Ok None) s may h =
    grade_given calls object (Ok None) Missed s (pending_parts s object may).1 (λ fault e. absurd (let bad : Missed ≡ Bad fault = e in cc)) refl refl h
answered_grade calls object (Ok (Some grade)) s may h =
    grade_given calls object (Ok (Some grade)) (settle (rows_in s.log) object grade) s (pending_parts s object may).1
    (λ fault e. settle_bad (rows_in s.log) object grade fault e) (settle_answer (rows_in s.log) object grade) refl h
answered_grade calls object (Err (trouble.Fail what)) s may h =
    gave_nothing calls (Call.Grade object (Err (trouble.Fail what))) s (failed s what)
    (stays_later s (failed s what) refl refl refl (begins_itself (rows_in s.log))) refl refl refl refl h
answered_grade calls object (Err (trouble.Moved had now)) s may h =
    grade_given calls object (Err (trouble.Moved had now)) (Bad (Moved had now)) s (pending_parts s object may.1).1 (λ fault e. moved_bad fault e) refl refl h
  where
    moved_bad : (fault : SourceFault) → Bad (Moved had now) ≡ Bad fault → IsFaultOfGrade (rows_in s.log) object fault
    moved_bad fault e = let is : Moved had now ≡ fault = cc in subst (IsFaultOfGrade (rows_in s.log) object) is may.0

-- the plan is carried out
module _ (page ahead : ℕ) (some : 1 ≤ page) (made calls : List Call) (before now : Option (List Call)) (f : State) (looked after : Known LogEntry) (turn : Turned)
    (shows : Shows f looked) (all : before ≡ Some (made ++ calls)) (are : AreCallsOf page ahead calls f) where
  page_carried : (from count : ℕ) → IsPagePlan page ahead f from count → CalledForPage from count before now looked after turn
      → Reached page ahead made now after
  page_carried from count p c =
      let g = c.told.found in
      let call = Call.Page from count c.answer in
      let next = found_later f g looked shows c.told.is in
      let h = found_calls page ahead calls f g looked shows c.told.is are in
      let at : from ≡ length (rows_in g.log) = p.next ∙ ap (λ log. length (rows_in log)) (sym (found_log f g looked shows c.told.is)) in
      let given = answered_page calls from count c.answer g c.told.may at h.comes in
      let t : State = events.after g (page_event c.answer) in
      record {
        state = t;
        shows = shows_seen t after c.told.sees;
        calls = calls ++ call ∷ [];
        all = with_one made calls call before now all c.called;
        are = one_more page ahead calls call g t given (page_follows page ahead calls f t from count c.answer p (later_on f g t next given.later) are) h;
      }

  grade_carried : (object : ℕ) → first_pending f ≡ Some object → CalledForGrade object before now looked after turn → Reached page ahead made now after
  grade_carried object first c =
      let g = c.told.found in
      let call = Call.Grade object c.answer in
      let next = found_later f g looked shows c.told.is in
      let h = found_calls page ahead calls f g looked shows c.told.is are in
      let given = answered_grade calls object c.answer g c.told.may h.comes in
      let t : State = events.after g (grade_event object c.answer) in
      record {
        state = t;
        shows = shows_seen t after c.told.sees;
        calls = calls ++ call ∷ [];
        all = with_one made calls call before now all c.called;
        are = one_more page ahead calls call g t given (grade_follows page ahead calls f t object c.answer first (later_on f g t next given.later) are) h;
      }

  carried_out : (next : Plan) → next ≡ plan_of f page ahead → IsCarriedOut next before now looked after turn → Reached page ahead made now after
  carried_out plan.Idle is c = record {
    state = f;
    shows = subst (Shows f) (sym c.rests) shows;
    calls = calls;
    all = c.uncalled ∙ all;
    are = are;
  }
  carried_out (plan.Page from count) is c = page_carried from count (page_plan page ahead f from count some is) c
  carried_out (plan.Grade object) is c = grade_carried object (grade_plan page ahead f object is) c

turn_reached : (page ahead : ℕ) → 1 ≤ page → (made : List Call) (before : Point) (turn : CallTurn)
    → IsFetchTurn page ahead before.calls turn.next.calls before.known turn.next.known turn.answer
    → Reached page ahead made before.calls before.known → Reached page ahead made turn.next.calls turn.next.known
turn_reached page ahead some made before turn t r =
    let f = t.looks.found in
    carried_out page ahead some made r.calls before.calls turn.next.calls f t.looked turn.next.known turn.answer (shows_seen f t.looked t.looks.sees) r.all
    (found_calls page ahead r.calls r.state f before.known r.shows t.looks.is r.are) t.next t.looks.plans t.carries

turns_reached : (page ahead : ℕ) → 1 ≤ page → (made : List Call) (before : Point) (turns : List CallTurn) (after : Point) → AreCallTurns page ahead before turns after
    → Reached page ahead made before.calls before.known → Reached page ahead made after.calls after.known
turns_reached page ahead some made before [] after is r = subst (λ (p : Point). Reached page ahead made p.calls p.known) (sym is) r
turns_reached page ahead some made before (turn ∷ turns) after is r =
    turns_reached page ahead some made turn.next turns after is.1 (turn_reached page ahead some made before turn is.0 r)

-- before any turn
no_calls : (page ahead : ℕ) (s : State) → s.log ≡ [] → AreCallsOf page ahead [] s
no_calls page ahead s none = record {
  each = λ before after call is. absurd (split_none before after call is);
  comes = subst (ComesOf s.count []) (sym none) (comes_none s.count);
  ended = ap (λ log. filter is_of_page (faults_in log)) none;
  settled = ap grade_calls none;
}
  where
    split_none : (before after : List Call) (call : Call) → [] ≡ before ++ call ∷ after → ⊥
    split_none before after call is =
        let long : 0 ≡ length (before ++ call ∷ after) = ap (length {A = Call}) is in
        omega (arith, long, length-append before (call ∷ after))

none_reached : (page ahead : ℕ) (made : List Call) (first : Known LogEntry) → first.seen ≡ [] → Reached page ahead made (Some made) first
none_reached page ahead made first none =
    let s : State = record (opened first.name.0 first.name.1) { want = first.sight.mark; asks = first.met } in
    record {
      state = s;
      shows = record { log = sym none; asks = refl; want = refl; count = refl };
      calls = [];
      all = ap (λ (xs : List Call). Some xs) (sym (append-nil made));
      are = no_calls page ahead s refl;
    }

-- the state at the close
reached_closed : (page ahead : ℕ) (made : List Call) (now : Option (List Call)) (last pass : Known LogEntry) (s : State) → IsClosed last pass s
    → Reached page ahead made now last → MadeCalls page ahead made now s
reached_closed page ahead made now last pass s closed r =
    let same : s.log ≡ r.state.log = closed.log ∙ sym r.shows.log in
    record {
      calls = r.calls;
      all = r.all;
      are = calls_later page ahead r.calls r.state s (record {
        count = ap (λ (p : ℕ × ℕ). p.1) closed.name ∙ sym r.shows.count;
        want = subst (λ n. n ≤ s.want) (sym r.shows.want) closed.sight;
        asks = λ object c. on_front last.met s.asks object closed.asked (subst (λ asks. Contains asks object) r.shows.asks c);
        rows = subst (λ log. Begins (rows_in r.state.log) (rows_in log)) (sym same) (begins_itself (rows_in r.state.log));
      }) same r.are;
    }

-- the turns of a fetcher from an empty log on, until its pool closes
pub was_called : (page ahead : ℕ) (before now : Option (List Call)) (first last pass : Known LogEntry) (s : State) → 1 ≤ page → first.seen ≡ []
    → MadeItsCalls page ahead (point before first) (point now last) → IsClosed last pass s → WasCalled page ahead before now s
was_called page ahead None now first last pass s some none made closed = tt
was_called page ahead (Some calls) now first last pass s some none made closed =
    reached_closed page ahead calls now last pass s closed
    (turns_reached page ahead some calls (point (Some calls) first) made.turns (point now last) made.each (none_reached page ahead calls first none))

-- none were made of a state of which nothing was read
pub not_called : (page ahead : ℕ) (calls : Option (List Call)) (s : State) → s.log ≡ [] → WasCalled page ahead calls calls s
not_called page ahead None s none = tt
not_called page ahead (Some calls) s none = record { calls = []; all = ap (λ (xs : List Call). Some xs) (sym (append-nil calls)); are = no_calls page ahead s none }
