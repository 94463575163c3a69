-- What a call of the source brings, and what a turn does that begins with its plan.
use Rattle.std.proofs.Common.{◌≡◌, ◌≢◌, ◌≤◌, ◌+◌, ◌⊎◌, ◌||◌, ◌&&◌, inl, inr, ℕ, Bool, true, false, Option, Some, None, List, length, is_some, is_none, nat_le, IsSome, Contains, refl, sym, ap, subst, ◌∙◌, arith, le_trans}
use Rattle.std.specs.Option.{IfSome, option_map}
use Rattle.std.proofs.lemmas.Bool.{leb-true}
use Rattle.std.proofs.lemmas.List.Elements.{Contains-append_left}
use Rattle.ranked_list.specs.declared.row.Row.{Row}
use Rattle.turn_lock.specs.declared.known.Known.{Known}
use Rattle.turn_lock.specs.Facts.{IsFrontOf}
use Rattle.turn_lock.proofs.Growth.{begins_on}
use Rattle.source_state.specs.declared.ask.Ask.{Ask}
use Rattle.source_state.specs.declared.entry.LogEntry.{LogEntry}
use Rattle.source_api.specs.declared.source.FailKind.{FailKind}
use Rattle.source_state.specs.declared.event.Event.{Event}
use Rattle.source_state.specs.declared.event.Event.TheVariants as event
use Rattle.source_state.specs.declared.plan.Plan.{Plan}
use Rattle.source_state.specs.declared.plan.Plan.TheVariants as plan
use Rattle.source_state.specs.Log.{rows_in, fault_in, settling_in}
use Rattle.source_state.specs.State.{State, asked_as, first_pending, due_by}
use Rattle.source_state.specs.Events as events
use Rattle.source_state.specs.Events.{MayCome, MayMove, counted}
use Rattle.source_state.specs.Looking.{reach_of, state_reach}
use Rattle.source_state.proofs.AskLaws.{ask_is_found, pending_parts}
use Rattle.source_api.specs.declared.counts.Counts.{Counts}
use Rattle.source_api.specs.declared.source.Trouble.{Trouble}
use Rattle.source_api.specs.declared.source.Trouble.TheVariants as trouble
use Rattle.source_api.specs.Counting.{TroubleHasCause, MovedHasCause, GaveNothing, GaveRows, GaveGrade}
use Rattle.source_api.specs.Told.{IsPage, IsGrade}
use Rattle.fetcher.specs.declared.turned.Turned.{Turned}
use Rattle.fetcher.specs.declared.turned.Turned.TheVariants as turned
use Rattle.fetcher.specs.Turning.{IsFound, Feeds, IsPlanned, IsFed, BroughtFail, Brings, MayTellPage, IsNext, MayTellGrade, MayFetch, settled_by, answer_by, troubled_by, IsOfSource}
use Rattle.fetcher.proofs.ReachLaws.{reach_more}
use Rattle.fetcher.proofs.EventLaws.{page_stays, move_tally}

-- a page may come to any state that is found, where it may be told
pub page_may : (given : List Row) (known : Known LogEntry) → MayTellPage given known → (state : State) → IsFound state known → MayCome state (event.Page given)
page_may given known may state is =
    let rows : length (rows_in state.log) ≡ length (rows_in known.seen) = ap (λ log. length (rows_in log)) is.log in
    let count : state.count ≡ known.name.1 = ap (λ (p : ℕ × ℕ). p.1) is.name in
    let room = may.room in
    let fits = may.fits in
    record {
      no_fault = ap fault_in is.log ∙ may.no_fault;
      room = omega (arith, rows, count, room);
      fits = omega (arith, rows, count, fits);
    }

pub settled_may : (object : ℕ) (grade : Option ℕ) (known : Known LogEntry) → MayTellGrade object known → (state : State) → IsFound state known
    → MayCome state (settled_by object grade)
settled_may object None known may state is = may.pending state is
settled_may object (Some grade) known may state is = may.pending state is

-- the page that is next may be told, however few of its rows came
pub next_may : (from count : ℕ) (given : List Row) (known : Known LogEntry) → IsNext from count known → length given ≤ count → MayTellPage given known
next_may from count given known next few =
    let at = next.next in
    let some = next.some in
    let within = next.within in
    record { no_fault = next.no_fault; room = omega (arith, at, some, within); fits = omega (arith, at, few, within) }

-- what the feeder knows after an event
fed_tally : (e : Event) (before after : Known LogEntry) → IsFed e before after → ((s : State) → (events.after s e).tally ≡ s.tally) → after.tally ≡ before.tally
fed_tally e before after fed stays = fed.sees.tally ∙ (stays fed.found ∙ fed.is.tally)

-- a page that came
pub page_brings : (page ahead from count : ℕ) (given : List Row) (list : Option (List Row)) (counts now : Counts) (before after : Known LogEntry)
    → IsNext from count before
    → IsFed (event.Page given) before after → Feeds before after → length given ≤ count → GaveRows (length given) counts now → IfSome list (λ all. IsPage all from given)
    → 1 ≤ page → from + count ≤ reach_of before.sight.mark page ahead before.name.1 → Brings page ahead list counts now before after (turned.Paged (length given))
page_brings page ahead from count given list counts now before after next fed feeds few gave told some reach =
    let more : reach_of before.sight.mark page ahead before.name.1 ≤ reach_of after.sight.mark page ahead before.name.1 = reach_more page ahead before.name.1 before.sight.mark after.sight.mark some feeds.sight in
    let name : before.name.1 ≡ after.name.1 = ap (λ (p : ℕ × ℕ). p.1) (sym feeds.name) in
    let at = next.next in
    let near : length (rows_in before.seen) + length given ≤ reach_of after.sight.mark page ahead before.name.1 = le_trans (omega (arith, at, few)) (le_trans reach more) in
    record {
      given = given;
      size = refl;
      fed = fed;
      no_fault = next.no_fault;
      reach = subst (λ n. length (rows_in before.seen) + length given ≤ reach_of after.sight.mark page ahead n) name near;
      tally = fed_tally (event.Page given) before after fed (λ s. (page_stays s given).tally);
      gave = gave;
      told = subst (λ n. IfSome list (λ all. IsPage all n given)) at told;
    }

-- a grade that came, or none
pub grade_brings : (page ahead object : ℕ) (grade : Option ℕ) (list : Option (List Row)) (counts now : Counts) (before after : Known LogEntry)
    → IsFed (settled_by object grade) before after → GaveGrade counts now → IfSome list (λ all. IsGrade all object grade) → Brings page ahead list counts now before after (answer_by object grade)
grade_brings page ahead object None list counts now before after fed gave told = record { fed = fed; tally = fed_tally (event.Miss object) before after fed (λ s. refl); gave = gave; told = told }
grade_brings page ahead object (Some grade) list counts now before after fed gave told =
    record { grade = grade; fed = fed; tally = fed_tally (event.Grade object grade) before after fed (λ s. refl); gave = gave; told = told }

-- a call that failed
fail_is : (what : FailKind) (counts now : Counts) (before after : Known LogEntry) → IsFed (event.Fail what) before after
    → GaveNothing counts now → TroubleHasCause counts now (trouble.Fail what) → BroughtFail what counts now before after
fail_is what counts now before after fed gave cause = record { fed = fed; seen = fed.sees.log ∙ fed.is.log; tally = fed.sees.tally ∙ ap (counted what) fed.is.tally; gave = gave; cause = cause }

pub trouble_brings : (page ahead : ℕ) (object : Option ℕ) (why : Trouble) (list : Option (List Row)) (counts now : Counts) (before after : Known LogEntry)
    → IsFed (troubled_by object why) before after → GaveNothing counts now → TroubleHasCause counts now why → Brings page ahead list counts now before after (turned.Troubled why)
trouble_brings page ahead object (trouble.Fail what) list counts now before after fed gave cause = fail_is what counts now before after fed gave cause
trouble_brings page ahead object (trouble.Moved had other) list counts now before after fed gave cause = record {
  object = object;
  fed = fed;
  tally = fed_tally (event.Move object had other) before after fed (λ s. move_tally s object had other);
  gave = gave;
  cause = cause;
}

-- what is told of a call that gave nothing may be told
move_may : (object : Option ℕ) (why : Trouble) (version : ℕ) (told : Option ℕ) (known : Known LogEntry) → MovedHasCause version told why
    → ((state : State) → IsFound state known → MayMove state object) → (state : State) → IsFound state known → MayCome state (troubled_by object why)
move_may object (trouble.Fail what) version told known cause may state is = tt
move_may object (trouble.Moved had other) version told known cause may state is = (cause.differ, may state is)

pub page_trouble_may : (from count : ℕ) (why : Trouble) (version : ℕ) (told : Option ℕ) (known : Known LogEntry) → IsNext from count known
    → MovedHasCause version told why → (state : State) → IsFound state known → MayCome state (troubled_by None why)
page_trouble_may from count why version told known next cause =
    move_may None why version told known cause (λ state is.
    let rows : length (rows_in state.log) ≡ length (rows_in known.seen) = ap (λ log. length (rows_in log)) is.log in
    let whole : state.count ≡ known.name.1 = ap (λ (p : ℕ × ℕ). p.1) is.name in
    let at = next.next in
    let some = next.some in
    let within = next.within in
    (ap fault_in is.log ∙ next.no_fault, omega (arith, rows, whole, at, some, within)))

pub grade_trouble_may : (object : ℕ) (why : Trouble) (version : ℕ) (told : Option ℕ) (known : Known LogEntry) → MayTellGrade object known
    → MovedHasCause version told why → (state : State) → IsFound state known → MayCome state (troubled_by (Some object) why)
grade_trouble_may object why version told known may cause = move_may (Some object) why version told known cause may.pending

pub trouble_source : (object : Option ℕ) (why : Trouble) → IsOfSource (troubled_by object why)
trouble_source object (trouble.Fail what) = tt
trouble_source object (trouble.Moved had other) = tt

-- none of these is idle
pub paged_busy : (rows : ℕ) (answer : Turned) → answer ≡ turned.Paged rows → answer ≢ turned.Idle
paged_busy rows answer e idle = let bad : turned.Paged rows ≡ turned.Idle = sym e ∙ idle in absurd (cc)

pub answer_busy : (object : ℕ) (grade : Option ℕ) (answer : Turned) → answer ≡ answer_by object grade → answer ≢ turned.Idle
answer_busy object None answer e idle = let bad : turned.Missed object ≡ turned.Idle = sym e ∙ idle in absurd (cc)
answer_busy object (Some grade) answer e idle = let bad : turned.Graded object ≡ turned.Idle = sym e ∙ idle in absurd (cc)

pub failed_busy : (why : Trouble) (answer : Turned) → answer ≡ turned.Troubled why → answer ≢ turned.Idle
failed_busy why answer e idle = let bad : turned.Troubled why ≡ turned.Idle = sym e ∙ idle in absurd (cc)

-- what is found later is found from the beginning
found_from : (state : State) (page ahead : ℕ) (before mid : Known LogEntry) (planned : Plan) → IsPlanned page ahead before mid planned → Feeds before mid
    → IsFound state mid → IsFound state before
found_from state page ahead before mid planned p feeds is = record {
  sound = is.sound;
  name = is.name ∙ feeds.name;
  log = is.log ∙ (p.sees.log ∙ p.is.log);
  tally = is.tally ∙ (p.sees.tally ∙ p.is.tally);
  asks = begins_on feeds.follows.met is.asks;
  want = le_trans feeds.sight is.want;
}

fed_from : (e : Event) (page ahead : ℕ) (before mid after : Known LogEntry) (planned : Plan) → IsPlanned page ahead before mid planned → Feeds before mid
    → IsFed e mid after → IsFed e before after
fed_from e page ahead before mid after planned p feeds fed = record { found = fed.found; is = found_from fed.found page ahead before mid planned p feeds fed.is; may = fed.may; sound = fed.sound; sees = fed.sees }

fail_from : (what : FailKind) (counts now : Counts) (page ahead : ℕ) (before mid after : Known LogEntry) (planned : Plan)
    → IsPlanned page ahead before mid planned → Feeds before mid
    → BroughtFail what counts now mid after → BroughtFail what counts now before after
fail_from what counts now page ahead before mid after planned p feeds b = record {
  fed = fed_from (event.Fail what) page ahead before mid after planned p feeds b.fed;
  seen = b.seen ∙ (p.sees.log ∙ p.is.log);
  tally = b.tally ∙ ap (counted what) (p.sees.tally ∙ p.is.tally);
  gave = b.gave;
  cause = b.cause;
}

-- what a call brings after the plan was read, the turn brings
pub brings_from : (page ahead : ℕ) (list : Option (List Row)) (counts now : Counts) (before mid after : Known LogEntry) (planned : Plan) (answer : Turned)
    → IsPlanned page ahead before mid planned → Feeds before mid
    → answer ≢ turned.Idle → Brings page ahead list counts now mid after answer → Brings page ahead list counts now before after answer
brings_from page ahead list counts now before mid after planned (turned.Paged rows) p feeds busy b =
    let seen : mid.seen ≡ before.seen = p.sees.log ∙ p.is.log in
    record {
      given = b.given;
      size = b.size;
      fed = fed_from (event.Page b.given) page ahead before mid after planned p feeds b.fed;
      no_fault = ap fault_in (sym seen) ∙ b.no_fault;
      reach = subst (λ log. length (rows_in log) + rows ≤ reach_of after.sight.mark page ahead after.name.1) seen b.reach;
      tally = b.tally ∙ (p.sees.tally ∙ p.is.tally);
      gave = b.gave;
      told = subst (λ log. IfSome list (λ all. IsPage all (length (rows_in log)) b.given)) seen b.told;
    }
brings_from page ahead list counts now before mid after planned (turned.Graded object) p feeds busy b =
    record { grade = b.grade; fed = fed_from (event.Grade object b.grade) page ahead before mid after planned p feeds b.fed; tally = b.tally ∙ (p.sees.tally ∙ p.is.tally); gave = b.gave; told = b.told }
brings_from page ahead list counts now before mid after planned (turned.Missed object) p feeds busy b =
    record { fed = fed_from (event.Miss object) page ahead before mid after planned p feeds b.fed; tally = b.tally ∙ (p.sees.tally ∙ p.is.tally); gave = b.gave; told = b.told }
brings_from page ahead list counts now before mid after planned (turned.Troubled (trouble.Fail what)) p feeds busy b = fail_from what counts now page ahead before mid after planned p feeds b
brings_from page ahead list counts now before mid after planned (turned.Troubled (trouble.Moved had other)) p feeds busy b = record {
  object = b.object;
  fed = fed_from (event.Move b.object had other) page ahead before mid after planned p feeds b.fed;
  tally = b.tally ∙ (p.sees.tally ∙ p.is.tally);
  gave = b.gave;
  cause = b.cause;
}
brings_from page ahead list counts now before mid after planned turned.Idle p feeds busy b = absurd (busy refl)

-- nothing is due
idle_cases : (paused : Bool) (pending : Option ℕ) (reach rows : ℕ) (broken : Bool) → (paused || (is_none pending && (nat_le reach rows || broken))) ≡ true
    → (due_by paused pending ≡ 0) ⊎ ((due_by paused pending ≡ 2) × ((reach ≤ rows) ⊎ (broken ≡ true)))
idle_cases true pending reach rows broken e = inl refl
idle_cases false (Some object) reach rows broken e = absurd (let bad : false ≡ true = e in cc)
idle_cases false None reach rows broken e = inr (refl, by_rows (nat_le reach rows) refl e)
  where
    by_rows : (t : Bool) → nat_le reach rows ≡ t → (t || broken) ≡ true → (reach ≤ rows) ⊎ (broken ≡ true)
    by_rows true le or = inl (leb-true reach rows le)
    by_rows false le or = inr or

some_is : {A : Type 0} (o : Option A) → is_some o ≡ true → IsSome o
some_is None e = absurd (let bad : false ≡ true = e in cc)
some_is (Some x) e = refl

-- what the pass saw after a plan that is idle
pub idle_brings : (page ahead : ℕ) (list : Option (List Row)) (counts : Counts) (before after : Known LogEntry) → IsPlanned page ahead before after plan.Idle
    → Feeds before after → after.turns ≡ before.turns + 1
    → Brings page ahead list counts counts before after turned.Idle
idle_brings page ahead list counts before after p feeds turns =
    let name : p.found.count ≡ after.name.1 = ap (λ (q : ℕ × ℕ). q.1) (p.is.name ∙ sym feeds.name) in
    record {
      turns = turns;
      seen = p.sees.log ∙ p.is.log;
      tally = p.sees.tally ∙ p.is.tally;
      idle = elim (idle_cases p.found.paused (first_pending p.found) (state_reach p.found page ahead) (length (rows_in p.found.log)) (is_some (fault_in p.found.log)) p.serves) [
        | inl zeros ↦ inl (p.sees.due ∙ zeros)
        | inr rest ↦ inr (record {
          asks = p.sees.due ∙ rest.0;
          rows = elim rest.1 [
            | inl near ↦ inl (subst (λ n. reach_of after.sight.mark page ahead n ≤ length (rows_in after.seen)) name
                (subst (λ w. reach_of w page ahead p.found.count ≤ length (rows_in after.seen)) (sym p.sees.mark)
                (subst (λ log. state_reach p.found page ahead ≤ length (rows_in log)) (sym p.sees.log) near)))
            | inr broken ↦ inr (subst (λ log. IsSome (fault_in log)) (sym p.sees.log) (some_is (fault_in p.found.log) broken))
          ];
        })
      ];
      gave = refl;
    }

-- a page that is planned is next
pub planned_next : (page ahead from count : ℕ) (before after : Known LogEntry) → IsPlanned page ahead before after (plan.Page from count) → Feeds before after
    → IsNext from count after
planned_next page ahead from count before after p feeds =
    let name : p.found.count ≡ after.name.1 = ap (λ (q : ℕ × ℕ). q.1) (p.is.name ∙ sym feeds.name) in
    let reach = p.serves.reach in
    let within = p.serves.within in
    record {
      no_fault = ap fault_in p.sees.log ∙ p.serves.no_fault;
      next = p.serves.next ∙ ap (λ log. length (rows_in log)) (sym p.sees.log);
      some = p.serves.some;
      within = subst (λ n. from + count ≤ n) name (le_trans reach within);
    }

pub planned_reach : (page ahead from count : ℕ) (before after : Known LogEntry) → IsPlanned page ahead before after (plan.Page from count) → Feeds before after
    → from + count ≤ reach_of after.sight.mark page ahead after.name.1
planned_reach page ahead from count before after p feeds =
    let name : p.found.count ≡ after.name.1 = ap (λ (q : ℕ × ℕ). q.1) (p.is.name ∙ sym feeds.name) in
    subst (λ n. from + count ≤ reach_of after.sight.mark page ahead n) name
    (subst (λ w. from + count ≤ reach_of w page ahead p.found.count) (sym p.sees.mark) p.serves.reach)

-- a grade that is planned is pending, whatever state is found
begun_has : {A : Type 0} (xs ys : List A) (x : A) → IsFrontOf xs ys → Contains xs x → Contains ys x
begun_has xs ys x b c = subst (λ zs. Contains zs x) (sym b.goes_on) (Contains-append_left xs b.rest x c)

pub planned_pending : (page ahead object : ℕ) (before after : Known LogEntry) → IsPlanned page ahead before after (plan.Grade object)
    → MayTellGrade object after
planned_pending page ahead object before after p = record {
  pending = λ state is.
      let parts = pending_parts p.found object p.serves.pending in
      let log : state.log ≡ p.found.log = is.log ∙ p.sees.log in
      let there : Contains state.asks object = begun_has after.met state.asks object is.asks (subst (λ asks. Contains asks object) (sym p.sees.asks) parts.0) in
      ap (option_map (λ (one : Ask). asked_as one.settling)) (ask_is_found state.log state.asks object there)
      ∙ ap (λ l. Some (asked_as (settling_in l object))) log
      ∙ ap (λ o. Some (asked_as o)) parts.1;
}

-- what is settled comes of the source
pub settled_source : (object : ℕ) (grade : Option ℕ) → IsOfSource (settled_by object grade)
settled_source object None = tt
settled_source object (Some grade) = tt

-- what is planned may be fetched
pub may_fetch : (page ahead : ℕ) (before after : Known LogEntry) (next : Plan) → IsPlanned page ahead before after next → Feeds before after
    → MayFetch page ahead after next
may_fetch page ahead before after plan.Idle p feeds = tt
may_fetch page ahead before after (plan.Page from count) p feeds = (planned_next page ahead from count before after p feeds, planned_reach page ahead from count before after p feeds)
may_fetch page ahead before after (plan.Grade object) p feeds = planned_pending page ahead object before after p
