-- What a turn of a feeder leaves of it, by what the calls in the turn ensure.
use Rattle.std.proofs.Common.{◌≡◌, ◌+◌, ◌++◌, ◌∷◌, [], ℕ, List, refl, sym, ap, subst, ◌∙◌, le_trans}
use Rattle.std.specs.Option.{IfSome, IsSomeAnd}
use Rattle.atomic_table.specs.Seated.{TableId}
use Rattle.turn_lock.specs.declared.facts.Facts.{Facts}
use Rattle.turn_lock.specs.declared.known.Known.{Known}
use Rattle.turn_lock.specs.Facts.{FactsGrow}
use Rattle.turn_lock.specs.Known.{KnowsOf, HasAll, after_turn}
use Rattle.turn_lock.proofs.Growth.{begins_on, at_most_on, grows_same}
use Rattle.source_state.specs.declared.entry.LogEntry.{LogEntry}
use Rattle.source_state.specs.declared.event.Event.{Event}
use Rattle.source_state.specs.declared.plan.Plan.{Plan}
use Rattle.source_state.specs.State.{State, facts_of, IsSound}
use Rattle.source_state.specs.Events as events
use Rattle.source_state.specs.Events.{MayCome}
use Rattle.source_state.specs.Looking.{plan_of, Serves}
use Rattle.source_pool.specs.Passes.{Feed, IsFeederOf, IsIdleOf, in_turn, turned}
use Rattle.source_pool.proofs.TurnLaws.{marks_kept}
use Rattle.fetcher.specs.Turning.{IsFound, HasSeen, Feeds, IsPlanned, IsFed, IsOfSource}
use Rattle.fetcher.specs.Calling.{IsLooked, PutsEvent}
use Rattle.fetcher.proofs.EventLaws.{event_want, event_asks}

-- a state that the writer took
pub found_by : (s : State) (known : Known LogEntry) → KnowsOf (facts_of s) known → HasAll (facts_of s) known → IsSound s → IsFound s known
found_by s known agrees all sound = record { sound = sound; name = agrees.name; log = sym all.seen; tally = sym all.tally; asks = agrees.past.met; want = agrees.sight }

pub feeds_by : (s t : State) (known : Known LogEntry) → KnowsOf (facts_of s) known → FactsGrow (facts_of s) (facts_of t) → t.want ≡ s.want → t.asks ≡ s.asks
    → Feeds known (after_turn (facts_of s) (facts_of t) known)
feeds_by s t known agrees grows want asks =
    let marks = marks_kept (facts_of s) (facts_of t) known want asks in
    record {
      follows = record {
        seen = begins_on agrees.past.seen grows.log;
        met = begins_on agrees.past.met grows.asks;
        tally = at_most_on agrees.past.tally grows.tally;
      };
      name = refl;
      parts = refl;
      high = marks.high;
      asked = marks.asked;
      mine = marks.mine;
      sight = le_trans agrees.sight grows.mark;
    }

pub seen_by : (s t : State) (known : Known LogEntry) → KnowsOf (facts_of s) known → FactsGrow (facts_of s) (facts_of t)
    → HasSeen t (after_turn (facts_of s) (facts_of t) known)
seen_by s t known agrees grows = record { name = sym (grows.name ∙ agrees.name); log = refl; asks = refl; tally = refl; mark = refl; due = refl }

-- the feeder in its turn may give a state that goes on from the one taken
pub may_give : (before mid : Feed) (taken given : Facts LogEntry) → mid ≡ in_turn taken before → FactsGrow taken given
    → IsSomeAnd mid.pass.1.held (λ f. FactsGrow f given)
may_give before mid taken given e grows = subst (λ (m : Feed). IsSomeAnd m.pass.1.held (λ f. FactsGrow f given)) (sym e) grows

pub own_in_turn : (pool : List TableId) (before mid : Feed) (taken : Facts LogEntry) → mid ≡ in_turn taken before → IsIdleOf pool before → IsFeederOf pool mid
own_in_turn pool before mid taken e idle = subst (IsFeederOf pool) (sym e) (record { source = idle.of.source; own = idle.of.own })

-- the feeder after its turn
pub given_turn : (before mid after : Feed) (taken given : Facts LogEntry) → mid ≡ in_turn taken before
    → IfSome mid.pass.1.held (λ f. after ≡ turned f given mid) → after ≡ turned taken given before
given_turn before mid after taken given e h = subst (λ (m : Feed). IfSome m.pass.1.held (λ f. after ≡ turned f given m)) e h

pub own_after : (pool : List TableId) (before after : Feed) (taken given : Facts LogEntry) → after ≡ turned taken given before → IsIdleOf pool before
    → IsIdleOf pool after
own_after pool before after taken given e idle = subst (IsIdleOf pool) (sym e) (record { of = record { source = idle.of.source; own = idle.of.own }; rests = refl })

-- a turn in which the plan is read
pub record PlanTurn (page ahead : ℕ) (before after : Feed) (next : Plan) : Type 0 where
  pub source : after.source ≡ before.source
  pub feeds : Feeds before.pass.1 after.pass.1
  pub turns : after.pass.1.turns ≡ before.pass.1.turns + 1
  pub plan : IsPlanned page ahead before.pass.1 after.pass.1 next
  pub looked : IsLooked page ahead before.pass.1 after.pass.1 next

pub plan_turn : (page ahead : ℕ) (before after : Feed) (s : State) (plan : Plan) → after ≡ turned (facts_of s) (facts_of s) before
    → KnowsOf (facts_of s) before.pass.1
    → HasAll (facts_of s) before.pass.1 → IsSound s → plan ≡ plan_of s page ahead → Serves s page ahead plan → PlanTurn page ahead before after plan
plan_turn page ahead before after s plan e agrees all sound is serves =
    subst (λ (f : Feed). PlanTurn page ahead before f plan) (sym e)
    (record {
      source = refl;
      feeds = feeds_by s s before.pass.1 agrees (grows_same (facts_of s)) refl refl;
      turns = refl;
      plan = record { found = s; is = found_by s before.pass.1 agrees all sound; sees = seen_by s s before.pass.1 agrees (grows_same (facts_of s)); plans = is; serves = serves };
      looked = record { found = s; is = found_by s before.pass.1 agrees all sound; gave = refl; sees = seen_by s s before.pass.1 agrees (grows_same (facts_of s)); plans = is };
    })

-- a turn in which an event came
pub record EventTurn (event : Event) (before after : Feed) : Type 0 where
  pub source : after.source ≡ before.source
  pub feeds : Feeds before.pass.1 after.pass.1
  pub fed : IsFed event before.pass.1 after.pass.1
  pub told : PutsEvent event before.pass.1 after.pass.1

pub event_turn : (event : Event) (before after : Feed) (s t : State) → IsOfSource event → ((state : State) → IsFound state before.pass.1 → MayCome state event)
    → after ≡ turned (facts_of s) (facts_of t) before → KnowsOf (facts_of s) before.pass.1 → HasAll (facts_of s) before.pass.1 → IsSound s
    → t ≡ events.after s event → FactsGrow (facts_of s) (facts_of t) → IsSound t → EventTurn event before after
event_turn event before after s t of may e agrees all sound is grows kept =
    let found = found_by s before.pass.1 agrees all sound in
    let want : t.want ≡ s.want = ap (λ (u : State). u.want) is ∙ event_want s event of in
    let asks : t.asks ≡ s.asks = ap (λ (u : State). u.asks) is ∙ event_asks s event of in
    subst (λ (f : Feed). EventTurn event before f) (sym e)
    (record {
      source = refl;
      feeds = feeds_by s t before.pass.1 agrees grows want asks;
      fed = record {
        found = s;
        is = found;
        may = may s found;
        sound = subst IsSound is kept;
        sees = subst (λ u. HasSeen u (after_turn (facts_of s) (facts_of t) before.pass.1)) is (seen_by s t before.pass.1 agrees grows);
      };
      told = record {
        found = s;
        is = found;
        may = may s found;
        gave = ap (λ u. before.pass.1.gave ++ facts_of u ∷ []) is;
        sees = subst (λ u. HasSeen u (after_turn (facts_of s) (facts_of t) before.pass.1)) is (seen_by s t before.pass.1 agrees grows);
      };
    })
