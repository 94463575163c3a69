use Rattle.std.proofs.Common.{◌≡◌, subst}
use Rattle.std.specs.Option.{IfSome}
use Rattle.turn_lock.specs.declared.facts.Facts.{Facts}
use Rattle.source_state.specs.declared.entry.LogEntry.{LogEntry}
use Rattle.source_state.specs.State.{facts_of}
use Rattle.source_pool.specs.Passes.{Feed, in_turn, turned}
use Rattle.test_query_support.proofs.Readiness.{held_ready}
use Rattle.test_query_support.proofs.desk.Desk.look_held.Goals as goal

-- what is given back as it was taken
given_back : (feed mid after : Feed) (f : Facts LogEntry) → mid ≡ in_turn f feed → IfSome mid.pass.1.held (λ taken. after ≡ turned taken f mid)
    → after ≡ turned f f feed
given_back feed mid after f is h = subst (λ (m : Feed). IfSome m.pass.1.held (λ taken. after ≡ turned taken f m)) is h

pub returns : goal.returns
returns g c = held_ready c.args.self.now c.look-look.new.pass c.give.new.feeder (facts_of c.take-state.result) c.requires c.look-look.ensures.own c.look-look.ensures.knows
    (given_back c.args.self.now.feeder c.take-state.new.feeder c.give.new.feeder (facts_of c.take-state.result) c.take-state.ensures.feeder c.give.ensures)
