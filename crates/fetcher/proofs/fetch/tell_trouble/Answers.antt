use Rattle.std.proofs.Common.{sym, subst}
use Rattle.source_state.specs.Events.{MayCome}
use Rattle.fetcher.specs.Turning.{IsOfSource, IsFed}
use Rattle.fetcher.specs.Calling.{PutsEvent}
use Rattle.fetcher.proofs.BringLaws.{trouble_source}
use Rattle.fetcher.proofs.fetch.tell_trouble.Goals as goal

pub tell-requires-clause-source : goal.tell-requires-clause-source
tell-requires-clause-source g c = subst IsOfSource (sym c.trouble_event-event.ensures) (trouble_source c.args.object c.args.trouble)

pub tell-requires-clause-may : goal.tell-requires-clause-may
tell-requires-clause-may g c = λ state is. subst (MayCome state) (sym c.trouble_event-event.ensures) (c.requires.may state is)

pub returns-clause-fed : goal.returns-clause-fed
returns-clause-fed g c = subst (λ event. IsFed event c.args.feeder.now.pass.1 c.tell.new.feeder.pass.1) c.trouble_event-event.ensures c.tell.ensures.fed

pub returns-clause-told : goal.returns-clause-told
returns-clause-told g c = subst (λ event. PutsEvent event c.args.feeder.now.pass.1 c.tell.new.feeder.pass.1) c.trouble_event-event.ensures c.tell.ensures.told
