use Rattle.std.proofs.Common.{sym, ◌∙◌}
use Rattle.source_state.proofs.Caching.{ask_at_place, ask_no_place}
use Rattle.source_state.proofs.objects.Objects.ask.Goals as goal

pub returns-in-Some : goal.returns-in-Some
returns-in-Some c = c.ask_at.ensures ∙ sym (ask_at_place c.args.self.now.asks c.args.object c.in-Some.place (sym c.spot.ensures.place ∙ c.in-Some.is))

pub returns-in-None : goal.returns-in-None
returns-in-None c = sym (ask_no_place c.args.self.now.asks c.args.object (sym c.spot.ensures.place ∙ c.in-None.is))
