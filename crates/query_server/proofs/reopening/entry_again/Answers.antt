use Rattle.std.proofs.Common.{IfOk, slice_set, subst, sym, ◌∙◌}
use Rattle.fetcher.specs.declared.slot.Slot.{Slot}
use Rattle.query_server.specs.Homes.{home_of}
use Rattle.query_server.specs.Reopening.{Reopens, ReopensAt}
use Rattle.query_server.proofs.ReopenLaws.{if_reopens}
use Rattle.query_server.proofs.reopening.entry_again.Goals as goal

pub returns-in-Some-clause-reopens : goal.returns-in-Some-clause-reopens
returns-in-Some-clause-reopens g c =
    let stood = c.index_mut.ensures.value in
    let home = sym c.home_of.ensures ∙ c.in-Some.is in
    subst (λ (slot : Slot g.row.S.Denot). IfOk c.ask_again.result (ReopensAt g.S.Source.list g.S.Source.counts g.S.Source.calls g.S.Source.at_hand c.args.slots.now.items
    (slice_set c.args.slots.now.items c.in-Some.number (record slot { source = c.ask_again.new.source })) (home_of c.args.entry) c.args.entry)) (sym stood)
    (if_reopens g.S.Source.list g.S.Source.counts g.S.Source.calls g.S.Source.at_hand c.args.slots.now.items (home_of c.args.entry) c.in-Some.number c.index_mut.result.now
    c.ask_again.new.source c.args.entry c.ask_again.result home (c.requires.within c.in-Some.number home)
    (subst (λ (slot : Slot g.row.S.Denot). IfOk c.ask_again.result (Reopens g.S.Source.list g.S.Source.counts g.S.Source.calls g.S.Source.at_hand slot.source c.ask_again.new.source)) stood
    c.ask_again.ensures.reopens))
