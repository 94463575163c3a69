use Rattle.std.proofs.Common.{refl}
use Rattle.query_server.proofs.ReopenLaws.{hand_reopened, keeps_asked}
use Rattle.query_server.proofs.SourceLaws.{keeps_on, leaves_kept, leaves_reopened, were_reopened}
use Rattle.query_server.proofs.generation.serve_once.Goals as goal

pub returns-in_default-clause-left : goal.returns-in_default-clause-left
returns-in_default-clause-left g c =
    leaves_kept g.S.Source.list g.S.Source.counts g.S.Source.calls g.S.Source.at_hand c.args.slots.now.items c.serve_generation.new.slots.items c.args.catalog.now c.args.catalog.now
    c.serve_generation.ensures.kept c.serve_generation.ensures.empty refl refl

pub returns-then-not-has_more-clause-left : goal.returns-then-not-has_more-clause-left
returns-then-not-has_more-clause-left g c =
    leaves_kept g.S.Source.list g.S.Source.counts g.S.Source.calls g.S.Source.at_hand c.args.slots.now.items c.serve_generation.new.slots.items c.args.catalog.now c.args.catalog.now
    c.serve_generation.ensures.kept c.serve_generation.ensures.empty refl refl

pub returns-in_default-reopen-clause-left : goal.returns-in_default-reopen-clause-left
returns-in_default-reopen-clause-left g c =
    leaves_kept g.S.Source.list g.S.Source.counts g.S.Source.calls g.S.Source.at_hand c.args.slots.now.items c.reopen.new.slots.items c.args.catalog.now c.reopen.new.catalog
    (keeps_on g.S.Source.list g.S.Source.counts c.args.slots.now.items c.serve_generation.new.slots.items c.reopen.new.slots.items c.serve_generation.ensures.kept
    (keeps_asked g.S.Source.list g.S.Source.counts g.S.Source.calls _ c.serve_generation.new.slots.items c.reopen.new.slots.items c.reopen.ensures.asks))
    c.reopen.ensures.empty c.reopen.ensures.catalog c.in_default-reopen.ensures.stay

pub returns-clause-left : goal.returns-clause-left
returns-clause-left g c =
    leaves_reopened g.S.Source.list g.S.Source.counts g.S.Source.calls g.S.Source.at_hand c.args.slots.now.items c.serve_generation.new.slots.items c.reopen.new.slots.items c.args.catalog.now
    c.reopen.new.catalog c.serve_generation.ensures.kept c.reopen.ensures.asks c.in-Ok-reopen.ensures.reopens c.reopen.ensures.empty c.reopen.ensures.catalog c.reopen.ensures.homes

pub returns-clause-asked : goal.returns-clause-asked
returns-clause-asked g c =
    were_reopened g.S.Source.list g.S.Source.counts g.S.Source.calls g.S.Source.at_hand c.args.slots.now.items c.serve_generation.new.slots.items c.reopen.new.slots.items _ _
    c.serve_generation.ensures.kept c.in-Ok-reopen.ensures.reopens

pub returns-clause-at_hand : goal.returns-clause-at_hand
returns-clause-at_hand g c =
    hand_reopened g.S.Source.list g.S.Source.counts g.S.Source.calls g.S.Source.at_hand c.args.catalog.now.entries c.reopen.new.catalog.entries
    c.serve_generation.new.slots.items c.reopen.new.slots.items c.reopen.ensures.homes c.in-Ok-reopen.ensures.reopens
