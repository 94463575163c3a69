use Rattle.std.proofs.Common.{rules, ap, ◌∙◌}
use Rattle.source_api.specs.Places.{is_known, counts_at, put_back_at}
use Rattle.test_mem_source.specs.Shelved.{Shelved}
use Rattle.test_mem_source.proofs.mem_shelf.MemShelfShelf.put_back.Goals as goal

pub returns-clause-counts : goal.returns-clause-counts
returns-clause-counts c =
    c.add_source.ensures.here
    ∙ (ap (λ counts. put_back_at (is_known c.self.inside.ledger c.args.place.now) counts (counts_at c.self.inside.ledger c.args.place.now)) (search rules)
    ∙ ap (λ (s : Shelved). put_back_at (is_known s.ledger c.args.place.now) c.args.item.counts (counts_at s.ledger c.args.place.now)) c.self.view_is)
