use Rattle.std.proofs.Common.{rules, ap, ◌∙◌}
use Rattle.source_api.specs.Places.{is_known, counts_at, put_back_at}
use Rattle.file_source.specs.Shelved.{FilesShelved}
use Rattle.file_source.proofs.file_shelf.FileShelfShelf.put_back.Goals as goal

pub returns-clause-counts : goal.returns-clause-counts
returns-clause-counts g c =
    c.add_source.ensures.here
    ∙ (ap (λ counts. put_back_at (is_known c.self.inside.ledger c.args.place.now) counts (counts_at c.self.inside.ledger c.args.place.now)) (search rules)
    ∙ ap (λ (s : FilesShelved _). put_back_at (is_known s.ledger c.args.place.now) c.args.item.counts (counts_at s.ledger c.args.place.now)) c.self.view_is)
