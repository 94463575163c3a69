use Rattle.std.proofs.Common.{◌≡◌, subst, sym, rules}
use Rattle.page_json.specs.Bodies.{IsSizeBody}
use Rattle.page_json.specs.Texts.{size_text}
use Rattle.page_json.proofs.TextsBack.{size_reads_back}
use Rattle.page_json.proofs.size.write_size.Goals as goal

pub returns-clause-reads_back : goal.returns-clause-reads_back
returns-clause-reads_back c =
    let is : c.end_body.new.text.items ≡ size_text c.args.version c.args.count = search rules in
    subst (λ bytes. IsSizeBody bytes (record { version = c.args.version; body = c.args.count })) (sym is) (size_reads_back c.args.version c.args.count c.ranges.version.fits c.ranges.count.fits)
