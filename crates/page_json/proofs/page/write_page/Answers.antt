use Rattle.std.proofs.Common.{◌≡◌, subst, sym, rules}
use Rattle.page_json.specs.Bodies.{IsPageBody}
use Rattle.page_json.specs.Texts.{page_text}
use Rattle.page_json.proofs.TextsBack.{page_reads_back}
use Rattle.page_json.proofs.page.write_page.Goals as goal

pub returns-clause-reads_back : goal.returns-clause-reads_back
returns-clause-reads_back c few =
    let is : c.end_body.new.text.items ≡ page_text c.args.version c.args.rows.now = search rules in
    subst (λ bytes. IsPageBody bytes (record { version = c.args.version; body = c.args.rows.now })) (sym is)
    (page_reads_back c.args.version c.args.rows.now c.ranges.version.fits few c.in_ok-put_rows.ensures.fit)
