use Rattle.std.proofs.Common.{◌≡◌, Err, rules}
use Rattle.std.specs.Cow.{cow_str_bytes}
use Rattle.server_conn.specs.Entries.{view_in}
use Rattle.query_run.proofs.KnowsLaws.{knows_same}
use Rattle.server_conn.proofs.EndLaws.{serves_line, serves_refused, refusal_sent, by_test}
use Rattle.server_conn.proofs.conn.answer_head.Goals as goal

pub returns-in-Ok-clause-replied : goal.returns-in-Ok-clause-replied
returns-in-Ok-clause-replied g c =
    let head = c.args.head.now in
    let r = c.answer_line-turn.ensures.replied in
    let same : c.as_bytes-bytes.result.now ≡ cow_str_bytes c.in-Ok.line = search rules in (
      r.0,
      serves_line (view_in c.args.catalog.now) head.method head.target.items _ _ (cow_str_bytes c.in-Ok.line) c.as_bytes-bytes.result.now r.0
          c.in-Ok.ensures same r.1,
      by_test _ _ _ _ _ _ r.0 _ c.is_head-is_head.ensures r.2,
    )

pub returns-in-Err-clause-knows : goal.returns-in-Err-clause-knows
returns-in-Err-clause-knows g c = knows_same c.args.pass.now

pub returns-in-Err-clause-replied : goal.returns-in-Err-clause-replied
returns-in-Err-clause-replied g c =
    let head = c.args.head.now in (
      Err c.in-Err.why,
      serves_refused (view_in c.args.catalog.now) head.method head.target.items _ c.in-Err.why c.in-Err.ensures,
      by_test _ _ _ _ _ _ (Err c.in-Err.why) _ c.is_head-is_head.ensures
          (refusal_sent _ _ _ _ _ _ _ _ c.unmoved.ensures c.refuse.ensures.sends),
    )
