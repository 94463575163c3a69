use Rattle.std.proofs.Common.{rules}
use Rattle.std.proofs.lemmas.Result.{IfOk-weaker}
use Rattle.query_admission.specs.Admission.{Admits}
use Rattle.query_admission.specs.Causes.{line_over}
use Rattle.server_conn.specs.Entries.{view_in, HasSources}
use Rattle.server_conn.proofs.ListLaws.{has_sources}
use Rattle.server_conn.proofs.opened.OpenedCatalog.admit.Goals as goal

pub returns-clause-sources : goal.returns-clause-sources
returns-clause-sources c = λ holds there.
    let o = c.args.self.now in
    IfOk-weaker c.admit.result (Admits (line_over (view_in o) c.args.line c.args.bytes.now)) (HasSources holds)
    (has_sources holds o (search rules) there c.args.line c.args.bytes.now) c.admit.ensures
