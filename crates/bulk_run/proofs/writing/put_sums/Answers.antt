use Rattle.std.proofs.Common.{◌++◌, codes}
use Rattle.tk_io.proofs.Putting.{puts_then}
use Rattle.bulk_run.specs.Text.{figure, accesses_text}
use Rattle.bulk_run.proofs.writing.put_sums.Goals as goal

pub returns : goal.returns
returns g c =
    let sums = c.args.sums.now in
    let queries = figure (codes "bulk queries ") sums.queries in
    let answered = figure (codes " answered ") sums.answered in
    let depth = figure (codes " depth ") sums.depth in
    let rest = accesses_text sums in
    puts_then _ _ _ queries (answered ++ (depth ++ rest)) c.put_figure.ensures
    (puts_then _ _ _ answered (depth ++ rest) c.put_figure-2.ensures
    (puts_then _ _ _ depth rest c.put_figure-3.ensures c.put_accesses.ensures))
