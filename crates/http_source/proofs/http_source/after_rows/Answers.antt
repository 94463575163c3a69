use Rattle.std.proofs.Common.{◌<◌, ◌^◌, rules}
use Rattle.http_source.proofs.CountedLaws.{rows_fell}
use Rattle.http_source.proofs.http_source.after_rows.Goals as goal

pub returns-clause-later : goal.returns-clause-later
returns-clause-later c =
    let faults : c.args.counted.faults < 2 ^ 64 = search rules in
    let garbles : c.args.counted.garbles < 2 ^ 64 = search rules in
    let moves : c.args.counted.moves < 2 ^ 64 = search rules in
    let rows : c.args.counted.rows_given < 2 ^ 64 = search rules in
    let grades : c.args.counted.grades_given < 2 ^ 64 = search rules in
    rw c.count_rows.ensures (rows_fell c.args.counted c.args.rows (record { faults = faults; garbles = garbles; moves = moves; rows = rows; grades = grades }))
