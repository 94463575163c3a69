-- What is written of made queries over a made table. How they are run is nowhere in it.
use Rattle.std.specs.Prelude.{ℕ, List}
use Rattle.command_line.specs.declared.bulking.BulkOptions.{BulkOptions}
use Rattle.bulk_run.specs.declared.input.BulkInput.{BulkInput}
use Rattle.bulk_run.specs.Sums.{bulk_sums}
use Rattle.bulk_run.specs.Text.{sums_text}

-- the table and the queries that are asked for
abbrev pub input_of : BulkOptions → BulkInput
input_of options = record {
  start = options.table.start;
  count = options.table.count;
  lists = options.table.lists;
  queries = options.queries;
}

-- the line of the sums over their one answers
abbrev pub bulk_text : BulkOptions → List ℕ
bulk_text options = sums_text (bulk_sums (input_of options))
