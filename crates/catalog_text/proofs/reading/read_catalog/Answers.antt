use Rattle.std.proofs.Common.{refl}
use Rattle.csv_records.specs.Records.{records_of}
use Rattle.catalog_text.proofs.reading.read_catalog.Goals as goal

pub returns : goal.returns
returns c = c.end.ensures (records_of c.args.bytes.now) (c.in-Ok.ensures (refl, c.make.ensures))
