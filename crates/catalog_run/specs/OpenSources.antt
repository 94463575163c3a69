-- Batches over open sources.
use Rattle.std.specs.Prelude.{List, Option}
use Rattle.source_api.specs.declared.counts.Counts.{Counts}
use Rattle.source_api.specs.Calls.{Call}
use Rattle.query_core.specs.declared.ready.Ready.{Ready}
use Rattle.topk_base.specs.declared.settings.Settings.{Settings}
use Rattle.batch_result.specs.Batches.{BatchRun}
use Rattle.catalog_open.specs.Openings.{Sources}

-- the batch of these queries over the open sources, which had counted so much before it and count so much now, and of which these calls were made before
-- it and by now
abbrev pub batch_over : Settings → Sources → List Counts → List Counts → List (Option (List Call)) → List (Option (List Call)) → List Ready → BatchRun
batch_over settings s begun now made calls readies = record {
  settings = settings;
  sizes = s.counts;
  readies = readies;
  told = s.told;
  versions = s.versions;
  before = begun;
  now = now;
  made = made;
  calls = calls;
}
