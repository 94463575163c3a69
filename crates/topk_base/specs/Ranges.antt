-- The ranges of the settings of a run.
use Rattle.std.specs.Prelude.{◌≤◌}
use Rattle.topk_base.specs.declared.settings.Settings.{Settings}

-- settings are within their limits
pub record AreSettings (settings : Settings) : Type 0 where
  pub some_workers : 1 ≤ settings.workers
  pub few_workers : settings.workers ≤ 32
  pub some_rows : 1 ≤ settings.page
  pub few_rows : settings.page ≤ 10000
  pub few_pages : settings.ahead ≤ 100
