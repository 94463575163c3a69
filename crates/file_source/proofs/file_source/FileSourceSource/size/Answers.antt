use Rattle.std.proofs.Common.{◌∙◌}
use Rattle.file_source.proofs.RecordLaws.{told_size}
use Rattle.file_source.proofs.file_source.FileSourceSource.size.Goals as goal

pub returns-clause-size : goal.returns-clause-size
returns-clause-size c = rw (← c.self.view_is) (told_size c.self.inside.records.items c.len.result (c.len.ensures ∙ c.self.inside.records.ok.0))
