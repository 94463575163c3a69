-- What a list file is before it was read, and afterwards.
use Rattle.source_api.specs.Counting.{no_counts}
use Rattle.file_source.specs.declared.list_source.Form.{Form}
use Rattle.file_source.specs.declared.list_source.Form.TheVariants.{Text, Records}
use Rattle.file_source.specs.ListFile.{list_records}
use Rattle.file_source.specs.Filed.{Filed}

-- its records and what it has counted; while it is a text nothing was counted
abbrev pub filed : Form → Filed
filed (Text text) = record { records = list_records text.items; counts = no_counts }
filed (Records f) = f
