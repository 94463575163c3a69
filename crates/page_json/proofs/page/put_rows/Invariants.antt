use Rattle.std.specs.Prelude.{◌++◌, map}
use Rattle.std.specs.List.{join_with_byte}
use Rattle.page_json.specs.Texts.{row_text}
use Rattle.page_json.proofs.Grown.{IsLeft}
use Rattle.page_json.proofs.page.put_rows.Given as goal

-- the other rows from here on are still to be written
abbrev pub invariant-loop-row : goal.invariant-loop-row
invariant-loop-row l = IsLeft l.text.items (l.fn.text.items ++ join_with_byte 44 (map row_text l.fn.rows)) l.others l.row-index
