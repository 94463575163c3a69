-- A page of a list as the rows that follow.
use Rattle.std.proofs.Common.{◌≡◌, ◌<◌, List, ◌++◌, length, drop, append_assoc, sym, ap, ◌∙◌, subst}
use Rattle.ranked_list.specs.declared.row.Row.{Row}
use Rattle.topk_theory.specs.Transcript.{Begins}
use Rattle.topk_theory.proofs.AgreementLists.{begins_with, begins_splits}
use Rattle.source_api.specs.Told.{IsPage}
use Rattle.query_run.specs.Honest.{IsNextOf}

-- a page goes on with what is kept
pub next_page : (list kept rows : List Row) → Begins kept list → length kept < length list → IsPage list (length kept) rows → IsNextOf list kept rows
next_page list kept rows begins less page = record {
  some = page.moves less;
  next =
      let rest = drop (length kept) list in
      let splits : list ≡ kept ++ rest = begins_splits kept list begins in
      let more : rest ≡ rows ++ drop (length rows) rest = begins_splits rows rest (sym page.follows) in
      let whole : list ≡ (kept ++ rows) ++ drop (length rows) rest = splits ∙ ap (λ xs. kept ++ xs) more ∙ sym (append_assoc kept rows (drop (length rows) rest)) in
      subst (Begins (kept ++ rows)) (sym whole) (begins_with (kept ++ rows) (drop (length rows) rest));
}
