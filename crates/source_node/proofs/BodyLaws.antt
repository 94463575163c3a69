-- The body of an answer says it.
use Rattle.std.proofs.Common.{ℕ, ◌+◌, ◌*◌, ◌<◌, ◌≤◌, ◌^◌, List, length, All, Option, IfSome, arith}
use Rattle.ranked_list.specs.declared.row.Row.{Row}
use Rattle.page_json.specs.Bodies.{IsSizeBody, IsPageBody, IsGradeBody, Fits}
use Rattle.page_json.specs.Texts.{size_text, page_text, grade_text}
use Rattle.source_node.specs.ReadingBack.{IsSmall, Says}
use Rattle.source_node.specs.Serving.{text_of}
use Rattle.source_node.specs.declared.answer.Answer.{Answer}
use Rattle.source_node.specs.declared.answer.Answer.TheVariants.{Count, Rows, Grade}

-- what is written of a size, of a page and of a grade reads back
pub record ReadBack : Type 0 where
  pub sizes : (version count : ℕ) → version < 2 ^ 64 → count < 2 ^ 64 → IsSizeBody (size_text version count) (record { version = version; body = count })
  pub pages : (version : ℕ) (rows : List Row) → version < 2 ^ 64 → length rows ≤ 10000 → All Fits rows → IsPageBody (page_text version rows) (record { version = version; body = rows })
  pub grades : (version : ℕ) (grade : Option ℕ) → version < 2 ^ 64 → IfSome grade (λ g. g < 2 ^ 32) → IsGradeBody (grade_text version grade) (record { version = version; body = grade })

-- and is short
pub record AreShort : Type 0 where
  pub sizes : (version count : ℕ) → version < 2 ^ 64 → count < 2 ^ 64 → length (size_text version count) ≤ 61
  pub pages : (version : ℕ) (rows : List Row) → version < 2 ^ 64 → All Fits rows → length (page_text version rows) ≤ 24 * length rows + 42
  pub grades : (version : ℕ) (grade : Option ℕ) → version < 2 ^ 64 → IfSome grade (λ g. g < 2 ^ 32) → length (grade_text version grade) ≤ 51

pub says : ReadBack → (version : ℕ) (answer : Answer) → version < 2 ^ 64 → IsSmall answer → Says version answer (text_of version answer)
says back version (Count count) v small = back.sizes version count v small
says back version (Rows rows) v small = back.pages version rows.items v small.0 small.1
says back version (Grade grade) v small = back.grades version grade v small

pub short : AreShort → (version : ℕ) (answer : Answer) → version < 2 ^ 64 → IsSmall answer → length (text_of version answer) ≤ 16777216
short are version (Count count) v small = let few = are.sizes version count v small in omega (arith, few)
short are version (Rows rows) v small = let few = are.pages version rows.items v small.1 in let most = small.0 in omega (arith, few, most)
short are version (Grade grade) v small = let few = are.grades version grade v small in omega (arith, few)
