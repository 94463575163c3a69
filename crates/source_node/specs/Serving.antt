-- What a source is asked, what it answers, and how that is written.
use Rattle.std.specs.Prelude.{◌≡◌, ℕ, ◌+◌, ◌-◌, ◌^◌, ◌≤◌, ◌⊎◌, List, [], ◌∷◌, ◌++◌, length, take, drop, Option, IfSome, option_map, Result, Ok, Err}
use Rattle.ranked_list.specs.declared.row.Row.{Row}
use Rattle.page_json.specs.Texts.{size_text, page_text, grade_text}
use Rattle.source_api.specs.declared.counts.Counts.{Counts}
use Rattle.source_api.specs.declared.source.Trouble.{Trouble}
use Rattle.source_api.specs.declared.source.FailKind.TheVariants as kind
use Rattle.source_api.specs.declared.source.Trouble.TheVariants as trouble
use Rattle.source_api.specs.Calls.{Call, with_call}
use Rattle.source_api.specs.Counting.{TroubleHasCause, CountsAlone, gave_rows, gave_grade}
use Rattle.source_api.specs.Told.{IsPage, IsGrade}
use Rattle.source_node.specs.declared.asked.Asked.{Asked}
use Rattle.source_node.specs.declared.asked.Asked.TheVariants as asked
use Rattle.source_node.specs.declared.answer.Answer.{Answer}
use Rattle.source_node.specs.declared.answer.Answer.TheVariants.{Count, Rows, Grade}

-- what a source is, as far as its contracts tell
pub record Seen : Type 0 where
  pub list : Option (List Row)
  pub counts : Counts
  pub calls : Option (List Call)
  pub at_hand : ℕ
  pub states : Option ℕ

-- the same by its parts
abbrev pub seen : Option (List Row) → Counts → Option (List Call) → ℕ → Option ℕ → Seen
seen list counts calls at_hand states = record { list = list; counts = counts; calls = calls; at_hand = at_hand; states = states }

-- the calls with these behind them, where the source tells them
abbrev pub with_calls : List Call → Option (List Call) → Option (List Call)
with_calls more calls = option_map (λ before. before ++ more) calls

-- what is counted of calls that were answered
abbrev pub given_by : List Call → Counts → Counts
given_by [] counts = counts
given_by (Call.Size answer ∷ calls) counts = given_by calls counts
given_by (Call.Page from count (Ok page) ∷ calls) counts = given_by calls (gave_rows (length page) counts)
given_by (Call.Page from count (Err why) ∷ calls) counts = given_by calls counts
given_by (Call.Grade object (Ok grade) ∷ calls) counts = given_by calls (gave_grade counts)
given_by (Call.Grade object (Err why) ∷ calls) counts = given_by calls counts

-- where the page has a row the first holds, and where it is empty the second
abbrev pub IfAny : List Row → Type 0 → Type 0 → Type 0
IfAny [] more ended = ended
IfAny (row ∷ page) more ended = more

-- pages that were asked for one behind another, and their rows together: each is asked for all rows that are missing, until none is, a
-- page is empty, or no place of 32 bits is left
abbrev pub InTurn : ℕ → ℕ → List Call → List Row → Type 0
InTurn from count [] rows = (rows ≡ []) × ((count ≡ 0) ⊎ (2 ^ 32 ≤ from))
InTurn from count (call ∷ calls) rows =
    (page rest : List Row) × (call ≡ Call.Page from count (Ok page)) × (rows ≡ page ++ rest)
    × IfAny page (InTurn (from + length page) (count - length page) calls rest) ((calls ≡ []) × (rest ≡ []))

-- the calls that are made of a source for what is asked, and what it answers: one call, or the pages in turn
abbrev pub IsMade : Asked → List Call → Answer → Type 0
IsMade asked.Size calls (Count count) = calls ≡ Call.Size (Ok count) ∷ []
IsMade (asked.Page from count) calls (Rows rows) = InTurn from count calls rows.items
IsMade (asked.Grade object) calls (Grade grade) = calls ≡ Call.Grade object (Ok grade) ∷ []
IsMade _ calls _ = ⊥

-- an answer is true of a list: its size, all rows that are asked for and are there, or the grade of the object. Objects are numbers of
-- 32 bits, so a list has no more rows than these
abbrev pub IsTrueOf : Asked → Answer → List Row → Type 0
IsTrueOf asked.Size (Count count) list = count ≡ length list
IsTrueOf (asked.Page from count) (Rows rows) list = length list ≤ 2 ^ 32 → rows.items ≡ take count (drop from list)
IsTrueOf (asked.Grade object) (Grade grade) list = IsGrade list object grade
IsTrueOf _ _ list = ⊥

-- the version at hand after what is asked: a call for the size brings the one that the source states, and no other call changes it
abbrev pub IsAtHand : Asked → Seen → ℕ → Type 0
IsAtHand asked.Size before at_hand = IfSome before.states (λ version. at_hand ≡ version)
IsAtHand _ before at_hand = at_hand ≡ before.at_hand

-- a source answered what was asked
pub record Answers (asked : Asked) (before now : Seen) (answer : Answer) : Type 0 where
  pub calls : List Call
  pub made : IsMade asked calls answer
  pub noted : now.calls ≡ with_calls calls before.calls
  pub counted : now.counts ≡ given_by calls before.counts
  pub told : IfSome before.list (IsTrueOf asked answer)
  pub at_hand : IsAtHand asked before now.at_hand

-- no count of troubles changed
pub record IsQuiet (before now : Counts) : Type 0 where
  pub faults : now.faults ≡ before.faults
  pub garbles : now.garbles ≡ before.garbles
  pub moves : now.moves ≡ before.moves

-- the calls for pages one behind another, where no answer came for this reason: the last call gave none, or memory was refused behind it. Each
-- is asked for all rows that are missing, and none is asked behind an empty page
abbrev pub StopsInTurn : ℕ → ℕ → Trouble → List Call → Type 0
StopsInTurn from count why [] = why ≡ trouble.Fail kind.Memory
StopsInTurn from count why (call ∷ calls) =
    ((call ≡ Call.Page from count (Err why)) × (calls ≡ []))
    ⊎ ((page : List Row) × (call ≡ Call.Page from count (Ok page))
    × IfAny page (StopsInTurn (from + length page) (count - length page) why calls) ((calls ≡ []) × (why ≡ trouble.Fail kind.Memory)))

-- the calls that are made of a source for what is asked, where no answer came for this reason
abbrev pub IsStopped : Asked → Trouble → List Call → Type 0
IsStopped asked.Size why calls = calls ≡ Call.Size (Err why) ∷ []
IsStopped (asked.Page from count) why calls = StopsInTurn from count why calls
IsStopped (asked.Grade object) why calls = calls ≡ Call.Grade object (Err why) ∷ []

-- a source gave no answer to what was asked, and was asked for nothing else: of its counts that of the trouble alone changed behind what was
-- answered, and lack of memory counts none
pub record Fails (asked : Asked) (before now : Seen) (why : Trouble) : Type 0 where
  pub calls : List Call
  pub stopped : IsStopped asked why calls
  pub noted : now.calls ≡ with_calls calls before.calls
  pub cause : TroubleHasCause before.counts now.counts why
  pub alone : CountsAlone (given_by calls before.counts) now.counts why
  pub at_hand : now.at_hand ≡ before.at_hand

-- how a source was asked
abbrev pub Asks : Asked → Seen → Seen → Result Answer Trouble → Type 0
Asks asked before now (Ok answer) = Answers asked before now answer
Asks asked before now (Err why) = Fails asked before now why

-- one page came, and its rows were added
pub record GivesPage (from count : ℕ) (list : Option (List Row)) (counts counts_now : Counts) (calls calls_now : Option (List Call))
    (rows rows_now : List Row) (len : ℕ) : Type 0 where
  pub page : List Row
  pub is : len ≡ length page
  pub few : len ≤ count
  pub added : rows_now ≡ rows ++ page
  pub noted : calls_now ≡ with_call (Call.Page from count (Ok page)) calls
  pub counted : counts_now ≡ gave_rows (length page) counts
  pub told : IfSome list (λ all. IsPage all from page)

-- all pages in turn came, with their rows
pub record GivesRows (from count : ℕ) (list : Option (List Row)) (counts counts_now : Counts) (calls calls_now : Option (List Call))
    (rows : List Row) : Type 0 where
  pub made : List Call
  pub in_turn : InTurn from count made rows
  pub noted : calls_now ≡ with_calls made calls
  pub counted : counts_now ≡ given_by made counts
  pub told : IfSome list (λ all. length all ≤ 2 ^ 32 → rows ≡ take count (drop from all))

-- pages in turn came, and then no answer for this reason
pub record StopsRows (from count : ℕ) (counts counts_now : Counts) (calls calls_now : Option (List Call)) (why : Trouble) : Type 0 where
  pub made : List Call
  pub in_turn : StopsInTurn from count why made
  pub noted : calls_now ≡ with_calls made calls
  pub cause : TroubleHasCause counts counts_now why
  pub alone : CountsAlone (given_by made counts) counts_now why

-- some pages came, with their rows, and those that are to come follow them
pub record GivesSome (from count : ℕ) (list : Option (List Row)) (counts counts_now : Counts) (calls calls_now : Option (List Call))
    (rows : List Row) : Type 0 where
  pub made : List Call
  pub goes_on : (more : List Call) (rest : List Row) → InTurn (from + length rows) (count - length rows) more rest
      → InTurn from count (made ++ more) (rows ++ rest)
  pub stops_on : (more : List Call) (why : Trouble) → StopsInTurn (from + length rows) (count - length rows) why more
      → StopsInTurn from count why (made ++ more)
  pub few : length rows ≤ count
  pub noted : calls_now ≡ with_calls made calls
  pub counted : counts_now ≡ given_by made counts
  pub quiet : IsQuiet counts counts_now
  pub told : IfSome list (λ all. rows ≡ take (length rows) (drop from all))

-- the text of an answer, at a version of the list
abbrev pub text_of : ℕ → Answer → List ℕ
text_of version (Count count) = size_text version count
text_of version (Rows rows) = page_text version rows.items
text_of version (Grade grade) = grade_text version grade
