-- The syntax of a query text, word by word: which piece comes next, and which operators are open.
use Rattle.std.specs.Prelude.{ℕ, Bool, true, false, List, [], ◌∷◌, codes, Option, Some, None, reverse, map, if◌then◌else◌}
use Rattle.std.specs.Str.{bytes_eq}
use Rattle.query_text.specs.Words.{opened_by}
use Rattle.query_text.specs.Front.{Front, stage_of, frames_of, is_weighted}
use Rattle.query_text.specs.declared.operator.Operator.{Operator}
use Rattle.query_text.specs.declared.parser_state.ParserState.{ParserState}
use Rattle.query_text.specs.declared.parser_state.ParserState.TheVariants as stages
use Rattle.query_text.specs.declared.course.Course.{Course}

-- which piece comes next, and the open operators, the innermost first
pub record Standing : Type 0 where
  pub stage : ParserState
  pub operators : List Operator

-- where a course stands
abbrev pub course_view : Course → Standing
course_view course = record { stage = course.stage; operators = reverse course.operators.items }

-- where a front stands
abbrev pub standing_of : Front → Standing
standing_of front = record { stage = stage_of front; operators = map (λ frame. frame.operator) (frames_of front) }

-- whether an operator is open
abbrev pub is_open : List Operator → Bool
is_open [] = false
is_open (operator ∷ operators) = true

abbrev pub at : ParserState → List Operator → Standing
at stage operators = record { stage = stage; operators = operators }

-- whether a text may end before what comes next
abbrev pub may_end : ParserState → Bool
may_end stages.Options = true
may_end stages.Priced = true
may_end stages.Done = true
may_end _ = false

-- an argument of an operator comes next
abbrev pub argument_stage : Operator → ParserState
argument_stage operator = if is_weighted operator then stages.Weight else stages.Operand

-- behind the word of an algorithm
abbrev pub algorithm_stage : List ℕ → ParserState
algorithm_stage word = if bytes_eq word (codes "theta ") then stages.Factor else (if bytes_eq word (codes "early ") then stages.Depth else stages.Options)

-- behind the word of an operand
abbrev pub behind_word : List Operator → Option Operator → Standing
behind_word operators None = at stages.Behind operators
behind_word operators (Some operator) = at (argument_stage operator) (operator ∷ operators)

-- behind what stands behind an operand
abbrev pub behind_operand : List Operator → Bool → Standing
behind_operand [] comma = at stages.Algorithm []
behind_operand (operator ∷ operators) true = at (argument_stage operator) (operator ∷ operators)
behind_operand (operator ∷ operators) false = at stages.Behind operators

-- what comes next where one piece alone may follow
abbrev pub plain_next : ParserState → ParserState
plain_next stages.Top = stages.Count
plain_next stages.Count = stages.By
plain_next stages.By = stages.Operand
plain_next stages.Operand = stages.Operand
plain_next stages.Behind = stages.Options
plain_next stages.Weight = stages.Times
plain_next stages.Times = stages.Operand
plain_next stages.Algorithm = stages.Options
plain_next stages.Factor = stages.Over
plain_next stages.Over = stages.Under
plain_next stages.Under = stages.Options
plain_next stages.Depth = stages.Options
plain_next stages.Options = stages.Room
plain_next stages.Sorted = stages.Between
plain_next stages.Between = stages.Random
plain_next stages.Random = stages.Priced
plain_next stages.Priced = stages.Room
plain_next stages.Room = stages.Done
plain_next stages.Done = stages.Done

-- behind one more word
abbrev pub standing_next : ParserState → List Operator → List ℕ → Standing
standing_next stages.Operand operators word = behind_word operators (opened_by word)
standing_next stages.Behind operators word = behind_operand operators (bytes_eq word (codes ","))
standing_next stages.Options operators word = at (if bytes_eq word (codes " cost ") then stages.Sorted else stages.Room) operators
standing_next stages.Top operators word = at stages.Count operators
standing_next stages.Count operators word = at stages.By operators
standing_next stages.By operators word = at stages.Operand operators
standing_next stages.Weight operators word = at stages.Times operators
standing_next stages.Times operators word = at stages.Operand operators
standing_next stages.Algorithm operators word = at (algorithm_stage word) operators
standing_next stages.Factor operators word = at stages.Over operators
standing_next stages.Over operators word = at stages.Under operators
standing_next stages.Under operators word = at stages.Options operators
standing_next stages.Depth operators word = at stages.Options operators
standing_next stages.Sorted operators word = at stages.Between operators
standing_next stages.Between operators word = at stages.Random operators
standing_next stages.Random operators word = at stages.Priced operators
standing_next stages.Priced operators word = at stages.Room operators
standing_next stages.Room operators word = at stages.Done operators
standing_next stages.Done operators word = at stages.Done operators
