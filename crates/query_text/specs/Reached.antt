-- Where a reader of a query line stands, and what it knows.
use Rattle.std.specs.Prelude.{◌≡◌, ℕ, ◌≤◌, true, false, List, [], ◌∷◌, ◌++◌, length, take, drop, ◌+◌, Option, Some, None, Result, Ok, Err}
use Rattle.query_text.specs.Pieces.{Piece, text_of, lists_in, AreFine, IsNumberFault, IsNameFault}
use Rattle.query_text.specs.Shape.{SyntaxTree, IsShape, IsSyntaxFault, spelled, pieces_of}
use Rattle.query_text.specs.Words.{class_at, is_whole, IsLongest}
use Rattle.query_text.specs.Front.{Front, stage_of, shape_at, reads, pieces_before, IsFine}
use Rattle.query_text.specs.Course.{course_view, standing_of, is_open}
use Rattle.query_text.specs.Draft.{names_of, front_of, IsDraftPlain, Takes, Misses}
use Rattle.query_text.specs.declared.course.Course.{Course}
use Rattle.query_text.specs.declared.draft.Draft.{Draft}
use Rattle.query_text.specs.declared.parser_state.ParserState.{ParserState}
use Rattle.query_text.specs.declared.fault.QueryFault.{QueryFault}
use Rattle.query_text.specs.declared.fault.QueryFault.TheVariants as faults

-- the text of a front
abbrev pub front_text : Front → List ℕ
front_text front = text_of (pieces_before front)

-- what is read from the front of a text on is read from here on, whatever follows the next byte
abbrev pub Follows : Front → List ℕ → Type 0
Follows front [] = reads Front.at_top [] (front_text front) ≡ reads front [] []
Follows front (x ∷ rest) = (more : List ℕ) → reads Front.at_top [] (front_text front ++ x ∷ more) ≡ reads front [] (x ∷ more)

-- the draft is what the front means
pub record Drafts (draft : Draft) (front : Front) : Type 0 where
  pub shows : (more : List (List ℕ)) → front_of (names_of draft ++ more) (stage_of front) draft ≡ front
  pub names : names_of draft ≡ lists_in (pieces_before front)
  pub fine : AreFine (pieces_before front)
  pub plain : IsDraftPlain draft

-- the front has a fault, or the draft is what it means
abbrev pub IsState : Option QueryFault → Draft → Front → Type 0
IsState None draft front = Drafts draft front
IsState (Some (faults.Number at)) draft front = IsNumberFault (pieces_before front) at
IsState (Some (faults.TooManyLists at)) draft front = IsNameFault (pieces_before front) at
IsState _ _ _ = ⊥

-- a reader has read the line up to a place
pub record Reached (line : List ℕ) (at : ℕ) (course : Course) (draft : Draft) (fault : Option QueryFault) : Type 0 where
  pub front : Front
  pub fine : IsFine front
  pub standing : course_view course ≡ standing_of front
  pub place : at ≡ length (front_text front)
  pub within : at ≤ length line
  pub parts : line ≡ front_text front ++ drop at line
  pub follows : Follows front (drop at line)
  pub state : IsState fault draft front

-- a draft is what the whole line means
pub record IsDraftOf (line : List ℕ) (draft : Draft) : Type 0 where
  pub front : Front
  pub shape : SyntaxTree
  pub fine : IsFine front
  pub ended : shape_at front ≡ Some shape
  pub text : front_text front ≡ line
  pub drafts : Drafts draft front

-- the line is of the shape and its pieces have a fault
pub record IsPieceFault (line : List ℕ) (IsFault : List Piece → Type 0) : Type 0 where
  pub shape : SyntaxTree
  pub sound : IsShape shape
  pub text : spelled shape ≡ line
  pub fault : IsFault (pieces_of shape)

-- the next word of a line, or where none is whole
abbrev pub WordFound : Course → List ℕ → ℕ → Result ℕ ℕ → Type 0
WordFound course line at (Ok count) =
    IsLongest (class_at course.stage (is_open (course_view course).operators)) (drop at line) count
    × (is_whole (class_at course.stage (is_open (course_view course).operators)) (take count (drop at line)) ≡ true)
WordFound course line at (Err place) =
    (count : ℕ) × (place ≡ at + count) × IsLongest (class_at course.stage (is_open (course_view course).operators)) (drop at line) count
    × (is_whole (class_at course.stage (is_open (course_view course).operators)) (take count (drop at line)) ≡ false)

-- a word is taken into a draft, or is its first fault, or comes behind that
abbrev pub StepTakes : ParserState → Draft → Draft → Option QueryFault → List ℕ → ℕ → Option QueryFault → Type 0
StepTakes stage old new (Some fault) word at now = now ≡ Some fault
StepTakes stage old new None word at None = Takes stage old new word
StepTakes stage old new None word at (Some fault) = Misses stage old word at fault × (fault ≡ faults.Memory → ⊥)

-- what reading the words of a line answers
abbrev pub WordsRead : List ℕ → Result Draft QueryFault → Type 0
WordsRead line (Ok draft) = IsDraftOf line draft
WordsRead line (Err (faults.Syntax at)) = IsSyntaxFault line at
WordsRead line (Err (faults.Number at)) = IsPieceFault line (λ pieces. IsNumberFault pieces at)
WordsRead line (Err (faults.TooManyLists at)) = IsPieceFault line (λ pieces. IsNameFault pieces at)
WordsRead line (Err faults.Memory) = Unit {0}
WordsRead _ _ = ⊥
