-- What the words of a query text mean, as far as they are read.
use Rattle.std.specs.Prelude.{◌≡◌, ℕ, ◌<◌, ◌≤◌, true, List, [], ◌∷◌, ◌++◌, length, map, reverse, Option, Some, None, option_map, if◌then◌else◌}
use Rattle.std.specs.Str.{bytes_eq}
use Rattle.std.specs.Fmt.{decimal}
use Rattle.topk_base.specs.Numbers.{is_number}
use Rattle.monotone_fn.specs.Tree.{Tree, trees, terms}
use Rattle.monotone_fn.specs.Shown.{tree_of, term_of}
use Rattle.monotone_fn.specs.declared.costs.Costs.{Costs}
use Rattle.query_text.specs.Bytes.{bytes_of}
use Rattle.query_text.specs.Written.{Written, IsWeight, Argument, arguments_from}
use Rattle.query_text.specs.Pieces.{Piece, IsInRange, names_in, each_once_after}
use Rattle.query_text.specs.Query.{written, named_as, cost_digits, IsPlain, ArePlain, AreWeighed, plain_argument, weighted_argument}
use Rattle.query_text.specs.Words.{is_whole}
use Rattle.query_text.specs.Front.{Front, Head, stage_of, class_of, next, shape_from, is_weighted, piece_at, IsFine}
use Rattle.query_text.specs.Front as front
use Rattle.query_text.specs.declared.frame.Frame.{Frame}
use Rattle.query_text.specs.declared.draft.Draft.{Draft}
use Rattle.query_text.specs.declared.parser_state.ParserState.{ParserState}
use Rattle.query_text.specs.declared.parser_state.ParserState.TheVariants as stages
use Rattle.query_text.specs.declared.fault.QueryFault.{QueryFault}
use Rattle.query_text.specs.declared.fault.QueryFault.TheVariants as faults
use Rattle.topk_base.specs.declared.TheConstants.{MAX_LISTS, MAX_WEIGHT}

-- the arguments of a frame, by the names of their lists
abbrev pub done_of : List (List ℕ) → Frame → List Argument
done_of names frame =
    if is_weighted frame.operator then map (weighted_argument names) (map term_of frame.terms.items)
    else map (plain_argument names) (map tree_of frame.nodes.items)

abbrev pub frame_of : List (List ℕ) → Frame → front.Frame
frame_of names frame = record { operator = frame.operator; done = done_of names frame; weight = option_map decimal frame.weight }

-- the weights of a frame are within their range
abbrev pub IsWeightPlain : Option ℕ → Type 0
IsWeightPlain None = Unit {0}
IsWeightPlain (Some weight) = weight ≤ MAX_WEIGHT

pub record IsFramePlain (frame : Frame) : Type 0 where
  pub weight : IsWeightPlain frame.weight
  pub nodes : ArePlain (trees (map tree_of frame.nodes.items))
  pub terms : AreWeighed (terms (map term_of frame.terms.items))

abbrev pub AreFramesPlain : List Frame → Type 0
AreFramesPlain [] = Unit {0}
AreFramesPlain (frame ∷ frames) = IsFramePlain frame × AreFramesPlain frames

-- the frame has one more argument, with the weight that was read before it
pub record AddsArgument (old new : Frame) (tree : Tree) : Type 0 where
  pub shows : (names : List (List ℕ)) → IsWeight old.operator (option_map decimal old.weight)
      → frame_of names new ≡ record {
        operator = old.operator;
        done = done_of names old ++ (option_map decimal old.weight, written names tree)
            ∷ [];
        weight = None;
      }
  pub plain : IsPlain tree → IsFramePlain old → IsFramePlain new

-- the operator over its arguments and one more
pub record Closes (old : Frame) (tree whole : Tree) : Type 0 where
  pub shows : (names : List (List ℕ)) → IsWeight old.operator (option_map decimal old.weight)
      → written names whole ≡ Written.call old.operator (arguments_from (done_of names old ++ (option_map decimal old.weight, written names tree) ∷ []))
  pub plain : IsPlain tree → IsFramePlain old → IsPlain whole

-- the names of a draft
abbrev pub names_of : Draft → List (List ℕ)
names_of draft = bytes_of draft.names.items

-- the open operators of a draft, the innermost first
abbrev pub frames_in : List (List ℕ) → Draft → List front.Frame
frames_in names draft = map (frame_of names) (reverse draft.frames.items)

abbrev pub expr_in : List (List ℕ) → Draft → Written
expr_in names draft = written names (tree_of draft.operand)

abbrev pub head_in : List (List ℕ) → Draft → Head
head_in names draft = record { k = decimal draft.k; expr = expr_in names draft; algorithm = named_as draft.algorithm }

-- a front with an option that isn't read yet
abbrev pub unset : {A : Type 0} → Option A → Front → Front
unset None front = front
unset (Some value) front = Front.at_top

-- a front before the expression
abbrev pub unopened : List Frame → Front → Front
unopened [] front = front
unopened (frame ∷ frames) front = Front.at_operand [] []

-- a front behind a cost
abbrev pub priced : Head → Option Costs → Front
priced head None = Front.at_top
priced head (Some cost) = Front.at_priced head (cost_digits cost)

-- the front that a draft shows
abbrev pub front_of : List (List ℕ) → ParserState → Draft → Front
front_of names stages.Top draft = unopened draft.frames.items Front.at_top
front_of names stages.Count draft = unopened draft.frames.items Front.at_count
front_of names stages.By draft = unopened draft.frames.items (Front.at_by (decimal draft.k))
front_of names stages.Operand draft = Front.at_operand (decimal draft.k) (frames_in names draft)
front_of names stages.Behind draft = Front.at_behind (decimal draft.k) (frames_in names draft) (expr_in names draft)
front_of names stages.Weight draft = Front.at_weight (decimal draft.k) (frames_in names draft)
front_of names stages.Times draft = Front.at_times (decimal draft.k) (frames_in names draft) (decimal draft.weight)
front_of names stages.Algorithm draft = Front.at_algorithm (decimal draft.k) (expr_in names draft)
front_of names stages.Factor draft = Front.at_factor (decimal draft.k) (expr_in names draft)
front_of names stages.Over draft = Front.at_over (decimal draft.k) (expr_in names draft) (decimal draft.over)
front_of names stages.Under draft = Front.at_under (decimal draft.k) (expr_in names draft) (decimal draft.over)
front_of names stages.Depth draft = Front.at_depth (decimal draft.k) (expr_in names draft)
front_of names stages.Options draft = unset draft.cost (unset draft.room (Front.at_options (head_in names draft)))
front_of names stages.Sorted draft = unset draft.room (Front.at_sorted (head_in names draft))
front_of names stages.Between draft = unset draft.room (Front.at_between (head_in names draft) (decimal draft.sorted))
front_of names stages.Random draft = unset draft.room (Front.at_random (head_in names draft) (decimal draft.sorted))
front_of names stages.Priced draft = unset draft.room (priced (head_in names draft) draft.cost)
front_of names stages.Room draft = Front.at_room (head_in names draft) (option_map cost_digits draft.cost)
front_of names stages.Done draft = Front.at_end (shape_from (head_in names draft) (option_map cost_digits draft.cost) (option_map decimal draft.room))

-- the trees of a draft have weights within their range
pub record IsDraftPlain (draft : Draft) : Type 0 where
  pub operand : IsPlain (tree_of draft.operand)
  pub weight : draft.weight ≤ MAX_WEIGHT
  pub frames : AreFramesPlain draft.frames.items

-- the draft shows the front with one more word, if it showed the front at this stage
abbrev pub GoesOn : Front → ParserState → List ℕ → List (List ℕ) → Draft → Type 0
GoesOn f stage word names new = stage_of f ≡ stage → IsFine f → is_whole (class_of f) word ≡ true → front_of names (stage_of (next f word)) new ≡ next f word

-- a draft takes a word
pub record Takes (stage : ParserState) (old new : Draft) (word : List ℕ) : Type 0 where
  pub names : names_of new ≡ each_once_after bytes_eq (names_of old) (names_in (piece_at stage word ∷ []))
  pub few : length (names_of new) ≤ MAX_LISTS
  pub range : IsInRange (piece_at stage word)
  pub shows : (more : List (List ℕ)) → GoesOn (front_of (names_of new ++ more) stage old) stage word (names_of new ++ more) new
  pub plain : IsDraftPlain old → IsDraftPlain new

-- the piece is a number out of its range
abbrev pub IsOutside : Piece → Type 0
IsOutside (Piece.number least most digits) = is_number digits ≡ true → IsInRange (Piece.number least most digits) → ⊥
IsOutside _ = ⊥

-- why a draft doesn't take a word
abbrev pub Misses : ParserState → Draft → List ℕ → ℕ → QueryFault → Type 0
Misses stage draft word at (faults.Number place) = (place ≡ at) × IsOutside (piece_at stage word)
Misses stage draft word at (faults.TooManyLists place) =
    (place ≡ at) × (MAX_LISTS < length (each_once_after bytes_eq (names_of draft) (names_in (piece_at stage word ∷ []))))
Misses stage draft word at faults.Memory = Unit {0}
Misses _ _ _ _ _ = ⊥
