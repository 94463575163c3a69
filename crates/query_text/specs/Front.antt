-- The front of a query text up to the end of a piece, and how it goes on.
use Rattle.std.specs.Prelude.{◌≡◌, ℕ, Bool, true, false, List, [], ◌∷◌, ◌++◌, codes, Option, Some, None, if◌then◌else◌}
use Rattle.std.specs.List.{flat_map}
use Rattle.std.specs.Str.{bytes_eq}
use Rattle.topk_base.specs.Numbers.{is_empty}
use Rattle.query_text.specs.Written.{Written, Argument, arguments_from, IsNumber, IsWeight, IsWritten}
use Rattle.query_text.specs.Pieces.{Piece}
use Rattle.query_text.specs.Shape.{SyntaxTree, Named, IsNamed, opening, count_piece, weight_pieces, expr_pieces, front_pieces, algorithm_pieces, cost_pieces, pieces_of}
use Rattle.query_text.specs.Words.{Class, opened_by, begins, is_whole, class_at}
use Rattle.query_text.specs.declared.operator.Operator.{Operator}
use Rattle.query_text.specs.declared.operator.Operator.TheVariants.{Wsum}
use Rattle.query_text.specs.declared.parser_state.ParserState.{ParserState}
use Rattle.query_text.specs.declared.parser_state.ParserState.TheVariants as stages
use Rattle.topk_base.specs.declared.TheConstants.{MAX_NUMBER, MAX_WEIGHT}

-- an operator that is open: its arguments so far, and the weight that stands before the next
pub record Frame : Type 0 where
  pub operator : Operator
  pub done : List Argument
  pub weight : Option (List ℕ)

-- what stands before the options
pub record Head : Type 0 where
  pub k : List ℕ
  pub expr : Written
  pub algorithm : Named

abbrev pub head_of : List ℕ → Written → Named → Head
head_of k expr algorithm = record { k = k; expr = expr; algorithm = algorithm }

-- the front of a query text, by what was read: the innermost open operator comes first
pub data Front : Type 0 where
  at_top : Front
  at_count : Front
  at_by : List ℕ → Front
  at_operand : List ℕ → List Frame → Front
  at_behind : List ℕ → List Frame → Written → Front
  at_weight : List ℕ → List Frame → Front
  at_times : List ℕ → List Frame → List ℕ → Front
  at_algorithm : List ℕ → Written → Front
  at_factor : List ℕ → Written → Front
  at_over : List ℕ → Written → List ℕ → Front
  at_under : List ℕ → Written → List ℕ → Front
  at_depth : List ℕ → Written → Front
  at_options : Head → Front
  at_sorted : Head → Front
  at_between : Head → List ℕ → Front
  at_random : Head → List ℕ → Front
  at_priced : Head → List ℕ × List ℕ → Front
  at_room : Head → Option (List ℕ × List ℕ) → Front
  at_end : SyntaxTree → Front

-- a head with its options
abbrev pub shape_from : Head → Option (List ℕ × List ℕ) → Option (List ℕ) → SyntaxTree
shape_from head cost room = record { k = head.k; expr = head.expr; algorithm = head.algorithm; cost = cost; room = room }

-- which piece comes next
abbrev pub stage_of : Front → ParserState
stage_of Front.at_top = stages.Top
stage_of Front.at_count = stages.Count
stage_of (Front.at_by k) = stages.By
stage_of (Front.at_operand k frames) = stages.Operand
stage_of (Front.at_behind k frames expr) = stages.Behind
stage_of (Front.at_weight k frames) = stages.Weight
stage_of (Front.at_times k frames weight) = stages.Times
stage_of (Front.at_algorithm k expr) = stages.Algorithm
stage_of (Front.at_factor k expr) = stages.Factor
stage_of (Front.at_over k expr over) = stages.Over
stage_of (Front.at_under k expr over) = stages.Under
stage_of (Front.at_depth k expr) = stages.Depth
stage_of (Front.at_options head) = stages.Options
stage_of (Front.at_sorted head) = stages.Sorted
stage_of (Front.at_between head sorted) = stages.Between
stage_of (Front.at_random head sorted) = stages.Random
stage_of (Front.at_priced head cost) = stages.Priced
stage_of (Front.at_room head cost) = stages.Room
stage_of (Front.at_end shape) = stages.Done

-- the open operators
abbrev pub frames_of : Front → List Frame
frames_of (Front.at_operand k frames) = frames
frames_of (Front.at_behind k frames expr) = frames
frames_of (Front.at_weight k frames) = frames
frames_of (Front.at_times k frames weight) = frames
frames_of _ = []

abbrev pub is_inside : List Frame → Bool
is_inside [] = false
is_inside (frame ∷ frames) = true

-- what comes next
abbrev pub class_of : Front → Class
class_of front = class_at (stage_of front) (is_inside (frames_of front))

-- the pieces of an argument that a comma follows, of an open operator, and of all open operators
abbrev pub done_pieces : Argument → List Piece
done_pieces argument = weight_pieces argument.0 ++ (expr_pieces argument.1 ++ Piece.fixed (codes ",") ∷ [])

abbrev pub frame_pieces : Frame → List Piece
frame_pieces frame = Piece.fixed (opening frame.operator) ∷ flat_map done_pieces frame.done ++ weight_pieces frame.weight

abbrev pub open_pieces : List Frame → List Piece
open_pieces [] = []
open_pieces (frame ∷ frames) = open_pieces frames ++ frame_pieces frame

-- what stands before the options
abbrev pub head_pieces : Head → List Piece
head_pieces head = front_pieces head.k ++ (expr_pieces head.expr ++ algorithm_pieces head.algorithm)

-- what stands before a piece of the algorithm
abbrev pub using_pieces : List ℕ → Written → List Piece → List Piece
using_pieces k expr pieces = front_pieces k ++ (expr_pieces expr ++ Piece.fixed (codes " using ") ∷ pieces)

-- the pieces of a front
abbrev pub pieces_before : Front → List Piece
pieces_before Front.at_top = []
pieces_before Front.at_count = Piece.fixed (codes "top ") ∷ []
pieces_before (Front.at_by k) = Piece.fixed (codes "top ") ∷ count_piece k ∷ []
pieces_before (Front.at_operand k frames) = front_pieces k ++ open_pieces frames
pieces_before (Front.at_behind k frames expr) = front_pieces k ++ (open_pieces frames ++ expr_pieces expr)
pieces_before (Front.at_weight k frames) = front_pieces k ++ open_pieces frames
pieces_before (Front.at_times k frames weight) = front_pieces k ++ (open_pieces frames ++ Piece.number 0 MAX_WEIGHT weight ∷ [])
pieces_before (Front.at_algorithm k expr) = using_pieces k expr []
pieces_before (Front.at_factor k expr) = using_pieces k expr (Piece.fixed (codes "theta ") ∷ [])
pieces_before (Front.at_over k expr over) = using_pieces k expr (Piece.fixed (codes "theta ") ∷ count_piece over ∷ [])
pieces_before (Front.at_under k expr over) = using_pieces k expr (Piece.fixed (codes "theta ") ∷ count_piece over ∷ Piece.fixed (codes "/") ∷ [])
pieces_before (Front.at_depth k expr) = using_pieces k expr (Piece.fixed (codes "early ") ∷ [])
pieces_before (Front.at_options head) = head_pieces head
pieces_before (Front.at_sorted head) = head_pieces head ++ Piece.fixed (codes " cost ") ∷ []
pieces_before (Front.at_between head sorted) = head_pieces head ++ Piece.fixed (codes " cost ") ∷ count_piece sorted ∷ []
pieces_before (Front.at_random head sorted) = head_pieces head ++ Piece.fixed (codes " cost ") ∷ count_piece sorted ∷ Piece.fixed (codes " ") ∷ []
pieces_before (Front.at_priced head cost) = head_pieces head ++ cost_pieces (Some cost)
pieces_before (Front.at_room head cost) = head_pieces head ++ (cost_pieces cost ++ Piece.fixed (codes " room ") ∷ [])
pieces_before (Front.at_end shape) = pieces_of shape

-- the piece of an operand's word
abbrev pub operand_piece : List ℕ → Option Operator → Piece
operand_piece word None = Piece.name word
operand_piece word (Some operator) = Piece.fixed word

-- the piece that a word is
abbrev pub piece_at : ParserState → List ℕ → Piece
piece_at stages.Count word = Piece.number 1 MAX_NUMBER word
piece_at stages.Operand word = operand_piece word (opened_by word)
piece_at stages.Weight word = Piece.number 0 MAX_WEIGHT word
piece_at stages.Factor word = Piece.number 1 MAX_NUMBER word
piece_at stages.Under word = Piece.number 1 MAX_NUMBER word
piece_at stages.Depth word = Piece.number 1 MAX_NUMBER word
piece_at stages.Sorted word = Piece.number 1 MAX_NUMBER word
piece_at stages.Random word = Piece.number 1 MAX_NUMBER word
piece_at stages.Room word = Piece.number 1 MAX_NUMBER word
piece_at _ word = Piece.fixed word

-- whether an operator has weights
abbrev pub is_weighted : Operator → Bool
is_weighted Wsum = true
is_weighted _ = false

-- an argument of the innermost operator begins: its weight comes first, if the operator has weights
abbrev pub begun : List ℕ → Frame → List Frame → Front
begun k frame frames = if is_weighted frame.operator then Front.at_weight k (frame ∷ frames) else Front.at_operand k (frame ∷ frames)

-- an operator without arguments yet
abbrev pub opened : Operator → Frame
opened operator = record { operator = operator; done = []; weight = None }

-- the arguments with the one that was read last
abbrev pub all_done : Frame → Written → List Argument
all_done frame expr = frame.done ++ (frame.weight, expr) ∷ []

-- behind an operand comes a name or an operator
abbrev pub operand_read : List ℕ → List Frame → List ℕ → Option Operator → Front
operand_read k frames word None = Front.at_behind k frames (Written.name word)
operand_read k frames word (Some operator) = begun k (opened operator) frames

-- behind an argument comes the next, or the operator is whole
abbrev pub argument_read : List ℕ → Frame → List Frame → Written → Bool → Front
argument_read k frame frames expr true = begun k (record frame { done = all_done frame expr; weight = None }) frames
argument_read k frame frames expr false = Front.at_behind k frames (Written.call frame.operator (arguments_from (all_done frame expr)))

-- behind the word of an algorithm come its numbers, if it has any
abbrev pub named_read : List ℕ → Written → List ℕ → Front
named_read k expr word =
    if bytes_eq word (codes "theta ") then Front.at_factor k expr
    else (if bytes_eq word (codes "early ") then Front.at_depth k expr else Front.at_options (head_of k expr (Named.word word)))

-- the front with one more word
abbrev pub next : Front → List ℕ → Front
next Front.at_top word = Front.at_count
next Front.at_count word = Front.at_by word
next (Front.at_by k) word = Front.at_operand k []
next (Front.at_operand k frames) word = operand_read k frames word (opened_by word)
next (Front.at_behind k [] expr) word = Front.at_algorithm k expr
next (Front.at_behind k (frame ∷ frames) expr) word = argument_read k frame frames expr (bytes_eq word (codes ","))
next (Front.at_weight k frames) word = Front.at_times k frames word
next (Front.at_times k [] weight) word = Front.at_operand k []
next (Front.at_times k (frame ∷ frames) weight) word = Front.at_operand k (record frame { weight = Some weight } ∷ frames)
next (Front.at_algorithm k expr) word = named_read k expr word
next (Front.at_factor k expr) word = Front.at_over k expr word
next (Front.at_over k expr over) word = Front.at_under k expr over
next (Front.at_under k expr over) word = Front.at_options (head_of k expr (Named.factor over word))
next (Front.at_depth k expr) word = Front.at_options (head_of k expr (Named.depth word))
next (Front.at_options head) word = if bytes_eq word (codes " cost ") then Front.at_sorted head else Front.at_room head None
next (Front.at_sorted head) word = Front.at_between head word
next (Front.at_between head sorted) word = Front.at_random head sorted
next (Front.at_random head sorted) word = Front.at_priced head (sorted, word)
next (Front.at_priced head cost) word = Front.at_room head (Some cost)
next (Front.at_room head cost) word = Front.at_end (shape_from head cost (Some word))
next (Front.at_end shape) word = Front.at_end shape

-- the syntax tree of a front that is a whole text
abbrev pub shape_at : Front → Option SyntaxTree
shape_at (Front.at_options head) = Some (shape_from head None None)
shape_at (Front.at_priced head cost) = Some (shape_from head (Some cost) None)
shape_at (Front.at_end shape) = Some shape
shape_at _ = None

-- what is read byte by byte behind a front and a part of its next word: each word is as long as it can be
abbrev pub reads : Front → List ℕ → List ℕ → Option SyntaxTree
reads front word [] = if is_empty word then shape_at front else (if is_whole (class_of front) word then shape_at (next front word) else None)
reads front word (byte ∷ text) =
    if begins (class_of front) (word ++ byte ∷ []) then reads front (word ++ byte ∷ []) text
    else (if is_whole (class_of front) word then (if begins (class_of (next front word)) (byte ∷ []) then reads (next front word) (byte
    ∷ []) text else None) else None)

-- the arguments are well formed, and so are their weights
abbrev pub AreDone : Operator → List Argument → Type 0
AreDone operator [] = Unit {0}
AreDone operator (argument ∷ rest) = IsWeight operator argument.0 × IsWritten argument.1 × AreDone operator rest

-- the operators are open before an operand
abbrev pub AreOpen : List Frame → Type 0
AreOpen [] = Unit {0}
AreOpen (frame ∷ frames) = AreDone frame.operator frame.done × IsWeight frame.operator frame.weight × AreOpen frames

-- the operators are open before a weight
abbrev pub AreWeighing : List Frame → Type 0
AreWeighing [] = ⊥
AreWeighing (frame ∷ frames) = AreDone frame.operator frame.done × (frame.operator ≡ Wsum) × (frame.weight ≡ None) × AreOpen frames

pub record IsHead (head : Head) : Type 0 where
  pub k : IsNumber head.k
  pub expr : IsWritten head.expr
  pub algorithm : IsNamed head.algorithm

abbrev pub IsCost : Option (List ℕ × List ℕ) → Type 0
IsCost None = Unit {0}
IsCost (Some cost) = IsNumber cost.0 × IsNumber cost.1

abbrev pub IsRoom : Option (List ℕ) → Type 0
IsRoom None = Unit {0}
IsRoom (Some room) = IsNumber room

-- what was read is well formed
abbrev pub IsFine : Front → Type 0
IsFine Front.at_top = Unit {0}
IsFine Front.at_count = Unit {0}
IsFine (Front.at_by k) = IsNumber k
IsFine (Front.at_operand k frames) = IsNumber k × AreOpen frames
IsFine (Front.at_behind k frames expr) = IsNumber k × AreOpen frames × IsWritten expr
IsFine (Front.at_weight k frames) = IsNumber k × AreWeighing frames
IsFine (Front.at_times k frames weight) = IsNumber k × AreWeighing frames × IsNumber weight
IsFine (Front.at_algorithm k expr) = IsNumber k × IsWritten expr
IsFine (Front.at_factor k expr) = IsNumber k × IsWritten expr
IsFine (Front.at_over k expr over) = IsNumber k × IsWritten expr × IsNumber over
IsFine (Front.at_under k expr over) = IsNumber k × IsWritten expr × IsNumber over
IsFine (Front.at_depth k expr) = IsNumber k × IsWritten expr
IsFine (Front.at_options head) = IsHead head
IsFine (Front.at_sorted head) = IsHead head
IsFine (Front.at_between head sorted) = IsHead head × IsNumber sorted
IsFine (Front.at_random head sorted) = IsHead head × IsNumber sorted
IsFine (Front.at_priced head cost) = IsHead head × IsNumber cost.0 × IsNumber cost.1
IsFine (Front.at_room head cost) = IsHead head × IsCost cost
IsFine (Front.at_end shape) = IsNumber shape.k × IsWritten shape.expr × IsNamed shape.algorithm × IsCost shape.cost × IsRoom shape.room
