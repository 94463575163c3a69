-- What a word stands for: the name that came last, a number below its range, and an operator.
use Rattle.std.proofs.Common.{◌≡◌, ℕ, ◌<◌, Bool, true, false, nat_le, List, [], ◌∷◌, ◌++◌, length, codes, Option, Some, None, refl, sym, ap, subst, ◌∙◌, arith}
use Rattle.std.specs.Prelude.{find, if◌then◌else◌}
use Rattle.std.specs.Global.{Vec}
use Rattle.std.specs.Option.{option_and_then}
use Rattle.std.specs.Str.{bytes_eq}
use Rattle.std.specs.Str.Parse.{digits_value}
use Rattle.topk_base.specs.Numbers.{is_number, number_up_to}
use Rattle.query_text.specs.Bytes.{bytes_of}
use Rattle.query_text.specs.Pieces.{Piece, IsInRange}
use Rattle.query_text.specs.Query.{name_of}
use Rattle.query_text.specs.Shape.{algorithm_word, algorithms, opening}
use Rattle.query_text.specs.declared.fault.QueryFault.{QueryFault}
use Rattle.query_text.specs.declared.fault.QueryFault.TheVariants as faults
use Rattle.query_text.specs.Course.{algorithm_stage}
use Rattle.query_text.specs.declared.algorithm.Algorithm.TheVariants.{Taz}
use Rattle.query_text.specs.declared.parser_state.ParserState.TheVariants as stages
use Rattle.query_text.specs.declared.operator.Operator.{Operator}
use Rattle.query_text.specs.declared.operator.Operator.TheVariants.{Min, Max, Sum, Median, Wsum}
use Rattle.query_text.specs.Words.{opened_by}
use Rattle.query_text.proofs.ListLaws.{same_bytes}
use Rattle.topk_base.specs.declared.TheConstants.{MAX_NUMBER}

-- the name that was put last stands at the place of the count before
pub last_name : (names : List (Vec ℕ)) (name : Vec ℕ) (more : List (List ℕ)) → name_of (bytes_of (names ++ name ∷ []) ++ more) (length names) ≡ name.items
last_name [] name more = refl
last_name (first ∷ names) name more = last_name names name more

some_is : (test : Bool) (value number : ℕ) → (if test then Some value else None) ≡ Some number → value ≡ number
some_is true value number is = cc
some_is false value number is = absurd cc

value_is : (test : Bool) (value most number : ℕ)
    → option_and_then (λ n. if nat_le n most then Some n else None) (if test then Some value else None) ≡ Some number → value ≡ number
value_is true value most number is = some_is (nat_le value most) value number is
value_is false value most number is = absurd cc

-- a number below the least isn't within its range
pub below_least : (word : List ℕ) (least most number : ℕ) → number_up_to most word ≡ Some number → number < least
    → is_number word ≡ true → IsInRange (Piece.number least most word) → ⊥
below_least word least most number read below is within =
    let value = value_is (is_number word) (digits_value 10 word) most number read in
    let low = within.0 in
    omega arith

-- a number is out of the range of counts where it is out of the range up to the greatest count
pub count_missed : (word : List ℕ) (at most : ℕ) (fault : QueryFault) → most ≡ MAX_NUMBER
    → (fault ≡ faults.Number at) × (is_number word ≡ true → IsInRange (Piece.number 1 most word) → ⊥)
    → (fault ≡ faults.Number at) × (is_number word ≡ true → IsInRange (Piece.number 1 MAX_NUMBER word) → ⊥)
count_missed word at most fault is missed = subst (λ n. (fault ≡ faults.Number at) × (is_number word ≡ true → IsInRange (Piece.number 1 n word) → ⊥)) is missed

-- the operator by the words before it
pub opens_max : (word : List ℕ) → bytes_eq word (codes "min(") ≡ false → bytes_eq word (codes "max(") ≡ true → opened_by word ≡ Some Max
opens_max word no_min is =
    let rest : Option Operator = find (λ operator. bytes_eq word (opening operator)) (Sum ∷ Median ∷ Wsum ∷ []) in
    ap (λ t. if t then Some Min else (if bytes_eq word (codes "max(") then Some Max else rest)) no_min
    ∙ ap (λ t. if t then Some Max else rest) is

-- the algorithm of a word that another one begins
pub names_taz : (word : List ℕ) → bytes_eq word (codes "taz") ≡ true → find (λ algorithm. bytes_eq word (algorithm_word algorithm)) algorithms ≡ Some Taz
names_taz word is = subst (λ w. find (λ algorithm. bytes_eq w (algorithm_word algorithm)) algorithms ≡ Some Taz) (sym (same_bytes word (codes "taz") is)) refl

-- a depth comes behind its word
pub depth_next : (word : List ℕ) → bytes_eq word (codes "early ") ≡ true → algorithm_stage word ≡ stages.Depth
depth_next word is = subst (λ w. algorithm_stage w ≡ stages.Depth) (sym (same_bytes word (codes "early ") is)) refl
