-- Why a query line is refused, as text.
use Rattle.std.specs.Prelude.{ℕ, List, [], ◌∷◌, codes}
use Rattle.std.specs.List.{flat_map}
use Rattle.std.specs.Fmt.{decimal}
use Rattle.query_text.specs.Query.{name_of}
use Rattle.cert_text.specs.declared.refusal.Refusal.{Refusal}
use Rattle.cert_text.specs.declared.refusal.Refusal.TheVariants.{ManyQueries, LongLine, Syntax, Number, TooManyLists, BadTheta, TooManyNodes, TooDeep, TooBig, UnknownList, NotOpened, TooLarge, CountsDiffer, KAboveCount, NoRandom, NoSorted, Strangers, RoomFull}
use Rattle.cert_text.specs.declared.refusal.Refusal.TheVariants.{OutOfOrder, TooHigh, Repeated, Clash, Above, Missing, ShortList, AsksFull, Failed, Garbled, Moved}

-- a field of a refusal: a number, or a list by its number in the query
pub data Field : Type 0 where
  number : ℕ → Field
  list : ℕ → Field

-- the name of a refusal, and its fields in order
abbrev pub refusal_row : Refusal → List ℕ × List Field
refusal_row (ManyQueries limit) = (codes "ManyQueries", Field.number limit ∷ [])
refusal_row (LongLine limit) = (codes "LongLine", Field.number limit ∷ [])
refusal_row (Syntax at) = (codes "Syntax", Field.number at ∷ [])
refusal_row (Number at) = (codes "Number", Field.number at ∷ [])
refusal_row (TooManyLists at) = (codes "TooManyLists", Field.number at ∷ [])
refusal_row (BadTheta p q) = (codes "BadTheta", Field.number p ∷ Field.number q ∷ [])
refusal_row (TooManyNodes nodes) = (codes "TooManyNodes", Field.number nodes ∷ [])
refusal_row (TooDeep depth) = (codes "TooDeep", Field.number depth ∷ [])
refusal_row (TooBig node) = (codes "TooBig", Field.number node ∷ [])
refusal_row (UnknownList l) = (codes "UnknownList", Field.list l ∷ [])
refusal_row (NotOpened l) = (codes "NotOpened", Field.list l ∷ [])
refusal_row (TooLarge l count) = (codes "TooLarge", Field.list l ∷ Field.number count ∷ [])
refusal_row (CountsDiffer l n other m) = (codes "CountsDiffer", Field.list l ∷ Field.number n ∷ Field.list other ∷ Field.number m ∷ [])
refusal_row (KAboveCount k n) = (codes "KAboveCount", Field.number k ∷ Field.number n ∷ [])
refusal_row (NoRandom l) = (codes "NoRandom", Field.list l ∷ [])
refusal_row (NoSorted l) = (codes "NoSorted", Field.list l ∷ [])
refusal_row (Strangers object count) = (codes "Strangers", Field.number object ∷ Field.number count ∷ [])
refusal_row (RoomFull room) = (codes "RoomFull", Field.number room ∷ [])
refusal_row (OutOfOrder l place before after) = (codes "OutOfOrder", Field.list l ∷ Field.number place ∷ Field.number before ∷ Field.number after ∷ [])
refusal_row (TooHigh l place grade) = (codes "TooHigh", Field.list l ∷ Field.number place ∷ Field.number grade ∷ [])
refusal_row (Repeated l object place) = (codes "Repeated", Field.list l ∷ Field.number object ∷ Field.number place ∷ [])
refusal_row (Clash l object sorted random) = (codes "Clash", Field.list l ∷ Field.number object ∷ Field.number sorted ∷ Field.number random ∷ [])
refusal_row (Above l object grade bottom) = (codes "Above", Field.list l ∷ Field.number object ∷ Field.number grade ∷ Field.number bottom ∷ [])
refusal_row (Missing l object) = (codes "Missing", Field.list l ∷ Field.number object ∷ [])
refusal_row (ShortList l stated got) = (codes "ShortList", Field.list l ∷ Field.number stated ∷ Field.number got ∷ [])
refusal_row (AsksFull l kept) = (codes "AsksFull", Field.list l ∷ Field.number kept ∷ [])
refusal_row (Failed l) = (codes "Failed", Field.list l ∷ [])
refusal_row (Garbled l) = (codes "Garbled", Field.list l ∷ [])
refusal_row (Moved l had now) = (codes "Moved", Field.list l ∷ Field.number had ∷ Field.number now ∷ [])

-- the word of a field: a number in decimal, a list by its name
abbrev pub field_word : List (List ℕ) → Field → List ℕ
field_word names (Field.number n) = decimal n
field_word names (Field.list l) = name_of names l

-- the lists that a field names
abbrev pub lists_in : Field → List ℕ
lists_in (Field.number n) = []
lists_in (Field.list l) = l ∷ []

-- the lists that a refusal names
abbrev pub refused_lists : Refusal → List ℕ
refused_lists refusal = flat_map lists_in (refusal_row refusal).1
