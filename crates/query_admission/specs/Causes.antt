-- Why a query line is refused: the causes in their order, and the first that holds.
use Rattle.std.specs.Prelude.{◌≡◌, ◌<◌, ℕ, is_none, IsTrue, List, [], ◌∷◌, ◌++◌, map, All, Option, None, Some, Ok, Err}
use Rattle.std.specs.List.{position}
use Rattle.ranked_list.specs.declared.row.Row.{Row}
use Rattle.query_text.specs.declared.query.Query.{Query}
use Rattle.query_text.specs.declared.fault.QueryFault.{QueryFault}
use Rattle.query_text.specs.declared.fault.QueryFault.TheVariants.{LongLine as Long, Syntax as BadSyntax, Number as BadNumber, Memory}
use Rattle.query_text.specs.declared.fault.QueryFault.TheVariants.{TooManyLists as ManyLists, BadTheta as BadFactor, TooManyNodes as ManyNodes, TooDeep as Deep, TooBig as Big}
use Rattle.query_text.specs.Reading.{Reads}
use Rattle.cert_text.specs.declared.refusal.Refusal.{Refusal}
use Rattle.cert_text.specs.declared.refusal.Refusal.TheVariants.{ManyQueries, LongLine, Syntax, Number, TooManyLists, BadTheta, TooManyNodes, TooDeep, TooBig}
use Rattle.cert_text.specs.declared.refusal.Refusal.TheVariants.{UnknownList, NotOpened, TooLarge, CountsDiffer, KAboveCount, NoRandom, NoSorted, RoomFull}
use Rattle.query_core.specs.Algorithms.{asks_grades}
use Rattle.query_core.specs.OneAnswer.{IsOverRoomWith}
use Rattle.query_admission.specs.View.{View, AreListed, AreTold, is_closed, is_large, differs, lacks_random, unread_list, method_over, size_stated, count_of}
use Rattle.query_admission.specs.declared.lists.ListInfo.{ListInfo}
use Rattle.topk_base.specs.declared.TheConstants.{MAX_QUERIES}

-- a query line: the lists that it may name, its number in the input, from 1, and its bytes
pub record QueryLine : Type 0 where
  pub view : View
  pub number : ℕ
  pub bytes : List ℕ

-- the query line of a number over such lists
abbrev pub line_over : View → ℕ → List ℕ → QueryLine
line_over view number bytes = record { view = view; number = number; bytes = bytes }

-- the most query lines of an input
abbrev pub most_queries : ℕ
most_queries = MAX_QUERIES

-- what refuses a query line
pub data Cause : Type 0 where
  many_queries : Cause
  text : Cause
  unknown_list : Cause
  not_opened : Cause
  too_large : Cause
  counts_differ : Cause
  k_above_count : Cause
  no_random : Cause
  no_sorted : Cause
  room_full : Cause

-- the causes that lie in a line alone, whatever lists there are; those that are tried before a query runs, in their order; all causes
abbrev pub text_causes : List Cause
text_causes = Cause.many_queries ∷ Cause.text ∷ []

abbrev pub admission_causes : List Cause
admission_causes =
    Cause.many_queries ∷ Cause.text ∷ Cause.unknown_list ∷ Cause.not_opened ∷ Cause.too_large ∷ Cause.counts_differ ∷ Cause.k_above_count ∷ Cause.no_random
    ∷ Cause.no_sorted ∷ []

abbrev pub line_causes : List Cause
line_causes = admission_causes ++ Cause.room_full ∷ []

-- the refusal for a fault of the text
abbrev pub text_refusal : QueryFault → Option Refusal
text_refusal (Long limit) = Some (LongLine limit)
text_refusal (BadSyntax at) = Some (Syntax at)
text_refusal (BadNumber at) = Some (Number at)
text_refusal (ManyLists at) = Some (TooManyLists at)
text_refusal (BadFactor p q) = Some (BadTheta p q)
text_refusal (ManyNodes nodes) = Some (TooManyNodes nodes)
text_refusal (Deep depth) = Some (TooDeep depth)
text_refusal (Big node) = Some (TooBig node)
text_refusal Memory = None

-- the line spells a query of which this holds; and a query over lists that are all there
pub record Spelled (x : QueryLine) (P : Query → Type 0) : Type 0 where
  pub query : Query
  pub reads : Reads x.bytes (Ok query)
  pub holds : P query

pub record Over (x : QueryLine) (P : Query → List ListInfo → Type 0) : Type 0 where
  pub query : Query
  pub lists : List ListInfo
  pub reads : Reads x.bytes (Ok query)
  pub listed : AreListed x.view query lists
  pub holds : P query lists

-- a cause that lies in what a query's lists say of themselves gives this refusal
abbrev pub ListsGive : Query → List ListInfo → Cause → Refusal → Type 0
ListsGive q lists Cause.not_opened refusal = (list : ℕ) × (refusal ≡ NotOpened list) × (position is_closed lists ≡ Some list)
ListsGive q lists Cause.too_large refusal =
    (list count : ℕ) × (refusal ≡ TooLarge list count) × (position is_large lists ≡ Some list) × (size_stated lists list ≡ Some count)
ListsGive q lists Cause.counts_differ refusal =
    (n other m : ℕ) × (refusal ≡ CountsDiffer 0 n other m) × (count_of lists ≡ Some n) × (position (differs n) lists ≡ Some other)
    × (size_stated lists other ≡ Some m)
ListsGive q lists Cause.k_above_count refusal = (n : ℕ) × (refusal ≡ KAboveCount q.k n) × (count_of lists ≡ Some n) × (n < q.k)
ListsGive q lists Cause.no_random refusal =
    (list : ℕ) × (refusal ≡ NoRandom list) × IsTrue (asks_grades q.algorithm) × (position lacks_random lists ≡ Some list)
ListsGive q lists Cause.no_sorted refusal = (list : ℕ) × (refusal ≡ NoSorted list) × (unread_list q.algorithm lists ≡ Some list)
ListsGive q lists other refusal = ⊥

-- the cause holds of the line, and gives this refusal
abbrev pub RefusesFor : QueryLine → Cause → Refusal → Type 0
RefusesFor x Cause.many_queries refusal = (refusal ≡ ManyQueries most_queries) × (most_queries < x.number)
RefusesFor x Cause.text refusal = (fault : QueryFault) × (text_refusal fault ≡ Some refusal) × Reads x.bytes (Err fault)
RefusesFor x Cause.unknown_list refusal = Spelled x (λ q. (list : ℕ) × (refusal ≡ UnknownList list) × (position is_none (map x.view.listed q.names) ≡ Some list))
RefusesFor x Cause.room_full refusal =
    Over x (λ q lists. (D : List (List Row)) × (n room : ℕ) × (refusal ≡ RoomFull room) × AreTold x.view q D × (count_of lists ≡ Some n)
    × IsOverRoomWith (method_over q lists) q n D room)
RefusesFor x cause refusal = Over x (λ q lists. ListsGive q lists cause refusal)

-- none of the causes holds
abbrev pub NoneOf : (Cause → Refusal → Type 0) → List Cause → Type 0
NoneOf Give causes = All (λ cause. (refusal : Refusal) → ¬ Give cause refusal) causes

-- the refusal is that of the first of the causes that holds
pub record IsFirstOf (Give : Cause → Refusal → Type 0) (causes : List Cause) (refusal : Refusal) : Type 0 where
  pub cause : Cause
  pub earlier : List Cause
  pub later : List Cause
  pub order : causes ≡ earlier ++ cause ∷ later
  pub gives : Give cause refusal
  pub first : NoneOf Give earlier
