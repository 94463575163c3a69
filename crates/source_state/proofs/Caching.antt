-- The objects keep their table, their open grades and their cursor.
use Rattle.std.proofs.Common.{◌≡◌, ◌≢◌, ◌<◌, ◌≤◌, ◌==◌, ◌+◌, ◌-◌, inl, inr, ℕ, zero, suc, Bool, true, false, cond, not, Option, Some, None, List, [], ◌∷◌, ◌++◌, length, map, replicate, set, get_or, nat_lt, nat_eq, is_some, slice_get, slice_index_or, drop, AllPairs, Contains, refl, sym, ap, subst, ◌∙◌, arith, append_assoc, eqb-true, ◌&&◌}
use Rattle.std.specs.List.{find, position, position_or_len, cons_option}
use Rattle.std.specs.Option.{option_map}
use Rattle.std.specs.Ordering.{nat_cmp}
use Rattle.std.proofs.lemmas.Bool.{cases_Bool, ltb-false, ltb-true, le-ltb}
use Rattle.std.proofs.lemmas.List.{length-append, length-map, length-set, set-append_left, map-set, map-append, get_or_append_left}
use Rattle.std.proofs.lemmas.List.Sums.{fails_before_first, passes_at_first}
use Rattle.std.proofs.lemmas.List.Quantifiers.{all_pairs_push}
use Rattle.std.proofs.lemmas.Option.{slice_get-map, slice_get-get_or, cond_some}
use Rattle.ranked_list.specs.declared.row.Row.{Row}
use Rattle.containers.specs.Values.{Values, value_of, IsSet}
use Rattle.containers.specs.Ranks.{rank_at, HasNone, IsGreatest}
use Rattle.containers.proofs.Fitting.{position_more}
use Rattle.containers.proofs.SlotChanges.{no_greater}
use Rattle.topk_theory.specs.Transcript.{last_grade}
use Rattle.topk_theory.specs.Bounds.{grade_among}
use Rattle.topk_theory.proofs.ThresholdRun.{contains_from_filter_map}
use Rattle.topk_theory.proofs.ThresholdLists.{map_map, map_same}
use Rattle.topk_theory.proofs.AgreementLists.{contains_at, contains_here, contains_there, contains_cases, contains_map, contains_nil, slice_get_contains, distinct_head, distinct_tail}
use Rattle.topk_theory.proofs.AgreementRows.{grade_among_append_none}
use Rattle.source_state.specs.declared.ask.Ask.{Ask}
use Rattle.source_state.specs.declared.entry.Settling.{Settling}
use Rattle.source_state.specs.declared.spots.Spot.{Spot}
use Rattle.source_state.specs.declared.spots.Request.{Request}
use Rattle.source_state.specs.Asks.{ask_of, open_grade, open_row, open_rows, first_above, is_due, change, settled_asks, held_asks, new_ask, stops}
use Rattle.source_state.specs.ObjectKeeping.{ObjectList, KeepsObjects, ask_objects, sorted_of, place_of, sorted_at, place_at, standing, standings, listed}
use Rattle.source_state.proofs.Lists.{eqb_same, eqb_other, position_map, find_at_position, find_no_position, find_none, none_not_some, cond_none}
use Rattle.source_state.proofs.AskLaws.{grade_other, equal_or_not, changed, unchanged}

-- the last grade of rows is that of their last row
pub last_is : (above : ℕ) (rows : List Row) (row : Row) → slice_get rows (length rows - 1) ≡ Some row → last_grade above rows ≡ row.grade
last_is above [] row e = absurd (none_not_some e)
last_is above (first ∷ []) row e = let is : first ≡ row = cc in ap (λ (one : Row). one.grade) is
last_is above (first ∷ second ∷ rows) row e =
    let p : suc (suc (length rows)) - 1 ≡ suc (length rows) = omega arith in
    let q : suc (length rows) - 1 ≡ length rows = omega arith in
    last_is first.grade (second ∷ rows) row (ap (slice_get (second ∷ rows)) q ∙ sym (ap (slice_get (first ∷ second ∷ rows)) p) ∙ e)

-- an ask by its place
pub ask_no_place : (asks : List Ask) (object : ℕ) → position (nat_eq object) (ask_objects asks) ≡ None → ask_of asks object ≡ None
ask_no_place asks object e = find_no_position (λ (ask : Ask). object == ask.object) asks (sym (position_map (nat_eq object) (λ (ask : Ask). ask.object) asks) ∙ e)

pub ask_at_place : (asks : List Ask) (object place : ℕ) → position (nat_eq object) (ask_objects asks) ≡ Some place → ask_of asks object ≡ slice_get asks place
ask_at_place asks object place e = find_at_position (λ (ask : Ask). object == ask.object) asks place (sym (position_map (nat_eq object) (λ (ask : Ask). ask.object) asks) ∙ e)

-- an object whose ask isn't found is not among those that were asked
pub ask_absent : (asks : List Ask) (object : ℕ) → ask_of asks object ≡ None → Contains (ask_objects asks) object → ⊥
ask_absent [] object e c = contains_nil object c
ask_absent (ask ∷ asks) object e c =
    let parts = cond_none (object == ask.object) ask (ask_of asks object) e in
    elim (contains_cases ask.object (ask_objects asks) object c) [
      | inl same ↦ let t : (object == ask.object) ≡ true = subst (λ o. (object == o) ≡ true) (sym same) (eqb_same object) in let bad : true ≡ false = sym t ∙ parts.0 in absurd (cc)
      | inr t ↦ ask_absent asks object parts.1 t
    ]

-- the first place that passes, as far as it is known
pub place_more : {X : Type 0} (p : X → Bool) (xs : List X) (i : ℕ) (d : X) → i ≤ position_or_len p xs → i < length xs → p (get_or xs i d) ≡ false
    → i + 1 ≤ position_or_len p xs
place_more p xs i d low within fails =
    elim (cases_Bool (nat_lt i (position_or_len p xs))) [
      | inl t ↦ let lt : i < position_or_len p xs = ltb-true i (position_or_len p xs) t in omega arith
      | inr f ↦
          let high : position_or_len p xs ≤ i = ltb-false i (position_or_len p xs) f in
          let same : position_or_len p xs ≡ i = omega arith in
          let passes : p (get_or xs (position_or_len p xs) d) ≡ true = passes_at_first p xs d (omega arith) in
          let bad : true ≡ false = sym passes ∙ ap (λ k. p (get_or xs k d)) same ∙ fails in absurd (cc)
    ]

place_within : {X : Type 0} (p : X → Bool) (xs : List X) → position_or_len p xs ≤ length xs
place_within p [] = omega arith
place_within p (x ∷ xs) =
    let ih : position_or_len p xs ≤ length xs = place_within p xs in
    elim (not (p x)) as (λ b. cond b (1 + position_or_len p xs) 0 ≤ suc (length xs)) [ true ↦ omega arith | false ↦ omega arith ]

pub place_here : {X : Type 0} (p : X → Bool) (xs : List X) (i : ℕ) (d : X) → i ≤ position_or_len p xs → p (get_or xs i d) ≡ true → i ≡ position_or_len p xs
place_here p xs i d low passes =
    elim (cases_Bool (nat_lt i (position_or_len p xs))) [
      | inl t ↦ let bad : true ≡ false = sym passes ∙ fails_before_first p xs i d (ltb-true i (position_or_len p xs) t) in absurd (cc)
      | inr f ↦ let high : position_or_len p xs ≤ i = ltb-false i (position_or_len p xs) f in omega arith
    ]

pub place_end : {X : Type 0} (p : X → Bool) (xs : List X) (i : ℕ) → i ≤ position_or_len p xs → length xs ≤ i → i ≡ position_or_len p xs
place_end p xs i low past = let within : position_or_len p xs ≤ length xs = place_within p xs in omega arith

pub place_push : {X : Type 0} (p : X → Bool) (xs : List X) (y : X) → position_or_len p xs ≤ position_or_len p (xs ++ y ∷ [])
place_push p [] y = omega arith
place_push p (x ∷ xs) y =
    let ih : position_or_len p xs ≤ position_or_len p (xs ++ y ∷ []) = place_push p xs y in
    elim (not (p x)) as (λ b. cond b (1 + position_or_len p xs) 0 ≤ cond b (1 + position_or_len p (xs ++ y ∷ [])) 0) [ true ↦ omega arith | false ↦ omega arith ]

pub place_set : {X : Type 0} (p : X → Bool) (xs : List X) (i : ℕ) (y : X) → p y ≡ false → position_or_len p xs ≤ position_or_len p (set xs i y)
place_set p [] i y fails = omega arith
place_set p (x ∷ xs) zero y fails =
    subst (λ b. cond (not (p x)) (1 + position_or_len p xs) 0 ≤ cond (not b) (1 + position_or_len p xs) 0) (sym fails)
    (elim (not (p x)) as (λ b. cond b (1 + position_or_len p xs) 0 ≤ 1 + position_or_len p xs) [ true ↦ omega arith | false ↦ omega arith ])
place_set p (x ∷ xs) (suc i) y fails =
    let ih : position_or_len p xs ≤ position_or_len p (set xs i y) = place_set p xs i y fails in
    elim (not (p x)) as (λ b. cond b (1 + position_or_len p xs) 0 ≤ cond b (1 + position_or_len p (set xs i y)) 0) [ true ↦ omega arith | false ↦ omega arith ]

-- a write of what stands there already
set_same : {X : Type 0} (xs : List X) (i : ℕ) (x : X) → slice_get xs i ≡ Some x → set xs i x ≡ xs
set_same [] i x e = refl
set_same (y ∷ xs) zero x e = let is : y ≡ x = cc in ap (λ z. z ∷ xs) (sym is)
set_same (y ∷ xs) (suc i) x e = ap (λ ys. y ∷ ys) (set_same xs i x e)

cons_same : {a b : Ask} {xs ys : List Ask} → a ≡ b → xs ≡ ys → a ∷ xs ≡ b ∷ ys
cons_same p q = cc

unchanged_all : (object : ℕ) (turn : Ask → Ask) (asks : List Ask) → ((o : ℕ) → Contains (ask_objects asks) o → object ≡ o → ⊥)
    → map (change object turn) asks ≡ asks
unchanged_all object turn [] h = refl
unchanged_all object turn (ask ∷ asks) h =
    cons_same (ap (λ b. cond b (turn ask) ask) (eqb_other object ask.object (h ask.object (contains_here ask.object (ask_objects asks)))))
    (unchanged_all object turn asks (λ o c. h o (contains_there ask.object (ask_objects asks) o c)))

-- a change of the ask of an object is a write at its place
set_change : (object : ℕ) (turn : Ask → Ask) (asks : List Ask) (place : ℕ) (ask : Ask) → AllPairs (λ (one : ℕ) (other : ℕ). one ≢ other) (ask_objects asks)
    → slice_get asks place ≡ Some ask → object ≡ ask.object → set asks place (turn ask) ≡ map (change object turn) asks
set_change object turn [] place ask d e same = absurd (none_not_some e)
set_change object turn (first ∷ asks) zero ask d e same =
    let is : first ≡ ask = cc in
    let head : change object turn first ≡ turn ask =
    ap (λ b. cond b (turn first) first) (subst (λ (one : Ask). (object == one.object) ≡ true) (sym is) (subst (λ o. (object == o) ≡ true) same (eqb_same object))) ∙ ap turn is in
    let rest : map (change object turn) asks ≡ asks = unchanged_all object turn asks (λ o c e. distinct_head first.object (ask_objects asks) o d c (ap (λ (one : Ask). one.object) is ∙ sym same ∙ e)) in
    sym (cons_same head rest)
set_change object turn (first ∷ asks) (suc place) ask d e same =
    let there : Contains (ask_objects asks) object = subst (λ o. Contains (ask_objects asks) o) (sym same) (contains_map (λ (one : Ask). one.object) asks ask (slice_get_contains asks place ask e)) in
    let head : change object turn first ≡ first =
    ap (λ b. cond b (turn first) first) (eqb_other object first.object (λ e. distinct_head first.object (ask_objects asks) object d there (sym e))) in
    let rest : set asks place (turn ask) ≡ map (change object turn) asks = set_change object turn asks place ask (distinct_tail first.object (ask_objects asks) d) e same in
    cc

-- what is found for an object is its ask
ask_found_is : (object : ℕ) (asks : List Ask) (ask : Ask) → ask_of asks object ≡ Some ask → object ≡ ask.object
ask_found_is object [] ask e = absurd (none_not_some e)
ask_found_is object (first ∷ asks) ask e =
    elim (cases_Bool (object == first.object)) [
      | inl t ↦
          let found : Some first ≡ Some ask = sym (ap (λ b. cond b (Some first) (ask_of asks object)) t) ∙ e in
          let is : first ≡ ask = cc in
          eqb-true object first.object t ∙ ap (λ (one : Ask). one.object) is
      | inr f ↦ ask_found_is object asks ask (sym (ap (λ b. cond b (Some first) (ask_of asks object)) f) ∙ e)
    ]

pub change_unfound : (object : ℕ) (turn : Ask → Ask) (asks : List Ask) → ask_of asks object ≡ None → map (change object turn) asks ≡ asks
change_unfound object turn [] e = refl
change_unfound object turn (ask ∷ asks) e =
    let parts = cond_none (object == ask.object) ask (ask_of asks object) e in
    let head : change object turn ask ≡ ask = ap (λ b. cond b (turn ask) ask) parts.0 in
    let rest : map (change object turn) asks ≡ asks = change_unfound object turn asks parts.1 in
    cc

-- an ask that is settled or held isn't due
pub settled_not_due : (ask : Ask) (settling : Settling) → is_due (record ask { settling = Some settling }) ≡ false
settled_not_due ask settling = elim ask.is_held as (λ b. (not b && false) ≡ false) [ true ↦ refl | false ↦ refl ]

-- the open grades after one more ask
none_open : (object : ℕ) (held : Bool) → open_grade (new_ask object held) ≡ None
none_open object true = refl
none_open object false = refl

grades_push : (room : ℕ) (asks : List Ask) (object : ℕ) (held : Bool) → length asks < room
    → map open_grade asks ++ replicate (room - length asks) None ≡ map open_grade (asks ++ new_ask object held ∷ []) ++ replicate (room - length (asks ++ new_ask object held ∷ [])) None
grades_push room asks object held few =
    let ask : Ask = new_ask object held in
    let rest : ℕ = room - length (asks ++ ask ∷ []) in
    let left : room - length asks ≡ suc rest = omega (arith, length-append asks (ask ∷ [])) in
    let pad : replicate (room - length asks) None ≡ None ∷ replicate rest None = ap (λ n. replicate n None) left in
    ap (λ os. map open_grade asks ++ os) pad
    ∙ sym (append_assoc (map open_grade asks) (None ∷ []) (replicate rest None))
    ∙ ap (λ os. os ++ replicate rest None)
    (ap (λ o. map open_grade asks ++ o ∷ []) (sym (none_open object held)) ∙ sym (map-append open_grade asks (ask ∷ [])))

-- ---- the table
-- what is read of an object after one was set
at_set : (f : Option Spot → Option ℕ) (spots after : Values Spot) (object : ℕ) (spot : Spot) → IsSet spots after object spot → (other : ℕ)
    → f (value_of after other) ≡ cond (object == other) (f (Some spot)) (f (value_of spots other))
at_set f spots after object spot is other =
    ap f (is other)
    ∙ elim (object == other) as (λ b. f (cond b (Some spot) (value_of spots other)) ≡ cond b (f (Some spot)) (f (value_of spots other))) [ true ↦ refl | false ↦ refl ]

-- what is kept where all is as before but for one object
set_as : (f : Option Spot → Option ℕ) (spots after : Values Spot) (object : ℕ) (spot : Spot) (before now : ℕ → Option ℕ) → IsSet spots after object spot
    → ((other : ℕ) → f (value_of spots other) ≡ before other) → f (Some spot) ≡ now object
    → ((other : ℕ) → (object ≡ other → ⊥) → before other ≡ now other) → (other : ℕ) → f (value_of after other) ≡ now other
set_as f spots after object spot before now is had here rest other =
    at_set f spots after object spot is other
    ∙ elim (equal_or_not object other) [
      | inl same ↦
          ap (λ b. cond b (f (Some spot)) (f (value_of spots other))) (subst (λ o. (object == o) ≡ true) same (eqb_same object)) ∙ here ∙ ap now same
      | inr apart ↦ ap (λ b. cond b (f (Some spot)) (f (value_of spots other))) (eqb_other object other apart) ∙ had other ∙ rest other apart
    ]

-- a further row gives its object its grade
grade_more : (rows : List Row) (row : Row) → grade_among rows row.object ≡ None → grade_among (rows ++ row ∷ []) row.object ≡ Some row.grade
grade_more rows row none = grade_among_append_none rows (row ∷ []) row.object none ∙ ap (λ b. cond b (Some row.grade) None) (eqb_same row.object)

-- the objects of requests are those of the asks
objects_standing : (spots after : Values Spot) (requests : List Request) → ask_objects (standings after requests) ≡ ask_objects (standings spots requests)
objects_standing spots after requests =
    map_map (λ (ask : Ask). ask.object) (standing after) requests ∙ sym (map_map (λ (ask : Ask). ask.object) (standing spots) requests)

-- a request stands otherwise where the table says otherwise whether the rows hold its object
stands_as : (spots after : Values Spot) (request : Request) → is_some (sorted_at after request.object) ≡ is_some (sorted_at spots request.object)
    → standing after request ≡ standing spots request
stands_as spots after request same = ap (λ held. let ask : Ask = record { object = request.object; settling = request.settling; is_held = held } in ask) same

held_standings : (spots after : Values Spot) (object grade : ℕ) (spot : Spot) (requests : List Request) → IsSet spots after object spot → spot.sorted ≡ Some grade
    → standings after requests ≡ held_asks object (standings spots requests)
held_standings spots after object grade spot requests is held =
    map_same _ _ requests (λ request c. each request) ∙ sym (map_map (change object (λ ask. record ask { is_held = true })) (standing spots) requests)
  where
    each : (request : Request) → standing after request ≡ change object (λ ask. record ask { is_held = true }) (standing spots request)
    each request = elim (equal_or_not object request.object) [
      | inl same ↦
          ap (λ b. let ask : Ask = record { object = request.object; settling = request.settling; is_held = b } in ask)
          (ap is_some (at_set sorted_of spots after object spot is request.object
          ∙ ap (λ b. cond b spot.sorted (sorted_at spots request.object)) (subst (λ o. (object == o) ≡ true) same (eqb_same object)) ∙ held))
          ∙ sym (changed object (λ ask. record ask { is_held = true }) (standing spots request) same)
      | inr apart ↦
          stands_as spots after request (ap is_some (at_set sorted_of spots after object spot is request.object
          ∙ ap (λ b. cond b spot.sorted (sorted_at spots request.object)) (eqb_other object request.object apart)))
          ∙ sym (unchanged object (λ ask. record ask { is_held = true }) (standing spots request) apart)
    ]

same_standings : (spots after : Values Spot) (object : ℕ) (spot : Spot) (requests : List Request) → IsSet spots after object spot
    → spot.sorted ≡ sorted_at spots object → standings after requests ≡ standings spots requests
same_standings spots after object spot requests is same =
    map_same _ _ requests (λ request c. stands_as spots after request (ap is_some
    (set_as sorted_of spots after object spot (sorted_at spots) (sorted_at spots) is (λ other. refl) same (λ other apart. refl) request.object)))

-- ---- the request at a place
get_inside : {X : Type 0} (xs : List X) (i : ℕ) → i < length xs → (x : X) × (slice_get xs i ≡ Some x)
get_inside [] i l = absurd (omega arith)
get_inside (x ∷ xs) zero l = (x, refl)
get_inside (x ∷ xs) (suc i) l = get_inside xs i (omega arith)

position_within : (p : ℕ → Bool) (xs : List ℕ) (i : ℕ) → position p xs ≡ Some i → i < length xs
position_within p xs i e =
    let parts = cond_some (nat_lt (position_or_len p xs) (length xs)) (position_or_len p xs) i e in
    subst (λ n. n < length xs) parts.1 (ltb-true (position_or_len p xs) (length xs) parts.0)

-- the place of an object's ask is within the requests
pub asked_within : (spots : Values Spot) (requests : List Request) (object place : ℕ) → position (nat_eq object) (ask_objects (standings spots requests)) ≡ Some place
    → place < length requests
asked_within spots requests object place e =
    subst (λ n. place < n) (length-map (standings spots requests) (λ (ask : Ask). ask.object) ∙ length-map requests (standing spots))
    (position_within (nat_eq object) (ask_objects (standings spots requests)) place e)

-- the request of an object at the place of its ask
pub record IsRequest (spots : Values Spot) (requests : List Request) (object place : ℕ) : Type 0 where
  pub request : Request
  pub there : slice_get (standings spots requests) place ≡ Some (standing spots request)
  pub same : object ≡ request.object

request_at : (spots : Values Spot) (requests : List Request) (object place : ℕ) → position (nat_eq object) (ask_objects (standings spots requests)) ≡ Some place
    → IsRequest spots requests object place
request_at spots requests object place e =
    let got = get_inside requests place (asked_within spots requests object place e) in
    let there : slice_get (standings spots requests) place ≡ Some (standing spots got.0) = slice_get-map (standing spots) requests place ∙ ap (option_map (standing spots)) got.1 in
    record {
      request = got.0;
      there = there;
      same = ask_found_is object (standings spots requests) (standing spots got.0) (ask_at_place (standings spots requests) object place e ∙ there);
    }

-- ---- the tops
stands_set : (room : ℕ) (asks : List Ask) (place : ℕ) (ask : Ask) (tops : List (Option ℕ)) → tops ≡ map open_grade asks ++ replicate (room - length asks) None
    → place < length asks → set tops place (open_grade ask) ≡ map open_grade (set asks place ask) ++ replicate (room - length (set asks place ask)) None
stands_set room asks place ask tops is within =
    ap (λ gs. set gs place (open_grade ask)) is
    ∙ set-append_left (map open_grade asks) (replicate (room - length asks) None) place (open_grade ask) (subst (λ n. place < n) (sym (length-map asks open_grade)) within)
    ∙ ap (λ gs. gs ++ replicate (room - length asks) None) (sym (map-set open_grade asks place ask))
    ∙ ap (λ n. map open_grade (set asks place ask) ++ replicate (room - n) None) (sym (length-set asks place ask))

read_mapped : (f : Ask → Option ℕ) (asks : List Ask) (i : ℕ) (ask : Ask) → i < length asks → slice_index_or asks i ask ≡ ask
    → slice_index_or (map f asks) i None ≡ f ask
read_mapped f [] i ask l e = absurd (omega arith)
read_mapped f (first ∷ asks) zero ask l e = ap f e
read_mapped f (first ∷ asks) (suc i) ask l e = read_mapped f asks i ask (omega arith) e

-- the open grade of an ask stands among the tops
grade_of : (list : ObjectList) (spots : Values Spot) (tops : List (Option ℕ)) (cursor row_capacity ask_capacity : ℕ) (ask : Ask)
    → KeepsObjects list spots tops cursor row_capacity ask_capacity → (c : Contains list.asks ask) → rank_at tops c.0 ≡ open_grade ask
grade_of list spots tops cursor row_capacity ask_capacity ask k c =
    ap (λ gs. slice_index_or gs c.0 None) k.stands
    ∙ get_or_append_left (map open_grade list.asks) (replicate (list.room - length list.asks) None) None c.0 (subst (λ n. c.0 < n) (sym (length-map list.asks open_grade)) c.1)
    ∙ read_mapped open_grade list.asks c.0 ask c.1 c.2

none_above : (asks : List Ask) (bottom : ℕ) → ((ask : Ask) → Contains asks ask → (grade : ℕ) → open_grade ask ≡ Some grade → grade ≤ bottom)
    → first_above bottom asks ≡ None
none_above asks bottom h =
    find_none (λ (row : Row). nat_lt bottom row.grade) (open_rows asks) (λ row c.
    let from = contains_from_filter_map open_row asks row c in
    le-ltb bottom row.grade (h from.0 from.1 row.grade (open_from from.0 row from.2)))
  where
    open_of : (o : Option ℕ) (object : ℕ) (row : Row)
        → option_map (λ (grade : ℕ). let one : Row = record { object = object; grade = grade } in one) o ≡ Some row → o ≡ Some row.grade
    open_of None object row e = absurd (none_not_some e)
    open_of (Some grade) object row e =
        let one : Row = record { object = object; grade = grade } in
        let is : one ≡ row = cc in ap (λ (r : Row). Some r.grade) is

    open_from : (ask : Ask) (row : Row) → open_row ask ≡ Some row → open_grade ask ≡ Some row.grade
    open_from ask row e = open_of (open_grade ask) ask.object row e

pub no_tops : (list : ObjectList) (spots : Values Spot) (tops : List (Option ℕ)) (cursor row_capacity ask_capacity bottom : ℕ)
    → KeepsObjects list spots tops cursor row_capacity ask_capacity → HasNone tops → first_above bottom list.asks ≡ None
no_tops list spots tops cursor row_capacity ask_capacity bottom k none =
    none_above list.asks bottom (λ ask c grade e.
    absurd (none_not_some (sym (none c.0) ∙ grade_of list spots tops cursor row_capacity ask_capacity ask k c ∙ e)))

pub low_tops : (list : ObjectList) (spots : Values Spot) (tops : List (Option ℕ)) (cursor row_capacity ask_capacity bottom key rank : ℕ)
    → KeepsObjects list spots tops cursor row_capacity ask_capacity → IsGreatest nat_cmp tops key rank → rank ≤ bottom → first_above bottom list.asks ≡ None
low_tops list spots tops cursor row_capacity ask_capacity bottom key rank k top low =
    none_above list.asks bottom (λ ask c grade e.
    let least = no_greater grade rank (top.none_above c.0 grade (grade_of list spots tops cursor row_capacity ask_capacity ask k c ∙ e)) in omega arith)

-- ---- the first open grade above one, ask by ask
pub open_none : (bottom : ℕ) (ask : Ask) (asks : List Ask) → first_above bottom (ask ∷ []) ≡ None → first_above bottom (ask ∷ asks) ≡ first_above bottom asks
open_none bottom ask asks e = by_row (open_row ask) e
  where
    by_row : (o : Option Row) → find (λ (row : Row). nat_lt bottom row.grade) (cons_option o []) ≡ None
        → find (λ (row : Row). nat_lt bottom row.grade) (cons_option o (open_rows asks)) ≡ find (λ (row : Row). nat_lt bottom row.grade) (open_rows asks)
    by_row None e = refl
    by_row (Some row) e = ap (λ b. cond b (Some row) (find (λ (one : Row). nat_lt bottom one.grade) (open_rows asks))) (cond_none (nat_lt bottom row.grade) row None e).0

pub open_some : (bottom : ℕ) (ask : Ask) (asks : List Ask) (found : Row) → first_above bottom (ask ∷ []) ≡ Some found → first_above bottom (ask ∷ asks) ≡ Some found
open_some bottom ask asks found e = by_row (open_row ask) e
  where
    by_row : (o : Option Row) → find (λ (row : Row). nat_lt bottom row.grade) (cons_option o []) ≡ Some found
        → find (λ (row : Row). nat_lt bottom row.grade) (cons_option o (open_rows asks)) ≡ Some found
    by_row None e = absurd (none_not_some e)
    by_row (Some row) e =
        let parts = cond_some (nat_lt bottom row.grade) row found e in
        ap (λ b. cond b (Some row) (find (λ (one : Row). nat_lt bottom one.grade) (open_rows asks))) parts.0 ∙ ap (λ (one : Row). Some one) parts.1

-- the steps of the cursor
stop_cases : (asks : List Ask) (i : ℕ) (d : Ask) → i < length asks → stops (slice_get asks i) ≡ is_due (get_or asks i d)
stop_cases [] i d l = absurd (omega arith)
stop_cases (ask ∷ asks) zero d l = refl
stop_cases (ask ∷ asks) (suc i) d l = stop_cases asks i d (omega arith)

no_ask : Ask
no_ask = record { object = 0; settling = None; is_held = true }

pub stop_more : (asks : List Ask) (i : ℕ) → i ≤ position_or_len is_due asks → i < length asks → false ≡ stops (slice_get asks i)
    → i + 1 ≤ position_or_len is_due asks
stop_more asks i low within goes = place_more is_due asks i no_ask low within (sym (goes ∙ stop_cases asks i no_ask within))

pub stop_here : (asks : List Ask) (i : ℕ) → i ≤ position_or_len is_due asks → i < length asks → true ≡ stops (slice_get asks i)
    → i ≡ position_or_len is_due asks
stop_here asks i low within stop = place_here is_due asks i no_ask low (sym (stop ∙ stop_cases asks i no_ask within))

pub after_push : (cursor : ℕ) (asks more now : List Ask) (ask : Ask) → cursor ≡ position_or_len is_due asks → more ≡ asks ++ ask ∷ [] → now ≡ more
    → cursor ≤ position_or_len is_due now
after_push cursor asks more now ask at push is =
    subst (λ (list : List Ask). cursor ≤ position_or_len is_due list) (sym (is ∙ push))
    (subst (λ n. n ≤ position_or_len is_due (asks ++ ask ∷ [])) (sym at) (place_push is_due asks ask))

pub after_set : (cursor : ℕ) (asks now : List Ask) (place : ℕ) (ask : Ask) → cursor ≡ position_or_len is_due asks → is_due ask ≡ false
    → now ≡ set asks place ask → cursor ≤ position_or_len is_due now
after_set cursor asks now place ask at passed is =
    subst (λ (list : List Ask). cursor ≤ position_or_len is_due list) (sym is)
    (subst (λ n. n ≤ position_or_len is_due (set asks place ask)) (sym at) (place_set is_due asks place ask passed))

-- what is left of a list at a place
drop_at : {X : Type 0} (xs : List X) (i : ℕ) (x : X) → slice_get xs i ≡ Some x → drop i xs ≡ x ∷ drop (i + 1) xs
drop_at [] i x e = absurd (none_not_some e)
drop_at (y ∷ xs) zero x e = let is : y ≡ x = cc in ap (λ z. z ∷ xs) is
drop_at (y ∷ xs) (suc i) x e = let next : suc (i + 1) ≡ suc i + 1 = omega arith in drop_at xs i x e ∙ ap (λ n. x ∷ drop n (y ∷ xs)) next

pub open_more : (bottom : ℕ) (asks : List Ask) (i : ℕ) (ask : Ask) → slice_get asks i ≡ Some ask → first_above bottom (ask ∷ []) ≡ None
    → first_above bottom (drop i asks) ≡ first_above bottom asks → first_above bottom (drop (i + 1) asks) ≡ first_above bottom asks
open_more bottom asks i ask there none left =
    sym (ap (first_above bottom) (drop_at asks i ask there) ∙ open_none bottom ask (drop (i + 1) asks) none) ∙ left

pub open_found : (bottom : ℕ) (asks : List Ask) (i : ℕ) (ask : Ask) (row : Row) → slice_get asks i ≡ Some ask → first_above bottom (ask ∷ []) ≡ Some row
    → first_above bottom (drop i asks) ≡ first_above bottom asks → Some row ≡ first_above bottom asks
open_found bottom asks i ask row there found left =
    sym (ap (first_above bottom) (drop_at asks i ask there) ∙ open_some bottom ask (drop (i + 1) asks) row found) ∙ left

-- the request at a place, and what is found of it
module _ (spots : Values Spot) (requests : List Request) (bottom i : ℕ) (d : Request) (ask : Ask) (found : Option Row) (within : i < length requests)
    (is : ask ≡ standing spots (get_or requests i d)) (read : found ≡ first_above bottom (ask ∷ [])) where
  there : slice_get (standings spots requests) i ≡ Some ask
  there =
      slice_get-map (standing spots) requests i ∙ ap (option_map (standing spots)) (slice_get-get_or requests i d within)
      ∙ ap (λ (a : Ask). Some a) (sym is)

  pub open_step : is_some found ≡ false → first_above bottom (drop i (standings spots requests)) ≡ first_above bottom (standings spots requests)
      → first_above bottom (drop (i + 1) (standings spots requests)) ≡ first_above bottom (standings spots requests)
  open_step none left = open_more bottom (standings spots requests) i ask there (sym read ∙ empty found none) left
    where
      empty : (o : Option Row) → is_some o ≡ false → o ≡ None
      empty None e = refl
      empty (Some row) e = absurd (cc)

  pub open_done : is_some found ≡ true → first_above bottom (drop i (standings spots requests)) ≡ first_above bottom (standings spots requests)
      → found ≡ first_above bottom (standings spots requests)
  open_done some left = by_found found read some
    where
      by_found : (o : Option Row) → o ≡ first_above bottom (ask ∷ []) → is_some o ≡ true → o ≡ first_above bottom (standings spots requests)
      by_found None e some = absurd (cc)
      by_found (Some row) e some = open_found bottom (standings spots requests) i ask row there (sym e) left

-- ---- what the objects keep
list_with : (room : ℕ) (rows : List Row) (asks more : List Ask) → asks ≡ more
    → (let one : ObjectList = record { room = room; rows = rows; asks = asks } in let other : ObjectList = record { room = room; rows = rows; asks = more } in one ≡ other)
list_with room rows asks more e = ap (λ os. let list : ObjectList = record { room = room; rows = rows; asks = os } in list) e

module _ (room : ℕ) (spots : Values Spot) (rows : List Row) (requests : List Request) (tops : List (Option ℕ)) (cursor row_capacity ask_capacity : ℕ)
    (k : KeepsObjects (listed room spots rows requests) spots tops cursor row_capacity ask_capacity) where
  many : length (standings spots requests) ≡ length requests
  many = length-map requests (standing spots)

  -- ---- a row that is put last
  module _ (after : Values Spot) (row : Row) (spot : Spot) (is : IsSet spots after row.object spot) (held : spot.sorted ≡ Some row.grade) where
    pub row_shown : listed room after (rows ++ row ∷ []) requests
        ≡ (let list : ObjectList = record { room = room; rows = rows ++ row ∷ []; asks = held_asks row.object (standings spots requests) } in list)
    row_shown = list_with room (rows ++ row ∷ []) _ _ (held_standings spots after row.object row.grade spot requests is held)

    keeps_row : (tops2 : List (Option ℕ)) (next wide : ℕ) → grade_among rows row.object ≡ None → length rows < room → spot.place ≡ place_at spots row.object
        → spots.spare ≤ after.spare + 1 → tops2 ≡ map open_grade (standings after requests) ++ replicate (room - length (standings after requests)) None
        → next ≡ position_or_len is_due (standings after requests) → row_capacity ≤ wide
        → KeepsObjects (listed room after (rows ++ row ∷ []) requests) after tops2 next wide ask_capacity
    keeps_row tops2 next wide none few place spare stands at wider =
        let same = objects_standing spots after requests in
        let size = length-append rows (row ∷ []) in
        let count = length-map requests (standing after) in
        let before = many in
        let few_asks = k.few_asks in
        let had = k.spare in
        let roomy = k.row_room in
        record {
          sorted = set_as sorted_of spots after row.object spot (grade_among rows) (grade_among (rows ++ row ∷ [])) is k.sorted
              (held ∙ sym (grade_more rows row none)) (λ other apart. sym (grade_other rows row other apart));
          placed = set_as place_of spots after row.object spot (λ object. position (nat_eq object) (ask_objects (standings spots requests)))
              (λ object. position (nat_eq object) (ask_objects (standings after requests))) is k.placed
              (place ∙ k.placed row.object ∙ ap (position (nat_eq row.object)) (sym same)) (λ other apart. ap (position (nat_eq other)) (sym same));
          distinct = subst (AllPairs (λ (one : ℕ) (other : ℕ). one ≢ other)) (sym same) k.distinct;
          stands = stands;
          cursor = at;
          few_rows = omega arith;
          few_asks = omega arith;
          small = k.small;
          row_room = omega arith;
          ask_room = k.ask_room;
          spare = omega arith;
        }

    -- its object wasn't asked for
    pub row_unasked : (wide : ℕ) → grade_among rows row.object ≡ None → length rows < room → spot.place ≡ place_at spots row.object
        → position (nat_eq row.object) (ask_objects (standings spots requests)) ≡ None → spots.spare ≤ after.spare + 1 → row_capacity ≤ wide
        → KeepsObjects (listed room after (rows ++ row ∷ []) requests) after tops cursor wide ask_capacity
    row_unasked wide none few place unasked spare wider =
        let same : standings after requests ≡ standings spots requests =
        held_standings spots after row.object row.grade spot requests is held
        ∙ change_unfound row.object (λ ask. record ask { is_held = true }) (standings spots requests) (ask_no_place (standings spots requests) row.object unasked) in
        keeps_row tops cursor wide none few place spare
        (subst (λ (os : List Ask). tops ≡ map open_grade os ++ replicate (room - length os) None) (sym same) k.stands)
        (subst (λ (os : List Ask). cursor ≡ position_or_len is_due os) (sym same) k.cursor) wider

    -- it was, at this place
    module _ (place : ℕ) (asked : position (nat_eq row.object) (ask_objects (standings spots requests)) ≡ Some place) where
      abbrev held_ask : Ask
      held_ask = record (standing spots (request_at spots requests row.object place asked).request) { is_held = true }

      held_set : standings after requests ≡ set (standings spots requests) place held_ask
      held_set =
          let at = request_at spots requests row.object place asked in
          held_standings spots after row.object row.grade spot requests is held
          ∙ sym (set_change row.object (λ ask. record ask { is_held = true }) (standings spots requests) place (standing spots at.request) k.distinct at.there at.same)

      pub row_passed : cursor ≤ position_or_len is_due (standings after requests)
      row_passed = after_set cursor (standings spots requests) (standings after requests) place held_ask k.cursor refl held_set

      pub row_asked : (tops2 : List (Option ℕ)) (next wide : ℕ) → grade_among rows row.object ≡ None → length rows < room
          → spot.place ≡ place_at spots row.object → spots.spare ≤ after.spare + 1 → tops2 ≡ set tops place None
          → next ≡ position_or_len is_due (standings after requests) → row_capacity ≤ wide
          → KeepsObjects (listed room after (rows ++ row ∷ []) requests) after tops2 next wide ask_capacity
      row_asked tops2 next wide none few same spare written at wider =
          let within : place < length (standings spots requests) = subst (λ n. place < n) (sym many) (asked_within spots requests row.object place asked) in
          keeps_row tops2 next wide none few same spare
          (subst (λ (os : List Ask). tops2 ≡ map open_grade os ++ replicate (room - length os) None) (sym held_set)
          (written ∙ stands_set room (standings spots requests) place held_ask tops k.stands within)) at wider

  -- ---- an ask that is put last
  module _ (after : Values Spot) (object : ℕ) (spot : Spot) (is : IsSet spots after object spot) (same : spot.sorted ≡ grade_among rows object) where
    abbrev pub more : List Request
    more = let request : Request = record { object = object; settling = None } in requests ++ request ∷ []

    sorted_after : (other : ℕ) → sorted_at after other ≡ grade_among rows other
    sorted_after = set_as sorted_of spots after object spot (grade_among rows) (grade_among rows) is k.sorted same (λ other apart. refl)

    asked_standings : standings after more ≡ standings spots requests ++ new_ask object (is_some (grade_among rows object)) ∷ []
    asked_standings =
        let request : Request = record { object = object; settling = None } in
        let last : standing after request ≡ new_ask object (is_some (grade_among rows object)) = ap (λ o. new_ask object (is_some o)) (sorted_after object) in
        map-append (standing after) requests (request ∷ [])
        ∙ ap (λ (os : List Ask). os ++ standing after request ∷ []) (same_standings spots after object spot requests is (same ∙ sym (k.sorted object)))
        ∙ ap (λ (ask : Ask). standings spots requests ++ ask ∷ []) last

    pub ask_shown : listed room after rows more
        ≡ (let list : ObjectList = record { room = room; rows = rows; asks = standings spots requests ++ new_ask object (is_some (grade_among rows object)) ∷ [] } in list)
    ask_shown = list_with room rows _ _ asked_standings

    pub ask_passed : cursor ≤ position_or_len is_due (standings after more)
    ask_passed = after_push cursor (standings spots requests) (standings after more) (standings after more) (new_ask object (is_some (grade_among rows object))) k.cursor asked_standings refl

    pub keeps_ask : (next wide : ℕ) → ask_of (standings spots requests) object ≡ None → length (standings spots requests) < room
        → spot.place ≡ Some (length requests) → spots.spare ≤ after.spare + 1 → next ≡ position_or_len is_due (standings after more) → ask_capacity ≤ wide
        → KeepsObjects (listed room after rows more) after tops next row_capacity wide
    keeps_ask next wide absent few place spare at wider =
        let held = is_some (grade_among rows object) in
        let objects : List ℕ = ask_objects (standings spots requests) in
        let unasked = ask_absent (standings spots requests) object absent in
        let named : ask_objects (standings spots requests ++ new_ask object held ∷ []) ≡ objects ++ object ∷ [] =
        map-append (λ (ask : Ask). ask.object) (standings spots requests) (new_ask object held ∷ []) in
        let count : length objects ≡ length requests = length-map (standings spots requests) (λ (ask : Ask). ask.object) ∙ many in
        let size = length-append (standings spots requests) (new_ask object held ∷ []) in
        let had = k.spare in
        let roomy = k.ask_room in
        subst (λ (os : List Ask). KeepsObjects (record { room = room; rows = rows; asks = os }) after tops next row_capacity wide) (sym asked_standings) (record {
          sorted = sorted_after;
          placed = set_as place_of spots after object spot (λ other. position (nat_eq other) objects)
              (λ other. position (nat_eq other) (ask_objects (standings spots requests ++ new_ask object held ∷ []))) is k.placed
              (place ∙ ap (λ n. Some n) (sym count)
              ∙ sym (ap (position (nat_eq object)) named ∙ position_more object object objects unasked
              ∙ ap (λ b. cond b (Some (length objects)) (position (nat_eq object) objects)) (eqb_same object)))
              (λ other apart.
              sym (ap (position (nat_eq other)) named ∙ position_more object other objects unasked
              ∙ ap (λ b. cond b (Some (length objects)) (position (nat_eq other) objects)) (eqb_other object other apart)));
          distinct = subst (AllPairs (λ (one : ℕ) (other : ℕ). one ≢ other)) (sym named)
              (all_pairs_push (λ (one : ℕ) (other : ℕ). one ≢ other) objects object k.distinct
              (λ i d l. λ e. unasked (subst (λ o. Contains objects o) e (contains_at objects i d l))));
          stands = k.stands ∙ grades_push room (standings spots requests) object held few;
          cursor = at ∙ ap (position_or_len is_due) asked_standings;
          few_rows = k.few_rows;
          few_asks = omega arith;
          small = k.small;
          row_room = k.row_room;
          ask_room = omega arith;
          spare = omega arith;
        })

  -- ---- an ask that settles, at its place
  module _ (object place : ℕ) (settling : Settling) (asked : position (nat_eq object) (ask_objects (standings spots requests)) ≡ Some place) where
    abbrev pub settled : Request
    settled = record { object = object; settling = Some settling }

    written_set : standings spots (set requests place settled) ≡ set (standings spots requests) place (standing spots settled)
    written_set = map-set (standing spots) requests place settled

    pub settle_shown : listed room spots rows (set requests place settled)
        ≡ (let list : ObjectList = record { room = room; rows = rows; asks = settled_asks object settling (standings spots requests) } in list)
    settle_shown =
        let at = request_at spots requests object place asked in
        let turned : standing spots settled ≡ record (standing spots at.request) { settling = Some settling } =
        ap (λ o. let request : Request = record { object = o; settling = Some settling } in standing spots request) at.same in
        list_with room rows _ _ (written_set ∙ ap (set (standings spots requests) place) turned
        ∙ set_change object (λ ask. record ask { settling = Some settling }) (standings spots requests) place (standing spots at.request) k.distinct at.there at.same)

    pub settle_passed : cursor ≤ position_or_len is_due (standings spots (set requests place settled))
    settle_passed = after_set cursor (standings spots requests) (standings spots (set requests place settled)) place (standing spots settled) k.cursor (settled_not_due (standing spots settled) settling) written_set

    pub keeps_settled : (tops2 : List (Option ℕ)) (next : ℕ) → tops2 ≡ set tops place (open_grade (standing spots settled))
        → next ≡ position_or_len is_due (standings spots (set requests place settled))
        → KeepsObjects (listed room spots rows (set requests place settled)) spots tops2 next row_capacity ask_capacity
    keeps_settled tops2 next written at =
        let here = request_at spots requests object place asked in
        let within : place < length (standings spots requests) = subst (λ n. place < n) (sym many) (asked_within spots requests object place asked) in
        let there : slice_get (ask_objects (standings spots requests)) place ≡ Some object =
        slice_get-map (λ (ask : Ask). ask.object) (standings spots requests) place ∙ ap (option_map (λ (ask : Ask). ask.object)) here.there ∙ ap (λ o. Some o) (sym here.same) in
        let stay : ask_objects (set (standings spots requests) place (standing spots settled)) ≡ ask_objects (standings spots requests) =
        map-set (λ (ask : Ask). ask.object) (standings spots requests) place (standing spots settled) ∙ set_same (ask_objects (standings spots requests)) place object there in
        let size = length-set (standings spots requests) place (standing spots settled) in
        let few = k.few_asks in
        let had = k.spare in
        subst (λ (os : List Ask). KeepsObjects (record { room = room; rows = rows; asks = os }) spots tops2 next row_capacity ask_capacity) (sym written_set) (record {
          sorted = k.sorted;
          placed = λ other. k.placed other ∙ ap (position (nat_eq other)) (sym stay);
          distinct = subst (AllPairs (λ (one : ℕ) (other : ℕ). one ≢ other)) (sym stay) k.distinct;
          stands = written ∙ stands_set room (standings spots requests) place (standing spots settled) tops k.stands within;
          cursor = at ∙ ap (position_or_len is_due) written_set;
          few_rows = k.few_rows;
          few_asks = omega arith;
          small = k.small;
          row_room = k.row_room;
          ask_room = k.ask_room;
          spare = omega arith;
        })
