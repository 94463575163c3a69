-- The lists of a bundle by name.
use Rattle.std.proofs.Common.{◌≡◌, ℕ, ◌+◌, ◌<◌, ◌≤◌, ◌^◌, true, not, nat_lt, cond, List, [], ◌∷◌, length, map, replicate, All, Contains, Option, Some, None, option_map, slice_index_or, refl, sym, ap, ◌∙◌, subst, arith}
use Rattle.std.specs.List.{AllByRecursion, position, position_or_len}
use Rattle.std.specs.Global.{Vec}
use Rattle.std.specs.Str.{bytes_eq}
use Rattle.std.proofs.lemmas.List.{length-map, get_or_read}
use Rattle.std.proofs.lemmas.List.Elements.{All-from_recursion}
use Rattle.std.proofs.lemmas.List.Quantifiers.{position-Some}
use Rattle.ranked_list.specs.declared.row.Row.{Row}
use Rattle.ranked_list.specs.Table.{IsTable, IsRanked, objects}
use Rattle.bundle_text.specs.declared.bundle.Bundle.{Bundle}
use Rattle.bundle_text.specs.Bundle.{Content, content, IsBundle}
use Rattle.monotone_fn.specs.Shape.{list_count}
use Rattle.topk_theory.specs.Transcript.{list_at}
use Rattle.topk_theory.proofs.AgreementLists.{contains_at, contains_map_from, all_from_members, member_of_all}
use Rattle.topk_theory.proofs.AgreementRows.{list_at_length}
use Rattle.query_core.specs.declared.ready.Ready.{Ready}
use Rattle.query_core.specs.Ready.{method_of_ready}
use Rattle.query_core.proofs.ListCount.{lists_counted}
use Rattle.query_admission.specs.View.{AreListed, AreTold, versions_at, sorted_at, count_of}
use Rattle.query_admission.specs.Admission.{IsAdmitted, RefusesLine}
use Rattle.query_admission.specs.declared.lists.ListInfo.{ListInfo}
use Rattle.machine_base.specs.declared.answer.Answer.{Answer}
use Rattle.query_text.specs.declared.query.Query.{Query}
use Rattle.cert_text.specs.declared.refusal.Refusal.{Refusal}
use Rattle.cert_text.specs.declared.refusal.Refusal.TheVariants.{RoomFull}
use Rattle.cert_text.specs.declared.outcome.Outcome.TheVariants.{Answered, Refused}
use Rattle.query_core.specs.OneAnswer.{IsOverRoomWith}
use Rattle.query_core.specs.Driving.{AnswersOver}
use Rattle.query_admission.specs.Causes.{admission_causes}
use Rattle.query_admission.proofs.Becoming.{answered_line, full_line, refused_line, answered_writable, refused_writable}
use Rattle.bundle_calls.specs.Outcomes.{BecomesOf, IsLineOf}
use Rattle.bundle_calls.specs.Bundled.{bundle_place, bundle_listed, bundle_view, bundle_line, lists_at}

-- a name is looked up alike among the bytes of names
looked_up_from : (names : List (Vec ℕ)) (name : List ℕ)
    → position_or_len (λ other. bytes_eq other name) (map (λ n. n.items) names) ≡ position_or_len (λ other. bytes_eq other.items name) names
looked_up_from [] name = refl
looked_up_from (first ∷ names) name = ap (λ n. cond (not (bytes_eq first.items name)) (1 + n) 0) (looked_up_from names name)

pub looked_up : (names : List (Vec ℕ)) (name : List ℕ)
    → position (λ other. bytes_eq other name) (map (λ n. n.items) names) ≡ position (λ other. bytes_eq other.items name) names
looked_up names name =
    ap (λ n. cond (nat_lt n (length (map (λ (v : Vec ℕ). v.items) names))) (Some n) None) (looked_up_from names name)
    ∙ ap (λ m. cond (nat_lt (position_or_len (λ other. bytes_eq other.items name) names) m) (Some (position_or_len (λ other. bytes_eq other.items name) names)) None) (length-map names (λ (v : Vec ℕ). v.items))

-- some lists of a table are a table
table_within : (n : ℕ) (lists D : List (List Row)) → IsTable n lists → ((rows : List Row) → Contains D rows → Contains lists rows) → IsTable n D
table_within n lists D table within = record {
  sized = all_from_members (λ (rows : List Row). length rows ≡ n) D (λ rows h. member_of_all (λ (r : List Row). length r ≡ n) lists rows table.sized (within rows h));
  ranked = all_from_members IsRanked D (λ rows h. member_of_all IsRanked lists rows table.ranked (within rows h));
  same = all_from_members (λ rows. All (λ others. (object : ℕ) → Contains (objects rows) object → Contains (objects others) object) D) D
      (λ rows h. all_from_members (λ others. (object : ℕ) → Contains (objects rows) object → Contains (objects others) object) D
      (λ others k. member_of_all (λ others. (object : ℕ) → Contains (objects rows) object → Contains (objects others) object) lists others
      (member_of_all (λ rows. All (λ others. (object : ℕ) → Contains (objects rows) object → Contains (objects others) object) lists) lists rows table.same (within rows h))
      (within others k)));
}

-- a list that was found stands in the bundle, and states the number of its rows
record IsPlaced (c : Content) (n : ℕ) (list : ListInfo) : Type 0 where
  within : list.source < length c.lists
  size : list.size ≡ Some n

placed : (c : Content) (n : ℕ) (name : List ℕ) (list : ListInfo) → IsBundle c → IsTable n c.lists → (bundle_view c).listed name ≡ Some list → IsPlaced c n list
placed c n name list bundle table e = at_place (bundle_place c name) refl e
  where
    at_place : (p : Option ℕ) → bundle_place c name ≡ p → option_map (bundle_listed c) p ≡ Some list → IsPlaced c n list
    at_place None is e = absurd cc
    at_place (Some place) is e =
        let named : place < length c.names = (position-Some (λ other. bytes_eq other name) c.names place [] is).0 in
        let within : place < length c.lists = omega (arith, named, bundle.each_named) in
        let same : bundle_listed c place ≡ list = cc in
        let long : length (list_at c.lists place) ≡ n = list_at_length n c.lists place table within in
        subst (IsPlaced c n) same (record { within = within; size = ap Some long })

all_placed : (c : Content) (n : ℕ) (names : List (List ℕ)) (lists : List ListInfo) → IsBundle c → IsTable n c.lists
    → map (bundle_view c).listed names ≡ map Some lists → AllByRecursion (IsPlaced c n) lists
all_placed c n [] [] bundle table e = tt
all_placed c n [] (list ∷ lists) bundle table e = absurd cc
all_placed c n (name ∷ names) [] bundle table e = tt
all_placed c n (name ∷ names) (list ∷ lists) bundle table e =
    let here : (bundle_view c).listed name ≡ Some list = cc in
    let rest : map (bundle_view c).listed names ≡ map Some lists = cc in
    (placed c n name list bundle table here, all_placed c n names lists bundle table rest)

-- the lists that are told are those at the places of what was found
told_there : (c : Content) (p : Option ℕ) (list : ListInfo) → option_map (bundle_listed c) p ≡ Some list
    → option_map (list_at c.lists) p ≡ Some (list_at c.lists list.source)
told_there c None list e = absurd cc
told_there c (Some place) list e = let same : bundle_listed c place ≡ list = cc in ap (λ (l : ListInfo). Some (list_at c.lists l.source)) same

all_told : (c : Content) (names : List (List ℕ)) (lists : List ListInfo) → map (bundle_view c).listed names ≡ map Some lists
    → map (bundle_view c).told names ≡ map Some (lists_at c (map (λ list. list.source) lists))
all_told c [] [] e = refl
all_told c [] (list ∷ lists) e = absurd cc
all_told c (name ∷ names) [] e = absurd cc
all_told c (name ∷ names) (list ∷ lists) e =
    let here : (bundle_view c).listed name ≡ Some list = cc in
    let rest : map (bundle_view c).listed names ≡ map Some lists = cc in
    ap (λ o. o ∷ map (bundle_view c).told names) (told_there c (bundle_place c name) list here) ∙ ap (λ os. Some (list_at c.lists list.source) ∷ os) (all_told c names lists rest)

-- the lists of a bundle are all at version 0
at_first : (c : Content) (p : Option ℕ) (list : ListInfo) → option_map (bundle_listed c) p ≡ Some list → list.version ≡ 0
at_first c None list e = absurd cc
at_first c (Some place) list e = let same : bundle_listed c place ≡ list = cc in sym (ap (λ (l : ListInfo). l.version) same)

all_at_first : (c : Content) (names : List (List ℕ)) (lists : List ListInfo) → map (bundle_view c).listed names ≡ map Some lists
    → AllByRecursion (λ version. version ≡ 0) (versions_at lists)
all_at_first c [] [] e = tt
all_at_first c [] (list ∷ lists) e = absurd cc
all_at_first c (name ∷ names) [] e = tt
all_at_first c (name ∷ names) (list ∷ lists) e =
    let here : (bundle_view c).listed name ≡ Some list = cc in
    let rest : map (bundle_view c).listed names ≡ map Some lists = cc in
    (at_first c (bundle_place c name) list here, all_at_first c names lists rest)

-- so a query over them has one version for each, and that is 0
pub versions_first : (c : Content) (q : Query) (lists : List ListInfo) (versions : List ℕ) → AreListed (bundle_view c) q lists → versions_at lists ≡ versions
    → (length versions ≡ length q.names) × All (λ version. version ≡ 0) versions
versions_first c q lists versions listed opened = (
  sym (ap length opened) ∙ (length-map lists (λ (l : ListInfo). l.version)
      ∙ (sym (length-map lists (λ (l : ListInfo). Some l)) ∙ (sym (ap length listed) ∙ length-map q.names (bundle_view c).listed))),
  subst (All (λ version. version ≡ 0)) opened (All-from_recursion (λ version. version ≡ 0) (versions_at lists) (all_at_first c q.names lists listed)),
)

-- the lists of a bundle can all be read in order
read_in_order : (c : Content) (p : Option ℕ) (list : ListInfo) → option_map (bundle_listed c) p ≡ Some list → list.sorted ≡ true
read_in_order c None list e = absurd cc
read_in_order c (Some place) list e = let same : bundle_listed c place ≡ list = cc in sym (ap (λ (l : ListInfo). l.sorted) same)

all_in_order : (c : Content) (names : List (List ℕ)) (lists : List ListInfo) → map (bundle_view c).listed names ≡ map Some lists
    → sorted_at lists ≡ replicate (length names) true
all_in_order c [] [] e = refl
all_in_order c [] (list ∷ lists) e = absurd cc
all_in_order c (name ∷ names) [] e = absurd cc
all_in_order c (name ∷ names) (list ∷ lists) e =
    let here : (bundle_view c).listed name ≡ Some list = cc in
    let rest : map (bundle_view c).listed names ≡ map Some lists = cc in
    ap (λ b. b ∷ sorted_at lists) (read_in_order c (bundle_place c name) list here) ∙ ap (λ bs. true ∷ bs) (all_in_order c names lists rest)

-- so can those of a query over it, and of one that is ready
pub listed_in_order : (c : Content) (q : Query) (lists : List ListInfo) → AreListed (bundle_view c) q lists → sorted_at lists ≡ replicate (length q.names) true
listed_in_order c q lists listed = all_in_order c q.names lists listed

pub ready_in_order : (c : Content) (ready : Ready) → IsAdmitted (bundle_line c) ready → ready.sorted.items ≡ replicate (length ready.query.names) true
ready_in_order c ready admitted = sym admitted.sorted ∙ listed_in_order c ready.query admitted.lists admitted.listed

-- the count of lists that each state n is n
count_same : (lists : List ListInfo) (n count : ℕ) → AllByRecursion (λ list. list.size ≡ Some n) lists → count_of lists ≡ Some count → count ≡ n
count_same [] n count each e = absurd cc
count_same (list ∷ lists) n count each e = let here : list.size ≡ Some n = each.0 in let stated : list.size ≡ Some count = e in let same : Some count ≡ Some n = sym stated ∙ here in cc

sizes : (c : Content) (n : ℕ) (lists : List ListInfo) → AllByRecursion (IsPlaced c n) lists → AllByRecursion (λ list. list.size ≡ Some n) lists
sizes c n [] each = tt
sizes c n (list ∷ lists) each = (each.0.size, sizes c n lists each.1)

sources_within : (c : Content) (n : ℕ) (lists : List ListInfo) → AllByRecursion (IsPlaced c n) lists
    → AllByRecursion (λ place. place < length c.lists) (map (λ list. list.source) lists)
sources_within c n [] each = tt
sources_within c n (list ∷ lists) each = (each.0.within, sources_within c n lists each.1)

-- the sources of a query that is ready over a bundle are places of it
pub places_within : (c : Content) (ready : Ready) → IsBundle c → IsAdmitted (bundle_line c) ready → All (λ place. place < length c.lists) ready.sources.items
places_within c ready bundle admitted =
    let n = bundle.table.0 in
    let each = all_placed c n ready.query.names admitted.lists bundle bundle.table.3 admitted.listed in
    subst (All (λ place. place < length c.lists)) admitted.sources
    (All-from_recursion (λ place. place < length c.lists) (map (λ list. list.source) admitted.lists) (sources_within c n admitted.lists each))

-- the lists at these places are what is told of the query's lists, and a table of its count
pub lists_told : (c : Content) (ready : Ready) → IsAdmitted (bundle_line c) ready → AreTold (bundle_view c) ready.query (lists_at c ready.sources.items)
lists_told c ready admitted = subst (λ places. AreTold (bundle_view c) ready.query (lists_at c places)) admitted.sources (all_told c ready.query.names admitted.lists admitted.listed)

pub lists_table : (c : Content) (ready : Ready) → IsBundle c → IsAdmitted (bundle_line c) ready → IsTable ready.count (lists_at c ready.sources.items)
lists_table c ready bundle admitted =
    let n = bundle.table.0 in
    let places = ready.sources.items in
    let each = all_placed c n ready.query.names admitted.lists bundle bundle.table.3 admitted.listed in
    let counted : ready.count ≡ n = count_same admitted.lists n ready.count (sizes c n admitted.lists each) admitted.count in
    let all_within = places_within c ready bundle admitted in
    let held : (rows : List Row) → Contains (lists_at c places) rows → Contains c.lists rows = λ rows h.
    let from = contains_map_from (list_at c.lists) places rows h in
    subst (Contains c.lists) from.2 (contains_at c.lists from.0 [] (member_of_all (λ place. place < length c.lists) places from.0 all_within from.1)) in
    subst (λ m. IsTable m (lists_at c places)) (sym counted) (table_within n c.lists (lists_at c places) bundle.table.3 held)

pub lists_many : (c : Content) (ready : Ready) → IsAdmitted (bundle_line c) ready → length (lists_at c ready.sources.items) ≡ list_count ready.query.expr
lists_many c ready admitted = length-map ready.sources.items (list_at c.lists) ∙ (admitted.sound.sources ∙ sym (lists_counted ready.query admitted.sound.lawful))

-- a name is found where it stands in the bundle's content
pub found_at : (bundle : Bundle) (name : List ℕ) (names : List (Vec ℕ)) (p : Option ℕ) → names ≡ bundle.names.items
    → p ≡ position (λ other. bytes_eq other.items name) names → bundle_place (content bundle) name ≡ p
found_at bundle name names p same e = looked_up bundle.names.items name ∙ (ap (position (λ other. bytes_eq other.items name)) (sym same) ∙ sym e)

pub listed_here : (c : Content) (name : List ℕ) (place size : ℕ) (rows : List Row) → IsBundle c → bundle_place c name ≡ Some place
    → rows ≡ slice_index_or c.lists place rows → size ≡ length rows
    → Some (record { size = Some size; random = true; sorted = true; source = place; version = 0 }) ≡ (bundle_view c).listed name
listed_here c name place size rows bundle found read long =
    let named : place < length c.names = (position-Some (λ other. bytes_eq other name) c.names place [] found).0 in
    let within : place < length c.lists = omega (arith, named, bundle.each_named) in
    let same : rows ≡ list_at c.lists place = get_or_read c.lists place rows within read [] in
    let stated : size ≡ length (list_at c.lists place) = long ∙ ap length same in
    ap (λ n. Some (record { size = Some n; random = true; sorted = true; source = place; version = 0 })) stated ∙ ap (option_map (bundle_listed c)) (sym found)

-- what becomes of a query that is ready, over the lists at its places
pub becomes_answered : (c : Content) (ready : Ready) (D : List (List Row)) (answer : Answer) → IsAdmitted (bundle_line c) ready
    → D ≡ lists_at c ready.sources.items → AnswersOver ready D answer → BecomesOf c ready (Answered answer)
becomes_answered c ready D answer admitted same over = record {
  becomes = answered_line (bundle_line c) ready D answer admitted (subst (AreTold (bundle_view c) ready.query) (sym same) (lists_told c ready admitted)) over;
  writable = answered_writable ready answer admitted.sound over.answered;
}

pub becomes_full : (c : Content) (ready : Ready) (D : List (List Row)) (room : ℕ) → IsAdmitted (bundle_line c) ready → D ≡ lists_at c ready.sources.items
    → IsOverRoomWith (method_of_ready ready) ready.query ready.count D room → BecomesOf c ready (Refused (RoomFull room))
becomes_full c ready D room admitted same over = record {
  becomes = full_line (bundle_line c) ready D room ready.count ready.versions.items admitted (subst (AreTold (bundle_view c) ready.query) (sym same) (lists_told c ready admitted)) over;
  writable = All-from_recursion (λ list. list < length ready.query.names) [] tt;
}

-- what becomes of a line that admission refuses
pub line_refused : (c : Content) (refusal : Refusal) (query : Option Query) → RefusesLine admission_causes (bundle_line c) refusal query
    → IsLineOf c (record { query = query; count = 0; versions = []; outcome = Refused refusal })
line_refused c refusal query refused = record {
  becomes = refused_line (bundle_line c) refusal query 0 [] refused;
  writable = refused_writable query [] (bundle_line c) admission_causes refusal refused;
}

-- the lists that a query names in a bundle, as a table of small objects
pub record ToldTable (c : Content) (q : Query) (count : ℕ) : Type 0 where
  pub lists : List (List Row)
  pub told : AreTold (bundle_view c) q lists
  pub some : 1 ≤ count
  pub few : count ≤ 200000
  pub small : All (λ rows. All (λ row. row.object < 2 ^ 32) rows) lists

pub told_table : (c : Content) (q : Query) (count : ℕ) (lists : List ListInfo) → IsBundle c → AreListed (bundle_view c) q lists → count_of lists ≡ Some count
    → ToldTable c q count
told_table c q count lists bundle listed counted =
    let n = bundle.table.0 in
    let each = all_placed c n q.names lists bundle bundle.table.3 listed in
    let is : count ≡ n = count_same lists n count (sizes c n lists each) counted in
    let places = map (λ list. list.source) lists in
    let within = All-from_recursion (λ place. place < length c.lists) places (sources_within c n lists each) in
    record {
      lists = lists_at c places;
      told = all_told c q.names lists listed;
      some = omega (arith, is, bundle.table.1);
      few = omega (arith, is, bundle.table.2);
      small = all_from_members (λ rows. All (λ row. row.object < 2 ^ 32) rows) (lists_at c places) (λ rows h.
          let from = contains_map_from (list_at c.lists) places rows h in
          subst (λ r. All (λ row. row.object < 2 ^ 32) r) from.2
          (member_of_all (λ rows. All (λ row. row.object < 2 ^ 32) rows) c.lists (list_at c.lists from.0) bundle.small
          (contains_at c.lists from.0 [] (member_of_all (λ place. place < length c.lists) places from.0 within from.1))));
    }
