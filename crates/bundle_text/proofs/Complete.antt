-- Each text that spells a bundle is read as it.
use Rattle.std.proofs.Common.{◌≡◌, ◌≢◌, ◌<◌, ◌≤◌, ◌^◌, ◌+◌, ℕ, Bool, true, false, not, ◌&&◌, ◌||◌, List, [], ◌∷◌, ◌++◌, map, length, get_or, Ok, Err, refl, sym, ap, ap₂, ◌∙◌, subst, arith, ltb, lt-ltb, eq-eqb, length-append, append_assoc, append-nil}
use Rattle.std.specs.Prelude.{nat_eq}
use Rattle.std.specs.List.{All, Contains, list_any}
use Rattle.std.specs.Set.{is_member}
use Rattle.std.specs.Str.{bytes_eq}
use Rattle.std.proofs.lemmas.List.{length_push, get_or_at, get_or_append_left}
use Rattle.std.proofs.lemmas.List.Folds.{list_any-append}
use Rattle.std.proofs.lemmas.List.Elements.{All-head, All-tail, All-contains, Contains-append_left, Contains-append_right, Contains-push}
use Rattle.std.proofs.lemmas.Bool.{and_from, false_from_ne_true, not_from_false}
use Rattle.std.proofs.lemmas.Slice.Eq.{bytes_eq-Decides}
use Rattle.topk_base.specs.Names.{is_name, IsName}
use Rattle.ranked_list.specs.declared.row.Row.{Row}
use Rattle.ranked_list.specs.Table.{IsRanked, objects, top_grade}
use Rattle.bundle_text.specs.Bundle.{Content, IsBundle, sections, bundle_lines, list_line, row_line, query_line}
use Rattle.bundle_text.specs.Reading.{InsideList, list_part, row_part, room, is_wanted, takes_row, with_row, is_whole, is_whole_after, is_taken, takes_list, with_list, first_front, read_on, read_first, read_all}
use Rattle.ranked_list.proofs.RankLaws.{Capped, no_row, next_in_order, next_has, next_is_new}
use Rattle.bundle_text.proofs.PartLaws.{part_of-list_line, part_of-row_line, part_of-query_line}
use Rattle.bundle_text.proofs.ReadLaws.{read_on-takes, read_on-query, ends_alone}
use Rattle.ranked_list.proofs.RowLaws.{SameObjects, within_from_same}
use Rattle.bundle_text.proofs.FrontLaws.{Small, all_names, all_lists}
use Rattle.bundle_text.proofs.Viable.{takes_from}

-- ---- the rows of a list

-- rows that may stand in the list after these
pub record RowsFit (closed : List (List Row)) (rows : List Row) : Type 0 where
  pub ranked : IsRanked rows
  pub small : All Small rows
  pub space : length rows ≤ room closed
  pub wanted : (object : ℕ) → is_member nat_eq (objects rows) object ≡ true → is_wanted closed object ≡ true

-- the next of them may come
next_taken : (front : InsideList) (row : Row) (rows : List Row) → RowsFit front.closed (front.rows ++ row ∷ rows) → takes_row front row ≡ true
next_taken front row rows fit =
    takes_from front row (let space = fit.space in omega (arith, length-append front.rows (row ∷ rows)))
    (next_in_order front.rows row rows fit.ranked) (fit.wanted row.object (next_has front.rows row rows)) (next_is_new front.rows row rows fit.ranked)

-- a row's line is read as it
row_step : (front : InsideList) (from : ℕ) (row : Row) (rest : List (List ℕ)) → takes_row front row ≡ true → row.object < 2 ^ 32 → row.grade ≤ top_grade
    → read_on front from (row_line row ∷ rest) ≡ read_on (with_row front row) (from + 1) rest
row_step front from row rest takes small cap =
    read_on-takes front from (row_line row) rest (row_line row ∷ rest) (row_part row) refl (sym (part_of-row_line row small (omega arith))) takes

complete_rows : (front : InsideList) (rows : List Row) (from : ℕ) (rest : List (List ℕ)) → RowsFit front.closed (front.rows ++ rows)
    → (after : ℕ) × (read_on front from (map row_line rows ++ rest) ≡ read_on (record front { rows = front.rows ++ rows }) after rest)
complete_rows front [] from rest fit = (from, ap (λ rows. read_on (record front { rows = rows }) from rest) (sym (append-nil front.rows)))
complete_rows front (row ∷ rows) from rest fit =
    let joined : (front.rows ++ row ∷ []) ++ rows ≡ front.rows ++ row ∷ rows = append_assoc front.rows (row ∷ []) rows in
    let place = length front.rows in
    let within : place < length (front.rows ++ row ∷ rows) = omega (arith, length-append front.rows (row ∷ rows)) in
    let here = get_or_at front.rows row rows no_row place refl in
    let small = subst Small here (fit.small place no_row within) in
    let cap = subst Capped here (fit.ranked.capped place no_row within) in
    let more = complete_rows (with_row front row) rows (from + 1) rest (subst (RowsFit front.closed) (sym joined) fit) in (
      more.0,
      row_step front from row (map row_line rows ++ rest) (next_taken front row rows fit) small cap ∙ more.1
          ∙ ap (λ rows. read_on (record front { rows = rows }) more.0 rest) joined,
    )

-- ---- the lists

there_ranked : (c : Content) → IsBundle c → (rows : List Row) → Contains c.lists rows → IsRanked rows
there_ranked c b rows there = let t = b.table.3 in All-contains IsRanked c.lists rows t.ranked there

there_small : (c : Content) → IsBundle c → (rows : List Row) → Contains c.lists rows → All Small rows
there_small c b rows there = All-contains (λ rows. All Small rows) c.lists rows b.small there

there_count : (c : Content) (b : IsBundle c) → (rows : List Row) → Contains c.lists rows → length rows ≡ b.table.0
there_count c b rows there = let t = b.table.3 in All-contains (λ rows. length rows ≡ b.table.0) c.lists rows t.sized there

there_same : (c : Content) → IsBundle c → (rows others : List Row) → Contains c.lists rows → Contains c.lists others → SameObjects rows others
there_same c b rows others there also =
    let t = b.table.3 in
    All-contains (SameObjects rows) c.lists others (All-contains (λ rows. All (SameObjects rows) c.lists) c.lists rows t.same there) also

-- the rows of a list of a bundle fit in after the lists before it
first_fit : (c : Content) → IsBundle c → (rows : List Row) → Contains c.lists rows → RowsFit [] rows
first_fit c b rows there = record {
  ranked = there_ranked c b rows there;
  small = there_small c b rows there;
  space = let count = there_count c b rows there in let most = b.table.2 in omega arith;
  wanted = λ o has. refl;
}

later_fit : (c : Content) → IsBundle c → (first : List Row) (more : List (List Row)) (rows : List Row) → Contains c.lists first → Contains c.lists rows
    → RowsFit (first ∷ more) rows
later_fit c b first more rows also there = record {
  ranked = there_ranked c b rows there;
  small = there_small c b rows there;
  space = let count = there_count c b rows there in let same = there_count c b first also in omega arith;
  wanted = within_from_same rows first (there_same c b rows first there also);
}

contains_head : (first : List Row) (more : List (List Row)) → Contains (first ∷ more) first
contains_head first more = (0, omega arith, refl)

-- what is there of a bundle whose lists begin with those of a front
pub record IsSplit (c : Content) (front : InsideList) (more_names : List (List ℕ)) (more_lists : List (List Row)) : Type 0 where
  pub each : length front.names ≡ length front.closed
  pub names : c.names ≡ all_names front ++ more_names
  pub lists : c.lists ≡ all_lists front ++ more_lists

open_there : (c : Content) (front : InsideList) (names : List (List ℕ)) (lists : List (List Row)) → IsSplit c front names lists → Contains c.lists front.rows
open_there c front names lists s =
    subst (λ ls. Contains ls front.rows) (sym s.lists) (Contains-append_left (all_lists front) lists front.rows (Contains-push front.closed front.rows))

next_there : (c : Content) (front : InsideList) (names : List (List ℕ)) (rows : List Row) (lists : List (List Row)) → IsSplit c front names (rows ∷ lists)
    → Contains c.lists rows
next_there c front names rows lists s =
    subst (λ ls. Contains ls rows) (sym s.lists) (Contains-append_right (all_lists front) (rows ∷ lists) rows (contains_head rows lists))

-- the open list is whole
split_whole : (c : Content) → IsBundle c → (front : InsideList) (names : List (List ℕ)) (lists : List (List Row)) → IsSplit c front names lists
    → is_whole front ≡ true
split_whole c b front names lists s = by_closed front.closed refl
  where
    count : length front.rows ≡ b.table.0
    count = there_count c b front.rows (open_there c front names lists s)

    first_there : (first : List Row) (more : List (List Row)) → front.closed ≡ first ∷ more → Contains c.lists first
    first_there first more e =
        subst (λ ls. Contains ls first) (sym s.lists)
        (Contains-append_left (all_lists front) lists first
        (Contains-append_left front.closed (front.rows ∷ []) first (subst (λ ls. Contains ls first) (sym e) (contains_head first more))))

    by_closed : (closed : List (List Row)) → front.closed ≡ closed → is_whole_after front.closed front.rows ≡ true
    by_closed [] e = subst (λ closed. is_whole_after closed front.rows ≡ true) (sym e) (lt-ltb 0 (length front.rows) (let least = b.table.1 in omega (arith, count)))
    by_closed (first ∷ more) e =
        subst (λ closed. is_whole_after closed front.rows ≡ true) (sym e)
        (eq-eqb (length front.rows) (length first) (count ∙ sym (there_count c b first (first_there first more e))))

-- the next name isn't taken
none_same : (names : List (List ℕ)) (name : List ℕ) → All (λ other. other ≢ name) names → list_any (λ other. bytes_eq other name) names ≡ false
none_same [] name all = refl
none_same (n ∷ names) name all =
    or_from_false (bytes_eq n name) _ (false_from_ne_true _ (λ e. All-head (λ other. other ≢ name) n names all ((bytes_eq-Decides n name).0 e)))
    (none_same names name (All-tail (λ other. other ≢ name) n names all))
  where
    or_from_false : (x y : Bool) → x ≡ false → y ≡ false → (x || y) ≡ false
    or_from_false x y p q = rw (p, q) refl

split_new : (c : Content) → IsBundle c → (front : InsideList) (name : List ℕ) (names : List (List ℕ)) (lists : List (List Row))
    → IsSplit c front (name ∷ names) lists → is_taken front name ≡ false
split_new c b front name names lists s =
    sym (by_or (list_any same front.names) (same front.name)) ∙ sym (list_any-append same front.names (front.name ∷ [])) ∙ none_same (all_names front) name apart
  where
    same : List ℕ → Bool
    same other = bytes_eq other name

    by_or : (x y : Bool) → (x || (y || false)) ≡ (x || y)
    by_or true y = refl
    by_or false true = refl
    by_or false false = refl

    apart : All (λ other. other ≢ name) (all_names front)
    apart k d l e =
        let whole : length c.names ≡ length (all_names front) + length (name ∷ names) = ap length s.names ∙ length-append (all_names front) (name ∷ names) in
        let here = ap (λ ns. get_or ns (length (all_names front)) d) s.names ∙ get_or_at (all_names front) name names d (length (all_names front)) refl in
        let there = ap (λ ns. get_or ns k d) s.names ∙ get_or_append_left (all_names front) (name ∷ names) d k l in
        b.apart k (length (all_names front)) d l (omega arith) (there ∙ e ∙ sym here)

split_named : (c : Content) → IsBundle c → (front : InsideList) (name : List ℕ) (names : List (List ℕ)) (lists : List (List Row))
    → IsSplit c front (name ∷ names) lists → is_name name ≡ true
split_named c b front name names lists s =
    All-contains IsName c.names name b.names
    (subst (λ ns. Contains ns name) (sym s.names) (Contains-append_right (all_names front) (name ∷ names) name (0, omega arith, refl)))

split_takes : (c : Content) → IsBundle c → (front : InsideList) (name : List ℕ) (names : List (List ℕ)) (rows : List Row) (lists : List (List Row))
    → IsSplit c front (name ∷ names) (rows ∷ lists)
    → takes_list front name ≡ true
split_takes c b front name names rows lists s =
    let all : length c.lists ≡ length (all_lists front) + length (rows ∷ lists) = ap length s.lists ∙ length-append (all_lists front) (rows ∷ lists) in
    let few = b.few in
    and_from (is_whole front && ltb (length front.closed + 1) 64) (not (is_taken front name))
    (and_from (is_whole front) (ltb (length front.closed + 1) 64) (split_whole c b front (name ∷ names) (rows ∷ lists) s)
    (lt-ltb (length front.closed + 1) 64 (omega (arith, length_push front.closed front.rows))))
    (not_from_false _ (split_new c b front name names (rows ∷ lists) s))

-- its rows fit
split_fit : (c : Content) → IsBundle c → (front : InsideList) (names : List (List ℕ)) (rows : List Row) (lists : List (List Row))
    → IsSplit c front names (rows ∷ lists) → RowsFit (all_lists front) rows
split_fit c b front names rows lists s = by_closed front.closed refl
  where
    by_closed : (closed : List (List Row)) → front.closed ≡ closed → RowsFit (front.closed ++ front.rows ∷ []) rows
    by_closed [] e =
        subst (λ closed. RowsFit (closed ++ front.rows ∷ []) rows) (sym e)
        (later_fit c b front.rows [] rows (open_there c front names (rows ∷ lists) s) (next_there c front names rows lists s))
    by_closed (first ∷ more) e =
        subst (λ closed. RowsFit (closed ++ front.rows ∷ []) rows) (sym e)
        (later_fit c b first (more ++ front.rows ∷ []) rows
        (subst (λ ls. Contains ls first) (sym s.lists)
        (Contains-append_left (all_lists front) (rows ∷ lists) first
        (Contains-append_left front.closed (front.rows ∷ []) first (subst (λ ls. Contains ls first) (sym e) (contains_head first more)))))
        (next_there c front names rows lists s))

-- the list that is next is taken in
split_next : (c : Content) (front : InsideList) (name : List ℕ) (names : List (List ℕ)) (rows : List Row) (lists : List (List Row))
    → IsSplit c front (name ∷ names) (rows ∷ lists)
    → IsSplit c (record { names = all_names front; closed = all_lists front; name = name; rows = rows }) names lists
split_next c front name names rows lists s = record {
  each = let each = s.each in omega (arith, length_push front.names front.name, length_push front.closed front.rows);
  names = s.names ∙ sym (append_assoc (all_names front) (name ∷ []) names);
  lists = s.lists ∙ sym (append_assoc (all_lists front) (rows ∷ []) lists);
}

same_content : (c : Content) (names : List (List ℕ)) (lists : List (List Row)) → names ≡ c.names → lists ≡ c.lists
    → (let a : Content = record { names = names; lists = lists; query = c.query } in a) ≡ c
same_content c names lists n l = rw (n, l) refl

complete_lists : (c : Content) → IsBundle c → (front : InsideList) (names : List (List ℕ)) (lists : List (List Row)) (from : ℕ) → length names ≡ length lists
    → IsSplit c front names lists
    → read_on front from (sections names lists ++ query_line c.query ∷ []) ≡ Ok c
complete_lists c b front [] [] from e s =
    read_on-query front from (query_line c.query) [] (query_line c.query ∷ []) c.query refl (sym (part_of-query_line c.query))
    ∙ ends_alone front from [] (λ f. Err from) c.query (split_whole c b front [] [] s) refl
    ∙ ap Ok (same_content c (all_names front) (all_lists front) (sym (s.names ∙ append-nil (all_names front))) (sym (s.lists ∙ append-nil (all_lists front))))
complete_lists c b front [] (rows ∷ lists) from e s = absurd (omega arith)
complete_lists c b front (name ∷ names) [] from e s = absurd (omega arith)
complete_lists c b front (name ∷ names) (rows ∷ lists) from e s =
    let rest = sections names lists ++ query_line c.query ∷ [] in
    let joined : (map row_line rows ++ sections names lists) ++ query_line c.query ∷ [] ≡ map row_line rows ++ rest = append_assoc (map row_line rows) (sections names lists) (query_line c.query ∷ []) in
    let begun =
    read_on-takes front from (list_line name) (map row_line rows ++ rest) (list_line name ∷ (map row_line rows ++ rest)) (list_part name) refl
    (sym (part_of-list_line name (split_named c b front name names (rows ∷ lists) s))) (split_takes c b front name names rows lists s)
    in
    let filled = complete_rows (with_list front name) rows (from + 1) rest (split_fit c b front (name ∷ names) rows lists s) in
    ap (λ ls. read_on front from (list_line name ∷ ls)) joined ∙ begun ∙ filled.1
    ∙ complete_lists c b (record { names = all_names front; closed = all_lists front; name = name; rows = rows }) names lists filled.0 (omega arith) (split_next c front name names rows lists s)

-- what a bundle's lines are read as
pub complete : (c : Content) → IsBundle c → read_all (bundle_lines c) ≡ Ok c
complete c b = by_first c.names c.lists refl refl
  where
    by_first : (names : List (List ℕ)) (lists : List (List Row)) → c.names ≡ names → c.lists ≡ lists
        → read_all (sections c.names c.lists ++ query_line c.query ∷ []) ≡ Ok c
    by_first names [] n l = absurd (let some = b.some in omega (arith, ap length l))
    by_first [] (rows ∷ lists) n l = absurd (let each = b.each_named in omega (arith, ap length n, ap length l))
    by_first (name ∷ names) (rows ∷ lists) n l =
        let rest = sections names lists ++ query_line c.query ∷ [] in
        let named = All-contains IsName c.names name b.names (subst (λ ns. Contains ns name) (sym n) (0, omega arith, refl)) in
        let fit = first_fit c b rows (subst (λ ls. Contains ls rows) (sym l) (contains_head rows lists)) in
        let filled = complete_rows (first_front name) rows 2 rest fit in
        let each = b.each_named in
        ap₂ (λ ns ls. read_all (sections ns ls ++ query_line c.query ∷ [])) n l
        ∙ ap (λ ls. read_all (list_line name ∷ ls)) (append_assoc (map row_line rows) (sections names lists) (query_line c.query ∷ []))
        ∙ ap (read_first (map row_line rows ++ rest)) (part_of-list_line name named)
        ∙ filled.1
        ∙ complete_lists c b (record { names = []; closed = []; name = name; rows = rows }) names lists filled.0 (omega (arith, ap length n, ap length l)) (record { each = refl; names = n; lists = l })
