-- The fronts of bundles: what holds of them, and that a line more makes another.
use Rattle.std.proofs.Common.{◌≡◌, ◌≢◌, ◌<◌, ◌≤◌, ◌^◌, ◌+◌, ℕ, true, false, not, ◌&&◌, List, [], ◌∷◌, ◌++◌, length, get_or, refl, sym, ap, ◌∙◌, subst, arith, ltb, ltb-true, append_assoc, append-nil, eqb-true}
use Rattle.std.specs.Prelude.{nat_eq}
use Rattle.std.specs.List.{All, AllPairs, flat_map, zip, list_any}
use Rattle.std.specs.Set.{is_member}
use Rattle.std.specs.Str.{bytes_eq}
use Rattle.std.proofs.lemmas.List.{map_push, length_push}
use Rattle.std.proofs.lemmas.List.Concat.{flat_map-append}
use Rattle.std.proofs.lemmas.List.Elements.{All-push, All-nil, All-cons}
use Rattle.std.proofs.lemmas.List.Quantifiers.{all_pairs_push}
use Rattle.std.proofs.lemmas.Bool.{and_parts, or_parts, not-true, both_ways, false≢true}
use Rattle.std.proofs.lemmas.Slice.Eq.{bytes_eq-Decides}
use Rattle.topk_base.specs.Names.{is_name, IsName}
use Rattle.ranked_list.specs.declared.row.Row.{Row}
use Rattle.ranked_list.specs.Table.{IsRanked, IsTable, objects}
use Rattle.bundle_text.specs.Bundle.{IsBundle, section, sections, list_line, row_line}
use Rattle.ranked_list.specs.Rows.{last_row, in_order}
use Rattle.bundle_text.specs.Reading.{InsideList, room, is_wanted, takes_row, with_row, is_whole, is_whole_after, is_taken, takes_list, with_list, with_query}
use Rattle.ranked_list.proofs.Members.{Within, Within-push, all_there}
use Rattle.ranked_list.proofs.RankLaws.{IsRanked-nil, IsRanked-push, distinct_objects, length-objects}
use Rattle.ranked_list.proofs.RowLaws.{SameObjects, same_from_within}

-- the object of a row has 32 bits
abbrev pub Small : Row → Type 0
Small row = row.object < 2 ^ 32

-- the lists are a table of 1 to 200,000 rows over small objects
pub record AreLists (n : ℕ) (lists : List (List Row)) : Type 0 where
  pub least : 1 ≤ n
  pub most : n ≤ 200000
  pub table : IsTable n lists
  pub small : All (λ rows. All Small rows) lists

-- the rows of the open list fit the lists before it
abbrev pub Fits : List (List Row) → List Row → Type 0
Fits [] rows = length rows ≤ 200000
Fits (first ∷ more) rows = (length rows ≤ length first) × Within (objects rows) (objects first)

abbrev pub all_names : InsideList → List (List ℕ)
all_names front = front.names ++ front.name ∷ []

abbrev pub all_lists : InsideList → List (List Row)
all_lists front = front.closed ++ front.rows ∷ []

-- what holds of the front of a bundle
pub record IsFront (front : InsideList) : Type 0 where
  pub each : length front.names ≡ length front.closed
  pub few : length front.closed + 1 ≤ 64
  pub names : All IsName (all_names front)
  pub apart : AllPairs (λ (above : List ℕ) (below : List ℕ). above ≢ below) (all_names front)
  pub count : ℕ
  pub closed : AreLists count front.closed
  pub ranked : IsRanked front.rows
  pub small : All Small front.rows
  pub fits : Fits front.closed front.rows

-- the lines of a front
abbrev pub front_lines : InsideList → List (List ℕ)
front_lines front = sections (all_names front) (all_lists front)

-- ---- lines

pub zip-push : (names : List (List ℕ)) (lists : List (List Row)) (name : List ℕ) (rows : List Row) → length names ≡ length lists
    → zip (names ++ name ∷ []) (lists ++ rows ∷ []) ≡ zip names lists ++ (name, rows) ∷ []
zip-push [] [] name rows e = refl
zip-push [] (l ∷ ls) name rows e = absurd (omega arith)
zip-push (n ∷ ns) [] name rows e = absurd (omega arith)
zip-push (n ∷ ns) (l ∷ ls) name rows e = ap (λ more. (n, l) ∷ more) (zip-push ns ls name rows (omega arith))

pub sections-push : (names : List (List ℕ)) (lists : List (List Row)) (name : List ℕ) (rows : List Row) → length names ≡ length lists
    → sections (names ++ name ∷ []) (lists ++ rows ∷ []) ≡ sections names lists ++ section name rows
sections-push names lists name rows e =
    ap (flat_map (λ list. section list.0 list.1)) (zip-push names lists name rows e)
    ∙ flat_map-append (λ list. section list.0 list.1) (zip names lists) ((name, rows) ∷ [])
    ∙ ap (λ more. sections names lists ++ more) (append-nil (section name rows))

pub front_lines-row : (front : InsideList) (row : Row) → length front.names ≡ length front.closed
    → front_lines (with_row front row) ≡ front_lines front ++ row_line row ∷ []
front_lines-row front row each =
    sections-push front.names front.closed front.name (front.rows ++ row ∷ []) each
    ∙ ap (λ rows. sections front.names front.closed ++ list_line front.name ∷ rows) (map_push row_line front.rows row)
    ∙ sym (append_assoc (sections front.names front.closed) (section front.name front.rows) (row_line row ∷ []))
    ∙ ap (λ ls. ls ++ row_line row ∷ []) (sym (sections-push front.names front.closed front.name front.rows each))

pub front_lines-list : (front : InsideList) (name : List ℕ) → length front.names ≡ length front.closed
    → front_lines (with_list front name) ≡ front_lines front ++ list_line name ∷ []
front_lines-list front name each =
    sections-push (all_names front) (all_lists front) name [] (omega (arith, length_push front.names front.name, length_push front.closed front.rows))

-- ---- a row more

wanted_has : (closed : List (List Row)) (rows : List Row) (row : Row) → Fits closed rows → length rows < room closed → is_wanted closed row.object ≡ true
    → Fits closed (rows ++ row ∷ [])
wanted_has [] rows row fits space wanted = omega (arith, length_push rows row)
wanted_has (first ∷ more) rows row fits space wanted = (
  omega (arith, length_push rows row),
  subst (λ os. Within os (objects first)) (sym (map_push (λ r. r.object) rows row)) (Within-push (objects rows) (objects first) row.object fits.1 wanted),
)

-- what it says that a row may come
pub record RowFits (front : InsideList) (row : Row) : Type 0 where
  pub space : length front.rows < room front.closed
  pub order : in_order (last_row front.rows) row ≡ true
  pub wanted : is_wanted front.closed row.object ≡ true
  pub new : is_member nat_eq (objects front.rows) row.object ≡ false

pub row_fits : (front : InsideList) (row : Row) → takes_row front row ≡ true → RowFits front row
row_fits front row takes =
    let space = ltb (length front.rows) (room front.closed) in
    let order = in_order (last_row front.rows) row in
    let wanted = is_wanted front.closed row.object in
    let new = not (is_member nat_eq (objects front.rows) row.object) in
    let outer = and_parts ((space && order) && wanted) new takes in
    let middle = and_parts (space && order) wanted outer.0 in
    let inner = and_parts space order middle.0 in
    record { space = ltb-true _ _ inner.0; order = inner.1; wanted = middle.1; new = not-true _ outer.1 }

pub IsFront-row : (front : InsideList) (row : Row) → IsFront front → takes_row front row ≡ true → Small row → IsFront (with_row front row)
IsFront-row front row f takes small =
    let fits = row_fits front row takes in record {
      each = f.each;
      few = f.few;
      names = f.names;
      apart = f.apart;
      count = f.count;
      closed = f.closed;
      ranked = IsRanked-push front.rows row f.ranked fits.order fits.new;
      small = All-push Small front.rows row f.small small;
      fits = wanted_has front.closed front.rows row f.fits fits.space fits.wanted;
    }

-- ---- a list more

pub IsTable-nil : (n : ℕ) → IsTable n []
IsTable-nil n = record {
  sized = All-nil (λ rows. length rows ≡ n);
  ranked = All-nil IsRanked;
  same = All-nil (λ rows. All (SameObjects rows) []);
}

-- a list of the same length over the same objects as each list of a table makes the table larger
pub IsTable-push : (n : ℕ) (lists : List (List Row)) (rows : List Row) → IsTable n lists → length rows ≡ n → IsRanked rows
    → All (λ others. SameObjects others rows) lists → All (SameObjects rows) lists → IsTable n (lists ++ rows ∷ [])
IsTable-push n lists rows t sized ranked to from = record {
  sized = All-push (λ rows. length rows ≡ n) lists rows t.sized sized;
  ranked = All-push IsRanked lists rows t.ranked ranked;
  same =
      All-push (λ a. All (SameObjects a) (lists ++ rows ∷ [])) lists rows
      (λ k d l. All-push (SameObjects (get_or lists k d)) lists rows (t.same k d l) (to k d l))
      (All-push (SameObjects rows) lists rows from (λ o has. has));
}

-- where the objects are those of the first list they are those of each
same_to_all : (n : ℕ) (first : List Row) (more : List (List Row)) (rows : List Row) → IsTable n (first ∷ more) → SameObjects first rows
    → All (λ others. SameObjects others rows) (first ∷ more)
same_to_all n first more rows t same = λ k d l o has. same o (t.same k d l 0 d (omega arith) o has)

same_from_all : (n : ℕ) (first : List Row) (more : List (List Row)) (rows : List Row) → IsTable n (first ∷ more) → SameObjects rows first
    → All (SameObjects rows) (first ∷ more)
same_from_all n first more rows t same = λ k d l o has. t.same 0 d (omega arith) k d l o (same o has)

-- what a whole list says
pub whole_some : (rows : List Row) → is_whole_after [] rows ≡ true → 0 < length rows
whole_some rows h = ltb-true 0 (length rows) h

pub whole_same : (first : List Row) (more : List (List Row)) (rows : List Row) → is_whole_after (first ∷ more) rows ≡ true → length rows ≡ length first
whole_same first more rows h = eqb-true (length rows) (length first) h

-- a whole list and those before it are lists of one table
pub AreLists-push : (n : ℕ) (closed : List (List Row)) (rows : List Row) → AreLists n closed → IsRanked rows → All Small rows → Fits closed rows
    → is_whole_after closed rows ≡ true
    → (count : ℕ) × AreLists count (closed ++ rows ∷ [])
AreLists-push n [] rows a ranked small fits whole = (
  length rows,
  record {
    least = whole_some rows whole;
    most = fits;
    table = IsTable-push (length rows) [] rows (IsTable-nil (length rows)) refl ranked (All-nil (λ others. SameObjects others rows)) (All-nil (SameObjects rows));
    small = All-push (λ rows. All Small rows) [] rows (All-nil (λ rows. All Small rows)) small;
  },
)
AreLists-push n (first ∷ more) rows a ranked small fits whole =
    let same : length rows ≡ length first = whole_same first more rows whole in
    let count : length first ≡ n = a.table.sized 0 first (omega arith) in
    let objects_same : length (objects rows) ≡ length (objects first) = length-objects rows ∙ same ∙ sym (length-objects first) in
    let back = all_there (objects rows) (objects first) (distinct_objects rows ranked) fits.1 objects_same in (
      n,
      record {
        least = a.least;
        most = a.most;
        table =
            IsTable-push n (first ∷ more) rows a.table (same ∙ count) ranked
            (same_to_all n first more rows a.table (same_from_within first rows back))
            (same_from_all n first more rows a.table (same_from_within rows first fits.1));
        small = All-push (λ rows. All Small rows) (first ∷ more) rows a.small small;
      },
    )

-- no name so far is one that isn't taken
differ : (names : List (List ℕ)) (name : List ℕ) → list_any (λ other. bytes_eq other name) names ≡ false → All (λ other. other ≢ name) names
differ [] name h = All-nil (λ other. other ≢ name)
differ (n ∷ names) name h =
    let parts = or_parts (bytes_eq n name) (list_any (λ other. bytes_eq other name) names) h in
    All-cons (λ other. other ≢ name) n names (λ e. both_ways _ parts.0 ((bytes_eq-Decides n name).1 e)) (differ names name parts.1)

pub all_differ : (front : InsideList) (name : List ℕ) → is_taken front name ≡ false → All (λ other. other ≢ name) (all_names front)
all_differ front name h =
    let parts = or_parts (list_any (λ other. bytes_eq other name) front.names) (bytes_eq front.name name) h in
    All-push (λ other. other ≢ name) front.names front.name (differ front.names name parts.0) (λ e. both_ways _ parts.1 ((bytes_eq-Decides front.name name).1 e))

-- what it says that a list may begin
pub record ListFits (front : InsideList) (name : List ℕ) : Type 0 where
  pub whole : is_whole front ≡ true
  pub few : length front.closed + 1 < 64
  pub new : is_taken front name ≡ false

pub list_fits : (front : InsideList) (name : List ℕ) → takes_list front name ≡ true → ListFits front name
list_fits front name takes =
    let whole = is_whole front in
    let few = ltb (length front.closed + 1) 64 in
    let new = not (is_taken front name) in
    let outer = and_parts (whole && few) new takes in
    let inner = and_parts whole few outer.0 in
    record { whole = inner.0; few = ltb-true _ _ inner.1; new = not-true _ outer.1 }

Fits-nil : (closed : List (List Row)) (rows : List Row) → Fits (closed ++ rows ∷ []) []
Fits-nil [] rows = (omega arith, λ o has. absurd (false≢true has))
Fits-nil (first ∷ more) rows = (omega arith, λ o has. absurd (false≢true has))

pub IsFront-list : (front : InsideList) (name : List ℕ) → IsFront front → takes_list front name ≡ true → is_name name ≡ true → IsFront (with_list front name)
IsFront-list front name f takes named =
    let fits = list_fits front name takes in
    let lists = AreLists-push f.count front.closed front.rows f.closed f.ranked f.small f.fits fits.whole in record {
      each = let e = f.each in omega (arith, length_push front.names front.name, length_push front.closed front.rows);
      few = let few = fits.few in omega (arith, length_push front.closed front.rows);
      names = All-push IsName (all_names front) name f.names named;
      apart = all_pairs_push (λ (above : List ℕ) (below : List ℕ). above ≢ below) (all_names front) name f.apart (all_differ front name fits.new);
      count = lists.0;
      closed = lists.1;
      ranked = IsRanked-nil;
      small = All-nil Small;
      fits = Fits-nil front.closed front.rows;
    }

-- ---- the query, where the open list is whole

pub whole_bundle : (front : InsideList) (query : List ℕ) → IsFront front → is_whole front ≡ true → All (λ byte. byte ≢ 10) query
    → IsBundle (with_query front query)
whole_bundle front query f whole one_line =
    let lists = AreLists-push f.count front.closed front.rows f.closed f.ranked f.small f.fits whole in
    let a = lists.1 in record {
      some = omega (arith, length_push front.closed front.rows);
      few = let few = f.few in omega (arith, length_push front.closed front.rows);
      each_named = let e = f.each in omega (arith, length_push front.names front.name, length_push front.closed front.rows);
      names = f.names;
      apart = f.apart;
      table = (lists.0, a.least, a.most, a.table);
      small = a.small;
      one_line = one_line;
    }

-- the first front, of a list that has just begun
pub IsFront-first : (name : List ℕ) → is_name name ≡ true → IsFront (record { names = []; closed = []; name = name; rows = [] })
IsFront-first name named = record {
  each = refl;
  few = omega arith;
  names = All-push IsName [] name (All-nil IsName) named;
  apart = λ i j d l m. absurd (omega arith);
  count = 1;
  closed = record { least = omega arith; most = omega arith; table = IsTable-nil 1; small = All-nil (λ rows. All Small rows) };
  ranked = IsRanked-nil;
  small = All-nil Small;
  fits = omega arith;
}
