-- Each front goes on to some bundle: the objects that its open list lacks follow with the grade 0.
use Rattle.std.proofs.Common.{◌≡◌, ◌≢◌, ◌<◌, ◌^◌, ℕ, true, false, not, eqb, List, [], ◌∷◌, ◌++◌, length, Option, refl, sym, ap, ◌∙◌, subst, ⊎_elim, arith, ltb, lt-ltb, eq-eqb, append_assoc, append-nil, eqb-true}
use Rattle.std.specs.Prelude.{nat_eq}
use Rattle.std.specs.List.{All}
use Rattle.std.specs.Set.{is_member}
use Rattle.std.proofs.lemmas.List.{length_push, map_push}
use Rattle.std.proofs.lemmas.List.Elements.{All-nil}
use Rattle.std.proofs.lemmas.Bool.{and_from, or_left, or_right, or_cases, cases_Bool, not_from_false, false≢true}
use Rattle.ranked_list.specs.declared.row.Row.{Row}
use Rattle.ranked_list.specs.Table.{objects}
use Rattle.bundle_text.specs.Bundle.{BeginsBundle, bundle_lines, row_line, query_line}
use Rattle.ranked_list.specs.Rows.{last_row, in_order}
use Rattle.bundle_text.specs.Reading.{InsideList, room, is_wanted, takes_row, with_row, is_whole, is_whole_after, with_query}
use Rattle.ranked_list.proofs.Members.{Within, member-push, contains_from_member, at_most, fewer}
use Rattle.ranked_list.proofs.RankLaws.{order_from, length-objects, distinct_objects, object_at, no_row}
use Rattle.bundle_text.proofs.FrontLaws.{Small, Fits, AreLists, IsFront, IsFront-row, front_lines, front_lines-row, whole_bundle}

-- the row of an object with the least grade
abbrev pub least_row : ℕ → Row
least_row object = record { object = object; grade = 0 }

least_in_order : (o : Option Row) (object : ℕ) → in_order o (least_row object) ≡ true
least_in_order o object = order_from o (least_row object) (omega arith) (λ above e. omega arith)

pub takes_from : (front : InsideList) (row : Row) → length front.rows < room front.closed → in_order (last_row front.rows) row ≡ true
    → is_wanted front.closed row.object ≡ true
    → is_member nat_eq (objects front.rows) row.object ≡ false → takes_row front row ≡ true
takes_from front row space order wanted new =
    and_from _ (not (is_member nat_eq (objects front.rows) row.object))
    (and_from _ (is_wanted front.closed row.object) (and_from (ltb (length front.rows) (room front.closed)) (in_order (last_row front.rows) row) (lt-ltb _ _ space) order) wanted)
    (not_from_false _ new)

-- a front that begins with another's lines
pub record GoesOn (front after : InsideList) : Type 0 where
  pub is_front : IsFront after
  pub closed : after.closed ≡ front.closed
  pub more : List (List ℕ)
  pub lines : front_lines after ≡ front_lines front ++ more

goes_nowhere : (front : InsideList) → IsFront front → GoesOn front front
goes_nowhere front f = record { is_front = f; closed = refl; more = []; lines = sym (append-nil (front_lines front)) }

goes_by_row : (front after : InsideList) (row : Row) → IsFront front → GoesOn (with_row front row) after → GoesOn front after
goes_by_row front after row f g = record {
  is_front = g.is_front;
  closed = g.closed;
  more = row_line row ∷ g.more;
  lines = g.lines ∙ ap (λ ls. ls ++ g.more) (front_lines-row front row f.each) ∙ append_assoc (front_lines front) (row_line row ∷ []) g.more;
}

-- the front with each of the objects that it lacks
pub record Filled (front : InsideList) (wanted : List ℕ) : Type 0 where
  pub after : InsideList
  pub goes : GoesOn front after
  pub keeps : Within (objects front.rows) (objects after.rows)
  pub has : Within wanted (objects after.rows)

object_small : (rows : List Row) (object : ℕ) → All Small rows → is_member nat_eq (objects rows) object ≡ true → object < 2 ^ 32
object_small rows object small has =
    let at = contains_from_member (objects rows) object has in
    let within : at.0 < length rows = omega (arith, at.1, length-objects rows) in
    subst (λ o. o < 2 ^ 32) (sym (object_at rows at.0 object within) ∙ at.2) (small at.0 no_row within)

kept : (rows : List Row) (row : Row) → Within (objects rows) (objects (rows ++ row ∷ []))
kept rows row o has = ap (λ os. is_member nat_eq os o) (map_push (λ r. r.object) rows row) ∙ member-push (objects rows) row.object o ∙ or_left _ (eqb o row.object) has

added : (rows : List Row) (row : Row) → is_member nat_eq (objects (rows ++ row ∷ [])) row.object ≡ true
added rows row =
    ap (λ os. is_member nat_eq os row.object) (map_push (λ r. r.object) rows row) ∙ member-push (objects rows) row.object row.object
    ∙ or_right (is_member nat_eq (objects rows) row.object) _ (eq-eqb row.object row.object refl)

has_first : (object : ℕ) (wanted xs : List ℕ) → is_member nat_eq xs object ≡ true → Within wanted xs → Within (object ∷ wanted) xs
has_first object wanted xs has within o h = ⊎_elim (λ e. subst (λ x. is_member nat_eq xs x ≡ true) (sym (eqb-true o object e)) has) (λ rest. within o rest) (or_cases (eqb o object) (is_member nat_eq wanted o) h)

fill : (first : List Row) (others : List (List Row)) (front : InsideList) (wanted : List ℕ) → front.closed ≡ first ∷ others → IsFront front → All Small first
    → Within wanted (objects first) → Filled front wanted
fill first others front [] e f small within = record { after = front; goes = goes_nowhere front f; keeps = λ o has. has; has = λ o has. absurd (false≢true has) }
fill first others front (object ∷ wanted) e f small within =
    ⊎_elim
    (λ has.
    let rest = fill first others front wanted e f small more in record {
      after = rest.after;
      goes = rest.goes;
      keeps = rest.keeps;
      has = has_first object wanted (objects rest.after.rows) (rest.keeps object has) rest.has;
    })
    (λ lacks.
    let takes = takes_least first others front object e f there lacks in
    let next = IsFront-row front (least_row object) f takes (object_small first object small there) in
    let rest = fill first others (with_row front (least_row object)) wanted e next small more in record {
      after = rest.after;
      goes = goes_by_row front rest.after (least_row object) f rest.goes;
      keeps = λ o has. rest.keeps o (kept front.rows (least_row object) o has);
      has = has_first object wanted (objects rest.after.rows) (rest.keeps object (added front.rows (least_row object))) rest.has;
    })
    (cases_Bool (is_member nat_eq (objects front.rows) object))
  where
    more : Within wanted (objects first)
    more o has = within o (or_right (eqb o object) _ has)

    there : is_member nat_eq (objects first) object ≡ true
    there = within object (or_left (eqb object object) _ (eq-eqb object object refl))

    takes_least : (first : List Row) (others : List (List Row)) (front : InsideList) (object : ℕ) → front.closed ≡ first ∷ others → IsFront front
        → is_member nat_eq (objects first) object ≡ true
        → is_member nat_eq (objects front.rows) object ≡ false → takes_row front (least_row object) ≡ true
    takes_least first others front object e f there lacks =
        let fits : Fits (first ∷ others) front.rows = subst (λ closed. Fits closed front.rows) e f.fits in
        let few = fewer (objects front.rows) (objects first) object (distinct_objects front.rows f.ranked) fits.1 there lacks in
        takes_from front (least_row object)
        (subst (λ closed. length front.rows < room closed) (sym e) (omega (arith, length-objects front.rows, length-objects first)))
        (least_in_order (last_row front.rows) object)
        (subst (λ closed. is_wanted closed object ≡ true) (sym e) there)
        lacks

-- a front that goes on to one whose list is whole
pub record CanEnd (front : InsideList) : Type 0 where
  pub after : InsideList
  pub goes : GoesOn front after
  pub whole : is_whole after ≡ true

can_end_first : (front : InsideList) (rows : List Row) → front.rows ≡ rows → front.closed ≡ [] → IsFront front → CanEnd front
can_end_first front [] is none f =
    let takes =
    takes_from front (least_row 0)
    (subst (λ closed. length front.rows < room closed) (sym none) (subst (λ rows. length rows < 200000) (sym is) (omega arith)))
    (least_in_order (last_row front.rows) 0)
    (subst (λ closed. is_wanted closed 0 ≡ true) (sym none) refl)
    (subst (λ rows. is_member nat_eq (objects rows) 0 ≡ false) (sym is) refl)
    in
    let next = IsFront-row front (least_row 0) f takes (omega arith) in record {
      after = with_row front (least_row 0);
      goes = goes_by_row front (with_row front (least_row 0)) (least_row 0) f (goes_nowhere (with_row front (least_row 0)) next);
      whole = subst (λ closed. is_whole_after closed (front.rows ++ least_row 0 ∷ []) ≡ true) (sym none) (lt-ltb 0 _ (omega (arith, length_push front.rows (least_row 0))));
    }
can_end_first front (row ∷ rows) is none f = record {
  after = front;
  goes = goes_nowhere front f;
  whole = subst (λ closed. is_whole_after closed front.rows ≡ true) (sym none) (subst (λ rows. is_whole_after [] rows ≡ true) (sym is) (lt-ltb 0 _ (omega arith)));
}

can_end_later : (front : InsideList) (first : List Row) (others : List (List Row)) → front.closed ≡ first ∷ others → IsFront front → CanEnd front
can_end_later front first others e f =
    let table = subst (λ closed. AreLists f.count closed) e f.closed in
    let full = fill first others front (objects first) e f (table.small 0 first (omega arith)) (λ o has. has) in
    let g = full.goes in
    let after = g.is_front in
    let closed : full.after.closed ≡ first ∷ others = g.closed ∙ e in
    let fits : Fits (first ∷ others) full.after.rows = subst (λ closed. Fits closed full.after.rows) closed after.fits in
    let least = at_most (objects first) (objects full.after.rows) (distinct_objects first (table.table.ranked 0 first (omega arith))) full.has in
    let same : length full.after.rows ≡ length first = omega (arith, fits.0, length-objects full.after.rows, length-objects first) in record {
      after = full.after;
      goes = g;
      whole = subst (λ closed. is_whole_after closed full.after.rows ≡ true) (sym closed) (eq-eqb _ _ same);
    }

pub can_end : (front : InsideList) → IsFront front → CanEnd front
can_end front f = by_closed front.closed refl
  where
    by_closed : (closed : List (List Row)) → front.closed ≡ closed → CanEnd front
    by_closed [] e = can_end_first front front.rows refl e f
    by_closed (first ∷ others) e = can_end_later front first others e f

-- the lines of a front with its query
pub bundle_lines-query : (front : InsideList) (query : List ℕ) → bundle_lines (with_query front query) ≡ front_lines front ++ query_line query ∷ []
bundle_lines-query front query = refl

-- the lines of a front begin some bundle's
pub viable : (front : InsideList) → IsFront front → BeginsBundle (front_lines front)
viable front f =
    let end = can_end front f in
    let g = end.goes in (
      g.more ++ query_line [] ∷ [],
      with_query end.after [],
      record {
        bundle = whole_bundle end.after [] g.is_front end.whole (All-nil (λ byte. byte ≢ 10));
        spelled = sym (append_assoc (front_lines front) g.more (query_line [] ∷ [])) ∙ ap (λ ls. ls ++ query_line [] ∷ []) (sym g.lines);
      },
    )
