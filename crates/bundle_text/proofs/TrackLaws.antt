-- What the reader keeps, one row on and one list on.
use Rattle.std.proofs.Common.{◌≡◌, ◌==◌, ◌+◌, ◌≤◌, ◌⊎◌, inl, inr, ℕ, suc, Bool, true, false, not, cond, eqb, ne_eqb, nat_eq, nat_lt, ◌||◌, ◌&&◌, List, [], ◌∷◌, ◌++◌, length, map, Option, Some, None, is_some, refl, sym, ap, ◌∙◌, subst, arith, eq-eqb, eqb-true, length-append}
use Rattle.std.specs.List.{list_any}
use Rattle.std.specs.Option.{IfSome}
use Rattle.std.specs.Set.{is_member}
use Rattle.std.specs.Global.{Vec}
use Rattle.std.proofs.lemmas.Bool.{false_from_ne_true, false≢true}
use Rattle.std.proofs.lemmas.List.{map-append}
use Rattle.containers.specs.Values.{value_of}
use Rattle.ranked_list.specs.declared.row.Row.{Row}
use Rattle.ranked_list.specs.Table.{objects}
use Rattle.ranked_list.specs.Rows.{last_row, in_order, TellsObjects}
use Rattle.bundle_text.specs.Reading.{InsideList, room, is_wanted, takes_row, with_list, with_query}
use Rattle.bundle_text.specs.Tracking.{front_of, has_number, IsTracked, TellsFirst}
use Rattle.bundle_text.specs.declared.bundle.Bundle.{Bundle}
use Rattle.bundle_text.specs.declared.reader.Reader.{Reader}
use Rattle.bundle_text.specs.Bundle.{Content, content}
use Rattle.ranked_list.proofs.RowLaws.{TellsObjects-push}

pub list_any-map : {A B : Type 0} (p : B → Bool) (f : A → B) (xs : List A) → list_any p (map f xs) ≡ list_any (λ x. p (f x)) xs
list_any-map p f [] = refl
list_any-map p f (x ∷ xs) = ap (λ b. p (f x) || b) (list_any-map p f xs)

has_number-cond : (t : Bool) (number : ℕ) (before : Option ℕ) → has_number number (cond t (Some number) before) ≡ cond t true (has_number number before)
has_number-cond true number before = eq-eqb number number refl
has_number-cond false number before = refl

is_some-cond : (t : Bool) (number : ℕ) (before : Option ℕ) → (t ≡ true → is_some before ≡ true) → is_some (cond t (Some number) before) ≡ is_some before
is_some-cond true number before has = sym (has refl)
is_some-cond false number before has = refl

module _ (number : ℕ) (before after : ℕ → Option ℕ) (row : Row) (marks : (object : ℕ) → after object ≡ cond (eqb row.object object) (Some number) (before object)) where
  -- where the object of a row more is given the number of the open list, that number tells the objects of the list
  pub seen-marked : (rows : List Row) → TellsObjects (λ object. has_number number (before object)) rows
      → TellsObjects (λ object. has_number number (after object)) (rows ++ row ∷ [])
  seen-marked rows tells =
      TellsObjects-push (λ object. has_number number (before object)) (λ object. has_number number (after object)) rows row tells
      (λ object. ap (has_number number) (marks object) ∙ has_number-cond (eqb row.object object) number (before object))

  -- and having a number tells the objects of the first list, where the row's had one or there is no first list
  pub first-marked : (closed : List (List Row)) → (closed ≡ []) ⊎ (is_some (before row.object) ≡ true) → TellsFirst (λ object. is_some (before object)) closed
      → TellsFirst (λ object. is_some (after object)) closed
  first-marked [] had tells = tt
  first-marked (first ∷ more) (inl none) tells = absurd cc
  first-marked (first ∷ more) (inr had) tells = λ object.
      ap is_some (marks object)
      ∙ is_some-cond (eqb row.object object) number (before object) (λ same. subst (λ o. is_some (before o) ≡ true) (eqb-true row.object object same) had)
      ∙ tells object

  -- and no number is greater
  pub past-marked : ((object : ℕ) → IfSome (before object) (λ m. m ≤ number)) → (object : ℕ) → IfSome (after object) (λ m. m ≤ number)
  past-marked past object = subst (λ (m : Option ℕ). IfSome m (λ n. n ≤ number)) (sym (marks object)) (by_test (eqb row.object object) (before object) (past object))
    where
      by_test : (t : Bool) (own : Option ℕ) → IfSome own (λ n. n ≤ number) → IfSome (cond t (Some number) own) (λ n. n ≤ number)
      by_test true own past = omega arith
      by_test false own past = past

-- no object has the number of the list that begins
not_next : (number : ℕ) (own : Option ℕ) → IfSome own (λ m. m ≤ number) → has_number (number + 1) own ≡ false
not_next number None past = refl
not_next number (Some own) past = false_from_ne_true _ (λ e. let is : own ≡ number + 1 = eqb-true own (number + 1) e in omega arith)

-- in the first list an object has its number, or none
first_number : (own : Option ℕ) → IfSome own (λ m. m ≤ 0) → is_some own ≡ has_number 0 own
first_number None past = refl
first_number (Some own) past = sym (eq-eqb own 0 (omega arith))

next_first : (number : ℕ) (given : ℕ → Option ℕ) (closed : List (List Row)) (rows : List Row) → number ≡ length closed
    → TellsFirst (λ object. is_some (given object)) closed → TellsObjects (λ object. has_number number (given object)) rows
    → ((object : ℕ) → IfSome (given object) (λ m. m ≤ number)) → TellsFirst (λ object. is_some (given object)) (closed ++ rows ∷ [])
next_first number given [] rows is first seen past = λ object.
    first_number (given object) (subst (λ k. IfSome (given object) (λ m. m ≤ k)) is (past object))
    ∙ subst (λ k. has_number k (given object) ≡ is_member nat_eq (objects rows) object) is (seen object)
next_first number given (list ∷ more) rows is first seen past = first

later : (number : ℕ) (own : Option ℕ) → IfSome own (λ m. m ≤ number) → IfSome own (λ m. m ≤ number + 1)
later number None past = tt
later number (Some own) past = omega arith

-- the reader keeps what it kept where the next list begins
pub next_tracked : (before after : Reader) → IsTracked before → after.last ≡ None → after.number ≡ before.number + 1 → after.rows ≡ []
    → after.closed.items ≡ before.closed.items ++ before.rows ∷ [] → ((object : ℕ) → value_of after.given object ≡ value_of before.given object) → IsTracked after
next_tracked before after tracked last number rows closed given = record {
  last = last ∙ sym (ap last_row rows);
  number =
      number ∙ ap (λ k. k + 1) tracked.number ∙ sym (ap length closed ∙ length-append before.closed.items (before.rows ∷ []));
  seen = λ object.
      ap (λ own. has_number after.number own) (given object) ∙ ap (λ k. has_number k (value_of before.given object)) number
      ∙ not_next before.number (value_of before.given object) (tracked.past object) ∙ sym (ap (λ rows. is_member nat_eq (objects rows) object) rows);
  first = subst (TellsFirst (λ object. is_some (value_of after.given object))) (sym closed)
      (next_first before.number (value_of after.given) before.closed.items before.rows tracked.number
      (tells_first before.closed.items tracked.first)
      (λ object. ap (has_number before.number) (given object) ∙ tracked.seen object)
      (λ object. subst (λ own. IfSome own (λ m. m ≤ before.number)) (sym (given object)) (tracked.past object)));
  past = λ object.
      subst (λ k. IfSome (value_of after.given object) (λ m. m ≤ k)) (sym number)
      (later before.number (value_of after.given object) (subst (λ own. IfSome own (λ m. m ≤ before.number)) (sym (given object)) (tracked.past object)));
}
  where
    tells_first : (closed : List (List Row)) → TellsFirst (λ object. is_some (value_of before.given object)) closed
        → TellsFirst (λ object. is_some (value_of after.given object)) closed
    tells_first [] first = tt
    tells_first (list ∷ more) first = λ object. ap is_some (given object) ∙ first object

abbrev inside : List (List ℕ) → List (List Row) → List ℕ → List Row → InsideList
inside names closed name rows = record { names = names; closed = closed; name = name; rows = rows }

-- and then its front is the one with the list
pub next_front : (before after : Reader) (name : List ℕ) → after.names.items ≡ before.names.items ++ before.name ∷ []
    → after.closed.items ≡ before.closed.items ++ before.rows ∷ [] → after.name.items ≡ name → after.rows ≡ [] → front_of after ≡ with_list (front_of before) name
next_front before after name names closed is rows =
    ap (λ ns. inside ns after.closed.items after.name.items after.rows) (ap (map (λ (n : Vec ℕ). n.items)) names ∙ map-append (λ (n : Vec ℕ). n.items) before.names.items (before.name ∷ []))
    ∙ ap (λ cs. inside ((front_of before).names ++ before.name.items ∷ []) cs after.name.items after.rows) closed
    ∙ ap (λ n. inside ((front_of before).names ++ before.name.items ∷ []) (before.closed.items ++ before.rows ∷ []) n after.rows) is
    ∙ ap (inside ((front_of before).names ++ before.name.items ∷ []) (before.closed.items ++ before.rows ∷ []) name) rows

-- ---- whether the open list may have an object, by its number

abbrev pub may_have : ℕ → Option ℕ → Bool
may_have number before = (number == 0 || is_some before) && not (has_number number before)

-- that is so where the object is wanted and the open list hasn't it
may_have_is : (reader : Reader) (row : Row) → IsTracked reader
    → may_have reader.number (value_of reader.given row.object) ≡ (is_wanted reader.closed.items row.object && not (is_member nat_eq (objects reader.rows) row.object))
may_have_is reader row tracked =
    ap (λ seen. (reader.number == 0 || is_some own) && not seen) (tracked.seen row.object)
    ∙ ap (λ wanted. wanted && not (is_member nat_eq (objects reader.rows) row.object)) (by_first reader.closed.items tracked.number tracked.first)
  where
    own : Option ℕ
    own = value_of reader.given row.object

    by_first : (closed : List (List Row)) → reader.number ≡ length closed → TellsFirst (λ object. is_some (value_of reader.given object)) closed
        → (reader.number == 0 || is_some own) ≡ is_wanted closed row.object
    by_first [] number first = ap (λ n. n == 0 || is_some own) number
    by_first (first ∷ more) number tells = ap (λ n. n == 0 || is_some own) number ∙ ap (λ t. t || is_some own) (ne_eqb (length (first ∷ more)) 0 (omega arith)) ∙ tells row.object

-- an object that it may not have
pub refused_row : (reader : Reader) (row : Row) → IsTracked reader → (before : Option ℕ) → before ≡ value_of reader.given row.object
    → may_have reader.number before ≡ false → takes_row (front_of reader) row ≡ false
refused_row reader row tracked before is refused =
    not_both (nat_lt (length reader.rows) (room reader.closed.items) && in_order (last_row reader.rows) row) (is_wanted reader.closed.items row.object)
    (not (is_member nat_eq (objects reader.rows) row.object)) (sym (may_have_is reader row tracked) ∙ ap (may_have reader.number) (sym is) ∙ refused)
  where
    not_both : (t u v : Bool) → (u && v) ≡ false → ((t && u) && v) ≡ false
    not_both true u v e = e
    not_both false u v e = refl

-- there is no first list, or it has that object
pub none_or_had : (reader : Reader) (row : Row) → IsTracked reader → (before : Option ℕ) → before ≡ value_of reader.given row.object
    → may_have reader.number before ≡ true → (reader.closed.items ≡ []) ⊎ (is_some (value_of reader.given row.object) ≡ true)
none_or_had reader row tracked before is may = by_closed reader.closed.items tracked.number
  where
    some : (number : ℕ) (own : Option ℕ) → may_have (suc number) own ≡ true → is_some own ≡ true
    some number (Some own) may = refl
    some number None may = absurd (false≢true (sym (ap (λ t. (t || false) && true) (ne_eqb (suc number) 0 (omega arith))) ∙ may))

    by_closed : (closed : List (List Row)) → reader.number ≡ length closed → (closed ≡ []) ⊎ (is_some (value_of reader.given row.object) ≡ true)
    by_closed [] number = inl refl
    by_closed (first ∷ more) number =
        inr (some (length more) (value_of reader.given row.object) (ap (λ n. may_have n (value_of reader.given row.object)) (sym number) ∙ ap (may_have reader.number) (sym is) ∙ may))

-- ---- the end

-- what was taken out of a reader whose last list is closed
pub ended : (before after : Reader) (bundle : Bundle) (query : List ℕ) → front_of after ≡ with_list (front_of before) [] → bundle.names ≡ after.names
    → bundle.lists ≡ after.closed → bundle.query.items ≡ query → content bundle ≡ with_query (front_of before) query
ended before after bundle query front names lists is =
    ap (λ ns. said ns bundle.lists.items bundle.query.items) (ap (λ ns. map (λ (n : Vec ℕ). n.items) ns.items) names ∙ ap (λ f. f.names) front)
    ∙ ap (λ ls. said (with_list (front_of before) []).names ls bundle.query.items) (ap (λ ls. ls.items) lists ∙ ap (λ f. f.closed) front)
    ∙ ap (said (with_list (front_of before) []).names (with_list (front_of before) []).closed) is
  where
    said : List (List ℕ) → List (List Row) → List ℕ → Content
    said names lists query = record { names = names; lists = lists; query = query }
