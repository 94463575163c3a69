-- Objects are seen by their least places, and at equal ones in the order of the lists.
use Rattle.std.proofs.Common.{◌≡◌, ◌⊎◌, inl, inr, ℕ, zero, suc, ◌+◌, ◌-◌, ◌<◌, ◌≤◌, List, [], ◌∷◌, ◌++◌, length, AllPairs, Contains, get_or, sym, ap, subst, ◌∙◌, arith, append_assoc, append-nil}
use Rattle.std.proofs.lemmas.Bool.{cases_Bool, cases_lt}
use Rattle.std.proofs.lemmas.List.Quantifiers.{all_pairs_push}
use Rattle.std.proofs.lemmas.List.Elements.{Contains-append_left, Contains-append_right, Contains-append_cases}
use Rattle.ranked_list.specs.declared.row.Row.{Row}
use Rattle.ranked_list.specs.Table.{IsTable, IsRanked, place_in}
use Rattle.ranked_list.proofs.RankLaws.{no_row}
use Rattle.topk_theory.specs.declared.access.Access.{Access}
use Rattle.topk_theory.specs.declared.access.Access.TheVariants.{Sorted}
use Rattle.topk_theory.specs.Transcript.{list_at, seen_objects}
use Rattle.topk_theory.specs.Threshold.{row_at, sorted_block}
use Rattle.topk_theory.specs.NoRandom.{nra_run_to}
use Rattle.topk_theory.proofs.AgreementLists.{contains_nil, contains_here, contains_cases, contains_at}
use Rattle.topk_theory.proofs.AgreementNames.{has, has_contains, has_not, each_once_within}
use Rattle.topk_theory.proofs.AgreementRows.{list_at_length, list_at_ranked}
use Rattle.topk_theory.proofs.Agreement.{seen_objects_old, seen_objects_new}
use Rattle.topk_theory.proofs.ThresholdTables.{place_in-object, object-at_place}
use Rattle.algorithm_theory.specs.Fagin.{IsSeenBefore}

-- the object stands in a list above a place, or there in one of the first lists; or it stands nowhere above, nor there in one of these
record IsRead (D : List (List Row)) (place list object : ℕ) : Type 0 where
  at : ℕ
  listed : at < length D
  read : (place_in (list_at D at) object < place) ⊎ ((place_in (list_at D at) object ≡ place) × (at < list))

abbrev IsUnread : List (List Row) → ℕ → ℕ → ℕ → Type 0
IsUnread D place list object = (at : ℕ) → at < length D → (place < place_in (list_at D at) object) ⊎ ((place ≡ place_in (list_at D at) object) × (list ≤ at))

-- all places above one are read, and that place of the first lists
record InSight (D : List (List Row)) (A : List Access) (place list : ℕ) : Type 0 where
  seen : (object : ℕ) → Contains (seen_objects A) object → IsRead D place list object
  unseen : (object : ℕ) → ¬ Contains (seen_objects A) object → IsUnread D place list object
  ordered : AllPairs (IsSeenBefore D) (seen_objects A)

-- what is read comes before what isn't
comes_before : (D : List (List Row)) (place list one other : ℕ) → IsRead D place list one → IsUnread D place list other → IsSeenBefore D one other
comes_before D place list one other is none = record {
  list = is.at;
  listed = is.listed;
  before = λ further l. elim is.read [
    | inl above ↦ elim (none further l) [ inl below ↦ inl (omega arith) | inr here ↦ (let e = here.0 in inl (omega arith)) ]
    | inr there ↦ (let p = there.0 in let q = there.1 in elim (none further l) [ inl below ↦ inl (omega arith) | inr here ↦ (let e = here.0 in let f = here.1 in inr (omega arith, omega arith)) ])
  ];
}

read_more : (D : List (List Row)) (place list object : ℕ) → IsRead D place list object → IsRead D place (list + 1) object
read_more D place list object is = record {
  at = is.at;
  listed = is.listed;
  read = elim is.read [ inl above ↦ inl above | inr there ↦ (let q = there.1 in inr (there.0, omega arith)) ];
}

-- one place of a list is of one object
one_object : (rows : List Row) (one other : ℕ) → place_in rows one ≡ place_in rows other → place_in rows other < length rows → one ≡ other
one_object rows one other e l =
    sym (object-at_place rows one no_row (omega arith)) ∙ ap (λ p. (get_or rows p no_row).object) e ∙ object-at_place rows other no_row l

unread_more : (n : ℕ) (D : List (List Row)) (place list object other : ℕ) → IsTable n D → list < length D → place < n → place_in (list_at D list) object ≡ place
    → (other ≡ object → ⊥) → IsUnread D place list other → IsUnread D place (list + 1) other
unread_more n D place list object other t l deep here apart none at a =
    elim (none at a) [
      | inl below ↦ inl below
      | inr same ↦ elim (cases_lt list at) [
        | inl later ↦ inr (same.0, omega arith)
        | inr early ↦ absurd (
            let up = same.1 in
            let is : at ≡ list = omega arith in
            let long : length (list_at D list) ≡ n = list_at_length n D list t l in
            let there : place ≡ place_in (list_at D list) other = subst (λ i. place ≡ place_in (list_at D i) other) is same.0 in
            apart (one_object (list_at D list) other object (sym there ∙ sym here) (omega arith)))
      ]
    ]

-- one row more
sight_more : (n : ℕ) (D : List (List Row)) (A : List Access) (place list object grade : ℕ) → IsTable n D → list < length D → place < n
    → place_in (list_at D list) object ≡ place → InSight D A place list → InSight D (A ++ Sorted list object grade ∷ []) place (list + 1)
sight_more n D A place list object grade t l deep here sight =
    elim (cases_Bool (has object (seen_objects A))) [
      | inl old ↦
          let there : Contains (seen_objects A) object = has_contains object (seen_objects A) old in
          let same : seen_objects (A ++ Sorted list object grade ∷ []) ≡ seen_objects A = seen_objects_old A list object grade there in
          record {
            seen = λ o c. read_more D place list o (sight.seen o (subst (λ os. Contains os o) same c));
            unseen = λ o none.
                let before : ¬ Contains (seen_objects A) o = λ c. none (subst (λ os. Contains os o) (sym same) c) in
                unread_more n D place list object o t l deep here (λ e. before (subst (λ x. Contains (seen_objects A) x) (sym e) there)) (sight.unseen o before);
            ordered = subst (AllPairs (IsSeenBefore D)) (sym same) sight.ordered;
          }
      | inr new ↦
          let none_yet : ¬ Contains (seen_objects A) object = has_not object (seen_objects A) new in
          let same : seen_objects (A ++ Sorted list object grade ∷ []) ≡ seen_objects A ++ object ∷ [] = seen_objects_new A list object grade none_yet in
          let last : Contains (seen_objects A ++ object ∷ []) object = Contains-append_right (seen_objects A) (object ∷ []) object (contains_here object []) in
          record {
            seen = λ o c. elim (Contains-append_cases (seen_objects A) (object ∷ []) o (subst (λ os. Contains os o) same c)) [
              | inl before ↦ read_more D place list o (sight.seen o before)
              | inr now ↦ elim (contains_cases object [] o now) [
                | inl e ↦ record { at = list; listed = l; read = inr (subst (λ x. place_in (list_at D list) x ≡ place) e here, omega arith) }
                | inr nothing ↦ absurd (contains_nil o nothing)
              ]
            ];
            unseen = λ o none.
                let before : ¬ Contains (seen_objects A) o = λ c. none (subst (λ os. Contains os o) (sym same) (Contains-append_left (seen_objects A) (object ∷ []) o c)) in
                unread_more n D place list object o t l deep here (λ e. none (subst (λ os. Contains os o) (sym same) (subst (λ x. Contains (seen_objects A ++ object ∷ []) x) (sym e) last))) (sight.unseen o before);
            ordered = subst (AllPairs (IsSeenBefore D)) (sym same) (all_pairs_push (IsSeenBefore D) (seen_objects A) object sight.ordered (λ i d in_range.
                comes_before D place list (get_or (seen_objects A) i d) object (sight.seen (get_or (seen_objects A) i d) (contains_at (seen_objects A) i d in_range)) (sight.unseen object none_yet)));
          }
    ]

-- the rows of a place, from a list on
sight_block : (n : ℕ) (D rest : List (List Row)) (A : List Access) (place list : ℕ) → IsTable n D → place < n
    → ((i : ℕ) → i < length rest → list_at rest i ≡ list_at D (list + i)) → list + length rest ≡ length D → InSight D A place list
    → InSight D (A ++ sorted_block list (suc place) rest) place (length D)
sight_block n D [] A place list t deep are count sight =
    let whole : list ≡ length D = omega arith in
    subst (λ B. InSight D B place (length D)) (sym (append-nil A)) (subst (InSight D A place) whole sight)
sight_block n D (rows ∷ rest) A place list t deep are count sight =
    let l : list < length D = omega arith in
    let none : list + 0 ≡ list = omega arith in
    let is : rows ≡ list_at D list = are 0 (omega arith) ∙ ap (list_at D) none in
    let long : length (list_at D list) ≡ n = list_at_length n D list t l in
    let ranked : IsRanked (list_at D list) = list_at_ranked n D list t l in
    let one : suc place - 1 ≡ place = omega arith in
    let object : ℕ = (row_at rows (suc place)).object in
    let grade : ℕ = (row_at rows (suc place)).grade in
    let here : place_in (list_at D list) object ≡ place =
    subst (λ r. place_in (list_at D list) (row_at r (suc place)).object ≡ place) (sym is) (place_in-object (list_at D list) (suc place - 1) no_row ranked.distinct (omega arith) ∙ one) in
    subst (λ B. InSight D B place (length D)) (append_assoc A (Sorted list object grade ∷ []) (sorted_block (list + 1) (suc place) rest))
    (sight_block n D rest (A ++ Sorted list object grade ∷ []) place (list + 1) t deep
    (λ i within. let next : list + suc i ≡ list + 1 + i = omega arith in are (suc i) (omega arith) ∙ ap (list_at D) next)
    (omega arith) (sight_more n D A place list object grade t l deep here sight))

-- down to a depth
place_over : (D : List (List Row)) (A : List Access) (place : ℕ) → InSight D A place (length D) → InSight D A (suc place) 0
place_over D A place sight = record {
  seen = λ o c.
      let is = sight.seen o c in
      record { at = is.at; listed = is.listed; read = elim is.read [ inl above ↦ inl (omega arith) | inr there ↦ (let e = there.0 in inl (omega arith)) ] };
  unseen = λ o none at l. elim (sight.unseen o none at l) [
    | inl below ↦ elim (cases_lt (suc place) (place_in (list_at D at) o)) [ inl more ↦ inl more | inr le ↦ inr (omega arith, omega arith) ]
    | inr here ↦ (let past = here.1 in absurd (omega arith))
  ];
  ordered = sight.ordered;
}

in_sight : (n : ℕ) (D : List (List Row)) (depth : ℕ) → IsTable n D → depth ≤ n → InSight D (nra_run_to D depth) depth 0
in_sight n D zero t within = record {
  seen = λ o c. absurd (contains_nil o (each_once_within [] o c));
  unseen = λ o none at l. elim (cases_lt 0 (place_in (list_at D at) o)) [ inl more ↦ inl more | inr le ↦ inr (omega arith, omega arith) ];
  ordered = λ i j d lt in_range. absurd (omega arith);
}
in_sight n D (suc depth) t within =
    place_over D (nra_run_to D (suc depth)) depth
    (sight_block n D D (nra_run_to D depth) depth 0 t (omega arith) (λ i l. let none : i ≡ 0 + i = omega arith in ap (list_at D) none) (omega arith) (in_sight n D depth t (omega arith)))

pub seen_in_order : (n depth : ℕ) (D : List (List Row)) → IsTable n D → depth ≤ n → AllPairs (IsSeenBefore D) (seen_objects (nra_run_to D depth))
seen_in_order n depth D t within = (in_sight n D depth t within).ordered
