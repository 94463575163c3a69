-- The first cause that lies in a query's lists.
use Rattle.std.proofs.Common.{◌≡◌, ℕ, ◌<◌, List, [], ◌∷◌, ◌++◌, length, All, Option, Some, None, Err, sym, subst, arith}
use Rattle.std.specs.Prelude.{is_some, if◌then◌else◌}
use Rattle.std.specs.List.{AllByRecursion, position}
use Rattle.std.proofs.lemmas.List.Elements.{All-from_recursion}
use Rattle.query_text.specs.declared.query.Query.{Query}
use Rattle.query_text.specs.declared.algorithm.Algorithm.{Algorithm}
use Rattle.query_text.specs.declared.algorithm.Algorithm.TheVariants.{Ta, Nra, Ca, Fa, Theta, Early, Taz}
use Rattle.cert_text.specs.declared.refusal.Refusal.{Refusal}
use Rattle.cert_text.specs.Refusal.{refused_lists}
use Rattle.query_admission.specs.View.{is_closed, is_large, differs, lacks_random, lacks_sorted, offers_sorted, unread_list}
use Rattle.query_admission.specs.Causes.{Cause, ListsGive, NoneOf}
use Rattle.query_admission.specs.Screening.{Screens, list_causes}
use Rattle.query_admission.specs.declared.lists.ListInfo.{ListInfo}
use Rattle.query_admission.proofs.Positions.{found_within}

-- the list for which others can't be read is one of them
none_within : (found : Option ℕ) (n list : ℕ) → 0 < n → (if is_some found then None else Some 0) ≡ Some list → list < n
none_within None n list some e = let first : list ≡ 0 = cc in omega (arith, some)
none_within (Some place) n list some e = absurd cc

pub unread_within : (algorithm : Algorithm) (lists : List ListInfo) (list : ℕ) → 0 < length lists → unread_list algorithm lists ≡ Some list → list < length lists
unread_within Ta lists list some e = found_within lacks_sorted lists list e
unread_within Nra lists list some e = found_within lacks_sorted lists list e
unread_within Ca lists list some e = found_within lacks_sorted lists list e
unread_within Fa lists list some e = found_within lacks_sorted lists list e
unread_within (Theta p q) lists list some e = found_within lacks_sorted lists list e
unread_within (Early depth) lists list some e = found_within lacks_sorted lists list e
unread_within Taz lists list some e = none_within (position offers_sorted lists) (length lists) list some e

-- the lists that a refusal names are lists of the query
pub lists_named : (q : Query) (lists : List ListInfo) (cause : Cause) (refusal : Refusal) → 0 < length lists → ListsGive q lists cause refusal
    → All (λ list. list < length lists) (refused_lists refusal)
lists_named q lists Cause.many_queries refusal some h = absurd h
lists_named q lists Cause.text refusal some h = absurd h
lists_named q lists Cause.unknown_list refusal some h = absurd h
lists_named q lists Cause.room_full refusal some h = absurd h
lists_named q lists Cause.not_opened refusal some h =
    subst (λ r. All (λ list. list < length lists) (refused_lists r)) (sym h.1)
    (All-from_recursion (λ list. list < length lists) (h.0 ∷ []) (found_within is_closed lists h.0 h.2, tt))
lists_named q lists Cause.too_large refusal some h =
    subst (λ r. All (λ list. list < length lists) (refused_lists r)) (sym h.2)
    (All-from_recursion (λ list. list < length lists) (h.0 ∷ []) (found_within is_large lists h.0 h.3, tt))
lists_named q lists Cause.counts_differ refusal some h =
    subst (λ r. All (λ list. list < length lists) (refused_lists r)) (sym h.3)
    (All-from_recursion (λ list. list < length lists) (0 ∷ h.1 ∷ []) (some, (found_within (differs h.0) lists h.1 h.5, tt)))
lists_named q lists Cause.k_above_count refusal some h =
    subst (λ r. All (λ list. list < length lists) (refused_lists r)) (sym h.1) (All-from_recursion (λ list. list < length lists) [] tt)
lists_named q lists Cause.no_random refusal some h =
    subst (λ r. All (λ list. list < length lists) (refused_lists r)) (sym h.1)
    (All-from_recursion (λ list. list < length lists) (h.0 ∷ []) (found_within lacks_random lists h.0 h.3, tt))
lists_named q lists Cause.no_sorted refusal some h =
    subst (λ r. All (λ list. list < length lists) (refused_lists r)) (sym h.1)
    (All-from_recursion (λ list. list < length lists) (h.0 ∷ []) (unread_within q.algorithm lists h.0 some h.2, tt))

-- a cause that holds after others that don't is the first
pub first_cause : (q : Query) (lists : List ListInfo) (cause : Cause) (earlier later : List Cause) (refusal : Refusal) → list_causes ≡ earlier ++ cause ∷ later
    → 0 < length lists
    → AllByRecursion (λ other. (any : Refusal) → ¬ ListsGive q lists other any) earlier → ListsGive q lists cause refusal → Screens q lists (Err refusal)
first_cause q lists cause earlier later refusal order some none gives = (
  record {
    cause = cause;
    earlier = earlier;
    later = later;
    order = order;
    gives = gives;
    first = All-from_recursion (λ other. (any : Refusal) → ¬ ListsGive q lists other any) earlier none;
  },
  lists_named q lists cause refusal some gives,
)

-- where none of them holds there is none
pub no_cause : (q : Query) (lists : List ListInfo) → AllByRecursion (λ other. (any : Refusal) → ¬ ListsGive q lists other any) list_causes
    → NoneOf (ListsGive q lists) list_causes
no_cause q lists none = All-from_recursion (λ other. (any : Refusal) → ¬ ListsGive q lists other any) list_causes none
