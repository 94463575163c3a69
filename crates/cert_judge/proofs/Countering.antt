-- The table against an object, whole.
use Rattle.std.proofs.Common.{◌≡◌, ◌∙◌, ◌<◌, ℕ, List, map, Contains, ap, sym, subst, refl}
use Rattle.ranked_list.specs.declared.row.Row.{Row}
use Rattle.topk_theory.specs.Transcript.{IsTame, named_objects, seen_objects, sorted_rows, list_numbers}
use Rattle.topk_theory.specs.Fixes.{IsObjectSet}
use Rattle.topk_theory.specs.Adversary.{object_set, chosen, against, filled, completed, counter_table}
use Rattle.topk_theory.proofs.Agreement.{seen_is_named}
use Rattle.topk_theory.proofs.Adversary.{holds_against}
use Rattle.std.proofs.lemmas.List.Elements.{Contains-append_left}
use Rattle.access_log.specs.Log.{Log, IsConsistent}
use Rattle.cert_judge.specs.Deciding.{judged_objects}
use Rattle.cert_judge.specs.CounterTable.{IsCounterTable}
use Rattle.cert_judge.proofs.Tame.{named_is_seen}
use Rattle.cert_judge.proofs.TellingTables.{judged_may_be}

same_set : (log : Log) (objects : List ℕ) → IsTame log.accesses → objects ≡ object_set log.count (seen_objects log.accesses) → objects ≡ judged_objects log
same_set log objects tame e = e ∙ ap (object_set log.count) (sym (named_is_seen log.accesses tame))

pub set_is : (log : Log) (objects : List ℕ) → IsTame log.accesses → 0 < log.lists → IsConsistent log
    → objects ≡ object_set log.count (seen_objects log.accesses) → IsObjectSet log.count objects
set_is log objects tame lists some e = subst (IsObjectSet log.count) (sym (same_set log objects tame e)) (judged_may_be log lists some).is_set

pub counter_is : (log : Log) (inside : ℕ) (objects : List ℕ) (D : List (List Row)) → IsTame log.accesses → Contains (seen_objects log.accesses) inside
    → 0 < log.lists → IsConsistent log
    → objects ≡ object_set log.count (seen_objects log.accesses)
    → D ≡ map (λ list. filled (chosen (against inside log.accesses) log.accesses list) objects (sorted_rows list log.accesses)) (list_numbers log.lists) → IsCounterTable log inside D
counter_is log inside objects D tame seen lists some e d =
    let A = log.accesses in
    let exact : D ≡ counter_table log.lists log.count A inside = d ∙ ap (λ O. completed (against inside A) O log.lists A) (same_set log objects tame e) in
    let there : Contains (judged_objects log) inside = Contains-append_left (named_objects A) _ inside (seen_is_named A inside seen) in
    let holds = λ (V : List ℕ → ℕ). holds_against V log.lists log.count A (judged_objects log) inside lists some (judged_may_be log lists some) in
    let table : IsCounterTable log inside (counter_table log.lists log.count A inside) = record {
      exact = refl;
      agrees = (holds (λ x. 0)).agrees;
      over = (holds (λ x. 0)).over;
      inside_has = λ V. (holds V).lowest there;
      others_have = λ V. (holds V).highest;
    } in
    subst (IsCounterTable log inside) (sym exact) table
