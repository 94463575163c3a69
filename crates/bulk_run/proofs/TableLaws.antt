-- What a made table tells as sources.
use Rattle.std.proofs.Common.{◌≡◌, ◌≤◌, ◌+◌, ℕ, suc, Option, Some, None, List, [], ◌∷◌, length, map, All, refl, sym, ap, subst, ◌∙◌, arith}
use Rattle.std.specs.List.{range_with_len}
use Rattle.std.proofs.lemmas.List.{length-map}
use Rattle.std.proofs.lemmas.List.FromFn.{length-range_with_len, length-map-range_with_len, get_or-range_with_len}
use Rattle.ranked_list.specs.declared.row.Row.{Row}
use Rattle.ranked_list.specs.Table.{IsRanked}
use Rattle.topk_theory.specs.Transcript.{list_numbers}
use Rattle.topk_theory.proofs.AgreementLists.{all_from_members, member_of_all, contains_map, contains_map_from}
use Rattle.source_api.specs.Told.{HasEachOnce}
use Rattle.made_inputs.specs.Made.{made_list, made_table}
use Rattle.made_inputs.proofs.Making.{is_table, list_objects}
use Rattle.fetcher.specs.declared.slot.Slot.{Slot}
use Rattle.bulk_run.specs.Held.{Held, AreSmall, fresh_slot, told_rows}
use Rattle.bulk_run.proofs.HeldLaws.{told_whole}

-- ---- the table

pub table_long : (start count lists : ℕ) → length (made_table start count lists) ≡ lists
table_long start count lists = length-map-range_with_len (made_list start count) 0 lists

-- no object of a made list is above the number of its rows
list_small : (start count list : ℕ) → length (made_list start count list) ≡ count → AreSmall (made_list start count list)
list_small start count list long =
    all_from_members (λ (row : Row). row.object ≤ length (made_list start count list)) (made_list start count list) (λ row c.
    let among = list_objects start count list row.object (contains_map (λ (r : Row). r.object) (made_list start count list) row c) in
    let many : length (range_with_len 1 count) ≡ count = length-range_with_len 1 count in
    let at : row.object ≡ 1 + among.0 = sym among.2 ∙ get_or-range_with_len 1 count among.0 row.object (omega (arith, among.1, many)) in
    omega (arith, at, long, among.1, many))

pub table_small : (start count lists : ℕ) → All AreSmall (made_table start count lists)
table_small start count lists =
    let table = is_table start count lists in
    all_from_members AreSmall (made_table start count lists) (λ list c.
    let from = contains_map_from (made_list start count) (list_numbers lists) list c in
    let long : length list ≡ count = member_of_all (λ (rows : List Row). length rows ≡ count) (made_table start count lists) list table.sized c in
    subst AreSmall from.2 (list_small start count from.0 (ap length from.2 ∙ long)))

-- ---- the slots

-- the sources in slots tell the table
told_all : (lists : List (List Row)) → All HasEachOnce lists → map (λ slot. told_rows slot.source) (map fresh_slot lists) ≡ map Some lists
told_all [] h = refl
told_all (list ∷ lists) h =
    ap (λ (told : Option (List Row)). told ∷ map (λ slot. told_rows slot.source) (map fresh_slot lists)) (told_whole list (h 0 list (omega arith)))
    ∙ ap (λ (told : List (Option (List Row))). Some list ∷ told) (told_all lists (λ k d l. h (suc k) d (omega arith)))

pub table_told : (start count lists : ℕ)
    → map (λ slot. told_rows slot.source) (map fresh_slot (made_table start count lists)) ≡ map Some (made_table start count lists)
table_told start count lists =
    told_all (made_table start count lists)
    (all_from_members HasEachOnce (made_table start count lists) (λ list c.
    (member_of_all IsRanked (made_table start count lists) list (is_table start count lists).ranked c).distinct))

-- there are as many slots as lists, and none has a feeder yet
pub slots_long : (start count lists : ℕ) (slots : List (Slot Held)) → slots ≡ map fresh_slot (made_table start count lists) → length slots ≡ lists
slots_long start count lists slots are = ap length are ∙ length-map (made_table start count lists) fresh_slot ∙ table_long start count lists

none_in : (lists : List (List Row)) → All (λ (slot : Slot Held). slot.feeder ≡ None) (map fresh_slot lists)
none_in lists =
    all_from_members (λ (slot : Slot Held). slot.feeder ≡ None) (map fresh_slot lists) (λ slot c.
    let from = contains_map_from fresh_slot lists slot c in sym (ap (λ (one : Slot Held). one.feeder) from.2))

pub none_fed : (start count lists : ℕ) (slots : List (Slot Held)) → slots ≡ map fresh_slot (made_table start count lists)
    → All (λ (slot : Slot Held). slot.feeder ≡ None) slots
none_fed start count lists slots are = subst (All (λ (slot : Slot Held). slot.feeder ≡ None)) (sym are) (none_in (made_table start count lists))
