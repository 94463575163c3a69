-- What is kept through each change of the slots.
use Rattle.std.proofs.Common.{◌≡◌, ◌≢◌, inl, inr, ℕ, zero, ◌+◌, ◌<◌, ◌≤◌, List, [], ◌∷◌, ◌++◌, length, get_or, set, Option, Some, None, MatchOption, refl, sym, ap, subst, ◌∙◌, arith, length-append}
use Rattle.std.specs.List.{slice_get}
use Rattle.std.specs.Option.{option_map}
use Rattle.std.specs.Ordering.{nat_cmp}
use Rattle.std.specs.Cmp.{nat_cmp_is}
use Rattle.std.specs.declared.cmp.Ordering.TheVariants.{Greater}
use Rattle.std.specs.declared.cmp.Reverse.{Reverse}
use Rattle.std.proofs.lemmas.Bool.{cases_eq, cases_lt}
use Rattle.std.proofs.lemmas.List.{length-set, get_or-set_same, get_or-set_other}
use Rattle.std.proofs.lemmas.Option.{none-some, same_Some, slice_get_within, slice_get-get_or}
use Rattle.containers.specs.Ranks.{rank_at}
use Rattle.containers.proofs.Getting.{get_set_same, get_set_other, get_last, get_before}
use Rattle.containers.specs.declared.slots.Entry.{Entry}
use Rattle.containers.specs.Slots.{HasNoSlot, IsAt, IsLeast, reversed, KeepsSlots}

-- ---- reading after a write
rank_same : (ranks : List (Option (Reverse ℕ))) (i : ℕ) (rank : Option (Reverse ℕ)) → i < length ranks → rank_at (set ranks i rank) i ≡ rank
rank_same ranks i rank lt = get_or-set_same ranks i rank None lt

rank_other : (ranks : List (Option (Reverse ℕ))) (i j : ℕ) (rank : Option (Reverse ℕ)) → j ≢ i → rank_at (set ranks i rank) j ≡ rank_at ranks j
rank_other ranks i j rank apart = get_or-set_other ranks i j rank None apart

flip : {X : Type 0} {a b : X} → a ≢ b → b ≢ a
flip apart = λ e. apart (sym e)

-- ---- a key has one slot
key_of_slot : (most capacity : ℕ) (entries : List Entry) (ranks : List (Option (Reverse ℕ))) (slots : List (Option ℕ)) (one other : ℕ) (a b : Entry)
    → KeepsSlots most capacity entries ranks slots → slice_get entries one ≡ Some a → slice_get entries other ≡ Some b → a.key ≡ b.key → one ≡ other
key_of_slot most capacity entries ranks slots one other a b keeps at_one at_other same =
    same_Some one other (sym (keeps.slot one a at_one).1 ∙ ap (λ k. get_or slots k None) same ∙ (keeps.slot other b at_other).1)

pub distinct_keys : (most capacity : ℕ) (entries : List Entry) (ranks : List (Option (Reverse ℕ))) (slots : List (Option ℕ))
    → KeepsSlots most capacity entries ranks slots → (one other : ℕ) (a b : Entry) → slice_get entries one ≡ Some a → slice_get entries other ≡ Some b
    → a.key ≡ b.key → one ≡ other
distinct_keys most capacity entries ranks slots keeps = λ one other a b at_one at_other same. key_of_slot most capacity entries ranks slots one other a b keeps at_one at_other same

-- the slot that is kept for a key, if there is one, has it
pub slot_found : (most capacity : ℕ) (entries : List Entry) (ranks : List (Option (Reverse ℕ))) (slots : List (Option ℕ)) (key : ℕ) (found : Option ℕ)
    → KeepsSlots most capacity entries ranks slots → get_or slots key None ≡ found → MatchOption found (HasNoSlot entries key) (IsAt entries key)
slot_found most capacity entries ranks slots key None keeps e = λ slot entry at same. none-some slot (sym e ∙ ap (λ k. get_or slots k None) (sym same) ∙ (keeps.slot slot entry at).1)
slot_found most capacity entries ranks slots key (Some slot) keeps e = keeps.key key slot e

-- ---- a further slot
pub kept_added : (most capacity : ℕ) (entries : List Entry) (ranks : List (Option (Reverse ℕ))) (slots : List (Option ℕ)) (key rank : ℕ)
    → KeepsSlots most capacity entries ranks slots → key < length slots → HasNoSlot entries key → length entries < most
    → KeepsSlots most capacity (entries ++ record { key = key; rank = rank } ∷ []) (set ranks (length entries) (Some (record { 0 = rank }))) (set slots key (Some (length entries)))
kept_added most capacity entries ranks slots key rank keeps lt absent free =
    let new : Entry = record { key = key; rank = rank } in
    let last : ℕ = length entries in
    let size : length (entries ++ new ∷ []) ≡ length entries + 1 = length-append entries (new ∷ []) in
    let slots_size : length (set slots key (Some last)) ≡ length slots = length-set slots key (Some last) in
    record {
      few = keeps.few;
      small = subst (λ n. n ≤ 200000) (sym slots_size) keeps.small;
      reserved = keeps.reserved;
      within = omega arith;
      sized = length-set ranks last (Some (record { 0 = rank })) ∙ keeps.sized;
      ranked = λ slot. elim (cases_eq slot last) [
        | inl e ↦ subst (λ s. rank_at (set ranks last (Some (record { 0 = rank }))) s ≡ option_map reversed (slice_get (entries ++ new ∷ []) s)) (sym e)
            (rank_same ranks last (Some (record { 0 = rank })) (let s = keeps.sized in omega arith) ∙ ap (option_map reversed) (sym (get_last entries new)))
        | inr n ↦ rank_other ranks last slot (Some (record { 0 = rank })) n ∙ keeps.ranked slot ∙ ap (option_map reversed) (sym (get_before entries new slot n))
      ];
      slot = λ slot entry at. elim (cases_eq slot last) [
        | inl e ↦ (
            let is : new ≡ entry = same_Some new entry (sym (get_last entries new) ∙ ap (slice_get (entries ++ new ∷ [])) (sym e) ∙ at) in
            subst (λ (x : Entry). (x.key < length (set slots key (Some last))) × (get_or (set slots key (Some last)) x.key None ≡ Some slot)) is
            (omega arith, get_or-set_same slots key (Some last) None lt ∙ ap (λ s. Some s) (sym e)))
        | inr n ↦ (
            let before : slice_get entries slot ≡ Some entry = sym (get_before entries new slot n) ∙ at in
            let was = keeps.slot slot entry before in
            let small = was.0 in
            (omega arith, get_or-set_other slots key entry.key (Some last) None (absent slot entry before) ∙ was.1))
      ];
      key = λ other slot at. elim (cases_eq other key) [
        | inl e ↦ (
            let is : last ≡ slot = same_Some last slot (sym (get_or-set_same slots key (Some last) None lt) ∙ ap (λ k. get_or (set slots key (Some last)) k None) (sym e) ∙ at) in
            subst (λ k. IsAt (entries ++ new ∷ []) k slot) (sym e) (subst (λ s. IsAt (entries ++ new ∷ []) key s) is (rank, get_last entries new)))
        | inr n ↦ (
            let was = keeps.key other slot (sym (get_or-set_other slots key other (Some last) None n) ∙ at) in
            let within = slice_get_within entries slot _ was.1 in
            (was.0, get_before entries new slot (λ e. let h : ⊥ = omega arith in h) ∙ was.1))
      ];
    }

-- ---- another rank
pub kept_renewed : (most capacity : ℕ) (entries : List Entry) (ranks : List (Option (Reverse ℕ))) (slots : List (Option ℕ)) (at : ℕ) (old : Entry) (rank : ℕ)
    → KeepsSlots most capacity entries ranks slots → slice_get entries at ≡ Some old
    → KeepsSlots most capacity (set entries at (record { key = old.key; rank = rank })) (set ranks at (Some (record { 0 = rank }))) slots
kept_renewed most capacity entries ranks slots at old rank keeps there =
    let new : Entry = record { key = old.key; rank = rank } in
    let lt : at < length entries = slice_get_within entries at old there in
    let size : length (set entries at new) ≡ length entries = length-set entries at new in
    record {
      few = keeps.few;
      small = keeps.small;
      reserved = keeps.reserved;
      within = (let w = keeps.within in omega arith);
      sized = length-set ranks at (Some (record { 0 = rank })) ∙ keeps.sized;
      ranked = λ slot. elim (cases_eq slot at) [
        | inl e ↦ subst (λ s. rank_at (set ranks at (Some (record { 0 = rank }))) s ≡ option_map reversed (slice_get (set entries at new) s)) (sym e)
            (rank_same ranks at (Some (record { 0 = rank })) (let s = keeps.sized in let w = keeps.within in omega arith) ∙ ap (option_map reversed) (sym (get_set_same entries at new lt)))
        | inr n ↦ rank_other ranks at slot (Some (record { 0 = rank })) n ∙ keeps.ranked slot ∙ ap (option_map reversed) (sym (get_set_other entries at slot new n))
      ];
      slot = λ slot entry found. elim (cases_eq slot at) [
        | inl e ↦ (
            let is : new ≡ entry = same_Some new entry (sym (get_set_same entries at new lt) ∙ ap (slice_get (set entries at new)) (sym e) ∙ found) in
            let was = keeps.slot at old there in
            subst (λ (x : Entry). (x.key < length slots) × (get_or slots x.key None ≡ Some slot)) is (was.0, was.1 ∙ ap (λ s. Some s) (sym e)))
        | inr n ↦ keeps.slot slot entry (sym (get_set_other entries at slot new n) ∙ found)
      ];
      key = λ key slot found.
          let was = keeps.key key slot found in
          elim (cases_eq slot at) [
            | inl e ↦ (
                let same : old ≡ record { key = key; rank = was.0 } = same_Some old (record { key = key; rank = was.0 }) (sym there ∙ ap (slice_get entries) (sym e) ∙ was.1) in
                subst (λ k. IsAt (set entries at new) k slot) (ap (λ (x : Entry). x.key) same) (rank, ap (slice_get (set entries at new)) e ∙ get_set_same entries at new lt))
            | inr n ↦ (was.0, get_set_other entries at slot new n ∙ was.1)
          ];
    }

-- ---- a key in place of another
pub kept_replaced : (most capacity : ℕ) (entries : List Entry) (ranks : List (Option (Reverse ℕ))) (slots : List (Option ℕ)) (at : ℕ) (old : Entry)
    (key rank : ℕ)
    → KeepsSlots most capacity entries ranks slots → slice_get entries at ≡ Some old → key < length slots → HasNoSlot entries key
    → KeepsSlots most capacity (set entries at (record { key = key; rank = rank })) (set ranks at (Some (record { 0 = rank }))) (set (set slots old.key None) key (Some at))
kept_replaced most capacity entries ranks slots at old key rank keeps there within absent =
    let new : Entry = record { key = key; rank = rank } in
    let emptied : List (Option ℕ) = set slots old.key None in
    let lt : at < length entries = slice_get_within entries at old there in
    let size : length (set entries at new) ≡ length entries = length-set entries at new in
    let emptied_size : length emptied ≡ length slots = length-set slots old.key None in
    let slots_size : length (set emptied key (Some at)) ≡ length emptied = length-set emptied key (Some at) in
    let own = keeps.slot at old there in
    record {
      few = keeps.few;
      small = subst (λ n. n ≤ 200000) (sym (slots_size ∙ emptied_size)) keeps.small;
      reserved = keeps.reserved;
      within = (let w = keeps.within in omega arith);
      sized = length-set ranks at (Some (record { 0 = rank })) ∙ keeps.sized;
      ranked = λ slot. elim (cases_eq slot at) [
        | inl e ↦ subst (λ s. rank_at (set ranks at (Some (record { 0 = rank }))) s ≡ option_map reversed (slice_get (set entries at new) s)) (sym e)
            (rank_same ranks at (Some (record { 0 = rank })) (let s = keeps.sized in let w = keeps.within in omega arith) ∙ ap (option_map reversed) (sym (get_set_same entries at new lt)))
        | inr n ↦ rank_other ranks at slot (Some (record { 0 = rank })) n ∙ keeps.ranked slot ∙ ap (option_map reversed) (sym (get_set_other entries at slot new n))
      ];
      slot = λ slot entry found. elim (cases_eq slot at) [
        | inl e ↦ (
            let is : new ≡ entry = same_Some new entry (sym (get_set_same entries at new lt) ∙ ap (slice_get (set entries at new)) (sym e) ∙ found) in
            subst (λ (x : Entry). (x.key < length (set emptied key (Some at))) × (get_or (set emptied key (Some at)) x.key None ≡ Some slot)) is
            (omega arith, get_or-set_same emptied key (Some at) None (omega arith) ∙ ap (λ s. Some s) (sym e)))
        | inr n ↦ (
            let before : slice_get entries slot ≡ Some entry = sym (get_set_other entries at slot new n) ∙ found in
            let was = keeps.slot slot entry before in
            let small = was.0 in
            let other : entry.key ≢ old.key = λ e. n (key_of_slot most capacity entries ranks slots slot at entry old keeps before there e) in
            (omega arith, get_or-set_other emptied key entry.key (Some at) None (absent slot entry before) ∙ get_or-set_other slots old.key entry.key None None other ∙ was.1))
      ];
      key = λ k slot found. elim (cases_eq k key) [
        | inl e ↦ (
            let is : at ≡ slot = same_Some at slot (sym (get_or-set_same emptied key (Some at) None (omega arith)) ∙ ap (λ x. get_or (set emptied key (Some at)) x None) (sym e) ∙ found) in
            subst (λ x. IsAt (set entries at new) x slot) (sym e) (subst (λ s. IsAt (set entries at new) key s) is (rank, get_set_same entries at new lt)))
        | inr n ↦ (
            let in_emptied : get_or emptied k None ≡ Some slot = sym (get_or-set_other emptied key k (Some at) None n) ∙ found in
            elim (cases_eq k old.key) [
              | inl e ↦ absurd (none-some slot (sym (get_or-set_same slots old.key None None own.0) ∙ ap (λ x. get_or emptied x None) (sym e) ∙ in_emptied))
              | inr m ↦ (
                  let was = keeps.key k slot (sym (get_or-set_other slots old.key k None None m) ∙ in_emptied) in
                  let apart : slot ≢ at = λ e. m (sym (ap (λ (x : Entry). x.key) (same_Some old (record { key = k; rank = was.0 }) (sym there ∙ ap (slice_get entries) (sym e) ∙ was.1)))) in
                  (was.0, get_set_other entries at slot new apart ∙ was.1))
            ])
      ];
    }

-- ---- what the calls keep, by the equations that they have
pub added : (most capacity capacity_now : ℕ) (entries entries_now : List Entry) (ranks ranks_now : List (Option (Reverse ℕ))) (slots : List (Option ℕ))
    (key rank last : ℕ)
    → KeepsSlots most capacity entries ranks slots → key < length slots → HasNoSlot entries key → length entries < most → last ≡ length entries → capacity ≤ capacity_now
    → entries_now ≡ entries ++ record { key = key; rank = rank } ∷ [] → ranks_now ≡ set ranks last (Some (record { 0 = rank }))
    → KeepsSlots most capacity_now entries_now ranks_now (set slots key (Some last))
added most capacity capacity_now entries entries_now ranks ranks_now slots key rank last keeps lt absent free is_last wider entries_are ranks_are =
    let k = kept_added most capacity entries ranks slots key rank keeps lt absent free in
    let k1 : KeepsSlots most capacity entries_now (set ranks (length entries) (Some (record { 0 = rank }))) (set slots key (Some (length entries))) = subst (λ es. KeepsSlots most capacity es (set ranks (length entries) (Some (record { 0 = rank }))) (set slots key (Some (length entries)))) (sym entries_are) k in
    let k2 : KeepsSlots most capacity entries_now (set ranks last (Some (record { 0 = rank }))) (set slots key (Some last)) = subst (λ n. KeepsSlots most capacity entries_now (set ranks n (Some (record { 0 = rank }))) (set slots key (Some n))) (sym is_last) k1 in
    let k3 : KeepsSlots most capacity entries_now ranks_now (set slots key (Some last)) = subst (λ rs. KeepsSlots most capacity entries_now rs (set slots key (Some last))) (sym ranks_are) k2 in
    record {
      few = k3.few;
      small = k3.small;
      reserved = (let r = k3.reserved in omega arith);
      within = k3.within;
      sized = k3.sized;
      ranked = k3.ranked;
      slot = k3.slot;
      key = k3.key;
    }

-- what stands at a slot, as it was read
pub at_slot : (entries : List Entry) (slot : ℕ) (read : Entry) → slot < length entries → read ≡ get_or entries slot read → slice_get entries slot ≡ Some read
at_slot entries slot read lt is = slice_get-get_or entries slot read lt ∙ ap (λ e. Some e) (sym is)

pub renewed : (most capacity : ℕ) (entries : List Entry) (ranks ranks_now : List (Option (Reverse ℕ))) (slots : List (Option ℕ)) (at : ℕ) (old : Entry)
    (rank : ℕ)
    → KeepsSlots most capacity entries ranks slots → at < length entries → old ≡ get_or entries at old → ranks_now ≡ set ranks at (Some (record { 0 = rank }))
    → KeepsSlots most capacity (set entries at (record { key = old.key; rank = rank })) ranks_now slots
renewed most capacity entries ranks ranks_now slots at old rank keeps lt is ranks_are =
    subst (λ rs. KeepsSlots most capacity (set entries at (record { key = old.key; rank = rank })) rs slots) (sym ranks_are)
    (kept_renewed most capacity entries ranks slots at old rank keeps (at_slot entries at old lt is))

pub replaced : (most capacity : ℕ) (entries : List Entry) (ranks ranks_now : List (Option (Reverse ℕ))) (slots : List (Option ℕ)) (at : ℕ) (old : Entry)
    (key rank : ℕ)
    → KeepsSlots most capacity entries ranks slots → at < length entries → old ≡ get_or entries at old → key < length slots → HasNoSlot entries key
    → ranks_now ≡ set ranks at (Some (record { 0 = rank }))
    → KeepsSlots most capacity (set entries at (record { key = key; rank = rank })) ranks_now (set (set slots old.key None) key (Some at))
replaced most capacity entries ranks ranks_now slots at old key rank keeps lt is within absent ranks_are =
    subst (λ rs. KeepsSlots most capacity (set entries at (record { key = key; rank = rank })) rs (set (set slots old.key None) key (Some at))) (sym ranks_are)
    (kept_replaced most capacity entries ranks slots at old key rank keeps (at_slot entries at old lt is) within absent)

-- ---- the least
known_entry : (found : Option Entry) (rank : Reverse ℕ) → option_map reversed found ≡ Some rank → (entry : Entry) × (found ≡ Some entry) × (entry.rank ≡ rank.0)
known_entry None rank e = absurd (none-some rank e)
known_entry (Some entry) rank e = (entry, refl, ap (λ (r : Reverse ℕ). r.0) (same_Some (reversed entry) rank e))

pub no_greater : (a b : ℕ) → nat_cmp a b ≢ Greater → a ≤ b
no_greater a b none = elim (cases_lt b a) [ inl lt ↦ absurd (none (sym (nat_cmp_is a b Greater lt))) | inr upto ↦ upto ]

pub least_found : (most capacity : ℕ) (entries : List Entry) (ranks : List (Option (Reverse ℕ))) (slots : List (Option ℕ)) (slot : ℕ) (rank : Reverse ℕ)
    → KeepsSlots most capacity entries ranks slots → rank_at ranks slot ≡ Some rank
    → ((other : ℕ) (another : Reverse ℕ) → rank_at ranks other ≡ Some another → nat_cmp rank.0 another.0 ≢ Greater) → IsLeast entries slot
least_found most capacity entries ranks slots slot rank keeps there none_above =
    let own = known_entry (slice_get entries slot) rank (sym (keeps.ranked slot) ∙ there) in
    record {
      entry = own.0;
      there = own.1;
      least = λ other another at. (
          let upto = no_greater rank.0 another.rank (none_above other (reversed another) (keeps.ranked other ∙ ap (option_map reversed) at)) in
          let is = own.2 in
          omega arith);
    }

pub none_found : (most capacity : ℕ) (entries : List Entry) (ranks : List (Option (Reverse ℕ))) (slots : List (Option ℕ))
    → KeepsSlots most capacity entries ranks slots → ((slot : ℕ) → rank_at ranks slot ≡ None) → entries ≡ []
none_found most capacity [] ranks slots keeps none = refl
none_found most capacity (first ∷ rest) ranks slots keeps none = absurd (none-some (reversed first) (sym (none zero) ∙ keeps.ranked zero))

-- what was read at a place, whatever stands for none
pub get_or_any : (slots : List (Option ℕ)) (key : ℕ) (read : Option ℕ) → key < length slots → read ≡ get_or slots key read → get_or slots key None ≡ read
get_or_any slots key read lt is = same_Some (get_or slots key None) read (sym (slice_get-get_or slots key None lt) ∙ slice_get-get_or slots key read lt ∙ ap (λ r. Some r) (sym is))
