-- Where a list stands that passes a test, and where none does.
use Rattle.std.proofs.Common.{◌≡◌, ℕ, zero, suc, ◌+◌, ◌<◌, ◌≤◌, Bool, true, false, not, nat_lt, cond, List, [], ◌∷◌, length, Option, Some, None, is_none, slice_index_or, refl, sym, ◌∙◌, subst, arith}
use Rattle.std.specs.List.{position, position_or_len}
use Rattle.std.proofs.lemmas.List.Quantifiers.{position-Some}
use Rattle.std.proofs.lemmas.Bool.{ltb-false}
use Rattle.query_text.proofs.ListLaws.{none_is}
use Rattle.query_admission.specs.View.{most_objects, size_passes, is_closed, is_large, size_stated, count_of}
use Rattle.query_admission.specs.declared.lists.ListInfo.{ListInfo}

-- a list of which nothing is known
abbrev pub nothing : ListInfo
nothing = record { size = None; random = false; sorted = false; source = 0; version = 0 }

-- a place that is found is within the lists, and what stands there passes
pub found_within : (test : ListInfo → Bool) (lists : List ListInfo) (place : ℕ) → position test lists ≡ Some place → place < length lists
found_within test lists place e = (position-Some test lists place nothing e).0

pub found_passes : (test : ListInfo → Bool) (lists : List ListInfo) (place : ℕ) → position test lists ≡ Some place
    → test (slice_index_or lists place nothing) ≡ true
found_passes test lists place e = (position-Some test lists place nothing e).1

-- where none is found none passes
none_passes : (test : ListInfo → Bool) (lists : List ListInfo) (place : ℕ) → length lists ≤ position_or_len test lists → place < length lists
    → test (slice_index_or lists place nothing) ≡ false
none_passes test [] place h l = absurd (omega arith)
none_passes test (list ∷ lists) zero h l = by_test (test list) refl h
  where
    by_test : (b : Bool) → test list ≡ b → suc (length lists) ≤ cond (not b) (1 + position_or_len test lists) 0 → test list ≡ false
    by_test true is h = absurd (omega arith)
    by_test false is h = is
none_passes test (list ∷ lists) (suc place) h l = none_passes test lists place (by_test (test list) h) (omega arith)
  where
    by_test : (b : Bool) → suc (length lists) ≤ cond (not b) (1 + position_or_len test lists) 0 → length lists ≤ position_or_len test lists
    by_test true h = absurd (omega arith)
    by_test false h = omega arith

pub none_at : (test : ListInfo → Bool) (lists : List ListInfo) (place : ℕ) → position test lists ≡ None → place < length lists
    → test (slice_index_or lists place nothing) ≡ false
none_at test lists place e l = none_passes test lists place (none_is (position_or_len test lists) (length lists) e) l

-- a size that passes a test is stated
pub passing_stated : (test : ℕ → Bool) (size : Option ℕ) → size_passes test size ≡ true → size ≡ None → ⊥
passing_stated test None e none = absurd cc
passing_stated test (Some size) e none = absurd cc

-- a list that isn't large states a small size
pub small_size : (lists : List ListInfo) (place size : ℕ) → position is_large lists ≡ None → place < length lists
    → (slice_index_or lists place nothing).size ≡ Some size → size ≤ most_objects
small_size lists place size e l stated =
    let passes : size_passes (nat_lt most_objects) (slice_index_or lists place nothing).size ≡ false = none_at is_large lists place e l in
    ltb-false most_objects size (subst (λ s. size_passes (nat_lt most_objects) s ≡ false) stated passes)

-- the size at a place within the lists
pub size_there : (lists : List ListInfo) (place : ℕ) → place < length lists → size_stated lists place ≡ (slice_index_or lists place nothing).size
size_there [] place l = absurd (omega arith)
size_there (list ∷ lists) zero l = refl
size_there (list ∷ lists) (suc place) l = size_there lists place (omega arith)

-- where each list was opened there is a count
stated_or_not : (size : Option ℕ) → is_none size ≡ false → size ≡ None → ⊥
stated_or_not None e none = absurd cc
stated_or_not (Some size) e none = absurd cc

pub count_there : (lists : List ListInfo) → 0 < length lists → position is_closed lists ≡ None → count_of lists ≡ None → ⊥
count_there lists some e none =
    let opened : is_none (slice_index_or lists 0 nothing).size ≡ false = none_at is_closed lists 0 e some in
    stated_or_not (slice_index_or lists 0 nothing).size opened (sym (size_there lists 0 some) ∙ none)
