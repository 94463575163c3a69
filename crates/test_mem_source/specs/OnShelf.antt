-- What the calls on a shelf in memory answer.
use Rattle.std.specs.Prelude.{◌≡◌, ◌==◌, ℕ, Bool, List, Option, Some, None, Result, Ok, Err, length, map, nat_le, if◌then◌else◌}
use Rattle.std.specs.Option.{option_and_then, option_map}
use Rattle.std.specs.List.{list_any}
use Rattle.std.specs.Global.{Vec}
use Rattle.ranked_list.specs.declared.row.Row.{Row}
use Rattle.source_api.specs.declared.source.Trouble.{Trouble}
use Rattle.source_api.specs.declared.source.FailKind.TheVariants.{Failed, Memory}
use Rattle.source_api.specs.declared.source.Trouble.TheVariants.{Fail}
use Rattle.test_mem_source.specs.declared.mem_shelf.HeldText.{HeldText}
use Rattle.test_mem_source.specs.declared.mem_shelf.HeldSource.{HeldSource}
use Rattle.test_mem_source.specs.Stored.{Stored}
use Rattle.test_mem_source.specs.InMemory.{told_list, told_version, unused, next_call}
use Rattle.source_api.specs.Places.{text_limit, IsTextFault, IsTakeFault, IsTaking}
use Rattle.test_mem_source.specs.Shelved.{PlacedText, PlacedSource, Shelved, text_at, source_at}

-- what is held of texts and sources, as places with them
abbrev pub placed_text : HeldText → PlacedText
placed_text held = record { place = held.place.items; text = held.text.items }

abbrev pub placed_source : HeldSource → PlacedSource
placed_source held = record { place = held.place.items; source = held.source }

abbrev pub placed_texts : List HeldText → List PlacedText
placed_texts held = map placed_text held

abbrev pub placed_sources : List HeldSource → List PlacedSource
placed_sources held = map placed_source held

-- whether the number stands among these
abbrev pub is_among : List ℕ → ℕ → Bool
is_among numbers number = list_any (λ n. n == number) numbers

-- the text, where it isn't too long
abbrev pub in_limit : List ℕ → Option (List ℕ)
in_limit text = if nat_le (length text) text_limit then Some text else None

-- the text that the next call for it gives: none where the call is to fail, or the place has no text, or one that is too long
abbrev pub given_text : Shelved → List ℕ → Option (List ℕ)
given_text s place = if is_among s.fail_texts (next_call s.text_calls) then None else option_and_then in_limit (text_at s.texts place)

-- the source that the next call for it gives: none where the call is to fail or the place has no source
abbrev pub given_source : Shelved → List ℕ → Option Stored
given_source s place = if is_among s.fail_takes (next_call s.take_calls) then None else source_at s.sources place

-- the list that a place tells: that of its source
abbrev pub told_at : Shelved → List ℕ → Option (List Row)
told_at s place = option_and_then told_list (source_at s.sources place)

-- the version that a place tells: that of its source
abbrev pub version_at : Shelved → List ℕ → Option ℕ
version_at s place = option_and_then told_version (source_at s.sources place)

-- what a call for a text answers
abbrev pub AnswersText : Shelved → List ℕ → Result (Vec ℕ) Trouble → Type 0
AnswersText s place (Ok text) = given_text s place ≡ Some text.items
AnswersText s place (Err (Fail Failed)) = given_text s place ≡ None
AnswersText s place (Err (Fail Memory)) = Unit {0}
AnswersText s place (Err _) = ⊥

-- what a call for a source answers: a copy that had no call yet
abbrev pub AnswersTake : Shelved → List ℕ → Result Stored Trouble → Type 0
AnswersTake s place (Ok source) = option_map unused (given_source s place) ≡ Some source
AnswersTake s place (Err (Fail Failed)) = given_source s place ≡ None
AnswersTake s place (Err (Fail Memory)) = Unit {0}
AnswersTake s place (Err _) = ⊥

-- after a call for a text that ended so: a call that failed is counted at its place, and lack of memory leaves all as it was
abbrev pub AfterText : Shelved → Shelved → List ℕ → Result (Vec ℕ) Trouble → Type 0
AfterText s now place (Ok text) = now ≡ record s { text_calls = next_call s.text_calls }
AfterText s now place (Err (Fail Failed)) = (now ≡ record s { text_calls = next_call s.text_calls; ledger = now.ledger }) × IsTextFault s.ledger now.ledger place
AfterText s now place (Err (Fail Memory)) = now ≡ s
AfterText s now place (Err _) = ⊥

-- after a call for a source that ended so
abbrev pub AfterTake : Shelved → Shelved → List ℕ → Result Stored Trouble → Type 0
AfterTake s now place (Ok source) = (now ≡ record s { take_calls = next_call s.take_calls; ledger = now.ledger }) × IsTaking s.ledger now.ledger place
AfterTake s now place (Err (Fail Failed)) = (now ≡ record s { take_calls = next_call s.take_calls; ledger = now.ledger }) × IsTakeFault s.ledger now.ledger place
AfterTake s now place (Err (Fail Memory)) = now ≡ s
AfterTake s now place (Err _) = ⊥
