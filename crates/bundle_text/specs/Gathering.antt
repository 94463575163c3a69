-- The gathering of a bundle from lists in memory, as the crate's inner functions do it, beside the reading of the lines that they print as.
use Rattle.std.specs.Prelude.{◌≡◌, ◌≢◌, ◌≤◌, ◌+◌, ◌*◌, ◌^◌, ◌⊎◌, ℕ, List, [], ◌∷◌, ◌++◌, length, All, true}
use Rattle.std.specs.List.{flat_map}
use Rattle.std.specs.declared.result.Result.{Result}
use Rattle.std.specs.declared.result.Result.TheVariants.{Ok, Err}
use Rattle.bundle_text.specs.declared.given.GivenList.{GivenList}
use Rattle.bundle_text.specs.declared.reader.Reader.{Reader}
use Rattle.bundle_text.specs.declared.bundle.Bundle.{Bundle}
use Rattle.bundle_text.specs.declared.bundle.BundleFault.{BundleFault}
use Rattle.bundle_text.specs.declared.bundle.BundleFault.TheVariants.{BadBundle, Memory}
use Rattle.bundle_text.specs.Bundle.{Content, IsBundle, content, section, query_line}
use Rattle.bundle_text.specs.Given.{rows_given}
use Rattle.bundle_text.specs.Reading.{InsideList, read_on, read_all, is_whole, with_query}
use Rattle.bundle_text.specs.Tracking.{front_of, IsTracked}

-- the lines of lists
abbrev pub lines_given : List GivenList → List (List ℕ)
lines_given lists = flat_map (λ list. section list.name.now (rows_given list.rows.now)) lists

-- the number of the line after a front is far from the greatest
abbrev pub IsCounted : InsideList → ℕ → Type 0
IsCounted front number = number ≤ length front.closed * 2 ^ 33 + length front.rows + 2

-- lines that were taken in after a front: whatever lines follow, the reading of them goes on after the reader's front
pub record HasTaken (ls : List (List ℕ)) (front : InsideList) (from : ℕ) (reader : Reader) (next : ℕ) : Type 0 where
  pub tracked : IsTracked reader
  pub counted : IsCounted (front_of reader) next
  pub number : next ≡ from + length ls
  pub goes : (rest : List (List ℕ)) → read_on front from (ls ++ rest) ≡ read_on (front_of reader) next rest

-- lines are taken in after a front, or the reading of them stops at this line, whatever lines follow
abbrev pub TakesLines : List (List ℕ) → InsideList → ℕ → Reader → Result ℕ BundleFault → Type 0
TakesLines ls front from reader (Ok next) = HasTaken ls front from reader next
TakesLines ls front from reader (Err (BadBundle line)) = (rest : List (List ℕ)) → read_on front from (ls ++ rest) ≡ Err line
TakesLines ls front from reader (Err Memory) = Unit {0}

-- a front and a query make a bundle, unless the front isn't whole or the query has an LF, or memory was refused
abbrev pub EndsGathering : InsideList → ℕ → List ℕ → Result Bundle BundleFault → Type 0
EndsGathering front number query (Ok bundle) = (is_whole front ≡ true) × All (λ byte. byte ≢ 10) query × (content bundle ≡ with_query front query)
EndsGathering front number query (Err (BadBundle line)) =
    (line ≡ number) × (is_whole front ≡ true → All (λ byte. byte ≢ 10) query → ⊥)
EndsGathering front number query (Err Memory) = Unit {0}

-- the reading of lines of lists stops at this line, whatever lines follow; or all of them are read, and with the query's line they spell no bundle
abbrev pub StopsGathering : List (List ℕ) → List ℕ → ℕ → Type 0
StopsGathering ls query line =
    ((rest : List (List ℕ)) → read_all (ls ++ rest) ≡ Err line)
    ⊎ ((line ≡ length ls + 1) × (read_all ls ≡ Err line)
    × ((rest : List (List ℕ)) (c : Content) → read_all (ls ++ query_line query ∷ rest) ≡ Ok c → IsBundle c → ⊥))

-- lines of lists and a query are gathered as they are read, or memory was refused
abbrev pub IsGathered : List (List ℕ) → List ℕ → Result Bundle BundleFault → Type 0
IsGathered ls query (Ok bundle) = (read_all (ls ++ query_line query ∷ []) ≡ Ok (content bundle)) × All (λ byte. byte ≢ 10) query
IsGathered ls query (Err (BadBundle line)) = StopsGathering ls query line
IsGathered ls query (Err Memory) = Unit {0}
