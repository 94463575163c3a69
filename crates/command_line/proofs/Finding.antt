-- What `clap` finds in words that a process was given.
use Rattle.std.proofs.Common.{◌≡◌, ℕ, Err, true, List, [], ◌∷◌, map, subst, inl, inr}
use Rattle.std.specs.Prelude.{string_bytes, String}
use Rattle.std.proofs.lemmas.Str.{IsUtf8-string_bytes}
use Rattle.clap.specs.Words.{App, Row, fault_of, matches_of, is_simple, is_simple_and_free, HasKind, IsAmong, kind_of}
use Rattle.clap.specs.declared.error.Error.{Error}
use Rattle.clap.specs.declared.error.kind.ErrorKind.TheVariants as kind
use Rattle.std.specs.declared.result.Result.{Result}
use Rattle.command_line.specs.declared.fault.WordsFault.{WordsFault}
use Rattle.command_line.specs.declared.fault.WordsFault.TheVariants.{BadWords, Memory}
use Rattle.command_line.specs.Finding.{AllUtf8, Finds, Refuses}

-- the words of a process are texts
all_utf8 : {Z : Type 0} (words : List (String Z)) → AllUtf8 (map string_bytes words)
all_utf8 [] = tt
all_utf8 (word ∷ words) = (IsUtf8-string_bytes word, all_utf8 words)

finds_here : {Z : Type 0} (app : App) (strings : List (String Z)) (rows : List Row)
    → (is_simple_and_free app ≡ true → fault_of app (map string_bytes strings) ≡ [])
    → (is_simple app ≡ true → rows ≡ matches_of app (map string_bytes strings)) → Finds app (map string_bytes strings) rows
finds_here app strings rows faultless are = record { texts = all_utf8 strings; faultless = faultless; are = are }

refuses_here : {Z : Type 0} (app : App) (strings : List (String Z)) (e : Error)
    → (is_simple_and_free app ≡ true → HasKind (fault_of app (map string_bytes strings)) e) → (kind_of e ≡ kind.OutOfMemory → ⊥)
    → Refuses app (map string_bytes strings)
refuses_here app strings e refused other = record {
  texts = all_utf8 strings;
  faulty = λ free none. elim (refused free) [
    | inl memory ↦ absurd (other memory)
    | inr among ↦ absurd (subst (IsAmong (kind_of e)) none among)
  ];
}

pub finds : {Z : Type 0} (app plain : App) (words : List (List ℕ)) (strings : List (String Z)) (rows : List Row) → app ≡ plain
    → map string_bytes strings ≡ words
    → (is_simple_and_free app ≡ true → fault_of app (map string_bytes strings) ≡ [])
    → (is_simple app ≡ true → rows ≡ matches_of app (map string_bytes strings)) → Finds plain words rows
finds app plain words strings rows is same faultless are =
    subst (λ ts. Finds plain ts rows) same (subst (λ a. Finds a (map string_bytes strings) rows) is (finds_here app strings rows faultless are))

pub refuses : {Z : Type 0} (app plain : App) (words : List (List ℕ)) (strings : List (String Z)) (e : Error) → app ≡ plain
    → map string_bytes strings ≡ words
    → (is_simple_and_free app ≡ true → HasKind (fault_of app (map string_bytes strings)) e) → (kind_of e ≡ kind.OutOfMemory → ⊥)
    → Refuses plain words
refuses app plain words strings e is same refused other =
    subst (Refuses plain) same (subst (λ a. Refuses a (map string_bytes strings)) is (refuses_here app strings e refused other))

-- a lack of memory is no refusal
pub memory_apart : {A P : Type 0} (result : Result A WordsFault) → result ≡ Err Memory → result ≡ Err BadWords → P
memory_apart result is e = absurd cc
