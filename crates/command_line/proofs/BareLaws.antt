-- What `clap` takes for a command without words is no word, but maybe the one that ends the options.
use Rattle.std.proofs.Common.{◌≡◌, ℕ, Bool, true, false, zero, suc, List, [], ◌∷◌, length, drop, Option, Some, None, refl, sym, subst}
use Rattle.std.specs.Prelude.{is_some, slice_get, if◌then◌else◌}
use Rattle.std.specs.Option.{option_map_or}
use Rattle.std.specs.Str.{bytes_eq, chars}
use Rattle.std.proofs.lemmas.Bool.{false≢true}
use Rattle.std.proofs.lemmas.Slice.Eq.{bytes_eq-Decides}
use Rattle.clap.specs.Lexer.{long_of, short_of}
use Rattle.clap.specs.Kinds.{Kinds, or_else}
use Rattle.clap.specs.Walk.{Row, Text, Walk, Held, Step, walk, walk_from, nothing_held, walked, long_or_other, short_or_plain, after_flag, bundle_met, bundle_step, settled, finished}
use Rattle.clap.specs.Walk.Outcome.{plain}
use Rattle.clap.specs.Walk.Step.{trailing}
use Rattle.clap.specs.Walk.Waiting.{idle}
use Rattle.clap.specs.Simple.{Shape, built, entered}
use Rattle.clap.specs.Faults.{built_fault, bundle_step_fault, check_fault, defaults_fault, entered_fault, flag_word_fault, flags_fault, bundle_fault, is_simple_and_free, settle_fault, step_fault, turn_fault, walk_fault}
use Rattle.clap.proofs.OnLiterals.{clap_on_literals}
use Rattle.command_line.specs.Commands.{are_no_words, options_end}
use Rattle.command_line.specs.Apps.{bare_app}
use Rattle.command_line.specs.Finding.{Finds, Refuses}
use Rattle.command_line.proofs.Walking.{first_faulty}

-- there is a fault
abbrev HasFault : Kinds → Type 0
HasFault [] = ⊥
HasFault (k ∷ ks) = Unit {0}

abbrev bare : Shape
bare = (built bare_app).top

-- before the first word, and behind the word that ends the options
abbrev fresh : Walk
fresh = walk_from nothing_held

abbrev behind : Walk
behind = record fresh { is_trailing = true }

-- behind that word each word is one too many
behind_faulty : (word : Text) → HasFault (turn_fault bare [] behind word)
behind_faulty word = tt

-- the fault of a word, where its test came so and it was met so
abbrev fault_at : Kinds → Held × Step → Kinds
fault_at word met = or_else word (step_fault bare 1 met.0 met.1)

-- a bundle of options names none
char_faulty : (word flags : Text) (k : ℕ) (c : Option ℕ)
    → HasFault (fault_at (bundle_step_fault [] false c flags zero nothing_held (flags_fault [] false k)) (after_flag [] idle word (bundle_step [] c flags zero plain nothing_held (bundle_met [] k)).0 (bundle_step [] c flags zero plain nothing_held (bundle_met [] k)).1))
char_faulty word flags k None = tt
char_faulty word flags k (Some x) = tt

bundle_faulty : (word flags : Text) (n : ℕ)
    → HasFault (fault_at (flags_fault [] false n flags 0 nothing_held) (after_flag [] idle word (bundle_met [] n flags 0 plain nothing_held).0 (bundle_met [] n flags 0 plain nothing_held).1))
unfolding flags_fault bundle_met
bundle_faulty word flags zero = tt
bundle_faulty word flags (suc k) = char_faulty word flags k (slice_get (chars flags) 0)

short_faulty : (word : Text) (flags : Option Text)
    → HasFault (fault_at (option_map_or (λ flags. bundle_fault [] false flags nothing_held) flags []) (short_or_plain [] idle word flags nothing_held))
short_faulty word None = tt
short_faulty word (Some flags) = bundle_faulty word flags (length flags)

-- a long option is none, and no other word is taken
long_faulty : (word : Text) (name : Option (Text × Option Text))
    → HasFault (fault_at (flag_word_fault [] false name word nothing_held) (long_or_other [] idle word name nothing_held))
long_faulty word None = short_faulty word (short_of word)
long_faulty word (Some p) = tt

test_faulty : (word : Text) (ends : Bool) → ends ≡ false
    → HasFault (fault_at (if ends then [] else flag_word_fault [] false (long_of word) word nothing_held) (if ends then (nothing_held, trailing 1) else long_or_other [] idle word (long_of word) nothing_held))
test_faulty word true is = absurd (false≢true (sym is))
test_faulty word false is = long_faulty word (long_of word)

-- so a word that doesn't end the options is one too many, or no option
fresh_faulty : (word : Text) → bytes_eq word options_end ≡ false → HasFault (turn_fault bare [] fresh word)
fresh_faulty word other = test_faulty word (bytes_eq word options_end) other

same_text : (word : Text) → bytes_eq word options_end ≡ true → word ≡ options_end
same_text word is = (bytes_eq-Decides word options_end).0 is

walk_behind : (next : Text) (rest : List Text) → HasFault (walk_fault bare [] fresh (options_end ∷ next ∷ rest))
unfolding walk_fault walked
walk_behind next rest = first_faulty (turn_fault bare [] behind next) (walk_fault bare [] (walked bare.rules [] behind next) rest) (behind_faulty next)

walk_faulty : (words : List Text) → are_no_words words ≡ false → HasFault (walk_fault bare [] fresh words)
unfolding walk_fault
walk_faulty [] some = absurd (false≢true (sym some))
walk_faulty (word ∷ []) some = first_faulty (turn_fault bare [] fresh word) (walk_fault bare [] (walked bare.rules [] fresh word) []) (fresh_faulty word some)
walk_faulty (word ∷ next ∷ rest) some =
    elim (bytes_eq word options_end) as (λ t. bytes_eq word options_end ≡ t → HasFault (walk_fault bare [] fresh (word ∷ next ∷ rest))) [
      | true ↦ λ is. subst (λ w. HasFault (walk_fault bare [] fresh (w ∷ next ∷ rest))) (sym (same_text word is)) (walk_behind next rest)
      | false ↦ λ is. first_faulty (turn_fault bare [] fresh word) (walk_fault bare [] (walked bare.rules [] fresh word) (next ∷ rest)) (fresh_faulty word is)
    ] refl

-- the faults that come behind those of the words
abbrev later : List Text → Kinds
later words =
    let end = walk bare.rules [] nothing_held words in
    or_else (entered_fault (built bare_app) end.stopped)
    (or_else (settle_fault bare.rules bare.args_override_self end.held)
    (or_else (defaults_fault (settled bare.rules end.held).rows bare.rules)
    (check_fault bare (finished bare.rules end.held) (is_some (entered (built bare_app) end.stopped)))))

faulty : (words : List Text) → are_no_words words ≡ false → HasFault (built_fault (built bare_app) nothing_held words)
faulty words some = first_faulty (walk_fault bare [] fresh words) (later words) (walk_faulty words some)

none_free : built_fault (built bare_app) nothing_held [] ≡ []
unfolding clap_on_literals
none_free = refl

end_free : built_fault (built bare_app) nothing_held (options_end ∷ []) ≡ []
unfolding clap_on_literals
end_free = refl

free : (words : List Text) → are_no_words words ≡ true → built_fault (built bare_app) nothing_held words ≡ []
free [] none = none_free
free (word ∷ []) none = subst (λ w. built_fault (built bare_app) nothing_held (w ∷ []) ≡ []) (sym (same_text word none)) end_free
free (word ∷ next ∷ rest) none = absurd (false≢true none)

no_fault : (faults : Kinds) → HasFault faults → faults ≡ [] → ⊥
no_fault [] h none = h
no_fault (k ∷ ks) h none = absurd cc

is_simple : is_simple_and_free bare_app ≡ true
unfolding clap_on_literals
is_simple = refl

taken : (words : List Text) → built_fault (built bare_app) nothing_held words ≡ [] → are_no_words words ≡ true
taken words none =
    elim (are_no_words words) as (λ t. are_no_words words ≡ t → are_no_words words ≡ true) [
      | true ↦ λ is. is
      | false ↦ λ is. absurd (no_fault _ (faulty words is) none)
    ] refl

-- where such a command takes words, those behind its name are no words
pub read_taken : (words : List Text) (rows : List Row) → Finds bare_app words rows → are_no_words (drop 1 words) ≡ true
read_taken words rows finds = taken (drop 1 words) (finds.faultless is_simple)

-- and where it refuses them, they aren't
pub read_refused : (words : List Text) → Refuses bare_app words → are_no_words (drop 1 words) ≡ false
read_refused words refuses =
    elim (are_no_words (drop 1 words)) as (λ t. are_no_words (drop 1 words) ≡ t → are_no_words (drop 1 words) ≡ false) [
      | true ↦ λ is. absurd (refuses.faulty is_simple (free (drop 1 words) is))
      | false ↦ λ is. is
    ] refl
