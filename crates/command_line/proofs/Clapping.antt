-- What `clap` finds in the words of a command with places and options, from the command as it is stated.
use Rattle.std.proofs.Common.{◌≡◌, ◌∙◌, List, [], drop, Option, Some, None, refl, sym, ap, subst}
use Rattle.std.specs.Prelude.{is_some}
use Rattle.clap.specs.Walk.{Text, Rule, Row, rows_after, walk, walk_from, nothing_held}
use Rattle.clap.specs.Simple.{App, argument_words, built, entered, matches_of, names_of}
use Rattle.clap.specs.Faults.{built_fault, entered_fault, fault_of, level_fault}
use Rattle.command_line.specs.Arguments.{built_rules, built_shape}
use Rattle.command_line.specs.Finding.{AllUtf8}
use Rattle.command_line.specs.Line.{Takes}
use Rattle.command_line.specs.Taking.{taken}
use Rattle.command_line.proofs.SetRules.{Places, serves}
use Rattle.command_line.proofs.Walking.{Comes, all_fault, all_rows, all_come}

abbrev flat : List Rule → App
flat c = record { top = built_shape c; subs = [] }

-- the command takes these places and options
pub record IsServed (t : Takes) (app : App) : Type 0 where
  pub built_is : built app ≡ flat (built_rules t)
  pub words_are : (words : List Text) → argument_words app words ≡ drop 1 words
  pub places : Places (built_rules t) 1 t.places

flat_fault : (c : List Rule) (words : List Text) → built_fault (flat c) nothing_held words ≡ all_fault c (walk_from nothing_held) words
flat_fault c words = go (walk c [] nothing_held words).stopped
  where
    go : (stop : Option (Text × List Text))
        → level_fault (built_shape c) [] nothing_held words (is_some (entered (flat c) stop)) (entered_fault (flat c) stop)
        ≡ all_fault c (walk_from nothing_held) words
    go None = refl
    go (Some p) = refl

fault_is : (t : Takes) (app : App) (words : List Text) → IsServed t app
    → fault_of app words ≡ all_fault (built_rules t) (walk_from nothing_held) (drop 1 words)
fault_is t app words served =
    ap (λ a. built_fault a nothing_held (argument_words app words)) served.built_is
    ∙ ap (built_fault (flat (built_rules t)) nothing_held) (served.words_are words) ∙ flat_fault (built_rules t) (drop 1 words)

abbrev rows_by : App → List Text → List Row
rows_by a words = rows_after a.top.rules (names_of a) words

rows_are : (t : Takes) (app : App) (words : List Text) → IsServed t app
    → matches_of app words ≡ all_rows (built_rules t) (walk_from nothing_held) (drop 1 words)
rows_are t app words served =
    ap (λ a. rows_by a (argument_words app words)) served.built_is ∙ ap (rows_by (flat (built_rules t))) (served.words_are words)

-- where `clap` finds no fault it finds what the words give, and where it finds one they give nothing
pub words_come : (t : Takes) (app : App) (words : List Text) → IsServed t app → AllUtf8 (drop 1 words)
    → Comes (fault_of app words) (matches_of app words) (taken t (drop 1 words))
words_come t app words served utf8 =
    let come = all_come t (built_rules t) (drop 1 words) (serves t) served.places utf8 in
    subst (λ k. Comes k (matches_of app words) (taken t (drop 1 words))) (sym (fault_is t app words served))
    (subst (λ rows. Comes (all_fault (built_rules t) (walk_from nothing_held) (drop 1 words)) rows (taken t (drop 1 words))) (sym (rows_are t app words served)) come)
