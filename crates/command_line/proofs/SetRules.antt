-- The rules of arguments that each take one value, once.
use Rattle.std.proofs.Common.{◌≡◌, ◌⊎◌, ℕ, Bool, true, false, List, [], ◌∷◌, ◌++◌, map, Option, Some, None, refl, sym, ap, subst, inl, inr, ◌∙◌, ◌&&◌, ◌||◌}
use Rattle.std.specs.Prelude.{not, find, filter, is_some, if◌then◌else◌, ◌==◌}
use Rattle.std.specs.List.{list_all, list_any}
use Rattle.std.specs.Option.{option_map_or}
use Rattle.std.specs.Str.{bytes_eq}
use Rattle.std.proofs.lemmas.Bool.{false≢true}
use Rattle.std.proofs.lemmas.Slice.Eq.{bytes_eq-Decides}
use Rattle.clap.specs.Facts.{explicit_source}
use Rattle.clap.specs.Walk.{Text, Rule, Row, arg_by_id, arg_by_long, arg_by_short, arg_by_index, has_long, has_short}
use Rattle.clap.specs.Takes.{is_given as is_row_given}
use Rattle.clap.specs.declared.builder.value_parser.Reading.TheVariants.{AsWritten}
use Rattle.clap.specs.declared.parser.matches.ValueSource.TheVariants.{CommandLine}
use Rattle.command_line.specs.Arguments.{set_rule, option_rule, placed_rules, built_rules, next_index}
use Rattle.command_line.specs.Line.{OptionRule, Takes, Given, is_given, is_option, needed}

-- it is the rule of an argument with this id that takes one value
abbrev pub IsSet : Text → Option Rule → Type 0
IsSet id found = (long : Option Text) × (index : Option ℕ) × (required : Bool) × (found ≡ Some (set_rule id long index required))

-- what `clap` has found of what was given
abbrev pub row_for : Given → Row
row_for one = record { id = one.0; values = one.1 ∷ []; count = None; source = Some CommandLine; reading = AsWritten }

abbrev pub shown : List Given → List Row
shown given = map row_for given

abbrev pub HasNoDefaults : List Rule → Type 0
HasNoDefaults [] = Unit {0}
HasNoDefaults (a ∷ c) = (a.defaults ≡ []) × HasNoDefaults c

-- the rules serve a command that takes such places and options
pub record Serves (t : Takes) (c : List Rule) : Type 0 where
  pub known : (name : Text) → is_option t name ≡ true → IsSet name (arg_by_long c name)
  pub unknown : (name : Text) → is_option t name ≡ false → arg_by_long c name ≡ None
  pub named : (name : Text) → is_option t name ≡ true → IsSet name (arg_by_id c name)
  pub short : (x : ℕ) → arg_by_short c x ≡ None
  pub indexed : (index : ℕ) → (arg_by_index c index ≡ None) ⊎ ((id : Text) × IsSet id (arg_by_index c index))
  pub defaults : HasNoDefaults c
  pub missing : (given : List Given)
      → list_any (λ a. a.required && not (is_row_given a.id (shown given))) c ≡ not (list_all (λ name. is_given name given) (needed t))

-- from this index on stand the rules of these places
abbrev pub Places : List Rule → ℕ → List Text → Type 0
Places c index [] = arg_by_index c index ≡ None
Places c index (place ∷ left) = IsSet place (arg_by_index c index) × IsSet place (arg_by_id c place) × Places c (next_index index) left

pub same_self : (a : Text) → bytes_eq a a ≡ true
same_self a = (bytes_eq-Decides a a).1 refl

pub same_text : (a b : Text) → bytes_eq a b ≡ true → a ≡ b
same_text a b is = (bytes_eq-Decides a b).0 is

abbrev AllSet : List Rule → Type 0
AllSet [] = Unit {0}
AllSet (a ∷ c) = IsSet a.id (Some a) × AllSet c

set_as : (id name : Text) (found : Option Rule) → id ≡ name → IsSet id found → IsSet name found
set_as id name found same is = subst (λ i. IsSet i found) same is

found_by_id : (name : Text) (c : List Rule) → AllSet c → list_any (λ a. bytes_eq a.id name) c ≡ true → IsSet name (find (λ a. bytes_eq a.id name) c)
found_by_id name [] all has = absurd (false≢true has)
found_by_id name (a ∷ c) all has = go (bytes_eq a.id name) (same_text a.id name) has (found_by_id name c all.1)
  where
    go : (b : Bool) → (b ≡ true → a.id ≡ name) → (b || list_any (λ a. bytes_eq a.id name) c) ≡ true
        → (list_any (λ a. bytes_eq a.id name) c ≡ true → IsSet name (find (λ a. bytes_eq a.id name) c))
        → IsSet name (if b then Some a else find (λ a. bytes_eq a.id name) c)
    go true is h rest = set_as a.id name (Some a) (is refl) all.0
    go false is h rest = rest h

found_any : (p : Rule → Bool) (c : List Rule) → AllSet c → (find p c ≡ None) ⊎ ((id : Text) × IsSet id (find p c))
found_any p [] all = inl refl
found_any p (a ∷ c) all = go (p a) (found_any p c all.1)
  where
    go : (b : Bool) → (find p c ≡ None) ⊎ ((id : Text) × IsSet id (find p c))
        → ((if b then Some a else find p c) ≡ None) ⊎ ((id : Text) × IsSet id (if b then Some a else find p c))
    go true rest = inr (a.id, all.0)
    go false rest = rest

-- the options alone
options_set : (os : List OptionRule) → AllSet (map option_rule os)
options_set [] = tt
options_set (o ∷ os) = ((Some o.name, None, o.required, refl), options_set os)

all_set : (index : ℕ) (places : List Text) (os : List OptionRule) → AllSet (placed_rules index places ++ map option_rule os)
all_set index [] os = options_set os
all_set index (place ∷ places) os = ((None, Some index, true, refl), all_set (next_index index) places os)

any_option : (name : Text) (os : List OptionRule) → list_any (λ a. bytes_eq a.id name) (map option_rule os) ≡ list_any (λ o. bytes_eq o.name name) os
any_option name [] = refl
any_option name (o ∷ os) = ap (λ b. bytes_eq o.name name || b) (any_option name os)

or_true : (b : Bool) → (b || true) ≡ true
or_true true = refl
or_true false = refl

any_rule : (name : Text) (index : ℕ) (places : List Text) (os : List OptionRule) → list_any (λ o. bytes_eq o.name name) os ≡ true
    → list_any (λ a. bytes_eq a.id name) (placed_rules index places ++ map option_rule os) ≡ true
any_rule name index [] os has = any_option name os ∙ has
any_rule name index (place ∷ places) os has = ap (λ b. bytes_eq place name || b) (any_rule name (next_index index) places os has) ∙ or_true (bytes_eq place name)

abbrev long_test : Text → Rule → Bool
long_test name a = not (is_some a.index) && has_long a name

past_places : (name : Text) (index : ℕ) (places : List Text) (c : List Rule)
    → find (long_test name) (placed_rules index places ++ c) ≡ find (long_test name) c
past_places name index [] c = refl
past_places name index (place ∷ places) c = past_places name (next_index index) places c

known_option : (name : Text) (os : List OptionRule) → list_any (λ o. bytes_eq o.name name) os ≡ true → IsSet name (find (long_test name) (map option_rule os))
known_option name [] has = absurd (false≢true has)
known_option name (o ∷ os) has = go (bytes_eq o.name name) (same_text o.name name) has (known_option name os)
  where
    go : (b : Bool) → (b ≡ true → o.name ≡ name) → (b || list_any (λ o. bytes_eq o.name name) os) ≡ true
        → (list_any (λ o. bytes_eq o.name name) os ≡ true → IsSet name (find (long_test name) (map option_rule os)))
        → IsSet name (if b || false then Some (option_rule o) else find (long_test name) (map option_rule os))
    go true is h rest = set_as o.name name (Some (option_rule o)) (is refl) (Some o.name, None, o.required, refl)
    go false is h rest = rest h

unknown_option : (name : Text) (os : List OptionRule) → list_any (λ o. bytes_eq o.name name) os ≡ false → find (long_test name) (map option_rule os) ≡ None
unknown_option name [] has = refl
unknown_option name (o ∷ os) has = go (bytes_eq o.name name) has (unknown_option name os)
  where
    go : (b : Bool) → (b || list_any (λ o. bytes_eq o.name name) os) ≡ false
        → (list_any (λ o. bytes_eq o.name name) os ≡ false → find (long_test name) (map option_rule os) ≡ None)
        → (if b || false then Some (option_rule o) else find (long_test name) (map option_rule os)) ≡ None
    go true h rest = absurd (false≢true (sym h))
    go false h rest = rest h

abbrev short_test : ℕ → Rule → Bool
short_test x a = not (is_some a.index) && has_short a x

no_short : (x : ℕ) (os : List OptionRule) → find (short_test x) (map option_rule os) ≡ None
no_short x [] = refl
no_short x (o ∷ os) = no_short x os

no_short_placed : (x : ℕ) (index : ℕ) (places : List Text) (os : List OptionRule)
    → find (short_test x) (placed_rules index places ++ map option_rule os) ≡ None
no_short_placed x index [] os = no_short x os
no_short_placed x index (place ∷ places) os = no_short_placed x (next_index index) places os

no_defaults : (os : List OptionRule) → HasNoDefaults (map option_rule os)
no_defaults [] = tt
no_defaults (o ∷ os) = (refl, no_defaults os)

no_defaults_placed : (index : ℕ) (places : List Text) (os : List OptionRule) → HasNoDefaults (placed_rules index places ++ map option_rule os)
no_defaults_placed index [] os = no_defaults os
no_defaults_placed index (place ∷ places) os = (refl, no_defaults_placed (next_index index) places os)

-- what is given is found
pub given_row : (id : Text) (given : List Given) → is_row_given id (shown given) ≡ is_given id given
given_row id [] = refl
given_row id (one ∷ given) = go (bytes_eq one.0 id) (given_row id given)
  where
    go : (b : Bool) → is_row_given id (shown given) ≡ is_given id given
        → option_map_or (λ (r : Row). explicit_source r.source)
        (if b then Some (row_for one) else find (λ (r : Row). bytes_eq r.id id) (shown given)) false ≡ (b || is_given id given)
    go true rest = refl
    go false rest = rest

and_not : (a b : Bool) → (not a || not b) ≡ not (a && b)
and_not true b = refl
and_not false b = refl

abbrev lacks : List Given → Rule → Bool
lacks given a = a.required && not (is_row_given a.id (shown given))

missing_options : (given : List Given) (os : List OptionRule)
    → list_any (lacks given) (map option_rule os) ≡ not (list_all (λ name. is_given name given) (map (λ o. o.name) (filter (λ o. o.required) os)))
missing_options given [] = refl
missing_options given (o ∷ os) = go o.required (given_row o.name given) (missing_options given os)
  where
    go : (b : Bool) → is_row_given o.name (shown given) ≡ is_given o.name given
        → list_any (lacks given) (map option_rule os) ≡ not
        (list_all (λ name. is_given name given) (map (λ (o : OptionRule). o.name) (filter (λ o. o.required) os)))
        → ((b && not (is_row_given o.name (shown given))) || list_any (lacks given) (map option_rule os))
        ≡ not
        (list_all (λ name. is_given name given) (map (λ (o : OptionRule). o.name) (if b then o ∷ filter (λ o. o.required) os else filter (λ o. o.required) os)))
    go true is rest = ap (λ x. not x || list_any (lacks given) (map option_rule os)) is ∙ ap (λ x. not (is_given o.name given) || x) rest ∙ and_not (is_given o.name given) _
    go false is rest = rest

missing_places : (given : List Given) (index : ℕ) (places : List Text) (os : List OptionRule)
    → list_any (lacks given) (placed_rules index places ++ map option_rule os)
    ≡ not (list_all (λ name. is_given name given) (places ++ map (λ o. o.name) (filter (λ o. o.required) os)))
missing_places given index [] os = missing_options given os
missing_places given index (place ∷ places) os =
    ap (λ x. not x || list_any (lacks given) (placed_rules (next_index index) places ++ map option_rule os)) (given_row place given)
    ∙ ap (λ x. not (is_given place given) || x) (missing_places given (next_index index) places os) ∙ and_not (is_given place given) _

-- the rules of a command serve it
pub serves : (t : Takes) → Serves t (built_rules t)
serves t = record {
  known = λ name has. subst (IsSet name) (sym (past_places name 1 t.places (map option_rule t.options))) (known_option name t.options has);
  unknown = λ name none. past_places name 1 t.places (map option_rule t.options) ∙ unknown_option name t.options none;
  named = λ name has. found_by_id name (built_rules t) (all_set 1 t.places t.options) (any_rule name 1 t.places t.options has);
  short = λ x. no_short_placed x 1 t.places t.options;
  indexed = λ index. found_any (λ a. option_map_or (λ k. k == index) a.index false) (built_rules t) (all_set 1 t.places t.options);
  defaults = no_defaults_placed 1 t.places t.options;
  missing = λ given. missing_places given 1 t.places t.options;
}
