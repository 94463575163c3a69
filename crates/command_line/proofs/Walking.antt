-- What `clap` takes for a command with places and options that each take one value is what the words give, word by word.
use Rattle.std.proofs.Common.{◌≡◌, ◌∙◌, ℕ, Bool, true, false, List, [], ◌∷◌, ◌++◌, length, drop, Option, Some, None, refl, sym, ap, subst, inl, inr, ◌&&◌, ◌||◌, ◌==◌, append-nil, arith}
use Rattle.std.specs.Prelude.{slice_get, if◌then◌else◌, fold, not, encode_utf8, nat_lt, option_and_then}
use Rattle.std.specs.List.{list_all, list_any}
use Rattle.std.specs.Option.{option_map_or}
use Rattle.std.specs.Str.{bytes_eq, chars, IsUtf8, encode_utf8_all as encodes}
use Rattle.std.proofs.Math.Bool.{or-false}
use Rattle.std.proofs.lemmas.Bool.{false≢true, eqb-true}
use Rattle.std.proofs.lemmas.List.{map-append}
use Rattle.std.proofs.lemmas.Str.{encodes-chars, encode_ascii}
use Rattle.clap.specs.Lexer.{long_of, short_of, short_of_rest}
use Rattle.clap.specs.Kinds.{Kinds, or_else, check_kinds}
use Rattle.clap.specs.Walk.{Text, Rule, Row, Walk, Held, Step, Waiting, walk_from, nothing_held, walked, has_row, at_row, more_values, settled, settled_rows, finished, with_default, default_rows, reading_by, is_empty, used, used_by_id, pushed, reacted}
use Rattle.clap.specs.Walk.{arg_by_id, arg_by_long, arg_by_index, after_step, after_flag, long_met, long_or_other, long_word, short_or_plain, short_word, plain_word, option_word, to_positional, positional_held, is_pending, word_met}
use Rattle.clap.specs.Walk.Step.{trailing, next, value}
use Rattle.clap.specs.Walk.Waiting.{idle, option as waits_for}
use Rattle.clap.specs.Takes.{is_given as is_row_given}
use Rattle.clap.specs.Faults.{settle_fault, use_fault, long_fault, short_fault, flag_word_fault, bundle_fault, flags_fault, bundle_step_fault, turn_fault, walk_fault, word_fault, step_fault, positional_fault, stray_fault, defaults_fault, default_fault, given_default_fault, check_fault}
use Rattle.clap.specs.declared.error.kind.ErrorKind.TheVariants as kind
use Rattle.clap.specs.declared.parser.matches.ValueSource.TheVariants.{CommandLine}
use Rattle.command_line.specs.Arguments.{set_rule, next_index, built_shape}
use Rattle.command_line.specs.Finding.{AllUtf8}
use Rattle.command_line.specs.Line.{Takes, Given, is_given, is_option, needed}
use Rattle.command_line.specs.Taking.{Taken, Next, Kind, kind_by, long_kind, short_kind, give, give_once, placed_in, option_in, kind_in, value_in, end_in, taken_from, taken}
use Rattle.command_line.proofs.SetRules.{same_self, IsSet, Serves, Places, HasNoDefaults, row_for, shown}

-- there is a fault
abbrev pub HasFault : Kinds → Type 0
HasFault [] = ⊥
HasFault (k ∷ ks) = Unit {0}

pub first_faulty : (a b : Kinds) → HasFault a → HasFault (or_else a b)
first_faulty [] b h = absurd h
first_faulty (k ∷ ks) b h = tt

second_faulty : (a b : Kinds) → HasFault b → HasFault (or_else a b)
second_faulty [] b h = h
second_faulty (k ∷ ks) b h = tt

or_else-assoc : (a b d : Kinds) → or_else (or_else a b) d ≡ or_else a (or_else b d)
or_else-assoc [] b d = refl
or_else-assoc (k ∷ ks) b d = refl

-- what a parse comes to: it has a fault, or it has none and finds what was given
abbrev pub Comes : Kinds → List Row → Option (List Given) → Type 0
Comes faults rows None = HasFault faults
Comes faults rows (Some given) = (faults ≡ []) × (rows ≡ shown given)

comes_after : (fault rest : Kinds) (rows : List Row) (result : Option (List Given)) → fault ≡ [] → Comes rest rows result
    → Comes (or_else fault rest) rows result
comes_after fault rest rows result none h = subst (λ k. Comes (or_else k rest) rows result) (sym none) h

-- what is held: rows, and an argument whose value is being read
abbrev pub held : List Row → Option (Text × List Text) → Held
held rows pending = record { rows = rows; pending = pending; skip = 0 }

abbrev pub walk_at : Held → Waiting → ℕ → Bool → Walk
walk_at h waiting position ends = record { held = h; waiting = waiting; position = position; is_trailing = ends; stopped = None }

abbrev pub end_fault : List Rule → Held → Kinds
end_fault c h = or_else (settle_fault c false h) (or_else (defaults_fault (settled c h).rows c) (check_fault (built_shape c) (finished c h) false))

-- all faults of the words from here on, and the rows at their end
abbrev pub all_fault : List Rule → Walk → List Text → Kinds
all_fault c w words = or_else (walk_fault (built_shape c) [] w words) (end_fault c (fold (walked c []) w words).held)

abbrev pub all_rows : List Rule → Walk → List Text → List Row
all_rows c w words = finished c (fold (walked c []) w words).held

-- what a word comes to that is met so
abbrev Steps : List Rule → Walk → Text → List Text → Kinds → Held × Step → Option (List Given) → Type 0
Steps c w word words fault met result =
    Comes (or_else (or_else fault (step_fault (built_shape c) w.position met.0 met.1)) (all_fault c (after_step c word w met.0 met.1) words))
    (all_rows c (after_step c word w met.0 met.1) words) result

steps_stop : (c : List Rule) (w : Walk) (word : Text) (words : List Text) (fault : Kinds) (met : Held × Step) → HasFault fault
    → Steps c w word words fault met None
steps_stop c w word words fault met h =
    let step = step_fault (built_shape c) w.position met.0 met.1 in
    first_faulty (or_else fault step) (all_fault c (after_step c word w met.0 met.1) words) (first_faulty fault step h)

-- ---- what is settled

row_given : (id : Text) (given : List Given) → has_row id (shown given) ≡ is_given id given
row_given id [] = refl
row_given id (one ∷ given) = ap (λ b. bytes_eq one.0 id || b) (row_given id given)

at_absent : (id : Text) (change : Row → List Row) (missing rows : List Row) → has_row id rows ≡ false → at_row id change missing rows ≡ rows ++ missing
at_absent id change missing [] none = refl
at_absent id change missing (r ∷ rs) none = go (bytes_eq r.id id) none (at_absent id change missing rs)
  where
    go : (b : Bool) → (b || has_row id rs) ≡ false → (has_row id rs ≡ false → at_row id change missing rs ≡ rs ++ missing)
        → (if b then change r ++ rs else r ∷ at_row id change missing rs) ≡ (r ∷ rs) ++ missing
    go true h rest = absurd (false≢true (sym h))
    go false h rest = ap (λ xs. r ∷ xs) (rest h)

abbrev row_once : Text → Text → Row
row_once id text = row_for (id, text)

used_absent : (id text : Text) (change : Row → List Row) (rows : List Row) → has_row id rows ≡ false
    → at_row id change (row_once id text ∷ []) (at_row id (λ _. []) [] rows) ≡ rows ++ row_once id text ∷ []
used_absent id text change rows none =
    let same : at_row id (λ _. []) [] rows ≡ rows = at_absent id (λ _. []) [] rows none ∙ append-nil rows in
    ap (at_row id change (row_once id text ∷ [])) same ∙ at_absent id change (row_once id text ∷ []) rows none

-- a use of an argument that wasn't given
used_once : (id text : Text) (long : Option Text) (index : Option ℕ) (required : Bool) (rows : List Row) (given : List Given) → rows ≡ shown given
    → is_given id given ≡ false
    → used (set_rule id long index required) (text ∷ []) rows ≡ shown (given ++ (id, text) ∷ [])
used_once id text long index required rows given same none =
    let free : has_row id rows ≡ false = ap (has_row id) same ∙ (row_given id given ∙ none) in
    used_absent id text (more_values CommandLine (text ∷ [])) rows free ∙ ap (λ rs. rs ++ row_once id text ∷ []) same ∙ sym (map-append row_for given ((id, text) ∷ []))

-- the fault of a second use
abbrev again : Bool → Kinds
again true = kind.ArgumentConflict ∷ []
again false = []

again_is : (b : Bool) → or_else (if b && true then kind.ArgumentConflict ∷ [] else []) [] ≡ again b
again_is true = refl
again_is false = refl

use_is : (id text : Text) (long : Option Text) (index : Option ℕ) (required : Bool) (rows : List Row)
    → use_fault false (set_rule id long index required) (text ∷ []) rows ≡ again (has_row id rows)
use_is id text long index required rows = again_is (has_row id rows)

again_none : (id : Text) (rows : List Row) (given : List Given) → rows ≡ shown given → is_given id given ≡ false → again (has_row id rows) ≡ []
again_none id rows given same none = ap again (ap (has_row id) same ∙ (row_given id given ∙ none))

again_faulty : (id : Text) (rows : List Row) (given : List Given) → rows ≡ shown given → is_given id given ≡ true → HasFault (again (has_row id rows))
again_faulty id rows given same is = subst (λ b. HasFault (again b)) (sym (ap (has_row id) same ∙ (row_given id given ∙ is))) tt

-- what is pending is used where it is settled
abbrev settle_by : Option Rule → List Text → List Row → Kinds
settle_by found values rows = option_map_or (λ a. use_fault false a values rows) found []

settle_is : (c : List Rule) (id text : Text) (rows : List Row) → IsSet id (arg_by_id c id)
    → settle_fault c false (held rows (Some (id, text ∷ []))) ≡ again (has_row id rows)
settle_is c id text rows set = ap (λ found. settle_by found (text ∷ []) rows) set.3 ∙ use_is id text set.0 set.1 set.2 rows

settle_empty : (c : List Rule) (id : Text) (rows : List Row) → IsSet id (arg_by_id c id) → HasFault (settle_fault c false (held rows (Some (id, []))))
settle_empty c id rows set = subst (λ found. HasFault (settle_by found [] rows)) (sym set.3) tt

-- what is held settles without a fault, and then this was given
record Settles (c : List Rule) (rows : List Row) (pending : Option (Text × List Text)) (given : List Given) : Type 0 where
  fault : settle_fault c false (held rows pending) ≡ []
  are : settled_rows c pending rows ≡ shown given

settles_one : (c : List Rule) (id text : Text) (rows : List Row) (given : List Given) → IsSet id (arg_by_id c id) → rows ≡ shown given
    → is_given id given ≡ false
    → Settles c rows (Some (id, text ∷ [])) (given ++ (id, text) ∷ [])
settles_one c id text rows given set same none = record {
  fault = settle_is c id text rows set ∙ again_none id rows given same none;
  are = ap (λ found. used_by_id found (text ∷ []) rows) set.3 ∙ used_once id text set.0 set.1 set.2 rows given same none;
}

doomed_one : (c : List Rule) (id text : Text) (rows : List Row) (given : List Given) → IsSet id (arg_by_id c id) → rows ≡ shown given
    → is_given id given ≡ true
    → HasFault (settle_fault c false (held rows (Some (id, text ∷ []))))
doomed_one c id text rows given set same is = subst HasFault (sym (settle_is c id text rows set)) (again_faulty id rows given same is)

-- ---- the end

kept_rows : (rows : List Row) (a : Rule) → a.defaults ≡ [] → with_default rows a ≡ rows
kept_rows rows a none = ap (λ ds. if has_row a.id rows then rows else default_rows a.id (reading_by a) ds rows) none ∙ go (has_row a.id rows)
  where
    go : (b : Bool) → (if b then rows else rows) ≡ rows
    go true = refl
    go false = refl

finished_is : (rows : List Row) (c : List Rule) → HasNoDefaults c → fold with_default rows c ≡ rows
finished_is rows [] none = refl
finished_is rows (a ∷ c) none = ap (λ rs. fold with_default rs c) (kept_rows rows a none.0) ∙ finished_is rows c none.1

default_none : (rows : List Row) (a : Rule) → a.defaults ≡ [] → default_fault rows a ≡ []
default_none rows a none = ap (λ ds. if has_row a.id rows || is_empty ds then [] else given_default_fault a ds) none ∙ go (has_row a.id rows)
  where
    go : (b : Bool) → (if b || true then [] else given_default_fault a []) ≡ []
    go true = refl
    go false = refl

defaults_none : (rows : List Row) (c : List Rule) → HasNoDefaults c → defaults_fault rows c ≡ []
unfolding defaults_fault
defaults_none rows [] none = refl
defaults_none rows (a ∷ c) none =
    ap (λ k. or_else k (defaults_fault (with_default rows a) c)) (default_none rows a none.0) ∙ defaults_none (with_default rows a) c none.1

missing_comes : (rows : List Row) (given : List Given) (b : Bool) → rows ≡ shown given
    → Comes (check_kinds false false (not b)) rows (if b then Some given else None)
missing_comes rows given true same = (refl, same)
missing_comes rows given false same = tt

end_comes : (t : Takes) (c : List Rule) (rows : List Row) (pending : Option (Text × List Text)) (given : List Given) → Serves t c
    → Settles c rows pending given
    → Comes (end_fault c (held rows pending)) (finished c (held rows pending)) (end_in t None given)
end_comes t c rows pending given serves settles =
    let now = settled_rows c pending rows in
    let done : fold with_default now c ≡ shown given = finished_is now c serves.defaults ∙ settles.are in
    let all = list_all (λ name. is_given name given) (needed t) in
    let lacking : list_any (λ a. a.required && not (is_row_given a.id (fold with_default now c))) c ≡ not all =
    ap (λ (rs : List Row). list_any (λ a. a.required && not (is_row_given a.id rs)) c) done ∙ serves.missing given in
    comes_after (settle_fault c false (held rows pending)) _ _ _ settles.fault
    (comes_after (defaults_fault now c) _ _ _ (defaults_none now c serves.defaults)
    (subst (λ b. Comes (check_kinds false false b) (fold with_default now c) (if all then Some given else None)) (sym lacking) (missing_comes (fold with_default now c) given all done)))

-- ---- what is held has a fault that comes in any case

and_false : (b : Bool) → (b && false) ≡ false
and_false true = refl
and_false false = refl

abbrev positional_by : List Rule → Bool → Held → Kinds
positional_by c test h = if test then [] else settle_fault c false h

positional_is : (c : List Rule) (id : Text) (long : Option Text) (index : Option ℕ) (required : Bool) (h : Held)
    → positional_fault c false (set_rule id long index required) h ≡ settle_fault c false h
positional_is c id long index required h = ap (λ test. positional_by c test h) (and_false (is_pending (set_rule id long index required) h.pending))

doomed_value : (t : Takes) (c : List Rule) (h : Held) (w : Walk) (word : Text) (words : List Text) → Serves t c → HasFault (settle_fault c false h)
    → HasFault (step_fault (built_shape c) w.position h value)
doomed_value t c h w word words serves faulty = elim (serves.indexed w.position) [
  | inl none ↦ subst (λ found. HasFault (option_map_or (λ a. positional_fault c false a h) found (stray_fault (built_shape c)))) (sym none) tt
  | inr some ↦ subst (λ found. HasFault (option_map_or (λ a. positional_fault c false a h) found (stray_fault (built_shape c)))) (sym some.1.3)
      (subst HasFault (sym (positional_is c some.0 some.1.0 some.1.1 some.1.2 h)) faulty)
]

doomed_behind : (t : Takes) (c : List Rule) (h : Held) (waiting : Waiting) (position : ℕ) (words : List Text) → Serves t c → HasFault (settle_fault c false h)
    → HasFault (all_fault c (walk_at h waiting position true) words)
unfolding walk_fault walked
doomed_behind t c h waiting position [] serves faulty = first_faulty (settle_fault c false h) _ faulty
doomed_behind t c h waiting position (word ∷ words) serves faulty =
    first_faulty _ _ (first_faulty _ _ (doomed_value t c h (walk_at h waiting position true) word words serves faulty))

-- ---- one word

-- a word that is met so goes on with the words behind it
stepped : (c : List Rule) (h : Held) (waiting : Waiting) (position : ℕ) (ends : Bool) (word : Text) (words : List Text) (result : Option (List Given))
    → Steps c (walk_at h waiting position ends) word words (word_fault (built_shape c) [] ends waiting word h)
    (word_met c [] ends waiting position word h) result
    → Comes (all_fault c (walk_at h waiting position ends) (word ∷ words)) (all_rows c (walk_at h waiting position ends) (word ∷ words)) result
unfolding walk_fault walked
stepped c h waiting position ends word words result steps =
    let w = walk_at h waiting position ends in
    let turn = turn_fault (built_shape c) [] w word in
    let on = walked c [] w word in
    subst (λ k. Comes k (all_rows c on words) result) (sym (or_else-assoc turn (walk_fault (built_shape c) [] on words) (end_fault c (fold (walked c []) on words).held))) steps

-- a text that is longer than its hyphen has a character behind it
has_char : (x : ℕ) (xs : List ℕ) → IsUtf8 (45 ∷ x ∷ xs) → (y : ℕ) × (ys : List ℕ) × (chars (x ∷ xs) ≡ y ∷ ys)
unfolding chars
has_char x xs utf8 = go (chars (x ∷ xs)) refl (encodes-chars (45 ∷ x ∷ xs) utf8)
  where
    go : (cs : List ℕ) → chars (x ∷ xs) ≡ cs → encodes (45 ∷ cs) ≡ 45 ∷ x ∷ xs → (y : ℕ) × (ys : List ℕ) × (chars (x ∷ xs) ≡ y ∷ ys)
    go [] is spelled =
        let one : encodes (45 ∷ []) ≡ 45 ∷ [] = ap (λ bytes. bytes ++ []) (encode_ascii 45 (omega arith)) in
        let short : 45 ∷ [] ≡ 45 ∷ x ∷ xs = sym one ∙ spelled in
        absurd cc
    go (y ∷ ys) is spelled = (y, ys, is)

-- what follows a single hyphen
record AreFlags (flags : Text) : Type 0 where
  first : ℕ
  rest : Text
  are : flags ≡ first ∷ rest
  char : ℕ
  chars_rest : List ℕ
  spelled : chars flags ≡ char ∷ chars_rest

short_flags : (word flags : Text) → IsUtf8 word → short_of word ≡ Some flags → AreFlags flags
short_flags [] flags utf8 is = absurd cc
short_flags (b ∷ []) flags utf8 is = go (b == 45) is
  where
    go : (t : Bool) → option_and_then short_of_rest (if t then Some [] else None) ≡ Some flags → AreFlags flags
    go true h = absurd cc
    go false h = absurd cc
short_flags (b ∷ x ∷ xs) flags utf8 is = go (b == 45) (eqb-true b 45) is
  where
    at : (t : Bool) → b ≡ 45 → (if t then None else Some (x ∷ xs)) ≡ Some flags → AreFlags flags
    at true same h = absurd cc
    at false same h =
        let are : flags ≡ x ∷ xs = cc in
        let some = has_char x xs (subst (λ byte. IsUtf8 (byte ∷ x ∷ xs)) same utf8) in
        record { first = x; rest = xs; are = are; char = some.0; chars_rest = some.1; spelled = ap chars are ∙ some.2 }

    go : (t : Bool) → (t ≡ true → b ≡ 45) → option_and_then short_of_rest (if t then Some (x ∷ xs) else None) ≡ Some flags → AreFlags flags
    go true same h = at (x == 45) (same refl) h
    go false same h = absurd cc

-- flags name no option
flags_faulty : (t : Takes) (c : List Rule) (rows : List Row) (pending : Option (Text × List Text)) (flags : Text) → Serves t c → AreFlags flags
    → HasFault (bundle_fault c false flags (held rows pending))
unfolding flags_fault
flags_faulty t c rows pending flags serves are =
    let h = held rows pending in
    let at_char : HasFault (bundle_step_fault c false (Some are.char) flags 0 h (flags_fault c false (length are.rest))) =
    subst (λ found. HasFault (short_fault c false found (drop (length (encode_utf8 are.char)) flags) h (flags_fault c false (length are.rest) (drop (length (encode_utf8 are.char)) flags) 0)))
    (sym (serves.short are.char)) tt in
    let at_chars : HasFault (bundle_step_fault c false (slice_get (chars flags) 0) flags 0 h (flags_fault c false (length are.rest))) =
    subst (λ cs. HasFault (bundle_step_fault c false (slice_get cs 0) flags 0 h (flags_fault c false (length are.rest)))) (sym are.spelled) at_char in
    subst (λ n. HasFault (flags_fault c false n flags 0 h)) (sym (ap length are.are)) at_chars

-- a word by its kind
record Meets (c : List Rule) (h : Held) (waiting : Waiting) (position : ℕ) (word : Text) (words : List Text) (result : Kind → Option (List Given)) : Type 0 where
  at_end : Steps c (walk_at h waiting position false) word words [] (h, trailing position) (result Kind.ender)
  at_option : (name : Text) (text : Option Text)
      → Steps c (walk_at h waiting position false) word words (long_fault c false (arg_by_long c name) text h) (long_word c waiting word name text h)
      (result (Kind.option name text))
  at_hyphen : (flags : Text) → AreFlags flags
      → Steps c (walk_at h waiting position false) word words (bundle_fault c false flags h) (short_word c waiting word flags h) (result Kind.hyphened)
  at_plain : Steps c (walk_at h waiting position false) word words [] (plain_word c waiting word h) (result Kind.plain)

met_short : (c : List Rule) (h : Held) (waiting : Waiting) (position : ℕ) (word : Text) (words : List Text) (result : Kind → Option (List Given))
    → IsUtf8 word
    → Meets c h waiting position word words result → (short : Option Text) → short_of word ≡ short
    → Steps c (walk_at h waiting position false) word words (option_map_or (λ flags. bundle_fault c false flags h) short [])
    (short_or_plain c waiting word short h) (result (short_kind short))
met_short c h waiting position word words result utf8 meets None is = meets.at_plain
met_short c h waiting position word words result utf8 meets (Some flags) is = meets.at_hyphen flags (short_flags word flags utf8 is)

met_long : (c : List Rule) (h : Held) (waiting : Waiting) (position : ℕ) (word : Text) (words : List Text) (result : Kind → Option (List Given)) → IsUtf8 word
    → Meets c h waiting position word words result → (long : Option (Text × Option Text))
    → Steps c (walk_at h waiting position false) word words (flag_word_fault c false long word h) (long_or_other c waiting word long h)
    (result (long_kind long (short_of word)))
met_long c h waiting position word words result utf8 meets None = met_short c h waiting position word words result utf8 meets (short_of word) refl
met_long c h waiting position word words result utf8 meets (Some long) = meets.at_option long.0 long.1

met : (c : List Rule) (h : Held) (waiting : Waiting) (position : ℕ) (word : Text) (words : List Text) (result : Kind → Option (List Given)) → IsUtf8 word
    → Meets c h waiting position word words result → (ends : Bool)
    → Steps c (walk_at h waiting position false) word words (if ends then [] else flag_word_fault c false (long_of word) word h)
    (if ends then (h, trailing position) else long_or_other c waiting word (long_of word) h) (result (kind_by ends (long_of word) (short_of word)))
met c h waiting position word words result utf8 meets true = meets.at_end
met c h waiting position word words result utf8 meets false = met_long c h waiting position word words result utf8 meets (long_of word)

-- what isn't an option of the command is refused
unknown_faulty : (t : Takes) (c : List Rule) (h : Held) (name : Text) (text : Option Text) → Serves t c → is_option t name ≡ false
    → HasFault (long_fault c false (arg_by_long c name) text h)
unknown_faulty t c h name text serves none = subst (λ found. HasFault (long_fault c false found text h)) (sym (serves.unknown name none)) tt

-- and what is one, where something is held that has a fault
doomed_option : (c : List Rule) (h : Held) (name : Text) (text : Option Text) (long : Option Text) (index : Option ℕ) (required : Bool)
    → HasFault (settle_fault c false h)
    → HasFault (long_fault c false (Some (set_rule name long index required)) text h)
doomed_option c h name None long index required faulty = faulty
doomed_option c h name (Some v) long index required faulty = first_faulty (settle_fault c false h) _ faulty

doomed_long : (t : Takes) (c : List Rule) (h : Held) (name : Text) (text : Option Text) → Serves t c → HasFault (settle_fault c false h)
    → HasFault (long_fault c false (arg_by_long c name) text h)
doomed_long t c h name text serves faulty =
    elim (is_option t name) as (λ b. is_option t name ≡ b → HasFault (long_fault c false (arg_by_long c name) text h)) [
      | true ↦ λ is. let set = serves.known name is in
          subst (λ found. HasFault (long_fault c false found text h)) (sym set.3) (doomed_option c h name text set.0 set.1 set.2 faulty)
      | false ↦ λ is. unknown_faulty t c h name text serves is
    ] refl

-- whatever comes, what is held is settled at the next word but the one that ends the options
abbrev no_result : Kind → Option (List Given)
no_result kind = None

doomed_meets : (t : Takes) (c : List Rule) (rows : List Row) (pending : Option (Text × List Text)) (position : ℕ) (word : Text) (words : List Text)
    → Serves t c
    → HasFault (settle_fault c false (held rows pending)) → Meets c (held rows pending) idle position word words no_result
doomed_meets t c rows pending position word words serves faulty =
    let h = held rows pending in
    let w = walk_at h idle position false in
    record {
      at_end = doomed_behind t c h idle position words serves faulty;
      at_option = λ name text. steps_stop c w word words _ _ (doomed_long t c h name text serves faulty);
      at_hyphen = λ flags are. steps_stop c w word words _ _ (flags_faulty t c rows pending flags serves are);
      at_plain = first_faulty _ _ (doomed_value t c h w word words serves faulty);
    }

doomed_idle : (t : Takes) (c : List Rule) (rows : List Row) (pending : Option (Text × List Text)) (position : ℕ) (words : List Text) → Serves t c
    → AllUtf8 words
    → HasFault (settle_fault c false (held rows pending)) → HasFault (all_fault c (walk_at (held rows pending) idle position false) words)
unfolding walk_fault
doomed_idle t c rows pending position [] serves utf8 faulty = first_faulty (settle_fault c false (held rows pending)) _ faulty
doomed_idle t c rows pending position (word ∷ words) serves utf8 faulty =
    stepped c (held rows pending) idle position false word words None
    (met c (held rows pending) idle position word words no_result utf8.0 (doomed_meets t c rows pending position word words serves faulty) (bytes_eq word (45 ∷ 45 ∷ [])))

-- ---- a word at a place

abbrev state : List Given → List Text → Option Text → Bool → Taken
state given left waiting ends = record { given = given; left = left; waiting = waiting; ended = ends }

-- what comes of a word at a place, behind it
record GoesOn (c : List Rule) (ends : Bool) (words : List Text) (go : Next) : Type 0 where
  doomed : (rows : List Row) (id text : Text) (position : ℕ) → HasFault (settle_fault c false (held rows (Some (id, text ∷ []))))
      → HasFault (all_fault c (walk_at (held rows (Some (id, text ∷ []))) idle position ends) words)
  goes : (rows : List Row) (pending : Option (Text × List Text)) (given : List Given) (left : List Text) (position : ℕ) → Settles c rows pending given
      → Places c position left
      → Comes (all_fault c (walk_at (held rows pending) idle position ends) words) (all_rows c (walk_at (held rows pending) idle position ends) words)
      (go (state given left None ends))

given_goes : (c : List Rule) (ends : Bool) (words : List Text) (go : Next) (rows : List Row) (given : List Given) (left : List Text) (position : ℕ)
    (id text : Text) (b : Bool)
    → GoesOn c ends words go → IsSet id (arg_by_id c id) → rows ≡ shown given → Places c position left → is_given id given ≡ b
    → Comes (all_fault c (walk_at (held rows (Some (id, text ∷ []))) idle position ends) words)
    (all_rows c (walk_at (held rows (Some (id, text ∷ []))) idle position ends) words) (give b id text (state given left None ends) go)
given_goes c ends words go rows given left position id text true on set same places is =
    on.doomed rows id text position (doomed_one c id text rows given set same is)
given_goes c ends words go rows given left position id text false on set same places is =
    on.goes rows (Some (id, text ∷ [])) (given ++ (id, text) ∷ []) left position (settles_one c id text rows given set same is) places

abbrev PlacedBy : List Rule → Walk → Text → List Text → Option (List Given) → Option Rule → Type 0
PlacedBy c w word words result found =
    Comes (or_else (option_map_or (λ a. positional_fault c false a w.held) found (stray_fault (built_shape c))) (all_fault c (to_positional c found word w w.held) words))
    (all_rows c (to_positional c found word w w.held) words) result

positional_held_is : (c : List Rule) (id : Text) (long : Option Text) (index : Option ℕ) (required : Bool) (word : Text) (rows : List Row)
    (pending : Option (Text × List Text))
    → positional_held c (set_rule id long index required) word (held rows pending) ≡ held (settled_rows c pending rows) (Some (id, word ∷ []))
positional_held_is c id long index required word rows pending =
    ap (λ test. pushed id word (if test then held rows pending else settled c (held rows pending))) (and_false (is_pending (set_rule id long index required) pending))

placed_set : (c : List Rule) (waiting : Waiting) (ends : Bool) (position : ℕ) (word : Text) (words : List Text) (go : Next) (rows : List Row)
    (pending : Option (Text × List Text))
    (given : List Given) (left : List Text) (id : Text) (long : Option Text) (index : Option ℕ) (required : Bool)
    → GoesOn c ends words go → Settles c rows pending given → IsSet id (arg_by_id c id) → Places c (next_index position) left
    → PlacedBy c (walk_at (held rows pending) waiting position ends) word words (give_once id word (state given left None ends) go)
    (Some (set_rule id long index required))
placed_set c waiting ends position word words go rows pending given left id long index required on settles set places =
    let now = settled_rows c pending rows in
    let result = give_once id word (state given left None ends) go in
    let ended = given_goes c ends words go now given left (next_index position) id word (is_given id given) on set settles.are places refl in
    let at_ends : Comes (all_fault c (walk_at (held now (Some (id, word ∷ []))) idle (next_index position) (ends || false)) words)
    (all_rows c (walk_at (held now (Some (id, word ∷ []))) idle (next_index position) (ends || false)) words) result =
    subst (λ b. Comes (all_fault c (walk_at (held now (Some (id, word ∷ []))) idle (next_index position) b) words)
    (all_rows c (walk_at (held now (Some (id, word ∷ []))) idle (next_index position) b) words) result) (sym (or-false ends)) ended in
    let at_held : Comes (all_fault c (walk_at (positional_held c (set_rule id long index required) word (held rows pending)) idle (next_index position) (ends || false)) words)
    (all_rows c (walk_at (positional_held c (set_rule id long index required) word (held rows pending)) idle (next_index position) (ends || false)) words) result =
    subst (λ h. Comes (all_fault c (walk_at h idle (next_index position) (ends || false)) words) (all_rows c (walk_at h idle (next_index position) (ends || false)) words) result)
    (sym (positional_held_is c id long index required word rows pending)) at_ends in
    comes_after _ _ _ result (positional_is c id long index required (held rows pending) ∙ settles.fault) at_held

placed : (c : List Rule) (waiting : Waiting) (ends : Bool) (position : ℕ) (word : Text) (words : List Text) (go : Next) (rows : List Row)
    (pending : Option (Text × List Text))
    (given : List Given) (left : List Text) → GoesOn c ends words go → Settles c rows pending given → Places c position left
    → PlacedBy c (walk_at (held rows pending) waiting position ends) word words (placed_in left word (state given left None ends) go)
    (arg_by_index c position)
placed c waiting ends position word words go rows pending given [] on settles places =
    subst (PlacedBy c (walk_at (held rows pending) waiting position ends) word words None) (sym places) tt
placed c waiting ends position word words go rows pending given (place ∷ left) on settles places =
    let set = places.0 in
    subst (PlacedBy c (walk_at (held rows pending) waiting position ends) word words (give_once place word (state given left None ends) go)) (sym set.3)
    (placed_set c waiting ends position word words go rows pending given left place set.0 set.1 set.2 on settles places.1 places.2)

-- ---- the words behind the one that ends the options

behind_comes : (t : Takes) (c : List Rule) (words : List Text) → Serves t c
    → (waiting : Waiting) (rows : List Row) (pending : Option (Text × List Text)) (given : List Given)
    (left : List Text) (position : ℕ) → Settles c rows pending given → Places c position left
    → Comes (all_fault c (walk_at (held rows pending) waiting position true) words) (all_rows c (walk_at (held rows pending) waiting position true) words)
    (taken_from t words (state given left None true))
unfolding walk_fault taken_from
behind_comes t c [] serves waiting rows pending given left position settles places = end_comes t c rows pending given serves settles
behind_comes t c (word ∷ words) serves waiting rows pending given left position settles places =
    stepped c (held rows pending) waiting position true word words _
    (placed c waiting true position word words (taken_from t words) rows pending given left (record {
      doomed = λ rows id text position faulty. doomed_behind t c (held rows (Some (id, text ∷ []))) idle position words serves faulty;
      goes = behind_comes t c words serves idle;
    }) settles places)

-- ---- the words before it

-- where no option waits for its value
abbrev Ready : Takes → List Rule → List Text → Type 0
Ready t c words = (rows : List Row) (pending : Option (Text × List Text)) (given : List Given) (left : List Text) (position : ℕ) → Settles c rows pending given → Places c position left
    → Comes (all_fault c (walk_at (held rows pending) idle position false) words) (all_rows c (walk_at (held rows pending) idle position false) words)
    (taken_from t words (state given left None false))

-- where one does
abbrev Waits : Takes → List Rule → List Text → Type 0
Waits t c words = (name : Text) (rows : List Row) (given : List Given) (left : List Text) (position : ℕ) → is_option t name ≡ true → rows ≡ shown given → Places c position left
    → Comes (all_fault c (walk_at (held rows (Some (name, []))) (waits_for name) position false) words)
    (all_rows c (walk_at (held rows (Some (name, []))) (waits_for name) position false) words) (taken_from t words (state given left (Some name) false))

-- an option of the command
abbrev OptionBy : List Rule → Walk → Text → List Text → Option Text → Option (List Given) → Option Rule → Type 0
OptionBy c w word words text result found =
    Steps c w word words (long_fault c false found text w.held) (after_flag c idle word (long_met c found text w.held).0 (long_met c found text w.held).1) result

joined_goes : (t : Takes) (c : List Rule) (word : Text) (words : List Text) (rows : List Row) (pending : Option (Text × List Text)) (given : List Given)
    (left : List Text) (position : ℕ)
    (name text : Text) (long : Option Text) (index : Option ℕ) (required b : Bool) → Ready t c words → Settles c rows pending given → Places c position left
    → is_given name given ≡ b
    → OptionBy c (walk_at (held rows pending) idle position false) word words (Some text)
    (give b name text (state given left None false) (taken_from t words))
    (Some (set_rule name long index required))
joined_goes t c word words rows pending given left position name text long index required true ready settles places is =
    let now = settled_rows c pending rows in
    let h = held rows pending in
    let a = set_rule name long index required in
    let first = settle_fault c false h in
    let second = use_fault false a (text ∷ []) now in
    steps_stop c (walk_at h idle position false) word words (or_else first second) (reacted c a (text ∷ []) h, next idle)
    (second_faulty first second (subst HasFault (sym (use_is name text long index required now)) (again_faulty name now given settles.are is)))
joined_goes t c word words rows pending given left position name text long index required false ready settles places is =
    let now = settled_rows c pending rows in
    let a = set_rule name long index required in
    let h = held rows pending in
    let once : use_fault false a (text ∷ []) now ≡ [] = use_is name text long index required now ∙ again_none name now given settles.are is in
    let none : or_else (or_else (settle_fault c false h) (use_fault false a (text ∷ []) now)) [] ≡ [] = rw (settles.fault, once) refl in
    comes_after _ _ _ _ none
    (ready (used a (text ∷ []) now) None (given ++ (name, text) ∷ []) left position
    (record { fault = refl; are = used_once name text long index required now given settles.are is }) places)

option_goes : (t : Takes) (c : List Rule) (word : Text) (words : List Text) (rows : List Row) (pending : Option (Text × List Text)) (given : List Given)
    (left : List Text) (position : ℕ)
    (name : Text) (text : Option Text) (long : Option Text) (index : Option ℕ) (required : Bool) → Ready t c words → Waits t c words
    → Settles c rows pending given → Places c position left
    → is_option t name ≡ true
    → OptionBy c (walk_at (held rows pending) idle position false) word words text
    (option_in true name text (state given left None false) (taken_from t words))
    (Some (set_rule name long index required))
option_goes t c word words rows pending given left position name (Some text) long index required ready waits settles places is =
    joined_goes t c word words rows pending given left position name text long index required (is_given name given) ready settles places refl
option_goes t c word words rows pending given left position name None long index required ready waits settles places is =
    let none : or_else (settle_fault c false (held rows pending)) [] ≡ [] = rw settles.fault refl in
    comes_after _ _ _ _ none (waits name (settled_rows c pending rows) given left position is settles.are places)

long_goes : (t : Takes) (c : List Rule) (word : Text) (words : List Text) (rows : List Row) (pending : Option (Text × List Text)) (given : List Given)
    (left : List Text) (position : ℕ)
    (name : Text) (text : Option Text) → Serves t c → Ready t c words → Waits t c words → Settles c rows pending given → Places c position left
    → OptionBy c (walk_at (held rows pending) idle position false) word words text
    (option_in (is_option t name) name text (state given left None false) (taken_from t words))
    (arg_by_long c name)
long_goes t c word words rows pending given left position name text serves ready waits settles places =
    let h = held rows pending in
    let w = walk_at h idle position false in
    let go = taken_from t words in
    elim (is_option t name) as (λ b. is_option t name ≡ b → OptionBy c w word words text (option_in b name text (state given left None false) go) (arg_by_long c name)) [
      | true ↦ λ is. let set = serves.known name is in
          subst (OptionBy c w word words text (option_in true name text (state given left None false) go)) (sym set.3)
          (option_goes t c word words rows pending given left position name text set.0 set.1 set.2 ready waits settles places is)
      | false ↦ λ is. steps_stop c w word words _ _ (unknown_faulty t c h name text serves is)
    ] refl

goes_on : (t : Takes) (c : List Rule) (words : List Text) → Serves t c → AllUtf8 words → Ready t c words → GoesOn c false words (taken_from t words)
goes_on t c words serves utf8 ready = record {
  doomed = λ rows id text position faulty. doomed_idle t c rows (Some (id, text ∷ [])) position words serves utf8 faulty;
  goes = ready;
}

ready_meets : (t : Takes) (c : List Rule) (word : Text) (words : List Text) → Serves t c → AllUtf8 words → Ready t c words → Waits t c words
    → (rows : List Row) (pending : Option (Text × List Text)) (given : List Given) (left : List Text) (position : ℕ) → Settles c rows pending given
    → Places c position left
    → Meets c (held rows pending) idle position word words (λ kind. kind_in t kind word (state given left None false) (taken_from t words))
ready_meets t c word words serves utf8 ready waits rows pending given left position settles places =
    let h = held rows pending in
    let w = walk_at h idle position false in
    record {
      at_end = behind_comes t c words serves idle rows pending given left position settles places;
      at_option = λ name text. long_goes t c word words rows pending given left position name text serves ready waits settles places;
      at_hyphen = λ flags are. steps_stop c w word words _ _ (flags_faulty t c rows pending flags serves are);
      at_plain = placed c idle false position word words (taken_from t words) rows pending given left (goes_on t c words serves utf8 ready) settles places;
    }

-- the value of an option that waits
abbrev ValueBy : List Rule → Text → Walk → Text → List Text → Option (List Given) → Option Rule → Type 0
ValueBy c name w word words result found =
    Comes (all_fault c (record w { held = (option_word found name word w.held).0; waiting = (option_word found name word w.held).1 }) words)
    (all_rows c (record w { held = (option_word found name word w.held).0; waiting = (option_word found name word w.held).1 }) words) result

-- what is given once no longer waits
give_same : (b : Bool) (name text other : Text) (given : List Given) (left : List Text) (go : Next)
    → give b name text (state given left (Some other) false) go ≡ give b name text (state given left None false) go
give_same true name text other given left go = refl
give_same false name text other given left go = refl

value_goes : (t : Takes) (c : List Rule) (word : Text) (words : List Text) (name : Text) (rows : List Row) (given : List Given) (left : List Text)
    (position : ℕ)
    (long : Option Text) (index : Option ℕ) (required : Bool) → GoesOn c false words (taken_from t words) → IsSet name (arg_by_id c name)
    → rows ≡ shown given → Places c position left
    → ValueBy c name (walk_at (held rows (Some (name, []))) (waits_for name) position false) word words
    (give_once name word (state given left (Some name) false) (taken_from t words))
    (Some (set_rule name long index required))
value_goes t c word words name rows given left position long index required on set same places =
    let h = held rows (Some (name, word ∷ [])) in
    let go = taken_from t words in
    let result = give_once name word (state given left (Some name) false) go in
    let goes = given_goes c false words go rows given left position name word (is_given name given) on set same places refl in
    subst (λ b. Comes (all_fault c (walk_at h (if nat_lt (if b then 1 else 0) 1 then waits_for name else idle) position false) words)
    (all_rows c (walk_at h (if nat_lt (if b then 1 else 0) 1 then waits_for name else idle) position false) words) result) (sym (same_self name))
    (subst (Comes (all_fault c (walk_at h idle position false) words) (all_rows c (walk_at h idle position false) words)) (sym (give_same (is_given name given) name word name given left go)) goes)

waiting_meets : (t : Takes) (c : List Rule) (word : Text) (words : List Text) → Serves t c → AllUtf8 words → Ready t c words
    → (name : Text) (rows : List Row) (given : List Given) (left : List Text) (position : ℕ) → is_option t name ≡ true → rows ≡ shown given
    → Places c position left
    → Meets c (held rows (Some (name, []))) (waits_for name) position word words
    (λ kind. value_in name kind word (state given left (Some name) false) (taken_from t words))
waiting_meets t c word words serves utf8 ready name rows given left position is same places =
    let pending : Option (Text × List Text) = Some (name, []) in
    let h = held rows pending in
    let w = walk_at h (waits_for name) position false in
    let set = serves.named name is in
    let faulty = settle_empty c name rows set in
    record {
      at_end = doomed_behind t c h (waits_for name) position words serves faulty;
      at_option = λ other text. steps_stop c w word words _ _ (doomed_long t c h other text serves faulty);
      at_hyphen = λ flags are. steps_stop c w word words _ _ (flags_faulty t c rows pending flags serves are);
      at_plain = subst (ValueBy c name w word words (give_once name word (state given left (Some name) false) (taken_from t words))) (sym set.3)
          (value_goes t c word words name rows given left position set.0 set.1 set.2 (goes_on t c words serves utf8 ready) set same places);
    }

both : (t : Takes) (c : List Rule) (words : List Text) → Serves t c → AllUtf8 words → Ready t c words × Waits t c words
unfolding walk_fault taken_from
both t c [] serves utf8 = (
  λ rows pending given left position settles places. end_comes t c rows pending given serves settles,
  λ name rows given left position is same places. first_faulty (settle_fault c false (held rows (Some (name, [])))) _ (settle_empty c name rows (serves.named name is)),
)
both t c (word ∷ words) serves utf8 =
    let rest = both t c words serves utf8.1 in (
      λ rows pending given left position settles places. stepped c (held rows pending) idle position false word words _
          (met c (held rows pending) idle position word words _ utf8.0 (ready_meets t c word words serves utf8.1 rest.0 rest.1 rows pending given left position settles places) (bytes_eq word (45 ∷ 45 ∷ []))),
      λ name rows given left position is same places. stepped c (held rows (Some (name, []))) (waits_for name) position false word words _
          (met c (held rows (Some (name, []))) (waits_for name) position word words _ utf8.0 (waiting_meets t c word words serves utf8.1 rest.0 name rows given left position is same places) (bytes_eq word (45 ∷ 45 ∷ []))),
    )

-- what `clap` finds in the words of a command is what they give it
pub all_come : (t : Takes) (c : List Rule) (words : List Text) → Serves t c → Places c 1 t.places → AllUtf8 words
    → Comes (all_fault c (walk_from nothing_held) words) (all_rows c (walk_from nothing_held) words) (taken t words)
all_come t c words serves places utf8 = (both t c words serves utf8).0 [] None [] t.places 1 (record { fault = refl; are = refl }) places
