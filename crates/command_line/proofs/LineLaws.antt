-- What words give is what the command line gives that they spell.
use Rattle.std.proofs.Common.{◌≡◌, ◌∙◌, ◌≤◌, ◌+◌, ℕ, Bool, true, false, suc, List, [], ◌∷◌, ◌++◌, length, take, drop, Option, Some, None, refl, sym, ap, subst, arith, ◌==◌, ◌||◌, append-nil, append_assoc}
use Rattle.std.specs.Prelude.{if◌then◌else◌, not, option_and_then}
use Rattle.std.specs.List.{flat_map, list_all, list_any, before_first, after_first, position_or_len}
use Rattle.std.specs.Str.{bytes_eq}
use Rattle.std.proofs.lemmas.Bool.{false≢true, eqb-true, or_parts}
use Rattle.clap.specs.Lexer.{long_of, long_of_rest, short_of, short_of_rest, strip_byte}
use Rattle.clap.specs.Walk.{Text}
use Rattle.command_line.specs.Line.{OptionRule, Takes, Part, CommandLine, Given, GivenByLine, IsLine, AreParts, IsPlain, IsOptionName, AreOptionNames, Fresh, is_given, is_option, needed, line_given, line_words, line_places, part_words, behind_words, parts_given, places_given}
use Rattle.command_line.specs.Line.Part.{placed, joined, apart}
use Rattle.command_line.specs.Taking.{Taken, Next, Kind, kind_of, kind_by, long_kind, give, give_once, option_in, kind_in, value_in, end_in, taken_from, taken}
use Rattle.command_line.proofs.SetRules.{same_self, same_text}

abbrev ender : Text
ender = 45 ∷ 45 ∷ []

abbrev equals : ℕ → Bool
equals x = x == 61

-- ---- a text with `=` in it, and one without

take_one : (n k x : ℕ) (xs : Text) → k ≡ suc n → take k (x ∷ xs) ≡ x ∷ take n xs
take_one n k x xs is = ap (λ m. take m (x ∷ xs)) is

drop_one : (n k x : ℕ) (xs : Text) → k ≡ suc n → drop k (x ∷ xs) ≡ drop n xs
drop_one n k x xs is = ap (λ m. drop m (x ∷ xs)) is

-- where the first `=` stands
abbrev equals_at : Text → ℕ
equals_at xs = position_or_len equals xs

take_next : (x : ℕ) (xs : Text) → take (1 + equals_at xs) (x ∷ xs) ≡ x ∷ before_first equals xs
take_next x xs = take_one (equals_at xs) (1 + equals_at xs) x xs (omega arith)

drop_next : (x : ℕ) (xs : Text) → drop ((1 + equals_at xs) + 1) (x ∷ xs) ≡ after_first equals xs
drop_next x xs = drop_one (equals_at xs + 1) ((1 + equals_at xs) + 1) x xs (omega arith)

joined_text : (xs : Text) → list_any equals xs ≡ true → xs ≡ before_first equals xs ++ 61 ∷ after_first equals xs
joined_text [] has = absurd (false≢true has)
joined_text (x ∷ xs) has = go (x == 61) (eqb-true x 61) has (joined_text xs)
  where
    go : (t : Bool) → (t ≡ true → x ≡ 61) → (t || list_any equals xs) ≡ true
        → (list_any equals xs ≡ true → xs ≡ before_first equals xs ++ 61 ∷ after_first equals xs)
        → x ∷ xs ≡ take (if not t then 1 + equals_at xs else 0) (x ∷ xs) ++ 61 ∷ drop ((if not t then 1 + equals_at xs else 0) + 1) (x ∷ xs)
    go true is h rest = ap (λ y. y ∷ xs) (is refl)
    go false is h rest =
        ap (λ ys. x ∷ ys) (rest h) ∙ ap (λ front. front ++ 61 ∷ after_first equals xs) (sym (take_next x xs))
        ∙ ap (λ back. take (1 + equals_at xs) (x ∷ xs) ++ 61 ∷ back) (sym (drop_next x xs))

apart_text : (xs : Text) → list_any equals xs ≡ false → before_first equals xs ≡ xs
apart_text [] none = refl
apart_text (x ∷ xs) none = go (x == 61) none (apart_text xs)
  where
    go : (t : Bool) → (t || list_any equals xs) ≡ false → (list_any equals xs ≡ false → before_first equals xs ≡ xs)
        → take (if not t then 1 + equals_at xs else 0) (x ∷ xs) ≡ x ∷ xs
    go true h rest = absurd (false≢true (sym h))
    go false h rest = take_next x xs ∙ ap (λ ys. x ∷ ys) (rest h)

record IsCut (name value : Text) : Type 0 where
  before : before_first equals (name ++ 61 ∷ value) ≡ name
  after : after_first equals (name ++ 61 ∷ value) ≡ value
  has : list_any equals (name ++ 61 ∷ value) ≡ true

cut_step : (x : ℕ) (xs value : Text) → IsCut xs value → (t : Bool) → t ≡ false
    → (take (if not t then 1 + equals_at (xs ++ 61 ∷ value) else 0) (x ∷ xs ++ 61 ∷ value) ≡ x ∷ xs)
    × (drop ((if not t then 1 + equals_at (xs ++ 61 ∷ value) else 0) + 1) (x ∷ xs ++ 61 ∷ value) ≡ value) × ((t || list_any equals (xs ++ 61 ∷ value)) ≡ true)
cut_step x xs value cut true is = absurd (false≢true (sym is))
cut_step x xs value cut false is = (
  take_next x (xs ++ 61 ∷ value) ∙ ap (λ ys. x ∷ ys) cut.before,
  drop_next x (xs ++ 61 ∷ value) ∙ cut.after,
  cut.has,
)

cut_at : (name value : Text) → list_any equals name ≡ false → IsCut name value
cut_at [] value none = record { before = refl; after = refl; has = refl }
cut_at (x ∷ xs) value none =
    let no = or_parts (x == 61) (list_any equals xs) none in
    let here = cut_step x xs value (cut_at xs value no.1) (x == 61) no.0 in
    record { before = here.0; after = here.1; has = here.2 }

-- ---- what a word of each kind is

abbrev Says : Kind → Text → Type 0
Says Kind.ender word = word ≡ ender
Says (Kind.option name None) word = word ≡ 45 ∷ 45 ∷ name
Says (Kind.option name (Some value)) word = word ≡ 45 ∷ 45 ∷ name ++ 61 ∷ value
Says Kind.hyphened word = Unit {0}
Says Kind.plain word = IsPlain word

says_named : (d : ℕ) (ds : Text) (has : Bool) → list_any equals (d ∷ ds) ≡ has
    → Says (Kind.option (before_first equals (d ∷ ds)) (if has then Some (after_first equals (d ∷ ds)) else None)) (45 ∷ 45 ∷ d ∷ ds)
says_named d ds true is = ap (λ xs. 45 ∷ 45 ∷ xs) (joined_text (d ∷ ds) is)
says_named d ds false is = ap (λ xs. 45 ∷ 45 ∷ xs) (sym (apart_text (d ∷ ds) is))

-- behind one hyphen
abbrev long_behind : Bool → Text → Option (Text × Option Text)
long_behind u more = option_and_then long_of_rest (if u then Some more else None)

says_two : (b c : ℕ) (more : Text) (u : Bool) → b ≡ 45 → (u ≡ true → c ≡ 45) → (b ∷ c ∷ more ≡ ender → ⊥)
    → Says (long_kind (long_behind u more) (if u then None else Some (c ∷ more))) (b ∷ c ∷ more)
says_two b c more false hyphen is other = tt
says_two b c [] true hyphen is other = absurd (other (ap (λ x. x ∷ c ∷ []) hyphen ∙ ap (λ x. 45 ∷ x ∷ []) (is refl)))
says_two b c (d ∷ ds) true hyphen is other =
    let same : 45 ∷ 45 ∷ d ∷ ds ≡ b ∷ c ∷ d ∷ ds = ap (λ x. x ∷ 45 ∷ d ∷ ds) (sym hyphen) ∙ ap (λ x. b ∷ x ∷ d ∷ ds) (sym (is refl)) in
    subst (Says (Kind.option (before_first equals (d ∷ ds)) (if list_any equals (d ∷ ds) then Some (after_first equals (d ∷ ds)) else None))) same (says_named d ds (list_any equals (d ∷ ds)) refl)

says_one : (b : ℕ) (rest : Text) (t : Bool) → (b == 45) ≡ t → (t ≡ true → b ≡ 45) → (b ∷ rest ≡ ender → ⊥)
    → Says
    (long_kind (option_and_then long_of_rest (option_and_then (strip_byte 45) (if t then Some rest else None))) (option_and_then short_of_rest (if t then Some rest else None))) (b ∷ rest)
says_one b [] false eq is other = tt
says_one b (c ∷ more) false eq is other = eq
says_one b [] true eq is other = tt
says_one b (c ∷ more) true eq is other = says_two b c more (c == 45) (is refl) (eqb-true c 45) other

says_long : (word : Text) → (word ≡ ender → ⊥) → Says (long_kind (long_of word) (short_of word)) word
says_long [] other = tt
says_long (b ∷ rest) other = says_one b rest (b == 45) refl (eqb-true b 45) other

kind_says : (word : Text) → Says (kind_of word) word
kind_says word =
    elim (bytes_eq word ender) as (λ t. bytes_eq word ender ≡ t → Says (kind_by t (long_of word) (short_of word)) word) [
      | true ↦ λ is. same_text word ender is
      | false ↦ λ is. says_long word (λ same. false≢true (sym is ∙ (ap (λ w. bytes_eq w ender) same ∙ same_self ender)))
    ] refl

no_ender : (word : Text) → (word ≡ ender → ⊥) → bytes_eq word ender ≡ false
no_ender word other =
    elim (bytes_eq word ender) as (λ t. bytes_eq word ender ≡ t → bytes_eq word ender ≡ false) [
      | true ↦ λ is. absurd (other (same_text word ender is))
      | false ↦ λ is. is
    ] refl

kind_other : (word : Text) → (word ≡ ender → ⊥) → kind_of word ≡ long_kind (long_of word) (short_of word)
kind_other word other = ap (λ t. kind_by t (long_of word) (short_of word)) (no_ender word other)

kind_ender : kind_of ender ≡ Kind.ender
kind_ender = ap (λ t. kind_by t (long_of ender) (short_of ender)) (same_self ender)

kind_plain : (word : Text) → IsPlain word → kind_of word ≡ Kind.plain
kind_plain [] plain = kind_other [] (λ same. absurd cc)
kind_plain (b ∷ []) plain = kind_other (b ∷ []) (λ same. absurd cc) ∙ go (b == 45)
  where
    go : (t : Bool)
        → long_kind (option_and_then long_of_rest (option_and_then (strip_byte 45) (if t then Some [] else None)))
        (option_and_then short_of_rest (if t then Some [] else None)) ≡ Kind.plain
    go true = refl
    go false = refl
kind_plain (b ∷ c ∷ rest) plain =
    kind_other (b ∷ c ∷ rest) (λ same. let hyphen : b ≡ 45 = cc in let is : (45 == 45) ≡ false = subst (λ x. (x == 45) ≡ false) hyphen plain in false≢true (sym is))
    ∙ ap (λ t. long_kind (option_and_then long_of_rest (option_and_then (strip_byte 45) (if t then Some (c ∷ rest) else None))) (option_and_then short_of_rest (if t then Some (c ∷ rest) else None))) plain

kind_joined : (name value : Text) → IsOptionName name → kind_of (45 ∷ 45 ∷ name ++ 61 ∷ value) ≡ Kind.option name (Some value)
kind_joined [] value none = absurd none
kind_joined (x ∷ xs) value none =
    let text = (x ∷ xs) ++ 61 ∷ value in
    let cut = cut_at (x ∷ xs) value none in
    kind_other (45 ∷ 45 ∷ text) (λ same. absurd cc)
    ∙ ap (λ before. Kind.option before (if list_any equals text then Some (after_first equals text) else None)) cut.before
    ∙ ap (λ t. Kind.option (x ∷ xs) (if t then Some (after_first equals text) else None)) cut.has
    ∙ ap (λ after. Kind.option (x ∷ xs) (Some after)) cut.after

kind_apart : (name : Text) → IsOptionName name → kind_of (45 ∷ 45 ∷ name) ≡ Kind.option name None
kind_apart [] none = absurd none
kind_apart (x ∷ xs) none =
    kind_other (45 ∷ 45 ∷ x ∷ xs) (λ same. absurd cc)
    ∙ ap (λ before. Kind.option before (if list_any equals (x ∷ xs) then Some (after_first equals (x ∷ xs)) else None)) (apart_text (x ∷ xs) none)
    ∙ ap (λ t. Kind.option (x ∷ xs) (if t then Some (after_first equals (x ∷ xs)) else None)) none

option_name : (name : Text) (os : List OptionRule) → AreOptionNames os → list_any (λ o. bytes_eq o.name name) os ≡ true → IsOptionName name
option_name name [] names has = absurd (false≢true has)
option_name name (o ∷ os) names has = go (bytes_eq o.name name) (same_text o.name name) has (option_name name os names.1)
  where
    go : (t : Bool) → (t ≡ true → o.name ≡ name) → (t || list_any (λ o. bytes_eq o.name name) os) ≡ true
        → (list_any (λ o. bytes_eq o.name name) os ≡ true → IsOptionName name) → IsOptionName name
    go true is h rest = subst IsOptionName (is refl) names.0
    go false is h rest = rest h

-- ---- a command line gives what its words give

abbrev state : List Given → List Text → Option Text → Bool → Taken
state given left waiting ends = record { given = given; left = left; waiting = waiting; ended = ends }

append_one : (given : List Given) (one : Given) (rest : List Given) → (given ++ one ∷ []) ++ rest ≡ given ++ one ∷ rest
append_one given one rest = append_assoc given (one ∷ []) rest

-- all that has to be given is, and then the end gives it
abbrev IsAll : Takes → List Given → Type 0
IsAll t given = list_all (λ name. is_given name given) (needed t) ≡ true

end_all : (t : Takes) (given : List Given) → IsAll t given → end_in t None given ≡ Some given
end_all t given all = ap (λ b. if b then Some given else None) all

give_new : (name text : Text) (t : Taken) (next : Next) → is_given name t.given ≡ false
    → give_once name text t next ≡ next (record t { given = t.given ++ (name, text) ∷ []; waiting = None })
give_new name text t next none = ap (λ b. give b name text t next) none

behind_complete : (t : Takes) (words : List Text) (given : List Given) (left : List Text) → length words ≤ length left
    → Fresh given (places_given left words) → IsAll t (given ++ places_given left words)
    → taken_from t words (state given left None true) ≡ Some (given ++ places_given left words)
unfolding taken_from
behind_complete t [] given [] few fresh all = end_all t given (subst (IsAll t) (append-nil given) all) ∙ ap Some (sym (append-nil given))
behind_complete t [] given (place ∷ left) few fresh all = end_all t given (subst (IsAll t) (append-nil given) all) ∙ ap Some (sym (append-nil given))
behind_complete t (word ∷ words) given [] few fresh all = absurd (omega (arith, few))
behind_complete t (word ∷ words) given (place ∷ left) few fresh all =
    let one : Given = (place, word) in
    let rest = places_given left words in
    give_new place word (state given left None true) (taken_from t words) fresh.0
    ∙ behind_complete t words (given ++ one ∷ []) left (omega (arith, few)) fresh.1 (subst (IsAll t) (sym (append_one given one rest)) all)
    ∙ ap Some (append_one given one rest)

complete : (t : Takes) (parts : List Part) (behind : Option (List Text)) (given : List Given) (left : List Text) → AreOptionNames t.options → AreParts t parts
    → length (line_places parts behind) ≤ length left → Fresh given (parts_given parts behind left) → IsAll t (given ++ parts_given parts behind left)
    → taken_from t (flat_map part_words parts ++ behind_words behind) (state given left None false) ≡ Some (given ++ parts_given parts behind left)
unfolding taken_from
complete t [] None given [] names are few fresh all = end_all t given (subst (IsAll t) (append-nil given) all) ∙ ap Some (sym (append-nil given))
complete t [] None given (place ∷ left) names are few fresh all = end_all t given (subst (IsAll t) (append-nil given) all) ∙ ap Some (sym (append-nil given))
complete t [] (Some words) given left names are few fresh all =
    ap (λ kind. kind_in t kind ender (state given left None false) (taken_from t words)) kind_ender ∙ behind_complete t words given left few fresh all
complete t (placed word ∷ parts) behind given [] names are few fresh all = absurd (omega (arith, few))
complete t (placed word ∷ parts) behind given (place ∷ left) names are few fresh all =
    let one : Given = (place, word) in
    let rest = parts_given parts behind left in
    let words = flat_map part_words parts ++ behind_words behind in
    ap (λ kind. kind_in t kind word (state given (place ∷ left) None false) (taken_from t words)) (kind_plain word are.0)
    ∙ give_new place word (state given left None false) (taken_from t words) fresh.0
    ∙ complete t parts behind (given ++ one ∷ []) left names are.1 (omega (arith, few)) fresh.1 (subst (IsAll t) (sym (append_one given one rest)) all)
    ∙ ap Some (append_one given one rest)
complete t (joined name value ∷ parts) behind given left names are few fresh all =
    let one : Given = (name, value) in
    let rest = parts_given parts behind left in
    let words = flat_map part_words parts ++ behind_words behind in
    ap (λ kind. kind_in t kind (45 ∷ 45 ∷ name ++ 61 ∷ value) (state given left None false) (taken_from t words)) (kind_joined name value (option_name name t.options names are.0))
    ∙ ap (λ b. option_in b name (Some value) (state given left None false) (taken_from t words)) are.0
    ∙ give_new name value (state given left None false) (taken_from t words) fresh.0
    ∙ complete t parts behind (given ++ one ∷ []) left names are.1 few fresh.1 (subst (IsAll t) (sym (append_one given one rest)) all)
    ∙ ap Some (append_one given one rest)
complete t (apart name value ∷ parts) behind given left names are few fresh all =
    let one : Given = (name, value) in
    let rest = parts_given parts behind left in
    let words = flat_map part_words parts ++ behind_words behind in
    ap (λ kind. kind_in t kind (45 ∷ 45 ∷ name) (state given left None false) (taken_from t (value ∷ words))) (kind_apart name (option_name name t.options names are.0.0))
    ∙ ap (λ b. option_in b name None (state given left None false) (taken_from t (value ∷ words))) are.0.0
    ∙ ap (λ kind. value_in name kind value (state given left (Some name) false) (taken_from t words)) (kind_plain value are.0.1)
    ∙ give_new name value (state given left (Some name) false) (taken_from t words) fresh.0
    ∙ complete t parts behind (given ++ one ∷ []) left names are.1 few fresh.1 (subst (IsAll t) (sym (append_one given one rest)) all)
    ∙ ap Some (append_one given one rest)

-- the words of a command line give what it gives
pub line_taken : (t : Takes) (line : CommandLine) → AreOptionNames t.options → IsLine t line → taken t (line_words line) ≡ Some (line_given t line)
line_taken t line names is = complete t line.parts line.behind [] t.places names is.parts is.few is.once is.all

-- ---- what words give is given by a command line

record From (t : Takes) (before : List Given) (left : List Text) (words : List Text) (given : List Given) : Type 0 where
  parts : List Part
  behind : Option (List Text)
  spelled : flat_map part_words parts ++ behind_words behind ≡ words
  are : AreParts t parts
  few : length (line_places parts behind) ≤ length left
  once : Fresh before (parts_given parts behind left)
  is : before ++ parts_given parts behind left ≡ given
  all : IsAll t given

record FromBehind (t : Takes) (before : List Given) (left : List Text) (words : List Text) (given : List Given) : Type 0 where
  few : length words ≤ length left
  once : Fresh before (places_given left words)
  is : before ++ places_given left words ≡ given
  all : IsAll t given

-- an option that waits has its value
record FromValue (t : Takes) (before : List Given) (left : List Text) (name : Text) (words : List Text) (given : List Given) : Type 0 where
  value : Text
  rest : List Text
  words_are : words ≡ value ∷ rest
  plain : IsPlain value
  new : is_given name before ≡ false
  from : From t (before ++ (name, value) ∷ []) left rest given

end_from : (t : Takes) (before given : List Given) → end_in t None before ≡ Some given → (before ≡ given) × IsAll t before
end_from t before given = go (list_all (λ name. is_given name before) (needed t)) refl
  where
    go : (b : Bool) → list_all (λ name. is_given name before) (needed t) ≡ b → (if b then Some before else None) ≡ Some given
        → (before ≡ given) × IsAll t before
    go true is h = let same : before ≡ given = cc in (same, is)
    go false is h = absurd cc

-- what is given once was new
record FromNew (name text : Text) (t : Taken) (next : Next) (given : List Given) : Type 0 where
  new : is_given name t.given ≡ false
  on : next (record t { given = t.given ++ (name, text) ∷ []; waiting = None }) ≡ Some given

new_from : (name text : Text) (t : Taken) (next : Next) (given : List Given) → give_once name text t next ≡ Some given → FromNew name text t next given
new_from name text t next given = go (is_given name t.given) refl
  where
    go : (b : Bool) → is_given name t.given ≡ b → give b name text t next ≡ Some given → FromNew name text t next given
    go true is h = absurd cc
    go false is h = record { new = is; on = h }

behind_from : (t : Takes) (words : List Text) (before : List Given) (left : List Text) (given : List Given)
    → taken_from t words (state before left None true) ≡ Some given
    → FromBehind t before left words given
unfolding taken_from
behind_from t [] before [] given h =
    let done = end_from t before given h in
    record { few = omega arith; once = tt; is = append-nil before ∙ done.0; all = subst (IsAll t) done.0 done.1 }
behind_from t [] before (place ∷ left) given h =
    let done = end_from t before given h in
    record { few = omega arith; once = tt; is = append-nil before ∙ done.0; all = subst (IsAll t) done.0 done.1 }
behind_from t (word ∷ words) before [] given h = absurd cc
behind_from t (word ∷ words) before (place ∷ left) given h =
    let new = new_from place word (state before left None true) (taken_from t words) given h in
    let rest = behind_from t words (before ++ (place, word) ∷ []) left given new.on in
    record {
      few = omega (arith, rest.few);
      once = (new.new, rest.once);
      is = sym (append_one before (place, word) (places_given left words)) ∙ rest.is;
      all = rest.all;
    }

from_end : (t : Takes) (words : List Text) (before : List Given) (left : List Text) (given : List Given) → FromBehind t before left words given
    → From t before left (ender ∷ words) given
from_end t words before left given from = record {
  parts = [];
  behind = Some words;
  spelled = refl;
  are = tt;
  few = from.few;
  once = from.once;
  is = from.is;
  all = from.all;
}

from_placed : (t : Takes) (place word : Text) (words : List Text) (before : List Given) (left : List Text) (given : List Given) → IsPlain word
    → is_given place before ≡ false
    → From t (before ++ (place, word) ∷ []) left words given → From t before (place ∷ left) (word ∷ words) given
from_placed t place word words before left given plain new from = record {
  parts = placed word ∷ from.parts;
  behind = from.behind;
  spelled = ap (λ ws. word ∷ ws) from.spelled;
  are = (plain, from.are);
  few = omega (arith, from.few);
  once = (new, from.once);
  is = sym (append_one before (place, word) (parts_given from.parts from.behind left)) ∙ from.is;
  all = from.all;
}

from_joined : (t : Takes) (name value word : Text) (words : List Text) (before : List Given) (left : List Text) (given : List Given)
    → word ≡ 45 ∷ 45 ∷ name ++ 61 ∷ value
    → is_option t name ≡ true → is_given name before ≡ false → From t (before ++ (name, value) ∷ []) left words given
    → From t before left (word ∷ words) given
from_joined t name value word words before left given same known new from = record {
  parts = joined name value ∷ from.parts;
  behind = from.behind;
  spelled = ap (λ ws. (45 ∷ 45 ∷ name ++ 61 ∷ value) ∷ ws) from.spelled ∙ ap (λ w. w ∷ words) (sym same);
  are = (known, from.are);
  few = from.few;
  once = (new, from.once);
  is = sym (append_one before (name, value) (parts_given from.parts from.behind left)) ∙ from.is;
  all = from.all;
}

from_apart : (t : Takes) (name word : Text) (words : List Text) (before : List Given) (left : List Text) (given : List Given) → word ≡ 45 ∷ 45 ∷ name
    → is_option t name ≡ true → FromValue t before left name words given → From t before left (word ∷ words) given
from_apart t name word words before left given same known value = record {
  parts = apart name value.value ∷ value.from.parts;
  behind = value.from.behind;
  spelled = ap (λ ws. (45 ∷ 45 ∷ name) ∷ value.value ∷ ws) value.from.spelled ∙ ap (λ w. w ∷ value.value ∷ value.rest) (sym same) ∙ ap (λ ws. word ∷ ws) (sym value.words_are);
  are = ((known, value.plain), value.from.are);
  few = value.from.few;
  once = (value.new, value.from.once);
  is = sym (append_one before (name, value.value) (parts_given value.from.parts value.from.behind left)) ∙ value.from.is;
  all = value.from.all;
}

abbrev Sound : Takes → List Text → Type 0
Sound t words = (before : List Given) (left : List Text) (given : List Given) → taken_from t words (state before left None false) ≡ Some given → From t before left words given

abbrev SoundValue : Takes → List Text → Type 0
SoundValue t words = (name : Text) (before : List Given) (left : List Text) (given : List Given) → taken_from t words (state before left (Some name) false) ≡ Some given
    → FromValue t before left name words given

option_from : (t : Takes) (word : Text) (words : List Text) → Sound t words → SoundValue t words
    → (name : Text) (text : Option Text) (before : List Given) (left : List Text) (given : List Given)
    (known : Bool) → is_option t name ≡ known → Says (Kind.option name text) word
    → option_in known name text (state before left None false) (taken_from t words) ≡ Some given
    → From t before left (word ∷ words) given
option_from t word words sound valued name text before left given false is says h = absurd cc
option_from t word words sound valued name None before left given true is says h = from_apart t name word words before left given says is (valued name before left given h)
option_from t word words sound valued name (Some value) before left given true is says h =
    let new = new_from name value (state before left None false) (taken_from t words) given h in
    from_joined t name value word words before left given says is new.new (sound (before ++ (name, value) ∷ []) left given new.on)

kind_from : (t : Takes) (word : Text) (words : List Text) → Sound t words → SoundValue t words
    → (kind : Kind) (before : List Given) (left : List Text) (given : List Given) → Says kind word
    → kind_in t kind word (state before left None false) (taken_from t words) ≡ Some given → From t before left (word ∷ words) given
kind_from t word words sound valued Kind.ender before left given says h =
    subst (λ w. From t before left (w ∷ words) given) (sym says) (from_end t words before left given (behind_from t words before left given h))
kind_from t word words sound valued (Kind.option name text) before left given says h = option_from t word words sound valued name text before left given (is_option t name) refl says h
kind_from t word words sound valued Kind.hyphened before left given says h = absurd cc
kind_from t word words sound valued Kind.plain before [] given says h = absurd cc
kind_from t word words sound valued Kind.plain before (place ∷ left) given says h =
    let new = new_from place word (state before left None false) (taken_from t words) given h in
    from_placed t place word words before left given says new.new (sound (before ++ (place, word) ∷ []) left given new.on)

value_from : (t : Takes) (word : Text) (words : List Text) → Sound t words
    → (kind : Kind) (name : Text) (before : List Given) (left : List Text) (given : List Given) → Says kind word
    → value_in name kind word (state before left (Some name) false) (taken_from t words) ≡ Some given → FromValue t before left name (word ∷ words) given
value_from t word words sound Kind.ender name before left given says h = absurd cc
value_from t word words sound (Kind.option other text) name before left given says h = absurd cc
value_from t word words sound Kind.hyphened name before left given says h = absurd cc
value_from t word words sound Kind.plain name before left given says h =
    let new = new_from name word (state before left (Some name) false) (taken_from t words) given h in
    record { value = word; rest = words; words_are = refl; plain = says; new = new.new; from = sound (before ++ (name, word) ∷ []) left given new.on }

both_sound : (t : Takes) (words : List Text) → Sound t words × SoundValue t words
unfolding taken_from
both_sound t [] = (
  λ before left given h. from_nothing before left given (end_from t before given h),
  λ name before left given h. absurd cc,
)
  where
    from_nothing : (before : List Given) (left : List Text) (given : List Given) → (before ≡ given) × IsAll t before → From t before left [] given
    from_nothing before [] given done =
        record { parts = []; behind = None; spelled = refl; are = tt; few = omega arith; once = tt; is = append-nil before ∙ done.0; all = subst (IsAll t) done.0 done.1 }
    from_nothing before (place ∷ left) given done =
        record { parts = []; behind = None; spelled = refl; are = tt; few = omega arith; once = tt; is = append-nil before ∙ done.0; all = subst (IsAll t) done.0 done.1 }
both_sound t (word ∷ words) =
    let rest = both_sound t words in (
      λ before left given h. kind_from t word words rest.0 rest.1 (kind_of word) before left given (kind_says word) h,
      λ name before left given h. value_from t word words rest.0 (kind_of word) name before left given (kind_says word) h,
    )

-- what words give is given by a command line that they spell
pub taken_by_line : (t : Takes) (words : List Text) (given : List Given) → taken t words ≡ Some given → GivenByLine t words given
taken_by_line t words given h =
    let from = (both_sound t words).0 [] t.places given h in
    record {
      line = record { parts = from.parts; behind = from.behind };
      lawful = record { parts = from.are; few = from.few; once = from.once; all = subst (IsAll t) (sym from.is) from.all };
      spelled = from.spelled;
      are = from.is;
    }
