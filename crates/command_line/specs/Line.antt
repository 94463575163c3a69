-- What a command line is: words at places, and options with their values.
use Rattle.std.specs.Prelude.{◌≡◌, ◌≤◌, ◌==◌, ℕ, Bool, true, false, List, [], ◌∷◌, ◌++◌, map, filter, length, Option, Some, None}
use Rattle.std.specs.List.{flat_map, list_all, list_any}
use Rattle.std.specs.Str.{bytes_eq}
use Rattle.clap.specs.Walk.{Text}

-- an option of a command: its name, the least and the greatest number that it takes, and whether it has to be given
pub record OptionRule : Type 0 where
  pub name : Text
  pub least : ℕ
  pub most : ℕ
  pub required : Bool

-- what a command takes behind its name: its places, by what stands there, each of which has to be given, and its options
pub record Takes : Type 0 where
  pub places : List Text
  pub options : List OptionRule

-- what was given: the name of a place or of an option, and its text
abbrev pub Given : Type 0
Given = Text × Text

abbrev pub is_given : Text → List Given → Bool
is_given name given = list_any (λ one. bytes_eq one.0 name) given

abbrev pub is_option : Takes → Text → Bool
is_option takes name = list_any (λ rule. bytes_eq rule.name name) takes.options

-- the names that have to be given
abbrev pub needed : Takes → List Text
needed takes = takes.places ++ map (λ rule. rule.name) (filter (λ rule. rule.required) takes.options)

-- a part of a command line: a word at a place, `--name=VALUE` or `--name VALUE`
pub data Part : Type 0 where
  placed : Text → Part
  joined : Text → Text → Part
  apart : Text → Text → Part

-- a command line: its parts, and the words at places behind the word `--`, where that stands there
pub record CommandLine : Type 0 where
  pub parts : List Part
  pub behind : Option (List Text)

-- the words of a command line
abbrev pub part_words : Part → List Text
part_words (placed word) = word ∷ []
part_words (joined name value) = (45 ∷ 45 ∷ name ++ 61 ∷ value) ∷ []
part_words (apart name value) = (45 ∷ 45 ∷ name) ∷ value ∷ []

abbrev pub behind_words : Option (List Text) → List Text
behind_words None = []
behind_words (Some words) = (45 ∷ 45 ∷ []) ∷ words

abbrev pub line_words : CommandLine → List Text
line_words line = flat_map part_words line.parts ++ behind_words line.behind

-- its words at places
abbrev pub part_places : Part → List Text
part_places (placed word) = word ∷ []
part_places (joined name value) = []
part_places (apart name value) = []

abbrev pub behind_places : Option (List Text) → List Text
behind_places None = []
behind_places (Some words) = words

abbrev pub line_places : List Part → Option (List Text) → List Text
line_places parts behind = flat_map part_places parts ++ behind_places behind

-- what it gives: the words at places go to the places in their order, the values to their options
abbrev pub places_given : List Text → List Text → List Given
places_given [] words = []
places_given (place ∷ left) [] = []
places_given (place ∷ left) (word ∷ words) = (place, word) ∷ places_given left words

abbrev pub place_given : List Text → Text → (List Text → List Given) → List Given
place_given [] word rest = rest []
place_given (place ∷ left) word rest = (place, word) ∷ rest left

abbrev pub part_given : Part → List Text → (List Text → List Given) → List Given
part_given (placed word) left rest = place_given left word rest
part_given (joined name value) left rest = (name, value) ∷ rest left
part_given (apart name value) left rest = (name, value) ∷ rest left

abbrev pub parts_given : List Part → Option (List Text) → List Text → List Given
parts_given [] behind left = places_given left (behind_places behind)
parts_given (part ∷ parts) behind left = part_given part left (parts_given parts behind)

abbrev pub line_given : Takes → CommandLine → List Given
line_given takes line = parts_given line.parts line.behind takes.places

-- a word that may stand before `--` and is no option: it doesn't begin with a hyphen, but it may be one
abbrev pub IsPlain : Text → Type 0
IsPlain [] = Unit {0}
IsPlain (byte ∷ []) = Unit {0}
IsPlain (byte ∷ next ∷ rest) = (byte == 45) ≡ false

-- a part of a line of the command: a plain word, or one of its options, whose value is a plain word where it stands apart
abbrev pub IsPart : Takes → Part → Type 0
IsPart takes (placed word) = IsPlain word
IsPart takes (joined name value) = is_option takes name ≡ true
IsPart takes (apart name value) = (is_option takes name ≡ true) × IsPlain value

abbrev pub AreParts : Takes → List Part → Type 0
AreParts takes [] = Unit {0}
AreParts takes (part ∷ parts) = IsPart takes part × AreParts takes parts

-- nothing of this was given before, and nothing comes twice
abbrev pub Fresh : List Given → List Given → Type 0
Fresh before [] = Unit {0}
Fresh before (one ∷ given) = (is_given one.0 before ≡ false) × Fresh (before ++ one ∷ []) given

-- a command line of the command: each part is one of it, there are no more words at places than places, nothing is given twice, and what has to be given is
pub record IsLine (takes : Takes) (line : CommandLine) : Type 0 where
  pub parts : AreParts takes line.parts
  pub few : length (line_places line.parts line.behind) ≤ length takes.places
  pub once : Fresh [] (line_given takes line)
  pub all : list_all (λ name. is_given name (line_given takes line)) (needed takes) ≡ true

-- the names of options can be told from their values: none is empty, and none has the byte `=`
abbrev pub IsOptionName : Text → Type 0
IsOptionName [] = ⊥
IsOptionName (byte ∷ rest) = list_any (λ x. x == 61) (byte ∷ rest) ≡ false

abbrev pub AreOptionNames : List OptionRule → Type 0
AreOptionNames [] = Unit {0}
AreOptionNames (rule ∷ rules) = IsOptionName rule.name × AreOptionNames rules

-- the words are a command line that gives this
pub record GivenByLine (takes : Takes) (words : List Text) (given : List Given) : Type 0 where
  pub line : CommandLine
  pub lawful : IsLine takes line
  pub spelled : line_words line ≡ words
  pub are : line_given takes line ≡ given
