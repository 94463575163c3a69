-- What words give a command, word by word.
use Rattle.std.specs.Prelude.{Bool, true, false, List, [], ◌∷◌, ◌++◌, Option, Some, None, if◌then◌else◌, option_and_then, find}
use Rattle.std.specs.List.{list_all}
use Rattle.std.specs.Str.{bytes_eq}
use Rattle.clap.specs.Lexer.{long_of, short_of}
use Rattle.clap.specs.Walk.{Text}
use Rattle.command_line.specs.Line.{Takes, Given, is_given, is_option, needed}

-- the text of a name
abbrev pub given_text : Text → List Given → Option Text
given_text name given = option_and_then (λ one. Some one.1) (find (λ one. bytes_eq one.0 name) given)

-- what a word is: the one that ends the options, an option with the value that is joined to it, another one with a hyphen, or one for a place
pub data Kind : Type 0 where
  ender : Kind
  option : Text → Option Text → Kind
  hyphened : Kind
  plain : Kind

abbrev pub short_kind : Option Text → Kind
short_kind None = plain
short_kind (Some flags) = hyphened

abbrev pub long_kind : Option (Text × Option Text) → Option Text → Kind
long_kind (Some long) short = option long.0 long.1
long_kind None short = short_kind short

abbrev pub kind_by : Bool → Option (Text × Option Text) → Option Text → Kind
kind_by true long short = ender
kind_by false long short = long_kind long short

abbrev pub kind_of : Text → Kind
kind_of word = kind_by (bytes_eq word (45 ∷ 45 ∷ [])) (long_of word) (short_of word)

-- what was given so far, the places that are left, the option that waits for its value, and whether the options have ended
pub record Taken : Type 0 where
  pub given : List Given
  pub left : List Text
  pub waiting : Option Text
  pub ended : Bool

-- what goes on with what is taken
abbrev pub Next : Type 0
Next = Taken → Option (List Given)

-- a name is given once
abbrev pub give : Bool → Text → Text → Taken → Next → Option (List Given)
give true name text t next = None
give false name text t next = next (record t { given = t.given ++ (name, text) ∷ []; waiting = None })

abbrev pub give_once : Text → Text → Taken → Next → Option (List Given)
give_once name text t next = give (is_given name t.given) name text t next

-- a word at the next place
abbrev pub placed_in : List Text → Text → Taken → Next → Option (List Given)
placed_in [] word t next = None
placed_in (place ∷ left) word t next = give_once place word (record t { left = left }) next

-- an option of the command, with its value or before it
abbrev pub option_in : Bool → Text → Option Text → Taken → Next → Option (List Given)
option_in false name value t next = None
option_in true name (Some text) t next = give_once name text t next
option_in true name None t next = next (record t { waiting = Some name })

-- a word where no option waits
abbrev pub kind_in : Takes → Kind → Text → Taken → Next → Option (List Given)
kind_in takes ender word t next = next (record t { ended = true })
kind_in takes (option name value) word t next = option_in (is_option takes name) name value t next
kind_in takes hyphened word t next = None
kind_in takes plain word t next = placed_in t.left word t next

-- a word where an option waits: only a plain one is its value
abbrev pub value_in : Text → Kind → Text → Taken → Next → Option (List Given)
value_in name plain word t next = give_once name word t next
value_in _ _ _ _ _ = None

abbrev pub waiting_in : Takes → Option Text → Kind → Text → Taken → Next → Option (List Given)
waiting_in takes None kind word t next = kind_in takes kind word t next
waiting_in takes (Some name) kind word t next = value_in name kind word t next

abbrev pub word_in : Takes → Bool → Text → Taken → Next → Option (List Given)
word_in takes true word t next = placed_in t.left word t next
word_in takes false word t next = waiting_in takes t.waiting (kind_of word) word t next

-- at the end nothing waits, and all is given that has to be
abbrev pub end_in : Takes → Option Text → List Given → Option (List Given)
end_in takes None given = if list_all (λ name. is_given name given) (needed takes) then Some given else None
end_in takes (Some name) given = None

unfoldable pub taken_from : Takes → List Text → Taken → Option (List Given)
taken_from takes [] t = end_in takes t.waiting t.given
taken_from takes (word ∷ words) t = word_in takes t.ended word t (taken_from takes words)

-- what the words behind a command's name give it, where they are a command line of it
abbrev pub taken : Takes → List Text → Option (List Given)
taken takes words = taken_from takes words (record { given = []; left = takes.places; waiting = None; ended = false })
