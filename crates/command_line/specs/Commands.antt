-- Which words are which command.
use Rattle.std.specs.Prelude.{ℕ, Bool, true, false, List, [], ◌∷◌, Option, None, Some, option_map, codes, if◌then◌else◌}
use Rattle.std.specs.Str.{bytes_eq}
use Rattle.command_line.specs.declared.command.Command.{Command}
use Rattle.command_line.specs.declared.command.Command.TheVariants.{One, Judge, Compare, Make, Run, Bulk, Node, Serve}
use Rattle.command_line.specs.Bulking.{bulk_options, AreBulkOptions}
use Rattle.command_line.specs.Making.{make_options}
use Rattle.command_line.specs.Node.{node_options}
use Rattle.command_line.specs.Running.{run_options}
use Rattle.command_line.specs.Serving.{serve_options}
use Rattle.topk_base.specs.Ranges.{AreSettings}

-- the word that ends the options
abbrev pub options_end : List ℕ
options_end = codes "--"

-- no word, but maybe the one that ends the options
abbrev pub are_no_words : List (List ℕ) → Bool
are_no_words [] = true
are_no_words (word ∷ []) = bytes_eq word options_end
are_no_words (word ∷ next ∷ rest) = false

-- the command without words of this name
abbrev pub command_named : List ℕ → Option Command
command_named word =
    if bytes_eq word (codes "one") then Some One
    else (if bytes_eq word (codes "judge") then Some Judge else (if bytes_eq word (codes "compare") then Some Compare else None))

-- a command that takes no words, where there are none
abbrev pub without_words : Option Command → List (List ℕ) → Option Command
without_words command rest = if are_no_words rest then command else None

-- the command that the words are, of those that take no words
abbrev pub bare_command : List (List ℕ) → Option Command
bare_command [] = None
bare_command (name ∷ rest) = without_words (command_named name) rest

-- the words begin with this name
abbrev pub is_named : List ℕ → List (List ℕ) → Bool
is_named name [] = false
is_named name (word ∷ rest) = bytes_eq word name

-- the command that the words are, of those that wait for connections and those that take no words
abbrev pub other_command : List (List ℕ) → Option Command
other_command words =
    if is_named (codes "node") words then option_map Node (node_options words)
    else (if is_named (codes "serve") words then option_map Serve (serve_options words) else bare_command words)

-- the command that the words are: its name is the first, and what follows is what it takes
abbrev pub command_of : List (List ℕ) → Option Command
command_of words =
    if is_named (codes "make") words then option_map Make (make_options words)
    else (if is_named (codes "run") words then option_map Run (run_options words)
    else (if is_named (codes "bulk") words then option_map Bulk (bulk_options words) else other_command words))

-- the settings that a command has are within their ranges
abbrev pub HasSettings : Command → Type 0
HasSettings (Run options) = AreSettings options.settings
HasSettings (Bulk options) = AreBulkOptions options
HasSettings (Serve options) = AreSettings options.settings
HasSettings _ = Unit {0}
