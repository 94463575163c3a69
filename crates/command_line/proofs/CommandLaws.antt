-- Commands by their name and what follows it.
use Rattle.std.proofs.Common.{◌≡◌, ℕ, List, [], ◌∷◌, Option, Some, None, Bool, true, false, codes, drop, refl, ap, ◌∙◌}
use Rattle.std.specs.Prelude.{slice_get, option_and_then, option_map, if◌then◌else◌}
use Rattle.command_line.specs.Bulking.{bulk_options}
use Rattle.command_line.specs.Commands.{are_no_words, command_named, command_of, other_command, bare_command, is_named, without_words}
use Rattle.command_line.specs.Making.{make_options}
use Rattle.command_line.specs.Node.{node_options}
use Rattle.command_line.specs.Running.{run_options}
use Rattle.command_line.specs.Serving.{serve_options}
use Rattle.command_line.specs.declared.command.Command.{Command}
use Rattle.command_line.specs.declared.command.Command.TheVariants.{Make, Run, Bulk, Node, Serve}

abbrev no_command : Option Command
no_command = None

abbrev named_first : List (List ℕ) → Option Command
named_first words = option_and_then command_named (slice_get words 0)

-- a name with no words behind it is the command
pub command_taken : (words : List (List ℕ)) (command : Command) → named_first words ≡ Some command → are_no_words (drop 1 words) ≡ true
    → bare_command words ≡ Some command
command_taken [] command named none = absurd cc
command_taken (name ∷ rest) command named none = ap (λ t. if t then command_named name else None) none ∙ named

-- no command takes words
unnamed : (test : Bool) → (if test then no_command else no_command) ≡ no_command
unnamed true = refl
unnamed false = refl

-- without a name there is no command
pub command_unnamed : (words : List (List ℕ)) → named_first words ≡ None → bare_command words ≡ None
command_unnamed [] none = refl
command_unnamed (name ∷ rest) none = ap (λ c. without_words c rest) none ∙ unnamed (are_no_words rest)

-- and none with words behind the name
pub command_refused : (words : List (List ℕ)) (command : Command) → named_first words ≡ Some command → are_no_words (drop 1 words) ≡ false
    → bare_command words ≡ None
command_refused [] command named some = absurd cc
command_refused (name ∷ rest) command named some = ap (λ t. if t then command_named name else None) some

-- the command by the name that the words begin with, where the names before it are tried
abbrev from_bulk : List (List ℕ) → Option Command
from_bulk words = if is_named (codes "bulk") words then option_map Bulk (bulk_options words) else other_command words

abbrev from_run : List (List ℕ) → Option Command
from_run words = if is_named (codes "run") words then option_map Run (run_options words) else from_bulk words

not_make : (words : List (List ℕ)) → is_named (codes "make") words ≡ false → command_of words ≡ from_run words
not_make words other = ap (λ t. if t then option_map Make (make_options words) else from_run words) other

not_run : (words : List (List ℕ)) → is_named (codes "make") words ≡ false → is_named (codes "run") words ≡ false → command_of words ≡ from_bulk words
not_run words no_make other = not_make words no_make ∙ ap (λ t. if t then option_map Run (run_options words) else from_bulk words) other

pub make_named : (words : List (List ℕ)) → is_named (codes "make") words ≡ true → command_of words ≡ option_map Make (make_options words)
make_named words named = ap (λ t. if t then option_map Make (make_options words) else from_run words) named

pub run_named : (words : List (List ℕ)) → is_named (codes "make") words ≡ false → is_named (codes "run") words ≡ true
    → command_of words ≡ option_map Run (run_options words)
run_named words no_make named = not_make words no_make ∙ ap (λ t. if t then option_map Run (run_options words) else from_bulk words) named

pub bulk_named : (words : List (List ℕ)) → is_named (codes "make") words ≡ false → is_named (codes "run") words ≡ false → is_named (codes "bulk") words ≡ true
    → command_of words ≡ option_map Bulk (bulk_options words)
bulk_named words no_make no_run named = not_run words no_make no_run ∙ ap (λ t. if t then option_map Bulk (bulk_options words) else other_command words) named

pub none_named : (words : List (List ℕ)) → is_named (codes "make") words ≡ false → is_named (codes "run") words ≡ false → is_named (codes "bulk") words ≡ false
    → command_of words ≡ other_command words
none_named words no_make no_run other = not_run words no_make no_run ∙ ap (λ t. if t then option_map Bulk (bulk_options words) else other_command words) other

-- of those that wait for connections
abbrev from_serve : List (List ℕ) → Option Command
from_serve words = if is_named (codes "serve") words then option_map Serve (serve_options words) else bare_command words

pub node_named : (words : List (List ℕ)) → is_named (codes "node") words ≡ true → other_command words ≡ option_map Node (node_options words)
node_named words named = ap (λ t. if t then option_map Node (node_options words) else from_serve words) named

not_node : (words : List (List ℕ)) → is_named (codes "node") words ≡ false → other_command words ≡ from_serve words
not_node words other = ap (λ t. if t then option_map Node (node_options words) else from_serve words) other

pub serve_named : (words : List (List ℕ)) → is_named (codes "node") words ≡ false → is_named (codes "serve") words ≡ true
    → other_command words ≡ option_map Serve (serve_options words)
serve_named words no_node named = not_node words no_node ∙ ap (λ t. if t then option_map Serve (serve_options words) else bare_command words) named

pub none_waits : (words : List (List ℕ)) → is_named (codes "node") words ≡ false → is_named (codes "serve") words ≡ false
    → other_command words ≡ bare_command words
none_waits words no_node other = not_node words no_node ∙ ap (λ t. if t then option_map Serve (serve_options words) else bare_command words) other
