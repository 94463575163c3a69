-- What is replied to lists that a caller has in memory, and a query over them.
use Rattle.std.specs.Prelude.{◌↔◌, ℕ, List, All}
use Rattle.topk_base.specs.Lines.{unlines, IsPlainLine}
use Rattle.bundle_text.specs.declared.given.GivenList.{GivenList}
use Rattle.bundle_text.specs.Bundle.{bundle_lines}
use Rattle.bundle_text.specs.Given.{content_given}
use Rattle.command_line.specs.declared.status.Status.{Status}
use Rattle.bundle_calls.specs.Reply.{RepliesToLines, Replies}

-- the lines that lists and a query print as: those of a bundle that says so
abbrev pub printed_lines : List GivenList → List ℕ → List (List ℕ)
printed_lines lists query = bundle_lines (content_given lists query)

-- the bundle's text that lists and a query print as
abbrev pub printed_bundle : List GivenList → List ℕ → List ℕ
printed_bundle lists query = unlines (printed_lines lists query)

-- the status and the text that lists and a query are replied to with: those of the lines that they print as
abbrev pub RepliesToLists : List GivenList → List ℕ → Status → List ℕ → Type 0
RepliesToLists lists query status text = RepliesToLines (printed_lines lists query) status text

-- where none of these lines has an LF or ends in a CR, lists and a query are replied to as the text is that they print as
abbrev pub ListsAreRepliedToAsPrinted : Type 0
ListsAreRepliedToAsPrinted =
    (lists : List GivenList) (query : List ℕ) (status : Status) (text : List ℕ) → All IsPlainLine (printed_lines lists query)
    → RepliesToLists lists query status text ↔ Replies (printed_bundle lists query) status text
