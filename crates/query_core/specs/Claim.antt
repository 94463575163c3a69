-- The claim of topk: an answer is proved by what was read for it, which is printed beside it.
use Rattle.std.specs.Prelude.{◌≡◌, ◌⊎◌, ℕ, Bool, List, [], ◌∷◌, All}
use Rattle.std.specs.List.{concat}
use Rattle.topk_base.specs.Lines.{unlines}
use Rattle.ranked_list.specs.declared.row.Row.{Row}
use Rattle.monotone_fn.specs.Shape.{list_count}
use Rattle.monotone_fn.specs.Value.{value}
use Rattle.topk_theory.specs.Transcript.{Agrees}
use Rattle.topk_theory.specs.Threshold.{item_objects}
use Rattle.cert_text.specs.declared.certificate.Certificate.{Certificate}
use Rattle.cert_text.specs.declared.refusal.Refusal.{Refusal}
use Rattle.cert_text.specs.Certificate.{guaranteed, certificate_lines}
use Rattle.cert_text.specs.Outcome.{refused_line}
use Rattle.query_core.specs.Methods.{method_with, run_with, IsGoodBy, FixesBy}
use Rattle.query_core.specs.OneAnswer.{asked_by, HasTrueBounds}

-- a table agrees with what was read: it has a list for each of the query's, over as many objects as are counted, and each access as it is printed
abbrev pub AgreesWith : List (List Row) → Certificate → Type 0
AgreesWith D c = Agrees (list_count c.query.expr) c.count D c.accesses

-- an answer is proved: some table agrees with what was read, and on each that agrees what was read is the run of the query's algorithm, the objects are a
-- top k (or within the printed factor of one), and their bounds are true. So what was read fixes the answer. `sorted` are the lists read in order
pub record IsProved (sorted : List Bool) (c : Certificate) : Type 0 where
  pub some : (D : List (List Row)) × AgreesWith D c
  pub run : (D : List (List Row)) → AgreesWith D c → c.accesses ≡ run_with (method_with c.query.algorithm sorted) (asked_by c.query) D
  pub top : (D : List (List Row)) → AgreesWith D c → IsGoodBy (guaranteed c) (asked_by c.query) D (item_objects c.items)
  pub bounds : (D : List (List Row)) → AgreesWith D c → All (HasTrueBounds (value c.query.expr) D) c.items
  pub fixed : FixesBy (guaranteed c) (asked_by c.query) (list_count c.query.expr) c.count c.accesses (item_objects c.items)

-- what is written of a query line: a refusal, in one line, or a certificate whose answer is proved
abbrev pub IsProvedText : List ℕ → Type 0
IsProvedText text =
    ((line : ℕ) × (names : List (List ℕ)) × (refusal : Refusal) × (text ≡ unlines (refused_line line names refusal ∷ [])))
    ⊎ ((sorted : List Bool) × (c : Certificate) × (text ≡ unlines (certificate_lines c)) × IsProved sorted c)

-- what is written of query lines: of each such a text, one after another
abbrev pub IsProvedWhole : List ℕ → Type 0
IsProvedWhole said = (texts : List (List ℕ)) × (said ≡ concat texts) × All IsProvedText texts
