-- Runs whose catalog's text is told.
use Rattle.std.proofs.Common.{◌≡◌, ℕ, ◌≤◌, List, ◌++◌, length, Option, Some, None, IfSome, inl, inr, sym, ap, ◌∙◌, subst, arith, append-nil, length-append}
use Rattle.std.specs.Io.KnownBytes.{Consumes, IsAtEnd}
use Rattle.tk_io.specs.Whole.{GaveAll, GaveMore}
use Rattle.csv_records.specs.Records.{records_of}
use Rattle.catalog_text.specs.Catalog.{Listed as Entry, IsCatalog}
use Rattle.catalog_text.proofs.Exclusion.{broken_is_none, repeated_is_none}
use Rattle.command_line.specs.declared.running.RunOptions.{RunOptions}
use Rattle.command_line.specs.Calls.{Call}
use Rattle.command_line.specs.Shelves.{Shelf, GivesText}
use Rattle.catalog_run.specs.Running.{RefusesCatalog}
use Rattle.catalog_run.specs.RunEnds.{EndsRunning}
use Rattle.topk_top.specs.RunLaws.{TurnsAway, WrongCatalogsAreRefused}
use Rattle.command_line.specs.declared.status.Status.{Status}
use Rattle.command_line.specs.declared.status.Status.TheVariants.{Done, Partial, BadWords, BadCatalog, ReadFault, WriteFault, OpenFault, PortFault, Memory, LongInput, BadInput}

-- the text that is given where one is told
given_told : (given told : List ℕ) (o : Option (List ℕ)) → o ≡ Some told → IfSome o (λ t. given ≡ t) → given ≡ told
given_told given told o is h = subst (λ (x : Option (List ℕ)). IfSome x (λ t. given ≡ t)) is h

pub gives_told : (place text told : List ℕ) (before given : Shelf) → before.texts place ≡ Some told → GivesText place before given text → text ≡ told
gives_told place text told before given is gives = given_told text told (before.texts place) is gives.told

-- a text that is refused is no catalog
pub refuses_none : (text said : List ℕ) (catalog : List Entry) → RefusesCatalog text said → IsCatalog (records_of text) catalog → ⊥
refuses_none text said catalog (inl form) is = elim form.first [
  | inl empty ↦ let e = is.1.whole in let none = empty.0 in absurd cc
  | inr broken ↦ broken_is_none (records_of text) catalog form.number is broken
]
refuses_none text said catalog (inr name) is = repeated_is_none (records_of text) catalog name.number is name.first

-- what an input gave that is told
gave_from : (bytes text : List ℕ) (now : Option (List ℕ)) → Consumes (Some bytes) now text → IsAtEnd now → text ≡ bytes
gave_from bytes text None took ended = absurd took
gave_from bytes text (Some rest) took ended = sym (took ∙ ap (λ r. text ++ r) ended ∙ append-nil text)

pub gave_told : (limit : ℕ) (bytes text : List ℕ) (before now : Option (List ℕ)) → before ≡ Some bytes → GaveAll limit before now text → text ≡ bytes
gave_told limit bytes text before now told gave = gave_from bytes text now (subst (λ b. Consumes b now text) told gave.given) gave.ended

more_from : (bytes text : List ℕ) (now : Option (List ℕ)) → Consumes (Some bytes) now text → length text ≤ length bytes
more_from bytes text None took = absurd took
more_from bytes text (Some rest) took = omega (arith, ap length took, length-append text rest)

pub gave_no_more : (limit : ℕ) (bytes : List ℕ) (before now : Option (List ℕ)) → before ≡ Some bytes → length bytes ≤ limit → GaveMore limit before now → ⊥
gave_no_more limit bytes before now told short more =
    omega (arith, more_from bytes more.0 now (subst (λ b. Consumes b now more.0) told more.2), more.1, short)

-- a run over a told text that is no catalog
turned : (o : RunOptions) (c : Call) (status : Status) (text : List ℕ) → c.before.shelf.texts o.catalog ≡ Some text
    → ((catalog : List Entry) → ¬ IsCatalog (records_of text) catalog) → EndsRunning o c status → TurnsAway text o c status
turned o c Done text told none (given, shelf, gives, (said, replied, wrote)) =
    absurd (none replied.replies.catalog (subst (λ t. IsCatalog (records_of t) replied.replies.catalog) (gives_told o.catalog given text c.before.shelf shelf told gives) replied.replies.is))
turned o c Partial text told none (given, shelf, gives, (said, replied, wrote)) =
    absurd (none replied.replies.catalog (subst (λ t. IsCatalog (records_of t) replied.replies.catalog) (gives_told o.catalog given text c.before.shelf shelf told gives) replied.replies.is))
turned o c BadCatalog text told none (given, shelf, gives, (said, refused, wrote)) =
    (said, subst (λ t. RefusesCatalog t said) (gives_told o.catalog given text c.before.shelf shelf told gives) refused.refuses, record { held = wrote.held; faults = wrote.faults })
turned o c WriteFault text told none (given, shelf, gives, (said, cause, wrote)) = wrote.faults
turned o c ReadFault text told none (given, shelf, gives, (stands, failed, nothing)) =
    absurd (none stands.catalog (subst (λ t. IsCatalog (records_of t) stands.catalog) (gives_told o.catalog given text c.before.shelf shelf told gives) stands.is))
turned o c LongInput text told none (given, shelf, gives, (stands, failed, nothing)) =
    absurd (none stands.catalog (subst (λ t. IsCatalog (records_of t) stands.catalog) (gives_told o.catalog given text c.before.shelf shelf told gives) stands.is))
turned o c OpenFault text told none h = h.0
turned o c Memory text told none h = tt
turned o c BadWords text told none h = absurd h
turned o c PortFault text told none h = absurd h
turned o c BadInput text told none h = absurd h

pub wrong_refused : WrongCatalogsAreRefused
wrong_refused o c status text tells none ends = turned o c status text tells none ends
