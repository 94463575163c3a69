-- The line of a query, read.
use Rattle.std.proofs.Common.{◌≡◌, ◌≢◌, ℕ, List, ◌++◌, codes, Some, None, Ok, Err, refl, sym, ap, subst, ◌∙◌, ⊎_elim}
use Rattle.std.proofs.lemmas.Option.{same_Some}
use Rattle.topk_base.specs.Cuts.{rest_after}
use Rattle.topk_base.proofs.CutLaws.{rest_after-some}
use Rattle.query_text.specs.declared.query.Query.{Query}
use Rattle.query_text.specs.declared.fault.QueryFault.{QueryFault}
use Rattle.query_text.specs.declared.fault.QueryFault.TheVariants.{Memory}
use Rattle.query_text.specs.Query.{printed, IsLawful}
use Rattle.query_text.specs.Reading.{Reads, IsReadBack}
use Rattle.cert_text.specs.Certificate.{query_line}
use Rattle.cert_text.specs.Judging.{AreNames, FindsQuery}

-- the text of the line of a query is the query's
query_line_text : (line text : List ℕ) (query : Query) → rest_after (codes "query ") line ≡ Some text → line ≡ query_line query → printed query ≡ text
query_line_text line text query cut is =
    same_Some _ _ (let own : rest_after (codes "query ") (query_line query) ≡ Some (printed query) = refl in sym own ∙ ap (rest_after (codes "query ")) (sym is) ∙ cut)

-- another query that the line spells is what was read
read_same : (text : List ℕ) (query other : Query) → IsReadBack text (Ok query) → Reads (printed other) (Ok other) → printed other ≡ text → other ≡ query
read_same text query other back reads same =
    let spells = reads.0 in
    ⊎_elim (λ e. cc) (λ e. absurd cc)
    (back other spells.lawful reads.1 same)

-- what is read is what the line spells, and nothing else is
pub query_found : (line text : List ℕ) (query : Query) → rest_after (codes "query ") line ≡ Some text → Reads text (Ok query) → IsReadBack text (Ok query)
    → FindsQuery line (Some query)
query_found line text query cut reads back =
    let same : printed query ≡ text = (let spells = reads.0 in spells.text) in (
      rest_after-some (codes "query ") line text cut ∙ ap (λ t. codes "query " ++ t) (sym same),
      subst (λ t. Reads t (Ok query)) (sym same) reads,
      λ other is other_reads. read_same text query other back other_reads (query_line_text line text other cut is),
    )

-- a line whose text is refused is the line of no query
pub query_refused : (line text : List ℕ) (fault : QueryFault) → rest_after (codes "query ") line ≡ Some text → fault ≢ Memory → IsReadBack text (Err fault)
    → FindsQuery line None
query_refused line text fault cut refused back = λ other is reads.
    let spells = reads.0 in
    ⊎_elim (λ e. absurd cc) (λ e. refused cc)
    (back other spells.lawful reads.1 (query_line_text line text other cut is))

-- a line that doesn't begin with the word is the line of no query
pub query_wordless : (line : List ℕ) → rest_after (codes "query ") line ≡ None → FindsQuery line None
query_wordless line none = λ other is reads.
    let own : rest_after (codes "query ") (query_line other) ≡ Some (printed other) = refl in
    let same : rest_after (codes "query ") line ≡ rest_after (codes "query ") (query_line other) = ap (rest_after (codes "query ")) is in
    absurd cc

-- the names of a lawful query
pub names_of_lawful : (query : Query) → IsLawful query → AreNames query.names
names_of_lawful query lawful = record { few = lawful.few; each = lawful.names; different = lawful.different }

-- the names of the query that a line has
pub names_of_found : (line : List ℕ) (query : Query) → FindsQuery line (Some query) → AreNames query.names
names_of_found line query found = let reads = found.1 in let spells = reads.0 in names_of_lawful query spells.lawful
