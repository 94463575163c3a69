-- The text of what became of a query line.
use Rattle.std.specs.Prelude.{◌≡◌, ◌≤◌, ◌<◌, ◌^◌, ℕ, true, List, [], ◌∷◌, length, map, codes, All, Option, Some, None, unwrap_or, option_map}
use Rattle.std.specs.Fmt.{decimal}
use Rattle.topk_base.specs.Lines.{unlines}
use Rattle.monotone_fn.specs.Shape.{list_count}
use Rattle.monotone_fn.specs.Value.{value}
use Rattle.monotone_fn.specs.Limits.{IsExpr}
use Rattle.topk_theory.specs.Transcript.{depth, sorted_count, random_count, cost}
use Rattle.topk_theory.specs.Threshold.{item_objects}
use Rattle.algorithm_theory.specs.Within.{Factor}
use Rattle.access_log.specs.Log.{Log, IsConsistent, IsWithinLimits}
use Rattle.machine_base.specs.declared.answer.Answer.{Answer}
use Rattle.query_text.specs.declared.query.Query.{Query}
use Rattle.query_text.specs.Costs.{costs_in_force}
use Rattle.query_text.specs.Query.{IsLawful}
use Rattle.cert_text.specs.Guarantee.{guarantee_of, has_guarantee, guarantee_by}
use Rattle.cert_text.specs.declared.certificate.Certificate.{Certificate}
use Rattle.cert_text.specs.declared.outcome.Outcome.{Outcome}
use Rattle.cert_text.specs.declared.outcome.Outcome.TheVariants.{Answered, Refused}
use Rattle.cert_text.specs.declared.refusal.Refusal.{Refusal}
use Rattle.cert_text.specs.Refusal.{refusal_row, field_word, refused_lists}
use Rattle.cert_text.specs.Certificate.{spaced, stop_line, certificate_lines, IsItem, IsAccess}
use Rattle.topk_base.specs.declared.TheConstants.{MAX_NUMBER}

-- the names of a query's lists, none where there is no query
abbrev pub names_of : Option Query → List (List ℕ)
names_of query = unwrap_or (option_map (λ q. q.names) query) []

-- the factor of an answer to a query, by its transcript
abbrev pub factor_for : Query → Answer → Option Factor
factor_for query answer =
    guarantee_by query.algorithm (value query.expr) answer.transcript.lists answer.transcript.accesses (item_objects answer.items)

-- what is certified of an answer over lists of these versions: its items, what is guaranteed of them, its accesses, and the figures of these
abbrev pub certificate_of : ℕ → Query → ℕ → List ℕ → Answer → Certificate
certificate_of line query count versions answer = record {
  line = line;
  query = query;
  count = count;
  versions = versions;
  items = answer.items;
  guarantee = option_map guarantee_of (factor_for query answer);
  depth = depth answer.transcript.lists answer.transcript.accesses;
  sorted = sorted_count answer.transcript.accesses;
  random = random_count answer.transcript.accesses;
  cost = cost (costs_in_force query).sorted (costs_in_force query).random answer.transcript.accesses;
  accesses = answer.transcript.accesses;
}

-- the line of the figures of a query's accesses
abbrev pub figures_line : Query → Log → List ℕ
figures_line query log =
    stop_line (depth log.lists log.accesses) (sorted_count log.accesses) (random_count log.accesses)
    (cost (costs_in_force query).sorted (costs_in_force query).random log.accesses)

-- the line of a refused query line by its number, the name of the refusal and the words of its fields
unfoldable pub refused_words : ℕ → List ℕ → List (List ℕ) → List ℕ
refused_words line name fields = spaced (codes "refused" ∷ decimal line ∷ name ∷ fields)

-- the line of a refusal; a field that is a list is written by its name
abbrev pub refused_line : ℕ → List (List ℕ) → Refusal → List ℕ
refused_line line names refusal = refused_words line (refusal_row refusal).0 (map (field_word names) (refusal_row refusal).1)

-- the lines of an outcome: a certificate for an answer, one line for a refusal
abbrev pub outcome_lines : ℕ → Option Query → ℕ → List ℕ → Outcome → List (List ℕ)
outcome_lines line None count versions (Answered answer) = []
outcome_lines line (Some query) count versions (Answered answer) = certificate_lines (certificate_of line query count versions answer)
outcome_lines line query count versions (Refused refusal) = refused_line line (names_of query) refusal ∷ []

-- the text of the outcome of the query line with this number, over lists of `count` objects and of these versions
unfoldable pub outcome_text : ℕ → Option Query → ℕ → List ℕ → Outcome → List ℕ
outcome_text line query count versions outcome = unlines (outcome_lines line query count versions outcome)

-- the cost of the accesses is one that 64 bits hold
pub record HasCost (query : Query) (log : Log) : Type 0 where
  pub sorted : (costs_in_force query).sorted ≤ MAX_NUMBER
  pub random : (costs_in_force query).random ≤ MAX_NUMBER
  pub accesses : length log.accesses < 2 ^ 40

-- an answer comes with its query, which is over the transcript's lists, and a version for each of these; it has an object where its algorithm
-- guarantees a factor; and the lists that a refusal names are lists of its query
abbrev pub IsOutcome : Option Query → List ℕ → Outcome → Type 0
IsOutcome None versions (Answered answer) = ⊥
IsOutcome (Some query) versions (Answered answer) =
    (length versions ≡ length query.names) × HasCost query answer.transcript × (list_count query.expr ≡ answer.transcript.lists)
    × (has_guarantee query.algorithm ≡ true → 0 < length answer.items)
IsOutcome query versions (Refused refusal) = All (λ list. list < length (names_of query)) (refused_lists refusal)

-- an answer of a query line as it is certified: a lawful query over the transcript's lists, with the transcript's count, a version for each list, a
-- table that agrees with the transcript, and numbers that their types hold
pub record IsCertified (line : ℕ) (query : Query) (count : ℕ) (versions : List ℕ) (answer : Answer) : Type 0 where
  pub line_from : 1 ≤ line
  pub line_to : line < 2 ^ 63
  pub lawful : IsLawful query
  pub expr : IsExpr query.expr
  pub lists : answer.transcript.lists ≡ list_count query.expr
  pub counted : answer.transcript.count ≡ count
  pub versioned : length versions ≡ length query.names
  pub small : All (λ version. version < 2 ^ 64) versions
  pub cost : HasCost query answer.transcript
  pub consistent : IsConsistent answer.transcript
  pub limits : IsWithinLimits answer.transcript.lists answer.transcript.count
  pub items : All IsItem answer.items
  pub accesses : All (IsAccess answer.transcript.lists) answer.transcript.accesses
