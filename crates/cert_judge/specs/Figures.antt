-- The figures of a certificate, and those that its accesses give.
use Rattle.std.specs.Prelude.{◌≡◌, ◌≢◌, ◌≤◌, ◌<◌, ◌+◌, ◌-◌, ◌==◌, ℕ, Bool, not, List, [], ◌∷◌, ◌++◌, length, map, take, slice_get, Option, Some, None, option_map}
use Rattle.ranked_list.specs.declared.item.Item.{Item}
use Rattle.monotone_fn.specs.Shape.{list_count}
use Rattle.monotone_fn.specs.Value.{value}
use Rattle.topk_theory.specs.Bounds.{bounded}
use Rattle.topk_theory.specs.Threshold.{item_objects}
use Rattle.topk_theory.specs.Transcript.{depth, sorted_count, random_count, cost}
use Rattle.algorithm_theory.specs.Within.{Factor}
use Rattle.cert_text.specs.Guarantee.{guarantee_of, guarantee_by}
use Rattle.cert_text.specs.declared.certificate.Certificate.{Certificate}
use Rattle.cert_text.specs.Certificate.{version_lines, guaranteed}
use Rattle.query_text.specs.Costs.{costs_in_force}

-- the figures of the line of an object of the answer, those of the line of a guarantee that may be there, and those of the stop line
abbrev pub item_figures : Item → List ℕ
item_figures item = item.low ∷ item.high ∷ []

abbrev pub guarantee_figures : Option Factor → List (List ℕ)
guarantee_figures None = []
guarantee_figures (Some factor) = (factor.p ∷ factor.q ∷ []) ∷ []

abbrev pub stop_figures : Certificate → List ℕ
stop_figures c = c.depth ∷ c.sorted ∷ c.random ∷ c.cost ∷ []

-- whether a version has a line
abbrev pub has_line : ℕ → Bool
has_line version = not (version == 0)

-- the first line of a certificate with figures, counted from 1: its number, its query, the count and the versions stand above it
abbrev pub figures_from : Certificate → ℕ
figures_from c = 4 + length (version_lines c.query.names c.versions)

-- the figures on the lines of a certificate from there on
abbrev pub figures_of : Certificate → List (List ℕ)
figures_of c = map item_figures c.items ++ (guarantee_figures (guaranteed c) ++ stop_figures c ∷ [])

-- the factor that its accesses give
abbrev pub given_factor : Certificate → Option Factor
given_factor c = guarantee_by c.query.algorithm (value c.query.expr) (list_count c.query.expr) c.accesses (item_objects c.items)

-- the certificate with the figures that its accesses give
abbrev pub refigured : Certificate → Certificate
refigured c = record c {
  items = map (bounded (value c.query.expr) (list_count c.query.expr) c.accesses) (item_objects c.items);
  guarantee = option_map guarantee_of (given_factor c);
  depth = depth (list_count c.query.expr) c.accesses;
  sorted = sorted_count c.accesses;
  random = random_count c.accesses;
  cost = cost (costs_in_force c.query).sorted (costs_in_force c.query).random c.accesses;
}

-- each figure of the certificate is the one that its accesses give
abbrev pub HasItsFigures : Certificate → Type 0
HasItsFigures c = figures_of c ≡ figures_of (refigured c)

-- the lists differ at this place, and are alike before it
pub record IsFirstDifference (xs ys : List (List ℕ)) (place : ℕ) : Type 0 where
  pub within : place < length xs
  pub before : take place xs ≡ take place ys
  pub here : slice_get xs place ≢ slice_get ys place

-- the first place at which the lists differ, None where they are alike
abbrev pub FirstOf : List (List ℕ) → List (List ℕ) → Option ℕ → Type 0
FirstOf xs ys None = xs ≡ ys
FirstOf xs ys (Some place) = IsFirstDifference xs ys place

-- the line, counted from 1, is the first of the certificate with a figure that isn't the one that its accesses give
abbrev pub IsFirstFigure : Certificate → ℕ → Type 0
IsFirstFigure c line = (figures_from c ≤ line) × IsFirstDifference (figures_of c) (figures_of (refigured c)) (line - figures_from c)
