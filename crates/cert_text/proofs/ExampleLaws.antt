-- There is a query, and so there is a certificate.
use Rattle.std.proofs.Common.{◌≡◌, ℕ, ◌<◌, ◌≤◌, List, [], ◌∷◌, length, codes, None, Ok, false, refl, sym, subst, arith}
use Rattle.std.specs.List.{Contains}
use Rattle.std.proofs.lemmas.List.Elements.{All-nil, All-cons}
use Rattle.topk_base.specs.Names.{IsName}
use Rattle.monotone_fn.specs.Tree.{Tree}
use Rattle.monotone_fn.specs.Shape.{nodes_of}
use Rattle.monotone_fn.specs.Limits.{IsExpr, top_value}
use Rattle.query_text.specs.Query.{printed, IsLawful}
use Rattle.query_text.specs.Reading.{Reads}
use Rattle.query_text.specs.declared.query.Query.{Query}
use Rattle.query_text.specs.declared.algorithm.Algorithm.TheVariants.{Ta}
use Rattle.cert_text.specs.Certificate.{number_line, query_line, count_line}
use Rattle.cert_text.specs.Judging.{Leads, Found, SpellsQueried}
use Rattle.cert_text.specs.Reading.{Spells}
use Rattle.cert_text.proofs.LineLaws.{number_in-line}
use Rattle.query_text.proofs.LengthLaws.{length-printed}
use Rattle.cert_text.proofs.SpellLaws.{nothing, nothing_lines, unversioned, whole, counted_spelled, steps_number}
use Rattle.topk_base.specs.declared.TheConstants.{MAX_VALUE}

-- the best object of one list
abbrev example : Query
example = record { k = 1; names = codes "A" ∷ []; expr = Tree.Grade 0; algorithm = Ta; cost = None; room = None }

example_lawful : IsLawful example
example_lawful = record {
  k = (omega arith, omega arith);
  names = All-cons IsName (codes "A") [] refl (All-nil IsName);
  different = λ i j d before within. absurd (omega arith);
  few = omega arith;
  listed = All-cons (λ list. list < length (codes "A" ∷ [])) 0 [] (omega arith) (All-nil (λ list. list < length (codes "A" ∷ [])));
  numbered = refl;
  weights = tt;
  algorithm = tt;
  cost = tt;
  room = tt;
}

example_expr : IsExpr (Tree.Grade 0)
example_expr = record {
  lists = record {
    some = omega arith;
    few = omega arith;
    used = λ list within. let zero : list ≡ 0 = omega arith in subst (λ l. Contains (nodes_of (Tree.Grade 0)) (Tree.Grade l)) (sym zero) (0, omega arith, refl);
  };
  few_nodes = omega arith;
  shallow = omega arith;
  small = All-cons (λ n. top_value n ≤ MAX_VALUE) (Tree.Grade 0) [] (omega arith) (All-nil (λ n. top_value n ≤ MAX_VALUE));
}

example_reads : Reads (printed example) (Ok example)
example_reads = (record { short = length-printed example example_lawful example_expr; lawful = example_lawful; text = refl }, example_expr)

example_lines : List (List ℕ)
example_lines = query_line example ∷ count_line 1 ∷ nothing_lines false

example_spelled : SpellsQueried example_lines (example, 1, unversioned example.names, nothing false)
unfolding example_lines
example_spelled = record { rest = count_line 1 ∷ nothing_lines false; first = refl; query = example_reads; counted = counted_spelled false (codes "A" ∷ []) }

pub queried_some : Leads SpellsQueried []
queried_some = (example_lines, ((example, 1, unversioned example.names, nothing false), example_spelled))

pub spells_some : Leads Spells []
spells_some =
    let steps = steps_number (number_line 1) 1 (number_in-line 1 (omega arith) (omega arith)) in
    let queried : Query × ℕ × List ℕ × Found = (example, 1, unversioned example.names, nothing false) in
    (number_line 1 ∷ example_lines, (whole 1 queried, steps.adds example_lines queried example_spelled))
