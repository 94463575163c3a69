-- The text of a lawful query is no longer than a query line may be.
use Rattle.std.proofs.Common.{◌≡◌, ℕ, ◌+◌, ◌*◌, ◌<◌, ◌≤◌, ◌&&◌, List, [], ◌∷◌, ◌++◌, length, codes, nat_lt, Option, Some, None, IfSome, option_map, ap, ◌∙◌, ⊎_elim, arith, length-append}
use Rattle.std.specs.List.{All, list_all}
use Rattle.std.specs.Char.{is_ascii_alphabetic}
use Rattle.std.specs.Fmt.{decimal}
use Rattle.std.proofs.lemmas.Bool.{and_parts, ltb-true, cases_lt}
use Rattle.std.proofs.lemmas.Fmt.{length-decimal-le}
use Rattle.std.proofs.lemmas.Grind.{flat_map-append}
use Rattle.std.proofs.lemmas.List.{get_or_past}
use Rattle.std.proofs.lemmas.List.Elements.{All-get_or}
use Rattle.topk_base.specs.Names.{is_name_byte, IsName}
use Rattle.monotone_fn.specs.Tree.{Tree, Trees, Terms}
use Rattle.monotone_fn.specs.Shape.{nodes_of, nodes_in, nodes_under}
use Rattle.monotone_fn.specs.Limits.{IsExpr}
use Rattle.monotone_fn.specs.declared.costs.Costs.{Costs}
use Rattle.query_text.specs.Written.{Written, Arguments}
use Rattle.query_text.specs.Pieces.{Piece, piece_text, text_of}
use Rattle.query_text.specs.Shape.{weight_pieces, expr_pieces, argument_pieces, further_pieces, front_pieces, algorithm_pieces, cost_pieces, room_pieces}
use Rattle.query_text.specs.Query.{name_of, written, arguments, weighted, named_as, cost_digits, printed, IsPlain, ArePlain, AreWeighed, IsCount, IsRated, IsLawful}
use Rattle.query_text.specs.declared.query.Query.{Query}
use Rattle.query_text.specs.declared.algorithm.Algorithm.{Algorithm}
use Rattle.query_text.specs.declared.algorithm.Algorithm.TheVariants.{Ta, Nra, Ca, Fa, Theta, Early, Taz}
use Rattle.topk_base.specs.declared.TheConstants.{MAX_LINE, MAX_WEIGHT}

-- how long the text of pieces is
abbrev size : List Piece → ℕ
size pieces = length (text_of pieces)

size-append : (xs ys : List Piece) → size (xs ++ ys) ≡ size xs + size ys
size-append xs ys = ap length (flat_map-append piece_text xs ys) ∙ length-append (text_of xs) (text_of ys)

name_short : (name : List ℕ) → IsName name → length name ≤ 32
name_short [] is = omega arith
name_short (x ∷ xs) is =
    let parts = and_parts (is_ascii_alphabetic x && list_all is_name_byte xs) (nat_lt (length xs) 32) is in
    let short : length xs < 32 = ltb-true (length xs) 32 parts.1 in
    omega arith

name_of_short : (names : List (List ℕ)) → All IsName names → (list : ℕ) → length (name_of names list) ≤ 32
name_of_short names are list =
    ⊎_elim
    (λ within. name_short (name_of names list) (All-get_or IsName names list [] within are))
    (λ past. let none : name_of names list ≡ [] = get_or_past names list [] past in omega (arith, ap length none))
    (cases_lt list (length names))

count_short : (n : ℕ) → IsCount n → length (decimal n) ≤ 7
count_short n is = length-decimal-le 7 n (omega arith) (omega (arith, is.1)) (omega (arith, is.1))

weight_short : (w : ℕ) → w ≤ MAX_WEIGHT → length (decimal w) ≤ 19
weight_short w small = length-decimal-le 19 w (omega arith) (omega arith) (omega arith)

-- an operator over arguments that are short enough is short enough
call_size : (open_word : List ℕ) (args : Arguments) (n : ℕ) → length open_word ≤ 7 → size (argument_pieces args) ≤ 53 * n
    → size ((Piece.fixed open_word ∷ argument_pieces args) ++ Piece.fixed (codes ")") ∷ []) + 21 ≤ 53 * (n + 1)
call_size open_word args n short small =
    omega (arith, size-append (Piece.fixed open_word ∷ argument_pieces args) (Piece.fixed (codes ")") ∷ []), length-append open_word (text_of (argument_pieces args)))

-- without the comma before the first
argument_size : (args : Arguments) → size (argument_pieces args) ≤ size (further_pieces args)
argument_size Arguments.no_argument = omega arith
argument_size (Arguments.argument_then weight first rest) = omega arith

-- one argument before others
further_size : (weight : Option (List ℕ)) (first : Written) (rest : Arguments) (n m : ℕ) → size (weight_pieces weight) ≤ 20
    → size (expr_pieces first) + 21 ≤ 53 * n
    → size (further_pieces rest) ≤ 53 * m → size (further_pieces (Arguments.argument_then weight first rest)) ≤ 53 * (n + m)
further_size weight first rest n m small_weight small_first small_rest =
    omega (arith, size-append (weight_pieces weight) (expr_pieces first ++ further_pieces rest), size-append (expr_pieces first) (further_pieces rest))

weight_size : (w : ℕ) → w ≤ MAX_WEIGHT → size (weight_pieces (Some (decimal w))) ≤ 20
weight_size w small = omega (arith, length-append (decimal w) (codes "*"), weight_short w small)

-- such an operator as a node above its arguments' nodes
node_size : (open_word : List ℕ) (args : Arguments) (below : List Tree) (node : Tree) → length open_word ≤ 7 → size (further_pieces args) ≤ 53 * length below
    → size ((Piece.fixed open_word ∷ argument_pieces args) ++ Piece.fixed (codes ")") ∷ []) + 21 ≤ 53 * length (below ++ node ∷ [])
node_size open_word args below node short few =
    let one = call_size open_word args (length below) short (omega (arith, argument_size args, few)) in
    omega (arith, one, length-append below (node ∷ []))

mutual
  tree_size : (names : List (List ℕ)) → All IsName names → (t : Tree) → IsPlain t → size (expr_pieces (written names t)) + 21 ≤ 53 * length (nodes_of t)
  tree_size names are (Tree.Grade list) plain = omega (arith, length-append (name_of names list) [], name_of_short names are list)
  tree_size names are (Tree.Min ts) plain = node_size (codes "min(") (arguments names ts) (nodes_in ts) (Tree.Min ts) (omega arith) (trees_size names are ts plain.1)
  tree_size names are (Tree.Max ts) plain = node_size (codes "max(") (arguments names ts) (nodes_in ts) (Tree.Max ts) (omega arith) (trees_size names are ts plain.1)
  tree_size names are (Tree.Sum ts) plain = node_size (codes "sum(") (arguments names ts) (nodes_in ts) (Tree.Sum ts) (omega arith) (trees_size names are ts plain.1)
  tree_size names are (Tree.Median ts) plain = node_size (codes "median(") (arguments names ts) (nodes_in ts) (Tree.Median ts) (omega arith) (trees_size names are ts plain.1)
  tree_size names are (Tree.Wsum us) plain = node_size (codes "wsum(") (weighted names us) (nodes_under us) (Tree.Wsum us) (omega arith) (terms_size names are us plain.1)

  trees_size : (names : List (List ℕ)) → All IsName names → (ts : Trees) → ArePlain ts → size (further_pieces (arguments names ts)) ≤ 53 * length (nodes_in ts)
  trees_size names are Trees.no_tree plain = omega arith
  trees_size names are (Trees.tree_then t ts) plain =
      let one = tree_size names are t plain.0 in
      let more = trees_size names are ts plain.1 in
      let all = further_size None (written names t) (arguments names ts) (length (nodes_of t)) (length (nodes_in ts)) (omega arith) one more in
      omega (arith, all, length-append (nodes_of t) (nodes_in ts))

  terms_size : (names : List (List ℕ)) → All IsName names → (us : Terms) → AreWeighed us
      → size (further_pieces (weighted names us)) ≤ 53 * length (nodes_under us)
  terms_size names are Terms.no_term plain = omega arith
  terms_size names are (Terms.term_then w t us) plain =
      let one = tree_size names are t plain.1 in
      let more = terms_size names are us plain.2 in
      let all = further_size (Some (decimal w)) (written names t) (weighted names us) (length (nodes_of t)) (length (nodes_under us)) (weight_size w plain.0) one more in
      omega (arith, all, length-append (nodes_of t) (nodes_under us))

algorithm_size : (algorithm : Algorithm) → IsRated algorithm → size (algorithm_pieces (named_as algorithm)) ≤ 28
algorithm_size Ta rated = omega arith
algorithm_size Nra rated = omega arith
algorithm_size Ca rated = omega arith
algorithm_size Fa rated = omega arith
algorithm_size (Theta p q) rated =
    omega (arith, length-append (decimal p) (codes "/" ++ (decimal q ++ [])), length-append (decimal q) [], count_short p rated.p, count_short q rated.q)
algorithm_size (Early depth) rated = omega (arith, length-append (decimal depth) [], count_short depth rated)
algorithm_size Taz rated = omega arith

front_size : (k : ℕ) → IsCount k → size (front_pieces (decimal k)) ≤ 15
front_size k is = omega (arith, length-append (decimal k) (codes " by "), count_short k is)

cost_size : (cost : Option Costs) → IfSome cost (λ c. IsCount c.sorted × IsCount c.random) → size (cost_pieces (option_map cost_digits cost)) ≤ 21
cost_size None are = omega arith
cost_size (Some c) are =
    omega (arith, length-append (decimal c.sorted) (codes " " ++ (decimal c.random ++ [])), length-append (decimal c.random) [], count_short c.sorted are.0, count_short c.random are.1)

room_size : (room : Option ℕ) → IfSome room IsCount → size (room_pieces (option_map decimal room)) ≤ 13
room_size None is = omega arith
room_size (Some n) is = omega (arith, length-append (decimal n) [], count_short n is)

-- five parts of pieces
parts_size : (a b c d e : List Piece) → size (a ++ (b ++ (c ++ (d ++ e)))) ≡ size a + (size b + (size c + (size d + size e)))
parts_size a b c d e =
    omega (arith, size-append a (b ++ (c ++ (d ++ e))), size-append b (c ++ (d ++ e)), size-append c (d ++ e), size-append d e)

printed_size : (query : Query)
    → length (printed query)
    ≡ size (front_pieces (decimal query.k))
    + (size (expr_pieces (written query.names query.expr)) + (size (algorithm_pieces (named_as query.algorithm)) + (size (cost_pieces (option_map cost_digits query.cost)) + size (room_pieces (option_map decimal query.room)))))
unfolding printed
printed_size query =
    parts_size (front_pieces (decimal query.k)) (expr_pieces (written query.names query.expr)) (algorithm_pieces (named_as query.algorithm)) (cost_pieces (option_map cost_digits query.cost)) (room_pieces (option_map decimal query.room))

pub length-printed : (query : Query) → IsLawful query → IsExpr query.expr → length (printed query) ≤ MAX_LINE
length-printed query lawful expr =
    omega (arith, printed_size query, front_size query.k lawful.k, tree_size query.names lawful.names query.expr lawful.weights, algorithm_size query.algorithm lawful.algorithm, cost_size query.cost lawful.cost, room_size query.room lawful.room, expr.few_nodes)
