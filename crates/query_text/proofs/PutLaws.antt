-- Texts that are written one behind another.
use Rattle.std.proofs.Common.{◌≡◌, ℕ, zero, suc, ◌+◌, ◌≤◌, List, [], ◌∷◌, ◌++◌, length, take, map, Option, Some, None, option_map, unwrap_or, refl, sym, ap, subst, ◌∙◌, arith, append_assoc, codes}
use Rattle.std.specs.List.{slice_get}
use Rattle.std.specs.Fmt.{decimal}
use Rattle.std.proofs.lemmas.Bool.{cond-false}
use Rattle.std.proofs.Math.Dec.{eqb-suc-zero}
use Rattle.std.proofs.lemmas.List.{append-nil, take_more, length-take, length-map}
use Rattle.std.proofs.lemmas.Option.{unwrap_or-slice_get, slice_get_within, get_or_from_slice_get, slice_get-map}
use Rattle.std.proofs.lemmas.Grind.{flat_map-append}
use Rattle.monotone_fn.specs.Tree.{Tree, trees, terms}
use Rattle.monotone_fn.specs.Shape.{depth, depth_in, depth_under}
use Rattle.tk_io.specs.Pieces.{Puts, Written as At}
use Rattle.query_text.specs.Written.{Written, Arguments, Argument, arguments_from}
use Rattle.query_text.specs.Pieces.{Piece, piece_text, text_of}
use Rattle.query_text.specs.Shape.{opening, weight_pieces, expr_pieces, argument_pieces, further_pieces, named_pieces, algorithm_pieces, cost_pieces, room_pieces}
use Rattle.query_text.specs.Query.{written, name_of, named_as, cost_digits, printed, arguments, weighted, plain_argument, weighted_argument}
use Rattle.query_text.specs.declared.operator.Operator.{Operator}
use Rattle.query_text.specs.declared.query.Query.{Query}
use Rattle.query_text.specs.Printing.{nodes_text, terms_text, comma_text, algorithm_text, cost_text, room_text}

-- the arguments of trees and of terms, as lists
pub arguments_plain : (names : List (List ℕ)) (ts : List Tree) → arguments names (trees ts) ≡ arguments_from (map (plain_argument names) ts)
arguments_plain names [] = refl
arguments_plain names (t ∷ ts) = ap (Arguments.argument_then None (written names t)) (arguments_plain names ts)

pub arguments_weighted : (names : List (List ℕ)) (us : List (ℕ × Tree)) → weighted names (terms us) ≡ arguments_from (map (weighted_argument names) us)
arguments_weighted names [] = refl
arguments_weighted names (u ∷ us) = ap (Arguments.argument_then (Some (decimal u.0)) (written names u.1)) (arguments_weighted names us)

-- a text is put as what it equals
pub puts_as : (before now : At) (x y : List ℕ) → x ≡ y → Puts before now x → Puts before now y
puts_as before now x y same put = subst (Puts before now) same put

-- an operator, its arguments and the parenthesis
pub call_text : (operator : Operator) (arguments : Arguments)
    → opening operator ++ (text_of (argument_pieces arguments) ++ codes ")") ≡ text_of (expr_pieces (Written.call operator arguments))
call_text operator arguments = ap (λ z. opening operator ++ z) (sym (flat_map-append piece_text (argument_pieces arguments) (Piece.fixed (codes ")") ∷ [])))

-- the name that stands at a place, or none behind the last
pub name_there : (names : List (List ℕ)) (list : ℕ) (found : Option (List ℕ)) → found ≡ slice_get names list → unwrap_or found [] ≡ name_of names list
name_there names list found h = ap (λ o. unwrap_or o []) h ∙ unwrap_or-slice_get names list []

-- the text of arguments with one more
further_push : (xs : List Argument) (a : Argument) → text_of (further_pieces (arguments_from (xs ++ a ∷ [])))
    ≡ text_of (further_pieces (arguments_from xs)) ++ (codes "," ++ text_of (weight_pieces a.0 ++ expr_pieces a.1))
further_push [] a = ap (λ z. 44 ∷ text_of (weight_pieces a.0 ++ z)) (append-nil (expr_pieces a.1))
further_push (b ∷ xs) a =
    let w = weight_pieces b.0 in
    let e = expr_pieces b.1 in
    let more = codes "," ++ text_of (weight_pieces a.0 ++ expr_pieces a.1) in
    ap (λ z. 44 ∷ z) (two w e (further_pieces (arguments_from (xs ++ a ∷ [])))
    ∙ (ap (λ z. text_of w ++ (text_of e ++ z)) (further_push xs a)
    ∙ (regroup (text_of w) (text_of e) (text_of (further_pieces (arguments_from xs))) more ∙ ap (λ z. z ++ more) (sym (two w e (further_pieces (arguments_from xs)))))))
  where
    two : (w e r : List Piece) → text_of (w ++ (e ++ r)) ≡ text_of w ++ (text_of e ++ text_of r)
    two w e r = flat_map-append piece_text w (e ++ r) ∙ ap (λ z. text_of w ++ z) (flat_map-append piece_text e r)

    regroup : (a b c d : List ℕ) → a ++ (b ++ (c ++ d)) ≡ (a ++ (b ++ c)) ++ d
    regroup a b c d = simp append_assoc

args_push : (xs : List Argument) (a : Argument) → text_of (argument_pieces (arguments_from (xs ++ a ∷ [])))
    ≡ text_of (argument_pieces (arguments_from xs)) ++ (comma_text (length xs) ++ text_of (weight_pieces a.0 ++ expr_pieces a.1))
args_push [] a = ap (λ z. text_of (weight_pieces a.0 ++ z)) (append-nil (expr_pieces a.1))
args_push (b ∷ xs) a =
    let w = weight_pieces b.0 in
    let e = expr_pieces b.1 in
    let more = codes "," ++ text_of (weight_pieces a.0 ++ expr_pieces a.1) in
    let comma : comma_text (suc (length xs)) ≡ codes "," = cond-false _ _ _ (eqb-suc-zero (length xs)) in
    two w e (further_pieces (arguments_from (xs ++ a ∷ [])))
    ∙ (ap (λ z. text_of w ++ (text_of e ++ z)) (further_push xs a)
    ∙ (regroup (text_of w) (text_of e) (text_of (further_pieces (arguments_from xs))) more
    ∙ (ap (λ z. z ++ more) (sym (two w e (further_pieces (arguments_from xs))))
    ∙ ap (λ z. text_of (w ++ (e ++ further_pieces (arguments_from xs))) ++ (z ++ text_of (weight_pieces a.0 ++ expr_pieces a.1))) (sym comma))))
  where
    two : (w e r : List Piece) → text_of (w ++ (e ++ r)) ≡ text_of w ++ (text_of e ++ text_of r)
    two w e r = flat_map-append piece_text w (e ++ r) ∙ ap (λ z. text_of w ++ z) (flat_map-append piece_text e r)

    regroup : (a b c d : List ℕ) → a ++ (b ++ (c ++ d)) ≡ (a ++ (b ++ c)) ++ d
    regroup a b c d = simp append_assoc

-- one more of the first arguments
pub args_more : (xs : List Argument) (i : ℕ) (a : Argument) → slice_get xs i ≡ Some a → text_of (argument_pieces (arguments_from (take (i + 1) xs)))
    ≡ text_of (argument_pieces (arguments_from (take i xs))) ++ (comma_text i ++ text_of (weight_pieces a.0 ++ expr_pieces a.1))
args_more xs i a h =
    let within = slice_get_within xs i a h in
    let here = get_or_from_slice_get xs i a a h in
    let n : length (take i xs) ≡ i = omega (arith, length-take i xs) in
    ap (λ z. text_of (argument_pieces (arguments_from z))) (take_more xs i a within ∙ ap (λ z. take i xs ++ z ∷ []) here)
    ∙ (args_push (take i xs) a ∙ ap (λ k. text_of (argument_pieces (arguments_from (take i xs))) ++ (comma_text k ++ text_of (weight_pieces a.0 ++ expr_pieces a.1))) n)

-- the trees of a list nest no deeper than the list
pub depth_at : (ts : List Tree) (i : ℕ) (t : Tree) → slice_get ts i ≡ Some t → depth t ≤ depth_in (trees ts)
depth_at [] i t h = absurd cc
depth_at (u ∷ ts) zero t h = let e : u ≡ t = cc in omega (arith, ap depth e)
depth_at (u ∷ ts) (suc i) t h = let k = depth_at ts i t h in omega arith

pub depth_of_term : (us : List (ℕ × Tree)) (i : ℕ) (u : ℕ × Tree) → slice_get us i ≡ Some u → depth u.1 ≤ depth_under (terms us)
depth_of_term [] i u h = absurd cc
depth_of_term (v ∷ us) zero u h = let e : v ≡ u = cc in omega (arith, ap (λ z. depth z.1) e)
depth_of_term (v ∷ us) (suc i) u h = let k = depth_of_term us i u h in omega arith

take_whole : {A : Type 0} (n : ℕ) (xs : List A) → length xs ≤ n → take n xs ≡ xs
take_whole zero [] h = refl
take_whole (suc n) [] h = refl
take_whole zero (x ∷ xs) h = absurd (omega arith)
take_whole (suc n) (x ∷ xs) h = ap (λ z. x ∷ z) (take_whole n xs (omega arith))

-- one more expression
pub nodes_step : (names : List (List ℕ)) (opening : List ℕ) (ts : List Tree) (i : ℕ) (t : Tree) → Some t ≡ slice_get ts i
    → (opening ++ text_of (argument_pieces (arguments_from (take i (map (plain_argument names) ts))))) ++ (comma_text i ++ text_of (expr_pieces (written names t)))
    ≡ opening ++ text_of (argument_pieces (arguments_from (take (i + 1) (map (plain_argument names) ts))))
nodes_step names opening ts i t h =
    let a = plain_argument names t in
    let xs = map (plain_argument names) ts in
    let here : slice_get xs i ≡ Some a = slice_get-map (plain_argument names) ts i ∙ ap (option_map (plain_argument names)) (sym h) in
    append_assoc opening (text_of (argument_pieces (arguments_from (take i xs)))) (comma_text i ++ text_of (expr_pieces (written names t)))
    ∙ ap (λ z. opening ++ z) (sym (args_more xs i a here))

pub terms_step : (names : List (List ℕ)) (opening : List ℕ) (us : List (ℕ × Tree)) (i : ℕ) (u : ℕ × Tree) → Some u ≡ slice_get us i
    → (opening ++ text_of (argument_pieces (arguments_from (take i (map (weighted_argument names) us))))) ++ (comma_text i ++ (decimal u.0 ++ (codes "*" ++ text_of (expr_pieces (written names u.1)))))
    ≡ opening ++ text_of (argument_pieces (arguments_from (take (i + 1) (map (weighted_argument names) us))))
terms_step names opening us i u h =
    let a = weighted_argument names u in
    let xs = map (weighted_argument names) us in
    let here : slice_get xs i ≡ Some a = slice_get-map (weighted_argument names) us i ∙ ap (option_map (weighted_argument names)) (sym h) in
    append_assoc opening (text_of (argument_pieces (arguments_from (take i xs)))) (comma_text i ++ (decimal u.0 ++ (codes "*" ++ text_of (expr_pieces (written names u.1)))))
    ∙ ap (λ z. opening ++ z) (sym (args_more xs i a here))

-- all expressions and the parenthesis
pub nodes_end : (names : List (List ℕ)) (opening : List ℕ) (ts : List Tree) (i : ℕ) → length ts ≤ i
    → (opening ++ text_of (argument_pieces (arguments_from (take i (map (plain_argument names) ts))))) ++ codes ")" ≡ nodes_text names opening (trees ts)
nodes_end names opening ts i h =
    append_assoc opening (text_of (argument_pieces (arguments_from (take i (map (plain_argument names) ts))))) (codes ")")
    ∙ ap (λ z. opening ++ (text_of (argument_pieces z) ++ codes ")"))
    (ap arguments_from (take_whole i (map (plain_argument names) ts) (omega (arith, length-map ts (plain_argument names)))) ∙ sym (arguments_plain names ts))

pub terms_end : (names : List (List ℕ)) (us : List (ℕ × Tree)) (i : ℕ) → length us ≤ i
    → (codes "wsum(" ++ text_of (argument_pieces (arguments_from (take i (map (weighted_argument names) us))))) ++ codes ")" ≡ terms_text names (terms us)
terms_end names us i h =
    append_assoc (codes "wsum(") (text_of (argument_pieces (arguments_from (take i (map (weighted_argument names) us))))) (codes ")")
    ∙ ap (λ z. codes "wsum(" ++ (text_of (argument_pieces z) ++ codes ")"))
    (ap arguments_from (take_whole i (map (weighted_argument names) us) (omega (arith, length-map us (weighted_argument names)))) ∙ sym (arguments_weighted names us))

-- the pieces of a query one after another
pub query_text : (q : Query)
    → codes "top " ++ (decimal q.k ++ (codes " by " ++ (text_of (expr_pieces (written q.names q.expr)) ++ (codes " using " ++ (algorithm_text q.algorithm ++ (cost_text q.cost ++ room_text q.room)))))) ≡ printed q
unfolding printed
query_text q =
    let options = cost_pieces (option_map cost_digits q.cost) ++ room_pieces (option_map decimal q.room) in
    let named = named_pieces (named_as q.algorithm) in
    ap (λ z. codes "top " ++ (decimal q.k ++ (codes " by " ++ z)))
    (ap (λ z. text_of (expr_pieces (written q.names q.expr)) ++ (codes " using " ++ z))
    (ap (λ z. text_of named ++ z) (sym (flat_map-append piece_text (cost_pieces (option_map cost_digits q.cost)) (room_pieces (option_map decimal q.room))))
    ∙ sym (flat_map-append piece_text named options))
    ∙ sym (flat_map-append piece_text (expr_pieces (written q.names q.expr)) (algorithm_pieces (named_as q.algorithm) ++ options)))
