-- Made queries are lawful.
use Rattle.std.proofs.Common.{◌≡◌, ◌≢◌, ◌≤◌, ◌<◌, ◌+◌, ◌%◌, ◌==◌, min, ℕ, zero, suc, Bool, true, false, cond, List, [], ◌∷◌, length, map, All, AllPairs, Contains, Some, None, Err, refl, sym, ap, ◌∙◌, subst, arith, inl, inr}
use Rattle.std.specs.List.{range_with_len, list_all}
use Rattle.std.specs.Str.{bytes_eq}
use Rattle.std.specs.Fmt as fmt
use Rattle.std.proofs.Math.Nat.{mod-lt}
use Rattle.std.proofs.lemmas.Bool.{cases_eq}
use Rattle.std.proofs.lemmas.List.Sums.{AllPass-from_list_all}
use Rattle.std.proofs.lemmas.List.Elements.{Contains-append_left}
use Rattle.std.proofs.lemmas.List.FromFn.{length-range_with_len, length-map-range_with_len, get_or-range_with_len}
use Rattle.topk_base.specs.Names.{is_name, IsName}
use Rattle.monotone_fn.specs.Tree.{Tree, trees, terms}
use Rattle.monotone_fn.specs.Shape.{nodes_of, nodes_in, nodes_under, NumbersLists}
use Rattle.monotone_fn.specs.Limits.{Makes}
use Rattle.monotone_fn.specs.declared.fault.ExprFault.{ExprFault}
use Rattle.monotone_fn.specs.declared.fault.ExprFault.TheVariants.{TooManyNodes, TooDeep, TooBig, Memory}
use Rattle.query_text.specs.declared.algorithm.Algorithm.{Algorithm}
use Rattle.query_text.specs.declared.algorithm.Algorithm.TheVariants.{Ta, Nra, Ca}
use Rattle.query_text.specs.Pieces.{each_once}
use Rattle.query_text.specs.Query.{name_of, lists_of, lists_among, lists_under, IsPlain, ArePlain, AreWeighed, IsRated, IsLawful, IsCount}
use Rattle.query_text.proofs.ListLaws.{once_different, no_pairs}
use Rattle.bundle_text.specs.Numbered.{list_names}
use Rattle.made_inputs.specs.MadeQueries.{list_trees, list_terms, made_tree, made_algorithm, made_query}
use Rattle.made_inputs.proofs.Trees.{each_tree, each_count, made_fits}

-- ---- the grades among the nodes
among_nodes : (xs : List ℕ) → nodes_in (trees (map Tree.Grade xs)) ≡ map Tree.Grade xs
among_nodes [] = refl
among_nodes (x ∷ xs) = ap (λ (ts : List Tree). Tree.Grade x ∷ ts) (among_nodes xs)

under_nodes : (xs : List ℕ) → nodes_under (terms (map (λ list. (list + 1, Tree.Grade list)) xs)) ≡ map Tree.Grade xs
under_nodes [] = refl
under_nodes (x ∷ xs) = ap (λ (ts : List Tree). Tree.Grade x ∷ ts) (under_nodes xs)

grade_in_range : (a n l : ℕ) → a ≤ l → l < a + n → Contains (map Tree.Grade (range_with_len a n)) (Tree.Grade l)
grade_in_range a zero l low high = absurd (omega arith)
grade_in_range a (suc n) l low high =
    elim (cases_eq a l) [
      | inl same ↦ subst (λ k. Contains (map Tree.Grade (range_with_len a (suc n))) (Tree.Grade k)) same (0, omega arith, refl)
      | inr other ↦ let there = grade_in_range (a + 1) n l (omega arith) (omega arith) in (suc there.0, omega (arith, there.1), there.2)
    ]

-- a made tree names each list
grade_used : (number lists l : ℕ) → l < lists → Contains (nodes_of (made_tree number lists)) (Tree.Grade l)
grade_used number lists l within =
    let grade : Contains (map Tree.Grade (range_with_len 0 lists)) (Tree.Grade l) = grade_in_range 0 lists l (omega arith) (omega arith) in
    let among : Contains (nodes_in (trees (list_trees lists))) (Tree.Grade l) = subst (λ (ts : List Tree). Contains ts (Tree.Grade l)) (sym (among_nodes (range_with_len 0 lists))) grade in
    let under : Contains (nodes_under (terms (list_terms lists))) (Tree.Grade l) = subst (λ (ts : List Tree). Contains ts (Tree.Grade l)) (sym (under_nodes (range_with_len 0 lists))) grade in
    each_tree (λ t. Contains (nodes_of t) (Tree.Grade l)) number lists
    (Contains-append_left (nodes_in (trees (list_trees lists))) _ (Tree.Grade l) among)
    (Contains-append_left (nodes_in (trees (list_trees lists))) _ (Tree.Grade l) among)
    (Contains-append_left (nodes_in (trees (list_trees lists))) _ (Tree.Grade l) among)
    (Contains-append_left (nodes_in (trees (list_trees lists))) _ (Tree.Grade l) among)
    (Contains-append_left (nodes_under (terms (list_terms lists))) _ (Tree.Grade l) under)

pub made_numbers : (number lists : ℕ) → 1 ≤ lists → lists ≤ 8 → NumbersLists (made_tree number lists)
made_numbers number lists some few =
    let count = (made_fits number lists some few).names in
    record {
      some = omega (arith, count);
      few = omega (arith, count);
      used = λ l below. grade_used number lists l (omega (arith, count));
    }

-- so none is refused
pub none_refused : (number lists : ℕ) (fault : ExprFault) → 1 ≤ lists → lists ≤ 8 → Makes (made_tree number lists) (Err fault) → ⊥
none_refused number lists (TooManyNodes n) some few h = let nodes = (made_fits number lists some few).nodes in omega (arith, h.0, nodes)
none_refused number lists (TooDeep n) some few h = let deep = (made_fits number lists some few).deep in omega (arith, h.1, deep)
none_refused number lists (TooBig n) some few h = let small : None ≡ Some n = sym (made_fits number lists some few).small ∙ h.2 in absurd cc
none_refused number lists Memory some few h = h

-- ---- the names
record NamesFit (given : List (List ℕ)) (lists : ℕ) : Type 0 where
  pub named : list_all is_name given ≡ true
  pub once : each_once bytes_eq given ≡ given
  pub numbered : map (name_of given) (range_with_len 0 lists) ≡ given

abbrev NamesAreFit : ℕ → Type 0
NamesAreFit lists = NamesFit (list_names lists) lists

names_by : (lists : ℕ) → list_all is_name (list_names lists) ≡ true → each_once bytes_eq (list_names lists) ≡ list_names lists
    → map (name_of (list_names lists)) (range_with_len 0 lists) ≡ list_names lists → NamesAreFit lists
names_by lists n o m = record { named = n; once = o; numbered = m }

names_fit : (lists : ℕ) → 1 ≤ lists → lists ≤ 8 → NamesAreFit lists
unfolding fmt.digits
names_fit = each_count NamesAreFit (names_by 1 refl refl refl) (names_by 2 refl refl refl) (names_by 3 refl refl refl) (names_by 4 refl refl refl) (names_by 5 refl refl refl) (names_by 6 refl refl refl)
    (names_by 7 refl refl refl) (names_by 8 refl refl refl)

all_named : (names : List (List ℕ)) → list_all is_name names ≡ true → All IsName names
all_named names h = AllPass-from_list_all is_name names h

-- ---- the lists of a made tree, in their order
among_lists : (xs : List ℕ) → lists_among (trees (map Tree.Grade xs)) ≡ xs
among_lists [] = refl
among_lists (x ∷ xs) = ap (λ (ls : List ℕ). x ∷ ls) (among_lists xs)

under_lists : (xs : List ℕ) → lists_under (terms (map (λ list. (list + 1, Tree.Grade list)) xs)) ≡ xs
under_lists [] = refl
under_lists (x ∷ xs) = ap (λ (ls : List ℕ). x ∷ ls) (under_lists xs)

made_lists : (number lists : ℕ) → lists_of (made_tree number lists) ≡ range_with_len 0 lists
made_lists number lists =
    let among = among_lists (range_with_len 0 lists) in
    each_tree (λ t. lists_of t ≡ range_with_len 0 lists) number lists among among among among (under_lists (range_with_len 0 lists))

-- ---- and its weights
plain_trees : (xs : List ℕ) → ArePlain (trees (map Tree.Grade xs))
plain_trees [] = tt
plain_trees (x ∷ xs) = (tt, plain_trees xs)

weighed_terms : (a n : ℕ) → a + n ≤ 8 → AreWeighed (terms (map (λ list. (list + 1, Tree.Grade list)) (range_with_len a n)))
weighed_terms a zero few = tt
weighed_terms a (suc n) few = (omega arith, tt, weighed_terms (a + 1) n (omega arith))

made_plain : (number lists : ℕ) → 1 ≤ lists → lists ≤ 8 → IsPlain (made_tree number lists)
made_plain number zero some few = absurd (omega arith)
made_plain number (suc n) some few =
    let plain = plain_trees (range_with_len 0 (suc n)) in
    each_tree IsPlain number (suc n) (tt, plain) (tt, plain) (tt, plain) (tt, plain) (tt, weighed_terms 0 (suc n) (omega arith))

-- ---- the algorithms have no numbers
made_rated : (number : ℕ) → IsRated (made_algorithm number)
made_rated number = go (number % 3 == 0) (number % 3 == 1)
  where
    go : (first second : Bool) → IsRated (cond first Ta (cond second Nra Ca))
    go true second = tt
    go false true = tt
    go false false = tt

-- ---- the query
turn : (number most : ℕ) → 1 ≤ most → most ≤ 1000000 → IsCount (1 + number % most)
turn number most some few = let low : number % most < most = mod-lt number (omega arith) in (omega arith, omega arith)

pub made_lawful : (number count lists : ℕ) → 1 ≤ count → 1 ≤ lists → lists ≤ 8 → IsLawful (made_query number count lists)
made_lawful number count lists objects some few =
    let names = names_fit lists some few in
    let size : length (list_names lists) ≡ lists = length-map-range_with_len _ 1 lists in
    record {
      k = turn number (min count 10) (omega arith) (omega arith);
      names = all_named (list_names lists) names.named;
      different = subst (AllPairs ◌≢◌) names.once (once_different [] (list_names lists) no_pairs);
      few = omega (arith, size);
      listed = subst (All (λ list. list < length (list_names lists))) (sym (made_lists number lists)) (λ k d within.
          let e : length (range_with_len 0 lists) ≡ lists = length-range_with_len 0 lists in
          let at = get_or-range_with_len 0 lists k d (omega arith) in
          omega (arith, at, size));
      numbered = ap (λ ls. each_once bytes_eq (map (name_of (list_names lists)) ls)) (made_lists number lists) ∙ ap (each_once bytes_eq) names.numbered ∙ names.once;
      weights = made_plain number lists some few;
      algorithm = made_rated number;
      cost = ((omega arith, omega arith), turn number 4 (omega arith) (omega arith));
      room = tt;
    }

-- a query that is made of its parts
pub same_query : (number count lists most : ℕ) (names : List (List ℕ)) (expr : Tree) (algorithm : Algorithm) → most ≡ min count 10 → names ≡ list_names lists
    → expr ≡ made_tree number lists
    → algorithm ≡ made_algorithm number
    → record { k = 1 + number % most; names = names; expr = expr; algorithm = algorithm; cost = Some (record { sorted = 1; random = 1 + number % 4 }); room = None } ≡ made_query number count lists
same_query number count lists most names expr algorithm k n e a =
    ap (λ m. record { k = 1 + number % m; names = names; expr = expr; algorithm = algorithm; cost = Some (record { sorted = 1; random = 1 + number % 4 }); room = None }) k
    ∙ ap (λ (ns : List (List ℕ)). record { k = 1 + number % min count 10; names = ns; expr = expr; algorithm = algorithm; cost = Some (record { sorted = 1; random = 1 + number % 4 }); room = None }) n
    ∙ ap (λ (t : Tree). record { k = 1 + number % min count 10; names = list_names lists; expr = t; algorithm = algorithm; cost = Some (record { sorted = 1; random = 1 + number % 4 }); room = None }) e
    ∙ ap (λ (x : Algorithm). record { k = 1 + number % min count 10; names = list_names lists; expr = made_tree number lists; algorithm = x; cost = Some (record { sorted = 1; random = 1 + number % 4 }); room = None }) a
