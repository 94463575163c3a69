-- What is printed of a lawful query is read as that query.
use Rattle.std.proofs.Common.{◌≡◌, ◌≢◌, ℕ, zero, suc, ◌+◌, ◌^◌, ◌<◌, ◌≤◌, Bool, true, false, cond, List, [], ◌∷◌, ◌++◌, length, Option, Some, None, option_map, nat_lt, refl, sym, ap, ◌∙◌, subst, inl, inr, arith, append_assoc, codes, Result, Ok, Err}
use Rattle.std.specs.List.{All, AllPairs, position_from}
use Rattle.std.specs.Option.{IfSome}
use Rattle.std.specs.Str.{bytes_eq}
use Rattle.std.specs.Str.Parse.{digits_value}
use Rattle.std.specs.Fmt.{decimal}
use Rattle.std.proofs.lemmas.Bool.{cond-true, cond-false, ltb-true, false_from_ne_true}
use Rattle.std.proofs.lemmas.List.{length-append}
use Rattle.std.proofs.lemmas.List.Elements.{All-head, All-tail}
use Rattle.std.proofs.lemmas.Fmt.{decimal_injective}
use Rattle.topk_base.specs.Names.{IsName}
use Rattle.monotone_fn.specs.Tree.{Tree, Trees, Terms}
use Rattle.monotone_fn.specs.Shape.{nodes_of}
use Rattle.monotone_fn.specs.Limits.{IsExpr, Makes, top_value}
use Rattle.monotone_fn.specs.declared.fault.ExprFault.TheVariants.{TooManyNodes as ManyNodes, TooDeep as Deep, TooBig as Big}
use Rattle.monotone_fn.specs.declared.costs.Costs.{Costs}
use Rattle.query_text.proofs.ListLaws.{Each, same_bytes, bytes_same, names_in-append, once-append, once-extends}
use Rattle.query_text.specs.Written.{Written, Arguments, IsNumber, IsWeight, IsWritten, AreArguments, HasArgument}
use Rattle.query_text.specs.Pieces.{Piece, IsInRange, AreInRange, names_in, lists_in, each_once, IsNumberFault, IsNameFault}
use Rattle.query_text.specs.Shape.{IsShape, named_pieces, expr_pieces, argument_pieces, further_pieces, algorithm_pieces, cost_pieces, room_pieces, pieces_of}
use Rattle.query_text.specs.Query.{written, arguments, weighted, name_of, named_as, cost_digits, shape_of, printed, lists_of, lists_among, lists_under, HasTree, HasTerm, IsPlain, ArePlain, AreWeighed, IsCount, IsLawful}
use Rattle.query_text.specs.Reading.{Reads, IsReadBack}
use Rattle.query_text.proofs.LengthLaws.{length-printed}
use Rattle.query_text.specs.declared.query.Query.{Query}
use Rattle.query_text.specs.declared.operator.Operator.{Operator}
use Rattle.query_text.specs.declared.operator.Operator.TheVariants.{Min, Max, Sum, Median, Wsum}
use Rattle.query_text.specs.declared.fault.QueryFault.{QueryFault}
use Rattle.query_text.specs.declared.fault.QueryFault.TheVariants as faults
use Rattle.query_text.proofs.CompleteLaws.{one_shape}
use Rattle.query_text.proofs.FinalLaws.{names_in-shape, names_written}
use Rattle.query_text.proofs.NumberingLaws.{Each-left}
use Rattle.query_text.proofs.RatedLaws.{value_of, number_is, range_of, count_small, rated_named, rated_ranges, named_same, never_below}
use Rattle.topk_base.specs.declared.TheConstants.{MAX_LINE, MAX_NUMBER, MAX_VALUE, MAX_WEIGHT}

Each-from : {A : Type 0} (P : A → Type 0) (xs : List A) → All P xs → Each P xs
Each-from P [] h = tt
Each-from P (x ∷ xs) h = (All-head P x xs h, Each-from P xs (All-tail P x xs h))

-- the names of a lawful query
name_fine : (names : List (List ℕ)) (l : ℕ) → Each IsName names → l < length names → IsName (name_of names l)
name_fine [] l h within = absurd (omega arith)
name_fine (n ∷ names) zero h within = h.0
name_fine (n ∷ names) (suc l) h within = name_fine names l h.1 (omega arith)

-- the text of a plain tree is well formed, and its weights are within their range
mutual
  written_fine : (t : Tree) (names : List (List ℕ)) → Each IsName names → Each (λ l. l < length names) (lists_of t) → IsPlain t → IsWritten (written names t)
  written_fine (Tree.Grade l) names fine listed plain = name_fine names l fine listed.0
  written_fine (Tree.Min ts) names fine listed plain = (some_argument ts names plain.0, arguments_written ts names Min fine listed plain.1 tt)
  written_fine (Tree.Max ts) names fine listed plain = (some_argument ts names plain.0, arguments_written ts names Max fine listed plain.1 tt)
  written_fine (Tree.Sum ts) names fine listed plain = (some_argument ts names plain.0, arguments_written ts names Sum fine listed plain.1 tt)
  written_fine (Tree.Median ts) names fine listed plain = (some_argument ts names plain.0, arguments_written ts names Median fine listed plain.1 tt)
  written_fine (Tree.Wsum us) names fine listed plain = (some_term us names plain.0, weighted_written us names fine listed plain.1)

  arguments_written : (ts : Trees) (names : List (List ℕ)) (op : Operator) → Each IsName names → Each (λ l. l < length names) (lists_among ts) → ArePlain ts
      → IsWeight op None → AreArguments op (arguments names ts)
  arguments_written Trees.no_tree names op fine listed plain weight = tt
  arguments_written (Trees.tree_then t ts) names op fine listed plain weight =
      let l = Each-left (λ m. m < length names) (lists_of t) (lists_among ts) listed in
      (weight, written_fine t names fine l.0 plain.0, arguments_written ts names op fine l.1 plain.1 weight)

  weighted_written : (us : Terms) (names : List (List ℕ)) → Each IsName names → Each (λ l. l < length names) (lists_under us) → AreWeighed us
      → AreArguments Wsum (weighted names us)
  weighted_written Terms.no_term names fine listed plain = tt
  weighted_written (Terms.term_then w t us) names fine listed plain =
      let l = Each-left (λ m. m < length names) (lists_of t) (lists_under us) listed in
      let small : w < 2 ^ 64 = let h = plain.0 in omega arith in
      (number_is w small, written_fine t names fine l.0 plain.1, weighted_written us names fine l.1 plain.2)

  some_argument : (ts : Trees) (names : List (List ℕ)) → HasTree ts → HasArgument (arguments names ts)
  some_argument Trees.no_tree names h = h
  some_argument (Trees.tree_then t ts) names h = tt

  some_term : (us : Terms) (names : List (List ℕ)) → HasTerm us → HasArgument (weighted names us)
  some_term Terms.no_term names h = h
  some_term (Terms.term_then w t us) names h = tt

AreInRange-append : (ps qs : List Piece) → AreInRange ps → AreInRange qs → AreInRange (ps ++ qs)
AreInRange-append [] qs h k = k
AreInRange-append (p ∷ ps) qs h k = (h.0, AreInRange-append ps qs h.1 k)

further_range : (args : Arguments) → AreInRange (argument_pieces args) → AreInRange (further_pieces args)
further_range Arguments.no_argument h = tt
further_range (Arguments.argument_then w e rest) h = (tt, h)

mutual
  ranges_written : (t : Tree) (names : List (List ℕ)) → IsPlain t → AreInRange (expr_pieces (written names t))
  ranges_written (Tree.Grade l) names plain = (tt, tt)
  ranges_written (Tree.Min ts) names plain = (tt, AreInRange-append (argument_pieces (arguments names ts)) (Piece.fixed (codes ")") ∷ []) (ranges_among ts names plain.1) (tt, tt))
  ranges_written (Tree.Max ts) names plain = (tt, AreInRange-append (argument_pieces (arguments names ts)) (Piece.fixed (codes ")") ∷ []) (ranges_among ts names plain.1) (tt, tt))
  ranges_written (Tree.Sum ts) names plain = (tt, AreInRange-append (argument_pieces (arguments names ts)) (Piece.fixed (codes ")") ∷ []) (ranges_among ts names plain.1) (tt, tt))
  ranges_written (Tree.Median ts) names plain = (tt, AreInRange-append (argument_pieces (arguments names ts)) (Piece.fixed (codes ")") ∷ []) (ranges_among ts names plain.1) (tt, tt))
  ranges_written (Tree.Wsum us) names plain = (tt, AreInRange-append (argument_pieces (weighted names us)) (Piece.fixed (codes ")") ∷ []) (ranges_under us names plain.1) (tt, tt))

  ranges_among : (ts : Trees) (names : List (List ℕ)) → ArePlain ts → AreInRange (argument_pieces (arguments names ts))
  ranges_among Trees.no_tree names plain = tt
  ranges_among (Trees.tree_then t ts) names plain =
      AreInRange-append (expr_pieces (written names t)) (further_pieces (arguments names ts)) (ranges_written t names plain.0) (further_range (arguments names ts) (ranges_among ts names plain.1))

  ranges_under : (us : Terms) (names : List (List ℕ)) → AreWeighed us → AreInRange (argument_pieces (weighted names us))
  ranges_under Terms.no_term names plain = tt
  ranges_under (Terms.term_then w t us) names plain =
      let small : w < 2 ^ 64 = let h = plain.0 in omega arith in (
        range_of 0 MAX_WEIGHT w small (omega arith) plain.0,
        (tt, AreInRange-append (expr_pieces (written names t)) (further_pieces (weighted names us)) (ranges_written t names plain.1) (further_range (weighted names us) (ranges_under us names plain.2))),
      )

-- the options of a lawful query
cost_sound : (c : Option Costs) → IfSome c (λ cost. IsCount cost.sorted × IsCount cost.random)
    → IfSome (option_map cost_digits c) (λ cost. IsNumber cost.0 × IsNumber cost.1)
cost_sound None h = tt
cost_sound (Some c) h = (number_is c.sorted (count_small c.sorted h.0), number_is c.random (count_small c.random h.1))

room_sound : (r : Option ℕ) → IfSome r IsCount → IfSome (option_map decimal r) IsNumber
room_sound None h = tt
room_sound (Some r) h = number_is r (count_small r h)

cost_ranges : (c : Option Costs) → IfSome c (λ cost. IsCount cost.sorted × IsCount cost.random) → AreInRange (cost_pieces (option_map cost_digits c))
cost_ranges None h = tt
cost_ranges (Some c) h =
    (tt, (range_of 1 MAX_NUMBER c.sorted (count_small c.sorted h.0) h.0.0 h.0.1, (tt, (range_of 1 MAX_NUMBER c.random (count_small c.random h.1) h.1.0 h.1.1, tt))))

room_ranges : (r : Option ℕ) → IfSome r IsCount → AreInRange (room_pieces (option_map decimal r))
room_ranges None h = tt
room_ranges (Some r) h = (tt, (range_of 1 MAX_NUMBER r (count_small r h) h.0 h.1, tt))

-- the syntax tree of a lawful query is one, its numbers are within their ranges, and its lists are the query's
pub lawful_shape : (q : Query) → IsLawful q → IsShape (shape_of q)
lawful_shape q h = record {
  k = number_is q.k (count_small q.k h.k);
  expr = written_fine q.expr q.names (Each-from IsName q.names h.names) (Each-from (λ l. l < length q.names) (lists_of q.expr) h.listed) h.weights;
  algorithm = rated_named q.algorithm h.algorithm;
  cost = cost_sound q.cost h.cost;
  room = room_sound q.room h.room;
}

lawful_ranges : (q : Query) → IsLawful q → AreInRange (pieces_of (shape_of q))
lawful_ranges q h = (
  tt,
  (
    range_of 1 MAX_NUMBER q.k (count_small q.k h.k) h.k.0 h.k.1,
    (
      tt,
      AreInRange-append (expr_pieces (written q.names q.expr)) (algorithm_pieces (named_as q.algorithm) ++ (cost_pieces (option_map cost_digits q.cost) ++ room_pieces (option_map decimal q.room)))
          (ranges_written q.expr q.names h.weights) (
            tt,
            AreInRange-append (named_pieces (named_as q.algorithm)) (cost_pieces (option_map cost_digits q.cost) ++ room_pieces (option_map decimal q.room)) (rated_ranges q.algorithm h.algorithm)
                (AreInRange-append (cost_pieces (option_map cost_digits q.cost)) (room_pieces (option_map decimal q.room)) (cost_ranges q.cost h.cost) (room_ranges q.room h.room)),
          ),
    ),
  ),
)

lawful_lists : (q : Query) → IsLawful q → lists_in (pieces_of (shape_of q)) ≡ q.names
lawful_lists q h = ap (each_once bytes_eq) (names_in-shape (shape_of q) ∙ names_written q.expr q.names) ∙ h.numbered

-- the place of a name
name_at : List (List ℕ) → List ℕ → ℕ
name_at [] w = 0
name_at (n ∷ names) w = cond (bytes_eq n w) 0 (suc (name_at names w))

place-name : (names : List (List ℕ)) (l : ℕ) → AllPairs ◌≢◌ names → l < length names → name_at names (name_of names l) ≡ l
unfolding name_at
place-name [] l different within = absurd (omega arith)
place-name (n ∷ names) zero different within = cond-true _ _ _ (bytes_same n n refl)
place-name (n ∷ names) (suc l) different within =
    let apart : bytes_eq n (name_of names l) ≡ false = false_from_ne_true _ (λ e. different zero (suc l) [] (omega arith) within (same_bytes n (name_of names l) e)) in
    cond-false _ _ _ apart ∙ ap suc (place-name names l (λ i j d p q. different (suc i) (suc j) d (omega arith) (omega arith)) (omega arith))

abbrev weight_value : Option (List ℕ) → ℕ
weight_value None = 0
weight_value (Some d) = digits_value 10 d

abbrev over : Operator → Trees → Terms → Tree
over Min ts us = Tree.Min ts
over Max ts us = Tree.Max ts
over Sum ts us = Tree.Sum ts
over Median ts us = Tree.Median ts
over Wsum ts us = Tree.Wsum us

-- the tree of an expression
abbrev mutual
  renamed : List (List ℕ) → Written → Tree
  renamed names (Written.name w) = Tree.Grade (name_at names w)
  renamed names (Written.call op args) = over op (as_trees names args) (as_terms names args)

  as_trees : List (List ℕ) → Arguments → Trees
  as_trees names Arguments.no_argument = Trees.no_tree
  as_trees names (Arguments.argument_then w e rest) = Trees.tree_then (renamed names e) (as_trees names rest)

  as_terms : List (List ℕ) → Arguments → Terms
  as_terms names Arguments.no_argument = Terms.no_term
  as_terms names (Arguments.argument_then w e rest) = Terms.term_then (weight_value w) (renamed names e) (as_terms names rest)

weight_is : (w : ℕ) → w < 2 ^ 64 → weight_value (Some (decimal w)) ≡ w
weight_is w small = value_of w small

mutual
  renamed-written : (t : Tree) (names : List (List ℕ)) → AllPairs ◌≢◌ names → Each (λ l. l < length names) (lists_of t) → IsPlain t
      → renamed names (written names t) ≡ t
  renamed-written (Tree.Grade l) names different listed plain = ap Tree.Grade (place-name names l different listed.0)
  renamed-written (Tree.Min ts) names different listed plain = ap Tree.Min (renamed-among ts names different listed plain.1)
  renamed-written (Tree.Max ts) names different listed plain = ap Tree.Max (renamed-among ts names different listed plain.1)
  renamed-written (Tree.Sum ts) names different listed plain = ap Tree.Sum (renamed-among ts names different listed plain.1)
  renamed-written (Tree.Median ts) names different listed plain = ap Tree.Median (renamed-among ts names different listed plain.1)
  renamed-written (Tree.Wsum us) names different listed plain = ap Tree.Wsum (renamed-under us names different listed plain.1)

  renamed-among : (ts : Trees) (names : List (List ℕ)) → AllPairs ◌≢◌ names → Each (λ l. l < length names) (lists_among ts) → ArePlain ts
      → as_trees names (arguments names ts) ≡ ts
  renamed-among Trees.no_tree names different listed plain = refl
  renamed-among (Trees.tree_then t ts) names different listed plain =
      let l = Each-left (λ m. m < length names) (lists_of t) (lists_among ts) listed in
      let a = renamed-written t names different l.0 plain.0 in
      let b = renamed-among ts names different l.1 plain.1 in
      λ i. Trees.tree_then (a i) (b i)

  renamed-under : (us : Terms) (names : List (List ℕ)) → AllPairs ◌≢◌ names → Each (λ l. l < length names) (lists_under us) → AreWeighed us
      → as_terms names (weighted names us) ≡ us
  renamed-under Terms.no_term names different listed plain = refl
  renamed-under (Terms.term_then w t us) names different listed plain =
      let l = Each-left (λ m. m < length names) (lists_of t) (lists_under us) listed in
      let small : w < 2 ^ 64 = let h = plain.0 in omega arith in
      let v = weight_is w small in
      let a = renamed-written t names different l.0 plain.1 in
      let b = renamed-under us names different l.1 plain.2 in
      λ i. Terms.term_then (v i) (a i) (b i)

-- options with the same text are the same
cost_same : (c d : Option Costs) → IfSome c (λ cost. IsCount cost.sorted × IsCount cost.random) → IfSome d (λ cost. IsCount cost.sorted × IsCount cost.random)
    → option_map cost_digits c ≡ option_map cost_digits d → c ≡ d
cost_same None None h k e = refl
cost_same None (Some d) h k e = absurd cc
cost_same (Some c) None h k e = absurd cc
cost_same (Some c) (Some d) h k e =
    let both : cost_digits c ≡ cost_digits d = cc in
    let s : c.sorted ≡ d.sorted = decimal_injective c.sorted d.sorted (count_small c.sorted h.0) (count_small d.sorted k.0) (ap (λ (p : List ℕ × List ℕ). p.0) both) in
    let r : c.random ≡ d.random = decimal_injective c.random d.random (count_small c.random h.1) (count_small d.random k.1) (ap (λ (p : List ℕ × List ℕ). p.1) both) in
    λ i. Some (record { sorted = s i; random = r i })

room_same : (r s : Option ℕ) → IfSome r IsCount → IfSome s IsCount → option_map decimal r ≡ option_map decimal s → r ≡ s
room_same None None h k e = refl
room_same None (Some s) h k e = absurd cc
room_same (Some r) None h k e = absurd cc
room_same (Some r) (Some s) h k e =
    let both : decimal r ≡ decimal s = cc in
    ap Some (decimal_injective r s (count_small r h) (count_small s k) both)

-- lawful queries with the same text are the same
query_same : (p q : Query) → IsLawful p → IsLawful q → shape_of p ≡ shape_of q → p ≡ q
query_same p q h k e =
    let names : p.names ≡ q.names = sym (lawful_lists p h) ∙ (ap (λ s. lists_in (pieces_of s)) e ∙ lawful_lists q k) in
    let tree : p.expr ≡ q.expr =
    sym (renamed-written p.expr p.names h.different (Each-from (λ l. l < length p.names) (lists_of p.expr) h.listed) h.weights)
    ∙ ((λ i. renamed (names i) ((ap (λ s. s.expr) e) i)) ∙ renamed-written q.expr q.names k.different (Each-from (λ l. l < length q.names) (lists_of q.expr) k.listed) k.weights) in
    let number : p.k ≡ q.k = decimal_injective p.k q.k (count_small p.k h.k) (count_small q.k k.k) (ap (λ s. s.k) e) in
    let cost : p.cost ≡ q.cost = cost_same p.cost q.cost h.cost k.cost (ap (λ s. s.cost) e) in
    let room : p.room ≡ q.room = room_same p.room q.room h.room k.room (ap (λ s. s.room) e) in
    let algorithm : p.algorithm ≡ q.algorithm = named_same p.algorithm q.algorithm h.algorithm k.algorithm (ap (λ s. s.algorithm) e) in
    λ i. record { k = number i; names = names i; expr = tree i; algorithm = algorithm i; cost = cost i; room = room i }

pub printed_same : (p q : Query) → IsLawful p → IsLawful q → printed p ≡ printed q → p ≡ q
unfolding printed
printed_same p q h k e = query_same p q h k (one_shape (shape_of p) (shape_of q) (lawful_shape p h) (lawful_shape q k) e)

range_at : (before : List Piece) (p : Piece) (after : List Piece) → AreInRange (before ++ p ∷ after) → IsInRange p
range_at [] p after h = h.0
range_at (q ∷ before) p after h = range_at before p after h.1

pub no_number_fault : (q : Query) (at : ℕ) → IsLawful q → IsNumberFault (pieces_of (shape_of q)) at → ⊥
no_number_fault q at h f = f.outside (range_at f.before (Piece.number f.least f.most f.digits) f.after (subst AreInRange f.parts (lawful_ranges q h)))

pub no_name_fault : (q : Query) (at : ℕ) → IsLawful q → IsNameFault (pieces_of (shape_of q)) at → ⊥
no_name_fault q at h f =
    let front = f.before ++ Piece.name f.text ∷ [] in
    let split : pieces_of (shape_of q) ≡ front ++ f.after = f.parts ∙ sym (append_assoc f.before (Piece.name f.text ∷ []) f.after) in
    let lists : lists_in (front ++ f.after) ≡ q.names = ap lists_in (sym split) ∙ lawful_lists q h in
    let grown = once-extends bytes_eq (lists_in front) (names_in f.after) in
    let same : lists_in (front ++ f.after) ≡ lists_in front ++ grown.0 =
    ap (each_once bytes_eq) (names_in-append front f.after) ∙ (once-append bytes_eq [] (names_in front) (names_in f.after) ∙ grown.1) in
    omega (arith, f.more, h.few, ap length (sym lists ∙ same), length-append (lists_in front) grown.0)

-- the faults of an expression
no_many : (t : Tree) (n : ℕ) → IsExpr t → Makes t (Err (ManyNodes n)) → ⊥
no_many t n e m = omega (arith, e.few_nodes, m.0)

no_deep : (t : Tree) (n : ℕ) → IsExpr t → Makes t (Err (Deep n)) → ⊥
no_deep t n e m = omega (arith, e.shallow, m.1)

nowhere_big : (ns : List Tree) (i n : ℕ) → All (λ u. top_value u ≤ MAX_VALUE) ns → position_from (λ u. nat_lt MAX_VALUE (top_value u)) i ns ≡ Some n → ⊥
nowhere_big [] i n small h = absurd cc
nowhere_big (u ∷ ns) i n small h = by_test (nat_lt MAX_VALUE (top_value u)) refl h (λ j k. nowhere_big ns j n (All-tail (λ v. top_value v ≤ MAX_VALUE) u ns small) k)
  where
    by_test : (b : Bool) → nat_lt MAX_VALUE (top_value u) ≡ b → cond b (Some i) (position_from (λ v. nat_lt MAX_VALUE (top_value v)) (i + 1) ns) ≡ Some n
        → ((j : ℕ) → position_from (λ v. nat_lt MAX_VALUE (top_value v)) j ns ≡ Some n → ⊥) → ⊥
    by_test true is h later =
        let big : MAX_VALUE < top_value u = ltb-true MAX_VALUE (top_value u) is in
        let low : top_value u ≤ MAX_VALUE = All-head (λ v. top_value v ≤ MAX_VALUE) u ns small in
        omega arith
    by_test false is h later = later (i + 1) h

no_big : (t : Tree) (n : ℕ) → IsExpr t → Makes t (Err (Big n)) → ⊥
no_big t n e m = nowhere_big (nodes_of t) 1 n e.small m.2

-- the text of a lawful query isn't longer than a line may be
not_longer : (line : List ℕ) (q : Query) → IsLawful q → IsExpr q.expr → printed q ≡ line → MAX_LINE < length line → ⊥
not_longer line q lawful expr text long = omega (arith, length-printed q lawful expr, ap length text)

-- what is read of a lawful query's text is that query
pub read_back : (line : List ℕ) (r : Result Query QueryFault) → Reads line r → IsReadBack line r
unfolding printed
read_back line (Ok p) reads q lawful expr text = inl (ap Ok (printed_same p q reads.0.lawful lawful (reads.0.text ∙ sym text)))
read_back line (Err (faults.LongLine l)) reads q lawful expr text = absurd (not_longer line q lawful expr text reads.0)
read_back line (Err (faults.Syntax a)) reads q lawful expr text =
    absurd (reads.1.refused (record { shape = shape_of q; sound = lawful_shape q lawful; same = text }))
read_back line (Err (faults.Number a)) reads q lawful expr text =
    absurd (no_number_fault q a lawful (subst (λ s. IsNumberFault (pieces_of s) a) (one_shape reads.shape (shape_of q) reads.sound (lawful_shape q lawful) (reads.text ∙ sym text)) reads.fault))
read_back line (Err (faults.TooManyLists a)) reads q lawful expr text =
    absurd (no_name_fault q a lawful (subst (λ s. IsNameFault (pieces_of s) a) (one_shape reads.shape (shape_of q) reads.sound (lawful_shape q lawful) (reads.text ∙ sym text)) reads.fault))
read_back line (Err (faults.BadTheta p r)) reads q lawful expr text =
    let same : reads.shape ≡ shape_of q = one_shape reads.shape (shape_of q) reads.sound (lawful_shape q lawful) (reads.text ∙ sym text) in
    absurd (never_below q.algorithm reads.over reads.under p r lawful.algorithm (ap (λ s. s.algorithm) (sym same) ∙ reads.factor) reads.is_over reads.is_under reads.less)
read_back line (Err (faults.TooManyNodes n)) reads q lawful expr text =
    let same : reads.query ≡ q = printed_same reads.query q reads.spells.lawful lawful (reads.spells.text ∙ sym text) in
    absurd (no_many q.expr n expr (subst (λ p. Makes p.expr (Err (ManyNodes n))) same reads.refused))
read_back line (Err (faults.TooDeep n)) reads q lawful expr text =
    let same : reads.query ≡ q = printed_same reads.query q reads.spells.lawful lawful (reads.spells.text ∙ sym text) in
    absurd (no_deep q.expr n expr (subst (λ p. Makes p.expr (Err (Deep n))) same reads.refused))
read_back line (Err (faults.TooBig n)) reads q lawful expr text =
    let same : reads.query ≡ q = printed_same reads.query q reads.spells.lawful lawful (reads.spells.text ∙ sym text) in
    absurd (no_big q.expr n expr (subst (λ p. Makes p.expr (Err (Big n))) same reads.refused))
read_back line (Err faults.Memory) reads q lawful expr text = inr refl
