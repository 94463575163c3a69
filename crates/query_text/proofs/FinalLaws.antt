-- A draft of a whole line is a lawful query whose text is the line.
use Rattle.std.proofs.Common.{◌≡◌, ◌≢◌, ℕ, zero, suc, ◌^◌, ◌<◌, ◌≤◌, Bool, true, false, cond, List, [], ◌∷◌, ◌++◌, length, map, Option, Some, None, is_some, option_map, refl, sym, ap, ◌∙◌, subst, arith, codes}
use Rattle.std.specs.List.{list_any, All, AllPairs}
use Rattle.std.specs.Option.{IfSome}
use Rattle.std.specs.Str.{bytes_eq}
use Rattle.std.specs.Fmt.{decimal}
use Rattle.std.proofs.lemmas.Bool.{false≢true}
use Rattle.std.proofs.lemmas.List.{append-nil, map-append}
use Rattle.std.proofs.lemmas.List.Elements.{All-cons, All-nil}
use Rattle.topk_base.specs.Names.{IsName}
use Rattle.monotone_fn.specs.Tree.{Tree, Trees, Terms}
use Rattle.monotone_fn.specs.Shown.{tree_of}
use Rattle.monotone_fn.specs.declared.costs.Costs.{Costs}
use Rattle.query_text.specs.Course.{may_end}
use Rattle.query_text.proofs.ListLaws.{Each, names_in-append, once_different, no_pairs}
use Rattle.query_text.specs.Written.{Written, Arguments, IsWritten, AreArguments}
use Rattle.query_text.specs.Pieces.{Piece, text_of, AreInRange, names_in, lists_in, with_member, each_once_after, each_once, AreFine}
use Rattle.query_text.specs.Shape.{SyntaxTree, Named, IsShape, spelled, named_pieces, weight_pieces, expr_pieces, argument_pieces, further_pieces, algorithm_pieces, cost_pieces, room_pieces, pieces_of}
use Rattle.query_text.specs.Query.{written, arguments, weighted, name_of, named_as, cost_digits, shape_of, printed, lists_of, lists_among, lists_under, names_given, IsPlain, IsCount, IsLawful}
use Rattle.query_text.specs.Front.{Front, stage_of, shape_at, shape_from}
use Rattle.query_text.specs.Draft.{names_of, head_in, unset, priced, front_of}
use Rattle.query_text.specs.Reached.{IsDraftOf}
use Rattle.query_text.specs.Finish.{query_in, IsFair, IsSmall}
use Rattle.query_text.specs.declared.draft.Draft.{Draft}
use Rattle.query_text.specs.declared.parser_state.ParserState.{ParserState}
use Rattle.query_text.specs.declared.parser_state.ParserState.TheVariants as stages
use Rattle.query_text.specs.declared.operator.Operator.{Operator}
use Rattle.query_text.specs.declared.operator.Operator.TheVariants.{Min, Max, Sum, Median, Wsum}
use Rattle.query_text.proofs.FrontLaws.{whole_at}
use Rattle.query_text.proofs.ReachLaws.{ends_at}
use Rattle.query_text.proofs.RatedLaws.{count_from, rated_from, named_names}
use Rattle.topk_base.specs.declared.TheConstants.{MAX_LISTS}

-- the syntax tree that a draft shows
shape_in : List (List ℕ) → Draft → SyntaxTree
shape_in names d = shape_from (head_in names d) (option_map cost_digits d.cost) (option_map decimal d.room)

shape_shown : (names : List (List ℕ)) (s : ParserState) (d : Draft) (shape : SyntaxTree) → may_end s ≡ true → shape_at (front_of names s d) ≡ Some shape
    → shape ≡ shape_in names d
unfolding shape_in
shape_shown names stages.Top d shape may h = absurd (false≢true may)
shape_shown names stages.Count d shape may h = absurd (false≢true may)
shape_shown names stages.By d shape may h = absurd (false≢true may)
shape_shown names stages.Operand d shape may h = absurd (false≢true may)
shape_shown names stages.Behind d shape may h = absurd (false≢true may)
shape_shown names stages.Weight d shape may h = absurd (false≢true may)
shape_shown names stages.Times d shape may h = absurd (false≢true may)
shape_shown names stages.Algorithm d shape may h = absurd (false≢true may)
shape_shown names stages.Factor d shape may h = absurd (false≢true may)
shape_shown names stages.Over d shape may h = absurd (false≢true may)
shape_shown names stages.Under d shape may h = absurd (false≢true may)
shape_shown names stages.Depth d shape may h = absurd (false≢true may)
shape_shown names stages.Options d shape may h = by_options d.cost d.room refl refl h
  where
    by_options : (c : Option Costs) (r : Option ℕ) → d.cost ≡ c → d.room ≡ r → shape_at (unset c (unset r (Front.at_options (head_in names d)))) ≡ Some shape
        → shape ≡ shape_from (head_in names d) (option_map cost_digits d.cost) (option_map decimal d.room)
    by_options None None ec er h =
        let e : shape_from (head_in names d) None None ≡ shape = cc in
        sym e ∙ (λ i. shape_from (head_in names d) (option_map cost_digits (sym ec i)) (option_map decimal (sym er i)))
    by_options None (Some r) ec er h = absurd cc
    by_options (Some c) r ec er h = absurd cc
shape_shown names stages.Sorted d shape may h = absurd (false≢true may)
shape_shown names stages.Between d shape may h = absurd (false≢true may)
shape_shown names stages.Random d shape may h = absurd (false≢true may)
shape_shown names stages.Priced d shape may h = by_options d.cost d.room refl refl h
  where
    by_options : (c : Option Costs) (r : Option ℕ) → d.cost ≡ c → d.room ≡ r → shape_at (unset r (priced (head_in names d) c)) ≡ Some shape
        → shape ≡ shape_from (head_in names d) (option_map cost_digits d.cost) (option_map decimal d.room)
    by_options (Some c) None ec er h =
        let e : shape_from (head_in names d) (Some (cost_digits c)) None ≡ shape = cc in
        sym e ∙ (λ i. shape_from (head_in names d) (option_map cost_digits (sym ec i)) (option_map decimal (sym er i)))
    by_options None None ec er h = absurd cc
    by_options c (Some r) ec er h = absurd cc
shape_shown names stages.Room d shape may h = absurd (false≢true may)
shape_shown names stages.Done d shape may h = let e : shape_from (head_in names d) (option_map cost_digits d.cost) (option_map decimal d.room) ≡ shape = cc in sym e

AreInRange-parts : (ps qs : List Piece) → AreInRange (ps ++ qs) → AreInRange ps × AreInRange qs
AreInRange-parts [] qs h = (tt, h)
AreInRange-parts (p ∷ ps) qs h = let r = AreInRange-parts ps qs h.1 in ((h.0, r.0), r.1)

cost_counts : (c : Option Costs) → IfSome c (λ cost. (cost.sorted < 2 ^ 32) × (cost.random < 2 ^ 32)) → AreInRange (cost_pieces (option_map cost_digits c))
    → IfSome c (λ cost. IsCount cost.sorted × IsCount cost.random)
cost_counts None small h = tt
cost_counts (Some c) small h = (count_from c.sorted small.0 h.1.0, count_from c.random small.1 h.1.1.1.0)

room_counts : (r : Option ℕ) → IfSome r (λ room. room < 2 ^ 32) → AreInRange (room_pieces (option_map decimal r)) → IfSome r IsCount
room_counts None small h = tt
room_counts (Some r) small h = count_from r small h.1.0

-- the names of a text are those of its expression
names_in-cost : (c : Option (List ℕ × List ℕ)) → names_in (cost_pieces c) ≡ []
names_in-cost None = refl
names_in-cost (Some c) = refl

names_in-room : (r : Option (List ℕ)) → names_in (room_pieces r) ≡ []
names_in-room None = refl
names_in-room (Some r) = refl

names_in-end : (a : Named) (c : Option (List ℕ × List ℕ)) (r : Option (List ℕ)) → names_in (named_pieces a ++ (cost_pieces c ++ room_pieces r)) ≡ []
names_in-end a c r =
    names_in-append (named_pieces a) (cost_pieces c ++ room_pieces r)
    ∙ ((λ i. named_names a i ++ names_in (cost_pieces c ++ room_pieces r))
    ∙ (names_in-append (cost_pieces c) (room_pieces r) ∙ (λ i. names_in-cost c i ++ names_in-room r i)))

pub names_in-shape : (s : SyntaxTree) → names_in (pieces_of s) ≡ names_in (expr_pieces s.expr)
names_in-shape s =
    names_in-append (expr_pieces s.expr) (algorithm_pieces s.algorithm ++ (cost_pieces s.cost ++ room_pieces s.room))
    ∙ (ap (λ z. names_in (expr_pieces s.expr) ++ z) (names_in-end s.algorithm s.cost s.room)
    ∙ append-nil (names_in (expr_pieces s.expr)))

names_in-weight : (w : Option (List ℕ)) → names_in (weight_pieces w) ≡ []
names_in-weight None = refl
names_in-weight (Some d) = refl

-- the names of an expression of a tree
pub names_three : (w : Option (List ℕ)) (ps qs : List Piece) → names_in (weight_pieces w ++ (ps ++ qs)) ≡ names_in ps ++ names_in qs
names_three w ps qs = names_in-append (weight_pieces w) (ps ++ qs) ∙ (ap (λ z. z ++ names_in (ps ++ qs)) (names_in-weight w) ∙ names_in-append ps qs)

names_call : (op : Operator) (args : Arguments) → names_in (expr_pieces (Written.call op args)) ≡ names_in (argument_pieces args)
names_call op args = names_in-append (argument_pieces args) (Piece.fixed (codes ")") ∷ []) ∙ append-nil (names_in (argument_pieces args))

pub further_names : (args : Arguments) → names_in (further_pieces args) ≡ names_in (argument_pieces args)
further_names Arguments.no_argument = refl
further_names (Arguments.argument_then w e rest) = refl

mutual
  pub names_written : (t : Tree) (names : List (List ℕ)) → names_in (expr_pieces (written names t)) ≡ map (name_of names) (lists_of t)
  names_written (Tree.Grade l) names = refl
  names_written (Tree.Min ts) names = names_call Min (arguments names ts) ∙ names_among ts names
  names_written (Tree.Max ts) names = names_call Max (arguments names ts) ∙ names_among ts names
  names_written (Tree.Sum ts) names = names_call Sum (arguments names ts) ∙ names_among ts names
  names_written (Tree.Median ts) names = names_call Median (arguments names ts) ∙ names_among ts names
  names_written (Tree.Wsum us) names = names_call Wsum (weighted names us) ∙ names_under us names

  names_among : (ts : Trees) (names : List (List ℕ)) → names_in (argument_pieces (arguments names ts)) ≡ map (name_of names) (lists_among ts)
  names_among Trees.no_tree names = refl
  names_among (Trees.tree_then t ts) names =
      names_three None (expr_pieces (written names t)) (further_pieces (arguments names ts))
      ∙ ((λ i. names_written t names i ++ (further_names (arguments names ts) ∙ names_among ts names) i) ∙ sym (map-append (name_of names) (lists_of t) (lists_among ts)))

  names_under : (us : Terms) (names : List (List ℕ)) → names_in (argument_pieces (weighted names us)) ≡ map (name_of names) (lists_under us)
  names_under Terms.no_term names = refl
  names_under (Terms.term_then w t us) names =
      names_three (Some (decimal w)) (expr_pieces (written names t)) (further_pieces (weighted names us))
      ∙ ((λ i. names_written t names i ++ (further_names (weighted names us) ∙ names_under us names) i) ∙ sym (map-append (name_of names) (lists_of t) (lists_under us)))

pub Each-append : {A : Type 0} (P : A → Type 0) (xs ys : List A) → Each P xs → Each P ys → Each P (xs ++ ys)
Each-append P [] ys h k = k
Each-append P (x ∷ xs) ys h k = (h.0, Each-append P xs ys h.1 k)

pub Each-all : {A : Type 0} (P : A → Type 0) (xs : List A) → Each P xs → All P xs
Each-all P [] h = All-nil P
Each-all P (x ∷ xs) h = All-cons P x xs h.0 (Each-all P xs h.1)

pub Each-once : {A : Type 0} (same : A → A → Bool) (P : A → Type 0) (seen xs : List A) → Each P seen → Each P xs → Each P (each_once_after same seen xs)
Each-once same P seen [] h k = h
Each-once same P seen (x ∷ xs) h k = Each-once same P (with_member same seen x) xs (kept (list_any (same x) seen)) k.1
  where
    kept : (b : Bool) → Each P (cond b seen (seen ++ x ∷ []))
    kept true = h
    kept false = Each-append P seen (x ∷ []) h (k.0, tt)

-- the names of a well-formed expression are names
mutual
  pub names_fine : (e : Written) → IsWritten e → Each IsName (names_in (expr_pieces e))
  names_fine (Written.name w) fine = (fine, tt)
  names_fine (Written.call op args) fine = subst (Each IsName) (sym (names_call op args)) (arguments_fine args op fine.1)

  arguments_fine : (args : Arguments) (op : Operator) → AreArguments op args → Each IsName (names_in (argument_pieces args))
  arguments_fine Arguments.no_argument op fine = tt
  arguments_fine (Arguments.argument_then w e rest) op fine =
      subst (Each IsName) (sym (names_three w (expr_pieces e) (further_pieces rest)))
      (Each-append IsName (names_in (expr_pieces e)) (names_in (further_pieces rest)) (names_fine e fine.1)
      (subst (Each IsName) (sym (further_names rest)) (arguments_fine rest op fine.2)))

-- a list whose name is a name is within the names
within_names : (names : List (List ℕ)) (l : ℕ) → IsName (name_of names l) → l < length names
within_names [] l h = absurd (false≢true h)
within_names (n ∷ names) zero h = omega arith
within_names (n ∷ names) (suc l) h = let k = within_names names l h in omega arith

pub listed_from : (names : List (List ℕ)) (ls : List ℕ) → Each IsName (map (name_of names) ls) → Each (λ l. l < length names) ls
listed_from names [] h = tt
listed_from names (l ∷ ls) h = (within_names names l h.0, listed_from names ls h.1)

-- what a draft of a whole line shows
pub record IsShown (d : Draft) (s : SyntaxTree) : Type 0 where
  pub shape : s ≡ shape_of (query_in d)
  pub sound : IsShape (shape_of (query_in d))
  pub fine : AreFine (pieces_of (shape_of (query_in d)))
  pub lists : names_of d ≡ lists_in (pieces_of (shape_of (query_in d)))

pub draft_shown : (line : List ℕ) (d : Draft) → (h : IsDraftOf line d) → IsShown d h.shape
unfolding shape_in
draft_shown line d h =
    let f = h.front in
    let names = names_of d in
    let may : may_end (stage_of f) ≡ true = sym (ends_at f) ∙ ap is_some h.ended in
    let shows : front_of names (stage_of f) d ≡ f = ap (λ z. front_of z (stage_of f) d) (sym (append-nil names)) ∙ h.drafts.shows [] in
    let shape : h.shape ≡ shape_of (query_in d) = shape_shown names (stage_of f) d h.shape may (ap shape_at shows ∙ h.ended) in
    let whole = whole_at f h.shape h.fine h.ended in
    record {
      shape = shape;
      sound = subst IsShape shape whole.sound;
      fine = subst (λ z. AreFine (pieces_of z)) shape (subst AreFine (sym whole.same) h.drafts.fine);
      lists = h.drafts.names ∙ (ap lists_in (sym whole.same) ∙ ap (λ z. lists_in (pieces_of z)) shape);
    }

-- the lists of a draft of a whole line
pub record AreListed (names : List (List ℕ)) (t : Tree) : Type 0 where
  pub fine : Each IsName names
  pub different : AllPairs ◌≢◌ names
  pub few : length names ≤ MAX_LISTS
  pub listed : Each (λ l. l < length names) (lists_of t)
  pub numbered : each_once bytes_eq (names_given names t) ≡ names
  pub plain : IsPlain t

pub draft_listed : (line : List ℕ) (d : Draft) → IsDraftOf line d → AreListed (names_of d) (tree_of d.operand)
draft_listed line d h =
    let shown = draft_shown line d h in
    let names = names_of d in
    let tree = tree_of d.operand in
    let pieces = pieces_of (shape_of (query_in d)) in
    let given : names_in pieces ≡ names_given names tree = names_in-shape (shape_of (query_in d)) ∙ names_written tree names in
    let each : Each IsName (names_in pieces) = subst (Each IsName) (sym (names_in-shape (shape_of (query_in d)))) (names_fine (written names tree) shown.sound.expr) in
    record {
      fine = subst (Each IsName) (sym shown.lists) (Each-once bytes_eq IsName [] (names_in pieces) tt each);
      different = subst (AllPairs ◌≢◌) (sym shown.lists) (once_different [] (names_in pieces) no_pairs);
      few = subst (λ z. length z ≤ MAX_LISTS) (sym shown.lists) shown.fine.few;
      listed = listed_from names (lists_of tree) (subst (Each IsName) given each);
      numbered = ap (each_once bytes_eq) (sym given) ∙ sym shown.lists;
      plain = h.drafts.plain.operand;
    }

-- a draft of a whole line is lawful, and its text is the line
pub draft_lawful : (line : List ℕ) (d : Draft) → IsDraftOf line d → IsSmall d → IsFair d.algorithm → IsLawful (query_in d)
draft_lawful line d h small fair =
    let shown = draft_shown line d h in
    let listed = draft_listed line d h in
    let expr = written (names_of d) (tree_of d.operand) in
    let behind = cost_pieces (option_map cost_digits d.cost) ++ room_pieces (option_map decimal d.room) in
    let ranges = AreInRange-parts (expr_pieces expr) (algorithm_pieces (named_as d.algorithm) ++ behind) shown.fine.ranges.1.1.1 in
    let end = AreInRange-parts (named_pieces (named_as d.algorithm)) behind ranges.1.1 in
    let options = AreInRange-parts (cost_pieces (option_map cost_digits d.cost)) (room_pieces (option_map decimal d.room)) end.1 in
    record {
      k = count_from d.k small.k shown.fine.ranges.1.0;
      names = Each-all IsName (names_of d) listed.fine;
      different = listed.different;
      few = listed.few;
      listed = Each-all (λ l. l < length (names_of d)) (lists_of (tree_of d.operand)) listed.listed;
      numbered = listed.numbered;
      weights = listed.plain;
      algorithm = rated_from d.algorithm small.algorithm fair end.0;
      cost = cost_counts d.cost small.cost options.0;
      room = room_counts d.room small.room options.1;
    }

pub draft_text : (line : List ℕ) (d : Draft) → IsDraftOf line d → printed (query_in d) ≡ line
unfolding printed
draft_text line d h =
    let shown = draft_shown line d h in
    let whole = whole_at h.front h.shape h.fine h.ended in
    ap spelled (sym shown.shape) ∙ (ap text_of whole.same ∙ h.text)
