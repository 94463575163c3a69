-- A line is refused for one fault of its text at most.
use Rattle.std.proofs.Common.{◌≡◌, ℕ, ◌+◌, ◌<◌, ◌≤◌, List, [], ◌∷◌, ◌++◌, length, take, drop, Err, inl, inr, refl, sym, ap, ◌∙◌, subst, arith, append_assoc, length-append}
use Rattle.std.specs.Prelude.{◌⊎◌}
use Rattle.std.specs.Str.{bytes_eq}
use Rattle.std.specs.Str.Parse.{digits_value}
use Rattle.std.proofs.lemmas.Bool.{cases_lt}
use Rattle.std.proofs.lemmas.List.{take-append-drop, take-take}
use Rattle.std.proofs.lemmas.Option.{same_Some}
use Rattle.monotone_fn.specs.Tree.{Tree}
use Rattle.monotone_fn.specs.Limits.{Makes}
use Rattle.monotone_fn.specs.declared.fault.ExprFault.TheVariants as trees
use Rattle.query_text.specs.Pieces.{Piece, IsInRange, AreInRange, AreFine, names_in, each_once, lists_in, text_of, IsNumberFault, IsNameFault}
use Rattle.query_text.specs.Shape.{SyntaxTree, Named, IsShape, IsText, BeginsQuery, IsSyntaxFault, pieces_of, spelled}
use Rattle.query_text.specs.Query.{printed, shape_of, IsLawful}
use Rattle.query_text.specs.Reading.{Reads, Spells}
use Rattle.query_text.specs.declared.query.Query.{Query}
use Rattle.query_text.specs.declared.fault.QueryFault.{QueryFault}
use Rattle.query_text.specs.declared.fault.QueryFault.TheVariants as faults
use Rattle.query_text.proofs.ListLaws.{names_in-append, once-append, once-extends}
use Rattle.query_text.proofs.CompleteLaws.{one_shape}
use Rattle.query_text.proofs.RatedLaws.{never_below}
use Rattle.query_text.proofs.BackLaws.{printed_same, lawful_shape, no_number_fault, no_name_fault}
use Rattle.topk_base.specs.declared.TheConstants.{MAX_LINE}

-- a list that goes on behind a member
pub record GoesOn {A : Type 0} (front : List A) (x : A) (whole : List A) : Type 0 where
  pub rest : List A
  pub is : whole ≡ front ++ x ∷ rest

-- a list that is split at a member in two ways: at the same place, or the one front goes on behind the other's member
pub two_splits : {A : Type 0} (xs ys : List A) (x y : A) (more others : List A) → xs ++ x ∷ more ≡ ys ++ y ∷ others
    → ((xs ≡ ys) × (x ≡ y)) ⊎ (GoesOn xs x ys ⊎ GoesOn ys y xs)
two_splits [] [] x y more others e = inl (refl, cc)
two_splits [] (b ∷ ys) x y more others e = let same : x ≡ b = cc in inr (inl (record { rest = ys; is = ap (λ a. a ∷ ys) (sym same) }))
two_splits (a ∷ xs) [] x y more others e = let same : a ≡ y = cc in inr (inr (record { rest = xs; is = ap (λ b. b ∷ xs) same }))
two_splits (a ∷ xs) (b ∷ ys) x y more others e =
    let same : a ≡ b = cc in
    let rest : xs ++ x ∷ more ≡ ys ++ y ∷ others = cc in
    elim (two_splits xs ys x y more others rest) [
      | inl both ↦ inl (ap (λ z. z ∷ xs) same ∙ ap (λ zs. b ∷ zs) both.0, both.1)
      | inr (inl on) ↦ inr (inl (record { rest = on.rest; is = ap (λ z. z ∷ ys) (sym same) ∙ ap (λ zs. a ∷ zs) on.is }))
      | inr (inr on) ↦ inr (inr (record { rest = on.rest; is = ap (λ z. z ∷ xs) same ∙ ap (λ zs. b ∷ zs) on.is }))
    ]

-- the front of a text of which a longer front begins a query begins one too
begins_less : (text : List ℕ) (i j : ℕ) → i ≤ j → BeginsQuery (take j text) → BeginsQuery (take i text)
begins_less text i j less h = record {
  shape = h.shape;
  sound = h.sound;
  rest = drop i (take j text) ++ h.rest;
  same =
      h.same ∙ ap (λ front. front ++ h.rest) (sym (take-append-drop i (take j text))) ∙ append_assoc (take i (take j text)) (drop i (take j text)) h.rest
      ∙ ap (λ front. front ++ (drop i (take j text) ++ h.rest)) (take-take i j text less);
}

no_longer : (text : List ℕ) (at other : ℕ) → IsSyntaxFault text at → IsSyntaxFault text other → at < other → ⊥
no_longer text at other one two less =
    let within = two.within in
    one.longest (omega (arith, within, less)) (begins_less text (at + 1) other (omega (arith, less)) two.begins)

syntax_once : (text : List ℕ) (at other : ℕ) → IsSyntaxFault text at → IsSyntaxFault text other → at ≡ other
syntax_once text at other one two = elim (cases_lt at other) [
  | inl less ↦ absurd (no_longer text at other one two less)
  | inr more ↦ elim (cases_lt other at) [
    | inl less ↦ absurd (no_longer text other at two one less)
    | inr less ↦ omega (arith, more, less)
  ]
]

-- pieces are no longer fine with this one
record Breaks (pieces before : List Piece) (last : Piece) : Type 0 where
  after : List Piece
  parts : pieces ≡ before ++ last ∷ after
  first : AreFine before
  broken : ¬ AreFine (before ++ last ∷ [])

ranges_front : (front rest : List Piece) → AreInRange (front ++ rest) → AreInRange front
ranges_front [] rest h = tt
ranges_front (p ∷ front) rest h = (h.0, ranges_front front rest h.1)

last_ranged : (front : List Piece) (p : Piece) → AreInRange (front ++ p ∷ []) → IsInRange p
last_ranged [] p h = h.0
last_ranged (q ∷ front) p h = last_ranged front p h.1

fine_front : (front rest : List Piece) → AreFine (front ++ rest) → AreFine front
fine_front front rest fine =
    let grown = once-extends bytes_eq (lists_in front) (names_in rest) in
    let same : lists_in (front ++ rest) ≡ lists_in front ++ grown.0 =
    ap (each_once bytes_eq) (names_in-append front rest) ∙ (once-append bytes_eq [] (names_in front) (names_in rest) ∙ grown.1) in
    let few = fine.few in
    record {
      ranges = ranges_front front rest fine.ranges;
      few = omega (arith, few, ap length same, length-append (lists_in front) grown.0);
    }

no_later : (pieces before other : List Piece) (p q : Piece) → Breaks pieces before p → Breaks pieces other q → GoesOn before p other → ⊥
no_later pieces before other p q one two on =
    one.broken (fine_front (before ++ p ∷ []) on.rest (subst AreFine (on.is ∙ sym (append_assoc before (p ∷ []) on.rest)) two.first))

breaks_once : (pieces before other : List Piece) (p q : Piece) → Breaks pieces before p → Breaks pieces other q → (before ≡ other) × (p ≡ q)
breaks_once pieces before other p q one two = elim (two_splits before other p q one.after two.after (sym one.parts ∙ two.parts)) [
  | inl same ↦ same
  | inr (inl on) ↦ absurd (no_later pieces before other p q one two on)
  | inr (inr on) ↦ absurd (no_later pieces other before q p two one on)
]

number_breaks : (pieces : List Piece) (at : ℕ) → (f : IsNumberFault pieces at) → Breaks pieces f.before (Piece.number f.least f.most f.digits)
number_breaks pieces at f = record {
  after = f.after;
  parts = f.parts;
  first = f.first;
  broken = λ fine. f.outside (last_ranged f.before (Piece.number f.least f.most f.digits) fine.ranges);
}

name_breaks : (pieces : List Piece) (at : ℕ) → (f : IsNameFault pieces at) → Breaks pieces f.before (Piece.name f.text)
name_breaks pieces at f = record {
  after = f.after;
  parts = f.parts;
  first = f.first;
  broken = λ fine. let more = f.more in let few = fine.few in absurd (omega (arith, more, few));
}

fine_unbroken : (pieces before : List Piece) (p : Piece) → Breaks pieces before p → AreFine pieces → ⊥
fine_unbroken pieces before p breaks fine =
    breaks.broken (fine_front (before ++ p ∷ []) breaks.after (subst AreFine (breaks.parts ∙ sym (append_assoc before (p ∷ []) breaks.after)) fine))

-- the pieces are fine, but the factor of the algorithm is below 1
record IsUnfair (shape : SyntaxTree) (fault : QueryFault) : Type 0 where
  p : ℕ
  q : ℕ
  over : List ℕ
  under : List ℕ
  fine : AreFine (pieces_of shape)
  factor : shape.algorithm ≡ Named.factor over under
  is_over : digits_value 10 over ≡ p
  is_under : digits_value 10 under ≡ q
  less : p < q
  is : fault ≡ faults.BadTheta p q

unfair_once : (shape other : SyntaxTree) (f g : QueryFault) → other ≡ shape → IsUnfair shape f → IsUnfair other g → f ≡ g
unfair_once shape other f g same one two =
    let both : Named.factor one.over one.under ≡ Named.factor two.over two.under = sym one.factor ∙ ap (λ (s : SyntaxTree). s.algorithm) (sym same) ∙ two.factor in
    let over : one.over ≡ two.over = cc in
    let under : one.under ≡ two.under = cc in
    let p : one.p ≡ two.p = sym one.is_over ∙ ap (digits_value 10) over ∙ two.is_over in
    let q : one.q ≡ two.q = sym one.is_under ∙ ap (digits_value 10) under ∙ two.is_under in
    one.is ∙ (λ i. faults.BadTheta (p i) (q i)) ∙ sym two.is

never_unfair : (shape : SyntaxTree) (fault : QueryFault) (query : Query) → shape ≡ shape_of query → IsLawful query → IsUnfair shape fault → ⊥
never_unfair shape fault query same lawful unfair =
    never_below query.algorithm unfair.over unfair.under unfair.p unfair.q lawful.algorithm (ap (λ (s : SyntaxTree). s.algorithm) (sym same) ∙ unfair.factor)
    unfair.is_over unfair.is_under unfair.less

abbrev WhyBroken : SyntaxTree → QueryFault → Type 0
WhyBroken shape fault =
    ((at : ℕ) × IsNumberFault (pieces_of shape) at × (fault ≡ faults.Number at))
    ⊎ (((at : ℕ) × IsNameFault (pieces_of shape) at × (fault ≡ faults.TooManyLists at)) ⊎ IsUnfair shape fault)

-- the pieces of a line have a fault, or its factor
record IsBroken (line : List ℕ) (fault : QueryFault) : Type 0 where
  short : length line ≤ MAX_LINE
  shape : SyntaxTree
  sound : IsShape shape
  text : spelled shape ≡ line
  why : WhyBroken shape fault

-- a tree has too many nodes, is too deep, or its value may be too big
abbrev TreeFault : Tree → QueryFault → Type 0
TreeFault tree fault =
    ((nodes : ℕ) × Makes tree (Err (trees.TooManyNodes nodes)) × (fault ≡ faults.TooManyNodes nodes))
    ⊎ (((depth : ℕ) × Makes tree (Err (trees.TooDeep depth)) × (fault ≡ faults.TooDeep depth))
    ⊎ ((node : ℕ) × Makes tree (Err (trees.TooBig node)) × (fault ≡ faults.TooBig node)))

tree_once : (tree : Tree) (f g : QueryFault) → TreeFault tree f → TreeFault tree g → f ≡ g
tree_once tree f g (inl (n, a, is)) (inl (m, b, same)) = is ∙ ap (λ k. faults.TooManyNodes k) (a.1 ∙ sym b.1) ∙ sym same
tree_once tree f g (inl (n, a, is)) (inr (inl (m, b, same))) = absurd (omega (arith, a.0, b.0))
tree_once tree f g (inl (n, a, is)) (inr (inr (m, b, same))) = absurd (omega (arith, a.0, b.0))
tree_once tree f g (inr (inl (n, a, is))) (inl (m, b, same)) = absurd (omega (arith, a.0, b.0))
tree_once tree f g (inr (inl (n, a, is))) (inr (inl (m, b, same))) = is ∙ ap (λ k. faults.TooDeep k) (a.2 ∙ sym b.2) ∙ sym same
tree_once tree f g (inr (inl (n, a, is))) (inr (inr (m, b, same))) = absurd (omega (arith, a.1, b.1))
tree_once tree f g (inr (inr (n, a, is))) (inl (m, b, same)) = absurd (omega (arith, a.0, b.0))
tree_once tree f g (inr (inr (n, a, is))) (inr (inl (m, b, same))) = absurd (omega (arith, a.1, b.1))
tree_once tree f g (inr (inr (n, a, is))) (inr (inr (m, b, same))) = is ∙ ap (λ k. faults.TooBig k) (same_Some n m (sym a.2 ∙ b.2)) ∙ sym same

-- the line spells a query whose tree is refused
record IsNoTree (line : List ℕ) (fault : QueryFault) : Type 0 where
  query : Query
  spells : Spells line query
  refused : TreeFault query.expr fault

-- a line has a fault: it is too long, or not of the shape, or its pieces have one, or its tree
abbrev IsLong : List ℕ → QueryFault → Type 0
IsLong line fault = (MAX_LINE < length line) × (fault ≡ faults.LongLine MAX_LINE)

abbrev IsNoText : List ℕ → QueryFault → Type 0
IsNoText line fault = (length line ≤ MAX_LINE) × ((at : ℕ) × IsSyntaxFault line at × (fault ≡ faults.Syntax at))

abbrev IsFaulty : List ℕ → QueryFault → Type 0
IsFaulty line fault = IsLong line fault ⊎ (IsNoText line fault ⊎ (IsBroken line fault ⊎ IsNoTree line fault))

faulty : (line : List ℕ) (fault : QueryFault) → Reads line (Err fault) → (fault ≡ faults.Memory) ⊎ IsFaulty line fault
faulty line (faults.LongLine limit) reads = inr (inl (reads.0, ap (λ n. faults.LongLine n) reads.1))
faulty line (faults.Syntax at) reads = inr (inr (inl (reads.0, (at, reads.1, refl))))
faulty line (faults.Number at) reads = inr (inr (inr (inl (record {
  short = reads.short;
  shape = reads.shape;
  sound = reads.sound;
  text = reads.text;
  why = inl (at, reads.fault, refl);
}))))
faulty line (faults.TooManyLists at) reads = inr (inr (inr (inl (record {
  short = reads.short;
  shape = reads.shape;
  sound = reads.sound;
  text = reads.text;
  why = inr (inl (at, reads.fault, refl));
}))))
faulty line (faults.BadTheta p q) reads = inr (inr (inr (inl (record {
  short = reads.short;
  shape = reads.shape;
  sound = reads.sound;
  text = reads.text;
  why = inr (inr (record {
    p = p;
    q = q;
    over = reads.over;
    under = reads.under;
    fine = reads.fine;
    factor = reads.factor;
    is_over = reads.is_over;
    is_under = reads.is_under;
    less = reads.less;
    is = refl;
  }));
}))))
faulty line (faults.TooManyNodes nodes) reads = inr (inr (inr (inr (record { query = reads.query; spells = reads.spells; refused = inl (nodes, reads.refused, refl) }))))
faulty line (faults.TooDeep depth) reads = inr (inr (inr (inr (record { query = reads.query; spells = reads.spells; refused = inr (inl (depth, reads.refused, refl)) }))))
faulty line (faults.TooBig node) reads = inr (inr (inr (inr (record { query = reads.query; spells = reads.spells; refused = inr (inr (node, reads.refused, refl)) }))))
faulty line faults.Memory reads = inl refl

tree_text : (line : List ℕ) (query : Query) → Spells line query → spelled (shape_of query) ≡ line
unfolding printed
tree_text line query spells = spells.text

-- a line whose pieces or whose tree have a fault is short and of the shape
shaped : (line : List ℕ) (fault : QueryFault) → IsBroken line fault ⊎ IsNoTree line fault → IsText line
shaped line fault (inl broken) = record { shape = broken.shape; sound = broken.sound; same = broken.text }
shaped line fault (inr tree) =
    record { shape = shape_of tree.query; sound = lawful_shape tree.query tree.spells.lawful; same = tree_text line tree.query tree.spells }

short : (line : List ℕ) (fault : QueryFault) → IsNoText line fault ⊎ (IsBroken line fault ⊎ IsNoTree line fault) → length line ≤ MAX_LINE
short line fault (inl none) = none.0
short line fault (inr (inl broken)) = broken.short
short line fault (inr (inr tree)) = tree.spells.short

pieces_once : (line : List ℕ) (f g : QueryFault) → IsBroken line f → IsBroken line g → f ≡ g
pieces_once line f g one two = go one.why two.why
  where
    same : two.shape ≡ one.shape
    same = one_shape two.shape one.shape two.sound one.sound (two.text ∙ sym one.text)

    go : WhyBroken one.shape f → WhyBroken two.shape g → f ≡ g
    go (inl (n, a, is)) (inl (m, b, equal)) =
        let c : IsNumberFault (pieces_of one.shape) m = subst (λ s. IsNumberFault (pieces_of s) m) same b in
        let at : n ≡ m = a.place ∙ ap (λ ps. length (text_of ps)) (breaks_once _ a.before c.before _ _ (number_breaks _ n a) (number_breaks _ m c)).0 ∙ sym c.place in
        is ∙ ap (λ k. faults.Number k) at ∙ sym equal
    go (inl (n, a, is)) (inr (inl (m, b, equal))) =
        let c : IsNameFault (pieces_of one.shape) m = subst (λ s. IsNameFault (pieces_of s) m) same b in
        let piece : Piece.number a.least a.most a.digits ≡ Piece.name c.text = (breaks_once _ a.before c.before _ _ (number_breaks _ n a) (name_breaks _ m c)).1 in
        absurd cc
    go (inr (inl (n, a, is))) (inl (m, b, equal)) =
        let c : IsNumberFault (pieces_of one.shape) m = subst (λ s. IsNumberFault (pieces_of s) m) same b in
        let piece : Piece.name a.text ≡ Piece.number c.least c.most c.digits = (breaks_once _ a.before c.before _ _ (name_breaks _ n a) (number_breaks _ m c)).1 in
        absurd cc
    go (inr (inl (n, a, is))) (inr (inl (m, b, equal))) =
        let c : IsNameFault (pieces_of one.shape) m = subst (λ s. IsNameFault (pieces_of s) m) same b in
        let at : n ≡ m = a.place ∙ ap (λ ps. length (text_of ps)) (breaks_once _ a.before c.before _ _ (name_breaks _ n a) (name_breaks _ m c)).0 ∙ sym c.place in
        is ∙ ap (λ k. faults.TooManyLists k) at ∙ sym equal
    go (inl (n, a, is)) (inr (inr b)) = absurd (fine_unbroken _ a.before _ (number_breaks _ n a) (subst (λ s. AreFine (pieces_of s)) same b.fine))
    go (inr (inl (n, a, is))) (inr (inr b)) = absurd (fine_unbroken _ a.before _ (name_breaks _ n a) (subst (λ s. AreFine (pieces_of s)) same b.fine))
    go (inr (inr a)) (inl (m, b, equal)) = absurd (fine_unbroken _ b.before _ (number_breaks _ m b) (subst (λ s. AreFine (pieces_of s)) (sym same) a.fine))
    go (inr (inr a)) (inr (inl (m, b, equal))) = absurd (fine_unbroken _ b.before _ (name_breaks _ m b) (subst (λ s. AreFine (pieces_of s)) (sym same) a.fine))
    go (inr (inr a)) (inr (inr b)) = unfair_once one.shape two.shape f g same a b

not_both : (line : List ℕ) (f g : QueryFault) → IsBroken line f → IsNoTree line g → ⊥
not_both line f g broken tree = go broken.why
  where
    same : broken.shape ≡ shape_of tree.query
    same =
        one_shape broken.shape (shape_of tree.query) broken.sound (lawful_shape tree.query tree.spells.lawful)
        (broken.text ∙ sym (tree_text line tree.query tree.spells))

    go : WhyBroken broken.shape f → ⊥
    go (inl (at, fault, is)) = no_number_fault tree.query at tree.spells.lawful (subst (λ s. IsNumberFault (pieces_of s) at) same fault)
    go (inr (inl (at, fault, is))) = no_name_fault tree.query at tree.spells.lawful (subst (λ s. IsNameFault (pieces_of s) at) same fault)
    go (inr (inr unfair)) = never_unfair broken.shape f tree.query same tree.spells.lawful unfair

trees_once : (line : List ℕ) (f g : QueryFault) → IsNoTree line f → IsNoTree line g → f ≡ g
trees_once line f g one two =
    let same : two.query ≡ one.query = printed_same two.query one.query two.spells.lawful one.spells.lawful (two.spells.text ∙ sym one.spells.text) in
    tree_once one.query.expr f g one.refused (subst (λ (q : Query). TreeFault q.expr g) same two.refused)

faulty_once : (line : List ℕ) (f g : QueryFault) → IsFaulty line f → IsFaulty line g → f ≡ g
faulty_once line f g (inl a) (inl b) = a.1 ∙ sym b.1
faulty_once line f g (inl a) (inr b) = absurd (omega (arith, a.0, short line g b))
faulty_once line f g (inr a) (inl b) = absurd (omega (arith, b.0, short line f a))
faulty_once line f g (inr (inl a)) (inr (inl b)) = a.1.2 ∙ ap (λ at. faults.Syntax at) (syntax_once line a.1.0 b.1.0 a.1.1 b.1.1) ∙ sym b.1.2
faulty_once line f g (inr (inl a)) (inr (inr b)) = absurd (a.1.1.refused (shaped line g b))
faulty_once line f g (inr (inr a)) (inr (inl b)) = absurd (b.1.1.refused (shaped line f a))
faulty_once line f g (inr (inr (inl a))) (inr (inr (inl b))) = pieces_once line f g a b
faulty_once line f g (inr (inr (inl a))) (inr (inr (inr b))) = absurd (not_both line f g a b)
faulty_once line f g (inr (inr (inr a))) (inr (inr (inl b))) = absurd (not_both line g f b a)
faulty_once line f g (inr (inr (inr a))) (inr (inr (inr b))) = trees_once line f g a b

-- what a line is refused for, unless for lack of memory
pub fault_once : (line : List ℕ) (f g : QueryFault) → Reads line (Err f) → Reads line (Err g) → (f ≡ faults.Memory) ⊎ ((g ≡ faults.Memory) ⊎ (f ≡ g))
fault_once line f g reads other = elim (faulty line f reads) [
  | inl none ↦ inl none
  | inr a ↦ elim (faulty line g other) [ inl none ↦ inr (inl none) | inr b ↦ inr (inr (faulty_once line f g a b)) ]
]
