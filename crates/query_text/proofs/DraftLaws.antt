-- What a draft shows with one more word.
use Rattle.std.proofs.Common.{◌≡◌, ℕ, ◌≤◌, true, false, List, [], ◌∷◌, ◌++◌, map, Option, Some, None, Result, Ok, Err, OnOk, unwrap_or, option_map, refl, sym, ap, ◌∙◌, subst, arith}
use Rattle.std.specs.Fmt.{decimal}
use Rattle.std.proofs.lemmas.Bool.{cond-true, cond-false}
use Rattle.std.proofs.lemmas.List.{map-append}
use Rattle.monotone_fn.specs.Tree.{Tree, trees, terms}
use Rattle.monotone_fn.specs.Shown.{tree_of, term_of}
use Rattle.monotone_fn.specs.declared.node.Node.{Node}
use Rattle.monotone_fn.specs.declared.node.Term.{Term}
use Rattle.query_text.proofs.PutLaws.{arguments_plain, arguments_weighted}
use Rattle.query_text.specs.Written.{Written, IsWeight, arguments_from}
use Rattle.query_text.specs.Query.{written, arguments, weighted, IsPlain, ArePlain, AreWeighed, HasTree, HasTerm, plain_argument, weighted_argument}
use Rattle.query_text.specs.Front.{is_weighted}
use Rattle.query_text.specs.Front as front
use Rattle.query_text.specs.Draft.{done_of, frame_of, IsWeightPlain, AddsArgument, Closes}
use Rattle.query_text.specs.declared.frame.Frame.{Frame}
use Rattle.query_text.specs.declared.operator.Operator.{Operator}
use Rattle.query_text.specs.declared.operator.Operator.TheVariants.{Wsum}
use Rattle.query_text.proofs.CompleteLaws.{no_weight, weighted_some}
use Rattle.query_text.proofs.FrontLaws.{weighted_is}
use Rattle.topk_base.specs.declared.TheConstants.{MAX_WEIGHT}

-- what follows from what holds where a call succeeded
pub where_ok : {A E P Q : Type 0} (result : Result A E) → (P → Q) → OnOk result P → OnOk result Q
where_ok (Ok value) follows holds = follows holds
where_ok (Err fault) follows holds = tt

-- frames with equal parts are equal
same_frame : (a b : front.Frame) → a.operator ≡ b.operator → a.done ≡ b.done → a.weight ≡ b.weight → a ≡ b
same_frame a b p q r = λ i. record { operator = p i; done = q i; weight = r i }

-- two maps of a list with one more member
map2-push : {A B C : Type 0} (f : B → C) (g : A → B) (xs : List A) (x : A) → map f (map g (xs ++ x ∷ [])) ≡ map f (map g xs) ++ f (g x) ∷ []
map2-push f g xs x = ap (map f) (map-append g xs (x ∷ [])) ∙ map-append f (map g xs) (g x ∷ [])

ArePlain-push : (ts : List Tree) (t : Tree) → ArePlain (trees ts) → IsPlain t → ArePlain (trees (ts ++ t ∷ []))
ArePlain-push [] t h p = (p, tt)
ArePlain-push (u ∷ ts) t h p = (h.0, ArePlain-push ts t h.1 p)

AreWeighed-push : (us : List (ℕ × Tree)) (u : ℕ × Tree) → AreWeighed (terms us) → u.0 ≤ MAX_WEIGHT → IsPlain u.1 → AreWeighed (terms (us ++ u ∷ []))
AreWeighed-push [] u h w p = (w, p, tt)
AreWeighed-push (v ∷ us) u h w p = (h.0, h.1, AreWeighed-push us u h.2 w p)

has_tree : (ts : List Tree) (t : Tree) → HasTree (trees (ts ++ t ∷ []))
has_tree [] t = tt
has_tree (u ∷ ts) t = tt

has_term : (us : List (ℕ × Tree)) (u : ℕ × Tree) → HasTerm (terms (us ++ u ∷ []))
has_term [] u = tt
has_term (v ∷ us) u = tt

-- the weight of an operator with weights was read
weight_read : (op : Operator) (w : Option ℕ) → is_weighted op ≡ true → IsWeight op (option_map decimal w)
    → Some (decimal (unwrap_or w 0)) ≡ option_map decimal w
weight_read op None is h = absurd (weighted_some op is h)
weight_read op (Some w) is h = refl

weight_within : (w : Option ℕ) → IsWeightPlain w → unwrap_or w 0 ≤ MAX_WEIGHT
weight_within None h = omega arith
weight_within (Some w) h = h

-- a weighted argument more
terms_more : (names : List (List ℕ)) (f : Frame) (items : List Term) (t : Term) → is_weighted f.operator ≡ true → items ≡ f.terms.items ++ t ∷ []
    → t.weight ≡ unwrap_or f.weight 0 → IsWeight f.operator (option_map decimal f.weight)
    → map (weighted_argument names) (map term_of items) ≡ done_of names f ++ (option_map decimal f.weight, written names (tree_of t.node)) ∷ []
terms_more names f items t is e same fine =
    ap (λ xs. map (weighted_argument names) (map term_of xs)) e
    ∙ (map2-push (weighted_argument names) term_of f.terms.items t
    ∙ (ap (λ w. map (weighted_argument names) (map term_of f.terms.items) ++ (w, written names (tree_of t.node)) ∷ []) (ap (λ w. Some (decimal w)) same ∙ weight_read f.operator f.weight is fine)
    ∙ ap (λ xs. xs ++ (option_map decimal f.weight, written names (tree_of t.node)) ∷ []) (sym (cond-true (is_weighted f.operator) (map (weighted_argument names) (map term_of f.terms.items)) (map (plain_argument names) (map tree_of f.nodes.items)) is))))

-- a plain argument more
nodes_more : (names : List (List ℕ)) (f : Frame) (items : List Node) (n : Node) → is_weighted f.operator ≡ false → items ≡ f.nodes.items ++ n ∷ []
    → IsWeight f.operator (option_map decimal f.weight)
    → map (plain_argument names) (map tree_of items) ≡ done_of names f ++ (option_map decimal f.weight, written names (tree_of n)) ∷ []
nodes_more names f items n is e fine =
    ap (λ xs. map (plain_argument names) (map tree_of xs)) e
    ∙ (map2-push (plain_argument names) tree_of f.nodes.items n
    ∙ (ap (λ w. map (plain_argument names) (map tree_of f.nodes.items) ++ (w, written names (tree_of n)) ∷ []) (sym (no_weight f.operator (option_map decimal f.weight) is fine))
    ∙ ap (λ xs. xs ++ (option_map decimal f.weight, written names (tree_of n)) ∷ []) (sym (cond-false (is_weighted f.operator) (map (weighted_argument names) (map term_of f.terms.items)) (map (plain_argument names) (map tree_of f.nodes.items)) is))))

pub adds_weighted : (old new : Frame) (t : Term) → is_weighted old.operator ≡ true → new.operator ≡ old.operator → new.weight ≡ None → new.nodes ≡ old.nodes
    → new.terms.items ≡ old.terms.items ++ t ∷ [] → t.weight ≡ unwrap_or old.weight 0 → AddsArgument old new (tree_of t.node)
adds_weighted old new t is op none nodes_same e same = record {
  shows = λ names fine. same_frame (frame_of names new) _ op
      (cond-true _ _ _ (ap is_weighted op ∙ is) ∙ terms_more names old new.terms.items t is e same fine)
      (ap (option_map decimal) none);
  plain = λ p h. record {
    weight = subst IsWeightPlain (sym none) tt;
    nodes = subst (λ v. ArePlain (trees (map tree_of v.items))) (sym nodes_same) h.nodes;
    terms = subst (λ xs. AreWeighed (terms xs)) (sym (ap (map term_of) e ∙ map-append term_of old.terms.items (t ∷ [])))
        (AreWeighed-push (map term_of old.terms.items) (term_of t) h.terms (subst (λ w. w ≤ MAX_WEIGHT) (sym same) (weight_within old.weight h.weight)) p);
  };
}

pub adds_plain : (old new : Frame) (n : Node) → is_weighted old.operator ≡ false → new.operator ≡ old.operator → new.weight ≡ None → new.terms ≡ old.terms
    → new.nodes.items ≡ old.nodes.items ++ n ∷ [] → AddsArgument old new (tree_of n)
adds_plain old new n isnt op none terms_same e = record {
  shows = λ names fine. same_frame (frame_of names new) _ op
      (cond-false _ _ _ (ap is_weighted op ∙ isnt) ∙ nodes_more names old new.nodes.items n isnt e fine)
      (ap (option_map decimal) none);
  plain = λ p h. record {
    weight = subst IsWeightPlain (sym none) tt;
    nodes = subst (λ xs. ArePlain (trees xs)) (sym (ap (map tree_of) e ∙ map-append tree_of old.nodes.items (n ∷ []))) (ArePlain-push (map tree_of old.nodes.items) (tree_of n) h.nodes p);
    terms = subst (λ v. AreWeighed (terms (map term_of v.items))) (sym terms_same) h.terms;
  };
}

pub closes_weighted : (old : Frame) (items : List Term) (us : List (ℕ × Tree)) (t : Term) → is_weighted old.operator ≡ true → items ≡ old.terms.items ++ t ∷ []
    → us ≡ map term_of items
    → t.weight ≡ unwrap_or old.weight 0 → Closes old (tree_of t.node) (Tree.Wsum (terms us))
closes_weighted old items us t is e u same = record {
  shows = λ names fine.
      ap (λ xs. Written.call Wsum (weighted names (terms xs))) u
      ∙ (ap (Written.call Wsum) (arguments_weighted names (map term_of items))
      ∙ (ap (λ xs. Written.call Wsum (arguments_from xs)) (terms_more names old items t is e same fine)
      ∙ ap (λ o. Written.call o (arguments_from (done_of names old ++ (option_map decimal old.weight, written names (tree_of t.node)) ∷ []))) (sym (weighted_is old.operator is))));
  plain = λ p h. subst (λ xs. HasTerm (terms xs) × AreWeighed (terms xs)) (sym (u ∙ (ap (map term_of) e ∙ map-append term_of old.terms.items (t ∷ [])))) (
    has_term (map term_of old.terms.items) (term_of t),
    AreWeighed-push (map term_of old.terms.items) (term_of t) h.terms (subst (λ w. w ≤ MAX_WEIGHT) (sym same) (weight_within old.weight h.weight)) p,
  );
}

pub closes_plain : (old : Frame) (items : List Node) (ts : List Tree) (n : Node) (whole : Tree) → is_weighted old.operator ≡ false
    → items ≡ old.nodes.items ++ n ∷ [] → ts ≡ map tree_of items
    → (is_weighted old.operator ≡ false → (names : List (List ℕ)) → written names whole ≡ Written.call old.operator (arguments names (trees ts)))
    → (HasTree (trees ts) → ArePlain (trees ts) → IsPlain whole) → Closes old (tree_of n) whole
closes_plain old items ts n whole isnt e u shows plain = record {
  shows = λ names fine.
      shows isnt names
      ∙ (ap (λ xs. Written.call old.operator (arguments names (trees xs))) u
      ∙ (ap (Written.call old.operator) (arguments_plain names (map tree_of items))
      ∙ ap (λ xs. Written.call old.operator (arguments_from xs)) (nodes_more names old items n isnt e fine)));
  plain = λ p h.
      let is : ts ≡ map tree_of old.nodes.items ++ tree_of n ∷ [] = u ∙ (ap (map tree_of) e ∙ map-append tree_of old.nodes.items (n ∷ [])) in
      plain (subst (λ xs. HasTree (trees xs)) (sym is) (has_tree (map tree_of old.nodes.items) (tree_of n)))
      (subst (λ xs. ArePlain (trees xs)) (sym is) (ArePlain-push (map tree_of old.nodes.items) (tree_of n) h.nodes p));
}
