-- How a reader goes on, and where it is refused.
use Rattle.std.proofs.Common.{◌≡◌, ℕ, suc, ◌+◌, ◌<◌, true, false, List, [], ◌∷◌, ◌++◌, length, take, Option, Some, None, is_some, refl, sym, ap, ◌∙◌, subst, arith, append_assoc}
use Rattle.std.proofs.lemmas.Bool.{cond-false, false≢true, true≢false}
use Rattle.std.proofs.lemmas.List.{append-nil, length-append}
use Rattle.query_text.specs.Course.{may_end}
use Rattle.query_text.specs.Shape.{SyntaxTree, IsText, BeginsQuery, IsSyntaxFault}
use Rattle.query_text.specs.Words.{Class, begins, is_whole}
use Rattle.query_text.specs.Front.{Front, stage_of, class_of, next, shape_at, reads, IsFine}
use Rattle.query_text.specs.Reached.{front_text, Follows}
use Rattle.query_text.proofs.WordLaws.{Stops, reads-word, reads-stuck, reads-short, never_empty}
use Rattle.query_text.proofs.FrontLaws.{text-next}
use Rattle.query_text.proofs.ViableLaws.{viable, viable_within}
use Rattle.query_text.proofs.CompleteLaws.{complete}

-- a text may end where a front is a whole text
pub ends_at : (f : Front) → is_some (shape_at f) ≡ may_end (stage_of f)
ends_at Front.at_top = refl
ends_at Front.at_count = refl
ends_at (Front.at_by k) = refl
ends_at (Front.at_operand k fs) = refl
ends_at (Front.at_behind k fs e) = refl
ends_at (Front.at_weight k fs) = refl
ends_at (Front.at_times k fs d) = refl
ends_at (Front.at_algorithm k e) = refl
ends_at (Front.at_factor k e) = refl
ends_at (Front.at_over k e p) = refl
ends_at (Front.at_under k e p) = refl
ends_at (Front.at_depth k e) = refl
ends_at (Front.at_options h) = refl
ends_at (Front.at_sorted h) = refl
ends_at (Front.at_between h d) = refl
ends_at (Front.at_random h d) = refl
ends_at (Front.at_priced h c) = refl
ends_at (Front.at_room h c) = refl
ends_at (Front.at_end s) = refl

-- a reader goes on behind a word
pub follows-next : (f : Front) (w t : List ℕ) → IsFine f → is_whole (class_of f) w ≡ true → Stops (class_of f) w t → Follows f (w ++ t) → Follows (next f w) t
follows-next f [] t fine whole stops h = absurd (false≢true (sym (never_empty f) ∙ whole))
follows-next f (y ∷ w) [] fine whole stops h =
    ap (reads Front.at_top []) (text-next f (y ∷ w) fine whole)
    ∙ (h w ∙ (ap (reads f []) (sym (append-nil (y ∷ w))) ∙ reads-word f (y ∷ w) [] whole tt))
follows-next f (y ∷ w) (x ∷ t) fine whole stops h = λ m.
    ap (λ z. reads Front.at_top [] (z ++ x ∷ m)) (text-next f (y ∷ w) fine whole)
    ∙ (ap (reads Front.at_top []) (append_assoc (front_text f) (y ∷ w) (x ∷ m))
    ∙ (h (w ++ x ∷ m) ∙ reads-word f (y ∷ w) (x ∷ m) whole stops))

-- the text of a word begins one, if there is any
abbrev pub Fits : Class → List ℕ → Type 0
Fits c [] = Unit {0}
Fits c (y ∷ w) = begins c (y ∷ w) ≡ true

-- what follows a part of a word that doesn't go on isn't read
stuck : (f : Front) (w : List ℕ) (x : ℕ) (t : List ℕ) → Fits (class_of f) w → is_whole (class_of f) w ≡ false → begins (class_of f) (w ++ x ∷ []) ≡ false
    → Follows f (w ++ x ∷ t) → (m : List ℕ) → reads Front.at_top [] (front_text f ++ (w ++ x ∷ m)) ≡ None
stuck f [] x t fits part stops h m = h m ∙ (cond-false _ _ _ stops ∙ cond-false _ _ _ part)
stuck f (y ∷ w) x t fits part stops h m = h (w ++ x ∷ m) ∙ reads-stuck f (y ∷ w) x m fits part stops

-- and a text that ends there isn't one
short : (f : Front) (w : List ℕ) → Fits (class_of f) w → is_whole (class_of f) w ≡ false → (w ≡ [] → may_end (stage_of f) ≡ false)
    → Follows f (w ++ []) → reads Front.at_top [] (front_text f ++ w) ≡ None
short f [] fits part goes h = ap (reads Front.at_top []) (append-nil (front_text f)) ∙ (h ∙ none (shape_at f) (ends_at f ∙ goes refl))
  where
    none : (o : Option SyntaxTree) → is_some o ≡ false → o ≡ None
    none None e = refl
    none (Some s) e = absurd (true≢false e)
short f (y ∷ w) fits part goes h = h w ∙ reads-short f y w fits part

take-front : (a b : List ℕ) → take (length a) (a ++ b) ≡ a
take-front [] b = refl
take-front (x ∷ a) b = ap (λ z. x ∷ z) (take-front a b)

pub take-more : (a : List ℕ) (x : ℕ) (b : List ℕ) → take (suc (length a)) (a ++ x ∷ b) ≡ a ++ x ∷ []
take-more [] x b = refl
take-more (y ∷ a) x b = ap (λ z. y ∷ z) (take-more a x b)

some_none : (s : SyntaxTree) → Some s ≡ None → ⊥
some_none s e = absurd cc

-- a line is refused where its longest word ends that isn't whole
pub refused : (f : Front) (w t line : List ℕ) (at : ℕ) → IsFine f → Fits (class_of f) w → is_whole (class_of f) w ≡ false → Stops (class_of f) w t
    → (w ++ t ≡ [] → may_end (stage_of f) ≡ false) → Follows f (w ++ t) → line ≡ front_text f ++ (w ++ t) → at ≡ length (front_text f) + length w → IsSyntaxFault line at
refused f w t line at fine fits part stops goes h e place =
    subst (λ z. IsSyntaxFault z at) (sym (e ∙ sym (append_assoc (front_text f) w t))) (subst (IsSyntaxFault ((front_text f ++ w) ++ t)) (sym (place ∙ sym (length-append (front_text f) w))) (record {
      refused = not_text t stops goes h;
      within = omega (arith, length-append (front_text f ++ w) t);
      begins = subst BeginsQuery (sym (take-front (front_text f ++ w) t)) (begun w fits);
      longest = no_longer t stops h;
    }))
  where
    begun : (w : List ℕ) → Fits (class_of f) w → BeginsQuery (front_text f ++ w)
    begun [] fits = subst BeginsQuery (sym (append-nil (front_text f))) (viable f fine)
    begun (y ∷ w) fits = viable_within f (y ∷ w) fine fits

    not_text : (t : List ℕ) → Stops (class_of f) w t → (w ++ t ≡ [] → may_end (stage_of f) ≡ false) → Follows f (w ++ t) → IsText ((front_text f ++ w) ++ t) → ⊥
    not_text [] stops goes h is =
        some_none is.shape (sym (complete is.shape is.sound) ∙ (ap (reads Front.at_top []) (is.same ∙ append-nil (front_text f ++ w)) ∙ short f w fits part (λ e. goes (append-nil w ∙ e)) h))
    not_text (x ∷ t) stops goes h is =
        some_none is.shape (sym (complete is.shape is.sound) ∙ (ap (reads Front.at_top []) (is.same ∙ append_assoc (front_text f) w (x ∷ t)) ∙ stuck f w x t fits part stops h t))

    no_longer : (t : List ℕ) → Stops (class_of f) w t → Follows f (w ++ t) → length (front_text f ++ w) < length ((front_text f ++ w) ++ t)
        → BeginsQuery (take (length (front_text f ++ w) + 1) ((front_text f ++ w) ++ t)) → ⊥
    no_longer [] stops h l is = absurd (omega (arith, length-append (front_text f ++ w) []))
    no_longer (x ∷ t) stops h l is =
        let n = length (front_text f ++ w) in
        let one : n + 1 ≡ suc n = omega arith in
        let same : take (n + 1) ((front_text f ++ w) ++ x ∷ t) ≡ (front_text f ++ w) ++ x ∷ [] = ap (λ k. take k ((front_text f ++ w) ++ x ∷ t)) one ∙ take-more (front_text f ++ w) x t in
        some_none is.shape (sym (complete is.shape is.sound) ∙ (ap (reads Front.at_top [])
        (is.same ∙ (ap (λ z. z ++ is.rest) same ∙ (append_assoc (front_text f ++ w) (x ∷ []) is.rest ∙ append_assoc (front_text f) w (x ∷ is.rest)))) ∙ stuck f w x t fits part stops h is.rest))
