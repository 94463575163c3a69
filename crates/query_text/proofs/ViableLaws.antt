-- Each well-formed front begins some query text.
use Rattle.std.proofs.Common.{◌≡◌, ℕ, true, eqb, eqb-true, List, [], ◌∷◌, ◌++◌, Option, Some, refl, sym, ap, ◌∙◌, subst, ⊎_elim, append_assoc, codes}
use Rattle.std.specs.List.{list_any}
use Rattle.std.proofs.lemmas.Bool.{and_parts, or_cases, false≢true, or_left, or_right}
use Rattle.std.proofs.lemmas.List.{append-nil}
use Rattle.query_text.proofs.ListLaws.{bytes_same}
use Rattle.query_text.specs.Written.{Written, arguments_from}
use Rattle.query_text.specs.Pieces.{text_of}
use Rattle.query_text.specs.Shape.{SyntaxTree, BeginsQuery}
use Rattle.query_text.specs.Words.{Class, is_front, begins, is_whole}
use Rattle.query_text.specs.Front.{Frame, Head, Front, class_of, pieces_before, next, shape_at, all_done, IsFine}
use Rattle.query_text.proofs.FrontLaws.{text-next, fine-next, whole_at}

-- a front of a front begins what the longer one begins
begins_shorter : (a w u v : List ℕ) → u ++ v ≡ w → BeginsQuery (a ++ w) → BeginsQuery (a ++ u)
begins_shorter a w u v e h = record {
  shape = h.shape;
  sound = h.sound;
  rest = v ++ h.rest;
  same = h.same ∙ (append_assoc a w h.rest ∙ (ap (λ z. a ++ (z ++ h.rest)) (sym e) ∙ (ap (λ z. a ++ z) (append_assoc u v h.rest) ∙ sym (append_assoc a u (v ++ h.rest)))));
}

-- a front with a part of a word begins what the front with the whole word begins
back : (f : Front) (w u v : List ℕ) → IsFine f → is_whole (class_of f) w ≡ true → u ++ v ≡ w → BeginsQuery (text_of (pieces_before (next f w)))
    → BeginsQuery (text_of (pieces_before f) ++ u)
back f w u v fine whole e h = begins_shorter (text_of (pieces_before f)) w u v e (subst BeginsQuery (text-next f w fine whole) h)

-- a front goes on by a word
by : (f : Front) (w : List ℕ) → IsFine f → is_whole (class_of f) w ≡ true → (IsFine (next f w) → BeginsQuery (text_of (pieces_before (next f w))))
    → BeginsQuery (text_of (pieces_before f))
by f w fine whole later =
    subst BeginsQuery (append-nil (text_of (pieces_before f))) (back f w [] w fine whole refl (later (fine-next f w fine whole)))

-- a front that is a whole text
ended : (f : Front) (s : SyntaxTree) → shape_at f ≡ Some s → IsFine f → BeginsQuery (text_of (pieces_before f))
ended f s is fine =
    let w = whole_at f s fine is in
    record { shape = s; sound = w.sound; rest = []; same = ap text_of w.same ∙ sym (append-nil (text_of (pieces_before f))) }

viable_random : (h : Head) (d : List ℕ) → IsFine (Front.at_random h d) → BeginsQuery (text_of (pieces_before (Front.at_random h d)))
viable_random h d fine = by (Front.at_random h d) (codes "1") fine refl (ended (Front.at_priced h (d, codes "1")) _ refl)

viable_between : (h : Head) (d : List ℕ) → IsFine (Front.at_between h d) → BeginsQuery (text_of (pieces_before (Front.at_between h d)))
viable_between h d fine = by (Front.at_between h d) (codes " ") fine refl (viable_random h d)

viable_sorted : (h : Head) → IsFine (Front.at_sorted h) → BeginsQuery (text_of (pieces_before (Front.at_sorted h)))
viable_sorted h fine = by (Front.at_sorted h) (codes "1") fine refl (viable_between h (codes "1"))

viable_room : (h : Head) (c : Option (List ℕ × List ℕ)) → IsFine (Front.at_room h c) → BeginsQuery (text_of (pieces_before (Front.at_room h c)))
viable_room h c fine = by (Front.at_room h c) (codes "1") fine refl (ended (next (Front.at_room h c) (codes "1")) _ refl)

viable_under : (k : List ℕ) (e : Written) (p : List ℕ) → IsFine (Front.at_under k e p) → BeginsQuery (text_of (pieces_before (Front.at_under k e p)))
viable_under k e p fine = by (Front.at_under k e p) (codes "1") fine refl (ended (next (Front.at_under k e p) (codes "1")) _ refl)

viable_over : (k : List ℕ) (e : Written) (p : List ℕ) → IsFine (Front.at_over k e p) → BeginsQuery (text_of (pieces_before (Front.at_over k e p)))
viable_over k e p fine = by (Front.at_over k e p) (codes "/") fine refl (viable_under k e p)

viable_factor : (k : List ℕ) (e : Written) → IsFine (Front.at_factor k e) → BeginsQuery (text_of (pieces_before (Front.at_factor k e)))
viable_factor k e fine = by (Front.at_factor k e) (codes "1") fine refl (viable_over k e (codes "1"))

viable_depth : (k : List ℕ) (e : Written) → IsFine (Front.at_depth k e) → BeginsQuery (text_of (pieces_before (Front.at_depth k e)))
viable_depth k e fine = by (Front.at_depth k e) (codes "1") fine refl (ended (next (Front.at_depth k e) (codes "1")) _ refl)

viable_algorithm : (k : List ℕ) (e : Written) → IsFine (Front.at_algorithm k e) → BeginsQuery (text_of (pieces_before (Front.at_algorithm k e)))
viable_algorithm k e fine = by (Front.at_algorithm k e) (codes "ta") fine refl (ended (next (Front.at_algorithm k e) (codes "ta")) _ refl)

viable_behind : (fs : List Frame) (k : List ℕ) (e : Written) → IsFine (Front.at_behind k fs e) → BeginsQuery (text_of (pieces_before (Front.at_behind k fs e)))
viable_behind [] k e fine = by (Front.at_behind k [] e) (codes " using ") fine refl (viable_algorithm k e)
viable_behind (f ∷ fs) k e fine =
    by (Front.at_behind k (f ∷ fs) e) (codes ")") fine refl (viable_behind fs k (Written.call f.operator (arguments_from (all_done f e))))

viable_operand : (k : List ℕ) (fs : List Frame) → IsFine (Front.at_operand k fs) → BeginsQuery (text_of (pieces_before (Front.at_operand k fs)))
viable_operand k fs fine = by (Front.at_operand k fs) (codes "A") fine refl (viable_behind fs k (Written.name (codes "A")))

viable_times : (k : List ℕ) (fs : List Frame) (d : List ℕ) → IsFine (Front.at_times k fs d) → BeginsQuery (text_of (pieces_before (Front.at_times k fs d)))
viable_times k [] d fine = elim fine.1 [ ]
viable_times k (f ∷ fs) d fine = by (Front.at_times k (f ∷ fs) d) (codes "*") fine refl (viable_operand k (record f { weight = Some d } ∷ fs))

viable_weight : (k : List ℕ) (fs : List Frame) → IsFine (Front.at_weight k fs) → BeginsQuery (text_of (pieces_before (Front.at_weight k fs)))
viable_weight k fs fine = by (Front.at_weight k fs) (codes "1") fine refl (viable_times k fs (codes "1"))

viable_by : (k : List ℕ) → IsFine (Front.at_by k) → BeginsQuery (text_of (pieces_before (Front.at_by k)))
viable_by k fine = by (Front.at_by k) (codes " by ") fine refl (viable_operand k [])

viable_count : BeginsQuery (text_of (pieces_before Front.at_count))
viable_count = by Front.at_count (codes "1") tt refl (viable_by (codes "1"))

-- each well-formed front begins some text of the shape
pub viable : (f : Front) → IsFine f → BeginsQuery (text_of (pieces_before f))
viable Front.at_top fine = by Front.at_top (codes "top ") tt refl (λ _. viable_count)
viable Front.at_count fine = viable_count
viable (Front.at_by k) fine = viable_by k fine
viable (Front.at_operand k fs) fine = viable_operand k fs fine
viable (Front.at_behind k fs e) fine = viable_behind fs k e fine
viable (Front.at_weight k fs) fine = viable_weight k fs fine
viable (Front.at_times k fs d) fine = viable_times k fs d fine
viable (Front.at_algorithm k e) fine = viable_algorithm k e fine
viable (Front.at_factor k e) fine = viable_factor k e fine
viable (Front.at_over k e p) fine = viable_over k e p fine
viable (Front.at_under k e p) fine = viable_under k e p fine
viable (Front.at_depth k e) fine = viable_depth k e fine
viable (Front.at_options h) fine = ended (Front.at_options h) _ refl fine
viable (Front.at_sorted h) fine = viable_sorted h fine
viable (Front.at_between h d) fine = viable_between h d fine
viable (Front.at_random h d) fine = viable_random h d fine
viable (Front.at_priced h c) fine = ended (Front.at_priced h c) _ refl fine
viable (Front.at_room h c) fine = viable_room h c fine
viable (Front.at_end s) fine = ended (Front.at_end s) _ refl fine

-- what begins a word of a class, made whole
pub record Completes (c : Class) (u : List ℕ) : Type 0 where
  pub word : List ℕ
  pub rest : List ℕ
  pub whole : is_whole c word ≡ true
  pub same : u ++ rest ≡ word

front_rest : (u w : List ℕ) → is_front u w ≡ true → (v : List ℕ) × (u ++ v ≡ w)
front_rest [] w h = (w, refl)
front_rest (x ∷ u) [] h = absurd (false≢true h)
front_rest (x ∷ u) (y ∷ w) h =
    let p = and_parts (eqb x y) (is_front u w) h in
    let r = front_rest u w p.1 in
    (r.0, ap (λ z. z ∷ (u ++ r.0)) (eqb-true x y p.0) ∙ ap (λ z. y ∷ z) r.1)

table_completes : (ws : List (List ℕ)) (u : List ℕ) → list_any (is_front u) ws ≡ true → Completes (Class.words ws) u
table_completes [] u h = absurd (false≢true h)
table_completes (w ∷ ws) u h =
    ⊎_elim
    (λ e. let r = front_rest u w e in record { word = w; rest = r.0; whole = or_left _ _ (bytes_same w w refl); same = r.1 })
    (λ e. let c = table_completes ws u e in record { word = c.word; rest = c.rest; whole = or_right _ _ c.whole; same = c.same })
    (or_cases (is_front u w) (list_any (is_front u) ws) h)

itself : (c : Class) (u : List ℕ) → is_whole c u ≡ true → Completes c u
itself c u h = record { word = u; rest = []; whole = h; same = append-nil u }

completes : (c : Class) (u : List ℕ) → begins c u ≡ true → Completes c u
completes (Class.words ws) u h = table_completes ws u h
completes Class.digits [] h = record { word = codes "1"; rest = codes "1"; whole = refl; same = refl }
completes Class.digits (x ∷ u) h = itself Class.digits (x ∷ u) h
completes Class.operand [] h = record { word = codes "A"; rest = codes "A"; whole = refl; same = refl }
completes Class.operand (x ∷ u) h = itself Class.operand (x ∷ u) h

-- a front and what begins its next word begin some text of the shape
pub viable_within : (f : Front) (u : List ℕ) → IsFine f → begins (class_of f) u ≡ true → BeginsQuery (text_of (pieces_before f) ++ u)
viable_within f u fine h =
    let c = completes (class_of f) u h in
    back f c.word u c.rest fine c.whole c.same (viable (next f c.word) (fine-next f c.word fine c.whole))
