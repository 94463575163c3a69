-- A front of what begins a word begins one too, and a word is read whole.
use Rattle.std.proofs.Common.{◌≡◌, ℕ, ◌<◌, Bool, true, false, cond, ◌&&◌, ◌||◌, eqb, List, [], ◌∷◌, ◌++◌, length, map, get_or, drop, codes, Option, Some, None, is_some, refl, sym, ap, ◌∙◌, subst, ⊎_elim, arith, eq-eqb, append_assoc}
use Rattle.std.specs.List.{list_any, list_all, find}
use Rattle.std.specs.Str.{bytes_eq, all_ascii_digits}
use Rattle.std.specs.Char.{is_ascii_digit, is_ascii_alphabetic}
use Rattle.std.proofs.lemmas.Bool.{and_parts, and_from, or_cases, or_left, or_right, false≢true, cond-true, cond-false, ltb-true, lt-ltb}
use Rattle.std.proofs.lemmas.List.{append-nil, length-append}
use Rattle.topk_base.specs.Numbers.{is_empty, is_number}
use Rattle.topk_base.specs.Names.{is_name, is_name_byte}
use Rattle.query_text.proofs.ListLaws.{same_bytes}
use Rattle.query_text.specs.Shape.{algorithm_word, algorithms, opening}
use Rattle.query_text.specs.Words.{Class, operators, using_words, opened_by, is_front, begins, is_whole, class_at}
use Rattle.query_text.specs.Front.{Front, class_of, next, reads, stage_of, frames_of, is_inside}
use Rattle.query_text.specs.declared.algorithm.Algorithm.{Algorithm}
use Rattle.query_text.specs.declared.operator.Operator.{Operator}
use Rattle.query_text.specs.declared.operator.Operator.TheVariants.{Min, Max, Sum, Median, Wsum}
use Rattle.query_text.specs.declared.parser_state.ParserState.{ParserState}
use Rattle.query_text.specs.declared.parser_state.ParserState.TheVariants as stages

-- a word is in the table where it is that of an algorithm, or one of those behind
pub algorithm_found : (w : List ℕ) (xs : List Algorithm) (ws : List (List ℕ))
    → (is_some (find (λ a. bytes_eq w (algorithm_word a)) xs) || list_any (bytes_eq w) ws) ≡ list_any (bytes_eq w) (map algorithm_word xs ++ ws)
algorithm_found w [] ws = refl
algorithm_found w (a ∷ xs) ws = by_test (bytes_eq w (algorithm_word a)) (algorithm_found w xs ws)
  where
    by_test : (b : Bool) → (is_some (find (λ x. bytes_eq w (algorithm_word x)) xs) || list_any (bytes_eq w) ws) ≡ list_any (bytes_eq w) (map algorithm_word xs ++ ws)
        → (is_some (cond b (Some a) (find (λ x. bytes_eq w (algorithm_word x)) xs)) || list_any (bytes_eq w) ws) ≡ (b || list_any (bytes_eq w) (map algorithm_word xs ++ ws))
    by_test true h = refl
    by_test false h = h

-- the tests of a whole word of an algorithm
pub using_whole : (found theta early : Bool) (o : Option Algorithm) (w : List ℕ) → found ≡ is_some o → o ≡ find (λ a. bytes_eq w (algorithm_word a)) algorithms
    → theta ≡ bytes_eq w (codes "theta ") → early ≡ bytes_eq w (codes "early ")
    → ((found || theta) || early) ≡ list_any (bytes_eq w) using_words
using_whole found theta early o w f s t e =
    (λ i. ((f ∙ ap is_some s) i || t i) || e i)
    ∙ (or_assoc (is_some (find (λ a. bytes_eq w (algorithm_word a)) algorithms)) (bytes_eq w (codes "theta ")) (bytes_eq w (codes "early "))
    ∙ algorithm_found w algorithms (codes "theta " ∷ codes "early " ∷ []))
  where
    or_assoc : (a b c : Bool) → ((a || b) || c) ≡ (a || (b || (c || false)))
    or_assoc true b c = refl
    or_assoc false true c = refl
    or_assoc false false true = refl
    or_assoc false false false = refl

any_more : {A : Type 0} (f g : A → Bool) → ((x : A) → f x ≡ true → g x ≡ true) → (xs : List A) → list_any f xs ≡ true → list_any g xs ≡ true
any_more f g more [] h = h
any_more f g more (x ∷ xs) h =
    ⊎_elim (λ here. or_left _ _ (more x here)) (λ later. or_right _ _ (any_more f g more xs later)) (or_cases (f x) (list_any f xs) h)

is_front-closed : (u v w : List ℕ) → is_front (u ++ v) w ≡ true → is_front u w ≡ true
is_front-closed [] v w h = refl
is_front-closed (x ∷ u) v [] h = absurd (false≢true h)
is_front-closed (x ∷ u) v (y ∷ w) h = let p = and_parts (eqb x y) (is_front (u ++ v) w) h in and_from (eqb x y) (is_front u w) p.0 (is_front-closed u v w p.1)

is_front-self : (w : List ℕ) → is_front w w ≡ true
is_front-self [] = refl
is_front-self (x ∷ w) = and_from (eqb x x) (is_front w w) (eq-eqb x x refl) (is_front-self w)

digits-closed : (u v : List ℕ) → all_ascii_digits (u ++ v) ≡ true → all_ascii_digits u ≡ true
digits-closed [] v h = refl
digits-closed (x ∷ u) v h = let p = and_parts (is_ascii_digit x) (all_ascii_digits (u ++ v)) h in and_from (is_ascii_digit x) (all_ascii_digits u) p.0 (digits-closed u v p.1)

all-closed : (p : ℕ → Bool) (u v : List ℕ) → list_all p (u ++ v) ≡ true → list_all p u ≡ true
all-closed p [] v h = refl
all-closed p (x ∷ u) v h = let q = and_parts (p x) (list_all p (u ++ v)) h in and_from (p x) (list_all p u) q.0 (all-closed p u v q.1)

number_closed : (b d : Bool) (u v : List ℕ) → cond b (is_empty (u ++ v)) (d && all_ascii_digits (u ++ v)) ≡ true
    → cond b (is_empty u) (d && all_ascii_digits u) ≡ true
number_closed true d [] v h = refl
number_closed true d (x ∷ u) v h = absurd (false≢true h)
number_closed false d u v h = let p = and_parts d (all_ascii_digits (u ++ v)) h in and_from d (all_ascii_digits u) p.0 (digits-closed u v p.1)

is_number-closed : (x : ℕ) (u v : List ℕ) → is_number (x ∷ (u ++ v)) ≡ true → is_number (x ∷ u) ≡ true
is_number-closed x u v h = number_closed (eqb x 48) (is_ascii_digit x) u v h

is_name-closed : (x : ℕ) (u v : List ℕ) → is_name (x ∷ (u ++ v)) ≡ true → is_name (x ∷ u) ≡ true
is_name-closed x u v h =
    let p = and_parts (is_ascii_alphabetic x && list_all is_name_byte (u ++ v)) _ h in
    let q = and_parts (is_ascii_alphabetic x) (list_all is_name_byte (u ++ v)) p.0 in
    let short : length (u ++ v) < 32 = ltb-true _ _ p.1 in
    and_from _ _ (and_from _ _ q.0 (all-closed is_name_byte u v q.1)) (lt-ltb _ _ (omega (arith, length-append u v)))

-- what a search finds passes the test
find_some : {A : Type 0} (p : A → Bool) (xs : List A) → is_some (find p xs) ≡ true → (x : A) × (p x ≡ true) × (find p xs ≡ Some x)
find_some p [] h = absurd (false≢true h)
find_some {A} p (x ∷ xs) h = by_test (p x) refl (λ k. find_some p xs k) h
  where
    by_test : (b : Bool) → p x ≡ b → (is_some (find p xs) ≡ true → (y : A) × (p y ≡ true) × (find p xs ≡ Some y))
        → is_some (cond b (Some x) (find p xs)) ≡ true → (y : A) × (p y ≡ true) × (cond b (Some x) (find p xs) ≡ Some y)
    by_test true e later k = (x, e, refl)
    by_test false e later k = later k

pub opened_word : (w : List ℕ) → is_some (opened_by w) ≡ true → (o : Operator) × (w ≡ opening o) × (opened_by w ≡ Some o)
opened_word w h =
    let f = find_some (λ o. bytes_eq w (opening o)) operators h in
    (f.0, same_bytes w (opening f.0) f.1, f.2)

-- whether each front of a word begins an operand
abbrev all_begin : List ℕ → List ℕ → Bool
all_begin before [] = begins Class.operand before
all_begin before (x ∷ w) = begins Class.operand before && all_begin (before ++ x ∷ []) w

opening_begins : (o : Operator) → all_begin [] (opening o) ≡ true
opening_begins Min = refl
opening_begins Max = refl
opening_begins Sum = refl
opening_begins Median = refl
opening_begins Wsum = refl

fronts_begin : (before w u v : List ℕ) → u ++ v ≡ w → all_begin before w ≡ true → begins Class.operand (before ++ u) ≡ true
fronts_begin before [] [] v e h = ap (begins Class.operand) (append-nil before) ∙ h
fronts_begin before [] (x ∷ u) v e h = absurd (false≢true (ap is_empty e))
fronts_begin before (y ∷ w) [] v e h = ap (begins Class.operand) (append-nil before) ∙ (and_parts _ _ h).0
fronts_begin before (y ∷ w) (x ∷ u) v e h =
    let same : x ≡ y = ap (λ z. get_or z 0 0) e in
    let rest : u ++ v ≡ w = ap (drop 1) e in
    let ih : begins Class.operand ((before ++ y ∷ []) ++ u) ≡ true = fronts_begin (before ++ y ∷ []) w u v rest (and_parts (begins Class.operand before) _ h).1 in
    ap (λ z. begins Class.operand (before ++ z ∷ u)) same ∙ (ap (begins Class.operand) (sym (append_assoc before (y ∷ []) u)) ∙ ih)

-- a front of what begins a word begins one too
pub begins-closed : (c : Class) (u v : List ℕ) → begins c (u ++ v) ≡ true → begins c u ≡ true
begins-closed (Class.words ws) u v h = any_more (is_front (u ++ v)) (is_front u) (λ w. is_front-closed u v w) ws h
begins-closed Class.digits [] v h = refl
begins-closed Class.digits (x ∷ u) v h = is_number-closed x u v h
begins-closed Class.operand [] v h = refl
begins-closed Class.operand (x ∷ u) v h =
    ⊎_elim
    (λ n. or_left _ _ (is_name-closed x u v n))
    (λ o. let w = opened_word (x ∷ (u ++ v)) o in fronts_begin [] (opening w.0) (x ∷ u) v w.1 (opening_begins w.0))
    (or_cases (is_name (x ∷ (u ++ v))) _ h)

-- a word of a class begins one
pub whole_begins : (c : Class) (w : List ℕ) → is_whole c w ≡ true → begins c w ≡ true
whole_begins (Class.words ws) w h = any_more (bytes_eq w) (is_front w) (λ v e. subst (λ z. is_front w z ≡ true) (same_bytes w v e) (is_front-self w)) ws h
whole_begins Class.digits w h = or_right _ _ h
whole_begins Class.operand w h = or_right _ _ h

pub empty_not_whole : (s : ParserState) (inside : Bool) → is_whole (class_at s inside) [] ≡ false
empty_not_whole stages.Top inside = refl
empty_not_whole stages.Count inside = refl
empty_not_whole stages.By inside = refl
empty_not_whole stages.Operand inside = refl
empty_not_whole stages.Behind true = refl
empty_not_whole stages.Behind false = refl
empty_not_whole stages.Weight inside = refl
empty_not_whole stages.Times inside = refl
empty_not_whole stages.Algorithm inside = refl
empty_not_whole stages.Factor inside = refl
empty_not_whole stages.Over inside = refl
empty_not_whole stages.Under inside = refl
empty_not_whole stages.Depth inside = refl
empty_not_whole stages.Options inside = refl
empty_not_whole stages.Sorted inside = refl
empty_not_whole stages.Between inside = refl
empty_not_whole stages.Random inside = refl
empty_not_whole stages.Priced inside = refl
empty_not_whole stages.Room inside = refl
empty_not_whole stages.Done inside = refl

pub never_empty : (f : Front) → is_whole (class_of f) [] ≡ false
never_empty f = empty_not_whole (stage_of f) (is_inside (frames_of f))

-- what begins a word is read through
pub reads-through : (f : Front) (u v t : List ℕ) → begins (class_of f) (u ++ v) ≡ true → reads f u (v ++ t) ≡ reads f (u ++ v) t
reads-through f u [] t h = ap (λ x. reads f x t) (sym (append-nil u))
reads-through f u (x ∷ v) t h =
    let longer : (u ++ x ∷ []) ++ v ≡ u ++ (x ∷ v) = append_assoc u (x ∷ []) v in
    let fits : begins (class_of f) ((u ++ x ∷ []) ++ v) ≡ true = ap (begins (class_of f)) longer ∙ h in
    let first : begins (class_of f) (u ++ x ∷ []) ≡ true = begins-closed (class_of f) (u ++ x ∷ []) v fits in
    cond-true _ _ _ first ∙ (reads-through f (u ++ x ∷ []) v t fits ∙ ap (λ y. reads f y t) longer)

-- no longer word begins so
abbrev pub Stops : Class → List ℕ → List ℕ → Type 0
Stops c w [] = Unit {0}
Stops c w (x ∷ t) = begins c (w ++ x ∷ []) ≡ false

-- a word is read, as long as it can be
pub reads-word : (f : Front) (w t : List ℕ) → is_whole (class_of f) w ≡ true → Stops (class_of f) w t → reads f [] (w ++ t) ≡ reads (next f w) [] t
reads-word f [] t whole stops = absurd (false≢true (sym (never_empty f) ∙ whole))
reads-word f (y ∷ w) t whole stops = reads-through f [] (y ∷ w) t (whole_begins (class_of f) (y ∷ w) whole) ∙ behind t stops
  where
    behind : (t : List ℕ) → Stops (class_of f) (y ∷ w) t → reads f (y ∷ w) t ≡ reads (next f (y ∷ w)) [] t
    behind [] stops = cond-true _ _ _ whole
    behind (x ∷ t) stops =
        let g = next f (y ∷ w) in
        cond-false _ _ _ stops ∙ (cond-true _ _ _ whole
        ∙ ap (λ z. cond (begins (class_of g) (x ∷ [])) (reads g (x ∷ []) t) z) (sym (cond-false _ _ _ (never_empty g))))

-- where no word begins so, nothing is read, whatever follows
pub reads-stuck : (f : Front) (w : List ℕ) (x : ℕ) (t : List ℕ) → begins (class_of f) w ≡ true → is_whole (class_of f) w ≡ false
    → begins (class_of f) (w ++ x ∷ []) ≡ false → reads f [] (w ++ x ∷ t) ≡ None
reads-stuck f w x t fits part stops = reads-through f [] w (x ∷ t) fits ∙ (cond-false _ _ _ stops ∙ cond-false _ _ _ part)

-- where the text ends within a word it isn't whole
pub reads-short : (f : Front) (y : ℕ) (w : List ℕ) → begins (class_of f) (y ∷ w) ≡ true → is_whole (class_of f) (y ∷ w) ≡ false → reads f [] (y ∷ w) ≡ None
reads-short f y w fits part = ap (reads f []) (sym (append-nil (y ∷ w))) ∙ (reads-through f [] (y ∷ w) [] fits ∙ cond-false _ _ _ part)
