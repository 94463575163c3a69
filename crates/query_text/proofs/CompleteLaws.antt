-- Each text of the shape is read as its syntax tree.
use Rattle.std.proofs.Common.{◌≡◌, ℕ, Bool, true, false, cond, ◌&&◌, eqb, List, [], ◌∷◌, ◌++◌, Option, Some, None, is_some, refl, sym, ap, ◌∙◌, append_assoc, codes, eq-eqb}
use Rattle.std.specs.List.{list_all, list_any}
use Rattle.std.specs.Str.{all_ascii_digits, bytes_eq}
use Rattle.std.specs.Char.{is_ascii_digit, is_ascii_alphabetic}
use Rattle.std.proofs.lemmas.Bool.{and_left, and_right, or_from, false≢true, or_left, false_from_ne_true}
use Rattle.std.proofs.lemmas.List.{append-nil}
use Rattle.std.proofs.lemmas.Grind.{flat_map-append}
use Rattle.std.proofs.lemmas.Option.{same_Some}
use Rattle.std.specs.Option.{IfSome}
use Rattle.topk_base.specs.Numbers.{is_empty, is_number}
use Rattle.topk_base.specs.Names.{is_name, is_name_byte}
use Rattle.query_text.specs.Written.{Written, Arguments, IsNumber, IsWeight, IsWritten, AreArguments, Argument, arguments_from}
use Rattle.query_text.specs.Pieces.{Piece, piece_text, text_of}
use Rattle.query_text.specs.Shape.{SyntaxTree, Named, IsNamed, IsShape, spelled, opening, algorithm_words, named_pieces, weight_pieces, expr_pieces, argument_pieces, further_pieces, algorithm_pieces, cost_pieces, room_pieces}
use Rattle.query_text.specs.Words.{Class, opened_by, begins, is_whole}
use Rattle.query_text.specs.Front.{Frame, Head, head_of, Front, class_of, reads, begun, opened, operand_read, is_weighted, shape_from, IsCost, IsRoom}
use Rattle.query_text.specs.declared.operator.Operator.{Operator}
use Rattle.query_text.specs.declared.operator.Operator.TheVariants.{Min, Max, Sum, Median, Wsum}
use Rattle.query_text.proofs.ListLaws.{any_same}
use Rattle.query_text.proofs.WordLaws.{reads-word, Stops, opened_word}

-- no byte goes on with the word
stops_always : (c : Class) (w t : List ℕ) → ((x : ℕ) → begins c (w ++ x ∷ []) ≡ false) → Stops c w t
stops_always c w [] h = tt
stops_always c w (x ∷ t) h = h x

digits_stop : (w : List ℕ) (x : ℕ) → is_ascii_digit x ≡ false → all_ascii_digits (w ++ x ∷ []) ≡ false
digits_stop [] x h = and_left (is_ascii_digit x) true h
digits_stop (y ∷ w) x h = and_right (is_ascii_digit y) (all_ascii_digits (w ++ x ∷ [])) (digits_stop w x h)

number_stops : (y : ℕ) (w : List ℕ) (x : ℕ) → is_ascii_digit x ≡ false → is_number (y ∷ (w ++ x ∷ [])) ≡ false
number_stops y w x h = by_test (eqb y 48)
  where
    not_empty : (w : List ℕ) → is_empty (w ++ x ∷ []) ≡ false
    not_empty [] = refl
    not_empty (z ∷ w) = refl

    by_test : (b : Bool) → cond b (is_empty (w ++ x ∷ [])) (is_ascii_digit y && all_ascii_digits (w ++ x ∷ [])) ≡ false
    by_test true = not_empty w
    by_test false = and_right (is_ascii_digit y) _ (digits_stop w x h)

-- a number ends before a byte that is no digit
digits_end : (w : List ℕ) (x : ℕ) (t : List ℕ) → is_number w ≡ true → is_ascii_digit x ≡ false → Stops Class.digits w (x ∷ t)
digits_end [] x t number h = absurd (false≢true number)
digits_end (y ∷ w) x t number h = number_stops y w x h

all_stop : (p : ℕ → Bool) (w : List ℕ) (x : ℕ) → p x ≡ false → list_all p (w ++ x ∷ []) ≡ false
all_stop p [] x h = and_left (p x) true h
all_stop p (y ∷ w) x h = and_right (p y) (list_all p (w ++ x ∷ [])) (all_stop p w x h)

name_stops : (y : ℕ) (w : List ℕ) (x : ℕ) → is_name_byte x ≡ false → is_name (y ∷ (w ++ x ∷ [])) ≡ false
name_stops y w x h = and_left _ _ (and_right (is_ascii_alphabetic y) (list_all is_name_byte (w ++ x ∷ [])) (all_stop is_name_byte w x h))

-- an operator with its parenthesis is no name
opening_name : (o : Operator) → is_name (opening o) ≡ false
opening_name Min = refl
opening_name Max = refl
opening_name Sum = refl
opening_name Median = refl
opening_name Wsum = refl

-- a name opens no operator
name_opens : (w : List ℕ) → is_name w ≡ true → opened_by w ≡ None
name_opens w h = by_answer (opened_by w) refl
  where
    by_answer : (o : Option Operator) → opened_by w ≡ o → opened_by w ≡ None
    by_answer None e = e
    by_answer (Some o) e =
        let found = opened_word w (ap is_some e) in
        absurd (false≢true (sym (opening_name found.0) ∙ (ap is_name (sym found.1) ∙ h)))

-- an opening ends with its parenthesis
last_of : List ℕ → ℕ → ℕ
last_of [] d = d
last_of (x ∷ xs) d = last_of xs x

last-push : (w : List ℕ) (x d : ℕ) → last_of (w ++ x ∷ []) d ≡ x
unfolding last_of
last-push [] x d = refl
last-push (y ∷ w) x d = last-push w x y

opening_last : (o : Operator) → last_of (opening o) 0 ≡ 40
unfolding last_of
opening_last Min = refl
opening_last Max = refl
opening_last Sum = refl
opening_last Median = refl
opening_last Wsum = refl

opening_stops : (w : List ℕ) (x : ℕ) → eqb x 40 ≡ false → is_some (opened_by (w ++ x ∷ [])) ≡ false
opening_stops w x h = false_from_ne_true _ (λ e.
    let found = opened_word (w ++ x ∷ []) e in
    let is : x ≡ 40 = sym (last-push w x 0) ∙ (ap (λ z. last_of z 0) found.1 ∙ opening_last found.0) in
    false≢true (sym h ∙ eq-eqb x 40 is))

-- a byte that may stand behind an operand
abbrev pub EndsOperand : ℕ → Type 0
EndsOperand x = (is_name_byte x ≡ false) × (eqb x 40 ≡ false)

-- a name ends before such a byte
name_ends : (w : List ℕ) (x : ℕ) (t : List ℕ) → is_name w ≡ true → EndsOperand x → Stops Class.operand w (x ∷ t)
name_ends [] x t name h = absurd (false≢true name)
name_ends (y ∷ w) x t name h = or_from _ _ (name_stops y w x h.0) (opening_stops (y ∷ w) x h.1)

pub opening_ends : (o : Operator) (x : ℕ) → begins Class.operand (opening o ++ x ∷ []) ≡ false
opening_ends Min x = refl
opening_ends Max x = refl
opening_ends Sum x = refl
opening_ends Median x = refl
opening_ends Wsum x = refl

opening_whole : (o : Operator) → is_whole Class.operand (opening o) ≡ true
opening_whole Min = refl
opening_whole Max = refl
opening_whole Sum = refl
opening_whole Median = refl
opening_whole Wsum = refl

opening_opens : (o : Operator) → opened_by (opening o) ≡ Some o
opening_opens Min = refl
opening_opens Max = refl
opening_opens Sum = refl
opening_opens Median = refl
opening_opens Wsum = refl

-- the next byte may stand behind an operand
abbrev pub Ends : List ℕ → Type 0
Ends [] = ⊥
Ends (x ∷ t) = EndsOperand x

name_stop : (w t : List ℕ) → is_name w ≡ true → Ends t → Stops Class.operand w t
name_stop w [] name ends = tt
name_stop w (x ∷ t) name ends = name_ends w x t name ends

ends_further : (args : Arguments) (t : List ℕ) → Ends (text_of (further_pieces args) ++ 41 ∷ t)
ends_further Arguments.no_argument t = (refl, refl)
ends_further (Arguments.argument_then w e rest) t = (refl, refl)

-- the text of three runs of pieces and what follows
text3 : (a b c : List Piece) (t : List ℕ) → text_of (a ++ (b ++ c)) ++ t ≡ text_of a ++ (text_of b ++ (text_of c ++ t))
text3 a b c t =
    ap (λ z. z ++ t) (flat_map-append piece_text a (b ++ c) ∙ ap (λ z. text_of a ++ z) (flat_map-append piece_text b c))
    ∙ (append_assoc (text_of a) (text_of b ++ text_of c) t ∙ ap (λ z. text_of a ++ z) (append_assoc (text_of b) (text_of c) t))

-- the arguments of a list and then more
abbrev joined : List Argument → Arguments → Arguments
joined [] rest = rest
joined (a ∷ done) rest = Arguments.argument_then a.0 a.1 (joined done rest)

joined-nil : (done : List Argument) → arguments_from done ≡ joined done Arguments.no_argument
joined-nil [] = refl
joined-nil (a ∷ done) = ap (Arguments.argument_then a.0 a.1) (joined-nil done)

joined-push : (done : List Argument) (x : Argument) (rest : Arguments) → joined (done ++ x ∷ []) rest ≡ joined done (Arguments.argument_then x.0 x.1 rest)
joined-push [] x rest = refl
joined-push (a ∷ done) x rest = ap (Arguments.argument_then a.0 a.1) (joined-push done x rest)

pub no_weight : (op : Operator) (w : Option (List ℕ)) → is_weighted op ≡ false → IsWeight op w → w ≡ None
no_weight Min None h i = refl
no_weight Max None h i = refl
no_weight Sum None h i = refl
no_weight Median None h i = refl
no_weight Min (Some d) h i = elim i [ ]
no_weight Max (Some d) h i = elim i [ ]
no_weight Sum (Some d) h i = elim i [ ]
no_weight Median (Some d) h i = elim i [ ]
no_weight Wsum w h i = absurd (false≢true (sym h))

-- what reading an operand gives, whatever follows it
abbrev ReadsExpr : Written → Type 0
ReadsExpr e = (k : List ℕ) (fs : List Frame) (t : List ℕ) → Ends t
    → reads (Front.at_operand k fs) [] (text_of (expr_pieces e) ++ t) ≡ reads (Front.at_behind k fs e) [] t

weight_read : (k d : List ℕ) (f : Frame) (fs : List Frame) (t : List ℕ) → is_number d ≡ true
    → reads (Front.at_weight k (f ∷ fs)) [] ((d ++ 42 ∷ []) ++ t) ≡ reads (Front.at_operand k (record f { weight = Some d } ∷ fs)) [] t
weight_read k d f fs t number =
    ap (reads (Front.at_weight k (f ∷ fs)) []) (append_assoc d (42 ∷ []) t)
    ∙ (reads-word (Front.at_weight k (f ∷ fs)) d (42 ∷ t) number (digits_end d 42 t number refl)
    ∙ reads-word (Front.at_times k (f ∷ fs) d) (codes "*") t refl (stops_always (class_of (Front.at_times k (f ∷ fs) d)) (codes "*") t (λ x. refl)))

weighted_number : (op : Operator) (d : List ℕ) → is_weighted op ≡ true → IsWeight op (Some d) → is_number d ≡ true
weighted_number Min d h i = absurd (false≢true h)
weighted_number Max d h i = absurd (false≢true h)
weighted_number Sum d h i = absurd (false≢true h)
weighted_number Median d h i = absurd (false≢true h)
weighted_number Wsum d h i = i

pub weighted_some : (op : Operator) → is_weighted op ≡ true → IsWeight op None → ⊥
weighted_some Min h i = absurd (false≢true h)
weighted_some Max h i = absurd (false≢true h)
weighted_some Sum h i = absurd (false≢true h)
weighted_some Median h i = absurd (false≢true h)
weighted_some Wsum h i = i

-- an argument is read with its weight
argument_reads : (e : Written) → ReadsExpr e → (w : Option (List ℕ)) (k : List ℕ) (f : Frame) (fs : List Frame) (t : List ℕ)
    → IsWeight f.operator w → f.weight ≡ None → Ends t
    → reads (begun k f fs) [] (text_of (weight_pieces w) ++ (text_of (expr_pieces e) ++ t)) ≡ reads (Front.at_behind k (record f { weight = w } ∷ fs) e) [] t
argument_reads e ih w k f fs t fine none ends = by_test (is_weighted f.operator) refl w fine
  where
    by_test : (b : Bool) → is_weighted f.operator ≡ b → (w : Option (List ℕ)) → IsWeight f.operator w
        → reads (cond b (Front.at_weight k (f ∷ fs)) (Front.at_operand k (f ∷ fs))) [] (text_of (weight_pieces w) ++ (text_of (expr_pieces e) ++ t))
        ≡ reads (Front.at_behind k (record f { weight = w } ∷ fs) e) [] t
    by_test true is None fine = absurd (weighted_some f.operator is fine)
    by_test true is (Some d) fine =
        weight_read k d f fs (text_of (expr_pieces e) ++ t) (weighted_number f.operator d is fine) ∙ ih k (record f { weight = Some d } ∷ fs) t ends
    by_test false is None fine =
        ih k (f ∷ fs) t ends ∙ ap (λ z. reads (Front.at_behind k (record f { weight = z } ∷ fs) e) [] t) none
    by_test false is (Some d) fine = let no : Some d ≡ None = no_weight f.operator (Some d) is fine in absurd cc

-- an open operator
abbrev frame : Operator → List Argument → Option (List ℕ) → Frame
frame op done w = record { operator = op; done = done; weight = w }

opening_read : (op : Operator) (k : List ℕ) (fs : List Frame) (t : List ℕ)
    → reads (Front.at_operand k fs) [] (opening op ++ t) ≡ reads (begun k (opened op) fs) [] t
opening_read op k fs t =
    reads-word (Front.at_operand k fs) (opening op) t (opening_whole op) (stops_always Class.operand (opening op) t (opening_ends op))
    ∙ ap (λ o. reads (operand_read k fs (opening op) o) [] t) (opening_opens op)

mutual
  pub expr_reads : (e : Written) → IsWritten e → (k : List ℕ) (fs : List Frame) (t : List ℕ) → Ends t
      → reads (Front.at_operand k fs) [] (text_of (expr_pieces e) ++ t) ≡ reads (Front.at_behind k fs e) [] t
  expr_reads (Written.name w) fine k fs t ends =
      ap (λ z. reads (Front.at_operand k fs) [] (z ++ t)) (append-nil w)
      ∙ (reads-word (Front.at_operand k fs) w t (or_left (is_name w) _ fine) (name_stop w t fine ends)
      ∙ ap (λ o. reads (operand_read k fs w o) [] t) (name_opens w fine))
  expr_reads (Written.call op Arguments.no_argument) fine k fs t ends = elim fine.0 [ ]
  expr_reads (Written.call op (Arguments.argument_then w e rest)) fine k fs t ends =
      let c = Piece.fixed (codes ")") in
      let args = argument_pieces (Arguments.argument_then w e rest) in
      ap (reads (Front.at_operand k fs) []) (append_assoc (opening op) (text_of (args ++ c ∷ [])) t)
      ∙ (opening_read op k fs (text_of (args ++ c ∷ []) ++ t)
      ∙ (ap (λ z. reads (begun k (opened op) fs) [] (z ++ t)) (flat_map-append piece_text args (c ∷ []))
      ∙ (ap (reads (begun k (opened op) fs) []) (append_assoc (text_of args) (41 ∷ []) t)
      ∙ (ap (reads (begun k (opened op) fs) []) (text3 (weight_pieces w) (expr_pieces e) (further_pieces rest) (41 ∷ t))
      ∙ (argument_reads e (λ k fs t ends. expr_reads e fine.1.1 k fs t ends) w k (opened op) fs (text_of (further_pieces rest) ++ 41 ∷ t) fine.1.0 refl (ends_further rest t)
      ∙ further_reads rest op fine.1.2 k [] w e fs t)))))

  further_reads : (args : Arguments) → (op : Operator) → AreArguments op args
      → (k : List ℕ) (done : List Argument) (w : Option (List ℕ)) (e : Written) (fs : List Frame) (t : List ℕ)
      → reads (Front.at_behind k (frame op done w ∷ fs) e) [] (text_of (further_pieces args) ++ 41 ∷ t)
      ≡ reads (Front.at_behind k fs (Written.call op (joined (done ++ (w, e) ∷ []) args))) [] t
  further_reads Arguments.no_argument op fine k done w e fs t =
      let f = Front.at_behind k (frame op done w ∷ fs) e in
      reads-word f (codes ")") t refl (stops_always (class_of f) (codes ")") t (λ x. refl))
      ∙ ap (λ z. reads (Front.at_behind k fs (Written.call op z)) [] t) (joined-nil (done ++ (w, e) ∷ []))
  further_reads (Arguments.argument_then w2 e2 rest) op fine k done w e fs t =
      let f = Front.at_behind k (frame op done w ∷ fs) e in
      let more = weight_pieces w2 ++ (expr_pieces e2 ++ further_pieces rest) in
      let next_done = done ++ (w, e) ∷ [] in
      let g = frame op next_done None in
      reads-word f (codes ",") (text_of more ++ 41 ∷ t) refl (stops_always (class_of f) (codes ",") (text_of more ++ 41 ∷ t) (λ x. refl))
      ∙ (ap (reads (begun k g fs) []) (text3 (weight_pieces w2) (expr_pieces e2) (further_pieces rest) (41 ∷ t))
      ∙ (argument_reads e2 (λ k fs t ends. expr_reads e2 fine.1 k fs t ends) w2 k g fs (text_of (further_pieces rest) ++ 41 ∷ t) fine.0 refl (ends_further rest t)
      ∙ (further_reads rest op fine.2 k next_done w2 e2 fs t
      ∙ ap (λ z. reads (Front.at_behind k fs (Written.call op z)) [] t) (joined-push next_done (w2, e2) rest))))

-- the options and the end
options_read : (h : Head) (c : Option (List ℕ × List ℕ)) (r : Option (List ℕ)) → IsCost c → IsRoom r
    → reads (Front.at_options h) [] (text_of (cost_pieces c ++ room_pieces r)) ≡ Some (shape_from h c r)
options_read h None None cost room = refl
options_read h None (Some r) cost room =
    reads-word (Front.at_options h) (codes " room ") (r ++ []) refl (stops_always (class_of (Front.at_options h)) (codes " room ") (r ++ []) (λ x. refl))
    ∙ reads-word (Front.at_room h None) r [] room tt
options_read h (Some c) None cost room =
    let f = Front.at_options h in
    let t = c.0 ++ (32 ∷ (c.1 ++ [])) in
    reads-word f (codes " cost ") t refl (stops_always (class_of f) (codes " cost ") t (λ x. refl))
    ∙ (reads-word (Front.at_sorted h) c.0 (32 ∷ (c.1 ++ [])) cost.0 (digits_end c.0 32 (c.1 ++ []) cost.0 refl)
    ∙ (reads-word (Front.at_between h c.0) (codes " ") (c.1 ++ []) refl (stops_always (class_of (Front.at_between h c.0)) (codes " ") (c.1 ++ []) (λ x. refl))
    ∙ reads-word (Front.at_random h c.0) c.1 [] cost.1 tt))
options_read h (Some c) (Some r) cost room =
    let f = Front.at_options h in
    let u = codes " room " ++ (r ++ []) in
    let t = c.0 ++ (32 ∷ (c.1 ++ u)) in
    reads-word f (codes " cost ") t refl (stops_always (class_of f) (codes " cost ") t (λ x. refl))
    ∙ (reads-word (Front.at_sorted h) c.0 (32 ∷ (c.1 ++ u)) cost.0 (digits_end c.0 32 (c.1 ++ u) cost.0 refl)
    ∙ (reads-word (Front.at_between h c.0) (codes " ") (c.1 ++ u) refl (stops_always (class_of (Front.at_between h c.0)) (codes " ") (c.1 ++ u) (λ x. refl))
    ∙ (reads-word (Front.at_random h c.0) c.1 u cost.1 (digits_end c.1 32 (codes "room " ++ (r ++ [])) cost.1 refl)
    ∙ (reads-word (Front.at_priced h c) (codes " room ") (r ++ []) refl (stops_always (class_of (Front.at_priced h c)) (codes " room ") (r ++ []) (λ x. refl))
    ∙ reads-word (Front.at_room h (Some c)) r [] room tt))))

-- the end of a text or a blank
abbrev EndsWord : List ℕ → Type 0
EndsWord [] = Unit {0}
EndsWord (x ∷ t) = x ≡ 32

options_end : (c : Option (List ℕ × List ℕ)) (r : Option (List ℕ)) → EndsWord (text_of (cost_pieces c ++ room_pieces r))
options_end None None = tt
options_end None (Some r) = refl
options_end (Some c) r = refl

-- no longer word begins with that of the threshold algorithm and a blank
threshold_ends : (k : List ℕ) (e : Written) (t : List ℕ) → EndsWord t → Stops (class_of (Front.at_algorithm k e)) (codes "ta") t
threshold_ends k e [] ends = tt
threshold_ends k e (x ∷ t) ends = ap (λ y. begins (class_of (Front.at_algorithm k e)) (codes "ta" ++ y ∷ [])) ends

number_ends : (w t : List ℕ) → is_number w ≡ true → EndsWord t → Stops Class.digits w t
number_ends w [] number ends = tt
number_ends w (x ∷ t) number ends = digits_end w x t number (ap is_ascii_digit ends)

-- an algorithm without numbers is read
word_read : (k : List ℕ) (e : Written) (w t : List ℕ) → list_any (bytes_eq w) algorithm_words ≡ true → EndsWord t
    → reads (Front.at_algorithm k e) [] (w ++ t) ≡ reads (Front.at_options (head_of k e (Named.word w))) [] t
word_read k e w t named ends =
    any_same (λ v. reads (Front.at_algorithm k e) [] (v ++ t) ≡ reads (Front.at_options (head_of k e (Named.word v))) [] t) w algorithm_words (
      reads-word f (codes "ta") t refl (threshold_ends k e t ends),
      (
        reads-word f (codes "nra") t refl (stops_always (class_of f) (codes "nra") t (λ x. refl)),
        (
          reads-word f (codes "ca") t refl (stops_always (class_of f) (codes "ca") t (λ x. refl)),
          (
            reads-word f (codes "fa") t refl (stops_always (class_of f) (codes "fa") t (λ x. refl)),
            (reads-word f (codes "taz") t refl (stops_always (class_of f) (codes "taz") t (λ x. refl)), tt),
          ),
        ),
      ),
    ) named
  where
    f : Front
    f = Front.at_algorithm k e

-- the two numbers of a factor are read
factor_read : (k : List ℕ) (e : Written) (p q t : List ℕ) → is_number p ≡ true → is_number q ≡ true → EndsWord t
    → reads (Front.at_factor k e) [] (p ++ (47 ∷ (q ++ t))) ≡ reads (Front.at_options (head_of k e (Named.factor p q))) [] t
factor_read k e p q t first second ends =
    let over = Front.at_over k e p in
    reads-word (Front.at_factor k e) p (47 ∷ (q ++ t)) first (digits_end p 47 (q ++ t) first refl)
    ∙ (reads-word over (codes "/") (q ++ t) refl (stops_always (class_of over) (codes "/") (q ++ t) (λ x. refl))
    ∙ reads-word (Front.at_under k e p) q t second (number_ends q t second ends))

algorithm_read : (k : List ℕ) (e : Written) (a : Named) (t : List ℕ) → IsNamed a → EndsWord t
    → reads (Front.at_algorithm k e) [] (text_of (named_pieces a) ++ t) ≡ reads (Front.at_options (head_of k e a)) [] t
algorithm_read k e (Named.word w) t named ends =
    ap (λ z. reads (Front.at_algorithm k e) [] (z ++ t)) (append-nil w) ∙ word_read k e w t named ends
algorithm_read k e (Named.factor p q) t named ends =
    let f = Front.at_algorithm k e in
    let text : (p ++ (47 ∷ (q ++ []))) ++ t ≡ p ++ (47 ∷ (q ++ t)) =
    append_assoc p (47 ∷ (q ++ [])) t ∙ ap (λ z. p ++ (47 ∷ (z ++ t))) (append-nil q) in
    ap (λ z. reads f [] (codes "theta " ++ z)) text
    ∙ (reads-word f (codes "theta ") (p ++ (47 ∷ (q ++ t))) refl (stops_always (class_of f) (codes "theta ") (p ++ (47 ∷ (q ++ t))) (λ x. refl))
    ∙ factor_read k e p q t named.0 named.1 ends)
algorithm_read k e (Named.depth d) t named ends =
    let f = Front.at_algorithm k e in
    ap (λ z. reads f [] (codes "early " ++ (z ++ t))) (append-nil d)
    ∙ (reads-word f (codes "early ") (d ++ t) refl (stops_always (class_of f) (codes "early ") (d ++ t) (λ x. refl))
    ∙ reads-word (Front.at_depth k e) d t named (number_ends d t named ends))

cost_fine : (c : Option (List ℕ × List ℕ)) → IfSome c (λ cost. IsNumber cost.0 × IsNumber cost.1) → IsCost c
cost_fine None h = tt
cost_fine (Some c) h = h

room_fine : (r : Option (List ℕ)) → IfSome r IsNumber → IsRoom r
room_fine None h = tt
room_fine (Some r) h = h

-- each text of the shape is read as its syntax tree
pub complete : (s : SyntaxTree) → IsShape s → reads Front.at_top [] (spelled s) ≡ Some s
complete s sound =
    let options = cost_pieces s.cost ++ room_pieces s.room in
    let named = named_pieces s.algorithm ++ options in
    let end = algorithm_pieces s.algorithm ++ options in
    let rest = expr_pieces s.expr ++ end in
    let behind = Front.at_behind s.k [] s.expr in
    reads-word Front.at_top (codes "top ") (s.k ++ (codes " by " ++ text_of rest)) refl (stops_always (class_of Front.at_top) (codes "top ") (s.k ++ (codes " by " ++ text_of rest)) (λ x. refl))
    ∙ (reads-word Front.at_count s.k (codes " by " ++ text_of rest) sound.k (digits_end s.k 32 (codes "by " ++ text_of rest) sound.k refl)
    ∙ (reads-word (Front.at_by s.k) (codes " by ") (text_of rest) refl (stops_always (class_of (Front.at_by s.k)) (codes " by ") (text_of rest) (λ x. refl))
    ∙ (ap (reads (Front.at_operand s.k []) []) (flat_map-append piece_text (expr_pieces s.expr) end)
    ∙ (expr_reads s.expr sound.expr s.k [] (text_of end) (refl, refl)
    ∙ (reads-word behind (codes " using ") (text_of named) refl (stops_always (class_of behind) (codes " using ") (text_of named) (λ x. refl))
    ∙ (ap (reads (Front.at_algorithm s.k s.expr) []) (flat_map-append piece_text (named_pieces s.algorithm) options)
    ∙ (algorithm_read s.k s.expr s.algorithm (text_of options) sound.algorithm (options_end s.cost s.room)
    ∙ options_read (head_of s.k s.expr s.algorithm) s.cost s.room (cost_fine s.cost sound.cost) (room_fine s.room sound.room))))))))

-- a text has one syntax tree
pub one_shape : (s t : SyntaxTree) → IsShape s → IsShape t → spelled s ≡ spelled t → s ≡ t
one_shape s t a b e = same_Some _ _ (sym (complete s a) ∙ (ap (reads Front.at_top []) e ∙ complete t b))
