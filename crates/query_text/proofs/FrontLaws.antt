-- A word adds its piece to a front, and keeps it well formed.
use Rattle.std.proofs.Common.{◌≡◌, ℕ, Bool, true, false, cond, ◌||◌, List, [], ◌∷◌, ◌++◌, Option, Some, None, is_some, refl, sym, ap, ◌∙◌, subst, ⊎_elim, append_assoc, codes, IfSome}
use Rattle.std.specs.List.{list_any, flat_map}
use Rattle.std.specs.Str.{bytes_eq}
use Rattle.std.proofs.lemmas.Bool.{or_cases, false≢true}
use Rattle.std.proofs.lemmas.List.{append-nil}
use Rattle.std.proofs.lemmas.Grind.{flat_map-append}
use Rattle.topk_base.specs.Names.{is_name}
use Rattle.query_text.proofs.ListLaws.{any_same, same_bytes}
use Rattle.query_text.specs.Written.{Written, IsNumber, HasNoWeight, IsWeight, IsWritten, AreArguments, HasArgument, Argument, arguments_from}
use Rattle.query_text.specs.Pieces.{Piece, piece_text, text_of}
use Rattle.query_text.specs.Shape.{SyntaxTree, Named, IsNamed, opening, weight_pieces, expr_pieces, argument_pieces, further_pieces, front_pieces, algorithm_pieces, cost_pieces, pieces_of, IsShape}
use Rattle.query_text.specs.Words.{opened_by, is_whole, using_words}
use Rattle.query_text.specs.Front.{Frame, Front, stage_of, class_of, done_pieces, frame_pieces, open_pieces, pieces_before, using_pieces, next, named_read, head_of, IsHead, shape_at, begun, opened, all_done, operand_read, argument_read, operand_piece, piece_at, is_weighted, AreDone, AreOpen, IsCost, IsRoom, IsFine, head_pieces}
use Rattle.std.proofs.lemmas.Option.{same_Some}
use Rattle.query_text.specs.declared.operator.Operator.{Operator}
use Rattle.query_text.specs.declared.operator.Operator.TheVariants.{Min, Max, Sum, Median, Wsum}
use Rattle.query_text.proofs.WordLaws.{opened_word}
use Rattle.topk_base.specs.declared.TheConstants.{MAX_NUMBER, MAX_WEIGHT}

-- a word of a table of one is that word, and of a table of two it is one of them
pub only_word : (w v : List ℕ) → (bytes_eq w v || false) ≡ true → w ≡ v
only_word w v h = ⊎_elim (λ e. same_bytes w v e) (λ e. absurd (false≢true e)) (or_cases (bytes_eq w v) false h)

-- the piece of the next word
abbrev pub next_piece : Front → List ℕ → Piece
next_piece f w = piece_at (stage_of f) w

-- three lists and a last piece
snoc3 : (a b : List Piece) (x : Piece) → a ++ (b ++ x ∷ []) ≡ (a ++ b) ++ x ∷ []
snoc3 a b x = sym (append_assoc a b (x ∷ []))

regroup_end : (a b c d : List Piece) (x y : Piece) → a ++ (b ++ (c ++ (d ++ x ∷ y ∷ []))) ≡ ((a ++ (b ++ c)) ++ (d ++ x ∷ [])) ++ y ∷ []
regroup_end a b c d x y = simp append_assoc

regroup_weight : (a b c : List Piece) (x y z : Piece) → a ++ (b ++ (x ∷ (c ++ y ∷ z ∷ []))) ≡ (a ++ ((b ++ (x ∷ (c ++ []))) ++ y ∷ [])) ++ z ∷ []
regroup_weight a b c x y z = simp (append-nil, append_assoc)

regroup_last : (a b c : List Piece) (x : Piece) → a ++ (b ++ (c ++ x ∷ [])) ≡ (a ++ (b ++ c)) ++ x ∷ []
regroup_last a b c x = simp append_assoc

-- one more piece of the algorithm
more_using : (k : List ℕ) (e : Written) (ps : List Piece) (p : Piece) → using_pieces k e (ps ++ p ∷ []) ≡ using_pieces k e ps ++ p ∷ []
more_using k e ps p = regroup_last (front_pieces k) (expr_pieces e) (Piece.fixed (codes " using ") ∷ ps) p

-- an operator that opens has no arguments and no weight
opened_pieces : (op : Operator) → frame_pieces (opened op) ≡ Piece.fixed (opening op) ∷ []
opened_pieces op = refl

begun_pieces : (k : List ℕ) (f : Frame) (fs : List Frame) → pieces_before (begun k f fs) ≡ front_pieces k ++ open_pieces (f ∷ fs)
begun_pieces k f fs = by_test (is_weighted f.operator)
  where
    by_test : (b : Bool) → pieces_before (cond b (Front.at_weight k (f ∷ fs)) (Front.at_operand k (f ∷ fs))) ≡ front_pieces k ++ open_pieces (f ∷ fs)
    by_test true = refl
    by_test false = refl

-- the arguments of a list, between parentheses
further_from : (done : List Argument) (x : Argument) → further_pieces (arguments_from (done ++ x ∷ []))
    ≡ Piece.fixed (codes ",") ∷ (flat_map done_pieces done ++ (weight_pieces x.0 ++ expr_pieces x.1))
further_from [] x = ap (λ z. Piece.fixed (codes ",") ∷ (weight_pieces x.0 ++ z)) (append-nil (expr_pieces x.1))
further_from (a ∷ done) x =
    let ih = further_from done x in
    let w = weight_pieces a.0 in
    let e = expr_pieces a.1 in
    ap (λ z. Piece.fixed (codes ",") ∷ z)
    (ap (λ z. w ++ (e ++ z)) ih
    ∙ (ap (λ z. w ++ z) (sym (append_assoc e (Piece.fixed (codes ",") ∷ []) (flat_map done_pieces done ++ (weight_pieces x.0 ++ expr_pieces x.1))))
    ∙ (sym (append_assoc w (e ++ Piece.fixed (codes ",") ∷ []) (flat_map done_pieces done ++ (weight_pieces x.0 ++ expr_pieces x.1)))
    ∙ sym (append_assoc (w ++ (e ++ Piece.fixed (codes ",") ∷ [])) (flat_map done_pieces done) (weight_pieces x.0 ++ expr_pieces x.1)))))

arguments_from_pieces : (done : List Argument) (x : Argument) → argument_pieces (arguments_from (done ++ x ∷ []))
    ≡ flat_map done_pieces done ++ (weight_pieces x.0 ++ expr_pieces x.1)
arguments_from_pieces [] x = ap (λ z. weight_pieces x.0 ++ z) (append-nil (expr_pieces x.1))
arguments_from_pieces (a ∷ done) x =
    let w = weight_pieces a.0 in
    let e = expr_pieces a.1 in
    ap (λ z. w ++ (e ++ z)) (further_from done x)
    ∙ (ap (λ z. w ++ z) (sym (append_assoc e (Piece.fixed (codes ",") ∷ []) (flat_map done_pieces done ++ (weight_pieces x.0 ++ expr_pieces x.1))))
    ∙ (sym (append_assoc w (e ++ Piece.fixed (codes ",") ∷ []) (flat_map done_pieces done ++ (weight_pieces x.0 ++ expr_pieces x.1)))
    ∙ sym (append_assoc (w ++ (e ++ Piece.fixed (codes ",") ∷ [])) (flat_map done_pieces done) (weight_pieces x.0 ++ expr_pieces x.1))))

-- a comma closes the argument before it
comma_pieces : (f : Frame) (e : Written) → frame_pieces (record f { done = all_done f e; weight = None })
    ≡ (frame_pieces f ++ expr_pieces e) ++ Piece.fixed (codes ",") ∷ []
comma_pieces f e =
    let d = flat_map done_pieces f.done in
    let w = weight_pieces f.weight in
    let x = expr_pieces e in
    let c = Piece.fixed (codes ",") ∷ [] in
    ap (λ z. Piece.fixed (opening f.operator) ∷ z)
    (append-nil (flat_map done_pieces (all_done f e))
    ∙ (flat_map-append done_pieces f.done ((f.weight, e) ∷ [])
    ∙ (ap (λ z. d ++ z) (append-nil (w ++ (x ++ c)))
    ∙ (sym (append_assoc d w (x ++ c)) ∙ sym (append_assoc (d ++ w) x c)))))

-- a parenthesis closes the operator
call_pieces : (f : Frame) (e : Written) → expr_pieces (Written.call f.operator (arguments_from (all_done f e)))
    ≡ (frame_pieces f ++ expr_pieces e) ++ Piece.fixed (codes ")") ∷ []
call_pieces f e =
    let d = flat_map done_pieces f.done in
    let w = weight_pieces f.weight in
    let x = expr_pieces e in
    let c = Piece.fixed (codes ")") ∷ [] in
    ap (λ z. Piece.fixed (opening f.operator) ∷ z)
    (ap (λ z. z ++ c) (arguments_from_pieces f.done (f.weight, e))
    ∙ ap (λ z. z ++ c) (sym (append_assoc d w x)))

-- regrouping behind the innermost operator
regroup : (a b c d : List Piece) (x : Piece) → a ++ (b ++ ((c ++ d) ++ x ∷ [])) ≡ (a ++ ((b ++ c) ++ d)) ++ x ∷ []
regroup a b c d x = simp append_assoc

-- a front with one more word has one more piece
pub pieces-next : (f : Front) (w : List ℕ) → IsFine f → is_whole (class_of f) w ≡ true → pieces_before (next f w) ≡ pieces_before f ++ next_piece f w ∷ []
pieces-next Front.at_top w fine h = ap (λ z. Piece.fixed z ∷ []) (sym (only_word w (codes "top ") h))
pieces-next Front.at_count w fine h = refl
pieces-next (Front.at_by k) w fine h = ap (λ z. Piece.fixed (codes "top ") ∷ Piece.number 1 MAX_NUMBER k ∷ Piece.fixed z ∷ []) (sym (only_word w (codes " by ") h))
pieces-next (Front.at_operand k fs) w fine h = by_opening (opened_by w) refl h
  where
    by_opening : (o : Option Operator) → opened_by w ≡ o → (is_name w || is_some o) ≡ true
        → pieces_before (operand_read k fs w o) ≡ (front_pieces k ++ open_pieces fs) ++ operand_piece w o ∷ []
    by_opening None e h = snoc3 (front_pieces k) (open_pieces fs) (Piece.name w)
    by_opening (Some op) e h =
        let found = opened_word w (ap is_some e) in
        let same : op ≡ found.0 = let both : Some op ≡ Some found.0 = sym e ∙ found.2 in cc in
        let word : opening op ≡ w = ap opening same ∙ sym found.1 in
        begun_pieces k (opened op) fs
        ∙ (ap (λ z. front_pieces k ++ (open_pieces fs ++ Piece.fixed z ∷ [])) word ∙ snoc3 (front_pieces k) (open_pieces fs) (Piece.fixed w))
pieces-next (Front.at_behind k [] e) w fine h =
    ap (λ z. front_pieces k ++ (expr_pieces e ++ Piece.fixed z ∷ [])) (sym (only_word w (codes " using ") h)) ∙ snoc3 (front_pieces k) (expr_pieces e) (Piece.fixed w)
pieces-next (Front.at_behind k (f ∷ fs) e) w fine h = by_comma (bytes_eq w (codes ",")) refl h
  where
    by_comma : (b : Bool) → bytes_eq w (codes ",") ≡ b → (b || (bytes_eq w (codes ")") || false)) ≡ true
        → pieces_before (argument_read k f fs e b) ≡ (front_pieces k ++ ((open_pieces fs ++ frame_pieces f) ++ expr_pieces e)) ++ Piece.fixed w ∷ []
    by_comma true is h =
        begun_pieces k (record f { done = all_done f e; weight = None }) fs
        ∙ (ap (λ z. front_pieces k ++ (open_pieces fs ++ z)) (comma_pieces f e)
        ∙ (regroup (front_pieces k) (open_pieces fs) (frame_pieces f) (expr_pieces e) (Piece.fixed (codes ","))
        ∙ ap (λ z. (front_pieces k ++ ((open_pieces fs ++ frame_pieces f) ++ expr_pieces e)) ++ Piece.fixed z ∷ []) (sym (same_bytes w (codes ",") is))))
    by_comma false is h =
        ap (λ z. front_pieces k ++ (open_pieces fs ++ z)) (call_pieces f e)
        ∙ (regroup (front_pieces k) (open_pieces fs) (frame_pieces f) (expr_pieces e) (Piece.fixed (codes ")"))
        ∙ ap (λ z. (front_pieces k ++ ((open_pieces fs ++ frame_pieces f) ++ expr_pieces e)) ++ Piece.fixed z ∷ []) (sym (only_word w (codes ")") h)))
pieces-next (Front.at_weight k fs) w fine h = snoc3 (front_pieces k) (open_pieces fs) (Piece.number 0 MAX_WEIGHT w)
pieces-next (Front.at_times k [] d) w fine h = elim fine.1 [ ]
pieces-next (Front.at_times k (f ∷ fs) d) w fine h =
    let none : f.weight ≡ None = fine.1.2 in
    let x = Piece.number 0 MAX_WEIGHT d in
    ap (λ z. front_pieces k ++ (open_pieces fs ++ (Piece.fixed (opening f.operator) ∷ (flat_map done_pieces f.done ++ x ∷ Piece.fixed z ∷ [])))) (sym (only_word w (codes "*") h))
    ∙ (regroup_weight (front_pieces k) (open_pieces fs) (flat_map done_pieces f.done) (Piece.fixed (opening f.operator)) x (Piece.fixed w)
    ∙ ap (λ z. (front_pieces k ++ ((open_pieces fs ++ (Piece.fixed (opening f.operator) ∷ (flat_map done_pieces f.done ++ weight_pieces z))) ++ x ∷ [])) ++ Piece.fixed w ∷ []) (sym none))
pieces-next (Front.at_algorithm k e) w fine h =
    any_same (λ v. pieces_before (named_read k e v) ≡ using_pieces k e [] ++ Piece.fixed v ∷ []) w using_words (
      more_using k e [] (Piece.fixed (codes "ta")),
      (
        more_using k e [] (Piece.fixed (codes "nra")),
        (
          more_using k e [] (Piece.fixed (codes "ca")),
          (
            more_using k e [] (Piece.fixed (codes "fa")),
            (
              more_using k e [] (Piece.fixed (codes "taz")),
              (
                more_using k e [] (Piece.fixed (codes "theta ")),
                (more_using k e [] (Piece.fixed (codes "early ")), tt),
              ),
            ),
          ),
        ),
      ),
    ) h
pieces-next (Front.at_factor k e) w fine h = more_using k e (Piece.fixed (codes "theta ") ∷ []) (Piece.number 1 MAX_NUMBER w)
pieces-next (Front.at_over k e p) w fine h =
    ap (λ z. using_pieces k e (Piece.fixed (codes "theta ") ∷ Piece.number 1 MAX_NUMBER p ∷ Piece.fixed z ∷ [])) (sym (only_word w (codes "/") h))
    ∙ more_using k e (Piece.fixed (codes "theta ") ∷ Piece.number 1 MAX_NUMBER p ∷ []) (Piece.fixed w)
pieces-next (Front.at_under k e p) w fine h =
    more_using k e (Piece.fixed (codes "theta ") ∷ Piece.number 1 MAX_NUMBER p ∷ Piece.fixed (codes "/") ∷ []) (Piece.number 1 MAX_NUMBER w)
pieces-next (Front.at_depth k e) w fine h = more_using k e (Piece.fixed (codes "early ") ∷ []) (Piece.number 1 MAX_NUMBER w)
pieces-next (Front.at_options head) w fine h = by_cost (bytes_eq w (codes " cost ")) refl h
  where
    by_cost : (b : Bool) → bytes_eq w (codes " cost ") ≡ b → (b || (bytes_eq w (codes " room ") || false)) ≡ true
        → pieces_before (cond b (Front.at_sorted head) (Front.at_room head None)) ≡ head_pieces head ++ Piece.fixed w ∷ []
    by_cost true is h = ap (λ z. head_pieces head ++ Piece.fixed z ∷ []) (sym (same_bytes w (codes " cost ") is))
    by_cost false is h = ap (λ z. head_pieces head ++ Piece.fixed z ∷ []) (sym (only_word w (codes " room ") h))
pieces-next (Front.at_sorted head) w fine h = sym (append_assoc (head_pieces head) (Piece.fixed (codes " cost ") ∷ []) (Piece.number 1 MAX_NUMBER w ∷ []))
pieces-next (Front.at_between head d) w fine h =
    ap (λ z. head_pieces head ++ Piece.fixed (codes " cost ") ∷ Piece.number 1 MAX_NUMBER d ∷ Piece.fixed z ∷ []) (sym (only_word w (codes " ") h))
    ∙ sym (append_assoc (head_pieces head) (Piece.fixed (codes " cost ") ∷ Piece.number 1 MAX_NUMBER d ∷ []) (Piece.fixed w ∷ []))
pieces-next (Front.at_random head d) w fine h =
    sym (append_assoc (head_pieces head) (Piece.fixed (codes " cost ") ∷ Piece.number 1 MAX_NUMBER d ∷ Piece.fixed (codes " ") ∷ []) (Piece.number 1 MAX_NUMBER w ∷ []))
pieces-next (Front.at_priced head c) w fine h =
    ap (λ z. head_pieces head ++ (cost_pieces (Some c) ++ Piece.fixed z ∷ [])) (sym (only_word w (codes " room ") h))
    ∙ snoc3 (head_pieces head) (cost_pieces (Some c)) (Piece.fixed w)
pieces-next (Front.at_room head c) w fine h =
    regroup_end (front_pieces head.k) (expr_pieces head.expr) (algorithm_pieces head.algorithm) (cost_pieces c) (Piece.fixed (codes " room ")) (Piece.number 1 MAX_NUMBER w)
pieces-next (Front.at_end s) w fine h = absurd (false≢true h)

-- the text of one more piece
pub text_of-push : (ps : List Piece) (p : Piece) → text_of (ps ++ p ∷ []) ≡ text_of ps ++ piece_text p
text_of-push ps p = flat_map-append piece_text ps (p ∷ []) ∙ ap (λ z. text_of ps ++ z) (append-nil (piece_text p))

operand_piece_text : (w : List ℕ) (o : Option Operator) → piece_text (operand_piece w o) ≡ w
operand_piece_text w None = refl
operand_piece_text w (Some op) = refl

pub next_piece_text : (f : Front) (w : List ℕ) → piece_text (next_piece f w) ≡ w
next_piece_text Front.at_top w = refl
next_piece_text Front.at_count w = refl
next_piece_text (Front.at_by k) w = refl
next_piece_text (Front.at_operand k fs) w = operand_piece_text w (opened_by w)
next_piece_text (Front.at_behind k fs e) w = refl
next_piece_text (Front.at_weight k fs) w = refl
next_piece_text (Front.at_times k fs d) w = refl
next_piece_text (Front.at_algorithm k e) w = refl
next_piece_text (Front.at_factor k e) w = refl
next_piece_text (Front.at_over k e p) w = refl
next_piece_text (Front.at_under k e p) w = refl
next_piece_text (Front.at_depth k e) w = refl
next_piece_text (Front.at_options h) w = refl
next_piece_text (Front.at_sorted h) w = refl
next_piece_text (Front.at_between h d) w = refl
next_piece_text (Front.at_random h d) w = refl
next_piece_text (Front.at_priced h c) w = refl
next_piece_text (Front.at_room h c) w = refl
next_piece_text (Front.at_end s) w = refl

-- the text of a front with one more word
pub text-next : (f : Front) (w : List ℕ) → IsFine f → is_whole (class_of f) w ≡ true → text_of (pieces_before (next f w)) ≡ text_of (pieces_before f) ++ w
text-next f w fine h =
    ap text_of (pieces-next f w fine h) ∙ (text_of-push (pieces_before f) (next_piece f w) ∙ ap (λ z. text_of (pieces_before f) ++ z) (next_piece_text f w))

AreDone-push : (op : Operator) (done : List Argument) (x : Argument) → AreDone op done → IsWeight op x.0 → IsWritten x.1 → AreDone op (done ++ x ∷ [])
AreDone-push op [] x h weight expr = (weight, expr, tt)
AreDone-push op (a ∷ done) x h weight expr = (h.0, h.1, AreDone-push op done x h.2 weight expr)

arguments_from_fine : (op : Operator) (done : List Argument) → AreDone op done → AreArguments op (arguments_from done)
arguments_from_fine op [] h = tt
arguments_from_fine op (a ∷ done) h = (h.0, h.1, arguments_from_fine op done h.2)

has_argument : (done : List Argument) (x : Argument) → HasArgument (arguments_from (done ++ x ∷ []))
has_argument [] x = tt
has_argument (a ∷ done) x = tt

plain_weight : (op : Operator) (w : Option (List ℕ)) → is_weighted op ≡ false → w ≡ None → IsWeight op w
plain_weight Min w h e = subst HasNoWeight (sym e) tt
plain_weight Max w h e = subst HasNoWeight (sym e) tt
plain_weight Sum w h e = subst HasNoWeight (sym e) tt
plain_weight Median w h e = subst HasNoWeight (sym e) tt
plain_weight Wsum w h e = absurd (false≢true (sym h))

pub weighted_is : (op : Operator) → is_weighted op ≡ true → op ≡ Wsum
weighted_is Min h = absurd (false≢true h)
weighted_is Max h = absurd (false≢true h)
weighted_is Sum h = absurd (false≢true h)
weighted_is Median h = absurd (false≢true h)
weighted_is Wsum h = refl

begun_fine : (k : List ℕ) (f : Frame) (fs : List Frame) → IsNumber k → AreDone f.operator f.done → f.weight ≡ None → AreOpen fs → IsFine (begun k f fs)
begun_fine k f fs number done none open_frames = by_test (is_weighted f.operator) refl
  where
    by_test : (b : Bool) → is_weighted f.operator ≡ b → IsFine (cond b (Front.at_weight k (f ∷ fs)) (Front.at_operand k (f ∷ fs)))
    by_test true is = (number, (done, weighted_is f.operator is, none, open_frames))
    by_test false is = (number, (done, plain_weight f.operator f.weight is none, open_frames))

-- behind the word of an algorithm
named_fine : (k : List ℕ) (e : Written) (w : List ℕ) → IsNumber k × IsWritten e → list_any (bytes_eq w) using_words ≡ true → IsFine (named_read k e w)
named_fine k e w fine h =
    any_same (λ v. IsFine (named_read k e v)) w using_words
    (alone (codes "ta") refl, (alone (codes "nra") refl, (alone (codes "ca") refl, (alone (codes "fa") refl, (alone (codes "taz") refl, (fine, (fine, tt))))))) h
  where
    alone : (v : List ℕ) → IsNamed (Named.word v) → IsHead (head_of k e (Named.word v))
    alone v named = record { k = fine.0; expr = fine.1; algorithm = named }

-- a word keeps a front well formed
pub fine-next : (f : Front) (w : List ℕ) → IsFine f → is_whole (class_of f) w ≡ true → IsFine (next f w)
fine-next Front.at_top w fine h = tt
fine-next Front.at_count w fine h = h
fine-next (Front.at_by k) w fine h = (fine, tt)
fine-next (Front.at_operand k fs) w fine h = by_opening (opened_by w) h
  where
    by_opening : (o : Option Operator) → (is_name w || is_some o) ≡ true → IsFine (operand_read k fs w o)
    by_opening None h = (fine.0, fine.1, ⊎_elim (λ e. e) (λ e. absurd (false≢true e)) (or_cases (is_name w) false h))
    by_opening (Some op) h = begun_fine k (opened op) fs fine.0 tt refl fine.1
fine-next (Front.at_behind k [] e) w fine h = (fine.0, fine.2)
fine-next (Front.at_behind k (f ∷ fs) e) w fine h = by_comma (bytes_eq w (codes ","))
  where
    all_fine : AreDone f.operator (all_done f e)
    all_fine = AreDone-push f.operator f.done (f.weight, e) fine.1.0 fine.1.1 fine.2

    by_comma : (b : Bool) → IsFine (argument_read k f fs e b)
    by_comma true = begun_fine k (record f { done = all_done f e; weight = None }) fs fine.0 all_fine refl fine.1.2
    by_comma false = (fine.0, fine.1.2, (has_argument f.done (f.weight, e), arguments_from_fine f.operator (all_done f e) all_fine))
fine-next (Front.at_weight k fs) w fine h = (fine.0, fine.1, h)
fine-next (Front.at_times k [] d) w fine h = elim fine.1 [ ]
fine-next (Front.at_times k (f ∷ fs) d) w fine h = (fine.0, (fine.1.0, subst (λ o. IsWeight o (Some d)) (sym fine.1.1) fine.2, fine.1.3))
fine-next (Front.at_algorithm k e) w fine h = named_fine k e w fine h
fine-next (Front.at_factor k e) w fine h = (fine.0, fine.1, h)
fine-next (Front.at_over k e p) w fine h = fine
fine-next (Front.at_under k e p) w fine h = record { k = fine.0; expr = fine.1; algorithm = (fine.2, h) }
fine-next (Front.at_depth k e) w fine h = record { k = fine.0; expr = fine.1; algorithm = h }
fine-next (Front.at_options head) w fine h = by_cost (bytes_eq w (codes " cost "))
  where
    by_cost : (b : Bool) → IsFine (cond b (Front.at_sorted head) (Front.at_room head None))
    by_cost true = fine
    by_cost false = (fine, tt)
fine-next (Front.at_sorted head) w fine h = (fine, h)
fine-next (Front.at_between head d) w fine h = fine
fine-next (Front.at_random head d) w fine h = (fine.0, fine.1, h)
fine-next (Front.at_priced head c) w fine h = (fine.0, (fine.1, fine.2))
fine-next (Front.at_room head c) w fine h = (fine.0.k, fine.0.expr, fine.0.algorithm, fine.1, h)
fine-next (Front.at_end s) w fine h = absurd (false≢true h)

-- the syntax tree of a front that is a whole text
pub record IsWhole (f : Front) (s : SyntaxTree) : Type 0 where
  pub sound : IsShape s
  pub same : pieces_of s ≡ pieces_before f

pub whole_at : (f : Front) (s : SyntaxTree) → IsFine f → shape_at f ≡ Some s → IsWhole f s
whole_at Front.at_top s fine h = absurd cc
whole_at Front.at_count s fine h = absurd cc
whole_at (Front.at_by k) s fine h = absurd cc
whole_at (Front.at_operand k fs) s fine h = absurd cc
whole_at (Front.at_behind k fs e) s fine h = absurd cc
whole_at (Front.at_weight k fs) s fine h = absurd cc
whole_at (Front.at_times k fs d) s fine h = absurd cc
whole_at (Front.at_algorithm k e) s fine h = absurd cc
whole_at (Front.at_factor k e) s fine h = absurd cc
whole_at (Front.at_over k e p) s fine h = absurd cc
whole_at (Front.at_under k e p) s fine h = absurd cc
whole_at (Front.at_depth k e) s fine h = absurd cc
whole_at (Front.at_options head) s fine h =
    subst (IsWhole (Front.at_options head)) (same_Some _ _ h) (record {
      sound = record { k = fine.k; expr = fine.expr; algorithm = fine.algorithm; cost = tt; room = tt };
      same = ap (λ z. front_pieces head.k ++ (expr_pieces head.expr ++ z)) (append-nil (algorithm_pieces head.algorithm));
    })
whole_at (Front.at_sorted head) s fine h = absurd cc
whole_at (Front.at_between head d) s fine h = absurd cc
whole_at (Front.at_random head d) s fine h = absurd cc
whole_at (Front.at_priced head c) s fine h =
    subst (IsWhole (Front.at_priced head c)) (same_Some _ _ h) (record {
      sound = record { k = fine.0.k; expr = fine.0.expr; algorithm = fine.0.algorithm; cost = (fine.1, fine.2); room = tt };
      same = regroup_cost (front_pieces head.k) (expr_pieces head.expr) (algorithm_pieces head.algorithm) (cost_pieces (Some c));
    })
  where
    regroup_cost : (a b c d : List Piece) → a ++ (b ++ (c ++ (d ++ []))) ≡ (a ++ (b ++ c)) ++ d
    regroup_cost a b c d = simp (append-nil, append_assoc)
whole_at (Front.at_room head c) s fine h = absurd cc
whole_at (Front.at_end t) s fine h =
    subst (IsWhole (Front.at_end t)) (same_Some _ _ h) (record {
      sound = record { k = fine.0; expr = fine.1; algorithm = fine.2; cost = cost_fine t.cost fine.3; room = room_fine t.room fine.4 };
      same = refl;
    })
  where
    cost_fine : (c : Option (List ℕ × List ℕ)) → IsCost c → IfSome c (λ cost. IsNumber cost.0 × IsNumber cost.1)
    cost_fine None h = tt
    cost_fine (Some c) h = h

    room_fine : (r : Option (List ℕ)) → IsRoom r → IfSome r IsNumber
    room_fine None h = tt
    room_fine (Some r) h = h
