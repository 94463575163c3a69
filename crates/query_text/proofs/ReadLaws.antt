-- A reader's step, and where it ends.
use Rattle.std.proofs.Common.{◌≡◌, ℕ, zero, suc, ◌+◌, ◌<◌, ◌≤◌, Bool, true, false, cond, List, [], ◌∷◌, ◌++◌, length, take, drop, map, Option, Some, None, is_some, refl, sym, ap, ◌∙◌, subst, arith, append_assoc, codes, Err}
use Rattle.std.specs.Str.{bytes_eq}
use Rattle.std.proofs.lemmas.Bool.{false≢true}
use Rattle.std.proofs.lemmas.List.{append-nil, length-append, take-append-drop, length-take, length-drop}
use Rattle.query_text.specs.Pieces.{Piece, text_of, IsNumberFault, IsNameFault}
use Rattle.query_text.specs.Shape.{SyntaxTree, Named, IsSyntaxFault}
use Rattle.query_text.specs.Words.{Class, opened_by, begins, is_whole, class_at, IsLongest}
use Rattle.query_text.specs.Front.{Front, Frame, head_of, stage_of, frames_of, is_inside, class_of, next, shape_at, pieces_before, is_weighted, operand_read, argument_read, begun, opened, all_done, IsFine}
use Rattle.query_text.specs.Course.{course_view, standing_of, is_open, at, argument_stage, behind_word, behind_operand, standing_next, may_end}
use Rattle.query_text.specs.Draft.{names_of, unopened, IsDraftPlain}
use Rattle.query_text.specs.Reached.{front_text, Follows, Drafts, IsState, Reached, IsDraftOf, IsPieceFault, StepTakes, WordsRead}
use Rattle.query_text.specs.declared.course.Course.{Course}
use Rattle.query_text.specs.declared.draft.Draft.{Draft}
use Rattle.query_text.specs.declared.operator.Operator.{Operator}
use Rattle.query_text.specs.declared.parser_state.ParserState.{ParserState}
use Rattle.query_text.specs.declared.parser_state.ParserState.TheVariants as stages
use Rattle.query_text.specs.declared.fault.QueryFault.{QueryFault}
use Rattle.query_text.specs.declared.fault.QueryFault.TheVariants as faults
use Rattle.query_text.proofs.WordLaws.{Stops, empty_not_whole}
use Rattle.query_text.proofs.FrontLaws.{text-next, fine-next, whole_at}
use Rattle.query_text.proofs.ReachLaws.{ends_at, follows-next, Fits, refused, take-more}
use Rattle.query_text.proofs.StateLaws.{drafts-next, fault-next, fault-new}
use Rattle.topk_base.specs.declared.TheConstants.{MAX_LISTS}

begun_standing : (k : List ℕ) (f : Frame) (fs : List Frame)
    → standing_of (begun k f fs) ≡ at (argument_stage f.operator) (f.operator ∷ map (λ frame. frame.operator) fs)
begun_standing k f fs = by_test (is_weighted f.operator)
  where
    by_test : (b : Bool) → standing_of (cond b (Front.at_weight k (f ∷ fs)) (Front.at_operand k (f ∷ fs)))
        ≡ at (cond b stages.Weight stages.Operand) (f.operator ∷ map (λ frame. frame.operator) fs)
    by_test true = refl
    by_test false = refl

-- where the next front stands
standing-next : (f : Front) (w : List ℕ) → standing_of (next f w) ≡ standing_next (stage_of f) (map (λ frame. frame.operator) (frames_of f)) w
standing-next Front.at_top w = refl
standing-next Front.at_count w = refl
standing-next (Front.at_by k) w = refl
standing-next (Front.at_operand k fs) w = by_opening (opened_by w)
  where
    by_opening : (o : Option Operator) → standing_of (operand_read k fs w o) ≡ behind_word (map (λ frame. frame.operator) fs) o
    by_opening None = refl
    by_opening (Some op) = begun_standing k (opened op) fs
standing-next (Front.at_behind k [] e) w = refl
standing-next (Front.at_behind k (f ∷ fs) e) w = by_comma (bytes_eq w (codes ","))
  where
    by_comma : (b : Bool) → standing_of (argument_read k f fs e b) ≡ behind_operand (f.operator ∷ map (λ frame. frame.operator) fs) b
    by_comma true = begun_standing k (record f { done = all_done f e; weight = None }) fs
    by_comma false = refl
standing-next (Front.at_weight k fs) w = refl
standing-next (Front.at_times k [] d) w = refl
standing-next (Front.at_times k (f ∷ fs) d) w = refl
standing-next (Front.at_algorithm k e) w = by_word (bytes_eq w (codes "theta ")) (bytes_eq w (codes "early "))
  where
    by_word : (theta early : Bool)
        → standing_of (cond theta (Front.at_factor k e) (cond early (Front.at_depth k e) (Front.at_options (head_of k e (Named.word w)))))
        ≡ at (cond theta stages.Factor (cond early stages.Depth stages.Options)) []
    by_word true early = refl
    by_word false true = refl
    by_word false false = refl
standing-next (Front.at_factor k e) w = refl
standing-next (Front.at_over k e p) w = refl
standing-next (Front.at_under k e p) w = refl
standing-next (Front.at_depth k e) w = refl
standing-next (Front.at_options head) w = by_cost (bytes_eq w (codes " cost "))
  where
    by_cost : (b : Bool) → standing_of (cond b (Front.at_sorted head) (Front.at_room head None)) ≡ at (cond b stages.Sorted stages.Room) []
    by_cost true = refl
    by_cost false = refl
standing-next (Front.at_sorted head) w = refl
standing-next (Front.at_between head d) w = refl
standing-next (Front.at_random head d) w = refl
standing-next (Front.at_priced head c) w = refl
standing-next (Front.at_room head c) w = refl
standing-next (Front.at_end s) w = refl

inside_is : (fs : List Frame) → is_open (map (λ frame. frame.operator) fs) ≡ is_inside fs
inside_is [] = refl
inside_is (f ∷ fs) = refl

class_is : (course : Course) (f : Front) → course_view course ≡ standing_of f → class_at course.stage (is_open (course_view course).operators) ≡ class_of f
class_is course f e = ap (λ s. class_at s.stage (is_open s.operators)) e ∙ ap (class_at (stage_of f)) (inside_is (frames_of f))

drop_nothing : (n : ℕ) → drop {A = ℕ} n [] ≡ []
drop_nothing zero = refl
drop_nothing (suc n) = refl

drop_add : (a c : ℕ) (xs : List ℕ) → drop c (drop a xs) ≡ drop (a + c) xs
drop_add zero c xs = ap (λ n. drop n xs) (omega arith)
drop_add (suc a) c [] = drop_nothing c ∙ sym (drop_nothing (suc a + c))
drop_add (suc a) c (x ∷ xs) =
    let e : suc (a + c) ≡ suc a + c = omega arith in
    drop_add a c xs ∙ ap (λ n. drop n (x ∷ xs)) e

-- the parts at the longest front
stops_parts : (c : Class) (rest w t : List ℕ) (count : ℕ) → rest ≡ w ++ t → length w ≡ count → IsLongest c rest count → Stops c w t
stops_parts c rest w [] count e n h = tt
stops_parts c rest w (x ∷ t) count e n h =
    let within : count < length rest = omega (arith, ap length e, length-append w (x ∷ t)) in
    let one : count + 1 ≡ suc (length w) = omega arith in
    let same : take (count + 1) rest ≡ w ++ x ∷ [] = ap (take (count + 1)) e ∙ (ap (λ k. take k (w ++ x ∷ t)) one ∙ take-more w x t) in
    ap (begins c) (sym same) ∙ h.ends within

fits_parts : (c : Class) (rest w : List ℕ) (count : ℕ) → take count rest ≡ w → length w ≡ count → IsLongest c rest count → Fits c w
fits_parts c rest [] count e n h = tt
fits_parts c rest (y ∷ w) count e n h = ap (begins c) (sym e) ∙ h.fits (omega arith)

word_length : (c : Class) (rest : List ℕ) (count : ℕ) → IsLongest c rest count → length (take count rest) ≡ count
word_length c rest count h = omega (arith, length-take count rest, h.within)

state_next : (d new : Draft) (f : Front) (w : List ℕ) (place : ℕ) (before now : Option QueryFault) → IsFine f → is_whole (class_of f) w ≡ true
    → place ≡ length (front_text f)
    → IsState before d f → StepTakes (stage_of f) d new before w place now → IsState now new (next f w)
state_next d new f w place (Some fault) now fine whole at_place state step = subst (λ o. IsState o new (next f w)) (sym step) (fault-next d new f w fault fine whole state)
state_next d new f w place None None fine whole at_place state step = drafts-next d new f w fine whole step state
state_next d new f w place None (Some fault) fine whole at_place state step = fault-new d new f w place fault fine whole at_place state step.0 step.1

take_nothing : (xs : List ℕ) → take zero xs ≡ []
take_nothing [] = refl
take_nothing (x ∷ xs) = refl

-- what a test of the longest front of the rest of a line tells of the line
pub word_told : (line : List ℕ) (at count : ℕ) (s : ParserState) (inside opened whole : Bool) (rest : List ℕ) → inside ≡ opened → rest ≡ drop at line
    → IsLongest (class_at s inside) rest count → whole ≡ is_whole (class_at s inside) (take count rest)
    → IsLongest (class_at s opened) (drop at line) count × (is_whole (class_at s opened) (take count (drop at line)) ≡ whole)
word_told line at count s inside opened whole rest is same longest told =
    subst (λ r. IsLongest (class_at s opened) r count × (is_whole (class_at s opened) (take count r) ≡ whole)) same
    (subst (λ o. IsLongest (class_at s o) rest count × (is_whole (class_at s o) (take count rest) ≡ whole)) is (longest, sym told))

-- a whole word has a byte
pub whole_has_byte : (s : ParserState) (inside : Bool) (count : ℕ) (rest : List ℕ) → is_whole (class_at s inside) (take count rest) ≡ true → 0 < count
whole_has_byte s inside zero rest h = absurd (false≢true (sym (empty_not_whole s inside) ∙ (ap (is_whole (class_at s inside)) (sym (take_nothing rest)) ∙ h)))
whole_has_byte s inside (suc n) rest h = omega arith

-- a draft without a fault has few names
pub reach_few : (line : List ℕ) (place : ℕ) (course : Course) (draft : Draft) (before : Option QueryFault) → Reached line place course draft before → before ≡ None
    → length (names_of draft) ≤ MAX_LISTS
reach_few line place course draft before r none =
    let state : Drafts draft r.front = subst (λ fault. IsState fault draft r.front) none r.state in
    subst (λ names. length names ≤ MAX_LISTS) (sym state.names) state.fine.few

-- a reader's step
pub reach-next : (line : List ℕ) (place count : ℕ) (course new_course : Course) (draft new_draft : Draft) (before now : Option QueryFault) (word : List ℕ)
    → Reached line place course draft before → word ≡ take count (drop place line)
    → IsLongest (class_at course.stage (is_open (course_view course).operators)) (drop place line) count
    → is_whole (class_at course.stage (is_open (course_view course).operators)) (take count (drop place line)) ≡ true
    → StepTakes course.stage draft new_draft before word place now
    → course_view new_course ≡ standing_next course.stage (course_view course).operators word
    → Reached line (place + count) new_course new_draft now
reach-next line place count course new_course draft new_draft before now word r is longest whole step goes =
    let f = r.front in
    let rest = drop place line in
    let w = take count rest in
    let t = drop count rest in
    let class_same = class_is course f r.standing in
    let longest_of : IsLongest (class_of f) rest count = subst (λ c. IsLongest c rest count) class_same longest in
    let whole_of : is_whole (class_of f) w ≡ true = subst (λ c. is_whole c w ≡ true) class_same whole in
    let cut : rest ≡ w ++ t = sym (take-append-drop count rest) in
    let n = word_length (class_of f) rest count longest_of in
    let dropped : t ≡ drop (place + count) line = drop_add place count line in
    let text : front_text (next f w) ≡ front_text f ++ w = text-next f w r.fine whole_of in
    record {
      front = next f w;
      fine = fine-next f w r.fine whole_of;
      standing = goes ∙ (ap (standing_next course.stage (course_view course).operators) is ∙ (ap (λ s. standing_next s.stage s.operators w) r.standing ∙ sym (standing-next f w)));
      place = omega (arith, ap length text, length-append (front_text f) w, n, r.place);
      within = omega (arith, longest_of.within, length-drop place line, r.within);
      parts = r.parts ∙ (ap (λ z. front_text f ++ z) cut ∙ (sym (append_assoc (front_text f) w t) ∙ (ap (λ z. z ++ t) (sym text) ∙ ap (λ z. front_text (next f w) ++ z) dropped)));
      follows = subst (Follows (next f w)) dropped
          (follows-next f w t r.fine whole_of (stops_parts (class_of f) rest w t count cut n longest_of) (subst (Follows f) cut r.follows));
      state = state_next draft new_draft f w place before now r.fine whole_of r.place r.state
          (subst (λ z. StepTakes (stage_of f) draft new_draft before z place now) is (subst (λ s. StepTakes s draft new_draft before word place now) (ap (λ s. s.stage) r.standing) step));
    }

-- where no word is whole the line is refused
pub reach_refused : (line : List ℕ) (place count : ℕ) (course : Course) (draft : Draft) (before : Option QueryFault) (stop : ℕ)
    → Reached line place course draft before → stop ≡ place + count
    → IsLongest (class_at course.stage (is_open (course_view course).operators)) (drop place line) count
    → is_whole (class_at course.stage (is_open (course_view course).operators)) (take count (drop place line)) ≡ false
    → (length line ≤ place → may_end course.stage ≡ false) → IsSyntaxFault line stop
reach_refused line place count course draft before stop r is longest part goes =
    let f = r.front in
    let rest = drop place line in
    let w = take count rest in
    let t = drop count rest in
    let class_same = class_is course f r.standing in
    let longest_of : IsLongest (class_of f) rest count = subst (λ c. IsLongest c rest count) class_same longest in
    let part_of : is_whole (class_of f) w ≡ false = subst (λ c. is_whole c w ≡ false) class_same part in
    let cut : rest ≡ w ++ t = sym (take-append-drop count rest) in
    let n = word_length (class_of f) rest count longest_of in
    refused f w t line stop r.fine (fits_parts (class_of f) rest w count refl n longest_of) part_of (stops_parts (class_of f) rest w t count cut n longest_of)
    (λ e. ap may_end (sym (ap (λ s. s.stage) r.standing)) ∙ goes (omega (arith, ap length (cut ∙ e), length-drop place line)))
    (subst (Follows f) cut r.follows) (r.parts ∙ ap (λ z. front_text f ++ z) cut) (is ∙ omega (arith, r.place, n))

-- at the front of a line
pub reach_start : (line : List ℕ) (course : Course) (draft : Draft) → course_view course ≡ at stages.Top [] → names_of draft ≡ [] → draft.frames.items ≡ []
    → IsDraftPlain draft
    → Reached line 0 course draft None
reach_start line course draft standing names frames plain = record {
  front = Front.at_top;
  fine = tt;
  standing = standing;
  place = refl;
  within = omega arith;
  parts = refl;
  follows = start line;
  state = record {
    shows = λ more. shown draft.frames.items frames;
    names = names;
    fine = record { ranges = tt; few = omega arith };
    plain = plain;
  };
}
  where
    start : (line : List ℕ) → Follows Front.at_top line
    start [] = refl
    start (x ∷ line) = λ m. refl

    shown : (xs : List _) → xs ≡ [] → unopened xs Front.at_top ≡ Front.at_top
    shown xs e = ap (λ z. unopened z Front.at_top) e

shape_some : (o : Option SyntaxTree) → is_some o ≡ true → (s : SyntaxTree) × (o ≡ Some s)
shape_some None e = absurd (false≢true e)
shape_some (Some s) e = (s, refl)

-- at the end of a line
whole_line : (line : List ℕ) (place : ℕ) (course : Course) (draft : Draft) (before : Option QueryFault) → (r : Reached line place course draft before)
    → length line ≤ place
    → front_text r.front ≡ line
whole_line line place course draft before r over =
    let e : drop place line ≡ [] = nothing (drop place line) (omega (arith, length-drop place line)) in
    sym (r.parts ∙ (ap (λ z. front_text r.front ++ z) e ∙ append-nil (front_text r.front)))
  where
    nothing : (xs : List ℕ) → length xs ≡ 0 → xs ≡ []
    nothing [] e = refl
    nothing (x ∷ xs) e = absurd (omega arith)

ended_at : (line : List ℕ) (place : ℕ) (course : Course) (draft : Draft) (before : Option QueryFault) → (r : Reached line place course draft before)
    → may_end course.stage ≡ true
    → (s : SyntaxTree) × (shape_at r.front ≡ Some s)
ended_at line place course draft before r may = shape_some (shape_at r.front) (ends_at r.front ∙ (ap may_end (sym (ap (λ s. s.stage) r.standing)) ∙ may))

pub reach_draft : (line : List ℕ) (place : ℕ) (course : Course) (draft : Draft) → Reached line place course draft None → length line ≤ place
    → may_end course.stage ≡ true → IsDraftOf line draft
reach_draft line place course draft r over may =
    let s = ended_at line place course draft None r may in
    record { front = r.front; shape = s.0; fine = r.fine; ended = s.1; text = whole_line line place course draft None r over; drafts = r.state }

pub reach_fault : (line : List ℕ) (place : ℕ) (course : Course) (draft : Draft) (fault : QueryFault) → Reached line place course draft (Some fault)
    → length line ≤ place → may_end course.stage ≡ true
    → WordsRead line (Err fault)
reach_fault line place course draft fault r over may = by_fault fault r.state
  where
    piece_fault : (P : List Piece → Type 0) → P (pieces_before r.front) → IsPieceFault line P
    piece_fault P h =
        let w = whole_at r.front (ended_at line place course draft (Some fault) r may).0 r.fine (ended_at line place course draft (Some fault) r may).1 in
        record { shape = (ended_at line place course draft (Some fault) r may).0; sound = w.sound; text = ap text_of w.same ∙ whole_line line place course draft (Some fault) r over; fault = subst P (sym w.same) h }

    by_fault : (fault2 : QueryFault) → IsState (Some fault2) draft r.front → WordsRead line (Err fault2)
    by_fault (faults.LongLine l) h = h
    by_fault (faults.Syntax a) h = absurd h
    by_fault (faults.Number a) h = piece_fault (λ ps. IsNumberFault ps a) h
    by_fault (faults.TooManyLists a) h = piece_fault (λ ps. IsNameFault ps a) h
    by_fault (faults.BadTheta p q) h = h
    by_fault (faults.TooManyNodes m) h = h
    by_fault (faults.TooDeep m) h = h
    by_fault (faults.TooBig m) h = h
    by_fault faults.Memory h = absurd h
