-- What a draft means with one more word, and the first fault.
use Rattle.std.proofs.Common.{◌≡◌, ℕ, ◌<◌, ◌≤◌, true, List, [], ◌∷◌, ◌++◌, length, Option, Some, None, refl, sym, ap, ◌∙◌, subst, arith, append_assoc}
use Rattle.std.specs.Str.{bytes_eq}
use Rattle.query_text.proofs.ListLaws.{names_in-append, once-append, once-extends}
use Rattle.query_text.specs.Pieces.{Piece, text_of, IsInRange, AreInRange, names_in, lists_in, each_once_after, AreFine, IsNumberFault, IsNameFault}
use Rattle.query_text.specs.Words.{opened_by, is_whole}
use Rattle.query_text.specs.Front.{Front, stage_of, class_of, next, pieces_before, operand_piece, IsFine}
use Rattle.query_text.specs.Draft.{names_of, front_of, GoesOn, Takes, Misses, IsOutside}
use Rattle.query_text.specs.Reached.{front_text, Drafts, IsState}
use Rattle.query_text.specs.declared.draft.Draft.{Draft}
use Rattle.query_text.specs.declared.operator.Operator.{Operator}
use Rattle.query_text.specs.declared.fault.QueryFault.{QueryFault}
use Rattle.query_text.specs.declared.fault.QueryFault.TheVariants as faults
use Rattle.query_text.proofs.FrontLaws.{pieces-next, next_piece}
use Rattle.topk_base.specs.declared.TheConstants.{MAX_LISTS}

pub lists_in-push : (ps : List Piece) (p : Piece) → lists_in (ps ++ p ∷ []) ≡ each_once_after bytes_eq (lists_in ps) (names_in (p ∷ []))
lists_in-push ps p = ap (each_once_after bytes_eq []) (names_in-append ps (p ∷ [])) ∙ once-append bytes_eq [] (names_in ps) (names_in (p ∷ []))

AreInRange-push : (ps : List Piece) (p : Piece) → AreInRange ps → IsInRange p → AreInRange (ps ++ p ∷ [])
AreInRange-push [] p h i = (i, tt)
AreInRange-push (q ∷ ps) p h i = (h.0, AreInRange-push ps p h.1 i)

-- the draft means the front with one more word
pub drafts-next : (d new : Draft) (f : Front) (w : List ℕ) → IsFine f → is_whole (class_of f) w ≡ true → Takes (stage_of f) d new w → Drafts d f
    → Drafts new (next f w)
drafts-next d new f w fine whole takes h =
    let more_pieces = pieces-next f w fine whole in
    let p = next_piece f w in
    let lists : names_of new ≡ lists_in (pieces_before f ++ p ∷ []) =
    takes.names ∙ (ap (λ z. each_once_after bytes_eq z (names_in (p ∷ []))) h.names ∙ sym (lists_in-push (pieces_before f) p)) in
    record {
      shows = λ more.
          let e = once-extends bytes_eq (names_of d) (names_in (p ∷ [])) in
          let same : names_of new ++ more ≡ names_of d ++ (e.0 ++ more) = ap (λ z. z ++ more) (takes.names ∙ e.1) ∙ append_assoc (names_of d) e.0 more in
          let is : front_of (names_of new ++ more) (stage_of f) d ≡ f = ap (λ z. front_of z (stage_of f) d) same ∙ h.shows (e.0 ++ more) in
          subst (λ g. GoesOn g (stage_of f) w (names_of new ++ more) new) is (takes.shows more) refl fine whole;
      names = lists ∙ ap lists_in (sym more_pieces);
      fine = record {
        ranges = subst AreInRange (sym more_pieces) (AreInRange-push (pieces_before f) p h.fine.ranges takes.range);
        few = subst (λ z. length z ≤ MAX_LISTS) (lists ∙ ap lists_in (sym more_pieces)) takes.few;
      };
      plain = takes.plain h.plain;
    }

number_fault-push : (ps : List Piece) (p : Piece) (at : ℕ) → IsNumberFault ps at → IsNumberFault (ps ++ p ∷ []) at
number_fault-push ps p at h = record {
  before = h.before;
  least = h.least;
  most = h.most;
  digits = h.digits;
  after = h.after ++ p ∷ [];
  parts = ap (λ z. z ++ p ∷ []) h.parts ∙ append_assoc h.before (Piece.number h.least h.most h.digits ∷ h.after) (p ∷ []);
  place = h.place;
  first = h.first;
  outside = h.outside;
}

name_fault-push : (ps : List Piece) (p : Piece) (at : ℕ) → IsNameFault ps at → IsNameFault (ps ++ p ∷ []) at
name_fault-push ps p at h = record {
  before = h.before;
  text = h.text;
  after = h.after ++ p ∷ [];
  parts = ap (λ z. z ++ p ∷ []) h.parts ∙ append_assoc h.before (Piece.name h.text ∷ h.after) (p ∷ []);
  place = h.place;
  first = h.first;
  more = h.more;
}

-- a fault stays the first
pub fault-next : (d new : Draft) (f : Front) (w : List ℕ) (fault : QueryFault) → IsFine f → is_whole (class_of f) w ≡ true → IsState (Some fault) d f
    → IsState (Some fault) new (next f w)
fault-next d new f w (faults.LongLine l) fine whole h = h
fault-next d new f w (faults.Syntax a) fine whole h = h
fault-next d new f w (faults.Number a) fine whole h = subst (λ ps. IsNumberFault ps a) (sym (pieces-next f w fine whole)) (number_fault-push (pieces_before f) (next_piece f w) a h)
fault-next d new f w (faults.TooManyLists a) fine whole h = subst (λ ps. IsNameFault ps a) (sym (pieces-next f w fine whole)) (name_fault-push (pieces_before f) (next_piece f w) a h)
fault-next d new f w (faults.BadTheta p q) fine whole h = h
fault-next d new f w (faults.TooManyNodes n) fine whole h = h
fault-next d new f w (faults.TooDeep n) fine whole h = h
fault-next d new f w (faults.TooBig n) fine whole h = h
fault-next d new f w faults.Memory fine whole h = h

-- where a number stands a whole word is one
pub record IsNumberPiece (p : Piece) : Type 0 where
  pub least : ℕ
  pub most : ℕ
  pub digits : List ℕ
  pub same : p ≡ Piece.number least most digits
  pub outside : IsInRange (Piece.number least most digits) → ⊥

outside_operand : (w : List ℕ) (o : Option Operator) → IsOutside (operand_piece w o) → ⊥
outside_operand w None h = h
outside_operand w (Some op) h = h

outside_piece : (f : Front) (w : List ℕ) → is_whole (class_of f) w ≡ true → IsOutside (next_piece f w) → IsNumberPiece (next_piece f w)
outside_piece Front.at_top w whole h = absurd h
outside_piece Front.at_count w whole h = record { least = _; most = _; digits = w; same = refl; outside = h whole }
outside_piece (Front.at_by k) w whole h = absurd h
outside_piece (Front.at_operand k fs) w whole h = absurd (outside_operand w (opened_by w) h)
outside_piece (Front.at_behind k fs e) w whole h = absurd h
outside_piece (Front.at_weight k fs) w whole h = record { least = _; most = _; digits = w; same = refl; outside = h whole }
outside_piece (Front.at_times k fs d) w whole h = absurd h
outside_piece (Front.at_algorithm k e) w whole h = absurd h
outside_piece (Front.at_factor k e) w whole h = record { least = _; most = _; digits = w; same = refl; outside = h whole }
outside_piece (Front.at_over k e p) w whole h = absurd h
outside_piece (Front.at_under k e p) w whole h = record { least = _; most = _; digits = w; same = refl; outside = h whole }
outside_piece (Front.at_depth k e) w whole h = record { least = _; most = _; digits = w; same = refl; outside = h whole }
outside_piece (Front.at_options head) w whole h = absurd h
outside_piece (Front.at_sorted head) w whole h = record { least = _; most = _; digits = w; same = refl; outside = h whole }
outside_piece (Front.at_between head d) w whole h = absurd h
outside_piece (Front.at_random head d) w whole h = record { least = _; most = _; digits = w; same = refl; outside = h whole }
outside_piece (Front.at_priced head c) w whole h = absurd h
outside_piece (Front.at_room head c) w whole h = record { least = _; most = _; digits = w; same = refl; outside = h whole }
outside_piece (Front.at_end s) w whole h = absurd h

number_fault-new : (ps : List Piece) (p : Piece) (at : ℕ) → AreFine ps → at ≡ length (text_of ps) → IsNumberPiece p → IsNumberFault (ps ++ p ∷ []) at
number_fault-new ps p at fine place h = record {
  before = ps;
  least = h.least;
  most = h.most;
  digits = h.digits;
  after = [];
  parts = ap (λ z. ps ++ z ∷ []) h.same;
  place = place;
  first = fine;
  outside = h.outside;
}

name_fault-new : (ps : List Piece) (p : Piece) (at : ℕ) → AreFine ps → at ≡ length (text_of ps) → MAX_LISTS < length (lists_in (ps ++ p ∷ []))
    → IsNameFault (ps ++ p ∷ []) at
name_fault-new ps (Piece.fixed t) at fine place h = absurd (omega (arith, fine.few, ap length (lists_in-push ps (Piece.fixed t))))
name_fault-new ps (Piece.number l m d) at fine place h = absurd (omega (arith, fine.few, ap length (lists_in-push ps (Piece.number l m d))))
name_fault-new ps (Piece.name t) at fine place h = record { before = ps; text = t; after = []; parts = refl; place = place; first = fine; more = h }

-- a word that isn't taken is the first fault, unless memory was refused
pub fault-new : (d new : Draft) (f : Front) (w : List ℕ) (at : ℕ) (fault : QueryFault) → IsFine f → is_whole (class_of f) w ≡ true → at ≡ length (front_text f)
    → Drafts d f → Misses (stage_of f) d w at fault → (fault ≡ faults.Memory → ⊥) → IsState (Some fault) new (next f w)
fault-new d new f w at (faults.LongLine l) fine whole place drafts h ne = absurd h
fault-new d new f w at (faults.Syntax a) fine whole place drafts h ne = absurd h
fault-new d new f w at (faults.Number a) fine whole place drafts h ne =
    subst (λ ps. IsNumberFault ps a) (sym (pieces-next f w fine whole))
    (number_fault-new (pieces_before f) (next_piece f w) a drafts.fine (h.0 ∙ place) (outside_piece f w whole h.1))
fault-new d new f w at (faults.TooManyLists a) fine whole place drafts h ne =
    subst (λ ps. IsNameFault ps a) (sym (pieces-next f w fine whole))
    (name_fault-new (pieces_before f) (next_piece f w) a drafts.fine (h.0 ∙ place)
    (subst (λ z. MAX_LISTS < length z) (ap (λ z. each_once_after bytes_eq z (names_in (next_piece f w ∷ []))) drafts.names ∙ sym (lists_in-push (pieces_before f) (next_piece f w))) h.1))
fault-new d new f w at (faults.BadTheta p q) fine whole place drafts h ne = absurd h
fault-new d new f w at (faults.TooManyNodes n) fine whole place drafts h ne = absurd h
fault-new d new f w at (faults.TooDeep n) fine whole place drafts h ne = absurd h
fault-new d new f w at (faults.TooBig n) fine whole place drafts h ne = absurd h
fault-new d new f w at faults.Memory fine whole place drafts h ne = absurd (ne refl)
