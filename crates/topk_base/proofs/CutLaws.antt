-- What a cut of a text means.
use Rattle.std.proofs.Common.{◌≡◌, ◌≢◌, ℕ, ◌+◌, ◌<◌, Bool, true, false, cond, eqb, List, [], ◌∷◌, ◌++◌, length, get_or, take, drop, Option, Some, None, not, nat_lt, ◌≤◌, refl, sym, ap, ◌∙◌, arith, eq-eqb, ne_eqb, eqb-true}
use Rattle.std.specs.List.{All, position, prefix_len}
use Rattle.std.specs.Option.{option_map, MatchOption}
use Rattle.std.proofs.Common.{Bor}
use Rattle.std.proofs.lemmas.List.{take-append-drop, drop_more, get_or-take, length-take, get_or_default}
use Rattle.std.proofs.lemmas.List.Elements.{All-head, All-tail, All-cons, All-nil}
use Rattle.std.proofs.lemmas.List.Quantifiers.{position-Some}
use Rattle.std.proofs.lemmas.Bool.{false≢true, true≢false}
use Rattle.std.proofs.lemmas.Bool.Decides.{nat_tests}
use Rattle.std.proofs.lemmas.List.Sums.{prefix_len_passes}
use Rattle.std.proofs.lemmas.Option.{same_Some}
use Rattle.topk_base.specs.Cuts.{cut_at, rest_after}

-- a text with the byte is cut at the first of it
pub cut_at-append : (byte : ℕ) (front rest : List ℕ) → All (λ b. b ≢ byte) front → cut_at byte (front ++ byte ∷ rest) ≡ Some (front, rest)
cut_at-append byte [] rest apart = rw (eq-eqb byte byte refl) refl
cut_at-append byte (first ∷ front) rest apart =
    rw (ne_eqb first byte (All-head (λ b. b ≢ byte) first front apart), cut_at-append byte front rest (All-tail (λ b. b ≢ byte) first front apart)) refl

-- a text without the byte isn't cut
pub cut_at-none : (byte : ℕ) (text : List ℕ) → All (λ b. b ≢ byte) text → cut_at byte text ≡ None
cut_at-none byte [] apart = refl
cut_at-none byte (first ∷ rest) apart =
    rw (ne_eqb first byte (All-head (λ b. b ≢ byte) first rest apart), cut_at-none byte rest (All-tail (λ b. b ≢ byte) first rest apart)) refl

-- the parts of a cut make the text, and the first has no such byte
pub record IsCut (byte : ℕ) (text front rest : List ℕ) : Type 0 where
  pub whole : text ≡ front ++ byte ∷ rest
  pub apart : All (λ b. b ≢ byte) front

cut_step : (byte first : ℕ) (text front rest : List ℕ) (b : Bool) (o : Option (List ℕ × List ℕ)) → eqb first byte ≡ b
    → ((f r : List ℕ) → o ≡ Some (f, r) → IsCut byte text f r)
    → cond {A = Option (List ℕ × List ℕ)} b (Some ([], text)) (option_map (λ cut. (first ∷ cut.0, cut.1)) o) ≡ Some (front, rest) → IsCut byte (first ∷ text) front rest
cut_step byte first text front rest true o is below h =
    let e : first ≡ byte = eqb-true first byte is in
    let whole : ([], text) ≡ (front, rest) = same_Some _ _ h in
    let f : front ≡ [] = sym (ap (λ (p : List ℕ × List ℕ). p.0) whole) in
    let r : rest ≡ text = sym (ap (λ (p : List ℕ × List ℕ). p.1) whole) in
    rw (f, r, e) record { whole = refl; apart = All-nil (λ b. b ≢ byte) }
cut_step byte first text front rest false None is below h = absurd cc
cut_step byte first text front rest false (Some cut) is below h =
    let whole : (first ∷ cut.0, cut.1) ≡ (front, rest) = same_Some _ _ h in
    let f : front ≡ first ∷ cut.0 = sym (ap (λ (p : List ℕ × List ℕ). p.0) whole) in
    let r : rest ≡ cut.1 = sym (ap (λ (p : List ℕ × List ℕ). p.1) whole) in
    let one = below cut.0 cut.1 refl in
    let ne : first ≢ byte = λ e. false≢true (sym is ∙ eq-eqb first byte e) in
    rw (f, r) record { whole = ap (λ t. first ∷ t) one.whole; apart = All-cons (λ b. b ≢ byte) first cut.0 ne one.apart }

pub cut_at-some : (byte : ℕ) (text front rest : List ℕ) → cut_at byte text ≡ Some (front, rest) → IsCut byte text front rest
cut_at-some byte [] front rest h = absurd cc
cut_at-some byte (first ∷ text) front rest h =
    cut_step byte first text front rest (eqb first byte) (cut_at byte text) refl (λ f r k. cut_at-some byte text f r k) h

-- an uncut text has no such byte
pub lacks_from_none : (byte : ℕ) (text : List ℕ) → cut_at byte text ≡ None → All (λ b. b ≢ byte) text
lacks_from_none byte [] h = All-nil (λ b. b ≢ byte)
lacks_from_none byte (first ∷ text) h =
    none_step byte first text (eqb first byte) (cut_at byte text) refl (λ k. lacks_from_none byte text k) h
  where
    none_step : (byte first : ℕ) (text : List ℕ) (b : Bool) (o : Option (List ℕ × List ℕ)) → eqb first byte ≡ b
        → (o ≡ None → All (λ b. b ≢ byte) text)
        → cond {A = Option (List ℕ × List ℕ)} b (Some ([], text)) (option_map (λ cut. (first ∷ cut.0, cut.1)) o) ≡ None → All (λ b. b ≢ byte) (first ∷ text)
    none_step byte first text true o is below h = absurd cc
    none_step byte first text false (Some cut) is below h = absurd cc
    none_step byte first text false None is below h =
        All-cons (λ b. b ≢ byte) first text (λ e. false≢true (sym is ∙ eq-eqb first byte e)) (below refl)

-- the cut at the place that `position` gives
pub cut_at_place : (byte : ℕ) (text : List ℕ) (place : ℕ) → position (λ b. eqb b byte) text ≡ Some place
    → cut_at byte text ≡ Some (take place text, drop (place + 1) text)
cut_at_place byte text place h =
    let facts = position-Some (λ b. eqb b byte) text place 0 h in
    let within : place < length text = facts.0 in
    let here : get_or text place 0 ≡ byte = eqb-true _ byte facts.1 in
    let whole : take place text ++ byte ∷ drop (place + 1) text ≡ text =
    ap (λ b. take place text ++ b ∷ drop (place + 1) text) (sym here) ∙ ap (λ t. take place text ++ t) (sym (drop_more text place 0 within)) ∙ take-append-drop place text in
    let apart : All (λ b. b ≢ byte) (take place text) = λ k d inside e.
    let l : k < place = omega (arith, length-take place text) in
    false≢true (sym (facts.2 k l) ∙ eq-eqb _ byte (sym (get_or-take place text k 0 l) ∙ (get_or_default (take place text) k 0 d inside ∙ e))) in
    ap (cut_at byte) (sym whole) ∙ cut_at-append byte (take place text) (drop (place + 1) text) apart

-- no cut where `position` gives no place
pub cut_nowhere : (byte : ℕ) (text : List ℕ) → position (λ b. eqb b byte) text ≡ None → cut_at byte text ≡ None
cut_nowhere byte text h =
    let past : length text ≤ prefix_len (λ b. not (eqb b byte)) text = past_from_none _ _ h in
    cut_at-none byte text (λ k d inside e.
    let l : k < prefix_len (λ b. not (eqb b byte)) text = omega arith in
    true≢false (sym (prefix_len_passes (λ b. not (eqb b byte)) text k d l) ∙ ap not (eq-eqb _ byte e)))
  where
    past_from_none : (n m : ℕ) → cond (nat_lt n m) (Some n) None ≡ None → m ≤ n
    past_from_none n m h = grind (arith, nat_tests)

-- a text that begins with a word has the rest after it
pub rest_after-append : (word rest : List ℕ) → rest_after word (word ++ rest) ≡ Some rest
rest_after-append [] rest = refl
rest_after-append (letter ∷ word) rest = rw (eq-eqb letter letter refl) (rest_after-append word rest)

-- and only such a text
pub rest_after-some : (word text rest : List ℕ) → rest_after word text ≡ Some rest → text ≡ word ++ rest
rest_after-some [] text rest h = cc
rest_after-some (letter ∷ word) [] rest h = absurd cc
rest_after-some (letter ∷ word) (first ∷ text) rest h =
    word_step letter first word text rest (eqb letter first) refl (rest_after-some word text rest) h
  where
    word_step : (letter first : ℕ) (word text rest : List ℕ) (b : Bool) → eqb letter first ≡ b
        → (rest_after word text ≡ Some rest → text ≡ word ++ rest)
        → cond b (rest_after word text) None ≡ Some rest → first ∷ text ≡ letter ∷ (word ++ rest)
    word_step letter first word text rest true is below h =
        let e : letter ≡ first = eqb-true letter first is in
        let t : text ≡ word ++ rest = below h in
        cc
    word_step letter first word text rest false is below h = absurd cc

-- what the stripping of a prefix answers is the rest after it
pub rest_after_stripped : (word text : List ℕ) (r : Option (Bor (List ℕ)))
    → MatchOption r ((rest : List ℕ) → text ≢ word ++ rest) (λ x. text ≡ word ++ x.now)
    → option_map (λ x. x.now) r ≡ rest_after word text
rest_after_stripped word text (Some x) h = sym (ap (rest_after word) h ∙ rest_after-append word x.now)
rest_after_stripped word text None h = sym (no_rest (rest_after word text) refl)
  where
    no_rest : (o : Option (List ℕ)) → rest_after word text ≡ o → o ≡ None
    no_rest None e = refl
    no_rest (Some rest) e = absurd (h rest (rest_after-some word text rest e))
