-- The texts of the outcomes of lines, one after another.
use Rattle.std.proofs.Common.{◌≡◌, Bool, true, false, inl, inr, ℕ, ◌+◌, ◌<◌, List, [], ◌∷◌, ◌++◌, length, take, drop, Option, None, Some, refl, sym, ap, subst, ◌∙◌, arith, append_assoc, append-nil, length-append, Bor}
use Rattle.std.specs.Prelude.{◌⊎◌, if◌then◌else◌, IfSome, slice_index_or}
use Rattle.std.specs.List.{list_all, slice_get}
use Rattle.std.proofs.lemmas.List.{length-take-le, take-append-drop}
use Rattle.std.proofs.lemmas.Option.{slice_get_within, get_or_from_slice_get}
use Rattle.tk_io.specs.Pieces.{Puts, Written}
use Rattle.tk_io.proofs.Putting.{puts_then, puts_as, puts_none}
use Rattle.topk_theory.proofs.AgreementLists.{front_next}
use Rattle.query_admission.specs.declared.line_outcome.LineOutcome.{LineOutcome}
use Rattle.catalog_run.specs.Running.{is_answer, run_status, line_text, outcomes_text}
use Rattle.catalog_run.specs.Texts.{AreTexts}
use Rattle.command_line.specs.declared.status.Status.TheVariants.{Done, Partial}

text_append : (number : ℕ) (xs ys : List LineOutcome) → outcomes_text number (xs ++ ys) ≡ outcomes_text number xs ++ outcomes_text (number + length xs) ys
text_append number [] ys = let e : number ≡ number + 0 = omega arith in ap (λ n. outcomes_text n ys) e
text_append number (o ∷ xs) ys =
    let e : number + 1 + length xs ≡ number + length (o ∷ xs) = omega arith in
    ap (λ t. line_text number o ++ t) (text_append (number + 1) xs ys)
    ∙ sym (append_assoc (line_text number o) (outcomes_text (number + 1) xs) (outcomes_text (number + 1 + length xs) ys))
    ∙ ap (λ n. outcomes_text number (o ∷ xs) ++ outcomes_text n ys) e

-- the text of one outcome more
text_next : (first : ℕ) (xs : List LineOutcome) (i : ℕ) (x : LineOutcome) → slice_get xs i ≡ Some x
    → outcomes_text first (take (i + 1) xs) ≡ outcomes_text first (take i xs) ++ line_text (first + i) x
text_next first xs i x found =
    let within : i < length xs = slice_get_within xs i x found in
    let e : first + length (take i xs) ≡ first + i = omega (arith, length-take-le i xs (omega arith)) in
    ap (outcomes_text first) (sym (front_next xs i x found))
    ∙ text_append first (take i xs) (x ∷ [])
    ∙ ap (λ n. outcomes_text first (take i xs) ++ outcomes_text n (x ∷ [])) e
    ∙ ap (λ t. outcomes_text first (take i xs) ++ t) (append-nil (line_text (first + i) x))

-- the outcome of one line more was put
pub puts_line : (first : ℕ) (xs : List LineOutcome) (i : ℕ) (x : LineOutcome) (before mid now : Written) → slice_get xs i ≡ Some x
    → Puts before mid (outcomes_text first (take i xs)) → Puts mid now (line_text (first + i) x)
    → Puts before now (outcomes_text first (take (i + 1) xs))
puts_line first xs i x before mid now found one two =
    puts_as before now _ _ (text_next first xs i x found)
    (puts_then before mid now (outcomes_text first (take i xs)) (line_text (first + i) x) one two)

-- the outcomes of lines were put but for those of the rest, which go on with this number
pub record PutsFront (before now : Written) (lines rest : List LineOutcome) (number : ℕ) : Type 0 where
  pub text : List ℕ
  pub put : Puts before now text
  pub whole : outcomes_text 1 lines ≡ text ++ outcomes_text number rest
  pub numbers : number + length rest ≡ 1 + length lines

pub front_none : (now : Written) (lines : List LineOutcome) → PutsFront now now lines lines 1
front_none now lines = record { text = []; put = puts_none now; whole = refl; numbers = refl }

pub front_more : (before mid now : Written) (lines rest one others : List LineOutcome) (number count : ℕ) → one ≡ take count rest → others ≡ drop count rest
    → PutsFront before mid lines rest number → Puts mid now (outcomes_text number one) → PutsFront before now lines others (number + length one)
front_more before mid now lines rest one others number count is back front more =
    let halves : one ++ others ≡ rest = ap (λ x. x ++ others) is ∙ ap (λ y. take count rest ++ y) back ∙ take-append-drop count rest in
    let e : outcomes_text number rest ≡ outcomes_text number one ++ outcomes_text (number + length one) others =
    ap (outcomes_text number) (sym halves) ∙ text_append number one others in
    let both : length one + length others ≡ length rest = sym (length-append one others) ∙ ap length halves in
    record {
      text = front.text ++ outcomes_text number one;
      put = puts_then before mid now front.text (outcomes_text number one) front.put more;
      whole = front.whole ∙ ap (λ t. front.text ++ t) e ∙ sym (append_assoc front.text (outcomes_text number one) (outcomes_text (number + length one) others));
      numbers = omega (arith, both, front.numbers);
    }

pub front_whole : (before now : Written) (lines rest : List LineOutcome) (number : ℕ) → length rest ≡ 0 → PutsFront before now lines rest number
    → Puts before now (outcomes_text 1 lines)
front_whole before now lines [] number none front =
    puts_as before now _ _ (front.whole ∙ append-nil front.text) front.put
front_whole before now lines (o ∷ rest) number none front = absurd (omega (arith, none))

-- a text that was made is that of its line
pub made_some : (first place : ℕ) (outcomes : List LineOutcome) (texts : List (Option (List ℕ))) (line : LineOutcome) (text : Option (Bor (List ℕ)))
    → AreTexts first outcomes texts → slice_get outcomes place ≡ Some line → IfSome text (λ t. slice_get texts place ≡ Some (Some t.now))
    → IfSome text (λ t. t.now ≡ line_text (first + place) line)
made_some first place outcomes texts line None are found made = tt
made_some first place outcomes texts line (Some t) are found made = are place line t.now found made

-- texts that are those of the lines at their places
pub texts_are : (first : ℕ) (outcomes : List LineOutcome) (size : ℕ) (texts : List (Option (List ℕ))) → length texts ≡ size
    → ((i : ℕ) (d : Option (List ℕ)) → i < size → (line : LineOutcome) → slice_get outcomes i ≡ Some line
    → IfSome (slice_index_or texts i d) (λ made. made ≡ line_text (first + i) line))
    → AreTexts first outcomes texts
texts_are first outcomes size texts long each place line text found made =
    let within : place < size = omega (arith, slice_get_within texts place (Some text) made, long) in
    subst (λ t. IfSome t (λ m. m ≡ line_text (first + place) line)) (get_or_from_slice_get texts place (Some text) (Some text) made)
    (each place (Some text) within line found)

-- the status of outcomes is Done or Partial
pub is_run_status : (outcomes : List LineOutcome) → (run_status outcomes ≡ Done) ⊎ (run_status outcomes ≡ Partial)
is_run_status outcomes = go (list_all (λ o. is_answer o.outcome) outcomes)
  where
    go : (b : Bool) → ((if b then Done else Partial) ≡ Done) ⊎ ((if b then Done else Partial) ≡ Partial)
    go true = inl refl
    go false = inr refl
