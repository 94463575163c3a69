-- Lines that are admitted, from the last one to the first.
use Rattle.std.proofs.Common.{◌≡◌, ℕ, ◌+◌, ◌<◌, List, [], ◌∷◌, ◌++◌, append_assoc, drop, reverse, get_or, slice_get, length, length-append, Option, Some, None, refl, sym, ap, ◌∙◌, subst, arith}
use Rattle.std.proofs.Math.Seq.{drop-length}
use Rattle.std.proofs.lemmas.Option.{slice_get-get_or}
use Rattle.std.proofs.lemmas.List.{append-nil, drop_more, get_or_push, reverse-append}
use Rattle.topk_theory.proofs.AgreementLists.{get_front}
use Rattle.cert_text.specs.declared.refusal.Refusal.{Refusal}
use Rattle.query_text.specs.declared.query.Query.{Query}
use Rattle.query_admission.specs.Ready.{Ready}
use Rattle.query_admission.specs.View.{View}
use Rattle.query_admission.specs.Causes.{line_over}
use Rattle.query_admission.specs.Admission.{Admits, IsReadAs}
use Rattle.query_admission.specs.declared.reading.ReadLine.{ReadLine}
use Rattle.query_admission.specs.declared.admitted.Admitted.{Admitted}
use Rattle.query_admission.specs.declared.admitted.Admitted.TheVariants as admitted
use Rattle.query_admission.specs.declared.line_outcome.LineOutcome.{LineOutcome}
use Rattle.line_outcome.specs.LineOutcomes.{line_refused}
use Rattle.line_outcome.proofs.Refused.{refused_here}
use Rattle.catalog_open.specs.Wanted.{AreRead}
use Rattle.catalog_open.specs.Admissions.{AreAdmitted}

-- the lines behind those that are left are admitted; what they come to stands in the opposite order
pub record AdmitsFrom (view : View) (read left : List ReadLine) (outcomes : List (Option LineOutcome)) (readies : List Ready) : Type 0 where
  pub done : List ReadLine
  pub all : read ≡ left ++ done
  pub are : (lines : List (List ℕ)) → AreRead lines read
      → AreAdmitted view (length left + 1) (drop (length left) lines) (reverse outcomes) (reverse readies)

pub admits_none : (view : View) (read : List ReadLine) (outcomes : List (Option LineOutcome)) (readies : List Ready) → outcomes ≡ [] → readies ≡ []
    → AdmitsFrom view read read outcomes readies
admits_none view read outcomes readies no_outcomes no_readies = record {
  done = [];
  all = sym (append-nil read);
  are = λ lines is.
      let none : drop (length read) lines ≡ [] = ap (λ n. drop n lines) is.many ∙ drop-length lines in
      subst (λ ls. AreAdmitted view (length read + 1) ls (reverse outcomes) (reverse readies)) (sym none)
      (subst (λ os. AreAdmitted view (length read + 1) [] (reverse os) (reverse readies)) (sym no_outcomes) (ap reverse no_readies));
}

-- how the last of the lines that are left was read; the others behind it are those that are admitted
pub record IsNext (lines : List (List ℕ)) (rest left : List ReadLine) (line : ReadLine) : Type 0 where
  pub bytes : List ℕ
  pub read : IsReadAs (length rest + 1) bytes line
  pub others : drop (length rest) lines ≡ bytes ∷ drop (length left) lines
  pub number : length left + 1 ≡ length rest + 1 + 1

pub next_line : (view : View) (read left rest : List ReadLine) (line : ReadLine) (outcomes : List (Option LineOutcome)) (readies : List Ready)
    (lines : List (List ℕ))
    → AdmitsFrom view read left outcomes readies → left ≡ rest ++ line ∷ [] → AreRead lines read → IsNext lines rest left line
next_line view read left rest line outcomes readies lines from popped is =
    let at = length rest in
    let size : length left ≡ at + 1 = ap length popped ∙ length-append rest (line ∷ []) in
    let many : length read ≡ length left + length from.done = ap length from.all ∙ length-append left from.done in
    let within : at < length lines = omega (arith, size, many, is.many) in
    let inside : at < length left = omega (arith, size) in
    let long : at < length (rest ++ line ∷ []) = omega (arith, length-append rest (line ∷ [])) in
    let last : slice_get (rest ++ line ∷ []) at ≡ Some line =
    slice_get-get_or (rest ++ line ∷ []) at line long ∙ ap Some (get_or_push rest line line at refl) in
    let there : slice_get read at ≡ Some line =
    ap (λ ls. slice_get ls at) from.all ∙ get_front left from.done at inside ∙ ap (λ ls. slice_get ls at) popped ∙ last in
    record {
      bytes = get_or lines at [];
      read = is.each at (get_or lines at []) line (slice_get-get_or lines at [] within) there;
      others = drop_more lines at [] within ∙ ap (λ n. get_or lines at [] ∷ drop n lines) (sym size);
      number = ap (λ n. n + 1) size;
    }

turned : {X : Type 0} (xs now : List X) (x : X) → now ≡ xs ++ x ∷ [] → x ∷ reverse xs ≡ reverse now
turned xs now x pushed = sym (ap reverse pushed ∙ reverse-append xs (x ∷ []))

-- the next line is refused
pub refused_more : (view : View) (read left rest : List ReadLine) (line : ReadLine) (outcomes now : List (Option LineOutcome)) (readies : List Ready)
    (a : Admitted) (refusal : Refusal) (query : Option Query) (o : LineOutcome)
    → AdmitsFrom view read left outcomes readies → left ≡ rest ++ line ∷ []
    → ((number : ℕ) (bytes : List ℕ) → IsReadAs number bytes line → Admits (line_over view number bytes) a)
    → a ≡ admitted.Refused refusal query → o ≡ line_refused refusal query → now ≡ outcomes ++ Some o ∷ []
    → AdmitsFrom view read rest now readies
refused_more view read left rest line outcomes now readies a refusal query o from popped admits at is pushed = record {
  done = line ∷ from.done;
  all = from.all ∙ ap (λ ls. ls ++ from.done) popped ∙ append_assoc rest (line ∷ []) from.done;
  are = λ lines reads.
      let next = next_line view read left rest line outcomes readies lines from popped reads in
      let refused = subst (Admits (line_over view (length rest + 1) next.bytes)) at (admits (length rest + 1) next.bytes next.read) in
      let others = subst (λ n. AreAdmitted view n (drop (length left) lines) (reverse outcomes) (reverse readies)) next.number (from.are lines reads) in
      subst (λ ls. AreAdmitted view (length rest + 1) ls (reverse now) (reverse readies)) (sym next.others)
      (subst (λ os. AreAdmitted view (length rest + 1) (next.bytes ∷ drop (length left) lines) os (reverse readies)) (turned outcomes now (Some o) pushed)
      (refused_here view (length rest + 1) next.bytes o refusal query refused is, others));
}

-- the query of the next line is ready
pub ready_more : (view : View) (read left rest : List ReadLine) (line : ReadLine) (outcomes now : List (Option LineOutcome)) (readies more : List Ready)
    (a : Admitted) (ready : Ready)
    → AdmitsFrom view read left outcomes readies → left ≡ rest ++ line ∷ []
    → ((number : ℕ) (bytes : List ℕ) → IsReadAs number bytes line → Admits (line_over view number bytes) a)
    → a ≡ admitted.Ready ready → now ≡ outcomes ++ None ∷ [] → more ≡ readies ++ ready ∷ []
    → AdmitsFrom view read rest now more
ready_more view read left rest line outcomes now readies more a ready from popped admits at pushed pushed_ready = record {
  done = line ∷ from.done;
  all = from.all ∙ ap (λ ls. ls ++ from.done) popped ∙ append_assoc rest (line ∷ []) from.done;
  are = λ lines reads.
      let next = next_line view read left rest line outcomes readies lines from popped reads in
      let admitted_so = subst (Admits (line_over view (length rest + 1) next.bytes)) at (admits (length rest + 1) next.bytes next.read) in
      let others = subst (λ n. AreAdmitted view n (drop (length left) lines) (reverse outcomes) (reverse readies)) next.number (from.are lines reads) in
      subst (λ ls. AreAdmitted view (length rest + 1) ls (reverse now) (reverse more)) (sym next.others)
      (subst (λ os. AreAdmitted view (length rest + 1) (next.bytes ∷ drop (length left) lines) os (reverse more)) (turned outcomes now None pushed)
      (subst (λ rs. AreAdmitted view (length rest + 1) (next.bytes ∷ drop (length left) lines) (None ∷ reverse outcomes) rs) (turned readies more ready pushed_ready)
      (admitted_so, others)));
}

-- all are admitted
pub admits_all : (view : View) (read left : List ReadLine) (outcomes now : List (Option LineOutcome)) (readies more : List Ready)
    → AdmitsFrom view read left outcomes readies → left ≡ [] → now ≡ reverse outcomes → more ≡ reverse readies → (lines : List (List ℕ)) → AreRead lines read
    → AreAdmitted view 1 lines now more
admits_all view read left outcomes now readies more from none turns turns_readies lines reads =
    subst (λ os. AreAdmitted view 1 lines os more) (sym turns)
    (subst (λ rs. AreAdmitted view 1 lines (reverse outcomes) rs) (sym turns_readies)
    (subst (λ (ls : List ReadLine). AreAdmitted view (length ls + 1) (drop (length ls) lines) (reverse outcomes) (reverse readies)) none (from.are lines reads)))
