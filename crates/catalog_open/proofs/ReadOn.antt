-- Lines that are read, with one line more.
use Rattle.std.proofs.Common.{◌≡◌, ◌⊎◌, ℕ, ◌+◌, ◌<◌, List, [], ◌∷◌, ◌++◌, map, take, get_or, length, length-append, slice_get, inl, inr, None, Some, Bor, refl, sym, ap, ◌∙◌, subst, length-take-le, arith}
use Rattle.std.proofs.lemmas.Bool.{cases_lt}
use Rattle.std.proofs.lemmas.Option.{slice_get-get_or, slice_get_past, slice_get_within, same_Some}
use Rattle.std.proofs.lemmas.List.{get_or_push, length-map, map-append, take_more}
use Rattle.topk_theory.proofs.AgreementLists.{get_front}
use Rattle.query_admission.specs.Admission.{IsReadAs}
use Rattle.query_admission.specs.declared.reading.ReadLine.{ReadLine}
use Rattle.catalog_open.specs.Wanted.{AreRead}

no_line : (at : ℕ) (bytes : List ℕ) → slice_get [] at ≡ Some bytes → ⊥
no_line at bytes e = let none : None ≡ Some bytes = sym (slice_get_past {X = List ℕ} [] at (omega arith)) ∙ e in absurd cc

pub read_none : AreRead [] []
read_none = record { many = refl; each = λ at bytes line here read. absurd (no_line at bytes here) }

-- a member of a list with one member more is one of those before, or the last
pushed_at : {X : Type 0} (xs : List X) (x y : X) (at : ℕ) → slice_get (xs ++ x ∷ []) at ≡ Some y
    → ((at < length xs) × (slice_get xs at ≡ Some y)) ⊎ ((at ≡ length xs) × (x ≡ y))
pushed_at xs x y at e = elim (cases_lt at (length xs)) [
  | inl old ↦ inl (old, sym (get_front xs (x ∷ []) at old) ∙ e)
  | inr last ↦
      let within = slice_get_within (xs ++ x ∷ []) at y e in
      let is : at ≡ length xs = omega (arith, last, within, length-append xs (x ∷ [])) in
      let read : slice_get (xs ++ x ∷ []) at ≡ Some x = slice_get-get_or (xs ++ x ∷ []) at x within ∙ ap Some (get_or_push xs x x at (sym is)) in
      inr (is, same_Some x y (sym read ∙ e))
]

-- one line more is read
pub read_more : (lines : List (List ℕ)) (read : List ReadLine) (bytes : List ℕ) (line : ReadLine) (number : ℕ) → AreRead lines read → number ≡ length lines + 1
    → IsReadAs number bytes line → AreRead (lines ++ bytes ∷ []) (read ++ line ∷ [])
read_more lines read bytes line number are is as_read = record {
  many = length-append read (line ∷ []) ∙ ap (λ n. n + 1) are.many ∙ sym (length-append lines (bytes ∷ []));
  each = λ at b l here there. elim (pushed_at lines bytes b at here) [
    | inl old ↦ elim (pushed_at read line l at there) [
      | inl both ↦ are.each at b l old.1 both.1
      | inr past ↦ absurd (omega (arith, old.0, past.0, are.many))
    ]
    | inr last ↦ elim (pushed_at read line l at there) [
      | inl past ↦ absurd (omega (arith, last.0, past.0, are.many))
      | inr both ↦
          let n : number ≡ at + 1 = omega (arith, is, last.0) in
          subst (λ x. IsReadAs (at + 1) b x) both.1 (subst (λ x. IsReadAs (at + 1) x line) last.1 (subst (λ x. IsReadAs x bytes line) n as_read))
    ]
  ];
}

-- the next of some lines is read
pub read_next : (lines : List (Bor (List ℕ))) (i : ℕ) (d : Bor (List ℕ)) (number : ℕ) (before now : List ReadLine) → number ≡ i → i < length lines
    → AreRead (map (λ line. line.now) (take i lines)) before
    → (line : ReadLine) × IsReadAs (number + 1) (get_or lines i d).now line × (now ≡ before ++ line ∷ [])
    → AreRead (map (λ line. line.now) (take (i + 1) lines)) now
read_next lines i d number before now is within are one =
    let front = map (λ (line : Bor (List ℕ)). line.now) (take i lines) in
    let long : length front ≡ i = length-map (take i lines) (λ (line : Bor (List ℕ)). line.now) ∙ length-take-le i lines (omega (arith, within)) in
    let next : map (λ (line : Bor (List ℕ)). line.now) (take (i + 1) lines) ≡ front ++ (get_or lines i d).now ∷ [] = ap (map (λ (line : Bor (List ℕ)). line.now)) (take_more lines i d within) ∙ map-append (λ (line : Bor (List ℕ)). line.now) (take i lines) (get_or lines i d ∷ []) in
    subst (λ ls. AreRead ls now) (sym next)
    (subst (λ ls. AreRead (front ++ (get_or lines i d).now ∷ []) ls) (sym one.2)
    (read_more front before (get_or lines i d).now one.0 (number + 1) are (omega (arith, is, long)) one.1))
