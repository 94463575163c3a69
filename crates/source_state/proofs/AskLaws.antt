-- How the asks stand after one more entry.
use Rattle.std.proofs.Common.{◌≡◌, ◌==◌, ◌⊎◌, inl, inr, ℕ, Bool, true, false, cond, Option, Some, None, List, [], ◌∷◌, ◌++◌, map, is_some, Contains, refl, sym, ap, subst, ◌∙◌, eqb-true}
use Rattle.std.specs.Option.{option_map}
use Rattle.std.proofs.lemmas.Bool.{cases_Bool}
use Rattle.std.proofs.lemmas.Option.{same_Some}
use Rattle.ranked_list.specs.declared.row.Row.{Row}
use Rattle.ranked_list.proofs.OptionLaws.{option_cases}
use Rattle.topk_theory.specs.Bounds.{grade_among}
use Rattle.topk_theory.proofs.AgreementRows.{grade_among_append_some, grade_among_append_none}
use Rattle.topk_theory.proofs.AgreementLists.{contains_here, contains_there, contains_cases, contains_nil}
use Rattle.topk_theory.proofs.ThresholdLists.{map_map, map_same}
use Rattle.source_state.specs.declared.ask.Ask.{Ask}
use Rattle.source_state.specs.declared.entry.LogEntry.{LogEntry}
use Rattle.source_state.specs.declared.entry.LogEntry.TheVariants.{Kept, Settled, Fault}
use Rattle.source_state.specs.declared.entry.Settling.{Settling}
use Rattle.source_state.specs.declared.entry.Settling.TheVariants.{Graded, Bad, Missed}
use Rattle.source_state.specs.declared.entry.Asked.TheVariants as became
use Rattle.source_state.specs.declared.entry.SourceFault.{SourceFault}
use Rattle.source_state.specs.Log.{rows_in, settling_in}
use Rattle.source_state.specs.Asks.{ask_in, ask_of, good_grade, change, settled_asks, held_asks}
use Rattle.source_state.specs.State.{State, asks_of, asked_in, asked_as}
use Rattle.source_state.proofs.Lists.{eqb_same, eqb_other, none_not_some}
use Rattle.source_state.proofs.LogLaws.{kept_rows, kept_settling, settled_rows, settled_other, settled_same, fault_rows, fault_settling}

-- an ask by its parts
ask_is : (object : ℕ) (one other : Option Settling) (held kept : Bool) → one ≡ other → held ≡ kept
    → (let a : Ask = record { object = object; settling = one; is_held = held } in let b : Ask = record { object = object; settling = other; is_held = kept } in a ≡ b)
ask_is object one other held kept e f =
    ap (λ settling. let ask : Ask = record { object = object; settling = settling; is_held = held } in ask) e
    ∙ ap (λ is_held. let ask : Ask = record { object = object; settling = other; is_held = is_held } in ask) f

-- one more row holds its object, and no other
pub grade_other : (rows : List Row) (row : Row) (object : ℕ) → (row.object ≡ object → ⊥) → grade_among (rows ++ row ∷ []) object ≡ grade_among rows object
grade_other rows row object apart =
    elim (option_cases (grade_among rows object)) [
      | inl none ↦ grade_among_append_none rows (row ∷ []) object none ∙ ap (λ b. cond b (Some row.grade) None) (eqb_other row.object object apart) ∙ sym none
      | inr some ↦ grade_among_append_some rows (row ∷ []) object some.0 some.1 ∙ sym some.1
    ]

grade_held : (rows : List Row) (row : Row) → is_some (grade_among (rows ++ row ∷ []) row.object) ≡ true
grade_held rows row =
    elim (option_cases (grade_among rows row.object)) [
      | inl none ↦ ap is_some (grade_among_append_none rows (row ∷ []) row.object none ∙ ap (λ b. cond b (Some row.grade) None) (eqb_same row.object))
      | inr some ↦ ap is_some (grade_among_append_some rows (row ∷ []) row.object some.0 some.1)
    ]

-- a change of an ask, where it is of the object and where it isn't
pub changed : (object : ℕ) (turn : Ask → Ask) (ask : Ask) → object ≡ ask.object → change object turn ask ≡ turn ask
changed object turn ask same = ap (λ b. cond b (turn ask) ask) (subst (λ o. (object == o) ≡ true) same (eqb_same object))

pub unchanged : (object : ℕ) (turn : Ask → Ask) (ask : Ask) → (object ≡ ask.object → ⊥) → change object turn ask ≡ ask
unchanged object turn ask apart = ap (λ b. cond b (turn ask) ask) (eqb_other object ask.object apart)

pub equal_or_not : (m n : ℕ) → (m ≡ n) ⊎ (m ≡ n → ⊥)
equal_or_not m n = elim (cases_Bool (m == n)) [
  | inl t ↦ inl (eqb-true m n t)
  | inr f ↦ inr (λ e. let t : (m == n) ≡ true = subst (λ k. (m == k) ≡ true) e (eqb_same m) in let bad : true ≡ false = sym t ∙ f in absurd (cc))
]

held_after : (log : List LogEntry) (row : Row) (object : ℕ)
    → change row.object (λ ask. record ask { is_held = true }) (ask_in log object) ≡ ask_in (log ++ Kept row ∷ []) object
held_after log row object =
    elim (equal_or_not row.object object) [
      | inl same ↦ changed row.object (λ ask. record ask { is_held = true }) (ask_in log object) same
          ∙ ask_is object _ _ _ _ (sym (kept_settling log row object))
          (sym (ap (λ rows. is_some (grade_among rows object)) (kept_rows log row) ∙ subst (λ o. is_some (grade_among (rows_in log ++ row ∷ []) o) ≡ true) same (grade_held (rows_in log) row)))
      | inr apart ↦ unchanged row.object (λ ask. record ask { is_held = true }) (ask_in log object) apart
          ∙ ask_is object _ _ _ _ (sym (kept_settling log row object))
          (sym (ap (λ rows. is_some (grade_among rows object)) (kept_rows log row) ∙ ap is_some (grade_other (rows_in log) row object apart)))
    ]

pub asks_kept : (log : List LogEntry) (row : Row) (objects : List ℕ)
    → held_asks row.object (map (ask_in log) objects) ≡ map (ask_in (log ++ Kept row ∷ [])) objects
asks_kept log row objects = map_map (change row.object (λ ask. record ask { is_held = true })) (ask_in log) objects ∙ map_same _ _ objects (λ object c. held_after log row object)

settled_after : (log : List LogEntry) (object : ℕ) (settling : Settling) → settling_in log object ≡ None → (other : ℕ)
    → change object (λ ask. record ask { settling = Some settling }) (ask_in log other) ≡ ask_in (log ++ Settled object settling ∷ []) other
settled_after log object settling none other =
    elim (equal_or_not object other) [
      | inl same ↦ changed object (λ ask. record ask { settling = Some settling }) (ask_in log other) same
          ∙ ask_is other _ _ _ _ (sym (subst (λ o. settling_in (log ++ Settled object settling ∷ []) o ≡ Some settling) same (settled_same log object settling none)))
          (sym (ap (λ rows. is_some (grade_among rows other)) (settled_rows log object settling)))
      | inr apart ↦ unchanged object (λ ask. record ask { settling = Some settling }) (ask_in log other) apart
          ∙ ask_is other _ _ _ _ (sym (settled_other log object settling other apart))
          (sym (ap (λ rows. is_some (grade_among rows other)) (settled_rows log object settling)))
    ]

pub asks_settled : (log : List LogEntry) (object : ℕ) (settling : Settling) (objects : List ℕ) → settling_in log object ≡ None
    → settled_asks object settling (map (ask_in log) objects) ≡ map (ask_in (log ++ Settled object settling ∷ [])) objects
asks_settled log object settling objects none = map_map (change object (λ ask. record ask { settling = Some settling })) (ask_in log) objects ∙ map_same _ _ objects (λ other c. settled_after log object settling none other)

pub asks_fault : (log : List LogEntry) (fault : SourceFault) (objects : List ℕ) → map (ask_in log) objects ≡ map (ask_in (log ++ Fault fault ∷ [])) objects
asks_fault log fault objects =
    map_same _ _ objects (λ object c. ask_is object _ _ _ _ (sym (fault_settling log fault object)) (sym (ap (λ rows. is_some (grade_among rows object)) (fault_rows log fault))))

-- the objects of asks don't change
pub objects_of_asks : (log : List LogEntry) (objects : List ℕ) → map (λ (ask : Ask). ask.object) (map (ask_in log) objects) ≡ objects
objects_of_asks log [] = refl
objects_of_asks log (object ∷ objects) = ap (λ os. object ∷ os) (objects_of_asks log objects)

-- an ask that is found is of an asked object, as it stands
pub ask_found : (log : List LogEntry) (objects : List ℕ) (object : ℕ) (ask : Ask) → ask_of (map (ask_in log) objects) object ≡ Some ask
    → Contains objects object × (ask ≡ ask_in log object)
ask_found log [] object ask e = absurd (none_not_some e)
ask_found log (other ∷ objects) object ask e =
    elim (equal_or_not object other) [
      | inl same ↦
          let t : (object == other) ≡ true = subst (λ o. (object == o) ≡ true) same (eqb_same object) in
          let found : Some (ask_in log other) ≡ Some ask = sym (ap (λ b. cond b (Some (ask_in log other)) (ask_of (map (ask_in log) objects) object)) t) ∙ e in
          let is : ask_in log other ≡ ask = same_Some _ _ found in
          (subst (λ o. Contains (other ∷ objects) o) (sym same) (contains_here other objects), sym is ∙ ap (ask_in log) (sym same))
      | inr apart ↦
          let rest : ask_of (map (ask_in log) objects) object ≡ Some ask = sym (ap (λ b. cond b (Some (ask_in log other)) (ask_of (map (ask_in log) objects) object)) (eqb_other object other apart)) ∙ e in
          let r = ask_found log objects object ask rest in (contains_there other objects object r.0, r.1)
    ]

pub ask_is_found : (log : List LogEntry) (objects : List ℕ) (object : ℕ) → Contains objects object
    → ask_of (map (ask_in log) objects) object ≡ Some (ask_in log object)
ask_is_found log [] object c = absurd (contains_nil object c)
ask_is_found log (other ∷ objects) object c =
    elim (equal_or_not object other) [
      | inl same ↦
          ap (λ b. cond b (Some (ask_in log other)) (ask_of (map (ask_in log) objects) object)) (subst (λ o. (object == o) ≡ true) same (eqb_same object))
          ∙ ap (λ o. Some (ask_in log o)) (sym same)
      | inr apart ↦
          ap (λ b. cond b (Some (ask_in log other)) (ask_of (map (ask_in log) objects) object)) (eqb_other object other apart)
          ∙ ask_is_found log objects object (elim (contains_cases other objects object c) [ inl e ↦ absurd (apart (sym e)) | inr t ↦ t ])
    ]

pub ask_missing : (log : List LogEntry) (objects : List ℕ) (object : ℕ) → ask_of (map (ask_in log) objects) object ≡ None → Contains objects object → ⊥
ask_missing log objects object e c = none_not_some (sym e ∙ ask_is_found log objects object c)

-- a pending ask is of an asked object that isn't settled
pub pending_none : (settling : Option Settling) → asked_as settling ≡ became.Pending → settling ≡ None
pending_none None e = refl
pending_none (Some (Graded grade)) e = absurd (cc)
pending_none (Some (Bad fault)) e = absurd (cc)
pending_none (Some Missed) e = absurd (cc)

pub pending_parts : (s : State) (object : ℕ) → asked_in s object ≡ Some became.Pending → Contains s.asks object × (settling_in s.log object ≡ None)
pending_parts s object e =
    elim (option_cases (ask_of (asks_of s) object)) [
      | inl none ↦ absurd (none_not_some (sym (ap (option_map (λ (ask : Ask). asked_as ask.settling)) none) ∙ e))
      | inr some ↦
          let found = ask_found s.log s.asks object some.0 some.1 in
          let is : Some (asked_as some.0.settling) ≡ Some became.Pending = sym (ap (option_map (λ (ask : Ask). asked_as ask.settling)) some.1) ∙ e in
          let settling : some.0.settling ≡ None = pending_none some.0.settling (same_Some _ _ is) in
          (found.0, sym (ap (λ (ask : Ask). ask.settling) found.1) ∙ settling)
    ]

pub not_asked : (s : State) (object : ℕ) → ask_of (asks_of s) object ≡ None → asked_in s object ≡ None
not_asked s object e = ap (option_map (λ (ask : Ask). asked_as ask.settling)) e

-- a good grade is one that was settled so
pub good_settled : (settled : Option Settling) (grade : ℕ) → good_grade settled ≡ Some grade → settled ≡ Some (Graded grade)
good_settled None grade e = absurd (none_not_some e)
good_settled (Some (Graded other)) grade e = let same : other ≡ grade = same_Some _ _ e in ap (λ g. Some (Graded g)) same
good_settled (Some (Bad fault)) grade e = absurd (none_not_some e)
good_settled (Some Missed) grade e = absurd (none_not_some e)
