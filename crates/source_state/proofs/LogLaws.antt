-- What one more entry makes of a log, and what a log that settles no object twice tells.
use Rattle.std.proofs.Common.{◌≡◌, ◌≢◌, ◌==◌, ◌+◌, inl, inr, ℕ, true, false, cond, Some, None, List, [], ◌∷◌, ◌++◌, length, filter_map, Contains, AllPairs, refl, sym, ap, subst, ◌∙◌, arith, eqb-true}
use Rattle.std.specs.List.{cons_option}
use Rattle.std.proofs.lemmas.Bool.{cases_Bool}
use Rattle.std.proofs.lemmas.List.Elements.{filter_map-append}
use Rattle.topk_theory.proofs.AgreementLists.{contains_here, contains_there, contains_cases, contains_nil, distinct_head, distinct_tail, filter_map_push_some, filter_map_push_none}
use Rattle.ranked_list.specs.declared.row.Row.{Row}
use Rattle.source_state.specs.declared.entry.LogEntry.{LogEntry}
use Rattle.source_state.specs.declared.entry.LogEntry.TheVariants.{Kept, Settled, Fault}
use Rattle.source_state.specs.declared.entry.Settling.{Settling}
use Rattle.source_state.specs.declared.entry.Settling.TheVariants.{Graded, Bad, Missed}
use Rattle.source_state.specs.declared.entry.SourceFault.{SourceFault}
use Rattle.source_state.specs.Log.{first_of, kept_row, rows_in, settled_as, settling_in, settled_object, settled_in, graded_as, graded_row, graded_in, fault_set, faults_in, fault_in}
use Rattle.source_state.proofs.Lists.{none_not_some, eqb_same, eqb_other, no_first}

-- one more row
pub kept_rows : (log : List LogEntry) (row : Row) → rows_in (log ++ Kept row ∷ []) ≡ rows_in log ++ row ∷ []
kept_rows log row = filter_map_push_some kept_row log (Kept row) row refl

pub kept_settling : (log : List LogEntry) (row : Row) (object : ℕ) → settling_in (log ++ Kept row ∷ []) object ≡ settling_in log object
kept_settling log row object = ap first_of (filter_map_push_none (settled_as object) log (Kept row) refl)

pub kept_settled : (log : List LogEntry) (row : Row) → settled_in (log ++ Kept row ∷ []) ≡ settled_in log
kept_settled log row = filter_map_push_none settled_object log (Kept row) refl

pub kept_graded : (log : List LogEntry) (row : Row) → graded_in (log ++ Kept row ∷ []) ≡ graded_in log
kept_graded log row = filter_map_push_none graded_row log (Kept row) refl

pub kept_faults : (log : List LogEntry) (row : Row) → faults_in (log ++ Kept row ∷ []) ≡ faults_in log
kept_faults log row = filter_map_push_none fault_set log (Kept row) refl

-- one more settling
pub settled_rows : (log : List LogEntry) (object : ℕ) (settling : Settling) → rows_in (log ++ Settled object settling ∷ []) ≡ rows_in log
settled_rows log object settling = filter_map_push_none kept_row log (Settled object settling) refl

pub settled_settled : (log : List LogEntry) (object : ℕ) (settling : Settling)
    → settled_in (log ++ Settled object settling ∷ []) ≡ settled_in log ++ object ∷ []
settled_settled log object settling = filter_map_push_some settled_object log (Settled object settling) object refl

pub settled_graded : (log : List LogEntry) (object : ℕ) (settling : Settling)
    → graded_in (log ++ Settled object settling ∷ []) ≡ graded_in log ++ cons_option (graded_as object settling) []
settled_graded log object settling = filter_map-append graded_row log (Settled object settling ∷ [])

pub settled_faults : (log : List LogEntry) (object : ℕ) (settling : Settling) → faults_in (log ++ Settled object settling ∷ []) ≡ faults_in log
settled_faults log object settling = filter_map_push_none fault_set log (Settled object settling) refl

pub settled_other : (log : List LogEntry) (object : ℕ) (settling : Settling) (other : ℕ) → (object ≡ other → ⊥)
    → settling_in (log ++ Settled object settling ∷ []) other ≡ settling_in log other
settled_other log object settling other apart =
    ap first_of (filter_map_push_none (settled_as other) log (Settled object settling) (ap (λ b. cond b (Some settling) None) (eqb_other object other apart)))

pub settled_same : (log : List LogEntry) (object : ℕ) (settling : Settling) → settling_in log object ≡ None
    → settling_in (log ++ Settled object settling ∷ []) object ≡ Some settling
settled_same log object settling e =
    let push : filter_map (settled_as object) (log ++ Settled object settling ∷ []) ≡ filter_map (settled_as object) log ++ settling ∷ [] =
    filter_map_push_some (settled_as object) log (Settled object settling) settling (ap (λ b. cond b (Some settling) None) (eqb_same object)) in
    let none : filter_map (settled_as object) log ≡ [] = no_first (filter_map (settled_as object) log) e in
    ap first_of (push ∙ ap (λ xs. xs ++ settling ∷ []) none)

-- one more row fault
pub fault_rows : (log : List LogEntry) (fault : SourceFault) → rows_in (log ++ Fault fault ∷ []) ≡ rows_in log
fault_rows log fault = filter_map_push_none kept_row log (Fault fault) refl

pub fault_settling : (log : List LogEntry) (fault : SourceFault) (object : ℕ) → settling_in (log ++ Fault fault ∷ []) object ≡ settling_in log object
fault_settling log fault object = ap first_of (filter_map_push_none (settled_as object) log (Fault fault) refl)

pub fault_settled : (log : List LogEntry) (fault : SourceFault) → settled_in (log ++ Fault fault ∷ []) ≡ settled_in log
fault_settled log fault = filter_map_push_none settled_object log (Fault fault) refl

pub fault_graded : (log : List LogEntry) (fault : SourceFault) → graded_in (log ++ Fault fault ∷ []) ≡ graded_in log
fault_graded log fault = filter_map_push_none graded_row log (Fault fault) refl

pub fault_faults : (log : List LogEntry) (fault : SourceFault) → faults_in (log ++ Fault fault ∷ []) ≡ faults_in log ++ fault ∷ []
fault_faults log fault = filter_map_push_some fault_set log (Fault fault) fault refl

pub fault_first : (log : List LogEntry) (fault : SourceFault) → fault_in log ≡ None → fault_in (log ++ Fault fault ∷ []) ≡ Some fault
fault_first log fault e = ap first_of (fault_faults log fault ∙ ap (λ xs. xs ++ fault ∷ []) (no_first (faults_in log) e))

-- a log has a row, a settling or a row fault in each place
pub log_length : (log : List LogEntry) → length log ≡ length (rows_in log) + length (settled_in log) + length (faults_in log)
log_length [] = refl
log_length (Kept row ∷ log) = let ih = log_length log in omega arith
log_length (Settled object settling ∷ log) = let ih = log_length log in omega arith
log_length (Fault fault ∷ log) = let ih = log_length log in omega arith

-- what isn't settled isn't among the settled
settled_head : (object other : ℕ) (settling : Settling) (log : List LogEntry) → settling_in (Settled other settling ∷ log) object ≡ None
    → (object ≡ other → ⊥) × (settling_in log object ≡ None)
settled_head object other settling log e =
    elim (cases_Bool (other == object)) [
      | inl t ↦ let some : Some settling ≡ None = sym (ap (λ b. first_of (cons_option (cond b (Some settling) None) (filter_map (settled_as object) log))) t) ∙ e in absurd (cc)
      | inr f ↦ (
        (λ same. let no : (other == object) ≡ true = subst (λ o. (other == o) ≡ true) (sym same) (eqb_same other) in absurd (let bad : true ≡ false = sym no ∙ f in cc)),
        sym (ap (λ b. first_of (cons_option (cond b (Some settling) None) (filter_map (settled_as object) log))) f) ∙ e,
      )
    ]

pub not_settled : (log : List LogEntry) (object : ℕ) → settling_in log object ≡ None → Contains (settled_in log) object → ⊥
not_settled [] object e c = contains_nil object c
not_settled (Kept row ∷ log) object e c = not_settled log object e c
not_settled (Fault fault ∷ log) object e c = not_settled log object e c
not_settled (Settled other settling ∷ log) object e c =
    let parts = settled_head object other settling log e in
    elim (contains_cases other (settled_in log) object c) [
      | inl same ↦ parts.0 (sym same)
      | inr t ↦ not_settled log object parts.1 t
    ]

-- a good grade of a log is of a settled object
pub graded_settled : (log : List LogEntry) (row : Row) → Contains (graded_in log) row → Contains (settled_in log) row.object
graded_settled [] row c = absurd (contains_nil row c)
graded_settled (Kept kept ∷ log) row c = graded_settled log row c
graded_settled (Fault fault ∷ log) row c = graded_settled log row c
graded_settled (Settled object (Graded grade) ∷ log) row c =
    let first : Row = record { object = object; grade = grade } in
    elim (contains_cases first (graded_in log) row c) [
      | inl same ↦ subst (λ (z : Row). Contains (object ∷ settled_in log) z.object) same (contains_here object (settled_in log))
      | inr t ↦ contains_there object (settled_in log) row.object (graded_settled log row t)
    ]
graded_settled (Settled object (Bad fault) ∷ log) row c = contains_there object (settled_in log) row.object (graded_settled log row c)
graded_settled (Settled object Missed ∷ log) row c = contains_there object (settled_in log) row.object (graded_settled log row c)

-- where no object is settled twice, a good grade is what its object settled as
settling_past : (object other : ℕ) (settling : Settling) (log : List LogEntry) → (other ≡ object → ⊥)
    → settling_in (Settled other settling ∷ log) object ≡ settling_in log object
settling_past object other settling log apart =
    ap (λ b. first_of (cons_option (cond b (Some settling) None) (filter_map (settled_as object) log))) (eqb_other other object apart)

settling_here : (object : ℕ) (settling : Settling) (log : List LogEntry) → settling_in (Settled object settling ∷ log) object ≡ Some settling
settling_here object settling log =
    ap (λ b. first_of (cons_option (cond b (Some settling) None) (filter_map (settled_as object) log))) (eqb_same object)

pub graded_settling : (log : List LogEntry) (row : Row) → AllPairs (λ (one : ℕ) (other : ℕ). one ≢ other) (settled_in log) → Contains (graded_in log) row
    → settling_in log row.object ≡ Some (Graded row.grade)
graded_settling [] row d c = absurd (contains_nil row c)
graded_settling (Kept kept ∷ log) row d c = graded_settling log row d c
graded_settling (Fault fault ∷ log) row d c = graded_settling log row d c
graded_settling (Settled object (Graded grade) ∷ log) row d c =
    let first : Row = record { object = object; grade = grade } in
    elim (contains_cases first (graded_in log) row c) [
      | inl same ↦ subst (λ (z : Row). settling_in (Settled object (Graded grade) ∷ log) z.object ≡ Some (Graded z.grade)) same (settling_here object (Graded grade) log)
      | inr t ↦ settling_past row.object object (Graded grade) log (distinct_head object (settled_in log) row.object d (graded_settled log row t)) ∙ graded_settling log row (distinct_tail object (settled_in log) d) t
    ]
graded_settling (Settled object (Bad fault) ∷ log) row d c =
    settling_past row.object object (Bad fault) log (distinct_head object (settled_in log) row.object d (graded_settled log row c)) ∙ graded_settling log row (distinct_tail object (settled_in log) d) c
graded_settling (Settled object Missed ∷ log) row d c =
    settling_past row.object object Missed log (distinct_head object (settled_in log) row.object d (graded_settled log row c)) ∙ graded_settling log row (distinct_tail object (settled_in log) d) c

-- what an object settled as, where it is a good grade, stands among the good grades
pub settling_graded : (log : List LogEntry) (object grade : ℕ) → settling_in log object ≡ Some (Graded grade)
    → Contains (graded_in log) (record { object = object; grade = grade })
settling_graded [] object grade e = absurd (none_not_some e)
settling_graded (Kept kept ∷ log) object grade e = settling_graded log object grade e
settling_graded (Fault fault ∷ log) object grade e = settling_graded log object grade e
settling_graded (Settled other settling ∷ log) object grade e =
    elim (cases_Bool (other == object)) [
      | inl t ↦
          let first : Some settling ≡ Some (Graded grade) = sym (ap (λ b. first_of (cons_option (cond b (Some settling) None) (filter_map (settled_as object) log))) t) ∙ e in
          here other object settling grade log (eqb-true other object t) (cc)
      | inr f ↦ past settling (settling_graded log object grade (sym (ap (λ b. first_of (cons_option (cond b (Some settling) None) (filter_map (settled_as object) log))) f) ∙ e))
    ]
  where
    here : (other object : ℕ) (settling : Settling) (grade : ℕ) (log : List LogEntry) → other ≡ object → settling ≡ Graded grade
        → Contains (graded_in (Settled other settling ∷ log)) (record { object = object; grade = grade })
    here other object settling grade log same is =
        subst (λ s. Contains (graded_in (Settled other s ∷ log)) (record { object = object; grade = grade })) (sym is)
        (subst (λ o. Contains (graded_in (Settled other (Graded grade) ∷ log)) (record { object = o; grade = grade })) same (contains_here _ (graded_in log)))

    past : (s : Settling) → Contains (graded_in log) (record { object = object; grade = grade })
        → Contains (graded_in (Settled other s ∷ log)) (record { object = object; grade = grade })
    past (Graded g) k = contains_there _ (graded_in log) _ k
    past (Bad fault) k = k
    past Missed k = k

-- an object that a log settles is among the settled
pub settled_there : (log : List LogEntry) (object : ℕ) (settling : Settling) → settling_in log object ≡ Some settling → Contains (settled_in log) object
settled_there [] object settling e = absurd (none_not_some e)
settled_there (Kept row ∷ log) object settling e = settled_there log object settling e
settled_there (Fault fault ∷ log) object settling e = settled_there log object settling e
settled_there (Settled other first ∷ log) object settling e =
    elim (cases_Bool (other == object)) [
      | inl t ↦ subst (λ o. Contains (other ∷ settled_in log) o) (eqb-true other object t) (contains_here other (settled_in log))
      | inr f ↦ contains_there other (settled_in log) object (settled_there log object settling (sym (ap (λ b. first_of (cons_option (cond b (Some first) None) (filter_map (settled_as object) log))) f) ∙ e))
    ]
