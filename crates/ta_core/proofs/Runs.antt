-- A machine that keeps what it keeps makes its run.
use Rattle.std.proofs.Common.{◌≡◌, ◌≢◌, ℕ, ◌<◌, ◌≤◌, inl, inr, true, false, cond, List, [], ◌∷◌, length, Contains, slice_index, refl, sym, ap, subst, ◌∙◌, arith, nat_lt}
use Rattle.std.proofs.lemmas.Bool.{cases_Bool, cases_lt, lt-ltb, le-ltb}
use Rattle.ranked_list.specs.declared.row.Row.{Row}
use Rattle.ranked_list.specs.declared.need.Need.TheVariants.{Row as RowAt, Grade, Done}
use Rattle.machine_base.specs.Held.{Held}
use Rattle.monotone_fn.specs.Value.{value}
use Rattle.monotone_fn.proofs.Laws.{value-monotone}
use Rattle.topk_theory.specs.Transcript.{seen_objects}
use Rattle.topk_theory.specs.Machine.{IsAt, CanServe}
use Rattle.topk_theory.proofs.AgreementLists.{contains_here}
use Rattle.access_log.specs.Log.{AgreesWith}
use Rattle.machine_base.specs.Machine.{IsOfSeen}
use Rattle.machine_base.specs.declared.base.Base.{Base}
use Rattle.machine_base.specs.Base.{shown}
use Rattle.machine_base.proofs.Held.{held_asked}
use Rattle.machine_base.proofs.Makes.{makes_run, at_end}
use Rattle.ta_core.specs.declared.halting.Halting.{Halting}
use Rattle.ta_core.specs.Halting.{Rule, Halt, halting_run, passes_by}
use Rattle.ta_core.proofs.HaltingLaws.{halting_of}
use Rattle.ta_core.specs.Reading.{RowProgress, first_or_zero, need_at}
use Rattle.ta_core.specs.Kept.{Keeps}
use Rattle.ta_core.specs.Machine.{MakesItsRun}
use Rattle.ta_core.proofs.Rules.{rule_run, rule_makes}
use Rattle.ta_core.proofs.NeedSteps.{row_next, grade_needed}
use Rattle.ta_core.proofs.Steps.{row_of_reading, asks_of_reading, made_of_reading}
use Rattle.ta_core.proofs.Sound.{waiting_seen}

-- what is needed, by where the reading is
pub need_in_row : (m : ℕ) (r : RowProgress) → r.done ≡ false → length r.objects < m → need_at m r ≡ RowAt (length r.objects) r.depth
need_in_row m r open' l =
    ap (λ b. cond b Done (cond (nat_lt (length r.objects) m) (RowAt (length r.objects) r.depth) (Grade (length r.grades) (first_or_zero r.waiting)))) open'
    ∙ ap (λ b. cond b (RowAt (length r.objects) r.depth) (Grade (length r.grades) (first_or_zero r.waiting))) (lt-ltb (length r.objects) m l)

pub need_after_row : (m : ℕ) (r : RowProgress) → r.done ≡ false → m ≤ length r.objects → need_at m r ≡ Grade (length r.grades) (first_or_zero r.waiting)
need_after_row m r open' l =
    ap (λ b. cond b Done (cond (nat_lt (length r.objects) m) (RowAt (length r.objects) r.depth) (Grade (length r.grades) (first_or_zero r.waiting)))) open'
    ∙ ap (λ b. cond b (RowAt (length r.objects) r.depth) (Grade (length r.grades) (first_or_zero r.waiting))) (le-ltb (length r.objects) m l)

pub need_when_done : (m : ℕ) (r : RowProgress) → r.done ≡ true → need_at m r ≡ Done
need_when_done m r done =
    ap (λ b. cond b Done (cond (nat_lt (length r.objects) m) (RowAt (length r.objects) r.depth) (Grade (length r.grades) (first_or_zero r.waiting)))) done

pub first_member : (xs : List ℕ) → 0 < length xs → (x : ℕ) × (rest : List ℕ) × (xs ≡ x ∷ rest)
first_member [] l = absurd (omega arith)
first_member (x ∷ rest) l = (x, rest, refl)

needed : (passes : Rule) (base : Base) (board : Held) (r : RowProgress) (D : List (List Row)) → Keeps passes base board r → AgreesWith D base.transcript
    → IsAt (halting_run (value base.expr) (record { k = base.k; passes = passes }) D) base.transcript.accesses (need_at base.transcript.lists r) × CanServe D (need_at base.transcript.lists r)
needed passes base board r D kept agrees =
    let V = value base.expr in
    let halt : Halt = record { k = base.k; passes = passes } in
    let m : ℕ = base.transcript.lists in
    let n : ℕ = base.transcript.count in
    let A = base.transcript.accesses in
    let on = kept.on_table D agrees in
    let asked = halting_of halt n D kept.fit (held_asked base.expr base.k base.room m n A D kept.base agrees) in
    elim (cases_Bool r.done) [
      | inl done ↦
          subst (λ need. IsAt (halting_run V halt D) A need × CanServe D need) (sym (need_when_done m r done))
          (at_end (halting_run V halt D) A D (made_of_reading V halt n D A r done on.reading).run)
      | inr open' ↦ elim (cases_lt (length r.objects) m) [
        | inl short ↦
            subst (λ need. IsAt (halting_run V halt D) A need × CanServe D need) (sym (need_in_row m r open' short))
            (row_next V halt n D A r (value-monotone base.expr) asked (row_of_reading V halt n D A r open' (omega (arith, agrees.lists)) on.reading))
        | inr whole ↦
            let rest = kept.rest.after_row open' whole in
            let first = first_member r.waiting rest.0 in
            let same : first_or_zero r.waiting ≡ first.0 = ap first_or_zero first.2 in
            let other : slice_index r.objects (length r.grades) ≢ first.0 = λ e'. rest.2 (e' ∙ sym same) in
            subst (λ need. IsAt (halting_run V halt D) A need × CanServe D need) (sym (need_after_row m r open' whole ∙ ap (Grade (length r.grades)) same))
            (grade_needed V halt n D A r first.0 first.1 (value-monotone base.expr) asked (asks_of_reading V halt n D A r open' (omega (arith, agrees.lists)) on.reading) first.2 (omega (arith, rest.1, agrees.lists)) other)
      ]
    ]

-- what waits was seen
pub first_is_member : (ws : List ℕ) → 0 < length ws → Contains ws (first_or_zero ws)
first_is_member [] l = absurd (omega arith)
first_is_member (w ∷ ws) l = contains_here w ws

pub first_seen : (passes : Rule) (base : Base) (board : Held) (r : RowProgress) → Keeps passes base board r → 0 < length r.waiting
    → Contains (seen_objects base.transcript.accesses) (first_or_zero r.waiting)
first_seen passes base board r kept waits = waiting_seen base.transcript.lists base.transcript.accesses r (first_or_zero r.waiting) kept.sound (first_is_member r.waiting waits)

tame_need : (passes : Rule) (base : Base) (board : Held) (r : RowProgress) → Keeps passes base board r → IsOfSeen base.transcript (need_at base.transcript.lists r)
tame_need passes base board r kept =
    let m : ℕ = base.transcript.lists in
    elim (cases_Bool r.done) [
      | inl done ↦ subst (IsOfSeen base.transcript) (sym (need_when_done m r done)) tt
      | inr open' ↦ elim (cases_lt (length r.objects) m) [
        | inl short ↦ subst (IsOfSeen base.transcript) (sym (need_in_row m r open' short)) tt
        | inr whole ↦ subst (IsOfSeen base.transcript) (sym (need_after_row m r open' whole)) (first_seen passes base board r kept (kept.rest.after_row open' whole).0)
      ]
    ]

pub kept_makes : (rule : Halting) (base : Base) (board : Held) (r : RowProgress) → Keeps (passes_by rule) base board r
    → MakesItsRun (record { state = shown base (need_at base.transcript.lists r); halting = rule })
kept_makes rule base board r kept =
    let need = need_at base.transcript.lists r in
    rule_makes rule (shown base need)
    (makes_run (rule_run rule) base need kept.base (λ D agrees. needed (passes_by rule) base board r D kept agrees) (tame_need (passes_by rule) base board r kept))

-- the depth is one of the tables', so it is small
pub kept_depth : (passes : Rule) (base : Base) (board : Held) (r : RowProgress) → Keeps passes base board r → r.done ≡ false → r.depth ≤ base.transcript.count
kept_depth passes base board r kept open' =
    let V = value base.expr in
    let halt : Halt = record { k = base.k; passes = passes } in
    let m : ℕ = base.transcript.lists in
    let n : ℕ = base.transcript.count in
    let A = base.transcript.accesses in
    let D = kept.base.agreeing.0 in
    let agrees : AgreesWith D base.transcript = kept.base.agreeing.1 in
    let on = kept.on_table D agrees in
    elim (cases_lt (length r.objects) m) [
      | inl short ↦ (row_of_reading V halt n D A r open' (omega (arith, agrees.lists)) on.reading).at.within
      | inr whole ↦ (asks_of_reading V halt n D A r open' (omega (arith, agrees.lists)) on.reading).at.within
    ]
