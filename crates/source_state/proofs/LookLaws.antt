-- What a look answers is one of its cases, and what is planned is pending or missing.
use Rattle.std.proofs.Common.{◌≡◌, ◌<◌, ◌≤◌, ◌-◌, ◌==◌, ◌&&◌, ◌||◌, inl, inr, ℕ, min, Bool, true, false, cond, not, Option, Some, None, List, [], ◌∷◌, length, is_none, is_some, nat_le, slice_get, Contains, refl, sym, ap, subst, ◌∙◌, arith}
use Rattle.std.specs.List.{find}
use Rattle.std.specs.Option.{option_map}
use Rattle.std.proofs.lemmas.Bool.{cases_Bool, eqb-false, lt-leb}
use Rattle.ranked_list.specs.declared.row.Row.{Row}
use Rattle.ranked_list.specs.declared.need.Need.{Need}
use Rattle.ranked_list.specs.declared.need.Need.TheVariants as need
use Rattle.ranked_list.proofs.OptionLaws.{option_cases}
use Rattle.topk_theory.specs.Bounds.{grade_among}
use Rattle.topk_theory.proofs.AgreementLists.{contains_here, contains_there, contains_map_from}
use Rattle.source_state.specs.declared.ask.Ask.{Ask}
use Rattle.source_state.specs.declared.entry.Settling.{Settling}
use Rattle.source_state.specs.declared.entry.Settling.TheVariants.{Graded, Bad, Missed}
use Rattle.source_state.specs.declared.entry.Asked.{Asked}
use Rattle.source_state.specs.declared.entry.Asked.TheVariants as became
use Rattle.source_api.specs.declared.source.FailKind.{FailKind}
use Rattle.source_state.specs.declared.entry.SourceFault.{SourceFault}
use Rattle.source_state.specs.declared.look.Waiting.{Waiting}
use Rattle.source_state.specs.declared.look.Look.{Look}
use Rattle.source_state.specs.declared.look.Look.TheVariants as look
use Rattle.source_state.specs.declared.look.LookFault.TheVariants as why
use Rattle.source_state.specs.declared.plan.Plan.{Plan}
use Rattle.source_state.specs.declared.plan.Plan.TheVariants as plan
use Rattle.source_state.specs.Log.{rows_in, fault_in}
use Rattle.source_state.specs.Asks.{ask_in, first_due, is_due}
use Rattle.source_state.specs.State.{State, asks_of, asked_in, asked_as, first_pending}
use Rattle.source_state.specs.Looking.{row_or_fault, grade_or, decided, told, state_reach, is_idle, fetched, plan_of, Ends, Looks}
use Rattle.source_state.proofs.Lists.{none_not_some}
use Rattle.source_state.proofs.AskLaws.{ask_is_found}

-- what a log may say of a need
abbrev pub IsSaid : Look → Type 0
IsSaid (look.Row row) = Unit {0}
IsSaid (look.Grade grade) = Unit {0}
IsSaid look.NotYet = ⊥
IsSaid (look.Fault (why.Source fault)) = Unit {0}
IsSaid (look.Fault (why.Missing object)) = Unit {0}
IsSaid (look.Fault (why.AsksFull kept)) = ⊥
IsSaid (look.Fault (why.Call what)) = ⊥

said_same : (one answer : Look) → IsSaid one → Some one ≡ Some answer → IsSaid answer
said_same one answer h e = let same : one ≡ answer = cc in subst IsSaid same h

said_row : (row : Option Row) (fault : Option SourceFault) (answer : Look) → row_or_fault row fault ≡ Some answer → IsSaid answer
said_row (Some row) fault answer e = said_same (look.Row row) answer tt e
said_row None None answer e = absurd (none_not_some e)
said_row None (Some fault) answer e = said_same (look.Fault (why.Source fault)) answer tt e

said_held : (held : Option ℕ) (answer : Look) → option_map look.Grade held ≡ Some answer → IsSaid answer
said_held None answer e = absurd (none_not_some e)
said_held (Some grade) answer e = said_same (look.Grade grade) answer tt e

said_grade : (object : ℕ) (asked : Option Asked) (held : Option ℕ) (answer : Look) → grade_or object asked held ≡ Some answer → IsSaid answer
said_grade object (Some (became.Graded grade)) held answer e = said_same (look.Grade grade) answer tt e
said_grade object (Some (became.Bad fault)) held answer e = said_same (look.Fault (why.Source fault)) answer tt e
said_grade object (Some became.Missed) held answer e = said_same (look.Fault (why.Missing object)) answer tt e
said_grade object (Some became.Pending) held answer e = said_held held answer e
said_grade object None held answer e = said_held held answer e

said : (s : State) (need : Need) (answer : Look) → decided s need ≡ Some answer → IsSaid answer
said s (need.Row list depth) answer e = said_row (slice_get (rows_in s.log) (depth - 1)) (fault_in s.log) answer e
said s (need.Grade list object) answer e = said_grade object (asked_in s object) (grade_among (rows_in s.log) object) answer e
said s need.Done answer e = absurd (none_not_some e)

-- the answers that the log decides, and those that a fail tells
decided_by : (s t : State) (waiting left : Waiting) (need : Need) (answer : Look) → IsSaid answer → decided s need ≡ Some answer → Ends s t waiting left
    → Looks need s t waiting left answer
decided_by s t waiting left need (look.Row row) h e ends = record { decides = e; ends = ends }
decided_by s t waiting left need (look.Grade grade) h e ends = record { decides = e; ends = ends }
decided_by s t waiting left need look.NotYet h e ends = absurd h
decided_by s t waiting left need (look.Fault (why.Source fault)) h e ends = record { decides = e; ends = ends }
decided_by s t waiting left need (look.Fault (why.Missing object)) h e ends = record { decides = e; ends = ends }
decided_by s t waiting left need (look.Fault (why.AsksFull kept)) h e ends = absurd h
decided_by s t waiting left need (look.Fault (why.Call what)) h e ends = absurd h

pub decided_looks : (s t : State) (waiting left : Waiting) (need : Need) (answer : Look) → decided s need ≡ Some answer → Ends s t waiting left
    → Looks need s t waiting left answer
decided_looks s t waiting left need answer e ends = decided_by s t waiting left need answer (said s need answer e) e ends

pub told_looks : (s t : State) (waiting left : Waiting) (need : Need) (what : FailKind) → decided s need ≡ None → told waiting need s.tally ≡ Some what
    → Ends s t waiting left → Looks need s t waiting left (look.Fault (why.Call what))
told_looks s t waiting left need what none e ends = record { undecided = none; tells = e; ends = ends }

-- where no room is lacking an ask may come
pub ask_may : (s : State) (object : ℕ) → length s.asks ≤ s.count → (is_none (asked_in s object) && (length s.asks == s.count)) ≡ false
    → asked_in s object ≡ None → length s.asks < s.count
ask_may s object few room none =
    let apart : (length s.asks == s.count) ≡ false = sym (ap (λ (o : Option Asked). is_none o && (length s.asks == s.count)) none) ∙ room in
    less (length s.asks) s.count few apart
  where
    less : (m n : ℕ) → m ≤ n → (m == n) ≡ false → m < n
    less m n few apart = let differ : m ≡ n → ⊥ = λ e. eqb-false m n apart e in omega arith

-- the first object that is due is pending
find_some : {X : Type 0} (p : X → Bool) (xs : List X) (x : X) → find p xs ≡ Some x → Contains xs x × (p x ≡ true)
find_some p [] x e = absurd (none_not_some e)
find_some p (y ∷ xs) x e =
    elim (cases_Bool (p y)) [
      | inl t ↦
          let first : Some y ≡ Some x = sym (ap (λ b. cond b (Some y) (find p xs)) t) ∙ e in
          let same : y ≡ x = cc in
          (subst (λ z. Contains (y ∷ xs) z) same (contains_here y xs), subst (λ z. p z ≡ true) same t)
      | inr f ↦
          let rest = find_some p xs x (sym (ap (λ b. cond b (Some y) (find p xs)) f) ∙ e) in
          (contains_there y xs x rest.0, rest.1)
    ]

due_unsettled : (held : Bool) (settling : Option Settling) → (not held && is_none settling) ≡ true → settling ≡ None
due_unsettled held None e = refl
due_unsettled true (Some settling) e = absurd (cc)
due_unsettled false (Some settling) e = absurd (cc)

pub pending_is : (s : State) (object : ℕ) → first_pending s ≡ Some object → asked_in s object ≡ Some became.Pending
pending_is s object e =
    elim (option_cases (first_due (asks_of s))) [
      | inl none ↦ absurd (none_not_some (sym (ap (option_map (λ (ask : Ask). ask.object)) none) ∙ e))
      | inr some ↦
          let ask = some.0 in
          let found = find_some is_due (asks_of s) ask some.1 in
          let from = contains_map_from (ask_in s.log) s.asks ask found.0 in
          let is : Some ask.object ≡ Some object = sym (ap (option_map (λ (one : Ask). one.object)) some.1) ∙ e in
          let named : ask.object ≡ object = cc in
          let same : from.0 ≡ object = ap (λ (one : Ask). one.object) from.2 ∙ named in
          let none : ask.settling ≡ None = due_unsettled ask.is_held ask.settling found.1 in
          let there : Contains s.asks object = subst (λ o. Contains s.asks o) same from.1 in
          let settling : (ask_in s.log object).settling ≡ None = subst (λ o. (ask_in s.log o).settling ≡ None) same (ap (λ (one : Ask). one.settling) from.2 ∙ none) in
          ap (option_map (λ (one : Ask). asked_as one.settling)) (ask_is_found s.log s.asks object there) ∙ ap (λ o. Some (asked_as o)) settling
    ]

-- where no ask is due and rows are missing, a page is to be fetched
pub page_is : (s : State) (page ahead from reach count : ℕ) → s.paused ≡ false → first_pending s ≡ None → from ≡ length (rows_in s.log)
    → reach ≡ state_reach s page ahead → is_some (fault_in s.log) ≡ false → from < reach → count ≡ min page (reach - from)
    → plan.Page from count ≡ plan_of s page ahead
page_is s page ahead from reach count going none at to whole short counts =
    let here = length (rows_in s.log) in
    let all = state_reach s page ahead in
    let missing : nat_le all here ≡ false = lt-leb all here (omega arith) in
    let goes : is_idle s page ahead ≡ false =
    ap (λ b. b || (is_none (first_pending s) && (nat_le all here || is_some (fault_in s.log)))) going
    ∙ ap (λ (o : Option ℕ). is_none o && (nat_le all here || is_some (fault_in s.log))) none
    ∙ ap (λ b. b || is_some (fault_in s.log)) missing ∙ whole in
    let planned : plan_of s page ahead ≡ plan.Page here (min page (all - here)) =
    ap (λ b. cond {A = Plan} b plan.Idle (fetched (first_pending s) here (min page (all - here)))) goes
    ∙ ap (λ (o : Option ℕ). fetched o here (min page (all - here))) none in
    let more : count ≡ min page (all - here) = omega arith in
    ap (λ n. plan.Page n count) at ∙ ap (λ n. plan.Page here n) more ∙ sym planned

-- a grade that is answered of what is held is held
pub held_there : (held : Option ℕ) (grade : ℕ) → option_map look.Grade held ≡ Some (look.Grade grade) → held ≡ Some grade
held_there None grade e = absurd (none_not_some e)
held_there (Some one) grade e = let same : one ≡ grade = cc in ap (λ (g : ℕ). Some g) same

-- a row that is answered is there
pub row_there : (o : Option Row) (fault : Option SourceFault) (row : Row) → row_or_fault o fault ≡ Some (look.Row row) → o ≡ Some row
row_there (Some one) fault row e = let same : one ≡ row = cc in ap (λ (r : Row). Some r) same
row_there None None row e = absurd (none_not_some e)
row_there None (Some fault) row e = absurd (cc)

-- where no row is answered none is there, and no fault stands
pub no_row : (o : Option Row) (fault : Option SourceFault) → row_or_fault o fault ≡ None → (o ≡ None) × (fault ≡ None)
no_row (Some row) fault e = absurd (cc)
no_row None None e = (refl, refl)
no_row None (Some fault) e = absurd (cc)

no_held : (held : Option ℕ) → option_map look.Grade held ≡ None → held ≡ None
no_held None e = refl
no_held (Some one) e = absurd (cc)

-- where no grade is answered of an object that was asked, it isn't settled, and no row has it
pub no_grade : (object : ℕ) (o : Option Settling) (held : Option ℕ) → grade_or object (Some (asked_as o)) held ≡ None → (o ≡ None) × (held ≡ None)
no_grade object None held e = (refl, no_held held e)
no_grade object (Some (Graded one)) held e = absurd (cc)
no_grade object (Some (Bad fault)) held e = absurd (cc)
no_grade object (Some Missed) held e = absurd (cc)
