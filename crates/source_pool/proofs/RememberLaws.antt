-- Grades that are remembered: none, as the log goes on, and what they decide; what is settled where an ask was graded.
use Rattle.std.proofs.Common.{◌≡◌, ◌<◌, ◌++◌, [], ℕ, Option, Some, None, List, ◌∷◌, All, length, filter_map, get_or, refl, sym, ap, subst, ◌∙◌, arith}
use Rattle.std.specs.List.{slice_set}
use Rattle.std.proofs.lemmas.List.{length_push}
use Rattle.std.proofs.lemmas.List.Elements.{filter_map-append, All-set}
use Rattle.ranked_list.specs.declared.row.Row.{Row}
use Rattle.ranked_list.specs.declared.need.Need.{Need}
use Rattle.ranked_list.specs.declared.need.Need.TheVariants as need
use Rattle.topk_theory.specs.Bounds.{grade_among}
use Rattle.turn_lock.specs.Facts.{IsFrontOf}
use Rattle.source_state.specs.declared.entry.LogEntry.{LogEntry}
use Rattle.source_state.specs.declared.entry.Settling.{Settling}
use Rattle.source_state.specs.declared.entry.Settling.TheVariants.{Graded, Bad, Missed}
use Rattle.source_state.specs.declared.entry.Asked.TheVariants as became
use Rattle.source_state.specs.declared.look.Look.{Look}
use Rattle.source_state.specs.declared.look.Look.TheVariants as look
use Rattle.source_state.specs.Log.{rows_in, first_of, settled_as, settling_in}
use Rattle.source_state.specs.State.{State, asked_as, asked_in, IsSound}
use Rattle.source_state.specs.Looking.{grade_or, decided}
use Rattle.source_state.proofs.Lists.{none_not_some}
use Rattle.source_pool.proofs.SaidLaws.{said_is, asked_settling}
use Rattle.source_pool.specs.declared.remembered.Remembered.{Remembered}
use Rattle.source_pool.specs.Remembering.{nothing, IsSettled, AreSettled, Remembers, IsRecalled, IsHeld}
use Rattle.source_pool.proofs.Fronts.{read_before, read_last}
use Rattle.source_pool.proofs.WindowLaws.{none_there, held_decides}

pub none_settled : (log : List LogEntry) → AreSettled log []
none_settled log = record { each = λ k d l. absurd (omega (arith, l)) }

pub none_remembered : (log : List LogEntry) → Remembers log nothing
none_remembered log = record { rows = none_there (rows_in log); grades = none_settled log }

-- where all are the same, the last one is it, and so are those before it
pub last_same : {X : Type 0} (same : X) (old new : List X) (last : X) → old ≡ new ++ last ∷ [] → All (λ one. one ≡ same) old → last ≡ same
last_same same old new last is all =
    let within : length new < length old = (let size : length old ≡ length (new ++ last ∷ []) = ap length is in let push = length_push new last in omega (arith, size, push)) in
    sym (read_last new last same (length new) refl) ∙ (ap (λ xs. get_or xs (length new) same) (sym is) ∙ all (length new) same within)

pub rest_same : {X : Type 0} (same : X) (old new : List X) (last : X) → old ≡ new ++ last ∷ [] → All (λ one. one ≡ same) old → All (λ one. one ≡ same) new
rest_same same old new last is all = λ k d l.
    let within : k < length old = (let size : length old ≡ length (new ++ last ∷ []) = ap length is in let push = length_push new last in omega (arith, size, push, l)) in
    sym (read_before new last d k l) ∙ (ap (λ xs. get_or xs k d) (sym is) ∙ all k d within)

-- what is settled stays so as the log goes on
first_more : {X : Type 0} (xs ys : List X) (x : X) → first_of xs ≡ Some x → first_of (xs ++ ys) ≡ Some x
first_more [] ys x e = absurd (none_not_some e)
first_more (y ∷ xs) ys x e = e

settling_on : (log more : List LogEntry) (object : ℕ) (settling : Settling) → IsFrontOf log more → settling_in log object ≡ Some settling
    → settling_in more object ≡ Some settling
settling_on log more object settling goes e =
    ap (λ l. settling_in l object) goes.goes_on ∙ ap (first_of {X = Settling}) (filter_map-append (settled_as object) log goes.rest)
    ∙ first_more (filter_map (settled_as object) log) (filter_map (settled_as object) goes.rest) settling e

pub settled_on : (before after : List LogEntry) (grades : List Row) → IsFrontOf before after → AreSettled before grades → AreSettled after grades
settled_on before after grades goes h = record { each = λ k d l some. settling_on before after _ _ goes (h.each k d l some) }

-- one more grade that is settled, in the place of another
pub settled_set : (log : List LogEntry) (items grades : List Row) (place : ℕ) (row : Row) → items ≡ grades → IsSettled log row → AreSettled log grades
    → AreSettled log (slice_set items place row)
settled_set log items grades place row is settled h = record {
  each = All-set (IsSettled log) items place row settled (subst (All (IsSettled log)) (sym is) h.each);
}

-- what is remembered decides a need that it answers
settled_decides : (s : State) (list object grade : ℕ) → IsSound s → settling_in s.log object ≡ Some (Graded grade)
    → decided s (need.Grade list object) ≡ Some (look.Grade grade)
settled_decides s list object grade sound e =
    sym (said_is s (need.Grade list object) sound) ∙ ap (λ o. grade_or object (Some (asked_as o)) (grade_among (rows_in s.log) object)) e

recalled_decides : (s : State) (n : Need) (grades : List Row) (grade : ℕ) → IsSound s → AreSettled s.log grades → IsRecalled grades n grade
    → decided s n ≡ Some (look.Grade grade)
recalled_decides s (need.Row list depth) grades grade sound h recalled = absurd recalled
recalled_decides s (need.Grade list object) grades grade sound h recalled =
    let there = recalled.1 in
    settled_decides s list object grade sound (subst (IsSettled s.log) there.2 (h.each there.0 _ there.1) recalled.0)
recalled_decides s need.Done grades grade sound h recalled = absurd recalled

pub held_answer : (s : State) (n : Need) (remembered : Remembered) (answer : Look) → IsSound s → Remembers s.log remembered → IsHeld remembered n answer
    → decided s n ≡ Some answer
held_answer s n remembered (look.Row row) sound h held = held_decides s n remembered.rows row h.rows held
held_answer s n remembered (look.Grade grade) sound h held = recalled_decides s n remembered.grades grade sound h.grades held
held_answer s n remembered look.NotYet sound h held = absurd held
held_answer s n remembered (look.Fault fault) sound h held = absurd held

-- an ask that was graded settled so
pub graded_settled : (s : State) (object grade : ℕ) → asked_in s object ≡ Some (became.Graded grade) → settling_in s.log object ≡ Some (Graded grade)
graded_settled s object grade e = by_settling (settling_in s.log object) (asked_settling s object (became.Graded grade) e)
  where
    by_settling : (o : Option Settling) → asked_as o ≡ became.Graded grade → o ≡ Some (Graded grade)
    by_settling None e = absurd (cc)
    by_settling (Some (Graded one)) e = let same : one ≡ grade = cc in ap (λ g. Some (Graded g)) same
    by_settling (Some (Bad fault)) e = absurd (cc)
    by_settling (Some Missed) e = absurd (cc)
