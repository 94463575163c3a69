-- A machine that keeps what it keeps makes its run.
use Rattle.std.proofs.Common.{◌≡◌, ◌≢◌, ℕ, ◌-◌, ◌<◌, List, ◌++◌, length, Option, Some, None, refl, sym, ap, subst, ◌∙◌, arith}
use Rattle.std.specs.List.{slice_get}
use Rattle.std.proofs.lemmas.Option.{slice_get_within}
use Rattle.std.proofs.lemmas.List.{take-append-le}
use Rattle.ranked_list.specs.declared.row.Row.{Row}
use Rattle.ranked_list.specs.declared.item.Item.{Item}
use Rattle.ranked_list.specs.declared.need.Need.{Need}
use Rattle.ranked_list.specs.declared.need.Need.TheVariants as needs
use Rattle.ranked_list.specs.Table.{grade_in}
use Rattle.monotone_fn.specs.Value.{value, IsMonotone}
use Rattle.monotone_fn.proofs.Laws.{value-monotone}
use Rattle.topk_theory.specs.declared.access.Access.{Access}
use Rattle.topk_theory.specs.declared.access.Access.TheVariants.{Random}
use Rattle.topk_theory.specs.Asked.{combined_run}
use Rattle.topk_theory.specs.Transcript.{Agrees, list_at}
use Rattle.topk_theory.specs.Threshold.{IsAsked as IsAskedOf, sorted_block, item_objects}
use Rattle.topk_theory.specs.Combined.{phase_length, phase_after, finish, ca_run_to, ca_depth, ca_blocks, ca_run}
use Rattle.topk_theory.specs.Machine.{need_of, IsAt, CanServe}
use Rattle.topk_theory.proofs.AgreementLists.{get_front}
use Rattle.access_log.specs.Log.{Log, AgreesWith}
use Rattle.machine_base.specs.Machine.{IsOfSeen}
use Rattle.machine_base.specs.declared.base.Base.{Base}
use Rattle.machine_base.specs.Base.{shown}
use Rattle.machine_base.specs.declared.asking.Ask.{Ask}
use Rattle.machine_base.specs.Asking.{next_unknown, IsAskedFor, IsAsking}
use Rattle.machine_base.proofs.Asks.{missing_begins, asks_begin, ask_served}
use Rattle.machine_base.proofs.Held.{held_asked}
use Rattle.machine_base.proofs.Makes.{makes_run, at_access, at_end}
use Rattle.machine_base.proofs.Depths.{at_on_path}
use Rattle.machine_base.proofs.Rows.{row_needed}
use Rattle.ca_core.specs.declared.stage.Stage.{Stage}
use Rattle.ca_core.specs.declared.stage.Stage.TheVariants as stages
use Rattle.ca_core.specs.Course.{need_at}
use Rattle.ca_core.specs.OnTable.{quiet_at, OnRow, OnChoice, OnFinish}
use Rattle.ca_core.specs.Kept.{IsSound, Keeps}
use Rattle.ca_core.specs.Machine.{MakesItsRun}
use Rattle.ca_core.proofs.Path.{reads_rows, block_of, grows, own, row_end}

-- ---- a run that goes on
at_longer : (run rest A : List Access) (need : Need) → need ≢ needs.Done → IsAt run A need → IsAt (run ++ rest) A need
at_longer run rest A need open' at = by_next (slice_get run (length A)) refl
  where
    by_next : (next : Option Access) → slice_get run (length A) ≡ next → IsAt (run ++ rest) A need
    by_next None e = absurd (open' (at.next ∙ ap (need_of A) e))
    by_next (Some next) e =
        let lt : length A < length run = slice_get_within run (length A) next e in
        record {
          begins = take-append-le (length A) run rest (omega arith) ∙ at.begins;
          next = at.next ∙ ap (need_of A) (sym (get_front run rest (length A) lt));
        }

-- ---- what is needed
row_is_open : (list depth : ℕ) → needs.Row list depth ≢ needs.Done
row_is_open list depth e = cc

grade_is_open : (list object : ℕ) → needs.Grade list object ≢ needs.Done
grade_is_open list object e = cc

row_next : (V : List ℕ → ℕ) (k phase n : ℕ) (D : List (List Row)) (A : List Access) (list depth : ℕ) → IsMonotone V → IsAskedOf k n D → list < length D
    → OnRow V k phase n D A list depth → IsAt (ca_run V k phase D) A (needs.Row list depth) × CanServe D (needs.Row list depth)
row_next V k phase n D A list depth monotone asked l on =
    let row : List Access = ca_run_to V k phase D (depth - 1) ++ sorted_block 0 depth D in
    let r = row_needed (ca_run_to V k phase D) (block_of V k phase D) (quiet_at V k phase D) n (ca_depth V k phase D) D depth list A (phase_after V k phase depth D row) (grows V k phase D) (reads_rows V k phase n D asked.table) asked.table
    (own V k phase n D monotone asked) on.at l on.made (row_end V k phase depth D row on.at.positive refl) in
    (at_longer (ca_blocks V k phase D) (finish V k D (ca_blocks V k phase D)) A (needs.Row list depth) (row_is_open list depth) r.0, r.1)

choice_next : (V : List ℕ → ℕ) (k phase n : ℕ) (D : List (List Row)) (A : List Access) (list object depth : ℕ) → IsMonotone V → IsAskedOf k n D
    → next_unknown (length D) A object ≡ Some list → OnChoice V k phase n D A object depth → IsAt (ca_run V k phase D) A (needs.Grade list object)
choice_next V k phase n D A list object depth monotone asked next on =
    let r = missing_begins D A list object next in
    at_longer (ca_blocks V k phase D) (finish V k D (ca_blocks V k phase D)) A (needs.Grade list object) (grade_is_open list object)
    (at_on_path (ca_run_to V k phase D) (block_of V k phase D) (quiet_at V k phase D) n (ca_depth V k phase D) depth A (Random list object (grade_in (list_at D list) object)) r.0 (grows V k phase D) (own V k phase n D monotone asked) on.at (ap (λ xs. A ++ xs) (sym r.1) ∙ on.made))

finish_next : (V : List ℕ → ℕ) (k phase m n : ℕ) (D : List (List Row)) (A : List Access) (objects : List ℕ) (ask : Ask) → IsAsking m A objects ask
    → Agrees m n D A → OnFinish V k phase D A objects ask.place → IsAt (ca_run V k phase D) A (needs.Grade ask.list ask.object)
finish_next V k phase m n D A objects ask is agrees on =
    let r = asks_begin m n D A objects ask is agrees in
    at_access (ca_run V k phase D) A (Random ask.list ask.object (grade_in (list_at D ask.list) ask.object)) r.0 (sym on.made ∙ ap (λ xs. A ++ xs) r.1)

needed : (base : Base) (phase : ℕ) (first : List Item) (stage : Stage) (D : List (List Row)) → Keeps base phase first stage → AgreesWith D base.transcript
    → IsAt (ca_run (value base.expr) base.k phase D) base.transcript.accesses (need_at stage) × CanServe D (need_at stage)
needed base phase first (stages.Row list depth) D kept agrees =
    row_next (value base.expr) base.k phase base.transcript.count D base.transcript.accesses list depth (value-monotone base.expr) (held_asked base.expr base.k base.room base.transcript.lists base.transcript.count base.transcript.accesses D kept.base agrees)
    (let below = kept.sound.0 in let same = agrees.lists in omega arith) (kept.on_table D agrees)
needed base phase first (stages.Choice list object depth) D kept agrees =
    let asked : IsAskedFor base.transcript.lists base.transcript.accesses object list = kept.sound.0 in
    let next : next_unknown (length D) base.transcript.accesses object ≡ Some list = subst (λ c. next_unknown c base.transcript.accesses object ≡ Some list) (sym agrees.lists) asked.next in (
      choice_next (value base.expr) base.k phase base.transcript.count D base.transcript.accesses list object depth (value-monotone base.expr) (held_asked base.expr base.k base.room base.transcript.lists base.transcript.count base.transcript.accesses D kept.base agrees) next (kept.on_table D agrees),
      ask_served base.transcript.lists base.transcript.count D base.transcript.accesses object list asked agrees,
    )
needed base phase first (stages.Finish ask) D kept agrees = (
  finish_next (value base.expr) base.k phase base.transcript.lists base.transcript.count D base.transcript.accesses (item_objects first) ask kept.sound agrees (kept.on_table D agrees),
  ask_served base.transcript.lists base.transcript.count D base.transcript.accesses ask.object ask.list kept.sound.asked agrees,
)
needed base phase first stages.Done D kept agrees = at_end (ca_run (value base.expr) base.k phase D) base.transcript.accesses D (kept.on_table D agrees).made

tame_need : (m : ℕ) (log : Log) (objects : List ℕ) (stage : Stage) → IsSound m log.accesses objects stage → IsOfSeen log (need_at stage)
tame_need m log objects (stages.Row list depth) sound = tt
tame_need m log objects (stages.Choice list object depth) sound = sound.0.seen
tame_need m log objects (stages.Finish ask) sound = sound.asked.seen
tame_need m log objects stages.Done sound = tt

pub kept_makes : (base : Base) (phase : ℕ) (first : List Item) (stage : Stage) → Keeps base phase first stage
    → phase ≡ phase_length base.costs.sorted base.costs.random → MakesItsRun (shown base (need_at stage))
kept_makes base phase first stage kept paid =
    makes_run combined_run base (need_at stage) kept.base
    (λ D agrees. subst (λ p. IsAt (ca_run (value base.expr) base.k p D) base.transcript.accesses (need_at stage) × CanServe D (need_at stage)) paid (needed base phase first stage D kept agrees))
    (tame_need base.transcript.lists base.transcript (item_objects first) stage kept.sound)
