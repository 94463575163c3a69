-- A machine that keeps what it keeps makes its run.
use Rattle.std.proofs.Common.{◌≡◌, ◌≢◌, ℕ, suc, ◌-◌, ◌<◌, List, [], ◌++◌, length, Option, Some, None, refl, sym, ap, ◌∙◌, arith, append-nil}
use Rattle.std.specs.List.{slice_get}
use Rattle.std.proofs.lemmas.Option.{slice_get_within}
use Rattle.std.proofs.lemmas.List.{take-append-le}
use Rattle.ranked_list.specs.declared.row.Row.{Row}
use Rattle.ranked_list.specs.declared.need.Need.{Need}
use Rattle.ranked_list.specs.declared.need.Need.TheVariants as needs
use Rattle.ranked_list.specs.Table.{grade_in}
use Rattle.topk_theory.specs.declared.access.Access.{Access}
use Rattle.topk_theory.specs.declared.access.Access.TheVariants.{Random}
use Rattle.topk_theory.specs.Transcript.{Agrees, list_at, seen_objects}
use Rattle.topk_theory.specs.Threshold.{IsAsked, sorted_block}
use Rattle.topk_theory.specs.NoRandom.{nra_run_to}
use Rattle.topk_theory.specs.Machine.{need_of, IsAt, CanServe}
use Rattle.topk_theory.proofs.AgreementLists.{get_front}
use Rattle.access_log.specs.Log.{Log, AgreesWith}
use Rattle.machine_base.specs.Machine.{IsOfSeen}
use Rattle.machine_base.specs.declared.base.Base.{Base}
use Rattle.machine_base.specs.Base.{shown}
use Rattle.machine_base.specs.declared.asking.Ask.{Ask}
use Rattle.machine_base.specs.Asking.{IsAsking}
use Rattle.machine_base.proofs.Asks.{asks_begin, ask_served}
use Rattle.machine_base.proofs.Held.{held_asked}
use Rattle.machine_base.proofs.Makes.{makes_run, at_access, at_end}
use Rattle.machine_base.proofs.Rows.{row_needed}
use Rattle.algorithm_theory.specs.Fagin.{fa_stop, fa_depth, fa_rows, fa_asks, fa_run, fagin_run}
use Rattle.fa_core.specs.declared.stage.Stage.{Stage}
use Rattle.fa_core.specs.declared.stage.Stage.TheVariants as stages
use Rattle.fa_core.specs.Course.{need_at}
use Rattle.fa_core.specs.OnTable.{OnRow, OnAsks}
use Rattle.fa_core.specs.Kept.{IsSound, Keeps}
use Rattle.fa_core.specs.Machine.{MakesItsRun}
use Rattle.fa_core.proofs.Path.{reads_rows, own, row_end}

-- a need that isn't the end is that of a run that goes on
goes_on : (run rest A : List Access) (need : Need) → need ≢ needs.Done → IsAt run A need → IsAt (run ++ rest) A need
goes_on run rest A need open' at = by_next (slice_get run (length A)) refl
  where
    by_next : (next : Option Access) → slice_get run (length A) ≡ next → IsAt (run ++ rest) A need
    by_next None e = absurd (open' (at.next ∙ ap (need_of A) e))
    by_next (Some next) e =
        let lt : length A < length run = slice_get_within run (length A) next e in
        record {
          begins = take-append-le (length A) run rest (omega arith) ∙ at.begins;
          next = at.next ∙ ap (need_of A) (sym (get_front run rest (length A) lt));
        }

row_is_open : (list depth : ℕ) → needs.Row list depth ≢ needs.Done
row_is_open list depth e = cc

-- ---- what is needed
row_next : (k n : ℕ) (D : List (List Row)) (A : List Access) (list depth : ℕ) → IsAsked k n D → list < length D → OnRow k n D A list depth
    → IsAt (fa_run k D) A (needs.Row list depth) × CanServe D (needs.Row list depth)
row_next k n D A list depth asked l on =
    let r = row_needed (nra_run_to D) (λ d. sorted_block 0 (suc d) D) (fa_stop k D) n (fa_depth k D) D depth list A [] (λ d. refl) (reads_rows n D asked.table) asked.table (own k n D asked) on.at l on.made
    (append-nil (nra_run_to D (depth - 1) ++ sorted_block 0 depth D) ∙ row_end D depth on.at.positive) in
    (goes_on (fa_rows k D) (fa_asks k D) A (needs.Row list depth) (row_is_open list depth) r.0, r.1)

asks_next : (k m n : ℕ) (D : List (List Row)) (A : List Access) (ask : Ask) → IsAsking m A (seen_objects A) ask → Agrees m n D A → OnAsks k D A ask.place
    → IsAt (fa_run k D) A (needs.Grade ask.list ask.object)
asks_next k m n D A ask is agrees on =
    let r = asks_begin m n D A (seen_objects A) ask is agrees in
    at_access (fa_run k D) A (Random ask.list ask.object (grade_in (list_at D ask.list) ask.object)) r.0 (sym on.made ∙ ap (λ xs. A ++ xs) r.1)

needed : (base : Base) (stage : Stage) (D : List (List Row)) → Keeps base stage → AgreesWith D base.transcript
    → IsAt (fa_run base.k D) base.transcript.accesses (need_at stage) × CanServe D (need_at stage)
needed base (stages.Row list depth common) D kept agrees =
    row_next base.k base.transcript.count D base.transcript.accesses list depth (held_asked base.expr base.k base.room base.transcript.lists base.transcript.count base.transcript.accesses D kept.base agrees)
    (let below = kept.sound.listed in let same = agrees.lists in omega arith) (kept.on_table D agrees)
needed base (stages.Asking ask) D kept agrees = (
  asks_next base.k base.transcript.lists base.transcript.count D base.transcript.accesses ask kept.sound agrees (kept.on_table D agrees),
  ask_served base.transcript.lists base.transcript.count D base.transcript.accesses ask.object ask.list kept.sound.asked agrees,
)
needed base stages.Done D kept agrees = at_end (fa_run base.k D) base.transcript.accesses D (kept.on_table D agrees).made

tame_need : (m : ℕ) (log : Log) (stage : Stage) → IsSound m log.accesses stage → IsOfSeen log (need_at stage)
tame_need m log (stages.Row list depth common) sound = tt
tame_need m log (stages.Asking ask) sound = sound.asked.seen
tame_need m log stages.Done sound = tt

pub kept_makes : (base : Base) (stage : Stage) → Keeps base stage → MakesItsRun (shown base (need_at stage))
kept_makes base stage kept = makes_run fagin_run base (need_at stage) kept.base (λ D agrees. needed base stage D kept agrees) (tame_need base.transcript.lists base.transcript stage kept.sound)
