-- The course as the code computes it is the one that is defined.
use Rattle.std.proofs.Common.{◌≡◌, ℕ, ◌+◌, ◌%◌, ◌==◌, ◌<◌, ◌≤◌, Bool, true, false, cond, List, length, drop, Option, Some, None, nat_le, leb-true, sym, ap, ◌∙◌}
use Rattle.std.proofs.lemmas.Bool.{and_parts, lt-ltb, le-ltb}
use Rattle.ranked_list.specs.declared.item.Item.{Item}
use Rattle.topk_theory.specs.declared.access.Access.{Access}
use Rattle.topk_theory.specs.Transcript.{seen_objects}
use Rattle.topk_theory.specs.Threshold.{item_objects}
use Rattle.topk_theory.specs.NoRandom.{first_seen}
use Rattle.topk_theory.specs.Combined.{choice}
use Rattle.nra_core.specs.Quiet.{is_quiet_seen}
use Rattle.machine_base.specs.declared.asking.Ask.{Ask}
use Rattle.machine_base.specs.Asking.{next_unknown, ask_from}
use Rattle.ca_core.specs.declared.stage.Stage.{Stage}
use Rattle.ca_core.specs.declared.stage.Stage.TheVariants as stages
use Rattle.ca_core.specs.Course.{Course, finish_of, block_ended, grade_taken, phase_begun, row_ended, moved}

-- ---- the end of a depth
pub enough_seen : (V : List ℕ → ℕ) (k m n : ℕ) (A : List Access) (b : Bool) → b ≡ is_quiet_seen V k m n A → b ≡ true → k ≤ length (seen_objects A)
enough_seen V k m n A b is t = leb-true k (length (seen_objects A)) (and_parts (nat_le k (length (seen_objects A))) _ (sym is ∙ t)).0

pub block_goes : (V : List ℕ → ℕ) (k m n : ℕ) (A : List Access) (depth : ℕ) (first : List Item) (b : Bool) → b ≡ is_quiet_seen V k m n A → b ≡ false
    → record { stage = stages.Row 0 (depth + 1); first = first } ≡ block_ended V k m n A depth first
block_goes V k m n A depth first b is f =
    sym (ap (λ t. cond {A = Course} t (record { stage = finish_of (ask_from m A (item_objects (first_seen V k m A)) 0); first = first_seen V k m A }) (record { stage = stages.Row 0 (depth + 1); first = first })) (sym is ∙ f))

pub block_ends : (V : List ℕ → ℕ) (k m n : ℕ) (A : List Access) (depth : ℕ) (first first' : List Item) (stage : Stage) (b : Bool) → b ≡ is_quiet_seen V k m n A
    → b ≡ true → first' ≡ first_seen V k m A → stage ≡ finish_of (ask_from m A (drop 0 (item_objects first')) 0)
    → record { stage = stage; first = first' } ≡ block_ended V k m n A depth first
block_ends V k m n A depth first first' stage b is t same course =
    ap (λ s. record { stage = s; first = first' }) course
    ∙ ap (λ (xs : List Item). record { stage = finish_of (ask_from m A (item_objects xs) 0); first = xs }) same
    ∙ sym (ap (λ t. cond {A = Course} t (record { stage = finish_of (ask_from m A (item_objects (first_seen V k m A)) 0); first = first_seen V k m A }) (record { stage = stages.Row 0 (depth + 1); first = first })) (sym is ∙ t))

-- ---- a grade of the choice
pub grade_goes : (V : List ℕ → ℕ) (k m n : ℕ) (A : List Access) (depth : ℕ) (first : List Item) (object list : ℕ) (next : Option ℕ)
    → next ≡ next_unknown m A object → next ≡ Some list
    → record { stage = stages.Choice list object depth; first = first } ≡ grade_taken V k m n A depth first object (next_unknown m A object)
grade_goes V k m n A depth first object list next is some = sym (ap (grade_taken V k m n A depth first object) (sym is ∙ some))

pub grade_ends : (V : List ℕ → ℕ) (k m n : ℕ) (A : List Access) (depth : ℕ) (first : List Item) (object : ℕ) (next : Option ℕ) (course : Course)
    → next ≡ next_unknown m A object → next ≡ None → course ≡ block_ended V k m n A depth first
    → course ≡ grade_taken V k m n A depth first object (next_unknown m A object)
grade_ends V k m n A depth first object next course is none ended = ended ∙ sym (ap (grade_taken V k m n A depth first object) (sym is ∙ none))

-- ---- the end of a row
pub row_between : (V : List ℕ → ℕ) (k phase m n : ℕ) (A : List Access) (depth : ℕ) (first : List Item) (course : Course) → ((depth % phase) == 0) ≡ false
    → course ≡ block_ended V k m n A depth first → course ≡ row_ended V k phase m n A depth first
row_between V k phase m n A depth first course f ended =
    ended ∙ sym (ap (λ b. cond {A = Course} b (phase_begun V k m n A depth first (choice V k m A)) (block_ended V k m n A depth first)) f)

phase_here : (V : List ℕ → ℕ) (k phase m n : ℕ) (A : List Access) (depth : ℕ) (first : List Item) (chosen : Option ℕ) → ((depth % phase) == 0) ≡ true
    → chosen ≡ choice V k m A → row_ended V k phase m n A depth first ≡ phase_begun V k m n A depth first chosen
phase_here V k phase m n A depth first chosen t is =
    ap (λ b. cond {A = Course} b (phase_begun V k m n A depth first (choice V k m A)) (block_ended V k m n A depth first)) t ∙ ap (phase_begun V k m n A depth first) (sym is)

pub row_nobody : (V : List ℕ → ℕ) (k phase m n : ℕ) (A : List Access) (depth : ℕ) (first : List Item) (chosen : Option ℕ) (course : Course)
    → ((depth % phase) == 0) ≡ true → chosen ≡ choice V k m A → chosen ≡ None → course ≡ block_ended V k m n A depth first
    → course ≡ row_ended V k phase m n A depth first
row_nobody V k phase m n A depth first chosen course t is none ended = ended ∙ sym (phase_here V k phase m n A depth first chosen t is ∙ ap (phase_begun V k m n A depth first) none)

pub row_choice : (V : List ℕ → ℕ) (k phase m n : ℕ) (A : List Access) (depth : ℕ) (first : List Item) (object : ℕ) (chosen : Option ℕ) (course : Course)
    → ((depth % phase) == 0) ≡ true → chosen ≡ choice V k m A → chosen ≡ Some object
    → course ≡ grade_taken V k m n A depth first object (next_unknown m A object) → course ≡ row_ended V k phase m n A depth first
row_choice V k phase m n A depth first object chosen course t is some taken = taken ∙ sym (phase_here V k phase m n A depth first chosen t is ∙ ap (phase_begun V k m n A depth first) some)

-- ---- after an access
pub moved_list : (V : List ℕ → ℕ) (k phase m n : ℕ) (A : List Access) (list depth : ℕ) (first : List Item) (stage : Stage) → stage ≡ stages.Row list depth
    → list + 1 < m → record { stage = stages.Row (list + 1) depth; first = first } ≡ moved V k phase m n A stage first
moved_list V k phase m n A list depth first stage is short =
    sym (ap (λ s. moved V k phase m n A s first) is ∙ ap (λ b. cond {A = Course} b (record { stage = stages.Row (list + 1) depth; first = first }) (row_ended V k phase m n A depth first)) (lt-ltb (list + 1) m short))

pub moved_row : (V : List ℕ → ℕ) (k phase m n : ℕ) (A : List Access) (list depth : ℕ) (first : List Item) (stage : Stage) (course : Course)
    → stage ≡ stages.Row list depth → m ≤ list + 1 → course ≡ row_ended V k phase m n A depth first → course ≡ moved V k phase m n A stage first
moved_row V k phase m n A list depth first stage course is whole ended =
    ended ∙ sym (ap (λ s. moved V k phase m n A s first) is ∙ ap (λ b. cond {A = Course} b (record { stage = stages.Row (list + 1) depth; first = first }) (row_ended V k phase m n A depth first)) (le-ltb (list + 1) m whole))

pub moved_grade : (V : List ℕ → ℕ) (k phase m n : ℕ) (A : List Access) (list object depth : ℕ) (first : List Item) (stage : Stage) (course : Course)
    → stage ≡ stages.Choice list object depth → course ≡ grade_taken V k m n A depth first object (next_unknown m A object)
    → course ≡ moved V k phase m n A stage first
moved_grade V k phase m n A list object depth first stage course is taken = taken ∙ sym (ap (λ s. moved V k phase m n A s first) is)

pub moved_finish : (V : List ℕ → ℕ) (k phase m n : ℕ) (A : List Access) (ask : Ask) (first : List Item) (stage next : Stage)
    → stage ≡ stages.Finish ask → next ≡ finish_of (ask_from m A (drop ask.place (item_objects first)) ask.place)
    → record { stage = next; first = first } ≡ moved V k phase m n A stage first
moved_finish V k phase m n A ask first stage next is finish = ap (λ s. record { stage = s; first = first }) finish ∙ sym (ap (λ s. moved V k phase m n A s first) is)

pub moved_done : (V : List ℕ → ℕ) (k phase m n : ℕ) (A : List Access) (first : List Item) (stage : Stage) → stage ≡ stages.Done
    → record { stage = stages.Done; first = first } ≡ moved V k phase m n A stage first
moved_done V k phase m n A first stage is = sym (ap (λ s. moved V k phase m n A s first) is)
