-- What the calls of a machine need to know of it.
use Rattle.std.proofs.Common.{◌≡◌, ℕ, ◌<◌, ◌≤◌, inl, inr, Bool, false, min, List, [], ◌∷◌, ◌++◌, length, Contains, get_or, refl, sym, ap, subst, ◌∙◌, arith}
use Rattle.std.proofs.lemmas.Bool.{cases_Bool, cases_lt}
use Rattle.ranked_list.specs.declared.row.Row.{Row}
use Rattle.ranked_list.specs.declared.item.Item.{Item}
use Rattle.ranked_list.specs.declared.need.Need.{Need}
use Rattle.ranked_list.specs.declared.need.Need.TheVariants.{Row as RowAt, Done}
use Rattle.machine_base.specs.Held.{Held}
use Rattle.monotone_fn.specs.declared.costs.Costs.{Costs}
use Rattle.monotone_fn.specs.Tree.{Tree}
use Rattle.monotone_fn.specs.Limits.{AreGrades}
use Rattle.topk_theory.specs.declared.access.Access.{Access}
use Rattle.topk_theory.specs.declared.access.Access.TheVariants.{Sorted, Random}
use Rattle.topk_theory.specs.Transcript.{seen_objects}
use Rattle.topk_theory.specs.Consistent.{Kind, IsOfKind, SomeAgrees}
use Rattle.topk_theory.specs.Consistent.Kind.{above_top, too_many_objects}
use Rattle.access_log.specs.Log.{Log}
use Rattle.machine_base.specs.Machine.{MachineState, IsBegun, MayBeNextRow, MayBeNextGrade, HasRoomFor, Takes, row_access, grade_access}
use Rattle.machine_base.specs.declared.base.Base.{Base}
use Rattle.machine_base.specs.Base.{shown, IsHeld, Holds, IsReserved, IsTold, CanTake, TellsNew}
use Rattle.machine_base.proofs.Held.{carried, some_before, takes}
use Rattle.machine_base.proofs.Reserve.{row_can}
use Rattle.machine_base.specs.Board.{with_new}
use Rattle.ta_core.specs.Reading.{RowProgress, first_or_zero, row_added, grade_added, row_begun, need_at}
use Rattle.ta_core.specs.declared.halting.Halting.{Halting}
use Rattle.ta_core.specs.Halting.{Rule, passes_by, IsFair}
use Rattle.ta_core.proofs.HaltingLaws.{rule_fit}
use Rattle.ta_core.specs.Kept.{IsTaKept, Keeps, Stands}
use Rattle.machine_base.proofs.BoardSteps.{waits_from, place_filled, place_left}
use Rattle.ta_core.proofs.Runs.{need_in_row, need_after_row, need_when_done, kept_depth, first_is_member, first_seen}
use Rattle.ta_core.proofs.Sound.{waiting_seen, sound_row, sound_grade, fed_row}
use Rattle.ta_core.proofs.Feeds.{board_then, reading_then, kept_start, kept_row, kept_grade}
use Rattle.ta_core.proofs.Unasked.{waiting_unasked}

-- at the beginning
pub stands_start : (rule : Halting) (e : Tree) (k n room : ℕ) (costs : Costs) (base : Base) (board : Held) (r : RowProgress) → IsFair rule
    → IsBegun e k n room costs (shown base Done) → Holds base → IsReserved base → board.k ≡ k → board.room ≡ min room n → board.items ≡ [] → r ≡ row_begun 1 → Stands rule base board r
stands_start rule e k n room costs base board r fair begun held reserved same_k same_room empty is =
    let m : ℕ = base.transcript.lists in
    let count : ℕ = base.transcript.count in
    record {
      kept = subst (λ A. IsTaKept (passes_by rule) base.expr base.k base.room m count A board r) (sym begun.none)
          (subst (λ (s : RowProgress). IsTaKept (passes_by rule) base.expr base.k base.room m count [] board s) (sym is)
          (kept_start (passes_by rule) base.expr base.k base.room m count board (rule_fit rule fair) (subst (IsHeld base.expr base.k base.room m count) begun.none held) (same_k ∙ sym begun.asked) (same_room ∙ sym begun.in_force) empty));
      reserved = reserved;
    }

-- a row that may be next
pub next_row_is : (log : Log) (r : RowProgress) (row : Row) → MayBeNextRow log (need_at log.lists r) row
    → (r.done ≡ false) × (length r.objects < log.lists) × (row.grade ≤ 1000000)
next_row_is log r row may =
    elim (cases_Bool r.done) [
      | inl done ↦ absurd (subst (λ need. MayBeNextRow log need row) (need_when_done log.lists r done) may)
      | inr open' ↦ elim (cases_lt (length r.objects) log.lists) [
        | inr whole ↦ absurd (subst (λ need. MayBeNextRow log need row) (need_after_row log.lists r open' whole) may)
        | inl short ↦
            let kinds : (kind : Kind) → IsOfKind log.lists log.count log.accesses (Sorted (length r.objects) row.object row.grade) kind → kind ≡ too_many_objects = subst (λ need. MayBeNextRow log need row) (need_in_row log.lists r open' short) may in
            (open', short, elim (cases_lt 1000000 row.grade) [ inl above ↦ absurd (another (kinds above_top above)) | inr le ↦ le ])
      ]
    ]
  where
    another : above_top ≡ too_many_objects → ⊥
    another e = cc

-- a grade that may be next
pub next_grade_is : (log : Log) (r : RowProgress) (grade : ℕ) → MayBeNextGrade log (need_at log.lists r) grade
    → (r.done ≡ false) × (log.lists ≤ length r.objects) × (grade ≤ 1000000)
next_grade_is log r grade may =
    elim (cases_Bool r.done) [
      | inl done ↦ absurd (subst (λ need. MayBeNextGrade log need grade) (need_when_done log.lists r done) may)
      | inr open' ↦ elim (cases_lt (length r.objects) log.lists) [
        | inl short ↦ absurd (subst (λ need. MayBeNextGrade log need grade) (need_in_row log.lists r open' short) may)
        | inr whole ↦
            let kinds : (kind : Kind) → ¬ IsOfKind log.lists log.count log.accesses (Random (length r.grades) (first_or_zero r.waiting) grade) kind = subst (λ need. MayBeNextGrade log need grade) (need_after_row log.lists r open' whole) may in
            (open', whole, elim (cases_lt 1000000 grade) [ inl above ↦ absurd (kinds above_top above) | inr le ↦ le ])
      ]
    ]

-- what is on the board is seen and doesn't wait
kept_board : (passes : Rule) (base : Base) (board : Held) (r : RowProgress) → Keeps passes base board r → (item : Item) → Contains board.items item
    → Contains (seen_objects base.transcript.accesses) item.object × (¬ Contains r.waiting item.object)
kept_board passes base board r kept item h =
    let some = kept.base.agreeing in
    let on = (kept.on_table some.0 some.1).board.only item h in
    (on.0, on.1)

-- an object that waits has a place on the board: it was seen and isn't there
place_waiting : (passes : Rule) (base : Base) (board : Held) (r : RowProgress) (object : ℕ) → Keeps passes base board r → Contains r.waiting object → length board.items < board.room
place_waiting passes base board r object kept waits =
    let seen : List ℕ = seen_objects base.transcript.accesses in
    let some = kept.base.agreeing in
    let on = (kept.on_table some.0 some.1).board in
    let fits : length board.items < length seen =
    place_left seen board.items object on.distinct (λ item h. let k = kept_board passes base board r kept item h in (k.0, λ e. k.1 (subst (λ z. Contains r.waiting z) (sym e) waits)))
    (waiting_seen base.transcript.lists base.transcript.accesses r object kept.sound waits) in
    omega (arith, kept.same_room, kept.base.roomy)

-- an object that is scored has a place on the board: the new one has room, and one that waited was seen
place_row : (passes : Rule) (base : Base) (board : Held) (r : RowProgress) (object : ℕ) (is_new : Bool) → Keeps passes base board r → TellsNew base.transcript.accesses object is_new
    → HasRoomFor (shown base Done) object → 0 < length (with_new r.waiting object is_new) → length board.items < board.room
place_row passes base board r object is_new kept new follows waits =
    let seen : List ℕ = seen_objects base.transcript.accesses in
    elim (waits_from r.waiting object is_new (first_or_zero (with_new r.waiting object is_new)) (first_is_member (with_new r.waiting object is_new) waits)) [
      | inl before ↦ place_waiting passes base board r (first_or_zero (with_new r.waiting object is_new)) kept before
      | inr fresh ↦ elim follows [
        | inl old ↦ absurd (new.unseen fresh.0 old)
        | inr spare ↦
            let some = kept.base.agreeing in
            let on = (kept.on_table some.0 some.1).board in
            let fits : length board.items ≤ length seen = place_filled seen board.items on.distinct (λ item h. (kept_board passes base board r kept item h).0) in
            omega (arith, kept.same_room)
      ]
    ]

pub first-at : (ws : List ℕ) → first_or_zero ws ≡ get_or ws 0 0
first-at [] = refl
first-at (w ∷ ws) = refl

pub waits_first : (r : RowProgress) (waiting : List ℕ) → waiting ≡ r.waiting → get_or waiting 0 0 ≡ first_or_zero r.waiting
waits_first r waiting is = ap (λ ws. get_or ws 0 0) is ∙ sym (first-at r.waiting)

-- what the transcript and the board need of a reading of m lists before an access is told
pub record IsReady (m : ℕ) (board : Held) (r : RowProgress) : Type 0 where
  pub grades : AreGrades r.grades
  pub bottoms : AreGrades r.bottoms
  pub same : length r.bottoms ≡ length r.objects
  pub waits : length r.grades ≡ m → 0 < length r.waiting
  pub room : length r.grades ≡ m → length board.items < board.room
  pub deep : r.depth ≤ 200000

pub ready_row : (passes : Rule) (base : Base) (board : Held) (r told : RowProgress) (row : Row) (is_new : Bool) → Keeps passes base board r
    → MayBeNextRow base.transcript (need_at base.transcript.lists r) row → TellsNew base.transcript.accesses row.object is_new
    → HasRoomFor (shown base Done) row.object → told ≡ row_added base.transcript.lists r row is_new → IsReady base.transcript.lists board told
ready_row passes base board r told row is_new kept may new follows is =
    let m : ℕ = base.transcript.lists in
    let next = next_row_is base.transcript r row may in
    let sound = sound_row m base.transcript.accesses r row is_new kept.sound next.1 (kept.rest.in_row next.1) next.2 new in
    let fed = fed_row m r row is_new kept.base.some_list next.1 kept.sound.same_length in
    subst (IsReady m board) (sym is) (record {
      grades = sound.grades_capped;
      bottoms = sound.bottoms_capped;
      same = sound.same_length;
      waits = fed.enough_waits;
      room = λ full. place_row passes base board r row.object is_new kept new follows (fed.enough_waits full);
      deep = omega (arith, kept_depth passes base board r kept next.0, kept.base.counted);
    })

pub ready_grade : (passes : Rule) (base : Base) (board : Held) (r told : RowProgress) (grade : ℕ) → Keeps passes base board r
    → MayBeNextGrade base.transcript (need_at base.transcript.lists r) grade → told ≡ grade_added r grade → IsReady base.transcript.lists board told
ready_grade passes base board r told grade kept may is =
    let m : ℕ = base.transcript.lists in
    let next = next_grade_is base.transcript r grade may in
    let rest = kept.rest.after_row next.0 next.1 in
    let sound = sound_grade m base.transcript.accesses r grade kept.sound rest.0 next.2 in
    subst (IsReady m board) (sym is) (record {
      grades = sound.grades_capped;
      bottoms = sound.bottoms_capped;
      same = sound.same_length;
      waits = λ full. rest.0;
      room = λ full. place_waiting passes base board r (first_or_zero r.waiting) kept (first_is_member r.waiting rest.0);
      deep = omega (arith, kept_depth passes base board r kept next.0, kept.base.counted);
    })

-- an access is told, and the reading has it: what comes then can be had, and is what is kept
pub record IsFed (passes : Rule) (before after : Base) (board : Held) (told : RowProgress) (a : Access) : Type 0 where
  pub tells : IsTold a before after
  pub ready : IsReady before.transcript.lists board told
  pub kept : IsTaKept passes before.expr before.k before.room before.transcript.lists before.transcript.count (before.transcript.accesses ++ a ∷ [])
      (board_then before.expr before.transcript.lists board told)
      (reading_then passes before.expr before.transcript.lists (board_then before.expr before.transcript.lists board told) told)

pub fed_ready : (passes : Rule) (before after : Base) (board : Held) (told : RowProgress) (a : Access) → IsFed passes before after board told a
    → IsReady after.transcript.lists board told
fed_ready passes before after board told a fed = subst (λ m. IsReady m board told) (sym fed.tells.log.lists) fed.ready

pub fed_kept : (passes : Rule) (before after : Base) (board board' : Held) (told then : RowProgress) (a : Access) → IsFed passes before after board told a
    → board' ≡ board_then after.expr after.transcript.lists board told → then ≡ reading_then passes after.expr after.transcript.lists board' told
    → Keeps passes after board' then
fed_kept passes before after board board' told then a fed is_board is_then =
    let m : ℕ = before.transcript.lists in
    let A : List Access = before.transcript.accesses ++ a ∷ [] in
    let board_is : board' ≡ board_then before.expr m board told =
    is_board ∙ ap (λ e. board_then e after.transcript.lists board told) fed.tells.expr ∙ ap (λ c. board_then before.expr c board told) fed.tells.log.lists in
    let then_is : then ≡ reading_then passes before.expr m board' told =
    is_then ∙ ap (λ e. reading_then passes e after.transcript.lists board' told) fed.tells.expr ∙ ap (λ c. reading_then passes before.expr c board' told) fed.tells.log.lists in
    carried (λ e k room c n B. IsTaKept passes e k room c n B board' then) a before after fed.tells
    (subst (IsTaKept passes before.expr before.k before.room m before.transcript.count A board') (sym then_is)
    (subst (λ (b : Held). IsTaKept passes before.expr before.k before.room m before.transcript.count A b (reading_then passes before.expr m b told)) (sym board_is) fed.kept))

pub row_fed : (passes : Rule) (before after : Base) (board : Held) (r told : RowProgress) (row : Row) (list : ℕ) (is_new : Bool) → Keeps passes before board r
    → MayBeNextRow before.transcript (need_at before.transcript.lists r) row → TellsNew before.transcript.accesses row.object is_new
    → HasRoomFor (shown before Done) row.object → list ≡ length r.objects → IsTold (Sorted list row.object row.grade) before after
    → SomeAgrees after.transcript.lists after.transcript.count after.transcript.accesses → told ≡ row_added after.transcript.lists r row is_new → IsFed passes before after board told (Sorted (length r.objects) row.object row.grade)
row_fed passes before after board r told row list is_new kept may new follows is_list tells some is_told =
    let next = next_row_is before.transcript r row may in
    let m : ℕ = before.transcript.lists in
    let a : Access = Sorted (length r.objects) row.object row.grade in
    let tells' : IsTold a before after = subst (λ l. IsTold (Sorted l row.object row.grade) before after) is_list tells in
    let told_is : told ≡ row_added m r row is_new = is_told ∙ ap (λ c. row_added c r row is_new) tells.log.lists in
    record {
      tells = tells';
      ready = ready_row passes before board r told row is_new kept may new follows told_is;
      kept = subst (λ s. IsTaKept passes before.expr before.k before.room m before.transcript.count (before.transcript.accesses ++ a ∷ []) (board_then before.expr m board s) (reading_then passes before.expr m (board_then before.expr m board s) s)) (sym told_is)
          (kept_row passes before.expr before.k before.room m before.transcript.count before.transcript.accesses board r row is_new kept next.0 next.1 next.2 new follows (some_before a before after tells' some));
    }

pub grade_fed : (passes : Rule) (before after : Base) (board : Held) (r told : RowProgress) (grade list object : ℕ) → Keeps passes before board r
    → MayBeNextGrade before.transcript (need_at before.transcript.lists r) grade → list ≡ length r.grades → object ≡ first_or_zero r.waiting
    → IsTold (Random list object grade) before after
    → SomeAgrees after.transcript.lists after.transcript.count after.transcript.accesses → told ≡ grade_added r grade → IsFed passes before after board told (Random (length r.grades) (first_or_zero r.waiting) grade)
grade_fed passes before after board r told grade list object kept may is_list is_object tells some is_told =
    let next = next_grade_is before.transcript r grade may in
    let m : ℕ = before.transcript.lists in
    let a : Access = Random (length r.grades) (first_or_zero r.waiting) grade in
    let tells' : IsTold a before after = subst (λ o. IsTold (Random (length r.grades) o grade) before after) is_object (subst (λ l. IsTold (Random l object grade) before after) is_list tells) in
    record {
      tells = tells';
      ready = ready_grade passes before board r told grade kept may is_told;
      kept = subst (λ s. IsTaKept passes before.expr before.k before.room m before.transcript.count (before.transcript.accesses ++ a ∷ []) (board_then before.expr m board s) (reading_then passes before.expr m (board_then before.expr m board s) s)) (sym is_told)
          (kept_grade passes before.expr before.k before.room m before.transcript.count before.transcript.accesses board r grade kept next.0 next.1 next.2 (some_before a before after tells' some));
    }

-- the row and the grade that are needed can be told
pub can_row : (passes : Rule) (base : Base) (board : Held) (r : RowProgress) (row : Row) (list : ℕ) → Keeps passes base board r
    → MayBeNextRow base.transcript (need_at base.transcript.lists r) row → HasRoomFor (shown base Done) row.object → list ≡ length r.objects
    → CanTake base (Sorted list row.object row.grade)
can_row passes base board r row list kept may fits is_list =
    let next = next_row_is base.transcript r row may in
    let only : MayBeNextRow base.transcript (RowAt (length r.objects) r.depth) row = subst (λ need. MayBeNextRow base.transcript need row) (need_in_row base.transcript.lists r next.0 next.1) may in
    subst (λ l. CanTake base (Sorted l row.object row.grade)) (sym is_list) (row_can base (length r.objects) row.object row.grade kept.base only fits)

pub can_grade : (passes : Rule) (base : Base) (board : Held) (r : RowProgress) (grade list object : ℕ) → Keeps passes base board r
    → MayBeNextGrade base.transcript (need_at base.transcript.lists r) grade → list ≡ length r.grades → object ≡ first_or_zero r.waiting
    → CanTake base (Random list object grade)
can_grade passes base board r grade list object kept may is_list is_object =
    let m : ℕ = base.transcript.lists in
    let next = next_grade_is base.transcript r grade may in
    subst (λ o. CanTake base (Random list o grade)) (sym is_object) (subst (λ l. CanTake base (Random l (first_or_zero r.waiting) grade)) (sym is_list) (record {
      follows = (
        first_seen passes base board r kept (kept.rest.after_row next.0 next.1).0,
        waiting_unasked passes base.expr base.k base.room m base.transcript.count base.transcript.accesses board r kept next.0 next.1,
      );
      consistent = subst (λ need. MayBeNextGrade base.transcript need grade) (need_after_row m r next.0 next.1) may;
    }))

-- what is told of a row and of a grade
pub row_taken : (before after : Base) (r : RowProgress) (need : Need) (row : Row) (list : ℕ) (t : MachineState)
    → shown before (need_at before.transcript.lists r) ≡ t → MayBeNextRow before.transcript (need_at before.transcript.lists r) row
    → HasRoomFor (shown before (need_at before.transcript.lists r)) row.object → list ≡ length r.objects
    → IsTold (Sorted list row.object row.grade) before after → HasRoomFor t row.object × Takes (row_access t.need row) t (shown after need)
row_taken before after r need row list t is may room_for is_list tells =
    let now = need_at before.transcript.lists r in
    let next = next_row_is before.transcript r row may in
    let access : row_access now row ≡ Sorted list row.object row.grade = ap (λ n. row_access n row) (need_in_row before.transcript.lists r next.0 next.1) ∙ ap (λ l. Sorted l row.object row.grade) (sym is_list) in
    subst (λ (s : MachineState). HasRoomFor s row.object × Takes (row_access s.need row) s (shown after need)) is
    (room_for, takes (row_access now row) before after now need (subst (λ a. IsTold a before after) (sym access) tells))

pub grade_taken : (before after : Base) (r : RowProgress) (need : Need) (grade list object : ℕ) (t : MachineState)
    → shown before (need_at before.transcript.lists r) ≡ t → MayBeNextGrade before.transcript (need_at before.transcript.lists r) grade
    → list ≡ length r.grades → object ≡ first_or_zero r.waiting → IsTold (Random list object grade) before after
    → Takes (grade_access t.need grade) t (shown after need)
grade_taken before after r need grade list object t is may is_list is_object tells =
    let now = need_at before.transcript.lists r in
    let next = next_grade_is before.transcript r grade may in
    let access : grade_access now grade ≡ Random list object grade =
    ap (λ n. grade_access n grade) (need_after_row before.transcript.lists r next.0 next.1) ∙ ap (λ l. Random l (first_or_zero r.waiting) grade) (sym is_list) ∙ ap (λ o. Random list o grade) (sym is_object) in
    subst (λ (s : MachineState). Takes (grade_access s.need grade) s (shown after need)) is
    (takes (grade_access now grade) before after now need (subst (λ a. IsTold a before after) (sym access) tells))
