-- What a machine keeps from its beginning on, through each row and each grade.
use Rattle.std.proofs.Common.{◌≡◌, ◌≢◌, ℕ, suc, ◌+◌, ◌<◌, ◌≤◌, ◌⊎◌, inl, inr, Bool, true, false, List, [], ◌∷◌, ◌++◌, length, Contains, slice_index, slice_index_or, refl, sym, ap, subst, ◌∙◌, arith, length-append}
use Rattle.std.proofs.lemmas.Bool.{cases_lt}
use Rattle.std.proofs.lemmas.List.Elements.{All-nil}
use Rattle.ranked_list.specs.declared.row.Row.{Row}
use Rattle.ranked_list.specs.declared.item.Item.{Item}
use Rattle.machine_base.specs.Held.{Held}
use Rattle.monotone_fn.specs.Tree.{Tree}
use Rattle.monotone_fn.specs.Value.{value, IsMonotone}
use Rattle.monotone_fn.proofs.Laws.{value-monotone}
use Rattle.topk_theory.specs.declared.access.Access.{Access}
use Rattle.topk_theory.specs.declared.access.Access.TheVariants.{Sorted, Random}
use Rattle.topk_theory.specs.Transcript.{Agrees, seen_objects}
use Rattle.topk_theory.proofs.AgreementLists.{contains_nil}
use Rattle.topk_theory.proofs.AgreementNames.{each_once_within}
use Rattle.topk_theory.proofs.Agreement.{agrees_front}
use Rattle.topk_theory.specs.Consistent.{SomeAgrees}
use Rattle.machine_base.specs.Base.{IsHeld, TellsNew}
use Rattle.machine_base.proofs.Held.{held_asked, held_more}
use Rattle.machine_base.proofs.Depths.{first_reached}
use Rattle.machine_base.specs.Board.{with_new}
use Rattle.ta_core.specs.Reading.{RowProgress, first_or_zero, row_added, grade_added, items_after, row_begun, followed}
use Rattle.machine_base.specs.Board.{OnBoard}
use Rattle.ta_core.specs.OnTable.{OnRow, OnAsks, OnTable}
use Rattle.ta_core.specs.Kept.{IsSound, IsAtRest, IsTaKept}
use Rattle.ta_core.specs.Halting.{Rule, IsFit, Halt, halts_at}
use Rattle.ta_core.proofs.HaltingLaws.{IsHalting, halting_of}
use Rattle.ta_core.proofs.Rows.{row_goes_on}
use Rattle.ta_core.proofs.Asks.{row_is_last, grade_goes_on}
use Rattle.machine_base.proofs.BoardSteps.{board_after_row, board_after_grade}
use Rattle.ta_core.proofs.Steps.{row_of_reading, asks_of_reading, on_row, row_follows_on, asks_follow_on}
use Rattle.ta_core.proofs.Unasked.{waiting_unasked}
use Rattle.ta_core.proofs.Sound.{waiting_seen, sound_row, sound_grade, IsFed, fed_row, fed_grade, sound_followed}
use Rattle.ta_core.proofs.Runs.{first_member, first_is_member}

-- at the beginning
pub kept_start : (passes : Rule) (e : Tree) (k room m n : ℕ) (board : Held) → IsFit passes → IsHeld e k room m n [] → board.k ≡ k → board.room ≡ room
    → board.items ≡ [] → IsTaKept passes e k room m n [] board (row_begun 1)
kept_start passes e k room m n board fit held same_k same_room empty = record {
  base = held;
  fit = fit;
  same_k = same_k;
  same_room = same_room;
  sound = record {
    waiting_last = ([], refl);
    objects_seen = All-nil (Contains (seen_objects []));
    same_length = refl;
    within = omega arith;
    few = omega arith;
    bottoms_capped = All-nil (λ g. g ≤ 1000000);
    grades_capped = All-nil (λ g. g ≤ 1000000);
    later = λ x h. absurd (contains_nil x h);
  };
  rest = record { in_row = λ l. refl; after_row = λ o l. absurd (omega (arith, held.some_list)) };
  on_table = λ D agrees. record {
    reading = on_row (value e) (record { k = k; passes = passes }) n D [] (row_begun 1) refl (record {
      at = first_reached (halts_at (value e) (record { k = k; passes = passes }) D) n (omega (arith, held.posed.positive, held.posed.fits));
      unread = omega (arith, held.some_list, agrees.lists);
      objects_are = refl;
      bottoms_are = refl;
      waiting_are = refl;
      made = refl;
    });
    board = record {
      distinct = subst (λ items. (i j : ℕ) (d : Item) → i < j → j < length items → (slice_index_or items i d).object ≢ (slice_index_or items j d).object) (sym empty) (λ i j d l m. absurd (omega arith));
      held = λ o h. absurd (contains_nil o (each_once_within [] o h));
      only = λ item h. absurd (contains_nil item (subst (λ items. Contains items item) empty h));
    };
  };
}

-- on a table that agrees, one more row
table_row : (V : List ℕ → ℕ) (halt : Halt) (n : ℕ) (D : List (List Row)) (A : List Access) (r : RowProgress) (items : List Item) (row : Row) (is_new : Bool) → IsMonotone V
    → IsHalting halt n D → r.done ≡ false → length r.objects < length D → length r.grades ≡ 0 → length r.bottoms ≡ length r.objects
    → ((o : ℕ) → Contains (with_new r.waiting row.object is_new) o → Contains (seen_objects (A ++ Sorted (length r.objects) row.object row.grade ∷ [])) o)
    → OnTable V halt n D A r items → Agrees (length D) n D (A ++ Sorted (length r.objects) row.object row.grade ∷ [])
    → (is_new ≡ true → ¬ Contains (seen_objects A) row.object) → (is_new ≡ false → Contains (seen_objects A) row.object)
    → OnTable V halt n D (A ++ Sorted (length r.objects) row.object row.grade ∷ [])
    (followed V halt (length D) (items_after V (length D) items (row_added (length D) r row is_new)) (row_added (length D) r row is_new))
    (items_after V (length D) items (row_added (length D) r row is_new))
table_row V halt n D A r items row is_new up asked open' short none same sees on agrees unseen seen =
    let a : Access = Sorted (length r.objects) row.object row.grade in
    let r' : RowProgress = row_added (length D) r row is_new in
    let on_it : OnRow V halt n D A r = row_of_reading V halt n D A r open' short on.reading in
    let board : OnBoard V D (A ++ a ∷ []) r'.waiting items = board_after_row V D A r.waiting items (length r.objects) row.object row.grade is_new on.board unseen seen in
    let long : length r'.objects ≡ length r.objects + 1 = length-append r.objects (row.object ∷ []) in
    let fed : IsFed (length D) r' = fed_row (length D) r row is_new asked.lists short same in
    elim (cases_lt (suc (length r.objects)) (length D)) [
      | inl more ↦ row_follows_on V halt n D (A ++ a ∷ []) r' items asked.lists open' (fed.in_row (omega arith)) (row_goes_on V halt n D A r row is_new on_it agrees unseen seen more) board
      | inr last ↦ asks_follow_on V halt n D (A ++ a ∷ []) r' items up asked open' fed.enough_waits sees (row_is_last V halt n D A r row is_new on_it agrees unseen seen (omega arith)) board
    ]

-- and one more grade
table_grade : (V : List ℕ → ℕ) (halt : Halt) (n : ℕ) (D : List (List Row)) (A : List Access) (r : RowProgress) (items : List Item) (grade : ℕ) → IsMonotone V
    → IsHalting halt n D
    → r.done ≡ false → length r.objects ≡ length D → length r.bottoms ≡ length r.objects → 0 < length r.waiting → length r.grades < length D
    → slice_index r.objects (length r.grades) ≢ first_or_zero r.waiting
    → ((o : ℕ) → Contains r.waiting o → Contains (seen_objects (A ++ Random (length r.grades) (first_or_zero r.waiting) grade ∷ [])) o)
    → OnTable V halt n D A r items → Agrees (length D) n D (A ++ Random (length r.grades) (first_or_zero r.waiting) grade ∷ [])
    → OnTable V halt n D (A ++ Random (length r.grades) (first_or_zero r.waiting) grade ∷ [])
    (followed V halt (length D) (items_after V (length D) items (grade_added r grade)) (grade_added r grade))
    (items_after V (length D) items (grade_added r grade))
table_grade V halt n D A r items grade up asked open' whole same waits short other sees on agrees =
    let a : Access = Random (length r.grades) (first_or_zero r.waiting) grade in
    let first = first_member r.waiting waits in
    let is_first : first_or_zero r.waiting ≡ first.0 = ap first_or_zero first.2 in
    let on_it : OnAsks V halt n D A r = asks_of_reading V halt n D A r open' (omega arith) on.reading in
    let goes : OnAsks V halt n D (A ++ Random (length r.grades) first.0 grade ∷ []) (grade_added r grade) =
    grade_goes_on V halt n D A r first.0 first.1 grade on_it first.2 short (λ e. other (e ∙ sym is_first)) (subst (λ o. Agrees (length D) n D (A ++ Random (length r.grades) o grade ∷ [])) is_first agrees) in
    let on_then : OnAsks V halt n D (A ++ a ∷ []) (grade_added r grade) = subst (λ o. OnAsks V halt n D (A ++ Random (length r.grades) o grade ∷ []) (grade_added r grade)) (sym is_first) goes in
    asks_follow_on V halt n D (A ++ a ∷ []) (grade_added r grade) items up asked open' (λ e. waits) sees on_then
    (board_after_grade V D A r.waiting items (length r.grades) (first_or_zero r.waiting) grade on.board)

-- the board with the items after an access, and what follows of the reading told
abbrev pub board_then : Tree → ℕ → Held → RowProgress → Held
board_then e m board told = record board { items = items_after (value e) m board.items told }

abbrev pub reading_then : Rule → Tree → ℕ → Held → RowProgress → RowProgress
reading_then passes e m board told = followed (value e) (record { k = board.k; passes = passes }) m board.items told

-- what is kept after one more access, where it is sound whatever the table, and on each table that agrees
kept_with : (passes : Rule) (e : Tree) (k room m n : ℕ) (A : List Access) (a : Access) (board : Held) (told : RowProgress) → board.k ≡ k → board.room ≡ room
    → IsFit passes → IsHeld e k room m n (A ++ a ∷ [])
    → (let items : List Item = items_after (value e) m board.items told in IsSound m (A ++ a ∷ []) (followed (value e) (record { k = k; passes = passes }) m items told) × IsAtRest m (followed (value e) (record { k = k; passes = passes }) m items told))
    → ((D : List (List Row)) → Agrees m n D (A ++ a ∷ []) → OnTable (value e) (record { k = k; passes = passes }) n D (A ++ a ∷ []) (followed (value e) (record { k = k; passes = passes }) (length D) (items_after (value e) (length D) board.items told) told) (items_after (value e) (length D) board.items told))
    → IsTaKept passes e k room m n (A ++ a ∷ []) (board_then e m board told) (reading_then passes e m (board_then e m board told) told)
kept_with passes e k room m n A a board told same_k same_room fit held sound on_table =
    let V = value e in
    let items : List Item = items_after V m board.items told in
    subst (λ c. IsTaKept passes e k room m n (A ++ a ∷ []) (record { k = c; room = board.room; items = items }) (followed V (record { k = c; passes = passes }) m items told)) (sym same_k)
    (record {
      base = held;
      fit = fit;
      same_k = refl;
      same_room = same_room;
      sound = sound.0;
      rest = sound.1;
      on_table = λ D agrees.
          subst (λ c. OnTable V (record { k = k; passes = passes }) n D (A ++ a ∷ []) (followed V (record { k = k; passes = passes }) c (items_after V c board.items told) told) (items_after V c board.items told)) agrees.lists (on_table D agrees);
    })

-- a machine that is fed a row
pub kept_row : (passes : Rule) (e : Tree) (k room m n : ℕ) (A : List Access) (board : Held) (r : RowProgress) (row : Row) (is_new : Bool) → IsTaKept passes e k room m n A board r
    → r.done ≡ false → length r.objects < m → row.grade ≤ 1000000 → TellsNew A row.object is_new
    → Contains (seen_objects A) row.object ⊎ (length (seen_objects A) < room) → SomeAgrees m n (A ++ Sorted (length r.objects) row.object row.grade ∷ [])
    → IsTaKept passes e k room m n (A ++ Sorted (length r.objects) row.object row.grade ∷ []) (board_then e m board (row_added m r row is_new)) (reading_then passes e m (board_then e m board (row_added m r row is_new)) (row_added m r row is_new))
kept_row passes e k room m n A board r row is_new kept open' short capped new follows some =
    let V = value e in
    let halt : Halt = record { k = k; passes = passes } in
    let a : Access = Sorted (length r.objects) row.object row.grade in
    let r' : RowProgress = row_added m r row is_new in
    let none : length r.grades ≡ 0 = kept.rest.in_row short in
    let sound : IsSound m (A ++ a ∷ []) r' = sound_row m A r row is_new kept.sound short none capped new in
    let fed : IsFed m r' = fed_row m r row is_new kept.base.some_list short kept.sound.same_length in
    kept_with passes e k room m n A a board r' kept.same_k kept.same_room kept.fit (held_more e k room m n A a kept.base follows some) (sound_followed V halt m (A ++ a ∷ []) (items_after V m board.items r') r' kept.base.some_list open' sound fed)
    (λ D agrees.
    let wide : length D ≡ m = agrees.lists in
    let before : Agrees m n D A = agrees_front m n D A (a ∷ []) agrees in
    let then = table_row V halt n D A r board.items row is_new (value-monotone e) (halting_of halt n D kept.fit (held_asked e k room m n A D kept.base before)) open' (omega arith) none kept.sound.same_length
    (λ o h. waiting_seen m (A ++ a ∷ []) r' o sound h)
    (kept.on_table D before) (subst (λ c. Agrees c n D (A ++ a ∷ [])) (sym wide) agrees) new.unseen new.seen in
    subst (λ c. OnTable V halt n D (A ++ a ∷ []) (followed V halt (length D) (items_after V (length D) board.items (row_added c r row is_new)) (row_added c r row is_new)) (items_after V (length D) board.items (row_added c r row is_new))) wide then)

-- a machine that is fed a grade
pub kept_grade : (passes : Rule) (e : Tree) (k room m n : ℕ) (A : List Access) (board : Held) (r : RowProgress) (grade : ℕ) → IsTaKept passes e k room m n A board r → r.done ≡ false
    → m ≤ length r.objects → grade ≤ 1000000 → SomeAgrees m n (A ++ Random (length r.grades) (first_or_zero r.waiting) grade ∷ [])
    → IsTaKept passes e k room m n (A ++ Random (length r.grades) (first_or_zero r.waiting) grade ∷ []) (board_then e m board (grade_added r grade)) (reading_then passes e m (board_then e m board (grade_added r grade)) (grade_added r grade))
kept_grade passes e k room m n A board r grade kept open' whole capped some =
    let V = value e in
    let halt : Halt = record { k = k; passes = passes } in
    let a : Access = Random (length r.grades) (first_or_zero r.waiting) grade in
    let r' : RowProgress = grade_added r grade in
    let rest = kept.rest.after_row open' whole in
    let long : length r.objects ≡ m = omega (arith, kept.sound.within) in
    let sound : IsSound m (A ++ a ∷ []) r' = sound_grade m A r grade kept.sound rest.0 capped in
    let fed : IsFed m r' = fed_grade m r grade long kept.sound.same_length rest.0 rest.1 in
    let seen : Contains (seen_objects A) (first_or_zero r.waiting) = waiting_seen m A r (first_or_zero r.waiting) kept.sound (first_is_member r.waiting rest.0) in
    kept_with passes e k room m n A a board r' kept.same_k kept.same_room kept.fit (held_more e k room m n A a kept.base (seen, waiting_unasked passes e k room m n A board r kept open' whole) some) (sound_followed V halt m (A ++ a ∷ []) (items_after V m board.items r') r' kept.base.some_list open' sound fed)
    (λ D agrees.
    let wide : length D ≡ m = agrees.lists in
    let before : Agrees m n D A = agrees_front m n D A (a ∷ []) agrees in
    table_grade V halt n D A r board.items grade (value-monotone e) (halting_of halt n D kept.fit (held_asked e k room m n A D kept.base before)) open' (omega arith) kept.sound.same_length rest.0 (omega (arith, rest.1)) rest.2
    (λ o h. waiting_seen m (A ++ a ∷ []) r' o sound h)
    (kept.on_table D before) (subst (λ c. Agrees c n D (A ++ a ∷ [])) (sym wide) agrees))
