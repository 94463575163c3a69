-- A machine at the beginning, and one that is told a row.
use Rattle.std.proofs.Common.{◌≡◌, ℕ, ◌+◌, ◌<◌, ◌≤◌, inl, inr, Bool, true, false, min, cond, List, [], ◌∷◌, ◌++◌, length, Contains, nat_le, refl, sym, ap, subst, ◌∙◌, arith}
use Rattle.std.proofs.lemmas.List.Elements.{Contains-append_right}
use Rattle.std.proofs.lemmas.Bool.{cases_Bool, cases_lt, lt-ltb, le-ltb, true≢false, false≢true, and_parts, leb-true}
use Rattle.ranked_list.specs.declared.row.Row.{Row}
use Rattle.ranked_list.specs.declared.item.Item.{Item}
use Rattle.ranked_list.specs.declared.need.Need.TheVariants.{Row as RowAt, Done}
use Rattle.monotone_fn.specs.declared.costs.Costs.{Costs}
use Rattle.monotone_fn.specs.Tree.{Tree}
use Rattle.monotone_fn.specs.Value.{value}
use Rattle.monotone_fn.proofs.Laws.{value-monotone}
use Rattle.topk_theory.specs.declared.access.Access.{Access}
use Rattle.topk_theory.specs.declared.access.Access.TheVariants.{Sorted}
use Rattle.topk_theory.specs.Transcript.{Agrees, seen_objects}
use Rattle.topk_theory.specs.Consistent.{SomeAgrees}
use Rattle.topk_theory.specs.Threshold.{IsAsked}
use Rattle.topk_theory.specs.NoRandom.{is_quiet, nra_run_to}
use Rattle.topk_theory.proofs.AgreementLists.{contains_here}
use Rattle.topk_theory.proofs.Agreement.{agrees_front, seen_objects_old, seen_objects_new}
use Rattle.topk_theory.proofs.AgreementNames.{has, has_contains, has_not}
use Rattle.access_log.specs.Log.{Log}
use Rattle.machine_base.specs.Machine.{MachineState, IsBegun, MayBeNextRow, HasRoomFor, Takes, row_access}
use Rattle.machine_base.specs.declared.base.Base.{Base}
use Rattle.machine_base.specs.Base.{shown, IsHeld, Holds, IsReserved, IsTold, CanTake, MayFollow}
use Rattle.machine_base.specs.Depths.{IsReached}
use Rattle.machine_base.proofs.Held.{held_asked, held_more, some_before, carried, takes}
use Rattle.machine_base.proofs.Reserve.{row_can}
use Rattle.machine_base.proofs.Depths.{first_reached}
use Rattle.nra_core.specs.declared.place.Place.{Place}
use Rattle.nra_core.specs.Place.{need_at, place_after}
use Rattle.nra_core.specs.Quiet.{is_quiet_seen}
use Rattle.nra_core.specs.OnTable.{quiet_at, OnRow}
use Rattle.nra_core.specs.Kept.{IsNraKept, Keeps, Stands}
use Rattle.nra_core.proofs.Shown.{quiet_same}
use Rattle.nra_core.specs.declared.late.LateBounds.{LateBounds}
use Rattle.nra_core.specs.LatePlaces.{IsLateAfter, WasLate}
use Rattle.nra_core.proofs.Steps.{on_row, row_of, list_follows, depth_made, run_made, depth_follows}
use Rattle.nra_core.proofs.Runs.{need_of_row, need_when_done, kept_depth}

-- at the beginning
pub kept_start : (e : Tree) (k room m n : ℕ) (late : LateBounds) → IsHeld e k room m n [] → IsLateAfter e m [] late → late.k ≡ k
    → IsNraKept e k room m n [] late (record { list = 0; depth = 1; done = false })
kept_start e k room m n late held bounds asked = record {
  base = held;
  in_row = omega (arith, held.some_list);
  bounds = bounds;
  asked = asked;
  enough = λ done. absurd (false≢true done);
  on_table = λ D agrees. record {
    at = first_reached (quiet_at (value e) k D) n (omega (arith, held.posed.positive, held.posed.fits));
    made = refl;
  };
}

pub stands_start : (e : Tree) (k n room : ℕ) (costs : Costs) (base : Base) (late : LateBounds) (items : List Item) (capacity : ℕ)
    → IsBegun e k n room costs (shown base Done) → Holds base → IsReserved base
    → ((e : Tree) (m : ℕ) → IsLateAfter e m [] late) → late.k ≡ k → late.first.room ≡ min room n → items ≡ [] → min room n ≤ capacity → Stands base late items capacity (record { list = 0; depth = 1; done = false })
stands_start e k n room costs base late items capacity begun held reserved bounds asked bounded none roomy =
    let m : ℕ = base.transcript.lists in
    let count : ℕ = base.transcript.count in
    let place : Place = record { list = 0; depth = 1; done = false } in
    record {
      kept = subst (λ A. IsNraKept base.expr base.k base.room m count A late place) (sym begun.none)
          (kept_start base.expr base.k base.room m count late (subst (IsHeld base.expr base.k base.room m count) begun.none held) (bounds base.expr m) (asked ∙ sym begun.asked));
      reserved = reserved;
      bounded = omega (arith, begun.in_force);
      none = none;
      roomy = omega (arith, begun.in_force);
    }

-- where the place is after one more row
after_list : (m : ℕ) (quiet : Bool) (place : Place) → place.list + 1 < m → place_after m quiet place ≡ record place { list = place.list + 1 }
after_list m quiet place short = ap (λ b. cond {A = Place} b (record place { list = place.list + 1 }) (cond {A = Place} quiet (record place { done = true }) (record { list = 0; depth = place.depth + 1; done = false }))) (lt-ltb (place.list + 1) m short)

after_depth : (m : ℕ) (quiet : Bool) (place : Place) → m ≤ place.list + 1
    → place_after m quiet place ≡ cond {A = Place} quiet (record place { done = true }) (record { list = 0; depth = place.depth + 1; done = false })
after_depth m quiet place whole = ap (λ b. cond {A = Place} b (record place { list = place.list + 1 }) (cond {A = Place} quiet (record place { done = true }) (record { list = 0; depth = place.depth + 1; done = false }))) (le-ltb (place.list + 1) m whole)

-- after the last list it is the end where it is quiet, and else in the first list one depth below
pub place_made : (m : ℕ) (quiet : Bool) (place : Place) → m ≤ place.list + 1 → true ≡ quiet → record place { done = true } ≡ place_after m quiet place
place_made m quiet place whole is =
    ap (λ b. cond {A = Place} b (record place { done = true }) (record { list = 0; depth = place.depth + 1; done = false })) is ∙ sym (after_depth m quiet place whole)

pub place_below : (m : ℕ) (quiet : Bool) (place below : Place) → m ≤ place.list + 1 → false ≡ quiet
    → below ≡ record { list = 0; depth = place.depth + 1; done = false } → below ≡ place_after m quiet place
place_below m quiet place below whole is next =
    next ∙ ap (λ b. cond {A = Place} b (record place { done = true }) (record { list = 0; depth = place.depth + 1; done = false })) is ∙ sym (after_depth m quiet place whole)

-- what a table that agrees with the row knows of the machine before it
record IsAfterRow (e : Tree) (k n : ℕ) (before A : List Access) (place : Place) (D : List (List Row)) : Type 0 where
  agrees : Agrees (length D) n D A
  on : OnRow (value e) k n D before place
  in_row : place.list < length D

row_before : (e : Tree) (k room m n : ℕ) (A : List Access) (late : LateBounds) (place : Place) (a : Access) (D : List (List Row))
    → IsNraKept e k room m n A late place → place.done ≡ false → Agrees m n D (A ++ a ∷ []) → IsAfterRow e k n A (A ++ a ∷ []) place D
row_before e k room m n A late place a D kept open' agrees = record {
  agrees = subst (λ c. Agrees c n D (A ++ a ∷ [])) (sym agrees.lists) agrees;
  on = row_of (value e) k n D A place open' (kept.on_table D (agrees_front m n D A (a ∷ []) agrees));
  in_row = omega (arith, kept.in_row, agrees.lists);
}

-- a row that isn't the last of its depth
kept_list : (e : Tree) (k room m n : ℕ) (A : List Access) (late late' : LateBounds) (place : Place) (object grade : ℕ) → IsNraKept e k room m n A late place
    → place.done ≡ false → SomeAgrees m n (A ++ Sorted place.list object grade ∷ []) → MayFollow room A (Sorted place.list object grade)
    → IsLateAfter e m (A ++ Sorted place.list object grade ∷ []) late' → late'.k ≡ k → place.list + 1 < m → IsNraKept e k room m n (A ++ Sorted place.list object grade ∷ []) late' (record place { list = place.list + 1 })
kept_list e k room m n A late late' place object grade kept open' some follows bounds asked short =
    let a : Access = Sorted place.list object grade in
    record {
      base = held_more e k room m n A a kept.base follows some;
      in_row = short;
      bounds = bounds;
      asked = asked;
      enough = λ done. absurd (true≢false (sym done ∙ open'));
      on_table = λ D agrees.
          let t = row_before e k room m n A late place a D kept open' agrees in
          on_row (value e) k n D (A ++ a ∷ []) (record place { list = place.list + 1 }) open' (list_follows (value e) k n D A place object grade t.on t.in_row t.agrees);
    }

-- after the last row of a depth a table that agrees is quiet where the transcript shows it
record IsRead (e : Tree) (k n : ℕ) (place : Place) (A : List Access) (D : List (List Row)) (quiet : Bool) : Type 0 where
  asked : IsAsked k n D
  at : IsReached (quiet_at (value e) k D) n place.depth
  read : A ≡ nra_run_to D place.depth
  told : is_quiet (value e) k (length D) D A ≡ quiet

read_of : (e : Tree) (k room m n : ℕ) (A : List Access) (late : LateBounds) (place : Place) (object grade : ℕ) (quiet : Bool) (D : List (List Row))
    → IsNraKept e k room m n A late place → place.done ≡ false → IsHeld e k room m n (A ++ Sorted place.list object grade ∷ []) → m ≤ place.list + 1
    → is_quiet_seen (value e) k m n (A ++ Sorted place.list object grade ∷ []) ≡ quiet → Agrees m n D (A ++ Sorted place.list object grade ∷ [])
    → IsRead e k n place (A ++ Sorted place.list object grade ∷ []) D quiet
read_of e k room m n A late place object grade quiet D kept open' base last shows agrees =
    let V = value e in
    let a : Access = Sorted place.list object grade in
    let t = row_before e k room m n A late place a D kept open' agrees in
    record {
      asked = held_asked e k room m n (A ++ a ∷ []) D base agrees;
      at = t.on.at;
      read = depth_made V k n D A place object grade t.on t.in_row (omega (arith, agrees.lists)) t.agrees;
      told = quiet_same V k n D (A ++ a ∷ []) (omega (arith, base.some_list, agrees.lists)) base.named_seen t.agrees ∙ ap (λ c. is_quiet_seen V k c n (A ++ a ∷ [])) agrees.lists ∙ shows;
    }

-- where it is quiet at least k are seen
enough_seen : (V : List ℕ → ℕ) (k m n : ℕ) (A : List Access) → is_quiet_seen V k m n A ≡ true → k ≤ length (seen_objects A)
enough_seen V k m n A quiet = leb-true k (length (seen_objects A)) (and_parts (nat_le k (length (seen_objects A))) _ quiet).0

-- the last row of a depth
kept_end : (e : Tree) (k room m n : ℕ) (A : List Access) (late late' : LateBounds) (place : Place) (object grade : ℕ) (quiet : Bool)
    → IsNraKept e k room m n A late place → place.done ≡ false → IsHeld e k room m n (A ++ Sorted place.list object grade ∷ [])
    → IsLateAfter e m (A ++ Sorted place.list object grade ∷ []) late' → late'.k ≡ k → m ≤ place.list + 1 → is_quiet_seen (value e) k m n (A ++ Sorted place.list object grade ∷ []) ≡ quiet
    → IsNraKept e k room m n (A ++ Sorted place.list object grade ∷ []) late' (cond {A = Place} quiet (record place { done = true }) (record { list = 0; depth = place.depth + 1; done = false }))
kept_end e k room m n A late late' place object grade true kept open' base bounds asked last shows = record {
  base = base;
  in_row = kept.in_row;
  bounds = bounds;
  asked = asked;
  enough = λ done. enough_seen (value e) k m n (A ++ Sorted place.list object grade ∷ []) shows;
  on_table = λ D agrees.
      let r = read_of e k room m n A late place object grade true D kept open' base last shows agrees in
      run_made (value e) k n D (A ++ Sorted place.list object grade ∷ []) place.depth (value-monotone e) r.asked r.at r.read r.told;
}
kept_end e k room m n A late late' place object grade false kept open' base bounds asked last shows = record {
  base = base;
  in_row = omega (arith, base.some_list);
  bounds = bounds;
  asked = asked;
  enough = λ done. absurd (false≢true done);
  on_table = λ D agrees.
      let r = read_of e k room m n A late place object grade false D kept open' base last shows agrees in
      depth_follows (value e) k n D (A ++ Sorted place.list object grade ∷ []) place.depth (value-monotone e) r.asked r.at r.read r.told;
}

-- a machine that is told a row
kept_row : (e : Tree) (k room m n : ℕ) (A : List Access) (late late' : LateBounds) (place : Place) (object grade : ℕ) → IsNraKept e k room m n A late place
    → place.done ≡ false → SomeAgrees m n (A ++ Sorted place.list object grade ∷ []) → MayFollow room A (Sorted place.list object grade)
    → IsLateAfter e m (A ++ Sorted place.list object grade ∷ []) late' → late'.k ≡ k
    → IsNraKept e k room m n (A ++ Sorted place.list object grade ∷ []) late' (place_after m (is_quiet_seen (value e) k m n (A ++ Sorted place.list object grade ∷ [])) place)
kept_row e k room m n A late late' place object grade kept open' some follows bounds asked =
    let A' : List Access = A ++ Sorted place.list object grade ∷ [] in
    let quiet : Bool = is_quiet_seen (value e) k m n A' in
    elim (cases_lt (place.list + 1) m) [
      | inl short ↦
          subst (λ (p : Place). IsNraKept e k room m n A' late' p) (sym (after_list m quiet place short))
          (kept_list e k room m n A late late' place object grade kept open' some follows bounds asked short)
      | inr whole ↦
          subst (λ (p : Place). IsNraKept e k room m n A' late' p) (sym (after_depth m quiet place whole))
          (kept_end e k room m n A late late' place object grade quiet kept open' (held_more e k room m n A (Sorted place.list object grade) kept.base follows some) bounds asked whole refl)
    ]

-- ---- what the calls need
-- a row may be next only where the run isn't made
pub next_row_is : (log : Log) (place : Place) (row : Row) → MayBeNextRow log (need_at place) row → place.done ≡ false
next_row_is log place row may =
    elim (cases_Bool place.done) [
      | inl done ↦ absurd (subst (λ need. MayBeNextRow log need row) (need_when_done place done) may)
      | inr open' ↦ open'
    ]

-- the row that is needed can be told
pub can_row : (base : Base) (late : LateBounds) (place : Place) (row : Row) → Keeps base late place → MayBeNextRow base.transcript (need_at place) row
    → HasRoomFor (shown base Done) row.object → CanTake base (Sorted place.list row.object row.grade)
can_row base late place row kept may fits =
    let open' = next_row_is base.transcript place row may in
    let only : MayBeNextRow base.transcript (RowAt place.list place.depth) row = subst (λ need. MayBeNextRow base.transcript need row) (need_of_row place open') may in
    row_can base place.list row.object row.grade kept.base only fits

-- a row's object is seen then
seen_then : (A : List Access) (list object grade : ℕ) → Contains (seen_objects (A ++ Sorted list object grade ∷ [])) object
seen_then A list object grade =
    elim (cases_Bool (has object (seen_objects A))) [
      | inl t ↦ (let there = has_contains object (seen_objects A) t in subst (λ os. Contains os object) (sym (seen_objects_old A list object grade there)) there)
      | inr f ↦ subst (λ os. Contains os object) (sym (seen_objects_new A list object grade (has_not object (seen_objects A) f))) (Contains-append_right (seen_objects A) (object ∷ []) object (contains_here object []))
    ]

-- what a row's last steps need
pub record IsReady (after : Base) (late : LateBounds) (place : Place) (object : ℕ) : Type 0 where
  pub was : WasLate after.expr after.transcript object late
  pub in_row : place.list < after.transcript.lists
  pub deep : place.depth ≤ 200000

pub ready : (before after : Base) (late : LateBounds) (items : List Item) (capacity : ℕ) (place : Place) (row : Row) → Stands before late items capacity place
    → MayBeNextRow before.transcript (need_at place) row → IsTold (Sorted place.list row.object row.grade) before after → Holds after
    → IsReady after late place row.object
ready before after late items capacity place row stands may tells held =
    let kept = stands.kept in
    let A = before.transcript.accesses in
    let a : Access = Sorted place.list row.object row.grade in
    let fits : length (seen_objects after.transcript.accesses) ≤ after.room = held.roomy in
    let room = stands.bounded in
    let same = tells.room in
    record {
      was = record {
        before = A;
        access = a;
        told = tells.log.accesses;
        named = refl;
        seen = subst (λ B. Contains (seen_objects B) row.object) (sym tells.log.accesses) (seen_then A place.list row.object row.grade);
        room = omega arith;
        kept = subst (λ e. IsLateAfter e after.transcript.lists A late) (sym tells.expr) (subst (λ m. IsLateAfter before.expr m A late) (sym tells.log.lists) kept.bounds);
      };
      in_row = omega (arith, kept.in_row, tells.log.lists);
      deep = omega (arith, kept_depth before late place kept (next_row_is before.transcript place row may), kept.base.counted);
    }

pub row_kept : (before after : Base) (late late' : LateBounds) (place place' : Place) (row : Row) → Keeps before late place
    → MayBeNextRow before.transcript (need_at place) row → HasRoomFor (shown before Done) row.object
    → IsTold (Sorted place.list row.object row.grade) before after
    → SomeAgrees after.transcript.lists after.transcript.count after.transcript.accesses → IsLateAfter after.expr after.transcript.lists after.transcript.accesses late' → late'.k ≡ after.k
    → place' ≡ place_after after.transcript.lists (is_quiet_seen (value after.expr) after.k after.transcript.lists after.transcript.count after.transcript.accesses) place → Keeps after late' place'
row_kept before after late late' place place' row kept may follows tells some bounds asked is_place =
    let A = before.transcript.accesses in
    let a : Access = Sorted place.list row.object row.grade in
    let m : ℕ = before.transcript.lists in
    let n : ℕ = before.transcript.count in
    let some' : SomeAgrees m n (A ++ a ∷ []) = some_before a before after tells some in
    let then : IsLateAfter after.expr after.transcript.lists after.transcript.accesses late' → late'.k ≡ after.k
    → Keeps after late' (place_after after.transcript.lists (is_quiet_seen (value after.expr) after.k after.transcript.lists after.transcript.count after.transcript.accesses) place) =
    carried (λ e k room c d B. IsLateAfter e c B late' → late'.k ≡ k → IsNraKept e k room c d B late' (place_after c (is_quiet_seen (value e) k c d B) place)) a before after tells
    (λ b q. kept_row before.expr before.k before.room m n A late late' place row.object row.grade kept (next_row_is before.transcript place row may) some' follows b q) in
    subst (λ (p : Place). Keeps after late' p) (sym is_place) (then bounds asked)

-- what is told of a row
pub row_taken : (before after : Base) (place place' : Place) (row : Row) (t : MachineState) → shown before (need_at place) ≡ t
    → MayBeNextRow before.transcript (need_at place) row → HasRoomFor (shown before Done) row.object
    → IsTold (Sorted place.list row.object row.grade) before after → HasRoomFor t row.object × Takes (row_access t.need row) t (shown after (need_at place'))
row_taken before after place place' row t is may room_for tells =
    let access : row_access (need_at place) row ≡ Sorted place.list row.object row.grade = ap (λ need. row_access need row) (need_of_row place (next_row_is before.transcript place row may)) in
    subst (λ (s : MachineState). HasRoomFor s row.object × Takes (row_access s.need row) s (shown after (need_at place'))) is (
      room_for,
      takes (row_access (need_at place) row) before after (need_at place) (need_at place') (subst (λ a. IsTold a before after) (sym access) tells),
    )
