-- What a machine keeps after one more access.
use Rattle.std.proofs.Common.{◌≡◌, ℕ, ◌+◌, ◌<◌, inl, inr, Bool, true, false, cond, List, [], ◌∷◌, ◌++◌, length, drop, Contains, Option, Some, None, nat_lt, refl, sym, ap, subst, ◌∙◌, arith}
use Rattle.std.proofs.lemmas.Bool.{cases_lt, lt-ltb, le-ltb, ltb-true, ltb-false, lt-leb, le-leb}
use Rattle.ranked_list.specs.declared.row.Row.{Row}
use Rattle.monotone_fn.specs.Tree.{Tree}
use Rattle.topk_theory.specs.declared.access.Access.{Access}
use Rattle.topk_theory.specs.declared.access.Access.TheVariants.{Sorted, Random}
use Rattle.topk_theory.specs.Transcript.{Agrees, random_rows, seen_objects}
use Rattle.topk_theory.specs.Consistent.{SomeAgrees}
use Rattle.topk_theory.specs.Threshold.{IsAsked}
use Rattle.topk_theory.proofs.AgreementLists.{all_from_members}
use Rattle.topk_theory.proofs.Agreement.{agrees_front, random_rows_sorted, seen_objects_random, seen_distinct}
use Rattle.machine_base.specs.Base.{IsHeld, MayFollow}
use Rattle.machine_base.specs.declared.asking.Ask.{Ask}
use Rattle.machine_base.specs.Asking.{ask_from, AreListed, IsAsking, AsksNext, LeavesAsks}
use Rattle.machine_base.proofs.Held.{held_more, held_asked}
use Rattle.machine_base.proofs.Asks.{asks_first, asks_more, leaves_asks, leaves_more}
use Rattle.algorithm_theory.specs.Fagin.{fa_rows, fa_seen, fa_run, known_whole}
use Rattle.fa_core.specs.declared.stage.Stage.{Stage}
use Rattle.fa_core.specs.declared.stage.Stage.TheVariants as stages
use Rattle.fa_core.specs.Course.{asking, common_after, row_ended, row_followed}
use Rattle.fa_core.specs.OnTable.{OnRow, OnTable}
use Rattle.fa_core.specs.Kept.{IsSound, IsFaKept}
use Rattle.fa_core.proofs.Counting.{common_more}
use Rattle.fa_core.proofs.Path.{OnDepth, list_follows, row_follows, stop_counted, depth_follows, rows_made, run_left}

-- ---- what is asked next
sound_asking : (m : ℕ) (A : List Access) (next : Option Ask) → AsksNext m A (seen_objects A) next → IsSound m A (asking next)
sound_asking m A None asks = asks
sound_asking m A (Some ask) asks = asks

on_asking : (k n : ℕ) (D : List (List Row)) (A : List Access) (next : Option Ask) → seen_objects A ≡ fa_seen k D
    → LeavesAsks D A (seen_objects A) (fa_run k D) next → OnTable k n D A (asking next)
on_asking k n D A None seen left = record { seen = seen; made = left }
on_asking k n D A (Some ask) seen left = record { seen = seen; made = left }

all_listed : (A : List Access) → AreListed A (seen_objects A)
all_listed A = record { seen = all_from_members (Contains (seen_objects A)) (seen_objects A) (λ o c. c); apart = seen_distinct A }

first_asked : (k m n : ℕ) (D : List (List Row)) (A : List Access) → length D ≡ m → A ≡ fa_rows k D → OnTable k n D A (asking (ask_from m A (seen_objects A) 0))
first_asked k m n D A lists is =
    subst (λ c. OnTable k n D A (asking (ask_from c A (seen_objects A) 0))) lists
    (on_asking k n D A (ask_from (length D) A (seen_objects A) 0) (ap seen_objects is)
    (leaves_asks D A (fa_run k D) (seen_objects A) (seen_objects A) 0 refl (run_left k D A is)))

-- ---- after all of a depth
depth_over : (e : Tree) (k room m n : ℕ) (A : List Access) (depth common : ℕ) → IsHeld e k room m n A → ((other : ℕ) → random_rows other A ≡ [])
    → common ≡ known_whole m A → ((D : List (List Row)) → Agrees m n D A → OnDepth k n D A depth) → IsFaKept e k room m n A (row_ended k m A depth common)
depth_over e k room m n A depth common held unasked counted on = by_count (nat_lt common k) refl
  where
    next : Stage
    next = stages.Row 0 (depth + 1) common

    asks : Stage
    asks = asking (ask_from m A (seen_objects A) 0)

    asked : (D : List (List Row)) → Agrees m n D A → IsAsked k n D
    asked D agrees = held_asked e k room m n A D held agrees

    shown : (D : List (List Row)) → Agrees m n D A → common ≡ known_whole (length D) A
    shown D agrees = counted ∙ ap (λ c. known_whole c A) (sym agrees.lists)

    by_count : (b : Bool) → nat_lt common k ≡ b → IsFaKept e k room m n A (cond {A = Stage} (nat_lt common k) next asks)
    by_count true few =
        subst (λ b. IsFaKept e k room m n A (cond {A = Stage} b next asks)) (sym few) (record {
          base = held;
          sound = record { listed = omega (arith, held.some_list); unasked = unasked; counted = counted };
          on_table = λ D agrees.
              depth_follows k n D A depth (asked D agrees) (on D agrees) (stop_counted k n D A depth common (asked D agrees) (on D agrees) (shown D agrees) ∙ lt-leb k common (ltb-true common k few));
        })
    by_count false enough =
        subst (λ b. IsFaKept e k room m n A (cond {A = Stage} b next asks)) (sym enough) (record {
          base = held;
          sound = sound_asking m A (ask_from m A (seen_objects A) 0) (asks_first m A (seen_objects A) (all_listed A));
          on_table = λ D agrees.
              first_asked k m n D A agrees.lists (rows_made k n D A depth (asked D agrees) (on D agrees) (stop_counted k n D A depth common (asked D agrees) (on D agrees) (shown D agrees) ∙ le-leb k common (ltb-false common k enough)));
        })

-- ---- one row more
at_length : (m n : ℕ) (D : List (List Row)) (A : List Access) → Agrees m n D A → Agrees (length D) n D A
at_length m n D A agrees = subst (λ c. Agrees c n D A) (sym agrees.lists) agrees

pub row_kept : (e : Tree) (k room m n : ℕ) (A : List Access) (list depth common object grade : ℕ) → IsFaKept e k room m n A (stages.Row list depth common)
    → SomeAgrees m n (A ++ Sorted list object grade ∷ []) → MayFollow room A (Sorted list object grade)
    → IsFaKept e k room m n (A ++ Sorted list object grade ∷ []) (row_followed k m (A ++ Sorted list object grade ∷ []) list depth (common_after m (A ++ Sorted list object grade ∷ []) object common))
row_kept e k room m n A list depth common object grade kept some follows =
    elim (cases_lt (list + 1) m) [
      | inl short ↦
          subst (λ b. IsFaKept e k room m n A' (cond {A = Stage} b next over)) (sym (lt-ltb (list + 1) m short)) (record {
            base = base;
            sound = record { listed = short; unasked = unasked; counted = counted };
            on_table = λ D agrees. list_follows k n D A list depth object grade (before D agrees) (within D agrees) (at_length m n D A' agrees);
          })
      | inr whole ↦
          subst (λ b. IsFaKept e k room m n A' (cond {A = Stage} b next over)) (sym (le-ltb (list + 1) m whole))
          (depth_over e k room m n A' depth now base unasked counted (λ D agrees.
          row_follows k n D A list depth object grade (before D agrees) (within D agrees) (omega (arith, whole, agrees.lists)) (at_length m n D A' agrees)))
    ]
  where
    A' : List Access
    A' = A ++ Sorted list object grade ∷ []

    now : ℕ
    now = common_after m A' object common

    next : Stage
    next = stages.Row (list + 1) depth now

    over : Stage
    over = row_ended k m A' depth now

    base : IsHeld e k room m n A'
    base = held_more e k room m n A (Sorted list object grade) kept.base follows some

    unasked : (other : ℕ) → random_rows other A' ≡ []
    unasked other = random_rows_sorted other list A object grade ∙ kept.sound.unasked other

    counted : now ≡ known_whole m A'
    counted = common_more m n A list object grade common some (kept.sound.unasked list) kept.sound.listed kept.sound.counted

    before : (D : List (List Row)) → Agrees m n D A' → OnRow k n D A list depth
    before D agrees = kept.on_table D (agrees_front m n D A (Sorted list object grade ∷ []) agrees)

    within : (D : List (List Row)) → Agrees m n D A' → list < length D
    within D agrees = omega (arith, kept.sound.listed, agrees.lists)

-- ---- one grade more
pub grade_kept : (e : Tree) (k room m n : ℕ) (A : List Access) (ask : Ask) (grade : ℕ) → IsFaKept e k room m n A (stages.Asking ask)
    → SomeAgrees m n (A ++ Random ask.list ask.object grade ∷ []) → MayFollow room A (Random ask.list ask.object grade)
    → IsFaKept e k room m n (A ++ Random ask.list ask.object grade ∷ []) (asking (ask_from m (A ++ Random ask.list ask.object grade ∷ []) (drop ask.place (seen_objects (A ++ Random ask.list ask.object grade ∷ []))) ask.place))
grade_kept e k room m n A ask grade kept some follows =
    let a : Access = Random ask.list ask.object grade in
    let same : seen_objects (A ++ a ∷ []) ≡ seen_objects A = seen_objects_random A ask.list ask.object grade in
    let is : IsAsking m A (seen_objects A) ask = kept.sound in
    let next : Option Ask = ask_from m (A ++ a ∷ []) (drop ask.place (seen_objects (A ++ a ∷ []))) ask.place in
    record {
      base = held_more e k room m n A a kept.base follows some;
      sound = sound_asking m (A ++ a ∷ []) next (subst (λ os. AsksNext m (A ++ a ∷ []) os (ask_from m (A ++ a ∷ []) (drop ask.place os) ask.place)) (sym same) (asks_more m A (seen_objects A) ask grade is));
      on_table = λ D agrees.
          let on = kept.on_table D (agrees_front m n D A (a ∷ []) agrees) in
          on_asking k n D (A ++ a ∷ []) next (same ∙ on.seen)
          (subst (λ os. LeavesAsks D (A ++ a ∷ []) os (fa_run k D) (ask_from m (A ++ a ∷ []) (drop ask.place os) ask.place)) (sym same) (leaves_more m n D A (fa_run k D) (seen_objects A) ask grade is agrees on.made));
    }
