-- What a machine keeps after one more access.
use Rattle.std.proofs.Common.{◌≡◌, ℕ, ◌+◌, ◌%◌, ◌==◌, ◌<◌, inl, inr, Bool, true, false, cond, List, [], ◌∷◌, ◌++◌, length, drop, Contains, Option, Some, None, refl, sym, ap, subst, ◌∙◌, arith, append-nil}
use Rattle.std.proofs.lemmas.Bool.{cases_lt, lt-ltb, le-ltb}
use Rattle.std.proofs.lemmas.Option.{same_Some}
use Rattle.std.proofs.lemmas.List.Elements.{All-contains}
use Rattle.ranked_list.specs.declared.row.Row.{Row}
use Rattle.ranked_list.specs.declared.item.Item.{Item}
use Rattle.monotone_fn.specs.Tree.{Tree}
use Rattle.monotone_fn.specs.Value.{value}
use Rattle.monotone_fn.proofs.Laws.{value-monotone}
use Rattle.topk_theory.specs.declared.access.Access.{Access}
use Rattle.topk_theory.specs.declared.access.Access.TheVariants.{Sorted, Random}
use Rattle.topk_theory.specs.Order.{IsFirstK}
use Rattle.topk_theory.specs.Transcript.{Agrees, seen_objects}
use Rattle.topk_theory.specs.Consistent.{SomeAgrees}
use Rattle.topk_theory.specs.Threshold.{item_objects}
use Rattle.topk_theory.specs.NoRandom.{seen_items, first_seen, is_quiet}
use Rattle.topk_theory.specs.Combined.{unknown_lists, choice, phase_after, ca_run_to, ca_blocks, ca_run}
use Rattle.topk_theory.proofs.AgreementLists.{all_from_members, contains_map_from}
use Rattle.topk_theory.proofs.Agreement.{agrees_front}
use Rattle.topk_theory.proofs.FirstK.{first_k-is}
use Rattle.topk_theory.proofs.NoRandomLaws.{items_distinct, first_distinct}
use Rattle.topk_theory.proofs.NoRandomTop.{object_of_seen}
use Rattle.topk_theory.proofs.ThresholdTop.{objects_from_distinct}
use Rattle.topk_theory.proofs.ThresholdRun.{seen_more}
use Rattle.topk_theory.proofs.CombinedChoice.{choice_law}
use Rattle.nra_core.specs.Quiet.{is_quiet_seen}
use Rattle.nra_core.proofs.Shown.{quiet_same}
use Rattle.machine_base.specs.Base.{IsHeld, MayFollow}
use Rattle.machine_base.specs.Depths.{IsReached}
use Rattle.machine_base.specs.declared.asking.Ask.{Ask}
use Rattle.machine_base.specs.Asking.{next_unknown, ask_from, IsAskedFor, AreListed, IsAsking}
use Rattle.machine_base.proofs.Held.{held_more, held_asked}
use Rattle.machine_base.proofs.Unknown.{no_unknown}
use Rattle.machine_base.proofs.Asks.{grade_given, missing_none, object_asked, asks_first, asks_more, leaves_asks, leaves_more, next_below}
use Rattle.ca_core.specs.declared.stage.Stage.TheVariants as stages
use Rattle.ca_core.specs.Course.{Course, finish_of, block_ended, grade_taken, phase_begun, row_ended, moved}
use Rattle.ca_core.specs.OnTable.{quiet_at, OnChoice, OnTable}
use Rattle.ca_core.specs.Kept.{IsCaKept}
use Rattle.ca_core.proofs.Asks.{sound_finish, on_finish}
use Rattle.ca_core.proofs.Path.{list_follows, row_follows, nothing_between, nobody_asked, one_asked, blocks_made, run_left, depth_follows}

-- all of a depth is read; its row is read
record OnDepth (V : List ℕ → ℕ) (k phase n : ℕ) (D : List (List Row)) (A : List Access) (depth : ℕ) : Type 0 where
  at : IsReached (quiet_at V k phase D) n depth
  made : A ≡ ca_run_to V k phase D depth

record OnRowEnd (V : List ℕ → ℕ) (k phase n : ℕ) (D : List (List Row)) (A : List Access) (depth : ℕ) : Type 0 where
  at : IsReached (quiet_at V k phase D) n depth
  made : A ++ phase_after V k phase depth D A ≡ ca_run_to V k phase D depth

-- the first k are listed
first_listed : (V : List ℕ → ℕ) (k m : ℕ) (A : List Access) → AreListed A (item_objects (first_seen V k m A))
first_listed V k m A =
    let first : IsFirstK k (seen_items V m A) (first_seen V k m A) = first_k-is k (seen_items V m A) (items_distinct V m A) in
    record {
      seen = all_from_members (Contains (seen_objects A)) (item_objects (first_seen V k m A)) (λ o c.
          let from = contains_map_from (λ (item : Item). item.object) (first_seen V k m A) o c in
          subst (λ x. Contains (seen_objects A) x) from.2 (object_of_seen V m A from.0 (All-contains (Contains (seen_items V m A)) (first_seen V k m A) from.0 first.held from.1)).0);
      apart = objects_from_distinct (first_seen V k m A) (first_distinct V k m A);
    }

quiet_on : (e : Tree) (k room m n : ℕ) (A : List Access) (D : List (List Row)) (b : Bool) → IsHeld e k room m n A → Agrees m n D A
    → is_quiet_seen (value e) k m n A ≡ b → is_quiet (value e) k (length D) D A ≡ b
quiet_on e k room m n A D b held agrees q =
    quiet_same (value e) k n D A (omega (arith, held.some_list, agrees.lists)) held.named_seen (subst (λ c. Agrees c n D A) (sym agrees.lists) agrees)
    ∙ subst (λ c. is_quiet_seen (value e) k c n A ≡ b) (sym agrees.lists) q

finish_on : (e : Tree) (k phase room m n : ℕ) (A : List Access) (D : List (List Row)) (depth : ℕ) → IsHeld e k room m n A → Agrees m n D A
    → OnDepth (value e) k phase n D A depth → is_quiet_seen (value e) k m n A ≡ true
    → OnTable (value e) k phase n D A (item_objects (first_seen (value e) k m A)) (finish_of (ask_from m A (item_objects (first_seen (value e) k m A)) 0))
finish_on e k phase room m n A D depth held agrees on q =
    let V = value e in
    let blocks : A ≡ ca_blocks V k phase D = blocks_made V k phase n depth D A (value-monotone e) (held_asked e k room m n A D held agrees) on.at on.made (quiet_on e k room m n A D true held agrees q) in
    let first : List ℕ = item_objects (first_seen V k (length D) A) in
    subst (λ c. OnTable V k phase n D A (item_objects (first_seen V k c A)) (finish_of (ask_from c A (item_objects (first_seen V k c A)) 0))) agrees.lists
    (on_finish V k phase n D A first (ask_from (length D) A first 0) (ap (λ B. item_objects (first_seen V k (length D) B)) blocks)
    (leaves_asks D A (ca_run V k phase D) first first 0 refl (run_left V k phase D A blocks)))

-- after all of a depth
ended : (e : Tree) (k phase room m n : ℕ) (A : List Access) (depth : ℕ) (first : List Item) → IsHeld e k room m n A → item_objects first ≡ []
    → ((D : List (List Row)) → Agrees m n D A → OnDepth (value e) k phase n D A depth)
    → IsCaKept e k phase room m n A (block_ended (value e) k m n A depth first).first (block_ended (value e) k m n A depth first).stage
ended e k phase room m n A depth first held none on = by_quiet (is_quiet_seen (value e) k m n A) refl
  where
    finish : Course
    finish = record { stage = finish_of (ask_from m A (item_objects (first_seen (value e) k m A)) 0); first = first_seen (value e) k m A }

    next : Course
    next = record { stage = stages.Row 0 (depth + 1); first = first }

    by_quiet : (b : Bool) → is_quiet_seen (value e) k m n A ≡ b
        → IsCaKept e k phase room m n A (cond {A = Course} (is_quiet_seen (value e) k m n A) finish next).first (cond {A = Course} (is_quiet_seen (value e) k m n A) finish next).stage
    by_quiet true q =
        subst (λ b. IsCaKept e k phase room m n A (cond {A = Course} b finish next).first (cond {A = Course} b finish next).stage) (sym q) (record {
          base = held;
          sound = sound_finish m A (item_objects (first_seen (value e) k m A)) (ask_from m A (item_objects (first_seen (value e) k m A)) 0) (asks_first m A (item_objects (first_seen (value e) k m A)) (first_listed (value e) k m A));
          on_table = λ D agrees. finish_on e k phase room m n A D depth held agrees (on D agrees) q;
        })
    by_quiet false q =
        subst (λ b. IsCaKept e k phase room m n A (cond {A = Course} b finish next).first (cond {A = Course} b finish next).stage) (sym q) (record {
          base = held;
          sound = (omega (arith, held.some_list), none);
          on_table = λ D agrees.
              let o = on D agrees in
              depth_follows (value e) k phase n depth D A (value-monotone e) (held_asked e k room m n A D held agrees) o.at o.made (quiet_on e k room m n A D false held agrees q);
        })

-- with the next unknown grade of the choice, if it has one
taken : (e : Tree) (k phase room m n : ℕ) (A : List Access) (depth : ℕ) (first : List Item) (object : ℕ) → IsHeld e k room m n A → item_objects first ≡ []
    → Contains (seen_objects A) object → ((D : List (List Row)) → Agrees m n D A → OnChoice (value e) k phase n D A object depth)
    → IsCaKept e k phase room m n A (grade_taken (value e) k m n A depth first object (next_unknown m A object)).first (grade_taken (value e) k m n A depth first object (next_unknown m A object)).stage
taken e k phase room m n A depth first object held none seen on = by_next (next_unknown m A object) refl
  where
    by_next : (next : Option ℕ) → next_unknown m A object ≡ next
        → IsCaKept e k phase room m n A (grade_taken (value e) k m n A depth first object (next_unknown m A object)).first (grade_taken (value e) k m n A depth first object (next_unknown m A object)).stage
    by_next None is =
        subst (λ found. IsCaKept e k phase room m n A (grade_taken (value e) k m n A depth first object found).first (grade_taken (value e) k m n A depth first object found).stage) (sym is)
        (ended e k phase room m n A depth first held none (λ D agrees.
        let o = on D agrees in
        record {
          at = o.at;
          made = sym (append-nil A) ∙ ap (λ xs. A ++ xs) (sym (missing_none D A object (subst (λ c. unknown_lists c A object ≡ []) (sym agrees.lists) (no_unknown m A object is)))) ∙ o.made;
        }))
    by_next (Some list) is =
        subst (λ found. IsCaKept e k phase room m n A (grade_taken (value e) k m n A depth first object found).first (grade_taken (value e) k m n A depth first object found).stage) (sym is) (record {
          base = held;
          sound = (record { seen = seen; next = is }, none);
          on_table = on;
        })

not_both : (x : ℕ) → Some x ≡ None → ⊥
not_both x e = cc

-- after a whole row
row_over : (e : Tree) (k phase room m n : ℕ) (A : List Access) (depth : ℕ) (first : List Item) → IsHeld e k room m n A → item_objects first ≡ []
    → ((D : List (List Row)) → Agrees m n D A → OnRowEnd (value e) k phase n D A depth)
    → IsCaKept e k phase room m n A (row_ended (value e) k phase m n A depth first).first (row_ended (value e) k phase m n A depth first).stage
row_over e k phase room m n A depth first held none on = by_phase ((depth % phase) == 0) refl
  where
    V : List ℕ → ℕ
    V = value e

    begun : Course
    begun = phase_begun V k m n A depth first (choice V k m A)

    over : Course
    over = block_ended V k m n A depth first

    here : (D : List (List Row)) (chosen : Option ℕ) → Agrees m n D A → choice V k m A ≡ chosen → choice V k (length D) A ≡ chosen
    here D chosen agrees is = subst (λ c. choice V k c A ≡ chosen) (sym agrees.lists) is

    by_choice : (chosen : Option ℕ) → choice V k m A ≡ chosen → ((depth % phase) == 0) ≡ true
        → IsCaKept e k phase room m n A (phase_begun V k m n A depth first (choice V k m A)).first (phase_begun V k m n A depth first (choice V k m A)).stage
    by_choice None is t =
        subst (λ found. IsCaKept e k phase room m n A (phase_begun V k m n A depth first found).first (phase_begun V k m n A depth first found).stage) (sym is)
        (ended e k phase room m n A depth first held none (λ D agrees.
        let o = on D agrees in
        record { at = o.at; made = nobody_asked V k phase depth D A (ca_run_to V k phase D depth) t (here D None agrees is) o.made }))
    by_choice (Some object) is t =
        subst (λ found. IsCaKept e k phase room m n A (phase_begun V k m n A depth first found).first (phase_begun V k m n A depth first found).stage) (sym is)
        (taken e k phase room m n A depth first object held none
        (elim (choice_law V k m A) [
          | inl some ↦ subst (λ x. Contains (seen_objects A) x) (same_Some some.0 object (sym some.1 ∙ is)) some.2.may.seen
          | inr idle ↦ absurd (not_both object (sym is ∙ idle.0))
        ])
        (λ D agrees.
        let o = on D agrees in
        record { at = o.at; made = one_asked V k phase depth object D A (ca_run_to V k phase D depth) t (here D (Some object) agrees is) o.made }))

    by_phase : (b : Bool) → ((depth % phase) == 0) ≡ b
        → IsCaKept e k phase room m n A (cond {A = Course} ((depth % phase) == 0) begun over).first (cond {A = Course} ((depth % phase) == 0) begun over).stage
    by_phase true t =
        subst (λ b. IsCaKept e k phase room m n A (cond {A = Course} b begun over).first (cond {A = Course} b begun over).stage) (sym t) (by_choice (choice V k m A) refl t)
    by_phase false f =
        subst (λ b. IsCaKept e k phase room m n A (cond {A = Course} b begun over).first (cond {A = Course} b begun over).stage) (sym f)
        (ended e k phase room m n A depth first held none (λ D agrees.
        let o = on D agrees in
        record { at = o.at; made = nothing_between V k phase depth D A (ca_run_to V k phase D depth) f o.made }))

-- ---- one more access
at_length : (m n : ℕ) (D : List (List Row)) (A : List Access) → Agrees m n D A → Agrees (length D) n D A
at_length m n D A agrees = subst (λ c. Agrees c n D A) (sym agrees.lists) agrees

pub row_kept : (e : Tree) (k phase room m n : ℕ) (A : List Access) (first : List Item) (list depth object grade : ℕ)
    → IsCaKept e k phase room m n A first (stages.Row list depth) → SomeAgrees m n (A ++ Sorted list object grade ∷ [])
    → MayFollow room A (Sorted list object grade)
    → IsCaKept e k phase room m n (A ++ Sorted list object grade ∷ []) (moved (value e) k phase m n (A ++ Sorted list object grade ∷ []) (stages.Row list depth) first).first (moved (value e) k phase m n (A ++ Sorted list object grade ∷ []) (stages.Row list depth) first).stage
row_kept e k phase room m n A first list depth object grade kept some follows =
    elim (cases_lt (list + 1) m) [
      | inl short ↦
          subst (λ b. IsCaKept e k phase room m n A' (cond {A = Course} b next over).first (cond {A = Course} b next over).stage) (sym (lt-ltb (list + 1) m short)) (record {
            base = base;
            sound = (short, kept.sound.1);
            on_table = λ D agrees. list_follows (value e) k phase n D A list depth object grade (before D agrees) (within D agrees) (at_length m n D A' agrees);
          })
      | inr whole ↦
          subst (λ b. IsCaKept e k phase room m n A' (cond {A = Course} b next over).first (cond {A = Course} b next over).stage) (sym (le-ltb (list + 1) m whole))
          (row_over e k phase room m n A' depth first base kept.sound.1 (λ D agrees.
          let on = before D agrees in
          record { at = on.at; made = row_follows (value e) k phase n D A list depth object grade on (within D agrees) (omega (arith, whole, agrees.lists)) (at_length m n D A' agrees) }))
    ]
  where
    A' : List Access
    A' = A ++ Sorted list object grade ∷ []

    next : Course
    next = record { stage = stages.Row (list + 1) depth; first = first }

    over : Course
    over = row_ended (value e) k phase m n A' depth first

    base : IsHeld e k room m n A'
    base = held_more e k room m n A (Sorted list object grade) kept.base follows some

    before : (D : List (List Row)) → Agrees m n D A' → OnTable (value e) k phase n D A (item_objects first) (stages.Row list depth)
    before D agrees = kept.on_table D (agrees_front m n D A (Sorted list object grade ∷ []) agrees)

    within : (D : List (List Row)) → Agrees m n D A' → list < length D
    within D agrees = omega (arith, kept.sound.0, agrees.lists)

pub choice_kept : (e : Tree) (k phase room m n : ℕ) (A : List Access) (first : List Item) (list object depth grade : ℕ)
    → IsCaKept e k phase room m n A first (stages.Choice list object depth) → SomeAgrees m n (A ++ Random list object grade ∷ [])
    → MayFollow room A (Random list object grade)
    → IsCaKept e k phase room m n (A ++ Random list object grade ∷ []) (moved (value e) k phase m n (A ++ Random list object grade ∷ []) (stages.Choice list object depth) first).first (moved (value e) k phase m n (A ++ Random list object grade ∷ []) (stages.Choice list object depth) first).stage
choice_kept e k phase room m n A first list object depth grade kept some follows =
    let a : Access = Random list object grade in
    let asked : IsAskedFor m A object list = kept.sound.0 in
    taken e k phase room m n (A ++ a ∷ []) depth first object (held_more e k room m n A a kept.base follows some) kept.sound.1 (seen_more A (a ∷ []) object asked.seen) (λ D agrees.
    let on = kept.on_table D (agrees_front m n D A (a ∷ []) agrees) in
    record {
      at = on.at;
      made = object_asked D A (ca_run_to (value e) k phase D depth) list object grade (subst (λ c. next_unknown c A object ≡ Some list) (sym agrees.lists) asked.next)
          (grade_given m n D A list object grade agrees (next_below m A object list asked.next)) on.made;
    })

pub finish_kept : (e : Tree) (k phase room m n : ℕ) (A : List Access) (first : List Item) (ask : Ask) (grade : ℕ)
    → IsCaKept e k phase room m n A first (stages.Finish ask) → SomeAgrees m n (A ++ Random ask.list ask.object grade ∷ [])
    → MayFollow room A (Random ask.list ask.object grade)
    → IsCaKept e k phase room m n (A ++ Random ask.list ask.object grade ∷ []) (moved (value e) k phase m n (A ++ Random ask.list ask.object grade ∷ []) (stages.Finish ask) first).first (moved (value e) k phase m n (A ++ Random ask.list ask.object grade ∷ []) (stages.Finish ask) first).stage
finish_kept e k phase room m n A first ask grade kept some follows =
    let a : Access = Random ask.list ask.object grade in
    let objects : List ℕ = item_objects first in
    let is : IsAsking m A objects ask = kept.sound in
    record {
      base = held_more e k room m n A a kept.base follows some;
      sound = sound_finish m (A ++ a ∷ []) objects (ask_from m (A ++ a ∷ []) (drop ask.place objects) ask.place) (asks_more m A objects ask grade is);
      on_table = λ D agrees.
          let on = kept.on_table D (agrees_front m n D A (a ∷ []) agrees) in
          on_finish (value e) k phase n D (A ++ a ∷ []) objects (ask_from m (A ++ a ∷ []) (drop ask.place objects) ask.place) on.first
          (leaves_more m n D A (ca_run (value e) k phase D) objects ask grade is agrees on.made);
    }
