-- What a machine keeps after one more access.
use Rattle.std.proofs.Common.{◌≡◌, ◌≢◌, ℕ, ◌+◌, ◌-◌, ◌≤◌, Bool, true, false, List, [], ◌∷◌, ◌++◌, length, take, drop, Contains, Some, None, refl, sym, ap, subst, ◌∙◌, arith}
use Rattle.std.proofs.lemmas.Bool.{true≢false}
use Rattle.std.proofs.lemmas.List.{take-append-le, length-append, get_or_default}
use Rattle.std.proofs.Math.Seq.{take-length}
use Rattle.ranked_list.specs.declared.row.Row.{Row}
use Rattle.ranked_list.specs.declared.item.Item.{Item}
use Rattle.monotone_fn.specs.Tree.{Tree}
use Rattle.monotone_fn.specs.Value.{value}
use Rattle.topk_theory.specs.declared.access.Access.{Access}
use Rattle.topk_theory.specs.declared.access.Access.TheVariants.{Sorted, Random}
use Rattle.topk_theory.specs.Transcript.{Agrees, seen_objects}
use Rattle.topk_theory.specs.Combined.{unknown_lists}
use Rattle.topk_theory.specs.Consistent.{SomeAgrees}
use Rattle.topk_theory.proofs.AgreementLists.{all_from_members, member_of_all}
use Rattle.topk_theory.proofs.Agreement.{agrees_front, seen_objects_random, seen_distinct}
use Rattle.machine_base.specs.Held.{Held}
use Rattle.machine_base.specs.Base.{IsHeld, MayFollow}
use Rattle.machine_base.specs.Depths.{IsReached}
use Rattle.machine_base.specs.Board.{OnBoard}
use Rattle.machine_base.specs.declared.asking.Ask.{Ask}
use Rattle.machine_base.specs.Asking.{ask_from, AreKnown, AreListed, IsAsking, AreAsked, AsksNext, LeavesAsks}
use Rattle.machine_base.proofs.Held.{held_more, held_asked}
use Rattle.machine_base.proofs.Asks.{asks_next, asks_more, leaves_asks, leaves_more}
use Rattle.algorithm_theory.specs.Restricted.{HasOne, taz_stop, taz_run_to}
use Rattle.algorithm_theory.proofs.RestrictedLists.{PassesOver}
use Rattle.algorithm_theory.proofs.RestrictedRuns.{known_stays}
use Rattle.algorithm_theory.proofs.RestrictedSeen.{seen_grows}
use Rattle.restricted_core.specs.declared.stage.Stage.TheVariants as stages
use Rattle.restricted_core.specs.Lists.{reads, NoneBetween, IsNextList}
use Rattle.restricted_core.specs.Course.{items_with, stops_by}
use Rattle.restricted_core.specs.OnTable.{OnRow, OnAsks}
use Rattle.restricted_core.specs.Kept.{AreWhole, IsFor, IsTazKept, IsRowKept, IsOverKept}
use Rattle.restricted_core.proofs.Boards.{row_board, grade_board, new_board, none_waits, few_items, stop_shown}
use Rattle.restricted_core.proofs.Path.{IsPosedOn, list_made, lists_passed, asks_left, next_depth, last_depth}

pub posed_on : (e : Tree) (k room m n : ℕ) (A : List Access) (sorted : List Bool) (board : Held) (D : List (List Row)) → IsHeld e k room m n A
    → IsFor k room m sorted board → Agrees m n D A → IsPosedOn k n (reads sorted) D
posed_on e k room m n A sorted board D held fits agrees = record {
  asked = held_asked e k room m n A D held agrees;
  one = subst (HasOne (reads sorted)) (sym agrees.lists) fits.some;
}

pub passes : (sorted : List Bool) (from to : ℕ) → from ≤ to → NoneBetween sorted from to → PassesOver (reads sorted) from to
passes sorted from to onward none = record { onward = onward; none = none }

all_listed : (A : List Access) → AreListed A (seen_objects A)
all_listed A = record { seen = all_from_members (Contains (seen_objects A)) (seen_objects A) (λ o c. c); apart = seen_distinct A }

-- ---- a row was told: the next list follows
pub next_kept : (e : Tree) (k room m n : ℕ) (A : List Access) (sorted : List Bool) (board : Held) (list depth whole next : ℕ)
    → IsRowKept e k room m n A sorted board list depth whole → IsNextList sorted (list + 1) next → IsTazKept e k room m n A sorted board (stages.Row next depth whole)
next_kept e k room m n A sorted board list depth whole next told is = record {
  base = told.base;
  fits = told.fits;
  sound = record { listed = (let long = told.fits.one_each in let l = is.listed in omega arith); readable = is.readable; full = told.full };
  on_table = λ D agrees.
      let on = told.on_table D agrees in
      record {
        at = on.at;
        made = lists_passed (reads sorted) D A depth (list + 1) next (passes sorted (list + 1) next is.onward is.passed) on.made;
        board = on.board;
      };
}

-- or, behind the last one, what is asked
pub over_after_row : (e : Tree) (k room m n : ℕ) (A : List Access) (sorted : List Bool) (board : Held) (list depth whole : ℕ)
    → IsRowKept e k room m n A sorted board list depth whole → NoneBetween sorted (list + 1) (length sorted) → IsOverKept e k room m n A sorted board depth whole whole
over_after_row e k room m n A sorted board list depth whole told none = record {
  base = told.base;
  fits = told.fits;
  within = told.full.within;
  asks = asks_next m A (seen_objects A) (drop whole (seen_objects A)) whole (all_listed A) refl told.full.known;
  on_table = λ D agrees.
      let on = told.on_table D agrees in
      let long : length sorted ≡ length D = told.fits.one_each ∙ sym agrees.lists in
      let l = told.listed in
      let same = agrees.lists in
      let last : PassesOver (reads sorted) (list + 1) (length D) = subst (PassesOver (reads sorted) (list + 1)) long (passes sorted (list + 1) (length sorted) (omega arith) none) in
      record {
        at = on.at;
        left = subst (λ c. LeavesAsks D A (seen_objects A) (taz_run_to (reads sorted) D depth) (ask_from c A (drop whole (seen_objects A)) whole)) agrees.lists
            (leaves_asks D A (taz_run_to (reads sorted) D depth) (seen_objects A) (drop whole (seen_objects A)) whole refl
            (asks_left (reads sorted) D A depth whole on.at.positive (lists_passed (reads sorted) D A depth (list + 1) (length D) last on.made) (subst (λ c. AreKnown c A (take whole (seen_objects A))) (sym agrees.lists) told.full.known)));
        board = on.board;
      };
}

-- ---- the rows of a depth are over: an object is asked for
pub ask_kept : (e : Tree) (k room m n : ℕ) (A : List Access) (sorted : List Bool) (board : Held) (depth whole place : ℕ) (ask : Ask)
    → IsOverKept e k room m n A sorted board depth whole place → ask_from m A (drop place (seen_objects A)) place ≡ Some ask
    → IsTazKept e k room m n A sorted board (stages.Asking ask depth whole)
ask_kept e k room m n A sorted board depth whole place ask over is = record {
  base = over.base;
  fits = over.fits;
  sound = (subst (AsksNext m A (seen_objects A)) is over.asks, over.within);
  on_table = λ D agrees.
      let on = over.on_table D agrees in
      record {
        at = on.at;
        made = subst (LeavesAsks D A (seen_objects A) (taz_run_to (reads sorted) D depth)) is on.left;
        board = on.board;
      };
}

-- or none is left: all seen objects have all their grades, and those that waited are put on the board
pub record OnDepth (V : List ℕ → ℕ) (k n : ℕ) (Z : ℕ → Bool) (D : List (List Row)) (A : List Access) (items : List Item) (depth : ℕ) : Type 0 where
  pub at : IsReached (taz_stop V k Z D) n depth
  pub made : A ≡ taz_run_to Z D depth
  pub board : OnBoard V D A [] items

pub record IsDepth (e : Tree) (k room m n : ℕ) (A : List Access) (sorted : List Bool) (board : Held) (depth : ℕ) : Type 0 where
  pub base : IsHeld e k room m n A
  pub fits : IsFor k room m sorted board
  pub known : AreKnown m A (seen_objects A)
  pub posed : (D : List (List Row)) → Agrees m n D A → IsPosedOn k n (reads sorted) D
  pub on_table : (D : List (List Row)) → Agrees m n D A → OnDepth (value e) k n (reads sorted) D A board.items depth

pub asks_over : (e : Tree) (k room m n : ℕ) (A : List Access) (sorted : List Bool) (board : Held) (depth whole place : ℕ)
    → IsOverKept e k room m n A sorted board depth whole place → ask_from m A (drop place (seen_objects A)) place ≡ None
    → IsDepth e k room m n A sorted (record board { items = items_with (value e) m A (drop whole (seen_objects A)) board.items }) depth
asks_over e k room m n A sorted board depth whole place over is =
    let asked : AreAsked m A (seen_objects A) = subst (AsksNext m A (seen_objects A)) is over.asks in
    record {
      base = over.base;
      fits = record { one_each = over.fits.one_each; some = over.fits.some; same_k = over.fits.same_k; same_room = over.fits.same_room };
      known = asked.known;
      posed = λ D agrees. posed_on e k room m n A sorted board D over.base over.fits agrees;
      on_table = λ D agrees.
          let on = over.on_table D agrees in
          record {
            at = on.at;
            made = subst (LeavesAsks D A (seen_objects A) (taz_run_to (reads sorted) D depth)) is on.left;
            board = new_board (value e) m n D A whole board.items agrees (λ o c. member_of_all (λ object. unknown_lists m A object ≡ []) (seen_objects A) o asked.known c) on.board;
          };
    }

-- whether the algorithm stops at this depth is what the board shows
stop_is : (e : Tree) (k room m n : ℕ) (A : List Access) (sorted : List Bool) (board : Held) (depth : ℕ) (D : List (List Row))
    → IsDepth e k room m n A sorted board depth → Agrees m n D A → stops_by (value e) board.k m n A board.items ≡ taz_stop (value e) k (reads sorted) D depth
stop_is e k room m n A sorted board depth D over agrees =
    let on = over.on_table D agrees in
    ap (λ c. stops_by (value e) c m n A board.items) over.fits.same_k
    ∙ ap (λ c. stops_by (value e) k c n A board.items) (sym agrees.lists)
    ∙ stop_shown (value e) k n (reads sorted) D A depth board.items (over.posed D agrees) on.at.positive on.at.within on.made on.board

pub end_kept : (e : Tree) (k room m n : ℕ) (A : List Access) (sorted : List Bool) (board : Held) (depth : ℕ) → IsDepth e k room m n A sorted board depth
    → stops_by (value e) board.k m n A board.items ≡ true → IsTazKept e k room m n A sorted board stages.Done
end_kept e k room m n A sorted board depth over stops = record {
  base = over.base;
  fits = over.fits;
  sound = tt;
  on_table = λ D agrees.
      let on = over.on_table D agrees in
      record {
        made = last_depth (value e) k n (reads sorted) D A depth (over.posed D agrees) on.at on.made (sym (stop_is e k room m n A sorted board depth D over agrees) ∙ stops);
        board = on.board;
      };
}

pub depth_kept : (e : Tree) (k room m n : ℕ) (A : List Access) (sorted : List Bool) (board : Held) (depth list : ℕ) → IsDepth e k room m n A sorted board depth
    → stops_by (value e) board.k m n A board.items ≡ false → IsNextList sorted 0 list
    → IsTazKept e k room m n A sorted board (stages.Row list (depth + 1) (length (seen_objects A)))
depth_kept e k room m n A sorted board depth list over goes is = record {
  base = over.base;
  fits = over.fits;
  sound = record {
    listed = (let long = over.fits.one_each in let l = is.listed in omega arith);
    readable = is.readable;
    full = record { within = omega arith; known = subst (AreKnown m A) (sym (take-length (seen_objects A))) over.known };
  };
  on_table = λ D agrees.
      let on = over.on_table D agrees in
      let next = next_depth (value e) k n (reads sorted) D A depth list (over.posed D agrees) on.at on.made (sym (stop_is e k room m n A sorted board depth D over agrees) ∙ goes) (passes sorted 0 list is.onward is.passed) in
      record { at = next.0; made = next.1; board = none_waits (value e) D A board.items on.board };
}

-- ---- one row more
known_front : (m : ℕ) (A B : List Access) (whole : ℕ) → AreWhole m A whole → AreWhole m (A ++ B) whole
known_front m A B whole are =
    let grown = seen_grows A B in
    let front : take whole (seen_objects (A ++ B)) ≡ take whole (seen_objects A) = ap (take whole) grown.1 ∙ take-append-le whole (seen_objects A) grown.0 are.within in
    let longer : length (seen_objects A) ≤ length (seen_objects (A ++ B)) = omega (arith, ap length grown.1, length-append (seen_objects A) grown.0) in
    record {
      within = omega (arith, are.within);
      known = subst (AreKnown m (A ++ B)) (sym front) (all_from_members (λ object. unknown_lists m (A ++ B) object ≡ []) (take whole (seen_objects A)) (λ o c.
          known_stays m A B o (member_of_all (λ object. unknown_lists m A object ≡ []) (take whole (seen_objects A)) o are.known c)));
    }

at_length : (m n : ℕ) (D : List (List Row)) (A : List Access) → Agrees m n D A → Agrees (length D) n D A
at_length m n D A agrees = subst (λ c. Agrees c n D A) (sym agrees.lists) agrees

pub row_kept : (e : Tree) (k room m n : ℕ) (A : List Access) (sorted : List Bool) (board : Held) (list depth whole object grade : ℕ)
    → IsTazKept e k room m n A sorted board (stages.Row list depth whole) → SomeAgrees m n (A ++ Sorted list object grade ∷ [])
    → MayFollow room A (Sorted list object grade) → IsRowKept e k room m n (A ++ Sorted list object grade ∷ []) sorted board list depth whole
row_kept e k room m n A sorted board list depth whole object grade kept some follows = record {
  base = held_more e k room m n A (Sorted list object grade) kept.base follows some;
  fits = kept.fits;
  listed = kept.sound.listed;
  full = known_front m A (Sorted list object grade ∷ []) whole kept.sound.full;
  on_table = λ D agrees.
      let on : OnRow (value e) k n (reads sorted) D A board.items list depth whole = kept.on_table D (agrees_front m n D A (Sorted list object grade ∷ []) agrees) in
      record {
        at = on.at;
        made = list_made n (reads sorted) D A depth list object grade agrees.table on.at.positive on.at.within on.made (let l = kept.sound.listed in let same = agrees.lists in omega arith) kept.sound.readable (at_length m n D (A ++ Sorted list object grade ∷ []) agrees);
        board = row_board (value e) D A board.items whole list object grade kept.sound.full.within on.board;
      };
}

-- ---- one grade more
pub grade_kept : (e : Tree) (k room m n : ℕ) (A : List Access) (sorted : List Bool) (board : Held) (ask : Ask) (depth whole grade : ℕ)
    → IsTazKept e k room m n A sorted board (stages.Asking ask depth whole) → SomeAgrees m n (A ++ Random ask.list ask.object grade ∷ [])
    → MayFollow room A (Random ask.list ask.object grade) → IsOverKept e k room m n (A ++ Random ask.list ask.object grade ∷ []) sorted board depth whole ask.place
grade_kept e k room m n A sorted board ask depth whole grade kept some follows =
    let a : Access = Random ask.list ask.object grade in
    let same : seen_objects (A ++ a ∷ []) ≡ seen_objects A = seen_objects_random A ask.list ask.object grade in
    let is : IsAsking m A (seen_objects A) ask = kept.sound.0 in
    record {
      base = held_more e k room m n A a kept.base follows some;
      fits = kept.fits;
      within = (let w = kept.sound.1 in let long : length (seen_objects (A ++ a ∷ [])) ≡ length (seen_objects A) = ap length same in omega arith);
      asks = subst (λ os. AsksNext m (A ++ a ∷ []) os (ask_from m (A ++ a ∷ []) (drop ask.place os) ask.place)) (sym same) (asks_more m A (seen_objects A) ask grade is);
      on_table = λ D agrees.
          let on : OnAsks (value e) k n (reads sorted) D A board.items depth whole ask.place = kept.on_table D (agrees_front m n D A (a ∷ []) agrees) in
          record {
            at = on.at;
            left = subst (λ os. LeavesAsks D (A ++ a ∷ []) os (taz_run_to (reads sorted) D depth) (ask_from m (A ++ a ∷ []) (drop ask.place os) ask.place)) (sym same)
                (leaves_more m n D A (taz_run_to (reads sorted) D depth) (seen_objects A) ask grade is agrees on.made);
            board = grade_board (value e) D A board.items whole ask.list ask.object grade on.board;
          };
    }

-- ---- what the calls at the end of a row need
pub over_few : (e : Tree) (k room m n : ℕ) (A : List Access) (sorted : List Bool) (board : Held) (depth whole place : ℕ)
    → IsOverKept e k room m n A sorted board depth whole place → length board.items ≤ whole
over_few e k room m n A sorted board depth whole place over =
    let some = over.base.agreeing in
    few_items (value e) some.0 A whole board.items (over.on_table some.0 some.1).board

pub over_deep : (e : Tree) (k room m n : ℕ) (A : List Access) (sorted : List Bool) (board : Held) (depth whole place : ℕ)
    → IsOverKept e k room m n A sorted board depth whole place → depth ≤ 200000
over_deep e k room m n A sorted board depth whole place over =
    let some = over.base.agreeing in
    let within = (over.on_table some.0 some.1).at.within in
    omega (arith, over.base.counted)

-- some list can be read in order
pub not_none : (k room m : ℕ) (sorted : List Bool) (board : Held) → IsFor k room m sorted board → ¬ NoneBetween sorted 0 (length sorted)
not_none k room m sorted board fits none =
    let one : HasOne (reads sorted) m = fits.some in
    true≢false (sym one.sorted ∙ none one.list (omega arith) (let l = one.listed in let long = fits.one_each in omega arith))

-- the board that has the new objects too
pub depth_over : (e : Tree) (k room m n : ℕ) (A : List Access) (sorted : List Bool) (board now : Held) (depth whole place : ℕ)
    → IsOverKept e k room m n A sorted board depth whole place → ask_from m A (drop place (seen_objects A)) place ≡ None
    → now ≡ record board { items = items_with (value e) m A (drop whole (seen_objects A)) board.items } → IsDepth e k room m n A sorted now depth
depth_over e k room m n A sorted board now depth whole place over none is =
    subst (λ b. IsDepth e k room m n A sorted b depth) (sym is) (asks_over e k room m n A sorted board depth whole place over none)

pub next_depth_kept : (e : Tree) (k room m n : ℕ) (A : List Access) (sorted : List Bool) (board : Held) (depth list seen : ℕ)
    → IsDepth e k room m n A sorted board depth → stops_by (value e) board.k m n A board.items ≡ false → IsNextList sorted 0 list
    → seen ≡ length (seen_objects A) → IsTazKept e k room m n A sorted board (stages.Row list (depth + 1) seen)
next_depth_kept e k room m n A sorted board depth list seen over goes is count =
    subst (λ w. IsTazKept e k room m n A sorted board (stages.Row list (depth + 1) w)) (sym count) (depth_kept e k room m n A sorted board depth list over goes is)

-- where one of the flags is set, some list can be read in order
pub not_all_closed : (sorted : List Bool) → Contains sorted true → ¬ NoneBetween sorted 0 (length sorted)
not_all_closed sorted c none = true≢false (sym c.2 ∙ get_or_default sorted c.0 true false c.1 ∙ none c.0 (omega arith) c.1)
