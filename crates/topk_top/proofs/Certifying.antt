-- A right answer is certified: its numbers are within the ranges of a certificate.
use Rattle.std.proofs.Common.{◌≡◌, ℕ, Bool, ◌<◌, ◌≤◌, ◌^◌, List, [], length, map, All, Contains, refl, sym, ap, subst, ◌∙◌, arith}
use Rattle.std.proofs.lemmas.List.Elements.{All-weaker}
use Rattle.std.proofs.lemmas.List.{length-map}
use Rattle.ranked_list.specs.declared.row.Row.{Row}
use Rattle.ranked_list.specs.declared.item.Item.{Item}
use Rattle.ranked_list.specs.Table.{IsTable, IsRanked, grade_in, top_grade}
use Rattle.bundle_text.specs.Bundle.{Content, IsBundle}
use Rattle.monotone_fn.specs.Tree.{Tree}
use Rattle.monotone_fn.specs.Shape.{list_count}
use Rattle.monotone_fn.specs.Value.{value}
use Rattle.monotone_fn.specs.Limits.{IsExpr, AreGrades}
use Rattle.monotone_fn.proofs.Laws.{value-IsExpr, top_value-IsExpr}
use Rattle.topk_theory.specs.declared.access.Access.{Access}
use Rattle.topk_theory.specs.declared.access.Access.TheVariants.{Sorted, Random}
use Rattle.topk_theory.specs.Aggregate.{aggregate, grades_of, objects_of}
use Rattle.topk_theory.specs.Transcript.{Agrees, list_of, object_of, grade_of, list_at, named_objects, seen_objects}
use Rattle.topk_theory.specs.Bounds.{low, high, bounded}
use Rattle.topk_theory.specs.Threshold.{item_objects}
use Rattle.topk_theory.proofs.AgreementLists.{all_from_members, member_of_all, contains_at, contains_map_from, contains_map, distinct_fits}
use Rattle.topk_theory.proofs.AgreementNames.{each_once_within}
use Rattle.topk_theory.proofs.Agreement.{row_of, agrees_gives, gives_row, gives_in_range, objects_of_count, contains_access, seen_is_named}
use Rattle.topk_theory.proofs.ConsistentRows.{ranked_capped}
use Rattle.topk_theory.proofs.BoundsLaws.{grade_in_le, Falls-from_ranked}
use Rattle.machine_base.specs.declared.answer.Answer.{Answer}
use Rattle.query_text.specs.declared.query.Query.{Query}
use Rattle.query_text.specs.Query.{IsLawful}
use Rattle.cert_text.specs.Certificate.{IsItem, IsAccess}
use Rattle.cert_text.specs.Outcome.{IsCertified}
use Rattle.cert_text.specs.Guarantee.{guarantee_by}
use Rattle.query_core.specs.Methods.{method_with}
use Rattle.query_core.specs.OneAnswer.{asked_by, IsAnsweredWith}
use Rattle.query_core.proofs.Answering.{answered_short}
use Rattle.query_admission.specs.View.{sorted_at}
use Rattle.query_admission.specs.Becomes.{AnswersLine}
use Rattle.bundle_calls.specs.Bundled.{bundle_line}
use Rattle.bundle_calls.proofs.Bundling.{told_table, versions_first}
use Rattle.query_core.proofs.GivenBounds.{AreReached, bounds_reached}
use Rattle.topk_top.specs.Laws.{FitsItsTypes}
use Rattle.topk_top.proofs.Fixing.{IsHonest}
use Rattle.topk_top.proofs.Good.{good_objects}
use Rattle.query_admission.proofs.Becoming.{cost_small}

-- the aggregate of an object is small
aggregate_small : (e : Tree) (n : ℕ) (D : List (List Row)) (object : ℕ) → IsExpr e → IsTable n D → length D ≡ list_count e
    → aggregate (value e) D object < 2 ^ 64
aggregate_small e n D object is table many =
    let grades : AreGrades (grades_of D object) = all_from_members (λ g. g ≤ top_grade) (grades_of D object) (λ g c.
    let from = contains_map_from (λ rows. grade_in rows object) D g c in
    subst (λ z. z ≤ top_grade) from.2 (grade_in_le top_grade from.0 object (Falls-from_ranked from.0 (member_of_all IsRanked D from.0 table.ranked from.1)))) in
    let below = value-IsExpr e (grades_of D object) is (length-map D (λ rows. grade_in rows object) ∙ many) grades in
    omega (arith, below, top_value-IsExpr e is)

-- the bounds of an object are small
bounds_small : (e : Tree) (m n : ℕ) (A : List Access) (object : ℕ) → IsExpr e → m ≡ list_count e → AreReached (value e) m n A object
    → (low (value e) m A object < 2 ^ 64) × (high (value e) m A object < 2 ^ 64)
bounds_small e m n A object is many reached = (
  subst (λ z. z < 2 ^ 64) reached.lowest.2 (aggregate_small e n reached.lowest.0 object is reached.lowest.1.table (reached.lowest.1.lists ∙ many)),
  subst (λ z. z < 2 ^ 64) reached.highest.2 (aggregate_small e n reached.highest.0 object is reached.highest.1.table (reached.highest.1.lists ∙ many)),
)

-- an access of a table that agrees has a row of it
access_row : (m n : ℕ) (D : List (List Row)) (A : List Access) (a : Access) → Agrees m n D A → Contains A a
    → (list_of a < length D) × Contains (list_at D (list_of a)) (row_of a)
access_row m n D A a agrees c =
    let p = contains_access A a c in
    let gives = agrees_gives m n D p.0 a p.1 (subst (λ B. Agrees m n D B) p.2 agrees) in
    (gives_in_range D p.0 a gives, gives_row D p.0 a gives)

-- what is read of a table of small objects names small objects
accesses_small : (m n : ℕ) (D : List (List Row)) (A : List Access) → Agrees m n D A → All (λ rows. All (λ row. row.object < 2 ^ 32) rows) D
    → All (λ a. object_of a < 2 ^ 32) A
accesses_small m n D A agrees small = all_from_members (λ a. object_of a < 2 ^ 32) A (λ a c.
    let at = access_row m n D A a agrees c in
    let rows = list_at D (list_of a) in
    let listed : Contains D rows = contains_at D (list_of a) [] at.0 in
    named a (member_of_all (λ row. row.object < 2 ^ 32) rows (row_of a) (member_of_all (λ rows. All (λ row. row.object < 2 ^ 32) rows) D rows small listed) at.1))
  where
    named : (a : Access) → (row_of a).object < 2 ^ 32 → object_of a < 2 ^ 32
    named (Sorted l o g) h = h
    named (Random l o g) h = h

-- the accesses of an answer, if they name small objects, are those of a certificate
accesses_certified : (m n : ℕ) (D : List (List Row)) (A : List Access) → Agrees m n D A → All (λ a. object_of a < 2 ^ 32) A → All (IsAccess m) A
accesses_certified m n D A agrees small = all_from_members (IsAccess m) A (λ a c.
    let at = access_row m n D A a agrees c in
    let rows = list_at D (list_of a) in
    let listed : Contains D rows = contains_at D (list_of a) [] at.0 in
    let capped : (row_of a).grade ≤ top_grade = ranked_capped rows (row_of a) (member_of_all IsRanked D rows agrees.table.ranked listed) at.1 in
    record {
      list = subst (λ k. list_of a < k) agrees.lists at.0;
      object = member_of_all (λ a. object_of a < 2 ^ 32) A a small c;
      grade = graded a capped;
    })
  where
    graded : (a : Access) → (row_of a).grade ≤ top_grade → grade_of a < 2 ^ 32
    graded (Sorted l o g) h = omega arith
    graded (Random l o g) h = omega arith

-- an object that they name is small
object_small : (A : List Access) (object : ℕ) → All (λ a. object_of a < 2 ^ 32) A → Contains (named_objects A) object → object < 2 ^ 32
object_small A object small c =
    let from = contains_map_from object_of A object (each_once_within (map object_of A) object c) in
    subst (λ z. z < 2 ^ 32) from.2 (member_of_all (λ a. object_of a < 2 ^ 32) A from.0 small from.1)

-- the answer of a lawful query over lists of so many objects at these versions: it is right, and its numbers fit their types
pub record IsAnswerOf (sorted : List Bool) (q : Query) (n : ℕ) (versions : List ℕ) (answer : Answer) : Type 0 where
  pub lawful : IsLawful q
  pub expr : IsExpr q.expr
  pub fits : q.k ≤ n
  pub few : n ≤ 200000
  pub versioned : length versions ≡ length q.names
  pub right : IsAnsweredWith (method_with q.algorithm sorted) q n answer
  pub typed : FitsItsTypes versions answer

-- such an answer is certified
pub certified : (sorted : List Bool) (line : ℕ) (q : Query) (n : ℕ) (versions : List ℕ) (answer : Answer) → 1 ≤ line → line < 2 ^ 63
    → IsAnswerOf sorted q n versions answer → IsHonest q n answer → IsCertified line q n versions answer
certified sorted line q n versions answer from to is honest =
    let right = is.right in
    let lists = is.expr.lists in
    let m = list_count q.expr in
    let A = answer.transcript.accesses in
    let Y = item_objects answer.items in
    let costs = cost_small q.cost is.lawful.cost in
    record {
      line_from = from;
      line_to = to;
      lawful = is.lawful;
      expr = is.expr;
      lists = right.lists;
      counted = right.count;
      consistent = right.some;
      versioned = is.versioned;
      small = is.typed.each_version;
      cost = record { sorted = costs.0; random = costs.1; accesses = answered_short (method_with q.algorithm sorted) q n answer is.lawful lists.some is.fits is.few right };
      limits = record {
        some_lists = omega (arith, right.lists, lists.some);
        few_lists = omega (arith, right.lists, lists.few);
        some_objects = omega (arith, right.count, is.fits, is.lawful.k.0);
        few_objects = omega (arith, right.count, is.few);
      };
      items = all_from_members IsItem answer.items (λ item d.
          let seen = member_of_all (Contains (seen_objects A)) Y item.object honest.seen (contains_map (λ (i : Item). i.object) answer.items item d) in
          let named = seen_is_named A item.object seen in
          let bounds = bounds_small q.expr m n A item.object is.expr refl (bounds_reached (value q.expr) m n A item.object lists.some honest.some named) in
          let exact : item ≡ bounded (value q.expr) m A item.object = honest.each item d in
          record {
            object = object_small A item.object is.typed.each_object named;
            low = subst (λ l. l < 2 ^ 64) (sym (ap (λ (i : Item). i.low) exact)) bounds.0;
            high = subst (λ l. l < 2 ^ 64) (sym (ap (λ (i : Item). i.high) exact)) bounds.1;
          });
      accesses = accesses_certified answer.transcript.lists answer.transcript.count right.some.0 A right.some.1 is.typed.each_object;
    }

-- what a bundle is answered with is such an answer
pub bundle_answer : (c : Content) (q : Query) (count : ℕ) (versions : List ℕ) (answer : Answer) → IsBundle c
    → (h : AnswersLine (bundle_line c) q count versions answer) → IsAnswerOf (sorted_at h.lists) q count versions answer
bundle_answer c q count versions answer bundle h =
    let right = h.right in
    let m = answer.transcript.lists in
    let n = answer.transcript.count in
    let A = answer.transcript.accesses in
    let Y = item_objects answer.items in
    let told = told_table c q count h.lists bundle h.listed h.counted in
    let D = told.lists in
    let agrees : Agrees m n D A = h.agrees D told.told in
    let top = good_objects (guarantee_by q.algorithm (value q.expr) (length D) A Y) (asked_by q) D Y (right.every D agrees).top in
    let some : 0 < length D = omega (arith, agrees.lists, right.lists, h.reads.1.lists.some) in
    let sized : length (objects_of D) ≡ n = objects_of_count n D agrees.table some in
    let first = versions_first c q h.lists versions h.listed h.opened in
    record {
      lawful = h.reads.0.lawful;
      expr = h.reads.1;
      fits = omega (arith, top.sized, sized, right.count, distinct_fits Y (objects_of D) top.distinct (λ o d. member_of_all (Contains (objects_of D)) Y o top.members d));
      few = told.few;
      versioned = first.0;
      right = right;
      typed = record {
        each_version = All-weaker (λ version. version ≡ 0) (λ version. version < 2 ^ 64) (λ version is. omega (arith, is)) versions first.1;
        each_object = accesses_small m n D A agrees told.small;
      };
    }
