-- What is known of the threshold algorithm over restricted lists, also where there is none to read: then it reads nothing.
use Rattle.std.proofs.Common.{◌≡◌, ◌⊎◌, inl, inr, ℕ, zero, suc, ◌*◌, ◌^◌, ◌<◌, ◌≤◌, Bool, false, List, [], ◌++◌, length, map, All, Contains, refl, sym, ap, subst, ◌∙◌, arith}
use Rattle.std.proofs.lemmas.Bool.{cases_Bool, cases_lt}
use Rattle.std.proofs.Math.Nat.{mul-le-mul_left}
use Rattle.ranked_list.specs.declared.row.Row.{Row}
use Rattle.ranked_list.specs.declared.item.Item.{Item}
use Rattle.ranked_list.specs.Table.{IsTable}
use Rattle.monotone_fn.specs.Value.{IsMonotone}
use Rattle.topk_theory.specs.declared.access.Access.{Access}
use Rattle.topk_theory.specs.Asked.{Asked}
use Rattle.topk_theory.specs.Transcript.{seen_objects, depth}
use Rattle.topk_theory.specs.Threshold.{IsAsked, scored, item_objects}
use Rattle.topk_theory.proofs.AgreementLists.{all_from_members, member_of_all}
use Rattle.topk_theory.proofs.ThresholdTop.{scored_member}
use Rattle.algorithm_theory.specs.Optimal.{IsAlwaysRun}
use Rattle.algorithm_theory.proofs.NearBestDepths.{depth_is}
use Rattle.algorithm_theory.specs.Restricted.{HasOne, ReadsIn, IsNearBestIn, lists_in, read_at, row_of_first, with_grades, taz_stop, taz_objects, taz_depth, taz_run_to, taz_run, taz_answer}
use Rattle.algorithm_theory.proofs.RestrictedLists.{PassesOver, lists_over}
use Rattle.algorithm_theory.proofs.RestrictedNearBest.{taz_near_best}
use Rattle.algorithm_theory.proofs.RestrictedReading.{IsRead, run_read}
use Rattle.algorithm_theory.proofs.RestrictedRuns.{reads_in, answer_there, run_tame, taz_run_long}
use Rattle.algorithm_theory.proofs.RestrictedSeen.{seen_are_read}
use Rattle.algorithm_theory.proofs.RestrictedTop.{taz_first}
use Rattle.restricted_core.specs.Lists.{reads}
use Rattle.query_text.specs.declared.algorithm.Algorithm.TheVariants.{Taz}
use Rattle.query_core.proofs.Facts.{AreFacts}
use Rattle.query_core.proofs.StoppedFacts.{least_within}
use Rattle.query_core.proofs.TrueBounds.{scored_bounds}
use Rattle.query_core.proofs.GivenBounds.{always_bounded}

-- some of m lists can be read, or none can
one_or_none : (Z : ℕ → Bool) (m : ℕ) → HasOne Z m ⊎ PassesOver Z 0 m
one_or_none Z zero = inr (record { onward = omega arith; none = λ list ge l. absurd (omega arith) })
one_or_none Z (suc m) =
    elim (one_or_none Z m) [
      | inl one ↦ inl (record { list = one.list; listed = (let l : one.list < m = one.listed in omega arith); sorted = one.sorted })
      | inr over ↦ elim (cases_Bool (Z m)) [
        | inl here ↦ inl (record { list = m; listed = omega arith; sorted = here })
        | inr not_here ↦ inr (record {
          onward = omega arith;
          none = λ list ge l. elim (cases_lt list m) [
            | inl less ↦ over.none list ge less
            | inr more ↦ let same : m ≡ list = omega arith in subst (λ x. Z x ≡ false) same not_here
          ];
        })
      ]
    ]

-- where none can, nothing is read
nothing_read : (Z : ℕ → Bool) (D : List (List Row)) (deep : ℕ) → lists_in Z (length D) ≡ [] → taz_run_to Z D deep ≡ []
nothing_read Z D zero none = refl
nothing_read Z D (suc deep) none =
    ap (λ A. with_grades D (A ++ row_of_first Z D (suc deep) (length D))) (nothing_read Z D deep none)
    ∙ ap (λ ls. with_grades D (map (read_at D (suc deep)) ls)) none

no_lists : (Z : ℕ → Bool) (m : ℕ) → PassesOver Z 0 m → lists_in Z m ≡ []
no_lists Z m none = lists_over Z 0 m none

-- what is read of a table that is asked
run_is_read : (Z : ℕ → Bool) (asked : Asked) (n : ℕ) (D : List (List Row)) → IsAsked asked.k n D
    → IsRead Z n D (taz_run asked.value asked.k Z D) (taz_depth asked.value asked.k Z D) 0
run_is_read Z asked n D is = run_read Z n (taz_depth asked.value asked.k Z D) D is.table (least_within (taz_stop asked.value asked.k Z D) asked.k n D is)

-- only lists that can be read in order are
pub restricted_reads : (Z : ℕ → Bool) (asked : Asked) (n : ℕ) (D : List (List Row)) → IsAsked asked.k n D → ReadsIn Z (taz_run asked.value asked.k Z D)
restricted_reads Z asked n D is = reads_in Z n D (taz_run asked.value asked.k Z D) (taz_depth asked.value asked.k Z D) 0 (run_is_read Z asked n D is)

restricted_short : (Z : ℕ → Bool) (asked : Asked) (n : ℕ) (D : List (List Row)) → IsAsked asked.k n D → length D ≤ 8 → n ≤ 200000
    → length (taz_run asked.value asked.k Z D) < 2 ^ 24
restricted_short Z asked n D is few counted =
    elim (one_or_none Z (length D)) [
      | inl one ↦
          let long : length (taz_run asked.value asked.k Z D) ≤ 2 * (length D * n) = taz_run_long asked.value asked.k n Z D is one in
          let most : length D * n ≤ length D * 200000 = mul-le-mul_left (length D) counted in
          omega arith
      | inr none ↦
          let empty : length (taz_run asked.value asked.k Z D) ≡ 0 = ap length (nothing_read Z D (taz_depth asked.value asked.k Z D) (no_lists Z (length D) none)) in
          omega arith
    ]

restricted_seen : (Z : ℕ → Bool) (asked : Asked) (n : ℕ) (D : List (List Row)) → IsAsked asked.k n D
    → All (Contains (seen_objects (taz_run asked.value asked.k Z D))) (item_objects (taz_answer asked.value asked.k Z D))
restricted_seen Z asked n D is =
    let run = taz_run asked.value asked.k Z D in
    all_from_members (Contains (seen_objects run)) (item_objects (taz_answer asked.value asked.k Z D)) (λ o c.
    (seen_are_read Z n D run (taz_depth asked.value asked.k Z D) (run_is_read Z asked n D is) o).1 (answer_there asked.value asked.k n Z D o is.table c))

restricted_scored : (Z : ℕ → Bool) (asked : Asked) (n : ℕ) (D : List (List Row)) (item : Item) → IsTable n D → Contains (taz_answer asked.value asked.k Z D) item
    → scored asked.value D item.object ≡ item
restricted_scored Z asked n D item table c =
    let os = taz_objects Z D (taz_depth asked.value asked.k Z D) in
    (scored_member asked.value D os item (member_of_all (Contains (map (scored asked.value D) os)) (taz_answer asked.value asked.k Z D) item
    (taz_first asked.value asked.k n Z D (taz_depth asked.value asked.k Z D) table).held c)).1

restricted_near : (Z : ℕ → Bool) (asked : Asked) (m n : ℕ) (A : List Access) → IsMonotone asked.value → IsAlwaysRun (taz_run asked.value asked.k Z) asked.k m n A
    → IsNearBestIn asked.value asked.k m n Z A
restricted_near Z asked m n A monotone always =
    elim (one_or_none Z m) [
      | inl one ↦ taz_near_best asked.value asked.k m n Z A monotone one always
      | inr none ↦ record {
        bounded = λ D B Y agrees fixes readable.
            let empty : A ≡ [] = always.always D agrees
            ∙ nothing_read Z D (taz_depth asked.value asked.k Z D) (no_lists Z (length D) (subst (PassesOver Z 0) (sym agrees.lists) none)) in
            let flat : depth m A ≡ 0 = ap (depth m) empty ∙ depth_is m [] 0 always.lists (λ list l. refl) in
            omega arith;
      }
    ]

pub restricted_facts : (sorted : List Bool) → AreFacts (record { algorithm = Taz; sorted = sorted })
restricted_facts sorted = record {
  agrees = λ asked n D monotone is. (run_is_read (reads sorted) asked n D is).agrees;
  short = λ asked n D monotone is few counted. restricted_short (reads sorted) asked n D is few counted;
  tame = λ asked n D monotone is. run_tame (reads sorted) D (taz_depth asked.value asked.k (reads sorted) D);
  seen = λ asked n D monotone is. restricted_seen (reads sorted) asked n D is;
  bounds = λ asked n D monotone is. scored_bounds asked.value asked.k D (taz_objects (reads sorted) D (taz_depth asked.value asked.k (reads sorted) D));
  given = λ asked m n A items item lists some named every c.
      always_bounded asked.value m n A item lists some named (λ D agrees.
      let on = every D agrees in restricted_scored (reads sorted) asked n D item on.is_asked.table (subst (λ xs. Contains xs item) on.exact c));
  near = λ asked m n A monotone always. restricted_near (reads sorted) asked m n A monotone always;
}
