-- Sums over endings.
use Rattle.std.proofs.Common.{◌≡◌, ◌≤◌, ◌<◌, ◌+◌, ◌*◌, ◌^◌, ℕ, false, cond, List, [], ◌∷◌, length, take, All, refl, sym, ap, ◌∙◌, arith}
use Rattle.std.specs.List.{AllZip, range_with_len, sum_by, slice_index_or}
use Rattle.std.proofs.lemmas.List.{length-take}
use Rattle.std.proofs.lemmas.List.FromFn.{length-range_with_len}
use Rattle.std.proofs.lemmas.List.Sums.{sum_by-cons, sum_by_more, sum_by_more_le, sum_by-le, count_by-le-length}
use Rattle.std.proofs.lemmas.Slice.Zip.{AllZip-long}
use Rattle.ranked_list.specs.declared.item.Item.{Item}
use Rattle.ranked_list.specs.declared.row.Row.{Row}
use Rattle.topk_theory.specs.declared.access.Access.{Access}
use Rattle.topk_theory.specs.Transcript.{depth, sorted_count, random_count}
use Rattle.topk_theory.proofs.AgreementLists.{all_from_members, member_of_all, take_within}
use Rattle.machine_base.specs.declared.answer.Answer.{Answer}
use Rattle.query_text.specs.declared.query.Query.{Query}
use Rattle.query_run.proofs.Lists.{take_whole}
use Rattle.query_run.specs.declared.ended.Ended.{Ended}
use Rattle.query_run.specs.declared.ended.Ended.TheVariants.{Answered, Core, Look}
use Rattle.bulk_run.specs.declared.input.BulkInput.{BulkInput}
use Rattle.bulk_run.specs.declared.sums.BulkSums.{BulkSums}
use Rattle.bulk_run.specs.Sums.{table_of, query_of, run_depth, run_sorted, run_random, answer_value, bulk_sums}
use Rattle.bulk_run.specs.Endings.{EndsInOne, AllEndInOne, answer_depth, answer_sorted, answer_random, answer_lows, figure_of, is_answered, sums_over, with_query, with_ending, IsSmall, HasRoom}

-- ---- the lower bounds of items

pub low_more : (items : List Item) (sum n : ℕ) (item : Item) → n < length items → item ≡ slice_index_or items n item
    → sum ≡ sum_by (λ (i : Item). i.low) (take n items) → sum + item.low ≡ sum_by (λ (i : Item). i.low) (take (n + 1) items)
low_more items sum n item l is before =
    let more = sum_by_more (λ (i : Item). i.low) items n item l in
    let same : item.low ≡ (slice_index_or items n item).low = ap (λ (i : Item). i.low) is in
    omega (arith, more, same, before)

pub low_fits : (items : List Item) (sum n : ℕ) (item : Item) → n < length items → item ≡ slice_index_or items n item
    → sum ≡ sum_by (λ (i : Item). i.low) (take n items) → sum + item.low ≤ sum_by (λ (i : Item). i.low) items
low_fits items sum n item l is before =
    let fits = sum_by_more_le (λ (i : Item). i.low) items n item l in
    let same : item.low ≡ (slice_index_or items n item).low = ap (λ (i : Item). i.low) is in
    omega (arith, fits, same, before)

pub low_whole : (items : List Item) (sum n : ℕ) → length items ≤ n → sum ≡ sum_by (λ (i : Item). i.low) (take n items)
    → sum ≡ sum_by (λ (i : Item). i.low) items
low_whole items sum n l before = before ∙ ap (sum_by (λ (i : Item). i.low)) (take_whole items n l)

-- ---- one ending more

-- sums of six figures
abbrev sums : ℕ → ℕ → ℕ → ℕ → ℕ → ℕ → BulkSums
sums q a d s r v = record { queries = q; answered = a; depth = d; sorted = s; random = r; values = v }

same_sums : (q a d s r v q' a' d' s' r' v' : ℕ) → q ≡ q' → a ≡ a' → d ≡ d' → s ≡ s' → r ≡ r' → v ≡ v' → sums q a d s r v ≡ sums q' a' d' s' r' v'
same_sums q a d s r v q' a' d' s' r' v' eq ea ed es er ev =
    ap (λ x. sums x a d s r v) eq ∙ ap (λ x. sums q' x d s r v) ea ∙ ap (λ x. sums q' a' x s r v) ed ∙ ap (λ x. sums q' a' d' x r v) es
    ∙ ap (λ x. sums q' a' d' s' x v) er ∙ ap (λ x. sums q' a' d' s' r' x) ev

-- a sum over the front and one ending more
front_more : (f : Ended → ℕ) (endings : List Ended) (i : ℕ) (e : Ended) → i < length endings → slice_index_or endings i e ≡ e
    → sum_by f (take (i + 1) endings) ≡ sum_by f (take i endings) + f e
front_more f endings i e l at = sum_by_more f endings i e l ∙ ap (λ x. sum_by f (take i endings) + f x) at

front_long : (endings : List Ended) (i : ℕ) → i < length endings → length (take (i + 1) endings) ≡ length (take i endings) + 1
front_long endings i l = let more = length-take (i + 1) endings in let front = length-take i endings in omega (arith, more, front, l)

-- a refused query adds nothing
front_refused : (f : Ended → ℕ) (endings : List Ended) (i : ℕ) (e : Ended) → i < length endings → slice_index_or endings i e ≡ e → f e ≡ 0
    → sum_by f (take (i + 1) endings) ≡ sum_by f (take i endings)
front_refused f endings i e l at none = let more = front_more f endings i e l at in omega (arith, more, none)

refused_more : (endings : List Ended) (i : ℕ) (e : Ended) → i < length endings → slice_index_or endings i e ≡ e → is_answered e ≡ false
    → ((figure : Answer → ℕ) → figure_of figure e ≡ 0) → sums_over (take (i + 1) endings) ≡ with_query (sums_over (take i endings))
refused_more endings i e l at unanswered none =
    same_sums _ _ _ _ _ _ _ _ _ _ _ _ (front_long endings i l) (front_refused (λ x. cond (is_answered x) 1 0) endings i e l at (ap (λ b. cond {A = ℕ} b 1 0) unanswered))
    (front_refused (figure_of answer_depth) endings i e l at (none answer_depth)) (front_refused (figure_of answer_sorted) endings i e l at (none answer_sorted))
    (front_refused (figure_of answer_random) endings i e l at (none answer_random)) (front_refused (figure_of answer_lows) endings i e l at (none answer_lows))

pub sums_more : (endings : List Ended) (i : ℕ) (e : Ended) → i < length endings → slice_index_or endings i e ≡ e
    → sums_over (take (i + 1) endings) ≡ with_ending e (sums_over (take i endings))
sums_more endings i (Answered answer) l at =
    let e : Ended = Answered answer in
    same_sums _ _ _ _ _ _ _ _ _ _ _ _ (front_long endings i l) (front_more (λ x. cond (is_answered x) 1 0) endings i e l at)
    (front_more (figure_of answer_depth) endings i e l at) (front_more (figure_of answer_sorted) endings i e l at)
    (front_more (figure_of answer_random) endings i e l at) (front_more (figure_of answer_lows) endings i e l at)
sums_more endings i (Core fault) l at = refused_more endings i (Core fault) l at refl (λ figure. refl)
sums_more endings i (Look list fault) l at = refused_more endings i (Look list fault) l at refl (λ figure. refl)

-- the sums over fewer than 64 endings may get one more
pub has_room : (endings : List Ended) (i : ℕ) → i < length endings → length endings ≤ 64 → All IsSmall endings → HasRoom (sums_over (take i endings))
has_room endings i l few small =
    let front : List Ended = take i endings in
    let long = length-take i endings in
    let each : (f : Ended → ℕ) → ((e : Ended) → IsSmall e → f e ≤ 2 ^ 32) → sum_by f front ≤ length front * 2 ^ 32
    = λ f fits. sum_by-le f (2 ^ 32) front (all_from_members (λ e. f e ≤ 2 ^ 32) front (λ e c. fits e (member_of_all IsSmall endings e small (take_within i endings e c)))) in
    record {
      queries = omega (arith, long, l, few);
      answered = count_by-le-length is_answered front;
      depth = each (figure_of answer_depth) (λ e s. s.depth);
      sorted = each (figure_of answer_sorted) (λ e s. s.sorted);
      random = each (figure_of answer_random) (λ e s. s.random);
      values = each (figure_of answer_lows) (λ e s. s.values);
    }

-- ---- over the one answers

module _ (input : BulkInput) where
  -- a query with a number ended with its one answer
  abbrev EndsSo : ℕ → Ended → Type 0
  EndsSo number e = EndsInOne (query_of input number) (table_of input) e

  figures_same : (f : Ended → ℕ) (one : Query → List (List Row) → ℕ)
      → ((number : ℕ) (e : Ended) → EndsSo number e → f e ≡ one (query_of input number) (table_of input))
      → (numbers : List ℕ) (endings : List Ended) → AllZip EndsSo numbers endings → sum_by f endings ≡ sum_by (λ number. one (query_of input number) (table_of input)) numbers
  figures_same f one same [] [] h = refl
  figures_same f one same [] (e ∷ endings) h = absurd h
  figures_same f one same (number ∷ numbers) [] h = absurd h
  figures_same f one same (number ∷ numbers) (e ∷ endings) h =
      let here = same number e h.0 in
      let rest = figures_same f one same numbers endings h.1 in
      let left = sum_by-cons f e endings in
      let right = sum_by-cons (λ number. one (query_of input number) (table_of input)) number numbers in
      omega (arith, here, rest, left, right)

  all_answered : (numbers : List ℕ) (endings : List Ended) → AllZip EndsSo numbers endings
      → sum_by (λ e. cond {A = ℕ} (is_answered e) 1 0) endings ≡ length numbers
  all_answered [] [] h = refl
  all_answered [] (e ∷ endings) h = absurd h
  all_answered (number ∷ numbers) [] h = absurd h
  all_answered (number ∷ numbers) (Answered answer ∷ endings) h =
      let rest = all_answered numbers endings h.1 in
      let left = sum_by-cons (λ e. cond {A = ℕ} (is_answered e) 1 0) (Answered answer) endings in
      omega (arith, rest, left)
  all_answered (number ∷ numbers) (Core fault ∷ endings) h = absurd h.0
  all_answered (number ∷ numbers) (Look list fault ∷ endings) h = absurd h.0

  same_depth : (number : ℕ) (e : Ended) → EndsSo number e → figure_of answer_depth e ≡ run_depth (query_of input number) (table_of input)
  same_depth number (Answered answer) h =
      ap (λ m. depth m answer.transcript.accesses) (sym h.1.lists) ∙ ap (λ (A : List Access). depth (length (table_of input)) A) h.0.run
  same_depth number (Core fault) h = absurd h
  same_depth number (Look list fault) h = absurd h

  same_sorted : (number : ℕ) (e : Ended) → EndsSo number e → figure_of answer_sorted e ≡ run_sorted (query_of input number) (table_of input)
  same_sorted number (Answered answer) h = ap sorted_count h.0.run
  same_sorted number (Core fault) h = absurd h
  same_sorted number (Look list fault) h = absurd h

  same_random : (number : ℕ) (e : Ended) → EndsSo number e → figure_of answer_random e ≡ run_random (query_of input number) (table_of input)
  same_random number (Answered answer) h = ap random_count h.0.run
  same_random number (Core fault) h = absurd h
  same_random number (Look list fault) h = absurd h

  same_low : (number : ℕ) (e : Ended) → EndsSo number e → figure_of answer_lows e ≡ answer_value (query_of input number) (table_of input)
  same_low number (Answered answer) h = ap (sum_by (λ (item : Item). item.low)) h.0.items
  same_low number (Core fault) h = absurd h
  same_low number (Look list fault) h = absurd h

  pub endings_long : (endings : List Ended) → AllEndInOne input endings → length endings ≡ input.queries
  endings_long endings all = AllZip-long EndsSo (range_with_len 0 input.queries) endings all ∙ length-range_with_len 0 input.queries

  pub sums_are : (endings : List Ended) → AllEndInOne input endings → sums_over endings ≡ bulk_sums input
  sums_are endings all =
      let numbers : List ℕ = range_with_len 0 input.queries in
      same_sums _ _ _ _ _ _ _ _ _ _ _ _ (endings_long endings all) (all_answered numbers endings all ∙ length-range_with_len 0 input.queries)
      (figures_same (figure_of answer_depth) run_depth same_depth numbers endings all) (figures_same (figure_of answer_sorted) run_sorted same_sorted numbers endings all)
      (figures_same (figure_of answer_random) run_random same_random numbers endings all) (figures_same (figure_of answer_lows) answer_value same_low numbers endings all)
