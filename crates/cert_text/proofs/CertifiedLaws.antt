-- What is written of an answer is a certificate.
use Rattle.std.proofs.Common.{◌≡◌, ℕ, ◌+◌, ◌*◌, ◌<◌, ◌≤◌, ◌^◌, zero, suc, not, List, [], ◌∷◌, length, map, filter_map, Option, Some, None, IfSome, is_some, option_map, refl, sym, ap, subst, ◌∙◌, arith}
use Rattle.std.specs.List.{cons_option}
use Rattle.std.proofs.Math.Nat.{mul-le-mul}
use Rattle.std.proofs.lemmas.List.{length-map}
use Rattle.std.proofs.lemmas.List.FromFn.{length-range_with_len}
use Rattle.std.proofs.lemmas.List.Sums.{count_by-le-length}
use Rattle.std.proofs.lemmas.List.Elements.{All-weaker}
use Rattle.topk_base.specs.Lines.{lines}
use Rattle.topk_theory.specs.declared.access.Access.{Access}
use Rattle.monotone_fn.specs.Value.{value}
use Rattle.monotone_fn.specs.Shape.{list_count}
use Rattle.monotone_fn.specs.Limits.{IsExpr}
use Rattle.monotone_fn.proofs.Laws.{value-IsExpr, top_value-IsExpr}
use Rattle.topk_theory.specs.Bounds.{threshold}
use Rattle.topk_theory.specs.Consistent.{SomeAgrees}
use Rattle.topk_theory.specs.Threshold.{item_objects}
use Rattle.access_log.proofs.Readers.{bottoms_capped}
use Rattle.topk_theory.specs.Transcript.{list_numbers, bottom_of, depth, depth_of, sorted_row, is_sorted, sorted_count, random_count}
use Rattle.machine_base.specs.declared.answer.Answer.{Answer}
use Rattle.query_text.specs.declared.query.Query.{Query}
use Rattle.query_text.specs.Query.{IsLawful}
use Rattle.query_text.specs.declared.algorithm.Algorithm.{Algorithm}
use Rattle.query_text.specs.declared.algorithm.Algorithm.TheVariants.{Ta, Nra, Ca, Fa, Theta, Early, Taz}
use Rattle.query_text.proofs.RatedLaws.{factor_counts}
use Rattle.cert_text.specs.Guarantee.{guarantee_of, guarantee_by}
use Rattle.cert_text.proofs.Factors.{there_by, early_small}
use Rattle.cert_text.specs.declared.outcome.Outcome.TheVariants.{Answered}
use Rattle.cert_text.specs.Certificate.{IsGuarantee, IsAccess, IsCertificate}
use Rattle.query_text.specs.Costs.{costs_in_force}
use Rattle.cert_text.specs.Outcome.{factor_for, certificate_of, outcome_text, IsCertified}
use Rattle.cert_text.specs.Reading.{Spells}
use Rattle.cert_text.proofs.CountLaws.{list_count_names}
use Rattle.cert_text.proofs.FigureLaws.{depth_more}
use Rattle.query_text.proofs.LengthLaws.{length-printed}
use Rattle.cert_text.proofs.TextLaws.{lines-certificate}

cons_few : {X : Type 0} (o : Option X) (xs : List X) → length (cons_option o xs) ≤ suc (length xs)
cons_few None xs = omega arith
cons_few (Some x) xs = omega arith

-- a list isn't read deeper than there are accesses
depth_of_few : (list : ℕ) (A : List Access) → depth_of list A ≤ length A
depth_of_few list [] = omega arith
depth_of_few list (a ∷ A) = omega (arith, cons_few (sorted_row list a) (filter_map (sorted_row list) A), depth_of_few list A)

depth_few : (m : ℕ) (A : List Access) → depth m A ≤ length A
depth_few zero A = omega arith
depth_few (suc m) A =
    let e : suc m ≡ m + 1 = omega arith in
    subst (λ n. depth n A ≤ length A) (sym e) (omega (arith, depth_more m A, depth_few m A, depth_of_few m A))

-- the cost of fewer than 2^40 accesses at 1,000,000 each at most
cost_few : (s r a b n : ℕ) → s ≤ n → r ≤ n → n < 2 ^ 40 → a ≤ 1000000 → b ≤ 1000000 → s * a + r * b < 2 ^ 64
cost_few s r a b n s_few r_few few a_low b_low =
    let s_low : s ≤ 2 ^ 40 = omega arith in
    let r_low : r ≤ 2 ^ 40 = omega arith in
    omega (arith, mul-le-mul s_low a_low, mul-le-mul r_low b_low)

-- the value at the bottoms of a transcript with which some table agrees is small
threshold_small : (query : Query) (m n : ℕ) (A : List Access) → IsExpr query.expr → m ≡ list_count query.expr → SomeAgrees m n A
    → threshold (value query.expr) m A < 2 ^ 64
threshold_small query m n A is same some =
    let grades = bottoms_capped m n A (map (λ list. bottom_of list A) (list_numbers m)) some refl in
    let long : length (map (λ list. bottom_of list A) (list_numbers m)) ≡ m = length-map (list_numbers m) (λ list. bottom_of list A) ∙ length-range_with_len 0 m in
    omega (arith, value-IsExpr query.expr (map (λ list. bottom_of list A) (list_numbers m)) is (long ∙ same) grades, top_value-IsExpr query.expr is)

-- the numbers of a factor are small
factor_small : (query : Query) (m n : ℕ) (A : List Access) (Y : List ℕ) (algorithm : Algorithm) → query.algorithm ≡ algorithm → IsLawful query → IsExpr query.expr
    → m ≡ list_count query.expr → SomeAgrees m n A → IfSome (option_map guarantee_of (guarantee_by algorithm (value query.expr) m A Y)) IsGuarantee
factor_small query m n A Y Ta is lawful expr same some = tt
factor_small query m n A Y Nra is lawful expr same some = tt
factor_small query m n A Y Ca is lawful expr same some = tt
factor_small query m n A Y Fa is lawful expr same some = tt
factor_small query m n A Y (Theta p q) is lawful expr same some =
    let counts = factor_counts query p q lawful is in
    record { p = omega (arith, counts.p.1); q = omega (arith, counts.q.1) }
factor_small query m n A Y (Early depth) is lawful expr same some =
    let small = threshold_small query m n A expr same some in
    let both = early_small (value query.expr) m A Y 18446744073709551615 (omega (arith, small)) (omega arith) in
    record { p = omega (arith, both.0); q = omega (arith, both.1) }
factor_small query m n A Y Taz is lawful expr same some = tt

mapped_there : {X Y : Type 0} (f : X → Y) (o : Option X) → is_some (option_map f o) ≡ is_some o
mapped_there f None = refl
mapped_there f (Some x) = refl

certified : (line : ℕ) (query : Query) (count : ℕ) (versions : List ℕ) (answer : Answer) → IsCertified line query count versions answer
    → IsCertificate (certificate_of line query count versions answer)
certified line query count versions answer is =
    let A = answer.transcript.accesses in
    let few : length A < 2 ^ 40 = is.cost.accesses in
    let names : answer.transcript.lists ≤ length query.names = omega (arith, is.lists, list_count_names query is.lawful) in
    record {
      line_from = is.line_from;
      line_to = is.line_to;
      query = (record { short = length-printed query is.lawful is.expr; lawful = is.lawful; text = refl }, is.expr);
      count_from = omega (arith, is.counted, is.limits.some_objects);
      count_to = omega (arith, is.counted, is.limits.few_objects);
      versioned = is.versioned;
      versions = is.small;
      items = is.items;
      guaranteed =
          mapped_there guarantee_of (factor_for query answer)
          ∙ there_by query.algorithm (value query.expr) answer.transcript.lists A (item_objects answer.items);
      guarantee = factor_small query answer.transcript.lists answer.transcript.count A (item_objects answer.items) query.algorithm refl is.lawful is.expr is.lists is.consistent;
      depth = omega (arith, depth_few answer.transcript.lists A);
      sorted = omega (arith, count_by-le-length is_sorted A);
      random = omega (arith, count_by-le-length (λ access. not (is_sorted access)) A);
      cost = cost_few (sorted_count A) (random_count A) (costs_in_force query).sorted (costs_in_force query).random (length A) (count_by-le-length is_sorted A) (count_by-le-length (λ access. not (is_sorted access)) A) few is.cost.sorted is.cost.random;
      accesses = All-weaker (IsAccess answer.transcript.lists) (IsAccess (length query.names)) (λ a fits. record { list = omega (arith, fits.list); object = fits.object; grade = fits.grade }) A is.accesses;
    }

-- the text that is written of an answer spells its certificate
pub certified_spelled : (line : ℕ) (query : Query) (count : ℕ) (versions : List ℕ) (answer : Answer) (text : List ℕ) → IsCertified line query count versions answer
    → text ≡ outcome_text line (Some query) count versions (Answered answer) → Spells (lines text) (certificate_of line query count versions answer)
unfolding outcome_text
certified_spelled line query count versions answer text is same =
    let fits = certified line query count versions answer is in
    record { certificate = fits; spelled = ap lines same ∙ lines-certificate (certificate_of line query count versions answer) fits }
