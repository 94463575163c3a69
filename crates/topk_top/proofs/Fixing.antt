-- Nothing is told of a right answer's certificate but that it is fixed.
use Rattle.std.proofs.Common.{◌≡◌, ℕ, zero, suc, ◌-◌, ◌≤◌, Bool, length, List, [], ◌∷◌, ◌++◌, map, take, drop, All, Contains, Option, None, Some, option_map, Ok, Err, slice_get, refl, sym, ap, ap₂, subst, arith, take-append-drop}
use Rattle.std.proofs.lemmas.Bool.{true≢false}
use Rattle.ranked_list.specs.declared.row.Row.{Row}
use Rattle.ranked_list.specs.declared.item.Item.{Item}
use Rattle.monotone_fn.specs.Shape.{list_count}
use Rattle.monotone_fn.specs.Value.{value}
use Rattle.monotone_fn.proofs.Laws.{value-monotone}
use Rattle.topk_theory.specs.declared.access.Access.{Access}
use Rattle.topk_theory.specs.declared.access.Access.TheVariants.{Sorted, Random}
use Rattle.topk_theory.specs.Transcript.{Agrees, IsTame, seen_objects, depth, sorted_count, random_count, cost}
use Rattle.topk_theory.specs.Bounds.{bounded}
use Rattle.topk_theory.specs.Consistent.{SomeAgrees}
use Rattle.topk_theory.specs.Threshold.{item_objects}
use Rattle.topk_theory.proofs.AgreementLists.{contains_here, contains_there, contains_map, member_of_all}
use Rattle.cert_text.specs.Guarantee.{factor_of, guarantee_of, guarantee_by}
use Rattle.query_core.specs.Methods.{Method, method_with, items_with, FixesBy}
use Rattle.topk_theory.proofs.Agreement.{agrees_front, contains_middle, seen_is_named}
use Rattle.access_log.specs.Log.{Log, IsConsistent}
use Rattle.machine_base.specs.declared.answer.Answer.{Answer}
use Rattle.query_text.specs.declared.query.Query.{Query}
use Rattle.cert_text.specs.declared.certificate.Certificate.{Certificate}
use Rattle.monotone_fn.specs.Limits.{IsExpr}
use Rattle.query_text.specs.Query.{IsLawful}
use Rattle.query_text.specs.Costs.{costs_in_force}
use Rattle.cert_text.specs.Certificate.{guaranteed}
use Rattle.cert_text.specs.Outcome.{certificate_of, factor_for}
use Rattle.query_core.specs.OneAnswer.{asked_by, IsAnsweredWith}
use Rattle.topk_theory.specs.Asked.{Asked}
use Rattle.algorithm_theory.specs.Within.{Factor}
use Rattle.cert_judge.specs.declared.verdict.Verdict.TheVariants as verdict
use Rattle.cert_judge.specs.declared.verdict.JudgeFault.{JudgeFault}
use Rattle.cert_judge.specs.declared.verdict.JudgeFault.TheVariants as fault
use Rattle.cert_judge.specs.Deciding.{Judges, IsFair, IsWildAfter}
use Rattle.cert_judge.specs.declared.judgement.Judgement.{Judgement}
use Rattle.cert_judge.specs.declared.judgement.Judgement.TheVariants.{BadLine, Inconsistent, WildGuess, WrongSize, UnseenAnswer, Figure, Fixes as IsFixed, Beaten}
use Rattle.cert_judge.specs.Transcripts.{log_of, front}
use Rattle.cert_judge.specs.Figures.{HasItsFigures, figures_from, item_figures, guarantee_figures}
use Rattle.cert_judge.specs.Judging.{JudgesBy, IsJudged, TellsOfCertificate}
use Rattle.query_core.proofs.AllFacts.{facts}
use Rattle.query_core.proofs.Facts.{IsRunOn}
use Rattle.query_core.proofs.ClaimLaws.{written_back, agrees_as}
use Rattle.topk_top.proofs.Good.{good_objects}

-- the certificate is of a transcript that fixes its answer, with its figures
pub record IsFixedBy (c : Certificate) : Type 0 where
  pub consistent : IsConsistent (log_of c)
  pub fair : IsFair c.query.k c.accesses (item_objects c.items)
  pub figures : HasItsFigures c
  pub fixed : FixesBy (guaranteed c) (asked_by c.query) (list_count c.query.expr) c.count c.accesses (item_objects c.items)

parted : {X : Type 0} (xs : List X) (i : ℕ) (x : X) → slice_get xs i ≡ Some x → (rest : List X) × (xs ≡ take i xs ++ x ∷ rest)
parted [] i x e = absurd (cc)
parted (y ∷ xs) zero x e = (xs, let same : y ≡ x = cc in ap (λ z. z ∷ xs) same)
parted (y ∷ xs) (suc i) x e = let p = parted xs i x e in (p.0, ap (λ zs. y ∷ zs) p.1)

no_wild : (A : List Access) (place : ℕ) (access : Access) → IsTame A → slice_get A place ≡ Some access → ¬ IsWildAfter (take place A) access
no_wild A place (Sorted l o g) tame e = λ wild. true≢false wild.random
no_wild A place (Random l o g) tame e = λ wild. let p = parted A place (Random l o g) e in wild.unseen (tame (take place A) p.0 l o g p.1)

front_consistent : (c : Certificate) (place : ℕ) → IsConsistent (log_of c) → IsConsistent (front (list_count c.query.expr) c.count c.accesses place)
front_consistent c place some = (
  some.0,
  agrees_front (list_count c.query.expr) c.count some.0 (take place c.accesses) (drop place c.accesses)
      (subst (λ A. Agrees (list_count c.query.expr) c.count some.0 A) (sym (take-append-drop place c.accesses)) some.1),
)

-- a verdict or a fault, within a factor or not
faulted : (o : Option Factor) (V : List ℕ → ℕ) (k : ℕ) (log : Log) (Y : List ℕ) (fault : JudgeFault) → JudgesBy o V k log Y (Err fault)
    → Judges V k log Y (Err fault)
faulted None V k log Y fault h = h
faulted (Some factor) V k log Y fault h = h

never_beaten : (o : Option Factor) (asked : Asked) (log : Log) (Y : List ℕ) (inside outside lowest highest : ℕ)
    → FixesBy o asked log.lists log.count log.accesses Y → JudgesBy o asked.value asked.k log Y (Ok (verdict.Beaten inside outside lowest highest)) → ⊥
never_beaten None asked log Y inside outside lowest highest fixed h = h.1.unfixed fixed
never_beaten (Some factor) asked log Y inside outside lowest highest fixed h = h.1.unfixed fixed

pub judged_fixed : (o : Option Factor) (asked : Asked) (log : Log) (Y : List ℕ) → IsFair asked.k log.accesses Y
    → FixesBy o asked log.lists log.count log.accesses Y → JudgesBy o asked.value asked.k log Y (Ok verdict.Fixes)
judged_fixed None asked log Y fair fixed = (fair, fixed)
judged_fixed (Some factor) asked log Y fair fixed = (fair, fixed)

-- of the judge's word on a certificate
judged_fault : (c : Certificate) (fault : JudgeFault) → IsJudged c (Err fault) → Judges (value c.query.expr) c.query.k (log_of c) (item_objects c.items) (Err fault)
judged_fault c fault h = faulted (guaranteed c) (value c.query.expr) c.query.k (log_of c) (item_objects c.items) fault h.judged

pub only_fixed : (c : Certificate) (told : Judgement) → IsFixedBy c → TellsOfCertificate c told → told ≡ IsFixed
only_fixed c (BadLine line) is h = absurd h
only_fixed c (Inconsistent at kind) is h = absurd (h.with_it (front_consistent c at is.consistent))
only_fixed c (WildGuess at) is h = let guess = (judged_fault c (fault.WildGuess at) h).guess in absurd (no_wild c.accesses (at - 1) guess.0 is.fair.tame guess.1 guess.2)
only_fixed c (WrongSize given k) is h = absurd ((judged_fault c (fault.WrongSize given k) h).3 is.fair.size)
only_fixed c (UnseenAnswer object) is h =
    let first = (judged_fault c (fault.UnseenAnswer object) h).2 in
    absurd (first.4 (member_of_all (Contains (seen_objects c.accesses)) (item_objects c.items) object is.fair.seen
    (subst (λ ys. Contains ys object) (sym first.2) (contains_middle first.0 object first.1))))
only_fixed c (Figure line) is h = absurd (h.2.1.here (ap (λ xs. slice_get xs (line - figures_from c)) is.figures))
only_fixed c IsFixed is h = refl
only_fixed c (Beaten inside outside low high counter) is h =
    absurd (never_beaten (guaranteed c) (asked_by c.query) (log_of c) (item_objects c.items) inside outside low high is.fixed h.0.judged)

items_same : (f : ℕ → Item) (items : List Item) → ((item : Item) → Contains items item → item ≡ f item.object) → items ≡ map f (item_objects items)
items_same f [] each = refl
items_same f (item ∷ items) each = ap₂ (λ (i : Item) (is : List Item). i ∷ is) (each item (contains_here item items)) (items_same f items (λ other c. each other (contains_there item items other c)))

-- what is found of a right answer, over its query's lists of so many objects
pub record IsHonest (q : Query) (n : ℕ) (answer : Answer) : Type 0 where
  pub some : SomeAgrees (list_count q.expr) n answer.transcript.accesses
  pub tame : IsTame answer.transcript.accesses
  pub seen : All (Contains (seen_objects answer.transcript.accesses)) (item_objects answer.items)
  pub each : (item : Item) → Contains answer.items item → item ≡ bounded (value q.expr) (list_count q.expr) answer.transcript.accesses item.object

pub fixed_of : (method : Method) (q : Query) (n : ℕ) (answer : Answer) → IsLawful q → IsExpr q.expr → q.k ≤ n → IsAnsweredWith method q n answer
    → IsHonest q n answer
fixed_of method q n answer lawful expr fits right =
    let m = list_count q.expr in
    let A = answer.transcript.accesses in
    let some : SomeAgrees m n A = (right.some.0, agrees_as answer.transcript.lists answer.transcript.count m n right.some.0 A right.lists right.count right.some.1) in
    let every : (D : List (List Row)) → Agrees m n D A → IsRunOn method (asked_by q) n A answer.items D = λ D agrees.
    let one = right.every D (agrees_as m n answer.transcript.lists answer.transcript.count D A (sym right.lists) (sym right.count) agrees) in
    record {
      is_asked = record { table = agrees.table; lists = omega (arith, agrees.lists, expr.lists.some); positive = lawful.k.0; fits = fits };
      run = one.run;
      exact = one.items;
    } in
    let D = some.0 in
    let on = every D some.1 in
    let tame : IsTame A = subst IsTame (sym on.run) ((facts method).tame (asked_by q) n D (value-monotone q.expr) on.is_asked) in
    let seen : All (Contains (seen_objects A)) (item_objects answer.items) =
    subst (λ items. All (Contains (seen_objects A)) (item_objects items)) (sym on.exact)
    (subst (λ B. All (Contains (seen_objects B)) (item_objects (items_with method (asked_by q) D))) (sym on.run) ((facts method).seen (asked_by q) n D (value-monotone q.expr) on.is_asked)) in
    record {
      some = some;
      tame = tame;
      seen = seen;
      each = λ item c. (facts method).given (asked_by q) m n A answer.items item expr.lists.some some
          (seen_is_named A item.object (member_of_all (Contains (seen_objects A)) (item_objects answer.items) item.object seen (contains_map (λ (i : Item). i.object) answer.items item c))) every c;
    }

-- the certificate of a right answer
pub fixed_by : (sorted : List Bool) (line : ℕ) (q : Query) (n : ℕ) (versions : List ℕ) (answer : Answer) → IsHonest q n answer
    → IsAnsweredWith (method_with q.algorithm sorted) q n answer → IsFixedBy (certificate_of line q n versions answer)
fixed_by sorted line q n versions answer honest right =
    let m = list_count q.expr in
    let A = answer.transcript.accesses in
    let V : List ℕ → ℕ = value q.expr in
    let Y = item_objects answer.items in
    let D = right.some.0 in
    let factor = factor_for q answer in
    let objects = good_objects (guarantee_by q.algorithm V (length D) A Y) (asked_by q) D Y (right.every D right.some.1).top in
    record {
      consistent = honest.some;
      fair = record { tame = honest.tame; size = record { sized = objects.sized; distinct = objects.distinct }; seen = honest.seen };
      figures = ap₂ (λ (items : List Item) (k : ℕ). map item_figures items
          ++ (guarantee_figures (option_map factor_of (option_map guarantee_of (guarantee_by q.algorithm V k A Y)))
          ++ (depth k A ∷ sorted_count A ∷ random_count A ∷ cost (costs_in_force q).sorted (costs_in_force q).random A ∷ []) ∷ []))
          (items_same (bounded V m A) answer.items honest.each) right.lists;
      fixed = subst (λ f. FixesBy f (asked_by q) m n A Y) (sym (written_back factor))
          (subst (λ k. FixesBy factor (asked_by q) k n A Y) right.lists (subst (λ c. FixesBy factor (asked_by q) answer.transcript.lists c A Y) right.count right.fixed));
    }
