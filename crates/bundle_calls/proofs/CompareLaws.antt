-- What each algorithm reads for the query of a bundle, and what is written of it.
use Rattle.std.proofs.Common.{◌≡◌, ℕ, ◌≤◌, Bool, true, false, List, [], length, replicate, Contains, Option, Some, None, Result, Ok, Err, IfOk, inl, inr, refl, sym, ap, ap₂, ◌∙◌, subst, arith}
use Rattle.std.proofs.lemmas.List.{length-take-le, length-replicate, get_or-replicate}
use Rattle.ranked_list.specs.declared.row.Row.{Row}
use Rattle.topk_base.specs.Lines.{lines}
use Rattle.monotone_fn.specs.Value.{value, IsMonotone}
use Rattle.monotone_fn.proofs.Laws.{value-monotone}
use Rattle.topk_theory.specs.declared.access.Access.{Access}
use Rattle.topk_theory.specs.Transcript.{list_at, depth}
use Rattle.topk_theory.specs.Threshold.{IsAsked, ta_run, ta_depth}
use Rattle.topk_theory.proofs.AgreementLists.{contains_at}
use Rattle.topk_theory.proofs.AgreementRows.{list_at_length}
use Rattle.topk_theory.proofs.ThresholdLaws.{least_depth}
use Rattle.topk_theory.proofs.ThresholdRun.{run_rows}
use Rattle.algorithm_theory.proofs.NearBestDepths.{depth_is}
use Rattle.algorithm_theory.specs.Fagin.{fa_depth, fa_run}
use Rattle.algorithm_theory.proofs.FaginLeast.{ta_is_no_deeper}
use Rattle.algorithm_theory.proofs.FaginRuns.{fa_run_depth}
use Rattle.machine_base.specs.declared.answer.Answer.{Answer}
use Rattle.query_text.specs.declared.algorithm.Algorithm.{Algorithm}
use Rattle.query_text.specs.declared.algorithm.Algorithm.TheVariants.{Ta, Nra, Ca, Fa, Theta, Early, Taz}
use Rattle.query_text.specs.declared.query.Query.{Query}
use Rattle.query_text.specs.Query.{IsRated}
use Rattle.query_text.specs.Costs.{costs_in_force}
use Rattle.bundle_text.specs.Bundle.{Content, Spells, IsBundle, IsFirstFault}
use Rattle.cert_text.specs.declared.refusal.Refusal.{Refusal}
use Rattle.cert_text.specs.declared.outcome.Outcome.TheVariants.{Refused as NoAnswer}
use Rattle.cert_text.specs.Outcome.{HasCost}
use Rattle.query_core.specs.declared.ready.Ready.{Ready}
use Rattle.query_core.specs.Methods.{Method, method_with}
use Rattle.query_core.specs.Ready.{HasToRead}
use Rattle.query_core.specs.OneAnswer.{one_run_with, IsOverRoomWith}
use Rattle.query_core.specs.Driving.{AnswersOver}
use Rattle.query_core.proofs.ListCount.{lists_counted}
use Rattle.query_admission.specs.Causes.{admission_causes}
use Rattle.query_admission.specs.Admission.{RefusesLine, IsAdmitted}
use Rattle.query_admission.proofs.Becoming.{answered_writable, refused_writable}
use Rattle.bundle_calls.specs.declared.figures.Figures.{Figures}
use Rattle.bundle_calls.specs.declared.figures.Compared.{Compared as FourFigures}
use Rattle.bundle_calls.specs.declared.comparing.Comparison.{Comparison}
use Rattle.bundle_calls.specs.declared.comparing.Comparison.TheVariants.{Refused, Compared}
use Rattle.bundle_calls.specs.declared.replies.Reply.TheVariants.{NoBundle, Line}
use Rattle.bundle_calls.specs.Bundled.{bundle_line, lists_at}
use Rattle.bundle_calls.specs.Compare.{query_by, depth_by, line_of, Compares, ComparesBundle, ComparedAreAnswered}
use Rattle.bundle_calls.specs.Comparing.{IsOver, figures_from, figures_of, figures_by, compared_by, MayBeSaid}
use Rattle.bundle_calls.proofs.Bundling.{lists_told, lists_table, lists_many, listed_in_order, ready_in_order}

-- where a list can be read in order, each algorithm has a list to read
some_to_read : (a : Algorithm) (sorted : List Bool) → Contains sorted true → HasToRead a sorted
some_to_read Ta sorted some = tt
some_to_read Nra sorted some = tt
some_to_read Ca sorted some = tt
some_to_read Fa sorted some = tt
some_to_read (Theta p q) sorted some = tt
some_to_read (Early depth) sorted some = tt
some_to_read Taz sorted some = some

some_of_all : (n : ℕ) (sorted : List Bool) → 1 ≤ n → sorted ≡ replicate n true → Contains sorted true
some_of_all n sorted some all =
    let long : length (replicate n true) ≡ n = length-replicate n true in
    let first : Contains (replicate n true) true =
    subst (Contains (replicate n true)) (get_or-replicate n 0 true false (omega (arith, some))) (contains_at (replicate n true) 0 false (omega (arith, some, long))) in
    subst (λ bs. Contains bs true) (sym all) first

-- a query that is ready is so by each algorithm, with no room stated
pub over_by : (a : Algorithm) (r : Ready) (D : List (List Row)) (query : Query) → IsRated a → query ≡ query_by a r.query → IsOver r D
    → IsOver (record r { query = query }) D
over_by a r D query rated is over =
    let ready = over.ready in
    let lawful = ready.lawful in
    let some = ready.expr.lists.some in
    let counted = lists_counted r.query lawful in
    subst (λ q. IsOver (record r { query = q }) D) (sym is) (record {
      ready = record {
        lawful = record {
          k = lawful.k;
          names = lawful.names;
          different = lawful.different;
          few = lawful.few;
          listed = lawful.listed;
          numbered = lawful.numbered;
          weights = lawful.weights;
          algorithm = rated;
          cost = lawful.cost;
          room = tt;
        };
        expr = ready.expr;
        fits = ready.fits;
        counted = ready.counted;
        sources = ready.sources;
        versions = ready.versions;
        sorted = ready.sorted;
        readable = some_to_read a r.sorted.items (some_of_all (length r.query.names) r.sorted.items (omega (arith, some, counted)) over.in_order);
      };
      table = over.table;
      lists = over.lists;
      in_order = over.in_order;
    })

-- an answer of it has the figures of the algorithm's one run, and a cost
figures_of_answer : (a : Algorithm) (r : Ready) (D : List (List Row)) (answer : Answer) → r.sorted.items ≡ replicate (length r.query.names) true
    → AnswersOver (record r { query = query_by a r.query }) D answer → figures_of (query_by a r.query) answer.transcript ≡ figures_by a r.query D
figures_of_answer a r D answer in_order over =
    let run = (over.answered.every D over.agrees).run ∙ ap (λ (bs : List Bool). one_run_with (method_with a bs) (query_by a r.query) D) in_order in
    ap₂ (λ (m : ℕ) (A : List Access). figures_from (costs_in_force r.query) m A) (sym over.agrees.lists) run

pub figures_right : (a : Algorithm) (r : Ready) (D : List (List Row)) (query : Query) (answer : Answer) → query ≡ query_by a r.query → IsOver r D
    → AnswersOver (record r { query = query }) D answer → figures_of query answer.transcript ≡ figures_by a r.query D
figures_right a r D query answer is over answers =
    ap (λ q. figures_of q answer.transcript) is
    ∙ figures_of_answer a r D answer over.in_order (subst (λ q. AnswersOver (record r { query = q }) D answer) is answers)

pub has_cost : (a : Algorithm) (r : Ready) (D : List (List Row)) (query : Query) (answer : Answer) → IsRated a → query ≡ query_by a r.query → IsOver r D
    → AnswersOver (record r { query = query }) D answer → HasCost query answer.transcript
has_cost a r D query answer rated is over answers =
    (answered_writable (record r { query = query }) answer (over_by a r D query rated is over).ready answers.answered).1

-- it states no room that it could pass
none_some : (room : Option ℕ) (n : ℕ) → room ≡ None → room ≡ Some n → ⊥
none_some None n e f = absurd cc
none_some (Some m) n e f = absurd cc

pub no_room : (a : Algorithm) (q query : Query) (method : Method) (n room : ℕ) (D : List (List Row)) → query ≡ query_by a q
    → IsOverRoomWith method query n D room → ⊥
no_room a q query method n room D is over = none_some query.room room (ap (λ (x : Query). x.room) is) over.stated

-- what is read by each algorithm in turn
pub compared_is : (q q1 q2 q3 : Query) (D D1 D2 D3 : List (List Row)) (ta nra ca fa : Figures) → q1 ≡ query_by Ta q → q2 ≡ query_by Nra q1
    → q3 ≡ query_by Ca q2 → D1 ≡ D → D2 ≡ D1 → D3 ≡ D2 → ta ≡ figures_by Ta q D → nra ≡ figures_by Nra q1 D1 → ca ≡ figures_by Ca q2 D2
    → fa ≡ figures_by Fa q3 D3 → record { ta = ta; nra = nra; ca = ca; fa = fa } ≡ compared_by q D
compared_is q q1 q2 q3 D D1 D2 D3 ta nra ca fa e1 e2 e3 d1 d2 d3 t n c f =
    let p2 : q2 ≡ query_by Nra q = e2 ∙ ap (query_by Nra) e1 in
    let p3 : q3 ≡ query_by Ca q = e3 ∙ ap (query_by Ca) p2 in
    let second : nra ≡ figures_by Nra q D = n ∙ ap₂ (figures_by Nra) e1 d1 in
    let third : ca ≡ figures_by Ca q D = c ∙ ap₂ (figures_by Ca) p2 (d2 ∙ d1) in
    let fourth : fa ≡ figures_by Fa q D = f ∙ ap₂ (figures_by Fa) p3 (d3 ∙ (d2 ∙ d1)) in
    λ i. record { ta = t i; nra = second i; ca = third i; fa = fourth i }

-- the threshold algorithm reads no deeper than Fagin's
ta_run_depth : (V : List ℕ → ℕ) (k n : ℕ) (D : List (List Row)) → IsMonotone V → IsAsked k n D → depth (length D) (ta_run V k D) ≡ ta_depth V k D
ta_run_depth V k n D monotone asked =
    let within : ta_depth V k D ≤ n = (least_depth V k n D monotone asked).within in
    depth_is (length D) (ta_run V k D) (ta_depth V k D) asked.lists (λ list l.
    let long : length (list_at D list) ≡ n = list_at_length n D list asked.table l in
    ap length (run_rows n D list (ta_depth V k D) asked.table l within) ∙ length-take-le (ta_depth V k D) (list_at D list) (omega arith))

no_deeper : (r : Ready) (D : List (List Row)) → IsOver r D → depth_by Ta r.query D ≤ depth_by Fa r.query D
no_deeper r D over =
    let q = r.query in
    let some = over.ready.expr.lists.some in
    let asked : IsAsked q.k r.count D = record { table = over.table; lists = omega (arith, over.lists, some); positive = over.ready.lawful.k.0; fits = over.ready.fits } in
    let one : depth (length D) (ta_run (value q.expr) q.k D) ≡ ta_depth (value q.expr) q.k D = ta_run_depth (value q.expr) q.k r.count D (value-monotone q.expr) asked in
    let other : depth (length D) (fa_run q.k D) ≡ fa_depth q.k D = fa_run_depth q.k r.count D asked in
    let less : ta_depth (value q.expr) q.k D ≤ fa_depth q.k D = ta_is_no_deeper (value q.expr) q.k r.count D (value-monotone q.expr) asked in
    let is : depth (length D) (ta_run (value q.expr) q.k D) ≤ depth (length D) (fa_run q.k D) = omega (arith, one, other, less) in
    is

-- the lists of a query that is ready over a bundle
pub over_bundle : (c : Content) (r : Ready) → IsBundle c → IsAdmitted (bundle_line c) r → IsOver r (lists_at c r.sources.items)
over_bundle c r bundle admitted = record {
  ready = admitted.sound;
  table = lists_table c r bundle admitted;
  lists = lists_many c r admitted;
  in_order = ready_in_order c r admitted;
}

-- a query that is ready over a bundle is compared
pub compares_ready : (c : Content) (r : Ready) (compared : FourFigures) → IsBundle c → IsAdmitted (bundle_line c) r
    → compared ≡ compared_by r.query (lists_at c r.sources.items) → MayBeSaid (ComparesBundle c) (Compared compared)
compares_ready c r compared bundle admitted is =
    let D = lists_at c r.sources.items in
    subst (λ figures. MayBeSaid (ComparesBundle c) (Compared figures)) (sym is) (record {
      sayable = tt;
      replied = inr (record {
        unrefused = admitted.unrefused;
        query = r.query;
        reads = admitted.reads;
        lists = D;
        told = lists_told c r admitted;
        no_deeper = no_deeper r D (over_bundle c r bundle admitted);
        status_is = refl;
        text_is = refl;
      });
    })

-- a line that is refused before it runs is refused
pub compare_refused : (c : Content) (refusal : Refusal) (query : Option Query) → RefusesLine admission_causes (bundle_line c) refusal query
    → MayBeSaid (ComparesBundle c) (Refused (Line (record { query = query; count = 0; versions = []; outcome = NoAnswer refusal })))
compare_refused c refusal query refused = record {
  sayable = refused_writable query [] (bundle_line c) admission_causes refusal refused;
  replied = inl (record { refusal = refusal; query = query; refused = refused; status_is = refl; text_is = refl });
}

-- an input that is no bundle, and one that is
pub no_bundle : (bytes : List ℕ) (line : ℕ) → ((c : Content) → ¬ Spells (lines bytes) c) → IsFirstFault (lines bytes) line
    → MayBeSaid (Compares bytes) (Refused (NoBundle line))
no_bundle bytes line none fault = record {
  sayable = tt;
  replied = inl (record { no_bundle = none; line = line; fault = fault; status_is = refl; text_is = refl });
}

pub of_bundle : {E : Type 0} → (bytes : List ℕ) (c : Content) (result : Result Comparison E) → Spells (lines bytes) c
    → IfOk result (MayBeSaid (ComparesBundle c)) → IfOk result (MayBeSaid (Compares bytes))
of_bundle bytes c (Ok comparison) spelled said = record { sayable = said.sayable; replied = inr (c, spelled, said.replied) }
of_bundle bytes c (Err fault) spelled said = tt

-- what is compared are the figures of what is answered
pub compared_answered : ComparedAreAnswered
compared_answered content query algorithm count versions answer lists told line =
    let agrees = line.agrees lists told in
    let asked = query_by algorithm query in
    let run = (line.right.every lists agrees).run
    ∙ ap (λ (bs : List Bool). one_run_with (method_with algorithm bs) asked lists) (listed_in_order content asked line.lists line.listed) in
    ap₂ (λ (m : ℕ) (A : List Access). line_of algorithm (costs_in_force query) m A) agrees.lists (sym run)
