-- The table that beats an answer is a bundle, with the names and the text of the query.
use Rattle.std.proofs.Common.{◌≡◌, ◌≢◌, ℕ, ◌<◌, ◌≤◌, ◌^◌, List, ◌∷◌, ◌++◌, length, map, codes, All, Contains, Option, None, Some, Ok, sym, ap, subst, ◌∙◌, arith}
use Rattle.topk_base.specs.Lines.{lines}
use Rattle.topk_base.proofs.LineLaws.{lines_have_no_end}
use Rattle.ranked_list.specs.declared.row.Row.{Row}
use Rattle.ranked_list.specs.Table.{IsTable}
use Rattle.bundle_text.specs.Bundle.{Content, content, IsBundle}
use Rattle.monotone_fn.specs.Shape.{list_count}
use Rattle.topk_theory.specs.declared.access.Access.{Access}
use Rattle.topk_theory.specs.Transcript.{Agrees, object_of, named_objects}
use Rattle.topk_theory.specs.Fixes.{IsOver}
use Rattle.topk_theory.specs.Threshold.{item_objects}
use Rattle.algorithm_theory.specs.Within.{Factor}
use Rattle.access_log.specs.Log.{Log, AgreesWith}
use Rattle.monotone_fn.specs.Value.{value}
use Rattle.cert_judge.specs.Deciding.{judged_objects}
use Rattle.cert_judge.specs.declared.verdict.Verdict.TheVariants as verdict
use Rattle.cert_judge.specs.Transcripts.{log_of}
use Rattle.cert_judge.specs.Judging.{JudgesBy}
use Rattle.topk_theory.specs.Adversary.{object_set, counter_table}
use Rattle.topk_theory.proofs.AgreementLists.{all_from_members, member_of_all, contains_map, contains_map_from, contains_here, contains_there}
use Rattle.std.proofs.lemmas.List.Elements.{Contains-append_right}
use Rattle.topk_theory.proofs.AgreementNames.{each_once_within}
use Rattle.topk_theory.proofs.ThresholdDepth.{table_holds}
use Rattle.topk_theory.proofs.Consistent.{object_set_below}
use Rattle.query_text.specs.Query.{printed}
use Rattle.query_core.proofs.ListCount.{lists_counted}
use Rattle.cert_text.specs.declared.certificate.Certificate.{Certificate}
use Rattle.cert_text.specs.Certificate.{IsAccess, number_line, query_line, count_line, version_lines, answer_line, guarantee_lines, guaranteed, stop_line, access_lines, certificate_lines}
use Rattle.cert_text.specs.Reading.{Spells}
use Rattle.topk_top.specs.Laws.{CountersAreBundles}

-- an object that the accesses of a certificate name is small
named_small : (m : ℕ) (A : List Access) (object : ℕ) → All (IsAccess m) A → Contains (named_objects A) object → object < 2 ^ 32
named_small m A object all c =
    let from = contains_map_from object_of A object (each_once_within (map object_of A) object c) in
    subst (λ z. z < 2 ^ 32) from.2 (member_of_all (IsAccess m) A from.0 all from.1).object

-- a table over the named objects and the smallest others has small objects
rows_small : (m n : ℕ) (A : List Access) (D : List (List Row)) → All (IsAccess m) A → n ≤ 200000 → IsTable n D → IsOver (object_set n (named_objects A)) D
    → All (λ rows. All (λ row. row.object < 2 ^ 32) rows) D
rows_small m n A D all few table over = all_from_members (λ rows. All (λ row. row.object < 2 ^ 32) rows) D (λ rows h.
    all_from_members (λ row. row.object < 2 ^ 32) rows (λ row c.
    let there = (over row.object).0 (table_holds n D rows row.object table h (contains_map (λ (r : Row). r.object) rows row c)) in
    object_set_below n 4294967296 (named_objects A) row.object (omega arith) (λ o d. named_small m A o all d) there))

-- the text of a certificate's query is one line
one_line : (bytes : List ℕ) (c : Certificate) → Spells (lines bytes) c → All (λ byte. byte ≢ 10) (printed c.query)
one_line bytes c spells = all_from_members (λ byte. byte ≢ 10) (printed c.query) (λ byte h.
    let rest = count_line c.count ∷ (version_lines c.query.names c.versions ++ (map answer_line c.items
    ++ (guarantee_lines (guaranteed c) ++ stop_line c.depth c.sorted c.random c.cost ∷ access_lines c.query.names c.accesses))) in
    let line : Contains (certificate_lines c) (query_line c.query) = contains_there (number_line c.line) (query_line c.query ∷ rest) (query_line c.query) (contains_here (query_line c.query) rest) in
    let plain = member_of_all (All (λ byte. byte ≢ 10)) (lines bytes) (query_line c.query) (lines_have_no_end bytes) (subst (λ ls. Contains ls (query_line c.query)) (sym spells.spelled) line) in
    member_of_all (λ byte. byte ≢ 10) (query_line c.query) byte plain (Contains-append_right (codes "query ") (printed c.query) byte h))

content_is : (counter : Content) (names : List (List ℕ)) (lists : List (List Row)) (query : List ℕ) → counter.names ≡ names → counter.lists ≡ lists
    → counter.query ≡ query
    → counter ≡ record { names = names; lists = lists; query = query }
content_is counter names lists query n l q =
    ap (λ (z : List (List ℕ)). record { names = z; lists = counter.lists; query = counter.query }) n
    ∙ (ap (λ (z : List (List Row)). record { names = names; lists = z; query = counter.query }) l ∙ ap (λ (z : List ℕ). record { names = names; lists = lists; query = z }) q)

-- the table that beats an answer, by more than a factor or not, is one of the judged objects
beats : (o : Option Factor) (V : List ℕ → ℕ) (k : ℕ) (log : Log) (Y : List ℕ) (inside outside lowest highest : ℕ)
    → JudgesBy o V k log Y (Ok (verdict.Beaten inside outside lowest highest))
    → AgreesWith (counter_table log.lists log.count log.accesses inside) log × IsOver (judged_objects log) (counter_table log.lists log.count log.accesses inside)
beats None V k log Y inside outside lowest highest h = (h.1.counter.agrees, h.1.counter.over)
beats (Some factor) V k log Y inside outside lowest highest h = (h.1.counter.agrees, h.1.counter.over)

pub counters_bundle : CountersAreBundles
counters_bundle bytes inside outside low high counter tells =
    let c = tells.some.0 in
    let spells = tells.some.1 in
    let told = tells.each c spells in
    let table = beats (guaranteed c) (value c.query.expr) c.query.k (log_of c) (item_objects c.items) inside outside low high told.0.judged in
    let is = told.2 in
    let cert = spells.certificate in
    let m = list_count c.query.expr in
    let D = counter_table m c.count c.accesses inside in
    let agrees : Agrees m c.count D c.accesses = table.0 in
    let lawful = cert.query.0.lawful in
    let many : m ≡ length c.query.names = lists_counted c.query lawful in
    let some : 0 < m = cert.query.1.lists.some in
    let few : m ≤ 8 = cert.query.1.lists.few in
    let whole : IsBundle (record { names = c.query.names; lists = D; query = printed c.query }) = record {
      some = omega (arith, agrees.lists);
      few = omega (arith, agrees.lists);
      each_named = sym many ∙ sym agrees.lists;
      names = lawful.names;
      apart = lawful.different;
      table = (c.count, cert.count_from, cert.count_to, agrees.table);
      small = rows_small (length c.query.names) c.count c.accesses D cert.accesses cert.count_to agrees.table table.1;
      one_line = one_line bytes c spells;
    } in
    subst IsBundle (sym (content_is (content counter) c.query.names D (printed c.query) is.names is.lists is.query)) whole
