use Rattle.std.proofs.Common.{◌≡◌, ◌<◌, ◌≤◌, ℕ, length, sym, ap, subst, ◌∙◌, arith}
use Rattle.ranked_list.specs.Table.{top_grade}
use Rattle.topk_theory.specs.Transcript.{object_of, named_objects}
use Rattle.access_log.specs.RecordsKept.{AreAhead}
use Rattle.access_log.proofs.FirstKind.{first_list, first_above, first_many, is_early, sorted_kinds, random_kinds}
use Rattle.access_log.proofs.inconsistency.first_kind.Goals as goal

pub returns-then-list-lists : goal.returns-then-list-lists
returns-then-list-lists c = λ A some o e p. first_list c.args.lists c.args.count A c.args.access (subst (λ l. c.args.lists ≤ l) c.list-list.ensures c.if-list-lists.true)

pub returns-then-grade-gt-TOP_GRADE : goal.returns-then-grade-gt-TOP_GRADE
returns-then-grade-gt-TOP_GRADE c = λ A some o e p. first_above c.args.lists c.args.count A c.args.access (subst (λ l. l < c.args.lists) c.list-list.ensures c.if-list-lists.false) (subst (λ g. top_grade < g) c.grade.ensures c.if-grade-gt-TOP_GRADE.true)

pub returns-then-is_too_many : goal.returns-then-is_too_many
returns-then-is_too_many c = λ A some o e p.
    let o_size = o.records.0 in
    let o_named : length c.args.objects.now.names.keys ≡ length (named_objects A) = ap (length {A = ℕ}) o.names in
    let counted : c.len.result ≡ length (named_objects A) = omega (arith, c.len.ensures, c.args.objects.now.records.ok.0) in
    first_many c.args.lists c.args.count A c.args.access c.args.place c.len.result (subst (λ l. l < c.args.lists) c.list-list.ensures c.if-list-lists.false) (subst (λ g. g ≤ top_grade) c.grade.ensures c.if-grade-gt-TOP_GRADE.false) p counted (sym c.is_too_many.ensures ∙ c.if-is_too_many.true)

pub returns-in-Sorted : goal.returns-in-Sorted
returns-in-Sorted c = λ A some o e p.
    let o_size = o.records.0 in
    let o_named : length c.args.objects.now.names.keys ≡ length (named_objects A) = ap (length {A = ℕ}) o.names in
    let counted : c.len.result ≡ length (named_objects A) = omega (arith, c.len.ensures, c.args.objects.now.records.ok.0) in
    let early = is_early c.args.lists c.args.count A c.args.access c.args.place c.len.result (subst (λ l. l < c.args.lists) c.list-list.ensures c.if-list-lists.false) (subst (λ g. g ≤ top_grade) c.grade.ensures c.if-grade-gt-TOP_GRADE.false) p counted (sym c.is_too_many.ensures ∙ c.if-is_too_many.false) in
    sorted_kinds c.args.lists c.args.count A c.args.access c.in-Sorted.list c.in-Sorted.object c.in-Sorted.grade c.list-list.result _ _ _ c.greatest.result c.first_of_sorted.result
    c.in-Sorted.is c.list-list.ensures some early (e.bottoms c.list-list.result c.if-list-lists.false)
    (c.look-known.ensures c.args.lists (object_of c.args.access) A c.if-list-lists.false o p)
    (c.greatest.ensures c.args.lists A c.if-list-lists.false (subst (λ ks. AreAhead c.args.lists A ks c.args.objects.now.ahead.heaps.items) o.names o.ahead))
    c.first_of_sorted.ensures

pub returns-in-Random : goal.returns-in-Random
returns-in-Random c = λ A some o e p.
    let o_size = o.records.0 in
    let o_named : length c.args.objects.now.names.keys ≡ length (named_objects A) = ap (length {A = ℕ}) o.names in
    let counted : c.len.result ≡ length (named_objects A) = omega (arith, c.len.ensures, c.args.objects.now.records.ok.0) in
    let early = is_early c.args.lists c.args.count A c.args.access c.args.place c.len.result (subst (λ l. l < c.args.lists) c.list-list.ensures c.if-list-lists.false) (subst (λ g. g ≤ top_grade) c.grade.ensures c.if-grade-gt-TOP_GRADE.false) p counted (sym c.is_too_many.ensures ∙ c.if-is_too_many.false) in
    random_kinds c.args.lists c.args.count A c.args.access c.in-Random.list c.in-Random.object c.in-Random.grade c.list-list.result _ _ _ c.first_of_random.result
    c.in-Random.is c.list-list.ensures some early (e.bottoms c.list-list.result c.if-list-lists.false)
    (c.look-known.ensures c.args.lists (object_of c.args.access) A c.if-list-lists.false o p)
    c.first_of_random.ensures
