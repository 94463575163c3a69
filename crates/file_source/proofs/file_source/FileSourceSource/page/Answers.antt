use Rattle.std.proofs.Common.{◌≡◌, ℕ, ◌∙◌, ap, take, drop, rules}
use Rattle.source_api.specs.declared.counts.Counts.{Counts}
use Rattle.source_api.specs.Counting.{gave_rows}
use Rattle.file_source.specs.Filed.{Filed}
use Rattle.file_source.proofs.RecordLaws.{told_rows_page}
use Rattle.file_source.proofs.file_source.FileSourceSource.page.Goals as goal

pub returns-clause-page : goal.returns-clause-page
returns-clause-page c =
    rw (← c.self.view_is)
    (told_rows_page c.self.inside.records.items c.in-Some.page.items c.args.from c.args.count c.requires
    ((rw c.in-Some.is at c.in-Ok.ensures) ∙ (c.part_of.ensures ∙ ap (λ r. take c.args.count (drop c.args.from r)) c.deref.ensures.value)))

counted : (before now : Filed) (counts : Counts) (n number : ℕ) → before ≡ now → counts ≡ gave_rows n before.counts → n ≡ number
    → counts ≡ gave_rows number now.counts
counted before now counts n number same is long = is ∙ (λ i. gave_rows (long i) (same i).counts)

pub returns-clause-answer : goal.returns-clause-answer
returns-clause-answer c =
    (rw c.in-Some.is at c.in-Ok.ensures)
    ∙ (c.part_of.ensures ∙ (ap (λ r. take c.args.count (drop c.args.from r)) c.deref.ensures.value
    ∙ ap (λ (f : Filed). take c.args.count (drop c.args.from f.records)) c.self.view_is))

pub returns-clause-after : goal.returns-clause-after
returns-clause-after c = λ i. record {
  records = (c.self.view_is i).records;
  counts = counted _ _ _ _ c.in-Some.page.len c.self.view_is c.count_rows.ensures (search rules) i;
}

pub returns-clause-given : goal.returns-clause-given
returns-clause-given c =
    let now = counted _ _ _ _ c.in-Some.page.len c.self.view_is c.count_rows.ensures (search rules) in
    record { rows = ap (λ (k : Counts). k.rows_given) now; grades = ap (λ (k : Counts). k.grades_given) now }
