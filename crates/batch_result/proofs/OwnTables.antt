-- The tables of ready queries are those of the queries that came of them.
use Rattle.std.proofs.Common.{◌≡◌, List, map, All, sym, ap, subst, ◌∙◌}
use Rattle.std.specs.List.{AllZip}
use Rattle.ranked_list.specs.declared.row.Row.{Row}
use Rattle.ranked_list.specs.Table.{IsTable}
use Rattle.topk_theory.specs.Transcript.{list_at}
use Rattle.topk_theory.proofs.AgreementLists.{all_from_members, member_of_all}
use Rattle.query_core.specs.declared.ready.Ready.{Ready}
use Rattle.query_run.specs.declared.running_query.RunningQuery.{RunningQuery}
use Rattle.query_run.specs.Honest.{lists_of, HasTable}
use Rattle.query_run.specs.Made.{IsOf}
use Rattle.query_run.proofs.Lists.{zip_member}
use Rattle.batch_result.specs.Tables.{lists_for}

-- the lists of a query are those of what it was made of
pub same_lists : (lists : List (List Row)) (ready : Ready) (q : RunningQuery) → IsOf ready q → lists_for lists ready ≡ lists_of lists q
same_lists lists ready q of = ap (map (list_at lists)) (sym of.sources)

table_of : (lists : List (List Row)) (ready : Ready) (q : RunningQuery) → IsOf ready q → IsTable ready.count (lists_for lists ready) → HasTable lists q
table_of lists ready q of table =
    subst (λ n. IsTable n (lists_of lists q)) (sym (of.goes.count ∙ of.begun.count)) (subst (IsTable ready.count) (same_lists lists ready q of) table)

pub all_tables : (lists : List (List Row)) (readies : List Ready) (queries : List RunningQuery) → AllZip IsOf readies queries
    → All (λ ready. IsTable ready.count (lists_for lists ready)) readies → All (HasTable lists) queries
all_tables lists readies queries of tables =
    all_from_members (HasTable lists) queries
    (λ q c.
    let from = zip_member IsOf readies queries q of c in
    table_of lists from.0 q from.2 (member_of_all (λ (ready : Ready). IsTable ready.count (lists_for lists ready)) readies from.0 tables from.1))
