-- Made queries are ready to run over the made table.
use Rattle.std.proofs.Common.{◌≡◌, ◌≤◌, ◌<◌, ◌+◌, ℕ, true, min, List, [], ◌∷◌, ◌++◌, length, map, replicate, All, refl, sym, ap, subst, ◌∙◌, arith}
use Rattle.std.specs.Prelude.{◌%◌, ◌==◌, Bool, false, cond}
use Rattle.std.specs.List.{AllZip, range_with_len, slice_index_or}
use Rattle.std.proofs.Math.Nat.{mod-lt}
use Rattle.std.proofs.lemmas.List.{get_or-replicate, length-replicate}
use Rattle.std.proofs.lemmas.List.Elements.{All-replicate}
use Rattle.std.proofs.lemmas.List.FromFn.{length-range_with_len, length-map-range_with_len, fill_by_all}
use Rattle.std.proofs.lemmas.Slice.Zip.{all_zipped_more, AllZip-long}
use Rattle.monotone_fn.specs.Limits.{IsExpr}
use Rattle.ranked_list.specs.declared.row.Row.{Row}
use Rattle.ranked_list.specs.Table.{IsTable}
use Rattle.topk_theory.specs.Transcript.{list_at, list_numbers}
use Rattle.topk_theory.proofs.AgreementLists.{all_from_members}
use Rattle.topk_theory.proofs.ListNumbers.{number_below, range_more}
use Rattle.made_inputs.specs.MadeQueries.{made_algorithm}
use Rattle.made_inputs.proofs.Making.{is_table}
use Rattle.bundle_text.specs.Numbered.{list_name}
use Rattle.query_text.specs.declared.algorithm.Algorithm.TheVariants.{Ta, Nra, Ca}
use Rattle.query_text.specs.declared.query.Query.{Query}
use Rattle.query_text.specs.Query.{IsLawful}
use Rattle.query_core.specs.declared.ready.Ready.{Ready}
use Rattle.query_core.specs.Ready.{HasToRead}
use Rattle.query_run.specs.Made.{IsReadyFor}
use Rattle.query_run.proofs.Lists.{zip_member}
use Rattle.batch_result.specs.Tables.{lists_for}
use Rattle.bulk_run.specs.declared.input.BulkInput.{BulkInput}
use Rattle.bulk_run.proofs.TableLaws.{table_long}
use Rattle.bulk_run.specs.Sums.{IsInput, table_of, query_of}
use Rattle.bulk_run.specs.Endings.{IsMadeReady, AreMadeReady}

-- the lists of the table, in their order
pub in_order : (D : List (List Row)) → map (list_at D) (list_numbers (length D)) ≡ D
in_order D = sym (fill_by_all (list_at D) D (length D) [] refl (λ k l. refl))

-- ---- the queries

-- no made query asks for lists that can be read in order
made_readable : (number : ℕ) (sorted : List Bool) → HasToRead (made_algorithm number) sorted
made_readable number sorted = go (number % 3 == 0) (number % 3 == 1)
  where
    go : (first second : Bool) → HasToRead (cond first Ta (cond second Nra Ca)) sorted
    go true second = tt
    go false true = tt
    go false false = tt

pub ready_made : (input : BulkInput) (number : ℕ) (ready : Ready) → IsInput input → ready.query ≡ query_of input number → ready.count ≡ input.count
    → ready.sources.items ≡ list_numbers input.lists → ready.versions.items ≡ replicate input.lists 0 → ready.sorted.items ≡ replicate input.lists true
    → IsLawful ready.query → IsExpr ready.query.expr
    → IsMadeReady input number ready
ready_made input number ready within query count sources versions sorted lawful expr =
    let some = within.some_objects in
    let few = within.few_objects in
    let k : ready.query.k ≡ 1 + number % min input.count 10 = ap (λ (q : Query). q.k) query in
    let turn : number % min input.count 10 < min input.count 10 = mod-lt number (omega (arith, some)) in
    let names : length ready.query.names ≡ input.lists = ap (λ (q : Query). length q.names) query ∙ length-map-range_with_len list_name 1 input.lists in
    let many : length ready.sources.items ≡ input.lists = ap length sources ∙ length-range_with_len 0 input.lists in
    record {
      is = record {
        lawful = lawful;
        expr = expr;
        fits = omega (arith, k, turn, count);
        counted = omega (arith, count, few);
        sources = many ∙ sym names;
        versions = ap length versions ∙ (length-replicate input.lists 0 ∙ sym names);
        sorted = ap length sorted ∙ (length-replicate input.lists true ∙ sym names);
        readable = subst (λ (q : Query). HasToRead q.algorithm ready.sorted.items) (sym query) (made_readable number ready.sorted.items);
      };
      query = query;
      count = count;
      sources = sources;
      sorted = sorted ∙ ap (λ n. replicate n true) (sym names);
    }

-- one ready query more
pub readies_more : (input : BulkInput) (number : ℕ) (readies more : List Ready) (ready : Ready) → AllZip (IsMadeReady input) (range_with_len 0 number) readies
    → more ≡ readies ++ ready ∷ [] → IsMadeReady input number ready → AllZip (IsMadeReady input) (range_with_len 0 (number + 1)) more
readies_more input number readies more ready before push is =
    subst (λ ns. AllZip (IsMadeReady input) ns more) (sym (range_more number))
    (subst (AllZip (IsMadeReady input) (range_with_len 0 number ++ number ∷ [])) (sym push) (all_zipped_more (IsMadeReady input) (range_with_len 0 number) readies number ready before is))

pub readies_long : (input : BulkInput) (readies : List Ready) → AreMadeReady input readies → length readies ≡ input.queries
readies_long input readies are = AllZip-long (IsMadeReady input) (range_with_len 0 input.queries) readies are ∙ length-range_with_len 0 input.queries

-- a source has as many objects as are counted
abbrev HasCount : List ℕ → ℕ → ℕ → Type 0
HasCount counts n source = (source < length counts) × (slice_index_or counts source 0 ≡ n)

ready_for : (input : BulkInput) (number : ℕ) (ready : Ready) (counts : List ℕ) → counts ≡ replicate input.lists input.count → IsMadeReady input number ready
    → IsReadyFor counts ready
ready_for input number ready counts is made = record {
  is = made.is;
  sources = subst (All (HasCount counts ready.count)) (sym made.sources)
      (all_from_members (HasCount counts ready.count) (list_numbers input.lists) (λ source c.
      let below = number_below input.lists source c in
      let long : length counts ≡ input.lists = ap length is ∙ length-replicate input.lists input.count in
      (omega (arith, below, long), ap (λ (cs : List ℕ). slice_index_or cs source 0) is ∙ get_or-replicate input.lists source input.count 0 below ∙ sym made.count)));
}

pub all_ready_for : (input : BulkInput) (readies : List Ready) (counts : List ℕ) → counts ≡ replicate input.lists input.count → AreMadeReady input readies
    → All (IsReadyFor counts) readies
all_ready_for input readies counts is are =
    all_from_members (IsReadyFor counts) readies (λ ready c.
    let of = zip_member (IsMadeReady input) (range_with_len 0 input.queries) readies ready are c in ready_for input of.0 ready counts is of.2)

pub all_counted : (input : BulkInput) (counts : List ℕ) → IsInput input → counts ≡ replicate input.lists input.count → All (λ count. count ≤ 200000) counts
all_counted input counts within is = subst (All (λ count. count ≤ 200000)) (sym is) (All-replicate (λ count. count ≤ 200000) input.lists input.count within.few_objects)

pub counts_long : (input : BulkInput) (counts : List ℕ) → counts ≡ replicate input.lists input.count → length counts ≡ input.lists
counts_long input counts is = ap length is ∙ length-replicate input.lists input.count

-- the lists of each are the made table
pub made_lists : (input : BulkInput) (sources : List ℕ) → sources ≡ list_numbers input.lists → map (list_at (table_of input)) sources ≡ table_of input
made_lists input sources is =
    ap (map (list_at (table_of input))) (is ∙ ap list_numbers (sym (table_long input.start input.count input.lists))) ∙ in_order (table_of input)

has_table : (input : BulkInput) (number : ℕ) (ready : Ready) → IsMadeReady input number ready → IsTable ready.count (lists_for (table_of input) ready)
has_table input number ready made =
    subst (λ n. IsTable n (lists_for (table_of input) ready)) (sym made.count)
    (subst (IsTable input.count) (sym (made_lists input ready.sources.items made.sources)) (is_table input.start input.count input.lists))

pub all_have_tables : (input : BulkInput) (readies : List Ready) → AreMadeReady input readies
    → All (λ ready. IsTable ready.count (lists_for (table_of input) ready)) readies
all_have_tables input readies are =
    all_from_members (λ (ready : Ready). IsTable ready.count (lists_for (table_of input) ready)) readies (λ ready c.
    let number = zip_member (IsMadeReady input) (range_with_len 0 input.queries) readies ready are c in has_table input number.0 ready number.2)
