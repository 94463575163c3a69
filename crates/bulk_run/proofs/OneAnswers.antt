-- Each made query ends with its one answer.
use Rattle.std.proofs.Common.{◌≡◌, ℕ, zero, suc, Bool, Some, None, List, [], ◌∷◌, map, Option, refl, sym, ap, subst, ◌∙◌, arith}
use Rattle.std.specs.List.{AllZip, range_with_len}
use Rattle.tk_io.specs.Faults.{Rose}
use Rattle.ranked_list.specs.declared.row.Row.{Row}
use Rattle.access_log.specs.Log.{AgreesWith}
use Rattle.machine_base.specs.declared.core_fault.CoreFault.TheVariants.{Strangers, RoomFull}
use Rattle.query_text.specs.declared.query.Query.{Query}
use Rattle.query_core.specs.declared.ready.Ready.{Ready}
use Rattle.query_core.specs.Methods.{method_with}
use Rattle.query_core.specs.OneAnswer.{IsOneAnswer, IsOneAnswerWith}
use Rattle.query_run.specs.declared.ended.Ended.{Ended}
use Rattle.query_run.specs.declared.ended.Ended.TheVariants.{Answered, Core, Look}
use Rattle.fetcher.specs.declared.slot.Slot.{Slot}
use Rattle.bulk_run.proofs.TableLaws.{table_told}
use Rattle.topk_base.specs.declared.settings.Settings.{Settings}
use Rattle.batch_result.specs.Numbered.{counts_at}
use Rattle.batch_result.specs.Batches.{BatchState, BatchRun, run_of, IsBatch}
use Rattle.batch_result.specs.Tables.{lists_for, TellsTables, EndsOver}
use Rattle.bulk_run.specs.declared.input.BulkInput.{BulkInput}
use Rattle.bulk_run.specs.Held.{Held, fresh_slot, told_rows, counts_of, calls_of, version_of}
use Rattle.bulk_run.specs.Sums.{table_of, query_of}
use Rattle.bulk_run.specs.Endings.{IsMadeReady, AreMadeReady, EndsInOne, AllEndInOne}
use Rattle.bulk_run.proofs.Readying.{made_lists, all_have_tables}

-- ---- no call failed

-- made sources have counted no fault, no garble and no move
no_faults : (slots : List (Slot Held)) (source : ℕ) → (counts_at (map (λ slot. counts_of slot.source) slots) source).faults ≡ 0
no_faults [] source = refl
no_faults (slot ∷ slots) zero = refl
no_faults (slot ∷ slots) (suc source) = no_faults slots source

no_garbles : (slots : List (Slot Held)) (source : ℕ) → (counts_at (map (λ slot. counts_of slot.source) slots) source).garbles ≡ 0
no_garbles [] source = refl
no_garbles (slot ∷ slots) zero = refl
no_garbles (slot ∷ slots) (suc source) = no_garbles slots source

no_moves : (slots : List (Slot Held)) (source : ℕ) → (counts_at (map (λ slot. counts_of slot.source) slots) source).moves ≡ 0
no_moves [] source = refl
no_moves (slot ∷ slots) zero = refl
no_moves (slot ∷ slots) (suc source) = no_moves slots source

not_rose : (before now : ℕ) → now ≡ 0 → Rose before now → ⊥
not_rose before now none rose = omega (arith, none, rose)

tells_tables : (input : BulkInput) (settings : Settings) (counts : List ℕ) (readies : List Ready) (before now : List (Slot Held))
    → AreMadeReady input readies → before ≡ map fresh_slot (table_of input)
    → TellsTables (run_of told_rows counts_of calls_of version_of settings counts readies before now) (table_of input)
tells_tables input settings counts readies before now are fresh = record {
  told = ap (λ (slots : List (Slot Held)). map (λ slot. told_rows slot.source) slots) fresh ∙ table_told input.start input.count input.lists;
  tables = all_have_tables input readies are;
  untroubled = λ source l. record {
    faults = not_rose _ _ (no_faults now source);
    garbles = not_rose _ _ (no_garbles now source);
    moves = not_rose _ _ (no_moves now source);
  };
}

-- ---- how each ends

never_full : (query : Query) (room : ℕ) → query.room ≡ None → query.room ≡ Some room → ⊥
never_full query room none stated = refused (sym none ∙ stated)
  where
    refused : None ≡ Option.Some room → ⊥
    refused e = cc

ends_in_one : (input : BulkInput) (number : ℕ) (ready : Ready) (e : Ended) → IsMadeReady input number ready → EndsOver (lists_for (table_of input) ready) ready e
    → EndsInOne (query_of input number) (table_of input) e
ends_in_one input number ready (Answered answer) made h =
    let agrees : AgreesWith (table_of input) answer.transcript =
    subst (λ (D : List (List Row)). AgreesWith D answer.transcript) (made_lists input ready.sources.items made.sources) h.agrees in
    let one : IsOneAnswer ready.query (table_of input) answer =
    subst (λ (bs : List Bool). IsOneAnswerWith (method_with ready.query.algorithm bs) ready.query (table_of input) answer) made.sorted
    (h.answered.every (table_of input) agrees) in
    (subst (λ (query : Query). IsOneAnswer query (table_of input) answer) made.query one, agrees)
ends_in_one input number ready (Core (RoomFull room)) made h = never_full ready.query room (ap (λ (query : Query). query.room) made.query) h.stated
ends_in_one input number ready (Core (Strangers object count)) made h = h
ends_in_one input number ready (Look list fault) made h = h

all_in_one : (input : BulkInput) (numbers : List ℕ) (readies : List Ready) (endings : List Ended) → AllZip (IsMadeReady input) numbers readies
    → AllZip (λ ready. EndsOver (lists_for (table_of input) ready) ready) readies endings
    → AllZip (λ number. EndsInOne (query_of input number) (table_of input)) numbers endings
all_in_one input [] [] [] made ends = tt
all_in_one input [] [] (e ∷ endings) made ends = absurd ends
all_in_one input [] (ready ∷ readies) endings made ends = absurd made
all_in_one input (number ∷ numbers) [] endings made ends = absurd made
all_in_one input (number ∷ numbers) (ready ∷ readies) [] made ends = absurd ends
all_in_one input (number ∷ numbers) (ready ∷ readies) (e ∷ endings) made ends =
    (ends_in_one input number ready e made.0 ends.0, all_in_one input numbers readies endings made.1 ends.1)

-- what `told_tables_give_the_one_ending` promises
abbrev pub ToldTablesGiveTheOneEnding : Type 0
ToldTablesGiveTheOneEnding = (run : BatchRun) (batch : BatchState) (lists : List (List Row)) → IsBatch run batch → TellsTables run lists
    → AllZip (λ ready. EndsOver (lists_for lists ready) ready) run.readies batch.endings

-- how a batch of made queries over the sources of their table ended
pub ran_in_one : (input : BulkInput) (settings : Settings) (counts : List ℕ) (readies : List Ready) (before now : List (Slot Held)) (batch : BatchState)
    → AreMadeReady input readies → before ≡ map fresh_slot (table_of input) → ToldTablesGiveTheOneEnding
    → IsBatch (run_of told_rows counts_of calls_of version_of settings counts readies before now) batch → AllEndInOne input batch.endings
ran_in_one input settings counts readies before now batch are fresh law ran =
    all_in_one input (range_with_len 0 input.queries) readies batch.endings are
    (law (run_of told_rows counts_of calls_of version_of settings counts readies before now) batch (table_of input) ran (tells_tables input settings counts readies before now are fresh))
