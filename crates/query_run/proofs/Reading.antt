-- What was read by a query never changes.
use Rattle.std.proofs.Common.{◌≡◌, true, false, Option, Some, None, List, [], ◌∷◌, length, refl, sym, ap, subst, ◌∙◌, arith}
use Rattle.std.specs.List.{AllZip}
use Rattle.std.proofs.lemmas.List.{take_all}
use Rattle.turn_lock.proofs.Growth.{grows_on}
use Rattle.ranked_list.specs.declared.row.Row.{Row}
use Rattle.topk_theory.specs.declared.access.Access.{Access}
use Rattle.topk_theory.specs.Transcript.{Begins}
use Rattle.topk_theory.proofs.AgreementLists.{begins_with, begins_trans}
use Rattle.machine_base.specs.Machine.{MachineState, Takes}
use Rattle.machine_base.specs.declared.core_fault.CoreFault.TheVariants.{Strangers, RoomFull}
use Rattle.source_state.specs.declared.look.Look.{Look}
use Rattle.source_state.specs.declared.look.Look.TheVariants as look
use Rattle.source_state.specs.State.{State}
use Rattle.query_core.specs.Driving.{Continues}
use Rattle.query_core.specs.Machines.{method_of, state_of}
use Rattle.query_core.proofs.Feeding.{continues_same, continues_on}
use Rattle.query_run.specs.declared.ended.Refusal.{Refusal}
use Rattle.query_run.specs.declared.ended.Refusal.TheVariants as refusal
use Rattle.query_run.specs.declared.running_query.RunningQuery.{RunningQuery}
use Rattle.query_run.specs.Histories.{GoesOn}
use Rattle.query_run.specs.Inquiries.{is_ended}
use Rattle.query_run.specs.Turns.{RowTaken, Answers}
use Rattle.query_run.specs.Kept.{ReadsOn}
use Rattle.query_run.proofs.Causes.{fault_more}

-- the transcript of a machine
abbrev accesses : MachineState → List Access
accesses t = t.log.accesses

begins_same : (A : List Access) → Begins A A
begins_same A = take_all (length A) A (omega arith)

read_same : (t u : MachineState) → u ≡ t → Begins (accesses t) (accesses u)
read_same t u e = subst (λ s. Begins (accesses t) (accesses s)) (sym e) (begins_same (accesses t))

read_more : (access : Access) (t u : MachineState) → Takes access t u → Begins (accesses t) (accesses u)
read_more access t u h = subst (Begins (accesses t)) (sym h.log.accesses) (begins_with (accesses t) (access ∷ []))

-- what a query makes of an answer
row_read : (row : Row) (q r : RunningQuery) (refused : Option Refusal) → RowTaken row q r refused
    → Begins (accesses (state_of q.machine)) (accesses (state_of r.machine))
row_read row q r None h = read_more _ (state_of q.machine) (state_of r.machine) h.1
row_read row q r (Some (refusal.Core (Strangers object count))) h = read_same (state_of q.machine) (state_of r.machine) h.4
row_read row q r (Some (refusal.Core (RoomFull room))) h = read_same (state_of q.machine) (state_of r.machine) h.3
row_read row q r (Some (refusal.Look list fault)) h = absurd h

answer_read : (q r : RunningQuery) (answer : Look) → Answers q r answer → Begins (accesses (state_of q.machine)) (accesses (state_of r.machine))
answer_read q r (look.Row row) h = row_read row q r r.refusal h
answer_read q r (look.Grade grade) h = read_more _ (state_of q.machine) (state_of r.machine) h.1
answer_read q r look.NotYet h = read_same (state_of q.machine) (state_of r.machine) (ap state_of h.1)
answer_read q r (look.Fault fault) h = read_same (state_of q.machine) (state_of r.machine) (ap state_of h.1)

-- a turn of a query that hasn't ended
pub turn_reads : (q r : RunningQuery) (answer : Look) → is_ended q ≡ false → r.sources.items ≡ q.sources.items → method_of r.machine ≡ method_of q.machine
    → Continues (state_of q.machine) (state_of r.machine) → Answers q r answer → ReadsOn q r
turn_reads q r answer going sources same goes answers = record {
  sources = sources;
  method = same;
  goes = goes;
  read = answer_read q r answer answers;
  ended = λ e. let bad : true ≡ false = sym e ∙ going in absurd (cc);
}

-- no step, and one step after another
reads_same : (q : RunningQuery) → ReadsOn q q
reads_same q = record { sources = refl; method = refl; goes = continues_same (state_of q.machine); read = begins_same (accesses (state_of q.machine)); ended = λ e. refl }

pub reads_on : (p q r : RunningQuery) → ReadsOn p q → ReadsOn q r → ReadsOn p r
reads_on p q r one other = record {
  sources = other.sources ∙ one.sources;
  method = other.method ∙ one.method;
  goes = continues_on (state_of p.machine) (state_of q.machine) (state_of r.machine) one.goes other.goes;
  read = begins_trans (accesses (state_of p.machine)) (accesses (state_of q.machine)) (accesses (state_of r.machine)) one.read other.read;
  ended = λ e. let same : q ≡ p = one.ended e in other.ended (ap is_ended same ∙ e) ∙ same;
}

pub all_read_same : (queries : List RunningQuery) → AllZip ReadsOn queries queries
all_read_same [] = tt
all_read_same (q ∷ queries) = (reads_same q, all_read_same queries)

pub all_read_on : (ps qs rs : List RunningQuery) → AllZip ReadsOn ps qs → AllZip ReadsOn qs rs → AllZip ReadsOn ps rs
all_read_on [] [] [] one other = tt
all_read_on [] [] (r ∷ rs) one other = absurd other
all_read_on [] (q ∷ qs) rs one other = absurd one
all_read_on (p ∷ ps) [] rs one other = absurd one
all_read_on (p ∷ ps) (q ∷ qs) [] one other = absurd other
all_read_on (p ∷ ps) (q ∷ qs) (r ∷ rs) one other = (reads_on p q r one.0 other.0, all_read_on ps qs rs one.1 other.1)

pub goes_on : (s t u : State) → GoesOn s t → GoesOn t u → GoesOn s u
goes_on s t u one other = record {
  grows = grows_on one.grows other.grows;
  closed = λ fault set. other.closed fault (fault_more s.log t.log fault one.grows.log set) ∙ one.closed fault set;
}
