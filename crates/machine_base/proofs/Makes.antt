-- What makes a machine's run, and what its answer has to show.
use Rattle.std.proofs.Common.{◌≡◌, ℕ, zero, suc, ◌≤◌, List, [], ◌∷◌, ◌++◌, length, Contains, Some, None, slice_get, refl, sym, ap, subst, ◌∙◌, arith}
use Rattle.std.proofs.lemmas.List.{take_all}
use Rattle.ranked_list.specs.declared.row.Row.{Row}
use Rattle.ranked_list.specs.declared.item.Item.{Item}
use Rattle.ranked_list.specs.declared.need.Need.{Need}
use Rattle.ranked_list.specs.declared.need.Need.TheVariants.{Done}
use Rattle.monotone_fn.specs.Value.{value}
use Rattle.topk_theory.specs.declared.access.Access.{Access}
use Rattle.topk_theory.specs.Aggregate.{IsTop}
use Rattle.topk_theory.specs.Transcript.{Begins, named_objects}
use Rattle.topk_theory.specs.Threshold.{item_objects}
use Rattle.topk_theory.specs.Asked.{Run, Answering}
use Rattle.topk_theory.specs.Machine.{need_of, IsAt, CanServe}
use Rattle.topk_theory.proofs.AgreementLists.{all_from_members, member_of_all, begins_with, slice_get_behind}
use Rattle.access_log.specs.Log.{AgreesWith, IsConsistent}
use Rattle.machine_base.specs.Machine.{MachineState, asked_of, IsOfSeen, MakesRun, IsAnswerBy}
use Rattle.machine_base.specs.declared.base.Base.{Base}
use Rattle.machine_base.specs.Base.{shown, Holds}

-- a machine makes its run where on each table that agrees it is on it, and the table has what it needs
pub makes_run : (run : Run) (base : Base) (need : Need) → Holds base
    → ((D : List (List Row)) → AgreesWith D base.transcript → IsAt (run (asked_of (shown base need)) D) base.transcript.accesses need × CanServe D need)
    → IsOfSeen base.transcript need → MakesRun run (shown base need)
makes_run run base need held needed tame = record {
  posed = held.posed;
  consistent = held.agreeing;
  on_run = λ D agrees. (needed D agrees).0;
  served = λ D agrees. (needed D agrees).1;
  tame = tame;
}

-- accesses that the run goes on from are on it, and need its next one
pub at_access : (run A : List Access) (next : Access) (later : List Access) → run ≡ A ++ next ∷ later → IsAt run A (need_of A (Some next))
at_access run A next later is = record {
  begins = subst (Begins A) (sym is) (begins_with A (next ∷ later));
  next = ap (need_of A) (sym (ap (λ B. slice_get B (length A)) is ∙ slice_get_behind A next later));
}

-- those that are the run need nothing
nothing_past : {X : Type 0} (xs : List X) (p : ℕ) → length xs ≤ p → slice_get xs p ≡ None
nothing_past [] p l = refl
nothing_past (x ∷ xs) zero l = absurd (omega arith)
nothing_past (x ∷ xs) (suc p) l = nothing_past xs p (omega arith)

pub at_end : (run A : List Access) (D : List (List Row)) → A ≡ run → IsAt run A Done × CanServe D Done
at_end run A D is = (
  record {
    begins = take_all (length A) run (omega (arith, ap length is)) ∙ sym is;
    next = ap (need_of A) (sym (nothing_past run (length A) (omega (arith, ap length is))));
  },
  tt,
)

-- an answer that is the algorithm's and a top k of each table that agrees is fixed, where its objects are named
pub answer_by : (answer : Answering) (t : MachineState) (items : List Item) → IsConsistent t.log
    → ((D : List (List Row)) → AgreesWith D t.log → items ≡ answer (asked_of t) D)
    → ((D : List (List Row)) → AgreesWith D t.log → IsTop (value t.expr) t.k D (item_objects items))
    → ((o : ℕ) → Contains (item_objects items) o → Contains (named_objects t.log.accesses) o) → IsAnswerBy answer t items
answer_by answer t items some exact top named = record {
  exact = record { on_each = exact };
  top = record { on_each = top };
  fixed = record {
    fixes = λ O set holds. record {
      sized = (top some.0 some.1).sized;
      distinct = (top some.0 some.1).distinct;
      members = all_from_members (Contains O) (item_objects items) (λ o h. member_of_all (Contains O) (named_objects t.log.accesses) o holds (named o h));
      always = λ D agrees over. top D agrees;
    };
  };
}
