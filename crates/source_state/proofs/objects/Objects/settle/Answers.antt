use Rattle.std.proofs.Common.{Some, sym, ap, ◌∙◌}
use Rattle.source_state.specs.declared.ask.Ask.{Ask}
use Rattle.source_state.specs.ObjectKeeping.{ObjectList}
use Rattle.source_state.proofs.Caching.{ask_no_place, change_unfound}
use Rattle.source_state.proofs.objects.Objects.settle.Goals as goal

pub returns-in_err-place-clause-settled : goal.returns-in_err-place-clause-settled
returns-in_err-place-clause-settled c =
    ap (λ asks. let list : ObjectList = record c.args.self.now { asks = asks } in list)
    (sym (change_unfound c.args.object (λ (one : Ask). record one { settling = Some c.args.settling }) c.args.self.now.asks
    (ask_no_place c.args.self.now.asks c.args.object (sym c.spot.ensures.place ∙ c.in_err-place.was))))
