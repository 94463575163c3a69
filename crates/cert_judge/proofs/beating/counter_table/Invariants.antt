use Rattle.std.proofs.Common.{◌≡◌, map}
use Rattle.topk_theory.specs.Transcript.{list_numbers, sorted_rows}
use Rattle.topk_theory.specs.Adversary.{chosen, against, filled}
use Rattle.cert_judge.proofs.beating.counter_table.Given as goal

abbrev pub invariant-loop-list : goal.invariant-loop-list
invariant-loop-list l = l.lists.items ≡ map (λ list. filled (chosen (against l.inside l.transcript.accesses) l.transcript.accesses list) l.objects.items (sorted_rows list l.transcript.accesses)) (list_numbers l.list)
