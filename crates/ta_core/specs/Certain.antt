-- What a threshold machine foresees of a list.
use Rattle.std.specs.Prelude.{ℕ}
use Rattle.ranked_list.specs.declared.need.Need.{Need}
use Rattle.topk_theory.specs.Transcript.{seen_objects}
use Rattle.machine_base.specs.Machine.{MachineState}
use Rattle.machine_base.specs.Certain.{left_of}

-- what is left of a list: after a row the run asks for the seen objects, of which those before the row are known
abbrev pub left_of_seen : MachineState → ℕ → Need
left_of_seen t list = left_of t (seen_objects t.log.accesses) list
