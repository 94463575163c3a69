-- When an expression has bounds after accesses.
use Rattle.std.specs.Prelude.{◌≤◌, List, All}
use Rattle.ranked_list.specs.Table.{top_grade}
use Rattle.topk_theory.specs.declared.access.Access.{Access}
use Rattle.topk_theory.specs.Transcript.{grade_of}

-- no access gave a grade above the greatest
abbrev pub AreCapped : List Access → Type 0
AreCapped A = All (λ access. grade_of access ≤ top_grade) A
