use Rattle.algorithm_theory.proofs.Parting.{fixes_parts_within, parts_fix_within}
use Rattle.algorithm_theory.proofs.within_laws.fixes_within_where_the_bounds_part.Goals as goal

pub returns : goal.returns
returns c =
    λ V k factor m n O A Y monotone lists some may.
    (fixes_parts_within V k factor m n O A Y lists some may, parts_fix_within V k factor m n O A Y monotone)
