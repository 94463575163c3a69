-- What is known of each method.
use Rattle.std.proofs.Common.{Bool, List}
use Rattle.query_text.specs.declared.algorithm.Algorithm.{Algorithm}
use Rattle.query_text.specs.declared.algorithm.Algorithm.TheVariants.{Ta, Nra, Ca, Fa, Theta, Early, Taz}
use Rattle.query_core.specs.Methods.{Method}
use Rattle.query_core.proofs.Facts.{AreFacts}
use Rattle.query_core.proofs.ThresholdFacts.{threshold_facts}
use Rattle.query_core.proofs.NoRandomFacts.{no_random_facts}
use Rattle.query_core.proofs.CombinedFacts.{combined_facts}
use Rattle.query_core.proofs.FaginFacts.{fagin_facts}
use Rattle.query_core.proofs.StoppedFacts.{theta_facts, early_facts}
use Rattle.query_core.proofs.RestrictedFacts.{restricted_facts}

facts_by : (a : Algorithm) (sorted : List Bool) → AreFacts (record { algorithm = a; sorted = sorted })
facts_by Ta sorted = threshold_facts sorted
facts_by Nra sorted = no_random_facts sorted
facts_by Ca sorted = combined_facts sorted
facts_by Fa sorted = fagin_facts sorted
facts_by (Theta p q) sorted = theta_facts p q sorted
facts_by (Early depth) sorted = early_facts depth sorted
facts_by Taz sorted = restricted_facts sorted

pub facts : (method : Method) → AreFacts method
facts method = facts_by method.algorithm method.sorted
