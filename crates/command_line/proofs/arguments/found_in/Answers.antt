use Rattle.std.proofs.Common.{refl, ◌∙◌}
use Rattle.command_line.proofs.Finding.{finds, memory_apart, refuses}
use Rattle.command_line.proofs.arguments.found_in.Goals as goal

pub returns-in-Ok-try_get_matches_from-clause-found :
    goal.returns-in-Ok-try_get_matches_from-clause-found
returns-in-Ok-try_get_matches_from-clause-found c =
    finds _ _ c.args.words.now _ _ c.in-Ok.ensures c.as_slice.ensures c.in-Ok-try_get_matches_from.ensures.kinds (λ s. (c.in-Ok-try_get_matches_from.ensures.matches s).0)

pub returns : goal.returns
returns c = record {
  found = tt;
  refused = λ e. refuses _ _ c.args.words.now _ c.in-Err.error c.in-Ok.ensures c.as_slice.ensures c.in-Err.ensures.kinds (λ memory. c.in_default-kind.not-OutOfMemory (c.kind.ensures ∙ memory));
}

pub returns-in-OutOfMemory-clause-refused : goal.returns-in-OutOfMemory-clause-refused
returns-in-OutOfMemory-clause-refused c = λ e. memory_apart _ refl e
