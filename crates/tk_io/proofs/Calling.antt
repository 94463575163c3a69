-- Calls that are told one after another.
use Rattle.std.proofs.Common.{◌≡◌, List, ◌++◌, Option, None, Some, refl, ap, append_assoc}
use Rattle.tk_io.specs.Calls.{with_more}

-- some calls and then more are all of them
pub calls_then : {A : Type 0} (made more : List A) (calls : Option (List A)) → with_more more (with_more made calls) ≡ with_more (made ++ more) calls
calls_then made more None = refl
calls_then made more (Some calls) = ap Some (append_assoc calls made more)
