use Rattle.std.proofs.Common.{ℕ, List, [], ◌∷◌, ◌++◌, length, map, Some, sym, ap, ◌∙◌, arith}
use Rattle.std.specs.Slice.Iter.{iter_rest}
use Rattle.std.proofs.lemmas.Iterator.{YieldsList-from_slice}
use Rattle.std.proofs.lemmas.Iterator.Consumers.{YieldsList-turn, YieldsList-end}
use Rattle.std.proofs.lemmas.List.{length_push}
use Rattle.std.proofs.lemmas.Option.{slice_get-get_or}
use Rattle.topk_base.specs.Lines.{unlines}
use Rattle.tk_io.proofs.Putting.{puts_none, puts_next_of, puts_all}
use Rattle.cert_text.specs.Certificate.{access_line}
use Rattle.cert_text.proofs.writing.put_accesses.Goals as goal

pub loop-access-init : goal.loop-access-init
loop-access-init g c = puts_none _

pub loop-access-preserved : goal.loop-access-preserved
loop-access-preserved g c =
    let accesses = c.args.transcript.now.accesses in
    let place = length c.loop-access.yielded in
    let t = YieldsList-turn (YieldsList-from_slice accesses (ap iter_rest c.into_iter-access-iterator.ensures.into_iter_gives ∙ c.iter-access-items.ensures.rest)) c.loop-access.yielded _ c.loop-access.yielded_by _ _ c.in-Some.access c.in-Some.is c.next.ensures.steps in
    rw (length_push c.loop-access.yielded c.in-Some.access)
    (puts_next_of (λ (line : List ℕ). line ++ 10 ∷ []) (access_line c.args.names.now) accesses place c.in-Some.access.now _ _ _
    (slice_get-get_or accesses place c.in-Some.access.now t.0 ∙ ap Some (sym t.1)) c.loop-access.invariant c.put_access.ensures)

pub returns : goal.returns
returns g c =
    let accesses = c.args.transcript.now.accesses in
    let t = YieldsList-end (YieldsList-from_slice accesses (ap iter_rest c.into_iter-access-iterator.ensures.into_iter_gives ∙ c.iter-access-items.ensures.rest)) c.loop-access.yielded _ c.loop-access.yielded_by _ _ c.in-None.is c.next.ensures.steps in
    puts_all (λ xs. unlines (map (access_line c.args.names.now) xs)) accesses (length c.loop-access.yielded) _ _ (omega (arith, t.1)) c.loop-access.invariant
