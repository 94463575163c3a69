use Rattle.std.proofs.Common.{◌≡◌, ◌+◌, length, map, take, Some, suc, slice_get, sym, ◌∙◌, ap, subst, arith}
use Rattle.std.specs.List.{position}
use Rattle.std.specs.Option.{is_none}
use Rattle.std.specs.Slice.Iter.{iter_rest}
use Rattle.std.proofs.lemmas.Iterator.Consumers.{YieldsList-turn, YieldsList-end}
use Rattle.std.proofs.lemmas.List.{length_push, take_all}
use Rattle.std.proofs.lemmas.Option.{slice_get-get_or}
use Rattle.query_text.specs.Bytes.{bytes_of}
use Rattle.query_text.proofs.NamesPassed.{names_given}
use Rattle.query_admission.proofs.Seeking.{first_unknown, known_more, as_many_known}
use Rattle.query_admission.proofs.seek.find_all.Goals as goal

pub returns-in_default-clause-unknown : goal.returns-in_default-clause-unknown
returns-in_default-clause-unknown g c =
    let names = c.args.names.now in
    let known_by = (g.L.Lists.view c.args.lists.now).listed in
    let place = length c.loop-name.yielded in
    let t = YieldsList-turn (names_given names (ap (λ i. bytes_of (iter_rest i)) c.into_iter-name-iterator.ensures.into_iter_gives ∙ c.iter-name-items.ensures.rest)) c.loop-name.yielded _ c.loop-name.yielded_by _ _ c.in-Some.name c.in-Some.is c.next.ensures.steps in
    let at : Some c.in-Some.name.now.items ≡ slice_get names place = ap Some t.1 ∙ sym (slice_get-get_or names place c.in-Some.name.now.items t.0) in
    let first = first_unknown known_by names c.loop-name.known.items place c.in-Some.name.now.items c.loop-name.invariant.known at
    (sym c.in_default.is ∙ c.find.ensures ∙ ap known_by c.deref.ensures.value) in
    let counted : c.len-list.result ≡ length c.loop-name.known.items = omega (arith, c.len-list.ensures, c.loop-name.known.ok.0) in
    subst (λ n. position is_none (map known_by names) ≡ Some n) (sym (counted ∙ as_many_known known_by names c.loop-name.known.items place t.0 c.loop-name.invariant.known)) first

pub push_reserved-requires : goal.push_reserved-requires
push_reserved-requires g c =
    let names = c.args.names.now in
    let known_by = (g.L.Lists.view c.args.lists.now).listed in
    let t = YieldsList-turn (names_given names (ap (λ i. bytes_of (iter_rest i)) c.into_iter-name-iterator.ensures.into_iter_gives ∙ c.iter-name-items.ensures.rest)) c.loop-name.yielded _ c.loop-name.yielded_by _ _ c.in-Some.name c.in-Some.is c.next.ensures.steps in
    let room = c.loop-name.invariant.room in
    omega (arith, t.0, room, as_many_known known_by names c.loop-name.known.items (length c.loop-name.yielded) t.0 c.loop-name.invariant.known, c.loop-name.known.ok.0)

pub loop-name-preserved : goal.loop-name-preserved
loop-name-preserved g c =
    let names = c.args.names.now in
    let known_by = (g.L.Lists.view c.args.lists.now).listed in
    let place = length c.loop-name.yielded in
    let t = YieldsList-turn (names_given names (ap (λ i. bytes_of (iter_rest i)) c.into_iter-name-iterator.ensures.into_iter_gives ∙ c.iter-name-items.ensures.rest)) c.loop-name.yielded _ c.loop-name.yielded_by _ _ c.in-Some.name c.in-Some.is c.next.ensures.steps in
    let at : Some c.in-Some.name.now.items ≡ slice_get names place = ap Some t.1 ∙ sym (slice_get-get_or names place c.in-Some.name.now.items t.0) in
    let next : place + 1 ≡ suc place = omega arith in
    let room = c.loop-name.invariant.room in
    record {
      known = rw (length_push c.loop-name.yielded c.in-Some.name)
          (ap (λ n. map known_by (take n names)) next
          ∙ (known_more known_by names c.loop-name.known.items place c.in-Some.name.now.items c.in-Some-find.found c.loop-name.invariant.known at
          (sym c.in-Some-find.is ∙ c.find.ensures ∙ ap known_by c.deref.ensures.value)
          ∙ ap (map Some) (sym c.push_reserved.ensures.items)));
      room = omega (arith, room, c.push_reserved.ensures.capacity);
    }

pub returns-clause-known : goal.returns-clause-known
returns-clause-known g c =
    let names = c.args.names.now in
    let known_by = (g.L.Lists.view c.args.lists.now).listed in
    let t = YieldsList-end (names_given names (ap (λ i. bytes_of (iter_rest i)) c.into_iter-name-iterator.ensures.into_iter_gives ∙ c.iter-name-items.ensures.rest)) c.loop-name.yielded _ c.loop-name.yielded_by _ _ c.in-None.is c.next.ensures.steps in
    ap (map known_by) (sym (take_all (length c.loop-name.yielded) names (omega (arith, t.1)))) ∙ c.loop-name.invariant.known
