use Rattle.std.proofs.Common.{ℕ, length, Some, Ok, sym, ap, ◌∙◌, arith}
use Rattle.std.specs.Global.{Vec}
use Rattle.std.specs.Slice.Iter.{iter_rest}
use Rattle.std.proofs.lemmas.Iterator.Consumers.{YieldsList-turn, YieldsList-end}
use Rattle.std.proofs.lemmas.List.{length_push}
use Rattle.std.proofs.lemmas.Option.{slice_get-get_or}
use Rattle.std.proofs.lemmas.Result.{err_from_is_err_and}
use Rattle.query_text.specs.Bytes.{bytes_of}
use Rattle.query_text.proofs.NamesPassed.{names_given}
use Rattle.topk_base.specs.Lines.{lines}
use Rattle.cert_text.specs.declared.reader.Results.{Results}
use Rattle.cert_text.specs.Judging.{SpellsFound, SpellsVersioned, found_of}
use Rattle.cert_text.proofs.JudgingLaws.{finds_fault}
use Rattle.cert_text.proofs.VersionLaws.{versions_none, versions_more, versions_all}
use Rattle.cert_text.proofs.reader.read_versioned.Goals as goal

pub loop-name-init : goal.loop-name-init
loop-name-init c = record {
  few = omega arith;
  read = (0, omega arith, versions_none c.args.wanted c.args.names.now (lines c.args.text.now) _ c.new-versions.ensures.items);
}

pub loop-name-preserved : goal.loop-name-preserved
loop-name-preserved c =
    let names = c.args.names.now in
    let place = length c.loop-name.yielded in
    let t = YieldsList-turn (names_given names (ap (λ i. bytes_of (iter_rest i)) c.into_iter-name-iterator.ensures.into_iter_gives ∙ c.iter-name-items.ensures.rest)) c.loop-name.yielded _ c.loop-name.yielded_by _ _ c.in-Some.name c.in-Some.is c.next.ensures.steps in
    let shorter = c.read_version-stated.ensures.shorter in
    let few = c.loop-name.invariant.few in
    rw (length_push c.loop-name.yielded c.in-Some.name) record {
      few = omega arith;
      read = versions_more c.args.wanted names place c.args.first c.loop-name.number c.deref.result.now (lines c.loop-name.rest.now) (lines c.args.text.now) c.loop-name.versions.items _ c.read_version-stated.result c.requires.names
          (slice_get-get_or names place c.in-Some.name.now.items t.0 ∙ ap Some (sym t.1 ∙ sym c.deref.ensures.value)) c.read_version-stated.ensures.states c.in-Ok.ensures.items c.loop-name.invariant.read;
    }

pub returns-in_err-results : goal.returns-in_err-results
returns-in_err-results c =
    let names = c.args.names.now in
    let t = YieldsList-end (names_given names (ap (λ i. bytes_of (iter_rest i)) c.into_iter-name-iterator.ensures.into_iter_gives ∙ c.iter-name-items.ensures.rest)) c.loop-name.yielded _ c.loop-name.yielded_by _ _ c.in-None.is c.next.ensures.steps in
    let read = versions_all c.args.wanted names (length c.loop-name.yielded) c.args.first c.loop-name.number c.loop-name.versions.items (lines c.loop-name.rest.now) (lines c.args.text.now) (omega (arith, t.1)) c.loop-name.invariant.read in
    let p = err_from_is_err_and c.from_residual.result c.from_residual.ensures.1 in
    rw (p.1, p.2) (finds_fault (SpellsFound c.args.wanted names) (SpellsVersioned c.args.wanted names names) (lines c.loop-name.rest.now) (lines c.args.text.now) (λ found. (c.loop-name.versions.items, found)) read.0 c.args.first c.loop-name.number
    found_of (λ (versioned : Vec ℕ × Results). (versioned.0.items, found_of versioned.1)) c.in_err-results.field-0.0 read.2 read.1 c.in_err-results.ensures)

pub returns : goal.returns
returns c =
    let names = c.args.names.now in
    let t = YieldsList-end (names_given names (ap (λ i. bytes_of (iter_rest i)) c.into_iter-name-iterator.ensures.into_iter_gives ∙ c.iter-name-items.ensures.rest)) c.loop-name.yielded _ c.loop-name.yielded_by _ _ c.in-None.is c.next.ensures.steps in
    let read = versions_all c.args.wanted names (length c.loop-name.yielded) c.args.first c.loop-name.number c.loop-name.versions.items (lines c.loop-name.rest.now) (lines c.args.text.now) (omega (arith, t.1)) c.loop-name.invariant.read in
    read.2 (Ok (found_of c.in_ok-results.results)) c.in_ok-results.ensures
