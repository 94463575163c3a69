use Rattle.std.proofs.Common.{◌≡◌, ◌≤◌, None, length, sym, ap, subst, arith}
use Rattle.std.specs.Option.{IfSome}
use Rattle.source_api.specs.Counting.{GaveRows}
use Rattle.source_api.specs.Told.{IsPage}
use Rattle.std.specs.declared.result.Result.TheVariants.{Ok, Err}
use Rattle.source_api.specs.Calls.{Call, with_call}
use Rattle.fetcher.specs.Turning.{Brings}
use Rattle.fetcher.proofs.BringLaws.{next_may, page_brings, trouble_brings, page_trouble_may, paged_busy, failed_busy}
use Rattle.fetcher.specs.Moving.{IsMovedAs}
use Rattle.fetcher.proofs.MoveLaws.{trouble_as}
use Rattle.fetcher.proofs.fetch.fetch_page.Goals as goal

pub tell_page-requires-clause-may : goal.tell_page-requires-clause-may
tell_page-requires-clause-may g c =
    let same : length c.from_vec.result ≡ length c.in-Ok.rows.items = ap length c.from_vec.ensures in
    next_may c.args.from c.args.count c.from_vec.result c.args.feeder.now.pass.1 c.requires.next (omega (arith, same, c.in-Ok.ensures.bound, c.in-Ok.rows.ok.0))

pub returns-in-Ok-clause-brings : goal.returns-in-Ok-clause-brings
returns-in-Ok-clause-brings g c = λ page ahead some reach.
    let same : length c.from_vec.result ≡ length c.in-Ok.rows.items = ap length c.from_vec.ensures in
    let few : length c.from_vec.result ≤ c.args.count = omega (arith, same, c.in-Ok.ensures.bound, c.in-Ok.rows.ok.0) in
    let size : c.in-Ok.rows.len ≡ length c.from_vec.result = omega (arith, same, c.in-Ok.rows.ok.0) in
    let gave = subst (λ n. GaveRows n (g.S.Source.counts c.args.source.now) (g.S.Source.counts c.page.new.self)) size c.in-Ok.ensures.given in
    let told = subst (λ given. IfSome (g.S.Source.list c.args.source.now) (λ all. IsPage all c.args.from given)) (sym c.from_vec.ensures) c.in-Ok.ensures.page in
    subst (Brings page ahead (g.S.Source.list c.args.source.now) (g.S.Source.counts c.args.source.now) (g.S.Source.counts c.page.new.self) c.args.feeder.now.pass.1 c.tell_page.new.feeder.pass.1) (sym c.tell_page.ensures.answer)
    (page_brings page ahead c.args.from c.args.count c.from_vec.result _ _ _ _ _ c.requires.next c.tell_page.ensures.fed c.tell_page.ensures.feeds few gave told some reach)

pub returns-in-Ok-clause-busy : goal.returns-in-Ok-clause-busy
returns-in-Ok-clause-busy g c = paged_busy _ c.tell_page.result c.tell_page.ensures.answer

pub returns-in-Err-clause-brings : goal.returns-in-Err-clause-brings
returns-in-Err-clause-brings g c = λ page ahead some reach.
    subst (Brings page ahead (g.S.Source.list c.args.source.now) (g.S.Source.counts c.args.source.now) (g.S.Source.counts c.page.new.self) c.args.feeder.now.pass.1 c.tell_trouble.new.feeder.pass.1) (sym c.tell_trouble.ensures.answer)
    (trouble_brings page ahead None c.in-Err.trouble (g.S.Source.list c.args.source.now) _ _ _ _ c.tell_trouble.ensures.fed c.in-Err.ensures.gave_nothing c.in-Err.ensures.cause)

pub returns-in-Err-clause-busy : goal.returns-in-Err-clause-busy
returns-in-Err-clause-busy g c = failed_busy c.in-Err.trouble c.tell_trouble.result c.tell_trouble.ensures.answer

pub returns-in-Ok-clause-called : goal.returns-in-Ok-clause-called
returns-in-Ok-clause-called g c = record {
  answer = Ok c.from_vec.result;
  called = subst (λ rows. g.S.Source.calls c.page.new.self ≡ with_call (Call.Page c.args.from c.args.count (Ok rows)) (g.S.Source.calls c.args.source.now)) (sym c.from_vec.ensures) c.in-Ok.ensures.answered;
  told = c.tell_page.ensures.told;
  is = c.tell_page.ensures.answer;
}

pub returns-in-Err-clause-called : goal.returns-in-Err-clause-called
returns-in-Err-clause-called g c = record {
  answer = Err c.in-Err.trouble;
  called = c.in-Err.ensures.refused;
  told = c.tell_trouble.ensures.told;
  is = c.tell_trouble.ensures.answer;
}

pub tell_trouble-requires-clause-may : goal.tell_trouble-requires-clause-may
tell_trouble-requires-clause-may g c = page_trouble_may c.args.from c.args.count c.in-Err.trouble _ _ c.args.feeder.now.pass.1 c.requires.next c.in-Err.ensures.moved

pub returns-in-Ok-clause-moved : goal.returns-in-Ok-clause-moved
returns-in-Ok-clause-moved g c = subst (IsMovedAs (g.S.Source.at_hand c.args.source.now) (g.S.Source.states c.args.source.now)) (sym c.tell_page.ensures.answer) tt

pub returns-in-Err-clause-moved : goal.returns-in-Err-clause-moved
returns-in-Err-clause-moved g c = subst (IsMovedAs (g.S.Source.at_hand c.args.source.now) (g.S.Source.states c.args.source.now)) (sym c.tell_trouble.ensures.answer) (trouble_as _ _ c.in-Err.trouble c.in-Err.ensures.moved)
