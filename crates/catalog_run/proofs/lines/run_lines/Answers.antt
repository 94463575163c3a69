use Rattle.std.proofs.Common.{◌∙◌, All, Contains, ap, length, map, refl, reverse, subst, sym}
use Rattle.std.proofs.lemmas.List.{length-map}
use Rattle.std.proofs.lemmas.Result.{IfOk-weaker, on_err_weaker}
use Rattle.catalog_open.specs.Slots.{of_slot}
use Rattle.catalog_open.specs.Wanted.{AreRead, IsWanted}
use Rattle.catalog_open.specs.Openings.{IsKnownAt, KeepsOthers, PutsBack, Sources, put_back}
use Rattle.catalog_open.proofs.Opens.{opened_none}
use Rattle.catalog_run.proofs.Whole.{back_keeps, few_put, few_still, is_run, run_moves}
use Rattle.catalog_run.proofs.Cuts.{cut_before, cut_closed, cut_run}
use Rattle.catalog_run.proofs.lines.run_lines.Goals as goal

pub returns-in_default : goal.returns-in_default
returns-in_default g c =
    let catalog = c.args.catalog.now in
    let lines = map (λ line. line.now) c.args.lines.now in
    let lists = g.H.Shelf.lists c.args.shelf.now in
    let versions = g.H.Shelf.versions c.args.shelf.now in
    let at = g.H.Shelf.at c.args.shelf.now in
    let closed = opened_none lists versions catalog (IsWanted catalog lines) at in
    record {
      texts = λ place. refl;
      lists = λ place. refl;
      versions = λ place. refl;
      others = closed.others;
      moves = (closed.used, closed.moves);
      few = few_still catalog lines at at (λ place. refl);
      run = tt;
      cut = cut_before catalog lines lists versions c.args.settings at;
      writable = tt;
    }

pub returns-in_default-open_lines : goal.returns-in_default-open_lines
returns-in_default-open_lines g c =
    let lines = map (λ line. line.now) c.args.lines.now in
    let read = subst (AreRead lines) (sym c.deref.ensures.value) c.in-Ok.ensures in
    let o = c.open_lines in
    let closed = c.in_default-open_lines.ensures.closed lines read in
    record {
      texts = o.ensures.texts;
      lists = o.ensures.lists;
      versions = o.ensures.versions;
      others = closed.others;
      moves = (closed.used, closed.moves);
      few = o.ensures.few lines read;
      run = tt;
      cut = cut_closed c.args.catalog.now lines (g.H.Shelf.lists c.args.shelf.now) (g.H.Shelf.versions c.args.shelf.now) c.args.settings
          (g.H.Shelf.at c.args.shelf.now) (g.H.Shelf.at o.new.shelf) closed o.ensures.idle;
      writable = tt;
    }

pub open_lines-requires-after_bounds : goal.open_lines-requires-after_bounds
open_lines-requires-after_bounds g c κs within =
    (map (λ line. line.now) c.args.lines.now, subst (AreRead (map (λ line. line.now) c.args.lines.now)) (sym c.deref.ensures.value) c.in-Ok.ensures)

pub run_opened-result-requires-clause-opened : goal.run_opened-result-requires-clause-opened
run_opened-result-requires-clause-opened g c κs within = (
  g.H.Shelf.lists c.args.shelf.now,
  g.H.Shelf.versions c.args.shelf.now,
  map (λ line. line.now) c.args.lines.now,
  g.H.Shelf.at c.args.shelf.now,
  g.H.Shelf.at c.open_lines.new.shelf,
  c.in-Ok-open_lines.ensures.opened (map (λ line. line.now) c.args.lines.now) (subst (AreRead (map (λ line. line.now) c.args.lines.now)) (sym c.deref.ensures.value) c.in-Ok.ensures),
)

pub put_back_all-requires-clause-many : goal.put_back_all-requires-clause-many
put_back_all-requires-clause-many g c κs within =
    let r = c.run_opened-result in
    let list = of_slot g.H.Item.Source.list in
    let opened = c.in-Ok-open_lines.ensures.opened (map (λ line. line.now) c.args.lines.now)
    (subst (AreRead (map (λ line. line.now) c.args.lines.now)) (sym c.deref.ensures.value) c.in-Ok.ensures) in
    sym (length-map r.new.sources.slots.items list) ∙ ap (λ (s : Sources). length s.told) r.ensures.same ∙ opened.many_told ∙ ap (λ (s : Sources). length s.places) (sym r.ensures.same)

pub put_back_all-requires-clause-known : goal.put_back_all-requires-clause-known
put_back_all-requires-clause-known g c κs within =
    subst (λ (s : Sources). All (IsKnownAt c.args.catalog.now (g.H.Shelf.knows c.open_lines.new.shelf)) s.places) (sym c.run_opened-result.ensures.same) c.in-Ok-open_lines.ensures.ready.known

pub returns : goal.returns
returns g c =
    let catalog = c.args.catalog.now in
    let lines = map (λ line. line.now) c.args.lines.now in
    let lists = g.H.Shelf.lists c.args.shelf.now in
    let versions = g.H.Shelf.versions c.args.shelf.now in
    let before = g.H.Shelf.at c.args.shelf.now in
    let mid = g.H.Shelf.at c.open_lines.new.shelf in
    let after = g.H.Shelf.at c.put_back_all.new.shelf in
    let read = subst (AreRead lines) (sym c.deref.ensures.value) c.in-Ok.ensures in
    let o = c.open_lines.ensures in
    let i = c.in-Ok-open_lines in
    let opened = i.ensures.opened lines read in
    let once = i.ensures.once lines read in
    let r = c.run_opened-result in
    let b = c.put_back_all.ensures in
    let begun = map (of_slot g.H.Item.Source.counts) i.sources.slots.items in
    let now = map (of_slot g.H.Item.Source.counts) r.new.sources.slots.items in
    let made = map (of_slot g.H.Item.Source.calls) i.sources.slots.items in
    let calls = map (of_slot g.H.Item.Source.calls) r.new.sources.slots.items in
    let places = ap (λ (s : Sources). s.places) r.ensures.same in
    let back = subst (λ ps. PutsBack (reverse (put_back catalog ps now)) mid after) places b.moves in
    let many = length-map r.new.sources.slots.items (of_slot g.H.Item.Source.counts) ∙ sym (length-map r.new.sources.slots.items (of_slot g.H.Item.Source.list))
    ∙ ap (λ (s : Sources). length s.told) r.ensures.same ∙ opened.many_told in
    record {
      texts = λ place. b.texts place ∙ o.texts place;
      lists = λ place. b.lists place ∙ o.lists place;
      versions = λ place. b.versions place ∙ o.versions place;
      others = back_keeps lists versions catalog (IsWanted catalog lines) before mid after i.sources.openings.items _ opened
          (subst (λ ps. KeepsOthers catalog (Contains ps) mid after) places b.others);
      moves = run_moves lists versions catalog (IsWanted catalog lines) before mid after i.sources.openings.items _ now many opened back;
      few = few_put catalog lines _ before mid after (o.few lines read) back;
      run = IfOk-weaker r.result _ _
          (λ outcomes ran. is_run catalog lines lists versions c.args.settings before mid after i.sources.openings.items _ begun now made calls outcomes.items opened i.ensures.ready.all once o.idle
          i.ensures.ready.unread ran back) (r.ensures.ran lines c.in-Ok.ensures);
      cut = on_err_weaker r.result
          (λ cut. cut_run catalog lines lists versions c.args.settings before mid after i.sources.openings.items _ now calls opened o.idle
          (begun, made, i.ensures.ready.unread, cut, λ some. (i.ensures.ready.all, once)) back) (r.ensures.cut lines c.in-Ok.ensures);
      writable = r.ensures.writable;
    }
