use Rattle.std.proofs.Common.{◌∙◌, [], ap, length, refl, subst, sym}
use Rattle.std.proofs.lemmas.Result.{IfOk-weaker, on_err_weaker, on_ok_weaker}
use Rattle.catalog_open.specs.Wanted.{AreMarked, IsWanted}
use Rattle.catalog_open.proofs.Opens.{opened_none}
use Rattle.catalog_open.proofs.Unread.{still}
use Rattle.catalog_run.proofs.Whole.{few_still, few_wanted, opened_marked}
use Rattle.catalog_run.proofs.lines.open_lines.Goals as goal

pub returns-in_default : goal.returns-in_default
returns-in_default g c =
    let catalog = c.args.catalog.now in
    let at = g.H.Shelf.at c.args.shelf.now in
    record {
      texts = λ place. refl;
      lists = λ place. refl;
      versions = λ place. refl;
      idle = λ place. still (at place);
      few = λ lines read. few_still catalog lines at at (λ place. refl);
      once = λ lines read. tt;
      ready = tt;
      opened = λ lines read. tt;
      closed = λ lines read. opened_none (g.H.Shelf.lists c.args.shelf.now) (g.H.Shelf.versions c.args.shelf.now) catalog (IsWanted catalog lines) at;
    }

pub open_wanted-sources-requires-after_bounds : goal.open_wanted-sources-requires-after_bounds
open_wanted-sources-requires-after_bounds g c κs within = ap length c.deref.ensures.value ∙ (c.in-Ok.ensures c.requires.0 c.requires.1).many

pub returns : goal.returns
returns g c =
    let catalog = c.args.catalog.now in
    let marks = c.deref.result.now in
    let w = c.open_wanted-sources in
    let lists = g.H.Shelf.lists c.args.shelf.now in
    let versions = g.H.Shelf.versions c.args.shelf.now in
    let before = g.H.Shelf.at c.args.shelf.now in
    let now = g.H.Shelf.at w.new.shelf in
    record {
      texts = w.ensures.texts;
      lists = w.ensures.lists;
      versions = w.ensures.versions;
      idle = w.ensures.back;
      few = λ lines read. few_wanted catalog lines marks before now (subst (AreMarked catalog lines) (sym c.deref.ensures.value) (c.in-Ok.ensures lines read)) w.ensures.few;
      once = λ lines read. on_ok_weaker w.result (λ once. (marks, subst (AreMarked catalog lines) (sym c.deref.ensures.value) (c.in-Ok.ensures lines read), once)) w.ensures.once;
      ready = w.ensures.ready;
      opened = λ lines read.
          IfOk-weaker w.result _ _ (λ sources. opened_marked lists versions catalog lines marks before now sources.openings.items _
          (subst (AreMarked catalog lines) (sym c.deref.ensures.value) (c.in-Ok.ensures lines read))) w.ensures.opened;
      closed = λ lines read.
          on_err_weaker w.result
          (opened_marked lists versions catalog lines marks before now [] _ (subst (AreMarked catalog lines) (sym c.deref.ensures.value) (c.in-Ok.ensures lines read))) w.ensures.closed;
    }
