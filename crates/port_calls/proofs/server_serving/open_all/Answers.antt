use Rattle.std.proofs.Common.{◌≡◌, ◌∙◌, [], refl, subst, sym}
use Rattle.std.proofs.lemmas.List.{length-map}
use Rattle.std.proofs.lemmas.Result.{IfOk-weaker, on_err_weaker, on_ok_weaker}
use Rattle.catalog_open.specs.Entries.{IsMarked}
use Rattle.catalog_open.specs.Slots.{of_slot, sources_of}
use Rattle.catalog_open.specs.Openings.{AreOpened, AsksEachAtMostOnce, AsksEachOnce, marked_at}
use Rattle.catalog_open.proofs.Once.{few_none}
use Rattle.catalog_open.proofs.Opens.{opened_none}
use Rattle.port_calls.specs.Opening.{IsOneOf, every}
use Rattle.port_calls.proofs.ListLaws.{opened_every}
use Rattle.port_calls.proofs.server_serving.open_all.Goals as goal

pub returns-in_default : goal.returns-in_default
returns-in_default g c =
    let catalog = c.args.catalog.now in
    let at = g.H.Shelf.at c.args.shelf.now in
    record {
      texts = λ place. refl;
      lists = λ place. refl;
      versions = λ place. refl;
      few = λ place. few_none (marked_at catalog (every catalog) place) (at place) (at place) refl;
      once = tt;
      ready = tt;
      many = tt;
      opened = tt;
      closed = opened_none (g.H.Shelf.lists c.args.shelf.now) (g.H.Shelf.versions c.args.shelf.now) catalog (IsOneOf catalog) at;
    }

pub returns : goal.returns
returns g c =
    let catalog = c.args.catalog.now in
    let are : c.deref.result.now ≡ every catalog = c.deref.ensures.value ∙ c.in-Ok.ensures in
    let w = c.open_wanted-opening in
    let lists = g.H.Shelf.lists c.args.shelf.now in
    let versions = g.H.Shelf.versions c.args.shelf.now in
    let before = g.H.Shelf.at c.args.shelf.now in
    let now = g.H.Shelf.at w.new.shelf in
    record {
      texts = w.ensures.texts;
      lists = w.ensures.lists;
      versions = w.ensures.versions;
      few = subst (λ ms. AsksEachAtMostOnce catalog ms before now) are w.ensures.few;
      once = on_ok_weaker w.result (subst (λ ms. AsksEachOnce catalog ms before now) are) w.ensures.once;
      ready = w.ensures.ready;
      many =
          IfOk-weaker w.result (λ sources. AreOpened lists versions catalog (IsMarked c.deref.result.now) before now sources.openings.items
          (sources_of g.H.Item.Source.list g.H.Item.Source.at_hand sources)) _
          (λ sources are. sym (length-map sources.slots.items (of_slot g.H.Item.Source.list)) ∙ are.many_told) w.ensures.opened;
      opened = IfOk-weaker w.result _ _ (λ sources. opened_every lists versions catalog c.deref.result.now before now sources.openings.items _ are) w.ensures.opened;
      closed = on_err_weaker w.result (opened_every lists versions catalog c.deref.result.now before now [] _ are) w.ensures.closed;
    }
