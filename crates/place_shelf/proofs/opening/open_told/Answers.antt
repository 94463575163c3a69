use Rattle.std.proofs.Common.{◌≡◌, Some}
use Rattle.std.specs.Prelude.{IfSome}
use Rattle.source_api.specs.Counting.{no_counts}
use Rattle.place_shelf.specs.Shelved.{list_at, version_at}
use Rattle.place_shelf.specs.Sources.{IsSourceOf, list_of, counts_of, version_of, states_of}
use Rattle.place_shelf.proofs.SourceLaws.{of_opened, source_is_fresh, source_is_unasked, source_states, source_lists}
use Rattle.place_shelf.proofs.opening.open_told.Goals as goal

pub returns-clause-source : goal.returns-clause-source
returns-clause-source g c = c.open_place.ensures.source

pub returns-clause-fresh : goal.returns-clause-fresh
returns-clause-fresh g c =
    let contents = g.F.FileTree.contents c.args.files.now in
    let makes = g.M.DialMaker.makes c.args.dials.now in
    of_opened (IsSourceOf contents makes g.M.D.Dial.faults c.args.place.now) (λ s. counts_of g.M.D.Dial.faults s ≡ no_counts) c.open_place.result
    (source_is_fresh contents makes g.M.D.Dial.faults c.args.place.now) c.open_place.ensures.source

pub returns-clause-unasked : goal.returns-clause-unasked
returns-clause-unasked g c =
    let contents = g.F.FileTree.contents c.args.files.now in
    let makes = g.M.DialMaker.makes c.args.dials.now in
    of_opened (IsSourceOf contents makes g.M.D.Dial.faults c.args.place.now) (λ s. version_of s ≡ 0) c.open_place.result
    (source_is_unasked contents makes g.M.D.Dial.faults c.args.place.now) c.open_place.ensures.source

pub returns-clause-states : goal.returns-clause-states
returns-clause-states g c =
    let contents = g.F.FileTree.contents c.args.files.now in
    let makes = g.M.DialMaker.makes c.args.dials.now in
    of_opened (IsSourceOf contents makes g.M.D.Dial.faults c.args.place.now) (λ s. IfSome (version_at c.args.place.now) (λ told. states_of s ≡ Some told)) c.open_place.result
    (source_states contents makes g.M.D.Dial.faults c.args.place.now) c.open_place.ensures.source

pub returns-clause-lists : goal.returns-clause-lists
returns-clause-lists g c =
    let contents = g.F.FileTree.contents c.args.files.now in
    let makes = g.M.DialMaker.makes c.args.dials.now in
    of_opened (IsSourceOf contents makes g.M.D.Dial.faults c.args.place.now) (λ s. IfSome (list_at contents c.args.place.now) (λ told. list_of s ≡ Some told)) c.open_place.result
    (source_lists contents makes g.M.D.Dial.faults c.args.place.now) c.open_place.ensures.source
