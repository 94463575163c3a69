use Rattle.std.proofs.Common.{rules, ◌≤◌, length}
use Rattle.catalog_text.proofs.AddressLaws.{cut_within}
use Rattle.catalog_text.proofs.place.authority_and_path.Goals as goal

pub slice_bounds-result-count : goal.slice_bounds-result-count
slice_bounds-result-count c = cut_within 47 c.args.rest.now c.in-Some.authority.now c.in-Some.field-0-1.now c.in-Some.ensures

pub slice_bounds-result-start : goal.slice_bounds-result-start
slice_bounds-result-start c =
    let within : length c.in-Some.authority.now ≤ length c.args.rest.now = cut_within 47 c.args.rest.now c.in-Some.authority.now c.in-Some.field-0-1.now c.in-Some.ensures in
    search rules
