use Rattle.catalog_text.proofs.SourceLaws.{no_place, no_random, no_sorted, no_access}
use Rattle.catalog_text.proofs.fields.source_in.Goals as goal

pub returns-in_default-place_in : goal.returns-in_default-place_in
returns-in_default-place_in c = no_place c.args.wide _ _ c.in-Some.place.now _ _ c.in-Some.ensures c.in_default-place_in.ensures

pub returns-in_default-access_in : goal.returns-in_default-access_in
returns-in_default-access_in c = no_random c.args.wide _ _ _ c.in-Some.random.now _ c.in-Some.ensures c.in_default-access_in.ensures

pub returns-in_default-sorted_in : goal.returns-in_default-sorted_in
returns-in_default-sorted_in c = no_sorted c.args.wide _ _ _ _ _ c.in-Some.ensures c.in_default-sorted_in.ensures

pub returns-then-not-has_access : goal.returns-then-not-has_access
returns-then-not-has_access c =
    no_access c.args.wide _ _ _ _ _ c.in-Some-access_in.random c.in-Some-sorted_in.sorted _ c.in-Some.ensures c.in-Some-access_in.ensures
    c.in-Some-sorted_in.ensures c.has_access.ensures c.if-not-has_access.true
