use Rattle.std.proofs.Common.{◌<◌, All, Contains, length, sym, subst}
use Rattle.query_admission.specs.Admission.{IsReadAs}
use Rattle.catalog_open.specs.Wanted.{MarksMore, Wants}
use Rattle.catalog_open.proofs.Marking.{marks_same, marks_wanted, places_within, wants_known, wants_read}
use Rattle.catalog_open.proofs.Opens.{match_none, match_some}
use Rattle.catalog_open.proofs.wanted.mark_line.Goals as goal

pub mark_places-requires : goal.mark_places-requires
mark_places-requires c =
    let known = match_some c.in_ok-found.found _ _ c.in-Some.places c.in_ok-found.ensures c.in-Some.is in
    subst (λ ps. All (λ place. place < length c.args.marks.now.items) ps) (sym c.deref.ensures.value)
    (subst (λ n. All (λ place. place < n) c.in-Some.places.items) (sym c.requires) (places_within c.args.catalog.now c.in-Query.query.names c.in-Some.places.items known))

pub returns-clause-marks : goal.returns-clause-marks
returns-clause-marks c = λ number bytes read.
    let is = subst (IsReadAs number bytes) c.in-Query.is read in
    let known = match_some c.in_ok-found.found _ _ c.in-Some.places c.in_ok-found.ensures c.in-Some.is in
    marks_wanted c.args.catalog.now number bytes c.in-Query.query c.in-Some.places.items c.args.marks.now.items c.mark_places.new.marks.items is.0 is.1 known
    (subst (λ ps. MarksMore (Contains ps) c.args.marks.now.items c.mark_places.new.marks.items) c.deref.ensures.value c.mark_places.ensures.marks)

pub returns-in_default-clause-marks : goal.returns-in_default-clause-marks
returns-in_default-clause-marks c = λ number bytes read.
    marks_same (Wants c.args.catalog.now number bytes) c.args.marks.now.items (wants_read c.args.catalog.now number bytes _ (subst (IsReadAs number bytes) c.in_default.is read))

pub returns-in_default-found-clause-marks : goal.returns-in_default-found-clause-marks
returns-in_default-found-clause-marks c = λ number bytes read.
    let is = subst (IsReadAs number bytes) c.in-Query.is read in
    let none = match_none c.in_ok-found.found _ _ c.in_ok-found.ensures c.in_default-found.is in
    marks_same (Wants c.args.catalog.now number bytes) c.args.marks.now.items (wants_known c.args.catalog.now number bytes c.in-Query.query is.1 none)
