use Rattle.std.proofs.Common.{◌≡◌, ◌++◌, ◌∷◌, [], ◌∙◌, Bool, refl, sym, ap, subst}
use Rattle.std.specs.Bool.{MatchBool}
use Rattle.containers.specs.Keys.{Keys}
use Rattle.machine_base.proofs.Placing.{position_at, any_at, not_among, position_none, pushed_at, fits_more}
use Rattle.machine_base.proofs.board.place_for.Goals as goal

pub add-requires-clause-absent : goal.add-requires-clause-absent
add-requires-clause-absent c = not_among c.args.object c.args.places.now.keys (position_none c.args.object c.args.places.now.keys (sym c.place.ensures ∙ c.in-None.is))

pub add-requires-clause-room : goal.add-requires-clause-room
add-requires-clause-room c = c.requires.room (position_none c.args.object c.args.places.now.keys (sym c.place.ensures ∙ c.in-None.is))

pub returns-in-Some-clause-at : goal.returns-in-Some-clause-at
returns-in-Some-clause-at c = position_at c.args.object c.args.places.now.keys c.in-Some.place (sym c.place.ensures ∙ c.in-Some.is)

pub returns-in-Some-clause-added : goal.returns-in-Some-clause-added
returns-in-Some-clause-added c =
    let keys = c.args.places.now.keys in
    subst (λ (b : Bool). MatchBool b (keys ≡ keys) (keys ≡ keys ++ c.args.object ∷ [])) (sym (any_at c.args.object keys c.in-Some.place (returns-in-Some-clause-at c))) refl

pub returns-in-None-clause-at : goal.returns-in-None-clause-at
returns-in-None-clause-at c =
    pushed_at c.args.object c.args.places.now.keys c.add.new.self.keys c.add.result (ap (λ (m : Keys). m.keys) c.add.ensures.added) c.add.ensures.place

pub returns-in-None-clause-fits : goal.returns-in-None-clause-fits
returns-in-None-clause-fits c =
    let none = position_none c.args.object c.args.places.now.keys (sym c.place.ensures ∙ c.in-None.is) in
    fits_more c.args.places.now c.add.new.self c.args.object c.requires.fits none (c.requires.room none) c.add.ensures.added

pub returns-in-None-clause-added : goal.returns-in-None-clause-added
returns-in-None-clause-added c =
    let keys = c.args.places.now.keys in
    let none = position_none c.args.object keys (sym c.place.ensures ∙ c.in-None.is) in
    subst (λ (b : Bool). MatchBool b (c.add.new.self.keys ≡ keys) (c.add.new.self.keys ≡ keys ++ c.args.object ∷ [])) (sym none) (ap (λ (m : Keys). m.keys) c.add.ensures.added)
