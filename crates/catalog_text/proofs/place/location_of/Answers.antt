use Rattle.std.proofs.Common.{rules, ◌≡◌, true, ℕ, List, subst}
use Rattle.catalog_text.specs.Places.{is_remote, IsAddress}
use Rattle.catalog_text.proofs.AddressLaws.{unlocated}
use Rattle.catalog_text.proofs.place.location_of.Goals as goal

pub returns-in-None : goal.returns-in-None
returns-in-None c =
    let remote : is_remote c.args.place.now ≡ true = search rules in
    unlocated c.args.place.now remote
    (subst (λ (text : List ℕ). (host : List ℕ) (port : ℕ) (path : List ℕ) → IsAddress text host port path → ⊥) c.as_bytes-text.ensures.value c.in-None.ensures)
