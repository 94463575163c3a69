-- The sources of the lists.
use Rattle.std.proofs.Common.{◌≡◌, ◌<◌, ℕ, zero, suc, Some, sym, ◌∙◌, arith, map}
use Rattle.std.proofs.lemmas.Option.{same_Some}
use Rattle.query_server.specs.Homes.{AreHomes, home_at, home_of}
use Rattle.test_server.specs.Four.{four_entries}

is_within : (place source : ℕ) → home_at (map home_of four_entries) place ≡ Some source → source < 3
is_within zero source is = let e = same_Some 0 source is in omega (arith, e)
is_within (suc zero) source is = let e = same_Some 1 source is in omega (arith, e)
is_within (suc (suc zero)) source is = let e = same_Some 2 source is in omega (arith, e)
is_within (suc (suc (suc zero))) source is = absurd (cc)
is_within (suc (suc (suc (suc place)))) source is = absurd (cc)

is_at : (place source : ℕ) → home_at (map home_of four_entries) place ≡ Some source → place ≡ source
is_at zero source is = same_Some 0 source is
is_at (suc zero) source is = same_Some 1 source is
is_at (suc (suc zero)) source is = same_Some 2 source is
is_at (suc (suc (suc zero))) source is = absurd (cc)
is_at (suc (suc (suc (suc place)))) source is = absurd (cc)

pub three_homes : AreHomes 3 (map home_of four_entries)
three_homes = record {
  within = is_within;
  apart = λ place other source is that. is_at place source is ∙ sym (is_at other source that);
}
