-- Numbers of a tally at their last value.
use Rattle.std.proofs.Common.{◌≡◌, ◌≤◌, ◌<◌, ℕ, Bool, true, false, cond, Option, Some, None, nat_lt, refl, sym, ap, ◌∙◌, arith}
use Rattle.std.proofs.lemmas.Bool.{le-ltb, ltb-true}
use Rattle.ranked_list.specs.declared.need.Need.{Need}
use Rattle.turn_lock.specs.declared.facts.Tally.{Tally}
use Rattle.source_api.specs.declared.source.FailKind.{FailKind}
use Rattle.source_api.specs.declared.source.FailKind.TheVariants.{Failed, Garbled, Memory}
use Rattle.source_state.specs.declared.look.Waiting.{Waiting}
use Rattle.source_state.specs.State.{last_count, IsCounted}
use Rattle.source_state.specs.Events.{count_of, counted, one_more}
use Rattle.source_state.specs.Looking.{newer, told, waits_for}
use Rattle.source_state.proofs.Lists.{none_not_some}

still : (n : ℕ) → n ≡ last_count → one_more n ≡ n
still n full = omega arith

pub tally_stays : (what : FailKind) (tally : Tally) → count_of what tally ≡ last_count → counted what tally ≡ tally
tally_stays Failed tally full = ap (λ n. record tally { failed = n }) (still tally.failed full)
tally_stays Garbled tally full = ap (λ n. record tally { garbled = n }) (still tally.garbled full)
tally_stays Memory tally full = ap (λ n. record tally { memory = n }) (still tally.memory full)

-- a number that came after the last one isn't told
no_more : (noted now : ℕ) → now ≤ last_count → noted ≡ last_count → nat_lt noted now ≡ false
no_more noted now within full = le-ltb noted now (omega arith)

-- which test the first kind passed
abbrev first_kind : Bool → Bool → Bool → Option FailKind
first_kind a b c = cond a (Some Failed) (cond b (Some Garbled) (cond c (Some Memory) None))

first_failed : (a b c : Bool) → first_kind a b c ≡ Some Failed → a ≡ true
first_failed true b c e = refl
first_failed false true c e = absurd (cc)
first_failed false false true e = absurd (cc)
first_failed false false false e = absurd (none_not_some e)

first_garbled : (a b c : Bool) → first_kind a b c ≡ Some Garbled → b ≡ true
first_garbled true b c e = absurd (cc)
first_garbled false true c e = refl
first_garbled false false true e = absurd (cc)
first_garbled false false false e = absurd (none_not_some e)

first_memory : (a b c : Bool) → first_kind a b c ≡ Some Memory → c ≡ true
first_memory true b c e = absurd (cc)
first_memory false true c e = absurd (cc)
first_memory false false true e = refl
first_memory false false false e = absurd (none_not_some e)

told_newer : (b : Bool) (kind : Option FailKind) (what : FailKind) → cond b kind None ≡ Some what → kind ≡ Some what
told_newer true kind what e = e
told_newer false kind what e = absurd (none_not_some e)

waited : (b : Bool) (kind : Option FailKind) (what : FailKind) → cond b kind None ≡ Some what → b ≡ true
waited true kind what e = refl
waited false kind what e = absurd (none_not_some e)

newer_more : (noted now : Tally) (what : FailKind) → newer noted now ≡ Some what → count_of what noted < count_of what now
newer_more noted now Failed e = ltb-true noted.failed now.failed (first_failed (nat_lt noted.failed now.failed) (nat_lt noted.garbled now.garbled) (nat_lt noted.memory now.memory) e)
newer_more noted now Garbled e = ltb-true noted.garbled now.garbled (first_garbled (nat_lt noted.failed now.failed) (nat_lt noted.garbled now.garbled) (nat_lt noted.memory now.memory) e)
newer_more noted now Memory e = ltb-true noted.memory now.memory (first_memory (nat_lt noted.failed now.failed) (nat_lt noted.garbled now.garbled) (nat_lt noted.memory now.memory) e)

-- a kind that is told was waited for, and more of it came than were noted
pub told_more : (waiting : Waiting) (need : Need) (now : Tally) (what : FailKind) → told waiting need now ≡ Some what
    → (waits_for waiting.need need ≡ true) × (count_of what waiting.noted < count_of what now)
told_more waiting need now what e = (
  waited (waits_for waiting.need need) (newer waiting.noted now) what e,
  newer_more waiting.noted now what (told_newer (waits_for waiting.need need) (newer waiting.noted now) what e),
)

apart : {b : Bool} → b ≡ false → b ≡ true → ⊥
apart f t = let bad : true ≡ false = sym t ∙ f in absurd (cc)

none_newer : (noted now : Tally) (what : FailKind) → IsCounted now → count_of what noted ≡ last_count → newer noted now ≡ Some what → ⊥
none_newer noted now Failed counted full e = apart (no_more noted.failed now.failed counted.failed full) (first_failed (nat_lt noted.failed now.failed) (nat_lt noted.garbled now.garbled) (nat_lt noted.memory now.memory) e)
none_newer noted now Garbled counted full e = apart (no_more noted.garbled now.garbled counted.garbled full) (first_garbled (nat_lt noted.failed now.failed) (nat_lt noted.garbled now.garbled) (nat_lt noted.memory now.memory) e)
none_newer noted now Memory counted full e = apart (no_more noted.memory now.memory counted.memory full) (first_memory (nat_lt noted.failed now.failed) (nat_lt noted.garbled now.garbled) (nat_lt noted.memory now.memory) e)

pub untold_full : (waiting : Waiting) (need : Need) (now : Tally) (what : FailKind) → IsCounted now → count_of what waiting.noted ≡ last_count
    → told waiting need now ≡ Some what → ⊥
untold_full waiting need now what counted full e = none_newer waiting.noted now what counted full (told_newer (waits_for waiting.need need) (newer waiting.noted now) what e)
