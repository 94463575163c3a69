-- Where a machine is in the rows that it reads.
use Rattle.std.specs.Prelude.{ℕ, ◌+◌, Bool, true, false, nat_lt, if◌then◌else◌}
use Rattle.ranked_list.specs.declared.need.Need.{Need}
use Rattle.ranked_list.specs.declared.need.Need.TheVariants.{Row as RowAt, Done}
use Rattle.nra_core.specs.declared.place.Place.{Place}

-- what is next
abbrev pub need_at : Place → Need
need_at place = if place.done then Done else RowAt place.list place.depth

-- the place after one more row over m lists: the next list; else the end, where the algorithm is quiet; else the next depth
abbrev pub place_after : ℕ → Bool → Place → Place
place_after m quiet place =
    if nat_lt (place.list + 1) m then record place { list = place.list + 1 }
    else (if quiet then record place { done = true } else record { list = 0; depth = place.depth + 1; done = false })
