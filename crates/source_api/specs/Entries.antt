-- What a ledger keeps.
use Rattle.std.specs.Prelude.{List, map}
use Rattle.source_api.specs.declared.ledger.Entry.{Entry}
use Rattle.source_api.specs.Places.{Noted}

-- an entry as a place and its counts
abbrev pub noted : Entry → Noted
noted entry = record { place = entry.place.items; counts = entry.counts }

abbrev pub noted_entries : List Entry → List Noted
noted_entries entries = map noted entries
