-- What became of the sources of four lists.
use Rattle.std.specs.Prelude.{ℕ, List, [], ◌∷◌, None, Some}
use Rattle.server_conn.specs.declared.opened.OpenedEntry.{OpenedEntry}
use Rattle.server_conn.specs.declared.opened.OpenedEntry.TheVariants.{Opened, NotOpened, TooLarge}
use Rattle.test_mem_source.specs.Stored.{Stored}

-- two are open, with three objects, one isn't, though it has a source, and one is too large
abbrev pub four_entries : List OpenedEntry
four_entries = Opened 3 0 7 ∷ Opened 3 1 0 ∷ NotOpened (Some 2) ∷ TooLarge 300000 None ∷ []

-- the version that a source in memory has at hand
abbrev pub version_of : Stored → ℕ
version_of source = source.version
