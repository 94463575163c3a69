-- How long a generation lasts.
use Rattle.std.specs.Prelude.{◌*◌, ◌==◌, ℕ, min, Bool, true, false, not, is_some, List, Option, Some, None, if◌then◌else◌}
use Rattle.std.specs.List.{list_any}
use Rattle.server_conn.specs.declared.opened.OpenedEntry.{OpenedEntry}
use Rattle.server_conn.specs.declared.opened.OpenedEntry.TheVariants.{Opened, NotOpened, TooLarge}
use Rattle.query_server.specs.declared.lifetime.TheConstants.{MIN_PAUSE, MAX_PAUSE}

-- a list isn't open though it has a source
abbrev pub is_down : OpenedEntry → Bool
is_down (Opened count source version) = false
is_down (NotOpened source) = is_some source
is_down (TooLarge count source) = is_some source

-- a list is open at a version that its source states
abbrev pub has_version : OpenedEntry → Bool
has_version (Opened count source version) = not (version == 0)
has_version (NotOpened source) = false
has_version (TooLarge count source) = false

-- how many seconds a generation lasts at least, if it isn't to last for ever: as long as this pause where a list isn't open
abbrev pub lifetime_of : List OpenedEntry → ℕ → Option ℕ
lifetime_of entries pause = if list_any is_down entries then Some pause else if list_any has_version entries then Some MAX_PAUSE else None

-- the next pause is twice as long while nothing changes, and at most the longest
abbrev pub pause_after : Bool → ℕ → ℕ
pause_after true pause = MIN_PAUSE
pause_after false pause = min (pause * 2) MAX_PAUSE
