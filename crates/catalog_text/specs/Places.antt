-- What the place of a list is: a file's path, or an address `http://HOST:PORT/PATH` at which a server has it.
use Rattle.std.specs.Prelude.{◌≡◌, ◌⊎◌, ◌||◌, ◌==◌, ◌≤◌, ℕ, Bool, true, false, List, [], ◌∷◌, ◌++◌, length, codes, decimal, nat_eq}
use Rattle.std.specs.List.{list_all, starts_with, ends_with}
use Rattle.std.specs.Char.{is_ascii_alphanumeric}
use Rattle.topk_base.specs.declared.TheConstants.{MAX_HOST}
use Rattle.catalog_text.specs.declared.place.Location.{Location}
use Rattle.catalog_text.specs.declared.place.Location.TheVariants.{File, Http}

-- the text begins as an address does
abbrev pub is_remote : List ℕ → Bool
is_remote text = starts_with nat_eq text (codes "http://") || starts_with nat_eq text (codes "https://")

-- an ASCII letter, a digit, `.` or `-`
abbrev pub is_host_byte : ℕ → Bool
is_host_byte byte = is_ascii_alphanumeric byte || ((byte == 46) || (byte == 45))

-- an ASCII letter, a digit, `.`, `-`, `/` or `_`
abbrev pub is_path_byte : ℕ → Bool
is_path_byte byte = is_host_byte byte || ((byte == 47) || (byte == 95))

-- the name or address of a host: 1 to 128 bytes
pub record IsHost (host : List ℕ) : Type 0 where
  pub some : 1 ≤ length host
  pub most : length host ≤ MAX_HOST
  pub bytes : list_all is_host_byte host ≡ true

-- the path of a list: it begins with `/` and doesn't end with one
pub record IsPath (path : List ℕ) : Type 0 where
  pub begins : starts_with nat_eq path (codes "/") ≡ true
  pub ends : ends_with nat_eq path (codes "/") ≡ false
  pub bytes : list_all is_path_byte path ≡ true

-- how an address spells a port: `:` and its number, or not at all where it is 80
abbrev pub SpellsPort : List ℕ → ℕ → Type 0
SpellsPort text port = (text ≡ 58 ∷ decimal port) ⊎ ((text ≡ []) × (port ≡ 80))

-- the text is the address of this host, port and path
pub record IsAddress (text host : List ℕ) (port : ℕ) (path : List ℕ) : Type 0 where
  pub host_form : IsHost host
  pub least : 1 ≤ port
  pub greatest : port ≤ 65535
  pub path_form : IsPath path
  pub spelled : List ℕ
  pub port_text : SpellsPort spelled port
  pub whole : text ≡ codes "http://" ++ (host ++ (spelled ++ path))

-- the text is a place: a file's path, which is any text that doesn't begin as an address does, or an address
abbrev pub IsPathOrAddress : List ℕ → Type 0
IsPathOrAddress text = (is_remote text ≡ false) ⊎ ((host : List ℕ) × (port : ℕ) × (path : List ℕ) × IsAddress text host port path)

-- what a place is found to be
abbrev pub IsLocation : List ℕ → Location → Type 0
IsLocation text File = is_remote text ≡ false
IsLocation text (Http address) = IsAddress text address.host.now address.port address.path.now
