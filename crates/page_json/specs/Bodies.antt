-- What the JSON bodies of a list's replies say, by the grammar and the look-ups of `serde_json`.
use Rattle.std.specs.Prelude.{◌≡◌, ◌<◌, ◌^◌, ℕ, List, [], ◌∷◌, codes, nat_lt, nat_le, if◌then◌else◌, Option, None, Some, option_map, option_and_then, IsUtf8}
use Rattle.topk_base.specs.declared.TheConstants.{MAX_PAGE}
use Rattle.ranked_list.specs.declared.row.Row.{Row}
use Rattle.serde_json.specs.Data.{Data, null, Items, no_items, item}
use Rattle.serde_json.specs.Events.{items_len}
use Rattle.serde_json.specs.Find.{get, as_number, as_u64, as_array}
use Rattle.serde_json.specs.Read.{read}
use Rattle.page_json.specs.declared.object.Versioned.{Versioned}

-- a number without a fraction, an exponent or a minus sign, below 2^64
abbrev pub whole : Data → Option ℕ
whole value = option_and_then as_u64 (as_number value)

-- what passes a bound
abbrev pub within : ℕ → ℕ → Option ℕ
within bound n = if nat_lt n bound then Some n else None

-- the same below 2^32
abbrev pub whole_32 : Data → Option ℕ
whole_32 value = option_and_then (within (2 ^ 32)) (whole value)

-- 0 where nothing is stated
abbrev pub stated : Option Data → Option ℕ
stated None = Some 0
stated (Some value) = whole value

-- the version that an object states
abbrev pub version_of : Data → Option ℕ
version_of json = stated (get (codes "version") json)

-- what an object says under a key, read so, with the version that it states
abbrev pub said : {A : Type 0} → List ℕ → (Data → Option A) → Data → Option (Versioned A)
said key reading json = option_and_then (λ body. option_map (λ version. record { version = version; body = body }) (version_of json)) (option_and_then reading (get key json))

-- a row, from its object and its grade
abbrev pub row_from : Option ℕ → Option ℕ → Option Row
row_from (Some named) (Some graded) = Some (record { object = named; grade = graded })
row_from _ _ = None

-- the row that exactly two numbers are
abbrev pub pair_of : Items → Option Row
pair_of (item first (item second no_items)) = row_from (whole_32 first) (whole_32 second)
pair_of _ = None

-- the row that an array of exactly two numbers is
abbrev pub row_of : Data → Option Row
row_of value = option_and_then pair_of (as_array value)

-- the rows that arrays are, where each is one
abbrev pub rows_of : Items → Option (List Row)
rows_of no_items = Some []
rows_of (item value values) = option_and_then (λ row. option_map (λ rows. row ∷ rows) (rows_of values)) (row_of value)

-- items, of which there are at most 10,000
abbrev pub few : Items → Option Items
few items = if nat_le (items_len items) MAX_PAGE then Some items else None

-- the rows that an array of at most 10,000 arrays is
abbrev pub list_of : Data → Option (List Row)
list_of value = option_and_then rows_of (option_and_then few (as_array value))

-- the numbers of a row are below 2^32, as those that a body says
abbrev pub Fits : Row → Type 0
Fits row = (row.object < 2 ^ 32) × (row.grade < 2 ^ 32)

-- the grade that a value is, and None for `null`
abbrev pub grade_in : Data → Option (Option ℕ)
grade_in null = Some None
grade_in value = option_map Some (whole_32 value)

-- the size that an object says
abbrev pub size_of : Data → Option (Versioned ℕ)
size_of = said (codes "count") whole

-- the page that an object says
abbrev pub page_of : Data → Option (Versioned (List Row))
page_of = said (codes "rows") list_of

-- the grade that an object says
abbrev pub grade_of : Data → Option (Versioned (Option ℕ))
grade_of = said (codes "grade") grade_in

-- bytes are the text of a JSON value of which this is read
abbrev pub IsBody : {A : Type 0} → (Data → Option (Versioned A)) → List ℕ → Versioned A → Type 0
IsBody reading bytes what = IsUtf8 bytes × (option_and_then reading (read bytes) ≡ Some what)

-- bytes are a body that says this size
abbrev pub IsSizeBody : List ℕ → Versioned ℕ → Type 0
IsSizeBody = IsBody size_of

-- bytes are a body that says these rows
abbrev pub IsPageBody : List ℕ → Versioned (List Row) → Type 0
IsPageBody = IsBody page_of

-- bytes are a body that says this grade
abbrev pub IsGradeBody : List ℕ → Versioned (Option ℕ) → Type 0
IsGradeBody = IsBody grade_of
