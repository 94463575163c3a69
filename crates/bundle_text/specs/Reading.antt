-- The reading of a bundle line by line, as the crate's inner functions do it. What it means is said in `Bundle`.
use Rattle.std.specs.Prelude.{◌==◌, ◌&&◌, ◌||◌, ◌+◌, ℕ, Bool, true, false, not, List, [], ◌∷◌, ◌++◌, length, codes, if◌then◌else◌, nat_eq, nat_lt}
use Rattle.std.specs.List.{list_any}
use Rattle.std.specs.Str.{bytes_eq}
use Rattle.std.specs.Set.{is_member}
use Rattle.std.specs.declared.option.Option.{Option}
use Rattle.std.specs.declared.option.Option.TheVariants.{None, Some}
use Rattle.std.specs.declared.result.Result.{Result}
use Rattle.std.specs.declared.result.Result.TheVariants.{Ok, Err}
use Rattle.topk_base.specs.Cuts.{cut_at, rest_after}
use Rattle.topk_base.specs.Numbers.{number_up_to}
use Rattle.topk_base.specs.Names.{is_name}
use Rattle.ranked_list.specs.declared.row.Row.{Row}
use Rattle.bundle_text.specs.declared.line.Line.{Line}
use Rattle.bundle_text.specs.declared.line.Line.TheVariants.{Heading, Entry, Query, Other}
use Rattle.ranked_list.specs.Table.{objects}
use Rattle.ranked_list.specs.Rows.{last_row, in_order}
use Rattle.bundle_text.specs.Bundle.{Content}
use Rattle.topk_base.specs.declared.TheConstants.{MAX_BUNDLE_LISTS, MAX_OBJECTS}

-- what one line may be: the beginning of a list, a row, the query, or none of these
pub data Part : Type 0 where
  list_part : List ℕ → Part
  row_part : Row → Part
  query_part : List ℕ → Part
  no_part : Part

-- the row of an object and a grade
abbrev pub row_of_parts : Option ℕ → Option ℕ → Part
row_of_parts None grade = no_part
row_of_parts (Some object) None = no_part
row_of_parts (Some object) (Some grade) = row_part (record { object = object; grade = grade })

-- the row that a line spells, cut at its first comma
abbrev pub row_part_of : Option (List ℕ × List ℕ) → Part
row_part_of None = no_part
row_part_of (Some cut) = row_of_parts (number_up_to 4294967295 cut.0) (number_up_to 4294967295 cut.1)

-- the query where its word comes first
abbrev pub query_part_or : Option (List ℕ) → Part → Part
query_part_or (Some text) other = query_part text
query_part_or None other = other

-- the list where its word comes first
abbrev pub list_part_or : Option (List ℕ) → Part → Part
list_part_or (Some name) other = if is_name name then list_part name else no_part
list_part_or None other = other

-- what a line is
unfoldable pub part_of : List ℕ → Part
part_of line = list_part_or (rest_after (codes "list ") line) (query_part_or (rest_after (codes "query ") line) (row_part_of (cut_at 44 line)))

-- what a line that was read is
abbrev pub part_read : Line → Part
part_read (Heading name) = list_part name.now
part_read (Entry row) = row_part row
part_read (Query text) = query_part text.now
part_read Other = no_part

-- the front of a bundle that ends inside a list: the names of the lists before it, these lists, and its own name and its rows so far
pub record InsideList : Type 0 where
  pub names : List (List ℕ)
  pub closed : List (List Row)
  pub name : List ℕ
  pub rows : List Row

-- the front that has only the line of its first list
abbrev pub first_front : List ℕ → InsideList
first_front name = record { names = []; closed = []; name = name; rows = [] }

-- how many rows the next list may have
abbrev pub room : List (List Row) → ℕ
room [] = MAX_OBJECTS
room (first ∷ more) = length first

-- whether the next list may have an object
abbrev pub is_wanted : List (List Row) → ℕ → Bool
is_wanted [] object = true
is_wanted (first ∷ more) object = is_member nat_eq (objects first) object

-- whether a row may come next
abbrev pub takes_row : InsideList → Row → Bool
takes_row front row =
    ((nat_lt (length front.rows) (room front.closed) && in_order (last_row front.rows) row) && is_wanted front.closed row.object)
    && not (is_member nat_eq (objects front.rows) row.object)

abbrev pub with_row : InsideList → Row → InsideList
with_row front row = record front { rows = front.rows ++ row ∷ [] }

-- whether the list that is open may end
abbrev pub is_whole_after : List (List Row) → List Row → Bool
is_whole_after [] rows = nat_lt 0 (length rows)
is_whole_after (first ∷ more) rows = length rows == length first

abbrev pub is_whole : InsideList → Bool
is_whole front = is_whole_after front.closed front.rows

-- whether a name is taken
abbrev pub is_taken : InsideList → List ℕ → Bool
is_taken front name = list_any (λ other. bytes_eq other name) front.names || bytes_eq front.name name

-- whether a list with this name may begin
abbrev pub takes_list : InsideList → List ℕ → Bool
takes_list front name = (is_whole front && nat_lt (length front.closed + 1) MAX_BUNDLE_LISTS) && not (is_taken front name)

abbrev pub with_list : InsideList → List ℕ → InsideList
with_list front name = record { names = front.names ++ front.name ∷ []; closed = front.closed ++ front.rows ∷ []; name = name; rows = [] }

-- what the bundle says that ends with this query
abbrev pub with_query : InsideList → List ℕ → Content
with_query front query = record { names = front.names ++ front.name ∷ []; lists = front.closed ++ front.rows ∷ []; query = query }

-- the content where no line is left, else that the line after is at fault
abbrev pub at_end : Content → ℕ → List (List ℕ) → Result Content ℕ
at_end c line [] = Ok c
at_end c line (next ∷ ls) = Err line

-- whether the line may come next inside the lists
abbrev pub takes_part : InsideList → Part → Bool
takes_part front (list_part name) = takes_list front name
takes_part front (row_part row) = takes_row front row
takes_part _ _ = false

abbrev pub with_part : InsideList → Part → InsideList
with_part front (list_part name) = with_list front name
with_part front (row_part row) = with_row front row
with_part front _ = front

-- one line more, which is line number `line`
abbrev pub read_part : InsideList → ℕ → List (List ℕ) → (InsideList → Result Content ℕ) → Part → Result Content ℕ
read_part front line ls go (list_part name) = if takes_list front name then go (with_list front name) else Err line
read_part front line ls go (row_part row) = if takes_row front row then go (with_row front row) else Err line
read_part front line ls go (query_part text) = if is_whole front then at_end (with_query front text) (line + 1) ls else Err line
read_part front line ls go no_part = Err line

-- the lines after a front, of which the first is line number `line`: the content, or the number of the line at fault
unfoldable pub read_on : InsideList → ℕ → List (List ℕ) → Result Content ℕ
read_on front line [] = Err line
read_on front line (next ∷ ls) = read_part front line ls (λ front. read_on front (line + 1) ls) (part_of next)

-- the first line, which has to begin a list
abbrev pub read_first : List (List ℕ) → Part → Result Content ℕ
read_first ls (list_part name) = read_on (first_front name) 2 ls
read_first ls (row_part row) = Err 1
read_first ls (query_part text) = Err 1
read_first ls no_part = Err 1

-- all lines
abbrev pub read_all : List (List ℕ) → Result Content ℕ
read_all [] = Err 1
read_all (line ∷ ls) = read_first ls (part_of line)
