-- The limits that the definitions cite, as numbers.
use Rattle.std.specs.Prelude.{◌≡◌, ◌-◌, ◌^◌}
use Rattle.topk_base.specs.declared.TheConstants.{MAX_OBJECTS, TOP_GRADE, MAX_BUNDLE_LISTS, MAX_INPUT, MAX_LIST_TEXT, MAX_LISTS, MAX_NODES, MAX_DEPTH}
use Rattle.topk_base.specs.declared.TheConstants.{MAX_VALUE, MAX_WEIGHT, MAX_LINE, MAX_NUMBER, MAX_START, MAX_SOURCES, MAX_QUERIES}
use Rattle.topk_base.specs.declared.TheConstants.{MAX_CONNS, MAX_VERSION, MAX_PAGE, MAX_HOST, MAX_HEAD, MAX_HEADERS, MAX_CHUNK_LINE, MAX_BODY}

-- each limit is this number
pub record AreStated : Type 0 where
  pub objects : MAX_OBJECTS ≡ 200000
  pub grade : TOP_GRADE ≡ 1000000
  pub bundle_lists : MAX_BUNDLE_LISTS ≡ 64
  pub input : MAX_INPUT ≡ 134217728
  pub list_text : MAX_LIST_TEXT ≡ 16777216
  pub lists : MAX_LISTS ≡ 8
  pub nodes : MAX_NODES ≡ 64
  pub depth : MAX_DEPTH ≡ 8
  pub value : MAX_VALUE ≡ 2 ^ 63 - 1
  pub weight : MAX_WEIGHT ≡ 2 ^ 63 - 1
  pub line : MAX_LINE ≡ 4096
  pub number : MAX_NUMBER ≡ 1000000
  pub start : MAX_START ≡ 2 ^ 63 - 1
  pub sources : MAX_SOURCES ≡ 64
  pub queries : MAX_QUERIES ≡ 64
  pub conns : MAX_CONNS ≡ 1000000
  pub version : MAX_VERSION ≡ 2 ^ 63 - 1
  pub page : MAX_PAGE ≡ 10000
  pub host : MAX_HOST ≡ 128
  pub head : MAX_HEAD ≡ 16384
  pub headers : MAX_HEADERS ≡ 64
  pub chunk_line : MAX_CHUNK_LINE ≡ 16384
  pub body : MAX_BODY ≡ 16777216
