-- The heads of messages, by the grammar of HTTP/1.1: header lines, the rule on Host lines, and requests.
use Rattle.std.specs.Prelude.{◌≡◌, ℕ, ◌≤◌, ◌⊎◌, Bool, true, false, ◌&&◌, ◌||◌, not, List, [], ◌∷◌, length, map, codes, if◌then◌else◌, ◌==◌, nat_le, Option, Some, None, Result, Ok, Err, ⊤}
use Rattle.std.specs.List.{list_all, list_any, count_by}
use Rattle.std.specs.Str.{bytes_eq}
use Rattle.std.specs.Char.{is_ascii_alphanumeric, to_ascii_lowercase}
use Rattle.httparse.specs.Grammar.{RequestHead, IsRequestHead, print_request, ReadsRequest}
use Rattle.httparse.specs.Spans.{name_and_value}
use Rattle.topk_base.specs.declared.TheConstants.{MAX_HEAD, MAX_HEADERS}
use Rattle.wire.specs.Parts.{PassesHeadLimits}
use Rattle.wire.specs.declared.fault.WireFault.{WireFault}
use Rattle.wire.specs.declared.fault.WireFault.TheVariants.{LinkFault, BadMessage, TooLong, Memory}
use Rattle.wire.specs.declared.request.Head.{Head}

-- a header line, by its name and its value, has this name, in any letter case
abbrev pub is_named : List ℕ → List ℕ × List ℕ → Bool
is_named name line = bytes_eq (map to_ascii_lowercase line.0) name

-- how many header lines have this name
abbrev pub count_named : List ℕ → List (List ℕ × List ℕ) → ℕ
count_named name lines = count_by (is_named name) lines

-- the values of all header lines of this name pass the test
abbrev pub all_named : List ℕ → (List ℕ → Bool) → List (List ℕ × List ℕ) → Bool
all_named name test lines = list_all (λ line. not (is_named name line) || test line.1) lines

-- the value of the first header line of this name
abbrev pub first_named : List ℕ → List (List ℕ × List ℕ) → Option (List ℕ)
first_named name [] = None
first_named name (line ∷ lines) = if is_named name line then Some line.1 else first_named name lines

-- a byte of the value of a Host line
abbrev pub is_host_byte : ℕ → Bool
is_host_byte b = is_ascii_alphanumeric b || list_any (λ c. c == b) (codes "-._~%!$&'()*+,;=:[]")

-- the rule on Host lines: one in HTTP/1.1 and at most one in HTTP/1.0, whose value has only bytes of hosts
abbrev pub keeps_host_rule : ℕ → List (List ℕ × List ℕ) → Bool
keeps_host_rule minor lines =
    (if minor == 1 then count_named (codes "host") lines == 1 else nat_le (count_named (codes "host") lines) 1)
    && all_named (codes "host") (list_all is_host_byte) lines

-- the same of a request
abbrev pub has_host : RequestHead → Bool
has_host text = keeps_host_rule text.minor (map name_and_value text.fields)

-- the head is within its limits
pub record IsShortRequest (text : RequestHead) : Type 0 where
  pub bytes : length (print_request text) ≤ MAX_HEAD
  pub lines : length text.fields ≤ MAX_HEADERS

-- a request's head that keeps the rule on Host lines stands at the front, within its limits, with this method and this target
pub record IsRequest (bytes : List ℕ) (head : Head) : Type 0 where
  pub text : RequestHead
  pub rest : List ℕ
  pub reads : ReadsRequest bytes text rest
  pub short : IsShortRequest text
  pub host : has_host text ≡ true
  pub method : head.method ≡ text.method
  pub target : head.target.items ≡ text.target

-- no request's head that keeps the rule on Host lines stands at the front
abbrev pub IsNoRequest : List ℕ → Type 0
IsNoRequest bytes = (text : RequestHead) (rest : List ℕ) → ReadsRequest bytes text rest → has_host text ≡ false

-- more came than a limit on the head of a request allows
abbrev pub PassesRequest : ℕ → List ℕ → Type 0
PassesRequest limit bytes = PassesHeadLimits IsRequestHead print_request (λ text. length text.fields) limit bytes

-- what the bytes answer as a request
abbrev pub AnswersRequest : List ℕ → Result Head WireFault → Type 0
AnswersRequest bytes (Ok head) = IsRequest bytes head
AnswersRequest bytes (Err LinkFault) = ⊤
AnswersRequest bytes (Err BadMessage) = IsNoRequest bytes
AnswersRequest bytes (Err (TooLong limit)) = PassesRequest limit bytes
AnswersRequest bytes (Err Memory) = ⊤
