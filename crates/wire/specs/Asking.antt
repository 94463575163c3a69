-- What is read of a request's head before the rule on Host lines is tried.
use Rattle.std.specs.Prelude.{◌≡◌, ℕ, List, codes}
use Rattle.httparse.specs.Grammar.{RequestHead}
use Rattle.wire.specs.Heads.{IsShortRequest, has_host}
use Rattle.wire.specs.declared.lines.Name.{Name}
use Rattle.wire.specs.declared.lines.Name.TheVariants.{Host, TransferEncoding, ContentLength}
use Rattle.wire.specs.declared.request.Asked.{Asked}

-- the bytes of a header line's name
abbrev pub name_bytes : Name → List ℕ
name_bytes Host = codes "host"
name_bytes TransferEncoding = codes "transfer-encoding"
name_bytes ContentLength = codes "content-length"

-- what was read is within its limits, has the method and the target, and says whether the rule on Host lines is kept
pub record SaysRequest (text : RequestHead) (asked : Asked) : Type 0 where
  pub short : IsShortRequest text
  pub method : asked.head.method ≡ text.method
  pub target : asked.head.target.items ≡ text.target
  pub host : asked.has_host ≡ has_host text
