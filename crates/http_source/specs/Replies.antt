-- What the bytes of a link bring.
use Rattle.std.specs.Prelude.{◌≡◌, ℕ, List, Option, Some, option_map}
use Rattle.ranked_list.specs.declared.row.Row.{Row}
use Rattle.page_json.specs.Bodies.{IsSizeBody, IsPageBody, IsGradeBody}
use Rattle.page_json.specs.declared.object.Versioned.{Versioned}
use Rattle.wire.specs.Responses.{IsReply}
use Rattle.wire.specs.Writing.{reply_text}
use Rattle.wire.specs.declared.response.Reply.{Reply}
use Rattle.wire.specs.declared.writing.Kind.TheVariants.{Json}

-- the bytes begin with a whole response within the limits, of status 200 and with this body
pub record Brings (bytes content : List ℕ) : Type 0 where
  pub reply : Reply
  pub whole : IsReply bytes reply
  pub status : reply.status ≡ 200
  pub body : option_map (λ body. body.items) reply.body ≡ Some content

-- the bytes bring a body that says this
abbrev pub Says : {A : Type 0} → (List ℕ → Versioned A → Type 0) → List ℕ → Versioned A → Type 0
Says IsBody bytes said = (content : List ℕ) × Brings bytes content × IsBody content said

-- a size at a version
abbrev pub SaysSize : List ℕ → Versioned ℕ → Type 0
SaysSize = Says IsSizeBody

-- rows at a version
abbrev pub SaysPage : List ℕ → Versioned (List Row) → Type 0
SaysPage = Says IsPageBody

-- a grade at a version, or that the list hasn't the object
abbrev pub SaysGrade : List ℕ → Versioned (Option ℕ) → Type 0
SaysGrade = Says IsGradeBody

-- the reply of status 200 with this body in JSON, as it is written
abbrev pub json_reply : List ℕ → List ℕ
json_reply body = reply_text 200 Json (Some body)
