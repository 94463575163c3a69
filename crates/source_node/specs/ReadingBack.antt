-- What is read of the reply with an answer.
use Rattle.std.specs.Prelude.{◌≡◌, ℕ, ◌<◌, ◌≤◌, ◌^◌, List, length, All, Some, option_map, IfSome, Result, Ok, Err, ⊤}
use Rattle.topk_base.specs.declared.TheConstants.{MAX_PAGE}
use Rattle.wire.specs.declared.fault.WireFault.{WireFault}
use Rattle.wire.specs.declared.fault.WireFault.TheVariants.{LinkFault, Memory}
use Rattle.wire.specs.declared.response.Reply.{Reply}
use Rattle.page_json.specs.Bodies.{IsSizeBody, IsPageBody, IsGradeBody, Fits}
use Rattle.source_node.specs.declared.answer.Answer.{Answer}
use Rattle.source_node.specs.declared.answer.Answer.TheVariants.{Count, Rows, Grade}

-- a response that is read has the status 200 and this body; only where the link failed or memory was refused is none read
abbrev pub ReadsBack : List ℕ → Result Reply WireFault → Type 0
ReadsBack text (Ok reply) = (reply.status ≡ 200) × (option_map (λ body. body.items) reply.body ≡ Some text)
ReadsBack text (Err LinkFault) = ⊤
ReadsBack text (Err Memory) = ⊤
ReadsBack text (Err _) = ⊥

-- the numbers of an answer are those of their types, and it has at most 10,000 rows
abbrev pub IsSmall : Answer → Type 0
IsSmall (Count count) = count < 2 ^ 64
IsSmall (Rows rows) = (length rows.items ≤ MAX_PAGE) × All Fits rows.items
IsSmall (Grade grade) = IfSome grade (λ g. g < 2 ^ 32)

-- a body says this answer, at this version
abbrev pub Says : ℕ → Answer → List ℕ → Type 0
Says version (Count count) body = IsSizeBody body (record { version = version; body = count })
Says version (Rows rows) body = IsPageBody body (record { version = version; body = rows.items })
Says version (Grade grade) body = IsGradeBody body (record { version = version; body = grade })
