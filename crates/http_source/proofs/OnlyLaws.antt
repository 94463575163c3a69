-- Bytes bring one body, which says one thing.
use Rattle.std.proofs.Common.{◌≡◌, ℕ, List, Some, option_map, sym, ◌∙◌, subst}
use Rattle.wire.specs.Responses.{IsReply, IsNoResponse, PassesResponse}
use Rattle.wire.specs.declared.response.Reply.{Reply}
use Rattle.page_json.specs.declared.object.Versioned.{Versioned}
use Rattle.http_source.specs.Replies.{Brings, Says}

-- bytes that are a response are no other one
abbrev pub OneReply : Type 0
OneReply = (bytes : List ℕ) (one other : Reply) → IsReply bytes one → IsReply bytes other
    → (one.status ≡ other.status) × (option_map (λ body. body.items) one.body ≡ option_map (λ body. body.items) other.body)

-- nor none
abbrev pub WholeReply : Type 0
WholeReply = (bytes : List ℕ) (reply : Reply) → IsReply bytes reply → IsNoResponse bytes → ⊥

-- nor do they pass a limit
abbrev pub ShortReply : Type 0
ShortReply = (bytes : List ℕ) (reply : Reply) (limit : ℕ) → IsReply bytes reply → PassesResponse limit bytes → ⊥

-- bytes bring one body
abbrev pub OneBody : Type 0
OneBody = (bytes one other : List ℕ) → Brings bytes one → Brings bytes other → one ≡ other

pub brings_one : OneReply → OneBody
brings_one law bytes one other a b =
    let same : Some one ≡ Some other = sym a.body ∙ ((law bytes a.reply b.reply a.whole b.whole).1 ∙ b.body) in
    cc

-- what the bytes say is what their body says
pub said_by : OneBody → {A : Type 0} (IsBody : List ℕ → Versioned A → Type 0) (bytes body : List ℕ) (said : Versioned A) → Brings bytes body → Says IsBody bytes said → IsBody body said
said_by law IsBody bytes body said brings says = subst (λ content. IsBody content said) (law bytes says.0 body says.1 brings) says.2

pub says_one : OneBody → {A : Type 0} (IsBody : List ℕ → Versioned A → Type 0)
    → ((body : List ℕ) (one other : Versioned A) → IsBody body one → IsBody body other → one ≡ other)
    → (bytes : List ℕ) (one other : Versioned A) → Says IsBody bytes one → Says IsBody bytes other → one ≡ other
says_one law IsBody only bytes one other a b = only b.0 one other (said_by law IsBody bytes b.0 one b.1 a) b.2
