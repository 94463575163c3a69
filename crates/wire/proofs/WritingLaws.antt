-- What is said of texts that were written.
use Rattle.std.proofs.Common.{◌≡◌, ℕ, ◌+◌, List, [], ◌∷◌, ◌++◌, codes, length, Option, Some, None, Result, Ok, Err, ap, sym, subst, ◌∙◌, append_assoc, length-append}
use Rattle.std.specs.Fmt.{decimal}
use Rattle.httparse.specs.Ascii.{crlf_bytes}
use Rattle.tk_io.specs.Pieces.{Writes}
use Rattle.wire.specs.Writing.{joined, reason_of, type_of, allow_line, reply_text}
use Rattle.wire.specs.declared.writing.Kind.{Kind}

-- the same of another value
pub written_ok : {T U E F : Type 0} (hb hn : Option (List ℕ)) (fb fn : ℕ) (a : T) (b : U) (text : List ℕ) → Writes {T = T} {E = E} hb hn fb fn (Ok a) text
    → Writes {T = U} {E = F} hb hn fb fn (Ok b) text
written_ok hb hn fb fn a b text w = record {
  whole = w.whole;
  front = tt;
  cause = record { later = w.cause.later; failed = tt; stays = w.cause.stays };
}

-- the same of another error
pub written_err : {T U E F : Type 0} (hb hn : Option (List ℕ)) (fb fn : ℕ) (a : E) (b : F) (text : List ℕ) → Writes {T = T} {E = E} hb hn fb fn (Err a) text
    → Writes {T = U} {E = F} hb hn fb fn (Err b) text
written_err hb hn fb fn a b text w = record {
  whole = tt;
  front = w.front;
  cause = record { later = w.cause.later; failed = w.cause.failed; stays = tt };
}

-- a reply with a body, by its parts
abbrev pub whole_text : ℕ → List ℕ → List ℕ → List ℕ → List ℕ → List ℕ → List ℕ
whole_text status reason kind allow body end =
    joined (codes "HTTP/1.1 " ∷ decimal status ∷ codes " " ∷ reason ∷ crlf_bytes ∷ codes "Content-Type: " ∷ kind ∷ crlf_bytes ∷ allow
    ∷ codes "Content-Length: " ∷ decimal (length body + length end) ∷ crlf_bytes ∷ codes "Connection: close" ∷ crlf_bytes ∷ crlf_bytes ∷ body ∷ end ∷ [])

-- the two parts of a body are one
one_body : (status : ℕ) (kind : Kind) (body end : List ℕ)
    → whole_text status (reason_of status) (type_of kind) (allow_line status) body end ≡ reply_text status kind (Some (body ++ end))
one_body status kind body end =
    ap (λ (n : ℕ). joined (codes "HTTP/1.1 " ∷ decimal status ∷ codes " " ∷ reason_of status ∷ crlf_bytes ∷ codes "Content-Type: " ∷ type_of kind ∷ crlf_bytes
    ∷ allow_line status ∷ codes "Content-Length: " ∷ decimal n ∷ crlf_bytes ∷ codes "Connection: close" ∷ crlf_bytes ∷ crlf_bytes ∷ body ∷ end ∷ []))
    (sym (length-append body end))
    ∙ ap (λ (rest : List ℕ). codes "HTTP/1.1 " ++ (decimal status ++ (codes " " ++ (reason_of status ++ (crlf_bytes ++ (codes "Content-Type: " ++ (type_of kind
    ++ (crlf_bytes ++ (allow_line status ++ (codes "Content-Length: " ++ (decimal (length (body ++ end)) ++ (crlf_bytes ++ (codes "Connection: close"
    ++ (crlf_bytes ++ (crlf_bytes ++ rest))))))))))))))) (sym (append_assoc body end []))

-- a reply without a body, by its parts
abbrev pub head_text : ℕ → List ℕ → List ℕ → List ℕ → List ℕ
head_text status reason kind allow =
    joined (codes "HTTP/1.1 " ∷ decimal status ∷ codes " " ∷ reason ∷ crlf_bytes ∷ codes "Content-Type: " ∷ kind ∷ crlf_bytes ∷ allow
    ∷ codes "Connection: close" ∷ crlf_bytes ∷ crlf_bytes ∷ [])

-- the parts that were written are those of the reply
pub whole_as : {T E : Type 0} (hb hn : Option (List ℕ)) (fb fn : ℕ) (result : Result T E) (number status : ℕ) (kind : Kind) (reason type allow body end : List ℕ)
    → number ≡ status → reason ≡ reason_of status → type ≡ type_of kind → allow ≡ allow_line status → Writes hb hn fb fn result (whole_text number reason type allow body end)
    → Writes hb hn fb fn result (reply_text status kind (Some (body ++ end)))
whole_as hb hn fb fn result number status kind reason type allow body end n r t a w =
    subst (λ (x : List ℕ). Writes hb hn fb fn result x) (one_body status kind body end)
    (subst (λ (x : ℕ). Writes hb hn fb fn result (whole_text x (reason_of status) (type_of kind) (allow_line status) body end)) n
    (subst (λ (x : List ℕ). Writes hb hn fb fn result (whole_text number x (type_of kind) (allow_line status) body end)) r
    (subst (λ (x : List ℕ). Writes hb hn fb fn result (whole_text number reason x (allow_line status) body end)) t
    (subst (λ (x : List ℕ). Writes hb hn fb fn result (whole_text number reason type x body end)) a w))))

pub head_as : {T E : Type 0} (hb hn : Option (List ℕ)) (fb fn : ℕ) (result : Result T E) (number status : ℕ) (kind : Kind) (reason type allow : List ℕ)
    → number ≡ status → reason ≡ reason_of status → type ≡ type_of kind → allow ≡ allow_line status
    → Writes hb hn fb fn result (head_text number reason type allow) → Writes hb hn fb fn result (reply_text status kind None)
head_as hb hn fb fn result number status kind reason type allow n r t a w =
    subst (λ (x : ℕ). Writes hb hn fb fn result (head_text x (reason_of status) (type_of kind) (allow_line status))) n
    (subst (λ (x : List ℕ). Writes hb hn fb fn result (head_text number x (type_of kind) (allow_line status))) r
    (subst (λ (x : List ℕ). Writes hb hn fb fn result (head_text number reason x (allow_line status))) t
    (subst (λ (x : List ℕ). Writes hb hn fb fn result (head_text number reason type x)) a w)))

-- a body that says the reason of its status
pub reason_as : {T E : Type 0} (hb hn : Option (List ℕ)) (fb fn : ℕ) (result : Result T E) (status : ℕ) (kind : Kind) (reason : List ℕ) → reason ≡ reason_of status
    → Writes hb hn fb fn result (reply_text status kind (Some (reason ++ 10 ∷ []))) → Writes hb hn fb fn result (reply_text status kind (Some (reason_of status ++ 10 ∷ [])))
reason_as hb hn fb fn result status kind reason same w = subst (λ (x : List ℕ). Writes hb hn fb fn result (reply_text status kind (Some (x ++ 10 ∷ [])))) same w
