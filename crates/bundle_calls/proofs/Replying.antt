-- A reply as the code keeps it is what its input is replied to.
use Rattle.std.proofs.Common.{◌≡◌, ℕ, List, inl, inr, refl, sym, subst}
use Rattle.topk_base.specs.Lines.{lines}
use Rattle.topk_base.proofs.LineLaws.{lines-unlines}
use Rattle.bundle_calls.specs.declared.replies.Reply.{Reply}
use Rattle.bundle_calls.specs.declared.replies.Reply.TheVariants.{NoBundle, Line}
use Rattle.bundle_calls.specs.Reply.{RepliesToLines, Replies}
use Rattle.bundle_calls.specs.Lists.{printed_lines, printed_bundle, ListsAreRepliedToAsPrinted}
use Rattle.bundle_calls.specs.Outcomes.{IsReplyTo, IsReply, reply_text, reply_status}

pub replies_to_lines : (ls : List (List ℕ)) (reply : Reply) → IsReplyTo ls reply → RepliesToLines ls (reply_status reply) (reply_text reply)
replies_to_lines ls (NoBundle line) h = inl (record { no_bundle = h.0; line = line; fault = h.1; status_is = refl; text_is = refl })
replies_to_lines ls (Line line) h = inr (record {
  content = h.0;
  spelled = h.1;
  query = line.query;
  count = line.count;
  versions = line.versions;
  outcome = line.outcome;
  becomes = h.2.becomes;
  status_is = refl;
  text_is = refl;
})

pub replies_to : (bytes : List ℕ) (reply : Reply) → IsReply bytes reply → Replies bytes (reply_status reply) (reply_text reply)
replies_to bytes reply h = replies_to_lines (lines bytes) reply h

-- lists and a query are replied to as the text is that they print as, where its lines are read as they are printed
pub as_printed : ListsAreRepliedToAsPrinted
as_printed lists query status text plain =
    let same : lines (printed_bundle lists query) ≡ printed_lines lists query = lines-unlines (printed_lines lists query) plain in (
      λ reply. subst (λ (ls : List (List ℕ)). RepliesToLines ls status text) (sym same) reply,
      λ reply. subst (λ (ls : List (List ℕ)). RepliesToLines ls status text) same reply,
    )
