use Rattle.std.proofs.Common.{List, ℕ, slice_get, ap, ◌∙◌}
use Rattle.std.specs.Global.{Vec}
use Rattle.query_text.specs.Bytes.{bytes_of}
use Rattle.query_text.proofs.NamesPassed.{name_there}
use Rattle.query_text.proofs.names.Names.get.Goals as goal

pub returns : goal.returns
returns c =
    name_there c.deref.result.now c.args.list _ _ c.in_ok-get.ensures.lookup.3.0 c.in_ok-get.ensures.lookup.1 c.as_slice.ensures.value
    ∙ ap (λ (texts : List (Vec ℕ)). slice_get (bytes_of texts) c.args.list) c.deref.ensures.value
    ∙ ap (λ (names : List (List ℕ)). slice_get names c.args.list) c.self.view_is
