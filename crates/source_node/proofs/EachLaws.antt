-- Of which list each of the links is that were served one after another.
use Rattle.std.proofs.Common.{◌≡◌, ℕ, List, [], ◌∷◌, Option, ◌∙◌}
use Rattle.std.specs.Prelude.{All}
use Rattle.std.proofs.lemmas.List.Elements.{All-cons, All-nil}
use Rattle.tk_io.specs.Links.{Closed}
use Rattle.source_node.specs.Serving.{Seen}
use Rattle.source_node.specs.ServingLinks.{ServesEach, IsServedOf}

pub of_one_list : (name : List ℕ) (version : Option ℕ) (links links_now : Option (List (List ℕ))) (source source_now first : Seen) (ones : List Closed)
    → source.list ≡ first.list → source.states ≡ first.states → ServesEach name version links links_now source source_now ones
    → All (IsServedOf name version first) ones
of_one_list name version links links_now source source_now first [] list states each = All-nil (IsServedOf name version first)
of_one_list name version links links_now source source_now first (one ∷ ones) list states each =
    All-cons (IsServedOf name version first) one ones (links, each.0, source, each.1, list, states, each.2)
    (of_one_list name version each.0 links_now each.1 source_now first ones (each.2.list ∙ list) (each.2.states ∙ states) each.3)
