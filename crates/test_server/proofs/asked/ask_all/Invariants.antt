use Rattle.std.proofs.Common.{◌≡◌, ◌≤◌, All, vec_len, vec_capacity}
use Rattle.tk_io.specs.LinksInMemory.{IsUnused}
use Rattle.test_server.proofs.asked.ask_all.Given as goal

-- there is a link and a share for each request so far, and room for the others
abbrev pub invariant-loop-place : goal.invariant-loop-place
invariant-loop-place l = record {
  unused : All IsUnused l.links.items;
  links : vec_len l.links ≡ l.place;
  shares : vec_len l.shares ≡ l.place;
  links_room : l.place-end ≤ vec_capacity l.links;
  shares_room : l.place-end ≤ vec_capacity l.shares;
}
