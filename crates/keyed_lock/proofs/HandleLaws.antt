-- WorkerHandles that are taken back one after another, the last one first.
use Rattle.std.proofs.Common.{◌≡◌, Some, List, [], ◌∷◌, ◌++◌, All, map, sym, ap, ◌∙◌}
use Rattle.std.specs.Prelude.{reverse}
use Rattle.std.proofs.lemmas.List.{append_assoc, reverse-append}
use Rattle.std.proofs.lemmas.List.Elements.{All-pop}
use Rattle.atomic_table.specs.Seated.{TableId}
use Rattle.keyed_lock.specs.declared.hold.Hold.{Hold}

module _ {H W K : Type 0} (worker : H → W) (pass : H → TableId × Hold K) where
  -- the last of some handles that are left, and the others
  pub hand_taken : (share : TableId × Hold K) (handles left : List H) (handle : H) → handles ≡ left ++ handle ∷ []
      → All (λ h. pass h ≡ share) handles → (pass handle ≡ share) × All (λ h. pass h ≡ share) left
  hand_taken share handles left handle last all =
      let both = All-pop (λ h. pass h ≡ share) handles left (Some handle) last all in
      (both.1, both.0)

  -- the workers that came back so far, and those that are left
  pub workers_back : (handles left : List H) (handle : H) (workers now whole : List W) → handles ≡ left ++ handle ∷ []
      → now ≡ workers ++ worker handle ∷ [] → workers ++ map worker (reverse handles) ≡ whole
      → now ++ map worker (reverse left) ≡ whole
  workers_back handles left handle workers now whole last push was =
      ap (λ ws. ws ++ map worker (reverse left)) push
      ∙ (append_assoc workers (worker handle ∷ []) (map worker (reverse left))
      ∙ (ap (λ hs. workers ++ map worker hs) (sym (ap reverse last ∙ reverse-append left (handle ∷ []))) ∙ was))
