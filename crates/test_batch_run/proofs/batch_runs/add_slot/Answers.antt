use Rattle.std.proofs.Common.{◌≡◌, None, All, [], ◌∷◌, ◌++◌, sym, ap, subst, ◌∙◌, arith}
use Rattle.std.proofs.lemmas.List.Elements.{All-push}
use Rattle.test_batch_run.proofs.batch_runs.add_slot.Goals as goal

pub push_reserved-requires : goal.push_reserved-requires
push_reserved-requires g c = omega (arith, c.in-Ok.ensures.ok)

pub returns : goal.returns
returns g c =
    let added = c.push_reserved.ensures.items ∙ ap (λ xs. xs ++ c.make.result ∷ []) c.reserve.ensures.items in
    subst (All (λ slot. slot.feeder ≡ None)) (sym added)
    (All-push (λ slot. slot.feeder ≡ None) c.args.slots.now.items c.make.result c.requires (ap (λ slot. slot.feeder) c.make.ensures))
