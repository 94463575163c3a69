use Rattle.std.proofs.Common.{◌∙◌, ap, slice_get}
use Rattle.ranked_list.proofs.OptionLaws.{got_at}
use Rattle.ranked_list.proofs.mem_list.MemList.get.Goals as goal

pub returns : goal.returns
returns c =
    c.copied.ensures ∙ got_at c.deref.result.now c.args.place c.get.result c.get.ensures.lookup.3 ∙ ap (λ rows. slice_get rows c.args.place) (c.deref.ensures.value ∙ c.self.view_is)
