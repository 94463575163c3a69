use Rattle.std.proofs.Common.{◌≡◌, false, subst}
use Rattle.ranked_list.specs.declared.need.Need.{Need}
use Rattle.source_state.specs.Looking.{is_full}
use Rattle.source_state.proofs.LookLaws.{ask_may}
use Rattle.source_state.proofs.look.call.Goals as goal

pub add_ask-requires : goal.add_ask-requires
add_ask-requires c = ask_may c.args.state.now c.in-Grade.object c.requires.sound.fits (subst (λ (need : Need). is_full c.args.state.now need ≡ false) c.in-Grade.is c.requires.room)
