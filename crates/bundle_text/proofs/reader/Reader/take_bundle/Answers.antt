use Rattle.bundle_text.specs.declared.bundle.Bundle.{Bundle}
use Rattle.bundle_text.proofs.TrackLaws.{ended}
use Rattle.bundle_text.proofs.reader.Reader.take_bundle.Goals as goal

pub returns : goal.returns
returns c =
    let bundle : Bundle = record { names = c.replace.result; lists = c.replace-2.result; query = c.in_ok-query.query } in
    ended c.args.self.now c.close.new.self bundle c.args.query.now c.in_ok-close.ensures.front c.replace.ensures.value c.replace-2.ensures.value c.in_ok-query.ensures.items
