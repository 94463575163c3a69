use Rattle.std.proofs.Common.{◌≡◌, inl, None, Some, Ok, Err, refl, rules}
use Rattle.wire.specs.declared.refusal.Refusal.TheVariants.{NoMemory}
use Rattle.server_conn.specs.Answers.{text_of, remembering}
use Rattle.server_conn.specs.Becoming.{shown}
use Rattle.server_conn.specs.Connections.{told_again}
use Rattle.server_conn.specs.Entries.{view_in}
use Rattle.server_conn.proofs.AnswerLaws.{remembers_still, remembers_told, answered_again, answered_now}
use Rattle.server_conn.proofs.EndLaws.{told_sent, refusal_sent}
use Rattle.query_run.proofs.KnowsLaws.{knows_same}
use Rattle.server_conn.proofs.conn.answer_line.Goals as goal

pub returns-in-Some-clause-knows : goal.returns-in-Some-clause-knows
returns-in-Some-clause-knows g c = knows_same c.args.pass.now

pub returns-in-Some-clause-replied : goal.returns-in-Some-clause-replied
returns-in-Some-clause-replied g c =
    let text = c.in-Some.text.now in
    let found : text_of c.args.line.now c.args.answers.now ≡ Some text = search rules in (
      Ok (told_again text),
      answered_again (view_in c.args.catalog.now) c.args.line.now text _ found,
      told_sent _ _ _ _ _ _ (told_again text) _ _ c.unmoved.ensures refl c.send.ensures.sends,
    )

pub returns-in_default-from_slice-clause-replied : goal.returns-in_default-from_slice-clause-replied
returns-in_default-from_slice-clause-replied g c =
    let none : text_of c.args.line.now c.args.answers.now ≡ None = search rules in (
      Err NoMemory,
      answered_now (view_in c.args.catalog.now) c.args.line.now _ _ (Err NoMemory) none (inl refl) refl,
      refusal_sent _ _ _ _ _ _ _ _ c.unmoved-in_default-from_slice.ensures c.refuse.ensures.sends,
    )

pub returns-in-Ok-tell_line-clause-remembers : goal.returns-in-Ok-tell_line-clause-remembers
returns-in-Ok-tell_line-clause-remembers g c =
    let told = shown c.in-Ok-tell_line.told in
    let became : c.keep.new.self ≡ remembering c.args.answers.now c.args.line.now told = search rules in
    remembers_told (view_in c.args.catalog.now) c.args.line.now c.args.pass.now c.tell_line.new.pass told c.args.answers.now c.keep.new.self
    c.tell_line.ensures.knows c.in-Ok-tell_line.ensures.tells became c.requires.remembers

pub returns-in-Ok-tell_line-clause-replied : goal.returns-in-Ok-tell_line-clause-replied
returns-in-Ok-tell_line-clause-replied g c =
    let told = shown c.in-Ok-tell_line.told in
    let none : text_of c.args.line.now c.args.answers.now ≡ None = search rules in
    let became : c.keep.new.self ≡ remembering c.args.answers.now c.args.line.now told = search rules in (
      Ok told,
      answered_now (view_in c.args.catalog.now) c.args.line.now _ _ (Ok told) none c.in-Ok-tell_line.ensures.tells became,
      told_sent _ _ _ _ _ _ told _ _ refl c.as_slice.ensures.value c.send-end.ensures.sends,
    )

pub returns-in-Err-clause-remembers : goal.returns-in-Err-clause-remembers
returns-in-Err-clause-remembers g c =
    remembers_still (view_in c.args.catalog.now) c.args.pass.now c.tell_line.new.pass c.args.answers.now c.tell_line.ensures.knows c.requires.remembers

pub returns-in-Err-clause-replied : goal.returns-in-Err-clause-replied
returns-in-Err-clause-replied g c =
    let none : text_of c.args.line.now c.args.answers.now ≡ None = search rules in (
      Err c.in-Err.why,
      answered_now (view_in c.args.catalog.now) c.args.line.now _ _ (Err c.in-Err.why) none c.in-Err.ensures.tells refl,
      refusal_sent _ _ _ _ _ _ _ _ c.unmoved-in-Err.ensures c.refuse-in-Err.ensures.sends,
    )
