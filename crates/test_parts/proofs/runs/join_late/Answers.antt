use Rattle.test_parts.proofs.runs.join_late.Goals as goal

pub catch_up-requires-clause-own : goal.catch_up-requires-clause-own
catch_up-requires-clause-own g c = (c.look_in_turn.ensures.readers.0.own, c.look_in_turn.ensures.readers.1.own)

pub catch_up-requires-clause-rest : goal.catch_up-requires-clause-rest
catch_up-requires-clause-rest g c = (c.look_in_turn.ensures.readers.0.rests, c.look_in_turn.ensures.readers.1.rests)

pub catch_up-requires-clause-readers : goal.catch_up-requires-clause-readers
catch_up-requires-clause-readers g c = (c.look_in_turn.ensures.readers.0.reads, c.look_in_turn.ensures.readers.1.reads)
