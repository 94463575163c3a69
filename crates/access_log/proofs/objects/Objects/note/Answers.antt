use Rattle.std.proofs.Common.{arith}
use Rattle.access_log.proofs.ObjectsKept.{is_ready, distinct_names}
use Rattle.access_log.proofs.objects.Objects.note.Goals as goal

pub note_record-read-requires-clause-place : goal.note_record-read-requires-clause-place
note_record-read-requires-clause-place c =
    let k = c.requires.known in
    let r = is_ready k.0 k.1 k.2 c.args.access c.placed-place.new.self c.placed-place.result k.3.agrees c.placed-place.ensures.room (c.placed-place.ensures.place k.0 k.1 k.2 k.3) in
    r.in_records

pub note_record-read-requires-clause-list : goal.note_record-read-requires-clause-list
note_record-read-requires-clause-list c =
    let k = c.requires.known in
    let r = is_ready k.0 k.1 k.2 c.args.access c.placed-place.new.self c.placed-place.result k.3.agrees c.placed-place.ensures.room (c.placed-place.ensures.place k.0 k.1 k.2 k.3) in
    let few = k.3.few in
    omega arith

pub note_record-read-requires-clause-few : goal.note_record-read-requires-clause-few
note_record-read-requires-clause-few c =
    let k = c.requires.known in
    let r = is_ready k.0 k.1 k.2 c.args.access c.placed-place.new.self c.placed-place.result k.3.agrees c.placed-place.ensures.room (c.placed-place.ensures.place k.0 k.1 k.2 k.3) in
    omega (arith, c.placed-place.new.self.sights.ok.0, r.few)

pub note_record-read-requires-clause-room : goal.note_record-read-requires-clause-room
note_record-read-requires-clause-room c =
    let k = c.requires.known in
    let r = is_ready k.0 k.1 k.2 c.args.access c.placed-place.new.self c.placed-place.result k.3.agrees c.placed-place.ensures.room (c.placed-place.ensures.place k.0 k.1 k.2 k.3) in
    omega (arith, c.placed-place.new.self.sights.ok.0, r.sights, c.placed-place.ensures.room.sights)

pub note-requires-clause-list : goal.note-requires-clause-list
note-requires-clause-list c =
    let k = c.requires.known in
    (is_ready k.0 k.1 k.2 c.args.access c.placed-place.new.self c.placed-place.result k.3.agrees c.placed-place.ensures.room (c.placed-place.ensures.place k.0 k.1 k.2 k.3)).heaps

pub note-requires-clause-place : goal.note-requires-clause-place
note-requires-clause-place c =
    let k = c.requires.known in
    (is_ready k.0 k.1 k.2 c.args.access c.placed-place.new.self c.placed-place.result k.3.agrees c.placed-place.ensures.room (c.placed-place.ensures.place k.0 k.1 k.2 k.3)).in_heap

pub returns-clause-notes : goal.returns-clause-notes
returns-clause-notes c = λ m n A h.
    let p = c.placed-place.ensures.place m n A h in
    let d = distinct_names A c.args.access c.placed-place.new.self c.placed-place.result p in
    let noted = c.note_record-read.ensures.notes m n A c.placed-place.new.self.names.keys h.agrees d p.place p.records p.sights in
    let ahead = c.note.ensures.notes m n A c.placed-place.new.self.names.keys h.agrees d p.place noted.read p.ahead in
    record { names = p.names; records = noted.records; sights = noted.sights; ahead = ahead }
