use Rattle.std.proofs.Common.{◌+◌, length, arith}
use Rattle.rbc_group_commit.specs.declared.line.TheConstants.{LONGEST_NOTE}
use Rattle.rbc_group_commit.proofs.FileLemmas.{less_room}
use Rattle.rbc_group_commit.proofs.page.stage.Goals as goal

pub note-requires-clause-room : goal.note-requires-clause-room
note-requires-clause-room g c =
    let noted = rw c.in-Some.is at c.requires.note in
    less_room c.stage.new.self LONGEST_NOTE _ (omega (arith, noted.1, c.as_slice.ensures.len))
    (c.stage.ensures.room LONGEST_NOTE (less_room c.args.journal.now 4164 _ (omega (arith, c.requires.short)) c.requires.room))

pub returns-clause-room : goal.returns-clause-room
returns-clause-room g c = λ bytes room.
    let text = length c.args.text.now in
    let note = c.len.result in
    let behind = c.stage.ensures.room (note + 2 + bytes) (less_room c.args.journal.now (text + 2 + note + 2 + bytes) _ (omega arith) room) in
    c.note.ensures.room bytes (less_room c.stage.new.self (note + 2 + bytes) _ (omega (arith, c.len.ensures, c.as_slice.ensures.len)) behind)
