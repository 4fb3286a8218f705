use Rattle.std.proofs.Common.{◌≡◌, ◌∙◌, ap, sym, length, None}
use Rattle.rbc_model.specs.Locks.{needed_rows}
use Rattle.rbc_locks.specs.Room.{lock_refusal}
use Rattle.rbc_locks.proofs.RoomLemmas.{room_of_route, no_clash, no_taken_link, length-with_rows}
use Rattle.rbc_locks.proofs.locks.Locks.lock.Goals as goal

pub add_rows-requires : goal.add_rows-requires
add_rows-requires c =
    let none : lock_refusal c.args.self.now c.route_at-asked.result.now ≡ None = sym c.refusal_of.ensures ∙ c.in_default.is in
    room_of_route c.args.track.now c.args.self.now c.args.route c.route_at-asked.result.now c.known.ensures.sound c.requires.locks c.route_at-asked.ensures
    (no_clash c.args.self.now c.route_at-asked.result.now none)
    (no_taken_link c.args.self.now c.route_at-asked.result.now none)

pub returns-clause-sections : goal.returns-clause-sections
returns-clause-sections c = ap length c.add_rows.ensures ∙ length-with_rows c.args.route (needed_rows c.route_at-asked.result.now) c.args.self.now
