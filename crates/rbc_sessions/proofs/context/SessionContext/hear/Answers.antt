use Rattle.std.proofs.Common.{Some, None, ◌∙◌, refl, sym, subst, append-nil}
use Rattle.rbc_model.specs.HistoryText.{IsToldOfTrack}
use Rattle.rbc_sessions.proofs.SeatLemmas.{not_told_at_desk, not_told_named_at_desk, told_at_desk}
use Rattle.rbc_sessions.proofs.TreatingLemmas.{told_adds}
use Rattle.rbc_sessions.proofs.context.SessionContext.hear.Goals as goal

pub lay-requires : goal.lay-requires
lay-requires g c =
    let later = c.known-2.ensures in
    let told = c.in-Ok.ensures in
    let prepared = c.requires in
    record {
      told = (
        prepared.request,
        prepared.said,
        told_adds c.args.told c.in-Ok.receipt c.in-Ok.receipt.place c.args.seat.now c.event.new.seat prepared.request c.args.self.now.track.now g.L.DeskName.opened.track told.since refl later.track
            c.args.self.now.of_desk c.known.ensures.form prepared.sayable prepared.asks,
      );
    }

pub returns-in-Ok-clause-comes : goal.returns-in-Ok-clause-comes
returns-in-Ok-clause-comes g c =
    let told = c.in-Ok.ensures in (
      Some c.in-Ok.receipt,
      told_at_desk c.args.told c.in-Ok.receipt c.place.result c.args.seat.now c.event.new.seat told.since c.place.ensures,
      told.receipt,
    )

pub returns-in-Err-clause-comes : goal.returns-in-Err-clause-comes
returns-in-Err-clause-comes g c =
    let track = c.args.self.now.track.now in
    let later = c.known-2.ensures in
    let told = c.in-Err.ensures in (
      None,
      rw c.refusal_of.ensures (not_told_at_desk c.args.told c.in-Err.fault track c.args.seat.now c.event.new.seat (later.track ∙ sym c.args.self.now.of_desk) told.since),
      told.refused ∙ sym (append-nil c.args.seat.now.receipts),
    )

pub returns-in-Err-clause-whole : goal.returns-in-Err-clause-whole
returns-in-Err-clause-whole g c =
    let track = c.args.self.now.track.now in
    let of_desk = c.args.self.now.of_desk in
    let later = c.known-2.ensures in
    let told = c.in-Err.ensures in
    let prepared = c.requires in
    rw c.refusal_of.ensures (not_told_named_at_desk c.args.told c.in-Err.fault track c.args.seat.now.told c.event.new.seat.told c.known.ensures.sound
    (subst (λ t. IsToldOfTrack t c.args.told) (sym of_desk) prepared.of_track) (later.track ∙ sym of_desk) told.since)
