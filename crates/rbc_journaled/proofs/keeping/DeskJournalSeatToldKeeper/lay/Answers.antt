use Rattle.rbc_journaled.proofs.LineLemmas.{tells_asked}
use Rattle.rbc_journaled.proofs.keeping.DeskJournalSeatToldKeeper.lay.Goals as goal

pub line_of-requires : goal.line_of-requires
line_of-requires g c =
    let told = c.requires.told in
    tells_asked c.args.seat.now.told c.args.receipt.now.place c.args.text told.0 told.1 told.2
