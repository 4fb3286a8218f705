use Rattle.std.proofs.Common.{sym, ◌∙◌, ap}
use Rattle.rbc_logbook_laws.proofs.AddingLemmas.{adds_moves}
use Rattle.rbc_snap.proofs.moments.add.Goals as goal

pub compare_exchange-found-requires : goal.compare_exchange-found-requires
compare_exchange-found-requires c =
    let h = c.requires.head in
    let offer = c.plain-offer.ensures in
    let pen = c.no_pen-pen.ensures in
    let again = c.again-more.ensures in (
      ap (λ w. w.tracked) h,
      ap (λ s. s.book) again ∙ sym (ap (λ w. w.book) h),
      pen.0 ∙ sym (ap (λ w. w.book) h),
      offer.0 ∙ sym (ap (λ s. s.names) again),
      rw (ap (λ w. w.key) h, pen.1, offer.1, offer.3, again) (adds_moves c.args.seen.now.log c.args.log.now c.args.count (sym c.requires.count)),
    )
