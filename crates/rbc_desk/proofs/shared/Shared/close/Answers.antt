use Rattle.std.proofs.Common.{◌≡◌, ◌+◌, ◌-◌, [], All, length, subst, vec_len, arith}
use Rattle.rbc_snap.specs.Records.{HistoryOnTrack}
use Rattle.rbc_snap.specs.Later.{IsLater}
use Rattle.rbc_desk.specs.Seats.{Seated}
use Rattle.rbc_desk.specs.Closing.{all_receipts, AreAtPlaces, IsFirstMisplaced}
use Rattle.rbc_desk.proofs.ClosingLemmas.{goes_on, matches, unmarked}
use Rattle.rbc_desk.proofs.shared.Shared.close.Goals as goal

pub returns-in-None-clause-matches : goal.returns-in-None-clause-matches
returns-in-None-clause-matches g c =
    let log = c.args.self.log in
    let start = c.args.self.start in
    let receipts = all_receipts c.args.seats.items in
    let parts : c.take_all-misplaced.new.all.parts ≡ g.L.Ledger.parts = omega (arith, c.args.seats.ok.0, c.take_all-misplaced.ensures.parts, c.take_all-misplaced.ensures.most, c.requires) in
    let many : length receipts + start ≡ length log.entries = omega (arith, c.audit.ensures.whole parts, c.take_all-misplaced.ensures.amount, c.args.self.counted) in
    let marked : length log.entries - vec_len c.args.self.found ≡ start = omega (arith, c.args.self.counted, c.args.self.places) in
    matches log.entries start _ receipts c.args.self.starts
    (subst (λ begun. AreAtPlaces log.entries begun [] receipts) marked c.in-None.ensures.finds.0) many

pub returns-in-Some-clause-unmatched : goal.returns-in-Some-clause-unmatched
returns-in-Some-clause-unmatched g c =
    let log = c.args.self.log in
    let start = c.args.self.start in
    let receipts = all_receipts c.args.seats.items in
    let parts : c.take_all-misplaced.new.all.parts ≡ g.L.Ledger.parts = omega (arith, c.args.seats.ok.0, c.take_all-misplaced.ensures.parts, c.take_all-misplaced.ensures.most, c.requires) in
    let many : length receipts + start ≡ length log.entries = omega (arith, c.audit.ensures.whole parts, c.take_all-misplaced.ensures.amount, c.args.self.counted) in
    let marked : length log.entries - vec_len c.args.self.found ≡ start = omega (arith, c.args.self.counted, c.args.self.places) in (
      goes_on log g.L.DeskName.opened start receipts c.args.self.track c.args.self.begin c.args.self.most c.args.self.base c.args.self.starts c.right.ensures many,
      subst (λ begun. IsFirstMisplaced log.entries begun [] receipts c.in-Some.receipt) c.args.self.starts
          (subst (λ begun. IsFirstMisplaced log.entries begun [] receipts c.in-Some.receipt) marked c.in-Some.ensures.finds),
    )

pub returns-in-None-clause-told : goal.returns-in-None-clause-told
returns-in-None-clause-told g c =
    subst (λ (h : HistoryOnTrack). All (λ (seat : Seated). IsLater seat.told h) c.args.seats.items) c.args.self.published c.take_all-misplaced.ensures.told

pub take_all-misplaced-requires-clause-unmarked : goal.take_all-misplaced-requires-clause-unmarked
take_all-misplaced-requires-clause-unmarked g c = unmarked (length c.args.self.log.entries - vec_len c.args.self.found) c.args.self.found.items c.args.self.none_found
