use Rattle.std.proofs.Common.{List, ap, arith, length, subst, ℕ, All, drop}
use Rattle.rbc_model.specs.Histories.{Receipt}
use Rattle.rbc_sessions.specs.Due.{OwesAll}
use Rattle.rbc_sessions.specs.Resting.{commands_resting}
use Rattle.rbc_sessions.proofs.DueLemmas.{entered_said, owed_can, owed_said, owed_some}
use Rattle.rbc_sessions.proofs.HearingLemmas.{hears_longer}
use Rattle.rbc_sessions.proofs.batch.Batch.enter.Goals as goal

pub say_all-said-requires-clause-had : goal.say_all-said-requires-clause-had
say_all-said-requires-clause-had g c =
    let count = ap (λ (l : List Receipt). length l) c.receipts-had.ensures in
    let track = c.args.context.now.track.now in
    let before = c.args.sitting.now.seat in
    let owes = c.enter_all.ensures.owes in
    let some = owed_some track before c.enter_all.new.seat _ _ owes in
    omega (arith, count, hears_longer before c.enter_all.new.seat _ some.0 (owed_said track before c.enter_all.new.seat _ _ some.0 owes some.1))

pub say_all-said-requires-clause-dues : goal.say_all-said-requires-clause-dues
say_all-said-requires-clause-dues g c =
    owed_can c.args.context.now.track.now c.args.sitting.now.seat c.enter_all.new.seat _ _ c.enter_all.ensures.owes

pub say_all-said-requires-clause-some : goal.say_all-said-requires-clause-some
say_all-said-requires-clause-some g c =
    owed_some c.args.context.now.track.now c.args.sitting.now.seat c.enter_all.new.seat _ _ c.enter_all.ensures.owes

pub returns-clause-entered : goal.returns-clause-entered
returns-clause-entered g c =
    let before = c.args.sitting.now in
    let after = c.say_all-said.new.sitting in
    let seat = c.enter_all.new.seat in
    let track = c.args.context.now.track.now in
    let dues = c.enter_all.new.dues.dues in
    let said = c.say_all-said.ensures in
    let count = ap (λ (l : List Receipt). length l) c.receipts-had.ensures in
    let owes = subst (λ items. OwesAll track before.seat (commands_resting items) dues seat) c.self.view_is c.enter_all.ensures.owes in
    let kept = λ (n : ℕ). All (λ (r : Receipt). g.K.Keeper.kept after.committer r.place) (drop n seat.receipts) in
    entered_said track g.K.Keeper.kept before after seat (commands_resting c.args.self.now) dues _ _ _ _ c.requires.whole owes said.seat said.stays (λ fine. subst kept count (said.kept fine))
    said.said (λ broken. let none = said.unsaid broken in (ap g.W.Sink.written none.0, none.1))
