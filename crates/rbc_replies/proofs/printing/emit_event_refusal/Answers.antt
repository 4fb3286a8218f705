use Rattle.std.proofs.Common.{[], ◌∷◌, ap, codes}
use Rattle.std.specs.Prelude.{decimal}
use Rattle.rbc_model.specs.Words.{line_of}
use Rattle.rbc_streams.proofs.EmittingLemmas.{emits_as}
use Rattle.rbc_replies.proofs.printing.emit_event_refusal.Goals as goal

pub returns-in-Crowded : goal.returns-in-Crowded
returns-in-Crowded g c = rw c.in-Crowded.is c.emit_line.ensures

pub returns-in-UnknownGroup : goal.returns-in-UnknownGroup
returns-in-UnknownGroup g c = rw c.in-UnknownGroup.is c.emit_line-in-UnknownGroup.ensures

pub returns-in-Offline : goal.returns-in-Offline
returns-in-Offline g c = rw c.in-Offline.is c.emit_line-in-Offline.ensures

pub returns-in-Unplaced : goal.returns-in-Unplaced
returns-in-Unplaced g c = rw c.in-Unplaced.is c.emit_line-in-Unplaced.ensures

pub returns-in-TooFar : goal.returns-in-TooFar
returns-in-TooFar g c = rw c.in-TooFar.is c.emit_line-in-TooFar.ensures

pub returns-in-Clash : goal.returns-in-Clash
returns-in-Clash g c =
    let words = ap (λ w. line_of (codes "refused" ∷ codes "Clash" ∷ w ∷ [])) c.section_word.ensures in
    rw c.in-Clash.is (emits_as words c.emit_line-in-Clash.ensures)

pub returns-in-LinkTaken : goal.returns-in-LinkTaken
returns-in-LinkTaken g c =
    let words = ap (λ w. line_of (codes "refused" ∷ codes "LinkTaken" ∷ w ∷ [])) c.leg_word.ensures in
    rw c.in-LinkTaken.is (emits_as words c.emit_line-in-LinkTaken.ensures)

pub returns-in-NotLocked : goal.returns-in-NotLocked
returns-in-NotLocked g c =
    let words = ap (λ w. line_of (codes "refused" ∷ codes "NotLocked" ∷ w ∷ [])) c.section_word-in-NotLocked.ensures in
    rw c.in-NotLocked.is (emits_as words c.emit_line-in-NotLocked.ensures)

pub returns-in-Busy : goal.returns-in-Busy
returns-in-Busy g c =
    let words = ap (λ w. line_of (codes "refused" ∷ codes "Busy" ∷ w ∷ decimal c.in-Busy.train ∷ [])) c.section_word-in-Busy.ensures in
    rw c.in-Busy.is (emits_as words (rw c.number.ensures at c.emit_line-in-Busy.ensures))

pub returns-in-UnknownTrain : goal.returns-in-UnknownTrain
returns-in-UnknownTrain g c = rw c.in-UnknownTrain.is (rw c.number-in-UnknownTrain.ensures at c.emit_line-in-UnknownTrain.ensures)

pub returns-in-YieldRange : goal.returns-in-YieldRange
returns-in-YieldRange g c = rw c.in-YieldRange.is (rw c.number-in-YieldRange.ensures at c.emit_line-in-YieldRange.ensures)

pub returns-in-NotSafe : goal.returns-in-NotSafe
returns-in-NotSafe g c = rw c.in-NotSafe.is c.emit_line-in-NotSafe.ensures
