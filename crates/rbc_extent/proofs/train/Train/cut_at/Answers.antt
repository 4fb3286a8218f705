use Rattle.std.proofs.Common.{◌≡◌, max, true, false, ap, sym, ◌∙◌, subst}
use Rattle.rbc_model.specs.Tracks.{Track}
use Rattle.rbc_model.specs.Lines.{Line}
use Rattle.rbc_model.specs.Placing.{through}
use Rattle.rbc_scene_laws.specs.Good.{IsGoodTrain}
use Rattle.rbc_scene_laws.proofs.GivingBackLemmas.{IsCut, cut_train}
use Rattle.rbc_extent.specs.TrainsOnTracks.{TrainOnTrack, train_on}
use Rattle.rbc_extent.proofs.train.Train.cut_at.Goals as goal

pub invariant_of-self : goal.invariant_of-self
invariant_of-self c =
    let s = c.self.inside in
    let place = max s.front c.args.to in
    let cut : IsCut (train_on s.line s.report s.origin s.rear s.front s.from s.to) c.args.to =
    subst (λ (v : TrainOnTrack). IsCut v.train c.args.to) (sym c.self.view_is) (record { short = c.requires.to; front = c.requires.front; from = c.requires.from }) in
    let good = cut_train s.line.track (train_on s.line s.report s.origin s.rear s.front s.from s.to) c.args.to c.self.invariant cut true in
    let legs : c.cut_ahead.new.line.legs ≡ through s.line.track s.report place s.line.legs = c.cut_ahead.ensures.legs ∙ ap (λ k. through s.line.track s.report k s.line.legs) c.max.ensures in
    let P : Track → Line → Type 0 = λ t l. IsGoodTrain t (train_on (record { track = t; legs = l }) s.report s.origin s.rear s.front s.from c.args.to) in
    subst (λ (t : Track). P t c.cut_ahead.new.line.legs) (sym c.cut_ahead.ensures.track) (subst (P s.line.track) (sym legs) good.good)

pub invariant_of-self-else-self-to : goal.invariant_of-self-else-self-to
invariant_of-self-else-self-to c =
    let s = c.self.inside in
    let place = max s.front c.args.to in
    let cut : IsCut (train_on s.line s.report s.origin s.rear s.front s.from s.to) c.args.to =
    subst (λ (v : TrainOnTrack). IsCut v.train c.args.to) (sym c.self.view_is) (record { short = c.requires.to; front = c.requires.front; from = c.requires.from }) in
    let good = cut_train s.line.track (train_on s.line s.report s.origin s.rear s.front s.from s.to) c.args.to c.self.invariant cut false in
    let legs : c.cut_ahead.new.line.legs ≡ through s.line.track s.report place s.line.legs = c.cut_ahead.ensures.legs ∙ ap (λ k. through s.line.track s.report k s.line.legs) c.max.ensures in
    let P : Track → Line → Type 0 = λ t l. IsGoodTrain t (train_on (record { track = t; legs = l }) s.report s.origin s.rear s.front s.front s.front) in
    subst (λ (t : Track). P t c.cut_ahead.new.line.legs) (sym c.cut_ahead.ensures.track) (subst (P s.line.track) (sym legs) good.good)
