-- A place on the train's line needs no leg more; for one behind it the legs are cut behind the place.
use Rattle.std.proofs.Common.{◌≡◌, ◌<◌, ◌≤◌, take, ap, sym, ◌∙◌, subst, arith}
use Rattle.rbc_model.specs.Lines.{IsLine, legs_begun_before, line_length}
use Rattle.rbc_model.specs.Tracks.{Track}
use Rattle.rbc_search.specs.OnTracks.{LineOnTrack}
use Rattle.rbc_scene.proofs.GrantingLemmas.{copied_as, line_to-far, line_to-near}
use Rattle.rbc_scene.proofs.granting.line_along.Goals as goal

pub returns-then-to-length-clause-legs : goal.returns-then-to-length-clause-legs
returns-then-to-length-clause-legs c = λ scene locks begins.
    let known = c.line-known.ensures in
    let metres : c.length.result ≡ line_length c.args.train.now.track c.args.train.now.train.line = c.length.ensures.length ∙ (λ j. line_length (known.track j) (known.legs j)) in
    let near = c.if-to-length.true in
    copied_as c.copy.result c.line-known.result.now _
    (known.legs ∙ line_to-near c.args.train.now.track scene c.args.train.now.train c.args.to locks c.known.ensures (let h : c.args.to ≤ line_length c.args.train.now.track c.args.train.now.train.line = omega arith in h))
    c.copy.ensures

pub along-requires : goal.along-requires
along-requires c = subst (λ (t : Track). IsLine t c.args.legs.now) (sym (c.track.ensures.track ∙ c.line-known.ensures.track)) c.requires.line

pub returns-clause-legs : goal.returns-clause-legs
returns-clause-legs c = λ scene locks begins.
    let known = c.line-known.ensures in
    let metres : c.length.result ≡ line_length c.args.train.now.track c.args.train.now.train.line = c.length.ensures.length ∙ (λ j. line_length (known.track j) (known.legs j)) in
    let past = c.if-to-length.false in
    let made = c.in_ok-line.ensures in
    let of_track = ap (λ (l : LineOnTrack). l.track) made ∙ c.track.ensures.track ∙ known.track in
    let legs = ap (λ (l : LineOnTrack). l.legs) made in
    c.cut_to.ensures.legs
    ∙ (λ j. take (legs_begun_before (of_track j) c.args.to (legs j)) (legs j))
    ∙ line_to-far c.args.train.now.track scene c.args.train.now.train c.args.to locks c.known.ensures c.args.legs.now begins
    (let h : line_length c.args.train.now.track c.args.train.now.train.line < c.args.to = omega arith in h) c.requires.on_line
