-- Some legs begin before the place, so some are left.
use Rattle.std.proofs.Common.{◌-◌, length, take, ap, ◌∙◌, ◌≡◌, arith}
use Rattle.rbc_search.specs.OnTracks.{LineOnTrack}
use Rattle.rbc_scene.proofs.GrantingLemmas.{some_begun}
use Rattle.rbc_scene.proofs.granting.cut_to.Goals as goal

pub cut_back-requires : goal.cut_back-requires
cut_back-requires c =
    let line = c.args.line in
    let legs = c.known.ensures.line in
    let some = some_begun line.track line.legs c.args.to legs.some_leg c.requires.some in
    let count = c.legs_begun_before-kept.ensures.count in
    let same = ap length c.legs-count.ensures.legs in
    let long = legs.some_leg in
    omega arith

pub returns-clause-legs : goal.returns-clause-legs
returns-clause-legs c =
    let line = c.args.line in
    let kept = c.legs_begun_before-kept.ensures in
    let few = kept.at_most in
    let same = ap length c.legs-count.ensures.legs in
    let left : length line.legs - (length c.legs-count.result.now - c.legs_begun_before-kept.result) ≡ c.legs_begun_before-kept.result = omega arith in
    ap (λ (l : LineOnTrack). l.legs) c.cut_back.ensures ∙ ap (λ n. take n line.legs) (left ∙ kept.count)
