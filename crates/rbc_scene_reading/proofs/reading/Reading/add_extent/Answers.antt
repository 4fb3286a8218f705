use Rattle.std.proofs.Common.{◌≡◌, ◌==◌, ◌∙◌, Ok, ap, rules, SFits, subst, sym, true, w64}
use Rattle.std.proofs.lemmas.Int.{to_z-of_z}
use Rattle.rbc_model.specs.Answers.{RefusesOrMemory}
use Rattle.rbc_scene_reading.specs.Readings.{Reading, reading_of}
use Rattle.rbc_scene_reading.specs.Running.{Running}
use Rattle.rbc_scene_reading.specs.Reading.{with_extent}
use Rattle.rbc_scene_reading.specs.declared.stage.Stage.TheVariants.{Running as RunningTrain, Standing}
use Rattle.rbc_scene_reading.proofs.AdditionLemmas.{extent_added, extent_refuses, same_train, so_standing, stands_as}
use Rattle.rbc_scene_reading.proofs.reading.Reading.add_extent.Goals as goal

pub invariant_of-self-in-Ok : goal.invariant_of-self-in-Ok
invariant_of-self-in-Ok c =
    let i = c.self.inside in
    let running = c.in-Running.running in
    let is : i.stage ≡ RunningTrain running = sym c.replace.ensures.value ∙ c.in-Running.is in
    let same : (c.args.train == running.report.train) ≡ true =
    same_train c.ne.result c.train.result c.args.train _ c.ne.ensures c.if-ne.false (c.train.ensures ∙ ap (λ (r : Running). r.report.train) c.running.view_is) in
    let from_fits : SFits w64 c.args.rear = search rules in
    let to_fits : SFits w64 c.args.front = search rules in
    let from_is = to_z-of_z w64 c.args.rear from_fits in
    let to_is = to_z-of_z w64 c.args.front to_fits in
    so_standing i.version i.locks i.book i.stage c.self.invariant running is c.args.train same c.args.rear c.args.front c.in-Ok.standing (c.in-Ok.ensures.track ∙ c.track.ensures.track)
    (stands_as (λ r. r ≡ Ok c.in-Ok.standing.train) _ i.book.track running _ c.args.rear _ c.args.front c.track.ensures.track from_is to_is c.in-Ok.ensures.train)

pub returns-in-Ok-clause-reading : goal.returns-in-Ok-clause-reading
returns-in-Ok-clause-reading c =
    let i = c.self.inside in
    let running = c.in-Running.running in
    let is : i.stage ≡ RunningTrain running = sym c.replace.ensures.value ∙ c.in-Running.is in
    let same : (c.args.train == running.report.train) ≡ true =
    same_train c.ne.result c.train.result c.args.train _ c.ne.ensures c.if-ne.false (c.train.ensures ∙ ap (λ (r : Running). r.report.train) c.running.view_is) in
    let from_fits : SFits w64 c.args.rear = search rules in
    let to_fits : SFits w64 c.args.front = search rules in
    let from_is = to_z-of_z w64 c.args.rear from_fits in
    let to_is = to_z-of_z w64 c.args.front to_fits in
    subst (λ (r : Reading). with_extent c.args.train c.args.rear c.args.front r ≡ Ok (reading_of i.version i.locks i.book (Standing c.in-Ok.standing))) c.self.view_is
    (extent_added i.version i.locks i.book i.stage c.self.invariant running is c.args.train same c.args.rear c.args.front c.in-Ok.standing (c.in-Ok.ensures.track ∙ c.track.ensures.track)
    (stands_as (λ r. r ≡ Ok c.in-Ok.standing.train) _ i.book.track running _ c.args.rear _ c.args.front c.track.ensures.track from_is to_is c.in-Ok.ensures.train))

pub returns-clause-reading : goal.returns-clause-reading
returns-clause-reading c =
    let i = c.self.inside in
    let running = c.in-Running.running in
    let is : i.stage ≡ RunningTrain running = sym c.replace.ensures.value ∙ c.in-Running.is in
    let same : (c.args.train == running.report.train) ≡ true =
    same_train c.ne.result c.train.result c.args.train _ c.ne.ensures c.if-ne.false (c.train.ensures ∙ ap (λ (r : Running). r.report.train) c.running.view_is) in
    let from_fits : SFits w64 c.args.rear = search rules in
    let to_fits : SFits w64 c.args.front = search rules in
    let from_is = to_z-of_z w64 c.args.rear from_fits in
    let to_is = to_z-of_z w64 c.args.front to_fits in
    subst (λ (r : Reading). RefusesOrMemory c.in-Err.fault (with_extent c.args.train c.args.rear c.args.front r)) c.self.view_is
    (extent_refuses i.version i.locks i.book i.stage c.self.invariant running is c.args.train same c.args.rear c.args.front c.in-Err.fault
    (stands_as (RefusesOrMemory c.in-Err.fault) _ i.book.track running _ c.args.rear _ c.args.front c.track.ensures.track from_is to_is c.in-Err.ensures.train))
