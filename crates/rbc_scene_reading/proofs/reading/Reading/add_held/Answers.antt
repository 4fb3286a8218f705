use Rattle.std.proofs.Common.{◌≡◌, ◌==◌, ◌∙◌, Err, Ok, Result, ap, subst, sym, true, rules, SFits, w64}
use Rattle.std.proofs.lemmas.Int.{to_z-of_z}
use Rattle.rbc_scene.specs.Books.{Book}
use Rattle.rbc_scene.specs.TrainsOnTracks.{TrainOnTrack}
use Rattle.rbc_scene_reading.specs.Readings.{Reading, reading_of}
use Rattle.rbc_scene_reading.specs.Reading.{with_held}
use Rattle.rbc_scene_reading.specs.declared.fault.SceneFault.{SceneFault}
use Rattle.rbc_scene_reading.specs.declared.stage.Stage.TheVariants.{Standing, Held}
use Rattle.rbc_scene_reading.proofs.AdditionLemmas.{holds_as, held_added, held_apart, held_good, held_new, held_refused, same_train, so_held}
use Rattle.rbc_scene_reading.proofs.reading.Reading.add_held.Goals as goal

pub held_fault-requires-clause-new : goal.held_fault-requires-clause-new
held_fault-requires-clause-new c =
    let i = c.self.inside in
    let standing = c.in-Standing.standing in
    let is : i.stage ≡ Standing standing = sym c.replace.ensures.value ∙ c.in-Standing.is in
    let held = c.in-Some.held.train in
    let from_fits : SFits w64 c.args.from = search rules in
    let to_fits : SFits w64 c.args.to = search rules in
    let from_is = to_z-of_z w64 c.args.from from_fits in
    let to_is = to_z-of_z w64 c.args.to to_fits in
    let there = holds_as standing.track standing.train _ c.args.from _ c.args.to held from_is to_is (sym c.in-Some.ensures.train) in
    (held_new i.version i.locks i.book i.stage c.self.invariant standing is c.args.from c.args.to held there).new

pub returns-in-Some-held_fault-clause-reading : goal.returns-in-Some-held_fault-clause-reading
returns-in-Some-held_fault-clause-reading c =
    let i = c.self.inside in
    let standing = c.in-Standing.standing in
    let is : i.stage ≡ Standing standing = sym c.replace.ensures.value ∙ c.in-Standing.is in
    let held = c.in-Some.held.train in
    let from_fits : SFits w64 c.args.from = search rules in
    let to_fits : SFits w64 c.args.to = search rules in
    let from_is = to_z-of_z w64 c.args.from from_fits in
    let to_is = to_z-of_z w64 c.args.to to_fits in
    let there = holds_as standing.track standing.train _ c.args.from _ c.args.to held from_is to_is (sym c.in-Some.ensures.train) in
    let same : (c.args.train == standing.train.report.train) ≡ true =
    same_train c.ne.result c.train.result c.args.train _ c.ne.ensures c.if-ne.false (c.train.ensures ∙ ap (λ (s : TrainOnTrack). s.train.report.train) c.standing.view_is) in
    subst (λ (r : Reading). with_held c.args.train c.args.from c.args.to r ≡ Err c.in-Some-held_fault.fault) c.self.view_is
    (held_refused i.version i.locks i.book i.stage c.self.invariant standing is c.args.from c.args.to held there c.args.train same c.in-Some-held_fault.fault (sym c.held_fault.ensures ∙ c.in-Some-held_fault.is))

pub set_place-requires-clause-apart : goal.set_place-requires-clause-apart
set_place-requires-clause-apart c =
    let i = c.self.inside in
    let standing = c.in-Standing.standing in
    let is : i.stage ≡ Standing standing = sym c.replace.ensures.value ∙ c.in-Standing.is in
    let held = c.in-Some.held.train in
    let from_fits : SFits w64 c.args.from = search rules in
    let to_fits : SFits w64 c.args.to = search rules in
    let from_is = to_z-of_z w64 c.args.from from_fits in
    let to_is = to_z-of_z w64 c.args.to to_fits in
    let there = holds_as standing.track standing.train _ c.args.from _ c.args.to held from_is to_is (sym c.in-Some.ensures.train) in
    held_apart i.version i.locks i.book i.stage c.self.invariant standing is c.args.from c.args.to held there (sym c.held_fault.ensures ∙ c.in_default-held_fault.is)

pub invariant_of-self-2 : goal.invariant_of-self-2
invariant_of-self-2 c =
    let i = c.self.inside in
    let standing = c.in-Standing.standing in
    let is : i.stage ≡ Standing standing = sym c.replace.ensures.value ∙ c.in-Standing.is in
    let held = c.in-Some.held.train in
    let from_fits : SFits w64 c.args.from = search rules in
    let to_fits : SFits w64 c.args.to = search rules in
    let from_is = to_z-of_z w64 c.args.from from_fits in
    let to_is = to_z-of_z w64 c.args.to to_fits in
    let there = holds_as standing.track standing.train _ c.args.from _ c.args.to held from_is to_is (sym c.in-Some.ensures.train) in
    so_held i.version i.locks i.book i.stage c.self.invariant c.set_place.new.self held
    (held_good i.version i.locks i.book i.stage c.self.invariant standing is c.args.from c.args.to held there) (sym c.held_fault.ensures ∙ c.in_default-held_fault.is) c.in_ok-set_place.ensures.placed

pub returns-clause-reading : goal.returns-clause-reading
returns-clause-reading c =
    let i = c.self.inside in
    let standing = c.in-Standing.standing in
    let is : i.stage ≡ Standing standing = sym c.replace.ensures.value ∙ c.in-Standing.is in
    let held = c.in-Some.held.train in
    let from_fits : SFits w64 c.args.from = search rules in
    let to_fits : SFits w64 c.args.to = search rules in
    let from_is = to_z-of_z w64 c.args.from from_fits in
    let to_is = to_z-of_z w64 c.args.to to_fits in
    let there = holds_as standing.track standing.train _ c.args.from _ c.args.to held from_is to_is (sym c.in-Some.ensures.train) in
    let same : (c.args.train == standing.train.report.train) ≡ true =
    same_train c.ne.result c.train.result c.args.train _ c.ne.ensures c.if-ne.false (c.train.ensures ∙ ap (λ (s : TrainOnTrack). s.train.report.train) c.standing.view_is) in
    subst (λ (r : Reading). with_held c.args.train c.args.from c.args.to r ≡ Ok (reading_of i.version i.locks c.set_place.new.self Held)) c.self.view_is
    (held_added i.version i.locks i.book i.stage c.self.invariant standing is c.args.from c.args.to held there c.args.train same (sym c.held_fault.ensures ∙ c.in_default-held_fault.is)
    ∙ ap (λ (b : Book). let r : Result Reading SceneFault = Ok (reading_of i.version i.locks b Held) in r) (sym c.in_ok-set_place.ensures.placed))
