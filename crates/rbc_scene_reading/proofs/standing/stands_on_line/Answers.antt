use Rattle.std.proofs.Common.{◌≡◌, ◌∙◌, Err, None, Option, Result, ap, of_z, rules, SFits, subst, sym, to_z, true, w64}
use Rattle.std.proofs.lemmas.Int.{to_z-of_z}
use Rattle.std.specs.Arc.{arc_value}
use Rattle.std.specs.Option.{ok_or}
use Rattle.rbc_model.specs.Results.{demand, ◌>>◌}
use Rattle.rbc_model.specs.Trains.{Train}
use Rattle.rbc_good_laws.specs.Good.{is_good_line}
use Rattle.rbc_good_laws.proofs.GoodLemmas.{line_is}
use Rattle.rbc_scene.specs.OnTracks.{LineOnTrack}
use Rattle.rbc_scene_reading.specs.Running.{Running}
use Rattle.rbc_scene_reading.specs.Reading.{where_told}
use Rattle.rbc_scene_reading.specs.declared.fault.SceneFault.{SceneFault}
use Rattle.rbc_scene_reading.specs.declared.fault.SceneFault.TheVariants.{NoLine, NotAsTold}
use Rattle.rbc_scene_reading.proofs.standing.stands_on_line.Goals as goal

pub along-requires : goal.along-requires
along-requires c =
    let good = sym c.is_good_line.ensures ∙ c.if-not-is_good_line.false in
    (line_is (arc_value c.args.track.now) c.deref-3.result.now).0
    (subst (λ t. is_good_line t c.deref-3.result.now ≡ true) c.deref.ensures
    (subst (λ l. is_good_line c.deref.result.now l ≡ true) (c.deref-2.ensures.value ∙ sym c.deref-3.ensures.value) good))

pub returns-in-None-clause-train : goal.returns-in-None-clause-train
returns-in-None-clause-train c =
    let track = arc_value c.args.track.now in
    let running = c.args.running.now in
    let number = running.report.train in
    let good : is_good_line track running.legs ≡ true =
    subst (λ t. is_good_line t running.legs ≡ true) c.deref.ensures
    (subst (λ l. is_good_line c.deref.result.now l ≡ true) (c.deref-2.ensures.value ∙ ap (λ (r : Running). r.legs) c.running.view_is) (sym c.is_good_line.ensures ∙ c.if-not-is_good_line.false)) in
    let rear_fits : SFits w64 c.args.rear = search rules in
    let front_fits : SFits w64 c.args.front = search rules in
    let none : where_told track running c.args.rear c.args.front ≡ None =
    ap (λ (l : LineOnTrack). where_told l.track running c.args.rear c.args.front) (sym c.in_ok-line.ensures)
    ∙ ap (λ z. where_told c.in_ok-line.line.track running z c.args.front) (sym (to_z-of_z w64 c.args.rear rear_fits))
    ∙ ap (λ z. where_told c.in_ok-line.line.track running (to_z w64 (of_z w64 c.args.rear)) z) (sym (to_z-of_z w64 c.args.front front_fits))
    ∙ sym c.in-None.ensures.train in
    ap (λ b. demand b (NoLine number) >> ok_or (where_told track running c.args.rear c.args.front) (NotAsTold number)) good
    ∙ ap (λ (o : Option Train). ok_or o (NotAsTold number)) none
    ∙ ap (λ n. let r : Result Train SceneFault = Err (NotAsTold n) in r) (sym (c.train-train.ensures ∙ ap (λ (r : Running). r.report.train) c.running.view_is))
