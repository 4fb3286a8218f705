use Rattle.std.proofs.Common.{◌≡◌, ◌+◌, ◌*◌, ◌/◌, ◌<◌, ◌≤◌, [], ◌∷◌, ◌++◌, refl, nat_le, length, take, sym, subst, ap, ◌∙◌, arith}
use Rattle.std.proofs.lemmas.List.{take_more_set, length-set, length-take}
use Rattle.std.proofs.lemmas.Result.{err_from_is_err_and}
use Rattle.rbc_model.specs.Readers.{field}
use Rattle.rbc_model.specs.Profiles.{profile_of}
use Rattle.rbc_model.specs.declared.limits.TheConstants.{MOST_STEPS}
use Rattle.rbc_model.specs.declared.places.Format.TheVariants.{Far}
use Rattle.rbc_model.specs.Scales.{unit_of}
use Rattle.rbc_model.proofs.ScaleLemmas.{one_or_ten, expressible_near_enough}
use Rattle.rbc_model.proofs.ResultLemmas.{ok_is_no_err}
use Rattle.rbc_packet.proofs.EndLemmas.{before_end}
use Rattle.rbc_packet.proofs.ElementLemmas.{AreRead, first_read, one_more, no_distance, no_value}
use Rattle.rbc_packet.proofs.RisingLemmas.{HaveRisen, profile_made}
use Rattle.rbc_packet.proofs.profile.read_steps.Goals as goal

pub loop-index-init : goal.loop-index-init
loop-index-init g c = record {
  room = refl;
  read = first_read g.V.Encoded.layout g.V.Level.levels (unit_of c.args.end) (c.args.end / unit_of c.args.end) c.args.first c.args.count c.args.bits.now c.requires.expressible;
}

pub returns-in_err-distance : goal.returns-in_err-distance
returns-in_err-distance g c =
    let p = err_from_is_err_and c.from_residual.result c.from_residual.ensures.1 in
    let far = ap (λ name. field name (nat_le 1) c.loop-index.bits) (sym c.distance.ensures) ∙ c.in_err-distance.ensures.read in
    rw (p.1, p.2) (no_distance g.V.Encoded.layout g.V.Level.levels (unit_of c.args.end) (c.args.end / unit_of c.args.end) c.args.first c.args.count c.loop-index.index c.loop-index.from c.args.bits.now c.loop-index.bits _ _ c.loop-index-test.true far c.loop-index.invariant.read)

pub returns-in_err-read_value : goal.returns-in_err-read_value
returns-in_err-read_value g c =
    let p = err_from_is_err_and c.from_residual-in_err-read_value.result c.from_residual-in_err-read_value.ensures.1 in
    let far = ap (λ name. field name (nat_le 1) c.loop-index.bits) (sym c.distance.ensures) ∙ c.in_ok-distance.ensures.read in
    rw (p.1, p.2) (no_value g.V.Encoded.layout g.V.Level.levels (unit_of c.args.end) (c.args.end / unit_of c.args.end) c.args.first c.args.count c.loop-index.index c.loop-index.from c.in_ok-distance.distance c.args.bits.now c.loop-index.bits c.positive_field.new.bits _ _ c.loop-index-test.true far c.in_err-read_value.ensures.reads c.loop-index.invariant.read)

pub loop-index-preserved : goal.loop-index-preserved
loop-index-preserved g c =
    let encoded = g.met.V.Encoded g.world.𝓛 g.world.𝓜 g.world.𝓡 ((λ s x. x), (λ x. x), (λ x. x), λ x. x) in
    let layout = g.V.Encoded.layout in
    let index = c.loop-index.index in
    let unit = unit_of c.args.end in
    let from = c.loop-index.from + c.in_ok-distance.distance in
    let start = c.unit_of-unit.result * from in
    let value = c.in_ok-read_value.field-0 in
    let steps = take index c.loop-index.steps in
    let far = ap (λ name. field name (nat_le 1) c.loop-index.bits) (sym c.distance.ensures) ∙ c.in_ok-distance.ensures.read in
    let fits : index < length c.loop-index.steps = omega (arith, c.loop-index-test.true, c.requires.room, c.loop-index.invariant.room) in
    record {
      room = length-set c.loop-index.steps index (start, c.in_ok-read_value.field-0) ∙ c.loop-index.invariant.room;
      read = rw take_more_set
          (subst (λ u. AreRead layout g.V.Level.levels unit (c.args.end / unit) c.args.first c.args.count (index + 1) from c.args.bits.now c.read_value.new.bits (steps ++ (u * from, value) ∷ [])) (sym c.unit_of-unit.ensures.unit)
          (one_more layout g.V.Level.levels unit (c.args.end / unit) c.args.first c.args.count index c.loop-index.from c.in_ok-distance.distance value c.args.bits.now c.loop-index.bits c.positive_field.new.bits c.read_value.new.bits steps (one_or_ten c.args.end) c.loop-index-test.true far c.in_ok-read_value.ensures.reads encoded.distance_width c.in_ok-read_value.ensures.expressible c.loop-index.invariant.read));
    }

pub new-requires-send-V : goal.new-requires-send-V
new-requires-send-V g c κs within = c.type_bounds.send-V

pub new-requires-sync-V : goal.new-requires-sync-V
new-requires-sync-V g c κs within = c.type_bounds.sync-V

pub unreachable-requires : goal.unreachable-requires
unreachable-requires g c =
    let steps = take c.args.count c.loop-index.steps in
    let last : c.loop-index.index ≡ c.args.count = omega (arith, c.loop-index.auto.index-end, c.requires.some, c.loop-index-test.false) in
    let end = c.args.end in
    let from = c.loop-index.from in
    let unit = unit_of end in
    let risen = subst (λ i. HaveRisen g.V.Level.levels (unit * from) (take i c.loop-index.steps)) last c.loop-index.invariant.read.risen in
    let few : length steps ≤ MOST_STEPS = omega (arith, length-take c.args.count c.loop-index.steps, c.requires.room) in
    let result : c.new.result ≡ profile_of g.V.Level.levels end steps = c.new.ensures in
    let before = before_end end from (subst (λ u. from < end / u) c.unit_of-unit.ensures.unit c.in_ok-read_end.ensures.before) in
    let near = expressible_near_enough Far end c.requires.end in
    ok_is_no_err (result ∙ profile_made g.V.Level.levels (unit * from) end steps risen before (omega (arith, near)) few) c.in-Err.is
