use Rattle.std.proofs.Common.{◌≡◌, ℕ, ◌+◌, ◌-◌, ◌/◌, ◌^◌, ◌<◌, ◌∷◌, ◌++◌, length, take, drop, get_or, ap, ap₂, sym, ◌∙◌, subst, arith, List, Bool, OnOk}
use Rattle.rbc_model.specs.Messages.{direction_of}
use Rattle.rbc_model.specs.Profiles.{IsProfile}
use Rattle.rbc_model.specs.Scales.{unit_of, scale_of}
use Rattle.rbc_model.specs.declared.limits.TheConstants.{MOST_STEPS}
use Rattle.rbc_model.proofs.ScaleLemmas.{writable_said}
use Rattle.rbc_packet.specs.Fields.{bits_of_fields}
use Rattle.rbc_packet.specs.Layouts.{elements, profile_head}
use Rattle.rbc_packet.proofs.EndLemmas.{distance_fits}
use Rattle.rbc_packet.proofs.RestLemmas.{rest_of, rest_at, has_step}
use Rattle.rbc_packet.proofs.RowLemmas.{first_written}
use Rattle.rbc_packet.proofs.LayoutLemmas.{profile-parts, elements-at, elements-end}
use Rattle.rbc_packet.proofs.profile.put_profile.Goals as goal

pub loop-start-init : goal.loop-start-init
loop-start-init g c =
    let encoded = g.met.V.Encoded g.world.𝓛 g.world.𝓜 g.world.𝓡 ((λ s x. x), (λ x. x), (λ x. x), λ x. x) in
    let levels = g.V.Level.levels in
    let layout = g.V.Encoded.layout in
    let packet = g.V.Encoded.packet c.args.nominal in
    let end = c.args.profile.now.end in
    let steps = c.steps-steps.result.now in
    let first = c.index-steps-0.result in
    let bits = c.args.bits.now in
    let way = direction_of c.args.nominal in
    let valid : IsProfile levels 1 MOST_STEPS end steps =
    subst (IsProfile levels 1 MOST_STEPS end) (sym c.steps-steps.ensures) c.known.ensures.profile in
    let head = profile_head layout way (scale_of end) first.1 (length steps) in
    let rest = elements layout (unit_of end) end 0 (take (length steps - 1) (drop 1 steps)) in
    let written : c.put_head.new.bits ≡ bits ++ bits_of_fields head =
    c.in_ok-put_head.ensures
    ∙ ap₂ (λ d s. bits ++ bits_of_fields (profile_head layout d s (get_or steps 0 first).1 (length steps))) c.direction_of.ensures.direction
    (c.scale_of.ensures.scale ∙ ap (λ e. scale_of e) c.end-end.ensures)
    ∙ ap (λ (step : ℕ × _). bits ++ bits_of_fields (profile_head layout way (scale_of end) step.1 (length steps)))
    (sym c.index-steps-0.is) in
    let parts : packet end c.args.profile.now.steps ≡ head ++ rest =
    ap (packet end) (sym c.steps-steps.ensures) ∙ encoded.laid_out c.args.nominal end steps
    ∙ profile-parts layout end c.args.nominal steps first (has_step levels MOST_STEPS end steps valid) c.index-steps-0.is in
    record {
      rest = rest_of levels MOST_STEPS end steps valid;
      fields = first_written bits c.put_head.new.bits _ head rest (ap (λ all. bits ++ bits_of_fields all) (sym parts)) written;
    }

pub overflow_sub-start : goal.overflow_sub-start
overflow_sub-start g c =
    let later = take (length c.steps-steps.result.now - 1) (drop 1 c.steps-steps.result.now) in
    let above = (rest_at g.V.Level.levels c.args.profile.now.end c.loop-start.from later c.loop-start.start-index c.loop-start-item.result
    c.loop-start-test.true c.loop-start-item.is c.loop-start.invariant.rest).0 in
    omega arith

pub put_step-requires-send-V : goal.put_step-requires-send-V
put_step-requires-send-V g c κs within = c.type_bounds.send-V

pub put_step-requires-sync-V : goal.put_step-requires-sync-V
put_step-requires-sync-V g c κs within = c.type_bounds.sync-V

pub put_step-requires-after_bounds : goal.put_step-requires-after_bounds
put_step-requires-after_bounds g c κs within =
    let end = c.args.profile.now.end in
    let later = take (length c.steps-steps.result.now - 1) (drop 1 c.steps-steps.result.now) in
    let rest = (rest_at g.V.Level.levels end c.loop-start.from later c.loop-start.start-index c.loop-start-item.result
    c.loop-start-test.true c.loop-start-item.is c.loop-start.invariant.rest).1 in
    let before = rest.before in
    let counted : c.unit_of-unit.result ≡ unit_of end = c.unit_of-unit.ensures.unit ∙ ap (λ e. unit_of e) c.end-end.ensures in
    distance_fits end c.unit_of-unit.result c.loop-start.from c.loop-start-item.result.0 (writable_said c.args.profile.now c.requires).0 counted (omega (arith, before))

pub loop-start-preserved : goal.loop-start-preserved
loop-start-preserved g c =
    let levels = g.V.Level.levels in
    let layout = g.V.Encoded.layout in
    let end = c.args.profile.now.end in
    let unit = unit_of end in
    let from = c.loop-start.from in
    let bits = c.loop-start.bits in
    let later = take (length c.steps-steps.result.now - 1) (drop 1 c.steps-steps.result.now) in
    let i = c.loop-start.start-index in
    let step = c.loop-start-item.result in
    let counted : c.unit_of-unit.result ≡ unit = c.unit_of-unit.ensures.unit ∙ ap (λ e. unit_of e) c.end-end.ensures in
    let parts = elements-at layout end unit from later i step c.loop-start-test.true c.loop-start-item.is in
    record {
      rest = (rest_at levels end from later i step c.loop-start-test.true c.loop-start-item.is c.loop-start.invariant.rest).1;
      fields =
          first_written bits c.put_step.new.bits _ ((layout.distance, (step.0 - from) / unit) ∷ layout.value_fields step.1)
          (elements layout unit end step.0 (drop (i + 1) later))
          (ap (λ fields. bits ++ bits_of_fields fields) (sym parts) ∙ c.loop-start.invariant.fields)
          (c.in_ok-put_step.ensures ∙ ap (λ u. bits ++ bits_of_fields ((layout.distance, (step.0 - from) / u) ∷ layout.value_fields step.1)) counted);
    }

pub put_end-requires-send-V : goal.put_end-requires-send-V
put_end-requires-send-V g c κs within = c.type_bounds.send-V

pub put_end-requires-sync-V : goal.put_end-requires-sync-V
put_end-requires-sync-V g c κs within = c.type_bounds.sync-V

pub put_end-requires-after_bounds : goal.put_end-requires-after_bounds
put_end-requires-after_bounds g c κs within =
    let end = c.args.profile.now.end in
    let counted : c.unit_of-unit.result ≡ unit_of end = c.unit_of-unit.ensures.unit ∙ ap (λ e. unit_of e) c.end-end.ensures in
    subst (λ e. (e - c.loop-start.from) / c.unit_of-unit.result < 2 ^ 15) (sym c.end-end.ensures)
    (distance_fits end c.unit_of-unit.result c.loop-start.from end (writable_said c.args.profile.now c.requires).0 counted (omega arith))

pub returns : goal.returns
returns g c =
    let layout = g.V.Encoded.layout in
    let end = c.args.profile.now.end in
    let unit = unit_of end in
    let from = c.loop-start.from in
    let bits = c.loop-start.bits in
    let later = take (length c.steps-steps.result.now - 1) (drop 1 c.steps-steps.result.now) in
    let counted : c.unit_of-unit.result ≡ unit = c.unit_of-unit.ensures.unit ∙ ap (λ e. unit_of e) c.end-end.ensures in
    let parts = elements-end layout end unit from later c.loop-start.start-index c.loop-start-test.false in
    let packet = g.V.Encoded.packet c.args.nominal end c.args.profile.now.steps in
    let last : bits ++ bits_of_fields ((layout.distance, (c.end-end.result - from) / c.unit_of-unit.result) ∷ layout.mark_fields) ≡ c.args.bits.now ++ bits_of_fields packet =
    ap₂ (λ e u. bits ++ bits_of_fields ((layout.distance, (e - from) / u) ∷ layout.mark_fields)) c.end-end.ensures counted
    ∙ ap (λ fields. bits ++ bits_of_fields fields) (sym parts) ∙ c.loop-start.invariant.fields in
    subst (λ (all : List Bool). OnOk c.put_end.result (c.put_end.new.bits ≡ all)) last c.put_end.ensures
