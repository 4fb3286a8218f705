use Rattle.std.proofs.Common.{◌-◌, ◌/◌, ◌==◌, ap, sym, ◌∙◌}
use Rattle.rbc_model.specs.Messages.{direction_of}
use Rattle.rbc_model.specs.declared.messages.Fault.TheVariants.{Length}
use Rattle.rbc_model.specs.declared.messages.FieldName.TheVariants.{NID_PACKET, Q_DIR, Q_SCALE}
use Rattle.rbc_model.specs.Readers.{fixed_field, expect}
use Rattle.rbc_model.specs.Scales.{unit_of}
use Rattle.rbc_packet.specs.Layouts.{profile_at, steps_at}
use Rattle.rbc_packet.proofs.PacketLemmas.{read_head, read_on}
use Rattle.rbc_packet.proofs.profile.read_profile.Goals as goal

pub read_steps-requires-send-V : goal.read_steps-requires-send-V
read_steps-requires-send-V g c κs within = c.type_bounds.send-V

pub read_steps-requires-sync-V : goal.read_steps-requires-sync-V
read_steps-requires-sync-V g c κs within = c.type_bounds.sync-V

pub returns : goal.returns
returns g c =
    let frame = c.args.frame.now in
    let layout = g.V.Encoded.layout in
    let direction = direction_of frame.nominal in
    let first = c.in_ok-first.first in
    let count = c.in_ok-count.count in
    let later = c.positive_field.new.bits in
    let number = ap (λ n. fixed_field NID_PACKET n c.args.bits.now) (sym c.number.ensures.number) ∙ c.in_ok-fixed_field.ensures.read in
    let way = ap (λ n. fixed_field Q_DIR n c.fixed_field.new.bits) (sym c.direction_of.ensures.direction) ∙ c.in_ok-fixed_field-2.ensures.read in
    let scale = ap (λ n. fixed_field Q_SCALE n c.any_field.new.bits) (sym c.scale_of.ensures.scale) ∙ c.in_ok-fixed_field-3.ensures.read in
    let start = ap (λ name. fixed_field name 0 c.fixed_field-3.new.bits) (sym c.distance.ensures) ∙ c.in_ok-fixed_field-4.ensures.read in
    let length = ap (λ n. expect (c.in_ok-said.said == n) Length later) (sym c.packet_bits.ensures.bits) ∙ c.in_ok-expect.ensures later in
    let read = read_head layout direction frame.end _ _ c.in_ok-said.said _ _ first count c.args.bits.now c.fixed_field.new.bits c.fixed_field-2.new.bits c.any_field.new.bits c.fixed_field-3.new.bits c.fixed_field-4.new.bits c.read_value.new.bits later number way c.in_ok-said.ensures.read scale start c.in_ok-first.ensures.reads c.in_ok-count.ensures.read length in
    read_on (profile_at layout direction frame.end) (steps_at layout (unit_of frame.end) (frame.end / unit_of frame.end) first (count - 1)) frame.end c.args.bits.now later c.read_steps.new.bits c.read_steps.result read c.read_steps.ensures
