use Rattle.std.proofs.Common.{length, refl, ap, sym, ◌∙◌}
use Rattle.rbc_model.specs.Bits.{byte_bits}
use Rattle.rbc_model.specs.Reading.{header_at}
use Rattle.rbc_packet.proofs.MessageLemmas.{AreRead, makes_theirs, tells_made}
use Rattle.rbc_packet.proofs.message.read_fields.Goals as goal
use Rattle.rbc_packet.proofs.message.read_fields.Goals.{After-new}

-- each part was read behind the one before it
read_here : (c : After-new)
    → AreRead c.in_ok-header.header c.in_ok-frame.frame c.in_ok-speeds.speeds c.in_ok-grades.grades (byte_bits c.args.bytes.now) c.read_header.new.bits c.read_packet_15.new.bits c.read_packet_21.new.bits c.read_packet_27.new.bits (length c.args.bytes.now)
read_here c = record {
  header_read = ap (λ bits. header_at (length c.args.bytes.now) bits) (sym c.new-bits.ensures) ∙ c.in_ok-header.ensures;
  frame_read = c.in_ok-frame.ensures.read;
  far = c.in_ok-frame.ensures.expressible;
  grades_read = c.in_ok-grades.ensures.0;
  grades_end = c.in_ok-grades.ensures.1;
  speeds_read = c.in_ok-speeds.ensures.0;
  speeds_end = c.in_ok-speeds.ensures.1;
  filling_read = c.in_ok-read_filling.ensures;
}

pub unwrap-requires : goal.unwrap-requires
unwrap-requires c =
    let are = read_here (goal.at.unwrap-requires c).After-new in
    rw (c.new.ensures ∙ makes_theirs c.in_ok-header.header c.in_ok-frame.frame c.in_ok-speeds.speeds c.in_ok-grades.grades (byte_bits c.args.bytes.now) c.read_header.new.bits c.read_packet_15.new.bits c.read_packet_21.new.bits c.read_packet_27.new.bits (length c.args.bytes.now) are) refl

pub returns : goal.returns
returns c =
    tells_made c.in_ok-header.header c.in_ok-frame.frame c.in_ok-speeds.speeds c.in_ok-grades.grades c.args.bytes.now c.read_header.new.bits c.read_packet_15.new.bits c.read_packet_21.new.bits c.read_packet_27.new.bits c.new.result c.unwrap.result
    (read_here (goal.at.returns c).After-new) c.new.ensures c.unwrap.ensures
