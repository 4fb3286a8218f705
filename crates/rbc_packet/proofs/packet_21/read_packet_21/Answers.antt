use Rattle.rbc_model.specs.Messages.{direction_of}
use Rattle.rbc_model.specs.Reading.{packet_21_at}
use Rattle.rbc_packet.specs.Frames.{frame_view}
use Rattle.rbc_packet.specs.Layouts.{profile_at, gradient_layout}
use Rattle.rbc_packet.proofs.PacketLemmas.{packet_21-is, read_on}
use Rattle.rbc_packet.proofs.packet_21.read_packet_21.Goals as goal

pub returns : goal.returns
returns c =
    let frame = c.args.frame.now in
    let direction = direction_of frame.nominal in
    read_on (packet_21_at (frame_view frame)) (profile_at gradient_layout direction frame.end) frame.end c.args.bits.now c.args.bits.now c.read_profile.new.bits c.read_profile.result (packet_21-is direction frame.end c.args.bits.now) c.read_profile.ensures
