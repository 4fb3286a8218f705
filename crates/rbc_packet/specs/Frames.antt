-- What the header and packet 15 tell, as their readers have it.
use Rattle.std.specs.Prelude.{◌/◌}
use Rattle.rbc_model.specs.Messages.{direction_of}
use Rattle.rbc_model.specs.Reading.{Frame, Header}
use Rattle.rbc_model.specs.Scales.{unit_of, scale_of}
use Rattle.rbc_packet.specs.declared.packet_15.Frame.{Frame as TrainFrame}
use Rattle.rbc_packet.specs.declared.header.Header.{Header as TrainHeader}

abbrev pub header_view : TrainHeader → Header
header_view header = record { time = header.time; group = header.group }

-- the message counts the end in its units
abbrev pub frame_view : TrainFrame → Frame
frame_view frame = record { direction = direction_of frame.nominal; scale = scale_of frame.end; end = frame.end / unit_of frame.end }
