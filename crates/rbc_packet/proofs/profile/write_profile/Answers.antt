use Rattle.std.proofs.Common.{◌∙◌, ◌++◌, ap}
use Rattle.rbc_packet.specs.Fields.{bits_of_fields}
use Rattle.rbc_packet.proofs.RowLemmas.{bytes_written}
use Rattle.rbc_packet.proofs.profile.write_profile.Goals as goal

pub returns : goal.returns
returns g c =
    let packet = g.V.Encoded.packet c.args.nominal c.args.profile.now.end c.args.profile.now.steps in
    c.finish.ensures ∙ bytes_written c.put_profile.new.bits packet
    (c.in_ok-put_profile.ensures ∙ ap (λ bits. bits ++ bits_of_fields packet) c.in_ok-bits.ensures)

pub put_profile-requires-send-V : goal.put_profile-requires-send-V
put_profile-requires-send-V g c κs within = c.type_bounds.send-V

pub put_profile-requires-sync-V : goal.put_profile-requires-sync-V
put_profile-requires-sync-V g c κs within = c.type_bounds.sync-V
