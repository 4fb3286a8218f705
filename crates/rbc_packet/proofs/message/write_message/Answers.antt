use Rattle.std.proofs.Common.{◌≡◌, ◌++◌, ◌∙◌, ap, ap₂}
use Rattle.rbc_model.specs.Messages.{message_3, packet_15, packet_21, packet_27}
use Rattle.rbc_packet.specs.Fields.{bits_of_fields, header}
use Rattle.rbc_packet.proofs.RowLemmas.{bytes_written, more_written}
use Rattle.rbc_packet.proofs.message.write_message.Goals as goal

pub returns : goal.returns
returns c =
    let a = c.args.authority.now in
    let nominal = c.nominal-nominal.ensures in
    let headed : c.put_header.new.bits ≡ bits_of_fields (header a) = c.in_ok-put_header.ensures ∙ ap (λ bits. bits ++ bits_of_fields (header a)) c.in_ok-bits.ensures in
    let bits = c.put_header.new.bits in
    let ended : c.put_packet_15.new.bits ≡ bits_of_fields (header a ++ packet_15 a.nominal a.end) =
    more_written bits c.put_packet_15.new.bits (header a) (packet_15 a.nominal a.end) headed
    (c.in_ok-put_packet_15.ensures ∙ ap₂ (λ n e. bits ++ bits_of_fields (packet_15 n e)) nominal c.end.ensures) in
    let bits = c.put_packet_15.new.bits in
    let sloped : c.put_profile.new.bits ≡ bits_of_fields (header a ++ packet_15 a.nominal a.end ++ packet_21 a.nominal a.end a.grades) =
    more_written bits c.put_profile.new.bits (header a ++ packet_15 a.nominal a.end) (packet_21 a.nominal a.end a.grades) ended
    (c.in_ok-put_profile.ensures
    ∙ ap₂ (λ n e. bits ++ bits_of_fields (packet_21 n e c.grades.result.now.steps)) nominal c.grades.ensures.end
    ∙ ap (λ steps. bits ++ bits_of_fields (packet_21 a.nominal a.end steps)) c.grades.ensures.steps) in
    let bits = c.put_profile.new.bits in
    let written : c.put_profile-2.new.bits ≡ bits_of_fields (message_3 a) =
    more_written bits c.put_profile-2.new.bits (header a ++ packet_15 a.nominal a.end ++ packet_21 a.nominal a.end a.grades) (packet_27 a.nominal a.end a.speeds) sloped
    (c.in_ok-put_profile-2.ensures
    ∙ ap₂ (λ n e. bits ++ bits_of_fields (packet_27 n e c.speeds.result.now.steps)) nominal c.speeds.ensures.end
    ∙ ap (λ steps. bits ++ bits_of_fields (packet_27 a.nominal a.end steps)) c.speeds.ensures.steps) in
    c.finish.ensures ∙ bytes_written c.put_profile-2.new.bits (message_3 a) written
