use Rattle.std.proofs.Common.{◌≡◌, ◌/◌, ◌++◌, List, Bool, OnOk, ap, subst}
use Rattle.rbc_model.specs.Messages.{direction_of, packet_15}
use Rattle.rbc_model.specs.Scales.{unit_of, scale_of}
use Rattle.rbc_packet.specs.Fields.{bits_of_fields}
use Rattle.rbc_packet.proofs.EndLemmas.{end_packet, packet_15-fits, same_packet}
use Rattle.rbc_packet.proofs.packet_15.put_packet_15.Goals as goal

pub put_fields-requires : goal.put_fields-requires
put_fields-requires c =
    packet_15-fits c.args.nominal c.args.end c.direction_of.result c.scale_of.result c.unit_of.result c.requires
    c.direction_of.ensures.direction c.scale_of.ensures.scale c.unit_of.ensures.unit

pub returns : goal.returns
returns c =
    let bits = c.args.bits.now in
    let end = c.args.end in
    let told : bits ++ bits_of_fields (end_packet c.direction_of.result c.scale_of.result (end / c.unit_of.result)) ≡ bits ++ bits_of_fields (packet_15 c.args.nominal end) =
    ap (λ fields. bits ++ bits_of_fields fields)
    (same_packet c.direction_of.result (direction_of c.args.nominal) c.scale_of.result (scale_of end) end c.unit_of.result (unit_of end)
    c.direction_of.ensures.direction c.scale_of.ensures.scale c.unit_of.ensures.unit) in
    subst (λ (all : List Bool). OnOk c.put_fields.result (c.put_fields.new.bits ≡ all)) told c.put_fields.ensures
