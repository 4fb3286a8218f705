use Rattle.std.proofs.Common.{◌≡◌, ℕ, List, Bool, [], ◌∷◌, ◌++◌, OnOk, ap, ◌∙◌, subst}
use Rattle.rbc_model.specs.declared.messages.FieldName.{FieldName}
use Rattle.rbc_model.specs.declared.messages.FieldName.TheVariants.{NID_PACKET, Q_DIR, L_PACKET, Q_SCALE, N_ITER}
use Rattle.rbc_packet.specs.Fields.{bits_of_fields}
use Rattle.rbc_packet.proofs.RowLemmas.{written_on}
use Rattle.rbc_packet.proofs.profile.put_head.Goals as goal

-- what stands before the first distance
abbrev start : ℕ → ℕ → ℕ → ℕ → List (FieldName × ℕ)
start number bits direction scale = (NID_PACKET, number) ∷ (Q_DIR, direction) ∷ (L_PACKET, bits) ∷ (Q_SCALE, scale) ∷ []

same_start : (number n bits b direction scale : ℕ) → number ≡ n → bits ≡ b → start number bits direction scale ≡ start n b direction scale
same_start number n bits b direction scale same_number same_bits = cc

pub returns : goal.returns
returns g c =
    let layout = g.V.Encoded.layout in
    let bits = c.args.bits.now in
    let head = c.args.head.now in
    let steps = head.steps in
    let first = start layout.number (layout.bits steps) head.direction head.scale in
    let value = (layout.distance, 0) ∷ layout.value_fields c.args.first in
    let begun : c.put_fields.new.bits ≡ bits ++ bits_of_fields first =
    c.in_ok-put_fields.ensures ∙ ap (λ fields. bits ++ bits_of_fields fields)
    (same_start c.number.result layout.number c.packet_bits.result (layout.bits steps) head.direction head.scale c.number.ensures.number c.packet_bits.ensures.bits) in
    let placed : c.put_value.new.bits ≡ c.put_fields.new.bits ++ bits_of_fields value =
    c.in_ok-put_value.ensures ∙ ap (λ name. c.put_fields.new.bits ++ bits_of_fields ((name, 0) ∷ layout.value_fields c.args.first)) c.distance.ensures in
    let told : c.put_value.new.bits ≡ bits ++ bits_of_fields (first ++ value) = placed ∙ written_on bits c.put_fields.new.bits first value begun in
    subst (λ (all : List Bool). OnOk c.put_fields-2.result (c.put_fields-2.new.bits ≡ all))
    (written_on bits c.put_value.new.bits (first ++ value) ((N_ITER, steps) ∷ []) told) c.put_fields-2.ensures
