-- The rows of fields that a message is made of.
use Rattle.std.specs.Prelude.{ℕ, List, [], ◌∷◌}
use Rattle.rbc_model.specs.declared.limits.TheConstants.{AUTHORITY_PACKET, GRADIENT_PACKET, SPEED_PACKET}
use Rattle.rbc_model.specs.declared.messages.FieldName.{FieldName}
use Rattle.rbc_model.specs.declared.messages.FieldName.TheVariants.{NID_MESSAGE, L_MESSAGE, T_TRAIN, M_ACK, NID_C, NID_BG, NID_PACKET, Q_DIR, L_PACKET, Q_SCALE, V_LOA, T_LOA, N_ITER, L_ENDSECTION, Q_SECTIONTIMER, Q_ENDTIMER, Q_DANGERPOINT, Q_OVERLAP, D_GRADIENT, Q_GDIR, G_A, D_STATIC, V_STATIC, Q_FRONT}
use Rattle.rbc_decode.specs.declared.row.Row.{Row}
use Rattle.rbc_decode.specs.declared.row.Row.TheVariants.{Header, Authority, GradientHead, GradientStep, GradientEnd, SpeedHead, SpeedStep, SpeedEnd}

-- the names of the row's fields, in their order
abbrev pub names_in : Row → List FieldName
names_in Header = NID_MESSAGE ∷ L_MESSAGE ∷ T_TRAIN ∷ M_ACK ∷ NID_C ∷ NID_BG ∷ []
names_in Authority =
    NID_PACKET ∷ Q_DIR ∷ L_PACKET ∷ Q_SCALE ∷ V_LOA ∷ T_LOA ∷ N_ITER ∷ L_ENDSECTION ∷ Q_SECTIONTIMER ∷ Q_ENDTIMER ∷ Q_DANGERPOINT ∷ Q_OVERLAP ∷ []
names_in GradientHead = NID_PACKET ∷ Q_DIR ∷ L_PACKET ∷ Q_SCALE ∷ D_GRADIENT ∷ Q_GDIR ∷ G_A ∷ N_ITER ∷ []
names_in GradientStep = D_GRADIENT ∷ Q_GDIR ∷ G_A ∷ []
names_in GradientEnd = D_GRADIENT ∷ Q_GDIR ∷ G_A ∷ []
names_in SpeedHead = NID_PACKET ∷ Q_DIR ∷ L_PACKET ∷ Q_SCALE ∷ D_STATIC ∷ V_STATIC ∷ Q_FRONT ∷ N_ITER ∷ N_ITER ∷ []
names_in SpeedStep = D_STATIC ∷ V_STATIC ∷ Q_FRONT ∷ N_ITER ∷ []
names_in SpeedEnd = D_STATIC ∷ V_STATIC ∷ Q_FRONT ∷ N_ITER ∷ []

-- the number of the packet that the row belongs to
abbrev pub packet_number : Row → ℕ
packet_number Header = AUTHORITY_PACKET
packet_number Authority = AUTHORITY_PACKET
packet_number GradientHead = GRADIENT_PACKET
packet_number GradientStep = GRADIENT_PACKET
packet_number GradientEnd = GRADIENT_PACKET
packet_number SpeedHead = SPEED_PACKET
packet_number SpeedStep = SPEED_PACKET
packet_number SpeedEnd = SPEED_PACKET
