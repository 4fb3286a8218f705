-- The packet that tells where an authority ends, and how far its steps lie apart.
use Rattle.std.proofs.Common.{◌≡◌, ℕ, ◌+◌, ◌-◌, ◌*◌, ◌/◌, ◌^◌, ◌<◌, ◌≤◌, ◌⊎◌, inl, inr, Bool, true, List, [], ◌∷◌, All, arith, subst, sym, lit<}
use Rattle.std.proofs.lemmas.List.Elements.{All-from_recursion}
use Rattle.rbc_model.specs.declared.limits.TheConstants.{AUTHORITY_PACKET, AUTHORITY_BITS, NO_TIME_OUT}
use Rattle.rbc_model.specs.declared.places.Format.TheVariants.{Far}
use Rattle.rbc_model.specs.declared.messages.FieldName.{FieldName}
use Rattle.rbc_model.specs.declared.messages.FieldName.TheVariants.{NID_PACKET, Q_DIR, L_PACKET, Q_SCALE, V_LOA, T_LOA, N_ITER, L_ENDSECTION, Q_SECTIONTIMER, Q_ENDTIMER, Q_DANGERPOINT, Q_OVERLAP}
use Rattle.rbc_model.specs.Messages.{width_of, direction_of}
use Rattle.rbc_model.specs.Scales.{is_expressible, unit_of, scale_of}
use Rattle.rbc_model.proofs.FrameLemmas.{frame_of_end}
use Rattle.rbc_model.proofs.ScaleLemmas.{one_or_ten}
use Rattle.rbc_model.proofs.MessageWrittenLemmas.{direction_fits}

-- the packet of this direction and scale, of an end after `count` units
abbrev pub end_packet : ℕ → ℕ → ℕ → List (FieldName × ℕ)
end_packet direction scale count =
    (NID_PACKET, AUTHORITY_PACKET)
    ∷ (Q_DIR, direction)
    ∷ (L_PACKET, AUTHORITY_BITS)
    ∷ (Q_SCALE, scale)
    ∷ (V_LOA, 0)
    ∷ (T_LOA, NO_TIME_OUT)
    ∷ (N_ITER, 0)
    ∷ (L_ENDSECTION, count)
    ∷ (Q_SECTIONTIMER, 0)
    ∷ (Q_ENDTIMER, 0)
    ∷ (Q_DANGERPOINT, 0)
    ∷ (Q_OVERLAP, 0)
    ∷ []

-- the value fits the field
abbrev pub Fits : FieldName × ℕ → Type 0
Fits field = field.1 < 2 ^ width_of field.0

end_packet-fits : (direction scale count : ℕ) → direction < 2 ^ 2 → scale < 2 ^ 2 → count < 2 ^ 15 → All Fits (end_packet direction scale count)
end_packet-fits direction scale count way kind low =
    let small : 0 < 2 = lit< tt in
    All-from_recursion Fits (end_packet direction scale count) (lit< tt, (way, (lit< tt, (kind, (lit< tt, (lit< tt, (lit< tt, (low, (small, (small, (small, (small, tt))))))))))))

-- the numbers are the direction's, and the end's scale and count
pub packet_15-fits : (nominal : Bool) (end direction scale unit : ℕ) → is_expressible Far end ≡ true → direction ≡ direction_of nominal → scale ≡ scale_of end → unit ≡ unit_of end
    → All Fits (end_packet direction scale (end / unit))
packet_15-fits nominal end direction scale unit e way kind counted =
    let frame = frame_of_end Far end e in
    end_packet-fits direction scale (end / unit)
    (subst (λ n. n < 2 ^ 2) (sym way) (direction_fits nominal))
    (subst (λ n. n < 2 ^ 2) (sym kind) frame.scale_fits)
    (subst (λ n. end / n < 2 ^ 15) (sym counted) frame.count_fits)

pub same_packet : (d direction s scale end u unit : ℕ) → d ≡ direction → s ≡ scale → u ≡ unit → end_packet d s (end / u) ≡ end_packet direction scale (end / unit)
same_packet d direction s scale end u unit way kind counted = cc (way, kind, counted)

-- ---- distances

abbrev Between : ℕ → Type 0
Between unit = (end from x : ℕ) → x ≤ end → end / unit < 2 ^ 15 → (x - from) / unit < 2 ^ 15

between_ones : Between 1
between_ones end from x low fits = omega arith

between_tens : Between 10
between_tens end from x low fits = omega arith

-- what holds in ones and in tens holds in the units of an end
in_units : (Holds : ℕ → Type 0) (end : ℕ) → Holds 1 → Holds 10 → Holds (unit_of end)
in_units Holds end ones tens = elim (one_or_ten end) [ inl e ↦ subst Holds (sym e) ones | inr e ↦ subst Holds (sym e) tens ]

-- a distance up to the end fits its field
pub distance_fits : (end unit from x : ℕ) → is_expressible Far end ≡ true → unit ≡ unit_of end → x ≤ end → (x - from) / unit < 2 ^ 15
distance_fits end unit from x e counted low =
    let frame = frame_of_end Far end e in
    subst (λ u. (x - from) / u < 2 ^ 15) (sym counted) (in_units Between end between_ones between_tens end from x low frame.count_fits)

abbrev Before : ℕ → Type 0
Before unit = (end from : ℕ) → from < end / unit → unit * from < end

before_in_ones : Before 1
before_in_ones end from before = omega arith

before_in_tens : Before 10
before_in_tens end from before = omega arith

-- a step before the end in units stands before it in metres
pub before_end : (end from : ℕ) → from < end / unit_of end → unit_of end * from < end
before_end end from before = in_units Before end before_in_ones before_in_tens end from before

abbrev Farther : ℕ → Type 0
Farther unit = (from distance : ℕ) → 1 ≤ distance → unit * from < unit * (from + distance)

farther_by_ones : Farther 1
farther_by_ones from distance apart = omega arith

farther_by_tens : Farther 10
farther_by_tens from distance apart = omega arith

-- a step after another
pub farther : (unit from distance : ℕ) → (unit ≡ 1) ⊎ (unit ≡ 10) → 1 ≤ distance → unit * from < unit * (from + distance)
farther unit from distance ones apart = all from distance apart
  where
    all : Farther unit
    all = elim ones [ inl e ↦ subst Farther (sym e) farther_by_ones | inr e ↦ subst Farther (sym e) farther_by_tens ]
