-- The end of an authority, as a message counts it: in ones up to 32,000 m, and in tens beyond.
use Rattle.std.proofs.Common.{◌≡◌, ℕ, ◌*◌, ◌/◌, ◌%◌, ◌<◌, ◌≤◌, ◌^◌, true, false, ◌&&◌, ◌⊎◌, inl, inr, refl, arith, subst, sym, nat_le, ◌==◌, lit<, one-mul}
use Rattle.std.proofs.lemmas.Bool.{leb-true, le-leb, eqb-true, eq-eqb, or_cases, lt-leb}
use Rattle.rbc_model.specs.declared.places.Format.{Format}
use Rattle.rbc_model.specs.declared.places.Format.TheVariants.{Near, Far}
use Rattle.rbc_model.specs.Results.{is_from_to}
use Rattle.rbc_model.specs.Scales.{is_expressible, unit_of, scale_of, last_scale, unit_of_scale, is_end_at}
use Rattle.rbc_model.proofs.CountingLemmas.{both_of}
use Rattle.rbc_model.proofs.SpellingLemmas.{within}

-- the message counts the end as `count` units of this scale
pub record IsFrame (format : Format) (end scale count : ℕ) : Type 0 where
  pub scale_is : scale_of end ≡ scale
  pub count_is : end / unit_of end ≡ count
  pub unit_is : unit_of_scale scale ≡ unit_of end
  pub ones_or_tens : (unit_of end ≡ 1) ⊎ (unit_of end ≡ 10)
  pub end_is : unit_of end * count ≡ end
  pub scale_allowed : is_from_to 1 (last_scale format) scale ≡ true
  pub count_allowed : is_end_at scale count ≡ true
  pub some : 1 ≤ count
  pub scale_fits : scale < 2 ^ 2
  pub count_fits : count < 2 ^ 15
  pub expressible : is_expressible format end ≡ true

pub limits_of : (low high v : ℕ) → is_from_to low high v ≡ true → (low ≤ v) × (v ≤ high)
limits_of low high v h = let b = both_of (nat_le low v) (nat_le v high) h in (leb-true low v b.0, leb-true v high b.1)

-- ---- the two scales

in_ones : (format : Format) (end : ℕ) → is_from_to 1 32000 end ≡ true → IsFrame format end 1 end
in_ones format end h =
    let l = limits_of 1 32000 end h in
    let short : nat_le end 32000 ≡ true = le-leb end 32000 l.1 in
    record {
      scale_is = rw short refl;
      count_is = rw short (omega arith);
      unit_is = rw short refl;
      ones_or_tens = inl (rw short refl);
      end_is = rw short (omega arith);
      scale_allowed = first_scale format;
      count_allowed = rw h refl;
      some = l.0;
      scale_fits = lit< tt;
      count_fits = omega (arith, l.1);
      expressible = near format;
    }
  where
    first_scale : (format : Format) → is_from_to 1 (last_scale format) 1 ≡ true
    first_scale Near = refl
    first_scale Far = refl

    near : (format : Format) → is_expressible format end ≡ true
    near Near = h
    near Far = rw h refl

in_tens : (end count : ℕ) → 3201 ≤ count → count ≤ 8000 → end ≡ 10 * count → IsFrame Far end 2 count
in_tens end count low high e =
    let long : nat_le end 32000 ≡ false = lt-leb end 32000 (omega arith) in
    record {
      scale_is = rw long refl;
      count_is = rw long (omega arith);
      unit_is = rw long refl;
      ones_or_tens = inr (rw long refl);
      end_is = rw long (omega arith);
      scale_allowed = refl;
      count_allowed = within 3201 8000 count low high;
      some = omega arith;
      scale_fits = lit< tt;
      count_fits = omega arith;
      expressible = cc (le-leb 1 end (omega arith), long, within 32010 80000 end (omega arith) (omega arith), eq-eqb (end % 10) 0 (omega arith));
    }

-- ---- the frame of an end that the message can express

as_said : {format : Format} {end scale count : ℕ} → IsFrame format end scale count → IsFrame format end (scale_of end) (end / unit_of end)
as_said {format} {end} {scale} {count} f = subst (λ c. IsFrame format end (scale_of end) c) (sym f.count_is) (subst (λ s. IsFrame format end s count) (sym f.scale_is) f)

pub frame_of_end : (format : Format) (end : ℕ) → is_expressible format end ≡ true → IsFrame format end (scale_of end) (end / unit_of end)
frame_of_end Near end h = as_said (in_ones Near end h)
frame_of_end Far end h =
    elim (or_cases (is_from_to 1 32000 end) (is_from_to 32010 80000 end && (end % 10 == 0)) h) [
      | inl near ↦ as_said (in_ones Far end near)
      | inr far ↦
          let parts = both_of (is_from_to 32010 80000 end) (end % 10 == 0) far in
          let l = limits_of 32010 80000 end parts.0 in
          let whole : end % 10 ≡ 0 = eqb-true (end % 10) 0 parts.1 in
          as_said (in_tens end (end / 10) (omega arith) (omega arith) (omega arith))
    ]

-- ---- the frame that was read

in_its_scale : (format : Format) (scale : ℕ) → scale ≡ 2 → is_from_to 1 (last_scale format) scale ≡ true → (count : ℕ) → is_from_to 3201 8000 count ≡ true → IsFrame format (10 * count) 2 count
in_its_scale Near scale e h count k = let l = limits_of 1 1 scale h in absurd (omega arith)
in_its_scale Far scale e h count k = let l = limits_of 3201 8000 count k in in_tens (10 * count) count l.0 l.1 refl

pub frame_read : (format : Format) (scale count : ℕ) → is_from_to 1 (last_scale format) scale ≡ true → is_end_at scale count ≡ true → IsFrame format (unit_of_scale scale * count) scale count
frame_read format scale count h k =
    elim (or_cases (scale == 1 && is_from_to 1 32000 count) (scale == 2 && is_from_to 3201 8000 count) k) [
      | inl near ↦
          let parts = both_of (scale == 1) (is_from_to 1 32000 count) near in
          subst (λ s. IsFrame format (unit_of_scale s * count) s count) (sym (eqb-true scale 1 parts.0)) (subst (λ end. IsFrame format end 1 count) (sym (one-mul count)) (in_ones format count parts.1))
      | inr far ↦
          let parts = both_of (scale == 2) (is_from_to 3201 8000 count) far in
          let two : scale ≡ 2 = eqb-true scale 2 parts.0 in
          subst (λ s. IsFrame format (unit_of_scale s * count) s count) (sym two) (in_its_scale format scale two h count parts.1)
    ]
