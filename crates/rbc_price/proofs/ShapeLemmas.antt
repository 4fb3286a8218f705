-- The shape of a table: what it says, test by test.
use Rattle.std.proofs.Common.{◌≡◌, ℕ, ◌%◌, ◌≤◌, List, length, Bool, true, ◌&&◌, ◌==◌, nat_le, min}
use Rattle.std.specs.List.{list_all}
use Rattle.std.proofs.lemmas.Bool.{eqb-true, eq-eqb, le-leb, leb-true, and_from}
use Rattle.rbc_model.specs.declared.limits.TheConstants.{MOST_STEPS}
use Rattle.rbc_model.specs.Results.{is_from_to}
use Rattle.rbc_model.specs.Levels.{Levels}
use Rattle.rbc_model.specs.Profiles.{StepFunction, starts_of, are_multiples}
use Rattle.rbc_model.specs.Scales.{unit_of}
use Rattle.rbc_model.specs.PriceChecks.{has_shape}
use Rattle.rbc_model.proofs.CountingLemmas.{both_of}
use Rattle.rbc_price.specs.Columns.{stretches_of}

module _ {V : Type 0} (levels : Levels V) (limit : ℕ) (track profile : StepFunction V) (rows : List (List ℕ)) where
  pub record IsShaped : Type 0 where
    pub some : 1 ≤ limit
    pub few : limit ≤ MOST_STEPS
    pub end : track.end ≡ profile.end
    pub whole : track.end % unit_of track.end ≡ 0
    pub in_units : are_multiples (unit_of track.end) (starts_of profile.steps) ≡ true
    pub count : length rows ≡ min limit (stretches_of track)
    pub wide : list_all (λ row. length row == stretches_of track) rows ≡ true

  abbrev ends : Bool
  ends = is_from_to 1 MOST_STEPS limit && (track.end == profile.end)

  abbrev units : Bool
  units = ends && (track.end % unit_of track.end == 0) && are_multiples (unit_of track.end) (starts_of profile.steps)

  pub shaped : has_shape levels limit track profile rows ≡ true → IsShaped
  shaped e =
      let wide = both_of (units && (length rows == min limit (stretches_of track))) (list_all (λ row. length row == stretches_of track) rows) e in
      let count = both_of units (length rows == min limit (stretches_of track)) wide.0 in
      let in_units = both_of (ends && (track.end % unit_of track.end == 0)) (are_multiples (unit_of track.end) (starts_of profile.steps)) count.0 in
      let whole = both_of ends (track.end % unit_of track.end == 0) in_units.0 in
      let end = both_of (is_from_to 1 MOST_STEPS limit) (track.end == profile.end) whole.0 in
      let limits = both_of (nat_le 1 limit) (nat_le limit MOST_STEPS) end.0 in
      record {
        some = leb-true 1 limit limits.0;
        few = leb-true limit MOST_STEPS limits.1;
        end = eqb-true track.end profile.end end.1;
        whole = eqb-true (track.end % unit_of track.end) 0 whole.1;
        in_units = in_units.1;
        count = eqb-true (length rows) (min limit (stretches_of track)) count.1;
        wide = wide.1;
      }

  pub has_shape_of : IsShaped → has_shape levels limit track profile rows ≡ true
  has_shape_of s =
      let limits = and_from (nat_le 1 limit) (nat_le limit MOST_STEPS) (le-leb 1 limit s.some) (le-leb limit MOST_STEPS s.few) in
      let end = and_from (is_from_to 1 MOST_STEPS limit) (track.end == profile.end) limits (eq-eqb track.end profile.end s.end) in
      let whole = and_from ends (track.end % unit_of track.end == 0) end (eq-eqb (track.end % unit_of track.end) 0 s.whole) in
      let in_units = and_from (ends && (track.end % unit_of track.end == 0)) (are_multiples (unit_of track.end) (starts_of profile.steps)) whole s.in_units in
      let count = and_from units (length rows == min limit (stretches_of track)) in_units (eq-eqb (length rows) (min limit (stretches_of track)) s.count) in
      and_from (units && (length rows == min limit (stretches_of track))) (list_all (λ row. length row == stretches_of track) rows) count s.wide
