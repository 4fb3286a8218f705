-- Where a report puts its train on a line, as it is computed.
use Rattle.std.specs.Prelude.{ℕ, ◌+◌, ◌&&◌, ◌==◌, Bool, nat_le, Option, option_and_then}
use Rattle.rbc_model.specs.Tracks.{Track, group_named}
use Rattle.rbc_model.specs.Scales.{farthest}
use Rattle.rbc_model.specs.Lines.{Line, place_of}
use Rattle.rbc_model.specs.Placing.{leg_told}
use Rattle.rbc_model.specs.Reports.{Report}

-- the place of the group, if the line has its section in the direction told
abbrev pub origin_told : Track → Line → Report → Option ℕ
origin_told track line report = option_and_then (λ group. place_of track line group (leg_told group report).direction) (group_named track report.group)

-- the extent is that of the report, and the front lies no farther from the group than an end may
abbrev pub is_extent_told : Track → Report → ℕ → ℕ → ℕ → Bool
is_extent_told track report origin rear front =
    front == origin + report.distance + report.under
    && rear + (report.over + report.length) == origin + report.distance
    && nat_le (report.distance + report.under) (farthest track.format)
