-- The legs that a line keeps ahead.
use Rattle.std.proofs.Common.{◌≡◌, ℕ, zero, suc, ◌+◌, ◌<◌, ◌≤◌, max, [], ◌∷◌, ◌++◌, length, take, drop, Option, Some, None, sym, arith, append-nil}
use Rattle.std.specs.Option.{option_map_or}
use Rattle.std.specs.List.{position_or_len}
use Rattle.std.proofs.lemmas.List.{take-append-drop}
use Rattle.rbc_model.specs.Reports.{Report}
use Rattle.rbc_model.specs.declared.tracks.BaliseGroup.{BaliseGroup}
use Rattle.rbc_model.specs.Tracks.{Track, leg_eq, group_named}
use Rattle.rbc_model.specs.Lines.{Line, line_length, legs_begun_before}
use Rattle.rbc_model.specs.Placing.{through, leg_told}
use Rattle.rbc_scene_laws.proofs.ReachingLemmas.{begun_reach, line_length-take_more}

-- a part of the line that has a leg, and all metres before the place
pub record IsThrough (track : Track) (place : ℕ) (line kept : Line) : Type 0 where
  pub rest : Line
  pub is : line ≡ kept ++ rest
  pub some_leg : 0 < length line → 0 < length kept
  pub reaches : place ≤ line_length track line → place ≤ line_length track kept

some_taken : (k : ℕ) (line : Line) → 1 ≤ k → 0 < length line → 0 < length (take k line)
some_taken zero line h some = absurd (omega arith)
some_taken (suc k) [] h some = absurd (omega arith)
some_taken (suc k) (leg ∷ line) h some = omega arith

kept_legs : (track : Track) (place k : ℕ) (line : Line) → 1 ≤ k → legs_begun_before track place line ≤ k → IsThrough track place line (take k line)
kept_legs track place k line some begun = record {
  rest = drop k line;
  is = sym (take-append-drop k line);
  some_leg = some_taken k line some;
  reaches = λ on. let reach = begun_reach track place line on in let more = line_length-take_more track (legs_begun_before track place line) k line begun in omega arith;
}

pub is_through : (track : Track) (report : Report) (place : ℕ) (line : Line) → IsThrough track place line (through track report place line)
is_through track report place line = by_group (group_named track report.group)
  where
    by_group : (o : Option BaliseGroup) → IsThrough track place line (option_map_or (λ (group : BaliseGroup). take (max (position_or_len (leg_eq (leg_told group report)) line + 1) (legs_begun_before track place line)) line) o line)
    by_group None = record { rest = []; is = sym (append-nil line); some_leg = λ some. some; reaches = λ on. on }
    by_group (Some group) =
        kept_legs track place (max (position_or_len (leg_eq (leg_told group report)) line + 1) (legs_begun_before track place line)) line (omega arith) (omega arith)
