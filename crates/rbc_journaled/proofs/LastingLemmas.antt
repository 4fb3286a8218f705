-- Lemmas on what a crash leaves since a stamp.
use Rattle.std.proofs.Common.{◌≡◌, ℕ, ◌+◌, List, subst, arith, Some}
use Rattle.std.specs.Prelude.{slice_get}
use mathlib.Core.List.{IsPrefix}
use Rattle.rbc_sessions.specs.Later.{IsLater}
use Rattle.rbc_sessions.specs.Records.{HistoryOnTrack}
use Rattle.rbc_group_commit.specs.Marks.{HasLine}
use Rattle.rbc_group_commit.specs.Stamps.{EachLasts}
use Rattle.rbc_group_commit.specs.declared.stamp.Stamp.{Stamp}
use Rattle.rbc_group_commit.proofs.FileLemmas.{front_get}
use Rattle.rbc_journaled.specs.Entries.{TellsEntry}
use Rattle.rbc_journaled.specs.Lasting.{EachLeavesFirst, LinesLast}
use Rattle.rbc_journaled.proofs.LaterLemmas.{tells_later, tells_first}

-- what a committer has kept it has kept with more stamps
pub has_still : (first more : List Stamp) (place : ℕ) → IsPrefix first more → HasLine first place → HasLine more place
has_still first more place p has = record {
  at = has.at;
  stamp = has.stamp;
  given = subst (λ (l : List Stamp). slice_get l has.at ≡ Some has.stamp) p.1 (front_get first p.0 has.at has.stamp has.given);
  more = has.more;
}

module _ {D : Type 0} (moment : D → ℕ) (left_since : D → ℕ → List ℕ → Type 0) where
  -- what lasts by what was told lasts by what was told last
  pub leaves_first : (told last : HistoryOnTrack) (device : D) (stamps : List Stamp) → IsLater told last
      → EachLasts moment left_since (TellsEntry told) device stamps → EachLeavesFirst moment left_since last device stamps
  leaves_first told last device stamps later each = record {
    each = λ at stamp here.
        let lasts = each at stamp here in
        record {
          past = lasts.past;
          leaves = λ file left.
              let has = lasts.leaves file left in
              tells_first last stamp.lines file (record { enough = has.enough; told = λ place line is. tells_later told last later place line (has.told place line is) });
        };
  }

  pub lines_last : LinesLast moment left_since
  lines_last history record_now device stamps each later place at stamp here less file left =
      let lasts = each.each at stamp here in
      let first = lasts.leaves file left in
      let enough = first.enough in
      tells_first record_now (place + 1) file (record {
        enough = omega (arith, enough, less);
        told = λ k line is. tells_later history record_now later k line (first.each k line is);
      })
