-- What a crash leaves of a history, since a stamp.
use Rattle.std.specs.Prelude.{◌≡◌, ◌<◌, ◌≤◌, ◌+◌, ℕ, List, slice_get, Some}
use Rattle.rbc_sessions.specs.Later.{IsLater}
use Rattle.rbc_sessions.specs.Records.{HistoryOnTrack}
use Rattle.rbc_group_commit.specs.declared.stamp.Stamp.{Stamp}
use Rattle.rbc_journaled.specs.Entries.{TellsFirst}

module _ {D : Type 0} (moment : D → ℕ) (left_since : D → ℕ → List ℕ → Type 0) where
  -- A crash at any moment since the stamp, during a call or between two, left a file that tells the first entries of this history: the stamp's lines at least.
  pub record LeavesFirst (history : HistoryOnTrack) (device : D) (stamp : Stamp) : Type 0 where
    pub past : stamp.moment ≤ moment device
    pub leaves : (file : List ℕ) → left_since device stamp.moment file → TellsFirst history stamp.lines file

  -- So it is since each of these stamps.
  pub record EachLeavesFirst (history : HistoryOnTrack) (device : D) (stamps : List Stamp) : Type 0 where
    pub each : (at : ℕ) (stamp : Stamp) → slice_get stamps at ≡ Some stamp → LeavesFirst history device stamp

  -- Of a record that goes on from the history: a crash at any moment since a stamp that has the line of this place left a file that tells the record's first
  -- entries, the one at this place among them.
  abbrev pub LinesLast : Type 0
  LinesLast =
      (history record_now : HistoryOnTrack) (device : D) (stamps : List Stamp) → EachLeavesFirst history device stamps → IsLater history record_now
      → (place at : ℕ) (stamp : Stamp) → slice_get stamps at ≡ Some stamp → place < stamp.lines
      → (file : List ℕ) → left_since device stamp.moment file → TellsFirst record_now (place + 1) file
