-- Whether the receipts of all seats are the history.
use Rattle.std.specs.Prelude.{◌≡◌, ℕ, ◌+◌, ◌<◌, ◌==◌, ◌⊎◌, Bool, true, false, List, [], ◌∷◌, ◌++◌, length, slice_index_or, Option, Some, None}
use Rattle.std.specs.List.{list_any, flat_map}
use Rattle.rbc_model.specs.Histories.{Entry, Receipt, IsAtPlace}
use Rattle.rbc_snap.specs.Records.{HistoryOnTrack}
use Rattle.rbc_snap.specs.Later.{IsLater}
use Rattle.rbc_desk.specs.Seats.{Seated}
use Rattle.rbc_desk.specs.declared.faults.CloseFault.{CloseFault}
use Rattle.rbc_desk.specs.declared.faults.CloseFault.TheVariants.{Missing, Unmatched}

-- the receipts of all seats, seat by seat
abbrev pub all_receipts : List Seated → List Receipt
all_receipts seats = flat_map (λ (seat : Seated). seat.receipts) seats

-- each of the receipts is at its place, where these came before
abbrev pub AreAtPlaces : List Entry → ℕ → List Receipt → List Receipt → Type 0
AreAtPlaces entries start earlier [] = Unit {0}
AreAtPlaces entries start earlier (receipt ∷ receipts) =
    IsAtPlace entries start earlier receipt × AreAtPlaces entries start (earlier ++ receipt ∷ []) receipts

-- the first of these receipts that is not at its place, where the earlier ones came before
abbrev pub IsFirstMisplaced : List Entry → ℕ → List Receipt → List Receipt → Receipt → Type 0
IsFirstMisplaced entries start earlier [] misplaced = ⊥
IsFirstMisplaced entries start earlier (receipt ∷ receipts) misplaced =
    ((receipt ≡ misplaced) × (IsAtPlace entries start earlier receipt → ⊥))
    ⊎ (IsAtPlace entries start earlier receipt × IsFirstMisplaced entries start (earlier ++ receipt ∷ []) receipts misplaced)

-- the marks tell which of the places from the start on these receipts have
abbrev pub AreMarked : ℕ → List Receipt → List Bool → Type 0
AreMarked start receipts marks =
    (i : ℕ) → i < length marks → slice_index_or marks i false ≡ list_any (λ receipt. receipt.place == start + i) receipts

-- the receipt is at its place, and marked; or it is not at its place
abbrev pub Finds : List Entry → ℕ → List Receipt → Receipt → List Bool → Bool → Type 0
Finds entries start earlier receipt marks true = IsAtPlace entries start earlier receipt × AreMarked start (earlier ++ receipt ∷ []) marks
Finds entries start earlier receipt marks false = IsAtPlace entries start earlier receipt → ⊥

-- each of the receipts is at its place, and marked; or this is the first that is not
abbrev pub FindsAll : List Entry → ℕ → List Receipt → List Receipt → List Bool → Option Receipt → Type 0
FindsAll entries start earlier receipts marks None = AreAtPlaces entries start earlier receipts × AreMarked start (earlier ++ receipts) marks
FindsAll entries start earlier receipts marks (Some misplaced) = IsFirstMisplaced entries start earlier receipts misplaced

-- A legal history that goes on from the one that the desk was opened with. It has as many entries more as the seats have receipts.
pub record GoesOn (opened : HistoryOnTrack) (receipts : List Receipt) (history : HistoryOnTrack) : Type 0 where
  pub later : IsLater opened history
  pub as_many : length history.entries ≡ length opened.entries + length receipts

-- the fault tells the first receipt that is not at its place in this history, which goes on from the one that the desk was opened with
abbrev pub IsUnmatchedIn : HistoryOnTrack → HistoryOnTrack → List Receipt → CloseFault → Type 0
IsUnmatchedIn history opened receipts (Missing count) = ⊥
IsUnmatchedIn history opened receipts (Unmatched receipt) =
    GoesOn opened receipts history × IsFirstMisplaced history.entries (length opened.entries) [] receipts receipt

-- The fault tells how many seats are missing; or, where none is, the first receipt that is not at its place in some such history.
abbrev pub IsUnmatched : HistoryOnTrack → ℕ → List Seated → CloseFault → Type 0
IsUnmatched opened parts seats (Missing count) = (count + length seats ≡ parts) × (length seats < parts)
IsUnmatched opened parts seats (Unmatched receipt) =
    (history : HistoryOnTrack) × IsUnmatchedIn history opened (all_receipts seats) (Unmatched receipt)
