-- How far the legs that a line keeps reach.
use Rattle.std.proofs.Common.{◌≡◌, ℕ, zero, suc, ◌+◌, ◌-◌, ◌≤◌, [], ◌∷◌, ◌++◌, length, take, ap, ◌∙◌, arith, inl, inr}
use Rattle.std.proofs.Math.Seq.{take-append-add}
use Rattle.rbc_model.specs.Tracks.{Track, metres_of}
use Rattle.rbc_model.specs.Lines.{Line, line_length, legs_begun_before, legs_ending_by}
use Rattle.rbc_model.proofs.ScanLemmas.{le_or_lt}
use Rattle.rbc_model.proofs.BasicLemmas.{if_in, if_past, take_one_more}
use Rattle.rbc_model.proofs.MetreLemmas.{line_length-cons}

-- more legs, more metres
pub line_length-take_more : (track : Track) (j k : ℕ) (line : Line) → j ≤ k → line_length track (take j line) ≤ line_length track (take k line)
line_length-take_more track zero k line h = omega arith
line_length-take_more track (suc j) zero line h = absurd (omega arith)
line_length-take_more track (suc j) (suc k) [] h = omega arith
line_length-take_more track (suc j) (suc k) (leg ∷ line) h =
    let ih = line_length-take_more track j k line (omega arith) in
    omega (arith, line_length-cons track leg (take j line), line_length-cons track leg (take k line))

-- the legs begun before a place of the line reach it
pub begun_reach : (track : Track) (i : ℕ) (line : Line) → i ≤ line_length track line → i ≤ line_length track (take (legs_begun_before track i line) line)
begun_reach track i [] h = h
begun_reach track i (leg ∷ line) h =
    elim (le_or_lt i 0) [
      | inl none ↦ omega arith
      | inr some ↦
          let m = metres_of track leg.section in
          let ih = begun_reach track (i - m) line (omega (arith, line_length-cons track leg line)) in
          let kept : line_length track (take (legs_begun_before track i (leg ∷ line)) (leg ∷ line)) ≡ m + line_length track (take (legs_begun_before track (i - m) line) line) =
          ap (λ k. line_length track (take k (leg ∷ line))) (if_in (1 + legs_begun_before track (i - m) line) 0 0 i some)
          ∙ ap (line_length track) (take_one_more leg (legs_begun_before track (i - m) line) line)
          ∙ line_length-cons track leg (take (legs_begun_before track (i - m) line) line) in
          omega arith
    ]

-- the legs that end by a place reach no further
pub ending_reach : (track : Track) (i : ℕ) (line : Line) → line_length track (take (legs_ending_by track i line) line) ≤ i
ending_reach track i [] = omega arith
ending_reach track i (leg ∷ line) =
    let m = metres_of track leg.section in
    elim (le_or_lt m i) [
      | inl past ↦
          let ih = ending_reach track (i - m) line in
          let kept : line_length track (take (legs_ending_by track i (leg ∷ line)) (leg ∷ line)) ≡ m + line_length track (take (legs_ending_by track (i - m) line) line) =
          ap (λ k. line_length track (take k (leg ∷ line))) (if_past 0 (1 + legs_ending_by track (i - m) line) i m past)
          ∙ ap (line_length track) (take_one_more leg (legs_ending_by track (i - m) line) line)
          ∙ line_length-cons track leg (take (legs_ending_by track (i - m) line) line) in
          omega arith
      | inr here ↦
          let kept : line_length track (take (legs_ending_by track i (leg ∷ line)) (leg ∷ line)) ≡ 0 =
          ap (λ k. line_length track (take k (leg ∷ line))) (if_in 0 (1 + legs_ending_by track (i - m) line) i m here) in
          omega arith
    ]

-- the first k legs of a longer line, if they are no fewer than the shorter one's
pub take_past : (k : ℕ) (a b : Line) → length a ≤ k → take k (a ++ b) ≡ a ++ take (k - length a) b
take_past k a b h = ap (λ j. take j (a ++ b)) (let e : k ≡ length a + (k - length a) = omega arith in e) ∙ take-append-add a b (k - length a)
