-- Lemmas on histories that go on from others.
use Rattle.std.proofs.Common.{◌≡◌, ◌≤◌, length, refl, sym, ap, ◌∙◌, arith, take}
use Rattle.std.proofs.Math.Nat.{min-le_right}
use Rattle.std.proofs.lemmas.List.{take_all, take-take, length-take}
use Rattle.rbc_record.specs.Records.{HistoryOnTrack, IsRight}
use Rattle.rbc_snap.specs.Later.{IsLater}

pub later_itself : (h : HistoryOnTrack) → IsRight h → IsLater h h
later_itself h right = record { track = refl; begin = refl; most = refl; right = right; opening = take_all (length h.entries) h.entries (omega arith) }

pub later_length : (a b : HistoryOnTrack) → IsLater a b → length a.entries ≤ length b.entries
later_length a b h =
    let same = ap length h.opening in
    omega (arith, same, length-take (length a.entries) b.entries, min-le_right (length a.entries) (length b.entries))

pub later_still : (a b c : HistoryOnTrack) → IsLater a b → IsLater b c → IsLater a c
later_still a b c ab bc = record {
  track = bc.track ∙ ab.track;
  begin = bc.begin ∙ ab.begin;
  most = bc.most ∙ ab.most;
  right = bc.right;
  opening =
      sym (take-take (length a.entries) (length b.entries) c.entries (later_length a b ab))
      ∙ ap (take (length a.entries)) bc.opening ∙ ab.opening;
}

-- what goes on from a history and is no longer is the same
pub later_as_long : (a b : HistoryOnTrack) → IsLater a b → length b.entries ≤ length a.entries → a ≡ b
later_as_long a b h few =
    let entries : a.entries ≡ b.entries = sym h.opening ∙ take_all (length a.entries) b.entries few in
    let track : a.track ≡ b.track = sym h.track in
    let begin : a.begin ≡ b.begin = sym h.begin in
    let most : a.most ≡ b.most = sym h.most in
    λ i. record { track = track i; begin = begin i; most = most i; entries = entries i }
