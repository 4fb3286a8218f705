-- The sections of a line, leg by leg.
use Rattle.std.proofs.Common.{◌≡◌, ℕ, ◌<◌, length, get_or, ap, sym, ◌∙◌, subst}
use Rattle.std.proofs.lemmas.List.Elements.{All-get_or}
use Rattle.rbc_model.specs.declared.places.Leg.{Leg}
use Rattle.rbc_model.specs.Tracks.{Track}
use Rattle.rbc_model.specs.Lines.{Line, IsLine}

-- each leg of a line is of a section of the track
pub all_below : (track : Track) (line legs : Line) (i : ℕ) (leg : Leg) → IsLine track line → legs ≡ line → i < length legs → leg ≡ get_or legs i leg → leg.section < length track.sections
all_below track line legs i leg on is within there =
    let low : (get_or line i leg).section < length track.sections = All-get_or (λ (l : Leg). l.section < length track.sections) line i leg (subst (λ (x : Line). i < length x) is within) on.of_track in
    subst (λ (l : Leg). l.section < length track.sections) (sym (there ∙ ap (λ (x : Line). get_or x i leg) is)) low
