-- Lists without their last leg, and when a route that is entered from a leg is good.
use Rattle.std.proofs.Common.{◌≡◌, ℕ, ◌≤◌, Bool, true, ◌&&◌, List, [], ◌∷◌, ◌++◌, length, nat_le, nat_lt, Option, Some, refl, ap, sym, ◌∙◌}
use Rattle.std.specs.Option.{option_map_or}
use Rattle.std.specs.List.{list_all}
use Rattle.std.proofs.lemmas.Bool.{le-leb}
use Rattle.rbc_model.specs.declared.limits.TheConstants.{MOST_LEGS}
use Rattle.rbc_model.specs.declared.places.Leg.{Leg}
use Rattle.rbc_model.specs.Tracks.{Track}
use Rattle.rbc_model.specs.SoundTracks.{is_leg_of, sections_differ, are_linked, but_last, is_good_entry, is_good_route}

pub but_last-append : (legs : List Leg) (leg : Leg) → but_last (legs ++ leg ∷ []) ≡ legs
but_last-append [] leg = refl
but_last-append (first ∷ []) leg = refl
but_last-append (first ∷ next ∷ legs) leg = ap (λ rest. first ∷ rest) (but_last-append (next ∷ legs) leg)

all_hold : (some few of differ linked entry result : Bool) → some ≡ true → few ≡ true → of ≡ true → differ ≡ true → linked ≡ true → result ≡ entry
    → result ≡ (some && few && of && differ && linked && entry)
all_hold some few of differ linked entry result a b c d e f = rw (a, b, c, d, e) f

-- what a route that is entered from a leg has to keep, where the other tests pass
pub entered : (track : Track) (name : List ℕ) (after : Option Leg) (leg : Leg) (legs : List Leg) (sections : ℕ) (of differ linked result : Bool) → length track.sections ≡ sections → after ≡ Some leg
    → 1 ≤ length legs → length legs ≤ MOST_LEGS → of ≡ list_all (λ leg. nat_lt leg.section sections) legs → of ≡ true → differ ≡ sections_differ legs → differ ≡ true → linked ≡ are_linked track legs → linked ≡ true
    → result ≡ is_good_entry track legs leg → result ≡ is_good_route track (record { name = name; after = after; legs = legs })
entered track name after leg legs sections of differ linked result many is some few of_is of_true differ_is differ_true linked_is linked_true e =
    all_hold (nat_le 1 (length legs)) (nat_le (length legs) MOST_LEGS) (list_all (is_leg_of track) legs) (sections_differ legs) (are_linked track legs) (option_map_or (is_good_entry track legs) after true) result
    (le-leb 1 (length legs) some) (le-leb (length legs) MOST_LEGS few) (ap (λ n. list_all (λ leg. nat_lt leg.section n) legs) many ∙ sym of_is ∙ of_true) (sym differ_is ∙ differ_true) (sym linked_is ∙ linked_true)
    (e ∙ sym (ap (λ o. option_map_or (is_good_entry track legs) o true) is))
