-- Lists of legs: their last one, and where a section does not stand.
use Rattle.std.proofs.Common.{◌≡◌, ℕ, zero, suc, ◌+◌, ◌<◌, Bool, true, false, not, [], ◌∷◌, length, get_or, drop, Some, None, refl, sym, ap, ◌∙◌, arith, if◌then◌else◌}
use Rattle.std.specs.Prelude.{◌==◌, option_map}
use Rattle.std.proofs.lemmas.List.{drop_more}
use denote.Enum.Bare.{sameb}
use Rattle.rbc_model.specs.declared.places.Direction.{Direction}
use Rattle.rbc_model.specs.declared.places.Direction.TheVariants.{Rising, Falling}
use Rattle.rbc_model.specs.declared.places.Leg.{Leg}
use Rattle.rbc_model.specs.declared.tracks.BaliseGroup.{BaliseGroup}
use Rattle.rbc_model.specs.contracts.places.Direction.{the_type}
use Rattle.rbc_model.specs.Tracks.{Track, leg_eq, direction_eq}
use Rattle.rbc_model.specs.SoundTracks.{sections_differ}
use Rattle.rbc_model.specs.Lines.{Line, has_leg, has_section, first_leg, last_leg, metres_to_group, place_of, place_on}
use Rattle.rbc_model.proofs.SamenessLemmas.{direction_eq-true}
use Rattle.rbc_scene_laws.proofs.BasicLemmas.{and_left}
use Rattle.std.proofs.lemmas.Bool.{not-true, or_parts, or_from, and_left as false_before, and_right as false_behind}
use Rattle.rbc_model.proofs.BasicLemmas.{flipped}

pub some_first : (legs : Line) → 0 < length legs → (leg : Leg) × (first_leg legs ≡ Some leg)
some_first [] h = absurd (omega arith)
some_first (leg ∷ legs) h = (leg, refl)

-- the last leg is the one of the greatest index
pub last_leg-get_or : (legs : Line) (i : ℕ) (d : Leg) → i + 1 ≡ length legs → last_leg legs ≡ Some (get_or legs i d)
last_leg-get_or [] i d h = absurd (omega arith)
last_leg-get_or (leg ∷ []) zero d h = refl
last_leg-get_or (leg ∷ []) (suc i) d h = absurd (omega arith)
last_leg-get_or (leg ∷ next ∷ legs) zero d h = absurd (omega arith)
last_leg-get_or (leg ∷ next ∷ legs) (suc i) d h = last_leg-get_or (next ∷ legs) i d (omega arith)

-- where the section does not stand, neither does a leg of it
lacks_leg : (legs : Line) (leg : Leg) → has_section legs leg.section ≡ false → has_leg legs leg ≡ false
lacks_leg [] leg h = refl
lacks_leg (other ∷ legs) leg h =
    or_from (leg_eq leg other) (has_leg legs leg)
    (false_before (leg.section == other.section) (direction_eq leg.direction other.direction) (flipped other.section leg.section ((or_parts (other.section == leg.section) (has_section legs leg.section) h).0)))
    (lacks_leg legs leg ((or_parts (other.section == leg.section) (has_section legs leg.section) h).1))

-- a line that begins with the section, run the other way, does not have the leg
pub lacks_turned_leg : (leg wanted : Leg) (legs : Line) → sections_differ (leg ∷ legs) ≡ true → leg.section ≡ wanted.section → ((leg.direction ≡ wanted.direction) → ⊥) → has_leg (leg ∷ legs) wanted ≡ false
lacks_turned_leg leg wanted legs differ same turned =
    or_from (leg_eq wanted leg) (has_leg legs wanted)
    (false_behind (wanted.section == leg.section) (direction_eq wanted.direction leg.direction) (not_same wanted.direction leg.direction turned))
    (lacks_leg legs wanted (rw (← same) (not-true (has_section legs leg.section) (and_left (not (has_section legs leg.section)) (sections_differ legs) differ))))
  where
    told_apart : (a b : Direction) (test : Bool) → direction_eq a b ≡ test → ((b ≡ a) → ⊥) → test ≡ false
    told_apart a b true e h = let same : a ≡ b = direction_eq-true a b e in absurd (h (cc))
    told_apart a b false e h = refl

    not_same : (a b : Direction) → ((b ≡ a) → ⊥) → direction_eq a b ≡ false
    not_same a b h = told_apart a b (direction_eq a b) refl h

-- whether two directions are the same is told by their comparison
pub turned : (a b : Direction) (test : Bool) → test ≡ sameb the_type a b → test ≡ false → (a ≡ b) → ⊥
turned Rising Rising test e f h = cc
turned Rising Falling test e f h = cc
turned Falling Rising test e f h = cc
turned Falling Falling test e f h = cc

-- a group has no place on a line that begins with its section, run the other way
pub no_place : (track : Track) (legs : Line) (i begin : ℕ) (leg : Leg) (group : BaliseGroup) (direction : Direction) → i < length legs → leg ≡ get_or legs i leg → sections_differ (drop i legs) ≡ true → leg.section ≡ group.section
    → ((leg.direction ≡ direction) → ⊥) → option_map (λ place. begin + place) (place_of track (drop i legs) group direction) ≡ None
no_place track legs i begin leg group direction within is differ same turned =
    let parts : drop i legs ≡ leg ∷ drop (i + 1) legs = drop_more legs i leg within ∙ ap (λ l. l ∷ drop (i + 1) legs) (sym is) in
    let wanted : Leg = record { section = group.section; direction = direction } in
    let lacks : has_leg (leg ∷ drop (i + 1) legs) wanted ≡ false = lacks_turned_leg leg wanted (drop (i + 1) legs) (rw parts at differ) same turned in
    ap (λ line. option_map (λ place. begin + place) (place_of track line group direction)) parts
    ∙ ap (λ b. option_map (λ place. begin + place) (if b then place_on track (leg ∷ drop (i + 1) legs) group.section (metres_to_group track group) else None)) lacks
