-- Tracks of the second format: ends up to 80,000 m from the group, beyond 32,000 m at multiples of ten.
use Rattle.std.specs.Prelude.{◌≡◌, ℕ, List, [], ◌∷◌, ◌++◌, Some, refl, pos}
use Rattle.rbc_model.specs.declared.places.Direction.TheVariants.{Rising}
use Rattle.rbc_model.specs.declared.places.Format.TheVariants.{Near, Far}
use Rattle.rbc_model.specs.declared.refusals.Obstacle.TheVariants.{NoLink, Limit}
use Rattle.rbc_model.specs.declared.refusals.Refusal.TheVariants.{TooFar, NotSafe}
use Rattle.rbc_model.specs.declared.reports.Event.{Event}
use Rattle.rbc_model.specs.declared.reports.Event.TheVariants.{Grant}
use Rattle.rbc_model.specs.Tracks.{Track}
use Rattle.rbc_examples.specs.Places.{one_section, plus, lock, nominal}
use Rattle.rbc_examples.specs.Answers.{Granted, Halted, ask, refusal, where_is}

-- the section is locked, and a train stands `distance` metres along it
abbrev standing : ℕ → List Event
standing distance = lock 0 ∷ nominal 1 17 distance 5 5 200 1000 ∷ []

-- ---- how far it may run

-- the section's end, where a message can give it, or else the last place before it that one can
ends_in_metres : ask (one_section Far 32009) (standing 31900) 1 ≡ Granted (pos 31905) 32000 (NoLink (plus 0))
ends_in_metres = refl

ends_in_tens : ask (one_section Far 32010) (standing 31900) 1 ≡ Granted (pos 31905) 32010 (NoLink (plus 0))
ends_in_tens = refl

ends_before_the_last_ten : ask (one_section Far 32015) (standing 31900) 1 ≡ Granted (pos 31905) 32010 (NoLink (plus 0))
ends_before_the_last_ten = refl

ends_at_the_limit : ask (one_section Far 90000) (standing 79900) 1 ≡ Granted (pos 79905) 80000 Limit
ends_at_the_limit = refl

ends_at_the_near_limit : ask (one_section Near 32009) (standing 31900) 1 ≡ Granted (pos 31905) 32000 Limit
ends_at_the_near_limit = refl

-- a front between two ends that a message can give
front_between : ask (one_section Far 32015) (standing 32003) 1 ≡ Granted (pos 32008) 32010 (NoLink (plus 0))
front_between = refl

no_end_before_the_front : ask (one_section Far 32015) (standing 32005) 1 ≡ Halted (pos 32015) (NoLink (plus 0))
no_end_before_the_front = refl

-- ---- how far it may report

too_far : refusal (one_section Far 90000) (lock 0 ∷ []) (nominal 1 17 79996 5 5 200 0) ≡ Some TooFar
too_far = refl

far_enough : where_is (one_section Far 90000) (standing 79995) 1 ≡ Some (79790, 80000, 80000, 80000)
far_enough = refl

halted_at_the_limit : ask (one_section Far 90000) (standing 79995) 1 ≡ Halted (pos 80000) Limit
halted_at_the_limit = refl

-- ---- an end that another group can't give

-- a second group five metres behind the first
abbrev two_groups : Track
two_groups =
    record (one_section Far 32010) {
      groups =
          record { name = record { country = 5; number = 17 }; section = 0; offset = 0; nominal = Rising }
          ∷ record { name = record { country = 5; number = 18 }; section = 0; offset = 5; nominal = Rising }
          ∷ [];
    }

abbrev from_the_second : List Event
from_the_second = standing 31900 ++ Grant 1 32010 ∷ nominal 1 18 31900 5 5 200 2000 ∷ []

keeps_its_authority : where_is two_groups from_the_second 1 ≡ Some (31700, 31910, 31905, 32010)
keeps_its_authority = refl

-- the authority's end lies 32,005 m from it, and no other end takes nothing back
blocked_inside_its_authority : ask two_groups from_the_second 1 ≡ Halted (pos 32005) (NoLink (plus 0))
blocked_inside_its_authority = refl

-- nor may an end be granted that no message can give
uneven_end : refusal (one_section Far 32015) (standing 31900) (Grant 1 32005) ≡ Some NotSafe
uneven_end = refl
