use Rattle.std.proofs.Common.{◌≡◌, ap, sym, ◌∙◌, subst, length, Option, Some, Result}
use Rattle.std.specs.Prelude.{option_map}
use Rattle.std.specs.Arc.{arc_value}
use Rattle.rbc_model.specs.Answers.{AnswersAs}
use Rattle.rbc_model.specs.declared.refusals.Refusal.{Refusal}
use Rattle.rbc_model.specs.declared.refusals.Refusal.TheVariants.{Offline}
use Rattle.rbc_model.specs.Tracks.{Track}
use Rattle.rbc_model.specs.Lines.{Line, has_leg}
use Rattle.rbc_model.specs.Locks.{Locks, lengthened, longer_ahead}
use Rattle.rbc_model.specs.declared.places.Leg.{Leg}
use Rattle.rbc_line.specs.OnTracks.{LineOnTrack}
use Rattle.rbc_extent.specs.PlacingSteps.{found_or, locating_step}
use Rattle.rbc_extent.proofs.placing.located.Goals as goal

-- the known line, continued
continued : Locks → Leg → LineOnTrack → Result Line Refusal
continued locks leg line = found_or Offline (lengthened (length line.track.sections) (longer_ahead locks) (λ l. has_leg l leg) line.legs)

-- it is what is looked for on the track of the line
continued-located : {X : Type 0} (line_of : X → LineOnTrack) (locks : Locks) (leg : Leg) (track : Track) (o : Option X) (x : X) → o ≡ Some x → (line_of x).track ≡ track → continued locks leg (line_of x) ≡ locating_step track locks leg (option_map (λ y. (line_of y).legs) o)
unfolding continued locating_step
continued-located line_of locks leg track o x e same =
    ap (λ (t : Track). found_or Offline (lengthened (length t.sections) (longer_ahead locks) (λ l. has_leg l leg) (line_of x).legs)) same
    ∙ ap (λ p. locating_step track locks leg (option_map (λ y. (line_of y).legs) p)) (sym e)

pub returns-in-Some-clause-line : goal.returns-in-Some-clause-line
unfolding continued
returns-in-Some-clause-line c =
    subst (AnswersAs (λ (l : LineOnTrack). l.legs) c.continuation.result)
    (continued-located (λ line. line.now) c.args.situation.now.locks.now c.args.leg (arc_value c.args.situation.now.track.now) c.args.situation.now.known c.in-Some.line c.in-Some.is (c.args.situation.now.of_track c.in-Some.line c.in-Some.is))
    c.continuation.ensures.line
