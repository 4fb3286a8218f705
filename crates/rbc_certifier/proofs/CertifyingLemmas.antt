-- A track that a line's runs make, and the profile chosen for it, are the certificate of the line.
use Rattle.std.proofs.Common.{◌≡◌, ℕ, ◌%◌, ◌≤◌, Bool, true, inl, List, ◌++◌, Option, Some, None, Ok, Err, refl, sym, ap, ◌∙◌, arith}
use Rattle.std.specs.Result.{result_map_both}
use Rattle.rbc_model.specs.declared.functions.RunsFault.{RunsFault}
use Rattle.rbc_model.specs.declared.messages.FieldName.{FieldName}
use Rattle.rbc_model.specs.declared.places.Format.TheVariants.{Far}
use Rattle.rbc_model.specs.Results.{unless}
use Rattle.rbc_model.specs.Levels.{Levels}
use Rattle.rbc_model.specs.Profiles.{StepFunction, value_at, loss, IsChosenProfile, joined_steps, runs_fault, runs_of}
use Rattle.rbc_model.specs.PriceTables.{IsGreatestSoundTable}
use Rattle.rbc_model.specs.declared.limits.TheConstants.{LONGEST_TRACK}
use Rattle.rbc_model.specs.Messages.{is_writable, bytes_of_fields}
use Rattle.rbc_model.specs.Scales.{is_expressible, unit_of}
use Rattle.rbc_model.specs.Kinds.{Kind}
use Rattle.rbc_model.specs.StepsText.{StepsRequest, refusal_of, track_in}
use Rattle.rbc_model.specs.StepsReply.{track_line, profile_line, price_lines, packet_lines, profile_reply, refusal_reply, AnswersRequest}
use Rattle.rbc_model.proofs.LineTrackLemmas.{with_track, track_in-runs_of}
use Rattle.rbc_model.proofs.ScaleLemmas.{expressible_near_enough, expressible_whole, writable}

-- a track ends where its request does
joined_end : {V : Type 0} (levels : Levels V) (n : ℕ) (rows : List (ℕ × V)) (fault : Option RunsFault) (track : StepFunction V)
    → unless fault (Ok (record { steps = joined_steps levels rows; end = n })) ≡ Ok track → track.end ≡ n
joined_end levels n rows None track e = let same : record { steps = joined_steps levels rows; end = n } ≡ track = cc in ap (λ (t : StepFunction _). t.end) (sym same)
joined_end levels n rows (Some fault) track e = absurd cc

pub end_of : {V : Type 0} (levels : Levels V) (n : ℕ) (rows : List (ℕ × V)) (track : StepFunction V) → runs_of levels n rows ≡ Ok track → track.end ≡ n
end_of levels n rows track e = joined_end levels n rows (runs_fault n rows) track e

-- an end that a message can give is the end of a track
pub short : (end : ℕ) → is_expressible Far end ≡ true → end ≤ LONGEST_TRACK
short end given = let near = expressible_near_enough Far end given in omega arith

-- the track of a request is one that can be reduced
pub whole : (track end : ℕ) → track ≡ end → is_expressible Far end ≡ true → track % unit_of track ≡ 0
whole track end same given = rw same (expressible_whole Far end given)

-- a message can give the profile that is chosen for it
pub chosen_writable : {V : Type 0} (levels : Levels V) (limit end : ℕ) (track profile : StepFunction V) → track.end ≡ end → profile.end ≡ track.end → is_expressible Far end ≡ true
    → IsChosenProfile levels (unit_of track.end) limit track.end (value_at track.steps) profile.steps → is_writable profile ≡ true
chosen_writable levels limit end track profile track_ends ends given chosen =
    writable levels limit profile (rw (ends, track_ends) given) (rw ends chosen.best.fits.profile)

-- the request is answered with its refusal, if its runs make no track
pub refused : {V : Type 0} (kind : Kind V) (request : StepsRequest V) (fault : RunsFault) → request.end ≤ LONGEST_TRACK
    → runs_of kind.levels request.end request.runs ≡ Err fault → AnswersRequest kind request (refusal_reply (refusal_of fault))
refused kind request fault short none =
    let tracks : track_in kind.levels request ≡ Err (refusal_of fault) =
    track_in-runs_of kind.levels request short ∙ ap (result_map_both (with_track kind.levels request) refusal_of) none in
    rw tracks (inl refl)

-- the four parts are the reply
reply_of : {V : Type 0} (kind : Kind V) (track : StepsRequest V) (steps : List (ℕ × V)) (lost : ℕ) (rows : List (List ℕ)) (packet : List ℕ)
    → lost ≡ loss kind.levels track.end (value_at track.runs) steps → packet ≡ bytes_of_fields (kind.packet true track.end steps)
    → track_line kind track ++ profile_line kind steps lost ++ price_lines 1 rows ++ packet_lines packet ≡ profile_reply kind track steps rows
reply_of kind track steps lost rows packet loses packs = rw (loses, packs) refl

pub certified : {V : Type 0} (kind : Kind V) (request : StepsRequest V) (track : StepFunction V) (steps : List (ℕ × V)) (lost : ℕ)
    (rows : List (List ℕ)) (packet : List ℕ)
    → is_expressible Far request.end ≡ true → runs_of kind.levels request.end request.runs ≡ Ok track
    → IsChosenProfile kind.levels (unit_of track.end) request.limit track.end (value_at track.steps) steps
    → IsGreatestSoundTable kind.levels (unit_of track.end) request.limit track.end track.steps rows
    → lost ≡ loss kind.levels track.end (value_at track.steps) steps
    → packet ≡ bytes_of_fields (kind.packet true track.end steps)
    → AnswersRequest kind request
    (track_line kind (record { limit = request.limit; runs = track.steps; end = track.end }) ++ profile_line kind steps lost ++ price_lines 1 rows ++ packet_lines packet)
certified kind request track steps lost rows packet given made chosen greatest loses packs =
    let joined : StepsRequest _ = with_track kind.levels request track in
    let tracks : track_in kind.levels request ≡ Ok joined =
    track_in-runs_of kind.levels request (short request.end given) ∙ ap (result_map_both (with_track kind.levels request) refusal_of) made in
    let ends : track.end ≡ request.end = end_of kind.levels request.end request.runs track made in
    rw (tracks, ends) (inl (
      steps,
      rows,
      rw (← ends) chosen,
      rw (← ends) greatest,
      reply_of kind joined steps lost rows packet (rw (← ends) loses) (rw (← ends) packs),
    ))

-- what is certified of a kind, where the track, the profile and the packet are told by the levels and fields that the kind has
pub certified_as : {V : Type 0} (kind : Kind V) (levels : Levels V) (fields : Bool → ℕ → List (ℕ × V) → List (FieldName × ℕ))
    → kind.levels ≡ levels → kind.packet ≡ fields
    → (request : StepsRequest V) (track profile : StepFunction V) (lost : ℕ) (rows : List (List ℕ)) (packet : List ℕ)
    → is_expressible Far request.end ≡ true → runs_of levels request.end request.runs ≡ Ok track
    → IsChosenProfile levels (unit_of track.end) request.limit track.end (value_at track.steps) profile.steps → profile.end ≡ track.end
    → IsGreatestSoundTable levels (unit_of track.end) request.limit track.end track.steps rows
    → lost ≡ loss levels track.end (value_at track.steps) profile.steps
    → packet ≡ bytes_of_fields (fields true profile.end profile.steps)
    → AnswersRequest kind request
    (track_line kind (record { limit = request.limit; runs = track.steps; end = track.end }) ++ profile_line kind profile.steps lost ++ price_lines 1 rows ++ packet_lines packet)
certified_as kind levels fields same_levels same_fields request track profile lost rows packet given made chosen ends greatest loses packs =
    certified kind request track profile.steps lost rows packet given (rw same_levels made) (rw same_levels chosen) (rw same_levels greatest) (rw same_levels loses)
    (packs ∙ ap (λ end. bytes_of_fields (fields true end profile.steps)) ends
    ∙ ap (λ (f : Bool → ℕ → List (ℕ × _) → List (FieldName × ℕ)). bytes_of_fields (f true track.end profile.steps)) (sym same_fields))
