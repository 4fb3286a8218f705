-- A session of the centre: what a line is answered after the entries of a history, and which entry it adds.
use Rattle.std.specs.Prelude.{◌≡◌, ℕ, ◌+◌, nat_le, Bool, false, not, ◌&&◌, ◌||◌, is_some, is_none, List, [], length, Option, Some, None, Result, Ok, Err, ◌⊎◌, MatchBool, MatchResult}
use Rattle.std.specs.Result.{is_err}
use Rattle.rbc_model.specs.declared.limits.TheConstants.{MOST_TRAINS}
use Rattle.rbc_model.specs.declared.refusals.ViewFault.{ViewFault}
use Rattle.rbc_model.specs.declared.refusals.ViewFault.TheVariants.{UnknownTrain, Blocked}
use Rattle.rbc_model.specs.declared.refusals.Refusal.TheVariants.{UnknownTrain as NoSuchTrain}
use Rattle.rbc_model.specs.declared.reports.Told.{Told}
use Rattle.rbc_model.specs.declared.reports.Told.TheVariants.{Report}
use Rattle.rbc_model.specs.declared.reports.Event.TheVariants.{Tell}
use Rattle.rbc_model.specs.declared.sessions.Inquiry.{Inquiry}
use Rattle.rbc_model.specs.declared.sessions.Inquiry.TheVariants.{State as AskedState, Scene as AskedScene}
use Rattle.rbc_model.specs.Inquiries.{inquiry_reply}
use Rattle.rbc_model.specs.Levels.{speed_levels, grade_levels}
use Rattle.rbc_model.specs.Profiles.{IsChosenProfile, value_at}
use Rattle.rbc_model.specs.PriceTables.{IsGreatestSoundTable}
use Rattle.rbc_model.specs.Scales.{unit_of}
use Rattle.rbc_model.specs.declared.places.Format.TheVariants.{Far}
use Rattle.rbc_model.specs.Messages.{IsAuthority}
use Rattle.rbc_model.specs.Tracks.{Track, group_named}
use Rattle.rbc_model.specs.Scenes.{Scene, train_numbered}
use Rattle.rbc_model.specs.Events.{step}
use Rattle.rbc_model.specs.Views.{View, view}
use Rattle.rbc_model.specs.Histories.{Beginning, Entry, Heard, Granted, Grants, IsBest, is_full, replay}
use Rattle.rbc_model.specs.SessionReply.{SessionRefusal, BadEvent, Full, Memory, accepted_reply, grant_reply, blocked_reply, refused_reply}
use Rattle.rbc_session_laws.specs.declared.command.Command.{Command}
use Rattle.rbc_session_laws.specs.declared.command.Command.TheVariants.{Nothing, Event, Authority, Show}
use Rattle.rbc_session_laws.specs.Commands.{command_in}

-- ---- what a train is granted

-- What this train is granted in this scene, where it is shown this view: the best authority; of several best profiles those that the rules choose;
-- each with the greatest sound table of prices. A message can give the authority, so the one that is printed is read as this authority
-- (`GrantsAreReadBack`, a law).
pub record IsGrantFor (track : Track) (scene : Scene) (number : ℕ) (view : View) (grant : Grants) (speed_rows grade_rows : List (List ℕ)) : Type 0 where
  pub train : grant.train ≡ number
  pub best : IsBest track scene grant
  pub speeds : IsChosenProfile speed_levels (unit_of grant.authority.end) view.speed_steps grant.authority.end (value_at view.speeds) grant.authority.speeds
  pub grades : IsChosenProfile grade_levels (unit_of grant.authority.end) view.grade_steps grant.authority.end (value_at view.grades) grant.authority.grades
  pub speed_prices : IsGreatestSoundTable speed_levels (unit_of grant.authority.end) view.speed_steps grant.authority.end view.speeds speed_rows
  pub grade_prices : IsGreatestSoundTable grade_levels (unit_of grant.authority.end) view.grade_steps grant.authority.end view.grades grade_rows
  pub writable : IsAuthority Far grant.authority

-- ---- what needs no memory

-- Whether what is told is refused before anything has to grow: a report where there are too many trains, or no such group; of all else what the
-- scene refuses.
abbrev pub is_refused_at_once : Track → Scene → Told → Bool
is_refused_at_once track scene (Report report) =
    not (is_some (train_numbered scene report.train)) && nat_le MOST_TRAINS (length scene.trains) || is_none (group_named track report.group)
is_refused_at_once track scene told = is_err (step track scene (Tell told))

-- ---- what a line comes to

-- After these entries a line is answered by this reply, and adds this entry, or none.
module _ (begin : Beginning) (before : List Entry) (reply : List ℕ) (added : Option Entry) where
  -- it is refused
  abbrev pub IsRefused : SessionRefusal → Type 0
  IsRefused refusal = (reply ≡ refused_reply begin.track refusal) × (added ≡ None)

  -- memory was refused in its treatment
  abbrev pub IsGivenUp : Type 0
  IsGivenUp = IsRefused Memory

  -- memory was refused in the treatment of what is told, which nothing refuses before anything has to grow
  abbrev pub IsToldInVain : Told → Type 0
  IsToldInVain told = IsGivenUp × (is_refused_at_once begin.track (replay begin before) told ≡ false)

  -- what is told is added, and the reply tells the version after it
  abbrev pub IsAccepted : Told → Type 0
  IsAccepted told = (reply ≡ accepted_reply (length before + 1)) × (added ≡ Some (Heard told))

  -- what is told is refused where the history is full, or where the scene refuses it
  abbrev pub AnswersEvent : Told → Type 0
  AnswersEvent told =
      MatchBool (is_full begin before)
      (IsRefused Full)
      (MatchResult (step begin.track (replay begin before) (Tell told)) (λ after. IsAccepted told) (λ refusal. IsRefused (BadEvent refusal)) ⊎ IsToldInVain told)

  -- what the train is granted is added, and the reply tells it with the version after it
  abbrev pub IsGranted : ℕ → View → Type 0
  IsGranted train shown = (grant : Grants) × (speed_rows : List (List ℕ)) × (grade_rows : List (List ℕ))
      × IsGrantFor begin.track (replay begin before) train shown grant speed_rows grade_rows
      × (reply ≡ grant_reply begin.track (length before + 1) shown grant speed_rows grade_rows)
      × (added ≡ Some (Granted grant))

  -- a train that asks is not there, or is shown what stands in its way, or is granted an authority, unless the history is full
  abbrev pub AnswersAsker : ℕ → Result View ViewFault → Type 0
  AnswersAsker train (Ok shown) = MatchBool (is_full begin before) (IsRefused Full) (IsGranted train shown) ⊎ IsGivenUp
  AnswersAsker train (Err (Blocked obstacle at)) = ((reply ≡ blocked_reply begin.track train (length before) at obstacle) × (added ≡ None)) ⊎ IsGivenUp
  AnswersAsker train (Err UnknownTrain) = IsRefused (BadEvent (NoSuchTrain train))

  -- a train that asks, by what it is shown after the entries
  abbrev pub AnswersAuthority : ℕ → Type 0
  AnswersAuthority train = AnswersAsker train (view begin.track (replay begin before) train)

  -- what is asked to be shown is shown, as it is after the entries
  abbrev pub IsShown : Inquiry → Type 0
  IsShown inquiry = (reply ≡ inquiry_reply begin.track (length before) (replay begin before) inquiry) × (added ≡ None)

  -- only for a scene may memory be refused
  abbrev pub AnswersInquiry : Inquiry → Type 0
  AnswersInquiry AskedState = IsShown AskedState
  AnswersInquiry AskedScene = IsShown AskedScene ⊎ IsGivenUp

  -- what is asked for
  abbrev pub AnswersCommand : Result Command SessionRefusal → Type 0
  AnswersCommand (Ok Nothing) = (reply ≡ []) × (added ≡ None)
  AnswersCommand (Ok (Event told)) = AnswersEvent told
  AnswersCommand (Ok (Authority train)) = AnswersAuthority train
  AnswersCommand (Ok (Show inquiry)) = AnswersInquiry inquiry
  AnswersCommand (Err refusal) = IsRefused refusal

-- After these entries the line is answered by this reply, and adds this entry, or none.
abbrev pub AnswersLine : Beginning → List Entry → List ℕ → List ℕ → Option Entry → Type 0
AnswersLine begin before line reply added = AnswersCommand begin before reply added (command_in begin.track line)
