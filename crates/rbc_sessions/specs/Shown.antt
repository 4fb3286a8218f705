-- What the program tells of what it grants and refuses, as the definitions have it.
use Rattle.std.specs.Prelude.{◌≡◌, ℕ, Option, Some, None, Result, Ok, Err}
use Rattle.rbc_model.specs.declared.memory.OrMemory.{OrMemory}
use Rattle.rbc_model.specs.declared.memory.OrMemory.TheVariants.{Refused, Memory as NoMemory}
use Rattle.rbc_model.specs.Histories.{Entry}
use Rattle.rbc_model.specs.Levels.{speed_levels, grade_levels}
use Rattle.rbc_model.specs.Messages.{IsAuthority, message_bytes}
use Rattle.rbc_model.specs.declared.places.Format.TheVariants.{Far}
use Rattle.rbc_model.specs.PriceTables.{IsGreatestSoundTable}
use Rattle.rbc_model.specs.Scales.{unit_of}
use Rattle.rbc_sweep.specs.Forms.{metres_shown}
use Rattle.rbc_sweep.specs.Candidates.{Candidate}
use Rattle.rbc_sweep.specs.ApplyFault.{ApplyFault}
use Rattle.rbc_sweep.specs.ApplyFault.TheVariants.{Full as FullToTold, Refused as RefusedByScene}
use Rattle.rbc_sweep.specs.AskFault.{AskFault}
use Rattle.rbc_sweep.specs.Granted.{Granted as GrantedAtDesk}
use Rattle.rbc_replies.specs.PriceText.{prices_of}
use Rattle.rbc_replies.specs.declared.replies.ToldGrant.{ToldGrant}
use Rattle.rbc_replies.specs.declared.replies.SessionRefusal.{SessionRefusal}
use Rattle.rbc_replies.specs.declared.replies.SessionRefusal.TheVariants.{BadEvent, Full, Memory}

-- why what is told is refused
abbrev pub told_refusal : OrMemory ApplyFault → SessionRefusal
told_refusal (Refused FullToTold) = Full
told_refusal (Refused (RefusedByScene refusal)) = BadEvent refusal
told_refusal NoMemory = Memory

-- what is told of a candidate that is granted; the history has this number of entries with it
pub record IsToldOf (candidate : Candidate) (count : ℕ) (granted : ToldGrant) : Type 0 where
  pub train : granted.train ≡ candidate.grant.train
  pub version : granted.version ≡ count
  pub from : granted.from ≡ candidate.grant.from
  pub obstacle : granted.obstacle ≡ candidate.grant.obstacle
  pub authority : granted.authority.now ≡ candidate.grant.authority
  pub message : granted.message.now ≡ message_bytes candidate.grant.authority
  pub writable : IsAuthority Far candidate.grant.authority
  pub speed_steps : granted.speeds.limit ≡ candidate.view.speed_steps
  pub speeds : granted.speeds.track.now ≡ record { steps = candidate.view.speeds; end = metres_shown candidate.view }
  pub speed_prices : IsGreatestSoundTable speed_levels (unit_of candidate.grant.authority.end) candidate.view.speed_steps candidate.grant.authority.end candidate.view.speeds (prices_of granted.speeds.prices.now)
  pub grade_steps : granted.grades.limit ≡ candidate.view.grade_steps
  pub grades : granted.grades.track.now ≡ record { steps = candidate.view.grades; end = metres_shown candidate.view }
  pub grade_prices : IsGreatestSoundTable grade_levels (unit_of candidate.grant.authority.end) candidate.view.grade_steps candidate.grant.authority.end candidate.view.grades (prices_of granted.grades.prices.now)

-- the entry of what a train is granted at a desk
abbrev pub entry_granted_in : Result GrantedAtDesk (OrMemory AskFault) → Option Entry
entry_granted_in (Ok granted) = Some granted.receipt.entry
entry_granted_in (Err fault) = None
