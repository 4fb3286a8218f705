-- The replies of a session that are printed, as text.
use Rattle.std.specs.Prelude.{ℕ, ◌<◌, List, [], ◌∷◌, ◌++◌, length, codes, decimal}
use Rattle.std.specs.Fmt.{signed_decimal}
use Rattle.rbc_model.specs.declared.refusals.Obstacle.{Obstacle}
use Rattle.rbc_model.specs.declared.refusals.Obstacle.TheVariants.{NoLink, NotLocked as NotLockedAhead}
use Rattle.rbc_model.specs.declared.refusals.Refusal.{Refusal}
use Rattle.rbc_model.specs.declared.refusals.Refusal.TheVariants.{Clash, LinkTaken, NotLocked, Busy}
use Rattle.rbc_model.specs.Tracks.{Track}
use Rattle.rbc_model.specs.Kinds.{speed_kind, grade_kind}
use Rattle.rbc_model.specs.Words.{line_of, hex_of}
use Rattle.rbc_model.specs.Messages.{message_bytes}
use Rattle.rbc_model.specs.SessionReply.{obstacle_words, accepted_reply, blocked_reply, refused_reply, BadLine, UnknownName, BadEvent, Full, Memory}
use Rattle.rbc_model.specs.SessionReply.{SessionRefusal as Refused}
use Rattle.rbc_replies.specs.declared.replies.ToldGrant.{ToldGrant}
use Rattle.rbc_replies.specs.declared.replies.SessionRefusal.{SessionRefusal}
use Rattle.rbc_replies.specs.declared.replies.SessionRefusal.TheVariants.{BadLine as ToldBadLine, UnknownName as ToldUnknownName, BadEvent as ToldBadEvent, Full as ToldFull, Memory as ToldMemory}
use Rattle.rbc_replies.specs.declared.replies.SessionReply.{SessionReply}
use Rattle.rbc_replies.specs.declared.replies.SessionReply.TheVariants.{Nothing, Accepted, Granted as GrantedReply, Blocked, Refused as RefusedReply}
use Rattle.rbc_replies.specs.Certificates.{certificate_text}

-- ---- refusals

-- a refusal as the definitions have it
abbrev pub refusal_view : SessionRefusal → Refused
refusal_view (ToldBadLine fault) = BadLine fault
refusal_view (ToldUnknownName name) = UnknownName name
refusal_view (ToldBadEvent refusal) = BadEvent refusal
refusal_view ToldFull = Full
refusal_view ToldMemory = Memory

-- ---- the text of a reply

-- the first line of a grant
abbrev pub grant_line : Track → ToldGrant → List ℕ
grant_line track granted =
    line_of
    (codes "granted"
    ∷ decimal granted.train
    ∷ decimal granted.version
    ∷ signed_decimal granted.from
    ∷ decimal granted.authority.now.end
    ∷ obstacle_words track granted.obstacle)

-- the lines of a grant
abbrev pub grant_text : Track → ToldGrant → List ℕ
grant_text track granted =
    grant_line track granted
    ++ line_of (codes "message" ∷ hex_of (message_bytes granted.authority.now) ∷ [])
    ++ certificate_text speed_kind granted.authority.now.end granted.authority.now.speeds granted.speeds
    ++ certificate_text grade_kind granted.authority.now.end granted.authority.now.grades granted.grades
    ++ line_of (codes "done" ∷ [])

-- a reply
abbrev pub reply_text : Track → SessionReply → List ℕ
reply_text track Nothing = []
reply_text track (Accepted version) = accepted_reply version
reply_text track (GrantedReply granted) = grant_text track granted
reply_text track (Blocked train obstacle at version) = blocked_reply track train version at obstacle
reply_text track (RefusedReply refusal) = refused_reply track (refusal_view refusal)

-- ---- the sections that are named are the track's

abbrev pub ObstacleIsOfTrack : Track → Obstacle → Type 0
ObstacleIsOfTrack track (NoLink leg) = leg.section < length track.sections
ObstacleIsOfTrack track (NotLockedAhead section) = section < length track.sections
ObstacleIsOfTrack track _ = Unit {0}

abbrev pub EventIsOfTrack : Track → Refusal → Type 0
EventIsOfTrack track (Clash section) = section < length track.sections
EventIsOfTrack track (LinkTaken leg) = leg.section < length track.sections
EventIsOfTrack track (NotLocked section) = section < length track.sections
EventIsOfTrack track (Busy section train) = section < length track.sections
EventIsOfTrack track _ = Unit {0}

abbrev pub RefusalIsOfTrack : Track → SessionRefusal → Type 0
RefusalIsOfTrack track (ToldBadEvent refusal) = EventIsOfTrack track refusal
RefusalIsOfTrack track _ = Unit {0}

-- what a reply names stands in the track
abbrev pub ReplyIsWhole : Track → SessionReply → Type 0
ReplyIsWhole track (GrantedReply granted) = ObstacleIsOfTrack track granted.obstacle
ReplyIsWhole track (Blocked train obstacle at version) = ObstacleIsOfTrack track obstacle
ReplyIsWhole track (RefusedReply refusal) = RefusalIsOfTrack track refusal
ReplyIsWhole track _ = Unit {0}
