-- What is answered to a request.
use Rattle.std.specs.Prelude.{ℕ, ◌==◌, nat_lt, Bool, true, false, not, ◌&&◌, List, [], ◌++◌, length, Option, Some, None, codes}
use Rattle.rbc_page.specs.declared.asked.Asked.{Asked}
use Rattle.rbc_page.specs.declared.asked.Resource.{Resource}
use Rattle.rbc_page.specs.declared.asked.Resource.TheVariants.{Viewer, Track, Scene, History, Metrics, Health}
use Rattle.rbc_page.specs.declared.head.Head.{Head}
use Rattle.rbc_page.specs.declared.head.Kind.{Kind}
use Rattle.rbc_page.specs.declared.head.Kind.TheVariants.{Html, Plain, Numbers}
use Rattle.rbc_page.specs.declared.head.Status.{Status}
use Rattle.rbc_page.specs.declared.head.Status.TheVariants.{Content, NoContent, NotModified, BadRequest, NotFound, MethodNotAllowed, TooLong, Unavailable}
use Rattle.rbc_page.specs.Heads.{with_head}

-- what there is to be shown: the viewer, the lines of the track, of a scene and of its history, and what was counted
pub record Shown : Type 0 where
  pub viewer : List ℕ
  pub track : List ℕ
  pub scene : List ℕ
  pub history : List ℕ
  pub metrics : List ℕ

-- ---- how it is answered

-- whether the client waits for more than so many entries
abbrev pub is_early : Option ℕ → ℕ → Bool
is_early None version = false
is_early (Some after) version = nat_lt version after

-- whether the client has this version
abbrev pub is_known : Option ℕ → ℕ → Bool
is_known None version = false
is_known (Some known) version = known == version

abbrev pub unless_known : Bool → Status
unless_known true = NotModified
unless_known false = Content

-- of a scene: whether its history is too short, and whether the client has it
abbrev pub scene_status : Bool → Bool → Status
scene_status true known = NoContent
scene_status false known = unless_known known

abbrev pub status_of : Resource → Option ℕ → Option ℕ → ℕ → Status
status_of Viewer after known version = unless_known (is_known known 0)
status_of Track after known version = unless_known (is_known known 0)
status_of Scene after known version = scene_status (is_early after version) (is_known known version)
status_of History after known version = unless_known (is_known known version)
status_of Metrics after known version = Content
status_of Health after known version = Content

-- whether lines of a history of so many entries are told: they are asked for, and the client has another version
abbrev pub is_told_lines : Resource → Option ℕ → ℕ → Bool
is_told_lines Viewer known version = false
is_told_lines Track known version = false
is_told_lines Scene known version = false
is_told_lines History known version = not (is_known known version)
is_told_lines Metrics known version = false
is_told_lines Health known version = false

-- the version of what is shown: viewer and track stay what they are
abbrev pub tag_of : Resource → ℕ → Option ℕ
tag_of Viewer version = Some 0
tag_of Track version = Some 0
tag_of Scene version = Some version
tag_of History version = Some version
tag_of Metrics version = None
tag_of Health version = None

abbrev pub kind_of : Resource → Kind
kind_of Viewer = Html
kind_of Track = Plain
kind_of Scene = Plain
kind_of History = Plain
kind_of Metrics = Numbers
kind_of Health = Plain

-- ---- with what

abbrev pub body_of : Resource → Shown → List ℕ
body_of Viewer shown = shown.viewer
body_of Track shown = shown.track
body_of Scene shown = shown.scene
body_of History shown = shown.history
body_of Metrics shown = shown.metrics
body_of Health shown = codes "ok\n"

-- whether an answer with this status has a body
abbrev pub has_body : Status → Bool
has_body Content = true
has_body NoContent = false
has_body NotModified = false
has_body BadRequest = true
has_body NotFound = true
has_body MethodNotAllowed = true
has_body TooLong = true
has_body Unavailable = true

-- the size that the head tells
abbrev pub size_of : Bool → ℕ → Option ℕ
size_of true size = Some size
size_of false size = None

-- the head of the answer
abbrev pub head_of : Asked → ℕ → ℕ → Head
head_of asked version size = record {
  status = status_of asked.page asked.after asked.known version;
  kind = kind_of asked.page;
  size = size_of (has_body (status_of asked.page asked.after asked.known version)) size;
  tag = tag_of asked.page version;
  stays = asked.stays;
}

-- a body that is sent or not
abbrev pub with_body : List ℕ → Bool → List ℕ → List ℕ
with_body text true body = text ++ body
with_body text false body = text

-- The answer of a centre that has begun so, with what there is to be shown, the scene of a history with so many entries.
unfoldable pub answer_with : List ℕ → Asked → Shown → ℕ → List ℕ
answer_with start asked shown version =
    with_body (with_head [] start (head_of asked version (length (body_of asked.page shown))))
    (has_body (status_of asked.page asked.after asked.known version) && not asked.is_head) (body_of asked.page shown)

-- ---- refusals: they have no body, and the client may not ask again

abbrev pub refusal_head : Status → Head
refusal_head status = record { status = status; kind = Plain; size = Some 0; tag = None; stays = false }

unfoldable pub refusal_text : List ℕ → Status → List ℕ
refusal_text start status = with_head [] start (refusal_head status)
