-- What the head of a request asks for.
use Rattle.std.specs.Prelude.{◌≡◌, ◌≤◌, ◌<◌, ℕ, ◌-◌, ◌==◌, if◌then◌else◌, Bool, true, false, not, ◌&&◌, List, [], ◌∷◌, length, map, take, drop, Option, Some, None, option_map, option_and_then, codes, bytes_eq, is_some, Result, Ok, Err}
use Rattle.std.specs.List.{before_first, after_first}
use Rattle.std.specs.Char.{to_ascii_lowercase}
use Rattle.httparse.specs.Grammar.{RequestHead, ReadsRequest, HasNoRequest, print_request}
use Rattle.httparse.specs.Spans.{name_and_value}
use Rattle.rbc_model.specs.Words.{number_in}
use Rattle.rbc_page.specs.declared.asked.Asked.{Asked}
use Rattle.rbc_page.specs.declared.asked.Resource.{Resource}
use Rattle.rbc_page.specs.declared.asked.Resource.TheVariants.{Viewer, Track, Scene, History, Metrics, Health}
use Rattle.rbc_page.specs.declared.hearing.Heard.{Heard}
use Rattle.rbc_page.specs.declared.hearing.Heard.TheVariants.{Request, Refused, More}
use Rattle.rbc_page.specs.declared.head.Status.{Status}
use Rattle.rbc_page.specs.declared.head.Status.TheVariants.{BadRequest, NotFound, MethodNotAllowed, TooLong}

-- ---- texts

-- whether two texts have the same letters, great or small
abbrev pub is_alike : List ℕ → List ℕ → Bool
is_alike text other = bytes_eq (map to_ascii_lowercase text) (map to_ascii_lowercase other)

-- what stands behind an opening, and before an ending
abbrev pub behind : List ℕ → List ℕ → Option (List ℕ)
behind opening text = if bytes_eq (take (length opening) text) opening then Some (drop (length opening) text) else None

abbrev pub before : List ℕ → List ℕ → Option (List ℕ)
before ending text = if bytes_eq (drop (length text - length ending) text) ending then Some (take (length text - length ending) text) else None

-- ---- fields: each has a name and a value

-- the value of the first one with this name
abbrev pub value_in : List ℕ → List (List ℕ × List ℕ) → Option (List ℕ)
value_in name [] = None
value_in name (field ∷ fields) = if is_alike field.0 name then Some field.1 else value_in name fields

-- the version in a tag of a centre that has begun so; none in any other
abbrev pub known_in : List ℕ → List ℕ → Option ℕ
known_in start tag =
    option_and_then (λ text. option_and_then (λ rest. option_and_then (λ number. option_and_then number_in (before (codes "\"") number))
    (behind (codes "-") rest)) (behind start text)) (behind (codes "\"") tag)

abbrev pub known_by : List ℕ → Option (List ℕ) → Option ℕ
known_by start tag = option_and_then (known_in start) tag

-- whether a connection is to be closed
abbrev pub is_closing : Option (List ℕ) → Bool
is_closing None = false
is_closing (Some value) = is_alike value (codes "close")

-- whether there is one
abbrev pub has_value : List ℕ → List (List ℕ × List ℕ) → Bool
has_value name fields = is_some (value_in name fields)

-- whether the client may ask again: by HTTP/1.1, where it does not close, no body is announced, and nothing has come behind the head
abbrev pub may_stay : ℕ → List (List ℕ × List ℕ) → Bool → Bool
may_stay minor fields is_alone =
    minor == 1 && is_alone && not (is_closing (value_in (codes "connection") fields)) && not (has_value (codes "content-length") fields)
    && not (has_value (codes "transfer-encoding") fields)

-- ---- the first line

-- whether only the head is asked for, by a method that there is
abbrev pub head_only : List ℕ → Option Bool
head_only method = if bytes_eq method (codes "GET") then Some false else if bytes_eq method (codes "HEAD") then Some true else None

abbrev pub page_of : List ℕ → Option Resource
page_of path =
    if bytes_eq path (codes "/") then Some Viewer
    else if bytes_eq path (codes "/track") then Some Track
    else if bytes_eq path (codes "/scene") then Some Scene
    else if bytes_eq path (codes "/history") then Some History
    else if bytes_eq path (codes "/metrics") then Some Metrics
    else if bytes_eq path (codes "/health") then Some Health
    else None

-- the version that is waited for, if a query names one; None where the query is another one
abbrev pub waited : Option ℕ → Option (Option ℕ)
waited None = None
waited (Some version) = Some (Some version)

abbrev pub number_behind : List ℕ → List ℕ → Option ℕ
number_behind word query = option_and_then number_in (behind word query)

abbrev pub after_in : List ℕ → Option (Option ℕ)
after_in query = if length query == 0 then Some None else waited (number_behind (codes "after=") query)

-- the place from which on entries are asked for; None where the query is another one
abbrev pub from_in : List ℕ → Option ℕ
from_in query = if length query == 0 then Some 0 else number_behind (codes "from=") query

-- the version that is waited for, and that place: only a scene is waited for, and only a history has a place; the other pages pass over their query
unfoldable pub query_of : Resource → List ℕ → Option (Option ℕ × ℕ)
query_of Scene query = option_map (λ after. (after, 0)) (after_in query)
query_of History query = option_map (λ from. (None, from)) (from_in query)
query_of Viewer query = Some (None, 0)
query_of Track query = Some (None, 0)
query_of Metrics query = Some (None, 0)
query_of Health query = Some (None, 0)

-- ---- all of it: the request, or how it is refused

abbrev pub by_query : Resource → Option ℕ → Bool → Bool → Option (Option ℕ × ℕ) → Result Asked Status
by_query page known is_head stays None = Err BadRequest
by_query page known is_head stays (Some said) = Ok (record { page = page; after = said.0; from = said.1; known = known; is_head = is_head; stays = stays })

abbrev pub by_page : List ℕ → Option ℕ → Bool → Bool → Option Resource → Result Asked Status
by_page query known is_head stays None = Err NotFound
by_page query known is_head stays (Some page) = by_query page known is_head stays (query_of page query)

abbrev pub by_method : List ℕ → Option ℕ → Bool → Option Bool → Result Asked Status
by_method target known stays None = Err MethodNotAllowed
by_method target known stays (Some is_head) =
    by_page (after_first (λ byte. byte == 63) target) known is_head stays (page_of (before_first (λ byte. byte == 63) target))

-- what the parts of a head say, to a centre that has begun so
unfoldable pub said_by : List ℕ → List ℕ → List ℕ → ℕ → List (List ℕ × List ℕ) → Bool → Result Asked Status
said_by start method target minor fields is_alone =
    by_method target (known_by start (value_in (codes "if-none-match") fields)) (may_stay minor fields is_alone) (head_only method)

-- what the head of these bytes says
abbrev pub meant : List ℕ → List ℕ → RequestHead → Result Asked Status
meant start bytes head =
    said_by start head.method head.target head.minor (map name_and_value head.fields) (length (print_request head) == length bytes)

abbrev pub heard_of : Result Asked Status → Heard
heard_of (Ok asked) = Request asked
heard_of (Err status) = Refused status

-- What is heard of bytes. A head at their front, with as many fields as there is room for, is heard as what it says.
abbrev pub HearsHeads : List ℕ → ℕ → List ℕ → Heard → Type 0
HearsHeads start room bytes heard =
    (head : RequestHead) (rest : List ℕ) → ReadsRequest bytes head rest → length head.fields ≤ room → heard ≡ heard_of (meant start bytes head)

-- A head with more fields than there is room for is refused for that.
abbrev pub RefusesLong : ℕ → List ℕ → Heard → Type 0
RefusesLong room bytes heard = (head : RequestHead) (rest : List ℕ) → ReadsRequest bytes head rest → room < length head.fields → heard ≡ Refused TooLong

-- a request is heard only where there is a head that says it, and more is waited for only where there is none
abbrev pub IsSaid : List ℕ → List ℕ → Heard → Type 0
IsSaid start bytes (Request asked) = (head : RequestHead) × (rest : List ℕ) × ReadsRequest bytes head rest × (meant start bytes head ≡ Ok asked)
IsSaid start bytes (Refused status) = Unit {0}
IsSaid start bytes More = HasNoRequest bytes
