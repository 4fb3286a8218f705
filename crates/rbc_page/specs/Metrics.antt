-- What was counted, in the text format that Prometheus reads.
use Rattle.std.specs.Prelude.{ℕ, ◌+◌, ◌/◌, ◌%◌, List, [], ◌∷◌, ◌++◌, drop, codes, decimal}
use Rattle.rbc_page.specs.declared.numbers.Refused.{Refused}
use Rattle.rbc_page.specs.declared.numbers.Numbers.{Numbers}

-- the line that says what a number is, of this kind
unfoldable pub with_type : List ℕ → List ℕ → List ℕ → List ℕ
with_type text name kind = ((((text ++ codes "# TYPE rbc_") ++ name) ++ codes " ") ++ kind) ++ codes "\n"

-- the line of a number
unfoldable pub with_value : List ℕ → List ℕ → ℕ → List ℕ
with_value text name value = ((((text ++ codes "rbc_") ++ name) ++ codes " ") ++ decimal value) ++ codes "\n"

-- a number of this kind
unfoldable pub with_number : List ℕ → List ℕ → List ℕ → ℕ → List ℕ
with_number text name kind value = with_value (with_type text name kind) name value

-- a time in whole microseconds, told in seconds with six digits behind the point: the digits of a million more, without the first one
abbrev pub micros_text : ℕ → List ℕ
micros_text micros = drop 1 (decimal (micros % 1000000 + 1000000))

unfoldable pub with_seconds : List ℕ → List ℕ → ℕ → List ℕ
with_seconds text name micros = ((((((text ++ codes "rbc_") ++ name) ++ codes " ") ++ decimal (micros / 1000000)) ++ codes ".") ++ micros_text micros) ++ codes "\n"

-- the line of one reason
unfoldable pub with_refused : List ℕ → List ℕ → ℕ → List ℕ
with_refused text word count = ((((text ++ codes "rbc_refused_total{kind=\"") ++ word) ++ codes "\"} ") ++ decimal count) ++ codes "\n"

-- the lines of all reasons, in order
unfoldable pub with_all_refused : List ℕ → List Refused → List ℕ
with_all_refused text [] = text
with_all_refused text (refused ∷ more) = with_all_refused (with_refused text refused.word.now refused.count) more

abbrev pub gauge : List ℕ
gauge = codes "gauge"

abbrev pub counter : List ℕ
counter = codes "counter"

-- the history and its scene
unfoldable pub with_history : List ℕ → Numbers → List ℕ
with_history text numbers =
    with_number (with_number (with_number (with_number text (codes "entries") gauge numbers.entries) (codes "most_entries") gauge numbers.most_entries)
    (codes "trains") gauge numbers.trains) (codes "locked_sections") gauge numbers.locked

-- the connections
unfoldable pub with_connections : List ℕ → Numbers → List ℕ
with_connections text numbers =
    with_number (with_number (with_number text (codes "open_connections") gauge numbers.open) (codes "connections_total") counter numbers.connections)
    (codes "lines_total") counter numbers.lines

-- the replies that refuse nothing
unfoldable pub with_replies : List ℕ → Numbers → List ℕ
with_replies text numbers =
    with_number (with_number (with_number text (codes "ok_total") counter numbers.ok) (codes "granted_total") counter numbers.granted)
    (codes "blocked_total") counter numbers.blocked

-- the replies that refuse, for each reason
unfoldable pub with_refusals : List ℕ → Numbers → List ℕ
with_refusals text numbers = with_all_refused (with_type text (codes "refused_total") counter) numbers.refused.now

-- the puts into the journal, and how long they took
unfoldable pub with_commits : List ℕ → Numbers → List ℕ
with_commits text numbers =
    with_seconds (with_type (with_number text (codes "commits_total") counter numbers.commits) (codes "commit_seconds_total") counter) (codes "commit_seconds_total") numbers.commit_micros

-- all of it
unfoldable pub numbers_text : Numbers → List ℕ
numbers_text numbers = with_commits (with_refusals (with_replies (with_connections (with_history [] numbers) numbers) numbers) numbers) numbers
