-- What a session of `rbc steps` answers, as a function of what was read, where memory is never refused.
use Rattle.std.specs.Prelude.{◌≡◌, ◌≢◌, ℕ, List, [], ◌++◌, Some, Result, Ok, Err}
use Rattle.std.specs.List.{flat_map}
use Rattle.rbc_model.specs.declared.places.Format.{Format}
use Rattle.rbc_model.specs.declared.refusals.LineFault.{LineFault}
use Rattle.rbc_model.specs.declared.refusals.StepsRefusal.{StepsRefusal}
use Rattle.rbc_model.specs.declared.refusals.StepsRefusal.TheVariants.{BadLine, Memory}
use Rattle.rbc_model.specs.Scales.{unit_of}
use Rattle.rbc_model.specs.Sessions.{lines_of}
use Rattle.rbc_model.specs.Talks.{EachByItself, IsTalk}
use Rattle.rbc_model.specs.Kinds.{Kind, speed_kind, grade_kind}
use Rattle.rbc_model.specs.StepsText.{StepsRequest, StepsLine, Blank, Speed, Grade, parse_steps, track_in}
use Rattle.rbc_model.specs.StepsReply.{profile_reply, refusal_reply, AnswersLine}
use Rattle.rbc_table_laws.specs.LeastTables.{greatest_prices, chosen_steps}
use Rattle.rbc_session_laws.specs.Laws.{SaysNoMemory}

-- the reply to a request whose runs make this track
unfoldable pub certified_reply : {V : Type 0} → Kind V → StepsRequest V → List ℕ
certified_reply kind track =
    profile_reply kind track (chosen_steps kind.levels (unit_of track.end) track.limit track.end track.runs)
    (greatest_prices kind.levels (unit_of track.end) track.limit track.end track.runs)

-- the reply to a request, by what its runs make
abbrev pub request_reply : {V : Type 0} → Kind V → Result (StepsRequest V) StepsRefusal → List ℕ
request_reply kind (Ok track) = certified_reply kind track
request_reply kind (Err refusal) = refusal_reply refusal

-- the reply to what was read of a line
abbrev pub read_reply : Result StepsLine LineFault → List ℕ
read_reply (Err fault) = refusal_reply (BadLine fault)
read_reply (Ok Blank) = []
read_reply (Ok (Speed request)) = request_reply speed_kind (track_in speed_kind.levels request)
read_reply (Ok (Grade request)) = request_reply grade_kind (track_in grade_kind.levels request)

-- and to a line
unfoldable pub steps_reply : Format → List ℕ → List ℕ
steps_reply format line = read_reply (parse_steps format line)

-- what is written in answer to an input
abbrev pub steps_answers_of : Format → List ℕ → List ℕ
steps_answers_of format input = flat_map (steps_reply format) (lines_of input)

-- ---- laws

-- a line is answered just so, unless memory was refused in its treatment
abbrev pub StepsLinesAreAnswered : Type 0
StepsLinesAreAnswered = (format : Format) (line reply : List ℕ) → AnswersLine format line reply → reply ≢ refusal_reply Memory → reply ≡ steps_reply format line

-- a session up to the end of its input that wrote no line `refused Memory` wrote just what the function answers to the input
abbrev pub StepsWrittenIsAnswered : Type 0
StepsWrittenIsAnswered = (format : Format) (longest : ℕ) (input old text : List ℕ)
    → IsTalk longest (EachByItself (AnswersLine format)) tt tt input (Some old) (Some (old ++ text)) (Ok tt) → SaysNoMemory text → text ≡ steps_answers_of format input
