-- What a session of `rbc steps` wrote is what the function answers, where memory was not refused.
use Rattle.std.proofs.Common.{◌≡◌, ◌≢◌, ℕ, true, List, [], ◌∷◌, ◌++◌, Result, Ok, Err, inl, inr, refl, ap, ap₂, sym, ◌∙◌, subst, append-nil, codes}
use Rattle.std.specs.Prelude.{MatchResult}
use Rattle.std.specs.List.{AllByRecursion, flat_map}
use Rattle.std.proofs.lemmas.List.{append_cancel_left}
use Rattle.std.proofs.lemmas.List.Elements.{recursion_from_All}
use Rattle.rbc_model.specs.declared.places.Format.{Format}
use Rattle.rbc_model.specs.declared.refusals.LineFault.{LineFault}
use Rattle.rbc_model.specs.declared.refusals.StepsRefusal.{StepsRefusal}
use Rattle.rbc_model.specs.declared.refusals.StepsRefusal.TheVariants.{BadLine, Memory}
use Rattle.rbc_model.specs.Levels.{IsLawful}
use Rattle.rbc_model.specs.Scales.{unit_of}
use Rattle.rbc_model.specs.Words.{line_of, hex_of}
use Rattle.rbc_model.specs.Messages.{bytes_of_fields}
use Rattle.rbc_model.specs.Sessions.{lines_of}
use Rattle.rbc_model.specs.Talks.{EachByItself, Answered}
use Rattle.rbc_model.specs.Kinds.{Kind, speed_kind, grade_kind}
use Rattle.rbc_model.specs.StepsText.{StepsRequest, StepsLine, Blank, Speed, Grade, parse_steps, track_in}
use Rattle.rbc_model.specs.StepsReply.{certificate, packet_lines, profile_reply, refusal_words, refusal_reply, IsCertified, AnswersRequest, AnswersRead, AnswersLine}
use Rattle.rbc_model.proofs.LevelLemmas.{speed_lawful, grade_lawful}
use Rattle.rbc_table_laws.specs.LeastTables.{chosen_steps}
use Rattle.rbc_session_laws.specs.StepsAnswers.{certified_reply, request_reply, read_reply, steps_reply, StepsLinesAreAnswered, StepsWrittenIsAnswered}
use Rattle.rbc_session_laws.proofs.GrantLemmas.{the_steps, the_prices}
use Rattle.rbc_session_laws.proofs.RequestLemmas.{IsAsked, IsMade, made_of, speed_asked, grade_asked}
use Rattle.rbc_session_laws.proofs.TextLemmas.{EndsLine, IsWhole, ends_behind, line_ends, lines_of-whole, IsNotMemory, all_of_both, no_memory_line}
use Rattle.rbc_model.proofs.ScaleLemmas.{expressible_whole}

-- ---- a line

module _ {V : Type 0} (kind : Kind V) (lawful : IsLawful kind.levels) (format : Format) (reply : List ℕ) where
  certified : (track : StepsRequest V) → IsMade kind format track → IsCertified kind track reply → reply ≡ certified_reply kind track
  unfolding certified_reply
  certified track made (steps, rows, chosen, greatest, said) =
      let whole = expressible_whole format track.end made.expressible in
      said
      ∙ ap (λ s. profile_reply kind track s rows) (the_steps kind.levels lawful track.limit track.end track.runs track.end steps refl whole made.some_steps made.runs chosen)
      ∙ ap (profile_reply kind track (chosen_steps kind.levels (unit_of track.end) track.limit track.end track.runs)) (the_prices kind.levels lawful track.limit track.end track.runs track.end rows refl greatest)

  by_track : (request : StepsRequest V) (made : Result (StepsRequest V) StepsRefusal) → IsAsked kind format request → track_in kind.levels request ≡ made
      → MatchResult made (λ track. IsCertified kind track reply) (λ refusal. reply ≡ refusal_reply refusal) → reply ≡ request_reply kind made
  by_track request (Ok track) asked e h = certified track (made_of kind format request track asked e) h
  by_track request (Err refusal) asked e h = h

  requested : (request : StepsRequest V) → IsAsked kind format request → reply ≢ refusal_reply Memory → AnswersRequest kind request reply → reply ≡ request_reply kind (track_in kind.levels request)
  requested request asked kept (inl h) = by_track request (track_in kind.levels request) asked refl h
  requested request asked kept (inr h) = absurd (kept h)

  refusal_ends : (refusal : StepsRefusal) → EndsLine (refusal_reply refusal)
  refusal_ends refusal = line_ends (codes "refused" ∷ refusal_words refusal)

  packet_ends : (bytes : List ℕ) → EndsLine (packet_lines bytes)
  packet_ends bytes = ends_behind (line_of (codes "packet" ∷ hex_of bytes ∷ [])) (line_of (codes "done" ∷ [])) (line_ends (codes "done" ∷ []))

  profile_ends : (track : StepsRequest V) (steps : List (ℕ × V)) (rows : List (List ℕ)) → EndsLine (profile_reply kind track steps rows)
  profile_ends track steps rows =
      ends_behind (certificate kind track steps rows) (packet_lines (bytes_of_fields (kind.packet true track.end steps))) (packet_ends (bytes_of_fields (kind.packet true track.end steps)))

  whole_by_track : (made : Result (StepsRequest V) StepsRefusal) → MatchResult made (λ track. IsCertified kind track reply) (λ refusal. reply ≡ refusal_reply refusal) → IsWhole reply
  whole_by_track (Ok track) (steps, rows, chosen, greatest, said) = inr (subst EndsLine (sym said) (profile_ends track steps rows))
  whole_by_track (Err refusal) h = inr (subst EndsLine (sym h) (refusal_ends refusal))

  request_whole : (request : StepsRequest V) → AnswersRequest kind request reply → IsWhole reply
  request_whole request (inl h) = whole_by_track (track_in kind.levels request) h
  request_whole request (inr h) = inr (subst EndsLine (sym h) (refusal_ends Memory))

read_is : (format : Format) (line reply : List ℕ) (said : Result StepsLine LineFault) → parse_steps format line ≡ said → reply ≢ refusal_reply Memory → AnswersRead said reply → reply ≡ read_reply said
read_is format line reply (Err fault) e kept h = h
read_is format line reply (Ok Blank) e kept h = h
read_is format line reply (Ok (Speed request)) e kept h = requested speed_kind speed_lawful format reply request (speed_asked format line request e) kept h
read_is format line reply (Ok (Grade request)) e kept h = requested grade_kind grade_lawful format reply request (grade_asked format line request e) kept h

read_whole : (format : Format) (reply : List ℕ) (said : Result StepsLine LineFault) → AnswersRead said reply → IsWhole reply
read_whole format reply (Err fault) h = inr (subst EndsLine (sym h) (refusal_ends speed_kind speed_lawful format reply (BadLine fault)))
read_whole format reply (Ok Blank) h = inl h
read_whole format reply (Ok (Speed request)) h = request_whole speed_kind speed_lawful format reply request h
read_whole format reply (Ok (Grade request)) h = request_whole grade_kind grade_lawful format reply request h

pub steps_lines_are_answered : StepsLinesAreAnswered
unfolding steps_reply
steps_lines_are_answered format line reply answers kept = read_is format line reply (parse_steps format line) refl kept answers

-- ---- a session

memory_said : lines_of (refusal_reply Memory) ≡ codes "refused Memory" ∷ []
memory_said = refl

answered : (format : Format) (first last : Unit {0}) (lines : List (List ℕ)) (text : List ℕ) → Answered (EachByItself (AnswersLine format)) first lines text last
    → AllByRecursion IsNotMemory (lines_of text) → text ≡ flat_map (steps_reply format) lines
answered format first last [] text (none, same) kept = none
answered format first last (line ∷ lines) text (reply, rest, next, answers, whole, later) kept =
    let in_lines = read_whole format reply (parse_steps format line) answers in
    let both = all_of_both (lines_of reply) (lines_of rest) (subst (AllByRecursion IsNotMemory) (ap lines_of whole ∙ lines_of-whole reply rest in_lines) kept) in
    let here : reply ≢ refusal_reply Memory = λ e. no_memory_line (lines_of reply) (ap lines_of e ∙ memory_said) both.0 in
    whole ∙ ap₂ (λ a b. a ++ b) (steps_lines_are_answered format line reply answers here) (answered format next last lines rest later both.1)

pub steps_written_is_answered : StepsWrittenIsAnswered
steps_written_is_answered format longest input old text talk none =
    let said : text ≡ talk.text = append_cancel_left old text talk.text talk.ends.0 in
    let all : lines_of input ≡ talk.treated = talk.lines ∙ ap (λ r. talk.treated ++ r) talk.ends.2 ∙ append-nil talk.treated in
    said
    ∙ answered format tt tt talk.treated talk.text talk.answered (subst (λ t. AllByRecursion IsNotMemory (lines_of t)) said (recursion_from_All IsNotMemory (lines_of text) none))
    ∙ ap (flat_map (steps_reply format)) (sym all)
