-- The lines of a reply as the pieces that are printed one behind another.
use Rattle.std.proofs.Common.{◌≡◌, ℕ, List, [], ◌∷◌, ◌++◌, refl, sym, ap, ◌∙◌, append_assoc, append-nil, arith, ◌==◌, true, take, drop, take-append-drop, length, ◌+◌}
use Rattle.std.proofs.lemmas.Bool.{eqb-true}
use Rattle.std.specs.Prelude.{codes, decimal}
use Rattle.std.specs.List.{flat_map, join_with_byte}
use Rattle.std.proofs.lemmas.Grind.{flat_map-append}
use Rattle.rbc_model.specs.declared.refusals.LineFault.TheVariants.{Overlong, NotText, Command, Words, Number, Name}
use Rattle.rbc_model.specs.declared.refusals.StepsRefusal.{StepsRefusal}
use Rattle.rbc_model.specs.declared.refusals.StepsRefusal.TheVariants.{BadLine, NotRising, OutOfRange, Memory}
use Rattle.rbc_model.specs.Kinds.{Kind}
use Rattle.rbc_model.specs.Profiles.{StepFunction}
use Rattle.rbc_model.specs.StepsReply.{profile_line, packet_lines, refusal_reply, refusal_words, run_words}
use Rattle.rbc_model.specs.Words.{line_of, hex_of}
use Rattle.rbc_words.specs.PriceText.{prices_text}
use Rattle.rbc_words.specs.declared.steps_reply.Basis.{Basis}
use Rattle.rbc_words.specs.Replies.{runs_text, track_text, certificate_lines}
use Rattle.rbc_words.proofs.SpacedLemmas.{join_spaced}

-- a word behind a space
abbrev spaced : List ℕ → List ℕ
spaced word = 32 ∷ word

-- runs as words behind spaces
pub spaced_runs : {V : Type 0} (kind : Kind V) (runs : List (ℕ × V)) → flat_map spaced (run_words kind runs) ≡ runs_text kind runs
spaced_runs kind [] = refl
spaced_runs kind ((start, value) ∷ runs) = ap (λ l. 32 ∷ ((decimal start ++ 58 ∷ kind.print value) ++ l)) (spaced_runs kind runs)

-- a line of runs behind a word, and of a number behind its name
line_of_runs : {V : Type 0} (kind : Kind V) (runs : List (ℕ × V)) (word name number : List ℕ)
    → line_of (word ∷ (run_words kind runs ++ (name ∷ number ∷ []))) ≡ word ++ (runs_text kind runs ++ (32 ∷ (name ++ 32 ∷ (number ++ 10 ∷ []))))
line_of_runs kind runs word name number =
    let last : List (List ℕ) = name ∷ number ∷ [] in
    ap (λ l. l ++ 10 ∷ []) (join_spaced word (run_words kind runs ++ last) ∙ ap (λ l. word ++ l) (flat_map-append spaced (run_words kind runs) last ∙ ap (λ l. l ++ flat_map spaced last) (spaced_runs kind runs)))
    ∙ append_assoc word (runs_text kind runs ++ flat_map spaced last) (10 ∷ [])
    ∙ ap (λ l. word ++ l) (append_assoc (runs_text kind runs) (flat_map spaced last) (10 ∷ []))
    ∙ ap (λ l. word ++ (runs_text kind runs ++ (32 ∷ l))) (append_assoc name (32 ∷ (number ++ [])) (10 ∷ []) ∙ ap (λ l. name ++ (32 ∷ (l ++ 10 ∷ []))) (append-nil number))

-- the pieces of a track's line: its command and limit, and its runs and its end
pub track_text-is : {V : Type 0} (kind : Kind V) (limit : ℕ) (track : StepFunction V) (runs : List (ℕ × V)) (end : ℕ)
    → runs ≡ track.steps → end ≡ track.end
    → track_text kind limit track
    ≡ (kind.command ++ (32 ∷ decimal limit)) ++ (runs_text kind runs ++ (codes " end " ++ (decimal end ++ 10 ∷ [])))
track_text-is {V} kind limit track runs end same_runs same_end =
    let words = run_words kind track.steps ++ (codes "end" ∷ decimal track.end ∷ []) in
    let behind : List (ℕ × V) → ℕ → List ℕ = λ rs e. runs_text kind rs ++ (codes " end " ++ (decimal e ++ 10 ∷ [])) in
    append_assoc kind.command (32 ∷ join_with_byte 32 (decimal limit ∷ words)) (10 ∷ [])
    ∙ ap (λ l. kind.command ++ (32 ∷ l)) (line_of_runs kind track.steps (decimal limit) (codes "end") (decimal track.end))
    ∙ sym (append_assoc kind.command (32 ∷ decimal limit) (behind track.steps track.end))
    ∙ ap (λ rs. (kind.command ++ (32 ∷ decimal limit)) ++ behind rs track.end) (sym same_runs)
    ∙ ap (λ e. (kind.command ++ (32 ∷ decimal limit)) ++ behind runs e) (sym same_end)

-- the pieces of a profile's line
pub profile_line-is : {V : Type 0} (kind : Kind V) (steps runs : List (ℕ × V)) (loss : ℕ) → runs ≡ steps
    → profile_line kind steps loss ≡ codes "steps" ++ (runs_text kind runs ++ (codes " loss " ++ (decimal loss ++ 10 ∷ [])))
profile_line-is kind steps runs loss same =
    line_of_runs kind steps (codes "steps") (codes "loss") (decimal loss)
    ∙ ap (λ rs. codes "steps" ++ (runs_text kind rs ++ (codes " loss " ++ (decimal loss ++ 10 ∷ [])))) (sym same)

-- the lines of a certificate, each before those behind it
pub certificate_lines-is : {V : Type 0} (kind : Kind V) (profile : StepFunction V) (loss : ℕ) (basis : Basis V)
    → certificate_lines kind profile loss basis
    ≡ track_text kind basis.limit basis.track.now ++ (profile_line kind profile.steps loss ++ prices_text basis.prices.now)
certificate_lines-is kind profile loss basis =
    append_assoc (track_text kind basis.limit basis.track.now) (profile_line kind profile.steps loss) (prices_text basis.prices.now)

-- runs are the first ones, as they are written, and then the rest
pub runs_text-split : {V : Type 0} (kind : Kind V) (count : ℕ) (runs front rest : List (ℕ × V)) → front ≡ take count runs → rest ≡ drop count runs
    → runs_text kind runs ≡ runs_text kind front ++ runs_text kind rest
runs_text-split {V} kind count runs front rest first second =
    ap (runs_text kind) (sym (take-append-drop count runs))
    ∙ flat_map-append (λ (run : ℕ × V). 32 ∷ (decimal run.0 ++ 58 ∷ kind.print run.1)) (take count runs) (drop count runs)
    ∙ ap (λ rs. runs_text kind rs ++ runs_text kind (drop count runs)) (sym first)
    ∙ ap (λ rs. runs_text kind front ++ runs_text kind rs) (sym second)

-- no runs, and no text
pub runs_text-none : {V : Type 0} (kind : Kind V) (runs : List (ℕ × V)) → (length runs == 0) ≡ true → runs_text kind runs ≡ []
runs_text-none kind [] none = refl
runs_text-none kind (run ∷ runs) none = let nothing = eqb-true (length (run ∷ runs)) 0 none in absurd (omega arith)

pub packet_lines-is : (packet : List ℕ) → packet_lines packet ≡ codes "packet " ++ (hex_of packet ++ codes "\ndone\n")
packet_lines-is packet = ap (λ l. codes "packet " ++ l) (append_assoc (hex_of packet) (10 ∷ []) (codes "done\n"))

pub refusal_reply-is : (refusal : StepsRefusal) → refusal_reply refusal ≡ codes "refused " ++ line_of (refusal_words refusal)
refusal_reply-is (BadLine Overlong) = refl
refusal_reply-is (BadLine NotText) = refl
refusal_reply-is (BadLine Command) = refl
refusal_reply-is (BadLine Words) = refl
refusal_reply-is (BadLine (Number word)) = refl
refusal_reply-is (BadLine (Name word)) = refl
refusal_reply-is NotRising = refl
refusal_reply-is OutOfRange = refl
refusal_reply-is Memory = refl
