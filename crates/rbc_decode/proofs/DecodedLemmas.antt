-- A session that came to the end of its input has answered it as the function says.
use Rattle.std.proofs.Common.{◌≡◌, ℕ, Bool, true, false, not, ◌||◌, ◌&&◌, List, [], ◌∷◌, ◌++◌, Option, Some, None, Ok, refl, ap, ap₂, sym, ◌∙◌, subst, append-nil}
use Rattle.std.specs.Prelude.{IfSome}
use Rattle.std.specs.List.{list_all}
use Rattle.std.specs.Io.KnownBytes.{Consumes, IsAtEnd}
use Rattle.std.proofs.KnownBytes.{Consumes-whole}
use Rattle.std.proofs.lemmas.List.{append_cancel_left}
use Rattle.rbc_model.specs.declared.limits.TheConstants.{LONGEST_CHECK_LINE}
use Rattle.rbc_model.specs.Sessions.{lines_of}
use Rattle.rbc_model.specs.Talks.{Answered, IsTalk}
use Rattle.rbc_decode.specs.declared.decoding.Progress.{Progress}
use Rattle.rbc_decode.specs.DecodeText.{Printing, decode_reply, replies_from, is_refused, AnswersDecode, DecodesAll, decode_text, is_all_read, opening}

-- none of the lines is refused
abbrev all_read : List (List ℕ) → Bool
all_read lines = list_all (λ line. not (is_refused line)) lines

either : (first refused : Bool) (rest : Bool) → (not (first || refused) && rest) ≡ (not first && (not refused && rest))
either true refused rest = refl
either false true rest = refl
either false false rest = refl

none_more : (first : Bool) → not first ≡ (not first && true)
none_more true = refl
none_more false = refl

module _ (printing : Printing) where
  record IsAnswered (first last : Progress) (lines : List (List ℕ)) (text : List ℕ) : Type 0 where
    text_is : text ≡ replies_from printing first.line first.granted lines
    told_is : not last.refused ≡ (not first.refused && all_read lines)

  lines_answered : (first last : Progress) (lines : List (List ℕ)) (text : List ℕ) → Answered (AnswersDecode printing) first lines text last → IsAnswered first last lines text
  lines_answered first last [] text (none, same) = record { text_is = none; told_is = ap (λ (p : Progress). not p.refused) same ∙ none_more first.refused }
  lines_answered first last (line ∷ lines) text (reply, rest, next, answers, whole, answered) =
      let later = lines_answered next last lines rest answered in
      record {
        text_is = whole ∙ ap (λ t. t ++ rest) answers.0
            ∙ ap (λ t. decode_reply printing first.line first.granted line ++ t) (later.text_is ∙ ap₂ (λ n g. replies_from printing n g lines) answers.1 answers.3);
        told_is = later.told_is ∙ ap (λ b. not b && all_read lines) answers.2 ∙ either first.refused (is_refused line) (all_read lines);
      }

  talked : (last : Progress) (input held text : List ℕ) → IsTalk LONGEST_CHECK_LINE (AnswersDecode printing) opening last input (Some held) (Some (held ++ text)) (Ok tt)
      → (text ≡ decode_text printing input) × (not last.refused ≡ is_all_read input)
  talked last input held text talk =
      let answers = lines_answered opening last talk.treated talk.text talk.answered in
      let all : lines_of input ≡ talk.treated = talk.lines ∙ ap (λ rest. talk.treated ++ rest) talk.ends.2 ∙ append-nil talk.treated in
      let wrote : text ≡ talk.text = append_cancel_left held text talk.text talk.ends.0 in (
        wrote ∙ answers.text_is ∙ ap (replies_from printing 1 None) (sym all),
        answers.told_is ∙ ap all_read (sym all),
      )

  -- a session whose input is known
  pub decodes_all : (left_before left_after old new : Option (List ℕ)) (last : Progress) (read : List ℕ) → IsAtEnd left_after → Consumes left_before left_after read
      → IsTalk LONGEST_CHECK_LINE (AnswersDecode printing) opening last read old new (Ok tt) → DecodesAll printing (not last.refused) left_before old new
  decodes_all left_before left_after old new last read end taken talk = λ input held text left was is.
      talked last input held text
      (subst (λ n. IsTalk LONGEST_CHECK_LINE (AnswersDecode printing) opening last input (Some held) n (Ok tt)) is
      (subst (λ o. IsTalk LONGEST_CHECK_LINE (AnswersDecode printing) opening last input o new (Ok tt)) was
      (subst (λ l. IfSome l (λ i. IsTalk LONGEST_CHECK_LINE (AnswersDecode printing) opening last i old new (Ok tt))) left
      (Consumes-whole left_before left_after read (λ i. IsTalk LONGEST_CHECK_LINE (AnswersDecode printing) opening last i old new (Ok tt)) taken end talk))))
