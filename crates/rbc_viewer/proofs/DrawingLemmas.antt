-- A page that is being written, from line to line.
use Rattle.std.proofs.Common.{◌≡◌, ℕ, inl, inr, Bool, true, false, not, List, [], ◌∷◌, ◌++◌, Option, refl, sym, ap, ◌∙◌, subst, append_assoc, append-nil}
use Rattle.std.specs.Prelude.{IfSome}
use Rattle.std.specs.Io.KnownBytes.{Appends, Consumes, Keeps, IsAtEnd}
use Rattle.std.proofs.KnownBytes.{Appends-nil, Appends-kept, Appends-trans, Consumes-nil, Consumes-trans, Consumes-whole}
use Rattle.std.proofs.Math.Bool.{not-not}
use Rattle.std.proofs.lemmas.Grind.{flat_map-append}
use Rattle.rbc_model.specs.declared.places.Format.TheVariants.{Far}
use Rattle.rbc_model.specs.CheckText.{check_line}
use Rattle.rbc_model.specs.Sessions.{lines_of}
use Rattle.rbc_checks.specs.CheckAnswers.{check_answers_of, are_all_certified}
use Rattle.rbc_streams.specs.LineReading.{LineReading, GivesLine}
use Rattle.rbc_streams.proofs.LineLemmas.{lines_of_line, lines_of_last}
use Rattle.rbc_viewer.specs.declared.viewer.TheConstants.{BEFORE_TEXT}
use Rattle.rbc_viewer.specs.Escapes.{escape, escaped}
use Rattle.rbc_viewer.specs.Judged.{Judged, unjudged, behind_line, behind_lines, at_end}
use Rattle.rbc_viewer.specs.Pages.{rest_of_page, page_text, DrawsAll}
use Rattle.rbc_viewer.proofs.JudgedLemmas.{verdicts_are, refused_is}

-- ---- from line to line

-- the line that was given is the first of what was pending, with whatever comes unless the input has ended
front_with : (pending more : List ℕ) (lines : LineReading) → GivesLine pending lines → (lines.ended ≡ true → more ≡ [])
    → lines_of (pending ++ more) ≡ lines.line ∷ lines_of (lines.pending ++ more)
front_with pending more lines gives over = elim gives.rest [
  | inl fed ↦ ap (λ bytes. lines_of (bytes ++ more)) fed
      ∙ ap lines_of (append_assoc lines.line (10 ∷ lines.pending) more)
      ∙ lines_of_line lines.line (lines.pending ++ more) gives.one_line
  | inr last ↦ rw (over last.over, last.none_left, append-nil)
      (ap lines_of last.whole ∙ lines_of_last lines.line gives.one_line last.some)
]

-- what was read, but for the bytes that are pending, was written, and its lines were judged
pub record IsDrawing (first now : Judged) (left0 left written0 written : Option (List ℕ)) (ended : Bool) (pending : List ℕ) : Type 0 where
  pub done : List ℕ
  pub took : Consumes left0 left (done ++ pending)
  pub wrote : Appends written0 written (escaped done)
  pub judges : (more : List ℕ) → (ended ≡ true → more ≡ [])
      → behind_lines first (lines_of ((done ++ pending) ++ more)) ≡ behind_lines now (lines_of (pending ++ more))

-- all of it was
abbrev pub IsDrawn : Judged → Judged → Option (List ℕ) → Option (List ℕ) → Option (List ℕ) → Option (List ℕ) → Type 0
IsDrawn first last left0 left written0 written =
    (input : List ℕ) × Consumes left0 left input × Appends written0 written (escaped input) × (last ≡ behind_lines first (lines_of input))

pub nothing_drawn : (first : Judged) (left written : Option (List ℕ)) → IsDrawing first first left left written written false []
nothing_drawn first left written = record {
  done = [];
  took = Consumes-nil left;
  wrote = Appends-nil written;
  judges = λ more over. refl;
}

module _ {first now : Judged} {left0 left written0 written : Option (List ℕ)} {ended : Bool} {pending : List ℕ}
    (d : IsDrawing first now left0 left written0 written ended pending)
    (left' : Option (List ℕ)) (taken : List ℕ) (took : Consumes left left' taken) (none : ended ≡ true → taken ≡ [])
    (sent : Option (List ℕ)) (kept : Keeps written sent) where
  written_so_far : Appends written0 sent (escaped d.done)
  written_so_far = Appends-kept written0 written sent (escaped d.done) d.wrote kept

  read_so_far : Consumes left0 left' ((d.done ++ pending) ++ taken)
  read_so_far = Consumes-trans left0 left left' (d.done ++ pending) taken d.took took

  -- a line was read, and written, and judged
  module _ (lines : LineReading) (stays : ended ≡ true → lines.ended ≡ true) (gives : GivesLine (pending ++ taken) lines)
      (written' : Option (List ℕ)) (wrote : Appends sent written' (escaped lines.taken)) (next : Judged) (is : next ≡ behind_line now (check_line Far lines.line)) where
    whole : (d.done ++ lines.taken) ++ lines.pending ≡ (d.done ++ pending) ++ taken
    whole = append_assoc d.done lines.taken lines.pending ∙ ap (λ l. d.done ++ l) (sym gives.cut) ∙ sym (append_assoc d.done pending taken)

    judges : (more : List ℕ) → (lines.ended ≡ true → more ≡ [])
        → behind_lines first (lines_of (((d.done ++ lines.taken) ++ lines.pending) ++ more)) ≡ behind_lines next (lines_of (lines.pending ++ more))
    judges more over =
        let both : ended ≡ true → taken ++ more ≡ [] = λ e. rw (none e, over (stays e)) refl in
        ap (λ b. behind_lines first (lines_of (b ++ more))) whole
        ∙ ap (λ b. behind_lines first (lines_of b)) (append_assoc (d.done ++ pending) taken more)
        ∙ d.judges (taken ++ more) both
        ∙ ap (λ b. behind_lines now (lines_of b)) (sym (append_assoc pending taken more))
        ∙ ap (behind_lines now) (front_with (pending ++ taken) more lines gives over)
        ∙ ap (λ j. behind_lines j (lines_of (lines.pending ++ more))) (sym is)

    pub line_drawn : IsDrawing first next left0 left' written0 written' lines.ended lines.pending
    line_drawn = record {
      done = d.done ++ lines.taken;
      took = subst (Consumes left0 left') (sym whole) read_so_far;
      wrote = subst (Appends written0 written') (sym (flat_map-append escape d.done lines.taken)) (Appends-trans written0 sent written' _ _ written_so_far wrote);
      judges = judges;
    }

  -- no byte is left
  module _ (nothing : pending ++ taken ≡ []) where
    all : (d.done ++ pending) ++ taken ≡ d.done
    all = append_assoc d.done pending taken ∙ ap (λ l. d.done ++ l) nothing ∙ append-nil d.done

    pub all_drawn : IsDrawn first now left0 left' written0 sent
    all_drawn = (
      d.done,
      subst (Consumes left0 left') all read_so_far,
      written_so_far,
      sym (ap (λ b. behind_lines first (lines_of b)) (sym all) ∙ d.judges taken none ∙ ap (λ b. behind_lines now (lines_of b)) nothing),
    )

-- ---- a whole page

module _ (left left' old opened drawn new : Option (List ℕ)) (input : List ℕ) (end : IsAtEnd left') (took : Consumes left left' input)
    (opens : Appends old opened BEFORE_TEXT.now) (wrote : Appends opened drawn (escaped input))
    (last : Judged) (is : last ≡ at_end (behind_lines unjudged (lines_of input)))
    (closes : Appends drawn new (rest_of_page last.verdicts)) where
  verdicts : last.verdicts ≡ check_answers_of Far input
  verdicts = ap (λ (j : Judged). j.verdicts) is ∙ verdicts_are unjudged (lines_of input)

  certified : not last.refused ≡ are_all_certified Far input
  certified = ap (λ (j : Judged). not j.refused) is ∙ ap not (refused_is unjudged (lines_of input)) ∙ not-not (are_all_certified Far input)

  page : Appends old new (page_text input (check_answers_of Far input))
  page = subst (λ v. Appends old new (page_text input v)) verdicts
      (Appends-trans old opened new BEFORE_TEXT.now (escaped input ++ rest_of_page last.verdicts) opens
      (Appends-trans opened drawn new (escaped input) (rest_of_page last.verdicts) wrote closes))

  pub is_page : DrawsAll (not last.refused) left old new
  is_page = λ read known.
      subst (λ l. IfSome l (λ i. Appends old new (page_text i (check_answers_of Far i)) × (not last.refused ≡ are_all_certified Far i))) known
      (Consumes-whole left left' input (λ i. Appends old new (page_text i (check_answers_of Far i)) × (not last.refused ≡ are_all_certified Far i)) took end (page, certified))
