-- Lemmas on the line of a request.
use Rattle.std.proofs.Common.{◌≡◌, ℕ, ◌≤◌, Bool, true, false, List, length, take, Result, Ok, Err, refl, sym, ap, ◌∙◌, subst, arith, nat_lt}
use Rattle.std.proofs.lemmas.Bool.{ltb-false}
use Rattle.rbc_journal.specs.Journal.{IsTold}
use Rattle.rbc_journaled.proofs.AddingLemmas.{adds_said}
use Rattle.rbc_journaled.proofs.TreatingLemmas.{said_is_told}
use Rattle.rbc_sessions.specs.Keeping.{AddsEntry}
use Rattle.rbc_sessions.specs.Records.{begin_of, HistoryOnTrack}
use Rattle.rbc_model.proofs.SaidLineLemmas.{said_line_read}
use Rattle.rbc_model.specs.declared.limits.TheConstants.{LONGEST_LINE}
use Rattle.rbc_model.specs.declared.refusals.LineFault.{LineFault}
use Rattle.rbc_model.specs.declared.refusals.LineFault.TheVariants.{Overlong}
use Rattle.rbc_model.specs.SessionText.{SessionLine, parse_session, said_line, IsSayable}
use Rattle.rbc_journaled.specs.Entries.{TellsEntry}

-- it may be told in a journal
pub text_is_told : (said : SessionLine) (text : List ℕ) → IsSayable said → text ≡ said_line said → IsTold text
text_is_told said text sayable is = subst IsTold (sym is) (said_is_told said sayable)

-- it says the request
pub text_says : (said : SessionLine) (text : List ℕ) → IsSayable said → text ≡ said_line said → parse_session text ≡ Ok said
text_says said text sayable is = ap parse_session is ∙ said_line_read said sayable

err_is_ok : (said : SessionLine) (fault : LineFault) → (let r : Result SessionLine LineFault = Err fault in r) ≡ Ok said → ⊥
err_is_ok said fault e = cc

-- what is read is short
read_is_short : (line : List ℕ) (said : SessionLine) → parse_session line ≡ Ok said → (b : Bool) → nat_lt LONGEST_LINE (length line) ≡ b → length line ≤ 4096
read_is_short line said read true long =
    let refused : parse_session line ≡ Err Overlong = rw long refl in
    absurd (err_is_ok said Overlong (sym refused ∙ read))
read_is_short line said read false short = let no = ltb-false LONGEST_LINE (length line) short in omega (arith, no)

pub text_is_short : (said : SessionLine) (text : List ℕ) → IsSayable said → text ≡ said_line said → length text ≤ LONGEST_LINE
text_is_short said text sayable is = read_is_short text said (text_says said text sayable is) (nat_lt LONGEST_LINE (length text)) refl

-- the line of a request that led to an entry tells it
pub tells_asked : (history : HistoryOnTrack) (place : ℕ) (line : List ℕ) (said : SessionLine) → parse_session line ≡ Ok said → AddsEntry history place said → TellsEntry history place line
tells_asked history place line said read asked = record {
  entry = asked.entry;
  stands = asked.stands;
  adds = adds_said (begin_of history) (take place history.entries) line said asked.entry read asked.adds;
}
