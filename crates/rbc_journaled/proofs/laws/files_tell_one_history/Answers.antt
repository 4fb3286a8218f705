use Rattle.std.proofs.Common.{◌≡◌, [], List, ℕ, sym, ◌∙◌, subst}
use Rattle.std.proofs.lemmas.Option.{same_Some}
use Rattle.rbc_journal.specs.Journal.{recovered}
use Rattle.rbc_model.specs.Histories.{Beginning, Entry}
use Rattle.rbc_journaled.specs.Adds.{Adds}
use Rattle.rbc_journaled.specs.Tells.{Tells}
use Rattle.rbc_journaled.proofs.AddingLemmas.{are_retold}
use Rattle.rbc_journaled.proofs.GateLemmas.{journals_are_sessions}
use Rattle.rbc_journaled.proofs.TellingLemmas.{tell_one, front_tells}
use Rattle.rbc_journaled.proofs.laws.files_tell_one_history.Goals as goal

only_one : (begin : Beginning) (before : List Entry) (line : List ℕ) (a b : Entry) → Adds begin before line a → Adds begin before line b → a ≡ b
only_one begin before line a b first second = same_Some a b (sym first ∙ second)

pub returns-clause-one : goal.returns-clause-one
returns-clause-one c begin file some other a b = tell_one (Adds begin) (only_one begin) [] (recovered file) some other a b

pub returns-clause-beginnings : goal.returns-clause-beginnings
returns-clause-beginnings c begin file later rest entries told is =
    front_tells (Adds begin) [] (recovered file) rest entries (subst (λ (ls : List (List ℕ)). Tells (Adds begin) [] ls entries) is told)

pub returns-clause-retold : goal.returns-clause-retold
returns-clause-retold c = are_retold

pub returns-clause-sessions : goal.returns-clause-sessions
returns-clause-sessions c = journals_are_sessions
