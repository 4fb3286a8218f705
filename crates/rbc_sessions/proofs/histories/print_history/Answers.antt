use Rattle.std.proofs.Common.{◌≡◌, List, Some, ◌∙◌, sym, subst}
use Rattle.std.specs.Prelude.{slice_get}
use Rattle.rbc_model.specs.Histories.{Entry}
use Rattle.rbc_model.specs.Tracks.{Track}
use Rattle.rbc_sweep.specs.Records.{begin_of}
use Rattle.rbc_session_laws.specs.Retelling.{IsEntryOfTrack}
use Rattle.rbc_session_laws.proofs.OfTrackLemmas.{retold_entries_are_of_track}
use Rattle.rbc_session_laws.proofs.RetellingLemmas.{retold_histories_are_sessions}
use Rattle.rbc_sessions.proofs.histories.print_history.Goals as goal

pub emit_entries-requires : goal.emit_entries-requires
emit_entries-requires g c =
    let history = c.args.history.now in
    let of_track = retold_entries_are_of_track (begin_of history) history.entries c.requires.retold in
    record {
      of_track = λ place entry here.
          subst (λ (t : Track). IsEntryOfTrack t entry) (sym (c.deref.ensures ∙ c.track.ensures))
          (of_track place entry (subst (λ (es : List Entry). slice_get es place ≡ Some entry) c.entries.ensures here));
    }

pub returns-in_err-outcome-clause-again : goal.returns-in_err-outcome-clause-again
returns-in_err-outcome-clause-again g c = retold_histories_are_sessions (begin_of c.args.history.now) c.args.history.now.entries c.requires.retold

pub returns-clause-again : goal.returns-clause-again
returns-clause-again g c = retold_histories_are_sessions (begin_of c.args.history.now) c.args.history.now.entries c.requires.retold
