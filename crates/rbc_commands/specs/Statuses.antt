-- The exit statuses of the program.
use Rattle.std.specs.Prelude.{ℕ, Bool, true, false, ◌&&◌, ◌==◌, not, if◌then◌else◌, Result, Ok, Err}
use Rattle.std.specs.IoError.{error_kind}
use Rattle.std.specs.declared.io.Error.{Error}
use Rattle.std.specs.declared.io.ErrorKind.{ErrorKind as WriteErrorKind}
use Rattle.std.specs.declared.io.ErrorKind.TheVariants.{BrokenPipe}
use Rattle.clap.specs.Values.{kind_of}
use Rattle.clap.specs.declared.error.kind.ErrorKind.{ErrorKind}
use Rattle.clap.specs.declared.error.kind.ErrorKind.TheVariants.{DisplayHelp, DisplayVersion}
use Rattle.rbc_model.specs.declared.sessions.SessionFault.{SessionFault}
use Rattle.rbc_model.specs.declared.sessions.SessionFault.TheVariants.{Memory, Write}
use Rattle.rbc_duty.specs.ServeFault.{ServeFault}
use Rattle.rbc_duty.specs.ServeFault.TheVariants.{Memory as NoServeMemory, Close, Write as ServeWrite}
use Rattle.rbc_commands.specs.declared.journal_fault.JournalFault.{JournalFault}
use Rattle.rbc_commands.specs.declared.journal_fault.JournalFault.TheVariants.{InUse, Failed, Unreadable, IsThere}
use Rattle.rbc_trackfile.specs.declared.loading.LoadFault.{LoadFault}
use Rattle.rbc_trackfile.specs.declared.loading.LoadFault.TheVariants.{Memory as NoLoadMemory}
use Rattle.rbc_commands.specs.declared.failure.Failure.{Failure}
use Rattle.rbc_commands.specs.declared.failure.Failure.TheVariants.{CommandLine, NotText, NotCertified, NotRead, Load, Begin, Session, History, Journal, NoPort, Serve, Memory as NoMemory}

-- after a command line that asks for help, or that is refused
abbrev pub status_of_kind : ErrorKind → ℕ
status_of_kind DisplayHelp = 0
status_of_kind DisplayVersion = 0
status_of_kind _ = 2

-- after a session's fault
abbrev pub status_of_fault : SessionFault → ℕ
status_of_fault Memory = 5
status_of_fault _ = 4

-- after a track that can't be had
abbrev pub status_of_load : LoadFault → ℕ
status_of_load NoLoadMemory = 5
status_of_load _ = 3

-- after a fault of a centre that serves connections
abbrev pub status_of_serve : ServeFault → ℕ
status_of_serve NoServeMemory = 5
status_of_serve (Close fault) = 6
status_of_serve _ = 4

-- after a journal that is not opened, not gone on with or not told of
abbrev pub status_of_journal : JournalFault → ℕ
status_of_journal InUse = 4
status_of_journal (Failed call) = 4
status_of_journal Unreadable = 4
status_of_journal IsThere = 4
status_of_journal _ = 3

-- after any of them
abbrev pub status_of : Failure → ℕ
status_of (CommandLine error) = status_of_kind (kind_of error)
status_of NotText = 2
status_of NotCertified = 1
status_of NotRead = 1
status_of (Load fault reason) = status_of_load fault
status_of (Begin fault reason) = 3
status_of (Session fault) = status_of_fault fault
status_of (History fault reason) = 4
status_of (Journal fault place) = status_of_journal fault
status_of (NoPort reason) = 4
status_of (Serve fault) = status_of_serve fault
status_of NoMemory = 5

-- whether a command ended since the standard output could not be written
abbrev pub is_output_fault : Result (Unit {0}) Failure → Bool
is_output_fault (Err (Session Write)) = true
is_output_fault (Err (Serve ServeWrite)) = true
is_output_fault _ = false

-- whether a write failed since the reader has gone
abbrev pub is_pipe_broken : WriteErrorKind → Bool
is_pipe_broken BrokenPipe = true
is_pipe_broken _ = false

abbrev pub is_reader_gone : Error → Bool
is_reader_gone error = is_pipe_broken (error_kind error)

-- whether help that is asked for could not be printed, though there is a reader
abbrev pub is_help_lost : ℕ → Result (Unit {0}) Error → Bool
is_help_lost status (Ok tt) = false
is_help_lost status (Err error) = status == 0 && not (is_reader_gone error)

-- how a command ends, where it is known whether the reader of the standard output has gone: then nobody wants the rest
abbrev pub end_of : Result (Unit {0}) Failure → Bool → Result (Unit {0}) Failure
end_of outcome is_unread = if is_output_fault outcome && is_unread then Ok tt else outcome
