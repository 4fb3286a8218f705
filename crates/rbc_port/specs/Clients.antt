-- Clients that come to be served: what is known of them when they come, and of how they went.
use Rattle.std.specs.Prelude.{◌≡◌, ℕ, ◌<◌, ◌++◌, length, List, [], Bool, false, Option, Some, None, Result, Err}
use Rattle.rbc_model.specs.declared.sessions.SessionFault.{SessionFault}
use Rattle.rbc_model.specs.declared.sessions.SessionFault.TheVariants.{Memory}
use Rattle.rbc_port.specs.declared.clients.Closed.{Closed}

-- what a client that comes will say, to the end of its input, and what it was told so far, where that is known
pub record Coming : Type 0 where
  pub says : Option (List ℕ)
  pub told : Option (List ℕ)

-- A client that was let go: what of its input was not read, and what it was told by then, where that is known; what of that was not handed on to it;
-- whether the last read found the end of its input; whether a read or a write failed; and how its session ended.
pub record Parting : Type 0 where
  pub unread : Option (List ℕ)
  pub told : Option (List ℕ)
  pub held_back : List ℕ
  pub found_end : Bool
  pub read_failed : Bool
  pub write_failed : Bool
  pub ended : Result (Unit {0}) SessionFault

-- a client of which nothing was read, and which was told nothing, since memory was refused
abbrev pub unheard : Coming → Parting
unheard client = record { unread = client.says; told = client.told; held_back = []; found_end = false; read_failed = false; write_failed = false; ended = Err Memory }

-- These clients came, in order, first of those that come, where those are known; the others are still to come.
abbrev pub Came : Option (List Coming) → Option (List Coming) → List Coming → Type 0
Came None later clients = Unit {0}
Came (Some coming) None clients = ⊥
Came (Some coming) (Some later) clients = coming ≡ clients ++ later

-- none comes any more, where it is known who comes
abbrev pub NoneComes : Option (List Coming) → Type 0
NoneComes None = Unit {0}
NoneComes (Some coming) = coming ≡ []

-- fewer than `count` come, where it is known who comes
abbrev pub FewerCome : Option (List Coming) → ℕ → Type 0
FewerCome None count = Unit {0}
FewerCome (Some coming) count = length coming < count

-- the clients that were accepted no more, as they were then: those that were still to come are known by it
abbrev pub at_close : {P : Type 0} → Closed P → P
at_close closed = closed.was.value
