-- Replies of a session, to the letter.
use Rattle.std.proofs.Common.{◌≡◌, ℕ, List, [], ◌∷◌, ◌++◌, refl, codes, Ok, pos, negsuc, true}
use Rattle.std.specs.Fmt.{digits}
use Rattle.rbc_model.specs.declared.refusals.LineFault.TheVariants.{Command, Name}
use Rattle.rbc_model.specs.declared.refusals.Obstacle.TheVariants.{NoLink, NotLocked as NotLockedAhead, Own, Occupied, Held, Limit}
use Rattle.rbc_model.specs.declared.refusals.Refusal.TheVariants.{UnknownGroup, LinkTaken, NotLocked, Busy, UnknownTrain, YieldRange}
use Rattle.rbc_model.specs.Views.{View, view}
use Rattle.rbc_model.specs.Histories.{Grants}
use Rattle.rbc_model.specs.SessionReply.{BadLine, UnknownName, BadEvent, Full, Memory, accepted_reply, grant_reply, blocked_reply, refused_reply}
use Rattle.rbc_examples.specs.Places.{single, double, plus, minus, lock, nominal}
use Rattle.rbc_examples.specs.Answers.{after}
use Rattle.rbc_examples.proofs.HistoryExamples.{grant}

abbrev feed : List ℕ
feed = 10 ∷ []

accepted : accepted_reply 7 ≡ codes "ok 7" ++ feed
unfolding digits
accepted = refl

-- ---- grants

-- what the train of the whole history is shown, and what it is granted
abbrev shown : View
shown =
    record {
      train = 1;
      group = record { country = 5; number = 17 };
      nominal = true;
      time = 1000;
      line = plus 0 ∷ [];
      origin = 0;
      start = 305;
      front = 305;
      to = 305;
      end = 1000;
      reach = 1000;
      obstacle = NoLink (plus 0);
      speed_steps = 31;
      grade_steps = 31;
      speeds = (0, 100) ∷ [];
      grades = (0, negsuc 4) ∷ [];
    }

shown_there : view single (after single (lock 0 ∷ nominal 1 17 300 5 5 200 1000 ∷ [])) 1 ≡ Ok shown
shown_there = refl

granted_without_prices : grant_reply single 3 shown grant [] []
    ≡ codes "granted 1 3 305 1000 NoLink S1+" ++ feed
    ++ codes "message 0309c00000fa00280221e810901ff801f400aa04e400001420fa1fe3681590000500083e8fe000" ++ feed
    ++ codes "speed 31 0:100 end 1000" ++ feed
    ++ codes "steps 0:100 loss 0" ++ feed
    ++ codes "grade 31 0:-5 end 1000" ++ feed
    ++ codes "steps 0:-5 loss 0" ++ feed
    ++ codes "done" ++ feed
unfolding digits
granted_without_prices = refl

-- with the rows of its price tables
granted_with_prices : grant_reply single 3 shown grant ((0 ∷ []) ∷ []) ((0 ∷ []) ∷ [])
    ≡ codes "granted 1 3 305 1000 NoLink S1+" ++ feed
    ++ codes "message 0309c00000fa00280221e810901ff801f400aa04e400001420fa1fe3681590000500083e8fe000" ++ feed
    ++ codes "speed 31 0:100 end 1000" ++ feed
    ++ codes "steps 0:100 loss 0" ++ feed
    ++ codes "prices 1 0" ++ feed
    ++ codes "grade 31 0:-5 end 1000" ++ feed
    ++ codes "steps 0:-5 loss 0" ++ feed
    ++ codes "prices 1 0" ++ feed
    ++ codes "done" ++ feed
unfolding digits
granted_with_prices = refl

-- a train that runs on from behind its group is granted from a negative distance
abbrev from_behind : Grants
from_behind = record grant { train = 2; from = negsuc 154 }

granted_from_behind : grant_reply single 9 shown from_behind [] []
    ≡ codes "granted 2 9 -155 1000 NoLink S1+" ++ feed
    ++ codes "message 0309c00000fa00280221e810901ff801f400aa04e400001420fa1fe3681590000500083e8fe000" ++ feed
    ++ codes "speed 31 0:100 end 1000" ++ feed
    ++ codes "steps 0:100 loss 0" ++ feed
    ++ codes "grade 31 0:-5 end 1000" ++ feed
    ++ codes "steps 0:-5 loss 0" ++ feed
    ++ codes "done" ++ feed
unfolding digits
granted_from_behind = refl

-- ---- trains that are blocked, by each obstacle

blocked_not_locked : blocked_reply double 1 1 (pos 305) (NotLockedAhead 0) ≡ codes "blocked 1 1 305 NotLocked S1" ++ feed
unfolding digits
blocked_not_locked = refl

blocked_behind : blocked_reply double 2 7 (negsuc 154) (Occupied 3) ≡ codes "blocked 2 7 -155 Occupied 3" ++ feed
unfolding digits
blocked_behind = refl

blocked_held : blocked_reply double 3 7 (pos 1205) (Held 2) ≡ codes "blocked 3 7 1205 Held 2" ++ feed
unfolding digits
blocked_held = refl

blocked_no_link : blocked_reply double 4 3 (pos 1100) (NoLink (minus 0)) ≡ codes "blocked 4 3 1100 NoLink S1-" ++ feed
unfolding digits
blocked_no_link = refl

blocked_own : blocked_reply double 1 3 (pos 0) Own ≡ codes "blocked 1 3 0 Own" ++ feed
unfolding digits
blocked_own = refl

blocked_limit : blocked_reply double 1 3 (pos 32000) Limit ≡ codes "blocked 1 3 32000 Limit" ++ feed
unfolding digits
blocked_limit = refl

-- ---- lines that are refused

refused_command : refused_reply double (BadLine Command) ≡ codes "refused Command" ++ feed
refused_command = refl

refused_word : refused_reply double (BadLine (Name 3)) ≡ codes "refused Name 3" ++ feed
unfolding digits
refused_word = refl

refused_name : refused_reply double (UnknownName (codes "R9")) ≡ codes "refused UnknownName R9" ++ feed
refused_name = refl

refused_group : refused_reply double (BadEvent UnknownGroup) ≡ codes "refused UnknownGroup" ++ feed
refused_group = refl

refused_train : refused_reply double (BadEvent (UnknownTrain 7)) ≡ codes "refused UnknownTrain 7" ++ feed
unfolding digits
refused_train = refl

refused_yield : refused_reply double (BadEvent (YieldRange 1)) ≡ codes "refused YieldRange 1" ++ feed
unfolding digits
refused_yield = refl

refused_busy : refused_reply double (BadEvent (Busy 1 12)) ≡ codes "refused Busy S2 12" ++ feed
unfolding digits
refused_busy = refl

refused_link : refused_reply double (BadEvent (LinkTaken (plus 0))) ≡ codes "refused LinkTaken S1+" ++ feed
refused_link = refl

refused_not_locked : refused_reply double (BadEvent (NotLocked 2)) ≡ codes "refused NotLocked S3" ++ feed
refused_not_locked = refl

refused_full : refused_reply double Full ≡ codes "refused Full" ++ feed
refused_full = refl

refused_memory : refused_reply double Memory ≡ codes "refused Memory" ++ feed
refused_memory = refl
