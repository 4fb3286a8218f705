-- What a whole session answers, computed: the chosen profile and its table of prices, the replies to lines, and the verdicts on certificates.
use Rattle.std.proofs.Common.{◌≡◌, ℕ, true, false, List, [], ◌∷◌, ◌++◌, refl, codes}
use Rattle.std.specs.Fmt.{digits}
use Rattle.rbc_model.specs.declared.places.Format.TheVariants.{Far}
use Rattle.rbc_model.specs.Levels.{speed_levels}
use Rattle.rbc_table_laws.specs.LeastTables.{least_to, made, least_price, filled, greatest_prices, break_back, steps_back, first_row, steps_read, chosen_steps}
use Rattle.rbc_model.specs.HistoryText.{history_text}
use Rattle.rbc_model.specs.Histories.{empty_on}
use Rattle.rbc_session_laws.specs.Answers.{grant_of, speed_prices_of, grade_prices_of, line_answer, turns_of, answers_of, entries_after}
use Rattle.rbc_session_laws.specs.CheckAnswers.{check_answers_of, are_all_certified}
use Rattle.rbc_examples.specs.Places.{single, double}
use Rattle.rbc_examples.proofs.SpeedExamples.{track_1, steps_1, track_two_cuts, steps_two_cuts}

prices_computed : greatest_prices speed_levels 1 2 300 track_1 ≡ (0 ∷ 4000 ∷ 10000 ∷ []) ∷ (0 ∷ 0 ∷ 4000 ∷ []) ∷ []
unfolding greatest_prices filled made least_price least_to
prices_computed = refl

steps_computed : chosen_steps speed_levels 1 2 300 track_1 ≡ steps_1
unfolding chosen_steps steps_read first_row steps_back break_back greatest_prices filled made least_price least_to
steps_computed = refl

first_cut_computed : chosen_steps speed_levels 1 2 300 track_two_cuts ≡ steps_two_cuts
unfolding chosen_steps steps_read first_row steps_back break_back greatest_prices filled made least_price least_to
first_cut_computed = refl

abbrev feed : List ℕ
feed = 10 ∷ []

-- a route is locked, a train reports and asks, and a train asks that is not there
session_computed : answers_of (empty_on single) []
    (codes "lock Along" ++ feed ++ codes "report 1 5/17 nominal 300 5 5 200 1000" ++ feed ++ codes "ask 1" ++ feed ++ codes "ask 2")
    ≡ codes "ok 1" ++ feed
    ++ codes "ok 2" ++ feed
    ++ codes "granted 1 3 305 1000 NoLink S1+" ++ feed
    ++ codes "message 0309c00000fa00280221e810901ff801f400aa04e400001420fa1fe3681590000500083e8fe000" ++ feed
    ++ codes "speed 31 0:100 end 1000" ++ feed
    ++ codes "steps 0:100 loss 0" ++ feed
    ++ codes "prices 1 0" ++ feed
    ++ codes "grade 31 0:-5 end 1000" ++ feed
    ++ codes "steps 0:-5 loss 0" ++ feed
    ++ codes "prices 1 0" ++ feed
    ++ codes "done" ++ feed
    ++ codes "refused UnknownTrain 2" ++ feed
unfolding digits turns_of line_answer grant_of speed_prices_of grade_prices_of chosen_steps steps_read first_row steps_back break_back greatest_prices filled made least_price least_to
session_computed = refl

-- two trains in a row, of which the one ahead asks; between them lines that are refused or have no reply
abbrev two_trains : List ℕ
two_trains =
    codes "# two trains" ++ feed
    ++ codes "lock Along" ++ feed
    ++ codes "lock Nowhere" ++ feed
    ++ codes "  lock  Onward" ++ 13 ∷ feed
    ++ feed
    ++ codes "report 01 5/17 nominal 300 5 5 200 1000" ++ feed
    ++ codes "report 2 5/017 nominal 0700 5 5 200 2000" ++ feed
    ++ codes "ask 3" ++ feed
    ++ codes "ask 2" ++ feed
    ++ codes "asks 2"

two_trains_computed : answers_of (empty_on double) [] two_trains
    ≡ codes "ok 1" ++ feed
    ++ codes "refused UnknownName Nowhere" ++ feed
    ++ codes "ok 2" ++ feed
    ++ codes "ok 3" ++ feed
    ++ codes "ok 4" ++ feed
    ++ codes "refused UnknownTrain 3" ++ feed
    ++ codes "granted 2 5 705 1500 NoLink S2+" ++ feed
    ++ codes "message 030c400001f400280221e810901ff802ee00aa066400001440fa20607d1fe3682390000500183e830000c8400012cfe000" ++ feed
    ++ codes "speed 31 0:100 1000:120 1200:160 end 1500" ++ feed
    ++ codes "steps 0:100 1000:120 1200:160 loss 0" ++ feed
    ++ codes "prices 1 0 4000 22000" ++ feed
    ++ codes "prices 2 0 0 4000" ++ feed
    ++ codes "prices 3 0 0 0" ++ feed
    ++ codes "grade 31 0:-5 1000:3 end 1500" ++ feed
    ++ codes "steps 0:-5 1000:3 loss 0" ++ feed
    ++ codes "prices 1 0 4000" ++ feed
    ++ codes "prices 2 0 0" ++ feed
    ++ codes "done" ++ feed
    ++ codes "refused Command" ++ feed
unfolding digits turns_of line_answer grant_of speed_prices_of grade_prices_of chosen_steps steps_read first_row steps_back break_back greatest_prices filled made least_price least_to
two_trains_computed = refl

-- its history as a text has a line for each entry, and none for what was refused
two_trains_told : history_text double (entries_after (empty_on double) [] two_trains)
    ≡ codes "lock Along" ++ feed
    ++ codes "lock Onward" ++ feed
    ++ codes "report 1 5/17 nominal 300 5 5 200 1000" ++ feed
    ++ codes "report 2 5/17 nominal 700 5 5 200 2000" ++ feed
    ++ codes "ask 2" ++ feed
unfolding digits turns_of line_answer grant_of speed_prices_of grade_prices_of chosen_steps steps_read first_row steps_back break_back greatest_prices filled made least_price least_to
two_trains_told = refl

-- a block that is certified, as `rbc steps` says it; one whose last price is too low; and one of gradients, open at the end of the text
abbrev certificate : List ℕ
certificate =
    codes "speed 2 0:160 100:120 150:160 end 300" ++ feed
    ++ codes "steps 0:120 150:160 loss 4000" ++ feed
    ++ codes "prices 1 0 4000 10000" ++ feed
    ++ codes "prices 2 0 0 4000" ++ feed
    ++ codes "packet 1b40e480003000804b200004b7f000" ++ feed
    ++ codes "done" ++ feed

abbrev forged : List ℕ
forged =
    codes "speed 2 0:160 100:120 150:160 end 300" ++ feed
    ++ codes "steps 0:120 150:160 loss 4000" ++ feed
    ++ codes "prices 1 0 4000 10000" ++ feed
    ++ codes "prices 2 0 0 3999" ++ feed

abbrev open_block : List ℕ
open_block =
    codes "grade 1 0:0 end 9" ++ feed
    ++ codes "steps 0:0 loss 0" ++ feed
    ++ codes "prices 1 0"

check_computed : check_answers_of Far (certificate ++ forged ++ open_block)
    ≡ codes "certified speed 4000" ++ feed
    ++ codes "refused NotAttained" ++ feed
    ++ codes "certified grade 0" ++ feed
unfolding digits
check_computed = refl

-- the one in the midst is not certified, and without it all are
not_all_certified : are_all_certified Far (certificate ++ forged ++ open_block) ≡ false
not_all_certified = refl

all_certified : are_all_certified Far (certificate ++ open_block) ≡ true
all_certified = refl

-- a text without a block has none that is refused
none_certified : are_all_certified Far (codes "# none" ++ feed ++ feed ++ codes "refused Words") ≡ true
none_certified = refl
