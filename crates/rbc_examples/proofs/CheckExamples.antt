-- Worked texts of `rbc check`: a certificate in the midst of other lines, cut and forged.
use Rattle.std.proofs.Common.{◌≡◌, ℕ, List, [], ◌∷◌, ◌++◌, refl}
use Rattle.std.specs.Prelude.{codes}
use Rattle.std.specs.Fmt.{digits}
use Rattle.rbc_model.specs.declared.places.Format.TheVariants.{Far}
use Rattle.rbc_model.specs.CheckText.{check_text}

abbrev checked : List (List ℕ) → List ℕ
checked lines = check_text Far [] lines

abbrev head : List ℕ
head = codes "speed 2 0:160 100:120 150:160 end 300"

abbrev steps : List ℕ
steps = codes "steps 0:120 150:160 loss 4000"

abbrev first_row : List ℕ
first_row = codes "prices 1 0 4000 10000"

abbrev second_row : List ℕ
second_row = codes "prices 2 0 0 4000"

abbrev said : List ℕ → List ℕ
said text = text ++ 10 ∷ []

-- the reply of `rbc steps`, with its packet, which is skipped
pub certified : checked (head ∷ steps ∷ first_row ∷ second_row ∷ codes "packet 1b40e480003000804b200004b7f000" ∷ codes "done" ∷ [])
    ≡ said (codes "certified speed 4000")
unfolding digits
certified = refl

-- cut behind each line
pub head_alone : checked (head ∷ []) ≡ said (codes "refused Shape")
unfolding digits
head_alone = refl

pub no_row : checked (head ∷ steps ∷ []) ≡ said (codes "refused Shape")
unfolding digits
no_row = refl

pub one_row : checked (head ∷ steps ∷ first_row ∷ []) ≡ said (codes "refused Shape")
unfolding digits
one_row = refl

-- a blank line ends a block, and its rows are then outside
pub blank_between : checked (head ∷ steps ∷ first_row ∷ [] ∷ second_row ∷ []) ≡ said (codes "refused Shape")
unfolding digits
blank_between = refl

-- rows straight behind the head, a second profile, and a row out of form
pub rows_first : checked (head ∷ first_row ∷ second_row ∷ []) ≡ said (codes "refused Shape")
unfolding digits
rows_first = refl

pub two_profiles : checked (head ∷ steps ∷ first_row ∷ second_row ∷ steps ∷ first_row ∷ []) ≡ said (codes "certified speed 4000")
unfolding digits
two_profiles = refl

pub row_out_of_form : checked (head ∷ steps ∷ first_row ∷ second_row ∷ codes "prices three" ∷ []) ≡ said (codes "refused Shape")
unfolding digits
row_out_of_form = refl

-- forgeries
pub last_price_low : checked (head ∷ steps ∷ first_row ∷ codes "prices 2 0 0 3999" ∷ []) ≡ said (codes "refused NotAttained")
unfolding digits
last_price_low = refl

pub other_loss : checked (head ∷ codes "steps 0:120 150:160 loss 3999" ∷ first_row ∷ second_row ∷ []) ≡ said (codes "refused NotAttained")
unfolding digits
other_loss = refl

pub price_high : checked (head ∷ steps ∷ codes "prices 1 0 4001 10000" ∷ second_row ∷ []) ≡ said (codes "refused Inequality 1 0 150")
unfolding digits
price_high = refl

pub step_high : checked (head ∷ codes "steps 0:120 150:165 loss 4000" ∷ first_row ∷ second_row ∷ []) ≡ said (codes "refused Above 150")
unfolding digits
step_high = refl

pub too_many_steps : checked (codes "speed 1 0:160 100:120 150:160 end 300" ∷ steps ∷ codes "prices 1 0 4000 4000" ∷ []) ≡ said (codes "refused Steps")
unfolding digits
too_many_steps = refl

-- two blocks, the first of which is refused; a head out of form begins one too
pub two_blocks : checked (codes "grade 0 0:0 end 9" ∷ codes "steps 0:0 loss 0" ∷ codes "grade 1 0:0 end 9" ∷ codes "steps 0:0 loss 0" ∷ codes "prices 1 0" ∷ [])
    ≡ said (codes "refused Shape") ++ said (codes "certified grade 0")
unfolding digits
two_blocks = refl

-- a speed that no message has, and one that is negative
pub no_such_speed : checked (head ∷ codes "steps 0:118 150:160 loss 4200" ∷ first_row ∷ second_row ∷ []) ≡ said (codes "refused Shape")
unfolding digits
no_such_speed = refl

pub negative_speed : checked (head ∷ codes "steps 0:-120 150:160 loss 4000" ∷ first_row ∷ second_row ∷ []) ≡ said (codes "refused Shape")
unfolding digits
negative_speed = refl
