-- A line of `rbc steps` beyond 32,000 m, with its reply: the profile is cut at a multiple of ten. This computes over 40,000 m, and takes a while.
use Rattle.std.proofs.Common.{◌≡◌, ℕ, zero, suc, ◌+◌, ◌<◌, ◌≤◌, arith, List, [], ◌∷◌, ◌++◌, refl, lit≤, lit<, codes, inl}
use Rattle.std.proofs.Math.Nat.{not-suc-le-zero}
use Rattle.std.specs.Fmt.{digits}
use Rattle.rbc_model.specs.declared.places.Format.TheVariants.{Far}
use Rattle.rbc_model.specs.Levels.{speed_levels}
use Rattle.rbc_model.specs.Profiles.{value_at, IsTrackFunction, IsChosenProfile}
use Rattle.rbc_model.specs.PriceTables.{table_at, step_cost, IsGreatestSoundTable}
use Rattle.rbc_model.specs.StepsReply.{AnswersLine}
use Rattle.rbc_model.proofs.LevelLemmas.{speed_lawful}
use Rattle.rbc_model.proofs.TableLemmas.{greatest_by_tests}
use Rattle.rbc_table_laws.specs.Tracebacks.{IsReadOff}
use Rattle.rbc_table_laws.proofs.TableLawLemmas.{read_off_are_chosen}

abbrev pub runs : List (ℕ × ℕ)
runs = (0, 160) ∷ (10003, 120) ∷ []

abbrev pub steps : List (ℕ × ℕ)
steps = (0, 160) ∷ (10000, 120) ∷ []

abbrev pub prices : List (List ℕ)
prices = (0 ∷ 400120 ∷ 400120 ∷ []) ∷ (0 ∷ 120 ∷ 120 ∷ []) ∷ []

function : IsTrackFunction speed_levels 40000 runs
function = record { starts = record { rising = refl; inside = refl }; values = refl; once = refl }

table : IsGreatestSoundTable speed_levels 10 2 40000 runs prices
table = greatest_by_tests speed_levels 10 2 40000 runs prices refl refl refl refl refl

apart : (a b : ℕ) → b < a → a ≡ b → ⊥
apart a b h e = omega arith

-- the steps are read off the table of prices
read_off : IsReadOff speed_levels 10 2 40000 runs prices steps
read_off = record {
  inside = lit≤ tt;
  price = refl;
  first_row = λ j some h e. dearer j some h e;
  back = (
    1,
    record { earlier = lit< tt; adds_up = refl; first = λ k h e. later k h e; start = refl; value = refl },
    (0, record { earlier = lit< tt; adds_up = refl; first = λ k h e. not-suc-le-zero h; start = refl; value = refl }, refl),
  );
}
  where
    dearer : (j : ℕ) → 1 ≤ j → j < 2 → table_at prices j 3 ≡ 120 → ⊥
    dearer zero some h e = omega arith
    dearer (suc zero) some h e = apart 400120 120 (lit< tt) e
    dearer (suc (suc j)) some h e = omega arith

    later : (k : ℕ) → k < 1 → table_at prices 1 k + step_cost speed_levels 10 2 40000 runs k 3 ≡ 120 → ⊥
    later zero h e = apart 400120 120 (lit< tt) e
    later (suc k) h e = omega arith

pub chosen : IsChosenProfile speed_levels 10 2 40000 (value_at runs) steps
chosen = read_off_are_chosen speed_levels speed_lawful 10 2 40000 (lit< tt) refl runs function prices table steps read_off

abbrev feed : List ℕ
feed = 10 ∷ []

pub answers_in_tens : AnswersLine Far (codes "speed 2 0:160 10003:120 end 40000")
    (codes "speed 2 0:160 10003:120 end 40000" ++ feed
    ++ codes "steps 0:160 10000:120 loss 120" ++ feed
    ++ codes "prices 1 0 400120 400120" ++ feed
    ++ codes "prices 2 0 120 120" ++ feed
    ++ codes "packet 1b40e50000400081f418005dc7f000" ++ feed
    ++ codes "done" ++ feed)
unfolding digits
answers_in_tens = inl (steps, prices, chosen, table, refl)
