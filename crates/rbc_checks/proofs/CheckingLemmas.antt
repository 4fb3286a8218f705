-- The open block, from line to line.
use Rattle.std.proofs.Common.{◌≡◌, ℕ, ◌<◌, inl, inr, Bool, true, false, not, subst, ◌||◌, List, [], ◌∷◌, ◌++◌, Option, refl, sym, ap, ◌∙◌, length, append-nil, arith}
use Rattle.std.specs.Io.KnownBytes.{Appends, Keeps}
use Rattle.std.proofs.KnownBytes.{Appends-kept}
use Rattle.std.proofs.Math.Bool.{or-false}
use Rattle.std.specs.Prelude.{Result, Ok, Err}
use Rattle.rbc_model.specs.declared.sessions.SessionFault.{SessionFault}
use Rattle.rbc_model.specs.declared.sessions.SessionFault.TheVariants.{Write}
use Rattle.rbc_model.specs.Talks.{IsTalk}
use Rattle.rbc_model.specs.CheckText.{CheckLine, Checking, LeavesOpen, AnswersBlock, part_of, goes_on, is_head, opened, ended, overlong_text, AnswersCheck, TellsAll, IsChecked, unchecked}
use Rattle.rbc_model.specs.declared.limits.TheConstants.{LONGEST_CHECK_LINE}
use Rattle.rbc_model.specs.declared.places.Format.TheVariants.{Far}

-- what is told of the block before comes in front
behind : (lines : List CheckLine) (refused : Bool) (said reply : List ℕ) (after : Checking) → LeavesOpen lines refused [] reply after
    → LeavesOpen lines refused said (said ++ reply) after
behind lines refused said reply after (inl (none, same)) = inl (ap (λ l. said ++ l) none ∙ append-nil said, same)
behind lines refused said reply after (inr (some, memory, same)) = inr (some, ap (λ l. said ++ l) memory, same)

module _ (before : Checking) (line : CheckLine) where
  -- the line goes on with the open block
  pub goes_with : (reply : List ℕ) (after : Checking) → goes_on before.block (part_of line) ≡ true
      → LeavesOpen (before.block ++ line ∷ []) before.refused [] reply after
      → (said : List ℕ) × (bad : Bool) × AnswersBlock (ended before.block line) said bad × LeavesOpen (opened before.block line) (before.refused || bad) said reply after
  goes_with reply after with leaves = (
    [],
    false,
    rw with (refl, refl),
    rw (with, or-false before.refused) leaves,
  )

  module _ (said : List ℕ) (bad : Bool) (over : goes_on before.block (part_of line) ≡ false) (answers : AnswersBlock before.block said bad) where
    -- the line is a head: it ends the open block and begins one
    pub begins : (reply : List ℕ) (after : Checking) → is_head (part_of line) ≡ true
        → LeavesOpen (line ∷ []) (before.refused || bad) [] reply after
        → (told : List ℕ) × (refused : Bool) × AnswersBlock (ended before.block line) told refused
        × LeavesOpen (opened before.block line) (before.refused || refused) told (said ++ reply) after
    begins reply after head leaves = (
      said,
      bad,
      rw over answers,
      rw (over, head) (behind (line ∷ []) (before.refused || bad) said reply after leaves),
    )

    -- the line ends the open block
    pub ends_it : is_head (part_of line) ≡ false
        → (told : List ℕ) × (refused : Bool) × AnswersBlock (ended before.block line) told refused
        × LeavesOpen (opened before.block line) (before.refused || refused) told (said ++ []) (record { block = []; refused = before.refused || bad })
    ends_it other = (
      said,
      bad,
      rw over answers,
      rw (over, other) (inl (append-nil said, refl)),
    )

-- a line that is too long
pub too_long : (before after : Checking) (said : List ℕ) (bad : Bool) → AnswersBlock before.block said bad
    → after ≡ record { block = []; refused = before.refused || bad }
    → (line : List ℕ) → LONGEST_CHECK_LINE < length line → AnswersCheck Far before line (said ++ overlong_text) after
too_long before after said bad answers closed line long = ((λ short. absurd (omega arith)), (λ _. (said, bad, answers, refl, closed)))

-- ---- a whole input

module _ (first last : Checking) (input : List ℕ) (old between : Option (List ℕ)) (begin : first ≡ unchecked)
    (talk : IsTalk LONGEST_CHECK_LINE (AnswersCheck Far) first last input old between (Ok tt))
    (said : List ℕ) (bad : Bool) (answers : AnswersBlock last.block said bad)
    (mid new : Option (List ℕ)) (wrote : Appends between mid said) (kept : Keeps mid new) where
  checked : (result : Result Bool SessionFault) → TellsAll between new said (last.refused || bad) result → IsChecked Far input old new result
  checked result tells = record {
    last = last;
    between = between;
    outcome = Ok tt;
    talk = subst (λ (s : Checking). IsTalk LONGEST_CHECK_LINE (AnswersCheck Far) s last input old between (Ok tt)) begin talk;
    ends = (said, bad, answers, tells);
  }

  -- all blocks are judged
  pub over : (closed : Checking) → closed ≡ record { block = []; refused = last.refused || bad } → (all : Bool) → all ≡ not closed.refused
      → IsChecked Far input old new (Ok all)
  over closed same all tells =
      checked (Ok all) (Appends-kept between mid new said wrote kept, tells ∙ ap (λ (s : Checking). not s.refused) same)

  -- what is said of the last block was written, and could not be handed on
  pub held : IsChecked Far input old new (Err Write)
  held = checked (Err Write) ((said, [], sym (append-nil said), Appends-kept between mid new said wrote kept), refl)
