-- What a journal begins with stays as it is, whatever is put behind it.
use Rattle.std.proofs.Common.{◌≡◌, ℕ, zero, suc, List, [], ◌∷◌, ◌++◌, All, Option, None, drop, refl, sym, ap, subst}
use Rattle.std.proofs.lemmas.List.Elements.{All-nil, All-head, All-cons, All-weaker, All-append, All-drop}
use Rattle.rbc_journal.specs.Seals.{seal_line}
use Rattle.rbc_journal.specs.Headers.{behind_mark}
use Rattle.rbc_journal.specs.Journal.{IsPutLine}
use Rattle.rbc_journal.specs.Marks.{mark, with_marked, marked_front}
use Rattle.rbc_journal.specs.Beginnings.{beginning_of}

abbrev Unmarked : List ℕ → Type 0
Unmarked line = behind_mark mark line ≡ None

all_unmarked : (lines : List (List ℕ)) → All IsPutLine lines → All Unmarked lines
all_unmarked lines are = All-weaker IsPutLine Unmarked (λ line is. is.no_beginning) lines are

none_marked : (more : List (List ℕ)) → All Unmarked more → marked_front more ≡ []
none_marked [] none = refl
none_marked (line ∷ more) none = ap (λ (o : Option (List ℕ)). with_marked o (marked_front more)) (All-head Unmarked line more none)

front_stays : (lines more : List (List ℕ)) → All Unmarked more → marked_front (lines ++ more) ≡ marked_front lines
front_stays [] more none = none_marked more none
front_stays (line ∷ lines) more none = ap (λ (ls : List (List ℕ)). with_marked (behind_mark mark line) ls) (front_stays lines more none)

rest_stays : (n : ℕ) (lines more : List (List ℕ)) → All Unmarked more → marked_front (drop n (lines ++ more)) ≡ marked_front (drop n lines)
rest_stays zero lines more none = front_stays lines more none
rest_stays (suc n) [] more none = none_marked (drop (suc n) more) (All-drop Unmarked (suc n) more none)
rest_stays (suc n) (line ∷ lines) more none = rest_stays n lines more none

-- a put of lines that were staged, with its seal
pub stays_behind : (lines put more : List (List ℕ)) (seal : List ℕ) → more ≡ put ++ seal_line seal ∷ [] → All IsPutLine put → beginning_of (lines ++ more) ≡ beginning_of lines
stays_behind lines put more seal is are =
    rest_stays 3 lines more
    (subst (All Unmarked) (sym is)
    (All-append Unmarked put (seal_line seal ∷ []) (all_unmarked put are) (All-cons Unmarked (seal_line seal) [] refl (All-nil Unmarked))))
