-- What a crash leaves of a history that grows.
use Rattle.std.proofs.Common.{◌≡◌, ◌⊎◌, ⊎_elim, inl, inr, ℕ, ◌≤◌, List, [], ◌++◌, length, take, refl, sym, ◌∙◌, ap, subst, length-append, arith}
use Rattle.std.proofs.lemmas.List.{take_all, take-append-le}
use Rattle.rbc_journal.specs.Device.{Only, LeavesOnly}
use Rattle.rbc_journal.specs.Journal.{recovered}
use Rattle.rbc_journaled.specs.Tells.{Tells}
use Rattle.rbc_journaled.specs.Journaled.{StandsFor, IsFrom}
use Rattle.rbc_journaled.proofs.TellingLemmas.{as_many, front_tells}

-- ---- moments

module _ {D : Type 0} (moment : D → ℕ) (left_since : D → ℕ → List ℕ → Type 0) where
  pub still : (old new : D) (P : List ℕ → Type 0) → new ≡ old → ((c : List ℕ) → left_since old (moment old) c → P c) → LeavesOnly moment left_since old new P
  still old new P same here =
      let begun : LeavesOnly moment left_since old old P = record { later = omega arith; each = here; before = λ t c le left. inl left } in
      subst (λ d. LeavesOnly moment left_since old d P) (sym same) begun

  pub weaker : (old new : D) (P Q : List ℕ → Type 0) → ((c : List ℕ) → P c → Q c) → LeavesOnly moment left_since old new P → LeavesOnly moment left_since old new Q
  weaker old new P Q says so_far = record {
    later = so_far.later;
    each = λ c left. says c (so_far.each c left);
    before = λ t c le left. ⊎_elim (λ past. inl past) (λ p. inr (says c p)) (so_far.before t c le left);
  }

  pub then_on : (old mid new : D) (P : List ℕ → Type 0) → LeavesOnly moment left_since old mid P → LeavesOnly moment left_since mid new P → LeavesOnly moment left_since old new P
  then_on old mid new P first second = record {
    later = omega (arith, first.later, second.later);
    each = λ c left. ⊎_elim (first.each c) (λ p. p) (second.before (moment old) c first.later left);
    before = λ t c le left. ⊎_elim (first.before t c le) (λ p. inr p) (second.before t c (omega (arith, le, first.later)) left);
  }

-- ---- entries

module _ {Entry : Type 0} (adds : List Entry → List ℕ → Entry → Type 0) where
  front_of : (a b : List Entry) (n : ℕ) → n ≤ length a → take n (a ++ b) ≡ take n a
  front_of a b n le = take-append-le n a b le

  -- later there are more
  more_from : (file : List ℕ) (least : ℕ) (mid after more : List Entry) → after ≡ mid ++ more → IsFrom adds least mid file → IsFrom adds least after file
  more_from file least mid after more is from = (
    from.0,
    from.1,
    omega (arith, from.2, ap length is, length-append mid more),
    subst (StandsFor adds file) (sym (ap (λ (l : List Entry). take from.0 l) is ∙ front_of mid more from.0 from.2)) from.3,
  )

  -- and earlier fewer were on the disk
  less_from : (file : List ℕ) (least fewer : ℕ) (entries : List Entry) → fewer ≤ least → IsFrom adds least entries file → IsFrom adds fewer entries file
  less_from file least fewer entries le from = (from.0, omega (arith, le, from.1), from.2, from.3)

  -- the lines that are on the disk are there, with all that were put or with none
  pub staged_from : (file : List ℕ) (lines staged : List (List ℕ)) (entries : List Entry) → Tells adds [] (lines ++ staged) entries
      → (recovered file ≡ lines) ⊎ (recovered file ≡ lines ++ staged) → IsFrom adds (length lines) entries file
  staged_from file lines staged entries told (inl none) =
      let all = as_many adds [] (lines ++ staged) entries told in
      let count = length-append lines staged in (
        length lines,
        omega arith,
        omega (arith, all, count),
        subst (λ (ls : List (List ℕ)). Tells adds [] ls (take (length lines) entries)) (sym none) (front_tells adds [] lines staged entries told),
      )
  staged_from file lines staged entries told (inr both) =
      let all = as_many adds [] (lines ++ staged) entries told in
      let count = length-append lines staged in (
        length entries,
        omega (arith, all, count),
        omega arith,
        subst (λ (ls : List (List ℕ)). Tells adds [] ls (take (length entries) entries)) (sym both)
            (subst (λ (es : List Entry). Tells adds [] (lines ++ staged) es) (sym (take_all (length entries) entries (omega arith))) told),
      )

-- ---- both

module _ {D Entry : Type 0} (adds : List Entry → List ℕ → Entry → Type 0)
    (seen : D → List ℕ) (may_leave : D → List ℕ → Type 0) (moment : D → ℕ) (left_since : D → ℕ → List ℕ → Type 0)
    (only_now : (file : D) (c : List ℕ) → left_since file (moment file) c → may_leave file c) where
  -- nothing was asked of the file
  pub steady : (device : D) (staged : List (List ℕ)) (entries : List Entry) → Only (seen device) (may_leave device) → Tells adds [] (recovered (seen device) ++ staged) entries
      → LeavesOnly moment left_since device device (IsFrom adds (length (recovered (seen device))) entries)
  steady device staged entries durable told =
      still moment left_since device device (IsFrom adds (length (recovered (seen device))) entries) refl
      (λ c left. staged_from adds c (recovered (seen device)) staged entries told (inl (ap recovered (durable c (only_now device c left)))))

  -- one call more
  pub further : (old mid new : D) (least later : ℕ) (before after more : List Entry) → least ≤ later → after ≡ before ++ more
      → LeavesOnly moment left_since old mid (IsFrom adds least before) → LeavesOnly moment left_since mid new (IsFrom adds later after)
      → LeavesOnly moment left_since old new (IsFrom adds least after)
  further old mid new least later before after more le is so_far now =
      then_on moment left_since old mid new (IsFrom adds least after)
      (weaker moment left_since old mid (IsFrom adds least before) (IsFrom adds least after) (λ c left. more_from adds c least before after more is left) so_far)
      (weaker moment left_since mid new (IsFrom adds later after) (IsFrom adds least after) (λ c left. less_from adds c later least after le left) now)
