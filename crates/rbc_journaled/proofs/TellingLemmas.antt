-- Lines and the entries that they tell.
use Rattle.std.proofs.Common.{◌≡◌, ℕ, suc, List, [], ◌∷◌, ◌++◌, length, take, refl, sym, ◌∙◌, ap, subst, append_assoc}
use Rattle.std.proofs.lemmas.List.{append-nil}
use Rattle.rbc_journal.specs.Gates.{counted}
use Rattle.rbc_journal.specs.Journal.{told_of}
use Rattle.rbc_journaled.specs.Tells.{Tells}

-- the lines that a text tells
abbrev pub told_in : List ℕ → List (List ℕ)
told_in text = told_of (counted text)

module _ {Entry : Type 0} (adds : List Entry → List ℕ → Entry → Type 0) where
  -- one line more
  pub one_more : (before : List Entry) (lines : List (List ℕ)) (entries : List Entry) (line : List ℕ) (entry : Entry)
      → Tells adds before lines entries → adds (before ++ entries) line entry → Tells adds before (lines ++ line ∷ []) (entries ++ entry ∷ [])
  one_more before [] entries line entry told added = (
    entry,
    [],
    ap (λ (l : List Entry). l ++ entry ∷ []) told,
    subst (λ (l : List Entry). adds l line entry) (ap (λ (l : List Entry). before ++ l) told ∙ append-nil before) added,
    refl,
  )
  one_more before (first ∷ lines) entries line entry told added =
      let e = told.0 in
      let rest = told.1 in
      let is : before ++ entries ≡ before ++ e ∷ [] ++ rest = ap (λ (l : List Entry). before ++ l) told.2 ∙ sym (append_assoc before (e ∷ []) rest) in (
        e,
        rest ++ entry ∷ [],
        ap (λ (l : List Entry). l ++ entry ∷ []) told.2,
        told.3,
        one_more (before ++ e ∷ []) lines rest line entry told.4 (subst (λ (l : List Entry). adds l line entry) is added),
      )

  -- the same lines tell the same entries
  pub tell_one : ((before : List Entry) (line : List ℕ) (a b : Entry) → adds before line a → adds before line b → a ≡ b)
      → (before : List Entry) (lines : List (List ℕ)) (some other : List Entry) → Tells adds before lines some → Tells adds before lines other → some ≡ other
  tell_one only before [] some other a b = a ∙ sym b
  tell_one only before (line ∷ lines) some other a b =
      let same : a.0 ≡ b.0 = only before line a.0 b.0 a.3 b.3 in
      let behind : Tells adds (before ++ a.0 ∷ []) lines b.1 = subst (λ (e : Entry). Tells adds (before ++ e ∷ []) lines b.1) (sym same) b.4 in
      a.2 ∙ ap (λ (l : List Entry). a.0 ∷ l) (tell_one only (before ++ a.0 ∷ []) lines a.1 b.1 a.4 behind) ∙ ap (λ (e : Entry). e ∷ b.1) same ∙ sym b.2

  -- the first lines tell the first entries, as many as these lines
  pub front_tells : (before : List Entry) (lines more : List (List ℕ)) (entries : List Entry) → Tells adds before (lines ++ more) entries → Tells adds before lines (take (length lines) entries)
  front_tells before [] more entries told = refl
  front_tells before (line ∷ lines) more entries told = (
    told.0,
    take (length lines) told.1,
    ap (λ (l : List Entry). take (length (line ∷ lines)) l) told.2,
    told.3,
    front_tells (before ++ told.0 ∷ []) lines more told.1 told.4,
  )

  -- what the rest of a text tells behind these entries, the whole text tells with them
  abbrev pub Goes : List ℕ → List Entry → List ℕ → Type 0
  Goes text entries rest = (more : List Entry) → Tells adds entries (told_in rest) more → Tells adds [] (told_in text) (entries ++ more)

  pub begins : (text : List ℕ) (entries : List Entry) → entries ≡ [] → Goes text entries text
  begins text entries none = subst (λ (l : List Entry). Goes text l text) (sym none) (λ more told. told)

  pub goes_on : (text rest after line : List ℕ) (entries new : List Entry) → told_in rest ≡ line ∷ told_in after
      → ((entry : Entry) × adds entries line entry × (new ≡ entries ++ entry ∷ [])) → Goes text entries rest → Goes text new after
  goes_on text rest after line entries new reads added so_far =
      subst (λ (l : List Entry). Goes text l after) (sym added.2) (λ more told.
      subst (λ (l : List Entry). Tells adds [] (told_in text) l) (sym (append_assoc entries (added.0 ∷ []) more))
      (so_far (added.0 ∷ more) (subst (λ (ls : List (List ℕ)). Tells adds entries ls (added.0 ∷ more)) (sym reads) (added.0, more, refl, added.1, told))))

  pub ends : (text rest : List ℕ) (entries : List Entry) → told_in rest ≡ [] → Goes text entries rest → Tells adds [] (told_in text) entries
  ends text rest entries none so_far =
      subst (λ (l : List Entry). Tells adds [] (told_in text) l) (append-nil entries)
      (so_far [] (subst (λ (ls : List (List ℕ)). Tells adds entries ls []) (sym none) refl))

  -- lines tell as many entries as they are
  pub as_many : (before : List Entry) (lines : List (List ℕ)) (entries : List Entry) → Tells adds before lines entries → length lines ≡ length entries
  as_many before [] entries told = ap length (sym told)
  as_many before (line ∷ lines) entries told = ap suc (as_many (before ++ told.0 ∷ []) lines told.1 told.4) ∙ ap length (sym told.2)
