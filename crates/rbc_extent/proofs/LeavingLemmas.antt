-- What a report leaves of an authority, and the train after it.
use Rattle.std.proofs.Common.{◌≡◌, ℕ, max, Bool, true, false, cond, Option, Some, None, Ok, Err, refl, ap, sym, ◌∙◌, subst, nat_lt}
use Rattle.std.specs.Prelude.{option_map}
use Rattle.std.specs.Result.{result_map_both}
use Rattle.rbc_model.specs.declared.refusals.Refusal.{Refusal}
use Rattle.rbc_model.specs.Reports.{Report}
use Rattle.rbc_model.specs.Tracks.{Track}
use Rattle.rbc_model.specs.SoundTracks.{IsSound}
use Rattle.rbc_model.specs.Lines.{Line}
use Rattle.rbc_model.specs.Locks.{Locks}
use Rattle.rbc_model.specs.Trains.{Train}
use Rattle.rbc_model.specs.Placing.{Placed, place, old_origin, renumbered, train_with, train_after, reported}
use Rattle.rbc_scene_laws.specs.Good.{IsGoodLocks, IsGoodTrain}
use Rattle.rbc_scene_laws.proofs.PlacingLemmas.{is_found}
use Rattle.rbc_scene_laws.proofs.ReportingLemmas.{good_report}
use Rattle.rbc_extent.specs.declared.train.Authority.{Authority}
use Rattle.rbc_extent.specs.Findings.{some_authority, authority_left}
use Rattle.rbc_extent.specs.PlacedTrains.{placed_train}
use Rattle.rbc_extent.specs.PlacingSteps.{Finding, finding}
use Rattle.rbc_extent.proofs.FindingLemmas.{place-found, place-refused, finding-old_origin}

cond_same : {X : Type 0} (t : Bool) (x : X) → cond t x x ≡ x
cond_same true x = refl
cond_same false x = refl

module _ (track : Track) (report : Report) (placed : Placed) where
  -- the train with this authority
  abbrev pub with_left : Authority → Train
  with_left authority = placed_train track report placed authority.from authority.to

  abbrev nothing : Authority
  nothing = record { from = placed.front; to = placed.front }

  by_order : (t : Bool) (a b : ℕ) → cond t (placed_train track report placed a b) (placed_train track report placed placed.front placed.front) ≡ with_left (cond t (record { from = a; to = b }) nothing)
  by_order true a b = refl
  by_order false a b = refl

  by_held : (t : Bool) (a b : ℕ) → cond t (train_with track report placed a b) (train_with track report placed placed.front placed.front) ≡ with_left (cond t (some_authority placed a b) nothing)
  by_held true a b = by_order (nat_lt a b) a b
  by_held false a b = cond_same (nat_lt placed.front placed.front) (placed_train track report placed placed.front placed.front)

  abbrev after_from : Train → ℕ → Train
  after_from train old =
      cond (nat_lt train.from train.to)
      (train_with track report placed (max (renumbered old placed.origin train.from) placed.rear) (renumbered old placed.origin train.to))
      (train_with track report placed placed.front placed.front)

  pub train_after-left : (locks : Locks) (known : Option Train) (old : ℕ) → ((train : Train) → known ≡ Some train → old ≡ old_origin track locks report train.line)
      → train_after track locks known report placed ≡ with_left (authority_left known (record { old_origin = old; placed = placed }))
  train_after-left locks None old h = cond_same (nat_lt placed.front placed.front) (placed_train track report placed placed.front placed.front)
  train_after-left locks (Some train) old h =
      ap (after_from train) (sym (h train refl))
      ∙ by_held (nat_lt train.from train.to) (max (renumbered old placed.origin train.from) placed.rear) (renumbered old placed.origin train.to)

module _ (track : Track) (locks : Locks) (known : Option Train) (report : Report) where
  abbrev known_line : Option Line
  known_line = option_map (λ (train : Train). train.line) known

  old_origin-known : (found : Finding) (o : Option Train) → finding track locks (option_map (λ (train : Train). train.line) o) report ≡ Ok found → (train : Train) → o ≡ Some train → found.old_origin ≡ old_origin track locks report train.line
  old_origin-known found None h train e = cc
  old_origin-known found (Some other) h train e =
      finding-old_origin track locks other.line report found h ∙ ap (λ (t : Train). old_origin track locks report t.line) (the_same other train e)
    where
      the_same : (a b : Train) → Some a ≡ Some b → a ≡ b
      the_same a b e = cc

  -- the train after, as it is made
  pub train_after-found : (found : Finding) → finding track locks known_line report ≡ Ok found
      → train_after track locks known report found.placed ≡ with_left track report found.placed (authority_left known found)
  train_after-found found h = train_after-left track report found.placed locks known found.old_origin (old_origin-known found known h)

  -- it is a good train
  pub good_after : (found : Finding) → IsSound track → IsGoodLocks track locks → ((train : Train) → known ≡ Some train → IsGoodTrain track train) → finding track locks known_line report ≡ Ok found
      → IsGoodTrain track (with_left track report found.placed (authority_left known found))
  good_after found sound good was h =
      let there : place track locks known_line report ≡ Ok found.placed = place-found track locks known_line report found h in
      let g = good_report track locks sound good report found.placed known was (is_found track locks known_line report found.placed there) in
      subst (IsGoodTrain track) (train_after-found found h) g.good

  -- the answer, or the refusal
  pub reported-found : (found : Finding) → finding track locks known_line report ≡ Ok found → reported track locks known report ≡ Ok (with_left track report found.placed (authority_left known found))
  reported-found found h =
      ap (result_map_both (train_after track locks known report) (λ (refusal : Refusal). refusal)) (place-found track locks known_line report found h)
      ∙ ap Ok (train_after-found found h)

  pub reported-refused : (refusal : Refusal) → finding track locks known_line report ≡ Err refusal → reported track locks known report ≡ Err refusal
  reported-refused refusal h = ap (result_map_both (train_after track locks known report) (λ (e : Refusal). e)) (place-refused track locks known_line report refusal h)
