-- What an authority has after a report, as a list of metres: what it had, but for some of the first.
use Rattle.std.proofs.Common.{◌≡◌, ℕ, ◌+◌, ◌-◌, ◌<◌, ◌≤◌, max, Bool, true, false, cond, List, [], ◌++◌, take, drop, Some, refl, ap, ap₂, sym, ◌∙◌, subst, arith, append-nil, ◌⊎◌, inl, inr, nat_lt}
use Rattle.std.proofs.lemmas.Bool.{ltb-true}
use Rattle.std.proofs.lemmas.List.{drop-take, drop-drop}
use Rattle.rbc_model.specs.declared.places.Metre.{Metre}
use Rattle.rbc_model.specs.Reports.{Report}
use Rattle.rbc_model.specs.declared.tracks.BaliseGroup.{BaliseGroup}
use Rattle.rbc_model.specs.Tracks.{Track}
use Rattle.rbc_model.specs.SoundTracks.{IsSound}
use Rattle.rbc_model.specs.Lines.{Line, line_length, line_metres}
use Rattle.rbc_model.specs.Locks.{Locks}
use Rattle.rbc_model.specs.Trains.{Train}
use Rattle.rbc_model.specs.Placing.{Placed, through, train_after, renumbered}
use Rattle.rbc_scene_laws.specs.Good.{IsGoodLocks, IsGoodTrain}
use Rattle.rbc_scene_laws.specs.Stretches.{metres_between, authority_metres}
use Rattle.rbc_scene_laws.proofs.SpotLemmas.{line_length-append}
use Rattle.rbc_scene_laws.proofs.LengtheningLemmas.{IsAhead}
use Rattle.rbc_scene_laws.proofs.ThroughLemmas.{is_through}
use Rattle.rbc_scene_laws.proofs.PlacingLemmas.{IsFound, IsMoved, HaveOrigins}
use Rattle.rbc_scene_laws.proofs.StretchLemmas.{metres_between-append_left, metres_between-moved}
use Rattle.rbc_scene_laws.proofs.ReportingLemmas.{placed_train, is_on, the_line, moved, ahead, line_is, shift, now_at, now_is, to_there}

-- ---- stretches

-- nothing stands between a place and one that is no farther
pub metres_between-none : (track : Track) (line : Line) (a b : ℕ) → b ≤ a → metres_between track line a b ≡ []
metres_between-none track line a b h = ap (λ n. take n (drop a (line_metres track line))) (let e : b - a ≡ 0 = omega arith in e)

-- what begins later lacks the first metres
pub metres_between-drop : (track : Track) (line : Line) (a b c : ℕ) → a ≤ b → b ≤ c → metres_between track line b c ≡ drop (b - a) (metres_between track line a c)
metres_between-drop track line a b c h k =
    let rest : List Metre = drop a (line_metres track line) in
    ap (λ n. take (c - b) (drop n (line_metres track line))) (let e : b ≡ a + (b - a) = omega arith in e)
    ∙ ap (take (c - b)) (sym (drop-drop (b - a) a (line_metres track line)))
    ∙ sym (drop-take (b - a) (c - b) rest)
    ∙ ap (λ n. drop (b - a) (take n rest)) (let e : b - a + (c - b) ≡ c - a = omega arith in e)

module _ (track : Track) (group : BaliseGroup) (report : Report) (known start line : Line) (a : IsAhead track known start) (m : IsMoved track group report start line) where
  -- the metres between two places, counted on the line before
  pub metres_between-was : (i j : ℕ) → line_length track m.added ≤ i → i ≤ j → j - line_length track m.added + line_length track m.gone ≤ line_length track known
      → metres_between track line i j ≡ metres_between track known (i - line_length track m.added + line_length track m.gone) (j - line_length track m.added + line_length track m.gone)
  metres_between-was i j low order high =
      let added = line_length track m.added in
      let gone = line_length track m.gone in
      let e : line_length track start ≡ gone + line_length track m.stays = ap (line_length track) m.is_start ∙ line_length-append track m.gone m.stays in
      let f : line_length track start ≡ line_length track known + line_length track a.more = ap (line_length track) a.is ∙ line_length-append track known a.more in
      ap (λ (l : Line). metres_between track l i j) m.is_line
      ∙ ap₂ (metres_between track ((m.added ++ m.stays) ++ m.ahead)) (let x : i ≡ added + (i - added) = omega arith in x) (let x : j ≡ added + (j - added) = omega arith in x)
      ∙ metres_between-moved track m.gone m.added m.stays m.ahead [] (i - added) (j - added) (omega arith)
      ∙ ap₂ (metres_between track ((m.gone ++ m.stays) ++ [])) (let x : gone + (i - added) ≡ i - added + gone = omega arith in x) (let x : gone + (j - added) ≡ j - added + gone = omega arith in x)
      ∙ ap (λ (l : Line). metres_between track l (i - added + gone) (j - added + gone)) (append-nil (m.gone ++ m.stays) ∙ sym m.is_start ∙ a.is)
      ∙ metres_between-append_left track known a.more (i - added + gone) (j - added + gone) high

-- ---- the authority after a report

-- it is what there was without its first metres
abbrev pub IsTail : List Metre → List Metre → Type 0
IsTail before after = (n : ℕ) × (after ≡ drop n before)

tail_of_all : (track : Track) (line : Line) (a b : ℕ) → IsTail (metres_between track line a b) []
tail_of_all track line a b =
    elim (at_end) [ inl e ↦ (0, sym (metres_between-none track line a b e)) | inr e ↦ (b - a, sym (metres_between-none track line b b (omega arith)) ∙ metres_between-drop track line a b b (omega arith) (omega arith)) ]
  where
    at_end : (b ≤ a) ⊎ (a < b)
    at_end = grind arith

at_added : (gone added stay old now rear : ℕ) → now ≡ renumbered (gone + stay) (added + stay) old → (gone ≡ 0) ⊎ (added ≡ 0) → added ≤ max now rear
at_added gone added stay old now rear e (inl none) = omega arith
at_added gone added stay old now rear e (inr none) = omega arith

tail_by : (track : Track) (before : List Metre) (b : Bool) (x y : Train) → (b ≡ true → IsTail before (authority_metres track x)) → (b ≡ false → IsTail before (authority_metres track y)) → IsTail before (authority_metres track (cond b x y))
tail_by track before true x y h k = h refl
tail_by track before false x y h k = k refl

module _ (track : Track) (locks : Locks) (sound : IsSound track) (good : IsGoodLocks track locks) (report : Report) (placed : Placed) (train : Train) (was : IsGoodTrain track train) (f : IsFound track locks (Some train.line) report placed) where
  nothing : IsTail (authority_metres track train) (authority_metres track (placed_train track report placed placed.front placed.front))
  nothing =
      subst (IsTail (authority_metres track train)) (sym (metres_between-none track (through track report (max placed.front placed.front) placed.line) placed.front placed.front (omega arith)))
      (tail_of_all track train.line train.from train.to)

  pub is_tail : IsTail (authority_metres track train) (authority_metres track (train_after track locks (Some train) report placed))
  is_tail =
      tail_by track (authority_metres track train) (nat_lt train.from train.to)
      (cond (nat_lt from to) (placed_train track report placed from to) (placed_train track report placed placed.front placed.front))
      (cond (nat_lt placed.front placed.front) (placed_train track report placed placed.front placed.front) (placed_train track report placed placed.front placed.front))
      (λ held. tail_by track (authority_metres track train) (nat_lt from to) (placed_train track report placed from to) (placed_train track report placed placed.front placed.front) (λ e. kept (ltb-true from to e)) (λ e. nothing))
      (λ none. tail_by track (authority_metres track train) (nat_lt placed.front placed.front) (placed_train track report placed placed.front placed.front) (placed_train track report placed placed.front placed.front) (λ e. nothing) (λ e. nothing))
    where
      from : ℕ
      from = max (now_at track locks sound good report placed train train.from) placed.rear

      to : ℕ
      to = now_at track locks sound good report placed train train.to

      m : IsMoved track f.group report f.start f.line
      m = moved track locks sound good report placed train was f

      s : HaveOrigins track f.group report f.start f.line (line_length track m.gone) (line_length track m.added)
      s = shift track locks sound good report placed train was f

      kept : from < to → IsTail (authority_metres track train) (authority_metres track (placed_train track report placed from to))
      kept order =
          let added = line_length track m.added in
          let gone = line_length track m.gone in
          let low = now_is track locks sound good report placed train was f train.from in
          let high = now_is track locks sound good report placed train was f train.to in
          let one = m.one in
          let on = was.to in
          let p = is_on track locks sound good report placed (Some train.line) (the_line track locks sound good report placed train was f) f in
          let t = is_through track report (max placed.front to) placed.line in
          let there = to_there track locks sound good report placed train was f in
          let far : max placed.front to ≤ line_length track (through track report (max placed.front to) placed.line) = t.reaches (let x = p.front in omega arith) in
          let first : added ≤ from = at_added gone added s.stay train.from (now_at track locks sound good report placed train train.from) placed.rear low one in
          let begins : train.from ≤ from - added + gone = omega arith in
          let ends : to - added + gone ≡ train.to = omega arith in (
            from - added + gone - train.from,
            sym (metres_between-append_left track (through track report (max placed.front to) placed.line) t.rest from to (omega arith))
                ∙ ap (λ (l : Line). metres_between track l from to) (sym t.is ∙ sym (line_is track locks sound good report placed train was f))
                ∙ metres_between-was track f.group report train.line f.start f.line (ahead track locks sound good report placed train was f) m from to first (omega arith) (omega arith)
                ∙ ap (metres_between track train.line (from - added + gone)) ends
                ∙ metres_between-drop track train.line train.from (from - added + gone) train.to begins (omega arith),
          )
