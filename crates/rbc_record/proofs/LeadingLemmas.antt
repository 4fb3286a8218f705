-- The legs that a train is shown lead to the end that it may be granted.
use Rattle.std.proofs.Common.{◌≡◌, ℕ, ◌+◌, ◌-◌, ◌≤◌, [], ◌∷◌, length, take, drop, Ok, refl, sym, ap, ◌∙◌, subst, arith, inl, inr}
use Rattle.std.proofs.lemmas.List.{take_at, take-append-drop}
use Rattle.rbc_model.specs.Histories.{Grants}
use Rattle.rbc_model.specs.Lines.{Line, legs_begun_before, line_length}
use Rattle.rbc_model.specs.Obstacles.{way}
use Rattle.rbc_model.specs.Scenes.{Scene}
use Rattle.rbc_model.specs.Tracks.{Track, metres_of}
use Rattle.rbc_model.specs.Trains.{Train}
use Rattle.rbc_model.specs.Views.{View, reach, view}
use Rattle.rbc_model.proofs.EndLemmas.{IsGreatestEnd-greatest_end, le_reach-IsSafe, reach-le}
use Rattle.rbc_model.proofs.ScanLemmas.{le_or_lt}
use Rattle.rbc_scene_laws.proofs.BasicLemmas.{the_some}
use Rattle.rbc_grant_laws.specs.Candidates.{IsCandidateOf}
use Rattle.rbc_grant_laws.proofs.CandidateLemmas.{IsSeen, IsThere, is_seen, is_there, placed_well}
use Rattle.rbc_grant.specs.Steps.{LeadTo}
use Rattle.rbc_model.proofs.BasicLemmas.{if_in, take_one_more}
use Rattle.rbc_model.proofs.MetreLemmas.{line_length-cons}

-- the legs of a line that begin before a place of it have each metre before the place
reach_it : (track : Track) (line : Line) (to : ℕ) → to ≤ line_length track line → to ≤ line_length track (take (legs_begun_before track to line) line)
reach_it track [] to h = h
reach_it track (leg ∷ line) to h =
    let m = metres_of track leg.section in
    let kept = take (legs_begun_before track (to - m) line) line in
    elim (le_or_lt to 0) [
      | inl none ↦ omega arith
      | inr some ↦
          let ih = reach_it track line (to - m) (omega (arith, line_length-cons track leg line)) in
          let same : take (legs_begun_before track to (leg ∷ line)) (leg ∷ line) ≡ leg ∷ kept =
          ap (λ n. take n (leg ∷ line)) (if_in (1 + legs_begun_before track (to - m) line) 0 0 to some) ∙ take_one_more leg (legs_begun_before track (to - m) line) line in
          omega (arith, ap (line_length track) same, line_length-cons track leg kept)
    ]

-- the first legs of a line are as many first legs
begins : (n : ℕ) (line : Line) → take n line ≡ take (length (take n line)) line
begins n line = sym (ap (λ (l : Line). take (length (take n line)) l) (sym (take-append-drop n line)) ∙ take_at (take n line) (drop n line) (length (take n line)) refl)

module _ (track : Track) (scene : Scene) (number : ℕ) (v : View) (grant : Grants) (candidate : IsCandidateOf v grant) where
  leads_from : (t : IsThere track scene number v) → IsSeen track scene t.train v → LeadTo track scene number grant.authority.end v.line
  leads_from t s train there =
      let known : t.train ≡ train = the_some t.train train (sym t.there ∙ there) in
      let p = placed_well track scene t.train s.end s.greatest in
      let g = IsGreatestEnd-greatest_end track scene t.train s.end p.begins p.stopped s.greatest in
      let near = le_reach-IsSafe track scene t.train s.end p.begins p.stopped g.safe in
      let on = reach_it track (way track scene t.train) (reach track scene t.train) (reach-le track scene t.train) in
      let ends = candidate.end in
      let origin = ap (λ (w : View). w.origin) s.is in
      let end = ap (λ (w : View). w.end) s.is in
      let legs = ap (λ (w : View). w.line) s.is in
      let far : t.train.origin + grant.authority.end ≤ line_length track v.line = omega (arith, near, on, ends, origin, end, ap (line_length track) legs) in
      subst (λ (k : Train). (v.line ≡ take (length v.line) (way track scene k)) × (k.origin + grant.authority.end ≤ line_length track v.line)) known (
        subst (λ (l : Line). l ≡ take (length l) (way track scene t.train)) legs (begins (legs_begun_before track (reach track scene t.train) (way track scene t.train)) (way track scene t.train)),
        far,
      )

  pub leads : view track scene number ≡ Ok v → LeadTo track scene number grant.authority.end v.line
  leads shown = let t = is_there track scene number v shown in leads_from t (is_seen track scene t.train v t.view)
