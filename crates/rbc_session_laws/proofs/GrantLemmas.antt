-- What a train is granted in a scene is one grant alone, with one table of prices for each profile.
use Rattle.std.proofs.Common.{◌≡◌, ℕ, zero, suc, ◌<◌, lit<, Bool, List, [], ◌∷◌, ℤ, Ok, refl, ap, sym, ◌∙◌, subst, arith}
use Rattle.std.specs.Prelude.{◌%◌}
use Rattle.rbc_model.specs.declared.refusals.Obstacle.{Obstacle}
use Rattle.rbc_model.specs.GroupNames.{GroupName}
use Rattle.rbc_model.specs.Levels.{Levels, IsLawful, speed_levels, grade_levels}
use Rattle.rbc_model.specs.Profiles.{value_at, IsTrackFunction, IsChosenProfile}
use Rattle.rbc_model.specs.PriceTables.{IsGreatestSoundTable}
use Rattle.rbc_model.specs.Scales.{unit_of}
use Rattle.rbc_model.specs.Bits.{IsBytes, bytes_of, padded_bits, field_bits}
use Rattle.rbc_model.specs.Messages.{Authority, message_3, sized_fields, message_bytes}
use Rattle.rbc_model.specs.Tracks.{Track}
use Rattle.rbc_model.specs.SoundTracks.{IsInForm}
use Rattle.rbc_model.specs.Scenes.{Scene}
use Rattle.rbc_model.specs.Views.{View, view}
use Rattle.rbc_model.specs.Histories.{Grants, IsBest}
use Rattle.rbc_model.proofs.BitLemmas.{number_of-below}
use Rattle.rbc_model.proofs.LevelLemmas.{speed_lawful, grade_lawful}
use Rattle.rbc_model.proofs.RoundTripLemmas.{round_trip_far}
use Rattle.rbc_table_laws.specs.LeastTables.{greatest_prices, chosen_steps}
use Rattle.rbc_table_laws.proofs.TableLawLemmas.{one_chosen}
use Rattle.rbc_table_laws.proofs.LeastTableLemmas.{greatest_tables_are_one, least_prices_are_greatest, steps_read_are_chosen}
use Rattle.rbc_grant_laws.specs.Candidates.{IsCandidateOf}
use Rattle.rbc_grant_laws.proofs.CandidateLemmas.{candidate-IsBest, the_ok}
use Rattle.rbc_session_laws.specs.Answers.{metres_shown, grant_of, speed_prices_of, grade_prices_of}
use Rattle.rbc_session_laws.specs.Laws.{GrantsAreOne, GrantsAreReadBack}
use Rattle.rbc_session_laws.proofs.ViewLemmas.{shown_well}
use Rattle.rbc_model.proofs.ScaleLemmas.{expressible_whole, some_unit}

-- ---- profiles and tables, for a number of metres that is known by an equation

module _ {V : Type 0} (levels : Levels V) (lawful : IsLawful levels) (limit n : ℕ) (runs : List (ℕ × V)) where
  pub the_steps : (end : ℕ) (steps : List (ℕ × V)) → end ≡ n → n % unit_of n ≡ 0 → 0 < limit → IsTrackFunction levels n runs
      → IsChosenProfile levels (unit_of end) limit end (value_at runs) steps → steps ≡ chosen_steps levels (unit_of n) limit n runs
  the_steps end steps e whole some_steps track chosen =
      one_chosen levels lawful (unit_of n) limit n (some_unit n) whole runs track steps (chosen_steps levels (unit_of n) limit n runs)
      (subst (λ k. IsChosenProfile levels (unit_of k) limit k (value_at runs) steps) e chosen)
      (steps_read_are_chosen levels lawful (unit_of n) limit n (some_unit n) whole some_steps runs track)

  pub the_prices : (end : ℕ) (rows : List (List ℕ)) → end ≡ n → IsGreatestSoundTable levels (unit_of end) limit end runs rows → rows ≡ greatest_prices levels (unit_of n) limit n runs
  the_prices end rows e greatest =
      greatest_tables_are_one levels lawful (unit_of n) limit n runs rows (greatest_prices levels (unit_of n) limit n runs)
      (subst (λ k. IsGreatestSoundTable levels (unit_of k) limit k runs rows) e greatest)
      (least_prices_are_greatest levels lawful (unit_of n) limit n runs)

-- ---- grants with equal parts

abbrev authority_with : ℕ → GroupName → Bool → ℕ → List (ℕ × ℕ) → List (ℕ × ℤ) → Authority
authority_with time group nominal end speeds grades = record { time = time; group = group; nominal = nominal; end = end; speeds = speeds; grades = grades }

same_authority : (a b : Authority) → a.time ≡ b.time → a.group ≡ b.group → a.nominal ≡ b.nominal → a.end ≡ b.end → a.speeds ≡ b.speeds → a.grades ≡ b.grades → a ≡ b
same_authority a b time group nominal end speeds grades =
    of_parts a.time b.time a.group b.group a.nominal b.nominal a.end b.end a.speeds b.speeds a.grades b.grades time group nominal end speeds grades
  where
    of_parts : (t t' : ℕ) (g g' : GroupName) (d d' : Bool) (e e' : ℕ) (s s' : List (ℕ × ℕ)) (r r' : List (ℕ × ℤ)) → t ≡ t' → g ≡ g' → d ≡ d' → e ≡ e' → s ≡ s' → r ≡ r'
        → authority_with t g d e s r ≡ authority_with t' g' d' e' s' r'
    of_parts t t' g g' d d' e e' s s' r r' i j k l m n = rw (i, j, k, l, m, n) refl

abbrev grant_with : ℕ → ℤ → Authority → Obstacle → Grants
grant_with train from authority obstacle = record { train = train; from = from; authority = authority; obstacle = obstacle }

same_grant : (a b : Grants) → a.train ≡ b.train → a.from ≡ b.from → a.authority ≡ b.authority → a.obstacle ≡ b.obstacle → a ≡ b
same_grant a b train from authority obstacle = of_parts a.train b.train a.from b.from a.authority b.authority a.obstacle b.obstacle train from authority obstacle
  where
    of_parts : (t t' : ℕ) (f f' : ℤ) (a a' : Authority) (o o' : Obstacle) → t ≡ t' → f ≡ f' → a ≡ a' → o ≡ o' → grant_with t f a o ≡ grant_with t' f' a' o'
    of_parts t t' f f' a a' o o' i j k l = rw (i, j, k, l) refl

-- ---- the grant

module _ (track : Track) (scene : Scene) (number : ℕ) (shown : View) (grant : Grants) (form : IsInForm track) (seen : view track scene number ≡ Ok shown) where
  candidate_shown : grant.train ≡ number → IsBest track scene grant → IsCandidateOf shown grant
  candidate_shown train best =
      let s = candidate-IsBest track scene grant form best in
      let same : s.0 ≡ shown = the_ok s.0 shown (sym s.1 ∙ ap (view track scene) train ∙ seen) in
      subst (λ (v : View). IsCandidateOf v grant) same s.2

  end_shown : IsCandidateOf shown grant → grant.authority.end ≡ metres_shown shown
  end_shown c = let ahead = c.end in omega arith

  -- the best grant with the chosen profiles is the one grant for what is shown
  pub the_grant : grant.train ≡ number → IsBest track scene grant
      → IsChosenProfile speed_levels (unit_of grant.authority.end) shown.speed_steps grant.authority.end (value_at shown.speeds) grant.authority.speeds
      → IsChosenProfile grade_levels (unit_of grant.authority.end) shown.grade_steps grant.authority.end (value_at shown.grades) grant.authority.grades
      → grant ≡ grant_of shown
  unfolding grant_of
  the_grant train best speeds grades =
      let c = candidate_shown train best in
      let w = shown_well track scene number shown form seen in
      let n = metres_shown shown in
      let end = end_shown c in
      let whole = expressible_whole track.format n w.expressible in
      same_grant grant (grant_of shown) c.train c.from
      (same_authority grant.authority (grant_of shown).authority c.time c.group c.direction end
      (the_steps speed_levels speed_lawful shown.speed_steps n shown.speeds grant.authority.end grant.authority.speeds end whole w.speed_steps w.speeds speeds)
      (the_steps grade_levels grade_lawful shown.grade_steps n shown.grades grant.authority.end grant.authority.grades end whole w.grade_steps w.grades grades))
      c.obstacle

pub grants_are_one : GrantsAreOne
unfolding speed_prices_of grade_prices_of
grants_are_one track scene number shown grant speed_rows grade_rows form h g =
    let n = metres_shown shown in
    let end = end_shown track scene number shown grant form h (candidate_shown track scene number shown grant form h g.train g.best) in
    record {
      granted = the_grant track scene number shown grant form h g.train g.best g.speeds g.grades;
      speeds = the_prices speed_levels speed_lawful shown.speed_steps n shown.speeds grant.authority.end speed_rows end g.speed_prices;
      grades = the_prices grade_levels grade_lawful shown.grade_steps n shown.grades grant.authority.end grade_rows end g.grade_prices;
    }

-- ---- what its message is read as

-- a message is made of bytes
are_bytes : (bits : List Bool) → IsBytes (bytes_of bits)
are_bytes (a ∷ b ∷ c ∷ d ∷ e ∷ f ∷ g ∷ h ∷ rest) zero = number_of-below (a ∷ b ∷ c ∷ d ∷ e ∷ f ∷ g ∷ h ∷ [])
are_bytes (a ∷ b ∷ c ∷ d ∷ e ∷ f ∷ g ∷ h ∷ rest) (suc i) = are_bytes rest i
are_bytes _ i = lit< tt

pub grants_are_read_back : GrantsAreReadBack
grants_are_read_back authority =
    let law = round_trip_far (message_bytes authority) authority (are_bytes (padded_bits (field_bits (sized_fields (message_3 authority))))) in
    (λ is. law.1 (is, refl), λ read. (law.0 read).0)
