-- Where a train is found to stand, or not to stand.
use Rattle.std.proofs.Common.{◌≡◌, ℕ, ◌+◌, ◌<◌, ◌≤◌, Bool, true, false, ◌&&◌, cond, Option, Some, None, ℤ, refl, sym, ap, ◌∙◌, subst, arith, nat_le}
use Rattle.std.specs.Prelude.{◌==◌}
use Rattle.std.specs.Option.{option_and_then}
use Rattle.std.proofs.lemmas.Bool.{eqb-true, leb-true, le-leb}
use Rattle.std.specs.Cmp.{unsigned_Decides}
use Rattle.rbc_model.specs.declared.tracks.BaliseGroup.{BaliseGroup}
use Rattle.rbc_model.specs.GroupNames.{GroupName}
use Rattle.rbc_model.specs.Placing.{leg_told}
use Rattle.rbc_model.specs.Reports.{Report}
use Rattle.rbc_model.specs.Scales.{farthest}
use Rattle.rbc_model.specs.SoundTracks.{IsSound, is_good_group}
use Rattle.rbc_model.specs.Tracks.{Track, group_named, group_name_eq}
use Rattle.rbc_model.specs.Lines.{IsLine, Line, line_length, place_of}
use Rattle.rbc_model.specs.Trains.{Train}
use Rattle.rbc_model.proofs.BasicLemmas.{each_of}
use Rattle.rbc_scene_laws.specs.Good.{IsGoodTrain}
use Rattle.rbc_scene_laws.proofs.BasicLemmas.{and_left, and_right, the_some}
use Rattle.rbc_scene_laws.proofs.TrainListLemmas.{find-holds}
use Rattle.rbc_good_laws.specs.Good.{is_good_train}
use Rattle.rbc_good_laws.specs.Told.{StandsAsTold, stands_as_told}
use Rattle.rbc_good_laws.proofs.GoodLemmas.{train_is}
use Rattle.rbc_good_laws.proofs.ToldLemmas.{told_trains_decided}
use Rattle.rbc_scene.specs.OnTracks.{LineOnTrack}
use Rattle.rbc_scene.specs.TrainsOnTracks.{train_on}
use Rattle.rbc_scene_reading.specs.Running.{Running}
use Rattle.rbc_scene_reading.specs.Reading.{if_stands, place_at, standing_at, where_told}
use Rattle.rbc_scene_reading.specs.Standings.{is_extent_told, origin_told}
use Rattle.rbc_scene_reading.proofs.KeptLemmas.{and_then_found}

-- a group of a sound track stands on one of its sections
pub group_good : (track : Track) (name : GroupName) (group : BaliseGroup) → IsSound track → group_named track name ≡ Some group → is_good_group track group ≡ true
group_good track name group sound h =
    find-holds (λ (g : BaliseGroup). is_good_group track g ≡ true) (λ (g : BaliseGroup). group_name_eq g.name name) track.groups group h (each_of (is_good_group track) track.groups sound.groups)

module _ (track : Track) (running : Running) (rear front : ℤ) where
  abbrev legs : Line
  legs = running.legs

  abbrev Never : Type 0
  Never =
      (r f : ℕ) → place_at running.origin rear ≡ Some r → place_at running.origin front ≡ Some f → IsGoodTrain track (standing_at running r f)
      → StandsAsTold track (standing_at running r f) → ⊥

  never_there : Never → where_told track running rear front ≡ None
  never_there none = by_rear (place_at running.origin rear) refl
    where
      by_test : (r f : ℕ) → place_at running.origin rear ≡ Some r → place_at running.origin front ≡ Some f → (t : Bool)
          → (is_good_train track (standing_at running r f) && stands_as_told track (standing_at running r f)) ≡ t → cond t (Some (standing_at running r f)) None ≡ None
      by_test r f d e false h = refl
      by_test r f d e true h =
          let train = standing_at running r f in
          absurd
          (none r f d e ((train_is track train).0 (and_left (is_good_train track train) (stands_as_told track train) h))
          ((told_trains_decided track train).0 (and_right (is_good_train track train) (stands_as_told track train) h)))

      by_front : (r : ℕ) → place_at running.origin rear ≡ Some r → (o : Option ℕ) → place_at running.origin front ≡ o → option_and_then (λ front. if_stands track (standing_at running r front)) o ≡ None
      by_front r d None e = refl
      by_front r d (Some f) e = by_test r f d e (is_good_train track (standing_at running r f) && stands_as_told track (standing_at running r f)) refl

      by_rear : (o : Option ℕ) → place_at running.origin rear ≡ o → option_and_then (λ rear. option_and_then (λ front. if_stands track (standing_at running rear front)) (place_at running.origin front)) o ≡ None
      by_rear None d = refl
      by_rear (Some r) d = by_front r d (place_at running.origin front) refl

  -- the place of its group is the one that is told
  origin_there : (r f : ℕ) → StandsAsTold track (standing_at running r f) → origin_told track legs running.report ≡ Some running.origin
  origin_there r f told = ap (option_and_then (λ group. place_of track legs group (leg_told group running.report).direction)) told.1 ∙ told.2.origin

  pub no_origin : origin_told track legs running.report ≡ None → where_told track running rear front ≡ None
  no_origin none = never_there (λ r f d e good told. let no : None ≡ Some running.origin = sym none ∙ origin_there r f told in let never : ⊥ = cc in never)

  pub other_origin : (origin : ℕ) → origin_told track legs running.report ≡ Some origin → ((origin ≡ running.origin) → ⊥) → where_told track running rear front ≡ None
  other_origin origin there other = never_there (λ r f d e good told. other (the_some origin running.origin (sym there ∙ origin_there r f told)))

  pub no_rear : ((place : ℕ) → place_at running.origin rear ≡ Some place → line_length track legs < place) → where_told track running rear front ≡ None
  no_rear beyond = never_there (λ r f d e good told. let b = beyond r d in let x = good.rear in let y = good.front in let never : ⊥ = omega (arith, b, x, y) in never)

  module _ (r f : ℕ) (rear_is : place_at running.origin rear ≡ Some r) (front_is : place_at running.origin front ≡ Some f) where
    abbrev report : Report
    report = running.report

    three : (a b c : Bool) → a ≡ true → b ≡ true → c ≡ true → (a && b && c) ≡ true
    three true true true d e g = refl
    three false b c d e g = absurd (let never : ⊥ = cc in never)
    three true false c d e g = absurd (let never : ⊥ = cc in never)
    three true true false d e g = absurd (let never : ⊥ = cc in never)

    extent_there : (told : StandsAsTold track (standing_at running r f)) → is_extent_told track report running.origin r f ≡ true
    extent_there told =
        three (f == running.origin + report.distance + report.under) (r + (report.over + report.length) == running.origin + report.distance) (nat_le (report.distance + report.under) (farthest track.format))
        ((unsigned_Decides f (running.origin + report.distance + report.under)).1 told.2.front)
        ((unsigned_Decides (r + (report.over + report.length)) (running.origin + report.distance)).1 told.2.rear)
        (le-leb (report.distance + report.under) (farthest track.format) told.2.near)

    pub other_extent : is_extent_told track report running.origin r f ≡ false → where_told track running rear front ≡ None
    other_extent other =
        never_there
        (λ s g d e good told.
        let same_rear : s ≡ r = the_some s r (sym d ∙ rear_is) in
        let same_front : g ≡ f = the_some g f (sym e ∙ front_is) in
        let here : StandsAsTold track (standing_at running r f) = subst (λ n. StandsAsTold track (standing_at running r n)) same_front (subst (λ n. StandsAsTold track (standing_at running n g)) same_rear told) in
        let no : true ≡ false = sym (extent_there here) ∙ other in
        let never : ⊥ = cc in never)

    module _ (line : IsLine track legs) (there : origin_told track legs report ≡ Some running.origin) (on_line : f ≤ line_length track legs) (extent : is_extent_told track report running.origin r f ≡ true) where
      -- the tests of the extent
      first_two : (f == running.origin + report.distance + report.under && r + (report.over + report.length) == running.origin + report.distance) ≡ true
      first_two =
          and_left (f == running.origin + report.distance + report.under && r + (report.over + report.length) == running.origin + report.distance) (nat_le (report.distance + report.under) (farthest track.format)) extent

      front_told : f ≡ running.origin + report.distance + report.under
      front_told =
          eqb-true f (running.origin + report.distance + report.under)
          (and_left (f == running.origin + report.distance + report.under) (r + (report.over + report.length) == running.origin + report.distance) first_two)

      rear_told : r + (report.over + report.length) ≡ running.origin + report.distance
      rear_told =
          eqb-true (r + (report.over + report.length)) (running.origin + report.distance)
          (and_right (f == running.origin + report.distance + report.under) (r + (report.over + report.length) == running.origin + report.distance) first_two)

      near : report.distance + report.under ≤ farthest track.format
      near =
          leb-true (report.distance + report.under) (farthest track.format)
          (and_right (f == running.origin + report.distance + report.under && r + (report.over + report.length) == running.origin + report.distance) (nat_le (report.distance + report.under) (farthest track.format)) extent)

      pub stands_good : IsGoodTrain track (standing_at running r f)
      stands_good = record {
        line = line;
        origin = let a = front_told in omega (arith, a);
        rear = let a = front_told in let b = rear_told in omega (arith, a, b);
        front = on_line;
        behind = let a = front_told in let b = rear_told in omega (arith, a, b);
        from = omega arith;
        to = on_line;
      }

      stands_told : StandsAsTold track (standing_at running r f)
      stands_told =
          let g = and_then_found (group_named track report.group) (λ group. place_of track legs group (leg_told group report).direction) running.origin there in (
            g.0,
            g.1,
            record { origin = g.2; front = front_told; rear = rear_told; near = near },
          )

      pub is_there : where_told track running rear front ≡ Some (standing_at running r f)
      is_there =
          ap (λ (o : Option ℕ). option_and_then (λ rear. option_and_then (λ front. if_stands track (standing_at running rear front)) (place_at running.origin front)) o) rear_is
          ∙ ap (λ (o : Option ℕ). option_and_then (λ front. if_stands track (standing_at running r front)) o) front_is
          ∙ ap (λ b. cond (b && stands_as_told track (standing_at running r f)) (Some (standing_at running r f)) None) ((train_is track (standing_at running r f)).1 stands_good)
          ∙ ap (λ b. cond b (Some (standing_at running r f)) None) ((told_trains_decided track (standing_at running r f)).1 stands_told)

-- ---- what was computed, as it is told of the train

pub origin_at : (track : Track) (line there : Line) (known told : Report) (place said : Option ℕ) → line ≡ there → known ≡ told → place ≡ origin_told track line known → place ≡ said → origin_told track there told ≡ said
origin_at track line there known told place said e f g h = ap (λ l. origin_told track l told) (sym e) ∙ ap (λ r. origin_told track line r) (sym f) ∙ sym g ∙ h

pub extent_at : (known track : Track) (report told : Report) (origin place r f : ℕ) (found said : Bool) → known ≡ track → report ≡ told → place ≡ origin → found ≡ is_extent_told known report place r f → found ≡ said
    → is_extent_told track told origin r f ≡ said
extent_at known track report told origin place r f found said a b d g h =
    ap (λ t. is_extent_told t told origin r f) (sym a) ∙ ap (λ x. is_extent_told known x origin r f) (sym b) ∙ ap (λ n. is_extent_told known report n r f) (sym d) ∙ sym g ∙ h

pub train_at_places : (line : LineOnTrack) (report : Report) (running : Running) (origin r f : ℕ) → line.legs ≡ running.legs → report ≡ running.report → origin ≡ running.origin → train_on line report origin r f f f ≡ standing_at running r f
train_at_places line report running origin r f a b d =
    ap (λ l. let train : Train = record { report = report; line = l; origin = origin; rear = r; front = f; from = f; to = f } in train) a
    ∙ ap (λ x. let train : Train = record { report = x; line = running.legs; origin = origin; rear = r; front = f; from = f; to = f } in train) b
    ∙ ap (λ n. let train : Train = record { report = running.report; line = running.legs; origin = n; rear = r; front = f; from = f; to = f } in train) d
