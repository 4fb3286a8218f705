-- The test of where a train stands.
use Rattle.std.proofs.Common.{◌≡◌, ℕ, zero, suc, ◌+◌, ◌&&◌, nat_le, [], ◌∷◌, length, Option, Some, None, IsTrue, refl, ap, sym, subst, arith}
use Rattle.std.specs.List.{list_all}
use Rattle.std.specs.Prelude.{◌==◌}
use Rattle.std.specs.Bool.{Decides}
use Rattle.std.specs.Cmp.{unsigned_Decides}
use Rattle.std.proofs.lemmas.Bool.{leb-true, le-leb}
use Rattle.std.proofs.lemmas.Bool.Decides.{Decides-and, Decides-like, Decides-by_and}
use Rattle.rbc_model.specs.declared.tracks.BaliseGroup.{BaliseGroup}
use Rattle.rbc_model.specs.Tracks.{Track, group_named}
use Rattle.rbc_model.specs.Scales.{farthest}
use Rattle.rbc_model.specs.Lines.{place_of}
use Rattle.rbc_model.specs.Trains.{Train}
use Rattle.rbc_model.specs.Placing.{leg_told}
use Rattle.rbc_scene_laws.proofs.BasicLemmas.{the_some}
use Rattle.rbc_model.specs.declared.limits.TheConstants.{MOST_TRAINS}
use Rattle.rbc_model.specs.declared.tracks.Lock.{Lock}
use Rattle.rbc_model.specs.Locks.{Locks, row}
use Rattle.rbc_good_laws.specs.Told.{IsAsTold, StandsAsTold, are_needed_rows, is_needed, is_needed_row, is_place, is_as_told, is_told_by, is_told_scene, stands_as_told}
use Rattle.rbc_good_laws.specs.Laws.{ToldScenesAreDecided, ToldTrainsAreDecided}

place_is : (place : ℕ) (o : Option ℕ) → Decides (is_place place o) (o ≡ Some place)
place_is place None = (λ h. cc, λ h. cc)
place_is place (Some other) = (λ h. ap Some ((unsigned_Decides other place).0 h), λ h. (unsigned_Decides other place).1 (the_some other place h))

as_told : (track : Track) (train : Train) (group : BaliseGroup) → Decides (is_as_told track train group) (IsAsTold track train group)
as_told track train group =
    let r = train.report in
    let place = place_of track train.line group (leg_told group train.report).direction in
    Decides-like (is_as_told track train group)
    (λ e. record { origin = e.0.0.0; front = e.0.0.1; rear = e.0.1; near = e.1 })
    (λ t. (((t.origin, t.front), t.rear), t.near))
    (Decides-and (is_place train.origin place && train.front == train.origin + r.distance + r.under && train.rear + (r.over + r.length) == train.origin + r.distance) (nat_le (r.distance + r.under) (farthest track.format))
    (Decides-and (is_place train.origin place && train.front == train.origin + r.distance + r.under) (train.rear + (r.over + r.length) == train.origin + r.distance)
    (Decides-and (is_place train.origin place) (train.front == train.origin + r.distance + r.under) (place_is train.origin place)
    (unsigned_Decides train.front (train.origin + r.distance + r.under)))
    (unsigned_Decides (train.rear + (r.over + r.length)) (train.origin + r.distance)))
    (leb-true (r.distance + r.under) (farthest track.format), le-leb (r.distance + r.under) (farthest track.format)))

told_by : (track : Track) (train : Train) (o : Option BaliseGroup) → Decides (is_told_by track train o) ((group : BaliseGroup) × (o ≡ Some group) × IsAsTold track train group)
told_by track train None = (λ h. cc, λ t. absurd (let never = t.1 in cc))
told_by track train (Some group) = (
  λ h. (group, refl, (as_told track train group).0 h),
  λ t. (as_told track train group).1 (subst (λ g. IsAsTold track train g) (sym (the_some group t.0 t.1)) t.2),
)

pub told_trains_decided : ToldTrainsAreDecided
told_trains_decided track train = told_by track train (group_named track train.report.group)

-- ---- scenes

needed_is : (track : Track) (section : ℕ) (o : Option Lock) → Decides (is_needed_row track section o) ((lock : Lock) → o ≡ Some lock → IsTrue (is_needed track section lock))
needed_is track section None = (λ h lock e. cc, λ h. refl)
needed_is track section (Some held) = (λ h lock e. subst (λ l. IsTrue (is_needed track section l)) (the_some held lock e) h, λ h. h held refl)

rows_are : (track : Track) (n : ℕ) (rows : Locks) → Decides (are_needed_rows track n rows) ((k : ℕ) (lock : Lock) → row rows k ≡ Some lock → IsTrue (is_needed track (n + k) lock))
rows_are track n [] = (λ h k lock e. cc, λ h. refl)
rows_are track n (first ∷ rows) =
    let both = Decides-and (is_needed_row track n first) (are_needed_rows track (n + 1) rows) (needed_is track n first) (rows_are track (n + 1) rows) in (
      λ h k lock e. split k lock e (both.0 h),
      λ h. both.1 (λ lock e. subst (λ m. IsTrue (is_needed track m lock)) (let z : n + 0 ≡ n = omega arith in z) (h 0 lock e), λ k lock e. subst (λ m. IsTrue (is_needed track m lock)) (let z : n + suc k ≡ n + 1 + k = omega arith in z) (h (suc k) lock e)),
    )
  where
    split : (k : ℕ) (lock : Lock) → row (first ∷ rows) k ≡ Some lock
        → ((lock : Lock) → first ≡ Some lock → IsTrue (is_needed track n lock)) × ((k : ℕ) (lock : Lock) → row rows k ≡ Some lock → IsTrue (is_needed track (n + 1 + k) lock)) → IsTrue (is_needed track (n + k) lock)
    split zero lock e parts = subst (λ m. IsTrue (is_needed track m lock)) (let z : n ≡ n + 0 = omega arith in z) (parts.0 lock e)
    split (suc k) lock e parts = subst (λ m. IsTrue (is_needed track m lock)) (let z : n + 1 + k ≡ n + suc k = omega arith in z) (parts.1 k lock e)

pub told_scenes_decided : ToldScenesAreDecided
told_scenes_decided track scene =
    let rows = rows_are track 0 scene.locks in
    let trains = Decides-by_and (stands_as_told track) (StandsAsTold track) (list_all (stands_as_told track)) (told_trains_decided track) refl (λ x ys. refl) scene.trains in
    Decides-like (is_told_scene track scene)
    (λ e. record {
      rows = λ section lock there. subst (λ n. IsTrue (is_needed track n lock)) (let z : 0 + section ≡ section = omega arith in z) (e.0.0 section lock there);
      trains = e.0.1;
      few = e.1;
    })
    (λ t. ((λ section lock there. subst (λ n. IsTrue (is_needed track n lock)) (let z : section ≡ 0 + section = omega arith in z) (t.rows section lock there), t.trains), t.few))
    (Decides-and (are_needed_rows track 0 scene.locks && list_all (stands_as_told track) scene.trains) (nat_le (length scene.trains) MOST_TRAINS)
    (Decides-and (are_needed_rows track 0 scene.locks) (list_all (stands_as_told track) scene.trains) rows trains)
    (leb-true (length scene.trains) MOST_TRAINS, le-leb (length scene.trains) MOST_TRAINS))
