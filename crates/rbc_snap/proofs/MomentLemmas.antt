-- Lemmas on the moments of one history.
use Rattle.std.proofs.Common.{◌≡◌, ℕ, ◌≤◌, ◌<◌, List, [], ◌∷◌, ◌++◌, length, refl, subst, arith, inl, inr, ◌⊎◌}
use Rattle.std.specs.Prelude.{Bool, true, false, nat_lt, MatchBool}
use Rattle.std.proofs.lemmas.Bool.Decides.{nat_tests}
use mathlib.Core.List.{IsPrefix}
use Rattle.rbc_record.specs.Records.{HistoryOnTrack, IsRight}
use Rattle.rbc_snap.specs.Later.{IsLater}
use Rattle.rbc_snap.specs.Sights.{last_of, latest, GoOnFrom, AreMoments}
use Rattle.rbc_logbook_laws.proofs.BeginningLemmas.{prefix_shorter}
use Rattle.rbc_snap.proofs.LaterLemmas.{later_itself, later_still, later_as_long}

pub last_added : (d : HistoryOnTrack) (xs : List HistoryOnTrack) (h : HistoryOnTrack) → last_of d (xs ++ h ∷ []) ≡ h
last_added d [] h = refl
last_added d (x ∷ xs) h = last_added x xs h

go_on_last : (d : HistoryOnTrack) (xs : List HistoryOnTrack) → IsRight d → GoOnFrom d xs → IsLater d (last_of d xs)
go_on_last d [] right h = later_itself d right
go_on_last d (x ∷ xs) right h = later_still d x (last_of x xs) h.0 (let l = h.0 in go_on_last x xs l.right h.1)

go_on_more : (d : HistoryOnTrack) (xs : List HistoryOnTrack) (h : HistoryOnTrack) → GoOnFrom d xs → IsLater (last_of d xs) h → GoOnFrom d (xs ++ h ∷ [])
go_on_more d [] h go next = (next, tt)
go_on_more d (x ∷ xs) h go next = (go.0, go_on_more x xs h go.1 next)

go_on_seen : (d : HistoryOnTrack) (xs ys : List HistoryOnTrack) → IsRight d → GoOnFrom d (xs ++ ys) → IsLater (last_of d xs) (last_of d (xs ++ ys))
go_on_seen d [] ys right go = go_on_last d ys right go
go_on_seen d (x ∷ xs) ys right go = go_on_seen x xs ys (let l = go.0 in l.right) go.1

pub moments_right : (xs : List HistoryOnTrack) → AreMoments xs → IsRight (latest xs)
moments_right [] m = absurd m
moments_right (x ∷ xs) m = let l = go_on_last x xs m.0 m.1 in l.right

pub moments_more : (xs : List HistoryOnTrack) (h : HistoryOnTrack) → AreMoments xs → IsLater (latest xs) h → AreMoments (xs ++ h ∷ [])
moments_more [] h m next = absurd m
moments_more (x ∷ xs) h m next = (m.0, go_on_more x xs h m.1 next)

later_of_prefix : (xs ys : List HistoryOnTrack) → AreMoments xs → AreMoments ys → IsPrefix xs ys → IsLater (latest xs) (latest ys)
later_of_prefix [] ys m n p = absurd m
later_of_prefix (x ∷ xs) ys m n p =
    subst (λ (zs : List HistoryOnTrack). AreMoments zs → IsLater (latest (x ∷ xs)) (latest zs)) p.1 (λ q. go_on_seen x xs p.0 q.0 q.1) n

-- of two beginnings of one book the one with no fewer entries goes on from the other
pub later_of_two : (xs ys zs : List HistoryOnTrack) → AreMoments xs → AreMoments ys → IsPrefix xs zs → IsPrefix ys zs
    → length (latest xs).entries ≤ length (latest ys).entries → IsLater (latest xs) (latest ys)
later_of_two xs ys zs m n p q few = by_length (grind arith)
  where
    by_length : (length xs ≤ length ys) ⊎ (length ys ≤ length xs) → IsLater (latest xs) (latest ys)
    by_length (inl le) = later_of_prefix xs ys m n (prefix_shorter xs ys zs p q le)
    by_length (inr le) =
        let back = later_of_prefix ys xs n m (prefix_shorter ys xs zs q p le) in
        subst (λ h. IsLater h (latest ys)) (later_as_long (latest ys) (latest xs) back few) (later_itself (latest ys) (moments_right ys n))

by_bool : (b : Bool) (X Y : Type 0) → (b ≡ true → X) → (b ≡ false → Y) → MatchBool b X Y
by_bool true X Y f g = f refl
by_bool false X Y f g = g refl

-- which of two moments of one book goes on from the other, by how many entries they have
pub compared : (v w : ℕ) (xs ys zs : List HistoryOnTrack) → v ≡ length (latest xs).entries → w ≡ length (latest ys).entries → AreMoments xs → AreMoments ys → IsPrefix xs zs → IsPrefix ys zs
    → MatchBool (nat_lt v w) ((length (latest xs).entries < length (latest ys).entries) × IsLater (latest xs) (latest ys)) (IsLater (latest ys) (latest xs))
compared v w xs ys zs is_v is_w m n p q =
    by_bool (nat_lt v w) ((length (latest xs).entries < length (latest ys).entries) × IsLater (latest xs) (latest ys)) (IsLater (latest ys) (latest xs))
    (λ less.
    let low : v < w = grind (arith, nat_tests) in
    (omega (arith, low, is_v, is_w), later_of_two xs ys zs m n p q (omega (arith, low, is_v, is_w))))
    (λ not_less. let few : w ≤ v = grind (arith, nat_tests) in later_of_two ys xs zs n m q p (omega (arith, few, is_v, is_w)))

-- of two moments of one book one goes on from the other
pub beside : (xs ys zs : List HistoryOnTrack) → AreMoments xs → AreMoments ys → IsPrefix xs zs → IsPrefix ys zs
    → IsLater (latest xs) (latest ys) ⊎ IsLater (latest ys) (latest xs)
beside xs ys zs m n p q = by_length (grind arith)
  where
    by_length : (length (latest xs).entries ≤ length (latest ys).entries) ⊎ (length (latest ys).entries ≤ length (latest xs).entries)
        → IsLater (latest xs) (latest ys) ⊎ IsLater (latest ys) (latest xs)
    by_length (inl le) = inl (later_of_two xs ys zs m n p q le)
    by_length (inr le) = inr (later_of_two ys xs zs n m q p le)
