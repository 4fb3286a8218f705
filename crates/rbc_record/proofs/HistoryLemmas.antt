-- The beginnings of a legal history are legal, and what it promises part by part.
use Rattle.std.proofs.Common.{◌≡◌, ℕ, zero, suc, ◌<◌, ◌≤◌, List, [], ◌∷◌, take, Some, refl, ap, sym, subst, arith}
use Rattle.std.specs.Prelude.{slice_get}
use Rattle.rbc_model.specs.Histories.{Beginning, Entry, Granted, IsLegal, MayFollow}
use Rattle.rbc_record.specs.Headline.{EachEndIsFarthest, EachProfileIsBest}

-- ---- beginnings

-- what a beginning has at a place, the whole list has there
got_in_take : {X : Type 0} (n : ℕ) (xs : List X) (k : ℕ) (x : X) → slice_get (take n xs) k ≡ Some x → (slice_get xs k ≡ Some x) × (k < n)
got_in_take zero [] k x h = cc
got_in_take zero (y ∷ ys) k x h = cc
got_in_take (suc n) [] k x h = cc
got_in_take (suc n) (y ∷ ys) zero x h = (h, omega arith)
got_in_take (suc n) (y ∷ ys) (suc k) x h = let there = got_in_take n ys k x h in (there.0, let low = there.1 in omega arith)

take_take : {X : Type 0} (k n : ℕ) (xs : List X) → k ≤ n → take k (take n xs) ≡ take k xs
take_take zero n xs h = refl
take_take (suc k) zero xs h = absurd (omega arith)
take_take (suc k) (suc n) [] h = refl
take_take (suc k) (suc n) (x ∷ xs) h = ap (λ ys. x ∷ ys) (take_take k n xs (omega arith))

pub IsLegal-take : (begin : Beginning) (entries : List Entry) (moment : ℕ) → IsLegal begin entries → IsLegal begin (take moment entries)
IsLegal-take begin entries moment legal place entry there =
    let whole = got_in_take moment entries place entry there in
    let low = whole.1 in
    subst (λ before. MayFollow begin before entry) (sym (take_take place moment entries (omega arith))) (legal place entry whole.0)

-- ---- parts of the promise

pub EachEndIsFarthest-legal : (begin : Beginning) (entries : List Entry) → IsLegal begin entries → EachEndIsFarthest begin entries
EachEndIsFarthest-legal begin entries legal moment grant train there known =
    (((legal moment (Granted grant) there).best grant refl).best train known).ends

pub EachProfileIsBest-legal : (begin : Beginning) (entries : List Entry) → IsLegal begin entries → EachProfileIsBest begin entries
EachProfileIsBest-legal begin entries legal moment grant train there known =
    (((legal moment (Granted grant) there).best grant refl).best train known).profiles
