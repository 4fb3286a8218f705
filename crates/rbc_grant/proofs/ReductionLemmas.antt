-- What a reduction shows of the profile that it gives.
use Rattle.std.proofs.Common.{◌≡◌, ℕ, List, subst}
use Rattle.std.specs.Global.{Vec}
use Rattle.rbc_model.specs.Levels.{Levels}
use Rattle.rbc_model.specs.Profiles.{StepFunction}
use Rattle.rbc_grant.specs.Reductions.{IsReduction}

-- it is one of an equal track, at an equal unit and limit
pub reduction_of : {V : Type 0} (levels : Levels V) (unit limit unit' limit' : ℕ) (track track' profile : StepFunction V) (lost : ℕ) (rows : List (Vec ℕ))
    → unit ≡ unit' → limit ≡ limit' → track ≡ track'
    → IsReduction levels unit limit track profile lost rows → IsReduction levels unit' limit' track' profile lost rows
reduction_of levels unit limit unit' limit' track track' profile lost rows u k t reduction =
    subst (λ v. IsReduction levels v limit' track' profile lost rows) u
    (subst (λ m. IsReduction levels unit m track' profile lost rows) k
    (subst (λ r. IsReduction levels unit limit r profile lost rows) t reduction))
