-- Keys in order, each once, beside a map that tells where each stands.
use Rattle.std.specs.Prelude.{◌≡◌, ℕ, Bool, List, position}
use Rattle.std.specs.HashMap.{HashMap, get}
use Rattle.std.specs.List.{IsDistinct}

-- no two keys are equal, and the map has just their places, from 0 on
pub record AreFound {K S : Type 0} (eq : K → K → Bool) (keys : List K) (places : HashMap K ℕ S) : Type 0 where
  pub distinct : IsDistinct eq keys
  pub each : (key : K) → get eq places key ≡ position (eq key) keys
