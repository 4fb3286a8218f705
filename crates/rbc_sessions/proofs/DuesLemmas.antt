-- What is due next stands behind what is due.
use Rattle.std.proofs.Common.{◌≡◌, suc, List, [], ◌∷◌, ◌++◌, length, Option, Some, None, refl, ap}
use Rattle.rbc_sessions.specs.Dues.{ToldSo, AskedSo, asked_in, dues_of}

module _ {T A : Type 0} where
  pub told_next : (replies : List (Option T)) (answers : List A) (reply : T) → dues_of (replies ++ Some reply ∷ []) answers ≡ dues_of replies answers ++ ToldSo reply ∷ []
  told_next [] answers reply = refl
  told_next (Some other ∷ replies) answers reply = ap (λ l. ToldSo other ∷ l) (told_next replies answers reply)
  told_next (None ∷ replies) [] reply = told_next replies [] reply
  told_next (None ∷ replies) (answer ∷ answers) reply = ap (λ l. AskedSo answer ∷ l) (told_next replies answers reply)

  pub asked_next : (replies : List (Option T)) (answers : List A) (answer : A) → asked_in replies ≡ length answers
      → dues_of (replies ++ None ∷ []) (answers ++ answer ∷ []) ≡ dues_of replies answers ++ AskedSo answer ∷ []
  asked_next [] [] answer count = refl
  asked_next [] (other ∷ answers) answer count = absurd (let c : ⊥ = cc in c)
  asked_next (Some reply ∷ replies) answers answer count = ap (λ l. ToldSo reply ∷ l) (asked_next replies answers answer count)
  asked_next (None ∷ replies) [] answer count = absurd (let c : ⊥ = cc in c)
  asked_next (None ∷ replies) (other ∷ answers) answer count = ap (λ l. AskedSo other ∷ l) (asked_next replies answers answer (let c : asked_in replies ≡ length answers = cc in c))

module _ {T : Type 0} where
  pub count_told : (replies : List (Option T)) (reply : T) → asked_in (replies ++ Some reply ∷ []) ≡ asked_in replies
  count_told [] reply = refl
  count_told (Some other ∷ replies) reply = count_told replies reply
  count_told (None ∷ replies) reply = ap suc (count_told replies reply)

  pub count_asked : (replies : List (Option T)) → asked_in (replies ++ None ∷ []) ≡ suc (asked_in replies)
  count_asked [] = refl
  count_asked (Some reply ∷ replies) = count_asked replies
  count_asked (None ∷ replies) = ap suc (count_asked replies)
