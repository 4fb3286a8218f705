-- What writes in pieces do together.
use Rattle.std.proofs.Common.{◌≡◌, ℕ, ◌+◌, ◌-◌, List, ◌++◌, length, take, drop, Option, sym, subst, ap, ◌∙◌, arith, length-drop, take-append-drop}
use Rattle.std.proofs.Math.Seq.{take-add}
use Rattle.std.proofs.lemmas.List.{take_all}
use Rattle.std.specs.Io.KnownBytes.{Appends, Keeps}
use Rattle.std.proofs.KnownBytes.{Appends-trans, Appends-kept}
use Rattle.rbc_model.specs.Sessions.{WritesPart}

-- `&bytes[count..]`
pub rest_from : (count : ℕ) (bytes : List ℕ) → take (length bytes - count) (drop count bytes) ≡ drop count bytes
rest_from count bytes = take_all _ _ (omega (arith, length-drop count bytes))

-- one more piece of the bytes is written
pub piece_more : (old mid new : Option (List ℕ)) (bytes : List ℕ) (count more : ℕ)
    → Appends old mid (take count bytes) → Appends mid new (take more (take (length bytes - count) (drop count bytes))) → Appends old new (take (count + more) bytes)
piece_more old mid new bytes count more so_far piece =
    let joined = ap (λ l. take count bytes ++ take more l) (rest_from count bytes) ∙ sym (take-add count more bytes) in
    subst (Appends old new) joined (Appends-trans old mid new _ _ so_far piece)

-- where a write fails, a part of the bytes is written
pub piece_failed : (old mid new : Option (List ℕ)) (bytes : List ℕ) (count : ℕ)
    → Appends old mid (take count bytes) → Keeps mid new → WritesPart old new bytes
piece_failed old mid new bytes count so_far kept =
    (take count bytes, drop count bytes, sym (take-append-drop count bytes), Appends-kept old mid new _ so_far kept)
