-- Lemmas on beginnings of lists.
use Rattle.std.proofs.Common.{◌≡◌, ◌≤◌, List, [], ◌++◌, length, sym, ap, ◌∙◌, take, drop, append-nil}
use Rattle.std.proofs.Math.Seq.{take-append_seam}
use Rattle.std.proofs.lemmas.List.{take_all, take-take, take-append-drop}
use mathlib.Core.List.{IsPrefix}

-- a beginning is the first elements
take_of_prefix : {A : Type 0} (xs zs : List A) → IsPrefix xs zs → take (length xs) zs ≡ xs
take_of_prefix xs zs p = ap (take (length xs)) (sym p.1) ∙ take-append_seam xs p.0

-- of two beginnings of one list the shorter begins the longer
pub prefix_shorter : {A : Type 0} (xs ys zs : List A) → IsPrefix xs zs → IsPrefix ys zs → length xs ≤ length ys → IsPrefix xs ys
prefix_shorter xs ys zs p q few =
    let same : take (length xs) ys ≡ xs = ap (take (length xs)) (sym (take_of_prefix ys zs q)) ∙ take-take (length xs) (length ys) zs few ∙ take_of_prefix xs zs p in
    (drop (length xs) ys, ap (λ l. l ++ drop (length xs) ys) (sym same) ∙ take-append-drop (length xs) ys)

-- all of a list begins it
pub prefix_itself : {A : Type 0} (xs : List A) → IsPrefix xs xs
prefix_itself xs = ([], append-nil xs)

-- a beginning as long as the whole is the whole
pub prefix_whole : {A : Type 0} (xs ys : List A) → IsPrefix xs ys → length ys ≤ length xs → xs ≡ ys
prefix_whole xs ys p few = sym (take_of_prefix xs ys p) ∙ take_all (length xs) ys few
