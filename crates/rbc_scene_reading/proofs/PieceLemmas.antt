-- The pieces of a line, as they are written: each but the last is full.
use Rattle.std.proofs.Common.{◌≡◌, ℕ, zero, suc, ◌<◌, ◌≤◌, List, [], ◌∷◌, ◌++◌, length, refl, ap, ◌∙◌, arith, lit<}
use Rattle.rbc_model.specs.declared.places.Leg.{Leg}
use Rattle.rbc_model.specs.Lines.{Line}
use Rattle.rbc_model.specs.SceneLines.{in_front, pieces_of}

-- pieces one behind another
abbrev pub together : List Line → Line
together [] = []
together (piece ∷ pieces) = piece ++ together pieces

-- the first piece has no more legs than there is room for, and so many if another follows, which has one; and so the others
abbrev pub Fill : ℕ → List Line → Type 0
Fill room [] = ⊥
Fill room (piece ∷ []) = length piece ≤ room
Fill room (piece ∷ next ∷ pieces) = (length piece ≡ room) × (0 < length next) × Fill 64 (next ∷ pieces)

together-in_front : (leg : Leg) (pieces : List Line) → together (in_front leg pieces) ≡ leg ∷ together pieces
together-in_front leg [] = refl
together-in_front leg (piece ∷ pieces) = refl

pub together-pieces_of : (room : ℕ) (legs : Line) → together (pieces_of room legs) ≡ legs
together-pieces_of room [] = refl
together-pieces_of zero (leg ∷ legs) = together-in_front leg (pieces_of 63 legs) ∙ ap (λ l. leg ∷ l) (together-pieces_of 63 legs)
together-pieces_of (suc room) (leg ∷ legs) = together-in_front leg (pieces_of room legs) ∙ ap (λ l. leg ∷ l) (together-pieces_of room legs)

fill-in_front : (room : ℕ) (leg : Leg) (pieces : List Line) → Fill room pieces → Fill (suc room) (in_front leg pieces)
fill-in_front room leg [] h = absurd h
fill-in_front room leg (piece ∷ []) h = omega (arith, h)
fill-in_front room leg (piece ∷ next ∷ pieces) h = (ap suc h.0, h.1, h.2)

-- behind a full piece
behind_full : (leg : Leg) (pieces : List Line) → Fill 64 (in_front leg pieces) → Fill 0 ([] ∷ in_front leg pieces)
behind_full leg [] h = (refl, lit< tt, h)
behind_full leg (piece ∷ pieces) h = (refl, omega arith, h)

pub fill-pieces_of : (room : ℕ) (legs : Line) → Fill room (pieces_of room legs)
fill-pieces_of room [] = omega arith
fill-pieces_of zero (leg ∷ legs) = behind_full leg (pieces_of 63 legs) (fill-in_front 63 leg (pieces_of 63 legs) (fill-pieces_of 63 legs))
fill-pieces_of (suc room) (leg ∷ legs) = fill-in_front room leg (pieces_of room legs) (fill-pieces_of room legs)
