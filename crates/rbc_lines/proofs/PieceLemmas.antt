-- The legs of a train, as the lines that tell them.
use Rattle.std.proofs.Common.{◌≡◌, ℕ, zero, suc, ◌<◌, true, false, List, [], ◌∷◌, ◌++◌, refl, sym, ap, ◌∙◌, subst, arith, take, drop, length, map}
use Rattle.std.specs.Prelude.{◌==◌, All, flat_map, codes, decimal}
use Rattle.std.proofs.lemmas.List.{length-drop}
use Rattle.std.proofs.lemmas.List.Elements.{All-take, All-drop}
use Rattle.std.proofs.lemmas.Bool.{eqb-true}
use Rattle.rbc_model.specs.declared.places.Leg.{Leg}
use Rattle.rbc_model.specs.Tracks.{Track}
use Rattle.rbc_model.specs.Lines.{Line}
use Rattle.rbc_model.specs.Trains.{Train}
use Rattle.rbc_model.specs.SceneLines.{in_front, pieces_of, train_line, way_lines}
use Rattle.rbc_model.specs.SessionReply.{leg_word}
use Rattle.rbc_model.specs.Words.{line_of}
use Rattle.rbc_lines.specs.Pieces.{later_pieces, later_lines}

-- a line's pieces are as many legs as there is room for, and the pieces of the legs behind them
pub pieces_of-cut : (room : ℕ) (legs : Line) → pieces_of room legs ≡ take room legs ∷ later_pieces (drop room legs)
pieces_of-cut zero [] = refl
pieces_of-cut (suc room) [] = refl
pieces_of-cut zero (leg ∷ legs) = refl
pieces_of-cut (suc room) (leg ∷ legs) = ap (in_front leg) (pieces_of-cut room legs)

-- the line of a train's legs, by their first piece
abbrev pub along_line : Track → Train → Line → List ℕ
along_line track train piece = line_of (train_line (codes "along") train (map (leg_word track) piece))

-- the lines of the legs that are left are one of the first piece, and those behind it
pub later_lines-next : (track : Track) (train : Train) (legs piece more : Line) → (length legs == 0) ≡ false → piece ≡ take 64 legs → more ≡ drop 64 legs
    → flat_map line_of (later_lines track train legs) ≡ along_line track train piece ++ flat_map line_of (later_lines track train more)
later_lines-next track train [] piece more some front back = absurd (let never : ⊥ = cc in never)
later_lines-next track train (leg ∷ legs) piece more some front back =
    let told : List Line → List ℕ = λ pieces. flat_map line_of (map (λ p. train_line (codes "along") train (map (leg_word track) p)) pieces) in
    ap told (pieces_of-cut 64 (leg ∷ legs))
    ∙ ap (λ p. told (p ∷ later_pieces (drop 64 (leg ∷ legs)))) (sym front)
    ∙ ap (λ m. told (piece ∷ later_pieces m)) (sym back)

-- no leg is left
pub later_lines-end : (track : Track) (train : Train) (legs : Line) → (length legs == 0) ≡ true → flat_map line_of (later_lines track train legs) ≡ []
later_lines-end track train [] none = refl
later_lines-end track train (leg ∷ legs) none = let nothing = eqb-true (length (leg ∷ legs)) 0 none in absurd (omega arith)

-- the lines of all legs of a train
pub way_lines-cut : (track : Track) (train : Train) (legs piece more : Line) (number origin : ℕ) → train.line ≡ legs → number ≡ train.report.train → origin ≡ train.origin
    → piece ≡ take 64 legs → more ≡ drop 64 legs
    → flat_map line_of (way_lines track train (pieces_of 64 train.line))
    ≡ line_of (codes "line" ∷ decimal number ∷ decimal origin ∷ map (leg_word track) piece) ++ flat_map line_of (later_lines track train more)
way_lines-cut track train legs piece more number origin same first place front back =
    let told : List Line → List ℕ = λ pieces. flat_map line_of (way_lines track train pieces) in
    ap told (ap (pieces_of 64) same ∙ pieces_of-cut 64 legs)
    ∙ ap (λ p. told (p ∷ later_pieces (drop 64 legs))) (sym front)
    ∙ ap (λ m. told (piece ∷ later_pieces m)) (sym back)
    ∙ ap (λ n. line_of (codes "line" ∷ decimal n ∷ decimal train.origin ∷ map (leg_word track) piece) ++ flat_map line_of (later_lines track train more)) (sym first)
    ∙ ap (λ o. line_of (codes "line" ∷ decimal number ∷ decimal o ∷ map (leg_word track) piece) ++ flat_map line_of (later_lines track train more)) (sym place)

-- fewer legs are left behind a piece
pub later_shorter : (legs more : Line) → (length legs == 0) ≡ false → more ≡ drop 64 legs → length more < length legs
later_shorter [] more some back = absurd (let never : ⊥ = cc in never)
later_shorter (leg ∷ legs) more some back = let shorter = ap length back ∙ length-drop 64 (leg ∷ legs) in omega arith

-- what holds of all legs holds of the legs of a piece, and of the legs behind it
pub each_of_piece : (P : Leg → Type 0) (legs piece more : Line) → All P legs → piece ≡ take 64 legs → more ≡ drop 64 legs → All P piece × All P more
each_of_piece P legs piece more all front back = (subst (All P) (sym front) (All-take P 64 legs all), subst (All P) (sym back) (All-drop P 64 legs all))
