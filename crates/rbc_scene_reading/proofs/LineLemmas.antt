-- The first line of a text.
use Rattle.std.proofs.Common.{◌≡◌, ℕ, suc, ◌+◌, ◌<◌, ◌≤◌, Bool, ltb, true, false, not, cond, List, [], ◌∷◌, length, take, drop, refl, sym, ap, ◌∙◌, arith}
use Rattle.std.specs.Prelude.{◌==◌, Some, None}
use Rattle.std.specs.Option.{unwrap_or}
use Rattle.std.specs.List.{position, position_or_len}
use Rattle.std.proofs.lemmas.List.Sums.{prefix_len-le-length}
use Rattle.rbc_model.specs.Sessions.{lines_of, with_front}

abbrev is_feed : ℕ → Bool
is_feed byte = byte == 10

abbrev line_end : List ℕ → ℕ
line_end text = position_or_len is_feed text

-- a place that may be the end
place_at : (i n : ℕ) (b : Bool) → ltb i n ≡ b → i ≤ n → unwrap_or (cond b (Some i) None) n ≡ i
place_at i n true e le = refl
place_at i n false e le = grind arith

pub place_or_end : (text : List ℕ) → unwrap_or (position is_feed text) (length text) ≡ line_end text
place_or_end text = place_at (line_end text) (length text) (ltb (line_end text) (length text)) refl (prefix_len-le-length (λ byte. not (is_feed byte)) text)

-- the line feed ends it
pub ended_line : (text later : List ℕ) (feed : ℕ) → drop (line_end text) text ≡ feed ∷ later → lines_of text ≡ take (line_end text) text ∷ lines_of later
ended_line [] later feed h = absurd (let never : ⊥ = cc in never)
ended_line (byte ∷ text) later feed h = by_feed (is_feed byte) refl h (ended_line text later feed)
  where
    by_feed : (t : Bool) → is_feed byte ≡ t → drop (cond (not t) (1 + line_end text) 0) (byte ∷ text) ≡ feed ∷ later
        → (drop (line_end text) text ≡ feed ∷ later → lines_of text ≡ take (line_end text) text ∷ lines_of later)
        → cond t ([] ∷ lines_of text) (with_front byte (lines_of text)) ≡ take (cond (not t) (1 + line_end text) 0) (byte ∷ text) ∷ lines_of later
    by_feed true e g rest = let same : text ≡ later = cc in ap (λ (l : List ℕ). [] ∷ lines_of l) same
    by_feed false e g rest =
        let more : 1 + line_end text ≡ suc (line_end text) = omega arith in
        ap (with_front byte) (rest (ap (λ n. drop n (byte ∷ text)) (sym more) ∙ g))
        ∙ ap (λ n. take n (byte ∷ text) ∷ lines_of later) (sym more)

-- or the text does
pub last_line : (text : List ℕ) → 0 < length text → drop (line_end text) text ≡ [] → lines_of text ≡ take (line_end text) text ∷ []
last_line [] some h = absurd (omega arith)
last_line (byte ∷ text) some h = by_feed (is_feed byte) refl h (λ more g. last_line text more g)
  where
    alone : (text : List ℕ) → (0 < length text → lines_of text ≡ take (line_end text) text ∷ []) → with_front byte (lines_of text) ≡ (byte ∷ take (line_end text) text) ∷ []
    alone [] rest = refl
    alone (next ∷ text) rest = ap (with_front byte) (rest (omega arith))

    by_feed : (t : Bool) → is_feed byte ≡ t → drop (cond (not t) (1 + line_end text) 0) (byte ∷ text) ≡ [] → (0 < length text → drop (line_end text) text ≡ [] → lines_of text ≡ take (line_end text) text ∷ [])
        → cond t ([] ∷ lines_of text) (with_front byte (lines_of text)) ≡ take (cond (not t) (1 + line_end text) 0) (byte ∷ text) ∷ []
    by_feed true e g rest = absurd (let never : ⊥ = cc in never)
    by_feed false e g rest =
        let more : 1 + line_end text ≡ suc (line_end text) = omega arith in
        alone text (λ some. rest some (ap (λ n. drop n (byte ∷ text)) (sym more) ∙ g))
        ∙ ap (λ n. take n (byte ∷ text) ∷ []) (sym more)
