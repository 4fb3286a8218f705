-- Stretches of a line as lists of metres: legs dropped or added only shift them.
use Rattle.std.proofs.Common.{◌≡◌, ℕ, ◌+◌, ◌-◌, ◌≤◌, List, [], ◌∷◌, ◌++◌, length, take, drop, refl, ap, sym, ◌∙◌, arith, inl, inr}
use Rattle.std.proofs.lemmas.List.{length-append, take-append-le, drop-append-le, length-drop}
use Rattle.std.proofs.lemmas.List.FromFn.{length-map-range_with_len}
use Rattle.std.proofs.lemmas.Grind.{flat_map-append}
use Rattle.std.proofs.Math.Seq.{drop-append-add}
use Rattle.rbc_model.specs.declared.places.Metre.{Metre}
use Rattle.rbc_model.specs.Tracks.{Track, metres_of, metre_of_leg, leg_metres}
use Rattle.rbc_model.specs.Lines.{Line, line_metres, line_length}
use Rattle.rbc_model.proofs.MetreLemmas.{line_length-cons}
use Rattle.rbc_model.proofs.ScanLemmas.{le_or_lt}
use Rattle.rbc_scene_laws.specs.Stretches.{metres_between}
use Rattle.rbc_scene_laws.proofs.SpotLemmas.{line_length-append}

-- ---- the list of a stretch

pub length-line_metres : (track : Track) (line : Line) → length (line_metres track line) ≡ line_length track line
length-line_metres track [] = refl
length-line_metres track (leg ∷ line) =
    let here : length (leg_metres track leg) ≡ metres_of track leg.section = length-map-range_with_len (metre_of_leg track leg) 0 (metres_of track leg.section) in
    let later = length-line_metres track line in
    omega (arith, length-append (leg_metres track leg) (line_metres track line), line_length-cons track leg line)

-- ---- stretches of a line that is part of another

line_metres-append : (track : Track) (a b : Line) → line_metres track (a ++ b) ≡ line_metres track a ++ line_metres track b
line_metres-append track a b = flat_map-append (leg_metres track) a b

pub metres_between-append_left : (track : Track) (a b : Line) (i j : ℕ) → j ≤ line_length track a → metres_between track (a ++ b) i j ≡ metres_between track a i j
metres_between-append_left track a b i j h =
    elim (le_or_lt j i) [
      | inl none ↦ none_both (line_metres track (a ++ b)) (line_metres track a) (let e : j - i ≡ 0 = omega arith in e)
      | inr some ↦
          let count = length-line_metres track a in
          let rest = length-drop i (line_metres track a) in
          ap (λ (xs : List Metre). take (j - i) (drop i xs)) (line_metres-append track a b)
          ∙ ap (take (j - i)) (drop-append-le i (line_metres track a) (line_metres track b) (omega arith))
          ∙ take-append-le (j - i) (drop i (line_metres track a)) (line_metres track b) (omega arith)
    ]
  where
    none_both : (xs ys : List Metre) → j - i ≡ 0 → take (j - i) (drop i xs) ≡ take (j - i) (drop i ys)
    none_both xs ys e = rw e refl

pub metres_between-append_right : (track : Track) (a b : Line) (i j : ℕ) → metres_between track (a ++ b) (line_length track a + i) (line_length track a + j) ≡ metres_between track b i j
metres_between-append_right track a b i j =
    let count = length-line_metres track a in
    ap (λ n. take n (drop (line_length track a + i) (line_metres track (a ++ b)))) (let e : line_length track a + j - (line_length track a + i) ≡ j - i = omega arith in e)
    ∙ ap (λ (xs : List Metre). take (j - i) (drop (line_length track a + i) xs)) (line_metres-append track a b)
    ∙ ap (λ n. take (j - i) (drop (n + i) (line_metres track a ++ line_metres track b))) (sym count)
    ∙ ap (take (j - i)) (drop-append-add (line_metres track a) (line_metres track b) i)

-- dropping or adding legs renumbers places and changes no metre of a stretch
pub metres_between-moved : (track : Track) (gone added stays ahead more : Line) (i j : ℕ) → j ≤ line_length track stays
    → metres_between track ((added ++ stays) ++ ahead) (line_length track added + i) (line_length track added + j) ≡ metres_between track ((gone ++ stays) ++ more) (line_length track gone + i) (line_length track gone + j)
metres_between-moved track gone added stays ahead more i j h =
    metres_between-append_left track (added ++ stays) ahead (line_length track added + i) (line_length track added + j) (omega (arith, line_length-append track added stays))
    ∙ metres_between-append_right track added stays i j
    ∙ sym (metres_between-append_right track gone stays i j)
    ∙ sym (metres_between-append_left track (gone ++ stays) more (line_length track gone + i) (line_length track gone + j) (omega (arith, line_length-append track gone stays)))
