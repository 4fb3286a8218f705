-- The texts of entries, one behind the other.
use Rattle.std.proofs.Common.{◌≡◌, ap₂, Bool, true, false, ℕ, suc, ◌+◌, ◌<◌, ◌≤◌, List, [], ◌∷◌, ◌++◌, length, drop, get_or, drop-cons, add-one, refl, sym, ap, ◌∙◌}
use Rattle.std.specs.List.{flat_map}
use Rattle.std.specs.Prelude.{codes}
use Rattle.std.proofs.lemmas.List.{at_drop_all}
use Rattle.rbc_track_report.specs.Report.{each_text, metres_in, told_if, leg_along, end_text, ends_text}
use Rattle.rbc_model.specs.declared.places.Direction.{Direction}
use Rattle.rbc_model.specs.declared.places.Direction.TheVariants.{Rising, Falling}
use Rattle.rbc_model.specs.declared.places.Leg.{Leg}
use Rattle.rbc_model.specs.Names.{LegName, leg_text}
use Rattle.rbc_model.specs.Tracks.{Section, Track}
use Rattle.rbc_model.specs.Words.{line_of}

-- the text of the first that is left, and those behind it
pub texts-next : {X : Type 0} (text : X → List ℕ) (xs : List X) (index : ℕ) (x : X) → index < length xs → x ≡ get_or xs index x
    → flat_map text (drop index xs) ≡ text x ++ flat_map text (drop (index + 1) xs)
texts-next {X} text xs index x inside same =
    ap (flat_map text) (drop-cons xs index x inside)
    ∙ ap (λ (y : X). text y ++ flat_map text (drop (suc index) xs)) (sym same)
    ∙ ap (λ i. text x ++ flat_map text (drop i xs)) (sym (add-one index))

-- none is left
pub texts-end : {X : Type 0} (text : X → List ℕ) (xs : List X) (index : ℕ) → length xs ≤ index → flat_map text (drop index xs) ≡ []
texts-end text xs index past = at_drop_all (flat_map text) xs index past

-- the text of entries with their numbers: the first one's, and the others' behind it
pub each-next : {X : Type 0} (text : ℕ → X → List ℕ) (xs : List X) (index : ℕ) (x : X) → index < length xs → x ≡ get_or xs index x
    → each_text text index (drop index xs) ≡ text index x ++ each_text text (index + 1) (drop (index + 1) xs)
each-next {X} text xs index x inside same =
    ap (each_text text index) (drop-cons xs index x inside)
    ∙ ap (λ (y : X). text index y ++ each_text text (suc index) (drop (suc index) xs)) (sym same)
    ∙ ap (λ i. text index x ++ each_text text i (drop i xs)) (sym (add-one index))

pub each-end : {X : Type 0} (text : ℕ → X → List ℕ) (xs : List X) (index : ℕ) → length xs ≤ index → each_text text index (drop index xs) ≡ []
each-end text xs index past = at_drop_all (each_text text index) xs index past

-- the metres of the first that is left, and of those behind it
pub metres-next : (xs : List Section) (index : ℕ) (x : Section) → index < length xs → x ≡ get_or xs index x
    → metres_in (drop index xs) ≡ x.metres + metres_in (drop (index + 1) xs)
metres-next xs index x inside same =
    ap metres_in (drop-cons xs index x inside)
    ∙ ap (λ (y : Section). y.metres + metres_in (drop (suc index) xs)) (sym same)
    ∙ ap (λ i. x.metres + metres_in (drop i xs)) (sym (add-one index))

pub metres-end : (xs : List Section) (index : ℕ) → length xs ≤ index → metres_in (drop index xs) ≡ 0
metres-end xs index past = at_drop_all metres_in xs index past

-- ---- what is told, or not

-- a line that is told
pub is-told : (test : Bool) (line : List ℕ) → test ≡ true → told_if test line ≡ line
is-told true line h = refl
is-told false line h = absurd (let never : ⊥ = cc in never)

-- ---- lines by their words

abbrev pub unused_line : List ℕ → List ℕ
unused_line name = line_of (codes "warning section" ∷ name ∷ codes "is on no route" ∷ [])

abbrev pub leg_named : Direction → List ℕ → LegName
leg_named direction name = record { section = name; direction = direction }

abbrev pub end_line : LegName → List ℕ
end_line leg = line_of (codes "warning leg" ∷ leg_text leg ∷ codes "has no link at its end" ∷ [])

abbrev pub entered_line : List ℕ → List ℕ → List ℕ
entered_line name leg = line_of (codes "warning route" ∷ name ∷ codes "is entered from" ∷ leg ∷ codes "and no other route ends there" ∷ [])

abbrev pub ways_line : List ℕ → List ℕ → List ℕ → List ℕ
ways_line name up down = line_of (codes "warning section" ∷ name ∷ codes "is locked both ways, by" ∷ up ∷ codes "and" ∷ down ∷ [])

pub ways_line-is : (a b c d e f : List ℕ) → a ≡ d → b ≡ e → c ≡ f → ways_line a b c ≡ ways_line d e f
ways_line-is a b c d e f p q r = ap (λ n. ways_line n b c) p ∙ ap (λ n. ways_line d n c) q ∙ ap (λ n. ways_line d e n) r

-- the ends of a section, whose legs these are
pub ends_text-is : (track : Track) (number : ℕ) (section : Section) (rising falling : Leg) → rising ≡ leg_along number Rising → falling ≡ leg_along number Falling
    → ends_text track number section ≡ end_text track section.name rising ++ end_text track section.name falling
ends_text-is track number section rising falling p q = ap₂ (λ (a b : Leg). end_text track section.name a ++ end_text track section.name b) (sym p) (sym q)
