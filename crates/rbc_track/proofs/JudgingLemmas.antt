-- How the entries of a table are judged one after the other.
use Rattle.std.proofs.Common.{◌≡◌, ℕ, suc, ◌+◌, ◌<◌, Bool, true, false, not, List, [], ◌∷◌, ◌++◌, length, take, drop, map, get_or, Option, Some, None, Result, Ok, Err, refl, sym, ap, ◌∙◌, add-one, append_assoc}
use Rattle.std.specs.List.{list_any}
use Rattle.std.proofs.Math.Seq.{drop-cons, take-suc}
use Rattle.std.proofs.lemmas.List.{map-append, length-map}
use Rattle.rbc_model.specs.Answers.{RefusesOrMemory}
use Rattle.rbc_model.specs.declared.memory.OrMemory.{OrMemory}
use Rattle.rbc_model.specs.declared.memory.OrMemory.TheVariants.{Refused, Memory}
use Rattle.rbc_model.specs.declared.tracks.TrackRefusal.{TrackRefusal}
use Rattle.rbc_model.specs.Results.{unless, demand}
use Rattle.rbc_model.specs.SoundTracks.{first_refusal, refuse_unless, is_new}
use Rattle.std.specs.Option.{option_or}
use Rattle.rbc_track.specs.Tables.{entry_answer}
use Rattle.rbc_track.proofs.FindingLemmas.{list_any-named}

-- the entry at an index, and the others behind it
pub split_at : {X : Type 0} (xs : List X) (i : ℕ) (x : X) → i < length xs → x ≡ get_or xs i x → drop i xs ≡ x ∷ drop (i + 1) xs
split_at xs i x below is = drop-cons xs i x below ∙ ap (λ y. y ∷ drop (suc i) xs) (sym is) ∙ ap (λ n. x ∷ drop n xs) (sym (add-one i))

-- the entries up to the one at an index, and this
pub joined_at : {X : Type 0} (xs : List X) (i : ℕ) (x : X) → i < length xs → x ≡ get_or xs i x → take (i + 1) xs ≡ take i xs ++ x ∷ []
joined_at xs i x below is = ap (λ n. take n xs) (add-one i) ∙ take-suc xs i x below ∙ ap (λ y. take i xs ++ y ∷ []) (sym is)

-- the part at an index is what is made next
pub made_next : {P X : Type 0} (made : P → X) (parts : List P) (i : ℕ) (part : P) (x : X) → i < length parts → part ≡ get_or parts i part → x ≡ made part
    → map made (drop i parts) ≡ x ∷ map made (drop (i + 1) parts)
made_next made parts i part x below is of = ap (map made) (split_at parts i part below is) ∙ ap (λ y. y ∷ map made (drop (i + 1) parts)) (sym of)

-- the names of one more entry
pub named_next : {X N : Type 0} (name : X → N) (done new : List X) (names : List N) (x : X) → names ≡ map name done → new ≡ done ++ x ∷ [] → names ++ name x ∷ [] ≡ map name new
named_next name done new names x listed grown = ap (λ l. l ++ name x ∷ []) listed ∙ sym (map-append name done (x ∷ [])) ∙ ap (map name) (sym grown)

-- the entries that were judged with those that are left, or the first refusal of one of these
abbrev pub judged_from : {X : Type 0} → (List X → X → Option TrackRefusal) → List X → List X → Result (List X) TrackRefusal
judged_from judge done rest = unless (first_refusal judge done rest) (Ok (done ++ rest))

module _ {X : Type 0} (judge : List X → X → Option TrackRefusal) (total : Result (List X) TrackRefusal) (done : List X) where
  told : (here later : Option TrackRefusal) (all : List X) (refusal : TrackRefusal) → unless {A = Unit {0}} here (Ok tt) ≡ Err refusal → unless (option_or here later) (Ok all) ≡ Err refusal
  told None later all refusal e = cc
  told (Some other) later all refusal e = let same : other ≡ refusal = cc in ap Err same

  -- the refusal of the next entry is told
  pub refused : (fault : OrMemory TrackRefusal) (rest later : List X) (x : X) → rest ≡ x ∷ later → judged_from judge done rest ≡ total
      → RefusesOrMemory {Y = Unit {0}} fault (unless (judge done x) (Ok tt)) → RefusesOrMemory fault total
  refused (Refused refusal) rest later x split so_far here =
      sym so_far ∙ ap (judged_from judge done) split ∙ told (judge done x) (first_refusal judge (done ++ x ∷ []) later) (done ++ x ∷ later) refusal here
  refused Memory rest later x split so_far here = tt

  none : (here : Option TrackRefusal) → unless {A = Unit {0}} here (Ok tt) ≡ Ok tt → here ≡ None
  none None e = refl
  none (Some refusal) e = cc

  -- the next entry is passed
  pub passed : (rest later new : List X) (x : X) → rest ≡ x ∷ later → judged_from judge done rest ≡ total → new ≡ done ++ x ∷ []
      → unless {A = Unit {0}} (judge done x) (Ok tt) ≡ Ok tt → judged_from judge new later ≡ total
  passed rest later new x split so_far grown here =
      ap (λ l. judged_from judge l later) grown
      ∙ ap (λ l. unless (first_refusal judge (done ++ x ∷ []) later) (Ok l)) (append_assoc done (x ∷ []) later)
      ∙ sym (ap (λ o. unless (option_or o (first_refusal judge (done ++ x ∷ []) later)) (Ok (done ++ x ∷ later))) (none (judge done x) here))
      ∙ sym (ap (judged_from judge done) split) ∙ so_far

-- a test by its answer and by its refusal
pub by_refusal : (b : Bool) (refusal : TrackRefusal) → demand b refusal ≡ unless (refuse_unless b refusal) (Ok tt)
by_refusal true refusal = refl
by_refusal false refusal = refl

pub by_refusals : (b own : Bool) (twice bad : TrackRefusal) → entry_answer b twice own bad ≡ unless (option_or (refuse_unless b twice) (refuse_unless own bad)) (Ok tt)
by_refusals true own twice bad = by_refusal own bad
by_refusals false own twice bad = refl

-- an entry is judged by the names of those before it
pub judged_by_names : {X N : Type 0} (eq : N → N → Bool) (name : X → N) (own : X → Bool) (twice bad : ℕ → TrackRefusal) (earlier : List X) (names : List N) (x : X) (number : ℕ)
    → names ≡ map name earlier → number ≡ length earlier + 1
    → entry_answer (not (list_any (λ other. eq other (name x)) names)) (twice number) (own x) (bad number)
    ≡ unless (option_or (refuse_unless (is_new eq name earlier x) (twice (length earlier + 1))) (refuse_unless (own x) (bad (length earlier + 1)))) (Ok tt)
judged_by_names eq name own twice bad earlier names x number listed counted =
    ap (λ n. entry_answer (not (list_any (λ other. eq other (name x)) names)) (twice n) (own x) (bad n)) counted
    ∙ ap (λ any. entry_answer (not any) (twice (length earlier + 1)) (own x) (bad (length earlier + 1))) (list_any-named (λ other. eq other (name x)) name names earlier listed)
    ∙ by_refusals (is_new eq name earlier x) (own x) (twice (length earlier + 1)) (bad (length earlier + 1))

-- ---- the first refusal, entry by entry
module _ {X : Type 0} (judge : List X → X → Option TrackRefusal) (total : Option TrackRefusal) (done rest later : List X) (x : X)
    (split : rest ≡ x ∷ later) (so_far : first_refusal judge done rest ≡ total) where
  next_first : option_or (judge done x) (first_refusal judge (done ++ x ∷ []) later) ≡ total
  next_first = sym (ap (first_refusal judge done) split) ∙ so_far

  here_first : (here after : Option TrackRefusal) (refusal : TrackRefusal) → unless {A = Unit {0}} here (Ok tt) ≡ Err refusal → option_or here after ≡ total
      → unless {A = Unit {0}} total (Ok tt) ≡ Err refusal
  here_first None after refusal e f = cc
  here_first (Some other) after refusal e f = ap (λ o. unless {A = Unit {0}} o (Ok tt)) (sym f) ∙ e

  -- the next entry's refusal is the first one
  pub told_next : (refusal : TrackRefusal) → unless {A = Unit {0}} (judge done x) (Ok tt) ≡ Err refusal → unless {A = Unit {0}} total (Ok tt) ≡ Err refusal
  told_next refusal here = here_first (judge done x) (first_refusal judge (done ++ x ∷ []) later) refusal here next_first

  here_passed : (here after : Option TrackRefusal) → unless {A = Unit {0}} here (Ok tt) ≡ Ok tt → option_or here after ≡ total → after ≡ total
  here_passed None after e f = f
  here_passed (Some other) after e f = cc

  -- the next entry is passed
  pub passed_next : (new : List X) → new ≡ done ++ x ∷ [] → unless {A = Unit {0}} (judge done x) (Ok tt) ≡ Ok tt → first_refusal judge new later ≡ total
  passed_next new grown here =
      ap (λ l. first_refusal judge l later) grown ∙ here_passed (judge done x) (first_refusal judge (done ++ x ∷ []) later) here next_first

-- one more part is made
pub made_joined : {P X : Type 0} (made : P → X) (parts : List P) (i : ℕ) (part : P) → i < length parts → part ≡ get_or parts i part → map made (take (i + 1) parts) ≡ map made (take i parts) ++ made part ∷ []
made_joined made parts i part below is = ap (map made) (joined_at parts i part below is) ∙ map-append made (take i parts) (part ∷ [])

-- a part is judged by the names of those before it
pub judged_as_written : {P X N : Type 0} (eq : N → N → Bool) (name : X → N) (made : P → X) (own : X → Bool) (twice bad : ℕ → TrackRefusal) (done : List P) (part : P) (good : Bool)
    → good ≡ own (made part)
    → entry_answer (not (list_any (λ other. eq (name (made other)) (name (made part))) done)) (twice (length done + 1)) good (bad (length done + 1))
    ≡ unless (option_or (refuse_unless (is_new eq name (map made done) (made part)) (twice (length (map made done) + 1))) (refuse_unless (own (made part)) (bad (length (map made done) + 1)))) (Ok tt)
judged_as_written eq name made own twice bad done part good e =
    ap (λ n. entry_answer (not (list_any (λ other. eq (name (made other)) (name (made part))) done)) (twice (n + 1)) good (bad (n + 1))) (sym (length-map done made))
    ∙ ap (λ any. entry_answer (not any) (twice (length (map made done) + 1)) good (bad (length (map made done) + 1)))
    (sym (list_any-named (λ other. eq (name other) (name (made part))) made (map made done) done refl))
    ∙ ap (λ g. entry_answer (is_new eq name (map made done) (made part)) (twice (length (map made done) + 1)) g (bad (length (map made done) + 1))) e
    ∙ by_refusals (is_new eq name (map made done) (made part)) (own (made part)) (twice (length (map made done) + 1)) (bad (length (map made done) + 1))
