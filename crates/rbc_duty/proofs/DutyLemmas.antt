-- Seats on duty, all together.
use Rattle.std.proofs.Common.{◌≡◌, ℕ, Bool, true, List, [], ◌∷◌, ◌++◌, length, map, Option, Some, Result, Ok, Err, refl, sym, ap, ◌∙◌, subst, append_assoc, arith}
use Rattle.std.proofs.Math.Seq.{take-append_seam}
use Rattle.std.proofs.lemmas.List.{length-append, length-map, map-append, map_push}
use Rattle.std.proofs.lemmas.List.Elements.{All-nil, All-cons}
use Rattle.std.specs.Prelude.{All, IfOk, take}
use Rattle.std.specs.List.{AllZip}
use Rattle.std.specs.Result.{result_ok}
use Rattle.rbc_port.specs.Clients.{Coming}
use Rattle.rbc_server.specs.Sitting.{Sitting}
use Rattle.rbc_server.proofs.ConnectionLemmas.{map_twice}
use Rattle.rbc_duty.specs.Duties.{Duty, IsDuty, AreOnDuty}

-- ---- threads that are begun, one after the other

-- What was begun of all posts. As long as all could be, these are left.
abbrev pub AreBegun : {S : Type 0} → List S → List S → List S → Bool → Type 0
AreBegun {S} all left begun all_begun = (rest : List S) × (begun ++ rest ≡ all) × (all_begun ≡ true → rest ≡ left)

the_same : {H : Type 0} (x y : H) → Some x ≡ Some y → x ≡ y
the_same x y e = cc

-- a thread that was started has a handle with its promise
pub promised_so : {H P E : Type 0} (promised : H → P) (r : Result H E) (h : H) (p : P) → IfOk r (λ x. promised x ≡ p) → result_ok r ≡ Some h → promised h ≡ p
promised_so promised (Ok x) h p so is = subst (λ y. promised y ≡ p) (the_same x h is) so
promised_so promised (Err e) h p so is = absurd (let c : ⊥ = cc in c)

-- a post more went to a thread that promised to stand at it
pub one_begun : {H S : Type 0} (promised : H → S) (handles more : List H) (h : H) (s : S) (all left rest : List S) → AreBegun all left (map promised handles) true → left ≡ s ∷ rest
    → more ≡ handles ++ h ∷ [] → promised h ≡ s → AreBegun all rest (map promised more) true
one_begun promised handles more h s all left rest under next is mine = (
  rest,
  ap (λ l. map promised l ++ rest) is ∙ ap (λ l. l ++ rest) (map_push promised handles h) ∙ append_assoc (map promised handles) (promised h ∷ []) rest
      ∙ ap (λ x. map promised handles ++ x ∷ rest) mine ∙ ap (λ l. map promised handles ++ l) (sym next ∙ sym (under.2 refl)) ∙ under.1,
  λ _. refl,
)

-- where all were begun, there are as many handles as posts
pub all_handed : {H S : Type 0} (promised : H → S) (handles : List H) (all left : List S) (b : Bool) → AreBegun all left (map promised handles) b → b ≡ true → length left ≡ 0
    → length handles ≡ length all
all_handed promised handles all left b under is over =
    omega (arith, length-map handles promised, length-append (map promised handles) under.0, ap length under.1, ap length (under.2 is), over)

-- ---- what they leave

-- What each handle promised, of its clients and its seat, was kept by the duty that came back.
module _ {H S D L P : Type 0} (keeps : P → ℕ → Type 0) (comes : S → Option (List Coming)) (sitting : S → Sitting L P) (after : D → Sitting L P) (lost : D → Bool) (post : H → S) where
  abbrev done : H → D → Duty L P
  done h d = record { coming = comes (post h); before = sitting (post h); after = after d; lost = lost d }

  abbrev all_done : List H → List D → List (Duty L P)
  all_done [] ds = []
  all_done (h ∷ hs) [] = []
  all_done (h ∷ hs) (d ∷ ds) = done h d ∷ all_done hs ds

  abbrev Kept : H → D → Type 0
  Kept h d = IsDuty keeps (done h d)

  all_kept : (hs : List H) (ds : List D) → AllZip Kept hs ds → All (IsDuty keeps) (all_done hs ds)
  all_kept [] [] z = All-nil (IsDuty keeps)
  all_kept [] (d ∷ ds) z = absurd z
  all_kept (h ∷ hs) [] z = absurd z
  all_kept (h ∷ hs) (d ∷ ds) z = All-cons (IsDuty keeps) (done h d) (all_done hs ds) z.0 (all_kept hs ds z.1)

  -- what is told of a duty by its handle alone, and by what came back alone
  by_handle : {A : Type 0} (f : Duty L P → A) (of : H → A) → ((h : H) (d : D) → f (done h d) ≡ of h) → (hs : List H) (ds : List D) → AllZip Kept hs ds → map f (all_done hs ds) ≡ map of hs
  by_handle f of is [] [] z = refl
  by_handle f of is [] (d ∷ ds) z = absurd z
  by_handle f of is (h ∷ hs) [] z = absurd z
  by_handle f of is (h ∷ hs) (d ∷ ds) z = ap (λ x. x ∷ map f (all_done hs ds)) (is h d) ∙ ap (λ l. of h ∷ l) (by_handle f of is hs ds z.1)

  by_duty : {A : Type 0} (f : Duty L P → A) (of : D → A) → ((h : H) (d : D) → f (done h d) ≡ of d) → (hs : List H) (ds : List D) → AllZip Kept hs ds → map f (all_done hs ds) ≡ map of ds
  by_duty f of is [] [] z = refl
  by_duty f of is [] (d ∷ ds) z = absurd z
  by_duty f of is (h ∷ hs) [] z = absurd z
  by_duty f of is (h ∷ hs) (d ∷ ds) z = ap (λ x. x ∷ map f (all_done hs ds)) (is h d) ∙ ap (λ l. of d ∷ l) (by_duty f of is hs ds z.1)

  -- the first of the posts, as many as came back, told by a word of each
  first_told : {A : Type 0} (f : S → A) (handles : List H) (count : ℕ) (posts rest : List S) → map post handles ++ rest ≡ posts → count ≡ length handles
      → map (λ h. f (post h)) handles ≡ take count (map f posts)
  first_told f handles count posts rest begun many =
      let whole : map (λ h. f (post h)) handles ++ map f rest ≡ map f posts =
      ap (λ l. l ++ map f rest) (sym (map_twice post f handles)) ∙ sym (map-append f (map post handles) rest) ∙ ap (map f) begun in
      sym (ap (λ n. take n (map f posts)) (many ∙ sym (length-map handles (λ h. f (post h)))) ∙ ap (take (length (map (λ h. f (post h)) handles))) (sym whole)
      ∙ take-append_seam (map (λ h. f (post h)) handles) (map f rest))

  pub on_duty : (handles : List H) (duties : List D) (count : ℕ) (left posts : List S) (b : Bool) → AllZip Kept handles duties → AreBegun posts left (map post handles) b → count ≡ length handles
      → AreOnDuty keeps (take count (map comes posts)) (take count (map sitting posts)) (map after duties) (map lost duties)
  on_duty handles duties count left posts b kept under many =
      record {
        duties = all_done handles duties;
        each = all_kept handles duties kept;
        comings_are = by_handle (λ (d : Duty L P). d.coming) (λ h. comes (post h)) (λ h d. refl) handles duties kept ∙ first_told comes handles count posts under.0 under.1 many;
        before_is = by_handle (λ (d : Duty L P). d.before) (λ h. sitting (post h)) (λ h d. refl) handles duties kept ∙ first_told sitting handles count posts under.0 under.1 many;
        after_is = by_duty (λ (d : Duty L P). d.after) after (λ h d. refl) handles duties kept;
        lost_are = by_duty (λ (d : Duty L P). d.lost) lost (λ h d. refl) handles duties kept;
      }
