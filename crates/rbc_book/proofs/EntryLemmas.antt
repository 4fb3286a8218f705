-- A book's entries: each train on the book's track, under its number.
use Rattle.std.proofs.Common.{◌≡◌, ℕ, Bool, true, false, cond, List, [], ◌∷◌, ◌++◌, map, Option, Some, None, MutBor, refl, sym, ◌∙◌, ap, subst, max, nat_eq, nat_lt, arith}
use Rattle.std.specs.Prelude.{is_some, ◌==◌, find, not, option_map}
use Rattle.std.specs.List.{AllByRecursion}
use Rattle.std.specs.Map.{lookup, set_value, values_of}
use Rattle.std.specs.Option.{option_copied_mut}
use Rattle.std.proofs.lemmas.Bool.{eqb-true}
use Rattle.indexmap.specs.IndexMap.{insert_entry, shift_remove_entry}
use Rattle.rbc_model.specs.Tracks.{Track}
use Rattle.rbc_model.specs.Trains.{Train}
use Rattle.rbc_model.specs.Scenes.{train_numbered}
use Rattle.rbc_model.specs.Events.{cut_at, with_authority, with_train, without_train}
use Rattle.rbc_model.specs.Lines.{Line}
use Rattle.rbc_model.specs.Placing.{through}
use Rattle.rbc_model.specs.Histories.{AuthoritiesAreApart}
use Rattle.rbc_extent.specs.TrainsOnTracks.{TrainOnTrack}
use Rattle.rbc_scene_laws.specs.Good.{IsGoodTrain}
use Rattle.rbc_scene_laws.proofs.BasicLemmas.{EachPair, recursion_from_AllPairs, the_some}
use Rattle.rbc_scene_laws.proofs.GivingBackLemmas.{IsCut, AuthoritiesAreApart-cut_at}
use Rattle.rbc_scene_laws.proofs.TrainListLemmas.{Differ, swap}
use Rattle.rbc_book.specs.Books.{Book, IsGoodBook, scene_of, book_with, book_without, number_in, train_in}
use Rattle.rbc_book.specs.Entries.{on_track, entry_of, number_on, trains_of, book_of, AreEntries}
use Rattle.rbc_book.proofs.GoodBookLemmas.{good_book-with, good_book-without}
use Rattle.rbc_model.proofs.BasicLemmas.{find-passes, number_turned}

unlike : (a b n : ℕ) → a ≡ n → ((a ≡ b) → ⊥) → (b == n) ≡ false
unlike a b n e h = grind arith

-- the trains with one put in, and without one
abbrev pub with_in : List Train → Train → List Train
with_in trains train = (with_train (scene_of trains) train).trains

abbrev pub without_in : List Train → ℕ → List Train
without_in trains number = (without_train (scene_of trains) number).trains

abbrev pub is_numbered : ℕ → Train → Bool
is_numbered n train = train.report.train == n

-- ---- no other train has the number

swapped_out : (train y : Train) (ys rest : List Train) (b : Bool) → b ≡ false → rest ≡ ys → cond b train y ∷ rest ≡ y ∷ ys
swapped_out train y ys rest true e r = cc
swapped_out train y ys rest false e r = ap (λ zs. y ∷ zs) r

pub no_swap : (train x : Train) (xs : List Train) → x.report.train ≡ train.report.train → AllByRecursion (Differ x) xs → map (swap train) xs ≡ xs
no_swap train x [] e h = refl
no_swap train x (y ∷ ys) e h =
    swapped_out train y ys (map (swap train) ys) (is_numbered train.report.train y) (unlike x.report.train y.report.train train.report.train e h.0) (no_swap train x ys e h.1)

pub none_out : (n : ℕ) (x : Train) (xs : List Train) → x.report.train ≡ n → AllByRecursion (Differ x) xs → without_in xs n ≡ xs
none_out n x [] e h = refl
none_out n x (y ∷ ys) e h = stays (is_numbered n y) (unlike x.report.train y.report.train n e h.0) (none_out n x ys e h.1)
  where
    stays : (b : Bool) → b ≡ false → without_in ys n ≡ ys → cond (not b) (y ∷ without_in ys n) (without_in ys n) ≡ y ∷ ys
    stays true e r = cc
    stays false e r = ap (λ zs. y ∷ zs) r

each_or_last : (c : Bool) (x : Train) (ms zs : List Train) → cond c (x ∷ ms) (x ∷ zs) ≡ x ∷ cond c ms zs
each_or_last true x ms zs = refl
each_or_last false x ms zs = refl

module _ (track : Track) where
  -- the entries of trains
  abbrev entries_of : List Train → List (ℕ × TrainOnTrack)
  entries_of trains = map (entry_of track) trains

  trains_of-entries : (trains : List Train) → trains_of (entries_of trains) ≡ trains
  trains_of-entries [] = refl
  trains_of-entries (x ∷ xs) = ap (λ ys. x ∷ ys) (trains_of-entries xs)

  -- ---- looked up

  found_on : (b : Bool) (x : Train) (o : Option Train) → cond b (Some (on_track track x)) (option_map (on_track track) o) ≡ option_map (on_track track) (cond b (Some x) o)
  found_on true x o = refl
  found_on false x o = refl

  lookup-entries : (n : ℕ) (trains : List Train) → lookup (nat_eq n) (entries_of trains) ≡ option_map (on_track track) (train_numbered (scene_of trains) n)
  lookup-entries n [] = refl
  lookup-entries n (x ∷ xs) =
      ap (λ b. cond b (Some (on_track track x)) (lookup (nat_eq n) (entries_of xs))) (number_turned n x.report.train)
      ∙ ap (λ o. cond (is_numbered n x) (Some (on_track track x)) o) (lookup-entries n xs)
      ∙ found_on (is_numbered n x) x (train_numbered (scene_of xs) n)

  first_on : (b : Bool) (x : Train) (o : Option TrainOnTrack) (p : Option Train) → option_map number_on o ≡ option_map number_in p
      → option_map number_on (cond b (Some (on_track track x)) o) ≡ option_map number_in (cond b (Some x) p)
  first_on true x o p e = refl
  first_on false x o p e = e

  find-entries : (test : Track → Train → Bool) (trains : List Train)
      → option_map number_on (find (λ (t : TrainOnTrack). test t.track t.train) (values_of (entries_of trains))) ≡ option_map number_in (find (test track) trains)
  find-entries test [] = refl
  find-entries test (x ∷ xs) = first_on (test track x) x (find (λ (t : TrainOnTrack). test t.track t.train) (values_of (entries_of xs))) (find (test track) xs) (find-entries test xs)

  values-entries : (trains : List Train) → values_of (entries_of trains) ≡ map (on_track track) trains
  values-entries [] = refl
  values-entries (x ∷ xs) = ap (λ l. on_track track x ∷ l) (values-entries xs)

  -- ---- put in

  put : (b : Bool) (train x : Train) (xs ms zs : List Train) (o : Option Train) (es : List (ℕ × TrainOnTrack))
      → (b ≡ true → (x.report.train ≡ train.report.train) × (ms ≡ xs))
      → es ≡ entries_of (cond (is_some o) ms zs)
      → cond b ((x.report.train, on_track track train) ∷ entries_of xs) (entry_of track x ∷ es) ≡ entries_of (cond (is_some (cond b (Some x) o)) (cond b train x ∷ ms) (x ∷ zs))
  put true train x xs ms zs o es here rest =
      let h = here refl in ap (λ n. (n, on_track track train) ∷ entries_of xs) h.0 ∙ ap (λ l. entry_of track train ∷ entries_of l) (sym h.1)
  put false train x xs ms zs o es here rest = ap (λ l. entry_of track x ∷ l) rest ∙ ap entries_of (sym (each_or_last (is_some o) x ms zs))

  insert_entry-entries : (train : Train) (trains : List Train) → EachPair Differ trains
      → insert_entry nat_eq (entries_of trains) train.report.train (on_track track train) ≡ entries_of (with_in trains train)
  insert_entry-entries train [] h = refl
  insert_entry-entries train (x ∷ xs) h =
      let n = train.report.train in
      let rest = insert_entry nat_eq (entries_of xs) n (on_track track train) in
      ap (λ b. cond b ((x.report.train, on_track track train) ∷ entries_of xs) (entry_of track x ∷ rest)) (number_turned n x.report.train)
      ∙ put (is_numbered n x) train x xs (map (swap train) xs) (xs ++ train ∷ []) (train_numbered (scene_of xs) n) rest
      (λ t. let e = eqb-true x.report.train n t in (e, no_swap train x xs e h.0)) (insert_entry-entries train xs h.1)

  -- ---- taken out

  take_out : (b : Bool) (x : Train) (xs fs : List Train) (es : List (ℕ × TrainOnTrack)) → (b ≡ true → fs ≡ xs) → es ≡ entries_of fs
      → cond b (entries_of xs) (entry_of track x ∷ es) ≡ entries_of (cond (not b) (x ∷ fs) fs)
  take_out true x xs fs es here rest = ap entries_of (sym (here refl))
  take_out false x xs fs es here rest = ap (λ l. entry_of track x ∷ l) rest

  shift_remove_entry-entries : (n : ℕ) (trains : List Train) → EachPair Differ trains → shift_remove_entry (nat_eq n) (entries_of trains) ≡ entries_of (without_in trains n)
  shift_remove_entry-entries n [] h = refl
  shift_remove_entry-entries n (x ∷ xs) h =
      let rest = shift_remove_entry (nat_eq n) (entries_of xs) in
      ap (λ b. cond b (entries_of xs) (entry_of track x ∷ rest)) (number_turned n x.report.train)
      ∙ take_out (is_numbered n x) x xs (without_in xs n) rest (λ t. none_out n x xs (eqb-true x.report.train n t) h.0) (shift_remove_entry-entries n xs h.1)

  -- ---- what the calls of a map leave of a book's entries

  -- these are the entries of a good book
  pub record AreThoseOf (book : Book) (entries : List (ℕ × TrainOnTrack)) : Type 0 where
    pub are : AreEntries track entries
    pub of_book : book_of track entries ≡ book

  made : (trains : List Train) (es : List (ℕ × TrainOnTrack)) → es ≡ entries_of trains → IsGoodBook (record { track = track; trains = trains }) → AreThoseOf (record { track = track; trains = trains }) es
  made trains es e good =
      let same : trains_of es ≡ trains = ap trains_of e ∙ trains_of-entries trains in
      record {
        are = record { keyed = e ∙ ap entries_of (sym same); good = subst (λ ts. IsGoodBook (record { track = track; trains = ts })) (sym same) good };
        of_book = ap (λ ts. record { track = track; trains = ts }) same;
      }

  pub differ : (es : List (ℕ × TrainOnTrack)) → AreEntries track es → EachPair Differ (trains_of es)
  differ es are = let g = are.good in recursion_from_AllPairs Differ (trains_of es) g.numbers_differ

  entries-get : (es : List (ℕ × TrainOnTrack)) (n : ℕ) → AreEntries track es → lookup (nat_eq n) es ≡ option_map (on_track track) (train_in (book_of track es) n)
  entries-get es n are = ap (lookup (nat_eq n)) are.keyed ∙ lookup-entries n (trains_of es)

  entries-with : (es fs : List (ℕ × TrainOnTrack)) (train : Train) → AreEntries track es → IsGoodTrain track train → AuthoritiesAreApart track (with_train (scene_of (trains_of es)) train)
      → fs ≡ insert_entry nat_eq es train.report.train (on_track track train) → AreThoseOf (book_with (book_of track es) train) fs
  entries-with es fs train are fine apart e =
      made (with_in (trains_of es) train) fs
      (e ∙ ap (λ l. insert_entry nat_eq l train.report.train (on_track track train)) are.keyed ∙ insert_entry-entries train (trains_of es) (differ es are))
      (good_book-with (book_of track es) train are.good fine apart)

  entries-without : (es fs : List (ℕ × TrainOnTrack)) (n : ℕ) → AreEntries track es → fs ≡ shift_remove_entry (nat_eq n) es → AreThoseOf (book_without (book_of track es) n) fs
  entries-without es fs n are e =
      made (without_in (trains_of es) n) fs
      (e ∙ ap (shift_remove_entry (nat_eq n)) are.keyed ∙ shift_remove_entry-entries n (trains_of es) (differ es are))
      (good_book-without (book_of track es) n are.good)

-- ---- what the calls of a map leave, of the entries of a book

pub some_on : (track : Track) (o : Option Train) → is_some (option_map (on_track track) o) ≡ is_some o
some_on track None = refl
some_on track (Some train) = refl

none_on : (track : Track) (o : Option Train) → option_map (on_track track) o ≡ None → o ≡ None
none_on track None h = refl
none_on track (Some train) h = cc

pub mut_some : {X : Type 0} (o : Option (MutBor X)) → is_some o ≡ is_some (option_copied_mut o)
mut_some None = refl
mut_some (Some x) = refl

-- a train that was found by its number
pub record IsFound (book : Book) (number : ℕ) (train : TrainOnTrack) : Type 0 where
  pub of_track : train.track ≡ book.track
  pub there : train_in book number ≡ Some train.train
  pub numbered : number ≡ train.train.report.train

pub found_as : (book : Book) (number : ℕ) (train : TrainOnTrack) (o : Option Train) → train_in book number ≡ o → Some train ≡ option_map (on_track book.track) o → IsFound book number train
found_as book number train None e h = cc
found_as book number train (Some x) e h =
    let same = the_some train (on_track book.track x) h in
    let there : train_in book number ≡ Some train.train = e ∙ ap Some (sym (ap (λ (t : TrainOnTrack). t.train) same)) in
    record {
      of_track = ap (λ (t : TrainOnTrack). t.track) same;
      there = there;
      numbered = sym (eqb-true train.train.report.train number (find-passes (is_numbered number) book.trains train.train there));
    }

-- a key that is there keeps its place where its value is written
set_by : (b : Bool) (e : ℕ × TrainOnTrack) (w : TrainOnTrack) (es fs gs : List (ℕ × TrainOnTrack)) (o : Option TrainOnTrack) → is_some (cond b (Some e.1) o) ≡ true → (is_some o ≡ true → fs ≡ gs)
    → cond b ((e.0, w) ∷ es) (e ∷ fs) ≡ cond b ((e.0, w) ∷ es) (e ∷ gs)
set_by true e w es fs gs o h rest = refl
set_by false e w es fs gs o h rest = ap (λ l. e ∷ l) (rest h)

set_value-insert : (es : List (ℕ × TrainOnTrack)) (n : ℕ) (w : TrainOnTrack) → is_some (lookup (nat_eq n) es) ≡ true → set_value (nat_eq n) es w ≡ insert_entry nat_eq es n w
set_value-insert [] n w h = cc
set_value-insert (e ∷ es) n w h = set_by (nat_eq n e.0) e w es (set_value (nat_eq n) es w) (insert_entry nat_eq es n w) (lookup (nat_eq n) es) h (λ k. set_value-insert es n w k)

-- a cut authority leaves the train its number
number_kept : (b : Bool) (train : Train) (line : Line) (to : ℕ) → (cond b (with_authority train line train.from to) (with_authority train line train.front train.front)).report.train ≡ train.report.train
number_kept true train line to = refl
number_kept false train line to = refl

pub number_cut : (book : Book) (number : ℕ) (before after : TrainOnTrack) (to : ℕ) → IsFound book number before → after.train ≡ cut_at before.track before.train to → after.train.report.train ≡ number
number_cut book number before after to f e =
    ap (λ (t : Train). t.report.train) e ∙ number_kept (nat_lt before.train.from to) before.train (through before.track before.train.report (max before.train.front to) before.train.line) to ∙ sym f.numbered

module _ (track : Track) (book : Book) (es : List (ℕ × TrainOnTrack)) (is : book_of track es ≡ book) (are : AreEntries track es) where
  pub got : (n : ℕ) → lookup (nat_eq n) es ≡ option_map (on_track book.track) (train_in book n)
  got n = entries-get track es n are ∙ ap (λ (b : Book). option_map (on_track b.track) (train_in b n)) is

  pub found : (n : ℕ) (train : TrainOnTrack) → Some train ≡ lookup (nat_eq n) es → IsFound book n train
  found n train h = found_as book n train (train_in book n) refl (h ∙ got n)

  pub got-trains : values_of es ≡ map (on_track book.track) book.trains
  got-trains = ap values_of are.keyed ∙ values-entries track (trains_of es) ∙ ap (λ (b : Book). map (on_track b.track) b.trains) is

  pub got-some : (n : ℕ) → is_some (lookup (nat_eq n) es) ≡ is_some (train_in book n)
  got-some n = ap is_some (got n) ∙ some_on book.track (train_in book n)

  pub got-none : (n : ℕ) → lookup (nat_eq n) es ≡ None → train_in book n ≡ None
  got-none n h = none_on book.track (train_in book n) (sym (got n) ∙ h)

  pub got-first : (test : Track → Train → Bool) → option_map number_on (find (λ (t : TrainOnTrack). test t.track t.train) (values_of es)) ≡ option_map number_in (find (test book.track) book.trains)
  got-first test =
      ap (λ l. option_map number_on (find (λ (t : TrainOnTrack). test t.track t.train) (values_of l))) are.keyed
      ∙ find-entries track test (trains_of es)
      ∙ ap (λ (b : Book). option_map number_in (find (test b.track) b.trains)) is

  pub taken : (fs : List (ℕ × TrainOnTrack)) (n : ℕ) → fs ≡ shift_remove_entry (nat_eq n) es → AreThoseOf track (book_without book n) fs
  taken fs n e = subst (λ b. AreThoseOf track (book_without b n) fs) is (entries-without track es fs n are e)

  pub placed : (fs : List (ℕ × TrainOnTrack)) (number : ℕ) (train : TrainOnTrack) → number ≡ train.train.report.train → train.track ≡ book.track → IsGoodTrain train.track train.train
      → AuthoritiesAreApart book.track (with_train (scene_of book.trains) train.train) → fs ≡ insert_entry nat_eq es number train → AreThoseOf track (book_with book train.train) fs
  placed fs number train n of_book fine apart e =
      let on : train.track ≡ track = of_book ∙ sym (ap (λ (b : Book). b.track) is) in
      subst (λ b. AreThoseOf track (book_with b train.train) fs) is
      (entries-with track es fs train.train are
      (subst (λ k. IsGoodTrain k train.train) on fine)
      (subst (λ (b : Book). AuthoritiesAreApart b.track (with_train (scene_of b.trains) train.train)) (sym is) apart)
      (e ∙ ap (λ k. insert_entry nat_eq es k train) n ∙ ap (λ k. insert_entry nat_eq es train.train.report.train (on_track k train.train)) on))

  -- a train that is there, with another authority on its line, written in its place
  pub held : (fs : List (ℕ × TrainOnTrack)) (number : ℕ) (before after : TrainOnTrack) (from to : ℕ) → IsFound book number before
      → after.train ≡ with_authority before.train before.train.line from to → IsGoodTrain after.track after.train → after.track ≡ before.track
      → AuthoritiesAreApart book.track (with_train (scene_of book.trains) (with_authority before.train before.train.line from to))
      → fs ≡ set_value (nat_eq number) es after → AreThoseOf track (book_with book after.train) fs
  held fs number before after from to f e fine of_track apart entries =
      let there : is_some (lookup (nat_eq number) es) ≡ true = got-some number ∙ ap is_some f.there in
      placed fs number after (f.numbered ∙ sym (ap (λ (t : Train). t.report.train) e)) (of_track ∙ f.of_track) fine
      (subst (λ t. AuthoritiesAreApart book.track (with_train (scene_of book.trains) t)) (sym e) apart)
      (entries ∙ set_value-insert es number after there)

  -- a train that is there, with its authority cut, written in its place
  pub cut : (fs : List (ℕ × TrainOnTrack)) (number : ℕ) (before after : TrainOnTrack) (to : ℕ) → IsFound book number before → IsCut before.train to
      → after.train ≡ cut_at before.track before.train to → IsGoodTrain after.track after.train → after.track ≡ before.track
      → fs ≡ set_value (nat_eq number) es after → AreThoseOf track (book_with book (cut_at book.track before.train to)) fs
  cut fs number before after to f c e fine of_track entries =
      let good = subst IsGoodBook is are.good in
      let same : after.train ≡ cut_at book.track before.train to = e ∙ ap (λ t. cut_at t before.train to) f.of_track in
      let there : is_some (lookup (nat_eq number) es) ≡ true = got-some number ∙ ap is_some f.there in
      subst (λ t. AreThoseOf track (book_with book t) fs) same
      (placed fs number after
      (sym (number_cut book number before after to f e))
      (of_track ∙ f.of_track) fine
      (subst (λ t. AuthoritiesAreApart book.track (with_train (scene_of book.trains) t)) (sym same) (AuthoritiesAreApart-cut_at book.track (scene_of book.trains) number before.train to f.there c good.trains good.numbers_differ good.apart))
      (entries ∙ set_value-insert es number after there))
