-- A page round a text that is shown.
use Rattle.std.proofs.Common.{◌≡◌, ℕ, List, [], ◌++◌, Option, Some, None, Result, Ok, Err, subst}
use Rattle.std.specs.Prelude.{OnOk}
use Rattle.std.specs.Io.KnownBytes.{Appends}
use Rattle.std.proofs.KnownBytes.{Appends-trans}
use Rattle.rbc_show.specs.Showing.{Shows, ShowsEach}
use Rattle.rbc_show.specs.ShownPages.{ShowsPage, ShowsEachPage}
use Rattle.rbc_viewer.specs.declared.viewer.TheConstants.{BEFORE_TEXT}
use Rattle.rbc_viewer.specs.Escapes.{escaped}
use Rattle.rbc_viewer.specs.Given.{inside}
use Rattle.rbc_viewer.specs.Pages.{page_text, rest_of_page}
use Rattle.rbc_viewer.proofs.GivenLemmas.{inside_is}

-- the beginning, what was given to the writer inside, and the end
page_is : (old opened start drawn new : Option (List ℕ)) (none given text : List ℕ) → none ≡ [] → Appends old opened BEFORE_TEXT.now
    → Appends (inside opened none) (inside start given) text → Appends start drawn (escaped given) → Appends drawn new (rest_of_page []) → Appends old new (page_text text [])
page_is None opened start drawn new none given text nothing opens inner wrote closes = tt
page_is (Some held) None start drawn new none given text nothing opens inner wrote closes = absurd opens
page_is (Some held) (Some before) start drawn new none given text nothing opens inner wrote closes =
    let same = inside_is before start none given text nothing inner in
    let shown : Appends (Some before) drawn (escaped text) = subst (λ t. Appends (Some before) drawn (escaped t)) same.1 (subst (λ s. Appends s drawn (escaped given)) same.0 wrote) in
    Appends-trans (Some held) (Some before) new BEFORE_TEXT.now (escaped text ++ rest_of_page []) opens
    (Appends-trans (Some before) drawn new (escaped text) (rest_of_page []) shown closes)

module _ (left old opened start drawn new : Option (List ℕ)) (none given : List ℕ) (text_of : List ℕ → List ℕ) (nothing : none ≡ [])
    (opens : Appends old opened BEFORE_TEXT.now) (wrote : Appends start drawn (escaped given)) (closes : Appends drawn new (rest_of_page [])) where
  pub is_page : Shows text_of left (inside opened none) (inside start given) → ShowsPage text_of left old new
  is_page shows = λ input known. page_is old opened start drawn new none given (text_of input) nothing opens (shows input known) wrote closes

  pub is_each_page : ShowsEach text_of left (inside opened none) (inside start given) → ShowsEachPage text_of left old new
  is_each_page shows = λ input known.
      let shown = shows input known in
      (shown.0, page_is old opened start drawn new none given shown.0 nothing opens shown.1 wrote closes, shown.2)

-- what is known where a page is closed, by what is known where its text was shown
pub where_shown : {E : Type 0} (closed shown : Result (Unit {0}) E) (A B C D : Type 0) → OnOk closed (shown ≡ Ok tt) → OnOk shown A → OnOk shown B → OnOk closed C → (A → B → C → D) → OnOk closed D
where_shown (Err fault) shown A B C D whole first second third then = tt
where_shown (Ok done) shown A B C D whole first second third then = then (subst (λ r. OnOk r A) whole first) (subst (λ r. OnOk r B) whole second) third
