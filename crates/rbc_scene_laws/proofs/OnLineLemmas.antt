-- Lines by tests: a part of a line is a line, and so is a line with a linked leg more.
use Rattle.std.proofs.Common.{◌≡◌, ℕ, zero, suc, ◌+◌, ◌<◌, Bool, true, false, ◌||◌, not, List, [], ◌∷◌, ◌++◌, length, Some, refl, ap, sym, ◌∙◌, subst, arith, get_or}
use Rattle.std.specs.Prelude.{◌==◌, IsTrue}
use Rattle.std.specs.List.{AllByRecursion, AllAdjacentBelow}
use Rattle.std.proofs.lemmas.List.Elements.{All-from_recursion, recursion_from_All}
use Rattle.std.proofs.lemmas.Bool.{and_from, not_from_false, not-true, or_parts, or_from, ne_eqb, eqb-false}
use Rattle.rbc_model.specs.declared.places.Leg.{Leg}
use Rattle.rbc_model.specs.Tracks.{Track, is_linked}
use Rattle.rbc_model.specs.SoundTracks.{sections_differ, are_linked}
use Rattle.rbc_model.specs.Lines.{Line, IsLine, has_section, last_leg, first_leg}
use Rattle.rbc_scene_laws.proofs.BasicLemmas.{EachPair, AllPairs-from_recursion, recursion_from_AllPairs, and_left, and_right}
use Rattle.std.proofs.ByRecursion.{All-push}
use Rattle.rbc_model.proofs.ContinuedLineLemmas.{differ-push}

-- a line, by tests
pub record OnLine (track : Track) (line : Line) : Type 0 where
  pub some_leg : 0 < length line
  pub of_track : AllByRecursion (λ leg. leg.section < length track.sections) line
  pub differ : sections_differ line ≡ true
  pub linked : are_linked track line ≡ true

-- ---- `OnLine` says what `IsLine` says

abbrev DifferentSections : Leg → Leg → Type 0
DifferentSections a b = (a.section ≡ b.section) → ⊥

each_unlike : (section : ℕ) (line : Line) → has_section line section ≡ false → AllByRecursion (λ (b : Leg). (section ≡ b.section) → ⊥) line
each_unlike section [] h = tt
each_unlike section (leg ∷ line) h =
    ((λ e. eqb-false leg.section section ((or_parts (leg.section == section) (has_section line section) h).0) (sym e)), each_unlike section line ((or_parts (leg.section == section) (has_section line section) h).1))

unlike_each : (section : ℕ) (line : Line) → AllByRecursion (λ (b : Leg). (section ≡ b.section) → ⊥) line → has_section line section ≡ false
unlike_each section [] h = refl
unlike_each section (leg ∷ line) h = or_from (leg.section == section) (has_section line section) (ne_eqb leg.section section (λ e. h.0 (sym e))) (unlike_each section line h.1)

pairs_differ : (line : Line) → sections_differ line ≡ true → EachPair DifferentSections line
pairs_differ [] h = tt
pairs_differ (leg ∷ line) h =
    (each_unlike leg.section line (not-true (has_section line leg.section) (and_left (not (has_section line leg.section)) (sections_differ line) h)), pairs_differ line (and_right (not (has_section line leg.section)) (sections_differ line) h))

differ_pairs : (line : Line) → EachPair DifferentSections line → sections_differ line ≡ true
differ_pairs [] h = refl
differ_pairs (leg ∷ line) h =
    and_from (not (has_section line leg.section)) (sections_differ line) (not_from_false (has_section line leg.section) (unlike_each leg.section line h.0)) (differ_pairs line h.1)

module _ (track : Track) where
  abbrev Linked : Leg → Leg → Type 0
  Linked a b = IsTrue (is_linked track a b)

  adjacent_linked : (line : Line) → are_linked track line ≡ true → AllAdjacentBelow Linked line (length line)
  adjacent_linked [] h k d low = absurd (omega arith)
  adjacent_linked (leg ∷ []) h k d low = absurd (omega arith)
  adjacent_linked (leg ∷ next ∷ line) h zero d low = and_left (is_linked track leg next) (are_linked track (next ∷ line)) h
  adjacent_linked (leg ∷ next ∷ line) h (suc k) d low =
      subst (λ j. Linked (get_or (next ∷ line) k d) (get_or (leg ∷ next ∷ line) j d)) (let e : suc (k + 1) ≡ suc k + 1 = omega arith in e)
      (adjacent_linked (next ∷ line) (and_right (is_linked track leg next) (are_linked track (next ∷ line)) h) k d (omega arith))

  linked_adjacent : (line : Line) → AllAdjacentBelow Linked line (length line) → are_linked track line ≡ true
  linked_adjacent [] h = refl
  linked_adjacent (leg ∷ []) h = refl
  linked_adjacent (leg ∷ next ∷ line) h =
      and_from (is_linked track leg next) (are_linked track (next ∷ line))
      (h zero leg (omega arith))
      (linked_adjacent (next ∷ line) (λ k d low. subst (λ j. Linked (get_or (next ∷ line) k d) (get_or (leg ∷ next ∷ line) j d)) (let e : suc k + 1 ≡ suc (k + 1) = omega arith in e) (h (suc k) d (omega arith))))

  pub OnLine-IsLine : (line : Line) → IsLine track line → OnLine track line
  OnLine-IsLine line l = record {
    some_leg = l.some_leg;
    of_track = recursion_from_All (λ (leg : Leg). leg.section < length track.sections) line l.of_track;
    differ = differ_pairs line (recursion_from_AllPairs DifferentSections line l.sections_differ);
    linked = linked_adjacent line l.linked;
  }

  pub IsLine-OnLine : (line : Line) → OnLine track line → IsLine track line
  IsLine-OnLine line l = record {
    some_leg = l.some_leg;
    of_track = All-from_recursion (λ (leg : Leg). leg.section < length track.sections) line l.of_track;
    sections_differ = AllPairs-from_recursion DifferentSections line (pairs_differ line l.differ);
    linked = adjacent_linked line l.linked;
  }

-- ---- parts of a line

pub has_section-append : (a b : Line) (section : ℕ) → has_section (a ++ b) section ≡ (has_section a section || has_section b section)
has_section-append [] b section = refl
has_section-append (leg ∷ a) b section = ap (λ t. leg.section == section || t) (has_section-append a b section) ∙ or_joined (leg.section == section) (has_section a section) (has_section b section)
  where
    or_joined : (p q r : Bool) → (p || (q || r)) ≡ ((p || q) || r)
    or_joined true q r = refl
    or_joined false q r = refl

pub lacks_left : (a b : Line) (section : ℕ) → has_section (a ++ b) section ≡ false → has_section a section ≡ false
lacks_left a b section h = (or_parts (has_section a section) (has_section b section) (sym (has_section-append a b section) ∙ h)).0

pub differ_left : (a b : Line) → sections_differ (a ++ b) ≡ true → sections_differ a ≡ true
differ_left [] b h = refl
differ_left (leg ∷ a) b h =
    and_from (not (has_section a leg.section)) (sections_differ a)
    (not_from_false (has_section a leg.section) (lacks_left a b leg.section (not-true (has_section (a ++ b) leg.section) (and_left (not (has_section (a ++ b) leg.section)) (sections_differ (a ++ b)) h))))
    (differ_left a b (and_right (not (has_section (a ++ b) leg.section)) (sections_differ (a ++ b)) h))

pub differ_right : (a b : Line) → sections_differ (a ++ b) ≡ true → sections_differ b ≡ true
differ_right [] b h = h
differ_right (leg ∷ a) b h = differ_right a b (and_right (not (has_section (a ++ b) leg.section)) (sections_differ (a ++ b)) h)

linked_left : (track : Track) (a b : Line) → are_linked track (a ++ b) ≡ true → are_linked track a ≡ true
linked_left track [] b h = refl
linked_left track (leg ∷ []) b h = refl
linked_left track (leg ∷ next ∷ a) b h =
    and_from (is_linked track leg next) (are_linked track (next ∷ a)) (and_left (is_linked track leg next) (are_linked track (next ∷ (a ++ b))) h) (linked_left track (next ∷ a) b (and_right (is_linked track leg next) (are_linked track (next ∷ (a ++ b))) h))

linked_tail : (track : Track) (leg : Leg) (b : Line) → are_linked track (leg ∷ b) ≡ true → are_linked track b ≡ true
linked_tail track leg [] h = refl
linked_tail track leg (next ∷ b) h = and_right (is_linked track leg next) (are_linked track (next ∷ b)) h

linked_right : (track : Track) (a b : Line) → are_linked track (a ++ b) ≡ true → are_linked track b ≡ true
linked_right track [] b h = h
linked_right track (leg ∷ a) b h = linked_right track a b (linked_tail track leg (a ++ b) h)

each_left : {X : Type 0} (P : X → Type 0) (a b : List X) → AllByRecursion P (a ++ b) → AllByRecursion P a
each_left P [] b h = tt
each_left P (x ∷ a) b h = (h.0, each_left P a b h.1)

each_right : {X : Type 0} (P : X → Type 0) (a b : List X) → AllByRecursion P (a ++ b) → AllByRecursion P b
each_right P [] b h = h
each_right P (x ∷ a) b h = each_right P a b h.1

pub OnLine-left : (track : Track) (a b : Line) → 0 < length a → OnLine track (a ++ b) → OnLine track a
OnLine-left track a b some l = record {
  some_leg = some;
  of_track = each_left (λ (leg : Leg). leg.section < length track.sections) a b l.of_track;
  differ = differ_left a b l.differ;
  linked = linked_left track a b l.linked;
}

pub OnLine-right : (track : Track) (a b : Line) → 0 < length b → OnLine track (a ++ b) → OnLine track b
OnLine-right track a b some l = record {
  some_leg = some;
  of_track = each_right (λ (leg : Leg). leg.section < length track.sections) a b l.of_track;
  differ = differ_right a b l.differ;
  linked = linked_right track a b l.linked;
}

-- ---- a leg more

linked-push : (track : Track) (line : Line) (last leg : Leg) → last_leg line ≡ Some last → is_linked track last leg ≡ true → are_linked track line ≡ true → are_linked track (line ++ leg ∷ []) ≡ true
linked-push track [] last leg e h l = refl
linked-push track (a ∷ []) last leg e h l = and_from (is_linked track a leg) true (subst (λ z. is_linked track z leg ≡ true) (let s : last ≡ a = cc in s) h) refl
linked-push track (a ∷ b ∷ line) last leg e h l =
    and_from (is_linked track a b) (are_linked track (b ∷ (line ++ leg ∷ []))) (and_left (is_linked track a b) (are_linked track (b ∷ line)) l)
    (linked-push track (b ∷ line) last leg e h (and_right (is_linked track a b) (are_linked track (b ∷ line)) l))

some_pushed : (line : Line) (leg : Leg) → 0 < length (line ++ leg ∷ [])
some_pushed [] leg = omega arith
some_pushed (a ∷ line) leg = omega arith

pub OnLine-push : (track : Track) (line : Line) (last leg : Leg) → last_leg line ≡ Some last → is_linked track last leg ≡ true → has_section line leg.section ≡ false → leg.section < length track.sections → OnLine track line → OnLine track (line ++ leg ∷ [])
OnLine-push track line last leg e linked new low l = record {
  some_leg = some_pushed line leg;
  of_track = All-push (λ (a : Leg). a.section < length track.sections) line leg l.of_track low;
  differ = differ-push line leg l.differ new;
  linked = linked-push track line last leg e linked l.linked;
}

linked-cons : (track : Track) (line : Line) (leg first : Leg) → first_leg line ≡ Some first → is_linked track leg first ≡ true → are_linked track line ≡ true → are_linked track (leg ∷ line) ≡ true
linked-cons track [] leg first e h l = refl
linked-cons track (a ∷ line) leg first e h l = and_from (is_linked track leg a) (are_linked track (a ∷ line)) (subst (λ z. is_linked track leg z ≡ true) (let s : first ≡ a = cc in s) h) l

pub OnLine-cons : (track : Track) (line : Line) (leg first : Leg) → first_leg line ≡ Some first → is_linked track leg first ≡ true → has_section line leg.section ≡ false → leg.section < length track.sections → OnLine track line → OnLine track (leg ∷ line)
OnLine-cons track line leg first e linked new low l = record {
  some_leg = omega arith;
  of_track = (low, l.of_track);
  differ = and_from (not (has_section line leg.section)) (sections_differ line) (not_from_false (has_section line leg.section) new) l.differ;
  linked = linked-cons track line leg first e linked l.linked;
}

pub OnLine-one : (track : Track) (leg : Leg) → leg.section < length track.sections → OnLine track (leg ∷ [])
OnLine-one track leg low = record { some_leg = omega arith; of_track = (low, tt); differ = refl; linked = refl }
