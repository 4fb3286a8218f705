-- The leg that the locks lead to from a line's end or start: whether the line gains it, and what it owes.
use Rattle.std.proofs.Common.{◌≡◌, ◌<◌, Bool, true, false, cond, [], ◌∷◌, ◌++◌, length, Option, Some, None, refl, ap, sym, ◌∙◌, subst}
use Rattle.std.specs.Prelude.{IsTrue, option_and_then}
use Rattle.rbc_model.specs.declared.places.Leg.{Leg}
use Rattle.rbc_model.specs.Tracks.{Track, is_linked}
use Rattle.rbc_model.specs.SoundTracks.{IsSound}
use Rattle.rbc_model.specs.Lines.{Line, has_section, last_leg, first_leg}
use Rattle.rbc_model.specs.Locks.{Locks, next, prev, longer_ahead, longer_back}
use Rattle.rbc_scene_laws.specs.Good.{IsGoodLocks}
use Rattle.rbc_scene_laws.proofs.BasicLemmas.{the_some}
use Rattle.rbc_scene_laws.proofs.RowLemmas.{next-row, prev-row, linked-row}
use Rattle.rbc_scene_laws.proofs.LengtheningLemmas.{linked_from_below, linked_to_below}

gained : (t : Bool) (line : Line) → t ≡ false → cond t None (Some line) ≡ Some line
gained true line h = cc
gained false line h = refl

module _ (locks : Locks) (line : Line) where
  -- ---- ahead

  abbrev gain_ahead : Leg → Option Line
  gain_ahead leg = cond (has_section line leg.section) None (Some (line ++ leg ∷ []))

  ahead_is : (last : Leg) (o : Option Leg) → last_leg line ≡ Some last → next locks last ≡ o → longer_ahead locks line ≡ option_and_then gain_ahead o
  ahead_is last o e f = ap (λ z. option_and_then gain_ahead (option_and_then (next locks) z)) e ∙ ap (option_and_then gain_ahead) f

  pub ahead-gains : (last leg : Leg) → last_leg line ≡ Some last → next locks last ≡ Some leg → has_section line leg.section ≡ false → Some (line ++ leg ∷ []) ≡ longer_ahead locks line
  ahead-gains last leg e f h = sym (ahead_is last (Some leg) e f ∙ gained (has_section line leg.section) (line ++ leg ∷ []) h)

  -- ---- back

  abbrev gain_back : Leg → Option Line
  gain_back leg = cond (has_section line leg.section) None (Some (leg ∷ line))

  back_is : (first : Leg) (o : Option Leg) → first_leg line ≡ Some first → prev locks first ≡ o → longer_back locks line ≡ option_and_then gain_back o
  back_is first o e f = ap (λ z. option_and_then gain_back (option_and_then (prev locks) z)) e ∙ ap (option_and_then gain_back) f

  pub back-gains : (first leg : Leg) → first_leg line ≡ Some first → prev locks first ≡ Some leg → has_section line leg.section ≡ false → Some (leg ∷ line) ≡ longer_back locks line
  back-gains first leg e f h = sym (back_is first (Some leg) e f ∙ gained (has_section line leg.section) (leg ∷ line) h)

-- ---- such a leg is of the track and linked

module _ (track : Track) (locks : Locks) (good : IsGoodLocks track locks) where
  linked_next : (last leg : Leg) → next locks last ≡ Some leg → IsTrue (is_linked track last leg)
  linked_next last leg h = linked-row track locks last leg good (next-row locks last leg h)

  linked_prev : (first leg : Leg) → prev locks first ≡ Some leg → IsTrue (is_linked track leg first)
  linked_prev first leg h = linked-row track locks leg first good (prev-row locks first leg h)

  pub next-below : (last leg : Leg) → IsSound track → next locks last ≡ Some leg → leg.section < length track.sections
  next-below last leg sound h = linked_to_below track last leg sound (linked_next last leg h)

  pub prev-below : (first leg : Leg) → IsSound track → prev locks first ≡ Some leg → leg.section < length track.sections
  prev-below first leg sound h = linked_from_below track leg first sound (linked_prev first leg h)

  pub next-linked : (line : Line) (last leg : Leg) → last_leg line ≡ Some last → next locks last ≡ Some leg → (other : Leg) → last_leg line ≡ Some other → IsTrue (is_linked track other leg)
  next-linked line last leg e h other f = subst (λ (z : Leg). IsTrue (is_linked track z leg)) (the_some last other (sym e ∙ f)) (linked_next last leg h)
