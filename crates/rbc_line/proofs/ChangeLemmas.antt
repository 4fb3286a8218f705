-- What a line keeps when legs are put to it or dropped.
use Rattle.std.proofs.Common.{◌≡◌, ℕ, ◌+◌, ◌-◌, ◌<◌, ◌≤◌, ◌++◌, false, [], ◌∷◌, length, take, drop, Some, IsTrue, sym, ap, ◌∙◌, arith, length-drop}
use Rattle.std.proofs.lemmas.List.{take-append-drop, length-take-le, take_all}
use Rattle.std.proofs.Math.Seq.{take-append_seam}
use Rattle.rbc_model.specs.declared.places.Leg.{Leg}
use Rattle.rbc_model.specs.Tracks.{Track, metres_of, is_linked}
use Rattle.rbc_model.specs.Lines.{Line, first_leg, has_section, last_leg, line_length}
use Rattle.rbc_scene_laws.proofs.BoundLemmas.{line_length-small}
use Rattle.rbc_scene_laws.proofs.LengtheningLemmas.{linked_from_below, linked_to_below}
use Rattle.rbc_scene_laws.proofs.OnLineLemmas.{OnLine-IsLine, IsLine-OnLine, OnLine-left, OnLine-right, OnLine-push, OnLine-cons}
use Rattle.rbc_scene_laws.proofs.SpotLemmas.{line_length-append}
use Rattle.rbc_line.specs.OnTracks.{IsLineOfLength}
use Rattle.rbc_line.proofs.LegLemmas.{some_first}
use Rattle.rbc_model.proofs.MetreLemmas.{line_length-cons}
use Rattle.rbc_scene_laws.proofs.GrantingLemmas.{last_there}

module _ (track : Track) where
  -- a line's places fit its type
  pub length_at_most : (legs : Line) (total : ℕ) → IsLineOfLength track legs total → total ≤ 409600000
  length_at_most legs total l = omega (arith, line_length-small track legs l.sound l.form l.line, l.metres)

  -- ---- a leg more

  -- the leg behind the last one is of the track
  pub next_of_track : (legs : Line) (leg : Leg) (total : ℕ) → IsLineOfLength track legs total → ((last : Leg) → last_leg legs ≡ Some last → IsTrue (is_linked track last leg)) → leg.section < length track.sections
  next_of_track legs leg total l linked = let last = last_there legs l.line.some_leg in linked_to_below track last.0 leg l.sound (linked last.0 last.1)

  -- and so is the leg in front of the first one
  pub before_of_track : (legs : Line) (leg : Leg) (total : ℕ) → IsLineOfLength track legs total → ((first : Leg) → first_leg legs ≡ Some first → IsTrue (is_linked track leg first)) → leg.section < length track.sections
  before_of_track legs leg total l linked = let first = some_first legs l.line.some_leg in linked_from_below track leg first.0 l.sound (linked first.0 first.1)

  pub extended : (legs : Line) (leg : Leg) (total metres : ℕ) → IsLineOfLength track legs total → ((last : Leg) → last_leg legs ≡ Some last → IsTrue (is_linked track last leg)) → has_section legs leg.section ≡ false → metres ≡ metres_of track leg.section
      → IsLineOfLength track (legs ++ leg ∷ []) (total + metres)
  extended legs leg total metres l linked absent e =
      let last = last_there legs l.line.some_leg in
      let of_track = next_of_track legs leg total l linked in record {
        form = l.form;
        sound = l.sound;
        line = IsLine-OnLine track (legs ++ leg ∷ []) (OnLine-push track legs last.0 leg last.1 (linked last.0 last.1) absent of_track (OnLine-IsLine track legs l.line));
        metres = omega (arith, l.metres, e, line_length-append track legs (leg ∷ []), line_length-cons track leg []);
      }

  pub extended_front : (legs : Line) (leg : Leg) (total metres : ℕ) → IsLineOfLength track legs total → ((first : Leg) → first_leg legs ≡ Some first → IsTrue (is_linked track leg first)) → has_section legs leg.section ≡ false → metres ≡ metres_of track leg.section
      → IsLineOfLength track (leg ∷ legs) (total + metres)
  extended_front legs leg total metres l linked absent e =
      let first = some_first legs l.line.some_leg in
      let of_track = before_of_track legs leg total l linked in record {
        form = l.form;
        sound = l.sound;
        line = IsLine-OnLine track (leg ∷ legs) (OnLine-cons track legs leg first.0 first.1 (linked first.0 first.1) absent of_track (OnLine-IsLine track legs l.line));
        metres = omega (arith, l.metres, e, line_length-cons track leg legs);
      }

  -- ---- legs fewer

  -- the two parts of a line have its metres
  pub parts_metres : (legs : Line) (count : ℕ) → line_length track (take count legs) + line_length track (drop count legs) ≡ line_length track legs
  parts_metres legs count = sym (line_length-append track (take count legs) (drop count legs)) ∙ ap (line_length track) (take-append-drop count legs)

  pub cut_front : (legs : Line) (count total : ℕ) → IsLineOfLength track legs total → count < length legs → IsLineOfLength track (drop count legs) (total - line_length track (take count legs))
  cut_front legs count total l h =
      let whole : take count legs ++ drop count legs ≡ legs = take-append-drop count legs in
      record {
        form = l.form;
        sound = l.sound;
        line = IsLine-OnLine track (drop count legs) (OnLine-right track (take count legs) (drop count legs) (omega (arith, length-drop count legs)) (rw whole (OnLine-IsLine track legs l.line)));
        metres = omega (arith, l.metres, parts_metres legs count);
      }

  pub cut_back : (legs : Line) (left total : ℕ) → IsLineOfLength track legs total → 0 < left → left ≤ length legs → IsLineOfLength track (take left legs) (total - line_length track (drop left legs))
  cut_back legs left total l some h =
      let whole : take left legs ++ drop left legs ≡ legs = take-append-drop left legs in
      record {
        form = l.form;
        sound = l.sound;
        line = IsLine-OnLine track (take left legs) (OnLine-left track (take left legs) (drop left legs) (omega (arith, length-take-le left legs h)) (rw whole (OnLine-IsLine track legs l.line)));
        metres = omega (arith, l.metres, parts_metres legs left);
      }

  -- ---- as the code says it

  -- the legs from one index on are fewer metres than all
  pub rest_is : (legs : Line) (left : ℕ) → take (length legs - left) (drop left legs) ≡ drop left legs
  rest_is legs left = take_all (length legs - left) (drop left legs) (omega (arith, length-drop left legs))

  pub cut_front_here : (legs rotated shorter : Line) (count left total metres : ℕ) → IsLineOfLength track legs total → count < length legs → metres ≡ line_length track (take count legs)
      → rotated ≡ drop count legs ++ take count legs → left + count ≡ length legs → shorter ≡ take left rotated → IsLineOfLength track shorter (total - metres)
  cut_front_here legs rotated shorter count left total metres l h e f g is =
      let long : left ≡ length (drop count legs) = omega (arith, length-drop count legs) in
      let kept : shorter ≡ drop count legs = is ∙ ap (take left) f ∙ ap (λ n. take n (drop count legs ++ take count legs)) long ∙ take-append_seam (drop count legs) (take count legs) in
      rw (kept, e) (cut_front legs count total l h)

  pub cut_back_here : (legs shorter : Line) (left total metres : ℕ) → IsLineOfLength track legs total → 0 < left → left ≤ length legs → metres ≡ line_length track (take (length legs - left) (drop left legs)) → shorter ≡ take left legs
      → IsLineOfLength track shorter (total - metres)
  cut_back_here legs shorter left total metres l some h e is = rw (is, e, rest_is legs left) (cut_back legs left total l some h)
