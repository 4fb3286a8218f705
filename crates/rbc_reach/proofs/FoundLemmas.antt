-- The view on the legs that were walked is the definition's, which has all legs of the way.
use Rattle.std.proofs.Common.{◌≡◌, ℕ, ◌≤◌, Bool, true, cond, ◌++◌, List, length, take, drop, Option, Some, None, Ok, Err, refl, sym, ap, ◌∙◌, subst, arith}
use Rattle.std.specs.Prelude.{◌==◌, IsSome, find}
use Rattle.std.specs.Option.{option_map_or}
use Rattle.std.proofs.lemmas.List.{take-append-drop}
use Rattle.rbc_model.specs.declared.refusals.ViewFault.TheVariants.{Blocked, UnknownTrain}
use Rattle.rbc_model.specs.Lines.{Line, grades, legs_begun_before, line_length, speeds}
use Rattle.rbc_model.specs.Obstacles.{way}
use Rattle.rbc_model.specs.Locks.{Locks}
use Rattle.rbc_model.specs.Scenes.{Scene, train_numbered}
use Rattle.rbc_model.specs.Tracks.{Track}
use Rattle.rbc_model.specs.Trains.{Train}
use Rattle.rbc_model.specs.Views.{from_group, greatest_end, reach, shown_up_to, stop, view, view_of}
use Rattle.rbc_reach_laws.proofs.GreatestEndLemmas.{IsEndBefore, end_before}
use Rattle.rbc_reach_laws.proofs.ShownLemmas.{grades_shown, legs_shown, speeds_shown}
use Rattle.rbc_scene.specs.Reaches.{BeginsWay, ReachOnTrack}
use Rattle.rbc_reach.specs.Found.{view_found}

module _ (track : Track) (scene : Scene) (train : Train) where
  view_of-shown_up_to : (o : Option ℕ) → o ≡ greatest_end track scene train → view_of track scene train ≡ shown_up_to track scene train o
  view_of-shown_up_to o h = ap (shown_up_to track scene train) (sym h)

  module _ (found : ReachOnTrack) (of_track : found.track ≡ track) (at : found.place ≡ reach track scene train) (stops : found.obstacle ≡ stop track scene train) where
    -- no end is given
    pub blocked : (o : Option ℕ) → o ≡ greatest_end track scene train → o ≡ None → view_of track scene train ≡ Err (Blocked found.obstacle (from_group train found.place))
    blocked o h none = view_of-shown_up_to o h ∙ ap (shown_up_to track scene train) none ∙ sym (λ j. Err (Blocked (stops j) (from_group train (at j))))

    module _ (end : ℕ) (o : Option ℕ) (h : o ≡ greatest_end track scene train) (some : o ≡ Some end) where
      pub end_is : IsEndBefore track train found.place end
      end_is = subst (λ r. IsEndBefore track train r end) (sym at) (end_before track scene train end (sym h ∙ some))

      -- an end is given, and the legs that were walked reach it
      pub shown : (begins : BeginsWay track scene train found.line) → found.place ≤ line_length track found.line → view_of track scene train ≡ Ok (view_found train found end)
      shown begins on =
          let b = end_is in
          let rest = drop (length found.line) (way track scene train) in
          let parts : way track scene train ≡ found.line ++ rest = sym (take-append-drop (length found.line) (way track scene train)) ∙ ap (λ (l : Line). l ++ rest) (sym begins) in
          let legs : take (legs_begun_before track found.place (way track scene train)) (way track scene train) ≡ take (legs_begun_before track found.place found.line) found.line =
          ap (λ (w : Line). take (legs_begun_before track found.place w) w) parts ∙ legs_shown track found.line rest found.place on in
          let end_on : end ≤ line_length track found.line = (let k = b.before in omega arith) in
          let fast : speeds track (way track scene train) train.origin end ≡ speeds track found.line train.origin end =
          ap (λ (w : Line). speeds track w train.origin end) parts ∙ speeds_shown track found.line rest train.origin end end_on in
          let steep : grades track (way track scene train) train.origin end ≡ grades track found.line train.origin end =
          ap (λ (w : Line). grades track w train.origin end) parts ∙ grades_shown track found.line rest train.origin end end_on in
          let here : ReachOnTrack = record found { track = track } in
          view_of-shown_up_to o h ∙ ap (shown_up_to track scene train) some
          ∙ sym (λ j. Ok (view_found train (record { track = track; place = at j; obstacle = stops j; line = way track scene train }) end))
          ∙ sym (λ j. Ok (record (view_found train here end) { line = sym legs j; speeds = sym fast j; grades = sym steep j }))
          ∙ ap (λ (t : Track). Ok (view_found train (record here { track = t }) end)) (sym of_track)

-- ---- of the train of this number

pub viewed : (track : Track) (scene : Scene) (of_track : Track) (locks : Locks) (trains : List Train) (known : Train) (number : ℕ) → of_track ≡ track → locks ≡ scene.locks → trains ≡ scene.trains
    → train_numbered (record { locks = locks; trains = trains }) number ≡ Some known → view_of of_track (record { locks = locks; trains = trains }) known ≡ view track scene number
viewed track scene of_track locks trains known number same held run there =
    (λ j. view_of (same j) (record { locks = held j; trains = run j }) known)
    ∙ sym (ap (λ (o : Option Train). option_map_or (view_of track scene) o (Err UnknownTrain)) ((λ j. find (λ (t : Train). t.report.train == number) (sym run j)) ∙ there))

-- ---- a value that is there

pub some_by : {X : Type 0} (o : Option X) (b : Bool) (x : X) → o ≡ cond b (Some x) None → b ≡ true → IsSome o
some_by o b x e h = subst IsSome (sym (e ∙ ap (λ c. cond c (Some x) None) h)) refl
