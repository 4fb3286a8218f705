-- Walks: what one leg more or less makes of the legs walked along, and where a section stands among them.
use Rattle.std.proofs.Common.{◌≡◌, ℕ, zero, suc, ◌+◌, ◌-◌, ◌<◌, ◌≤◌, Bool, true, false, ◌||◌, [], ◌∷◌, ◌++◌, length, take, Option, Some, None, refl, ap, sym, ◌∙◌, subst, arith, length-append, append_assoc}
use Rattle.std.specs.Prelude.{◌==◌}
use Rattle.std.specs.Option.{option_map_or}
use Rattle.rbc_model.specs.declared.places.Leg.{Leg}
use Rattle.rbc_model.specs.Tracks.{Track, metres_of}
use Rattle.rbc_model.specs.Lines.{Line, IsLine, has_section, first_leg, last_leg, line_length}
use Rattle.rbc_model.specs.Locks.{Locks, next, prev}
use Rattle.rbc_model.specs.SoundTracks.{IsInForm, IsSound}
use Rattle.rbc_scene_laws.specs.Good.{IsGoodLocks}
use Rattle.rbc_scene_laws.proofs.BasicLemmas.{the_some}
use Rattle.rbc_scene_laws.proofs.BoundLemmas.{length-line, line_length-small}
use Rattle.rbc_scene_laws.proofs.RowLemmas.{next-row, prev-row, linked-row}
use Rattle.rbc_scene_laws.proofs.SpotLemmas.{line_length-append}
use Rattle.rbc_scene_laws.proofs.OnLineLemmas.{OnLine, OnLine-IsLine, IsLine-OnLine, OnLine-push, OnLine-cons, OnLine-right, has_section-append}
use Rattle.rbc_extent.specs.Walks.{legs_ahead, legs_behind, head, walked_legs, IsWalk}
use Rattle.rbc_extent.proofs.CourseLemmas.{next-below, prev-below}
use Rattle.rbc_model.proofs.MetreLemmas.{line_length-cons}
use Rattle.rbc_model.proofs.StopLemmas.{last_leg-push}

-- ---- lines and the legs at their ends

last_leg-right : (a : Line) (x : Leg) (b : Line) → last_leg (a ++ x ∷ b) ≡ last_leg (x ∷ b)
last_leg-right [] x b = refl
last_leg-right (y ∷ []) x b = refl
last_leg-right (y ∷ z ∷ a) x b = last_leg-right (z ∷ a) x b

first_leg-left : (a : Line) (x : Leg) (b : Line) → first_leg ((a ++ x ∷ []) ++ b) ≡ first_leg (a ++ x ∷ [])
first_leg-left [] x b = refl
first_leg-left (y ∷ a) x b = refl

first_leg-push : (line : Line) (first leg : Leg) → first_leg line ≡ Some first → first_leg (line ++ leg ∷ []) ≡ Some first
first_leg-push [] first leg e = cc
first_leg-push (a ∷ line) first leg e = e

last_leg-cons : (line : Line) (last leg : Leg) → last_leg line ≡ Some last → last_leg (leg ∷ line) ≡ Some last
last_leg-cons [] last leg e = cc
last_leg-cons (a ∷ line) last leg e = e

-- a line is its legs but the last, and the last
pub but_last : (line : Line) (last : Leg) → last_leg line ≡ Some last → take (length line - 1) line ++ last ∷ [] ≡ line
but_last [] last e = cc
but_last (a ∷ []) last e = ap (λ (l : Leg). l ∷ []) (sym (the_some a last e))
but_last (a ∷ b ∷ line) last e =
    let n : length (a ∷ b ∷ line) - 1 ≡ suc (length (b ∷ line) - 1) = omega arith in
    ap (λ k. take k (a ∷ b ∷ line) ++ last ∷ []) n ∙ ap (λ l. a ∷ l) (but_last (b ∷ line) last e)

module _ (locks : Locks) where
  -- ---- the next leg of a walk

  no_next : (leg last more : Leg) → next locks leg ≡ None → leg ≡ last → next locks last ≡ Some more → ⊥
  no_next leg last more f same h = let k : None ≡ Some more = sym f ∙ ap (next locks) same ∙ h in cc

  no_prev : (leg first more : Leg) → prev locks leg ≡ None → leg ≡ first → prev locks first ≡ Some more → ⊥
  no_prev leg first more f same h = let k : None ≡ Some more = sym f ∙ ap (prev locks) same ∙ h in cc

  ahead_by : (n : ℕ) (leg last more : Leg) (o : Option Leg) → next locks leg ≡ o → next locks last ≡ Some more
      → last_leg (leg ∷ option_map_or (λ (m : Leg). m ∷ legs_ahead locks m n) o []) ≡ Some last
      → ((m : Leg) → last_leg (m ∷ legs_ahead locks m n) ≡ Some last → legs_ahead locks m (suc n) ≡ legs_ahead locks m n ++ more ∷ [])
      → option_map_or (λ (m : Leg). m ∷ legs_ahead locks m (suc n)) o [] ≡ option_map_or (λ (m : Leg). m ∷ legs_ahead locks m n) o [] ++ more ∷ []
  ahead_by n leg last more None f h e again = absurd (no_next leg last more f (the_some leg last e) h)
  ahead_by n leg last more (Some m) f h e again = ap (λ (ls : Line). m ∷ ls) (again m e)

  ahead-push : (n : ℕ) (leg last more : Leg) → last_leg (leg ∷ legs_ahead locks leg n) ≡ Some last → next locks last ≡ Some more → legs_ahead locks leg (suc n) ≡ legs_ahead locks leg n ++ more ∷ []
  ahead-push zero leg last more e h = ap (λ (o : Option Leg). option_map_or (λ (m : Leg). m ∷ []) o []) (ap (next locks) (the_some leg last e) ∙ h)
  ahead-push (suc n) leg last more e h = ahead_by n leg last more (next locks leg) refl h e (λ m k. ahead-push n m last more k h)

  behind_by : (n : ℕ) (leg first more : Leg) (o : Option Leg) → prev locks leg ≡ o → prev locks first ≡ Some more
      → first_leg (option_map_or (λ (b : Leg). legs_behind locks b n ++ b ∷ []) o [] ++ leg ∷ []) ≡ Some first
      → ((b : Leg) → first_leg (legs_behind locks b n ++ b ∷ []) ≡ Some first → legs_behind locks b (suc n) ≡ more ∷ legs_behind locks b n)
      → option_map_or (λ (b : Leg). legs_behind locks b (suc n) ++ b ∷ []) o [] ≡ more ∷ option_map_or (λ (b : Leg). legs_behind locks b n ++ b ∷ []) o []
  behind_by n leg first more None f h e again = absurd (no_prev leg first more f (the_some leg first e) h)
  behind_by n leg first more (Some b) f h e again = ap (λ (ls : Line). ls ++ b ∷ []) (again b (sym (first_leg-left (legs_behind locks b n) b (leg ∷ [])) ∙ e))

  behind-cons : (n : ℕ) (leg first more : Leg) → first_leg (legs_behind locks leg n ++ leg ∷ []) ≡ Some first → prev locks first ≡ Some more → legs_behind locks leg (suc n) ≡ more ∷ legs_behind locks leg n
  behind-cons zero leg first more e h = ap (λ (o : Option Leg). option_map_or (λ (b : Leg). b ∷ []) o []) (ap (prev locks) (the_some leg first e) ∙ h)
  behind-cons (suc n) leg first more e h = behind_by n leg first more (prev locks leg) refl h e (λ b k. behind-cons n b first more k h)

  -- ---- where a section stands

  module _ (section : ℕ) where
    ahead-next : (n : ℕ) (leg more : Leg) → next locks leg ≡ Some more → has_section (legs_ahead locks leg (suc n)) section ≡ (more.section == section || has_section (legs_ahead locks more n) section)
    ahead-next n leg more h = ap (λ (o : Option Leg). has_section (option_map_or (λ (m : Leg). m ∷ legs_ahead locks m n) o []) section) h

    pub ahead-later : (n i : ℕ) (leg more : Leg) → i < n → next locks leg ≡ Some more → (more.section == section) ≡ false → has_section (legs_ahead locks more (n - (i + 1))) section ≡ has_section (legs_ahead locks leg (n - i)) section
    ahead-later n i leg more low h e =
        sym
        (ap (λ k. has_section (legs_ahead locks leg k) section) (let s : n - i ≡ suc (n - (i + 1)) = omega arith in s)
        ∙ ahead-next (n - (i + 1)) leg more h
        ∙ ap (λ (t : Bool). t || has_section (legs_ahead locks more (n - (i + 1))) section) e)

    behind-prev : (n : ℕ) (leg more : Leg) → prev locks leg ≡ Some more → has_section (legs_behind locks leg (suc n)) section ≡ (has_section (legs_behind locks more n) section || (more.section == section || false))
    behind-prev n leg more h =
        ap (λ (o : Option Leg). has_section (option_map_or (λ (b : Leg). legs_behind locks b n ++ b ∷ []) o []) section) h
        ∙ has_section-append (legs_behind locks more n) (more ∷ []) section

    or_nothing : (t u : Bool) → u ≡ false → (t || (u || false)) ≡ t
    or_nothing true u e = refl
    or_nothing false u e = ap (λ (v : Bool). v || false) e

    pub behind-later : (n i : ℕ) (leg more : Leg) → i < n → prev locks leg ≡ Some more → (more.section == section) ≡ false → has_section (legs_behind locks more (n - (i + 1))) section ≡ has_section (legs_behind locks leg (n - i)) section
    behind-later n i leg more low h e =
        sym
        (ap (λ k. has_section (legs_behind locks leg k) section) (let s : n - i ≡ suc (n - (i + 1)) = omega arith in s)
        ∙ behind-prev (n - (i + 1)) leg more h
        ∙ or_nothing (has_section (legs_behind locks more (n - (i + 1))) section) (more.section == section) e)

  -- ---- all legs

  module _ (known : Line) (turn : Leg) where
    walked-length : (behind ahead : ℕ) → length (walked_legs locks known turn behind ahead) ≡ length (legs_behind locks (head known turn) behind) + (length known + (1 + length (legs_ahead locks turn ahead)))
    walked-length behind ahead =
        omega (arith, length-append (legs_behind locks (head known turn) behind) (known ++ turn ∷ legs_ahead locks turn ahead), length-append known (turn ∷ legs_ahead locks turn ahead))

    walked-last : (behind ahead : ℕ) → last_leg (walked_legs locks known turn behind ahead) ≡ last_leg (turn ∷ legs_ahead locks turn ahead)
    walked-last behind ahead =
        ap last_leg (sym (append_assoc (legs_behind locks (head known turn) behind) known (turn ∷ legs_ahead locks turn ahead)))
        ∙ last_leg-right (legs_behind locks (head known turn) behind ++ known) turn (legs_ahead locks turn ahead)

    pub walked-push : (behind ahead : ℕ) (last more : Leg) → last_leg (walked_legs locks known turn behind ahead) ≡ Some last → next locks last ≡ Some more → walked_legs locks known turn behind (ahead + 1) ≡ walked_legs locks known turn behind ahead ++ more ∷ []
    walked-push behind ahead last more e h =
        let a : Line = legs_behind locks (head known turn) behind in
        let x : Line = legs_ahead locks turn ahead in
        ap (λ (k : ℕ). a ++ (known ++ turn ∷ legs_ahead locks turn k)) (let s : ahead + 1 ≡ suc ahead = omega arith in s)
        ∙ ap (λ (ls : Line). a ++ (known ++ turn ∷ ls)) (ahead-push ahead turn last more (sym (walked-last behind ahead) ∙ e) h)
        ∙ ap (λ (ls : Line). a ++ ls) (sym (append_assoc known (turn ∷ x) (more ∷ [])))
        ∙ sym (append_assoc a (known ++ turn ∷ x) (more ∷ []))

  head_first : (known : Line) (turn : Leg) (later : Line) → first_leg (known ++ turn ∷ later) ≡ Some (head known turn)
  head_first [] turn later = refl
  head_first (leg ∷ known) turn later = refl

  first_with : (a known : Line) (turn : Leg) (later : Line) → first_leg (a ++ (known ++ turn ∷ later)) ≡ first_leg (a ++ head known turn ∷ [])
  first_with [] known turn later = head_first known turn later
  first_with (leg ∷ a) known turn later = refl

  pub walked-cons : (known : Line) (turn : Leg) (behind ahead : ℕ) (first more : Leg) → first_leg (walked_legs locks known turn behind ahead) ≡ Some first → prev locks first ≡ Some more → walked_legs locks known turn (behind + 1) ahead ≡ more ∷ walked_legs locks known turn behind ahead
  walked-cons known turn behind ahead first more e h =
      let later : Line = known ++ turn ∷ legs_ahead locks turn ahead in
      ap (λ (k : ℕ). legs_behind locks (head known turn) k ++ later) (let s : behind + 1 ≡ suc behind = omega arith in s)
      ∙ ap (λ (ls : Line). ls ++ later) (behind-cons behind (head known turn) first more (sym (first_with (legs_behind locks (head known turn) behind) known turn (legs_ahead locks turn ahead)) ∙ e) h)

-- ---- what a walk keeps

module _ (track : Track) (locks : Locks) (known : Line) (turn : Leg) (behind ahead : ℕ) (first last : Leg) (metres : ℕ) (w : IsWalk track locks known turn behind ahead first last metres) where
  abbrev legs : Line
  legs = walked_legs locks known turn behind ahead

  pub walk-few : ahead + behind ≤ 4096
  walk-few =
      let all = length-line track legs w.line in
      let few = w.sound.few_sections in
      let a = w.all_ahead in
      let b = w.all_behind in
      omega (arith, walked-length locks known turn behind ahead)

  pub walk-small : metres ≤ 409600000
  walk-small = let m = w.long in omega (arith, line_length-small track legs w.sound w.form w.line)

  pub walk-ahead : (leg : Leg) (longer : ℕ) → next locks last ≡ Some leg → has_section legs leg.section ≡ false → longer ≡ metres + metres_of track leg.section → IsWalk track locks known turn behind (ahead + 1) first leg longer
  walk-ahead leg longer h lacks more =
      let is : walked_legs locks known turn behind (ahead + 1) ≡ legs ++ leg ∷ [] = walked-push locks known turn behind ahead last leg w.ends h in
      let low = next-below track locks w.good last leg w.sound h in
      let linked = linked-row track locks last leg w.good (next-row locks last leg h) in
      let n : ahead + 1 ≡ suc ahead = omega arith in
      record {
        form = w.form;
        sound = w.sound;
        good = w.good;
        line = subst (IsLine track) (sym is) (IsLine-OnLine track (legs ++ leg ∷ []) (OnLine-push track legs last leg w.ends linked lacks low (OnLine-IsLine track legs w.line)));
        begins = ap first_leg is ∙ first_leg-push legs first leg w.begins;
        ends = ap last_leg is ∙ last_leg-push legs leg;
        all_behind = w.all_behind;
        all_ahead =
            ap (λ k. length (legs_ahead locks turn k)) n
            ∙ ap length (ahead-push locks ahead turn last leg (sym (walked-last locks known turn behind ahead) ∙ w.ends) h)
            ∙ (let a = w.all_ahead in omega (arith, length-append (legs_ahead locks turn ahead) (leg ∷ [])));
        long = (let m = w.long in let s : longer ≡ line_length track (legs ++ leg ∷ []) = omega (arith, line_length-append track legs (leg ∷ []), line_length-cons track leg []) in s) ∙ ap (line_length track) (sym is);
      }

  pub walk-back : (leg : Leg) (longer : ℕ) → prev locks first ≡ Some leg → has_section legs leg.section ≡ false → longer ≡ metres + metres_of track leg.section → IsWalk track locks known turn (behind + 1) ahead leg last longer
  walk-back leg longer h lacks more =
      let is : walked_legs locks known turn (behind + 1) ahead ≡ leg ∷ legs = walked-cons locks known turn behind ahead first leg w.begins h in
      let low = prev-below track locks w.good first leg w.sound h in
      let linked = linked-row track locks leg first w.good (prev-row locks first leg h) in
      let n : behind + 1 ≡ suc behind = omega arith in
      let head_is = sym (first_with locks (legs_behind locks (head known turn) behind) known turn (legs_ahead locks turn ahead)) ∙ w.begins in
      record {
        form = w.form;
        sound = w.sound;
        good = w.good;
        line = subst (IsLine track) (sym is) (IsLine-OnLine track (leg ∷ legs) (OnLine-cons track legs leg first w.begins linked lacks low (OnLine-IsLine track legs w.line)));
        begins = ap first_leg is;
        ends = ap last_leg is ∙ last_leg-cons legs last leg w.ends;
        all_behind =
            ap (λ k. length (legs_behind locks (head known turn) k)) n
            ∙ ap length (behind-cons locks behind (head known turn) first leg head_is h)
            ∙ (let b = w.all_behind in omega arith);
        all_ahead = w.all_ahead;
        long = (let m = w.long in let s : longer ≡ line_length track (leg ∷ legs) = omega (arith, line_length-cons track leg legs) in s) ∙ ap (line_length track) (sym is);
      }

-- ---- where a walk begins

pub walk-along : (track : Track) (locks : Locks) (line : Line) (first turn last : Leg) (metres : ℕ) → IsInForm track → IsSound track → IsGoodLocks track locks → IsLine track line → first_leg line ≡ Some first → last_leg line ≡ Some turn → last_leg line ≡ Some last → metres ≡ line_length track line
    → IsWalk track locks (take (length line - 1) line) turn 0 0 first last metres
walk-along track locks line first turn last metres form sound good is f t l e =
    let all : take (length line - 1) line ++ turn ∷ [] ≡ line = but_last line turn t in
    record {
      form = form;
      sound = sound;
      good = good;
      line = subst (IsLine track) (sym all) is;
      begins = ap first_leg all ∙ f;
      ends = ap last_leg all ∙ l;
      all_behind = refl;
      all_ahead = refl;
      long = e ∙ ap (line_length track) (sym all);
    }

-- ---- without its first leg

module _ (track : Track) (locks : Locks) (turn : Leg) (ahead : ℕ) (first last : Leg) (metres less : ℕ) where
  abbrev line_of : Line → Line
  line_of known = known ++ turn ∷ legs_ahead locks turn ahead

  some_later : (known : Line) → 0 < length (line_of known)
  some_later [] = omega arith
  some_later (leg ∷ known) = omega arith

  later_last : (leg : Leg) (known : Line) → last_leg (leg ∷ line_of known) ≡ Some last → last_leg (line_of known) ≡ Some last
  later_last leg [] e = e
  later_last leg (a ∷ known) e = e

  -- a known one
  pub walk-later : (leg : Leg) (known : Line) → IsWalk track locks (leg ∷ known) turn 0 ahead first last metres → less ≡ metres_of track first.section → IsWalk track locks known turn 0 ahead (head known turn) last (metres - less)
  walk-later leg known w e =
      let f = the_some leg first w.begins in
      let s : metres_of track leg.section ≡ metres_of track first.section = ap (λ (l : Leg). metres_of track l.section) f in
      record {
        form = w.form;
        sound = w.sound;
        good = w.good;
        line = IsLine-OnLine track (line_of known) (OnLine-right track (leg ∷ []) (line_of known) (some_later known) (OnLine-IsLine track (leg ∷ line_of known) w.line));
        begins = head_first locks known turn (legs_ahead locks turn ahead);
        ends = later_last leg known w.ends;
        all_behind = refl;
        all_ahead = w.all_ahead;
        long = (let m = w.long in omega (arith, line_length-cons track leg (line_of known)));
      }

-- one that was gained
module _ (track : Track) (locks : Locks) (turn : Leg) (first last : Leg) (metres less : ℕ) where
  -- it leads to the next leg
  pub record HasNext (ahead : ℕ) : Type 0 where
    pub leg : Leg
    pub is : next locks turn ≡ Some leg
    pub more : 0 < ahead
    pub later : legs_ahead locks turn ahead ≡ leg ∷ legs_ahead locks leg (ahead - 1)

  next_by : (n : ℕ) (o : Option Leg) → next locks turn ≡ o → 0 < length (option_map_or (λ (m : Leg). m ∷ legs_ahead locks m n) o []) → HasNext (suc n)
  next_by n None e h = absurd (omega arith)
  next_by n (Some leg) e h =
      let k : suc n - 1 ≡ n = omega arith in
      record {
        leg = leg;
        is = e;
        more = omega arith;
        later = ap (λ (o : Option Leg). option_map_or (λ (m : Leg). m ∷ legs_ahead locks m n) o []) e ∙ ap (λ (j : ℕ). leg ∷ legs_ahead locks leg j) (sym k);
      }

  pub has_next : (ahead : ℕ) → 0 < length (legs_ahead locks turn ahead) → HasNext ahead
  has_next zero h = absurd (omega arith)
  has_next (suc n) h = next_by n (next locks turn) refl h

  pub walk-turned : (ahead : ℕ) (h : HasNext ahead) → IsWalk track locks [] turn 0 ahead first last metres → less ≡ metres_of track first.section → IsWalk track locks [] h.leg 0 (ahead - 1) h.leg last (metres - less)
  walk-turned ahead h w e =
      let f = the_some turn first w.begins in
      let s : metres_of track turn.section ≡ metres_of track first.section = ap (λ (l : Leg). metres_of track l.section) f in
      let all : turn ∷ legs_ahead locks turn ahead ≡ turn ∷ h.leg ∷ legs_ahead locks h.leg (ahead - 1) = ap (λ (l : Line). turn ∷ l) h.later in
      let on : OnLine track (turn ∷ h.leg ∷ legs_ahead locks h.leg (ahead - 1)) = subst (OnLine track) all (OnLine-IsLine track (turn ∷ legs_ahead locks turn ahead) w.line) in
      record {
        form = w.form;
        sound = w.sound;
        good = w.good;
        line = IsLine-OnLine track (h.leg ∷ legs_ahead locks h.leg (ahead - 1)) (OnLine-right track (turn ∷ []) (h.leg ∷ legs_ahead locks h.leg (ahead - 1)) (omega arith) on);
        begins = refl;
        ends = ap last_leg (sym all) ∙ w.ends;
        all_behind = refl;
        all_ahead = (let a = w.all_ahead in let b = ap length h.later in omega arith);
        long = (let m = w.long in let l : line_length track (turn ∷ legs_ahead locks turn ahead) ≡ line_length track (turn ∷ h.leg ∷ legs_ahead locks h.leg (ahead - 1)) = ap (line_length track) all in omega (arith, line_length-cons track turn (h.leg ∷ legs_ahead locks h.leg (ahead - 1))));
      }

-- ---- as the code says it

module _ (track : Track) (locks : Locks) (turn : Leg) (behind ahead : ℕ) (first last : Leg) (metres less : ℕ) (none : behind ≡ 0) where
  abbrev At : Line → Leg → ℕ → ℕ → Leg → ℕ → Type 0
  At known here n more begin total = IsWalk track locks known here n more begin last total

  pub walk-dropped : (known later : Line) (leg begin : Leg) → known ≡ leg ∷ later → begin ≡ head later turn → At known turn behind ahead first metres → less ≡ metres_of track first.section → At later turn behind ahead begin (metres - less)
  walk-dropped known later leg begin is b w e =
      let v = subst (λ (k : Line). At k turn 0 ahead first metres) is (subst (λ n. At known turn n ahead first metres) none w) in
      subst (λ (l : Leg). At later turn behind ahead l (metres - less)) (sym b) (subst (λ n. At later turn n ahead (head later turn) (metres - less)) (sym none) (walk-later track locks turn ahead first last metres less leg later v e))

  -- the legs behind the one that was gained last
  pub turned-next : (known : Line) → length known ≡ 0 → 1 < length (walked_legs locks known turn behind ahead) → At known turn behind ahead first metres → HasNext track locks turn first last metres less ahead
  turned-next [] h several w =
      let b = w.all_behind in
      has_next track locks turn first last metres less ahead (omega (arith, walked-length locks [] turn behind ahead))
  turned-next (leg ∷ known) h several w = absurd (omega arith)

  pub walk-turns : (known : Line) (leg : Leg) → length known ≡ 0 → 1 < length (walked_legs locks known turn behind ahead) → next locks turn ≡ Some leg → At known turn behind ahead first metres → less ≡ metres_of track first.section → At known leg behind (ahead - 1) leg (metres - less)
  walk-turns [] leg h several e w m =
      let t = turned-next [] h several w in
      let v = walk-turned track locks turn first last metres less ahead t (subst (λ n. At [] turn n ahead first metres) none w) m in
      subst (λ (l : Leg). At [] l behind (ahead - 1) l (metres - less)) (the_some t.leg leg (sym t.is ∙ e)) (subst (λ n. At [] t.leg n (ahead - 1) t.leg (metres - less)) (sym none) v)
  walk-turns (a ∷ known) leg h several e w m = absurd (omega arith)
