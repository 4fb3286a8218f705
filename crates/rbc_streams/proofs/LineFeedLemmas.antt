-- Where a search for a line feed found one, or none.
use Rattle.std.proofs.Common.{◌≡◌, ℕ, ◌+◌, ◌-◌, ◌<◌, ◌≤◌, suc, Bool, true, false, nat_le, Option, Some, None, List, [], ◌∷◌, ◌++◌, length, take, drop, get_or, sym, ap, subst, ◌∙◌, arith, add-one, refl, length-drop, take-append-drop, drop-cons}
use Rattle.std.proofs.Math.Seq.{take-add}
use Rattle.std.proofs.lemmas.Bool.{eq-eqb, eqb-true, leb-true, leb-false}
use Rattle.std.specs.Bool.{MatchBool}
use Rattle.std.specs.Prelude.{◌≢◌, IfSome, IfNone}
use Rattle.std.proofs.lemmas.List.{get_or-take, get_or-drop, length-append, length-take, length-take-le, take_all, take-take}
use Rattle.std.proofs.lemmas.List.Elements.{All-append, All-take, All-from_get_or}
use Rattle.memchr.specs.Find.{Nowhere, Passes, is_byte}
use Rattle.rbc_streams.specs.LineReading.{LineReading, HasNoLineFeed, HasLine, IsOverlong, Steps, IsAhead}
use Rattle.rbc_streams.specs.declared.line_reader.Advance.{Advance}
use Rattle.rbc_streams.specs.declared.line_reader.Advance.TheVariants.{Line, Overlong, End}
use Rattle.rbc_streams.proofs.PieceLemmas.{rest_from}

-- none among the first bytes
pub none_before : (bytes : List ℕ) (count : ℕ) → count ≤ length bytes → Nowhere (Passes (is_byte 10) bytes) 0 count → HasNoLineFeed (take count bytes)
none_before bytes count within nowhere =
    let long = length-take-le count bytes within in
    All-from_get_or (λ byte. byte ≡ 10 → ⊥) (take count bytes) 0 (λ k below is.
    let low : k < count = omega arith in
    nowhere k (omega arith) low (eq-eqb _ _ (sym (get_or-take count bytes k 0 low) ∙ is)))

-- none among the first bytes, and none among the next
pub none_further : (bytes : List ℕ) (searched count : ℕ) → count ≤ length (take (length bytes - searched) (drop searched bytes)) → HasNoLineFeed (take searched bytes)
    → Nowhere (Passes (is_byte 10) (take (length bytes - searched) (drop searched bytes))) 0 count → HasNoLineFeed (take (searched + count) bytes)
none_further bytes searched count within so_far nowhere =
    let P : ℕ → Type 0 = λ byte. byte ≡ 10 → ⊥ in
    let same = rest_from searched bytes in
    let next = none_before (take (length bytes - searched) (drop searched bytes)) count within nowhere in
    let shown = subst (λ l. HasNoLineFeed (take count l)) same next in
    subst HasNoLineFeed (sym (take-add searched count bytes)) (All-append P (take searched bytes) (take count (drop searched bytes)) so_far shown)

-- none at all
pub none_in_all : (bytes : List ℕ) (searched : ℕ) → searched ≤ length bytes → HasNoLineFeed (take searched bytes)
    → Nowhere (Passes (is_byte 10) (take (length bytes - searched) (drop searched bytes))) 0 (length (take (length bytes - searched) (drop searched bytes)))
    → HasNoLineFeed bytes
none_in_all bytes searched within so_far nowhere =
    let long = ap length (rest_from searched bytes) in
    subst HasNoLineFeed (take_all _ bytes (omega (arith, long, length-drop searched bytes))) (none_further bytes searched _ (omega arith) so_far nowhere)

-- the line feed that was found is one of the bytes
pub found_within : (bytes : List ℕ) (searched further : ℕ) → further < length (take (length bytes - searched) (drop searched bytes)) → searched + further < length bytes
found_within bytes searched further inside = omega (arith, length-drop searched bytes, ap length (rest_from searched bytes))

-- and it is one
pub feed_found : (bytes : List ℕ) (searched further : ℕ) → further < length (take (length bytes - searched) (drop searched bytes))
    → Passes (is_byte 10) (take (length bytes - searched) (drop searched bytes)) further → get_or bytes (searched + further) 0 ≡ 10
feed_found bytes searched further inside passes =
    let same = rest_from searched bytes in
    sym (get_or-drop searched bytes further 0) ∙ ap (λ l. get_or l further 0) (sym same) ∙ eqb-true _ _ passes

-- what stands before the first line feed and behind it
pub at_feed : (bytes : List ℕ) (ahead : ℕ) → IsAhead bytes ahead → ahead < length bytes → bytes ≡ take ahead bytes ++ 10 ∷ drop (ahead + 1) bytes
at_feed bytes ahead is within =
    let next : drop ahead bytes ≡ 10 ∷ drop (ahead + 1) bytes =
    drop-cons bytes ahead 0 within ∙ ap (λ b. b ∷ drop (suc ahead) bytes) (is.feed within) ∙ ap (λ i. 10 ∷ drop i bytes) (sym (add-one ahead)) in
    sym (take-append-drop ahead bytes) ∙ ap (λ l. take ahead bytes ++ l) next

-- none at all
pub none_ahead : (bytes : List ℕ) (ahead : ℕ) → IsAhead bytes ahead → length bytes ≤ ahead → HasNoLineFeed bytes
none_ahead bytes ahead is all = subst HasNoLineFeed (take_all ahead bytes all) is.none_yet

-- none among the first of them
pub none_in_front : (bytes : List ℕ) (count : ℕ) → HasNoLineFeed bytes → HasNoLineFeed (take count bytes)
none_in_front bytes count none = All-take (λ byte. byte ≡ 10 → ⊥) count bytes none

-- none among fewer bytes
pub none_in_fewer : (bytes : List ℕ) (fewer count : ℕ) → fewer ≤ count → HasNoLineFeed (take count bytes) → HasNoLineFeed (take fewer bytes)
none_in_fewer bytes fewer count below none = subst HasNoLineFeed (take-take fewer count bytes below) (none_in_front (take count bytes) fewer none)

-- ---- whether a line is there

module _ (bytes : List ℕ) (longest ahead : ℕ) (is : IsAhead bytes ahead) where
  short : ahead < length bytes → ahead ≤ longest → HasLine bytes longest
  short inside within =
      (take ahead bytes, drop (ahead + 1) bytes, at_feed bytes ahead is inside, is.none_yet, omega (arith, length-take-le ahead bytes is.within, within))

  long : longest < ahead → HasNoLineFeed (take (longest + 1) bytes)
  long beyond = none_in_fewer bytes (longest + 1) ahead (omega (arith, beyond)) is.none_yet

  by_length : (is_short : Bool) → nat_le ahead longest ≡ is_short → ahead < length bytes → MatchBool is_short (HasLine bytes longest) (HasNoLineFeed (take (longest + 1) bytes))
  by_length true e inside = short inside (leb-true ahead longest e)
  by_length false e inside = long (leb-false ahead longest e)

-- the first line feed ends a line, or the line is too long
pub line_there : (bytes : List ℕ) (longest limit ahead : ℕ) → limit ≡ longest → IsAhead bytes ahead → ahead < length bytes
    → MatchBool (nat_le ahead limit) (HasLine bytes longest) (HasNoLineFeed (take (longest + 1) bytes))
line_there bytes longest limit ahead same is inside =
    subst (λ n. MatchBool (nat_le ahead n) (HasLine bytes longest) (HasNoLineFeed (take (longest + 1) bytes))) (sym same)
    (by_length bytes longest ahead is (nat_le ahead longest) refl inside)

-- a line that is there ends with a line feed among the first bytes
feed_at : (line rest : List ℕ) → get_or (line ++ 10 ∷ rest) (length line) 0 ≡ 10
feed_at [] rest = refl
feed_at (byte ∷ line) rest = feed_at line rest

pub line_is_fed : (bytes : List ℕ) (longest : ℕ) → HasLine bytes longest → HasNoLineFeed (take (longest + 1) bytes) → ⊥
line_is_fed bytes longest there none =
    let line = there.0 in
    let within = there.4 in
    let all = ap length there.2 in
    let count = length-append line (10 ∷ there.1) in
    let taken = length-take-le-or (longest + 1) bytes (length line) (omega (arith, within)) (omega (arith, all, count)) in
    none (length line) 0 taken
    (get_or-take (longest + 1) bytes (length line) 0 (omega (arith, within)) ∙ ap (λ l. get_or l (length line) 0) there.2 ∙ feed_at line there.1)
  where
    length-take-le-or : (count : ℕ) (l : List ℕ) (k : ℕ) → k < count → k < length l → k < length (take count l)
    length-take-le-or count l k low below = let is = length-take count l in omega (arith, is, low, below)

-- the next step goes over it
pub is_stepped_over : (step : Option Advance) (old new : LineReading) → IfSome step (Steps old.pending new) → IfSome step (λ s. s ≢ End)
    → IfNone step ((new ≡ old) × HasNoLineFeed old.pending × (length old.pending ≤ old.longest)) → new.longest ≡ old.longest → HasLine old.pending old.longest → step ≡ Some Line
is_stepped_over None old new some more none same there =
    absurd (line_is_fed old.pending old.longest there (none_in_front old.pending (old.longest + 1) none.1))
is_stepped_over (Some Line) old new some more none same there = refl
is_stepped_over (Some Overlong) old new some more none same there =
    let over = subst (IsOverlong old.pending) same some.1 in
    absurd (line_is_fed old.pending old.longest there over.no_end)
is_stepped_over (Some End) old new some more none same there = absurd (more refl)
