-- What a line `granted` tells, as a member of a line of JSON: its texts need no escapes.
use Rattle.std.proofs.Common.{◌≡◌, ℕ, ◌≤◌, Bool, true, false, List, [], ◌∷◌, ◌++◌, codes, decimal, refl, sym, ap, ap₂, ◌∙◌, arith, subst, append_assoc, length}
use Rattle.std.specs.Fmt.{signed_decimal}
use Rattle.std.specs.List.{list_all}
use Rattle.std.proofs.lemmas.Bool.Decides.{nat_tests}
use Rattle.json.specs.Print.{escape, quoted, escape_byte}
use Rattle.json.proofs.Printed.Strings.{escape_byte_plain}
use Rattle.rbc_model.specs.declared.places.Direction.{Direction}
use Rattle.rbc_model.specs.declared.places.Direction.TheVariants.{Rising, Falling}
use Rattle.rbc_model.specs.Names.{is_name_byte, is_name, LegName, direction_text, leg_text}
use Rattle.rbc_model.specs.Results.{is_from_to}
use Rattle.rbc_model.proofs.CountingLemmas.{both_of}
use Rattle.rbc_decode.specs.declared.granted.GrantedLine.{GrantedLine}
use Rattle.rbc_decode.specs.GrantedLines.{ahead_text}
use Rattle.rbc_decode.specs.JsonParts.{member_part}
use Rattle.rbc_decode.specs.JsonText.{granted_data}
use Rattle.rbc_decode.proofs.ElementLemmas.{Plain, both_plain, decimal_plain}
use Rattle.rbc_decode.proofs.JsonLemmas.{quoted-plain, whole_text}

-- ---- texts that need no escapes

never : false ≡ true → ⊥
never h = cc

name_byte_high : (byte : ℕ) → is_name_byte byte ≡ true → 48 ≤ byte
name_byte_high byte h = grind (arith, nat_tests)

name_byte_plain : (byte : ℕ) → is_name_byte byte ≡ true → escape_byte byte ≡ byte ∷ []
name_byte_plain byte h =
    let high = name_byte_high byte h in
    escape_byte_plain byte (λ e. omega (arith, high)) (λ e. never (subst (λ b. is_name_byte b ≡ true) e h)) (omega (arith, high))

bytes_plain : (text : List ℕ) → list_all is_name_byte text ≡ true → Plain text
bytes_plain [] h = refl
bytes_plain (byte ∷ text) h =
    let both = both_of (is_name_byte byte) (list_all is_name_byte text) h in
    ap₂ (λ x y. x ++ y) (name_byte_plain byte both.0) (bytes_plain text both.1)

name_plain : (name : List ℕ) → is_name name ≡ true → Plain name
name_plain name h = bytes_plain name (both_of (is_from_to 1 16 (length name)) (list_all is_name_byte name) h).1

direction_plain : (direction : Direction) → Plain (direction_text direction)
unfolding escape_byte
direction_plain Rising = refl
direction_plain Falling = refl

pub leg_plain : (leg : LegName) → is_name leg.section ≡ true → Plain (codes "NoLink " ++ leg_text leg)
unfolding escape_byte
leg_plain leg h = both_plain (codes "NoLink ") (leg_text leg) refl (both_plain leg.section (direction_text leg.direction) (name_plain leg.section h) (direction_plain leg.direction))

pub section_plain : (section : List ℕ) → is_name section ≡ true → Plain (codes "NotLocked " ++ section)
unfolding escape_byte
section_plain section h = both_plain (codes "NotLocked ") section refl (name_plain section h)

pub train_plain : (name : List ℕ) (train : ℕ) → Plain name → Plain (name ++ decimal train)
train_plain name train h = both_plain name (decimal train) h (decimal_plain train)

-- ---- the member

pub granted_text : (granted : GrantedLine) → Plain (ahead_text granted.obstacle)
    → codes ",\"granted\":{\"train\":" ++ (decimal granted.train ++ (codes ",\"version\":" ++ (decimal granted.version ++ (codes ",\"beginning\":"
    ++ (signed_decimal granted.beginning ++ (codes ",\"obstacle\":\"" ++ (ahead_text granted.obstacle ++ codes "\"}"))))))) ≡ member_part (codes "granted") (granted_data granted)
unfolding escape_byte
granted_text granted plain =
    let front : List ℕ → List ℕ = λ l. codes ",\"granted\":{\"train\":" ++ (decimal granted.train ++ (codes ",\"version\":" ++ (decimal granted.version ++ (codes ",\"beginning\":" ++ l)))) in
    let obstacle : List ℕ = quoted (ahead_text granted.obstacle) ++ 125 ∷ [] in
    ap (λ l. front (signed_decimal granted.beginning ++ (codes ",\"obstacle\":" ++ l))) (sym (quoted-plain (ahead_text granted.obstacle) (125 ∷ []) plain))
    ∙ ap (λ l. front (l ++ (codes ",\"obstacle\":" ++ obstacle))) (whole_text granted.beginning)
