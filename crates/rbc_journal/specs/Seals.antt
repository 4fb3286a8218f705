-- What a seal vouches for: the lines of its put, and by the seal before it all lines before these.
use Rattle.std.specs.Prelude.{◌≡◌, ℕ, Bool, true, false, List, [], ◌∷◌, ◌++◌, take, fold, not, is_ok, if◌then◌else◌, ◌&&◌, ◌==◌, bytes_eq}
use Rattle.hex.specs.Hex.{encode_lower, decode_sized}
use Rattle.sha2.specs.Sha256.{sha256}
use Rattle.rbc_journal.specs.Gates.{text, counted}

-- The seal of some bytes, behind an earlier seal: 16 hex digits, the first 8 bytes of SHA-256 of the earlier one's digits and of these bytes.
unfoldable pub seal_of_bytes : List ℕ → List ℕ → List ℕ
seal_of_bytes before bytes = encode_lower (take 8 (sha256 (before ++ bytes)))

-- that of some lines, each with its gate and its line feed
abbrev pub seal_of : List ℕ → List (List ℕ) → List ℕ
seal_of before lines = seal_of_bytes before (text lines)

-- a comment: a line that begins with a `#` (35)
abbrev pub is_comment : List ℕ → Bool
is_comment [] = false
is_comment (first ∷ rest) = first == 35

-- the line in which a seal stands: a comment of a space and its digits
abbrev pub seal_line : List ℕ → List ℕ
seal_line seal = 35 ∷ 32 ∷ seal

-- a line of this form: `# ` and 16 hex digits
abbrev pub has_seal_form : List ℕ → Bool
has_seal_form [] = false
has_seal_form (mark ∷ []) = false
has_seal_form (mark ∷ space ∷ digits) = (mark == 35) && (space == 32) && is_ok (decode_sized digits 8)

-- Lines, read from the front: whole puts with their seals, the last seal, the lines behind it, and whether each seal was the right one. Behind a wrong
-- one nothing is read.
pub record Chain : Type 0 where
  pub whole : List (List ℕ)
  pub seal : List ℕ
  pub put : List (List ℕ)
  pub is_right : Bool

-- before any line there is no seal
abbrev pub start : Chain
start = record { whole = []; seal = []; put = []; is_right = true }

-- the put ends with its seal
abbrev pub sealed : Chain → List ℕ → Chain
sealed chain seal = record { whole = chain.whole ++ chain.put ++ seal_line seal ∷ []; seal = seal; put = []; is_right = true }

-- a line of the form of a seal has been read
abbrev pub with_seal : Chain → List ℕ → List ℕ → Chain
with_seal chain line right = if bytes_eq line (seal_line right) then sealed chain right else record chain { is_right = false }

-- a line has been read
abbrev pub with_line : Chain → List ℕ → Chain
with_line chain line =
    if not chain.is_right then chain
    else if has_seal_form line then with_seal chain line (seal_of chain.seal chain.put)
    else record chain { put = chain.put ++ line ∷ [] }

abbrev pub chain_of : List (List ℕ) → Chain
chain_of lines = fold with_line start lines

-- lines of whole puts, each seal the right one, and the last of them this one
abbrev pub AreSealed : List (List ℕ) → List ℕ → Type 0
AreSealed lines seal = chain_of lines ≡ record { whole = lines; seal = seal; put = []; is_right = true }

-- the text of such lines, each with its gate and its line feed, as it stands in a file
pub record IsWholeText (bytes seal : List ℕ) : Type 0 where
  pub is_text : bytes ≡ text (counted bytes)
  pub are_sealed : AreSealed (counted bytes) seal
