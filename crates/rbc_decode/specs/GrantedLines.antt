-- A line `granted`, by which a centre's reply to a train that may run on begins: what it tells of the authority.
use Rattle.std.specs.Prelude.{ℕ, Bool, List, [], ◌∷◌, ◌++◌, Option, Some, None, if◌then◌else◌, nat_lt, length, codes, decimal, bytes_eq}
use Rattle.rbc_model.specs.declared.limits.TheConstants.{LAST_TRAIN, LONGEST_CHECK_LINE}
use Rattle.rbc_model.specs.Names.{name_in, leg_in, leg_text}
use Rattle.rbc_model.specs.Results.{is_from_to}
use Rattle.rbc_model.specs.Words.{without_return, words_of, number_in, integer_in}
use Rattle.rbc_decode.specs.declared.granted.Ahead.{Ahead}
use Rattle.rbc_decode.specs.declared.granted.Ahead.TheVariants.{NoLink, NotLocked, Own, Occupied, Held, Limit}
use Rattle.rbc_decode.specs.declared.granted.GrantedLine.{GrantedLine}

-- one step, and then another, which may know the first one's value, as far as there is one
infixl 10 ◌>>=◌
abbrev pub ◌>>=◌ : {A B : Type 0} → Option A → (A → Option B) → Option B
None >>= next = None
(Some x) >>= next = next x

-- ---- words

-- a number that a train may have
abbrev pub train_of : Option ℕ → Option ℕ
train_of None = None
train_of (Some n) = if is_from_to 1 LAST_TRAIN n then Some n else None

-- the train that a word writes
abbrev pub train_in : List ℕ → Option ℕ
train_in word = train_of (number_in word)

-- the word, if it is the only one
abbrev pub only_word : List (List ℕ) → Option (List ℕ)
only_word (word ∷ []) = Some word
only_word _ = None

-- what it is, if no word is left
abbrev pub alone : Ahead → List (List ℕ) → Option Ahead
alone obstacle [] = Some obstacle
alone obstacle _ = None

-- ---- obstacles

-- the leg, the section or the train behind an obstacle's name
abbrev pub leg_ahead : List (List ℕ) → Option Ahead
leg_ahead words = only_word words >>= leg_in >>= (λ leg. Some (NoLink leg))

abbrev pub section_ahead : List (List ℕ) → Option Ahead
section_ahead words = only_word words >>= name_in >>= (λ section. Some (NotLocked section))

abbrev pub train_ahead : (ℕ → Ahead) → List (List ℕ) → Option Ahead
train_ahead obstacle words = only_word words >>= train_in >>= (λ train. Some (obstacle train))

-- the obstacle, by its name and the words behind it
abbrev pub ahead_by : List ℕ → List (List ℕ) → Option Ahead
ahead_by name words =
    if bytes_eq name (codes "NoLink") then leg_ahead words
    else if bytes_eq name (codes "NotLocked") then section_ahead words
    else if bytes_eq name (codes "Own") then alone Own words
    else if bytes_eq name (codes "Occupied") then train_ahead Occupied words
    else if bytes_eq name (codes "Held") then train_ahead Held words
    else if bytes_eq name (codes "Limit") then alone Limit words
    else None

-- the obstacle that words tell
abbrev pub ahead_in : List (List ℕ) → Option Ahead
ahead_in [] = None
ahead_in (name ∷ words) = ahead_by name words

-- the words of an obstacle, a space between two
abbrev pub ahead_text : Ahead → List ℕ
ahead_text (NoLink leg) = codes "NoLink " ++ leg_text leg
ahead_text (NotLocked section) = codes "NotLocked " ++ section
ahead_text Own = codes "Own"
ahead_text (Occupied train) = codes "Occupied " ++ decimal train
ahead_text (Held train) = codes "Held " ++ decimal train
ahead_text Limit = codes "Limit"

-- ---- the line

-- What the words behind the first one tell: the train, the version, where the authority begins and where it ends, in metres from the train's group, and the
-- obstacle. Where it ends is told by the message too.
abbrev pub grant_in : List (List ℕ) → Option GrantedLine
grant_in (train ∷ version ∷ beginning ∷ end ∷ obstacle) = do
  train ← train_in train
  version ← number_in version
  beginning ← integer_in beginning
  end ← number_in end
  obstacle ← ahead_in obstacle
  Some (record { train = train; version = version; beginning = beginning; obstacle = obstacle })
grant_in _ = None

abbrev pub granted_by : List (List ℕ) → Option GrantedLine
granted_by [] = None
granted_by (word ∷ words) = if bytes_eq word (codes "granted") then grant_in words else None

-- what the bytes of a line tell, without its line feed: nothing of any other line, and of one that is too long
abbrev pub granted_in : List ℕ → Option GrantedLine
granted_in line = if nat_lt LONGEST_CHECK_LINE (length line) then None else granted_by (words_of (without_return line))
