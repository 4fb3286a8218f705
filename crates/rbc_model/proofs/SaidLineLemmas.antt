-- A request that is written as a line is read back, and what is read of a line can be written.
use Rattle.std.proofs.Common.{◌≡◌, ℕ, ◌^◌, ◌<◌, ◌≤◌, Bool, true, false, ◌||◌, inl, inr, cond, List, [], ◌∷◌, ◌++◌, length, Option, Some, None, Result, Ok, Err, refl, ap, ◌∙◌, subst, arith, nat_le, codes, lit≤, lit<}
use Rattle.std.specs.Prelude.{◌==◌, decimal, bytes_eq}
use Rattle.std.specs.List.{AllByRecursion, list_all, before_first, after_first}
use Rattle.std.specs.Option.{option_map_or}
use Rattle.std.proofs.lemmas.Bool.{leb-true, eqb-true, and_from, or_cases}
use Rattle.std.proofs.lemmas.List.{length-append}
use Rattle.std.proofs.lemmas.List.Folds.{list_all-append}
use Rattle.rbc_model.specs.declared.limits.TheConstants.{LAST_COUNTRY, LAST_GROUP, LAST_TRAIN, FARTHEST_REPORT, FARTHEST_KEPT, MOST_DOUBT, LONGEST_TRAIN, LAST_TIME}
use Rattle.rbc_model.specs.declared.refusals.LineFault.{LineFault}
use Rattle.rbc_model.specs.declared.refusals.LineFault.TheVariants.{Command, Words, Number, Name}
use Rattle.rbc_model.specs.declared.sessions.Inquiry.{Inquiry}
use Rattle.rbc_model.specs.declared.sessions.Inquiry.TheVariants.{State, Scene}
use Rattle.rbc_model.specs.Results.{is_from_to, allowed_value, ◌>>=◌}
use Rattle.rbc_model.specs.GroupNames.{GroupName, IsGroupName}
use Rattle.rbc_model.specs.Reports.{IsReport, Report as TrainReport}
use Rattle.rbc_model.specs.Names.{is_name_byte, is_name}
use Rattle.rbc_model.specs.Words.{number_in, is_text}
use Rattle.rbc_model.specs.RequestText.{request_words, number_at, line_in}
use Rattle.rbc_model.specs.SessionText.{SessionLine, Blank, Report, Lock, Free, Leave, GiveBack, Ask, Inquire, inquiry_in, name_at, group_at, nominal_at, train_at, report_in, give_back_in, only_word, name_in, train_in, words_line, parse_session, group_word, nominal_word, said_words, said_line, IsTrainNumber, IsSayable}
use Rattle.rbc_model.proofs.CountingLemmas.{both_of}
use Rattle.rbc_model.proofs.WordLemmas.{is_visible, visible_is, IsWord, text_of_joined, request_words-joined, number_short, number_is_word, allowed-decimal, no_slash, before_mark, after_mark}

-- ---- the words of a request are words

name_byte_visible : (byte : ℕ) → is_name_byte byte ≡ true → is_visible byte ≡ true
name_byte_visible byte h =
    elim (or_cases (is_from_to 65 90 byte || is_from_to 97 122 byte || is_from_to 48 57 byte) (byte == 95) h) [
      | inl e ↦
          elim (or_cases (is_from_to 65 90 byte || is_from_to 97 122 byte) (is_from_to 48 57 byte) e) [
            | inl f ↦
                elim (or_cases (is_from_to 65 90 byte) (is_from_to 97 122 byte) f) [
                  | inl g ↦ within 65 90 byte (lit≤ tt) (lit≤ tt) g
                  | inr g ↦ within 97 122 byte (lit≤ tt) (lit≤ tt) g
                ]
            | inr f ↦ within 48 57 byte (lit≤ tt) (lit≤ tt) f
          ]
      | inr e ↦ let same = eqb-true byte 95 e in visible_is byte (omega arith) (omega arith)
    ]
  where
    within : (low high byte : ℕ) → 33 ≤ low → high ≤ 126 → is_from_to low high byte ≡ true → is_visible byte ≡ true
    within low high byte above below r =
        let b = both_of (nat_le low byte) (nat_le byte high) r in
        let from = leb-true low byte b.0 in
        let to = leb-true byte high b.1 in
        visible_is byte (omega arith) (omega arith)

pub name_visible : (text : List ℕ) → list_all is_name_byte text ≡ true → list_all is_visible text ≡ true
name_visible [] h = refl
name_visible (byte ∷ text) h =
    let b = both_of (is_name_byte byte) (list_all is_name_byte text) h in
    and_from (is_visible byte) (list_all is_visible text) (name_byte_visible byte b.0) (name_visible text b.1)

pub name_is_word : (name : List ℕ) → is_name name ≡ true → IsWord name
name_is_word name h =
    let b = both_of (is_from_to 1 16 (length name)) (list_all is_name_byte name) h in
    let size = both_of (nat_le 1 (length name)) (nat_le (length name) 16) b.0 in
    let some = leb-true 1 (length name) size.0 in
    let short = leb-true (length name) 16 size.1 in
    record { some = omega arith; short = omega arith; visible = name_visible name b.1 }

pub slash_is_word : (front back : List ℕ) → IsWord front → IsWord back → length front ≤ 10 → length back ≤ 10 → IsWord (front ++ 47 ∷ back)
slash_is_word front back a b short next =
    let some = a.some in
    let sum = length-append front (47 ∷ back) in
    record {
      some = omega arith;
      short = omega arith;
      visible = list_all-append is_visible front (47 ∷ back) ∙ and_from (list_all is_visible front) (list_all is_visible (47 ∷ back)) a.visible b.visible;
    }

module _ (group : GroupName) (fits : IsGroupName group) where
  country_small : group.country < 10 ^ 10
  country_small = let high = fits.country in omega arith

  number_small : group.number < 10 ^ 10
  number_small = let high = fits.number in omega arith

  pub group_is_word : IsWord (group_word group)
  group_is_word =
      slash_is_word (decimal group.country) (decimal group.number) (number_is_word group.country country_small) (number_is_word group.number number_small)
      (number_short group.country country_small) (number_short group.number number_small)

  abbrev is_slash : ℕ → Bool
  is_slash byte = byte == 47

  abbrev made_group : ℕ → ℕ → GroupName
  made_group country number = record { country = country; number = number }

  abbrev group_from : Result ℕ LineFault → Result ℕ LineFault → Result GroupName LineFault
  group_from country number = country >>= (λ country. number >>= (λ number. Ok (made_group country number)))

  -- a group is read back
  pub group_read : (i : ℕ) → group_at i (group_word group) ≡ Ok group
  group_read i =
      let slashless = no_slash group.country country_small in
      let country = allowed_value (is_from_to 0 LAST_COUNTRY) (Name i) in
      let number = allowed_value (is_from_to 0 LAST_GROUP) (Name i) in
      ap (λ word. group_from (country (number_in word)) (number (number_in (after_first is_slash (group_word group))))) (before_mark is_slash 47 (decimal group.number) refl (decimal group.country) slashless)
      ∙ ap (λ word. group_from (country (number_in (decimal group.country))) (number (number_in word))) (after_mark is_slash 47 (decimal group.number) refl (decimal group.country) slashless)
      ∙ ap (λ read. group_from read (number (number_in (decimal group.number)))) (allowed-decimal 0 LAST_COUNTRY group.country (Name i) (omega arith) fits.country (lit< tt))
      ∙ ap (λ read. group_from (Ok group.country) read) (allowed-decimal 0 LAST_GROUP group.number (Name i) (omega arith) fits.number (lit< tt))

nominal_is_word : (nominal : Bool) → IsWord (nominal_word nominal)
nominal_is_word true = record { some = lit< tt; short = lit≤ tt; visible = refl }
nominal_is_word false = record { some = lit< tt; short = lit≤ tt; visible = refl }

nominal_read : (i : ℕ) (nominal : Bool) → nominal_at i (nominal_word nominal) ≡ Ok nominal
nominal_read i true = refl
nominal_read i false = refl

-- ---- a report is read back

abbrev report_from : Result ℕ LineFault → Result GroupName LineFault → Result Bool LineFault → Result ℕ LineFault → Result ℕ LineFault → Result ℕ LineFault → Result ℕ LineFault → Result ℕ LineFault
    → Result TrainReport LineFault
report_from train group nominal distance over under length time = do
  train ← train
  group ← group
  nominal ← nominal
  distance ← distance
  over ← over
  under ← under
  length ← length
  time ← time
  Ok (record { train = train; group = group; nominal = nominal; distance = distance; over = over; under = under; length = length; time = time })

report_made : (r : TrainReport) (train : Result ℕ LineFault) (group : Result GroupName LineFault) (nominal : Result Bool LineFault) (distance over under length time : Result ℕ LineFault)
    → train ≡ Ok r.train → group ≡ Ok r.group → nominal ≡ Ok r.nominal → distance ≡ Ok r.distance → over ≡ Ok r.over → under ≡ Ok r.under → length ≡ Ok r.length → time ≡ Ok r.time
    → report_from train group nominal distance over under length time ≡ Ok r
report_made r train group nominal distance over under length time a b c d e f g h = rw (a, b, c, d, e, f, g, h) refl

abbrev behind_report : TrainReport → List (List ℕ)
behind_report r =
    decimal r.train
    ∷ group_word r.group
    ∷ nominal_word r.nominal
    ∷ decimal r.distance
    ∷ decimal r.over
    ∷ decimal r.under
    ∷ decimal r.length
    ∷ decimal r.time
    ∷ []

module _ (r : TrainReport) (fits : IsReport r) where
  report_read : report_in (behind_report r) ≡ Ok r
  report_read =
      report_made r (train_at 2 (decimal r.train)) (group_at 3 (group_word r.group)) (nominal_at 4 (nominal_word r.nominal)) (number_at 5 0 FARTHEST_REPORT (decimal r.distance))
      (number_at 6 0 MOST_DOUBT (decimal r.over)) (number_at 7 0 MOST_DOUBT (decimal r.under)) (number_at 8 1 LONGEST_TRAIN (decimal r.length)) (number_at 9 0 LAST_TIME (decimal r.time))
      (allowed-decimal 1 LAST_TRAIN r.train (Number 2) fits.some_train fits.train (lit< tt))
      (group_read r.group fits.group 3)
      (nominal_read 4 r.nominal)
      (allowed-decimal 0 FARTHEST_REPORT r.distance (Number 5) (omega arith) fits.distance (lit< tt))
      (allowed-decimal 0 MOST_DOUBT r.over (Number 6) (omega arith) fits.over (lit< tt))
      (allowed-decimal 0 MOST_DOUBT r.under (Number 7) (omega arith) fits.under (lit< tt))
      (allowed-decimal 1 LONGEST_TRAIN r.length (Number 8) fits.some_length fits.length (lit< tt))
      (allowed-decimal 0 LAST_TIME r.time (Number 9) (omega arith) fits.time (lit< tt))

  small : (n high : ℕ) → n ≤ high → high < 10 ^ 10 → n < 10 ^ 10
  small n high h k = omega arith

  report_are_words : AllByRecursion IsWord (codes "report" ∷ behind_report r)
  report_are_words =
      let distance = number_is_word r.distance (small r.distance FARTHEST_REPORT fits.distance (lit< tt)) in
      let over = number_is_word r.over (small r.over MOST_DOUBT fits.over (lit< tt)) in
      let under = number_is_word r.under (small r.under MOST_DOUBT fits.under (lit< tt)) in
      let length = number_is_word r.length (small r.length LONGEST_TRAIN fits.length (lit< tt)) in
      let time = number_is_word r.time (small r.time LAST_TIME fits.time (lit< tt)) in
      let train = number_is_word r.train (small r.train LAST_TRAIN fits.train (lit< tt)) in
      (record { some = lit< tt; short = lit≤ tt; visible = refl }, (train, (group_is_word r.group fits.group, (nominal_is_word r.nominal, (distance, (over, (under, (length, (time, tt)))))))))

-- ---- metres that are given back are read back

abbrev give_back_from : Result ℕ LineFault → Result ℕ LineFault → Result SessionLine LineFault
give_back_from train end = do
  train ← train
  end ← end
  Ok (GiveBack train end)

give_back_made : (train end : ℕ) (first second : Result ℕ LineFault) → first ≡ Ok train → second ≡ Ok end → give_back_from first second ≡ Ok (GiveBack train end)
give_back_made train end first second a b = rw (a, b) refl

-- ---- a request is read back

train_is_word : (train : ℕ) → IsTrainNumber train → IsWord (decimal train)
train_is_word train fits = let high = fits.1 in number_is_word train (omega arith)

-- the words of what a line can say are words
pub said_are_words : (said : SessionLine) → IsSayable said → AllByRecursion IsWord (said_words said)
said_are_words Blank fits = tt
said_are_words (Report report) fits = report_are_words report fits
said_are_words (Lock name) fits = (record { some = lit< tt; short = lit≤ tt; visible = refl }, (name_is_word name fits, tt))
said_are_words (Free name) fits = (record { some = lit< tt; short = lit≤ tt; visible = refl }, (name_is_word name fits, tt))
said_are_words (Leave train) fits = (record { some = lit< tt; short = lit≤ tt; visible = refl }, (train_is_word train fits, tt))
said_are_words (GiveBack train end) fits =
    let high = fits.1 in
    (record { some = lit< tt; short = lit≤ tt; visible = refl }, (train_is_word train fits.0, (number_is_word end (omega arith), tt)))
said_are_words (Ask train) fits = (record { some = lit< tt; short = lit≤ tt; visible = refl }, (train_is_word train fits, tt))
said_are_words (Inquire State) fits = (record { some = lit< tt; short = lit≤ tt; visible = refl }, tt)
said_are_words (Inquire Scene) fits = (record { some = lit< tt; short = lit≤ tt; visible = refl }, tt)

-- and its line is text
pub said_is_text : (said : SessionLine) → IsSayable said → is_text (said_line said) ≡ true
said_is_text Blank fits = refl
said_is_text (Report report) fits = text_of_joined (codes "report") (behind_report report) (said_are_words (Report report) fits)
said_is_text (Lock name) fits = text_of_joined (codes "lock") (name ∷ []) (said_are_words (Lock name) fits)
said_is_text (Free name) fits = text_of_joined (codes "free") (name ∷ []) (said_are_words (Free name) fits)
said_is_text (Leave train) fits = text_of_joined (codes "leave") (decimal train ∷ []) (said_are_words (Leave train) fits)
said_is_text (GiveBack train end) fits = text_of_joined (codes "yield") (decimal train ∷ decimal end ∷ []) (said_are_words (GiveBack train end) fits)
said_is_text (Ask train) fits = text_of_joined (codes "ask") (decimal train ∷ []) (said_are_words (Ask train) fits)
said_is_text (Inquire State) fits = refl
said_is_text (Inquire Scene) fits = refl

abbrev after_words : Result (Option (List (List ℕ))) LineFault → Result SessionLine LineFault
after_words found = found >>= (λ words. option_map_or words_line words (Ok Blank))

-- the line of what can be said says it
pub said_line_read : (said : SessionLine) → IsSayable said → parse_session (said_line said) ≡ Ok said
said_line_read Blank fits = refl
said_line_read (Report report) fits =
    ap after_words (request_words-joined (codes "report") (behind_report report) (said_are_words (Report report) fits) refl (lit≤ tt))
    ∙ ap (line_in Report) (report_read report fits)
said_line_read (Lock name) fits =
    ap after_words (request_words-joined (codes "lock") (name ∷ []) (said_are_words (Lock name) fits) refl (lit≤ tt))
    ∙ ap (λ is. line_in Lock (cond is (Ok name) (Err (Name 2)))) fits
said_line_read (Free name) fits =
    ap after_words (request_words-joined (codes "free") (name ∷ []) (said_are_words (Free name) fits) refl (lit≤ tt))
    ∙ ap (λ is. line_in Free (cond is (Ok name) (Err (Name 2)))) fits
said_line_read (Leave train) fits =
    ap after_words (request_words-joined (codes "leave") (decimal train ∷ []) (said_are_words (Leave train) fits) refl (lit≤ tt))
    ∙ ap (line_in Leave) (allowed-decimal 1 LAST_TRAIN train (Number 2) fits.0 fits.1 (lit< tt))
said_line_read (GiveBack train end) fits =
    let known = fits.0 in
    ap after_words (request_words-joined (codes "yield") (decimal train ∷ decimal end ∷ []) (said_are_words (GiveBack train end) fits) refl (lit≤ tt))
    ∙ give_back_made train end (train_at 2 (decimal train)) (number_at 3 0 FARTHEST_KEPT (decimal end))
    (allowed-decimal 1 LAST_TRAIN train (Number 2) known.0 known.1 (lit< tt))
    (allowed-decimal 0 FARTHEST_KEPT end (Number 3) (omega arith) fits.1 (lit< tt))
said_line_read (Ask train) fits =
    ap after_words (request_words-joined (codes "ask") (decimal train ∷ []) (said_are_words (Ask train) fits) refl (lit≤ tt))
    ∙ ap (line_in Ask) (allowed-decimal 1 LAST_TRAIN train (Number 2) fits.0 fits.1 (lit< tt))
said_line_read (Inquire State) fits = refl
said_line_read (Inquire Scene) fits = refl

-- ---- what is read of a line can be said

pub bound : {A B E : Type 0} (r : Result A E) (f : A → Result B E) (y : B) → r >>= f ≡ Ok y → (x : A) × (r ≡ Ok x) × (f x ≡ Ok y)
bound (Ok x) f y h = (x, refl, h)
bound (Err e) f y h = cc

pub chosen : {A E : Type 0} (b : Bool) (e : E) (x y : A) → cond b (Ok x) (Err e) ≡ Ok y → (b ≡ true) × (x ≡ y)
chosen true e x y h = (refl, cc)
chosen false e x y h = cc

pub allowed : {A E : Type 0} (test : A → Bool) (e : E) (o : Option A) (y : A) → allowed_value test e o ≡ Ok y → test y ≡ true
allowed test e None y h = cc
allowed test e (Some x) y h = let c = chosen (test x) e x y h in subst (λ z. test z ≡ true) c.1 c.0

in_range : (low high : ℕ) (e : LineFault) (o : Option ℕ) (n : ℕ) → allowed_value (is_from_to low high) e o ≡ Ok n → (low ≤ n) × (n ≤ high)
in_range low high e o n h =
    let b = both_of (nat_le low n) (nat_le n high) (allowed (is_from_to low high) e o n h) in
    (leb-true low n b.0, leb-true n high b.1)

the_group : (a b : GroupName) → (let r : Result GroupName LineFault = Ok a in r) ≡ Ok b → a ≡ b
the_group a b e = cc

group_fits : (i : ℕ) (word : List ℕ) (group : GroupName) → group_at i word ≡ Ok group → IsGroupName group
group_fits i word group h =
    let country = bound (allowed_value (is_from_to 0 LAST_COUNTRY) (Name i) (number_in (before_first (λ byte. byte == 47) word)))
    (λ country. allowed_value (is_from_to 0 LAST_GROUP) (Name i) (number_in (after_first (λ byte. byte == 47) word)) >>= (λ number. Ok (record { country = country; number = number }))) group h in
    let number = bound (allowed_value (is_from_to 0 LAST_GROUP) (Name i) (number_in (after_first (λ byte. byte == 47) word))) (λ number. Ok (record { country = country.0; number = number })) group country.2 in
    subst IsGroupName (the_group (record { country = country.0; number = number.0 }) group number.2)
    (record {
      country = (in_range 0 LAST_COUNTRY (Name i) (number_in (before_first (λ byte. byte == 47) word)) country.0 country.1).1;
      number = (in_range 0 LAST_GROUP (Name i) (number_in (after_first (λ byte. byte == 47) word)) number.0 number.1).1;
    })

-- the numbers of a word are in their range
abbrev Lies : ℕ → ℕ → Result ℕ LineFault → Type 0
Lies low high read = (n : ℕ) → read ≡ Ok n → (low ≤ n) × (n ≤ high)

the_report : (a b : TrainReport) → (let r : Result TrainReport LineFault = Ok a in r) ≡ Ok b → a ≡ b
the_report a b e = cc

report_fits : (train : Result ℕ LineFault) (group : Result GroupName LineFault) (nominal : Result Bool LineFault) (distance over under length time : Result ℕ LineFault) (report : TrainReport)
    → Lies 1 LAST_TRAIN train → ((g : GroupName) → group ≡ Ok g → IsGroupName g) → Lies 0 FARTHEST_REPORT distance → Lies 0 MOST_DOUBT over → Lies 0 MOST_DOUBT under → Lies 1 LONGEST_TRAIN length → Lies 0 LAST_TIME time
    → report_from train group nominal distance over under length time ≡ Ok report → IsReport report
report_fits (Err e) group nominal distance over under length time report a b c d f g i h = absurd (let never : ⊥ = cc in never)
report_fits (Ok train) (Err e) nominal distance over under length time report a b c d f g i h = absurd (let never : ⊥ = cc in never)
report_fits (Ok train) (Ok group) (Err e) distance over under length time report a b c d f g i h = absurd (let never : ⊥ = cc in never)
report_fits (Ok train) (Ok group) (Ok nominal) (Err e) over under length time report a b c d f g i h = absurd (let never : ⊥ = cc in never)
report_fits (Ok train) (Ok group) (Ok nominal) (Ok distance) (Err e) under length time report a b c d f g i h = absurd (let never : ⊥ = cc in never)
report_fits (Ok train) (Ok group) (Ok nominal) (Ok distance) (Ok over) (Err e) length time report a b c d f g i h = absurd (let never : ⊥ = cc in never)
report_fits (Ok train) (Ok group) (Ok nominal) (Ok distance) (Ok over) (Ok under) (Err e) time report a b c d f g i h = absurd (let never : ⊥ = cc in never)
report_fits (Ok train) (Ok group) (Ok nominal) (Ok distance) (Ok over) (Ok under) (Ok length) (Err e) report a b c d f g i h = absurd (let never : ⊥ = cc in never)
report_fits (Ok train) (Ok group) (Ok nominal) (Ok distance) (Ok over) (Ok under) (Ok length) (Ok time) report a b c d f g i h =
    subst IsReport (the_report (record { train = train; group = group; nominal = nominal; distance = distance; over = over; under = under; length = length; time = time }) report h)
    (record {
      some_train = (a train refl).0;
      train = (a train refl).1;
      group = b group refl;
      distance = (c distance refl).1;
      over = (d over refl).1;
      under = (f under refl).1;
      some_length = (g length refl).0;
      length = (g length refl).1;
      time = (i time refl).1;
    })

no_report : (report : TrainReport) → (let r : Result TrainReport LineFault = Err Words in r) ≡ Ok report → ⊥
no_report report h = cc

reported : (words : List (List ℕ)) (report : TrainReport) → report_in words ≡ Ok report → IsReport report
reported [] report h = absurd (no_report report h)
reported (a ∷ []) report h = absurd (no_report report h)
reported (a ∷ b ∷ []) report h = absurd (no_report report h)
reported (a ∷ b ∷ c ∷ []) report h = absurd (no_report report h)
reported (a ∷ b ∷ c ∷ d ∷ []) report h = absurd (no_report report h)
reported (a ∷ b ∷ c ∷ d ∷ e ∷ []) report h = absurd (no_report report h)
reported (a ∷ b ∷ c ∷ d ∷ e ∷ f ∷ []) report h = absurd (no_report report h)
reported (a ∷ b ∷ c ∷ d ∷ e ∷ f ∷ g ∷ []) report h = absurd (no_report report h)
reported (train ∷ group ∷ direction ∷ distance ∷ over ∷ under ∷ length ∷ time ∷ []) report h =
    report_fits (train_at 2 train) (group_at 3 group) (nominal_at 4 direction) (number_at 5 0 FARTHEST_REPORT distance) (number_at 6 0 MOST_DOUBT over) (number_at 7 0 MOST_DOUBT under)
    (number_at 8 1 LONGEST_TRAIN length) (number_at 9 0 LAST_TIME time) report
    (in_range 1 LAST_TRAIN (Number 2) (number_in train))
    (group_fits 3 group)
    (in_range 0 FARTHEST_REPORT (Number 5) (number_in distance))
    (in_range 0 MOST_DOUBT (Number 6) (number_in over))
    (in_range 0 MOST_DOUBT (Number 7) (number_in under))
    (in_range 1 LONGEST_TRAIN (Number 8) (number_in length))
    (in_range 0 LAST_TIME (Number 9) (number_in time)) h
reported (a ∷ b ∷ c ∷ d ∷ e ∷ f ∷ g ∷ i ∷ j ∷ more) report h = absurd (no_report report h)

named : (words : List (List ℕ)) (name : List ℕ) → name_in words ≡ Ok name → is_name name ≡ true
named words name h =
    let one = bound (only_word words) (name_at 2) name h in
    let c = chosen (is_name one.0) (Name 2) one.0 name one.2 in
    subst (λ text. is_name text ≡ true) c.1 c.0

numbered : (words : List (List ℕ)) (train : ℕ) → train_in words ≡ Ok train → IsTrainNumber train
numbered words train h =
    let one = bound (only_word words) (train_at 2) train h in
    in_range 1 LAST_TRAIN (Number 2) (number_in one.0) train one.2

the_said : (a b : SessionLine) → (let r : Result SessionLine LineFault = Ok a in r) ≡ Ok b → a ≡ b
the_said a b e = cc

no_line : (fault : LineFault) (said : SessionLine) → (let r : Result SessionLine LineFault = Err fault in r) ≡ Ok said → ⊥
no_line fault said h = cc

in_line : {A : Type 0} (f : A → SessionLine) (read : Result A LineFault) (said : SessionLine) → ((x : A) → read ≡ Ok x → IsSayable (f x)) → line_in f read ≡ Ok said → IsSayable said
in_line f (Ok x) said fits h = subst IsSayable (the_said (f x) said h) (fits x refl)
in_line f (Err fault) said fits h = absurd (no_line fault said h)

give_back_fits : (train end : Result ℕ LineFault) (said : SessionLine) → Lies 1 LAST_TRAIN train → Lies 0 FARTHEST_KEPT end → give_back_from train end ≡ Ok said → IsSayable said
give_back_fits (Err e) end said a b h = absurd (let never : ⊥ = cc in never)
give_back_fits (Ok train) (Err e) said a b h = absurd (let never : ⊥ = cc in never)
give_back_fits (Ok train) (Ok end) said a b h = subst IsSayable (the_said (GiveBack train end) said h) (a train refl, (b end refl).1)

gave_back : (words : List (List ℕ)) (said : SessionLine) → give_back_in words ≡ Ok said → IsSayable said
gave_back [] said h = absurd (no_line Words said h)
gave_back (train ∷ []) said h = absurd (no_line Words said h)
gave_back (train ∷ end ∷ []) said h =
    give_back_fits (train_at 2 train) (number_at 3 0 FARTHEST_KEPT end) said (in_range 1 LAST_TRAIN (Number 2) (number_in train)) (in_range 0 FARTHEST_KEPT (Number 3) (number_in end)) h
gave_back (train ∷ end ∷ other ∷ more) said h = absurd (no_line Words said h)

inquired : (inquiry : Inquiry) (words : List (List ℕ)) (said : SessionLine) → inquiry_in inquiry words ≡ Ok said → IsSayable said
inquired inquiry [] said h = subst IsSayable (the_said (Inquire inquiry) said h) tt
inquired inquiry (word ∷ more) said h = absurd (no_line Words said h)

by_command : (words : List (List ℕ)) (a b c d e f g i : Bool) (said : SessionLine)
    → cond a (line_in Report (report_in words)) (cond b (line_in Lock (name_in words)) (cond c (line_in Free (name_in words)) (cond d (line_in Leave (train_in words)) (cond e (give_back_in words) (cond f (line_in Ask (train_in words)) (cond g (inquiry_in State words) (cond i (inquiry_in Scene words) (Err Command)))))))) ≡ Ok said
    → IsSayable said
by_command words true b c d e f g i said h = in_line Report (report_in words) said (reported words) h
by_command words false true c d e f g i said h = in_line Lock (name_in words) said (named words) h
by_command words false false true d e f g i said h = in_line Free (name_in words) said (named words) h
by_command words false false false true e f g i said h = in_line Leave (train_in words) said (numbered words) h
by_command words false false false false true f g i said h = gave_back words said h
by_command words false false false false false true g i said h = in_line Ask (train_in words) said (numbered words) h
by_command words false false false false false false true i said h = inquired State words said h
by_command words false false false false false false false true said h = inquired Scene words said h
by_command words false false false false false false false false said h = absurd (no_line Command said h)

worded : (words : List (List ℕ)) (said : SessionLine) → words_line words ≡ Ok said → IsSayable said
worded [] said h = subst IsSayable (the_said Blank said h) tt
worded (command ∷ words) said h =
    by_command words (bytes_eq command (codes "report")) (bytes_eq command (codes "lock")) (bytes_eq command (codes "free")) (bytes_eq command (codes "leave")) (bytes_eq command (codes "yield")) (bytes_eq command (codes "ask"))
    (bytes_eq command (codes "state")) (bytes_eq command (codes "scene")) said h

pub read_is_sayable : (line : List ℕ) (said : SessionLine) → parse_session line ≡ Ok said → IsSayable said
read_is_sayable line said h =
    let found = bound (request_words line) (λ words. option_map_or words_line words (Ok Blank)) said h in
    by_words found.0 found.2
  where
    by_words : (found : Option (List (List ℕ))) → option_map_or words_line found (Ok Blank) ≡ Ok said → IsSayable said
    by_words None e = subst IsSayable (the_said Blank said e) tt
    by_words (Some words) e = worded words said e
