-- The report that a line tells is one, and its version has at most ten digits.
use Rattle.std.proofs.Common.{◌≡◌, ℕ, ◌<◌, ◌≤◌, ◌^◌, ◌&&◌, Bool, true, false, ◌==◌, cond, List, [], ◌∷◌, length, nat_le, Option, Some, None, Result, Ok, Err, ℤ, refl, sym, ap, ◌∙◌, subst, bytes_eq, codes}
use Rattle.std.specs.Char.{is_ascii_digit}
use Rattle.std.specs.List.{after_first, before_first, list_all}
use Rattle.std.specs.Option.{ok_or}
use Rattle.std.specs.Str.Parse.{digits_value}
use Rattle.std.proofs.lemmas.Bool.{and_from, le-leb, leb-true}
use Rattle.std.proofs.lemmas.Str.Parse.{IsDigitsTest, digits_value_short, numerals_by_value}
use Rattle.rbc_model.specs.declared.limits.TheConstants.{FARTHEST_REPORT, LAST_COUNTRY, LAST_GROUP, LAST_TIME, LAST_TRAIN, LONGEST_TRAIN, MOST_DOUBT}
use Rattle.rbc_model.specs.declared.refusals.LineFault.{LineFault}
use Rattle.rbc_model.specs.declared.refusals.LineFault.TheVariants.{Command, Name, Number, Words}
use Rattle.rbc_model.specs.Results.{allowed_value, demand, is_from_to, ◌>>=◌, ◌>>◌}
use Rattle.rbc_model.specs.GroupNames.{GroupName, IsGroupName}
use Rattle.rbc_model.specs.Reports.{Report, IsReport}
use Rattle.rbc_model.specs.RequestText.{line_in, number_at}
use Rattle.rbc_model.specs.Rows.{Row, each_word}
use Rattle.rbc_model.specs.SceneLines.{row_in, track_leg_at, track_leg_or_none_at}
use Rattle.rbc_model.specs.SessionText.{group_at, nominal_at, report_in, train_at}
use Rattle.rbc_model.specs.Tracks.{Track}
use Rattle.rbc_model.specs.Words.{is_numeral, number_in}
use Rattle.rbc_model.proofs.CountingLemmas.{both_of}
use Rattle.rbc_scene_laws.proofs.BasicLemmas.{the_some}
use Rattle.rbc_model.proofs.SaidLineLemmas.{allowed, bound}
use Rattle.rbc_scene_words.specs.SceneLine.{SceneLine, Version, Locked, Reported, Along, More, Stands, Holds, Next, Done, along_in, count_spelled, distance_spelled, distances_in, done_in, is_close, locked_in, more_in, number_spelled, parse_scene_line, report_spelled, reported_in, route_at, scene_line_in, train_spelled, version_in}
use Rattle.rbc_scene_reading.proofs.KeptLemmas.{IsSaid}

-- ---- a report's numbers

in_range : (low high : ℕ) (fault : LineFault) (word : List ℕ) (n : ℕ) → allowed_value (is_from_to low high) fault (number_in word) ≡ Ok n → (low ≤ n) × (n ≤ high)
in_range low high fault word n h =
    let b = both_of (nat_le low n) (nat_le n high) (allowed (is_from_to low high) fault (number_in word) n h) in
    (leb-true low n b.0, leb-true n high b.1)

the_ok : {A : Type 0} (x y : A) → (let r : Result A LineFault = Ok x in r) ≡ Ok y → x ≡ y
the_ok x y h = cc

group_of : (word : List ℕ) (group : GroupName) → group_at 3 word ≡ Ok group → IsGroupName group
group_of word group h =
    let last : ℕ → ℕ → Result GroupName LineFault = λ country number. Ok (record { country = country; number = number }) in
    let a = bound (allowed_value (is_from_to 0 LAST_COUNTRY) (Name 3) (number_in (before_first (λ byte. byte == 47) word)))
    (λ country. allowed_value (is_from_to 0 LAST_GROUP) (Name 3) (number_in (after_first (λ byte. byte == 47) word)) >>= last country) group h in
    let b = bound (allowed_value (is_from_to 0 LAST_GROUP) (Name 3) (number_in (after_first (λ byte. byte == 47) word))) (last a.0) group a.2 in
    subst IsGroupName (the_ok (record { country = a.0; number = b.0 }) group b.2)
    (record {
      country = (in_range 0 LAST_COUNTRY (Name 3) (before_first (λ byte. byte == 47) word) a.0 a.1).1;
      number = (in_range 0 LAST_GROUP (Name 3) (after_first (λ byte. byte == 47) word) b.0 b.1).1;
    })

is_report : (words : List (List ℕ)) (report : Report) → report_in words ≡ Ok report → IsReport report
is_report [] report h = absurd (let never : ⊥ = cc in never)
is_report (a ∷ []) report h = absurd (let never : ⊥ = cc in never)
is_report (a ∷ b ∷ []) report h = absurd (let never : ⊥ = cc in never)
is_report (a ∷ b ∷ c ∷ []) report h = absurd (let never : ⊥ = cc in never)
is_report (a ∷ b ∷ c ∷ d ∷ []) report h = absurd (let never : ⊥ = cc in never)
is_report (a ∷ b ∷ c ∷ d ∷ e ∷ []) report h = absurd (let never : ⊥ = cc in never)
is_report (a ∷ b ∷ c ∷ d ∷ e ∷ f ∷ []) report h = absurd (let never : ⊥ = cc in never)
is_report (a ∷ b ∷ c ∷ d ∷ e ∷ f ∷ g ∷ []) report h = absurd (let never : ⊥ = cc in never)
is_report (a ∷ b ∷ c ∷ d ∷ e ∷ f ∷ g ∷ i ∷ j ∷ more) report h = absurd (let never : ⊥ = cc in never)
is_report (train ∷ group ∷ direction ∷ distance ∷ over ∷ under ∷ length ∷ time ∷ []) report h =
    let last : ℕ → GroupName → Bool → ℕ → ℕ → ℕ → ℕ → ℕ → Report = λ train group nominal distance over under length time.
    record { train = train; group = group; nominal = nominal; distance = distance; over = over; under = under; length = length; time = time } in
    let at8 : ℕ → GroupName → Bool → ℕ → ℕ → ℕ → ℕ → Result Report LineFault = λ t g n d o u l. number_at 9 0 LAST_TIME time >>= (λ time. Ok (last t g n d o u l time)) in
    let at7 : ℕ → GroupName → Bool → ℕ → ℕ → ℕ → Result Report LineFault = λ t g n d o u. number_at 8 1 LONGEST_TRAIN length >>= (λ l. at8 t g n d o u l) in
    let at6 : ℕ → GroupName → Bool → ℕ → ℕ → Result Report LineFault = λ t g n d o. number_at 7 0 MOST_DOUBT under >>= (λ u. at7 t g n d o u) in
    let at5 : ℕ → GroupName → Bool → ℕ → Result Report LineFault = λ t g n d. number_at 6 0 MOST_DOUBT over >>= (λ o. at6 t g n d o) in
    let at4 : ℕ → GroupName → Bool → Result Report LineFault = λ t g n. number_at 5 0 FARTHEST_REPORT distance >>= (λ d. at5 t g n d) in
    let at3 : ℕ → GroupName → Result Report LineFault = λ t g. nominal_at 4 direction >>= (λ n. at4 t g n) in
    let at2 : ℕ → Result Report LineFault = λ t. group_at 3 group >>= (λ g. at3 t g) in
    let t = bound (train_at 2 train) at2 report h in
    let g = bound (group_at 3 group) (at3 t.0) report t.2 in
    let n = bound (nominal_at 4 direction) (at4 t.0 g.0) report g.2 in
    let d = bound (number_at 5 0 FARTHEST_REPORT distance) (at5 t.0 g.0 n.0) report n.2 in
    let o = bound (number_at 6 0 MOST_DOUBT over) (at6 t.0 g.0 n.0 d.0) report d.2 in
    let u = bound (number_at 7 0 MOST_DOUBT under) (at7 t.0 g.0 n.0 d.0 o.0) report o.2 in
    let l = bound (number_at 8 1 LONGEST_TRAIN length) (at8 t.0 g.0 n.0 d.0 o.0 u.0) report u.2 in
    let i = bound (number_at 9 0 LAST_TIME time) (λ time. Ok (last t.0 g.0 n.0 d.0 o.0 u.0 l.0 time)) report l.2 in
    subst IsReport (the_ok (last t.0 g.0 n.0 d.0 o.0 u.0 l.0 i.0) report i.2)
    (record {
      some_train = (in_range 1 LAST_TRAIN (Number 2) train t.0 t.1).0;
      train = (in_range 1 LAST_TRAIN (Number 2) train t.0 t.1).1;
      group = group_of group g.0 g.1;
      distance = (in_range 0 FARTHEST_REPORT (Number 5) distance d.0 d.1).1;
      over = (in_range 0 MOST_DOUBT (Number 6) over o.0 o.1).1;
      under = (in_range 0 MOST_DOUBT (Number 7) under u.0 u.1).1;
      some_length = (in_range 1 LONGEST_TRAIN (Number 8) length l.0 l.1).0;
      length = (in_range 1 LONGEST_TRAIN (Number 8) length l.0 l.1).1;
      time = (in_range 0 LAST_TIME (Number 9) time i.0 i.1).1;
    })

-- ---- a number of at most ten digits

AreDigits : List ℕ → Type 0
AreDigits word = list_all is_ascii_digit word ≡ true

digit_test : IsDigitsTest AreDigits
unfolding AreDigits
digit_test = record {
  empty = refl;
  parts = λ byte word h.
      let b = both_of (is_ascii_digit byte) (list_all is_ascii_digit word) h in
      let r = both_of (nat_le 48 byte) (nat_le byte 57) b.0 in
      ((leb-true 48 byte r.0, leb-true byte 57 r.1), b.1);
  more = λ byte word r h.
      and_from (is_ascii_digit byte) (list_all is_ascii_digit word) (and_from (nat_le 48 byte) (nat_le byte 57) (le-leb 48 byte r.0) (le-leb byte 57 r.1)) h;
}

number_small : (word : List ℕ) (n : ℕ) → number_in word ≡ Some n → n < 10 ^ 10
unfolding AreDigits
number_small word n h = by_numeral (is_numeral word) refl h
  where
    by_numeral : (t : Bool) → is_numeral word ≡ t → cond t (Some (digits_value 10 word)) None ≡ Some n → n < 10 ^ 10
    by_numeral true e g =
        let size = nat_le 1 (length word) && nat_le (length word) 10 in
        let b = both_of size (list_all is_ascii_digit word) e in
        let short = leb-true (length word) 10 (both_of (nat_le 1 (length word)) (nat_le (length word) 10) b.0).1 in
        subst (λ m. m < 10 ^ 10) (the_some (digits_value 10 word) n g) (digits_value_short (numerals_by_value AreDigits digit_test) word 10 b.1 short)
    by_numeral false e g = absurd (let never : ⊥ = cc in never)

count_small : (word : List ℕ) (n : ℕ) → count_spelled 2 word ≡ Ok n → n < 10 ^ 10
count_small word n h =
    let a = bound (ok_or (number_in word) (Number 2)) (λ count. number_spelled 2 word count >>= (λ done. Ok count)) n h in
    let b = bound (number_spelled 2 word a.0) (λ done. Ok a.0) n a.2 in
    subst (λ m. m < 10 ^ 10) (the_ok a.0 n b.2) (number_small word a.0 (there (number_in word) a.0 a.1))
  where
    there : (o : Option ℕ) (x : ℕ) → ok_or o (Number 2) ≡ Ok x → o ≡ Some x
    there None x e = absurd (let never : ⊥ = cc in never)
    there (Some y) x e = let same : y ≡ x = cc in ap Some same

-- ---- a line

is_line : (line said : SceneLine) → IsSaid line → (let r : Result SceneLine LineFault = Ok line in r) ≡ Ok said → IsSaid said
is_line line said is h = subst IsSaid (the_ok line said h) is

version_said : (words : Row) (said : SceneLine) → version_in words ≡ Ok said → IsSaid said
version_said [] said h = absurd (let never : ⊥ = cc in never)
version_said (version ∷ []) said h = by_count (count_spelled 2 version) refl h
  where
    by_count : (r : Result ℕ LineFault) → count_spelled 2 version ≡ r → line_in Version r ≡ Ok said → IsSaid said
    by_count (Ok count) e g = is_line (Version count) said (count_small version count e) g
    by_count (Err fault) e g = absurd (let never : ⊥ = cc in never)
version_said (a ∷ b ∷ words) said h = absurd (let never : ⊥ = cc in never)

locked_said : (track : Track) (words : Row) (said : SceneLine) → locked_in track words ≡ Ok said → IsSaid said
locked_said track [] said h = absurd (let never : ⊥ = cc in never)
locked_said track (a ∷ []) said h = absurd (let never : ⊥ = cc in never)
locked_said track (a ∷ b ∷ []) said h = absurd (let never : ⊥ = cc in never)
locked_said track (leg ∷ route ∷ before ∷ []) said h =
    let b = bound (track_leg_at track 2 leg) (λ leg. route_at track route >>= (λ route. track_leg_or_none_at track 4 before >>= (λ before. Ok (Locked leg route before)))) said h in
    let c = bound (route_at track route) (λ route. track_leg_or_none_at track 4 before >>= (λ before. Ok (Locked b.0 route before))) said b.2 in
    let d = bound (track_leg_or_none_at track 4 before) (λ before. Ok (Locked b.0 c.0 before)) said c.2 in
    is_line (Locked b.0 c.0 d.0) said tt d.2
locked_said track (a ∷ b ∷ c ∷ d ∷ words) said h = absurd (let never : ⊥ = cc in never)

along_said : (track : Track) (words : Row) (said : SceneLine) → along_in track words ≡ Ok said → IsSaid said
along_said track [] said h = absurd (let never : ⊥ = cc in never)
along_said track (a ∷ []) said h = absurd (let never : ⊥ = cc in never)
along_said track (train ∷ origin ∷ words) said h =
    let b = bound (train_spelled train) (λ train. count_spelled 3 origin >>= (λ origin. each_word (track_leg_at track) 4 words >>= (λ legs. Ok (Along train origin legs)))) said h in
    let c = bound (count_spelled 3 origin) (λ origin. each_word (track_leg_at track) 4 words >>= (λ legs. Ok (Along b.0 origin legs))) said b.2 in
    let d = bound (each_word (track_leg_at track) 4 words) (λ legs. Ok (Along b.0 c.0 legs)) said c.2 in
    is_line (Along b.0 c.0 d.0) said tt d.2

more_said : (track : Track) (words : Row) (said : SceneLine) → more_in track words ≡ Ok said → IsSaid said
more_said track [] said h = absurd (let never : ⊥ = cc in never)
more_said track (train ∷ words) said h =
    let b = bound (train_spelled train) (λ train. each_word (track_leg_at track) 3 words >>= (λ legs. Ok (More train legs))) said h in
    let c = bound (each_word (track_leg_at track) 3 words) (λ legs. Ok (More b.0 legs)) said b.2 in
    is_line (More b.0 c.0) said tt c.2

distances_said : (say : ℕ → ℤ → ℤ → SceneLine) → ((train : ℕ) (low high : ℤ) → IsSaid (say train low high)) → (words : Row) (said : SceneLine) → distances_in say words ≡ Ok said → IsSaid said
distances_said say is [] said h = absurd (let never : ⊥ = cc in never)
distances_said say is (a ∷ []) said h = absurd (let never : ⊥ = cc in never)
distances_said say is (a ∷ b ∷ []) said h = absurd (let never : ⊥ = cc in never)
distances_said say is (train ∷ low ∷ high ∷ []) said h =
    let b = bound (train_spelled train) (λ train. distance_spelled 3 low >>= (λ low. distance_spelled 4 high >>= (λ high. Ok (say train low high)))) said h in
    let c = bound (distance_spelled 3 low) (λ low. distance_spelled 4 high >>= (λ high. Ok (say b.0 low high))) said b.2 in
    let d = bound (distance_spelled 4 high) (λ high. Ok (say b.0 c.0 high)) said c.2 in
    is_line (say b.0 c.0 d.0) said (is b.0 c.0 d.0) d.2
distances_said say is (a ∷ b ∷ c ∷ d ∷ words) said h = absurd (let never : ⊥ = cc in never)

reported_said : (words : Row) (said : SceneLine) → reported_in words ≡ Ok said → IsSaid said
reported_said words said h =
    let b = bound (report_in words) (λ report. report_spelled words report >>= (λ done. Ok (Reported report))) said h in
    let c = bound (report_spelled words b.0) (λ done. Ok (Reported b.0)) said b.2 in
    is_line (Reported b.0) said (is_report words b.0 b.1) c.2

done_said : (words : Row) (said : SceneLine) → done_in words ≡ Ok said → IsSaid said
done_said [] said h = is_line Done said tt h
done_said (a ∷ words) said h = absurd (let never : ⊥ = cc in never)

by_test : {P : Type 0} (b : Bool) → (b ≡ true → P) → (b ≡ false → P) → P
by_test true f g = f refl
by_test false f g = g refl

-- the words of a line
words_said : (track : Track) (words : Row) (said : SceneLine) → scene_line_in track words ≡ Ok said → IsSaid said
words_said track [] said h = absurd (let never : ⊥ = cc in never)
words_said track (word ∷ words) said h =
    by_test (bytes_eq word (codes "scene")) (λ e. let is : Reads (version_in words) = rw e refl in version_said words said (sym is ∙ h)) (λ n0.
    by_test (bytes_eq word (codes "locked")) (λ e. let is : Reads (locked_in track words) = rw (n0, e) refl in locked_said track words said (sym is ∙ h)) (λ n1.
    by_test (bytes_eq word (codes "train")) (λ e. let is : Reads (reported_in words) = rw (n0, n1, e) refl in reported_said words said (sym is ∙ h)) (λ n2.
    by_test (bytes_eq word (codes "line")) (λ e. let is : Reads (along_in track words) = rw (n0, n1, n2, e) refl in along_said track words said (sym is ∙ h)) (λ n3.
    by_test (bytes_eq word (codes "along")) (λ e. let is : Reads (more_in track words) = rw (n0, n1, n2, n3, e) refl in more_said track words said (sym is ∙ h)) (λ n4.
    by_test (bytes_eq word (codes "stands")) (λ e. let is : Reads (distances_in Stands words) = rw (n0, n1, n2, n3, n4, e) refl in distances_said Stands (λ train low high. tt) words said (sym is ∙ h)) (λ n5.
    by_test (bytes_eq word (codes "holds")) (λ e. let is : Reads (distances_in Holds words) = rw (n0, n1, n2, n3, n4, n5, e) refl in distances_said Holds (λ train low high. tt) words said (sym is ∙ h)) (λ n6.
    by_test (bytes_eq word (codes "next")) (λ e. let is : Reads (Ok Next) = rw (n0, n1, n2, n3, n4, n5, n6, e) refl in is_line Next said tt (sym is ∙ h)) (λ n7.
    by_test (bytes_eq word (codes "done")) (λ e. let is : Reads (done_in words) = rw (n0, n1, n2, n3, n4, n5, n6, n7, e) refl in done_said words said (sym is ∙ h)) (λ n8.
    let is : Reads (Err Command) = rw (n0, n1, n2, n3, n4, n5, n6, n7, n8) refl in absurd (no_line (sym is ∙ h)))))))))))
  where
    Reads : Result SceneLine LineFault → Type 0
    Reads answer = scene_line_in track (word ∷ words) ≡ answer

    no_line : (let r : Result SceneLine LineFault = Err Command in r) ≡ Ok said → ⊥
    no_line e = cc

pub parsed_said : (track : Track) (line : List ℕ) (said : SceneLine) → parse_scene_line track line ≡ Ok said → IsSaid said
parsed_said track line said h =
    let a = bound (row_in line) (λ words. demand (is_close true line) Words >> scene_line_in track words) said h in
    let u : Result (Unit {0}) LineFault = demand (is_close true line) Words in
    let b = bound u (λ done. scene_line_in track a.0) said a.2 in
    words_said track a.0 said b.2
