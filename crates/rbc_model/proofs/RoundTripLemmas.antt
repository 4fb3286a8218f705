-- Reading a message undoes writing it, and takes nothing else: each authority has one spelling.
use Rattle.std.proofs.Common.{◌≡◌, ℕ, zero, suc, ◌-◌, ◌*◌, ◌/◌, ◌<◌, ◌^◌, Bool, true, false, List, [], ◌∷◌, ◌++◌, length, replicate, refl, arith, subst, sym, ap, ap₂, ◌∙◌, length-append, nat_le, ◌==◌, if◌then◌else◌, Result, Ok, Err, pow_pos}
use Rattle.std.proofs.lemmas.Bool.{leb-false, lt-leb, eqb-true}
use Rattle.std.proofs.lemmas.List.{length-replicate, append-nil}
use Rattle.rbc_model.specs.declared.places.Format.{Format}
use Rattle.rbc_model.specs.declared.places.Format.TheVariants.{Far}
use Rattle.rbc_model.specs.declared.messages.Fault.{Fault}
use Rattle.rbc_model.specs.declared.messages.Fault.TheVariants.{Length, Padding}
use Rattle.rbc_model.specs.Scales.{unit_of}
use Rattle.rbc_model.specs.Bits.{number_of, byte_bits, bytes_of, byte_count, padded_bits, IsBytes}
use Rattle.rbc_model.specs.Messages.{Authority, IsAuthority, direction_of, packet_15, packet_21, packet_27, message_length, message_3, message_bytes}
use Rattle.rbc_model.specs.Reading.{header_at, packet_15_at, packet_21_at, packet_27_at, filling_at, authority_at, value_of, read_message, RoundTrip}
use Rattle.rbc_model.proofs.BitLemmas.{byte_bits-bytes_of, bytes_of-byte_bits}
use Rattle.rbc_model.proofs.SpellingLemmas.{go_on}
use Rattle.rbc_model.proofs.FrameLemmas.{frame_of_end}
use Rattle.rbc_model.proofs.FieldRowLemmas.{Row, spelled, spelled_row, rows, came_by, the_answer}
use Rattle.rbc_model.proofs.MessageSizeLemmas.{said_3, length-said_3, length-byte_bits}
use Rattle.rbc_model.proofs.MessageWrittenLemmas.{header-written, packet_15-written, packet_21-written, packet_27-written}
use Rattle.rbc_model.proofs.MessageReadLemmas.{header-read, packet_15-read, packet_21-read, packet_27-read}

-- ---- the filling

number_of_zeros : (n : ℕ) → number_of (replicate n false) ≡ 0
number_of_zeros zero = refl
number_of_zeros (suc n) = let more = number_of_zeros n in omega arith

zeros_of_number : (bits : List Bool) → number_of bits ≡ 0 → bits ≡ replicate (length bits) false
zeros_of_number [] h = refl
zeros_of_number (true ∷ bits) h = let some = pow_pos (length bits) in absurd (omega arith)
zeros_of_number (false ∷ bits) h = ap (λ later. false ∷ later) (zeros_of_number bits (omega arith))

record IsFilling (bits : List Bool) : Type 0 where
  short : length bits < 8
  none : number_of bits ≡ 0

filling-written : (bits : List Bool) → IsFilling bits → filling_at bits ≡ Ok (tt, [])
filling-written bits fill = rw (lt-leb 8 (length bits) fill.short, fill.none) refl

abbrev filling_by : Bool → Bool → Result (Unit {0} × List Bool) Fault
filling_by long none = if long then Err Length else if none then Ok (tt, []) else Err Padding

filling_said : (long none : Bool) {x : Unit {0}} {rest : List Bool} → filling_by long none ≡ Ok (x, rest) → (long ≡ false) × (none ≡ true)
filling_said true none h = absurd cc
filling_said false true h = (refl, refl)
filling_said false false h = absurd cc

filling-read : (bits : List Bool) {x : Unit {0}} {rest : List Bool} → filling_at bits ≡ Ok (x, rest) → IsFilling bits
filling-read bits h =
    let tests = filling_said (nat_le 8 (length bits)) (number_of bits == 0) h in
    record { short = leb-false 8 (length bits) tests.0; none = eqb-true (number_of bits) 0 tests.1 }

-- ---- the whole message, written and read

pub nominal_said : (nominal : Bool) → (direction_of nominal == 1) ≡ nominal
nominal_said true = refl
nominal_said false = refl

message_short : {format : Format} (a : Authority) → IsAuthority format a → message_length a < 2 ^ 10
message_short a is = let grades = is.grades.few in let speeds = is.speeds.few in omega arith

no_fields : (later : List Bool) → spelled [] ++ later ≡ later
unfolding spelled
no_fields later = refl

message-written : {format : Format} (a : Authority) {bits filling : List Bool} → IsAuthority format a → IsFilling filling → Row (message_3 a) bits filling → authority_at format (message_length a) bits ≡ Ok (a, [])
message-written {format} a {bits} {filling} is fill r =
    let f = frame_of_end format a.end is.end in
    let p21 = packet_21 a.nominal a.end a.grades in
    let p27 = packet_27 a.nominal a.end a.speeds in
    go_on _ (header-written (message_length a) a.time a.group (packet_15 a.nominal a.end ++ p21 ++ p27) (message_short a is) is.time is.country is.number r)
    (go_on _ (packet_15-written format a.nominal a.end (p21 ++ p27) f (spelled_row (packet_15 a.nominal a.end ++ p21 ++ p27) filling))
    (go_on _ (packet_21-written a.nominal a.end a.grades p27 f is.grades (spelled_row (p21 ++ p27) filling))
    (go_on _ (packet_27-written a.nominal a.end a.speeds [] f is.speeds (subst (λ fields. Row fields (spelled p27 ++ filling) filling) (sym (append-nil p27)) (spelled_row p27 filling)))
    (go_on _ (ap filling_at (no_fields filling) ∙ filling-written filling fill)
    (ap₂ (λ nominal end. Ok (record { time = a.time; group = a.group; nominal = nominal; end = end; speeds = a.speeds; grades = a.grades }, []))
    (nominal_said a.nominal) (ap (λ unit. unit * (a.end / unit_of a.end)) f.unit_is ∙ f.end_is))))))

record IsReadMessage (format : Format) (bytes : ℕ) (a : Authority) (bits : List Bool) : Type 0 where
  legal : IsAuthority format a
  filling : List Bool
  fill : IsFilling filling
  row_is : Row (said_3 bytes a) bits filling

message-read : (format : Format) (bytes : ℕ) (bits : List Bool) {a : Authority} {rest : List Bool} → authority_at format bytes bits ≡ Ok (a, rest) → IsReadMessage format bytes a bits
message-read format bytes bits {a} {rest} h =
    came_by (header_at bytes bits) _ h (λ head b1 read1 h.
    came_by (packet_15_at format b1) _ h (λ frame b2 read2 h.
    came_by (packet_21_at frame b2) _ h (λ grades b3 read3 h.
    came_by (packet_27_at frame b3) _ h (λ speeds b4 read4 h.
    came_by (filling_at b4) _ h (λ x b5 read5 h.
    let answered = the_answer h in
    let start = header-read bytes bits read1 in
    let p15 = packet_15-read format b1 read2 in
    let p21 = packet_21-read frame p15 b2 read3 in
    let p27 = packet_27-read frame p15 b3 read4 in
    subst (λ x. IsReadMessage format bytes x bits) answered.0 (record {
      legal = record { time = start.time; country = start.country; number = start.number; end = p15.framed.expressible; speeds = p27.profile; grades = p21.profile };
      filling = b4;
      fill = filling-read b4 read5;
      row_is = rows start.row_is (rows p15.row_is (rows p21.row_is p27.row_is));
    }))))))

-- ---- bytes

-- zeros up to a whole byte
abbrev pub zeros_behind : List Bool → List Bool
zeros_behind bits = replicate (8 * byte_count (length bits) - length bits) false

zeros-filling : (bits : List Bool) → IsFilling (zeros_behind bits)
zeros-filling bits =
    let count = 8 * byte_count (length bits) - length bits in
    let long = length-replicate count false in
    record { short = omega arith; none = number_of_zeros count }

pub length-padded_bits : (bits : List Bool) → length (padded_bits bits) ≡ 8 * byte_count (length bits)
length-padded_bits bits =
    let long = length-replicate (8 * byte_count (length bits) - length bits) false in
    let both = length-append bits (zeros_behind bits) in
    omega arith

pub byte_bits-padded : (bits : List Bool) → byte_bits (bytes_of (padded_bits bits)) ≡ padded_bits bits
byte_bits-padded bits = byte_bits-bytes_of (padded_bits bits) (let long = length-padded_bits bits in omega arith)

pub length-bytes_of_padded : (bits : List Bool) → length (bytes_of (padded_bits bits)) ≡ byte_count (length bits)
length-bytes_of_padded bits =
    let long = length-padded_bits bits in
    let same = ap length (byte_bits-padded bits) in
    let eight = length-byte_bits (bytes_of (padded_bits bits)) in
    omega arith

-- whole bytes' bits that end with a filling are the padded ones
padded_of_filling : (bytes : List ℕ) (bits filling : List Bool) → byte_bits bytes ≡ bits ++ filling → IsFilling filling → (length bytes ≡ byte_count (length bits)) × (byte_bits bytes ≡ padded_bits bits)
padded_of_filling bytes bits filling e fill =
    let eight = length-byte_bits bytes in
    let both = length-append bits filling in
    let same = ap length e in
    let short = fill.short in
    let count : length filling ≡ 8 * byte_count (length bits) - length bits = omega arith in
    (omega arith, e ∙ ap (λ xs. bits ++ xs) (zeros_of_number filling fill.none ∙ ap (λ n. replicate n false) count))

-- ---- both ways

pub spelled_bytes : (a : Authority) → message_bytes a ≡ bytes_of (padded_bits (spelled (message_3 a)))
unfolding spelled
spelled_bytes a = refl

value_said : (t : Result (Authority × List Bool) Fault) {a : Authority} → value_of t ≡ Ok a → (rest : List Bool) × (t ≡ Ok (a, rest))
value_said (Ok (x, rest)) h = (rest, cc)
value_said (Err fault) h = absurd cc

written_is_read : (format : Format) (a : Authority) → IsAuthority format a → read_message format (message_bytes a) ≡ Ok a
written_is_read format a is =
    let bits = spelled (message_3 a) in
    let long : length (bytes_of (padded_bits bits)) ≡ message_length a = length-bytes_of_padded bits ∙ ap byte_count (length-said_3 (message_length a) a is) in
    ap (read_message format) (spelled_bytes a)
    ∙ ap (λ n. value_of (authority_at format n (byte_bits (bytes_of (padded_bits bits))))) long
    ∙ ap value_of (message-written a is (zeros-filling bits) (record { is = byte_bits-padded bits }))

read_was_written : (format : Format) (bytes : List ℕ) (a : Authority) → IsBytes bytes → read_message format bytes ≡ Ok a → IsAuthority format a × (bytes ≡ message_bytes a)
read_was_written format bytes a are h =
    let answered = value_said (authority_at format (length bytes) (byte_bits bytes)) h in
    let was = message-read format (length bytes) (byte_bits bytes) answered.1 in
    let first = padded_of_filling bytes (spelled (said_3 (length bytes) a)) was.filling was.row_is.is was.fill in
    let count : length bytes ≡ message_length a = first.0 ∙ ap byte_count (length-said_3 (length bytes) a was.legal) in (
      was.legal,
      sym (bytes_of-byte_bits bytes are)
          ∙ ap bytes_of first.1
          ∙ ap (λ n. bytes_of (padded_bits (spelled (said_3 n a)))) count
          ∙ sym (spelled_bytes a),
    )

-- for either format
pub round_trip : (format : Format) → RoundTrip format
round_trip format bytes a are = (
  read_was_written format bytes a are,
  λ h. subst (λ b. read_message format b ≡ Ok a) (sym h.1) (written_is_read format a h.0),
)

pub round_trip_far : RoundTrip Far
round_trip_far = round_trip Far
