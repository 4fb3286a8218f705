-- What a journal file of format 2 is read as.
use Rattle.std.specs.Prelude.{ℕ, ◌+◌, Bool, false, List, [], ◌∷◌, ◌++◌, length, drop, Option, Some, None, Result, Ok, Err, nat_lt, bytes_eq, if◌then◌else◌, ◌&&◌, ◌||◌, ◌==◌, not}
use Rattle.std.specs.List.{list_any}
use Rattle.rbc_journal.specs.Gates.{text, counted, at_rest}
use Rattle.rbc_journal.specs.Seals.{Chain, chain_of, has_seal_form, is_comment, seal_line, seal_of}
use Rattle.rbc_journal.specs.Headers.{format_in, digest_in}
use Rattle.rbc_journal.specs.Marks.{begins_marked}
use Rattle.rbc_journal.specs.declared.reading.ReadFault.{ReadFault}
use Rattle.rbc_journal.specs.declared.reading.ReadFault.TheVariants.{NotAJournal, FirstFormat, OtherFormat, Damaged, OtherTrack}

-- The parts of a file from which a journal can go on: the text of the lines that count, their last seal, and what stands behind its closed gate.
-- That is nothing in a whole file; in one that was cut it is of a put that was never acknowledged, and is dropped.
pub record Parts : Type 0 where
  pub text : List ℕ
  pub seal : List ℕ
  pub dropped : List ℕ

-- ---- the bytes behind the last line that counts

-- these bytes, the first of which stands where a gate is due
abbrev pub tail_of : List ℕ → List ℕ
tail_of file = drop (length (text (counted file))) file

-- whether right seals vouch for all of these lines
abbrev pub is_whole : Chain → List (List ℕ) → Bool
is_whole chain lines = length chain.whole == length lines

-- the lines of the first put behind one with this seal, if its own seal is right; these lines of it were read
abbrev pub first_put : List ℕ → List (List ℕ) → List (List ℕ) → Option (List (List ℕ))
first_put seal put [] = None
first_put seal put (line ∷ lines) =
    if not (has_seal_form line) then first_put seal (put ++ line ∷ []) lines
    else if bytes_eq line (seal_line (seal_of seal put)) then Some (put ++ line ∷ [])
    else None

-- whether bytes begin with an open gate
abbrev pub begins_open : List ℕ → Bool
begins_open [] = false
begins_open (gate ∷ rest) = gate == 32

-- whether bytes begin with an open gate, and more stands behind it
abbrev pub opens_more : List ℕ → Bool
opens_more [] = false
opens_more (gate ∷ []) = false
opens_more (gate ∷ next ∷ rest) = gate == 32

-- whether a gate in front of this put was open before: the put is one of a beginning, or behind it stand an open gate and more
abbrev pub is_kept : List ℕ → Option (List (List ℕ)) → Bool
is_kept bytes None = false
is_kept bytes (Some put) = begins_marked put || opens_more (drop (length (text put)) bytes)

-- Whether bytes begin with a put whose seal is right, and it is one of a beginning, or has an open gate behind it, and more. No crash leaves that behind
-- a closed gate: a beginning came with its file, and nothing is written behind a put before the gate in front of it is open. An open gate that ends the
-- file is the closed one of a put that was being written, torn.
abbrev pub was_open : List ℕ → List ℕ → Bool
was_open seal bytes = is_kept bytes (first_put seal [] (counted bytes))

-- whether bytes are this put, which is none of a beginning, and a closed gate at their end
abbrev pub is_last : List ℕ → Option (List (List ℕ)) → Bool
is_last bytes None = false
is_last bytes (Some put) = not (begins_marked put) && bytes_eq bytes (at_rest put)

-- Whether bytes are one put whose seal is right, none of a beginning, and a closed gate at their end. Only before such bytes may a gate be torn: it was
-- being opened for that put.
abbrev pub ends_well : List ℕ → List ℕ → Bool
ends_well seal bytes = is_last bytes (first_put seal [] (counted bytes))

-- Whether a crash may leave this byte where a gate is due, and these bytes behind it, in which no put counts. Never an open gate: what was written
-- behind it was on the disk before it opened. Else the bytes are read as though it were open.
abbrev pub is_crash : List ℕ → ℕ → List ℕ → Bool
is_crash seal gate rest =
    if gate == 32 then false
    else if gate == 35 then not (was_open seal (32 ∷ rest))
    else ends_well seal (32 ∷ rest)

-- what is dropped: all that stands behind such a gate; None where the file is damaged, since no crash leaves one that ends where a gate is due
abbrev pub dropped_of : List ℕ → List ℕ → Option (List ℕ)
dropped_of seal [] = None
dropped_of seal (gate ∷ rest) = if is_crash seal gate rest then Some rest else None

-- ---- the file

-- lines, at least one, with no comment, and a closed gate at the end of the file: a journal of the format before this
abbrev pub is_first_format : List (List ℕ) → List ℕ → Bool
is_first_format lines tail = nat_lt 0 (length lines) && not (list_any is_comment lines) && bytes_eq tail (35 ∷ [])

-- of this track, or of another
abbrev pub of_track : List ℕ → List ℕ → Parts → Result Parts ReadFault
of_track track digest parts = if bytes_eq digest track then Ok parts else Err (OtherTrack digest)

-- the lines are all vouched for, and these bytes are dropped
abbrev pub by_end : List ℕ → List (List ℕ) → List ℕ → List ℕ → Option (List ℕ) → Result Parts ReadFault
by_end track lines digest seal None = Err (Damaged (length lines + 1))
by_end track lines digest seal (Some dropped) = of_track track digest (record { text = text lines; seal = seal; dropped = dropped })

-- the lines begin with a header that names this digest; damage is told as the first line of the put that can't be vouched for, counted from 1
abbrev pub by_chain : List ℕ → List (List ℕ) → List ℕ → Chain → List ℕ → Result Parts ReadFault
by_chain track lines tail chain digest =
    if is_whole chain lines then by_end track lines digest chain.seal (dropped_of chain.seal tail)
    else Err (Damaged (length chain.whole + 1))

abbrev pub by_header : List ℕ → List (List ℕ) → List ℕ → Option (List ℕ) → Result Parts ReadFault
by_header track lines tail None = Err (Damaged 1)
by_header track lines tail (Some digest) = by_chain track lines tail (chain_of lines) digest

abbrev pub by_format : List ℕ → List (List ℕ) → List ℕ → Option ℕ → Result Parts ReadFault
by_format track lines tail None = if is_first_format lines tail then Err FirstFormat else Err NotAJournal
by_format track lines tail (Some number) = if number == 2 then by_header track lines tail (digest_in lines) else Err (OtherFormat number)

-- what a file is read as, beside the digest of the track that is given
abbrev pub reading : List ℕ → List ℕ → Result Parts ReadFault
reading file track = by_format track (counted file) (tail_of file) (format_in (counted file))
