-- The clock of a file's past is one.
use Rattle.std.proofs.Common.{inl, inr, ℕ, ◌+◌, ◌≤◌, List, arith}
use Rattle.rbc_journal_file.specs.declared.past.Past.{Past}
use Rattle.rbc_journal_file.specs.declared.past.Past.TheVariants.{Opened, Wrote', Synced', Replaced'}
use Rattle.rbc_journal_file.specs.Past.{may_leave, moment, left_since}

pub counts_now : (past : Past) (t : ℕ) (c : List ℕ) → t ≤ moment past → may_leave past c → left_since past t c
counts_now (Opened bytes) t c le now = now
counts_now (Wrote' m past at bytes is_done) t c le now = inl now
counts_now (Replaced' m past bytes is_done) t c le now = inl now
counts_now (Synced' m past is_done) t c le now = inl now

too_late : {P : Type 0} (n : ℕ) → n + 1 ≤ n → P
too_late n le = absurd (omega arith)

pub only_now : (past : Past) (c : List ℕ) → left_since past (moment past) c → may_leave past c
only_now (Opened bytes) c left = left
only_now (Wrote' m past at bytes is_done) c (inl now) = now
only_now (Wrote' m past at bytes is_done) c (inr earlier) = too_late (moment past) earlier.0
only_now (Replaced' m past bytes is_done) c (inl now) = now
only_now (Replaced' m past bytes is_done) c (inr earlier) = too_late (moment past) earlier.0
only_now (Synced' m past is_done) c (inl now) = now
only_now (Synced' m past is_done) c (inr earlier) = too_late (moment past) earlier.0
