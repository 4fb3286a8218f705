use Rattle.std.proofs.Common.{◌≡◌, drop, ◌&&◌}
use Rattle.std.specs.Char.{is_ascii_hexdigit}
use Rattle.std.specs.List.{list_all}
use Rattle.rbc_decode.proofs.line.are_digits.Given as goal

-- the bytes so far are digits, and those to come are
abbrev pub invariant-loop-byte : goal.invariant-loop-byte
invariant-loop-byte l = l.are_digits && list_all is_ascii_hexdigit (drop l.byte-index l.word) ≡ list_all is_ascii_hexdigit l.word
