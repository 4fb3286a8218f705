use Rattle.std.proofs.Common.{◌≡◌, drop, nat_le, ◌&&◌}
use Rattle.std.specs.List.{list_all}
use Rattle.rbc_words.proofs.words.are_visible.Given as goal

-- the bytes so far are text, and those to come are
abbrev pub invariant-loop-byte : goal.invariant-loop-byte
invariant-loop-byte l =
    l.is_text && list_all (λ byte. nat_le 0x20 byte && nat_le byte 0x7e) (drop l.byte-index l.text)
    ≡ list_all (λ byte. nat_le 0x20 byte && nat_le byte 0x7e) l.text
