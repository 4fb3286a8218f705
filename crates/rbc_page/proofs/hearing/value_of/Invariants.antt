use Rattle.std.proofs.Common.{◌≡◌, map, drop}
use Rattle.httparse.specs.Spans.{header_bytes}
use Rattle.rbc_page.specs.Hearing.{value_in}
use Rattle.rbc_page.proofs.hearing.value_of.Given as goal

-- The fields so far have other names.
abbrev pub invariant-loop-field : goal.invariant-loop-field
invariant-loop-field l = value_in l.name (map (header_bytes l.bytes) (drop l.field-index l.fields)) ≡ value_in l.name (map (header_bytes l.bytes) l.fields)
