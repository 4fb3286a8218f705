use Rattle.std.proofs.Common.{◌≡◌, ℕ, ◌+◌, ◌≤◌, List, ◌++◌, length, take, Option, ap, ◌∙◌, arith, length-append}
use Rattle.std.specs.Io.KnownBytes.{Consumes}
use Rattle.std.proofs.KnownBytes.{Consumes-trans}
use Rattle.std.proofs.lemmas.List.{length-take-le}
use Rattle.rbc_streams.proofs.whole.read_whole.Goals as goal

-- what was taken with one more piece
with_piece : (first before after : Option (List ℕ)) (front buffer : List ℕ) (count : ℕ) → count ≤ length buffer
    → Consumes first before front → Consumes before after (take count buffer)
    → (taken : List ℕ) × Consumes first after taken × (length taken ≡ length front + count)
with_piece first before after front buffer count within so_far more = (
  front ++ take count buffer,
  Consumes-trans first before after front (take count buffer) so_far more,
  length-append front (take count buffer) ∙ ap (λ n. length front + n) (length-take-le count buffer within),
)

pub returns-then-count-most-clause-too_long : goal.returns-then-count-most-clause-too_long
returns-then-count-most-clause-too_long g c e =
    let read = c.in_ok-count.ensures in
    let all = with_piece _ _ (g.R.Source.left c.read.new.self) c.loop-bytes.bytes.items c.read.new.buffer
    c.in_ok-count.count read.bound c.loop-bytes.invariant.so_far read.bytes.0 in
    (all.0, all.1, omega (arith, all.2))

pub returns-in_err-append-clause-memory : goal.returns-in_err-append-clause-memory
returns-in_err-append-clause-memory g c e =
    let read = c.in_ok-count.ensures in
    let all = with_piece _ _ (g.R.Source.left c.read.new.self) c.loop-bytes.bytes.items c.read.new.buffer
    c.in_ok-count.count read.bound c.loop-bytes.invariant.so_far read.bytes.0 in
    (all.0, all.1, omega (arith, all.2), omega (arith, all.2))
