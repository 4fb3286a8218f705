use Rattle.std.proofs.Common.{ℕ, List, ◌∷◌, ◌++◌, [], ◌∙◌, sym, ap, append_assoc}
use Rattle.rbc_journal.specs.Gates.{counted}
use Rattle.rbc_journal.specs.Reading.{tail_of}
use Rattle.rbc_journal.proofs.HeaderLemmas.{next_split, next_none, with_comment}
use Rattle.rbc_journal.proofs.reading.is_first_format.Goals as goal

pub returns-then-is_comment : goal.returns-then-is_comment
returns-then-is_comment c =
    let i = c.loop-line.invariant in
    let e = c.in-Some.ensures in
    with_comment c.args.bytes.now (tail_of c.args.bytes.now) i.lines c.in-Some.line.now c.loop-line.rest.now c.in-Some.after.now i.read e.line (sym c.is_comment.ensures ∙ c.if-is_comment.true)

pub loop-line-preserved : goal.loop-line-preserved
loop-line-preserved c =
    let i = c.loop-line.invariant in
    let e = c.in-Some.ensures in
    record {
      lines = i.lines ++ c.in-Some.line.now ∷ [];
      split = next_split c.args.bytes.now i.lines c.loop-line.rest.now c.in-Some.line.now c.in-Some.after.now i.split e.read;
      read = i.read ∙ ap (λ (l : List (List ℕ)). i.lines ++ l) e.line ∙ sym (append_assoc i.lines (c.in-Some.line.now ∷ []) (counted c.in-Some.after.now));
      none = next_none i.lines c.in-Some.line.now i.none (sym c.is_comment.ensures ∙ c.if-is_comment.false);
    }
