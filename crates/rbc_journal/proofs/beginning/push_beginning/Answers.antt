use Rattle.std.proofs.Common.{◌<◌, length, ◌∙◌, arith}
use Rattle.rbc_journal.proofs.BeginningLemmas.{put_written}
use Rattle.rbc_journal.proofs.beginning.push_beginning.Goals as goal

pub returns : goal.returns
returns c =
    let some : 0 < length c.args.beginning.now = let e = c.is_empty.ensures in let f = c.if-is_empty.false in grind (arith, e, f) in
    put_written c.args.beginning.now c.args.before.now c.args.file.now.items c.push_marked.new.file.items c.deref.result.now c.seal_of-seal.result c.line_of.result c.push_line.new.file.items
    c.len-end.result some c.in_ok-push_marked.ensures c.deref.ensures.value (c.len-end.ensures ∙ c.args.file.now.ok.0) c.seal_of-seal.ensures c.line_of.ensures c.in_ok-push_line.ensures
