use Rattle.std.proofs.Common.{◌++◌, ◌||◌, [], ap, ◌∙◌}
use Rattle.rbc_show.specs.declared.each.Telling.{Telling}
use Rattle.rbc_show.specs.Showing.{request_text}
use Rattle.rbc_show.proofs.TellingLemmas.{too_long}
use Rattle.rbc_show.proofs.WritingLemmas.{text_behind}
use Rattle.rbc_show.proofs.each.TellingLineHandlerUnit.refuse.Goals as goal

pub returns-clause-reply : goal.returns-clause-reply
returns-clause-reply g c =
    let before = c.args.self.now in
    let old = g.W.Sink.written c.args.writer.now in
    let asked = g.W.Sink.written c.print_request.new.writer in
    let told = g.W.Sink.written c.refuse.new.writer in
    let request = request_text before.number [] in
    let r = c.refuse.ensures.reply in
    let after : Telling = record { history = c.refuse.new.self; number = before.number; lost = before.lost } in (
      request ++ r.0,
      λ line long. too_long before after line (request ++ r.0) c.requires.ready c.requires.ready long,
      record {
        text = text_behind old asked told request r.0 c.refuse.result c.in_ok-print_request.ensures.text r.2.text;
        failed = ap (λ l. l || g.W.Sink.failed c.refuse.new.writer) c.requires.ready ∙ r.2.failed;
      },
    )
