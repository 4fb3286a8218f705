use Rattle.std.proofs.Common.{refl, false}
use Rattle.rbc_show.specs.declared.each.Telling.{Telling}
use Rattle.rbc_show.proofs.TellingLemmas.{is_shown}
use Rattle.rbc_show.proofs.each.show_each.Goals as goal

pub returns-clause-shown : goal.returns-clause-shown
returns-clause-shown g c =
    let first : Telling = record { history = c.args.history; number = 1; lost = false } in
    let talk = c.in_ok-tell_lines.ensures.talk in
    is_shown _ _ _ _ _ _ first c.tell_lines.new.telling c.in_ok-tell_lines.ensures.whole c.known.ensures.form refl
    talk.0 c.in_ok-tell_lines.ensures.end talk.1 c.in_ok-begin.ensures.text talk.2 c.in_ok-flush.ensures.bytes
