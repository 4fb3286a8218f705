use Rattle.std.proofs.Common.{arith}
use Rattle.rbc_journal.proofs.StagingLemmas.{put_more, told_put}
use Rattle.rbc_journal.proofs.journal.Journal.stage.Goals as goal

pub returns-clause-settled : goal.returns-clause-settled
returns-clause-settled g c =
    let s = c.requires.settled in
    record {
      file = s.file;
      are_sealed = s.are_sealed;
      gate = s.gate;
      durable = s.durable;
      waiting = c.push.ensures.waiting;
      put = put_more _ _ c.args.line.now c.push.ensures.staged s.put (told_put c.args.line.now c.requires.line);
      fits = omega (arith, c.requires.room.file, c.push.ensures.len);
      seal_fits = λ some. record {
        memory = omega (arith, c.requires.room.memory, c.push.ensures.len, c.push.ensures.capacity);
        file = omega (arith, c.requires.room.file, c.push.ensures.len);
      };
    }
