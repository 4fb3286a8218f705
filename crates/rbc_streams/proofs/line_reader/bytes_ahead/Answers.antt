use Rattle.std.proofs.Common.{length, arith}
use Rattle.rbc_streams.proofs.LineFeedLemmas.{none_further, none_in_all, none_in_front, found_within, feed_found}
use Rattle.rbc_streams.proofs.line_reader.bytes_ahead.Goals as goal

pub returns-in-Some : goal.returns-in-Some
returns-in-Some c =
    let bytes = c.args.bytes.now in
    let found = c.in-Some.ensures in
    let within = found_within bytes c.args.searched c.in-Some.further found.0.high in
    record {
      within = omega (arith, within);
      none_yet = none_further bytes c.args.searched c.in-Some.further (omega (arith, found.0.high)) c.requires.none_yet found.0.before;
      feed = λ _. feed_found bytes c.args.searched c.in-Some.further found.0.high found.1;
    }

pub returns-in-None : goal.returns-in-None
returns-in-None c =
    let bytes = c.args.bytes.now in
    record {
      within = omega arith;
      none_yet = none_in_front bytes (length bytes) (none_in_all bytes c.args.searched c.requires.within c.requires.none_yet c.in-None.ensures);
      feed = λ below. absurd (omega (arith, below));
    }
