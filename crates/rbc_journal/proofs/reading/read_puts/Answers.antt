use Rattle.std.proofs.Common.{ℕ, List, ◌-◌, length, take, refl, sym, subst}
use Rattle.rbc_journal.specs.Puts.{ArePuts}
use Rattle.rbc_journal.proofs.PutLemmas.{differs_by, same_by}
use Rattle.rbc_journal.proofs.ReadingLemmas.{seal_in, read_damaged, read_other, read_right, shown_whole, shown_journal, shown_same, whole_tells}
use Rattle.rbc_journal.proofs.reading.read_puts.Goals as goal

pub returns-in_default-dropped_of-clause-err : goal.returns-in_default-dropped_of-clause-err
returns-in_default-dropped_of-clause-err c =
    let header = c.in-Some.header in
    let last = c.puts_in-puts.result in
    let puts = c.puts_in-puts.ensures.puts in
    let are : ArePuts (seal_in header.digest) header.rest.now puts.0 last.seal last.rest.now =
    subst (λ (s : List ℕ). ArePuts s header.rest.now puts.0 last.seal last.rest.now) c.in-Some.ensures.seal puts.1 in
    read_damaged c.args.bytes.now header.digest header.rest.now puts.0 last.seal last.rest.now c.in-Some.ensures.some are c.puts_in-puts.ensures.all
    c.args.track.now last.lines (sym puts.2) c.in_default-dropped_of.ensures

pub returns-then-ne-clause-err : goal.returns-then-ne-clause-err
returns-then-ne-clause-err c =
    let header = c.in-Some.header in
    let last = c.puts_in-puts.result in
    let puts = c.puts_in-puts.ensures.puts in
    let are : ArePuts (seal_in header.digest) header.rest.now puts.0 last.seal last.rest.now =
    subst (λ (s : List ℕ). ArePuts s header.rest.now puts.0 last.seal last.rest.now) c.in-Some.ensures.seal puts.1 in
    let bytes = c.args.bytes.now in
    read_other bytes header.digest header.rest.now puts.0 last.seal last.rest.now c.in-Some.ensures.some are c.puts_in-puts.ensures.all
    (take (length bytes - length last.rest.now) bytes) refl c.in-Some-dropped_of.dropped.now c.in-Some-dropped_of.ensures
    c.args.track.now (differs_by header.digest c.args.track.now c.if-ne.true c.ne.ensures)

pub returns-clause-ok : goal.returns-clause-ok
returns-clause-ok c =
    let header = c.in-Some.header in
    let last = c.puts_in-puts.result in
    let puts = c.puts_in-puts.ensures.puts in
    let are : ArePuts (seal_in header.digest) header.rest.now puts.0 last.seal last.rest.now =
    subst (λ (s : List ℕ). ArePuts s header.rest.now puts.0 last.seal last.rest.now) c.in-Some.ensures.seal puts.1 in
    let bytes = c.args.bytes.now in
    read_right bytes header.digest header.rest.now puts.0 last.seal last.rest.now c.in-Some.ensures.some are c.puts_in-puts.ensures.all
    (take (length bytes - length last.rest.now) bytes) refl c.in-Some-dropped_of.dropped.now c.in-Some-dropped_of.ensures
    c.args.track.now (same_by header.digest c.args.track.now c.if-ne.false c.ne.ensures)

pub returns-clause-whole : goal.returns-clause-whole
returns-clause-whole c =
    let header = c.in-Some.header in
    let last = c.puts_in-puts.result in
    let puts = c.puts_in-puts.ensures.puts in
    let are : ArePuts (seal_in header.digest) header.rest.now puts.0 last.seal last.rest.now =
    subst (λ (s : List ℕ). ArePuts s header.rest.now puts.0 last.seal last.rest.now) c.in-Some.ensures.seal puts.1 in
    let bytes = c.args.bytes.now in
    shown_whole bytes header.digest header.rest.now puts.0 last.seal last.rest.now c.in-Some.ensures.some are c.puts_in-puts.ensures.all
    (take (length bytes - length last.rest.now) bytes) refl

pub returns-clause-same : goal.returns-clause-same
returns-clause-same c =
    let header = c.in-Some.header in
    let last = c.puts_in-puts.result in
    let puts = c.puts_in-puts.ensures.puts in
    let are : ArePuts (seal_in header.digest) header.rest.now puts.0 last.seal last.rest.now =
    subst (λ (s : List ℕ). ArePuts s header.rest.now puts.0 last.seal last.rest.now) c.in-Some.ensures.seal puts.1 in
    let bytes = c.args.bytes.now in
    shown_same bytes header.digest header.rest.now puts.0 last.seal last.rest.now c.in-Some.ensures.some are c.puts_in-puts.ensures.all
    (take (length bytes - length last.rest.now) bytes) refl c.in-Some-dropped_of.dropped.now c.in-Some-dropped_of.ensures

pub returns-clause-told : goal.returns-clause-told
returns-clause-told c =
    let bytes = c.args.bytes.now in
    let last = c.puts_in-puts.result in
    whole_tells (take (length bytes - length last.rest.now) bytes) last.seal (returns-clause-whole c)

pub returns-clause-journal : goal.returns-clause-journal
returns-clause-journal c =
    let header = c.in-Some.header in
    let last = c.puts_in-puts.result in
    let puts = c.puts_in-puts.ensures.puts in
    let are : ArePuts (seal_in header.digest) header.rest.now puts.0 last.seal last.rest.now =
    subst (λ (s : List ℕ). ArePuts s header.rest.now puts.0 last.seal last.rest.now) c.in-Some.ensures.seal puts.1 in
    let bytes = c.args.bytes.now in
    shown_journal bytes header.digest header.rest.now puts.0 last.seal last.rest.now c.in-Some.ensures.some are c.puts_in-puts.ensures.all
    (take (length bytes - length last.rest.now) bytes) refl c.args.track.now (same_by header.digest c.args.track.now c.if-ne.false c.ne.ensures)
