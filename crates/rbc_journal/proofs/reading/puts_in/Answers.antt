use Rattle.std.proofs.Common.{[], ◌∷◌, ◌++◌, length, refl, ap, arith, length-append}
use Rattle.rbc_journal.specs.Gates.{text}
use Rattle.rbc_journal.specs.Seals.{seal_line}
use Rattle.rbc_journal.proofs.PutLemmas.{lines_short, no_puts, puts_of_put, puts_then}
use Rattle.rbc_journal.proofs.reading.puts_in.Goals as goal

pub loop-put-init : goal.loop-put-init
loop-put-init c = record { lines = []; are = no_puts c.args.before c.args.bytes.now; count = refl }

pub loop-put-preserved : goal.loop-put-preserved
loop-put-preserved c =
    let i = c.loop-put.invariant in
    let found = c.in-Some.ensures.some in
    let put = found.0 in
    let seal = c.in-Some.put.seal in
    record {
      lines = i.lines ++ (put ++ seal_line seal ∷ []);
      are =
          puts_then c.args.before c.args.bytes.now i.lines c.loop-put.puts.seal c.loop-put.puts.rest.now (put ++ seal_line seal ∷ []) seal c.in-Some.put.rest.now i.are
          (puts_of_put c.loop-put.puts.seal c.loop-put.puts.rest.now put seal c.in-Some.put.rest.now found.1);
      count = omega (arith, i.count, found.2, length-append i.lines (put ++ seal_line seal ∷ []), length-append put (seal_line seal ∷ []));
    }

pub overflow_add-puts : goal.overflow_add-puts
overflow_add-puts c =
    let i = c.loop-put.invariant in
    let found = c.in-Some.ensures.some in
    let put = found.0 ++ seal_line c.in-Some.put.seal ∷ [] in
    omega (
      arith,
      i.count,
      found.2,
      lines_short i.lines,
      lines_short put,
      ap length i.are.split,
      length-append (text i.lines) c.loop-put.puts.rest.now,
      ap length found.1.split,
      length-append (text put) c.in-Some.put.rest.now,
      length-append found.0 (seal_line c.in-Some.put.seal ∷ []),
    )

pub returns-clause-puts : goal.returns-clause-puts
returns-clause-puts c =
    let i = c.loop-put.invariant in
    (i.lines, i.are, i.count)

pub returns-clause-fits : goal.returns-clause-fits
returns-clause-fits c =
    let i = c.loop-put.invariant in
    omega (arith, i.count, lines_short i.lines, ap length i.are.split, length-append (text i.lines) c.loop-put.puts.rest.now)
