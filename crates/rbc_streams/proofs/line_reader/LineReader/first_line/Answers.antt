use Rattle.std.proofs.Common.{◌+◌, length, refl, sym, subst, ap, arith, inl, take-append-drop}
use Rattle.std.proofs.lemmas.List.{length-take}
use Rattle.rbc_streams.specs.LineReading.{HasNoLineFeed, KeepsInput, IsAhead}
use Rattle.rbc_streams.proofs.LineFeedLemmas.{none_in_fewer, none_ahead, at_feed}
use Rattle.rbc_streams.proofs.line_reader.LineReader.first_line.Goals as goal

pub returns-then-length-self-clause-some : goal.returns-then-length-self-clause-some
returns-then-length-self-clause-some c =
    let pending = c.args.self.now.pending in
    let longest = ap (λ reading. reading.longest) c.self.view_is in
    let ahead = subst (λ l. IsAhead l c.self.inside.ahead) (ap (λ reading. reading.pending) c.self.view_is) c.self.invariant.1 in
    let beyond = c.if-length-self.true in
    let same = c.give.ensures in
    let keeps : KeepsInput pending c.give.new.self = record { input_pends = same.pending; no_line = same.line } in
    (keeps, record { long = omega (arith, ahead.within, beyond, longest, same.longest); no_end = none_in_fewer pending _ c.self.inside.ahead (omega (arith, beyond, longest, same.longest)) ahead.none_yet })

pub returns-then-length-pending-clause-none : goal.returns-then-length-pending-clause-none
returns-then-length-pending-clause-none c =
    let pending = c.args.self.now.pending in
    let longest = ap (λ reading. reading.longest) c.self.view_is in
    let ahead = subst (λ l. IsAhead l c.self.inside.ahead) (ap (λ reading. reading.pending) c.self.view_is) c.self.invariant.1 in
    let count = ap length c.pending.ensures in
    let all = c.if-length-pending.true in
    let short = c.if-length-self.false in
    (refl, none_ahead pending c.self.inside.ahead ahead (omega (arith, count, all)), omega (arith, count, all, short, longest))

pub returns-clause-some : goal.returns-clause-some
returns-clause-some c =
    let pending = c.args.self.now.pending in
    let longest = ap (λ reading. reading.longest) c.self.view_is in
    let ahead = subst (λ l. IsAhead l c.self.inside.ahead) (ap (λ reading. reading.pending) c.self.view_is) c.self.invariant.1 in
    let count = ap length c.pending.ensures in
    let some = c.if-length-pending.false in
    let short = c.if-length-self.false in
    let did = c.give-2.ensures in
    record {
      one_line = subst HasNoLineFeed (sym did.line) ahead.none_yet;
      within = omega (arith, ap length did.line, length-take c.self.inside.ahead pending, longest, did.longest, short);
      rest = inl (rw (did.line, did.pending) (at_feed pending c.self.inside.ahead ahead (omega (arith, ahead.within, count, some))));
      cut = rw (did.taken, did.pending) (sym (take-append-drop (c.self.inside.ahead + 1) pending));
    }
