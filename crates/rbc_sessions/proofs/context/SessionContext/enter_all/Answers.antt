use Rattle.std.proofs.Common.{◌≡◌, [], ap, rules, subst}
use Rattle.std.specs.Prelude.{All}
use Rattle.std.proofs.lemmas.List.{nil_from_length}
use Rattle.std.proofs.lemmas.List.Elements.{All-head, All-tail}
use Rattle.rbc_sessions.specs.Due.{IsOwedSoFar}
use Rattle.rbc_sessions.specs.Resting.{IsPrepared, commands_resting}
use Rattle.rbc_sessions.proofs.DueLemmas.{so_far_all, so_far_none, so_far_then}
use Rattle.rbc_sessions.proofs.context.SessionContext.enter_all.Goals as goal

pub loop-one-init : goal.loop-one-init
loop-one-init g c = record { room = search rules; each = c.requires.each; so_far = so_far_none c.args.self.now.track.now c.args.seat.now _ _ }

pub enter_one-requires-clause-one : goal.enter_one-requires-clause-one
enter_one-requires-clause-one g c κs within =
    let prepared = IsPrepared g.L.DeskName.opened.track g.K.Keeper.says in
    All-head prepared c.in-Some.one c.pop_front.new.self.items (subst (All prepared) c.in-Some.ensures.items c.loop-one.invariant.each)

pub enter_one-requires-clause-each : goal.enter_one-requires-clause-each
enter_one-requires-clause-each g c κs within =
    let prepared = IsPrepared g.L.DeskName.opened.track g.K.Keeper.says in
    All-tail prepared c.in-Some.one c.pop_front.new.self.items (subst (All prepared) c.in-Some.ensures.items c.loop-one.invariant.each)

pub loop-one-preserved : goal.loop-one-preserved
loop-one-preserved g c =
    let track = c.args.self.now.track.now in
    let loop = c.loop-one in
    let entered = c.enter_one.ensures in
    record {
      room = entered.room;
      each = entered.each;
      so_far = so_far_then track c.args.seat.now loop.seat c.enter_one.new.seat (commands_resting c.args.resting.now.items) _ (commands_resting c.enter_one.new.resting.items) c.args.dues.now.dues
          loop.dues.dues c.enter_one.new.dues.dues
          (subst (λ items. IsOwedSoFar track c.args.seat.now (commands_resting c.args.resting.now.items) c.args.dues.now.dues loop.seat (commands_resting items) loop.dues.dues)
          c.in-Some.ensures.items loop.invariant.so_far)
          entered.owes;
    }

pub returns-clause-owes : goal.returns-clause-owes
returns-clause-owes g c =
    let loop = c.loop-one in
    let none : loop.resting.items ≡ [] = nil_from_length loop.resting.items (search rules) in
    so_far_all c.args.self.now.track.now c.args.seat.now loop.seat (commands_resting c.args.resting.now.items) (commands_resting loop.resting.items) c.args.dues.now.dues loop.dues.dues
    c.requires.none (ap (λ items. commands_resting items) none) loop.invariant.so_far
