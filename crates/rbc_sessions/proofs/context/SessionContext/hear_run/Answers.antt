use Rattle.std.proofs.Common.{Ok, ap, rules, subst}
use Rattle.std.specs.Prelude.{All}
use Rattle.std.proofs.lemmas.List.Elements.{All-head, All-tail}
use Rattle.rbc_session_laws.specs.declared.command.Command.TheVariants.{Event}
use Rattle.rbc_sessions.specs.Resting.{IsPrepared, commands_resting}
use Rattle.rbc_sessions.specs.Dues.{ToldSo}
use Rattle.rbc_sessions.proofs.DueLemmas.{so_far_more, so_far_one, told_owes}
use Rattle.rbc_sessions.proofs.context.SessionContext.hear_run.Goals as goal

pub loop-told-init : goal.loop-told-init
loop-told-init g c =
    let track = c.args.self.now.track.now in
    record {
      room = search rules;
      shorter = search rules;
      each = c.requires.each;
      so_far = so_far_one track c.args.seat.now c.hear.new.seat (Ok (Event c.args.first.0)) (commands_resting c.args.resting.now.items) (ToldSo c.hear.result) c.args.dues.now.dues
          c.push_told.new.self.dues (told_owes track c.args.seat.now c.hear.new.seat c.args.first.0 c.hear.result c.hear.ensures.whole c.hear.ensures.comes) c.push_told.ensures.dues;
    }

pub hear-requires-in-Some : goal.hear-requires-in-Some
hear-requires-in-Some g c =
    let prepared = IsPrepared g.L.DeskName.opened.track g.K.Keeper.says in
    All-head prepared _ c.pop_told.new.resting.items (subst (All prepared) c.in-Some.ensures.taken c.loop-told.invariant.each)

pub loop-told-preserved : goal.loop-told-preserved
loop-told-preserved g c =
    let track = c.args.self.now.track.now in
    let prepared = IsPrepared g.L.DeskName.opened.track g.K.Keeper.says in
    let loop = c.loop-told in
    let told = c.in-Some.told in
    let heard = c.hear-in-Some in
    record {
      room = search rules;
      shorter = search rules;
      each = All-tail prepared _ c.pop_told.new.resting.items (subst (All prepared) c.in-Some.ensures.taken loop.invariant.each);
      so_far = so_far_more track c.args.seat.now loop.seat heard.new.seat _ (commands_resting loop.resting.items) (commands_resting c.pop_told.new.resting.items) c.args.dues.now.dues loop.dues.dues
          c.push_told-in-Some.new.self.dues (Ok (Event told)) (ToldSo heard.result) loop.invariant.so_far (ap (λ items. commands_resting items) c.in-Some.ensures.taken)
          (told_owes track loop.seat heard.new.seat told heard.result heard.ensures.whole heard.ensures.comes) c.push_told-in-Some.ensures.dues;
    }
