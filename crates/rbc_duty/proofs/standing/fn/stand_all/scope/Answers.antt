use Rattle.std.proofs.Common.{rules, ◌≡◌, ◌∙◌, true, length, map, ap, subst, sym, arith}
use Rattle.std.specs.Vec.Iter.{into_iter_items}
use Rattle.rbc_server.specs.Connections.{TellsFailure}
use Rattle.rbc_server.proofs.ConnectionLemmas.{zip_first, zip_second}
use Rattle.rbc_duty.specs.Duties.{IsDuty}
use Rattle.rbc_duty.proofs.DutyLemmas.{AreBegun, all_handed, on_duty, one_begun, promised_so}
use Rattle.rbc_duty.proofs.standing.fn.stand_all.scope.Goals as goal

pub returns : goal.returns
returns g c =
    let inv = c.loop-post.invariant in
    let handles = c.loop-post.handles.items in
    let duties = c.join_all.result.items in
    let left = into_iter_items c.loop-post.post-iterator in
    let same = c.into_iter-post-iterator.ensures.into_iter_gives.0 in
    record {
      on_duty = on_duty g.K.Keeper.kept (λ p. g.P.Clients.coming p.port) (λ p. p.sitting) (λ d. d.sitting) (λ d. d.is_port_lost) (λ h. h.promise.0.value) handles duties _ left
          c.captures.posts.items c.loop-post.all_begun
          (zip_first (λ h d. IsDuty g.K.Keeper.kept (record { coming = g.P.Clients.coming h.promise.0.value.port; before = h.promise.0.value.sitting; after = d.sitting; lost = d.is_port_lost }))
          (λ d. TellsFailure g.K.Keeper.failed d.sitting) handles duties c.join_all.ensures.on_duty)
          (subst (λ all. AreBegun all left (map (λ h. h.promise.0.value) handles) c.loop-post.all_begun) same inv.0)
          (omega (arith, c.join_all.ensures.length, c.loop-post.handles.ok.0));
      count = search rules;
      all = λ begun.
          omega (
            arith,
            c.join_all.ensures.length,
            c.loop-post.handles.ok.0,
            all_handed (λ h. h.promise.0.value) handles (into_iter_items c.into_iter-post-iterator.result) left c.loop-post.all_begun inv.0 begun (search rules),
            ap length same,
            c.captures.posts.ok.0,
          );
      failed = zip_second (λ h d. IsDuty g.K.Keeper.kept (record { coming = g.P.Clients.coming h.promise.0.value.port; before = h.promise.0.value.sitting; after = d.sitting; lost = d.is_port_lost }))
          (λ d. TellsFailure g.K.Keeper.failed d.sitting) handles duties c.join_all.ensures.on_duty;
      looks = c.look_on-onlooker.ensures;
    }

pub loop-post-preserved-in-Some-ok : goal.loop-post-preserved-in-Some-ok
loop-post-preserved-in-Some-ok g c =
    let inv = c.loop-post.invariant in
    let was : c.loop-post.all_begun ≡ true = search rules in
    let all = into_iter_items c.into_iter-post-iterator.result in
    let left = into_iter_items c.loop-post.post-iterator in
    let rest = into_iter_items c.next.new.self in
    let handles = c.loop-post.handles.items in
    let more = c.push_reserved.new.self.items in (
      subst (AreBegun all rest (map (λ h. h.promise.0.value) more)) (sym was)
          (one_begun (λ h. h.promise.0.value) handles more c.in-Some-ok.handle c.in-Some.post all left rest
          (subst (AreBegun all left (map (λ h. h.promise.0.value) handles)) was inv.0) (search rules) (search rules)
          (ap (λ p. p.0.value) (promised_so (λ h. h.promise) c.spawn_with-spawned.result c.in-Some-ok.handle _ c.spawn_with-spawned.ensures.ok (sym c.ok.ensures.value ∙ c.in-Some-ok.is)) ∙ c.of.ensures)),
      search rules,
      search rules,
      search rules,
    )
