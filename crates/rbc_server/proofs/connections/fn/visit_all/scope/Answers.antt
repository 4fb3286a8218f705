use Rattle.std.proofs.Common.{rules, ◌≡◌, ◌<◌, None, Some, length, map, arith, ap, refl, sym, subst}
use Rattle.std.specs.Vec.Iter.{into_iter_items}
use Rattle.rbc_server.specs.Connections.{AreServed, IsConnection, TellsFailure}
use Rattle.rbc_server.proofs.ConnectionLemmas.{IsUnderWay, at_first, no_request, none_accepted, none_started, one_came, one_handed, one_mapped, passed_by, visited, zip_first, zip_second}
use Rattle.rbc_server.proofs.connections.fn.visit_all.scope.Goals as goal

pub returns : goal.returns
returns g c =
    let inv = c.loop-sitting.invariant in
    let coming = g.P.Clients.coming c.captures.port in
    let now = g.P.Clients.coming c.loop-sitting.port in
    let all = into_iter_items c.into_iter-sitting-iterator.result in
    let left = into_iter_items c.loop-sitting.sitting-iterator in
    let handles = c.loop-sitting.handles.items in
    let visits = c.join_all-visits.result.items in
    let served = visited g.K.Keeper.kept (λ h. g.C.Client.coming h.promise.1.value) (λ h. h.promise.0.value) (λ v. v.sitting) (λ v. g.C.Client.parting v.gone) c.loop-sitting.fault handles visits all left coming now
    (zip_first (λ h v. IsConnection g.K.Keeper.kept (record { came = g.C.Client.coming h.promise.1.value; before = h.promise.0.value; after = v.sitting; went = g.C.Client.parting v.gone }))
    (λ v. TellsFailure g.K.Keeper.failed v.sitting) handles visits c.join_all-visits.ensures.served) inv.0 (search rules) in
    record {
      served = subst (λ port. AreServed g.K.Keeper.kept coming (g.P.Clients.coming port) c.captures.sittings.items (map (λ v. v.sitting) visits) (map (λ v. g.C.Client.parting v.gone) visits) c.loop-sitting.fault)
          (sym c.new-port.ensures)
          (subst (λ sittings. AreServed g.K.Keeper.kept coming now sittings (map (λ v. v.sitting) visits) (map (λ v. g.C.Client.parting v.gone) visits) c.loop-sitting.fault)
          c.into_iter-sitting-iterator.ensures.into_iter_gives.0 served);
      count = search rules;
      failed = zip_second (λ h v. IsConnection g.K.Keeper.kept (record { came = g.C.Client.coming h.promise.1.value; before = h.promise.0.value; after = v.sitting; went = g.C.Client.parting v.gone }))
          (λ v. TellsFailure g.K.Keeper.failed v.sitting) handles visits c.join_all-visits.ensures.served;
      not_kept = no_request coming now all left (map (λ h. h.promise.0.value) handles) (map (λ h. g.C.Client.coming h.promise.1.value) handles) c.loop-sitting.fault inv.0;
    }

pub loop-sitting-init : goal.loop-sitting-init
loop-sitting-init g c =
    let coming = g.P.Clients.coming c.captures.port in
    let all = into_iter_items c.into_iter-sitting-iterator.result in
    let none = c.handles_for-handles.ensures.none in (
      rw none (at_first coming all c.handles_for-handles.result.1 c.handles_for-handles.ensures.fault),
      omega (arith, ap length none),
      (λ same. same),
      refl,
    )

pub loop-sitting-preserved-then-is_some : goal.loop-sitting-preserved-then-is_some
loop-sitting-preserved-then-is_some g c =
    let inv = c.loop-sitting.invariant in
    let handles = c.loop-sitting.handles.items in (
      passed_by (g.P.Clients.coming c.captures.port) (g.P.Clients.coming c.loop-sitting.port) (into_iter_items c.into_iter-sitting-iterator.result)
          (into_iter_items c.loop-sitting.sitting-iterator) (map (λ h. h.promise.0.value) handles) (map (λ h. g.C.Client.coming h.promise.1.value) handles) c.loop-sitting.fault
          (into_iter_items c.next.new.self) (search rules) inv.0,
      search rules,
      search rules,
      search rules,
    )

pub loop-sitting-preserved-in-Err : goal.loop-sitting-preserved-in-Err
loop-sitting-preserved-in-Err g c =
    let inv = c.loop-sitting.invariant in
    let was : c.loop-sitting.fault ≡ None = search rules in
    let handles = c.loop-sitting.handles.items in
    let coming = g.P.Clients.coming c.captures.port in
    let now = g.P.Clients.coming c.loop-sitting.port in
    let later = g.P.Clients.coming c.accept.new.self in
    let all = into_iter_items c.into_iter-sitting-iterator.result in
    let left = into_iter_items c.loop-sitting.sitting-iterator in
    let rest = into_iter_items c.next.new.self in
    let begun = map (λ h. h.promise.0.value) handles in
    let came = map (λ h. g.C.Client.coming h.promise.1.value) handles in
    let under = subst (IsUnderWay coming now all left begun came) was inv.0 in (
      subst (λ f. IsUnderWay coming later all rest begun came (Some f)) (sym c.from.ensures)
          (none_accepted coming now all left begun came later rest under (search rules) c.in-Err.ensures.none),
      search rules,
      search rules,
      search rules,
    )

pub push_reserved-requires : goal.push_reserved-requires
push_reserved-requires g c =
    let inv = c.loop-sitting.invariant in
    let was : c.loop-sitting.fault ≡ None = search rules in
    let room = c.handles_for-handles.ensures.room (inv.2 was) in
    let some : 0 < length (into_iter_items c.loop-sitting.sitting-iterator) = search rules in
    omega (arith, c.loop-sitting.handles.ok.0, inv.1, inv.3, room, some, c.len.ensures, c.captures.sittings.ok.0, ap length c.into_iter-sitting-iterator.ensures.into_iter_gives.0)

pub loop-sitting-preserved-in-Some-ok : goal.loop-sitting-preserved-in-Some-ok
loop-sitting-preserved-in-Some-ok g c =
    let inv = c.loop-sitting.invariant in
    let was : c.loop-sitting.fault ≡ None = search rules in
    let handles = c.loop-sitting.handles.items in
    let coming = g.P.Clients.coming c.captures.port in
    let now = g.P.Clients.coming c.loop-sitting.port in
    let all = into_iter_items c.into_iter-sitting-iterator.result in
    let left = into_iter_items c.loop-sitting.sitting-iterator in
    let under = subst (IsUnderWay coming now all left (map (λ h. h.promise.0.value) handles) (map (λ h. g.C.Client.coming h.promise.1.value) handles)) was inv.0 in (
      subst (IsUnderWay coming (g.P.Clients.coming c.accept.new.self) all (into_iter_items c.next.new.self) (map (λ h. h.promise.0.value) c.push_reserved.new.self.items)
          (map (λ h. g.C.Client.coming h.promise.1.value) c.push_reserved.new.self.items)) (sym was) (
            one_handed (λ h. h.promise.0.value) handles c.push_reserved.new.self.items c.in-Some-ok.handle c.in-Some.sitting left (into_iter_items c.next.new.self) all under.0 (search rules) (search rules) (search rules),
            one_came coming now (g.P.Clients.coming c.accept.new.self) (map (λ h. g.C.Client.coming h.promise.1.value) handles)
                (map (λ h. g.C.Client.coming h.promise.1.value) c.push_reserved.new.self.items) (g.C.Client.coming c.in-Ok.client) under.1 c.in-Ok.ensures.next
                (one_mapped (λ h. g.C.Client.coming h.promise.1.value) handles c.push_reserved.new.self.items c.in-Some-ok.handle (g.C.Client.coming c.in-Ok.client) (search rules) (search rules)),
          ),
      search rules,
      search rules,
      search rules,
    )

pub loop-sitting-preserved : goal.loop-sitting-preserved
loop-sitting-preserved g c =
    let inv = c.loop-sitting.invariant in
    let was : c.loop-sitting.fault ≡ None = search rules in
    let handles = c.loop-sitting.handles.items in
    let coming = g.P.Clients.coming c.captures.port in
    let now = g.P.Clients.coming c.loop-sitting.port in
    let left = into_iter_items c.loop-sitting.sitting-iterator in
    let all = into_iter_items c.into_iter-sitting-iterator.result in
    let begun = map (λ h. h.promise.0.value) handles in
    let came = map (λ h. g.C.Client.coming h.promise.1.value) handles in
    let under = subst (IsUnderWay coming now all left begun came) was inv.0 in (
      none_started coming now all left begun came (g.P.Clients.coming c.accept.new.self) (into_iter_items c.next.new.self) (g.C.Client.coming c.in-Ok.client) under (search rules) c.in-Ok.ensures.next,
      search rules,
      search rules,
      search rules,
    )
