use Rattle.std.proofs.Common.{◌<◌, length, arith}
use Rattle.std.proofs.lemmas.List.{get_or_read}
use Rattle.std.proofs.lemmas.Result.{on_ok_weaker}
use Rattle.rbc_server.proofs.BringingLemmas.{all_told}
use Rattle.rbc_server.proofs.ServingLemmas.{first_knows, go_on_first, swept_kept}
use Rattle.rbc_server.proofs.serving.keep_swept.Goals as goal

pub keep_grants-requires : goal.keep_grants-requires
keep_grants-requires g c =
    record { told = all_told c.requires.told.0 c.args.swept.now c.index_mut-first.result.now c.bring.new.seat c.args.outcomes.now c.bring.ensures c.requires.told.1 }

pub returns-clause-kept : goal.returns-clause-kept
returns-clause-kept g c =
    let visited = c.args.visited.now in
    let some : 0 < length visited.seats.items = omega (arith, visited.seats.ok.0, c.requires.some) in
    let one : 0 < length visited.committers.items = omega (arith, visited.committers.ok.0, visited.seats.ok.0, c.requires.some, c.requires.one_each) in
    on_ok_weaker c.keep_grants.result
    (λ granted_kept. swept_kept g.K.Keeper.kept c.args.swept.now visited.seats.items visited.committers.items c.args.outcomes.now c.index_mut-first.result.now c.bring.new.seat c.index_mut.result.now
    c.keep_grants.new.committer some one (get_or_read visited.seats.items 0 _ some c.index_mut-first.ensures.value c.index_mut-first.result.now)
    (get_or_read visited.committers.items 0 _ one c.index_mut.ensures.value c.index_mut.result.now) c.bring.ensures c.keep_grants.ensures.stays granted_kept)
    c.keep_grants.ensures.kept

pub returns-clause-journal : goal.returns-clause-journal
returns-clause-journal g c = λ broken.
    let visited = c.args.visited.now in
    let one : 0 < length visited.committers.items = omega (arith, visited.committers.ok.0, visited.seats.ok.0, c.requires.some, c.requires.one_each) in
    first_knows g.K.Keeper.failed visited.committers.items c.keep_grants.new.committer one (c.keep_grants.ensures.journal broken)

pub returns-clause-committers : goal.returns-clause-committers
returns-clause-committers g c =
    let visited = c.args.visited.now in
    let one : 0 < length visited.committers.items = omega (arith, visited.committers.ok.0, visited.seats.ok.0, c.requires.some, c.requires.one_each) in
    go_on_first g.K.Keeper.kept visited.committers.items c.index_mut.result.now c.keep_grants.new.committer one (get_or_read visited.committers.items 0 _ one c.index_mut.ensures.value c.index_mut.result.now) c.keep_grants.ensures.stays
