-- The book's train of this number is the scene's, and the legs lead it to the end.
use Rattle.rbc_scene.proofs.GrantingLemmas.{along_book, found, granted_along_book}
use Rattle.rbc_scene.proofs.scene.Scene.granted_along.Goals as goal

pub granted_along-requires-clause-line : goal.granted_along-requires-clause-line
granted_along-requires-clause-line c =
    let along = along_book c.self.inside.locks c.self.inside.book c.args.self.now c.self.view_is c.self.invariant c.args.train c.args.distance c.args.legs.now c.unwrap-known.result.now
    (found c.self.inside.book c.args.train c.get.result c.get.ensures c.unwrap-known.result c.unwrap-known.ensures) c.requires.accepted c.requires.along c.known.ensures in
    along.line

pub granted_along-requires-clause-near : goal.granted_along-requires-clause-near
granted_along-requires-clause-near c =
    let along = along_book c.self.inside.locks c.self.inside.book c.args.self.now c.self.view_is c.self.invariant c.args.train c.args.distance c.args.legs.now c.unwrap-known.result.now
    (found c.self.inside.book c.args.train c.get.result c.get.ensures c.unwrap-known.result c.unwrap-known.ensures) c.requires.accepted c.requires.along c.known.ensures in
    along.near

pub granted_along-requires-clause-some : goal.granted_along-requires-clause-some
granted_along-requires-clause-some c =
    let along = along_book c.self.inside.locks c.self.inside.book c.args.self.now c.self.view_is c.self.invariant c.args.train c.args.distance c.args.legs.now c.unwrap-known.result.now
    (found c.self.inside.book c.args.train c.get.result c.get.ensures c.unwrap-known.result c.unwrap-known.ensures) c.requires.accepted c.requires.along c.known.ensures in
    along.some

pub granted_along-requires-clause-on_line : goal.granted_along-requires-clause-on_line
granted_along-requires-clause-on_line c =
    let along = along_book c.self.inside.locks c.self.inside.book c.args.self.now c.self.view_is c.self.invariant c.args.train c.args.distance c.args.legs.now c.unwrap-known.result.now
    (found c.self.inside.book c.args.train c.get.result c.get.ensures c.unwrap-known.result c.unwrap-known.ensures) c.requires.accepted c.requires.along c.known.ensures in
    along.on_line

pub returns-clause-granted : goal.returns-clause-granted
returns-clause-granted c =
    granted_along_book c.self.inside.locks c.self.inside.book c.args.self.now c.self.view_is c.self.invariant c.args.train c.args.distance c.args.legs.now c.unwrap-known.result.now
    (found c.self.inside.book c.args.train c.get.result c.get.ensures c.unwrap-known.result c.unwrap-known.ensures) c.requires.accepted c.requires.along c.granted_along.result c.granted_along.ensures.legs c.granted_along.ensures.from c.granted_along.ensures.to
