-- What ends on the line that the train has needs no leg more.
use Rattle.std.proofs.Common.{◌≡◌, ◌+◌, ◌≤◌, ◌<◌, ◌∙◌, arith, inl, inr}
use Rattle.rbc_model.specs.Lines.{line_length}
use Rattle.rbc_model.proofs.ScanLemmas.{le_or_lt}
use Rattle.rbc_scene.proofs.GrantingLemmas.{IsFound, absent, beyond_book, beyond_none, found, on_line_book}
use Rattle.rbc_scene.proofs.scene.Scene.granted_on_line.Goals as goal
use Rattle.rbc_scene.proofs.scene.Scene.granted_on_line.Goals.{After-length}

was : (c : After-length) → IsFound c.self.inside.book c.args.train c.in_ok-known.known.now
was c = found c.self.inside.book c.args.train c.get.result c.get.ensures c.in_ok-known.known c.in_ok-known.was

metres : (c : After-length) → c.length.result ≡ line_length c.in_ok-known.known.now.track c.in_ok-known.known.now.train.line
metres c = let legs = c.line-line.ensures in c.length.ensures.length ∙ (λ j. line_length (legs.track j) (legs.legs j))

pub returns-clause-on_line : goal.returns-clause-on_line
returns-clause-on_line c =
    let at = (goal.at.returns-clause-on_line c).After-length in
    let known = c.in_ok-known.known.now in
    let end : c.origin-2.result + c.metres-2.result ≡ known.train.origin + c.args.distance = (λ j. c.origin-2.ensures.origin j + c.metres-2.ensures j) in
    let within : c.origin-2.result + c.metres-2.result ≤ line_length known.track known.train.line =
    (let left = c.in_ok-farthest.ensures in let few = c.if-metres-farthest.false in let is = metres at in let o = c.origin.ensures.origin in let d = c.metres.ensures in omega arith) in
    on_line_book c.self.inside.locks c.self.inside.book c.args.self.now c.self.view_is c.self.invariant c.args.train c.args.distance known (was at)
    c.requires.accepted c.known.ensures c.start.result (c.origin-2.result + c.metres-2.result) c.start.ensures end within

pub returns-in_err-farthest-clause-beyond : goal.returns-in_err-farthest-clause-beyond
returns-in_err-farthest-clause-beyond c none =
    let at = (goal.at.returns-in_err-farthest-clause-beyond c).After-length in
    let known = c.in_ok-known.known.now in
    let is = metres at in
    let o = c.origin.ensures.origin in
    let beyond : line_length known.track known.train.line < known.train.origin + c.args.distance =
    elim (le_or_lt c.origin.result c.length.result) [
      | inl within ↦ absurd (c.in_err-farthest.ensures within)
      | inr past ↦ omega arith
    ] in
    beyond_book c.self.inside.locks c.self.inside.book c.args.self.now c.self.view_is c.args.train c.args.distance known (was at) beyond

pub returns-in_err-known-clause-beyond : goal.returns-in_err-known-clause-beyond
returns-in_err-known-clause-beyond c none =
    beyond_none c.self.inside.locks c.self.inside.book c.args.self.now c.self.view_is c.args.train c.args.distance
    (absent c.self.inside.book c.args.train c.get.result c.get.ensures c.in_err-known.was)

pub returns-then-metres-farthest-clause-beyond : goal.returns-then-metres-farthest-clause-beyond
returns-then-metres-farthest-clause-beyond c none =
    let at = (goal.at.returns-then-metres-farthest-clause-beyond c).After-length in
    let known = c.in_ok-known.known.now in
    let left = c.in_ok-farthest.ensures in
    let many = c.if-metres-farthest.true in
    let beyond : line_length known.track known.train.line < known.train.origin + c.args.distance =
    (let is = metres at in let o = c.origin.ensures.origin in let d = c.metres.ensures in omega arith) in
    beyond_book c.self.inside.locks c.self.inside.book c.args.self.now c.self.view_is c.args.train c.args.distance known (was at) beyond
