use Rattle.std.proofs.Common.{◌≡◌, ◌∷◌, ◌++◌, [], ◌-◌, ◌≤◌, ◌∙◌, ap, sym, arith}
use Rattle.rbc_journal.specs.Settled.{staged}
use Rattle.rbc_group_commit.proofs.FileLemmas.{less_room}
use Rattle.rbc_group_commit.proofs.PageLemmas.{taken, last_told}
use Rattle.rbc_group_commit.proofs.page.Page.take.Goals as goal

pub invariant_of-self : goal.invariant_of-self
invariant_of-self g c =
    let d = g.D.Device in
    let t = g.T.ToldHistory in
    let old = c.self.inside in
    let journal = old.journal in
    let new = c.stage-bytes.new.journal in
    let place = c.line.inside.place in
    let text = c.line.inside.text.items in
    let at : place ≡ old.next = c.line.view_is ∙ c.requires.place ∙ sym (ap (λ p. p.next) c.self.view_is) in
    let device : new.device ≡ journal.device = c.stage-bytes.ensures.device in
    let more : staged new ≡ staged journal ++ text ∷ [] =
    c.stage-bytes.ensures.staged ∙ ap (λ l. staged journal ++ l ∷ []) c.as_slice.ensures.value in
    let bytes = c.stage-bytes.ensures.bytes in
    let room : 4164 ≤ old.room = omega (arith, c.requires.room, ap (λ p. p.room) c.self.view_is) in
    let knows = c.hear.ensures.heard place text c.line.invariant.0 in (
      (λ whole. taken d.seen d.may_leave (t.tells old.told) (t.tells c.hear.new.self) journal new old.lines old.next place text c.hear.ensures.same (c.self.invariant.0 whole) c.stage-bytes.ensures.settled device more at knows),
      last_told d.seen d.may_leave d.moment d.left_since (t.tells old.told) (t.tells c.hear.new.self) journal.device new.device old.lines old.marks c.hear.ensures.same device c.self.invariant.1,
      omega (arith, at, c.self.invariant.2),
      (λ whole some. c.stage-bytes.ensures.room (old.room - c.stage-bytes.result) (less_room journal old.room _ (omega (arith, room, bytes)) (c.self.invariant.3 whole (omega (arith, room))))),
    )
