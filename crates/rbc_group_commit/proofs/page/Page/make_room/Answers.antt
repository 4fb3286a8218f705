use Rattle.std.proofs.Common.{◌≡◌, true, false, true≢false}
use Rattle.rbc_group_commit.proofs.PageLemmas.{roomed, last_told}
use Rattle.rbc_group_commit.proofs.page.Page.make_room.Goals as goal

failed_whole : {A : Type 0} → true ≡ false → A
failed_whole e = absurd (true≢false e)

pub invariant_of-self : goal.invariant_of-self
invariant_of-self g c =
    let d = g.D.Device in
    let tells = g.T.ToldHistory.tells c.self.inside.told in
    let old = c.self.inside in (
      failed_whole,
      last_told d.seen d.may_leave d.moment d.left_since tells tells old.journal.device c.make_room.new.journal.device old.lines old.marks (λ k l is. is) c.make_room.ensures.device c.self.invariant.1,
      c.self.invariant.2,
      failed_whole,
    )

pub invariant_of-self-2 : goal.invariant_of-self-2
invariant_of-self-2 g c =
    let d = g.D.Device in
    let tells = g.T.ToldHistory.tells c.self.inside.told in
    let old = c.self.inside in
    let made = c.make_room.ensures in (
      (λ whole. roomed d.seen d.may_leave tells old.journal c.make_room.new.journal old.lines old.next (c.self.invariant.0 whole) made.settled made.device made.staged),
      last_told d.seen d.may_leave d.moment d.left_since tells tells old.journal.device c.make_room.new.journal.device old.lines old.marks (λ k l is. is) made.device c.self.invariant.1,
      c.self.invariant.2,
      (λ whole some. made.room c.if-not-make_room.false),
    )
