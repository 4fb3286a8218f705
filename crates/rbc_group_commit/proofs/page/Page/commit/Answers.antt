use Rattle.std.proofs.Common.{◌≡◌, true, false, arith, subst, sym, true≢false}
use Rattle.rbc_group_commit.specs.Pages.{AllLast}
use Rattle.rbc_group_commit.proofs.PageLemmas.{committed, last_on, stamped}
use Rattle.rbc_group_commit.proofs.page.Page.commit.Goals as goal

failed_whole : {A : Type 0} → true ≡ false → A
failed_whole e = absurd (true≢false e)

pub invariant_of-self : goal.invariant_of-self
invariant_of-self g c =
    let d = g.D.Device in
    let tells = g.T.ToldHistory.tells c.self.inside.told in
    let old = c.self.inside in
    let whole = c.self.invariant.0 c.if-self.false in (
      failed_whole,
      last_on d.seen d.may_leave d.moment d.left_since tells old.journal c.commit.new.self.device old.lines old.next old.marks old.lines whole (omega arith) c.commit.ensures.any_moment c.self.invariant.1,
      c.self.invariant.2,
      failed_whole,
    )

pub invariant_of-self-2 : goal.invariant_of-self-2
invariant_of-self-2 g c =
    let d = g.D.Device in
    let tells = g.T.ToldHistory.tells c.self.inside.told in
    let old = c.self.inside in
    let new = c.commit.new.self in
    let whole = c.self.invariant.0 c.if-self.false in
    let done = c.in-Ok.ensures.acknowledged in
    let is = committed d.seen d.may_leave tells old.journal new old.lines old.next whole done.0 done.1 done.2 in
    let before = last_on d.seen d.may_leave d.moment d.left_since tells old.journal new.device old.lines old.next old.marks old.next whole c.self.invariant.2 c.commit.ensures.any_moment c.self.invariant.1 in
    let after = stamped d.seen d.may_leave d.moment d.left_since g.met.D.Device.only_now tells new old.next old.marks is before in (
      (λ _. is),
      subst (λ stamps. AllLast d.moment d.left_since tells new.device old.next stamps) (sym c.stamp.ensures.stamps) after,
      omega arith,
      (λ _ none. absurd (omega (arith, none))),
    )
