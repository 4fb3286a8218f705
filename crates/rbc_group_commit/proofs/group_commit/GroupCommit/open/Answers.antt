use Rattle.rbc_group_commit.proofs.group_commit.GroupCommit.open.Goals as goal

pub invariant_of-waiting : goal.invariant_of-waiting
invariant_of-waiting g c = record {
  all = c.in-Ok-Ok.ensures.count;
  in_place = λ at place is. absurd (c.in-Ok-Ok.ensures.lacks place at is);
}
