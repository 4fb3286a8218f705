use Rattle.std.proofs.Common.{◌≡◌, ◌∙◌, ap, rules, replicate, List, Option, None}
use Rattle.rbc_model.specs.declared.tracks.Lock.{Lock}
use Rattle.rbc_locks.proofs.NextTableLemmas.{no_locks-replicate, next_table-none}
use Rattle.rbc_locks.proofs.locks.Locks.new.Goals as goal

no_rows : (c : goal.In_ok-next_legs) → c.resize.new.self.items ≡ replicate c.section_count-sections.result None
no_rows c = search rules

pub invariant_of-result : goal.invariant_of-result
invariant_of-result c = rw (no_rows c, c.in_ok-next_legs.ensures) (next_table-none c.section_count-sections.result)

pub returns : goal.returns
returns c =
    no_rows c ∙ ap (λ n. let locks : List (Option Lock) = replicate n None in locks) c.section_count-sections.ensures.count
    ∙ no_locks-replicate c.args.track.now
