use Rattle.std.proofs.Common.{rules, ap, Ok, length}
use Rattle.std.specs.Result.{result_map_both}
use Rattle.rbc_desk.specs.Asking.{fault_at, IsViewIn}
use Rattle.rbc_desk.proofs.shared.full_refusal.Goals as goal

pub returns-in-Ok : goal.returns-in-Ok
returns-in-Ok c =
    let seen : IsViewIn c.args.log.now c.args.train c.in-Ok._seen = search rules in
    (c.requires, (c.in-Ok._seen.0, ap (result_map_both (λ view. view) (fault_at (length c.args.log.now.entries))) seen.0))
