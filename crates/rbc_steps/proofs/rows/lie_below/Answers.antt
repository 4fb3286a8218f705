use Rattle.std.proofs.Common.{◌≡◌, true, ◌&&◌, ◌∙◌, sym, ap, nat_le, nat_lt}
use Rattle.std.specs.List.{list_all}
use Rattle.std.proofs.lemmas.Bool.{le-leb}
use Rattle.std.proofs.lemmas.List.Folds.{list_all-map}
use Rattle.rbc_model.specs.Profiles.{starts_of}
use Rattle.rbc_steps.proofs.rows.lie_below.Goals as goal

pub returns-then-end-le-LONGEST_TRACK : goal.returns-then-end-le-LONGEST_TRACK
returns-then-end-le-LONGEST_TRACK g c =
    let near : nat_le c.args.end 100000 ≡ true = le-leb c.args.end 100000 c.if-end-le-LONGEST_TRACK.true in
    c.start_below.ensures
    ∙ sym (list_all-map (λ start. nat_lt start c.args.end) (λ s. s.0) c.args.rows.now)
    ∙ ap (λ b. b && list_all (λ start. nat_lt start c.args.end) (starts_of c.args.rows.now)) (sym near)
