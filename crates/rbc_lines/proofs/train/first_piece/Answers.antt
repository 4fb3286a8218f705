use Rattle.std.proofs.Common.{◌≡◌, min, length, ap, ◌∙◌, take, drop, rules}
use Rattle.std.proofs.lemmas.List.{take_min, drop_min}
use Rattle.rbc_lines.proofs.train.first_piece.Goals as goal

pub returns-clause-front : goal.returns-clause-front
returns-clause-front c =
    let least : c.min.result ≡ min 64 (length c.args.legs.now) = search rules in
    c.split_at.ensures.front ∙ ap (λ n. take n c.args.legs.now) least ∙ take_min 64 c.args.legs.now

pub returns-clause-back : goal.returns-clause-back
returns-clause-back c =
    let least : c.min.result ≡ min 64 (length c.args.legs.now) = search rules in
    c.split_at.ensures.back ∙ ap (λ n. drop n c.args.legs.now) least ∙ drop_min 64 c.args.legs.now
