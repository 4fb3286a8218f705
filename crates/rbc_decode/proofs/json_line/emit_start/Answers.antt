use Rattle.std.proofs.Common.{◌++◌, List, ℕ, codes, decimal, append-nil, ap₂, ◌∙◌}
use Rattle.rbc_streams.proofs.EmittingLemmas.{emits_as}
use Rattle.rbc_decode.proofs.json_line.emit_start.Goals as goal

pub returns : goal.returns
returns g c =
    let line : List ℕ → List ℕ → List ℕ = λ granted kind. codes "{\"line\":" ++ (decimal c.args.heading.line ++ (granted ++ kind)) in
    emits_as (ap₂ line (c.bytes.ensures ∙ c.granted_member-member.ensures) (append-nil c.kind_member.result.now ∙ c.kind_member.ensures)) c.emit_pieces.ensures
