use Rattle.std.proofs.Common.{List, ℕ, subst, sym}
use Rattle.std.specs.Str.{IsUtf8}
use Rattle.rbc_track.proofs.KeepingLemmas.{name_utf8}
use Rattle.rbc_track.proofs.name.Name.as_str.Goals as goal

pub returns-in-Err : goal.returns-in-Err
returns-in-Err c =
    let text : IsUtf8 c.text.result.now = subst (λ (bytes : List ℕ). IsUtf8 bytes) (sym c.text.ensures.text) (name_utf8 c.args.self.now c.known.ensures.name) in
    absurd (c.in-Err.ensures.cases.0 text)
