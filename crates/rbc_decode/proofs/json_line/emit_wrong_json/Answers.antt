use Rattle.std.proofs.Common.{ap, sym}
use Rattle.rbc_streams.proofs.EmittingLemmas.{emits_as}
use Rattle.rbc_decode.specs.JsonText.{wrong_json}
use Rattle.rbc_decode.proofs.json_line.emit_wrong_json.Goals as goal

pub returns-in-Digits : goal.returns-in-Digits
returns-in-Digits g c = emits_as (ap (wrong_json c.args.line) (sym c.in-Digits.is)) c.emit_broken.ensures

pub returns-in-Overlong : goal.returns-in-Overlong
returns-in-Overlong g c = emits_as (ap (wrong_json c.args.line) (sym c.in-Overlong.is)) c.emit_overlong.ensures
