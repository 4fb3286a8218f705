use Rattle.std.proofs.Common.{codes, decimal}
use Rattle.rbc_decode.specs.Meanings.{place_meaning}
use Rattle.rbc_decode.proofs.OutBufferLemmas.{behind}
use Rattle.rbc_decode.proofs.meaning.gather_pace.Goals as goal

pub returns-clause-text : goal.returns-clause-text
returns-clause-text c =
    let walk = c.args.walk.now in
    behind c.args.buffer.now (decimal c.args.kmh) (place_meaning walk (codes " km/h from ") walk.from) c.number.ensures.text c.gather_place.ensures.text
