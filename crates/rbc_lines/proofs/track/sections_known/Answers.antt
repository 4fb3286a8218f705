use Rattle.std.proofs.Common.{subst}
use Rattle.std.specs.Prelude.{IsTrue}
use Rattle.std.proofs.lemmas.List.Elements.{All-from_recursion}
use Rattle.rbc_model.specs.Names.{is_name}
use Rattle.rbc_model.specs.Tracks.{Section}
use Rattle.rbc_lines.proofs.OfTrackLemmas.{all-next, all-end}
use Rattle.rbc_lines.proofs.track.sections_known.Goals as goal

pub loop-section-preserved : goal.loop-section-preserved
loop-section-preserved c =
    let loop = c.loop-section in
    let item = c.section-item in
    let here = subst (λ text. IsTrue (is_name text)) c.name.ensures c.known.ensures.name in
    record {
      whole = λ rest. loop.invariant.whole (all-next (λ (section : Section). IsTrue (is_name section.name)) c.args.sections.now loop.section-index item.result c.loop-section-test.true item.is here rest);
    }

pub returns : goal.returns
returns c =
    let loop = c.loop-section in
    All-from_recursion (λ (section : Section). IsTrue (is_name section.name)) c.args.sections.now (loop.invariant.whole (all-end (λ (section : Section). IsTrue (is_name section.name)) c.args.sections.now loop.section-index c.loop-section-test.false))
