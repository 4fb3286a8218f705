use Rattle.std.proofs.Common.{◌∷◌, Bool, refl, sym, ◌∙◌, ap}
use Rattle.std.specs.Prelude.{◌||◌}
use Rattle.rbc_journal.specs.Reading.{opens_more}
use Rattle.rbc_journal.proofs.PutLemmas.{put_was_open, put_marked}
use Rattle.rbc_journal.proofs.reading.was_open.Goals as goal

pub returns-then-is_marked : goal.returns-then-is_marked
returns-then-is_marked c =
    let behind = c.args.behind.now in
    let put = c.in-Some.put in
    let found = c.in-Some.ensures.some in
    sym (put_was_open c.args.seal.now (32 ∷ behind) found.0 put.seal put.rest.now found.1
    ∙ ap (λ (b : Bool). b || opens_more put.rest.now)
    (put_marked c.args.seal.now (32 ∷ behind) found.0 put.seal put.rest.now found.1 behind refl ∙ sym c.is_marked.ensures ∙ c.if-is_marked.true))

pub returns : goal.returns
returns c =
    let behind = c.args.behind.now in
    let put = c.in-Some.put in
    let found = c.in-Some.ensures.some in
    c.opens_more.ensures
    ∙ sym (put_was_open c.args.seal.now (32 ∷ behind) found.0 put.seal put.rest.now found.1
    ∙ ap (λ (b : Bool). b || opens_more put.rest.now)
    (put_marked c.args.seal.now (32 ∷ behind) found.0 put.seal put.rest.now found.1 behind refl ∙ sym c.is_marked.ensures ∙ c.if-is_marked.false))
