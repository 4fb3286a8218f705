use Rattle.std.proofs.Common.{[], ◌∷◌, Bool, refl, sym, ◌∙◌, ap}
use Rattle.std.specs.Prelude.{◌&&◌, not, bytes_eq}
use Rattle.rbc_journal.proofs.PutLemmas.{put_ends, put_marked}
use Rattle.rbc_journal.proofs.reading.ends_well.Goals as goal

pub returns-then-is_marked : goal.returns-then-is_marked
returns-then-is_marked c =
    let behind = c.args.behind.now in
    let put = c.in-Some.put in
    let found = c.in-Some.ensures.some in
    sym (put_ends c.args.seal.now (32 ∷ behind) found.0 put.seal put.rest.now found.1
    ∙ ap (λ (b : Bool). not b && bytes_eq put.rest.now (35 ∷ []))
    (put_marked c.args.seal.now (32 ∷ behind) found.0 put.seal put.rest.now found.1 behind refl ∙ sym c.is_marked.ensures ∙ c.if-is_marked.true))

pub returns : goal.returns
returns c =
    let behind = c.args.behind.now in
    let put = c.in-Some.put in
    let found = c.in-Some.ensures.some in
    c.eq.ensures ∙ ap (bytes_eq put.rest.now) c.as_slice.ensures
    ∙ sym (put_ends c.args.seal.now (32 ∷ behind) found.0 put.seal put.rest.now found.1
    ∙ ap (λ (b : Bool). not b && bytes_eq put.rest.now (35 ∷ []))
    (put_marked c.args.seal.now (32 ∷ behind) found.0 put.seal put.rest.now found.1 behind refl ∙ sym c.is_marked.ensures ∙ c.if-is_marked.false))
