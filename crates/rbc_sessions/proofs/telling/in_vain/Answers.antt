use Rattle.std.proofs.Common.{◌≡◌, refl, sym, subst, ◌∙◌}
use Rattle.rbc_model.specs.declared.memory.OrMemory.TheVariants.{Refused, Memory as NoMemory}
use Rattle.rbc_model.specs.SoundTracks.{IsSound}
use Rattle.rbc_replies.specs.declared.replies.SessionRefusal.TheVariants.{Memory}
use Rattle.rbc_sweep.specs.ApplyFault.{ApplyFault}
use Rattle.rbc_model.specs.declared.memory.OrMemory.{OrMemory}
use Rattle.rbc_sessions.proofs.TellingLemmas.{not_told_comes, not_told_named}
use Rattle.rbc_sessions.proofs.telling.in_vain.Goals as goal

no_memory : {X : Type 0} (fault : ApplyFault) → (let f : OrMemory ApplyFault = Refused fault in f) ≡ NoMemory → X
no_memory fault e = absurd (let c : ⊥ = cc in c)

pub returns-in-Some-clause-comes : goal.returns-in-Some-clause-comes
returns-in-Some-clause-comes c =
    not_told_comes c.args.history.now c.args.told.now (Refused c.in-Some.fault) c.refusal_of.result c.args.history.now c.in-Some.ensures.refused (no_memory c.in-Some.fault) c.refusal_of.ensures refl

pub returns-in-Some-clause-whole : goal.returns-in-Some-clause-whole
returns-in-Some-clause-whole c =
    let sound = subst IsSound (c.deref.ensures ∙ c.track.ensures) c.known.ensures.sound in
    rw c.refusal_of.ensures (not_told_named c.args.history.now c.args.told.now (Refused c.in-Some.fault) sound c.requires c.in-Some.ensures.refused)

pub returns-in-None-clause-comes : goal.returns-in-None-clause-comes
returns-in-None-clause-comes c =
    not_told_comes c.args.history.now c.args.told.now NoMemory Memory c.args.history.now tt (λ e. sym c.refusal.ensures.at_once ∙ c.in-None.is) refl refl
