use Rattle.std.proofs.Common.{◌∙◌, subst, sym}
use Rattle.rbc_model.specs.SessionText.{Ask}
use Rattle.rbc_model.specs.SoundTracks.{IsInForm}
use Rattle.rbc_sessions.proofs.GrantLemmas.{grant_adds}
use Rattle.rbc_sessions.proofs.context.SessionContext.lay_grant.Goals as goal

pub lay-requires : goal.lay-requires
lay-requires g c =
    let later = c.known-2.ensures in
    record {
      told = (
        Ask c.args.train,
        c.in_ok-text.ensures.says,
        grant_adds c.args.seat.now.told c.args.train c.args.granted.now c.requires.told (subst IsInForm (c.args.self.now.of_desk ∙ sym later.track) c.known.ensures.form),
      );
    }
