use Rattle.std.proofs.Common.{◌∙◌, None, subst, sym}
use Rattle.rbc_sweep.specs.Records.{begin_of}
use Rattle.rbc_model.specs.SessionReply.{Memory, refused_reply}
use Rattle.rbc_session_laws.specs.Turns.{AnswersInquiry}
use Rattle.rbc_sessions.proofs.ShowingLemmas.{scene_refused, scene_shown, shown_replied, state_line, state_shown}
use Rattle.rbc_sessions.proofs.context.SessionContext.show.Goals as goal

pub returns-in-State : goal.returns-in-State
returns-in-State g c =
    let told = c.state-state.new.seat.told in
    let state = c.state-state.result in (
      state_line state,
      shown_replied c.args.inquiry (state_line state) c.args.seat.now c.state-state.new.seat c.state-state.ensures.later
          (subst (AnswersInquiry (begin_of told) told.entries (state_line state) None) (sym c.in-State.is) (state_shown told state c.state-state.ensures.state)) c.state-state.ensures.receipts,
      record { text = c.print_state.ensures.text; failed = c.print_state.ensures.failed },
    )

pub returns-in-Ok : goal.returns-in-Ok
returns-in-Ok g c =
    let told = c.scene.new.seat.told in
    let (reply, says, printed) = c.print_shown.ensures in (
      reply,
      shown_replied c.args.inquiry reply c.args.seat.now c.scene.new.seat c.scene.ensures.later
          (subst (AnswersInquiry (begin_of told) told.entries reply None) (sym c.in-Scene.is)
          (scene_shown told c.deref.result.now c.in-Ok.version reply (c.deref.ensures ∙ c.in-Ok.ensures.scene) c.in-Ok.ensures.version says))
          c.scene.ensures.receipts,
      printed,
    )

pub returns-in-Err : goal.returns-in-Err
returns-in-Err g c =
    let told = c.scene.new.seat.told in
    let track = c.args.self.now.track.now in
    let before = c.known.ensures in
    let later = c.scene.ensures.later in
    let reply = refused_reply track Memory in (
      reply,
      shown_replied c.args.inquiry reply c.args.seat.now c.scene.new.seat later
          (subst (AnswersInquiry (begin_of told) told.entries reply None) (sym c.in-Scene.is) (scene_refused told track (c.args.self.now.of_desk ∙ sym before.track ∙ sym later.track)))
          c.scene.ensures.receipts,
      record { text = c.print.ensures.text; failed = c.print.ensures.failed },
    )
