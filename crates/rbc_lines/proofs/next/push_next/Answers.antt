use Rattle.std.proofs.Common.{◌≡◌, [], ◌∷◌, ◌++◌, ◌∙◌, ap, sym}
use Rattle.rbc_model.specs.Views.{reach, greatest_end}
use Rattle.rbc_scene.specs.Reaches.{scene_of}
use Rattle.rbc_lines.specs.declared.next.Next.{Next}
use Rattle.rbc_lines.specs.Nexts.{next_of}
use Rattle.rbc_lines.proofs.next.push_next.Goals as goal

pub returns : goal.returns
returns c =
    let book = c.args.book.now in
    let known = c.args.train.now in
    let scene = scene_of c.args.locks.now book.trains in
    let of_track = c.requires.track in
    let back : book.track ≡ known.track = sym of_track in
    let place = c.place.ensures.place ∙ c.in_ok-found.ensures.place in
    let obstacle = c.obstacle.ensures ∙ c.in_ok-found.ensures.obstacle in
    let end = c.greatest_end.ensures.greatest scene (c.in_ok-found.ensures.place ∙ (λ j. reach (back j) scene known.train)) ∙ (λ j. greatest_end (of_track j) scene known.train) in
    let same : ◌≡◌ {A = Next} (record { end = c.greatest_end.result; reach = c.place.result; obstacle = c.obstacle.result }) (next_of book.track scene known.train) =
    λ j. record { end = end j; reach = place j; obstacle = obstacle j } in
    c.in_ok-push.ensures.items ∙ ap (λ next. c.args.nexts.now.items ++ next ∷ []) same
