-- A key that is not there is put behind the others, and its place is how many there were.
use Rattle.std.proofs.Common.{◌≡◌, ℕ, false, None, Option, Some, cond, length, position, not, refl, sym, ap, ◌∙◌, arith, subst, ◌∷◌, [], ◌++◌}
use Rattle.std.specs.Prelude.{is_some}
use Rattle.std.specs.List.{IsDistinct, list_any}
use Rattle.rbc_model.proofs.ResultLemmas.{on_err}
use Rattle.rbc_track.proofs.KeyLemmas.{IsDistinct-behind, any-is, place, place-behind, place-is}
use Rattle.rbc_track.proofs.keys.Keys.insert.Given.{Over}
use Rattle.rbc_track.proofs.keys.Keys.insert.Goals as goal
use Rattle.rbc_track.proofs.keys.Keys.insert.Goals.{After-contains_key}

-- whether the key is there
there : (g : Over) (c : After-contains_key g) → list_any (g.K.PartialEq.eq c.args.key) c.args.self.now ≡ c.contains_key.result
there g c =
    let test = g.K.PartialEq.eq c.args.key in
    ap (list_any test) (sym c.self.view_is) ∙ any-is test c.self.inside.keys.items ∙ ap is_some (sym (place-is test c.self.inside.keys.items) ∙ sym (c.self.invariant.each c.args.key)) ∙ sym c.contains_key.ensures

none : (o : Option ℕ) → is_some o ≡ false → o ≡ None
none None h = refl
none (Some n) h = cc

pub returns-then-contains_key-clause-new : goal.returns-then-contains_key-clause-new
returns-then-contains_key-clause-new g c =
    let a = (goal.at.returns-then-contains_key-clause-new g c).After-contains_key in ap not (sym c.if-contains_key.true ∙ sym (there g a))

pub returns-in_err-reserve-clause-absent : goal.returns-in_err-reserve-clause-absent
returns-in_err-reserve-clause-absent g c =
    let a = (goal.at.returns-in_err-reserve-clause-absent g c).After-contains_key in on_err c.from_residual.result (list_any (g.K.PartialEq.eq c.args.key) c.args.self.now ≡ false) (there g a ∙ c.if-contains_key.false)

pub returns-in_err-insert-clause-absent : goal.returns-in_err-insert-clause-absent
returns-in_err-insert-clause-absent g c =
    let a = (goal.at.returns-in_err-insert-clause-absent g c).After-contains_key in on_err c.from_residual-in_err-insert.result (list_any (g.K.PartialEq.eq c.args.key) c.args.self.now ≡ false) (there g a ∙ c.if-contains_key.false)

pub returns-clause-new : goal.returns-clause-new
returns-clause-new g c = let a = (goal.at.returns-clause-new g c).After-contains_key in ap not (sym c.if-contains_key.false ∙ sym (there g a))

pub invariant_of-self-2 : goal.invariant_of-self-2
invariant_of-self-2 g c =
    let eq = g.K.PartialEq.eq in
    let keys = c.self.inside.keys.items in
    let before : c.reserve.new.self.items ≡ keys = c.reserve.ensures.items in
    let new : place (eq c.args.key) keys ≡ None =
    none (place (eq c.args.key) keys) (ap is_some (sym (place-is (eq c.args.key) keys) ∙ sym (c.self.invariant.each c.args.key)) ∙ sym c.contains_key.ensures ∙ c.if-contains_key.false) in
    let after : c.push_reserved.new.self.items ≡ keys ++ c.args.key ∷ [] = c.push_reserved.ensures.items ∙ ap (λ k. k ++ c.args.key ∷ []) before in
    let same : length c.reserve.new.self.items ≡ length keys = ap length before in
    let last : c.len.result ≡ length keys = omega (arith, c.len.ensures, same) in
    record {
      distinct = subst (IsDistinct eq) (sym after) (IsDistinct-behind eq g.met.K.Eq.laws c.args.key keys c.self.invariant.distinct new);
      each = λ q. c.in_ok-insert.ensures.updates.0 q
          ∙ ap (λ o. cond (eq c.args.key q) (Some c.len.result) o) (c.self.invariant.each q ∙ place-is (eq q) keys)
          ∙ ap (λ n. cond (eq c.args.key q) (Some n) (place (eq q) keys)) last
          ∙ sym (place-behind eq g.met.K.Eq.laws c.args.key q keys new)
          ∙ sym (place-is (eq q) (keys ++ c.args.key ∷ []))
          ∙ ap (position (eq q)) (sym after);
    }
