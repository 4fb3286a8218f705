-- Lemmas on the steps of the published value's ends: each keeps the rule.
use Rattle.std.proofs.Common.{◌≡◌, ◌≢◌, ◌≤◌, ℕ, true≢false, List, length, set, refl, sym, ap, subst, ◌∙◌, ⊎_elim, le_refl, le_trans, zero-le}
use Rattle.std.specs.Prelude.{Result, Ok, Err, MatchResult}
use mathlib.Core.Option.{some}
use lib.ListN.{get_elem?}
use Rattle.crossbeam_utils.specs.Register.{Admits, TurnsAt, Forks, Merges}
use Rattle.atomic_table.proofs.Lists.{at_set, at_snoc}
use Rattle.logbook.specs.Pages.{Book}
use Rattle.rbc_snap.specs.declared.published.Published.{Published}
use Rattle.rbc_snap.specs.declared.rule.Known.{Known}
use Rattle.rbc_snap.specs.Knowing.{stranger, knower, knower_of, Knows, Agree}
use Rattle.rbc_snap.specs.Later.{IsLater}
use Rattle.rbc_snap.specs.Sights.{SeenOf}
use Rattle.rbc_snap.proofs.LaterLemmas.{later_itself}

abbrev Holds : Published → List Known → Type 0
Holds x views = Agree x.sight views

strange : (b : SeenOf) (v : Known) → stranger ≡ v → Knows b v
strange b v is = (
  (λ on. absurd (true≢false (sym on ∙ sym (ap (λ (k : Known). k.knows) is)))),
  subst (λ (n : ℕ). n ≤ length b.history.entries) (ap (λ (k : Known). k.entries) is) zero-le,
)

pub admits : Admits Holds stranger
admits x views h seat v at = ⊎_elim (λ was. h seat v was) (λ is. strange x.sight v is) (at_snoc views stranger v seat at)

-- the view of one seat changes
agree_set : (b : SeenOf) (views : List Known) (seat : ℕ) (w : Known) → Agree b views → Knows b w → Agree b (set views seat w)
agree_set b views seat w h mine j u e = ⊎_elim (λ (t : (j ≡ seat) × (w ≡ u)). subst (Knows b) t.1 mine) (λ (t : (j ≢ seat) × (get_elem? views j ≡ some u)). h j u t.1) (at_set views seat j w u e)

-- what goes on in the same history has all that was known of it
knows_still : (a b : SeenOf) (v : Known) → a.book ≡ b.book → length a.history.entries ≤ length b.history.entries → Knows a v → Knows b v
knows_still a b v same more h = (λ on. h.0 on ∙ ap (λ (book : Book). knower book v.entries) same, le_trans h.1 more)

-- what is published stays of the same history, and has no fewer entries
pub sees : (seat : ℕ) (v : Known) (x y : Published) → x.sight.book ≡ y.sight.book → length x.sight.history.entries ≤ length y.sight.history.entries
    → TurnsAt Holds seat v x y (λ v x y w. Knows y.sight v × (w ≡ knower_of y.sight))
sees seat v x y same more views h at =
    let now : Agree y.sight views = λ j u e. knows_still x.sight y.sight u same more (h j u e) in
    (knower_of y.sight, agree_set y.sight views seat (knower_of y.sight) now (λ _. refl, le_refl (length y.sight.history.entries)), (now seat v at, refl))

pub forks : (seat : ℕ) (v : Known) → Forks Holds seat v v v
forks seat v x views h at j u e = ⊎_elim (λ was. agree_set x.sight views seat v h (h seat v at) j u was) (λ (same : v ≡ u). subst (Knows x.sight) same (h seat v at)) (at_snoc (set views seat v) v u j e)

pub merges : (seat : ℕ) (v : Known) (other : ℕ) (w : Known) → Merges Holds seat v other w w stranger
merges seat v other w x views h at apart there =
    let theirs : Knows x.sight w = ⊎_elim (λ (t : (other ≡ seat) × (w ≡ w)). absurd (apart t.0)) (λ (t : (other ≢ seat) × (get_elem? views other ≡ some w)). h other w t.1) (at_set views seat other w w there) in
    agree_set x.sight (set views seat w) other stranger (agree_set x.sight views seat w h theirs) (strange x.sight stranger refl)

-- whether or not the newest moment could be shown, what is shown is of its history, and a beginning of it
pub still_shown : {A E : Type 0} (answer : Result A E) (old new issue sight : SeenOf) → MatchResult answer (λ _. new ≡ issue) (λ _. new ≡ old) → issue ≡ sight
    → old.book ≡ sight.book → IsLater old.history sight.history → (new.book ≡ sight.book) × IsLater new.history sight.history
still_shown (Ok x) old new issue sight h same book later =
    let now = h ∙ same in (ap (λ (s : SeenOf). s.book) now, subst (λ (s : SeenOf). IsLater s.history sight.history) (sym now) (later_itself sight.history later.right))
still_shown (Err x) old new issue sight h same book later =
    (ap (λ (s : SeenOf). s.book) h ∙ book, subst (λ (s : SeenOf). IsLater s.history sight.history) (sym h) later)
