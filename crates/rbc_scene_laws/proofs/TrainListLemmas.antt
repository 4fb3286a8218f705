-- A scene's trains after a train is replaced or added: what holds of each and of each pair.
use Rattle.std.proofs.Common.{◌≡◌, ℕ, Bool, true, false, cond, List, [], ◌∷◌, ◌++◌, map, Option, Some, None, refl, sym, ◌∙◌, subst, ◌⊎◌, inl, inr}
use Rattle.std.specs.Prelude.{is_some, ◌==◌, find}
use Rattle.std.specs.List.{AllByRecursion}
use Rattle.std.proofs.lemmas.Bool.{eqb-true, both_ways, eqb-false}
use Rattle.rbc_model.specs.Trains.{Train}
use Rattle.rbc_model.specs.Scenes.{Scene, train_numbered}
use Rattle.rbc_model.specs.Events.{with_train}
use Rattle.rbc_scene_laws.proofs.BasicLemmas.{EachPair, each_weaker, each_both, pairs_push}
use Rattle.std.proofs.ByRecursion.{All-push}

-- ---- searching

found_cases : {X : Type 0} (b : Bool) (x y : X) (rest : Option X) → cond b (Some x) rest ≡ Some y → ((b ≡ true) × (x ≡ y)) ⊎ ((b ≡ false) × (rest ≡ Some y))
found_cases true x y rest h = inl (refl, cc)
found_cases false x y rest h = inr (refl, h)

missed : {X : Type 0} (b : Bool) (x : X) (rest : Option X) → cond b (Some x) rest ≡ None → (b ≡ false) × (rest ≡ None)
missed true x rest h = cc
missed false x rest h = (refl, h)

pub find-holds : {X : Type 0} (P : X → Type 0) (test : X → Bool) (xs : List X) (x : X) → find test xs ≡ Some x → AllByRecursion P xs → P x
find-holds P test [] x h all = cc
find-holds P test (y ∷ xs) x h all =
    elim (found_cases (test y) y x (find test xs) h) [ inl e ↦ subst P e.1 all.0 | inr e ↦ find-holds P test xs x e.1 all.1 ]

pub find-none : {X : Type 0} (test : X → Bool) (xs : List X) → find test xs ≡ None → AllByRecursion (λ x. test x ≡ false) xs
find-none test [] h = tt
find-none test (y ∷ xs) h = let e = missed (test y) y (find test xs) h in (e.0, find-none test xs e.1)

-- ---- numbers

-- the trains have two numbers
abbrev pub Differ : Train → Train → Type 0
Differ a b = (a.report.train ≡ b.report.train) → ⊥

-- a train found by its number, beside each other train
pub found_beside : (R : Train → Train → Type 0) (n : ℕ) (xs : List Train) (train : Train) → ((a b : Train) → R a b → R b a)
    → find (λ t. t.report.train == n) xs ≡ Some train → EachPair R xs → AllByRecursion (λ other. (other.report.train == n) ≡ false → R train other) xs
found_beside R n [] train flip h pairs = tt
found_beside R n (x ∷ xs) train flip h pairs =
    elim (found_cases (x.report.train == n) x train (find (λ t. t.report.train == n) xs) h) [
      | inl e ↦
          ((λ other. absurd (both_ways (x.report.train == n) other e.0)), each_weaker (R x) (λ other. (other.report.train == n) ≡ false → R train other) xs (λ other r apart. subst (λ z. R z other) e.1 r) pairs.0)
      | inr e ↦
          ((λ other. flip x train (find-holds (R x) (λ t. t.report.train == n) xs train e.1 pairs.0)), found_beside R n xs train flip e.1 pairs.1)
    ]

-- ---- replacing

-- the train in the place of that of its number
abbrev pub swap : Train → Train → Train
swap train other = cond (other.report.train == train.report.train) train other

swapped : (P : Train → Type 0) (b : Bool) (train other : Train) → P train → P other → P (cond b train other)
swapped P true train other h k = h
swapped P false train other h k = k

swapped_to : (P : Train → Type 0) (b : Bool) (train other : Train) → (b ≡ true → P train) → (b ≡ false → P other) → P (cond b train other)
swapped_to P true train other h k = h refl
swapped_to P false train other h k = k refl

pub each_swapped : (P : Train → Type 0) (train : Train) (xs : List Train) → AllByRecursion P xs → P train → AllByRecursion P (map (swap train) xs)
each_swapped P train [] h k = tt
each_swapped P train (x ∷ xs) h k = (swapped P (x.report.train == train.report.train) train x k h.0, each_swapped P train xs h.1 k)

each_map : (P : Train → Type 0) (f : Train → Train) (xs : List Train) → AllByRecursion (λ x. P (f x)) xs → AllByRecursion P (map f xs)
each_map P f [] h = tt
each_map P f (x ∷ xs) h = (h.0, each_map P f xs h.1)

-- two trains stand so to one another, both ways
abbrev pub Both : (Train → Train → Type 0) → Train → Train → Type 0
Both R a b = R a b × R b a

each_three : (P Q S T : Train → Type 0) (xs : List Train) → ((x : Train) → P x → Q x → S x → T x) → AllByRecursion P xs → AllByRecursion Q xs → AllByRecursion S xs → AllByRecursion T xs
each_three P Q S T [] f h k l = tt
each_three P Q S T (x ∷ xs) f h k l = (f x h.0 k.0 l.0, each_three P Q S T xs f h.1 k.1 l.1)

-- the train beside one that is not of its number
abbrev pub Beside : (Train → Train → Type 0) → Train → Train → Type 0
Beside R train other = (other.report.train == train.report.train) ≡ false → Both R train other

first_swapped : (R : Train → Train → Type 0) (train x : Train) (xs : List Train) → AllByRecursion (R x) xs → AllByRecursion (Differ x) xs → Beside R train x → AllByRecursion (Beside R train) xs → AllByRecursion (R (swap train x)) (map (swap train) xs)
first_swapped R train x xs pairs differ here others =
    each_map (R (swap train x)) (swap train) xs
    (each_three (R x) (Differ x) (Beside R train) (λ y. R (swap train x) (swap train y)) xs
    (λ y r apart beside.
    swapped_to (λ z. R z (swap train y)) (x.report.train == train.report.train) train x
    (λ same. swapped_to (R train) (y.report.train == train.report.train) train y
    (λ also. absurd (apart (eqb-true x.report.train train.report.train same ∙ sym (eqb-true y.report.train train.report.train also))))
    (λ other. (beside other).0))
    (λ other. swapped_to (R x) (y.report.train == train.report.train) train y (λ also. (here other).1) (λ too. r)))
    pairs differ others)

pub pairs_swapped : (R : Train → Train → Type 0) (train : Train) (xs : List Train) → EachPair R xs → EachPair Differ xs → AllByRecursion (Beside R train) xs → EachPair R (map (swap train) xs)
pairs_swapped R train [] pairs differ beside = tt
pairs_swapped R train (x ∷ xs) pairs differ beside = (first_swapped R train x xs pairs.0 differ.0 beside.0 beside.1, pairs_swapped R train xs pairs.1 differ.1 beside.1)

-- ---- the scene with a train as it is now

by_test : (P : List Train → Type 0) (b : Bool) (xs ys : List Train) → (b ≡ true → P xs) → (b ≡ false → P ys) → P (cond b xs ys)
by_test P true xs ys h k = h refl
by_test P false xs ys h k = k refl

none_some : {X : Type 0} (o : Option X) → is_some o ≡ false → o ≡ None
none_some None h = refl
none_some (Some x) h = cc

pub each_with_train : (P : Train → Type 0) (scene : Scene) (train : Train) → AllByRecursion P scene.trains → P train → AllByRecursion P (with_train scene train).trains
each_with_train P scene train all here =
    by_test (AllByRecursion P) (is_some (train_numbered scene train.report.train)) (map (swap train) scene.trains) (scene.trains ++ train ∷ [])
    (λ known. each_swapped P train scene.trains all here) (λ new. All-push P scene.trains train all here)

pub pairs_with_train : (R : Train → Train → Type 0) (scene : Scene) (train : Train) → EachPair R scene.trains → EachPair Differ scene.trains → AllByRecursion (Beside R train) scene.trains → EachPair R (with_train scene train).trains
pairs_with_train R scene train pairs differ beside =
    by_test (EachPair R) (is_some (train_numbered scene train.report.train)) (map (swap train) scene.trains) (scene.trains ++ train ∷ [])
    (λ known. pairs_swapped R train scene.trains pairs differ beside)
    (λ new. pairs_push R scene.trains train pairs
    (each_both (λ (x : Train). (x.report.train == train.report.train) ≡ false) (Beside R train) (λ x. R x train) scene.trains (λ x other b. (b other).1)
    (find-none (λ (x : Train). x.report.train == train.report.train) scene.trains (none_some (train_numbered scene train.report.train) new)) beside))

-- numbers go on to differ
pub differ_with_train : (scene : Scene) (train : Train) → EachPair Differ scene.trains → EachPair Differ (with_train scene train).trains
differ_with_train scene train differ = pairs_with_train Differ scene train differ differ (all_beside scene.trains)
  where
    all_beside : (xs : List Train) → AllByRecursion (Beside Differ train) xs
    all_beside [] = tt
    all_beside (x ∷ xs) = ((λ other. ((λ e. eqb-false x.report.train train.report.train other (sym e)), (λ e. eqb-false x.report.train train.report.train other e))), all_beside xs)
