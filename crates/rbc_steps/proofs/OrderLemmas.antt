-- Two values are the same where their comparison says so.
use Rattle.std.proofs.Common.{◌≡◌, Bool, ◌&&◌, refl, sym, ◌∙◌, ap}
use Rattle.std.specs.declared.cmp.Ordering.{Ordering}
use Rattle.std.specs.declared.cmp.Ordering.TheVariants.{Less, Equal, Greater}
use Rattle.std.specs.Ordering.{is_le, is_eq, ordering_reverse}

either_way : (o : Ordering) → is_eq (ordering_reverse o) ≡ (is_le (ordering_reverse o) && is_le o)
either_way Less = refl
either_way Equal = refl
either_way Greater = refl

pub same_by_order : (o p : Ordering) (equal ab ba : Bool) → equal ≡ is_eq o → o ≡ ordering_reverse p → is_le o ≡ ab → is_le p ≡ ba → equal ≡ (ab && ba)
same_by_order o p equal ab ba e r f g = e ∙ ap is_eq r ∙ either_way p ∙ ap (λ q. is_le q && is_le p) (sym r) ∙ ap (λ b. b && is_le p) f ∙ ap (λ b. ab && b) g
