-- A set of keys that has one more, and how a look-up tells which legs are joined.
use Rattle.std.proofs.Common.{◌≡◌, Bool, true, false, cond, not, ◌&&◌, ◌||◌, List, [], ◌∷◌, ◌++◌, refl, ap, ap₂, sym, ◌∙◌}
use Rattle.std.specs.Bool.{beq}
use Rattle.std.specs.List.{list_any}
use Rattle.std.proofs.lemmas.List.Folds.{list_any-append}
use Rattle.rbc_model.specs.declared.places.Direction.{Direction}
use Rattle.rbc_model.specs.declared.places.Direction.TheVariants.{Rising, Falling}
use Rattle.rbc_model.specs.declared.places.Leg.{Leg}
use Rattle.rbc_model.specs.declared.tracks.Link.{Link}
use Rattle.rbc_model.specs.Tracks.{direction_eq, leg_eq, opposite, reverse_leg, joins}
use Rattle.rbc_model.proofs.BasicLemmas.{or_second}
use Rattle.rbc_track.specs.declared.links.LegKey.{LegKey}
use Rattle.rbc_track.specs.declared.links.LinkKey.{LinkKey}
use Rattle.rbc_track.specs.LinkKeys.{is_rising, leg_key, link_key, reverse_key, back_key, leg_key_eq, link_key_eq, names, AreKeysOf}
use Rattle.std.proofs.lemmas.Bool.{or_left}

rising_same : (a b : Direction) → beq (is_rising a) (is_rising b) ≡ direction_eq a b
rising_same Rising Rising = refl
rising_same Rising Falling = refl
rising_same Falling Rising = refl
rising_same Falling Falling = refl

leg_key_same : (a b : Leg) → leg_key_eq (leg_key a) (leg_key b) ≡ leg_eq a b
leg_key_same a b = ap₂ (λ x y. x && y) refl (rising_same a.direction b.direction)

-- two keys of links are the same where the one link names the legs of the other
link_key_same : (from to : Leg) (link : Link) → link_key_eq (link_key link.from link.to) (link_key from to) ≡ names from to link
link_key_same from to link = ap₂ (λ x y. x && y) (leg_key_same link.from from) (leg_key_same link.to to)

put_behind : (b rest there : Bool) → rest ≡ there → cond b true rest ≡ (there || (b || false))
put_behind true rest true e = refl
put_behind true rest false e = refl
put_behind false rest true e = e
put_behind false rest false e = e

put_same : (a b rest there : Bool) → a ≡ b → rest ≡ there → cond a true rest ≡ (there || (b || false))
put_same a b rest there e r = rw e (put_behind b rest there r)

-- keys that have the link's key and what they had are the keys of one more link
pub one_more : (keys more : List LinkKey) (links : List Link) (link : Link) → AreKeysOf links keys
    → ((key : LinkKey) → list_any (link_key_eq key) more ≡ cond (link_key_eq (link_key link.from link.to) key) true (list_any (link_key_eq key) keys))
    → AreKeysOf (links ++ link ∷ []) more
one_more keys more links link are put from to =
    put (link_key from to)
    ∙ put_same (link_key_eq (link_key link.from link.to) (link_key from to)) (names from to link) (list_any (link_key_eq (link_key from to)) keys) (list_any (names from to) links) (link_key_same from to link) (are from to)
    ∙ sym (list_any-append (names from to) links (link ∷ []))

either_way : (p q ps qs both : Bool) → both ≡ (ps || qs) → ((p || q) || both) ≡ ((p || ps) || (q || qs))
either_way true q ps qs both e = refl
either_way false true true qs both e = refl
either_way false true false qs both e = refl
either_way false false ps qs both e = e

-- a link joins two legs where one names them, or one names their reverses
pub both_ways : (from to : Leg) (links : List Link) → list_any (joins from to) links ≡ (list_any (names from to) links || list_any (names (reverse_leg to) (reverse_leg from)) links)
both_ways from to [] = refl
both_ways from to (link ∷ links) =
    either_way (names from to link) (names (reverse_leg to) (reverse_leg from) link) (list_any (names from to) links) (list_any (names (reverse_leg to) (reverse_leg from)) links) (list_any (joins from to) links) (both_ways from to links)

rising_back : (a : Direction) → not (is_rising a) ≡ is_rising (opposite a)
rising_back Rising = refl
rising_back Falling = refl

reverse_same : (leg : Leg) → reverse_key (leg_key leg) ≡ leg_key (reverse_leg leg)
reverse_same leg = ap (λ r. let key : LegKey = record { section = leg.section; rises = r } in key) (rising_back leg.direction)

back_same : (from to : Leg) → back_key (link_key from to) ≡ link_key (reverse_leg to) (reverse_leg from)
back_same from to = ap₂ (λ a b. let key : LinkKey = record { from = a; to = b } in key) (reverse_same to) (reverse_same from)

-- keys that are the links' keys tell whether a link joins two legs
pub looked_up : (keys : List LinkKey) (links : List Link) (from to : Leg) → AreKeysOf links keys
    → (list_any (link_key_eq (link_key from to)) keys || list_any (link_key_eq (back_key (link_key from to))) keys) ≡ list_any (joins from to) links
looked_up keys links from to are =
    ap₂ (λ x y. x || y) (are from to) (ap (λ key. list_any (link_key_eq key) keys) (back_same from to) ∙ are (reverse_leg to) (reverse_leg from))
    ∙ sym (both_ways from to links)

module _ (keys : List LinkKey) (links : List Link) (from to : Leg) (are : AreKeysOf links keys) (key back : LinkKey) (is : key ≡ link_key from to) where
  -- the legs' key is there: they are joined
  pub found_there : (there : Bool) → there ≡ list_any (link_key_eq key) keys → there ≡ true → there ≡ list_any (joins from to) links
  found_there there e h =
      let same : there ≡ list_any (link_key_eq (link_key from to)) keys = e ∙ ap (λ p. list_any (link_key_eq p) keys) is in
      h ∙ sym (or_left (list_any (link_key_eq (link_key from to)) keys) (list_any (link_key_eq (back_key (link_key from to))) keys) (sym same ∙ h)) ∙ looked_up keys links from to are

  -- it is not there: the key that leads back tells
  pub found_back : back ≡ back_key key → (there again : Bool) → there ≡ list_any (link_key_eq key) keys → there ≡ false → again ≡ list_any (link_key_eq back) keys
      → again ≡ list_any (joins from to) links
  found_back back_is there again e h f =
      let same : there ≡ list_any (link_key_eq (link_key from to)) keys = e ∙ ap (λ p. list_any (link_key_eq p) keys) is in
      let same_back : back ≡ back_key (link_key from to) = back_is ∙ ap back_key is in
      f ∙ ap (λ p. list_any (link_key_eq p) keys) same_back
      ∙ sym (or_second (list_any (link_key_eq (link_key from to)) keys) (list_any (link_key_eq (back_key (link_key from to))) keys) (sym same ∙ h)) ∙ looked_up keys links from to are
