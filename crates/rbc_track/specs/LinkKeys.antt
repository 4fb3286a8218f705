-- The keys by which links are looked up.
use Rattle.std.specs.Prelude.{◌≡◌, Bool, true, false, not, ◌&&◌, ◌==◌, List}
use Rattle.std.specs.Bool.{beq}
use Rattle.std.specs.List.{list_any}
use Rattle.rbc_model.specs.declared.places.Direction.{Direction}
use Rattle.rbc_model.specs.declared.places.Direction.TheVariants.{Rising, Falling}
use Rattle.rbc_model.specs.declared.places.Leg.{Leg}
use Rattle.rbc_model.specs.declared.tracks.Link.{Link}
use Rattle.rbc_track.specs.declared.links.LegKey.{LegKey}
use Rattle.rbc_track.specs.declared.links.LinkKey.{LinkKey}
use Rattle.rbc_model.specs.Tracks.{leg_eq}

-- whether legs of the direction rise
abbrev pub is_rising : Direction → Bool
is_rising Rising = true
is_rising Falling = false

-- the key of a leg, and of a link from one leg to another
abbrev pub leg_key : Leg → LegKey
leg_key leg = record { section = leg.section; rises = is_rising leg.direction }

abbrev pub link_key : Leg → Leg → LinkKey
link_key from to = record { from = leg_key from; to = leg_key to }

-- the key of the leg's section, run the other way, and of the link that leads back
abbrev pub reverse_key : LegKey → LegKey
reverse_key leg = record { section = leg.section; rises = not leg.rises }

abbrev pub back_key : LinkKey → LinkKey
back_key key = record { from = reverse_key key.to; to = reverse_key key.from }

-- whether two keys are the same
abbrev pub leg_key_eq : LegKey → LegKey → Bool
leg_key_eq a b = a.section == b.section && beq a.rises b.rises

abbrev pub link_key_eq : LinkKey → LinkKey → Bool
link_key_eq a b = leg_key_eq a.from b.from && leg_key_eq a.to b.to

-- whether the link names these two legs in this order
abbrev pub names : Leg → Leg → Link → Bool
names from to link = leg_eq link.from from && leg_eq link.to to

-- these are the keys of the links: the key of two legs is among them exactly where a link names these two in this order
abbrev pub AreKeysOf : List Link → List LinkKey → Type 0
AreKeysOf links keys = (from to : Leg) → list_any (link_key_eq (link_key from to)) keys ≡ list_any (names from to) links
