-- A kind of document as small as one can be, and how the worked examples write the tables of a file in it.
use Rattle.std.specs.Prelude.{ℕ, List, [], ◌∷◌, Option, Some, None, ℤ, codes}
use Rattle.rbc_model.specs.TrackFile.{Document}

-- a whole number, a text, a list, or a table
mutual
  pub data Value : Type 0 where
    Number : ℤ → Value
    Text : List ℕ → Value
    Items : Values → Value
    Table : Members → Value

  pub data Values : Type 0 where
    no_value : Values
    value : Value → Values → Values

  pub data Members : Type 0 where
    no_member : Members
    member : List ℕ → Value → Members → Members

abbrev pub value_list : Values → List Value
value_list no_value = []
value_list (value first later) = first ∷ value_list later

abbrev pub member_list : Members → List (List ℕ × Value)
member_list no_member = []
member_list (member key first later) = (key, first) ∷ member_list later

abbrev pub number_of : Value → Option ℤ
number_of (Number n) = Some n
number_of _ = None

abbrev pub text_of : Value → Option (List ℕ)
text_of (Text text) = Some text
text_of _ = None

abbrev pub items_of : Value → Option (List Value)
items_of (Items values) = Some (value_list values)
items_of _ = None

abbrev pub table_of : Value → Option (List (List ℕ × Value))
table_of (Table members) = Some (member_list members)
table_of _ = None

abbrev pub small_document : Document Value
small_document = record { as_number = number_of; as_text = text_of; as_list = items_of; as_table = table_of }

-- ---- documents from lists

abbrev pub values_in : List Value → Values
values_in [] = no_value
values_in (first ∷ later) = value first (values_in later)

abbrev pub items : List Value → Value
items values = Items (values_in values)

-- a table's keys with their values, in the order of the keys' bytes
abbrev pub Entry : Type 0
Entry = List (List ℕ × Value)

abbrev pub members_in : Entry → Members
members_in [] = no_member
members_in (first ∷ later) = member first.0 first.1 (members_in later)

-- a list of tables
abbrev pub table_values : List Entry → Values
table_values [] = no_value
table_values (entry ∷ later) = value (Table (members_in entry)) (table_values later)

abbrev pub tables : List Entry → Value
tables entries = Items (table_values entries)

-- ---- the tables of a file

-- a run from a metre on
abbrev pub run : ℤ → ℤ → Value
run start level = items (Number start ∷ Number level ∷ [])

-- a section, a link, a group, and a route
abbrev pub section : List ℕ → ℤ → List Value → List Value → Entry
section name metres speeds grades =
    (codes "grades", items grades)
    ∷ (codes "length", Number metres)
    ∷ (codes "name", Text name)
    ∷ (codes "speeds", items speeds)
    ∷ []

abbrev pub link : List ℕ → List ℕ → Entry
link from to = (codes "from", Text from) ∷ (codes "to", Text to) ∷ []

abbrev pub group : ℤ → ℤ → List ℕ → ℤ → List ℕ → Entry
group country number on offset nominal =
    (codes "country", Number country)
    ∷ (codes "nominal", Text nominal)
    ∷ (codes "number", Number number)
    ∷ (codes "offset", Number offset)
    ∷ (codes "section", Text on)
    ∷ []

abbrev pub route : List ℕ → List ℕ → List Value → Entry
route name after legs = (codes "after", Text after) ∷ (codes "legs", items legs) ∷ (codes "name", Text name) ∷ []

-- a route that is entered from no leg
abbrev pub route_from_none : List ℕ → List Value → Entry
route_from_none name legs = (codes "legs", items legs) ∷ (codes "name", Text name) ∷ []
