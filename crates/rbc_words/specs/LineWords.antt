-- Words of a line that is printed, as text.
use Rattle.std.specs.Prelude.{ℕ, Bool, true, List, length, decimal, nat_le}
use Rattle.std.specs.Fmt.{signed_decimal}
use Rattle.rbc_model.specs.Names.{leg_text}
use Rattle.rbc_model.specs.SessionText.{group_word}
use Rattle.rbc_words.specs.declared.line_words.Word.{Word}
use Rattle.rbc_words.specs.declared.line_words.Word.TheVariants.{Text, Number, Count, Distance, Name, Leg, Group}

-- a word
abbrev pub word_text : Word → List ℕ
word_text (Text text) = text.now
word_text (Number number) = decimal number
word_text (Count count) = decimal count
word_text (Distance metres) = signed_decimal metres
word_text (Name name) = name
word_text (Leg leg) = leg_text leg
word_text (Group group) = group_word group

-- whether a word is known to be short: any but a text is
abbrev pub is_short : Word → Bool
is_short (Text text) = nat_le (length text.now) 32
is_short _ = true
