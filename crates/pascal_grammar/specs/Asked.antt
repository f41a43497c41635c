-- What may be asked of one lexeme, and which lexemes are what was asked for.
use Rattle.std.specs.Prelude.{Bool, true, false}
use denote.Enum.Bare.{sameb}
use Rattle.pascal_grammar.specs.contracts.kind.Kind.{the_type}
use Rattle.pascal_grammar.specs.declared.kind.Kind.{Kind}
use Rattle.pascal_grammar.specs.declared.kind.Kind.TheVariants as k

pub data Asked : Type 0 where
  -- this word or symbol
  word : Kind → Asked
  -- the same, and the tree keeps its position
  mark : Kind → Asked
  name : Asked
  -- a name of one letter, and a name of more
  letter : Asked
  long_name : Asked
  number : Asked
  text : Asked
  relator : Asked
  adder : Asked
  multiplier : Asked
  sign : Asked
  direction : Asked

abbrev pub same : Kind → Kind → Bool
same = sameb the_type

abbrev pub is_name : Kind → Bool
is_name k.Letter = true
is_name k.Absolute = true
is_name k.External = true
is_name k.Forward = true
is_name k.Interrupt = true
is_name k.Name = true
is_name x = false

abbrev pub is_letter : Kind → Bool
is_letter k.Letter = true
is_letter x = false

abbrev pub is_long_name : Kind → Bool
is_long_name k.Absolute = true
is_long_name k.External = true
is_long_name k.Forward = true
is_long_name k.Interrupt = true
is_long_name k.Name = true
is_long_name x = false

abbrev pub is_number : Kind → Bool
is_number k.Number = true
is_number x = false

abbrev pub is_text : Kind → Bool
is_text k.Text = true
is_text x = false

abbrev pub is_relator : Kind → Bool
is_relator k.Equal = true
is_relator k.Unequal = true
is_relator k.Less = true
is_relator k.Greater = true
is_relator k.AtMost = true
is_relator k.AtLeast = true
is_relator k.In = true
is_relator x = false

abbrev pub is_adder : Kind → Bool
is_adder k.Plus = true
is_adder k.Minus = true
is_adder k.Or = true
is_adder k.Xor = true
is_adder x = false

abbrev pub is_multiplier : Kind → Bool
is_multiplier k.Times = true
is_multiplier k.Div = true
is_multiplier k.Mod = true
is_multiplier k.And = true
is_multiplier k.Shl = true
is_multiplier k.Shr = true
is_multiplier x = false

abbrev pub is_sign : Kind → Bool
is_sign k.Plus = true
is_sign k.Minus = true
is_sign x = false

abbrev pub is_direction : Kind → Bool
is_direction k.To = true
is_direction k.Downto = true
is_direction x = false

abbrev pub accepts : Asked → Kind → Bool
accepts (word want) x = same x want
accepts (mark want) x = same x want
accepts name x = is_name x
accepts letter x = is_letter x
accepts long_name x = is_long_name x
accepts number x = is_number x
accepts text x = is_text x
accepts relator x = is_relator x
accepts adder x = is_adder x
accepts multiplier x = is_multiplier x
accepts sign x = is_sign x
accepts direction x = is_direction x
