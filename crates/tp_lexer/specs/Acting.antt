-- What acting on an effect leaves.
use Rattle.std.specs.Prelude.{◌≡◌, ◌⊎◌, ℕ, Bool, nat_eq, position, List, ◌++◌, Option, Some, None, Result, Ok, Err}
use Rattle.std.specs.HashMap.{HashMap, get}
use Rattle.std.specs.HashSet.{HashSet, contains}
use Rattle.std.specs.Cmp.Lexicographic.{pointwise}
use Rattle.type_layout.specs.declared.texts.Place.{Place}
use Rattle.tp_lexer.specs.declared.token.LexError.{LexError}
use Rattle.tp_lexer.specs.declared.token.LexError.TheVariants.{NoMemory, OpenCondition}
use Rattle.tp_lexer.specs.declared.token.Text.{Text}
use Rattle.tp_lexer.specs.declared.token.Token.{Token}
use Rattle.tp_lexer.specs.Tokens.{Outcome}
use Rattle.tp_lexer.specs.declared.condition.Condition.{Condition}
use Rattle.tp_lexer.specs.declared.state.State.{State}
use Rattle.tp_lexer.specs.Effects.{Settings, Context, Effect, goes, includes, fails, given}

-- which names a set has
abbrev pub has_name : {S : Type 0} → HashSet (List ℕ) S → List ℕ → Bool
has_name names name = contains (pointwise nat_eq) names name

-- the map has the number of the first text with each name
abbrev pub AreNumbers : {S : Type 0} → List Text → HashMap (List ℕ) ℕ S → Type 0
AreNumbers texts numbers = (name : List ℕ) → get (pointwise nat_eq) numbers name ≡ position (λ text. pointwise nat_eq text.name name) texts

abbrev pub settings_of : State → Settings
settings_of state = record { switches = state.switches; defined = has_name state.defined }

abbrev pub context_of : State → List Condition → Context
context_of state conditions = record { settings = settings_of state; conditions = conditions }

-- the fact holds, unless the error is out of memory
abbrev pub Unless : LexError → Type 0 → Type 0
Unless NoMemory P = Unit {0}
Unless error P = P

-- nothing has changed
pub record IsKept (old new : State) (before after : List Condition) : Type 0 where
  pub settings : settings_of new ≡ settings_of old
  pub tokens : new.tokens.items ≡ old.tokens.items
  pub conditions : after ≡ before

-- the effect's tokens are added, and what holds is what holds behind it
pub record Goes (effect : Effect) (old new : State) (after : List Condition) : Type 0 where
  pub is : effect ≡ goes (given effect) (context_of new after)
  pub tokens : new.tokens.items ≡ old.tokens.items ++ given effect

-- a file to include is named, and nothing has changed
pub record Names (effect : Effect) (name : List ℕ) (old new : State) (before after : List Condition) : Type 0 where
  pub is : effect ≡ includes name
  pub kept : IsKept old new before after

abbrev pub Acts : Effect → State → State → List Condition → List Condition → Result (Option (List ℕ)) LexError → Type 0
Acts effect old new before after (Ok None) = Goes effect old new after
Acts effect old new before after (Ok (Some name)) = Names effect name old new before after
Acts effect old new before after (Err error) = Unless error (effect ≡ fails error)

-- the tokens are added, and what holds is what holds behind them
abbrev pub Adds : (Outcome → Type 0) → State → State → Result (Unit {0}) LexError → Type 0
Adds P old new (Ok done) = (tokens : List Token) × P (Ok (tokens, settings_of new)) × (new.tokens.items ≡ old.tokens.items ++ tokens)
Adds P old new (Err error) = Unless error (P (Err error))

-- the effect gives the tokens, or they are those of the text that it includes
abbrev pub Gains : (Place → List ℕ → Settings → Outcome → Type 0) → Place → Settings → Effect → State → List Condition → List Condition → List Token → Type 0
Gains Includes place now effect new before after tokens =
    (effect ≡ goes tokens (context_of new after))
    ⊎ ((name : List ℕ) × (effect ≡ includes name) × Includes place name now (Ok (tokens, settings_of new)) × (after ≡ before))

-- the effect breaks a rule, or the text that it includes does
abbrev pub Stops : (Place → List ℕ → Settings → Outcome → Type 0) → Place → Settings → Effect → LexError → Type 0
Stops Includes place now effect error =
    (effect ≡ fails error) ⊎ ((name : List ℕ) × (effect ≡ includes name) × Includes place name now (Err error))

abbrev pub Advances : (Place → List ℕ → Settings → Outcome → Type 0) → Place → Settings → Effect → State → State → List Condition → List Condition → Result (Unit {0}) LexError → Type 0
Advances Includes place now effect old new before after (Ok done) =
    (tokens : List Token) × Gains Includes place now effect new before after tokens × (new.tokens.items ≡ old.tokens.items ++ tokens)
Advances Includes place now effect old new before after (Err error) = Unless error (Stops Includes place now effect error)

-- the error is the place of a condition that is open
abbrev pub IsOpen : Option Condition → LexError → Type 0
IsOpen None error = ⊥
IsOpen (Some c) error = error ≡ OpenCondition c.place
