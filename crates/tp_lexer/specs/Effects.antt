-- What holds at a place of a text, and what a piece there does.
use Rattle.std.specs.Prelude.{ℕ, Bool, true, false, not, List, [], ◌∷◌, ◌++◌, nat_eq, length, take, ◌-◌, slice_set, unwrap_or, if◌then◌else◌, Option, Some, None}
use Rattle.std.specs.List.{slice_get}
use Rattle.std.specs.Option.{option_and_then, option_map}
use Rattle.std.specs.Cmp.Lexicographic.{pointwise}
use Rattle.type_layout.specs.declared.texts.Place.{Place}
use Rattle.tp_lexer.specs.declared.token.Switches.{Switches}
use Rattle.tp_lexer.specs.declared.token.Token.{Token}
use Rattle.tp_lexer.specs.declared.token.TokenKind.{TokenKind}
use Rattle.tp_lexer.specs.declared.token.TokenKind.TheVariants as t
use Rattle.tp_lexer.specs.declared.token.Feature.TheVariants.{Directives}
use Rattle.tp_lexer.specs.declared.token.LexError.{LexError}
use Rattle.tp_lexer.specs.declared.token.LexError.TheVariants as e
use Rattle.tp_lexer.specs.declared.directive.Letter.{Letter}
use Rattle.tp_lexer.specs.declared.directive.Letter.TheVariants as l
use Rattle.tp_lexer.specs.declared.directive.Changes.{Changes}
use Rattle.tp_lexer.specs.declared.directive.Test.{Test}
use Rattle.tp_lexer.specs.declared.directive.Test.TheVariants as q
use Rattle.tp_lexer.specs.declared.directive.Directive.{Directive}
use Rattle.tp_lexer.specs.declared.directive.Directive.TheVariants as d
use Rattle.tp_lexer.specs.declared.piece.Fault.{Fault}
use Rattle.tp_lexer.specs.declared.piece.Fault.TheVariants as f
use Rattle.tp_lexer.specs.declared.piece.Piece.{Piece}
use Rattle.tp_lexer.specs.declared.piece.Piece.TheVariants as p
use Rattle.tp_lexer.specs.declared.piece.Passed.{Passed}
use Rattle.tp_lexer.specs.declared.piece.Passed.TheVariants as x
use Rattle.tp_lexer.specs.declared.condition.Condition.{Condition}

-- the switches that hold, and the names that are defined
pub record Settings : Type 0 where
  pub switches : Switches
  pub defined : List ℕ → Bool

-- besides these, the conditions that are open in a text, the innermost last
pub record Context : Type 0 where
  pub settings : Settings
  pub conditions : List Condition

abbrev pub innermost : List Condition → Option Condition
innermost conditions = slice_get conditions (length conditions - 1)

abbrev pub is_read_by : Option Condition → Bool
is_read_by None = true
is_read_by (Some c) = c.read

-- the text that stands there is read, and not skipped
abbrev pub is_read : List Condition → Bool
is_read conditions = is_read_by (innermost conditions)

-- what a piece does: it gives tokens and changes what holds, names a text to be included, or breaks a rule
pub data Effect : Type 0 where
  goes : List Token → Context → Effect
  includes : List ℕ → Effect
  fails : LexError → Effect

abbrev pub token : Place → TokenKind → Token
token place kind = record { kind = kind; place = place }

abbrev pub error_of : Fault → Place → LexError
error_of f.BadCharacter place = e.BadCharacter place
error_of f.OpenComment place = e.OpenComment place
error_of f.OpenString place = e.OpenString place
error_of f.BadNumber place = e.BadNumber place
error_of f.BadDirective place = e.BadDirective place
error_of f.LeftOut place = e.NotInProfile place Directives

abbrev pub switches_after : Changes → Switches → Switches
switches_after changes now = record {
  r = unwrap_or changes.r now.r;
  b = unwrap_or changes.b now.b;
  f = unwrap_or changes.f now.f;
  o = unwrap_or changes.o now.o;
}

-- the state of a switch; of those that have no effect it is always the first one
abbrev pub state_of : Letter → Switches → Bool
state_of l.R now = now.r
state_of l.B now = now.b
state_of l.F now = now.f
state_of l.O now = now.o
state_of l.N now = false
state_of letter now = true

abbrev pub same : Bool → Bool → Bool
same true on = on
same false on = not on

abbrev pub holds : Test → Settings → Bool
holds (q.Defined name) now = now.defined name
holds (q.Undefined name) now = not (now.defined name)
holds (q.Switched letter on) now = same (state_of letter now.switches) on

abbrev pub with_settings : Context → Settings → Context
with_settings context now = record { settings = now; conditions = context.conditions }

abbrev pub with_conditions : Context → List Condition → Context
with_conditions context conditions = record { settings = context.settings; conditions = conditions }

-- the condition whose first part is read, or whose other part
abbrev pub asked : Place → Bool → Condition
asked place is_met = record { place = place; read = is_met; otherwise = Some (not is_met) }

-- a condition in text that is skipped, of which nothing is read
abbrev pub unasked : Place → Condition
unasked place = record { place = place; read = false; otherwise = Some false }

abbrev pub turned_to : Option Bool → Condition → Option Condition
turned_to None c = None
turned_to (Some other) c = Some (record { place = c.place; read = other; otherwise = None })

-- the innermost condition behind its {$ELSE}, where one is open that has not had it
abbrev pub turned_one : List Condition → Option Condition
turned_one conditions = option_and_then (λ c. turned_to c.otherwise c) (innermost conditions)

abbrev pub turned : List Condition → Option (List Condition)
turned conditions = option_map (slice_set conditions (length conditions - 1)) (turned_one conditions)

-- the conditions behind {$ENDIF}, where one is open
abbrev pub closed : List Condition → Option (List Condition)
closed conditions = option_map (λ c. take (length conditions - 1) conditions) (innermost conditions)

abbrev pub conditioned : Place → Context → Option (List Condition) → Effect
conditioned place context None = fails (e.BadDirective place)
conditioned place context (Some conditions) = goes [] (with_conditions context conditions)

abbrev pub with_switches : Settings → Switches → Settings
with_switches now switches = record { switches = switches; defined = now.defined }

abbrev pub with_defined : Settings → (List ℕ → Bool) → Settings
with_defined now defined = record { switches = now.switches; defined = defined }

-- the name is defined from now on, or not; the others stay as they are
abbrev pub set_defined : List ℕ → Bool → (List ℕ → Bool) → List ℕ → Bool
set_defined name is_defined defined other = if pointwise nat_eq name other then is_defined else defined other

abbrev pub directed : Place → Context → Directive → Effect
directed place context (d.Switches changes) =
    let after = switches_after changes context.settings.switches in
    goes (token place (t.Switch after) ∷ []) (with_settings context (with_switches context.settings after))
directed place context (d.Memory stack max) = goes (token place (t.Memory stack max) ∷ []) context
directed place context (d.Overlaid name) = goes (token place (t.Overlaid name) ∷ []) context
directed place context (d.Include name) = includes name
directed place context (d.Define name) =
    goes [] (with_settings context (with_defined context.settings (set_defined name true context.settings.defined)))
directed place context (d.Undefine name) =
    goes [] (with_settings context (with_defined context.settings (set_defined name false context.settings.defined)))
directed place context (d.If test) =
    goes [] (with_conditions context (context.conditions ++ asked place (holds test context.settings) ∷ []))
directed place context d.Else = conditioned place context (turned context.conditions)
directed place context d.EndIf = conditioned place context (closed context.conditions)

-- what a piece does where text is read
abbrev pub effect_of : Place → Context → Piece → Effect
effect_of place context p.Gap = goes [] context
effect_of place context (p.Token kind) = goes (token place kind ∷ []) context
effect_of place context (p.Directive directive) = directed place context directive
effect_of place context (p.Fault fault) = fails (error_of fault place)

-- what a piece does where text is skipped
abbrev pub passed_effect : Place → Context → Passed → Effect
passed_effect place context x.Nothing = goes [] context
passed_effect place context x.Opens = goes [] (with_conditions context (context.conditions ++ unasked place ∷ []))
passed_effect place context x.Else = conditioned place context (turned context.conditions)
passed_effect place context x.EndIf = conditioned place context (closed context.conditions)
passed_effect place context x.OpenComment = fails (e.OpenComment place)

-- the tokens that an effect gives
abbrev pub given : Effect → List Token
given (goes tokens next) = tokens
given effect = []
