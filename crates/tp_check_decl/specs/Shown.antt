-- What a source shows to those that use it, by its interface part alone.
use Rattle.std.specs.Prelude.{ℕ, List, [], None}
use Rattle.syntax_tree.specs.declared.identifier.Identifier.{Identifier}
use Rattle.syntax_tree.specs.declared.source_tree.source.InterfaceDeclaration.{InterfaceDeclaration}
use Rattle.syntax_tree.specs.declared.source_tree.source.Tree.{Tree}
use Rattle.syntax_tree.specs.declared.source_tree.source.Tree.TheVariants as t
use Rattle.tp_lexer.specs.declared.source_directives.collected.Directives.{Directives}
use Rattle.typed_tree.specs.declared.units.Unit as typed
use Rattle.scopes.specs.Environment.{Environment}
use Rattle.unit_interface.specs.declared.interfaces.Interface.{Interface}
use Rattle.unit_interface.specs.Exports.{IsInterfaceOf}
use Rattle.typing_rules.specs.declared.faults.Fault.{Fault}
use Rattle.typing_rules.specs.Judgements.{Judgement, makes, part}
use Rattle.tp_check_decl.specs.Units.{Whole, whole}
use Rattle.tp_check_decl.specs.Fronts.{front_judged}
use Rattle.tp_check_decl.specs.Interfaces.{items_of, interface_judged, unit_front}

-- the unit of an interface part, without what the implementation part declares
abbrev pub outline : List ℕ → Directives → Environment → Identifier → List Identifier → List InterfaceDeclaration → Judgement Whole
outline name says g own uses interface =
    part (unit_front name says own uses) (λ front.
    part (interface_judged name g interface) (λ d. makes (whole name front d.scope (items_of d.scope) d.globals [] None)))

-- A program shows nothing.
abbrev pub nothing_shown : List ℕ → Directives → Environment → List Identifier → Judgement Whole
nothing_shown name says g uses = part (front_judged says uses) (λ front. makes (whole name front g [] [] [] None))

abbrev pub outlined : List ℕ → Directives → Environment → Tree → Judgement Whole
outlined name says g (t.Program heading uses all body) = nothing_shown name says g uses.items
outlined name says g (t.Unit here own uses outer interface all body) = outline name says g own uses.items interface.items

-- a unit with these names, types and items, which alone are shown
abbrev pub with_nothing_else : Whole → typed.Unit
with_nothing_else unit = record {
  name = unit.name;
  names = unit.names;
  types = unit.types;
  items = unit.items;
  globals = unit.globals;
  routines = [];
  initial = None;
  uses = unit.uses;
  overlayable = unit.overlayable;
  overlaid = unit.overlaid;
  stack = unit.stack;
  heap = unit.heap;
}

-- an interface of a unit: its items, and exactly the types that they reach
abbrev pub Shows : Whole → Interface → Type 0
Shows unit interface = IsInterfaceOf (with_nothing_else unit) interface

-- every rule holds in the interface part, and this is what it shows
pub record IsShownAs (name : List ℕ) (says : Directives) (g : Environment) (tree : Tree) (interface : Interface) : Type 0 where
  pub unit : Whole
  pub holds : (outlined name says g tree).holds unit
  pub shows : Shows unit interface

-- a rule fails at a place in the interface part
abbrev pub FailsInInterface : List ℕ → Directives → Environment → Tree → Fault → Type 0
FailsInInterface name says g tree fault = (outlined name says g tree).fails fault
