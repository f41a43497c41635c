-- Why sources are no typed program.
use Rattle.std.specs.Prelude.{◌≡◌, ◌⊎◌, ◌<◌, ℕ, List, Contains, length}
use Rattle.tp_outside.specs.Folder.{Folder}
use Rattle.tp_lexer.specs.declared.token.Text.{Text}
use Rattle.typed_tree.specs.declared.units.Unit as typed
use Rattle.object_vmt.specs.declared.faults.ClassError.{ClassError}
use Rattle.object_vmt.specs.Dispatch.{IsCause}
use Rattle.syntax_tree.specs.source_tree.Sources.{used}
use Rattle.source_graph.specs.declared.error.GatherError.{GatherError}
use Rattle.source_graph.specs.declared.sources.Source.{Source}
use Rattle.source_graph.specs.Walk.{Gathers, IsRefused, Unless}
use Rattle.typing_rules.specs.declared.faults.CheckError.{CheckError}
use Rattle.typing_rules.specs.declared.faults.Fault.{Fault}
use Rattle.typing_rules.specs.Faults.{Tells, error_of}
use Rattle.unit_interface.specs.declared.interfaces.Interface.{Interface}
use Rattle.unit_interface.specs.declared.order.OrderError.{OrderError}
use Rattle.unit_interface.specs.Order.{IsCause as IsOrderCause}
use Rattle.source_graph.specs.source_order.Orders.{all_uses}
use Rattle.tp_check_decl.specs.Checked.{FailsAt}
use Rattle.front_end.specs.declared.outcomes.outcome.Outcome.{Outcome}
use Rattle.front_end.specs.declared.outcomes.outcome.Outcome.TheVariants as outcome
use Rattle.front_end.specs.declared.outcomes.refusal.Refusal.TheVariants as refusal
use Rattle.front_end.specs.declared.outcomes.refusal.What.TheVariants as what
use Rattle.front_end.specs.refusals.Outcomes.{gather_outcome, order_outcome, check_outcome, class_outcome}
use Rattle.front_end.specs.source_interfaces.Scopes.{outer_units, outer_scope, KnowsNothing}
use Rattle.front_end.specs.source_interfaces.Kinds.{AreOfKinds, IsOfWrongKind}
use Rattle.front_end.specs.source_interfaces.Interfaces.{AreInterfaces, IsAcyclic, LacksInterface}
use Rattle.front_end.specs.Typed.{AreUnits, AreLawful}

-- they have no order: a source lies on a circle of uses in interface parts
pub record HaveNoOrder (sources : List Source) (result : Outcome) : Type 0 where
  pub error : OrderError
  pub cause : IsOrderCause (all_uses sources) error
  pub is : result ≡ order_outcome error

-- one of them is no program or no unit where that is wanted
pub record HaveWrongKind (texts : List Text) (sources : List Source) (result : Outcome) : Type 0 where
  pub acyclic : IsAcyclic sources
  pub fault : Fault
  pub wrong : IsOfWrongKind sources fault
  pub is : result ≡ check_outcome texts (error_of fault)

-- one of them shows no interface
pub record HaveNoInterfaces (texts : List Text) (sources : List Source) (result : Outcome) : Type 0 where
  pub acyclic : IsAcyclic sources
  pub kinds : AreOfKinds sources
  pub lacks : LacksInterface texts sources result

-- a rule fails in a source
pub record FailsInside (texts : List Text) (have : List Interface) (source : Source) (result : Outcome) : Type 0 where
  pub error : CheckError
  pub tells : Tells (FailsAt source.name source.says (outer_scope have source) have source.tree) error
  pub is : result ≡ check_outcome texts error

-- nothing is known to it by all units that it uses, or by those that its interface part uses
abbrev pub IsIgnorant : List Text → List Interface → Source → Outcome → Type 0
IsIgnorant texts have source result =
    KnowsNothing texts have source.name (used source.tree) result ⊎ KnowsNothing texts have source.name (outer_units source) result

abbrev pub IsNoUnit : List Text → List Interface → Source → Outcome → Type 0
IsNoUnit texts have source result = IsIgnorant texts have source result ⊎ FailsInside texts have source result

-- one of them has no typed unit
pub record LacksUnit (texts : List Text) (sources : List Source) (have : List Interface) (result : Outcome) : Type 0 where
  pub source : Source
  pub one : Contains sources source
  pub cause : IsNoUnit texts have source result

pub record HaveNoUnits (texts : List Text) (sources : List Source) (result : Outcome) : Type 0 where
  pub acyclic : IsAcyclic sources
  pub kinds : AreOfKinds sources
  pub have : List Interface
  pub interfaces : AreInterfaces sources have
  pub lacks : LacksUnit texts sources have result

-- a rule on the lines of object types fails in one of the typed units
pub record HasWrongClass (units : List typed.Unit) (result : Outcome) : Type 0 where
  pub unit : typed.Unit
  pub one : Contains units unit
  pub error : ClassError
  pub cause : IsCause unit.types.types error
  pub is : result ≡ class_outcome error

pub record HaveWrongClass (sources : List Source) (result : Outcome) : Type 0 where
  pub units : List typed.Unit
  pub are : AreUnits sources units
  pub wrong : HasWrongClass units result

-- they are more units than a program may have
pub record AreTooMany (sources : List Source) (result : Outcome) : Type 0 where
  pub units : List typed.Unit
  pub are : AreUnits sources units
  pub lawful : AreLawful units
  pub many : 256 < length units
  pub is : result ≡ outcome.Refused (refusal.TooLarge what.Units (length units))

-- Why they are no typed program, by the order of the phases: each says that those before it were passed.
abbrev pub AreUntyped : List Text → List Source → Outcome → Type 0
AreUntyped texts sources result =
    HaveNoOrder sources result ⊎ (HaveWrongKind texts sources result ⊎ (HaveNoInterfaces texts sources result ⊎ (HaveNoUnits texts sources result
    ⊎ (HaveWrongClass sources result ⊎ (AreTooMany sources result ⊎ (result ≡ outcome.NoMemory))))))

-- the sources are not gathered
pub record IsUngathered (held : Folder) (name : List ℕ) (result : Outcome) : Type 0 where
  pub error : GatherError
  pub cause : Unless error (IsRefused held name error)
  pub is : result ≡ gather_outcome error

pub record IsUntyped (held : Folder) (name : List ℕ) (result : Outcome) : Type 0 where
  pub texts : List Text
  pub sources : List Source
  pub gathers : Gathers held name texts sources
  pub why : AreUntyped texts sources result

-- Why there is no program of this name, by the files of a folder.
abbrev pub IsNoProgram : Folder → List ℕ → Outcome → Type 0
IsNoProgram held name result = IsUngathered held name result ⊎ IsUntyped held name result

-- ---- outcomes that tell why there is no program

abbrev pub IsRefusing : Outcome → Type 0
IsRefusing (outcome.Refused refusal.Usage) = ⊥
IsRefusing (outcome.Refused other) = Unit {0}
IsRefusing outcome.NoMemory = Unit {0}
IsRefusing other = ⊥

-- or a fault of the files
abbrev pub IsDeclining : Outcome → Type 0
IsDeclining outcome.FilesFault = Unit {0}
IsDeclining result = IsRefusing result
