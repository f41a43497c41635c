-- Sources.
use Rattle.std.specs.Prelude.{ℕ, List}
use Rattle.tp_lexer.specs.declared.source_directives.collected.Directives.{Directives}
use Rattle.syntax_tree.specs.declared.source_tree.source.Tree.{Tree}
use Rattle.syntax_tree.specs.declared.source_tree.source.Tree.TheVariants as t
use Rattle.scopes.specs.Environment.{Environment}
use Rattle.unit_interface.specs.declared.interfaces.Interface.{Interface}
use Rattle.typing_rules.specs.declared.faults.Fault.{Fault}
use Rattle.typing_rules.specs.Judgements.{Judgement}
use Rattle.tp_check_decl.specs.routines.Trees.{view_declarations}
use Rattle.tp_check_decl.specs.Units.{Whole}
use Rattle.tp_check_decl.specs.Programs.{program_judged}
use Rattle.tp_check_decl.specs.Interfaces.{unit_judged}

-- A source over what is known by the units that its interface part uses, which in a program are all, and over the interfaces of the
-- units that its implementation part uses.
abbrev pub judged : List ℕ → Directives → Environment → List Interface → Tree → Judgement Whole
judged name says g have (t.Program heading uses all body) = program_judged name says g uses.items (view_declarations all.items) body
judged name says g have (t.Unit here own uses outer interface all body) =
    unit_judged name says g have own uses.items outer interface.items (view_declarations all.items) body

-- the source is this unit: every rule holds in it
abbrev pub IsTypedAs : List ℕ → Directives → Environment → List Interface → Tree → Whole → Type 0
IsTypedAs name says g have tree unit = (judged name says g have tree).holds unit

-- a rule fails at a place in the source, while all hold in the parts of the construct that stands there
abbrev pub FailsAt : List ℕ → Directives → Environment → List Interface → Tree → Fault → Type 0
FailsAt name says g have tree fault = (judged name says g have tree).fails fault
