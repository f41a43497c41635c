-- What follows for every scope, all interfaces and every source.
use Rattle.std.specs.Prelude.{ℕ, List}
use Rattle.tp_lexer.specs.declared.source_directives.collected.Directives.{Directives}
use Rattle.scopes.specs.Environment.{Environment}
use Rattle.unit_interface.specs.declared.interfaces.Interface.{Interface}
use Rattle.typing_rules.specs.Laws.{IsExact}
use Rattle.tp_check_decl.specs.Checked.{judged}

-- A source is one unit at most; it is one exactly where no fault is in it.
abbrev pub AreExact : Type 0
AreExact = (name : List ℕ) (says : Directives) (g : Environment) (have : List Interface) → IsExact (judged name says g have)
