-- Sources that are spelled alike are typed alike, and show alike what they show.
use Rattle.std.specs.Prelude.{◌≡◌, ℕ, List}
use Rattle.tp_check_decl.specs.tp_lexer.declared.source_directives.collected.Directives.{Directives}
use Rattle.tp_check_decl.specs.syntax_tree.declared.source_tree.source.Tree.{Tree}
use Rattle.tp_check_decl.specs.syntax_tree.source_tree.Sources.{of_tree}
use Rattle.tp_check_decl.specs.scopes.Environment.{Environment}
use Rattle.tp_check_decl.specs.unit_interface.declared.interfaces.Interface.{Interface}
use Rattle.tp_check_decl.specs.typing_rules.declared.faults.Fault.{Fault}
use Rattle.tp_check_decl.specs.Units.{Whole}
use Rattle.tp_check_decl.specs.Checked.{IsTypedAs, FailsAt}
use Rattle.tp_check_decl.specs.Shown.{IsShownAs, FailsInInterface}
use Rattle.tp_check_decl.specs.ll1_grammar.whole_trees.Whole.{IsWhole}

-- what one is, the other is, and a fault in one is in the other
pub record TypedAlike (name : List ℕ) (says : Directives) (g : Environment) (have : List Interface) (x y : Tree) : Type 0 where
  pub typed : (unit : Whole) → IsTypedAs name says g have x unit → IsTypedAs name says g have y unit
  pub fails : (fault : Fault) → FailsAt name says g have x fault → FailsAt name says g have y fault

pub record ShownAlike (name : List ℕ) (says : Directives) (g : Environment) (x y : Tree) : Type 0 where
  pub shown : (interface : Interface) → IsShownAs name says g x interface → IsShownAs name says g y interface
  pub fails : (fault : Fault) → FailsInInterface name says g x fault → FailsInInterface name says g y fault

abbrev pub AreTypedAlike : Type 0
AreTypedAlike = (name : List ℕ) (says : Directives) (g : Environment) (have : List Interface) (x y : Tree)
    → IsWhole (of_tree x) → of_tree x ≡ of_tree y → TypedAlike name says g have x y

abbrev pub AreShownAlike : Type 0
AreShownAlike = (name : List ℕ) (says : Directives) (g : Environment) (x y : Tree)
    → IsWhole (of_tree x) → of_tree x ≡ of_tree y → ShownAlike name says g x y
