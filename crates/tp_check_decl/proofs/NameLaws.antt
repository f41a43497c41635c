-- Units and interfaces have the name of the file.
use Rattle.std.proofs.Common.{◌≡◌, ℕ, List, [], Option, Some, None, Result, Ok, Err, IfOk, ap}
use Rattle.syntax_tree.specs.declared.statement.CompoundStatement.{CompoundStatement}
use Rattle.syntax_tree.specs.declared.source_tree.source.Tree.{Tree}
use Rattle.syntax_tree.specs.declared.source_tree.source.Tree.TheVariants as t
use Rattle.tp_lexer.specs.declared.source_directives.collected.Directives.{Directives}
use Rattle.typed_tree.specs.declared.units.Item.{Item}
use Rattle.typed_tree.specs.declared.units.Unit as typed
use Rattle.scopes.specs.Environment.{Environment}
use Rattle.typing_rules.specs.declared.faults.Refusal.{Refusal}
use Rattle.typing_rules.specs.Faults.{answer_of}
use Rattle.typing_rules.specs.Judgements.{Gives}
use Rattle.typing_rules.proofs.JudgementLaws.{typed_answer}
use Rattle.tp_check_decl.specs.routines.Drafts.{Drafted}
use Rattle.unit_interface.specs.declared.interfaces.Interface.{Interface}
use Rattle.unit_interface.specs.Exports.{IsInterfaceOf}
use Rattle.tp_check_decl.specs.declared.fronts.Front.{Front}
use Rattle.tp_check_decl.specs.Units.{Whole, view_unit}
use Rattle.tp_check_decl.specs.Endings.{ended}
use Rattle.tp_check_decl.specs.Interfaces.{items_of}
use Rattle.tp_check_decl.specs.Shown.{outlined}
use Rattle.tp_check_decl.specs.Checked.{judged}
use Rattle.tp_check_decl.proofs.CheckLaws.{lawful}

module _ (name : List ℕ) where
  name_of : (one other : Whole) → one ≡ other → one.name ≡ other.name
  name_of one other e = ap (λ (w : Whole). w.name) e

  named_ended : (front : Front) (items : List Item) (body : Option CompoundStatement) (d : Drafted) (unit : Whole) → (ended name front items body d).holds unit → unit.name ≡ name
  named_ended front items None d unit h = name_of unit _ h.made
  named_ended front items (Some body) d unit h = name_of unit _ h.made

  named_judged : (says : Directives) (g : Environment) (have : List Interface) (tree : Tree) (unit : Whole) → (judged name says g have tree).holds unit → unit.name ≡ name
  named_judged says g have (t.Program heading uses all body) unit h = named_ended h.made.part [] (Some body) h.made.made.part unit h.made.made.made
  named_judged says g have (t.Unit here own uses outer interface all body) unit h =
      let last = h.made.made.made in
      named_ended h.part (items_of h.made.part.scope) body last.part.draft unit last.made

  pub named_outline : (says : Directives) (g : Environment) (tree : Tree) (unit : Whole) → (outlined name says g tree).holds unit → unit.name ≡ name
  named_outline says g (t.Program heading uses all body) unit h = name_of unit _ h.made
  named_outline says g (t.Unit here own uses outer interface all body) unit h = name_of unit _ h.made.made

  -- a unit that is answered has the name
  pub named_answer : (says : Directives) (g : Environment) (have : List Interface) (tree : Tree) (answer : Result typed.Unit Refusal) → Gives view_unit answer (judged name says g have tree).run
      → IfOk (answer_of answer) (λ (unit : typed.Unit). unit.name ≡ name)
  named_answer says g have tree (Ok unit) gives =
      named_judged says g have tree (view_unit unit) (typed_answer view_unit (judged name says g have tree) (lawful name says g have tree) (Ok unit) gives)
  named_answer says g have tree (Err e) gives = tt

-- an interface has the name of its unit
pub shown_name : (unit : typed.Unit) (interface : Interface) → IsInterfaceOf unit interface → interface.name ≡ unit.name
shown_name unit interface h = ap (λ (i : Interface). i.name) h.is
