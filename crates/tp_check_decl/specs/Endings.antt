-- Units behind their declarations.
use Rattle.std.specs.Prelude.{ℕ, List, [], ◌∷◌, ◌++◌, Option, Some, None, length}
use Rattle.type_layout.specs.declared.definitions.TypeDef.{TypeDef}
use Rattle.syntax_tree.specs.declared.statement.CompoundStatement.{CompoundStatement}
use Rattle.typed_tree.specs.declared.units.Item.{Item}
use Rattle.scopes.specs.Members.{narrow}
use Rattle.scopes.specs.Environment.{Environment}
use Rattle.typing_rules.specs.declared.faults.Rule.TheVariants as rules
use Rattle.typing_rules.specs.Faults.{broken}
use Rattle.typing_rules.specs.Judgements.{Judgement, makes, refuses, part, parts}
use Rattle.typing_rules.specs.Selectors.{asking}
use Rattle.tp_check_decl.specs.declared.routines.drafts.Announced.{Announced}
use Rattle.tp_check_decl.specs.routines.Drafts.{Drafted, Done, Numbered}
use Rattle.tp_check_decl.specs.routines.Insides.{statements_of}
use Rattle.tp_check_decl.specs.declared.fronts.Front.{Front}
use Rattle.tp_check_decl.specs.Units.{Finished, Whole, finished, main_part, whole}
use Rattle.tp_check_decl.specs.Limits.{within_limit}

-- a routine has its block, which keeps the limit
abbrev pub finished_by : List TypeDef → Announced → Option Done → Judgement Finished
finished_by types first None = refuses (broken first.place rules.Bodies)
finished_by types first (Some done) = asking (within_limit types done.place (finished first done)) (makes (finished first done))

abbrev pub all_finished : List TypeDef → List Numbered → Judgement (List Finished)
all_finished types [] = makes []
all_finished types (one ∷ rest) = parts (finished_by types one.first one.done) (all_finished types rest) (λ f fs. makes (f ∷ fs))

-- the statements of a main or initialisation part
unfoldable pub main_judged : List ℕ → Environment → CompoundStatement → Judgement Finished
main_judged name g body =
    part (statements_of g body) (λ typed. asking (within_limit g.types.types body.position.place (main_part name typed)) (makes (main_part name typed)))

-- a main or initialisation part comes behind the other routines
abbrev pub with_main : List ℕ → Front → List Item → Drafted → List Finished → Finished → Whole
with_main name front items d all main = whole name front d.scope items d.globals (all ++ main ∷ []) (Some (narrow (length all)))

-- The unit of what was read, with the items that it shows: each header has its block.
abbrev pub ended : List ℕ → Front → List Item → Option CompoundStatement → Drafted → Judgement Whole
ended name front items None d = part (all_finished d.scope.types.types d.routines) (λ all. makes (whole name front d.scope items d.globals all None))
ended name front items (Some body) d =
    parts (all_finished d.scope.types.types d.routines) (main_judged name d.scope body) (λ all main. makes (with_main name front items d all main))
