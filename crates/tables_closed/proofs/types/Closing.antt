-- Types and parts of type declarations leave closed scopes.
use Rattle.std.proofs.Common.{ℕ, ◌<◌, List, [], Option, length, arith}
use Rattle.tp_check_decl.specs.syntax_tree.declared.source_tree.declaration.TypeDeclaration.{TypeDeclaration}
use Rattle.tp_check_decl.specs.scopes.Environment.{Environment}
use Rattle.tp_check_decl.specs.declaration_checker.type_denoters.Trees.{Denoter}
use Rattle.tp_check_decl.specs.declaration_checker.type_denoters.Additions.{Denoted}
use Rattle.tp_check_decl.specs.declaration_checker.type_denoters.Denoters.{ground, judged}
use Rattle.tp_check_decl.specs.declaration_checker.type_parts.Parts.{type_part}
use Rattle.tables_closed.specs.constants.Bounds.{IsWellScopedEnvironment}
use Rattle.tables_closed.specs.constants.Ordered.{IsOrdered}
use Rattle.tables_closed.proofs.constants.Names.{closed_below}
use Rattle.tables_closed.proofs.types.Promising.{none_promised}
use Rattle.tables_closed.proofs.types.Denoting.{denoting}
use Rattle.tables_closed.proofs.types.Parts.{part_longer, part_bound}

pub type_closed : (unit : List ℕ) (g : Environment) (one : Denoter) (made : Denoted) → (judged (ground unit []) g one).holds made → IsWellScopedEnvironment g
    → IsWellScopedEnvironment made.scope × (made.ty.0 < length made.scope.types.types)
type_closed unit g one made e h =
    let types = denoting (ground unit []) g one made e in
    let long = types.reads.long in
    let n = length made.scope.types.types in
    let bound = closed_below n g h (omega arith) in
    (types.reads.bound n bound (omega arith) (none_promised n), types.ty n bound (omega arith) (none_promised n))

pub part_closed : (unit : List ℕ) (next : Option ℕ) (g : Environment) (all : List TypeDeclaration) (h : Environment) → (type_part unit next g all).holds h → IsWellScopedEnvironment g → IsWellScopedEnvironment h
part_closed unit next g all h e closed =
    let n = length h.types.types in
    part_bound n unit next g all h e (closed_below n g closed (part_longer unit next g all h e)) (omega arith)

pub type_ordered : (unit : List ℕ) (g : Environment) (one : Denoter) (made : Denoted) → (judged (ground unit []) g one).holds made → IsOrdered g.types → IsOrdered made.scope.types
type_ordered unit g one made e o = (denoting (ground unit []) g one made e).reads.ordered o
