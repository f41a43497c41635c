-- Object types, and parts of type declarations.
use Rattle.std.proofs.Common.{ℕ, List, [], ◌∷◌, Option, Some, None, sym, subst}
use Rattle.bodies_well_formed.specs.type_layout.declared.texts.Place.{Place}
use Rattle.bodies_well_formed.specs.syntax_tree.declared.identifier.Identifier.{Identifier}
use Rattle.bodies_well_formed.specs.syntax_tree.declared.type_tree.parameter.Method as written
use Rattle.bodies_well_formed.specs.syntax_tree.declared.type_tree.types.TypeDenoter.{TypeDenoter}
use Rattle.bodies_well_formed.specs.syntax_tree.declared.type_tree.types.TypeDenoter.TheVariants as t
use Rattle.bodies_well_formed.specs.syntax_tree.declared.source_tree.declaration.TypeDeclaration.{TypeDeclaration}
use Rattle.bodies_well_formed.specs.scopes.declared.entries.Entry.TheVariants as entry
use Rattle.bodies_well_formed.specs.scopes.Environment.{Environment}
use Rattle.imported_types_agree.specs.declaration_checker.type_denoters.Trees.{Fields, view_denoter, view_field_row}
use Rattle.imported_types_agree.specs.declaration_checker.type_denoters.Additions.{Denoted}
use Rattle.imported_types_agree.specs.declaration_checker.type_denoters.Denoters.{Ground, ground}
use Rattle.imported_types_agree.specs.declaration_checker.type_parts.Promised.{promises}
use Rattle.imported_types_agree.specs.declaration_checker.type_parts.Objects.{object_judged, object_allowed}
use Rattle.imported_types_agree.specs.declaration_checker.type_parts.Parts.{whole, next_routine, types_declared, type_part}
use Rattle.declarations_well_formed.specs.names.Declaring.{Declares}
use Rattle.declarations_well_formed.specs.names.Laws.{PartLaw}
use Rattle.declarations_well_formed.proofs.names.Adding.{nothing, behind, name_declares, added_declares}
use Rattle.declarations_well_formed.proofs.names.Types.{type_declares, fields_declare}

object_declares : (on : Ground) (first : ℕ) (name : List ℕ) (g : Environment) (place : Place) (ancestor : Option Identifier) (all : Fields) (methods : List written.Method) (made : Denoted)
    → (object_judged on first name g place ancestor all methods).holds made → Declares g made.scope
object_declares on first name g place ancestor all methods made k =
    let inner = k.made in
    let over = inner.made in
    behind g inner.part.scope made.scope (fields_declare all on g [] inner.part inner.holds) (added_declares on.unit inner.part.scope place _ _ made over.made)

allowed_declares : (on : Ground) (next : Option ℕ) (name : List ℕ) (g : Environment) (place : Place) (ancestor : Option Identifier) (all : Fields) (methods : List written.Method) (made : Denoted)
    → (object_allowed on next name g place ancestor all methods).holds made → Declares g made.scope
allowed_declares on None name g place ancestor all methods made k = absurd k
allowed_declares on (Some first) name g place ancestor all methods made k = object_declares on first name g place ancestor all methods made k

whole_declares : (on : Ground) (next : Option ℕ) (name : List ℕ) (g : Environment) (one : TypeDenoter) (made : Denoted) → (whole on next name g one).holds made → Declares g made.scope
whole_declares on next name g (t.Object' here ancestor shape fields semicolon methods) made k =
    allowed_declares on next name g here.place ancestor (view_field_row fields) methods.items made k
whole_declares on next name g one made k = type_declares (view_denoter one) on g made k

types_declare : (on : Ground) (next : Option ℕ) (g : Environment) (all : List TypeDeclaration) (h : Environment) → (types_declared on next g all).holds h → Declares g h
types_declare on next g [] h k = subst (λ (e : Environment). Declares g e) (sym k) (nothing g)
types_declare on next g (one ∷ rest) h k =
    let declared = k.holds in
    let first = whole_declares on next one.name.name g one.denoter declared.part declared.holds in
    let name = name_declares declared.part.scope k.part one.name.position.place one.name.name (entry.Ty declared.part.ty) tt declared.made in
    behind g k.part h (behind g declared.part.scope k.part first name) (types_declare on (next_routine next one.denoter) k.part rest h k.made)

pub part_declares : PartLaw
unfolding type_part
part_declares unit next g all h k = types_declare (ground unit (promises g all)) next g all h k
