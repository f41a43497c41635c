-- How many types are added, of denoters with their parts in vectors.
use Rattle.std.proofs.Common.{◌≡◌, ◌+◌, Bool, Option, ap, ◌∙◌, sym, Vec, Box, Global}
use Rattle.pascal_grammar.specs.declared.lexeme.Position.{Position}
use Rattle.type_layout.specs.declared.texts.Place.{Place}
use Rattle.syntax_tree.specs.declared.identifier.Identifier.{Identifier}
use Rattle.syntax_tree.specs.declared.type_tree.parameter.Method.{Method}
use Rattle.syntax_tree.specs.declared.type_tree.types.FieldGroup.{FieldGroup}
use Rattle.syntax_tree.specs.declared.type_tree.types.TypeDenoter.{TypeDenoter}
use Rattle.syntax_tree.specs.declared.type_tree.types.TypeDenoter.TheVariants as t
use Rattle.syntax_tree.specs.declared.type_tree.types.StructuredType.{StructuredType}
use Rattle.syntax_tree.specs.declared.type_tree.types.StructuredType.TheVariants as s
use Rattle.declaration_checker.specs.type_denoters.Trees.{view_denoter, view_structured, view_denoters, view_groups}
use Rattle.declaration_checker.proofs.type_denoters.Views.{view_array, view_record, view_object}
use Rattle.declaration_checker.specs.type_parts.Promised.{adds, adds_indexes, adds_fields}

pub object_adds : (tree : TypeDenoter) (here : Position) (ancestor : Option Identifier) (all : Vec FieldGroup Global) (semicolon : Bool) (methods : Vec Method Global)
    → tree ≡ t.Object here ancestor all semicolon methods → adds (view_denoter tree) ≡ adds_fields (view_groups all.items) + 1
object_adds tree here ancestor all semicolon methods is = ap (λ (d : TypeDenoter). adds (view_denoter d)) is ∙ ap adds (view_object here ancestor all semicolon methods)

pub array_adds : (place : Place) (tree : StructuredType) (here : Position) (all : Vec TypeDenoter Global) (element : Box TypeDenoter Global) (one : TypeDenoter)
    → tree ≡ s.Array here all element → one ≡ element.value → adds (view_structured place tree) ≡ adds_indexes (view_denoters all.items) + adds (view_denoter one)
array_adds place tree here all element one is same =
    ap (λ (d : StructuredType). adds (view_structured place d)) is ∙ ap adds (view_array place here all element)
    ∙ ap (λ (d : TypeDenoter). adds_indexes (view_denoters all.items) + adds (view_denoter d)) (sym same)

pub record_adds : (place : Place) (tree : StructuredType) (here : Position) (all : Vec FieldGroup Global) (semicolon : Bool)
    → tree ≡ s.Record here all semicolon → adds (view_structured place tree) ≡ adds_fields (view_groups all.items) + 1
record_adds place tree here all semicolon is = ap (λ (d : StructuredType). adds (view_structured place d)) is ∙ ap adds (view_record place here all semicolon)
