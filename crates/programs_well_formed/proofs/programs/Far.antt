-- The routines that an interface part announces are far.
use Rattle.std.proofs.Common.{◌≡◌, ℕ, ◌+◌, true, All, List, [], ◌∷◌, Option, Some, None, refl, sym, subst}
use Rattle.std.specs.Prelude.{slice_get}
use Rattle.std.proofs.lemmas.List.Elements.{All-nil, All-cons, All-append, All-push}
use Rattle.units_well_formed.specs.type_layout.declared.definitions.TypeId.{TypeId}
use Rattle.units_well_formed.specs.type_layout.declared.definitions.Method.{Method}
use Rattle.units_well_formed.specs.type_layout.declared.definitions.TypeDef.{TypeDef}
use Rattle.units_well_formed.specs.type_layout.declared.definitions.TypeDef.TheVariants as type
use Rattle.units_well_formed.specs.type_layout.declared.texts.Place.{Place}
use Rattle.units_well_formed.specs.syntax_tree.declared.type_tree.parameter.Method as written
use Rattle.units_well_formed.specs.syntax_tree.declared.source_tree.declaration.TypeDeclaration.{TypeDeclaration}
use Rattle.units_well_formed.specs.syntax_tree.declared.source_tree.declaration.DeclarationPart.{DeclarationPart}
use Rattle.units_well_formed.specs.syntax_tree.declared.source_tree.declaration.DeclarationPart.TheVariants as part_of
use Rattle.units_well_formed.specs.syntax_tree.declared.source_tree.declaration.RoutineHeader.{RoutineHeader}
use Rattle.units_well_formed.specs.syntax_tree.declared.source_tree.source.InterfaceDeclaration.{InterfaceDeclaration}
use Rattle.units_well_formed.specs.syntax_tree.declared.source_tree.source.InterfaceDeclaration.TheVariants as i
use Rattle.units_well_formed.specs.scopes.declared.entries.Entry.TheVariants as entry
use Rattle.units_well_formed.specs.scopes.Environment.{Environment, Meaning, named, member, find}
use Rattle.units_well_formed.specs.declaration_checker.type_parts.Objects.{header_place}
use Rattle.units_well_formed.specs.tp_check_decl.routines.Drafts.{Numbered, Drafted, Stage, stage}
use Rattle.units_well_formed.specs.tp_check_decl.routines.Headings.{announced_by, heading}
use Rattle.units_well_formed.specs.tp_check_decl.routines.Methods.{method_announced, awaiting, of_method, of_methods, of_type, of_meaning, written_in, of_declaration, of_declarations, of_part}
use Rattle.units_well_formed.specs.tp_check_decl.routines.Blocks.{part_judged}
use Rattle.programs_well_formed.specs.imported_interfaces.Below.{all_declared, unit_site, empty_draft}
use Rattle.units_well_formed.specs.tp_check_decl.Interfaces.{interface_judged}

abbrev pub IsFar : Numbered → Type 0
IsFar one = one.first.far ≡ true

-- ---- methods

method_far : (owner : TypeId) (place : Place) (one : Option Method) → All IsFar (of_method owner place one)
method_far owner place None = All-nil IsFar
method_far owner place (Some one) = All-cons IsFar (awaiting (method_announced owner place one)) [] refl (All-nil IsFar)

methods_far : (owner : TypeId) (methods : List Method) (place : ℕ) (all : List written.Method) → All IsFar (of_methods owner methods place all)
methods_far owner methods place [] = All-nil IsFar
methods_far owner methods place (one ∷ rest) =
    All-append IsFar (of_method owner (header_place one.header) (slice_get methods place)) (of_methods owner methods (place + 1) rest)
    (method_far owner (header_place one.header) (slice_get methods place)) (methods_far owner methods (place + 1) rest)

type_far : (ty : TypeId) (one : Option TypeDef) (all : List written.Method) → All IsFar (of_type ty one all)
type_far ty (Some (type.ObjectOf parent dynamic fields methods)) all = methods_far ty methods 0 all
type_far ty (Some (type.Ordinal host low high)) all = All-nil IsFar
type_far ty (Some (type.Str max)) all = All-nil IsFar
type_far ty (Some (type.SetOf base)) all = All-nil IsFar
type_far ty (Some (type.ArrayOf index element)) all = All-nil IsFar
type_far ty (Some (type.RecordOf fields)) all = All-nil IsFar
type_far ty (Some (type.PointerTo target)) all = All-nil IsFar
type_far ty (Some (type.Procedural header)) all = All-nil IsFar
type_far ty None all = All-nil IsFar

meaning_far : (types : List TypeDef) (found : Option Meaning) (all : List written.Method) → All IsFar (of_meaning types found all)
meaning_far types (Some (named n (entry.Ty ty))) all = type_far ty (slice_get types ty.0) all
meaning_far types (Some (named n (entry.Const ty v))) all = All-nil IsFar
meaning_far types (Some (named n (entry.Var unit level number ty))) all = All-nil IsFar
meaning_far types (Some (named n (entry.Code routine level header far))) all = All-nil IsFar
meaning_far types (Some (named n (entry.Std number))) all = All-nil IsFar
meaning_far types (Some (member n m)) all = All-nil IsFar
meaning_far types None all = All-nil IsFar

declaration_far : (g : Environment) (one : TypeDeclaration) → All IsFar (of_declaration g one)
unfolding of_declaration
declaration_far g one = meaning_far g.types.types (find g one.name.name) (written_in one.denoter)

declarations_far : (g : Environment) (all : List TypeDeclaration) → All IsFar (of_declarations g all)
declarations_far g [] = All-nil IsFar
declarations_far g (one ∷ rest) = All-append IsFar (of_declaration g one) (of_declarations g rest) (declaration_far g one) (declarations_far g rest)

methods_of_part : (g : Environment) (one : DeclarationPart) → All IsFar (of_part g one)
methods_of_part g (part_of.Types here all) = declarations_far g all.items
methods_of_part g (part_of.Constants here all) = All-nil IsFar
methods_of_part g (part_of.Variables here all) = All-nil IsFar

-- ---- declarations of an interface part

part_far : (name : List ℕ) (s t : Stage) (one : DeclarationPart) → (part_judged name unit_site s one).holds t → All IsFar s.draft.routines → All IsFar t.draft.routines
unfolding part_judged
part_far name s t one k h =
    subst (λ (x : Stage). All IsFar x.draft.routines) (sym k.made)
    (All-append IsFar s.draft.routines (of_part k.part.scope one) h (methods_of_part k.part.scope one))

heading_far : (d e : Drafted) (one : RoutineHeader) → (heading true unit_site d one).holds e → All IsFar d.routines → All IsFar e.routines
unfolding heading
heading_far d e one k h =
    let new : Numbered = record { first = announced_by true unit_site one k.part; done = None } in
    subst (λ (x : Drafted). All IsFar x.routines) (sym k.made.made) (All-push IsFar d.routines new h refl)

all_far : (name : List ℕ) (s t : Stage) (all : List InterfaceDeclaration) → (all_declared name s all).holds t → All IsFar s.draft.routines → All IsFar t.draft.routines
all_far name s t [] k h = subst (λ (x : Stage). All IsFar x.draft.routines) (sym k) h
all_far name s t (i.Part one ∷ rest) k h = all_far name k.part t rest k.made (part_far name s k.part one k.holds h)
all_far name s t (i.Header one ∷ rest) k h =
    let head = k.holds in
    let first : All IsFar head.part.routines = heading_far s.draft head.part one head.holds h in
    all_far name k.part t rest k.made (subst (λ (x : Stage). All IsFar x.draft.routines) (sym head.made) first)

pub interface_far : (name : List ℕ) (g : Environment) (all : List InterfaceDeclaration) (d : Drafted) → (interface_judged name g all).holds d → All IsFar d.routines
unfolding interface_judged
interface_far name g all d k =
    let start : Stage = stage (empty_draft g) [] in
    subst (λ (x : Drafted). All IsFar x.routines) (sym k.made) (all_far name start k.part all k.holds (All-nil IsFar))
