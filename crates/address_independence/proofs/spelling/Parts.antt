-- Parts of declarations are judged by what is written in them.
use Rattle.std.proofs.Common.{◌≡◌, ℕ, ◌+◌, List, [], ◌∷◌, ◌++◌, map, Option, Some, refl, ◌∙◌}
use Rattle.std.specs.Prelude.{slice_get}
use Rattle.tp_check_decl.specs.type_layout.declared.definitions.TypeId.{TypeId}
use Rattle.tp_check_decl.specs.type_layout.declared.definitions.Method.{Method}
use Rattle.tp_check_decl.specs.type_layout.declared.definitions.TypeDef.{TypeDef}
use Rattle.tp_check_decl.specs.type_layout.declared.definitions.TypeDef.TheVariants.{ObjectOf}
use Rattle.tp_check_decl.specs.syntax_tree.declared.identifier.Identifier.{Identifier}
use Rattle.tp_check_decl.specs.syntax_tree.declared.type_tree.parameter.Method as written
use Rattle.tp_check_decl.specs.syntax_tree.declared.type_tree.initializer.Initializer.{Initializer, Row_of-Initializer, end_of-Initializer, more_of-Initializer, Row_of-FieldValue, end_of-FieldValue, more_of-FieldValue}
use Rattle.tp_check_decl.specs.syntax_tree.declared.type_tree.initializer.Initializer.TheVariants as v
use Rattle.tp_check_decl.specs.syntax_tree.declared.type_tree.initializer.FieldValue.TheVariants as f
use Rattle.tp_check_decl.specs.syntax_tree.declared.source_tree.declaration.ConstantDeclaration.{ConstantDeclaration}
use Rattle.tp_check_decl.specs.syntax_tree.declared.source_tree.declaration.ConstantDeclaration.TheVariants as c
use Rattle.tp_check_decl.specs.syntax_tree.declared.source_tree.declaration.TypeDeclaration.{TypeDeclaration}
use Rattle.tp_check_decl.specs.syntax_tree.declared.source_tree.declaration.VariableDeclaration.{VariableDeclaration}
use Rattle.tp_check_decl.specs.syntax_tree.declared.source_tree.declaration.DeclarationPart.{DeclarationPart}
use Rattle.tp_check_decl.specs.syntax_tree.declared.source_tree.declaration.DeclarationPart.TheVariants as part_of
use Rattle.tp_check_decl.specs.scopes.declared.entries.Entry.TheVariants as entry
use Rattle.tp_check_decl.specs.scopes.Environment.{Environment, Meaning, named, find}
use Rattle.tp_check_decl.specs.typed_tree.type_fits.Fits.{definition}
use Rattle.tp_check_decl.specs.typing_rules.Judgements.{Judgement, makes, part}
use Rattle.tp_check_decl.specs.declaration_checker.type_denoters.Denoters.{ground}
use Rattle.tp_check_decl.specs.constant_checker.typed_constants.Trees as first
use Rattle.tp_check_decl.specs.constant_checker.typed_constants.Trees.{Initial, Initials, Named, view_initializer, view_row, view_field_row}
use Rattle.tp_check_decl.specs.constant_checker.typed_constants.Initializers.{first_value}
use Rattle.tp_check_decl.specs.declaration_checker.declared.declarations.homes.Home.{Home}
use Rattle.tp_check_decl.specs.declaration_checker.declarations.Progress.{Progress, knowing}
use Rattle.tp_check_decl.specs.declaration_checker.declarations.Constants as constants
use Rattle.tp_check_decl.specs.declaration_checker.declarations.Constants.{plain_constant, static_declared, naming}
use Rattle.tp_check_decl.specs.declaration_checker.declarations.Variables as variables
use Rattle.tp_check_decl.specs.declaration_checker.declarations.Variables.{names_declared}
use Rattle.tp_check_decl.specs.declaration_checker.declarations.Parts as parts
use Rattle.tp_check_decl.specs.routines.Drafts.{Numbered}
use Rattle.tp_check_decl.specs.routines.Methods as methods
use Rattle.tp_check_decl.specs.routines.Methods.{of_method}
use Rattle.address_independence.specs.yields.Written as w
use Rattle.address_independence.specs.yields.Trees.{method_in, initial_in, initials_in, named_in, constant_in, type_named, variables_in, part_in}
use Rattle.address_independence.proofs.spelling.Headings.{place_is}
use Rattle.address_independence.proofs.spelling.Denoters.{judged, judged_is}
use Rattle.address_independence.proofs.spelling.Objects.{methods_in, written_are, type_part, type_part_is}

-- ---- first values

abbrev mutual
  initial_of : w.Initial → Initial
  initial_of (w.value one) = first.value one
  initial_of (w.list place all) = first.list place (initials_of all)
  initial_of (w.fields place all) = first.group place (named_of all)

  initials_of : w.Initials → Initials
  initials_of w.no_initials = first.no_initials
  initials_of (w.and_initial one rest) = first.and_initial (initial_of one) (initials_of rest)

  named_of : w.Named → Named
  named_of w.no_named = first.no_named
  named_of (w.and_named name one rest) = first.and_named name (initial_of one) (named_of rest)

mutual
  initial_is : (one : Initializer) → view_initializer one ≡ initial_of (initial_in one)
  initial_is (v.Value one) = refl
  initial_is (v.List' here shape all) = λ i. first.list here.place (initials_are all i)
  initial_is (v.Record' here shape all) = λ i. first.group here.place (named_are all i)

  initials_are : {n : _} (all : Row_of-Initializer n) → view_row all ≡ initials_of (initials_in all)
  initials_are end_of-Initializer = refl
  initials_are (more_of-Initializer one all) = λ i. first.and_initial (initial_is one i) (initials_are all i)

  named_are : {n : _} (all : Row_of-FieldValue n) → view_field_row all ≡ named_of (named_in all)
  named_are end_of-FieldValue = refl
  named_are (more_of-FieldValue (f.Field name one) all) = λ i. first.and_named name (initial_is one i) (named_are all i)

-- ---- constants

-- what is judged of a typed constant behind its type
abbrev first_judged : Progress → Identifier → TypeId → Initial → Environment → Judgement Progress
first_judged p name ty one scope = part (first_value scope name.position.place ty one) (λ bytes. static_declared (knowing p scope) ty name bytes)

abbrev constant_declared : List ℕ → Progress → w.Constant → Judgement Progress
constant_declared unit p (w.plain one value) = naming p (plain_constant p.scope one value)
constant_declared unit p (w.typed one denoter first) =
    part (judged (ground unit []) p.scope denoter) (λ made. first_judged p one made.ty (initial_of first) made.scope)

abbrev constants_declared : List ℕ → Progress → List w.Constant → Judgement Progress
constants_declared unit p [] = makes p
constants_declared unit p (one ∷ rest) = part (constant_declared unit p one) (λ q. constants_declared unit q rest)

constant_is : (unit : List ℕ) (p : Progress) (one : ConstantDeclaration) → constants.constant_declared unit p one ≡ constant_declared unit p (constant_in one)
constant_is unit p (c.Plain one value) = refl
constant_is unit p (c.Typed one denoter first) =
    λ i. part (judged_is denoter (ground unit []) p.scope i) (λ made. first_judged p one made.ty (initial_is first i) made.scope)

constants_are : (all : List ConstantDeclaration) (unit : List ℕ) (p : Progress) → constants.constants_declared unit p all ≡ constants_declared unit p (map constant_in all)
constants_are [] unit p = refl
constants_are (one ∷ rest) unit p = λ i. part (constant_is unit p one i) (λ q. constants_are rest unit q i)

-- ---- variables

abbrev group_declared : List ℕ → Home → Progress → w.Variables → Judgement Progress
group_declared unit home p one = part (judged (ground unit []) p.scope one.denoter) (λ made. names_declared home made.ty (knowing p made.scope) one.names)

abbrev variables_declared : List ℕ → Home → Progress → List w.Variables → Judgement Progress
variables_declared unit home p [] = makes p
variables_declared unit home p (one ∷ rest) = part (group_declared unit home p one) (λ q. variables_declared unit home q rest)

variables_are : (all : List VariableDeclaration) (unit : List ℕ) (home : Home) (p : Progress)
    → variables.variables_declared unit home p all ≡ variables_declared unit home p (map variables_in all)
variables_are [] unit home p = refl
variables_are (one ∷ rest) unit home p =
    λ i. part (part (judged_is one.denoter (ground unit []) p.scope i) (λ made. names_declared home made.ty (knowing p made.scope) one.names.items)) (λ q. variables_are rest unit home q i)

-- ---- parts

abbrev pub part_declared : List ℕ → Home → Option ℕ → Progress → w.Part → Judgement Progress
part_declared unit home next p (w.constants all) = constants_declared unit p all
part_declared unit home next p (w.types all) = naming p (type_part unit next p.scope all)
part_declared unit home next p (w.variables all) = variables_declared unit home p all

pub part_declared_is : (unit : List ℕ) (home : Home) (next : Option ℕ) (p : Progress) (one : DeclarationPart)
    → parts.part_declared unit home next p one ≡ part_declared unit home next p (part_in one)
unfolding parts.part_declared
part_declared_is unit home next p (part_of.Constants here all) = constants_are all.items unit p
part_declared_is unit home next p (part_of.Types here all) = λ i. naming p (type_part_is unit next p.scope all.items i)
part_declared_is unit home next p (part_of.Variables here all) = variables_are all.items unit home p

-- ---- the routines of object types

abbrev of_methods : TypeId → List Method → ℕ → List w.Method → List Numbered
of_methods owner methods place [] = []
of_methods owner methods place (one ∷ rest) = of_method owner one.heading.position.place (slice_get methods place) ++ of_methods owner methods (place + 1) rest

abbrev of_type : TypeId → Option TypeDef → List w.Method → List Numbered
of_type ty (Some (ObjectOf parent dynamic fields methods)) all = of_methods ty methods 0 all
of_type ty _ all = []

abbrev of_meaning : List TypeDef → Option Meaning → List w.Method → List Numbered
of_meaning types (Some (named n (entry.Ty ty))) all = of_type ty (definition types ty) all
of_meaning types _ all = []

abbrev of_declarations : Environment → List w.NamedDenoter → List Numbered
of_declarations g [] = []
of_declarations g (one ∷ rest) = of_meaning g.types.types (find g one.name.name) (methods_in one.denoter) ++ of_declarations g rest

-- the routines that the object types of a part have, which is behind them
abbrev pub routines_of : Environment → w.Part → List Numbered
routines_of g (w.types all) = of_declarations g all
routines_of g _ = []

of_methods_is : (all : List written.Method) (owner : TypeId) (having : List Method) (place : ℕ) → methods.of_methods owner having place all ≡ of_methods owner having place (map method_in all)
of_methods_is [] owner having place = refl
of_methods_is (one ∷ rest) owner having place = λ i. of_method owner (place_is one.header i) (slice_get having place) ++ of_methods_is rest owner having (place + 1) i

of_type_is : (ty : TypeId) (one : Option TypeDef) (all : List written.Method) → methods.of_type ty one all ≡ of_type ty one (map method_in all)
of_type_is ty (Some (ObjectOf parent dynamic fields having)) all = of_methods_is all ty having 0
of_type_is ty _ all = refl

of_meaning_is : (types : List TypeDef) (one : Option Meaning) (all : List written.Method) → methods.of_meaning types one all ≡ of_meaning types one (map method_in all)
of_meaning_is types (Some (named n (entry.Ty ty))) all = of_type_is ty (definition types ty) all
of_meaning_is types _ all = refl

of_declaration_is : (g : Environment) (one : TypeDeclaration) → methods.of_declaration g one ≡ of_meaning g.types.types (find g one.name.name) (methods_in (type_named one).denoter)
unfolding methods.of_declaration
of_declaration_is g one =
    of_meaning_is g.types.types (find g one.name.name) (methods.written_in one.denoter)
    ∙ λ i. of_meaning g.types.types (find g one.name.name) (written_are one.denoter i)

of_declarations_is : (g : Environment) (all : List TypeDeclaration) → methods.of_declarations g all ≡ of_declarations g (map type_named all)
of_declarations_is g [] = refl
of_declarations_is g (one ∷ rest) = λ i. of_declaration_is g one i ++ of_declarations_is g rest i

pub routines_of_is : (g : Environment) (one : DeclarationPart) → methods.of_part g one ≡ routines_of g (part_in one)
routines_of_is g (part_of.Constants here all) = refl
routines_of_is g (part_of.Types here all) = of_declarations_is g all.items
routines_of_is g (part_of.Variables here all) = refl
