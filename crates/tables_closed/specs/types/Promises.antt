-- Promises of the ids of types are kept.
use Rattle.std.specs.Prelude.{◌≡◌, ℕ, ◌<◌, ◌≤◌, ◌^◌, List, [], ◌∷◌, Option, Some, length}
use Rattle.tp_check_decl.specs.type_layout.declared.definitions.TypeId.{TypeId}
use Rattle.tp_check_decl.specs.syntax_tree.declared.source_tree.declaration.TypeDeclaration.{TypeDeclaration}
use Rattle.tp_check_decl.specs.scopes.declared.entries.Entry.TheVariants as entry
use Rattle.tp_check_decl.specs.scopes.Environment.{Environment, Meaning, named, find}
use Rattle.tp_check_decl.specs.declaration_checker.type_denoters.Trees.{Denoter, array, no_denoters, view_denoter}
use Rattle.tp_check_decl.specs.declaration_checker.type_denoters.Denoters.{promise_of}
use Rattle.tp_check_decl.specs.declaration_checker.type_parts.Promised.{promises}
use Rattle.tp_check_decl.specs.declaration_checker.type_parts.Parts.{type_part}

-- a name means this type
abbrev pub MeansType : Option Meaning → TypeId → Type 0
MeansType (Some (named number (entry.Ty own))) ty = own ≡ ty
MeansType _ ty = ⊥

-- an array that is written has an index type
abbrev pub HasIndex : Denoter → Type 0
HasIndex (array place no_denoters element) = ⊥
HasIndex _ = Unit {0}

abbrev pub HaveIndexes : List TypeDeclaration → Type 0
HaveIndexes [] = Unit {0}
HaveIndexes (one ∷ rest) = HasIndex (view_denoter one.denoter) × HaveIndexes rest

-- Behind a part of type declarations of a block each name that it declares means the type that was promised, where 32 bits hold the
-- numbers of the types.
abbrev pub AreKept : Type 0
AreKept = (unit : List ℕ) (next : Option ℕ) (g : Environment) (all : List TypeDeclaration) (h : Environment) → (type_part unit next g all).holds h → 1 ≤ length g.blocks
    → length h.types.types < 2 ^ 32 → HaveIndexes all → (name : List ℕ) (ty : TypeId) → promise_of (promises g all) name ≡ Some ty → MeansType (find h name) ty
