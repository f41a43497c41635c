-- The ids that the types of a part of type declarations will have.
use Rattle.std.specs.Prelude.{ℕ, ◌+◌, ◌-◌, List, [], ◌∷◌, ◌++◌, Option, Some, None, length}
use Rattle.type_layout.specs.declared.definitions.TypeId.{TypeId}
use Rattle.syntax_tree.specs.declared.identifier.Identifier.{Identifier}
use Rattle.syntax_tree.specs.declared.source_tree.declaration.TypeDeclaration.{TypeDeclaration}
use Rattle.scopes.specs.declared.entries.Entry.TheVariants as entry
use Rattle.scopes.specs.Members.{narrow}
use Rattle.scopes.specs.Predeclared.{type_id}
use Rattle.scopes.specs.Environment.{Environment, Meaning, named, find}
use Rattle.typing_rules.specs.Sorts as sorts
use Rattle.typing_rules.specs.Wanted.{untyped}
use Rattle.declaration_checker.specs.declared.type_denoters.promises.Promise.{Promise}
use Rattle.declaration_checker.specs.type_denoters.Trees as tree
use Rattle.declaration_checker.specs.type_denoters.Trees.{Denoter, Denoters, Fields, view_denoter}
use Rattle.declaration_checker.specs.type_denoters.Denoters.{promise_of}

-- how many types are added for a type, of which it is the last, but for an enumeration and a subrange, which a set follows
abbrev mutual
  pub adds : Denoter → ℕ
  adds (tree.named one) = 0
  adds (tree.range low high) = 2
  adds (tree.enumeration place names) = 2
  adds (tree.pointer one) = 1
  adds tree.string = 0
  adds (tree.sized place size) = 1
  adds (tree.procedure place groups) = 1
  adds (tree.function place groups result) = 1
  adds (tree.object place ancestor fields methods) = adds_fields fields + 1
  adds (tree.array place types element) = adds_indexes types + adds element
  adds (tree.record_of place fields) = adds_fields fields + 1
  adds (tree.set place element) = adds element + 1

  -- for index types, each with an array
  pub adds_indexes : Denoters → ℕ
  adds_indexes tree.no_denoters = 0
  adds_indexes (tree.and_denoter one rest) = (adds one + 1) + adds_indexes rest

  pub adds_fields : Fields → ℕ
  adds_fields tree.no_fields = 0
  adds_fields (tree.and_fields names one rest) = adds one + adds_fields rest

-- Another name of a type has that type's id: one of the same part, or one that is visible. What means no type gets an id that no
-- table has; the declaration fails then.
abbrev pub alias_by : Option TypeId → Option Meaning → TypeId
alias_by (Some ty) meaning = ty
alias_by None (Some (named n (entry.Ty ty))) = ty
alias_by None _ = untyped

abbrev pub alias_of : Environment → List Promise → Identifier → TypeId
alias_of g before one = alias_by (promise_of before one.name) (find g one.name)

-- the id of a type, where the next type of the table has this one
abbrev pub promised_id : Environment → List Promise → ℕ → Denoter → TypeId
promised_id g before next (tree.named one) = alias_of g before one
promised_id g before next tree.string = sorts.string
promised_id g before next (tree.enumeration place names) = type_id next
promised_id g before next (tree.range low high) = type_id next
promised_id g before next one = type_id (narrow (next + adds one) - 1)

abbrev pub promise : List ℕ → TypeId → Promise
promise name ty = record { name = name; ty = ty }

abbrev pub promises_from : Environment → List Promise → ℕ → List TypeDeclaration → List Promise
promises_from g before next [] = before
promises_from g before next (one ∷ rest) =
    promises_from g (before ++ promise one.name.name (promised_id g before next (view_denoter one.denoter)) ∷ []) (narrow (next + adds (view_denoter one.denoter))) rest

-- the names that a part declares, with the ids of their types
abbrev pub promises : Environment → List TypeDeclaration → List Promise
promises g all = promises_from g [] (length g.types.types) all
