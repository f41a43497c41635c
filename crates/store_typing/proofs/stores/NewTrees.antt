-- The tree of a new variable has the form of its type.
use Rattle.std.proofs.Common.{ℕ, zero, suc, ◌+◌, List, [], ◌∷◌, ◌++◌, get_or, None}
use Rattle.std.specs.Prelude.{Option}
use Rattle.tp_meaning.specs.type_layout.declared.definitions.TypeId.{TypeId}
use Rattle.tp_meaning.specs.type_layout.declared.definitions.TypeDef.{TypeDef}
use Rattle.tp_meaning.specs.type_layout.declared.definitions.TypeDef.TheVariants as type
use Rattle.tp_meaning.specs.type_layout.Layouts.{given_by, bounds_at}
use Rattle.tp_meaning.specs.type_layout.Storage.{count_between}
use Rattle.tp_meaning.specs.type_layout.Table.{Table}
use Rattle.tp_meaning.specs.Trees.{Key, Tree, Tip, unset, many}
use Rattle.tp_meaning.specs.Shapes.{Part, FieldPart, ClassPart, field_parts, object_parts, parts_in, parts_of, parts_tree, tree_by, new_tree}
use Rattle.store_typing.specs.types.Forms.{Form, End, letter, repeated, line, part_forms, form_in, form_by, form_beside}
use Rattle.store_typing.specs.stores.Worlds.{World, HasForm}

module _ (w : World) where
  -- trees that have forms, one by one
  abbrev Each : List Form → List Tree → Type 0
  Each [] [] = Unit {0}
  Each (form ∷ forms) (tree ∷ trees) = HasForm w form tree × Each forms trees
  Each _ _ = ⊥

  each_get : (forms : List Form) (trees : List Tree) (k : ℕ) → Each forms trees → HasForm w (get_or forms k End) (get_or trees k Tip)
  each_get [] [] k each = tt
  each_get [] (tree ∷ trees) k each = absurd each
  each_get (form ∷ forms) [] k each = absurd each
  each_get (form ∷ forms) (tree ∷ trees) zero each = each.0
  each_get (form ∷ forms) (tree ∷ trees) (suc k) each = each_get forms trees k each.1

  each_push : (forms : List Form) (trees : List Tree) (form : Form) (tree : Tree) → Each forms trees → HasForm w form tree → Each (forms ++ form ∷ []) (trees ++ tree ∷ [])
  each_push [] [] form tree each has = (has, tt)
  each_push [] (t ∷ trees) form tree each has = absurd each
  each_push (f ∷ forms) [] form tree each has = absurd each
  each_push (f ∷ forms) (t ∷ trees) form tree each has = (each.0, each_push forms trees form tree each.1 has)

  pub many_have : (n : ℕ) (form : Form) (tree : Tree) → HasForm w form tree → HasForm w (repeated n form) (many n tree)
  many_have zero form tree has = tt
  many_have (suc n) form tree has = (has, many_have n form tree has)

  parts_have : (forms : List Form) (trees : List Tree) (own : Option Key) (parts : List Part) → Each forms trees → HasForm w (line (part_forms (form_in forms) own parts)) (parts_tree trees parts)
  parts_have forms trees own [] each = tt
  parts_have forms trees own (FieldPart ty ∷ parts) each = (each_get forms trees ty.0 each, parts_have forms trees own parts each)
  parts_have forms trees own (ClassPart ∷ parts) each = (tt, parts_have forms trees own parts each)

  made_has : (table : Table) (types : List TypeDef) (forms : List Form) (trees : List Tree) (one : TypeDef) → Each forms trees → HasForm w (form_by table types forms one) (tree_by types trees one)
  made_has table types forms trees (type.Ordinal host low high) each = tt
  made_has table types forms trees (type.Str max) each = many_have (max + 1) letter unset tt
  made_has table types forms trees (type.SetOf base) each = tt
  made_has table types forms trees (type.ArrayOf index element) each =
      many_have (count_between (bounds_at types index).0 (bounds_at types index).1) (form_in forms element) (get_or trees element.0 Tip) (each_get forms trees element.0 each)
  made_has table types forms trees (type.RecordOf fields) each = parts_have forms trees None (field_parts fields) each
  made_has table types forms trees (type.PointerTo target) each = tt
  made_has table types forms trees (type.ObjectOf parent dynamic fields methods) each =
      parts_have forms trees _ (object_parts (parts_in (parts_of types) parent) dynamic fields) each
  made_has table types forms trees (type.Procedural header) each = tt

  each_given : (table : Table) (before : List TypeDef) (forms : List Form) (trees : List Tree) (types : List TypeDef) → Each forms trees → Each (given_by (form_by table) before forms types) (given_by tree_by before trees types)
  each_given table before forms trees [] each = each
  each_given table before forms trees (one ∷ types) each =
      each_given table (before ++ one ∷ []) (forms ++ form_by table before forms one ∷ []) (trees ++ tree_by before trees one ∷ []) types
      (each_push forms trees (form_by table before forms one) (tree_by before trees one) each (made_has table before forms trees one each))

  pub new_has : (table : Table) (ty : TypeId) → HasForm w (form_beside table ty) (new_tree table.types ty)
  new_has table ty = each_get (given_by (form_by table) [] [] table.types) (given_by tree_by [] [] table.types) ty.0 (each_given table [] [] [] table.types tt)
