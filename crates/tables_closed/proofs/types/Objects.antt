-- Object types: how many types they add, and that what they name is below each bound.
use Rattle.std.proofs.Common.{ℕ, ◌+◌, ◌<◌, List, [], ◌∷◌, ◌++◌, length, Option, Some, None, sym, subst, arith}
use Rattle.tp_check_decl.specs.type_layout.declared.definitions.Field.{Field}
use Rattle.tp_check_decl.specs.type_layout.declared.definitions.Method.{Method}
use Rattle.tp_check_decl.specs.type_layout.declared.definitions.TypeDef.TheVariants.{ObjectOf}
use Rattle.tp_check_decl.specs.type_layout.declared.texts.Place.{Place}
use Rattle.tp_check_decl.specs.syntax_tree.declared.identifier.Identifier.{Identifier}
use Rattle.tp_check_decl.specs.syntax_tree.declared.type_tree.parameter.Method as written
use Rattle.tp_check_decl.specs.syntax_tree.declared.type_tree.types.TypeDenoter.{TypeDenoter}
use Rattle.tp_check_decl.specs.syntax_tree.declared.type_tree.types.TypeDenoter.TheVariants as t
use Rattle.tp_check_decl.specs.scopes.declared.entries.Entry.TheVariants as entry
use Rattle.tp_check_decl.specs.scopes.declared.entries.BlockKind.TheVariants.{Part}
use Rattle.tp_check_decl.specs.scopes.Members.{narrow}
use Rattle.tp_check_decl.specs.scopes.Predeclared.{type_id}
use Rattle.tp_check_decl.specs.scopes.Environment.{Environment, with_block}
use Rattle.tp_check_decl.specs.unit_interface.Exports.{in_header, in_methods}
use Rattle.tp_check_decl.specs.declaration_checker.type_denoters.Trees.{Fields, view_denoter, view_field_row}
use Rattle.tp_check_decl.specs.declaration_checker.type_denoters.Additions.{Denoted}
use Rattle.tp_check_decl.specs.declaration_checker.type_denoters.Denoters.{Ground}
use Rattle.tp_check_decl.specs.declaration_checker.type_parts.Promised.{adds, adds_fields}
use Rattle.tp_check_decl.specs.declaration_checker.type_parts.Objects.{method_judged, methods_judged, is_dynamic, inside, object_allowed}
use Rattle.tp_check_decl.specs.declaration_checker.type_parts.Parts.{whole}
use Rattle.tables_closed.specs.constants.Bounds.{AreBelow, IsBoundOf}
use Rattle.tables_closed.proofs.constants.Below.{below_both, below_first, below_last}
use Rattle.tables_closed.proofs.constants.Headers.{method_bounded}
use Rattle.tables_closed.proofs.types.Entering.{IsAsked, bound_with_name, bound_with_block}
use Rattle.tables_closed.proofs.types.Reading.{Types, type_then, adds_type}
use Rattle.tables_closed.proofs.types.Promising.{ArePromised}
use Rattle.tables_closed.proofs.types.Denoting.{denoting, fields_read}

-- ---- methods

module _ (n : ℕ) where
  with_method : (methods : List Method) (one : Method) → AreBelow n (in_methods methods) → AreBelow n (in_header one.header) → AreBelow n (in_methods (methods ++ one ∷ []))
  with_method [] one h low = below_both n (in_header one.header) [] low tt
  with_method (first ∷ methods) one h low =
      below_both n (in_header first.header) (in_methods (methods ++ one ∷ [])) (below_first n (in_header first.header) (in_methods methods) h)
      (with_method methods one (below_last n (in_header first.header) (in_methods methods) h) low)

  method_below : (g : Environment) (unit number : ℕ) (fields : List Field) (before : List Method) (one : written.Method) (made : Method) → IsBoundOf n g
      → (method_judged g unit number fields before one).holds made → AreBelow n (in_header made.header)
  method_below g unit number fields before one made b e =
      subst (λ (m : Method). AreBelow n (in_header m.header)) (sym e.made.made.made) (method_bounded n g b one.header e.part e.holds)

  methods_below : (g : Environment) (unit number : ℕ) (fields : List Field) (before : List Method) (all : List written.Method) (made : List Method) → IsBoundOf n g
      → AreBelow n (in_methods before) → (methods_judged g unit number fields before all).holds made → AreBelow n (in_methods made)
  methods_below g unit number fields before [] made b h e = subst (λ (m : List Method). AreBelow n (in_methods m)) (sym e) h
  methods_below g unit number fields before (one ∷ rest) made b h e =
      methods_below g unit (narrow (number + 1)) fields (before ++ e.part ∷ []) rest made b
      (with_method before e.part h (method_below g unit number fields before one e.part b e.holds)) e.made

  inside_bound : (g : Environment) (name : List ℕ) → IsBoundOf n g → length g.types.types < n → IsBoundOf n (inside g name)
  inside_bound g name b low = bound_with_name n (with_block g Part) name (entry.Ty (type_id (length g.types.types))) (bound_with_block n g Part b) (low, tt)

-- ---- objects

module _ (on : Ground) where
  abbrev Asked : ℕ → Type 0
  Asked n = ArePromised on.names n

  object_types : (next : Option ℕ) (name : List ℕ) (g : Environment) (place : Place) (ancestor : Option Identifier) (all : Fields) (methods : List written.Method) (made : Denoted)
      → (object_allowed on next name g place ancestor all methods).holds made → Types Asked g made (adds_fields all + 1)
  object_types None name g place ancestor all methods made e = absurd e
  object_types (Some first) name g place ancestor all methods made e =
      let parent = e.part in
      let l = e.made in
      let m = l.made in
      let one = ObjectOf parent (is_dynamic m.part) l.part.fields m.part in
      let last = adds_type on.unit l.part.scope place _ one made m.made in
      let long = last.reads.long in
      type_then Asked (λ n. IsAsked n (length l.part.scope.types.types) one) Asked g l.part.scope (adds_fields all) 1 (fields_read on g [] all l.part l.holds) made last
      (λ n b l a. a)
      (λ n b h low a. methods_below n (inside l.part.scope name) _ first l.part.fields [] methods m.part (inside_bound n l.part.scope name h (omega arith)) tt m.holds)

  -- the type of a declaration
  pub whole_types : (next : Option ℕ) (name : List ℕ) (g : Environment) (one : TypeDenoter) (made : Denoted) → (whole on next name g one).holds made → Types Asked g made (adds (view_denoter one))
  whole_types next name g (t.Object' here ancestor shape fields semicolon methods) made e = object_types next name g here.place ancestor (view_field_row fields) methods.items made e
  whole_types next name g one made e = denoting on g (view_denoter one) made e
