-- A bound of a scope stays one where names are entered, blocks are opened and types are added.
use Rattle.std.proofs.Common.{ℕ, zero, suc, ◌+◌, ◌<◌, ◌≤◌, List, [], ◌∷◌, ◌++◌, length, Option, Some, None, arith}
use Rattle.std.specs.Prelude.{All, slice_get}
use Rattle.tp_check_decl.specs.type_layout.declared.definitions.TypeId.{TypeId}
use Rattle.tp_check_decl.specs.type_layout.declared.definitions.Field.{Field}
use Rattle.tp_check_decl.specs.type_layout.declared.definitions.Host.TheVariants as host
use Rattle.tp_check_decl.specs.type_layout.declared.definitions.TypeDef.{TypeDef}
use Rattle.tp_check_decl.specs.type_layout.declared.definitions.TypeDef.TheVariants.{Ordinal, Str, SetOf, ArrayOf, RecordOf, PointerTo, ObjectOf, Procedural}
use Rattle.tp_check_decl.specs.type_layout.Table.{IsOrdinal, IsByteRange, IsObject, IsAncestor, IsDefinedOver}
use Rattle.tp_check_decl.specs.scopes.declared.entries.Entry.{Entry}
use Rattle.tp_check_decl.specs.scopes.declared.entries.BlockKind.{BlockKind}
use Rattle.tp_check_decl.specs.scopes.declared.searches.OpenBlock.{OpenBlock}
use Rattle.tp_check_decl.specs.scopes.Symbols.{SymbolList}
use Rattle.tp_check_decl.specs.scopes.Environment.{Environment, outer, innermost, with_own, with_name, with_block}
use Rattle.tp_check_decl.specs.unit_interface.Exports.{in_option, in_header, in_fields, in_methods, with_type}
use Rattle.tables_closed.specs.constants.Bounds.{AreBelow, in_entry, in_names, in_open, IsBoundOf}
use Rattle.tables_closed.proofs.constants.Below.{at_push, below_both, below_first, below_last}
use Rattle.tables_closed.proofs.types.Means.{pushed}

module _ (n : ℕ) where
  -- ---- names

  in_push : (symbols : SymbolList) (name : List ℕ) (one : Entry) → AreBelow n (in_names symbols) → AreBelow n (in_entry one) → AreBelow n (in_names (symbols ++ (name, one) ∷ []))
  in_push [] name one h k = below_both n (in_entry one) [] k tt
  in_push (first ∷ symbols) name one h k =
      below_both n (in_entry first.1) (in_names (symbols ++ (name, one) ∷ [])) (below_first n (in_entry first.1) (in_names symbols) h)
      (in_push symbols name one (below_last n (in_entry first.1) (in_names symbols) h) k)

  in_pushed : (blocks : List OpenBlock) (name : List ℕ) (one : Entry) → AreBelow n (in_open blocks) → AreBelow n (in_entry one)
      → AreBelow n (in_open (outer blocks ++ with_own (innermost blocks) name one))
  in_pushed [] name one h k = tt
  in_pushed (block ∷ []) name one h k =
      below_both n (in_names (block.symbols ++ (name, one) ∷ [])) [] (in_push block.symbols name one (below_first n (in_names block.symbols) [] h) k) tt
  in_pushed (block ∷ other ∷ blocks) name one h k =
      let rest = in_open (other ∷ blocks) in
      let new = in_open (outer (other ∷ blocks) ++ with_own (innermost (other ∷ blocks)) name one) in
      rw (pushed block other blocks name one)
      (below_both n (in_names block.symbols) new (below_first n (in_names block.symbols) rest h)
      (in_pushed (other ∷ blocks) name one (below_last n (in_names block.symbols) rest h) k))

  pub bound_with_name : (g : Environment) (name : List ℕ) (one : Entry) → IsBoundOf n g → AreBelow n (in_entry one) → IsBoundOf n (with_name g name one)
  bound_with_name g name one h k = record {
    table = h.table;
    system = h.system;
    types = h.types;
    predeclared = h.predeclared;
    used = h.used;
    blocks = in_pushed g.blocks name one h.blocks k;
  }

  in_opened : (blocks : List OpenBlock) (kind : BlockKind) → AreBelow n (in_open blocks) → AreBelow n (in_open (blocks ++ (record { kind = kind; symbols = [] }) ∷ []))
  in_opened [] kind h = tt
  in_opened (block ∷ blocks) kind h =
      below_both n (in_names block.symbols) (in_open (blocks ++ (record { kind = kind; symbols = [] }) ∷ [])) (below_first n (in_names block.symbols) (in_open blocks) h)
      (in_opened blocks kind (below_last n (in_names block.symbols) (in_open blocks) h))

  pub bound_with_block : (g : Environment) (kind : BlockKind) → IsBoundOf n g → IsBoundOf n (with_block g kind)
  bound_with_block g kind h = record {
    table = h.table;
    system = h.system;
    types = h.types;
    predeclared = h.predeclared;
    used = h.used;
    blocks = in_opened g.blocks kind h.blocks;
  }

-- ---- types

-- What is asked of a type with a number for a bound, where its parts by value are in the table.
abbrev pub IsAsked : ℕ → ℕ → TypeDef → Type 0
IsAsked n number (Ordinal host.Enumeration low high) = number + 1 < n
IsAsked n number (PointerTo target) = target.0 < n
IsAsked n number (ObjectOf parent dynamic fields methods) = AreBelow n (in_methods methods)
IsAsked n number (Procedural header) = AreBelow n (in_header header)
IsAsked n number _ = Unit {0}

module _ (n : ℕ) (types : List TypeDef) (table : length types ≤ n) where
  ordinal_below : (place : ℕ) → IsOrdinal (slice_get types place) → place < n
  ordinal_below place h = let low = ordinal_within types place h in omega arith
    where
      ordinal_within : (all : List TypeDef) (k : ℕ) → IsOrdinal (slice_get all k) → k < length all
      ordinal_within [] k e = absurd e
      ordinal_within (one ∷ all) zero e = omega arith
      ordinal_within (one ∷ all) (suc k) e = let rest = ordinal_within all k e in omega arith

  range_below : (place : ℕ) → IsByteRange (slice_get types place) → place < n
  range_below place h = let low = range_within types place h in omega arith
    where
      range_within : (all : List TypeDef) (k : ℕ) → IsByteRange (slice_get all k) → k < length all
      range_within [] k e = absurd e
      range_within (one ∷ all) zero e = omega arith
      range_within (one ∷ all) (suc k) e = let rest = range_within all k e in omega arith

  ancestor_below : (parent : Option TypeId) → IsAncestor types parent → AreBelow n (in_option parent)
  ancestor_below None h = tt
  ancestor_below (Some parent) h = ((let low = object_within types parent.0 h in omega arith), tt)
    where
      object_within : (all : List TypeDef) (k : ℕ) → IsObject (slice_get all k) → k < length all
      object_within [] k e = absurd e
      object_within (one ∷ all) zero e = omega arith
      object_within (one ∷ all) (suc k) e = let rest = object_within all k e in omega arith

  fields_below : (fields : List Field) → All (λ (field : Field). field.ty.0 < length types) fields → AreBelow n (in_fields fields)
  fields_below [] h = tt
  fields_below (field ∷ fields) h =
      let first : field.ty.0 < length types = h 0 field (omega arith) in
      (omega arith, fields_below fields (λ k d low. h (suc k) d (omega arith)))

  pub type_below : (number : ℕ) (one : TypeDef) → IsDefinedOver types one → IsAsked n number one → AreBelow n (with_type number (Some one))
  type_below number (Ordinal host.Enumeration low high) d asked = (asked, tt)
  type_below number (Ordinal host low high) d asked = tt
  type_below number (Str max) d asked = tt
  type_below number (SetOf base) d asked = (range_below base.0 d, tt)
  type_below number (ArrayOf index element) d asked = (ordinal_below index.0 d.0, ((let low = d.1 in omega arith), tt))
  type_below number (RecordOf fields) d asked = below_both n (in_fields fields) [] (fields_below fields d) tt
  type_below number (PointerTo target) d asked = (asked, tt)
  type_below number (ObjectOf parent dynamic fields methods) d asked =
      below_both n (in_option parent ++ in_fields fields ++ in_methods methods) []
      (below_both n (in_option parent ++ in_fields fields) (in_methods methods)
      (below_both n (in_option parent) (in_fields fields) (ancestor_below parent d.0) (fields_below fields d.1)) asked) tt
  type_below number (Procedural header) d asked = below_both n (in_header header) [] asked tt

pub types_below : (n : ℕ) (types : List TypeDef) (one : TypeDef) → length types ≤ n → ((by : ℕ) → AreBelow n (with_type by (slice_get types by))) → IsDefinedOver types one
    → IsAsked n (length types) one → (by : ℕ) → AreBelow n (with_type by (slice_get (types ++ one ∷ []) by))
types_below n types one table h d asked =
    at_push (λ by found. AreBelow n (with_type by found)) types one h (type_below n types table (length types) one d asked) (λ by. tt)
