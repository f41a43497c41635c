-- What names mean has types below the bounds of a scope.
use Rattle.std.proofs.Common.{ℕ, zero, suc, ◌+◌, ◌≤◌, Bool, true, false, cond, List, [], ◌∷◌, take, length, Option, Some, None, option_map, arith}
use Rattle.std.specs.Prelude.{slice_get}
use Rattle.tp_check_decl.specs.type_layout.declared.definitions.TypeDef.{TypeDef}
use Rattle.tp_check_decl.specs.type_layout.Words.{same_bytes}
use Rattle.tp_check_decl.specs.scopes.declared.entries.Entry.{Entry}
use Rattle.tp_check_decl.specs.scopes.declared.searches.OpenBlock.{OpenBlock}
use Rattle.tp_check_decl.specs.scopes.declared.members.Member.{Member}
use Rattle.tp_check_decl.specs.scopes.Symbols.{SymbolList, entry_of}
use Rattle.tp_check_decl.specs.scopes.Members.{first_of, member_of}
use Rattle.tp_check_decl.specs.scopes.Environment.{Environment, Meaning, named, member, line_of, in_symbols, in_block, in_blocks, in_units, find}
use Rattle.tp_check_decl.specs.unit_interface.Exports.{with_type}
use Rattle.tables_closed.specs.constants.Bounds.{AreBelow, in_entry, in_names, in_lists, in_open, IsBoundOf, IsWellScopedEnvironment}
use Rattle.tables_closed.proofs.constants.Below.{below_both, below_first, below_last, below_more}

module _ (n : ℕ) where
  abbrev OfEntry : Option Entry → Type 0
  OfEntry None = Unit {0}
  OfEntry (Some one) = AreBelow n (in_entry one)

  -- what a search finds
  abbrev pub OfMeaning : Option Meaning → Type 0
  OfMeaning None = Unit {0}
  OfMeaning (Some (named number one)) = AreBelow n (in_entry one)
  OfMeaning (Some (member number one)) = Unit {0}

  of_first : (one other : Option Meaning) → OfMeaning one → OfMeaning other → OfMeaning (first_of one other)
  of_first None other h k = k
  of_first (Some one) other h k = h

  of_cond : (b : Bool) (one : Entry) (other : Option Entry) → AreBelow n (in_entry one) → OfEntry other → OfEntry (cond b (Some one) other)
  of_cond true one other h k = h
  of_cond false one other h k = k

  of_entry : (symbols : SymbolList) (name : List ℕ) → AreBelow n (in_names symbols) → OfEntry (entry_of symbols name)
  of_entry [] name h = tt
  of_entry (one ∷ rest) name h =
      of_cond (same_bytes name one.0) one.1 (entry_of rest name) (below_first n (in_entry one.1) (in_names rest) h)
      (of_entry rest name (below_last n (in_entry one.1) (in_names rest) h))

  of_named : (number : ℕ) (one : Option Entry) → OfEntry one → OfMeaning (option_map (named number) one)
  of_named number None h = tt
  of_named number (Some one) h = h

  of_member : (number : ℕ) (one : Option Member) → OfMeaning (option_map (member number) one)
  of_member number None = tt
  of_member number (Some one) = tt

  of_symbols : (number : ℕ) (symbols : SymbolList) (name : List ℕ) → AreBelow n (in_names symbols) → OfMeaning (in_symbols number symbols name)
  of_symbols number symbols name h = of_named number (entry_of symbols name) (of_entry symbols name h)

  of_block : (types : List TypeDef) (number : ℕ) (block : OpenBlock) (name : List ℕ) → AreBelow n (in_names block.symbols) → OfMeaning (in_block types number block name)
  of_block types number block name h =
      of_first (in_symbols number block.symbols name) (option_map (member number) (member_of types (line_of block.kind) name))
      (of_symbols number block.symbols name h) (of_member number (member_of types (line_of block.kind) name))

  of_blocks : (types : List TypeDef) (number : ℕ) (blocks : List OpenBlock) (name : List ℕ) → AreBelow n (in_open blocks) → OfMeaning (in_blocks types number blocks name)
  of_blocks types number [] name h = tt
  of_blocks types number (block ∷ blocks) name h =
      of_first (in_blocks types (number + 1) blocks name) (in_block types number block name)
      (of_blocks types (number + 1) blocks name (below_last n (in_names block.symbols) (in_open blocks) h))
      (of_block types number block name (below_first n (in_names block.symbols) (in_open blocks) h))

  of_units : (number : ℕ) (units : List SymbolList) (name : List ℕ) → AreBelow n (in_lists units) → OfMeaning (in_units number units name)
  of_units number [] name h = tt
  of_units number (unit ∷ units) name h =
      of_first (in_units (number + 1) units name) (in_symbols number unit name)
      (of_units (number + 1) units name (below_last n (in_names unit) (in_lists units) h))
      (of_symbols number unit name (below_first n (in_names unit) (in_lists units) h))

  of_taken : (count : ℕ) (units : List SymbolList) → AreBelow n (in_lists units) → AreBelow n (in_lists (take count units))
  of_taken zero units h = tt
  of_taken (suc count) [] h = tt
  of_taken (suc count) (unit ∷ units) h =
      below_both n (in_names unit) (in_lists (take count units)) (below_first n (in_names unit) (in_lists units) h)
      (of_taken count units (below_last n (in_names unit) (in_lists units) h))

  pub of_found : (g : Environment) (name : List ℕ) → IsBoundOf n g → OfMeaning (find g name)
  of_found g name h =
      let own = in_blocks g.types.types (length g.used + 1) g.blocks name in
      let units = in_units 1 (take g.seen g.used) name in
      let last = in_symbols 0 g.predeclared name in
      of_first own (first_of units last) (of_blocks g.types.types (length g.used + 1) g.blocks name h.blocks)
      (of_first units last (of_units 1 (take g.seen g.used) name (of_taken g.seen g.used h.used)) (of_symbols 0 g.predeclared name h.predeclared))

-- what is above a bound is one too
pub bound_more : (n m : ℕ) (g : Environment) → n ≤ m → IsBoundOf n g → IsBoundOf m g
bound_more n m g more h =
    let table = h.table in
    let system = h.system in
    record {
      table = omega arith;
      system = omega arith;
      types = λ by. below_more n m (with_type by (slice_get g.types.types by)) more (h.types by);
      predeclared = below_more n m (in_names g.predeclared) more h.predeclared;
      used = below_more n m (in_lists g.used) more h.used;
      blocks = below_more n m (in_open g.blocks) more h.blocks;
    }

-- a closed scope is below what is no less than its table
pub closed_below : (n : ℕ) (g : Environment) → IsWellScopedEnvironment g → length g.types.types ≤ n → IsBoundOf n g
closed_below n g h more = bound_more (length g.types.types) n g more h
