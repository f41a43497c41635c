-- The scope of a source before it uses a unit is closed.
use Rattle.std.proofs.Common.{ℕ, zero, suc, ◌+◌, ◌<◌, ◌≤◌, pos, Bool, true, false, not, ◌&&◌, cond, List, [], ◌∷◌, ◌++◌, length, get_or, refl, arith, rules}
use Rattle.std.specs.Prelude.{slice_get, codes}
use Rattle.tables_closed.specs.type_layout.declared.definitions.Origin.{Origin}
use Rattle.tables_closed.specs.type_layout.declared.layout.Layout.{Layout}
use Rattle.tables_closed.specs.type_layout.Layouts.{layouts_of}
use Rattle.tables_closed.specs.type_layout.Table.{AllDefined}
use Rattle.tables_closed.specs.type_layout.Words.{is_name}
use Rattle.tables_closed.specs.scopes.declared.entries.Entry.{Entry}
use Rattle.tables_closed.specs.scopes.declared.entries.Entry.TheVariants.{Ty, Std}
use Rattle.tables_closed.specs.scopes.Symbols.{SymbolList, has}
use Rattle.tables_closed.specs.scopes.Predeclared.{type_id, type_list, type_table, with_known, with_types, with_standard, number_entry, with_constants, type_names, standard, predeclared, first}
use Rattle.tables_closed.specs.unit_interface.Exports.{with_type}
use Rattle.tables_closed.specs.constants.Bounds.{AreBelow, in_entry, in_names, IsWellScopedEnvironment}
use Rattle.tables_closed.proofs.constants.Below.{below_both, below_first, below_last}
use Rattle.tables_closed.specs.constants.Ordered.{IsOrdered}
use Rattle.imported_types_agree.specs.well_scoped.Scopes.{IsCompleteScope}

pushed : (n : ℕ) (symbols : SymbolList) (name : List ℕ) (one : Entry) → AreBelow n (in_names symbols) → AreBelow n (in_entry one) → AreBelow n (in_names (symbols ++ (name, one) ∷ []))
pushed n [] name one h k = below_both n (in_entry one) [] k tt
pushed n (first_one ∷ symbols) name one h k =
    below_both n (in_entry first_one.1) (in_names (symbols ++ (name, one) ∷ [])) (below_first n (in_entry first_one.1) (in_names symbols) h)
    (pushed n symbols name one (below_last n (in_entry first_one.1) (in_names symbols) h) k)

known_by : (n : ℕ) (b : Bool) (symbols : SymbolList) (name : List ℕ) (one : Entry) → AreBelow n (in_names symbols) → AreBelow n (in_entry one)
    → AreBelow n (in_names (cond b (symbols ++ (name, one) ∷ []) symbols))
known_by n true symbols name one h k = pushed n symbols name one h k
known_by n false symbols name one h k = h

known_below : (n : ℕ) (symbols : SymbolList) (name : List ℕ) (one : Entry) → AreBelow n (in_names symbols) → AreBelow n (in_entry one) → AreBelow n (in_names (with_known symbols name one))
unfolding with_known
known_below n symbols name one h k = known_by n (is_name name && not (has symbols name)) symbols name one h k

types_known : (n : ℕ) (symbols : SymbolList) (number : ℕ) (names : List (List ℕ)) → number + length names ≤ n → AreBelow n (in_names symbols) → AreBelow n (in_names (with_types symbols number names))
unfolding with_types
types_known n symbols number [] low h = h
types_known n symbols number (name ∷ names) low h =
    types_known n (with_known symbols name (Ty (type_id number))) (number + 1) names (omega arith) (known_below n symbols name (Ty (type_id number)) h (omega arith, tt))

standard_known : (n : ℕ) (symbols : SymbolList) (rows : List (List ℕ × ℕ)) → AreBelow n (in_names symbols) → AreBelow n (in_names (with_standard symbols rows))
unfolding with_standard
standard_known n symbols [] h = h
standard_known n symbols (row ∷ rows) h =
    standard_known n (with_known symbols row.0 (Std row.1)) rows (known_below n symbols row.0 (Std row.1) h tt)

constants_known : (n : ℕ) (symbols : SymbolList) → 7 ≤ n → AreBelow n (in_names symbols) → AreBelow n (in_names (with_constants symbols))
unfolding with_constants
constants_known n symbols most h =
    let max = known_below n symbols (codes "MAXINT") (number_entry (type_id 2) (pos 32767)) h (omega arith, tt) in
    let long = known_below n _ (codes "MAXLONGINT") (number_entry (type_id 4) (pos 2147483647)) max (omega arith, tt) in
    let no = known_below n _ (codes "FALSE") (number_entry (type_id 6) (pos 0)) long (omega arith, tt) in
    known_below n _ (codes "TRUE") (number_entry (type_id 6) (pos 1)) no (omega arith, tt)

seven : length type_names ≤ 11
unfolding type_names
seven = omega arith

predeclared_below : AreBelow 11 (in_names predeclared)
unfolding predeclared
predeclared_below =
    standard_known 11 _ standard (constants_known 11 _ (omega arith) (types_known 11 [] 0 type_names (let few = seven in omega arith) tt))

types_below : (by : ℕ) → AreBelow 11 (with_type by (slice_get type_table.types by))
types_below zero = tt
types_below (suc zero) = tt
types_below (suc (suc zero)) = tt
types_below (suc (suc (suc zero))) = tt
types_below (suc (suc (suc (suc zero)))) = tt
types_below (suc (suc (suc (suc (suc zero))))) = tt
types_below (suc (suc (suc (suc (suc (suc zero)))))) = tt
types_below (suc (suc (suc (suc (suc (suc (suc zero))))))) = tt
types_below (suc (suc (suc (suc (suc (suc (suc (suc zero)))))))) = (omega arith, tt)
types_below (suc (suc (suc (suc (suc (suc (suc (suc (suc zero))))))))) = (omega arith, tt)
types_below (suc (suc (suc (suc (suc (suc (suc (suc (suc (suc zero)))))))))) = (omega arith, tt)
types_below (suc (suc (suc (suc (suc (suc (suc (suc (suc (suc (suc by))))))))))) = tt

first_closed : (name : List ℕ) → IsWellScopedEnvironment (first name)
first_closed name = record {
  table = omega arith;
  system = omega arith;
  types = types_below;
  predeclared = predeclared_below;
  used = tt;
  blocks = tt;
}

-- ---- its table

all_defined : AllDefined [] type_list
all_defined = search rules

all_small : (k : ℕ) (d : Layout) → k < 11 → (get_or (layouts_of type_list) k d).size ≤ 65520
all_small zero d h = omega arith
all_small (suc zero) d h = omega arith
all_small (suc (suc zero)) d h = omega arith
all_small (suc (suc (suc zero))) d h = omega arith
all_small (suc (suc (suc (suc zero)))) d h = omega arith
all_small (suc (suc (suc (suc (suc zero))))) d h = omega arith
all_small (suc (suc (suc (suc (suc (suc zero)))))) d h = omega arith
all_small (suc (suc (suc (suc (suc (suc (suc zero))))))) d h = omega arith
all_small (suc (suc (suc (suc (suc (suc (suc (suc zero)))))))) d h = omega arith
all_small (suc (suc (suc (suc (suc (suc (suc (suc (suc zero))))))))) d h = omega arith
all_small (suc (suc (suc (suc (suc (suc (suc (suc (suc (suc zero)))))))))) d h = omega arith
all_small (suc (suc (suc (suc (suc (suc (suc (suc (suc (suc (suc k))))))))))) d h = absurd (omega (arith, h))

all_known : (k : ℕ) (d : Origin) → k < 11 → (get_or type_table.origins k d).unit < length type_table.units
all_known zero d h = omega arith
all_known (suc zero) d h = omega arith
all_known (suc (suc zero)) d h = omega arith
all_known (suc (suc (suc zero))) d h = omega arith
all_known (suc (suc (suc (suc zero)))) d h = omega arith
all_known (suc (suc (suc (suc (suc zero))))) d h = omega arith
all_known (suc (suc (suc (suc (suc (suc zero)))))) d h = omega arith
all_known (suc (suc (suc (suc (suc (suc (suc zero))))))) d h = omega arith
all_known (suc (suc (suc (suc (suc (suc (suc (suc zero)))))))) d h = omega arith
all_known (suc (suc (suc (suc (suc (suc (suc (suc (suc zero))))))))) d h = omega arith
all_known (suc (suc (suc (suc (suc (suc (suc (suc (suc (suc zero)))))))))) d h = omega arith
all_known (suc (suc (suc (suc (suc (suc (suc (suc (suc (suc (suc k))))))))))) d h = absurd (omega (arith, h))

first_ordered : (name : List ℕ) → IsOrdered (first name).types
first_ordered name = record {
  begins = ([], refl);
  defined = all_defined;
  fits = λ k d low. all_small k d (omega (arith, low));
  paired = refl;
  known = λ k d low. all_known k d (omega (arith, low));
}

pub first_complete : (name : List ℕ) → IsCompleteScope (first name)
first_complete name = record { ordered = first_ordered name; closed = first_closed name }
