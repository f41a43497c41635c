-- A told table knows the types of a told interface as they are.
use Rattle.std.proofs.Common.{◌≡◌, ◌∙◌, ℕ, ◌<◌, not, nat_lt, Bool, true, false, List, length, take, Some, get_or, refl, arith, sym, ap, inl, inr}
use Rattle.std.specs.Prelude.{slice_get}
use Rattle.std.proofs.lemmas.Bool.{ltb-true}
use Rattle.std.proofs.lemmas.Option.{slice_get_within}
use Rattle.tables_closed.specs.type_layout.declared.definitions.TypeId.{TypeId}
use Rattle.tables_closed.specs.type_layout.declared.definitions.TypeDef.{TypeDef}
use Rattle.tables_closed.specs.type_layout.Table.{Table}
use Rattle.tables_closed.specs.unit_interface.declared.keys.Key.{Key}
use Rattle.tables_closed.specs.unit_interface.declared.interfaces.Interface.{Interface}
use Rattle.tables_closed.specs.unit_interface.Merge.{keys_of, place_of_key, ids_in, is_new, merged}
use Rattle.tables_closed.proofs.unit_interface_proofs.KeyLaws.{known_after, count_of, id-at, merged_so}
use Rattle.imported_types_agree.specs.consistent_types.Consistency.{IsWellScopedTable, AreWellScopedHomes, IsConsistent, IsConsistentInterface}
use Rattle.imported_types_agree.specs.consistent_types.Laws.{IsKnownThere}
use Rattle.imported_types_agree.proofs.consistent_types.Keys.{at_place, after_from, in_first}
use Rattle.imported_types_agree.proofs.consistent_types.Known.{key_there, type_there, keys_long, known_so}
use Rattle.imported_types_agree.proofs.consistent_types.Arrived.{arrived}

not_new : (a b : ℕ) → not (nat_lt a b) ≡ false → a < b
not_new a b e = ltb-true a b (by (nat_lt a b) e)
  where
    by : (c : Bool) → not c ≡ false → c ≡ true
    by true f = refl
    by false f = cc

module _ (have : List Interface) (homes : AreWellScopedHomes have) (table : Table) (i : Interface) (told : IsConsistent have table) (closed : IsWellScopedTable table) (own : IsConsistentInterface have i) where
  abbrev other : Table
  other = i.types

  pub known_alike : (number : ℕ) (one : TypeDef) (d : TypeId) → slice_get other.types number ≡ Some one → is_new (ids_in table other) (merged other (ids_in table other) table number) number ≡ false
      → IsKnownThere (ids_in table other) (merged other (ids_in table other) table number).types (get_or (ids_in table other) number d) one
  known_alike number one d stands old =
      let low : number < length other.types = slice_get_within other.types number one stands in
      let so = merged_so table other told.keyed number (omega (arith, low)) in
      let now : Table = merged other (ids_in table other) table number in
      let known : List Key = known_after (keys_of table) (take number (keys_of other)) in
      let k = key_there other number (omega (arith, low, keys_long other own.closed.paired)) in
      let key : Key = k.0 in
      let self : TypeId = record { 0 = number } in
      let id : (get_or (ids_in table other) number self).0 ≡ place_of_key known key = id-at (keys_of table) (keys_of other) number key self k.1 in
      let id_d : (get_or (ids_in table other) number d).0 ≡ place_of_key known key = id-at (keys_of table) (keys_of other) number key d k.1 in
      let inside : (get_or (ids_in table other) number self).0 < length now.types = not_new (get_or (ids_in table other) number self).0 (length now.types) old in
      let long : length known ≡ length now.types = sym (ap (λ (ks : List Key). length ks) so.keys) ∙ count_of now so.keyed in
      let at : slice_get known (place_of_key known key) ≡ Some key = at_place known key (omega (arith, id, inside, long)) in
      elim (after_from (keys_of table) (take number (keys_of other)) (place_of_key known key) key at) [
        | inl there ↦
            let t = type_there table (place_of_key known key) key closed.paired there in
            let s = known_so have homes table i told closed own number (place_of_key known key) key one t.0 k.1 stands there t.1 in
            let front : slice_get now.types (place_of_key known key) ≡ Some t.0 =
            (arrived table other told.keyed own.told.keyed number (omega (arith, low))).front (place_of_key known key) t.0 t.1 in
            record { unit = s.unit; at = ap (slice_get now.types) id_d ∙ front ∙ ap (λ (x : TypeDef). Some x) s.is }
        | inr among ↦
            let first = in_first (keys_of other) number among.place key among.at in
            let same : among.place ≡ number = own.told.keyed.apart among.place number key first.at k.1 in
            absurd (omega (arith, first.low, same))
      ]
