-- A told table with the types of a told interface is told.
use Rattle.std.proofs.Common.{◌≡◌, ◌∙◌, ℕ, ◌+◌, ◌<◌, ℤ, List, [], ◌∷◌, ◌++◌, length, take, Option, Some, None, get_or, refl, arith, sym, ap, subst, inl, inr, length-append}
use Rattle.std.specs.Prelude.{slice_get, position, unwrap_or, is_some, cond}
use Rattle.std.proofs.lemmas.Option.{slice_get_within}
use Rattle.tables_closed.specs.type_layout.declared.definitions.TypeId.{TypeId}
use Rattle.tables_closed.specs.type_layout.declared.definitions.Host.TheVariants as host
use Rattle.tables_closed.specs.type_layout.declared.definitions.TypeDef.{TypeDef}
use Rattle.tables_closed.specs.type_layout.declared.definitions.TypeDef.TheVariants as type
use Rattle.tables_closed.specs.type_layout.Table.{Table}
use Rattle.tables_closed.specs.unit_interface.declared.keys.Key.{Key}
use Rattle.tables_closed.specs.unit_interface.declared.interfaces.Interface.{Interface}
use Rattle.tables_closed.specs.unit_interface.Merge.{same_key, keys_of, with_key, ids_in, renumbered, with_types}
use Rattle.tables_closed.specs.unit_interface.Exports.{in_type}
use Rattle.tables_closed.specs.unit_interface.Keyed.{IsKeyed}
use Rattle.tables_closed.proofs.unit_interface_proofs.KeyLaws.{key_itself, none_found, known_after, after-push, id-at}
use Rattle.tables_closed.proofs.unit_interface_proofs.MergeLaws.{take-next}
use Rattle.tables_closed.specs.constants.Bounds.{AreBelow}
use Rattle.imported_types_agree.specs.consistent_types.Consistency.{between, Stands, AreAlike, next_key, AreFollowed, AreFronted, IsWellScopedTable, AreWellScopedHomes, IsConsistent, IsConsistentInterface}
use Rattle.imported_types_agree.proofs.consistent_types.Keys.{found_key, not_found, after_from, in_first}
use Rattle.imported_types_agree.proofs.consistent_types.Named.{all_any}
use Rattle.imported_types_agree.proofs.consistent_types.Known.{keys_long, key_there, type_there, own_named, first_of, known_so}
use Rattle.imported_types_agree.proofs.consistent_types.Carried.{enumeration_was, carried, stays_same}
use Rattle.imported_types_agree.proofs.consistent_types.Arrived.{merged_keyed, key_stays, key_lands, key_from, all_arrived}

-- ---- what is declared next

module _ (table other : Table) (keyed : IsKeyed table) (own : IsKeyed other) (number : ℕ) (key : Key)
    (here : slice_get (keys_of other) number ≡ Some key) (next : slice_get (keys_of other) (number + 1) ≡ Some (next_key key)) where
  -- the next type of the other table gets the next id: where its key is new, the next one is too
  next_of_new : (d e : TypeId) → ((place : ℕ) → slice_get (keys_of table) place ≡ Some key → ⊥) → ((place : ℕ) → slice_get (keys_of table) place ≡ Some (next_key key) → ⊥)
      → (get_or (ids_in table other) (number + 1) e).0 ≡ (get_or (ids_in table other) number d).0 + 1
  next_of_new d e fresh also =
      let known : List Key = known_after (keys_of table) (take number (keys_of other)) in
      let more : List Key = known_after (keys_of table) (take (number + 1) (keys_of other)) in
      let none : position (same_key key) known ≡ None =
      not_found known key (λ place at. elim (after_from (keys_of table) (take number (keys_of other)) place key at) [
        | inl there ↦ fresh place there
        | inr among ↦
            let first = in_first (keys_of other) number among.place key among.at in
            let same : among.place ≡ number = own.apart among.place number key first.at here in
            omega (arith, first.low, same)
      ]) in
      let last : more ≡ with_key known key =
      ap (known_after (keys_of table)) (take-next (keys_of other) number key here) ∙ after-push (keys_of table) (take number (keys_of other)) key in
      let longer : with_key known key ≡ known ++ key ∷ [] = ap (λ (o : Option ℕ). cond (is_some o) known (known ++ key ∷ [])) none in
      let none_next : position (same_key (next_key key)) more ≡ None =
      not_found more (next_key key) (λ place at. elim (after_from (keys_of table) (take (number + 1) (keys_of other)) place (next_key key) at) [
        | inl there ↦ also place there
        | inr among ↦
            let first = in_first (keys_of other) (number + 1) among.place (next_key key) among.at in
            let same : among.place ≡ number + 1 = own.apart among.place (number + 1) (next_key key) first.at next in
            omega (arith, first.low, same)
      ]) in
      let id : (get_or (ids_in table other) number d).0 ≡ length known =
      id-at (keys_of table) (keys_of other) number key d here ∙ ap (λ (o : Option ℕ). unwrap_or o (length known)) none in
      let id_next : (get_or (ids_in table other) (number + 1) e).0 ≡ length more =
      id-at (keys_of table) (keys_of other) (number + 1) (next_key key) e next ∙ ap (λ (o : Option ℕ). unwrap_or o (length more)) none_next in
      let long : length more ≡ length known + 1 = ap (λ (ks : List Key). length ks) (last ∙ longer) ∙ length-append known (key ∷ []) in
      omega (arith, id, id_next, long)

  -- and so it is where the table has both
  next_of_old : (d e : TypeId) (place : ℕ) → slice_get (keys_of table) place ≡ Some key → slice_get (keys_of table) (place + 1) ≡ Some (next_key key)
      → (get_or (ids_in table other) (number + 1) e).0 ≡ (get_or (ids_in table other) number d).0 + 1
  next_of_old d e place at after =
      let both : IsKeyed (with_types table other) = merged_keyed table other keyed own in
      let one = both.apart (get_or (ids_in table other) number d).0 place key (key_lands table other keyed own number key d here) (key_stays table other keyed own place key at) in
      let two = both.apart (get_or (ids_in table other) (number + 1) e).0 (place + 1) (next_key key)
      (key_lands table other keyed own (number + 1) (next_key key) e next) (key_stays table other keyed own (place + 1) (next_key key) after) in
      omega (arith, one, two)

-- ---- a told table and a told interface

module _ (have : List Interface) (homes : AreWellScopedHomes have) (table : Table) (i : Interface) (told : IsConsistent have table) (closed : IsWellScopedTable table) (own : IsConsistentInterface have i) where
  abbrev other : Table
  other = i.types

  -- where the table has what is behind an enumeration of the interface, it has the enumeration
  front_known : (number : ℕ) (key : Key) (low high : ℤ) → slice_get (keys_of other) number ≡ Some key → slice_get other.types number ≡ Some (type.Ordinal host.Enumeration low high)
      → (place : ℕ) → slice_get (keys_of table) place ≡ Some (next_key key) → Stands (keys_of table) key
  front_known number key low high at stands place there =
      let h = own.at_home number key at in
      let f = first_of h.home key (homes key.unit h.home h.is) h.stands in
      let a = own.told.alike number f.place key h.home f.first (type.Ordinal host.Enumeration low high) at stands h.is f.at f.stands in
      let was : f.first ≡ type.Ordinal host.Enumeration low high = enumeration_was (between h.home other) a.unit low high f.first a.is in
      told.fronted place f.place key h.home low high there h.is f.at (f.stands ∙ ap (λ (t : TypeDef). Some t) was)

  -- the set behind an enumeration gets the next id
  pub beside : (number : ℕ) (low high : ℤ) (d e : TypeId) → slice_get other.types number ≡ Some (type.Ordinal host.Enumeration low high)
      → (key : Key) → slice_get (keys_of other) number ≡ Some key → (get_or (ids_in table other) (number + 1) e).0 ≡ (get_or (ids_in table other) number d).0 + 1
  beside number low high d e stands key at = by (position (same_key key) (keys_of table)) refl
    where
      next : slice_get (keys_of other) (number + 1) ≡ Some (next_key key)
      next = own.told.followed number low high key stands at

      by : (o : Option ℕ) → position (same_key key) (keys_of table) ≡ o → (get_or (ids_in table other) (number + 1) e).0 ≡ (get_or (ids_in table other) number d).0 + 1
      by (Some place) found =
          let there = found_key (keys_of table) key place found in
          let t = type_there table place key closed.paired there in
          let k = known_so have homes table i told closed own number place key (type.Ordinal host.Enumeration low high) t.0 at stands there t.1 in
          let old : slice_get table.types place ≡ Some (type.Ordinal host.Enumeration low high) = t.1 ∙ ap (λ (x : TypeDef). Some x) k.is in
          next_of_old table other told.keyed own.told.keyed number key at next d e place there (told.followed place low high key old there)
      by None none =
          let fresh : (place : ℕ) → slice_get (keys_of table) place ≡ Some key → ⊥ = λ place there. none_found (same_key key) (keys_of table) place key none (key_itself key) there in
          next_of_new table other told.keyed own.told.keyed number key at next d e fresh
          (λ place there. (let s = front_known number key low high at stands place there in fresh s.place s.at))

  pub next_beside : (number : ℕ) (low high : ℤ) (d e : TypeId) → slice_get other.types number ≡ Some (type.Ordinal host.Enumeration low high)
      → (get_or (ids_in table other) (number + 1) e).0 ≡ (get_or (ids_in table other) number d).0 + 1
  next_beside number low high d e stands =
      let within : number < length other.types = slice_get_within other.types number (type.Ordinal host.Enumeration low high) stands in
      let k = key_there other number (omega (arith, within, keys_long other own.closed.paired)) in
      beside number low high d e stands k.0 k.1

  -- ---- the table with the interface's types

  abbrev both : Table
  both = with_types table other

  keyed : IsKeyed both
  keyed = merged_keyed table other told.keyed own.told.keyed

  other_closed : IsWellScopedTable other
  other_closed = record { paired = own.closed.paired; types = own.closed.types }

  alike_both : AreAlike have both
  alike_both number place key home first one at stands is there f =
      let here : AreBelow (length home.types) (in_type first) = own_named home place first (homes key.unit home is) f in
      elim ((all_arrived table other told.keyed own.told.keyed).each number key one at stands) [
        | inl old ↦
            let a = told.alike number place key home first one old.0 old.1 is there f in
            let low : AreBelow (length table.types) (in_type (renumbered (between home table) a.unit first)) =
            subst (λ (t : TypeDef). AreBelow (length table.types) (in_type t)) a.is (own_named table number one closed old.1) in
            record {
              unit = a.unit;
              is = a.is ∙ stays_same home table both (homes key.unit home is) closed.paired keyed.apart
                  (λ n k e. key_stays table other told.keyed own.told.keyed n k e) a.unit first here low;
            }
        | inr new ↦
            let a = own.told.alike new.number place key home first new.was new.key_at new.stands is there f in
            let low : AreBelow (length other.types) (in_type (renumbered (between home other) a.unit first)) =
            subst (λ (t : TypeDef). AreBelow (length other.types) (in_type t)) a.is (own_named other new.number new.was other_closed new.stands) in
            record {
              unit = new.unit;
              is = new.is ∙ ap (renumbered (ids_in table other) new.unit) a.is
                  ∙ carried home other both (ids_in table other) (λ x. Unit {0}) (homes key.unit home is) own.closed.paired keyed.apart
                  (λ k ty q e. key_lands table other told.keyed own.told.keyed ty.0 k ty e) new.unit a.unit first here low
                  (all_any (λ x. Unit {0}) (λ x. tt) (in_type (renumbered (between home other) a.unit first)));
            }
      ]

  followed_both : AreFollowed both
  followed_both number low high key stands at =
      elim ((all_arrived table other told.keyed own.told.keyed).each number key (type.Ordinal host.Enumeration low high) at stands) [
        | inl old ↦ key_stays table other told.keyed own.told.keyed (number + 1) (next_key key) (told.followed number low high key old.1 old.0)
        | inr new ↦
            let was : slice_get other.types new.number ≡ Some (type.Ordinal host.Enumeration low high) =
            new.stands ∙ ap (λ (t : TypeDef). Some t) (enumeration_was (ids_in table other) new.unit low high new.was new.is) in
            let d : TypeId = record { 0 = new.number } in
            let next = own.told.followed new.number low high key was new.key_at in
            let spot : (get_or (ids_in table other) new.number d).0 ≡ number =
            keyed.apart (get_or (ids_in table other) new.number d).0 number key (key_lands table other told.keyed own.told.keyed new.number key d new.key_at) at in
            let after : (get_or (ids_in table other) (new.number + 1) d).0 ≡ number + 1 = beside new.number low high d d was key new.key_at ∙ ap (λ (n : ℕ). n + 1) spot in
            ap (slice_get (keys_of both)) (sym after) ∙ key_lands table other told.keyed own.told.keyed (new.number + 1) (next_key key) d next
      ]

  fronted_both : AreFronted have both
  fronted_both number place key home low high at is there f =
      elim (key_from table other told.keyed own.told.keyed number (next_key key) at) [
        | inl old ↦
            let s = told.fronted number place key home low high old is there f in
            record { place = s.place; at = key_stays table other told.keyed own.told.keyed s.place key s.at }
        | inr new ↦
            let s = own.told.fronted new.place place key home low high new.at is there f in
            let d : TypeId = record { 0 = s.place } in
            record { place = (get_or (ids_in table other) s.place d).0; at = key_lands table other told.keyed own.told.keyed s.place key d s.at }
      ]

  pub merged_told : IsConsistent have both
  merged_told = record { keyed = keyed; alike = alike_both; followed = followed_both; fronted = fronted_both }
