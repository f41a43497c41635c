-- The types of a told interface come into a told table, each behind those before it.
use Rattle.std.proofs.Common.{◌≡◌, ◌∙◌, ℕ, zero, suc, ◌+◌, ◌<◌, ◌≤◌, ℤ, Bool, true, false, ◌&&◌, not, cond, List, [], ◌∷◌, ◌++◌, length, take, Option, Some, None, get_or, refl, arith, sym, ap, subst, ◌⊎◌, inl, inr, eq-eqb, add-one, length-append}
use Rattle.std.specs.Prelude.{slice_get, position, is_some, unwrap_or}
use Rattle.std.proofs.lemmas.Bool.{lt-ltb, le-ltb}
use Rattle.std.proofs.lemmas.List.Elements.{All-get_or}
use Rattle.std.proofs.lemmas.Option.{slice_get_within, slice_get-get_or}
use Rattle.tables_closed.specs.type_layout.declared.definitions.TypeId.{TypeId}
use Rattle.tables_closed.specs.type_layout.declared.definitions.Origin.{Origin}
use Rattle.tables_closed.specs.type_layout.declared.definitions.Host.TheVariants as host
use Rattle.tables_closed.specs.type_layout.declared.definitions.TypeDef.{TypeDef}
use Rattle.tables_closed.specs.type_layout.declared.definitions.TypeDef.TheVariants.{Ordinal, PointerTo}
use Rattle.tables_closed.specs.type_layout.declared.layout.Layout.{Layout}
use Rattle.tables_closed.specs.type_layout.Layouts.{plain, layout_by, layouts_of, layout_at, size_over}
use Rattle.tables_closed.specs.type_layout.Table.{Table, AllDefined, place_of, with_type}
use Rattle.tables_closed.proofs.type_layout_proofs.Given.{length-layouts_of}
use Rattle.tables_closed.proofs.type_layout_proofs.Local.{slice_get-append}
use Rattle.tables_closed.proofs.type_layout_proofs.Measured.{round, is_measured}
use Rattle.tables_closed.proofs.type_layout_proofs.WellFormed.{AllDefined-push}
use Rattle.tables_closed.specs.unit_interface.declared.keys.Key.{Key}
use Rattle.tables_closed.specs.unit_interface.declared.interfaces.Interface.{Interface}
use Rattle.tables_closed.specs.unit_interface.Merge.{same_key, key_of, keys_of, place_of_key, with_key, ids_in, new_id, renumbered, is_new, merged}
use Rattle.tables_closed.specs.unit_interface.Misfits.{is_enumeration, follows, is_torn}
use Rattle.tables_closed.specs.unit_interface.Fitting.{stands, listed_stands, fits_at, fit_first, types_fit}
use Rattle.tables_closed.proofs.unit_interface_proofs.FittingLaws.{IsSame, IsFitting, fitting, has_methods}
use Rattle.tables_closed.proofs.unit_interface_proofs.FitLaws.{stands_there}
use Rattle.tables_closed.proofs.unit_interface_proofs.KeptLaws.{below_or_last, same-longer, same-last}
use Rattle.tables_closed.proofs.unit_interface_proofs.KeyLaws.{key_itself, none_found, key_place, known_after, id-at, IsMergedSo, count_of, key_at, keys-next, merged_so}
use Rattle.tables_closed.proofs.unit_interface_proofs.MergeLaws.{merged-new, merged-old}
use Rattle.tables_closed.specs.constants.Ordered.{IsOrdered}
use Rattle.imported_types_agree.specs.consistent_types.Consistency.{next_key, IsWellScopedTable, AreWellScopedHomes, IsConsistent, IsConsistentInterface}
use Rattle.imported_types_agree.proofs.consistent_types.Keys.{not_found, found_key, after_prefix, after_from, in_first, id_there}
use Rattle.imported_types_agree.proofs.consistent_types.Known.{first_of, known_so}

-- ---- lists

below_has : {A : Type 0} (xs : List A) (number : ℕ) (d : A) → number < length xs → (one : A) × (slice_get xs number ≡ Some one)
below_has xs number d low = (get_or xs number d, slice_get-get_or xs number d low)

no_type : TypeDef
no_type = PointerTo (record { 0 = 0 })

no_origin : Origin
no_origin = record { unit = 0; number = 0 }

-- ---- enumerations

-- a type that is an ordinal type of an enumeration
record IsEnumeration (one : TypeDef) : Type 0 where
  low : ℤ
  high : ℤ
  is : one ≡ Ordinal host.Enumeration low high

enumeration_of : (one : TypeDef) → is_enumeration (Some one) ≡ true → IsEnumeration one
enumeration_of (Ordinal host.Enumeration low high) e = record { low = low; high = high; is = refl }
enumeration_of one e = (let f : false ≡ true = e in cc)

-- it stays one under new ids, and was one before
enumeration_back : (ids : List TypeId) (unit : ℕ) (first : TypeDef) (low high : ℤ) → Ordinal host.Enumeration low high ≡ renumbered ids unit first
    → first ≡ Ordinal host.Enumeration low high
enumeration_back ids unit (Ordinal own least greatest) low high e = sym e
enumeration_back ids unit other low high e = cc

-- ---- one type

module _ (have : List Interface) (homes : AreWellScopedHomes have) (table : Table) (i : Interface) (told : IsConsistent have table) (ordered : IsOrdered table) (closed : IsWellScopedTable table)
    (own : IsConsistentInterface have i) where
  abbrev ids : List TypeId
  ids = ids_in table i.types

  abbrev pub now : ℕ → Table
  now number = merged i.types ids table number

  -- the first types came into the table
  pub record IsMet (number : ℕ) : Type 0 where
    pub front : (k : ℕ) (x : TypeDef) → slice_get table.types k ≡ Some x → slice_get (now number).types k ≡ Some x
    pub defined : AllDefined [] (now number).types
    pub same : (id : TypeId) → id.0 < number → IsSame i.types.types (now number).types ids id
    pub fits : fit_first ids table i.types number ≡ true

  module _ (number : ℕ) (low : number < length i.types.types) (met : IsMet number) (one : TypeDef) (at : slice_get i.types.types number ≡ Some one) (origin : Origin)
      (from : slice_get i.types.origins number ≡ Some origin) where
    abbrev key : Key
    key = key_of i.types.units origin

    abbrev unit : ℕ
    unit = place_of (now number).units key.unit

    abbrev added : TypeDef
    added = renumbered ids unit one

    abbrev this : TypeId
    this = record { 0 = number }

    -- the keys that the table has then
    so : IsMergedSo table i.types number (now number)
    so = merged_so table i.types told.keyed number (omega (arith, low))

    key_is : slice_get (keys_of i.types) number ≡ Some key
    key_is = key_at i.types number origin from

    id_is : (get_or ids number this).0 ≡ place_of_key (keys_of (now number)) key
    id_is =
        id-at (keys_of table) (keys_of i.types) number key this key_is ∙ ap (λ (ks : List Key). place_of_key ks key) (sym so.keys)

    fits : IsFitting i.types.types (now number).types ids one
    fits = fitting i.types.types (now number).types ids number one (round i.types.types number one own.defined at) (λ id below named. met.same id below)

    layout_is : layout_by (now number).types (layouts_of (now number).types) added ≡ layout_at i.types.types this
    layout_is = fits.layout unit ∙ sym ((is_measured i.types.types own.defined).layouts this one at)

    -- a key of the table then is of the table before, or of a type before this one
    key_before : (place : ℕ) (other : Key) → slice_get (keys_of (now number)) place ≡ Some other → (slice_get (keys_of table) place ≡ Some other) ⊎ ((k : ℕ) × (slice_get (keys_of i.types) k ≡ Some other) × (k < number))
    key_before place other there =
        let after : slice_get (known_after (keys_of table) (take number (keys_of i.types))) place ≡ Some other = subst (λ (ks : List Key). slice_get ks place ≡ Some other) so.keys there in
        elim (after_from (keys_of table) (take number (keys_of i.types)) place other after) [
          | inl known ↦ inl known
          | inr more ↦ (let f = in_first (keys_of i.types) number more.place other more.at in inr (more.place, f.at, f.low))
        ]

    -- ---- the key is known

    module _ (place : ℕ) (found : position (same_key key) (keys_of (now number)) ≡ Some place) where
      known_id : (get_or ids number this).0 ≡ place
      known_id = id_is ∙ ap (λ (o : Option ℕ). unwrap_or o (length (keys_of (now number)))) found

      known_key : slice_get (keys_of (now number)) place ≡ Some key
      known_key = found_key (keys_of (now number)) key place found

      known_old : is_new ids (now number) number ≡ false
      known_old =
          let within = slice_get_within (keys_of (now number)) place key known_key in
          ap not (lt-ltb (get_or ids number this).0 (length (now number).types) (omega (arith, known_id, within, count_of (now number) so.keyed)))

      known_stays : now (suc number) ≡ now number
      known_stays = merged-old i.types (now number) ids number known_old

      -- it was known before any type came
      known_first : slice_get (keys_of table) place ≡ Some key
      known_first =
          elim (key_before place key known_key) [
            | inl before ↦ before
            | inr more ↦ absurd (let same = own.told.keyed.apart more.0 number key more.1 key_is in let less = more.2 in omega (arith, same, less))
          ]

      known_same : IsSame i.types.types (now number).types ids this
      known_same =
          let within = slice_get_within (keys_of table) place key known_first in
          let old = below_has table.types place no_type (omega (arith, within, count_of table told.keyed)) in
          let known = known_so have homes table i told closed own number place key one old.0 key_is at known_first old.1 in
          let there : slice_get (now number).types place ≡ Some old.0 = met.front place old.0 old.1 in
          let id : TypeId = new_id ids this in
          let there_so : slice_get (now number).types id.0 ≡ Some (renumbered ids known.unit one) =
          ap (slice_get (now number).types) known_id ∙ there ∙ ap (λ (t : TypeDef). Some t) known.is in
          record {
            one = one;
            stands = at;
            there = record { unit = known.unit; at = there_so };
            layout = (is_measured (now number).types met.defined).layouts id (renumbered ids known.unit one) there_so ∙ fits.layout known.unit
                ∙ sym ((is_measured i.types.types own.defined).layouts this one at);
          }

      known_met : IsMet (suc number)
      known_met =
          let here : fits_at ids (now number) i.types number ≡ true = rw known_old refl in
          record {
            front = λ k x is. subst (λ (t : Table). slice_get t.types k ≡ Some x) (sym known_stays) (met.front k x is);
            defined = subst (λ (t : Table). AllDefined [] t.types) (sym known_stays) met.defined;
            same = λ id below. elim (below_or_last id.0 number below) [
              | inl before ↦ subst (λ (t : Table). IsSame i.types.types t.types ids id) (sym known_stays) (met.same id before)
              | inr last ↦ subst (λ (t : Table). IsSame i.types.types t.types ids id) (sym known_stays)
                  (subst (λ (k : ℕ). IsSame i.types.types (now number).types ids (record { 0 = k })) (sym last) known_same)
            ];
            fits = rw (met.fits, here) refl;
          }

    -- ---- the key is new

    module _ (none : position (same_key key) (keys_of (now number)) ≡ None) where
      new_id_is : (get_or ids number this).0 ≡ length (now number).types
      new_id_is = id_is ∙ ap (λ (o : Option ℕ). unwrap_or o (length (keys_of (now number)))) none ∙ count_of (now number) so.keyed

      new_there : is_new ids (now number) number ≡ true
      new_there = ap not (le-ltb (get_or ids number this).0 (length (now number).types) (omega (arith, new_id_is)))

      new_next : now (suc number) ≡ with_type (now number) key.unit origin.number added
      new_next = merged-new i.types (now number) ids number one origin key.unit at from refl new_there

      new_stands : stands (now number) key.unit added ≡ true
      new_stands =
          let small : (layout_at i.types.types this).size ≤ 65520 =
          All-get_or (λ (l : Layout). l.size ≤ 65520) (layouts_of i.types.types) number (plain 0) (omega (arith, low, length-layouts_of i.types.types)) own.fits in
          let size : size_over (now number).types added ≤ 65520 = subst (λ (l : Layout). l.size ≤ 65520) (sym layout_is) small in
          stands_there (now number) key.unit added (record { defined = fits.defined unit; methods = has_methods ids unit one }) (λ large. omega (arith, size, large))

      -- what its unit declares next is new, too
      next_new : (lowest highest : ℤ) → one ≡ Ordinal host.Enumeration lowest highest → position (same_key (next_key key)) (keys_of (now number) ++ key ∷ []) ≡ None
      next_new lowest highest is =
          let follows = own.told.followed number lowest highest key (at ∙ ap (λ (t : TypeDef). Some t) is) key_is in
          not_found (keys_of (now number) ++ key ∷ []) (next_key key)
          (λ place there. elim (key_place (keys_of (now number)) key place (next_key key) there) [
            | inl before ↦ elim (key_before place (next_key key) before) [
              | inl known ↦ fronted place known
              | inr more ↦ (let same = own.told.keyed.apart more.0 (number + 1) (next_key key) more.1 follows in let less = more.2 in omega (arith, same, less))
            ]
            | inr end ↦ (let same : key.number ≡ key.number + 1 = ap (λ (k : Key). k.number) end.1 in omega (arith, same))
          ])
        where
          fronted : (place : ℕ) → slice_get (keys_of table) place ≡ Some (next_key key) → ⊥
          fronted place known =
              let h = own.at_home number key key_is in
              let f = first_of h.home key (homes key.unit h.home h.is) h.stands in
              let alike = own.told.alike number f.place key h.home f.first one key_is at h.is f.at f.stands in
              let was : f.first ≡ Ordinal host.Enumeration lowest highest = enumeration_back _ alike.unit f.first lowest highest (sym is ∙ alike.is) in
              let s = told.fronted place f.place key h.home lowest highest known h.is f.at (f.stands ∙ ap (λ (t : TypeDef). Some t) was) in
              let stays : slice_get (keys_of (now number)) s.place ≡ Some key =
              subst (λ (ks : List Key). slice_get ks s.place ≡ Some key) (sym so.keys) (after_stays s.place s.at) in
              none_found (same_key key) (keys_of (now number)) s.place key none (key_itself key) stays
            where
              after_stays : (k : ℕ) → slice_get (keys_of table) k ≡ Some key → slice_get (known_after (keys_of table) (take number (keys_of i.types))) k ≡ Some key
              after_stays k is = after_prefix (keys_of table) (take number (keys_of i.types)) k key is

      next_id : (lowest highest : ℤ) → one ≡ Ordinal host.Enumeration lowest highest → follows (get_or ids number this) (slice_get ids (number + 1)) ≡ true
      next_id lowest highest is =
          let keys : List Key = keys_of (now number) in
          let next : Key = next_key key in
          let known : List Key = known_after (keys_of table) (take (number + 1) (keys_of i.types)) in
          let longer : known ≡ keys ++ key ∷ [] =
          ap (λ (n : ℕ). known_after (keys_of table) (take n (keys_of i.types))) (add-one number) ∙ keys-next table i.types number origin from
          ∙ ap (λ (ks : List Key). with_key ks key) (sym so.keys) ∙ ap (λ (o : Option ℕ). cond (is_some o) keys (keys ++ key ∷ [])) none in
          let place : place_of_key known next ≡ length keys + 1 =
          ap (λ (ks : List Key). place_of_key ks next) longer
          ∙ ap (λ (o : Option ℕ). unwrap_or o (length (keys ++ key ∷ []))) (next_new lowest highest is) ∙ length-append keys (key ∷ []) in
          let id : TypeId = record { 0 = place_of_key known next } in
          let there : slice_get ids (number + 1) ≡ Some id =
          id_there (keys_of table) (keys_of i.types) (number + 1) next (own.told.followed number lowest highest key (at ∙ ap (λ (t : TypeDef). Some t) is) key_is) in
          ap (follows (get_or ids number this)) there
          ∙ eq-eqb id.0 ((get_or ids number this).0 + 1) (omega (arith, place, new_id_is, count_of (now number) so.keyed))

      untorn : is_torn ids i.types number ≡ false
      untorn =
          ap (λ (o : Option TypeDef). is_enumeration o && not (follows (get_or ids number this) (slice_get ids (number + 1)))) at
          ∙ by (is_enumeration (Some one)) refl
        where
          by : (b : Bool) → is_enumeration (Some one) ≡ b → (b && not (follows (get_or ids number this) (slice_get ids (number + 1)))) ≡ false
          by true is = (let e = enumeration_of one is in ap not (next_id e.low e.high e.is))
          by false is = refl

      new_fits : fits_at ids (now number) i.types number ≡ true
      new_fits =
          let listed : listed_stands ids (now number) i.types.units (slice_get i.types.types number) (slice_get i.types.origins number) ≡ true = rw (at, from) new_stands in
          rw (new_there, untorn, listed) refl

      new_met : IsMet (suc number)
      new_met = record {
        front = λ k x is.
            subst (λ (t : Table). slice_get t.types k ≡ Some x) (sym new_next)
            (slice_get-append (now number).types (added ∷ []) k (slice_get_within (now number).types k x (met.front k x is)) ∙ met.front k x is);
        defined = subst (λ (t : Table). AllDefined [] t.types) (sym new_next) (AllDefined-push [] (now number).types added met.defined (fits.defined unit));
        same = λ id below. subst (λ (t : Table). IsSame i.types.types t.types ids id) (sym new_next) (elim (below_or_last id.0 number below) [
          | inl before ↦ same-longer i.types.types (now number).types ids id added (met.same id before)
          | inr last ↦
              let stands : slice_get i.types.types id.0 ≡ Some one = ap (slice_get i.types.types) last ∙ at in
              let there : (new_id ids id).0 ≡ length (now number).types = ap (λ (k : ℕ). (get_or ids k (record { 0 = k })).0) last ∙ new_id_is in
              let layout : layout_by (now number).types (layouts_of (now number).types) added ≡ layout_at i.types.types id =
              layout_is ∙ ap (λ (k : ℕ). layout_at i.types.types (record { 0 = k })) (sym last) in
              same-last i.types.types (now number).types ids id unit one stands there layout
        ]);
        fits = rw (met.fits, new_fits) refl;
      }

    next_met : IsMet (suc number)
    next_met = by (position (same_key key) (keys_of (now number))) refl
      where
        by : (o : Option ℕ) → position (same_key key) (keys_of (now number)) ≡ o → IsMet (suc number)
        by (Some place) found = known_met place found
        by None none = new_met none

  all_met : (number : ℕ) → number ≤ length i.types.types → IsMet number
  all_met zero low = record { front = λ k x is. is; defined = ordered.defined; same = λ id below. absurd (omega (arith, below)); fits = refl }
  all_met (suc number) low =
      let below : number < length i.types.types = omega (arith, low) in
      let one = below_has i.types.types number no_type below in
      let origin = below_has i.types.origins number no_origin (omega (arith, below, own.closed.paired)) in
      next_met number below (all_met number (omega (arith, low))) one.0 one.1 origin.0 origin.1

  -- all of them fit
  pub all_fit : types_fit table i.types ≡ true
  all_fit = (all_met (length i.types.types) (omega arith)).fits
