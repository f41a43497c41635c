-- The names that a used unit brings are those of its items, and headers are alike in tables that know the same types.
use Rattle.std.proofs.Common.{◌≡◌, ◌∙◌, ◌⊎◌, inl, inr, ℕ, zero, suc, Bool, true, false, cond, List, [], ◌∷◌, ◌++◌, map, Option, Some, None, refl, ap}
use Rattle.std.specs.Prelude.{slice_get}
use Rattle.std.specs.Option.{option_map}
use Rattle.std.proofs.lemmas.Option.{same_Some}
use Rattle.shared_types_agree.specs.type_layout.declared.definitions.TypeId.{TypeId}
use Rattle.shared_types_agree.specs.type_layout.declared.definitions.Kind.{Kind}
use Rattle.shared_types_agree.specs.type_layout.declared.definitions.Param.{Param}
use Rattle.shared_types_agree.specs.type_layout.declared.definitions.Header.{Header}
use Rattle.shared_types_agree.specs.type_layout.Table.{Table}
use Rattle.shared_types_agree.specs.typed_tree.declared.units.Item.{Item}
use Rattle.shared_types_agree.specs.typed_tree.type_fits.Fits.{shape_of, AreSameHeaders}
use Rattle.shared_types_agree.specs.scopes.declared.entries.Entry.{Entry}
use Rattle.shared_types_agree.specs.scopes.Symbols.{SymbolList, has}
use Rattle.shared_types_agree.specs.unit_interface.Merge.{new_id, renumbered_param, renumbered_header, name_of, entry_of, with_new, with_items}
use Rattle.shared_types_agree.specs.unit_interface.Exports.{in_option, in_params, in_header}
use Rattle.shared_types_agree.proofs.imported_types_agree_proofs.consistent_types.Twice.{AllOf, front, back}
use Rattle.shared_types_agree.specs.tp_meaning.Trees.{Key as Class}
use Rattle.shared_types_agree.specs.store_typing.types.Declared.{DeclaredHeader, declared, declared_param, declared_header}

-- ---- names that items bring

-- what stands somewhere in a list
pub record IsAt (X : Type 0) (xs : List X) (x : X) : Type 0 where
  pub place : ℕ
  pub at : slice_get xs place ≡ Some x

at_further : (X : Type 0) (y : X) (xs : List X) (x : X) → IsAt X xs x → IsAt X (y ∷ xs) x
at_further X y xs x h = record { place = suc h.place; at = h.at }

-- a part of two lists is of one of them
of_both : (X : Type 0) (xs ys : List X) (place : ℕ) (x : X) → slice_get (xs ++ ys) place ≡ Some x → IsAt X xs x ⊎ IsAt X ys x
of_both X [] ys place x at = inr (record { place = place; at = at })
of_both X (z ∷ xs) ys zero x at = inl (record { place = 0; at = at })
of_both X (z ∷ xs) ys (suc place) x at = further (of_both X xs ys place x at)
  where
    further : IsAt X xs x ⊎ IsAt X ys x → IsAt X (z ∷ xs) x ⊎ IsAt X ys x
    further (inl h) = inl (at_further X z xs x h)
    further (inr h) = inr h

-- an item of a list means this
pub record Means (ids : List TypeId) (unit : ℕ) (items : List Item) (one : Entry) : Type 0 where
  pub item : Item
  pub among : IsAt Item items item
  pub is : entry_of ids unit item ≡ one

means_further : (ids : List TypeId) (unit : ℕ) (first : Item) (items : List Item) (one : Entry) → Means ids unit items one → Means ids unit (first ∷ items) one
means_further ids unit first items one m = record { item = m.item; among = at_further Item first items m.item m.among; is = m.is }

-- what a name means that is there behind one more is what it meant, or what that one means
abbrev Named : Type 0
Named = List ℕ × Entry

new_or_old : (symbols : SymbolList) (name : List ℕ) (new : Entry) (place : ℕ) (named : Named) → slice_get (with_new symbols name new) place ≡ Some named → IsAt Named symbols named ⊎ (new ≡ named.1)
new_or_old symbols name new place named at = by (has symbols name) at
  where
    last : IsAt Named ((name, new) ∷ []) named → new ≡ named.1
    last h = one h.place h.at
      where
        one : (k : ℕ) → slice_get ((name, new) ∷ []) k ≡ Some named → new ≡ named.1
        one zero e = ap (λ (p : Named). p.1) (same_Some {A = Named} (name, new) named e)
        one (suc k) e = absurd (cc)

    by : (b : Bool) → slice_get (let l : SymbolList = cond b symbols (symbols ++ (name, new) ∷ []) in l) place ≡ Some named → IsAt Named symbols named ⊎ (new ≡ named.1)
    by true e = inl (record { place = place; at = e })
    by false e = elim (of_both Named symbols ((name, new) ∷ []) place named e) [ inl old ↦ inl old | inr here ↦ inr (last here) ]

items_mean : (ids : List TypeId) (unit : ℕ) (symbols : SymbolList) (items : List Item) (place : ℕ) (named : Named) → slice_get (with_items ids unit symbols items) place ≡ Some named
    → IsAt Named symbols named ⊎ Means ids unit items named.1
items_mean ids unit symbols [] place named at = inl (record { place = place; at = at })
items_mean ids unit symbols (first ∷ items) place named at =
    elim (items_mean ids unit (with_new symbols (name_of first) (entry_of ids unit first)) items place named at) [
      | inl before ↦ elim (new_or_old symbols (name_of first) (entry_of ids unit first) before.place named before.at) [
        | inl old ↦ inl old
        | inr new ↦ inr (record { item = first; among = record { place = 0; at = refl }; is = new })
      ]
      | inr later ↦ inr (means_further ids unit first items named.1 later)
    ]

-- each of the names that items bring means one of the items
pub each_means : (ids : List TypeId) (unit : ℕ) (items : List Item) (named : Named) → IsAt Named (with_items ids unit [] items) named → Means ids unit items named.1
each_means ids unit items named h = elim (items_mean ids unit [] items h.place named h.at) [ inl none ↦ absurd (nothing none.place none.at) | inr m ↦ m ]
  where
    nothing : (k : ℕ) → slice_get [] k ≡ Some named → ⊥
    nothing k e = cc

-- ---- headers

module _ (ids kids : List TypeId) (table home : Table) where
  -- the type with a number is the same in two tables, under new ids and at home
  abbrev pub IsSame : ℕ → Type 0
  IsSame number = declared table (new_id ids (new_id kids (record { 0 = number }))) ≡ declared home (record { 0 = number })

  params_same : (params : List Param) → AllOf IsSame (in_params params)
      → map (declared_param table) (map (renumbered_param ids) (map (renumbered_param kids) params)) ≡ map (declared_param home) params
  params_same [] h = refl
  params_same (param ∷ params) h =
      ap (λ (k : Option Class). (let p : Bool × Option Class = (param.by_ref, k) in p) ∷ map (declared_param table) (map (renumbered_param ids) (map (renumbered_param kids) params))) h.0
      ∙ ap (λ (l : List (Bool × Option Class)). (let p : Bool × Option Class = (param.by_ref, declared home param.ty) in p) ∷ l) (params_same params h.1)

  result_same : (ty : Option TypeId) → AllOf IsSame (in_option ty) → option_map (declared table) (option_map (new_id ids) (option_map (new_id kids) ty)) ≡ option_map (declared home) ty
  result_same None h = refl
  result_same (Some ty) h = ap (λ (k : Option Class). Some k) h.0

  pub header_same : (header : Header) → AllOf IsSame (in_header header) → declared_header table (renumbered_header ids (renumbered_header kids header)) ≡ declared_header home header
  header_same header h =
      ap (λ (l : List (Bool × Option Class)). (let d : DeclaredHeader = record { kind = header.kind; params = l; result = option_map (declared table) (option_map (new_id ids) (option_map (new_id kids) header.result)) } in d))
      (params_same header.params (front IsSame (in_params header.params) (in_option header.result) h))
      ∙ ap (λ (r : Option (Option Class)). (let d : DeclaredHeader = record { kind = header.kind; params = map (declared_param home) header.params; result = r } in d))
      (result_same header.result (back IsSame (in_params header.params) (in_option header.result) h))

-- headers that differ in names alone are declared alike
shapes_declared : (table : Table) (xs ys : List Param) → map shape_of xs ≡ map shape_of ys → map (declared_param table) xs ≡ map (declared_param table) ys
shapes_declared table [] [] e = refl
shapes_declared table [] (y ∷ ys) e = absurd (cc)
shapes_declared table (x ∷ xs) [] e = absurd (cc)
shapes_declared table (x ∷ xs) (y ∷ ys) e =
    let first : shape_of x ≡ shape_of y = cc in
    let rest : map shape_of xs ≡ map shape_of ys = cc in
    ap (λ (s : Bool × TypeId). (let p : Bool × Option Class = (s.0, declared table s.1) in p) ∷ map (declared_param table) xs) first
    ∙ ap (λ (l : List (Bool × Option Class)). declared_param table y ∷ l) (shapes_declared table xs ys rest)

pub alike_declared : (table : Table) (one other : Header) → AreSameHeaders one other → declared_header table one ≡ declared_header table other
alike_declared table one other h =
    let params = shapes_declared table one.params other.params h.params in
    ap (λ (k : Kind). (let d : DeclaredHeader = record { kind = k; params = map (declared_param table) one.params; result = option_map (declared table) one.result } in d)) h.kind
    ∙ ap (λ (l : List (Bool × Option Class)). (let d : DeclaredHeader = record { kind = other.kind; params = l; result = option_map (declared table) one.result } in d)) params
    ∙ ap (λ (r : Option TypeId). (let d : DeclaredHeader = record { kind = other.kind; params = map (declared_param table) other.params; result = option_map (declared table) r } in d)) h.result
