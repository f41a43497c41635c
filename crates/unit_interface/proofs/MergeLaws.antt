-- Steps of the loops that merge an interface into a scope.
use Rattle.std.proofs.Common.{◌≡◌, ℕ, zero, suc, ◌+◌, ◌<◌, ◌≤◌, true, false, List, [], ◌∷◌, ◌++◌, length, map, get_or, take, drop, Some, refl, arith, sym, ap, ◌∙◌, add-one, append_assoc, append-nil, drop-cons}
use Rattle.std.specs.Prelude.{All, slice_get}
use Rattle.std.proofs.lemmas.List.{take_all}
use Rattle.type_layout.specs.declared.definitions.TypeId.{TypeId}
use Rattle.type_layout.specs.declared.definitions.TypeDef.{TypeDef}
use Rattle.type_layout.specs.declared.definitions.Origin.{Origin}
use Rattle.type_layout.specs.Table.{Table, IsWellFormed, place_of, with_type}
use Rattle.typed_tree.specs.declared.units.Item.{Item}
use Rattle.scopes.specs.Symbols.{SymbolList}
use Rattle.unit_interface.specs.declared.keys.Key.{Key}
use Rattle.unit_interface.specs.Merge.{key_of, keys_of, place_of_key, with_key, ids_of, renumbered, is_new, with_merged, with_items}

pub item-at : {A : Type 0} → (xs : List A) (place : ℕ) (x : A) → place < length xs → x ≡ get_or xs place x → slice_get xs place ≡ Some x
item-at [] place x below is = absurd (omega arith)
item-at (y ∷ ys) zero x below is = ap Some (sym is)
item-at (y ∷ ys) (suc place) x below is = item-at ys place x (omega arith) is

pub drop-next : {A : Type 0} → (xs : List A) (place : ℕ) (x : A) → place < length xs → x ≡ get_or xs place x → drop place xs ≡ x ∷ drop (place + 1) xs
drop-next {A} xs place x below is = rw add-one (drop-cons xs place x below ∙ ap (λ (y : A). y ∷ drop (suc place) xs) (sym is))

pub take-next : {A : Type 0} → (all : List A) (place : ℕ) (one : A) → slice_get all place ≡ Some one → take (place + 1) all ≡ take place all ++ one ∷ []
take-next {A} all place one at = rw add-one (by all place at)
  where
    by : (all : List A) (place : ℕ) → slice_get all place ≡ Some one → take (suc place) all ≡ take place all ++ one ∷ []
    by [] zero at = cc
    by [] (suc place) at = cc
    by (x ∷ xs) zero at =
        let same : x ≡ one = cc in
        rw same refl
    by (x ∷ xs) (suc place) at = ap (λ (rest : List A). x ∷ rest) (by xs place at)

pub map-push : {A B : Type 0} → (f : A → B) (xs : List A) (x : A) → map f (xs ++ x ∷ []) ≡ map f xs ++ f x ∷ []
map-push f [] x = refl
map-push {A} {B} f (y ∷ ys) x = ap (λ (rest : List B). f y ∷ rest) (map-push f ys x)

pub drop-past : {A : Type 0} → (xs : List A) (place : ℕ) → length xs ≤ place → drop place xs ≡ []
drop-past [] zero past = refl
drop-past [] (suc place) past = refl
drop-past (x ∷ xs) zero past = absurd (omega arith)
drop-past (x ∷ xs) (suc place) past = drop-past xs place (omega arith)

-- the ids so far with a further one, and those that are left
pub ids-step : (all keys : List Key) (known : List Key) (ids : List TypeId) (place : ℕ) (key : Key) (id : TypeId) → place < length keys
    → key ≡ get_or keys place key → id.0 ≡ place_of_key known key → ids_of all keys ≡ ids ++ ids_of known (drop place keys)
    → ids_of all keys ≡ (ids ++ id ∷ []) ++ ids_of (with_key known key) (drop (place + 1) keys)
ids-step all keys known ids place key id below is gives so_far =
    let next : ids_of known (drop place keys) ≡ (record { 0 = place_of_key known key }) ∷ ids_of (with_key known key) (drop (place + 1) keys) =
    ap (ids_of known) (drop-next keys place key below is) in
    let same : (let one : TypeId = record { 0 = place_of_key known key } in one) ≡ id = ap (λ (n : ℕ). (let one : TypeId = record { 0 = n } in one)) (sym gives) in
    so_far ∙ ap (λ (rest : List TypeId). ids ++ rest) (next ∙ ap (λ (one : TypeId). one ∷ ids_of (with_key known key) (drop (place + 1) keys)) same)
    ∙ sym (append_assoc ids (id ∷ []) (ids_of (with_key known key) (drop (place + 1) keys)))

pub ids-end : (all keys known : List Key) (ids : List TypeId) (place : ℕ) → length keys ≤ place
    → ids_of all keys ≡ ids ++ ids_of known (drop place keys) → ids ≡ ids_of all keys
ids-end all keys known ids place past so_far =
    let none : drop place keys ≡ [] = drop-past keys place past in
    sym (so_far ∙ ap (λ (rest : List Key). ids ++ ids_of known rest) none ∙ append-nil ids)

-- ---- keys of a table

get_or-same : {A : Type 0} → (xs : List A) (place : ℕ) (one other : A) → place < length xs → get_or xs place one ≡ get_or xs place other
get_or-same [] place one other h = absurd (omega arith)
get_or-same (x ∷ xs) zero one other h = refl
get_or-same (x ∷ xs) (suc place) one other h = get_or-same xs place one other (omega arith)

pub known-at : (table : Table) (number : ℕ) (origin : Origin) → IsWellFormed table → slice_get table.origins number ≡ Some origin
    → origin.unit < length table.units
known-at table number origin h at = within table.origins number at h.known
  where
    within : (origins : List Origin) (number : ℕ) → slice_get origins number ≡ Some origin
        → All (λ (o : Origin). o.unit < length table.units) origins → origin.unit < length table.units
    within [] zero at all = cc
    within [] (suc number) at all = cc
    within (o ∷ origins) zero at all =
        let same : o ≡ origin = cc in
        rw (← same) (all 0 o (omega arith))
    within (o ∷ origins) (suc number) at all = within origins number at (λ k d h. all (suc k) d (omega arith))

-- the name of the unit that declares a type
pub declared-by : (table : Table) (number : ℕ) (origin : Origin) (name : List ℕ) → IsWellFormed table → slice_get table.origins number ≡ Some origin
    → name ≡ get_or table.units origin.unit name → name ≡ get_or table.units origin.unit []
declared-by table number origin name h at named =
    named ∙ get_or-same table.units origin.unit name [] (known-at table number origin h at)

pub keys-step : (table : Table) (keys : List Key) (number : ℕ) (origin : Origin) (name : List ℕ) → IsWellFormed table
    → slice_get table.origins number ≡ Some origin → name ≡ get_or table.units origin.unit name
    → keys ≡ map (key_of table.units) (take number table.origins)
    → keys ++ (record { unit = name; number = origin.number }) ∷ [] ≡ map (key_of table.units) (take (number + 1) table.origins)
keys-step table keys number origin name h at named so_far =
    let named_so = declared-by table number origin name h at named in
    let last : (let k : Key = record { unit = name; number = origin.number } in k) ≡ key_of table.units origin =
    ap (λ (n : List ℕ). (let k : Key = record { unit = n; number = origin.number } in k)) named_so in
    let more = map-push (key_of table.units) (take number table.origins) origin in
    rw (take-next table.origins number origin at, more, so_far, last) refl

pub keys-end : (table : Table) (keys : List Key) (number : ℕ) → IsWellFormed table → number ≡ length table.types
    → keys ≡ map (key_of table.units) (take number table.origins) → keys ≡ keys_of table
keys-end table keys number h all so_far =
    so_far ∙ ap (map (key_of table.units)) (take_all number table.origins (omega (arith, h.origins)))

-- ---- types into a table

pub merged-new : (other table : Table) (ids : List TypeId) (number : ℕ) (one : TypeDef) (origin : Origin) (name : List ℕ)
    → slice_get other.types number ≡ Some one → slice_get other.origins number ≡ Some origin → name ≡ get_or other.units origin.unit []
    → is_new ids table number ≡ true
    → with_merged other ids table number ≡ with_type table name origin.number (renumbered ids (place_of table.units name) one)
merged-new other table ids number one origin name at from named new = rw (new, at, from, named) refl

pub merged-old : (other table : Table) (ids : List TypeId) (number : ℕ) → is_new ids table number ≡ false → with_merged other ids table number ≡ table
merged-old other table ids number old = rw old refl

-- ---- items

pub items-end : (ids : List TypeId) (unit : ℕ) (all : List Item) (symbols : SymbolList) (place : ℕ) → length all ≤ place
    → with_items ids unit [] all ≡ with_items ids unit symbols (drop place all) → symbols ≡ with_items ids unit [] all
items-end ids unit all symbols place past so_far = sym (so_far ∙ ap (with_items ids unit symbols) (drop-past all place past))
