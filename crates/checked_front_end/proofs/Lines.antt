-- A line has no more fields and methods than all types together.
use Rattle.std.proofs.Common.{◌≡◌, ℕ, zero, suc, ◌+◌, ◌<◌, ◌≤◌, Bool, true, false, cond, List, [], ◌∷◌, ◌++◌, length, length-append, Option, Some, None, refl, sym, ap, subst, ◌∙◌, arith}
use Rattle.std.specs.Prelude.{◌&&◌, not, slice_get, take}
use Rattle.std.specs.List.{list_any}
use Rattle.std.proofs.lemmas.List.Sums.{sum_by-append, sum_by-cons}
use Rattle.type_layout.specs.declared.definitions.TypeId.{TypeId}
use Rattle.type_layout.specs.declared.definitions.Method.{Method}
use Rattle.type_layout.specs.declared.definitions.TypeDef.{TypeDef}
use Rattle.type_layout.specs.declared.definitions.TypeDef.TheVariants as type
use Rattle.type_layout.specs.Words.{same_bytes}
use Rattle.type_layout.specs.Table.{IsAncestor, IsDefinedOver, AllDefined}
use Rattle.type_layout.proofs.Local.{within_if_object}
use Rattle.type_layout.proofs.Measured.{Round, round}
use Rattle.typed_tree.specs.type_fits.Fits as fits
use Rattle.typed_tree.specs.type_fits.Fits.{definition}
use Rattle.scopes.specs.Members.{parent_of, own_fields, fields_within}
use Rattle.scopes.specs.Lines.{fields_of}
use Rattle.object_vmt.specs.Slots.{slots_from, slots_of}
use Rattle.tp_check_decl.specs.call_rules.method_rules.Slots.{methods_of, methods_within, methods_in}
use Rattle.checked_front_end.specs.Numbers.{own_members, members_declared}

with_first : (one : TypeDef) (types : List TypeDef) → members_declared (one ∷ types) ≡ own_members one + members_declared types
with_first one types = sum_by-cons own_members one types

-- of two prefixes of a list, the longer has what the shorter has with the next
longer : (xs ys zs ws : List TypeDef) (w : TypeDef) → xs ++ ys ≡ zs ++ w ∷ ws → length zs < length xs → members_declared zs + own_members w ≤ members_declared xs
longer [] ys zs ws w e less = absurd (omega (arith, less))
longer (x ∷ xs) ys [] ws w e less =
    let same : own_members x ≡ own_members w = ap own_members cc in
    omega (arith, with_first x xs, same)
longer (x ∷ xs) ys (z ∷ zs) ws w e less =
    let same : own_members x ≡ own_members z = ap own_members cc in
    let rest : xs ++ ys ≡ zs ++ w ∷ ws = cc in
    omega (arith, with_first x xs, with_first z zs, same, longer xs ys zs ws w rest (omega (arith, less)))

next_with : (types : List TypeDef) (n : ℕ) (one : TypeDef) → slice_get types n ≡ Some one → members_declared (take (suc n) types) ≡ members_declared (take n types) + own_members one
next_with [] n one found = cc
next_with (x ∷ types) zero one found = let same : own_members x ≡ own_members one = ap own_members cc in omega (arith, with_first x [], same)
next_with (x ∷ types) (suc n) one found = omega (arith, with_first x (take (suc n) types), with_first x (take n types), next_with types n one found)

-- the types before one, with it
pub up_to : (types : List TypeDef) (n : ℕ) (one : TypeDef) → slice_get types n ≡ Some one → members_declared (take (n + 1) types) ≡ members_declared (take n types) + own_members one
up_to types n one found =
    let next : n + 1 ≡ suc n = omega arith in
    ap (λ k. members_declared (take k types)) next ∙ next_with types n one found

-- each type has no more than all
one_of : (types : List TypeDef) (n : ℕ) (one : TypeDef) → slice_get types n ≡ Some one → own_members one ≤ members_declared types
one_of [] n one found = cc
one_of (x ∷ types) zero one found = let same : own_members x ≡ own_members one = ap own_members cc in omega (arith, with_first x types, same)
one_of (x ∷ types) (suc n) one found = omega (arith, with_first x types, one_of types n one found)

-- ---- lines

-- what a type declares itself, if it is there
abbrev own : Option TypeDef → ℕ
own None = 0
own (Some one) = own_members one

-- how much a line has, where at most so many types are looked at
abbrev within : ℕ → List TypeDef → Option TypeId → ℕ
within zero types ty = 0
within (suc room) types None = 0
within (suc room) types (Some ty) = own (definition types ty) + within room types (parent_of (definition types ty))

none_within : (types : List TypeDef) (room : ℕ) → within room types None ≡ 0
none_within types zero = refl
none_within types (suc room) = refl

absent_within : (types : List TypeDef) (room : ℕ) (ty : TypeId) → slice_get types ty.0 ≡ None → within room types (Some ty) ≡ 0
absent_within types zero ty none = refl
absent_within types (suc room) ty none = rw none (let above = none_within types room in omega (arith, above))

ancestor_of : (front : List TypeDef) (one : TypeDef) → IsDefinedOver front one → IsAncestor front (parent_of (Some one))
ancestor_of front (type.Ordinal host low high) h = tt
ancestor_of front (type.Str max) h = tt
ancestor_of front (type.SetOf base) h = tt
ancestor_of front (type.ArrayOf index element) h = tt
ancestor_of front (type.RecordOf fields) h = tt
ancestor_of front (type.PointerTo target) h = tt
ancestor_of front (type.ObjectOf parent dynamic fields methods) h = h.0
ancestor_of front (type.Procedural header) h = tt

module _ (types : List TypeDef) (all : AllDefined [] types) where
  -- the line of a type has no more than the types before it, and itself
  abbrev Bounded : ℕ → Type 0
  Bounded room = (ty : TypeId) (one : TypeDef) (r : Round types ty.0 one) → slice_get types ty.0 ≡ Some one → within room types (Some ty) ≤ members_declared r.front + own_members one

  above_bounded : (room : ℕ) → Bounded room → (k : ℕ) (one : TypeDef) (r : Round types k one) (parent : TypeId) → parent.0 < length r.front
      → (o : Option TypeDef) → slice_get types parent.0 ≡ o → within room types (Some parent) ≤ members_declared r.front
  above_bounded room rec k one r parent below None found = omega (arith, absent_within types room parent found)
  above_bounded room rec k one r parent below (Some other) found =
      let above = round types parent.0 other all found in
      let less : length above.front < length r.front = omega (arith, above.at, below) in
      omega (arith, rec parent other above found, longer r.front (one ∷ r.back) above.front above.back other (sym r.is ∙ above.is) less)

  ancestor_bounded : (room : ℕ) → Bounded room → (k : ℕ) (one : TypeDef) (r : Round types k one) (parent : Option TypeId) → IsAncestor r.front parent
      → within room types parent ≤ members_declared r.front
  ancestor_bounded room rec k one r None is = omega (arith, none_within types room)
  ancestor_bounded room rec k one r (Some parent) is = above_bounded room rec k one r parent (within_if_object r.front parent.0 is) (slice_get types parent.0) refl

  bounded : (room : ℕ) → Bounded room
  bounded zero ty one r found = omega arith
  bounded (suc room) ty one r found =
      let above = ancestor_bounded room (bounded room) ty.0 one r (parent_of (Some one)) (ancestor_of r.front one r.defined) in
      subst (λ (o : Option TypeDef). own o + within room types (parent_of o) ≤ members_declared r.front + own_members one) (sym found) (omega (arith, above))

  within_all : (ty : TypeId) (o : Option TypeDef) → slice_get types ty.0 ≡ o → within (length types) types (Some ty) ≤ members_declared types
  within_all ty None found = omega (arith, absent_within types (length types) ty found)
  within_all ty (Some one) found =
      let r = round types ty.0 one all found in
      let whole : members_declared types ≡ members_declared r.front + members_declared (one ∷ r.back) = ap members_declared r.is ∙ sum_by-append own_members r.front (one ∷ r.back) in
      omega (arith, bounded (length types) ty one r found, whole, with_first one r.back)

-- ---- fields and methods

own_part : (o : Option TypeDef) → own_fields o + length (methods_of o) ≤ own o
own_part None = omega arith
own_part (Some one) = omega arith

fields_part : (types : List TypeDef) (room : ℕ) (ty : Option TypeId) → fields_within room types ty ≤ within room types ty
fields_part types zero ty = omega arith
fields_part types (suc room) None = omega arith
fields_part types (suc room) (Some ty) = omega (arith, own_part (definition types ty), fields_part types room (parent_of (definition types ty)))

-- the two ways in which an ancestor is told are one
parents : (o : Option TypeDef) → fits.parent_of o ≡ parent_of o
parents (Some (type.ObjectOf parent dynamic fields methods)) = refl
parents (Some (type.Ordinal host low high)) = refl
parents (Some (type.Str max)) = refl
parents (Some (type.SetOf base)) = refl
parents (Some (type.ArrayOf index element)) = refl
parents (Some (type.RecordOf fields)) = refl
parents (Some (type.PointerTo target)) = refl
parents (Some (type.Procedural header)) = refl
parents None = refl

methods_part : (types : List TypeDef) (room : ℕ) (ty : Option TypeId) → length (methods_within room types ty) ≤ within room types ty
methods_part types zero ty = omega arith
methods_part types (suc room) None = omega arith
methods_part types (suc room) (Some ty) =
    let d : Option TypeDef = definition types ty in
    let above : length (methods_within room types (fits.parent_of d)) ≤ within room types (parent_of d) =
    subst (λ (p : Option TypeId). length (methods_within room types (fits.parent_of d)) ≤ within room types p) (parents d) (methods_part types room (fits.parent_of d)) in
    omega (arith, own_part d, above, length-append (methods_within room types (fits.parent_of d)) (methods_of d))

-- methods take no more slots than they are
slots_more : (slots : List (List ℕ)) (methods : List Method) → length (slots_from slots methods) ≤ length slots + length methods
slots_more slots [] = omega arith
slots_more slots (one ∷ rest) = by (one.is_virtual && not (list_any (same_bytes one.name) slots)) (λ more. slots_more more rest)
  where
    by : (b : Bool) → ((more : List (List ℕ)) → length (slots_from more rest) ≤ length more + length rest) → length (slots_from (cond b (slots ++ one.name ∷ []) slots) rest) ≤ length slots + length (one ∷ rest)
    by true rec = let count = rec (slots ++ one.name ∷ []) in omega (arith, count, length-append slots (one.name ∷ []))
    by false rec = let count = rec slots in omega (arith, count)

module _ (types : List TypeDef) (all : AllDefined [] types) where
  -- no line has more fields than all types together
  pub line_within : (ty : TypeId) → fields_of types (Some ty) ≤ members_declared types
  line_within ty = omega (arith, within_all types all ty (slice_get types ty.0) refl, fields_part types (length types) (Some ty))

  -- nor more slots
  pub slots_within : (class : TypeId) → length (slots_of (methods_in types class)) ≤ members_declared types
  slots_within class =
      omega (arith, within_all types all class (slice_get types class.0) refl, methods_part types (length types) (Some class), slots_more [] (methods_in types class))

-- nor has a type more methods
pub methods_few : (types : List TypeDef) (ty : TypeId) → length (methods_of (definition types ty)) ≤ members_declared types
methods_few types ty = by (definition types ty) refl
  where
    by : (o : Option TypeDef) → definition types ty ≡ o → length (methods_of o) ≤ members_declared types
    by None found = omega arith
    by (Some one) found = omega (arith, one_of types ty.0 one found)
