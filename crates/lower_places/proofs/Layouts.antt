-- A class field has room in a value, and a set within 32 bytes.
use Rattle.std.proofs.Common.{◌≡◌, ℕ, zero, suc, ◌+◌, ◌≤◌, ◌<◌, Bool, true, false, ℤ, pos, List, [], ◌∷◌, ◌++◌, length, get_or, Option, Some, None, refl, sym, ap, subst, ◌∙◌, arith}
use Rattle.std.specs.Prelude.{slice_get, unsigned_abs, ◌≤ℤ◌}
use Rattle.std.proofs.lemmas.List.Elements.{All-get_or}
use Rattle.type_layout.specs.declared.definitions.TypeId.{TypeId}
use Rattle.type_layout.specs.declared.definitions.TypeDef.{TypeDef}
use Rattle.type_layout.specs.declared.definitions.TypeDef.TheVariants as type
use Rattle.type_layout.specs.declared.layout.Layout.{Layout}
use Rattle.type_layout.specs.Layouts.{bounds_of, bounds_at, plain, inherited, object_by, layout_by, given_by, layouts_of, layout_at, size_of, fields_size}
use Rattle.type_layout.specs.Table.{Table, IsByteRange, AllDefined, IsWellFormed}
use Rattle.type_layout.proofs.Given.{length-layouts_of}
use Rattle.type_layout.proofs.Measured.{round}

abbrev HasRoomForClass : Layout → Type 0
HasRoomForClass layout = (at : ℕ) → layout.class_field ≡ Some at → at + 2 ≤ layout.size

abbrev AllHaveRoom : List Layout → Type 0
AllHaveRoom [] = Unit {0}
AllHaveRoom (layout ∷ layouts) = HasRoomForClass layout × AllHaveRoom layouts

room-append : (layouts : List Layout) (layout : Layout) → AllHaveRoom layouts → HasRoomForClass layout → AllHaveRoom (layouts ++ layout ∷ [])
room-append [] layout all one = (one, tt)
room-append (first ∷ layouts) layout all one = (all.0, room-append layouts layout all.1 one)

room-get : (layouts : List Layout) (k : ℕ) → AllHaveRoom layouts → HasRoomForClass (get_or layouts k (plain 0))
room-get [] zero all = λ at e. absurd cc
room-get [] (suc k) all = λ at e. absurd cc
room-get (layout ∷ layouts) zero all = all.0
room-get (layout ∷ layouts) (suc k) all = room-get layouts k all.1

room-object : (field : Option ℕ) (size bytes : ℕ) (dynamic : Bool) → ((at : ℕ) → field ≡ Some at → at + 2 ≤ size) → HasRoomForClass (object_by field dynamic (size + bytes))
room-object (Some at) size bytes dynamic h = λ n e. let k = h n e in omega (arith, k)
room-object None size bytes true h = λ n e. let same : size + bytes ≡ n = cc in omega (arith, same)
room-object None size bytes false h = λ n e. absurd cc

room-inherited : (layouts : List Layout) (parent : Option TypeId) → AllHaveRoom layouts → HasRoomForClass (inherited layouts parent)
room-inherited layouts None all = λ at e. absurd cc
room-inherited layouts (Some parent) all = room-get layouts parent.0 all

room-one : (before : List TypeDef) (layouts : List Layout) (one : TypeDef) → AllHaveRoom layouts → HasRoomForClass (layout_by before layouts one)
room-one before layouts (type.ObjectOf parent dynamic fields methods) all =
    room-object (inherited layouts parent).class_field (inherited layouts parent).size (fields_size layouts fields) dynamic (room-inherited layouts parent all)
room-one before layouts (type.Ordinal host low high) all = λ at e. absurd cc
room-one before layouts (type.Str max) all = λ at e. absurd cc
room-one before layouts (type.SetOf base) all = λ at e. absurd cc
room-one before layouts (type.ArrayOf index element) all = λ at e. absurd cc
room-one before layouts (type.RecordOf fields) all = λ at e. absurd cc
room-one before layouts (type.PointerTo target) all = λ at e. absurd cc
room-one before layouts (type.Procedural header) all = λ at e. absurd cc

room-all : (before : List TypeDef) (layouts : List Layout) (types : List TypeDef) → AllHaveRoom layouts → AllHaveRoom (given_by layout_by before layouts types)
room-all before layouts [] all = all
room-all before layouts (one ∷ types) all = room-all (before ++ one ∷ []) (layouts ++ layout_by before layouts one ∷ []) types (room-append layouts (layout_by before layouts one) all (room-one before layouts one all))

pub class_room : (types : List TypeDef) (ty : TypeId) (at : ℕ) → (layout_at types ty).class_field ≡ Some at → at + 2 ≤ size_of types ty
class_room types ty at e = room-get (layouts_of types) ty.0 (room-all [] [] types tt) at e

pub class_small : (table : Table) (ty : TypeId) (at : ℕ) → IsWellFormed table → ty.0 < length table.types → (layout_at table.types ty).class_field ≡ Some at → at < 65536
class_small table ty at well there e =
    let known : ty.0 < length (layouts_of table.types) = omega (arith, there, length-layouts_of table.types) in
    let small = All-get_or (λ (layout : Layout). layout.size ≤ 65520) (layouts_of table.types) ty.0 (plain 0) known well.fits in
    let room = class_room table.types ty at e in
    omega (arith, small, room)

-- ---- sets

get-front : (front back : List TypeDef) (k : ℕ) (one : TypeDef) → slice_get front k ≡ Some one → slice_get (front ++ back) k ≡ Some one
get-front [] back k one e = absurd cc
get-front (x ∷ front) back zero one e = e
get-front (x ∷ front) back (suc k) one e = get-front front back k one e

low-small : (low high : ℤ) → pos 0 ≤ℤ low → low ≤ℤ high → high ≤ℤ pos 255 → unsigned_abs low ≤ 255
low-small low high a b c = omega (arith, Rattle.std.proofs.lemmas.Int.ints)

base-small : (types front back : List TypeDef) (base : TypeId) (one : Option TypeDef) → AllDefined [] types → types ≡ front ++ back → slice_get front base.0 ≡ one → IsByteRange one → unsigned_abs (bounds_at types base).0 ≤ 255
base-small types front back base None all is found range = absurd range
base-small types front back base (Some (type.Ordinal host low high)) all is found range =
    let there : slice_get types base.0 ≡ Some (type.Ordinal host low high) = ap (λ (l : List TypeDef). slice_get l base.0) is ∙ get-front front back base.0 (type.Ordinal host low high) found in
    let bounds = ap bounds_of there in
    let defined = (round types base.0 (type.Ordinal host low high) all there).defined in
    subst (λ (b : ℤ × ℤ). unsigned_abs b.0 ≤ 255) (sym bounds) (low-small low high range.0 defined.1 range.1)
base-small types front back base (Some (type.Str max)) all is found range = absurd range
base-small types front back base (Some (type.SetOf inner)) all is found range = absurd range
base-small types front back base (Some (type.ArrayOf index element)) all is found range = absurd range
base-small types front back base (Some (type.RecordOf fields)) all is found range = absurd range
base-small types front back base (Some (type.PointerTo target)) all is found range = absurd range
base-small types front back base (Some (type.ObjectOf parent dynamic fields methods)) all is found range = absurd range
base-small types front back base (Some (type.Procedural header)) all is found range = absurd range

pub set_first : (table : Table) (ty base : TypeId) → IsWellFormed table → slice_get table.types ty.0 ≡ Some (type.SetOf base) → unsigned_abs (bounds_at table.types base).0 ≤ 255
set_first table ty base well found =
    let r = round table.types ty.0 (type.SetOf base) well.defined found in
    base-small table.types r.front (type.SetOf base ∷ r.back) base (slice_get r.front base.0) well.defined r.is refl r.defined
