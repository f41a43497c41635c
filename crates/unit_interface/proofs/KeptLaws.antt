-- The types that are kept can stand without the others.
use Rattle.std.proofs.Common.{◌≡◌, ℕ, zero, suc, ◌+◌, ◌<◌, ◌≤◌, Bool, true, false, cond, List, [], ◌∷◌, ◌++◌, length, Option, Some, get_or, refl, arith, sym, ap, ◌∙◌, subst, ◌⊎◌, inl, inr, length-append}
use Rattle.std.specs.Prelude.{slice_get}
use Rattle.std.proofs.Math.Seq.{get_or-append_seam}
use Rattle.std.proofs.Math.ListN.{get_or-append}
use Rattle.std.proofs.lemmas.List.Elements.{All-get_or}
use Rattle.std.proofs.lemmas.Option.{slice_get_within, slice_get-get_or}
use Rattle.type_layout.specs.declared.definitions.TypeId.{TypeId}
use Rattle.type_layout.specs.declared.definitions.Origin.{Origin}
use Rattle.type_layout.specs.declared.definitions.TypeDef.{TypeDef}
use Rattle.type_layout.specs.declared.definitions.TypeDef.TheVariants.{PointerTo}
use Rattle.type_layout.specs.declared.layout.Layout.{Layout}
use Rattle.type_layout.specs.Layouts.{plain, layout_by, layouts_of, layout_at, size_over}
use Rattle.type_layout.specs.Table.{Table, IsWellFormed, IsAddable, place_of, with_type}
use Rattle.type_layout.proofs.Given.{length-layouts_of, get_or-given_by-front, get_or-given_by-middle}
use Rattle.type_layout.proofs.Local.{slice_get-append}
use Rattle.type_layout.proofs.Measured.{round, is_measured}
use Rattle.unit_interface.specs.Merge.{key_of, new_id, renumbered}
use Rattle.unit_interface.specs.Exports.{in_found, is_in, kept_before, new_ids, with_kept, kept, IsClosed, IsFit, IsFitAt}
use Rattle.unit_interface.proofs.OrderLaws.{IsIn}
use Rattle.unit_interface.proofs.FittingLaws.{IsSame, IsFitting, fitting, has_methods}

-- ---- new ids

pub below_or_last : (k n : ℕ) → k < suc n → (k < n) ⊎ (k ≡ n)
below_or_last zero zero below = inr refl
below_or_last zero (suc n) below = inl (omega arith)
below_or_last (suc k) zero below = absurd (omega arith)
below_or_last (suc k) (suc n) below =
    elim (below_or_last k n (omega (arith, below))) [ inl less ↦ inl (omega (arith, less)) | inr same ↦ inr (omega (arith, same)) ]

pub length-new_ids : (reached : List ℕ) (count : ℕ) → length (new_ids reached count) ≡ count
length-new_ids reached zero = refl
length-new_ids reached (suc count) =
    let rec = length-new_ids reached count in
    length-append (new_ids reached count) ((record { 0 = kept_before reached count }) ∷ []) ∙ omega (arith, rec)

pub get_or-new_ids : (reached : List ℕ) (count number : ℕ) (d : TypeId) → number < count
    → (get_or (new_ids reached count) number d).0 ≡ kept_before reached number
get_or-new_ids reached zero number d below = absurd (omega arith)
get_or-new_ids reached (suc count) number d below =
    let len = length-new_ids reached count in
    let last : TypeId = record { 0 = kept_before reached count } in
    elim (below_or_last number count below) [
      | inl before ↦
          ap (λ (id : TypeId). id.0) (get_or-append (new_ids reached count) (last ∷ []) d number (omega (arith, before, len)))
          ∙ get_or-new_ids reached count number d before
      | inr same ↦
          let seam = get_or-append_seam (new_ids reached count) last [] d in
          let at : number ≡ length (new_ids reached count) = omega (arith, same, len) in
          ap (λ (k : ℕ). (get_or (new_ids reached count ++ last ∷ []) k d).0) at
          ∙ ap (λ (id : TypeId). id.0) seam ∙ ap (kept_before reached) (sym same)
    ]

-- ---- a table that grows

pub slice_get-seam : {A : Type 0} (xs : List A) (x : A) → slice_get (xs ++ x ∷ []) (length xs) ≡ Some x
slice_get-seam [] x = refl
slice_get-seam (y ∷ xs) x = slice_get-seam xs x

pub same-longer : (own types : List TypeDef) (ids : List TypeId) (id : TypeId) (more : TypeDef) → IsSame own types ids id
    → IsSame own (types ++ more ∷ []) ids id
same-longer own types ids id more s =
    let within : (new_id ids id).0 < length types = slice_get_within types (new_id ids id).0 (renumbered ids s.there.unit s.one) s.there.at in
    record {
      one = s.one;
      stands = s.stands;
      there = record { unit = s.there.unit; at = slice_get-append types (more ∷ []) (new_id ids id).0 within ∙ s.there.at };
      layout = get_or-given_by-front layout_by types (more ∷ []) (new_id ids id).0 (plain 0) within ∙ s.layout;
    }

pub same-last : (own types : List TypeDef) (ids : List TypeId) (id : TypeId) (unit : ℕ) (one : TypeDef) → slice_get own id.0 ≡ Some one
    → (new_id ids id).0 ≡ length types → layout_by types (layouts_of types) (renumbered ids unit one) ≡ layout_at own id
    → IsSame own (types ++ renumbered ids unit one ∷ []) ids id
same-last own types ids id unit one stands last layout =
    let longer : List TypeDef = types ++ renumbered ids unit one ∷ [] in
    record {
      one = one;
      stands = stands;
      there = record { unit = unit; at = ap (slice_get longer) last ∙ slice_get-seam types (renumbered ids unit one) };
      layout =
          ap (λ (k : ℕ). get_or (layouts_of longer) k (plain 0)) last
          ∙ get_or-given_by-middle layout_by types (renumbered ids unit one) [] (plain 0) ∙ layout;
    }

-- ---- the types that are kept

-- those of the first types that are reached stand in a table under their new ids, and no others
pub record IsKeptSo (own : Table) (reached : List ℕ) (ids : List TypeId) (table : Table) (number : ℕ) : Type 0 where
  pub count : length table.types ≡ kept_before reached number
  pub same : (id : TypeId) → id.0 < number → is_in reached id.0 ≡ true → IsSame own.types table.types ids id

fitting_next : (own table : Table) (reached : List ℕ) (ids : List TypeId) (number : ℕ) (one : TypeDef) → IsWellFormed own
    → IsClosed own.types reached → is_in reached number ≡ true → slice_get own.types number ≡ Some one → IsKeptSo own reached ids table number
    → IsFitting own.types table.types ids one
fitting_next own table reached ids number one well closed met at so =
    let within = slice_get_within own.types number one at in
    fitting own.types table.types ids number one (round own.types number one well.defined at)
    (λ id below named. so.same id below
    (closed number id.0 met (subst (λ (o : Option TypeDef). IsIn id.0 (in_found o)) (sym at) named) (omega (arith, below, within))))

kept_next : (own table : Table) (reached : List ℕ) (number : ℕ) (one : TypeDef) (origin : Origin) → IsWellFormed own
    → is_in reached number ≡ true → slice_get own.types number ≡ Some one → slice_get own.origins number ≡ Some origin
    → IsFitting own.types table.types (new_ids reached (length own.types)) one
    → IsKeptSo own reached (new_ids reached (length own.types)) table number
    → IsKeptSo own reached (new_ids reached (length own.types)) (with_kept own (new_ids reached (length own.types)) table number) (suc number)
kept_next own table reached number one origin well met at from fits so =
    let ids : List TypeId = new_ids reached (length own.types) in
    let key = key_of own.units origin in
    let unit : ℕ = place_of table.units key.unit in
    let within = slice_get_within own.types number one at in
    let next : with_kept own ids table number ≡ with_type table key.unit key.number (renumbered ids unit one) = rw (at, from) refl in
    subst (λ (t : Table). IsKeptSo own reached ids t (suc number)) (sym next) (record {
      count = length-append table.types (renumbered ids unit one ∷ []) ∙ ap (λ (n : ℕ). n + 1) so.count
          ∙ ap (λ (b : Bool). kept_before reached number + cond b 1 0) (sym met);
      same = λ id below reached_id. elim (below_or_last id.0 number below) [
        | inl before ↦ same-longer own.types table.types ids id (renumbered ids unit one) (so.same id before reached_id)
        | inr last ↦
            let stands : slice_get own.types id.0 ≡ Some one = ap (slice_get own.types) last ∙ at in
            same-last own.types table.types ids id unit one stands
            (ap (λ (k : ℕ). (get_or ids k id).0) last ∙ get_or-new_ids reached (length own.types) number id within ∙ sym so.count)
            (fits.layout unit ∙ sym ((is_measured own.types well.defined).layouts id one stands))
      ];
    })

kept_past : (own table : Table) (reached : List ℕ) (ids : List TypeId) (number : ℕ) → is_in reached number ≡ false
    → IsKeptSo own reached ids table number → IsKeptSo own reached ids table (suc number)
kept_past own table reached ids number out so = record {
  count =
      let none : 0 ≡ cond (is_in reached number) 1 0 = ap (λ (b : Bool). (let n : ℕ = cond b 1 0 in n)) (sym out) in
      omega (arith, so.count, none);
  same = λ id below met. elim (below_or_last id.0 number below) [
    | inl before ↦ so.same id before met
    | inr last ↦
        let here : is_in reached number ≡ true = ap (is_in reached) (sym last) ∙ met in
        absurd (cc)
  ];
}

pub origin_at : (own : Table) (number : ℕ) → IsWellFormed own → number < length own.types → (origin : Origin) × (slice_get own.origins number ≡ Some origin)
origin_at own number well below =
    let d : Origin = record { unit = 0; number = 0 } in
    (get_or own.origins number d, slice_get-get_or own.origins number d (omega (arith, below, well.origins)))

pub type_at : (own : Table) (number : ℕ) → number < length own.types → (one : TypeDef) × (slice_get own.types number ≡ Some one)
type_at own number below =
    let d : TypeDef = PointerTo (record { 0 = 0 }) in
    (get_or own.types number d, slice_get-get_or own.types number d below)

pub kept_so : (own : Table) (reached : List ℕ) → IsWellFormed own → IsClosed own.types reached → (number : ℕ) → number ≤ length own.types
    → IsKeptSo own reached (new_ids reached (length own.types)) (kept own reached (new_ids reached (length own.types)) number) number
kept_so own reached well closed zero within = record { count = refl; same = λ id below met. absurd (omega (arith, below)) }
kept_so own reached well closed (suc number) within =
    let ids : List TypeId = new_ids reached (length own.types) in
    let table : Table = kept own reached ids number in
    let so = kept_so own reached well closed number (omega (arith, within)) in
    by_flag own reached table number well closed within so (is_in reached number) refl
  where
    by_flag : (own : Table) (reached : List ℕ) (table : Table) (number : ℕ) → IsWellFormed own → IsClosed own.types reached
        → suc number ≤ length own.types → IsKeptSo own reached (new_ids reached (length own.types)) table number → (b : Bool) → is_in reached number ≡ b
        → IsKeptSo own reached (new_ids reached (length own.types)) (cond b (with_kept own (new_ids reached (length own.types)) table number) table) (suc number)
    by_flag own reached table number well closed within so true met =
        let ids : List TypeId = new_ids reached (length own.types) in
        let one = type_at own number (omega (arith, within)) in
        let origin = origin_at own number well (omega (arith, within)) in
        kept_next own table reached number one.0 origin.0 well met one.1 origin.1
        (fitting_next own table reached ids number one.0 well closed met one.1 so) so
    by_flag own reached table number well closed within so false out = kept_past own table reached (new_ids reached (length own.types)) number out so

-- each type that is kept can stand behind those before it
pub fits : (own : Table) (reached : List ℕ) (number : ℕ) → IsWellFormed own → IsClosed own.types reached → number < length own.types
    → is_in reached number ≡ true → IsFitAt (new_ids reached (length own.types)) (kept own reached (new_ids reached (length own.types)) number) own number
fits own reached number well closed below met one origin at from =
    let ids : List TypeId = new_ids reached (length own.types) in
    let table : Table = kept own reached ids number in
    let unit : ℕ = place_of table.units (key_of own.units origin).unit in
    let f = fitting_next own table reached ids number one well closed met at (kept_so own reached well closed number (omega (arith, below))) in
    let id : TypeId = record { 0 = number } in
    let here : layout_by table.types (layouts_of table.types) (renumbered ids unit one) ≡ layout_at own.types id =
    f.layout unit ∙ sym ((is_measured own.types well.defined).layouts id one at) in
    let small : (layout_at own.types id).size ≤ 65520 =
    All-get_or (λ (l : Layout). l.size ≤ 65520) (layouts_of own.types) number (plain 0) (omega (arith, below, length-layouts_of own.types)) well.fits in
    record {
      addable = record { defined = f.defined unit; methods = has_methods ids unit one };
      small = subst (λ (l : Layout). l.size ≤ 65520) (sym here) small;
    }

-- the type of a number that can stand in a table, under the name of the unit that declares it
pub fit-named : (ids : List TypeId) (table own : Table) (number : ℕ) (one added : TypeDef) (origin : Origin) (name : List ℕ)
    → IsFit ids table own number one origin → name ≡ get_or own.units origin.unit [] → added ≡ renumbered ids (place_of table.units name) one
    → IsAddable table name added × (size_over table.types added ≤ 65520)
fit-named ids table own number one added origin name f named is = rw (is, named) (f.addable, f.small)

pub kept-named : (ids : List TypeId) (table own : Table) (number : ℕ) (one added : TypeDef) (origin : Origin) (name : List ℕ)
    → slice_get own.types number ≡ Some one → slice_get own.origins number ≡ Some origin → name ≡ get_or own.units origin.unit []
    → added ≡ renumbered ids (place_of table.units name) one → with_type table name origin.number added ≡ with_kept own ids table number
kept-named ids table own number one added origin name at from named is = rw (at, from, is, named) refl
