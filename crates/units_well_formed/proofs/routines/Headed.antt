-- Headers of routines: those that announce one, and those in front of a block.
use Rattle.std.proofs.Common.{◌≡◌, ◌⊎◌, inl, inr, ℕ, suc, ◌+◌, ◌<◌, ◌≤◌, Bool, true, false, cond, List, [], ◌∷◌, ◌++◌, length, Option, Some, None, refl, sym, subst, ap, ◌∙◌, arith}
use Rattle.std.proofs.lemmas.List.{length-map}
use Rattle.std.specs.Prelude.{slice_get, ◌^◌, is_some, nat_eq, sum_by}
use Rattle.std.proofs.lemmas.List.Sums.{sum_by-cons}
use Rattle.std.proofs.lemmas.Option.{slice_get_within}
use Rattle.declarations_well_formed.specs.type_layout.declared.definitions.TypeId.{TypeId}
use Rattle.declarations_well_formed.specs.type_layout.declared.definitions.Param.{Param}
use Rattle.declarations_well_formed.specs.type_layout.declared.definitions.Kind.{Kind}
use Rattle.declarations_well_formed.specs.type_layout.declared.definitions.Kind.TheVariants as kind
use Rattle.declarations_well_formed.specs.type_layout.declared.definitions.Header.{Header}
use Rattle.declarations_well_formed.specs.type_layout.declared.definitions.Method.{Method}
use Rattle.declarations_well_formed.specs.type_layout.declared.definitions.TypeDef.{TypeDef}
use Rattle.declarations_well_formed.specs.type_layout.declared.definitions.TypeDef.TheVariants as type
use Rattle.declarations_well_formed.specs.type_layout.declared.texts.Place.{Place}
use Rattle.declarations_well_formed.proofs.type_layout_proofs.Local.{slice_get-append}
use Rattle.declarations_well_formed.specs.syntax_tree.declared.type_tree.parameter.ParameterGroup.{ParameterGroup}
use Rattle.declarations_well_formed.specs.syntax_tree.declared.type_tree.parameter.NamedType.{NamedType}
use Rattle.declarations_well_formed.specs.syntax_tree.declared.source_tree.declaration.RoutineHeader.{RoutineHeader}
use Rattle.declarations_well_formed.specs.syntax_tree.declared.source_tree.declaration.RoutineHeader.TheVariants as h
use Rattle.declarations_well_formed.specs.typed_tree.declared.units.Routine.{Routine}
use Rattle.declarations_well_formed.specs.typed_tree.Frames.{param_bytes, class_argument, result_argument}
use Rattle.declarations_well_formed.specs.typed_tree.Slots.{capped, slot_of_type}
use Rattle.declarations_well_formed.specs.typed_tree.type_fits.Fits.{definition, IsSome}
use Rattle.declarations_well_formed.specs.well_formed.Scopes.{prototype, Scope}
use Rattle.declarations_well_formed.specs.well_formed.Typed.{IsRoutineValue}
use Rattle.declarations_well_formed.specs.well_formed.WellFormed.{IsInside, IsOwner}
use Rattle.declarations_well_formed.specs.scopes.declared.entries.Entry.{Entry}
use Rattle.declarations_well_formed.specs.scopes.declared.entries.Entry.TheVariants as entry
use Rattle.declarations_well_formed.specs.scopes.Environment.{Environment, with_name}
use Rattle.declarations_well_formed.specs.call_rules.method_rules.Slots.{methods_of}
use Rattle.declarations_well_formed.specs.declaration_checker.headers.Headers.{header_bytes, of_parts, procedure_header, function_header, routine_header}
use Rattle.declarations_well_formed.specs.declaration_checker.declarations.Progress.{level_of}
use Rattle.declarations_well_formed.specs.tp_check_decl.declared.routines.drafts.Announced.{Announced}
use Rattle.declarations_well_formed.specs.tp_check_decl.declared.routines.drafts.Site.{Site}
use Rattle.declarations_well_formed.specs.tp_check_decl.routines.Drafts.{Done, Numbered, Drafted, knowing, announcing}
use Rattle.declarations_well_formed.specs.rules_well_formed.nodes.Tables.{IsHeaderIn}
use Rattle.declarations_well_formed.proofs.rules_well_formed_proofs.nodes.Ordinals.{text_type}
use Rattle.declarations_well_formed.specs.bodies_well_formed.other_units.Known.{open_in, first_in, AreNested, IsDeep, IsEntry, IsPlaced, AreKnown}
use Rattle.declarations_well_formed.specs.bodies_well_formed.other_units.Growing.{Extends}
use Rattle.declarations_well_formed.proofs.bodies_well_formed_proofs.other_units.Frames.{nested_deep}
use Rattle.declarations_well_formed.proofs.bodies_well_formed_proofs.other_units.Finding.{found_known}
use Rattle.declarations_well_formed.proofs.bodies_well_formed_proofs.other_units.Entering.{named_known, named_open, named_each}
use Rattle.declarations_well_formed.proofs.bodies_well_formed_proofs.other_units.Growing.{same_known}
use Rattle.units_well_formed.specs.routines.Reading.{tree_of, Frame, trees_of, scope_of, numbers_of, IsOwn, IsAnnounced, IsBlock, AreThere, IsRead, IsSite}
use Rattle.units_well_formed.proofs.routines.Lists.{trees_length, trees_end, AreBelow}
use Rattle.units_well_formed.proofs.routines.Steps.{extends_on, with_routines, extends_end, snoc_at, snoc_last, each_weaker, nested_below, there_kept}
use Rattle.units_well_formed.proofs.routines.Bottoms.{named_bottom}
use Rattle.units_well_formed.proofs.routines.Constants.{named_values}
use Rattle.units_well_formed.proofs.routines.Named.{NamesBelow, routine_in, header_there}

-- ---- headers

-- what each header has
pub record IsHeaded (types : List TypeDef) (header : Header) : Type 0 where
  pub there : IsHeaderIn types header
  pub function : is_some header.result ≡ true → header.kind ≡ kind.Function
  pub few : length header.params ≤ 256

some_bytes : (types : List TypeDef) (param : Param) (by_ref two : Bool) → 1 ≤ cond by_ref 4 (cond two 2 4)
some_bytes types param true two = omega arith
some_bytes types param false true = omega arith
some_bytes types param false false = omega arith

params_bytes : (types : List TypeDef) (params : List Param) → length params ≤ sum_by (param_bytes types) params
params_bytes types [] = omega arith
params_bytes types (param ∷ rest) =
    let one : 1 ≤ param_bytes types param = some_bytes types param param.by_ref (nat_eq (slot_of_type types param.ty) 2) in
    let others = params_bytes types rest in
    let both : sum_by (param_bytes types) (param ∷ rest) ≡ param_bytes types param + sum_by (param_bytes types) rest = sum_by-cons (param_bytes types) param rest in
    add (length rest) (param_bytes types param) (sum_by (param_bytes types) rest) (sum_by (param_bytes types) (param ∷ rest)) one others both
  where
    add : (n b m t : ℕ) → 1 ≤ b → n ≤ m → t ≡ b + m → suc n ≤ t
    add n b m t h k e = omega (arith, h, k, e)

small : (n : ℕ) → capped n ≤ 256 → n ≤ 256
small n h = grind (arith, h)

limit : (types : List TypeDef) (is_method : Bool) (header : Header) → header_bytes types is_method header ≤ 256 → length header.params ≤ 256
limit types is_method header h =
    let rest : ℕ = cond is_method 4 0 + (class_argument header.kind + result_argument types header.result) in
    let all : sum_by (param_bytes types) header.params + rest ≤ 256 = small (sum_by (param_bytes types) header.params + rest) h in
    let each = params_bytes types header.params in
    put (length header.params) (sum_by (param_bytes types) header.params) rest each all
  where
    put : (n m k : ℕ) → n ≤ m → m + k ≤ 256 → n ≤ 256
    put n m k e f = omega (arith, e, f)

pub procedure_few : (g : Environment) (is_method : Bool) (place : Place) (one : Kind) (groups : List ParameterGroup) (header : Header) → (procedure_header g is_method place one groups).holds header → length header.params ≤ 256
procedure_few g is_method place one groups header k =
    subst (λ (x : Header). length x.params ≤ 256) (sym k.made.made) (limit g.types.types is_method (of_parts one k.part None) k.made.asked)

pub function_few : (g : Environment) (is_method : Bool) (place : Place) (groups : List ParameterGroup) (result : Option NamedType) (header : Header) → (function_header g is_method place groups result).holds header → length header.params ≤ 256
function_few g is_method place groups result header k =
    subst (λ (x : Header). length x.params ≤ 256) (sym k.made.made) (limit g.types.types is_method (of_parts kind.Function k.left (Some k.right)) k.made.asked)

routine_few : (g : Environment) (one : RoutineHeader) (header : Header) → (routine_header g one).holds header → length header.params ≤ 256
routine_few g (h.Procedure here name groups) header k = procedure_few g false here.place kind.Procedure groups.items header k
routine_few g (h.Function here name groups result) header k = function_few g false here.place groups.items result header k

abbrev pub IsKindly : Header → Type 0
IsKindly header = is_some header.result ≡ true → header.kind ≡ kind.Function

routine_function : (g : Environment) (one : RoutineHeader) (header : Header) → (routine_header g one).holds header → IsKindly header
routine_function g (h.Procedure here name groups) header k = subst (λ (x : Header). IsKindly x) (sym k.made.made) (λ e. let bad : ⊥ = cc in absurd bad)
routine_function g (h.Function here name groups result) header k = subst (λ (x : Header). IsKindly x) (sym k.made.made) (λ e. refl)

module _ (d : Drafted) (frames : List Frame) (r : IsRead d frames) where
  abbrev here : Scope
  here = scope_of d frames

  below : (o : ℕ) → IsSome (slice_get here.types o) → o < length here.types
  below o k = by (slice_get here.types o) refl k
    where
      by : (x : Option TypeDef) → slice_get here.types o ≡ x → IsSome x → o < length here.types
      by None e k = absurd k
      by (Some one) e k = slice_get_within here.types o one e

  names : NamesBelow (length here.types) d.scope
  names = record {
    names = λ name number ty e. below ty.0 (found_known d.scope here name number (entry.Ty ty) r.known e);
    string = slice_get_within here.types 7 (type.Str 255) (text_type here.types r.known.sound);
  }

  pub headed : (one : RoutineHeader) (header : Header) → (routine_header d.scope one).holds header → IsHeaded here.types header
  headed one header k = record {
    there = header_there here.types header (routine_in (length here.types) d.scope names one header k);
    function = routine_function d.scope one header k;
    few = routine_few d.scope one header k;
  }

  -- ---- one routine more

  module _ (site : Site) (at : IsSite site frames) (first : Announced) (outer : first.outer ≡ site.outer) (free : first.owner ≡ None) (k : IsHeaded here.types first.header)
      (few : length d.routines + 1 < 2 ^ 32) where
    abbrev new : Numbered
    new = record { first = first; done = None }

    abbrev more : Scope
    more = with_routines here (here.routines ++ tree_of new ∷ [])

    grows : Extends here more
    grows = extends_end here (tree_of new)

    placed : (number : ℕ) (one : Routine) → slice_get (here.routines ++ tree_of new ∷ []) number ≡ Some one → IsPlaced one
    placed number one e = by (snoc_at here.routines (tree_of new) number one e)
      where
        by : (slice_get here.routines number ≡ Some one) ⊎ ((number ≡ length here.routines) × (tree_of new ≡ one)) → IsPlaced one
        by (inl f) = r.known.placed number one f
        by (inr f) =
            let short = k.few in
            subst (λ (x : Routine). IsPlaced x) f.1
            (record { outermost = λ some. absurd (subst (λ (o : Option TypeId). IsSome o) free some); few = omega (arith, short) })

    known : AreKnown d.scope more
    known = same_known d.scope here r.known more grows refl refl placed

    abbrev own_entry : ℕ → ℕ → Entry
    own_entry number level = entry.Code (record { unit = 0; number = number }) level first.header first.far

    -- its number is its place
    count : length here.routines ≡ length d.routines
    count = trees_length d.routines frames

    last : slice_get (here.routines ++ tree_of new ∷ []) (length d.routines) ≡ Some (tree_of new)
    last = subst (λ (n : ℕ). slice_get (here.routines ++ tree_of new ∷ []) n ≡ Some (tree_of new)) count (snoc_last here.routines (tree_of new))

    outer_first : first.outer ≡ first_in (open_in d.scope)
    outer_first = outer ∙ at.outer ∙ sym (ap (λ (o : List ℕ). first_in o) r.around)

    level_count : level_of site.home ≡ length (open_in d.scope)
    level_count = at.level ∙ sym (ap (λ (o : List ℕ). length o) r.around ∙ length-map frames (λ (one : Frame). one.number))

    deep : IsDeep more.routines (level_of site.home) first.outer
    deep =
        subst (λ (n : ℕ). IsDeep more.routines n first.outer) (sym level_count)
        (subst (λ (o : Option ℕ). IsDeep more.routines (length (open_in d.scope)) o) (sym outer_first) (nested_deep more.routines (open_in d.scope) known.nested))

    -- far and outside all others, it may stand as a value
    value : first.far ≡ true → level_of site.home ≡ 0 → IsRoutineValue first.header (prototype (tree_of new))
    value far level = record {
      far = far;
      free = free;
      outermost = outer_first ∙ none_in (open_in d.scope) (sym level_count ∙ level);
      same = record { kind = refl; params = refl; result = refl };
    }
      where
        none_in : (numbers : List ℕ) → length numbers ≡ 0 → first_in numbers ≡ None
        none_in [] e = refl
        none_in (n ∷ numbers) e = let bad : ⊥ = cc in absurd bad

    entry_known : IsEntry more (open_in d.scope) (own_entry (length d.routines) (level_of site.home))
    entry_known = (
      (tree_of new, last, record { free = record { free = free; same = record { kind = refl; params = refl; result = refl } }; outer = outer_first }),
      k.there,
      λ far level. ((tree_of new, last, value far level), tt),
      (tree_of new, last, deep),
    )

    own_new : IsOwn (d.routines ++ new ∷ []) (open_in d.scope) (own_entry (length d.routines) (level_of site.home))
    own_new = (refl, record { one = new; is = snoc_last d.routines new; first = refl; outer = outer_first; free = free })

    own_kept : (around : List ℕ) (one : Entry) → IsOwn d.routines around one → IsOwn (d.routines ++ new ∷ []) around one
    own_kept around (entry.Code routine level header far) o =
        let it = o.1 in
        (o.0, record { one = it.one; is = slice_get-append d.routines (new ∷ []) routine.number (slice_get_within d.routines routine.number it.one it.is) ∙ it.is; first = it.first; outer = it.outer; free = it.free })
    own_kept around (entry.Const ty v) o = tt
    own_kept around (entry.Ty ty) o = tt
    own_kept around (entry.Var unit level number ty) o = o
    own_kept around (entry.Std number) o = tt

    abbrev named_scope : List ℕ → Environment
    named_scope name = with_name d.scope name (own_entry (length d.routines) (level_of site.home))

    abbrev next : List ℕ → Drafted
    next name = announcing (knowing d (named_scope name)) first

    -- an outer routine has a lower number
    inside : IsInside (length d.routines) first.outer
    inside = subst (λ (o : Option ℕ). IsInside (length d.routines) o) (sym (outer ∙ at.outer)) (by frames (nested_below here.routines frames nested))
      where
        nested : AreNested here.routines (numbers_of frames)
        nested = subst (λ (o : List ℕ). AreNested here.routines o) r.around r.known.nested

        by : (these : List Frame) → AreBelow (length here.routines) these → IsInside (length d.routines) (first_in (numbers_of these))
        by [] h = tt
        by (one ∷ rest) h = subst (λ (n : ℕ). one.number < n) count h.0

    announced_at : (number : ℕ) (one : Numbered) → slice_get (d.routines ++ new ∷ []) number ≡ Some one → IsAnnounced more number one.first
    announced_at number one e = by (snoc_at d.routines new number one e)
      where
        by : (slice_get d.routines number ≡ Some one) ⊎ ((number ≡ length d.routines) × (new ≡ one)) → IsAnnounced more number one.first
        by (inl f) =
            let it = r.announced number one f in
            record { header = it.header; function = it.function; owner = it.owner; outer = it.outer }
        by (inr f) =
            subst (λ (x : Numbered). IsAnnounced more number x.first) f.1
            (subst (λ (n : ℕ). IsAnnounced more n first) (sym f.0)
            (record { header = k.there; function = k.function; owner = subst (λ (o : Option TypeId). IsOwner more o) (sym free) tt; outer = inside }))

    blocks_at : (number : ℕ) (one : Numbered) (done : Done) → slice_get (d.routines ++ new ∷ []) number ≡ Some one → one.done ≡ Some done → IsBlock more number done
    blocks_at number one done e has = by (snoc_at d.routines new number one e)
      where
        by : (slice_get d.routines number ≡ Some one) ⊎ ((number ≡ length d.routines) × (new ≡ one)) → IsBlock more number done
        by (inl f) =
            let it = r.blocks number one done f has in
            let body = it.body in
            record { types = it.types; body = record { then = body.then; around = body.around; well = body.well; sound = body.sound; nested = body.nested; innermost = body.innermost; since = extends_on body.then here more body.since grows } }
        by (inr f) =
            let none : new.done ≡ Some done = ap (λ (x : Numbered). x.done) f.1 ∙ has in
            let bad : ⊥ = cc in
            absurd bad

    methods_at : (number place : ℕ) (one : Numbered) (ty : TypeId) (method : Method) → slice_get (d.routines ++ new ∷ []) number ≡ Some one → one.first.owner ≡ Some ty
        → slice_get (methods_of (definition d.scope.types.types ty)) place ≡ Some method → method.routine.number ≡ number → one.first.header ≡ method.header
    methods_at number place one ty method e owned is same = by (snoc_at d.routines new number one e)
      where
        by : (slice_get d.routines number ≡ Some one) ⊎ ((number ≡ length d.routines) × (new ≡ one)) → one.first.header ≡ method.header
        by (inl f) = r.methods number place one ty method f owned is same
        by (inr f) =
            let none : first.owner ≡ Some ty = ap (λ (x : Numbered). x.first.owner) f.1 ∙ owned in
            let bad : ⊥ = cc in
            absurd bad

    trees_more : trees_of (d.routines ++ new ∷ []) frames ≡ here.routines ++ tree_of new ∷ []
    trees_more = trees_end d.routines frames new (subst (λ (n : ℕ). AreBelow n frames) count (nested_below here.routines frames (subst (λ (o : List ℕ). AreNested here.routines o) r.around r.known.nested)))

    read_more : (name : List ℕ) → AreKnown (named_scope name) more
    read_more name = named_known d.scope more name (own_entry (length d.routines) (level_of site.home)) known entry_known

    pub added_read : (name : List ℕ) → IsRead (next name) frames
    added_read name = record {
      known = subst (λ (rs : List Routine). AreKnown (named_scope name) (with_routines here rs)) (sym trees_more) (read_more name);
      around = named_open d.scope name (own_entry (length d.routines) (level_of site.home)) ∙ r.around;
      bottom = named_bottom d.scope name (own_entry (length d.routines) (level_of site.home)) (length frames) r.bottom;
      locals = subst (λ (rs : List Routine). AreThere (with_routines here rs) frames) (sym trees_more) (there_kept here more frames (λ ty k. k) r.locals);
      own = named_each d.scope name (own_entry (length d.routines) (level_of site.home)) (IsOwn (d.routines ++ new ∷ [])) (each_weaker (IsOwn d.routines) (IsOwn (d.routines ++ new ∷ [])) own_kept [] d.scope.blocks r.own) own_new;
      values = named_values d.scope name (own_entry (length d.routines) (level_of site.home)) r.values tt;
      table = r.table;
      globals = r.globals;
      methods = methods_at;
      announced = λ number one e. subst (λ (rs : List Routine). IsAnnounced (with_routines here rs) number one.first) (sym trees_more) (announced_at number one e);
      blocks = λ number one done e has. subst (λ (rs : List Routine). IsBlock (with_routines here rs) number done) (sym trees_more) (blocks_at number one done e has);
    }

    pub added_since : (name : List ℕ) → Extends here (scope_of (next name) frames)
    added_since name = subst (λ (rs : List Routine). Extends here (with_routines here rs)) (sym trees_more) grows

    pub added_at : slice_get (d.routines ++ new ∷ []) (length d.routines) ≡ Some new
    added_at = snoc_last d.routines new
