-- Headers in front of blocks: those of new routines, of earlier headers, and of methods.
use Rattle.std.proofs.Common.{◌≡◌, ℕ, suc, ◌+◌, ◌<◌, ◌≤◌, ◌==◌, ◌&&◌, not, Bool, true, false, cond, List, [], ◌∷◌, ◌++◌, length, map, Option, Some, None, refl, sym, subst, ap, ◌∙◌, arith, length-append}
use Rattle.std.specs.Prelude.{slice_get, ◌^◌, is_some, position}
use Rattle.std.proofs.Math.Nat.{min-eq_left}
use Rattle.std.proofs.lemmas.Bool.{and_parts}
use Rattle.std.proofs.lemmas.Bool.Decides.{Decides-eqb}
use Rattle.declarations_well_formed.specs.type_layout.declared.definitions.TypeId.{TypeId}
use Rattle.declarations_well_formed.specs.type_layout.declared.definitions.RoutineId.{RoutineId}
use Rattle.declarations_well_formed.specs.type_layout.declared.definitions.Param.{Param}
use Rattle.declarations_well_formed.specs.type_layout.declared.definitions.Kind.TheVariants as kind
use Rattle.declarations_well_formed.specs.type_layout.declared.definitions.Kind.{Kind}
use Rattle.declarations_well_formed.specs.type_layout.declared.definitions.Header.{Header}
use Rattle.declarations_well_formed.specs.type_layout.declared.definitions.Method.{Method}
use Rattle.declarations_well_formed.specs.type_layout.declared.definitions.TypeDef.{TypeDef}
use Rattle.declarations_well_formed.specs.type_layout.declared.definitions.TypeDef.TheVariants as type
use Rattle.declarations_well_formed.specs.type_layout.declared.texts.Place.{Place}
use Rattle.declarations_well_formed.specs.type_layout.Words.{same_bytes}
use Rattle.declarations_well_formed.specs.syntax_tree.declared.identifier.Identifier.{Identifier}
use Rattle.declarations_well_formed.specs.syntax_tree.declared.type_tree.parameter.MethodHeader.{MethodHeader}
use Rattle.declarations_well_formed.specs.syntax_tree.declared.source_tree.declaration.RoutineHeader.{RoutineHeader}
use Rattle.declarations_well_formed.specs.syntax_tree.declared.source_tree.declaration.RoutineHeader.TheVariants as h
use Rattle.declarations_well_formed.specs.typed_tree.type_fits.Fits.{definition, IsSome, shape_of}
use Rattle.declarations_well_formed.specs.scopes.declared.entries.Entry.TheVariants as entry
use Rattle.declarations_well_formed.specs.scopes.declared.searches.OpenBlock.{OpenBlock}
use Rattle.declarations_well_formed.specs.scopes.Members.{narrow}
use Rattle.declarations_well_formed.specs.scopes.Environment.{Environment, Meaning, named, find, with_name, block_count}
use Rattle.declarations_well_formed.specs.call_rules.method_rules.Slots.{methods_of}
use Rattle.declarations_well_formed.specs.typing_rules.Judgements.{Judgement}
use Rattle.declarations_well_formed.specs.declaration_checker.headers.Headers.{procedure_header, function_header, method_header}
use Rattle.declarations_well_formed.specs.declaration_checker.type_parts.Objects as objects
use Rattle.declarations_well_formed.specs.declaration_checker.type_parts.Objects.{header_place}
use Rattle.declarations_well_formed.specs.declaration_checker.declarations.Progress.{level_of}
use Rattle.declarations_well_formed.specs.tp_check_decl.declared.routines.drafts.Announced.{Announced}
use Rattle.declarations_well_formed.specs.tp_check_decl.declared.routines.drafts.Site.{Site}
use Rattle.declarations_well_formed.specs.tp_check_decl.routines.Drafts.{Done, Numbered, Drafted, knowing, next_number, announcing}
use Rattle.declarations_well_formed.specs.tp_check_decl.routines.Headings.{name_of, is_far, announced_by, routine_entry, announced, heading, is_left, awaited_by, awaited_of, is_bare, kind_repeated, whole_repeated, half_repeated, repeated, Opened, opened_by, opened_of}
use Rattle.declarations_well_formed.specs.tp_check_decl.routines.Methods.{lacks_result, groups_of, method_at, declared_method, own_method, is_owner, is_awaited, header_repeated, method_opened_by, method_opened}
use Rattle.declarations_well_formed.proofs.rules_well_formed_proofs.nodes.Assigned.{same_id}
use Rattle.declarations_well_formed.specs.bodies_well_formed.other_units.Known.{first_in}
use Rattle.declarations_well_formed.specs.bodies_well_formed.other_units.Growing.{Extends}
use Rattle.declarations_well_formed.proofs.bodies_well_formed_proofs.other_units.Finding.{found_inner}
use Rattle.units_well_formed.specs.routines.Reading.{Frame, scope_of, numbers_of, IsOwn, IsRead, IsSite}
use Rattle.units_well_formed.proofs.routines.Lists.{trees_at}
use Rattle.units_well_formed.proofs.routines.Steps.{extends_itself}
use Rattle.units_well_formed.proofs.routines.Entered.{entered_is}
use Rattle.units_well_formed.proofs.routines.Headed.{IsHeaded, headed, added_read, added_since, added_at}

-- a routine whose block follows is one of the innermost block, which was not met, with parameters like these
pub record IsOpened (d : Drafted) (frames : List Frame) (o : Opened) : Type 0 where
  pub read : IsRead o.draft frames
  pub since : Extends (scope_of d frames) (scope_of o.draft frames)
  pub one : Numbered
  pub is : slice_get o.draft.routines o.begun.number ≡ Some one
  pub left : one.done ≡ None
  pub outer : one.first.outer ≡ first_in (numbers_of frames)
  pub owner : one.first.owner ≡ o.begun.owner
  pub result : one.first.header.result ≡ o.begun.header.result
  pub params : map shape_of o.begun.header.params ≡ map shape_of one.first.header.params

-- the routine of an earlier header in the same block
pub record IsAwaited (d : Drafted) (frames : List Frame) (number : ℕ) (header : Header) : Type 0 where
  pub one : Numbered
  pub is : slice_get d.routines number ≡ Some one
  pub left : one.done ≡ None
  pub header_is : one.first.header ≡ header
  pub outer : one.first.outer ≡ first_in (numbers_of frames)
  pub free : one.first.owner ≡ None

left_none : (o : Option Done) → not (is_some o) ≡ true → o ≡ None
left_none None e = refl
left_none (Some done) e = let bad : ⊥ = cc in absurd bad

-- a method that is found by its name stands at its place
at_place : (all : List Method) (o : Option ℕ) (found : Method) → method_at all o ≡ Some found → (place : ℕ) × (slice_get all place ≡ Some found)
at_place all None found e = let bad : ⊥ = cc in absurd bad
at_place all (Some place) found e = (place, e)

listed_at : (all : List Method) (name : List ℕ) (found : Method) → declared_method all name ≡ Some found → (place : ℕ) × (slice_get all place ≡ Some found)
unfolding declared_method
listed_at all name found e = at_place all (position (λ (one : Method). same_bytes name one.name) all) found e

module _ (d : Drafted) (frames : List Frame) (r : IsRead d frames) (site : Site) (at : IsSite site frames) where
  -- ---- a header that announces a routine

  -- what is announced, with its name in the innermost block
  announced_read : (far : Bool) (one : RoutineHeader) (header : Header) (e : Drafted) → IsHeaded (scope_of d frames).types header → length e.routines < 2 ^ 32 → (announced far site d one header).holds e
      → IsRead e frames × Extends (scope_of d frames) (scope_of e frames) × (e.routines ≡ d.routines ++ (let new : Numbered = record { first = announced_by far site one header; done = None } in new) ∷ []) × (narrow (length d.routines) ≡ length d.routines)
  announced_read far one header e good few k =
      let first : Announced = announced_by far site one header in
      let new : Numbered = record { first = first; done = None } in
      let name : List ℕ = (name_of one).name in
      let it : k.part ≡ with_name d.scope name (routine_entry (is_far far one) site (next_number d) header) = entered_is d.scope (name_of one).position.place name (routine_entry (is_far far one) site (next_number d) header) k.part k.holds in
      let length_is : length e.routines ≡ length d.routines + 1 = ap (λ (x : Drafted). length x.routines) k.made ∙ length-append d.routines (new ∷ []) in
      let room : length d.routines + 1 < 2 ^ 32 = subst (λ (n : ℕ). n < 2 ^ 32) length_is few in
      let low : length d.routines ≤ 4294967295 = omega (arith, room) in
      let same : narrow (length d.routines) ≡ length d.routines = min-eq_left low in
      let scope_is : k.part ≡ with_name d.scope name (entry.Code (record { unit = 0; number = length d.routines }) (level_of site.home) header (is_far far one)) =
      it ∙ ap (λ (n : ℕ). with_name d.scope name (entry.Code (record { unit = 0; number = n }) (level_of site.home) header (is_far far one))) same in
      let draft_is : e ≡ announcing (knowing d (with_name d.scope name (entry.Code (record { unit = 0; number = length d.routines }) (level_of site.home) header (is_far far one)))) first =
      k.made ∙ ap (λ (g : Environment). announcing (knowing d g) first) scope_is in (
        subst (λ (x : Drafted). IsRead x frames) (sym draft_is) (added_read d frames r site at first refl refl good room name),
        subst (λ (x : Drafted). Extends (scope_of d frames) (scope_of x frames)) (sym draft_is) (added_since d frames r site at first refl refl good room name),
        ap (λ (x : Drafted). x.routines) k.made,
        same,
      )

  pub heading_read : (far : Bool) (one : RoutineHeader) (e : Drafted) → length e.routines < 2 ^ 32 → (heading far site d one).holds e → IsRead e frames × Extends (scope_of d frames) (scope_of e frames)
  unfolding heading
  heading_read far one e few k =
      let it = announced_read far one k.part e (headed d frames r one k.part k.holds) few k.made in
      (it.0, it.1)

  -- ---- a header with its block

  outer_here : site.outer ≡ first_in (numbers_of frames)
  outer_here = at.outer

  new_opened : (one : RoutineHeader) (o : Opened) → length o.draft.routines < 2 ^ 32 → (opened_by site d one None).holds o → IsOpened d frames o
  new_opened one o few k =
      let header = k.part in
      let inner = k.made in
      let draft_is : o.draft ≡ inner.part = ap (λ (x : Opened). x.draft) inner.made in
      let room : length inner.part.routines < 2 ^ 32 = subst (λ (x : Drafted). length x.routines < 2 ^ 32) draft_is few in
      let it = announced_read false one header inner.part (headed d frames r one header k.holds) room inner.holds in
      let new : Numbered = record { first = announced_by false site one header; done = None } in
      let number_is : o.begun.number ≡ length d.routines = ap (λ (x : Opened). x.begun.number) inner.made ∙ it.3 in
      let there : slice_get (d.routines ++ new ∷ []) (length d.routines) ≡ Some new = added_at d frames r site at new.first refl refl (headed d frames r one header k.holds) (subst (λ (n : ℕ). n < 2 ^ 32) (ap (λ (rs : List Numbered). length rs) it.2 ∙ length-append d.routines (new ∷ [])) room) in
      record {
        read = subst (λ (x : Drafted). IsRead x frames) (sym draft_is) it.0;
        since = subst (λ (x : Drafted). Extends (scope_of d frames) (scope_of x frames)) (sym draft_is) it.1;
        one = new;
        is = ap (λ (x : Drafted). slice_get x.routines o.begun.number) draft_is ∙ ap (λ (rs : List Numbered). slice_get rs o.begun.number) it.2 ∙ ap (λ (n : ℕ). slice_get (d.routines ++ new ∷ []) n) number_is ∙ there;
        left = refl;
        outer = outer_here;
        owner = sym (ap (λ (x : Opened). x.begun.owner) inner.made);
        result = sym (ap (λ (x : Opened). x.begun.header.result) inner.made);
        params = ap (λ (x : Opened). map shape_of x.begun.header.params) inner.made;
      }

  -- ---- a header that repeats an earlier one

  whole_alike : (place : Place) (first : Header) (j : Judgement Header) (params : List Param) → (whole_repeated place first j).holds params → map shape_of params ≡ map shape_of first.params
  whole_alike place first j params k =
      let same = k.made.asked in
      ap (λ (ps : List Param). map shape_of ps) k.made.made ∙ sym same.params

  kind_alike : (place : Place) (one : Kind) (first : Header) (params : List Param) → (kind_repeated place one first).holds params → map shape_of params ≡ map shape_of first.params
  kind_alike place one first params k = ap (λ (ps : List Param). map shape_of ps) k.made

  by_bare : (place : Place) (one : Kind) (first : Header) (j : Judgement Header) (params : List Param) → (b : Bool)
      → cond b ((kind_repeated place one first).holds params) ((whole_repeated place first j).holds params) → map shape_of params ≡ map shape_of first.params
  by_bare place one first j params true k = kind_alike place one first params k
  by_bare place one first j params false k = whole_alike place first j params k

  by_half : (place : Place) (one : Kind) (first : Header) (j : Judgement Header) (params : List Param) → (b : Bool)
      → cond b ((kind_repeated place one first).holds params) ((half_repeated place j).holds params) → map shape_of params ≡ map shape_of first.params
  by_half place one first j params true k = kind_alike place one first params k
  by_half place one first j params false k = absurd k.made

  repeated_alike : (g : Environment) (first : Header) (one : RoutineHeader) (params : List Param) → (repeated g first one).holds params → map shape_of params ≡ map shape_of first.params
  repeated_alike g first (h.Procedure here name groups) params k =
      by_bare here.place kind.Procedure first (procedure_header g false here.place kind.Procedure groups.items) params (is_bare groups.items) k
  repeated_alike g first (h.Function here name groups None) params k =
      by_half here.place kind.Function first (procedure_header g false here.place kind.Procedure groups.items) params (is_bare groups.items) k
  repeated_alike g first (h.Function here name groups (Some result)) params k =
      whole_alike here.place first (function_header g false here.place groups.items (Some result)) params k

  left_slot : (o : Option Numbered) → is_left o ≡ true → (one : Numbered) × (o ≡ Some one) × (one.done ≡ None)
  left_slot None e = let bad : ⊥ = cc in absurd bad
  left_slot (Some one) e = (one, refl, left_none one.done e)

  code_awaited : (name : List ℕ) (n : ℕ) (routine : RoutineId) (level : ℕ) (header : Header) (far : Bool) → find d.scope name ≡ Some (named n (entry.Code routine level header far))
      → (b : Bool) → (n + 1 == block_count d.scope && (routine.unit == 0 && is_left (slice_get d.routines routine.number))) ≡ b → b ≡ true → IsAwaited d frames routine.number header
  code_awaited name n routine level header far found b is so =
      let both = and_parts (n + 1 == block_count d.scope) (routine.unit == 0 && is_left (slice_get d.routines routine.number)) (is ∙ so) in
      let rest = and_parts (routine.unit == 0) (is_left (slice_get d.routines routine.number)) both.1 in
      let inner : n + 1 ≡ block_count d.scope = (Decides-eqb (n + 1) (block_count d.scope)).0 both.0 in
      let bottom = r.bottom in
      let whole : length d.scope.blocks ≡ suc (length bottom.rest) = ap (λ (b : List OpenBlock). length b) bottom.is in
      let some : 0 < length d.scope.blocks = omega (arith, whole) in
      let own = (found_inner d.scope (IsOwn d.routines) name n (entry.Code routine level header far) r.own some inner found).1 in
      let slot = left_slot (slice_get d.routines routine.number) rest.1 in
      let same : own.one ≡ slot.0 = (let e = own.is in let f = slot.1 in cc) in
      record {
        one = own.one;
        is = own.is;
        left = ap (λ (x : Numbered). x.done) same ∙ slot.2;
        header_is = own.first;
        outer = own.outer ∙ ap (λ (ns : List ℕ). first_in ns) r.around;
        free = own.free;
      }

  none_awaited : (name : List ℕ) (m : Option Meaning) (first : _) → find d.scope name ≡ m → awaited_by (block_count d.scope) d.routines m ≡ Some first → IsAwaited d frames first.number first.header
  none_awaited name (Some (named n (entry.Code routine level header far))) first found e = by (n + 1 == block_count d.scope && (routine.unit == 0 && is_left (slice_get d.routines routine.number))) refl e
    where
      by : (b : Bool) → (n + 1 == block_count d.scope && (routine.unit == 0 && is_left (slice_get d.routines routine.number))) ≡ b → cond b (Some (record { number = routine.number; header = header })) None ≡ Some first → IsAwaited d frames first.number first.header
      by true is k =
          let it = code_awaited name n routine level header far found true is refl in
          let number_is : routine.number ≡ first.number = cc in
          let header_is : header ≡ first.header = cc in
          subst (λ (x : Header). IsAwaited d frames first.number x) header_is (subst (λ (x : ℕ). IsAwaited d frames x header) number_is it)
      by false is k = let bad : ⊥ = cc in absurd bad
  none_awaited name m first found e = let bad : ⊥ = cc in absurd bad

  awaited_known : (name : List ℕ) (first : _) → awaited_of d name ≡ Some first → IsAwaited d frames first.number first.header
  unfolding awaited_of
  awaited_known name first e = none_awaited name (find d.scope name) first refl e

  by_awaited : (one : RoutineHeader) (o : Opened) → length o.draft.routines < 2 ^ 32 → (a : Option _) → awaited_of d (name_of one).name ≡ a → (opened_by site d one a).holds o → IsOpened d frames o
  by_awaited one o few None is k = new_opened one o few k
  by_awaited one o few (Some first) is k =
      let it = awaited_known (name_of one).name first is in
      let draft_is : o.draft ≡ d = ap (λ (x : Opened). x.draft) k.made in
      let number_is : o.begun.number ≡ first.number = ap (λ (x : Opened). x.begun.number) k.made in
      record {
        read = subst (λ (x : Drafted). IsRead x frames) (sym draft_is) r;
        since = subst (λ (x : Drafted). Extends (scope_of d frames) (scope_of x frames)) (sym draft_is) (extends_itself (scope_of d frames));
        one = it.one;
        is = ap (λ (x : Drafted). slice_get x.routines o.begun.number) draft_is ∙ ap (λ (n : ℕ). slice_get d.routines n) number_is ∙ it.is;
        left = it.left;
        outer = it.outer;
        owner = it.free ∙ sym (ap (λ (x : Opened). x.begun.owner) k.made);
        result = ap (λ (x : Header). x.result) it.header_is ∙ sym (ap (λ (x : Opened). x.begun.header.result) k.made);
        params = ap (λ (x : Opened). map shape_of x.begun.header.params) k.made ∙ repeated_alike d.scope first.header one k.part k.holds ∙ sym (ap (λ (x : Header). map shape_of x.params) it.header_is);
      }

  pub plain_opened : (one : RoutineHeader) (o : Opened) → length o.draft.routines < 2 ^ 32 → (opened_of site d one).holds o → IsOpened d frames o
  unfolding opened_of
  plain_opened one o few k = by_awaited one o few (awaited_of d (name_of one).name) refl k

  -- ---- methods

  own_found : (ty : TypeId) (name : List ℕ) (found : Method) → (t : Option TypeDef) → definition d.scope.types.types ty ≡ t → own_method t name ≡ Some found
      → (place : ℕ) × (slice_get (methods_of (definition d.scope.types.types ty)) place ≡ Some found)
  own_found ty name found (Some (type.ObjectOf parent dynamic fields all)) is e =
      let it = listed_at all name found e in
      (it.0, ap (λ (t : Option TypeDef). slice_get (methods_of t) it.0) is ∙ it.1)
  own_found ty name found t is e = let bad : ⊥ = cc in absurd bad

  header_alike : (g : Environment) (first : Header) (one : MethodHeader) (params : List Param) → (header_repeated g first one).holds params → map shape_of params ≡ map shape_of first.params
  header_alike g first one params k = by (lacks_result one) k
    where
      by : (b : Bool) → cond b ((half_repeated (header_place one) (procedure_header g true (header_place one) kind.Procedure (groups_of one))).holds params) ((whole_repeated (header_place one) first (method_header g one)).holds params)
          → map shape_of params ≡ map shape_of first.params
      by true k = absurd k.made
      by false k = whole_alike (header_place one) first (method_header g one) params k

  awaited_slot : (slot : Option Numbered) (ty : TypeId) → is_awaited slot ty ≡ true → (one : Numbered) × (slot ≡ Some one) × (one.first.owner ≡ Some ty) × (one.done ≡ None)
  awaited_slot None ty e = let bad : ⊥ = cc in absurd bad
  awaited_slot (Some one) ty e =
      let both = and_parts (is_owner one.first.owner ty) (not (is_some one.done)) e in
      (one, refl, owned one.first.owner both.0, left_none one.done both.1)
    where
      owned : (o : Option TypeId) → is_owner o ty ≡ true → o ≡ Some ty
      owned None k = let bad : ⊥ = cc in absurd bad
      owned (Some owner) k =
          let same : owner.0 ≡ ty.0 = (Decides-eqb owner.0 ty.0).0 k in
          ap (λ (t : TypeId). Some t) (same_id owner ty same)

  no_outer : (o : Option ℕ) → not (is_some o) ≡ true → o ≡ None
  no_outer None e = refl
  no_outer (Some n) e = let bad : ⊥ = cc in absurd bad

  by_method : (one : MethodHeader) (ty : TypeId) (name : List ℕ) (o : Opened) → (m : Option Method) → own_method (definition d.scope.types.types ty) name ≡ m → (method_opened_by site d one ty m).holds o → IsOpened d frames o
  by_method one ty name o None is k = absurd k
  by_method one ty name o (Some found) is k =
      let both = and_parts (not (is_some site.outer)) (is_awaited (slice_get d.routines found.routine.number) ty) k.holds.asked in
      let slot = awaited_slot (slice_get d.routines found.routine.number) ty both.1 in
      let begun = k.made in
      let last = begun.made in
      let listed = own_found ty name found (definition d.scope.types.types ty) refl is in
      let header_is : slot.0.first.header ≡ found.header = r.methods found.routine.number listed.0 slot.0 ty found slot.1 slot.2 listed.1 refl in
      let tree = trees_at d.routines frames found.routine.number slot.0 slot.1 in
      let placed = r.known.placed found.routine.number tree.0 tree.1 in
      let owned : IsSome tree.0.owner = subst (λ (x : Option TypeId). IsSome x) (sym (tree.2.owner ∙ slot.2)) tt in
      let outermost : slot.0.first.outer ≡ None = sym tree.2.outer ∙ placed.outermost owned in
      let draft_is : o.draft ≡ d = ap (λ (x : Opened). x.draft) last.made in
      let number_is : o.begun.number ≡ found.routine.number = ap (λ (x : Opened). x.begun.number) last.made in
      record {
        read = subst (λ (x : Drafted). IsRead x frames) (sym draft_is) r;
        since = subst (λ (x : Drafted). Extends (scope_of d frames) (scope_of x frames)) (sym draft_is) (extends_itself (scope_of d frames));
        one = slot.0;
        is = ap (λ (x : Drafted). slice_get x.routines o.begun.number) draft_is ∙ ap (λ (n : ℕ). slice_get d.routines n) number_is ∙ slot.1;
        left = slot.3;
        outer = outermost ∙ sym (no_outer site.outer both.0) ∙ at.outer;
        owner = slot.2 ∙ sym (ap (λ (x : Opened). x.begun.owner) last.made);
        result = ap (λ (x : Header). x.result) header_is ∙ sym (ap (λ (x : Opened). x.begun.header.result) last.made);
        params = ap (λ (x : Opened). map shape_of x.begun.header.params) last.made ∙ header_alike d.scope found.header one begun.part begun.holds ∙ sym (ap (λ (x : Header). map shape_of x.params) header_is);
      }

  pub method_is_opened : (one : MethodHeader) (owner : Identifier) (o : Opened) → (method_opened site d one owner).holds o → IsOpened d frames o
  unfolding method_opened
  method_is_opened one owner o k = by_method one k.part (objects.name_of one).name o (own_method (definition d.scope.types.types k.part) (objects.name_of one).name) refl k.made
