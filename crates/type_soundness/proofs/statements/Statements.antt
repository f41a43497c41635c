-- Statements of a body.
use Rattle.std.proofs.Common.{◌≡◌, ℕ, Bool, true, false, List, [], ◌∷◌, ◌++◌, Some, None, refl, sym, ap, subst, ◌∙◌}
use Rattle.std.specs.Prelude.{ℤ, pos, Option, All}
use Rattle.std.specs.List.{list_any}
use Rattle.std.proofs.lemmas.List.Elements.{All-head, All-tail}
use Rattle.program_typing.specs.type_layout.declared.definitions.TypeId.{TypeId}
use Rattle.program_typing.specs.type_layout.declared.definitions.Host.{Host}
use Rattle.program_typing.specs.type_layout.declared.definitions.TypeDef.{TypeDef}
use Rattle.program_typing.specs.typed_tree.declared.expressions.Variable.{Variable}
use Rattle.program_typing.specs.typed_tree.declared.statements.Destructor.{Destructor}
use Rattle.program_typing.specs.typed_tree.declared.statements.Destructor.TheVariants as destructor
use Rattle.program_typing.specs.typed_tree.declared.units.Unit.{Unit as TypedUnit}
use Rattle.program_typing.specs.typed_tree.declared.units.Program.{Program}
use Rattle.program_typing.specs.typed_tree.Expressions.{Expression, Place, Arguments, type_of}
use Rattle.program_typing.specs.typed_tree.Statements.{Statement, Statements, Arms, Written, Taken, Assign, CopyAll, Run, If, While, Repeat, Block, Case, For, With, WriteItems, ReadItems, Halt, Exit, Unmake, NoStatements, Then, NoArms, Branch}
use Rattle.program_typing.specs.typed_tree.type_fits.Fits.{definition as definition_in, IsSome, stored_as, family_of, IsBoolean, IsInteger, IsObject, IsWritable}
use Rattle.program_typing.specs.well_formed.Scopes.{Others, Scope}
use Rattle.program_typing.specs.typed_tree.type_fits.Standard.{sort_of as sort_in_table}
use Rattle.program_typing.specs.well_formed.Typed.{IsTyped}
use Rattle.program_typing.specs.well_formed.WellFormed.{IsStatement, AreStatements, AreArms, IsCondition, IsCount, IsWidth}
use Rattle.program_typing.specs.common_values.Input.{after_line}
use Rattle.program_typing.specs.common_values.Written.{line_end}
use Rattle.program_typing.specs.tp_meaning.Trees.{Value, Ordinal}
use Rattle.program_typing.specs.tp_meaning.Programs.{Sort, definition, sort_in}
use Rattle.program_typing.specs.tp_meaning.Outcomes.{State, Outcome, Does, and_then, ◌>>=◌, ◌>>◌, give, found, changed, printed, spending}
use Rattle.program_typing.specs.tp_meaning.Activations.{Reached, Activation, assigned, copied}
use Rattle.program_typing.specs.tp_meaning.Calls.{Flow, Next, Left, Do, Turns, Runs}
use Rattle.program_typing.specs.tp_meaning.Standard.{text_of, field_text}
use Rattle.program_typing.specs.tp_meaning.Expressions.{value, place, operands, sort_of}
use Rattle.program_typing.specs.tp_meaning.Statements.{then_next, chosen, number, condition, covers, tested, width_of, written, line_written, taken_as, read, line_read, counter, is_past, turn, halted, with_held, statement, statements, branches, task}
use Rattle.program_typing.specs.store_typing.types.Agreement.{IsKnown}
use Rattle.program_typing.specs.store_typing.stores.Worlds.{Made, World}
use Rattle.program_typing.specs.store_typing.stores.Places.{IsPlaceOf, IsAt}
use Rattle.program_typing.specs.store_typing.stores.Stores.{Finds}
use Rattle.program_typing.proofs.store_typing_proofs.stores.Seen.{place_seen, place_above, value_joins}
use Rattle.program_typing.proofs.store_typing_proofs.stores.Steps.{assigns, copies}
use Rattle.program_typing.proofs.store_typing_proofs.operators.Stored.{ordinal_of_family}
use Rattle.program_typing.proofs.store_typing_proofs.operators.OperandKinds.{ordinal_value}
use Rattle.program_typing.proofs.store_typing_proofs.standard.Variables.{ordinal_simple}
use Rattle.program_typing.specs.lvalues.Frames.{IsActive, AreHeld}
use Rattle.program_typing.specs.programs.Outcomes.{IsTypedState, world, Ends}
use Rattle.program_typing.specs.programs.References.{Site, Refers}
use Rattle.program_typing.specs.programs.Statements.{RefersWidth, RefersWritten, RefersRead, RefersStatement, RefersStatements, RefersArms, RefersDestructor}
use Rattle.program_typing.specs.programs.WellTyped.{IsWellTyped}
use Rattle.program_typing.specs.programs.Tasks.{scope_with, IsBody, IsCounter, AreSound}
use Rattle.program_typing.specs.programs.Calls.{GivesAs, HasSoundCalls}
use Rattle.program_typing.proofs.programs.Ends.{ends_bind, ends_done, ends_found, ends_more, ends_changed, ends_spending}
use Rattle.type_soundness.proofs.expressions.Sorts.{known_type, HasSort, family_some, writable_some}
use Rattle.type_soundness.proofs.expressions.Chains.{Kept, chain}
use Rattle.type_soundness.proofs.expressions.Values.{ValueAt}
use Rattle.type_soundness.proofs.expressions.Places.{PlaceAt}
use Rattle.type_soundness.proofs.expressions.Operands.{sort_found, TakenBy}
use Rattle.type_soundness.proofs.expressions.Calls.{active_kept, place_kept}
use Rattle.type_soundness.proofs.expressions.Expressions.{joined, place_known, typed_known, sort_for, as_sort, value_ends, place_ends, taken_ends}
use Rattle.type_soundness.proofs.statements.Flows.{Ended, next_ends, chosen_ends, give_ends, changed_next, printed_ends, taking_ends, Holds, stored_family, number_held, truth_ends, tested_ends}
use Rattle.type_soundness.proofs.statements.Inputs.{line_bytes}
use Rattle.type_soundness.proofs.statements.Writes.{text_found, item_read}
use Rattle.type_soundness.proofs.statements.Loops.{counter_ends, turn_ends}
use Rattle.type_soundness.proofs.statements.Frees.{params_of, unmade_ends}

object_some : (o : Option TypeDef) → IsObject o → IsSome o
object_some None h = absurd h
object_some (Some one) h = tt

-- what one more `with` holds
held_more : (w : World) (unit : TypedUnit) (tys : List TypeId) (ats : List Reached) (ty : TypeId) (at : Reached) → AreHeld w unit tys ats → IsAt w at (sort_in unit ty) → AreHeld w unit (tys ++ ty ∷ []) (ats ++ at ∷ [])
held_more w unit [] [] ty at h is = (is, tt)
held_more w unit [] (a ∷ ats) ty at h is = absurd h
held_more w unit (t ∷ tys) [] ty at h is = absurd h
held_more w unit (t ∷ tys) (a ∷ ats) ty at h is = (h.0, held_more w unit tys ats ty at h.1 is)

pub with_active : (w : World) (f : Activation) (number : ℕ) (withs : List TypeId) (ty : TypeId) (at : Reached) → IsActive w f number withs → IsAt w at (sort_in f.unit ty) → IsActive w (with_held f at) number (withs ++ ty ∷ [])
with_active w f number withs ty at k is = record {
  listed = k.listed;
  levels = k.levels;
  held = held_more w f.unit withs f.withs ty at k.held is;
  globals = k.globals;
}

module _ (program : Program) (well : IsWellTyped program) (again : Runs) (calls : HasSoundCalls program again) (sound : AreSound program again) (number' : ℕ) (others : Others) where
  abbrev site : Activation → Site
  site f = record { program = program; unit = f.unit; number = number' }

  abbrev scope : Activation → List TypeId → Scope
  scope f withs = scope_with others (site f) withs

  module _ (f : Activation) (withs : List TypeId) where
    abbrev Body : List Made → Type 0
    Body made = IsActive (world program made) f number' withs

    abbrev active : Kept
    active = active_kept program f number' withs

    abbrev sort_at : TypeId → Sort
    sort_at ty = sort_in f.unit ty

    -- ---- numbers and conditions

    record OrdinalOf (e : Expression) : Type 0 where
      sort : HasSort program f.unit e
      host : Host
      stored : stored_as (definition (sort_at sort.ty)) ≡ Some host

    ordinal_sort : (made : List Made) → Body made → (e : Expression) → IsSome (family_of (sort_in_table f.unit.types.types e)) → OrdinalOf e
    ordinal_sort made k e some =
        let has = sort_for program well again calls f number' withs others made k e (family_some (sort_in_table f.unit.types.types e) some) in
        let host = ordinal_of_family (definition (sort_at has.ty)) (subst (λ (o : Option TypeDef). IsSome (family_of o)) has.same some) in
        record { sort = has; host = host.0; stored = host.1 }

    number_ends : (made : List Made) (e : Expression) (h : IsTyped (scope f withs) e) → Refers (site f) (scope f withs) e h → (o : OrdinalOf e) → (s : State) → Body made → IsTypedState (world program made) s
        → Ends (world program made) (λ w z. Holds o.host z) (number program again f e s)
    number_ends made e h r o s k typed =
        number_held (world program made) (sort_at o.sort.ty) o.host (value program again f e s) o.stored
        (as_sort program well again calls f number' withs others made e o.sort.ty (value program again f e s) o.sort.is (value_ends program well again calls f number' withs others made e h r s k typed))

    counted_sort : (made : List Made) → Body made → (e : Expression) → IsInteger (sort_in_table f.unit.types.types e) → OrdinalOf e
    counted_sort made k e is = ordinal_sort made k e (subst IsSome (sym is) tt)

    truth_sort : (made : List Made) → Body made → (e : Expression) → IsBoolean (sort_in_table f.unit.types.types e) → OrdinalOf e
    truth_sort made k e is = ordinal_sort made k e (stored_family (sort_in_table f.unit.types.types e) (subst IsSome (sym is) tt))

    condition_ends : (made : List Made) (e : Expression) (h : IsCondition (scope f withs) e) → Refers (site f) (scope f withs) e h.0 → (s : State) → Body made → IsTypedState (world program made) s
        → Ends (world program made) Ended (condition program again f e s)
    condition_ends made e h r s k typed =
        let o = truth_sort made k e h.1 in
        truth_ends (world program made) (Holds o.host) (number program again f e s) (number_ends made e h.0 r o s k typed)

    -- a number, of which nothing is said
    count_ends : (made : List Made) (e : Expression) (h : IsCount (scope f withs) e) → Refers (site f) (scope f withs) e h.0 → (s : State) → Body made → IsTypedState (world program made) s
        → Ends (world program made) Ended (number program again f e s)
    count_ends made e h r s k typed =
        let o = counted_sort made k e h.1 in
        ends_more (λ w z. Holds o.host z) (world program made) Ended (number program again f e s) (λ more z is. tt) (number_ends made e h.0 r o s k typed)

    -- ---- assignments

    assign_ends : (made : List Made) (to : Place) (from : Expression) (h : IsStatement (scope f withs) (Assign to from)) → RefersStatement (site f) (scope f withs) (Assign to from) h → (s : State) → Body made → IsTypedState (world program made) s
        → Ends (world program made) Ended (statement program again f (Assign to from) s)
    assign_ends made to from h r s k typed =
        let j = joined (scope f withs) h.ty (type_of from) h.takes in
        let kg = typed_known program well again calls f number' withs others made k from j.given h.typed j.is in
        let kt = place_known program well again calls f number' withs others made k to h.ty h.place in
        chain program active (PlaceAt (sort_at h.ty)) Ended made (place program again f to s) (λ at. value program again f from >>= λ v. changed (assigned at v) >> give Next) k
        (place_ends program well again calls f number' withs others made to h.ty h.place r.0 s k typed) (λ made1 at s1 k1 typed1 is.
        chain program (place_kept program at (sort_at h.ty)) (ValueAt (sort_at j.given)) Ended made1 (value program again f from s1) (λ v. changed (assigned at v) >> give Next) is
        (as_sort program well again calls f number' withs others made1 from j.given (value program again f from s1) j.is (value_ends program well again calls f number' withs others made1 from h.typed r.1 s1 k1 typed1)) (λ made2 v s2 is2 typed2 v_is.
        changed_next (world program made2) (assigned at v) s2 typed2
        (assigns (world program made2) well.agreed s2.store typed2.store at (sort_at h.ty) v is2 h.simple (value_joins (world program made2) well.agreed (sort_at j.given) h.ty j.given kt kg v j.joins v_is))))

    copy_ends : (made : List Made) (to from : Place) (h : IsStatement (scope f withs) (CopyAll to from)) → RefersStatement (site f) (scope f withs) (CopyAll to from) h → (s : State) → Body made → IsTypedState (world program made) s
        → Ends (world program made) Ended (statement program again f (CopyAll to from) s)
    copy_ends made to from h r s k typed =
        let kg = place_known program well again calls f number' withs others made k from h.given h.source in
        let kt = place_known program well again calls f number' withs others made k to h.ty h.target in
        chain program active (PlaceAt (sort_at h.ty)) Ended made (place program again f to s) (λ at. place program again f from >>= λ of. changed (copied at of.spot) >> give Next) k
        (place_ends program well again calls f number' withs others made to h.ty h.target r.0 s k typed) (λ made1 at s1 k1 typed1 is.
        chain program (place_kept program at (sort_at h.ty)) (PlaceAt (sort_at h.given)) Ended made1 (place program again f from s1) (λ of. changed (copied at of.spot) >> give Next) is
        (place_ends program well again calls f number' withs others made1 from h.given h.source r.1 s1 k1 typed1) (λ made2 of s2 is2 typed2 of_is.
        let w : World = world program made2 in
        let source : IsPlaceOf w of.spot (sort_at h.ty) = place_above w well.agreed of.spot (sort_at h.given) h.ty kg kt h.joins (place_seen w well.agreed of.spot of.sort (sort_at h.given) of_is.same of_is.place) in
        changed_next w (copied at of.spot) s2 typed2 (copies w well.agreed s2.store typed2.store at (sort_at h.ty) of.spot is2 h.structured source)))

    -- ---- Write

    width_ends : (made : List Made) (width : Option Expression) (h : IsWidth (scope f withs) width) → RefersWidth (site f) (scope f withs) width h → (s : State) → Body made → IsTypedState (world program made) s
        → Ends (world program made) Ended (width_of program again f width s)
    width_ends made None h r s k typed = ends_done Ended (world program made) (pos 0) s typed tt
    width_ends made (Some width) h r s k typed = count_ends made width h r s k typed

    item_written : (made : List Made) (item : Written) → RefersWritten (site f) (scope f withs) item → (go : Does (Unit {0})) (s : State) → Body made → IsTypedState (world program made) s
        → ((made' : List Made) (t : State) → Body made' → IsTypedState (world program made') t → Ends (world program made') Ended (go t))
        → Ends (world program made) Ended
        ((sort_of f item.value >>= λ sort. value program again f item.value >>= λ v. width_of program again f item.width >>= λ width. found (text_of (definition sort) v) >>= λ text. printed (field_text width text) >> go) s)
    item_written made item r go s k typed next =
        let has = sort_for program well again calls f number' withs others made k item.value (writable_some (sort_in_table f.unit.types.types item.value) r.is.sort) in
        let sort : Sort = sort_at has.ty in
        let may = subst IsWritable has.same r.is.sort in
        let rest : Value → ℤ → Does (Unit {0}) = λ v width. found (text_of (definition sort) v) >>= λ text. printed (field_text width text) >> go in
        subst (λ (o : Outcome Sort). Ends (world program made) Ended (and_then o (λ sort. value program again f item.value >>= λ v. width_of program again f item.width >>= λ width. found (text_of (definition sort) v) >>= λ text. printed (field_text width text) >> go)))
        (sym (sort_found f item.value has.ty has.is s))
        (chain program active (ValueAt sort) Ended made (value program again f item.value s) (λ v. width_of program again f item.width >>= rest v) k
        (as_sort program well again calls f number' withs others made item.value has.ty (value program again f item.value s) has.is (value_ends program well again calls f number' withs others made item.value r.is.value r.value s k typed)) (λ made1 v s1 k1 typed1 is.
        let told : Finds (λ (text : List ℕ). Unit {0}) (text_of (definition sort) v) = text_found (world program made1) sort (definition sort) v may is in
        chain program active Ended Ended made1 (width_of program again f item.width s1) (rest v) k1 (width_ends made1 item.width r.is.width r.width s1 k1 typed1) (λ made2 width s2 k2 typed2 x.
        chain program active Ended Ended made2 (found (text_of (definition sort) v) s2) (λ text. printed (field_text width text) >> go) k2
        (ends_found Ended (world program made2) (text_of (definition sort) v) s2 typed2 told) (λ made3 text s3 k3 typed3 x.
        chain program active Ended Ended made3 (printed (field_text width text) s3) (λ u. go) k3 (printed_ends (world program made3) (field_text width text) s3 typed3) (λ made4 u s4 k4 typed4 x. next made4 s4 k4 typed4)))))

    written_ends : (made : List Made) (items : List Written) → All (RefersWritten (site f) (scope f withs)) items → (s : State) → Body made → IsTypedState (world program made) s → Ends (world program made) Ended (written program again f items s)
    written_ends made [] r s k typed = ends_done Ended (world program made) tt s typed tt
    written_ends made (item ∷ items) r s k typed =
        item_written made item (All-head (RefersWritten (site f) (scope f withs)) item items r) (written program again f items) s k typed
        (λ made' t k' typed'. written_ends made' items (All-tail (RefersWritten (site f) (scope f withs)) item items r) t k' typed')

    line_ends : (made : List Made) (line : Bool) (s : State) → IsTypedState (world program made) s → Ends (world program made) Ended (line_written line s)
    line_ends made true s typed = ends_done Ended (world program made) Next (record s { out = s.out ++ line_end }) (record { store = typed.store; input = typed.input }) tt
    line_ends made false s typed = ends_done Ended (world program made) Next s typed tt

    -- ---- Read

    read_ends : (made : List Made) (items : List Taken) → All (RefersRead (site f) (scope f withs)) items → (s : State) → Body made → IsTypedState (world program made) s → Ends (world program made) Ended (read program again f items s)
    read_ends made [] r s k typed = ends_done Ended (world program made) tt s typed tt
    read_ends made (item ∷ items) r s k typed =
        let one = All-head (RefersRead (site f) (scope f withs)) item items r in
        chain program active (PlaceAt (sort_at item.ty)) Ended made (place program again f item.at s) (λ at. taken_as item.checked at (definition (sort_at item.ty)) >> read program again f items) k
        (place_ends program well again calls f number' withs others made item.at item.ty one.is.place one.place s k typed) (λ made1 at s1 k1 typed1 is.
        chain program active Ended Ended made1 (taken_as item.checked at (definition (sort_at item.ty)) s1) (λ u. read program again f items) k1 (item_read program well.agreed made1 item.checked at (sort_at item.ty) s1 is typed1 one.is.sort) (λ made2 u s2 k2 typed2 x.
        read_ends made2 items (All-tail (RefersRead (site f) (scope f withs)) item items r) s2 k2 typed2))

    line_taken : (made : List Made) (line : Bool) (s : State) → IsTypedState (world program made) s → Ends (world program made) Ended (line_read line s)
    line_taken made true s typed = taking_ends (world program made) (λ flow. Unit {0}) (λ input. (Next, after_line input)) s typed tt (line_bytes s.input typed.input)
    line_taken made false s typed = ends_done Ended (world program made) Next s typed tt

    -- ---- For

    begin_ends : (variable : Variable) (ty : TypeId) (down : Bool) (body : Statement) → IsCounter (site f) withs variable ty → (h : Host) → stored_as (definition (sort_at ty)) ≡ Some h → IsBody (site f) withs body
        → (made : List Made) (low high : ℤ) (s : State) → Holds h low → Body made → IsTypedState (world program made) s
        → ((made' : List Made) (t : State) → Body made' → IsTypedState (world program made') t → Ends (world program made') Ended (statement program again f body t))
        → Ends (world program made) Ended ((counter program f variable >>= λ at. changed (assigned at (Ordinal low)) >> turn program again f variable high down body (statement program again f body)) s)
    begin_ends variable ty down body is h stored is_body made low high s held k typed runs =
        chain program active (PlaceAt (sort_at ty)) Ended made (counter program f variable s) (λ at. changed (assigned at (Ordinal low)) >> turn program again f variable high down body (statement program again f body)) k
        (counter_ends program well.agreed again sound f number' withs variable ty is h stored made s k typed) (λ made1 at s1 k1 typed1 at_is.
        chain program active Ended Ended made1 (changed (assigned at (Ordinal low)) s1) (λ u. turn program again f variable high down body (statement program again f body)) k1
        (ends_changed (world program made1) (assigned at (Ordinal low)) s1 typed1 (assigns (world program made1) well.agreed s1.store typed1.store at (sort_at ty) (Ordinal low) at_is (ordinal_simple (definition (sort_at ty)) h stored) (ordinal_value (world program made1) (sort_at ty) h low stored held)))
        (λ made2 u s2 k2 typed2 x. turn_ends program well.agreed again sound f number' withs variable ty is h stored made2 high down body (statement program again f body) s2 is_body k2 typed2 (λ t typed'. runs made2 t k2 typed')))

    for_ends : (made : List Made) (variable : Variable) (ty : TypeId) (from to : Expression) (down checked : Bool) (body : Statement) (h : IsStatement (scope f withs) (For variable ty from to down checked body))
        → RefersStatement (site f) (scope f withs) (For variable ty from to down checked body) h → (s : State) → Body made → IsTypedState (world program made) s
        → ((made' : List Made) (t : State) → Body made' → IsTypedState (world program made') t → Ends (world program made') Ended (statement program again f body t))
        → Ends (world program made) Ended (statement program again f (For variable ty from to down checked body) s)
    for_ends made variable ty from to down checked body h r s k typed runs =
        let bounded = h.0 in
        let is : IsCounter (site f) withs variable ty = record { others = others; has = bounded.has; names = r.0; ordinal = bounded.first_like.ordinal } in
        let a = ordinal_sort made k from (stored_family (sort_in_table f.unit.types.types from) (subst IsSome bounded.first_like.same bounded.first_like.ordinal)) in
        let b = ordinal_sort made k to (stored_family (sort_in_table f.unit.types.types to) (subst IsSome bounded.last_like.same bounded.last_like.ordinal)) in
        let stored : stored_as (definition (sort_at ty)) ≡ Some a.host = bounded.first_like.same ∙ ap stored_as a.sort.same ∙ a.stored in
        let is_body : IsBody (site f) withs body = record { others = others; typed = h.1; refers = r.3 } in
        let bounds : Option TypeDef = definition (sort_at ty) in
        let turns : ℤ → ℤ → Does Flow = λ low high. counter program f variable >>= λ at. changed (assigned at (Ordinal low)) >> turn program again f variable high down body (statement program again f body) in
        let looping : ℤ → ℤ → Does Flow = λ first last. tested checked bounds first >>= λ low. tested checked bounds last >>= λ high. turns low high in
        chain program active (λ w z. Holds a.host z) Ended made (number program again f from s) (λ first. number program again f to >>= λ last. chosen (is_past down first last) (give Next) (looping first last)) k
        (number_ends made from bounded.first r.1 a s k typed) (λ made1 first s1 k1 typed1 first_held.
        chain program active Ended Ended made1 (number program again f to s1) (λ last. chosen (is_past down first last) (give Next) (looping first last)) k1
        (ends_more (λ w z. Holds b.host z) (world program made1) Ended (number program again f to s1) (λ more z x. tt) (number_ends made1 to bounded.last r.2 b s1 k1 typed1)) (λ made2 last s2 k2 typed2 x.
        chosen_ends (world program made2) (is_past down first last) (give Next) (looping first last) s2
        (ends_done Ended (world program made2) Next s2 typed2 tt)
        (chain program active (λ w z. Holds a.host z) Ended made2 (tested checked bounds first s2) (λ low. tested checked bounds last >>= λ high. turns low high) k2 (tested_ends (world program made2) (Holds a.host) checked bounds first s2 typed2 first_held) (λ made3 low s3 k3 typed3 low_held.
        chain program active Ended Ended made3 (tested checked bounds last s3) (λ high. turns low high) k3 (tested_ends (world program made3) (λ z. Unit {0}) checked bounds last s3 typed3 tt) (λ made4 high s4 k4 typed4 x.
        begin_ends variable ty down body is a.host stored is_body made4 low high s4 low_held k4 typed4 runs)))))

    -- ---- loops and conditions, whose parts are sound

    again_ends : (made : List Made) (one : Statement) (h : IsStatement (scope f withs) one) → RefersStatement (site f) (scope f withs) one h → (s : State) → Body made → IsTypedState (world program made) s → Ends (world program made) Ended (again (Do one) f s)
    again_ends made one h r s k typed = sound made f number' withs (Do one) s k (record { others = others; typed = h; refers = r }) typed

    while_ends : (made : List Made) (test : Expression) (body : Statement) (h : IsStatement (scope f withs) (While test body)) → RefersStatement (site f) (scope f withs) (While test body) h → (s : State) → Body made → IsTypedState (world program made) s
        → ((made' : List Made) (t : State) → Body made' → IsTypedState (world program made') t → Ends (world program made') Ended (statement program again f body t))
        → Ends (world program made) Ended (statement program again f (While test body) s)
    while_ends made test body h r s k typed runs =
        let turn_of : Does Flow = statement program again f body >>= λ flow. then_next flow (again (Do (While test body)) f) in
        chain program active Ended Ended made (condition program again f test s) (λ b. chosen b (spending turn_of) (give Next)) k (condition_ends made test h.0 r.0 s k typed) (λ made1 b s1 k1 typed1 x.
        chosen_ends (world program made1) b (spending turn_of) (give Next) s1
        (ends_spending Ended (world program made1) turn_of s1 typed1 (λ s2 typed2.
        chain program active Ended Ended made1 (statement program again f body s2) (λ flow. then_next flow (again (Do (While test body)) f)) k1 (runs made1 s2 k1 typed2) (λ made3 flow s3 k3 typed3 x.
        next_ends (world program made3) flow (again (Do (While test body)) f) s3 typed3 (λ typed4. again_ends made3 (While test body) h r s3 k3 typed4))))
        (give_ends (world program made1) Next s1 typed1))

    repeat_ends : (made : List Made) (body : Statement) (test : Expression) (h : IsStatement (scope f withs) (Repeat body test)) → RefersStatement (site f) (scope f withs) (Repeat body test) h → (s : State) → Body made → IsTypedState (world program made) s
        → ((made' : List Made) (t : State) → Body made' → IsTypedState (world program made') t → Ends (world program made') Ended (statement program again f body t))
        → Ends (world program made) Ended (statement program again f (Repeat body test) s)
    repeat_ends made body test h r s k typed runs =
        let tested_end : Does Flow = condition program again f test >>= λ b. chosen b (give Next) (again (Do (Repeat body test)) f) in
        ends_spending Ended (world program made) (statement program again f body >>= λ flow. then_next flow tested_end) s typed (λ s1 typed1.
        chain program active Ended Ended made (statement program again f body s1) (λ flow. then_next flow tested_end) k (runs made s1 k typed1) (λ made2 flow s2 k2 typed2 x.
        next_ends (world program made2) flow tested_end s2 typed2 (λ typed3.
        chain program active Ended Ended made2 (condition program again f test s2) (λ b. chosen b (give Next) (again (Do (Repeat body test)) f)) k2 (condition_ends made2 test h.1 r.1 s2 k2 typed3) (λ made4 b s4 k4 typed4 x.
        chosen_ends (world program made4) b (give Next) (again (Do (Repeat body test)) f) s4 (give_ends (world program made4) Next s4 typed4) (again_ends made4 (Repeat body test) h r s4 k4 typed4)))))

    -- the arguments of a destructor
    arguments_ends : (made : List Made) (class : TypeId) (with : Destructor) (args : Arguments) (r : RefersDestructor (site f) (scope f withs) class with args) (s : State) → Body made → IsTypedState (world program made) s
        → Ends (world program made) (TakenBy f.unit (params_of program well.agreed well.classes again calls f number' withs (scope f withs) class with args r)) (operands program again f args s)
    arguments_ends made class (destructor.Routine routine) args r s k typed = taken_ends program well again calls f number' withs others made r.calls.header.params args r.calls.takes.0 r.calls.takes.1 s k typed
    arguments_ends made class (destructor.Slot slot checked) args r s k typed = taken_ends program well again calls f number' withs others made r.method.header.params args r.takes.0 r.takes.1 s k typed

    unmake_ends : (made : List Made) (pointer : Expression) (with : Destructor) (args : Arguments) (h : IsStatement (scope f withs) (Unmake pointer with args)) → RefersStatement (site f) (scope f withs) (Unmake pointer with args) h → (s : State)
        → Body made → IsTypedState (world program made) s → Ends (world program made) Ended (statement program again f (Unmake pointer with args) s)
    unmake_ends made pointer with args h r s k typed =
        let has = sort_for program well again calls f number' withs others made k pointer (subst IsSome (sym h.points) tt) in
        let ks : IsKnown program (sort_at h.class) = known_type program f.unit k.listed h.class (object_some (definition_in f.unit.types.types h.class) h.object) in
        unmade_ends program well.agreed well.classes again calls f number' withs (scope f withs) made has.ty h.class with args r.2 (value program again f pointer s) (sort_of f pointer) (operands program again f args) (sym has.same ∙ h.points) ks r.0
        (sort_found f pointer has.ty has.is) k
        (as_sort program well again calls f number' withs others made pointer has.ty (value program again f pointer s) has.is (value_ends program well again calls f number' withs others made pointer h.typed r.1 s k typed))
        (λ made' t k' typed'. arguments_ends made' h.class with args r.2 t k' typed')

  -- ---- all forms

  mutual
    pub statement_ends : (f : Activation) (withs : List TypeId) (made : List Made) (one : Statement) (h : IsStatement (scope f withs) one) → RefersStatement (site f) (scope f withs) one h → (s : State)
        → IsActive (world program made) f number' withs → IsTypedState (world program made) s → Ends (world program made) Ended (statement program again f one s)
    statement_ends f withs made (Assign to from) h r s k typed = assign_ends f withs made to from h r s k typed
    statement_ends f withs made (CopyAll to from) h r s k typed = copy_ends f withs made to from h r s k typed
    statement_ends f withs made (Run call) h r s k typed =
        ends_bind (GivesAs f.unit (type_of call)) (world program made) Ended (value program again f call s) (λ v. give Next) (value_ends program well again calls f number' withs others made call h.0 r s k typed)
        (λ more v t typed' is. give_ends (world program (made ++ more)) Next t typed')
    statement_ends f withs made (If test taken other) h r s k typed =
        chain program (active_kept program f number' withs) Ended Ended made (condition program again f test s) (λ b. chosen b (statement program again f taken) (statement program again f other)) k (condition_ends f withs made test h.0 r.0 s k typed) (λ made' b t k' typed' x.
        chosen_ends (world program made') b (statement program again f taken) (statement program again f other) t (statement_ends f withs made' taken h.1 r.1 t k' typed') (statement_ends f withs made' other h.2 r.2 t k' typed'))
    statement_ends f withs made (While test body) h r s k typed = while_ends f withs made test body h r s k typed (λ made' t k' typed'. statement_ends f withs made' body h.1 r.1 t k' typed')
    statement_ends f withs made (Repeat body test) h r s k typed = repeat_ends f withs made body test h r s k typed (λ made' t k' typed'. statement_ends f withs made' body h.0 r.0 t k' typed')
    statement_ends f withs made (Block parts) h r s k typed = statements_ends f withs made parts h r s k typed
    statement_ends f withs made (Case selector arms other) h r s k typed =
        let o = ordinal_sort f withs made k selector h.1 in
        chain program (active_kept program f number' withs) (λ w z. Holds o.host z) Ended made (number program again f selector s) (λ z. branches program again f arms z (statement program again f other)) k (number_ends f withs made selector h.0 r.0 o s k typed) (λ made' z t k' typed' x.
        branches_ends f withs made' arms h.2 r.1 z (statement program again f other) t k' typed' (statement_ends f withs made' other h.3 r.2 t k' typed'))
    statement_ends f withs made (For variable ty from to down checked body) h r s k typed = for_ends f withs made variable ty from to down checked body h r s k typed (λ made' t k' typed'. statement_ends f withs made' body h.1 r.3 t k' typed')
    statement_ends f withs made (With of body) h r s k typed =
        chain program (active_kept program f number' withs) (PlaceAt (sort_in f.unit h.0)) Ended made (place program again f of s) (λ at. statement program again (with_held f at) body) k (place_ends program well again calls f number' withs others made of h.0 h.1 r.0 s k typed) (λ made' at t k' typed' is.
        statement_ends (with_held f at) (withs ++ h.0 ∷ []) made' body h.3 r.1 t (with_active (world program made') f number' withs h.0 at k' is) typed')
    statement_ends f withs made (WriteItems items line) h r s k typed =
        chain program (active_kept program f number' withs) Ended Ended made (written program again f items s) (λ u. line_written line) k (written_ends f withs made items r s k typed) (λ made' u t k' typed' x. line_ends f withs made' line t typed')
    statement_ends f withs made (ReadItems items line) h r s k typed =
        chain program (active_kept program f number' withs) Ended Ended made (read program again f items s) (λ u. line_read line) k (read_ends f withs made items r s k typed) (λ made' u t k' typed' x. line_taken f withs made' line t typed')
    statement_ends f withs made (Halt code) h r s k typed = ends_bind Ended (world program made) Ended (number program again f code s) halted (count_ends f withs made code h r s k typed) (λ more z t typed' x. tt)
    statement_ends f withs made Exit h r s k typed = give_ends (world program made) Left s typed
    statement_ends f withs made (Unmake pointer with args) h r s k typed = unmake_ends f withs made pointer with args h r s k typed

    statements_ends : (f : Activation) (withs : List TypeId) (made : List Made) (parts : Statements) (h : AreStatements (scope f withs) parts) → RefersStatements (site f) (scope f withs) parts h → (s : State)
        → IsActive (world program made) f number' withs → IsTypedState (world program made) s → Ends (world program made) Ended (statements program again f parts s)
    statements_ends f withs made NoStatements h r s k typed = give_ends (world program made) Next s typed
    statements_ends f withs made (Then one rest) h r s k typed =
        chain program (active_kept program f number' withs) Ended Ended made (statement program again f one s) (λ flow. then_next flow (statements program again f rest)) k (statement_ends f withs made one h.0 r.0 s k typed) (λ made' flow t k' typed' x.
        next_ends (world program made') flow (statements program again f rest) t typed' (λ typed''. statements_ends f withs made' rest h.1 r.1 t k' typed''))

    branches_ends : (f : Activation) (withs : List TypeId) (made : List Made) (arms : Arms) (h : AreArms (scope f withs) arms) → RefersArms (site f) (scope f withs) arms h → (z : ℤ) (other : Does Flow) (s : State)
        → IsActive (world program made) f number' withs → IsTypedState (world program made) s → Ends (world program made) Ended (other s) → Ends (world program made) Ended (branches program again f arms z other s)
    branches_ends f withs made NoArms h r z other s k typed rest = rest
    branches_ends f withs made (Branch labels body arms) h r z other s k typed rest =
        chosen_ends (world program made) (list_any (covers z) labels) (statement program again f body) (branches program again f arms z other) s (statement_ends f withs made body h.1 r.0 s k typed) (branches_ends f withs made arms h.2 r.1 z other s k typed rest)

-- ---- tasks

-- the type of a counter is an ordinal
counter_host : (o : Option TypeDef) → IsSome (stored_as o) → (h : Host) × (stored_as o ≡ Some h)
counter_host o some = by (stored_as o) refl some where
  by : (x : Option Host) → stored_as o ≡ x → IsSome x → (h : Host) × (stored_as o ≡ Some h)
  by None e some = absurd some
  by (Some h) e some = (h, e)

-- a task is sound where tasks with fewer turns are
pub task_ends : (program : Program) → IsWellTyped program → (again : Runs) → HasSoundCalls program again → AreSound program again → AreSound program (task program again)
task_ends program well again calls sound made f number withs (Do one) s k is typed =
    statement_ends program well again calls sound number is.others f withs made one is.typed is.refers s k typed
task_ends program well again calls sound made f number withs (Turns variable last down body) s k is typed =
    let counter = is.0.1 in
    let host = counter_host (definition (sort_in f.unit is.0.0)) counter.ordinal in
    turn_ends program well.agreed again sound f number withs variable is.0.0 counter host.0 host.1 made last down body (statement program again f body) s is.1 k typed (λ t typed'.
    let body_is = is.1 in statement_ends program well again calls sound number body_is.others f withs made body body_is.typed body_is.refers t k typed')
