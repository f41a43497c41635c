-- Statements refer to what they say.
use Rattle.std.proofs.Common.{◌≡◌, ◌⊎◌, inl, inr, ℕ, true, List, [], ◌∷◌, ◌++◌, Option, Some, None, is_some, sym, ap, subst, ◌∙◌}
use Rattle.std.specs.Prelude.{All, slice_get}
use Rattle.std.proofs.lemmas.List.Elements.{All-nil, All-head, All-tail, All-cons}
use Rattle.type_soundness.specs.type_layout.declared.definitions.TypeId.{TypeId}
use Rattle.type_soundness.specs.type_layout.declared.definitions.RoutineId.{RoutineId}
use Rattle.type_soundness.specs.type_layout.Table.{IsObject}
use Rattle.type_soundness.specs.typed_tree.declared.statements.Destructor.{Destructor}
use Rattle.type_soundness.specs.typed_tree.declared.statements.Destructor.TheVariants as destructor
use Rattle.type_soundness.specs.typed_tree.declared.units.Unit.{Unit as TypedUnit}
use Rattle.type_soundness.specs.typed_tree.declared.units.Program.{Program}
use Rattle.type_soundness.specs.typed_tree.Expressions.{Expression, Arguments}
use Rattle.type_soundness.specs.typed_tree.Statements.{Statement, Statements, Arms, Written, Taken, Assign, CopyAll, Run, If, While, Repeat, Block, Case, For, With, WriteItems, ReadItems, Halt, Exit, Unmake, NoStatements, Then, NoArms, Branch}
use Rattle.type_soundness.specs.well_formed.Scopes.{Prototype, Scope}
use Rattle.type_soundness.specs.well_formed.Typed.{TakeEach}
use Rattle.type_soundness.specs.well_formed.WellFormed.{IsStatement, AreStatements, AreArms, IsWidth, IsWritten, IsTaken, IsDestructor, IsDestructorOf}
use Rattle.type_soundness.specs.tp_meaning.Shapes.{parts_at, class_place}
use Rattle.type_soundness.specs.store_typing.types.Declared.{DeclaredHeader}
use Rattle.type_soundness.specs.store_typing.types.Agreement.{IsUnit}
use Rattle.type_soundness.specs.program_typing.programs.References.{Site, IsOwned}
use Rattle.type_soundness.specs.program_typing.programs.Statements.{RefersWidth, RefersWritten, RefersRead, TakesAll, RefersDestructor, RefersStatement, RefersStatements, RefersArms}
use Rattle.type_soundness.specs.program_typing.programs.WellTyped.{NeedsClass}
use Rattle.unit_references.specs.Units.{HasSoundUnits}
use Rattle.unit_references.specs.Laws.{site_in, scope_at}
use Rattle.unit_references.proofs.Classes.{slot_class}
use Rattle.unit_references.proofs.Routines.{Leads, Overlaid, Found, names_global, found, calls_of}
use Rattle.unit_references.proofs.Owners.{object_of, owned_object, owned_class}
use Rattle.unit_references.proofs.Values.{value_refers, place_refers, taken_refer}

no_none : (o : Option TypeId) (owner : TypeId) → o ≡ None → o ≡ Some owner → ⊥
no_none o owner e f = cc

module _ (program : Program) (sound : HasSoundUnits program) (unit : TypedUnit) (listed : IsUnit program unit) (number : ℕ) where
  abbrev site : Site
  site = site_in program unit number

  abbrev scope : List TypeId → Scope
  scope withs = scope_at program unit (sound.supported unit listed) number withs

  width_refers : (withs : List TypeId) (width : Option Expression) (h : IsWidth (scope withs) width) → RefersWidth site (scope withs) width h
  width_refers withs None h = tt
  width_refers withs (Some width) h = value_refers program sound unit listed number withs width h.0

  written_refer : (withs : List TypeId) (items : List Written) → All (IsWritten (scope withs)) items → All (RefersWritten site (scope withs)) items
  written_refer withs [] h = All-nil (RefersWritten site (scope withs))
  written_refer withs (item ∷ items) h =
      let is = All-head (IsWritten (scope withs)) item items h in
      All-cons (RefersWritten site (scope withs)) item items
      (record { is = is; value = value_refers program sound unit listed number withs item.value is.value; width = width_refers withs item.width is.width })
      (written_refer withs items (All-tail (IsWritten (scope withs)) item items h))

  read_refer : (withs : List TypeId) (items : List Taken) → All (IsTaken (scope withs)) items → All (RefersRead site (scope withs)) items
  read_refer withs [] h = All-nil (RefersRead site (scope withs))
  read_refer withs (item ∷ items) h =
      let is = All-head (IsTaken (scope withs)) item items h in
      All-cons (RefersRead site (scope withs)) item items (record { is = is; place = place_refers program sound unit listed number withs item.at item.ty is.place })
      (read_refer withs items (All-tail (IsTaken (scope withs)) item items h))

  -- ---- destructors

  -- what a destructor asks of the routine that it names
  abbrev Unmaking : List TypeId → TypeId → Arguments → Prototype → Type 0
  Unmaking withs class args one = IsDestructorOf unit.types.types class one × TakeEach (scope withs) one.header.params args

  -- an instance has a class, and the destructor takes it and the arguments
  abbrev Unmade : List TypeId → TypeId → Destructor → Arguments → Type 0
  Unmade withs class with args = (is_some (class_place (parts_at unit.types.types class)) ≡ true) × RefersDestructor site (scope withs) class with args

  routine_refers : (withs : List TypeId) (class : TypeId) (routine : RoutineId) (args : Arguments) → IsObject (slice_get unit.types.types class.0) → (f : Found (Unmaking withs class args) site (scope withs).around routine)
      → Leads site (scope withs).around routine f.seen ⊎ Overlaid site routine f.seen → Unmade withs class (destructor.Routine routine) args
  routine_refers withs class routine args object f (inl l) =
      let h = f.asked in
      let unmakes = h.0 in
      let kinds : f.seen.header.kind ≡ l.callee.routine.header.kind = ap (λ (d : DeclaredHeader). d.kind) l.header in
      let needs : NeedsClass l.callee.routine.header.kind = subst NeedsClass (sym unmakes.kind ∙ kinds) tt in (
        owned_class program sound unit listed number (scope withs).around routine f.seen l unmakes.owner unmakes.owned class unmakes.inherited needs,
        calls_of (IsOwned site class) (TakesAll site (scope withs) args) site (scope withs).around routine f.seen l (λ none. absurd (no_none f.seen.owner unmakes.owner none unmakes.owned))
            (owned_object program sound unit listed number (scope withs).around routine f.seen l unmakes.owner unmakes.owned class object unmakes.inherited)
            (h.1, taken_refer program sound unit listed number withs f.seen.header.params args h.1),
      )
  routine_refers withs class routine args object f (inr o) =
      let h = f.asked in
      let unmakes = h.0 in
      let one = o.one in
      absurd (no_none f.seen.owner unmakes.owner one.free unmakes.owned)

  destructor_refers : (withs : List TypeId) (class : TypeId) (with : Destructor) (args : Arguments) → IsObject (slice_get unit.types.types class.0) → IsDestructor (scope withs) class with args → Unmade withs class with args
  destructor_refers withs class (destructor.Routine routine) args object h =
      let f = found program sound unit listed number withs (Unmaking withs class args) routine h in
      routine_refers withs class routine args object f f.leads
  destructor_refers withs class (destructor.Slot slot checked) args object h =
      let part = slot_class unit.types.types (sound.marked unit listed) class slot h.0 h.1 in
      (part, record { part = part; method = h.0; is = h.1; takes = (h.2, taken_refer program sound unit listed number withs h.0.header.params args h.2) })

  -- ---- all forms

  mutual
    pub statement_refers : (withs : List TypeId) (one : Statement) (h : IsStatement (scope withs) one) → RefersStatement site (scope withs) one h
    statement_refers withs (Assign at value) h = (place_refers program sound unit listed number withs at h.ty h.place, value_refers program sound unit listed number withs value h.typed)
    statement_refers withs (CopyAll to from) h =
        (place_refers program sound unit listed number withs to h.ty h.target, place_refers program sound unit listed number withs from h.given h.source)
    statement_refers withs (Run call) h = value_refers program sound unit listed number withs call h.0
    statement_refers withs (If condition taken otherwise) h =
        (value_refers program sound unit listed number withs condition h.0.0, statement_refers withs taken h.1, statement_refers withs otherwise h.2)
    statement_refers withs (While condition body) h = (value_refers program sound unit listed number withs condition h.0.0, statement_refers withs body h.1)
    statement_refers withs (Repeat body condition) h = (statement_refers withs body h.0, value_refers program sound unit listed number withs condition h.1.0)
    statement_refers withs (Block statements) h = statements_refer withs statements h
    statement_refers withs (Case selector arms other) h = (value_refers program sound unit listed number withs selector h.0, arms_refer withs arms h.2, statement_refers withs other h.3)
    statement_refers withs (For variable ty from to down checked body) h =
        let bounded = h.0 in (
          names_global program sound unit listed number withs variable ty bounded.has,
          value_refers program sound unit listed number withs from bounded.first,
          value_refers program sound unit listed number withs to bounded.last,
          statement_refers withs body h.1,
        )
    statement_refers withs (With at body) h = (place_refers program sound unit listed number withs at h.0 h.1, statement_refers (withs ++ h.0 ∷ []) body h.3)
    statement_refers withs (WriteItems items line) h = written_refer withs items h
    statement_refers withs (ReadItems items line) h = read_refer withs items h
    statement_refers withs (Halt code) h = value_refers program sound unit listed number withs code h.0
    statement_refers withs Exit h = tt
    statement_refers withs (Unmake pointer with args) h =
        let unmade = destructor_refers withs h.class with args (object_of (slice_get unit.types.types h.class.0) h.object) h.destructor in
        (unmade.0, value_refers program sound unit listed number withs pointer h.typed, unmade.1)

    statements_refer : (withs : List TypeId) (statements : Statements) (h : AreStatements (scope withs) statements) → RefersStatements site (scope withs) statements h
    statements_refer withs NoStatements h = tt
    statements_refer withs (Then one rest) h = (statement_refers withs one h.0, statements_refer withs rest h.1)

    arms_refer : (withs : List TypeId) (arms : Arms) (h : AreArms (scope withs) arms) → RefersArms site (scope withs) arms h
    arms_refer withs NoArms h = tt
    arms_refer withs (Branch labels body rest) h = (statement_refers withs body h.1, arms_refer withs rest h.2)
