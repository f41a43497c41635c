-- Headers of routines: those that announce a routine, and those that repeat an earlier one.
use Rattle.std.specs.Prelude.{◌≡◌, ℕ, ◌+◌, ◌==◌, Bool, true, false, not, ◌&&◌, ◌||◌, nat_eq, cond, List, [], ◌∷◌, length, Option, Some, None, is_some, slice_get}
use Rattle.type_layout.specs.declared.definitions.TypeId.{TypeId}
use Rattle.type_layout.specs.declared.definitions.Param.{Param}
use Rattle.type_layout.specs.declared.definitions.RoutineId.{RoutineId}
use Rattle.type_layout.specs.declared.definitions.Kind.{Kind}
use Rattle.type_layout.specs.declared.definitions.Kind.TheVariants as kind
use Rattle.type_layout.specs.declared.definitions.Header.{Header}
use Rattle.type_layout.specs.declared.texts.Place.{Place}
use Rattle.object_vmt.specs.Rules.{kind_number, same_header}
use Rattle.pascal_grammar.specs.declared.lexeme.Position.{Position}
use Rattle.syntax_tree.specs.declared.identifier.Identifier.{Identifier}
use Rattle.syntax_tree.specs.declared.type_tree.parameter.ParameterGroup.{ParameterGroup}
use Rattle.syntax_tree.specs.declared.source_tree.declaration.RoutineHeader.{RoutineHeader}
use Rattle.syntax_tree.specs.declared.source_tree.declaration.RoutineHeader.TheVariants as h
use Rattle.scopes.specs.declared.entries.Entry.{Entry}
use Rattle.scopes.specs.declared.entries.Entry.TheVariants as entry
use Rattle.scopes.specs.Environment.{Environment, Meaning, named, find, block_count}
use Rattle.typed_tree.specs.type_fits.Fits.{AreSameHeaders}
use Rattle.typing_rules.specs.declared.faults.Rule.TheVariants as rules
use Rattle.typing_rules.specs.Faults.{broken}
use Rattle.typing_rules.specs.Judgements.{Judgement, makes, refuses, rule, either, part}
use Rattle.declaration_checker.specs.headers.Headers.{procedure_header, function_header, routine_header}
use Rattle.declaration_checker.specs.type_denoters.Additions.{entered}
use Rattle.tp_check_decl.specs.declared.routines.drafts.Announced.{Announced}
use Rattle.tp_check_decl.specs.declared.routines.drafts.Site.{Site}
use Rattle.tp_check_decl.specs.declared.routines.drafts.Awaited.{Awaited}
use Rattle.tp_check_decl.specs.declared.routines.drafts.Begun.{Begun}
use Rattle.tp_check_decl.specs.routines.Drafts.{Numbered, Drafted, knowing, next_number, announcing, depth_of}

abbrev pub name_of : RoutineHeader → Identifier
name_of (h.Procedure here name groups) = name
name_of (h.Function here name groups result) = name

abbrev pub begins : RoutineHeader → Position
begins (h.Procedure here name groups) = here
begins (h.Function here name groups result) = here

-- ---- headers that announce a routine

-- a routine is far where that is asked, or where the switch says so at its first header
abbrev pub is_far : Bool → RoutineHeader → Bool
is_far far one = far || (begins one).switches.f

-- what is known of a routine by its first header
abbrev pub announced_by : Bool → Site → RoutineHeader → Header → Announced
announced_by far site one header = record {
  place = (begins one).place;
  name = (name_of one).name;
  header = header;
  owner = None;
  outer = site.outer;
  far = is_far far one;
}

abbrev pub routine_entry : Bool → Site → ℕ → Header → Entry
routine_entry far site number header = entry.Code (record { unit = 0; number = number }) (depth_of site) header far

-- A routine with a header that was judged, whose name is put into the innermost block.
abbrev pub announced : Bool → Site → Drafted → RoutineHeader → Header → Judgement Drafted
announced far site d one header =
    part (entered d.scope (name_of one).position.place (name_of one).name (routine_entry (is_far far one) site (next_number d) header))
    (λ g. makes (announcing (knowing d g) (announced_by far site one header)))

-- A header that repeats no other. Its types are those that are visible outside the routine.
unfoldable pub heading : Bool → Site → Drafted → RoutineHeader → Judgement Drafted
heading far site d one = part (routine_header d.scope one) (λ header. announced far site d one header)

-- ---- headers behind which the block of an earlier one stands

abbrev pub is_left : Option Numbered → Bool
is_left None = false
is_left (Some one) = not (is_some one.done)

abbrev pub awaited : ℕ → Header → Awaited
awaited number header = record { number = number; header = header }

-- a routine of the unit itself that the innermost of so many blocks has, and whose block was not met yet
abbrev pub awaited_code : ℕ → List Numbered → ℕ → RoutineId → Header → Option Awaited
awaited_code count routines block routine header =
    cond (block + 1 == count && (routine.unit == 0 && is_left (slice_get routines routine.number))) (Some (awaited routine.number header)) None

abbrev pub awaited_by : ℕ → List Numbered → Option Meaning → Option Awaited
awaited_by count routines (Some (named n (entry.Code routine level header far))) = awaited_code count routines n routine header
awaited_by count routines _ = None

unfoldable pub awaited_of : Drafted → List ℕ → Option Awaited
awaited_of d name = awaited_by (block_count d.scope) d.routines (find d.scope name)

abbrev pub same_kind : Kind → Kind → Bool
same_kind one other = nat_eq (kind_number one) (kind_number other)

abbrev pub is_bare : List ParameterGroup → Bool
is_bare [] = true
is_bare (one ∷ rest) = false

-- nothing of the header is repeated but its kind
abbrev pub kind_repeated : Place → Kind → Header → Judgement (List Param)
kind_repeated place one first = rule (broken place rules.Bodies) (same_kind first.kind one) (first.kind ≡ one) first.params

-- the whole header is repeated; names of parameters may differ
abbrev pub whole_repeated : Place → Header → Judgement Header → Judgement (List Param)
whole_repeated place first j =
    part j (λ header. rule (broken place rules.Bodies) (same_header first header) (AreSameHeaders first header) header.params)

-- parameters without the result that belongs to them
abbrev pub half_repeated : Place → Judgement Header → Judgement (List Param)
half_repeated place j = part j (λ header. refuses (broken place rules.Bodies))

-- The parameters of a routine whose first header is this one: it is repeated whole, or nothing of it.
abbrev pub repeated : Environment → Header → RoutineHeader → Judgement (List Param)
repeated g first (h.Procedure here name groups) =
    either (is_bare groups.items) (kind_repeated here.place kind.Procedure first) (whole_repeated here.place first (procedure_header g false here.place kind.Procedure groups.items))
repeated g first (h.Function here name groups None) =
    either (is_bare groups.items) (kind_repeated here.place kind.Function first) (half_repeated here.place (procedure_header g false here.place kind.Procedure groups.items))
repeated g first (h.Function here name groups (Some result)) = whole_repeated here.place first (function_header g false here.place groups.items (Some result))

-- ---- a routine whose block follows

-- its number and header, with the names of the parameters that are known in the block; of a method also its object type
abbrev pub begun : ℕ → Header → Option TypeId → Begun
begun number header owner = record { number = number; header = header; owner = owner }

abbrev pub with_params : Header → List Param → Header
with_params header params = record { kind = header.kind; params = params; result = header.result }

pub record Opened : Type 0 where
  pub begun : Begun
  pub draft : Drafted

abbrev pub opened : Begun → Drafted → Opened
opened b d = record { begun = b; draft = d }

abbrev pub opened_by : Site → Drafted → RoutineHeader → Option Awaited → Judgement Opened
opened_by site d one (Some first) =
    part (repeated d.scope first.header one) (λ params. makes (opened (begun first.number (with_params first.header params) None) d))
opened_by site d one None =
    part (routine_header d.scope one) (λ header. part (announced false site d one header) (λ e. makes (opened (begun (next_number d) header None) e)))

-- a header with its block behind it: that of an earlier header in this block, or of a new routine
unfoldable pub opened_of : Site → Drafted → RoutineHeader → Judgement Opened
opened_of site d one = opened_by site d one (awaited_of d (name_of one).name)
