-- A unit while it is read: what headers, blocks and their ends leave of its routines and of the names of its open blocks.
use Rattle.std.proofs.Common.{◌≡◌, ℕ, suc, ◌+◌, ◌<◌, ◌≤◌, ◌==◌, ◌&&◌, not, Bool, true, false, cond, List, [], ◌∷◌, ◌++◌, length, Option, Some, None, refl, sym, ap, subst, arith}
use Rattle.std.specs.Prelude.{slice_get, is_some, position}
use Rattle.std.proofs.Math.Nat.{min-le_right}
use Rattle.std.proofs.lemmas.Bool.{and_parts}
use Rattle.std.proofs.lemmas.Bool.Decides.{Decides-eqb}
use Rattle.unit_references.specs.type_layout.declared.definitions.TypeId.{TypeId}
use Rattle.unit_references.specs.type_layout.declared.definitions.RoutineId.{RoutineId}
use Rattle.unit_references.specs.type_layout.declared.definitions.Param.{Param}
use Rattle.unit_references.specs.type_layout.declared.definitions.Header.{Header}
use Rattle.unit_references.specs.type_layout.declared.definitions.Method.{Method}
use Rattle.unit_references.specs.type_layout.declared.definitions.TypeDef.{TypeDef}
use Rattle.unit_references.specs.type_layout.declared.definitions.TypeDef.TheVariants as type
use Rattle.unit_references.specs.type_layout.declared.texts.Place.{Place}
use Rattle.unit_references.specs.type_layout.Words.{same_bytes}
use Rattle.unit_references.specs.type_layout.Table.{Table}
use Rattle.units_well_formed.specs.syntax_tree.declared.identifier.Identifier.{Identifier}
use Rattle.units_well_formed.specs.syntax_tree.declared.statement.CompoundStatement.{CompoundStatement}
use Rattle.units_well_formed.specs.syntax_tree.declared.type_tree.parameter.MethodHeader.{MethodHeader}
use Rattle.units_well_formed.specs.syntax_tree.declared.source_tree.declaration.RoutineHeader.{RoutineHeader}
use Rattle.unit_references.specs.typed_tree.Statements.{Statement}
use Rattle.unit_references.specs.typed_tree.type_fits.Fits.{definition}
use Rattle.units_well_formed.specs.scopes.declared.entries.Entry.{Entry}
use Rattle.units_well_formed.specs.scopes.declared.entries.Entry.TheVariants as entry
use Rattle.units_well_formed.specs.scopes.declared.entries.BlockKind.TheVariants as block
use Rattle.units_well_formed.specs.scopes.declared.searches.OpenBlock.{OpenBlock}
use Rattle.units_well_formed.specs.scopes.Members.{narrow}
use Rattle.units_well_formed.specs.scopes.Environment.{Environment, Meaning, named, find, with_name, with_block, block_count}
use Rattle.units_well_formed.specs.call_rules.method_rules.Slots.{methods_of}
use Rattle.units_well_formed.specs.declaration_checker.type_parts.Objects.{name_of as method_name}
use Rattle.units_well_formed.specs.declaration_checker.type_denoters.Additions.{entered}
use Rattle.units_well_formed.specs.tp_check_decl.declared.routines.drafts.Site.{Site}
use Rattle.units_well_formed.specs.tp_check_decl.routines.Drafts.{Numbered, Drafted, knowing, Stage, depth_of}
use Rattle.units_well_formed.specs.tp_check_decl.routines.Headings.{name_of, announced_by, announced, heading, is_left, awaited_by, awaited_of, Opened, opened_by, opened_of}
use Rattle.units_well_formed.specs.tp_check_decl.routines.Methods.{method_at, declared_method, own_method, is_owner, is_awaited, method_opened_by, method_opened}
use Rattle.units_well_formed.specs.tp_check_decl.routines.Insides.{self_entered, params_entered, inside, done, closed, ended}
use Rattle.units_well_formed.proofs.rules_well_formed_proofs.nodes.Assigned.{same_id}
use Rattle.units_well_formed.specs.units.Below.{open_in, EachIn, IsBottom}
use Rattle.units_well_formed.proofs.units.Below.{found_inner, blocks_join, named_each, closed_each, named_bottom, more_bottom, closed_bottom, entered_is, inside_keeps}
use Rattle.shared_types_agree.proofs.methods.Numbered.{in_class, HaveRoutines, free_on, finished_on}

pub narrow_most : (n : ℕ) → narrow n ≤ 4294967295
narrow_most n = min-le_right n 4294967295

-- ---- open blocks

-- a routine that a name of a block means has a number of 32 bits
abbrev pub IsFew : List ℕ → Entry → Type 0
IsFew around (entry.Code routine level header far) = routine.number ≤ 4294967295
IsFew around one = Unit {0}

-- the block of the unit, and so many inside it, with such names
pub record AreOpen (count : ℕ) (blocks : List OpenBlock) : Type 0 where
  pub names : EachIn IsFew [] blocks
  pub bottom : IsBottom blocks count

pub some_open : (blocks : List OpenBlock) (count : ℕ) → AreOpen count blocks → 1 ≤ length blocks
some_open blocks count o =
    let whole : length blocks ≡ suc (length o.bottom.rest) = ap (λ (b : List OpenBlock). length b) o.bottom.is in
    omega (arith, whole)

entered_open : (g : Environment) (place : Place) (name : List ℕ) (one : Entry) (h : Environment) (count : ℕ) → (entered g place name one).holds h → IsFew (open_in g) one → AreOpen count g.blocks
    → AreOpen count h.blocks
entered_open g place name one h count e few o =
    let is : h ≡ with_name g name one = entered_is g place name one h e in
    subst (λ (x : Environment). AreOpen count x.blocks) (sym is) (record { names = named_each g name one IsFew o.names few; bottom = named_bottom g name one count o.bottom })

entered_table : (g : Environment) (place : Place) (name : List ℕ) (one : Entry) (h : Environment) → (entered g place name one).holds h → h.types ≡ g.types
entered_table g place name one h e = ap (λ (x : Environment). x.types) (entered_is g place name one h e)

self_open : (level : ℕ) (place : Place) (number : ℕ) (owner : Option TypeId) (g h : Environment) (count : ℕ) → (self_entered level place number owner g).holds h → AreOpen count g.blocks → AreOpen count h.blocks
self_open level place number None g h count e o = subst (λ (x : Environment). AreOpen count x.blocks) (sym e) o
self_open level place number (Some ty) g h count e o = entered_open g _ _ _ h count e tt o

params_open : (level : ℕ) (place : Place) (number : ℕ) (g : Environment) (params : List Param) (h : Environment) (count : ℕ) → (params_entered level place number g params).holds h → AreOpen count g.blocks
    → AreOpen count h.blocks
params_open level place number g [] h count e o = subst (λ (x : Environment). AreOpen count x.blocks) (sym e) o
params_open level place number g (one ∷ rest) h count e o = params_open level place (narrow (number + 1)) e.part rest h count e.made (entered_open g _ _ _ e.part count e.holds tt o)

-- ---- what is read of a unit

-- its methods have their routines, and so many blocks are open inside its own
pub record IsReading (name : List ℕ) (count : ℕ) (d : Drafted) : Type 0 where
  pub have : HaveRoutines name d.scope.types d.routines
  pub opened : AreOpen count d.scope.blocks

pub reading_at : (name : List ℕ) (count : ℕ) (d e : Drafted) → e ≡ d → IsReading name count d → IsReading name count e
reading_at name count d e is r = subst (λ (x : Drafted). IsReading name count x) (sym is) r

module _ (name : List ℕ) where
  -- ---- headers

  announced_read : (count : ℕ) (far : Bool) (site : Site) (d : Drafted) (one : RoutineHeader) (header : Header) (made : Drafted) → (announced far site d one header).holds made → IsReading name count d
      → IsReading name count made
  announced_read count far site d one header made e r =
      let new : Numbered = record { first = announced_by far site one header; done = None } in
      let same : e.part.types ≡ d.scope.types = entered_table d.scope _ _ _ e.part e.holds in
      reading_at name count _ made e.made (record {
        have = subst (λ (table : Table). HaveRoutines name table (d.routines ++ new ∷ [])) (sym same) (free_on name d.scope.types d.routines new refl refl r.have);
        opened = entered_open d.scope _ _ _ e.part count e.holds (narrow_most (length d.routines)) r.opened;
      })

  pub heading_read : (count : ℕ) (far : Bool) (site : Site) (d : Drafted) (one : RoutineHeader) (made : Drafted) → (heading far site d one).holds made → IsReading name count d → IsReading name count made
  unfolding heading
  heading_read count far site d one made e r = announced_read count far site d one e.part made e.made r

  -- what is read behind a header whose block follows; the number of the routine has 32 bits
  pub record IsOpened (count : ℕ) (o : Opened) : Type 0 where
    pub read : IsReading name count o.draft
    pub few : o.begun.number ≤ 4294967295

  -- an earlier header of the same block
  module _ (count : ℕ) (d : Drafted) (r : IsReading name count d) where
    code_few : (word : List ℕ) (n : ℕ) (routine : RoutineId) (level : ℕ) (header : Header) (far : Bool) → find d.scope word ≡ Some (named n (entry.Code routine level header far))
        → (n + 1 == block_count d.scope && (routine.unit == 0 && is_left (slice_get d.routines routine.number))) ≡ true → routine.number ≤ 4294967295
    code_few word n routine level header far found is =
        let both = and_parts (n + 1 == block_count d.scope) (routine.unit == 0 && is_left (slice_get d.routines routine.number)) is in
        let inner : n + 1 ≡ block_count d.scope = (Decides-eqb (n + 1) (block_count d.scope)).0 both.0 in
        let some : 0 < length d.scope.blocks = (let long = some_open d.scope.blocks count r.opened in omega (arith, long)) in
        found_inner d.scope IsFew word n (entry.Code routine level header far) r.opened.names some inner found

    meaning_few : (word : List ℕ) (m : Option Meaning) (first : _) → find d.scope word ≡ m → awaited_by (block_count d.scope) d.routines m ≡ Some first → first.number ≤ 4294967295
    meaning_few word (Some (named n (entry.Code routine level header far))) first found e = by (n + 1 == block_count d.scope && (routine.unit == 0 && is_left (slice_get d.routines routine.number))) refl e
      where
        by : (b : Bool) → (n + 1 == block_count d.scope && (routine.unit == 0 && is_left (slice_get d.routines routine.number))) ≡ b
            → cond b (Some (record { number = routine.number; header = header })) None ≡ Some first → first.number ≤ 4294967295
        by true is k =
            let low = code_few word n routine level header far found is in
            let same : routine.number ≡ first.number = cc in
            omega (arith, low, same)
        by false is k = let bad : ⊥ = cc in absurd bad
    meaning_few word m first found e = let bad : ⊥ = cc in absurd bad

    awaited_few : (word : List ℕ) (first : _) → awaited_of d word ≡ Some first → first.number ≤ 4294967295
    unfolding awaited_of
    awaited_few word first e = meaning_few word (find d.scope word) first refl e

    opened_by_read : (site : Site) (one : RoutineHeader) (o : Opened) (found : Option _) → awaited_of d (name_of one).name ≡ found → (opened_by site d one found).holds o → IsOpened count o
    opened_by_read site one o (Some first) is e = record {
      read = reading_at name count d o.draft (ap (λ (x : Opened). x.draft) e.made) r;
      few = (let same = ap (λ (x : Opened). x.begun.number) e.made in let low = awaited_few (name_of one).name first is in omega (arith, same, low));
    }
    opened_by_read site one o None is e =
        let last = e.made in
        record {
          read = reading_at name count last.part o.draft (ap (λ (x : Opened). x.draft) last.made) (announced_read count false site d one e.part last.part last.holds r);
          few = (let same = ap (λ (x : Opened). x.begun.number) last.made in let low = narrow_most (length d.routines) in omega (arith, same, low));
        }

    pub opened_read : (site : Site) (one : RoutineHeader) (o : Opened) → (opened_of site d one).holds o → IsOpened count o
    unfolding opened_of
    opened_read site one o e = opened_by_read site one o (awaited_of d (name_of one).name) refl e

    -- ---- methods

    at_place : (all : List Method) (o : Option ℕ) (found : Method) → method_at all o ≡ Some found → (place : ℕ) × (slice_get all place ≡ Some found)
    at_place all None found e = let bad : ⊥ = cc in absurd bad
    at_place all (Some place) found e = (place, e)

    listed_at : (all : List Method) (word : List ℕ) (found : Method) → declared_method all word ≡ Some found → (place : ℕ) × (slice_get all place ≡ Some found)
    unfolding declared_method
    listed_at all word found e = at_place all (position (λ (one : Method). same_bytes word one.name) all) found e

    own_found : (ty : TypeId) (word : List ℕ) (found : Method) (t : Option TypeDef) → definition d.scope.types.types ty ≡ t → own_method t word ≡ Some found
        → (place : ℕ) × (slice_get (in_class d.scope.types ty) place ≡ Some found)
    own_found ty word found (Some (type.ObjectOf parent dynamic fields all)) is e =
        let it = listed_at all word found e in
        (it.0, subst (λ (t : Option TypeDef). slice_get (methods_of t) it.0 ≡ Some found) (sym is) it.1)
    own_found ty word found t is e = let bad : ⊥ = cc in absurd bad

    owner_is : (o : Option TypeId) (ty : TypeId) → is_owner o ty ≡ true → o ≡ Some ty
    owner_is None ty k = let bad : ⊥ = cc in absurd bad
    owner_is (Some owner) ty k = ap (λ (t : TypeId). Some t) (same_id owner ty ((Decides-eqb owner.0 ty.0).0 k))

    awaited_slot : (slot : Option Numbered) (ty : TypeId) → is_awaited slot ty ≡ true → (one : Numbered) × (slot ≡ Some one) × (one.first.owner ≡ Some ty)
    awaited_slot None ty e = let bad : ⊥ = cc in absurd bad
    awaited_slot (Some one) ty e = (one, refl, owner_is one.first.owner ty (and_parts (is_owner one.first.owner ty) (not (is_some one.done)) e).0)

    -- the routine under a method's number is a method's of its type, so that is the number of its own
    method_few : (site : Site) (ty : TypeId) (word : List ℕ) (found : Method) → own_method (definition d.scope.types.types ty) word ≡ Some found
        → (not (is_some site.outer) && is_awaited (slice_get d.routines found.routine.number) ty) ≡ true → found.routine.number ≤ 4294967295
    method_few site ty word found is may =
        let both = and_parts (not (is_some site.outer)) (is_awaited (slice_get d.routines found.routine.number) ty) may in
        let slot = awaited_slot (slice_get d.routines found.routine.number) ty both.1 in
        let listed = own_found ty word found (definition d.scope.types.types ty) refl is in
        let own = r.have.owners found.routine.number slot.0 ty slot.1 slot.2 in
        let it = r.have.methods ty listed.0 found listed.1 (own.methods listed.0 found listed.1) in
        let same = it.number_is in
        let low = narrow_most it.place in
        omega (arith, same, low)

    method_by_read : (site : Site) (one : MethodHeader) (ty : TypeId) (word : List ℕ) (found : Option Method) (o : Opened) → own_method (definition d.scope.types.types ty) word ≡ found
        → (method_opened_by site d one ty found).holds o → IsOpened count o
    method_by_read site one ty word None o is e = absurd e
    method_by_read site one ty word (Some found) o is e =
        let last = e.made.made in
        record {
          read = reading_at name count d o.draft (ap (λ (x : Opened). x.draft) last.made) r;
          few = (let same = ap (λ (x : Opened). x.begun.number) last.made in let low = method_few site ty word found is e.holds.asked in omega (arith, same, low));
        }

    pub method_read : (site : Site) (one : MethodHeader) (owner : Identifier) (o : Opened) → (method_opened site d one owner).holds o → IsOpened count o
    unfolding method_opened
    method_read site one owner o e = method_by_read site one e.part (method_name one).name (own_method (definition d.scope.types.types e.part) (method_name one).name) o refl e.made

  -- ---- blocks

  pub inside_read : (count : ℕ) (inner : Site) (place : Place) (o : Opened) (g : Environment) → (inside inner place o.begun o.draft.scope).holds g → IsReading name count o.draft → IsReading name (suc count) (knowing o.draft g)
  inside_read count inner place o g e r =
      let b = o.begun in
      let kind = block.Routine b.number b.owner in
      let new : OpenBlock = record { kind = kind; symbols = [] } in
      let begun : AreOpen (suc count) (with_block o.draft.scope kind).blocks = record { names = blocks_join IsFew [] o.draft.scope.blocks new r.opened.names tt; bottom = more_bottom o.draft.scope.blocks new count r.opened.bottom } in
      let same : g.types ≡ o.draft.scope.types = (inside_keeps inner place b o.draft.scope g e).table in
      record {
        have = subst (λ (table : Table). HaveRoutines name table o.draft.routines) (sym same) r.have;
        opened = params_open (depth_of inner) place 0 e.part b.header.params g (suc count) e.made
            (self_open (depth_of inner) place (narrow (length b.header.params)) b.owner (with_block o.draft.scope kind) e.part (suc count) e.holds begun);
      }

  pub ended_read : (count : ℕ) (inner : Site) (number : ℕ) (place : Place) (body : CompoundStatement) (s : Stage) (made : Drafted) → number ≤ 4294967295 → (ended inner number place body s).holds made
      → IsReading name (suc count) s.draft → IsReading name count made
  ended_read count inner number place body s made low e r =
      let typed : Statement = e.made.part in
      reading_at name count (closed number place s typed) made e.made.made.made (record {
        have = finished_on name s.draft.scope.types s.draft.routines number (done place s.locals typed) low r.have;
        opened = record { names = closed_each s.draft.scope IsFew r.opened.names; bottom = closed_bottom s.draft.scope.blocks count r.opened.bottom };
      })
