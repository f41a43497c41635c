-- The block behind a header is well formed, where its declarations are.
use Rattle.std.proofs.Common.{◌≡◌, ◌⊎◌, inl, inr, ℕ, zero, suc, ◌+◌, ◌<◌, ◌≤◌, Bool, true, false, List, [], ◌∷◌, ◌++◌, length, map, Option, Some, None, refl, sym, subst, ap, ◌∙◌, arith}
use Rattle.std.proofs.lemmas.List.{length-map}
use Rattle.std.specs.Prelude.{slice_get, ◌^◌, nat_lt}
use Rattle.std.proofs.Math.Nat.{min-eq_left, min-eq_right}
use Rattle.std.proofs.lemmas.Option.{slice_get_within}
use Rattle.declarations_well_formed.specs.type_layout.declared.definitions.TypeId.{TypeId}
use Rattle.declarations_well_formed.specs.type_layout.declared.definitions.Param.{Param}
use Rattle.declarations_well_formed.specs.type_layout.declared.definitions.Method.{Method}
use Rattle.declarations_well_formed.specs.type_layout.declared.definitions.TypeDef.{TypeDef}
use Rattle.declarations_well_formed.specs.type_layout.declared.texts.Place.{Place}
use Rattle.declarations_well_formed.specs.type_layout.Table.{Table}
use Rattle.declarations_well_formed.proofs.type_layout_proofs.Local.{slice_get-append}
use Rattle.declarations_well_formed.specs.syntax_tree.declared.statement.CompoundStatement.{CompoundStatement}
use Rattle.declarations_well_formed.specs.syntax_tree.statement_tree.Trees.{compound, view_statements}
use Rattle.declarations_well_formed.specs.typed_tree.declared.units.Routine.{Routine}
use Rattle.declarations_well_formed.specs.typed_tree.Statements.{Statement}
use Rattle.declarations_well_formed.specs.typed_tree.type_fits.Fits.{definition, IsSome, shape_of}
use Rattle.declarations_well_formed.specs.typed_tree.type_fits.Routines.{listed, variables_of}
use Rattle.declarations_well_formed.specs.well_formed.Scopes.{Others, Scope}
use Rattle.declarations_well_formed.specs.well_formed.WellFormed.{IsStatement, IsOwner}
use Rattle.declarations_well_formed.specs.scopes.declared.entries.Entry.{Entry}
use Rattle.declarations_well_formed.specs.scopes.declared.entries.Entry.TheVariants as entry
use Rattle.declarations_well_formed.specs.scopes.declared.entries.BlockKind.TheVariants as block
use Rattle.declarations_well_formed.specs.scopes.declared.searches.OpenBlock.{OpenBlock}
use Rattle.declarations_well_formed.specs.scopes.Members.{narrow}
use Rattle.declarations_well_formed.specs.scopes.Environment.{Environment, outer, with_block, without_block}
use Rattle.declarations_well_formed.specs.call_rules.method_rules.Slots.{methods_of}
use Rattle.declarations_well_formed.specs.typing_rules.Judgements.{Judgement}
use Rattle.declarations_well_formed.specs.declaration_checker.declarations.Progress.{level_of}
use Rattle.declarations_well_formed.specs.tp_check_decl.declared.routines.drafts.Site.{Site}
use Rattle.declarations_well_formed.specs.tp_check_decl.routines.Drafts.{Done, Numbered, Drafted, knowing, Stage, stage, with_done}
use Rattle.declarations_well_formed.specs.tp_check_decl.routines.Headings.{Opened}
use Rattle.declarations_well_formed.specs.tp_check_decl.routines.Insides.{variables_beside, variables_before, site_in, inside, done, closed}
use Rattle.declarations_well_formed.specs.tp_check_decl.routines.Blocks.{block_judged}
use Rattle.declarations_well_formed.specs.well_formed.weakening.Weakening.{IsSame}
use Rattle.declarations_well_formed.specs.bodies_well_formed.statements.Trees.{depth_in}
use Rattle.declarations_well_formed.proofs.bodies_well_formed_proofs.statements.Checked.{stated_well}
use Rattle.declarations_well_formed.specs.bodies_well_formed.other_units.Known.{open_in, first_in, AreNested, IsPlaced, AreKnown, scope_over}
use Rattle.declarations_well_formed.specs.bodies_well_formed.other_units.Growing.{Extends}
use Rattle.declarations_well_formed.specs.bodies_well_formed.other_units.Others.{others_of}
use Rattle.declarations_well_formed.proofs.bodies_well_formed_proofs.other_units.Frames.{open_end}
use Rattle.declarations_well_formed.proofs.bodies_well_formed_proofs.other_units.Entering.{blocks_join, routine_known, closed_known, closed_each}
use Rattle.declarations_well_formed.proofs.bodies_well_formed_proofs.other_units.Growing.{same_known}
use Rattle.declarations_well_formed.proofs.bodies_well_formed_proofs.other_units.Agreeing.{agrees_within}
use Rattle.units_well_formed.specs.routines.Reading as reading
use Rattle.units_well_formed.specs.routines.Rooms.{HasRoom}
use Rattle.units_well_formed.specs.routines.Laws.{StaysRead}
use Rattle.units_well_formed.specs.routines.Reading.{locals_of, tree_of, Frame, frame, with_locals, trees_of, scope_of, numbers_of, IsOwn, IsAnnounced, IsBody, IsBlock, AreThere, IsBottom, IsTabled, IsGlobalIn, IsRead, IsSite, IsBehind, with_inner, IsStage}
use Rattle.units_well_formed.specs.routines.Trees.{IsKept}
use Rattle.units_well_formed.proofs.routines.Lists.{having, get_with, get_back, plain_at, finished_at, finished_kept, IsNone, trees_apart, trees_finished, trees_at}
use Rattle.units_well_formed.proofs.routines.Steps.{extends_itself, extends_on, with_routines, extends_with, bare_keeps, each_weaker, there_kept, not_open}
use Rattle.units_well_formed.proofs.routines.Bottoms.{more_bottom, closed_bottom, closed_open}
use Rattle.units_well_formed.proofs.routines.Entered.{IsInner, params_inner, self_inner, types_alike, all_alike}
use Rattle.units_well_formed.proofs.routines.Opened.{IsOpened}
use Rattle.units_well_formed.proofs.routines.Constants.{opened_values, closed_values}
use Rattle.units_well_formed.proofs.routines.Grown.{Keeps, inside_keeps, closed_grows, room_before}

-- ---- the same routines, whatever they have declared

placed_same : (one other : Routine) → IsSame one other → IsPlaced one → IsPlaced other
placed_same one other k h = record {
  outermost = λ some. sym k.outer ∙ h.outermost (subst (λ (o : Option TypeId). IsSome o) (sym k.owner) some);
  few = subst (λ header. length header.params < 2 ^ 31) k.header h.few;
}

placed_with : (routines : List Routine) (number : ℕ) (locals : List TypeId) → ((at : ℕ) (one : Routine) → slice_get routines at ≡ Some one → IsPlaced one)
    → (at : ℕ) (one : Routine) → slice_get (with_locals number locals routines) at ≡ Some one → IsPlaced one
placed_with routines number locals placed at one e =
    let it = get_back routines number at locals one e in
    placed_same it.0 one it.2 (placed at it.0 it.1)

-- with other types and suppositions, which are the same
abbrev fitted : Scope → List TypeDef → Others → Scope
fitted s types others = record { types = types; others = others; globals = s.globals; routines = s.routines; around = s.around; levels = s.levels; withs = s.withs }

fit : (P : Scope → Type 0) (s : Scope) (types : List TypeDef) (others : Others) → s.types ≡ types → others ≡ s.others → P s → P (fitted s types others)
fit P s types others t o h = subst (λ (x : Others). P (fitted s types x)) (sym o) (subst (λ (ts : List TypeDef). P (fitted s ts s.others)) t h)

nothing_at : (at : ℕ) (ty : TypeId) → slice_get [] at ≡ Some ty → ⊥
nothing_at zero ty e = let bad : ⊥ = cc in bad
nothing_at (suc at) ty e = let bad : ⊥ = cc in bad

-- ---- a block is opened

module _ (d : Drafted) (frames : List Frame) (site : Site) (at : IsSite site frames) (o : Opened) (op : IsOpened d frames o) (shallow : level_of site.home + 1 ≤ 16) where
  abbrev number : ℕ
  number = o.begun.number

  abbrev base : Scope
  base = scope_of o.draft frames

  abbrev bare : Routine
  bare = having [] (tree_of op.one)

  apart : IsNone number frames
  apart =
      let tree = trees_at o.draft.routines frames number op.one op.is in
      let nested : AreNested base.routines (numbers_of frames) = subst (λ (ns : List ℕ). AreNested base.routines ns) op.read.around op.read.known.nested in
      not_open base.routines frames number tree.0 nested tree.1 (tree.2.outer ∙ op.outer)

  before : slice_get base.routines number ≡ Some (tree_of op.one)
  before = trees_apart o.draft.routines frames number apart ∙ plain_at o.draft.routines number op.one op.is

  abbrev opened : Scope
  opened = with_routines base (with_locals number [] base.routines)

  grows : Extends base opened
  grows = extends_with base number [] (tree_of op.one) before (bare_keeps [] (tree_of op.one) (ap (λ (x : Option Done). locals_of x) op.left))

  there : slice_get opened.routines number ≡ Some bare
  there = get_with base.routines number [] (tree_of op.one) before

  known : AreKnown o.draft.scope opened
  known = same_known o.draft.scope base op.read.known opened grows refl refl (placed_with base.routines number [] op.read.known.placed)

  abbrev entered : Environment
  entered = with_block o.draft.scope (block.Routine number o.begun.owner)

  depth_count : length (open_in o.draft.scope) ≡ level_of site.home
  depth_count = ap (λ (ns : List ℕ). length ns) op.read.around ∙ length-map frames (λ (one : Frame). one.number) ∙ sym at.level

  numbers_count : length (numbers_of frames) ≡ level_of site.home
  numbers_count = length-map frames (λ (one : Frame). one.number) ∙ sym at.level

  level_is : narrow (level_of site.home + 1) ≡ level_of site.home + 1
  level_is = let small : level_of site.home + 1 ≤ 4294967295 = omega (arith, shallow) in min-eq_left small

  open_known : AreKnown entered opened
  open_known =
      let few : length (open_in o.draft.scope) + 1 < 2 ^ 31 = (let c = depth_count in omega (arith, c, shallow)) in
      routine_known o.draft.scope opened number o.begun.owner bare known there (op.outer ∙ sym (ap (λ (ns : List ℕ). first_in ns) op.read.around)) few

  inner : IsInner o.draft.routines opened (number ∷ numbers_of frames) entered
  inner =
      let new : OpenBlock = record { kind = block.Routine number o.begun.owner; symbols = [] } in
      record {
        known = open_known;
        around = open_end o.draft.scope.blocks new [] ∙ ap (λ (ns : List ℕ). number ∷ ns) op.read.around;
        own = blocks_join (IsOwn o.draft.routines) [] o.draft.scope.blocks new op.read.own tt;
        values = opened_values o.draft.scope (block.Routine number o.begun.owner) op.read.values;
        bottom = subst (λ (n : ℕ). IsBottom (o.draft.scope.blocks ++ new ∷ []) (suc n)) (sym (length-map frames (λ (one : Frame). one.number))) (more_bottom o.draft.scope.blocks new (length frames) op.read.bottom);
        others = refl;
      }

  params_count : length o.begun.header.params ≡ length op.one.first.header.params
  params_count =
      let e : length (map (λ (p : Param). shape_of p) o.begun.header.params) ≡ length (map (λ (p : Param). shape_of p) op.one.first.header.params) = ap (λ shapes. length shapes) op.params in
      sym (length-map o.begun.header.params shape_of) ∙ e ∙ length-map op.one.first.header.params shape_of

  params_few : length op.one.first.header.params < 2 ^ 31
  params_few = (op.read.known.placed number (tree_of op.one) before).few

  announced : IsAnnounced base number op.one.first
  announced = op.read.announced number op.one op.is

  -- what is known inside
  inside_known : (place : Place) (g : Environment) → (inside (site_in site o.begun) place o.begun o.draft.scope).holds g → IsInner o.draft.routines opened (number ∷ numbers_of frames) g
  inside_known place g k =
      let next : level_of site.home + 1 ≡ suc (length (numbers_of frames)) = (let c = numbers_count in omega (arith, c)) in
      let level : narrow (level_of site.home + 1) ≡ suc (length (numbers_of frames)) = level_is ∙ next in
      let few = params_few in
      let same = params_count in
      let low : length o.begun.header.params ≤ 4294967295 = omega (arith, few, same) in
      let where_self : narrow (length o.begun.header.params) ≡ length op.one.first.header.params = min-eq_left low ∙ same in
      let owner : IsOwner opened o.begun.owner = subst (λ (x : Option TypeId). IsOwner opened x) op.owner announced.owner in
      let mid = self_inner o.draft.routines opened number (numbers_of frames) bare there o.begun.owner (narrow (level_of site.home + 1)) place (narrow (length o.begun.header.params)) entered k.part
      level op.owner owner where_self inner k.holds in
      let types : map (λ (p : Param). p.ty) o.begun.header.params ≡ map (λ (p : Param). p.ty) op.one.first.header.params = types_alike o.begun.header.params op.one.first.header.params op.params in
      let these : (j : ℕ) (ty : TypeId) → slice_get (map (λ (p : Param). p.ty) o.begun.header.params) j ≡ Some ty → slice_get (variables_of bare) (0 + j) ≡ Some ty =
      λ j ty e. (
      let own : slice_get (map (λ (p : Param). p.ty) op.one.first.header.params) j ≡ Some ty = subst (λ (ts : List TypeId). slice_get ts j ≡ Some ty) types e in
      let zero_more : 0 + j ≡ j = omega arith in
      ap (λ (n : ℕ). slice_get (variables_of bare) n) zero_more
      ∙ slice_get-append (map (λ (p : Param). p.ty) op.one.first.header.params) (listed op.one.first.owner ++ (listed op.one.first.header.result ++ [])) j (slice_get_within (map (λ (p : Param). p.ty) op.one.first.header.params) j ty own)
      ∙ own) in
      let bound : 0 + length o.begun.header.params ≤ 4294967295 = omega (arith, low) in
      params_inner o.draft.routines opened number (numbers_of frames) bare there o.begun.header.params (narrow (level_of site.home + 1)) place 0 k.part g level
      (all_alike opened.types o.begun.header.params op.one.first.header.params op.params announced.header.params) these bound mid k.made

  -- ---- what was read is well formed in the scope inside

  module _ (g : Environment) (k : IsInner o.draft.routines opened (number ∷ numbers_of frames) g) (keeps : Keeps o.draft.scope g) where
    abbrev within : Drafted
    within = knowing o.draft g

    abbrev inner_frames : List Frame
    inner_frames = frame number [] ∷ frames

    abbrev inside_scope : Scope
    inside_scope = scope_of within inner_frames

    fits : (P : Scope → Type 0) → P opened → P inside_scope
    fits P h = fit P opened g.types.types (others_of g) k.known.has.types k.others h

    block_there : (at : ℕ) (one : Numbered) (done : Done) → slice_get o.draft.routines at ≡ Some one → one.done ≡ Some done → IsBlock opened at done
    block_there at one done e has =
        let it = op.read.blocks at one done e has in
        let body = it.body in
        record { types = it.types; body = record { then = body.then; around = body.around; well = body.well; sound = body.sound; nested = body.nested; innermost = body.innermost; since = extends_on body.then base opened body.since grows } }

    announced_there : (at : ℕ) (one : Numbered) → slice_get o.draft.routines at ≡ Some one → IsAnnounced opened at one.first
    announced_there at one e =
        let it = op.read.announced at one e in
        record { header = it.header; function = it.function; owner = it.owner; outer = it.outer }

    pub inside_read : IsRead within inner_frames
    inside_read = record {
      known = fits (λ s. AreKnown g s) k.known;
      around = k.around;
      bottom = subst (λ (n : ℕ). IsBottom g.blocks n) (ap (λ (n : ℕ). suc n) (length-map frames (λ (one : Frame). one.number))) k.bottom;
      locals = (λ at ty e. absurd (nothing_at at ty e), fits (λ s. AreThere s frames) (there_kept base opened frames (λ ty h. h) op.read.locals));
      own = k.own;
      values = k.values;
      table = subst (λ (table : Table). IsTabled table) (sym keeps.table) op.read.table;
      globals = λ at one e. subst (λ (table : Table). IsGlobalIn table.types one) (sym keeps.table) (op.read.globals at one e);
      methods = λ at place one ty method e owned is same. op.read.methods at place one ty method e owned (ap (λ (types : List TypeDef). slice_get (methods_of (definition types ty)) place) (sym op.read.known.has.types ∙ k.known.has.types) ∙ is) same;
      announced = λ at one e. fits (λ s. IsAnnounced s at one.first) (announced_there at one e);
      blocks = λ at one done e has. fits (λ s. IsBlock s at done) (block_there at one done e has);
    }

    pub inside_since : Extends base inside_scope
    inside_since = fits (λ s. Extends base s) grows

    -- how many variables there are before those of the block
    beside : (owner result : Option TypeId) → variables_beside owner result ≡ length (listed owner) + length (listed result)
    beside None None = refl
    beside None (Some ty) = refl
    beside (Some class) None = refl
    beside (Some class) (Some ty) = refl

    before_is : variables_before o.begun ≡ reading.variables_before bare
    before_is =
        let count = params_count in
        let owned : variables_beside o.begun.owner o.begun.header.result ≡ length (listed op.one.first.owner) + length (listed op.one.first.header.result) =
        beside o.begun.owner o.begun.header.result
        ∙ ap (λ (x : Option TypeId). length (listed x) + length (listed o.begun.header.result)) (sym op.owner)
        ∙ ap (λ (x : Option TypeId). length (listed op.one.first.owner) + length (listed x)) (sym op.result) in
        let own = few_listed op.one.first.owner in
        let result = few_listed op.one.first.header.result in
        let few = params_few in
        let low : length o.begun.header.params + variables_beside o.begun.owner o.begun.header.result ≤ 4294967295 = omega (arith, count, owned, own, result, few) in
        min-eq_left low ∙ (let whole : length o.begun.header.params + variables_beside o.begun.owner o.begun.header.result ≡ reading.variables_before bare = omega (arith, count, owned) in whole)
      where
        few_listed : (x : Option TypeId) → length (listed x) ≤ 1
        few_listed None = omega arith
        few_listed (Some ty) = omega arith

    pub inside_behind : IsBehind (site_in site o.begun).home (trees_of within.routines inner_frames) (number ∷ numbers_of frames)
    inside_behind = (bare, there, before_is)

-- ---- a block is closed

-- what is left behind a block
module _ (frames : List Frame) (number : ℕ) (place : Place) (s : Stage) (typed : Statement) (r : IsRead s.draft (frame number s.locals ∷ frames))
    (well : IsStatement (scope_over (scope_of s.draft (frame number s.locals ∷ frames)) (open_in s.draft.scope)) typed) where
  abbrev last : Scope
  last = scope_of s.draft (frame number s.locals ∷ frames)

  abbrev made : Done
  made = done place s.locals typed

  abbrev left : Drafted
  left = closed number place s typed

  nested_last : AreNested last.routines (number ∷ numbers_of frames)
  nested_last = subst (λ (ns : List ℕ). AreNested last.routines ns) r.around r.known.nested

  apart_last : IsNone number frames
  apart_last = not_open last.routines frames number nested_last.0.0 nested_last.1 nested_last.0.1 nested_last.0.2

  same_trees : trees_of left.routines frames ≡ last.routines
  same_trees = trees_finished s.draft.routines frames number made apart_last

  fits_left : (P : Scope → Type 0) → P last → P (scope_of left frames)
  fits_left P h = subst (λ (rs : List Routine). P (with_routines last rs)) (sym same_trees) h

  own_left : (around : List ℕ) (one : Entry) → IsOwn s.draft.routines around one → IsOwn left.routines around one
  own_left around (entry.Code routine level header far) o =
      let it = o.1 in
      let next = finished_kept s.draft.routines number routine.number made it.one it.is in (
        o.0,
        record {
          one = next.0;
          is = next.1;
          first = ap (λ first. first.header) next.2 ∙ it.first;
          outer = ap (λ first. first.outer) next.2 ∙ it.outer;
          free = ap (λ first. first.owner) next.2 ∙ it.free;
        },
      )
  own_left around (entry.Const ty v) o = tt
  own_left around (entry.Ty ty) o = tt
  own_left around (entry.Var unit level n ty) o = o
  own_left around (entry.Std n) o = tt

  body_left : IsBody last number made
  body_left = record {
    then = last;
    around = open_in s.draft.scope;
    well = well;
    sound = r.known.sound;
    nested = r.known.nested;
    innermost = ap (λ (ns : List ℕ). first_in ns) r.around;
    since = extends_itself last;
  }

  first_left : (at : ℕ) (one : Numbered) → slice_get left.routines at ≡ Some one → (first : Numbered) × (slice_get s.draft.routines at ≡ Some first) × (one.first ≡ first.first)
  first_left at one e = by (finished_at s.draft.routines number at made one e)
    where
      by : (slice_get s.draft.routines at ≡ Some one) ⊎ ((first : Numbered) × (slice_get s.draft.routines at ≡ Some first) × (one ≡ with_done made first) × (number ≡ at))
          → (first : Numbered) × (slice_get s.draft.routines at ≡ Some first) × (one.first ≡ first.first)
      by (inl f) = (one, f, refl)
      by (inr f) = (f.0, f.1, ap (λ (x : Numbered). x.first) f.2)

  block_left : (at : ℕ) (one : Numbered) (some : Done) → slice_get left.routines at ≡ Some one → one.done ≡ Some some → IsBlock last at some
  block_left at one some e has = by (finished_at s.draft.routines number at made one e)
    where
      by : (slice_get s.draft.routines at ≡ Some one) ⊎ ((first : Numbered) × (slice_get s.draft.routines at ≡ Some first) × (one ≡ with_done made first) × (number ≡ at)) → IsBlock last at some
      by (inl f) = r.blocks at one some f has
      by (inr f) =
          let is : Some made ≡ Some some = sym (ap (λ (x : Numbered). x.done) f.2) ∙ has in
          let same : made ≡ some = cc in
          let whole : IsBlock last number made = record { types = r.locals.0; body = body_left } in
          subst (λ (x : Done). IsBlock last at x) same (subst (λ (n : ℕ). IsBlock last n made) f.3 whole)

  methods_left : (at place_in : ℕ) (one : Numbered) (ty : TypeId) (method : Method) → slice_get left.routines at ≡ Some one → one.first.owner ≡ Some ty
      → slice_get (methods_of (definition s.draft.scope.types.types ty)) place_in ≡ Some method → method.routine.number ≡ at → one.first.header ≡ method.header
  methods_left at place_in one ty method e owned is same =
      let first = first_left at one e in
      ap (λ x. x.header) first.2 ∙ r.methods at place_in first.0 ty method first.1 (sym (ap (λ x. x.owner) first.2) ∙ owned) is same

  announced_left : (at : ℕ) (one : Numbered) → slice_get left.routines at ≡ Some one → IsAnnounced last at one.first
  announced_left at one e =
      let first = first_left at one e in
      subst (λ x. IsAnnounced last at x) (sym first.2) (r.announced at first.0 first.1)

  pub left_read : IsRead left frames
  left_read =
      let bottom : IsBottom s.draft.scope.blocks (suc (length (numbers_of frames))) = subst (λ (n : ℕ). IsBottom s.draft.scope.blocks (suc n)) (sym (length-map frames (λ (one : Frame). one.number))) r.bottom in
      record {
        known = fits_left (λ x. AreKnown (without_block s.draft.scope) x) (closed_known s.draft.scope last r.known);
        around = closed_open s.draft.scope.blocks number (numbers_of frames) bottom r.around;
        bottom = closed_bottom s.draft.scope.blocks (length frames) r.bottom;
        locals = fits_left (λ x. AreThere x frames) r.locals.1;
        own = each_weaker (IsOwn s.draft.routines) (IsOwn left.routines) own_left [] (outer s.draft.scope.blocks) (closed_each s.draft.scope (IsOwn s.draft.routines) r.own);
        values = closed_values s.draft.scope r.values;
        table = r.table;
        globals = r.globals;
        methods = methods_left;
        announced = λ at one e. fits_left (λ x. IsAnnounced x at one.first) (announced_left at one e);
        blocks = λ at one some e has. fits_left (λ x. IsBlock x at some) (block_left at one some e has);
      }

  pub left_since : Extends last (scope_of left frames)
  left_since = fits_left (λ x. Extends last x) (extends_itself last)

-- ---- the whole block

unnarrowed : (n : ℕ) → narrow n ≤ 16 → n ≤ 16
unnarrowed n h = by (nat_lt 4294967295 n) refl
  where
    by : (b : Bool) → nat_lt 4294967295 n ≡ b → n ≤ 16
    by true e =
        let above : 4294967295 ≤ n = grind arith in
        let most : narrow n ≡ 4294967295 = min-eq_right above in
        absurd (omega (arith, h, most))
    by false e =
        let low : n ≤ 4294967295 = grind arith in
        let same : narrow n ≡ n = min-eq_left low in
        omega (arith, h, same)

-- what is asked of the declarations of a block, with so many variables
abbrev pub DeclaredKeep : List ℕ → ℕ → (Site → Stage → Judgement Stage) → Type 0
DeclaredKeep unit count declared =
    (inner : Site) (s t : Stage) (frames : List Frame) → IsStage unit inner s frames → length s.locals + count < 2 ^ 31 → HasRoom t.draft → (declared inner s).holds t → StaysRead s t frames

module _ (unit : List ℕ) (d : Drafted) (frames : List Frame) (site : Site) (at : IsSite site frames) (o : Opened) (op : IsOpened d frames o) (named : slice_get o.draft.scope.units 0 ≡ Some unit) (place : Place)
    (body : CompoundStatement) (kept : IsKept body) (count : ℕ) (some : count < 2 ^ 31) (declared : Site → Stage → Judgement Stage) (rec : DeclaredKeep unit count declared) where
  abbrev inner_site : Site
  inner_site = site_in site o.begun

  inner_at : level_of site.home + 1 ≤ 16 → IsSite inner_site (frame o.begun.number [] ∷ frames)
  inner_at shallow =
      let next : level_of site.home + 1 ≡ suc (length frames) = (let e = at.level in omega (arith, e)) in
      record { level = level_is d frames site at o op shallow ∙ next; outer = refl }

  pub block_kept : (e : Drafted) → HasRoom e → (block_judged site place o body declared).holds e → IsRead e frames × Extends (scope_of d frames) (scope_of e frames)
  block_kept e few h =
      let g : Environment = h.part in
      let read = h.made in
      let s : Stage = read.part in
      let end = read.made.made in
      let depth = end.made in
      let shallow : level_of site.home + 1 ≤ 16 = unnarrowed (level_of site.home + 1) depth.holds.asked in
      let inner = inside_known d frames site at o op shallow place g h.holds in
      let keeps = inside_keeps (site_in site o.begun) place o.begun o.draft.scope g h.holds in
      let first = inside_read d frames site at o op shallow g inner keeps in
      let begun : IsStage unit inner_site (stage (knowing o.draft g) []) (frame o.begun.number [] ∷ frames) = record {
        stands = inner_at shallow;
        named = ap (λ (names : List (List ℕ)). slice_get names 0) keeps.units ∙ named;
        behind = inside_behind d frames site at o op shallow g inner keeps;
        read = first;
      } in
      let draft_is : e ≡ closed o.begun.number place s end.part = depth.made in
      let room = room_before s.draft e (closed_grows s e o.begun.number place end.part draft_is) few in
      let none : 0 + count < 2 ^ 31 = omega (arith, some) in
      let known = rec inner_site (stage (knowing o.draft g) []) s (frame o.begun.number [] ∷ frames) begun none room read.holds in
      let agrees = agrees_within s.draft.scope (scope_of s.draft (frame o.begun.number s.locals ∷ frames)) known.0.known in
      let literal : depth_in (view_statements body.statements.items) + 0 ≤ 2147483648 = (let k = kept.depth in omega (arith, k)) in
      let well : IsStatement (scope_over (scope_of s.draft (frame o.begun.number s.locals ∷ frames)) (open_in s.draft.scope)) end.part =
      stated_well (compound (view_statements body.statements.items)) s.draft.scope (scope_over (scope_of s.draft (frame o.begun.number s.locals ∷ frames)) (open_in s.draft.scope)) agrees end.part kept.literals literal end.holds in
      let left = left_read frames o.begun.number place s end.part known.0 well in
      let since = left_since frames o.begun.number place s end.part known.0 well in
      let opened_since = inside_since d frames site at o op shallow g inner keeps in
      let up : Extends (scope_of d frames) (scope_of s.draft (frame o.begun.number s.locals ∷ frames)) =
      extends_on (scope_of d frames) (scope_of (knowing o.draft g) (frame o.begun.number [] ∷ frames)) (scope_of s.draft (frame o.begun.number s.locals ∷ frames))
      (extends_on (scope_of d frames) (scope_of o.draft frames) (scope_of (knowing o.draft g) (frame o.begun.number [] ∷ frames)) op.since opened_since) known.1 in (
        subst (λ (x : Drafted). IsRead x frames) (sym draft_is) left,
        subst (λ (x : Drafted). Extends (scope_of d frames) (scope_of x frames)) (sym draft_is)
            (extends_on (scope_of d frames) (scope_of s.draft (frame o.begun.number s.locals ∷ frames)) (scope_of (closed o.begun.number place s end.part) frames) up since),
      )
