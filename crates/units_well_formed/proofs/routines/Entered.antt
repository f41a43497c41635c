-- The block of a routine is opened: its parameters are known in it, and the instance of a method.
use Rattle.std.proofs.Common.{◌≡◌, ℕ, suc, ◌+◌, ◌≤◌, ◌==◌, Bool, true, cond, All, List, [], ◌∷◌, ◌++◌, length, map, Option, Some, None, refl, sym, subst, ap, ◌∙◌, arith}
use Rattle.std.proofs.lemmas.List.{length-map}
use Rattle.std.specs.Prelude.{slice_get, codes}
use Rattle.std.proofs.Math.Nat.{min-eq_left}
use Rattle.std.proofs.lemmas.Bool.Decides.{Decides-eqb}
use Rattle.std.proofs.lemmas.List.Elements.{All-nil, All-cons, All-head, All-tail}
use Rattle.declarations_well_formed.specs.type_layout.declared.definitions.TypeId.{TypeId}
use Rattle.declarations_well_formed.specs.type_layout.declared.definitions.Param.{Param}
use Rattle.declarations_well_formed.specs.type_layout.declared.definitions.TypeDef.{TypeDef}
use Rattle.declarations_well_formed.specs.type_layout.declared.definitions.TypeDef.TheVariants as type
use Rattle.declarations_well_formed.specs.type_layout.declared.texts.Place.{Place}
use Rattle.declarations_well_formed.specs.typed_tree.declared.units.Routine.{Routine}
use Rattle.declarations_well_formed.specs.typed_tree.type_fits.Fits.{definition, IsSome, IsObject, shape_of}
use Rattle.declarations_well_formed.specs.typed_tree.type_fits.Routines.{listed, variables_of}
use Rattle.declarations_well_formed.specs.well_formed.Scopes.{Scope, HasType}
use Rattle.declarations_well_formed.specs.well_formed.WellFormed.{IsOwner}
use Rattle.declarations_well_formed.specs.scopes.declared.entries.Entry.{Entry}
use Rattle.declarations_well_formed.specs.scopes.declared.entries.Entry.TheVariants as entry
use Rattle.declarations_well_formed.specs.scopes.Members.{narrow}
use Rattle.declarations_well_formed.specs.scopes.Environment.{Environment, with_name}
use Rattle.declarations_well_formed.specs.declaration_checker.type_denoters.Additions.{entered}
use Rattle.declarations_well_formed.specs.tp_check_decl.routines.Drafts.{Numbered}
use Rattle.declarations_well_formed.specs.tp_check_decl.routines.Insides.{params_entered, self_entered}
use Rattle.declarations_well_formed.specs.rules_well_formed.nodes.Tables.{IsInTable}
use Rattle.declarations_well_formed.proofs.rules_well_formed_proofs.nodes.Fields.{get-append}
use Rattle.declarations_well_formed.specs.bodies_well_formed.other_units.Known.{open_in, at_level, IsEntry, EachIn, AreKnown}
use Rattle.declarations_well_formed.specs.bodies_well_formed.other_units.Others.{others_of}
use Rattle.declarations_well_formed.proofs.bodies_well_formed_proofs.other_units.Entering.{named_known, named_open, named_each}
use Rattle.declarations_well_formed.specs.values.Values.{IsConstantIn, HasValues}
use Rattle.units_well_formed.specs.routines.Reading.{IsOwn, IsBottom}
use Rattle.units_well_formed.proofs.routines.Bottoms.{named_bottom}
use Rattle.units_well_formed.proofs.routines.Constants.{named_values}

-- an entry that was put into the innermost block
pub entered_is : (g : Environment) (place : Place) (name : List ℕ) (one : Entry) (h : Environment) → (entered g place name one).holds h → h ≡ with_name g name one
unfolding entered
entered_is g place name one h k = k.made

-- ---- inside a block

-- what holds in the block of the routine with the first of these numbers
pub record IsInner (routines : List Numbered) (s : Scope) (numbers : List ℕ) (g : Environment) : Type 0 where
  pub known : AreKnown g s
  pub around : open_in g ≡ numbers
  pub own : EachIn (IsOwn routines) [] g.blocks
  pub values : HasValues g
  pub bottom : IsBottom g.blocks (length numbers)
  pub others : others_of g ≡ s.others

module _ (routines : List Numbered) (s : Scope) where
  pub named_inner : (numbers : List ℕ) (g : Environment) (name : List ℕ) (one : Entry) → IsInner routines s numbers g → IsEntry s numbers one → IsOwn routines numbers one → IsConstantIn g.types.types one
      → IsInner routines s numbers (with_name g name one)
  named_inner numbers g name one h known own constant = record {
    known = named_known g s name one h.known (subst (λ (o : List ℕ). IsEntry s o one) (sym h.around) known);
    around = named_open g name one ∙ h.around;
    own = named_each g name one (IsOwn routines) h.own (subst (λ (o : List ℕ). IsOwn routines o one) (sym h.around) own);
    values = named_values g name one h.values constant;
    bottom = named_bottom g name one (length numbers) h.bottom;
    others = h.others;
  }

  module _ (number : ℕ) (around : List ℕ) (one : Routine) (is : slice_get s.routines number ≡ Some one) where
    at_top : at_level (number ∷ around) (suc (length around)) ≡ Some number
    at_top =
        let next : suc (length around) ≡ length around + 1 = omega arith in
        let yes : (suc (length around) == length around + 1) ≡ true = (Decides-eqb (suc (length around)) (length around + 1)).1 next in
        ap (λ (b : Bool). cond b (Some number) (at_level around (suc (length around)))) yes

    -- a variable of the routine
    own_variable : (place : ℕ) (ty : TypeId) → HasType s ty → slice_get (variables_of one) place ≡ Some ty → IsEntry s (number ∷ around) (entry.Var 0 (suc (length around)) place ty)
    own_variable place ty there v = (there, record { routine = number; opened = at_top; one = one; is = is; variable = v })

    variable_inner : (level place : ℕ) (ty : TypeId) (g : Environment) (name : List ℕ) → level ≡ suc (length around) → HasType s ty → slice_get (variables_of one) place ≡ Some ty
        → IsInner routines s (number ∷ around) g → IsInner routines s (number ∷ around) (with_name g name (entry.Var 0 level place ty))
    variable_inner level place ty g name at there v h =
        subst (λ (l : ℕ). IsInner routines s (number ∷ around) (with_name g name (entry.Var 0 l place ty))) (sym at)
        (named_inner (number ∷ around) g name (entry.Var 0 (suc (length around)) place ty) h (own_variable place ty there v) refl tt)

    abbrev types_in : List Param → List TypeId
    types_in params = map (λ (param : Param). param.ty) params

    pub params_inner : (params : List Param) (level : ℕ) (place : Place) (first : ℕ) (g h : Environment) → level ≡ suc (length around) → All (λ (param : Param). IsInTable s.types param.ty) params
        → ((k : ℕ) (ty : TypeId) → slice_get (types_in params) k ≡ Some ty → slice_get (variables_of one) (first + k) ≡ Some ty) → first + length params ≤ 4294967295
        → IsInner routines s (number ∷ around) g → (params_entered level place first g params).holds h → IsInner routines s (number ∷ around) h
    params_inner [] level place first g h at there these few inner k = subst (λ (e : Environment). IsInner routines s (number ∷ around) e) (sym k) inner
    params_inner (param ∷ rest) level place first g h at there these few inner k =
        let mid : k.part ≡ with_name g param.name (entry.Var 0 level first param.ty) = entered_is g place param.name (entry.Var 0 level first param.ty) k.part k.holds in
        let zero_more : first + 0 ≡ first = omega arith in
        let here : slice_get (variables_of one) first ≡ Some param.ty = ap (λ (n : ℕ). slice_get (variables_of one) n) (sym zero_more) ∙ these 0 param.ty refl in
        let next : IsInner routines s (number ∷ around) k.part =
        subst (λ (e : Environment). IsInner routines s (number ∷ around) e) (sym mid)
        (variable_inner level first param.ty g param.name at (All-head (λ (p : Param). IsInTable s.types p.ty) param rest there) here inner) in
        let small : first + 1 ≤ 4294967295 = omega (arith, few) in
        let same : narrow (first + 1) ≡ first + 1 = min-eq_left small in
        let behind : (j : ℕ) (ty : TypeId) → slice_get (types_in rest) j ≡ Some ty → slice_get (variables_of one) (narrow (first + 1) + j) ≡ Some ty =
        λ j ty e. (let at_j : narrow (first + 1) + j ≡ first + suc j = omega (arith, same) in ap (λ (n : ℕ). slice_get (variables_of one) n) at_j ∙ these (suc j) ty e) in
        let less : narrow (first + 1) + length rest ≤ 4294967295 = omega (arith, same, few) in
        params_inner rest level place (narrow (first + 1)) k.part h at (All-tail (λ (p : Param). IsInTable s.types p.ty) param rest there) behind less next k.made

    object_type : (d : Option TypeDef) → IsObject d → IsSome d
    object_type (Some (type.ObjectOf parent dynamic fields methods)) h = tt
    object_type d h = absurd h

    -- Self is behind the parameters
    self_variable : (ty : TypeId) → one.owner ≡ Some ty → slice_get (variables_of one) (length one.header.params) ≡ Some ty
    self_variable ty owned =
        let params : List TypeId = types_in one.header.params in
        let place : length params + 0 ≡ length one.header.params = (let c = length-map one.header.params (λ (param : Param). param.ty) in omega (arith, c)) in
        ap (λ (n : ℕ). slice_get (variables_of one) n) (sym place)
        ∙ get-append params (listed one.owner ++ (listed one.header.result ++ one.locals)) 0
        ∙ ap (λ (o : Option TypeId). slice_get (listed o ++ (listed one.header.result ++ one.locals)) 0) owned

    pub self_inner : (owner : Option TypeId) (level : ℕ) (place : Place) (at_place : ℕ) (g h : Environment) → level ≡ suc (length around) → one.owner ≡ owner → IsOwner s owner → at_place ≡ length one.header.params
        → IsInner routines s (number ∷ around) g → (self_entered level place at_place owner g).holds h → IsInner routines s (number ∷ around) h
    self_inner None level place at_place g h at owned there where_is inner k = subst (λ (e : Environment). IsInner routines s (number ∷ around) e) (sym k) inner
    self_inner (Some ty) level place at_place g h at owned there where_is inner k =
        let is_named : h ≡ with_name g (codes "SELF") (entry.Var 0 level at_place ty) = entered_is g place (codes "SELF") (entry.Var 0 level at_place ty) h k in
        let v : slice_get (variables_of one) at_place ≡ Some ty = ap (λ (n : ℕ). slice_get (variables_of one) n) where_is ∙ self_variable ty owned in
        subst (λ (e : Environment). IsInner routines s (number ∷ around) e) (sym is_named)
        (variable_inner level at_place ty g (codes "SELF") at (object_type (definition s.types ty) there) v inner)

-- the types of parameters that are taken alike
pub types_alike : (params others : List Param) → map shape_of params ≡ map shape_of others → map (λ (param : Param). param.ty) params ≡ map (λ (param : Param). param.ty) others
types_alike [] [] e = refl
types_alike [] (other ∷ others) e = let bad : ⊥ = cc in absurd bad
types_alike (param ∷ params) [] e = let bad : ⊥ = cc in absurd bad
types_alike (param ∷ params) (other ∷ others) e =
    let first : shape_of param ≡ shape_of other = cc in
    let rest : map shape_of params ≡ map shape_of others = cc in
    let ty : param.ty ≡ other.ty = ap (λ (p : Bool × TypeId). p.1) first in
    ap (λ (t : TypeId). t ∷ map (λ (param : Param). param.ty) params) ty ∙ ap (λ (ts : List TypeId). other.ty ∷ ts) (types_alike params others rest)

-- they are in the table, where the others' are
pub all_alike : (types : List TypeDef) (params others : List Param) → map shape_of params ≡ map shape_of others → All (λ (param : Param). IsInTable types param.ty) others
    → All (λ (param : Param). IsInTable types param.ty) params
all_alike types [] others e h = All-nil (λ (param : Param). IsInTable types param.ty)
all_alike types (param ∷ params) [] e h = let bad : ⊥ = cc in absurd bad
all_alike types (param ∷ params) (other ∷ others) e h =
    let first : shape_of param ≡ shape_of other = cc in
    let rest : map shape_of params ≡ map shape_of others = cc in
    let ty : param.ty ≡ other.ty = ap (λ (p : Bool × TypeId). p.1) first in
    All-cons (λ (p : Param). IsInTable types p.ty) param params
    (subst (λ (t : TypeId). IsInTable types t) (sym ty) (All-head (λ (p : Param). IsInTable types p.ty) other others h))
    (all_alike types params others rest (All-tail (λ (p : Param). IsInTable types p.ty) other others h))
