-- Statements stay well formed.
use Rattle.std.proofs.Common.{◌≡◌, ◌⊎◌, List, [], ◌∷◌, ◌++◌, get_or, Option, Some, None, ap}
use Rattle.type_layout.specs.declared.definitions.TypeId.{TypeId}
use Rattle.type_layout.specs.declared.definitions.Header.{Header}
use Rattle.type_layout.specs.declared.definitions.TypeDef.{TypeDef}
use Rattle.type_layout.specs.declared.definitions.TypeDef.TheVariants as type
use Rattle.typed_tree.specs.declared.expressions.Variable.{Variable}
use Rattle.typed_tree.specs.declared.statements.Destructor.{Destructor}
use Rattle.typed_tree.specs.declared.statements.Destructor.TheVariants as destructor
use Rattle.typed_tree.specs.Expressions.{Expression, Place, Arguments}
use Rattle.typed_tree.specs.Statements.{Statement, Statements, Arms, Written, Taken, Assign, CopyAll, Run, If, While, Repeat, Block, Case, For, With, WriteItems, ReadItems, Halt, Exit, Unmake, NoStatements, Then, NoArms, Branch}
use Rattle.typed_tree.specs.type_fits.Fits.{definition, family_of, IsSome, IsInteger, IsBoolean, IsRecord, IsObject, IsStructured, IsReadable, IsWritable, AreStoredAlike}
use Rattle.well_formed.specs.Scopes.{Prototype, Scope}
use Rattle.well_formed.specs.Typed.{IsTyped, HasPlace, TakeEach, sort_of}
use Rattle.well_formed.specs.WellFormed.{IsCondition, IsCount, IsWidth, IsWritten, IsTaken, IsAssignment, IsCopy, IsCounted, IsDestructorOf, IsDestructor, IsUnmade, within, IsStatement, AreStatements, AreArms}
use Rattle.well_formed.specs.Laws.{HaveTypes}
use Rattle.well_formed.specs.weakening.Weakening.{Weakens}
use Rattle.well_formed.proofs.weakening.Nodes.{asked, descends, is_object, sorted, takes, variable, routine, slot_fits, place_type, typed, place, taken}

-- inside a `with` too
within_weakens : (s t : Scope) (ty : TypeId) → Weakens s t → Weakens (within s ty) (within t ty)
within_weakens s t ty w = record {
  defined = w.defined;
  types = w.types;
  others = w.others;
  globals = w.globals;
  routines = w.routines;
  around = w.around;
  levels = w.levels;
  withs = ap (λ (all : List TypeId). all ++ ty ∷ []) w.withs;
}

module _ (have : HaveTypes) (s t : Scope) (w : Weakens s t) where
  condition : (e : Expression) → IsCondition s e → IsCondition t e
  condition e h = (typed have s t w e h.0, sorted have s t w (λ (d : Option TypeDef). IsBoolean d) e h.0 h.1)

  count : (e : Expression) → IsCount s e → IsCount t e
  count e h = (typed have s t w e h.0, sorted have s t w (λ (d : Option TypeDef). IsInteger d) e h.0 h.1)

  width : (e : Option Expression) → IsWidth s e → IsWidth t e
  width None h = tt
  width (Some e) h = count e h

  written : (one : Written) → IsWritten s one → IsWritten t one
  written one h = record {
    value = typed have s t w one.value h.value;
    sort = sorted have s t w (λ (d : Option TypeDef). IsWritable d) one.value h.value h.sort;
    width = width one.width h.width;
  }

  read : (one : Taken) → IsTaken s one → IsTaken t one
  read one h = record {
    place = place have s t w one.at one.ty h.place;
    sort = asked have s t w (λ (d : Option TypeDef). IsReadable d) one.ty (place_type have s t w one.at one.ty h.place) h.sort;
  }

  pub assigned : (at : Place) (e : Expression) → IsAssignment s at e → IsAssignment t at e
  assigned at e h = record {
    ty = h.ty;
    place = place have s t w at h.ty h.place;
    simple = asked have s t w (λ (d : Option TypeDef). IsStructured d → ⊥) h.ty (place_type have s t w at h.ty h.place) h.simple;
    typed = typed have s t w e h.typed;
    takes = takes have s t w h.ty e h.typed h.takes;
  }

  pub copied : (to from : Place) → IsCopy s to from → IsCopy t to from
  copied to from h = record {
    ty = h.ty;
    given = h.given;
    target = place have s t w to h.ty h.target;
    source = place have s t w from h.given h.source;
    structured = asked have s t w (λ (d : Option TypeDef). IsStructured d) h.ty (place_type have s t w to h.ty h.target) h.structured;
    joins = descends have s t w h.given h.ty h.joins;
  }

  counted : (v : Variable) (ty : TypeId) (from to : Expression) → IsCounted s v ty from to → IsCounted t v ty from to
  counted v ty from to h =
      let like : (e : Expression) → IsTyped s e → AreStoredAlike (definition s.types ty) (sort_of s.types e) → AreStoredAlike (definition t.types ty) (sort_of t.types e) =
      λ e there k. asked have s t w (λ (d : Option TypeDef). AreStoredAlike d (sort_of t.types e)) ty h.has.0 (sorted have s t w (λ (d : Option TypeDef). AreStoredAlike (definition s.types ty) d) e there k) in
      record {
        has = variable have s t w v ty h.has;
        near = h.near;
        first = typed have s t w from h.first;
        first_like = like from h.first h.first_like;
        last = typed have s t w to h.last;
        last_like = like to h.last h.last_like;
      }

  freed_by : (class : TypeId) (one : Prototype) → IsDestructorOf s.types class one → IsDestructorOf t.types class one
  freed_by class one h = record { kind = h.kind; owner = h.owner; owned = h.owned; inherited = descends have s t w class h.owner h.inherited }

  freed : (class : TypeId) (with : Destructor) (args : Arguments) → IsObject (definition s.types class) → IsDestructor s class with args → IsDestructor t class with args
  freed class (destructor.Routine one) args object h =
      let A : Prototype → Type 0 = λ (seen : Prototype). IsDestructorOf s.types class seen × TakeEach s seen.header.params args in
      let B : Prototype → Type 0 = λ (seen : Prototype). IsDestructorOf t.types class seen × TakeEach t seen.header.params args in
      routine have s t w A B one (λ seen k. (freed_by class seen k.0, taken have s t w args seen.header.params k.1)) h
  freed class (destructor.Slot slot checked) args object h =
      let T : Header → Type 0 = λ (header : Header). TakeEach s header.params args in
      let U : Header → Type 0 = λ (header : Header). TakeEach t header.params args in
      slot_fits have s t w class slot T U object (λ header k. taken have s t w args header.params k) h

  unmade : (pointer : Expression) (with : Destructor) (args : Arguments) → IsUnmade s pointer with args → IsUnmade t pointer with args
  unmade pointer with args h = record {
    class = h.class;
    typed = typed have s t w pointer h.typed;
    points = sorted have s t w (λ (d : Option TypeDef). d ≡ Some (type.PointerTo h.class)) pointer h.typed h.points;
    object = is_object have s t w h.class h.object;
    destructor = freed h.class with args h.object h.destructor;
  }

  chosen : (e : Expression) → IsTyped s e → IsSome (family_of (sort_of s.types e)) → IsSome (family_of (sort_of t.types e))
  chosen e h k = sorted have s t w (λ (d : Option TypeDef). IsSome (family_of d)) e h k

  fields_there : (at : Place) (ty : TypeId) → HasPlace s at ty → (IsRecord (definition s.types ty) ⊎ IsObject (definition s.types ty)) → (IsRecord (definition t.types ty) ⊎ IsObject (definition t.types ty))
  fields_there at ty there h = asked have s t w (λ (d : Option TypeDef). IsRecord d ⊎ IsObject d) ty (place_type have s t w at ty there) h

mutual
  pub statement : (have : HaveTypes) (one : Statement) (s t : Scope) → Weakens s t → IsStatement s one → IsStatement t one
  statement have (Assign at e) s t w h = assigned have s t w at e h
  statement have (CopyAll to from) s t w h = copied have s t w to from h
  statement have (Run call) s t w h = (typed have s t w call h.0, h.1)
  statement have (If e one other) s t w h = (condition have s t w e h.0, statement have one s t w h.1, statement have other s t w h.2)
  statement have (While e body) s t w h = (condition have s t w e h.0, statement have body s t w h.1)
  statement have (Repeat body e) s t w h = (statement have body s t w h.0, condition have s t w e h.1)
  statement have (Block all) s t w h = statements have all s t w h
  statement have (Case e all other) s t w h = (typed have s t w e h.0, chosen have s t w e h.0 h.1, arms have all s t w h.2, statement have other s t w h.3)
  statement have (For v ty from to down checked body) s t w h = (counted have s t w v ty from to h.0, statement have body s t w h.1)
  statement have (With at body) s t w h =
      (h.0, place have s t w at h.0 h.1, fields_there have s t w at h.0 h.1 h.2, statement have body (within s h.0) (within t h.0) (within_weakens s t h.0 w) h.3)
  statement have (WriteItems items line) s t w h = λ k d below. written have s t w (get_or items k d) (h k d below)
  statement have (ReadItems items line) s t w h = λ k d below. read have s t w (get_or items k d) (h k d below)
  statement have (Halt e) s t w h = count have s t w e h
  statement have Exit s t w h = tt
  statement have (Unmake pointer with args) s t w h = unmade have s t w pointer with args h

  statements : (have : HaveTypes) (all : Statements) (s t : Scope) → Weakens s t → AreStatements s all → AreStatements t all
  statements have NoStatements s t w h = tt
  statements have (Then one rest) s t w h = (statement have one s t w h.0, statements have rest s t w h.1)

  arms : (have : HaveTypes) (all : Arms) (s t : Scope) → Weakens s t → AreArms s all → AreArms t all
  arms have NoArms s t w h = tt
  arms have (Branch labels body rest) s t w h = (h.0, statement have body s t w h.1, arms have rest s t w h.2)
