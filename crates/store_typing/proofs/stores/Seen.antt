-- What one unit says of a place or of a value, and what another says of it.
use Rattle.std.proofs.Common.{◌≡◌, ℕ, zero, suc, Bool, List, [], ◌∷◌, map, Some, None, refl, sym, ap, subst, ◌∙◌, arith}
use Rattle.std.specs.Prelude.{◌⊎◌, ℤ, slice_get, Option, option_and_then}
use Rattle.std.proofs.Common.{inl, inr, ⊎_elim}
use Rattle.std.specs.Option.{option_map}
use Rattle.std.proofs.lemmas.Option.{same_Some, option_and_then_some}
use Rattle.tp_meaning.specs.type_layout.declared.definitions.TypeId.{TypeId}
use Rattle.tp_meaning.specs.type_layout.declared.definitions.Kind.{Kind}
use Rattle.tp_meaning.specs.type_layout.declared.definitions.Param.{Param}
use Rattle.tp_meaning.specs.type_layout.declared.definitions.Header.{Header}
use Rattle.tp_meaning.specs.type_layout.declared.definitions.Field.{Field}
use Rattle.tp_meaning.specs.type_layout.declared.definitions.Method.{Method}
use Rattle.tp_meaning.specs.type_layout.declared.definitions.Host.{Host}
use Rattle.tp_meaning.specs.type_layout.declared.definitions.Host.TheVariants as host
use Rattle.tp_meaning.specs.type_layout.declared.definitions.TypeDef.{TypeDef}
use Rattle.tp_meaning.specs.type_layout.declared.definitions.TypeDef.TheVariants as type
use Rattle.tp_meaning.specs.type_layout.Storage.{storage_of}
use Rattle.tp_meaning.specs.type_layout.Table.{Table, IsObject, AllDefined}
use Rattle.tp_meaning.specs.typed_tree.declared.units.Program.{Program}
use Rattle.tp_meaning.specs.typed_tree.type_fits.Fits.{stored_as, ancestor, parent_of, Descends, shape_of, AreSameHeaders, JoinBy, Joins}
use Rattle.tp_meaning.specs.Trees.{Key, Spot, Value, Ordinal, Text, Elements, Nil, Block, Code, Class, At, Void}
use Rattle.tp_meaning.specs.Programs.{Sort, definition, class_key, beside, char_sort, integer_sort}
use Rattle.store_typing.specs.types.Declared.{DeclaredHeader, declared, declared_param, declared_header, AreAlike}
use Rattle.store_typing.specs.types.Agreement.{IsKnown, AreConsistent, IsOfLine}
use Rattle.store_typing.specs.types.Forms.{Number, Link, Routine, Form, Cell, form_at}
use Rattle.store_typing.proofs.types.Whole.{parent_is_object}
use Rattle.store_typing.proofs.types.Agreed.{defined, known_beside, known_within, known_at}
use Rattle.store_typing.proofs.types.SameForms.{whole, forms_agree}
use Rattle.store_typing.proofs.types.Lines.{has_parent, begins, object_alike}
use Rattle.store_typing.specs.stores.Worlds.{World, LeadsTo, IsHeld}
use Rattle.store_typing.specs.stores.Places.{Covers, Same, Heir, IsPlaceOf, IsSeenAs, Shared, Letter, Whole, IsValueBy, IsValueOf}

-- ---- lines

ancestor_further : (types : List TypeDef) (steps : ℕ) (own mid parent : TypeId) → ancestor types steps own ≡ Some mid → parent_of (slice_get types mid.0) ≡ Some parent → ancestor types (suc steps) own ≡ Some parent
ancestor_further types zero own mid parent e is =
    ap (option_and_then (ancestor types zero)) (ap (λ (t : TypeId). parent_of (slice_get types t.0)) (same_Some own mid e) ∙ is)
ancestor_further types (suc steps) own mid parent e is =
    option_and_then_some (ancestor types steps) (parent_of (slice_get types own.0)) mid e (λ above found rest.
    ap (option_and_then (ancestor types (suc steps))) found ∙ ancestor_further types steps above mid parent rest is)

-- a type stands in a table with its key, or it does not
abbrev NamesParent : Table → Option TypeDef → Option Key → Type 0
NamesParent table one key = (parent : TypeId) × (parent_of one ≡ Some parent) × (declared table parent ≡ key)

parent_alike : (a b : Table) (one other : TypeDef) → AreAlike a one b other → (parent : TypeId) → parent_of (Some other) ≡ Some parent → NamesParent a (Some one) (declared b parent)
parent_alike a b (type.ObjectOf (Some p) dynamic fields methods) (type.ObjectOf (Some p') dynamic' fields' methods') is parent e =
    (p, refl, same_Some (declared a p) (declared b p') is.0 ∙ ap (declared b) (same_Some p' parent e))
parent_alike a b (type.ObjectOf None dynamic fields methods) (type.ObjectOf (Some p') dynamic' fields' methods') is parent e = absurd (none is.0) where
  none : None ≡ Some (declared b p') → ⊥
  none same = cc
parent_alike a b (type.ObjectOf p dynamic fields methods) (type.ObjectOf None dynamic' fields' methods') is parent e = absurd cc
parent_alike a b one (type.Ordinal host low high) is parent e = absurd cc
parent_alike a b one (type.Str max) is parent e = absurd cc
parent_alike a b one (type.SetOf base) is parent e = absurd cc
parent_alike a b one (type.ArrayOf index element) is parent e = absurd cc
parent_alike a b one (type.RecordOf fields) is parent e = absurd cc
parent_alike a b one (type.PointerTo target) is parent e = absurd cc
parent_alike a b one (type.Procedural header) is parent e = absurd cc
parent_alike a b one other is parent e = absurd is

module _ (program : Program) (agreed : AreConsistent program) where
  -- the type that is reached on a line is one of the table
  pub reached_known : (own : Sort) (above : Option Key) → IsKnown program own → (of : IsOfLine own above) → IsKnown program (beside own of.ty)
  reached_known own above ko of =
      let start = begins own.table.types (defined program agreed own ko) of.steps own.ty of.ty of.reached in
      known_within program agreed own of.ty ko (omega (arith, start.before, known_at program agreed own ko))

  -- what descends from a type descends from its parent
  line_to_parent : (own top : Sort) → IsKnown program own → IsKnown program top → IsOfLine own (class_key top) → (parent : TypeId) → parent_of (definition top) ≡ Some parent
      → IsOfLine own (class_key (beside top parent))
  line_to_parent own top ko kt of parent is =
      let mid : Sort = beside own of.ty in
      let km = reached_known own (class_key top) ko of in
      let up = parent_alike mid.table top.table km.one kt.one (agreed.alike mid top km.one kt.one km kt km.is kt.is of.same) parent (ap parent_of (sym kt.is) ∙ is) in
      record {
        steps = suc of.steps;
        ty = up.0;
        reached = ancestor_further own.table.types of.steps own.ty of.ty up.0 of.reached (ap parent_of km.is ∙ up.1);
        same = up.2;
      }

  parent_known : (top : Sort) → IsKnown program top → (parent : TypeId) → parent_of (definition top) ≡ Some parent → IsKnown program (beside top parent)
  parent_known top kt parent is =
      let one_up : ancestor top.table.types 1 top.ty ≡ Some parent = ap (option_and_then (ancestor top.table.types 0)) is in
      reached_known top (class_key (beside top parent)) kt (record { steps = 1; ty = parent; reached = one_up; same = refl })

  -- and from all its ancestors
  pub line_along : (steps : ℕ) (own top : Sort) → IsKnown program own → IsKnown program top → IsOfLine own (class_key top) → (ty : TypeId) → ancestor top.table.types steps top.ty ≡ Some ty
      → IsOfLine own (class_key (beside top ty))
  line_along zero own top ko kt of ty e = subst (λ (t : TypeId). IsOfLine own (class_key (beside top t))) (same_Some top.ty ty e) of
  line_along (suc steps) own top ko kt of ty e =
      option_and_then_some (ancestor top.table.types steps) (parent_of (definition top)) ty e (λ parent is rest.
      line_along steps own (beside top parent) ko (parent_known top kt parent is) (line_to_parent own top ko kt of parent is) ty rest)

  object_above : (types : List TypeDef) (all : AllDefined [] types) (steps : ℕ) (own ty : TypeId) → ancestor types (suc steps) own ≡ Some ty → IsObject (slice_get types own.0)
  object_above types all steps own ty e =
      option_and_then_some (ancestor types steps) (parent_of (slice_get types own.0)) ty e (λ parent is rest.
      let has = has_parent types own parent (slice_get types own.0) refl is in subst IsObject (sym has.is) tt)

  -- ---- places

  is_object : (o : Option TypeDef) → IsObject o ⊎ (IsObject o → ⊥)
  is_object (Some (type.ObjectOf parent dynamic fields methods)) = inl tt
  is_object (Some (type.Ordinal host low high)) = inr (λ h. h)
  is_object (Some (type.Str max)) = inr (λ h. h)
  is_object (Some (type.SetOf base)) = inr (λ h. h)
  is_object (Some (type.ArrayOf index element)) = inr (λ h. h)
  is_object (Some (type.RecordOf fields)) = inr (λ h. h)
  is_object (Some (type.PointerTo target)) = inr (λ h. h)
  is_object (Some (type.Procedural header)) = inr (λ h. h)
  is_object None = inr (λ h. h)

  pub parent_object : (types : List TypeDef) (all : AllDefined [] types) (steps : ℕ) (own ty : TypeId) → ancestor types (suc steps) own ≡ Some ty → IsObject (slice_get types ty.0)
  parent_object types all zero own ty e =
      option_and_then_some (ancestor types 0) (parent_of (slice_get types own.0)) ty e (λ parent is rest.
      let has = has_parent types own parent (slice_get types own.0) refl is in
      subst (λ (t : TypeId). IsObject (slice_get types t.0)) (same_Some parent ty rest) (parent_is_object types all own parent has.dynamic has.fields has.methods has.is))
  parent_object types all (suc steps) own ty e =
      option_and_then_some (ancestor types (suc steps)) (parent_of (slice_get types own.0)) ty e (λ parent is rest. parent_object types all steps parent ty rest)

  -- the second is an object type where the first is, of the same declaration
  pub object_seen : (a b : Sort) → IsKnown program a → IsKnown program b → class_key a ≡ class_key b → IsObject (definition a) → IsObject (definition b)
  object_seen a b ka kb same is =
      subst IsObject (sym kb.is) (object_alike program agreed b.table a.table kb.one ka.one (agreed.alike b a kb.one ka.one kb ka kb.is ka.is (sym same)) (subst IsObject ka.is is))

  form_of_line : (own top : Sort) → IsKnown program own → IsKnown program top → (IsObject (definition top) → ⊥) → (steps : ℕ) (ty : TypeId) → ancestor own.table.types steps own.ty ≡ Some ty → declared own.table ty ≡ class_key top
      → form_at own ≡ form_at top
  form_of_line own top ko kt never zero ty e same = forms_agree program agreed own top ko kt (ap (declared own.table) (same_Some own.ty ty e) ∙ same)
  form_of_line own top ko kt never (suc steps) ty e same =
      let of : IsOfLine own (class_key top) = record { steps = suc steps; ty = ty; reached = e; same = same } in
      absurd (never (object_seen (beside own ty) top (reached_known own (class_key top) ko of) kt same (parent_object own.table.types (defined program agreed own ko) steps own.ty ty e)))

  -- what was made as a descendant covers a type
  pub covers_of_line : (own top : Sort) → IsKnown program own → IsKnown program top → IsOfLine own (class_key top) → Covers program top (form_at own)
  covers_of_line own top ko kt of = ⊎_elim
      (λ object. Heir own ko kt object of refl)
      (λ never. Same (form_of_line own top ko kt never of.steps of.ty of.reached of.same))
      (is_object (definition top))

  -- the form of an ordinal type
  ordinal_by : (a : Sort) → IsKnown program a → (h : Host) → (o : Option TypeDef) → definition a ≡ o → stored_as o ≡ Some h → form_at a ≡ Cell (Number h)
  ordinal_by a ka h (Some (type.Ordinal host low high)) e is = whole program agreed a (type.Ordinal host low high) ka e ∙ ap (λ (x : Host). Cell (Number x)) (same_Some (storage_of host low high) h is)
  ordinal_by a ka h (Some (type.Str max)) e is = absurd cc
  ordinal_by a ka h (Some (type.SetOf base)) e is = absurd cc
  ordinal_by a ka h (Some (type.ArrayOf index element)) e is = absurd cc
  ordinal_by a ka h (Some (type.RecordOf fields)) e is = absurd cc
  ordinal_by a ka h (Some (type.PointerTo target)) e is = absurd cc
  ordinal_by a ka h (Some (type.ObjectOf parent dynamic fields methods)) e is = absurd cc
  ordinal_by a ka h (Some (type.Procedural header)) e is = absurd cc
  ordinal_by a ka h None e is = absurd cc

  pub ordinal_form : (a : Sort) → IsKnown program a → (h : Host) → stored_as (definition a) ≡ Some h → form_at a ≡ Cell (Number h)
  ordinal_form a ka h is = ordinal_by a ka h (definition a) refl is

  letter_form : form_at char_sort ≡ Cell (Number host.Char)
  letter_form = refl

  whole_form : form_at integer_sort ≡ Cell (Number host.Integer)
  whole_form = refl

  -- one form, whatever unit says it
  pub seen_form : (one seen : Sort) → IsSeenAs program one seen → form_at one ≡ form_at seen
  seen_form one seen (Shared ko ks same) = forms_agree program agreed one seen ko ks same
  seen_form one seen (Letter is ks stored) = ap form_at is ∙ letter_form ∙ sym (ordinal_form seen ks host.Char stored)
  seen_form one seen (Whole is ks stored) = ap form_at is ∙ whole_form ∙ sym (ordinal_form seen ks host.Integer stored)

  pub covers_seen : (one seen : Sort) (form : Form) → IsSeenAs program one seen → Covers program one form → Covers program seen form
  covers_seen one seen form how (Same same) = Same (same ∙ seen_form one seen how)
  covers_seen one seen form (Shared ko ks same) (Heir own kw k object of is) =
      Heir own kw ks (object_seen one seen ko ks same object) (record { steps = of.steps; ty = of.ty; reached = of.reached; same = of.same ∙ same }) is
  covers_seen one seen form (Letter is ks stored) (Heir own kw k object of same) = absurd (subst (λ (s : Sort). IsObject (definition s)) is object)
  covers_seen one seen form (Whole is ks stored) (Heir own kw k object of same) = absurd (subst (λ (s : Sort). IsObject (definition s)) is object)

  -- what holds a descendant's covers the ancestor
  pub covers_above : (top : Sort) (ty : TypeId) (form : Form) → IsKnown program top → IsKnown program (beside top ty) → Descends top.table.types top.ty ty → Covers program top form → Covers program (beside top ty) form
  covers_above top ty form kt ku by (Same same) =
      subst (Covers program (beside top ty)) (sym same) (covers_of_line top (beside top ty) kt ku (record { steps = by.0; ty = ty; reached = by.1; same = refl }))
  covers_above top ty form kt ku by (Heir own kw k object of is) =
      subst (Covers program (beside top ty)) (sym is) (covers_of_line own (beside top ty) kw ku (line_along by.0 own top kw kt of ty by.1))

module _ (w : World) (agreed : AreConsistent w.program) where
  pub place_seen : (spot : Spot) (one seen : Sort) → IsSeenAs w.program one seen → IsPlaceOf w spot one → IsPlaceOf w spot seen
  place_seen spot one seen how h = record { form = h.form; lies = h.lies; covers = covers_seen w.program agreed one seen h.form how h.covers }

  pub place_above : (spot : Spot) (top : Sort) (ty : TypeId) → IsKnown w.program top → IsKnown w.program (beside top ty) → Descends top.table.types top.ty ty → IsPlaceOf w spot top → IsPlaceOf w spot (beside top ty)
  place_above spot top ty kt ku by h = record { form = h.form; lies = h.lies; covers = covers_above w.program agreed top ty h.form kt ku by h.covers }

  -- a block that a pointer leads to is a place of its target
  pub target_place : (serial : ℕ) (to : Sort) → IsKnown w.program to → LeadsTo w serial (class_key to) → IsPlaceOf w (record { object = serial; path = [] }) to
  target_place serial to kt leads = record { form = form_at leads.sort; lies = record { whole = leads.sort; made = leads.made; leads = refl }; covers = covers_of_line w.program agreed leads.sort to leads.known kt leads.line }

  -- ---- values

  text_same : (a b : Sort) (max max' : ℕ) (v : Value) → IsValueBy w a (Some (type.Str max)) v → IsValueBy w b (Some (type.Str max')) v
  text_same a b max max' (Text bytes) h = h
  text_same a b max max' v h = absurd h

  array_same : (a b : Sort) (i e i' e' : TypeId) (v : Value) → ((spot : Spot) → IsPlaceOf w spot a → IsPlaceOf w spot b) → IsValueBy w a (Some (type.ArrayOf i e)) v → IsValueBy w b (Some (type.ArrayOf i' e')) v
  array_same a b i e i' e' (At spot) move h = move spot h
  array_same a b i e i' e' v move h = absurd h

  record_same : (a b : Sort) (fields fields' : List Field) (v : Value) → ((spot : Spot) → IsPlaceOf w spot a → IsPlaceOf w spot b) → IsValueBy w a (Some (type.RecordOf fields)) v → IsValueBy w b (Some (type.RecordOf fields')) v
  record_same a b fields fields' (At spot) move h = move spot h
  record_same a b fields fields' v move h = absurd h

  object_same : (a b : Sort) (p p' : Option TypeId) (d d' : Bool) (fields fields' : List Field) (methods methods' : List Method) (v : Value) → ((spot : Spot) → IsPlaceOf w spot a → IsPlaceOf w spot b)
      → IsValueBy w a (Some (type.ObjectOf p d fields methods)) v → IsValueBy w b (Some (type.ObjectOf p' d' fields' methods')) v
  object_same a b p p' d d' fields fields' methods methods' (At spot) move h = move spot h
  object_same a b p p' d d' fields fields' methods methods' v move h = absurd h

  value_alike : (a b : Sort) (one other : TypeDef) (v : Value) → AreAlike a.table one b.table other → ((spot : Spot) → IsPlaceOf w spot a → IsPlaceOf w spot b) → IsValueBy w a (Some one) v → IsValueBy w b (Some other) v
  value_alike a b (type.Ordinal host low high) (type.Ordinal host' low' high') v is move h =
      let stored : storage_of host low high ≡ storage_of host' low' high' = ap (λ (x : Host). storage_of x low high) is.0 ∙ ap (λ x. storage_of host' x high) is.1 ∙ ap (λ x. storage_of host' low' x) is.2 in
      subst (λ (x : Host). IsHeld w (Number x) v) stored h
  value_alike a b (type.Str max) (type.Str max') v is move h = text_same a b max max' v h
  value_alike a b (type.SetOf base) (type.SetOf base') v is move h = h
  value_alike a b (type.PointerTo target) (type.PointerTo target') v is move h = subst (λ (x : Option Key). IsHeld w (Link x) v) is h
  value_alike a b (type.Procedural header) (type.Procedural header') v is move h = subst (λ (x : DeclaredHeader). IsHeld w (Routine x) v) is h
  value_alike a b (type.ArrayOf i e) (type.ArrayOf i' e') v is move h = array_same a b i e i' e' v move h
  value_alike a b (type.RecordOf fields) (type.RecordOf fields') v is move h = record_same a b fields fields' v move h
  value_alike a b (type.ObjectOf p d fields methods) (type.ObjectOf p' d' fields' methods') v is move h = object_same a b p p' d d' fields fields' methods methods' v move h
  value_alike a b one other v is move h = absurd is

  -- a value of a type is one of it in each unit
  pub value_shared : (a b : Sort) (v : Value) → IsKnown w.program a → IsKnown w.program b → class_key a ≡ class_key b → IsValueOf w a v → IsValueOf w b v
  value_shared a b v ka kb same h =
      subst (λ (o : Option TypeDef). IsValueBy w b o v) (sym kb.is)
      (value_alike a b ka.one kb.one v (agreed.alike a b ka.one kb.one ka kb ka.is kb.is same) (λ spot. place_seen spot a b (Shared ka kb same)) (subst (λ (o : Option TypeDef). IsValueBy w a o v) ka.is h))

  -- ---- values that join a type

  stored_same : (a b : Sort) (v : Value) (h : Host) (low high : ℤ) (other : Option TypeDef) → stored_as (Some (type.Ordinal h low high)) ≡ stored_as other → IsValueBy w b other v → IsHeld w (Number (storage_of h low high)) v
  stored_same a b v h low high (Some (type.Ordinal h' low' high')) same is = subst (λ (x : Host). IsHeld w (Number x) v) (sym (same_Some (storage_of h low high) (storage_of h' low' high') same)) is
  stored_same a b v h low high (Some (type.Str max)) same is = absurd cc
  stored_same a b v h low high (Some (type.SetOf base)) same is = absurd cc
  stored_same a b v h low high (Some (type.ArrayOf i e)) same is = absurd cc
  stored_same a b v h low high (Some (type.RecordOf fields)) same is = absurd cc
  stored_same a b v h low high (Some (type.PointerTo target)) same is = absurd cc
  stored_same a b v h low high (Some (type.ObjectOf p d fields methods)) same is = absurd cc
  stored_same a b v h low high (Some (type.Procedural header)) same is = absurd cc
  stored_same a b v h low high None same is = absurd cc

  -- ---- headers

  params_same : (table : Table) (xs ys : List Param) → map shape_of xs ≡ map shape_of ys → map (declared_param table) xs ≡ map (declared_param table) ys
  params_same table [] [] same = refl
  params_same table [] (y ∷ ys) same = absurd cc
  params_same table (x ∷ xs) [] same = absurd cc
  params_same table (x ∷ xs) (y ∷ ys) same =
      let first : shape_of x ≡ shape_of y = cc in
      let rest : map shape_of xs ≡ map shape_of ys = cc in
      ap (λ (s : Bool × TypeId). (s.0, declared table s.1) ∷ map (declared_param table) xs) first ∙ ap (λ (l : List (Bool × Option Key)). declared_param table y ∷ l) (params_same table xs ys rest)

  pub header_same : (table : Table) (one other : Header) → AreSameHeaders one other → declared_header table one ≡ declared_header table other
  header_same table one other same =
      let params : List (Bool × Option Key) = map (declared_param table) one.params in
      ap (λ (k : Kind). record { kind = k; params = params; result = option_map (declared table) one.result }) same.kind
      ∙ ap (λ (l : List (Bool × Option Key)). record { kind = other.kind; params = l; result = option_map (declared table) one.result }) (params_same table one.params other.params same.params)
      ∙ ap (λ (r : Option TypeId). record { kind = other.kind; params = map (declared_param table) other.params; result = option_map (declared table) r }) same.result

  -- ---- pointers and places of descendants

  leads_above : (serial : ℕ) (a : Sort) (given target : TypeId) → IsKnown w.program a → (steps : ℕ) → ancestor a.table.types steps given ≡ Some target → LeadsTo w serial (declared a.table given) → LeadsTo w serial (declared a.table target)
  leads_above serial a given target ka zero e h = subst (λ (t : TypeId). LeadsTo w serial (declared a.table t)) (same_Some given target e) h
  leads_above serial a given target ka (suc steps) e h =
      option_and_then_some (ancestor a.table.types steps) (parent_of (slice_get a.table.types given.0)) target e (λ parent is rest.
      let has = has_parent a.table.types given parent (slice_get a.table.types given.0) refl is in
      let top = known_beside w.program agreed a given (type.ObjectOf (Some parent) has.dynamic has.fields has.methods) ka has.is in
      record { sort = h.sort; known = h.known; made = h.made; line = line_along w.program agreed (suc steps) h.sort (beside a given) h.known top h.line target e })

  pointer_above : (a : Sort) (given target : TypeId) (v : Value) → IsKnown w.program a → Descends a.table.types given target → IsHeld w (Link (declared a.table given)) v → IsHeld w (Link (declared a.table target)) v
  pointer_above a given target Nil ka by h = tt
  pointer_above a given target (Block serial) ka by h = leads_above serial a given target ka by.0 by.1 h
  pointer_above a given target (Ordinal z) ka by h = absurd h
  pointer_above a given target (Text bytes) ka by h = absurd h
  pointer_above a given target (Elements set) ka by h = absurd h
  pointer_above a given target (Code routine) ka by h = absurd h
  pointer_above a given target (Class class) ka by h = absurd h
  pointer_above a given target (At spot) ka by h = absurd h
  pointer_above a given target Void ka by h = absurd h

  object_place : (a b : Sort) (x y : Option TypeDef) (v : Value) → IsObject x → IsObject y → ((spot : Spot) → IsPlaceOf w spot a → IsPlaceOf w spot b) → IsValueBy w a x v → IsValueBy w b y v
  object_place a b (Some (type.ObjectOf p d fields methods)) (Some (type.ObjectOf p' d' fields' methods')) v ox oy move h = object_same a b p p' d d' fields fields' methods methods' v move h
  object_place a b None y v ox oy move h = absurd ox
  object_place a b (Some (type.Ordinal host low high)) y v ox oy move h = absurd ox
  object_place a b (Some (type.Str max)) y v ox oy move h = absurd ox
  object_place a b (Some (type.SetOf base)) y v ox oy move h = absurd ox
  object_place a b (Some (type.ArrayOf i e)) y v ox oy move h = absurd ox
  object_place a b (Some (type.RecordOf fields)) y v ox oy move h = absurd ox
  object_place a b (Some (type.PointerTo target)) y v ox oy move h = absurd ox
  object_place a b (Some (type.Procedural header)) y v ox oy move h = absurd ox
  object_place a b x None v ox oy move h = absurd oy
  object_place a b x (Some (type.Ordinal host low high)) v ox oy move h = absurd oy
  object_place a b x (Some (type.Str max)) v ox oy move h = absurd oy
  object_place a b x (Some (type.SetOf base)) v ox oy move h = absurd oy
  object_place a b x (Some (type.ArrayOf i e)) v ox oy move h = absurd oy
  object_place a b x (Some (type.RecordOf fields)) v ox oy move h = absurd oy
  object_place a b x (Some (type.PointerTo target)) v ox oy move h = absurd oy
  object_place a b x (Some (type.Procedural header)) v ox oy move h = absurd oy

  module _ (a : Sort) (ty given : TypeId) (kt : IsKnown w.program (beside a ty)) (kg : IsKnown w.program (beside a given)) (v : Value) where
    descends_value : (steps : ℕ) → ancestor a.table.types steps given ≡ Some ty → IsValueOf w (beside a given) v → IsValueOf w (beside a ty) v
    descends_value zero e h = subst (λ (t : TypeId). IsValueOf w (beside a t) v) (same_Some given ty e) h
    descends_value (suc steps) e h =
        let all = defined w.program agreed (beside a given) kg in
        object_place (beside a given) (beside a ty) (definition (beside a given)) (definition (beside a ty)) v
        (object_above w.program agreed a.table.types all steps given ty e) (parent_object w.program agreed a.table.types all steps given ty e)
        (λ spot. place_above spot (beside a given) ty kg kt (suc steps, e)) h

    join_pair : (one other : TypeDef) → definition (beside a ty) ≡ Some one → definition (beside a given) ≡ Some other → JoinBy a.table.types (Descends a.table.types given ty) (Some one) (Some other)
        → IsValueBy w (beside a given) (Some other) v → IsValueBy w (beside a ty) (Some one) v
    join_pair (type.Ordinal host low high) other e e' is h = stored_same (beside a ty) (beside a given) v host low high (Some other) is.same h
    join_pair (type.Str max) (type.Str max') e e' is h = text_same (beside a given) (beside a ty) max' max v h
    join_pair (type.SetOf base) (type.SetOf base') e e' is h = h
    join_pair (type.PointerTo target) (type.PointerTo target') e e' is h = pointer_above (beside a ty) target' target v kt is h
    join_pair (type.Procedural header) (type.Procedural header') e e' is h = subst (λ (x : DeclaredHeader). IsHeld w (Routine x) v) (sym (header_same a.table header header' is)) h
    join_pair (type.ArrayOf i x) other e e' is h =
        subst (λ (o : Option TypeDef). IsValueBy w (beside a ty) o v) e (descends_value is.0 is.1 (subst (λ (o : Option TypeDef). IsValueBy w (beside a given) o v) (sym e') h))
    join_pair (type.RecordOf fields) other e e' is h =
        subst (λ (o : Option TypeDef). IsValueBy w (beside a ty) o v) e (descends_value is.0 is.1 (subst (λ (o : Option TypeDef). IsValueBy w (beside a given) o v) (sym e') h))
    join_pair (type.ObjectOf p d fields methods) other e e' is h =
        subst (λ (o : Option TypeDef). IsValueBy w (beside a ty) o v) e (descends_value is.0 is.1 (subst (λ (o : Option TypeDef). IsValueBy w (beside a given) o v) (sym e') h))
    join_pair one other e e' is h = absurd is

    -- a value that joins a type is one of it
    pub value_joins : Joins a.table.types ty given → IsValueOf w (beside a given) v → IsValueOf w (beside a ty) v
    value_joins joins h =
        let join : Option TypeDef → Option TypeDef → Type 0 = JoinBy a.table.types (Descends a.table.types given ty) in
        subst (λ (o : Option TypeDef). IsValueBy w (beside a ty) o v) (sym kt.is)
        (join_pair kt.one kg.one kt.is kg.is
        (subst (λ (o : Option TypeDef). join (Some kt.one) o) kg.is (subst (λ (o : Option TypeDef). join o (definition (beside a given))) kt.is joins))
        (subst (λ (o : Option TypeDef). IsValueBy w (beside a given) o v) kg.is h))
