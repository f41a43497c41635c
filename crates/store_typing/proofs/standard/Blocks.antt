-- New, Dispose and SizeOf.
use Rattle.std.proofs.Common.{◌≡◌, ℕ, ◌+◌, Bool, true, false, List, [], ◌∷◌, ◌++◌, length, Some, None, refl, sym, ap, subst, ◌∙◌}
use Rattle.std.specs.Prelude.{nat_lt, if◌then◌else◌, Option, Ok, Err, slice_get}
use Rattle.tp_meaning.specs.type_layout.declared.definitions.TypeId.{TypeId}
use Rattle.tp_meaning.specs.type_layout.declared.definitions.Host.TheVariants as host
use Rattle.tp_meaning.specs.type_layout.declared.definitions.TypeDef.{TypeDef}
use Rattle.tp_meaning.specs.type_layout.declared.definitions.TypeDef.TheVariants as type
use Rattle.tp_meaning.specs.common_values.Blocks.{block_sum}
use Rattle.tp_meaning.specs.typed_tree.Standard as routine
use Rattle.tp_meaning.specs.typed_tree.type_fits.Fits.{stored_as, IsPointer}
use Rattle.tp_meaning.specs.typed_tree.type_fits.Standard.{Pointer, PointerVariable}
use Rattle.tp_meaning.specs.Trees.{Key, Value, Nil, Block}
use Rattle.tp_meaning.specs.Found.{Found, Error, ◌>>=◌, known}
use Rattle.tp_meaning.specs.Shapes.{new_tree}
use Rattle.tp_meaning.specs.Store.{Object, Store, next_serial, disposed}
use Rattle.tp_meaning.specs.Programs.{Sort, definition, beside, size_in, heap_of, class_key}
use Rattle.tp_meaning.specs.Activations.{Reached, assigned}
use Rattle.tp_meaning.specs.Standard.{Operand, Given, Named, New, Dispose, target_of, target, with_new_block, made, made_for, disposed_by, place_arg}
use Rattle.store_typing.specs.types.Declared.{declared, AreAlike}
use Rattle.store_typing.specs.types.Forms.{Link}
use Rattle.store_typing.specs.types.Agreement.{IsKnown, AreConsistent}
use Rattle.store_typing.proofs.types.Agreed.{lawful, known_within}
use Rattle.store_typing.specs.stores.Worlds.{Made, Own, World, LeadsTo, IsHeld}
use Rattle.store_typing.specs.stores.Places.{IsSeenAs, Shared, Letter, Whole, IsAt, IsValueBy, IsValueOf}
use Rattle.store_typing.specs.stores.Stores.{IsTypedStore, Finds}
use Rattle.store_typing.proofs.stores.Paths.{finds_bind, finds_more}
use Rattle.store_typing.proofs.stores.Grown.{grown, grows_by, at_grows}
use Rattle.store_typing.proofs.stores.NewTrees.{new_has}
use Rattle.store_typing.proofs.stores.Kept.{with_new_keeps, disposed_keeps}
use Rattle.store_typing.proofs.stores.Steps.{assigns}
use Rattle.store_typing.specs.standard.Operands.{IsOperand}
use Rattle.store_typing.specs.standard.Laws.{IsTypedLater, IsSoundCall}
use Rattle.store_typing.proofs.standard.Arguments.{pointer_named}
use Rattle.store_typing.proofs.standard.Variables.{pointer_simple, later}

-- ---- pointers

-- what a pointer type points to, in two tables
record Targets (a b : Sort) : Type 0 where
  one : TypeId
  other : TypeId
  is : definition a ≡ Some (type.PointerTo one)
  also : definition b ≡ Some (type.PointerTo other)
  same : declared a.table one ≡ declared b.table other

targets_by : (a b : Sort) (one other : TypeDef) → definition a ≡ Some one → definition b ≡ Some other → AreAlike a.table one b.table other → IsPointer (Some other) → Targets a b
targets_by a b (type.PointerTo t) (type.PointerTo t') e e' is p = record { one = t; other = t'; is = e; also = e'; same = is }
targets_by a b one (type.Ordinal h low high) e e' is p = absurd p
targets_by a b one (type.Str max) e e' is p = absurd p
targets_by a b one (type.SetOf base) e e' is p = absurd p
targets_by a b one (type.ArrayOf i x) e e' is p = absurd p
targets_by a b one (type.RecordOf fields) e e' is p = absurd p
targets_by a b one (type.ObjectOf q d fields methods) e e' is p = absurd p
targets_by a b one (type.Procedural header) e e' is p = absurd p
targets_by a b one other e e' is p = absurd is

target_found : (sort : Sort) (t : TypeId) → definition sort ≡ Some (type.PointerTo t) → target sort ≡ Ok (beside sort t)
target_found sort t e = ap (target_of sort) e

pointer_stored : {A : Type 0} (o : Option TypeDef) (h : _) → IsPointer o → stored_as o ≡ Some h → A
pointer_stored (Some (type.PointerTo t)) h p e = absurd cc
pointer_stored o h p e = absurd p

module _ (w : World) (agreed : AreConsistent w.program) where
  -- a block is made for a type, and a pointer may lead to it
  pub record IsMadeFor (sort : Sort) (serial : ℕ) (store : Store) : Type 0 where
    pub typed : IsTypedStore (grown w (Own sort ∷ [])) store
    pub leads : LeadsTo (grown w (Own sort ∷ [])) serial (class_key sort)

  last_made : (made : List Made) (one : Made) → slice_get (made ++ one ∷ []) (length made) ≡ Some one
  last_made [] one = refl
  last_made (m ∷ made) one = last_made made one

  module _ (store : Store) (typed : IsTypedStore w store) where
    in_heap : (sort : Sort) (full : Bool) → IsMadeFor sort (next_serial store) (with_new_block store sort) → Finds (IsMadeFor sort (next_serial store)) (if full then Err (Error 203) else Ok (with_new_block store sort))
    in_heap sort true is = tt
    in_heap sort false is = is

    pub block_made : (sort : Sort) → IsKnown w.program sort → Finds (IsMadeFor sort (next_serial store)) (made w.program sort store)
    block_made sort ks =
        let more : List Made = Own sort ∷ [] in
        let block : Object = record { tree = new_tree sort.table.types sort.ty; bytes = size_in sort } in
        let kept = with_new_keeps w store typed more (Some block ∷ []) (new_has (grown w more) sort.table sort.ty, tt) in
        let leads : LeadsTo (grown w more) (next_serial store) (class_key sort) = record {
          sort = sort;
          known = ks;
          made = ap (slice_get (w.made ++ more)) typed.count ∙ last_made w.made (Own sort);
          line = record { steps = 0; ty = sort.ty; reached = refl; same = refl };
        } in
        in_heap sort (nat_lt (heap_of w.program) (block_sum (with_new_block store sort).rows)) (record { typed = record { count = kept.count; objects = kept.objects }; leads = leads })

    made_keeps : (at : Reached) (seen : Sort) → IsAt w at seen → IsPointer (definition seen) → Finds (IsTypedLater w) (made_for w.program at store)
    made_keeps at seen is p = by is.same where
      by : IsSeenAs w.program at.sort seen → Finds (IsTypedLater w) (made_for w.program at store)
      by (Shared ko ks same) =
          let t = targets_by at.sort seen ko.one ks.one ko.is ks.is (agreed.alike at.sort seen ko.one ks.one ko ks ko.is ks.is same) (subst IsPointer ks.is p) in
          let law = lawful w.program agreed at.sort ko in
          let sort : Sort = beside at.sort t.one in
          let kt = known_within w.program agreed at.sort t.one ko (law.targets at.sort.ty.0 t.one t.is) in
          let v : World = grown w (Own sort ∷ []) in
          let grows = grows_by w (Own sort ∷ []) in
          subst (λ (f : Found Sort). Finds (IsTypedLater w) (f >>= λ sort. made w.program sort store >>= assigned at (Block (next_serial store)))) (sym (target_found at.sort t.one t.is))
          (finds_bind (IsMadeFor sort (next_serial store)) (IsTypedLater w) (made w.program sort store) (assigned at (Block (next_serial store))) (block_made sort kt) (λ after done.
          let value : IsValueOf v seen (Block (next_serial store)) =
          subst (λ (o : Option TypeDef). IsValueBy v seen o (Block (next_serial store))) (sym t.also) (subst (λ (k : Option Key). LeadsTo v (next_serial store) k) t.same done.leads) in
          finds_more (IsTypedStore v) (IsTypedLater w) (assigned at (Block (next_serial store)) after) (λ s typed'. record { world = v; grows = grows; typed = typed' })
          (assigns v agreed after done.typed at seen (Block (next_serial store)) (at_grows w v grows at seen is) (pointer_simple (definition seen) p) value)))
      by (Letter e ks stored) = pointer_stored (definition seen) host.Char p stored
      by (Whole e ks stored) = pointer_stored (definition seen) host.Integer p stored

    pub new_call : (x : Operand) → IsOperand w PointerVariable x → IsSoundCall w store routine.new None (x ∷ [])
    new_call x is =
        let p = pointer_named w x is in
        record {
          one = New;
          is = refl;
          sound = (refl, subst (λ (y : Operand). Finds (IsTypedLater w) (known (Some y) >>= place_arg >>= λ at. made_for w.program at store)) (sym p.is) (made_keeps p.at p.seen p.place p.fits));
        }

    pub new_block_call : (pointer : Sort) → IsSoundCall w store routine.new (Some pointer) []
    new_block_call pointer = record { one = New; is = refl; sound = refl }

    -- ---- Dispose

    freed_keeps : (sort : Sort) (k : Option Key) (t : TypeId) (v : Value) → definition sort ≡ Some (type.PointerTo t) → IsHeld w (Link k) v → Finds (IsTypedStore w) (disposed_by sort v store)
    freed_keeps sort k t Nil e is = tt
    freed_keeps sort k t (Block serial) e is =
        subst (λ (f : Found Sort). Finds (IsTypedStore w) (f >>= λ to. disposed store serial (size_in to))) (sym (target_found sort t e)) (disposed_keeps w store typed serial (size_in (beside sort t)))
    freed_keeps sort k t v e is = absurd is

    freed_by : (sort : Sort) (o : Option TypeDef) (v : Value) → definition sort ≡ o → IsPointer o → IsValueBy w sort o v → Finds (IsTypedStore w) (disposed_by sort v store)
    freed_by sort (Some (type.PointerTo t)) v e p is = freed_keeps sort (declared sort.table t) t v e is
    freed_by sort o v e p is = absurd p

    pub dispose_call : (x : Operand) → IsOperand w Pointer x → IsSoundCall w store routine.dispose None (x ∷ [])
    dispose_call (Given sort v) is = record { one = Dispose; is = refl; sound = (refl, later w agreed store typed (disposed_by sort v store) (freed_by sort (definition sort) v refl is.0 is.1)) }
    dispose_call (Named at) is = absurd is.2
