-- What the types of a closed scope name is in its table.
use Rattle.std.proofs.Common.{◌≡◌, ℕ, All, List, [], ◌∷◌, ◌++◌, length, Option, Some, None, subst}
use Rattle.std.specs.Prelude.{slice_get}
use Rattle.std.proofs.lemmas.List.Elements.{All-nil, All-cons}
use Rattle.bodies_well_formed.specs.type_layout.declared.definitions.TypeId.{TypeId}
use Rattle.bodies_well_formed.specs.type_layout.declared.definitions.Param.{Param}
use Rattle.bodies_well_formed.specs.type_layout.declared.definitions.Header.{Header}
use Rattle.bodies_well_formed.specs.type_layout.declared.definitions.Method.{Method}
use Rattle.bodies_well_formed.specs.type_layout.declared.definitions.TypeDef.{TypeDef}
use Rattle.bodies_well_formed.specs.type_layout.declared.definitions.TypeDef.TheVariants as type
use Rattle.bodies_well_formed.specs.typed_tree.type_fits.Fits.{definition}
use Rattle.imported_types_agree.specs.unit_interface.Exports.{in_option, in_params, in_header, in_fields, in_methods, in_type, behind, with_type}
use Rattle.bodies_well_formed.specs.rules_well_formed.nodes.Tables.{IsInTable, IsResultIn, IsHeaderIn, NamesWithin}
use Rattle.bodies_well_formed.proofs.rules_well_formed_proofs.nodes.Fields.{some_within}
use Rattle.imported_types_agree.specs.tables_closed.constants.Bounds.{AreBelow}
use Rattle.declarations_well_formed.specs.tables.Laws.{SoundLaw}

below_front : (n : ℕ) (front back : List ℕ) → AreBelow n (front ++ back) → AreBelow n front
below_front n [] back h = tt
below_front n (one ∷ front) back h = (h.0, below_front n front back h.1)

below_back : (n : ℕ) (front back : List ℕ) → AreBelow n (front ++ back) → AreBelow n back
below_back n [] back h = h
below_back n (one ∷ front) back h = below_back n front back h.1

module _ (types : List TypeDef) where
  params_in : (params : List Param) → AreBelow (length types) (in_params params) → All (λ (param : Param). IsInTable types param.ty) params
  params_in [] h = All-nil (λ (param : Param). IsInTable types param.ty)
  params_in (one ∷ rest) h = All-cons (λ (param : Param). IsInTable types param.ty) one rest (some_within types one.ty.0 h.0) (params_in rest h.1)

  result_in : (result : Option TypeId) → AreBelow (length types) (in_option result) → IsResultIn types result
  result_in None h = tt
  result_in (Some ty) h = some_within types ty.0 h.0

  pub header_in : (header : Header) → AreBelow (length types) (in_header header) → IsHeaderIn types header
  header_in header h = record {
    params = params_in header.params (below_front (length types) (in_params header.params) (in_option header.result) h);
    result = result_in header.result (below_back (length types) (in_params header.params) (in_option header.result) h);
  }

  methods_in : (methods : List Method) → AreBelow (length types) (in_methods methods) → All (λ (method : Method). IsHeaderIn types method.header) methods
  methods_in [] h = All-nil (λ (method : Method). IsHeaderIn types method.header)
  methods_in (one ∷ rest) h =
      All-cons (λ (method : Method). IsHeaderIn types method.header) one rest (header_in one.header (below_front (length types) (in_header one.header) (in_methods rest) h))
      (methods_in rest (below_back (length types) (in_header one.header) (in_methods rest) h))

  names_in : (one : TypeDef) → AreBelow (length types) (in_type one) → NamesWithin types one
  names_in (type.PointerTo target) h = some_within types target.0 h.0
  names_in (type.Procedural header) h = header_in header h
  names_in (type.ObjectOf parent dynamic fields methods) h =
      methods_in methods (below_back (length types) (in_option parent ++ in_fields fields) (in_methods methods) h)
  names_in one h = tt

  type_in : (ty : TypeId) (one : TypeDef) → definition types ty ≡ Some one → AreBelow (length types) (with_type ty.0 (slice_get types ty.0)) → NamesWithin types one
  type_in ty one is h =
      let whole : AreBelow (length types) (with_type ty.0 (Some one)) = subst (λ (o : Option TypeDef). AreBelow (length types) (with_type ty.0 o)) is h in
      names_in one (below_front (length types) (in_type one) (behind ty.0 one) whole)

pub sound : SoundLaw
sound g fit closed begins = record {
  begins = begins;
  defined = fit.defined;
  fits = fit.fits;
  names = λ ty one is. type_in g.types.types ty one is (closed.types ty.0);
  room = fit.room;
  few = fit.few;
  numbered = fit.numbered;
}
