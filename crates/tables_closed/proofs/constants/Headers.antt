-- Types by their names, and headers, have types below the bounds of a scope.
use Rattle.std.proofs.Common.{ℕ, ◌<◌, Bool, true, false, List, [], ◌∷◌, ◌++◌, Option, Some, None, sym, subst, arith}
use Rattle.tp_check_decl.specs.type_layout.declared.definitions.TypeId.{TypeId}
use Rattle.tp_check_decl.specs.type_layout.declared.definitions.Param.{Param}
use Rattle.tp_check_decl.specs.type_layout.declared.definitions.Kind.{Kind}
use Rattle.tp_check_decl.specs.type_layout.declared.definitions.Kind.TheVariants as kind
use Rattle.tp_check_decl.specs.type_layout.declared.definitions.Header.{Header}
use Rattle.tp_check_decl.specs.type_layout.declared.texts.Place.{Place}
use Rattle.tp_check_decl.specs.tp_lexer.declared.token.Feature.{Feature}
use Rattle.tp_check_decl.specs.tp_lexer.left_out_names.Names.{feature_of}
use Rattle.tp_check_decl.specs.syntax_tree.declared.identifier.Identifier.{Identifier}
use Rattle.tp_check_decl.specs.syntax_tree.declared.type_tree.parameter.NamedType.{NamedType}
use Rattle.tp_check_decl.specs.syntax_tree.declared.type_tree.parameter.NamedType.TheVariants as t
use Rattle.tp_check_decl.specs.syntax_tree.declared.type_tree.parameter.ParameterGroup.{ParameterGroup}
use Rattle.tp_check_decl.specs.syntax_tree.declared.type_tree.parameter.ParameterGroup.TheVariants as group
use Rattle.tp_check_decl.specs.syntax_tree.declared.type_tree.parameter.MethodHeader.{MethodHeader}
use Rattle.tp_check_decl.specs.syntax_tree.declared.type_tree.parameter.MethodHeader.TheVariants as method
use Rattle.tp_check_decl.specs.syntax_tree.declared.source_tree.declaration.RoutineHeader.{RoutineHeader}
use Rattle.tp_check_decl.specs.syntax_tree.declared.source_tree.declaration.RoutineHeader.TheVariants as routine
use Rattle.tp_check_decl.specs.scopes.declared.entries.Entry.{Entry}
use Rattle.tp_check_decl.specs.scopes.declared.entries.Entry.TheVariants as entry
use Rattle.tp_check_decl.specs.scopes.Environment.{Environment, Meaning, named, member, find}
use Rattle.tp_check_decl.specs.unit_interface.Exports.{in_option, in_params, in_header}
use Rattle.tp_check_decl.specs.declaration_checker.headers.Names.{of_entry, of_meaning, type_named, named_type}
use Rattle.tp_check_decl.specs.declaration_checker.headers.Parameters.{param, names_onto, group_onto, groups_onto}
use Rattle.tp_check_decl.specs.declaration_checker.headers.Headers.{result_of, procedure_header, function_header, routine_header, method_header}
use Rattle.tables_closed.specs.constants.Bounds.{AreBelow, in_entry, IsBoundOf}
use Rattle.tables_closed.proofs.constants.Below.{below_both}
use Rattle.tables_closed.proofs.constants.Names.{OfMeaning, of_found}

module _ (n : ℕ) where
  -- ---- names of types

  entry_bounded : (place : Place) (one : Entry) (ty : TypeId) → AreBelow n (in_entry one) → (of_entry place one).holds ty → ty.0 < n
  entry_bounded place (entry.Ty own) ty h e = subst (λ (x : TypeId). x.0 < n) (sym e) h.0
  entry_bounded place (entry.Const own v) ty h e = absurd e
  entry_bounded place (entry.Var unit level number own) ty h e = absurd e
  entry_bounded place (entry.Code code level header far) ty h e = absurd e
  entry_bounded place (entry.Std number) ty h e = absurd e

  meaning_bounded : (place : Place) (feature : Option Feature) (one : Option Meaning) (ty : TypeId) → OfMeaning n one → (of_meaning place feature one).holds ty → ty.0 < n
  meaning_bounded place feature None ty h e = absurd e
  meaning_bounded place feature (Some (named number one)) ty h e = entry_bounded place one ty h e
  meaning_bounded place feature (Some (member number one)) ty h e = absurd e

  module _ (g : Environment) (bound : IsBoundOf n g) where
    pub type_bounded : (place : Place) (name : List ℕ) (ty : TypeId) → (type_named g place name).holds ty → ty.0 < n
    unfolding type_named
    type_bounded place name ty e = meaning_bounded place (feature_of name) (find g name) ty (of_found n g name bound) e

    named_bounded : (one : NamedType) (ty : TypeId) → (named_type g one).holds ty → ty.0 < n
    named_bounded (t.Name i) ty e = type_bounded i.position.place i.name ty e
    named_bounded (t.String here) ty e =
        let most = bound.system in
        subst (λ (x : TypeId). x.0 < n) (sym e) (omega arith)

    -- ---- parameters

    with_param : (params : List Param) (by_ref : Bool) (ty : TypeId) (name : List ℕ) → AreBelow n (in_params params) → ty.0 < n
        → AreBelow n (in_params (params ++ param by_ref ty name ∷ []))
    with_param [] by_ref ty name h low = (low, tt)
    with_param (one ∷ params) by_ref ty name h low = (h.0, with_param params by_ref ty name h.1 low)

    names_bounded : (params : List Param) (by_ref : Bool) (ty : TypeId) (names : List Identifier) (all : List Param) → AreBelow n (in_params params) → ty.0 < n
        → (names_onto params by_ref ty names).holds all → AreBelow n (in_params all)
    names_bounded params by_ref ty [] all h low e = subst (λ (x : List Param). AreBelow n (in_params x)) (sym e) h
    names_bounded params by_ref ty (one ∷ rest) all h low e =
        names_bounded (params ++ param by_ref ty one.name ∷ []) by_ref ty rest all (with_param params by_ref ty one.name h low) low e.made

    group_bounded : (params : List Param) (one : ParameterGroup) (all : List Param) → AreBelow n (in_params params) → (group_onto g params one).holds all → AreBelow n (in_params all)
    group_bounded params (group.Variable here names of_type) all h e = names_bounded params true e.part names.items all h (named_bounded of_type e.part e.holds) e.made
    group_bounded params (group.Value names of_type) all h e = names_bounded params false e.part names.items all h (named_bounded of_type e.part e.holds) e.made

    groups_bounded : (params : List Param) (groups : List ParameterGroup) (all : List Param) → AreBelow n (in_params params) → (groups_onto g params groups).holds all → AreBelow n (in_params all)
    groups_bounded params [] all h e = subst (λ (x : List Param). AreBelow n (in_params x)) (sym e) h
    groups_bounded params (one ∷ rest) all h e = groups_bounded e.part rest all (group_bounded params one e.part h e.holds) e.made

    -- ---- headers

    result_bounded : (place : Place) (one : Option NamedType) (ty : TypeId) → (result_of g place one).holds ty → ty.0 < n
    result_bounded place None ty e = absurd e
    result_bounded place (Some one) ty e = subst (λ (x : TypeId). x.0 < n) (sym e.made.made) (named_bounded one e.part e.holds)

    pub procedure_bounded : (is_method : Bool) (place : Place) (one : Kind) (groups : List ParameterGroup) (header : Header)
        → (procedure_header g is_method place one groups).holds header → AreBelow n (in_header header)
    procedure_bounded is_method place one groups header e =
        subst (λ (x : Header). AreBelow n (in_header x)) (sym e.made.made)
        (below_both n (in_params e.part) [] (groups_bounded [] groups e.part tt e.holds) tt)

    pub function_bounded : (is_method : Bool) (place : Place) (groups : List ParameterGroup) (result : Option NamedType) (header : Header)
        → (function_header g is_method place groups result).holds header → AreBelow n (in_header header)
    function_bounded is_method place groups result header e =
        subst (λ (x : Header). AreBelow n (in_header x)) (sym e.made.made)
        (below_both n (in_params e.left) (in_option (Some e.right)) (groups_bounded [] groups e.left tt e.left_holds) (result_bounded place result e.right e.right_holds, tt))

    pub routine_bounded : (one : RoutineHeader) (header : Header) → (routine_header g one).holds header → AreBelow n (in_header header)
    routine_bounded (routine.Procedure here name groups) header e = procedure_bounded false here.place kind.Procedure groups.items header e
    routine_bounded (routine.Function here name groups result) header e = function_bounded false here.place groups.items result header e

    pub method_bounded : (one : MethodHeader) (header : Header) → (method_header g one).holds header → AreBelow n (in_header header)
    method_bounded (method.Procedure here name groups) header e = procedure_bounded true here.place kind.Procedure groups.items header e
    method_bounded (method.Function here name groups result) header e = function_bounded true here.place groups.items result header e
    method_bounded (method.Constructor here name groups) header e = procedure_bounded true here.place kind.Constructor groups.items header e
    method_bounded (method.Destructor here name groups) header e = procedure_bounded true here.place kind.Destructor groups.items header e
