-- The node of a standard function's call, from its arguments.
use Rattle.std.proofs.Common.{◌≡◌, ℕ, true, List, [], ◌∷◌, ◌++◌, Option, Some, None, Ok, map, refl, ap, ◌∙◌, Vec, Global}
use Rattle.std.proofs.lemmas.List.{map-append}
use Rattle.type_layout.specs.declared.definitions.TypeId.{TypeId}
use Rattle.type_layout.specs.declared.definitions.TypeDef.{TypeDef}
use Rattle.type_layout.specs.declared.texts.Place.{Place}
use Rattle.typed_tree.specs.declared.expressions.Arg.{Arg}
use Rattle.typed_tree.specs.declared.expressions.Expr.{Expr}
use Rattle.typed_tree.specs.declared.expressions.Expr.TheVariants as expr
use Rattle.typed_tree.specs.Expressions.{Expression, Arguments, Std, view_expr}
use Rattle.typed_tree.proofs.Views.{view_std}
use Rattle.typing_rules.specs.Sorts.{sort_of}
use Rattle.call_rules.specs.Given.{Handed, view_handed, arguments_of}
use Rattle.call_rules.proofs.Nodes.{viewed}
use Rattle.call_rules.specs.declared.standard_rules.signatures.Signature.{Signature}
use Rattle.call_rules.specs.standard_rules.Signatures.{signature_of}
use Rattle.call_rules.specs.standard_rules.Standard.{accepts, takes_text, handed, result_type, by_signature, standard}

-- one more argument is handed over
pub made_more : (f : Expression → Handed) (args : List Arg) (arg : Arg) (values : List Expr) (one : Expr) → map view_handed args ≡ map f (map view_expr values) → f (view_expr one) ≡ view_handed arg
    → map view_handed (args ++ (arg ∷ [])) ≡ map f (map view_expr (values ++ (one ∷ [])))
made_more f args arg values one e h =
    rw (map-append view_handed args (arg ∷ []), map-append view_expr values (one ∷ []), map-append f (map view_expr values) (view_expr one ∷ []), e, h) refl

pub std_node : (ty : Option TypeId) (number : ℕ) (args : Vec Arg Global) → view_expr (expr.Std ty number args) ≡ Std ty number (arguments_of (map view_handed args.items))
std_node ty number args = view_std ty number args ∙ ap (λ (z : Arguments). Std ty number z) (viewed args.items)

module _ (types : List TypeDef) (place : Place) (number : ℕ) (es : List Expression) where
  by_at : (found : Option Signature) (one : Signature) → found ≡ Some one → accepts one.shape (map (sort_of types) es) ≡ true
      → (by_signature types place number found es).run ≡ Ok (Std (Some (result_type types one.outcome es)) number (arguments_of (map (handed types (takes_text one.shape)) es)))
  by_at None one e h = cc
  by_at (Some own) one e h = let p : own ≡ one = cc in rw (p, h) refl

  pub standard_gives : (one : Signature) (ty : TypeId) (args : Vec Arg Global) → signature_of number ≡ Some one → accepts one.shape (map (sort_of types) es) ≡ true
      → ty ≡ result_type types one.outcome es → map (handed types (takes_text one.shape)) es ≡ map view_handed args.items
      → (standard types place number es).run ≡ Ok (view_expr (expr.Std (Some ty) number args))
  unfolding standard
  standard_gives one ty args e h t m = by_at (signature_of number) one e h ∙ rw (std_node (Some ty) number args, t, m) refl
