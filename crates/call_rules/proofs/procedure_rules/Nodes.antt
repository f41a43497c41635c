-- The node of a standard procedure's call, from its arguments.
use Rattle.std.proofs.Common.{◌≡◌, ℕ, List, [], ◌∷◌, ◌++◌, length, Option, Some, None, Ok, map, refl, ap, sym, ◌∙◌, Vec, Global}
use Rattle.std.proofs.lemmas.List.{map-append, length-map}
use Rattle.type_layout.specs.declared.definitions.TypeDef.{TypeDef}
use Rattle.type_layout.specs.declared.texts.Place.{Place}
use Rattle.typed_tree.specs.declared.expressions.Arg.{Arg}
use Rattle.typed_tree.specs.declared.expressions.Expr.{Expr}
use Rattle.typed_tree.specs.declared.expressions.Expr.TheVariants as expr
use Rattle.typed_tree.specs.Expressions.{Expression, Std, view_expr}
use Rattle.typed_tree.specs.Standard as routine
use Rattle.call_rules.specs.Given.{Handed, view_handed, arguments_of}
use Rattle.call_rules.proofs.standard_rules.Nodes.{std_node}
use Rattle.call_rules.specs.declared.procedure_rules.rows.Slots.{Slots}
use Rattle.call_rules.specs.procedure_rules.Rows.{listed, slots_of}
use Rattle.call_rules.specs.declared.procedure_rules.rows.Slot.TheVariants.{Line}
use Rattle.call_rules.specs.procedure_rules.Procedures.{variable, by_slots, performed_by, standard_performed, told_number, told_into}

module _ (types : List TypeDef) (place : Place) (number : ℕ) (es : List Expression) where
  performed_at : (found : Option Slots) (slots : Slots) (all : List Handed) → found ≡ Some slots → (by_slots types place (listed slots) es).run ≡ Ok all
      → (performed_by types place number found es).run ≡ Ok (Std None number (arguments_of all))
  performed_at None slots all e h = cc
  performed_at (Some own) slots all e h = let p : own ≡ slots = cc in rw (p, h) refl

module _ (types : List TypeDef) (place : Place) (number : ℕ) (values : List Expr) where
  pub performed_gives : (count : ℕ) (slots : Slots) (args : Vec Arg Global) → count ≡ length values → slots_of number count ≡ Some slots
      → (by_slots types place (listed slots) (map view_expr values)).run ≡ Ok (map view_handed args.items)
      → (standard_performed types place number (map view_expr values)).run ≡ Ok (view_expr (expr.Std None number args))
  unfolding standard_performed
  performed_gives count slots args m e h =
      let n : slots_of number (length (map view_expr values)) ≡ Some slots = ap (slots_of number) (length-map values view_expr ∙ sym m) ∙ e in
      performed_at types place number (map view_expr values) (slots_of number (length (map view_expr values))) slots (map view_handed args.items) n h
      ∙ ap (λ (n : Expression). Ok n) (sym (std_node None number args))

module _ (types : List TypeDef) (place : Place) where
  pub told_gives : (e : Expression) (width : Option Expression) (to : Expression) (before : Vec Arg Global) (s : Arg) (args : Vec Arg Global)
      → (told_number types place e width).run ≡ Ok (map view_handed before.items) → (variable types place Line to).run ≡ Ok (view_handed s) → args.items ≡ before.items ++ (s ∷ [])
      → (told_into types place e width to).run ≡ Ok (view_expr (expr.Std None routine.str args))
  told_gives e width to before s args f g h =
      let m : map view_handed args.items ≡ map view_handed before.items ++ (view_handed s ∷ []) = ap (map view_handed) h ∙ map-append view_handed before.items (s ∷ []) in
      rw (f, g) (ap (λ (all : List Handed). Ok (Std None routine.str (arguments_of all))) (sym m) ∙ ap (λ (n : Expression). Ok n) (sym (std_node None routine.str args)))
