-- SizeOf of a type or a variable is a constant.
use Rattle.std.proofs.Common.{◌≡◌, ℕ, zero, suc, ◌≤◌, All, List, [], ◌∷◌, get_or, Option, Some, None, arith}
use Rattle.std.proofs.lemmas.List.Elements.{All-head, All-tail}
use Rattle.bodies_well_formed.specs.type_layout.declared.definitions.TypeId.{TypeId}
use Rattle.bodies_well_formed.specs.type_layout.declared.definitions.TypeDef.{TypeDef}
use Rattle.bodies_well_formed.specs.type_layout.declared.texts.Place.{Place}
use Rattle.bodies_well_formed.specs.type_layout.declared.layout.Layout.{Layout}
use Rattle.bodies_well_formed.specs.type_layout.Layouts.{plain, layouts_of, size_of}
use Rattle.bodies_well_formed.specs.tp_lexer.declared.token.Feature.{Feature}
use Rattle.bodies_well_formed.specs.tp_lexer.left_out_names.Names.{feature_of}
use Rattle.bodies_well_formed.specs.typed_tree.Expressions.{Expression, Load}
use Rattle.bodies_well_formed.specs.scopes.declared.entries.Entry.{Entry}
use Rattle.bodies_well_formed.specs.scopes.declared.entries.Entry.TheVariants as entry
use Rattle.bodies_well_formed.specs.scopes.Environment.{Environment, Meaning, named, member, find}
use Rattle.bodies_well_formed.specs.typing_rules.declared.faults.Rule.TheVariants as rules
use Rattle.bodies_well_formed.specs.typing_rules.Faults.{broken}
use Rattle.bodies_well_formed.specs.typing_rules.Judgements.{Judgement, makes, refuses}
use Rattle.bodies_well_formed.specs.call_rules.standard_rules.Sizes.{has_class}
use Rattle.bodies_well_formed.specs.syntax_tree.expression_tree.Trees as tree
use Rattle.bodies_well_formed.specs.syntax_tree.expression_tree.Trees.{Tree}
use Rattle.bodies_well_formed.specs.constant_checker.declared.constant_expressions.constants.Constant.{Constant}
use Rattle.bodies_well_formed.specs.constant_checker.constant_expressions.Sizes.{size_constant, size_held, size_by, sized_entry, sized_meaning, sized_name, sized, size_called}
use Rattle.bodies_well_formed.specs.rules_well_formed.nodes.Tables.{IsSound}
use Rattle.declarations_well_formed.proofs.constants.Numbers.{IsGood, same_good, word_good}
use Rattle.declarations_well_formed.proofs.constants.Combined.{either_way}

abbrev IsSmall : Layout → Type 0
IsSmall layout = layout.size ≤ 65520

get_small : (layouts : List Layout) (k : ℕ) → All IsSmall layouts → (get_or layouts k (plain 0)).size ≤ 65520
get_small [] zero all = omega arith
get_small [] (suc k) all = omega arith
get_small (layout ∷ layouts) zero all = All-head IsSmall layout layouts all
get_small (layout ∷ layouts) (suc k) all = get_small layouts k (All-tail IsSmall layout layouts all)

module _ (types : List TypeDef) (sound : IsSound types) where
  size_good : (ty : TypeId) (c : Constant) → c ≡ size_constant types ty → IsGood types c
  size_good ty c e =
      let small : size_of types ty ≤ 65520 = get_small (layouts_of types) ty.0 sound.fits in
      same_good types c (size_constant types ty) e (word_good types sound (size_of types ty) (omega (arith, small)))

  held_good : (place : Place) (ty : TypeId) (c : Constant) → (size_held types place ty).holds c → IsGood types c
  held_good place ty c e =
      either_way (has_class types ty) (refuses (broken place rules.Constant)) (makes (size_constant types ty)) c (IsGood types c)
      (λ none. absurd none) (λ same. size_good ty c same) e

  by_good : (place : Place) (x : Expression) (c : Constant) → (size_by types place x).holds c → IsGood types c
  by_good place (Load ty at) c e = held_good place ty c e
  by_good place x c e = absurd e

  entry_good : (place : Place) (one : Entry) (c : Constant) → (sized_entry types place one).holds c → IsGood types c
  entry_good place (entry.Ty ty) c e = size_good ty c e
  entry_good place (entry.Var unit level number ty) c e = held_good place ty c e
  entry_good place one c e = absurd e

  meaning_good : (place at : Place) (word : List ℕ) (feature : Option Feature) (one : Option Meaning) (c : Constant) → (sized_meaning types place at word feature one).holds c → IsGood types c
  meaning_good place at word feature None c e = absurd e
  meaning_good place at word feature (Some (named number one)) c e = entry_good place one c e
  meaning_good place at word feature (Some (member number one)) c e = by_good place e.part c e.made

module _ (g : Environment) (sound : IsSound g.types.types) where
  name_good : (place at : Place) (word : List ℕ) (c : Constant) → (sized_name g place at word).holds c → IsGood g.types.types c
  unfolding sized_name
  name_good place at word c e = meaning_good g.types.types sound place at word (feature_of word) (find g word) c e

  tree_good : (place : Place) (one : Tree) (meant : Judgement Expression) (c : Constant) → (sized g place one meant).holds c → IsGood g.types.types c
  tree_good place (tree.name here word) meant c e = name_good place here.place word c e
  tree_good place one meant c e = by_good g.types.types sound place e.part c e.made

  pub sized_good : (place : Place) (one : Option Tree) (meant : Judgement Expression) (given : Judgement (List Constant)) (c : Constant) → (size_called g place one meant given).holds c → IsGood g.types.types c
  sized_good place (Some one) meant given c e = tree_good place one meant c e
  sized_good place None meant given c e = absurd e.made
