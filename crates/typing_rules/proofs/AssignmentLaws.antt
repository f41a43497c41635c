-- The judgement of a value that is assigned is lawful.
use Rattle.std.proofs.Common.{Bool, List, Option, Decides}
use Rattle.std.proofs.lemmas.Bool.Decides.{Decides-and, Decides-or}
use Rattle.type_layout.specs.declared.definitions.TypeId.{TypeId}
use Rattle.type_layout.specs.declared.definitions.TypeDef.{TypeDef}
use Rattle.type_layout.specs.declared.texts.Place.{Place}
use Rattle.typed_tree.specs.Expressions.{Expression, type_of}
use Rattle.typed_tree.specs.type_fits.Fits.{definition}
use Rattle.typing_rules.specs.declared.faults.Rule.TheVariants as rules
use Rattle.typing_rules.specs.declared.sorts.Sort.{Sort}
use Rattle.typing_rules.specs.declared.sorts.Sort.TheVariants as sort
use Rattle.typing_rules.specs.Faults.{broken}
use Rattle.typing_rules.specs.Sorts.{sort_of_type, sort_of}
use Rattle.typing_rules.specs.Wanted.{stored_of}
use Rattle.typing_rules.specs.Assignments.{IsString, is_string, IsLike, is_like, IsAssignable, is_assignable, assigned_by, assigned_to, assigned}
use Rattle.typing_rules.specs.Laws.{Lawful}
use Rattle.typing_rules.proofs.JudgementLaws.{lawful_rule}
use Rattle.typing_rules.proofs.PlanLaws.{yes, no, tells_one_host, tells_text, tells_sets}
use Rattle.typing_rules.proofs.JoinLaws.{tells_below, tells_type, tells_nil}

pub tells_string : (s : Sort) → Decides (is_string s) (IsString s)
tells_string (sort.Integer r) = no
tells_string sort.Boolean = no
tells_string sort.Char = no
tells_string (sort.Enumeration ty) = no
tells_string sort.Text = yes
tells_string (sort.Set base) = no
tells_string sort.Pointer = no
tells_string sort.Nil = no
tells_string sort.Other = no

tells_like : (target s : Sort) → Decides (is_like target s) (IsLike target s)
tells_like target s =
    Decides-or _ _ (tells_one_host target s) (Decides-or _ _ (Decides-and _ _ (tells_string target) (tells_text s)) (Decides-or _ _ (tells_sets target s) (tells_nil target s)))

pub tells_assignable : (types : List TypeDef) (target s : Sort) (ty : TypeId) (own : Option TypeId) → Decides (is_assignable types target s ty own) (IsAssignable types target s ty own)
tells_assignable types target s ty own = Decides-or _ _ (tells_like target s) (Decides-or _ _ (tells_type ty own) (tells_below types ty own))

module _ (types : List TypeDef) (place : Place) (ty : TypeId) (checked : Bool) where
  lawful_to : (target s : Sort) (e : Expression) → Lawful (assigned_to types place ty checked target s e)
  lawful_to target s e =
      lawful_rule (broken place rules.Assigned) (is_assignable types target s ty (type_of e)) (IsAssignable types target s ty (type_of e)) (assigned_by ty (definition types ty) (stored_of types e) checked e) (tells_assignable types target s ty (type_of e))

  pub lawful_assigned : (e : Expression) → Lawful (assigned types place ty checked e)
  unfolding assigned
  lawful_assigned e = lawful_to (sort_of_type types ty) (sort_of types e) e
