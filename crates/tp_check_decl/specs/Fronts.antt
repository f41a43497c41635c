-- What stands in front of the declarations of a source: the units that it uses, and what its directives say.
use Rattle.std.specs.Prelude.{◌≡◌, ℕ, Bool, true, false, not, ◌&&◌, ◌||◌, cond, codes, List, [], ◌∷◌, ◌++◌}
use Rattle.std.specs.List.{list_any}
use Rattle.type_layout.specs.Words.{same_bytes}
use Rattle.syntax_tree.specs.declared.identifier.Identifier.{Identifier}
use Rattle.tp_lexer.specs.declared.source_directives.collected.Overlaid.{Overlaid}
use Rattle.tp_lexer.specs.declared.source_directives.collected.Directives.{Directives}
use Rattle.typing_rules.specs.declared.faults.Rule.TheVariants as rules
use Rattle.typing_rules.specs.Faults.{broken}
use Rattle.typing_rules.specs.Judgements.{Judgement, makes, rule, part}
use Rattle.typing_rules.specs.Selectors.{asking}
use Rattle.tp_check_decl.specs.declared.fronts.Front.{Front}

abbrev pub is_system : List ℕ → Bool
is_system name = same_bytes name (codes "SYSTEM")

abbrev pub is_overlay : List ℕ → Bool
is_overlay name = same_bytes name (codes "OVERLAY")

abbrev pub is_listed : List (List ℕ) → List ℕ → Bool
is_listed names name = list_any (same_bytes name) names

-- ---- used units

abbrev pub is_taken : List (List ℕ) → List ℕ → Bool
is_taken before name = is_system name || is_listed before name

-- a used unit is none of those before it, and is not SYSTEM
abbrev pub is_new_use : List (List ℕ) → Identifier → Judgement (Unit {0})
is_new_use before one = rule (broken one.position.place rules.UnitUsed) (not (is_taken before one.name)) (is_taken before one.name ≡ false) tt

-- the names of used units, behind those before them
abbrev pub uses_onto : List (List ℕ) → List Identifier → Judgement (List (List ℕ))
uses_onto before [] = makes before
uses_onto before (one ∷ rest) = asking (is_new_use before one) (uses_onto (before ++ one.name ∷ []) rest)

-- ---- overlaid units

abbrev pub may_overlay : List (List ℕ) → List ℕ → Bool
may_overlay uses name = is_listed uses name && not (is_overlay name)

-- a unit that is overlaid is a used one, and is not OVERLAY
abbrev pub is_overlaid_use : List (List ℕ) → Overlaid → Judgement (Unit {0})
is_overlaid_use uses one = rule (broken one.place rules.UnitNamed) (may_overlay uses one.name) (may_overlay uses one.name ≡ true) tt

-- a name at the end, where it is new
abbrev pub with_new : List (List ℕ) → List ℕ → List (List ℕ)
with_new names name = cond (is_listed names name) names (names ++ name ∷ [])

-- the names of overlaid units, each once
abbrev pub overlaid_onto : List (List ℕ) → List (List ℕ) → List Overlaid → Judgement (List (List ℕ))
overlaid_onto uses before [] = makes before
overlaid_onto uses before (one ∷ rest) = asking (is_overlaid_use uses one) (overlaid_onto uses (with_new before one.name) rest)

-- ---- both

abbrev pub front : Directives → List (List ℕ) → List (List ℕ) → Front
front says uses overlaid =
    record { uses = uses; overlaid = overlaid; stack = says.stack; heap = says.heap; overlayable = says.overlayable }

unfoldable pub front_judged : Directives → List Identifier → Judgement Front
front_judged says all = part (uses_onto [] all) (λ uses. part (overlaid_onto uses [] says.overlaid) (λ overlaid. makes (front says uses overlaid)))
