-- What is known inside a routine, and how its block ends.
use Rattle.std.specs.Prelude.{◌≡◌, ℕ, ◌+◌, ◌≤◌, nat_le, Bool, true, false, not, ◌||◌, ◌==◌, cond, codes, List, [], ◌∷◌, length, Option, Some, None, is_some}
use Rattle.type_layout.specs.declared.definitions.TypeId.{TypeId}
use Rattle.type_layout.specs.declared.definitions.Param.{Param}
use Rattle.type_layout.specs.declared.texts.Place.{Place}
use Rattle.syntax_tree.specs.declared.statement.CompoundStatement.{CompoundStatement}
use Rattle.syntax_tree.specs.statement_tree.Trees.{view_statements}
use Rattle.typed_tree.specs.Statements.{Statement}
use Rattle.scopes.specs.declared.entries.Entry.TheVariants as entry
use Rattle.scopes.specs.declared.entries.BlockKind.TheVariants.{Routine}
use Rattle.scopes.specs.Members.{narrow}
use Rattle.scopes.specs.Environment.{Environment, with_block, without_block}
use Rattle.typed_tree.specs.type_fits.Fits.{IsSome}
use Rattle.typing_rules.specs.declared.faults.Rule.TheVariants as rules
use Rattle.typing_rules.specs.Faults.{broken, too_large}
use Rattle.typing_rules.specs.Judgements.{Judgement, makes, rule, part}
use Rattle.typing_rules.specs.Selectors.{asking}
use Rattle.tp_check_stmt.specs.Typed.{blocked, listed}
use Rattle.declaration_checker.specs.type_denoters.Additions.{entered}
use Rattle.declaration_checker.specs.declared.declarations.homes.Home.TheVariants as home
use Rattle.tp_check_decl.specs.declared.routines.drafts.Site.{Site}
use Rattle.tp_check_decl.specs.declared.routines.drafts.Begun.{Begun}
use Rattle.tp_check_decl.specs.routines.Drafts.{Numbered, Drafted, knowing, Done, Stage, finishing, depth_of}

-- ---- the block of a routine

-- how many variables a routine has besides its parameters before those that its block declares: Self of a method, and a result
abbrev pub variables_beside : Option TypeId → Option TypeId → ℕ
variables_beside None None = 0
variables_beside (Some owner) (Some result) = 2
variables_beside _ _ = 1

abbrev pub variables_before : Begun → ℕ
variables_before b = narrow (length b.header.params + variables_beside b.owner b.header.result)

-- where the declarations of a routine's block stand
abbrev pub site_in : Site → Begun → Site
site_in site b = record {
  home = home.Routine (narrow (depth_of site + 1)) (variables_before b);
  outer = Some b.number;
}

-- parameters are variables of the routine, in their order from a number on
abbrev pub params_entered : ℕ → Place → ℕ → Environment → List Param → Judgement Environment
params_entered level place number g [] = makes g
params_entered level place number g (one ∷ rest) =
    part (entered g place one.name (entry.Var 0 level number one.ty)) (λ h. params_entered level place (narrow (number + 1)) h rest)

-- The instance of a method is a variable behind the parameters.
abbrev pub self_entered : ℕ → Place → ℕ → Option TypeId → Environment → Judgement Environment
self_entered level place number None g = makes g
self_entered level place number (Some ty) g = entered g place (codes "SELF") (entry.Var 0 level number ty)

-- A block inside those that are open, with the instance and the parameters of the routine that begins at a place.
abbrev pub inside : Site → Place → Begun → Environment → Judgement Environment
inside inner place b g =
    part (self_entered (depth_of inner) place (narrow (length b.header.params)) b.owner (with_block g (Routine b.number b.owner))) (λ h.
    params_entered (depth_of inner) place 0 h b.header.params)

-- ---- the end of a block

abbrev pub is_outer : Option ℕ → Option ℕ → Bool
is_outer None None = true
is_outer (Some one) (Some other) = one == other
is_outer _ _ = false

-- a routine that is declared in the block has its own block
abbrev pub IsMet : Option ℕ → Numbered → Type 0
IsMet outer one = one.first.outer ≡ outer → IsSome one.done

abbrev pub is_met : Option ℕ → Numbered → Bool
is_met outer one = not (is_outer one.first.outer outer) || is_some one.done

-- each header of the block that this routine is round has its body
abbrev pub all_met : Option ℕ → List Numbered → Judgement (Unit {0})
all_met outer [] = makes tt
all_met outer (one ∷ rest) = asking (rule (broken one.first.place rules.Bodies) (is_met outer one) (IsMet outer one) tt) (all_met outer rest)

-- routines nest at most 16 deep
abbrev pub shallow : Place → ℕ → Judgement (Unit {0})
shallow place depth = rule (too_large place depth) (nat_le depth 16) (depth ≤ 16) tt

abbrev pub statements_of : Environment → CompoundStatement → Judgement Statement
statements_of g body = blocked (listed g (view_statements body.statements.items))

abbrev pub done : Place → List TypeId → Statement → Done
done place locals body = record { place = place; locals = locals; body = body }

-- behind the block of a routine its names are gone, and the routine has its variables and statements
abbrev pub closed : ℕ → Place → Stage → Statement → Drafted
closed number place s body = record {
  scope = without_block s.draft.scope;
  globals = s.draft.globals;
  routines = finishing number (done place s.locals body) s.draft.routines;
}

-- The declarations of a block are read: each header in it has its body, the statements are typed, and the routine is not too deep.
abbrev pub ended : Site → ℕ → Place → CompoundStatement → Stage → Judgement Drafted
ended inner number place body s =
    asking (all_met (Some number) s.draft.routines) (part (statements_of s.draft.scope body) (λ typed.
    asking (shallow place (depth_of inner)) (makes (closed number place s typed))))
