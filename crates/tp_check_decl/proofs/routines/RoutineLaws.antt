-- Routines and declarations are judged lawfully.
use Rattle.std.proofs.Common.{◌≡◌, ℕ, ◌+◌, ◌≤◌, nat_le, Bool, true, false, not, codes, List, [], ◌∷◌, length, Option, Some, None, slice_get}
use Rattle.std.proofs.lemmas.Bool.{leb-true, le-leb}
use Rattle.type_layout.specs.declared.definitions.TypeId.{TypeId}
use Rattle.type_layout.specs.declared.definitions.Param.{Param}
use Rattle.type_layout.specs.declared.definitions.Kind.{Kind}
use Rattle.type_layout.specs.declared.definitions.Kind.TheVariants as kind
use Rattle.type_layout.specs.declared.definitions.Header.{Header}
use Rattle.type_layout.specs.declared.definitions.Method.{Method}
use Rattle.type_layout.specs.declared.texts.Place.{Place}
use Rattle.object_vmt.specs.Rules.{same_header}
use Rattle.syntax_tree.specs.declared.identifier.Identifier.{Identifier}
use Rattle.syntax_tree.specs.declared.statement.CompoundStatement.{CompoundStatement}
use Rattle.syntax_tree.specs.declared.type_tree.parameter.ParameterGroup.{ParameterGroup}
use Rattle.syntax_tree.specs.declared.type_tree.parameter.MethodHeader.{MethodHeader}
use Rattle.syntax_tree.specs.declared.source_tree.declaration.DeclarationPart.{DeclarationPart}
use Rattle.syntax_tree.specs.declared.source_tree.declaration.RoutineHeader.{RoutineHeader}
use Rattle.syntax_tree.specs.declared.source_tree.declaration.RoutineHeader.TheVariants as h
use Rattle.syntax_tree.specs.statement_tree.Trees.{compound, view_statements}
use Rattle.scopes.specs.declared.entries.Entry.TheVariants as entry
use Rattle.scopes.specs.declared.entries.BlockKind.TheVariants.{Routine}
use Rattle.scopes.specs.Members.{narrow}
use Rattle.scopes.specs.Environment.{Environment, with_block}
use Rattle.typed_tree.specs.type_fits.Fits.{AreSameHeaders, definition}
use Rattle.typing_rules.specs.declared.faults.Rule.TheVariants as rules
use Rattle.typing_rules.specs.Faults.{broken, too_large}
use Rattle.typing_rules.specs.Judgements.{Judgement, makes, refuses, rule, part}
use Rattle.typing_rules.specs.Selectors.{asking}
use Rattle.typing_rules.specs.Laws.{Lawful}
use Rattle.typing_rules.proofs.JudgementLaws.{lawful_makes, lawful_refuses, lawful_rule, lawful_either, lawful_part}
use Rattle.tp_check_stmt.proofs.StatementLaws as statement
use Rattle.declaration_checker.specs.headers.Names.{type_named}
use Rattle.declaration_checker.specs.headers.Headers.{procedure_header, function_header, routine_header, method_header}
use Rattle.declaration_checker.proofs.headers.HeaderLaws.{tells_not, lawful_type_named, lawful_procedure, lawful_function, lawful_routine, lawful_method}
use Rattle.declaration_checker.specs.type_denoters.Additions.{entered}
use Rattle.declaration_checker.proofs.type_denoters.DenoterLaws.{lawful_entered}
use Rattle.declaration_checker.specs.type_parts.Objects.{header_place, name_of as method_name}
use Rattle.declaration_checker.specs.declarations.Parts.{part_declared}
use Rattle.declaration_checker.proofs.declarations.PartLaws.{lawful_declared}
use Rattle.tp_check_decl.specs.declared.routines.drafts.Site.{Site}
use Rattle.tp_check_decl.specs.declared.routines.drafts.Awaited.{Awaited}
use Rattle.tp_check_decl.specs.declared.routines.drafts.Begun.{Begun}
use Rattle.tp_check_decl.specs.routines.Trees.{Work, Works, forward, plain, method, no_works, and_part, and_work}
use Rattle.tp_check_decl.specs.routines.Drafts.{Numbered, Drafted, knowing, next_number, announcing, Stage, stage, progress_of, with_progress, next_for, depth_of}
use Rattle.tp_check_decl.specs.routines.Headings.{name_of, begins, is_far, announced_by, routine_entry, announced, heading, awaited_of, same_kind, is_bare, kind_repeated, whole_repeated, half_repeated, repeated, begun, with_params, Opened, opened, opened_by, opened_of}
use Rattle.tp_check_decl.specs.routines.Methods.{groups_of, names_of, is_self, none_is_self, without_self, own_method, may_follow, lacks_result, header_repeated, method_begun, method_opened_by, method_opened}
use Rattle.tp_check_decl.specs.routines.Insides.{site_in, self_entered, params_entered, inside, IsMet, is_met, all_met, shallow, statements_of, closed, ended}
use Rattle.tp_check_decl.specs.routines.Blocks.{with_methods, part_judged, block_judged, judged, all_judged}
use Rattle.tp_check_decl.proofs.routines.HeaderTests.{tells_kind, tells_header, tells_met}

-- what is asked, and then something else
lawful_asking : {C : Type 0} (j : Judgement (Unit {0})) (k : Judgement C) → Lawful j → Lawful k → Lawful (asking j k)
lawful_asking j k l m = lawful_part j (λ u. k) l (λ u. m)

-- ---- headers

lawful_announced : (far : Bool) (site : Site) (d : Drafted) (one : RoutineHeader) (header : Header) → Lawful (announced far site d one header)
lawful_announced far site d one header =
    lawful_part (entered d.scope (name_of one).position.place (name_of one).name (routine_entry (is_far far one) site (next_number d) header))
    (λ g. makes (announcing (knowing d g) (announced_by far site one header)))
    (lawful_entered d.scope (name_of one).position.place (name_of one).name (routine_entry (is_far far one) site (next_number d) header))
    (λ g. lawful_makes (announcing (knowing d g) (announced_by far site one header)))

pub lawful_heading : (far : Bool) (site : Site) (d : Drafted) (one : RoutineHeader) → Lawful (heading far site d one)
unfolding heading
lawful_heading far site d one =
    lawful_part (routine_header d.scope one) (λ header. announced far site d one header) (lawful_routine d.scope one) (λ header. lawful_announced far site d one header)

lawful_kind : (place : Place) (one : Kind) (first : Header) → Lawful (kind_repeated place one first)
lawful_kind place one first = lawful_rule (broken place rules.Bodies) (same_kind first.kind one) (first.kind ≡ one) first.params (tells_kind first.kind one)

lawful_whole : (place : Place) (first : Header) (j : Judgement Header) → Lawful j → Lawful (whole_repeated place first j)
lawful_whole place first j l =
    lawful_part j (λ header. rule (broken place rules.Bodies) (same_header first header) (AreSameHeaders first header) header.params) l
    (λ header. lawful_rule (broken place rules.Bodies) (same_header first header) (AreSameHeaders first header) header.params (tells_header first header))

lawful_half : (place : Place) (j : Judgement Header) → Lawful j → Lawful (half_repeated place j)
lawful_half place j l = lawful_part j (λ header. refuses (broken place rules.Bodies)) l (λ header. lawful_refuses (broken place rules.Bodies))

lawful_repeated : (g : Environment) (first : Header) (one : RoutineHeader) → Lawful (repeated g first one)
lawful_repeated g first (h.Procedure here name groups) =
    let j = procedure_header g false here.place kind.Procedure groups.items in
    lawful_either (is_bare groups.items) (kind_repeated here.place kind.Procedure first) (whole_repeated here.place first j)
    (lawful_kind here.place kind.Procedure first) (lawful_whole here.place first j (lawful_procedure g false here.place kind.Procedure groups.items))
lawful_repeated g first (h.Function here name groups None) =
    let j = procedure_header g false here.place kind.Procedure groups.items in
    lawful_either (is_bare groups.items) (kind_repeated here.place kind.Function first) (half_repeated here.place j)
    (lawful_kind here.place kind.Function first) (lawful_half here.place j (lawful_procedure g false here.place kind.Procedure groups.items))
lawful_repeated g first (h.Function here name groups (Some result)) =
    lawful_whole here.place first (function_header g false here.place groups.items (Some result)) (lawful_function g false here.place groups.items (Some result))

lawful_opened_by : (site : Site) (d : Drafted) (one : RoutineHeader) (found : Option Awaited) → Lawful (opened_by site d one found)
lawful_opened_by site d one (Some first) =
    lawful_part (repeated d.scope first.header one) (λ params. makes (opened (begun first.number (with_params first.header params) None) d))
    (lawful_repeated d.scope first.header one) (λ params. lawful_makes (opened (begun first.number (with_params first.header params) None) d))
lawful_opened_by site d one None =
    lawful_part (routine_header d.scope one) (λ header. part (announced false site d one header) (λ e. makes (opened (begun (next_number d) header None) e))) (lawful_routine d.scope one)
    (λ header. lawful_part (announced false site d one header) (λ e. makes (opened (begun (next_number d) header None) e)) (lawful_announced false site d one header)
    (λ e. lawful_makes (opened (begun (next_number d) header None) e)))

lawful_opened : (site : Site) (d : Drafted) (one : RoutineHeader) → Lawful (opened_of site d one)
unfolding opened_of
lawful_opened site d one = lawful_opened_by site d one (awaited_of d (name_of one).name)

-- ---- methods

lawful_none_is_self : (all : List Identifier) → Lawful (none_is_self all)
lawful_none_is_self [] = lawful_makes tt
lawful_none_is_self (one ∷ rest) =
    lawful_asking (rule (broken one.position.place rules.Duplicate) (not (is_self one.name)) (is_self one.name ≡ false) tt) (none_is_self rest)
    (lawful_rule (broken one.position.place rules.Duplicate) (not (is_self one.name)) (is_self one.name ≡ false) tt (tells_not (is_self one.name))) (lawful_none_is_self rest)

lawful_without_self : (all : List ParameterGroup) → Lawful (without_self all)
lawful_without_self [] = lawful_makes tt
lawful_without_self (one ∷ rest) = lawful_asking (none_is_self (names_of one)) (without_self rest) (lawful_none_is_self (names_of one)) (lawful_without_self rest)

lawful_header_repeated : (g : Environment) (first : Header) (one : MethodHeader) → Lawful (header_repeated g first one)
lawful_header_repeated g first one =
    let j = procedure_header g true (header_place one) kind.Procedure (groups_of one) in
    lawful_either (lacks_result one) (half_repeated (header_place one) j) (whole_repeated (header_place one) first (method_header g one))
    (lawful_half (header_place one) j (lawful_procedure g true (header_place one) kind.Procedure (groups_of one)))
    (lawful_whole (header_place one) first (method_header g one) (lawful_method g one))

lawful_begun : (d : Drafted) (one : MethodHeader) (ty : TypeId) (found : Method) → Lawful (method_begun d one ty found)
lawful_begun d one ty found =
    lawful_part (header_repeated d.scope found.header one) (λ params. asking (without_self (groups_of one)) (makes (opened (begun found.routine.number (with_params found.header params) (Some ty)) d)))
    (lawful_header_repeated d.scope found.header one)
    (λ params. lawful_asking (without_self (groups_of one)) (makes (opened (begun found.routine.number (with_params found.header params) (Some ty)) d)) (lawful_without_self (groups_of one))
    (lawful_makes (opened (begun found.routine.number (with_params found.header params) (Some ty)) d)))

lawful_method_opened_by : (site : Site) (d : Drafted) (one : MethodHeader) (ty : TypeId) (found : Option Method) → Lawful (method_opened_by site d one ty found)
lawful_method_opened_by site d one ty None = lawful_refuses (broken (method_name one).position.place rules.Selected)
lawful_method_opened_by site d one ty (Some found) =
    let may = may_follow site (slice_get d.routines found.routine.number) ty in
    lawful_asking (rule (broken (header_place one) rules.Bodies) may (may ≡ true) tt) (method_begun d one ty found)
    (lawful_rule (broken (header_place one) rules.Bodies) may (may ≡ true) tt (λ e. e, λ e. e)) (lawful_begun d one ty found)

lawful_method_opened : (site : Site) (d : Drafted) (one : MethodHeader) (owner : Identifier) → Lawful (method_opened site d one owner)
unfolding method_opened
lawful_method_opened site d one owner =
    lawful_part (type_named d.scope owner.position.place owner.name) (λ ty. method_opened_by site d one ty (own_method (definition d.scope.types.types ty) (method_name one).name))
    (lawful_type_named d.scope owner.position.place owner.name)
    (λ ty. lawful_method_opened_by site d one ty (own_method (definition d.scope.types.types ty) (method_name one).name))

-- ---- blocks

lawful_params : (level : ℕ) (place : Place) (number : ℕ) (g : Environment) (params : List Param) → Lawful (params_entered level place number g params)
lawful_params level place number g [] = lawful_makes g
lawful_params level place number g (one ∷ rest) =
    lawful_part (entered g place one.name (entry.Var 0 level number one.ty)) (λ h. params_entered level place (narrow (number + 1)) h rest)
    (lawful_entered g place one.name (entry.Var 0 level number one.ty)) (λ h. lawful_params level place (narrow (number + 1)) h rest)

lawful_met : (outer : Option ℕ) (all : List Numbered) → Lawful (all_met outer all)
lawful_met outer [] = lawful_makes tt
lawful_met outer (one ∷ rest) =
    lawful_asking (rule (broken one.first.place rules.Bodies) (is_met outer one) (IsMet outer one) tt) (all_met outer rest)
    (lawful_rule (broken one.first.place rules.Bodies) (is_met outer one) (IsMet outer one) tt (tells_met outer one)) (lawful_met outer rest)

lawful_shallow : (place : Place) (depth : ℕ) → Lawful (shallow place depth)
lawful_shallow place depth = lawful_rule (too_large place depth) (nat_le depth 16) (depth ≤ 16) tt (leb-true depth 16, le-leb depth 16)

pub lawful_statements : (g : Environment) (body : CompoundStatement) → Lawful (statements_of g body)
lawful_statements g body = statement.lawful g (compound (view_statements body.statements.items))

lawful_ended : (inner : Site) (number : ℕ) (place : Place) (body : CompoundStatement) (s : Stage) → Lawful (ended inner number place body s)
lawful_ended inner number place body s =
    lawful_asking (all_met (Some number) s.draft.routines) (part (statements_of s.draft.scope body) (λ typed. asking (shallow place (depth_of inner)) (makes (closed number place s typed))))
    (lawful_met (Some number) s.draft.routines)
    (lawful_part (statements_of s.draft.scope body) (λ typed. asking (shallow place (depth_of inner)) (makes (closed number place s typed))) (lawful_statements s.draft.scope body)
    (λ typed. lawful_asking (shallow place (depth_of inner)) (makes (closed number place s typed)) (lawful_shallow place (depth_of inner)) (lawful_makes (closed number place s typed))))

lawful_self : (level : ℕ) (place : Place) (number : ℕ) (owner : Option TypeId) (g : Environment) → Lawful (self_entered level place number owner g)
lawful_self level place number None g = lawful_makes g
lawful_self level place number (Some ty) g = lawful_entered g place (codes "SELF") (entry.Var 0 level number ty)

lawful_inside : (inner : Site) (place : Place) (b : Begun) (g : Environment) → Lawful (inside inner place b g)
lawful_inside inner place b g =
    lawful_part (self_entered (depth_of inner) place (narrow (length b.header.params)) b.owner (with_block g (Routine b.number b.owner))) (λ h. params_entered (depth_of inner) place 0 h b.header.params)
    (lawful_self (depth_of inner) place (narrow (length b.header.params)) b.owner (with_block g (Routine b.number b.owner)))
    (λ h. lawful_params (depth_of inner) place 0 h b.header.params)

lawful_block : (site : Site) (place : Place) (o : Opened) (body : CompoundStatement) (declared : Site → Stage → Judgement Stage)
    → ((inner : Site) (s : Stage) → Lawful (declared inner s)) → Lawful (block_judged site place o body declared)
lawful_block site place o body declared l =
    lawful_part (inside (site_in site o.begun) place o.begun o.draft.scope)
    (λ g. part (declared (site_in site o.begun) (stage (knowing o.draft g) [])) (λ s. ended (site_in site o.begun) o.begun.number place body s))
    (lawful_inside (site_in site o.begun) place o.begun o.draft.scope)
    (λ g. lawful_part (declared (site_in site o.begun) (stage (knowing o.draft g) [])) (λ s. ended (site_in site o.begun) o.begun.number place body s)
    (l (site_in site o.begun) (stage (knowing o.draft g) []))
    (λ s. lawful_ended (site_in site o.begun) o.begun.number place body s))

-- ---- declarations

module _ (unit : List ℕ) where
  pub lawful_part_of : (site : Site) (s : Stage) (one : DeclarationPart) → Lawful (part_judged unit site s one)
  unfolding part_judged
  lawful_part_of site s one =
      lawful_part (part_declared unit site.home (next_for site.home (next_number s.draft)) (progress_of s) one) (λ p. makes (with_methods one (with_progress s p)))
      (lawful_declared unit site.home (next_for site.home (next_number s.draft)) (progress_of s) one) (λ p. lawful_makes (with_methods one (with_progress s p)))

  mutual
    pub lawful : (site : Site) (d : Drafted) (work : Work) → Lawful (judged unit site d work)
    lawful site d (forward one) = lawful_heading false site d one
    lawful site d (plain one all body) =
        lawful_part (opened_of site d one) (λ o. block_judged site (begins one).place o body (λ inner s. all_judged unit inner s all)) (lawful_opened site d one)
        (λ o. lawful_block site (begins one).place o body (λ inner s. all_judged unit inner s all) (λ inner s. lawful_all inner s all))
    lawful site d (method one owner all body) =
        lawful_part (method_opened site d one owner) (λ o. block_judged site (header_place one) o body (λ inner s. all_judged unit inner s all)) (lawful_method_opened site d one owner)
        (λ o. lawful_block site (header_place one) o body (λ inner s. all_judged unit inner s all) (λ inner s. lawful_all inner s all))

    pub lawful_all : (site : Site) (s : Stage) (all : Works) → Lawful (all_judged unit site s all)
    lawful_all site s no_works = lawful_makes s
    lawful_all site s (and_part one rest) =
        lawful_part (part_judged unit site s one) (λ t. all_judged unit site t rest) (lawful_part_of site s one) (λ t. lawful_all site t rest)
    lawful_all site s (and_work one rest) =
        lawful_part (judged unit site s.draft one) (λ d. all_judged unit site (stage d s.locals) rest) (lawful site s.draft one) (λ d. lawful_all site (stage d s.locals) rest)
