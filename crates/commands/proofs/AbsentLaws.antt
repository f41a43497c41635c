-- A program whose source is not there.
use Rattle.std.proofs.Common.{◌≡◌, ℕ, List, [], ◌∷◌, Option, None, Ok, Err, inl, inr, sym, ap, ◌∙◌, subst}
use Rattle.tp_outside.specs.Folder.{Folder}
use Rattle.tp_lexer.specs.declared.token.Text.{Text}
use Rattle.source_graph.specs.declared.error.GatherError.{GatherError}
use Rattle.source_graph.specs.declared.error.GatherError.TheVariants as gather
use Rattle.source_graph.specs.declared.sources.Source.{Source}
use Rattle.source_graph.specs.declared.wanted.Wanted.{Wanted}
use Rattle.source_graph.specs.Files.{source_file, absent, opened_by, opened}
use Rattle.source_graph.specs.Texts.{number_of, with_file}
use Rattle.source_graph.specs.Sources.{IsUnreadable, IsMisspelled}
use Rattle.source_graph.specs.Walk.{start, due, Walks, Gathers, IsRefused, Unless}
use Rattle.front_end.specs.refusals.Outcomes.{gather_outcome}
use Rattle.front_end.specs.declared.outcomes.refusal.Refusal.{Refusal}
use Rattle.front_end.specs.declared.outcomes.refusal.Refusal.TheVariants as refusal
use Rattle.front_end.specs.declared.outcomes.outcome.Outcome.TheVariants as outcome
use Rattle.front_end.specs.Untyped.{IsNoProgram}

module _ (held : Folder) (name : List ℕ) (lacks : held (source_file name) ≡ None) where
  -- the program's own source is missing
  missing : opened held [] (start name) ≡ Err (gather.MissingFile (source_file name))
  missing = ap (λ (found : Option (List ℕ)). opened_by (number_of [] (source_file name)) [] (with_file (absent [] (start name)) [] (source_file name) found)) lacks

  -- it is the first that is due
  first_due : (next : Wanted) (others : List Wanted) → due [] (start name ∷ []) ≡ next ∷ others → start name ≡ next
  first_due next others is =
      let e : start name ∷ [] ≡ next ∷ others = is in
      cc

  never_opened : (next : Wanted) (got : List Text × ℕ) → start name ≡ next → opened held [] next ≡ Ok got → ⊥
  never_opened next got is opens =
      let there : opened held [] (start name) ≡ Ok got = subst (λ (w : Wanted). opened held [] w ≡ Ok got) (sym is) opens in
      let both = sym missing ∙ there in
      absurd cc

  -- so no source is read
  never_walked : (source : Source) (sources : List Source) (texts : List Text) (left : List Wanted) → Walks held [] [] (start name ∷ []) (source ∷ sources) texts left → ⊥
  never_walked source sources texts left walks =
      let lexed = walks.4.lexed in
      never_opened walks.0 (lexed.first, source.text) (first_due walks.0 walks.1 walks.3) lexed.opens

  pub never_gathered : (texts : List Text) (sources : List Source) → Gathers held name texts sources → ⊥
  never_gathered texts [] gathers =
      let none : start name ∷ [] ≡ [] = gathers.1 in
      absurd cc
  never_gathered texts (source ∷ sources) gathers = never_walked source sources texts [] gathers

  -- and just this is told
  unreadable : (texts : List Text) (next : Wanted) (error : GatherError) → [] ≡ texts → start name ≡ next → IsUnreadable held error texts next → error ≡ gather.MissingFile (source_file name)
  unreadable texts next error none is (inl fails) =
      let here : opened held [] (start name) ≡ Err error = subst (λ (w : Wanted). opened held [] w ≡ Err error) (sym is) (subst (λ (all : List Text). opened held all next ≡ Err error) (sym none) fails) in
      let both = sym missing ∙ here in
      cc
  unreadable texts next error none is (inr broken) =
      absurd (never_opened next (broken.first, broken.main) is (subst (λ (all : List Text). opened held all next ≡ Ok (broken.first, broken.main)) (sym none) broken.opens))

  misspelled : (texts : List Text) (next : Wanted) (error : GatherError) → [] ≡ texts → start name ≡ next → IsMisspelled held error texts next → ⊥
  misspelled texts next error none is wrong =
      let lexed = wrong.lexed in
      never_opened next (lexed.first, wrong.main) is (subst (λ (all : List Text). opened held all next ≡ Ok (lexed.first, wrong.main)) (sym none) lexed.opens)

  meets_missing : (error : GatherError) (sources : List Source) (texts : List Text) (next : Wanted) (others : List Wanted)
      → Walks held [] [] (start name ∷ []) sources texts (next ∷ others) → IsUnreadable held error texts next → error ≡ gather.MissingFile (source_file name)
  meets_missing error [] texts next others walks fails = unreadable texts next error walks.0 (first_due next others walks.1) fails
  meets_missing error (source ∷ sources) texts next others walks fails = absurd (never_walked source sources texts (next ∷ others) walks)

  meets_nothing : (error : GatherError) (sources : List Source) (texts : List Text) (next : Wanted) (others : List Wanted)
      → Walks held [] [] (start name ∷ []) sources texts (next ∷ others) → IsMisspelled held error texts next → ⊥
  meets_nothing error [] texts next others walks wrong = misspelled texts next error walks.0 (first_due next others walks.1) wrong
  meets_nothing error (source ∷ sources) texts next others walks wrong = never_walked source sources texts (next ∷ others) walks

  refused_missing : (error : GatherError) → IsRefused held name error → error ≡ gather.MissingFile (source_file name)
  refused_missing error (inl meets) = meets_missing error meets.0 meets.1 meets.2 meets.3 meets.4 meets.5
  refused_missing error (inr meets) = absurd (meets_nothing error meets.0 meets.1 meets.2 meets.3 meets.4 meets.5)

  told_missing : (r : Refusal) (error : GatherError) → outcome.Refused r ≡ gather_outcome error → error ≡ gather.MissingFile (source_file name) → r ≡ refusal.MissingFile (source_file name)
  told_missing r error is e = let told = is ∙ ap gather_outcome e in cc

  ungathered : (r : Refusal) (error : GatherError) → Unless error (IsRefused held name error) → outcome.Refused r ≡ gather_outcome error → r ≡ refusal.MissingFile (source_file name)
  ungathered r gather.FilesFault cause is = absurd cc
  ungathered r gather.NoMemory cause is = absurd cc
  ungathered r (gather.MissingFile file) cause is = told_missing r (gather.MissingFile file) is (refused_missing (gather.MissingFile file) cause)
  ungathered r (gather.TooLarge bytes) cause is = told_missing r (gather.TooLarge bytes) is (refused_missing (gather.TooLarge bytes) cause)
  ungathered r (gather.BadToken at why) cause is = told_missing r (gather.BadToken at why) is (refused_missing (gather.BadToken at why) cause)
  ungathered r (gather.Syntax at) cause is = told_missing r (gather.Syntax at) is (refused_missing (gather.Syntax at) cause)
  ungathered r (gather.NotInProfile at feature) cause is = told_missing r (gather.NotInProfile at feature) is (refused_missing (gather.NotInProfile at feature) cause)
  ungathered r (gather.TooDeep at) cause is = told_missing r (gather.TooDeep at) is (refused_missing (gather.TooDeep at) cause)

  -- there is no program of this name, for no other reason
  pub no_source : (r : Refusal) → IsNoProgram held name (outcome.Refused r) → r ≡ refusal.MissingFile (source_file name)
  no_source r (inl none) = ungathered r none.error none.cause none.is
  no_source r (inr untyped) = absurd (never_gathered untyped.texts untyped.sources untyped.gathers)
