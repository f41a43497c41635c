-- The trees of the sources of a program are as sources spell them.
use Rattle.std.proofs.Common.{◌≡◌, ℕ, List, [], ◌∷◌, ◌++◌, length, Option, Some, None, Result, Ok, Err, refl, sym, ap, subst}
use Rattle.std.specs.List.{All}
use Rattle.std.proofs.lemmas.List.Elements.{All-nil, All-cons}
use Rattle.source_graph.specs.tp_outside.Folder.{Folder}
use Rattle.source_graph.specs.tp_lexer.declared.token.Text.{Text}
use Rattle.source_graph.proofs.ll1_grammar_proofs.whole_trees.Spelled.{spelled_whole}
use Rattle.source_graph.specs.pascal_grammar.Parts as n
use Rattle.source_graph.specs.pascal_grammar.Rules.{grammar}
use Rattle.source_graph.specs.pascal_grammar.lexeme_list.Lexemes.{lexemes_of}
use Rattle.source_graph.specs.syntax_tree.source_tree.Sources.{of_tree}
use Rattle.source_graph.specs.declared.error.GatherError.{GatherError}
use Rattle.source_graph.specs.declared.error.GatherError.TheVariants as refusal
use Rattle.source_graph.specs.declared.sources.Source.{Source}
use Rattle.source_graph.specs.declared.wanted.Wanted.{Wanted}
use Rattle.source_graph.specs.Texts.{defined, number_of, with_text, with_file}
use Rattle.source_graph.specs.Files.{source_file, absent, numbered, opened_by, Includes}
use Rattle.source_graph.specs.Sources.{IsRead}
use Rattle.source_graph.specs.Walk.{start, wanted_by, Walks}
use Rattle.source_graph.proofs.TextLaws.{with_text_is, with_file_is}
use Rattle.token_provenance.specs.leaves.Written.{IsSpelled, AreTexts, IsOfBytes, IsWrittenLeaf}
use Rattle.token_provenance.specs.leaves.Laws.{SpelledLaw}
use Rattle.token_provenance.proofs.leaves.Halves.{All-left}
use Rattle.token_provenance.proofs.leaves.Leaves.{spelled_leaves}
use Rattle.token_provenance.proofs.leaves.Tokens.{tokens_written}
use Rattle.token_provenance.proofs.leaves.Lexemes.{IsWrittenLexeme, lexemes_written, value_written}

-- ---- texts that others come behind are made of bytes if all are

text_behind : (texts more : List Text) (name bytes : List ℕ) → with_text texts name bytes ≡ Ok more → AreTexts more → AreTexts texts
text_behind texts more name bytes is all =
    let made = with_text_is texts name bytes more is in
    All-left IsOfBytes texts (record { name = name; bytes = bytes } ∷ []) (subst AreTexts made.0 all)

file_behind : (error : GatherError) (texts more : List Text) (name : List ℕ) (found : Option (List ℕ)) → with_file error texts name found ≡ Ok more → AreTexts more → AreTexts texts
file_behind error texts more name found is all =
    let file = with_file_is error texts more name found is in
    text_behind texts more name file.bytes file.put all

numbered_behind : (texts first : List Text) (number main : ℕ) (more : Result (List Text) GatherError) → ((now : List Text) → more ≡ Ok now → AreTexts now → AreTexts texts) → numbered number more ≡ Ok (first, main) → AreTexts first → AreTexts texts
numbered_behind texts first number main (Ok now) before is all =
    let x : List Text × ℕ = (now, number) in
    let y : List Text × ℕ = (first, main) in
    let same : x ≡ y = cc in
    before now refl (subst AreTexts (sym (ap (λ (v : List Text × ℕ). v.0) same)) all)
numbered_behind texts first number main (Err error) before is all = absurd cc

opened_behind : (texts first : List Text) (main : ℕ) (found : Option ℕ) (more : Result (List Text) GatherError) → ((now : List Text) → more ≡ Ok now → AreTexts now → AreTexts texts) → opened_by found texts more ≡ Ok (first, main) → AreTexts first → AreTexts texts
opened_behind texts first main (Some number) more before is all =
    let x : List Text × ℕ = (texts, number) in
    let y : List Text × ℕ = (first, main) in
    let same : x ≡ y = cc in
    subst AreTexts (sym (ap (λ (v : List Text × ℕ). v.0) same)) all
opened_behind texts first main None more before is all = numbered_behind texts first (length texts) main more before is all

module _ (held : Folder) where
  included_behind : (main : ℕ) (first : List Text) (names : List (List ℕ)) (after : List Text) → Includes held main first names after → AreTexts after → AreTexts first
  included_behind main first [] after same all = subst AreTexts (sym same) all
  included_behind main first (name ∷ names) after steps all =
      file_behind (refusal.MissingFile name) first steps.0 name (held name) steps.2 (included_behind main steps.0 names after steps.3 all)

  read_behind : (texts after : List Text) (unit : Wanted) (source : Source) → IsRead held texts unit after source → AreTexts after → AreTexts texts
  read_behind texts after unit source read all =
      let lexed = read.lexed in
      let file = source_file unit.name in
      opened_behind texts lexed.first source.text (number_of texts file) (with_file (absent texts unit) texts file (held file))
      (λ now is. file_behind (absent texts unit) texts now file (held file) is) lexed.opens
      (included_behind source.text lexed.first lexed.comes.names after lexed.comes.includes all)

  walks_behind : (texts : List Text) (met : List (List ℕ)) (wanted : List Wanted) (sources : List Source) (after : List Text) (left : List Wanted) → Walks held texts met wanted sources after left → AreTexts after → AreTexts texts
  walks_behind texts met wanted [] after left walk all = subst AreTexts (sym walk.0) all
  walks_behind texts met wanted (s ∷ sources) after left walk all =
      read_behind texts walk.2 walk.0 s walk.4 (walks_behind walk.2 (met ++ s.name ∷ []) (wanted_by s ++ walk.1) sources after left walk.5 all)

  -- ---- the tree of each source

  read_spelled : (texts after : List Text) (unit : Wanted) (source : Source) → IsRead held texts unit after source → AreTexts after → IsSpelled (of_tree source.tree)
  read_spelled texts after unit source read all =
      let tokens = tokens_written after source.text defined read.tokens all read.lexed.comes.lexed in
      let lexemes = lexemes_of read.tokens in
      let spells = read.spelled.spells in
      record {
        leaves = spelled_leaves grammar IsWrittenLexeme IsWrittenLeaf value_written n.source (of_tree source.tree) lexemes (lexemes_written read.tokens tokens) spells;
        whole = spelled_whole grammar n.source (of_tree source.tree) lexemes spells;
        deep = read.spelled.deep;
      }

  walks_spelled : (texts : List Text) (met : List (List ℕ)) (wanted : List Wanted) (sources : List Source) (after : List Text) (left : List Wanted) → Walks held texts met wanted sources after left
      → AreTexts after → All (λ (source : Source). IsSpelled (of_tree source.tree)) sources
  walks_spelled texts met wanted [] after left walk all = All-nil (λ (source : Source). IsSpelled (of_tree source.tree))
  walks_spelled texts met wanted (s ∷ sources) after left walk all =
      let names = met ++ s.name ∷ [] in
      let due = wanted_by s ++ walk.1 in
      All-cons (λ (source : Source). IsSpelled (of_tree source.tree)) s sources
      (read_spelled texts walk.2 walk.0 s walk.4 (walks_behind walk.2 names due sources after left walk.5 all))
      (walks_spelled walk.2 names due sources after left walk.5 all)

pub spelled_sources : SpelledLaw
spelled_sources held name texts sources gathers all = walks_spelled held [] [] (start name ∷ []) sources texts [] gathers all
