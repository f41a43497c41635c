-- What is read by one folder is read by each that has the same files where they are read. So what two folders give one after the
-- other, one folder gives.
use Rattle.std.proofs.Common.{◌≡◌, ℕ, Bool, true, false, cond, List, [], ◌∷◌, ◌++◌, map, length, Option, None, Some, Result, Ok, Err, MatchResult, refl, sym, ap, ◌∙◌, subst}
use Rattle.std.specs.Prelude.{OnOk}
use Rattle.tp_outside.specs.Folder.{Folder}
use Rattle.tp_lexer.specs.declared.token.LexError.{LexError}
use Rattle.tp_lexer.specs.declared.token.LexError.TheVariants as broken
use Rattle.tp_lexer.specs.declared.token.Text.{Text}
use Rattle.tp_lexer.specs.declared.token.Token.{Token}
use Rattle.tp_lexer.specs.Acting as lexer
use Rattle.tp_lexer.specs.Tokens.{Tokens, Breaks}
use Rattle.syntax_tree.specs.declared.identifier.Identifier.{Identifier}
use Rattle.tp_lexer.specs.source_directives.Directives.{directives_of}
use Rattle.syntax_tree.specs.source_tree.Sources.{of_tree, used}
use Rattle.tp_parser.specs.Parsing.{IsSource}
use Rattle.source_graph.specs.declared.error.GatherError.{GatherError}
use Rattle.source_graph.specs.declared.error.GatherError.TheVariants.{MissingFile}
use Rattle.source_graph.specs.declared.sources.Source.{Source}
use Rattle.source_graph.specs.declared.wanted.Wanted.{Wanted}
use Rattle.source_graph.specs.Texts.{defined, number_of, leads_out, with_text, with_file}
use Rattle.source_graph.specs.Files.{source_file, absent, numbered, opened_by, opened, Includes, ComesTo, IsMended}
use Rattle.source_graph.specs.Sources.{IsRead}
use Rattle.source_graph.specs.Walk.{start, wanted_at, wanted_by, names_of, due, Walks, IsMet, Gathers, Unless}
use Rattle.source_graph.proofs.AmongLaws.{is_among, AreWithin, none_within, none_among, file_added}
use Rattle.source_graph.proofs.AnswerLaws.{HasIncluded, IsOn, mended, is_read, is_met, on_start, met_by, on_end}
use Rattle.source_graph.proofs.LackLaws.{lacks_none}

-- ---- what is read is among the texts

module _ (held : Folder) where
  includes_within : (main : ℕ) (first : List Text) (names : List (List ℕ)) (after : List Text) → Includes held main first names after → AreWithin first after
  includes_within main first [] after same = λ name there. subst (λ (t : List Text). is_among t name ≡ true) same there
  includes_within main first (name ∷ names) after steps =
      let added = file_added first steps.0 name (MissingFile name) (held name) steps.2 in
      λ other there. includes_within main steps.0 names after steps.3 other (added.0 other there)

  numbered_is : (number : ℕ) (more : Result (List Text) GatherError) (first : List Text) (main : ℕ) → numbered number more ≡ Ok (first, main) → more ≡ Ok first
  numbered_is number (Ok texts) first main is =
      let x : List Text × ℕ = (texts, number) in
      let y : List Text × ℕ = (first, main) in
      let same : x ≡ y = cc in
      let okay : List Text → Result (List Text) GatherError = λ t. Ok t in
      ap okay (ap (λ (v : List Text × ℕ). v.0) same)
  numbered_is number (Err error) first main is = absurd cc

  opened_within : (texts first : List Text) (wanted : Wanted) (main : ℕ) → opened held texts wanted ≡ Ok (first, main) → AreWithin texts first
  opened_within texts first wanted main opens = by (number_of texts (source_file wanted.name)) opens
    where
      by : (found : Option ℕ) → opened_by found texts (with_file (absent texts wanted) texts (source_file wanted.name) (held (source_file wanted.name))) ≡ Ok (first, main) → AreWithin texts first
      by (Some number) is =
          let x : List Text × ℕ = (texts, number) in
          let y : List Text × ℕ = (first, main) in
          let same : x ≡ y = cc in
          λ name there. subst (λ (t : List Text). is_among t name ≡ true) (ap (λ (v : List Text × ℕ). v.0) same) there
      by None is = (file_added texts first (source_file wanted.name) (absent texts wanted) (held (source_file wanted.name)) (numbered_is (length texts) (with_file (absent texts wanted) texts (source_file wanted.name) (held (source_file wanted.name))) first main is)).0

  read_within : (texts after : List Text) (wanted : Wanted) (source : Source) → IsRead held texts wanted after source → AreWithin texts after
  read_within texts after wanted source read =
      let lexed = read.lexed in
      λ name there. includes_within source.text lexed.first lexed.comes.names after lexed.comes.includes name (opened_within texts lexed.first wanted source.text lexed.opens name there)

  walks_within : (texts : List Text) (met : List (List ℕ)) (wanted : List Wanted) (sources : List Source) (after : List Text) (left : List Wanted) → Walks held texts met wanted sources after left → AreWithin texts after
  walks_within texts met wanted [] after left walk = λ name there. subst (λ (t : List Text). is_among t name ≡ true) walk.0 there
  walks_within texts met wanted (s ∷ sources) after left walk = λ name there.
      walks_within walk.2 (met ++ s.name ∷ []) (wanted_by s ++ walk.1) sources after left walk.5 name (read_within texts walk.2 walk.0 s walk.4 name there)

-- ---- by another folder

module _ (held other : Folder) where
  -- the folders have the same files among those that are read from the texts on until they are these
  abbrev pub AreOne : List Text → List Text → Type 0
  AreOne texts after = (name : List ℕ) → is_among texts name ≡ false → is_among after name ≡ true → other name ≡ held name

  one_later : (texts more after : List Text) → AreWithin texts more → AreOne texts after → AreOne more after
  one_later texts more after within one name none some = one name (none_within texts more name within none) some

  one_before : (texts more after : List Text) → AreWithin more after → AreOne texts after → AreOne texts more
  one_before texts more after within one name none some = one name none (within name some)

  file_moved : (error : GatherError) (texts more after : List Text) (name : List ℕ) → number_of texts name ≡ None → AreWithin more after → AreOne texts after → with_file error texts name (held name) ≡ Ok more
      → with_file error texts name (other name) ≡ Ok more
  file_moved error texts more after name none within one is =
      let added = file_added texts more name error (held name) is in
      let same : other name ≡ held name = one name (none_among texts name none) (within name added.1) in
      subst (λ (found : Option (List ℕ)). with_file error texts name found ≡ Ok more) (sym same) is

  includes_moved : (main : ℕ) (first : List Text) (names : List (List ℕ)) (after : List Text) → Includes held main first names after → AreOne first after → Includes other main first names after
  includes_moved main first [] after same one = same
  includes_moved main first (name ∷ names) after steps one =
      let added = file_added first steps.0 name (MissingFile name) (held name) steps.2 in
      let moved = file_moved (MissingFile name) first steps.0 after name (lacks_none first main name steps.1) (includes_within held main steps.0 names after steps.3) one steps.2 in
      (steps.0, steps.1, moved, includes_moved main steps.0 names after steps.3 (one_later first steps.0 after added.0 one))

  opened_moved : (texts first : List Text) (wanted : Wanted) (main : ℕ) → opened held texts wanted ≡ Ok (first, main) → AreOne texts first → opened other texts wanted ≡ Ok (first, main)
  opened_moved texts first wanted main opens one = by (number_of texts (source_file wanted.name)) refl opens
    where
      by : (found : Option ℕ) → number_of texts (source_file wanted.name) ≡ found → opened_by found texts (with_file (absent texts wanted) texts (source_file wanted.name) (held (source_file wanted.name))) ≡ Ok (first, main)
          → opened_by found texts (with_file (absent texts wanted) texts (source_file wanted.name) (other (source_file wanted.name))) ≡ Ok (first, main)
      by (Some number) some is = is
      by None none is =
          let file = numbered_is held (length texts) (with_file (absent texts wanted) texts (source_file wanted.name) (held (source_file wanted.name))) first main is in
          let moved = file_moved (absent texts wanted) texts first first (source_file wanted.name) none (λ name there. there) one file in
          ap (numbered (length texts)) moved ∙ sym (ap (numbered (length texts)) file) ∙ is

  comes_moved : (main : ℕ) (first after : List Text) (tokens : List Token) → ComesTo held main first after tokens → AreOne first after → ComesTo other main first after tokens
  comes_moved main first after tokens comes one = record { names = comes.names; includes = includes_moved main first comes.names after comes.includes one; lexed = comes.lexed }

  read_moved : (texts after : List Text) (wanted : Wanted) (source : Source) → IsRead held texts wanted after source → AreOne texts after → IsRead other texts wanted after source
  read_moved texts after wanted source read one =
      let lexed = read.lexed in
      let behind = includes_within held source.text lexed.first lexed.comes.names after lexed.comes.includes in
      let front = opened_within held texts lexed.first wanted source.text lexed.opens in
      record {
        named = read.named;
        tokens = read.tokens;
        lexed = record {
          first = lexed.first;
          opens = opened_moved texts lexed.first wanted source.text lexed.opens (one_before texts lexed.first after behind one);
          comes = comes_moved source.text lexed.first after read.tokens lexed.comes (one_later texts lexed.first after front one);
        };
        spelled = read.spelled;
        said = read.said;
      }

  walks_moved : (texts : List Text) (met : List (List ℕ)) (wanted : List Wanted) (sources : List Source) (after : List Text) (left : List Wanted) → Walks held texts met wanted sources after left → AreOne texts after
      → Walks other texts met wanted sources after left
  walks_moved texts met wanted [] after left walk one = walk
  walks_moved texts met wanted (s ∷ sources) after left walk one =
      let behind = walks_within held walk.2 (met ++ s.name ∷ []) (wanted_by s ++ walk.1) sources after left walk.5 in
      let front = read_within held texts walk.2 walk.0 s walk.4 in (
        walk.0,
        walk.1,
        walk.2,
        walk.3,
        read_moved texts walk.2 walk.0 s walk.4 (one_before texts walk.2 after behind one),
        walks_moved walk.2 (met ++ s.name ∷ []) (wanted_by s ++ walk.1) sources after left walk.5 (one_later texts walk.2 after front one),
      )

-- ---- one folder of two

-- a file that is one of the texts is there as in the first, and any other as in the second
abbrev joined : List Text → Folder → Folder → Folder
joined texts left right = λ name. cond (is_among texts name) (left name) (right name)

module _ (texts : List Text) (left right : Folder) where
  as_left : (before : List Text) → AreOne left (joined texts left right) before texts
  as_left before name none some = ap (λ (b : Bool). cond b (left name) (right name)) some

  as_right : (after : List Text) → AreOne right (joined texts left right) texts after
  as_right after name none some = ap (λ (b : Bool). cond b (left name) (right name)) none

-- there is a folder of which this holds
abbrev pub InSome : (Folder → Type 0) → Type 0
InSome P = (held : Folder) × P held

pub some_opened : (main : ℕ) (old first after : List Text) (wanted : Wanted) (tokens : List Token) → InSome (λ held. opened held old wanted ≡ Ok (first, main)) → InSome (λ held. ComesTo held main first after tokens)
    → InSome (λ held. (opened held old wanted ≡ Ok (first, main)) × ComesTo held main first after tokens)
some_opened main old first after wanted tokens opens comes =
    let one = joined first opens.0 comes.0 in
    (one, (opened_moved opens.0 one old first wanted main opens.1 (as_left first opens.0 comes.0 old), comes_moved comes.0 one main first after tokens comes.1 (as_right first opens.0 comes.0 after)))

some_mended_by : (main : ℕ) (first now more : List Text) (rule : LexError) → InSome (λ held. HasIncluded held main first now) → lexer.Unless rule (Breaks now main defined rule) → InSome (λ held. IsMended held now rule more)
    → InSome (λ held. HasIncluded held main first now × IsMended held now rule more)
some_mended_by main first now more (broken.MissingInclude place name) before breaks mends =
    let one = joined now before.0 mends.0 in
    let included = includes_moved before.0 one main first before.1.0 now before.1.1 (as_left now before.0 mends.0 first) in
    let mended_too = file_moved mends.0 one (MissingFile name) now more more name (lacks_none now main name (place, breaks)) (λ other there. there) (as_right now before.0 mends.0 more) mends.1 in
    (one, ((before.1.0, included), mended_too))
some_mended_by main first now more rule before breaks mends = absurd mends.1

pub some_mended : (main : ℕ) (first now more : List Text) (rule : LexError) → InSome (λ held. HasIncluded held main first now) → lexer.Unless rule (Breaks now main defined rule) → InSome (λ held. IsMended held now rule more)
    → InSome (λ held. HasIncluded held main first more)
some_mended main first now more rule before breaks mends =
    let both = some_mended_by main first now more rule before breaks mends in
    (both.0, mended (Some both.0) main first now more rule both.1.0 breaks both.1.1)

pub some_met : (name : List ℕ) (texts after : List Text) (sources more : List Source) (wanted others now : List Wanted) (next : Wanted) → InSome (λ held. IsOn held name texts sources wanted) → due (names_of sources) wanted ≡ next ∷ others
    → InSome (λ held. IsMet held texts next sources others after more now) → InSome (λ held. IsOn held name after more now)
some_met name texts after sources more wanted others now next on is met =
    let one = joined texts on.0 met.0 in
    let walk : IsOn one name texts sources wanted = walks_moved on.0 one [] [] (start name ∷ []) sources texts (due (names_of sources) wanted) on.1 (as_left texts on.0 met.0 []) in
    let step : IsMet one texts next sources others after more now = record {
      source = met.1.source;
      read = read_moved met.0 one texts after next met.1.source met.1.read (as_right texts on.0 met.0 after);
      sources_are = met.1.sources_are;
      wanted_are = met.1.wanted_are;
    } in
    (one, met_by one name texts after sources more wanted others now next walk is step)

pub some_text : (error : GatherError) (texts more : List Text) (name bytes : List ℕ) (result : Result (Unit {0}) GatherError) → leads_out name ≡ false
    → MatchResult result (λ done. with_text texts name bytes ≡ Ok more) (λ e. Unless e (with_text texts name bytes ≡ Err e)) → OnOk result (InSome (λ held. with_file error texts name (held name) ≡ Ok more))
some_text error texts more name bytes (Ok done) inside is = (λ file. Some bytes, ap (λ (out : Bool). cond out (Err error) (with_text texts name bytes)) inside ∙ is)
some_text error texts more name bytes (Err e) inside is = tt

pub none_included : (main : ℕ) (texts : List Text) → InSome (λ held. HasIncluded held main texts texts)
none_included main texts = (λ file. None, ([], refl))

pub some_comes : (main : ℕ) (first now : List Text) (tokens : List Token) → InSome (λ held. HasIncluded held main first now) → Tokens now main defined tokens → InSome (λ held. ComesTo held main first now tokens)
some_comes main first now tokens before lexed = (before.0, record { names = before.1.0; includes = before.1.1; lexed = lexed })

pub some_read : (old first after : List Text) (wanted : Wanted) (tokens list : List Token) (source : Source) → InSome (λ held. opened held old wanted ≡ Ok (first, source.text)) → InSome (λ held. ComesTo held source.text first after tokens)
    → list ≡ tokens → source.name ≡ wanted.name → source.says ≡ directives_of list → IsSource list (of_tree source.tree) → InSome (λ held. IsRead held old wanted after source)
some_read old first after wanted tokens list source opens comes same named said spelled =
    let both = some_opened source.text old first after wanted tokens opens comes in
    (both.0, is_read (Some both.0) old first after wanted tokens list source both.1.0 both.1.1 same named said spelled)

pub some_is_met : (texts after : List Text) (next : Wanted) (sources more : List Source) (wanted now : List Wanted) (uses : List Identifier) (source : Source) → InSome (λ held. IsRead held texts next after source) → more ≡ sources ++ source ∷ [] → uses ≡ used source.tree → now ≡ map wanted_at uses ++ wanted
    → InSome (λ held. IsMet held texts next sources wanted after more now)
some_is_met texts after next sources more wanted now uses source read more_is uses_are now_is =
    (read.0, is_met (Some read.0) texts after next sources more wanted now uses source read.1 more_is uses_are now_is)

pub some_start : (name : List ℕ) (texts : List Text) (sources : List Source) (wanted : List Wanted) → texts ≡ [] → sources ≡ [] → wanted ≡ start name ∷ [] → InSome (λ held. IsOn held name texts sources wanted)
some_start name texts sources wanted no_texts no_sources one =
    let held : Folder = λ file. None in
    (held, on_start (Some held) name texts sources wanted no_texts no_sources one)

pub some_end : (name : List ℕ) (texts : List Text) (sources : List Source) (wanted : List Wanted) → InSome (λ held. IsOn held name texts sources wanted) → due (names_of sources) wanted ≡ [] → InSome (λ held. Gathers held name texts sources)
some_end name texts sources wanted on is = (on.0, on_end (Some on.0) name texts sources wanted on.1 is)

-- where the file is one of the texts, it is opened in any folder
pub some_there : (texts : List Text) (wanted : Wanted) (file : List ℕ) (number : ℕ) → file ≡ source_file wanted.name → Some number ≡ number_of texts file → InSome (λ held. opened held texts wanted ≡ Ok (texts, number))
some_there texts wanted file number is found =
    let held : Folder = λ other. None in
    let there : number_of texts (source_file wanted.name) ≡ Some number = subst (λ (f : List ℕ). number_of texts f ≡ Some number) is (sym found) in
    (held, ap (λ (o : Option ℕ). opened_by o texts (with_file (absent texts wanted) texts (source_file wanted.name) None)) there)
