-- What the calls answer, joined from their steps, where the folder is told.
use Rattle.std.proofs.Common.{◌≡◌, ◌⊎◌, ℕ, List, [], ◌∷◌, ◌++◌, map, Option, None, Some, IfSome, Result, Ok, Err, MatchResult, IfOk, IfErr, inl, inr, refl, sym, ap, ap₂, ◌∙◌, subst}
use Rattle.std.proofs.lemmas.List.{map-append}
use Rattle.tp_outside.specs.Folder.{Folder}
use Rattle.tp_lexer.specs.declared.token.Text.{Text}
use Rattle.tp_lexer.specs.declared.token.Token.{Token}
use Rattle.tp_lexer.specs.Tokens.{Tokens, Breaks}
use Rattle.tp_lexer.specs.Acting as lexer
use Rattle.tp_lexer.specs.declared.token.LexError.{LexError}
use Rattle.tp_lexer.specs.declared.token.LexError.TheVariants as broken
use Rattle.syntax_tree.specs.Expressions.{Parsed}
use Rattle.syntax_tree.specs.declared.identifier.Identifier.{Identifier}
use Rattle.tp_lexer.specs.source_directives.Directives.{directives_of}
use Rattle.syntax_tree.specs.source_tree.Sources.{of_tree, used}
use Rattle.tp_parser.specs.declared.error.ParseError.{ParseError}
use Rattle.tp_parser.specs.declared.error.ParseError.TheVariants as fault
use Rattle.tp_parser.specs.Parsing.{IsSource, IsReadAs, IsFault}
use Rattle.source_graph.specs.declared.error.GatherError.{GatherError}
use Rattle.source_graph.specs.declared.error.GatherError.TheVariants as refusal
use Rattle.source_graph.specs.declared.gathering.Gathered.{Gathered}
use Rattle.source_graph.specs.declared.sources.Source.{Source}
use Rattle.source_graph.specs.declared.wanted.Wanted.{Wanted}
use Rattle.source_graph.specs.Texts.{defined}
use Rattle.source_graph.specs.Files.{opened, Includes, ComesTo, IsCause, IsMended, FailsBy}
use Rattle.source_graph.specs.Sources.{IsRead, IsUnreadable, SpellsNothing, fault_refusal, IsMisspelled, AreAlike}
use Rattle.source_graph.specs.Walk.{start, wanted_at, wanted_by, names_of, due, Walks, IsMet, Gathers, Meets, IsRefused, Unless}
use Rattle.source_graph.proofs.LexLaws.{includes_more}
use Rattle.source_graph.proofs.WalkLaws.{walks_on, gathers_or_refused, gathers_or_nothing, refused_once, misspelled_once, misspelled_alike}

pub unless_then : (error : GatherError) (P Q : Type 0) → (P → Q) → Unless error P → Unless error Q
unless_then refusal.FilesFault P Q f h = tt
unless_then refusal.NoMemory P Q f h = tt
unless_then error P Q f h = f h

-- ---- the tokens of a text

abbrev pub HasIncluded : Folder → ℕ → List Text → List Text → Type 0
HasIncluded held main first now = (names : List (List ℕ)) × Includes held main first names now

pub comes : (known : Option Folder) (main : ℕ) (first now : List Text) (tokens : List Token) → IfSome known (λ held. HasIncluded held main first now) → Tokens now main defined tokens → IfSome known (λ held. ComesTo held main first now tokens)
comes None main first now tokens before lexed = tt
comes (Some held) main first now tokens before lexed = record { names = before.0; includes = before.1; lexed = lexed }

pub breaks_at : (rule : LexError) (view now : List Text) (main : ℕ) (names : List (List ℕ)) → view ≡ now → names ≡ defined → lexer.Unless rule (Breaks view main names rule) → lexer.Unless rule (Breaks now main defined rule)
breaks_at rule view now main names same known breaks =
    subst (λ (n : List (List ℕ)). lexer.Unless rule (Breaks now main n rule)) known (subst (λ (t : List Text). lexer.Unless rule (Breaks t main names rule)) same breaks)

mended_by : (held : Folder) (main : ℕ) (first now more : List Text) (rule : LexError) → HasIncluded held main first now → lexer.Unless rule (Breaks now main defined rule) → IsMended held now rule more → HasIncluded held main first more
mended_by held main first now more (broken.MissingInclude place name) before breaks mends =
    (before.0 ++ name ∷ [], includes_more held main first before.0 now more name before.1 (place, breaks) mends)
mended_by held main first now more rule before breaks mends = absurd mends

pub mended : (known : Option Folder) (main : ℕ) (first now more : List Text) (rule : LexError) → IfSome known (λ held. HasIncluded held main first now) → lexer.Unless rule (Breaks now main defined rule) → IfSome known (λ held. IsMended held now rule more) → IfSome known (λ held. HasIncluded held main first more)
mended None main first now more rule before breaks mends = tt
mended (Some held) main first now more rule before breaks mends = mended_by held main first now more rule before breaks mends

fails_by : (held : Folder) (main : ℕ) (first now : List Text) (rule : LexError) (error : GatherError) → HasIncluded held main first now → lexer.Unless rule (Breaks now main defined rule) → IsCause held now rule error → FailsBy held main first error
fails_by held main first now broken.NoMemory error before breaks cause = absurd cause
fails_by held main first now rule error before breaks cause = record { names = before.0; after = now; includes = before.1; rule = rule; breaks = breaks; cause = cause }

pub fails : (known : Option Folder) (main : ℕ) (first now : List Text) (rule : LexError) (error : GatherError) → IfSome known (λ held. HasIncluded held main first now) → lexer.Unless rule (Breaks now main defined rule) → IfSome known (λ held. Unless error (IsCause held now rule error)) → IfSome known (λ held. Unless error (FailsBy held main first error))
fails None main first now rule error before breaks cause = tt
fails (Some held) main first now rule error before breaks cause =
    unless_then error (IsCause held now rule error) (FailsBy held main first error) (λ c. fails_by held main first now rule error before breaks c) cause

always : (error told : GatherError) → error ≡ told → Unless error (error ≡ told)
always error told is = by error is
  where
    by : (e : GatherError) → error ≡ told → Unless e (error ≡ told)
    by refusal.FilesFault same = tt
    by refusal.NoMemory same = tt
    by e same = same

-- ---- a source

pub is_read : (known : Option Folder) (old first after : List Text) (wanted : Wanted) (tokens list : List Token) (source : Source) → IfSome known (λ held. opened held old wanted ≡ Ok (first, source.text)) → IfSome known (λ held. ComesTo held source.text first after tokens)
    → list ≡ tokens → source.name ≡ wanted.name → source.says ≡ directives_of list → IsSource list (of_tree source.tree) → IfSome known (λ held. IsRead held old wanted after source)
is_read None old first after wanted tokens list source opens comes same named said spelled = tt
is_read (Some held) old first after wanted tokens list source opens comes same named said spelled = record {
  named = named;
  tokens = tokens;
  lexed = record { first = first; opens = opens; comes = comes };
  spelled = subst (λ (ts : List Token). IsSource ts (of_tree source.tree)) same spelled;
  said = subst (λ (ts : List Token). source.says ≡ directives_of ts) same said;
}

abbrev pub IsRefusedAt : Folder → GatherError → List Text → Wanted → Type 0
IsRefusedAt held error texts wanted = IsUnreadable held error texts wanted ⊎ IsMisspelled held error texts wanted

misspelled_by : (held : Folder) (old first after : List Text) (wanted : Wanted) (main : ℕ) (tokens list : List Token) (f : ParseError) (error : GatherError) → opened held old wanted ≡ Ok (first, main) → ComesTo held main first after tokens
    → list ≡ tokens → IsFault list f → ((tree : Parsed) → IsSource list tree → IsReadAs (Err f) tree) → error ≡ fault_refusal after main list f → Unless error (IsRefusedAt held error old wanted)
misspelled_by held old first after wanted main tokens list fault.NoMemory error opens comes same is only told = subst (λ (e : GatherError). Unless e (IsRefusedAt held error old wanted)) (sym told) tt
misspelled_by held old first after wanted main tokens list f error opens comes same is only told =
    unless_then error (error ≡ fault_refusal after main list f) (IsRefusedAt held error old wanted) (λ t. inr (record {
      after = after;
      main = main;
      tokens = tokens;
      lexed = record { first = first; opens = opens; comes = comes };
      nothing = λ tree spelled. only tree (subst (λ (ts : List Token). IsSource ts tree) (sym same) spelled);
      fault = f;
      is_fault = subst (λ (ts : List Token). IsFault ts f) same is;
      error_is = t ∙ ap (λ (ts : List Token). fault_refusal after main ts f) same;
    })) (always error (fault_refusal after main list f) told)

pub misspelled : (known : Option Folder) (old first after : List Text) (wanted : Wanted) (main : ℕ) (tokens list : List Token) (f : ParseError) (error : GatherError) → IfSome known (λ held. opened held old wanted ≡ Ok (first, main)) → IfSome known (λ held. ComesTo held main first after tokens)
    → list ≡ tokens → IsFault list f → ((tree : Parsed) → IsSource list tree → IsReadAs (Err f) tree) → error ≡ fault_refusal after main list f → IfSome known (λ held. Unless error (IsRefusedAt held error old wanted))
misspelled None old first after wanted main tokens list f error opens comes same is only told = tt
misspelled (Some held) old first after wanted main tokens list f error opens comes same is only told = misspelled_by held old first after wanted main tokens list f error opens comes same is only told

-- ---- the walk

pub is_met : (known : Option Folder) (texts after : List Text) (next : Wanted) (sources more : List Source) (wanted now : List Wanted) (uses : List Identifier) (source : Source) → IfSome known (λ held. IsRead held texts next after source) → more ≡ sources ++ source ∷ [] → uses ≡ used source.tree → now ≡ map wanted_at uses ++ wanted → IfSome known (λ held. IsMet held texts next sources wanted after more now)
is_met None texts after next sources more wanted now uses source read more_is uses_are now_is = tt
is_met (Some held) texts after next sources more wanted now uses source read more_is uses_are now_is = record {
  source = source;
  read = read;
  sources_are = more_is;
  wanted_are = now_is ∙ ap (λ (all : List Identifier). map wanted_at all ++ wanted) uses_are;
}

abbrev pub IsOn : Folder → List ℕ → List Text → List Source → List Wanted → Type 0
IsOn held name texts sources wanted = Walks held [] [] (start name ∷ []) sources texts (due (names_of sources) wanted)

pub on_start : (known : Option Folder) (name : List ℕ) (texts : List Text) (sources : List Source) (wanted : List Wanted) → texts ≡ [] → sources ≡ [] → wanted ≡ start name ∷ [] → IfSome known (λ held. IsOn held name texts sources wanted)
on_start None name texts sources wanted no_texts no_sources one = tt
on_start (Some held) name texts sources wanted no_texts no_sources one =
    let here : IsOn held name [] [] (start name ∷ []) = (refl, refl) in
    subst (λ (t : List Text). IsOn held name t sources wanted) (sym no_texts)
    (subst (λ (all : List Source). IsOn held name [] all wanted) (sym no_sources)
    (subst (λ (w : List Wanted). IsOn held name [] [] w) (sym one) here))

at_next : (held : Folder) (name : List ℕ) (texts : List Text) (sources : List Source) (wanted others : List Wanted) (next : Wanted) → IsOn held name texts sources wanted → due (names_of sources) wanted ≡ next ∷ others → Walks held [] [] (start name ∷ []) sources texts (next ∷ others)
at_next held name texts sources wanted others next on is = subst (λ (left : List Wanted). Walks held [] [] (start name ∷ []) sources texts left) is on

pub met_by : (held : Folder) (name : List ℕ) (texts after : List Text) (sources more : List Source) (wanted others now : List Wanted) (next : Wanted) → IsOn held name texts sources wanted → due (names_of sources) wanted ≡ next ∷ others → IsMet held texts next sources others after more now → IsOn held name after more now
met_by held name texts after sources more wanted others now next on is met =
    let source = met.source in
    let left : List Wanted = due (names_of sources ++ source.name ∷ []) (wanted_by source ++ others) in
    let walk = walks_on held [] [] (names_of sources) (start name ∷ []) sources texts next others after source left (at_next held name texts sources wanted others next on is) refl met.read refl in
    let names : names_of sources ++ source.name ∷ [] ≡ names_of (sources ++ source ∷ []) = sym (map-append (λ (s : Source). s.name) sources (source ∷ [])) in
    let left_is : left ≡ due (names_of (sources ++ source ∷ [])) now = ap₂ due names (sym met.wanted_are) in
    let here : IsOn held name after (sources ++ source ∷ []) now = subst (λ (l : List Wanted). Walks held [] [] (start name ∷ []) (sources ++ source ∷ []) after l) left_is walk in
    subst (λ (all : List Source). IsOn held name after all now) (sym met.sources_are) here

pub on_met : (known : Option Folder) (name : List ℕ) (texts after : List Text) (sources more : List Source) (wanted others now : List Wanted) (next : Wanted) → IfSome known (λ held. IsOn held name texts sources wanted) → due (names_of sources) wanted ≡ next ∷ others → IfSome known (λ held. IsMet held texts next sources others after more now) → IfSome known (λ held. IsOn held name after more now)
on_met None name texts after sources more wanted others now next on is met = tt
on_met (Some held) name texts after sources more wanted others now next on is met = met_by held name texts after sources more wanted others now next on is met

pub on_end : (known : Option Folder) (name : List ℕ) (texts : List Text) (sources : List Source) (wanted : List Wanted) → IfSome known (λ held. IsOn held name texts sources wanted) → due (names_of sources) wanted ≡ [] → IfSome known (λ held. Gathers held name texts sources)
on_end None name texts sources wanted on is = tt
on_end (Some held) name texts sources wanted on is = subst (λ (left : List Wanted). Walks held [] [] (start name ∷ []) sources texts left) is on

refused_by : (held : Folder) (name : List ℕ) (texts : List Text) (sources : List Source) (others : List Wanted) (next : Wanted) (error : GatherError) → Walks held [] [] (start name ∷ []) sources texts (next ∷ others) → IsRefusedAt held error texts next → IsRefused held name error
refused_by held name texts sources others next error walk (inl p) = inl (sources, texts, next, others, walk, p)
refused_by held name texts sources others next error walk (inr p) = inr (sources, texts, next, others, walk, p)

pub on_refused : (known : Option Folder) (name : List ℕ) (texts : List Text) (sources : List Source) (wanted others : List Wanted) (next : Wanted) (error : GatherError) → IfSome known (λ held. IsOn held name texts sources wanted) → due (names_of sources) wanted ≡ next ∷ others → IfSome known (λ held. Unless error (IsRefusedAt held error texts next)) → IfSome known (λ held. Unless error (IsRefused held name error))
on_refused None name texts sources wanted others next error on is refused = tt
on_refused (Some held) name texts sources wanted others next error on is refused =
    unless_then error (IsRefusedAt held error texts next) (IsRefused held name error)
    (λ r. refused_by held name texts sources others next error (at_next held name texts sources wanted others next on is) r) refused

-- ---- the whole answer

abbrev pub IsAnswer : Folder → List ℕ → Result Gathered GatherError → Type 0
IsAnswer held name result = MatchResult result (λ found. Gathers held name found.texts.items found.sources.items) (λ error. Unless error (IsRefused held name error))

module _ (name : List ℕ) where
  pub gathered : (known : Option Folder) (result : Result Gathered GatherError) → IfSome known (λ held. IsAnswer held name result) → IfSome known (λ held. IfOk result (λ found. Gathers held name found.texts.items found.sources.items))
  gathered None result answer = tt
  gathered (Some held) (Ok found) answer = answer
  gathered (Some held) (Err error) answer = tt

  pub refused : (known : Option Folder) (result : Result Gathered GatherError) → IfSome known (λ held. IsAnswer held name result) → IfSome known (λ held. IfErr result (λ error. Unless error (IsRefused held name error)))
  refused None result answer = tt
  refused (Some held) (Ok found) answer = tt
  refused (Some held) (Err error) answer = answer

  pub accepts : (known : Option Folder) (result : Result Gathered GatherError) → IfSome known (λ held. IsAnswer held name result)
      → IfSome known (λ held. (texts : List Text) (sources : List Source) → Gathers held name texts sources → IfErr result (λ error. Unless error ⊥))
  accepts None result answer = tt
  accepts (Some held) (Ok found) answer = λ texts sources walk. tt
  accepts (Some held) (Err error) answer = λ texts sources walk. unless_then error (IsRefused held name error) ⊥ (λ r. gathers_or_refused held name error texts sources walk r) answer

  pub refuses : (known : Option Folder) (result : Result Gathered GatherError) → IfSome known (λ held. IsAnswer held name result)
      → IfSome known (λ held. (cause : GatherError) → Meets held name (IsUnreadable held cause) → MatchResult result (λ found. ⊥) (λ error. Unless error (error ≡ cause)))
  refuses None result answer = tt
  refuses (Some held) (Ok found) answer = λ cause meets. gathers_or_refused held name cause found.texts.items found.sources.items answer (inl meets)
  refuses (Some held) (Err error) answer = λ cause meets. unless_then error (IsRefused held name error) (error ≡ cause) (λ r. sym (refused_once held name cause error meets r)) answer

  pub spells_nothing : (known : Option Folder) (result : Result Gathered GatherError) → IfSome known (λ held. IsAnswer held name result)
      → IfSome known (λ held. Meets held name (SpellsNothing held) → MatchResult result (λ found. ⊥) (λ error. Unless error (Meets held name (IsMisspelled held error))))
  spells_nothing None result answer = tt
  spells_nothing (Some held) (Ok found) answer = λ meets. gathers_or_nothing held name found.texts.items found.sources.items answer meets
  spells_nothing (Some held) (Err error) answer = λ meets. unless_then error (IsRefused held name error) (Meets held name (IsMisspelled held error)) (λ r. misspelled_once held name error meets r) answer

  -- where nothing but a fault of the files or out of memory is told
  spared : (error cause : GatherError) → Unless error (AreAlike error cause) → AreAlike error cause
  spared refusal.FilesFault cause h = tt
  spared refusal.NoMemory cause h = tt
  spared error cause h = h

  pub misspells : (known : Option Folder) (result : Result Gathered GatherError) → IfSome known (λ held. IsAnswer held name result)
      → IfSome known (λ held. (cause : GatherError) → Meets held name (IsMisspelled held cause) → MatchResult result (λ found. ⊥) (λ error. AreAlike error cause))
  misspells None result answer = tt
  misspells (Some held) (Ok found) answer = λ cause meets. gathers_or_refused held name cause found.texts.items found.sources.items answer (inr meets)
  misspells (Some held) (Err error) answer = λ cause meets. spared error cause (unless_then error (IsRefused held name error) (AreAlike error cause) (λ r. misspelled_alike held name cause error meets r) answer)
