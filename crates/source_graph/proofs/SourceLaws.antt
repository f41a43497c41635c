-- A source that is wanted is read in one way, or refused in one way.
use Rattle.std.proofs.Common.{◌≡◌, ℕ, List, map, Result, Ok, Err, inl, inr, sym, ap, ◌∙◌, subst}
use Rattle.type_layout.specs.declared.texts.Place.{Place}
use Rattle.tp_outside.specs.Folder.{Folder}
use Rattle.tp_lexer.specs.declared.token.Text.{Text}
use Rattle.tp_lexer.specs.declared.token.Token.{Token}
use Rattle.pascal_grammar.proofs.Laws.{is_unambiguous}
use Rattle.pascal_grammar.specs.lexeme_list.Lexemes.{lexemes_of}
use Rattle.syntax_tree.specs.declared.identifier.Identifier.{Identifier}
use Rattle.syntax_tree.specs.Expressions.{Parsed}
use Rattle.syntax_tree.specs.source_tree.Sources.{of_tree}
use Rattle.tp_parser.specs.declared.error.ParseError.{ParseError}
use Rattle.tp_parser.specs.declared.error.ParseError.TheVariants as fault
use Rattle.tp_parser.specs.Parsing.{IsSource, IsFault, AreAlike as AreFaultsAlike}
use Rattle.tp_parser.proofs.OneFault.{alike as faults_alike}
use Rattle.source_graph.specs.declared.error.GatherError.{GatherError}
use Rattle.source_graph.specs.declared.error.GatherError.TheVariants as refusal
use Rattle.source_graph.specs.declared.sources.Source.{Source}
use Rattle.source_graph.specs.declared.wanted.Wanted.{Wanted}
use Rattle.source_graph.specs.Texts.{at, place_in}
use Rattle.source_graph.specs.Files.{opened, ComesTo, FailsBy, IsLexed}
use Rattle.source_graph.specs.Sources.{IsRead, IsUnreadable, SpellsNothing, IsMisspelled, AreAlike, fault_refusal}
use Rattle.source_graph.specs.Walk.{wanted_at, wanted_by}
use Rattle.source_graph.proofs.LexLaws.{comes_once, comes_or_fails, fails_once}
use Rattle.source_graph.proofs.UsedLaws.{used_once}

tree_once : (tokens : List Token) (x y : Parsed) → IsSource tokens x → IsSource tokens y → x ≡ y
tree_once tokens x y l r = is_unambiguous x y (lexemes_of tokens) l.spells r.spells

-- two faults of some tokens are told alike
refusals_alike : (texts : List Text) (main : ℕ) (tokens : List Token) (x y : ParseError) → AreFaultsAlike x y → AreAlike (fault_refusal texts main tokens x) (fault_refusal texts main tokens y)
refusals_alike texts main tokens fault.NoMemory y same = tt
refusals_alike texts main tokens (fault.Syntax a) fault.NoMemory same = tt
refusals_alike texts main tokens (fault.Syntax a) (fault.Syntax b) same = ap (λ (p : Place). refusal.Syntax (at texts (place_in main tokens p))) same
refusals_alike texts main tokens (fault.Syntax a) (fault.NotInProfile b w) same = absurd same
refusals_alike texts main tokens (fault.Syntax a) (fault.TooDeep b) same = absurd same
refusals_alike texts main tokens (fault.NotInProfile a v) fault.NoMemory same = tt
refusals_alike texts main tokens (fault.NotInProfile a v) (fault.Syntax b) same = absurd same
refusals_alike texts main tokens (fault.NotInProfile a v) (fault.NotInProfile b w) same = ap (λ (p : Place). at texts (place_in main tokens p)) same
refusals_alike texts main tokens (fault.NotInProfile a v) (fault.TooDeep b) same = absurd same
refusals_alike texts main tokens (fault.TooDeep a) fault.NoMemory same = tt
refusals_alike texts main tokens (fault.TooDeep a) (fault.Syntax b) same = absurd same
refusals_alike texts main tokens (fault.TooDeep a) (fault.NotInProfile b w) same = absurd same
refusals_alike texts main tokens (fault.TooDeep a) (fault.TooDeep b) same = ap (λ (p : Place). refusal.TooDeep (at texts (place_in main tokens p))) same

module _ (held : Folder) (texts : List Text) (wanted : Wanted) where
  abbrev Opened : Type 0
  Opened = Result (List Text × ℕ) GatherError

  abbrev both_of : List Text → ℕ → Opened
  both_of first main = Ok (first, main)

  opens_once : (a b : List Text) (m n : ℕ) → opened held texts wanted ≡ both_of a m → opened held texts wanted ≡ both_of b n → (a ≡ b) × (m ≡ n)
  opens_once a b m n l r =
      let both : both_of a m ≡ both_of b n = sym l ∙ r in
      let x : List Text × ℕ = (a, m) in
      let y : List Text × ℕ = (b, n) in
      let same : x ≡ y = cc in
      (ap (λ (v : List Text × ℕ). v.0) same, ap (λ (v : List Text × ℕ). v.1) same)

  opens_or_fails : (a : List Text) (m : ℕ) (error : GatherError) → opened held texts wanted ≡ both_of a m → opened held texts wanted ≡ Err error → ⊥
  opens_or_fails a m error l r =
      let err : GatherError → Opened = λ e. Err e in
      let both : both_of a m ≡ err error = sym l ∙ r in cc

  pub lexed_once : (a b : List Text) (m n : ℕ) (xs ys : List Token) → IsLexed held texts wanted a m xs → IsLexed held texts wanted b n ys → (a ≡ b) × (m ≡ n) × (xs ≡ ys)
  lexed_once a b m n xs ys l r =
      let opens = opens_once l.first r.first m n l.opens r.opens in
      let main : ComesTo held m r.first b ys = subst (λ (k : ℕ). ComesTo held k r.first b ys) (sym opens.1) r.comes in
      let both = comes_once held m l.first a b xs ys l.comes (subst (λ (t : List Text). ComesTo held m t b ys) (sym opens.0) main) in
      (both.0, opens.1, both.1)

  pub lexed_or_broken : (a : List Text) (m : ℕ) (xs : List Token) (error : GatherError) → IsLexed held texts wanted a m xs → IsUnreadable held error texts wanted → ⊥
  lexed_or_broken a m xs error l (inl fails) = opens_or_fails l.first m error l.opens fails
  lexed_or_broken a m xs error l (inr r) =
      let opens = opens_once l.first r.first m r.main l.opens r.opens in
      let main : FailsBy held m r.first error = subst (λ (k : ℕ). FailsBy held k r.first error) (sym opens.1) r.fails in
      comes_or_fails held m l.first a xs error l.comes (subst (λ (t : List Text). FailsBy held m t error) (sym opens.0) main)

  pub unreadable_once : (x y : GatherError) → IsUnreadable held x texts wanted → IsUnreadable held y texts wanted → x ≡ y
  unreadable_once x y (inl l) (inl r) =
      let err : GatherError → Opened = λ e. Err e in
      let both : err x ≡ err y = sym l ∙ r in cc
  unreadable_once x y (inl l) (inr r) = absurd (opens_or_fails r.first r.main x r.opens l)
  unreadable_once x y (inr l) (inl r) = absurd (opens_or_fails l.first l.main y l.opens r)
  unreadable_once x y (inr l) (inr r) =
      let opens = opens_once l.first r.first l.main r.main l.opens r.opens in
      let main : FailsBy held l.main r.first y = subst (λ (k : ℕ). FailsBy held k r.first y) (sym opens.1) r.fails in
      fails_once held l.main l.first x y l.fails (subst (λ (t : List Text). FailsBy held l.main t y) (sym opens.0) main)

  pub read_or_unreadable : (a : List Text) (source : Source) (error : GatherError) → IsRead held texts wanted a source → IsUnreadable held error texts wanted → ⊥
  read_or_unreadable a source error l r = lexed_or_broken a source.text l.tokens error l.lexed r

  pub read_or_nothing : (a : List Text) (source : Source) → IsRead held texts wanted a source → SpellsNothing held texts wanted → ⊥
  read_or_nothing a source l r =
      let same = lexed_once a r.after source.text r.main l.tokens r.tokens l.lexed r.lexed in
      r.nothing (of_tree source.tree) (subst (λ (ts : List Token). IsSource ts (of_tree source.tree)) same.2 l.spelled)

  pub nothing_spelled : (error : GatherError) → IsMisspelled held error texts wanted → SpellsNothing held texts wanted
  nothing_spelled error m = record { after = m.after; main = m.main; tokens = m.tokens; lexed = m.lexed; nothing = m.nothing }

  pub misspelled_alike : (x y : GatherError) → IsMisspelled held x texts wanted → IsMisspelled held y texts wanted → AreAlike x y
  misspelled_alike x y l r =
      let same = lexed_once l.after r.after l.main r.main l.tokens r.tokens l.lexed r.lexed in
      let there : IsFault l.tokens r.fault = subst (λ (ts : List Token). IsFault ts r.fault) (sym same.2) r.is_fault in
      let both = refusals_alike l.after l.main l.tokens l.fault r.fault (faults_alike l.tokens l.fault r.fault l.is_fault there) in
      let other : fault_refusal l.after l.main l.tokens r.fault ≡ y =
      ap (λ (t : List Text). fault_refusal t l.main l.tokens r.fault) same.0
      ∙ ap (λ (m : ℕ). fault_refusal r.after m l.tokens r.fault) same.1
      ∙ ap (λ (ts : List Token). fault_refusal r.after r.main ts r.fault) same.2
      ∙ sym r.error_is in
      subst (λ (e : GatherError). AreAlike e y) (sym l.error_is) (subst (λ (e : GatherError). AreAlike (fault_refusal l.after l.main l.tokens l.fault) e) other both)

  pub unreadable_or_nothing : (error : GatherError) → IsUnreadable held error texts wanted → SpellsNothing held texts wanted → ⊥
  unreadable_or_nothing error l r = lexed_or_broken r.after r.main r.tokens error r.lexed l

  -- two readings of a source agree in the texts that are there then, its name, and what it uses
  pub read_once : (a b : List Text) (x y : Source) → IsRead held texts wanted a x → IsRead held texts wanted b y → (a ≡ b) × (x.name ≡ y.name) × (wanted_by x ≡ wanted_by y)
  read_once a b x y l r =
      let same = lexed_once a b x.text y.text l.tokens r.tokens l.lexed r.lexed in
      let spelled : IsSource l.tokens (of_tree y.tree) = subst (λ (ts : List Token). IsSource ts (of_tree y.tree)) (sym same.2) r.spelled in
      let trees : of_tree x.tree ≡ of_tree y.tree = tree_once l.tokens (of_tree x.tree) (of_tree y.tree) l.spelled spelled in
      (same.0, l.named ∙ sym r.named, ap (λ (uses : List Identifier). map wanted_at uses) (used_once x.tree y.tree trees))
