-- A file that a text lacks is none of the texts.
use Rattle.std.proofs.Common.{◌≡◌, ℕ, zero, suc, Bool, true, false, List, [], ◌∷◌, ◌++◌, Option, Some, None, Ok, Err, MatchOption, refl, sym, ap, ◌∙◌, subst}
use Rattle.std.specs.Prelude.{if◌then◌else◌}
use Rattle.type_layout.specs.declared.texts.Place.{Place}
use Rattle.tp_lexer.specs.declared.condition.Condition.{Condition}
use Rattle.tp_lexer.specs.declared.directive.Directive.{Directive}
use Rattle.tp_lexer.specs.declared.directive.Directive.TheVariants as directive
use Rattle.tp_lexer.specs.declared.piece.Fault.{Fault}
use Rattle.tp_lexer.specs.declared.piece.Fault.TheVariants as fault
use Rattle.tp_lexer.specs.declared.piece.Passed.{Passed}
use Rattle.tp_lexer.specs.declared.piece.Passed.TheVariants as passed
use Rattle.tp_lexer.specs.declared.piece.Piece.{Piece}
use Rattle.tp_lexer.specs.declared.piece.Piece.TheVariants as piece
use Rattle.tp_lexer.specs.declared.shape.Shape.{Shape}
use Rattle.tp_lexer.specs.declared.token.LexError.{LexError}
use Rattle.tp_lexer.specs.declared.token.LexError.TheVariants as broken
use Rattle.tp_lexer.specs.declared.token.Text.{Text}
use Rattle.tp_lexer.specs.declared.token.Token.{Token}
use Rattle.tp_lexer.specs.Effects.{Settings, Context, Effect, goes, includes, fails, innermost, is_read, error_of, turned, closed, conditioned, directed, effect_of, passed_effect}
use Rattle.tp_lexer.specs.Pieces.{piece_of, passed_of}
use Rattle.tp_lexer.specs.Places.{place_after}
use Rattle.tp_lexer.specs.Tokens.{Outcome, preceded, ended_by, effect_at, Continues, Follows, Spells, IncludesNone, IncludesBy, Reads, first_settings}
use Rattle.source_graph.specs.Texts.{defined, number_of}
use Rattle.source_graph.specs.Files.{Lacks}

-- ---- no piece lacks a file by itself

abbrev lacking : Place → List ℕ → Effect
lacking place name = fails (broken.MissingInclude place name)

module _ (at : Place) (name : List ℕ) where
  abbrev Spares : Effect → Type 0
  Spares effect = effect ≡ lacking at name → ⊥

  condition_spares : (place : Place) (context : Context) (now : Option (List Condition)) → Spares (conditioned place context now)
  condition_spares place context None is = absurd cc
  condition_spares place context (Some conditions) is = absurd cc

  directive_spares : (place : Place) (context : Context) (d : Directive) → Spares (directed place context d)
  directive_spares place context (directive.Switches changes) is = absurd cc
  directive_spares place context (directive.Memory stack max) is = absurd cc
  directive_spares place context (directive.Overlaid unit) is = absurd cc
  directive_spares place context (directive.Include file) is = absurd cc
  directive_spares place context (directive.Define word) is = absurd cc
  directive_spares place context (directive.Undefine word) is = absurd cc
  directive_spares place context (directive.If test) is = absurd cc
  directive_spares place context directive.Else is = condition_spares place context (turned context.conditions) is
  directive_spares place context directive.EndIf is = condition_spares place context (closed context.conditions) is

  fault_spares : (place : Place) (f : Fault) → Spares (fails (error_of f place))
  fault_spares place fault.BadCharacter is = absurd cc
  fault_spares place fault.OpenComment is = absurd cc
  fault_spares place fault.OpenString is = absurd cc
  fault_spares place fault.BadNumber is = absurd cc
  fault_spares place fault.BadDirective is = absurd cc
  fault_spares place fault.LeftOut is = absurd cc

  piece_spares : (place : Place) (context : Context) (p : Piece) → Spares (effect_of place context p)
  piece_spares place context piece.Gap is = absurd cc
  piece_spares place context (piece.Token kind) is = absurd cc
  piece_spares place context (piece.Directive d) is = directive_spares place context d is
  piece_spares place context (piece.Fault f) is = fault_spares place f is

  passed_spares : (place : Place) (context : Context) (p : Passed) → Spares (passed_effect place context p)
  passed_spares place context passed.Nothing is = absurd cc
  passed_spares place context passed.Opens is = absurd cc
  passed_spares place context passed.Else is = condition_spares place context (turned context.conditions) is
  passed_spares place context passed.EndIf is = condition_spares place context (closed context.conditions) is
  passed_spares place context passed.OpenComment is = absurd cc

  effect_spares : (place : Place) (context : Context) (shape : Shape) (spelling : List ℕ) → Spares (effect_at place context shape spelling)
  effect_spares place context shape spelling = by (is_read context.conditions)
    where
      by : (b : Bool) → Spares (if b then effect_of place context (piece_of shape spelling) else passed_effect place context (passed_of shape spelling))
      by true = piece_spares place context (piece_of shape spelling)
      by false = passed_spares place context (passed_of shape spelling)

-- ---- where a text lacks a file, that is none of the texts

module _ (texts : List Text) where
  -- what a text comes to lacks no file that is one of the texts
  abbrev Lacking : Outcome → Type 0
  Lacking outcome = (place : Place) (name : List ℕ) → outcome ≡ Err (broken.MissingInclude place name) → number_of texts name ≡ None

  preceded_lacking : (tokens : List Token) (rest : Outcome) → Lacking rest → Lacking (preceded tokens rest)
  preceded_lacking tokens (Ok read) lacking place name is = absurd cc
  preceded_lacking tokens (Err error) lacking place name is = lacking place name is

  ended_lacking : (condition : Option Condition) (now : Settings) → Lacking (ended_by condition now)
  ended_lacking None now place name is = absurd cc
  ended_lacking (Some c) now place name is = absurd cc

  module _ (Includes : Place → List ℕ → Settings → Outcome → Type 0) (included : (place : Place) (name : List ℕ) (now : Settings) (outcome : Outcome) → Includes place name now outcome → Lacking outcome) where
    continues_lacking : (Rest : Context → Outcome → Type 0) → ((context : Context) (rest : Outcome) → Rest context rest → Lacking rest) → (context : Context) (inner outcome : Outcome)
        → Lacking inner → Continues Rest context inner outcome → Lacking outcome
    continues_lacking Rest lacks context (Ok read) outcome inner steps = subst Lacking (sym steps.2) (preceded_lacking read.0 steps.0 (lacks _ steps.0 steps.1))
    continues_lacking Rest lacks context (Err error) outcome inner same = subst Lacking (sym same) inner

    follows_lacking : (Rest : Context → Outcome → Type 0) → ((context : Context) (rest : Outcome) → Rest context rest → Lacking rest) → (place : Place) (context : Context) (effect : Effect) (outcome : Outcome)
        → ((at : Place) (name : List ℕ) → effect ≡ lacking at name → ⊥) → Follows Includes Rest place context effect outcome → Lacking outcome
    follows_lacking Rest lacks place context (goes tokens next) outcome spares steps = subst Lacking (sym steps.2) (preceded_lacking tokens steps.0 (lacks next steps.0 steps.1))
    follows_lacking Rest lacks place context (includes name) outcome spares steps =
        continues_lacking Rest lacks context steps.0 outcome (included place name context.settings steps.0 steps.1) steps.2
    follows_lacking Rest lacks place context (fails error) outcome spares same = λ at name is.
        let left : Outcome = Err error in
        let right : Outcome = Err (broken.MissingInclude at name) in
        let both : left ≡ right = sym same ∙ is in
        let errors : error ≡ broken.MissingInclude at name = cc in
        absurd (spares at name (ap (λ (e : LexError). fails e) errors))

    spells_lacking : (number : ℕ) (before : List ℕ) (context : Context) (spellings : List (List ℕ)) (outcome : Outcome) → Spells Includes number before context spellings outcome → Lacking outcome
    spells_lacking number before context [] outcome same = subst Lacking (sym same) (ended_lacking (innermost context.conditions) context.settings)
    spells_lacking number before context (spelling ∷ more) outcome steps =
        let place = place_after number before in
        follows_lacking (λ next rest. Spells Includes number (before ++ spelling) next more rest) (λ next rest spells. spells_lacking number (before ++ spelling) next more rest spells) place context (effect_at place context steps.0 spelling) outcome
        (λ at name is. effect_spares at name place context steps.0 spelling is) steps.2

  none_lacking : (place : Place) (name : List ℕ) (now : Settings) (outcome : Outcome) → IncludesNone place name now outcome → Lacking outcome
  none_lacking place name now outcome same = subst Lacking (sym same) (λ at other is. absurd cc)

  includes_lacking : (Includes : ℕ → Settings → Outcome → Type 0) → ((number : ℕ) (now : Settings) (outcome : Outcome) → Includes number now outcome → Lacking outcome)
      → (place : Place) (name : List ℕ) (now : Settings) (outcome : Outcome) → IncludesBy Includes texts place name now outcome → Lacking outcome
  includes_lacking Includes lacks place name now outcome = by (number_of texts name) refl
    where
      by : (found : Option ℕ) → number_of texts name ≡ found → MatchOption found (outcome ≡ Err (broken.MissingInclude place name)) (λ number. Includes number now outcome) → Lacking outcome
      by None none same = λ at other is.
          let left : Outcome = Err (broken.MissingInclude place name) in
          let right : Outcome = Err (broken.MissingInclude at other) in
          let both : left ≡ right = sym same ∙ is in
          let names : name ≡ other = cc in
          subst (λ (n : List ℕ). number_of texts n ≡ None) names none
      by (Some number) some reads = lacks number now outcome reads

  reads_lacking : (depth number : ℕ) (now : Settings) (outcome : Outcome) → Reads depth texts number now outcome → Lacking outcome
  reads_lacking zero number now outcome reads = spells_lacking IncludesNone none_lacking number [] (record { settings = now; conditions = [] }) reads.0 outcome reads.2
  reads_lacking (suc depth) number now outcome reads =
      spells_lacking (IncludesBy (Reads depth texts) texts) (λ place name n o i. includes_lacking (Reads depth texts) (λ k m p r. reads_lacking depth k m p r) place name n o i) number [] (record { settings = now; conditions = [] }) reads.0 outcome reads.2

-- a file that a text lacks is none of the texts
pub lacks_none : (texts : List Text) (main : ℕ) (name : List ℕ) → Lacks texts main name → number_of texts name ≡ None
lacks_none texts main name lacks = reads_lacking texts 8 main (first_settings defined) (Err (broken.MissingInclude lacks.0 name)) lacks.1.reads lacks.0 name refl
