-- What reading a source with all its includes shows.
use Rattle.std.proofs.Common.{◌≡◌, ℕ, Bool, false, nat_eq, List, [], ◌++◌, Ok, Err, sym, refl, ap, ◌∙◌, subst}
use Rattle.std.specs.List.{list_any}
use Rattle.std.specs.Cmp.Lexicographic.{pointwise}
use Rattle.tp_lexer.specs.declared.token.Text.{Text}
use Rattle.tp_lexer.specs.declared.token.Token.{Token}
use Rattle.tp_lexer.specs.declared.token.LexError.{LexError}
use Rattle.tp_lexer.specs.declared.token.LexError.TheVariants.{NoMemory}
use Rattle.tp_lexer.specs.declared.state.State.{State}
use Rattle.tp_lexer.specs.Effects.{Settings}
use Rattle.tp_lexer.specs.Tokens.{Outcome, Reads, Tokens, Breaks, first_settings}
use Rattle.tp_lexer.specs.Acting.{settings_of, Unless, Adds}
use Rattle.tp_lexer.proofs.Including.{unless_then}
use Rattle.tp_lexer.proofs.TokenLaws.{tokens_or_break, breaks_once}

abbrev settings_with : (List ℕ → Bool) → Settings
settings_with names = record { switches = record { r = false; b = false; f = false; o = false }; defined = names }

pub same_settings : (defined : List (List ℕ)) (names : List ℕ → Bool) → names ≡ (λ name. list_any (λ other. pointwise nat_eq other name) defined) →
    settings_with names ≡ first_settings defined
same_settings defined names is = ap settings_with is

module _ (texts : List Text) (main : ℕ) (defined : List (List ℕ)) (old new : State) (same : settings_of old ≡ first_settings defined) where
  pub list_found : (list : List Token) → old.tokens.items ≡ [] → Adds (Reads 8 texts main (settings_of old)) old new (Ok tt) → list ≡ new.tokens.items → Tokens texts main defined list
  list_found list none read is =
      let tokens = read.0 in
      let e : tokens ≡ list = sym (is ∙ read.2 ∙ ap (λ (front : List Token). front ++ tokens) none) in
      let outcome : List Token → Outcome = λ x. Ok (x, settings_of new) in
      record {
        after = settings_of new;
        reads = subst (λ (now : Settings). Reads 8 texts main now (outcome list)) same
            (subst (λ (x : List Token). Reads 8 texts main (settings_of old) (outcome x)) e read.1);
      }

  pub fault_found : (error : LexError) → Adds (Reads 8 texts main (settings_of old)) old new (Err error) → Unless error (Breaks texts main defined error)
  fault_found error read =
      let outcome : Outcome = Err error in
      unless_then error (Reads 8 texts main (settings_of old) outcome) (Breaks texts main defined error)
      (λ reads. record { reads = subst (λ (now : Settings). Reads 8 texts main now outcome) same reads }) read

pub memory_only : (texts : List Text) (main : ℕ) (defined : List (List ℕ)) (error : LexError) (list : List Token) → Unless error (Breaks texts main defined error) → Tokens texts main defined list → error ≡ NoMemory
memory_only texts main defined NoMemory list breaks stands = refl
memory_only texts main defined error list breaks stands = absurd (tokens_or_break texts main defined list _ stands breaks)

pub same_fault : (texts : List Text) (main : ℕ) (defined : List (List ℕ)) (error broken : LexError) → Unless error (Breaks texts main defined error) → Breaks texts main defined broken → Unless error (error ≡ broken)
same_fault texts main defined error broken breaks other =
    unless_then error (Breaks texts main defined error) (error ≡ broken) (λ b. breaks_once texts main defined error broken b other) breaks
