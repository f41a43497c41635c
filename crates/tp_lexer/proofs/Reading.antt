-- One turn of reading a text, and its end.
use Rattle.std.proofs.Common.{◌≡◌, ℕ, ◌+◌, ◌<◌, ◌≤◌, inl, inr, List, ◌++◌, length, take, drop, fold, Option, Some, None, Result, Ok, Err, MatchResult, sym, ap, ◌∙◌, subst, arith, length-drop, length-take-le, append-nil}
use Rattle.type_layout.specs.declared.texts.Place.{Place}
use Rattle.tp_lexer.specs.declared.token.Token.{Token}
use Rattle.tp_lexer.specs.declared.token.LexError.{LexError}
use Rattle.tp_lexer.specs.declared.condition.Condition.{Condition}
use Rattle.tp_lexer.specs.declared.shape.Extent.{Extent}
use Rattle.tp_lexer.specs.declared.state.State.{State}
use Rattle.tp_lexer.specs.Places.{place_after, moved}
use Rattle.tp_lexer.specs.Grammar.{Takes}
use Rattle.tp_lexer.specs.Effects.{Settings, Context, innermost, is_read}
use Rattle.tp_lexer.specs.Tokens.{Outcome, preceded, ended, ended_by, effect_at}
use Rattle.tp_lexer.specs.Acting.{settings_of, context_of, Unless, Adds, Gains, Stops, IsOpen}
use Rattle.tp_lexer.proofs.Leads.{Whole, Leads, Stands, take_take, leads_goes, leads_included, fails_here, fails_included}
use Rattle.tp_lexer.proofs.PlaceLaws.{place_after-append}
use Rattle.tp_lexer.proofs.Cuts.{takes_some}

-- what the code takes from a position
pub record Taken (number : ℕ) (bytes : List ℕ) (position : ℕ) (context : Context) (rest spelling : List ℕ) (e : Extent) (place : Place) : Type 0 where
  pub below : position ≤ length bytes
  pub rest_is : rest ≡ drop position bytes
  pub longest : Takes (is_read context.conditions) e.shape (take e.length rest) (drop e.length rest)
  pub within : e.length ≤ length rest
  pub spelling_is : spelling ≡ take e.length rest
  pub place_is : place ≡ place_after number (take position bytes)

module _ {number : ℕ} {bytes : List ℕ} {position : ℕ} {context : Context} {rest spelling : List ℕ} {e : Extent} {place : Place} (taken : Taken number bytes position context rest spelling e place) where
  pub taken_within : position + e.length ≤ length bytes
  taken_within = omega (arith, taken.below, taken.within, ap length taken.rest_is, length-drop position bytes)

  spelling_there : spelling ≡ take e.length (drop position bytes)
  spelling_there = taken.spelling_is ∙ ap (λ (t : List ℕ). take e.length t) taken.rest_is

  pub stands : Stands number bytes position e.length context (effect_at place context e.shape spelling)
  stands =
      record {
        shape = e.shape;
        longest = subst (λ (t : List ℕ). Takes (is_read context.conditions) e.shape (take e.length t) (drop e.length t)) taken.rest_is taken.longest;
        does = ap (λ (p : Place). effect_at p context e.shape (take e.length (drop position bytes))) (sym taken.place_is)
            ∙ ap (λ (t : List ℕ). effect_at place context e.shape t) (sym spelling_there);
      }

  pub moved_on : (after : Place) → after ≡ fold moved place spelling → after ≡ place_after number (take (position + e.length) bytes)
  moved_on after is =
      is ∙ ap (λ (p : Place). fold moved p spelling) taken.place_is ∙ place_after-append number (take position bytes) spelling
      ∙ ap (λ (t : List ℕ). place_after number (take position bytes ++ t)) spelling_there
      ∙ ap (place_after number) (take_take position e.length bytes)

  pub taken_some : 0 < e.length
  taken_some =
      let some = takes_some (is_read context.conditions) e.shape (take e.length rest) (drop e.length rest) taken.longest in
      omega (arith, length-take-le e.length rest taken.within)

  module _ (Includes : Place → List ℕ → Settings → Outcome → Type 0) (now : Settings) (emitted : List Token) (leads : Leads Includes number bytes now position context emitted) where
    pub leads_on : (new : State) (after : List Condition) (tokens : List Token) → Gains Includes place context.settings (effect_at place context e.shape spelling) new context.conditions after tokens → Leads Includes number bytes now (position + e.length) (context_of new after) (emitted ++ tokens)
    leads_on new after tokens (inl goes_on) =
        leads_goes Includes number bytes now position e.length context emitted tokens (context_of new after) (subst (Stands number bytes position e.length context) goes_on stands) leads
    leads_on new after tokens (inr found) =
        let name = found.0 in
        let inner : Outcome = Ok (tokens, settings_of new) in
        let there : Includes (place_after number (take position bytes)) name context.settings inner = subst (λ (p : Place). Includes p name context.settings inner) taken.place_is found.2 in
        let on = leads_included Includes number bytes now position e.length context emitted tokens name (settings_of new) (subst (Stands number bytes position e.length context) found.1 stands) there leads in
        subst (λ (conditions : List Condition). Leads Includes number bytes now (position + e.length) (context_of new conditions) (emitted ++ tokens)) (sym found.3) on

    pub stops_whole : (error : LexError) → Stops Includes place context.settings (effect_at place context e.shape spelling) error → Whole Includes number bytes now (Err error)
    stops_whole error (inl breaks) =
        fails_here Includes number bytes now position e.length context emitted error (subst (Stands number bytes position e.length context) breaks stands) leads
    stops_whole error (inr found) =
        let name = found.0 in
        let inner : Outcome = Err error in
        let there : Includes (place_after number (take position bytes)) name context.settings inner = subst (λ (p : Place). Includes p name context.settings inner) taken.place_is found.2 in
        fails_included Includes number bytes now position e.length context emitted name error (subst (Stands number bytes position e.length context) found.1 stands) there leads

is_open : (P : Outcome → Type 0) (emitted : List Token) (now : Settings) (error : LexError) (o : Option Condition) → IsOpen o error → P (preceded emitted (ended_by o now)) → Unless error (P (Err error))
is_open P emitted now error None is whole = absurd is
is_open P emitted now error (Some c) is whole = subst (λ (x : LexError). Unless x (P (Err x))) (sym is) whole

-- the end of a text
pub at_end : (P : Outcome → Type 0) (old new : State) (conditions : List Condition) (emitted : List Token) (result : Result (Unit {0}) LexError) → P (preceded emitted (ended conditions (settings_of new))) → new.tokens.items ≡ old.tokens.items ++ emitted → MatchResult result (λ _. innermost conditions ≡ None) (λ error. IsOpen (innermost conditions) error) → Adds P old new result
at_end P old new conditions emitted (Ok done) whole added closed =
    let last : Outcome = Ok (emitted, settings_of new) in
    let is_last : preceded emitted (ended conditions (settings_of new)) ≡ last =
    ap (λ (o : Option Condition). preceded emitted (ended_by o (settings_of new))) closed
    ∙ (let again : List Token → Outcome = λ tokens. Ok (tokens, settings_of new) in ap again (append-nil emitted)) in
    (emitted, subst P is_last whole, added)
at_end P old new conditions emitted (Err error) whole added is = is_open P emitted (settings_of new) error (innermost conditions) is whole
