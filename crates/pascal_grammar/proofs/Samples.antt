-- A lexeme of each sort that may be asked for, but an else, before which not everything may stand.
use Rattle.std.proofs.Common.{◌≡◌, pos, Bool, true, false, cond, [], ◌∷◌, Option, Some, None, refl, ap}
use Rattle.pascal_grammar.specs.declared.kind.Kind.{Kind}
use Rattle.pascal_grammar.specs.declared.kind.Kind.TheVariants as k
use Rattle.pascal_grammar.specs.declared.lexeme.NameClass.TheVariants as c
use Rattle.pascal_grammar.specs.declared.lexeme.Position.{Position}
use Rattle.pascal_grammar.specs.declared.lexeme.Terminal.{Terminal}
use Rattle.pascal_grammar.specs.declared.lexeme.Terminal.TheVariants as t
use Rattle.pascal_grammar.specs.declared.lexeme.Lexeme.{Lexeme}
use Rattle.pascal_grammar.specs.Parts.{Part}
use Rattle.pascal_grammar.specs.Productions.{Production, allows}
use Rattle.pascal_grammar.specs.Productions as p
use Rattle.pascal_grammar.specs.Asked.{Asked, accepts, same}
use Rattle.pascal_grammar.specs.Asked as q
use Rattle.pascal_grammar.specs.Lexemes.{Kept, kind_of, terminal_kind, kept}
use Rattle.pascal_grammar.specs.Rules.{grammar}
use Rattle.pascal_grammar.proofs.Tables.{Follow}
use Rattle.ll1_grammar.specs.Grammar.{Symbol, token, Belongs}
use Rattle.ll1_grammar.proofs.Checking.{and, first_of, second_of}
use Rattle.ll1_grammar.proofs.Meeting.{Begun, one, Welcome, IsByKind, some_token}

abbrev pub Some_ : Symbol Asked Part → Type 0
Some_ y = Begun grammar Follow (one grammar Follow y) (Belongs grammar) 0 []

abbrev here : Position
here = record { place = record { text = 0; line = 0; column = 0 }; switches = record { r = false; b = false; f = false; o = false } }

abbrev lexeme : Terminal → Lexeme
lexeme x = record { terminal = x; position = here }

abbrev is_no_else : Kind → Bool
is_no_else k.Else = false
is_no_else x = true

-- a lexeme of the kind
abbrev word_terminal : Kind → Terminal
word_terminal k.Absolute = t.Name c.Absolute (65 ∷ [])
word_terminal k.External = t.Name c.External (65 ∷ [])
word_terminal k.Forward = t.Name c.Forward (65 ∷ [])
word_terminal k.Interrupt = t.Name c.Interrupt (65 ∷ [])
word_terminal x = t.Word x

-- whether the word can be asked for, and is no else
abbrev pub word_sample : Kind → Bool
word_sample x = and (same (terminal_kind (word_terminal x)) x) (is_no_else (terminal_kind (word_terminal x)))

abbrev pub has_sample : Asked → Bool
has_sample (q.word x) = word_sample x
has_sample (q.mark x) = word_sample x
has_sample s = true

abbrev sample : Asked → Terminal
sample (q.word x) = word_terminal x
sample (q.mark x) = word_terminal x
sample q.name = t.Name c.Other (65 ∷ [])
sample q.letter = t.Name c.Letter (65 ∷ [])
sample q.long_name = t.Name c.Other (65 ∷ [])
sample q.number = t.Number (pos 0)
sample q.text = t.Text []
sample q.relator = t.Word k.Equal
sample q.adder = t.Word k.Plus
sample q.multiplier = t.Word k.Times
sample q.sign = t.Word k.Plus
sample q.direction = t.Word k.To

allows_other : (x : Production) (y : Kind) → is_no_else y ≡ true → allows x (Some y) ≡ true
allows_other p.without_else k.Else e = absurd cc
allows_other p.without_else y e = refl
allows_other x y e = refl

welcome : (y : Kind) → is_no_else y ≡ true → Welcome grammar Follow (Some y)
welcome y e x = allows_other x y e

-- whether a production may stand before anything
abbrev pub always : Production → Bool
always p.without_else = false
always x = true

pub allowed : (x : Production) → always x ≡ true → (h : Option Kind) → allows x h ≡ true
allowed p.without_else e h = absurd cc
allowed x e h = refl

pub by_kind : IsByKind grammar Follow
by_kind = record { none = λ s x z e n. none_by (accepts s (kind_of x)) (accepts s (kind_of z)) (kept s x) (kept s z) (ap (accepts s) e) n }
  where
    none_by : (a b : Bool) (v w : Kept) → a ≡ b → cond a (Some v) None ≡ None → cond b (Some w) None ≡ None
    none_by true b v w e n = absurd cc
    none_by false true v w e n = absurd cc
    none_by false false v w e n = refl

of_word : (s : Asked) (x : Terminal) → accepts s (terminal_kind x) ≡ true → is_no_else (terminal_kind x) ≡ true → Some_ (token s)
of_word s x a e = some_token grammar Follow s (lexeme x) (kept s (lexeme x)) (ap (λ (b : Bool). cond b (Some (kept s (lexeme x))) None) a) (welcome (terminal_kind x) e)

pub of_asked : (s : Asked) → has_sample s ≡ true → Some_ (token s)
of_asked (q.word y) e = of_word (q.word y) (word_terminal y) (first_of (same (terminal_kind (word_terminal y)) y) _ e) (second_of (same (terminal_kind (word_terminal y)) y) _ e)
of_asked (q.mark y) e = of_word (q.mark y) (word_terminal y) (first_of (same (terminal_kind (word_terminal y)) y) _ e) (second_of (same (terminal_kind (word_terminal y)) y) _ e)
of_asked s e = some_token grammar Follow s (lexeme (sample s)) (kept s (lexeme (sample s))) refl (welcome (kind_of (lexeme (sample s))) refl)
