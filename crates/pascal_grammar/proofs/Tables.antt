-- The tables hold for each production: so one lexeme ahead decides.
use Rattle.std.proofs.Common.{◌≡◌, Bool, true, false, cond, List, Option, Some, None, refl}
use Rattle.pascal_grammar.specs.declared.kind.Kind.{Kind}
use Rattle.pascal_grammar.specs.declared.lexeme.Lexeme.{Lexeme}
use Rattle.pascal_grammar.specs.Parts.{Part}
use Rattle.pascal_grammar.specs.Productions.{Production}
use Rattle.pascal_grammar.specs.Productions as p
use Rattle.pascal_grammar.specs.Asked.{accepts}
use Rattle.pascal_grammar.specs.Lexemes.{Kept, kind_of, kept}
use Rattle.pascal_grammar.specs.Rules.{grammar}
use Rattle.pascal_grammar.specs.Choices.{choose}
use Rattle.pascal_grammar.specs.Starts.{starts, vanishes}
use Rattle.pascal_grammar.specs.Follows.{follows}
use Rattle.pascal_grammar.proofs.Lists.{kinds, same_production, same_is, every_kind}
use Rattle.ll1_grammar.specs.Grammar.{Tree, part, node, front, Fit}
use Rattle.ll1_grammar.proofs.Predicting.{IsAccepted, Knows, Chooses, AllFollow, predicts}
use Rattle.ll1_grammar.proofs.Checking.{starts_well, chosen_well, followed_well, IsComplete, knows, chooses, all_follow}

abbrev pub Follow : Part → Option Kind → Type 0
Follow n h = follows n h ≡ true

accepted_by : (b : Bool) (v w : Kept) → cond b (Some v) None ≡ Some w → b ≡ true
accepted_by true v w e = refl
accepted_by false v w e = absurd cc

pub accepted : IsAccepted grammar accepts starts vanishes
accepted = record { kind = λ s x v e. accepted_by (accepts s (kind_of x)) (kept s x) v e }

complete : IsComplete grammar accepts starts vanishes follows choose kinds same_production
complete = record { kind = every_kind; production = same_is }

starts_checked : (x : Production) → starts_well grammar accepts starts vanishes follows choose kinds same_production x ≡ true
starts_checked p.program = refl
starts_checked x = refl

chosen_checked : (x : Production) → chosen_well grammar accepts starts vanishes follows choose kinds same_production x ≡ true
chosen_checked p.program = refl
chosen_checked x = refl

followed_checked : (x : Production) → followed_well grammar accepts starts vanishes follows choose kinds same_production (grammar.body x) (grammar.owner x) ≡ true
followed_checked p.program = refl
followed_checked x = refl

pub known : (x : Production) → Knows grammar accepts starts vanishes x
known x = knows grammar accepts starts vanishes follows choose kinds same_production complete x (starts_checked x)

chosen : (x : Production) → Chooses grammar accepts starts vanishes accepted known Follow choose x
chosen x = chooses grammar accepts starts vanishes follows choose kinds same_production complete accepted known x (chosen_checked x)

pub followed : (x : Production) → AllFollow grammar accepts starts vanishes accepted known Follow (grammar.body x) (grammar.owner x)
followed x = all_follow grammar accepts starts vanishes follows choose kinds same_production complete accepted known (grammar.body x) (grammar.owner x) (followed_checked x)

pub predict : (n : Part) (q : Production) (u : Tree Kept Production) (l : List Lexeme) (h : Option Kind) → Fit grammar (part n) (node q u) l h → Follow n h → choose n (front grammar l h) ≡ Some q
predict = predicts grammar accepts starts vanishes accepted known Follow choose chosen
