-- The command line is one of which `clap` says exactly what a parse gives.
use Rattle.std.proofs.Common.{◌≡◌, List, [], ◌∷◌, Option, Some, None, IfSome, codes, true, refl, sym, ap, ◌∙◌, ℕ, map, length, get_or, slice_index, arith}
use Rattle.clap.specs.Words.{Text, fault_of, first_of, is_simple, is_simple_and_free, matches_of}
use Rattle.clap.specs.declared.error.kind.ErrorKind.TheVariants.{ArgumentConflict, InvalidValue, MissingRequiredArgument, UnknownArgument}
use Rattle.clap.proofs.OnLiterals.{clap_on_literals}
use Rattle.command_line.specs.declared.command.Command.{Command}
use Rattle.command_line.specs.declared.command.Command.TheVariants as commands
use Rattle.command_line.specs.Line.{command_line, faults, said}
use Rattle.command_line.specs.Words.{IsSingle, IsCommand}

pub simple : is_simple command_line ≡ true
unfolding clap_on_literals
simple = refl

pub free : is_simple_and_free command_line ≡ true
unfolding clap_on_literals
free = refl

pub faults-are : (words : List Text) → fault_of command_line words ≡ faults words
unfolding faults
faults-are words = refl

pub said-is : (words : List Text) → matches_of command_line words ≡ said words
unfolding said
said-is words = refl

differ : ◌≡◌ {A = ℕ} 104 118 → ⊥
differ e = omega arith

-- words that ask for a text fit no command line
help-unfit : faults (codes "--help" ∷ []) ≡ UnknownArgument ∷ []
unfolding clap_on_literals faults
help-unfit = refl

version-unfit : faults (codes "--version" ∷ []) ≡ UnknownArgument ∷ []
unfolding clap_on_literals faults
version-unfit = refl

pub help_not : (words : List Text) → words ≡ codes "--help" ∷ [] → faults words ≡ [] → ⊥
help_not words is fits = let bad = sym help-unfit ∙ ap faults (sym is) ∙ fits in cc

pub version_not : (words : List Text) → words ≡ codes "--version" ∷ [] → faults words ≡ [] → ⊥
version_not words is fits = let bad = sym version-unfit ∙ ap faults (sym is) ∙ fits in cc

pub apart : (word : List ℕ) → word ≡ codes "--help" → word ≡ codes "--version" → ⊥
apart word help version = differ (ap (λ (w : List ℕ). slice_index w 2) (sym help ∙ version))

-- one word is the whole line
pub one_word : {S : Type 0} (f : S → List ℕ) (xs : List S) (a : S) (word : List ℕ) → length xs ≡ 1 → a ≡ get_or xs 0 a → word ≡ f a → map f xs ≡ word ∷ []
one_word f [] a word one is shows = absurd (omega arith)
one_word f (x ∷ []) a word one is shows = ap (λ v. f v ∷ []) (sym is) ∙ ap (λ w. w ∷ []) (sym shows)
one_word f (x ∷ y ∷ rest) a word one is shows = absurd (omega arith)

pub is_one : {S : Type 0} (f : S → List ℕ) (xs : List S) (word : List ℕ) → map f xs ≡ word ∷ [] → length xs ≡ 1
is_one f [] word is = absurd cc
is_one f (x ∷ []) word is = refl
is_one f (x ∷ y ∷ rest) word is = absurd cc

pub same_word : (a b : List ℕ) → a ∷ [] ≡ b ∷ [] → a ≡ b
same_word a b is = cc

pub single_asks : (result : Option Command) (words : List Text) (word : Text) → words ≡ word ∷ [] → IfSome result (IsSingle word) → IfSome result (IsCommand words)
single_asks None words word is found = tt
single_asks (Some commands.Help) words word is found = is ∙ ap (λ (w : Text). w ∷ []) found
single_asks (Some commands.Version) words word is found = is ∙ ap (λ (w : Text). w ∷ []) found
single_asks (Some (commands.Go name options)) words word is found = absurd found
single_asks (Some (commands.Run name options)) words word is found = absurd found
single_asks (Some (commands.Mean name turns)) words word is found = absurd found

pub single_unfit : (result : Option Command) (words : List Text) (word : Text) → words ≡ word ∷ [] → IfSome result (IsSingle word) → faults words ≡ [] → result ≡ None
single_unfit None words word is found fits = refl
single_unfit (Some commands.Help) words word is found fits = absurd (help_not words (is ∙ ap (λ (w : Text). w ∷ []) found) fits)
single_unfit (Some commands.Version) words word is found fits = absurd (version_not words (is ∙ ap (λ (w : Text). w ∷ []) found) fits)
single_unfit (Some (commands.Go name options)) words word is found fits = absurd found
single_unfit (Some (commands.Run name options)) words word is found fits = absurd found
single_unfit (Some (commands.Mean name turns)) words word is found fits = absurd found

-- lines written out
pub plain : faults (codes "go" ∷ codes "A" ∷ []) ≡ []
unfolding clap_on_literals faults
plain = refl

pub equals : first_of (codes "limit") (said (codes "run" ∷ codes "--limit=5" ∷ codes "A" ∷ [])) ≡ Some (codes "5")
unfolding clap_on_literals said
equals = refl

pub before : first_of (codes "name") (said (codes "run" ∷ codes "--buffer" ∷ codes "2" ∷ codes "A" ∷ [])) ≡ Some (codes "A")
unfolding clap_on_literals said
before = refl

pub twice : faults (codes "run" ∷ codes "A" ∷ codes "--limit" ∷ codes "9" ∷ codes "--limit" ∷ codes "9" ∷ []) ≡ ArgumentConflict ∷ []
unfolding clap_on_literals faults
twice = refl

pub valueless : faults (codes "run" ∷ codes "A" ∷ codes "--limit" ∷ []) ≡ InvalidValue ∷ []
unfolding clap_on_literals faults
valueless = refl

pub nameless : faults (codes "run" ∷ []) ≡ MissingRequiredArgument ∷ []
unfolding clap_on_literals faults
nameless = refl

pub unknown : faults (codes "run" ∷ codes "A" ∷ codes "--fast" ∷ []) ≡ UnknownArgument ∷ []
unfolding clap_on_literals faults
unknown = refl
