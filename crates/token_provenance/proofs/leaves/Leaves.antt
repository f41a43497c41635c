-- What a tree keeps is what the grammar keeps of the lexemes that spell it.
use Rattle.std.proofs.Common.{◌≡◌, List, [], ◌∷◌, ◌++◌, Option, Some, None, subst}
use Rattle.std.specs.List.{All}
use Rattle.std.proofs.lemmas.List.Elements.{All-head}
use Rattle.source_graph.specs.ll1_grammar.Grammar.{Symbol, token, part, Grammar, Tree, nil, pair, leaf, node, front, Fit, Fits}
use Rattle.source_graph.specs.ll1_grammar.Sources.{Spells}
use Rattle.token_provenance.specs.leaves.Written.{HasLeaves}
use Rattle.token_provenance.proofs.leaves.Halves.{All-left, All-right}

module _ {X K S V N P : Type 0} (G : Grammar X K S V N P) (L : X → Type 0) (A : V → Type 0) (keeps : (s : S) (x : X) (v : V) → L x → G.value s x ≡ Some v → A v) where
  mutual
    fit_leaves : (y : Symbol S N) (t : Tree V P) (l : List X) (h : Option K) → All L l → Fit G y t l h → HasLeaves A t
    fit_leaves (token s) nil l h all f = absurd f
    fit_leaves (token s) (pair t u) l h all f = absurd f
    fit_leaves (token s) (leaf v) l h all f = keeps s f.lexeme v (All-head L f.lexeme [] (subst (All L) f.alone all)) f.keeps
    fit_leaves (token s) (node p t) l h all f = absurd f
    fit_leaves (part n) nil l h all f = absurd f
    fit_leaves (part n) (pair t u) l h all f = absurd f
    fit_leaves (part n) (leaf v) l h all f = absurd f
    fit_leaves (part n) (node p t) l h all f = fits_leaves (G.body p) t l h all f.2

    fits_leaves : (ys : List (Symbol S N)) (t : Tree V P) (l : List X) (h : Option K) → All L l → Fits G ys t l h → HasLeaves A t
    fits_leaves [] nil l h all f = tt
    fits_leaves [] (pair t u) l h all f = absurd f
    fits_leaves [] (leaf v) l h all f = absurd f
    fits_leaves [] (node p t) l h all f = absurd f
    fits_leaves (y ∷ ys) nil l h all f = absurd f
    fits_leaves (y ∷ ys) (pair t u) l h all f =
        let both : All L (f.left ++ f.right) = subst (All L) f.joined all in
        (fit_leaves y t f.left (front G f.right h) (All-left L f.left f.right both) f.first, fits_leaves ys u f.right h (All-right L f.left f.right both) f.second)
    fits_leaves (y ∷ ys) (leaf v) l h all f = absurd f
    fits_leaves (y ∷ ys) (node p t) l h all f = absurd f

  pub spelled_leaves : (start : N) (t : Tree V P) (l : List X) → All L l → Spells G start t l → HasLeaves A t
  spelled_leaves start t l all s = fit_leaves (part start) t l None all s
