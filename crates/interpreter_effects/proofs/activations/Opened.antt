-- The trees of a routine's variables, as they are appended.
use Rattle.std.proofs.Common.{◌≡◌, List, [], ◌∷◌, ◌++◌, map, refl, sym, ap, append_assoc}
use Rattle.std.specs.Prelude.{Ok, Err}
use Rattle.tp_meaning.specs.Trees.{Tree as PureTree}
use Rattle.tp_meaning.specs.Found.{Found, ◌>>=◌}
use Rattle.tp_meaning.specs.Store.{Store, with_new}
use Rattle.tp_meaning.specs.Activations.{variable_object}
use Rattle.interpreter_effects.specs.activations.Parts.{behind}

-- one more tree in front of others
pub behind_push : (front : List PureTree) (tree : PureTree) (rest : Found (List PureTree)) → behind front (rest >>= λ trees. Ok (tree ∷ trees)) ≡ behind (front ++ tree ∷ []) rest
behind_push front tree (Ok trees) = ap Ok (sym (append_assoc front (tree ∷ []) trees))
behind_push front tree (Err trap) = refl

-- what comes of the trees of all variables
abbrev pub opened_with : Store → Found (List PureTree) → Found (List PureTree) → List PureTree → List PureTree → Found Store
opened_with store args own result locals = args >>= λ a. own >>= λ s. Ok (with_new store (map variable_object (a ++ (s ++ (result ++ locals)))))
