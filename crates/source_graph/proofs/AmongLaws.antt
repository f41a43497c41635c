-- Whether a file is one of the texts.
use Rattle.std.proofs.Common.{◌≡◌, ℕ, ◌<◌, Bool, true, false, cond, ◌||◌, nat_lt, List, [], ◌∷◌, ◌++◌, length, Option, Some, None, Ok, refl, sym, ap, ◌∙◌, arith}
use Rattle.std.specs.List.{list_any, position_or_len}
use Rattle.std.proofs.lemmas.Bool.Decides.{nat_tests}
use Rattle.std.proofs.lemmas.List.Folds.{list_any-append}
use Rattle.std.proofs.lemmas.Slice.Eq.{bytes_eq-Decides}
use Rattle.type_layout.specs.Words.{same_bytes}
use Rattle.tp_lexer.specs.declared.token.Text.{Text}
use Rattle.source_graph.specs.declared.error.GatherError.{GatherError}
use Rattle.source_graph.specs.Texts.{number_of, with_file}
use Rattle.source_graph.proofs.TextLaws.{with_text_is, with_file_is}

abbrev pub is_among : List Text → List ℕ → Bool
is_among texts name = list_any (λ text. same_bytes text.name name) texts

-- each file that is one of the texts is one of the others too
abbrev pub AreWithin : List Text → List Text → Type 0
AreWithin texts others = (name : List ℕ) → is_among texts name ≡ true → is_among others name ≡ true

-- what is none of the others is none of the texts
pub none_within : (texts others : List Text) (name : List ℕ) → AreWithin texts others → is_among others name ≡ false → is_among texts name ≡ false
none_within texts others name within none = by (is_among texts name) refl
  where
    by : (b : Bool) → is_among texts name ≡ b → is_among texts name ≡ false
    by true there = let both : true ≡ false = sym (within name there) ∙ none in absurd cc
    by false not_there = not_there

-- ---- by its number

first_before : (p : Text → Bool) (texts : List Text) → list_any p texts ≡ true → position_or_len p texts < length texts
first_before p [] some = absurd cc
first_before p (text ∷ texts) some = by (p text) refl some (λ any. first_before p texts any)
  where
    by : (b : Bool) → p text ≡ b → (b || list_any p texts) ≡ true → (list_any p texts ≡ true → position_or_len p texts < length texts) → position_or_len p (text ∷ texts) < length (text ∷ texts)
    by true is any again = rw is (omega arith)
    by false is any again = let rest = again any in rw is (omega arith)

pub none_among : (texts : List Text) (name : List ℕ) → number_of texts name ≡ None → is_among texts name ≡ false
none_among texts name none = by (is_among texts name) refl
  where
    by : (b : Bool) → is_among texts name ≡ b → is_among texts name ≡ false
    by false not_there = not_there
    by true there =
        let before = first_before (λ text. same_bytes text.name name) texts there in
        let test : nat_lt (position_or_len (λ text. same_bytes text.name name) texts) (length texts) ≡ true = grind (arith, nat_tests) in
        let found : Some (position_or_len (λ text. same_bytes text.name name) texts) ≡ None = sym (ap (λ (b : Bool). cond b (Some (position_or_len (λ text. same_bytes text.name name) texts)) None) test) ∙ none in
        absurd cc

-- ---- with one text more

or_left : (a b : Bool) → a ≡ true → (a || b) ≡ true
or_left a b is = ap (λ (x : Bool). x || b) is

or_here : (a b : Bool) → b ≡ true → (a || (b || false)) ≡ true
or_here true b is = refl
or_here false b is = ap (λ (x : Bool). x || false) is

module _ (texts more : List Text) (name : List ℕ) where
  -- the texts and the file of this name are among the others
  abbrev pub IsAdded : Type 0
  IsAdded = AreWithin texts more × (is_among more name ≡ true)

  text_added : (bytes : List ℕ) → more ≡ texts ++ record { name = name; bytes = bytes } ∷ [] → IsAdded
  text_added bytes is =
      let text : Text = record { name = name; bytes = bytes } in
      let among : (other : List ℕ) → is_among more other ≡ (is_among texts other || (same_bytes name other || false)) = λ other.
      ap (λ (t : List Text). is_among t other) is ∙ list_any-append (λ t. same_bytes t.name other) texts (text ∷ []) in (
        λ other there. among other ∙ or_left (is_among texts other) (same_bytes name other || false) there,
        among name ∙ or_here (is_among texts name) (same_bytes name name) ((bytes_eq-Decides name name).1 refl),
      )

  pub file_added : (error : GatherError) (found : Option (List ℕ)) → with_file error texts name found ≡ Ok more → IsAdded
  file_added error found is =
      let file = with_file_is error texts more name found is in
      text_added file.bytes (with_text_is texts name file.bytes more file.put).0
