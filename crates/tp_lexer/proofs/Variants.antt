-- An option by its variant and its value.
use Rattle.std.proofs.Common.{◌≡◌, ℕ, ◌<◌, ◌≤◌, Bool, true, false, cond, List, [], ◌∷◌, ◌++◌, length, Option, Some, None, refl, ap, sym, ◌∙◌, arith, IsTrue, IsUtf8, ◌&&◌, leb, length-append}
use Rattle.std.specs.Prelude.{◌↔◌, IsSome, IfSome}
use Rattle.std.proofs.lemmas.List.{take_all, take-append-le}
use Rattle.std.specs.Str.{is_utf8}
use Rattle.std.proofs.lemmas.Bool.{leb-true, le-leb}
use Rattle.std.proofs.lemmas.Str.{is_utf8-from_IsUtf8, IsUtf8-from_is_utf8}
use Rattle.tp_lexer.specs.Contents.{kept}
use Rattle.tp_lexer.specs.Directives.{named}

pub option_is : (r : Option (List ℕ)) (b : Bool) (v : List ℕ) → (IsSome r ↔ IsTrue b) → IfSome r (λ x. x ≡ v) → r ≡ cond b (Some v) None
option_is None true v variant value = absurd (let h : IsSome {T = List ℕ} None = variant.1 refl in cc h)
option_is None false v variant value = refl
option_is (Some x) true v variant value = ap Some value
option_is (Some x) false v variant value = absurd (let h : IsTrue false = variant.0 refl in cc h)

-- a byte counts while there is room
pub kept-room : (text : List ℕ) (c : ℕ) → length text < 255 → kept text c ≡ text ++ c ∷ []
kept-room text c room = take_all 255 (text ++ c ∷ []) (omega (arith, length-append text (c ∷ [])))

pub kept-full : (text : List ℕ) (c : ℕ) → length text ≡ 255 → kept text c ≡ text
kept-full text c full = take-append-le 255 text (c ∷ []) (omega arith) ∙ take_all 255 text (omega arith)

pub ruleset keeping = (kept-room, kept-full)

pub named-text : (bytes : List ℕ) (r : Option (List ℕ)) → IsUtf8 bytes → (IsSome r ↔ (length bytes ≤ 80)) → IfSome r (λ x. x ≡ bytes) → r ≡ named bytes
named-text bytes r text variant value =
    let short = leb (length bytes) 80 in
    let there : IsSome r → IsTrue short = λ s. le-leb (length bytes) 80 (variant.0 s) in
    let back : IsTrue short → IsSome r = λ t. variant.1 (leb-true (length bytes) 80 t) in
    option_is r short bytes (there, back) value ∙ sym (ap (λ (is_text : Bool). cond (is_text && short) (Some bytes) None) (is_utf8-from_IsUtf8 bytes text))

pub named-other : (bytes : List ℕ) → (IsUtf8 bytes → ⊥) → None ≡ named bytes
named-other bytes other =
    let by_test : (b : Bool) → is_utf8 bytes ≡ b → None ≡ named bytes = λ b e.
    (elim b as (λ (v : Bool). is_utf8 bytes ≡ v → None ≡ named bytes) [
      | true ↦ λ e. absurd (other (IsUtf8-from_is_utf8 bytes e))
      | false ↦ λ e. sym (ap (λ (is_text : Bool). cond (is_text && leb (length bytes) 80) (Some bytes) None) e)
    ]) e in
    by_test (is_utf8 bytes) refl
