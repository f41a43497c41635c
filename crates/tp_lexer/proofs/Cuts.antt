-- A text is cut in one way: what is taken at its front stands in the grammar, and nothing longer does.
use Rattle.std.proofs.Common.{◌≡◌, ◌⊎◌, inl, inr, ℕ, ◌+◌, ◌<◌, ◌≤◌, Bool, true, false, cond, not, ◌||◌, eqb, ltb, List, [], ◌∷◌, ◌++◌, length, take, drop, refl, ap, sym, ◌∙◌, subst, arith, length-append, length-take-le, take-append-drop}
use Rattle.std.specs.List.{prefix_len, concat}
use Rattle.std.specs.Char.{is_ascii_digit, is_ascii_hexdigit}
use Rattle.std.specs.Prelude.{is_some}
use Rattle.std.proofs.lemmas.Bool.Decides.{nat_tests}
use Rattle.tp_lexer.specs.Characters.{is_letter, is_word_byte, is_blank}
use Rattle.tp_lexer.specs.Shapes.{extent, brace_extent, star_extent, star_len, comment_extent, number_extent, constant_from}
use Rattle.tp_lexer.specs.Pieces.{shape_at, passed_at, symbol_extent, opens_star}
use Rattle.tp_lexer.specs.Symbols.{symbol_of}
use Rattle.tp_lexer.specs.Grammar.{IsQuoted, IsCode, IsComment, IsOpenComment, IsRead, IsSkipped, HasShape, IsLongest, Takes}
use Rattle.tp_lexer.specs.declared.shape.Shape.{Shape}
use Rattle.tp_lexer.specs.declared.shape.Shape.TheVariants as s
use Rattle.tp_lexer.specs.declared.shape.Extent.{Extent}
use Rattle.tp_lexer.specs.declared.constant.Part.TheVariants as p
use Rattle.tp_lexer.proofs.Prefixes.{and_left, and_right}
use Rattle.tp_lexer.proofs.Positive.{constant_positive}
use Rattle.tp_lexer.proofs.Longest.{IsBest, blank_best, word_best, decimal_best, real_best, hexadecimal_best}
use Rattle.tp_lexer.proofs.LongestConstants.{constant_best, open_constant_best}
use Rattle.tp_lexer.proofs.LongestComments.{read_comments, skipped_comments, comment_best, open_comment_best, symbol_best}
use Rattle.tp_lexer.proofs.Taken.{IsPrefix, IsSound, sound_by, word_sound, number_sound, hexadecimal_sound}
use Rattle.tp_lexer.proofs.TakenConstants.{constant_sound}
use Rattle.tp_lexer.proofs.TakenComments.{brace_sound, star_sound, symbol_sound}

star_front : (c : ℕ) (cs : List ℕ) → opens_star (c ∷ cs) ≡ true → IsSound (c ∷ cs) (star_extent (c ∷ cs))
star_front c [] is = absurd (let h = and_right (eqb c 40) false is in let k : false ≡ true = h in cc)
star_front c (d ∷ ds) is =
    let x : 40 ≡ c = grind (arith, nat_tests, and_left (eqb c 40) (eqb d 42) is) in
    let y : 42 ≡ d = grind (arith, nat_tests, and_right (eqb c 40) (eqb d 42) is) in
    subst (λ (n : ℕ). IsSound (n ∷ d ∷ ds) (star_extent (n ∷ d ∷ ds))) x (subst (λ (n : ℕ). IsSound (40 ∷ n ∷ ds) (star_extent (40 ∷ n ∷ ds))) y (star_sound ds))

brace_front : (c : ℕ) (cs : List ℕ) → eqb c 123 ≡ true → IsSound (c ∷ cs) (brace_extent (c ∷ cs))
brace_front c cs is = let x : 123 ≡ c = grind (arith, nat_tests) in subst (λ (n : ℕ). IsSound (n ∷ cs) (brace_extent (n ∷ cs))) x (brace_sound cs)

hexadecimal_front : (c : ℕ) (cs : List ℕ) → eqb c 36 ≡ true → IsSound (c ∷ cs) (extent s.Hexadecimal (1 + prefix_len is_ascii_hexdigit cs))
hexadecimal_front c cs is = let x : 36 ≡ c = grind (arith, nat_tests) in subst (λ (n : ℕ). IsSound (n ∷ cs) (extent s.Hexadecimal (1 + prefix_len is_ascii_hexdigit cs))) x (hexadecimal_sound cs)

shape_sound : (c : ℕ) (cs : List ℕ) → IsSound (c ∷ cs) (shape_at (c ∷ cs))
shape_sound c cs =
    let bytes : List ℕ = c ∷ cs in
    let sixth = cond (opens_star bytes) (star_extent bytes) (symbol_extent bytes) in
    let fifth = cond (eqb c 123) (brace_extent bytes) sixth in
    let fourth = cond (eqb c 39 || eqb c 35) (constant_from 0 p.Start bytes) fifth in
    let hexadecimal = extent s.Hexadecimal (1 + prefix_len is_ascii_hexdigit cs) in
    let third = cond (eqb c 36) hexadecimal fourth in
    let second = cond (is_ascii_digit c) (number_extent bytes) third in
    let word = extent s.Word (prefix_len is_word_byte bytes) in
    let first = cond (is_letter c) word second in
    sound_by (IsSound bytes) (is_blank c) (extent s.Blank 1) first (λ is. record { byte = c; spelled = refl; separates = is })
    (λ _. sound_by (IsSound bytes) (is_letter c) word second (λ is. word_sound c cs is)
    (λ _. sound_by (IsSound bytes) (is_ascii_digit c) (number_extent bytes) third (λ is. number_sound c cs is)
    (λ _. sound_by (IsSound bytes) (eqb c 36) hexadecimal fourth (λ is. hexadecimal_front c cs is)
    (λ _. sound_by (IsSound bytes) (eqb c 39 || eqb c 35) (constant_from 0 p.Start bytes) fifth (λ is. constant_sound bytes (constant_positive c cs is))
    (λ _. sound_by (IsSound bytes) (eqb c 123) (brace_extent bytes) sixth (λ is. brace_front c cs is)
    (λ _. sound_by (IsSound bytes) (opens_star bytes) (star_extent bytes) (symbol_extent bytes) (λ is. star_front c cs is) (λ _. symbol_sound c cs)))))))

-- the same for either text
abbrev IsPrefixOf : Bool → Shape → List ℕ → Type 0
IsPrefixOf is_live s.Other spelling = length spelling ≡ 1
IsPrefixOf is_live shape spelling = HasShape is_live shape spelling

read_prefix : (shape : Shape) (spelling : List ℕ) → IsPrefix shape spelling → IsPrefixOf true shape spelling
read_prefix shape spelling front = front

comment_front_by : (b : Bool) (m n : ℕ) (bytes : List ℕ) → IsSound bytes (cond b (extent s.Comment m) (extent s.OpenComment n)) → IsPrefixOf false (cond b (extent s.Comment m) (extent s.OpenComment n)).shape (take (cond b (extent s.Comment m) (extent s.OpenComment n)).length bytes)
comment_front_by true m n bytes front = front
comment_front_by false m n bytes front = front

comment_front : (bracket body : ℕ) (bytes : List ℕ) → IsSound bytes (comment_extent bracket body bytes) → IsPrefixOf false (comment_extent bracket body bytes).shape (take (comment_extent bracket body bytes).length bytes)
comment_front bracket body bytes front = comment_front_by (ltb (bracket + body) (length bytes)) (bracket + body + bracket) (length bytes) bytes front

skipped_sound : (c : ℕ) (cs : List ℕ) → IsPrefixOf false (passed_at (c ∷ cs)).shape (take (passed_at (c ∷ cs)).length (c ∷ cs))
skipped_sound c cs =
    let bytes : List ℕ = c ∷ cs in
    let star = cond (opens_star bytes) (star_extent bytes) (extent s.Other 1) in
    let P : Extent → Type 0 = λ e. IsPrefixOf false e.shape (take e.length bytes) in
    sound_by P (eqb c 123) (brace_extent bytes) star (λ is. comment_front 1 (prefix_len (λ d. not (eqb d 125)) cs) bytes (brace_front c cs is))
    (λ _. sound_by P (opens_star bytes) (star_extent bytes) (extent s.Other 1) (λ is. comment_front 2 (star_len (drop 2 bytes)) bytes (star_front c cs is)) (λ _. refl))

read_best : (other : Shape) (front back : List ℕ) → IsRead other front → IsBest other (length front) (shape_at (front ++ back))
read_best s.Blank front back is = blank_best front back is
read_best s.Word front back is = word_best front back is
read_best s.Decimal front back is = decimal_best front back is
read_best s.Real front back is = real_best front back is
read_best s.Hexadecimal front back is = hexadecimal_best front back is
read_best s.Constant front back is = constant_best front back is
read_best s.OpenConstant front back is = open_constant_best front back is
read_best s.Comment front back is = comment_best shape_at read_comments front back is
read_best s.OpenComment front back is = open_comment_best shape_at read_comments front back is
read_best s.Symbol front back is = symbol_best front back is
read_best s.Other front back is = absurd is

skipped_best : (other : Shape) (front back : List ℕ) → IsSkipped other front → IsBest other (length front) (passed_at (front ++ back))
skipped_best s.Comment front back is = comment_best passed_at skipped_comments front back is
skipped_best s.OpenComment front back is = open_comment_best passed_at skipped_comments front back is
skipped_best other front back is = absurd is

part_some : (part : List ℕ) → IsQuoted part ⊎ IsCode part → 0 < length part
part_some part (inl q) = let h = ap length q.spelled in omega arith
part_some part (inr (inl code)) = let h = ap length code.1 in omega arith
part_some part (inr (inr code)) = let h = ap length code.1 in omega arith

comment_some : (bytes : List ℕ) → IsComment bytes → 0 < length bytes
comment_some bytes (inl k) = let h = ap length k.1 in omega arith
comment_some bytes (inr k) = let h = ap length k.1 in omega arith

open_comment_some : (bytes : List ℕ) → IsOpenComment bytes → 0 < length bytes
open_comment_some bytes (inl k) = let h = ap length k.1 in omega arith
open_comment_some bytes (inr k) = let h = ap length k.1 in omega arith

symbol_some : (bytes : List ℕ) → is_some (symbol_of bytes) ≡ true → 0 < length bytes
symbol_some [] is = absurd (let k : false ≡ true = is in cc)
symbol_some (c ∷ cs) is = omega arith

read_some : (other : Shape) (front : List ℕ) → IsRead other front → 0 < length front
read_some s.Blank front is = let h = ap length is.spelled in omega arith
read_some s.Word front is = let h = ap length is.spelled in omega arith
read_some s.Decimal front is = is.some
read_some s.Real front is = let h = ap length is.spelled in let some = is.are_digits.some in omega (arith, length-append is.digits (is.fraction ++ is.exponent))
read_some s.Hexadecimal front is = let h = ap length is.spelled in omega arith
read_some s.Constant front is = let h = ap length is.spelled in let some = part_some is.part is.is_part in omega (arith, length-append is.part (concat is.parts))
read_some s.OpenConstant front is = let h = ap length is.spelled in omega (arith, length-append (concat is.parts) (39 ∷ is.text))
read_some s.Comment front is = comment_some front is
read_some s.OpenComment front is = open_comment_some front is
read_some s.Symbol front is = symbol_some front is
read_some s.Other front is = absurd is

pub shape_some : (is_live : Bool) (other : Shape) (front : List ℕ) → HasShape is_live other front → 0 < length front
shape_some true other front is = read_some other front is
shape_some false s.Comment front is = comment_some front is
shape_some false s.OpenComment front is = open_comment_some front is
shape_some false other front is = absurd is

no_other : (is_live : Bool) (front : List ℕ) → HasShape is_live s.Other front → ⊥
no_other true front is = is
no_other false front is = is

-- no front of a text stands in the grammar where one byte of the shape Other is the longest
none_longer : (is_live : Bool) (n : ℕ) (other : Shape) (front : List ℕ) → n ≡ 1 → HasShape is_live other front → (length front < n) ⊎ ((length front ≡ n) × (other ≡ s.Other)) → ⊥
none_longer is_live n other front one is (inl less) = let some = shape_some is_live other front is in absurd (omega arith)
none_longer is_live n other front one is (inr same) = no_other is_live front (subst (λ (shape : Shape). HasShape is_live shape front) same.1 is)

takes_by : (is_live : Bool) (shape : Shape) (spelling rest : List ℕ) → IsPrefixOf is_live shape spelling → IsLongest is_live shape (length spelling) (spelling ++ rest) → Takes is_live shape spelling rest
takes_by is_live s.Other spelling rest front longest = (front, λ other before after e is. none_longer is_live (length spelling) other before front is (longest other before after e is))
takes_by is_live shape spelling rest front longest = (front, longest)

takes_at : (is_live : Bool) (e : Extent) (bytes : List ℕ) → e.length ≤ length bytes → IsPrefixOf is_live e.shape (take e.length bytes) → IsLongest is_live e.shape e.length bytes → Takes is_live e.shape (take e.length bytes) (drop e.length bytes)
takes_at is_live e bytes within front longest =
    let n = e.length in
    let whole : bytes ≡ take n bytes ++ drop n bytes = sym (take-append-drop n bytes) in
    let long : n ≡ length (take n bytes) = sym (length-take-le n bytes within) in
    takes_by is_live e.shape (take n bytes) (drop n bytes) front
    (subst (λ (m : ℕ). IsLongest is_live e.shape m (take n bytes ++ drop n bytes)) long (subst (IsLongest is_live e.shape n) whole longest))

pub read_takes : (bytes : List ℕ) → 0 < length bytes → (shape_at bytes).length ≤ length bytes → Takes true (shape_at bytes).shape (take (shape_at bytes).length bytes) (drop (shape_at bytes).length bytes)
read_takes [] some within = absurd (omega arith)
read_takes (c ∷ cs) some within =
    takes_at true (shape_at (c ∷ cs)) (c ∷ cs) within (read_prefix (shape_at (c ∷ cs)).shape _ (shape_sound c cs))
    (λ other front back e is. subst (λ (b : List ℕ). IsBest other (length front) (shape_at b)) (sym e) (read_best other front back is))

pub skipped_takes : (bytes : List ℕ) → 0 < length bytes → (passed_at bytes).length ≤ length bytes → Takes false (passed_at bytes).shape (take (passed_at bytes).length bytes) (drop (passed_at bytes).length bytes)
skipped_takes [] some within = absurd (omega arith)
skipped_takes (c ∷ cs) some within =
    takes_at false (passed_at (c ∷ cs)) (c ∷ cs) within (skipped_sound c cs)
    (λ other front back e is. subst (λ (b : List ℕ). IsBest other (length front) (passed_at b)) (sym e) (skipped_best other front back is))

-- the same of what the code takes
pub takes_read : (is_live : Bool) (e : Extent) (bytes : List ℕ) → 0 < length bytes → is_live ≡ true → e ≡ shape_at bytes → e.length ≤ length bytes → Takes is_live e.shape (take e.length bytes) (drop e.length bytes)
takes_read is_live e bytes some live is within =
    let there : (shape_at bytes).length ≤ length bytes = subst (λ (x : Extent). x.length ≤ length bytes) is within in
    subst (λ (b : Bool). Takes b e.shape (take e.length bytes) (drop e.length bytes)) (sym live)
    (subst (λ (x : Extent). Takes true x.shape (take x.length bytes) (drop x.length bytes)) (sym is) (read_takes bytes some there))

pub takes_skipped : (is_live : Bool) (e : Extent) (bytes : List ℕ) → 0 < length bytes → is_live ≡ false → e ≡ passed_at bytes → e.length ≤ length bytes → Takes is_live e.shape (take e.length bytes) (drop e.length bytes)
takes_skipped is_live e bytes some live is within =
    let there : (passed_at bytes).length ≤ length bytes = subst (λ (x : Extent). x.length ≤ length bytes) is within in
    subst (λ (b : Bool). Takes b e.shape (take e.length bytes) (drop e.length bytes)) (sym live)
    (subst (λ (x : Extent). Takes false x.shape (take x.length bytes) (drop x.length bytes)) (sym is) (skipped_takes bytes some there))

pub takes_some : (is_live : Bool) (shape : Shape) (spelling rest : List ℕ) → Takes is_live shape spelling rest → 0 < length spelling
takes_some is_live s.Other spelling rest takes = let one = takes.0 in omega arith
takes_some is_live shape spelling rest takes = shape_some is_live _ spelling takes.0

-- a byte that begins nothing, or a longest front
abbrev Kinds : Bool → Shape → List ℕ → List ℕ → Type 0
Kinds is_live shape spelling rest =
    ((shape ≡ s.Other) × (length spelling ≡ 1) × ((other : Shape) (front back : List ℕ) → spelling ++ rest ≡ front ++ back → HasShape is_live other front → ⊥))
    ⊎ (HasShape is_live shape spelling × IsLongest is_live shape (length spelling) (spelling ++ rest))

kind_of : (is_live : Bool) (shape : Shape) (spelling rest : List ℕ) → Takes is_live shape spelling rest → Kinds is_live shape spelling rest
kind_of is_live s.Other spelling rest takes = inl (refl, takes.0, takes.1)
kind_of is_live shape spelling rest takes = inr takes

both_longest : (a b : Shape) (m n : ℕ) → (n < m) ⊎ ((n ≡ m) × (b ≡ a)) → (m < n) ⊎ ((m ≡ n) × (a ≡ b)) → (m ≡ n) × (a ≡ b)
both_longest a b m n (inl less) (inl more) = absurd (omega arith)
both_longest a b m n (inl less) (inr same) = absurd (let h = same.0 in omega arith)
both_longest a b m n (inr same) right = (sym same.0, sym same.1)

once_by : (is_live : Bool) (a b : Shape) (v x w y : List ℕ) → v ++ x ≡ w ++ y → Kinds is_live a v x → Kinds is_live b w y → (length v ≡ length w) × (a ≡ b)
once_by is_live a b v x w y e (inl left) (inl right) = (left.1 ∙ sym right.1, left.0 ∙ sym right.0)
once_by is_live a b v x w y e (inl left) (inr right) = absurd (left.2 b w y e right.0)
once_by is_live a b v x w y e (inr left) (inl right) = absurd (right.2 a v x (sym e) left.0)
once_by is_live a b v x w y e (inr left) (inr right) = both_longest a b (length v) (length w) (left.1 b w y e right.0) (right.1 a v x (sym e) left.0)

-- what is taken at the front of a text is taken in one way
pub takes_once : (is_live : Bool) (a b : Shape) (v x w y : List ℕ) → v ++ x ≡ w ++ y → Takes is_live a v x → Takes is_live b w y → (length v ≡ length w) × (a ≡ b)
takes_once is_live a b v x w y e left right = once_by is_live a b v x w y e (kind_of is_live a v x left) (kind_of is_live b w y right)
