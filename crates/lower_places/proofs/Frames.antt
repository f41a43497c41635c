-- The parts of an activation record.
use Rattle.std.proofs.Common.{◌≡◌, ℕ, ◌+◌, ◌-◌, ◌≤◌, ◌<◌, ◌⊎◌, inl, inr, Bool, true, false, pos, negsuc, List, [], ◌∷◌, ◌++◌, map, length, refl, ap, ◌∙◌, arith}
use Rattle.std.specs.Prelude.{sum, sum_by, slice_index, nat_le, if◌then◌else◌}
use Rattle.std.proofs.lemmas.Bool.Decides.{nat_tests}
use Rattle.type_layout.specs.declared.definitions.TypeDef.{TypeDef}
use Rattle.typed_tree.specs.declared.units.Routine.{Routine}
use Rattle.typed_tree.specs.Frames.{param_bytes, copy_bytes, even_size, class_argument, result_argument, result_bytes, need_of, frame_of}
use Rattle.common_values.specs.integers.Words.{w16, word_of, wrapping_add}
use Rattle.lower_places.specs.Parts.{above, until}
use Rattle.lower_places.specs.Frames.{FramePart, StringResult, Instance, Parameter, ClassWord, StaticLink, ReturnLinks, CopyOf, ResultValue, OwnVariable, EvaluationStack, instance_bytes, static_bytes, return_bytes, frame_parts, parameters, number_in, from_bp}
use Rattle.lower_places.specs.Laws.{FrameLaws, IsFromTop}
use Rattle.lower_places.proofs.Parts.{parts-apart, parts-inside, sum-cons, sum-append, sum-map, length-map, Leads, skip, follow, mapped-at}

module _ (types : List TypeDef) (routine : Routine) where
  abbrev pub p : ℕ
  p = parameters routine

  abbrev pub l : ℕ
  l = length routine.locals

  abbrev pub handed : List ℕ
  handed = map (param_bytes types) routine.header.params

  abbrev pub copies : List ℕ
  copies = map (copy_bytes types) routine.header.params

  abbrev pub owned : List ℕ
  owned = map (even_size types) routine.locals

  -- the list, from its parts on
  abbrev pub from_stack : List ℕ
  from_stack = need_of types routine ∷ []

  abbrev pub from_owned : List ℕ
  from_owned = owned ++ from_stack

  abbrev pub from_result : List ℕ
  from_result = result_bytes types routine.header.result ∷ from_owned

  abbrev pub from_copies : List ℕ
  from_copies = copies ++ from_result

  abbrev pub words : List ℕ
  words = class_argument routine.header.kind ∷ (static_bytes routine ∷ (return_bytes routine ∷ []))

  abbrev pub from_words : List ℕ
  from_words = words ++ from_copies

  abbrev pub from_handed : List ℕ
  from_handed = handed ++ from_words

  abbrev pub first : List ℕ
  first = result_argument types routine.header.result ∷ (instance_bytes routine ∷ [])

  abbrev pub parts : List ℕ
  parts = frame_parts types routine

  handed-length : length handed ≡ p
  handed-length = length-map (param_bytes types) routine.header.params

  copies-length : length copies ≡ p
  copies-length = length-map (copy_bytes types) routine.header.params

  owned-length : length owned ≡ l
  owned-length = length-map (even_size types) routine.locals

  pub to-handed : (n k : ℕ) → n ≡ 2 + k → Leads parts n from_handed k (sum first)
  to-handed n k e = skip first from_handed n k e

  pub to-words : (n k : ℕ) → n ≡ 2 + p + k → Leads parts n from_words k (sum first + sum handed)
  to-words n k e =
      let len = handed-length in
      follow parts n from_handed (p + k) from_words k (sum first) (sum handed) (to-handed n (p + k) (omega (arith, e))) (skip handed from_words (p + k) k (omega (arith, len)))

  pub to-copies : (n k : ℕ) → n ≡ 5 + p + k → Leads parts n from_copies k (sum first + sum handed + sum words)
  to-copies n k e = follow parts n from_words (3 + k) from_copies k (sum first + sum handed) (sum words) (to-words n (3 + k) (omega (arith, e))) (skip words from_copies (3 + k) k refl)

  pub to-result : (n k : ℕ) → n ≡ 5 + p + p + k → Leads parts n from_result k (sum first + sum handed + sum words + sum copies)
  to-result n k e =
      let len = copies-length in
      follow parts n from_copies (p + k) from_result k (sum first + sum handed + sum words) (sum copies) (to-copies n (p + k) (omega (arith, e))) (skip copies from_result (p + k) k (omega (arith, len)))

  abbrev pub result_only : List ℕ
  result_only = result_bytes types routine.header.result ∷ []

  pub to-owned : (n k : ℕ) → n ≡ 6 + p + p + k → Leads parts n from_owned k (sum first + sum handed + sum words + sum copies + sum result_only)
  to-owned n k e = follow parts n from_result (1 + k) from_owned k (sum first + sum handed + sum words + sum copies) (sum result_only) (to-result n (1 + k) (omega (arith, e))) (skip result_only from_owned (1 + k) k refl)

  to-stack : (n k : ℕ) → n ≡ 6 + p + p + l + k → Leads parts n from_stack k (sum first + sum handed + sum words + sum copies + sum result_only + sum owned)
  to-stack n k e =
      let len = owned-length in
      follow parts n from_owned (l + k) from_stack k (sum first + sum handed + sum words + sum copies + sum result_only) (sum owned) (to-owned n (l + k) (omega (arith, e))) (skip owned from_stack (l + k) k (omega (arith, len)))

  pub handed-sum : sum handed ≡ sum_by (param_bytes types) routine.header.params
  handed-sum = sum-map (param_bytes types) routine.header.params

  pub copies-sum : sum copies ≡ sum_by (copy_bytes types) routine.header.params
  copies-sum = sum-map (copy_bytes types) routine.header.params

  owned-sum : sum owned ≡ sum_by (even_size types) routine.locals
  owned-sum = sum-map (even_size types) routine.locals

  fills : sum parts ≡ frame_of types routine
  fills =
      let result = sum-cons (result_argument types routine.header.result) (instance_bytes routine ∷ from_handed) in
      let own = sum-cons (instance_bytes routine) from_handed in
      let a = sum-append handed from_words in
      let class-word = sum-cons (class_argument routine.header.kind) (static_bytes routine ∷ (return_bytes routine ∷ from_copies)) in
      let static-link = sum-cons (static_bytes routine) (return_bytes routine ∷ from_copies) in
      let links = sum-cons (return_bytes routine) from_copies in
      let b = sum-append copies from_result in
      let value = sum-cons (result_bytes types routine.header.result) from_owned in
      let c = sum-append owned from_stack in
      let stack = sum-cons (need_of types routine) [] in
      let h = handed-sum in
      let i = copies-sum in
      let j = owned-sum in
      omega (arith, result, own, a, class-word, static-link, links, b, value, c, stack, h, i, j)

  -- a part as large as this
  sized : (part : FramePart) (size : ℕ) → slice_index parts (number_in routine part) ≡ size → until parts (number_in routine part) ≡ above parts (number_in routine part) + size
  sized part size e = ap (λ n. above parts (number_in routine part) + n) e

  links-size : slice_index parts (number_in routine ReturnLinks) ≡ return_bytes routine
  links-size = (to-words (4 + p) 2 (omega arith)).at

  stack-size : slice_index parts (number_in routine EvaluationStack) ≡ need_of types routine
  stack-size = (to-stack (6 + p + p + l) 0 (omega arith)).at

  pub frame-laws : FrameLaws types routine
  frame-laws = record {
    apart = λ one other h. parts-apart parts (number_in routine one) (number_in routine other) h;
    inside = λ part. let h = parts-inside parts (number_in routine part) in let w = fills in omega (arith, h, w);
    whole = fills;
    string_result = sized StringResult (result_argument types routine.header.result) refl;
    instance = sized Instance (instance_bytes routine) refl;
    parameter = λ number param e. sized (Parameter number) (param_bytes types param) ((to-handed (2 + number) number refl).at ∙ mapped-at (param_bytes types) routine.header.params from_words number param e);
    class_word = sized ClassWord (class_argument routine.header.kind) (to-words (2 + p) 0 (omega arith)).at;
    static_link = sized StaticLink (static_bytes routine) (to-words (3 + p) 1 (omega arith)).at;
    links = sized ReturnLinks (return_bytes routine) links-size;
    copy = λ number param e. sized (CopyOf number) (copy_bytes types param) ((to-copies (5 + p + number) number refl).at ∙ mapped-at (copy_bytes types) routine.header.params from_result number param e);
    result_value = sized ResultValue (result_bytes types routine.header.result) (to-result (5 + p + p) 0 (omega arith)).at;
    own = λ number ty e. sized (OwnVariable number) (even_size types ty) ((to-owned (6 + p + p + number) number refl).at ∙ mapped-at (even_size types) routine.locals from_stack number ty e);
    arguments = let over = (to-words (4 + p) 2 (omega arith)).over in let h = handed-sum in omega (arith, over, h);
    locals =
        let over = (to-words (4 + p) 2 (omega arith)).over in
        let down = (to-stack (6 + p + p + l) 0 (omega arith)).over in
        let size = links-size in
        let i = copies-sum in
        let j = owned-sum in
        omega (arith, over, down, size, i, j);
    stack = sized EvaluationStack (need_of types routine) stack-size;
    slot = λ before bytes fits.
        let h = parts-inside parts (number_in routine EvaluationStack) in
        let size = stack-size in
        let w = fills in
        omega (arith, h, size, w, fits);
  }

-- ---- from BP

decided : (depth bp : ℕ) → ((depth ≤ bp) × (nat_le depth bp ≡ true)) ⊎ ((bp < depth) × (nat_le depth bp ≡ false))
decided depth bp = grind (arith, nat_tests)

abbrev reached_by : ℕ → ℕ → ℕ → Bool → ℕ
reached_by sp bp depth t = wrapping_add w16 (sp - bp) (word_of w16 (if t then pos (bp - depth) else negsuc (depth - bp - 1)))

pub from-top : IsFromTop
unfolding from_bp
from-top sp bp depth small above_bp above_depth = elim (decided depth bp) [
  | inl h ↦ ap (reached_by sp bp depth) h.1 ∙ upper sp bp depth small above_bp h.0
  | inr h ↦ ap (reached_by sp bp depth) h.1 ∙ lower sp bp depth small above_bp above_depth h.0
]
  where
    upper : (sp bp depth : ℕ) → sp < 65536 → bp ≤ sp → depth ≤ bp → wrapping_add w16 (sp - bp) (word_of w16 (pos (bp - depth))) ≡ sp - depth
    upper sp bp depth p q r = omega (arith, p, q, r)

    lower : (sp bp depth : ℕ) → sp < 65536 → bp ≤ sp → depth ≤ sp → bp < depth → wrapping_add w16 (sp - bp) (word_of w16 (negsuc (depth - bp - 1))) ≡ sp - depth
    lower sp bp depth p q r s = omega (arith, p, q, r, s)
