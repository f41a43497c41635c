-- How far below the caller's SP the parts of an activation record end, as sums.
use Rattle.std.proofs.Common.{◌≡◌, ℕ, zero, suc, ◌+◌, ◌-◌, ◌≤◌, ◌<◌, Bool, true, false, List, [], ◌∷◌, ◌++◌, map, length, take, pos, negsuc, refl, sym, ap, ◌∙◌, arith}
use Rattle.std.specs.Prelude.{sum_by, slice_index, nat_le, if◌then◌else◌}
use Rattle.std.proofs.lemmas.List.Sums as sums
use Rattle.std.proofs.lemmas.Bool.Decides.{nat_tests}
use Rattle.type_layout.specs.declared.definitions.TypeDef.{TypeDef}
use Rattle.typed_tree.specs.declared.units.Routine.{Routine}
use Rattle.typed_tree.specs.Frames.{param_bytes, copy_bytes, even_size, result_argument, result_bytes, frame_of}
use Rattle.lower_places.specs.Parts.{above}
use Rattle.lower_places.specs.Frames.{FramePart, StringResult, Instance, Parameter, ClassWord, ReturnLinks, CopyOf, ResultValue, OwnVariable, instance_bytes, static_bytes, return_bytes, handed_bytes, bp_depth, depth_of, from_bp, part_at}
use Rattle.lower_places.proofs.Frames.{frame-laws, to-handed, to-words, to-copies, to-result, to-owned, from_words, from_result, from_stack, handed-sum, copies-sum}

-- the first of some sizes end where their sum is
until-front : {A : Type 0} (f : A → ℕ) (xs : List A) (ys : List ℕ) (n : ℕ) → n < length xs → above (map f xs ++ ys) n + slice_index (map f xs ++ ys) n ≡ sum_by f (take (n + 1) xs)
until-front f [] ys n h = absurd (omega (arith, h))
until-front f (x ∷ xs) ys zero h = let all = sums.sum_by-cons f x [] in omega (arith, all)
until-front f (x ∷ xs) ys (suc n) h =
    let rest = until-front f xs ys n (omega (arith, h)) in
    let next : suc n + 1 ≡ suc (n + 1) = omega arith in
    let more : sum_by f (take (suc n + 1) (x ∷ xs)) ≡ sum_by f (x ∷ take (n + 1) xs) = ap (λ k. sum_by f (take k (x ∷ xs))) next in
    let all = sums.sum_by-cons f x (take (n + 1) xs) in
    let index : slice_index (map f (x ∷ xs) ++ ys) (suc n) ≡ slice_index (map f xs ++ ys) n = refl in
    omega (arith, rest, more, all, index)

module _ (types : List TypeDef) (routine : Routine) where
  pub links_depth : bp_depth types routine ≡ handed_bytes types routine + return_bytes routine
  links_depth =
      let links = (frame-laws types routine).links in
      let arguments = (frame-laws types routine).arguments in
      omega (arith, links, arguments)

  pub string_depth : depth_of types routine StringResult ≡ result_argument types routine.header.result
  string_depth = omega (arith, (frame-laws types routine).string_result)

  pub instance_depth : depth_of types routine Instance ≡ result_argument types routine.header.result + instance_bytes routine
  instance_depth = omega (arith, (frame-laws types routine).instance)

  pub parameter_depth : (n : ℕ) → n < length routine.header.params → depth_of types routine (Parameter n) ≡ result_argument types routine.header.result + instance_bytes routine + sum_by (param_bytes types) (take (n + 1) routine.header.params)
  parameter_depth n h =
      let leads = to-handed types routine (2 + n) n refl in
      let over = leads.over in
      let at = leads.at in
      let front = until-front (param_bytes types) routine.header.params (from_words types routine) n h in
      omega (arith, over, at, front)

  pub copy_depth : (n : ℕ) → n < length routine.header.params → depth_of types routine (CopyOf n) ≡ bp_depth types routine + sum_by (copy_bytes types) (take (n + 1) routine.header.params)
  copy_depth n h =
      let leads = to-copies types routine (5 + length routine.header.params + n) n refl in
      let over = leads.over in
      let at = leads.at in
      let front = until-front (copy_bytes types) routine.header.params (from_result types routine) n h in
      let links = links_depth in
      let handed = handed-sum types routine in
      omega (arith, over, at, front, links, handed)

  pub result_depth : depth_of types routine ResultValue ≡ bp_depth types routine + (sum_by (copy_bytes types) routine.header.params + result_bytes types routine.header.result)
  result_depth =
      let leads = to-result types routine (5 + length routine.header.params + length routine.header.params) 0 (omega arith) in
      let over = leads.over in
      let at = leads.at in
      let links = links_depth in
      let handed = handed-sum types routine in
      let copied = copies-sum types routine in
      omega (arith, over, at, links, handed, copied)

  pub own_depth : (n : ℕ) → n < length routine.locals
      → depth_of types routine (OwnVariable n) ≡ bp_depth types routine + (sum_by (copy_bytes types) routine.header.params + result_bytes types routine.header.result + sum_by (even_size types) (take (n + 1) routine.locals))
  own_depth n h =
      let leads = to-owned types routine (6 + length routine.header.params + length routine.header.params + n) n refl in
      let over = leads.over in
      let at = leads.at in
      let front = until-front (even_size types) routine.locals (from_stack types routine) n h in
      let links = links_depth in
      let handed = handed-sum types routine in
      let copied = copies-sum types routine in
      omega (arith, over, at, front, links, handed, copied)

  pub class_depth : depth_of types routine ClassWord + (return_bytes routine + static_bytes routine) ≡ bp_depth types routine
  class_depth =
      let class = to-words types routine (2 + length routine.header.params) 0 (omega arith) in
      let links = to-words types routine (4 + length routine.header.params) 2 (omega arith) in
      let a = class.over in
      let b = class.at in
      let c = links.over in
      let d = links.at in
      omega (arith, a, b, c, d)

  -- ---- none passes the frame

  within : (part : FramePart) (n : ℕ) → depth_of types routine part ≡ n → n ≤ frame_of types routine
  within part n e = let h = (frame-laws types routine).inside part in omega (arith, h, e)

  below : (part : FramePart) (bp n : ℕ) → depth_of types routine part ≡ bp + n → n ≤ frame_of types routine
  below part bp n e = let h = (frame-laws types routine).inside part in omega (arith, h, e)

  pub bp_bound : bp_depth types routine ≤ frame_of types routine
  bp_bound = within ReturnLinks (bp_depth types routine) refl

  pub string_bound : result_argument types routine.header.result ≤ frame_of types routine
  string_bound = within StringResult (result_argument types routine.header.result) string_depth

  pub instance_bound : result_argument types routine.header.result + instance_bytes routine ≤ frame_of types routine
  instance_bound = within Instance (result_argument types routine.header.result + instance_bytes routine) instance_depth

  pub parameter_bound : (n : ℕ) → n < length routine.header.params → result_argument types routine.header.result + instance_bytes routine + sum_by (param_bytes types) (take (n + 1) routine.header.params) ≤ frame_of types routine
  parameter_bound n h = within (Parameter n) (result_argument types routine.header.result + instance_bytes routine + sum_by (param_bytes types) (take (n + 1) routine.header.params)) (parameter_depth n h)

  pub copy_bound : (n : ℕ) → n < length routine.header.params → sum_by (copy_bytes types) (take (n + 1) routine.header.params) ≤ frame_of types routine
  copy_bound n h = below (CopyOf n) (bp_depth types routine) (sum_by (copy_bytes types) (take (n + 1) routine.header.params)) (copy_depth n h)

  pub result_bound : sum_by (copy_bytes types) routine.header.params + result_bytes types routine.header.result ≤ frame_of types routine
  result_bound = below ResultValue (bp_depth types routine) (sum_by (copy_bytes types) routine.header.params + result_bytes types routine.header.result) result_depth

  pub own_bound : (n : ℕ) → n < length routine.locals → sum_by (copy_bytes types) routine.header.params + result_bytes types routine.header.result + sum_by (even_size types) (take (n + 1) routine.locals) ≤ frame_of types routine
  own_bound n h = below (OwnVariable n) (bp_depth types routine) (sum_by (copy_bytes types) routine.header.params + result_bytes types routine.header.result + sum_by (even_size types) (take (n + 1) routine.locals)) (own_depth n h)

-- ---- from BP

from-high : (bp depth n : ℕ) → nat_le depth bp ≡ true → bp - depth ≡ n → from_bp bp depth ≡ pos n
unfolding from_bp
from-high bp depth n t e = ap (λ (t : Bool). if t then pos (bp - depth) else negsuc (depth - bp - 1)) t ∙ ap pos e

from-low : (bp depth n : ℕ) → nat_le depth bp ≡ false → depth - bp - 1 ≡ n → from_bp bp depth ≡ negsuc n
unfolding from_bp
from-low bp depth n t e = ap (λ (t : Bool). if t then pos (bp - depth) else negsuc (depth - bp - 1)) t ∙ ap negsuc e

-- what lies so much deeper than BP lies as much below it
lower : (bp n : ℕ) → from_bp 0 n ≡ from_bp bp (bp + n)
lower bp zero =
    let one : nat_le 0 0 ≡ true = grind (arith, nat_tests) in
    let other : nat_le (bp + 0) bp ≡ true = grind (arith, nat_tests) in
    from-high 0 0 0 one (omega arith) ∙ sym (from-high bp (bp + 0) 0 other (omega arith))
lower bp (suc n) =
    let one : nat_le (suc n) 0 ≡ false = grind (arith, nat_tests) in
    let other : nat_le (bp + suc n) bp ≡ false = grind (arith, nat_tests) in
    from-low 0 (suc n) n one (omega arith) ∙ sym (from-low bp (bp + suc n) n other (omega arith))

-- what ends so much above BP lies so much above it
higher : (depth n : ℕ) → pos n ≡ from_bp (depth + n) depth
higher depth n =
    let e : nat_le depth (depth + n) ≡ true = grind (arith, nat_tests) in
    sym (from-high (depth + n) depth n e (omega arith))

module _ (types : List TypeDef) (routine : Routine) where
  pub class_place : pos (return_bytes routine + static_bytes routine) ≡ part_at types routine ClassWord
  class_place =
      higher (depth_of types routine ClassWord) (return_bytes routine + static_bytes routine)
      ∙ ap (λ bp. from_bp bp (depth_of types routine ClassWord)) (class_depth types routine)

  pub copy_place : (n : ℕ) → n < length routine.header.params → from_bp 0 (sum_by (copy_bytes types) (take (n + 1) routine.header.params)) ≡ part_at types routine (CopyOf n)
  copy_place n h =
      lower (bp_depth types routine) (sum_by (copy_bytes types) (take (n + 1) routine.header.params))
      ∙ ap (from_bp (bp_depth types routine)) (sym (copy_depth types routine n h))

  pub result_place : from_bp 0 (sum_by (copy_bytes types) routine.header.params + result_bytes types routine.header.result) ≡ part_at types routine ResultValue
  result_place =
      lower (bp_depth types routine) (sum_by (copy_bytes types) routine.header.params + result_bytes types routine.header.result)
      ∙ ap (from_bp (bp_depth types routine)) (sym (result_depth types routine))

  pub own_place : (n : ℕ) → n < length routine.locals
      → from_bp 0 (sum_by (copy_bytes types) routine.header.params + result_bytes types routine.header.result + sum_by (even_size types) (take (n + 1) routine.locals)) ≡ part_at types routine (OwnVariable n)
  own_place n h =
      lower (bp_depth types routine) (sum_by (copy_bytes types) routine.header.params + result_bytes types routine.header.result + sum_by (even_size types) (take (n + 1) routine.locals))
      ∙ ap (from_bp (bp_depth types routine)) (sym (own_depth types routine n h))
