-- Lines that stand filled in are the lines for these addresses, where the labels of the unit's routines lead to these.
use Rattle.std.proofs.Common.{arith, ◌≡◌, ℕ, suc, ◌+◌, ◌-◌, ◌<◌, ◌≤◌, Bool, true, false, List, [], ◌∷◌, length, map, take, Option, Some, None, refl, sym, ap, subst, ◌∙◌, inl, inr}
use Rattle.std.specs.Prelude.{if◌then◌else◌, nat_lt}
use Rattle.x86_table.specs.declared.instr.Cond.{Cond}
use Rattle.x86_table.specs.declared.instr.Cond.TheVariants as cond
use Rattle.x86_table.specs.declared.instr.Instr.{Instr}
use Rattle.x86_table.specs.declared.instr.Instr.TheVariants as instr
use Rattle.x86_table.specs.declared.line.Line.{Line}
use Rattle.x86_table.specs.declared.line.Line.TheVariants.{One, Label, JumpShort, JumpNear, CallNear}
use Rattle.x86_table.specs.Lines.{line_size, code_size, byte_distance, word_distance}
use Rattle.x86_table.specs.Spelling.{word_bytes, spelling}
use Rattle.x86_table.specs.Standing.{LineIs, LineStands, Stands}
use Rattle.code_templates.specs.code_lines.Addresses.{Context}
use Rattle.code_templates.specs.declared.code_references.marks.MarkedLine.{MarkedLine}
use Rattle.code_templates.specs.declared.code_references.marks.Target.{Target}
use Rattle.code_templates.specs.declared.code_references.marks.Target.TheVariants as to
use Rattle.code_templates.specs.code_references.Marks.{placed_own, placed_by, placed_line, lines_of}
use Rattle.codegen_8086.proofs.object_code.Good.{IsGood, AllGood}
use Rattle.codegen_8086.proofs.object_code.Fills.{near_of, fill_line, fills}

-- ---- offsets of lines, and behind them those of the unit's routines

-- the lines end with number n
abbrev pub offsets : (ℕ → ℕ) → (ℕ → ℕ) → ℕ → ℕ → ℕ
offsets at near n k = if nat_lt n k then near (k - (n + 1)) else at k

abbrev pub labels_of : (ℕ → ℕ) → ℕ → ℕ → ℕ → ℕ
labels_of lines k n l = if nat_lt l k then n + 1 + l else lines l

-- the same for all lines, and for the labels of the lines
pub record Extends (at lines near : ℕ → ℕ) (n k : ℕ) (high : ℕ → ℕ) (labels : ℕ → ℕ) : Type 0 where
  pub same : (j : ℕ) → j ≤ n → high j ≡ at j
  pub kept : (l : ℕ) → k ≤ l → labels l ≡ lines l
  pub leads : (l : ℕ) → l < k → high (labels l) ≡ near l

chosen : {A : Type 0} (b : Bool) (x y : A) → b ≡ true → (if b then x else y) ≡ x
chosen true x y h = refl
chosen false x y h = cc h

passed : {A : Type 0} (b : Bool) (x y : A) → b ≡ false → (if b then x else y) ≡ y
passed true x y h = cc h
passed false x y h = refl

below : (a b : ℕ) → a < b → nat_lt a b ≡ true
below a b h = grind (arith, h)

above : (a b : ℕ) → b ≤ a → nat_lt a b ≡ false
above a b h = grind (arith, h)

pub extended : (at lines near : ℕ → ℕ) (n k : ℕ) → Extends at lines near n k (offsets at near n) (labels_of lines k n)
extended at lines near n k =
    record {
      same = λ j h. passed (nat_lt n j) (near (j - (n + 1))) (at j) (above n j h);
      kept = λ l h. passed (nat_lt l k) (n + 1 + l) (lines l) (above l k h);
      leads = λ l h.
          let e : labels_of lines k n l ≡ n + 1 + l = chosen (nat_lt l k) (n + 1 + l) (lines l) (below l k h) in
          let f : n < n + 1 + l = omega arith in
          let g : n + 1 + l - (n + 1) ≡ l = omega arith in
          ap (offsets at near n) e ∙ chosen (nat_lt n (n + 1 + l)) (near (n + 1 + l - (n + 1))) (at (n + 1 + l)) (below n (n + 1 + l) f) ∙ ap near g;
    }

either_way : (P : ℕ → Type 0) (b : Bool) (x y : ℕ) → P x → P y → P (if b then x else y)
either_way P true x y h g = h
either_way P false x y h g = g

-- each is that of a line, or of a routine
pub offsets_each : (P : ℕ → Type 0) (at near : ℕ → ℕ) (n k : ℕ) → ((j : ℕ) → P (at j)) → ((number : ℕ) → P (near number)) → P (offsets at near n k)
offsets_each P at near n k of_lines of_routines = either_way P (nat_lt n k) (near (k - (n + 1))) (at k) (of_routines (k - (n + 1))) (of_lines k)

-- ---- one line

call_size : (d : ℕ) → length (spelling (instr.CallNear d)) ≡ 3
unfolding word_bytes
call_size d = refl

own_call : (number : ℕ) (i : Instr) → i ≡ instr.CallNear 0 → placed_own number i ≡ CallNear number
own_call number i e = ap (placed_own number) e

one_stands : (stands : ℕ → Instr → Type 0) (at high : ℕ → ℕ) (j : ℕ) (i : Instr) (size : ℕ) → high j ≡ at j → high (j + 1) ≡ at (j + 1) → stands (at j) i × (at (j + 1) ≡ at j + size) → stands (high j) i × (high (j + 1) ≡ high j + size)
one_stands stands at high j i size e f s = (subst (λ o. stands o i) (sym e) s.0, f ∙ s.1 ∙ ap (λ o. o + size) (sym e))

short_stands : (stands : ℕ → Instr → Type 0) (at high lines labels : ℕ → ℕ) (j : ℕ) (c : Cond) (l : ℕ) → high j ≡ at j → high (j + 1) ≡ at (j + 1) → high (labels l) ≡ at (lines l) → LineIs stands at lines j (JumpShort c l) → LineIs stands high labels j (JumpShort c l)
short_stands stands at high lines labels j c l e f g s =
    let d : byte_distance (high (j + 1)) (high (labels l)) ≡ byte_distance (at (j + 1)) (at (lines l)) = ap (λ n. byte_distance n (high (labels l))) f ∙ ap (byte_distance (at (j + 1))) g in
    let one = subst (λ n. stands (high j) (instr.JumpShort c n)) (sym d) (subst (λ o. stands o (instr.JumpShort c (byte_distance (at (j + 1)) (at (lines l))))) (sym e) s.0) in
    let reach0 = s.1.0 in
    let reach1 = s.1.1 in
    let end = s.2 in
    (one, (omega (arith, f, g, reach0), omega (arith, f, g, reach1)), omega (arith, e, f, end))

near_stands : (stands : ℕ → Instr → Type 0) (at high lines labels : ℕ → ℕ) (j : ℕ) (l : ℕ) → high j ≡ at j → high (j + 1) ≡ at (j + 1) → high (labels l) ≡ at (lines l) → LineIs stands at lines j (JumpNear l) → LineIs stands high labels j (JumpNear l)
near_stands stands at high lines labels j l e f g s =
    let d : word_distance (high (j + 1)) (high (labels l)) ≡ word_distance (at (j + 1)) (at (lines l)) = ap (λ n. word_distance n (high (labels l))) f ∙ ap (word_distance (at (j + 1))) g in
    let one = subst (λ n. stands (high j) (instr.JumpNear n)) (sym d) (subst (λ o. stands o (instr.JumpNear (word_distance (at (j + 1)) (at (lines l))))) (sym e) s.0) in
    let end = s.1 in
    (one, omega (arith, e, f, end))

jump_stands : (stands : ℕ → Instr → Type 0) (at high lines labels : ℕ → ℕ) (j : ℕ) (l : ℕ) → high j ≡ at j → high (j + 1) ≡ at (j + 1) → high (labels l) ≡ at (lines l) → LineStands stands at lines j (JumpNear l) → LineStands stands high labels j (JumpNear l)
jump_stands stands at high lines labels j l e f g (inl s) = inl (near_stands stands at high lines labels j l e f g s)
jump_stands stands at high lines labels j l e f g (inr s) = inr (short_stands stands at high lines labels j cond.Always l e f g s)

call_stands : (stands : ℕ → Instr → Type 0) (at high labels : ℕ → ℕ) (j q number target : ℕ) → high j ≡ at j → high (j + 1) ≡ at (j + 1) → at j ≡ q → high (labels number) ≡ target
    → stands (at j) (instr.CallNear (word_distance (q + 3) target)) × (at (j + 1) ≡ at j + length (spelling (instr.CallNear (word_distance (q + 3) target))))
    → LineIs stands high labels j (CallNear number)
call_stands stands at high labels j q number target e f here g s =
    let size = call_size (word_distance (q + 3) target) in
    let end = s.1 in
    let next : high (j + 1) ≡ q + 3 = omega (arith, f, end, size, here) in
    let d : word_distance (high (j + 1)) (high (labels number)) ≡ word_distance (q + 3) target = ap (λ n. word_distance n (high (labels number))) next ∙ ap (word_distance (q + 3)) g in
    (subst (λ n. stands (high j) (instr.CallNear n)) (sym d) (subst (λ o. stands o (instr.CallNear (word_distance (q + 3) target))) (sym e) s.0), omega (arith, e, next, here))

line_stood : (stands : ℕ → Instr → Type 0) (x : Context) (at lines : ℕ → ℕ) (n k : ℕ) (high labels : ℕ → ℕ) (j q : ℕ) (t : Option Target) (l : Line)
    → Extends at lines (near_of x) n k high labels → ((m : ℕ) → lines m ≤ n) → j < n → at j ≡ q → IsGood k t l
    → LineStands stands at lines j (fill_line x q t l) → LineStands stands high labels j (placed_by x t l)
line_stood stands x at lines n k high labels j q None (One i) ext within h here g s = one_stands stands at high j i (length (spelling i)) (ext.same j (omega (arith, h))) (ext.same (j + 1) (omega (arith, h))) s
line_stood stands x at lines n k high labels j q None (Label l) ext within h here g s =
    (ext.kept l g ∙ s.0, ext.same (j + 1) (omega (arith, h)) ∙ s.1 ∙ sym (ext.same j (omega (arith, h))))
line_stood stands x at lines n k high labels j q None (JumpShort c l) ext within h here g s =
    let to_it : high (labels l) ≡ at (lines l) = ap high (ext.kept l g) ∙ ext.same (lines l) (within l) in
    short_stands stands at high lines labels j c l (ext.same j (omega (arith, h))) (ext.same (j + 1) (omega (arith, h))) to_it s
line_stood stands x at lines n k high labels j q None (JumpNear l) ext within h here g s =
    let to_it : high (labels l) ≡ at (lines l) = ap high (ext.kept l g) ∙ ext.same (lines l) (within l) in
    jump_stands stands at high lines labels j l (ext.same j (omega (arith, h))) (ext.same (j + 1) (omega (arith, h))) to_it s
line_stood stands x at lines n k high labels j q None (CallNear l) ext within h here g s = absurd g
line_stood stands x at lines n k high labels j q (Some (to.Datum unit number)) (One i) ext within h here g s = one_stands stands at high j _ _ (ext.same j (omega (arith, h))) (ext.same (j + 1) (omega (arith, h))) s
line_stood stands x at lines n k high labels j q (Some (to.Table unit number)) (One i) ext within h here g s = one_stands stands at high j _ _ (ext.same j (omega (arith, h))) (ext.same (j + 1) (omega (arith, h))) s
line_stood stands x at lines n k high labels j q (Some (to.Routine unit number)) (One i) ext within h here g s = one_stands stands at high j _ _ (ext.same j (omega (arith, h))) (ext.same (j + 1) (omega (arith, h))) s
line_stood stands x at lines n k high labels j q (Some (to.OwnRoutine number)) (One i) ext within h here g s =
    subst (λ z. LineStands stands high labels j z) (sym (own_call number i g.1))
    (call_stands stands at high labels j q number (near_of x number) (ext.same j (omega (arith, h))) (ext.same (j + 1) (omega (arith, h))) here (ext.leads number g.0) s)
line_stood stands x at lines n k high labels j q (Some (to.Runtime number)) (One i) ext within h here g s = one_stands stands at high j _ _ (ext.same j (omega (arith, h))) (ext.same (j + 1) (omega (arith, h))) s
line_stood stands x at lines n k high labels j q (Some to.ErrorRoutine) (One i) ext within h here g s = one_stands stands at high j _ _ (ext.same j (omega (arith, h))) (ext.same (j + 1) (omega (arith, h))) s
line_stood stands x at lines n k high labels j q (Some to.ClearRoutine) (One i) ext within h here g s = one_stands stands at high j _ _ (ext.same j (omega (arith, h))) (ext.same (j + 1) (omega (arith, h))) s
line_stood stands x at lines n k high labels j q (Some to.FlagRoutine) (One i) ext within h here g s = one_stands stands at high j _ _ (ext.same j (omega (arith, h))) (ext.same (j + 1) (omega (arith, h))) s
line_stood stands x at lines n k high labels j q (Some t) (Label l) ext within h here g s = absurd g
line_stood stands x at lines n k high labels j q (Some t) (JumpShort c l) ext within h here g s = absurd g
line_stood stands x at lines n k high labels j q (Some t) (JumpNear l) ext within h here g s = absurd g
line_stood stands x at lines n k high labels j q (Some t) (CallNear l) ext within h here g s = absurd g

-- ---- all lines

pub lines_stood : (stands : ℕ → Instr → Type 0) (x : Context) (at lines : ℕ → ℕ) (n k : ℕ) (high labels : ℕ → ℕ) (j q : ℕ) (ms : List MarkedLine) (ys : List Line)
    → Extends at lines (near_of x) n k high labels → ((m : ℕ) → lines m ≤ n) → j + length ms ≤ n → length ys ≡ length ms
    → ((i : ℕ) → at (j + i) ≡ q + code_size (take i ys)) → AllGood k ms
    → Stands stands at lines j (fills x q ms ys (lines_of ms)) → Stands stands high labels j (map (placed_line x) ms)
lines_stood stands x at lines n k high labels j q [] ys ext within h count here g s = tt
lines_stood stands x at lines n k high labels j q (m ∷ ms) [] ext within h count here g s = absurd (omega (arith, count))
lines_stood stands x at lines n k high labels j q (m ∷ ms) (y ∷ ys) ext within h count here g s =
    let e : j ≡ j + 0 = omega arith in
    let now : at j ≡ q = ap at e ∙ here 0 ∙ (omega arith) in (
      line_stood stands x at lines n k high labels j q m.target m.line ext within (omega (arith, h)) now g.0 s.0,
      lines_stood stands x at lines n k high labels (j + 1) (q + line_size y) ms ys ext within (omega (arith, h)) (omega (arith, count))
          (λ i.
          let f : j + 1 + i ≡ j + suc i = omega arith in
          ap at f ∙ here (suc i) ∙ (omega arith))
          g.1 s.1,
    )
