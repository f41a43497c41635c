-- Where a step led, and where it led in the program without overlays: the same bytes are kept, and the same flag is there.
use Rattle.std.proofs.Common.{◌≡◌, ◌≢◌, ℕ, zero, suc, ◌<◌, ◌==◌, Bool, true, false, List, refl, sym, ap, ◌∙◌, arith, ne_eqb}
use Rattle.std.specs.Prelude.{if◌then◌else◌}
use Rattle.resident_machine.specs.Program.{Program}
use Rattle.resident_machine.specs.Cells.{Kept, Cells, below, is_below, lost_if, with_lost}
use Rattle.resident_machine.specs.Effect.{blurred, refused}
use Rattle.resident_machine.specs.Framed.{IsFramed}
use Rattle.resident_machine.specs.State.{ResidentState, Service, NoService, AtCall, AtReturn, AtClear}
use Rattle.resident_machine.proofs.CellLaws.{with_lost-kept}
use Rattle.return_repair.specs.declared.table.Loaded.{Loaded}
use Rattle.overlay_simulation.proofs.MirrorLaws.{Leads}

-- a byte that isn't lost
not_below : (n segment offset place : ℕ) → ((k : ℕ) → k < n → below segment offset k ≢ place) → is_below n segment offset place ≡ false
not_below zero segment offset place apart = refl
not_below (suc n) segment offset place apart =
    let here = apart n (omega arith) in
    let first = ne_eqb place (below segment offset n) (λ same. here (sym same)) in
    let rest = not_below n segment offset place (λ k lt. apart k (omega arith)) in
    rw (first, rest) refl

pub spared : (segment offset : ℕ) (cells : Cells) (place : ℕ) → ((k : ℕ) → k < 64 → below segment offset k ≢ place) → with_lost segment offset cells place ≡ cells place
unfolding with_lost
spared segment offset cells place apart = ap (λ (b : Bool). lost_if b (cells place)) (not_below 64 segment offset place apart)

-- the cells behind a call through a stub
pub called_cells : (p : Program) (t through : ResidentState) (b : Bool) → t ≡ blurred (if b then refused p through else through) → t.cells ≡ with_lost through.registers.ss through.registers.sp through.cells
called_cells p t through true e = ap (λ (z : ResidentState). z.cells) e
called_cells p t through false e = ap (λ (z : ResidentState). z.cells) e

called_stack : (p : Program) (t through : ResidentState) (b : Bool) → t ≡ blurred (if b then refused p through else through) → (t.registers.ss ≡ through.registers.ss) × (t.registers.sp ≡ through.registers.sp)
called_stack p t through true e = (ap (λ (z : ResidentState). z.registers.ss) e, ap (λ (z : ResidentState). z.registers.sp) e)
called_stack p t through false e = (ap (λ (z : ResidentState). z.registers.ss) e, ap (λ (z : ResidentState). z.registers.sp) e)

-- what is kept there is kept
pub leads_keep : (p : Program) (table : List Loaded) (met : ℕ → Bool) (r t there : ResidentState) (service : Service) → Leads p table met r service t there → (place : ℕ) → there.cells place ≡ Kept → t.cells place ≡ Kept
leads_keep p table met r t there NoService h place kept = sym (ap (λ (z : ResidentState). z.cells place) h.state) ∙ kept
leads_keep p table met r t there AtClear h place kept = sym (ap (λ (z : ResidentState). z.cells place) h.mirrors.state) ∙ kept
leads_keep p table met r t there AtReturn h place kept =
    ap (λ (z : ResidentState). z.cells place) h.left
    ∙ with_lost-kept h.back.registers.ss h.back.registers.sp h.back.cells place (sym (ap (λ (z : ResidentState). z.cells place) h.state) ∙ kept)
leads_keep p table met r t there AtCall h place kept =
    ap (λ (c : Cells). c place) (called_cells p t h.through (h.flag == 0) h.left)
    ∙ with_lost-kept h.through.registers.ss h.through.registers.sp h.through.cells place (sym (ap (λ (z : ResidentState). z.cells place) h.state) ∙ kept)

-- In a framed state the installed flag is not among the bytes that were lost.
abbrev IsSpared : Program → ResidentState → Type 0
IsSpared p t = (k : ℕ) → k < 64 → below t.registers.ss t.registers.sp k ≢ p.installed

pub framed_spares : (p : Program) (pending : Bool) (t : ResidentState) → IsFramed p pending t → IsSpared p t
framed_spares p pending t f k lt = (f.spare k lt).flag

pub plain_flag : (p : Program) (table : List Loaded) (met : ℕ → Bool) (r t there : ResidentState) → Leads p table met r NoService t there → there.cells p.installed ≡ t.cells p.installed
plain_flag p table met r t there h = ap (λ (z : ResidentState). z.cells p.installed) h.state

pub clear_flag : (p : Program) (table : List Loaded) (met : ℕ → Bool) (r t there : ResidentState) → Leads p table met r AtClear t there → there.cells p.installed ≡ t.cells p.installed
clear_flag p table met r t there h = ap (λ (z : ResidentState). z.cells p.installed) h.mirrors.state

pub return_flag : (p : Program) (table : List Loaded) (met : ℕ → Bool) (r t there : ResidentState) → IsSpared p t → Leads p table met r AtReturn t there → there.cells p.installed ≡ t.cells p.installed
return_flag p table met r t there spare h =
    let ss = ap (λ (z : ResidentState). z.registers.ss) h.left in
    let sp = ap (λ (z : ResidentState). z.registers.sp) h.left in
    ap (λ (z : ResidentState). z.cells p.installed) h.state
    ∙ sym (spared h.back.registers.ss h.back.registers.sp h.back.cells p.installed (λ k lt same. spare k lt (ap (λ (n : ℕ). below n t.registers.sp k) ss ∙ ap (λ (n : ℕ). below h.back.registers.ss n k) sp ∙ same)))
    ∙ sym (ap (λ (z : ResidentState). z.cells p.installed) h.left)

pub call_flag : (p : Program) (table : List Loaded) (met : ℕ → Bool) (r t there : ResidentState) → IsSpared p t → Leads p table met r AtCall t there → there.cells p.installed ≡ t.cells p.installed
call_flag p table met r t there spare h =
    let stack = called_stack p t h.through (h.flag == 0) h.left in
    ap (λ (z : ResidentState). z.cells p.installed) h.state
    ∙ sym (spared h.through.registers.ss h.through.registers.sp h.through.cells p.installed (λ k lt same. spare k lt (ap (λ (n : ℕ). below n t.registers.sp k) stack.0 ∙ ap (λ (n : ℕ). below h.through.registers.ss n k) stack.1 ∙ same)))
    ∙ sym (ap (λ (c : Cells). c p.installed) (called_cells p t h.through (h.flag == 0) h.left))
