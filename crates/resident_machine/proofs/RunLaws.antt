-- Each event of the resident machine is one of the plain machine, and so are runs.
use Rattle.std.proofs.Common.{◌≡◌, ◌⊎◌, inl, inr, ℕ, zero, suc, ◌+◌, ◌-◌, ◌%◌, ◌<◌, Bool, true, false, List, [], ◌∷◌, ◌++◌, length, drop, get_or, Some, Ok, Err, refl, sym, ap, ◌∙◌, subst, arith, length-append, length-drop}
use Rattle.std.specs.Prelude.{◌&&◌, not, if◌then◌else◌, slice_index, slice_get, option_map}
use Rattle.std.proofs.lemmas.List.{get_or-drop, get_or_append_left}
use Rattle.x86_table.specs.declared.instr.Instr.{Instr}
use Rattle.x86_table.specs.Spelling.{spelling}
use Rattle.x86_table.proofs.Spellings.{spelling_unique}
use Rattle.cpu_8086.specs.declared.registers.Registers.{Registers}
use Rattle.cpu_8086.specs.Access.{on_memory}
use Rattle.cpu_8086.specs.Effect.{act}
use Rattle.cpu_8086.specs.Memory.{load_byte}
use Rattle.cpu_8086.specs.Process.{Process, after_step}
use Rattle.cpu_8086.specs.Run as plain
use Rattle.cpu_8086.specs.Step.{past, effect, fetched, code_byte}
use Rattle.cpu_8086.proofs.FetchLaws.{fetched_spells}
use Rattle.cpu_8086.proofs.RunLaws.{goes_by}
use Rattle.resident_machine.specs.Program.{Segment, Image, Overlay, OverlayCode, Program, code_of}
use Rattle.resident_machine.specs.Astray.{Astray, LeavesHalf, Uninstalls, and_then}
use Rattle.resident_machine.specs.Effect.{Outcome, plain_effect, is_near_call, made_whole, completed, is_zero, kept_installed, effect_of}
use Rattle.resident_machine.specs.Run.{StandsAt, Goes, IsAstray, Strays, Runs, RunsFramed}
use Rattle.resident_machine.specs.Standing.{number_of, words_of, with_half, HoldsMemory, StandsFor, status_of}
use Rattle.resident_machine.specs.State.{ResidentState, Running, Service}
use Rattle.resident_machine.proofs.CellLaws.{and_then_ok, unless_ok, if_ok, ok_same}
use Rattle.resident_machine.proofs.NearLaws.{near_stands}
use Rattle.resident_machine.proofs.TreeLaws.{tree_stands}

-- ## An effect that is not astray

unguarded : (p : Program) (r : ResidentState) (i : Instr) (w : ResidentState × Service) → effect_of p r i ≡ Ok w → (if r.half then completed p r i else plain_effect p r i) ≡ Ok w
unfolding effect_of
unguarded p r i w e =
    let o : Outcome = if r.half then completed p r i else plain_effect p r i in
    let parts = and_then_ok o (kept_installed p r) w e in
    let kept = if_ok (not (is_zero (r.cells p.installed)) && is_zero (parts.0.0.cells p.installed)) (Ok parts.0) Uninstalls w parts.2 in
    parts.1 ∙ kept

half_false : (b : Bool) (x y : Outcome) (w : ResidentState × Service) → b ≡ false → (if b then x else y) ≡ Ok w → y ≡ Ok w
half_false true x y w b e = absurd (cc)
half_false false x y w b e = e

half_true : (b : Bool) (x y : Outcome) (w : ResidentState × Service) → b ≡ true → (if b then x else y) ≡ Ok w → x ≡ Ok w
half_true true x y w b e = e
half_true false x y w b e = absurd (cc)

-- the effect on the plain machine, with the registers of the resident state
by_registers : (p : Program) (r : ResidentState) (q : Process) (i : Instr) (w : ResidentState × Service) → q.machine.registers ≡ r.registers → StandsFor p w.0 (after_step q (on_memory q.machine (act (past i r.registers) i) q.machine.memory).0 (on_memory q.machine (act (past i r.registers) i) q.machine.memory).1) → StandsFor p w.0 (after_step q (effect q.machine i).0 (effect q.machine i).1)
unfolding effect
by_registers p r q i w same h = subst (λ (g : Registers). StandsFor p w.0 (after_step q (on_memory q.machine (act (past i g) i) q.machine.memory).0 (on_memory q.machine (act (past i g) i) q.machine.memory).1)) (sym same) h

effect_stands : (p : Program) (none : p.overlays ≡ []) (r : ResidentState) (q : Process) (i : Instr) (w : ResidentState × Service) → StandsFor p r q → effect_of p r i ≡ Ok w → StandsFor p w.0 (after_step q (effect q.machine i).0 (effect q.machine i).1)
effect_stands p none r q i w s e = by_registers p r q i w s.registers (by r.half refl)
  where
    done : Type 0
    done = StandsFor p w.0 (after_step q (on_memory q.machine (act (past i r.registers) i) q.machine.memory).0 (on_memory q.machine (act (past i r.registers) i) q.machine.memory).1)

    by : (b : Bool) → r.half ≡ b → StandsFor p w.0 (after_step q (on_memory q.machine (act (past i r.registers) i) q.machine.memory).0 (on_memory q.machine (act (past i r.registers) i) q.machine.memory).1)
    by false h =
        let plainly = half_false r.half (completed p r i) (plain_effect p r i) w h (unguarded p r i w e) in
        let held = subst (λ b. HoldsMemory p r.registers.ss r.cells q.machine.memory (with_half b r.registers.sp (number_of r.cs) (words_of r.records))) h s.memory in
        tree_stands p none r q s h (act (past i r.registers) i) r.cells q.machine.memory w held plainly
    by true h =
        let done = half_true r.half (completed p r i) (plain_effect p r i) w h (unguarded p r i w e) in
        let near = unless_ok (is_near_call i) (and_then (plain_effect p r i) (made_whole r (past i r.registers).ip)) LeavesHalf w done in
        let parts = and_then_ok (plain_effect p r i) (made_whole r (past i r.registers).ip) w near.1 in
        near_stands p r q s h i parts.0 w near.0 parts.1 parts.2

-- ## The instruction that stands at CS:IP

code_inside : (n k : ℕ) (xs ys rest : List ℕ) → drop n xs ≡ ys ++ rest → k < length ys → (n + k < length xs) × (get_or xs (n + k) 0 ≡ get_or ys k 0)
code_inside n k xs ys rest e lt =
    let size : length xs - n ≡ length ys + length rest = sym (length-drop n xs) ∙ ap length e ∙ length-append ys rest in
    (omega arith, sym (get_or-drop n xs k 0) ∙ ap (λ zs. get_or zs k 0) e ∙ get_or_append_left ys rest 0 k lt)

same_byte : (p : Program) (r : ResidentState) (q : Process) (n k : ℕ) (code ys rest : List ℕ) → StandsFor p r q → r.cs ≡ Image n → p.image n ≡ Some code → drop r.registers.ip code ≡ ys ++ rest → k < length ys → code_byte q.machine k ≡ slice_index ys k
same_byte p r q n k code ys rest s cs named e lt =
    let inside = code_inside r.registers.ip k code ys rest e lt in
    let held = s.memory.code n code named in
    let size = held.size in
    let below = inside.0 in
    let byte = (held.bytes (r.registers.ip + k) inside.0).value in
    let straight : (r.registers.ip + k) % 65536 ≡ r.registers.ip + k = omega arith in
    let segment : q.machine.cs ≡ n = s.cs ∙ ap number_of cs in
    ap (λ (g : Registers). load_byte q.machine.memory q.machine.cs ((g.ip + k) % 65536)) s.registers
    ∙ ap (λ z. load_byte q.machine.memory z ((r.registers.ip + k) % 65536)) segment
    ∙ ap (load_byte q.machine.memory n) straight
    ∙ byte ∙ inside.1

fetched_image : (p : Program) (r : ResidentState) (q : Process) (i : Instr) (n : ℕ) (code rest : List ℕ) → StandsFor p r q → r.cs ≡ Image n → p.image n ≡ Some code → drop r.registers.ip code ≡ spelling i ++ rest → (more : List ℕ) × (fetched q.machine ≡ spelling i ++ more)
fetched_image p r q i n code rest s cs named e = fetched_spells q.machine i (λ k lt. same_byte p r q n k code (spelling i) rest s cs named e lt)

no_overlay : (os : List OverlayCode) (n : ℕ) (code : List ℕ) → os ≡ [] → option_map (λ (o : OverlayCode). o.code) (slice_get os n) ≡ Some code → ⊥
no_overlay [] n code none e = absurd (cc)
no_overlay (o ∷ os) n code none e = absurd (cc)

fetched_alike : (p : Program) (none : p.overlays ≡ []) (r : ResidentState) (q : Process) (i : Instr) → StandsFor p r q → StandsAt p r i → (more : List ℕ) × (fetched q.machine ≡ spelling i ++ more)
fetched_alike p none r q i s at = by r.cs refl
  where
    by : (cs : Segment) → r.cs ≡ cs → (more : List ℕ) × (fetched q.machine ≡ spelling i ++ more)
    by (Image n) cs = fetched_image p r q i n at.code at.rest s cs (sym (ap (code_of p) cs) ∙ at.named) at.spelled
    by (Overlay n) cs = absurd (no_overlay p.overlays n at.code none (sym (ap (code_of p) cs) ∙ at.named))

-- ## Events and runs

-- the plain machine goes on as well, to a process that stands for where the resident one came
pub goes_alike : (p : Program) (none : p.overlays ≡ []) (r t : ResidentState) (service : Service) (q : Process) → StandsFor p r q → Goes p r t service → (u : Process) × plain.Goes q u × StandsFor p t u
goes_alike p none r t service q s g =
    let i = g.instruction in
    let there = fetched_alike p none r q i s g.stands in (
      after_step q (effect q.machine i).0 (effect q.machine i).1,
      goes_by q i there.0 (s.status ∙ ap status_of g.running) there.1,
      effect_stands p none r q i (t, service) s g.result,
    )

pub runs_alike : (p : Program) (none : p.overlays ≡ []) (n : ℕ) (r t : ResidentState) (q : Process) → StandsFor p r q → Runs p n r t → (u : Process) × plain.Runs n q u × StandsFor p t u
runs_alike p none zero r t q s e = (q, refl, subst (λ z. StandsFor p z q) e s)
runs_alike p none (suc n) r t q s runs =
    let one = goes_alike p none r runs.0 runs.1 q s runs.2 in
    let more = runs_alike p none n runs.0 t one.0 one.2 runs.3 in
    (more.0, (one.0, one.1, more.1), more.2)

-- ## One outcome

same_instruction : (p : Program) (r : ResidentState) (i j : Instr) → StandsAt p r i → StandsAt p r j → i ≡ j
same_instruction p r i j x y =
    let named : Some x.code ≡ Some y.code = sym x.named ∙ y.named in
    let code : x.code ≡ y.code = cc in
    (spelling_unique i j x.rest y.rest (sym x.spelled ∙ ap (drop r.registers.ip) code ∙ y.spelled)).0

pub goes_once : (p : Program) (r t u : ResidentState) (a b : Service) → Goes p r t a → Goes p r u b → (t ≡ u) × (a ≡ b)
goes_once p r t u a b x y =
    let same = same_instruction p r x.instruction y.instruction x.stands y.stands in
    let both = sym x.result ∙ ap (effect_of p r) same ∙ y.result in
    let pair = ok_same (t, a) (u, b) both in
    (ap (λ (w : ResidentState × Service). w.0) pair, ap (λ (w : ResidentState × Service). w.1) pair)

pub astray_stops : (p : Program) (r t : ResidentState) (a : Service) → IsAstray p r → Goes p r t a → ⊥
astray_stops p r t a x g = by x.cause
  where
    by : ((i : Instr) → StandsAt p r i → ⊥) ⊎ ((way : Astray) × Strays p r way) → ⊥
    by (inl off) = off g.instruction g.stands
    by (inr way) =
        let y = way.1 in
        let same = same_instruction p r y.instruction g.instruction y.stands g.stands in
        let both : (let o : Outcome = Err way.0 in o ≡ Ok (t, a)) = sym y.result ∙ ap (effect_of p r) same ∙ g.result in
        absurd (cc)

-- a state that runs and neither goes on nor strays has no instruction at CS:IP
outcome_of : (p : Program) (r : ResidentState) (i : Instr) (o : Outcome) → r.status ≡ Running → StandsAt p r i → effect_of p r i ≡ o → ((t : ResidentState) (service : Service) → Goes p r t service → ⊥) → ((way : Astray) → Strays p r way → ⊥) → ⊥
outcome_of p r i (Ok w) running at e stops strays = stops w.0 w.1 (record { running = running; instruction = i; stands = at; result = e })
outcome_of p r i (Err way) running at e stops strays = strays way (record { instruction = i; stands = at; result = e })

pub goes_or_strays : (p : Program) (r : ResidentState) → r.status ≡ Running → ((t : ResidentState) (service : Service) → Goes p r t service → ⊥) → (IsAstray p r → ⊥) → ⊥
goes_or_strays p r running stops keeps =
    let strays : (way : Astray) → Strays p r way → ⊥ = λ way x. keeps (record { running = running; cause = inr (way, x) }) in
    keeps (record { running = running; cause = inl (λ i at. outcome_of p r i (effect_of p r i) running at refl stops strays) })

pub runs_once : (p : Program) (n : ℕ) (r t u : ResidentState) → Runs p n r t → Runs p n r u → t ≡ u
runs_once p zero r t u x y = sym x ∙ y
runs_once p (suc n) r t u x y =
    let same = (goes_once p r x.0 y.0 x.1 y.1 x.2 y.2).0 in
    runs_once p n y.0 t u (subst (λ z. Runs p n z t) same x.3) y.3

pub framed_runs : (p : Program) (n : ℕ) (r t : ResidentState) → RunsFramed p n r t → Runs p n r t
framed_runs p zero r t e = e
framed_runs p (suc n) r t x = (x.0, x.1, x.2, framed_runs p n x.0 t x.4)

pub runs_compose : (p : Program) (m n : ℕ) (r t u : ResidentState) → Runs p m r t → Runs p n t u → Runs p (m + n) r u
runs_compose p zero n r t u x y =
    let e : n ≡ 0 + n = omega arith in
    subst (λ k. Runs p k r u) e (subst (λ z. Runs p n z u) (sym x) y)
runs_compose p (suc m) n r t u x y =
    let e : suc (m + n) ≡ suc m + n = omega arith in
    subst (λ k. Runs p k r u) e (x.0, x.1, x.2, runs_compose p m n x.0 t u x.3 y)
