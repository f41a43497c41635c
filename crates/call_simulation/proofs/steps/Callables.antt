-- Routines that a statement can call: of its own unit, near or far, and far ones of the image.
use Rattle.std.proofs.Common.{◌≡◌, ℕ, ◌+◌, ◌≤◌, Bool, true, false, not, List, length, Some, arith, refl, sym, ap, subst, ◌∙◌, ◌%◌}
use Rattle.std.specs.Prelude.{IsTrue, ◌&&◌, slice_get}
use Rattle.x86_table.specs.Standing.{IsSpelledAt, Stands}
use Rattle.flat_code.specs.declared.memory.Place.{Place}
use Rattle.flat_code.specs.Calls.{State}
use Rattle.flat_code.specs.Program.{Key, Routine, UnitCode}
use Rattle.resident_machine.specs.Program.{Segment, Image}
use Rattle.resident_machine.specs.State.{ResidentState}
use Rattle.effect_simulation.specs.effects.Pushed.{Pushes}
use Rattle.code_templates.specs.code_lines.Lines.{call_far, call_own, framed_lines}
use Rattle.statement_simulation.specs.flow.Sites.{World, Site, Live, Fits, Represents}
use Rattle.statement_simulation.specs.flow.Outcomes.{EndsErrors}
use Rattle.call_simulation.specs.frames.Callee.{Back}
use Rattle.call_simulation.specs.frames.Chain.{IsChained}
use Rattle.call_simulation.specs.calls.Enters.{EntersAt, Reaches}
use Rattle.call_simulation.proofs.calls.Instructions.{near_reached, own_reached, far_reached}
use Rattle.call_simulation.specs.steps.Made.{Made, HasStack, BodyFlows}
use Rattle.call_simulation.specs.steps.Callable.{Callable}

-- at most so many events and more
reaches_more : (w : World) (live : Live) (far : Bool) (back : Back) (to : Segment) (m n ip : ℕ) (vs : List ℕ) (r : ResidentState) → m ≤ n → Reaches w live far back to m ip vs r → Reaches w live far back to n ip vs r
reaches_more w live far back to m n ip vs r less x =
    let few = x.few in
    record { count = x.count; few = omega arith; end = x.end; leads = x.leads; here = x.here; entered = x.entered }

never : (x y : Bool) → (x ≡ true → y ≡ true) → (x && not y) ≡ true → ⊥
never true true h e = absurd (cc)
never true false h e = let z = h refl in absurd (cc)
never false y h e = absurd (cc)

module _ (w : World) (site : Site) (live : Live) (fits : Fits w site live) (key : Key) (callee : Site) (unit : UnitCode) (r : Routine) (pointer bound most : ℕ) (has_unit : Some unit ≡ w.program.unit key.unit) (has_routine : Some r ≡ slice_get unit.routines key.number) (made : Made w callee key.unit unit r pointer) (ends : EndsErrors w live callee.context.addresses.error_routine) (even : IsTrue w.framed → r.locals % 2 ≡ 0) (stack : HasStack w live.frame r) (short : length (framed_lines callee.context pointer r) ≤ most) (body : (k : ℕ) → BodyFlows w callee key.unit unit r pointer live (record { segment = site.segment; offset = site.at k }) bound) where
  -- a routine of the same unit, whose overlays are installed where its code runs
  pub own_callable : (number : ℕ) → callee.segment ≡ site.segment → site.at (site.labels number) ≡ callee.at 0 → (w.program.overlaid key.unit ≡ true → w.program.overlaid live.frame.unit ≡ true) → Callable w site live key (call_own r.far number) bound most
  own_callable number same entry own = record {
    site = callee;
    unit = unit;
    routine = r;
    pointer = pointer;
    has_unit = has_unit;
    has_routine = has_routine;
    made = made;
    ends = ends;
    near = λ e. sym same;
    even = even;
    stack = stack;
    reaches = λ s t n k vs a admitted b room stands. by r.far s t n k vs a b room stands;
    refused = λ around s t n k m left ip vs a turns b room stands some paid e. absurd (never (w.program.overlaid key.unit) s.flag (λ z. a.set (own z)) e);
    body = body;
    short = short;
  }
    where
      To : Bool → ResidentState → ℕ → ℕ → List ℕ → Segment → ℕ → Type 0
      To far t n k vs to ip = Reaches w live far (record { segment = site.segment; offset = site.at (k + length (call_own far number)) }) to (n + 2) ip vs t

      there : (far : Bool) (t : ResidentState) (n k : ℕ) (vs : List ℕ) → To far t n k vs site.segment (site.at (site.labels number)) → To far t n k vs callee.segment (callee.at 0)
      there far t n k vs x = subst (λ to. To far t n k vs to (callee.at 0)) (sym same) (subst (λ ip. To far t n k vs site.segment ip) entry x)

      by : (far : Bool) (s : State) (t : ResidentState) (n k : ℕ) (vs : List ℕ) → Represents w live s t → (b : Pushes w.machine w.framed site.segment n (site.at k) t vs) → 68 ≤ b.registers.sp → Stands (IsSpelledAt site.code) site.at site.labels k (call_own far number) → To far t n k vs callee.segment (callee.at 0)
      by true s t n k vs a b room stands =
          let two : k + 1 + 1 ≡ k + 2 = omega arith in
          there true t n k vs (subst (λ j. Reaches w live true (record { segment = site.segment; offset = site.at j }) site.segment (n + 2) (site.at (site.labels number)) vs t) two (own_reached w site live fits s t a n k vs b number (omega arith) stands))
      by false s t n k vs a b room stands =
          there false t n k vs (reaches_more w live false (record { segment = site.segment; offset = site.at (k + 1) }) site.segment (n + 1) (n + 2) (site.at (site.labels number)) vs t (omega arith) (near_reached w site live fits s t a n k vs b number (omega arith) stands))

  -- a far routine of the image
  pub far_callable : (place : Place) (number : ℕ) → r.far ≡ true → callee.segment ≡ Image number → EntersAt w.machine place (Image number) (callee.at 0) → w.program.overlaid key.unit ≡ false → (IsTrue w.framed → IsChained w live) → Callable w site live key (call_far place) bound most
  far_callable place number far in_image enters resident chained = record {
    site = callee;
    unit = unit;
    routine = r;
    pointer = pointer;
    has_unit = has_unit;
    has_routine = has_routine;
    made = made;
    ends = ends;
    near = λ e. let z = sym far ∙ e in absurd (cc);
    even = even;
    stack = stack;
    reaches = λ s t n k vs a admitted b room stands.
        let x = reaches_more w live true (record { segment = site.segment; offset = site.at (k + 1) }) (Image number) (n + 1) (n + 2) (callee.at 0) vs t (omega arith) (far_reached w site live fits s t a n k vs b place (Image number) (callee.at 0) chained room enters tt stands) in
        subst (λ z. Reaches w live z (record { segment = site.segment; offset = site.at (k + 1) }) callee.segment (n + 2) (callee.at 0) vs t) (sym far)
        (subst (λ to. Reaches w live true (record { segment = site.segment; offset = site.at (k + 1) }) to (n + 2) (callee.at 0) vs t) (sym in_image) x);
    refused = λ around s t n k m left ip vs a turns b room stands some paid e. let z = sym (ap (λ (x : Bool). x && not s.flag) resident) ∙ e in absurd (cc);
    body = body;
    short = short;
  }
