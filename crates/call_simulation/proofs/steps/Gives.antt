-- A result that lies in registers goes to where the call wants it.
use Rattle.std.proofs.Common.{◌≡◌, ℕ, ◌+◌, ◌*◌, ◌/◌, ◌%◌, ◌<◌, ◌≤◌, ◌==◌, Bool, true, false, List, [], ◌∷◌, ◌++◌, length, Option, Some, None, arith, refl, sym, ap, subst, ◌∙◌, ⊎_elim, eqb-true}
use Rattle.std.specs.Prelude.{if◌then◌else◌}
use Rattle.common_values.specs.behaviour.Seen.{Undefined}
use Rattle.x86_table.specs.Standing.{IsSpelledAt, Stands}
use Rattle.flat_code.specs.declared.tree.FlatResult.{FlatResult}
use Rattle.flat_code.specs.Calls.{State, Over, with_found, set_cells, stored_at, give}
use Rattle.flat_code.specs.Legal.{HasResultSize}
use Rattle.flat_code.specs.Memory.{word_bytes}
use Rattle.resident_machine.specs.State.{ResidentState}
use Rattle.resident_machine.specs.machine_lines.Straight.{ones}
use Rattle.code_templates.specs.code_lines.Addresses.{Context}
use Rattle.code_templates.specs.code_lines.Lines.{Around, taken, taken_by}
use Rattle.statement_simulation.specs.flow.Sites.{World, Site, Live, Fits}
use Rattle.statement_simulation.specs.flow.Outcomes.{budget, Arrives, Flows}
use Rattle.statement_simulation.proofs.flow.Flows.{arrives_at, settles_here, settles_on}
use Rattle.effect_simulation.proofs.effects.Results.{takes_flow}
use Rattle.effect_simulation.proofs.effects.Taken.{TakesTo, byte_taken, word_taken, two_taken}
use Rattle.call_simulation.specs.frames.Callee.{HoldsResult}

low_of : (a v : ℕ) → v % 256 ≡ a → (v % 256) ∷ [] ≡ a ∷ []
low_of a v e = ap (λ n. n ∷ []) e

word_of : (a b v : ℕ) → v ≡ a + 256 * b → a < 256 → b < 256 → word_bytes v ≡ a ∷ b ∷ []
word_of a b v e x y =
    let low : v % 256 ≡ a = omega arith in
    let high : v / 256 % 256 ≡ b = omega arith in
    ap (λ n. n ∷ v / 256 % 256 ∷ []) low ∙ ap (λ n. a ∷ n ∷ []) high

module _ (w : World) (site : Site) (live : Live) (fits : Fits w site live) where
  abbrev x : Context
  x = site.context

  result_flows : (around : Around) (j : ℕ) (s : State) (r : ResidentState) (u : State) (result : FlatResult) (bytes : List ℕ) (a : Arrives w site live (site.at j) s r u) → HasResultSize (Some result) → HoldsResult bytes a.end.registers → 64 ≤ live.frame.sp → a.count + length (taken_by result.bytes x result.at) + budget w s.work ≤ budget w u.work → length bytes ≡ result.bytes → Stands (IsSpelledAt site.code) site.at site.labels j (ones (taken_by result.bytes x result.at)) → Flows w site live around (site.at (j + length (taken_by result.bytes x result.at))) s r (with_found (stored_at w.choice live.frame u.cells result.at bytes) u (set_cells u))
  result_flows around j s r u result bytes a sized holds room paid same stands = ⊎_elim (λ one. by_one (sym one)) (λ more. ⊎_elim (λ two. by_two (sym two)) (λ four. by_four (sym four)) more) sized
    where
      Goal : ℕ → Type 0
      Goal n = length bytes ≡ n → a.count + length (taken_by n x result.at) + budget w s.work ≤ budget w u.work → Stands (IsSpelledAt site.code) site.at site.labels j (ones (taken_by n x result.at)) → Flows w site live around (site.at (j + length (taken_by n x result.at))) s r (with_found (stored_at w.choice live.frame u.cells result.at bytes) u (set_cells u))

      at_sp : 64 ≤ a.end.registers.sp
      at_sp = let sp = a.stands.sp in omega arith

      from : (n : ℕ) (bs : List ℕ) → bs ≡ bytes → a.count + length (taken_by n x result.at) + budget w s.work ≤ budget w u.work → TakesTo w.machine w.framed site.segment (length (taken_by n x result.at)) (site.at (j + length (taken_by n x result.at))) w.choice live.frame u.cells a.end (stored_at w.choice live.frame u.cells result.at bs) → Flows w site live around (site.at (j + length (taken_by n x result.at))) s r (with_found (stored_at w.choice live.frame u.cells result.at bytes) u (set_cells u))
      from n bs e paid t =
          takes_flow w site live fits around (site.at j) (site.at (j + length (taken_by n x result.at))) (length (taken_by n x result.at)) s r u a paid (stored_at w.choice live.frame u.cells result.at bytes)
          (subst (λ z. TakesTo w.machine w.framed site.segment (length (taken_by n x result.at)) (site.at (j + length (taken_by n x result.at))) w.choice live.frame u.cells a.end (stored_at w.choice live.frame u.cells result.at z)) e t)

      one_of : (bs : List ℕ) → bs ≡ bytes → length bs ≡ 1 → HoldsResult bs a.end.registers → Goal 1
      one_of [] e n h many paid stands = absurd (omega (arith, n))
      one_of (b ∷ []) e n h many paid stands =
          from 1 ((a.end.registers.ax % 256) ∷ []) (low_of b a.end.registers.ax h ∙ e) paid
          (byte_taken w.machine w.framed site.segment site.code site.at site.labels fits.placed x w.choice live.frame u.cells fits.suits result.at j a.end.registers.ax a.end refl a.here a.stands.active at_sp stands)
      one_of (b ∷ d ∷ bs) e n h many paid stands = absurd (omega (arith, n))

      two_of : (bs : List ℕ) → bs ≡ bytes → length bs ≡ 2 → HoldsResult bs a.end.registers → Goal 2
      two_of [] e n h many paid stands = absurd (omega (arith, n))
      two_of (b ∷ []) e n h many paid stands = absurd (omega (arith, n))
      two_of (b ∷ d ∷ []) e n h many paid stands =
          let small0 = h.1 in
          let small1 = h.2 in
          let ax = h.0 in
          from 2 (word_bytes a.end.registers.ax) (word_of b d a.end.registers.ax h.0 h.1 h.2 ∙ e) paid
          (word_taken w.machine w.framed site.segment site.code site.at site.labels fits.placed x w.choice live.frame u.cells fits.suits result.at j a.end.registers.ax a.end refl (omega arith) a.here a.stands.active at_sp stands)
      two_of (b ∷ d ∷ f ∷ bs) e n h many paid stands = absurd (omega (arith, n))

      four_of : (bs : List ℕ) → bs ≡ bytes → length bs ≡ 4 → HoldsResult bs a.end.registers → Goal 4
      four_of [] e n h many paid stands = absurd (omega (arith, n))
      four_of (b ∷ []) e n h many paid stands = absurd (omega (arith, n))
      four_of (b ∷ d ∷ []) e n h many paid stands = absurd (omega (arith, n))
      four_of (b ∷ d ∷ f ∷ []) e n h many paid stands = absurd h
      four_of (b ∷ d ∷ f ∷ g ∷ []) e n h many paid stands =
          let ax = h.0 in
          let dx = h.1 in
          let s0 = h.2 in
          let s1 = h.3 in
          let s2 = h.4 in
          let s3 = h.5 in
          from 4 (word_bytes a.end.registers.ax ++ word_bytes a.end.registers.dx)
          (ap (λ l. l ++ word_bytes a.end.registers.dx) (word_of b d a.end.registers.ax h.0 h.2 h.3) ∙ ap (λ l. b ∷ d ∷ l) (word_of f g a.end.registers.dx h.1 h.4 h.5) ∙ e) paid
          (two_taken w.machine w.framed site.segment site.code site.at site.labels fits.placed x w.choice live.frame u.cells fits.suits result.at j a.end.registers.ax a.end.registers.dx a.end refl (omega arith) refl (omega arith) a.here a.stands.active at_sp stands)
      four_of (b ∷ d ∷ f ∷ g ∷ i ∷ bs) e n h many paid stands = absurd h

      by_one : 1 ≡ result.bytes → Flows w site live around (site.at (j + length (taken_by result.bytes x result.at))) s r (with_found (stored_at w.choice live.frame u.cells result.at bytes) u (set_cells u))
      by_one e = subst (λ n. Goal n) e (λ many. one_of bytes refl many holds many) same paid stands

      by_two : 2 ≡ result.bytes → Flows w site live around (site.at (j + length (taken_by result.bytes x result.at))) s r (with_found (stored_at w.choice live.frame u.cells result.at bytes) u (set_cells u))
      by_two e = subst (λ n. Goal n) e (λ many. two_of bytes refl many holds many) same paid stands

      by_four : 4 ≡ result.bytes → Flows w site live around (site.at (j + length (taken_by result.bytes x result.at))) s r (with_found (stored_at w.choice live.frame u.cells result.at bytes) u (set_cells u))
      by_four e = subst (λ n. Goal n) e (λ many. four_of bytes refl many holds many) same paid stands

  -- a result, where one is wanted
  pub gives_flows : (around : Around) (j : ℕ) (s : State) (r : ResidentState) (u : State) (result : Option FlatResult) (bytes : List ℕ) (a : Arrives w site live (site.at j) s r u) → HasResultSize result → HoldsResult bytes a.end.registers → 64 ≤ live.frame.sp → a.count + length (taken x result) + budget w s.work ≤ budget w u.work → Stands (IsSpelledAt site.code) site.at site.labels j (ones (taken x result)) → Flows w site live around (site.at (j + length (taken x result))) s r (give w.choice live.frame result bytes u)
  gives_flows around j s r u None bytes a sized holds room paid stands =
      let e : j ≡ j + 0 = omega arith in
      arrives_at w site live fits (site.at j) (site.at (j + 0)) s r u (ap site.at e) a
  gives_flows around j s r u (Some result) bytes a sized holds room paid stands = by (length bytes == result.bytes) refl
    where
      by : (fit : Bool) → (length bytes == result.bytes) ≡ fit → Flows w site live around (site.at (j + length (taken_by result.bytes x result.at))) s r (if fit then with_found (stored_at w.choice live.frame u.cells result.at bytes) u (set_cells u) else Over (Undefined 1) u)
      by true e = result_flows around j s r u result bytes a sized holds room paid (eqb-true (length bytes) result.bytes e) stands
      by false e = settles_on w site live fits (site.at j) (Undefined 1) s r u u a (settles_here w site live fits (Undefined 1) u.work u.turns u a.end tt (omega arith) a.stands)
