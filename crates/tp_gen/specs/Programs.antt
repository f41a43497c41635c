-- The program that uses the units, overlays them all and calls one of their functions three times.
use Rattle.std.specs.Prelude.{ℕ, ◌+◌, ◌*◌, List, [], ◌∷◌, codes, decimal}
use Rattle.std.specs.List.{concat, flat_map}
use Rattle.tp_gen.specs.Draws.{state_after, drawn}
use Rattle.tp_gen.specs.declared.units.DrawnUnit.{DrawnUnit}
use Rattle.tp_gen.specs.declared.program.DrawnCall.{DrawnCall}

-- the call, by the two draws behind a state
abbrev pub call_behind : ℕ → ℕ → DrawnCall
call_behind state units = record { function = 1 + drawn state 1 units; argument = 12 + drawn state 2 8 }

-- the call that is drawn behind all units
abbrev pub call_of : ℕ → ℕ → DrawnCall
call_of seed units = call_behind (state_after seed (5 * units)) units

-- a unit in the uses clause, behind Overlay
abbrev pub used_text : DrawnUnit → List ℕ
used_text unit = concat (codes ", G" ∷ decimal unit.number ∷ [])

-- the directive that overlays a unit
abbrev pub directive_text : DrawnUnit → List ℕ
directive_text unit = concat (codes "{$O G" ∷ decimal unit.number ∷ codes "}\n" ∷ [])

-- the source of the program
unfoldable pub program_text : List DrawnUnit → DrawnCall → List ℕ
program_text units call = concat (
    codes "{$F+} program Gen;\n"
    ∷ codes "uses Overlay" ∷ flat_map used_text units ∷ codes ";\n"
    ∷ flat_map directive_text units
    ∷ codes "var i: Integer;\n"
    ∷ codes "begin\n"
    ∷ codes "OvrInit('GEN.OVR');\n"
    ∷ codes "for i := 1 to 3 do WriteLn(i, ' ', F" ∷ decimal call.function ∷ codes "(" ∷ decimal call.argument ∷ codes "))\n"
    ∷ codes "end.\n"
    ∷ [])
