use Rattle.std.proofs.Common.{rules}
use mir.Syntax.{w32}
use mir.Val.{SFits}
use Rattle.std.proofs.lemmas.Int.{to_z-of_z}
use Rattle.interpreter_store.proofs.value_operators.conversions.converted.Goals as goal

pub returns-in-Ordinal-value-2 : goal.returns-in-Ordinal-value-2
returns-in-Ordinal-value-2 c =
    let fits : SFits w32 c.in-Ordinal-value-2.z = search rules in
    rw (c.in-Some.is, c.in-Str.is, c.in-Ordinal-value-2.is) (simp (to_z-of_z, fits) at (c.char_as_text.ensures c.in-Str.max))
