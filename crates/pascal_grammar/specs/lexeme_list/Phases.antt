-- Where in a source directives may stand.
use Rattle.std.specs.Prelude.{Bool, true, false, Option, Some, None}
use Rattle.pascal_grammar.specs.declared.kind.Kind.{Kind}
use Rattle.pascal_grammar.specs.declared.kind.Kind.TheVariants as k
use Rattle.pascal_grammar.specs.declared.lexeme_list.phase.Phase.{Phase}
use Rattle.pascal_grammar.specs.declared.lexeme_list.phase.Phase.TheVariants as p

abbrev pub first_phase : Option Kind → Phase
first_phase (Some k.Unit) = p.Unit
first_phase kind = p.Start

abbrev pub phase_after : Phase → Kind → Phase
phase_after p.Start k.Program = p.Heading
phase_after p.Start k.Uses = p.Uses
phase_after p.Start kind = p.Body
phase_after p.Heading k.Semicolon = p.BehindHeading
phase_after p.Heading kind = p.Heading
phase_after p.BehindHeading k.Uses = p.Uses
phase_after p.BehindHeading kind = p.Body
phase_after p.Uses k.Semicolon = p.BehindUses
phase_after p.Uses kind = p.Uses
phase_after p.BehindUses kind = p.Body
phase_after p.Body kind = p.Body
phase_after p.Unit kind = p.Unit

-- in a program, up to the first token of its declarations or of its main part; in a unit, anywhere
abbrev pub takes_memory : Phase → Bool
takes_memory p.Body = false
takes_memory phase = true

-- in a program, behind the uses clause up to the same token; in a unit, anywhere
abbrev pub takes_overlaid : Phase → Bool
takes_overlaid p.BehindUses = true
takes_overlaid p.Unit = true
takes_overlaid phase = false
