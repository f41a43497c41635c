use Rattle.std.proofs.Common.{ℕ, List, sym, subst, arith}
use Rattle.type_layout.specs.Words.{IsName}
use Rattle.object_file.proofs.file_parts.ValueLaws.{is_name-from_read}
use Rattle.object_file.proofs.file_parts.reading.name_of.Goals as goal

pub named-requires : goal.named-requires
named-requires c =
    subst (λ (text : List ℕ). IsName text) (sym c.as_slice.ensures.value)
    (is_name-from_read c.args.bytes.now c.in_ok-size.size c.in_ok-size.rest.now c.in_ok-text.text.items c.in_ok-text.rest.now (λ i. omega (arith, c.type_inv.bytes i)) c.in_ok-size.ensures.read c.in_ok-text.ensures)
