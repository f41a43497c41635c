use Rattle.std.proofs.Common.{IsUtf8}
use Rattle.std.proofs.lemmas.Str.{IsUtf8-had}
use Rattle.type_layout.proofs.texts.FileName.as_str.Goals as goal

pub unreachable-requires : goal.unreachable-requires
unreachable-requires c =
    let text : IsUtf8 c.self.inside.bytes.items = IsUtf8-had _ c.self.invariant in
    absurd (c.in-Err.ensures.cases.0 (rw c.as_slice.ensures.value text))
