use Rattle.std.proofs.Common.{◌≡◌, ap, sym, ◌∙◌, subst}
use Rattle.std.specs.Str.{IsUtf8}
use Rattle.std.proofs.lemmas.Str.{IsUtf8-from_ascii}
use Rattle.source_graph.specs.Files.{source_file}
use Rattle.source_graph.proofs.NameLaws.{file_ascii}
use Rattle.source_graph.proofs.files.source_file.Goals as goal

pub unreachable-requires-in-Err : goal.unreachable-requires-in-Err
unreachable-requires-in-Err c =
    let ascii = file_ascii c.args.name.now c.as_bytes.ensures.name in
    let same : source_file c.args.name.now ≡ c.as_slice.result.now = ap source_file (sym c.as_bytes.ensures.value) ∙ sym c.source_file_bytes-bytes.ensures ∙ sym c.as_slice.ensures.value in
    c.in-Err.ensures.cases.0 (subst IsUtf8 same (IsUtf8-from_ascii _ ascii))
